-- The ways out of the calls on files and formulas.
-- Assumes nothing.
use Rattle.std.specs.Prelude.{Ok, Err}
use mathlib.Core.Path.{◌≡◌, refl, sym, ap, ◌∙◌}
use mathlib.Core.Bool.{true, false}
use mathlib.Core.List.{List}
use Prim.Native.Nat.{ℕ, zero, suc, ◌-◌, ◌≤◌, ◌<◌}
use native.Mathlib.Omega.{arith}
use borrow.Author.Tests.{lt-ltb, le-ltb}
use lib.Dec.{ltb}
use lib.ListN.{length}
use denote.Ref.{Bor}
use Rattle.rules.specs.Limits.{contents_rows, contents_bytes}
use Rattle.rules.specs.Answers.{answer, answer_of, answer_to, Verdict}
use Rattle.rules.specs.File.{body_start, contents_verdict}
use Rattle.rules.specs.Numbering.{N}
use Rattle.rules.specs.Families.{C, clause}
use Rattle.rules.specs.Calls.{problem_of, problem_verdict, clause_verdict}
use Rattle.rules.specs.declared.Refusal.{Refusal}
use Rattle.reader.specs.Stretches.{Stretch, start_asked}
use Rattle.reader.proofs.ReadContents.{contents_there}
use Rattle.formula.specs.declared.calls.FormulaCounts.{FormulaCounts}
use Rattle.formula.specs.Said.{counts_by, counts_answer, literals_by, literals_answer, CountsAnswer, LiteralsAnswer}
use Rattle.formula.proofs.Answered.{variables_in, clauses_in}
use Rattle.host.specs.Cells.{counted}
use Rattle.host.proofs.Crossing.{told_accepted, told_refused}

-- ---- where a body starts, and how long it is

module _ (file : List ℕ) (v : Verdict) (e : v ≡ contents_verdict file) where
  pub start_refused : (b : ℕ) (why : Refusal) → v ≡ Err why → 0 ≡ start_asked file b
  unfolding start_asked
  start_refused b why f = let g : contents_verdict file ≡ Err why = sym e ∙ f in rw g

  module _ (f : v ≡ Ok tt) where
    accepted : contents_verdict file ≡ Ok tt
    accepted = sym e ∙ f

    pub start_zero : (b : ℕ) → b ≡ 0 → 0 ≡ start_asked file b
    unfolding start_asked
    start_zero b z = rw (accepted, z)

    pub start_above : (b : ℕ) → contents_rows < b → 0 ≡ start_asked file b
    unfolding start_asked
    start_above zero z = absurd (omega arith)
    start_above (suc r) z = let l : ltb r contents_rows ≡ false = omega (arith, le-ltb) in rw (accepted, l)

    pub row_there : contents_bytes ≤ length file
    row_there = contents_there file accepted

    pub start_there : (b a : ℕ) → (b ≡ 0 → ⊥) → b ≤ contents_rows → a ≡ body_start file (b - 1) → a ≡ start_asked file b
    unfolding start_asked
    start_there zero a z g s = absurd (z refl)
    start_there (suc r) a z g s =
        let l : ltb r contents_rows ≡ true = omega (arith, lt-ltb) in
        let p : suc r - 1 ≡ r = omega arith in
        rw (accepted, l) (rw p at s)

pub size_is : (whole part : Bor (List ℕ)) (at : ℕ) (bytes : List ℕ) → Stretch whole part at bytes → length part.now ≡ length bytes
size_is whole part at bytes s = ap length s.holds

-- ---- counts

counted_all : (v : Verdict) → v ≡ Ok tt → (m : ℕ) → m ≡ counted v m
unfolding counted
counted_all v e m = rw e

counted_none : (v : Verdict) (why : Refusal) → v ≡ Err why → (m : ℕ) → 0 ≡ counted v m
unfolding counted
counted_none v why e m = rw e

-- ---- N and C

module _ (file : List ℕ) (k : ℕ) (a : CountsAnswer) (e : a ≡ counts_answer file k) where
  module _ (found : FormulaCounts) (f : a ≡ Ok found) where
    by_verdict : (v : Verdict) → counts_by v (problem_of file k) ≡ Ok found → (v ≡ Ok tt) × (found.variables ≡ N (problem_of file k)) × (found.clauses ≡ C (problem_of file k))
    by_verdict (Ok _) g = (refl, ap variables_in (sym g), ap clauses_in (sym g))
    by_verdict (Err w) g = let z : ◌≡◌ {A = ℕ} 0 1 = cc in absurd (omega arith)

    counts_found : (problem_verdict file k ≡ Ok tt) × (found.variables ≡ N (problem_of file k)) × (found.clauses ≡ C (problem_of file k))
    unfolding counts_answer
    counts_found = by_verdict (problem_verdict file k) (sym e ∙ f)

    pub counts_told : (number detail : ℕ) → answer number detail ≡ answer 0 0 → answer number detail ≡ answer_to (problem_verdict file k)
    counts_told number detail t = told_accepted number detail _ counts_found.0 t

    pub variables_counted : found.variables ≡ counted (problem_verdict file k) (N (problem_of file k))
    variables_counted = counts_found.1 ∙ counted_all _ counts_found.0 _

    pub clauses_counted : found.clauses ≡ counted (problem_verdict file k) (C (problem_of file k))
    clauses_counted = counts_found.2 ∙ counted_all _ counts_found.0 _

  module _ (why : Refusal) (f : a ≡ Err why) where
    by_refusal : (v : Verdict) → counts_by v (problem_of file k) ≡ Err why → v ≡ Err why
    by_refusal (Ok _) g = let z : ◌≡◌ {A = ℕ} 0 1 = cc in absurd (omega arith)
    by_refusal (Err w) g = let same : w ≡ why = cc in rw same

    none_found : problem_verdict file k ≡ Err why
    unfolding counts_answer
    none_found = by_refusal (problem_verdict file k) (sym e ∙ f)

    pub counts_refused : (number detail : ℕ) → answer number detail ≡ answer_of why → answer number detail ≡ answer_to (problem_verdict file k)
    counts_refused number detail t = told_refused number detail _ why none_found t

    pub none_counted : (m : ℕ) → 0 ≡ counted (problem_verdict file k) m
    none_counted m = counted_none _ why none_found m

-- ---- literals

module _ (file : List ℕ) (k c room : ℕ) (a : LiteralsAnswer) (e : a ≡ literals_answer file k c room) where
  module _ (n : ℕ) (f : a ≡ Ok n) where
    literals_by_lem : (v : Verdict) (m : ℕ) → literals_by v m ≡ Ok n → (v ≡ Ok tt) × (n ≡ m)
    literals_by_lem (Ok _) m g = (refl, cc)
    literals_by_lem (Err w) m g = let z : ◌≡◌ {A = ℕ} 0 1 = cc in absurd (omega arith)

    written : (clause_verdict file k c room ≡ Ok tt) × (n ≡ length (clause (problem_of file k) c))
    unfolding literals_answer
    written = literals_by_lem (clause_verdict file k c room) _ (sym e ∙ f)

    pub literals_told : (number detail : ℕ) → answer number detail ≡ answer 0 0 → answer number detail ≡ answer_to (clause_verdict file k c room)
    literals_told number detail t = told_accepted number detail _ written.0 t

    pub literals_counted : n ≡ counted (clause_verdict file k c room) (length (clause (problem_of file k) c))
    literals_counted = written.1 ∙ counted_all _ written.0 _

  module _ (why : Refusal) (f : a ≡ Err why) where
    no_literals_by : (v : Verdict) (m : ℕ) → literals_by v m ≡ Err why → v ≡ Err why
    no_literals_by (Ok _) m g = let z : ◌≡◌ {A = ℕ} 0 1 = cc in absurd (omega arith)
    no_literals_by (Err w) m g = let same : w ≡ why = cc in rw same

    none_written : clause_verdict file k c room ≡ Err why
    unfolding literals_answer
    none_written = no_literals_by (clause_verdict file k c room) _ (sym e ∙ f)

    pub literals_refused : (number detail : ℕ) → answer number detail ≡ answer_of why → answer number detail ≡ answer_to (clause_verdict file k c room)
    literals_refused number detail t = told_refused number detail _ why none_written t

    pub no_literals_counted : (m : ℕ) → 0 ≡ counted (clause_verdict file k c room) m
    no_literals_counted m = counted_none _ why none_written m
