-- The start of a reading: what the counts of the formula decide, and what the rows decide.
-- Assumes nothing.
use Rattle.std.specs.Prelude.{Ok, Err}
use mathlib.Core.Path.{◌≡◌, refl, sym, ap, ◌∙◌}
use mathlib.Core.Logic.{⊎_elim}
use mathlib.Core.Bool.{false}
use mathlib.Core.List.{List, [], ◌∷◌}
use Prim.Native.Nat.{ℕ}
use native.Mathlib.Omega.{arith}
use Rattle.rules.specs.Answers.{demand, judge, in_turn, Verdict, LineAnswer}
use Rattle.rules.specs.Numbering.{N}
use Rattle.rules.specs.Rows.{Rows}
use Rattle.rules.specs.Lines.{rows_fit, Progress}
use Rattle.rules.specs.Calls.{problem_of, problem_rules, problem_verdict, start_verdict, started_by, start_reading}
use Rattle.rules.specs.declared.Refusal.{Refusal}
use Rattle.rules.specs.declared.Refusal.TheVariants.{Room}
use Rattle.rules.proofs.Bools.{either}
use Rattle.rules.proofs.Judging.{judge_append, judge_cons, judge_nil, judge_refused}
use Rattle.formula.specs.declared.calls.FormulaCounts.{FormulaCounts}
use Rattle.formula.specs.Said.{counts_by, counts_answer, CountsAnswer}
use Rattle.formula.proofs.Answered.{variables_in}
use Rattle.output.specs.Line.{lent, leaves, started}
use Rattle.output.proofs.LineLaws.{start_is}

module _ (file : List ℕ) (k : ℕ) (rows : Rows) where
  verdicts : start_verdict file k rows ≡ in_turn (problem_verdict file k) (judge (demand (rows_fit (N (problem_of file k)) rows) Room ∷ []))
  unfolding start_verdict problem_verdict
  verdicts = judge_append (problem_rules file k) _

  refused_by : (v : Verdict) → problem_verdict file k ≡ v → (why : Refusal) → counts_by v (problem_of file k) ≡ Err why
      → ◌≡◌ {A = Progress} (record { answer = Err why; rows = rows }) (start_reading file k rows)
  unfolding start_reading
  refused_by (Ok _) e why f = let z : ◌≡◌ {A = ℕ} 0 1 = cc in absurd (omega arith)
  refused_by (Err w) e why f =
      let same : why ≡ w = cc in
      let verdict : start_verdict file k rows ≡ Err w = verdicts ∙ ap (λ v. in_turn v (judge (demand (rows_fit (N (problem_of file k)) rows) Room ∷ []))) e in
      rw (verdict, same)

  short : rows_fit (N (problem_of file k)) rows ≡ false → ◌≡◌ {A = Progress} (started (N (problem_of file k)) rows) (record { answer = Err Room; rows = rows })
  unfolding started
  short t = rw t

  found_by : (v : Verdict) → problem_verdict file k ≡ v → (found : FormulaCounts) → counts_by v (problem_of file k) ≡ Ok found
      → started found.variables rows ≡ start_reading file k rows
  unfolding start_reading
  found_by (Err w) e found f = let z : ◌≡◌ {A = ℕ} 0 1 = cc in absurd (omega arith)
  found_by (Ok _) e found f =
      let same : N (problem_of file k) ≡ found.variables = ap variables_in f in
      let verdict : start_verdict file k rows ≡ judge (demand (rows_fit (N (problem_of file k)) rows) Room ∷ []) =
      verdicts ∙ ap (λ v. in_turn v (judge (demand (rows_fit (N (problem_of file k)) rows) Room ∷ []))) e in
      ap (λ h. started h rows) (sym same)
      ∙ ⊎_elim
      (λ t. start_is (problem_of file k) rows t ∙ ap (λ v. started_by v (problem_of file k) rows) (sym (verdict ∙ judge_cons _ _ t judge_nil)))
      (λ t. short t ∙ ap (λ v. started_by v (problem_of file k) rows) (sym (verdict ∙ judge_refused (demand (rows_fit (N (problem_of file k)) rows) Room) [] t)))
      (either (rows_fit (N (problem_of file k)) rows))

pub begun_refused : (file : List ℕ) (k : ℕ) (g t : List ℕ) (a : CountsAnswer) (why : Refusal) → a ≡ counts_answer file k → a ≡ Err why
    → leaves (Err why) g t ≡ start_reading file k (lent g t)
unfolding counts_answer
begun_refused file k g t a why e f = refused_by file k (lent g t) (problem_verdict file k) refl why (sym e ∙ f)

pub begun_found : (file : List ℕ) (k : ℕ) (g t g' t' : List ℕ) (r : LineAnswer) (a : CountsAnswer) (found : FormulaCounts) → a ≡ counts_answer file k → a ≡ Ok found
    → leaves r g' t' ≡ started found.variables (lent g t) → leaves r g' t' ≡ start_reading file k (lent g t)
unfolding counts_answer
begun_found file k g t g' t' r a found e f p = p ∙ found_by file k (lent g t) (problem_verdict file k) refl found (sym e ∙ f)
