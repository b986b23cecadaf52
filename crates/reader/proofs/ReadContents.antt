-- The ways out of the functions on the table of contents.
-- Assumes nothing.
use Rattle.std.specs.Prelude.{Ok, Err}
use mathlib.Core.Path.{◌≡◌, refl, sym, ap, ◌∙◌}
use mathlib.Core.Bool.{Bool, true, false, not}
use mathlib.Core.List.{List, [], ◌∷◌}
use Prim.Native.Nat.{ℕ, zero, suc, ◌+◌, ◌-◌, ◌≤◌, ◌<◌}
use native.Mathlib.Omega.{arith}
use native.Mathlib.Numerals.{add-one}
use borrow.Author.Tests.{eq-eqb, ne_eqb, le-leb, lt-leb, lt-ltb, le-ltb}
use lib.Dec.{eqb, ltb}
use lib.ListN.{length, take, drop}
use denote.Ref.{Bor}
use Rattle.rules.specs.Counting.{first}
use Rattle.rules.specs.Limits.{max_file, contents_rows, contents_bytes}
use Rattle.rules.specs.Answers.{none_at_fault, judge, Verdict}
use Rattle.rules.specs.File.{due_start, body_start, body_length, body, row_at_fault, contents_rules, contents_verdict, body_asked}
use Rattle.rules.specs.declared.Refusal.{Refusal}
use Rattle.rules.specs.declared.Refusal.TheVariants.{FileLength, ContentsRow}
use Rattle.rules.proofs.Judging.{judge_refused, judge_passed, judge_nil}
use Rattle.rules.proofs.Contents.{accepted_contents, body_within}
use Rattle.rules.proofs.Loops.{found_at, judge_found, judge_none}
use Rattle.reader.specs.Stretches.{Stretch, start_asked}

-- ---- a row; a is where it starts, b where it has to, e where the next would have to

module _ (file : List ℕ) (row a b : ℕ) (is-start : a ≡ body_start file row) (is-due : b ≡ due_start file row) where
  pub row_wrong_start : (a ≡ b → ⊥) → true ≡ row_at_fault file row
  unfolding row_at_fault
  row_wrong_start h = rw (← is-start, ← is-due, ne_eqb a b h)

  pub row_early : a ≡ b → row + 1 < contents_rows → false ≡ row_at_fault file row
  unfolding row_at_fault
  row_early h l = let s : suc row ≡ contents_rows → ⊥ = λ k. omega arith in rw (← is-start, ← is-due, eq-eqb a b h, ne_eqb _ _ s)

  pub row_last : (e : ℕ) → a ≡ b → row < contents_rows → contents_rows ≤ row + 1 → e ≡ due_start file (row + 1)
      → not (eqb e (length file)) ≡ row_at_fault file row
  unfolding row_at_fault
  row_last e h l g d =
      let s : suc row ≡ contents_rows = omega arith in
      rw (eq-eqb (body_start file row) (due_start file row) (sym is-start ∙ h ∙ is-due), eq-eqb _ _ s)
      (ap (λ k. not (eqb k (length file))) (d ∙ ap (due_start file) (add-one row)))

-- ---- the verdict

module _ (file : List ℕ) where
  pub file_short : length file < contents_bytes → Err FileLength ≡ contents_verdict file
  unfolding contents_verdict contents_rules
  file_short h = sym (judge_refused _ _ (rw (lt-leb _ _ h)))

  pub file_long : contents_bytes ≤ length file → max_file < length file → Err FileLength ≡ contents_verdict file
  unfolding contents_verdict contents_rules
  file_long h l = sym (judge_refused _ _ (rw (le-leb _ _ h, lt-leb _ _ l)))

  module _ (h : contents_bytes ≤ length file) (l : length file ≤ max_file) where
    length-passed : contents_verdict file ≡ judge (none_at_fault contents_rows (row_at_fault file) ContentsRow ∷ [])
    unfolding contents_verdict contents_rules
    length-passed = judge_passed _ _ (rw (le-leb _ _ h, le-leb _ _ l))

    pub row_refused : (row : ℕ) (b : Bool) → first row (row_at_fault file) ≡ row → row < contents_rows → b ≡ row_at_fault file row → b ≡ true
        → Err (ContentsRow row) ≡ contents_verdict file
    row_refused row b n i e t = sym (length-passed ∙ judge_found _ _ ContentsRow [] row i (found_at _ _ row b n i e t))

    pub rows_accepted : (row : ℕ) → first row (row_at_fault file) ≡ row → row ≤ contents_rows → contents_rows ≤ row → Ok tt ≡ contents_verdict file
    rows_accepted row n i g =
        let e : row ≡ contents_rows = omega arith in
        sym (length-passed ∙ judge_none _ _ ContentsRow [] (rw e at n) ∙ judge_nil)

-- ---- bodies; a is where a row's body starts, b how long it is

pub contents_fine : (file : List ℕ) (v : Verdict) → v ≡ contents_verdict file → v ≡ Ok tt → contents_verdict file ≡ Ok tt
contents_fine file v e f = sym e ∙ f

pub contents_there : (file : List ℕ) → contents_verdict file ≡ Ok tt → contents_bytes ≤ length file
contents_there file h = (accepted_contents file h).long_enough

pub body_there : (file : List ℕ) (row a b : ℕ) → contents_verdict file ≡ Ok tt → row < contents_rows
    → a ≡ body_start file row → b ≡ body_length file row → a + b ≤ length file
body_there file row a b h l ea eb = rw (ea, eb) (body_within file (accepted_contents file h) row l)

pub body_is : (file : List ℕ) (row a b : ℕ) → a ≡ body_start file row → b ≡ body_length file row → take (a + b - a) (drop a file) ≡ body file row
unfolding body
body_is file row a b ea eb = let e : a + b - a ≡ b = omega arith in rw (e, ea, eb)

-- ---- the body asked for

abbrev pub IsAsked : (whole part : Bor (List ℕ)) → ℕ → Type 0
IsAsked whole part b = Stretch whole part (start_asked whole.now b) (body_asked whole.now b)

module _ (whole part : Bor (List ℕ)) (v : Verdict) (e : v ≡ contents_verdict whole.now) where
  pub none_refused : (b : ℕ) (why : Refusal) → v ≡ Err why → Stretch whole part 0 [] → IsAsked whole part b
  unfolding body_asked start_asked
  none_refused b why f s = let g : contents_verdict whole.now ≡ Err why = sym e ∙ f in rw g s

  module _ (f : v ≡ Ok tt) where
    accepted : contents_verdict whole.now ≡ Ok tt
    accepted = contents_fine whole.now v e f

    pub none_zero : (b : ℕ) → b ≡ 0 → Stretch whole part 0 [] → IsAsked whole part b
    unfolding body_asked start_asked
    none_zero b z s = rw (accepted, z) s

    pub none_above : (b : ℕ) → contents_rows < b → Stretch whole part 0 [] → IsAsked whole part b
    unfolding body_asked start_asked
    none_above zero z s = absurd (omega arith)
    none_above (suc r) z s = let l : ltb r contents_rows ≡ false = omega (arith, le-ltb) in rw (accepted, l) s

    pub one_asked : (b : ℕ) → (b ≡ 0 → ⊥) → b ≤ contents_rows
        → Stretch whole part (body_start whole.now (b - 1)) (body whole.now (b - 1)) → IsAsked whole part b
    unfolding body_asked start_asked
    one_asked zero z g s = absurd (z refl)
    one_asked (suc r) z g s =
        let l : ltb r contents_rows ≡ true = omega (arith, lt-ltb) in
        let p : suc r - 1 ≡ r = omega arith in
        rw (accepted, l) (rw p at s)
