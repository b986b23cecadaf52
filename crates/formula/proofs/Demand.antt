-- Demand 2, first sentence, of literals: over all c below C, what `literals` writes is the formula, in order, and `counts` gives its N and C.
-- Assumes nothing.
use Rattle.std.specs.Prelude.{Ok, Err}
use mathlib.Core.Path.{◌≡◌, sym, ap, ◌∙◌}
use mathlib.Core.List.{List, [], ◌∷◌, ◌++◌, map}
use Prim.Native.Nat.{ℕ, ◌≤◌, ◌<◌}
use lib.IntN.{ℤ}
use lib.ListN.{length, get_or, take, drop, length-map, get_or-map}
use lib.Seq.{take-append_seam}
use Rattle.rules.specs.Counting.{table}
use Rattle.rules.specs.Numbering.{N}
use Rattle.rules.specs.Families.{signed, formula, C, clause}
use Rattle.rules.specs.Calls.{problem_of, lent_after, problem_verdict, clause_signed, clause_verdict}
use Rattle.rules.proofs.Counting.{for_each-ext, table_get_or}
use Rattle.formula.specs.Said.{counts_answer, literals_answer, found, LiteralsAnswer}
use Rattle.formula.proofs.Answered.{accepts}

-- the words that an answer says were written
abbrev pub words_of : LiteralsAnswer → List ℤ → List ℤ
words_of (Ok count) left = take count left
words_of (Err why) left = []

-- what `literals` promises of its answer and of the lent memory that it leaves, word for word from its contract
abbrev pub Promised : (file : List ℕ) (k c : ℕ) (lent : List ℤ) → LiteralsAnswer → (left : List ℤ) → Type 0
Promised file k c lent r left =
    (r ≡ literals_answer file k c (length lent)) × (left ≡ lent_after (clause_verdict file k c (length lent)) (clause_signed file k c) lent)

module _ (file : List ℕ) (k : ℕ) (ok : problem_verdict file k ≡ Ok tt) where
  -- with room for the clause, call c gives clause c
  pub each_clause : (c : ℕ) (lent left : List ℤ) (r : LiteralsAnswer) → c < C (problem_of file k) → length (clause (problem_of file k) c) ≤ length lent
      → Promised file k c lent r left → words_of r left ≡ map signed (clause (problem_of file k) c)
  unfolding literals_answer clause_signed problem_of
  each_clause c lent left r h room p =
      let fine : clause_verdict file k c (length lent) ≡ Ok tt = accepts file k c (length lent) ok h room in
      let words : List ℤ = map signed (clause (problem_of file k) c) in
      rw (p.0, p.1, fine)
      (ap (λ m. take m (words ++ drop (length words) lent)) (sym (length-map (clause (problem_of file k) c) signed))
      ∙ take-append_seam words (drop (length words) lent))

  -- one call after the other gives the formula, in order
  pub the_formula : (lent left : ℕ → List ℤ) (r : ℕ → LiteralsAnswer)
      → ((c : ℕ) → c < C (problem_of file k) → length (clause (problem_of file k) c) ≤ length (lent c))
      → ((c : ℕ) → c < C (problem_of file k) → Promised file k c (lent c) (r c) (left c))
      → table (C (problem_of file k)) (λ c. words_of (r c) (left c)) ≡ map (map signed) (formula (problem_of file k))
  unfolding C clause
  the_formula lent left r room p =
      let all : List (List ℤ) = map (map signed) (formula (problem_of file k)) in
      for_each-ext (C (problem_of file k)) _ (λ c. get_or all c [] ∷ []) (λ c h.
      ap (λ words. words ∷ []) (each_clause c (lent c) (left c) (r c) h (room c h) (p c h) ∙ sym (get_or-map (map signed) (formula (problem_of file k)) c [])))
      ∙ ap (λ m. table m (λ c. get_or all c [])) (sym (length-map (formula (problem_of file k)) (map signed)))
      ∙ table_get_or all []

  -- with its true counts
  pub the_counts : counts_answer file k ≡ found (N (problem_of file k)) (C (problem_of file k))
  unfolding counts_answer
  the_counts = rw ok
