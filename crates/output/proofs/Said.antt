-- A whole model said by a solver, a literal a line: the reading ends closed, with rows that hold just what was said.
-- Assumes nothing.
use Rattle.std.specs.Prelude.{Ok}
use mathlib.Core.Path.{◌≡◌, refl, sym, ap, ◌∙◌}
use mathlib.Core.Logic.{⊎_elim}
use mathlib.Core.Bool.{Bool, true, false, cond}
use mathlib.Core.List.{List, [], ◌∷◌, ◌++◌, foldl, foldl-append}
use Prim.Native.Nat.{ℕ, zero, suc, ◌-◌, ◌/◌, ◌^◌, ◌≤◌, ◌<◌}
use native.Mathlib.Omega.{arith}
use borrow.Author.Tests.{lt-ltb, le-ltb, leb-true, eqb-true, eqb-false}
use lib.Dec.{leb, ltb, eqb}
use lib.ListN.{length, get_or}
use Rattle.rules.specs.Counting.{for_each, table}
use Rattle.rules.specs.Families.{Literal, plus, minus}
use Rattle.rules.specs.Rows.{Rows, word_bits, words_for, bit_of_variable, with_variable, store}
use Rattle.rules.specs.Lines.{rows_fit, says_satisfiable, Progress}
use Rattle.rules.specs.Output.{read_on, read_lines}
use Rattle.rules.specs.declared.Phase.{Phase}
use Rattle.rules.specs.declared.Phase.TheVariants.{NoStatus, ModelOpen, ModelClosed}
use Rattle.rules.specs.declared.Reading.{Reading}
use Rattle.rules.proofs.Bools.{either, and_left, and_right, below_or, below_suc}
use Rattle.rules.proofs.Bits.{word_there}
use Rattle.rules.proofs.Spoken.{literal_line, closing_line, variable_in, read_literal, read_status, read_closing}
use Rattle.rows.proofs.Bits.{length-with, bit_written, bit_kept}

-- literal i of an assignment, from variable 1 on
abbrev pub literal_in : List Bool → ℕ → Literal
literal_in bits i = cond (get_or bits i false) (plus (suc i)) (minus (suc i))

-- the lines that say an assignment
abbrev pub model_lines : List Bool → List (List ℕ)
model_lines bits = says_satisfiable ∷ (table (length bits) (λ i. literal_line (literal_in bits i)) ++ (closing_line ∷ []))

variable_is : (b : Bool) (v : ℕ) → variable_in (cond b (plus v) (minus v)) ≡ v
variable_is true v = refl
variable_is false v = refl

given_stored : (rows : Rows) (b : Bool) (v : ℕ) → (store rows (cond b (plus v) (minus v))).given ≡ with_variable rows.given v true
unfolding store
given_stored rows true v = refl
given_stored rows false v = refl

true_stored : (rows : Rows) (b : Bool) (v : ℕ) → (store rows (cond b (plus v) (minus v))).is_true ≡ with_variable rows.is_true v b
unfolding store
true_stored rows true v = refl
true_stored rows false v = refl

module _ (bits : List Bool) (rows : Rows) (fit : rows_fit (length bits) rows ≡ true) (small : length bits < 10 ^ suc 5)
    (fresh : (v : ℕ) → bit_of_variable rows.given v ≡ false) where
  -- the rows when the first i literals are stored
  unfoldable stored : ℕ → Rows
  stored zero = rows
  stored (suc i) = store (stored i) (literal_in bits i)

  given_length : (i : ℕ) → length (stored i).given ≡ length rows.given
  unfolding stored
  given_length zero = refl
  given_length (suc i) = ap length (given_stored (stored i) (get_or bits i false) (suc i)) ∙ length-with (stored i).given (suc i) true ∙ given_length i

  true_length : (i : ℕ) → length (stored i).is_true ≡ length rows.is_true
  unfolding stored
  true_length zero = refl
  true_length (suc i) =
      ap length (true_stored (stored i) (get_or bits i false) (suc i)) ∙ length-with (stored i).is_true (suc i) (get_or bits i false) ∙ true_length i

  stored_fit : (i : ℕ) → rows_fit (length bits) (stored i) ≡ true
  unfolding rows_fit
  stored_fit i = rw (given_length i, true_length i) fit

  given_room : (i : ℕ) → i < length bits → (suc i - 1) / word_bits < length (stored i).given
  unfolding rows_fit
  given_room i h =
      omega (
        arith,
        given_length i,
        word_there (length bits) i h,
        leb-true (words_for (length bits)) (length rows.given) (and_left (leb (words_for (length bits)) (length rows.given)) _ fit),
      )

  true_room : (i : ℕ) → i < length bits → (suc i - 1) / word_bits < length (stored i).is_true
  unfolding rows_fit
  true_room i h =
      omega (
        arith,
        true_length i,
        word_there (length bits) i h,
        leb-true (words_for (length bits)) (length rows.is_true) (and_right (leb (words_for (length bits)) (length rows.given)) _ fit),
      )

  -- the variables that were said are given, and those are true that were said so
  given_after : (i j : ℕ) → i ≤ length bits → bit_of_variable (stored i).given (suc j) ≡ ltb j i
  unfolding stored
  given_after zero j l = fresh (suc j) ∙ sym (le-ltb j 0 (omega arith))
  given_after (suc i) j l =
      ap (λ r. bit_of_variable r (suc j)) (given_stored (stored i) (get_or bits i false) (suc i))
      ∙ ⊎_elim
      (λ t.
      let e : j ≡ i = eqb-true j i t in
      ap (λ u. bit_of_variable (with_variable (stored i).given (suc i) true) (suc u)) e
      ∙ bit_written (stored i).given (suc i) true (given_room i (omega arith))
      ∙ sym (lt-ltb j (suc i) (omega arith)))
      (λ t.
      let ne = eqb-false j i t in
      bit_kept (stored i).given (suc j) (suc i) true (λ e. ne (omega arith))
      ∙ given_after i j (omega arith)
      ∙ ⊎_elim (λ b. lt-ltb j i b ∙ sym (lt-ltb j (suc i) (omega arith)))
      (λ b. le-ltb j i b ∙ sym (le-ltb j (suc i) (above b ne)))
      (below_or j i))
      (either (eqb j i))
    where
      above : i ≤ j → (j ≡ i → ⊥) → suc i ≤ j
      above b ne = ⊎_elim (λ q. q) (λ q. absurd (ne (omega arith))) (below_or i j)

  true_after : (i j : ℕ) → j < i → i ≤ length bits → bit_of_variable (stored i).is_true (suc j) ≡ get_or bits j false
  unfolding stored
  true_after zero j h l = absurd (omega arith)
  true_after (suc i) j h l =
      ap (λ r. bit_of_variable r (suc j)) (true_stored (stored i) (get_or bits i false) (suc i))
      ∙ ⊎_elim
      (λ b.
      bit_kept (stored i).is_true (suc j) (suc i) (get_or bits i false) (λ e. omega arith)
      ∙ true_after i j b (omega arith))
      (λ e.
      ap (λ u. bit_of_variable (with_variable (stored i).is_true (suc i) (get_or bits i false)) (suc u)) e
      ∙ bit_written (stored i).is_true (suc i) (get_or bits i false) (true_room i (omega arith))
      ∙ ap (λ u. get_or bits u false) (sym e))
      (below_suc j i h)

  -- ---- the reading

  abbrev reading : Phase → Reading
  reading phase = record { highest = length bits; phase = phase }

  abbrev after : Phase → Rows → Progress
  after phase held = record { answer = Ok (reading phase); rows = held }

  abbrev step : Progress → List ℕ → Progress
  step p line = read_on p.answer p.rows line

  literals_read : (i : ℕ) → i ≤ length bits
      → foldl step (after ModelOpen rows) (table i (λ j. literal_line (literal_in bits j))) ≡ after ModelOpen (stored i)
  unfolding for_each stored
  literals_read zero l = refl
  literals_read (suc i) l =
      let v = variable_is (get_or bits i false) (suc i) in
      foldl-append step (after ModelOpen rows) (table i (λ j. literal_line (literal_in bits j))) (literal_line (literal_in bits i) ∷ [])
      ∙ ap (λ p. step p (literal_line (literal_in bits i))) (literals_read i (omega arith))
      ∙ read_literal (length bits) (stored i) (literal_in bits i) (omega arith) (omega arith) (omega arith)
      (ap (bit_of_variable (stored i).given) v ∙ given_after i i (omega arith) ∙ le-ltb i i (omega arith)) (stored_fit i)

  pub held : Rows
  held = stored (length bits)

  pub model_read : read_lines (reading NoStatus) rows (model_lines bits) ≡ after ModelClosed held
  unfolding read_lines held
  model_read =
      ap (λ p. foldl step p (table (length bits) (λ i. literal_line (literal_in bits i)) ++ (closing_line ∷ []))) (read_status (length bits) rows fit)
      ∙ foldl-append step (after ModelOpen rows) (table (length bits) (λ i. literal_line (literal_in bits i))) (closing_line ∷ [])
      ∙ ap (λ p. step p closing_line) (literals_read (length bits) (omega arith))
      ∙ read_closing (length bits) (stored (length bits)) (stored_fit (length bits))

  pub all_given : (j : ℕ) → j < length bits → bit_of_variable held.given (suc j) ≡ true
  unfolding held
  all_given j h = given_after (length bits) j (omega arith) ∙ lt-ltb j (length bits) h

  pub as_said : (j : ℕ) → j < length bits → bit_of_variable held.is_true (suc j) ≡ get_or bits j false
  unfolding held
  as_said j h = true_after (length bits) j h (omega arith)
