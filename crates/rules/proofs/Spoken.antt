-- Numbers that a solver says in decimal are read as what they say: the text of a literal is a number of the grammar and names that literal.
-- Assumes nothing.
use Rattle.std.specs.Prelude.{Ok}
use Prim.Native.Char.{code}
use mathlib.Core.Path.{◌≡◌, refl, ap, ◌∙◌}
use mathlib.Core.Logic.{⊎_elim}
use mathlib.Core.Bool.{Bool, true, false, not, ◌||◌}
use mathlib.Core.List.{List, [], ◌∷◌, ◌++◌}
use Prim.Native.Nat.{ℕ, zero, suc, ◌+◌, ◌-◌, ◌*◌, ◌/◌, ◌%◌, ◌^◌, ◌≤◌, ◌<◌}
use native.Mathlib.Omega.{arith}
use borrow.Author.Tests.{lt-ltb, le-leb, eq-eqb, ne_eqb}
use lib.Dec.{eqb, lit<, leb-zero}
use lib.ListN.{length}
use Rattle.rules.specs.Counting.{first, every, any}
use Rattle.rules.specs.Limits.{max_digits, max_line}
use Rattle.rules.specs.File.{byte}
use Rattle.rules.specs.Families.{Literal, plus, minus}
use Rattle.rules.specs.Answers.{judge, LineAnswer}
use Rattle.rules.specs.Rows.{Rows, bit_of_variable, store, store_all}
use Rattle.rules.specs.declared.Phase.TheVariants.{NoStatus, ModelOpen, ModelClosed}
use Rattle.rules.specs.Text.{ascii, space, digit0, dash, decimal, literal_text}
use Rattle.rules.specs.Lines.{pieces, is_digit, reach, is_number, value_from, variable_of, literal_of, Scan, word_rules, scan_word, scan_piece, scan_pieces, scan_start, scan_line, agree, same, says_satisfiable, says_unsatisfiable, says_unknown, is_status, phase_said, kind_of, kind_verdict, line_verdict, phase_after, named, rows_fit, read_line}
use Rattle.rules.proofs.Bools.{and_left, and_right, and_both, or_right, not_true, below_or}
use Rattle.rules.proofs.Judging.{judge_cons, judge_nil}
use Rattle.rules.proofs.Counting.{every_get_or, first_none}
use Rattle.rules.proofs.Decimal.{decimal_one, decimal_more, decimal_some, decimal_few, decimal_every}

-- ---- the digits of a number

digit_is : (j : ℕ) → j < 10 → is_digit (digit0 + j) ≡ true
digit_is j h = and_both _ _ (le-leb digit0 (digit0 + j) (omega arith)) (le-leb (digit0 + j) (digit0 + 9) (omega arith))

pub all_digits : (m : ℕ) → every is_digit (decimal m) ≡ true
all_digits m = decimal_every is_digit digit_is m

-- one more digit at the end
value_more : (a : ℕ) (s : List ℕ) (b : ℕ) → value_from a (s ++ (b ∷ [])) ≡ 10 * value_from a s + (b - digit0)
unfolding value_from
value_more a [] b = refl
value_more a (x ∷ s) b = value_more (10 * a + (x - digit0)) s b

value_up_to : (most m : ℕ) → m < most → value_from 0 (decimal m) ≡ m
unfolding value_from
value_up_to zero m h = absurd (omega arith)
value_up_to (suc most) m h =
    ⊎_elim (λ s. ap (value_from 0) (decimal_one m s) ∙ omega arith)
    (λ g.
    ap (value_from 0) (decimal_more m g)
    ∙ value_more 0 (decimal (m / 10)) (digit0 + m % 10)
    ∙ omega (arith, value_up_to most (m / 10) (omega arith)))
    (below_or m 10)

pub value_back : (m : ℕ) → value_from 0 (decimal m) ≡ m
value_back m = value_up_to (suc m) m (omega arith)

-- the first byte of what stands before another text
byte_front : (s t : List ℕ) → 1 ≤ length s → byte (s ++ t) 0 ≡ byte s 0
byte_front [] t h = absurd (omega arith)
byte_front (b ∷ s) t h = refl

pub leading : (most m : ℕ) → m < most → 1 ≤ m → digit0 < byte (decimal m) 0
leading zero m h l = absurd (omega arith)
leading (suc most) m h l =
    ⊎_elim (λ s. rw (decimal_one m s) (omega arith))
    (λ g. rw (decimal_more m g) (rw (byte_front (decimal (m / 10)) ((digit0 + m % 10) ∷ []) (decimal_some (m / 10))) (leading most (m / 10) (omega arith) (omega arith))))
    (below_or m 10)

-- ---- a literal's text is a number

module _ (v : ℕ) (some : 1 ≤ v) (small : v < 10 ^ suc 5) where
  few : length (decimal v) ≤ max_digits
  few = decimal_few 5 v small

  run_whole : first (length (decimal v)) (λ i. not (is_digit (byte (decimal v) i))) ≡ length (decimal v)
  run_whole = first_none (length (decimal v)) _ (λ i l. ap not (every_get_or is_digit (decimal v) 0 (all_digits v) i l))

  no_dash : eqb (byte (decimal v) 0) dash ≡ false
  no_dash = ne_eqb (byte (decimal v) 0) dash (λ e. omega (arith, leading (suc v) v (omega arith) some))

  no_zero : eqb (byte (decimal v) 0) digit0 ≡ false
  no_zero = ne_eqb (byte (decimal v) 0) digit0 (λ e. omega (arith, leading (suc v) v (omega arith) some))

  reach_plus : reach (decimal v) ≡ length (decimal v)
  unfolding reach
  reach_plus = rw (no_dash, no_zero, run_whole) (omega (arith, few))

  reach_minus : reach (dash ∷ decimal v) ≡ suc (length (decimal v))
  unfolding reach
  reach_minus = rw (no_zero, run_whole) (omega (arith, few))

  pub number_plus : is_number (decimal v) ≡ true
  unfolding is_number
  number_plus = rw (reach_plus, no_dash) (and_both _ _ (eq-eqb (length (decimal v)) (length (decimal v)) refl) (lt-ltb 0 _ (decimal_some v)))

  pub number_minus : is_number (dash ∷ decimal v) ≡ true
  unfolding is_number
  number_minus = rw reach_minus (and_both _ _ (eq-eqb (suc (length (decimal v))) _ refl) (lt-ltb 1 (suc (length (decimal v))) (omega (arith, decimal_some v))))

  pub variable_plus : variable_of (decimal v) ≡ v
  unfolding variable_of
  variable_plus = rw no_dash (value_back v)

  pub variable_minus : variable_of (dash ∷ decimal v) ≡ v
  unfolding variable_of
  variable_minus = value_back v

  pub literal_plus : literal_of (decimal v) ≡ plus v
  unfolding literal_of
  literal_plus = rw (no_dash, variable_plus)

  pub literal_minus : literal_of (dash ∷ decimal v) ≡ minus v
  unfolding literal_of
  literal_minus = rw variable_minus

-- ---- texts cut where a separator stands

-- none of the bytes is the separator
abbrev pub free : ℕ → List ℕ → Bool
free separator s = every (λ b. not (eqb b separator)) s

pub pieces_one : (separator : ℕ) (s : List ℕ) → free separator s ≡ true → pieces separator s ≡ s ∷ []
unfolding pieces every
pieces_one separator [] h = refl
pieces_one separator (b ∷ s) h =
    rw (not_true (eqb b separator) (and_left (not (eqb b separator)) (free separator s) h), pieces_one separator s (and_right (not (eqb b separator)) (free separator s) h))

pub pieces_more : (separator : ℕ) (s t : List ℕ) → free separator s ≡ true → pieces separator (s ++ separator ∷ t) ≡ s ∷ pieces separator t
unfolding pieces every
pieces_more separator [] t h = rw (eq-eqb separator separator refl)
pieces_more separator (b ∷ s) t h =
    rw (not_true (eqb b separator) (and_left (not (eqb b separator)) (free separator s) h), pieces_more separator s t (and_right (not (eqb b separator)) (free separator s) h))

-- no digit is a space or an LF
pub decimal_free : (separator m : ℕ) → separator < digit0 → free separator (decimal m) ≡ true
decimal_free separator m h = decimal_every (λ b. not (eqb b separator)) (λ j l. ap not (ne_eqb (digit0 + j) separator (λ e. omega arith))) m

-- ---- lines

-- the line that gives one literal, and the one that closes the model
abbrev pub literal_line : Literal → List ℕ
literal_line l = code "v" ∷ space ∷ literal_text l

abbrev pub closing_line : List ℕ
closing_line = code "v" ∷ space ∷ digit0 ∷ []

abbrev pub variable_in : Literal → ℕ
variable_in (plus v) = v
variable_in (minus v) = v

literal_number : (l : Literal) → 1 ≤ variable_in l → variable_in l < 10 ^ suc 5
    → (is_number (literal_text l) ≡ true) × (variable_of (literal_text l) ≡ variable_in l) × (literal_of (literal_text l) ≡ l) × (free space (literal_text l) ≡ true)
unfolding literal_text every
literal_number (plus v) h s = (number_plus v h s, variable_plus v h s, literal_plus v h s, decimal_free space v (lit< tt))
literal_number (minus v) h s = (number_minus v h s, variable_minus v h s, literal_minus v h s, and_both true _ refl (decimal_free space v (lit< tt)))

-- what is read of a line that gives one literal
abbrev one_read : Literal → Scan
one_read l = record { verdict = Ok tt; at = 2 + length (literal_text l) + 1; closed = false; named = l ∷ [] }

scan_some : (N : ℕ) (given : List ℕ) (scan : Scan) (w : List ℕ) → 1 ≤ length w → scan_piece N given scan w ≡ scan_word N given scan w
unfolding scan_piece
scan_some N given scan [] h = absurd (omega arith)
scan_some N given scan (b ∷ w) h = refl

text_some : (l : Literal) → 1 ≤ length (literal_text l)
unfolding literal_text
text_some (plus v) = decimal_some v
text_some (minus v) = omega arith

text_short : (l : Literal) → variable_in l < 10 ^ suc 5 → length (literal_text l) ≤ suc max_digits
unfolding literal_text
text_short (plus v) h = omega (arith, decimal_few 5 v h)
text_short (minus v) h = omega (arith, decimal_few 5 v h)

module _ (N : ℕ) (rows : Rows) (l : Literal) (low : 1 ≤ variable_in l) (small : variable_in l < 10 ^ suc 5) (within : variable_in l ≤ N)
    (fresh : bit_of_variable rows.given (variable_in l) ≡ false) where
  word_fine : judge (word_rules N rows.given scan_start (literal_text l)) ≡ Ok tt
  unfolding word_rules any
  word_fine =
      let w = literal_number l low small in
      judge_cons _ _ w.0
      (judge_cons _ _ refl
      (judge_cons _ _ (rw w.1 (le-leb _ _ within))
      (judge_cons _ _ (rw (w.1, fresh) (or_right (eqb (variable_in l) 0) true refl))
      judge_nil)))

  scan_literal : scan_line N rows.given (literal_line l) ≡ one_read l
  unfolding scan_line pieces scan_pieces scan_word
  scan_literal =
      let w = literal_number l low small in
      let no_zero : eqb (variable_in l) 0 ≡ false = ne_eqb (variable_in l) 0 (λ e. omega arith) in
      rw (pieces_one space (literal_text l) w.3, scan_some N rows.given scan_start (literal_text l) (text_some l), word_fine, w.1, no_zero, w.2)

  -- the literal is stored, and nothing else happens
  pub read_literal : rows_fit N rows ≡ true
      → read_line (record { highest = N; phase = ModelOpen }) rows (literal_line l)
      ≡ record { answer = Ok (record { highest = N; phase = ModelOpen }); rows = store rows l }
  unfolding read_line judge line_verdict kind_of kind_verdict phase_after named store_all
  read_literal fit =
      let parted : (eqb (length (literal_line l)) 1 || eqb (byte (literal_line l) 1) space) ≡ true = or_right (eqb (length (literal_line l)) 1) true refl in
      rw (fit, le-leb (length (literal_line l)) max_line (omega (arith, text_short l small)), scan_literal, parted) (rw (scan_literal, named))

-- ---- the status line and the closing line

pub read_status : (N : ℕ) (rows : Rows) → rows_fit N rows ≡ true
    → read_line (record { highest = N; phase = NoStatus }) rows says_satisfiable
    ≡ record { answer = Ok (record { highest = N; phase = ModelOpen }); rows = rows }
unfolding read_line judge line_verdict kind_of kind_verdict phase_after named store_all says_satisfiable says_unsatisfiable says_unknown ascii is_status same agree phase_said
read_status N rows fit = rw fit

pub read_closing : (N : ℕ) (rows : Rows) → rows_fit N rows ≡ true
    → read_line (record { highest = N; phase = ModelOpen }) rows closing_line
    ≡ record { answer = Ok (record { highest = N; phase = ModelClosed }); rows = rows }
unfolding read_line judge line_verdict kind_of kind_verdict phase_after named store_all scan_line pieces scan_pieces scan_piece scan_word word_rules is_number reach first variable_of value_from
read_closing N rows fit = rw (fit, leb-zero N)
