-- Laws of words: what the bytes of a word say as a number.
-- Assumes nothing.
use mathlib.Core.Path.{◌≡◌, refl, sym, ap, ap₂, ◌∙◌}
use mathlib.Core.Logic.{⊎_elim}
use mathlib.Core.Bool.{Bool, true, false, cond, not}
use mathlib.Core.List.{List, [], ◌∷◌, ◌++◌}
use Prim.Native.Nat.{ℕ, zero, suc, ◌+◌, ◌-◌, ◌*◌, ◌^◌, ◌≤◌, ◌<◌, min}
use Rattle.std.specs.Prelude.{Ok, Err}
use native.Mathlib.Omega.{arith}
use native.Mathlib.Numerals.{add-one}
use borrow.Author.Tests.{eq-eqb, ne_eqb, eqb-true, eqb-false, leb-true, lt-ltb, le-ltb}
use lib.Dec.{eqb, leb}
use mir.Syntax.{w64}
use mir.Val.{Fits}
use lib.ListN.{length, take, drop, length-drop}
use lib.Seq.{take-suc, take_all}
use Rattle.rules.specs.Counting.{first}
use Rattle.rules.specs.Limits.{max_digits}
use Rattle.rules.specs.File.{byte}
use Rattle.rules.specs.Text.{dash, digit0}
use Rattle.rules.specs.Lines.{is_digit, is_negative, sign_bytes, digits, reach, is_number, value_from, variable_of}
use Rattle.rules.proofs.Bools.{either, clash, and_left, and_right, not_false, below_or, below_suc}
use Rattle.rules.proofs.Counting.{first_le, first_at, first_is}
use Rattle.lent_bytes.proofs.WordLaws.{byte_past, from, room_tenfold, room_next, value_grows}
use Rattle.output.specs.Words.{digit_run, reached_value, word_of}

-- ---- what the bytes say

-- a byte that is not 0 is there
pub there : (s : List ℕ) (i b : ℕ) → byte s i ≡ suc b → i < length s
there s i b e = ⊎_elim (λ l. l) (λ l. absurd (omega (arith, byte_past s i l))) (below_or i (length s))

pub sign_one : (w : List ℕ) (b : ℕ) → b ≡ byte w 0 → b ≡ dash → 1 ≡ sign_bytes w
sign_one w b r e = rw (eq-eqb (byte w 0) dash (sym r ∙ e))

pub sign_there : (w : List ℕ) (b : ℕ) → b ≡ byte w 0 → b ≡ dash → 1 ≤ length w
sign_there w b r e = there w 0 44 (sym r ∙ e)

pub sign_not : (w : List ℕ) (b : ℕ) → b ≡ byte w 0 → (b ≡ dash → ⊥) → 0 ≡ sign_bytes w
sign_not w b r e = rw (ne_eqb (byte w 0) dash (λ f. e (r ∙ f)))

-- the run of digits ends after six, at another byte, or with the text
abbrev pub AllDigits : List ℕ → ℕ → Type 0
AllDigits s i = (k : ℕ) → k < i → not (is_digit (byte s k)) ≡ false

pub run_none : (s : List ℕ) → AllDigits s 0
run_none s k h = absurd (omega arith)

pub run_stops : (s : List ℕ) (i : ℕ) (r : Bool) → i < min (length s) max_digits → AllDigits s i → r ≡ is_digit (byte s i) → not r ≡ true → i ≡ digit_run s
unfolding digit_run
run_stops s i r h d e t = omega (arith, first_is (length s) (λ k. not (is_digit (byte s k))) i (omega arith) (ap not (sym e) ∙ t) d)

pub run_ends : (s : List ℕ) (most : ℕ) → most ≡ min (length s) max_digits → AllDigits s most → most ≡ digit_run s
unfolding digit_run
run_ends s most e d =
    let p : ℕ → Bool = λ k. not (is_digit (byte s k)) in
    let far : most ≤ first (length s) p =
    ⊎_elim (λ l. clash (first_at (length s) p (omega arith)) (d _ l)) (λ l. l) (below_or (first (length s) p) most) in
    omega (arith, first_le (length s) p)

pub run_on : (s : List ℕ) (i : ℕ) (r : Bool) → AllDigits s i → r ≡ is_digit (byte s i) → not r ≡ false → AllDigits s (i + 1)
run_on s i r d e t k h = ⊎_elim (λ b. d k b) (λ b. ap (λ j. not (is_digit (byte s j))) b ∙ ap not (sym e) ∙ t) (below_suc k i (omega arith))

-- a byte more, which is a digit
module _ (b : ℕ) (r : Bool) (e : r ≡ is_digit b) (t : not r ≡ false) where
  digit : is_digit b ≡ true
  digit = sym e ∙ not_false r t

  pub digit_above : digit0 ≤ b
  digit_above = leb-true digit0 b (and_left (leb digit0 b) (leb b (digit0 + 9)) digit)

  digit_worth : b - digit0 < 256
  digit_worth = omega (arith, leb-true b (digit0 + 9) (and_right (leb digit0 b) (leb b (digit0 + 9)) digit))

  module _ (i m : ℕ) (l : i < max_digits) (h : m < 256 ^ i) where
    pub run_tenfold : Fits w64 (10 * m)
    run_tenfold = room_tenfold i max_digits m l (omega arith) h

    pub run_next : Fits w64 (10 * m + (b - digit0))
    run_next = room_next i max_digits m (b - digit0) l (omega arith) h digit_worth

    pub run_grows : 10 * m + (b - digit0) < 256 ^ (i + 1)
    run_grows = value_grows i m (b - digit0) h digit_worth

-- the value of the bytes so far
pub value_none : (s : List ℕ) → 0 ≡ value_from 0 (take 0 s)
unfolding value_from
value_none s = refl

value_more : (m : ℕ) (s : List ℕ) (b : ℕ) → value_from m (s ++ (b ∷ [])) ≡ 10 * value_from m s + (b - digit0)
unfolding value_from
value_more m [] b = refl
value_more m (a ∷ s) b = value_more (10 * m + (a - digit0)) s b

pub run_value : (s : List ℕ) (i m : ℕ) → i < length s → m ≡ value_from 0 (take i s) → 10 * m + (byte s i - digit0) ≡ value_from 0 (take (i + 1) s)
run_value s i m h e =
    ap (λ m. 10 * m + (byte s i - digit0)) e
    ∙ sym (value_more 0 (take i s) (byte s i))
    ∙ ap (value_from 0) (sym (take-suc s i 0 h))
    ∙ ap (λ k. value_from 0 (take k s)) (sym (add-one i))

-- a first 0 is worth nothing
zero_value : (k : ℕ) (s : List ℕ) → k ≤ 1 → byte s 0 ≡ digit0 → 0 ≡ value_from 0 (take k s)
unfolding value_from
zero_value zero s h z = refl
zero_value (suc k) [] h z = refl
zero_value (suc zero) (b ∷ s) h z = omega (arith, z)
zero_value (suc (suc k)) (b ∷ s) h z = absurd (omega arith)

run_most : (s : List ℕ) → digit_run s ≤ max_digits
unfolding digit_run
run_most s = omega arith

sign_most : (b : Bool) → cond b 1 0 ≤ 1
sign_most true = omega arith
sign_most false = omega arith

signed_is : (b : Bool) → eqb (cond b 1 0) 1 ≡ b
signed_is true = refl
signed_is false = refl

-- ---- a word

digits_are : (w : List ℕ) (sign : ℕ) → sign ≡ sign_bytes w → take (length w - sign) (drop sign w) ≡ digits w
digits_are w sign e = from w sign ∙ ap (λ k. drop k w) e

reaches_one : (w : List ℕ) → byte (digits w) 0 ≡ digit0 → reach w ≡ 1
unfolding reach
reaches_one w z = rw (eq-eqb (byte (digits w) 0) digit0 z)

reaches_run : (w : List ℕ) → (byte (digits w) 0 ≡ digit0 → ⊥) → reach w ≡ sign_bytes w + digit_run (digits w)
unfolding reach digit_run
reaches_run w z = rw (ne_eqb (byte (digits w) 0) digit0 z)

module _ (w : List ℕ) (sign b : ℕ) (e : sign ≡ sign_bytes w) (f : b ≡ byte (take (length w - sign) (drop sign w)) 0) where
  first_digit : b ≡ byte (digits w) 0
  first_digit = f ∙ ap (λ s. byte s 0) (digits_are w sign e)

  module _ (z : b ≡ digit0) where
    pub reach_zero : 1 ≡ reach w
    reach_zero = sym (reaches_one w (sym first_digit ∙ z))

    pub value_zero : 0 ≡ reached_value w
    unfolding reached_value
    value_zero = zero_value (reach w - sign_bytes w) (digits w) (omega (arith, reach_zero)) (sym first_digit ∙ z)

  module _ (z : b ≡ digit0 → ⊥) (run : ℕ) (r : run ≡ digit_run (take (length w - sign) (drop sign w))) where
    run_digits : run ≡ digit_run (digits w)
    run_digits = r ∙ ap digit_run (digits_are w sign e)

    pub reach_run : sign + run ≡ reach w
    reach_run = omega (arith, e, run_digits, reaches_run w (λ g. z (first_digit ∙ g)))

    pub value_run : (v : ℕ) → v ≡ value_from 0 (take run (take (length w - sign) (drop sign w))) → v ≡ reached_value w
    unfolding reached_value
    value_run v k =
        let size : run ≡ reach w - sign_bytes w = omega (arith, e, reach_run) in
        k
        ∙ ap (λ s. value_from 0 (take run s)) (digits_are w sign e)
        ∙ ap (λ n. value_from 0 (take n (digits w))) size

-- a number is as long as it reaches, and has a digit
pub broken_short : (w : List ℕ) (reached : ℕ) → reached ≡ reach w → (reached ≡ length w → ⊥) → Err reached ≡ word_of w
unfolding word_of is_number
broken_short w reached e h = rw (ne_eqb (reach w) (length w) (λ f. h (e ∙ f))) (ap Err e)

pub broken_bare : (w : List ℕ) (sign reached : ℕ) → sign ≡ sign_bytes w → reached ≡ reach w → reached ≡ length w → reached ≤ sign → Err reached ≡ word_of w
unfolding word_of is_number
broken_bare w sign reached e r l h = rw (eq-eqb (reach w) (length w) (sym r ∙ l), le-ltb (sign_bytes w) (reach w) (omega (arith, e, r))) (ap Err r)

pub number_is : (w : List ℕ) (sign reached v : ℕ) → sign ≡ sign_bytes w → reached ≡ reach w → reached ≡ length w → sign < reached → v ≡ reached_value w
    → Ok (record { variable = v; negative = eqb sign 1 }) ≡ word_of w
unfolding word_of is_number variable_of reached_value
number_is w sign reached v e r l h d =
    rw (eq-eqb (reach w) (length w) (sym r ∙ l), lt-ltb (sign_bytes w) (reach w) (omega (arith, e, r)))
    (ap₂ (λ v n. Ok (record { variable = v; negative = n }))
    (d ∙ ap (value_from 0) (take_all (reach w - sign_bytes w) (digits w) (omega (arith, r, l, length-drop (sign_bytes w) w))))
    (ap (λ k. eqb k 1) e ∙ signed_is (is_negative w)))

pub reach_most : (w : List ℕ) → reach w ≤ max_digits + 1
reach_most w =
    ⊎_elim
    (λ t. omega (arith, reaches_one w (eqb-true (byte (digits w) 0) digit0 t)))
    (λ t. omega (arith, sign_most (is_negative w), reaches_run w (eqb-false (byte (digits w) 0) digit0 t), run_most (digits w)))
    (either (eqb (byte (digits w) 0) digit0))
