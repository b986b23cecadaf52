-- In a line's last eight bytes the last digit is the fifth. Four bytes stand before it, and up to the next number that ends in 0 they stay.
-- Assumes nothing.
use mathlib.Core.Path.{◌≡◌, refl, sym, ap, ◌∙◌}
use mathlib.Core.Bool.{true}
use mathlib.Core.List.{List, [], ◌∷◌, ◌++◌, append-nil, append_assoc}
use Prim.Native.Nat.{ℕ, suc, ◌+◌, ◌-◌, ◌*◌, ◌/◌, ◌%◌, ◌^◌, ◌≤◌, ◌<◌}
use native.Mathlib.Omega.{arith}
use lib.ListN.{length, take, drop, length-append, length-drop, take-append-drop}
use lib.Seq.{take-append-le, take-append-add}
use Rattle.rules.specs.Limits.{byte_values, max_n}
use Rattle.rules.specs.Counting.{every}
use Rattle.rules.specs.Text.{space, dash, digit0, decimal, literal_text}
use Rattle.rules.proofs.Counting.{every_append, every_right, for_each-ext}
use Rattle.rules.proofs.Decimal.{decimal_more, decimal_length_more, decimal_some}
use Rattle.rules.proofs.Files.{is_byte}
use Rattle.digits.specs.Word.{in_word, low_bytes}
use Rattle.digits.proofs.InWords.{in_word-more, read_back, word_fits, decimal_bytes}
use Rattle.exclusions.specs.Exclusions.{exclusion_text, minus_text, end_text, row_text}
use Rattle.exclusions.specs.InTwoWords.{word_bytes, one_more, two_words, run_text, between, ending, head_text, tail_text, head_word, tail_word}
use Rattle.exclusions.proofs.ByBytes.{digits_few, line_parts}
use Rattle.exclusions.proofs.HeadTail.{ending_word, in_word-append, in_word-add, lead, by_lead}

-- ---- the four bytes

abbrev stem : ℕ → List ℕ
stem q = lead q ++ decimal (q / 10)

-- the last digit and what stands behind it
abbrev rest : ℕ → ℕ
rest q = digit0 + q % 10 + byte_values * ending_word

pub digits_least : (q : ℕ) → 100 ≤ q → 3 ≤ length (decimal q)
digits_least q h =
    omega (arith, decimal_length_more q (omega arith), decimal_length_more (q / 10) (omega arith), decimal_some (q / 10 / 10))

length-stem : (q : ℕ) → 100 ≤ q → q ≤ max_n → length (stem q) ≡ 4
length-stem q h l =
    simp (length-append, length-drop) (omega (arith, decimal_length_more q (omega arith), digits_least q h, digits_few q l))

stem_word : (q : ℕ) → 100 ≤ q → tail_word q ≡ in_word (stem q) (rest q)
stem_word q h =
    by_lead q (lead q) refl
    ∙ ap (in_word (lead q)) (ap (λ x. in_word x ending_word) (decimal_more q (omega arith)) ∙ in_word-more (decimal (q / 10)) (digit0 + q % 10) ending_word)
    ∙ sym (in_word-append (lead q) (decimal (q / 10)) (rest q))

bytes_before : (q : ℕ) → every is_byte (lead q) ≡ true
unfolding every
bytes_before q = every_right is_byte (take (length (decimal q) - 3) between) (lead q) (rw (take-append-drop (length (decimal q) - 3) between))

-- a tail with ten more in the last digit still fits
pub tail_below : (q : ℕ) → 100 ≤ q → q ≤ max_n → tail_word q + one_more * 10 < 2 ^ 64
tail_below q h l =
    let most : ℕ = digit0 + 10 + byte_values * ending_word in
    let b : in_word (stem q) (rest q) < byte_values ^ length (stem q) * most =
    word_fits (stem q) (rest q) most (every_append is_byte (lead q) (decimal (q / 10)) (bytes_before q) (decimal_bytes (q / 10))) (omega arith) in
    let c : in_word (stem q) (rest q) < byte_values ^ 4 * most = rw (length-stem q h l) at b in
    omega (arith, stem_word q h)

-- ---- the next numbers

module _ (q i : ℕ) (h : 100 ≤ q) (t : q % 10 + i < 10) where
  same_tens : (q + i) / 10 ≡ q / 10
  same_tens = omega arith

  same_digits : length (decimal (q + i)) ≡ length (decimal q)
  same_digits =
      decimal_length_more (q + i) (omega arith)
      ∙ ap (λ m. suc (length (decimal m))) same_tens
      ∙ sym (decimal_length_more q (omega arith))

  same_stem : stem (q + i) ≡ stem q
  same_stem = ap (λ n. drop (n - 3) between ++ decimal ((q + i) / 10)) same_digits ∙ ap (λ m. lead q ++ decimal m) same_tens

  same_rest : rest (q + i) ≡ rest q + i
  same_rest = omega arith

  tail_next : q ≤ max_n → tail_word (q + i) ≡ tail_word q + one_more * i
  tail_next l =
      stem_word (q + i) (omega arith)
      ∙ ap (λ x. in_word x (rest (q + i))) same_stem
      ∙ ap (in_word (stem q)) same_rest
      ∙ in_word-add (stem q) (rest q) i
      ∙ ap (λ n. in_word (stem q) (rest q) + byte_values ^ n * i) (length-stem q h l)
      ∙ ap (λ w. w + one_more * i) (sym (stem_word q h))

-- ---- the line

length-tail : (q : ℕ) → 100 ≤ q → q ≤ max_n → length (tail_text q) ≡ word_bytes
unfolding tail_text
length-tail q h l = simp (length-append, length-drop) (omega (arith, digits_least q h, digits_few q l))

bytes_tail : (q : ℕ) → every is_byte (tail_text q) ≡ true
unfolding tail_text every
bytes_tail q = every_append is_byte (lead q) (decimal q ++ ending) (bytes_before q) (every_append is_byte (decimal q) ending (decimal_bytes q) refl)

tail_read : (q : ℕ) → 100 ≤ q → q ≤ max_n → low_bytes word_bytes (tail_word q) ≡ tail_text q
unfolding tail_word low_bytes
tail_read q h l =
    let e : word_bytes ≡ length (tail_text q) + 0 = omega (arith, length-tail q h l) in
    ap (λ n. low_bytes n (tail_word q)) e ∙ read_back (tail_text q) 0 0 (bytes_tail q) ∙ append-nil (tail_text q)

bytes_head : (p : ℕ) → every is_byte (head_text p) ≡ true
unfolding head_text every
bytes_head p = every_append is_byte (dash ∷ decimal p) between (decimal_bytes p) refl

length-head : (p : ℕ) → length (head_text p) ≡ length (decimal p) + 3
unfolding head_text
length-head p = simp length-append (omega arith)

head_read : (p : ℕ) → p ≤ max_n → low_bytes word_bytes (head_word p) ≡ head_text p ++ low_bytes (word_bytes - length (head_text p)) 0
unfolding head_word
head_read p l =
    let e : word_bytes ≡ length (head_text p) + (word_bytes - length (head_text p)) = omega (arith, digits_few p l, length-head p) in
    ap (λ n. low_bytes n (head_word p)) e
    ∙ read_back (head_text p) (word_bytes - length (head_text p)) 0 (bytes_head p)

line_is : (p q : ℕ) → (dash ∷ decimal p) ++ (between ++ (decimal q ++ ending)) ≡ exclusion_text p q
unfolding minus_text end_text literal_text
line_is p q =
    sym
    (append_assoc (dash ∷ decimal p) (space ∷ []) (minus_text q ++ end_text)
    ∙ ap (λ r. (dash ∷ decimal p) ++ (space ∷ r)) (append_assoc (dash ∷ decimal q) (space ∷ []) end_text))
    ∙ line_parts p q

-- the two words are the line
words_line : (p q line : ℕ) → p ≤ max_n → 100 ≤ q → q ≤ max_n → line ≡ length (decimal p) + 6 + length (decimal q)
    → two_words (head_word p) line (tail_word q) ≡ exclusion_text p q
unfolding two_words tail_text head_text
words_line p q line b h l e =
    ap (λ x. x ++ low_bytes word_bytes (tail_word q)) front
    ∙ ap (λ y. (start ++ take k between) ++ y) (tail_read q h l)
    ∙ append_assoc start (take k between) (drop k between ++ (decimal q ++ ending))
    ∙ ap (λ r. start ++ r) (sym (append_assoc (take k between) (drop k between) (decimal q ++ ending)) ∙ ap (λ r. r ++ (decimal q ++ ending)) (take-append-drop k between))
    ∙ line_is p q
  where
    start : List ℕ
    start = dash ∷ decimal p

    k : ℕ
    k = length (decimal q) - 3

    front : take (line - word_bytes) (low_bytes word_bytes (head_word p)) ≡ start ++ take k between
    front =
        let f : line - word_bytes ≡ length start + k = omega (arith, digits_least q h) in
        ap (take (line - word_bytes)) (head_read p b)
        ∙ take-append-le (line - word_bytes) (head_text p) _ (omega (arith, digits_least q h, digits_few q l, length-head p))
        ∙ ap (λ n. take n (head_text p)) f
        ∙ take-append-add start between k

-- a run is a part of a row
pub run_row : (p m n line : ℕ) → p ≤ max_n → 100 ≤ m → m ≤ max_n → m + n ≤ suc max_n → m % 10 + n ≤ 10 → line ≡ length (decimal p) + 6 + length (decimal m)
    → run_text (head_word p) line (tail_word m) n ≡ row_text p m n
unfolding run_text row_text
run_row p m n line b h l f t e =
    for_each-ext n _ _ (λ i s.
    ap (two_words (head_word p) line) (sym (tail_next m i h (omega arith) l))
    ∙ words_line p (m + i) line b (omega arith) (omega arith) (omega (arith, same_digits m i h (omega arith))))
