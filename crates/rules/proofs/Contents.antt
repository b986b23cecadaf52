-- The table of contents: what its acceptance says, and bodies are read back from the file that holds them behind their contents.
-- Assumes nothing.
use Rattle.std.specs.Prelude.{Ok}
use mathlib.Core.Path.{◌≡◌, refl, sym, ap, ◌∙◌}
use mathlib.Core.Logic.{⊎_elim}
use mathlib.Core.Bool.{false, not}
use mathlib.Core.List.{List, [], ◌∷◌, ◌++◌}
use Prim.Native.Nat.{ℕ, zero, suc, ◌+◌, ◌-◌, ◌*◌, ◌≤◌, ◌<◌}
use native.Mathlib.Omega.{arith}
use borrow.Author.Tests.{leb-true, le-leb, eqb-true, eq-eqb}
use lib.Dec.{leb, eqb}
use lib.ListN.{length, get_or, take, drop, length-append, length-take, length-drop}
use lib.Seq.{get_or-append-add, drop-append-add}
use Rattle.rules.specs.Counting.{sum_to, joined}
use Rattle.rules.specs.Limits.{max_file, contents_rows, contents_bytes, row_bytes}
use Rattle.rules.specs.File.{byte, word16, body_start, body_length, due_start, row_at_fault, contents_rules, contents_verdict, body, bytes16, contents_from}
use Rattle.rules.proofs.Bools.{either, and_left, and_right, and_both, neither_left, neither_right, not_false}
use Rattle.rules.proofs.Counting.{none_at, none_test, length-joined, part_joined, sum_to-front}
use Rattle.rules.proofs.Judging.{judge_head, judge_tail, judge_cons, judge_nil}

-- ---- accepted contents

-- each body starts where it has to, the first at 16 and each next where the last ended; the fourth ends with the file
pub record Contents (file : List ℕ) : Type 0 where
  pub long_enough : contents_bytes ≤ length file
  pub short_enough : length file ≤ max_file
  pub starts : (r : ℕ) → r < contents_rows → body_start file r ≡ due_start file r
  pub ends : due_start file contents_rows ≡ length file

pub accepted_contents : (file : List ℕ) → contents_verdict file ≡ Ok tt → Contents file
unfolding contents_verdict contents_rules row_at_fault
accepted_contents file h =
    let lengths = judge_head _ _ h in
    let last : ℕ = contents_rows - 1 in
    let row : (r : ℕ) → r < contents_rows → row_at_fault file r ≡ false = none_at contents_rows (row_at_fault file) (judge_head _ _ (judge_tail _ _ h)) in
    record {
      long_enough = leb-true _ _ (and_left (leb contents_bytes (length file)) _ lengths);
      short_enough = leb-true _ _ (and_right (leb contents_bytes (length file)) _ lengths);
      starts = λ r l. eqb-true _ _ (not_false _ (neither_left (not (eqb (body_start file r) (due_start file r))) _ (row r l)));
      ends = eqb-true _ _ (not_false _ (neither_right (not (eqb (body_start file last) (due_start file last))) _ (row last (omega arith))));
    }

pub contents_accepted : (file : List ℕ) → Contents file → contents_verdict file ≡ Ok tt
unfolding contents_verdict contents_rules row_at_fault
contents_accepted file c =
    judge_cons _ _
    (and_both _ _ (le-leb _ _ c.long_enough) (le-leb _ _ c.short_enough))
    (judge_cons _ _
    (none_test contents_rows (row_at_fault file) (λ r l.
    rw (eq-eqb _ _ (c.starts r l))
    (⊎_elim
    (λ t. rw t (ap not (eq-eqb _ _ (ap (due_start file) (eqb-true (suc r) contents_rows t) ∙ c.ends))))
    (λ t. rw t)
    (either (eqb (suc r) contents_rows)))))
    judge_nil)

-- where a body has to start is within the file, with so many rows left
due_within : (file : List ℕ) → Contents file → (left r : ℕ) → left + r ≡ contents_rows → due_start file r ≤ length file
due_within file c zero r e = let last : r ≡ contents_rows = omega arith in rw last (omega (arith, c.ends))
due_within file c (suc left) r e = omega (arith, c.starts r (omega arith), due_within file c left (suc r) (omega arith))

pub body_within : (file : List ℕ) → Contents file → (r : ℕ) → r < contents_rows → body_start file r + body_length file r ≤ length file
body_within file c r h = due_within file c (contents_rows - suc r) (suc r) (omega arith)

pub length-body : (file : List ℕ) → Contents file → (r : ℕ) → r < contents_rows → length (body file r) ≡ body_length file r
unfolding body
length-body file c r h =
    omega
    (arith, length-take (body_length file r) (drop (body_start file r) file), length-drop (body_start file r) file, body_within file c r h)

-- ---- contents of given bodies

-- what stands behind some bytes is found so much later
pub byte_behind : (before s : List ℕ) (i k : ℕ) → k ≡ length before + i → byte (before ++ s) k ≡ byte s i
byte_behind before s i k e = ap (byte (before ++ s)) e ∙ get_or-append-add before s i 0

word_behind : (before s : List ℕ) (i k : ℕ) → k ≡ length before + i → word16 (before ++ s) k ≡ word16 s i
word_behind before s i k e = omega (arith, byte_behind before s i k e, byte_behind before s (i + 1) (k + 1) (omega arith))

-- row r of the contents of bodies that stand one behind the other from place at on
row_back : (bs : List (List ℕ)) (at : ℕ) (behind : List ℕ) (r : ℕ) → r < length bs
    → (body_start (contents_from at bs ++ behind) r ≡ at + sum_to r (λ i. length (get_or bs i [])))
    × (body_length (contents_from at bs ++ behind) r ≡ length (get_or bs r []))
unfolding contents_from sum_to
row_back [] at behind r h = absurd (omega arith)
row_back (b ∷ bs) at behind zero h = (omega arith, omega arith)
row_back (b ∷ bs) at behind (suc r) h =
    let row : List ℕ = bytes16 at ++ bytes16 (length b) in
    let rows : List ℕ = contents_from (at + length b) bs ++ behind in
    let later = row_back bs (at + length b) behind r (omega arith) in (
      word_behind row rows (row_bytes * r) (row_bytes * suc r) (omega arith)
          ∙ omega (arith, later.0, sum_to-front r (λ i. length (get_or (b ∷ bs) i []))),
      word_behind row rows (row_bytes * r + 2) (row_bytes * suc r + 2) (omega arith) ∙ later.1,
    )

pub length-contents : (bs : List (List ℕ)) (at : ℕ) → length (contents_from at bs) ≡ row_bytes * length bs
unfolding contents_from
length-contents [] at = refl
length-contents (b ∷ bs) at = omega (arith, length-contents bs (at + length b))

-- ---- four bodies behind their contents

module _ (bs : List (List ℕ)) (four : length bs ≡ contents_rows) where
  abbrev pub with_contents : List ℕ
  with_contents = contents_from contents_bytes bs ++ joined bs

  abbrev pub length_of : ℕ → ℕ
  length_of r = length (get_or bs r [])

  pub length-with_contents : length with_contents ≡ contents_bytes + sum_to contents_rows length_of
  length-with_contents =
      omega (
        arith,
        length-append (contents_from contents_bytes bs) (joined bs),
        length-contents bs contents_bytes,
        length-joined bs,
        ap (λ m. sum_to m length_of) four,
      )

  row : (r : ℕ) → r < contents_rows → (body_start with_contents r ≡ contents_bytes + sum_to r length_of) × (body_length with_contents r ≡ length_of r)
  row r h = row_back bs contents_bytes (joined bs) r (omega arith)

  due : (r : ℕ) → r ≤ contents_rows → due_start with_contents r ≡ contents_bytes + sum_to r length_of
  unfolding sum_to
  due zero h = omega arith
  due (suc r) h = omega (arith, row r h)

  pub contents_back : length with_contents ≤ max_file → Contents with_contents
  contents_back h =
      record {
        long_enough = omega (arith, length-with_contents);
        short_enough = h;
        starts = λ r l. (row r l).0 ∙ sym (due r (omega arith));
        ends = due contents_rows (omega arith) ∙ sym length-with_contents;
      }

  pub body_back : (r : ℕ) → r < contents_rows → body with_contents r ≡ get_or bs r []
  unfolding body
  body_back r h =
      rw ((row r h).0, (row r h).1)
      (ap (λ k. take (length_of r) (drop (k + sum_to r length_of) with_contents)) (omega (arith, length-contents bs contents_bytes))
      ∙ ap (take (length_of r)) (drop-append-add (contents_from contents_bytes bs) (joined bs) (sum_to r length_of))
      ∙ part_joined bs r)
