-- Lines in two words.
-- Assumes nothing.
use mathlib.Core.Path.{◌≡◌, refl, sym, ap, ◌∙◌}
use mathlib.Core.List.{List, ◌++◌}
use Prim.Native.Nat.{ℕ, ◌+◌, ◌-◌, ◌*◌, ◌≤◌, ◌<◌}
use native.Mathlib.Omega.{arith}
use native.Mathlib.Nat.{add-zero}
use native.Mathlib.Numerals.{add-one}
use lib.ListN.{length, take, drop, length-append, length-take, length-drop, take-append-drop}
use Rattle.rules.specs.Counting.{for_each}
use Rattle.rules.proofs.Counting.{for_each-ext}
use Rattle.digits.specs.Word.{low_bytes}
use Rattle.digits.specs.Over.{over, Wrote}
use Rattle.digits.proofs.Overs.{over_rest, wrote_nothing, wrote_more}
use Rattle.digits.proofs.InWords.{length-low}
use Rattle.exclusions.specs.Exclusions.{pair_room}
use Rattle.exclusions.specs.InTwoWords.{word_bytes, one_more, two_words, run_text}
use Rattle.exclusions.proofs.Adding.{for_each-add}

pub length_two : (head line tail : ℕ) → word_bytes ≤ line → line ≤ pair_room → length (two_words head line tail) ≡ line
unfolding two_words
length_two head line tail h l =
    simp (length-append, length-take, length-low) (omega arith)

-- two stores write a line
pub words_written : (l k m : List ℕ) (at head line tail end : ℕ) → word_bytes ≤ line → line ≤ pair_room → at + pair_room ≤ length l
    → k ≡ over l at (low_bytes word_bytes head) → m ≡ over k (at + line - word_bytes) (low_bytes word_bytes tail) → end ≡ at + line
    → Wrote l at (two_words head line tail) m end
unfolding two_words
words_written l k m at head line tail end h b room e f g =
    record { written = f ∙ stored; behind = omega (arith, length_two head line tail h b) }
  where
    x : List ℕ
    x = take (line - word_bytes) (low_bytes word_bytes head)

    z : List ℕ
    z = drop (line - word_bytes) (low_bytes word_bytes head)

    long : length x ≡ line - word_bytes
    long = length-take (line - word_bytes) (low_bytes word_bytes head) ∙ omega (arith, length-low word_bytes head)

    short : length z ≤ length (low_bytes word_bytes tail)
    short = omega (arith, length-drop (line - word_bytes) (low_bytes word_bytes head), length-low word_bytes head, length-low word_bytes tail)

    place : at + line - word_bytes ≡ at + length x
    place = omega (arith, long)

    stored : over k (at + line - word_bytes) (low_bytes word_bytes tail) ≡ over l at (two_words head line tail)
    stored =
        ap (λ i. over k i (low_bytes word_bytes tail)) place
        ∙ ap (λ r. over r (at + length x) (low_bytes word_bytes tail)) (e ∙ ap (over l at) (sym (take-append-drop (line - word_bytes) (low_bytes word_bytes head))))
        ∙ over_rest l at x z (low_bytes word_bytes tail) (omega (arith, long)) short

-- ---- a run

run_add : (head line first m n : ℕ) → run_text head line first (m + n) ≡ run_text head line first m ++ run_text head line (first + one_more * m) n
unfolding run_text
run_add head line first m n =
    for_each-add m n (λ i. two_words head line (first + one_more * i))
    ∙ ap (λ x. run_text head line first m ++ x)
    (for_each-ext n _ (λ i. two_words head line (first + one_more * m + one_more * i)) (λ i l. ap (two_words head line) (omega arith)))

-- i lines of the run are written, and the tail of the next is at hand
pub record Running (room : List ℕ) (at head line first n : ℕ) (now : List ℕ) (end tail i : ℕ) : Type 0 where
  pub wrote : Wrote room at (run_text head line first i) now end
  pub next : tail ≡ first + one_more * i
  pub within : end ≤ at + pair_room * i
  pub few : i ≤ n
  pub kept : length now ≡ length room

pub running_start : (room : List ℕ) (at head line first n : ℕ) → Running room at head line first n room at first 0
unfolding run_text for_each
running_start room at head line first n = record { wrote = wrote_nothing room at; next = omega arith; within = omega arith; few = omega arith; kept = refl }

pub running_more : (room : List ℕ) (at head line first n : ℕ) (now now' : List ℕ) (end end' tail i : ℕ) → line ≤ pair_room
    → Running room at head line first n now end tail i → i < n → Wrote now end (two_words head line tail) now' end'
    → end' ≡ end + line → length now' ≡ length now → Running room at head line first n now' end' (tail + one_more) (i + 1)
unfolding run_text for_each
running_more room at head line first n now now' end end' tail i b r l w g k =
    record {
      wrote = rw (add-one i) (wrote_more room now now' at end end' _ _ r.wrote (rw (← r.next) w));
      next = omega (arith, r.next);
      within = omega (arith, r.within);
      few = omega arith;
      kept = k ∙ r.kept;
    }

-- ---- without a loop

run_one : (head line first : ℕ) → run_text head line first 1 ≡ two_words head line first
unfolding run_text for_each
run_one head line first = ap (two_words head line) (add-zero first)

pub two_written : (l a m : List ℕ) (at head line first e end : ℕ) → Wrote l at (two_words head line first) a e
    → Wrote a e (two_words head line (first + one_more)) m end → Wrote l at (run_text head line first 2) m end
unfolding run_text for_each
two_written l a m at head line first e end v w = rw (add-zero first) (wrote_more l a m at e end _ _ v w)

pub five_written : (l a b m : List ℕ) (at head line first e f end : ℕ) → Wrote l at (run_text head line first 2) a e
    → Wrote a e (run_text head line (first + 2 * one_more) 2) b f → Wrote b f (two_words head line (first + 4 * one_more)) m end
    → Wrote l at (run_text head line first 5) m end
five_written l a b m at head line first e f end v w x =
    rw (run_add head line first 4 1, run_add head line first 2 2, run_one head line (first + 4 * one_more))
    (wrote_more l b m at f end _ _ (wrote_more l a b at e f _ _ v w) x)

pub ten_written : (l m r : List ℕ) (at head line first e end : ℕ) → Wrote l at (run_text head line first 5) m e
    → Wrote m e (run_text head line (first + 5 * one_more) 5) r end → Wrote l at (run_text head line first 10) r end
ten_written l m r at head line first e end v w = rw (run_add head line first 5 5) (wrote_more l m r at e end _ _ v w)
