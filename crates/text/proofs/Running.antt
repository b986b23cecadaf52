-- Runs of lines, part by part: those written so far are the first from clause c on, and where the next does not fit they are the longest run that does.
-- Assumes nothing.
use mathlib.Core.Path.{◌≡◌, refl, sym, ap, ◌∙◌}
use mathlib.Core.List.{List, ◌++◌, append_assoc, append-nil}
use Prim.Native.Nat.{ℕ, zero, suc, ◌+◌, ◌-◌, ◌≤◌, ◌<◌}
use native.Mathlib.Omega.{arith}
use native.Mathlib.Nat.{zero-add}
use lib.ListN.{length, length-append}
use Rattle.rules.specs.Counting.{for_each, joined}
use Rattle.rules.specs.Problem.{Problem}
use Rattle.rules.specs.Families.{C, clause}
use Rattle.rules.specs.Text.{clause_line}
use Rattle.rules.specs.Calls.{problem_of, lines_from}
use Rattle.digits.specs.Over.{over, Wrote}
use Rattle.digits.proofs.Overs.{over_none, wrote_nothing, wrote_more}
use Rattle.parts.specs.Runs.{run, PutPart}
use Rattle.parts.proofs.OneLine.{no_line}
use Rattle.text.proofs.Longest.{longest}

-- ---- one run behind the other

run_next : (P : Problem) (c m : ℕ) → run P c (suc m) ≡ run P c m ++ clause_line (clause P (c + m))
unfolding run for_each
run_next P c m = refl

pub run_append : (P : Problem) (c m i : ℕ) → run P c (m + i) ≡ run P c m ++ run P (c + m) i
run_append P c m zero = rw (no_line P (c + m), append-nil (run P c m)) (ap (run P c) (omega arith))
run_append P c m (suc i) =
    let n : m + suc i ≡ suc (m + i) = omega arith in
    let h : c + (m + i) ≡ c + m + i = omega arith in
    rw (n, run_next P c (m + i), run_append P c m i, run_next P (c + m) i, h)
    (append_assoc (run P c m) (run P (c + m) i) (clause_line (clause P (c + m + i))))

-- ---- a run in lent room

-- m lines from clause c on are written
pub record Running (file room : List ℕ) (k all c m : ℕ) (now : List ℕ) (at : ℕ) : Type 0 where
  pub so_far : Wrote room 0 (run (problem_of file k) c m) now at
  pub kept : length now ≡ length room
  pub within : at ≤ length room
  pub up_to : c + m ≤ all
  pub whole : all ≡ C (problem_of file k)

pub run_start : (file room : List ℕ) (k all c : ℕ) → all ≡ C (problem_of file k) → c ≤ all → Running file room k all c 0 room 0
run_start file room k all c e h =
    record {
      so_far = rw (no_line (problem_of file k) c) (wrote_nothing room 0);
      kept = refl;
      within = omega arith;
      up_to = omega arith;
      whole = e;
    }

module _ (file room now : List ℕ) (k all c m at : ℕ) (r : Running file room k all c m now at) where
  abbrev P : Problem
  P = problem_of file k

  pub run_more : (after : List ℕ) (i e : ℕ) → PutPart file k (c + m) now at i after e → length after ≡ length now → Running file room k all c (m + i) after e
  run_more after i e p kept =
      record {
        so_far = rw (run_append P c m i) (wrote_more room now after 0 at e (run P c m) (run P (c + m) i) r.so_far p.wrote);
        kept = kept ∙ r.kept;
        within = omega (arith, p.within, r.kept);
        up_to = omega (arith, p.up_to, r.whole);
        whole = r.whole;
      }

  -- where the next line does not fit, or there is none
  run_longest : (c + m < all → length room - at < length (clause_line (clause P (c + m))))
      → (joined (lines_from file k c (length room)) ≡ run P c m) × (length (lines_from file k c (length room)) ≡ m)
  run_longest next =
      let b : at ≡ length (run P c m) = r.so_far.behind ∙ zero-add (length (run P c m)) in
      let whole = r.whole in
      let within = r.within in
      longest file k c (length room) m (omega (arith, r.up_to)) (omega arith) (λ h.
      let n = next (omega arith) in
      let l : length (run P c (suc m)) ≡ length (run P c m) + length (clause_line (clause P (c + m))) =
      ap length (run_next P c m) ∙ length-append (run P c m) (clause_line (clause P (c + m))) in
      omega arith)

  module _ (next : c + m < all → length room - at < length (clause_line (clause P (c + m)))) where
    out_is : now ≡ over room 0 (joined (lines_from file k c (length room)))
    out_is = rw (run_longest next).0 r.so_far.written

    lines_are : m ≡ length (lines_from file k c (length room))
    lines_are = sym (run_longest next).1

    bytes_are : at ≡ length (joined (lines_from file k c (length room)))
    bytes_are = rw (run_longest next).0 (r.so_far.behind ∙ zero-add (length (run P c m)))

  -- all are written
  module _ (h : all ≤ c + m) where
    pub end_out : now ≡ over room 0 (joined (lines_from file k c (length room)))
    end_out = out_is (λ b. absurd (omega arith))

    pub end_lines : m ≡ length (lines_from file k c (length room))
    end_lines = lines_are (λ b. absurd (omega arith))

    pub end_bytes : at ≡ length (joined (lines_from file k c (length room)))
    end_bytes = bytes_are (λ b. absurd (omega arith))

  -- the next does not fit
  module _ (after : List ℕ) (i e : ℕ) (p : PutPart file k (c + m) now at i after e) (z : i ≡ 0) where
    no_more : c + m < all → length room - at < length (clause_line (clause P (c + m)))
    no_more b = rw (← r.kept) (p.none z)

    pub stopped_out : after ≡ over room 0 (joined (lines_from file k c (length room)))
    stopped_out = p.wrote.written ∙ rw (z, no_line P (c + m)) (over_none now at) ∙ out_is no_more

    pub stopped_lines : m ≡ length (lines_from file k c (length room))
    stopped_lines = lines_are no_more

    pub stopped_bytes : at ≡ length (joined (lines_from file k c (length room)))
    stopped_bytes = bytes_are no_more
