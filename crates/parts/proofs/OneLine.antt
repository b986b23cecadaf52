-- One line: copied, or found too long.
-- Assumes nothing.
use mathlib.Core.Path.{◌≡◌, refl, sym, ap, ◌∙◌}
use mathlib.Core.List.{List, [], ◌++◌}
use Prim.Native.Nat.{ℕ, ◌+◌, ◌-◌, ◌≤◌, ◌<◌}
use native.Mathlib.Omega.{arith}
use native.Mathlib.Nat.{zero-add}
use lib.ListN.{length, take, drop, length-take}
use lib.Seq.{drop-drop, take-append_seam}
use Rattle.rules.specs.Counting.{for_each}
use Rattle.rules.specs.Problem.{Problem}
use Rattle.rules.specs.Families.{C, clause}
use Rattle.rules.specs.Text.{clause_line}
use Rattle.rules.specs.Calls.{problem_of}
use Rattle.digits.specs.Over.{over, Wrote}
use Rattle.digits.proofs.Overs.{wrote_nothing}
use Rattle.formula.specs.declared.place.Place.{Place}
use Rattle.formula.specs.InFamily.{IsAt}
use Rattle.lines.specs.Written.{line_room}
use Rattle.lines.specs.AtPlace.{place_line, RoomFor}
use Rattle.parts.specs.Runs.{run, PutPart}

-- ---- the line of clause c stands at its place

module _ (file : List ℕ) (k c : ℕ) (place : Place) (h : IsAt (problem_of file k) c place) where
  pub place_room : (at room : ℕ) → at + line_room ≤ room → RoomFor file k place at room
  unfolding problem_of
  place_room at room r = record { inside = h.inside; enough = r }

  pub line_of : (l m : List ℕ) (at e : ℕ) → Wrote l at (place_line file k place) m e → Wrote l at (clause_line (clause (problem_of file k) c)) m e
  unfolding place_line problem_of
  line_of l m at e w = rw (← h.is) w

-- ---- copying

pub front_copied : (text room part : List ℕ) (at n : ℕ) → n ≤ length text → part ≡ take n text
    → Wrote room at (take n text) (take at room ++ (part ++ drop (at + n - at) (drop at room))) (at + n)
unfolding over
front_copied text room part at n h e =
    let long : length (take n text) ≡ n = length-take n text ∙ omega arith in
    let behind : at + n - at ≡ n = omega arith in
    record { written = rw (e, behind, long, drop-drop n at room); behind = ap (λ j. at + j) (sym long) }

-- a text that was made first is what is copied
pub made_first : (line made text : List ℕ) (n : ℕ) → Wrote line 0 text made n → take n made ≡ text
unfolding over
made_first line made text n w =
    let e : n ≡ length text = w.behind ∙ zero-add (length text) in
    rw (w.written, e) (take-append_seam text (drop (0 + length text) line))

-- ---- one line as a part

pub no_line : (P : Problem) (c : ℕ) → run P c 0 ≡ []
unfolding run for_each
no_line P c = refl

pub one_line : (P : Problem) (c : ℕ) → run P c 1 ≡ clause_line (clause P c)
unfolding run for_each
one_line P c = ap (λ i. clause_line (clause P i)) (omega arith)

module _ (file : List ℕ) (k c : ℕ) (h : c < C (problem_of file k)) (out : List ℕ) (at : ℕ) where
  abbrev P : Problem
  P = problem_of file k

  pub no_part : (line made : List ℕ) (n : ℕ) → Wrote line 0 (clause_line (clause P c)) made n → length out - at < n → at ≤ length out
      → PutPart file k c out at 0 out at
  no_part line made n w short fits =
      record { wrote = rw (no_line P c) (wrote_nothing out at); up_to = omega arith; within = fits; none = λ z. omega (arith, w.behind) }

  pub one_part : (after : List ℕ) (end : ℕ) → Wrote out at (clause_line (clause P c)) after end → end ≤ length out → PutPart file k c out at 1 after end
  one_part after end w fits = record { wrote = rw (one_line P c) w; up_to = omega arith; within = fits; none = λ z. absurd (omega arith) }

  pub copied_part : (line made after : List ℕ) (n end : ℕ) → Wrote line 0 (clause_line (clause P c)) made n → n ≤ length out - at → at ≤ length out
      → Wrote out at (take n made) after end → PutPart file k c out at 1 after end
  copied_part line made after n end w fits some u =
      let text = made_first line made (clause_line (clause P c)) n w in
      one_part after end (rw (← text) u) (omega (arith, u.behind, ap length text, w.behind))

  pub sure_part : (after : List ℕ) (end : ℕ) → Wrote out at (clause_line (clause P c)) after end → end ≤ at + line_room → line_room ≤ length out - at
      → PutPart file k c out at 1 after end
  sure_part after end w few fits = one_part after end w (omega arith)
