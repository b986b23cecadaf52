-- Lines of places that follow each other, one after the other.
-- Assumes nothing.
use mathlib.Core.Path.{◌≡◌, refl, ap, ◌∙◌}
use mathlib.Core.List.{List}
use Prim.Native.Nat.{ℕ, zero, suc, ◌+◌, ◌-◌, ◌*◌, ◌≤◌, ◌<◌}
use native.Mathlib.Omega.{arith}
use native.Mathlib.Numerals.{add-one}
use lib.ListN.{length}
use mir.Syntax.{w64}
use mir.Val.{Fits}
use Rattle.rules.specs.Limits.{max_actions}
use Rattle.rules.specs.Counting.{for_each, sum_to}
use Rattle.rules.specs.Task.{Task, n, d, off, S, A, action}
use Rattle.rules.specs.Problem.{Problem, problem}
use Rattle.rules.specs.Families.{C, clause}
use Rattle.rules.specs.Text.{clause_line}
use Rattle.rules.specs.File.{task_of}
use Rattle.rules.specs.Calls.{problem_of}
use Rattle.rules.proofs.Counting.{for_each-ext}
use Rattle.rules.proofs.Places.{within_steps}
use Rattle.rules.proofs.ByNumber.{clauses_before, starts, clause5, clause6, clause7}
use Rattle.rules.proofs.Files.{accepted_well_formed}
use Rattle.task.specs.Index.{Indexed, preconditions_before, effects_before}
use Rattle.digits.specs.Over.{Wrote}
use Rattle.digits.proofs.Overs.{wrote_nothing, wrote_more}
use Rattle.formula.specs.declared.place.Place.{Place}
use Rattle.formula.specs.declared.place.Place.TheVariants.{Precondition, Effect, Stays}
use Rattle.formula.specs.InFamily.{width_of, number_in, place_number}
use Rattle.lines.specs.Written.{pair_room, line_room}
use Rattle.lines.specs.AtPlace.{place_line, RoomFor, PairRoomFor}
use Rattle.parts.specs.Runs.{run, PutPart}

-- ---- any places

-- the places r behind one
abbrev pub stays_from : (s x v : ℕ) → ℕ → Place
stays_from s x v r = Stays s x (v + r)

abbrev pub precondition_from : (s a i : ℕ) → ℕ → Place
precondition_from s a i r = Precondition s a (i + r)

abbrev pub effect_from : (s a i : ℕ) → ℕ → Place
effect_from s a i r = Effect s a (i + r)

-- the lines of the first places are written
pub record LinesPut (file : List ℕ) (k : ℕ) (places : ℕ → Place) (room : List ℕ) (at left lines : ℕ) (now : List ℕ) (end : ℕ) : Type 0 where
  pub so_far : Wrote room at (for_each lines (λ r. place_line file k (places r))) now end
  pub kept : length now ≡ length room
  pub moved : lines ≡ 0 → end ≡ at
  pub up_to : lines ≤ left
  pub within : end ≤ length room

pub lines_start : (file : List ℕ) (k : ℕ) (places : ℕ → Place) (room : List ℕ) (at left enough : ℕ) → at + enough ≤ length room → LinesPut file k places room at left 0 room at
unfolding for_each
lines_start file k places room at left enough h =
    record { so_far = wrote_nothing room at; kept = refl; moved = λ z. refl; up_to = omega arith; within = omega arith }

module _ (file : List ℕ) (k : ℕ) (places : ℕ → Place) (room : List ℕ) (at left lines : ℕ) (now : List ℕ) (end : ℕ) (p : LinesPut file k places room at left lines now end) where
  pub end_inside : end ≤ length now
  end_inside = omega (arith, p.within, p.kept)

  pub lines_more : (next : List ℕ) (behind enough : ℕ) → lines < left → enough ≤ length now - end → Wrote now end (place_line file k (places lines)) next behind
      → behind ≤ end + enough → length next ≡ length now → LinesPut file k places room at left (lines + 1) next behind
  unfolding for_each
  lines_more next behind enough h fits w l kept =
      rw (add-one lines)
      (record {
        so_far = wrote_more room now next at end behind (for_each lines (λ r. place_line file k (places r))) (place_line file k (places lines)) p.so_far w;
        kept = kept ∙ p.kept;
        moved = λ z. absurd (omega arith);
        up_to = omega arith;
        within = omega (arith, p.kept, p.within);
      })

  -- where the room ends, some were written
  some_lines : (enough : ℕ) → length now - end < enough → at + enough ≤ length room → 1 ≤ lines
  some_lines enough short h = some lines p.moved
    where
      some : (m : ℕ) → (m ≡ 0 → end ≡ at) → 1 ≤ m
      some zero moved = absurd (omega (arith, moved refl, p.kept))
      some (suc m) moved = omega arith

  -- all of them are a part of a run, where each line is that of its clause
  lines_part : (c : ℕ) → ((r : ℕ) → r < lines → clause_line (clause (problem_of file k) (c + r)) ≡ place_line file k (places r)) → c + lines ≤ C (problem_of file k)
      → 1 ≤ lines → PutPart file k c room at lines now end
  unfolding run
  lines_part c each up_to some =
      record {
        wrote = rw (for_each-ext lines (λ r. clause_line (clause (problem_of file k) (c + r))) (λ r. place_line file k (places r)) each) p.so_far;
        up_to = up_to;
        within = p.within;
        none = λ z. absurd (omega arith);
      }

-- a part that ends with a row of a step or before ends with its family or before
within_family : (before rows row q lines w all c : ℕ) → 1 ≤ lines → rows + (row + (q + lines - 1)) < all → before + all ≤ c → before + (rows + (row + q)) + lines ≤ c
within_family before rows row q lines w all c some l g = omega arith

last_below : (q lines w : ℕ) → 1 ≤ lines → lines ≤ w - q → q < w → q + lines - 1 < w
last_below q lines w some l h = omega arith

-- ---- family by family

module _ (file : List ℕ) (k s : ℕ) where
  abbrev T : Task
  T = task_of file

  abbrev P : Problem
  P = problem T k

  -- values that stay
  module _ (x v : ℕ) where
    stays_line : (r : ℕ) → s < k → x < n T → v + r < d T x → clause_line (clause (problem_of file k) (place_number T k (Stays s x v) + r)) ≡ place_line file k (Stays s x (v + r))
    unfolding problem_of number_in width_of place_line
    stays_line r hs hx hv = ap clause_line (clause7 P (place_number T k (Stays s x v) + r) s x (v + r) hs hx hv (omega arith))

    stays_up_to : (lines : ℕ) → s < k → x < n T → v < d T x → 1 ≤ lines → lines ≤ d T x - v → place_number T k (Stays s x v) + lines ≤ C (problem_of file k)
    unfolding problem_of number_in width_of
    stays_up_to lines hs hx hv some h =
        within_family (clauses_before T k 6) (s * S T) (off T x) v lines (d T x) (k * S T) (C P) some
        (within_steps k (n T) (d T) s x (v + lines - 1) hs hx (last_below v lines (d T x) some h hv))
        (omega (arith, (starts T k).start8, (starts T k).end))

    module _ (room now : List ℕ) (at lines end count left : ℕ) (p : LinesPut file k (stays_from s x v) room at left lines now end)
        (h : RoomFor file k (Stays s x v) at (length room)) (ec : count ≡ d T x) (el : left ≡ count - v) where
      pub stays_there : lines < left → line_room ≤ length now - end → RoomFor file k (Stays s x (v + lines)) end (length now)
      stays_there l enough =
          let inside = h.inside in
          record { inside = (inside.0, inside.1, omega arith); enough = omega (arith, p.within, p.kept) }

      stays_some : 1 ≤ lines → PutPart file k (place_number T k (Stays s x v)) room at lines now end
      stays_some some =
          let inside = h.inside in
          let few : lines ≤ d T x - v = omega (arith, p.up_to) in
          lines_part file k (stays_from s x v) room at left lines now end p (place_number T k (Stays s x v))
          (λ r l. stays_line r inside.0 inside.1 (omega arith)) (stays_up_to lines inside.0 inside.1 inside.2 some few) some

      pub stays_short : length now - end < line_room → PutPart file k (place_number T k (Stays s x v)) room at lines now end
      stays_short l = stays_some (some_lines file k (stays_from s x v) room at left lines now end p line_room l h.enough)

      pub stays_part : left ≤ lines → PutPart file k (place_number T k (Stays s x v)) room at left now end
      stays_part all =
          let inside = h.inside in
          let whole : lines ≡ left = omega (arith, p.up_to) in
          rw whole at stays_some (omega arith)

  -- preconditions of an action
  module _ (a i : ℕ) where
    abbrev preconditions : ℕ → ℕ
    preconditions a = length (action T a).preconditions

    precondition_line : (r : ℕ) → s < k → a < A T → i + r < preconditions a
        → clause_line (clause (problem_of file k) (place_number T k (Precondition s a i) + r)) ≡ place_line file k (Precondition s a (i + r))
    unfolding problem_of number_in width_of place_line preconditions_before
    precondition_line r hs ha hi = ap clause_line (clause5 P (place_number T k (Precondition s a i) + r) s a (i + r) hs ha hi (omega arith))

    preconditions_up_to : (lines : ℕ) → s < k → a < A T → i < preconditions a → 1 ≤ lines → lines ≤ preconditions a - i
        → place_number T k (Precondition s a i) + lines ≤ C (problem_of file k)
    unfolding problem_of number_in width_of preconditions_before
    preconditions_up_to lines hs ha hi some h =
        within_family (clauses_before T k 4) (s * sum_to (A T) preconditions) (sum_to a preconditions) i lines (preconditions a) (k * sum_to (A T) preconditions) (C P) some
        (within_steps k (A T) preconditions s a (i + lines - 1) hs ha (last_below i lines (preconditions a) some h hi))
        (omega (arith, (starts T k).start6, (starts T k).start7, (starts T k).start8, (starts T k).end))

    pub precondition_count : (from to : ℕ) → from ≡ preconditions_before T a → to ≡ preconditions_before T (a + 1) → to - from ≡ preconditions a
    unfolding preconditions_before sum_to
    precondition_count from to e f =
        let next : preconditions_before T (a + 1) ≡ preconditions_before T a + preconditions a = rw (add-one a) in
        omega arith

    pub precondition_counts : (from to : ℕ) → from ≡ preconditions_before T a → to ≡ preconditions_before T (a + 1) → from ≤ to
    unfolding preconditions_before sum_to
    precondition_counts from to e f =
        let next : preconditions_before T (a + 1) ≡ preconditions_before T a + preconditions a = rw (add-one a) in
        omega arith

    module _ (room now : List ℕ) (at lines end count left : ℕ) (p : LinesPut file k (precondition_from s a i) room at left lines now end)
        (h : PairRoomFor file k (Precondition s a i) at (length room)) (ec : count ≡ preconditions a) (el : left ≡ count - i) where
      pub precondition_there : lines < left → pair_room ≤ length now - end → PairRoomFor file k (Precondition s a (i + lines)) end (length now)
      precondition_there l enough =
          let inside = h.inside in
          record { inside = (inside.0, inside.1, omega arith); enough = omega (arith, p.within, p.kept) }

      precondition_some : 1 ≤ lines → PutPart file k (place_number T k (Precondition s a i)) room at lines now end
      precondition_some some =
          let inside = h.inside in
          let few : lines ≤ preconditions a - i = omega (arith, p.up_to) in
          lines_part file k (precondition_from s a i) room at left lines now end p (place_number T k (Precondition s a i))
          (λ r l. precondition_line r inside.0 inside.1 (omega arith)) (preconditions_up_to lines inside.0 inside.1 inside.2 some few) some

      pub precondition_short : length now - end < pair_room → PutPart file k (place_number T k (Precondition s a i)) room at lines now end
      precondition_short l = precondition_some (some_lines file k (precondition_from s a i) room at left lines now end p pair_room l h.enough)

      pub precondition_part : left ≤ lines → PutPart file k (place_number T k (Precondition s a i)) room at left now end
      precondition_part all =
          let inside = h.inside in
          let whole : lines ≡ left = omega (arith, p.up_to) in
          rw whole at precondition_some (omega arith)

  -- effects of an action
  module _ (a i : ℕ) where
    abbrev effects : ℕ → ℕ
    effects a = length (action T a).effects

    effect_line_lem : (r : ℕ) → s < k → a < A T → i + r < effects a
        → clause_line (clause (problem_of file k) (place_number T k (Effect s a i) + r)) ≡ place_line file k (Effect s a (i + r))
    unfolding problem_of number_in width_of place_line effects_before
    effect_line_lem r hs ha hi = ap clause_line (clause6 P (place_number T k (Effect s a i) + r) s a (i + r) hs ha hi (omega arith))

    effects_up_to : (lines : ℕ) → s < k → a < A T → i < effects a → 1 ≤ lines → lines ≤ effects a - i
        → place_number T k (Effect s a i) + lines ≤ C (problem_of file k)
    unfolding problem_of number_in width_of effects_before
    effects_up_to lines hs ha hi some h =
        within_family (clauses_before T k 5) (s * sum_to (A T) effects) (sum_to a effects) i lines (effects a) (k * sum_to (A T) effects) (C P) some
        (within_steps k (A T) effects s a (i + lines - 1) hs ha (last_below i lines (effects a) some h hi))
        (omega (arith, (starts T k).start7, (starts T k).start8, (starts T k).end))

    pub effect_count : (from to : ℕ) → from ≡ effects_before T a → to ≡ effects_before T (a + 1) → to - from ≡ effects a
    unfolding effects_before sum_to
    effect_count from to e f =
        let next : effects_before T (a + 1) ≡ effects_before T a + effects a = rw (add-one a) in
        omega arith

    pub effect_counts : (from to : ℕ) → from ≡ effects_before T a → to ≡ effects_before T (a + 1) → from ≤ to
    unfolding effects_before sum_to
    effect_counts from to e f =
        let next : effects_before T (a + 1) ≡ effects_before T a + effects a = rw (add-one a) in
        omega arith

    module _ (room now : List ℕ) (at lines end count left : ℕ) (p : LinesPut file k (effect_from s a i) room at left lines now end)
        (h : PairRoomFor file k (Effect s a i) at (length room)) (ec : count ≡ effects a) (el : left ≡ count - i) where
      pub effect_there : lines < left → pair_room ≤ length now - end → PairRoomFor file k (Effect s a (i + lines)) end (length now)
      effect_there l enough =
          let inside = h.inside in
          record { inside = (inside.0, inside.1, omega arith); enough = omega (arith, p.within, p.kept) }

      effect_some : 1 ≤ lines → PutPart file k (place_number T k (Effect s a i)) room at lines now end
      effect_some some =
          let inside = h.inside in
          let few : lines ≤ effects a - i = omega (arith, p.up_to) in
          lines_part file k (effect_from s a i) room at left lines now end p (place_number T k (Effect s a i))
          (λ r l. effect_line_lem r inside.0 inside.1 (omega arith)) (effects_up_to lines inside.0 inside.1 inside.2 some few) some

      pub effect_short : length now - end < pair_room → PutPart file k (place_number T k (Effect s a i)) room at lines now end
      effect_short l = effect_some (some_lines file k (effect_from s a i) room at left lines now end p pair_room l h.enough)

      pub effect_part : left ≤ lines → PutPart file k (place_number T k (Effect s a i)) room at left now end
      effect_part all =
          let inside = h.inside in
          let whole : lines ≡ left = omega (arith, p.up_to) in
          rw whole at effect_some (omega arith)

-- an action and the next one have rows in the index
module _ (file index : List ℕ) (ix : Indexed file index) (a : ℕ) (h : a < A (task_of file)) where
  few : A (task_of file) ≤ max_actions
  few = (accepted_well_formed file ix.accepted).actions_few

  pub row_here : a ≤ max_actions
  row_here = omega (arith, few)

  pub row_next : a + 1 ≤ max_actions
  row_next = omega (arith, few)

  pub row_fits : Fits w64 (a + 1)
  row_fits = record { fits = omega (arith, few) }
