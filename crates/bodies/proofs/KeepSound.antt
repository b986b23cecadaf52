-- No count goes over its limit, and what is kept has room.
-- Assumes nothing.
use mathlib.Core.List.{List}
use Prim.Native.Nat.{ℕ, ◌+◌, ◌*◌, ◌≤◌, ◌<◌}
use native.Mathlib.Omega.{arith}
use lib.ListN.{length}
use Rattle.rules.specs.Limits.{max_variables, max_goals, max_actions, max_pairs, pair_bytes, count_bytes}
use Rattle.bodies.specs.Keeping.{Sound, goal_room, actions_room, preconditions_at, effects_at, beyond, one_size, one_start, one_goal, one_precondition, one_effect, one_action}
use Rattle.bodies.specs.declared.Kept.{Kept}
use Rattle.bodies.specs.declared.Excess.{Excess}

pub sound_beyond : (k : Kept) (excess : Excess) → Sound k → Sound (beyond excess k)
sound_beyond k excess h =
    record {
      sizes = h.sizes;
      starts = h.starts;
      goals = h.goals;
      actions = h.actions;
      bytes = h.bytes;
      preconditions = h.preconditions;
      effects = h.effects;
    }

pub sound_size : (k : Kept) → Sound k → k.sizes < max_variables → Sound (one_size k)
sound_size k h below =
    record {
      sizes = omega arith;
      starts = h.starts;
      goals = h.goals;
      actions = h.actions;
      bytes = h.bytes;
      preconditions = h.preconditions;
      effects = h.effects;
    }

pub sound_start : (k : Kept) → Sound k → k.starts < max_variables → Sound (one_start k)
sound_start k h below =
    record {
      sizes = h.sizes;
      starts = omega arith;
      goals = h.goals;
      actions = h.actions;
      bytes = h.bytes;
      preconditions = h.preconditions;
      effects = h.effects;
    }

pub sound_goal : (k : Kept) → Sound k → k.goals < max_goals → Sound (one_goal k)
sound_goal k h below =
    record {
      sizes = h.sizes;
      starts = h.starts;
      goals = omega arith;
      actions = h.actions;
      bytes = h.bytes;
      preconditions = h.preconditions;
      effects = h.effects;
    }

pub sound_precondition : (k : Kept) → Sound k → k.preconditions < max_pairs → Sound (one_precondition k)
sound_precondition k h below =
    record {
      sizes = h.sizes;
      starts = h.starts;
      goals = h.goals;
      actions = h.actions;
      bytes = h.bytes;
      preconditions = omega arith;
      effects = h.effects;
    }

pub sound_effect : (k : Kept) → Sound k → k.effects < max_pairs → Sound (one_effect k)
sound_effect k h below =
    record {
      sizes = h.sizes;
      starts = h.starts;
      goals = h.goals;
      actions = h.actions;
      bytes = h.bytes;
      preconditions = h.preconditions;
      effects = omega arith;
    }

pub sound_action : (k : Kept) → Sound k → k.actions < max_actions → Sound (one_action k)
sound_action k h below =
    record {
      sizes = h.sizes;
      starts = h.starts;
      goals = h.goals;
      actions = omega arith;
      bytes = omega arith;
      preconditions = omega arith;
      effects = omega arith;
    }

-- ---- room

pub count_room : (s : List ℕ) (count : ℕ) → count < max_variables → max_variables ≤ length s → count < length s
count_room s count below room = omega arith

pub goal_room_lem : (k : Kept) (s : List ℕ) → k.goals < max_goals → goal_room ≤ length s → 0 + pair_bytes * k.goals + 0 + pair_bytes ≤ length s
goal_room_lem k s below room = omega arith

pub precondition_room : (k : Kept) (s : List ℕ) → Sound k → k.preconditions < max_pairs → actions_room ≤ length s
    → preconditions_at k + pair_bytes * k.preconditions + pair_bytes * k.effects + pair_bytes ≤ length s
precondition_room k s h below room = omega arith

pub effect_room : (k : Kept) (s : List ℕ) → Sound k → k.effects < max_pairs → actions_room ≤ length s
    → effects_at k + pair_bytes * k.effects + 0 + pair_bytes ≤ length s
effect_room k s h below room = omega arith

-- the two counts before an action's pairs
pub counts_room : (k : Kept) (s : List ℕ) → Sound k → k.actions < max_actions → actions_room ≤ length s → k.bytes + count_bytes ≤ length s
counts_room k s h below room = omega arith
