-- Bodies kept in lent memory line by line: a size, a start value, a goal pair, an action's pairs, and the end of an action. The pairs of the action
-- that is being read stand behind the actions kept, preconditions first, with room for its two counts before them.
-- Assumes nothing.
use Rattle.std.specs.Prelude.{ℕ, ◌+◌, ◌-◌, ◌*◌, min, ◌≤◌, Bool, false, cond, List, [], ◌∷◌, ◌++◌, ltb, take, drop, set}
use Rattle.rules.specs.Limits.{max_variables, max_goals, max_actions, max_pairs, max_action, byte_values, pair_bytes, count_bytes}
use Rattle.rules.specs.Task.{Pair}
use Rattle.rules.specs.File.{pairs_at, pair_text}
use Rattle.rules.specs.Format.{put_in_order}
use Rattle.digits.specs.Over.{over}
use Rattle.bodies.specs.declared.Kept.{Kept}
use Rattle.bodies.specs.declared.Excess.{Excess}
use Rattle.bodies.specs.declared.Excess.TheVariants.{Within, Lengths, Actions}

-- what is kept, and the lent bytes of the one body that an operation writes to
pub record Keeping : Type 0 where
  pub kept : Kept
  pub body : List ℕ

abbrev pub keeps : Kept → List ℕ → Keeping
keeps kept body = record { kept = kept; body = body }

abbrev pub nothing_kept : Kept
nothing_kept = record { sizes = 0; starts = 0; goals = 0; actions = 0; bytes = 0; preconditions = 0; effects = 0; excess = Within }

-- room for the goal at its limit, and for all actions and the pairs of one more
abbrev pub goal_room : ℕ
goal_room = pair_bytes * max_goals

abbrev pub actions_room : ℕ
actions_room = (max_actions + 1) * max_action

-- no count is over its limit
pub record Sound (k : Kept) : Type 0 where
  pub sizes : k.sizes ≤ max_variables
  pub starts : k.starts ≤ max_variables
  pub goals : k.goals ≤ max_goals
  pub actions : k.actions ≤ max_actions
  pub bytes : k.bytes ≤ max_action * k.actions
  pub preconditions : k.preconditions ≤ max_pairs
  pub effects : k.effects ≤ max_pairs

-- ---- one number, one pair

-- the largest byte stands for every larger number
abbrev pub as_byte : ℕ → ℕ
as_byte m = min m (byte_values - 1)

abbrev pub byte_pair : Pair → Pair
byte_pair p = record { variable = as_byte p.variable; value = as_byte p.value }

-- a pair put in order into the count pairs from place at on; so many bytes behind them move up
unfoldable pub with_pair : List ℕ → (at count behind : ℕ) → Pair → List ℕ
with_pair s at count behind p = over s at (pair_text (put_in_order p (pairs_at s at count)) ++ take behind (drop (at + pair_bytes * count) s))

-- where the pairs of the action that is being read begin, and those of its effects
abbrev pub preconditions_at : Kept → ℕ
preconditions_at k = k.bytes + count_bytes

abbrev pub effects_at : Kept → ℕ
effects_at k = preconditions_at k + pair_bytes * k.preconditions

-- ---- the counts afterwards

abbrev pub beyond : Excess → Kept → Kept
beyond excess k =
    record { sizes = k.sizes; starts = k.starts; goals = k.goals; actions = k.actions; bytes = k.bytes; preconditions = k.preconditions; effects = k.effects; excess = excess }

abbrev pub one_size : Kept → Kept
one_size k =
    record { sizes = k.sizes + 1; starts = k.starts; goals = k.goals; actions = k.actions; bytes = k.bytes; preconditions = k.preconditions; effects = k.effects; excess = k.excess }

abbrev pub one_start : Kept → Kept
one_start k =
    record { sizes = k.sizes; starts = k.starts + 1; goals = k.goals; actions = k.actions; bytes = k.bytes; preconditions = k.preconditions; effects = k.effects; excess = k.excess }

abbrev pub one_goal : Kept → Kept
one_goal k =
    record { sizes = k.sizes; starts = k.starts; goals = k.goals + 1; actions = k.actions; bytes = k.bytes; preconditions = k.preconditions; effects = k.effects; excess = k.excess }

abbrev pub one_precondition : Kept → Kept
one_precondition k =
    record { sizes = k.sizes; starts = k.starts; goals = k.goals; actions = k.actions; bytes = k.bytes; preconditions = k.preconditions + 1; effects = k.effects; excess = k.excess }

abbrev pub one_effect : Kept → Kept
one_effect k =
    record { sizes = k.sizes; starts = k.starts; goals = k.goals; actions = k.actions; bytes = k.bytes; preconditions = k.preconditions; effects = k.effects + 1; excess = k.excess }

abbrev pub one_action : Kept → Kept
one_action k =
    record {
      sizes = k.sizes;
      starts = k.starts;
      goals = k.goals;
      actions = k.actions + 1;
      bytes = k.bytes + (count_bytes + pair_bytes * (k.preconditions + k.effects));
      preconditions = 0;
      effects = 0;
      excess = k.excess;
    }

-- no limit has been gone beyond, and one more is within this one
abbrev pub one_fits : Excess → (count limit : ℕ) → Bool
one_fits Within count limit = ltb count limit
one_fits Lengths count limit = false
one_fits Actions count limit = false

-- the first limit that was gone beyond stays
abbrev pub excess_with : Excess → Excess → Excess
excess_with Within excess = excess
excess_with Lengths excess = Lengths
excess_with Actions excess = Actions

-- nothing more is kept
abbrev pub no_more : Excess → Kept → Kept
no_more excess k = beyond (excess_with k.excess excess) k

-- ---- what an operation keeps: beyond a limit nothing; at a limit only that it is gone beyond

abbrev pub kept : Excess → (fits : Bool) → Excess → Keeping → Keeping → Keeping
kept Within fits excess k next = cond fits next (keeps (beyond excess k.kept) k.body)
kept Lengths fits excess k next = k
kept Actions fits excess k next = k

unfoldable pub keep_size : ℕ → Keeping → Keeping
keep_size size k =
    kept k.kept.excess (ltb k.kept.sizes max_variables) Lengths k (keeps (one_size k.kept) (set k.body k.kept.sizes (as_byte size)))

unfoldable pub keep_start : ℕ → Keeping → Keeping
keep_start value k =
    kept k.kept.excess (ltb k.kept.starts max_variables) Lengths k (keeps (one_start k.kept) (set k.body k.kept.starts (as_byte value)))

unfoldable pub keep_goal : Pair → Keeping → Keeping
keep_goal p k =
    kept k.kept.excess (ltb k.kept.goals max_goals) Lengths k (keeps (one_goal k.kept) (with_pair k.body 0 k.kept.goals 0 (byte_pair p)))

unfoldable pub keep_precondition : Pair → Keeping → Keeping
keep_precondition p k =
    kept k.kept.excess (ltb k.kept.preconditions max_pairs) Actions k
    (keeps (one_precondition k.kept) (with_pair k.body (preconditions_at k.kept) k.kept.preconditions (pair_bytes * k.kept.effects) (byte_pair p)))

unfoldable pub keep_effect : Pair → Keeping → Keeping
keep_effect p k =
    kept k.kept.excess (ltb k.kept.effects max_pairs) Actions k
    (keeps (one_effect k.kept) (with_pair k.body (effects_at k.kept) k.kept.effects 0 (byte_pair p)))

-- the counts are written before the pairs
unfoldable pub keep_action : Keeping → Keeping
keep_action k =
    kept k.kept.excess (ltb k.kept.actions max_actions) Actions k
    (keeps (one_action k.kept) (over k.body k.kept.bytes (k.kept.preconditions ∷ k.kept.effects ∷ [])))
