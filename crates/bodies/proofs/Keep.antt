-- The operations of this crate by their two exits: nothing more is kept, or one more is.
-- Assumes nothing.
use mathlib.Core.Path.{◌≡◌, refl, sym, ap, ◌∙◌}
use mathlib.Core.Bool.{Bool, true, false, not}
use mathlib.Core.List.{List, [], ◌∷◌}
use Prim.Native.Nat.{ℕ, suc, ◌+◌, ◌*◌, ◌≤◌, ◌<◌}
use native.Mathlib.Omega.{arith}
use borrow.Author.Tests.{ltb-true}
use lib.Dec.{ltb}
use lib.ListN.{length, set}
use Rattle.rules.specs.Limits.{max_variables, max_goals, max_actions, max_pairs, pair_bytes}
use Rattle.rules.specs.Task.{Pair}
use Rattle.rules.proofs.Bools.{not_true, not_false, clash}
use Rattle.digits.specs.Over.{over}
use Rattle.digits.proofs.Overs.{sets_over}
use Rattle.bodies.specs.Keeping.{Keeping, keeps, Sound, actions_room, as_byte, with_pair, preconditions_at, effects_at, one_size, one_start, one_goal, one_precondition, one_effect, one_action, beyond, one_fits, excess_with, no_more, kept, keep_size, keep_start, keep_goal, keep_precondition, keep_effect, keep_action}
use Rattle.bodies.specs.declared.Kept.{Kept}
use Rattle.bodies.specs.declared.Excess.{Excess}
use Rattle.bodies.specs.declared.Excess.TheVariants.{Within, Lengths, Actions}
use Rattle.bodies.proofs.KeepSound.{counts_room}

-- ---- the test

-- a count that has room is below its limit
pub room_below : (e : Excess) (count limit : ℕ) (b : Bool) → b ≡ one_fits e count limit → not b ≡ false → count < limit
room_below Within count limit b e t = ltb-true count limit (sym e ∙ not_false b t)
room_below Lengths count limit b e t = clash (sym e ∙ not_false b t) refl
room_below Actions count limit b e t = clash (sym e ∙ not_false b t) refl

-- ---- nothing more is kept

none_more : (k : Kept) (s : List ℕ) (e : Excess) (count limit : ℕ) (excess : Excess) (next : Keeping) → k.excess ≡ e → one_fits e count limit ≡ false
    → keeps (beyond (excess_with e excess) k) s ≡ kept e (ltb count limit) excess (keeps k s) next
none_more k s Within count limit excess next p h = rw h
none_more k s Lengths count limit excess next p h = ap (λ x. keeps (beyond x k) s) (sym p)
none_more k s Actions count limit excess next p h = ap (λ x. keeps (beyond x k) s) (sym p)

-- b is what the test said, and r what is kept after it
module _ (k r : Kept) (s : List ℕ) (b : Bool) (t : not b ≡ true) where
  not_kept : (count limit : ℕ) (excess : Excess) (next : Keeping) → b ≡ one_fits k.excess count limit → r ≡ no_more excess k
      → keeps r s ≡ kept k.excess (ltb count limit) excess (keeps k s) next
  not_kept count limit excess next f e =
      ap (λ x. keeps x s) e ∙ none_more k s k.excess count limit excess next refl (sym f ∙ not_true b t)

  pub size_not_kept : (size : ℕ) → b ≡ one_fits k.excess k.sizes max_variables → r ≡ no_more Lengths k → keeps r s ≡ keep_size size (keeps k s)
  unfolding keep_size
  size_not_kept size f e = not_kept k.sizes max_variables Lengths _ f e

  pub start_not_kept : (value : ℕ) → b ≡ one_fits k.excess k.starts max_variables → r ≡ no_more Lengths k → keeps r s ≡ keep_start value (keeps k s)
  unfolding keep_start
  start_not_kept value f e = not_kept k.starts max_variables Lengths _ f e

  pub goal_not_kept : (p : Pair) → b ≡ one_fits k.excess k.goals max_goals → r ≡ no_more Lengths k → keeps r s ≡ keep_goal p (keeps k s)
  unfolding keep_goal
  goal_not_kept p f e = not_kept k.goals max_goals Lengths _ f e

  pub precondition_not_kept : (p : Pair) → b ≡ one_fits k.excess k.preconditions max_pairs → r ≡ no_more Actions k → keeps r s ≡ keep_precondition p (keeps k s)
  unfolding keep_precondition
  precondition_not_kept p f e = not_kept k.preconditions max_pairs Actions _ f e

  pub effect_not_kept : (p : Pair) → b ≡ one_fits k.excess k.effects max_pairs → r ≡ no_more Actions k → keeps r s ≡ keep_effect p (keeps k s)
  unfolding keep_effect
  effect_not_kept p f e = not_kept k.effects max_pairs Actions _ f e

  pub action_not_kept : b ≡ one_fits k.excess k.actions max_actions → r ≡ no_more Actions k → keeps r s ≡ keep_action (keeps k s)
  unfolding keep_action
  action_not_kept f e = not_kept k.actions max_actions Actions _ f e

-- ---- one more is kept

one_more_lem : (k : Keeping) (e : Excess) (count limit : ℕ) (excess : Excess) (next : Keeping) → one_fits e count limit ≡ true
    → next ≡ kept e (ltb count limit) excess k next
one_more_lem k Within count limit excess next h = rw h
one_more_lem k Lengths count limit excess next h = clash h refl
one_more_lem k Actions count limit excess next h = clash h refl

module _ (k : Kept) (s : List ℕ) (b : Bool) (t : not b ≡ false) where
  is_kept : (count limit : ℕ) (excess : Excess) (next : Keeping) → b ≡ one_fits k.excess count limit
      → next ≡ kept k.excess (ltb count limit) excess (keeps k s) next
  is_kept count limit excess next f = one_more_lem (keeps k s) k.excess count limit excess next (sym f ∙ not_false b t)

  pub size_kept : (size v : ℕ) → b ≡ one_fits k.excess k.sizes max_variables → v ≡ as_byte size
      → keeps (one_size k) (set s k.sizes v) ≡ keep_size size (keeps k s)
  unfolding keep_size
  size_kept size v f e = rw e (is_kept k.sizes max_variables Lengths _ f)

  pub start_kept : (value v : ℕ) → b ≡ one_fits k.excess k.starts max_variables → v ≡ as_byte value
      → keeps (one_start k) (set s k.starts v) ≡ keep_start value (keeps k s)
  unfolding keep_start
  start_kept value v f e = rw e (is_kept k.starts max_variables Lengths _ f)

  -- v and w are the pair's two bytes
  pub goal_kept : (p : Pair) (after : List ℕ) (v w : ℕ) → b ≡ one_fits k.excess k.goals max_goals → v ≡ as_byte p.variable → w ≡ as_byte p.value
      → after ≡ with_pair s 0 k.goals 0 (record { variable = v; value = w }) → keeps (one_goal k) after ≡ keep_goal p (keeps k s)
  unfolding keep_goal
  goal_kept p after v w f ev ew e = rw (e, ev, ew) (is_kept k.goals max_goals Lengths _ f)

  pub precondition_kept : (p : Pair) (after : List ℕ) (v w : ℕ) → b ≡ one_fits k.excess k.preconditions max_pairs → v ≡ as_byte p.variable
      → w ≡ as_byte p.value → after ≡ with_pair s (preconditions_at k) k.preconditions (pair_bytes * k.effects) (record { variable = v; value = w })
      → keeps (one_precondition k) after ≡ keep_precondition p (keeps k s)
  unfolding keep_precondition
  precondition_kept p after v w f ev ew e =
      rw (e, ev, ew) (is_kept k.preconditions max_pairs Actions _ f)

  pub effect_kept_lem : (p : Pair) (after : List ℕ) (v w : ℕ) → b ≡ one_fits k.excess k.effects max_pairs → v ≡ as_byte p.variable
      → w ≡ as_byte p.value → after ≡ with_pair s (effects_at k) k.effects 0 (record { variable = v; value = w })
      → keeps (one_effect k) after ≡ keep_effect p (keeps k s)
  unfolding keep_effect
  effect_kept_lem p after v w f ev ew e = rw (e, ev, ew) (is_kept k.effects max_pairs Actions _ f)

  pub action_kept : b ≡ one_fits k.excess k.actions max_actions → Sound k → actions_room ≤ length s
      → keeps (one_action k) (set (set s k.bytes k.preconditions) (k.bytes + 1) k.effects) ≡ keep_action (keeps k s)
  unfolding keep_action
  action_kept f sound room =
      let counts : List ℕ = k.preconditions ∷ k.effects ∷ [] in
      let fit = counts_room k s sound (room_below k.excess k.actions max_actions b f t) room in
      let one : k.bytes + 1 ≡ suc k.bytes = omega arith in
      let written : set (set s k.bytes k.preconditions) (k.bytes + 1) k.effects ≡ over s k.bytes counts =
      rw one (sets_over s k.bytes counts (omega arith)) in
      rw written (is_kept k.actions max_actions Actions _ f)
