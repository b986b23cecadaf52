-- No operation changes how long a body's lent bytes are.
-- Assumes nothing.
use mathlib.Core.Path.{◌≡◌, refl}
use mathlib.Core.Bool.{Bool, true, false}
use mathlib.Core.List.{List, [], ◌∷◌}
use Prim.Native.Nat.{ℕ, ◌≤◌}
use borrow.Author.Tests.{ltb-true}
use lib.Dec.{ltb}
use lib.ListN.{length, length-set}
use Rattle.rules.specs.Limits.{max_goals, max_actions, max_pairs}
use Rattle.rules.specs.Task.{Pair}
use Rattle.digits.proofs.Overs.{length_over}
use Rattle.bodies.specs.Keeping.{Keeping, keeps, Sound, goal_room, actions_room, as_byte, byte_pair, preconditions_at, effects_at, kept, keep_size, keep_start, keep_goal, keep_precondition, keep_effect, keep_action}
use Rattle.bodies.specs.declared.Kept.{Kept}
use Rattle.bodies.specs.declared.Excess.{Excess}
use Rattle.bodies.specs.declared.Excess.TheVariants.{Within, Lengths, Actions}
use Rattle.bodies.proofs.InOrderBytes.{length-with_pair}
use Rattle.bodies.proofs.KeepSound.{goal_room_lem, precondition_room, effect_room, counts_room}

-- nothing is kept, or what is kept next is as long
as_long : (e : Excess) (b : Bool) (excess : Excess) (k next : Keeping) → (b ≡ true → length next.body ≡ length k.body)
    → length (kept e b excess k next).body ≡ length k.body
as_long Within true excess k next h = h refl
as_long Within false excess k next h = refl
as_long Lengths b excess k next h = refl
as_long Actions b excess k next h = refl

module _ (k : Kept) (s : List ℕ) where
  pub length-keep_size : (size : ℕ) → length (keep_size size (keeps k s)).body ≡ length s
  unfolding keep_size
  length-keep_size size = as_long k.excess _ Lengths (keeps k s) _ (λ t. length-set s k.sizes (as_byte size))

  pub length-keep_start : (value : ℕ) → length (keep_start value (keeps k s)).body ≡ length s
  unfolding keep_start
  length-keep_start value = as_long k.excess _ Lengths (keeps k s) _ (λ t. length-set s k.starts (as_byte value))

  pub length-keep_goal : (p : Pair) → goal_room ≤ length s → length (keep_goal p (keeps k s)).body ≡ length s
  unfolding keep_goal
  length-keep_goal p room =
      as_long k.excess (ltb k.goals max_goals) Lengths (keeps k s) _ (λ t.
      length-with_pair s 0 k.goals 0 (byte_pair p) (goal_room_lem k s (ltb-true _ _ t) room))

  module _ (h : Sound k) (room : actions_room ≤ length s) where
    pub length-keep_precondition : (p : Pair) → length (keep_precondition p (keeps k s)).body ≡ length s
    unfolding keep_precondition
    length-keep_precondition p =
        as_long k.excess (ltb k.preconditions max_pairs) Actions (keeps k s) _ (λ t.
        length-with_pair s (preconditions_at k) k.preconditions _ (byte_pair p) (precondition_room k s h (ltb-true _ _ t) room))

    pub length-keep_effect : (p : Pair) → length (keep_effect p (keeps k s)).body ≡ length s
    unfolding keep_effect
    length-keep_effect p =
        as_long k.excess (ltb k.effects max_pairs) Actions (keeps k s) _ (λ t.
        length-with_pair s (effects_at k) k.effects 0 (byte_pair p) (effect_room k s h (ltb-true _ _ t) room))

    pub length-keep_action : length (keep_action (keeps k s)).body ≡ length s
    unfolding keep_action
    length-keep_action =
        as_long k.excess (ltb k.actions max_actions) Actions (keeps k s) _ (λ t.
        length_over s k.bytes (k.preconditions ∷ k.effects ∷ []) (counts_room k s h (ltb-true _ _ t) room))
