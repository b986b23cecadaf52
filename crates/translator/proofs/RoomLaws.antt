-- Room: the tests together are the definition's, and what they say of a reading.
-- Assumes nothing.
use Prim.Native.Nat.{ℕ, ◌*◌, ◌≤◌}
use mathlib.Core.Path.{◌≡◌, sym, ◌∙◌}
use mathlib.Core.Bool.{Bool, true, false, not, ◌&&◌}
use mathlib.Core.List.{List}
use borrow.Author.Tests.{leb-true}
use lib.Dec.{leb}
use lib.ListN.{length}
use Rattle.rules.specs.Limits.{max_variables, max_goals, max_actions, max_pairs, max_action}
use Rattle.rules.proofs.Bools.{and_left, and_right, not_false}
use Rattle.bodies.specs.declared.Kept.{Kept}
use Rattle.bodies.specs.Keeping.{Sound, goal_room, actions_room}
use Rattle.translator.specs.Intake.{Memory, Lent, head_room, taken, Ready, actions_fit, counts_fit, lent_fits, has_room}
use Rattle.translator.specs.declared.intake.Intake.{Intake}

-- ---- what the tests say

counts_sound : (k : Kept) → counts_fit k ≡ true → Sound k
unfolding counts_fit actions_fit
counts_sound k h =
    let s : Bool = leb k.sizes max_variables in
    let t : Bool = leb k.starts max_variables in
    let g : Bool = leb k.goals max_goals in
    let a : Bool = leb k.actions max_actions in
    let b : Bool = leb k.bytes (max_action * k.actions) in
    let p : Bool = leb k.preconditions max_pairs in
    let e : Bool = leb k.effects max_pairs in
    let h1 : (s && t && g && (a && b) && p) ≡ true = and_left (s && t && g && (a && b) && p) e h in
    let h2 : (s && t && g && (a && b)) ≡ true = and_left (s && t && g && (a && b)) p h1 in
    let h3 : (s && t && g) ≡ true = and_left (s && t && g) (a && b) h2 in
    let h4 : (s && t) ≡ true = and_left (s && t) g h3 in
    let h5 : (a && b) ≡ true = and_right (s && t && g) (a && b) h2 in
    record {
      sizes = leb-true k.sizes max_variables (and_left s t h4);
      starts = leb-true k.starts max_variables (and_right s t h4);
      goals = leb-true k.goals max_goals (and_right (s && t) g h3);
      actions = leb-true k.actions max_actions (and_left a b h5);
      bytes = leb-true k.bytes (max_action * k.actions) (and_right a b h5);
      preconditions = leb-true k.preconditions max_pairs (and_right (s && t && g && (a && b)) p h1);
      effects = leb-true k.effects max_pairs (and_right (s && t && g && (a && b) && p) e h);
    }

lent_enough : (m : Memory) (line : ℕ) → lent_fits m line ≡ true
    → Lent m × (head_room ≤ line)
unfolding lent_fits
lent_enough m line h =
    let s : Bool = leb max_variables (length m.sizes) in
    let t : Bool = leb max_variables (length m.start) in
    let g : Bool = leb goal_room (length m.goal) in
    let a : Bool = leb actions_room (length m.actions) in
    let l : Bool = leb head_room line in
    let h1 : (s && t && g && a) ≡ true = and_left (s && t && g && a) l h in
    let h2 : (s && t && g) ≡ true = and_left (s && t && g) a h1 in
    let h3 : (s && t) ≡ true = and_left (s && t) g h2 in (
      record {
        sizes = leb-true max_variables (length m.sizes) (and_left s t h3);
        start = leb-true max_variables (length m.start) (and_right s t h3);
        goal = leb-true goal_room (length m.goal) (and_right (s && t) g h2);
        actions = leb-true actions_room (length m.actions) (and_right (s && t && g) a h1);
      },
      leb-true head_room line (and_right (s && t && g && a) l h),
    )

module _ (i : Intake) (m : Memory) (line : List ℕ) where
  pub room_ready : (r : Bool) → r ≡ has_room (taken i m line)
      → not r ≡ false → Ready (taken i m line)
  unfolding has_room
  room_ready r e k =
      let c : Bool = counts_fit i.kept in
      let h : Bool = leb i.held head_room in
      let l : Bool = lent_fits m (length line) in
      let all : (c && h && l) ≡ true = sym e ∙ not_false r k in
      let lent : Lent m × (head_room ≤ length line) = lent_enough m (length line) (and_right (c && h) l all) in
      record {
        kept = counts_sound i.kept (and_left c h (and_left (c && h) l all));
        held = leb-true i.held head_room (and_right c h (and_left (c && h) l all));
        lent = lent.0;
        line = lent.1;
      }
