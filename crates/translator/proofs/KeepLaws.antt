-- What a line adds: what an operation on the actions makes of all that is kept.
-- Assumes nothing.
use Prim.Native.Nat.{ℕ}
use mathlib.Core.Path.{◌≡◌, ap}
use mathlib.Core.List.{List}
use Rattle.rules.specs.declared.FormatLine.{FormatLine}
use Rattle.rules.specs.declared.FormatLine.TheVariants.{Effect}
use Rattle.textlines.specs.declared.Numbers.{Numbers}
use Rattle.bodies.specs.declared.Kept.{Kept}
use Rattle.bodies.specs.Keeping.{Keeping, keeps}
use Rattle.translator.specs.Intake.{in_actions, memory, kept_in, effect_kept, keep_line}

module _ (due : FormatLine) (said : Numbers) (kept r : Kept) (sizes start goal actions after : List ℕ) where
  -- what an operation on the actions makes of all that is kept
  in_actions_lem : (f : Keeping → Keeping) → keeps r after ≡ f (keeps kept actions)
      → kept_in r (memory sizes start goal after) ≡ in_actions f (kept_in kept (memory sizes start goal actions))
  in_actions_lem f h = ap (λ k. kept_in k.kept (memory sizes start goal k.body)) h

  pub effect_kept_lem : due ≡ Effect → keeps r after ≡ effect_kept said (keeps kept actions)
      → kept_in r (memory sizes start goal after) ≡ keep_line due said (kept_in kept (memory sizes start goal actions))
  unfolding keep_line
  effect_kept_lem e h = rw e (in_actions_lem (effect_kept said) h)
