-- `digits::words::put8` meets its contract.
-- Assumes nothing.
use mathlib.Core.Path.{◌∙◌}
use native.Mathlib.Omega.{arith}
use Rattle.digits.proofs.Overs.{part_over}
use Rattle.digits.proofs.InWords.{length-low, eight_are_low}
use Rattle.digits.proofs.words.put8.Goals as goal

pub returns : goal.returns
returns c = part_over _ _ _ _ _ (c.copy_from_slice.ensures.after ∙ (c.to_le_bytes.ensures ∙ eight_are_low c.args.w)) (omega (arith, length-low 8 c.args.w))
