-- `clear` meets its contract.
-- Assumes nothing.
use mathlib.Core.Path.{refl}
use Rattle.rows.proofs.Bits.{cleared}
use Rattle.rows.proofs.clear.Goals as goal

pub returns : goal.returns
returns c = cleared c.args.row.now c.fill.new.self c.args.words _ c.requires refl (c.fill.ensures.after (λ y k. k))
