-- `supporters::is_given` meets its contract.
-- Assumes nothing.
use Rattle.std.proofs.Common.{rules, tests, arith, refl, ◌∙◌}
use Rattle.std.proofs.lemmas.Iterator.{YieldsList-from_range}
use Rattle.std.proofs.lemmas.Iterator.Search.{any_from_yields_List}
use Rattle.rules.specs.File.{task_of}
use Rattle.formula.specs.Front.{gives_by}
use Rattle.formula.proofs.Supported.{effects_there, given_by_any}
use Rattle.formula.proofs.supporters.is_given.Goals as goal

pub returns : goal.returns
returns c =
    any_from_yields_List (gives_by (task_of c.args.task.now.file.now) c.args.a c.args.x c.args.v) _ _ c.any.result c.any.ensures.ran (YieldsList-from_range 0 c.effect_count.result c.effect_count.result refl (omega arith)) (λ i b q k. search (rules, tests))
    ∙ given_by_any (task_of c.args.task.now.file.now) c.args.a c.args.x c.args.v c.effect_count.result (search (rules, effects_there))
