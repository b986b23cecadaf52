-- `supporters::supporter_count` meets its contract.
-- Assumes nothing.
use Rattle.std.proofs.Common.{rules, tests, arith, ◌≡◌, length}
use Rattle.std.specs.List.{filter, range_with_len}
use Rattle.std.proofs.lemmas.Iterator.{YieldsList-from_range}
use Rattle.std.proofs.lemmas.Iterator.Consumers.{YieldsList-from_filter, count_from_yields_List}
use Rattle.rules.specs.File.{task_of}
use Rattle.formula.specs.Front.{is_given}
use Rattle.formula.proofs.Supported.{count_all, count_few}
use Rattle.formula.proofs.supporters.supporter_count.Goals as goal

pub returns : goal.returns
returns c =
    let kept : c.count.result ≡ length (filter (λ a. is_given (task_of c.args.task.now.file.now) a c.args.x c.args.v) (range_with_len 0 c.actions.result)) =
    count_from_yields_List c.filter.result _ c.count.ensures.ran
    (YieldsList-from_filter _ (λ a. is_given (task_of c.args.task.now.file.now) a c.args.x c.args.v) (YieldsList-from_range 0 c.actions.result c.actions.result c.filter.ensures.source (omega arith)) c.filter.ensures.closure (λ a b q k. search (rules, tests))) in
    (search (rules, count_all, kept), search (rules, count_few, kept))
