-- `sum_of_sizes` meets its contract.
-- Assumes nothing.
use Rattle.std.proofs.Common.{rules, ◌≡◌, ◌∙◌, sum_by}
use Rattle.reader.proofs.ReadChecks.{sum_is}
use Rattle.reader.proofs.checks.sum_of_sizes.Goals as goal

pub returns : goal.returns
returns c =
    let e : c.sum.result ≡ sum_by (λ x. x) c.args.sizes.now = search rules in
    e ∙ sum_is c.args.sizes.now
