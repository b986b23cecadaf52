-- `clauses::put_effect` meets its contract.
-- Assumes nothing.
use Rattle.formula.proofs.Spelled.{effect_variable, effect_value}
use Rattle.lines.proofs.ByPlace.{effect_line_lem}
use borrow.Author.Rules.{rules}
use Rattle.lines.proofs.clauses.put_effect.Goals as goal

pub pair_at-second-requires : goal.pair_at-second-requires
pair_at-second-requires c = search (rules, effect_variable, effect_value)

pub returns-clause-written : goal.returns-clause-written
returns-clause-written c = search (rules, effect_line_lem)
