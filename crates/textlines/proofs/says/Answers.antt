-- `says` meets its contract: the keywords that the search with the function's rules leaves.
-- Assumes nothing.
use borrow.Author.Rules.{rules}
use Rattle.rules.specs.Text.{ascii}
use Rattle.textlines.specs.Says.{says_as}
use Rattle.textlines.proofs.ShapeLaws.{says_as_lem}
use Rattle.textlines.proofs.says.Goals as goal

pub returns-in-BeginVersion : goal.returns-in-BeginVersion
unfolding says_as ascii
returns-in-BeginVersion c = search (rules, says_as_lem)

pub returns-in-EndVersion : goal.returns-in-EndVersion
unfolding says_as ascii
returns-in-EndVersion c = search (rules, says_as_lem)

pub returns-in-BeginMetric : goal.returns-in-BeginMetric
unfolding says_as ascii
returns-in-BeginMetric c = search (rules, says_as_lem)

pub returns-in-EndMetric : goal.returns-in-EndMetric
unfolding says_as ascii
returns-in-EndMetric c = search (rules, says_as_lem)

pub returns-in-EndVariable : goal.returns-in-EndVariable
unfolding says_as ascii
returns-in-EndVariable c = search (rules, says_as_lem)

pub returns-in-BeginGoal : goal.returns-in-BeginGoal
unfolding says_as ascii
returns-in-BeginGoal c = search (rules, says_as_lem)

pub returns-in-BeginOperator : goal.returns-in-BeginOperator
unfolding says_as ascii
returns-in-BeginOperator c = search (rules, says_as_lem)

pub returns-in-EndOperator : goal.returns-in-EndOperator
unfolding says_as ascii
returns-in-EndOperator c = search (rules, says_as_lem)
