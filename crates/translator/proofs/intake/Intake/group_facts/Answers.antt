-- `group_facts` meets its contract.
-- Assumes nothing.
use borrow.Author.Rules.{rules}
use Rattle.translator.proofs.GroupLaws.{facts_taken}
use Rattle.translator.proofs.intake.Intake.group_facts.Goals as goal

pub returns : goal.returns
returns c = search (rules, facts_taken)
