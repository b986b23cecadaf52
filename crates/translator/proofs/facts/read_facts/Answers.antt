-- Assumes nothing.
use native.Mathlib.Omega.{arith}
use borrow.Author.Rules.{rules}
use Rattle.translator.proofs.GroupLaws.{facts_none, none_left, facts_stop, fact_within, one_less, facts_next}
use Rattle.translator.proofs.facts.read_facts.Goals as goal

pub loop-init : goal.loop-init
loop-init c = search (rules, facts_none)

pub returns-then-not-fact_ends : goal.returns-then-not-fact_ends
returns-then-not-fact_ends c = search (rules, facts_stop)

pub overflow_add-facts : goal.overflow_add-facts
overflow_add-facts c = search (rules, fact_within)

pub loop-preserved : goal.loop-preserved
loop-preserved c = (
  omega (arith, one_less _ _ _ c.one_read-facts.ensures),
  facts_next _ _ _ c.loop.facts c.loop.line c.loop.invariant.1 c.hold-stop.result.at c.hold-stop.result.held c.hold-stop.new.line c.hold-stop.ensures
      c.fact_ends.result c.fact_ends.ensures (search rules) (omega arith) c.one_read-facts.result c.one_read-facts.ensures,
)

pub returns : goal.returns
returns c = search (rules, none_left)
