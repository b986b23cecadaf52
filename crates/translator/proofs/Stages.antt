-- Where in a text no operator has begun, and where no action is half read.
-- Assumes nothing.
use mathlib.Core.Path.{◌≡◌, refl}
use mathlib.Core.Bool.{Bool, true, false, cond}
use mathlib.Core.List.{List}
use Prim.Native.Nat.{ℕ}
use lib.Dec.{eqb}
use Rattle.rules.specs.Format.{Stated, no_action, with_action, shape_of, line_number, fact_in, stated}
use Rattle.rules.specs.Translation.{is_end}
use Rattle.rules.specs.declared.FormatLine.{FormatLine}
use Rattle.rules.specs.declared.FormatLine.TheVariants.{BeginVersion, Version, EndVersion, BeginMetric, Metric, EndMetric, VariableCount, BeginVariable, VariableName, AxiomLayer, Range, AtomName, EndVariable, MutexGroupCount, BeginMutexGroup, MutexFactCount, MutexFact, EndMutexGroup, BeginState, StateValue, EndState, BeginGoal, GoalCount, GoalFact, EndGoal, OperatorCount, BeginOperator, OperatorName, PrevailCount, PrevailCondition, EffectCount, Effect, Cost, EndOperator, AxiomCount, EndOfText}
use Rattle.rules.proofs.Bools.{clash}
use Rattle.bodies.proofs.States.{BeforeOperators, before_size, before_start, before_goal}
use Rattle.translator.specs.Position.{due_in, line_due, moved_on}
use Rattle.translator.specs.declared.position.Position.{Position}

pub data Stage : Type 0 where
  before outside inside : Stage

abbrev pub stage_of : FormatLine → Stage
stage_of BeginVersion = before
stage_of Version = before
stage_of EndVersion = before
stage_of BeginMetric = before
stage_of Metric = before
stage_of EndMetric = before
stage_of VariableCount = before
stage_of BeginVariable = before
stage_of VariableName = before
stage_of AxiomLayer = before
stage_of Range = before
stage_of AtomName = before
stage_of EndVariable = before
stage_of MutexGroupCount = before
stage_of BeginMutexGroup = before
stage_of MutexFactCount = before
stage_of MutexFact = before
stage_of EndMutexGroup = before
stage_of BeginState = before
stage_of StateValue = before
stage_of EndState = before
stage_of BeginGoal = before
stage_of GoalCount = before
stage_of GoalFact = before
stage_of EndGoal = before
stage_of OperatorCount = before
stage_of BeginOperator = outside
stage_of OperatorName = outside
stage_of PrevailCount = outside
stage_of PrevailCondition = inside
stage_of EffectCount = inside
stage_of Effect = inside
stage_of Cost = inside
stage_of EndOperator = outside
stage_of AxiomCount = outside
stage_of EndOfText = outside

-- before the operators there is no action; outside an operator's pairs none is half read
abbrev pub Stands : Stage → Stated → Type 0
Stands before s = BeforeOperators s
Stands outside s = s.action ≡ no_action
Stands inside s = record {}

either_stage : (over : Bool) (again behind : FormatLine) → stage_of behind ≡ stage_of again → stage_of (cond over behind again) ≡ stage_of again
either_stage true again behind e = e
either_stage false again behind e = refl

-- repetitions and the line behind them are of one stage
stage_due : (line : FormatLine) (i o : ℕ) → stage_of (due_in line i o) ≡ stage_of line
stage_due BeginVersion i o = refl
stage_due Version i o = refl
stage_due EndVersion i o = refl
stage_due BeginMetric i o = refl
stage_due Metric i o = refl
stage_due EndMetric i o = refl
stage_due VariableCount i o = refl
stage_due BeginVariable i o = either_stage (eqb o 0) BeginVariable MutexGroupCount refl
stage_due VariableName i o = refl
stage_due AxiomLayer i o = refl
stage_due Range i o = refl
stage_due AtomName i o = either_stage (eqb i 0) AtomName EndVariable refl
stage_due EndVariable i o = refl
stage_due MutexGroupCount i o = refl
stage_due BeginMutexGroup i o = either_stage (eqb o 0) BeginMutexGroup BeginState refl
stage_due MutexFactCount i o = refl
stage_due MutexFact i o = either_stage (eqb i 0) MutexFact EndMutexGroup refl
stage_due EndMutexGroup i o = refl
stage_due BeginState i o = refl
stage_due StateValue i o = either_stage (eqb i 0) StateValue EndState refl
stage_due EndState i o = refl
stage_due BeginGoal i o = refl
stage_due GoalCount i o = refl
stage_due GoalFact i o = either_stage (eqb i 0) GoalFact EndGoal refl
stage_due EndGoal i o = refl
stage_due OperatorCount i o = refl
stage_due BeginOperator i o = either_stage (eqb o 0) BeginOperator AxiomCount refl
stage_due OperatorName i o = refl
stage_due PrevailCount i o = refl
stage_due PrevailCondition i o = either_stage (eqb i 0) PrevailCondition EffectCount refl
stage_due EffectCount i o = refl
stage_due Effect i o = either_stage (eqb i 0) Effect Cost refl
stage_due Cost i o = refl
stage_due EndOperator i o = refl
stage_due AxiomCount i o = refl
stage_due EndOfText i o = refl

pub stands_next : (s : Stated) (p : Position) → Stands (stage_of p.line) s → Stands (stage_of (line_due p)) s
unfolding line_due
stands_next s p h = rw (stage_due p.line p.inner p.outer) h

module _ (p : Position) (m : ℕ) (text : List ℕ) (s : Stated) where
  pub stands_line : (due : FormatLine) → is_end (shape_of due) ≡ false → Stands (stage_of due) s
      → Stands (stage_of (moved_on due m p).line) (stated (shape_of due) text s)
  unfolding moved_on stated with_action
  stands_line BeginVersion e h = h
  stands_line Version e h = h
  stands_line EndVersion e h = h
  stands_line BeginMetric e h = h
  stands_line Metric e h = h
  stands_line EndMetric e h = h
  stands_line VariableCount e h = h
  stands_line BeginVariable e h = h
  stands_line VariableName e h = h
  stands_line AxiomLayer e h = h
  stands_line Range e h = before_size s h (line_number text)
  stands_line AtomName e h = h
  stands_line EndVariable e h = h
  stands_line MutexGroupCount e h = h
  stands_line BeginMutexGroup e h = h
  stands_line MutexFactCount e h = h
  stands_line MutexFact e h = h
  stands_line EndMutexGroup e h = h
  stands_line BeginState e h = h
  stands_line StateValue e h = before_start s h (line_number text)
  stands_line EndState e h = h
  stands_line BeginGoal e h = h
  stands_line GoalCount e h = h
  stands_line GoalFact e h = before_goal s h (fact_in text)
  stands_line EndGoal e h = h
  stands_line OperatorCount e h = h.no_pairs
  stands_line BeginOperator e h = h
  stands_line OperatorName e h = h
  stands_line PrevailCount e h = record {}
  stands_line PrevailCondition e h = record {}
  stands_line EffectCount e h = record {}
  stands_line Effect e h = record {}
  stands_line Cost e h = refl
  stands_line EndOperator e h = h
  stands_line AxiomCount e h = h
  stands_line EndOfText e h = clash refl e

pub stands_end : (due : FormatLine) (s : Stated) → is_end (shape_of due) ≡ true → Stands (stage_of due) s → s.action ≡ no_action
stands_end BeginVersion s e h = h.no_pairs
stands_end Version s e h = h.no_pairs
stands_end EndVersion s e h = h.no_pairs
stands_end BeginMetric s e h = h.no_pairs
stands_end Metric s e h = h.no_pairs
stands_end EndMetric s e h = h.no_pairs
stands_end VariableCount s e h = h.no_pairs
stands_end BeginVariable s e h = h.no_pairs
stands_end VariableName s e h = h.no_pairs
stands_end AxiomLayer s e h = h.no_pairs
stands_end Range s e h = h.no_pairs
stands_end AtomName s e h = h.no_pairs
stands_end EndVariable s e h = h.no_pairs
stands_end MutexGroupCount s e h = h.no_pairs
stands_end BeginMutexGroup s e h = h.no_pairs
stands_end MutexFactCount s e h = h.no_pairs
stands_end MutexFact s e h = h.no_pairs
stands_end EndMutexGroup s e h = h.no_pairs
stands_end BeginState s e h = h.no_pairs
stands_end StateValue s e h = h.no_pairs
stands_end EndState s e h = h.no_pairs
stands_end BeginGoal s e h = h.no_pairs
stands_end GoalCount s e h = h.no_pairs
stands_end GoalFact s e h = h.no_pairs
stands_end EndGoal s e h = h.no_pairs
stands_end OperatorCount s e h = h.no_pairs
stands_end BeginOperator s e h = h
stands_end OperatorName s e h = h
stands_end PrevailCount s e h = h
stands_end PrevailCondition s e h = clash e refl
stands_end EffectCount s e h = clash e refl
stands_end Effect s e h = clash e refl
stands_end Cost s e h = clash e refl
stands_end EndOperator s e h = h
stands_end AxiomCount s e h = h
stands_end EndOfText s e h = h
