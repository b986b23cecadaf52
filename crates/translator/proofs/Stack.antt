-- The list of lines that a position stands for: it begins with the line that is due, and a line in order does to it what the rules do to theirs.
-- Assumes nothing.
use Rattle.std.specs.Prelude.{Ok}
use mathlib.Core.Path.{◌≡◌, refl, sym, ◌∙◌}
use mathlib.Core.Bool.{false}
use mathlib.Core.List.{List, [], ◌∷◌, ◌++◌, tail, append-nil, append_assoc}
use Prim.Native.Nat.{ℕ, zero, suc, ◌-◌}
use native.Mathlib.Omega.{arith}
use borrow.Author.Tests.{ne_eqb}
use lib.Dec.{eqb}
use lib.ListN.{get_or}
use Rattle.rules.specs.Counting.{times}
use Rattle.rules.specs.Answers.{demand, judge}
use Rattle.rules.specs.Format.{Shape, keyword, name, version, metric, layer, number, fact, effect, axiom_count, nothing, variable_lines, mutex_group_lines, operator_lines, first_lines, lines_of_variables, shape_of, line_rules, line_number, lines_announced}
use Rattle.rules.specs.Translation.{is_end}
use Rattle.rules.specs.declared.FormatLine.{FormatLine}
use Rattle.rules.specs.declared.FormatLine.TheVariants.{BeginVersion, Version, EndVersion, BeginMetric, Metric, EndMetric, VariableCount, BeginVariable, VariableName, AxiomLayer, Range, AtomName, EndVariable, MutexGroupCount, BeginMutexGroup, MutexFactCount, MutexFact, EndMutexGroup, BeginState, StateValue, EndState, BeginGoal, GoalCount, GoalFact, EndGoal, OperatorCount, BeginOperator, OperatorName, PrevailCount, PrevailCondition, EffectCount, Effect, Cost, EndOperator, AxiomCount, EndOfText}
use Rattle.rules.specs.declared.Refusal.TheVariants.{AgainstFormat}
use Rattle.rules.proofs.Bools.{clash}
use Rattle.rules.proofs.Judging.{judge_head}
use Rattle.textlines.specs.Says.{numbers_in}
use Rattle.translator.specs.Position.{due_in, line_due, moved_on}
use Rattle.translator.specs.declared.position.Position.{Position}

-- ---- what is left of a text, from some line on

abbrev goal_due : List FormatLine
goal_due = BeginGoal ∷ GoalCount ∷ EndGoal ∷ OperatorCount ∷ []

abbrev values_due : (left : ℕ) → List FormatLine
values_due left = times left (StateValue ∷ []) ++ (EndState ∷ goal_due)

abbrev groups_due : (left variables : ℕ) → List FormatLine
groups_due left variables = times left mutex_group_lines ++ (BeginState ∷ values_due variables)

abbrev variables_due : (left variables : ℕ) → List FormatLine
variables_due left variables = times left variable_lines ++ (MutexGroupCount ∷ BeginState ∷ values_due variables)

abbrev operators_due : (left : ℕ) → List FormatLine
operators_due left = times left operator_lines ++ (AxiomCount ∷ EndOfText ∷ [])

-- the variable, group or operator that is being read is one of those left
abbrev lines_from : FormatLine → (inner outer variables : ℕ) → List FormatLine
lines_from BeginVersion i o n = first_lines
lines_from Version i o n = tail first_lines
lines_from EndVersion i o n = EndVersion ∷ BeginMetric ∷ Metric ∷ EndMetric ∷ VariableCount ∷ []
lines_from BeginMetric i o n = BeginMetric ∷ Metric ∷ EndMetric ∷ VariableCount ∷ []
lines_from Metric i o n = Metric ∷ EndMetric ∷ VariableCount ∷ []
lines_from EndMetric i o n = EndMetric ∷ VariableCount ∷ []
lines_from VariableCount i o n = VariableCount ∷ []
lines_from BeginVariable i o n = variables_due o n
lines_from VariableName i o n = VariableName ∷ AxiomLayer ∷ Range ∷ EndVariable ∷ variables_due (o - 1) n
lines_from AxiomLayer i o n = AxiomLayer ∷ Range ∷ EndVariable ∷ variables_due (o - 1) n
lines_from Range i o n = Range ∷ EndVariable ∷ variables_due (o - 1) n
lines_from AtomName i o n = times i (AtomName ∷ []) ++ (EndVariable ∷ variables_due (o - 1) n)
lines_from EndVariable i o n = EndVariable ∷ variables_due (o - 1) n
lines_from MutexGroupCount i o n = MutexGroupCount ∷ BeginState ∷ values_due n
lines_from BeginMutexGroup i o n = groups_due o n
lines_from MutexFactCount i o n = MutexFactCount ∷ EndMutexGroup ∷ groups_due (o - 1) n
lines_from MutexFact i o n = times i (MutexFact ∷ []) ++ (EndMutexGroup ∷ groups_due (o - 1) n)
lines_from EndMutexGroup i o n = EndMutexGroup ∷ groups_due (o - 1) n
lines_from BeginState i o n = BeginState ∷ values_due n
lines_from StateValue i o n = values_due i
lines_from EndState i o n = EndState ∷ goal_due
lines_from BeginGoal i o n = goal_due
lines_from GoalCount i o n = GoalCount ∷ EndGoal ∷ OperatorCount ∷ []
lines_from GoalFact i o n = times i (GoalFact ∷ []) ++ (EndGoal ∷ OperatorCount ∷ [])
lines_from EndGoal i o n = EndGoal ∷ OperatorCount ∷ []
lines_from OperatorCount i o n = OperatorCount ∷ []
lines_from BeginOperator i o n = operators_due o
lines_from OperatorName i o n = OperatorName ∷ PrevailCount ∷ EffectCount ∷ Cost ∷ EndOperator ∷ operators_due (o - 1)
lines_from PrevailCount i o n = PrevailCount ∷ EffectCount ∷ Cost ∷ EndOperator ∷ operators_due (o - 1)
lines_from PrevailCondition i o n = times i (PrevailCondition ∷ []) ++ (EffectCount ∷ Cost ∷ EndOperator ∷ operators_due (o - 1))
lines_from EffectCount i o n = EffectCount ∷ Cost ∷ EndOperator ∷ operators_due (o - 1)
lines_from Effect i o n = times i (Effect ∷ []) ++ (Cost ∷ EndOperator ∷ operators_due (o - 1))
lines_from Cost i o n = Cost ∷ EndOperator ∷ operators_due (o - 1)
lines_from EndOperator i o n = EndOperator ∷ operators_due (o - 1)
lines_from AxiomCount i o n = AxiomCount ∷ EndOfText ∷ []
lines_from EndOfText i o n = EndOfText ∷ []

unfoldable pub lines_due : Position → List FormatLine
lines_due p = lines_from p.line p.inner p.outer p.variables

-- ---- its first

more : (left : ℕ) → eqb (suc left) 0 ≡ false
more left = ne_eqb (suc left) 0 (λ e. omega arith)

first_from : (line : FormatLine) (i o n : ℕ) → get_or (lines_from line i o n) 0 EndOfText ≡ due_in line i o
unfolding times
first_from BeginVersion i o n = refl
first_from Version i o n = refl
first_from EndVersion i o n = refl
first_from BeginMetric i o n = refl
first_from Metric i o n = refl
first_from EndMetric i o n = refl
first_from VariableCount i o n = refl
first_from BeginVariable i zero n = refl
first_from BeginVariable i (suc o) n = rw (more o)
first_from VariableName i o n = refl
first_from AxiomLayer i o n = refl
first_from Range i o n = refl
first_from AtomName zero o n = refl
first_from AtomName (suc i) o n = rw (more i)
first_from EndVariable i o n = refl
first_from MutexGroupCount i o n = refl
first_from BeginMutexGroup i zero n = refl
first_from BeginMutexGroup i (suc o) n = rw (more o)
first_from MutexFactCount i o n = refl
first_from MutexFact zero o n = refl
first_from MutexFact (suc i) o n = rw (more i)
first_from EndMutexGroup i o n = refl
first_from BeginState i o n = refl
first_from StateValue zero o n = refl
first_from StateValue (suc i) o n = rw (more i)
first_from EndState i o n = refl
first_from BeginGoal i o n = refl
first_from GoalCount i o n = refl
first_from GoalFact zero o n = refl
first_from GoalFact (suc i) o n = rw (more i)
first_from EndGoal i o n = refl
first_from OperatorCount i o n = refl
first_from BeginOperator i zero n = refl
first_from BeginOperator i (suc o) n = rw (more o)
first_from OperatorName i o n = refl
first_from PrevailCount i o n = refl
first_from PrevailCondition zero o n = refl
first_from PrevailCondition (suc i) o n = rw (more i)
first_from EffectCount i o n = refl
first_from Effect zero o n = refl
first_from Effect (suc i) o n = rw (more i)
first_from Cost i o n = refl
first_from EndOperator i o n = refl
first_from AxiomCount i o n = refl
first_from EndOfText i o n = refl

pub first_due : (p : Position) → get_or (lines_due p) 0 EndOfText ≡ line_due p
unfolding lines_due line_due
first_due p = first_from p.line p.inner p.outer p.variables

-- ---- behind a line

less : (left : ℕ) → suc left - 1 ≡ left
less left = omega arith

announced : (n : ℕ) → lines_of_variables n ≡ variables_due n n
announced n = simp append_assoc

-- the number that a line says to the one who keeps count
abbrev pub said_first : FormatLine → List ℕ → ℕ
said_first due line = (numbers_in (shape_of due) line).first

abbrev Moves : FormatLine → (inner outer variables : ℕ) → List ℕ → Type 0
Moves line i o n text =
    lines_due (moved_on (due_in line i o) (said_first (due_in line i o) text) (record { line = line; inner = i; outer = o; variables = n }))
    ≡ lines_announced (shape_of (due_in line i o)) text ++ tail (lines_from line i o n)

moves_from : (line : FormatLine) (i o n : ℕ) (text : List ℕ) → is_end (shape_of (due_in line i o)) ≡ false → Moves line i o n text
unfolding lines_due moved_on numbers_in lines_announced times
moves_from BeginVersion i o n text e = refl
moves_from Version i o n text e = refl
moves_from EndVersion i o n text e = refl
moves_from BeginMetric i o n text e = refl
moves_from Metric i o n text e = refl
moves_from EndMetric i o n text e = refl
moves_from VariableCount i o n text e = sym (append-nil (lines_of_variables (line_number text)) ∙ announced (line_number text))
moves_from BeginVariable i zero n text e = refl
moves_from BeginVariable i (suc o) n text e = rw (more o, less o)
moves_from VariableName i o n text e = refl
moves_from AxiomLayer i o n text e = refl
moves_from Range i o n text e = refl
moves_from AtomName zero o n text e = refl
moves_from AtomName (suc i) o n text e = rw (more i, less i)
moves_from EndVariable i o n text e = refl
moves_from MutexGroupCount i o n text e = refl
moves_from BeginMutexGroup i zero n text e = refl
moves_from BeginMutexGroup i (suc o) n text e = rw (more o, less o)
moves_from MutexFactCount i o n text e = refl
moves_from MutexFact zero o n text e = refl
moves_from MutexFact (suc i) o n text e = rw (more i, less i)
moves_from EndMutexGroup i o n text e = refl
moves_from BeginState i o n text e = refl
moves_from StateValue zero o n text e = refl
moves_from StateValue (suc i) o n text e = rw (more i, less i)
moves_from EndState i o n text e = refl
moves_from BeginGoal i o n text e = refl
moves_from GoalCount i o n text e = refl
moves_from GoalFact zero o n text e = refl
moves_from GoalFact (suc i) o n text e = rw (more i, less i)
moves_from EndGoal i o n text e = refl
moves_from OperatorCount i o n text e = sym (append-nil (operators_due (line_number text)))
moves_from BeginOperator i zero n text e = refl
moves_from BeginOperator i (suc o) n text e = rw (more o, less o)
moves_from OperatorName i o n text e = refl
moves_from PrevailCount i o n text e = refl
moves_from PrevailCondition zero o n text e = refl
moves_from PrevailCondition (suc i) o n text e = rw (more i, less i)
moves_from EffectCount i o n text e = refl
moves_from Effect zero o n text e = refl
moves_from Effect (suc i) o n text e = rw (more i, less i)
moves_from Cost i o n text e = refl
moves_from EndOperator i o n text e = refl
moves_from AxiomCount i o n text e = refl
moves_from EndOfText i o n text e = clash refl e

-- no line is in order at the end
pub no_end : (shape : Shape) (at : ℕ) (text : List ℕ) → judge (line_rules shape at text) ≡ Ok tt → is_end shape ≡ false
unfolding line_rules
no_end (keyword word) at text e = refl
no_end name at text e = refl
no_end version at text e = refl
no_end metric at text e = refl
no_end layer at text e = refl
no_end (number announced states) at text e = refl
no_end (fact states) at text e = refl
no_end effect at text e = refl
no_end axiom_count at text e = refl
no_end nothing at text e = sym (judge_head (demand false (AgainstFormat at)) [] e)

-- a line in order, other than the end, takes the line that was due off the list and puts what it announces in its place
pub moved : (p : Position) (text : List ℕ) → is_end (shape_of (line_due p)) ≡ false
    → lines_due (moved_on (line_due p) (said_first (line_due p) text) p) ≡ lines_announced (shape_of (line_due p)) text ++ tail (lines_due p)
unfolding lines_due line_due
moved p text e = moves_from p.line p.inner p.outer p.variables text e
