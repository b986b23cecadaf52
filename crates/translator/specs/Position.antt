-- Positions in the format, with two counters in place of the list of all lines that are due.
-- Assumes nothing.
use Rattle.std.specs.Prelude.{ℕ, ◌-◌, cond, eqb}
use Rattle.rules.specs.declared.FormatLine.{FormatLine}
use Rattle.rules.specs.declared.FormatLine.TheVariants.{BeginVersion, Version, EndVersion, BeginMetric, Metric, EndMetric, VariableCount, BeginVariable, VariableName, AxiomLayer, Range, AtomName, EndVariable, MutexGroupCount, BeginMutexGroup, MutexFactCount, MutexFact, EndMutexGroup, BeginState, StateValue, EndState, BeginGoal, GoalCount, GoalFact, EndGoal, OperatorCount, BeginOperator, OperatorName, PrevailCount, PrevailCondition, EffectCount, Effect, Cost, EndOperator, AxiomCount, EndOfText}
use Rattle.translator.specs.declared.position.Position.{Position}

abbrev pub first_position : Position
first_position = record { line = BeginVersion; inner = 0; outer = 0; variables = 0 }

-- where no repetition is left, the line behind them
abbrev pub unless_over : (left : ℕ) → (again behind : FormatLine) → FormatLine
unless_over left again behind = cond (eqb left 0) behind again

-- the line that is due at a position
abbrev pub due_in : FormatLine → (inner outer : ℕ) → FormatLine
due_in BeginVersion inner outer = BeginVersion
due_in Version inner outer = Version
due_in EndVersion inner outer = EndVersion
due_in BeginMetric inner outer = BeginMetric
due_in Metric inner outer = Metric
due_in EndMetric inner outer = EndMetric
due_in VariableCount inner outer = VariableCount
due_in BeginVariable inner outer = unless_over outer BeginVariable MutexGroupCount
due_in VariableName inner outer = VariableName
due_in AxiomLayer inner outer = AxiomLayer
due_in Range inner outer = Range
due_in AtomName inner outer = unless_over inner AtomName EndVariable
due_in EndVariable inner outer = EndVariable
due_in MutexGroupCount inner outer = MutexGroupCount
due_in BeginMutexGroup inner outer = unless_over outer BeginMutexGroup BeginState
due_in MutexFactCount inner outer = MutexFactCount
due_in MutexFact inner outer = unless_over inner MutexFact EndMutexGroup
due_in EndMutexGroup inner outer = EndMutexGroup
due_in BeginState inner outer = BeginState
due_in StateValue inner outer = unless_over inner StateValue EndState
due_in EndState inner outer = EndState
due_in BeginGoal inner outer = BeginGoal
due_in GoalCount inner outer = GoalCount
due_in GoalFact inner outer = unless_over inner GoalFact EndGoal
due_in EndGoal inner outer = EndGoal
due_in OperatorCount inner outer = OperatorCount
due_in BeginOperator inner outer = unless_over outer BeginOperator AxiomCount
due_in OperatorName inner outer = OperatorName
due_in PrevailCount inner outer = PrevailCount
due_in PrevailCondition inner outer = unless_over inner PrevailCondition EffectCount
due_in EffectCount inner outer = EffectCount
due_in Effect inner outer = unless_over inner Effect Cost
due_in Cost inner outer = Cost
due_in EndOperator inner outer = EndOperator
due_in AxiomCount inner outer = AxiomCount
due_in EndOfText inner outer = EndOfText

unfoldable pub line_due : Position → FormatLine
line_due p = due_in p.line p.inner p.outer

abbrev pub to : FormatLine → Position → Position
to line p = record { line = line; inner = p.inner; outer = p.outer; variables = p.variables }

-- one of the repeated lines has been read
abbrev pub again : FormatLine → Position → Position
again line p = record { line = line; inner = p.inner - 1; outer = p.outer; variables = p.variables }

-- one variable, group or operator has been read
abbrev pub around : FormatLine → Position → Position
around line p = record { line = line; inner = p.inner; outer = p.outer - 1; variables = p.variables }

abbrev pub repeated : FormatLine → ℕ → Position → Position
repeated line m p = record { line = line; inner = m; outer = p.outer; variables = p.variables }

abbrev pub rounds : FormatLine → ℕ → Position → Position
rounds line m p = record { line = line; inner = p.inner; outer = m; variables = p.variables }

-- so many variables are due, and later as many start values
abbrev pub of_variables : ℕ → Position → Position
of_variables m p = record { line = BeginVariable; inner = p.inner; outer = m; variables = m }

-- the position behind a line that was due, which said the number m
unfoldable pub moved_on : FormatLine → (m : ℕ) → Position → Position
moved_on BeginVersion m p = to Version p
moved_on Version m p = to EndVersion p
moved_on EndVersion m p = to BeginMetric p
moved_on BeginMetric m p = to Metric p
moved_on Metric m p = to EndMetric p
moved_on EndMetric m p = to VariableCount p
moved_on VariableCount m p = of_variables m p
moved_on BeginVariable m p = to VariableName p
moved_on VariableName m p = to AxiomLayer p
moved_on AxiomLayer m p = to Range p
moved_on Range m p = repeated AtomName m p
moved_on AtomName m p = again AtomName p
moved_on EndVariable m p = around BeginVariable p
moved_on MutexGroupCount m p = rounds BeginMutexGroup m p
moved_on BeginMutexGroup m p = to MutexFactCount p
moved_on MutexFactCount m p = repeated MutexFact m p
moved_on MutexFact m p = again MutexFact p
moved_on EndMutexGroup m p = around BeginMutexGroup p
moved_on BeginState m p = repeated StateValue p.variables p
moved_on StateValue m p = again StateValue p
moved_on EndState m p = to BeginGoal p
moved_on BeginGoal m p = to GoalCount p
moved_on GoalCount m p = repeated GoalFact m p
moved_on GoalFact m p = again GoalFact p
moved_on EndGoal m p = to OperatorCount p
moved_on OperatorCount m p = rounds BeginOperator m p
moved_on BeginOperator m p = to OperatorName p
moved_on OperatorName m p = to PrevailCount p
moved_on PrevailCount m p = repeated PrevailCondition m p
moved_on PrevailCondition m p = again PrevailCondition p
moved_on EffectCount m p = repeated Effect m p
moved_on Effect m p = again Effect p
moved_on Cost m p = to EndOperator p
moved_on EndOperator m p = around BeginOperator p
moved_on AxiomCount m p = to EndOfText p
moved_on EndOfText m p = p
