-- The Fast Downward translator's text, format version 3: what each line has to be, in the format's own order, and what it says.
-- Assumes nothing.
use Rattle.std.specs.Prelude.{ℕ, Bool, false, cond, not, ◌&&◌, ◌||◌, List, [], ◌∷◌, ◌++◌, leb, ltb, eqb, length, get_or}
use Rattle.rules.specs.Counting.{every, times}
use Rattle.rules.specs.Limits.{max_text_digits, format_version}
use Rattle.rules.specs.Answers.{Rule, demand}
use Rattle.rules.specs.Task.{Pair, Action, Task}
use Rattle.rules.specs.File.{byte}
use Rattle.rules.specs.Text.{ascii, space, digit0}
use Rattle.rules.specs.Lines.{pieces, is_digit, value_from, same}
use Rattle.rules.specs.declared.Refusal.TheVariants.{AgainstFormat, AxiomOrCondition, OtherVersion}
use Rattle.rules.specs.declared.FormatLine.{FormatLine}
use Rattle.rules.specs.declared.FormatLine.TheVariants.{BeginVersion, Version, EndVersion, BeginMetric, Metric, EndMetric, VariableCount, BeginVariable, VariableName, AxiomLayer, Range, AtomName, EndVariable, MutexGroupCount, BeginMutexGroup, MutexFactCount, MutexFact, EndMutexGroup, BeginState, StateValue, EndState, BeginGoal, GoalCount, GoalFact, EndGoal, OperatorCount, BeginOperator, OperatorName, PrevailCount, PrevailCondition, EffectCount, Effect, Cost, EndOperator, AxiomCount, EndOfText}

-- ---- what has been stated so far: the task, and the action of the operator that is being read

pub record Stated : Type 0 where
  pub task : Task
  pub action : Action

abbrev pub no_action : Action
no_action = record { preconditions = []; effects = [] }

abbrev pub nothing_stated : Stated
nothing_stated = record { task = record { sizes = []; start = []; goal = []; actions = [] }; action = no_action }

-- a pair put into a list in rising order of variable, behind equal ones
unfoldable pub put_in_order : Pair → List Pair → List Pair
put_in_order p [] = p ∷ []
put_in_order p (q ∷ qs) = let later : List Pair = q ∷ put_in_order p qs in cond (ltb p.variable q.variable) (p ∷ q ∷ qs) later

abbrev pub with_task : Task → Stated → Stated
with_task T s = record { task = T; action = s.action }

unfoldable pub with_size : ℕ → Stated → Stated
with_size size s =
    with_task (record { sizes = s.task.sizes ++ (size ∷ []); start = s.task.start; goal = s.task.goal; actions = s.task.actions }) s

unfoldable pub with_start : ℕ → Stated → Stated
with_start value s =
    with_task (record { sizes = s.task.sizes; start = s.task.start ++ (value ∷ []); goal = s.task.goal; actions = s.task.actions }) s

unfoldable pub with_goal : Pair → Stated → Stated
with_goal p s =
    with_task (record { sizes = s.task.sizes; start = s.task.start; goal = put_in_order p s.task.goal; actions = s.task.actions }) s

unfoldable pub with_precondition : Pair → Stated → Stated
with_precondition p s =
    record { task = s.task; action = record { preconditions = put_in_order p s.action.preconditions; effects = s.action.effects } }

unfoldable pub with_effect : Pair → Stated → Stated
with_effect p s =
    record { task = s.task; action = record { preconditions = s.action.preconditions; effects = put_in_order p s.action.effects } }

-- the operator's pairs are all read: it is the next action
unfoldable pub with_action : Stated → Stated
with_action s =
    record {
      task = record { sizes = s.task.sizes; start = s.task.start; goal = s.task.goal; actions = s.task.actions ++ (s.action ∷ []) };
      action = no_action;
    }

-- ---- the lines of the format

-- the shape of a line. A number says what lines it announces, right behind it, and what it states; a fact says what its pair states
pub data Shape : Type 0 where
  keyword : List ℕ → Shape
  name version metric layer effect axiom_count nothing : Shape
  number : (ℕ → List FormatLine) → (ℕ → Stated → Stated) → Shape
  fact : (Pair → Stated → Stated) → Shape

abbrev pub count : (ℕ → List FormatLine) → Shape
count announced = number announced (λ m s. s)

abbrev pub value : (ℕ → Stated → Stated) → Shape
value states = number (λ m. []) states

abbrev pub variable_lines : List FormatLine
variable_lines = BeginVariable ∷ VariableName ∷ AxiomLayer ∷ Range ∷ EndVariable ∷ []

abbrev pub mutex_group_lines : List FormatLine
mutex_group_lines = BeginMutexGroup ∷ MutexFactCount ∷ EndMutexGroup ∷ []

abbrev pub operator_lines : List FormatLine
operator_lines = BeginOperator ∷ OperatorName ∷ PrevailCount ∷ EffectCount ∷ Cost ∷ EndOperator ∷ []

-- a text up to the count of its variables
abbrev pub first_lines : List FormatLine
first_lines = BeginVersion ∷ Version ∷ EndVersion ∷ BeginMetric ∷ Metric ∷ EndMetric ∷ VariableCount ∷ []

-- what that count announces
abbrev pub lines_of_variables : ℕ → List FormatLine
lines_of_variables n =
    times n variable_lines
    ++ (MutexGroupCount ∷ BeginState ∷ [])
    ++ times n (StateValue ∷ [])
    ++ (EndState ∷ BeginGoal ∷ GoalCount ∷ EndGoal ∷ OperatorCount ∷ [])

-- line by line, in the format's own order; mutex groups, metric and costs are passed over
abbrev pub shape_of : FormatLine → Shape
shape_of BeginVersion = keyword (ascii "begin_version")
shape_of Version = version
shape_of EndVersion = keyword (ascii "end_version")
shape_of BeginMetric = keyword (ascii "begin_metric")
shape_of Metric = metric
shape_of EndMetric = keyword (ascii "end_metric")
shape_of VariableCount = count lines_of_variables
shape_of BeginVariable = keyword (ascii "begin_variable")
shape_of VariableName = name
shape_of AxiomLayer = layer
shape_of Range = number (λ m. times m (AtomName ∷ [])) with_size
shape_of AtomName = name
shape_of EndVariable = keyword (ascii "end_variable")
shape_of MutexGroupCount = count (λ m. times m mutex_group_lines)
shape_of BeginMutexGroup = keyword (ascii "begin_mutex_group")
shape_of MutexFactCount = count (λ m. times m (MutexFact ∷ []))
shape_of MutexFact = fact (λ p s. s)
shape_of EndMutexGroup = keyword (ascii "end_mutex_group")
shape_of BeginState = keyword (ascii "begin_state")
shape_of StateValue = value with_start
shape_of EndState = keyword (ascii "end_state")
shape_of BeginGoal = keyword (ascii "begin_goal")
shape_of GoalCount = count (λ m. times m (GoalFact ∷ []))
shape_of GoalFact = fact with_goal
shape_of EndGoal = keyword (ascii "end_goal")
shape_of OperatorCount = count (λ m. times m operator_lines ++ (AxiomCount ∷ EndOfText ∷ []))
shape_of BeginOperator = keyword (ascii "begin_operator")
shape_of OperatorName = name
shape_of PrevailCount = count (λ m. times m (PrevailCondition ∷ []))
shape_of PrevailCondition = fact with_precondition
shape_of EffectCount = count (λ m. times m (Effect ∷ []))
shape_of Effect = effect
shape_of Cost = value (λ m. with_action)
shape_of EndOperator = keyword (ascii "end_operator")
shape_of AxiomCount = axiom_count
shape_of EndOfText = nothing

-- ---- words and numbers of a line

-- word i, from 0; words are parted by one space
unfoldable pub word_at : List ℕ → ℕ → List ℕ
word_at line i = get_or (pieces space line) i []

unfoldable pub word_count : List ℕ → ℕ
word_count line = length (pieces space line)

-- at most six digits, no leading zero
unfoldable pub is_plain : List ℕ → Bool
is_plain w =
    leb 1 (length w) && leb (length w) max_text_digits && every is_digit w && (not (eqb (byte w 0) digit0) || eqb (length w) 1)

unfoldable pub is_minus_one : List ℕ → Bool
is_minus_one w = same w (ascii "-1")

unfoldable pub number_at : List ℕ → ℕ → ℕ
number_at line i = value_from 0 (word_at line i)

unfoldable pub line_number : List ℕ → ℕ
line_number line = value_from 0 line

abbrev pub fact_in : List ℕ → Pair
fact_in line = record { variable = number_at line 0; value = number_at line 1 }

-- an effect's line: the count of its conditions, the variable, its old and its new value
abbrev pub has_old : List ℕ → Bool
has_old line = not (is_minus_one (word_at line 2))

abbrev pub old_fact : List ℕ → Pair
old_fact line = record { variable = number_at line 1; value = number_at line 2 }

abbrev pub new_fact : List ℕ → Pair
new_fact line = record { variable = number_at line 1; value = number_at line 3 }

-- ---- a line of a shape, at its number in the text: its rules, the lines that it announces and what it states

-- where 31 may come, the first word is judged before the rest of the line
unfoldable pub line_rules : Shape → (at : ℕ) → List ℕ → List Rule
line_rules (keyword word) at line = demand (same line word) (AgainstFormat at) ∷ []
line_rules name at line = []
line_rules version at line = demand (is_plain line) (AgainstFormat at) ∷ demand (eqb (line_number line) format_version) (OtherVersion at) ∷ []
line_rules metric at line = demand (is_plain line && leb (line_number line) 1) (AgainstFormat at) ∷ []
line_rules layer at line =
    demand (is_plain (word_at line 0) || is_minus_one (word_at line 0)) (AgainstFormat at)
    ∷ demand (is_minus_one (word_at line 0)) (AxiomOrCondition at)
    ∷ demand (eqb (word_count line) 1) (AgainstFormat at)
    ∷ []
line_rules (number announced states) at line = demand (is_plain line) (AgainstFormat at) ∷ []
line_rules (fact states) at line =
    demand (eqb (word_count line) 2 && is_plain (word_at line 0) && is_plain (word_at line 1)) (AgainstFormat at) ∷ []
line_rules effect at line =
    demand (is_plain (word_at line 0)) (AgainstFormat at)
    ∷ demand (eqb (number_at line 0) 0) (AxiomOrCondition at)
    ∷ demand
    (eqb (word_count line) 4 && is_plain (word_at line 1) && (is_plain (word_at line 2) || is_minus_one (word_at line 2)) && is_plain (word_at line 3))
    (AgainstFormat at)
    ∷ []
line_rules axiom_count at line =
    demand (is_plain (word_at line 0)) (AgainstFormat at)
    ∷ demand (eqb (number_at line 0) 0) (AxiomOrCondition at)
    ∷ demand (eqb (word_count line) 1) (AgainstFormat at)
    ∷ []
line_rules nothing at line = demand false (AgainstFormat at) ∷ []

unfoldable pub lines_announced : Shape → List ℕ → List FormatLine
lines_announced (keyword word) line = []
lines_announced name line = []
lines_announced version line = []
lines_announced metric line = []
lines_announced layer line = []
lines_announced (number announced states) line = announced (line_number line)
lines_announced (fact states) line = []
lines_announced effect line = []
lines_announced axiom_count line = []
lines_announced nothing line = []

unfoldable pub stated : Shape → List ℕ → Stated → Stated
stated (keyword word) line s = s
stated name line s = s
stated version line s = s
stated metric line s = s
stated layer line s = s
stated (number announced states) line s = states (line_number line) s
stated (fact states) line s = states (fact_in line) s
-- an old value, unless it is -1, is a precondition
stated effect line s = with_effect (new_fact line) (cond (has_old line) (with_precondition (old_fact line) s) s)
stated axiom_count line s = s
stated nothing line s = s
