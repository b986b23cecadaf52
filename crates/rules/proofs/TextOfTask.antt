-- Each valid task has a text: told in the format, with any names, it is accepted and states that task. It is the plainest such text: all
-- preconditions are prevail conditions, every old value is -1, and there is no mutex group.
-- Assumes nothing.
use Rattle.std.specs.Prelude.{Ok}
use mathlib.Core.Path.{◌≡◌, refl, sym, ap, ◌∙◌}
use mathlib.Core.Bool.{true, not}
use mathlib.Core.List.{List, [], ◌∷◌, ◌++◌, foldl, map, append_assoc, append-nil}
use Prim.Native.Nat.{ℕ, zero, suc, ◌+◌, ◌≤◌, ◌<◌}
use native.Mathlib.Omega.{arith}
use borrow.Author.Tests.{eqb-false}
use lib.Dec.{eqb, lit<}
use lib.ListN.{length, get_or}
use Rattle.rules.specs.Counting.{for_each, table, times, every, joined}
use Rattle.rules.specs.Answers.{judge}
use Rattle.rules.specs.Task.{Pair, Action, Task, n, d, A, pair, action, Valid}
use Rattle.rules.specs.File.{file_of}
use Rattle.rules.specs.Text.{ascii, lf, decimal_up_to, decimal}
use Rattle.rules.specs.Lines.{value_from}
use Rattle.rules.specs.Format.{Stated, nothing_stated, name, fact, put_in_order, with_size, with_start, with_goal, with_precondition, with_effect, with_action, variable_lines, mutex_group_lines, operator_lines, first_lines, lines_of_variables, shape_of, is_plain, line_number, line_rules, lines_announced, stated}
use Rattle.rules.specs.Translation.{text_begun, shape_due, read_text_lines, read_text, end_of_reading, text_verdict, text_task, translation_verdict}
use Rattle.rules.specs.declared.FormatLine.{FormatLine}
use Rattle.rules.specs.declared.FormatLine.TheVariants.{BeginVersion, Version, EndVersion, BeginMetric, Metric, EndMetric, VariableCount, BeginVariable, VariableName, Range, AtomName, EndVariable, MutexGroupCount, BeginState, StateValue, EndState, BeginGoal, GoalCount, GoalFact, EndGoal, OperatorCount, BeginOperator, OperatorName, PrevailCount, PrevailCondition, EffectCount, Effect, Cost, EndOperator, AxiomCount, EndOfText}
use Rattle.rules.proofs.Bools.{and_left, and_right, not_true}
use Rattle.rules.proofs.Cut.{lines_ahead, ahead_first, ahead_none, ahead_lf, ahead_byte}
use Rattle.rules.proofs.Valid.{InOrder, WellFormed, valid_well_formed}
use Rattle.rules.proofs.Spoken.{free}
use Rattle.rules.proofs.InOrder.{Rising, all_in_order, all_in_order_lem, only_order}
use Rattle.rules.proofs.LinesInOrder.{reading_at, step, Reads, read_none, read_more, one_line, past_text, fact_line, effect_line, read_keyword, read_name, read_number, read_fact, read_layer, read_axioms, read_effect}
use Rattle.rules.proofs.Translated.{accepted_exactly}

-- ---- the text of a task

-- of variable x, of its value v and of operator a; any bytes but LF
pub record Names : Type 0 where
  pub variable : ℕ → List ℕ
  pub atom : ℕ → ℕ → List ℕ
  pub operator : ℕ → List ℕ
  pub variable_fits : (x : ℕ) → free lf (variable x) ≡ true
  pub atom_fits : (x v : ℕ) → free lf (atom x v) ≡ true
  pub operator_fits : (a : ℕ) → free lf (operator a) ≡ true

unfoldable pub variable_text : Names → (x size : ℕ) → List (List ℕ)
variable_text names x size =
    ascii "begin_variable" ∷ names.variable x ∷ ascii "-1" ∷ decimal size ∷ (table size (names.atom x) ++ (ascii "end_variable" ∷ []))

unfoldable pub variable_texts : Names → (x : ℕ) → List ℕ → List (List ℕ)
variable_texts names x [] = []
variable_texts names x (size ∷ sizes) = variable_text names x size ++ variable_texts names (suc x) sizes

-- preconditions as prevail conditions, effects without old values, cost 1
unfoldable pub operator_text : Names → (a : ℕ) → Action → List (List ℕ)
operator_text names a act =
    ascii "begin_operator" ∷ names.operator a ∷ decimal (length act.preconditions)
    ∷ (map fact_line act.preconditions
    ++ decimal (length act.effects)
    ∷ (map effect_line act.effects ++ (decimal 1 ∷ ascii "end_operator" ∷ [])))

unfoldable pub operator_texts : Names → (a : ℕ) → List Action → List (List ℕ)
operator_texts names a [] = []
operator_texts names a (act ∷ acts) = operator_text names a act ++ operator_texts names (suc a) acts

unfoldable pub text_lines : Names → Task → List (List ℕ)
text_lines names T =
    ascii "begin_version" ∷ decimal 3 ∷ ascii "end_version" ∷ ascii "begin_metric" ∷ decimal 0 ∷ ascii "end_metric" ∷ decimal (n T)
    ∷ (variable_texts names 0 T.sizes
    ++ decimal 0 ∷ ascii "begin_state"
    ∷ (map decimal T.start
    ++ ascii "end_state" ∷ ascii "begin_goal" ∷ decimal (length T.goal)
    ∷ (map fact_line T.goal
    ++ ascii "end_goal" ∷ decimal (A T)
    ∷ (operator_texts names 0 T.actions ++ (decimal 0 ∷ [])))))

unfoldable pub text_of : Names → Task → List ℕ
text_of names T = joined (map (λ line. line ++ (lf ∷ [])) (text_lines names T))

-- ---- lines back from bytes

-- a line that has begun, its rest and its LF
ahead_line : (begun l rest : List ℕ) → free lf l ≡ true → lines_ahead begun (l ++ lf ∷ rest) ≡ (begun ++ l) ∷ lines_ahead [] rest
unfolding every
ahead_line begun [] rest h = ahead_lf begun rest lf refl ∙ ap (λ l. l ∷ lines_ahead [] rest) (sym (append-nil begun))
ahead_line begun (b ∷ l) rest h =
    ahead_byte begun (l ++ lf ∷ rest) b (eqb-false b lf (not_true (eqb b lf) (and_left (not (eqb b lf)) (free lf l) h)))
    ∙ ahead_line (begun ++ (b ∷ [])) l rest (and_right (not (eqb b lf)) (free lf l) h)
    ∙ ap (λ l. l ∷ lines_ahead [] rest) (append_assoc begun (b ∷ []) l)

lines_back : (ls : List (List ℕ)) → every (free lf) ls ≡ true → lines_ahead [] (joined (map (λ line. line ++ (lf ∷ [])) ls)) ≡ ls
unfolding joined every
lines_back [] h = ahead_none
lines_back (l ∷ ls) h =
    ap (lines_ahead []) (append_assoc l (lf ∷ []) (joined (map (λ line. line ++ (lf ∷ [])) ls)))
    ∙ ahead_line [] l (joined (map (λ line. line ++ (lf ∷ [])) ls)) (and_left (free lf l) (every (free lf) ls) h)
    ∙ ap (λ rest. l ∷ rest) (lines_back ls (and_right (free lf l) (every (free lf) ls) h))

-- ---- the blocks

module _ {X : Type 0} where
  times_behind : (m : ℕ) (a : X) (l : List X) → times m (a ∷ []) ++ (a ∷ l) ≡ a ∷ (times m (a ∷ []) ++ l)
  unfolding times
  times_behind zero a l = refl
  times_behind (suc m) a l = ap (λ r. a ∷ r) (times_behind m a l)

read_names : (d : FormatLine) → shape_of d ≡ name → (m : ℕ) (f : ℕ → List ℕ) → ((i : ℕ) → free lf (f i) ≡ true) → (due : List FormatLine) (s : Stated)
    → Reads (table m f) (times m (d ∷ []) ++ due) s due s
unfolding times for_each
read_names d e zero f h due s = read_none due s
read_names d e (suc m) f h due s =
    rw (ap (λ dues. Reads (table m f ++ (f m ∷ [])) dues s due s) (times_behind m d due)) at
    (read_more (table m f) (f m ∷ []) (times m (d ∷ []) ++ (d ∷ due)) (d ∷ due) due s s s (read_names d e m f h (d ∷ due) s) (read_name d due s (f m) e (h m)))

module _ (l : List ℕ) (ls : List (List ℕ)) (due due' due'' : List FormatLine) (s s' s'' : Stated) where
  next : Reads (l ∷ []) due s due' s' → Reads ls due' s' due'' s'' → Reads (l ∷ ls) due s due'' s''
  next p q = read_more (l ∷ []) ls due due' due'' s s' s'' p q

read_values : (vs : List ℕ) → ((i : ℕ) → i < length vs → get_or vs i 0 < past_text) → (due : List FormatLine) (s : Stated)
    → Reads (map decimal vs) (times (length vs) (StateValue ∷ []) ++ due) s due (foldl (λ s v. with_start v s) s vs)
unfolding times
read_values [] h due s = read_none due s
read_values (v ∷ vs) h due s =
    next (decimal v) (map decimal vs) _ _ _ _ _ _
    (read_number StateValue (times (length vs) (StateValue ∷ []) ++ due) s (λ m. []) with_start v refl (h 0 (omega arith)))
    (read_values vs (λ i l. h (suc i) (omega arith)) due (with_start v s))

pub record SmallPair (p : Pair) : Type 0 where
  pub variable : p.variable < past_text
  pub value : p.value < past_text

abbrev pub SmallPairs : List Pair → Type 0
SmallPairs ps = (i : ℕ) → i < length ps → SmallPair (pair ps i)

read_facts : (d : FormatLine) (states : Pair → Stated → Stated) → shape_of d ≡ fact states → (ps : List Pair) → SmallPairs ps → (due : List FormatLine) (s : Stated)
    → Reads (map fact_line ps) (times (length ps) (d ∷ []) ++ due) s due (foldl (λ s p. states p s) s ps)
unfolding times
read_facts d states e [] h due s = read_none due s
read_facts d states e (p ∷ ps) h due s =
    next (fact_line p) (map fact_line ps) _ _ _ _ _ _
    (read_fact d (times (length ps) (d ∷ []) ++ due) s states p e (h 0 (omega arith)).variable (h 0 (omega arith)).value)
    (read_facts d states e ps (λ i l. h (suc i) (omega arith)) due (states p s))

read_effects : (ps : List Pair) → SmallPairs ps → (due : List FormatLine) (s : Stated)
    → Reads (map effect_line ps) (times (length ps) (Effect ∷ []) ++ due) s due (foldl (λ s p. with_effect p s) s ps)
unfolding times
read_effects [] h due s = read_none due s
read_effects (p ∷ ps) h due s =
    next (effect_line p) (map effect_line ps) _ _ _ _ _ _
    (read_effect (times (length ps) (Effect ∷ []) ++ due) s p (h 0 (omega arith)).variable (h 0 (omega arith)).value)
    (read_effects ps (λ i l. h (suc i) (omega arith)) due (with_effect p s))

-- ---- variables and operators

module _ (names : Names) where
  read_variable : (x size : ℕ) → size < past_text → (due : List FormatLine) (s : Stated) → Reads (variable_text names x size) (variable_lines ++ due) s due (with_size size s)
  unfolding variable_text ascii every
  read_variable x size h due s =
      next _ _ _ _ _ _ _ _ (read_keyword BeginVariable _ s (ascii "begin_variable") refl refl)
      (next _ _ _ _ _ _ _ _ (read_name VariableName _ s (names.variable x) refl (names.variable_fits x))
      (next _ _ _ _ _ _ _ _ (read_layer _ s)
      (next _ _ _ _ _ _ _ _ (read_number Range (EndVariable ∷ due) s (λ m. times m (AtomName ∷ [])) with_size size refl h)
      (read_more _ _ _ _ _ _ _ _ (read_names AtomName refl size (names.atom x) (names.atom_fits x) (EndVariable ∷ due) (with_size size s))
      (read_keyword EndVariable due (with_size size s) (ascii "end_variable") refl refl)))))

  read_variables : (x : ℕ) (sizes : List ℕ) → ((i : ℕ) → i < length sizes → get_or sizes i 0 < past_text) → (due : List FormatLine) (s : Stated)
      → Reads (variable_texts names x sizes) (times (length sizes) variable_lines ++ due) s due (foldl (λ s size. with_size size s) s sizes)
  unfolding variable_texts times
  read_variables x [] h due s = read_none due s
  read_variables x (size ∷ sizes) h due s =
      read_more (variable_text names x size) (variable_texts names (suc x) sizes) _ _ _ _ _ _
      (read_variable x size (h 0 (omega arith)) (times (length sizes) variable_lines ++ due) s)
      (read_variables (suc x) sizes (λ i l. h (suc i) (omega arith)) due (with_size size s))

  -- what an operator states
  abbrev with_operator : Action → Stated → Stated
  with_operator act s =
      with_action (foldl (λ s p. with_effect p s) (foldl (λ s p. with_precondition p s) s act.preconditions) act.effects)

  pub record SmallAction (act : Action) : Type 0 where
    pub few_preconditions : length act.preconditions < past_text
    pub few_effects : length act.effects < past_text
    pub small_preconditions : SmallPairs act.preconditions
    pub small_effects : SmallPairs act.effects

  read_operator : (a : ℕ) (act : Action) → SmallAction act → (due : List FormatLine) (s : Stated)
      → Reads (operator_text names a act) (operator_lines ++ due) s due (with_operator act s)
  unfolding operator_text ascii every
  read_operator a act h due s =
      let between : Stated = foldl (λ s p. with_precondition p s) s act.preconditions in
      next _ _ _ _ _ _ _ _ (read_keyword BeginOperator _ s (ascii "begin_operator") refl refl)
      (next _ _ _ _ _ _ _ _ (read_name OperatorName _ s (names.operator a) refl (names.operator_fits a))
      (next _ _ _ _ _ _ _ _ (read_number PrevailCount _ s (λ m. times m (PrevailCondition ∷ [])) (λ m s. s) (length act.preconditions) refl h.few_preconditions)
      (read_more _ _ _ _ _ _ _ _
      (read_facts PrevailCondition with_precondition refl act.preconditions h.small_preconditions (EffectCount ∷ Cost ∷ EndOperator ∷ due) s)
      (next _ _ _ _ _ _ _ _ (read_number EffectCount _ between (λ m. times m (Effect ∷ [])) (λ m s. s) (length act.effects) refl h.few_effects)
      (read_more _ _ _ _ _ _ _ _ (read_effects act.effects h.small_effects (Cost ∷ EndOperator ∷ due) between)
      (next _ _ _ _ _ _ _ _ (read_number Cost _ _ (λ m. []) (λ m. with_action) 1 refl (lit< tt))
      (read_keyword EndOperator due _ (ascii "end_operator") refl refl)))))))

  read_operators : (a : ℕ) (acts : List Action) → ((i : ℕ) → i < length acts → SmallAction (get_or acts i (record { preconditions = []; effects = [] })))
      → (due : List FormatLine) (s : Stated) → Reads (operator_texts names a acts) (times (length acts) operator_lines ++ due) s due (foldl (λ s act. with_operator act s) s acts)
  unfolding operator_texts times
  read_operators a [] h due s = read_none due s
  read_operators a (act ∷ acts) h due s =
      read_more (operator_text names a act) (operator_texts names (suc a) acts) _ _ _ _ _ _
      (read_operator a act (h 0 (omega arith)) (times (length acts) operator_lines ++ due) s)
      (read_operators (suc a) acts (λ i l. h (suc i) (omega arith)) due (with_operator act s))

-- ---- what they state

-- a task, and an action that has begun
abbrev st : (sizes start : List ℕ) (goal : List Pair) (actions : List Action) (pre eff : List Pair) → Stated
st sizes start goal actions pre eff =
    record { task = record { sizes = sizes; start = start; goal = goal; actions = actions }; action = record { preconditions = pre; effects = eff } }

module _ (start : List ℕ) (goal : List Pair) (actions : List Action) (pre eff : List Pair) where
  sizes_stated : (sizes more : List ℕ) → foldl (λ s size. with_size size s) (st sizes start goal actions pre eff) more ≡ st (sizes ++ more) start goal actions pre eff
  unfolding with_size
  sizes_stated sizes [] = ap (λ l. st l start goal actions pre eff) (sym (append-nil sizes))
  sizes_stated sizes (size ∷ more) =
      sizes_stated (sizes ++ (size ∷ [])) more ∙ ap (λ l. st l start goal actions pre eff) (append_assoc sizes (size ∷ []) more)

module _ (sizes : List ℕ) (goal : List Pair) (actions : List Action) (pre eff : List Pair) where
  start_stated : (start more : List ℕ) → foldl (λ s v. with_start v s) (st sizes start goal actions pre eff) more ≡ st sizes (start ++ more) goal actions pre eff
  unfolding with_start
  start_stated start [] = ap (λ l. st sizes l goal actions pre eff) (sym (append-nil start))
  start_stated start (v ∷ more) = start_stated (start ++ (v ∷ [])) more ∙ ap (λ l. st sizes l goal actions pre eff) (append_assoc start (v ∷ []) more)

abbrev put_all : List Pair → List Pair → List Pair
put_all ps more = foldl (λ ps p. put_in_order p ps) ps more

module _ (sizes start : List ℕ) (actions : List Action) where
  goal_stated : (goal more pre eff : List Pair) → foldl (λ s p. with_goal p s) (st sizes start goal actions pre eff) more ≡ st sizes start (put_all goal more) actions pre eff
  unfolding with_goal
  goal_stated goal [] pre eff = refl
  goal_stated goal (p ∷ more) pre eff = goal_stated (put_in_order p goal) more pre eff

  preconditions_stated : (goal pre more eff : List Pair)
      → foldl (λ s p. with_precondition p s) (st sizes start goal actions pre eff) more ≡ st sizes start goal actions (put_all pre more) eff
  unfolding with_precondition
  preconditions_stated goal pre [] eff = refl
  preconditions_stated goal pre (p ∷ more) eff = preconditions_stated goal (put_in_order p pre) more eff

  effects_stated : (goal pre eff more : List Pair) → foldl (λ s p. with_effect p s) (st sizes start goal actions pre eff) more ≡ st sizes start goal actions pre (put_all eff more)
  unfolding with_effect
  effects_stated goal pre eff [] = refl
  effects_stated goal pre eff (p ∷ more) = effects_stated goal pre (put_in_order p eff) more

-- a list that rises is put in order as it is
put_same : (ps : List Pair) → Rising ps → put_all [] ps ≡ ps
unfolding all_in_order
put_same ps r = only_order ps (put_all [] ps) ps (all_in_order_lem ps) (record { rises = r; as_many = refl; as_they_came = λ x. refl })

pub record RisingAction (act : Action) : Type 0 where
  pub preconditions : Rising act.preconditions
  pub effects : Rising act.effects

module _ (names : Names) (sizes start : List ℕ) (goal : List Pair) where
  operator_stated : (actions : List Action) (act : Action) → RisingAction act
      → with_operator names act (st sizes start goal actions [] []) ≡ st sizes start goal (actions ++ (act ∷ [])) [] []
  unfolding with_action
  operator_stated actions act r =
      ap (λ s. with_action (foldl (λ s p. with_effect p s) s act.effects))
      (preconditions_stated sizes start actions goal [] act.preconditions [] ∙ ap (λ l. st sizes start goal actions l []) (put_same act.preconditions r.preconditions))
      ∙ ap with_action
      (effects_stated sizes start actions goal act.preconditions [] act.effects
      ∙ ap (λ l. st sizes start goal actions act.preconditions l) (put_same act.effects r.effects))

  operators_stated : (actions more : List Action) → ((i : ℕ) → i < length more → RisingAction (get_or more i (record { preconditions = []; effects = [] })))
      → foldl (λ s act. with_operator names act s) (st sizes start goal actions [] []) more ≡ st sizes start goal (actions ++ more) [] []
  operators_stated actions [] r = ap (λ l. st sizes start goal l [] []) (sym (append-nil actions))
  operators_stated actions (act ∷ more) r =
      ap (λ s. foldl (λ s act. with_operator names act s) s more) (operator_stated actions act (r 0 (omega arith)))
      ∙ operators_stated (actions ++ (act ∷ [])) more (λ i l. r (suc i) (omega arith))
      ∙ ap (λ l. st sizes start goal l [] []) (append_assoc actions (act ∷ []) more)

-- ---- the whole

read_version : (due : List FormatLine) (s : Stated) → Reads (decimal 3 ∷ []) (Version ∷ due) s due s
unfolding line_rules lines_announced stated is_plain line_number value_from decimal decimal_up_to judge every
read_version due s = one_line (decimal 3) Version due s (λ at. refl) refl

read_metric : (due : List FormatLine) (s : Stated) → Reads (decimal 0 ∷ []) (Metric ∷ due) s due s
unfolding line_rules lines_announced stated is_plain line_number value_from decimal decimal_up_to judge every
read_metric due s = one_line (decimal 0) Metric due s (λ at. refl) refl

module _ (T : Task) (w : WellFormed T) where
  small_pairs : (ps : List Pair) → InOrder T ps → SmallPairs ps
  small_pairs ps o i l =
      let inside = o.inside_each i l in
      record {
        variable = omega (arith, inside.variable_below, w.variables_few);
        value = omega (arith, inside.value_below, w.domain_small (pair ps i).variable inside.variable_below);
      }

  rising_pairs : (ps : List Pair) → InOrder T ps → Rising ps
  rising_pairs ps o i l = omega (arith, o.rising i l)

  small_action : (names : Names) (a : ℕ) → a < A T → SmallAction names (action T a)
  small_action names a l =
      let f = w.actions_fine a l in
      record {
        few_preconditions = omega (arith, f.preconditions_few);
        few_effects = omega (arith, f.effects_few);
        small_preconditions = small_pairs _ f.preconditions_fine;
        small_effects = small_pairs _ f.effects_fine;
      }

  rising_action : (a : ℕ) → a < A T → RisingAction (action T a)
  rising_action a l =
      let f = w.actions_fine a l in
      record { preconditions = rising_pairs _ f.preconditions_fine; effects = rising_pairs _ f.effects_fine }

  -- what is due behind the count of variables
  abbrev behind_start : List FormatLine
  behind_start = EndState ∷ BeginGoal ∷ GoalCount ∷ EndGoal ∷ OperatorCount ∷ []

  abbrev behind_variables : List FormatLine
  behind_variables = MutexGroupCount ∷ BeginState ∷ (times (length T.start) (StateValue ∷ []) ++ behind_start)

  due_variables : lines_of_variables (n T) ++ [] ≡ times (n T) variable_lines ++ behind_variables
  due_variables = rw w.start_whole (simp (append_assoc, append-nil))

  due_operators : (times (A T) operator_lines ++ (AxiomCount ∷ EndOfText ∷ [])) ++ [] ≡ times (A T) operator_lines ++ (AxiomCount ∷ EndOfText ∷ [])
  due_operators = append-nil _

  module _ (names : Names) where
    abbrev whole : Stated
    whole = st T.sizes T.start T.goal T.actions [] []

    read_actions : Reads (decimal (A T) ∷ (operator_texts names 0 T.actions ++ (decimal 0 ∷ []))) (OperatorCount ∷ []) (st T.sizes T.start T.goal [] [] []) (EndOfText ∷ []) whole
    read_actions =
        next _ _ _ _ _ _ _ _
        (rw due_operators at
        (read_number OperatorCount [] (st T.sizes T.start T.goal [] [] []) (λ m. times m operator_lines ++ (AxiomCount ∷ EndOfText ∷ [])) (λ m s. s) (A T) refl (omega (arith, w.actions_few))))
        (read_more _ _ _ _ _ _ _ _
        (rw (operators_stated names T.sizes T.start T.goal [] T.actions rising_action) at
        (read_operators names 0 T.actions (small_action names) (AxiomCount ∷ EndOfText ∷ []) (st T.sizes T.start T.goal [] [] [])))
        (read_axioms (EndOfText ∷ []) whole))

    read_goal : Reads (decimal (length T.goal) ∷ (map fact_line T.goal ++ ascii "end_goal" ∷ decimal (A T) ∷ (operator_texts names 0 T.actions ++ (decimal 0 ∷ []))))
        (GoalCount ∷ EndGoal ∷ OperatorCount ∷ []) (st T.sizes T.start [] [] [] []) (EndOfText ∷ []) whole
    unfolding ascii every
    read_goal =
        let goal_whole : foldl (λ s p. with_goal p s) (st T.sizes T.start [] [] [] []) T.goal ≡ st T.sizes T.start T.goal [] [] [] =
        goal_stated T.sizes T.start [] [] T.goal [] [] ∙ ap (λ l. st T.sizes T.start l [] [] []) (put_same T.goal (rising_pairs T.goal w.goal_fine)) in
        next _ _ _ _ _ _ _ _
        (read_number GoalCount (EndGoal ∷ OperatorCount ∷ []) (st T.sizes T.start [] [] [] []) (λ m. times m (GoalFact ∷ [])) (λ m s. s) (length T.goal) refl (omega (arith, w.goals_few)))
        (read_more _ _ _ _ _ _ _ _
        (rw goal_whole at (read_facts GoalFact with_goal refl T.goal (small_pairs T.goal w.goal_fine) (EndGoal ∷ OperatorCount ∷ []) (st T.sizes T.start [] [] [] [])))
        (next _ _ _ _ _ _ _ _ (read_keyword EndGoal _ _ (ascii "end_goal") refl refl) read_actions))

    small_start : (i : ℕ) → i < length T.start → get_or T.start i 0 < past_text
    small_start i l =
        let below : i < n T = omega (arith, w.start_whole) in
        omega (arith, w.start_inside i below, w.domain_small i below)

    small_size : (i : ℕ) → i < n T → get_or T.sizes i 0 < past_text
    small_size i l = omega (arith, w.domain_small i l)

    abbrev goal_lines : List (List ℕ)
    goal_lines = decimal (length T.goal) ∷ (map fact_line T.goal ++ ascii "end_goal" ∷ decimal (A T) ∷ (operator_texts names 0 T.actions ++ (decimal 0 ∷ [])))

    read_start : Reads (decimal 0 ∷ ascii "begin_state" ∷ (map decimal T.start ++ ascii "end_state" ∷ ascii "begin_goal" ∷ goal_lines)) behind_variables (st T.sizes [] [] [] [] [])
        (EndOfText ∷ []) whole
    unfolding ascii every times
    read_start =
        next _ _ _ _ _ _ _ _ (read_number MutexGroupCount _ _ (λ m. times m mutex_group_lines) (λ m s. s) 0 refl (lit< tt))
        (next _ _ _ _ _ _ _ _ (read_keyword BeginState _ _ (ascii "begin_state") refl refl)
        (read_more _ _ _ _ _ _ _ _
        (rw (start_stated T.sizes [] [] [] [] [] T.start) at (read_values T.start small_start behind_start (st T.sizes [] [] [] [] [])))
        (next _ _ _ _ _ _ _ _ (read_keyword EndState _ _ (ascii "end_state") refl refl)
        (next _ _ _ _ _ _ _ _ (read_keyword BeginGoal _ _ (ascii "begin_goal") refl refl) read_goal))))

    read_whole : Reads (text_lines names T) first_lines nothing_stated (EndOfText ∷ []) whole
    unfolding text_lines ascii every
    read_whole =
        next _ _ _ _ _ _ _ _ (read_keyword BeginVersion _ _ (ascii "begin_version") refl refl)
        (next _ _ _ _ _ _ _ _ (read_version _ _)
        (next _ _ _ _ _ _ _ _ (read_keyword EndVersion _ _ (ascii "end_version") refl refl)
        (next _ _ _ _ _ _ _ _ (read_keyword BeginMetric _ _ (ascii "begin_metric") refl refl)
        (next _ _ _ _ _ _ _ _ (read_metric _ _)
        (next _ _ _ _ _ _ _ _ (read_keyword EndMetric _ _ (ascii "end_metric") refl refl)
        (next _ _ _ _ _ _ _ _
        (rw due_variables at (read_number VariableCount [] nothing_stated lines_of_variables (λ m s. s) (n T) refl (omega (arith, w.variables_few))))
        (read_more _ _ _ _ _ _ _ _
        (rw (sizes_stated [] [] [] [] [] [] T.sizes) at (read_variables names 0 T.sizes small_size behind_variables nothing_stated))
        read_start)))))))

-- ---- the statement

module _ (names : Names) (T : Task) (v : Valid T) where
  text_read : read_text (text_of names T) ≡ reading_at (0 + length (text_lines names T)) (EndOfText ∷ []) (st T.sizes T.start T.goal T.actions [] [])
  unfolding read_text read_text_lines text_of
  text_read =
      let w = valid_well_formed T v in
      ap (foldl step text_begun) (sym (ahead_first _) ∙ lines_back (text_lines names T) (read_whole T w names).whole) ∙ (read_whole T w names).read 0

  -- the text of a task states it
  pub text_states : text_task (text_of names T) ≡ T
  unfolding text_task
  text_states = ap (λ r. r.stated.task) text_read

  text_in_order : text_verdict (text_of names T) ≡ Ok tt
  unfolding text_verdict end_of_reading shape_due judge
  text_in_order = rw text_read refl

  -- and is accepted in the room that its file needs
  pub text_accepted : (room : ℕ) → length (file_of T) ≤ room → translation_verdict (text_of names T) room ≡ Ok tt
  text_accepted room l =
      (accepted_exactly (text_of names T) room).1 (record { reads = text_in_order; valid = rw text_states v; fits = rw text_states l })
