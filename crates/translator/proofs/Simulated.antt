-- The rules' reading of a text and the one that keeps a position and bytes go together, line by line.
-- Assumes nothing.
use Rattle.std.specs.Prelude.{Ok, Err}
use mathlib.Core.Path.{◌≡◌, refl, sym, ap, ◌∙◌}
use mathlib.Core.Logic.{⊎_elim}
use mathlib.Core.Bool.{true, false}
use mathlib.Core.List.{List, ◌++◌, tail}
use Prim.Native.Nat.{ℕ, suc, ◌<◌}
use native.Mathlib.Omega.{arith}
use lib.ListN.{length, take, get_or}
use Rattle.rules.specs.Answers.{judge, Verdict}
use Rattle.rules.specs.Task.{Pair}
use Rattle.rules.specs.Format.{Stated, no_action, with_size, with_start, with_goal, with_precondition, with_effect, with_action, shape_of, line_rules, line_number, has_old, old_fact, new_fact, fact_in, lines_announced, stated}
use Rattle.rules.specs.Translation.{TextReading, shape_due, line_read, read_text_line, is_end}
use Rattle.rules.specs.declared.FormatLine.{FormatLine}
use Rattle.rules.specs.declared.FormatLine.TheVariants.{BeginVersion, Version, EndVersion, BeginMetric, Metric, EndMetric, VariableCount, BeginVariable, VariableName, AxiomLayer, Range, AtomName, EndVariable, MutexGroupCount, BeginMutexGroup, MutexFactCount, MutexFact, EndMutexGroup, BeginState, StateValue, EndState, BeginGoal, GoalCount, GoalFact, EndGoal, OperatorCount, BeginOperator, OperatorName, PrevailCount, PrevailCondition, EffectCount, Effect, Cost, EndOperator, AxiomCount, EndOfText}
use Rattle.rules.specs.declared.Refusal.{Refusal}
use Rattle.rules.proofs.Bools.{either}
use Rattle.textlines.specs.Says.{numbers_in, said_by, shape_says, says_as}
use Rattle.textlines.proofs.Deciding.{decided_by_head}
use Rattle.bodies.specs.Keeping.{Keeping, keeps, keep_size, keep_start, keep_goal, keep_precondition, keep_effect, keep_action}
use Rattle.bodies.proofs.KeepLengths.{length-keep_size, length-keep_start, length-keep_goal, length-keep_precondition, length-keep_effect, length-keep_action}
use Rattle.bodies.proofs.States.{States, BeforeOperators, states_size, states_start, states_goal, states_precondition, states_effect, states_action}
use Rattle.translator.specs.Position.{line_due, moved_on}
use Rattle.translator.specs.Intake.{Lent, KeptBodies, kept_in, in_sizes, in_start, in_goal, in_actions, keep_line, most_lines, one_more, Taken, after_line, unless_refused, end_line, head_room}
use Rattle.translator.specs.declared.position.Position.{Position}
use Rattle.translator.proofs.Stages.{stage_of, Stands, stands_next, stands_line, stands_end}
use Rattle.translator.proofs.Stack.{lines_due, first_due, said_first, moved, no_end}

-- ---- what is kept

-- what is kept states s, and there is room for more
pub record Keeps (s : Stated) (k : KeptBodies) : Type 0 where
  pub states : States s k.kept k.memory.sizes k.memory.start k.memory.goal k.memory.actions
  pub lent : Lent k.memory

module _ (s : Stated) (k : KeptBodies) (h : Keeps s k) where
  keeps_size : (m : ℕ) → BeforeOperators s → Keeps (with_size m s) (in_sizes (keep_size m) k)
  keeps_size m b =
      record {
        states = states_size s k.kept k.memory.sizes k.memory.start k.memory.goal k.memory.actions h.states m h.lent.sizes b;
        lent =
            record {
              sizes = omega (arith, h.lent.sizes, length-keep_size k.kept k.memory.sizes m);
              start = h.lent.start;
              goal = h.lent.goal;
              actions = h.lent.actions;
            };
      }

  keeps_start : (m : ℕ) → BeforeOperators s → Keeps (with_start m s) (in_start (keep_start m) k)
  keeps_start m b =
      record {
        states = states_start s k.kept k.memory.sizes k.memory.start k.memory.goal k.memory.actions h.states m h.lent.start b;
        lent =
            record {
              sizes = h.lent.sizes;
              start = omega (arith, h.lent.start, length-keep_start k.kept k.memory.start m);
              goal = h.lent.goal;
              actions = h.lent.actions;
            };
      }

  keeps_goal : (p : Pair) → BeforeOperators s → Keeps (with_goal p s) (in_goal (keep_goal p) k)
  keeps_goal p b =
      record {
        states = states_goal s k.kept k.memory.sizes k.memory.start k.memory.goal k.memory.actions h.states p b;
        lent =
            record {
              sizes = h.lent.sizes;
              start = h.lent.start;
              goal = omega (arith, h.lent.goal, length-keep_goal k.kept k.memory.goal p h.lent.goal);
              actions = h.lent.actions;
            };
      }

  -- an operation on the actions, which leaves them as long
  keeps_in_actions : (t : Stated) (f : Keeping → Keeping)
      → States t (f (keeps k.kept k.memory.actions)).kept k.memory.sizes k.memory.start k.memory.goal
      (f (keeps k.kept k.memory.actions)).body
      → length (f (keeps k.kept k.memory.actions)).body ≡ length k.memory.actions → Keeps t (in_actions f k)
  keeps_in_actions t f states as_long =
      record {
        states = states;
        lent =
            record {
              sizes = h.lent.sizes;
              start = h.lent.start;
              goal = h.lent.goal;
              actions = omega (arith, h.lent.actions, as_long);
            };
      }

  keeps_precondition : (p : Pair) → Keeps (with_precondition p s) (in_actions (keep_precondition p) k)
  keeps_precondition p =
      keeps_in_actions (with_precondition p s) (keep_precondition p) (states_precondition s _ _ _ _ _ h.states p h.lent.actions)
      (length-keep_precondition _ _ h.states.sound h.lent.actions p)

  keeps_effect : (p : Pair) → Keeps (with_effect p s) (in_actions (keep_effect p) k)
  keeps_effect p =
      keeps_in_actions (with_effect p s) (keep_effect p) (states_effect s _ _ _ _ _ h.states p h.lent.actions)
      (length-keep_effect _ _ h.states.sound h.lent.actions p)

  keeps_action : Keeps (with_action s) (in_actions keep_action k)
  keeps_action =
      keeps_in_actions (with_action s) keep_action (states_action s _ _ _ _ _ h.states h.lent.actions)
      (length-keep_action _ _ h.states.sound h.lent.actions)

-- an effect's old value is a precondition where there is one
keeps_old : (s : Stated) (k : KeptBodies) → Keeps s k → (text : List ℕ)
    → Keeps (stated (shape_of Effect) text s) (keep_line Effect (numbers_in (shape_of Effect) text) k)
unfolding stated keep_line numbers_in
keeps_old s k h text =
    ⊎_elim
    (λ t.
    rw t
    (keeps_effect (with_precondition (old_fact text) s) (in_actions (keep_precondition (old_fact text)) k) (keeps_precondition s k h (old_fact text))
    (new_fact text)))
    (λ t. rw t (keeps_effect s k h (new_fact text)))
    (either (has_old text))

-- what a line states is kept
keeps_line : (due : FormatLine) (text : List ℕ) (s : Stated) (k : KeptBodies) → Stands (stage_of due) s → Keeps s k
    → Keeps (stated (shape_of due) text s) (keep_line due (numbers_in (shape_of due) text) k)
unfolding stated keep_line numbers_in
keeps_line BeginVersion text s k b h = h
keeps_line Version text s k b h = h
keeps_line EndVersion text s k b h = h
keeps_line BeginMetric text s k b h = h
keeps_line Metric text s k b h = h
keeps_line EndMetric text s k b h = h
keeps_line VariableCount text s k b h = h
keeps_line BeginVariable text s k b h = h
keeps_line VariableName text s k b h = h
keeps_line AxiomLayer text s k b h = h
keeps_line Range text s k b h = keeps_size s k h (line_number text) b
keeps_line AtomName text s k b h = h
keeps_line EndVariable text s k b h = h
keeps_line MutexGroupCount text s k b h = h
keeps_line BeginMutexGroup text s k b h = h
keeps_line MutexFactCount text s k b h = h
keeps_line MutexFact text s k b h = h
keeps_line EndMutexGroup text s k b h = h
keeps_line BeginState text s k b h = h
keeps_line StateValue text s k b h = keeps_start s k h (line_number text) b
keeps_line EndState text s k b h = h
keeps_line BeginGoal text s k b h = h
keeps_line GoalCount text s k b h = h
keeps_line GoalFact text s k b h = keeps_goal s k h (fact_in text) b
keeps_line EndGoal text s k b h = h
keeps_line OperatorCount text s k b h = h
keeps_line BeginOperator text s k b h = h
keeps_line OperatorName text s k b h = h
keeps_line PrevailCount text s k b h = h
keeps_line PrevailCondition text s k b h = keeps_precondition s k h (fact_in text)
keeps_line EffectCount text s k b h = h
keeps_line Effect text s k b h = keeps_old s k h text
keeps_line Cost text s k b h = keeps_action s k h
keeps_line EndOperator text s k b h = h
keeps_line AxiomCount text s k b h = h
keeps_line EndOfText text s k b h = h

-- a position, what has been stated up to it, and what is kept
pub record Follows (s : Stated) (p : Position) (k : KeptBodies) : Type 0 where
  pub stands : Stands (stage_of (line_due p)) s
  pub keeps : Keeps s k

pub follows_line : (s : Stated) (p : Position) (k : KeptBodies) (text : List ℕ) → is_end (shape_of (line_due p)) ≡ false → Follows s p k
    → Follows (stated (shape_of (line_due p)) text s) (moved_on (line_due p) (said_first (line_due p) text) p)
    (keep_line (line_due p) (numbers_in (shape_of (line_due p)) text) k)
follows_line s p k text e f =
    let due : FormatLine = line_due p in
    record {
      stands = stands_next (stated (shape_of due) text s) (moved_on due (said_first due text) p) (stands_line p (said_first due text) text s due e f.stands);
      keeps = keeps_line due text s k f.stands f.keeps;
    }

pub follows_end : (s : Stated) (p : Position) (k : KeptBodies) → Follows s p k → is_end (shape_of (line_due p)) ≡ true → s.action ≡ no_action
follows_end s p k f e = stands_end (line_due p) s e f.stands

-- ---- the two readings

-- the first fault ends a reading
pub unless_accepted : (v : Verdict) (next t : Taken) → v ≡ Ok tt → unless_refused v next t ≡ next
unless_accepted v next t e = ap (λ x. unless_refused x next t) e

pub unless_refused_lem : (v : Verdict) (why : Refusal) (next t : Taken) → v ≡ Err why → unless_refused v next t ≡ t
unless_refused_lem v why next t e = ap (λ x. unless_refused x next t) e

pub record Simulates (reading : TextReading) (t : Taken) : Type 0 where
  pub verdict : t.intake.verdict ≡ reading.verdict
  pub lines : t.intake.lines ≡ reading.lines
  pub due : reading.due ≡ lines_due t.intake.position
  pub follows : Follows reading.stated t.intake.position (kept_in t.intake.kept t.memory)

module _ (reading : TextReading) (t : Taken) (h : Simulates reading t) where
  pub due_next : get_or reading.due 0 EndOfText ≡ line_due t.intake.position
  due_next = ap (λ l. get_or l 0 EndOfText) h.due ∙ first_due t.intake.position

  pub next_line : reading.lines < most_lines → one_more t.intake.lines ≡ suc reading.lines
  next_line l = omega (arith, h.lines)

  simulates_said : (text : List ℕ) (v : Verdict) → reading.lines < most_lines
      → judge (line_rules (shape_of (line_due t.intake.position)) (suc reading.lines) text) ≡ v
      → Simulates (line_read v (shape_of (line_due t.intake.position)) reading text)
      (after_line (said_by v (numbers_in (shape_of (line_due t.intake.position)) text)) (line_due t.intake.position) t.intake t.memory t.line)
  simulates_said text (Ok _) l e =
      let p : Position = t.intake.position in
      let on : is_end (shape_of (line_due p)) ≡ false = no_end (shape_of (line_due p)) (suc reading.lines) text e in
      record {
        verdict = refl;
        lines = next_line l;
        due = ap (λ ls. lines_announced (shape_of (line_due p)) text ++ tail ls) h.due ∙ sym (moved p text on);
        follows = follows_line reading.stated p (kept_in t.intake.kept t.memory) text on h.follows;
      }
  simulates_said text (Err why) l e = record { verdict = refl; lines = h.lines; due = h.due; follows = h.follows }

  -- the first bytes of a line, held, are read as the line
  line_ends : (text : List ℕ) → reading.verdict ≡ Ok tt → reading.lines < most_lines → take t.intake.held t.line ≡ take head_room text
      → end_line t
      ≡ after_line (says_as (line_due t.intake.position) (suc reading.lines) text) (line_due t.intake.position) t.intake t.memory t.line
  unfolding end_line
  line_ends text v l same =
      let due : FormatLine = line_due t.intake.position in
      unless_accepted t.intake.verdict _ t (h.verdict ∙ v)
      ∙ ap (λ said. after_line said due t.intake t.memory t.line)
      (ap (says_as due (one_more t.intake.lines)) same
      ∙ sym (decided_by_head due (one_more t.intake.lines) text)
      ∙ ap (λ at. says_as due at text) (next_line l))

  line_read_lem : (text : List ℕ)
      → read_text_line reading text
      ≡ line_read (judge (line_rules (shape_of (line_due t.intake.position)) (suc reading.lines) text)) (shape_of (line_due t.intake.position)) reading text
  unfolding read_text_line shape_due
  line_read_lem text = ap (λ due. line_read (judge (line_rules (shape_of due) (suc reading.lines) text)) (shape_of due) reading text) due_next

  pub simulates_line : (text : List ℕ) → reading.verdict ≡ Ok tt → reading.lines < most_lines → take t.intake.held t.line ≡ take head_room text
      → Simulates (read_text_line reading text) (end_line t)
  unfolding says_as shape_says
  simulates_line text v l same =
      rw (line_read_lem text, line_ends text v l same)
      (simulates_said text (judge (line_rules (shape_of (line_due t.intake.position)) (suc reading.lines) text)) l refl)
