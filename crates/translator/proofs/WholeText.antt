-- A text that is taken in by calls, cut anywhere, comes to the rules' translation of the whole.
-- Assumes nothing.
use mathlib.Core.Path.{◌≡◌, refl, sym, ap, ◌∙◌}
use mathlib.Core.Logic.{◌⊎◌, inl, inr, ⊎_elim}
use mathlib.Core.Bool.{true, false}
use mathlib.Core.List.{List, [], ◌∷◌, ◌++◌, foldl, append-nil}
use Prim.Native.Nat.{ℕ, suc, ◌-◌, ◌*◌, ◌≤◌, ◌<◌}
use native.Mathlib.Omega.{arith}
use borrow.Author.Tests.{le-leb, eqb-true, eqb-false}
use lib.Dec.{eqb}
use lib.ListN.{length, take, length-set}
use Rattle.rules.specs.Counting.{joined}
use Rattle.rules.specs.Limits.{max_variables, max_goals, max_actions, max_pairs, max_action, contents_bytes}
use Rattle.rules.specs.Answers.{demand, judge, in_turn, Verdict}
use Rattle.rules.specs.Task.{task_rules}
use Rattle.rules.specs.File.{contents_from, file_of}
use Rattle.rules.specs.Text.{lf}
use Rattle.rules.specs.Output.{lines_of}
use Rattle.rules.specs.Calls.{room_rule, lent_after}
use Rattle.rules.specs.Format.{Stated, nothing_stated, no_action, shape_of, line_rules, stated}
use Rattle.rules.specs.Translation.{TextReading, text_begun, shape_due, read_text_lines, read_text, is_end, end_of_reading, text_verdict, text_task, stated_verdict, translation_verdict, translation_after}
use Rattle.rules.specs.declared.FormatLine.{FormatLine}
use Rattle.rules.specs.declared.FormatLine.TheVariants.{BeginVersion, Version, EndVersion, BeginMetric, Metric, EndMetric, VariableCount, BeginVariable, VariableName, AxiomLayer, Range, AtomName, EndVariable, MutexGroupCount, BeginMutexGroup, MutexFactCount, MutexFact, EndMutexGroup, BeginState, StateValue, EndState, BeginGoal, GoalCount, GoalFact, EndGoal, OperatorCount, BeginOperator, OperatorName, PrevailCount, PrevailCondition, EffectCount, Effect, Cost, EndOperator, AxiomCount, EndOfText}
use Rattle.std.specs.Prelude.{Result, Ok, Err}
use Rattle.rules.specs.declared.Refusal.{Refusal}
use Rattle.rules.specs.declared.Refusal.TheVariants.{ActionAtFault, AgainstFormat}
use Rattle.rules.proofs.Bools.{either, below_or}
use Rattle.rules.proofs.Judging.{refused_not, judge_head, judge_append, in_turn-left, in_turn-right}
use Rattle.rules.proofs.Cut.{lines_most, holds_none}
use Rattle.writer.specs.Laid.{laid_out}
use Rattle.textlines.specs.Says.{numbers_in, said_by, shape_says, says_as}
use Rattle.textlines.specs.declared.Numbers.{Numbers}
use Rattle.bodies.specs.Keeping.{nothing_kept, goal_room, actions_room, Sound}
use Rattle.bodies.specs.declared.Kept.{Kept}
use Rattle.bodies.specs.declared.Excess.{Excess}
use Rattle.bodies.specs.declared.Excess.TheVariants.{Within, Lengths, Actions}
use Rattle.bodies.proofs.States.{before_nothing, states_begun}
use Rattle.bodies.proofs.Verdicts.{task_verdict, verdict_within, bodies_within, verdict_lengths, verdict_actions}
use Rattle.translator.specs.Position.{first_position, unless_over, line_due, moved_on}
use Rattle.translator.specs.Intake.{Memory, KeptBodies, kept_in, keep_line, most_lines, one_more, Taken, taken, read_on, unless_refused, after_line, end_line, head_room, take_byte, take_all, actions_fit, counts_fit, lent_fits, has_room, Lent, Ready, take_call, begun, last_said, last_line, rules_kept, file_kept, verdict_kept, stops_early, verdict_at_end, end_verdict, translation, Ended, ended, end_with, finish_call, Translation}
use Rattle.translator.specs.declared.position.Position.{Position}
use Rattle.translator.specs.declared.intake.Intake.{Intake}
use Rattle.translator.proofs.Stack.{lines_due, no_end}
use Rattle.translator.proofs.Simulated.{unless_accepted, unless_refused_lem, Keeps, Follows, follows_line, follows_end, Simulates, due_next, next_line}
use Rattle.translator.proofs.InPieces.{last_kept, taken_in_pieces, taken_nothing, by_verdict, chosen-true, byte_ends, byte_held, byte_passed, all_lines, whole}

-- ---- verdicts in turn

in_turn-same : (v a b : Verdict) → (v ≡ Ok tt → a ≡ b) → in_turn v a ≡ in_turn v b
in_turn-same (Ok _) a b f = f refl
in_turn-same (Err why) a b f = refl

in_turn-stops : (v : Verdict) (why : Refusal) (next : Verdict) → in_turn v (Err why) ≡ in_turn (in_turn v (Err why)) next
in_turn-stops (Ok _) why next = refl
in_turn-stops (Err w) why next = refl

in_turn-refuses : (v : Verdict) (why : Refusal) {X : Type 0} → in_turn v (Err why) ≡ Ok tt → X
in_turn-refuses (Ok _) why e = refused_not e
in_turn-refuses (Err w) why e = refused_not e

in_turn-three : (a b c : Verdict) → in_turn a (in_turn b c) ≡ in_turn (in_turn a b) c
in_turn-three (Ok _) b c = refl
in_turn-three (Err why) b c = refl

by_excess : (x : Excess) (X : Type 0) → (x ≡ Within → X) → (x ≡ Lengths → X) → (x ≡ Actions → X) → X
by_excess Within X f g h = f refl
by_excess Lengths X f g h = g refl
by_excess Actions X f g h = h refl

-- ---- the end

-- refusals 3 to 7 and 10 on what is kept are those of the task that is stated
module _ (s : Stated) (k : Kept) (m : Memory) (h : Keeps s (kept_in k m)) where
  kept_within : k.excess ≡ Within → rules_kept k m ≡ task_verdict s.task
  unfolding rules_kept
  kept_within e = verdict_within s k m.sizes m.start m.goal m.actions h.states e

  file_within : k.excess ≡ Within → task_verdict s.task ≡ Ok tt → file_kept k m ≡ file_of s.task
  unfolding file_kept laid_out file_of
  file_within e a =
      ap (λ bodies. contents_from contents_bytes bodies ++ joined bodies) (bodies_within s k m.sizes m.start m.goal m.actions h.states e a)

  kept_verdict_lem : (room : ℕ) → s.action ≡ no_action → verdict_kept k.excess k m room ≡ stated_verdict s.task room
  unfolding stated_verdict rules_kept
  kept_verdict_lem room idle =
      let task : Verdict = task_verdict s.task in
      let needed : Verdict = judge (room_rule (length (file_of s.task)) room) in
      by_excess k.excess (verdict_kept k.excess k m room ≡ stated_verdict s.task room)
      (λ e.
      ap (λ x. verdict_kept x k m room) e
      ∙ ap (λ v. in_turn v (judge (room_rule (length (file_kept k m)) room))) (kept_within e)
      ∙ in_turn-same task _ needed (λ a. ap (λ file. judge (room_rule (length file) room)) (file_within e a))
      ∙ sym (judge_append (task_rules true (λ a. true) s.task) (room_rule (length (file_of s.task)) room)))
      (λ e.
      ap (λ x. verdict_kept x k m room) e
      ∙ sym
      (judge_append (task_rules true (λ a. true) s.task) (room_rule (length (file_of s.task)) room)
      ∙ ap (λ v. in_turn v needed) (verdict_lengths s k m.sizes m.start m.goal m.actions h.states e)))
      (λ e.
      ap (λ x. verdict_kept x k m room) e
      ∙ in_turn-stops (rules_kept k m) (ActionAtFault k.actions) needed
      ∙ ap (λ v. in_turn v needed) (sym (verdict_actions s k m.sizes m.start m.goal m.actions h.states e idle))
      ∙ sym (judge_append (task_rules true (λ a. true) s.task) (room_rule (length (file_of s.task)) room)))

  file_accepted : (room : ℕ) → verdict_kept k.excess k m room ≡ Ok tt → file_kept k m ≡ file_of s.task
  file_accepted room a =
      by_excess k.excess (file_kept k m ≡ file_of s.task)
      (λ e. file_within e (sym (kept_within e) ∙ in_turn-left (rules_kept k m) _ (ap (λ x. verdict_kept x k m room) (sym e) ∙ a)))
      (λ e. refused_not (ap (λ x. verdict_kept x k m room) (sym e) ∙ a))
      (λ e. in_turn-refuses (rules_kept k m) (ActionAtFault k.actions) (ap (λ x. verdict_kept x k m room) (sym e) ∙ a))

module _ (reading : TextReading) (t : Taken) (s : Simulates reading t) (l : reading.lines < most_lines) where
  -- a text that stops early is told from one that ends, and at the same line
  ends_alike : judge (demand (is_end (shape_of (line_due t.intake.position))) (AgainstFormat (one_more t.intake.lines)) ∷ [])
      ≡ judge (demand (is_end (shape_due reading)) (AgainstFormat (suc reading.lines)) ∷ [])
  unfolding shape_due
  ends_alike =
      ap (λ at. judge (demand (is_end (shape_of (line_due t.intake.position))) (AgainstFormat at) ∷ [])) (next_line reading t s l)
      ∙ ap (λ due. judge (demand (is_end (shape_of due)) (AgainstFormat (suc reading.lines)) ∷ [])) (sym (due_next reading t s))

  end_verdict_lem : (room : ℕ) → end_verdict t room ≡ in_turn (end_of_reading reading) (stated_verdict reading.stated.task room)
  unfolding end_verdict verdict_at_end stops_early end_of_reading
  end_verdict_lem room =
      let p : Position = t.intake.position in
      let ends : Verdict = judge (demand (is_end (shape_of (line_due p))) (AgainstFormat (one_more t.intake.lines)) ∷ []) in
      let rest : Verdict = verdict_kept t.intake.kept.excess t.intake.kept t.memory room in
      let task : Verdict = stated_verdict reading.stated.task room in
      let same : in_turn ends rest ≡ in_turn ends task =
      in_turn-same ends rest task
      (λ a.
      kept_verdict_lem reading.stated t.intake.kept t.memory s.follows.keeps room
      (follows_end reading.stated p (kept_in t.intake.kept t.memory) s.follows (judge_head _ [] a))) in
      ap (λ v. in_turn v (in_turn ends rest)) s.verdict
      ∙ ap (in_turn reading.verdict) (same ∙ ap (λ v. in_turn v task) ends_alike)
      ∙ in_turn-three reading.verdict _ task

  end_file : (room : ℕ) → end_verdict t room ≡ Ok tt → file_kept t.intake.kept t.memory ≡ file_of reading.stated.task
  unfolding end_verdict verdict_at_end stops_early
  end_file room a =
      file_accepted reading.stated t.intake.kept t.memory s.follows.keeps room
      (in_turn-right (judge (demand (is_end (shape_of (line_due t.intake.position))) (AgainstFormat (one_more t.intake.lines)) ∷ [])) _
      (in_turn-right t.intake.verdict _ a))

-- the answer, and the lent room
pub record Translated (text lent : List ℕ) (e : Ended) : Type 0 where
  pub answer : e.answer ≡ translation (translation_verdict text (length lent)) (length (file_of (text_task text)))
  pub room : e.room ≡ translation_after text lent

answered : (v w : Verdict) (file text : List ℕ) → v ≡ w → (v ≡ Ok tt → file ≡ text) → translation v (length file) ≡ translation w (length text)
answered (Ok _) w file text e f = ap (λ l. translation (Ok tt) (length l)) (f refl) ∙ ap (λ v. translation v (length text)) e
answered (Err why) w file text e f = ap (λ v. translation v (length text)) e

left : (v w : Verdict) (file text room : List ℕ) → v ≡ w → (v ≡ Ok tt → file ≡ text) → lent_after v file room ≡ lent_after w text room
left (Ok _) w file text room e f = ap (λ l. lent_after (Ok tt) l room) (f refl) ∙ ap (λ v. lent_after v text room) e
left (Err why) w file text room e f = ap (λ v. lent_after v text room) e

ends_translated : (text : List ℕ) (t : Taken) (room : List ℕ) → Simulates (read_text text) t → (read_text text).lines < most_lines → Translated text room (end_with t room)
unfolding end_with translation_verdict translation_after text_verdict text_task
ends_translated text t room s l =
    let v : end_verdict t (length room) ≡ in_turn (end_of_reading (read_text text)) (stated_verdict (read_text text).stated.task (length room)) =
    end_verdict_lem (read_text text) t s l (length room) in
    record {
      answer = answered _ _ _ _ v (end_file (read_text text) t s l (length room));
      room = left _ _ _ _ room v (end_file (read_text text) t s l (length room));
    }

-- ---- a last line adds nothing, or no text ends behind it

either_goes_on : (left : ℕ) (a b : FormatLine) → is_end (shape_of a) ≡ false → is_end (shape_of b) ≡ false → is_end (shape_of (unless_over left a b)) ≡ false
either_goes_on left a b f g = ⊎_elim (λ e. rw e g) (λ e. rw e f) (either (eqb left 0))

abbrev GoesOn : FormatLine → Numbers → Position → Type 0
GoesOn due said p = is_end (shape_of (line_due (moved_on due said.first p))) ≡ false

nothing_or_on : (due : FormatLine) (said : Numbers) (k : KeptBodies) (p : Position) → (keep_line due said k ≡ k) ⊎ GoesOn due said p
unfolding keep_line line_due moved_on
nothing_or_on BeginVersion said k p = inl refl
nothing_or_on Version said k p = inl refl
nothing_or_on EndVersion said k p = inl refl
nothing_or_on BeginMetric said k p = inl refl
nothing_or_on Metric said k p = inl refl
nothing_or_on EndMetric said k p = inl refl
nothing_or_on VariableCount said k p = inl refl
nothing_or_on BeginVariable said k p = inl refl
nothing_or_on VariableName said k p = inl refl
nothing_or_on AxiomLayer said k p = inl refl
nothing_or_on Range said k p = inr (either_goes_on said.first AtomName EndVariable refl refl)
nothing_or_on AtomName said k p = inl refl
nothing_or_on EndVariable said k p = inl refl
nothing_or_on MutexGroupCount said k p = inl refl
nothing_or_on BeginMutexGroup said k p = inl refl
nothing_or_on MutexFactCount said k p = inl refl
nothing_or_on MutexFact said k p = inl refl
nothing_or_on EndMutexGroup said k p = inl refl
nothing_or_on BeginState said k p = inl refl
nothing_or_on StateValue said k p = inr (either_goes_on (p.inner - 1) StateValue EndState refl refl)
nothing_or_on EndState said k p = inl refl
nothing_or_on BeginGoal said k p = inl refl
nothing_or_on GoalCount said k p = inl refl
nothing_or_on GoalFact said k p = inr (either_goes_on (p.inner - 1) GoalFact EndGoal refl refl)
nothing_or_on EndGoal said k p = inl refl
nothing_or_on OperatorCount said k p = inl refl
nothing_or_on BeginOperator said k p = inl refl
nothing_or_on OperatorName said k p = inl refl
nothing_or_on PrevailCount said k p = inl refl
nothing_or_on PrevailCondition said k p = inr (either_goes_on (p.inner - 1) PrevailCondition EffectCount refl refl)
nothing_or_on EffectCount said k p = inl refl
nothing_or_on Effect said k p = inr (either_goes_on (p.inner - 1) Effect Cost refl refl)
nothing_or_on Cost said k p = inr refl
nothing_or_on EndOperator said k p = inl refl
nothing_or_on AxiomCount said k p = inl refl
nothing_or_on EndOfText said k p = inl refl

-- a text that stops early is refused, whatever is kept
stops_early_lem : (due : FormatLine) (said : Numbers) (i : Intake) (k : Kept) (m : Memory) (line room : List ℕ) → GoesOn due said i.position
    → end_with (taken (read_on due said i k) m line) room ≡ ended (Err (AgainstFormat (one_more (one_more i.lines)))) room
unfolding end_with end_verdict verdict_at_end stops_early judge
stops_early_lem due said i k m line room f = rw f refl

said_alike : (s : Result Numbers Refusal) (due : FormatLine) (i : Intake) (m : Memory) (line room : List ℕ)
    → end_with (taken (last_said s due i) m line) room ≡ end_with (after_line s due i m line) room
said_alike (Ok said) due i m line room =
    ⊎_elim (λ e. ap (λ k. end_with (taken (read_on due said i k.kept) k.memory line) room) (sym e))
    (λ f. stops_early_lem due said i i.kept m line room f ∙ sym (stops_early_lem due said i _ _ line room f))
    (nothing_or_on due said (kept_in i.kept m) i.position)
said_alike (Err why) due i m line room = refl

last_alike : (t : Taken) (room : List ℕ) → end_with (last_line t) room ≡ end_with (last_kept t) room
unfolding last_line last_kept end_line
last_alike t room =
    let i : Intake = t.intake in
    let due : FormatLine = line_due i.position in
    let said : Result Numbers Refusal = says_as due (one_more i.lines) (take i.held t.line) in
    let judged : Taken = taken (last_said said due i) t.memory t.line in
    let kept : Taken = after_line said due i t.memory t.line in
    ⊎_elim (λ e. rw e refl)
    (λ e. rw e
    (by_verdict i.verdict (end_with (unless_refused i.verdict judged t) room ≡ end_with (unless_refused i.verdict kept t) room)
    (λ v.
    ap (λ u. end_with u room) (unless_accepted i.verdict judged t v)
    ∙ said_alike said due i t.memory t.line room
    ∙ ap (λ u. end_with u room) (sym (unless_accepted i.verdict kept t v)))
    (λ why v. ap (λ u. end_with u room) (unless_refused_lem i.verdict why judged t v ∙ sym (unless_refused_lem i.verdict why kept t v)))))
    (either (eqb i.held 0))

-- ---- the calls: what is lent stays enough

record Going (t : Taken) : Type 0 where
  said : Stated
  follows : Follows said t.intake.position (kept_in t.intake.kept t.memory)
  held : t.intake.held ≤ head_room
  line : head_room ≤ length t.line

going_as : (t u : Taken) → t ≡ u → Going u → Going t
going_as t u e g = rw e g

going_said : (t : Taken) (at : ℕ) (text : List ℕ) (v : Verdict) → judge (line_rules (shape_of (line_due t.intake.position)) at text) ≡ v → Going t
    → Going (after_line (said_by v (numbers_in (shape_of (line_due t.intake.position)) text)) (line_due t.intake.position) t.intake t.memory t.line)
going_said t at text (Ok _) e g =
    let p : Position = t.intake.position in
    record {
      said = stated (shape_of (line_due p)) text g.said;
      follows = follows_line g.said p (kept_in t.intake.kept t.memory) text (no_end (shape_of (line_due p)) at text e) g.follows;
      held = omega arith;
      line = g.line;
    }
going_said t at text (Err why) e g = record { said = g.said; follows = g.follows; held = omega arith; line = g.line }

going_line : (t : Taken) → t.intake.verdict ≡ Ok tt → Going t → Going (end_line t)
unfolding end_line says_as shape_says
going_line t v g =
    going_as _ _ (unless_accepted t.intake.verdict _ t v)
    (going_said t (one_more t.intake.lines) (take t.intake.held t.line) _ refl g)

going_byte : (t : Taken) (b : ℕ) → Going t → Going (take_byte t b)
unfolding take_byte
going_byte t b g =
    by_verdict t.intake.verdict (Going (take_byte t b))
    (λ v.
    ⊎_elim (λ c. going_as (take_byte t b) (end_line t) (byte_ends t b v (eqb-true b lf c)) (going_line t v g))
    (λ c.
    ⊎_elim
    (λ h.
    going_as (take_byte t b) _ (byte_held t b v (eqb-false b lf c) h)
    (record { said = g.said; follows = g.follows; held = omega arith; line = omega (arith, g.line, length-set t.line t.intake.held b) }))
    (λ h. going_as (take_byte t b) t (byte_passed t b v (eqb-false b lf c) h) g)
    (below_or t.intake.held head_room))
    (either (eqb b lf)))
    (λ why e. going_as (take_byte t b) t (unless_refused_lem t.intake.verdict why _ t e) g)

going_all : (t : Taken) (bytes : List ℕ) → Going t → Going (take_all t bytes)
unfolding take_all
going_all t [] g = g
going_all t (b ∷ bytes) g = going_all (take_byte t b) bytes (going_byte t b g)

ready_room : (t : Taken) → Ready t → has_room t ≡ true
unfolding has_room counts_fit actions_fit lent_fits
ready_room t r =
    let k : Kept = t.intake.kept in
    let o : Sound k = r.kept in
    rw (
      le-leb k.sizes max_variables o.sizes,
      le-leb k.starts max_variables o.starts,
      le-leb k.goals max_goals o.goals,
      le-leb k.actions max_actions o.actions,
      le-leb k.bytes (max_action * k.actions) o.bytes,
      le-leb k.preconditions max_pairs o.preconditions,
      le-leb k.effects max_pairs o.effects,
      le-leb t.intake.held head_room r.held,
      le-leb max_variables (length t.memory.sizes) r.lent.sizes,
      le-leb max_variables (length t.memory.start) r.lent.start,
      le-leb goal_room (length t.memory.goal) r.lent.goal,
      le-leb actions_room (length t.memory.actions) r.lent.actions,
      le-leb head_room (length t.line) r.line,
    )

going_room : (t : Taken) → Going t → has_room t ≡ true
going_room t g =
    ready_room t (record { kept = g.follows.keeps.states.sound; held = g.held; lent = g.follows.keeps.lent; line = g.line })

call_takes : (t : Taken) (bytes : List ℕ) → Going t → take_call t bytes ≡ take_all t bytes
unfolding take_call
call_takes t bytes g = chosen-true (has_room t) _ _ (going_room t g)

call_finishes : (t : Taken) (room : List ℕ) → Going t → finish_call t room ≡ end_with (last_kept t) room
unfolding finish_call
call_finishes t room g = chosen-true (has_room t) _ _ (going_room t g) ∙ last_alike t room

calls_take : (t : Taken) (parts : List (List ℕ)) → Going t → foldl take_call t parts ≡ take_all t (joined parts)
unfolding joined
calls_take t [] g = taken_nothing t
calls_take t (p ∷ parts) g =
    ap (λ u. foldl take_call u parts) (call_takes t p g)
    ∙ calls_take (take_all t p) parts (going_all t p g)
    ∙ taken_in_pieces t p (joined parts)

-- ---- from the start

lines_few : (text : List ℕ) → length text < most_lines → (read_text text).lines < most_lines
unfolding read_text read_text_lines
lines_few text l = omega (arith, all_lines text_begun (lines_of text), lines_most text)

module _ (m : Memory) (line : List ℕ) (h : Lent m) (fits : head_room ≤ length line) where
  follows_begun : Follows nothing_stated first_position (kept_in nothing_kept m)
  unfolding line_due
  follows_begun =
      record { stands = before_nothing; keeps = record { states = states_begun m.sizes m.start m.goal m.actions; lent = h } }

  going_begun : Going (taken begun m line)
  going_begun = record { said = nothing_stated; follows = follows_begun; held = omega arith; line = fits }

  simulates_begun : Simulates text_begun (taken begun m line)
  unfolding lines_due
  simulates_begun = record { verdict = refl; lines = refl; due = refl; follows = follows_begun }

  -- the theorem: any text, cut anywhere, is translated as the rules say
  pub translated : (parts : List (List ℕ)) (room : List ℕ) → length (joined parts) < most_lines
      → Translated (joined parts) room (finish_call (foldl take_call (taken begun m line) parts) room)
  translated parts room l =
      let text : List ℕ = joined parts in
      let t : Taken = taken begun m line in
      rw (calls_take t parts going_begun, call_finishes (take_all t text) room (going_all t text going_begun))
      (ends_translated text (last_kept (take_all t text)) room
      (whole t text simulates_begun (holds_none head_room line fits) l)
      (lines_few text l))

  -- a text in one piece
  pub translated_whole : (text room : List ℕ) → length text < most_lines → Translated text room (finish_call (take_call (taken begun m line) text) room)
  unfolding joined
  translated_whole text room l =
      let e : text ++ [] ≡ text = append-nil text in
      rw e at (translated (text ∷ []) room (rw e l))
