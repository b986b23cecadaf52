-- A text taken in: a line at a time, and in pieces of any length. The first bytes of a line are held, which decide it.
-- Assumes nothing.
use Rattle.std.specs.Prelude.{ℕ, zero, suc, ◌+◌, ◌*◌, ◌-◌, ◌^◌, ◌≤◌, ◌<◌, min, ◌≡◌, Bool, true, not, cond, ◌&&◌, leb, ltb, eqb, length, get_or, take, drop, set, Option, None, Some, Result, Ok, Err}
use mathlib.Core.List.{List, [], ◌∷◌, foldl}
use Rattle.rules.specs.Limits.{max_variables, max_goals, max_actions, max_pairs, max_action, pair_bytes}
use Rattle.rules.specs.Answers.{judge, demand, in_turn, Verdict}
use Rattle.rules.specs.Task.{Pair}
use Rattle.rules.specs.Text.{lf}
use Rattle.rules.specs.Calls.{room_rule, lent_after}
use Rattle.rules.specs.Format.{shape_of}
use Rattle.rules.specs.Translation.{is_end}
use Rattle.rules.specs.declared.Refusal.{Refusal}
use Rattle.rules.specs.declared.Refusal.TheVariants.{Room, BodyLength, ActionAtFault, AgainstFormat}
use Rattle.rules.specs.declared.FormatLine.{FormatLine}
use Rattle.rules.specs.declared.FormatLine.TheVariants.{BeginVersion, Version, EndVersion, BeginMetric, Metric, EndMetric, VariableCount, BeginVariable, VariableName, AxiomLayer, Range, AtomName, EndVariable, MutexGroupCount, BeginMutexGroup, MutexFactCount, MutexFact, EndMutexGroup, BeginState, StateValue, EndState, BeginGoal, GoalCount, GoalFact, EndGoal, OperatorCount, BeginOperator, OperatorName, PrevailCount, PrevailCondition, EffectCount, Effect, Cost, EndOperator, AxiomCount, EndOfText}
use Rattle.reader.specs.Bodies.{bodies_rules}
use Rattle.writer.specs.Laid.{laid_out}
use Rattle.textlines.specs.Says.{deciding, says_as}
use Rattle.textlines.specs.declared.Numbers.{Numbers}
use Rattle.bodies.specs.Keeping.{Keeping, keeps, nothing_kept, Sound, goal_room, actions_room, keep_size, keep_start, keep_goal, keep_precondition, keep_effect, keep_action}
use Rattle.bodies.specs.declared.Kept.{Kept}
use Rattle.bodies.specs.declared.Excess.{Excess}
use Rattle.bodies.specs.declared.Excess.TheVariants.{Within, Lengths, Actions}
use Rattle.translator.specs.Position.{first_position, line_due, moved_on}
use Rattle.translator.specs.declared.parts.Bodies.{Bodies}
use Rattle.translator.specs.declared.parts.Parts.{Parts}
use Rattle.translator.specs.declared.position.Position.{Position}
use Rattle.translator.specs.declared.intake.Intake.{Intake}

-- ---- what is lent: a part for each body, and one for the line that has begun

pub record Memory : Type 0 where
  pub sizes : List ℕ
  pub start : List ℕ
  pub goal : List ℕ
  pub actions : List ℕ

abbrev pub memory : (sizes start goal actions : List ℕ) → Memory
memory sizes start goal actions = record { sizes = sizes; start = start; goal = goal; actions = actions }

-- what the parts that are lent to be read have
abbrev pub read_from : Bodies → Memory
read_from b = memory b.sizes.now b.start.now b.goal.now b.actions.now

-- what the parts that are lent to be written have
abbrev pub lent_in : Parts → Memory
lent_in p = memory p.sizes.now p.start.now p.goal.now p.actions.now

-- the same parts of memory still, each as long as it was
pub record SameParts (before after : Parts) : Type 0 where
  pub sizes : after.sizes.ghost_name ≡ before.sizes.ghost_name
  pub start : after.start.ghost_name ≡ before.start.ghost_name
  pub goal : after.goal.ghost_name ≡ before.goal.ghost_name
  pub actions : after.actions.ghost_name ≡ before.actions.ghost_name
  pub sizes_long : length after.sizes.now ≡ length before.sizes.now
  pub start_long : length after.start.now ≡ length before.start.now
  pub goal_long : length after.goal.now ≡ length before.goal.now
  pub actions_long : length after.actions.now ≡ length before.actions.now

-- room for each body at its limit
pub record Lent (m : Memory) : Type 0 where
  pub sizes : max_variables ≤ length m.sizes
  pub start : max_variables ≤ length m.start
  pub goal : goal_room ≤ length m.goal
  pub actions : actions_room ≤ length m.actions

-- what is kept, and where
pub record KeptBodies : Type 0 where
  pub kept : Kept
  pub memory : Memory

abbrev pub kept_in : Kept → Memory → KeptBodies
kept_in kept m = record { kept = kept; memory = m }

-- ---- what a line adds

abbrev pub in_sizes : (Keeping → Keeping) → KeptBodies → KeptBodies
in_sizes f k =
    let after : Keeping = f (keeps k.kept k.memory.sizes) in
    kept_in after.kept (memory after.body k.memory.start k.memory.goal k.memory.actions)

abbrev pub in_start : (Keeping → Keeping) → KeptBodies → KeptBodies
in_start f k =
    let after : Keeping = f (keeps k.kept k.memory.start) in
    kept_in after.kept (memory k.memory.sizes after.body k.memory.goal k.memory.actions)

abbrev pub in_goal : (Keeping → Keeping) → KeptBodies → KeptBodies
in_goal f k =
    let after : Keeping = f (keeps k.kept k.memory.goal) in
    kept_in after.kept (memory k.memory.sizes k.memory.start after.body k.memory.actions)

abbrev pub in_actions : (Keeping → Keeping) → KeptBodies → KeptBodies
in_actions f k =
    let after : Keeping = f (keeps k.kept k.memory.actions) in
    kept_in after.kept (memory k.memory.sizes k.memory.start k.memory.goal after.body)

abbrev pub pair_of : (variable value : ℕ) → Pair
pair_of variable value = record { variable = variable; value = value }

-- an old value, unless it is any, is a precondition
abbrev pub keep_old : ℕ → Option ℕ → Keeping → Keeping
keep_old variable None k = k
keep_old variable (Some value) k = keep_precondition (pair_of variable value) k

abbrev pub effect_kept : Numbers → Keeping → Keeping
effect_kept said k = keep_effect (pair_of said.first said.second) (keep_old said.first said.old k)

abbrev pub keep_numbers : FormatLine → Numbers → KeptBodies → KeptBodies
keep_numbers BeginVersion said k = k
keep_numbers Version said k = k
keep_numbers EndVersion said k = k
keep_numbers BeginMetric said k = k
keep_numbers Metric said k = k
keep_numbers EndMetric said k = k
keep_numbers VariableCount said k = k
keep_numbers BeginVariable said k = k
keep_numbers VariableName said k = k
keep_numbers AxiomLayer said k = k
keep_numbers Range said k = in_sizes (keep_size said.first) k
keep_numbers AtomName said k = k
keep_numbers EndVariable said k = k
keep_numbers MutexGroupCount said k = k
keep_numbers BeginMutexGroup said k = k
keep_numbers MutexFactCount said k = k
keep_numbers MutexFact said k = k
keep_numbers EndMutexGroup said k = k
keep_numbers BeginState said k = k
keep_numbers StateValue said k = in_start (keep_start said.first) k
keep_numbers EndState said k = k
keep_numbers BeginGoal said k = k
keep_numbers GoalCount said k = k
keep_numbers GoalFact said k = in_goal (keep_goal (pair_of said.first said.second)) k
keep_numbers EndGoal said k = k
keep_numbers OperatorCount said k = k
keep_numbers BeginOperator said k = k
keep_numbers OperatorName said k = k
keep_numbers PrevailCount said k = k
keep_numbers PrevailCondition said k = in_actions (keep_precondition (pair_of said.first said.second)) k
keep_numbers EffectCount said k = k
keep_numbers Effect said k = in_actions (effect_kept said) k
keep_numbers Cost said k = in_actions keep_action k
keep_numbers EndOperator said k = k
keep_numbers AxiomCount said k = k
keep_numbers EndOfText said k = k

unfoldable pub keep_line : FormatLine → Numbers → KeptBodies → KeptBodies
keep_line due said k = keep_numbers due said k

-- ---- a line

-- a count of lines stays at the largest number that there is
abbrev pub most_lines : ℕ
most_lines = 2 ^ 64 - 1

abbrev pub one_more : ℕ → ℕ
one_more lines = min (lines + 1) most_lines

-- how many bytes of a line are held at most: those that decide it
abbrev pub head_room : ℕ
head_room = deciding

-- how far a reading is, and all that is lent to it
pub record Taken : Type 0 where
  pub intake : Intake
  pub memory : Memory
  pub line : List ℕ

abbrev pub taken : Intake → Memory → List ℕ → Taken
taken intake m line = record { intake = intake; memory = m; line = line }

-- a line that was in order has been read, and so much is kept
abbrev pub read_on : (due : FormatLine) → Numbers → Intake → Kept → Intake
read_on due said i kept =
    record { position = moved_on due said.first i.position; lines = one_more i.lines; verdict = Ok tt; kept = kept; held = 0 }

-- a line that was against the rules ends the reading
abbrev pub stopped_for : Refusal → Intake → Intake
stopped_for why i = record { position = i.position; lines = i.lines; verdict = Err why; kept = i.kept; held = 0 }

abbrev pub after_line : Result Numbers Refusal → (due : FormatLine) → Intake → Memory → List ℕ → Taken
after_line (Ok said) due i m line =
    let k : KeptBodies = keep_line due said (kept_in i.kept m) in
    taken (read_on due said i k.kept) k.memory line
after_line (Err why) due i m line = taken (stopped_for why i) m line

-- what a reading needs: counts within their limits, and room
pub record Ready (t : Taken) : Type 0 where
  pub kept : Sound t.intake.kept
  pub held : t.intake.held ≤ head_room
  pub lent : Lent t.memory
  pub line : head_room ≤ length t.line

-- the first fault ends the reading
abbrev pub unless_refused : Verdict → Taken → Taken → Taken
unless_refused (Ok _) next t = next
unless_refused (Err why) next t = t

-- the line that is held ends
unfoldable pub end_line : Taken → Taken
end_line t =
    let i : Intake = t.intake in
    unless_refused i.verdict
    (after_line (says_as (line_due i.position) (one_more i.lines) (take i.held t.line)) (line_due i.position) i t.memory t.line)
    t

-- ---- bytes

abbrev pub with_held : ℕ → Intake → Intake
with_held held i = record { position = i.position; lines = i.lines; verdict = i.verdict; kept = i.kept; held = held }

unfoldable pub take_byte : Taken → ℕ → Taken
take_byte t b =
    unless_refused t.intake.verdict
    (cond (eqb b lf) (end_line t)
    (cond (ltb t.intake.held head_room) (taken (with_held (t.intake.held + 1) t.intake) t.memory (set t.line t.intake.held b)) t))
    t

unfoldable pub take_all : Taken → List ℕ → Taken
take_all t bytes = foldl take_byte t bytes

-- bytes from a place on are held, up to an LF or the end: for every reading what is left comes to the same
unfoldable pub SameRest : (bytes : List ℕ) (at held : ℕ) (line : List ℕ) (end held_then : ℕ) (line_then : List ℕ) → Type 0
SameRest bytes at held line end held_then line_then =
    (i : Intake) (m : Memory) → i.verdict ≡ Ok tt
    → take_all (taken (with_held held_then i) m line_then) (drop end bytes) ≡ take_all (taken (with_held held i) m line) (drop at bytes)

pub record HeldUpTo (bytes : List ℕ) (at held : ℕ) (line : List ℕ) (end held_then : ℕ) (line_then : List ℕ) : Type 0 where
  pub from : at ≤ end
  pub within : end ≤ length bytes
  pub ends : end < length bytes → get_or bytes end 0 ≡ lf
  pub fits : held_then ≤ head_room
  pub rest : SameRest bytes at held line end held_then line_then

-- bytes from a place on, up to an LF or the end, change nothing once the first of a line are held
unfoldable pub Passed : (bytes : List ℕ) (at end : ℕ) → Type 0
Passed bytes at end = (line : List ℕ) → SameRest bytes at head_room line end head_room line

pub record PassedUpTo (bytes : List ℕ) (at end : ℕ) : Type 0 where
  pub from : at ≤ end
  pub within : end ≤ length bytes
  pub ends : end < length bytes → get_or bytes end 0 ≡ lf
  pub rest : Passed bytes at end

-- whether none of so many bytes from a place on is an LF
unfoldable pub no_lf : (bytes : List ℕ) (at count : ℕ) → Bool
no_lf bytes at zero = true
no_lf bytes at (suc m) = no_lf bytes at m && not (eqb (get_or bytes (at + m) 0) lf)

-- how many bytes of a long line are looked at together
abbrev pub block : ℕ
block = 16

abbrev pub half_block : ℕ
half_block = 8

abbrev pub quarter_block : ℕ
quarter_block = 4

unfoldable pub block_passes : (bytes : List ℕ) (at : ℕ) → Bool
block_passes bytes at = leb (at + block) (length bytes) && no_lf bytes at block

-- a reading goes on so, and nothing but what is held changes
pub record HeldLine (i : Intake) (line bytes : List ℕ) (at : ℕ) (then : Intake) (end : ℕ) (line_then : List ℕ) : Type 0 where
  pub from : at ≤ end
  pub within : end ≤ length bytes
  pub ends : end < length bytes → (get_or bytes end 0 ≡ lf) × (then.verdict ≡ Ok tt)
  pub fits : then.held ≤ head_room
  pub kept : then.kept ≡ i.kept
  pub rest : (m : Memory) → take_all (taken then m line_then) (drop end bytes) ≡ take_all (taken i m line) (drop at bytes)

-- ---- the calls: a reading that asks for more than there can be is refused for room

unfoldable pub actions_fit : (actions bytes : ℕ) → Bool
actions_fit actions bytes = leb actions max_actions && leb bytes (max_action * actions)

unfoldable pub counts_fit : Kept → Bool
counts_fit k =
    leb k.sizes max_variables && leb k.starts max_variables && leb k.goals max_goals && actions_fit k.actions k.bytes
    && leb k.preconditions max_pairs && leb k.effects max_pairs

unfoldable pub lent_fits : Memory → (line : ℕ) → Bool
lent_fits m line =
    leb max_variables (length m.sizes) && leb max_variables (length m.start) && leb goal_room (length m.goal) && leb actions_room (length m.actions)
    && leb head_room line

unfoldable pub has_room : Taken → Bool
has_room t = counts_fit t.intake.kept && leb t.intake.held head_room && lent_fits t.memory (length t.line)

abbrev pub refused_for : Verdict → Intake → Intake
refused_for verdict i = record { position = i.position; lines = i.lines; verdict = verdict; kept = i.kept; held = i.held }

unfoldable pub take_call : Taken → List ℕ → Taken
take_call t bytes = cond (has_room t) (take_all t bytes) (taken (refused_for (Err Room) t.intake) t.memory t.line)

abbrev pub begun : Intake
begun = record { position = first_position; lines = 0; verdict = Ok tt; kept = nothing_kept; held = 0 }

-- ---- the end: what is lent for the reading stays as it is

-- a last line is judged and not kept: one that adds something ends no text
abbrev pub last_said : Result Numbers Refusal → (due : FormatLine) → Intake → Intake
last_said (Ok said) due i = read_on due said i i.kept
last_said (Err why) due i = stopped_for why i

-- what is held of a last line without LF is a line
unfoldable pub last_line : Taken → Taken
last_line t =
    let i : Intake = t.intake in
    cond (eqb i.held 0) t
    (unless_refused i.verdict
    (taken (last_said (says_as (line_due i.position) (one_more i.lines) (take i.held t.line)) (line_due i.position) i) t.memory t.line) t)

-- as much of each body as is kept
abbrev pub kept_of : Kept → Memory → Memory
kept_of k m = memory (take k.sizes m.sizes) (take k.starts m.start) (take (pair_bytes * k.goals) m.goal) (take k.bytes m.actions)

unfoldable pub rules_kept : Kept → Memory → Verdict
rules_kept k m = let b : Memory = kept_of k m in judge (bodies_rules b.sizes b.start b.goal b.actions)

unfoldable pub file_kept : Kept → Memory → List ℕ
file_kept k m = let b : Memory = kept_of k m in laid_out b.sizes b.start b.goal b.actions

-- refusals 3 to 7, then 10
abbrev pub verdict_kept : Excess → Kept → Memory → (room : ℕ) → Verdict
verdict_kept Within k m room = in_turn (rules_kept k m) (judge (room_rule (length (file_kept k m)) room))
verdict_kept Lengths k m room = Err BodyLength
verdict_kept Actions k m room = in_turn (rules_kept k m) (Err (ActionAtFault k.actions))

-- a text that stops early is at fault at the line after its last
unfoldable pub stops_early : Position → (lines : ℕ) → Verdict
stops_early p lines = judge (demand (is_end (shape_of (line_due p))) (AgainstFormat (one_more lines)) ∷ [])

-- 30 to 32, then those
unfoldable pub verdict_at_end : Intake → Memory → (room : ℕ) → Verdict
verdict_at_end i m room = in_turn i.verdict (in_turn (stops_early i.position i.lines) (verdict_kept i.kept.excess i.kept m room))

unfoldable pub end_verdict : Taken → (room : ℕ) → Verdict
end_verdict t room = verdict_at_end t.intake t.memory room

abbrev pub Translation : Type 0
Translation = Result ℕ Refusal

abbrev pub translation : Verdict → (length : ℕ) → Translation
translation (Ok _) length = Ok length
translation (Err why) length = Err why

-- the answer, and the lent room
pub record Ended : Type 0 where
  pub answer : Translation
  pub room : List ℕ

abbrev pub ended : Translation → List ℕ → Ended
ended answer room = record { answer = answer; room = room }

unfoldable pub end_with : Taken → (room : List ℕ) → Ended
end_with t room =
    let v : Verdict = end_verdict t (length room) in
    let file : List ℕ = file_kept t.intake.kept t.memory in
    ended (translation v (length file)) (lent_after v file room)

-- what is answered at the end, and what is left in the room
pub record EndsWith (i : Intake) (m : Memory) (room : List ℕ) (answer : Translation) (after : List ℕ) : Type 0 where
  pub answered : answer ≡ translation (verdict_at_end i m (length room)) (length (file_kept i.kept m))
  pub leaves : after ≡ lent_after (verdict_at_end i m (length room)) (file_kept i.kept m) room

unfoldable pub finish_call : Taken → (room : List ℕ) → Ended
finish_call t room = cond (has_room t) (end_with (last_line t) room) (ended (Err Room) room)
