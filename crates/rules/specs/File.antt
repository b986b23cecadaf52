-- The task file: a table of contents and four bodies, the task that they state, and refusals 1 to 7.
-- Assumes nothing.
use Rattle.std.specs.Prelude.{ℕ, zero, suc, ◌+◌, ◌*◌, ◌/◌, ◌%◌, Bool, cond, not, ◌&&◌, ◌||◌, List, [], ◌∷◌, ◌++◌, map, leb, ltb, eqb, length, get_or, take, drop, Ok, Err}
use Rattle.rules.specs.Counting.{table, for_each, joined}
use Rattle.rules.specs.Limits.{max_file, byte_values, number_bytes, contents_rows, contents_bytes, row_bytes, pair_bytes, count_bytes}
use Rattle.rules.specs.Answers.{Rule, demand, none_at_fault, judge, Verdict}
use Rattle.rules.specs.Task.{Pair, Action, Task, pair, action, A, task_rules}
use Rattle.rules.specs.declared.Refusal.TheVariants.{FileLength, ContentsRow}

-- the byte at place i; past the end it is 0
abbrev pub byte : List ℕ → ℕ → ℕ
byte s i = get_or s i 0

-- two bytes, low byte first
abbrev pub word16 : List ℕ → ℕ → ℕ
word16 s i = byte s i + byte_values * byte s (i + 1)

-- ---- the table of contents

abbrev pub body_start : List ℕ → ℕ → ℕ
body_start file r = word16 file (row_bytes * r)

abbrev pub body_length : List ℕ → ℕ → ℕ
body_length file r = word16 file (row_bytes * r + number_bytes)

-- where the body of row r has to start: the first at 16, each next where the last ended
abbrev pub due_start : List ℕ → ℕ → ℕ
due_start file zero = contents_bytes
due_start file (suc r) = body_start file r + body_length file r

-- a row breaks the rule by its start; a wrong end counts as the last row
unfoldable pub row_at_fault : List ℕ → ℕ → Bool
row_at_fault file r =
    not (eqb (body_start file r) (due_start file r))
    || (eqb (suc r) contents_rows && not (eqb (due_start file (suc r)) (length file)))

-- refusals 1 and 2
unfoldable pub contents_rules : List ℕ → List Rule
contents_rules file =
    demand (leb contents_bytes (length file) && leb (length file) max_file) FileLength
    ∷ none_at_fault contents_rows (row_at_fault file) ContentsRow
    ∷ []

unfoldable pub contents_verdict : List ℕ → Verdict
contents_verdict file = judge (contents_rules file)

-- ---- the bodies

-- the stretch of the file that row r names
unfoldable pub body : List ℕ → ℕ → List ℕ
body file r = take (body_length file r) (drop (body_start file r) file)

-- body number b, from 1; empty where the contents are refused or the file has no such body
abbrev pub body_if_any : Verdict → List ℕ → ℕ → List ℕ
body_if_any (Ok _) file zero = []
body_if_any (Ok _) file (suc r) = cond (ltb r contents_rows) (body file r) []
body_if_any (Err why) file b = []

unfoldable pub body_asked : List ℕ → ℕ → List ℕ
body_asked file b = body_if_any (contents_verdict file) file b

-- ---- the task that the bodies state

-- count pairs, from place at on
unfoldable pub pairs_at : List ℕ → ℕ → ℕ → List Pair
pairs_at s at count = table count (λ i. record { variable = byte s (at + pair_bytes * i); value = byte s (at + pair_bytes * i + 1) })

-- the bytes of the action that begins a stretch, by its own counts
abbrev pub action_bytes : List ℕ → ℕ
action_bytes rest = count_bytes + pair_bytes * (byte rest 0 + byte rest 1)

unfoldable pub action_in : List ℕ → Action
action_in rest =
    record {
      preconditions = pairs_at rest count_bytes (byte rest 0);
      effects = pairs_at rest (count_bytes + pair_bytes * byte rest 0) (byte rest 1);
    }

-- for each action the rest of the body from its own first byte on
unfoldable pub rests_up_to : (most : ℕ) → List ℕ → List (List ℕ)
rests_up_to zero s = []
rests_up_to (suc most) [] = []
rests_up_to (suc most) (p ∷ s) = (p ∷ s) ∷ rests_up_to most (drop (action_bytes (p ∷ s)) (p ∷ s))

unfoldable pub rests : List ℕ → List (List ℕ)
rests s = rests_up_to (length s) s

-- the action's bytes are all there
unfoldable pub is_whole : List (List ℕ) → ℕ → Bool
is_whole stretches a = leb (action_bytes (get_or stretches a [])) (length (get_or stretches a []))

unfoldable pub task_of : List ℕ → Task
task_of file =
    record {
      sizes = body file 0;
      start = body file 1;
      goal = pairs_at (body file 2) 0 (length (body file 2) / pair_bytes);
      actions = map action_in (rests (body file 3));
    }

-- refusals 1 to 7
unfoldable pub file_rules : List ℕ → List Rule
file_rules file =
    contents_rules file
    ++ task_rules (eqb (length (body file 2) % pair_bytes) 0) (is_whole (rests (body file 3))) (task_of file)

unfoldable pub file_verdict : List ℕ → Verdict
file_verdict file = judge (file_rules file)

-- ---- the file that states a task

unfoldable pub pair_text : List Pair → List ℕ
pair_text ps = for_each (length ps) (λ i. (pair ps i).variable ∷ (pair ps i).value ∷ [])

unfoldable pub action_text : Action → List ℕ
action_text a = length a.preconditions ∷ length a.effects ∷ pair_text a.preconditions ++ pair_text a.effects

unfoldable pub bodies_of : Task → List (List ℕ)
bodies_of T = T.sizes ∷ T.start ∷ pair_text T.goal ∷ for_each (A T) (λ a. action_text (action T a)) ∷ []

abbrev pub bytes16 : ℕ → List ℕ
bytes16 m = m % byte_values ∷ m / byte_values ∷ []

-- the contents of bodies that stand one behind the other from place at on
unfoldable pub contents_from : ℕ → List (List ℕ) → List ℕ
contents_from at [] = []
contents_from at (b ∷ bs) = bytes16 at ++ bytes16 (length b) ++ contents_from (at + length b) bs

unfoldable pub file_of : Task → List ℕ
file_of T = contents_from contents_bytes (bodies_of T) ++ joined (bodies_of T)
