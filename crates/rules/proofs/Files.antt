-- Task files: an accepted file states a valid task, and each valid task has a file that is accepted and read back as it.
-- Assumes nothing.
use Rattle.std.specs.Prelude.{Ok}
use mathlib.Core.Path.{◌≡◌, refl, sym, ap, ◌∙◌}
use mathlib.Core.Bool.{Bool, true}
use mathlib.Core.List.{List, [], ◌∷◌, ◌++◌, map}
use Prim.Native.Nat.{ℕ, ◌+◌, ◌%◌, ◌/◌, ◌≤◌, ◌<◌}
use native.Mathlib.Omega.{arith}
use borrow.Author.Tests.{lt-ltb, eq-eqb}
use lib.Dec.{ltb, eqb}
use lib.ListN.{length, get_or, length-append}
use Rattle.rules.specs.Counting.{sum_to, every, joined}
use Rattle.rules.specs.Limits.{max_file, max_action, byte_values, contents_bytes, contents_rows, pair_bytes}
use Rattle.rules.specs.Task.{Pair, Action, Task, n, A, start_value, pair, action, Valid}
use Rattle.rules.specs.File.{contents_rules, contents_verdict, body, pairs_at, action_in, rests, is_whole, task_of, file_rules, file_verdict, pair_text, action_text, bodies_of, bytes16, contents_from, file_of}
use Rattle.rules.proofs.Counting.{sum_to-le, sum_to-const, length-for_each, for_each-joined, every_append, every_for_each, every_joined, every_by}
use Rattle.rules.proofs.Judging.{judge_append, in_turn-left, in_turn-right, in_turn-both}
use Rattle.rules.proofs.Valid.{Inside, InOrder, ActionFine, WellFormed, Judged, accepted_judged, judged_accepted, well_formed_valid}
use Rattle.rules.proofs.Contents.{Contents, accepted_contents, contents_accepted, length-contents, length-with_contents, contents_back, body_back}
use Rattle.rules.proofs.Actions.{length-pair_text, goal_back, length-action_text, actions_back, actions_whole}

-- ---- accepted files

-- what acceptance of a file says
pub record FileJudged (file : List ℕ) : Type 0 where
  pub contents : Contents file
  pub task : Judged (eqb (length (body file 2) % pair_bytes) 0) (is_whole (rests (body file 3))) (task_of file)

pub accepted_file : (file : List ℕ) → file_verdict file ≡ Ok tt → FileJudged file
unfolding file_verdict file_rules contents_verdict
accepted_file file h =
    let turns = sym (judge_append (contents_rules file) _) ∙ h in
    record {
      contents = accepted_contents file (in_turn-left (contents_verdict file) _ turns);
      task = accepted_judged _ _ (task_of file) (in_turn-right (contents_verdict file) _ turns);
    }

pub file_accepted : (file : List ℕ) → FileJudged file → file_verdict file ≡ Ok tt
unfolding file_verdict file_rules contents_verdict
file_accepted file f =
    judge_append (contents_rules file) _ ∙ in_turn-both _ _ (contents_accepted file f.contents) (judged_accepted _ _ (task_of file) f.task)

-- an accepted file states a valid task
pub accepted_well_formed : (file : List ℕ) → file_verdict file ≡ Ok tt → WellFormed (task_of file)
accepted_well_formed file h = (accepted_file file h).task.well_formed

pub accepted_valid : (file : List ℕ) → file_verdict file ≡ Ok tt → Valid (task_of file)
accepted_valid file h = well_formed_valid (task_of file) (accepted_well_formed file h)

-- ---- the file of a task

body_of : (T : Task) (r : ℕ) → r < contents_rows → body (file_of T) r ≡ get_or (bodies_of T) r []
unfolding file_of bodies_of
body_of T = body_back (bodies_of T) refl

actions_body : (T : Task) → body (file_of T) 3 ≡ joined (map action_text T.actions)
unfolding bodies_of
actions_body T = body_of T 3 (omega arith) ∙ for_each-joined action_text T.actions (record { preconditions = []; effects = [] })

-- each task is read back from its file
pub read_back : (T : Task) → task_of (file_of T) ≡ T
unfolding task_of bodies_of
read_back T =
    λ i.
    record {
      sizes = body_of T 0 (omega arith) i;
      start = body_of T 1 (omega arith) i;
      goal = (ap (λ s. pairs_at s 0 (length s / pair_bytes)) (body_of T 2 (omega arith)) ∙ goal_back T.goal) i;
      actions = (ap (λ s. map action_in (rests s)) (actions_body T) ∙ actions_back T.actions) i;
    }

action_short : (T : Task) (a : Action) → ActionFine T a → length (action_text a) ≤ max_action
action_short T a f = omega (arith, length-action_text a, f)

-- no valid task's file is over the longest
pub file_short : (T : Task) → WellFormed T → length (file_of T) ≤ max_file
unfolding file_of bodies_of sum_to
file_short T t =
    let text : ℕ → List ℕ = λ a. action_text (action T a) in
    omega (
      arith,
      length-with_contents (bodies_of T) refl,
      length-pair_text T.goal,
      length-for_each (A T) text,
      sum_to-le (A T) (λ a. length (text a)) (λ a. max_action) (λ a l. action_short T (action T a) (t.actions_fine a l)),
      sum_to-const (A T) max_action,
    )

-- each valid task's file is accepted
pub well_formed_accepted : (T : Task) → WellFormed T → file_verdict (file_of T) ≡ Ok tt
unfolding file_of bodies_of
well_formed_accepted T t =
    file_accepted (file_of T)
    (record {
      contents = contents_back (bodies_of T) refl (file_short T t);
      task =
          record {
            well_formed = rw (read_back T) t;
            goal_whole = omega (arith, eq-eqb, ap length (body_of T 2 (omega arith)), length-pair_text T.goal);
            each_whole = λ a l. rw (actions_body T) (actions_whole T.actions a (omega (arith, l, ap A (read_back T))));
          };
    })

-- ---- its bytes

abbrev pub is_byte : ℕ → Bool
is_byte b = ltb b byte_values

two_bytes : (a b : ℕ) → a < byte_values → b < byte_values → every is_byte (a ∷ b ∷ []) ≡ true
unfolding every
two_bytes a b h l = rw (lt-ltb a byte_values h, lt-ltb b byte_values l)

word_bytes : (m : ℕ) → m ≤ max_file → every is_byte (bytes16 m) ≡ true
word_bytes m h = two_bytes (m % byte_values) (m / byte_values) (omega arith) (omega arith)

contents_bytes_lem : (at : ℕ) (bs : List (List ℕ)) → at + length (joined bs) ≤ max_file → every is_byte (contents_from at bs) ≡ true
unfolding contents_from joined every
contents_bytes_lem at [] h = refl
contents_bytes_lem at (b ∷ bs) h =
    let fits = length-append b (joined bs) in
    every_append is_byte (bytes16 at ++ bytes16 (length b)) (contents_from (at + length b) bs)
    (every_append is_byte (bytes16 at) (bytes16 (length b)) (word_bytes at (omega (arith, fits))) (word_bytes (length b) (omega (arith, fits))))
    (contents_bytes_lem (at + length b) bs (omega (arith, fits)))

module _ (T : Task) (t : WellFormed T) where
  pair_bytes_lem : (ps : List Pair) → InOrder T ps → every is_byte (pair_text ps) ≡ true
  unfolding pair_text
  pair_bytes_lem ps o =
      every_for_each is_byte (length ps) (λ i. (pair ps i).variable ∷ (pair ps i).value ∷ []) (λ i l.
      let here : Inside T (pair ps i) = o.inside_each i l in
      two_bytes (pair ps i).variable (pair ps i).value
      (omega (arith, here.variable_below, t.variables_few))
      (omega (arith, here.value_below, t.domain_small (pair ps i).variable here.variable_below)))

  action_bytes_lem : (a : Action) → ActionFine T a → every is_byte (action_text a) ≡ true
  unfolding action_text
  action_bytes_lem a f =
      every_append is_byte (length a.preconditions ∷ length a.effects ∷ []) (pair_text a.preconditions ++ pair_text a.effects)
      (two_bytes (length a.preconditions) (length a.effects) (omega (arith, f)) (omega (arith, f)))
      (every_append is_byte (pair_text a.preconditions) (pair_text a.effects)
      (pair_bytes_lem a.preconditions f.preconditions_fine) (pair_bytes_lem a.effects f.effects_fine))

  start_byte : (x : ℕ) → x < n T → is_byte (start_value T x) ≡ true
  start_byte x h = omega (arith, lt-ltb, t.start_inside x h, t.domain_small x h)

  -- a valid task's file consists of bytes
  pub file_bytes : every is_byte (file_of T) ≡ true
  unfolding file_of bodies_of every
  file_bytes =
      let contents : List ℕ = contents_from contents_bytes (bodies_of T) in
      every_append is_byte contents (joined (bodies_of T))
      (contents_bytes_lem contents_bytes (bodies_of T)
      (omega (arith, length-append contents (joined (bodies_of T)), length-contents (bodies_of T) contents_bytes, file_short T t)))
      (every_joined is_byte (bodies_of T) (rw (
        every_by is_byte T.sizes 0 (λ x l. omega (arith, lt-ltb, t.domain_small x l)),
        every_by is_byte T.start 0 (λ x l. start_byte x (omega (arith, t.start_whole))),
        pair_bytes_lem T.goal t.goal_fine,
        every_for_each is_byte (A T) (λ a. action_text (action T a)) (λ a l. action_bytes_lem (action T a) (t.actions_fine a l)),
      )))
