-- The verdict on what is kept: it tells the verdict on the task stated, and where that is accepted the bodies kept are those of its file.
-- Assumes nothing.
use Rattle.std.specs.Prelude.{Ok, Err}
use mathlib.Core.Path.{◌≡◌, sym, ap, ◌∙◌}
use mathlib.Core.Logic.{◌⊎◌, inl, inr}
use mathlib.Core.Bool.{Bool, true}
use mathlib.Core.List.{List, [], ◌∷◌}
use Prim.Native.Nat.{ℕ, ◌*◌, ◌%◌, ◌<◌}
use native.Mathlib.Omega.{arith}
use borrow.Author.Tests.{eq-eqb}
use lib.Dec.{eqb}
use lib.ListN.{length, take, length-map, get_or-map}
use Rattle.rules.specs.Limits.{max_actions, pair_bytes}
use Rattle.rules.specs.Answers.{judge, in_turn, Verdict}
use Rattle.rules.specs.Task.{Task, Action, A, action, action_at_fault, task_rules}
use Rattle.rules.specs.File.{pair_text, action_text, rests, is_whole, bodies_of}
use Rattle.rules.specs.Format.{Stated, no_action}
use Rattle.rules.specs.declared.Refusal.TheVariants.{BodyLength, ActionAtFault}
use Rattle.rules.proofs.Counting.{first_ext, for_each-joined}
use Rattle.rules.proofs.Valid.{valid_well_formed}
use Rattle.rules.proofs.Actions.{length-pair_text, goal_back, actions_back, actions_whole}
use Rattle.reader.specs.Bodies.{task_in, bodies_rules}
use Rattle.bodies.specs.declared.Kept.{Kept}
use Rattle.bodies.specs.declared.Excess.TheVariants.{Within, Lengths, Actions}
use Rattle.bodies.proofs.Alike.{blur, blur_action, blur_task, blur_stated}
use Rattle.bodies.proofs.Judged.{judged_blurred, blurred_same}
use Rattle.bodies.proofs.Beyond.{TooMany, judged_long, judged_cut}
use Rattle.bodies.proofs.HeldBodies.{actions_text}
use Rattle.bodies.proofs.States.{Over, number, among, reading, CutShort, States}

-- ---- a task in bytes

-- with every action whole, only the task is judged
judged_whole : (T : Task) (w : ℕ → Bool) → ((a : ℕ) → a < A T → w a ≡ true) → judge (task_rules true w T) ≡ judge (task_rules true (λ a. true) T)
unfolding task_rules action_at_fault
judged_whole T w h =
    rw (first_ext (A T) (action_at_fault w T) (action_at_fault (λ a. true) T) (λ a l. rw (h a l)))

bodies_task : (T : Task) → task_in T.sizes T.start (pair_text T.goal) (actions_text T.actions) ≡ T
bodies_task T =
    λ i. record { sizes = T.sizes; start = T.start; goal = goal_back T.goal i; actions = actions_back T.actions i }

bodies_of_lem : (T : Task) → T.sizes ∷ T.start ∷ pair_text T.goal ∷ actions_text T.actions ∷ [] ≡ bodies_of T
unfolding bodies_of
bodies_of_lem T = ap (λ a. T.sizes ∷ T.start ∷ pair_text T.goal ∷ a ∷ []) (sym (for_each-joined action_text T.actions no_action))

judged_bodies : (T : Task)
    → judge (bodies_rules T.sizes T.start (pair_text T.goal) (actions_text T.actions)) ≡ judge (task_rules true (λ a. true) T)
unfolding bodies_rules
judged_bodies T =
    let even : eqb (length (pair_text T.goal) % pair_bytes) 0 ≡ true = omega (arith, eq-eqb, length-pair_text T.goal) in
    rw (even, bodies_task T) (judged_whole T (is_whole (rests (actions_text T.actions))) (actions_whole T.actions))

-- ---- what is kept, judged

abbrev pub kept_bodies : Kept → (sizes start goal actions : List ℕ) → List (List ℕ)
kept_bodies k sizes start goal actions =
    take k.sizes sizes ∷ take k.starts start ∷ take (pair_bytes * k.goals) goal ∷ take k.bytes actions ∷ []

abbrev pub kept_verdict : Kept → (sizes start goal actions : List ℕ) → Verdict
kept_verdict k sizes start goal actions =
    judge (bodies_rules (take k.sizes sizes) (take k.starts start) (take (pair_bytes * k.goals) goal) (take k.bytes actions))

-- the verdict on the task stated
abbrev pub task_verdict : Task → Verdict
task_verdict T = judge (task_rules true (λ a. true) T)

-- one action over a limit, blurred
over_blurred : (s : Stated) (j : ℕ) → s.action ≡ no_action → Over s j
    → (j < A (blur_task s.task)) × ((j ≡ max_actions) ⊎ TooMany (action (blur_task s.task) j))
over_blurred s j e (number h l) = (omega (arith, length-map s.task.actions blur_action), inl h)
over_blurred s j e (among l h) =
    let a : Action = action s.task j in
    let blurred : action (blur_task s.task) j ≡ blur_action a = get_or-map blur_action s.task.actions j no_action in (
      omega (arith, length-map s.task.actions blur_action),
      inr (rw blurred (omega (arith, h, length-map a.preconditions blur, length-map a.effects blur))),
    )
over_blurred s j e (reading l h) = absurd (omega (arith, h, ap (λ a. length a.preconditions) e, ap (λ a. length a.effects) e))

module _ (s : Stated) (k : Kept) (sizes start goal actions : List ℕ) (r : States s k sizes start goal actions) where
  abbrev t : Task
  t = r.in_bytes.task

  sizes_kept : take k.sizes sizes ≡ t.sizes
  sizes_kept = ap (λ c. take c sizes) r.sizes_held.counted ∙ r.sizes_held.held

  start_kept : take k.starts start ≡ t.start
  start_kept = ap (λ c. take c start) r.start_held.counted ∙ r.start_held.held

  goal_kept : take (pair_bytes * k.goals) goal ≡ pair_text t.goal
  goal_kept =
      let long : pair_bytes * k.goals ≡ length (pair_text t.goal) = omega (arith, r.goal_held.counted, length-pair_text t.goal) in
      ap (λ c. take c goal) long ∙ r.goal_held.held

  actions_kept : take k.bytes actions ≡ actions_text t.actions
  actions_kept = ap (λ c. take c actions) r.actions_held.bytes_counted ∙ r.actions_held.held

  verdict_in_bytes : kept_verdict k sizes start goal actions ≡ task_verdict t
  verdict_in_bytes = (λ i. judge (bodies_rules (sizes_kept i) (start_kept i) (goal_kept i) (actions_kept i))) ∙ judged_bodies t

  -- within the limits: the verdict is the same
  module _ (e : k.excess ≡ Within) where
    alike : blur_stated r.in_bytes ≡ blur_stated s
    alike = rw e at r.agrees

    pub verdict_within : kept_verdict k sizes start goal actions ≡ task_verdict s.task
    verdict_within =
        verdict_in_bytes ∙ sym (judged_blurred t) ∙ ap (λ u. task_verdict u.task) alike ∙ judged_blurred s.task

    task_kept : task_verdict s.task ≡ Ok tt → t ≡ s.task
    task_kept h =
        sym (blurred_same t (valid_well_formed t (sym verdict_in_bytes ∙ verdict_within ∙ h)))
        ∙ ap (λ u. u.task) alike
        ∙ blurred_same s.task (valid_well_formed s.task h)

    -- and of an accepted task the bodies kept are those of its file
    pub bodies_within : task_verdict s.task ≡ Ok tt → kept_bodies k sizes start goal actions ≡ bodies_of s.task
    bodies_within h =
        (λ i. sizes_kept i ∷ start_kept i ∷ goal_kept i ∷ actions_kept i ∷ []) ∙ bodies_of_lem t ∙ ap bodies_of (task_kept h)

  -- a body too long is refused as that
  pub verdict_lengths : k.excess ≡ Lengths → task_verdict s.task ≡ Err BodyLength
  verdict_lengths e = judged_long s.task (rw e at r.agrees)

  -- beyond a limit of the actions, with no operator half read: number k .actions is at fault, unless another is before it
  pub verdict_actions : k.excess ≡ Actions → s.action ≡ no_action
      → task_verdict s.task ≡ in_turn (kept_verdict k sizes start goal actions) (Err (ActionAtFault k.actions))
  verdict_actions e done =
      let c : CutShort s r.in_bytes = rw e at r.agrees in
      let j : ℕ = A t in
      let o = over_blurred s j done c.over in
      let count : k.actions ≡ j = r.actions_held.counted in
      sym (judged_blurred s.task)
      ∙ judged_cut (blur_task s.task) j o.0 (omega (arith, r.sound.actions)) o.1
      ∙ (λ i. in_turn (task_verdict (sym c.task i)) (Err (ActionAtFault (sym count i))))
      ∙ ap (λ v. in_turn v (Err (ActionAtFault k.actions))) (judged_blurred t ∙ sym verdict_in_bytes)
