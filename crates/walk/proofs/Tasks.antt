-- What the walk's functions promise, in the words of the rules' walk of a task: a caller that knows the task's start, goal and action to be
-- those of the bytes that it lends has the rules' own definitions. And values stay inside their domains, and 0 from n on, whatever is
-- carried out.
-- Assumes nothing.
use mathlib.Core.Path.{◌≡◌, sym, ap, ◌∙◌}
use mathlib.Core.Logic.{◌⊎◌, ⊎_elim}
use mathlib.Core.Bool.{not}
use mathlib.Core.List.{List, [], ◌++◌}
use Prim.Native.Nat.{ℕ, zero, suc, ◌+◌, ◌-◌, ◌≤◌, ◌<◌}
use native.Mathlib.Omega.{arith}
use lib.ListN.{length, get_or, replicate, length-append, length-replicate, get_or-replicate, get_or-append, get_or-eq_default}
use lib.Seq.{get_or-append-add}
use Rattle.rules.specs.Counting.{first, every}
use Rattle.rules.specs.Limits.{max_variables}
use Rattle.rules.specs.Task.{Task, n, d, A, pair, action}
use Rattle.rules.specs.File.{action_in}
use Rattle.rules.specs.Walk.{State, start_state, holds, applies, set_pairs, apply, entry, after_entry, state_at}
use Rattle.rules.proofs.Bools.{below_or}
use Rattle.rules.proofs.Valid.{Inside, WellFormed}
use Rattle.rules.proofs.Moves.{SetBy, Untouched, length-set_pairs, set_pairs-at, start_at}
use Rattle.walk.specs.Lent.{start_values, goal_in, first_unmet}
use Rattle.walk.proofs.Loops.{start_filled, start_behind, length-start_values}

-- ---- the functions' answers

pub start_is : (T : Task) → length T.start ≡ n T → n T ≤ max_variables → start_values T.start ≡ start_state T
unfolding start_state
start_is T e l =
    let zeros : List ℕ = replicate (max_variables - n T) 0 in
    sym (start_filled T.start (T.start ++ zeros) max_variables
    (omega (arith, length-append T.start zeros, length-replicate {A = ℕ} (max_variables - n T) 0)) (omega arith) (λ x b.
    ⊎_elim (λ c. get_or-append T.start zeros 0 x c)
    (λ c.
    let p : x ≡ length T.start + (x - n T) = omega arith in
    ap (λ k. get_or (T.start ++ zeros) k 0) p
    ∙ get_or-append-add T.start zeros (x - n T) 0
    ∙ get_or-replicate {A = ℕ} (max_variables - n T) (x - n T) 0 0 (omega arith)
    ∙ sym (get_or-eq_default T.start 0 c))
    (below_or x (length T.start))))

pub applies_is : (T : Task) (a : ℕ) (σ : State) (s : List ℕ) → action T a ≡ action_in s → every (holds σ) (action_in s).preconditions ≡ applies T a σ
unfolding applies
applies_is T a σ s e = rw e

pub moved_is : (T : Task) (a : ℕ) (σ : State) (s : List ℕ) → action T a ≡ action_in s → set_pairs σ (action_in s).effects ≡ apply T a σ
unfolding apply
moved_is T a σ s e = rw e

pub unmet_is : (T : Task) (σ : State) (s : List ℕ) → T.goal ≡ goal_in s
    → first_unmet σ (goal_in s) ≡ first (length T.goal) (λ i. not (holds σ (pair T.goal i)))
unfolding first_unmet
unmet_is T σ s e = ap (first_unmet σ) (sym e)

-- ---- the record has 96 values: those before n are inside their domains, and those from n on are 0

-- what is so at the start and stays so is so at every step
module _ (T : Task) (Q : State → Type 0) (moves : (a : ℕ) (σ : State) → Q σ → Q (apply T a σ)) where
  entry_keeps : (e : ℕ) (σ : State) → Q σ → Q (after_entry T e σ)
  entry_keeps zero σ h = h
  entry_keeps (suc a) σ h = moves a σ h

  walk_keeps : Q (start_state T) → (schedule : List ℕ) (s : ℕ) → Q (state_at T schedule s)
  unfolding state_at
  walk_keeps h schedule zero = h
  walk_keeps h schedule (suc s) = entry_keeps (entry schedule s) (state_at T schedule s) (walk_keeps h schedule s)

pub record Whole (T : Task) (σ : State) : Type 0 where
  pub all_there : length σ ≡ max_variables
  pub before_n : (x : ℕ) → x < n T → get_or σ x 0 < d T x
  pub behind_n : (x : ℕ) → n T ≤ x → get_or σ x 0 ≡ 0

module _ (T : Task) (fine : WellFormed T) where
  effects_inside : (a i : ℕ) → i < length (action T a).effects → Inside T (pair (action T a).effects i)
  effects_inside a i l =
      ⊎_elim (λ b. (fine.actions_fine a b).effects_fine.inside_each i l)
      (λ b.
      absurd (omega (arith, ap (λ c. length c.effects) (get_or-eq_default T.actions (record { preconditions = []; effects = [] }) b))))
      (below_or a (A T))

  start_whole : Whole T (start_state T)
  start_whole =
      let e : start_values T.start ≡ start_state T = start_is T fine.start_whole fine.variables_few in
      record {
        all_there = ap length (sym e) ∙ length-start_values T.start;
        before_n = λ x l. rw (start_at T fine x l) (fine.start_inside x l);
        behind_n = λ x l. ap (λ σ. get_or σ x 0) (sym e) ∙ start_behind T.start x (omega (arith, fine.start_whole));
      }

  moved_whole : (a : ℕ) (σ : State) → Whole T σ → Whole T (apply T a σ)
  unfolding apply
  moved_whole a σ w =
      record {
        all_there = length-set_pairs σ (action T a).effects ∙ w.all_there;
        before_n = λ x l.
            ⊎_elim (λ r. rw (r.names, r.gives) at (effects_inside a r.place r.below).value_below) (λ r. rw r.1 (w.before_n x l)) (set_or_not x);
        behind_n = λ x l.
            ⊎_elim (λ r. absurd (omega (arith, (effects_inside a r.place r.below).variable_below, r.names))) (λ r. r.1 ∙ w.behind_n x l) (set_or_not x);
      }
    where
      set_or_not : (x : ℕ) → SetBy (action T a).effects x (get_or (set_pairs σ (action T a).effects) x 0) ⊎ (Untouched (action T a).effects x × (get_or (set_pairs σ (action T a).effects) x 0 ≡ get_or σ x 0))
      set_or_not x =
          set_pairs-at σ (action T a).effects x (λ i b. omega (arith, (effects_inside a i b).variable_below, w.all_there, fine.variables_few))

  pub state_whole : (schedule : List ℕ) (s : ℕ) → Whole T (state_at T schedule s)
  state_whole = walk_keeps T (Whole T) moved_whole start_whole
