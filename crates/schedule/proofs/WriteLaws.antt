-- The ways out of the functions that write a schedule's bits into a lent row.
-- Assumes nothing.
use mathlib.Core.Path.{◌≡◌, refl, ◌∙◌, ap₂}
use mathlib.Core.Bool.{true}
use mathlib.Core.List.{List}
use Prim.Native.Nat.{ℕ, zero, suc, ◌+◌, ◌-◌, ◌≤◌, ◌<◌}
use native.Mathlib.Omega.{arith}
use native.Mathlib.Numerals.{add-one}
use lib.ListN.{length, get_or, take, length-take}
use Rattle.std.proofs.lemmas.List.{get_or-take}
use Rattle.rules.specs.Task.{Task, n, d, A}
use Rattle.rules.specs.Problem.{Problem}
use Rattle.rules.specs.Numbering.{value_number, action_number}
use Rattle.rules.specs.File.{task_of}
use Rattle.rules.specs.Rows.{with_variable}
use Rattle.rules.specs.Walk.{State, start_state, entry, after_entry, state_at, CarriedOut}
use Rattle.rules.proofs.Files.{accepted_well_formed}
use Rattle.rules.proofs.Numbering.{value_number-positive, action_number-positive}
use Rattle.task.specs.Index.{Indexed}
use Rattle.schedule.specs.Written.{all_set, Inside, values_set, entry_set, step_set, steps_set, all_true_set}
use Rattle.schedule.proofs.BackBits.{state_inside}

-- ---- the variables 1 to m

module _ (row₀ : List ℕ) where
  pub all_none : row₀ ≡ all_set 0 row₀
  unfolding all_set
  all_none = refl

  pub all_more : (i : ℕ) (row row' : List ℕ) → row ≡ all_set i row₀ → row' ≡ with_variable row (i + 1) true → row' ≡ all_set (i + 1) row₀
  unfolding all_set
  all_more i row row' h e = e ∙ rw (h, add-one)

  pub all_done : (i m : ℕ) (row : List ℕ) → row ≡ all_set i row₀ → i ≤ m → m ≤ i → row ≡ all_set m row₀
  all_done i m row h l g = let e : i ≡ m = omega arith in rw e at h

-- ---- one value; f is its formula number, as it was asked for by the place p, q

module _ (P : Problem) (s x v p q f : ℕ) (ef : f ≡ value_number P s p q) where
  pub value_positive : (number : ℕ) → number ≡ f → 0 < number
  value_positive number e = omega (arith, value_number-positive P s p q)

  pub value_set : (number : ℕ) (row row' : List ℕ) → p ≡ x → q ≡ v → number ≡ f → row' ≡ with_variable row number true
      → row' ≡ with_variable row (value_number P s x v) true
  value_set number row row' ep eq e er = er ∙ rw (e, ef, ep, eq)

pub value_below : (T : Task) (x v p q : ℕ) → p ≡ x → q ≡ v → v < d T x → q < d T p
value_below T x v p q ep eq h = rw (ep, eq) h

-- ---- the values of a step

module _ (P : Problem) (s : ℕ) (σ : State) (row₀ : List ℕ) where
  pub values_none : row₀ ≡ values_set P s σ 0 row₀
  unfolding values_set
  values_none = refl

  pub values_more : (x m : ℕ) (row row' : List ℕ) → x < length (take m σ) → m ≤ length σ → row ≡ values_set P s σ x row₀
      → row' ≡ with_variable row (value_number P s x (get_or (take m σ) x 0)) true → row' ≡ values_set P s σ (x + 1) row₀
  unfolding values_set
  values_more x m row row' l w h e =
      e ∙ ap₂ (λ r v. with_variable r (value_number P s x v) true) h (get_or-take m σ x 0 (omega (arith, length-take m σ))) ∙ rw (add-one x) refl

  pub values_done : (x m : ℕ) (row : List ℕ) → row ≡ values_set P s σ x row₀ → x ≡ length (take m σ) → m ≤ length σ → m ≡ n P.task → row ≡ values_set P s σ (n P.task) row₀
  values_done x m row h l w em = let e : x ≡ n P.task = omega (arith, length-take m σ) in rw e at h

pub values_long : (T : Task) (σ : State) (m : ℕ) → Inside T σ → m ≡ n T → m ≤ length σ
values_long T σ m i em = omega (arith, i.long)

pub value_known : (T : Task) (σ : State) (x m : ℕ) → Inside T σ → m ≡ n T → x < length (take m σ) → x < n T
value_known T σ x m i em h = omega (arith, length-take m σ)

pub value_inside : (T : Task) (σ : State) (x m : ℕ) → Inside T σ → m ≡ n T → x < length (take m σ) → get_or (take m σ) x 0 < d T x
value_inside T σ x m i em h =
    let l : x < n T = value_known T σ x m i em h in omega (arith, i.inside x l, get_or-take m σ x 0 (omega arith))

-- ---- one entry; f is the formula number of its action, as it was asked for by b

module _ (P : Problem) (s b f : ℕ) (ef : f ≡ action_number P s b) where
  pub action_positive : (number : ℕ) → number ≡ f → 0 < number
  action_positive number e = omega (arith, action_number-positive P s b)

  pub entry_written : (e number : ℕ) (row row' : List ℕ) → b ≡ e - 1 → number ≡ f → row' ≡ with_variable row number true → (e ≡ 0 → ⊥)
      → row' ≡ entry_set P s e row
  entry_written zero number row row' eb en er z = absurd (z refl)
  entry_written (suc a) number row row' eb en er z = let e : b ≡ a = omega arith in er ∙ rw (en, ef, e)

-- ---- step by step

module _ (P : Problem) (entries row₀ : List ℕ) where
  pub steps_none : row₀ ≡ steps_set P entries 0 row₀
  unfolding steps_set
  steps_none = refl

  pub steps_more : (s e : ℕ) (σ : State) (row row' : List ℕ) → row ≡ steps_set P entries s row₀ → σ ≡ state_at P.task entries s
      → e ≡ entry entries s → row' ≡ step_set P s e σ row → row' ≡ steps_set P entries (s + 1) row₀
  unfolding steps_set
  steps_more s e σ row row' h eσ ee er = er ∙ rw (ee, eσ, h, add-one)

  pub steps_done : (s k : ℕ) (σ : State) (row row₁ : List ℕ) → row ≡ steps_set P entries s row₀ → σ ≡ state_at P.task entries s → s ≤ k → k ≤ s
      → row₁ ≡ values_set P k σ (n P.task) row → row₁ ≡ all_true_set P entries k row₀
  unfolding all_true_set
  steps_done s k σ row row₁ h eσ l g e₁ = let e : s ≡ k = omega arith in e₁ ∙ rw (h, eσ, e)

module _ (T : Task) (entries : List ℕ) where
  pub state_none : (σ : State) → σ ≡ start_state T → σ ≡ state_at T entries 0
  unfolding state_at
  state_none σ e = e

  pub state_more : (s e : ℕ) (σ σ' : State) → σ ≡ state_at T entries s → e ≡ entry entries s → σ' ≡ after_entry T e σ → σ' ≡ state_at T entries (s + 1)
  unfolding state_at
  state_more s e σ σ' h ee er = er ∙ rw (ee, h, add-one)

  pub known_now : (k s e : ℕ) → CarriedOut T k entries → s < k → e ≡ entry entries s → e ≤ A T
  known_now k s e c l ee = rw ee (c.entries_known s l)

pub inside_now : (file index entries : List ℕ) (s : ℕ) (σ : State) → Indexed file index → σ ≡ state_at (task_of file) entries s → Inside (task_of file) σ
inside_now file index entries s σ ix e = rw e (state_inside (task_of file) (accepted_well_formed file ix.accepted) 0 entries s)
