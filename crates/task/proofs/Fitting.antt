-- The numbers of an accepted file's index have two bytes each.
-- Assumes nothing.
use Rattle.std.specs.Prelude.{Ok}
use mathlib.Core.Path.{◌≡◌, sym, ap, ◌∙◌}
use mathlib.Core.List.{List, []}
use Prim.Native.Nat.{ℕ, ◌≤◌, ◌<◌}
use native.Mathlib.Omega.{arith}
use lib.ListN.{length, get_or-eq_default, length-map}
use Rattle.rules.specs.Counting.{sum_to}
use Rattle.rules.specs.Counts.{pairs_below}
use Rattle.rules.specs.Task.{Task, n, d, A, action}
use Rattle.rules.specs.File.{body, action_in, rests, task_of, file_verdict}
use Rattle.rules.proofs.Counting.{sum_to-ext, sum_to-flat}
use Rattle.rules.proofs.Bounds.{value_pairs, all_preconditions, all_effects}
use Rattle.rules.proofs.Valid.{WellFormed}
use Rattle.rules.proofs.Files.{accepted_well_formed}
use Rattle.task.specs.Index.{variable_rows, action_rows, index_values, VariablesFit, ActionsFit}
use Rattle.task.proofs.Bytes.{precondition_count, effect_count}

module _ (file : List ℕ) (ok : file_verdict file ≡ Ok tt) where
  abbrev T : Task
  T = task_of file

  well : WellFormed T
  well = accepted_well_formed file ok

  -- the summands behind the last variable and behind the last action are 0
  no_size : (x : ℕ) → n T ≤ x → d T x ≡ 0
  no_size x h = get_or-eq_default T.sizes 0 h

  no_action_lem : (a : ℕ) → A T ≤ a → action T a ≡ record { preconditions = []; effects = [] }
  no_action_lem a h = get_or-eq_default T.actions _ h

  pub variables_fit : (sizes : List ℕ) → sizes ≡ body file 0 → VariablesFit sizes
  unfolding task_of
  variables_fit sizes e =
      rw e
      (record {
        values_fit = omega (arith, sum_to-flat (d T) (n T) variable_rows (omega (arith, well.variables_few)) no_size, well.values_few);
        pairs_fit =
            omega (
              arith,
              sum_to-flat (λ x. pairs_below (d T x)) (n T) variable_rows (omega (arith, well.variables_few)) (λ x h. ap pairs_below (no_size x h)),
              value_pairs T well,
            );
      })

  -- a sum over all rows is one over the actions
  all_rows_lem : (count w : ℕ → ℕ) → ((a : ℕ) → count a ≡ w a) → ((a : ℕ) → A T ≤ a → count a ≡ 0) → sum_to action_rows w ≡ sum_to (A T) count
  all_rows_lem count w e z = sum_to-ext action_rows w count (λ a l. sym (e a)) ∙ sum_to-flat count (A T) action_rows (omega (arith, well.actions_few)) z

  pub actions_fit_lem : (actions : List ℕ) → actions ≡ body file 3 → ActionsFit actions
  actions_fit_lem actions e =
      rw e
      (record {
        preconditions_fit =
            omega (
              arith,
              all_rows_lem (λ a. length (action T a).preconditions) _ (precondition_count file) (λ a h. ap (λ x. length x.preconditions) (no_action_lem a h)),
              all_preconditions T well,
            );
        effects_fit =
            omega (
              arith,
              all_rows_lem (λ a. length (action T a).effects) _ (effect_count file) (λ a h. ap (λ x. length x.effects) (no_action_lem a h)),
              all_effects T well,
            );
      })

  pub count_fits : (actions : List ℕ) (count : ℕ) → actions ≡ body file 3 → count ≡ length (rests actions) → count < index_values
  unfolding task_of
  count_fits actions count ea ec = omega (arith, ap (λ s. length (rests s)) ea, length-map (rests (body file 3)) action_in, well.actions_few)
