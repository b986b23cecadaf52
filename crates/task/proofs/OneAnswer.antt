-- Any two answers that a promise allows are equal, the index that is left in lent memory included.
-- Assumes nothing.
use mathlib.Core.Path.{◌≡◌, sym, ◌∙◌}
use Prim.Native.Nat.{ℕ}
use Rattle.std.specs.Prelude.{Option}
use Rattle.rules.specs.Answers.{Verdict}
use Rattle.task.specs.declared.numbering.ValuePlace.{ValuePlace}
use Rattle.task.specs.declared.numbering.ActionNumber.{ActionNumber}
use Rattle.task.specs.declared.numbering.FormulaNumber.{FormulaNumber}
use Rattle.task.proofs.index.number_in.Reads as number_in
use Rattle.task.proofs.index.offset.Reads as offset
use Rattle.task.proofs.index.value_pairs_before.Reads as value-pairs-before
use Rattle.task.proofs.index.values.Reads as values
use Rattle.task.proofs.index.actions.Reads as actions
use Rattle.task.proofs.index.step_width.Reads as step-width
use Rattle.task.proofs.index.action_place.Reads as action-place
use Rattle.task.proofs.index.preconditions_before.Reads as preconditions-before
use Rattle.task.proofs.index.effects_before.Reads as effects-before
use Rattle.task.proofs.numbering.variable_of.Reads as variable_of
use Rattle.task.proofs.numbering.value_of.Reads as value_of
use Rattle.task.proofs.numbering.place_of_action.Reads as place-of-action
use Rattle.task.proofs.numbering.number_of.Reads as number_of
use Rattle.task.proofs.asked.variables.Reads as variables
use Rattle.task.proofs.asked.size.Reads as size
use Rattle.task.proofs.asked.start_value.Reads as start-value
use Rattle.task.proofs.asked.goals.Reads as goals
use Rattle.task.proofs.asked.precondition_count.Reads as precondition_count
use Rattle.task.proofs.asked.effect_count.Reads as effect_count
use Rattle.task.proofs.numbering.checked_number.Reads as checked-number
use Rattle.task.proofs.numbering.value_place.Reads as value_place
use Rattle.task.proofs.asked.goal_pair.Reads as goal-pair
use Rattle.task.proofs.asked.precondition.Reads as precondition
use Rattle.task.proofs.asked.effect.Reads as effect
use Rattle.task.proofs.numbering.value_number.Reads as value_number
use Rattle.task.proofs.numbering.action_number.Reads as action_number
use Rattle.task.proofs.filling.fill_index.Reads as fill-index
use Rattle.task.proofs.numbering.nth_action.Reads as nth-action
use Rattle.task.proofs.problem.problem_verdict.Reads as problem-verdict
use Rattle.task.proofs.problem.count_variables.Reads as count-variables

same_place : (r s : ValuePlace) (x v : ℕ) → (r.0 ≡ x) × (r.1 ≡ v) → (s.0 ≡ x) × (s.1 ≡ v) → r ≡ s
same_place r s x v p q = λ i. record { 0 = (p.0 ∙ sym q.0) i; 1 = (p.1 ∙ sym q.1) i }

same_number : (r s : FormulaNumber) (v : ℕ) → r.0 ≡ v → s.0 ≡ v → r ≡ s
same_number r s v p q = λ i. record { 0 = (p ∙ sym q) i }

-- ---- what is asked of an accepted file

pub one_fill_index : (κs : _) (a : _) (r s : _) (x y : _) → fill-index.Post κs a r x → fill-index.Post κs a s y → x.1.0.now ≡ y.1.0.now
one_fill_index κs a r s x y p q = p ∙ sym q

pub one_number_in : (κs : _) (a : _) (r s : ℕ) (x : _) → number_in.Post κs a r x → number_in.Post κs a s x → r ≡ s
one_number_in κs a r s x p q = p ∙ sym q

pub one_offset : (κs : _) (a : _) (r s : ℕ) (x : _) → offset.Post κs a r x → offset.Post κs a s x → r ≡ s
one_offset κs a r s x p q = p ∙ sym q

pub one_value_pairs_before : (κs : _) (a : _) (r s : ℕ) (x : _) → value-pairs-before.Post κs a r x → value-pairs-before.Post κs a s x → r ≡ s
one_value_pairs_before κs a r s x p q = p ∙ sym q

pub one_values : (κs : _) (a : _) (r s : ℕ) (x : _) → values.Post κs a r x → values.Post κs a s x → r ≡ s
one_values κs a r s x p q = p ∙ sym q

pub one_actions : (κs : _) (a : _) (r s : ℕ) (x : _) → actions.Post κs a r x → actions.Post κs a s x → r ≡ s
one_actions κs a r s x p q = p ∙ sym q

pub one_step_width : (κs : _) (a : _) (r s : ℕ) (x : _) → step-width.Post κs a r x → step-width.Post κs a s x → r ≡ s
one_step_width κs a r s x p q = p ∙ sym q

pub one_action_place : (κs : _) (a : _) (r s : ℕ) (x : _) → action-place.Post κs a r x → action-place.Post κs a s x → r ≡ s
one_action_place κs a r s x p q = p ∙ sym q

pub one_preconditions_before : (κs : _) (a : _) (r s : ℕ) (x : _) → preconditions-before.Post κs a r x → preconditions-before.Post κs a s x → r ≡ s
one_preconditions_before κs a r s x p q = p ∙ sym q

pub one_effects_before : (κs : _) (a : _) (r s : ℕ) (x : _) → effects-before.Post κs a r x → effects-before.Post κs a s x → r ≡ s
one_effects_before κs a r s x p q = p ∙ sym q

pub one_variable_of : (κs : _) (a : _) (r s : ℕ) (x : _) → variable_of.Post κs a r x → variable_of.Post κs a s x → r ≡ s
one_variable_of κs a r s x p q = p ∙ sym q

pub one_value_of : (κs : _) (a : _) (r s : ℕ) (x : _) → value_of.Post κs a r x → value_of.Post κs a s x → r ≡ s
one_value_of κs a r s x p q = p ∙ sym q

pub one_place_of_action : (κs : _) (a : _) (r s : ℕ) (x : _) → place-of-action.Post κs a r x → place-of-action.Post κs a s x → r ≡ s
one_place_of_action κs a r s x p q = p ∙ sym q

pub one_number_of : (κs : _) (a : _) (r s : ℕ) (x : _) → number_of.Post κs a r x → number_of.Post κs a s x → r ≡ s
one_number_of κs a r s x p q = p ∙ sym q

pub one_variables : (κs : _) (a : _) (r s : ℕ) (x : _) → variables.Post κs a r x → variables.Post κs a s x → r ≡ s
one_variables κs a r s x p q = p ∙ sym q

pub one_size : (κs : _) (a : _) (r s : ℕ) (x : _) → size.Post κs a r x → size.Post κs a s x → r ≡ s
one_size κs a r s x p q = p ∙ sym q

pub one_start_value : (κs : _) (a : _) (r s : ℕ) (x : _) → start-value.Post κs a r x → start-value.Post κs a s x → r ≡ s
one_start_value κs a r s x p q = p ∙ sym q

pub one_goals : (κs : _) (a : _) (r s : ℕ) (x : _) → goals.Post κs a r x → goals.Post κs a s x → r ≡ s
one_goals κs a r s x p q = p ∙ sym q

pub one_precondition_count : (κs : _) (a : _) (r s : ℕ) (x : _) → precondition_count.Post κs a r x → precondition_count.Post κs a s x → r ≡ s
one_precondition_count κs a r s x p q = p ∙ sym q

pub one_effect_count : (κs : _) (a : _) (r s : ℕ) (x : _) → effect_count.Post κs a r x → effect_count.Post κs a s x → r ≡ s
one_effect_count κs a r s x p q = p ∙ sym q

pub one_goal_pair : (κs : _) (a : _) (r s : ValuePlace) (x : _) → goal-pair.Post κs a r x → goal-pair.Post κs a s x → r ≡ s
one_goal_pair κs a r s x p q = same_place r s _ _ p q

pub one_precondition : (κs : _) (a : _) (r s : ValuePlace) (x : _) → precondition.Post κs a r x → precondition.Post κs a s x → r ≡ s
one_precondition κs a r s x p q = same_place r s _ _ p q

pub one_effect : (κs : _) (a : _) (r s : ValuePlace) (x : _) → effect.Post κs a r x → effect.Post κs a s x → r ≡ s
one_effect κs a r s x p q = same_place r s _ _ p q

-- ---- the numbering

pub one_value_place : (κs : _) (a : _) (r s : ValuePlace) (x : _) → value_place.Post κs a r x → value_place.Post κs a s x → r ≡ s
one_value_place κs a r s x p q = same_place r s _ _ p q

pub one_nth_action : (κs : _) (a : _) (r s : ActionNumber) (x : _) → nth-action.Post κs a r x → nth-action.Post κs a s x → r ≡ s
one_nth_action κs a r s x p q = λ i. record { 0 = (p ∙ sym q) i }

pub one_value_number : (κs : _) (a : _) (r s : FormulaNumber) (x : _) → value_number.Post κs a r x → value_number.Post κs a s x → r ≡ s
one_value_number κs a r s x p q = same_number r s _ p q

pub one_action_number : (κs : _) (a : _) (r s : FormulaNumber) (x : _) → action_number.Post κs a r x → action_number.Post κs a s x → r ≡ s
one_action_number κs a r s x p q = same_number r s _ p q

pub one_checked_number : (κs : _) (a : _) (r s : Option FormulaNumber) (x : _) → checked-number.Post κs a r x → checked-number.Post κs a s x → r ≡ s
one_checked_number κs a r s x p q = p ∙ sym q

-- ---- the problem at a horizon

pub one_problem_verdict : (κs : _) (a : _) (r s : Verdict) (x : _) → problem-verdict.Post κs a r x → problem-verdict.Post κs a s x → r ≡ s
one_problem_verdict κs a r s x p q = p ∙ sym q

pub one_count_variables : (κs : _) (a : _) (r s : ℕ) (x : _) → count-variables.Post κs a r x → count-variables.Post κs a s x → r ≡ s
one_count_variables κs a r s x p q = p ∙ sym q
