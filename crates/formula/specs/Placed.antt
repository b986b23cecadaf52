-- The clause at a place: what each family says of a step and of what it counts.
-- Assumes nothing.
use Rattle.std.specs.Prelude.{[], ◌∷◌, suc}
use Rattle.rules.specs.Counting.{table}
use Rattle.rules.specs.Task.{d, start_value, pair, action}
use Rattle.rules.specs.Problem.{Problem}
use Rattle.rules.specs.Numbering.{value_number, action_number}
use Rattle.rules.specs.Families.{plus, minus, Clause, pair_number, supporters}
use Rattle.formula.specs.declared.place.Place.{Place}
use Rattle.formula.specs.declared.place.Place.TheVariants.{Start, Goal, AllValues, TwoValues, Precondition, Effect, Stays, TwoActions}

abbrev pub clause_at : Problem → Place → Clause
clause_at P (Start x) = plus (value_number P 0 x (start_value P.task x)) ∷ []
clause_at P (Goal i) = plus (pair_number P P.horizon (pair P.task.goal i)) ∷ []
clause_at P (AllValues s x) = table (d P.task x) (λ v. plus (value_number P s x v))
clause_at P (TwoValues s x v w) = minus (value_number P s x v) ∷ minus (value_number P s x w) ∷ []
clause_at P (Precondition s a i) = minus (action_number P s a) ∷ plus (pair_number P s (pair (action P.task a).preconditions i)) ∷ []
clause_at P (Effect s a i) = minus (action_number P s a) ∷ plus (pair_number P (suc s) (pair (action P.task a).effects i)) ∷ []
clause_at P (Stays s x v) = minus (value_number P (suc s) x v) ∷ plus (value_number P s x v) ∷ supporters P s x v
clause_at P (TwoActions s a b) = minus (action_number P s a) ∷ minus (action_number P s b) ∷ []
