-- The families of clauses by their number: each is one of eight, and in their order they have the numbers from 0.
-- Assumes nothing.
use Rattle.std.specs.Prelude.{ℕ, zero, suc, ◌≡◌, ◌<◌, get_or}
use mathlib.Core.Path.{refl}
use native.Mathlib.Omega.{arith}
use Rattle.task.specs.declared.family.Family.{Family}
use Rattle.task.specs.declared.family.Family.TheVariants.{StartValues, GoalPairs, AllValues, TwoValues, Preconditions, Effects, ValuesStay, TwoActions}
use Rattle.task.specs.Families.{family_count, number_of_family, families_in_order}

pub family_below : (family : Family) → number_of_family family < family_count
family_below StartValues = omega arith
family_below GoalPairs = omega arith
family_below AllValues = omega arith
family_below TwoValues = omega arith
family_below Preconditions = omega arith
family_below Effects = omega arith
family_below ValuesStay = omega arith
family_below TwoActions = omega arith

pub family_at : (i : ℕ) (default : Family) → i < family_count → number_of_family (get_or families_in_order i default) ≡ i
family_at zero g h = refl
family_at (suc zero) g h = refl
family_at (suc (suc zero)) g h = refl
family_at (suc (suc (suc zero))) g h = refl
family_at (suc (suc (suc (suc zero)))) g h = refl
family_at (suc (suc (suc (suc (suc zero))))) g h = refl
family_at (suc (suc (suc (suc (suc (suc zero)))))) g h = refl
family_at (suc (suc (suc (suc (suc (suc (suc zero))))))) g h = refl
family_at (suc (suc (suc (suc (suc (suc (suc (suc i)))))))) g h = absurd (omega arith)
