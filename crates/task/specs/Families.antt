-- The families of clauses by their number, from 0, as the tables of counts have them.
-- Assumes nothing.
use Rattle.std.specs.Prelude.{ℕ, List, [], ◌∷◌}
use Rattle.task.specs.declared.family.Family.{Family}
use Rattle.task.specs.declared.family.Family.TheVariants.{StartValues, GoalPairs, AllValues, TwoValues, Preconditions, Effects, ValuesStay, TwoActions}

abbrev pub family_count : ℕ
family_count = 8

abbrev pub number_of_family : Family → ℕ
number_of_family StartValues = 0
number_of_family GoalPairs = 1
number_of_family AllValues = 2
number_of_family TwoValues = 3
number_of_family Preconditions = 4
number_of_family Effects = 5
number_of_family ValuesStay = 6
number_of_family TwoActions = 7

abbrev pub families_in_order : List Family
families_in_order = StartValues ∷ GoalPairs ∷ AllValues ∷ TwoValues ∷ Preconditions ∷ Effects ∷ ValuesStay ∷ TwoActions ∷ []
