-- Families by their number f, from 0: at how many steps each has clauses and how many at a step, and the place of clause q of a step.
-- Assumes nothing.
use Rattle.std.specs.Prelude.{ℕ, suc, ◌+◌, ◌*◌, ◌<◌, ◌≡◌, List, [], ◌∷◌, length, get_or}
use Rattle.rules.specs.Task.{Task, n, d, off, S, A, action}
use Rattle.rules.specs.Problem.{Problem}
use Rattle.rules.specs.Families.{clause}
use Rattle.rules.specs.Counts.{pairs_below, number_of_pair, count_table}
use Rattle.rules.specs.File.{task_of}
use Rattle.rules.specs.Calls.{problem_of}
use Rattle.rules.proofs.ByNumber.{clauses_before}
use Rattle.task.specs.Index.{value_pairs_before, preconditions_before, effects_before}
use Rattle.formula.specs.declared.place.Place.{Place}
use Rattle.formula.specs.declared.place.Place.TheVariants.{Start, Goal, AllValues, TwoValues, Precondition, Effect, Stays, TwoActions}
use Rattle.formula.specs.Placed.{clause_at}

unfoldable pub steps_of : ℕ → ℕ → ℕ
steps_of k f = get_or (1 ∷ 1 ∷ suc k ∷ suc k ∷ k ∷ k ∷ k ∷ k ∷ []) f 0

unfoldable pub width_of : Task → ℕ → ℕ
width_of T f =
    get_or (
    n T
    ∷ length T.goal
    ∷ n T
    ∷ value_pairs_before T (n T)
    ∷ preconditions_before T (A T)
    ∷ effects_before T (A T)
    ∷ S T
    ∷ pairs_below (A T)
    ∷ []
    ) f 0

-- how many clauses the family has
unfoldable pub count_of : Task → ℕ → ℕ → ℕ
count_of T k f = get_or (count_table T k) f 0

-- the numbers of a place are numbers of the problem
abbrev pub InRange : Problem → Place → Type 0
InRange P (Start x) = x < n P.task
InRange P (Goal i) = i < length P.task.goal
InRange P (AllValues s x) = (s < suc P.horizon) × (x < n P.task)
InRange P (TwoValues s x v w) = (s < suc P.horizon) × (x < n P.task) × (v < w) × (w < d P.task x)
InRange P (Precondition s a i) = (s < P.horizon) × (a < A P.task) × (i < length (action P.task a).preconditions)
InRange P (Effect s a i) = (s < P.horizon) × (a < A P.task) × (i < length (action P.task a).effects)
InRange P (Stays s x v) = (s < P.horizon) × (x < n P.task) × (v < d P.task x)
InRange P (TwoActions s a b) = (s < P.horizon) × (a < b) × (b < A P.task)

-- the number of clause q of step s of family f
unfoldable pub number_in : Task → ℕ → ℕ → ℕ → ℕ → ℕ
number_in T k f s q = clauses_before T k f + (s * width_of T f + q)

-- the number of the clause at a place
abbrev pub place_number : Task → ℕ → Place → ℕ
place_number T k (Start x) = number_in T k 0 0 x
place_number T k (Goal i) = number_in T k 1 0 i
place_number T k (AllValues s x) = number_in T k 2 s x
place_number T k (TwoValues s x v w) = number_in T k 3 s (value_pairs_before T x + number_of_pair (d T x) v w)
place_number T k (Precondition s a i) = number_in T k 4 s (preconditions_before T a + i)
place_number T k (Effect s a i) = number_in T k 5 s (effects_before T a + i)
place_number T k (Stays s x v) = number_in T k 6 s (off T x + v)
place_number T k (TwoActions s a b) = number_in T k 7 s (number_of_pair (A T) a b)

-- clause c stands at this place
pub record IsAt (P : Problem) (c : ℕ) (place : Place) : Type 0 where
  pub inside : InRange P place
  pub is : clause_at P place ≡ clause P c
  pub number : c ≡ place_number P.task P.horizon place

-- this place is that of clause q of step s of family f
unfoldable pub PlacedIn : List ℕ → ℕ → ℕ → ℕ → ℕ → Place → Type 0
PlacedIn file k f s q place = IsAt (problem_of file k) (number_in (task_of file) k f s q) place
