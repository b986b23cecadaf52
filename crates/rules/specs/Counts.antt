-- The count of each family, as the rules' table has it, and the number of a pair among all pairs.
-- Assumes nothing.
use Rattle.std.specs.Prelude.{List, [], ◌∷◌, ◌≡◌, ℕ, suc, ◌+◌, ◌-◌, ◌*◌, ◌/◌, ◌<◌, length, get_or}
use Rattle.rules.specs.Counting.{sum_to}
use Rattle.rules.specs.Task.{Task, n, d, S, A, action}

-- how many pairs i < j there are below m
abbrev pub pairs_below : ℕ → ℕ
pairs_below m = m * (m - 1) / 2

-- how many of them have a first number below i
unfoldable pub pairs_before : ℕ → ℕ → ℕ
pairs_before m i = i * (2 * m - i - 1) / 2

-- the number of the pair i < j: it stands behind the pairs with a first number below i, and behind those of i with a second number below j
abbrev pub number_of_pair : ℕ → ℕ → ℕ → ℕ
number_of_pair m i j = pairs_before m i + (j - suc i)

abbrev pub sum : List ℕ → ℕ
sum cs = sum_to (length cs) (λ i. get_or cs i 0)

unfoldable pub count_table : Task → ℕ → List ℕ
count_table T k =
    n T
    ∷ length T.goal
    ∷ suc k * n T
    ∷ suc k * sum_to (n T) (λ x. pairs_below (d T x))
    ∷ k * sum_to (A T) (λ a. length (action T a).preconditions)
    ∷ k * sum_to (A T) (λ a. length (action T a).effects)
    ∷ k * S T
    ∷ k * pairs_below (A T)
    ∷ []

-- how many clauses the families before number f have, f from 0
unfoldable pub clauses_before : Task → ℕ → ℕ → ℕ
clauses_before T k f = sum_to f (λ i. get_or (count_table T k) i 0)

-- i and j are the pair with the number r
pub record PairAt (m r i j : ℕ) : Type 0 where
  pub rising : i < j
  pub below : j < m
  pub is : r ≡ number_of_pair m i j
