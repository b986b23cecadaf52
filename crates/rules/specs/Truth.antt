-- Truth: a model says which variables are given, that is named, and which are true; a clause is true by a literal that is.
-- Assumes nothing.
use Rattle.std.specs.Prelude.{ℕ, suc, ◌-◌, Bool, true, false, not, ◌&&◌, List, get_or}
use Rattle.rules.specs.Counting.{table, every, any}
use Rattle.rules.specs.Problem.{Problem}
use Rattle.rules.specs.Numbering.{N}
use Rattle.rules.specs.Families.{Literal, plus, minus, Clause}
use Rattle.rules.specs.Rows.{Rows, bit_of_variable}

pub record Model : Type 0 where
  pub given : ℕ → Bool
  pub is_true : ℕ → Bool

-- a positive literal is true where its variable is given and true, a negative one where it is given and not true; of a variable that is not given, neither is
unfoldable pub literal_true : Model → Literal → Bool
literal_true M (plus v) = M.given v && M.is_true v
literal_true M (minus v) = M.given v && not (M.is_true v)

unfoldable pub clause_true : Model → Clause → Bool
clause_true M c = any (literal_true M) c

unfoldable pub satisfies : Model → List Clause → Bool
satisfies M cs = every (clause_true M) cs

-- the model that two rows of bits state
abbrev pub model_in : Rows → Model
model_in rows = record { given = bit_of_variable rows.given; is_true = bit_of_variable rows.is_true }

-- an assignment of the variables 1, 2, and so on gives each of them
abbrev pub assigned : List Bool → Model
assigned bits = record { given = λ v. true; is_true = λ v. get_or bits (v - 1) false }

-- a model's completion: the assignment of the N variables in which those that are not given count as false
unfoldable pub completion : Problem → Model → List Bool
completion P M = table (N P) (λ i. literal_true M (plus (suc i)))
