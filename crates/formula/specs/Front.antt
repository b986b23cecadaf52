-- Literals written over lent memory, and what is written of a clause by its place.
-- Assumes nothing.
use Rattle.std.specs.Prelude.{ℕ, ◌≤◌, Bool, ◌&&◌, List, [], ◌∷◌, map, eqb, ℤ, length}
use Rattle.rules.specs.Counting.{for_each, table, when, any}
use Rattle.rules.specs.Task.{Task, pair, action}
use Rattle.rules.specs.Problem.{Problem, problem}
use Rattle.rules.specs.Numbering.{value_number, action_number}
use Rattle.rules.specs.Families.{Literal, plus, signed}
use Rattle.rules.specs.File.{task_of}
use Rattle.digits.specs.Over.{over}
use Rattle.formula.specs.declared.place.Place.{Place}
use Rattle.formula.specs.Placed.{clause_at}
use Rattle.formula.specs.InFamily.{InRange}

-- literals written over lent memory from a place on, as signed numbers
unfoldable pub written : List ℤ → ℕ → List Literal → List ℤ
written lent at ls = over lent at (map signed ls)

-- the clause at a place, written over the front
unfoldable pub clause_written : List ℕ → ℕ → Place → List ℤ → List ℤ
clause_written file k place lent = written lent 0 (clause_at (problem (task_of file) k) place)

unfoldable pub literal_count : List ℕ → ℕ → Place → ℕ
literal_count file k place = length (clause_at (problem (task_of file) k) place)

-- a place in range, and room for its clause
pub record Ready (file : List ℕ) (k : ℕ) (place : Place) (room : ℕ) : Type 0 where
  pub inside : InRange (problem (task_of file) k) place
  pub enough : literal_count file k place ≤ room

-- the first m values of x at step s
unfoldable pub values_to : Problem → ℕ → ℕ → ℕ → List Literal
values_to P s x m = table m (λ v. plus (value_number P s x v))

-- effect i of action a is x = v
unfoldable pub gives_by : Task → ℕ → ℕ → ℕ → ℕ → Bool
gives_by T a x v i = eqb (pair (action T a).effects i).variable x && eqb (pair (action T a).effects i).value v

-- action a has the effect x = v
unfoldable pub is_given : Task → ℕ → ℕ → ℕ → Bool
is_given T a x v = any (λ p. eqb p.variable x && eqb p.value v) (action T a).effects

-- action a at step s, where it gives x = v
unfoldable pub supporter : Problem → ℕ → ℕ → ℕ → ℕ → List Literal
supporter P s x v a = when (is_given P.task a x v) (plus (action_number P s a) ∷ [])

-- those of the first m actions
unfoldable pub supporters_to : Problem → ℕ → ℕ → ℕ → ℕ → List Literal
supporters_to P s x v m = for_each m (supporter P s x v)
