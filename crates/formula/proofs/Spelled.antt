-- Clauses spelled out by their places: what each asks of the file, its room, and the literals that come to it.
-- Assumes nothing.
use mathlib.Core.Path.{◌≡◌, refl, sym, ap, ◌∙◌}
use mathlib.Core.List.{List, [], ◌∷◌, ◌++◌}
use Prim.Native.Nat.{ℕ, suc, ◌+◌, ◌≤◌, ◌<◌}
use native.Mathlib.Omega.{arith}
use native.Mathlib.Numerals.{add-one}
use mir.Syntax.{w64}
use mir.Val.{Fits}
use lib.IntN.{ℤ}
use lib.ListN.{length}
use Rattle.rules.specs.Counting.{for_each}
use Rattle.rules.specs.Task.{Pair, Task, n, d, A, start_value, pair, action}
use Rattle.rules.specs.Problem.{Problem, problem}
use Rattle.rules.specs.Numbering.{value_number, action_number}
use Rattle.rules.specs.Families.{Literal, plus, minus, supporters}
use Rattle.rules.specs.File.{task_of}
use Rattle.rules.proofs.Counting.{length-table}
use Rattle.rules.proofs.Valid.{InOrder, WellFormed}
use Rattle.rules.proofs.Files.{accepted_well_formed}
use Rattle.task.specs.Index.{Indexed}
use Rattle.formula.specs.declared.place.Place.{Place}
use Rattle.formula.specs.declared.place.Place.TheVariants.{Start, Goal, AllValues, TwoValues, Precondition, Effect, Stays, TwoActions}
use Rattle.formula.specs.InFamily.{InRange}
use Rattle.formula.specs.Front.{written, clause_written, literal_count, Ready, values_to}
use Rattle.formula.proofs.Writing.{written_on, written_none, two_long}

-- ---- what the file says of a pair is inside the task

module _ (file index : List ℕ) (ix : Indexed file index) where
  abbrev T : Task
  T = task_of file

  few : WellFormed T
  few = accepted_well_formed file ix.accepted

  pub start_inside : (x v : ℕ) → x < n T → v ≡ start_value T x → v < d T x
  start_inside x v h e = omega (arith, few.start_inside x h)

  pub supporters_fit : (m : ℕ) → m ≤ A T → Fits w64 (2 + m)
  supporters_fit m h = record { fits = omega (arith, few.actions_few) }

  variable_in_lem : (ps : List Pair) → InOrder T ps → (i y : ℕ) → i < length ps → y ≡ (pair ps i).variable → y < n T
  variable_in_lem ps o i y h e = rw e (o.inside_each i h).variable_below

  value_in : (ps : List Pair) → InOrder T ps → (i y w : ℕ) → i < length ps → y ≡ (pair ps i).variable → w ≡ (pair ps i).value → w < d T y
  value_in ps o i y w h e ew = rw (e, ew) (o.inside_each i h).value_below

  module _ (i y w : ℕ) (h : i < length T.goal) (ey : y ≡ (pair T.goal i).variable) where
    pub goal_variable : y < n T
    goal_variable = variable_in_lem T.goal few.goal_fine i y h ey

    pub goal_value : w ≡ (pair T.goal i).value → w < d T y
    goal_value ew = value_in T.goal few.goal_fine i y w h ey ew

  module _ (a b i y w : ℕ) (eb : b ≡ a) (ha : a < A T) where
    module _ (h : i < length (action T a).preconditions) (ey : y ≡ (pair (action T b).preconditions i).variable) where
      pub precondition_variable : y < n T
      precondition_variable = variable_in_lem (action T a).preconditions (few.actions_fine a ha).preconditions_fine i y h (rw eb at ey)

      pub precondition_value : w ≡ (pair (action T b).preconditions i).value → w < d T y
      precondition_value ew = value_in (action T a).preconditions (few.actions_fine a ha).preconditions_fine i y w h (rw eb at ey) (rw eb at ew)

    module _ (h : i < length (action T a).effects) (ey : y ≡ (pair (action T b).effects i).variable) where
      pub effect_variable : y < n T
      effect_variable = variable_in_lem (action T a).effects (few.actions_fine a ha).effects_fine i y h (rw eb at ey)

      pub effect_value : w ≡ (pair (action T b).effects i).value → w < d T y
      effect_value ew = value_in (action T a).effects (few.actions_fine a ha).effects_fine i y w h (rw eb at ey) (rw eb at ew)

pub precondition_there : (T : Task) (a b i : ℕ) → b ≡ a → i < length (action T a).preconditions → i < length (action T b).preconditions
precondition_there T a b i eb h = rw eb h

-- ---- the literals of a clause, counted and written

module _ (file : List ℕ) (k : ℕ) where
  abbrev Tk : Task
  Tk = task_of file

  abbrev P : Problem
  P = problem Tk k

  module _ (place : Place) where
    pub start_count : (x : ℕ) → place ≡ Start x → 1 ≡ literal_count file k place
    unfolding literal_count
    start_count x e = rw e

    pub goal_count : (i : ℕ) → place ≡ Goal i → 1 ≡ literal_count file k place
    unfolding literal_count
    goal_count i e = rw e

    pub values_count : (s x m : ℕ) → place ≡ AllValues s x → m ≡ d Tk x → m ≡ literal_count file k place
    unfolding literal_count
    values_count s x m e em = rw e (em ∙ sym (length-table (d Tk x) (λ v. plus (value_number P s x v))))

    pub variable_counted : (s x : ℕ) → place ≡ AllValues s x → InRange P place → x < n Tk
    variable_counted s x e r = let inside : InRange P (AllValues s x) = rw e at r in inside.1

    pub two_values-count : (s x v w : ℕ) → place ≡ TwoValues s x v w → 2 ≡ literal_count file k place
    unfolding literal_count
    two_values-count s x v w e = rw e

    pub precondition_count : (s a i : ℕ) → place ≡ Precondition s a i → 2 ≡ literal_count file k place
    unfolding literal_count
    precondition_count s a i e = rw e

    pub effect_count : (s a i : ℕ) → place ≡ Effect s a i → 2 ≡ literal_count file k place
    unfolding literal_count
    effect_count s a i e = rw e

    pub stays_count : (s x v m : ℕ) → place ≡ Stays s x v → m ≡ length (supporters P s x v) → 2 + m ≡ literal_count file k place
    unfolding literal_count
    stays_count s x v m e em = rw e (omega arith)

    pub two_actions-count : (s a b : ℕ) → place ≡ TwoActions s a b → 2 ≡ literal_count file k place
    unfolding literal_count
    two_actions-count s a b e = rw e

  -- room for the literals
  pub start_room : (x room : ℕ) → Ready file k (Start x) room → 0 < room
  start_room x room r = omega (arith, r.enough, start_count (Start x) x refl)

  pub goal_room_lem : (i room : ℕ) → Ready file k (Goal i) room → 0 < room
  goal_room_lem i room r = omega (arith, r.enough, goal_count (Goal i) i refl)

  pub values_room : (s x m room : ℕ) → Ready file k (AllValues s x) room → m ≡ d Tk x → m ≤ room
  values_room s x m room r em = omega (arith, r.enough, values_count (AllValues s x) s x m refl em)

  pub two_values-room : (s x v w room : ℕ) → Ready file k (TwoValues s x v w) room → 2 ≤ room
  two_values-room s x v w room r = omega (arith, r.enough, two_values-count (TwoValues s x v w) s x v w refl)

  pub precondition_room : (s a i room : ℕ) → Ready file k (Precondition s a i) room → 2 ≤ room
  precondition_room s a i room r = omega (arith, r.enough, precondition_count (Precondition s a i) s a i refl)

  pub effect_room : (s a i room : ℕ) → Ready file k (Effect s a i) room → 2 ≤ room
  effect_room s a i room r = omega (arith, r.enough, effect_count (Effect s a i) s a i refl)

  pub two_actions-room : (s a b room : ℕ) → Ready file k (TwoActions s a b) room → 2 ≤ room
  two_actions-room s a b room r = omega (arith, r.enough, two_actions-count (TwoActions s a b) s a b refl)

  stays_all : (s x v room : ℕ) → Ready file k (Stays s x v) room → 2 + length (supporters P s x v) ≤ room
  stays_all s x v room r = omega (arith, r.enough, stays_count (Stays s x v) s x v (length (supporters P s x v)) refl refl)

  pub stays_room : (s x v room : ℕ) → Ready file k (Stays s x v) room → 2 ≤ room
  stays_room s x v room r = omega (arith, stays_all s x v room r)

  module _ (lent out : List ℤ) where
    pub supporters_room_lem : (s x v : ℕ) (l m : Literal) → Ready file k (Stays s x v) (length lent) → out ≡ written lent 0 (l ∷ m ∷ [])
        → 2 + length (supporters P s x v) ≤ length out
    supporters_room_lem s x v l m r e =
        omega (arith, stays_all s x v (length lent) r, two_long lent out l m (stays_room s x v (length lent) r) e)

    pub start_written : (x v number : ℕ) → out ≡ written lent 0 (plus number ∷ []) → number ≡ value_number P 0 x v → v ≡ start_value Tk x
        → out ≡ clause_written file k (Start x) lent
    unfolding clause_written
    start_written x v number h e ev = h ∙ rw (e, ev)

    pub goal_written : (i y w number : ℕ) → out ≡ written lent 0 (plus number ∷ []) → number ≡ value_number P k y w
        → y ≡ (pair Tk.goal i).variable → w ≡ (pair Tk.goal i).value → out ≡ clause_written file k (Goal i) lent
    unfolding clause_written
    goal_written i y w number h e ey ew = h ∙ rw (e, ey, ew)

    pub two_values-written : (s x v w first second : ℕ) → out ≡ written lent 0 (minus first ∷ minus second ∷ []) → first ≡ value_number P s x v
        → second ≡ value_number P s x w → out ≡ clause_written file k (TwoValues s x v w) lent
    unfolding clause_written
    two_values-written s x v w first second h e₁ e₂ = h ∙ rw (e₁, e₂)

    pub precondition_written : (s a b i y w first second : ℕ) → out ≡ written lent 0 (minus first ∷ plus second ∷ []) → first ≡ action_number P s a
        → second ≡ value_number P s y w → b ≡ a → y ≡ (pair (action Tk b).preconditions i).variable → w ≡ (pair (action Tk b).preconditions i).value
        → out ≡ clause_written file k (Precondition s a i) lent
    unfolding clause_written
    precondition_written s a b i y w first second h e₁ e₂ eb ey ew = h ∙ rw (e₁, e₂, ey, ew, eb)

    pub effect_written : (s a b i y w first second : ℕ) → out ≡ written lent 0 (minus first ∷ plus second ∷ []) → first ≡ action_number P s a
        → second ≡ value_number P (s + 1) y w → b ≡ a → y ≡ (pair (action Tk b).effects i).variable → w ≡ (pair (action Tk b).effects i).value
        → out ≡ clause_written file k (Effect s a i) lent
    unfolding clause_written
    effect_written s a b i y w first second h e₁ e₂ eb ey ew = h ∙ rw (e₁, e₂, ey, ew, eb, add-one s)

    pub two_actions-written : (s a b first second : ℕ) → out ≡ written lent 0 (minus first ∷ minus second ∷ []) → first ≡ action_number P s a
        → second ≡ action_number P s b → out ≡ clause_written file k (TwoActions s a b) lent
    unfolding clause_written
    two_actions-written s a b first second h e₁ e₂ = h ∙ rw (e₁, e₂)

    pub stays_written : (next : List ℤ) (s x v first second : ℕ) → out ≡ written lent 0 (minus first ∷ plus second ∷ [])
        → next ≡ written out 2 (supporters P s x v) → first ≡ value_number P (s + 1) x v → second ≡ value_number P s x v
        → next ≡ clause_written file k (Stays s x v) lent
    unfolding clause_written
    stays_written next s x v first second h hn e₁ e₂ =
        written_on lent out next 0 2 (minus first ∷ plus second ∷ []) (supporters P s x v) h refl hn ∙ rw (e₁, e₂, add-one s)

  -- all values of x, one after the other
  module _ (s x : ℕ) where
    pub values_none : (lent : List ℤ) → lent ≡ written lent 0 (values_to P s x 0)
    unfolding values_to for_each
    values_none lent = written_none lent 0

    values_next : (v : ℕ) → values_to P s x (suc v) ≡ values_to P s x v ++ (plus (value_number P s x v) ∷ [])
    unfolding values_to for_each
    values_next v = refl

    values_long : (v : ℕ) → length (values_to P s x v) ≡ v
    unfolding values_to
    values_long v = length-table v (λ v. plus (value_number P s x v))

    pub values_more : (lent out next : List ℤ) (v number : ℕ) → out ≡ written lent 0 (values_to P s x v) → next ≡ written out v (plus number ∷ [])
        → number ≡ value_number P s x v → next ≡ written lent 0 (values_to P s x (v + 1))
    values_more lent out next v number h hn e =
        written_on lent out next 0 v (values_to P s x v) (plus (value_number P s x v) ∷ []) h (omega (arith, values_long v)) (hn ∙ rw e)
        ∙ ap (written lent 0) (sym (values_next v) ∙ ap (values_to P s x) (sym (add-one v)))

    pub values_all : (lent out : List ℤ) (v m : ℕ) → out ≡ written lent 0 (values_to P s x v) → m ≡ d Tk x → v ≤ m → m ≤ v
        → out ≡ clause_written file k (AllValues s x) lent
    unfolding clause_written values_to
    values_all lent out v m h em l g = let all : v ≡ d Tk x = omega arith in h ∙ rw all
