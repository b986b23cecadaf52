-- Family 7, way by way: an action that gives a value, a step that has such an action, and a variable's values.
-- Assumes nothing.
use mathlib.Core.Path.{◌≡◌, refl, sym, ap, ap₂, ◌∙◌}
use mathlib.Core.Logic.{⊎_elim}
use mathlib.Core.Bool.{Bool, true, false, not, ◌&&◌, ◌||◌}
use mathlib.Core.List.{List, [], ◌∷◌}
use Prim.Native.Nat.{ℕ, suc, ◌+◌, ◌-◌, ◌≤◌, ◌<◌}
use native.Mathlib.Omega.{arith}
use borrow.Author.Tests.{lt-ltb, le-ltb, ltb-true}
use mir.Syntax.{w64}
use mir.Val.{Fits}
use lib.Dec.{eqb}
use lib.ListN.{length}
use Rattle.rules.specs.Counting.{first, any, when}
use Rattle.rules.specs.Limits.{max_horizon, max_actions}
use Rattle.rules.specs.Task.{Task, n, d, A, action}
use Rattle.rules.specs.Numbering.{action_number}
use Rattle.rules.specs.Families.{plus, supporters}
use Rattle.rules.specs.Rows.{Rows}
use Rattle.rules.specs.Truth.{literal_true, model_in}
use Rattle.rules.specs.File.{task_of}
use Rattle.rules.specs.Calls.{problem_of}
use Rattle.rules.proofs.Bools.{either, clash, and_both, same_truth, below_or}
use Rattle.rules.proofs.Counting.{first_le, first_before, first_at, first_is, first_none, any_at, any_where, any_for_each, one_of}
use Rattle.rules.proofs.Files.{accepted_well_formed}
use Rattle.task.specs.Index.{Indexed}
use Rattle.task.specs.Numbers.{at_any_horizon}
use Rattle.rows.specs.Bits.{counts_true, set_from}
use Rattle.rows.specs.Bound.{most_variables}
use Rattle.checker.specs.Order.{holds_at, acts_at, is_unmet, steps_of, items_of, clauses_of, Come, values_stay}
use Rattle.checker.specs.Staying.{effect_is, gives_at, supports_at, supported_at, changes_alone}
use Rattle.checker.proofs.Clauses.{literal_plus, false_stay}
use Rattle.checker.proofs.ItemLaws.{item_bound, pairs_more, pairs_found, pairs_all, actions_room_lem}

bools : (a : Bool) → (a || false) ≡ (a && true)
bools true = refl
bools false = refl

nothing : (a : Bool) → false ≡ (a && false)
nothing true = refl
nothing false = refl

-- ---- an action that gives a value

module _ (file : List ℕ) (a x v m p : ℕ) (e : p ≡ a) (h : m ≡ length (action (task_of file) p).effects) where
  long : m ≡ length (action (task_of file) a).effects
  long = h ∙ ap (λ a. length (action (task_of file) a).effects) e

  pub given_there : (i : ℕ) → i < m → i < length (action (task_of file) a).effects
  given_there i l = omega (arith, long)

  pub given_found : (i : ℕ) (b : Bool) → i < m → b ≡ effect_is file a x v i → b ≡ true → true ≡ gives_at file x v a
  unfolding effect_is gives_at
  given_found i b l g t =
      sym (any_at (λ p. eqb p.variable x && eqb p.value v) (action (task_of file) a).effects (record { variable = 0; value = 0 }) i (omega (arith, long)) (sym g ∙ t))

  pub given_none : (i : ℕ) → first i (effect_is file a x v) ≡ i → m ≤ i → false ≡ gives_at file x v a
  unfolding effect_is gives_at
  given_none i none l =
      ⊎_elim
      (λ t.
      let w = any_where (λ p. eqb p.variable x && eqb p.value v) (action (task_of file) a).effects (record { variable = 0; value = 0 }) t in
      clash w.2 (first_before i (effect_is file a x v) w.0 (omega (arith, long))))
      (λ f. sym f)
      (either (any (λ p. eqb p.variable x && eqb p.value v) (action (task_of file) a).effects))

-- ---- a step that has such an action

module _ (file : List ℕ) (rows : Rows) (s x v : ℕ) where
  abbrev T : Task
  T = task_of file

  abbrev supports : ℕ → Bool
  supports = supports_at file rows s x v

  not_supporting : (a : ℕ) → acts_at false file rows s a ≡ false → supports a ≡ false
  unfolding supports_at
  not_supporting a f = ap (λ b. b && gives_at file x v a) f

  module _ (m a from : ℕ) (g : m ≡ A T) (none : first a supports ≡ a) (e : from ≡ action_number (at_any_horizon file) s 0) where
    set_later : (j : ℕ) → set_from (counts_true false rows) (from + a) j ≡ acts_at false file rows s (a + j)
    unfolding set_from acts_at action_number
    set_later j = ap (counts_true false rows) (omega arith)

    module _ (r : ℕ) (h : r ≡ first (m - a) (set_from (counts_true false rows) (from + a))) where
      -- none below the next true action
      none_yet_to : (t : ℕ) → t ≤ a + r → first t supports ≡ t
      none_yet_to t l =
          first_none t supports (λ j b.
          ⊎_elim (λ u. first_before a supports j (omega arith))
          (λ u.
          let z : j ≡ a + (j - a) = omega arith in
          ap supports z
          ∙ not_supporting (a + (j - a)) (sym (set_later (j - a)) ∙ first_before (m - a) (set_from (counts_true false rows) (from + a)) (j - a) (omega arith)))
          (below_or j a))

      pub support_none : m ≤ a + r → false ≡ supported_at file rows s x v
      unfolding supported_at
      support_none l = sym (le-ltb (first (A T) supports) (A T) (omega (arith, none_yet_to (A T) (omega arith))))

      acting : a + r < m → acts_at false file rows s (a + r) ≡ true
      acting l = sym (set_later r) ∙ ap (set_from (counts_true false rows) (from + a)) h ∙ first_at (m - a) (set_from (counts_true false rows) (from + a)) (omega arith)

      pub support_found : (b : Bool) → a + r < m → b ≡ gives_at file x v (a + r) → b ≡ true → true ≡ supported_at file rows s x v
      unfolding supported_at supports_at
      support_found b l f t =
          sym (lt-ltb (first (A T) supports) (A T)
          (omega (
            arith,
            first_is (A T) supports (a + r) (omega arith) (and_both _ _ (acting l) (sym f ∙ t))
                (λ j u. first_before (a + r) supports j (omega (arith, none_yet_to (a + r) (omega arith)))),
          )))

      pub support_again : (b : Bool) → a + r < m → b ≡ gives_at file x v (a + r) → b ≡ false → first (a + r + 1) supports ≡ a + r + 1
      unfolding supports_at
      support_again b l f t =
          pairs_one (a + r) (none_yet_to (a + r) (omega arith)) (ap₂ ◌&&◌ (acting l) (sym f ∙ t))
        where
          pairs_one : (t : ℕ) → first t supports ≡ t → supports t ≡ false → first (t + 1) supports ≡ t + 1
          pairs_one t none f =
              first_none (t + 1) supports (λ j u.
              ⊎_elim (λ w. first_before t supports j (omega arith)) (λ w. let z : j ≡ t = omega arith in ap supports z ∙ f) (below_or j t))

  -- the part of the rows from action a on
  module _ (index : List ℕ) (ix : Indexed file index) (low : s ≤ max_horizon) (m a from : ℕ) (g : m ≡ A T) (l : a < m)
      (e : from ≡ action_number (at_any_horizon file) s 0) where
    room : from + m < most_variables
    room = actions_room_lem file index rows 0 ix s from low m e g

    pub from_fits : Fits w64 (from + a)
    from_fits = record { fits = omega (arith, room) }

    pub from_positive : 0 < from + a
    unfolding action_number
    from_positive = omega arith

    pub from_room : from + a + (m - a) < most_variables
    from_room = omega (arith, room)

  pub some_action : (m a : ℕ) → m ≡ A T → a < m → 0 < A T
  some_action m a g l = omega arith

  pub action_there : (m t : ℕ) → m ≡ A T → t < m → t < A T
  action_there m t g l = omega arith

  module _ (index : List ℕ) (ix : Indexed file index) (m a r : ℕ) (p : ℕ → Bool) (g : m ≡ A T) (l : a < m) (h : r ≡ first (m - a) p) where
    few : a + r ≤ max_actions
    few = omega (arith, first_le (m - a) p, (accepted_well_formed file ix.accepted).actions_few)

    pub next_fits : Fits w64 (a + r)
    next_fits = record { fits = omega (arith, few) }

    pub later_fits : Fits w64 (a + r + 1)
    later_fits = record { fits = omega (arith, few) }

  pub support_end : (m a : ℕ) → m ≡ A T → first a supports ≡ a → m ≤ a → false ≡ supported_at file rows s x v
  unfolding supported_at
  support_end m a g none l =
      sym (le-ltb (first (A T) supports) (A T)
      (omega (arith, first_none (A T) supports (λ j b. first_before a supports j (omega arith)))))

  -- the supporters' literals are true together with that
  supporter : (k a : ℕ) (b : Bool) → any (literal_true (model_in rows)) (when b (plus (action_number (problem_of file k) s a) ∷ [])) ≡ (acts_at false file rows s a && b)
  unfolding any acts_at action_number problem_of
  supporter k a true = ap (λ b. b || false) (literal_plus rows (action_number (problem_of file k) s a)) ∙ bools (acts_at false file rows s a)
  supporter k a false = nothing (acts_at false file rows s a)

  supporters_are : (k : ℕ) → any (literal_true (model_in rows)) (supporters (problem_of file k) s x v) ≡ supported_at file rows s x v
  unfolding supporters supported_at supports_at gives_at problem_of
  supporters_are k =
      same_truth _ _
      (λ t.
      let w = one_of (literal_true (model_in rows)) (A T) _ t in
      ⊎_elim (λ l. lt-ltb (first (A T) supports) (A T) l)
      (λ l. clash (sym (supporter k w.0 (gives_at file x v w.0)) ∙ w.2) (first_before (A T) supports w.0 (omega arith)))
      (below_or (first (A T) supports) (A T)))
      (λ t.
      let l : first (A T) supports < A T = ltb-true (first (A T) supports) (A T) t in
      any_for_each (literal_true (model_in rows)) (A T) _ (first (A T) supports) l
      (supporter k (first (A T) supports) (gives_at file x v (first (A T) supports)) ∙ first_at (A T) supports l))

-- ---- a variable's values

module _ (file index : List ℕ) (rows : Rows) (k s x at : ℕ) (c : Come file index rows k values_stay s x at) where
  pub stay_item : x < n (task_of file)
  unfolding items_of
  stay_item = c.item

  pub stay_step : s + 1 ≤ max_horizon
  unfolding steps_of
  stay_step = let l : s < k = c.step in omega (arith, c.reached.low)

  module _ (m : ℕ) (h : m ≡ d (task_of file) x) where
    stay_count : m ≡ clauses_of (task_of file) values_stay x
    unfolding clauses_of
    stay_count = h

    pub stay_fits : (v : ℕ) → v ≤ m → Fits w64 (at + v)
    stay_fits v l = record { fits = omega (arith, stay_count, item_bound file index rows k values_stay s x at c) }

    pub stay_there : (v : ℕ) → v < m → v < d (task_of file) x
    stay_there v l = omega arith

    pub stay_all : (v : ℕ) → first (at + v) (is_unmet file k rows) ≡ at + v → v ≤ m → m ≤ v
        → at + m ≡ first (at + clauses_of (task_of file) values_stay x) (is_unmet file k rows)
    stay_all v none l u = pairs_all (is_unmet file k rows) at v none m (clauses_of (task_of file) values_stay x) l u stay_count

    module _ (v : ℕ) (none : first (at + v) (is_unmet file k rows) ≡ at + v) (l : v < m) (b : Bool) (e : b ≡ changes_alone file rows s x v) where
      stay_is : is_unmet file k rows (at + v) ≡ b
      unfolding changes_alone
      stay_is =
          false_stay file rows k s x at v c.step c.item c.reached.is (omega (arith, stay_count))
          ∙ ap (λ g. holds_at true file rows (suc s) x v && (not (holds_at false file rows s x v) && not g)) (supporters_are file rows s x v k)
          ∙ sym e

      pub stay_fails : b ≡ true → at + v ≡ first (at + clauses_of (task_of file) values_stay x) (is_unmet file k rows)
      stay_fails t = pairs_found (is_unmet file k rows) at v none (clauses_of (task_of file) values_stay x) (omega (arith, stay_count)) (stay_is ∙ t)

      pub stay_again : b ≡ false → first (at + (v + 1)) (is_unmet file k rows) ≡ at + (v + 1)
      stay_again t = pairs_more (is_unmet file k rows) at v none (stay_is ∙ t)
