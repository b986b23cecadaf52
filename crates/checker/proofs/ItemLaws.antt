-- The search of one item, way by way: what its functions are asked, and that each answer is the lowest unmet clause up to the item's end.
-- Assumes nothing.
use mathlib.Core.Path.{◌≡◌, refl, sym, ap, ap₂, ◌∙◌}
use mathlib.Core.Logic.{⊎_elim}
use mathlib.Core.Bool.{Bool, true, false, not, ◌&&◌}
use mathlib.Core.List.{List}
use Prim.Native.Nat.{ℕ, ◌+◌, ◌*◌, ◌^◌, ◌≤◌, ◌<◌}
use native.Mathlib.Omega.{arith}
use native.Mathlib.Nat.{mul-le-mul}
use mir.Syntax.{w64}
use mir.Val.{Fits}
use lib.ListN.{length}
use Rattle.rules.specs.Counting.{first}
use Rattle.rules.specs.Limits.{max_horizon, max_actions, max_values, max_c}
use Rattle.rules.specs.Task.{Task, n, d, A, start_value, pair, action}
use Rattle.rules.specs.Numbering.{stride, value_number, action_number}
use Rattle.rules.specs.Counts.{pairs_below}
use Rattle.rules.specs.Rows.{Rows}
use Rattle.rules.specs.File.{task_of}
use Rattle.rules.proofs.Bools.{not_true, not_false, below_or}
use Rattle.rules.proofs.Counting.{first_le, first_before, first_at, first_is, first_none, sum_to-part}
use Rattle.rules.proofs.Lowest.{chunk_passed, chunk_found}
use Rattle.rules.proofs.Valid.{WellFormed, Inside, ActionFine}
use Rattle.rules.proofs.Files.{accepted_well_formed}
use Rattle.task.specs.Index.{Indexed}
use Rattle.task.specs.Numbers.{at_any_horizon}
use Rattle.rows.specs.Bits.{counts_true, set_from}
use Rattle.rows.specs.Bound.{most_variables}
use Rattle.checker.specs.Order.{holds_at, pair_at, acts_at, is_unmet, steps_of, items_of, clauses_of, Come, FirstPair, start_values, goal_pairs, some_value, two_values, preconditions_hold, two_actions, pairs_of, pairs_family, told_at}
use Rattle.checker.specs.declared.action_pairs.ActionPairs.{ActionPairs}
use Rattle.checker.specs.declared.action_pairs.ActionPairs.TheVariants.{Preconditions, Effects}
use Rattle.checker.proofs.Widths.{steps_most, item_few}
use Rattle.checker.proofs.Clauses.{false_start, false_goal, some_true, some_false, false_values, false_pair, false_actions}

-- ---- a chunk of numbers behind the ones that were searched

module _ (q : ℕ → Bool) (at : ℕ) (none : first at q ≡ at) where
  pub chunk_lowest : (m r : ℕ) → r ≡ first m (λ j. q (at + j)) → at + r ≡ first (at + m) q
  chunk_lowest m r e =
      ⊎_elim (λ l. sym (chunk_found q at m none (at + m) l (omega arith) ∙ ap (λ r. at + r) (sym e)))
      (λ l. let full : first m (λ j. q (at + j)) ≡ m = omega (arith, first_le m (λ j. q (at + j))) in
      ap (λ r. at + r) (e ∙ full) ∙ sym (chunk_passed q at m none full))
      (below_or (first m (λ j. q (at + j))) m)

  chunk_true : (m : ℕ) → ((j : ℕ) → j < m → q (at + j) ≡ false) → at + m ≡ first (at + m) q
  chunk_true m h = chunk_lowest m m (sym (first_none m (λ j. q (at + j)) h))

  next_true : (b : Bool) → q at ≡ b → b ≡ false → at + 1 ≡ first (at + 1) q
  next_true b e f = chunk_true 1 (λ j l. let z : at + j ≡ at = omega arith in ap q z ∙ e ∙ f)

  next_false : (b : Bool) → q at ≡ b → b ≡ true → at ≡ first (at + 1) q
  next_false b e t = sym (first_is (at + 1) q at (omega arith) (e ∙ t) (λ j l. first_before at q j (omega arith)))

module _ (file index : List ℕ) (rows : Rows) (k : ℕ) where
  abbrev T : Task
  T = task_of file

  abbrev q : ℕ → Bool
  q = is_unmet file k rows

  -- ---- what is asked

  module _ (f s i at : ℕ) (c : Come file index rows k f s i at) where
    fine : WellFormed T
    fine = accepted_well_formed file c.reached.indexed.accepted

    pub step_low : s ≤ max_horizon
    step_low = omega (arith, steps_most k f, c.step, c.reached.low)

    pub item_bound : at + clauses_of T f i ≤ max_c
    item_bound = omega (arith, item_few T fine k f c.reached.low c.family s i c.step c.item, c.reached.is)

  module _ (s i at : ℕ) where
    pub start_item : Come file index rows k start_values s i at → i < n T
    unfolding items_of
    start_item c = c.item

    pub goal_item : Come file index rows k goal_pairs s i at → i < length T.goal
    unfolding items_of
    goal_item c = c.item

    pub some_item : Come file index rows k some_value s i at → i < n T
    unfolding items_of
    some_item c = c.item

    pub two_item : Come file index rows k two_values s i at → i < n T
    unfolding items_of
    two_item c = c.item

    pub pair_action : (list : ActionPairs) → Come file index rows k (pairs_family list) s i at → i < A T
    unfolding items_of
    pair_action Preconditions c = c.item
    pair_action Effects c = c.item

    pub pair_step : (list : ActionPairs) → Come file index rows k (pairs_family list) s i at → told_at list s ≤ max_horizon
    unfolding steps_of
    pair_step Preconditions c = step_low preconditions_hold s i at c
    pair_step Effects c = let l : s < k = c.step in omega (arith, c.reached.low)

    pub start_fits : Come file index rows k start_values s i at → Fits w64 (at + 1)
    unfolding clauses_of
    start_fits c = record { fits = omega (arith, item_bound start_values s i at c) }

    pub goal_fits : Come file index rows k goal_pairs s i at → Fits w64 (at + 1)
    unfolding clauses_of
    goal_fits c = record { fits = omega (arith, item_bound goal_pairs s i at c) }

    pub some_fits : Come file index rows k some_value s i at → Fits w64 (at + 1)
    unfolding clauses_of
    some_fits c = record { fits = omega (arith, item_bound some_value s i at c) }

    pub start_inside : (v : ℕ) → Come file index rows k start_values s i at → v ≡ start_value T i → v < d T i
    unfolding items_of
    start_inside v c e = omega (arith, (fine start_values s i at c).start_inside i c.item)

    goal_inside : Come file index rows k goal_pairs s i at → Inside T (pair T.goal i)
    unfolding items_of
    goal_inside c = (fine goal_pairs s i at c).goal_fine.inside_each i c.item

    pub goal_variable : (x : ℕ) → Come file index rows k goal_pairs s i at → x ≡ (pair T.goal i).variable → x < n T
    goal_variable x c e = omega (arith, (goal_inside c).variable_below)

    pub goal_value : (x v : ℕ) → Come file index rows k goal_pairs s i at → x ≡ (pair T.goal i).variable → v ≡ (pair T.goal i).value → v < d T x
    goal_value x v c e f = rw (e, f) (goal_inside c).value_below

    -- an item of these families has a clause for each pair
    pub pair_width : (list : ActionPairs) → length (pairs_of list (action T i)) ≡ clauses_of T (pairs_family list) i
    unfolding clauses_of
    pair_width Preconditions = refl
    pair_width Effects = refl

    pub pair_fits : (list : ActionPairs) (m t : ℕ) → Come file index rows k (pairs_family list) s i at → m ≡ length (pairs_of list (action T i)) → t ≤ m → Fits w64 (at + t)
    pair_fits list m t c h l = record { fits = omega (arith, item_bound (pairs_family list) s i at c, pair_width list) }

  -- ---- the numbers of a step, one behind the other

  module _ (ix : Indexed file index) (s from : ℕ) (low : s ≤ max_horizon) where
    steps_few : s * stride T ≤ max_horizon * (max_values + max_actions)
    steps_few =
        let t = accepted_well_formed file ix.accepted in
        let w : stride T ≤ max_values + max_actions = omega (arith, t.values_few, t.actions_few) in mul-le-mul low w

    pub values_room : (x m : ℕ) → x < n T → from ≡ value_number (at_any_horizon file) s x 0 → m ≡ d T x → from + m < most_variables
    unfolding value_number
    values_room x m h e g =
        omega (arith, steps_few, sum_to-part (n T) (d T) x h, (accepted_well_formed file ix.accepted).values_few)

    pub actions_room_lem : (m : ℕ) → from ≡ action_number (at_any_horizon file) s 0 → m ≡ A T → from + m < most_variables
    unfolding action_number
    actions_room_lem m e g =
        let t = accepted_well_formed file ix.accepted in
        omega (arith, steps_few, t.values_few, t.actions_few)

    pub actions_word : (m : ℕ) → from ≡ action_number (at_any_horizon file) s 0 → m ≡ A T → from + m < 2 ^ 64
    actions_word m e g = omega (arith, actions_room_lem m e g)

  module _ (s from : ℕ) where
    pub value_from_lem : (x : ℕ) → from ≡ value_number (at_any_horizon file) s x 0 → 0 < from
    unfolding value_number
    value_from_lem x e = omega arith

    pub action_from : from ≡ action_number (at_any_horizon file) s 0 → 0 < from
    unfolding action_number
    action_from e = omega arith

    set_value : (unnamed : Bool) (x v : ℕ) → from ≡ value_number (at_any_horizon file) s x 0 → set_from (counts_true unnamed rows) from v ≡ holds_at unnamed file rows s x v
    unfolding set_from holds_at value_number
    set_value unnamed x v e = ap (counts_true unnamed rows) (omega arith)

    set_action : (a : ℕ) → from ≡ action_number (at_any_horizon file) s 0 → set_from (counts_true true rows) from a ≡ acts_at true file rows s a
    unfolding set_from acts_at action_number
    set_action a e = ap (counts_true true rows) (omega arith)

  -- ---- the answers

  module _ (x at : ℕ) (c : Come file index rows k start_values 0 x at) (v : ℕ) (b : Bool) (e : v ≡ start_value T x) (h : b ≡ holds_at false file rows 0 x v) where
    start_is : q at ≡ not b
    start_is = false_start file rows k x at c.item c.reached.is ∙ ap not (ap (holds_at false file rows 0 x) (sym e) ∙ sym h)

    pub start_true : b ≡ true → at + 1 ≡ first (at + clauses_of T start_values x) q
    unfolding clauses_of
    start_true t = next_true q at c.reached.none (not b) start_is (ap not t)

    pub start_false : b ≡ false → at ≡ first (at + clauses_of T start_values x) q
    unfolding clauses_of
    start_false t = next_false q at c.reached.none (not b) start_is (ap not t)

  module _ (i at : ℕ) (c : Come file index rows k goal_pairs 0 i at) (x v : ℕ) (b : Bool) (e : x ≡ (pair T.goal i).variable) (g : v ≡ (pair T.goal i).value)
      (h : b ≡ holds_at false file rows k x v) where
    goal_is : q at ≡ not b
    goal_is = false_goal file rows k i at c.item c.reached.is ∙ ap not (ap₂ (holds_at false file rows k) (sym e) (sym g) ∙ sym h)

    pub goal_true : b ≡ true → at + 1 ≡ first (at + clauses_of T goal_pairs i) q
    unfolding clauses_of
    goal_true t = next_true q at c.reached.none (not b) goal_is (ap not t)

    pub goal_false : b ≡ false → at ≡ first (at + clauses_of T goal_pairs i) q
    unfolding clauses_of
    goal_false t = next_false q at c.reached.none (not b) goal_is (ap not t)

  module _ (s x at : ℕ) (c : Come file index rows k some_value s x at) (from m t : ℕ) (e : from ≡ value_number (at_any_horizon file) s x 0) (g : m ≡ d T x)
      (h : t ≡ first m (set_from (counts_true false rows) from)) where
    pub some_found : t < m → at + 1 ≡ first (at + clauses_of T some_value x) q
    unfolding clauses_of
    some_found l =
        next_true q at c.reached.none false
        (some_true file rows k s x at t c.step c.item c.reached.is (omega arith)
        (sym (set_value s from false x t e) ∙ ap (set_from (counts_true false rows) from) h ∙ first_at m (set_from (counts_true false rows) from) (omega arith)))
        refl

    pub some_missing : m ≤ t → at ≡ first (at + clauses_of T some_value x) q
    unfolding clauses_of
    some_missing l =
        next_false q at c.reached.none true
        (some_false file rows k s x at c.step c.item c.reached.is
        (λ v hv. sym (set_value s from false x v e) ∙ first_before m (set_from (counts_true false rows) from) v (omega arith)))
        refl

  module _ (s x at : ℕ) (c : Come file index rows k two_values s x at) (from m r : ℕ) (e : from ≡ value_number (at_any_horizon file) s x 0) (g : m ≡ d T x)
      (h : FirstPair m (set_from (counts_true true rows) from) r) where
    pairs_is : r ≡ first (pairs_below m) (λ j. q (at + j))
    pairs_is =
        h.lowest (λ j. q (at + j)) (λ j v w p.
        false_values file rows k s x at j v w c.step c.item c.reached.is (rw g at p)
        ∙ ap₂ ◌&&◌ (sym (set_value s from true x v e)) (sym (set_value s from true x w e)))

    pub two_fits : Fits w64 (at + r)
    unfolding clauses_of
    two_fits =
        let z : pairs_below m ≡ pairs_below (d T x) = ap pairs_below g in
        record { fits = omega (arith, item_bound two_values s x at c, first_le (pairs_below m) (λ j. q (at + j)), pairs_is) }

    pub two_lowest : at + r ≡ first (at + clauses_of T two_values x) q
    unfolding clauses_of
    two_lowest = chunk_lowest q at c.reached.none (pairs_below (d T x)) r (pairs_is ∙ ap (λ m. first (pairs_below m) (λ j. q (at + j))) g)

  module _ (s at : ℕ) (c : Come file index rows k two_actions s 0 at) (m : ℕ) (g : m ≡ A T) where
    pub no_actions : m ≡ 0 → at ≡ first (at + clauses_of T two_actions 0) q
    unfolding clauses_of
    no_actions z =
        let w : pairs_below (A T) ≡ 0 = ap pairs_below (sym g ∙ z) in
        let y : at + pairs_below (A T) ≡ at = omega arith in
        sym (ap (λ m. first m q) y ∙ c.reached.none)

    pub some_actions : (m ≡ 0 → ⊥) → 0 < A T
    some_actions z = omega (arith, z)

    module _ (from r : ℕ) (e : from ≡ action_number (at_any_horizon file) s 0) (h : FirstPair m (set_from (counts_true true rows) from) r) where
      actions_is : r ≡ first (pairs_below m) (λ j. q (at + j))
      actions_is =
          h.lowest (λ j. q (at + j)) (λ j a b p.
          false_actions file rows k s at j a b c.step c.reached.is (rw g at p)
          ∙ ap₂ ◌&&◌ (sym (set_action s from a e)) (sym (set_action s from b e)))

      pub actions_fits : Fits w64 (at + r)
      unfolding clauses_of
      actions_fits =
          let z : pairs_below m ≡ pairs_below (A T) = ap pairs_below g in
          record { fits = omega (arith, item_bound two_actions s 0 at c, first_le (pairs_below m) (λ j. q (at + j)), actions_is) }

      pub actions_lowest : at + r ≡ first (at + clauses_of T two_actions 0) q
      unfolding clauses_of
      actions_lowest = chunk_lowest q at c.reached.none (pairs_below (A T)) r (actions_is ∙ ap (λ m. first (pairs_below m) (λ j. q (at + j))) g)

-- ---- a list of pairs: none of the first t clauses is unmet

module _ (q : ℕ → Bool) (at : ℕ) where
  pub pairs_yet : first at q ≡ at → first (at + 0) q ≡ at + 0
  pairs_yet h = let z : at + 0 ≡ at = omega arith in rw z h

  module _ (t : ℕ) (none : first (at + t) q ≡ at + t) where
    pub pairs_more : q (at + t) ≡ false → first (at + (t + 1)) q ≡ at + (t + 1)
    pairs_more f =
        let z : at + t + 1 ≡ at + (t + 1) = omega arith in
        sym (ap (λ m. first m q) z) ∙ sym (next_true q (at + t) none (q (at + t)) refl f) ∙ z

    pub pairs_found : (m : ℕ) → t < m → q (at + t) ≡ true → at + t ≡ first (at + m) q
    pairs_found m l f = sym (first_is (at + m) q (at + t) (omega arith) f (λ j b. first_before (at + t) q j (omega arith)))

    pub pairs_all : (m n : ℕ) → t ≤ m → m ≤ t → m ≡ n → at + m ≡ first (at + n) q
    pairs_all m n l h e =
        let z : at + m ≡ at + t = omega arith in
        let y : at + t ≡ at + n = omega arith in
        z ∙ sym none ∙ ap (λ m. first m q) y

module _ (file index : List ℕ) (rows : Rows) (k : ℕ) (list : ActionPairs) (s a at : ℕ) (c : Come file index rows k (pairs_family list) s a at) (m : ℕ)
    (h : m ≡ length (pairs_of list (action (task_of file) a))) (acting : Bool) (g : acting ≡ acts_at true file rows s a) where
  abbrev count : ℕ
  count = clauses_of (task_of file) (pairs_family list) a

  count_is : m ≡ count
  count_is = h ∙ pair_width file index rows k s a at list

  pub pair_idle : not acting ≡ true → at + m ≡ first (at + count) (is_unmet file k rows)
  pair_idle z =
      let idle : acts_at true file rows s a ≡ false = sym g ∙ not_true acting z in
      ap (λ m. at + m) count_is
      ∙ chunk_true (is_unmet file k rows) at c.reached.none count (λ j l.
      false_pair file rows k list s a at j c.step c.item c.reached.is l
      ∙ ap (λ b. b && not (pair_at file rows (told_at list s) (pair (pairs_of list (action (task_of file) a)) j))) idle)

  pub pair_all : (t : ℕ) → first (at + t) (is_unmet file k rows) ≡ at + t → t ≤ m → m ≤ t → at + m ≡ first (at + count) (is_unmet file k rows)
  pair_all t none l u = pairs_all (is_unmet file k rows) at t none m count l u count_is

  module _ (z : not acting ≡ false) (t : ℕ) (none : first (at + t) (is_unmet file k rows) ≡ at + t) (l : t < m) (told x v : ℕ) (b : Bool)
      (step : told ≡ told_at list s) (variable : x ≡ (pair (pairs_of list (action (task_of file) a)) t).variable)
      (value : v ≡ (pair (pairs_of list (action (task_of file) a)) t).value) (hb : b ≡ holds_at false file rows told x v) where
    pair_is : is_unmet file k rows (at + t) ≡ not b
    unfolding pair_at
    pair_is =
        let there : t < count = omega (arith, count_is) in
        false_pair file rows k list s a at t c.step c.item c.reached.is there
        ∙ ap₂ (λ a b. a && not b) (sym g ∙ not_false acting z)
        (sym (hb ∙ ap (λ u. holds_at false file rows u x v) step ∙ ap₂ (holds_at false file rows (told_at list s)) variable value))

    pub pair_fails : not b ≡ true → at + t ≡ first (at + count) (is_unmet file k rows)
    pair_fails f = pairs_found (is_unmet file k rows) at t none count (omega (arith, count_is)) (pair_is ∙ f)

    pub pair_again : not b ≡ false → first (at + (t + 1)) (is_unmet file k rows) ≡ at + (t + 1)
    pair_again f = pairs_more (is_unmet file k rows) at t none (pair_is ∙ f)

-- ---- one pair of an action

module _ (file index : List ℕ) (rows : Rows) (k : ℕ) (list : ActionPairs) (s a at : ℕ) (c : Come file index rows k (pairs_family list) s a at) (m t x : ℕ)
    (h : m ≡ length (pairs_of list (action (task_of file) a))) (l : t < m) (variable : x ≡ (pair (pairs_of list (action (task_of file) a)) t).variable) where
  fine_action : ActionFine (task_of file) (action (task_of file) a)
  fine_action = (accepted_well_formed file c.reached.indexed.accepted).actions_fine a (pair_action file index rows k s a at list c)

  pair_inside : Inside (task_of file) (pair (pairs_of list (action (task_of file) a)) t)
  pair_inside = each list (omega arith)
    where
      each : (list : ActionPairs) → t < length (pairs_of list (action (task_of file) a)) → Inside (task_of file) (pair (pairs_of list (action (task_of file) a)) t)
      each Preconditions l = fine_action.preconditions_fine.inside_each t l
      each Effects l = fine_action.effects_fine.inside_each t l

  pub pair_variable : x < n (task_of file)
  pair_variable = omega (arith, pair_inside.variable_below)

  pub pair_value : (v : ℕ) → v ≡ (pair (pairs_of list (action (task_of file) a)) t).value → v < d (task_of file) x
  pair_value v value = rw (variable, value) pair_inside.value_below
