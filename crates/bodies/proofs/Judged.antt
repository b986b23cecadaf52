-- Verdicts on tasks: a task is judged as it is judged blurred, and a valid one is the same blurred.
-- Assumes nothing.
use Rattle.std.specs.Prelude.{Err}
use mathlib.Core.Path.{◌≡◌, refl, sym, ap, ◌∙◌}
use mathlib.Core.Logic.{⊎_elim}
use mathlib.Core.Bool.{Bool, true, false, ◌&&◌}
use mathlib.Core.List.{List, [], ◌∷◌, map}
use Prim.Native.Nat.{ℕ, zero, suc, ◌-◌, ◌≤◌, ◌<◌, min}
use native.Mathlib.Omega.{arith}
use borrow.Author.Tests.{ltb-true, lt-ltb, le-ltb, leb-true, le-leb, eqb-true}
use lib.Dec.{leb, ltb, eqb}
use lib.ListN.{length, get_or, length-map, get_or-map}
use Rattle.rules.specs.Counting.{first}
use Rattle.rules.specs.Limits.{max_variables, max_domain, max_values, max_goals, max_actions, byte_values}
use Rattle.rules.specs.Answers.{Rule, judge}
use Rattle.rules.specs.Task.{Pair, Task, n, d, S, A, start_value, pair, action, inside, rises, pair_at_fault, size_at_fault, start_at_fault, list_in_order, action_in_order, action_at_fault, task_rules}
use Rattle.rules.proofs.Bools.{either, and_left, and_right, same_truth, below_or, not_false}
use Rattle.rules.proofs.Counting.{first_ext, none_at, sum_to-ext}
use Rattle.rules.proofs.Judging.{judge_passed, judge_refused}
use Rattle.rules.proofs.Valid.{Inside, InOrder, ActionFine, WellFormed}
use Rattle.rules.specs.declared.Refusal.TheVariants.{DomainSize, StartValue, GoalPair, ActionAtFault}
use Rattle.bodies.specs.Keeping.{as_byte}
use Rattle.bodies.proofs.Alike.{blur, blur_near, blur_variable, blur_action, blur_task}

-- rules that hold alike and refuse alike, as long as those before them hold
judge_alike : (r q : Rule) (rs qs : List Rule) → r.holds ≡ q.holds → r.refusal ≡ q.refusal → (q.holds ≡ true → judge rs ≡ judge qs)
    → judge (r ∷ rs) ≡ judge (q ∷ qs)
judge_alike r q rs qs h e later =
    ⊎_elim (λ t. judge_passed r rs (h ∙ t) ∙ later t ∙ sym (judge_passed q qs t))
    (λ t. judge_refused r rs (h ∙ t) ∙ ap Err e ∙ sym (judge_refused q qs t))
    (either q.holds)

and_alike : (a c b e : Bool) → a ≡ c → (c ≡ true → b ≡ e) → (a && b) ≡ (c && e)
and_alike a true b e h k = rw (h, k refl)
and_alike a false b e h k = rw h

-- ---- tests of a number and of the byte that stands for it

below_byte : (v m : ℕ) → m < byte_values → ltb (as_byte v) m ≡ ltb v m
below_byte v m h =
    same_truth (ltb (as_byte v) m) (ltb v m) (λ t. omega (arith, lt-ltb, ltb-true (as_byte v) m t)) (λ t. omega (arith, lt-ltb, ltb-true v m t))

at_least_byte : (m k : ℕ) → k < byte_values → leb k (as_byte m) ≡ leb k m
at_least_byte m k h =
    same_truth (leb k (as_byte m)) (leb k m) (λ t. omega (arith, le-leb, leb-true k (as_byte m) t)) (λ t. omega (arith, le-leb, leb-true k m t))

at_most_byte : (m k : ℕ) → k < byte_values - 1 → leb (as_byte m) k ≡ leb m k
at_most_byte m k h =
    same_truth (leb (as_byte m) k) (leb m k) (λ t. omega (arith, le-leb, leb-true (as_byte m) k t)) (λ t. omega (arith, le-leb, leb-true m k t))

-- ---- a task blurred

module _ (T : Task) where
  abbrev B : Task
  B = blur_task T

  same_n : n B ≡ n T
  same_n = length-map T.sizes as_byte

  byte_d : (x : ℕ) → d B x ≡ as_byte (d T x)
  byte_d x = get_or-map as_byte T.sizes x 0

  size_alike : (x : ℕ) → size_at_fault B x ≡ size_at_fault T x
  unfolding size_at_fault
  size_alike x = rw (byte_d x, at_least_byte (d T x) 1 (omega arith), at_most_byte (d T x) max_domain (omega arith))

  sizes_alike : first (n B) (size_at_fault B) ≡ first (n T) (size_at_fault T)
  sizes_alike = rw same_n (first_ext (n T) (size_at_fault B) (size_at_fault T) (λ x l. size_alike x))

  -- no size at fault: the sizes are bytes
  module _ (fine : eqb (first (n T) (size_at_fault T)) (n T) ≡ true) where
    size_small : (x : ℕ) → x < n T → d T x ≤ max_domain
    unfolding size_at_fault
    size_small x l = leb-true _ _ (and_right (leb 1 (d T x)) _ (not_false _ (none_at (n T) (size_at_fault T) fine x l)))

    same_d : (x : ℕ) → x < n T → d B x ≡ d T x
    same_d x l = omega (arith, byte_d x, size_small x l)

    same_S : S B ≡ S T
    same_S = rw same_n (sum_to-ext (n T) (d B) (d T) same_d)

    start_alike : (x : ℕ) → x < n T → start_at_fault B x ≡ start_at_fault T x
    unfolding start_at_fault
    start_alike x l =
        rw (same_d x l, get_or-map as_byte T.start x 0, below_byte (start_value T x) (d T x) (omega (arith, size_small x l)))

    starts_alike : first (n B) (start_at_fault B) ≡ first (n T) (start_at_fault T)
    starts_alike = rw same_n (first_ext (n T) (start_at_fault B) (start_at_fault T) start_alike)

    module _ (few : n T ≤ max_variables) where
      inside_alike : (p : Pair) → inside B (blur p) ≡ inside T p
      inside_alike p =
          let v : ℕ = p.variable in
          ⊎_elim
          (λ l.
          let e : as_byte v ≡ v = omega arith in
          rw (blur_near p (omega arith), e, same_n, same_d v l, below_byte p.value (d T v) (omega (arith, size_small v l))))
          (λ (l : n T ≤ v). rw (le-ltb v (n T) l, le-ltb (blur p).variable (n B) (omega (arith, same_n, blur_variable p, few, l))))
          (below_or v (n T))

      pair_blurred : (ps : List Pair) (i : ℕ) → pair (map blur ps) i ≡ blur (pair ps i)
      unfolding blur
      pair_blurred ps i = get_or-map blur ps i (record { variable = 0; value = 0 })

      rises_alike : (ps : List Pair) (i : ℕ) → inside T (pair ps i) ≡ true → rises (map blur ps) i ≡ rises ps i
      rises_alike ps zero h = refl
      rises_alike ps (suc i) h =
          let v : ℕ = (pair ps (suc i)).variable in
          let below : v < n T = ltb-true _ _ (and_left (ltb v (n T)) _ h) in
          let e : as_byte v ≡ v = omega arith in
          rw (pair_blurred ps i, pair_blurred ps (suc i), blur_variable (pair ps i), blur_variable (pair ps (suc i)), e, below_byte (pair ps i).variable v (omega arith))

      pair_alike : (ps : List Pair) (i : ℕ) → pair_at_fault B (map blur ps) i ≡ pair_at_fault T ps i
      unfolding pair_at_fault
      pair_alike ps i =
          rw (pair_blurred ps i, inside_alike (pair ps i))
          (⊎_elim (λ h. rw (rises_alike ps i h)) (λ h. rw h) (either (inside T (pair ps i))))

      pairs_alike : (ps : List Pair) → first (length (map blur ps)) (pair_at_fault B (map blur ps)) ≡ first (length ps) (pair_at_fault T ps)
      pairs_alike ps = rw (length-map ps blur) (first_ext (length ps) _ _ (λ i l. pair_alike ps i))

      list_alike : (ps : List Pair) → list_in_order B (map blur ps) ≡ list_in_order T ps
      unfolding list_in_order
      list_alike ps = rw (pairs_alike ps, length-map ps blur)

      action_alike : (a : ℕ) → action_at_fault (λ a. true) B a ≡ action_at_fault (λ a. true) T a
      unfolding action_at_fault action_in_order
      action_alike a =
          let e : action B a ≡ blur_action (action T a) = get_or-map blur_action T.actions a (record { preconditions = []; effects = [] }) in
          rw (e, list_alike (action T a).preconditions, list_alike (action T a).effects)

      actions_alike : first (A B) (action_at_fault (λ a. true) B) ≡ first (A T) (action_at_fault (λ a. true) T)
      actions_alike = rw (length-map T.actions blur_action) (first_ext (A T) _ _ (λ a l. action_alike a))

-- ---- the verdict

-- what the first rule says, where it holds
pub record Fitting (T : Task) : Type 0 where
  pub variables_few : n T ≤ max_variables
  pub start_whole : length T.start ≡ n T
  pub goals_few : length T.goal ≤ max_goals

pub lengths_fit : (T : Task) → (leb 1 (n T) && leb (n T) max_variables && eqb (length T.start) (n T) && true && leb (length T.goal) max_goals) ≡ true
    → Fitting T
lengths_fit T h =
    let whole-ok = and_left (leb 1 (n T) && leb (n T) max_variables && eqb (length T.start) (n T) && true) _ h in
    let start-ok = and_left (leb 1 (n T) && leb (n T) max_variables && eqb (length T.start) (n T)) true whole-ok in
    let n-ok = and_left (leb 1 (n T) && leb (n T) max_variables) _ start-ok in
    record {
      variables_few = leb-true _ _ (and_right (leb 1 (n T)) _ n-ok);
      start_whole = eqb-true _ _ (and_right (leb 1 (n T) && leb (n T) max_variables) _ start-ok);
      goals_few = leb-true _ _ (and_right (leb 1 (n T) && leb (n T) max_variables && eqb (length T.start) (n T) && true) _ h);
    }

-- none is at fault, in both or in neither
none_alike : (l m : ℕ) (p q : ℕ → Bool) → l ≡ m → first l p ≡ first m q → eqb (first l p) l ≡ eqb (first m q) m
none_alike l m p q e f = rw (f, e)

pub judged_blurred : (T : Task) → judge (task_rules true (λ a. true) (blur_task T)) ≡ judge (task_rules true (λ a. true) T)
unfolding task_rules
judged_blurred T =
    let fault : Task → ℕ → Bool = action_at_fault (λ a. true) in
    judge_alike _ _ _ _ (rw (same_n T, length-map T.start as_byte, length-map T.goal blur)) refl (λ lengths.
    judge_alike _ _ _ _
    (and_alike _ _ _ _ (none_alike _ _ (size_at_fault (blur_task T)) (size_at_fault T) (same_n T) (sizes_alike T)) (λ fine. ap (λ k. leb k max_values) (same_S T fine)))
    (ap DomainSize (sizes_alike T)) (λ sizes.
    let few = (lengths_fit T lengths).variables_few in
    let fine = and_left (eqb (first (n T) (size_at_fault T)) (n T)) _ sizes in
    let starts = starts_alike T fine in
    let goals = pairs_alike T fine few T.goal in
    let actions = actions_alike T fine few in
    judge_alike _ _ _ _ (none_alike _ _ (start_at_fault (blur_task T)) (start_at_fault T) (same_n T) starts) (ap StartValue starts) (λ start.
    judge_alike _ _ _ _
    (none_alike _ _ (pair_at_fault (blur_task T) (map blur T.goal)) (pair_at_fault T T.goal) (length-map T.goal blur) goals)
    (ap GoalPair goals) (λ goal.
    judge_alike _ _ _ _
    (and_alike _ _ _ _ (none_alike _ _ (fault (blur_task T)) (fault T) (length-map T.actions blur_action) actions)
    (λ each. ap (λ k. leb k max_actions) (length-map T.actions blur_action)))
    (ap (λ k. ActionAtFault (min max_actions k)) actions) (λ all. refl)))))

-- ---- a valid task is the same blurred

map_same : {X : Type 0} (f : X → X) (l : List X) (z : X) → ((i : ℕ) → i < length l → f (get_or l i z) ≡ get_or l i z) → map f l ≡ l
map_same f [] z h = refl
map_same f (x ∷ l) z h = rw (h 0 (omega arith)) (ap (λ r. x ∷ r) (map_same f l z (λ i b. h (suc i) (omega arith))))

module _ (T : Task) (t : WellFormed T) where
  pairs_same : (ps : List Pair) → InOrder T ps → map blur ps ≡ ps
  pairs_same ps o =
      map_same blur ps (record { variable = 0; value = 0 }) (λ i l.
      let p : Pair = pair ps i in
      let here : Inside T p = o.inside_each i l in
      let variable : p.variable < max_variables = omega (arith, here.variable_below, t.variables_few) in
      let value : p.value < max_domain = omega (arith, here.value_below, t.domain_small p.variable here.variable_below) in
      let v : as_byte p.variable ≡ p.variable = omega arith in
      let w : as_byte p.value ≡ p.value = omega arith in
      blur_near p (omega arith) ∙ (λ j. record { variable = v j; value = w j }))

  action_same : (a : ℕ) → a < A T → blur_action (action T a) ≡ action T a
  action_same a l =
      let f : ActionFine T (action T a) = t.actions_fine a l in
      λ i.
      record {
        preconditions = pairs_same (action T a).preconditions f.preconditions_fine i;
        effects = pairs_same (action T a).effects f.effects_fine i;
      }

  pub blurred_same : blur_task T ≡ T
  blurred_same =
      λ i.
      record {
        sizes = map_same as_byte T.sizes 0 (λ x l. omega (arith, t.domain_small x l)) i;
        start = map_same as_byte T.start 0 (λ x l. start_same x (omega (arith, t.start_whole))) i;
        goal = pairs_same T.goal t.goal_fine i;
        actions = map_same blur_action T.actions (record { preconditions = []; effects = [] }) action_same i;
      }
    where
      start_same : (x : ℕ) → x < n T → as_byte (start_value T x) ≡ start_value T x
      start_same x l = omega (arith, t.start_inside x l, t.domain_small x l)
