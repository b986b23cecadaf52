-- Tasks that are judged alike: two that are equal once no number over a byte is told from another, nor two pairs of variables beyond every task.
-- Assumes nothing.
use mathlib.Core.Path.{subst, ◌≡◌, refl, sym, ap, ◌∙◌}
use mathlib.Core.Logic.{⊎_elim}
use mathlib.Core.Bool.{cond}
use mathlib.Core.List.{List, [], ◌∷◌, ◌++◌, map}
use Prim.Native.Nat.{ℕ, ◌+◌, ◌-◌, ◌≤◌, ◌<◌}
use native.Mathlib.Omega.{arith}
use borrow.Author.Tests.{lt-ltb, le-ltb}
use lib.Dec.{ltb}
use lib.ListN.{length}
use Rattle.rules.specs.Limits.{byte_values}
use Rattle.rules.specs.Task.{Pair, Action, Task}
use Rattle.rules.specs.Format.{Stated, nothing_stated, put_in_order, with_size, with_start, with_goal, with_precondition, with_effect, with_action}
use Rattle.rules.proofs.Bools.{below_or}
use Rattle.bodies.specs.Keeping.{as_byte, byte_pair}
use Rattle.bodies.proofs.InOrder.{put_before, put_behind}

pub map-append : {X Y : Type 0} (f : X → Y) (l r : List X) → map f (l ++ r) ≡ map f l ++ map f r
map-append f [] r = refl
map-append f (x ∷ l) r = ap (λ t. f x ∷ t) (map-append f l r)

-- ---- a pair

-- what stands for every pair of a variable that no task has
abbrev pub far : Pair
far = record { variable = byte_values - 1; value = 0 }

unfoldable pub blur : Pair → Pair
blur p = cond (ltb p.variable (byte_values - 1)) (byte_pair p) far

pub blur_near : (p : Pair) → p.variable < byte_values - 1 → blur p ≡ byte_pair p
unfolding blur
blur_near p h = rw (lt-ltb _ _ h)

pub blur_far : (p : Pair) → byte_values - 1 ≤ p.variable → blur p ≡ far
unfolding blur
blur_far p h = rw (le-ltb _ _ h)

pub blur_variable : (p : Pair) → (blur p).variable ≡ as_byte p.variable
blur_variable p =
    ⊎_elim (λ h. ap (λ q. q.variable) (blur_near p h)) (λ h. ap (λ q. q.variable) (blur_far p h) ∙ omega arith)
    (below_or p.variable (byte_values - 1))

pub as_byte-again : (m : ℕ) → as_byte (as_byte m) ≡ as_byte m
as_byte-again m = omega arith

-- a pair that is kept is blurred as it was
pub blur_kept : (p : Pair) → blur (byte_pair p) ≡ blur p
blur_kept p =
    ⊎_elim
    (λ h. blur_near (byte_pair p) (omega arith) ∙ (λ i. record { variable = as_byte-again p.variable i; value = as_byte-again p.value i }) ∙ sym (blur_near p h))
    (λ h. blur_far (byte_pair p) (omega arith) ∙ sym (blur_far p h))
    (below_or p.variable (byte_values - 1))

-- ---- pairs in order

-- variables from m on, none below the one before
unfoldable pub Rising : ℕ → List Pair → Type 0
Rising m [] = record {}
Rising m (p ∷ ps) = (m ≤ p.variable) × Rising p.variable ps

module _ (p q : Pair) (qs : List Pair) where
  put_here : p.variable < q.variable → put_in_order p (q ∷ qs) ≡ p ∷ q ∷ qs
  put_here h = put_before p q qs (lt-ltb p.variable q.variable h)

  put_later : q.variable ≤ p.variable → put_in_order p (q ∷ qs) ≡ q ∷ put_in_order p qs
  put_later h = put_behind p q qs (le-ltb p.variable q.variable h)

pub length-put : (p : Pair) (ps : List Pair) → length (put_in_order p ps) ≡ length ps + 1
unfolding put_in_order
length-put p [] = refl
length-put p (q ∷ qs) =
    ⊎_elim (λ h. ap length (put_here p q qs h) ∙ omega arith) (λ h. ap length (put_later p q qs h) ∙ omega (arith, length-put p qs))
    (below_or p.variable q.variable)

rising_put : (m : ℕ) (p : Pair) (ps : List Pair) → m ≤ p.variable → Rising m ps → Rising m (put_in_order p ps)
unfolding Rising put_in_order
rising_put m p [] h r = (h, record {})
rising_put m p (q ∷ qs) h r =
    ⊎_elim (λ l. rw (put_here p q qs l) (h, (omega arith, r.1))) (λ l. rw (put_later p q qs l) (r.0, rising_put q.variable p qs l r.1))
    (below_or p.variable q.variable)

-- among pairs that are all far it does not matter where one more is put
far_put : (m : ℕ) (ps : List Pair) → byte_values - 1 ≤ m → Rising m ps → put_in_order far (map blur ps) ≡ far ∷ map blur ps
unfolding Rising put_in_order
far_put m [] h r = refl
far_put m (p ∷ ps) h r =
    let e : blur p ≡ far = blur_far p (omega (arith, r.0)) in
    rw e (ap (λ t. far ∷ t) (far_put p.variable ps (omega (arith, r.0)) r.1))

far_first : (a b : Pair) (ps : List Pair) → a ≡ far → b ≡ far → put_in_order far ps ≡ far ∷ ps → a ∷ b ∷ ps ≡ put_in_order a (b ∷ ps)
unfolding put_in_order
far_first a b ps ea eb h =
    subst (λ (t : Pair). t ∷ b ∷ ps ≡ put_in_order t (b ∷ ps)) (sym ea)
    (subst (λ (t : Pair). far ∷ t ∷ ps ≡ put_in_order far (t ∷ ps)) (sym eb) (sym (ap (λ t. far ∷ t) h)))

-- a pair is put into the same place, blurred or not
blur_put : (m : ℕ) (p : Pair) (ps : List Pair) → Rising m ps → map blur (put_in_order p ps) ≡ put_in_order (blur p) (map blur ps)
unfolding Rising put_in_order
blur_put m p [] r = refl
blur_put m p (q ∷ qs) r =
    let vp = blur_variable p in
    let vq = blur_variable q in
    ⊎_elim
    (λ l.
    ⊎_elim
    (λ near. ap (map blur) (put_here p q qs l) ∙ sym (put_here (blur p) (blur q) (map blur qs) (omega (arith, vp, vq))))
    (λ beyond.
    let fp : blur p ≡ far = blur_far p beyond in
    let fq : blur q ≡ far = blur_far q (omega arith) in
    ap (map blur) (put_here p q qs l)
    ∙ far_first (blur p) (blur q) (map blur qs) fp fq (far_put q.variable qs (omega arith) r.1))
    (below_or p.variable (byte_values - 1)))
    (λ l.
    ap (map blur) (put_later p q qs l)
    ∙ ap (λ t. blur q ∷ t) (blur_put q.variable p qs r.1)
    ∙ sym (put_later (blur p) (blur q) (map blur qs) (omega (arith, vp, vq))))
    (below_or p.variable q.variable)

-- ---- tasks, and what has been stated

abbrev pub blur_action : Action → Action
blur_action a = record { preconditions = map blur a.preconditions; effects = map blur a.effects }

abbrev pub blur_task : Task → Task
blur_task T =
    record {
      sizes = map as_byte T.sizes;
      start = map as_byte T.start;
      goal = map blur T.goal;
      actions = map blur_action T.actions;
    }

abbrev pub blur_stated : Stated → Stated
blur_stated s = record { task = blur_task s.task; action = blur_action s.action }

-- each list of pairs that can still grow is in order
pub record Ordered (s : Stated) : Type 0 where
  pub goal : Rising 0 s.task.goal
  pub preconditions : Rising 0 s.action.preconditions
  pub effects : Rising 0 s.action.effects

pub ordered_nothing : Ordered nothing_stated
unfolding Rising
ordered_nothing = record { goal = record {}; preconditions = record {}; effects = record {} }

module _ (s : Stated) (o : Ordered s) where
  pub ordered_size : (m : ℕ) → Ordered (with_size m s)
  unfolding with_size
  ordered_size m = record { goal = o.goal; preconditions = o.preconditions; effects = o.effects }

  pub ordered_start : (m : ℕ) → Ordered (with_start m s)
  unfolding with_start
  ordered_start m = record { goal = o.goal; preconditions = o.preconditions; effects = o.effects }

  pub ordered_goal : (p : Pair) → Ordered (with_goal p s)
  unfolding with_goal
  ordered_goal p = record { goal = rising_put 0 p s.task.goal (omega arith) o.goal; preconditions = o.preconditions; effects = o.effects }

  pub ordered_precondition : (p : Pair) → Ordered (with_precondition p s)
  unfolding with_precondition
  ordered_precondition p =
      record { goal = o.goal; preconditions = rising_put 0 p s.action.preconditions (omega arith) o.preconditions; effects = o.effects }

  pub ordered_effect : (p : Pair) → Ordered (with_effect p s)
  unfolding with_effect
  ordered_effect p =
      record { goal = o.goal; preconditions = o.preconditions; effects = rising_put 0 p s.action.effects (omega arith) o.effects }

  pub ordered_action : Ordered (with_action s)
  unfolding with_action Rising
  ordered_action = record { goal = o.goal; preconditions = record {}; effects = record {} }

  -- what is stated more is stated blurred
  blur_size : (m : ℕ) → blur_stated (with_size m s) ≡ with_size (as_byte m) (blur_stated s)
  unfolding with_size
  blur_size m = rw (map-append as_byte s.task.sizes (m ∷ []))

  blur_start : (m : ℕ) → blur_stated (with_start m s) ≡ with_start (as_byte m) (blur_stated s)
  unfolding with_start
  blur_start m = rw (map-append as_byte s.task.start (m ∷ []))

  blur_goal : (p : Pair) → blur_stated (with_goal p s) ≡ with_goal (blur p) (blur_stated s)
  unfolding with_goal
  blur_goal p = rw (blur_put 0 p s.task.goal o.goal)

  blur_precondition : (p : Pair) → blur_stated (with_precondition p s) ≡ with_precondition (blur p) (blur_stated s)
  unfolding with_precondition
  blur_precondition p = rw (blur_put 0 p s.action.preconditions o.preconditions)

  blur_effect : (p : Pair) → blur_stated (with_effect p s) ≡ with_effect (blur p) (blur_stated s)
  unfolding with_effect
  blur_effect p = rw (blur_put 0 p s.action.effects o.effects)

  blur_action_lem : blur_stated (with_action s) ≡ with_action (blur_stated s)
  unfolding with_action
  blur_action_lem = rw (map-append blur_action s.task.actions (s.action ∷ []))

-- ---- two that are alike stay so, where one more is stated in both, in the first as bytes

module _ (t s : Stated) (ot : Ordered t) (os : Ordered s) (e : blur_stated t ≡ blur_stated s) where
  pub alike_size : (m : ℕ) → blur_stated (with_size (as_byte m) t) ≡ blur_stated (with_size m s)
  alike_size m = blur_size t ot (as_byte m) ∙ (λ i. with_size (as_byte-again m i) (e i)) ∙ sym (blur_size s os m)

  pub alike_start : (m : ℕ) → blur_stated (with_start (as_byte m) t) ≡ blur_stated (with_start m s)
  alike_start m = blur_start t ot (as_byte m) ∙ (λ i. with_start (as_byte-again m i) (e i)) ∙ sym (blur_start s os m)

  pub alike_goal : (p : Pair) → blur_stated (with_goal (byte_pair p) t) ≡ blur_stated (with_goal p s)
  alike_goal p = blur_goal t ot (byte_pair p) ∙ (λ i. with_goal (blur_kept p i) (e i)) ∙ sym (blur_goal s os p)

  pub alike_precondition : (p : Pair) → blur_stated (with_precondition (byte_pair p) t) ≡ blur_stated (with_precondition p s)
  alike_precondition p = blur_precondition t ot (byte_pair p) ∙ (λ i. with_precondition (blur_kept p i) (e i)) ∙ sym (blur_precondition s os p)

  pub alike_effect : (p : Pair) → blur_stated (with_effect (byte_pair p) t) ≡ blur_stated (with_effect p s)
  alike_effect p = blur_effect t ot (byte_pair p) ∙ (λ i. with_effect (blur_kept p i) (e i)) ∙ sym (blur_effect s os p)

  pub alike_action : blur_stated (with_action t) ≡ blur_stated (with_action s)
  alike_action = blur_action_lem t ot ∙ ap with_action e ∙ sym (blur_action_lem s os)
