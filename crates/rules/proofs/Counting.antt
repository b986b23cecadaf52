-- Laws of counting: the first number of which something holds, lists made for each number, and what holds of each or of any of their elements.
-- Assumes nothing.
use mathlib.Core.Path.{◌≡◌, refl, sym, ap, ◌∙◌}
use mathlib.Core.Logic.{◌⊎◌, inl, inr, ⊎_elim}
use mathlib.Core.Bool.{Bool, true, false}
use mathlib.Core.List.{List, [], ◌∷◌, ◌++◌, map, append-nil, append_assoc}
use Prim.Native.Nat.{ℕ, zero, suc, ◌+◌, ◌-◌, ◌*◌, ◌≤◌, ◌<◌}
use native.Mathlib.Omega.{arith}
use native.Mathlib.Nat.{suc-mul, zero-mul, mul-add}
use borrow.Author.Tests.{lt-ltb, le-ltb, eqb-true, eq-eqb}
use lib.Dec.{eqb}
use lib.ListN.{length, get_or, take, drop, length-append, get_or-append}
use lib.Seq.{get_or-append-add, take-append_seam, drop-append-add}
use Rattle.rules.specs.Counting.{sum_to, first, for_each, table, for_pairs, when, every, any, joined}
use Rattle.rules.proofs.Bools.{either, clash, and_left, and_right, and_both, or_cases, or_left, or_right, below_or, below_suc}

-- ---- the first number

-- the first number below suc m, where there is one below m, where m is it, and where there is none
first_old : (m : ℕ) (p : ℕ → Bool) → first m p < m → first (suc m) p ≡ first m p
unfolding first
first_old m p h = rw (lt-ltb _ _ h)

first_new : (m : ℕ) (p : ℕ → Bool) → m ≤ first m p → p m ≡ true → first (suc m) p ≡ m
unfolding first
first_new m p h t = rw (le-ltb _ _ h, t)

first_not : (m : ℕ) (p : ℕ → Bool) → m ≤ first m p → p m ≡ false → first (suc m) p ≡ suc m
unfolding first
first_not m p h t = rw (le-ltb _ _ h, t)

first_cases : (m : ℕ) (p : ℕ → Bool) (Q : ℕ → Type 0)
    → (first m p < m → Q (first m p)) → (m ≤ first m p → p m ≡ true → Q m) → (m ≤ first m p → p m ≡ false → Q (suc m)) → Q (first (suc m) p)
first_cases m p Q old new none =
    ⊎_elim (λ h. rw (first_old m p h) (old h))
    (λ h. ⊎_elim (λ t. rw (first_new m p h t) (new h t)) (λ t. rw (first_not m p h t) (none h t)) (either (p m)))
    (below_or (first m p) m)

pub first_le : (m : ℕ) (p : ℕ → Bool) → first m p ≤ m
unfolding first
first_le zero p = omega arith
first_le (suc m) p =
    first_cases m p (λ f. f ≤ suc m) (λ h. omega arith) (λ h t. omega arith) (λ h t. omega arith)

-- what it says of the numbers before it
pub first_before : (m : ℕ) (p : ℕ → Bool) (i : ℕ) → i < first m p → p i ≡ false
unfolding first
first_before zero p = λ i h. absurd (omega arith)
first_before (suc m) p =
    first_cases m p (λ f. (i : ℕ) → i < f → p i ≡ false)
    (λ h. first_before m p)
    (λ h t i l. first_before m p i (omega arith))
    (λ h t i l. ⊎_elim (λ b. first_before m p i (omega arith)) (λ e. ap p e ∙ t) (below_suc i m l))

-- what it says of itself
pub first_at : (m : ℕ) (p : ℕ → Bool) → first m p < m → p (first m p) ≡ true
unfolding first
first_at zero p = λ h. absurd (omega arith)
first_at (suc m) p =
    first_cases m p (λ f. f < suc m → p f ≡ true) (λ h l. first_at m p h) (λ h t l. t) (λ h t l. absurd (omega arith))

pub first_none : (m : ℕ) (p : ℕ → Bool) → ((i : ℕ) → i < m → p i ≡ false) → first m p ≡ m
first_none m p h =
    ⊎_elim (λ l. clash (first_at m p l) (h (first m p) l)) (λ l. omega (arith, first_le m p)) (below_or (first m p) m)

pub first_is : (m : ℕ) (p : ℕ → Bool) (i : ℕ) → i < m → p i ≡ true → ((j : ℕ) → j < i → p j ≡ false) → first m p ≡ i
first_is m p i h t b =
    ⊎_elim (λ l. clash t (first_before m p i l))
    (λ l. ⊎_elim (λ r. clash (first_at m p (omega arith)) (b (first m p) r)) (λ r. omega arith) (below_or (first m p) i))
    (below_or i (first m p))

-- the test that there is none
pub none_at : (m : ℕ) (p : ℕ → Bool) → eqb (first m p) m ≡ true → (i : ℕ) → i < m → p i ≡ false
none_at m p h i l = first_before m p i (omega (arith, eqb-true (first m p) m h))

pub none_test : (m : ℕ) (p : ℕ → Bool) → ((i : ℕ) → i < m → p i ≡ false) → eqb (first m p) m ≡ true
none_test m p h = eq-eqb _ _ (first_none m p h)

-- equal tests have equal firsts
pub first_ext : (m : ℕ) (p q : ℕ → Bool) → ((i : ℕ) → i < m → p i ≡ q i) → first m p ≡ first m q
unfolding first
first_ext zero p q h = refl
first_ext (suc m) p q h = let e : first m p ≡ first m q = first_ext m p q (λ i l. h i (omega arith)) in rw (e, h m (omega arith))

-- ---- sums

pub sum_to-ext : (m : ℕ) (w u : ℕ → ℕ) → ((i : ℕ) → i < m → w i ≡ u i) → sum_to m w ≡ sum_to m u
unfolding sum_to
sum_to-ext zero w u h = refl
sum_to-ext (suc m) w u h = omega (arith, sum_to-ext m w u (λ i l. h i (omega arith)), h m (omega arith))

pub sum_to-le : (m : ℕ) (w u : ℕ → ℕ) → ((i : ℕ) → i < m → w i ≤ u i) → sum_to m w ≤ sum_to m u
unfolding sum_to
sum_to-le zero w u h = omega arith
sum_to-le (suc m) w u h = omega (arith, sum_to-le m w u (λ i l. h i (omega arith)), h m (omega arith))

pub sum_to-const : (m c : ℕ) → sum_to m (λ i. c) ≡ m * c
unfolding sum_to
sum_to-const zero c = omega (arith, zero-mul c)
sum_to-const (suc m) c = omega (arith, sum_to-const m c, suc-mul m c)

pub sum_to-most : (m c : ℕ) (w : ℕ → ℕ) → ((i : ℕ) → i < m → w i ≤ c) → sum_to m w ≤ m * c
sum_to-most m c w h = omega (arith, sum_to-le m w (λ i. c) h, sum_to-const m c)

pub sum_to-scale : (m c : ℕ) (w : ℕ → ℕ) → sum_to m (λ i. c * w i) ≡ c * sum_to m w
unfolding sum_to
sum_to-scale zero c w = omega arith
sum_to-scale (suc m) c w = omega (arith, sum_to-scale m c w, mul-add c (sum_to m w) (w m))

-- a part of a sum, with what is added at its end, is within the sum
pub sum_to-part : (m : ℕ) (w : ℕ → ℕ) (i : ℕ) → i < m → sum_to i w + w i ≤ sum_to m w
unfolding sum_to
sum_to-part zero w i h = absurd (omega arith)
sum_to-part (suc m) w i h = ⊎_elim (λ l. omega (arith, sum_to-part m w i l)) (λ e. rw e (omega arith)) (below_suc i m h)

-- a sum to which nothing more is added
pub sum_to-flat : (w : ℕ → ℕ) (m k : ℕ) → m ≤ k → ((i : ℕ) → m ≤ i → w i ≡ 0) → sum_to k w ≡ sum_to m w
unfolding sum_to
sum_to-flat w m zero h z = let e : m ≡ 0 = omega arith in rw e
sum_to-flat w m (suc k) h z =
    ⊎_elim (λ l. omega (arith, sum_to-flat w m k (omega arith) z, z k (omega arith))) (λ l. let e : m ≡ suc k = omega arith in rw e) (below_or m (suc k))

-- a number below a sum lies in one summand, at one place
pub record Located (m : ℕ) (w : ℕ → ℕ) (i : ℕ) : Type 0 where
  pub part : ℕ
  pub place : ℕ
  pub part_below : part < m
  pub place_below : place < w part
  pub is : i ≡ sum_to part w + place

pub locate : (m : ℕ) (w : ℕ → ℕ) (i : ℕ) → i < sum_to m w → Located m w i
unfolding sum_to
locate zero w i h = absurd (omega arith)
locate (suc m) w i h =
    ⊎_elim
    (λ l.
    let r : Located m w i = locate m w i l in
    record { part = r.part; place = r.place; part_below = omega arith; place_below = r.place_below; is = r.is })
    (λ l. record { part = m; place = i - sum_to m w; part_below = omega arith; place_below = omega arith; is = omega arith })
    (below_or i (sum_to m w))

-- and the summand and the place are told by the number
pub same_part : (w : ℕ → ℕ) (i j a b : ℕ) → a < w i → b < w j → sum_to i w + a ≡ sum_to j w + b → i ≡ j
same_part w i j a b ha hb e =
    ⊎_elim (λ l. absurd (omega (arith, sum_to-part j w i l)))
    (λ l. ⊎_elim (λ r. absurd (omega (arith, sum_to-part i w j r))) (λ r. omega arith) (below_or j i))
    (below_or i j)

-- a sum from its front
pub sum_to-front : (m : ℕ) (w : ℕ → ℕ) → sum_to (suc m) w ≡ w 0 + sum_to m (λ i. w (suc i))
unfolding sum_to
sum_to-front zero w = omega arith
sum_to-front (suc m) w = omega (arith, sum_to-front m w)

-- ---- lists made for each number

module _ {X : Type 0} where
  pub length-for_each : (m : ℕ) (f : ℕ → List X) → length (for_each m f) ≡ sum_to m (λ i. length (f i))
  unfolding for_each sum_to
  length-for_each zero f = refl
  length-for_each (suc m) f = length-append (for_each m f) (f m) ∙ ap (λ l. l + length (f m)) (length-for_each m f)

  pub length-table : (m : ℕ) (f : ℕ → X) → length (table m f) ≡ m
  length-table m f = length-for_each m (λ i. f i ∷ []) ∙ omega (arith, sum_to-const m 1)

  pub for_each-ext : (m : ℕ) (f g : ℕ → List X) → ((i : ℕ) → i < m → f i ≡ g i) → for_each m f ≡ for_each m g
  unfolding for_each
  for_each-ext zero f g h = refl
  for_each-ext (suc m) f g h = rw (for_each-ext m f g (λ i l. h i (omega arith)), h m (omega arith))

  -- place j of what i made stands behind all that the numbers before i made
  pub get_or-for_each : (m : ℕ) (f : ℕ → List X) (z : X) (i j : ℕ) → i < m → j < length (f i)
      → get_or (for_each m f) (sum_to i (λ i. length (f i)) + j) z ≡ get_or (f i) j z
  unfolding for_each
  get_or-for_each zero f z i j h l = absurd (omega arith)
  get_or-for_each (suc m) f z i j h l =
      let w : ℕ → ℕ = λ i. length (f i) in
      ⊎_elim
      (λ b.
      get_or-append (for_each m f) (f m) z (sum_to i w + j) (omega (arith, length-for_each m f, sum_to-part m w i b))
      ∙ get_or-for_each m f z i j b l)
      (λ e.
      ap (λ k. get_or (for_each m f ++ f m) (k + j) z) (ap (λ k. sum_to k w) e ∙ sym (length-for_each m f))
      ∙ get_or-append-add (for_each m f) (f m) j z
      ∙ ap (λ k. get_or (f k) j z) (sym e))
      (below_suc i m h)

  pub get_or-table : (m : ℕ) (f : ℕ → X) (z : X) (i : ℕ) → i < m → get_or (table m f) i z ≡ f i
  get_or-table m f z i h =
      ap (λ k. get_or (table m f) k z) (omega (arith, sum_to-const i 1)) ∙ get_or-for_each m (λ i. f i ∷ []) z i 0 h (omega arith)

  -- the same from the front
  pub for_each-front : (m : ℕ) (f : ℕ → List X) → for_each (suc m) f ≡ f 0 ++ for_each m (λ i. f (suc i))
  unfolding for_each
  for_each-front zero f = sym (append-nil (f 0))
  for_each-front (suc m) f = ap (λ l. l ++ f (suc m)) (for_each-front m f) ∙ append_assoc (f 0) (for_each m (λ i. f (suc i))) (f (suc m))

  pub for_each-joined : {Y : Type 0} (f : Y → List X) (l : List Y) (z : Y) → for_each (length l) (λ i. f (get_or l i z)) ≡ joined (map f l)
  unfolding for_each joined
  for_each-joined f [] z = refl
  for_each-joined f (y ∷ l) z = for_each-front (length l) (λ i. f (get_or (y ∷ l) i z)) ∙ ap (λ r. f y ++ r) (for_each-joined f l z)

  -- a list is made of its elements
  pub table_get_or : (l : List X) (z : X) → table (length l) (λ i. get_or l i z) ≡ l
  unfolding for_each
  table_get_or [] z = refl
  table_get_or (x ∷ l) z = for_each-front (length l) (λ i. get_or (x ∷ l) i z ∷ []) ∙ ap (λ r. x ∷ r) (table_get_or l z)

  -- ---- lists one behind the other

  pub length-joined : (ls : List (List X)) → length (joined ls) ≡ sum_to (length ls) (λ i. length (get_or ls i []))
  unfolding joined sum_to
  length-joined [] = refl
  length-joined (l ∷ ls) =
      omega (arith, length-append l (joined ls), length-joined ls, sum_to-front (length ls) (λ i. length (get_or (l ∷ ls) i [])))

  -- list r stands behind all the lists before it
  pub part_joined : (ls : List (List X)) (r : ℕ)
      → take (length (get_or ls r [])) (drop (sum_to r (λ i. length (get_or ls i []))) (joined ls)) ≡ get_or ls r []
  unfolding joined sum_to
  part_joined [] r = refl
  part_joined (l ∷ ls) zero = take-append_seam l (joined ls)
  part_joined (l ∷ ls) (suc r) =
      rw (sum_to-front r (λ i. length (get_or (l ∷ ls) i [])), drop-append-add l (joined ls) (sum_to r (λ i. length (get_or ls i []))))
      (part_joined ls r)

  -- ---- what holds of each element

  pub every_append : (p : X → Bool) (l r : List X) → every p l ≡ true → every p r ≡ true → every p (l ++ r) ≡ true
  unfolding every
  every_append p [] r h k = k
  every_append p (x ∷ l) r h k = and_both _ _ (and_left (p x) (every p l) h) (every_append p l r (and_right (p x) (every p l) h) k)

  pub every_left : (p : X → Bool) (l r : List X) → every p (l ++ r) ≡ true → every p l ≡ true
  unfolding every
  every_left p [] r h = refl
  every_left p (x ∷ l) r h = and_both _ _ (and_left (p x) (every p (l ++ r)) h) (every_left p l r (and_right (p x) (every p (l ++ r)) h))

  pub every_right : (p : X → Bool) (l r : List X) → every p (l ++ r) ≡ true → every p r ≡ true
  unfolding every
  every_right p [] r h = h
  every_right p (x ∷ l) r h = every_right p l r (and_right (p x) (every p (l ++ r)) h)

  pub every_for_each : (p : X → Bool) (m : ℕ) (f : ℕ → List X) → ((i : ℕ) → i < m → every p (f i) ≡ true) → every p (for_each m f) ≡ true
  unfolding for_each every
  every_for_each p zero f h = refl
  every_for_each p (suc m) f h = every_append p (for_each m f) (f m) (every_for_each p m f (λ i l. h i (omega arith))) (h m (omega arith))

  pub each_of : (p : X → Bool) (m : ℕ) (f : ℕ → List X) → every p (for_each m f) ≡ true → (i : ℕ) → i < m → every p (f i) ≡ true
  unfolding for_each
  each_of p zero f h i l = absurd (omega arith)
  each_of p (suc m) f h i l =
      ⊎_elim (λ b. each_of p m f (every_left p (for_each m f) (f m) h) i b)
      (λ e. ap (λ k. every p (f k)) e ∙ every_right p (for_each m f) (f m) h)
      (below_suc i m l)

  pub every_get_or : (p : X → Bool) (l : List X) (z : X) → every p l ≡ true → (i : ℕ) → i < length l → p (get_or l i z) ≡ true
  unfolding every
  every_get_or p [] z h i b = absurd (omega arith)
  every_get_or p (x ∷ l) z h zero b = and_left (p x) (every p l) h
  every_get_or p (x ∷ l) z h (suc i) b = every_get_or p l z (and_right (p x) (every p l) h) i (omega arith)

  pub every_by : (p : X → Bool) (l : List X) (z : X) → ((i : ℕ) → i < length l → p (get_or l i z) ≡ true) → every p l ≡ true
  unfolding every
  every_by p [] z h = refl
  every_by p (x ∷ l) z h = and_both _ _ (h 0 (omega arith)) (every_by p l z (λ i b. h (suc i) (omega arith)))

  -- ---- what holds of any element

  pub any_left : (p : X → Bool) (l r : List X) → any p l ≡ true → any p (l ++ r) ≡ true
  unfolding any
  any_left p [] r h = clash h refl
  any_left p (x ∷ l) r h =
      ⊎_elim (λ t. or_left (p x) (any p (l ++ r)) t) (λ t. or_right (p x) (any p (l ++ r)) (any_left p l r t)) (or_cases (p x) (any p l) h)

  pub any_right : (p : X → Bool) (l r : List X) → any p r ≡ true → any p (l ++ r) ≡ true
  unfolding any
  any_right p [] r h = h
  any_right p (x ∷ l) r h = or_right (p x) (any p (l ++ r)) (any_right p l r h)

  pub any_append : (p : X → Bool) (l r : List X) → any p (l ++ r) ≡ true → (any p l ≡ true) ⊎ (any p r ≡ true)
  unfolding any
  any_append p [] r h = inr h
  any_append p (x ∷ l) r h =
      ⊎_elim (λ t. inl (or_left (p x) (any p l) t))
      (λ t. ⊎_elim (λ u. inl (or_right (p x) (any p l) u)) (λ u. inr u) (any_append p l r t))
      (or_cases (p x) (any p (l ++ r)) h)

  pub any_for_each : (p : X → Bool) (m : ℕ) (f : ℕ → List X) (i : ℕ) → i < m → any p (f i) ≡ true → any p (for_each m f) ≡ true
  unfolding for_each
  any_for_each p zero f i l h = absurd (omega arith)
  any_for_each p (suc m) f i l h =
      ⊎_elim (λ b. any_left p (for_each m f) (f m) (any_for_each p m f i b h))
      (λ e. any_right p (for_each m f) (f m) (ap (λ k. any p (f k)) (sym e) ∙ h))
      (below_suc i m l)

  pub one_of : (p : X → Bool) (m : ℕ) (f : ℕ → List X) → any p (for_each m f) ≡ true → (i : ℕ) × (i < m) × (any p (f i) ≡ true)
  unfolding for_each any
  one_of p zero f h = clash h refl
  one_of p (suc m) f h =
      ⊎_elim (λ t. let r : (i : ℕ) × (i < m) × (any p (f i) ≡ true) = one_of p m f t in (r.0, omega arith, r.2))
      (λ t. (m, omega arith, t))
      (any_append p (for_each m f) (f m) h)

  pub any_at : (p : X → Bool) (l : List X) (z : X) (i : ℕ) → i < length l → p (get_or l i z) ≡ true → any p l ≡ true
  unfolding any
  any_at p [] z i b h = absurd (omega arith)
  any_at p (x ∷ l) z zero b h = or_left (p x) (any p l) h
  any_at p (x ∷ l) z (suc i) b h = or_right (p x) (any p l) (any_at p l z i (omega arith) h)

  pub any_where : (p : X → Bool) (l : List X) (z : X) → any p l ≡ true → (i : ℕ) × (i < length l) × (p (get_or l i z) ≡ true)
  unfolding any
  any_where p [] z h = clash h refl
  any_where p (x ∷ l) z h =
      ⊎_elim (λ t. (0, omega arith, t))
      (λ t. let r : (i : ℕ) × (i < length l) × (p (get_or l i z) ≡ true) = any_where p l z t in (suc r.0, omega arith, r.2))
      (or_cases (p x) (any p l) h)

  -- ---- tables, pairs and lists of lists

  pub every_one : (p : X → Bool) (x : X) → p x ≡ true → every p (x ∷ []) ≡ true
  unfolding every
  every_one p x h = and_both (p x) true h refl

  pub the_one : (p : X → Bool) (x : X) → every p (x ∷ []) ≡ true → p x ≡ true
  unfolding every
  the_one p x h = and_left (p x) true h

  pub every_table : (p : X → Bool) (m : ℕ) (f : ℕ → X) → ((i : ℕ) → i < m → p (f i) ≡ true) → every p (table m f) ≡ true
  every_table p m f h = every_for_each p m (λ i. f i ∷ []) (λ i l. every_one p (f i) (h i l))

  pub each_in_table : (p : X → Bool) (m : ℕ) (f : ℕ → X) → every p (table m f) ≡ true → (i : ℕ) → i < m → p (f i) ≡ true
  each_in_table p m f h i l = the_one p (f i) (each_of p m (λ i. f i ∷ []) h i l)

  pub every_pair : (p : X → Bool) (m : ℕ) (f : ℕ → ℕ → List X)
      → ((i j : ℕ) → i < j → j < m → every p (f i j) ≡ true) → every p (for_pairs m f) ≡ true
  unfolding for_pairs
  every_pair p m f h =
      every_for_each p m (λ i. for_each (m - suc i) (λ j. f i (suc i + j))) (λ i l.
      every_for_each p (m - suc i) (λ j. f i (suc i + j)) (λ j b. h i (suc i + j) (omega arith) (omega arith)))

  pub each_pair : (p : X → Bool) (m : ℕ) (f : ℕ → ℕ → List X) → every p (for_pairs m f) ≡ true
      → (i j : ℕ) → i < j → j < m → every p (f i j) ≡ true
  unfolding for_pairs
  each_pair p m f h i j l b =
      let e : j ≡ suc i + (j - suc i) = omega arith in
      ap (λ t. every p (f i t)) e
      ∙ each_of p (m - suc i) (λ j. f i (suc i + j))
      (each_of p m (λ i. for_each (m - suc i) (λ j. f i (suc i + j))) h i (omega arith)) (j - suc i) (omega arith)

  pub every_when : (p : X → Bool) (b : Bool) (l : List X) → (b ≡ true → every p l ≡ true) → every p (when b l) ≡ true
  unfolding every
  every_when p true l h = h refl
  every_when p false l h = refl

  pub each_when : (p : X → Bool) (b : Bool) (l : List X) → every p (when b l) ≡ true → b ≡ true → every p l ≡ true
  each_when p b l h t = rw t at h

  pub each_joined : (p : X → Bool) (ls : List (List X)) → every p (joined ls) ≡ true → (i : ℕ) → i < length ls → every p (get_or ls i []) ≡ true
  unfolding joined
  each_joined p [] h i l = absurd (omega arith)
  each_joined p (l ∷ ls) h zero b = every_left p l (joined ls) h
  each_joined p (l ∷ ls) h (suc i) b = each_joined p ls (every_right p l (joined ls) h) i (omega arith)

  pub every_joined : (p : X → Bool) (ls : List (List X)) → every (every p) ls ≡ true → every p (joined ls) ≡ true
  unfolding every joined
  every_joined p [] h = refl
  every_joined p (l ∷ ls) h =
      every_append p l (joined ls) (and_left (every p l) (every (every p) ls) h) (every_joined p ls (and_right (every p l) (every (every p) ls) h))
