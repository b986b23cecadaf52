-- Supporters: whether an action gives a value, and the literals of those that do.
-- Assumes nothing.
use mathlib.Core.Path.{◌≡◌, refl, sym, ap, ◌∙◌}
use mathlib.Core.Logic.{⊎_elim}
use mathlib.Core.Bool.{Bool, true, false, ◌&&◌}
use mathlib.Core.List.{List, [], ◌∷◌, ◌++◌}
use Prim.Native.Nat.{ℕ, zero, suc, ◌+◌, ◌≤◌, ◌<◌}
use native.Mathlib.Omega.{arith}
use native.Mathlib.Numerals.{add-one}
use lib.Dec.{eqb}
use lib.IntN.{ℤ}
use lib.ListN.{length, get_or, length-append}
use Rattle.std.specs.List.{list_any, filter, range_with_len}
use Rattle.std.proofs.lemmas.List.Elements.{filter-append}
use Rattle.std.proofs.lemmas.List.FromFn.{length-range_with_len}
use Rattle.std.proofs.lemmas.List.Sums.{length-filter, count_by-le-length}
use Rattle.rules.specs.Counting.{any, for_each}
use Rattle.rules.specs.Task.{Task, A, pair, action}
use Rattle.rules.specs.Problem.{Problem}
use Rattle.rules.specs.Numbering.{action_number}
use Rattle.rules.specs.Families.{plus, supporters}
use Rattle.rules.proofs.Bools.{either}
use Rattle.rules.proofs.Counting.{sum_to-part, length-for_each}
use Rattle.formula.specs.Front.{written, gives_by, is_given, supporter, supporters_to}
use Rattle.formula.proofs.Writing.{written_on, written_none, length-written}

-- ---- whether an action gives a value

module _ (T : Task) (a b : ℕ) (eb : b ≡ a) where
  pub action_there : a < A T → b < A T
  action_there h = rw eb h

  pub effect_there : (i : ℕ) → i < length (action T a).effects → i < length (action T b).effects
  effect_there i h = rw eb h

  pub effects_there : (m : ℕ) → m ≡ length (action T b).effects → m ≡ length (action T a).effects
  effects_there m e = e ∙ rw eb

  pub gives_pair : (x v i y w : ℕ) (r : Bool) → r ≡ (eqb y x && eqb w v) → y ≡ (pair (action T b).effects i).variable
      → w ≡ (pair (action T b).effects i).value → r ≡ gives_by T a x v i
  unfolding gives_by
  gives_pair x v i y w r e ey ew = e ∙ rw (ey, ew, eb)

-- a test of places asked at each place of a list is the test of its elements asked of the list
any_by_place : {X : Type 0} (f : X → Bool) (d : X) (g : ℕ → Bool) (base : ℕ) → (xs : List X) → ((i : ℕ) → i < length xs → g (base + i) ≡ f (get_or xs i d))
    → list_any g (range_with_len base (length xs)) ≡ any f xs
unfolding any
any_by_place f d g base [] h = refl
any_by_place f d g base (x ∷ xs) h =
    let here : g base ≡ f x = ap g (omega arith) ∙ h 0 (omega arith) in
    let behind : list_any g (range_with_len (base + 1) (length xs)) ≡ any f xs =
    any_by_place f d g (base + 1) xs (λ i l. ap g (omega arith) ∙ h (suc i) (omega arith)) in rw (here, behind)

-- a range counted from the back
range_behind : (a n : ℕ) → range_with_len a (suc n) ≡ range_with_len a n ++ ((a + n) ∷ [])
range_behind a zero = ap (λ k. k ∷ []) (omega arith)
range_behind a (suc n) = ap (λ l. a ∷ l) (range_behind (a + 1) n ∙ ap (λ k. range_with_len (a + 1) n ++ (k ∷ [])) (omega arith))

range_back : (n : ℕ) → range_with_len 0 (suc n) ≡ range_with_len 0 n ++ (n ∷ [])
range_back n = range_behind 0 n ∙ ap (λ k. range_with_len 0 n ++ (k ∷ [])) (omega arith)

module _ (T : Task) (a x v : ℕ) where
  pub given_by_any : (m : ℕ) → m ≡ length (action T a).effects → list_any (gives_by T a x v) (range_with_len 0 m) ≡ is_given T a x v
  unfolding gives_by is_given
  given_by_any m e = rw e (any_by_place _ (record { variable = 0; value = 0 }) (gives_by T a x v) 0 (action T a).effects (λ i l. let none : 0 + i ≡ i = omega arith in ap (gives_by T a x v) none))

-- ---- the literals of the actions that do

module _ (P : Problem) (s x v : ℕ) where
  module _ (a : ℕ) (b : Bool) (e : b ≡ is_given P.task a x v) where
    given : b ≡ true → supporter P s x v a ≡ plus (action_number P s a) ∷ []
    unfolding supporter
    given t = rw (sym e ∙ t)

    not_given : b ≡ false → supporter P s x v a ≡ []
    unfolding supporter
    not_given t = rw (sym e ∙ t)

    pub given_one : b ≡ true → 1 ≡ length (supporter P s x v a)
    given_one t = ap length (sym (given t))

    pub given_none : b ≡ false → 0 ≡ length (supporter P s x v a)
    given_none t = ap length (sym (not_given t))

    pub given_room : (at room : ℕ) → b ≡ true → at + length (supporter P s x v a) ≤ room → at < room
    given_room at room t h = omega (arith, given_one t)

    pub given_written : (lent out : List ℤ) (at number : ℕ) → b ≡ true → number ≡ action_number P s a
        → out ≡ written lent at (plus number ∷ []) → out ≡ written lent at (supporter P s x v a)
    given_written lent out at number t en h = h ∙ ap (λ n. written lent at (plus n ∷ [])) en ∙ ap (written lent at) (sym (given t))

    pub given_behind : (at : ℕ) → b ≡ true → at + 1 ≡ at + length (supporter P s x v a)
    given_behind at t = ap (λ m. at + m) (given_one t)

    pub none_written : (lent : List ℤ) (at : ℕ) → b ≡ false → lent ≡ written lent at (supporter P s x v a)
    none_written lent at t = written_none lent at ∙ ap (written lent at) (sym (not_given t))

    pub none_behind : (at : ℕ) → b ≡ false → at ≡ at + length (supporter P s x v a)
    none_behind at t = omega (arith, given_none t)

  pub supporters_all : (m : ℕ) → m ≡ A P.task → supporters_to P s x v m ≡ supporters P s x v
  unfolding supporters_to supporter is_given supporters
  supporters_all m e = rw e

  -- a count of them
  count_none : 0 ≡ length (supporters_to P s x v 0)
  unfolding supporters_to for_each
  count_none = refl

  supporters_next : (a : ℕ) → supporters_to P s x v (suc a) ≡ supporters_to P s x v a ++ supporter P s x v a
  unfolding supporters_to for_each
  supporters_next a = refl

  length-next : (a : ℕ) → length (supporters_to P s x v (suc a)) ≡ length (supporters_to P s x v a) + length (supporter P s x v a)
  length-next a = ap length (supporters_next a) ∙ length-append (supporters_to P s x v a) (supporter P s x v a)

  count_kept : (m : ℕ) → length (filter (λ a. is_given P.task a x v) (range_with_len 0 m)) ≡ length (supporters_to P s x v m)
  count_kept zero = count_none
  count_kept (suc m) =
      let p : ℕ → Bool = λ a. is_given P.task a x v in
      let last : length (filter p (m ∷ [])) ≡ length (supporter P s x v m) =
      ⊎_elim (λ t. rw t (given_one m (p m) refl t)) (λ t. rw t (given_none m (p m) refl t)) (either (p m)) in
      ap (λ l. length (filter p l)) (range_back m) ∙ ap length (filter-append p (range_with_len 0 m) (m ∷ []))
      ∙ length-append (filter p (range_with_len 0 m)) (filter p (m ∷ [])) ∙ omega (arith, count_kept m, last, length-next m)

  module _ (m count : ℕ) (em : m ≡ A P.task) (e : count ≡ length (filter (λ a. is_given P.task a x v) (range_with_len 0 m))) where
    pub count_all : count ≡ length (supporters P s x v)
    count_all = e ∙ count_kept m ∙ ap length (supporters_all m em)

    pub count_few : count ≤ A P.task
    count_few = omega (arith, length-filter (λ a. is_given P.task a x v) (range_with_len 0 m), count_by-le-length (λ a. is_given P.task a x v) (range_with_len 0 m), length-range_with_len 0 m)

  -- those of a part of the actions are not more than all
  part : (a : ℕ) → a < A P.task → length (supporters_to P s x v a) + length (supporter P s x v a) ≤ length (supporters P s x v)
  unfolding supporters_to
  part a h =
      omega (
        arith,
        sum_to-part (A P.task) (λ a. length (supporter P s x v a)) a h,
        length-for_each a (supporter P s x v),
        length-for_each (A P.task) (supporter P s x v),
        ap length (supporters_all (A P.task) refl),
      )

  -- the literals of the first a actions stand from a place on
  pub record SupportersPut (lent out : List ℤ) (from a at : ℕ) : Type 0 where
    pub room : from + length (supporters P s x v) ≤ length lent
    pub room_still : length out ≡ length lent
    pub behind : at ≡ from + length (supporters_to P s x v a)
    pub are : out ≡ written lent from (supporters_to P s x v a)

  pub put_none : (lent : List ℤ) (from : ℕ) → from + length (supporters P s x v) ≤ length lent → SupportersPut lent lent from 0 from
  unfolding supporters_to for_each
  put_none lent from h = record { room = h; room_still = refl; behind = omega arith; are = written_none lent from }

  module _ (lent out : List ℤ) (from a at : ℕ) (p : SupportersPut lent out from a at) where
    pub put_room : (m : ℕ) → m ≡ A P.task → a < m → at + length (supporter P s x v a) ≤ length out
    put_room m em h = omega (arith, p, part a (omega arith))

    pub put_next : (next : List ℤ) (m behind : ℕ) → m ≡ A P.task → a < m → next ≡ written out at (supporter P s x v a)
        → behind ≡ at + length (supporter P s x v a) → SupportersPut lent next from (a + 1) behind
    put_next next m behind em h en eb =
        rw (add-one a)
        (record {
          room = p.room;
          room_still = length-written out next at (supporter P s x v a) (put_room m em h) en ∙ p.room_still;
          behind = omega (arith, p.behind, length-next a);
          are = written_on lent out next from at (supporters_to P s x v a) (supporter P s x v a) p.are p.behind en ∙ ap (written lent from) (sym (supporters_next a));
        })

    pub put_all : (m : ℕ) → m ≡ A P.task → m ≤ a → a ≤ m → out ≡ written lent from (supporters P s x v)
    put_all m em h l = let all : a ≡ A P.task = omega arith in p.are ∙ ap (written lent from) (supporters_all a all)
