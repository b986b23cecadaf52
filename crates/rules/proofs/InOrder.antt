-- Pairs put in rising order of variable: the order is the stable one, and there is no other.
-- Assumes nothing.
use mathlib.Core.Path.{◌≡◌, refl, sym, ap, ◌∙◌}
use mathlib.Core.Logic.{⊎_elim}
use mathlib.Core.List.{List, [], ◌∷◌, ◌++◌, foldl, append_assoc, append-nil, cons-ne-nil, head-eq_of_cons-eq, tail-eq_of_cons-eq}
use Prim.Native.Nat.{ℕ, zero, suc, ◌≤◌, ◌<◌}
use native.Mathlib.Omega.{arith}
use borrow.Author.Tests.{ltb-true, ltb-false, eqb-true, eq-eqb, ne_eqb}
use lib.Dec.{ltb, eqb}
use lib.ListN.{length, length-append}
use Rattle.rules.specs.Counting.{when}
use Rattle.rules.specs.Task.{Pair, pair}
use Rattle.rules.specs.Format.{put_in_order}
use Rattle.rules.proofs.Bools.{either, below_or}

-- ---- what an order is

-- no pair is below the one before it
abbrev pub Rising : List Pair → Type 0
Rising ps = (i : ℕ) → suc i < length ps → (pair ps i).variable ≤ (pair ps (suc i)).variable

-- the pairs of a variable, as they come
unfoldable pub pairs_of : ℕ → List Pair → List Pair
pairs_of x [] = []
pairs_of x (p ∷ ps) = when (eqb p.variable x) (p ∷ []) ++ pairs_of x ps

-- the pairs of each variable are those given, in the order in which they came
pub record StableOrder (given ordered : List Pair) : Type 0 where
  pub rises : Rising ordered
  pub as_many : length ordered ≡ length given
  pub as_they_came : (x : ℕ) → pairs_of x ordered ≡ pairs_of x given

-- a list put in order pair by pair
unfoldable pub all_in_order : List Pair → List Pair
all_in_order given = foldl (λ ps p. put_in_order p ps) [] given

-- ---- one pair

-- no pair is below x, nor below the one before it
unfoldable RisesFrom : ℕ → List Pair → Type 0
RisesFrom x [] = Unit {0}
RisesFrom x (p ∷ ps) = (x ≤ p.variable) × RisesFrom p.variable ps

rising_from : (x : ℕ) (ps : List Pair) → RisesFrom x ps → Rising ps
unfolding RisesFrom
rising_from x [] r i l = elim l [ ]
rising_from x (p ∷ []) r zero l = absurd (omega arith)
rising_from x (p ∷ q ∷ ps) r zero l = r.1.0
rising_from x (p ∷ ps) r (suc i) l = rising_from p.variable ps r.1 i (omega arith)

from_rising : (x : ℕ) (ps : List Pair) → (1 ≤ length ps → x ≤ (pair ps 0).variable) → Rising ps → RisesFrom x ps
unfolding RisesFrom
from_rising x [] h r = tt
from_rising x (p ∷ ps) h r = (h (omega arith), from_rising p.variable ps (λ l. r 0 (omega arith)) (λ i l. r (suc i) (omega arith)))

put_from : (x : ℕ) (p : Pair) (ps : List Pair) → x ≤ p.variable → RisesFrom x ps → RisesFrom x (put_in_order p ps)
unfolding put_in_order RisesFrom
put_from x p [] h r = (h, tt)
put_from x p (q ∷ ps) h r =
    ⊎_elim (λ t. rw t (h, (omega (arith, ltb-true p.variable q.variable t), r.1)))
    (λ t. rw t (r.0, put_from q.variable p ps (ltb-false p.variable q.variable t) r.1))
    (either (ltb p.variable q.variable))

pub put_rises : (p : Pair) (ps : List Pair) → Rising ps → Rising (put_in_order p ps)
put_rises p ps r = rising_from 0 (put_in_order p ps) (put_from 0 p ps (omega arith) (from_rising 0 ps (λ l. omega arith) r))

pub put_length : (p : Pair) (ps : List Pair) → length (put_in_order p ps) ≡ suc (length ps)
unfolding put_in_order
put_length p [] = refl
put_length p (q ∷ ps) =
    ⊎_elim (λ t. rw t refl) (λ t. rw t (ap suc (put_length p ps))) (either (ltb p.variable q.variable))

none_below : (x y : ℕ) (ps : List Pair) → x < y → RisesFrom y ps → pairs_of x ps ≡ []
unfolding RisesFrom pairs_of
none_below x y [] h r = refl
none_below x y (p ∷ ps) h r = rw (ne_eqb p.variable x (λ e. omega (arith, r.0))) (none_below x p.variable ps (omega (arith, r.0)) r.1)

put_front : (x : ℕ) (p : Pair) (ps : List Pair) → (p.variable ≡ x → pairs_of x ps ≡ []) → pairs_of x (p ∷ ps) ≡ pairs_of x ps ++ pairs_of x (p ∷ [])
unfolding pairs_of
put_front x p ps none =
    ⊎_elim (λ t. rw (t, none (eqb-true p.variable x t)) refl) (λ t. rw t (sym (append-nil (pairs_of x ps)))) (either (eqb p.variable x))

put_stable : (x y : ℕ) (p : Pair) (ps : List Pair) → RisesFrom y ps → pairs_of x (put_in_order p ps) ≡ pairs_of x ps ++ pairs_of x (p ∷ [])
unfolding put_in_order RisesFrom pairs_of
put_stable x y p [] r = refl
put_stable x y p (q ∷ ps) r =
    ⊎_elim (λ t. rw t
    (put_front x p (q ∷ ps) (λ e. none_below x q.variable (q ∷ ps) (omega (arith, ltb-true p.variable q.variable t)) (omega arith, r.1))))
    (λ t. rw t
    (ap (λ rest. when (eqb q.variable x) (q ∷ []) ++ rest) (put_stable x q.variable p ps r.1)
    ∙ sym (append_assoc (when (eqb q.variable x) (q ∷ [])) (pairs_of x ps) (pairs_of x (p ∷ [])))))
    (either (ltb p.variable q.variable))

-- behind the pairs of its variable that are there
pub put_behind : (x : ℕ) (p : Pair) (ps : List Pair) → Rising ps → pairs_of x (put_in_order p ps) ≡ pairs_of x ps ++ pairs_of x (p ∷ [])
put_behind x p ps r = put_stable x 0 p ps (from_rising 0 ps (λ l. omega arith) r)

-- ---- all pairs

pairs_append : (x : ℕ) (ps qs : List Pair) → pairs_of x (ps ++ qs) ≡ pairs_of x ps ++ pairs_of x qs
unfolding pairs_of
pairs_append x [] qs = refl
pairs_append x (p ∷ ps) qs =
    ap (λ rest. when (eqb p.variable x) (p ∷ []) ++ rest) (pairs_append x ps qs)
    ∙ sym (append_assoc (when (eqb p.variable x) (p ∷ [])) (pairs_of x ps) (pairs_of x qs))

-- a pair more
pub one_more_lem : (given ordered : List Pair) (p : Pair) → StableOrder given ordered → StableOrder (given ++ (p ∷ [])) (put_in_order p ordered)
one_more_lem given ordered p s =
    record {
      rises = put_rises p ordered s.rises;
      as_many = omega (arith, put_length p ordered, s.as_many, length-append given (p ∷ []));
      as_they_came = λ x.
          put_behind x p ordered s.rises
          ∙ ap (λ ps. ps ++ pairs_of x (p ∷ [])) (s.as_they_came x)
          ∙ sym (pairs_append x given (p ∷ []));
    }

in_order_from : (before ordered given : List Pair) → StableOrder before ordered → StableOrder (before ++ given) (foldl (λ ps p. put_in_order p ps) ordered given)
in_order_from before ordered [] s = rw (append-nil before) s
in_order_from before ordered (p ∷ given) s =
    rw (sym (append_assoc before (p ∷ []) given)) (in_order_from (before ++ (p ∷ [])) (put_in_order p ordered) given (one_more_lem before ordered p s))

pub all_in_order_lem : (given : List Pair) → StableOrder given (all_in_order given)
unfolding all_in_order
all_in_order_lem given = in_order_from [] [] given (record { rises = λ i l. absurd (omega arith); as_many = refl; as_they_came = λ x. refl })

-- ---- there is no other

own : (p : Pair) (ps : List Pair) → pairs_of p.variable (p ∷ ps) ≡ p ∷ pairs_of p.variable ps
unfolding pairs_of
own p ps = rw (eq-eqb p.variable p.variable refl)

same_rest : (x : ℕ) (p : Pair) (ps qs : List Pair) → pairs_of x (p ∷ ps) ≡ pairs_of x (p ∷ qs) → pairs_of x ps ≡ pairs_of x qs
unfolding pairs_of
same_rest x p ps qs = ⊎_elim (λ t. rw t (λ e. tail-eq_of_cons-eq e)) (λ t. rw t (λ e. e)) (either (eqb p.variable x))

-- the first pair is of the lowest variable
not_above : (p q : Pair) (ps qs : List Pair) → RisesFrom q.variable qs → pairs_of p.variable (p ∷ ps) ≡ pairs_of p.variable (q ∷ qs) → q.variable ≤ p.variable
unfolding RisesFrom
not_above p q ps qs r e =
    ⊎_elim (λ l. absurd (cons-ne-nil p (pairs_of p.variable ps) (sym (own p ps) ∙ e ∙ none_below p.variable q.variable (q ∷ qs) l (omega arith, r)))) (λ l. l)
    (below_or p.variable q.variable)

only_from : (x y : ℕ) (ps qs : List Pair) → RisesFrom x ps → RisesFrom y qs → ((z : ℕ) → pairs_of z ps ≡ pairs_of z qs) → ps ≡ qs
unfolding RisesFrom pairs_of
only_from x y [] [] r s e = refl
only_from x y [] (q ∷ qs) r s e = absurd (cons-ne-nil q (pairs_of q.variable qs) (sym (own q qs) ∙ sym (e q.variable)))
only_from x y (p ∷ ps) [] r s e = absurd (cons-ne-nil p (pairs_of p.variable ps) (sym (own p ps) ∙ e p.variable))
only_from x y (p ∷ ps) (q ∷ qs) r s e =
    let same : p.variable ≡ q.variable =
    omega (arith, not_above p q ps qs s.1 (e p.variable), not_above q p qs ps r.1 (sym (e q.variable))) in
    let first : p ≡ q = head-eq_of_cons-eq (sym (own p ps) ∙ e p.variable ∙ ap (λ z. pairs_of z (q ∷ qs)) same ∙ own q qs) in
    let rest : ps ≡ qs = only_from p.variable q.variable ps qs r.1 s.1 (λ z. same_rest z p ps qs (e z ∙ ap (λ a. pairs_of z (a ∷ qs)) (sym first))) in
    rw (first, rest)

-- any two stable orders of a list are one
pub only_order : (given ps qs : List Pair) → StableOrder given ps → StableOrder given qs → ps ≡ qs
only_order given ps qs s t =
    only_from 0 0 ps qs (from_rising 0 ps (λ l. omega arith) s.rises) (from_rising 0 qs (λ l. omega arith) t.rises)
    (λ x. s.as_they_came x ∙ sym (t.as_they_came x))
