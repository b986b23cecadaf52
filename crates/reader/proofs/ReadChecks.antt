-- The ways out of the functions that judge sizes, start values and pairs.
-- Assumes nothing.
use mathlib.Core.Path.{◌≡◌, refl, sym, ap, ◌∙◌}
use mathlib.Core.Logic.{⊎_elim}
use mathlib.Core.Bool.{Bool, true, false, not, ◌&&◌}
use mathlib.Core.List.{List, [], ◌∷◌}
use Prim.Native.Nat.{ℕ, zero, suc, ◌+◌, ◌-◌, ◌*◌, ◌/◌, ◌%◌, ◌≤◌, ◌<◌}
use native.Mathlib.Omega.{arith}
use borrow.Author.Tests.{le-leb, lt-leb, lt-ltb, le-ltb}
use Rattle.std.specs.Prelude.{sum_by}
use Rattle.std.proofs.lemmas.List.Sums.{sum_by-cons}
use lib.Dec.{eqb, leb, ltb}
use lib.ListN.{length}
use Rattle.rules.specs.Counting.{sum_to, first}
use Rattle.rules.specs.Limits.{max_variables, max_goals, max_domain, max_pairs, pair_bytes}
use Rattle.rules.specs.Task.{d, S, size_at_fault, start_at_fault, pair_at_fault, list_in_order}
use Rattle.rules.specs.File.{byte, pairs_at}
use Rattle.rules.proofs.Bools.{below_or}
use Rattle.rules.proofs.Counting.{sum_to-front}
use Rattle.rules.proofs.PairBytes.{length-pairs_at, rises_at, fault_at, fault_alone}
use Rattle.reader.specs.Bodies.{sized, task_in}

-- at most is not above
leb_not : (a b : ℕ) → leb a b ≡ not (ltb b a)
leb_not a b = ⊎_elim (λ h. rw (lt-leb a b h, lt-ltb b a h)) (λ h. rw (le-leb a b h, le-ltb b a h)) (below_or b a)

ltb_not : (a b : ℕ) → ltb a b ≡ not (leb b a)
ltb_not a b = ⊎_elim (λ h. rw (lt-ltb a b h, lt-leb b a h)) (λ h. rw (le-ltb a b h, le-leb b a h)) (below_or a b)

-- ---- lengths of bodies

abbrev pub fit : (n starts goals : ℕ) → Bool
fit n starts goals = leb 1 n && leb n max_variables && eqb starts n && eqb (goals % pair_bytes) 0 && leb (goals / pair_bytes) max_goals

-- ---- sizes and start values

module _ (sizes : List ℕ) (x v : ℕ) (e : v ≡ byte sizes x) where
  pub no_value_lem : v < 1 → true ≡ size_at_fault (sized sizes) x
  unfolding size_at_fault
  no_value_lem h = rw (← e, lt-leb 1 v h)

  pub many_values : 1 ≤ v → ltb max_domain v ≡ size_at_fault (sized sizes) x
  unfolding size_at_fault
  many_values h = rw (← e, le-leb 1 v h) (ltb_not max_domain v)

  pub start_outside : (start : List ℕ) (w : ℕ) → w ≡ byte start x → leb v w ≡ start_at_fault (task_in sizes start [] []) x
  unfolding start_at_fault
  start_outside start w f = rw (← e, ← f) (leb_not v w)

sum_none : (w : ℕ → ℕ) → 0 ≡ sum_to 0 w
unfolding sum_to
sum_none w = refl

pub sum_is : (sizes : List ℕ) → sum_by (λ x. x) sizes ≡ S (sized sizes)
sum_is [] = sum_none (d (sized []))
sum_is (b ∷ sizes) = sum_by-cons (λ x. x) b sizes ∙ ap (λ k. b + k) (sum_is sizes) ∙ sym (sum_to-front (length sizes) (d (sized (b ∷ sizes))))

-- ---- pairs; v is the pair's variable, w its value, z the size of that variable's domain, u the variable of the pair before

rises_later : (s : List ℕ) (at i u v : ℕ) → (i ≡ 0 → ⊥) → u ≡ byte s (at + pair_bytes * (i - 1)) → v ≡ byte s (at + pair_bytes * i)
    → rises_at s at i ≡ ltb u v
rises_later s at zero u v h eu ev = absurd (h refl)
rises_later s at (suc i) u v h eu ev = let p : suc i - 1 ≡ i = omega arith in rw (eu, ev, p)

module _ (sizes s : List ℕ) (at i v : ℕ) (ev : v ≡ byte s (at + pair_bytes * i)) where
  abbrev pub last_at_fault : Bool
  last_at_fault = pair_at_fault (sized sizes) (pairs_at s at (suc i)) i

  fault : last_at_fault ≡ not (ltb v (length sizes) && ltb (byte s (at + pair_bytes * i + 1)) (byte sizes v) && rises_at s at i)
  fault = rw ev (fault_at (sized sizes) s at (suc i) i (omega arith))

  pub variable_outside : length sizes ≤ v → true ≡ last_at_fault
  variable_outside h = rw (fault, le-ltb v (length sizes) h)

  module _ (h₁ : v < length sizes) (w z : ℕ) (ew : w ≡ byte s (at + pair_bytes * i + 1)) (ez : z ≡ byte sizes v) where
    pub value_outside : z ≤ w → true ≡ last_at_fault
    value_outside h = rw (fault, lt-ltb v (length sizes) h₁, ← ew, ← ez, le-ltb w z h)

    module _ (h₂ : w < z) where
      inside_fault : last_at_fault ≡ not (rises_at s at i)
      inside_fault = rw (fault, lt-ltb v (length sizes) h₁, ← ew, ← ez, lt-ltb w z h₂)

      pub first_pair : i ≡ 0 → false ≡ last_at_fault
      first_pair h = sym (inside_fault ∙ ap (λ k. not (rises_at s at k)) h)

      pub later_pair : (u : ℕ) → (i ≡ 0 → ⊥) → u ≡ byte s (at + pair_bytes * (i - 1)) → leb v u ≡ last_at_fault
      later_pair u h eu = sym (inside_fault ∙ ap not (rises_later s at i u v h eu ev) ∙ sym (leb_not v u))

-- a pair by itself is at fault as it is among the others
pub fault_among : (sizes s : List ℕ) (at count i : ℕ) (b : Bool) → i < count → b ≡ pair_at_fault (sized sizes) (pairs_at s at (suc i)) i
    → b ≡ pair_at_fault (sized sizes) (pairs_at s at count) i
fault_among sizes s at count i b h e = e ∙ fault_alone (sized sizes) s at count i h

module _ (sizes s : List ℕ) (at count : ℕ) where
  abbrev pub in_order : Bool
  in_order = list_in_order (sized sizes) (pairs_at s at count)

  pub many_pairs : max_pairs < count → false ≡ in_order
  unfolding list_in_order
  many_pairs h = rw (length-pairs_at s at count, lt-leb count max_pairs h)

  pub few_pairs : (f : ℕ) → count ≤ max_pairs → f ≡ first count (pair_at_fault (sized sizes) (pairs_at s at count)) → eqb f count ≡ in_order
  unfolding list_in_order
  few_pairs f h e = rw (length-pairs_at s at count, le-leb count max_pairs h, e)
