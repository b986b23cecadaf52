-- How many bits are set among m; the first two of them, found one behind the other, and the number of their pair.
-- Assumes nothing.
use mathlib.Core.Path.{◌≡◌, refl, sym, ap, ◌∙◌}
use mathlib.Core.Logic.{⊎_elim}
use mathlib.Core.Bool.{Bool, true, false, cond}
use Prim.Native.Nat.{ℕ, zero, suc, ◌+◌, ◌-◌, ◌≤◌, ◌<◌}
use native.Mathlib.Omega.{arith}
use Rattle.rules.specs.Counting.{sum_to, first}
use Rattle.rules.specs.Counts.{pairs_below}
use Rattle.rules.proofs.Bools.{either, clash, below_or}
use Rattle.rules.proofs.Counting.{first_before, first_at, first_none, sum_to-part}
use Rattle.rules.proofs.Lowest.{no_pair, first_pair}
use Rattle.rules.proofs.Pairs.{PairAt}
use Rattle.rows.specs.Bits.{set_from}
use Rattle.rows.specs.Stretch.{count_set}
use Rattle.checker.specs.Order.{FirstPair}

-- ---- how many are set

module _ (is_set : ℕ → Bool) (from : ℕ) where
  abbrev b : ℕ → Bool
  b = set_from is_set from

  -- a set bit counts, beside those below it
  counts : (m u : ℕ) → u < m → b u ≡ true → count_set is_set from u < count_set is_set from m
  unfolding count_set set_from
  counts m u l t =
      let one : ◌≡◌ {A = ℕ} (cond (is_set (from + u)) 1 0) 1 = rw t refl in
      omega (arith, one, sum_to-part m (λ i. cond (is_set (from + i)) 1 0) u l)

  -- where none is set none is counted
  none_counted : (m : ℕ) → ((u : ℕ) → u < m → b u ≡ false) → count_set is_set from m ≡ 0
  unfolding count_set set_from sum_to
  none_counted zero none = refl
  none_counted (suc m) none = rw (none m (omega arith)) (omega (arith, none_counted m (λ u l. none u (omega arith))))

  -- where no two are set no two are counted
  few_counted : (m : ℕ) → ((u v : ℕ) → u < v → v < m → b u ≡ true → b v ≡ true → ⊥) → count_set is_set from m < 2
  unfolding count_set set_from sum_to
  few_counted zero few = omega arith
  few_counted (suc m) few =
      ⊎_elim
      (λ t. let none : count_set is_set from m ≡ 0 = none_counted m (λ u l. others u l t) in rw t (omega (arith, none)))
      (λ t. rw t (omega (arith, few_counted m (λ u v l h. few u v l (omega arith)))))
      (either (b m))
    where
      others : (u : ℕ) → u < m → b m ≡ true → b u ≡ false
      others u l t = ⊎_elim (λ z. absurd (few u m l (omega arith) z t)) (λ z. z) (either (b u))

  pub some_there : (m r : ℕ) → 0 < count_set is_set from m → r ≡ first m b → r < m
  some_there m r h e =
      ⊎_elim (λ l. l) (λ l. absurd (omega (arith, none_counted m (λ u k. first_before m b u (omega arith))))) (below_or r m)

  pub none_there : (m r : ℕ) → r ≡ count_set is_set from m → r ≡ 0 → m ≡ first m b
  none_there m r e z =
      sym (first_none m b (λ u l. ⊎_elim (λ t. absurd (omega (arith, counts m u l t))) (λ t. t) (either (b u))))

-- ---- the first two

module _ (is_set : ℕ → Bool) (from m : ℕ) where
  pub few_set : (n r : ℕ) → n ≡ count_set is_set from m → n < 2 → r ≡ pairs_below m → FirstPair m (b is_set from) r
  few_set n r e l h =
      record {
        lowest = λ q reads.
            h ∙ sym (no_pair m (b is_set from) q reads (λ u v k w tu tv. omega (arith, counts is_set from v u k tu, counts is_set from m v w tv)));
      }

  module _ (i : ℕ) (e : i ≡ first m (b is_set from)) (l : i < m) where
    abbrev rest : ℕ → Bool
    rest = set_from is_set (from + i + 1)

    before_first : (u : ℕ) → u < i → b is_set from u ≡ false
    before_first u h = first_before m (b is_set from) u (omega arith)

    -- a bit behind the first, counted from there
    behind : (u : ℕ) → i < u → rest (u - i - 1) ≡ b is_set from u
    unfolding set_from
    behind u h = ap is_set (omega arith)

    -- where two are counted, one is behind the first
    pub second_counted : (n : ℕ) → n ≡ count_set is_set from m → 2 ≤ n → 0 < count_set is_set (from + i + 1) (m - i - 1)
    second_counted n g h = ⊎_elim (λ z. z) (λ z. absurd (omega (arith, few_counted is_set from m (λ u v k w tu tv. no_two z u v k w tu tv)))) (below_or 0 _)
      where
        no_two : count_set is_set (from + i + 1) (m - i - 1) ≤ 0 → (u v : ℕ) → u < v → v < m → b is_set from u ≡ true → b is_set from v ≡ true → ⊥
        no_two z u v k w tu tv =
            ⊎_elim (λ q. clash tu (before_first u q))
            (λ q. omega (arith, counts is_set (from + i + 1) (m - i - 1) (v - i - 1) (omega arith) (behind v (omega arith) ∙ tv)))
            (below_or u i)

    module _ (j t : ℕ) (f : t ≡ first (m - i - 1) rest) (g : j ≡ i + 1 + t) (k : t < m - i - 1) where
      between : (u : ℕ) → i < u → u < j → b is_set from u ≡ false
      between u h w = sym (behind u h) ∙ first_before (m - i - 1) rest (u - i - 1) (omega arith)

      set_first : b is_set from i ≡ true
      set_first = ap (b is_set from) e ∙ first_at m (b is_set from) (omega arith)

      set_second : b is_set from j ≡ true
      set_second = sym (behind j (omega arith)) ∙ ap rest (omega arith) ∙ first_at (m - i - 1) rest (omega arith)

      pub two_set : (r : ℕ) → PairAt m r i j → FirstPair m (b is_set from) r
      two_set r at = record { lowest = λ q reads. sym (first_pair m (b is_set from) q reads r i j at set_first set_second before_first between) }
