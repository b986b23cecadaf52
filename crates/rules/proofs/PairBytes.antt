-- Pairs read from bytes: pair i stands so many bytes further on, and whether it is at fault is told by it and the one before.
-- Assumes nothing.
use mathlib.Core.Path.{◌≡◌, refl, sym, ◌∙◌}
use mathlib.Core.Bool.{Bool, true, not, ◌&&◌}
use mathlib.Core.List.{List}
use Prim.Native.Nat.{ℕ, zero, suc, ◌+◌, ◌*◌, ◌<◌}
use native.Mathlib.Omega.{arith}
use lib.Dec.{ltb}
use lib.ListN.{length}
use Rattle.rules.specs.Limits.{pair_bytes}
use Rattle.rules.specs.Task.{Task, n, d, pair, rises, pair_at_fault}
use Rattle.rules.specs.File.{byte, pairs_at}
use Rattle.rules.proofs.Counting.{length-table, get_or-table}

module _ (s : List ℕ) (at count : ℕ) where
  pub length-pairs_at : length (pairs_at s at count) ≡ count
  unfolding pairs_at
  length-pairs_at = length-table count _

  pub pair_at_lem : (i : ℕ) → i < count → pair (pairs_at s at count) i ≡ record { variable = byte s (at + pair_bytes * i); value = byte s (at + pair_bytes * i + 1) }
  unfolding pairs_at
  pair_at_lem i h = get_or-table count _ _ i h

-- pair i is above the one before it, by their bytes
abbrev pub rises_at : List ℕ → ℕ → ℕ → Bool
rises_at s at zero = true
rises_at s at (suc i) = ltb (byte s (at + pair_bytes * i)) (byte s (at + pair_bytes * suc i))

pub rises_at_lem : (s : List ℕ) (at count i : ℕ) → i < count → rises (pairs_at s at count) i ≡ rises_at s at i
rises_at_lem s at count zero h = refl
rises_at_lem s at count (suc i) h = rw (pair_at_lem s at count (suc i) h, pair_at_lem s at count i (omega arith))

pub fault_at : (T : Task) (s : List ℕ) (at count i : ℕ) → i < count
    → pair_at_fault T (pairs_at s at count) i
    ≡ not (ltb (byte s (at + pair_bytes * i)) (n T) && ltb (byte s (at + pair_bytes * i + 1)) (d T (byte s (at + pair_bytes * i))) && rises_at s at i)
unfolding pair_at_fault
fault_at T s at count i h = rw (pair_at_lem s at count i h, rises_at_lem s at count i h)

-- pairs behind it do not matter
pub fault_alone : (T : Task) (s : List ℕ) (at count i : ℕ) → i < count → pair_at_fault T (pairs_at s at (suc i)) i ≡ pair_at_fault T (pairs_at s at count) i
fault_alone T s at count i h = fault_at T s at (suc i) i (omega arith) ∙ sym (fault_at T s at count i h)
