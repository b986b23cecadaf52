-- In how many turns the pair behind a number is found. A loop's measure falls with each turn; that of `pair_of` is `halvings` of how far its two bounds are
-- apart, and what it is before the first turn stands beside the proof (`turns` in `pair_of/Invariants.antt`).
-- Assumes nothing.
use Prim.Native.Nat.{ℕ, ◌≤◌}
use native.Mathlib.Nat.{le_trans}
use lib.Dec.{lit≤}
use Rattle.rules.specs.Limits.{max_variables, max_domain, max_actions}
use Rattle.pairs.specs.Halving.{halvings}
use Rattle.pairs.proofs.Halving.{few_turns}

-- family 8, of a step's actions
pub for_two_actions : (m : ℕ) → m ≤ max_actions → halvings m ≤ 9
for_two_actions m h = few_turns m 9 (le_trans h (lit≤ tt))

-- family 4, of a variable's values
pub for_two_values : (m : ℕ) → m ≤ max_domain → halvings m ≤ 6
for_two_values m h = few_turns m 6 (le_trans h (lit≤ tt))

-- the variable of which they are, by `formula::search::row_of`, whose measure is the same (`turns` in its proof)
pub for_their_variable : (m : ℕ) → m ≤ max_variables → halvings m ≤ 7
for_their_variable m h = few_turns m 7 (le_trans h (lit≤ tt))
