-- Laws of the walk's loops: pairs read from bytes one after the other, and the start values.
-- Assumes nothing.
use mathlib.Core.Path.{◌≡◌, refl, sym, ap, ◌∙◌}
use mathlib.Core.Bool.{Bool, true, false, not}
use mathlib.Core.Logic.{⊎_elim}
use mathlib.Core.List.{List, [], ◌∷◌, ◌++◌}
use Prim.Native.Nat.{ℕ, ◌+◌, ◌*◌, ◌≤◌, ◌<◌}
use native.Mathlib.Omega.{arith}
use native.Mathlib.Numerals.{add-one}
use lib.Dec.{eqb}
use lib.ListN.{length, get_or, set, get_or-eq_default}
use lib.Seq.{ext_get_or, get_or-set_same, get_or-set_other}
use Rattle.rules.specs.Counting.{for_each, every}
use Rattle.rules.specs.Limits.{max_variables, pair_bytes, count_bytes}
use Rattle.rules.specs.Task.{Pair, pair}
use Rattle.rules.specs.File.{byte, pairs_at, action_in}
use Rattle.rules.specs.Walk.{State, holds, set_pairs}
use Rattle.rules.proofs.Bools.{below_or, not_false, same_truth}
use Rattle.rules.proofs.Counting.{length-table, get_or-table, first_is, first_none, none_at, none_test, every_get_or, every_by}
use Rattle.walk.specs.Lent.{pair_at, start_values, first_unmet}

-- ---- pairs one after the other

pub holds_is : (σ : State) (s : List ℕ) (at x a b : ℕ) → x ≡ byte s at → a ≡ byte σ x → b ≡ byte s (at + 1) → eqb a b ≡ holds σ (pair_at s at)
unfolding holds
holds_is σ s at x a b ex ea eb = rw (ea, eb, ex)

pub set_more : (σ : State) (ps : List Pair) (p : Pair) → set_pairs σ (ps ++ (p ∷ [])) ≡ set (set_pairs σ ps) p.variable p.value
unfolding set_pairs
set_more σ [] p = refl
set_more σ (q ∷ ps) p = set_more (set σ q.variable q.value) ps p

-- no pair is set yet, and one more is
pub set_none : (σ : State) (s : List ℕ) (at : ℕ) → σ ≡ set_pairs σ (pairs_at s at 0)
unfolding set_pairs pairs_at for_each
set_none σ s at = refl

pub set_next : (σ τ ρ : State) (s : List ℕ) (at i x v : ℕ) → τ ≡ set_pairs σ (pairs_at s at i) → x ≡ byte s (at + pair_bytes * i)
    → v ≡ byte s (at + pair_bytes * i + 1) → ρ ≡ set τ x v → ρ ≡ set_pairs σ (pairs_at s at (i + 1))
unfolding pairs_at for_each
set_next σ τ ρ s at i x v eτ ex ev e =
    e
    ∙ rw (eτ, ex, ev, add-one i) (sym (set_more σ (pairs_at s at i) (pair_at s (at + pair_bytes * i))))

pub set_all : (σ τ : State) (s : List ℕ) (at i count : ℕ) → i ≤ count → count ≤ i → τ ≡ set_pairs σ (pairs_at s at i)
    → τ ≡ set_pairs σ (pairs_at s at count)
set_all σ τ s at i count l g h = let e : count ≡ i = omega arith in rw e h

-- ---- the first pair that does not hold

abbrev unmet : State → List Pair → ℕ → Bool
unmet σ ps i = not (holds σ (pair ps i))

length_pairs : (s : List ℕ) (at count : ℕ) → length (pairs_at s at count) ≡ count
unfolding pairs_at
length_pairs s at count = length-table count (λ i. pair_at s (at + pair_bytes * i))

pair_of : (s : List ℕ) (at count i : ℕ) → i < count → pair (pairs_at s at count) i ≡ pair_at s (at + pair_bytes * i)
unfolding pairs_at
pair_of s at count i l = get_or-table count (λ i. pair_at s (at + pair_bytes * i)) (record { variable = 0; value = 0 }) i l

-- the pairs before i hold
abbrev pub Met : State → List ℕ → ℕ → ℕ → Type 0
Met σ s at i = (j : ℕ) → j < i → holds σ (pair_at s (at + pair_bytes * j)) ≡ true

met_each : (σ : State) (s : List ℕ) (at count i : ℕ) → i ≤ count → Met σ s at i → (j : ℕ) → j < i → unmet σ (pairs_at s at count) j ≡ false
met_each σ s at count i l h j b = rw (pair_of s at count j (omega arith), h j b)

pub met_all : (σ : State) (s : List ℕ) (at count i : ℕ) → i ≤ count → count ≤ i → Met σ s at i → i ≡ first_unmet σ (pairs_at s at count)
unfolding first_unmet
met_all σ s at count i l g h =
    let e : length (pairs_at s at count) ≡ i = omega (arith, length_pairs s at count) in
    sym (rw e (first_none i _ (met_each σ s at count i l h)))

pub met_not : (σ : State) (s : List ℕ) (at count i : ℕ) (b : Bool) → i < count → Met σ s at i
    → b ≡ holds σ (pair_at s (at + pair_bytes * i)) → not b ≡ true → i ≡ first_unmet σ (pairs_at s at count)
unfolding first_unmet
met_not σ s at count i b l h e t =
    sym (first_is (length (pairs_at s at count)) _ i (omega (arith, length_pairs s at count)) (rw (pair_of s at count i l, ← e) t)
    (met_each σ s at count i (omega arith) h))

-- all hold where there is none that does not
every_holds : (σ : State) (ps : List Pair) → eqb (first_unmet σ ps) (length ps) ≡ every (holds σ) ps
unfolding first_unmet
every_holds σ ps =
    let none : Pair = record { variable = 0; value = 0 } in
    same_truth _ _ (λ t. every_by (holds σ) ps none (λ i l. not_false _ (none_at (length ps) (unmet σ ps) t i l)))
    (λ t. none_test (length ps) (unmet σ ps) (λ i l. rw (every_get_or (holds σ) ps none t i l)))

-- ---- the start values

pub length-start_values : (start : List ℕ) → length (start_values start) ≡ max_variables
unfolding start_values
length-start_values start = length-table max_variables (byte start)

-- the first x values are the start body's
abbrev pub Filled : List ℕ → State → ℕ → Type 0
Filled start σ x = (y : ℕ) → y < x → get_or σ y 0 ≡ byte start y

pub filled_next : (start σ : State) (x v : ℕ) → x < length σ → v ≡ byte start x → Filled start σ x → Filled start (set σ x v) (x + 1)
filled_next start σ x v l e h y b =
    ⊎_elim (λ c. get_or-set_other σ x y v 0 (λ q. omega arith) ∙ h y c)
    (λ c. let q : y ≡ x = omega arith in ap (λ k. get_or (set σ x v) k 0) q ∙ get_or-set_same σ x v 0 l ∙ e ∙ ap (byte start) (sym q)) (below_or y x)

pub start_filled : (start σ : State) (x : ℕ) → length σ ≡ max_variables → max_variables ≤ x → Filled start σ x → σ ≡ start_values start
unfolding start_values
start_filled start σ x l g h =
    ext_get_or 0 σ (start_values start) (omega (arith, length-start_values start)) (λ y b.
    h y (omega arith) ∙ sym (get_or-table max_variables (byte start) 0 y (omega arith)))

-- values from n on are 0
pub start_behind : (start : List ℕ) (x : ℕ) → length start ≤ x → get_or (start_values start) x 0 ≡ 0
unfolding start_values
start_behind start x l =
    ⊎_elim (λ b. get_or-table max_variables (byte start) 0 x b ∙ get_or-eq_default start 0 l)
    (λ b. get_or-eq_default (start_values start) 0 (omega (arith, length-start_values start)))
    (below_or x max_variables)

-- ---- the action that begins a stretch

pub preconditions_hold_lem : (σ : State) (s : List ℕ) (p r : ℕ) → p ≡ byte s 0 → r ≡ first_unmet σ (pairs_at s count_bytes p)
    → eqb r p ≡ every (holds σ) (action_in s).preconditions
unfolding action_in
preconditions_hold_lem σ s p r e h =
    let ps : List Pair = pairs_at s count_bytes p in
    ap (λ k. eqb k p) h ∙ ap (eqb (first_unmet σ ps)) (sym (length_pairs s count_bytes p)) ∙ every_holds σ ps ∙ rw e

pub effects_set : (σ τ : State) (s : List ℕ) (p e : ℕ) → p ≡ byte s 0 → e ≡ byte s 1 → τ ≡ set_pairs σ (pairs_at s (count_bytes + pair_bytes * p) e)
    → τ ≡ set_pairs σ (action_in s).effects
unfolding action_in
effects_set σ τ s p e ep ee h = h ∙ rw (ep, ee)
