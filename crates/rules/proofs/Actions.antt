-- Pairs and actions are read back from the bytes that state them.
-- Assumes nothing.
use mathlib.Core.Path.{◌≡◌, refl, sym, ap, ◌∙◌}
use mathlib.Core.Bool.{Bool, true}
use mathlib.Core.List.{List, [], ◌∷◌, ◌++◌, map, append-nil, append_assoc}
use Prim.Native.Nat.{ℕ, zero, suc, ◌+◌, ◌*◌, ◌/◌, ◌≤◌, ◌<◌}
use native.Mathlib.Omega.{arith}
use borrow.Author.Tests.{le-leb}
use lib.Dec.{leb}
use lib.ListN.{length, length-append, length-map, get_or-append}
use lib.Seq.{drop_at}
use Rattle.rules.specs.Counting.{sum_to, every, joined}
use Rattle.rules.specs.Limits.{pair_bytes, count_bytes}
use Rattle.rules.specs.Task.{Pair, Action, pair}
use Rattle.rules.specs.File.{byte, pairs_at, action_bytes, action_in, rests_up_to, rests, is_whole, pair_text, action_text}
use Rattle.rules.proofs.Bools.{and_both}
use Rattle.rules.proofs.Counting.{sum_to-const, length-for_each, for_each-ext, get_or-for_each, table_get_or, every_get_or}
use Rattle.rules.proofs.Contents.{byte_behind}

-- ---- pairs

pub length-pair_text : (ps : List Pair) → length (pair_text ps) ≡ pair_bytes * length ps
unfolding pair_text
length-pair_text ps =
    length-for_each (length ps) (λ i. (pair ps i).variable ∷ (pair ps i).value ∷ []) ∙ omega (arith, sum_to-const (length ps) pair_bytes)

-- byte j of pair i, by its place k
pair_byte : (before : List ℕ) (ps : List Pair) (behind : List ℕ) (i j k : ℕ) → i < length ps → j < pair_bytes → k ≡ length before + pair_bytes * i + j
    → byte (before ++ (pair_text ps ++ behind)) k ≡ byte ((pair ps i).variable ∷ (pair ps i).value ∷ []) j
unfolding pair_text
pair_byte before ps behind i j k h l e =
    let text : ℕ → List ℕ = λ i. (pair ps i).variable ∷ (pair ps i).value ∷ [] in
    let place : ℕ = sum_to i (λ i. length (text i)) + j in
    byte_behind before (pair_text ps ++ behind) place k (omega (arith, sum_to-const i pair_bytes))
    ∙ get_or-append (pair_text ps) behind 0 place (omega (arith, sum_to-const i pair_bytes, length-pair_text ps))
    ∙ get_or-for_each (length ps) text 0 i j h l

pub pairs_back : (before : List ℕ) (ps : List Pair) (behind : List ℕ) (at : ℕ) → at ≡ length before
    → pairs_at (before ++ (pair_text ps ++ behind)) at (length ps) ≡ ps
unfolding pairs_at
pairs_back before ps behind at e =
    let s : List ℕ = before ++ (pair_text ps ++ behind) in
    let place : ℕ → ℕ = λ i. at + pair_bytes * i in
    for_each-ext (length ps) (λ i. record { variable = byte s (place i); value = byte s (place i + 1) } ∷ []) (λ i. pair ps i ∷ []) (λ i h k.
    record {
      variable = pair_byte before ps behind i 0 (place i) h (omega arith) (omega arith) k;
      value = pair_byte before ps behind i 1 (place i + 1) h (omega arith) (omega arith) k;
    } ∷ [])
    ∙ table_get_or ps (record { variable = 0; value = 0 })

-- a body of pairs and nothing else
pub goal_back : (ps : List Pair) → pairs_at (pair_text ps) 0 (length (pair_text ps) / pair_bytes) ≡ ps
goal_back ps =
    let count : length (pair_text ps) / pair_bytes ≡ length ps = omega (arith, length-pair_text ps) in
    rw count (ap (λ s. pairs_at s 0 (length ps)) (sym (append-nil (pair_text ps))) ∙ pairs_back [] ps [] 0 refl)

-- ---- actions

pub length-action_text : (a : Action) → length (action_text a) ≡ count_bytes + pair_bytes * (length a.preconditions + length a.effects)
unfolding action_text
length-action_text a =
    omega
    (arith, length-append (pair_text a.preconditions) (pair_text a.effects), length-pair_text a.preconditions, length-pair_text a.effects)

pub action_back : (a : Action) (behind : List ℕ) → action_in (action_text a ++ behind) ≡ a
unfolding action_in action_text
action_back a behind =
    let p = a.preconditions in
    let e = a.effects in
    let counts : List ℕ = length p ∷ length e ∷ [] in
    rw (append_assoc (pair_text p) (pair_text e) behind)
    (λ i. record {
      preconditions = pairs_back counts p (pair_text e ++ behind) count_bytes refl i;
      effects = pairs_back (counts ++ pair_text p) e behind (count_bytes + pair_bytes * length p) (omega (arith, length-pair_text p)) i;
    })

-- an action's own counts say how long its text is
own_bytes : (a : Action) (behind : List ℕ) → length (action_text a) ≡ action_bytes (action_text a ++ behind)
unfolding action_text
own_bytes a behind = length-action_text a

-- the rest of the body from an action's first byte on, and the rests behind that action
rests_cons : (most : ℕ) (a : Action) (s : List ℕ) → rests_up_to (suc most) (action_text a ++ s) ≡ (action_text a ++ s) ∷ rests_up_to most s
unfolding rests_up_to action_text
rests_cons most a s =
    ap (λ r. (action_text a ++ s) ∷ rests_up_to most r) (drop_at (action_text a) s (action_bytes (action_text a ++ s)) (own_bytes a s))

abbrev whole_action : List ℕ → Bool
whole_action s = leb (action_bytes s) (length s)

-- the rests of actions' joined texts: each begins with its action, and is whole
rests_back : (most : ℕ) (l : List Action) → length (joined (map action_text l)) ≤ most
    → (map action_in (rests_up_to most (joined (map action_text l))) ≡ l) × (every whole_action (rests_up_to most (joined (map action_text l))) ≡ true)
unfolding rests_up_to joined every
rests_back zero [] h = (refl, refl)
rests_back (suc most) [] h = (refl, refl)
rests_back zero (a ∷ l) h = absurd (omega (arith, length-append (action_text a) (joined (map action_text l)), length-action_text a))
rests_back (suc most) (a ∷ l) h =
    let s = joined (map action_text l) in
    let fits = length-append (action_text a) s in
    let whole : whole_action (action_text a ++ s) ≡ true = omega (arith, le-leb, fits, own_bytes a s) in
    let later = rests_back most l (omega (arith, fits, length-action_text a)) in
    rw (rests_cons most a s) (rw (action_back a s, later.0), and_both _ _ whole later.1)

pub actions_back : (l : List Action) → map action_in (rests (joined (map action_text l))) ≡ l
unfolding rests
actions_back l = (rests_back (length (joined (map action_text l))) l (omega arith)).0

pub actions_whole : (l : List Action) (a : ℕ) → a < length l → is_whole (rests (joined (map action_text l))) a ≡ true
unfolding rests is_whole
actions_whole l a h =
    let s = joined (map action_text l) in
    every_get_or whole_action (rests s) [] (rests_back (length s) l (omega arith)).1 a
    (omega (arith, ap length (actions_back l), length-map (rests s) action_in))
