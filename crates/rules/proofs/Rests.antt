-- The rests of an action body, one for each action: reading from the first byte on, action by action, meets them in turn.
-- Assumes nothing.
use mathlib.Core.Path.{◌≡◌, refl, sym, ap, ◌∙◌}
use mathlib.Core.Logic.{⊎_elim}
use mathlib.Core.List.{List, [], ◌∷◌, map}
use Prim.Native.Nat.{ℕ, zero, suc, ◌+◌, ◌-◌, ◌≤◌, ◌<◌}
use native.Mathlib.Omega.{arith}
use lib.ListN.{length, get_or, drop, length-drop, get_or-map}
use lib.Seq.{drop-drop, drop-length, get_or-drop}
use Rattle.rules.specs.Counting.{for_each}
use Rattle.rules.specs.File.{action_bytes, pairs_at, action_in, rests_up_to, rests}
use Rattle.rules.proofs.Bools.{below_or}

-- enough is as good as more
rests_enough : (most more : ℕ) (s : List ℕ) → length s ≤ most → length s ≤ more → rests_up_to most s ≡ rests_up_to more s
unfolding rests_up_to
rests_enough zero zero [] h k = refl
rests_enough zero (suc more) [] h k = refl
rests_enough (suc most) zero [] h k = refl
rests_enough (suc most) (suc more) [] h k = refl
rests_enough zero more (p ∷ s) h k = absurd (omega arith)
rests_enough (suc most) zero (p ∷ s) h k = absurd (omega arith)
rests_enough (suc most) (suc more) (p ∷ s) h k =
    let next : List ℕ = drop (action_bytes (p ∷ s)) (p ∷ s) in
    let shorter = length-drop (action_bytes (p ∷ s)) (p ∷ s) in
    ap (λ r. (p ∷ s) ∷ r) (rests_enough most more next (omega (arith, shorter)) (omega (arith, shorter)))

pub rests_nil : rests [] ≡ []
unfolding rests rests_up_to
rests_nil = refl

pub rests_cons : (s : List ℕ) → 0 < length s → rests s ≡ s ∷ rests (drop (action_bytes s) s)
unfolding rests rests_up_to
rests_cons [] h = absurd (omega arith)
rests_cons (p ∷ s) h =
    let next : List ℕ = drop (action_bytes (p ∷ s)) (p ∷ s) in
    let shorter = length-drop (action_bytes (p ∷ s)) (p ∷ s) in
    ap (λ r. (p ∷ s) ∷ r) (rests_enough (length s) (length next) next (omega (arith, shorter)) (omega arith))

-- ---- a reading of s that stands at place at, before action a

pub record Reached (s : List ℕ) (at a : ℕ) : Type 0 where
  pub within : at ≤ length s
  pub passed : a ≤ length (rests s)
  pub left : drop a (rests s) ≡ rests (drop at s)

module _ (s : List ℕ) where
  pub reached_none : Reached s 0 0
  reached_none = record { within = omega arith; passed = omega arith; left = refl }

  module _ (at a : ℕ) (r : Reached s at a) where
    -- how many actions are left
    left_count : length (rests s) ≡ a + length (rests (drop at s))
    left_count = omega (arith, ap length r.left, length-drop a (rests s), r.passed)

    pub reached_all : length s ≤ at → length (rests s) ≡ a
    reached_all h =
        let none : drop at s ≡ [] = let e : at ≡ length s = omega arith in rw (e, drop-length s) in
        omega (arith, left_count, ap (λ q. length (rests q)) none, ap length rests_nil)

    module _ (l : at < length s) where
      here_cons : drop a (rests s) ≡ drop at s ∷ rests (drop (action_bytes (drop at s)) (drop at s))
      here_cons = r.left ∙ rests_cons (drop at s) (omega (arith, length-drop at s))

      pub reached_below : a < length (rests s)
      reached_below = omega (arith, ap length here_cons, length-drop a (rests s))

      pub reached_rest : get_or (rests s) a [] ≡ drop at s
      reached_rest =
          ap (λ k. get_or (rests s) k []) (omega arith) ∙ sym (get_or-drop a (rests s) 0 []) ∙ ap (λ q. get_or q 0 []) here_cons

      pub reached_next : (next : ℕ) → next ≤ length s → drop next s ≡ drop (action_bytes (drop at s)) (drop at s) → Reached s next (a + 1)
      reached_next next h e =
          record {
            within = h;
            passed = omega (arith, reached_below);
            left = sym (drop-drop 1 a (rests s)) ∙ ap (drop 1) here_cons ∙ ap rests (sym e);
          }

-- each action is read from its own rest
pub action_read_lem : (stretches : List (List ℕ)) (a : ℕ)
    → get_or (map action_in stretches) a (record { preconditions = []; effects = [] }) ≡ action_in (get_or stretches a [])
unfolding action_in pairs_at for_each
action_read_lem stretches a = get_or-map action_in stretches a []

-- ---- rests by number; from the last on there is none, which is the empty rest

pub drop_past : (k : ℕ) (s : List ℕ) → length s ≤ k → drop k s ≡ []
drop_past zero [] h = refl
drop_past zero (p ∷ s) h = absurd (omega arith)
drop_past (suc k) [] h = refl
drop_past (suc k) (p ∷ s) h = drop_past k s (omega arith)

drop_place : (k : ℕ) (s : List ℕ) → drop k s ≡ drop (length s - length (drop k s)) s
drop_place k s =
    let at : ℕ = length s - length (drop k s) in
    let left = length-drop k s in
    ⊎_elim (λ h. let e : k ≡ at = omega (arith, left) in ap (λ k. drop k s) e)
    (λ h. let past : length s ≤ at = omega (arith, left) in drop_past k s h ∙ sym (drop_past at s past))
    (below_or k (length s))

first_rest : (most : ℕ) (s : List ℕ) → length s ≤ most → get_or (rests_up_to most s) 0 [] ≡ s
unfolding rests_up_to
first_rest zero [] h = refl
first_rest zero (p ∷ s) h = absurd (omega arith)
first_rest (suc most) [] h = refl
first_rest (suc most) (p ∷ s) h = refl

later_rest : (most : ℕ) (s : List ℕ) (a : ℕ) → length s ≤ most
    → get_or (rests_up_to most s) (suc a) [] ≡ drop (action_bytes (get_or (rests_up_to most s) a [])) (get_or (rests_up_to most s) a [])
unfolding rests_up_to
later_rest zero s a h = refl
later_rest (suc most) [] a h = refl
later_rest (suc most) (p ∷ s) zero h = first_rest most (drop (action_bytes (p ∷ s)) (p ∷ s)) (omega (arith, length-drop (action_bytes (p ∷ s)) (p ∷ s)))
later_rest (suc most) (p ∷ s) (suc a) h = later_rest most (drop (action_bytes (p ∷ s)) (p ∷ s)) a (omega (arith, length-drop (action_bytes (p ∷ s)) (p ∷ s)))

module _ (s : List ℕ) where
  pub rest_zero : get_or (rests s) 0 [] ≡ s
  unfolding rests
  rest_zero = first_rest (length s) s (omega arith)

  pub rest_suc : (a : ℕ) → get_or (rests s) (suc a) [] ≡ drop (action_bytes (get_or (rests s) a [])) (get_or (rests s) a [])
  unfolding rests
  rest_suc a = later_rest (length s) s a (omega arith)

  rest_from : (a : ℕ) → (k : ℕ) × (get_or (rests s) a [] ≡ drop k s)
  rest_from zero = (0, rest_zero)
  rest_from (suc a) =
      let r = rest_from a in
      let bytes : ℕ = action_bytes (get_or (rests s) a []) in
      (r.0 + bytes, rest_suc a ∙ ap (drop bytes) r.1 ∙ drop-drop bytes r.0 s)

  -- each is what s has from a place on, which its length tells
  pub rest_place : (a : ℕ) → get_or (rests s) a [] ≡ drop (length s - length (get_or (rests s) a [])) s
  rest_place a =
      let r = rest_from a in
      r.1 ∙ drop_place r.0 s ∙ ap (λ q. drop (length s - length q) s) (sym r.1)
