-- Plans: a schedule with its empty steps left out is a plan, and a plan with empty steps behind it is a schedule.
-- Assumes nothing.
use mathlib.Core.Path.{◌≡◌, refl, sym, ap, ◌∙◌}
use mathlib.Core.Bool.{Bool, true, ◌&&◌}
use mathlib.Core.List.{List, [], ◌∷◌, ◌++◌, map}
use Prim.Native.Nat.{ℕ, zero, suc, ◌-◌, ◌≤◌, ◌<◌}
use native.Mathlib.Omega.{arith}
use borrow.Author.Tests.{leb-true, le-leb}
use lib.Dec.{leb, leb-zero}
use lib.ListN.{length, replicate, length-append, length-replicate, length-map}
use Rattle.rules.specs.Task.{Task, A}
use Rattle.rules.specs.Walk.{State, start_state, reached, entry, entry_applies, after_entry, state_at, CarriedOut, is_plan_from, is_plan}
use Rattle.rules.proofs.Bools.{and_left, and_right, and_both}

-- ---- the walk from the front, from any state

module _ (T : Task) where
  unfoldable walks : State → List ℕ → Bool
  walks σ [] = reached T σ
  walks σ (e ∷ es) = leb e (A T) && entry_applies T e σ && walks (after_entry T e σ) es

  unfoldable state_from : State → List ℕ → ℕ → State
  state_from σ l zero = σ
  state_from σ l (suc s) = after_entry T (entry l s) (state_from σ l s)

  from_start : (l : List ℕ) (s : ℕ) → state_at T l s ≡ state_from (start_state T) l s
  unfolding state_at state_from
  from_start l zero = refl
  from_start l (suc s) = ap (after_entry T (entry l s)) (from_start l s)

  -- the first entry carried out first
  from_second : (σ : State) (e : ℕ) (l : List ℕ) (s : ℕ) → state_from σ (e ∷ l) (suc s) ≡ state_from (after_entry T e σ) l s
  unfolding state_from
  from_second σ e l zero = refl
  from_second σ e l (suc s) = ap (after_entry T (entry l s)) (from_second σ e l s)

  -- each entry is known and applies when its step comes, and the goal holds at the end
  record Follows (σ : State) (l : List ℕ) : Type 0 where
    pub known : (s : ℕ) → s < length l → entry l s ≤ A T
    pub applying : (s : ℕ) → s < length l → entry_applies T (entry l s) (state_from σ l s) ≡ true
    pub reaching : reached T (state_from σ l (length l)) ≡ true

  follow : (σ : State) (l : List ℕ) → walks σ l ≡ true → Follows σ l
  unfolding walks state_from
  follow σ [] h = record { known = λ s l. absurd (omega arith); applying = λ s l. absurd (omega arith); reaching = h }
  follow σ (e ∷ l) h =
      let start = and_left (leb e (A T) && entry_applies T e σ) (walks (after_entry T e σ) l) h in
      let rest : Follows (after_entry T e σ) l = follow (after_entry T e σ) l (and_right (leb e (A T) && entry_applies T e σ) (walks (after_entry T e σ) l) h) in
      record {
        known = λ s. elim s as (λ t. t < length (e ∷ l) → entry (e ∷ l) t ≤ A T) [ zero ↦ λ b. leb-true e (A T) (and_left (leb e (A T)) (entry_applies T e σ) start) | suc t ↦ λ b. rest.known t (omega arith) ];
        applying = λ s.
            elim s as (λ t. t < length (e ∷ l) → entry_applies T (entry (e ∷ l) t) (state_from σ (e ∷ l) t) ≡ true) [
              | zero ↦ λ b. and_right (leb e (A T)) (entry_applies T e σ) start
              | suc t ↦ λ b. ap (entry_applies T (entry l t)) (from_second σ e l t) ∙ rest.applying t (omega arith)
            ];
        reaching = ap (reached T) (from_second σ e l (length l)) ∙ rest.reaching;
      }

  lead : (σ : State) (l : List ℕ) → Follows σ l → walks σ l ≡ true
  unfolding walks state_from
  lead σ [] f = f.reaching
  lead σ (e ∷ l) f =
      and_both _ _
      (and_both _ _ (le-leb _ _ (f.known 0 (omega arith))) (f.applying 0 (omega arith)))
      (lead (after_entry T e σ) l
      (record {
        known = λ s b. f.known (suc s) (omega arith);
        applying = λ s b. ap (entry_applies T (entry l s)) (sym (from_second σ e l s)) ∙ f.applying (suc s) (omega arith);
        reaching = ap (reached T) (sym (from_second σ e l (length l))) ∙ f.reaching;
      }))

  -- ---- schedules and plans

  -- the actions of a schedule
  unfoldable pub moves_of : List ℕ → List ℕ
  moves_of [] = []
  moves_of (zero ∷ l) = moves_of l
  moves_of (suc a ∷ l) = a ∷ moves_of l

  pub moves_most : (l : List ℕ) → length (moves_of l) ≤ length l
  unfolding moves_of
  moves_most [] = omega arith
  moves_most (zero ∷ l) = omega (arith, moves_most l)
  moves_most (suc a ∷ l) = omega (arith, moves_most l)

  stripped : (σ : State) (l : List ℕ) → is_plan_from T σ (moves_of l) ≡ walks σ l
  unfolding is_plan_from moves_of walks
  stripped σ [] = refl
  stripped σ (zero ∷ l) = rw (leb-zero (A T)) (stripped σ l)
  stripped σ (suc a ∷ l) = rw (stripped (after_entry T (suc a) σ) l)

  -- a plan with empty steps behind it
  abbrev pub padded : List ℕ → ℕ → List ℕ
  padded moves empty = map suc moves ++ replicate empty 0

  resting : (σ : State) (m : ℕ) → walks σ (replicate m 0) ≡ reached T σ
  unfolding walks
  resting σ zero = refl
  resting σ (suc m) = rw (leb-zero (A T)) (resting σ m)

  walks_padded : (σ : State) (moves : List ℕ) (m : ℕ) → walks σ (padded moves m) ≡ is_plan_from T σ moves
  unfolding walks is_plan_from
  walks_padded σ [] m = resting σ m
  walks_padded σ (a ∷ moves) m = rw (walks_padded (after_entry T (suc a) σ) moves m)

  -- ---- a schedule that can be carried out is a plan, and a plan such a schedule

  walked_out : (l : List ℕ) → walks (start_state T) l ≡ true → CarriedOut T (length l) l
  walked_out l h =
      let f : Follows (start_state T) l = follow (start_state T) l h in
      record {
        entries_known = f.known;
        each_applies = λ s b. ap (entry_applies T (entry l s)) (from_start l s) ∙ f.applying s b;
        reaches_goal = ap (reached T) (from_start l (length l)) ∙ f.reaching;
      }

  out_walked : (l : List ℕ) → CarriedOut T (length l) l → walks (start_state T) l ≡ true
  out_walked l c =
      lead (start_state T) l
      (record {
        known = c.entries_known;
        applying = λ s b. ap (entry_applies T (entry l s)) (sym (from_start l s)) ∙ c.each_applies s b;
        reaching = ap (reached T) (sym (from_start l (length l))) ∙ c.reaches_goal;
      })

  pub schedule_plan : (k : ℕ) (schedule : List ℕ) → length schedule ≡ k → CarriedOut T k schedule → is_plan T (moves_of schedule) ≡ true
  unfolding is_plan
  schedule_plan k schedule size c = stripped (start_state T) schedule ∙ out_walked schedule (rw (← size) at c)

  pub length-padded : (k : ℕ) (moves : List ℕ) → length moves ≤ k → length (padded moves (k - length moves)) ≡ k
  length-padded k moves h =
      omega (arith, length-append (map suc moves) (replicate (k - length moves) 0), length-map moves suc, length-replicate {A = ℕ} (k - length moves) 0)

  pub plan_schedule : (k : ℕ) (moves : List ℕ) → length moves ≤ k → is_plan T moves ≡ true → CarriedOut T k (padded moves (k - length moves))
  unfolding is_plan
  plan_schedule k moves h p =
      rw (length-padded k moves h) at (walked_out (padded moves (k - length moves)) (walks_padded (start_state T) moves (k - length moves) ∙ p))
