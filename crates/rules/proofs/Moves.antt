-- Moves: what setting pairs, an action and a set of actions make of a state, and the walk of a schedule whose steps are sets of moves.
-- Assumes nothing.
use mathlib.Core.Path.{◌≡◌, refl, sym, ap, ◌∙◌}
use mathlib.Core.Logic.{◌⊎◌, inl, inr, ⊎_elim}
use mathlib.Core.Bool.{Bool, true, false, cond}
use mathlib.Core.List.{List, [], ◌∷◌}
use Prim.Native.Nat.{ℕ, zero, suc, ◌+◌, ◌-◌, ◌≤◌, ◌<◌}
use native.Mathlib.Omega.{arith}
use borrow.Author.Tests.{eqb-true, eqb-false}
use lib.Dec.{eqb}
use lib.ListN.{length, get_or, set, length-set, length-append, get_or-append, replicate}
use lib.Seq.{get_or-set_same, get_or-set_other, set-get_or}
use Rattle.rules.specs.Counting.{every}
use Rattle.rules.specs.Limits.{max_variables}
use Rattle.rules.specs.Task.{Pair, Task, n, A, start_value, pair, action}
use Rattle.rules.specs.Walk.{State, start_state, holds, set_pairs, apply}
use Rattle.rules.proofs.Bools.{either, and_left, and_right, below_or, below_suc}
use Rattle.rules.proofs.Valid.{InOrder, WellFormed}

-- ---- setting pairs

-- one of the pairs sets x to w
pub record SetBy (ps : List Pair) (x w : ℕ) : Type 0 where
  pub place : ℕ
  pub below : place < length ps
  pub names : (pair ps place).variable ≡ x
  pub gives : (pair ps place).value ≡ w

-- no pair names x
abbrev pub Untouched : List Pair → ℕ → Type 0
Untouched ps x = (i : ℕ) → i < length ps → (pair ps i).variable ≡ x → ⊥

later : {p : Pair} {ps : List Pair} {x w : ℕ} → SetBy ps x w → SetBy (p ∷ ps) x w
later r = record { place = suc r.place; below = omega (arith, r.below); names = r.names; gives = r.gives }

untouched_more : (p : Pair) (ps : List Pair) (x : ℕ) → (p.variable ≡ x → ⊥) → Untouched ps x → Untouched (p ∷ ps) x
untouched_more p ps x h k zero l e = h e
untouched_more p ps x h k (suc i) l e = k i (omega arith) e

pub length-set_pairs : (σ : State) (ps : List Pair) → length (set_pairs σ ps) ≡ length σ
unfolding set_pairs
length-set_pairs σ [] = refl
length-set_pairs σ (p ∷ ps) = length-set_pairs (set σ p.variable p.value) ps ∙ length-set σ p.variable p.value

-- pairs that hold already change nothing
pub set_held : (σ : State) (ps : List Pair) → every (holds σ) ps ≡ true → set_pairs σ ps ≡ σ
unfolding set_pairs every holds
set_held σ [] h = refl
set_held σ (p ∷ ps) h =
    let already : get_or σ p.variable 0 ≡ p.value = eqb-true _ _ (and_left (holds σ p) (every (holds σ) ps) h) in
    ap (λ σ'. set_pairs σ' ps) (ap (set σ p.variable) (sym already) ∙ set-get_or σ p.variable 0)
    ∙ set_held σ ps (and_right (holds σ p) (every (holds σ) ps) h)

-- afterwards x has the value of a pair that names it, or, where none does, its old one
pub set_pairs-at : (σ : State) (ps : List Pair) (x : ℕ) → ((i : ℕ) → i < length ps → (pair ps i).variable < length σ)
    → SetBy ps x (get_or (set_pairs σ ps) x 0) ⊎ (Untouched ps x × (get_or (set_pairs σ ps) x 0 ≡ get_or σ x 0))
unfolding set_pairs
set_pairs-at σ [] x h = inr (λ i l. absurd (omega arith), refl)
set_pairs-at σ (p ∷ ps) x h =
    let σ' : State = set σ p.variable p.value in
    ⊎_elim (λ r. inl (later r))
    (λ r.
    ⊎_elim
    (λ t.
    let e : p.variable ≡ x = eqb-true _ _ t in
    inl (record {
      place = 0;
      below = omega arith;
      names = e;
      gives = sym (r.1 ∙ ap (λ y. get_or σ' y 0) (sym e) ∙ get_or-set_same σ p.variable p.value 0 (h 0 (omega arith)));
    }))
    (λ t.
    inr (
      untouched_more p ps x (eqb-false _ _ t) r.0,
      r.1 ∙ get_or-set_other σ p.variable x p.value 0 (λ e. eqb-false _ _ t (sym e)),
    ))
    (either (eqb p.variable x)))
    (set_pairs-at σ' ps x (λ i l. omega (arith, h (suc i) (omega arith), length-set σ p.variable p.value)))

-- variables rise, so no two pairs of a list name one variable
rising_from : (T : Task) (ps : List Pair) → InOrder T ps → (i j : ℕ) → i + suc j < length ps → (pair ps i).variable < (pair ps (i + suc j)).variable
rising_from T ps o i zero l =
    let e : i + 1 ≡ suc i = omega arith in
    rw e (o.rising i (omega arith))
rising_from T ps o i (suc j) l =
    let e : i + suc (suc j) ≡ suc (i + suc j) = omega arith in
    rw e (omega (arith, rising_from T ps o i j (omega arith), o.rising (i + suc j) (omega arith)))

pub pairs_apart : (T : Task) (ps : List Pair) → InOrder T ps → (i j : ℕ) → i < length ps → j < length ps
    → (pair ps i).variable ≡ (pair ps j).variable → i ≡ j
pairs_apart T ps o i j hi hj e =
    ⊎_elim (λ l. absurd (omega (arith, rises i j l hj)))
    (λ l. ⊎_elim (λ r. absurd (omega (arith, rises j i r hi))) (λ r. omega arith) (below_or j i))
    (below_or i j)
  where
    rises : (i j : ℕ) → i < j → j < length ps → (pair ps i).variable < (pair ps j).variable
    rises i j l h = let e : j ≡ i + suc (j - suc i) = omega arith in rw e (rising_from T ps o i (j - suc i) (omega arith))

-- ---- a set of moves: those of the actions below m that are chosen, carried out in rising order

abbrev pub Chosen : Type 0
Chosen = ℕ → Bool

unfoldable pub carried : Task → Chosen → (m : ℕ) → State → State
carried T chosen zero σ = σ
carried T chosen (suc a) σ = let before : State = carried T chosen a σ in cond (chosen a) (apply T a before) before

pub carried_move : (T : Task) (chosen : Chosen) (a : ℕ) (σ : State) → chosen a ≡ true → carried T chosen (suc a) σ ≡ apply T a (carried T chosen a σ)
unfolding carried
carried_move T chosen a σ t = rw t

pub carried_stay : (T : Task) (chosen : Chosen) (a : ℕ) (σ : State) → chosen a ≡ false → carried T chosen (suc a) σ ≡ carried T chosen a σ
unfolding carried
carried_stay T chosen a σ t = rw t

pub length-carried : (T : Task) (chosen : Chosen) (m : ℕ) (σ : State) → length (carried T chosen m σ) ≡ length σ
unfolding carried apply
length-carried T chosen zero σ = refl
length-carried T chosen (suc a) σ =
    ⊎_elim
    (λ t. ap length (carried_move T chosen a σ t) ∙ length-set_pairs (carried T chosen a σ) (action T a).effects ∙ length-carried T chosen a σ)
    (λ t. ap length (carried_stay T chosen a σ t) ∙ length-carried T chosen a σ)
    (either (chosen a))

-- a chosen action below m sets x to w
pub record MovedBy (T : Task) (chosen : Chosen) (m x w : ℕ) : Type 0 where
  pub action_of : ℕ
  pub action_below : action_of < m
  pub is_chosen : chosen action_of ≡ true
  pub by : SetBy (action T action_of).effects x w

-- no chosen action below m has an effect on x
abbrev pub Unmoved : Task → Chosen → ℕ → ℕ → Type 0
Unmoved T chosen m x = (a : ℕ) → a < m → chosen a ≡ true → Untouched (action T a).effects x

moved_more : (T : Task) (chosen : Chosen) (m x w w' : ℕ) → w ≡ w' → MovedBy T chosen m x w → MovedBy T chosen (suc m) x w'
moved_more T chosen m x w w' e r =
    record {
      action_of = r.action_of;
      action_below = omega (arith, r.action_below);
      is_chosen = r.is_chosen;
      by = record { place = r.by.place; below = r.by.below; names = r.by.names; gives = r.by.gives ∙ e };
    }

unmoved_more : (T : Task) (chosen : Chosen) (m x : ℕ) → Unmoved T chosen m x → (chosen m ≡ true → Untouched (action T m).effects x)
    → Unmoved T chosen (suc m) x
unmoved_more T chosen m x h k a l t i b e = ⊎_elim (λ q. h a q t i b e) (λ q. (rw (← q) at k) t i b e) (below_suc a m l)

module _ (T : Task) (fine : WellFormed T) (chosen : Chosen) (σ : State) (long : n T ≤ length σ) (x : ℕ) where
  -- afterwards x has the value that a chosen action gives it, or, where none touches it, its old one
  pub carried_at : (m : ℕ) → m ≤ A T
      → MovedBy T chosen m x (get_or (carried T chosen m σ) x 0) ⊎ (Unmoved T chosen m x × (get_or (carried T chosen m σ) x 0 ≡ get_or σ x 0))
  unfolding carried apply
  carried_at zero h = inr (λ a l. absurd (omega arith), refl)
  carried_at (suc m) h =
      ⊎_elim
      (λ t.
      let e : get_or (carried T chosen (suc m) σ) x 0 ≡ get_or (set_pairs (carried T chosen m σ) (action T m).effects) x 0 =
      ap (λ τ. get_or τ x 0) (carried_move T chosen m σ t) in
      ⊎_elim
      (λ r.
      inl (record {
        action_of = m;
        action_below = omega arith;
        is_chosen = t;
        by = record { place = r.place; below = r.below; names = r.names; gives = r.gives ∙ sym e };
      }))
      (λ r.
      ⊎_elim (λ q. inl (moved_more T chosen m x _ _ (sym r.1 ∙ sym e) q))
      (λ q. inr (unmoved_more T chosen m x q.0 (λ u. r.0), e ∙ r.1 ∙ q.1))
      (carried_at m (omega arith)))
      (set_pairs-at (carried T chosen m σ) (action T m).effects x (λ i l.
      omega (arith, length-carried T chosen m σ, ((fine.actions_fine m (omega arith)).effects_fine.inside_each i l).variable_below))))
      (λ t.
      let e : get_or (carried T chosen (suc m) σ) x 0 ≡ get_or (carried T chosen m σ) x 0 = ap (λ τ. get_or τ x 0) (carried_stay T chosen m σ t) in
      ⊎_elim (λ q. inl (moved_more T chosen m x _ _ (sym e) q))
      (λ q. inr (unmoved_more T chosen m x q.0 (λ u. absurd (no_choice t u)), e ∙ q.1))
      (carried_at m (omega arith)))
      (either (chosen m))
    where
      no_choice : chosen m ≡ false → chosen m ≡ true → ⊥
      no_choice p q = let z : ◌≡◌ {A = ℕ} 0 1 = cc in omega arith

-- ---- a schedule of sets

-- the state at a step, each step's chosen actions carried out
unfoldable pub walked : Task → (ℕ → Chosen) → ℕ → State
walked T moves zero = start_state T
walked T moves (suc s) = carried T (moves s) (A T) (walked T moves s)

pub length-start : (T : Task) → WellFormed T → n T ≤ length (start_state T)
unfolding start_state
length-start T fine = omega (arith, length-append T.start (replicate (max_variables - n T) 0), fine.start_whole)

pub length-walked : (T : Task) → WellFormed T → (moves : ℕ → Chosen) (s : ℕ) → n T ≤ length (walked T moves s)
unfolding walked
length-walked T fine moves zero = length-start T fine
length-walked T fine moves (suc s) = omega (arith, length-carried T (moves s) (A T) (walked T moves s), length-walked T fine moves s)

pub start_at : (T : Task) → WellFormed T → (x : ℕ) → x < n T → get_or (start_state T) x 0 ≡ start_value T x
unfolding start_state
start_at T fine x h = get_or-append T.start _ 0 x (omega (arith, fine.start_whole))

-- ---- only the choices below the bounds count

pub carried_ext : (T : Task) (c c' : Chosen) (m : ℕ) (σ : State) → ((a : ℕ) → a < m → c a ≡ c' a) → carried T c m σ ≡ carried T c' m σ
unfolding carried
carried_ext T c c' zero σ h = refl
carried_ext T c c' (suc m) σ h = rw (carried_ext T c c' m σ (λ a l. h a (omega arith)), h m (omega arith))

pub walked_ext : (T : Task) (c c' : ℕ → Chosen) (k : ℕ) → ((s a : ℕ) → s < k → a < A T → c s a ≡ c' s a) → walked T c k ≡ walked T c' k
unfolding walked
walked_ext T c c' zero h = refl
walked_ext T c c' (suc k) h =
    carried_ext T (c k) (c' k) (A T) (walked T c k) (λ a l. h k a (omega arith) l)
    ∙ ap (carried T (c' k) (A T)) (walked_ext T c c' k (λ s a l b. h s a (omega arith) b))

-- ---- at most one move

pub carried_none : (T : Task) (c : Chosen) (m : ℕ) (σ : State) → ((a : ℕ) → a < m → c a ≡ false) → carried T c m σ ≡ σ
unfolding carried
carried_none T c zero σ h = refl
carried_none T c (suc m) σ h = carried_stay T c m σ (h m (omega arith)) ∙ carried_none T c m σ (λ a l. h a (omega arith))

pub carried_one : (T : Task) (c : Chosen) (m : ℕ) (σ : State) (a : ℕ) → a < m → c a ≡ true → ((b : ℕ) → b < m → (b ≡ a → ⊥) → c b ≡ false)
    → carried T c m σ ≡ apply T a σ
carried_one T c zero σ a l t h = absurd (omega arith)
carried_one T c (suc m) σ a l t h =
    ⊎_elim
    (λ b. carried_stay T c m σ (h m (omega arith) (λ e. omega arith)) ∙ carried_one T c m σ a b t (λ b' l' ne. h b' (omega arith) ne))
    (λ e.
    carried_move T c m σ (ap c (sym e) ∙ t)
    ∙ ap (apply T m) (carried_none T c m σ (λ b l'. h b (omega arith) (λ q. omega arith)))
    ∙ ap (λ b. apply T b σ) (sym e))
    (below_suc a m l)
