-- All good schedules for a horizon, listed by trying every row of entries: each good schedule stands in the list, and nothing else does.
-- Assumes nothing.
use Rattle.std.specs.Prelude.{Ok, Err}
use mathlib.Core.Path.{◌≡◌, refl, sym, ap, ◌∙◌}
use mathlib.Core.Logic.{⊎_elim}
use mathlib.Core.Bool.{Bool, true, false}
use mathlib.Core.List.{List, [], ◌∷◌, ◌++◌, map, Memᴰ}
use Prim.Native.Nat.{ℕ, zero, suc, ◌≤◌, ◌<◌}
use native.Mathlib.Omega.{arith}
use lib.ListN.{length}
use Rattle.rules.specs.Counting.{for_each, when}
use Rattle.rules.specs.Answers.{judge, Verdict}
use Rattle.rules.specs.Task.{Task, A}
use Rattle.rules.specs.Walk.{entry, schedule_rules, Good}
use Rattle.rules.proofs.Bools.{clash, below_suc}
use Rattle.rules.proofs.Schedules.{carried_out, out_carried}

-- every row of k entries from 0 to m
unfoldable pub all_rows : ℕ → ℕ → List (List ℕ)
all_rows m zero = [] ∷ []
all_rows m (suc k) = for_each (suc m) (λ e. map (λ row. e ∷ row) (all_rows m k))

abbrev pub is_accepted : Verdict → Bool
is_accepted (Ok _) = true
is_accepted (Err why) = false

accepted_is : (v : Verdict) → is_accepted v ≡ true → v ≡ Ok tt
accepted_is (Ok _) h = refl
accepted_is (Err why) h = clash h refl

-- those that are in order
unfoldable pub in_order : Task → ℕ → List (List ℕ) → List (List ℕ)
in_order T k [] = []
in_order T k (row ∷ rows) = when (is_accepted (judge (schedule_rules T k row))) (row ∷ []) ++ in_order T k rows

unfoldable pub good_schedules : Task → ℕ → List (List ℕ)
good_schedules T k = in_order T k (all_rows (A T) k)

module _ {X : Type 0} where
  in_for_each : (m : ℕ) (f : ℕ → List X) (x : X) (i : ℕ) → i < m → Memᴰ x (f i) → Memᴰ x (for_each m f)
  unfolding for_each
  in_for_each zero f x i l h = absurd (omega arith)
  in_for_each (suc m) f x i l h =
      ⊎_elim (λ b. mathlib.Core.List.Memᴰ.append_left (f m) (in_for_each m f x i b h)) (λ e. mathlib.Core.List.Memᴰ.append_right (for_each m f) (rw (← e) h)) (below_suc i m l)

  of_for_each : (m : ℕ) (f : ℕ → List X) (x : X) → Memᴰ x (for_each m f) → (i : ℕ) × Memᴰ x (f i)
  unfolding for_each
  of_for_each zero f x h = absurd (mathlib.Core.List.Memᴰ.not-nil h)
  of_for_each (suc m) f x h = ⊎_elim (λ q. of_for_each m f x q) (λ q. (m, q)) (mathlib.Core.List.Memᴰ.append_cases (for_each m f) h)

-- a row of a longer row's list has an entry before it
in_map : (e : ℕ) (row : List ℕ) (rows : List (List ℕ)) → Memᴰ row rows → Memᴰ (e ∷ row) (map (λ r. e ∷ r) rows)
in_map e row [] h = absurd (mathlib.Core.List.Memᴰ.not-nil h)
in_map e row (r ∷ rows) h =
    ⊎_elim (λ q. mathlib.Core.List.Memᴰ.head (ap (λ t. e ∷ t) q)) (λ q. mathlib.Core.List.Memᴰ.tail (in_map e row rows q)) (mathlib.Core.List.Memᴰ.cases_cons h)

of_map : (e : ℕ) (row : List ℕ) (rows : List (List ℕ)) → Memᴰ row (map (λ r. e ∷ r) rows) → (r : List ℕ) × Memᴰ r rows × (row ≡ e ∷ r)
of_map e row [] h = absurd (mathlib.Core.List.Memᴰ.not-nil h)
of_map e row (r ∷ rows) h =
    ⊎_elim (λ q. (r, mathlib.Core.List.Memᴰ.head refl, q))
    (λ q. let s = of_map e row rows q in (s.0, mathlib.Core.List.Memᴰ.tail s.1, s.2))
    (mathlib.Core.List.Memᴰ.cases_cons h)

all_there : (m : ℕ) (row : List ℕ) → ((s : ℕ) → s < length row → entry row s ≤ m) → Memᴰ row (all_rows m (length row))
unfolding all_rows
all_there m [] h = mathlib.Core.List.Memᴰ.head refl
all_there m (e ∷ row) h =
    in_for_each (suc m) _ (e ∷ row) e (omega (arith, h 0 (omega arith)))
    (in_map e row (all_rows m (length row)) (all_there m row (λ s l. h (suc s) (omega arith))))

all_long : (m k : ℕ) (row : List ℕ) → Memᴰ row (all_rows m k) → length row ≡ k
unfolding all_rows
all_long m zero row h = ⊎_elim (λ q. ap length q) (λ q. absurd (mathlib.Core.List.Memᴰ.not-nil q)) (mathlib.Core.List.Memᴰ.cases_cons h)
all_long m (suc k) row h =
    let f = of_for_each (suc m) (λ e. map (λ r. e ∷ r) (all_rows m k)) row h in
    let r = of_map f.0 row (all_rows m k) f.1 in
    ap length r.2 ∙ ap suc (all_long m k r.0 r.1)

in_order_lem : (T : Task) (k : ℕ) (rows : List (List ℕ)) (row : List ℕ) → Memᴰ row rows → judge (schedule_rules T k row) ≡ Ok tt → Memᴰ row (in_order T k rows)
unfolding in_order
in_order_lem T k [] row h a = absurd (mathlib.Core.List.Memᴰ.not-nil h)
in_order_lem T k (r ∷ rows) row h a =
    ⊎_elim
    (λ q.
    let e : judge (schedule_rules T k r) ≡ Ok tt = ap (λ t. judge (schedule_rules T k t)) (sym q) ∙ a in
    let there : Memᴰ row (when (is_accepted (judge (schedule_rules T k r))) (r ∷ [])) = rw e (mathlib.Core.List.Memᴰ.head q) in
    mathlib.Core.List.Memᴰ.append_left (in_order T k rows) there)
    (λ q. mathlib.Core.List.Memᴰ.append_right (when (is_accepted (judge (schedule_rules T k r))) (r ∷ [])) (in_order_lem T k rows row q a))
    (mathlib.Core.List.Memᴰ.cases_cons h)

of_order : (T : Task) (k : ℕ) (rows : List (List ℕ)) (row : List ℕ) → Memᴰ row (in_order T k rows)
    → Memᴰ row rows × (judge (schedule_rules T k row) ≡ Ok tt)
unfolding in_order
of_order T k [] row h = absurd (mathlib.Core.List.Memᴰ.not-nil h)
of_order T k (r ∷ rows) row h =
    ⊎_elim
    (λ q. let p = kept (is_accepted (judge (schedule_rules T k r))) q in
    (mathlib.Core.List.Memᴰ.head p.1, ap (λ t. judge (schedule_rules T k t)) p.1 ∙ accepted_is (judge (schedule_rules T k r)) p.0))
    (λ q. let p = of_order T k rows row q in (mathlib.Core.List.Memᴰ.tail p.0, p.1))
    (mathlib.Core.List.Memᴰ.append_cases (when (is_accepted (judge (schedule_rules T k r))) (r ∷ [])) h)
  where
    kept : (b : Bool) → Memᴰ row (when b (r ∷ [])) → (b ≡ true) × (row ≡ r)
    kept true q = (refl, ⊎_elim (λ e. e) (λ n. absurd (mathlib.Core.List.Memᴰ.not-nil n)) (mathlib.Core.List.Memᴰ.cases_cons q))
    kept false q = absurd (mathlib.Core.List.Memᴰ.not-nil q)

pub good_listed : (T : Task) (k : ℕ) (schedule : List ℕ) → Good T k schedule → Memᴰ schedule (good_schedules T k)
unfolding good_schedules
good_listed T k schedule g =
    in_order_lem T k (all_rows (A T) k) schedule
    (rw g.entries at (all_there (A T) schedule (λ s l. g.carried.entries_known s (rw g.entries at l))))
    (out_carried T k schedule g.carried)

pub listed_good : (T : Task) (k : ℕ) (schedule : List ℕ) → Memᴰ schedule (good_schedules T k) → Good T k schedule
unfolding good_schedules
listed_good T k schedule h =
    let p = of_order T k (all_rows (A T) k) schedule h in
    record { entries = all_long (A T) k schedule p.0; carried = carried_out T k schedule p.1 }
