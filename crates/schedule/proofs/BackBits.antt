-- The bits that the way back writes are those of the schedule's assignment, and of all N variables given.
-- Assumes nothing.
use mathlib.Core.Path.{◌≡◌, refl, sym, ap, ◌∙◌}
use mathlib.Core.Bool.{Bool, true, false}
use mathlib.Core.List.{List, [], ◌∷◌}
use Prim.Native.Nat.{ℕ, zero, suc, ◌+◌, ◌-◌, ◌*◌, ◌≤◌, ◌<◌}
use native.Mathlib.Omega.{arith}
use native.Mathlib.Nat.{suc-mul, mul-le-mul_right}
use borrow.Author.Tests.{eq-eqb, ne_eqb, eqb-true}
use lib.Dec.{eqb}
use lib.ListN.{length, get_or, replicate, length-replicate, get_or-replicate}
use Rattle.rules.specs.Counting.{sum_to, table}
use Rattle.rules.specs.Task.{Task, n, d, off, S, A}
use Rattle.rules.specs.Problem.{Problem, problem}
use Rattle.rules.specs.Numbering.{stride, value_number, action_number, N}
use Rattle.rules.specs.Rows.{words_for, with_variable, packed, over_row}
use Rattle.rules.specs.Walk.{entry, state_at}
use Rattle.rules.specs.Readings.{value_bits, action_bits, assignment_of}
use Rattle.rules.proofs.Bools.{same_truth}
use Rattle.rules.proofs.Counting.{table_get_or, for_each-ext, sum_to-part}
use Rattle.rules.proofs.Valid.{WellFormed}
use Rattle.rules.proofs.LaidOut.{values_at, step_at, layout, layout_value, layout_action}
use Rattle.rules.proofs.Schedules.{entry_moves, length-assignment}
use Rattle.walk.proofs.Tasks.{Whole, state_whole}
use Rattle.schedule.specs.Written.{all_set, Inside, values_set, entry_set, step_set, steps_set, all_true_set}
use Rattle.schedule.proofs.UpTo.{row_up_to, row_none, row_all, row_one, row_no_more}

-- ---- all given

given_up_to : (m i : ℕ) (row : List ℕ) → i ≤ m → all_set i (row_up_to m (λ j. true) 0 row) ≡ row_up_to m (λ j. true) i row
unfolding all_set
given_up_to m zero row h = refl
given_up_to m (suc i) row h =
    ap (λ r. with_variable r (suc i) true) (given_up_to m i row (omega arith))
    ∙ row_one m (λ j. true) i 1 (omega arith) row 0 (suc i) (omega arith) (omega arith) (λ u l. sym (eq-eqb 0 u (omega arith)))
    ∙ ap (λ k. row_up_to m (λ j. true) k row) (omega arith)

pub all_given : (m : ℕ) (row : List ℕ) → all_set m (over_row (replicate (words_for m) 0) row) ≡ over_row (packed (replicate m true)) row
all_given m row =
    ap (all_set m) (row_none m (λ j. true) row)
    ∙ given_up_to m m row (omega arith)
    ∙ row_all m (λ j. true) row
    ∙ ap (λ bits. over_row (packed bits) row) trues
  where
    trues : table m (λ j. true) ≡ replicate m true
    trues =
        let long : length (replicate m true) ≡ m = length-replicate m true in
        for_each-ext m _ (λ j. get_or (replicate m true) j true ∷ []) (λ j l. ap (λ b. b ∷ []) (sym (get_or-replicate m j true true l)))
        ∙ ap (λ k. table k (λ j. get_or (replicate m true) j true)) (sym long)
        ∙ table_get_or (replicate m true) true

-- ---- the true bits

module _ (T : Task) (fine : WellFormed T) (k : ℕ) (entries : List ℕ) where
  abbrev P : Problem
  P = problem T k

  -- by its numbers alone, at any horizon
  abbrev numbers : Problem
  numbers = problem T 0

  abbrev final : ℕ → Bool
  final i = get_or (assignment_of P entries) i false

  abbrev up_to : ℕ → List ℕ → List ℕ
  up_to i row = row_up_to (N P) final i row

  assignment_laid : assignment_of P entries ≡ layout P (λ s x v. eqb (get_or (state_at T entries s) x 0) v) (entry_moves entries)
  unfolding assignment_of layout step_at values_at value_bits action_bits
  assignment_laid = refl

  value_bit : (s x v : ℕ) → s ≤ k → x < n T → v < d T x → final (s * stride T + off T x + v) ≡ eqb (get_or (state_at T entries s) x 0) v
  unfolding value_number
  value_bit s x v hs hx hv =
      let at : s * stride T + off T x + v ≡ s * stride T + off T x + v + 1 - 1 = omega arith in
      ap final at
      ∙ ap (λ l. get_or l (s * stride T + off T x + v + 1 - 1) false) assignment_laid
      ∙ layout_value P (λ s x v. eqb (get_or (state_at T entries s) x 0) v) (entry_moves entries) s x v
      (record { step_of = hs; variable_of_lem = hx; value_of = hv })

  action_bit : (s a : ℕ) → s < k → a < A T → final (s * stride T + S T + a) ≡ eqb (entry entries s) (suc a)
  unfolding action_number
  action_bit s a hs ha =
      let at : s * stride T + S T + a ≡ s * stride T + S T + a + 1 - 1 = omega arith in
      ap final at
      ∙ ap (λ l. get_or l (s * stride T + S T + a + 1 - 1) false) assignment_laid
      ∙ layout_action P (λ s x v. eqb (get_or (state_at T entries s) x 0) v) (entry_moves entries) s a (record { step_of = hs; action_of = ha })

  pub state_inside : (s : ℕ) → Inside T (state_at T entries s)
  state_inside s =
      let w : Whole T (state_at T entries s) = state_whole T fine entries s in
      record { long = omega (arith, w.all_there, fine.variables_few); inside = w.before_n }

  module _ (s : ℕ) (hs : s ≤ k) (row : List ℕ) where
    steps_fit : s * stride T + S T ≤ N P
    unfolding N
    steps_fit = omega (arith, mul-le-mul_right (stride T) hs)

    values_set_lem : (x : ℕ) → x ≤ n T → values_set numbers s (state_at T entries s) x (up_to (s * stride T) row) ≡ up_to (s * stride T + off T x) row
    unfolding values_set value_number sum_to
    values_set_lem zero h = ap (λ i. up_to i row) (omega arith)
    values_set_lem (suc x) h =
        let v : ℕ = get_or (state_at T entries s) x 0 in
        ap (λ r. with_variable r (s * stride T + off T x + v + 1) true) (values_set_lem x (omega arith))
        ∙ row_one (N P) final (s * stride T + off T x) (d T x) (omega (arith, steps_fit, sum_to-part (n T) (d T) x h)) row v _ (omega arith)
        ((state_inside s).inside x h) (λ u l. value_bit s x u hs h l)
        ∙ ap (λ i. up_to i row) (omega arith)

  module _ (s : ℕ) (hs : s < k) (row : List ℕ) where
    step_fits : s * stride T + S T + A T ≤ N P
    unfolding N
    step_fits = omega (arith, mul-le-mul_right (stride T) hs, suc-mul s (stride T))

    entry_set_lem : (e : ℕ) → e ≡ entry entries s → e ≤ A T → entry_set numbers s e (up_to (s * stride T + S T) row) ≡ up_to (s * stride T + S T + A T) row
    unfolding action_number
    entry_set_lem zero q h =
        row_no_more (N P) final (s * stride T + S T) (A T) step_fits row (λ a l.
        action_bit s a hs l ∙ ne_eqb (entry entries s) (suc a) (λ r. omega arith))
    entry_set_lem (suc a) q h =
        row_one (N P) final (s * stride T + S T) (A T) step_fits row a _ (omega arith) h (λ b l.
        action_bit s b hs l ∙ ap (λ e. eqb e (suc b)) (sym q) ∙ one_less a b)
      where
        one_less : (a b : ℕ) → eqb (suc a) (suc b) ≡ eqb a b
        one_less a b =
            same_truth _ _ (λ t. eq-eqb a b (omega (arith, eqb-true (suc a) (suc b) t))) (λ t. eq-eqb (suc a) (suc b) (omega (arith, eqb-true a b t)))

  module _ (known : (s : ℕ) → s < k → entry entries s ≤ A T) (row : List ℕ) where
    steps_set_lem : (s : ℕ) → s ≤ k → steps_set numbers entries s (up_to 0 row) ≡ up_to (s * stride T) row
    unfolding steps_set step_set
    steps_set_lem zero h = ap (λ i. up_to i row) (omega arith)
    steps_set_lem (suc s) h =
        ap (λ r. entry_set numbers s (entry entries s) (values_set numbers s (state_at T entries s) (n T) r)) (steps_set_lem s (omega arith))
        ∙ ap (entry_set numbers s (entry entries s)) (values_set_lem s (omega arith) row (n T) (omega arith))
        ∙ entry_set_lem s h row (entry entries s) refl (known s h)
        ∙ ap (λ i. up_to i row) (omega (arith, suc-mul s (stride T)))

    pub all_true : all_true_set numbers entries k (over_row (replicate (words_for (N P)) 0) row) ≡ over_row (packed (assignment_of P entries)) row
    unfolding all_true_set N
    all_true =
        ap (λ r. values_set numbers k (state_at T entries k) (n T) (steps_set numbers entries k r)) (row_none (N P) final row)
        ∙ ap (values_set numbers k (state_at T entries k) (n T)) (steps_set_lem k (omega arith))
        ∙ values_set_lem k (omega arith) row (n T) (omega arith)
        ∙ row_all (N P) final row
        ∙ ap (λ bits. over_row (packed bits) row)
        (ap (λ m. table m final) (sym (length-assignment T k entries)) ∙ table_get_or (assignment_of P entries) false)
