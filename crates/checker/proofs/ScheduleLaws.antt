-- The schedule that a model states, entry by entry.
-- Assumes nothing.
use mathlib.Core.Path.{◌≡◌, refl, sym, ap, ap₂, ◌∙◌}
use mathlib.Core.Bool.{false, cond}
use mathlib.Core.List.{List, [], ◌∷◌, ◌++◌, append_assoc, append-nil}
use Prim.Native.Nat.{ℕ, suc, ◌+◌, ◌≤◌, ◌<◌}
use native.Mathlib.Omega.{arith}
use native.Mathlib.Numerals.{add-one}
use borrow.Author.Tests.{lt-ltb, le-ltb}
use mir.Syntax.{w32}
use mir.Val.{Fits}
use lib.ListN.{length, get_or, set, take, drop, drop_of_length-le}
use lib.Seq.{set_at, drop-cons, length-take-le}
use Rattle.rules.specs.Counting.{first, table, for_each}
use Rattle.rules.specs.Task.{Task, A}
use Rattle.rules.specs.Numbering.{action_number}
use Rattle.rules.specs.Rows.{Rows}
use Rattle.rules.specs.Truth.{model_in}
use Rattle.rules.specs.File.{task_of}
use Rattle.rules.specs.Calls.{problem_of}
use Rattle.rules.specs.Readings.{true_action, entry_of, schedule_of}
use Rattle.rules.proofs.Counting.{first_ext, length-table}
use Rattle.rules.proofs.Files.{accepted_well_formed}
use Rattle.task.specs.Index.{Indexed}
use Rattle.task.specs.Numbers.{at_any_horizon}
use Rattle.rows.specs.Bits.{counts_true, set_from}
use Rattle.rows.specs.Stretch.{count_set}
use Rattle.checker.proofs.Clauses.{literal_plus}
use Rattle.checker.proofs.FirstTwo.{none_there}

module _ (file : List ℕ) (rows : Rows) (s : ℕ) where
  abbrev T : Task
  T = task_of file

  abbrev stated : ℕ
  stated = entry_of (at_any_horizon file) (model_in rows) s

  -- the true action is the first set bit
  true_is : (m from t : ℕ) → m ≡ A T → from ≡ action_number (at_any_horizon file) s 0 → t ≡ first m (set_from (counts_true false rows) from)
      → true_action (at_any_horizon file) (model_in rows) s ≡ t
  unfolding true_action set_from action_number
  true_is m from t g e h =
      first_ext (A T) _ (set_from (counts_true false rows) from) (λ a l. literal_plus rows (action_number (at_any_horizon file) s a) ∙ ap (counts_true false rows) (omega arith)) ∙ ap (λ m. first m (set_from (counts_true false rows) from)) (sym g) ∙ sym h

  pub entry_some : (m from t : ℕ) → m ≡ A T → from ≡ action_number (at_any_horizon file) s 0 → t ≡ first m (set_from (counts_true false rows) from) → t < m → t + 1 ≡ stated
  unfolding entry_of
  entry_some m from t g e h l =
      let z : true_action (at_any_horizon file) (model_in rows) s ≡ t = true_is m from t g e h in
      add-one t ∙ sym (ap₂ (λ b u. cond b (suc u) 0) (lt-ltb (true_action (at_any_horizon file) (model_in rows) s) (A T) (omega arith)) z)

  pub entry_none : (m from c : ℕ) → m ≡ A T → from ≡ action_number (at_any_horizon file) s 0 → c ≡ count_set (counts_true false rows) from m → c ≡ 0 → 0 ≡ stated
  unfolding entry_of
  entry_none m from c g e h l =
      let z : true_action (at_any_horizon file) (model_in rows) s ≡ m = true_is m from m g e (none_there (counts_true false rows) from m c h l) in
      sym (ap (λ b. cond b (suc (true_action (at_any_horizon file) (model_in rows) s)) 0) (le-ltb (true_action (at_any_horizon file) (model_in rows) s) (A T) (omega arith)))

  pub entry_idle : (m : ℕ) → m ≡ A T → m ≡ 0 → 0 ≡ stated
  unfolding entry_of
  entry_idle m g z =
      sym (ap (λ b. cond b (suc (true_action (at_any_horizon file) (model_in rows) s)) 0) (le-ltb (true_action (at_any_horizon file) (model_in rows) s) (A T) (omega arith)))

  pub entry_small : (index : List ℕ) (m t : ℕ) → Indexed file index → m ≡ A T → t < m → Fits w32 (t + 1)
  entry_small index m t ix g l = record { fits = omega (arith, (accepted_well_formed file ix.accepted).actions_few) }

-- ---- entries written one behind the other

module _ (file : List ℕ) (rows : Rows) where
  abbrev entries : ℕ → List ℕ
  entries s = table s (entry_of (at_any_horizon file) (model_in rows))

  pub entries_none : (lent : List ℕ) → lent ≡ entries 0 ++ drop 0 lent
  unfolding for_each
  entries_none lent = refl

  pub entries_more : (lent written : List ℕ) (s e : ℕ) → s < length lent → written ≡ entries s ++ drop s lent
      → e ≡ entry_of (at_any_horizon file) (model_in rows) s → set written s e ≡ entries (s + 1) ++ drop (s + 1) lent
  unfolding for_each
  entries_more lent written s e l h g =
      rw (add-one s)
      (ap (λ w. set w s e) (h ∙ ap (λ r. entries s ++ r) (drop-cons lent s 0 l))
      ∙ set_at (entries s) (get_or lent s 0) (drop (suc s) lent) e s (length-table s (entry_of (at_any_horizon file) (model_in rows)))
      ∙ ap (λ e. entries s ++ e ∷ drop (suc s) lent) g
      ∙ sym (append_assoc (entries s) (entry_of (at_any_horizon file) (model_in rows) s ∷ []) (drop (suc s) lent)))

  pub entries_all : (k : ℕ) (lent written : List ℕ) (s : ℕ) → k ≤ length lent → s ≤ length (take k lent) → length (take k lent) ≤ s
      → written ≡ entries s ++ drop s (take k lent) → written ++ drop k lent ≡ schedule_of (problem_of file k) (model_in rows) ++ drop k lent
  unfolding schedule_of entry_of true_action action_number problem_of
  entries_all k lent written s w l u h =
      let same : s ≡ k = omega (arith, length-take-le k lent w) in
      ap (λ r. r ++ drop k lent) (rw (drop_of_length-le (take k lent) u, append-nil, same) at h)
