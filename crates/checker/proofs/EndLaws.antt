-- The end of a reading, way by way.
-- Assumes nothing.
use Rattle.std.specs.Prelude.{Ok, Err}
use mathlib.Core.Path.{◌≡◌, sym, ap, ◌∙◌}
use mathlib.Core.Bool.{Bool, true, false, not, ◌&&◌}
use mathlib.Core.List.{List, [], ◌∷◌, ◌++◌}
use Prim.Native.Nat.{ℕ, ◌≤◌, ◌<◌}
use native.Mathlib.Omega.{arith}
use borrow.Author.Tests.{leb-true}
use lib.Dec.{leb}
use lib.ListN.{length, drop}
use Rattle.rules.specs.Counting.{first}
use Rattle.rules.specs.Answers.{demand, judge, in_turn, Verdict}
use Rattle.rules.specs.Numbering.{N}
use Rattle.rules.specs.Families.{C}
use Rattle.rules.specs.Rows.{Rows}
use Rattle.rules.specs.Truth.{Model, model_in}
use Rattle.rules.specs.Lines.{rows_fit}
use Rattle.rules.specs.Output.{ending, model_rules, outcome}
use Rattle.rules.specs.Readings.{schedule_of}
use Rattle.rules.specs.Calls.{problem_of, problem_rules, problem_verdict, lent_after, end_verdict, end_entries}
use Rattle.rules.specs.declared.Refusal.{Refusal}
use Rattle.rules.specs.declared.Refusal.TheVariants.{Room, UnmetClause}
use Rattle.rules.specs.declared.Phase.{Phase}
use Rattle.rules.proofs.Bools.{not_true, not_false, and_right}
use Rattle.rules.proofs.Counting.{first_le, length-table}
use Rattle.rules.proofs.Judging.{judge_refused, judge_passed, judge_append, judge_nil, judge_head, in_turn-left}
use Rattle.rules.proofs.Loops.{judge_found, judge_none}
use Rattle.checker.specs.Order.{is_unmet}
use Rattle.checker.specs.End.{lent, end_with}

-- ---- 17

module _ (file : List ℕ) (k : ℕ) (rows : Rows) (c n : ℕ) (g : c ≡ first (C (problem_of file k)) (is_unmet file k rows)) (z : n ≡ C (problem_of file k)) where
  pub clause_unmet : c < n → Err (UnmetClause c) ≡ judge (model_rules (problem_of file k) rows)
  unfolding model_rules is_unmet
  clause_unmet b = sym (judge_found (C (problem_of file k)) _ UnmetClause [] c (omega arith) g)

  pub clauses_met : n ≤ c → Ok tt ≡ judge (model_rules (problem_of file k) rows)
  unfolding model_rules is_unmet
  clauses_met b =
      sym (judge_none (C (problem_of file k)) _ UnmetClause [] (omega (arith, g, first_le (C (problem_of file k)) (is_unmet file k rows))) ∙ judge_nil)

-- ---- in their order

module _ (file given is_true : List ℕ) (k room : ℕ) (phase : Phase) (b : Bool)
    (e : b ≡ (rows_fit (N (problem_of file k)) (lent given is_true) && leb k room)) where
  pub no_room : not b ≡ true → Err Room ≡ end_with file k phase (lent given is_true) room
  unfolding end_with
  no_room z =
      sym (ap (λ v. in_turn v (outcome (problem_of file k) phase (lent given is_true))) (judge_refused (demand (rows_fit (N (problem_of file k)) (lent given is_true) && leb k room) Room) [] (sym e ∙ not_true b z)))

  module _ (z : not b ≡ false) (s : Verdict) (h : s ≡ ending phase) where
    to_status : end_with file k phase (lent given is_true) room ≡ in_turn s (judge (model_rules (problem_of file k) (lent given is_true)))
    unfolding end_with outcome
    to_status =
        ap (λ v. in_turn v (outcome (problem_of file k) phase (lent given is_true)))
        (judge_passed (demand (rows_fit (N (problem_of file k)) (lent given is_true) && leb k room) Room) [] (sym e ∙ not_false b z) ∙ judge_nil)
        ∙ ap (λ s. in_turn s (judge (model_rules (problem_of file k) (lent given is_true)))) (sym h)

    pub status_wrong : (why : Refusal) → s ≡ Err why → s ≡ end_with file k phase (lent given is_true) room
    status_wrong why f = rw (to_status, f)

    pub status_right : (v : Verdict) → s ≡ Ok tt → v ≡ judge (model_rules (problem_of file k) (lent given is_true)) → v ≡ end_with file k phase (lent given is_true) room
    status_right v f g = rw (to_status, f) g

-- ---- the whole

module _ (file given is_true entries : List ℕ) (k : ℕ) (phase : Phase) (p : Verdict) (e : p ≡ problem_verdict file k) where
  whole : end_verdict file k phase (lent given is_true) entries
      ≡ in_turn (in_turn p (judge (demand (rows_fit (N (problem_of file k)) (lent given is_true) && leb k (length entries)) Room ∷ [])))
      (outcome (problem_of file k) phase (lent given is_true))
  unfolding end_verdict problem_verdict
  whole =
      ap (λ v. in_turn v (outcome (problem_of file k) phase (lent given is_true)))
      (judge_append (problem_rules file k) _
      ∙ ap (λ p. in_turn p (judge (demand (rows_fit (N (problem_of file k)) (lent given is_true) && leb k (length entries)) Room ∷ []))) (sym e))

  pub end_early : (why : Refusal) → p ≡ Err why → p ≡ end_verdict file k phase (lent given is_true) entries
  end_early why f = rw (whole, f)

  module _ (f : p ≡ Ok tt) (v : Verdict) (g : v ≡ end_with file k phase (lent given is_true) (length entries)) where
    pub end_same : v ≡ end_verdict file k phase (lent given is_true) entries
    unfolding end_with
    end_same = rw (whole, f) g

-- a refusal leaves the entries as found
pub entries_kept : (file given is_true entries : List ℕ) (k : ℕ) (phase : Phase) (v : Verdict) (why : Refusal)
    → v ≡ end_verdict file k phase (lent given is_true) entries → v ≡ Err why → entries ≡ end_entries file k phase (lent given is_true) entries
unfolding end_entries
entries_kept file given is_true entries k phase v why e f =
    ap (λ v. lent_after v (schedule_of (problem_of file k) (model_in (lent given is_true))) entries) (sym f ∙ e)

length-schedule : (file : List ℕ) (k : ℕ) (M : Model) → length (schedule_of (problem_of file k) M) ≡ k
unfolding schedule_of problem_of
length-schedule file k M = length-table k _

pub entries_stated : (file given is_true entries written : List ℕ) (k : ℕ) (phase : Phase) (v : Verdict)
    → v ≡ end_verdict file k phase (lent given is_true) entries → v ≡ Ok tt
    → written ≡ schedule_of (problem_of file k) (model_in (lent given is_true)) ++ drop k entries → written ≡ end_entries file k phase (lent given is_true) entries
unfolding end_entries
entries_stated file given is_true entries written k phase v e f h =
    h
    ∙ ap (λ m. schedule_of (problem_of file k) (model_in (lent given is_true)) ++ drop m entries) (sym (length-schedule file k (model_in (lent given is_true))))
    ∙ ap (λ v. lent_after v (schedule_of (problem_of file k) (model_in (lent given is_true))) entries) (sym f ∙ e)

-- and there is room for it
pub entries_room : (file given is_true entries : List ℕ) (k : ℕ) (phase : Phase) (v : Verdict) → v ≡ end_with file k phase (lent given is_true) (length entries) → v ≡ Ok tt
    → k ≤ length entries
unfolding end_with
entries_room file given is_true entries k phase v e f =
    leb-true k (length entries)
    (and_right (rows_fit (N (problem_of file k)) (lent given is_true)) (leb k (length entries)) (judge_head _ [] (in_turn-left _ _ (sym e ∙ f))))

-- ---- what the end leaves, way by way

module _ (file given is_true entries : List ℕ) (k : ℕ) (phase : Phase) (p : Verdict) (e : p ≡ problem_verdict file k) where
  pub early_kept : (why : Refusal) → p ≡ Err why → entries ≡ end_entries file k phase (lent given is_true) entries
  early_kept why f = entries_kept file given is_true entries k phase p why (end_early file given is_true entries k phase p e why f) f

  module _ (f : p ≡ Ok tt) (v : Verdict) (g : v ≡ end_with file k phase (lent given is_true) (length entries)) where
    pub late_kept : (why : Refusal) → v ≡ Err why → entries ≡ end_entries file k phase (lent given is_true) entries
    late_kept why h = entries_kept file given is_true entries k phase v why (end_same file given is_true entries k phase p e f v g) h

    pub end_accepted : v ≡ Ok tt → Ok tt ≡ end_verdict file k phase (lent given is_true) entries
    end_accepted h = sym h ∙ end_same file given is_true entries k phase p e f v g

    pub late_stated : (written : List ℕ) → v ≡ Ok tt → written ≡ schedule_of (problem_of file k) (model_in (lent given is_true)) ++ drop k entries
        → written ≡ end_entries file k phase (lent given is_true) entries
    late_stated written h w = entries_stated file given is_true entries written k phase v (end_same file given is_true entries k phase p e f v g) h w
