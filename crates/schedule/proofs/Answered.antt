-- Demand 2 over the way back's own answer: a schedule becomes a model exactly if its moves can be carried out and reach the goal, where the file and
-- the horizon are accepted and enough is lent; and then both rows are the model's. And the half of demand 3 that is about these rows: they make every
-- clause true and state the schedule again.
-- Assumes nothing.
use Rattle.std.specs.Prelude.{Ok}
use mathlib.Core.Path.{◌≡◌, sym, ap, ◌∙◌}
use mathlib.Core.Logic.{◌↔◌}
use mathlib.Core.Bool.{true, ◌&&◌}
use mathlib.Core.List.{List, [], ◌∷◌, ◌++◌}
use Prim.Native.Nat.{ℕ, ◌≤◌}
use borrow.Author.Tests.{leb-true, le-leb}
use lib.Dec.{leb}
use lib.ListN.{length, take}
use Rattle.rules.specs.Answers.{Rule, demand, judge, Verdict}
use Rattle.rules.specs.Numbering.{N}
use Rattle.rules.specs.Problem.{Problem}
use Rattle.rules.specs.File.{task_of, file_rules, file_verdict}
use Rattle.rules.specs.Rows.{Rows}
use Rattle.rules.specs.Truth.{model_in}
use Rattle.rules.specs.Lines.{rows_fit}
use Rattle.rules.specs.Walk.{CarriedOut, schedule_rules}
use Rattle.rules.specs.Readings.{schedule_of, rows_of}
use Rattle.rules.specs.Calls.{problem_of, problem_rules, problem_verdict, back_verdict, back_rows}
use Rattle.rules.specs.declared.Refusal.TheVariants.{Room}
use Rattle.rules.proofs.Bools.{and_left, and_right, and_both}
use Rattle.rules.proofs.Judging.{judge_nil, judge_head, judge_cons, judge_append, in_turn-left, in_turn-right, in_turn-both}
use Rattle.rules.proofs.Valid.{WellFormed}
use Rattle.rules.proofs.Files.{accepted_well_formed}
use Rattle.rules.specs.declared.Phase.TheVariants.{ModelClosed}
use Rattle.rules.proofs.Endings.{ModelHolds}
use Rattle.rules.proofs.Schedules.{carried_out, out_carried}
use Rattle.rules.proofs.InRows.{schedule_rows, schedule_again}
use Rattle.schedule.specs.Written.{lent}
use Rattle.schedule.proofs.way_back.Reads as way_back

module _ (file : List ℕ) (k : ℕ) (entries : List ℕ) (rows : Rows) where
  pub record BecomesModel : Type 0 where
    pub problem_stands : problem_verdict file k ≡ Ok tt
    pub rows_there : rows_fit (N (problem_of file k)) rows ≡ true
    pub entries_there : k ≤ length entries
    pub carried : CarriedOut (task_of file) k entries

  abbrev room : List Rule
  room = demand (rows_fit (N (problem_of file k)) rows && leb k (length entries)) Room ∷ []

  well : BecomesModel → WellFormed (task_of file)
  unfolding problem_verdict problem_rules file_verdict
  well b = accepted_well_formed file (in_turn-left (judge (file_rules file)) _ (sym (judge_append (file_rules file) _) ∙ b.problem_stands))

  becomes : back_verdict file k entries rows ≡ Ok tt → BecomesModel
  unfolding back_verdict problem_verdict
  becomes h =
      let rules : List Rule = problem_rules file k ++ room in
      let all = sym (judge_append rules (schedule_rules (task_of file) k entries)) ∙ h in
      let before = sym (judge_append (problem_rules file k) room) ∙ in_turn-left (judge rules) _ all in
      let fit = judge_head _ [] (in_turn-right (judge (problem_rules file k)) _ before) in
      record {
        problem_stands = in_turn-left (judge (problem_rules file k)) _ before;
        rows_there = and_left (rows_fit (N (problem_of file k)) rows) _ fit;
        entries_there = leb-true k (length entries) (and_right (rows_fit (N (problem_of file k)) rows) _ fit);
        carried = carried_out (task_of file) k entries (in_turn-right (judge rules) _ all);
      }

  accepted : BecomesModel → back_verdict file k entries rows ≡ Ok tt
  unfolding back_verdict problem_verdict
  accepted b =
      judge_append (problem_rules file k ++ room) (schedule_rules (task_of file) k entries)
      ∙ in_turn-both (judge (problem_rules file k ++ room)) _
      (judge_append (problem_rules file k) room
      ∙ in_turn-both (judge (problem_rules file k)) (judge room) b.problem_stands
      (judge_cons _ [] (and_both (rows_fit (N (problem_of file k)) rows) _ b.rows_there (le-leb k (length entries) b.entries_there)) judge_nil))
      (out_carried (task_of file) k entries b.carried)

  -- such rows are a model, and state the schedule
  model_back : BecomesModel → ModelHolds (problem_of file k) ModelClosed (rows_of (problem_of file k) entries rows)
  unfolding problem_of
  model_back b = schedule_rows (task_of file) (well b) k entries rows b.carried

  schedule_back : BecomesModel → schedule_of (problem_of file k) (model_in (rows_of (problem_of file k) entries rows)) ≡ take k entries
  unfolding problem_of
  schedule_back b = schedule_again (task_of file) (well b) k entries rows b.entries_there b.carried

  left : back_verdict file k entries rows ≡ Ok tt → back_rows file k entries rows ≡ rows_of (problem_of file k) entries rows
  unfolding back_rows
  left h = rw h

module _ (κs : _) (a : _) (r : Verdict) (x : _) (promised : way_back.Post κs a r x) where
  abbrev rows : Rows
  rows = lent a.1.1.1.0.now a.1.1.1.1.0.now

  pub accepts_exactly : (r ≡ Ok tt) ↔ BecomesModel a.0.now a.1.0 a.1.1.0.now rows
  accepts_exactly = (
    λ e. becomes a.0.now a.1.0 a.1.1.0.now rows (sym promised.0 ∙ e),
    λ b. promised.0 ∙ accepted a.0.now a.1.0 a.1.1.0.now rows b,
  )

  module _ (e : r ≡ Ok tt) where
    abbrev P : Problem
    P = problem_of a.0.now a.1.0

    abbrev after : Rows
    after = lent x.1.1.1.0.now x.1.1.1.1.0.now

    stands : BecomesModel a.0.now a.1.0 a.1.1.0.now rows
    stands = accepts_exactly.0 e

    pub then_its_model : after ≡ rows_of P a.1.1.0.now rows
    then_its_model = promised.1 ∙ left a.0.now a.1.0 a.1.1.0.now rows (sym promised.0 ∙ e)

    pub which_holds : ModelHolds P ModelClosed after
    which_holds = rw then_its_model (model_back a.0.now a.1.0 a.1.1.0.now rows stands)

    pub and_states_it : schedule_of P (model_in after) ≡ take a.1.0 a.1.1.0.now
    and_states_it = ap (λ l. schedule_of P (model_in l)) then_its_model ∙ schedule_back a.0.now a.1.0 a.1.1.0.now rows stands
