-- The ways out of the way back: refusals leave both rows as found, acceptance writes both.
-- Assumes nothing.
use Rattle.std.specs.Prelude.{Ok, Err}
use mathlib.Core.Path.{◌≡◌, refl, sym, ap, ◌∙◌}
use mathlib.Core.Bool.{Bool, true, false, not, ◌&&◌}
use mathlib.Core.List.{List, [], ◌∷◌, ◌++◌, append_assoc}
use Prim.Native.Nat.{ℕ, ◌≤◌, ◌<◌}
use borrow.Author.Tests.{le-leb, lt-leb, leb-true}
use lib.Dec.{leb}
use lib.ListN.{length, replicate}
use Rattle.rules.specs.Limits.{max_horizon}
use Rattle.rules.specs.Answers.{Rule, demand, judge, in_turn, Verdict}
use Rattle.rules.specs.Task.{Task}
use Rattle.rules.specs.Numbering.{N}
use Rattle.rules.specs.File.{task_of, file_verdict}
use Rattle.rules.specs.Rows.{words_for, packed, over_row}
use Rattle.rules.specs.Lines.{rows_fit}
use Rattle.rules.specs.Walk.{CarriedOut, schedule_rules}
use Rattle.rules.specs.Readings.{assignment_of, rows_of}
use Rattle.rules.specs.Calls.{problem_of, problem_rules, problem_verdict, back_verdict, back_rows}
use Rattle.rules.specs.declared.Refusal.{Refusal}
use Rattle.rules.specs.declared.Refusal.TheVariants.{Room}
use Rattle.rules.proofs.Bools.{and_left, and_right, not_true, not_false}
use Rattle.rules.proofs.Judging.{judge_refused, judge_passed, judge_append}
use Rattle.rules.proofs.Files.{accepted_well_formed}
use Rattle.rules.proofs.Schedules.{carried_out}
use Rattle.task.specs.Index.{Indexed}
use Rattle.task.specs.Numbers.{at_any_horizon}
use Rattle.task.proofs.Stated.{problem_accepted}
use Rattle.schedule.specs.Checked.{checked_verdict}
use Rattle.schedule.specs.Written.{lent, fits, all_set, all_true_set}
use Rattle.schedule.proofs.BackBits.{all_given, all_true}

-- ---- the rows

pub given_written : (N words m : ℕ) (row row₁ row₂ : List ℕ) → words ≡ words_for N → m ≡ N → row₁ ≡ over_row (replicate words 0) row
    → row₂ ≡ all_set m row₁ → row₂ ≡ over_row (packed (replicate N true)) row
given_written N words m row row₁ row₂ ew em e₁ e₂ = e₂ ∙ rw (e₁, ew, em) (all_given N row)

pub truth_written : (file index entries : List ℕ) (k words : ℕ) (row row₁ row₂ : List ℕ) → Indexed file index → CarriedOut (task_of file) k entries
    → words ≡ words_for (N (problem_of file k)) → row₁ ≡ over_row (replicate words 0) row → row₂ ≡ all_true_set (at_any_horizon file) entries k row₁
    → row₂ ≡ over_row (packed (assignment_of (problem_of file k) entries)) row
unfolding problem_of
truth_written file index entries k words row row₁ row₂ ix c ew e₁ e₂ =
    e₂ ∙ rw (e₁, ew) (all_true (task_of file) (accepted_well_formed file ix.accepted) k entries c.entries_known row)

-- ---- the rules of a call in their order, whatever room it needs

module _ (file : List ℕ) (k : ℕ) (entries : List ℕ) (room : Bool) where
  abbrev in_order : Verdict
  in_order = judge (problem_rules file k ++ (demand room Room ∷ []) ++ schedule_rules (task_of file) k entries)

  -- from room on
  abbrev room_rules : List Rule
  room_rules = demand room Room ∷ schedule_rules (task_of file) k entries

  in_turn_lem : (v : Verdict) → v ≡ problem_verdict file k → in_order ≡ in_turn v (judge room_rules)
  unfolding problem_verdict
  in_turn_lem v e =
      ap judge (append_assoc (problem_rules file k) (demand room Room ∷ []) (schedule_rules (task_of file) k entries))
      ∙ judge_append (problem_rules file k) room_rules
      ∙ ap (λ u. in_turn u (judge room_rules)) (sym e)

  problem_refuses : (v : Verdict) (why : Refusal) → v ≡ problem_verdict file k → v ≡ Err why → v ≡ in_order
  problem_refuses v why e f = f ∙ sym (in_turn_lem v e ∙ ap (λ u. in_turn u (judge room_rules)) f)

  module _ (v : Verdict) (e : v ≡ problem_verdict file k) (f : v ≡ Ok tt) where
    from_room : in_order ≡ judge room_rules
    from_room = in_turn_lem v e ∙ ap (λ u. in_turn u (judge room_rules)) f

    room_refuses : room ≡ false → Err Room ≡ in_order
    room_refuses h = sym (from_room ∙ judge_refused _ _ h)

    schedule_judges : room ≡ true → (w : Verdict) → w ≡ judge (schedule_rules (task_of file) k entries) → w ≡ in_order
    schedule_judges h w ew = ew ∙ sym (from_room ∙ judge_passed _ _ h)

-- ---- a schedule without rows

module _ (file : List ℕ) (k : ℕ) (entries : List ℕ) (v : Verdict) (e : v ≡ problem_verdict file k) where
  pub checked_problem : (why : Refusal) → v ≡ Err why → v ≡ checked_verdict file k entries
  unfolding checked_verdict
  checked_problem why f = problem_refuses file k entries (leb k (length entries)) v why e f

  module _ (f : v ≡ Ok tt) where
    pub checked_room : length entries < k → Err Room ≡ checked_verdict file k entries
    unfolding checked_verdict
    checked_room l = room_refuses file k entries (leb k (length entries)) v e f (lt-leb k (length entries) l)

    pub checked_schedule : k ≤ length entries → (w : Verdict) → w ≡ judge (schedule_rules (task_of file) k entries) → w ≡ checked_verdict file k entries
    unfolding checked_verdict
    checked_schedule l w ew = schedule_judges file k entries (leb k (length entries)) v e f (le-leb k (length entries) l) w ew

-- ---- the way back

module _ (file : List ℕ) (k : ℕ) (entries given truth : List ℕ) where
  abbrev verdict : Verdict
  verdict = back_verdict file k entries (lent given truth)

  abbrev room : Bool
  room = rows_fit (N (problem_of file k)) (lent given truth) && leb k (length entries)

  -- a refusal leaves both rows as found
  refused_by : (why : Refusal) → Err why ≡ verdict → (Err why ≡ verdict) × (lent given truth ≡ back_rows file k entries (lent given truth))
  unfolding back_rows
  refused_by why e = (e, rw (← e))

  pub problem_wrong : (v : Verdict) (why : Refusal) → v ≡ problem_verdict file k → v ≡ Err why
      → (Err why ≡ verdict) × (lent given truth ≡ back_rows file k entries (lent given truth))
  unfolding back_verdict
  problem_wrong v why e f = (refused_by why (sym f ∙ problem_refuses file k entries room v why e f))

  module _ (ok : file_verdict file ≡ Ok tt) (hk : k ≤ max_horizon) (b : Bool)
      (eb : b ≡ fits (words_for (N (problem_of file k))) (length given) (length truth) k (length entries)) where
    is_room : room ≡ b
    unfolding rows_fit fits
    is_room = sym eb

    pub too_little : not b ≡ true → (Err Room ≡ verdict) × (lent given truth ≡ back_rows file k entries (lent given truth))
    unfolding back_verdict
    too_little f = refused_by Room (room_refuses file k entries room (problem_verdict file k) refl (problem_accepted file k ok hk) (is_room ∙ not_true b f))

    module _ (fb : not b ≡ false) (v : Verdict) (ev : v ≡ judge (schedule_rules (task_of file) k entries)) where
      judged : v ≡ verdict
      unfolding back_verdict
      judged = schedule_judges file k entries room (problem_verdict file k) refl (problem_accepted file k ok hk) (is_room ∙ not_false b fb) v ev

      pub schedule_wrong : (why : Refusal) → v ≡ Err why → (Err why ≡ verdict) × (lent given truth ≡ back_rows file k entries (lent given truth))
      schedule_wrong why f = (refused_by why (sym f ∙ judged))

      pub schedule_right : (given' truth' : List ℕ) → v ≡ Ok tt → given' ≡ over_row (packed (replicate (N (problem_of file k)) true)) given
          → truth' ≡ over_row (packed (assignment_of (problem_of file k) entries)) truth
          → (Ok tt ≡ verdict) × (lent given' truth' ≡ back_rows file k entries (lent given truth))
      unfolding back_rows rows_of
      schedule_right given' truth' f eg et =
          let e : verdict ≡ Ok tt = sym judged ∙ f in
          (sym e, rw (e, eg, et))

-- ---- what fits

module _ (words given truth k entries : ℕ) where
  module _ (b : Bool) (eb : b ≡ fits words given truth k entries) (f : not b ≡ false) where
    each : (leb words given && leb words truth && leb k entries) ≡ true
    unfolding fits
    each = sym eb ∙ not_false b f

    both : (leb words given && leb words truth) ≡ true
    both = and_left (leb words given && leb words truth) _ each

    pub given_fits : words ≤ given
    given_fits = leb-true words given (and_left (leb words given) _ both)

    pub truth_fits : words ≤ truth
    truth_fits = leb-true words truth (and_right (leb words given) _ both)

    pub entries_fit : k ≤ entries
    entries_fit = leb-true k entries (and_right (leb words given && leb words truth) _ each)

pub can_be_carried : (T : Task) (k : ℕ) (entries : List ℕ) (v : Verdict) → v ≡ judge (schedule_rules T k entries) → v ≡ Ok tt → CarriedOut T k entries
can_be_carried T k entries v ev f = carried_out T k entries (sym ev ∙ f)
