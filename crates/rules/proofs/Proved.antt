-- Demands 2 and 3 hold, for every valid task and every horizon.
-- Assumes nothing.
use mathlib.Core.Path.{refl, sym, ap, ◌∙◌}
use mathlib.Core.Bool.{Bool, true, false}
use mathlib.Core.List.{List, ◌∷◌, [], ◌++◌}
use Prim.Native.Nat.{ℕ, ◌-◌}
use native.Mathlib.Omega.{arith}
use lib.ListN.{length, replicate, length-replicate, get_or-replicate}
use lib.Seq.{take_all}
use Rattle.rules.specs.Task.{Task, Valid}
use Rattle.rules.specs.Problem.{Problem, problem}
use Rattle.rules.specs.Numbering.{N}
use Rattle.rules.specs.Families.{families, formula}
use Rattle.rules.specs.Text.{ascii, decimal, space, lf, header_line}
use Rattle.rules.specs.Truth.{assigned}
use Rattle.rules.specs.Walk.{CarriedOut}
use Rattle.rules.specs.Readings.{schedule_of, assignment_of, rows_of}
use Rattle.rules.proofs.Valid.{WellFormed, valid_well_formed}
use Rattle.rules.proofs.Bits.{packed_bit}
use Rattle.rules.proofs.Counts.{counts, C-is}
use Rattle.rules.proofs.Endings.{accepted_holds, holds_accepted, seventeen}
use Rattle.rules.proofs.Schedules.{carried_out, out_carried, length-assignment, length-schedule, assignment_good, schedule_back}
use Rattle.rules.proofs.Completed.{length-completion, unnamed_false, named_kept, own_completion, completed_schedule, completed_true, model_good, model_back}
use Rattle.rules.proofs.Plans.{moves_of, moves_most, schedule_plan, padded, plan_schedule}
use Rattle.rules.proofs.Demands.{Demand2, Satisfying, Demand3}

pub demand2 : (T : Task) (k : ℕ) → Demand2 T k
unfolding formula families header_line N rows_of
demand2 T k =
    let P = problem T k in
    record {
      in_order = refl;
      counted = counts T k;
      header = ap (λ c. ascii "p cnf " ++ decimal (N P) ++ (space ∷ []) ++ decimal c ++ (lf ∷ [])) (C-is T k);
      model = λ phase rows. (accepted_holds P rows phase, holds_accepted P rows phase);
      refused = λ rows c. seventeen P rows c;
      states = completed_schedule P;
      schedule = λ entries. (carried_out T k entries, out_carried T k entries);
      rows_hold = λ entries rows i l. (
        packed_bit (replicate (N P) true) rows.given i (omega (arith, length-replicate {A = Bool} (N P) true)) ∙ get_or-replicate (N P) i true false l,
        packed_bit (assignment_of P entries) rows.is_true i (omega (arith, length-assignment T k entries)),
      );
    }

pub demand3 : (T : Task) → Valid T → (k : ℕ) → Demand3 T k
demand3 T valid k =
    let P : Problem = problem T k in
    let fine : WellFormed T = valid_well_formed T valid in
    let satisfying : (entries : List ℕ) → CarriedOut T k entries → Satisfying T k (assigned (assignment_of P entries)) =
    λ entries c. assignment_good T k fine entries c in
    record {
      completed = λ M t. (length-completion P M, completed_true T fine k M t);
      unnamed_false = unnamed_false P;
      named_kept = named_kept P;
      own_completion = own_completion P;
      to_schedule = λ M t. record { entries = length-schedule T k M; carried = model_good T fine k M t };
      to_assignment = λ entries g. (length-assignment T k entries, satisfying entries g.carried);
      there_and_back = model_back T fine k;
      back_and_there = λ entries g.
          schedule_back T k fine entries (omega (arith, g.entries)) g.carried ∙ take_all k entries (omega (arith, g.entries));
      no_two = λ M M' t t' e. sym (model_back T fine k M t) ∙ ap (assignment_of P) e ∙ model_back T fine k M' t';
      plan = (
        λ m.
            let schedule = schedule_of P m.0 in
            let size = length-schedule T k m.0 in
            (moves_of T schedule, omega (arith, moves_most T schedule), schedule_plan T k schedule size (model_good T fine k m.0 m.1)),
        λ p.
            let schedule = padded T p.0 (k - length p.0) in
            (assigned (assignment_of P schedule), satisfying schedule (plan_schedule T k p.0 p.1 p.2)),
      );
    }
