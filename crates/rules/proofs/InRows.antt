-- The pairing down to the words: an accepted pair of rows states a schedule whose own rows hold its completion, and the rows of a good schedule are
-- accepted and state it.
-- Assumes nothing.
use mathlib.Core.Path.{◌≡◌, refl, ap, ◌∙◌}
use mathlib.Core.Bool.{Bool, true, false}
use mathlib.Core.List.{List}
use Prim.Native.Nat.{ℕ, suc, ◌-◌, ◌≤◌, ◌<◌}
use native.Mathlib.Omega.{arith}
use lib.ListN.{length, get_or, take}
use Rattle.rules.specs.Task.{Task}
use Rattle.rules.specs.Problem.{Problem, problem}
use Rattle.rules.specs.Numbering.{N}
use Rattle.rules.specs.Families.{formula}
use Rattle.rules.specs.Rows.{Rows, bit_of_variable}
use Rattle.rules.specs.Truth.{satisfies, model_in, assigned, completion}
use Rattle.rules.specs.Walk.{CarriedOut}
use Rattle.rules.specs.Readings.{schedule_of, assignment_of, rows_holding, rows_of}
use Rattle.rules.proofs.Valid.{WellFormed}
use Rattle.rules.proofs.Within.{Agree, satisfied_alike, schedule_alike}
use Rattle.rules.specs.declared.Phase.TheVariants.{ModelClosed}
use Rattle.rules.proofs.Endings.{ModelHolds}
use Rattle.rules.proofs.Schedules.{assignment_good, schedule_back}
use Rattle.rules.proofs.Completed.{model_back}
use Rattle.rules.proofs.Proved.{demand2}

module _ (T : Task) (fine : WellFormed T) (k : ℕ) where
  abbrev P : Problem
  P = problem T k

  -- rows that give every variable say what the assignment in them says
  agree : (rows : Rows) (bits : List Bool) → ((i : ℕ) → i < N P → bit_of_variable rows.given (suc i) ≡ true)
      → ((i : ℕ) → i < N P → bit_of_variable rows.is_true (suc i) ≡ get_or bits i false) → Agree P (model_in rows) (assigned bits)
  agree rows bits g t =
      let at : (v : ℕ) → 1 ≤ v → v ≡ suc (v - 1) = λ v l. omega arith in
      record {
        given_alike = λ v l u. ap (bit_of_variable rows.given) (at v l) ∙ g (v - 1) (omega arith);
        true_alike = λ v l u. ap (bit_of_variable rows.is_true) (at v l) ∙ t (v - 1) (omega arith);
      }

  -- ---- from rows

  pub rows_back : (rows lent : Rows) → satisfies (model_in rows) (formula P) ≡ true
      → rows_of P (schedule_of P (model_in rows)) lent ≡ rows_holding P (completion P (model_in rows)) lent
  unfolding rows_of
  rows_back rows lent t = ap (λ bits. rows_holding P bits lent) (model_back T fine k (model_in rows) t)

  -- ---- from a schedule

  of_schedule : (entries : List ℕ) (lent : Rows) → Agree P (model_in (rows_of P entries lent)) (assigned (assignment_of P entries))
  of_schedule entries lent =
      agree (rows_of P entries lent) (assignment_of P entries)
      (λ i l. ((demand2 T k).rows_hold entries lent i l).0) (λ i l. ((demand2 T k).rows_hold entries lent i l).1)

  pub schedule_rows : (entries : List ℕ) (lent : Rows) → CarriedOut T k entries → ModelHolds P ModelClosed (rows_of P entries lent)
  schedule_rows entries lent c =
      record {
        closed = refl;
        all_true = satisfied_alike P _ _ (of_schedule entries lent) fine ∙ assignment_good T k fine entries c;
      }

  pub schedule_again : (entries : List ℕ) (lent : Rows) → k ≤ length entries → CarriedOut T k entries
      → schedule_of P (model_in (rows_of P entries lent)) ≡ take k entries
  schedule_again entries lent size c = schedule_alike P _ _ (of_schedule entries lent) ∙ schedule_back T k fine entries size c
