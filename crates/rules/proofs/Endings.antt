-- The end of a reading in words: a closed model is accepted exactly if every clause has a true literal among those named, and else refused with 17 and
-- the lowest clause that has none.
-- Assumes nothing.
use Rattle.std.specs.Prelude.{Ok, Err}
use mathlib.Core.Path.{◌≡◌, refl, sym, ap, ◌∙◌}
use mathlib.Core.Logic.{◌↔◌, ⊎_elim}
use mathlib.Core.Bool.{Bool, true, false, not}
use mathlib.Core.List.{[]}
use Prim.Native.Nat.{ℕ, ◌<◌}
use native.Mathlib.Omega.{arith}
use borrow.Author.Tests.{eqb-true, eqb-false}
use lib.Dec.{eqb}
use Rattle.rules.specs.Counting.{first}
use Rattle.rules.specs.Answers.{answer_of, answer_to}
use Rattle.rules.specs.Problem.{Problem}
use Rattle.rules.specs.Families.{C, clause, formula}
use Rattle.rules.specs.Rows.{Rows}
use Rattle.rules.specs.Truth.{clause_true, satisfies, model_in}
use Rattle.rules.specs.Output.{ending, model_rules, outcome}
use Rattle.rules.specs.declared.Refusal.{Refusal}
use Rattle.rules.specs.declared.Refusal.TheVariants.{FileLength, ContentsRow, BodyLength, DomainSize, StartValue, GoalPair, ActionAtFault, Horizon, ClauseNumber, Room, Grammar, OutOfPlace, OverN, GivenBefore, Unfinished, UnmetClause, Unsatisfiable, Unknown, EntryOverA, DoesNotApply, GoalUnmet, AgainstFormat, AxiomOrCondition, OtherVersion}
use Rattle.rules.specs.declared.Phase.{Phase}
use Rattle.rules.specs.declared.Phase.TheVariants.{NoStatus, ModelOpen, ModelClosed, SaidUnsatisfiable, SaidUnknown}
use Rattle.rules.proofs.Bools.{either, not_true, not_false}
use Rattle.rules.proofs.Counting.{first_le, first_at, first_before, first_is, none_at, none_test, every_by, every_get_or}
use Rattle.rules.proofs.Judging.{refused_not, judge_head, judge_cons, judge_nil, judge_refused, judge_passed, in_turn-left, in_turn-right, in_turn-both}

-- the status says SATISFIABLE, the model is closed, and every clause is true by a literal that it names
pub record ModelHolds (P : Problem) (phase : Phase) (rows : Rows) : Type 0 where
  pub closed : phase ≡ ModelClosed
  pub all_true : satisfies (model_in rows) (formula P) ≡ true

accepted_closed : (phase : Phase) → ending phase ≡ Ok tt → phase ≡ ModelClosed
accepted_closed NoStatus h = refused_not h
accepted_closed ModelOpen h = refused_not h
accepted_closed ModelClosed h = refl
accepted_closed SaidUnsatisfiable h = refused_not h
accepted_closed SaidUnknown h = refused_not h

module _ (P : Problem) (rows : Rows) where
  pub accepted_holds : (phase : Phase) → outcome P phase rows ≡ Ok tt → ModelHolds P phase rows
  unfolding outcome model_rules satisfies C clause
  accepted_holds phase h =
      let m = in_turn-right (ending phase) _ h in
      record {
        closed = accepted_closed phase (in_turn-left (ending phase) _ h);
        all_true =
            every_by (clause_true (model_in rows)) (formula P) [] (λ c l.
            not_false _ (none_at (C P) (λ c. not (clause_true (model_in rows) (clause P c))) (judge_head _ _ m) c l));
      }

  pub holds_accepted : (phase : Phase) → ModelHolds P phase rows → outcome P phase rows ≡ Ok tt
  unfolding outcome model_rules satisfies C clause
  holds_accepted phase m =
      in_turn-both _ _ (ap ending m.closed)
      (judge_cons _ _
      (none_test (C P) (λ c. not (clause_true (model_in rows) (clause P c)))
      (λ i l. ap not (every_get_or (clause_true (model_in rows)) (formula P) [] m.all_true i l)))
      judge_nil)

-- ---- 17: the lowest clause without a true literal among those named

module _ (P : Problem) (rows : Rows) where
  -- clause c is there and has no true literal among those named, and each before it has one
  pub record LowestUnmet (c : ℕ) : Type 0 where
    pub there : c < C P
    pub unmet : clause_true (model_in rows) (clause P c) ≡ false
    pub met_before : (i : ℕ) → i < c → clause_true (model_in rows) (clause P i) ≡ true

  abbrev is_unmet : ℕ → Bool
  is_unmet c = not (clause_true (model_in rows) (clause P c))

  abbrev lowest : ℕ
  lowest = first (C P) is_unmet

  lowest_is : lowest < C P → LowestUnmet lowest
  lowest_is l =
      record {
        there = l;
        unmet = not_true _ (first_at (C P) is_unmet l);
        met_before = λ i h. not_false _ (first_before (C P) is_unmet i h);
      }

  refuses : eqb lowest (C P) ≡ false → outcome P ModelClosed rows ≡ Err (UnmetClause lowest)
  unfolding outcome model_rules
  refuses f = judge_refused _ _ f

  accepts : eqb lowest (C P) ≡ true → outcome P ModelClosed rows ≡ Ok tt
  unfolding outcome model_rules
  accepts t = judge_passed _ _ t ∙ judge_nil

  pub seventeen : (c : ℕ) → (outcome P ModelClosed rows ≡ Err (UnmetClause c)) ↔ LowestUnmet c
  seventeen c = (
    λ h.
        ⊎_elim (λ t. refused_not (sym h ∙ accepts t))
        (λ f.
        let apart : lowest ≡ C P → ⊥ = eqb-false _ _ f in
        let is : lowest ≡ c = ap (λ v. (answer_to v).detail) (sym (refuses f) ∙ h) in
        let below : lowest < C P = omega (arith, first_le (C P) is_unmet) in
        rw is at (lowest_is below))
        (either (eqb lowest (C P))),
    λ l.
        let is : lowest ≡ c = first_is (C P) is_unmet c l.there (ap not l.unmet) (λ i h. ap not (l.met_before i h)) in
        ⊎_elim (λ t. let e : lowest ≡ C P = eqb-true _ _ t in absurd (let b = l.there in omega arith))
        (λ f. refuses f ∙ ap (λ c. Err (UnmetClause c)) is)
        (either (eqb lowest (C P))),
  )

-- ---- 16

-- no refusal has the number 16: it stood for a variable that is not given
pub never_16 : (why : Refusal) → eqb (answer_of why).number 16 ≡ false
never_16 FileLength = refl
never_16 (ContentsRow r) = refl
never_16 BodyLength = refl
never_16 (DomainSize x) = refl
never_16 (StartValue x) = refl
never_16 (GoalPair i) = refl
never_16 (ActionAtFault a) = refl
never_16 Horizon = refl
never_16 ClauseNumber = refl
never_16 Room = refl
never_16 (Grammar i) = refl
never_16 (OutOfPlace i) = refl
never_16 (OverN i) = refl
never_16 (GivenBefore i) = refl
never_16 Unfinished = refl
never_16 (UnmetClause c) = refl
never_16 Unsatisfiable = refl
never_16 Unknown = refl
never_16 (EntryOverA t) = refl
never_16 (DoesNotApply t) = refl
never_16 (GoalUnmet i) = refl
never_16 (AgainstFormat line) = refl
never_16 (AxiomOrCondition line) = refl
never_16 (OtherVersion line) = refl
