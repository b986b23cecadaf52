-- The ways out of the functions that hand an answer over.
-- Assumes nothing.
use Rattle.std.specs.Prelude.{Ok, Err}
use mathlib.Core.Path.{◌≡◌, refl, ap, ◌∙◌}
use Prim.Native.Nat.{ℕ}
use borrow.Author.Tests.{ne_eqb}
use Rattle.rules.specs.Answers.{answer, answer_of, answer_to, answer_to_line, Verdict, LineAnswer}
use Rattle.rules.specs.declared.Refusal.{Refusal}
use Rattle.rules.specs.declared.Phase.{Phase}
use Rattle.rules.specs.declared.Phase.TheVariants.{NoStatus, ModelOpen, ModelClosed, SaidUnsatisfiable, SaidUnknown}
use Rattle.rules.specs.declared.Reading.{Reading}
use Rattle.host.specs.States.{phase_number, phase_of, reading_of}
use Rattle.host.specs.Cells.{phase_left}

-- ---- number and detail

pub refused_is : (why : Refusal) (number detail : ℕ) → number ≡ (answer_of why).number → detail ≡ (answer_of why).detail → answer number detail ≡ answer_of why
refused_is why number detail n d = rw (n, d)

module _ (number detail : ℕ) (v : Verdict) where
  pub told_accepted : v ≡ Ok tt → answer number detail ≡ answer 0 0 → answer number detail ≡ answer_to v
  told_accepted e a = rw e a

  pub told_refused : (why : Refusal) → v ≡ Err why → answer number detail ≡ answer_of why → answer number detail ≡ answer_to v
  told_refused why e a = rw e a

  -- what is told of an answer is told of the verdict that it is
  pub told : (w : Verdict) → v ≡ w → answer number detail ≡ answer_to v → answer number detail ≡ answer_to w
  told w e a = a ∙ ap answer_to e

module _ (number detail : ℕ) (line : LineAnswer) where
  pub told_next : (reading : Reading) → line ≡ Ok reading → answer number detail ≡ answer 0 0 → answer number detail ≡ answer_to_line line
  told_next reading e a = rw e a

  pub told_line_refused : (why : Refusal) → line ≡ Err why → answer number detail ≡ answer_of why → answer number detail ≡ answer_to_line line
  told_line_refused why e a = rw e a

-- ---- phases

module _ (line : LineAnswer) (found : ℕ) where
  pub phase_next : (reading : Reading) (p : ℕ) → line ≡ Ok reading → p ≡ phase_number reading.phase → p ≡ phase_left line found
  phase_next reading p e n = rw e n

  pub phase_as_found : (why : Refusal) → line ≡ Err why → found ≡ phase_left line found
  phase_as_found why e = rw e

module _ (m : ℕ) where
  pub is_open : m ≡ 1 → ModelOpen ≡ phase_of m
  unfolding phase_of
  is_open e = rw e

  pub is_closed : m ≡ 2 → ModelClosed ≡ phase_of m
  unfolding phase_of
  is_closed e = rw e

  pub is_unsatisfiable : m ≡ 3 → SaidUnsatisfiable ≡ phase_of m
  unfolding phase_of
  is_unsatisfiable e = rw e

  pub is_unknown : m ≡ 4 → SaidUnknown ≡ phase_of m
  unfolding phase_of
  is_unknown e = rw e

  pub is_no_status : (m ≡ 1 → ⊥) → (m ≡ 2 → ⊥) → (m ≡ 3 → ⊥) → (m ≡ 4 → ⊥) → NoStatus ≡ phase_of m
  unfolding phase_of
  is_no_status a b c d = rw (ne_eqb m 1 a, ne_eqb m 2 b, ne_eqb m 3 c, ne_eqb m 4 d)

-- a phase's number says which it is
pub back_again : (p : Phase) → phase_of (phase_number p) ≡ p
unfolding phase_of
back_again NoStatus = refl
back_again ModelOpen = refl
back_again ModelClosed = refl
back_again SaidUnsatisfiable = refl
back_again SaidUnknown = refl

pub reading_is : (highest phase : ℕ) (p : Phase) → p ≡ phase_of phase → ◌≡◌ {A = Reading} (record { highest = highest; phase = p }) (reading_of highest phase)
reading_is highest phase p e = rw e
