-- A reading state as two numbers: the highest variable, and the number of a phase.
-- Assumes nothing.
use Rattle.std.specs.Prelude.{ℕ, cond, eqb}
use Rattle.rules.specs.declared.Phase.{Phase}
use Rattle.rules.specs.declared.Phase.TheVariants.{NoStatus, ModelOpen, ModelClosed, SaidUnsatisfiable, SaidUnknown}
use Rattle.rules.specs.declared.Reading.{Reading}

abbrev pub phase_number : Phase → ℕ
phase_number NoStatus = 0
phase_number ModelOpen = 1
phase_number ModelClosed = 2
phase_number SaidUnsatisfiable = 3
phase_number SaidUnknown = 4

-- any number that no phase has is taken as no status
unfoldable pub phase_of : ℕ → Phase
phase_of number =
    cond (eqb number 1) ModelOpen
    (cond (eqb number 2) ModelClosed
    (cond (eqb number 3) SaidUnsatisfiable
    (cond (eqb number 4) SaidUnknown NoStatus)))

abbrev pub reading_of : (highest phase : ℕ) → Reading
reading_of highest phase = record { highest = highest; phase = phase_of phase }
