-- A reading state crosses as a number that stays and a phase that is written: the state that a host hands in next is the one that was answered.
-- Assumes nothing.
use Rattle.std.specs.Prelude.{Ok, Err}
use mathlib.Core.Path.{◌≡◌, refl, sym, ap, ap₂, ◌∙◌}
use mathlib.Core.Logic.{⊎_elim}
use mathlib.Core.Bool.{true, false}
use mathlib.Core.List.{List, [], ◌∷◌}
use Prim.Native.Nat.{ℕ, min}
use lib.Dec.{eqb, ltb}
use lib.ListN.{take}
use Rattle.rules.specs.Text.{lf}
use Rattle.rules.specs.Rows.{Rows}
use Rattle.rules.specs.Families.{Literal}
use Rattle.rules.specs.Lines.{rows_fit, kind_of, line_verdict, phase_after, named, progress, read_line}
use Rattle.rules.specs.Answers.{demand, judge, in_turn, Verdict, LineAnswer}
use Rattle.rules.specs.declared.Refusal.TheVariants.{Room}
use Rattle.rules.specs.declared.Reading.{Reading}
use Rattle.rules.proofs.Bools.{either}
use Rattle.output.specs.Line.{lent}
use Rattle.output.specs.Feeding.{line_room, Fed, fed_byte, feed_byte, feed_all, has_room, feed_call, finished, finish, finish_call}
use Rattle.host.specs.States.{reading_of}
use Rattle.host.specs.Cells.{phase_left, highest_left, fed_so_far}
use Rattle.host.proofs.Crossing.{back_again}

-- an answer keeps a highest variable if it is a refusal or has that one
abbrev pub Keeps : (highest : ℕ) → LineAnswer → Type 0
Keeps highest line = highest_left line highest ≡ highest

-- ---- lines

of_verdict : (v : Verdict) (next : Reading) (ls : List Literal) (rows : Rows) → Keeps next.highest (progress v next ls rows).answer
of_verdict (Ok _) next ls rows = refl
of_verdict (Err why) next ls rows = refl

of_line : (highest : ℕ) (reading : Reading) → reading.highest ≡ highest → (rows : Rows) (line : List ℕ) → Keeps highest (read_line reading rows line).answer
unfolding read_line
of_line highest reading e rows line =
    ap (highest_left (read_line reading rows line).answer) (sym e)
    ∙ of_verdict (in_turn (judge (demand (rows_fit reading.highest rows) Room ∷ [])) (line_verdict reading rows.given line))
    (record { highest = reading.highest; phase = phase_after (kind_of line) reading rows.given line }) (named (kind_of line) reading rows.given line) rows
    ∙ e

-- ---- bytes

of_byte : (highest : ℕ) (a : LineAnswer) → Keeps highest a → (rows : Rows) (held : ℕ) (line : List ℕ) (b : ℕ)
    → Keeps highest (fed_byte a rows held line b).progress.answer
of_byte highest (Err why) e rows held line b = refl
of_byte highest (Ok reading) e rows held line b =
    ⊎_elim
    (λ t. rw t (of_line highest reading e rows (take held line)))
    (λ (t : eqb b lf ≡ false).
    ⊎_elim (λ (u : ltb held line_room ≡ true). rw (t, u) e) (λ (u : ltb held line_room ≡ false). rw (t, u) e) (either (ltb held line_room)))
    (either (eqb b lf))

of_bytes : (highest : ℕ) (fed : Fed) → Keeps highest fed.progress.answer → (bytes : List ℕ) → Keeps highest (feed_all fed bytes).progress.answer
unfolding feed_all feed_byte
of_bytes highest fed e [] = e
of_bytes highest fed e (b ∷ bytes) =
    of_bytes highest (feed_byte fed b) (of_byte highest fed.progress.answer e fed.progress.rows fed.held fed.line b) bytes

of_end : (highest : ℕ) (a : LineAnswer) → Keeps highest a → (rows : Rows) (held : ℕ) (line : List ℕ) → Keeps highest (finished a rows held line).answer
of_end highest (Err why) e rows held line = refl
of_end highest (Ok reading) e rows held line =
    ⊎_elim (λ t. rw t e) (λ t. rw t (of_line highest reading e rows (take held line))) (either (eqb held 0))

-- ---- the calls

module _ (highest phase : ℕ) where
  pub line_keeps : (rows : Rows) (line : List ℕ) → Keeps highest (read_line (reading_of highest phase) rows line).answer
  line_keeps rows line = of_line highest (reading_of highest phase) refl rows line

  module _ (held : ℕ) (given is_true line : List ℕ) where
    pub bytes_keep : (bytes : List ℕ) → Keeps highest (feed_call (fed_so_far highest phase held given is_true line) bytes).progress.answer
    unfolding feed_call fed_so_far
    bytes_keep bytes = ⊎_elim (λ t. rw t (of_bytes highest _ refl bytes)) (λ t. rw t refl) (either (has_room (fed_so_far highest phase held given is_true line)))

    pub rest_keeps : Keeps highest (finish_call (fed_so_far highest phase held given is_true line)).answer
    unfolding finish_call finish fed_so_far
    rest_keeps =
        ⊎_elim
        (λ t. rw t (of_end highest (Ok (reading_of highest phase)) refl (lent given is_true) (min held line_room) line))
        (λ t. rw t refl)
        (either (has_room (fed_so_far highest phase held given is_true line)))

-- so of an answer that keeps it, the number that was handed in and the phase that was written are the next reading state
pub next_state : (highest found : ℕ) (line : LineAnswer) (reading : Reading) → Keeps highest line → line ≡ Ok reading
    → reading_of highest (phase_left line found) ≡ reading
next_state highest found line reading k e =
    let same : reading.highest ≡ highest = rw e at k in
    rw e (ap₂ (λ h p. record { highest = h; phase = p }) (sym same) (back_again reading.phase))

-- and what a host hands in with the next piece of an output is what the last piece left
pub next_piece : (highest found : ℕ) (fed : Fed) (reading : Reading) → Keeps highest fed.progress.answer → fed.progress.answer ≡ Ok reading
    → fed_so_far highest (phase_left fed.progress.answer found) fed.held fed.progress.rows.given fed.progress.rows.is_true fed.line ≡ fed
unfolding fed_so_far
next_piece highest found fed reading k e =
    ap (λ a. record { progress = record { answer = a; rows = fed.progress.rows }; held = fed.held; line = fed.line })
    (ap Ok (next_state highest found fed.progress.answer reading k e) ∙ sym e)
