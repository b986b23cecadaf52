-- The ways out of the calls on a reading.
-- Assumes nothing.
use Rattle.std.specs.Prelude.{Ok}
use mathlib.Core.Path.{◌≡◌, refl, ap, ◌∙◌}
use mathlib.Core.List.{List}
use Prim.Native.Nat.{ℕ}
use Rattle.rules.specs.Answers.{answer, answer_to, answer_to_line, Verdict, LineAnswer}
use Rattle.rules.specs.Rows.{Rows}
use Rattle.rules.specs.Lines.{Progress, read_line}
use Rattle.rules.specs.Calls.{start_reading, end_verdict, end_entries}
use Rattle.rules.specs.declared.Phase.{Phase}
use Rattle.rules.specs.declared.Reading.{Reading}
use Rattle.output.specs.Line.{leaves}
use Rattle.output.specs.Feeding.{feed_leaves, feed_call, finish_call}
use Rattle.output.specs.declared.feeding.Feed.{Feed}
use Rattle.host.specs.States.{phase_of, reading_of}
use Rattle.host.specs.Cells.{phase_left, highest_left, left, left_by, fed_left, fed_left_by, fed_so_far}

so_far : (found highest : ℕ) (reading : Reading) → reading ≡ reading_of highest found → (held : ℕ) (given is_true line : List ℕ)
    → feed_leaves (record { answer = Ok reading; held = held }) given is_true line ≡ fed_so_far highest found held given is_true line
unfolding fed_so_far
so_far found highest reading s held given is_true line = rw s

-- the answer to a line, handed over, with both rows as they are left
module _ (number detail phase found : ℕ) (line : LineAnswer) (a : answer number detail ≡ answer_to_line line) (b : phase ≡ phase_left line found)
    (given is_true : List ℕ) where
  left_by_lem : (p : Progress) → leaves line given is_true ≡ p → left number detail phase given is_true ≡ left_by p found
  unfolding left_by
  left_by_lem p e =
      let own : left number detail phase given is_true ≡ left_by (leaves line given is_true) found = rw (a, b) in
      own ∙ ap (λ p. left_by p found) e

  pub start_left : (file : List ℕ) (k : ℕ) (rows : Rows) → leaves line given is_true ≡ start_reading file k rows
      → left number detail phase given is_true ≡ left_by (start_reading file k rows) found
  start_left file k rows e = left_by_lem _ e

  module _ (highest : ℕ) (reading : Reading) (s : reading ≡ reading_of highest found) where
    pub line_left : (rows : Rows) (bytes : List ℕ) → leaves line given is_true ≡ read_line reading rows bytes
        → left number detail phase given is_true ≡ left_by (read_line (reading_of highest found) rows bytes) found
    line_left rows bytes e = left_by_lem _ (e ∙ ap (λ r. read_line r rows bytes) s)

    pub rest_left : (held : ℕ) (g t l : List ℕ) → leaves line given is_true ≡ finish_call (feed_leaves (record { answer = Ok reading; held = held }) g t l)
        → left number detail phase given is_true ≡ left_by (finish_call (fed_so_far highest found held g t l)) found
    rest_left held g t l e = left_by_lem _ (e ∙ ap finish_call (so_far found highest reading s held g t l))

pub bytes_left : (number detail phase found : ℕ) (fed : Feed) (given is_true line : List ℕ) (highest : ℕ) (reading : Reading) (held : ℕ) (g t l bytes : List ℕ)
    → answer number detail ≡ answer_to_line fed.answer → phase ≡ phase_left fed.answer found → reading ≡ reading_of highest found
    → feed_leaves fed given is_true line ≡ feed_call (feed_leaves (record { answer = Ok reading; held = held }) g t l) bytes
    → fed_left number detail phase fed.held given is_true line ≡ fed_left_by (feed_call (fed_so_far highest found held g t l) bytes) found
unfolding fed_left_by
bytes_left number detail phase found fed given is_true line highest reading held g t l bytes a b s e =
    let after : feed_leaves fed given is_true line ≡ feed_call (fed_so_far highest found held g t l) bytes =
    e ∙ ap (λ f. feed_call f bytes) (so_far found highest reading s held g t l) in
    ap (λ r. record { reading = r; held = fed.held; line = line }) (left_by_lem number detail phase found fed.answer a b given is_true _ refl)
    ∙ ap (λ f. fed_left_by f found) after

-- ---- the highest variable of a reading that starts

pub start_highest : (line : LineAnswer) (given is_true file : List ℕ) (k highest found : ℕ) (rows : Rows) → leaves line given is_true ≡ start_reading file k rows
    → highest ≡ highest_left line found → highest ≡ highest_left (start_reading file k rows).answer found
start_highest line given is_true file k highest found rows e h = h ∙ ap (λ p. highest_left p.answer found) e

-- ---- the end, at the phase that a number says

module _ (m k : ℕ) (p : Phase) (q : p ≡ phase_of m) (file : List ℕ) (rows : Rows) (entries : List ℕ) where
  pub end_told : (number detail : ℕ) (v : Verdict) → v ≡ end_verdict file k p rows entries → answer number detail ≡ answer_to v
      → answer number detail ≡ answer_to (end_verdict file k (phase_of m) rows entries)
  end_told number detail v e a = a ∙ ap answer_to (e ∙ ap (λ p. end_verdict file k p rows entries) q)

  pub end_entries_lem : (es : List ℕ) → es ≡ end_entries file k p rows entries → es ≡ end_entries file k (phase_of m) rows entries
  end_entries_lem es f = f ∙ ap (λ p. end_entries file k p rows entries) q
