-- Any two answers that a promise allows are equal, with every cell and all lent room after the call: they are put together in one record
-- where the promise puts them together.
-- Assumes nothing.
use mathlib.Core.Path.{◌≡◌, sym, ◌∙◌}
use Prim.Native.Nat.{ℕ}
use Rattle.rules.specs.Answers.{answer}
use Rattle.output.specs.Line.{lent}
use Rattle.host.specs.Cells.{left, fed_left}
use Rattle.host.proofs.files.wawrolen_check_file.Reads as check-file
use Rattle.host.proofs.files.wawrolen_body.Reads as body
use Rattle.host.proofs.formulas.wawrolen_counts.Reads as counts
use Rattle.host.proofs.formulas.wawrolen_literals.Reads as literals
use Rattle.host.proofs.texts.wawrolen_header.Reads as header
use Rattle.host.proofs.texts.wawrolen_clause_line.Reads as clause-line
use Rattle.host.proofs.texts.wawrolen_lines.Reads as lines
use Rattle.host.proofs.readings.wawrolen_start_reading.Reads as start-reading
use Rattle.host.proofs.readings.wawrolen_read_line.Reads as read-line
use Rattle.host.proofs.readings.wawrolen_read_bytes.Reads as read-bytes
use Rattle.host.proofs.readings.wawrolen_read_rest.Reads as read-rest
use Rattle.host.proofs.readings.wawrolen_end_reading.Reads as end-reading
use Rattle.host.proofs.schedules.wawrolen_check_schedule.Reads as check-schedule
use Rattle.host.proofs.schedules.wawrolen_way_back.Reads as way_back
use Rattle.host.proofs.translations.wawrolen_translate.Reads as translate

pub one_check_file : (κs : _) (a : _) (r s : ℕ) (x y : _) → check-file.Post κs a r x → check-file.Post κs a s y
    → answer r x.1.0.now ≡ answer s y.1.0.now
one_check_file κs a r s x y p q = p ∙ sym q

pub one_body : (κs : _) (a : _) (r s : ℕ) (x y : _) → body.Post κs a r x → body.Post κs a s y
    → (answer r x.1.1.1.1.0.now ≡ answer s y.1.1.1.1.0.now)
    × (x.1.1.0.now ≡ y.1.1.0.now)
    × (x.1.1.1.0.now ≡ y.1.1.1.0.now)
one_body κs a r s x y p q = (p.0 ∙ sym q.0, p.1.0 ∙ sym q.1.0, p.1.1 ∙ sym q.1.1)

pub one_counts : (κs : _) (a : _) (r s : ℕ) (x y : _) → counts.Post κs a r x → counts.Post κs a s y
    → (answer r x.1.1.1.1.0.now ≡ answer s y.1.1.1.1.0.now)
    × (x.1.1.0.now ≡ y.1.1.0.now)
    × (x.1.1.1.0.now ≡ y.1.1.1.0.now)
one_counts κs a r s x y p q = (p.0 ∙ sym q.0, p.1.0 ∙ sym q.1.0, p.1.1 ∙ sym q.1.1)

pub one_literals : (κs : _) (a : _) (r s : ℕ) (x y : _) → literals.Post κs a r x → literals.Post κs a s y
    → (answer r x.1.1.1.1.1.0.now ≡ answer s y.1.1.1.1.1.0.now)
    × (x.1.1.1.1.0.now ≡ y.1.1.1.1.0.now)
    × (x.1.1.1.0.now ≡ y.1.1.1.0.now)
one_literals κs a r s x y p q = (p.0 ∙ sym q.0, p.1.0 ∙ sym q.1.0, p.1.1 ∙ sym q.1.1)

pub one_header : (κs : _) (a : _) (r s : ℕ) (x y : _) → header.Post κs a r x → header.Post κs a s y
    → (answer r x.1.1.1.1.0.now ≡ answer s y.1.1.1.1.0.now)
    × (x.1.1.1.0.now ≡ y.1.1.1.0.now)
    × (x.1.1.0.now ≡ y.1.1.0.now)
one_header κs a r s x y p q = (p.0 ∙ sym q.0, p.1.0 ∙ sym q.1.0, p.1.1 ∙ sym q.1.1)

pub one_clause_line : (κs : _) (a : _) (r s : ℕ) (x y : _) → clause-line.Post κs a r x → clause-line.Post κs a s y
    → (answer r x.1.1.1.1.1.0.now ≡ answer s y.1.1.1.1.1.0.now)
    × (x.1.1.1.1.0.now ≡ y.1.1.1.1.0.now)
    × (x.1.1.1.0.now ≡ y.1.1.1.0.now)
one_clause_line κs a r s x y p q = (p.0 ∙ sym q.0, p.1.0 ∙ sym q.1.0, p.1.1 ∙ sym q.1.1)

pub one_lines : (κs : _) (a : _) (r s : ℕ) (x y : _) → lines.Post κs a r x → lines.Post κs a s y
    → (answer r x.1.1.1.1.1.1.0.now ≡ answer s y.1.1.1.1.1.1.0.now)
    × (x.1.1.1.1.0.now ≡ y.1.1.1.1.0.now)
    × (x.1.1.1.1.1.0.now ≡ y.1.1.1.1.1.0.now)
    × (x.1.1.1.0.now ≡ y.1.1.1.0.now)
one_lines κs a r s x y p q = (p.0 ∙ sym q.0, p.1.0 ∙ sym q.1.0, p.1.1.0 ∙ sym q.1.1.0, p.1.1.1 ∙ sym q.1.1.1)

pub one_start_reading : (κs : _) (a : _) (r s : ℕ) (x y : _) → start-reading.Post κs a r x → start-reading.Post κs a s y
    → (left r x.1.1.1.1.1.1.0.now x.1.1.1.1.1.0.now x.1.1.0.now x.1.1.1.0.now
    ≡ left s y.1.1.1.1.1.1.0.now y.1.1.1.1.1.0.now y.1.1.0.now y.1.1.1.0.now)
    × (x.1.1.1.1.0.now ≡ y.1.1.1.1.0.now)
one_start_reading κs a r s x y p q = (p.0 ∙ sym q.0, p.1 ∙ sym q.1)

pub one_read_line : (κs : _) (a : _) (r s : ℕ) (x y : _) → read-line.Post κs a r x → read-line.Post κs a s y
    → left r x.1.1.1.1.1.0.now x.1.0.now x.1.1.0.now x.1.1.1.0.now
    ≡ left s y.1.1.1.1.1.0.now y.1.0.now y.1.1.0.now y.1.1.1.0.now
one_read_line κs a r s x y p q = p ∙ sym q

pub one_read_bytes : (κs : _) (a : _) (r s : ℕ) (x y : _) → read-bytes.Post κs a r x → read-bytes.Post κs a s y
    → fed_left r x.1.1.1.1.1.1.1.0.now x.1.0.now x.1.1.0.now x.1.1.1.0.now x.1.1.1.1.0.now x.1.1.1.1.1.0.now
    ≡ fed_left s y.1.1.1.1.1.1.1.0.now y.1.0.now y.1.1.0.now y.1.1.1.0.now y.1.1.1.1.0.now y.1.1.1.1.1.0.now
one_read_bytes κs a r s x y p q = p ∙ sym q

pub one_read_rest : (κs : _) (a : _) (r s : ℕ) (x y : _) → read-rest.Post κs a r x → read-rest.Post κs a s y
    → left r x.1.1.1.1.1.1.0.now x.1.0.now x.1.1.1.0.now x.1.1.1.1.0.now
    ≡ left s y.1.1.1.1.1.1.0.now y.1.0.now y.1.1.1.0.now y.1.1.1.1.0.now
one_read_rest κs a r s x y p q = p ∙ sym q

pub one_end_reading : (κs : _) (a : _) (r s : ℕ) (x y : _) → end-reading.Post κs a r x → end-reading.Post κs a s y
    → (answer r x.1.1.1.1.1.1.0.now ≡ answer s y.1.1.1.1.1.1.0.now)
    × (x.1.1.1.1.1.0.now ≡ y.1.1.1.1.1.0.now)
one_end_reading κs a r s x y p q = (p.0 ∙ sym q.0, p.1 ∙ sym q.1)

pub one_check_schedule : (κs : _) (a : _) (r s : ℕ) (x y : _) → check-schedule.Post κs a r x → check-schedule.Post κs a s y
    → answer r x.1.1.1.0.now ≡ answer s y.1.1.1.0.now
one_check_schedule κs a r s x y p q = p ∙ sym q

pub one_way_back : (κs : _) (a : _) (r s : ℕ) (x y : _) → way_back.Post κs a r x → way_back.Post κs a s y
    → (answer r x.1.1.1.1.1.0.now ≡ answer s y.1.1.1.1.1.0.now)
    × (lent x.1.1.1.0.now x.1.1.1.1.0.now ≡ lent y.1.1.1.0.now y.1.1.1.1.0.now)
one_way_back κs a r s x y p q = (p.0 ∙ sym q.0, p.1 ∙ sym q.1)

pub one_translate : (κs : _) (a : _) (r s : ℕ) (x y : _) → translate.Post κs a r x → translate.Post κs a s y
    → (answer r x.1.1.1.0.now ≡ answer s y.1.1.1.0.now)
    × (x.1.1.0.now ≡ y.1.1.0.now)
    × (x.1.0.now ≡ y.1.0.now)
one_translate κs a r s x y p q = (p.0 ∙ sym q.0, p.1.0 ∙ sym q.1.0, p.1.1 ∙ sym q.1.1)
