-- A text that is taken byte by byte goes together with the rules' reading of its lines.
-- Assumes nothing.
use mathlib.Core.Path.{◌≡◌, refl, sym, ap, ◌∙◌}
use mathlib.Core.Logic.{⊎_elim}
use mathlib.Core.Bool.{Bool, true, false, cond}
use mathlib.Core.List.{List, [], ◌∷◌, ◌++◌, foldl, foldl-append}
use Prim.Native.Nat.{ℕ, suc, ◌+◌, ◌≤◌, ◌<◌}
use native.Mathlib.Omega.{arith}
use borrow.Author.Tests.{eq-eqb, ne_eqb, eqb-true, eqb-false, lt-ltb, le-ltb}
use lib.Dec.{eqb, ltb}
use lib.ListN.{length, take, set}
use Rattle.rules.specs.Answers.{judge, Verdict}
use Rattle.rules.specs.Text.{lf}
use Rattle.rules.specs.Format.{Shape, line_rules}
use Rattle.rules.specs.Translation.{TextReading, text_begun, shape_due, line_read, read_text_line, read_further, read_text_lines, read_text}
use Rattle.rules.specs.declared.FormatLine.{FormatLine}
use Rattle.std.specs.Prelude.{Result, Ok, Err}
use Rattle.rules.specs.declared.Refusal.{Refusal}
use Rattle.textlines.specs.declared.Numbers.{Numbers}
use Rattle.rules.proofs.Bools.{either, below_or}
use Rattle.rules.proofs.Cut.{lines_ahead, ahead_first, ahead_none, ahead_last, ahead_lf, ahead_byte, lines_most, Holds, holds_none, holds_more, holds_full}
use Rattle.textlines.specs.Says.{says_as}
use Rattle.translator.specs.Intake.{Memory, most_lines, one_more, Taken, taken, after_line, end_line, head_room, with_held, take_byte, take_all, begun}
use Rattle.translator.specs.Position.{line_due}
use Rattle.translator.specs.declared.intake.Intake.{Intake}
use Rattle.translator.proofs.Simulated.{unless_accepted, unless_refused_lem, Simulates, simulates_line}

-- what is held of a last line, kept as any other is
unfoldable pub last_kept : Taken → Taken
last_kept t = cond (eqb t.intake.held 0) t (end_line t)

-- ---- pieces do not matter

pub taken_in_pieces : (t : Taken) (s u : List ℕ) → take_all (take_all t s) u ≡ take_all t (s ++ u)
unfolding take_all
taken_in_pieces t s u = sym (foldl-append take_byte t s u)

pub taken_nothing : (t : Taken) → t ≡ take_all t []
unfolding take_all
taken_nothing t = refl

-- ---- the first fault ends both readings

pub by_verdict : (v : Verdict) (X : Type 0) → (v ≡ Ok tt → X) → ((why : Refusal) → v ≡ Err why → X) → X
by_verdict (Ok _) X f g = f refl
by_verdict (Err why) X f g = g why refl

pub chosen-true {ℓ} : {X : Type ℓ} (b : Bool) (x y : X) → b ≡ true → cond b x y ≡ x
chosen-true b x y e = rw e

pub chosen-false {ℓ} : {X : Type ℓ} (b : Bool) (x y : X) → b ≡ false → cond b x y ≡ y
chosen-false b x y e = rw e

abbrev step : TextReading → List ℕ → TextReading
step reading line = read_further reading.verdict reading line

step_reads : (reading : TextReading) (line : List ℕ) → reading.verdict ≡ Ok tt → step reading line ≡ read_text_line reading line
step_reads reading line e = ap (λ v. read_further v reading line) e

lines_stay : (reading : TextReading) (why : Refusal) (ls : List (List ℕ)) → reading.verdict ≡ Err why → foldl step reading ls ≡ reading
lines_stay reading why [] e = refl
lines_stay reading why (l ∷ ls) e =
    ap (λ r. foldl step r ls) (ap (λ v. read_further v reading l) e) ∙ lines_stay reading why ls e

pub bytes_stay : (t : Taken) (why : Refusal) (bytes : List ℕ) → t.intake.verdict ≡ Err why → take_all t bytes ≡ t
unfolding take_all take_byte
bytes_stay t why [] e = refl
bytes_stay t why (b ∷ bytes) e =
    ap (λ u. take_all u bytes) (unless_refused_lem t.intake.verdict why _ t e) ∙ bytes_stay t why bytes e

last_stays : (t : Taken) (why : Refusal) → t.intake.verdict ≡ Err why → last_kept t ≡ t
unfolding last_kept end_line
last_stays t why e =
    ⊎_elim (chosen-true (eqb t.intake.held 0) t (end_line t))
    (λ h. chosen-false (eqb t.intake.held 0) t (end_line t) h ∙ unless_refused_lem t.intake.verdict why _ t e)
    (either (eqb t.intake.held 0))

-- ---- a byte

module _ (t : Taken) (b : ℕ) (v : t.intake.verdict ≡ Ok tt) where
  pub byte_ends : b ≡ lf → take_byte t b ≡ end_line t
  unfolding take_byte
  byte_ends e = unless_accepted t.intake.verdict _ t v ∙ chosen-true (eqb b lf) _ _ (eq-eqb b lf e)

  pub byte_held : (b ≡ lf → ⊥) → t.intake.held < head_room
      → take_byte t b ≡ taken (with_held (t.intake.held + 1) t.intake) t.memory (set t.line t.intake.held b)
  unfolding take_byte
  byte_held e l =
      unless_accepted t.intake.verdict _ t v
      ∙ chosen-false (eqb b lf) _ _ (ne_eqb b lf e)
      ∙ chosen-true (ltb t.intake.held head_room) _ _ (lt-ltb t.intake.held head_room l)

  pub byte_passed : (b ≡ lf → ⊥) → head_room ≤ t.intake.held → take_byte t b ≡ t
  unfolding take_byte
  byte_passed e l =
      unless_accepted t.intake.verdict _ t v
      ∙ chosen-false (eqb b lf) _ _ (ne_eqb b lf e)
      ∙ chosen-false (ltb t.intake.held head_room) _ _ (le-ltb t.intake.held head_room l)

-- what is held of the next line behind a line: nothing
holds_after : (said : Result Numbers Refusal) (due : FormatLine) (i : Intake) (m : Memory) (line : List ℕ) → head_room ≤ length line
    → Holds head_room (after_line said due i m line).intake.held (after_line said due i m line).line []
holds_after (Ok said) due i m line h = holds_none head_room line h
holds_after (Err why) due i m line h = holds_none head_room line h

holds_ended : (t : Taken) → t.intake.verdict ≡ Ok tt → head_room ≤ length t.line
    → Holds head_room (end_line t).intake.held (end_line t).line []
unfolding end_line
holds_ended t v h =
    rw (unless_accepted t.intake.verdict _ t v)
    (holds_after
    (says_as (line_due t.intake.position) (one_more t.intake.lines) (take t.intake.held t.line))
    (line_due t.intake.position) t.intake t.memory t.line h)

-- ---- a line counts for one at most

said_lines : (v : Verdict) (shape : Shape) (reading : TextReading) (line : List ℕ) → (line_read v shape reading line).lines ≤ suc reading.lines
said_lines (Ok _) shape reading line = omega arith
said_lines (Err why) shape reading line = omega arith

read_lines_lem : (reading : TextReading) (line : List ℕ) → (read_text_line reading line).lines ≤ suc reading.lines
unfolding read_text_line
read_lines_lem reading line = said_lines (judge (line_rules (shape_due reading) (suc reading.lines) line)) (shape_due reading) reading line

further_lines : (v : Verdict) (reading : TextReading) (line : List ℕ) → (read_further v reading line).lines ≤ suc reading.lines
further_lines (Ok _) reading line = read_lines_lem reading line
further_lines (Err why) reading line = omega arith

pub all_lines : (reading : TextReading) (ls : List (List ℕ)) → (foldl step reading ls).lines ≤ reading.lines + length ls
all_lines reading [] = omega arith
all_lines reading (l ∷ ls) = omega (arith, all_lines (step reading l) ls, further_lines reading.verdict reading l)

-- ---- the whole

simulates_as : (reading next : TextReading) (t u : Taken) → reading ≡ next → t ≡ u → Simulates next u → Simulates reading t
simulates_as reading next t u e f h = rw (e, f) h

simulates_held : (reading : TextReading) (t : Taken) (held : ℕ) (line : List ℕ) → Simulates reading t
    → Simulates reading (taken (with_held held t.intake) t.memory line)
simulates_held reading t held line h = record { verdict = h.verdict; lines = h.lines; due = h.due; follows = h.follows }

-- where the line that has begun is held, both readings of it and of the bytes behind it go together
abbrev Read : List ℕ → TextReading → Taken → List ℕ → Type 0
Read bytes reading t begun = Simulates (foldl step reading (lines_ahead begun bytes)) (last_kept (take_all t bytes))

module _ (reading : TextReading) (t : Taken) (s : Simulates reading t) where
  read_refused : (bytes begun : List ℕ) (why : Refusal) → reading.verdict ≡ Err why → Read bytes reading t begun
  read_refused bytes begun why e =
      simulates_as (foldl step reading (lines_ahead begun bytes)) reading (last_kept (take_all t bytes)) t
      (lines_stay reading why (lines_ahead begun bytes) e)
      (ap last_kept (bytes_stay t why bytes (s.verdict ∙ e)) ∙ last_stays t why (s.verdict ∙ e))
      s

  read_end : (begun : List ℕ) → reading.verdict ≡ Ok tt → reading.lines < most_lines → Holds head_room t.intake.held t.line begun → Read [] reading t begun
  unfolding take_all last_kept
  read_end [] v l h =
      simulates_as _ reading _ t (ap (foldl step reading) ahead_none)
      (chosen-true (eqb t.intake.held 0) t (end_line t) (eq-eqb t.intake.held 0 (omega (arith, h.much))))
      s
  read_end (b ∷ begun) v l h =
      simulates_as _ (read_text_line reading (b ∷ begun)) _ (end_line t)
      (ap (foldl step reading) (ahead_last b begun) ∙ step_reads reading (b ∷ begun) v)
      (chosen-false (eqb t.intake.held 0) t (end_line t) (ne_eqb t.intake.held 0 (λ e. omega (arith, h.much))))
      (simulates_line reading t s (b ∷ begun) v l h.same)

  read_lf : (bytes begun : List ℕ) (b : ℕ) → b ≡ lf → reading.verdict ≡ Ok tt → Read bytes (read_text_line reading begun) (end_line t) []
      → Read (b ∷ bytes) reading t begun
  unfolding take_all
  read_lf bytes begun b e v rest =
      simulates_as _ (foldl step (read_text_line reading begun) (lines_ahead [] bytes)) _ (last_kept (take_all (end_line t) bytes))
      (ap (foldl step reading) (ahead_lf begun bytes b e) ∙ ap (λ r. foldl step r (lines_ahead [] bytes)) (step_reads reading begun v))
      (ap (λ u. last_kept (take_all u bytes)) (byte_ends t b (s.verdict ∙ v) e))
      rest

  read_byte : (bytes begun : List ℕ) (b : ℕ) → (b ≡ lf → ⊥) → (u : Taken) → take_byte t b ≡ u → Read bytes reading u (begun ++ (b ∷ []))
      → Read (b ∷ bytes) reading t begun
  unfolding take_all
  read_byte bytes begun b e u f rest =
      simulates_as _ (foldl step reading (lines_ahead (begun ++ (b ∷ [])) bytes)) _ (last_kept (take_all u bytes))
      (ap (foldl step reading) (ahead_byte begun bytes b e))
      (ap (λ u. last_kept (take_all u bytes)) f)
      rest

read_all : (bytes : List ℕ) (reading : TextReading) (t : Taken) (begun : List ℕ) → Simulates reading t → Holds head_room t.intake.held t.line begun
    → reading.lines + length (lines_ahead begun bytes) < most_lines → Read bytes reading t begun
read_all [] reading t begun s h l =
    by_verdict reading.verdict (Read [] reading t begun) (λ v. read_end reading t s begun v (omega arith) h) (λ why e. read_refused reading t s [] begun why e)
read_all (b ∷ bytes) reading t begun s h l =
    by_verdict reading.verdict (Read (b ∷ bytes) reading t begun)
    (λ v.
    let held : ℕ = t.intake.held in
    ⊎_elim
    (λ c.
    let e : b ≡ lf = eqb-true b lf c in
    read_lf reading t s bytes begun b e v
    (read_all bytes (read_text_line reading begun) (end_line t) [] (simulates_line reading t s begun v (omega arith) h.same)
    (holds_ended t (s.verdict ∙ v) h.fits)
    (omega (arith, read_lines_lem reading begun, ap length (ahead_lf begun bytes b e)))))
    (λ c.
    let e : b ≡ lf → ⊥ = eqb-false b lf c in
    let few : reading.lines + length (lines_ahead (begun ++ (b ∷ [])) bytes) < most_lines = omega (arith, ap length (ahead_byte begun bytes b e)) in
    let more : Taken = taken (with_held (t.intake.held + 1) t.intake) t.memory (set t.line t.intake.held b) in
    ⊎_elim
    (λ r.
    read_byte reading t s bytes begun b e more (byte_held t b (s.verdict ∙ v) e r)
    (read_all bytes reading more (begun ++ (b ∷ [])) (simulates_held reading t (held + 1) (set t.line held b) s)
    (holds_more head_room held t.line begun b h r) few))
    (λ r.
    read_byte reading t s bytes begun b e t (byte_passed t b (s.verdict ∙ v) e r)
    (read_all bytes reading t (begun ++ (b ∷ [])) s (holds_full head_room held t.line begun b h r) few))
    (below_or held head_room))
    (either (eqb b lf)))
    (λ why e. read_refused reading t s (b ∷ bytes) begun why e)

-- a text from its start
pub whole : (t : Taken) (text : List ℕ) → Simulates text_begun t → Holds head_room t.intake.held t.line [] → length text < most_lines
    → Simulates (read_text text) (last_kept (take_all t text))
unfolding read_text read_text_lines
whole t text s h l =
    simulates_as _ (foldl step text_begun (lines_ahead [] text)) _ (last_kept (take_all t text))
    (ap (foldl step text_begun) (sym (ahead_first text))) refl
    (read_all text text_begun t [] s h (omega (arith, lines_most text, ap length (ahead_first text))))
