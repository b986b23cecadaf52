-- The program as a whole: whatever parts its input comes in, what is written at the end is the rules' own output of the whole input. The first
-- part has to hold the file that it announces, unless nothing follows it; each row has the words needed.
-- Assumes nothing.
use Rattle.std.specs.Prelude.{Ok, Err}
use mathlib.Core.Path.{◌≡◌, refl, sym, ap, ap₂, ◌∙◌}
use mathlib.Core.Logic.{◌⊎◌, inl, inr, ⊎_elim}
use mathlib.Core.Bool.{true, ◌&&◌}
use mathlib.Core.List.{List, [], ◌∷◌, ◌++◌, foldl, foldl-append, append-nil}
use Prim.Native.Nat.{ℕ, ◌+◌, ◌*◌, ◌≤◌, ◌<◌}
use native.Mathlib.Omega.{arith}
use borrow.Author.Tests.{le-leb}
use lib.Dec.{leb, lit<}
use lib.ListN.{length, take, drop, replicate, length-append, length-drop, length-replicate, drop_of_length-le, get_or-append}
use lib.Seq.{take-append-le, drop-append-le}
use Rattle.rules.specs.Counting.{joined}
use Rattle.rules.specs.Answers.{demand, judge, in_turn, Verdict, LineAnswer}
use Rattle.rules.specs.Limits.{max_horizon, byte_values}
use Rattle.rules.specs.File.{byte, word16}
use Rattle.rules.specs.Problem.{Problem}
use Rattle.rules.specs.Numbering.{N}
use Rattle.rules.specs.Families.{Literal}
use Rattle.rules.specs.Rows.{Rows, words_for, over_row}
use Rattle.rules.specs.Truth.{model_in}
use Rattle.rules.specs.Readings.{schedule_of}
use Rattle.rules.specs.Lines.{kind_of, line_verdict, phase_after, named, Progress, rows_fit, progress, read_line}
use Rattle.rules.specs.Output.{first_reading, cleared_rows, lines_of, read_on, read_lines, read_output, outcome}
use Rattle.rules.specs.Calls.{problem_of, problem_rules, problem_verdict, start_verdict, start_reading, end_verdict}
use Rattle.rules.specs.Programs.{printed, schedule_text, fresh_rows, model_text, after_lines, model_output}
use Rattle.rules.specs.declared.Refusal.{Refusal}
use Rattle.rules.specs.declared.Refusal.TheVariants.{Room}
use Rattle.rules.specs.declared.Phase.{Phase}
use Rattle.rules.specs.declared.Reading.{Reading}
use Rattle.rules.proofs.Judging.{judge_append, judge_cons, judge_nil}
use Rattle.rows.specs.Lent.{lent}
use Rattle.output.specs.Feeding.{line_room, Fed, feed_byte, feed_all, room_for, has_room, feed_call, finish, finish_call}
use Rattle.digits.specs.Over.{over}
use Rattle.digits.proofs.Overs.{over_front}
use Rattle.output.proofs.Kept.{Kept, kept_same, kept_on, all_keep}
use Rattle.output.proofs.Whole.{read_in_parts}
use Rattle.model.specs.Parts.{head_bytes, first_room, file_in, lines_in, words_by, words_needed, begun, FedSome, end_text, text_after, last_text, Ended, Answered}
use Rattle.model.proofs.Ways.{verdicts, accepted_horizon}

-- ---- a reading keeps the lengths of the rows

progress_keeps : (v : Verdict) (next : Reading) (ls : List Literal) (rows : Rows) → Kept (progress v next ls rows).rows rows
progress_keeps (Ok _) next ls rows = all_keep rows ls
progress_keeps (Err why) next ls rows = kept_same rows

on_keeps : (a : LineAnswer) (rows : Rows) (line : List ℕ) → Kept (read_on a rows line).rows rows
unfolding read_line
on_keeps (Ok reading) rows line =
    progress_keeps (in_turn (judge (demand (rows_fit reading.highest rows) Room ∷ [])) (line_verdict reading rows.given line))
    (record { highest = reading.highest; phase = phase_after (kind_of line) reading rows.given line })
    (named (kind_of line) reading rows.given line)
    rows
on_keeps (Err why) rows line = kept_same rows

lines_keep : (lines : List (List ℕ)) (p : Progress) → Kept (foldl (λ p line. read_on p.answer p.rows line) p lines).rows p.rows
lines_keep [] p = kept_same p.rows
lines_keep (l ∷ ls) p =
    kept_on _ (read_on p.answer p.rows l).rows p.rows (lines_keep ls (read_on p.answer p.rows l)) (on_keeps p.answer p.rows l)

output_keeps : (reading : Reading) (rows : Rows) (bytes : List ℕ) → Kept (read_output reading rows bytes).rows rows
unfolding read_output read_lines
output_keeps reading rows bytes = lines_keep (lines_of bytes) (record { answer = Ok reading; rows = rows })

-- ---- a refused start stays what it is

module _ (why : Refusal) (rows : Rows) (line : List ℕ) (room : line_room ≤ length line) where
  abbrev stopped : Fed
  stopped = record { progress = record { answer = Err why; rows = rows }; held = 0; line = line }

  room_stays : has_room stopped ≡ true
  unfolding has_room room_for
  room_stays = le-leb line_room (length line) room

  bytes_stay : (bytes : List ℕ) → feed_all stopped bytes ≡ stopped
  unfolding feed_all feed_byte
  bytes_stay [] = refl
  bytes_stay (b ∷ bytes) = bytes_stay bytes

  call_stays : (bytes : List ℕ) → feed_call stopped bytes ≡ stopped
  unfolding feed_call
  call_stays bytes = rw room_stays (bytes_stay bytes)

  calls_stay : (parts : List (List ℕ)) → foldl feed_call stopped parts ≡ stopped
  calls_stay [] = refl
  calls_stay (p ∷ parts) = ap (λ fed. foldl feed_call fed parts) (call_stays p) ∙ calls_stay parts

  end_stays : ◌≡◌ {A = Progress} (finish_call stopped) (record { answer = Err why; rows = rows })
  unfolding finish_call finish
  end_stays = rw room_stays

-- ---- the input and its first part

module _ (first rest : List ℕ) (h : (head_bytes + word16 first 1 ≤ length first) ⊎ (rest ≡ [])) where
  same_byte : (i : ℕ) → i < head_bytes → byte (first ++ rest) i ≡ byte first i
  same_byte i l =
      ⊎_elim (λ long. get_or-append first rest 0 i (omega arith)) (λ e. ap (λ r. byte (first ++ r) i) e ∙ ap (λ s. byte s i) (append-nil first)) h

  same_size : word16 (first ++ rest) 1 ≡ word16 first 1
  same_size = ap₂ (λ a b. a + byte_values * b) (same_byte 1 (lit< tt)) (same_byte 2 (lit< tt))

  same_file : take (word16 first 1) (drop head_bytes (first ++ rest)) ≡ file_in first
  unfolding file_in
  same_file =
      ⊎_elim
      (λ long.
      ap (take (word16 first 1)) (drop-append-le head_bytes first rest (omega arith))
      ∙ take-append-le (word16 first 1) (drop head_bytes first) rest (omega (arith, length-drop head_bytes first)))
      (λ e. ap (λ r. take (word16 first 1) (drop head_bytes (first ++ r))) e ∙ ap (λ s. take (word16 first 1) (drop head_bytes s)) (append-nil first))
      h

  same_lines : drop (head_bytes + word16 first 1) (first ++ rest) ≡ lines_in first ++ rest
  unfolding lines_in
  same_lines =
      ⊎_elim (λ long. drop-append-le (head_bytes + word16 first 1) first rest long)
      (λ e.
      ap (λ r. drop (head_bytes + word16 first 1) (first ++ r)) e
      ∙ ap (drop (head_bytes + word16 first 1)) (append-nil first)
      ∙ sym (append-nil (drop (head_bytes + word16 first 1) first))
      ∙ ap (λ r. drop (head_bytes + word16 first 1) first ++ r) (sym e))
      h

-- ---- the start

module _ (file : List ℕ) (k : ℕ) (rows : Rows) where
  start_verdicts : start_verdict file k rows ≡ in_turn (problem_verdict file k) (judge (demand (rows_fit (N (problem_of file k)) rows) Room ∷ []))
  unfolding start_verdict problem_verdict
  start_verdicts = judge_append (problem_rules file k) _

  start_refused : (why : Refusal) → problem_verdict file k ≡ Err why → ◌≡◌ {A = Progress} (start_reading file k rows) (record { answer = Err why; rows = rows })
  unfolding start_reading
  start_refused why e = rw (start_verdicts, e)

  start_accepted : problem_verdict file k ≡ Ok tt → rows_fit (N (problem_of file k)) rows ≡ true
      → ◌≡◌ {A = Progress} (start_reading file k rows) (record { answer = Ok (first_reading (problem_of file k)); rows = cleared_rows (problem_of file k) rows })
  unfolding start_reading
  start_accepted e fits = rw (start_verdicts, e, judge_cons (demand (rows_fit (N (problem_of file k)) rows) Room) [] fits judge_nil)

fresh : (w : ℕ) (row : List ℕ) → length row ≡ w → over_row (replicate w 0) row ≡ replicate w 0
unfolding over_row
fresh w row e =
    ap (λ r. replicate w 0 ++ r) (drop_of_length-le row {i = length (replicate w 0)} (omega (arith, length-replicate {A = ℕ} w 0))) ∙ append-nil (replicate w 0)

module _ (P : Problem) (g t : List ℕ) (a : length g ≡ words_for (N P)) (b : length t ≡ words_for (N P)) where
  cleared_fresh : cleared_rows P (lent g t) ≡ fresh_rows P
  unfolding cleared_rows
  cleared_fresh = ap₂ lent (fresh (words_for (N P)) g a) (fresh (words_for (N P)) t b)

  exact_fit : rows_fit (N P) (lent g t) ≡ true
  unfolding rows_fit
  exact_fit = rw (le-leb (words_for (N P)) (length g) (omega arith), le-leb (words_for (N P)) (length t) (omega arith))

-- ---- the end

fresh_fit : (P : Problem) (after : Rows) → Kept after (fresh_rows P) → rows_fit (N P) after ≡ true
unfolding rows_fit
fresh_fit P after k =
    rw (
      le-leb (words_for (N P)) (length after.given) (omega (arith, k.given, length-replicate {A = ℕ} (words_for (N P)) 0)),
      le-leb (words_for (N P)) (length after.is_true) (omega (arith, k.is_true, length-replicate {A = ℕ} (words_for (N P)) 0)),
    )

end_outcome : (file : List ℕ) (k : ℕ) (phase : Phase) (rows : Rows) → problem_verdict file k ≡ Ok tt → rows_fit (N (problem_of file k)) rows ≡ true
    → end_verdict file k phase rows (replicate max_horizon 0) ≡ outcome (problem_of file k) phase rows
end_outcome file k phase rows e fits =
    verdicts file k phase rows (replicate max_horizon 0)
    ∙ ap (λ v. in_turn v (outcome (problem_of file k) phase rows))
    (ap (λ v. in_turn v (judge (demand (rows_fit (N (problem_of file k)) rows && leb k max_horizon) Room ∷ []))) e
    ∙ judge_cons (demand (rows_fit (N (problem_of file k)) rows && leb k max_horizon) Room) [] (rw (fits, le-leb k max_horizon (accepted_horizon file k e))) judge_nil)

text_same : (first : List ℕ) (a : LineAnswer) (rows : Rows) → problem_verdict (file_in first) (byte first 0) ≡ Ok tt
    → rows_fit (N (problem_of (file_in first) (byte first 0))) rows ≡ true → text_after first a rows ≡ model_text (problem_of (file_in first) (byte first 0)) a rows
unfolding end_text
text_same first (Err why) rows e fits = refl
text_same first (Ok reading) rows e fits =
    ap (λ v. printed v (schedule_text (schedule_of (problem_of (file_in first) (byte first 0)) (model_in rows)))) (end_outcome (file_in first) (byte first 0) reading.phase rows e fits)

-- ---- the whole

module _ (first : List ℕ) (parts : List (List ℕ)) (g t line : List ℕ) (room : line_room ≤ length line) where
  abbrev P : Problem
  P = problem_of (file_in first) (byte first 0)

  -- what is written at the end
  abbrev pub written : List ℕ
  written = last_text first (finish_call (foldl feed_call (begun first (lent g t) line) parts))

  by_verdict : (v : Verdict) → problem_verdict (file_in first) (byte first 0) ≡ v → length g ≡ words_by v P → length t ≡ words_by v P
      → written ≡ printed v (after_lines P (read_output (first_reading P) (fresh_rows P) (lines_in first ++ joined parts)))
  unfolding begun last_text joined
  by_verdict (Err why) e a b =
      let start : begun first (lent g t) line ≡ stopped why (lent g t) line room =
      ap (λ p. feed_call (record { progress = p; held = 0; line = line }) (lines_in first)) (start_refused (file_in first) (byte first 0) (lent g t) why e)
      ∙ call_stays why (lent g t) line room (lines_in first) in
      ap (λ fed. last_text first (finish_call (foldl feed_call fed parts))) start
      ∙ ap (λ fed. last_text first (finish_call fed)) (calls_stay why (lent g t) line room parts)
      ∙ ap (last_text first) (end_stays why (lent g t) line room)
  by_verdict (Ok _) e a b =
      let start : begun first (lent g t) line
      ≡ feed_call (record { progress = record { answer = Ok (first_reading P); rows = fresh_rows P }; held = 0; line = line }) (lines_in first) =
      ap (λ p. feed_call (record { progress = p; held = 0; line = line }) (lines_in first))
      (start_accepted (file_in first) (byte first 0) (lent g t) e (exact_fit P g t a b)
      ∙ ap (λ rows. record { answer = Ok (first_reading P); rows = rows }) (cleared_fresh P g t a b)) in
      let read : Progress = read_output (first_reading P) (fresh_rows P) (lines_in first ++ joined parts) in
      let fed : finish_call (foldl feed_call (begun first (lent g t) line) parts) ≡ read =
      ap (λ fed. finish_call (foldl feed_call fed parts)) start ∙ read_in_parts (first_reading P) (fresh_rows P) line (lines_in first ∷ parts) room (fresh_fit P (fresh_rows P) (kept_same (fresh_rows P))) in
      ap (last_text first) fed
      ∙ text_same first read.answer read.rows e (fresh_fit P read.rows (output_keeps (first_reading P) (fresh_rows P) (lines_in first ++ joined parts)))

-- the parts of an input, in any lengths, come to what the rules say of the whole
pub prints : (first : List ℕ) (parts : List (List ℕ)) (g t line : List ℕ) → length g ≡ words_needed first → length t ≡ words_needed first → line_room ≤ length line
    → (head_bytes + word16 first 1 ≤ length first) ⊎ (joined parts ≡ [])
    → last_text first (finish_call (foldl feed_call (begun first (lent g t) line) parts)) ≡ model_output (first ++ joined parts)
unfolding model_output words_needed
prints first parts g t line a b room h =
    by_verdict first parts g t line room (problem_verdict (file_in first) (byte first 0)) refl a b
    ∙ sym (rw (same_byte first (joined parts) h 0 (lit< tt), same_size first (joined parts) h, same_file first (joined parts) h, same_lines first (joined parts) h))

-- ---- the loop over the parts, and what `answer` leaves

pub some_none : (fed : Fed) → FedSome fed fed
some_none fed = record { parts = []; fed = refl }

pub some_more : (before fed after : Fed) (bytes : List ℕ) → FedSome before fed → after ≡ feed_call fed bytes → FedSome before after
some_more before fed after bytes s e =
    record { parts = s.parts ++ (bytes ∷ []); fed = e ∙ ap (λ f. feed_call f bytes) s.fed ∙ sym (foldl-append feed_call before s.parts (bytes ∷ [])) }

pub answered_short : (first g t line out now : List ℕ) (end : ℕ) (begin : Fed) → now ≡ over out 0 (last_text first (finish_call begin))
    → end ≡ length (last_text first (finish_call begin)) → begin ≡ begun first (lent g t) line → length first < first_room
    → length g ≡ words_needed first → length t ≡ words_needed first → line_room ≤ length line → Answered first out now end
unfolding joined
answered_short first g t line out now end begin e f start short a b room =
    let text : last_text first (finish_call begin) ≡ model_output (first ++ []) =
    ap (λ fed. last_text first (finish_call fed)) start ∙ prints first [] g t line a b room (inr refl) in
    record { rest = []; all = λ h. refl; is = e ∙ ap (over out 0) text; behind = f ∙ ap length text }

pub ended_some : (first out now : List ℕ) (end : ℕ) (before fed : Fed) → now ≡ over out 0 (last_text first (finish_call fed))
    → end ≡ length (last_text first (finish_call fed)) → FedSome before fed → Ended first before out now end
ended_some first out now end before fed e f s =
    record { parts = s.parts; is = e ∙ ap (λ fed. over out 0 (last_text first (finish_call fed))) s.fed; behind = f ∙ ap (λ fed. length (last_text first (finish_call fed))) s.fed }

pub answered_long : (first g t line out now : List ℕ) (end : ℕ) (begin : Fed) → Ended first begin out now end → begin ≡ begun first (lent g t) line → first_room ≤ length first
    → head_bytes + word16 first 1 ≤ first_room → length g ≡ words_needed first → length t ≡ words_needed first → line_room ≤ length line → Answered first out now end
answered_long first g t line out now end begin s start long announced a b room =
    let text : last_text first (finish_call (foldl feed_call begin s.parts)) ≡ model_output (first ++ joined s.parts) =
    ap (λ fed. last_text first (finish_call (foldl feed_call fed s.parts))) start
    ∙ prints first s.parts g t line a b room (inl (omega arith)) in
    record { rest = joined s.parts; all = λ h. absurd (omega arith); is = s.is ∙ ap (over out 0) text; behind = s.behind ∙ ap length text }

pub answer_within : (first out now : List ℕ) (end : ℕ) → Answered first out now end → end ≤ length now
answer_within first out now end s =
    let text : List ℕ = model_output (first ++ s.rest) in
    omega (arith, s.behind, ap length (s.is ∙ over_front out text), length-append text (drop (length text) out))
