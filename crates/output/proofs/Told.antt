-- The model program told a good schedule's model: for an accepted file, a horizon from 0 to 64 and entries that can be carried out and reach the goal, the
-- program prints these entries when a solver says the schedule's assignment, a literal a line.
-- Assumes nothing.
use Rattle.std.specs.Prelude.{Ok}
use mathlib.Core.Path.{◌≡◌, refl, sym, ap, ◌∙◌}
use mathlib.Core.Bool.{Bool, true, false}
use mathlib.Core.List.{List, [], ◌∷◌, ◌++◌, map, append_assoc}
use Prim.Native.Nat.{ℕ, zero, suc, ◌+◌, ◌-◌, ◌*◌, ◌/◌, ◌%◌, ◌^◌, ◌≤◌, ◌<◌}
use native.Mathlib.Nat.{zero-div}
use native.Mathlib.Omega.{arith}
use borrow.Author.Tests.{le-leb}
use lib.Dec.{lit<}
use lib.ListN.{length, get_or, take, replicate, length-replicate}
use lib.Seq.{take_at, drop_at}
use Rattle.rules.specs.Counting.{every, joined, table}
use Rattle.rules.specs.Limits.{max_horizon, byte_values}
use Rattle.rules.specs.File.{bytes16, file_verdict, task_of}
use Rattle.rules.specs.Problem.{Problem}
use Rattle.rules.specs.Numbering.{N}
use Rattle.rules.specs.Families.{Literal, plus, minus}
use Rattle.rules.specs.Text.{lf, ascii, literal_text}
use Rattle.rules.specs.Rows.{Rows, words_for, bit_of_variable}
use Rattle.rules.specs.Truth.{model_in, assigned}
use Rattle.rules.specs.Walk.{CarriedOut}
use Rattle.rules.specs.Readings.{schedule_of, assignment_of}
use Rattle.rules.specs.Lines.{pieces, rows_fit, says_satisfiable}
use Rattle.rules.specs.Output.{without_empty_last, lines_of, read_lines, read_output, outcome, first_reading}
use Rattle.rules.specs.Calls.{problem_of, problem_verdict}
use Rattle.rules.specs.Programs.{printed, schedule_text, fresh_rows, after_lines, model_output}
use Rattle.rules.specs.declared.Phase.TheVariants.{NoStatus, ModelClosed}
use Rattle.rules.proofs.Bools.{and_left, and_right, and_both}
use Rattle.rules.proofs.Counting.{every_append, every_table}
use Rattle.rules.proofs.Valid.{WellFormed}
use Rattle.rules.proofs.Files.{accepted_well_formed}
use Rattle.rules.proofs.Bounds.{N-bound}
use Rattle.rules.proofs.Within.{Agree, satisfied_alike, schedule_alike}
use Rattle.rules.proofs.Endings.{holds_accepted}
use Rattle.rules.proofs.Schedules.{length-assignment, assignment_good, schedule_back}
use Rattle.rules.proofs.AtCalls.{within}
use Rattle.rules.proofs.Spoken.{free, pieces_more, decimal_free, literal_line, closing_line}
use Rattle.output.proofs.Said.{literal_in, model_lines, held, model_read, all_given, as_said}

-- what the solver prints
abbrev pub solver_says : List Bool → List ℕ
solver_says bits = joined (map (λ l. l ++ (lf ∷ [])) (model_lines bits))

-- ---- lines that end in LF are cut as they were

cut_back : (ls : List (List ℕ)) → every (free lf) ls ≡ true → pieces lf (joined (map (λ l. l ++ (lf ∷ [])) ls)) ≡ ls ++ ([] ∷ [])
unfolding every joined pieces
cut_back [] h = refl
cut_back (l ∷ ls) h =
    ap (pieces lf) (append_assoc l (lf ∷ []) (joined (map (λ l. l ++ (lf ∷ [])) ls)))
    ∙ pieces_more lf l (joined (map (λ l. l ++ (lf ∷ [])) ls)) (and_left (free lf l) (every (free lf) ls) h)
    ∙ ap (λ r. l ∷ r) (cut_back ls (and_right (free lf l) (every (free lf) ls) h))

last_away : (ls : List (List ℕ)) → without_empty_last (ls ++ ([] ∷ [])) ≡ ls
unfolding without_empty_last
last_away [] = refl
last_away (l ∷ []) = refl
last_away (l ∷ (m ∷ ls)) = ap (λ r. l ∷ r) (last_away (m ∷ ls))

literal_free : (l : Literal) → free lf (literal_line l) ≡ true
unfolding every literal_text
literal_free (plus v) = decimal_free lf v (lit< tt)
literal_free (minus v) = decimal_free lf v (lit< tt)

said_free : (bits : List Bool) → every (free lf) (model_lines bits) ≡ true
unfolding every says_satisfiable ascii
said_free bits =
    every_append (free lf) (table (length bits) (λ i. literal_line (literal_in bits i))) (closing_line ∷ [])
    (every_table (free lf) (length bits) (λ i. literal_line (literal_in bits i)) (λ i l. literal_free (literal_in bits i))) refl

lines_back : (bits : List Bool) → lines_of (solver_says bits) ≡ model_lines bits
unfolding lines_of
lines_back bits = ap without_empty_last (cut_back (model_lines bits) (said_free bits)) ∙ last_away (model_lines bits)

-- ---- rows of words that are 0

zeros_at : (m i : ℕ) → ◌≡◌ {A = ℕ} (get_or (replicate m 0) i 0) 0
zeros_at zero i = refl
zeros_at (suc m) zero = refl
zeros_at (suc m) (suc i) = zeros_at m i

none_given : (m v : ℕ) → bit_of_variable (replicate m 0) v ≡ false
unfolding bit_of_variable
none_given m v = rw (zeros_at m ((v - 1) / 64)) (rw (zero-div (2 ^ ((v - 1) % 64))) refl)

-- ---- the program

module _ (file : List ℕ) (fine : file_verdict file ≡ Ok tt) (k : ℕ) (small : k ≤ max_horizon) (entries : List ℕ) (size : k ≤ length entries)
    (c : CarriedOut (task_of file) k entries) where
  abbrev P : Problem
  P = problem_of file k

  abbrev bits : List Bool
  bits = assignment_of P entries

  well : WellFormed (task_of file)
  well = accepted_well_formed file fine

  sized : length bits ≡ N P
  unfolding problem_of
  sized = length-assignment (task_of file) k entries

  few : length bits < 10 ^ suc 5
  unfolding problem_of
  few = omega (arith, sized, N-bound (task_of file) well k small)

  fits : rows_fit (length bits) (fresh_rows P) ≡ true
  unfolding rows_fit
  fits =
      let long = length-replicate {A = ℕ} (words_for (N P)) 0 in
      rw (sized, long) (and_both _ _ (le-leb (words_for (N P)) (words_for (N P)) (omega arith)) (le-leb (words_for (N P)) (words_for (N P)) (omega arith)))

  abbrev rows : Rows
  rows = held bits (fresh_rows P) fits few (none_given (words_for (N P)))

  read : read_output (first_reading P) (fresh_rows P) (solver_says bits) ≡ record { answer = Ok (record { highest = N P; phase = ModelClosed }); rows = rows }
  unfolding read_output
  read =
      ap (read_lines (first_reading P) (fresh_rows P)) (lines_back bits)
      ∙ ap (λ n. read_lines (record { highest = n; phase = NoStatus }) (fresh_rows P) (model_lines bits)) (sym sized)
      ∙ model_read bits (fresh_rows P) fits few (none_given (words_for (N P)))
      ∙ ap (λ n. record { answer = Ok (record { highest = n; phase = ModelClosed }); rows = rows }) sized

  -- the rows say what the assignment says
  agreeing : Agree P (model_in rows) (assigned bits)
  agreeing =
      let at : (v : ℕ) → 1 ≤ v → v ≡ suc (v - 1) = λ v l. omega arith in
      record {
        given_alike = λ v l u.
            ap (bit_of_variable rows.given) (at v l)
            ∙ all_given bits (fresh_rows P) fits few (none_given (words_for (N P))) (v - 1) (omega (arith, sized));
        true_alike = λ v l u.
            ap (bit_of_variable rows.is_true) (at v l)
            ∙ as_said bits (fresh_rows P) fits few (none_given (words_for (N P))) (v - 1) (omega (arith, sized));
      }

  accepted : outcome P ModelClosed rows ≡ Ok tt
  unfolding problem_of
  accepted =
      holds_accepted P rows ModelClosed
      (record {
        closed = refl;
        all_true = satisfied_alike P (model_in rows) (assigned bits) agreeing well ∙ assignment_good (task_of file) k well entries c;
      })

  schedule_told : schedule_of P (model_in rows) ≡ take k entries
  unfolding problem_of
  schedule_told = schedule_alike P (model_in rows) (assigned bits) agreeing ∙ schedule_back (task_of file) k well entries size c

  problem_fine : problem_verdict file k ≡ Ok tt
  unfolding problem_verdict
  problem_fine = within file fine k small

  -- horizon, file length, file and what the solver says
  abbrev pub told : List ℕ
  told = k ∷ (bytes16 (length file) ++ (file ++ solver_says bits))

  pub prints_schedule : model_output told ≡ schedule_text (take k entries)
  unfolding model_output
  prints_schedule =
      let width : length file % byte_values + byte_values * (length file / byte_values) ≡ length file = omega arith in
      let three : 3 + length file ≡ suc (suc (suc (length file))) = omega arith in
      rw (width, three, take_at file (solver_says bits) (length file) refl, drop_at file (solver_says bits) (length file) refl)
      (ap (λ v. printed v (after_lines P (read_output (first_reading P) (fresh_rows P) (solver_says bits)))) problem_fine
      ∙ ap (after_lines P) read
      ∙ ap (λ v. printed v (schedule_text (schedule_of P (model_in rows)))) accepted
      ∙ ap schedule_text schedule_told)
