-- The folder example run through the definitions: what the two programs print, and the lines that the rules give answers for. And a task with an action
-- that changes nothing, which a model may leave unnamed.
-- Assumes nothing.
use mathlib.Core.Path.{◌≡◌, refl}
use mathlib.Core.List.{List, [], ◌∷◌, ◌++◌, map}
use Prim.Native.Nat.{ℕ}
use Prim.Native.String.{String}
use lib.ListN.{length}
use Rattle.rules.specs.Counting.{sum_to, first, for_each, for_pairs, every, any, joined}
use Rattle.rules.specs.Answers.{judge, answer_to_line}
use Rattle.rules.specs.Task.{pair_at_fault, size_at_fault, start_at_fault, list_in_order, action_in_order, action_at_fault, task_rules}
use Rattle.rules.specs.File.{bytes16, task_of, body, contents_rules, row_at_fault, pairs_at, action_in, rests_up_to, rests, is_whole, file_rules}
use Rattle.rules.specs.Numbering.{N, value_number, action_number}
use Rattle.rules.specs.Families.{C, clause, formula, families, family1, family2, family3, family4, family5, family6, family7, family8, supporters}
use Rattle.rules.specs.Text.{ascii, decimal_up_to, decimal, literal_text, clause_line, header_line, clause_lines, formula_text, refusal_line}
use Rattle.rules.specs.Rows.{bit_of_variable, with_variable, store, store_all}
use Rattle.rules.specs.Truth.{literal_true, clause_true}
use Rattle.rules.specs.Readings.{true_action, entry_of, schedule_of}
use Rattle.rules.specs.Lines.{pieces, reach, is_number, value_from, variable_of, literal_of, word_rules, scan_word, scan_piece, scan_pieces, scan_line, agree, same, says_satisfiable, says_unsatisfiable, says_unknown, is_status, status_reach, phase_said, kind_of, kind_verdict, line_verdict, phase_after, named, rows_fit, read_line}
use Rattle.rules.specs.Output.{without_empty_last, lines_of, read_lines, read_output, model_rules, outcome}
use Rattle.rules.specs.Calls.{problem_of, problem_rules, problem_verdict}
use Rattle.rules.specs.Programs.{clauses_output, model_output, schedule_text}
use Rattle.rules.specs.declared.Phase.{Phase}
use Rattle.rules.specs.declared.Phase.TheVariants.{NoStatus, ModelOpen}
use Rattle.rules.proofs.Table.{folder}

-- one line at horizon 1, where N is 10 and nothing is given yet
abbrev pub line_read : Phase → String → List ℕ
line_read phase line =
    let answer = answer_to_line (read_line (record { highest = 10; phase = phase }) (record { given = 0 ∷ []; is_true = 0 ∷ [] }) (ascii line)).answer in
    answer.number ∷ answer.detail ∷ []

abbrev pub model_run_on : List ℕ → ℕ → String → List ℕ
model_run_on file k output = model_output (k ∷ bytes16 (length file) ++ file ++ ascii output)

abbrev pub model_run : ℕ → String → List ℕ
model_run k output = model_run_on folder k output

-- one variable of two values, 0 at the start and in the goal, and one action from 0 to 0
unfoldable pub still : List ℕ
still =
    0x10 ∷ 0x00 ∷ 0x01 ∷ 0x00 ∷ 0x11 ∷ 0x00 ∷ 0x01 ∷ 0x00 ∷ 0x12 ∷ 0x00 ∷ 0x02 ∷ 0x00 ∷ 0x14 ∷ 0x00 ∷ 0x06 ∷ 0x00
    ∷ 0x02 ∷ 0x00 ∷ 0x00 ∷ 0x00 ∷ 0x01 ∷ 0x01 ∷ 0x00 ∷ 0x00 ∷ 0x00 ∷ 0x00 ∷ []

pub record Run : Type 0 where
  pub asked : List ℕ
  pub right : List ℕ

abbrev pub run : List ℕ → List ℕ → Run
run asked right = record { asked = asked; right = right }

abbrev pub runs : List Run
runs =
    run (clauses_output (1 ∷ folder))
    (ascii
    "p cnf 10 22\n1 0\n3 0\n10 0\n1 2 0\n3 4 0\n7 8 0\n9 10 0\n-1 -2 0\n-3 -4 0\n-7 -8 0\n-9 -10 0\n-5 1 0\n-6 2 0\n-6 3 0\n-5 8 0\n-6 7 0\n-6 10 0\n-7 1 6 0\n-8 2 5 0\n-9 3 0\n-10 4 6 0\n-5 -6 0\n")
    ∷ run (clauses_output (65 ∷ folder)) (ascii "refused 8 0\n")
    ∷ run (clauses_output []) (ascii "refused 1 0\n")
    ∷ run (model_run 2 "c a model\ns SATISFIABLE\nv 1 -2 3 -4 5 -6 -7 8 9 -10\nv -11 12 13 -14 -15 16 0\n") (ascii "1\n2\n")
    ∷ run (model_run 2 "s SATISFIABLE\nv 1 -2 3 -4 5 -6 -7 8 9 -10 -11 12 13 -14 -15 -16 0") (ascii "refused 17 2\n")
    ∷ run (model_run 2 "s SATISFIABLE\nv 1 -2 3 -4 5 -6 -7 8 9 -10 -11 12 13 -14 -15 0\n") (ascii "refused 17 2\n")
    -- without -6, clause -6 2 has no true literal among those named
    ∷ run (model_run 2 "s SATISFIABLE\nv 1 -2 3 -4 5 -7 8 9 -10 -11 12 13 -14 -15 16 0\n") (ascii "refused 17 16\n")
    ∷ run (model_run 2 "s SATISFIABLE\nv 1 -2 3 -4 5 -6 -7 8 9 -10 -11 12 13 -14 -15 16\n") (ascii "refused 15 0\n")
    -- action 3 is not named, and the step stays empty; value 2 has to be
    ∷ run (model_run_on still 1 "s SATISFIABLE\nv 1 -2 4 -5 0\n") (ascii "0\n")
    ∷ run (model_run_on still 1 "s SATISFIABLE\nv 1 4 -5 0\n") (ascii "refused 17 4\n")
    ∷ run (model_run 1 "s UNSATISFIABLE\n") (ascii "refused 18 0\n")
    ∷ run (line_read ModelOpen "v 11") (13 ∷ 2 ∷ [])
    ∷ run (line_read ModelOpen "v 1 1") (14 ∷ 4 ∷ [])
    ∷ run (line_read ModelOpen "v -0") (11 ∷ 3 ∷ [])
    ∷ run (line_read ModelOpen "v 1 -2 0 3") (12 ∷ 9 ∷ [])
    ∷ run (line_read NoStatus "s SAT") (11 ∷ 5 ∷ [])
    ∷ []

pub all_runs : map (λ r. r.asked) runs ≡ map (λ r. r.right) runs
unfolding
    sum_to first for_each for_pairs every any joined judge
    pair_at_fault size_at_fault start_at_fault list_in_order action_in_order action_at_fault task_rules
    task_of body contents_rules row_at_fault pairs_at action_in rests_up_to rests is_whole file_rules
    N value_number action_number C clause formula families family1 family2 family3 family4 family5 family6 family7 family8 supporters
    ascii decimal_up_to decimal literal_text clause_line header_line clause_lines formula_text refusal_line
    bit_of_variable with_variable store store_all literal_true clause_true true_action entry_of schedule_of
    pieces reach is_number value_from variable_of literal_of word_rules scan_word scan_piece scan_pieces scan_line agree same
    says_satisfiable says_unsatisfiable says_unknown is_status status_reach phase_said kind_of kind_verdict line_verdict phase_after named rows_fit read_line
    without_empty_last lines_of read_lines read_output model_rules outcome
    problem_of problem_rules problem_verdict clauses_output model_output schedule_text folder still
all_runs = refl
