-- The folder example as the translator writes it, run through the definitions: its file, and lines and texts that are refused.
-- Assumes nothing.
use mathlib.Core.Path.{◌≡◌, refl}
use mathlib.Core.List.{List, [], ◌∷◌, ◌++◌, map}
use Prim.Native.Nat.{ℕ}
use Prim.Native.String.{String}
use Rattle.rules.specs.Counting.{sum_to, first, for_each, times, every, joined}
use Rattle.rules.specs.Answers.{judge}
use Rattle.rules.specs.Task.{pair_at_fault, size_at_fault, start_at_fault, list_in_order, action_in_order, action_at_fault, task_rules}
use Rattle.rules.specs.File.{pair_text, action_text, bodies_of, contents_from, file_of}
use Rattle.rules.specs.Text.{ascii, decimal_up_to, decimal, refusal_line}
use Rattle.rules.specs.Lines.{pieces, value_from, agree, same}
use Rattle.rules.specs.Output.{without_empty_last, lines_of}
use Rattle.rules.specs.Format.{put_in_order, with_size, with_start, with_goal, with_precondition, with_effect, with_action, shape_of, word_at, word_count, is_plain, is_minus_one, number_at, line_number, line_rules, lines_announced, stated}
use Rattle.rules.specs.Translation.{shape_due, read_text_line, read_text_lines, read_text, end_of_reading, text_verdict, text_task, stated_verdict, translation_verdict, translation_output}
use Rattle.rules.specs.declared.FormatLine.{FormatLine}
use Rattle.rules.specs.declared.FormatLine.TheVariants.{Version, Metric, VariableName, AxiomLayer, GoalFact, Effect, AxiomCount, EndOfText}
use Rattle.rules.proofs.Table.{folder, told}
use Rattle.rules.proofs.Runs.{Run, run}

-- a line that is due, as line 9 of its text
abbrev pub line_judged : FormatLine → String → List ℕ
line_judged due line = told (judge (line_rules (shape_of due) 9 (ascii line)))

-- the parts of the text: up to the goal's count, the goal's facts, and from there on
abbrev pub text_before : String
text_before =
    "begin_version\n3\nend_version\nbegin_metric\n0\nend_metric\n2\nbegin_variable\nvar0\n-1\n2\nAtom free(folder)\nAtom held(folder)\nend_variable\nbegin_variable\nvar1\n-1\n2\nAtom waiting(run)\nAtom done(run)\nend_variable\n1\nbegin_mutex_group\n2\n0 0\n0 1\nend_mutex_group\nbegin_state\n0\n0\nend_state\nbegin_goal\n"

abbrev pub text_behind : String
text_behind =
    "end_goal\n2\nbegin_operator\ntake folder\n0\n1\n0 0 0 1\n1\nend_operator\nbegin_operator\nrun\n1\n1 0\n2\n0 1 -1 1\n0 0 1 0\n1\nend_operator\n0\n"

abbrev pub text_with : String → List ℕ
text_with goal = translation_output (ascii text_before ++ ascii goal ++ ascii text_behind)

abbrev pub translator_runs : List Run
translator_runs =
    run (text_with "1\n1 1\n") folder
    ∷ run (text_with "2\n1 2\n0 1\n") (ascii "refused 6 1\n")
    ∷ run (text_with "2\n0 2\n0 0\n") (ascii "refused 6 0\n")
    ∷ run (text_with "2\n0 1\n0 1\n") (ascii "refused 6 1\n")
    ∷ run (text_with "1\n1 1\n\n") (ascii "refused 30 35\n")
    ∷ run (translation_output []) (ascii "refused 30 1\n")
    ∷ run (translation_output (ascii "begin_version\n4\n")) (ascii "refused 32 2\n")
    ∷ run (translation_output (ascii "begin_version\n3")) (ascii "refused 30 3\n")
    ∷ run (line_judged Version "4 x") (30 ∷ 9 ∷ [])
    ∷ run (line_judged Version "03") (30 ∷ 9 ∷ [])
    ∷ run (line_judged Metric "2") (30 ∷ 9 ∷ [])
    ∷ run (line_judged VariableName "end_variable") (0 ∷ 0 ∷ [])
    ∷ run (line_judged AxiomLayer "-1") (0 ∷ 0 ∷ [])
    ∷ run (line_judged AxiomLayer "0 x") (31 ∷ 9 ∷ [])
    ∷ run (line_judged AxiomLayer "00") (30 ∷ 9 ∷ [])
    ∷ run (line_judged AxiomLayer "-1 ") (30 ∷ 9 ∷ [])
    ∷ run (line_judged GoalFact "0  1") (30 ∷ 9 ∷ [])
    ∷ run (line_judged Effect "1 x") (31 ∷ 9 ∷ [])
    ∷ run (line_judged Effect "0 3 -1 255") (0 ∷ 0 ∷ [])
    ∷ run (line_judged Effect "0 3 255 -1") (30 ∷ 9 ∷ [])
    ∷ run (line_judged AxiomCount "1000000") (30 ∷ 9 ∷ [])
    ∷ run (line_judged EndOfText "") (30 ∷ 9 ∷ [])
    ∷ []

pub all_translator_runs : map (λ r. r.asked) translator_runs ≡ map (λ r. r.right) translator_runs
unfolding
    sum_to first for_each times every joined judge
    pair_at_fault size_at_fault start_at_fault list_in_order action_in_order action_at_fault task_rules
    pair_text action_text bodies_of contents_from file_of ascii decimal_up_to decimal refusal_line pieces value_from agree same without_empty_last lines_of
    put_in_order with_size with_start with_goal with_precondition with_effect with_action
    word_at word_count is_plain is_minus_one number_at line_number line_rules lines_announced stated
    shape_due read_text_line read_text_lines read_text end_of_reading text_verdict text_task stated_verdict translation_verdict translation_output folder
all_translator_runs = refl
