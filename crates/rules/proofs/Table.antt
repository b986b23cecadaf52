-- The folder example: P1 to P12 of the rules as one table under one statement about the definitions.
-- Assumes nothing.
use mathlib.Core.Path.{◌≡◌, refl, ap}
use mathlib.Core.Bool.{true, false}
use mathlib.Core.List.{List, [], ◌∷◌, ◌++◌, map}
use Prim.Native.Nat.{ℕ, suc, ◌-◌}
use lib.ListN.{length, get_or, set, replicate, take}
use Rattle.rules.specs.Counting.{sum_to, first, for_each, for_pairs, when, every, any, joined}
use Rattle.rules.specs.Limits.{max_literals}
use Rattle.rules.specs.Answers.{judge, answer_to, Verdict}
use Rattle.rules.specs.Task.{pair_at_fault, size_at_fault, start_at_fault, list_in_order, action_in_order, action_at_fault, task_rules}
use Rattle.rules.specs.File.{task_of, body, contents_rules, row_at_fault, pairs_at, action_in, rests_up_to, rests, is_whole, file_rules}
use Rattle.rules.specs.Problem.{Problem}
use Rattle.rules.specs.Numbering.{N, value_number, action_number}
use Rattle.rules.specs.Families.{C, clause, formula, families, family1, family2, family3, family4, family5, family6, family7, family8, supporters}
use Rattle.rules.specs.Text.{ascii, decimal_up_to, decimal, literal_text, clause_line}
use Rattle.rules.specs.Rows.{Rows, packed, bit_of_variable}
use Rattle.rules.specs.Truth.{literal_true, clause_true}
use Rattle.rules.specs.Walk.{start_state, holds, applies, set_pairs, apply, state_at, schedule_rules}
use Rattle.rules.specs.Readings.{value_bits, action_bits, assignment_of}
use Rattle.rules.specs.Output.{model_rules, outcome}
use Rattle.rules.specs.Calls.{problem_of, problem_rules, clause_rules, clause_verdict}
use Rattle.rules.specs.declared.Phase.TheVariants.{ModelClosed}
use Rattle.rules.proofs.Listed.{all_rows, in_order, good_schedules}

-- the file of 38 bytes
unfoldable pub folder : List ℕ
folder =
    0x10 ∷ 0x00 ∷ 0x02 ∷ 0x00 ∷ 0x12 ∷ 0x00 ∷ 0x02 ∷ 0x00 ∷ 0x14 ∷ 0x00 ∷ 0x02 ∷ 0x00 ∷ 0x16 ∷ 0x00 ∷ 0x10 ∷ 0x00
    ∷ 0x02 ∷ 0x02 ∷ 0x00 ∷ 0x00 ∷ 0x01 ∷ 0x01 ∷ 0x01 ∷ 0x01 ∷ 0x00 ∷ 0x00 ∷ 0x00 ∷ 0x01 ∷ 0x02 ∷ 0x02 ∷ 0x00 ∷ 0x01 ∷ 0x01 ∷ 0x00 ∷ 0x00 ∷ 0x00 ∷ 0x01 ∷ 0x01 ∷ []

abbrev pub folder_at : ℕ → Problem
folder_at k = problem_of folder k

-- ---- what the rows ask

-- a refusal's number and detail, 0 and 0 for acceptance
abbrev pub told : Verdict → List ℕ
told v = (answer_to v).number ∷ (answer_to v).detail ∷ []

abbrev pub N-and_C : ℕ → List ℕ
N-and_C k = N (folder_at k) ∷ C (folder_at k) ∷ []

abbrev pub clause_asked : ℕ → ℕ → List ℕ
clause_asked k c = told (clause_verdict folder k c max_literals)

abbrev pub schedule_judged : ℕ → List ℕ → List ℕ
schedule_judged k schedule = told (judge (schedule_rules (task_of folder) k schedule))

-- the variables that the model of a schedule has true
abbrev pub true_variables : ℕ → List ℕ → List ℕ
true_variables k schedule =
    let bits = assignment_of (folder_at k) schedule in
    for_each (length bits) (λ i. when (get_or bits i false) (suc i ∷ []))

-- the rows of the model of a schedule with one variable false
abbrev pub rows_with_false : ℕ → List ℕ → ℕ → Rows
rows_with_false k schedule v =
    record { given = packed (replicate (N (folder_at k)) true); is_true = packed (set (assignment_of (folder_at k) schedule) (v - 1) false) }

-- the end of a reading that gave this model
abbrev pub end_with_false : ℕ → List ℕ → ℕ → List ℕ
end_with_false k schedule v = told (outcome (folder_at k) ModelClosed (rows_with_false k schedule v))

-- ---- the table

pub record Row : Type 0 where
  pub asked : List (List ℕ)
  pub right : List (List ℕ)

abbrev row : List (List ℕ) → List (List ℕ) → Row
row asked right = record { asked = asked; right = right }

abbrev pub rows : List Row
rows =
    row (N-and_C 0 ∷ []) ((4 ∷ 7 ∷ []) ∷ [])  -- P1
    ∷ row (N-and_C 1 ∷ []) ((10 ∷ 22 ∷ []) ∷ [])  -- P2
    ∷ row (N-and_C 2 ∷ []) ((16 ∷ 37 ∷ []) ∷ [])  -- P3
    ∷ row (clause_line (clause (folder_at 1) 17) ∷ []) (ascii "-7 1 6 0\n" ∷ [])  -- P4
    ∷ row (clause_asked 1 21 ∷ clause_asked 1 22 ∷ []) ((0 ∷ 0 ∷ []) ∷ (9 ∷ 0 ∷ []) ∷ [])  -- P5
    ∷ row (good_schedules (task_of folder) 1) []  -- P6
    ∷ row (good_schedules (task_of folder) 2) ((1 ∷ 2 ∷ []) ∷ [])  -- P7, and its model:
    ∷ row (true_variables 2 (1 ∷ 2 ∷ []) ∷ []) ((1 ∷ 3 ∷ 5 ∷ 8 ∷ 9 ∷ 12 ∷ 13 ∷ 16 ∷ []) ∷ [])
    ∷ row (good_schedules (task_of folder) 3) ((0 ∷ 1 ∷ 2 ∷ []) ∷ (1 ∷ 0 ∷ 2 ∷ []) ∷ (1 ∷ 2 ∷ 0 ∷ []) ∷ (1 ∷ 2 ∷ 1 ∷ []) ∷ [])  -- P8
    ∷ row (schedule_judged 2 (2 ∷ 0 ∷ []) ∷ []) ((21 ∷ 1 ∷ []) ∷ [])  -- P9
    ∷ row (schedule_judged 2 (1 ∷ 0 ∷ []) ∷ []) ((22 ∷ 0 ∷ []) ∷ [])  -- P10
    ∷ row (schedule_judged 2 (3 ∷ 0 ∷ []) ∷ []) ((20 ∷ 1 ∷ []) ∷ [])  -- P11
    ∷ row (end_with_false 2 (1 ∷ 2 ∷ []) 16 ∷ []) ((17 ∷ 2 ∷ []) ∷ [])  -- P12
    ∷ []

-- P12's rows as words, since the end would compute them anew for each literal
last_rows : rows_with_false 2 (1 ∷ 2 ∷ []) 16 ≡ record { given = 65535 ∷ []; is_true = 6549 ∷ [] }
unfolding
    sum_to for_each task_of body pairs_at action_in rests_up_to rests N packed start_state set_pairs apply state_at value_bits action_bits assignment_of problem_of folder
last_rows = refl

pub all_rows_lem : map (λ r. r.asked) rows ≡ map (λ r. r.right) rows
unfolding
    sum_to first for_each for_pairs every any joined judge
    pair_at_fault size_at_fault start_at_fault list_in_order action_in_order action_at_fault task_rules
    task_of body contents_rules row_at_fault pairs_at action_in rests_up_to rests is_whole file_rules
    N value_number action_number C clause formula families family1 family2 family3 family4 family5 family6 family7 family8 supporters
    ascii decimal_up_to decimal literal_text clause_line packed bit_of_variable literal_true clause_true
    start_state holds applies set_pairs apply state_at schedule_rules value_bits action_bits assignment_of model_rules outcome
    problem_of problem_rules clause_rules clause_verdict all_rows in_order good_schedules folder
all_rows_lem = ap (λ words. map (λ r. r.asked) (take 12 rows) ++ ((told (outcome (folder_at 2) ModelClosed words) ∷ []) ∷ [])) last_rows
