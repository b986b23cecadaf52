-- The figures that the rules state, for every valid task and every horizon from 0 to 64, and that files and tasks match.
-- Assumes nothing.
use Rattle.std.specs.Prelude.{Ok}
use mathlib.Core.Path.{◌≡◌, refl}
use mathlib.Core.Logic.{◌⊎◌, ◌↔◌}
use mathlib.Core.Bool.{true}
use mathlib.Core.List.{List}
use Prim.Native.Nat.{ℕ, ◌≤◌, ◌<◌}
use lib.ListN.{length}
use Rattle.rules.specs.Counting.{every}
use Rattle.rules.specs.Limits.{max_variables, max_domain, max_values, max_goals, max_actions, max_pairs, max_horizon, max_line, max_digits, contents_bytes, max_file}
use Rattle.rules.specs.Task.{Task, Valid}
use Rattle.rules.specs.File.{task_of, file_of, file_verdict}
use Rattle.rules.specs.Problem.{problem}
use Rattle.rules.specs.Numbering.{N, value_number, action_number}
use Rattle.rules.specs.Families.{C, clause}
use Rattle.rules.proofs.Valid.{WellFormed, valid_well_formed, well_formed_valid}
use Rattle.rules.proofs.Bounds.{N-bound, C-bound, clause_bound}
use Rattle.rules.proofs.Files.{accepted_valid, well_formed_accepted, read_back, file_short, is_byte, file_bytes}
use Rattle.rules.proofs.Numbering.{AtValue, AtAction, ValueAt, ActionAt, value_number-positive, value_number-within, action_number-positive, action_number-within, values_apart, actions_apart, value_no_action, numbered}

-- the limits, in digits
pub record TheLimits : Type 0 where
  pub variables : max_variables ≡ 96
  pub domain : max_domain ≡ 64
  pub values : max_values ≡ 1024
  pub goals : max_goals ≡ 96
  pub actions : max_actions ≡ 512
  pub pairs : max_pairs ≡ 8
  pub horizon : max_horizon ≡ 64
  pub line : max_line ≡ 4096
  pub digits : max_digits ≡ 6
  pub file : (contents_bytes ≡ 16) × (max_file ≡ 17808)

pub the_limits : TheLimits
the_limits =
    record {
      variables = refl;
      domain = refl;
      values = refl;
      goals = refl;
      actions = refl;
      pairs = refl;
      horizon = refl;
      line = refl;
      digits = refl;
      file = (refl, refl);
    }

-- a valid task is what these limits and the rules' words say it is, part by part
pub valid_is : (T : Task) → Valid T ↔ WellFormed T
valid_is T = (valid_well_formed T, well_formed_valid T)

pub record Figures (T : Task) (k : ℕ) : Type 0 where
  pub variables : N (problem T k) ≤ 99328
  pub clauses : C (problem T k) ≤ 11065120
  pub literals : (c : ℕ) → c < C (problem T k) → length (clause (problem T k) c) ≤ 514
  pub bytes : length (file_of T) ≤ 17808

pub figures : (T : Task) → Valid T → (k : ℕ) → k ≤ max_horizon → Figures T k
figures T v k h =
    let fine = valid_well_formed T v in
    record {
      variables = N-bound T fine k h;
      clauses = C-bound T fine k h;
      literals = clause_bound (problem T k) fine;
      bytes = file_short T fine;
    }

-- an accepted file states a valid task, and each valid task has a file, of bytes, that is accepted and states it
pub record Matching : Type 0 where
  pub file_to_task : (file : List ℕ) → file_verdict file ≡ Ok tt → Valid (task_of file)
  pub task_to_file : (T : Task) → Valid T → file_verdict (file_of T) ≡ Ok tt
  pub of_bytes : (T : Task) → Valid T → every is_byte (file_of T) ≡ true
  pub read_as : (T : Task) → task_of (file_of T) ≡ T

pub matching : Matching
matching =
    record {
      file_to_task = accepted_valid;
      task_to_file = λ T v. well_formed_accepted T (valid_well_formed T v);
      of_bytes = λ T v. file_bytes T (valid_well_formed T v);
      read_as = read_back;
    }

-- values at steps and actions at steps have different numbers, and together these are exactly 1 to N
pub record OneToOne (T : Task) (k : ℕ) : Type 0 where
  pub value_within : (s x v : ℕ) → AtValue (problem T k) s x v → (1 ≤ value_number (problem T k) s x v) × (value_number (problem T k) s x v ≤ N (problem T k))
  pub action_within : (s a : ℕ) → AtAction (problem T k) s a → (1 ≤ action_number (problem T k) s a) × (action_number (problem T k) s a ≤ N (problem T k))
  pub values_differ : (s x v t y w : ℕ) → AtValue (problem T k) s x v → AtValue (problem T k) t y w
      → value_number (problem T k) s x v ≡ value_number (problem T k) t y w → (s ≡ t) × (x ≡ y) × (v ≡ w)
  pub actions_differ : (s a t b : ℕ) → AtAction (problem T k) s a → AtAction (problem T k) t b
      → action_number (problem T k) s a ≡ action_number (problem T k) t b → (s ≡ t) × (a ≡ b)
  pub kinds_differ : (s x v t a : ℕ) → AtValue (problem T k) s x v → AtAction (problem T k) t a
      → value_number (problem T k) s x v ≡ action_number (problem T k) t a → ⊥
  pub none_left : (i : ℕ) → 1 ≤ i → i ≤ N (problem T k) → ValueAt (problem T k) i ⊎ ActionAt (problem T k) i

pub one_to_one : (T : Task) (k : ℕ) → OneToOne T k
one_to_one T k =
    let P = problem T k in
    record {
      value_within = λ s x v h. (value_number-positive P s x v, value_number-within P s x v h);
      action_within = λ s a h. (action_number-positive P s a, action_number-within P s a h);
      values_differ = values_apart P;
      actions_differ = actions_apart P;
      kinds_differ = value_no_action P;
      none_left = numbered P;
    }
