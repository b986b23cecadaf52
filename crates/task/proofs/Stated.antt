-- The problem that a file states at a horizon: which of refusals 1 to 8 decides, what acceptance says, and N.
-- Assumes nothing.
use Rattle.std.specs.Prelude.{Ok, Err}
use mathlib.Core.Path.{◌≡◌, refl, sym, ◌∙◌}
use mathlib.Core.List.{List, [], ◌∷◌}
use Prim.Native.Nat.{ℕ, ◌+◌, ◌*◌, ◌≤◌, ◌<◌}
use native.Mathlib.Omega.{arith}
use borrow.Author.Tests.{leb-true, le-leb, lt-leb}
use mir.Syntax.{w64}
use mir.Val.{Fits}
use lib.Dec.{leb}
use Rattle.rules.specs.Answers.{demand, judge, in_turn, Verdict}
use Rattle.rules.specs.Limits.{max_horizon}
use Rattle.rules.specs.Task.{S}
use Rattle.rules.specs.Numbering.{stride, N}
use Rattle.rules.specs.File.{task_of, file_rules, file_verdict}
use Rattle.rules.specs.Calls.{problem_of, problem_rules, problem_verdict}
use Rattle.rules.specs.declared.Refusal.{Refusal}
use Rattle.rules.specs.declared.Refusal.TheVariants.{Horizon}
use Rattle.rules.proofs.Judging.{judge_nil, judge_refused, judge_passed, judge_head, judge_append, in_turn-left, in_turn-right}
use Rattle.task.specs.Index.{index_of, Indexed}
use Rattle.task.proofs.Asking.{stride_few, number-fits₁}

module _ (file : List ℕ) (k : ℕ) where
  -- ---- refusals 1 to 8

  in_turn_lem : problem_verdict file k ≡ in_turn (file_verdict file) (judge (demand (leb k max_horizon) Horizon ∷ []))
  unfolding problem_verdict problem_rules file_verdict
  in_turn_lem = judge_append (file_rules file) _

  module _ (v : Verdict) (e : v ≡ file_verdict file) where
    pub file_wrong : (why : Refusal) → v ≡ Err why → v ≡ problem_verdict file k
    file_wrong why f = rw (in_turn_lem, ← e, f)

    pub horizon_wrong : v ≡ Ok tt → max_horizon < k → Err Horizon ≡ problem_verdict file k
    horizon_wrong f h = rw (in_turn_lem, ← e, f) (sym (judge_refused _ [] (lt-leb k max_horizon h)))

    pub problem_right : v ≡ Ok tt → k ≤ max_horizon → Ok tt ≡ problem_verdict file k
    problem_right f h = rw (in_turn_lem, ← e, f) (sym (judge_passed _ [] (le-leb k max_horizon h) ∙ judge_nil))

  pub problem_accepted : file_verdict file ≡ Ok tt → k ≤ max_horizon → problem_verdict file k ≡ Ok tt
  problem_accepted f h = sym (problem_right (file_verdict file) refl f h)

  module _ (v : Verdict) (e : v ≡ problem_verdict file k) where
    turns : v ≡ Ok tt → in_turn (file_verdict file) (judge (demand (leb k max_horizon) Horizon ∷ [])) ≡ Ok tt
    turns f = sym in_turn_lem ∙ sym e ∙ f

    pub file_accepted : v ≡ Ok tt → file_verdict file ≡ Ok tt
    file_accepted f = in_turn-left (file_verdict file) _ (turns f)

    pub horizon_right : v ≡ Ok tt → k ≤ max_horizon
    horizon_right f = leb-true k max_horizon (judge_head _ [] (in_turn-right (file_verdict file) _ (turns f)))

    pub indexed : (index : List ℕ) → v ≡ Ok tt → index ≡ index_of file → Indexed file index
    indexed index f i = record { accepted = file_accepted f; filled = i }

  -- ---- N

  module _ (w v : ℕ) (ew : w ≡ stride (task_of file)) (ev : v ≡ S (task_of file)) where
    pub variables_fit : (index : List ℕ) → Indexed file index → k ≤ max_horizon → Fits w64 (k * w + v)
    variables_fit index ix low = number-fits₁ k w v low (stride_few file index ix w ew) (omega arith)

    pub variables_are : k * w + v ≡ N (problem_of file k)
    unfolding problem_of N
    variables_are = rw (ew, ev)
