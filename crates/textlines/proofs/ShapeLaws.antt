-- Laws of shapes: rules in their order, and what the arms of the table of lines go by.
-- Assumes nothing.
use mathlib.Core.Path.{◌≡◌, sym, ap, ◌∙◌}
use mathlib.Core.Bool.{Bool, true, false}
use mathlib.Core.List.{List, [], ◌∷◌}
use Prim.Native.Nat.{ℕ}
use Rattle.std.specs.Prelude.{None, Result, Ok, Err}
use Rattle.rules.specs.Answers.{Rule, demand, judge}
use Rattle.rules.specs.Task.{Pair}
use Rattle.rules.specs.Format.{Stated, name, number, fact, nothing, line_rules, number_at}
use Rattle.rules.specs.declared.FormatLine.{FormatLine}
use Rattle.rules.specs.declared.FormatLine.TheVariants.{MutexFact}
use Rattle.rules.specs.declared.Refusal.{Refusal}
use Rattle.rules.specs.declared.Refusal.TheVariants.{AgainstFormat}
use Rattle.rules.proofs.Judging.{judge_refused, judge_passed, judge_nil}
use Rattle.textlines.specs.Says.{numbers, numbers_in, said_by, shape_says, says_as, says_nothing, against_format, a_number, a_fact, is_fact}
use Rattle.textlines.specs.declared.Numbers.{Numbers}

-- ---- rules in their order

pub stops : (holds : Bool) (why : Refusal) (rules : List Rule) (says : Numbers) → holds ≡ false
    → Err why ≡ said_by (judge (demand holds why ∷ rules)) says
stops holds why rules says t = sym (ap (λ v. said_by v says) (judge_refused (demand holds why) rules t))

passes : (holds : Bool) (why : Refusal) (rules : List Rule) (says : Numbers) → holds ≡ true
    → said_by (judge rules) says ≡ said_by (judge (demand holds why ∷ rules)) says
passes holds why rules says t = sym (ap (λ v. said_by v says) (judge_passed (demand holds why) rules t))

through : (says : Numbers) → Ok says ≡ said_by (judge []) says
through says = sym (ap (λ v. said_by v says) judge_nil)

module _ (at : ℕ) (line : List ℕ) where
  pub name_says : (r : Result Numbers Refusal) → r ≡ says_nothing → r ≡ shape_says name at line
  unfolding shape_says line_rules numbers_in judge
  name_says r e = e

  pub nothing_says : (r : Result Numbers Refusal) → r ≡ against_format at → r ≡ shape_says nothing at line
  unfolding shape_says line_rules numbers_in judge
  nothing_says r e = e

  -- what a number announces and states is no matter of the line
  pub number_says : (r : Result Numbers Refusal) → (announced : ℕ → List FormatLine) (states : ℕ → Stated → Stated) → r ≡ shape_says a_number at line
      → r ≡ shape_says (number announced states) at line
  unfolding shape_says line_rules numbers_in
  number_says r announced states e = e

  pub fact_says : (r : Result Numbers Refusal) → (states : Pair → Stated → Stated) → r ≡ shape_says a_fact at line → r ≡ shape_says (fact states) at line
  unfolding shape_says line_rules numbers_in
  fact_says r states e = e

  pub says_as_lem : (r : Result Numbers Refusal) → (due kind : FormatLine) → due ≡ kind → r ≡ says_as kind at line → r ≡ says_as due at line
  says_as_lem r due kind e h = rw e h

-- what each arm of the table of lines goes by
pub ruleset says_arms = (name_says, nothing_says, number_says, fact_says, says_as_lem)

-- of a mutex group's fact nothing else is asked
pub group_fact : (at : ℕ) (line : List ℕ) → is_fact line ≡ true → says_as MutexFact at line ≡ Ok (numbers (number_at line 0) (number_at line 1) None)
unfolding says_as shape_says line_rules numbers_in is_fact
group_fact at line t = sym (through _ ∙ passes (is_fact line) (AgainstFormat at) [] _ t)
