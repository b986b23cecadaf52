-- The calls' answers: which rule decides each, in their order.
-- Assumes nothing.
use Rattle.std.specs.Prelude.{Ok, Err}
use mathlib.Core.Path.{◌≡◌, sym, ap, ◌∙◌}
use mathlib.Core.List.{List, [], ◌∷◌}
use Prim.Native.Nat.{ℕ, ◌≤◌, ◌<◌}
use native.Mathlib.Omega.{arith}
use borrow.Author.Tests.{le-leb, lt-leb, lt-ltb, le-ltb}
use lib.Dec.{ltb}
use lib.IntN.{ℤ}
use lib.ListN.{length}
use Rattle.rules.specs.Limits.{max_horizon}
use Rattle.rules.specs.Answers.{demand, judge, in_turn, Verdict}
use Rattle.rules.specs.Problem.{problem}
use Rattle.rules.specs.Numbering.{N}
use Rattle.rules.specs.Families.{C, clause}
use Rattle.rules.specs.File.{task_of}
use Rattle.rules.specs.Calls.{problem_of, problem_rules, clause_rules, room_rule, lent_after, problem_verdict, clause_signed, clause_verdict}
use Rattle.rules.specs.declared.Refusal.{Refusal}
use Rattle.rules.specs.declared.Refusal.TheVariants.{ClauseNumber, Room}
use Rattle.rules.proofs.Judging.{judge_nil, judge_refused, judge_passed, judge_append}
use Rattle.task.specs.Index.{Indexed}
use Rattle.task.proofs.Stated.{problem_accepted}
use Rattle.digits.proofs.Overs.{over_front}
use Rattle.formula.specs.declared.place.Place.{Place}
use Rattle.formula.specs.InFamily.{InRange, IsAt}
use Rattle.formula.specs.Front.{written, clause_written, literal_count}
use Rattle.formula.specs.Said.{CountsAnswer, found, counts_answer, literals_answer}

-- the two counts of an answer, 0 where it is a refusal
abbrev pub variables_in : CountsAnswer → ℕ
variables_in (Ok found) = found.variables
variables_in (Err why) = 0

abbrev pub clauses_in : CountsAnswer → ℕ
clauses_in (Ok found) = found.clauses
clauses_in (Err why) = 0

module _ (file : List ℕ) (k : ℕ) where
  -- ---- refusals 1 to 8

  module _ (v : Verdict) (e : v ≡ problem_verdict file k) where
    pub counts_refused : (why : Refusal) → v ≡ Err why → Err why ≡ counts_answer file k
    unfolding counts_answer
    counts_refused why f = rw (← e, f)

    pub counts_found : (n m : ℕ) → v ≡ Ok tt → n ≡ N (problem_of file k) → m ≡ C (problem_of file k) → found n m ≡ counts_answer file k
    unfolding counts_answer
    counts_found n m f en em = rw (← e, f, en, em)

  -- ---- refusals 1 to 10

  module _ (c room : ℕ) where
    clause_turns : clause_verdict file k c room
        ≡ in_turn (in_turn (problem_verdict file k) (judge (demand (ltb c (C (problem_of file k))) ClauseNumber ∷ [])))
        (judge (room_rule (length (clause (problem_of file k) c)) room))
    unfolding clause_verdict clause_rules problem_verdict
    clause_turns =
        judge_append (clause_rules file k c) _
        ∙ ap (λ v. in_turn v (judge (room_rule (length (clause (problem_of file k) c)) room))) (judge_append (problem_rules file k) _)

    problem_refuses : (why : Refusal) → problem_verdict file k ≡ Err why → clause_verdict file k c room ≡ Err why
    problem_refuses why f = rw (clause_turns, f)

    module _ (f : problem_verdict file k ≡ Ok tt) where
      number_refuses : C (problem_of file k) ≤ c → clause_verdict file k c room ≡ Err ClauseNumber
      number_refuses h = rw (clause_turns, f, judge_refused (demand (ltb c (C (problem_of file k))) ClauseNumber) [] (le-ltb c _ h))

      module _ (h : c < C (problem_of file k)) where
        room_left : clause_verdict file k c room ≡ judge (room_rule (length (clause (problem_of file k) c)) room)
        room_left = rw (clause_turns, f, judge_passed (demand (ltb c (C (problem_of file k))) ClauseNumber) [] (lt-ltb c _ h), judge_nil)

        room_refuses : room < length (clause (problem_of file k) c) → clause_verdict file k c room ≡ Err Room
        room_refuses l = room_left ∙ judge_refused _ [] (lt-leb _ room l)

        pub accepts : length (clause (problem_of file k) c) ≤ room → clause_verdict file k c room ≡ Ok tt
        accepts l = room_left ∙ judge_passed _ [] (le-leb _ room l) ∙ judge_nil

  -- a refusal by the verdict, in the answer and in lent memory
  module _ (c : ℕ) (lent : List ℤ) where
    abbrev left : List ℤ
    left = lent_after (clause_verdict file k c (length lent)) (clause_signed file k c) lent

    said : (why : Refusal) → clause_verdict file k c (length lent) ≡ Err why → Err why ≡ literals_answer file k c (length lent)
    unfolding literals_answer
    said why e = rw e

    as_found : (why : Refusal) → clause_verdict file k c (length lent) ≡ Err why → lent ≡ left
    as_found why e = rw e

    module _ (v : Verdict) (why : Refusal) (e : v ≡ problem_verdict file k) (f : v ≡ Err why) where
      pub problem_said : Err why ≡ literals_answer file k c (length lent)
      problem_said = said why (problem_refuses c (length lent) why (sym e ∙ f))

      pub problem_left : lent ≡ left
      problem_left = as_found why (problem_refuses c (length lent) why (sym e ∙ f))

    module _ (index : List ℕ) (ix : Indexed file index) (hk : k ≤ max_horizon) (clauses : ℕ) (ec : clauses ≡ C (problem_of file k)) where
      fine : problem_verdict file k ≡ Ok tt
      fine = problem_accepted file k ix.accepted hk

      module _ (h : clauses ≤ c) where
        wrong_number : clause_verdict file k c (length lent) ≡ Err ClauseNumber
        wrong_number = number_refuses c (length lent) fine (omega arith)

        pub number_said : Err ClauseNumber ≡ literals_answer file k c (length lent)
        number_said = said ClauseNumber wrong_number

        pub number_left : lent ≡ left
        number_left = as_found ClauseNumber wrong_number

      module _ (h : c < clauses) (place : Place) (at : IsAt (problem_of file k) c place) (count : ℕ) (el : count ≡ literal_count file k place) where
        long : count ≡ length (clause (problem_of file k) c)
        unfolding literal_count problem_of
        long = el ∙ ap length at.is

        module _ (l : length lent < count) where
          no_room : clause_verdict file k c (length lent) ≡ Err Room
          no_room = room_refuses c (length lent) fine (omega arith) (omega (arith, long))

          pub room_said : Err Room ≡ literals_answer file k c (length lent)
          room_said = said Room no_room

          pub room_as_found : lent ≡ left
          room_as_found = as_found Room no_room

        module _ (l : count ≤ length lent) where
          accepted : clause_verdict file k c (length lent) ≡ Ok tt
          accepted = accepts c (length lent) fine (omega arith) (omega (arith, long))

          pub count_said : Ok count ≡ literals_answer file k c (length lent)
          unfolding literals_answer
          count_said = rw accepted (ap Ok long)

          pub clause_left : (out : List ℤ) → out ≡ clause_written file k place lent → out ≡ left
          unfolding clause_written written clause_signed problem_of
          clause_left out e = rw accepted (e ∙ over_front lent _ ∙ rw at.is)

  -- ---- what the steps between ask

  module _ (c : ℕ) (place : Place) (at : IsAt (problem_of file k) c place) where
    pub in_range : InRange (problem (task_of file) k) place
    unfolding problem_of
    in_range = at.inside

  pub enough_room : (place : Place) (count room : ℕ) → count ≡ literal_count file k place → count ≤ room → literal_count file k place ≤ room
  enough_room place count room e h = omega arith

  pub clause_there : (c clauses : ℕ) → clauses ≡ C (problem_of file k) → c < clauses → c < C (problem_of file k)
  clause_there c clauses e h = omega arith
