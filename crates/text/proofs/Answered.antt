-- The calls' answers: which rule decides each, in their order.
-- Assumes nothing.
use Rattle.std.specs.Prelude.{Ok, Err}
use mathlib.Core.Path.{◌≡◌, refl, sym, ap, ◌∙◌}
use mathlib.Core.Logic.{⊎_elim}
use mathlib.Core.List.{List, [], ◌∷◌}
use Prim.Native.Nat.{ℕ, ◌≤◌, ◌<◌}
use native.Mathlib.Omega.{arith}
use native.Mathlib.Nat.{zero-add}
use borrow.Author.Tests.{le-leb, lt-leb, leb-true, lt-ltb, le-ltb, ltb-true}
use lib.Dec.{leb, ltb}
use lib.ListN.{length, take}
use Rattle.rules.specs.Limits.{max_horizon}
use Rattle.rules.specs.Counting.{joined}
use Rattle.rules.specs.Answers.{demand, judge, in_turn, Verdict}
use Rattle.rules.specs.Problem.{Problem}
use Rattle.rules.specs.Families.{C, clause}
use Rattle.rules.specs.Text.{header_line, clause_line}
use Rattle.rules.specs.Calls.{problem_of, problem_rules, clause_rules, room_rule, lent_after, problem_verdict, header_verdict, clause_line_verdict, lines_from}
use Rattle.rules.specs.declared.Refusal.{Refusal}
use Rattle.rules.specs.declared.Refusal.TheVariants.{ClauseNumber, Room}
use Rattle.rules.proofs.Bools.{below_or}
use Rattle.rules.proofs.Judging.{judge_nil, judge_refused, judge_passed, judge_head, judge_append, in_turn-left, in_turn-right}
use Rattle.task.specs.Index.{Indexed}
use Rattle.digits.specs.Over.{over, Wrote}
use Rattle.digits.proofs.Overs.{over_front, over_none}
use Rattle.task.proofs.Stated.{problem_right}
use Rattle.parts.specs.Runs.{PutPart}
use Rattle.parts.proofs.OneLine.{made_first, one_line, no_line}
use Rattle.text.specs.declared.runs.Run.{Run}
use Rattle.text.specs.Said.{answered, header_answer, clause_line_answer, lines_answer, wrote, TextAnswer}
use Rattle.text.proofs.Longest.{none_fits, some_fit}

module _ (file : List ℕ) (k : ℕ) where
  abbrev P : Problem
  P = problem_of file k

  -- ---- the header: 1 to 8, then 10

  abbrev header : List ℕ
  header = header_line P

  module _ (room : ℕ) where
    header_turns : header_verdict file k room ≡ in_turn (problem_verdict file k) (judge (room_rule (length header) room))
    unfolding header_verdict problem_verdict
    header_turns = judge_append (problem_rules file k) _

    pub header_room_lem : header_verdict file k room ≡ Ok tt → length header ≤ room
    header_room_lem f =
        leb-true (length header) room
        (judge_head (demand (leb (length header) room) Room) [] (in_turn-right (problem_verdict file k) _ (sym header_turns ∙ f)))

    header_refused : (why : Refusal) → problem_verdict file k ≡ Err why → header_verdict file k room ≡ Err why
    header_refused why f = rw (header_turns, f)

    module _ (f : problem_verdict file k ≡ Ok tt) where
      header_short : room < length header → header_verdict file k room ≡ Err Room
      header_short h = rw (header_turns, f) (judge_refused _ [] (lt-leb _ room h))

      pub header_fits : length header ≤ room → header_verdict file k room ≡ Ok tt
      header_fits h = rw (header_turns, f) (judge_passed _ [] (le-leb _ room h) ∙ judge_nil)

  -- ---- a clause's line, and many: 1 to 8, 9, then 10

  module _ (c room : ℕ) where
    line_turns : clause_line_verdict file k c room
        ≡ in_turn (in_turn (problem_verdict file k) (judge (demand (ltb c (C P)) ClauseNumber ∷ []))) (judge (room_rule (length (clause_line (clause P c))) room))
    unfolding clause_line_verdict clause_rules problem_verdict
    line_turns =
        judge_append (clause_rules file k c) _ ∙ ap (λ v. in_turn v (judge (room_rule (length (clause_line (clause P c))) room))) (judge_append (problem_rules file k) _)

    -- what acceptance says
    module _ (f : clause_line_verdict file k c room ≡ Ok tt) where
      turned : in_turn (in_turn (problem_verdict file k) (judge (demand (ltb c (C P)) ClauseNumber ∷ []))) (judge (room_rule (length (clause_line (clause P c))) room)) ≡ Ok tt
      turned = sym line_turns ∙ f

      pub line_there : c < C P
      line_there =
          ltb-true c (C P)
          (judge_head (demand (ltb c (C P)) ClauseNumber) []
          (in_turn-right (problem_verdict file k) _ (in_turn-left (in_turn (problem_verdict file k) (judge (demand (ltb c (C P)) ClauseNumber ∷ []))) _ turned)))

      pub line_room_lem : length (clause_line (clause P c)) ≤ room
      line_room_lem =
          leb-true (length (clause_line (clause P c))) room
          (judge_head (demand (leb (length (clause_line (clause P c))) room) Room) []
          (in_turn-right (in_turn (problem_verdict file k) (judge (demand (ltb c (C P)) ClauseNumber ∷ []))) _ turned))

    line_refused : (why : Refusal) → problem_verdict file k ≡ Err why → clause_line_verdict file k c room ≡ Err why
    line_refused why f = rw (line_turns, f)

    module _ (f : problem_verdict file k ≡ Ok tt) where
      line_over : C P ≤ c → clause_line_verdict file k c room ≡ Err ClauseNumber
      line_over h = rw (line_turns, f, judge_refused (demand (ltb c (C P)) ClauseNumber) [] (le-ltb c _ h))

      module _ (h : c < C P) where
        room_left : clause_line_verdict file k c room ≡ judge (room_rule (length (clause_line (clause P c))) room)
        room_left = rw (line_turns, f, judge_passed (demand (ltb c (C P)) ClauseNumber) [] (lt-ltb c _ h), judge_nil)

        line_short : room < length (clause_line (clause P c)) → clause_line_verdict file k c room ≡ Err Room
        line_short l = room_left ∙ judge_refused _ [] (lt-leb _ room l)

        pub line_fits : length (clause_line (clause P c)) ≤ room → clause_line_verdict file k c room ≡ Ok tt
        line_fits l = room_left ∙ judge_passed _ [] (le-leb _ room l) ∙ judge_nil

  -- ---- the ways out: what is answered, and what is left in lent room

  module _ (lent : List ℕ) where
    abbrev room : ℕ
    room = length lent

    module _ (v : Verdict) (why : Refusal) (e : v ≡ problem_verdict file k) (f : v ≡ Err why) where
      pub header_problem_said : Err why ≡ header_answer file k room
      header_problem_said = rw (header_refused room why (sym e ∙ f))

      pub header_problem_left : lent ≡ lent_after (header_verdict file k room) header lent
      header_problem_left = rw (header_refused room why (sym e ∙ f))

      module _ (c : ℕ) where
        pub problem_said : (lines bytes : ℕ) → Err why ≡ answered (clause_line_verdict file k c room) lines bytes
        problem_said lines bytes = rw (line_refused c room why (sym e ∙ f))

        pub problem_left : (made : List ℕ) → lent ≡ lent_after (clause_line_verdict file k c room) made lent
        problem_left made = rw (line_refused c room why (sym e ∙ f))

    module _ (index : List ℕ) (ix : Indexed file index) (hk : k ≤ max_horizon) where
      fine : problem_verdict file k ≡ Ok tt
      fine = sym (problem_right file k _ refl ix.accepted hk)

      module _ (line made : List ℕ) (n : ℕ) (w : Wrote line 0 header made n) where
        long : n ≡ length header
        long = w.behind ∙ zero-add (length header)

        pub header_room-said : room < n → Err Room ≡ header_answer file k room
        header_room-said h = rw (header_short room fine (omega (arith, long)))

        pub header_room-left : room < n → lent ≡ lent_after (header_verdict file k room) header lent
        header_room-left h = rw (header_short room fine (omega (arith, long)))

        pub header_said : n ≤ room → wrote 1 n ≡ header_answer file k room
        header_said h = rw (header_fits room fine (omega (arith, long))) (ap (wrote 1) long)

        pub header_left : (after : List ℕ) (end : ℕ) → n ≤ room → Wrote lent 0 (take n made) after end
            → after ≡ lent_after (header_verdict file k room) header lent
        header_left after end h u =
            rw (header_fits room fine (omega (arith, long))) (u.written ∙ rw (made_first line made header n w) (over_front lent header))

      module _ (c clauses : ℕ) (ec : clauses ≡ C P) where
        module _ (h : clauses ≤ c) where
          pub number_said : (lines bytes : ℕ) → Err ClauseNumber ≡ answered (clause_line_verdict file k c room) lines bytes
          number_said lines bytes = rw (line_over c room fine (omega arith))

          pub number_left : (made : List ℕ) → lent ≡ lent_after (clause_line_verdict file k c room) made lent
          number_left made = rw (line_over c room fine (omega arith))

        module _ (h : c < clauses) where
          there : c < C P
          there = omega arith

          abbrev line : List ℕ
          line = clause_line (clause P c)

          -- one line
          module _ (m end : ℕ) (after : List ℕ) (p : PutPart file k c lent 0 m after end) where
            short : m ≡ 0 → clause_line_verdict file k c room ≡ Err Room
            short z = let s = p.none z in line_short c room fine there (omega arith)

            pub line_room-said : m ≡ 0 → Err Room ≡ clause_line_answer file k c room
            line_room-said z = rw (short z)

            pub line_room-left : m ≡ 0 → after ≡ lent_after (clause_line_verdict file k c room) line lent
            line_room-left z = rw (short z) (p.wrote.written ∙ rw (z, no_line P c) (over_none lent 0))

            module _ (few : m ≤ 1) (some : m ≡ 0 → ⊥) where
              one : Wrote lent 0 line after end
              one =
                  let m1 : m ≡ 1 = ⊎_elim (λ z. absurd (some (omega arith))) (λ g. omega arith) (below_or m 1) in
                  rw (← one_line P c, ← m1) p.wrote

              end_is : end ≡ length line
              end_is = one.behind ∙ zero-add (length line)

              fits : clause_line_verdict file k c room ≡ Ok tt
              fits = line_fits c room fine there (omega (arith, p.within, end_is))

              pub line_said : wrote 1 end ≡ clause_line_answer file k c room
              line_said = rw fits (ap (wrote 1) end_is)

              pub line_left : after ≡ lent_after (clause_line_verdict file k c room) line lent
              line_left = rw fits (one.written ∙ over_front lent line)

          -- as many as fit
          abbrev lines : List (List ℕ)
          lines = lines_from file k c room

          module _ (m : ℕ) (after : List ℕ) (o : after ≡ over lent 0 (joined lines)) (em : m ≡ length lines) where
            many_short : m ≡ 0 → room < length line
            many_short z =
                ⊎_elim (λ s. s) (λ s. absurd (omega (arith, some_fit file k c room there s))) (below_or room (length line))

            pub many_room_said : m ≡ 0 → Err Room ≡ lines_answer file k c room
            many_room_said z = rw (line_short c room fine there (many_short z))

            pub many_room_left : m ≡ 0 → after ≡ lent_after (clause_line_verdict file k c room) (joined lines) lent
            unfolding joined
            many_room_left z =
                rw (line_short c room fine there (many_short z)) (o ∙ rw (none_fits file k c room there (many_short z)) (over_none lent 0))

            module _ (some : m ≡ 0 → ⊥) where
              many_fit : clause_line_verdict file k c room ≡ Ok tt
              many_fit =
                  ⊎_elim (λ s. absurd (some (em ∙ ap length (none_fits file k c room there s)))) (line_fits c room fine there) (below_or room (length line))

              pub many_said : (run : Run) → run.lines ≡ m → run.bytes ≡ length (joined lines) → Ok run ≡ lines_answer file k c room
              many_said run el eb =
                  let said : ◌≡◌ {A = TextAnswer} (wrote run.lines run.bytes) (wrote (length lines) (length (joined lines))) = rw (el ∙ em, eb) in
                  rw many_fit said

              pub many_left : after ≡ lent_after (clause_line_verdict file k c room) (joined lines) lent
              many_left = rw many_fit (o ∙ over_front lent (joined lines))
