-- The ways out of the functions that judge four bodies and a whole file.
-- Assumes nothing.
use Rattle.std.specs.Prelude.{Ok, Err}
use mathlib.Core.Path.{◌≡◌, refl, sym, ap, ◌∙◌}
use mathlib.Core.Bool.{Bool, true, false, not, ◌&&◌}
use mathlib.Core.List.{List, []}
use Prim.Native.Nat.{ℕ, ◌/◌, ◌≤◌, ◌<◌}
use native.Mathlib.Omega.{arith}
use borrow.Author.Tests.{eq-eqb, ne_eqb, le-leb, lt-leb, leb-true, eqb-true}
use lib.Dec.{leb, eqb}
use lib.ListN.{length, drop}
use denote.Ref.{Bor}
use Rattle.rules.specs.Counting.{first}
use Rattle.rules.specs.Limits.{max_variables, max_values, pair_bytes}
use Rattle.rules.specs.Answers.{judge, in_turn, Verdict}
use Rattle.rules.specs.Task.{Task, S, size_at_fault, start_at_fault, pair_at_fault, list_in_order, action_in_order, action_at_fault, task_rules}
use Rattle.rules.specs.File.{pairs_at, contents_rules, contents_verdict, body, task_of, file_rules, file_verdict}
use Rattle.rules.specs.declared.Refusal.{Refusal}
use Rattle.rules.specs.declared.Refusal.TheVariants.{BodyLength, DomainSize, StartValue, GoalPair}
use Rattle.rules.proofs.Bools.{and_left, and_right, not_true, not_false}
use Rattle.rules.proofs.Judging.{judge_refused, judge_passed, judge_append}
use Rattle.rules.proofs.Counting.{first_le}
use Rattle.rules.proofs.Loops.{judge_found, judge_none}
use Rattle.rules.proofs.PairBytes.{length-pairs_at}
use Rattle.reader.specs.Stretches.{Stretch}
use Rattle.reader.specs.Bodies.{task_in, sized, bodies_rules, actions_rule}
use Rattle.reader.proofs.ReadChecks.{fit}

-- ---- lengths that fit

module _ (n starts goals : ℕ) (b : Bool) (e : b ≡ fit n starts goals) (f : not b ≡ false) where
  fits : fit n starts goals ≡ true
  fits = sym e ∙ not_false b f

  starts_fit : (leb 1 n && leb n max_variables && eqb starts n) ≡ true
  starts_fit = and_left (leb 1 n && leb n max_variables && eqb starts n) _ (and_left (leb 1 n && leb n max_variables && eqb starts n && _) _ fits)

  pub few_variables : n ≤ max_variables
  few_variables = leb-true n max_variables (and_right (leb 1 n) _ (and_left (leb 1 n && leb n max_variables) _ starts_fit))

  pub as_many_starts : starts ≡ n
  as_many_starts = eqb-true starts n (and_right (leb 1 n && leb n max_variables) _ starts_fit)

-- ---- four bodies; each verdict looks only at the bodies that it is about

module _ (sizes start goal actions : List ℕ) where
  abbrev pub whole : Task
  whole = task_in sizes start goal actions

  abbrev pub bodies : Verdict
  bodies = judge (bodies_rules sizes start goal actions)

  abbrev pub goals : ℕ
  goals = length goal / pair_bytes

  sizes_same : first (length sizes) (size_at_fault (sized sizes)) ≡ first (length sizes) (size_at_fault whole)
  unfolding size_at_fault
  sizes_same = refl

  starts_same : first (length sizes) (start_at_fault (task_in sizes start [] [])) ≡ first (length sizes) (start_at_fault whole)
  unfolding start_at_fault
  starts_same = refl

  goals_same : first goals (pair_at_fault (sized sizes) whole.goal) ≡ first (length whole.goal) (pair_at_fault whole whole.goal)
  unfolding pair_at_fault
  goals_same = rw (length-pairs_at goal 0 goals)

  actions_same : actions_rule sizes actions ≡ drop 4 (bodies_rules sizes start goal actions)
  unfolding actions_rule bodies_rules task_rules action_at_fault action_in_order list_in_order pair_at_fault
  actions_same = refl

  -- ---- b: the lengths fit

  module _ (b : Bool) (eb : b ≡ fit (length sizes) (length start) (length goal)) where
    pub lengths_wrong : not b ≡ true → Err BodyLength ≡ bodies
    unfolding bodies_rules task_rules
    lengths_wrong f = sym (judge_refused _ _ (rw (length-pairs_at goal 0 goals) (sym eb ∙ not_true b f)))

    -- ---- x: the first size at fault

    module _ (fb : not b ≡ false) (x : ℕ) (ex : x ≡ first (length sizes) (size_at_fault (sized sizes))) where
      from_sizes : bodies ≡ judge (drop 1 (bodies_rules sizes start goal actions))
      unfolding bodies_rules task_rules
      from_sizes = judge_passed _ _ (rw (length-pairs_at goal 0 goals) (sym eb ∙ not_false b fb))

      is_x : first (length sizes) (size_at_fault whole) ≡ x
      is_x = sym (ex ∙ sizes_same)

      pub size_wrong : x < length sizes → Err (DomainSize x) ≡ bodies
      unfolding bodies_rules task_rules
      size_wrong h =
          sym (from_sizes
          ∙ judge_refused _ _ (rw (ne_eqb (first (length sizes) (size_at_fault whole)) (length sizes) (λ k. omega (arith, is_x))))
          ∙ ap (λ k. Err (DomainSize k)) is_x)

      -- ---- sum: S

      module _ (hx : length sizes ≤ x) (sum : ℕ) (es : sum ≡ S (sized sizes)) where
        all_sizes : first (length sizes) (size_at_fault whole) ≡ length sizes
        all_sizes = omega (arith, is_x, first_le (length sizes) (size_at_fault whole))

        pub sum_wrong : max_values < sum → Err (DomainSize (length sizes)) ≡ bodies
        unfolding bodies_rules task_rules
        sum_wrong h =
            sym (from_sizes
            ∙ judge_refused _ _ (rw (eq-eqb _ _ all_sizes, ← es, lt-leb sum max_values h))
            ∙ ap (λ k. Err (DomainSize k)) all_sizes)

        -- ---- y: the first start value at fault

        module _ (hs : sum ≤ max_values) (y : ℕ) (ey : y ≡ first (length sizes) (start_at_fault (task_in sizes start [] []))) where
          from_starts : bodies ≡ judge (drop 2 (bodies_rules sizes start goal actions))
          unfolding bodies_rules task_rules
          from_starts = from_sizes ∙ judge_passed _ _ (rw (eq-eqb _ _ all_sizes, ← es, le-leb sum max_values hs))

          pub start_wrong : y < length sizes → Err (StartValue y) ≡ bodies
          unfolding bodies_rules task_rules
          start_wrong h = sym (from_starts ∙ judge_found (length sizes) (start_at_fault whole) StartValue _ y h (ey ∙ starts_same))

          -- ---- i: the first goal pair at fault

          module _ (hy : length sizes ≤ y) (i : ℕ) (ei : i ≡ first goals (pair_at_fault (sized sizes) (pairs_at goal 0 goals))) where
            from_goals : bodies ≡ judge (drop 3 (bodies_rules sizes start goal actions))
            unfolding bodies_rules task_rules
            from_goals =
                from_starts
                ∙ judge_none (length sizes) (start_at_fault whole) StartValue _ (omega (arith, ey, starts_same, first_le (length sizes) (start_at_fault whole)))

            pub goal_wrong : i < goals → Err (GoalPair i) ≡ bodies
            unfolding bodies_rules task_rules
            goal_wrong h =
                sym (from_goals
                ∙ judge_found (length whole.goal) (pair_at_fault whole whole.goal) GoalPair _ i
                (omega (arith, length-pairs_at goal 0 goals)) (ei ∙ goals_same))

            pub actions_last : (v : Verdict) → goals ≤ i → v ≡ judge (actions_rule sizes actions) → v ≡ bodies
            unfolding bodies_rules task_rules
            actions_last v h e =
                e
                ∙ ap judge actions_same
                ∙ sym (from_goals
                ∙ judge_none (length whole.goal) (pair_at_fault whole whole.goal) GoalPair _
                (omega (arith, ei, goals_same, length-pairs_at goal 0 goals, first_le (length whole.goal) (pair_at_fault whole whole.goal))))

-- ---- a file

module _ (file : Bor (List ℕ)) (v : Verdict) (ev : v ≡ contents_verdict file.now) where
  in_turn_lem : file_verdict file.now ≡ in_turn v (judge (bodies_rules (body file.now 0) (body file.now 1) (body file.now 2) (body file.now 3)))
  unfolding file_verdict file_rules contents_verdict bodies_rules task_of
  in_turn_lem = rw ev (judge_append (contents_rules file.now) _)

  pub contents_wrong : (why : Refusal) → v ≡ Err why → v ≡ file_verdict file.now
  contents_wrong why f = rw (in_turn_lem, f)

  pub contents_right : (s₀ s₁ s₂ s₃ : Bor (List ℕ)) (p₀ p₁ p₂ p₃ : ℕ) (w : Verdict) → v ≡ Ok tt
      → Stretch file s₀ p₀ (body file.now 0) → Stretch file s₁ p₁ (body file.now 1)
      → Stretch file s₂ p₂ (body file.now 2) → Stretch file s₃ p₃ (body file.now 3)
      → w ≡ judge (bodies_rules s₀.now s₁.now s₂.now s₃.now) → w ≡ file_verdict file.now
  contents_right s₀ s₁ s₂ s₃ p₀ p₁ p₂ p₃ w f r₀ r₁ r₂ r₃ e = rw (e, in_turn_lem, f, r₀.holds, r₁.holds, r₂.holds, r₃.holds)
