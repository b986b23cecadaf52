-- The ways out of the functions that read actions.
-- Assumes nothing.
use mathlib.Core.Path.{◌≡◌, refl, sym, ap, ◌∙◌}
use mathlib.Core.Bool.{Bool, true, false, cond, not, ◌&&◌}
use mathlib.Core.List.{List, [], map}
use Prim.Native.Nat.{ℕ, ◌+◌, ◌-◌, ◌*◌, ◌^◌, ◌≤◌, ◌<◌, min}
use native.Mathlib.Omega.{arith}
use borrow.Author.Tests.{eq-eqb, ne_eqb, le-leb, lt-leb, leb-true}
use mir.Syntax.{w64}
use mir.Val.{Fits}
use lib.Dec.{leb, eqb}
use lib.ListN.{length, take, drop, length-drop, length-map}
use lib.Seq.{take_all, drop-drop}
use Rattle.rules.specs.Counting.{first}
use Rattle.rules.specs.Limits.{max_actions, pair_bytes, count_bytes}
use Rattle.rules.specs.Answers.{judge}
use Rattle.rules.specs.Task.{Task, Action, action, pair_at_fault, list_in_order, action_in_order, action_at_fault, task_rules}
use Rattle.rules.specs.File.{byte, pairs_at, action_bytes, action_in, rests, is_whole}
use Rattle.rules.specs.declared.Refusal.TheVariants.{ActionAtFault}
use Rattle.rules.proofs.Bools.{and_left, not_true, not_false}
use Rattle.rules.proofs.Judging.{judge_refused, judge_passed, judge_nil}
use Rattle.rules.proofs.Loops.{none_more, found_at, first_beyond}
use Rattle.rules.proofs.Rests.{Reached, reached_all, reached_below, reached_rest, reached_next, action_read_lem}
use Rattle.std.specs.Prelude.{Option, Some, None, Ok, Err}
use Rattle.reader.specs.Bodies.{task_in, sized, bodies_rules, actions_rule, action_read}

-- ---- one action, with p preconditions and e effects; b and c are what was found of the two lists

module _ (sizes rest : List ℕ) where
  pub counts_cut : length rest < count_bytes → None ≡ action_read sizes rest
  unfolding action_read
  counts_cut h = rw (lt-leb (action_bytes rest) (length rest) (omega arith))

  module _ (p e : ℕ) (ep : p ≡ byte rest 0) (ee : e ≡ byte rest 1) where
    pub pairs_cut : length rest < count_bytes + pair_bytes * (p + e) → None ≡ action_read sizes rest
    unfolding action_read
    pairs_cut h = rw (lt-leb (action_bytes rest) (length rest) (omega arith))

    module _ (h : count_bytes + pair_bytes * (p + e) ≤ length rest) (b : Bool) (eb : b ≡ list_in_order (sized sizes) (pairs_at rest count_bytes p)) where
      pub preconditions_wrong : not b ≡ true → None ≡ action_read sizes rest
      unfolding action_read action_in_order action_in
      preconditions_wrong f = rw (le-leb (action_bytes rest) (length rest) (omega arith), ← ep, ← eb, not_true b f)

      module _ (t : not b ≡ false) (c : Bool) (ec : c ≡ list_in_order (sized sizes) (pairs_at rest (count_bytes + pair_bytes * p) e)) where
        pub effects_wrong : not c ≡ true → None ≡ action_read sizes rest
        unfolding action_read action_in_order action_in
        effects_wrong f = rw (le-leb (action_bytes rest) (length rest) (omega arith), ← ep, ← ee, ← eb, not_false b t, ← ec, not_true c f)

        pub action_whole : not c ≡ false → Some (count_bytes + pair_bytes * (p + e)) ≡ action_read sizes rest
        unfolding action_read action_in_order action_in
        action_whole f = rw (le-leb (action_bytes rest) (length rest) (omega arith), ← ep, ← ee, ← eb, not_false b t, ← ec, not_false c f)

-- only the sizes matter
sized_action : (T : Task) (x : Action) → action_in_order T x ≡ action_in_order (sized T.sizes) x
unfolding action_in_order list_in_order pair_at_fault
sized_action T x = refl

false_right : (a b : Bool) → b ≡ false → (a && b) ≡ false
false_right true b h = h
false_right false b h = refl

-- what a reading says of the tests
read_whole : (t : Bool) (bytes k : ℕ) → cond t (Some bytes) None ≡ Some k → (t ≡ true) × (k ≡ bytes)
read_whole true bytes k h = (refl, cc)
read_whole false bytes k h = let z : ◌≡◌ {A = ℕ} 0 1 = cc in absurd (omega arith)

read_fault : (t : Bool) (bytes : ℕ) → cond t (Some bytes) None ≡ None → t ≡ false
read_fault true bytes h = let z : ◌≡◌ {A = ℕ} 0 1 = cc in absurd (omega arith)
read_fault false bytes h = refl

-- ---- action by action; r is what the reading of the rest from place at on gave

module _ (sizes s : List ℕ) where
  abbrev pub at_fault : ℕ → Bool
  at_fault = action_at_fault (is_whole (rests s)) (task_in sizes [] [] s)

  module _ (at a : ℕ) (reached : Reached s at a) where
    module _ (l : at < length s) where
      abbrev in_order : Bool
      in_order = leb (action_bytes (drop at s)) (length (drop at s)) && action_in_order (sized sizes) (action_in (drop at s))

      fault_here : at_fault a ≡ not in_order
      unfolding action_at_fault is_whole
      fault_here =
          rw (sized_action (task_in sizes [] [] s) (action (task_in sizes [] [] s) a), action_read_lem (rests s) a, reached_rest s at a reached l)

      module _ (r : Option ℕ) (er : r ≡ action_read sizes (take (length s - at) (drop at s))) where
        read_here : r ≡ cond in_order (Some (action_bytes (drop at s))) None
        unfolding action_read
        read_here = er ∙ ap (action_read sizes) (take_all (length s - at) (drop at s) (omega (arith, length-drop at s)))

        module _ (bytes : ℕ) (e : r ≡ Some bytes) where
          whole : (in_order ≡ true) × (bytes ≡ action_bytes (drop at s))
          whole = read_whole in_order (action_bytes (drop at s)) bytes (sym read_here ∙ e)

          action_within : at + bytes ≤ length s
          action_within =
              let all_there : leb (action_bytes (drop at s)) (length (drop at s)) ≡ true = and_left _ _ whole.0 in
              omega (arith, leb-true, whole.1, length-drop at s)

          pub action_fits : length s < 2 ^ 64 → Fits w64 (at + bytes)
          action_fits g = record { fits = omega (arith, action_within) }

          pub action_less : length s - (at + bytes) < length s - at
          action_less = omega (arith, whole.1)

          pub action_passed : Reached s (at + bytes) (a + 1)
          action_passed =
              reached_next s at a reached l (at + bytes) action_within (sym (drop-drop bytes at s) ∙ ap (λ k. drop k (drop at s)) whole.1)

          pub action_fine : first a at_fault ≡ a → first (a + 1) at_fault ≡ a + 1
          action_fine n = none_more at_fault a (not in_order) n (sym fault_here) (ap not whole.0)

        pub action_wrong : r ≡ None → at_fault a ≡ true
        action_wrong e = fault_here ∙ ap not (read_fault in_order (action_bytes (drop at s)) (sym read_here ∙ e))

  -- ---- the verdict

  abbrev count : ℕ
  count = length (map action_in (rests s))

  refused_with : (k : ℕ) → (eqb (first count at_fault) count && leb count max_actions) ≡ false → min max_actions (first count at_fault) ≡ k
      → Err (ActionAtFault k) ≡ judge (actions_rule sizes s)
  unfolding actions_rule bodies_rules task_rules
  refused_with k f e = sym (judge_refused _ [] f ∙ ap (λ k. Err (ActionAtFault k)) e)

  module _ (at a : ℕ) (reached : Reached s at a) (fine : first a at_fault ≡ a) where
    pub actions_over : a ≡ max_actions → at < length s → Err (ActionAtFault max_actions) ≡ judge (actions_rule sizes s)
    actions_over e l =
        let more : a < count = omega (arith, reached_below s at a reached l, length-map (rests s) action_in) in
        refused_with max_actions (false_right (eqb (first count at_fault) count) _ (lt-leb count max_actions (omega arith))) (omega (arith, first_beyond at_fault count a fine (omega arith)))

    pub actions_wrong : (r : Option ℕ) → a ≤ max_actions → (a ≡ max_actions → ⊥) → at < length s
        → r ≡ action_read sizes (take (length s - at) (drop at s)) → r ≡ None → Err (ActionAtFault a) ≡ judge (actions_rule sizes s)
    actions_wrong r few not_last l er e =
        let more : a < count = omega (arith, reached_below s at a reached l, length-map (rests s) action_in) in
        let here : a ≡ first count at_fault = found_at at_fault count a (at_fault a) fine more refl (action_wrong at a reached l r er e) in
        refused_with a (rw (ne_eqb (first count at_fault) count (λ h. omega arith))) (omega arith)

    pub actions_accepted : a ≤ max_actions → length s ≤ at → Ok tt ≡ judge (actions_rule sizes s)
    unfolding actions_rule bodies_rules task_rules
    actions_accepted few l =
        let all : count ≡ a = omega (arith, reached_all s at a reached l, length-map (rests s) action_in) in
        let none : first count at_fault ≡ count = ap (λ k. first k at_fault) all ∙ fine ∙ sym all in
        sym (judge_passed _ [] (rw (eq-eqb _ _ none, le-leb count max_actions (omega arith))) ∙ judge_nil)
