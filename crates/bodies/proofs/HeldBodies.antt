-- What the lent bytes hold: numbers, pairs in order, actions and the pairs of the one that is being read; and what one more does to them.
-- Assumes nothing.
use mathlib.Core.Path.{◌≡◌, refl, sym, ap, ◌∙◌}
use mathlib.Core.List.{List, [], ◌∷◌, ◌++◌, map, append-nil, append_assoc}
use Prim.Native.Nat.{ℕ, ◌+◌, ◌*◌, ◌≤◌, ◌<◌}
use native.Mathlib.Omega.{arith}
use native.Mathlib.Nat.{zero-add}
use lib.ListN.{length, set, length-append}
use Rattle.rules.specs.Counting.{for_each, joined}
use Rattle.rules.specs.Limits.{pair_bytes, count_bytes}
use Rattle.rules.specs.Task.{Pair, Action}
use Rattle.rules.specs.File.{pair_text, action_text}
use Rattle.rules.specs.Format.{no_action, put_in_order}
use Rattle.rules.proofs.Actions.{length-pair_text, length-action_text}
use Rattle.digits.specs.Over.{over}
use Rattle.bodies.specs.Keeping.{with_pair}
use Rattle.bodies.proofs.Alike.{length-put}
use Rattle.bodies.proofs.Held.{Held, held_both, held_left, held_right, held_before, held_over, held_behind, held_more, pair_put}

pub record NumbersHeld (count : ℕ) (numbers : List ℕ) (s : List ℕ) : Type 0 where
  pub counted : count ≡ length numbers
  pub held : Held s 0 numbers

pub record PairsHeld (count : ℕ) (ps : List Pair) (s : List ℕ) : Type 0 where
  pub counted : count ≡ length ps
  pub held : Held s 0 (pair_text ps)

abbrev pub actions_text : List Action → List ℕ
actions_text l = joined (map action_text l)

-- the actions, and behind them, with room for its counts, the pairs of the action that is being read
pub record ActionsHeld (count bytes preconditions effects : ℕ) (actions : List Action) (reading : Action) (s : List ℕ) : Type 0 where
  pub counted : count ≡ length actions
  pub bytes_counted : bytes ≡ length (actions_text actions)
  pub preconditions_counted : preconditions ≡ length reading.preconditions
  pub effects_counted : effects ≡ length reading.effects
  pub held : Held s 0 (actions_text actions)
  pub pairs_held : Held s (bytes + count_bytes) (pair_text reading.preconditions ++ pair_text reading.effects)

-- ---- one more

pub numbers_more : (count : ℕ) (numbers s : List ℕ) (b : ℕ) → count < length s → NumbersHeld count numbers s
    → NumbersHeld (count + 1) (numbers ++ (b ∷ [])) (set s count b)
numbers_more count numbers s b l h =
    record {
      counted = omega (arith, h.counted, length-append numbers (b ∷ []));
      held = held_more s numbers count b h.counted l h.held;
    }

-- a pair is put in order
pub pairs_more : (count : ℕ) (ps : List Pair) (s : List ℕ) (p : Pair) → PairsHeld count ps s → PairsHeld (count + 1) (put_in_order p ps) (with_pair s 0 count 0 p)
pairs_more count ps s p h =
    let written : with_pair s 0 count 0 p ≡ over s 0 (pair_text (put_in_order p ps)) =
    pair_put s 0 ps (omega arith) [] p count 0 h.counted refl (rw append-nil h.held) ∙ ap (over s 0) (append-nil (pair_text (put_in_order p ps))) in
    record {
      counted = omega (arith, h.counted, length-put p ps);
      held = rw written (held_over s 0 (pair_text (put_in_order p ps)) (omega arith));
    }

actions_snoc : (l : List Action) (a : Action) → actions_text (l ++ (a ∷ [])) ≡ actions_text l ++ action_text a
unfolding joined
actions_snoc [] a = append-nil (action_text a)
actions_snoc (b ∷ l) a = ap (λ r. action_text b ++ r) (actions_snoc l a) ∙ sym (append_assoc (action_text b) (actions_text l) (action_text a))

text_counts : (a : Action) (p e : ℕ) → p ≡ length a.preconditions → e ≡ length a.effects
    → action_text a ≡ (p ∷ e ∷ []) ++ (pair_text a.preconditions ++ pair_text a.effects)
unfolding action_text
text_counts a p e h k = rw (h, k)

-- a pair more of the action that is being read, or that action itself
module _ (count bytes preconditions effects : ℕ) (actions : List Action) (reading : Action) (s : List ℕ) (within : bytes + count_bytes ≤ length s)
    (h : ActionsHeld count bytes preconditions effects actions reading s) where
  pub precondition_more : (p : Pair)
      → ActionsHeld count bytes (preconditions + 1) effects actions (record { preconditions = put_in_order p reading.preconditions; effects = reading.effects })
      (with_pair s (bytes + count_bytes) preconditions (pair_bytes * effects) p)
  precondition_more p =
      let at : ℕ = bytes + count_bytes in
      let ps : List Pair = reading.preconditions in
      let text : List ℕ = pair_text (put_in_order p ps) ++ pair_text reading.effects in
      let written : with_pair s at preconditions (pair_bytes * effects) p ≡ over s at text =
      pair_put s at ps within (pair_text reading.effects) p preconditions (pair_bytes * effects) h.preconditions_counted
      (omega (arith, h.effects_counted, length-pair_text reading.effects)) h.pairs_held in
      record {
        counted = h.counted;
        bytes_counted = h.bytes_counted;
        preconditions_counted = omega (arith, h.preconditions_counted, length-put p ps);
        effects_counted = h.effects_counted;
        held = rw written (held_before s at text 0 (actions_text actions) within (omega (arith, h.bytes_counted)) h.held);
        pairs_held = rw written (held_over s at text within);
      }

  pub effect_more : (p : Pair) → bytes + count_bytes + pair_bytes * preconditions ≤ length s
      → ActionsHeld count bytes preconditions (effects + 1) actions (record { preconditions = reading.preconditions; effects = put_in_order p reading.effects })
      (with_pair s (bytes + count_bytes + pair_bytes * preconditions) effects 0 p)
  effect_more p fits =
      let ps : List Pair = reading.effects in
      let before : List ℕ = pair_text reading.preconditions in
      let at : ℕ = bytes + count_bytes + length before in
      let text : List ℕ = pair_text (put_in_order p ps) in
      let place : bytes + count_bytes + pair_bytes * preconditions ≡ at =
      omega (arith, h.preconditions_counted, length-pair_text reading.preconditions) in
      let here : Held s at (pair_text ps) = held_right s (bytes + count_bytes) before (pair_text ps) h.pairs_held in
      let written : with_pair s at effects 0 p ≡ over s at text =
      pair_put s at ps (omega arith) [] p effects 0 h.effects_counted refl (rw append-nil here) ∙ ap (over s at) (append-nil text) in
      rw (place, written)
      (record {
        counted = h.counted;
        bytes_counted = h.bytes_counted;
        preconditions_counted = h.preconditions_counted;
        effects_counted = omega (arith, h.effects_counted, length-put p ps);
        held = held_before s at text 0 (actions_text actions) (omega arith) (omega (arith, h.bytes_counted)) h.held;
        pairs_held =
            held_both (over s at text) (bytes + count_bytes) before text
            (held_before s at text (bytes + count_bytes) before (omega arith) (omega arith) (held_left s (bytes + count_bytes) before (pair_text ps) h.pairs_held))
            (held_over s at text (omega arith));
      })

  text_held : Held (over s bytes (preconditions ∷ effects ∷ [])) bytes (action_text reading)
  text_held =
      let counts : List ℕ = preconditions ∷ effects ∷ [] in
      let pairs : List ℕ = pair_text reading.preconditions ++ pair_text reading.effects in
      rw (text_counts reading preconditions effects h.preconditions_counted h.effects_counted)
      (held_both (over s bytes counts) bytes counts pairs
      (held_over s bytes counts (omega arith))
      (held_behind s bytes counts pairs (omega arith) h.pairs_held))

  pub action_more : ActionsHeld (count + 1) (bytes + (count_bytes + pair_bytes * (preconditions + effects))) 0 0 (actions ++ (reading ∷ [])) no_action
      (over s bytes (preconditions ∷ effects ∷ []))
  unfolding pair_text for_each
  action_more =
      let counts : List ℕ = preconditions ∷ effects ∷ [] in
      let s' : List ℕ = over s bytes counts in
      let joins : actions_text (actions ++ (reading ∷ [])) ≡ actions_text actions ++ action_text reading = actions_snoc actions reading in
      let long : length (actions_text (actions ++ (reading ∷ []))) ≡ bytes + length (action_text reading) =
      ap length joins ∙ omega (arith, h.bytes_counted, length-append (actions_text actions) (action_text reading)) in
      record {
        counted = omega (arith, h.counted, length-append actions (reading ∷ []));
        bytes_counted =
            omega (arith, long, length-action_text reading, h.preconditions_counted, h.effects_counted);
        preconditions_counted = refl;
        effects_counted = refl;
        held =
            rw joins
            (held_both s' 0 (actions_text actions) (action_text reading)
            (held_before s bytes counts 0 (actions_text actions) (omega arith) (omega (arith, h.bytes_counted)) h.held)
            (rw (zero-add (length (actions_text actions)), ← h.bytes_counted) text_held));
        pairs_held = refl;
      }
