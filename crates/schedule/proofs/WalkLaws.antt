-- The ways out of the functions that walk a schedule through an accepted file's task.
-- Assumes nothing.
use mathlib.Core.Path.{◌≡◌, refl, sym, ap, ◌∙◌}
use mathlib.Core.Bool.{Bool, true, false, not}
use mathlib.Core.List.{List}
use Prim.Native.Nat.{ℕ, zero, suc, ◌+◌, ◌-◌, ◌≤◌, ◌<◌}
use native.Mathlib.Omega.{arith}
use native.Mathlib.Numerals.{add-one}
use borrow.Author.Tests.{ltb-false, lt-ltb, le-ltb}
use lib.ListN.{length, get_or, take, drop, length-drop}
use lib.Seq.{take_all, drop-drop, length-take-le}
use Rattle.std.specs.Prelude.{Option, None, Some, Ok, Err}
use Rattle.std.specs.Option.{MatchOption, unwrap_or}
use Rattle.std.specs.List.{AllWithin, HoldsAt}
use Rattle.std.proofs.lemmas.List.{get_or-take}
use denote.Ref.{Bor}
use Rattle.rules.specs.Counting.{first, every}
use Rattle.rules.specs.Answers.{judge}
use Rattle.rules.specs.Task.{Task, A, pair, action}
use Rattle.rules.specs.File.{body_start, body_length, body, rests, action_in, task_of, file_verdict}
use Rattle.rules.specs.Walk.{State, start_state, holds, set_pairs, entry, entry_applies, after_entry, state_at, schedule_rules}
use Rattle.rules.specs.declared.Refusal.TheVariants.{EntryOverA, DoesNotApply, GoalUnmet}
use Rattle.rules.proofs.Counting.{first_le, first_before, first_none, first_is}
use Rattle.rules.proofs.Judging.{judge_nil}
use Rattle.rules.proofs.Loops.{none_yet, none_more, found_at, none_at_all, judge_found, judge_none}
use Rattle.rules.proofs.Valid.{WellFormed}
use Rattle.rules.proofs.Contents.{Contents, length-body}
use Rattle.rules.proofs.Files.{accepted_file, accepted_well_formed}
use Rattle.rules.proofs.Rests.{action_read_lem, rest_place}
use Rattle.reader.specs.Stretches.{Stretch}
use Rattle.task.specs.Index.{rest_at, action_place}
use Rattle.schedule.specs.Over.{over}
use Rattle.walk.specs.Lent.{start_values, goal_in, first_unmet}
use Rattle.walk.proofs.Tasks.{start_is, applies_is, moved_is, unmet_is}

-- ---- parts of an accepted file

module _ (file : List ℕ) (ok : file_verdict file ≡ Ok tt) where
  contents : Contents file
  contents = (accepted_file file ok).contents

  fine : WellFormed (task_of file)
  fine = accepted_well_formed file ok

  -- the action body is the last
  actions_last : body file 3 ≡ drop (body_start file 3) file
  unfolding body
  actions_last = take_all (body_length file 3) (drop (body_start file 3) file) (omega (arith, length-drop (body_start file 3) file, contents.ends))

  module _ (a p : ℕ) (ep : p ≡ action_place file a) where
    pub place_within : p ≤ length file
    unfolding action_place
    place_within = omega (arith, ep, length-body file contents 3 (omega arith), contents.ends)

    pub part_is : action (task_of file) a ≡ action_in (take (length file - p) (drop p file))
    unfolding task_of action_place
    part_is =
        let q : ℕ = length (body file 3) - length (rest_at (body file 3) a) in
        action_read_lem (rests (body file 3)) a
        ∙ ap action_in
        (rest_place (body file 3) a
        ∙ ap (drop q) actions_last
        ∙ drop-drop q (body_start file 3) file
        ∙ ap (λ k. drop k file) (sym ep)
        ∙ sym (take_all (length file - p) (drop p file) (omega (arith, length-drop p file))))

-- what an accepted file's task starts from
pub started : (file part : Bor (List ℕ)) (from : ℕ) (values : List ℕ) → file_verdict file.now ≡ Ok tt
    → Stretch file part from (body file.now 1) → values ≡ start_values part.now → values ≡ start_state (task_of file.now)
unfolding task_of
started file part from values ok r e =
    let well : WellFormed (task_of file.now) = fine file.now ok in
    e ∙ ap start_values r.holds ∙ start_is (task_of file.now) well.start_whole well.variables_few

-- ---- one entry; s is the part of its action

module _ (T : Task) (s : List ℕ) where
  pub an_entry : (e : ℕ) (σ : State) (r : Bool) → (e ≡ 0 → ⊥) → action T (e - 1) ≡ action_in s → r ≡ every (holds σ) (action_in s).preconditions
      → r ≡ entry_applies T e σ
  an_entry zero σ r z ea er = absurd (z refl)
  an_entry (suc a) σ r z ea er = er ∙ applies_is T a σ s (ap (action T) (omega arith) ∙ ea)

  pub moved : (e : ℕ) (σ r : State) → (e ≡ 0 → ⊥) → action T (e - 1) ≡ action_in s → r ≡ set_pairs σ (action_in s).effects → r ≡ after_entry T e σ
  moved zero σ r z ea er = absurd (z refl)
  moved (suc a) σ r z ea er = er ∙ moved_is T a σ s (ap (action T) (omega arith) ∙ ea)

-- ---- entries above the highest that they may be

module _ (entries : List ℕ) (highest k : ℕ) (enough : k ≤ length entries) where
  entry_there : (s : ℕ) → s < k → get_or (take k entries) s 0 ≡ entry entries s
  entry_there s l = get_or-take k entries s 0 l

  known_before : (n : ℕ) → n ≤ k → AllWithin (λ e. e ≤ highest) (take k entries) 0 n → (s : ℕ) → s < n → over entries highest s ≡ false
  unfolding over
  known_before n l a s h = le-ltb highest (entry entries s) (omega (arith, a s 0 (omega arith) h, entry_there s (omega arith)))

  over_first : (r : Option ℕ) → MatchOption r (AllWithin (λ e. e ≤ highest) (take k entries) 0 (length (take k entries)))
      (λ i. (i < length (take k entries)) × HoldsAt (λ e. highest < e) (take k entries) i × AllWithin (λ e. e ≤ highest) (take k entries) 0 i)
      → unwrap_or r k ≡ first k (over entries highest)
  unfolding over
  over_first None m = sym (first_none k (over entries highest) (known_before k (omega arith) (rw (length-take-le k entries enough) at m)))
  over_first (Some i) m =
      let l : i < k = omega (arith, m.0, length-take-le k entries enough) in
      sym (first_is k (over entries highest) i l
      (lt-ltb highest (entry entries i) (omega (arith, m.1 0, entry_there i l)))
      (known_before i (omega arith) m.2))

  pub over_found : (n : ℕ) (r : Option ℕ) → n ≡ unwrap_or r k → MatchOption r (AllWithin (λ e. e ≤ highest) (take k entries) 0 (length (take k entries)))
      (λ i. (i < length (take k entries)) × HoldsAt (λ e. highest < e) (take k entries) i × AllWithin (λ e. e ≤ highest) (take k entries) 0 i)
      → n ≡ first k (over entries highest)
  over_found n r e m = e ∙ over_first r m

-- ---- the whole schedule

module _ (T : Task) (entries : List ℕ) where
  abbrev pub stuck : ℕ → Bool
  stuck s = not (entry_applies T (entry entries s) (state_at T entries s))

  -- the first s entries can be carried out, and lead to σ
  pub record CameTo (s : ℕ) (σ : State) : Type 0 where
    pub none_stuck : first s stuck ≡ s
    pub state_is : σ ≡ state_at T entries s

  pub came_none : (σ : State) → σ ≡ start_state T → CameTo 0 σ
  unfolding state_at
  came_none σ e = record { none_stuck = none_yet stuck; state_is = e }

  pub came_more : (s e : ℕ) (σ σ' : State) (b : Bool) → CameTo s σ → e ≡ entry entries s → b ≡ entry_applies T e σ → not b ≡ false
      → σ' ≡ after_entry T e σ → CameTo (s + 1) σ'
  unfolding state_at
  came_more s e σ σ' b c ee eb f er =
      record {
        none_stuck = none_more stuck s (not b) c.none_stuck (ap not (rw (ee, c.state_is) at eb)) f;
        state_is = rw (add-one, ← ee, ← c.state_is) er;
      }

  -- ---- f: the first entry over A

  module _ (k highest f : ℕ) (em : highest ≡ A T) (ef : f ≡ first k (over entries highest)) where
    is_f : f ≡ first k (over entries (A T))
    is_f = rw em at ef

    pub over_refused : f < k → Err (EntryOverA (f + 1)) ≡ judge (schedule_rules T k entries)
    unfolding schedule_rules over
    over_refused l =
        ap (λ i. Err (EntryOverA i)) (add-one f) ∙ sym (judge_found k (over entries (A T)) (λ s. EntryOverA (suc s)) _ f l is_f)

    module _ (kf : k ≤ f) where
      none_over : first k (over entries (A T)) ≡ k
      none_over = omega (arith, is_f, first_le k (over entries (A T)))

      pub entry_known : (s e : ℕ) → s < k → e ≡ entry entries s → e ≤ A T
      unfolding over
      entry_known s e l ee = rw ee (ltb-false _ _ (first_before k (over entries (A T)) s (omega (arith, none_over))))

      from_steps : judge (schedule_rules T k entries) ≡ judge (drop 1 (schedule_rules T k entries))
      unfolding schedule_rules over
      from_steps = judge_none k (over entries (A T)) (λ s. EntryOverA (suc s)) _ none_over

      pub stuck_refused : (s e : ℕ) (σ : State) (b : Bool) → CameTo s σ → s < k → e ≡ entry entries s → b ≡ entry_applies T e σ → not b ≡ true
          → Err (DoesNotApply (s + 1)) ≡ judge (schedule_rules T k entries)
      unfolding schedule_rules
      stuck_refused s e σ b c l ee eb t =
          ap (λ i. Err (DoesNotApply i)) (add-one s)
          ∙ sym (from_steps
          ∙ judge_found k stuck (λ s. DoesNotApply (suc s)) _ s l
          (found_at stuck k s (not b) c.none_stuck l (ap not (rw (ee, c.state_is) at eb)) t))

      -- ---- the end; goal is the goal body, i its first pair that does not hold

      module _ (s : ℕ) (σ : State) (c : CameTo s σ) (ls : s ≤ k) (ks : k ≤ s) (goal : List ℕ) (eg : T.goal ≡ goal_in goal) (i : ℕ)
          (ei : i ≡ first_unmet σ (goal_in goal)) where
        from_goal : judge (schedule_rules T k entries) ≡ judge (drop 2 (schedule_rules T k entries))
        unfolding schedule_rules
        from_goal = from_steps ∙ judge_none k stuck (λ s. DoesNotApply (suc s)) _ (sym (none_at_all stuck k s c.none_stuck ls ks) ∙ omega arith)

        unmet : ℕ → Bool
        unmet j = not (holds (state_at T entries k) (pair T.goal j))

        is_i : i ≡ first (length T.goal) unmet
        unfolding unmet
        is_i =
            let e : s ≡ k = omega arith in
            ei ∙ ap (λ τ. first_unmet τ (goal_in goal)) (c.state_is ∙ ap (state_at T entries) e) ∙ unmet_is T (state_at T entries k) goal eg

        pub goal_refused : (m : ℕ) → m ≡ length T.goal → i < m → Err (GoalUnmet i) ≡ judge (schedule_rules T k entries)
        unfolding schedule_rules unmet
        goal_refused m em l = sym (from_goal ∙ judge_found (length T.goal) unmet GoalUnmet _ i (omega arith) is_i)

        pub goal_met : (m : ℕ) → m ≡ length T.goal → m ≤ i → Ok tt ≡ judge (schedule_rules T k entries)
        unfolding schedule_rules unmet
        goal_met m em l =
            sym (from_goal
            ∙ judge_none (length T.goal) unmet GoalUnmet _ (omega (arith, is_i, first_le (length T.goal) unmet))
            ∙ judge_nil)

pub goal_is : (file part : Bor (List ℕ)) (from : ℕ) → Stretch file part from (body file.now 2) → (task_of file.now).goal ≡ goal_in part.now
unfolding task_of
goal_is file part from r = rw r.holds
