-- Where each part of an accepted file's task stands among the file's bytes.
-- Assumes nothing.
use Rattle.std.specs.Prelude.{Ok}
use mathlib.Core.Path.{◌≡◌, sym, ap, ◌∙◌}
use mathlib.Core.List.{List}
use Prim.Native.Nat.{ℕ, ◌+◌, ◌-◌, ◌*◌, ◌/◌, ◌≤◌, ◌<◌}
use native.Mathlib.Omega.{arith}
use borrow.Author.Tests.{leb-true}
use lib.ListN.{length, drop, length-drop}
use lib.Seq.{get_or-take, get_or-drop}
use Rattle.rules.specs.Limits.{max_file, contents_bytes, contents_rows, pair_bytes, count_bytes}
use Rattle.rules.specs.Task.{Task, n, d, A, start_value, pair, action}
use Rattle.rules.specs.File.{byte, body_start, body_length, body, pairs_at, action_bytes, action_in, rests, is_whole, contents_verdict, task_of, file_verdict}
use Rattle.rules.proofs.Valid.{WellFormed}
use Rattle.rules.proofs.Contents.{Contents, contents_accepted, length-body, body_within}
use Rattle.rules.proofs.Files.{accepted_file}
use Rattle.rules.proofs.Rests.{action_read_lem, rest_place}
use Rattle.rules.proofs.PairBytes.{length-pairs_at, pair_at_lem}
use Rattle.task.specs.Index.{rest_at, action_place}

-- ---- actions by their rests

module _ (file : List ℕ) (a : ℕ) where
  is_read : action (task_of file) a ≡ action_in (rest_at (body file 3) a)
  unfolding task_of
  is_read = action_read_lem (rests (body file 3)) a

  pub precondition_count : length (action (task_of file) a).preconditions ≡ byte (rest_at (body file 3) a) 0
  unfolding action_in
  precondition_count = ap (λ x. length x.preconditions) is_read ∙ length-pairs_at _ _ _

  pub effect_count : length (action (task_of file) a).effects ≡ byte (rest_at (body file 3) a) 1
  unfolding action_in
  effect_count = ap (λ x. length x.effects) is_read ∙ length-pairs_at _ _ _

-- ---- an accepted file

module _ (file : List ℕ) (ok : file_verdict file ≡ Ok tt) where
  abbrev T : Task
  T = task_of file

  contents : Contents file
  contents = (accepted_file file ok).contents

  well : WellFormed T
  well = (accepted_file file ok).task.well_formed

  pub contents_ok : contents_verdict file ≡ Ok tt
  contents_ok = contents_accepted file contents

  pub contents_long : contents_bytes ≤ length file
  contents_long = contents.long_enough

  pub actions_room_lem : (start : ℕ) (actions : List ℕ) → start ≡ body_start file 3 → actions ≡ body file 3 → start + length actions ≤ max_file
  actions_room_lem start actions es ea =
      omega (arith, ap length ea, length-body file contents 3 (omega arith), body_within file contents 3 (omega arith), contents.short_enough)

  -- ---- byte i of body r

  module _ (r i : ℕ) (h : r < contents_rows) (l : i < length (body file r)) where
    body_byte : byte (body file r) i ≡ byte file (body_start file r + i)
    unfolding body
    body_byte = get_or-take (body_length file r) (drop (body_start file r) file) i 0 (omega (arith, length-body file contents r h)) ∙ get_or-drop (body_start file r) file i 0

    body_there : body_start file r + i < length file
    body_there = omega (arith, length-body file contents r h, body_within file contents r h)

  -- ---- sizes and start values

  pub variables_asked : (k : ℕ) → k ≡ body_length file 0 → k ≡ n T
  unfolding task_of
  variables_asked k e = e ∙ sym (length-body file contents 0 (omega arith))

  module _ (x : ℕ) (h : x < n T) where
    pub size_there : contents_bytes + x < length file
    unfolding task_of
    size_there = omega (arith, contents.starts 0 (omega arith), body_there 0 x (omega arith) h)

    pub size_asked : (b : ℕ) → b ≡ byte file (contents_bytes + x) → b ≡ d T x
    unfolding task_of
    size_asked b e =
        e ∙ ap (λ k. byte file (k + x)) (sym (contents.starts 0 (omega arith))) ∙ sym (body_byte 0 x (omega arith) h)

    starts_there : x < length (body file 1)
    unfolding task_of
    starts_there = omega (arith, well.start_whole)

    pub start_there : (s : ℕ) → s ≡ body_start file 1 → s + x < length file
    start_there s e = omega (arith, body_there 1 x (omega arith) starts_there)

    pub start_asked_lem : (s b : ℕ) → s ≡ body_start file 1 → b ≡ byte file (s + x) → b ≡ start_value T x
    unfolding task_of
    start_asked_lem s b es e = e ∙ ap (λ k. byte file (k + x)) es ∙ sym (body_byte 1 x (omega arith) starts_there)

  -- ---- goal pairs

  goal_count : length T.goal ≡ length (body file 2) / pair_bytes
  unfolding task_of
  goal_count = length-pairs_at (body file 2) 0 (length (body file 2) / pair_bytes)

  pub goals_asked : (k : ℕ) → k ≡ body_length file 2 → k / pair_bytes ≡ length T.goal
  goals_asked k e = omega (arith, goal_count, length-body file contents 2 (omega arith))

  module _ (i s : ℕ) (h : i < length T.goal) (es : s ≡ body_start file 2) where
    goal_in_lem : pair_bytes * i + 1 < length (body file 2)
    goal_in_lem = omega (arith, goal_count)

    pub goal_there : s + 0 + pair_bytes * i + 1 < length file
    goal_there = omega (arith, body_there 2 (pair_bytes * i + 1) (omega arith) goal_in_lem)

    goal_is : pair T.goal i ≡ record { variable = byte (body file 2) (0 + pair_bytes * i); value = byte (body file 2) (0 + pair_bytes * i + 1) }
    unfolding task_of
    goal_is = pair_at_lem (body file 2) 0 (length (body file 2) / pair_bytes) i (omega (arith, goal_count))

    pub goal_variable : (b : ℕ) → b ≡ byte file (s + 0 + pair_bytes * i) → b ≡ (pair T.goal i).variable
    goal_variable b e =
        e ∙ ap (byte file) (omega arith) ∙ sym (body_byte 2 (pair_bytes * i) (omega arith) (omega (arith, goal_in_lem)))
        ∙ ap (byte (body file 2)) (omega arith) ∙ sym (ap (λ p. p.variable) goal_is)

    pub goal_value : (b : ℕ) → b ≡ byte file (s + 0 + pair_bytes * i + 1) → b ≡ (pair T.goal i).value
    goal_value b e =
        e ∙ ap (byte file) (omega arith) ∙ sym (body_byte 2 (pair_bytes * i + 1) (omega arith) goal_in_lem)
        ∙ ap (byte (body file 2)) (omega arith) ∙ sym (ap (λ p. p.value) goal_is)

  -- ---- actions; p is the place of action a

  module _ (a p : ℕ) (h : a < A T) (ep : p ≡ action_place file a) where
    abbrev rest : List ℕ
    rest = rest_at (body file 3) a

    all_there : action_bytes rest ≤ length rest
    unfolding is_whole
    all_there = leb-true _ _ ((accepted_file file ok).task.each_whole a h)

    rest_short : length rest ≤ length (body file 3)
    rest_short = omega (arith, ap length (rest_place (body file 3) a), length-drop (length (body file 3) - length rest) (body file 3))

    rest_byte : (j : ℕ) → j < length rest → byte rest j ≡ byte file (p + j)
    unfolding action_place
    rest_byte j l =
        let q : ℕ = length (body file 3) - length rest in
        ap (λ r. byte r j) (rest_place (body file 3) a)
        ∙ get_or-drop q (body file 3) j 0
        ∙ body_byte 3 (q + j) (omega arith) (omega (arith, rest_short))
        ∙ ap (byte file) (omega (arith, ep))

    rest_there : (j : ℕ) → j < length rest → p + j < length file
    unfolding action_place
    rest_there j l =
        omega (arith, ep, body_there 3 (length (body file 3) - length rest + j) (omega arith) (omega (arith, rest_short)))

    pub counts_there : p + 1 < length file
    counts_there = rest_there 1 (omega (arith, all_there))

    pub first_there : p + 0 < length file
    first_there = omega (arith, counts_there)

    pub preconditions_asked : (b : ℕ) → b ≡ byte file (p + 0) → b ≡ length (action T a).preconditions
    preconditions_asked b e = e ∙ sym (rest_byte 0 (omega (arith, all_there))) ∙ sym (precondition_count file a)

    pub effects_asked : (b : ℕ) → b ≡ byte file (p + 1) → b ≡ length (action T a).effects
    effects_asked b e = e ∙ sym (rest_byte 1 (omega (arith, all_there))) ∙ sym (effect_count file a)

    -- pair i of a list that stands at place o of the rest
    module _ (o count i : ℕ) (within : o + pair_bytes * count ≤ length rest) (l : i < count) where
      listed_there : p + o + pair_bytes * i + 1 < length file
      listed_there = omega (arith, rest_there (o + pair_bytes * i + 1) (omega arith))

      listed_variable : (b : ℕ) → b ≡ byte file (p + o + pair_bytes * i) → b ≡ (pair (pairs_at rest o count) i).variable
      listed_variable b e =
          e
          ∙ ap (byte file) (omega arith)
          ∙ sym (rest_byte (o + pair_bytes * i) (omega arith))
          ∙ sym (ap (λ p. p.variable) (pair_at_lem rest o count i l))

      listed_value : (b : ℕ) → b ≡ byte file (p + o + pair_bytes * i + 1) → b ≡ (pair (pairs_at rest o count) i).value
      listed_value b e =
          e
          ∙ ap (byte file) (omega arith)
          ∙ sym (rest_byte (o + pair_bytes * i + 1) (omega arith))
          ∙ sym (ap (λ p. p.value) (pair_at_lem rest o count i l))

    -- the preconditions stand behind the counts, the effects behind the preconditions
    preconditions_are : (action T a).preconditions ≡ pairs_at rest count_bytes (byte rest 0)
    unfolding action_in
    preconditions_are = ap (λ x. x.preconditions) (is_read file a)

    effects_are : (action T a).effects ≡ pairs_at rest (count_bytes + pair_bytes * byte rest 0) (byte rest 1)
    unfolding action_in
    effects_are = ap (λ x. x.effects) (is_read file a)

    module _ (i : ℕ) (l : i < length (action T a).preconditions) where
      few_preconditions : count_bytes + pair_bytes * byte rest 0 ≤ length rest
      few_preconditions = omega (arith, all_there)

      in_preconditions : i < byte rest 0
      in_preconditions = omega (arith, precondition_count file a)

      pub precondition_there : p + count_bytes + pair_bytes * i + 1 < length file
      precondition_there = listed_there count_bytes (byte rest 0) i few_preconditions in_preconditions

      pub precondition_variable : (b : ℕ) → b ≡ byte file (p + count_bytes + pair_bytes * i) → b ≡ (pair (action T a).preconditions i).variable
      precondition_variable b e =
          listed_variable count_bytes (byte rest 0) i few_preconditions in_preconditions b e ∙ ap (λ ps. (pair ps i).variable) (sym preconditions_are)

      pub precondition_value : (b : ℕ) → b ≡ byte file (p + count_bytes + pair_bytes * i + 1) → b ≡ (pair (action T a).preconditions i).value
      precondition_value b e =
          listed_value count_bytes (byte rest 0) i few_preconditions in_preconditions b e ∙ ap (λ ps. (pair ps i).value) (sym preconditions_are)

    module _ (i k : ℕ) (l : i < length (action T a).effects) (ek : k ≡ byte file (p + 0)) where
      before : k ≡ byte rest 0
      before = ek ∙ sym (rest_byte 0 (omega (arith, all_there)))

      few_effects : count_bytes + pair_bytes * k + pair_bytes * byte rest 1 ≤ length rest
      few_effects = omega (arith, all_there, before)

      in_effects : i < byte rest 1
      in_effects = omega (arith, effect_count file a)

      effects_behind : (action T a).effects ≡ pairs_at rest (count_bytes + pair_bytes * k) (byte rest 1)
      effects_behind = rw before effects_are

      pub effect_there : p + (count_bytes + pair_bytes * k) + pair_bytes * i + 1 < length file
      effect_there = listed_there (count_bytes + pair_bytes * k) (byte rest 1) i few_effects in_effects

      pub effect_variable : (b : ℕ) → b ≡ byte file (p + (count_bytes + pair_bytes * k) + pair_bytes * i) → b ≡ (pair (action T a).effects i).variable
      effect_variable b e =
          listed_variable (count_bytes + pair_bytes * k) (byte rest 1) i few_effects in_effects b e ∙ ap (λ ps. (pair ps i).variable) (sym effects_behind)

      pub effect_value : (b : ℕ) → b ≡ byte file (p + (count_bytes + pair_bytes * k) + pair_bytes * i + 1) → b ≡ (pair (action T a).effects i).value
      effect_value b e =
          listed_value (count_bytes + pair_bytes * k) (byte rest 1) i few_effects in_effects b e ∙ ap (λ ps. (pair ps i).value) (sym effects_behind)
