-- What is kept states the same task: its lent bytes hold a task that is alike the one stated so far, or it is known which limit that one has gone
-- beyond. Each operation keeps this.
-- Assumes nothing.
use mathlib.Core.Path.{◌≡◌, refl, sym, ap, ◌∙◌}
use mathlib.Core.Bool.{Bool, true, false}
use mathlib.Core.Logic.{inl, inr, ⊎_elim}
use mathlib.Core.List.{List, [], ◌∷◌, map}
use Prim.Native.Nat.{ℕ, ◌+◌, ◌*◌, ◌≤◌, ◌<◌}
use native.Mathlib.Omega.{arith}
use borrow.Author.Tests.{ltb-true, ltb-false}
use lib.ListN.{length, set, length-append, length-map, get_or-append}
use lib.Seq.{take_all, take-append-le, get_or-append_seam}
use Rattle.rules.specs.Counting.{for_each, joined}
use Rattle.rules.specs.Limits.{max_variables, max_goals, max_actions, max_pairs, max_action, pair_bytes}
use Rattle.rules.specs.Task.{Pair, Task, n, A, action}
use Rattle.rules.specs.File.{pair_text}
use Rattle.rules.specs.Format.{Stated, no_action, nothing_stated, with_size, with_start, with_goal, with_precondition, with_effect, with_action}
use Rattle.digits.specs.Over.{over}
use Rattle.bodies.specs.Keeping.{Keeping, keeps, nothing_kept, actions_room, Sound, as_byte, byte_pair, with_pair, preconditions_at, effects_at, beyond, one_size, one_start, one_goal, one_precondition, one_effect, one_action, kept, keep_size, keep_start, keep_goal, keep_precondition, keep_effect, keep_action}
use Rattle.bodies.specs.declared.Kept.{Kept}
use Rattle.bodies.specs.declared.Excess.{Excess}
use Rattle.bodies.specs.declared.Excess.TheVariants.{Within, Lengths, Actions}
use Rattle.bodies.proofs.Alike.{map-append, length-put, blur, blur_action, blur_task, blur_stated, Ordered, ordered_nothing, ordered_size, ordered_start, ordered_goal, ordered_precondition, ordered_effect, ordered_action, alike_size, alike_start, alike_goal, alike_precondition, alike_effect, alike_action}
use Rattle.bodies.proofs.Beyond.{TooLong, TooMany, cut_to}
use Rattle.bodies.proofs.KeepSound.{sound_beyond, sound_size, sound_start, sound_goal, sound_precondition, sound_effect, sound_action}
use Rattle.bodies.proofs.HeldBodies.{NumbersHeld, PairsHeld, ActionsHeld, numbers_more, pairs_more, precondition_more, effect_more, action_more}

-- ---- how a task in bytes agrees with what has been stated

-- why no action from number j on matters: it is one too many, or has too many pairs, perhaps while it is still being read
pub data Over (s : Stated) (j : ℕ) : Type 0 where
  number : j ≡ max_actions → j < A s.task → Over s j
  among : j < A s.task → TooMany (action s.task j) → Over s j
  reading : j ≡ A s.task → TooMany s.action → Over s j

-- only the actions before one that is over a limit are kept
pub record CutShort (s t : Stated) : Type 0 where
  pub task : blur_task t.task ≡ cut_to (A t.task) (blur_task s.task)
  pub over : Over s (A t.task)

abbrev pub Agrees : Excess → (s t : Stated) → Type 0
Agrees Within s t = blur_stated t ≡ blur_stated s
Agrees Lengths s t = TooLong s.task
Agrees Actions s t = CutShort s t

agrees_within : (e : Excess) (s t : Stated) → e ≡ Within → blur_stated t ≡ blur_stated s → Agrees e s t
agrees_within e s t h a = rw h a

agrees_lengths : (e : Excess) (s t : Stated) → e ≡ Lengths → TooLong s.task → Agrees e s t
agrees_lengths e s t h a = rw h a

agrees_actions : (e : Excess) (s t : Stated) → e ≡ Actions → CutShort s t → Agrees e s t
agrees_actions e s t h a = rw h a

-- what is kept, in these lent bytes, states s
pub record States (s : Stated) (k : Kept) (sizes start goal actions : List ℕ) : Type 0 where
  pub in_bytes : Stated
  pub sound : Sound k
  pub sizes_held : NumbersHeld k.sizes in_bytes.task.sizes sizes
  pub start_held : NumbersHeld k.starts in_bytes.task.start start
  pub goal_held : PairsHeld k.goals in_bytes.task.goal goal
  pub actions_held : ActionsHeld k.actions k.bytes k.preconditions k.effects in_bytes.task.actions in_bytes.action actions
  pub ordered : Ordered s
  pub in_bytes_ordered : Ordered in_bytes
  pub agrees : Agrees k.excess s in_bytes

pub states_begun : (sizes start goal actions : List ℕ) → States nothing_stated nothing_kept sizes start goal actions
unfolding joined pair_text for_each
states_begun sizes start goal actions =
    record {
      in_bytes = nothing_stated;
      sound =
          record {
            sizes = omega arith;
            starts = omega arith;
            goals = omega arith;
            actions = omega arith;
            bytes = omega arith;
            preconditions = omega arith;
            effects = omega arith;
          };
      sizes_held = record { counted = refl; held = refl };
      start_held = record { counted = refl; held = refl };
      goal_held = record { counted = refl; held = refl };
      actions_held =
          record {
            counted = refl;
            bytes_counted = refl;
            preconditions_counted = refl;
            effects_counted = refl;
            held = refl;
            pairs_held = refl;
          };
      ordered = ordered_nothing;
      in_bytes_ordered = ordered_nothing;
      agrees = refl;
    }

-- ---- the four ways of an operation

kept_cases : (P : Keeping → Type 0) (e : Excess) (fits : Bool) (excess : Excess) (k next : Keeping)
    → (e ≡ Within → fits ≡ true → P next)
    → (e ≡ Within → fits ≡ false → P (keeps (beyond excess k.kept) k.body))
    → (e ≡ Lengths → P k)
    → (e ≡ Actions → P k)
    → P (kept e fits excess k next)
kept_cases P Within true excess k next within full lengths actions = within refl refl
kept_cases P Within false excess k next within full lengths actions = full refl refl
kept_cases P Lengths fits excess k next within full lengths actions = lengths refl
kept_cases P Actions fits excess k next within full lengths actions = actions refl

-- no operator has begun
pub record BeforeOperators (s : Stated) : Type 0 where
  pub no_actions : s.task.actions ≡ []
  pub no_pairs : s.action ≡ no_action

pub before_nothing : BeforeOperators nothing_stated
before_nothing = record { no_actions = refl; no_pairs = refl }

module _ (s : Stated) (b : BeforeOperators s) where
  pub before_size : (m : ℕ) → BeforeOperators (with_size m s)
  unfolding with_size
  before_size m = record { no_actions = b.no_actions; no_pairs = b.no_pairs }

  pub before_start : (m : ℕ) → BeforeOperators (with_start m s)
  unfolding with_start
  before_start m = record { no_actions = b.no_actions; no_pairs = b.no_pairs }

  pub before_goal : (p : Pair) → BeforeOperators (with_goal p s)
  unfolding with_goal
  before_goal p = record { no_actions = b.no_actions; no_pairs = b.no_pairs }

-- an action over a limit has not been met yet
over_not : {X : Type 0} (s : Stated) (j : ℕ) → BeforeOperators s → Over s j → X
over_not s j b (number e l) = absurd (omega (arith, ap length b.no_actions))
over_not s j b (among l h) = absurd (omega (arith, ap length b.no_actions))
over_not s j b (reading e h) =
    absurd (omega (arith, h, ap (λ a. length a.preconditions) b.no_pairs, ap (λ a. length a.effects) b.no_pairs))

-- what is too long stays so
long_grown : (T U : Task) → n T ≤ n U → length T.start ≤ length U.start → length T.goal ≤ length U.goal → TooLong T → TooLong U
long_grown T U h k l = ⊎_elim (λ o. inl (omega arith)) (λ o. inr (omega arith))

-- an action over a limit stays so
module _ (s : Stated) (j : ℕ) where
  over_within : Over s j → j ≤ A s.task
  over_within (number e l) = omega arith
  over_within (among l h) = omega arith
  over_within (reading e h) = omega arith

  over_precondition : (p : Pair) → Over s j → Over (with_precondition p s) j
  unfolding with_precondition
  over_precondition p (number e l) = number e l
  over_precondition p (among l h) = among l h
  over_precondition p (reading e h) = reading e (omega (arith, h, length-put p s.action.preconditions))

  over_effect : (p : Pair) → Over s j → Over (with_effect p s) j
  unfolding with_effect
  over_effect p (number e l) = number e l
  over_effect p (among l h) = among l h
  over_effect p (reading e h) = reading e (omega (arith, h, length-put p s.action.effects))

  over_action : Over s j → Over (with_action s) j
  unfolding with_action
  over_action (number e l) = number e (omega (arith, length-append s.task.actions (s.action ∷ [])))
  over_action (among l h) =
      among (omega (arith, length-append s.task.actions (s.action ∷ [])))
      (rw (get_or-append s.task.actions (s.action ∷ []) no_action j l) h)
  over_action (reading e h) =
      among (omega (arith, length-append s.task.actions (s.action ∷ [])))
      (rw (e, get_or-append_seam s.task.actions s.action [] no_action) h)

-- what is cut off is all that is added
cut_all : (T : Task) (j : ℕ) → A T ≤ j → cut_to j T ≡ T
cut_all T j h = λ i. record { sizes = T.sizes; start = T.start; goal = T.goal; actions = take_all j T.actions h i }

cut_action : (s : Stated) (j : ℕ) → j ≤ A s.task → cut_to j (blur_task s.task) ≡ cut_to j (blur_task (with_action s).task)
unfolding with_action
cut_action s j h =
    rw (
      map-append blur_action s.task.actions (s.action ∷ []),
      take-append-le j (map blur_action s.task.actions) (blur_action s.action ∷ []) (omega (arith, length-map s.task.actions blur_action)),
    )

module _ (s t : Stated) (c : CutShort s t) where
  cut_precondition : (p : Pair) → CutShort (with_precondition p s) t
  unfolding with_precondition
  cut_precondition p = record { task = c.task; over = over_precondition s (A t.task) p c.over }

  cut_effect : (p : Pair) → CutShort (with_effect p s) t
  unfolding with_effect
  cut_effect p = record { task = c.task; over = over_effect s (A t.task) p c.over }

  cut_next : CutShort (with_action s) t
  cut_next =
      record {
        task = c.task ∙ cut_action s (A t.task) (over_within s (A t.task) c.over);
        over = over_action s (A t.task) c.over;
      }

module _ (s : Stated) (k : Kept) (sizes start goal actions : List ℕ) (r : States s k sizes start goal actions) where
  abbrev t : Stated
  t = r.in_bytes

  -- more is stated, and nothing of it kept
  states_same : (s' : Stated) → Ordered s' → Agrees k.excess s' t → States s' k sizes start goal actions
  states_same s' o a =
      record {
        in_bytes = t;
        sound = r.sound;
        sizes_held = r.sizes_held;
        start_held = r.start_held;
        goal_held = r.goal_held;
        actions_held = r.actions_held;
        ordered = o;
        in_bytes_ordered = r.in_bytes_ordered;
        agrees = a;
      }

  states_beyond : (s' : Stated) (excess : Excess) → Ordered s' → Agrees excess s' t → States s' (beyond excess k) sizes start goal actions
  states_beyond s' excess o a =
      record {
        in_bytes = t;
        sound = sound_beyond k excess r.sound;
        sizes_held = r.sizes_held;
        start_held = r.start_held;
        goal_held = r.goal_held;
        actions_held = r.actions_held;
        ordered = o;
        in_bytes_ordered = r.in_bytes_ordered;
        agrees = a;
      }

  alike_now : k.excess ≡ Within → blur_stated t ≡ blur_stated s
  alike_now e = rw e at r.agrees

  long_now : k.excess ≡ Lengths → TooLong s.task
  long_now e = rw e at r.agrees

  cut_now : k.excess ≡ Actions → CutShort s t
  cut_now e = rw e at r.agrees

  -- two that are alike are as long
  module _ (e : k.excess ≡ Within) where
    same_sizes : k.sizes ≡ n s.task
    same_sizes =
        r.sizes_held.counted
        ∙ sym (length-map t.task.sizes as_byte)
        ∙ ap (λ u. n u.task) (alike_now e)
        ∙ length-map s.task.sizes as_byte

    same_start : k.starts ≡ length s.task.start
    same_start =
        r.start_held.counted
        ∙ sym (length-map t.task.start as_byte)
        ∙ ap (λ u. length u.task.start) (alike_now e)
        ∙ length-map s.task.start as_byte

    same_goal : k.goals ≡ length s.task.goal
    same_goal =
        r.goal_held.counted
        ∙ sym (length-map t.task.goal blur)
        ∙ ap (λ u. length u.task.goal) (alike_now e)
        ∙ length-map s.task.goal blur

    same_actions : k.actions ≡ A s.task
    same_actions =
        r.actions_held.counted
        ∙ sym (length-map t.task.actions blur_action)
        ∙ ap (λ u. A u.task) (alike_now e)
        ∙ length-map s.task.actions blur_action

    same_preconditions : k.preconditions ≡ length s.action.preconditions
    same_preconditions =
        r.actions_held.preconditions_counted
        ∙ sym (length-map t.action.preconditions blur)
        ∙ ap (λ u. length u.action.preconditions) (alike_now e)
        ∙ length-map s.action.preconditions blur

    same_effects : k.effects ≡ length s.action.effects
    same_effects =
        r.actions_held.effects_counted
        ∙ sym (length-map t.action.effects blur)
        ∙ ap (λ u. length u.action.effects) (alike_now e)
        ∙ length-map s.action.effects blur

  -- ---- a size

  module _ (m : ℕ) where
    size_within : max_variables ≤ length sizes → k.excess ≡ Within → k.sizes < max_variables
        → States (with_size m s) (one_size k) (set sizes k.sizes (as_byte m)) start goal actions
    unfolding with_size
    size_within room e l =
        record {
          in_bytes = with_size (as_byte m) t;
          sound = sound_size k r.sound l;
          sizes_held = numbers_more k.sizes t.task.sizes sizes (as_byte m) (omega arith) r.sizes_held;
          start_held = r.start_held;
          goal_held = r.goal_held;
          actions_held = r.actions_held;
          ordered = ordered_size s r.ordered m;
          in_bytes_ordered = ordered_size t r.in_bytes_ordered (as_byte m);
          agrees = agrees_within k.excess _ _ e (alike_size t s r.in_bytes_ordered r.ordered (alike_now e) m);
        }

    size_long : TooLong s.task → TooLong (with_size m s).task
    unfolding with_size
    size_long = long_grown s.task (with_size m s).task (omega (arith, length-append s.task.sizes (m ∷ []))) (omega arith) (omega arith)

    size_full : k.excess ≡ Within → max_variables ≤ k.sizes → TooLong (with_size m s).task
    unfolding with_size
    size_full e l = inl (omega (arith, same_sizes e, length-append s.task.sizes (m ∷ [])))

    pub states_size : max_variables ≤ length sizes → BeforeOperators s
        → States (with_size m s) (keep_size m (keeps k sizes)).kept (keep_size m (keeps k sizes)).body start goal actions
    unfolding keep_size
    states_size room b =
        let o : Ordered (with_size m s) = ordered_size s r.ordered m in
        kept_cases (λ after. States (with_size m s) after.kept after.body start goal actions) k.excess _ Lengths (keeps k sizes) _
        (λ e fits. size_within room e (ltb-true k.sizes max_variables fits))
        (λ e full. states_beyond (with_size m s) Lengths o (size_full e (ltb-false k.sizes max_variables full)))
        (λ e. states_same (with_size m s) o (agrees_lengths k.excess _ _ e (size_long (long_now e))))
        (λ e. over_not s (A t.task) b (cut_now e).over)

  -- ---- a start value

  module _ (m : ℕ) where
    start_within : max_variables ≤ length start → k.excess ≡ Within → k.starts < max_variables
        → States (with_start m s) (one_start k) sizes (set start k.starts (as_byte m)) goal actions
    unfolding with_start
    start_within room e l =
        record {
          in_bytes = with_start (as_byte m) t;
          sound = sound_start k r.sound l;
          sizes_held = r.sizes_held;
          start_held = numbers_more k.starts t.task.start start (as_byte m) (omega arith) r.start_held;
          goal_held = r.goal_held;
          actions_held = r.actions_held;
          ordered = ordered_start s r.ordered m;
          in_bytes_ordered = ordered_start t r.in_bytes_ordered (as_byte m);
          agrees = agrees_within k.excess _ _ e (alike_start t s r.in_bytes_ordered r.ordered (alike_now e) m);
        }

    start_long : TooLong s.task → TooLong (with_start m s).task
    unfolding with_start
    start_long = long_grown s.task (with_start m s).task (omega arith) (omega (arith, length-append s.task.start (m ∷ []))) (omega arith)

    start_full : k.excess ≡ Within → max_variables ≤ k.starts → TooLong (with_start m s).task
    unfolding with_start
    start_full e l = inl (omega (arith, same_start e, length-append s.task.start (m ∷ [])))

    pub states_start : max_variables ≤ length start → BeforeOperators s
        → States (with_start m s) (keep_start m (keeps k start)).kept sizes (keep_start m (keeps k start)).body goal actions
    unfolding keep_start
    states_start room b =
        let o : Ordered (with_start m s) = ordered_start s r.ordered m in
        kept_cases (λ after. States (with_start m s) after.kept sizes after.body goal actions) k.excess _ Lengths (keeps k start) _
        (λ e fits. start_within room e (ltb-true k.starts max_variables fits))
        (λ e full. states_beyond (with_start m s) Lengths o (start_full e (ltb-false k.starts max_variables full)))
        (λ e. states_same (with_start m s) o (agrees_lengths k.excess _ _ e (start_long (long_now e))))
        (λ e. over_not s (A t.task) b (cut_now e).over)

  -- ---- a goal pair

  module _ (p : Pair) where
    goal_within : k.excess ≡ Within → k.goals < max_goals
        → States (with_goal p s) (one_goal k) sizes start (with_pair goal 0 k.goals 0 (byte_pair p)) actions
    unfolding with_goal
    goal_within e l =
        record {
          in_bytes = with_goal (byte_pair p) t;
          sound = sound_goal k r.sound l;
          sizes_held = r.sizes_held;
          start_held = r.start_held;
          goal_held = pairs_more k.goals t.task.goal goal (byte_pair p) r.goal_held;
          actions_held = r.actions_held;
          ordered = ordered_goal s r.ordered p;
          in_bytes_ordered = ordered_goal t r.in_bytes_ordered (byte_pair p);
          agrees = agrees_within k.excess _ _ e (alike_goal t s r.in_bytes_ordered r.ordered (alike_now e) p);
        }

    goal_long : TooLong s.task → TooLong (with_goal p s).task
    unfolding with_goal
    goal_long = long_grown s.task (with_goal p s).task (omega arith) (omega arith) (omega (arith, length-put p s.task.goal))

    goal_full : k.excess ≡ Within → max_goals ≤ k.goals → TooLong (with_goal p s).task
    unfolding with_goal
    goal_full e l = inr (omega (arith, same_goal e, length-put p s.task.goal))

    pub states_goal : BeforeOperators s
        → States (with_goal p s) (keep_goal p (keeps k goal)).kept sizes start (keep_goal p (keeps k goal)).body actions
    unfolding keep_goal
    states_goal b =
        let o : Ordered (with_goal p s) = ordered_goal s r.ordered p in
        kept_cases (λ after. States (with_goal p s) after.kept sizes start after.body actions) k.excess _ Lengths (keeps k goal) _
        (λ e fits. goal_within e (ltb-true k.goals max_goals fits))
        (λ e full. states_beyond (with_goal p s) Lengths o (goal_full e (ltb-false k.goals max_goals full)))
        (λ e. states_same (with_goal p s) o (agrees_lengths k.excess _ _ e (goal_long (long_now e))))
        (λ e. over_not s (A t.task) b (cut_now e).over)

  -- ---- the action that is being read

  room_left : actions_room ≤ length actions → k.bytes + max_action ≤ length actions
  room_left room = omega (arith, r.sound.bytes, r.sound.actions)

  -- all actions are kept still
  cut_none : k.excess ≡ Within → blur_task t.task ≡ cut_to (A t.task) (blur_task s.task)
  cut_none e =
      ap (λ u. u.task) (alike_now e)
      ∙ sym (cut_all (blur_task s.task) (A t.task)
      (omega (arith, length-map s.task.actions blur_action, same_actions e, r.actions_held.counted)))

  module _ (p : Pair) where
    precondition_within : actions_room ≤ length actions → k.excess ≡ Within → k.preconditions < max_pairs
        → States (with_precondition p s) (one_precondition k) sizes start goal
        (with_pair actions (preconditions_at k) k.preconditions (pair_bytes * k.effects) (byte_pair p))
    unfolding with_precondition
    precondition_within room e l =
        record {
          in_bytes = with_precondition (byte_pair p) t;
          sound = sound_precondition k r.sound l;
          sizes_held = r.sizes_held;
          start_held = r.start_held;
          goal_held = r.goal_held;
          actions_held =
              precondition_more k.actions k.bytes k.preconditions k.effects t.task.actions t.action actions
              (omega (arith, room_left room)) r.actions_held (byte_pair p);
          ordered = ordered_precondition s r.ordered p;
          in_bytes_ordered = ordered_precondition t r.in_bytes_ordered (byte_pair p);
          agrees = agrees_within k.excess _ _ e (alike_precondition t s r.in_bytes_ordered r.ordered (alike_now e) p);
        }

    precondition_full : k.excess ≡ Within → max_pairs ≤ k.preconditions → CutShort (with_precondition p s) t
    unfolding with_precondition
    precondition_full e l =
        record {
          task = cut_none e;
          over =
              reading (sym r.actions_held.counted ∙ same_actions e)
              (omega (arith, same_preconditions e, length-put p s.action.preconditions));
        }

    precondition_long : TooLong s.task → TooLong (with_precondition p s).task
    unfolding with_precondition
    precondition_long h = h

    pub states_precondition : actions_room ≤ length actions
        → States (with_precondition p s) (keep_precondition p (keeps k actions)).kept sizes start goal (keep_precondition p (keeps k actions)).body
    unfolding keep_precondition
    states_precondition room =
        let o : Ordered (with_precondition p s) = ordered_precondition s r.ordered p in
        kept_cases (λ after. States (with_precondition p s) after.kept sizes start goal after.body) k.excess _ Actions (keeps k actions) _
        (λ e fits. precondition_within room e (ltb-true k.preconditions max_pairs fits))
        (λ e full. states_beyond (with_precondition p s) Actions o (precondition_full e (ltb-false k.preconditions max_pairs full)))
        (λ e. states_same (with_precondition p s) o (agrees_lengths k.excess _ _ e (precondition_long (long_now e))))
        (λ e. states_same (with_precondition p s) o (agrees_actions k.excess _ _ e (cut_precondition s t (cut_now e) p)))

  module _ (p : Pair) where
    effect_within : actions_room ≤ length actions → k.excess ≡ Within → k.effects < max_pairs
        → States (with_effect p s) (one_effect k) sizes start goal (with_pair actions (effects_at k) k.effects 0 (byte_pair p))
    unfolding with_effect
    effect_within room e l =
        record {
          in_bytes = with_effect (byte_pair p) t;
          sound = sound_effect k r.sound l;
          sizes_held = r.sizes_held;
          start_held = r.start_held;
          goal_held = r.goal_held;
          actions_held =
              effect_more k.actions k.bytes k.preconditions k.effects t.task.actions t.action actions
              (omega (arith, room_left room)) r.actions_held (byte_pair p) (omega (arith, room_left room, r.sound.preconditions));
          ordered = ordered_effect s r.ordered p;
          in_bytes_ordered = ordered_effect t r.in_bytes_ordered (byte_pair p);
          agrees = agrees_within k.excess _ _ e (alike_effect t s r.in_bytes_ordered r.ordered (alike_now e) p);
        }

    effect_full : k.excess ≡ Within → max_pairs ≤ k.effects → CutShort (with_effect p s) t
    unfolding with_effect
    effect_full e l =
        record {
          task = cut_none e;
          over =
              reading (sym r.actions_held.counted ∙ same_actions e) (omega (arith, same_effects e, length-put p s.action.effects));
        }

    effect_long : TooLong s.task → TooLong (with_effect p s).task
    unfolding with_effect
    effect_long h = h

    pub states_effect : actions_room ≤ length actions
        → States (with_effect p s) (keep_effect p (keeps k actions)).kept sizes start goal (keep_effect p (keeps k actions)).body
    unfolding keep_effect
    states_effect room =
        let o : Ordered (with_effect p s) = ordered_effect s r.ordered p in
        kept_cases (λ after. States (with_effect p s) after.kept sizes start goal after.body) k.excess _ Actions (keeps k actions) _
        (λ e fits. effect_within room e (ltb-true k.effects max_pairs fits))
        (λ e full. states_beyond (with_effect p s) Actions o (effect_full e (ltb-false k.effects max_pairs full)))
        (λ e. states_same (with_effect p s) o (agrees_lengths k.excess _ _ e (effect_long (long_now e))))
        (λ e. states_same (with_effect p s) o (agrees_actions k.excess _ _ e (cut_effect s t (cut_now e) p)))

  -- ---- the end of an action

  action_within : actions_room ≤ length actions → k.excess ≡ Within → k.actions < max_actions
      → States (with_action s) (one_action k) sizes start goal (over actions k.bytes (k.preconditions ∷ k.effects ∷ []))
  unfolding with_action
  action_within room e l =
      record {
        in_bytes = with_action t;
        sound = sound_action k r.sound l;
        sizes_held = r.sizes_held;
        start_held = r.start_held;
        goal_held = r.goal_held;
        actions_held =
            action_more k.actions k.bytes k.preconditions k.effects t.task.actions t.action actions
            (omega (arith, room_left room)) r.actions_held;
        ordered = ordered_action s r.ordered;
        in_bytes_ordered = ordered_action t r.in_bytes_ordered;
        agrees = agrees_within k.excess _ _ e (alike_action t s r.in_bytes_ordered r.ordered (alike_now e));
      }

  action_full : k.excess ≡ Within → max_actions ≤ k.actions → CutShort (with_action s) t
  unfolding with_action
  action_full e l =
      let same : A t.task ≡ A s.task = sym r.actions_held.counted ∙ same_actions e in
      record {
        task = cut_none e ∙ cut_action s (A t.task) (omega arith);
        over =
            number (omega (arith, r.sound.actions, r.actions_held.counted)) (omega (arith, length-append s.task.actions (s.action ∷ [])));
      }

  action_long : TooLong s.task → TooLong (with_action s).task
  unfolding with_action
  action_long h = h

  pub states_action : actions_room ≤ length actions
      → States (with_action s) (keep_action (keeps k actions)).kept sizes start goal (keep_action (keeps k actions)).body
  unfolding keep_action
  states_action room =
      let o : Ordered (with_action s) = ordered_action s r.ordered in
      kept_cases (λ after. States (with_action s) after.kept sizes start goal after.body) k.excess _ Actions (keeps k actions) _
      (λ e fits. action_within room e (ltb-true k.actions max_actions fits))
      (λ e full. states_beyond (with_action s) Actions o (action_full e (ltb-false k.actions max_actions full)))
      (λ e. states_same (with_action s) o (agrees_lengths k.excess _ _ e (action_long (long_now e))))
      (λ e. states_same (with_action s) o (agrees_actions k.excess _ _ e (cut_next s t (cut_now e))))
