-- The line of a clause at a place is the line of its numbers.
-- Assumes nothing.
use mathlib.Core.Path.{◌≡◌, refl, ◌∙◌}
use mathlib.Core.List.{List, [], ◌∷◌, ◌++◌}
use Prim.Native.Nat.{ℕ, ◌+◌, ◌*◌, ◌≤◌, ◌<◌}
use native.Mathlib.Omega.{arith}
use native.Mathlib.Numerals.{add-one}
use lib.ListN.{length}
use Rattle.rules.specs.Limits.{max_domain}
use Rattle.rules.specs.Counting.{for_each}
use Rattle.rules.specs.Problem.{Problem, problem}
use Rattle.rules.specs.Task.{Task, n, d, start_value, pair, action}
use Rattle.rules.specs.Numbering.{value_number, action_number}
use Rattle.rules.specs.Families.{plus, minus, supporters}
use Rattle.rules.specs.Text.{clause_line}
use Rattle.rules.specs.File.{task_of}
use Rattle.rules.proofs.Files.{accepted_well_formed}
use Rattle.task.specs.Index.{Indexed}
use Rattle.formula.specs.declared.place.Place.{Place}
use Rattle.formula.specs.declared.place.Place.TheVariants.{Start, Goal, AllValues, TwoValues, Precondition, Effect, Stays, TwoActions}
use Rattle.formula.specs.Front.{values_to}
use Rattle.digits.specs.Over.{Wrote}
use Rattle.lines.specs.Written.{literals, line_end, literal_room, end_room, line_room}
use Rattle.lines.specs.AtPlace.{place_line, RoomFor}
use Rattle.lines.proofs.Writes.{wrote_literals, wrote_line, no_literals}

module _ (file : List ℕ) (k : ℕ) (l m : List ℕ) (at e : ℕ) where
  abbrev T : Task
  T = task_of file

  abbrev P : Problem
  P = problem T k

  -- one arm of a match
  pub arm_room : (place p : Place) (room : ℕ) → place ≡ p → RoomFor file k place at room → RoomFor file k p at room
  arm_room place p room f r = rw f at r

  pub start_line : (x v number : ℕ) → Wrote l at (clause_line (plus number ∷ [])) m e → number ≡ value_number P 0 x v → v ≡ start_value T x
      → Wrote l at (place_line file k (Start x)) m e
  unfolding place_line
  start_line x v number w f g = rw (← g, ← f) w

  pub goal_line : (i y v number : ℕ) → Wrote l at (clause_line (plus number ∷ [])) m e → number ≡ value_number P k y v → y ≡ (pair T.goal i).variable
      → v ≡ (pair T.goal i).value → Wrote l at (place_line file k (Goal i)) m e
  unfolding place_line
  goal_line i y v number w f g h = rw (← g, ← h, ← f) w

  pub two_values-line : (s x v u first second : ℕ) → Wrote l at (clause_line (minus first ∷ minus second ∷ [])) m e → first ≡ value_number P s x v
      → second ≡ value_number P s x u → Wrote l at (place_line file k (TwoValues s x v u)) m e
  unfolding place_line
  two_values-line s x v u first second w f g = rw (← f, ← g) w

  pub precondition_line : (s a b i y v first second : ℕ) → Wrote l at (clause_line (minus first ∷ plus second ∷ [])) m e → first ≡ action_number P s a
      → second ≡ value_number P s y v → b ≡ a → y ≡ (pair (action T b).preconditions i).variable → v ≡ (pair (action T b).preconditions i).value
      → Wrote l at (place_line file k (Precondition s a i)) m e
  unfolding place_line
  precondition_line s a b i y v first second w f g eb ey ev = rw (← f, ← eb, ← ey, ← ev, ← g) w

  pub effect_line_lem : (s a b i y v first second : ℕ) → Wrote l at (clause_line (minus first ∷ plus second ∷ [])) m e → first ≡ action_number P s a
      → second ≡ value_number P (s + 1) y v → b ≡ a → y ≡ (pair (action T b).effects i).variable → v ≡ (pair (action T b).effects i).value
      → Wrote l at (place_line file k (Effect s a i)) m e
  unfolding place_line
  effect_line_lem s a b i y v first second w f g eb ey ev = rw (← f, ← eb, ← ey, ← ev, ← add-one s, ← g) w

  pub two_actions-line : (s a b first second : ℕ) → Wrote l at (clause_line (minus first ∷ minus second ∷ [])) m e → first ≡ action_number P s a
      → second ≡ action_number P s b → Wrote l at (place_line file k (TwoActions s a b)) m e
  unfolding place_line
  two_actions-line s a b first second w f g = rw (← f, ← g) w

  pub stays_line : (j q : List ℕ) (s x v first second d e' : ℕ) → Wrote l at (literals (minus first ∷ plus second ∷ [])) j d → first ≡ value_number P (s + 1) x v
      → second ≡ value_number P s x v → Wrote j d (literals (supporters P s x v)) q e' → Wrote q e' line_end m e
      → Wrote l at (place_line file k (Stays s x v)) m e
  unfolding place_line
  stays_line j q s x v first second d e' w f g u z =
      rw (← add-one s, ← f, ← g)
      (wrote_line l q m at e' e (minus first ∷ plus second ∷ supporters P s x v)
      (wrote_literals l j q at d e' (minus first ∷ plus second ∷ []) (supporters P s x v) w u) z)

-- ---- all values of x, one after the other

module _ (file : List ℕ) (k s x : ℕ) where
  abbrev R : Problem
  R = problem (task_of file) k

  -- the first v values are written
  pub record ValuesPut (room : List ℕ) (at count v : ℕ) (now : List ℕ) (end : ℕ) : Type 0 where
    pub so_far : Wrote room at (literals (values_to R s x v)) now end
    pub kept : length now ≡ length room
    pub few : end ≤ at + v * literal_room
    pub up_to : v ≤ count
    pub most : count ≤ max_domain

  pub values_start : (index room : List ℕ) (at count : ℕ) → Indexed file index → count ≡ d (task_of file) x → x < n (task_of file)
      → ValuesPut room at count 0 room at
  unfolding values_to for_each
  values_start index room at count ix f h =
      record {
        so_far = no_literals room at;
        kept = refl;
        few = omega arith;
        up_to = omega arith;
        most = omega (arith, (accepted_well_formed file ix.accepted).domain_small x h);
      }

  values_next : (v : ℕ) → values_to R s x (v + 1) ≡ values_to R s x v ++ (plus (value_number R s x v) ∷ [])
  unfolding values_to for_each
  values_next v = rw (add-one v)

  pub values_more : (room now next : List ℕ) (at count v end number behind : ℕ) → ValuesPut room at count v now end → v < count
      → Wrote now end (literals (plus number ∷ [])) next behind → number ≡ value_number R s x v → behind ≤ end + literal_room → length next ≡ length now
      → ValuesPut room at count (v + 1) next behind
  values_more room now next at count v end number behind r h w f few kept =
      record {
        so_far =
            rw (values_next v, ← f)
            (wrote_literals room now next at end behind (values_to R s x v) (plus number ∷ []) r.so_far w);
        kept = kept ∙ r.kept;
        few = omega (arith, r.few);
        up_to = omega arith;
        most = r.most;
      }

  module _ (room now : List ℕ) (at count v end : ℕ) (r : ValuesPut room at count v now end) where
    pub end_room_lem : at + line_room ≤ length room → end + end_room ≤ length now
    end_room_lem g = omega (arith, r.few, r.up_to, r.most, r.kept)

    pub values_end : (next : List ℕ) (behind : ℕ) → count ≡ d (task_of file) x → count ≤ v → Wrote now end line_end next behind
        → Wrote room at (place_line file k (AllValues s x)) next behind
    unfolding place_line values_to
    values_end next behind f h w =
        let all : v ≡ d (task_of file) x = omega (arith, r.up_to) in
        rw (← all) (wrote_line room now next at end behind (values_to R s x v) r.so_far w)
