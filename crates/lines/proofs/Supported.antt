-- The literals of the actions that give a value.
-- Assumes nothing.
use mathlib.Core.Path.{◌≡◌, refl, sym, ap, ◌∙◌}
use mathlib.Core.Bool.{Bool, true, false}
use mathlib.Core.List.{List, [], ◌∷◌, ◌++◌}
use Prim.Native.Nat.{ℕ, ◌+◌, ◌*◌, ◌≤◌, ◌<◌}
use native.Mathlib.Omega.{arith}
use native.Mathlib.Numerals.{add-one}
use lib.ListN.{length, get_or}
use Rattle.std.specs.Prelude.{Option, Some, None}
use Rattle.std.specs.Option.{option_eq}
use borrow.Author.Tests.{eqb-true, eq-eqb}
use lib.Dec.{eqb}
use mir.Syntax.{w8}
use mir.Val.{Fits}
use Rattle.rules.proofs.Bools.{clash}
use Rattle.rules.specs.Limits.{max_actions}
use Rattle.rules.specs.Counting.{for_each}
use Rattle.rules.specs.Problem.{Problem, problem}
use Rattle.rules.specs.Task.{n, d, A}
use Rattle.rules.specs.Numbering.{action_number}
use Rattle.rules.specs.Families.{plus, supporters}
use Rattle.rules.specs.File.{task_of}
use Rattle.rules.proofs.Files.{accepted_well_formed}
use Rattle.task.specs.Index.{Indexed}
use Rattle.formula.specs.Front.{is_given, supporter, supporters_to}
use Rattle.formula.proofs.Supported.{supporters_all}
use Rattle.digits.specs.Over.{Wrote}
use Rattle.lines.specs.Written.{literals, literal_room}
use Rattle.lines.specs.Given.{Noted}
use Rattle.lines.proofs.Writes.{wrote_literals, no_literals}
use Rattle.lines.proofs.Noting.{given_is, given_not}

-- what a test of two values that may be none says
same_some : (o : Option ℕ) (v : ℕ) → o ≡ Some v → option_eq eqb o (Some v) ≡ true
same_some o v e = rw e (eq-eqb v v refl)

some_same : (o : Option ℕ) (v : ℕ) → option_eq eqb o (Some v) ≡ true → o ≡ Some v
some_same None v h = clash h refl
some_same (Some w) v h = ap Some (eqb-true w v h)

module _ (file : List ℕ) (k s x v : ℕ) where
  abbrev P : Problem
  P = problem (task_of file) k

  -- ---- one of them, by what is noted of its action

  module _ (index : List ℕ) (given : List (Option ℕ)) (l : List ℕ) (a at : ℕ) (ix : Indexed file index) (hx : x < n (task_of file)) (hv : v < d (task_of file) x) (ha : a < A (task_of file)) (noted : Noted (task_of file) x (A (task_of file)) given) where
    pub value_fits : Fits w8 v
    value_fits = record { fits = omega (arith, (accepted_well_formed file ix.accepted).domain_small x hx) }

    pub no_supporter : (b : Bool) → b ≡ option_eq eqb (get_or given a None) (Some v) → b ≡ false → Wrote l at (literals (supporter P s x v a)) l at
    unfolding supporter
    no_supporter b eb t =
        let not : false ≡ is_given (task_of file) a x v =
        given_not (task_of file) (accepted_well_formed file ix.accepted) x v a hx hv ha (λ e. clash (same_some _ v (noted.each a ha ∙ e)) (sym eb ∙ t)) in
        rw (← not) (no_literals l at)

    pub one_supporter : (m : List ℕ) (end number : ℕ) (b : Bool) → b ≡ option_eq eqb (get_or given a None) (Some v) → b ≡ true → number ≡ action_number P s a → Wrote l at (literals (plus number ∷ [])) m end
        → Wrote l at (literals (supporter P s x v a)) m end
    unfolding supporter
    one_supporter m end number b eb t g w =
        let is : true ≡ is_given (task_of file) a x v =
        given_is (task_of file) (accepted_well_formed file ix.accepted) x v a hx hv ha (sym (noted.each a ha) ∙ some_same _ v (sym eb ∙ t)) in
        rw (← is, ← g) w

  -- ---- all, one after the other

  -- those of the first a actions are written
  pub record SupportersPut (room : List ℕ) (at a : ℕ) (now : List ℕ) (end : ℕ) : Type 0 where
    pub so_far : Wrote room at (literals (supporters_to P s x v a)) now end
    pub kept : length now ≡ length room
    pub few : end ≤ at + a * literal_room
    pub up_to : a ≤ A (task_of file)
    pub most : A (task_of file) ≤ max_actions

  pub support_start : (index room : List ℕ) (at : ℕ) → Indexed file index → SupportersPut room at 0 room at
  unfolding supporters_to for_each
  support_start index room at ix =
      record {
        so_far = no_literals room at;
        kept = refl;
        few = omega arith;
        up_to = omega arith;
        most = (accepted_well_formed file ix.accepted).actions_few;
      }

  supporters_next : (a : ℕ) → supporters_to P s x v (a + 1) ≡ supporters_to P s x v a ++ supporter P s x v a
  unfolding supporters_to for_each
  supporters_next a = rw (add-one a)

  module _ (room now : List ℕ) (at a end all : ℕ) (r : SupportersPut room at a now end) (f : all ≡ A (task_of file)) where
    pub support_more : (next : List ℕ) (behind : ℕ) → a < all → Wrote now end (literals (supporter P s x v a)) next behind
        → behind ≤ end + literal_room → length next ≡ length now → SupportersPut room at (a + 1) next behind
    support_more next behind h w few kept =
        record {
          so_far = rw (supporters_next a) (wrote_literals room now next at end behind (supporters_to P s x v a) (supporter P s x v a) r.so_far w);
          kept = kept ∙ r.kept;
          few = omega (arith, r.few);
          up_to = omega arith;
          most = r.most;
        }

    pub support_end : all ≤ a → Wrote room at (literals (supporters P s x v)) now end
    support_end h =
        let i : a ≡ A (task_of file) = omega (arith, r.up_to) in rw (← supporters_all P s x v a i) r.so_far
