-- The value that an action gives a variable: found, noted, and what it says of a supporter.
-- Assumes nothing.
use mathlib.Core.Path.{◌≡◌, sym, ap, ◌∙◌}
use mathlib.Core.Logic.{⊎_elim}
use mathlib.Core.Bool.{true, false, ◌&&◌}
use mathlib.Core.List.{List}
use Prim.Native.Nat.{ℕ, ◌≤◌, ◌<◌}
use native.Mathlib.Omega.{arith}
use borrow.Author.Tests.{eq-eqb, ne_eqb, eqb-true, lt-ltb, le-ltb, ltb-true}
use lib.Dec.{eqb, ltb}
use lib.ListN.{length}
use Rattle.std.specs.Prelude.{Bool, Option, Some, None}
use Rattle.std.proofs.lemmas.Option.{cond_some}
use mir.Syntax.{w8}
use mir.Val.{Fits}
use Rattle.rules.specs.Limits.{max_actions}
use Rattle.rules.specs.Counting.{first}
use Rattle.rules.specs.Task.{Task, Pair, n, d, A, pair, action}
use Rattle.rules.specs.File.{task_of}
use Rattle.rules.proofs.Bools.{either, and_left, and_right, and_both}
use Rattle.rules.proofs.Counting.{any_at, any_where, first_at, first_is}
use Rattle.rules.proofs.Loops.{found_at}
use Rattle.rules.proofs.Valid.{Inside, WellFormed}
use Rattle.rules.proofs.Moves.{pairs_apart}
use Rattle.rules.proofs.Files.{accepted_well_formed}
use Rattle.task.specs.Index.{Indexed}
use Rattle.formula.specs.Front.{is_given}
use Rattle.lines.specs.Given.{sets_it, setter, given_to, Noted}

-- ---- found

pub sets_is : (T : Task) (x a i y y' : ℕ) → y ≡ (pair (action T a).effects i).variable → y' ≡ y → eqb y' x ≡ sets_it T x a i
unfolding sets_it
sets_is T x a i y y' e f = ap (λ z. eqb z x) (f ∙ e)

pub value_found : (T : Task) (x a i m w : ℕ) (b : Bool) → w ≡ (pair (action T a).effects i).value → b ≡ sets_it T x a i → b ≡ true
    → first i (sets_it T x a) ≡ i → m ≡ length (action T a).effects → i < m → Some w ≡ given_to T x a
unfolding given_to setter
value_found T x a i m w b ew e t f em l =
    let below : i < length (action T a).effects = omega arith in
    let here : i ≡ first (length (action T a).effects) (sets_it T x a) = found_at (sets_it T x a) (length (action T a).effects) i b f below e t in
    rw (← here, lt-ltb i (length (action T a).effects) below) (ap Some ew)

pub none_found : (T : Task) (x a i m : ℕ) → m ≡ length (action T a).effects → m ≤ i → i ≤ m → first i (sets_it T x a) ≡ i → None ≡ given_to T x a
unfolding given_to setter
none_found T x a i m em h l f =
    let all : i ≡ length (action T a).effects = omega arith in
    rw (← all, f, le-ltb i i (omega arith))

pub value_byte : (file index : List ℕ) (a i y w : ℕ) → Indexed file index → a < A (task_of file) → i < length (action (task_of file) a).effects
    → y ≡ (pair (action (task_of file) a).effects i).value → w ≡ y → Fits w8 w
value_byte file index a i y w ix ha hi e ew =
    let fine : WellFormed (task_of file) = accepted_well_formed file ix.accepted in
    let inside : Inside (task_of file) (pair (action (task_of file) a).effects i) = (fine.actions_fine a ha).effects_fine.inside_each i hi in
    record { fits = omega (arith, inside.value_below, fine.domain_small (pair (action (task_of file) a).effects i).variable inside.variable_below) }

-- ---- what it says of a supporter

module _ (T : Task) (fine : WellFormed T) (x v a : ℕ) (hx : x < n T) (hv : v < d T x) (ha : a < A T) where
  abbrev effects : List Pair
  effects = (action T a).effects

  gives_it : setter T x a < length effects → (pair effects (setter T x a)).value ≡ v → is_given T a x v ≡ true
  unfolding is_given setter sets_it
  gives_it h e =
      any_at (λ p. eqb p.variable x && eqb p.value v) effects (record { variable = 0; value = 0 }) (setter T x a) h
      (and_both (eqb (pair effects (setter T x a)).variable x) (eqb (pair effects (setter T x a)).value v) (first_at (length effects) (sets_it T x a) h) (eq-eqb _ v e))

  its_value : is_given T a x v ≡ true → given_to T x a ≡ Some v
  unfolding is_given given_to setter sets_it
  its_value t =
      let at = any_where (λ p. eqb p.variable x && eqb p.value v) effects (record { variable = 0; value = 0 }) t in
      let variable : (pair effects at.0).variable ≡ x = eqb-true _ x (and_left (eqb (pair effects at.0).variable x) (eqb (pair effects at.0).value v) at.2) in
      let value : (pair effects at.0).value ≡ v = eqb-true _ v (and_right (eqb (pair effects at.0).variable x) (eqb (pair effects at.0).value v) at.2) in
      let here : first (length effects) (sets_it T x a) ≡ at.0 =
      first_is (length effects) (sets_it T x a) at.0 at.1 (eq-eqb _ x variable) (λ j l.
      ne_eqb _ x (λ e. let same = pairs_apart T effects (fine.actions_fine a ha).effects_fine j at.0 (omega (arith, at.1)) at.1 (e ∙ sym variable) in absurd (omega arith))) in
      rw (here, lt-ltb at.0 (length effects) at.1) (ap Some value)

  pub given_is : given_to T x a ≡ Some v → true ≡ is_given T a x v
  unfolding given_to
  given_is e =
      let found = cond_some (ltb (setter T x a) (length effects)) _ v e in
      sym (gives_it (ltb-true (setter T x a) (length effects) found.0) found.1)

  pub given_not : (given_to T x a ≡ Some v → ⊥) → false ≡ is_given T a x v
  given_not h = ⊎_elim (λ t. absurd (h (its_value t))) (λ t. sym t) (either (is_given T a x v))

-- ---- noted

-- of the first m of all actions
pub record Noting (T : Task) (x all m : ℕ) (given : List (Option ℕ)) : Type 0 where
  pub so_far : Noted T x m given
  pub up_to : m ≤ all
  pub fits : all ≤ length given

pub note_start : (file index : List ℕ) (given : List (Option ℕ)) (x all : ℕ) → Indexed file index → all ≡ A (task_of file) → length given ≡ max_actions
    → Noting (task_of file) x all 0 given
note_start file index given x all ix ea e =
    record {
      so_far = record { room = e; each = λ a l. absurd (omega arith) };
      up_to = omega arith;
      fits = omega (arith, (accepted_well_formed file ix.accepted).actions_few);
    }

module _ (T : Task) (given : List (Option ℕ)) (x m all : ℕ) (h : Noting T x all m given) where
  pub note_below : m < all → m < length given
  note_below l = omega (arith, h.fits)
