-- Laws of comments and status lines: each answer by the rule that decides it.
-- Assumes nothing.
use Rattle.std.specs.Prelude.{Ok, Err}
use mathlib.Core.Path.{◌≡◌, refl, sym, ap, ◌∙◌}
use mathlib.Core.Bool.{Bool, true, false, not, ◌||◌}
use mathlib.Core.List.{List, [], ◌∷◌}
use Prim.Native.Nat.{ℕ, max}
use native.Mathlib.Omega.{arith}
use lib.Dec.{eqb}
use lib.ListN.{length}
use Rattle.rules.proofs.Bools.{not_true, not_false}
use Rattle.rules.specs.Answers.{demand, judge, LineAnswer}
use Rattle.rules.specs.File.{byte}
use Rattle.rules.specs.Text.{space}
use Rattle.rules.specs.Lines.{agree, same, says_satisfiable, says_unsatisfiable, says_unknown, is_status, status_reach, phase_said, awaits_status, comment, status, kind_verdict, phase_after, named, progress}
use Rattle.rules.specs.declared.Refusal.TheVariants.{Grammar, OutOfPlace}
use Rattle.rules.specs.declared.Phase.{Phase}
use Rattle.rules.specs.declared.Phase.TheVariants.{ModelOpen, SaidUnsatisfiable, SaidUnknown}
use Rattle.rules.specs.declared.Reading.{Reading}
use Rattle.output.specs.Line.{lent, by_kind, answer_to}

pub comment_skipped : (reading : Reading) (line : List ℕ) (r : Bool) → r ≡ (eqb (length line) 1 || eqb (byte line 1) space) → r ≡ true
    → Ok reading ≡ answer_to comment reading line
unfolding answer_to by_kind kind_verdict phase_after named judge
comment_skipped reading line r e t = ap (λ b. (progress (judge (demand b (Grammar 1) ∷ [])) reading [] (lent [] [])).answer) (sym t ∙ e)

pub comment_broken : (reading : Reading) (line : List ℕ) (r : Bool) → r ≡ (eqb (length line) 1 || eqb (byte line 1) space) → r ≡ false
    → Err (Grammar 1) ≡ answer_to comment reading line
unfolding answer_to by_kind kind_verdict phase_after named judge
comment_broken reading line r e t = ap (λ b. (progress (judge (demand b (Grammar 1) ∷ [])) reading [] (lent [] [])).answer) (sym t ∙ e)

-- ---- status lines

module _ (reading : Reading) (line : List ℕ) (a : Bool) (awaits : a ≡ awaits_status reading.phase) where
  abbrev gives : Bool → Bool → ℕ → Phase → LineAnswer
  gives a is n phase =
      (progress (judge (demand a (OutOfPlace 0) ∷ demand is (Grammar n) ∷ [])) (record { highest = reading.highest; phase = phase }) [] (lent [] [])).answer

  given_by : gives a (is_status line) (status_reach line) (phase_said line) ≡ answer_to status reading line
  unfolding answer_to by_kind kind_verdict phase_after named
  given_by = ap (λ a. gives a (is_status line) (status_reach line) (phase_said line)) awaits

  pub status_out : not a ≡ true → Err (OutOfPlace 0) ≡ answer_to status reading line
  unfolding judge
  status_out t = ap (λ a. gives a (is_status line) (status_reach line) (phase_said line)) (sym (not_true a t)) ∙ given_by

  module _ (t : not a ≡ false) (x : Bool) (e : x ≡ same line says_satisfiable) where
    says : (phase : Phase) → is_status line ≡ true → phase_said line ≡ phase
        → Ok (record { highest = reading.highest; phase = phase }) ≡ answer_to status reading line
    unfolding judge
    says phase i p =
        let g : Ok (record { highest = reading.highest; phase = phase }) ≡ gives a (is_status line) (status_reach line) (phase_said line) =
        rw (not_false a t, i, p) refl in
        g ∙ given_by

    pub status_satisfiable : x ≡ true
        → Ok (record { highest = reading.highest; phase = ModelOpen }) ≡ answer_to status reading line
    unfolding is_status phase_said
    status_satisfiable u = says ModelOpen (rw (sym e ∙ u)) (rw (sym e ∙ u))

    module _ (u : x ≡ false) (y : Bool) (f : y ≡ same line says_unsatisfiable) where
      pub status_unsatisfiable : y ≡ true
          → Ok (record { highest = reading.highest; phase = SaidUnsatisfiable }) ≡ answer_to status reading line
      unfolding is_status phase_said
      status_unsatisfiable v = says SaidUnsatisfiable (rw (sym e ∙ u, sym f ∙ v)) (rw (sym e ∙ u, sym f ∙ v))

      module _ (v : y ≡ false) (z : Bool) (g : z ≡ same line says_unknown) where
        pub status_unknown : z ≡ true
            → Ok (record { highest = reading.highest; phase = SaidUnknown }) ≡ answer_to status reading line
        unfolding is_status phase_said
        status_unknown w = says SaidUnknown (rw (sym e ∙ u, sym f ∙ v, sym g ∙ w)) (rw (sym e ∙ u, sym f ∙ v))

        pub status_broken : z ≡ false → (n m i j k : ℕ) → i ≡ agree line says_satisfiable → j ≡ agree line says_unsatisfiable → k ≡ agree line says_unknown
            → m ≡ max i j → n ≡ max m k → Err (Grammar n) ≡ answer_to status reading line
        unfolding is_status status_reach judge
        status_broken w n m i j k a₁ a₂ a₃ b₁ b₂ =
            let reached : n ≡ status_reach line = omega (arith, a₁, a₂, a₃, b₁, b₂) in
            let h : Err (Grammar n) ≡ gives a (is_status line) (status_reach line) (phase_said line) =
            rw (not_false a t, sym e ∙ u, sym f ∙ v, sym g ∙ w, reached) refl in
            h ∙ given_by
