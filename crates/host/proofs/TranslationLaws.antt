-- The ways out of the call that translates a text.
-- Assumes nothing.
use Rattle.std.specs.Prelude.{Ok, Err}
use mathlib.Core.Path.{◌≡◌, refl, sym, ap, ◌∙◌}
use Prim.Native.Nat.{ℕ}
use Rattle.rules.specs.Answers.{Answer, answer, answer_of, answer_to, Verdict}
use Rattle.rules.specs.declared.Refusal.{Refusal}
use Rattle.translator.specs.Intake.{translation, Translation}
use Rattle.host.specs.Cells.{counted}

abbrev told_by : Translation → Answer
told_by (Ok written) = answer 0 0
told_by (Err why) = answer_of why

abbrev bytes_in : Translation → ℕ
bytes_in (Ok written) = written
bytes_in (Err why) = 0

tells : (v : Verdict) (bytes : ℕ) → told_by (translation v bytes) ≡ answer_to v
tells (Ok _) bytes = refl
tells (Err why) bytes = refl

counts : (v : Verdict) (bytes : ℕ) → bytes_in (translation v bytes) ≡ counted v bytes
unfolding counted
counts (Ok _) bytes = refl
counts (Err why) bytes = refl

module _ (t : Translation) (v : Verdict) (bytes : ℕ) (e : t ≡ translation v bytes) where
  module _ (written : ℕ) (f : t ≡ Ok written) where
    pub written_told : (number detail : ℕ) → answer number detail ≡ answer 0 0 → answer number detail ≡ answer_to v
    written_told number detail a = a ∙ ap told_by (sym f ∙ e) ∙ tells v bytes

    pub bytes_counted : written ≡ counted v bytes
    bytes_counted = ap bytes_in (sym f ∙ e) ∙ counts v bytes

  module _ (why : Refusal) (f : t ≡ Err why) where
    pub refused_told : (number detail : ℕ) → answer number detail ≡ answer_of why → answer number detail ≡ answer_to v
    refused_told number detail a = a ∙ ap told_by (sym f ∙ e) ∙ tells v bytes

    pub none_counted : 0 ≡ counted v bytes
    none_counted = ap bytes_in (sym f ∙ e) ∙ counts v bytes
