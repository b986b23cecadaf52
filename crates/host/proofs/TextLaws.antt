-- The ways out of the calls that write text.
-- Assumes nothing.
use Rattle.std.specs.Prelude.{Ok, Err}
use mathlib.Core.Path.{◌≡◌, refl, ap, ◌∙◌}
use Prim.Native.Nat.{ℕ}
use Rattle.rules.specs.Answers.{answer, answer_of, answer_to, Verdict}
use Rattle.rules.specs.declared.Refusal.{Refusal}
use Rattle.text.specs.declared.runs.Run.{Run}
use Rattle.text.specs.Said.{answered, TextAnswer}
use Rattle.host.specs.Cells.{counted}
use Rattle.host.specs.Texts.{answer_to_text, lines_in, bytes_in}

-- ---- an answer, handed over

module _ (text : TextAnswer) where
  module _ (run : Run) (e : text ≡ Ok run) where
    pub written_told : (number detail : ℕ) → answer number detail ≡ answer 0 0 → answer number detail ≡ answer_to_text text
    written_told number detail t = rw e t

    pub bytes_written : run.bytes ≡ bytes_in text
    bytes_written = rw e

  module _ (why : Refusal) (e : text ≡ Err why) where
    pub refused_told : (number detail : ℕ) → answer number detail ≡ answer_of why → answer number detail ≡ answer_to_text text
    refused_told number detail t = rw e t

    pub no_bytes : 0 ≡ bytes_in text
    no_bytes = rw e

-- ---- an answer that a verdict made

tells : (v : Verdict) (lines bytes : ℕ) → answer_to_text (answered v lines bytes) ≡ answer_to v
tells (Ok _) lines bytes = refl
tells (Err why) lines bytes = refl

counts_lines : (v : Verdict) (lines bytes : ℕ) → lines_in (answered v lines bytes) ≡ counted v lines
unfolding counted
counts_lines (Ok _) lines bytes = refl
counts_lines (Err why) lines bytes = refl

counts_bytes : (v : Verdict) (lines bytes : ℕ) → bytes_in (answered v lines bytes) ≡ counted v bytes
unfolding counted
counts_bytes (Ok _) lines bytes = refl
counts_bytes (Err why) lines bytes = refl

module _ (text : TextAnswer) (v : Verdict) (lines bytes : ℕ) (e : text ≡ answered v lines bytes) where
  pub text_told : (number detail : ℕ) → answer number detail ≡ answer_to_text text → answer number detail ≡ answer_to v
  text_told number detail t = t ∙ ap answer_to_text e ∙ tells v lines bytes

  pub lines_counted : (n : ℕ) → n ≡ lines_in text → n ≡ counted v lines
  lines_counted n t = t ∙ ap lines_in e ∙ counts_lines v lines bytes

  pub bytes_counted : (n : ℕ) → n ≡ bytes_in text → n ≡ counted v bytes
  bytes_counted n t = t ∙ ap bytes_in e ∙ counts_bytes v lines bytes
