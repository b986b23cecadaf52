-- The promises of the program allow one answer and one text to print, where the input is its first part.
-- Assumes nothing.
use mathlib.Core.Path.{◌≡◌, sym, ap, ◌∙◌}
use mathlib.Core.List.{List, ◌++◌, append-nil}
use Prim.Native.Nat.{ℕ, ◌<◌}
use borrow.Fn.Kinds.{Dens, ended_of}
use contract.Lifetimes.{Lfts}
use denote.Triple.Clauses.{AtExit}
use lib.ListN.{length, take}
use lib.Seq.{length-take-le}
use Rattle.rules.specs.Translation.{translation_output}
use Rattle.translate.specs.Parts.{part_room, Shown, Answered}
use Rattle.translate.proofs.answer.Kinds as answer-kinds
use Rattle.translate.proofs.answer.Reads as answer

shown_length : (text now : List ℕ) (end : ℕ) → Shown text now end → end ≡ length text
shown_length text now end s = sym (length-take-le end now s.within) ∙ ap length s.is

pub answered_exactly : (first now : List ℕ) (end : ℕ) → length first < part_room → Answered first now end
    → (end ≡ length (translation_output first)) × (take end now ≡ translation_output first)
answered_exactly first now end h s =
    let whole : first ++ s.rest ≡ first = ap (λ r. first ++ r) (s.all h) ∙ append-nil first in
    (shown_length _ now end s.shown ∙ ap (λ i. length (translation_output i)) whole, s.shown.is ∙ ap translation_output whole)

pub answer_decided : (κs : Lfts 7) (a : Dens κs answer-kinds.ps) (r s : ℕ) (x y : AtExit (ended_of 7 answer-kinds.ps answer-kinds.r) κs)
    → length a.0.now < part_room → answer.Post κs a r x → answer.Post κs a s y
    → (r ≡ s) × (take r x.1.1.1.1.1.1.0.now ≡ take s y.1.1.1.1.1.1.0.now)
answer_decided κs a r s x y h p q =
    let one = answered_exactly _ _ r h p in
    let two = answered_exactly _ _ s h q in
    (one.0 ∙ sym two.0, one.1 ∙ sym two.1)
