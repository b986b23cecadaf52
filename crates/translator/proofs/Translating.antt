-- A text taken in one piece and finished gets the rules' answer, and the room that the rules leave.
-- Assumes nothing.
use Prim.Native.Nat.{ℕ, ◌≤◌, ◌<◌}
use mathlib.Core.Path.{◌≡◌}
use mathlib.Core.List.{List}
use lib.ListN.{length}
use Rattle.rules.specs.File.{file_of}
use Rattle.rules.specs.Translation.{text_task, translation_verdict, translation_after}
use Rattle.translator.specs.Intake.{Memory, Lent, most_lines, head_room, taken, take_call, begun, translation, ended, finish_call, Translation}
use Rattle.translator.specs.declared.intake.Intake.{Intake}
use Rattle.translator.proofs.WholeText.{Translated, translated_whole}

module _ (text room : List ℕ) (m then : Memory) (line held after : List ℕ) (i j : Intake) (r : Translation) where
  pub by_the_rules : i ≡ begun → taken j then held ≡ take_call (taken i m line) text → ended r after ≡ finish_call (taken j then held) room
      → Lent m → head_room ≤ length line → length text < most_lines
      → (r ≡ translation (translation_verdict text (length room)) (length (file_of (text_task text)))) × (after ≡ translation_after text room)
  by_the_rules first took finished lent fits short =
      let t : Translated text room (ended r after) = rw (finished, took, first) (translated_whole m line lent fits text room short) in
      (t.answer, t.room)
