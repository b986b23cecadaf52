-- The translator's text over the functions' own answers: over any calls that kept their promises of `translator::translate` and of
-- `reader::file::file_verdict`. The file that was written is accepted by the file reader and states the text's own task; a refusal changed nothing.
-- Assumes nothing.
use Rattle.std.specs.Prelude.{Ok, Err}
use mathlib.Core.Path.{◌≡◌, refl, sym, ap, ◌∙◌}
use mathlib.Core.List.{List}
use Prim.Native.Nat.{ℕ, suc}
use native.Mathlib.Omega.{arith}
use lib.ListN.{length, take, drop}
use lib.Seq.{take_at}
use borrow.Fn.Kinds.{Dens, ended_of}
use contract.Lifetimes.{Lfts}
use denote.Triple.Clauses.{AtExit}
use Rattle.rules.specs.File.{task_of, file_of, file_verdict}
use Rattle.rules.specs.Calls.{lent_after}
use Rattle.rules.specs.Translation.{text_task, translation_verdict, translation_after}
use Rattle.rules.specs.declared.Refusal.{Refusal}
use Rattle.rules.specs.Answers.{Verdict}
use Rattle.rules.proofs.Translated.{Translated, translated}
use Rattle.reader.proofs.file.file_verdict.Kinds as verdict-kinds
use Rattle.reader.proofs.file.file_verdict.Reads as file-verdict
use Rattle.translator.specs.Intake.{translation, Translation}
use Rattle.translator.proofs.translate.Kinds as translate-kinds
use Rattle.translator.proofs.translate.Reads as translate

-- ---- the calls

-- a text was translated into a room: the answer, and the bytes that it left
pub record TextTranslated (text room : List ℕ) (answer : Translation) (after : List ℕ) : Type 1 where
  pub κs : Lfts 2
  pub a : Dens κs translate-kinds.ps
  pub x : AtExit (ended_of 2 translate-kinds.ps translate-kinds.r) κs
  pub promised : translate.Post κs a answer x
  pub text_is : a.0.now ≡ text
  pub room_is : a.1.0.now ≡ room
  pub after_is : x.1.0.now ≡ after

-- a file was judged, and this was the verdict
pub record FileJudged (file : List ℕ) (verdict : Verdict) : Type 1 where
  pub κs : Lfts 1
  pub a : Dens κs verdict-kinds.ps
  pub x : AtExit (ended_of 1 verdict-kinds.ps verdict-kinds.r) κs
  pub promised : file-verdict.Post κs a verdict x
  pub file_is : a.0.now ≡ file

-- ---- what they come to

-- the file that was written, so many bytes of the room, is accepted by the file reader, and states the task that the text states
pub record Written (text after : List ℕ) (bytes : ℕ) : Type 1 where
  pub is_the_file : take bytes after ≡ file_of (text_task text)
  pub accepted : (v : Verdict) → FileJudged (take bytes after) v → v ≡ Ok tt
  pub states_it : task_of (take bytes after) ≡ text_task text

-- ---- their proofs

-- how many bytes an answer says were written, counted from 1; 0 for a refusal
abbrev said : Translation → ℕ
said (Ok bytes) = suc bytes
said (Err why) = 0

accepted_writes : (v : Verdict) (file room after : List ℕ) (bytes : ℕ) → Ok bytes ≡ translation v (length file) → after ≡ lent_after v file room
    → (v ≡ Ok tt) × (take bytes after ≡ file)
accepted_writes (Ok _) file room after bytes e f =
    let many : suc bytes ≡ suc (length file) = ap said e in
    (refl, ap (take bytes) f ∙ take_at file (drop (length file) room) bytes (omega arith))
accepted_writes (Err why) file room after bytes e f = let none : suc bytes ≡ 0 = ap said e in absurd (omega arith)

refused_leaves : (v : Verdict) (file room after : List ℕ) (why : Refusal) → Err why ≡ translation v (length file) → after ≡ lent_after v file room
    → after ≡ room
refused_leaves (Ok _) file room after why e f = let some : 0 ≡ suc (length file) = ap said e in absurd (omega arith)
refused_leaves (Err other) file room after why e f = f

answered : (text room : List ℕ) (answer : Translation) (after : List ℕ) → TextTranslated text room answer after
    → (answer ≡ translation (translation_verdict text (length room)) (length (file_of (text_task text)))) × (after ≡ translation_after text room)
answered text room answer after t = rw (sym t.text_is, sym t.room_is, sym t.after_is) t.promised

judged : (file : List ℕ) (v : Verdict) → FileJudged file v → v ≡ file_verdict file
judged file v j = rw (sym j.file_is) j.promised

pub written : (text room after : List ℕ) (bytes : ℕ) → TextTranslated text room (Ok bytes) after → Written text after bytes
unfolding translation_after
written text room after bytes t =
    let promised = answered text room (Ok bytes) after t in
    let facts = accepted_writes (translation_verdict text (length room)) (file_of (text_task text)) room after bytes promised.0 promised.1 in
    let page : Translated text room = translated text room facts.0 in
    record {
      is_the_file = facts.1;
      accepted = λ v j. judged (take bytes after) v j ∙ ap file_verdict facts.1 ∙ page.accepted;
      states_it = ap task_of facts.1 ∙ page.states_it;
    }

pub refused : (text room after : List ℕ) (why : Refusal) → TextTranslated text room (Err why) after → after ≡ room
unfolding translation_after
refused text room after why t =
    let promised = answered text room (Err why) after t in
    refused_leaves (translation_verdict text (length room)) (file_of (text_task text)) room after why promised.0 promised.1
