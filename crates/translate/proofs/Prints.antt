-- The program as a whole: whatever parts its input comes in, what is printed is the rules' own output of the whole input.
-- Assumes nothing.
use Rattle.std.specs.Prelude.{Ok, Err}
use mathlib.Core.Path.{◌≡◌, refl, sym, ap, subst, ◌∙◌}
use mathlib.Core.Bool.{Bool, true, false, cond}
use mathlib.Core.List.{List, [], ◌∷◌, ◌++◌, foldl, foldl-append}
use Prim.Native.Nat.{ℕ, ◌+◌, ◌*◌, ◌≤◌, ◌<◌}
use native.Mathlib.Omega.{arith}
use lib.ListN.{length, take, drop, length-append, length-take}
use lib.Seq.{take-append_seam, length-take-le}
use Rattle.rules.specs.Counting.{joined}
use Rattle.rules.specs.Limits.{max_file}
use Rattle.rules.specs.File.{file_of}
use Rattle.rules.specs.Text.{refusal_line}
use Rattle.rules.specs.Calls.{lent_after}
use Rattle.rules.specs.Programs.{printed}
use Rattle.rules.specs.Translation.{text_task, translation_verdict, translation_after, translation_output}
use Rattle.rules.specs.declared.Refusal.{Refusal}
use Rattle.rules.specs.declared.Refusal.TheVariants.{Room}
use Rattle.rules.specs.Answers.{Verdict}
use Rattle.digits.specs.Over.{over}
use Rattle.digits.proofs.Overs.{over_front}
use Rattle.translator.specs.Intake.{Memory, Lent, head_room, most_lines, Taken, taken, take_call, begun, translation, ended, end_verdict, file_kept, end_with, finish_call, last_line, has_room, Translation}
use Rattle.translator.proofs.WholeText.{translated}
use Rattle.translator.specs.declared.intake.Intake.{Intake}
use Rattle.translate.specs.Parts.{part_room, most_parts, FedSome, text_of, end_text, Shown, ShownBehind, Answered}

-- ---- the parts

pub some_none : (t : Taken) → FedSome t t 0
unfolding joined
some_none t = record { parts = []; fed = refl; few = omega arith }

joined_append : (ps : List (List ℕ)) (p : List ℕ) → length (joined (ps ++ (p ∷ []))) ≡ length (joined ps) + length p
unfolding joined
joined_append [] p = omega (arith, length-append p [])
joined_append (q ∷ ps) p = omega (arith, length-append q (joined (ps ++ (p ∷ []))), length-append q (joined ps), joined_append ps p)

pub some_more : (before fed after : Taken) (part : List ℕ) (n i : ℕ) → FedSome before fed (part_room * i) → after ≡ take_call fed (take n part) → part_room ≡ length part
    → FedSome before after (part_room * (i + 1))
some_more before fed after part n i s e h =
    record {
      parts = s.parts ++ (take n part ∷ []);
      fed = e ∙ ap (λ t. take_call t (take n part)) s.fed ∙ sym (foldl-append take_call before s.parts (take n part ∷ []));
      few = omega (arith, s.few, joined_append s.parts (take n part), length-take n part);
    }

pub some_few : (before after : Taken) (i : ℕ) → FedSome before after (part_room * i) → i ≤ most_parts → FedSome before after (part_room * most_parts)
some_few before after i s h = record { parts = s.parts; fed = s.fed; few = omega (arith, s.few) }

pub first_taken : (m : Memory) (line first : List ℕ) (i : Intake) (after : Taken) → after ≡ take_call (taken i m line) first → i ≡ begun
    → after ≡ take_call (taken begun m line) first
first_taken m line first i after e b = e ∙ ap (λ j. take_call (taken j m line) first) b

-- ---- the end

abbrev length_of : Translation → ℕ
length_of (Ok length) = length
length_of (Err why) = 0

ends_within : (v : Verdict) (file room : List ℕ) (n : ℕ) → translation v (length file) ≡ Ok n → n ≤ length (lent_after v file room)
ends_within (Ok _) file room n e = omega (arith, ap length_of e, length-append file (drop (length file) room))
ends_within (Err why) file room n e = omega (arith, ap length_of e)

with_room : (b : Bool) (t : Taken) (room : List ℕ) (n : ℕ) → (cond b (end_with (last_line t) room) (ended (Err Room) room)).answer ≡ Ok n
    → n ≤ length (cond b (end_with (last_line t) room) (ended (Err Room) room)).room
unfolding end_with
with_room true t room n e = ends_within (end_verdict (last_line t) (length room)) (file_kept (last_line t).intake.kept (last_line t).memory) room n e
with_room false t room n e = omega (arith, ap length_of e)

finish_within : (t : Taken) (room : List ℕ) (n : ℕ) → (finish_call t room).answer ≡ Ok n → n ≤ length (finish_call t room).room
unfolding finish_call
finish_within t room n e = with_room (has_room t) t room n e

module _ (t : Taken) (room now : List ℕ) (answer : Translation) where
  pub written_shown : (n : ℕ) → ended answer now ≡ finish_call t room → answer ≡ Ok n → Shown (end_text t room) now n
  unfolding end_text
  written_shown n e f =
      record {
        is = ap (λ a. text_of a now) (sym f) ∙ ap (λ x. text_of x.answer x.room) e;
        within = rw (ap (λ x. x.room) e) (finish_within t room n (sym (ap (λ x. x.answer) e) ∙ f));
      }

  pub refused_shown : (why : Refusal) (shown : List ℕ) (end : ℕ) → shown ≡ over now 0 (refusal_line why) → end ≡ length (refusal_line why) → ended answer now ≡ finish_call t room
      → answer ≡ Err why → Shown (end_text t room) shown end
  unfolding end_text
  refused_shown why shown end g h e f =
      let line : List ℕ = refusal_line why in
      let front : shown ≡ line ++ drop (length line) now = g ∙ over_front now line in
      record {
        is =
            ap (take end) front
            ∙ ap (λ i. take i (line ++ drop (length line) now)) h
            ∙ take-append_seam line (drop (length line) now)
            ∙ ap (λ a. text_of a now) (sym f)
            ∙ ap (λ x. text_of x.answer x.room) e;
        within = omega (arith, h, ap length front, length-append line (drop (length line) now));
      }

pub shown_same : (t u : Taken) (room now : List ℕ) (end : ℕ) → Shown (end_text t room) now end → t ≡ u → Shown (end_text u room) now end
shown_same t u room now end s e = subst (λ x. Shown (end_text x room) now end) e s

pub behind_same : (t u : Taken) (room now : List ℕ) (end : ℕ) → ShownBehind t room now end → t ≡ u → ShownBehind u room now end
behind_same t u room now end s e = subst (λ x. ShownBehind x room now end) e s

-- ---- the whole

text_said : (v : Verdict) (file room : List ℕ) → text_of (translation v (length file)) (lent_after v file room) ≡ printed v file
text_said (Ok _) file room = take-append_seam file (drop (length file) room)
text_said (Err why) file room = refl

module _ (m : Memory) (line : List ℕ) (h : Lent m) (held : head_room ≤ length line) where
  prints : (parts : List (List ℕ)) (room : List ℕ) → length (joined parts) < most_lines → max_file ≡ length room
      → end_text (foldl take_call (taken begun m line) parts) room ≡ translation_output (joined parts)
  unfolding end_text translation_output translation_after
  prints parts room few e =
      let whole = translated m line h held parts room few in
      ap (λ a. text_of a (finish_call (foldl take_call (taken begun m line) parts) room).room) whole.answer
      ∙ ap (text_of (translation (translation_verdict (joined parts) (length room)) (length (file_of (text_task (joined parts)))))) whole.room
      ∙ text_said (translation_verdict (joined parts) (length room)) (file_of (text_task (joined parts))) room
      ∙ ap (λ n. printed (translation_verdict (joined parts) n) (file_of (text_task (joined parts)))) (sym e)

  module _ (first room now : List ℕ) (end : ℕ) where
    pub answered_short : Shown (end_text (take_call (taken begun m line) first) room) now end → length first < part_room → max_file ≡ length room → Answered first now end
    unfolding joined
    answered_short s short l =
        let text : end_text (take_call (taken begun m line) first) room ≡ translation_output (first ++ []) = prints (first ∷ []) room (omega (arith, length-append first [])) l in
        record { rest = []; all = λ h. refl; shown = record { is = s.is ∙ text; within = s.within } }

    pub answered_long : ShownBehind (take_call (taken begun m line) first) room now end → part_room ≤ length first → length first ≤ part_room → max_file ≡ length room
        → Answered first now end
    unfolding joined
    answered_long s long fits l =
        let text : end_text s.after room ≡ translation_output (first ++ joined s.fed.parts) =
        ap (λ u. end_text u room) s.fed.fed ∙ prints (first ∷ s.fed.parts) room (omega (arith, s.fed.few, length-append first (joined s.fed.parts))) l in
        record { rest = joined s.fed.parts; all = λ h. absurd (omega arith); shown = record { is = s.shown.is ∙ text; within = s.shown.within } }

pub answer_within : (first now : List ℕ) (end : ℕ) → Answered first now end → end ≤ length now
answer_within first now end a = a.shown.within

pub part_of : (n : ℕ) (l : List ℕ) → n ≤ length l → n ≡ length (take n l)
part_of n l h = sym (length-take-le n l h)
