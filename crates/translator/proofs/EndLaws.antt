-- The end of a text: its last line, the verdict, and the file.
-- Assumes nothing.
use Rattle.std.specs.Prelude.{Ok, Err}
use Prim.Native.Nat.{ℕ, ◌*◌, ◌≤◌}
use mathlib.Core.Path.{◌≡◌, sym, ap, ◌∙◌}
use mathlib.Core.Bool.{true}
use mathlib.Core.List.{List, []}
use native.Mathlib.Omega.{arith}
use borrow.Author.Tests.{leb-true}
use lib.Dec.{leb}
use lib.ListN.{length, take}
use lib.Seq.{length-take-le}
use Rattle.rules.specs.Limits.{pair_bytes, max_file}
use Rattle.rules.specs.Answers.{judge, demand, in_turn, Verdict}
use Rattle.rules.specs.Calls.{room_rule, lent_after}
use Rattle.rules.specs.Format.{shape_of}
use Rattle.rules.specs.Translation.{is_end}
use Rattle.rules.specs.declared.Refusal.TheVariants.{Room, BodyLength, ActionAtFault}
use Rattle.rules.specs.declared.FormatLine.{FormatLine}
use Rattle.rules.specs.declared.FormatLine.TheVariants.{EndOfText}
use Rattle.rules.proofs.Judging.{judge_head, in_turn-right, refused_not}
use Rattle.digits.specs.Over.{over}
use Rattle.writer.specs.Laid.{file_length, laid_out}
use Rattle.writer.proofs.Laying.{laid_length, written_front}
use Rattle.bodies.specs.declared.Kept.{Kept}
use Rattle.bodies.specs.declared.Excess.{Excess}
use Rattle.bodies.specs.declared.Excess.TheVariants.{Within, Lengths, Actions}
use Rattle.bodies.specs.Keeping.{Sound}
use Rattle.translator.specs.Intake.{Memory, memory, kept_of, Lent, rules_kept, file_kept, verdict_kept, stops_early, verdict_at_end}
use Rattle.translator.specs.declared.intake.Intake.{Intake}

-- ---- a text that stops early

pub end_line_lem : (due : FormatLine) → due ≡ EndOfText → true ≡ is_end (shape_of due)
end_line_lem due e = rw e

-- ---- what is kept

module _ (k : Kept) (s : Sound k) (sizes start goal actions : List ℕ) (l : Lent (memory sizes start goal actions)) where
  pub sizes_part : k.sizes ≡ length (take k.sizes sizes)
  sizes_part = sym (length-take-le k.sizes sizes (omega (arith, s.sizes, l.sizes)))

  pub start_part : k.starts ≡ length (take k.starts start)
  start_part = sym (length-take-le k.starts start (omega (arith, s.starts, l.start)))

  pub goal_part : pair_bytes * k.goals ≡ length (take (pair_bytes * k.goals) goal)
  goal_part = sym (length-take-le (pair_bytes * k.goals) goal (omega (arith, s.goals, l.goal)))

  pub actions_part : k.bytes ≡ length (take k.bytes actions)
  actions_part = sym (length-take-le k.bytes actions (omega (arith, s.bytes, s.actions, l.actions)))

  pub file_length_lem : length (file_kept k (memory sizes start goal actions)) ≡ file_length k.sizes k.starts (pair_bytes * k.goals) k.bytes
  unfolding file_kept
  file_length_lem =
      omega (
        arith,
        laid_length (take k.sizes sizes) (take k.starts start) (take (pair_bytes * k.goals) goal) (take k.bytes actions),
        sizes_part,
        start_part,
        goal_part,
        actions_part,
      )

-- ---- the verdict

module _ (k : Kept) (m : Memory) (room : ℕ) where
  pub verdict_lengths : k.excess ≡ Lengths → Err BodyLength ≡ verdict_kept k.excess k m room
  verdict_lengths e = ap (λ x. verdict_kept x k m room) (sym e)

  pub verdict_actions : (r v : Verdict) → k.excess ≡ Actions → v ≡ rules_kept k m → r ≡ in_turn v (Err (ActionAtFault k.actions))
      → r ≡ verdict_kept k.excess k m room
  verdict_actions r v e f h =
      h ∙ ap (λ v. in_turn v (Err (ActionAtFault k.actions))) f ∙ ap (λ x. verdict_kept x k m room) (sym e)

pub verdict_within : (k : Kept) (sizes start goal actions : List ℕ) (room : ℕ) (r v w : Verdict) (needed : ℕ)
    → Sound k → Lent (memory sizes start goal actions) → k.excess ≡ Within → v ≡ rules_kept k (memory sizes start goal actions)
    → needed ≡ file_length k.sizes k.starts (pair_bytes * k.goals) k.bytes → w ≡ judge (room_rule needed room) → r ≡ in_turn v w
    → r ≡ verdict_kept k.excess k (memory sizes start goal actions) room
verdict_within k sizes start goal actions room r v w needed s l e f n g h =
    h
    ∙ ap (λ v. in_turn v w) f
    ∙ ap (in_turn (rules_kept k (memory sizes start goal actions))) (g ∙ ap (λ n. judge (room_rule n room)) (n ∙ sym (file_length_lem k s sizes start goal actions l)))
    ∙ ap (λ x. verdict_kept x k (memory sizes start goal actions) room) (sym e)

-- ---- the file

room_holds : (needed room : ℕ) → judge (room_rule needed room) ≡ Ok tt → needed ≤ room
room_holds needed room h = leb-true needed room (judge_head (demand (leb needed room) Room) [] h)

kept_holds : (x : Excess) (k : Kept) (m : Memory) (room : ℕ) → verdict_kept x k m room ≡ Ok tt → length (file_kept k m) ≤ room
kept_holds Within k m room h = room_holds (length (file_kept k m)) room (in_turn-right (rules_kept k m) (judge (room_rule (length (file_kept k m)) room)) h)
kept_holds Lengths k m room h = refused_not h
kept_holds Actions k m room h = refused_not (in_turn-right (rules_kept k m) (Err (ActionAtFault k.actions)) h)

pub file_holds : (i : Intake) (m : Memory) (room : ℕ) (v : Verdict) → v ≡ verdict_at_end i m room → v ≡ Ok tt → length (file_kept i.kept m) ≤ room
unfolding verdict_at_end
file_holds i m room v e a =
    kept_holds i.kept.excess i.kept m room
    (in_turn-right (stops_early i.position i.lines) _ (in_turn-right i.verdict _ (sym e ∙ a)))

module _ (k : Kept) (sizes start goal actions : List ℕ) (b : Memory) (e : b ≡ kept_of k (memory sizes start goal actions)) where
  pub file_within : Sound k → Lent (memory sizes start goal actions) → file_length (length b.sizes) (length b.start) (length b.goal) (length b.actions) ≤ max_file
  file_within s l =
      rw e
      (omega (
        arith,
        sizes_part k s sizes start goal actions l,
        start_part k s sizes start goal actions l,
        goal_part k s sizes start goal actions l,
        actions_part k s sizes start goal actions l,
        s.sizes,
        s.starts,
        s.goals,
        s.actions,
        s.bytes,
      ))

  pub file_room : (room : ℕ) → length (file_kept k (memory sizes start goal actions)) ≤ room
      → file_length (length b.sizes) (length b.start) (length b.goal) (length b.actions) ≤ room
  unfolding file_kept
  file_room room h =
      rw e (omega (arith, h, laid_length (take k.sizes sizes) (take k.starts start) (take (pair_bytes * k.goals) goal) (take k.bytes actions)))

  pub file_long : (end : ℕ) → end ≡ length (laid_out b.sizes b.start b.goal b.actions) → end ≡ length (file_kept k (memory sizes start goal actions))
  unfolding file_kept
  file_long end f = f ∙ ap (λ b. length (laid_out b.sizes b.start b.goal b.actions)) e

  pub file_left : (room after : List ℕ) → after ≡ over room 0 (laid_out b.sizes b.start b.goal b.actions)
      → after ≡ lent_after (Ok tt) (file_kept k (memory sizes start goal actions)) room
  unfolding file_kept
  file_left room after f = f ∙ ap (λ b. over room 0 (laid_out b.sizes b.start b.goal b.actions)) e ∙ written_front room _
