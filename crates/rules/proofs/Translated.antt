-- The translator's text, accepted: its file states exactly the task that the text states, so states, moves, goal and numbering are the same at every
-- horizon. Refused: nothing changes. To be read beside Format and Translation, which say what a text states.
-- Assumes nothing.
use Rattle.std.specs.Prelude.{Ok, Err}
use mathlib.Core.Path.{◌≡◌, refl, sym, ap, ◌∙◌}
use mathlib.Core.Logic.{◌↔◌}
use mathlib.Core.Bool.{true}
use mathlib.Core.List.{List, ◌++◌}
use Prim.Native.Nat.{ℕ, ◌≤◌}
use native.Mathlib.Omega.{arith}
use borrow.Author.Tests.{leb-true, le-leb}
use lib.ListN.{length, drop}
use Rattle.rules.specs.Counting.{every}
use Rattle.rules.specs.Limits.{max_file}
use Rattle.rules.specs.Answers.{judge}
use Rattle.rules.specs.Task.{Task, task_rules, Valid}
use Rattle.rules.specs.File.{task_of, file_of, file_verdict}
use Rattle.rules.specs.Problem.{problem}
use Rattle.rules.specs.Calls.{problem_of, room_rule}
use Rattle.rules.specs.Translation.{text_verdict, text_task, stated_verdict, translation_verdict, translation_after}
use Rattle.rules.specs.declared.Refusal.{Refusal}
use Rattle.rules.proofs.Judging.{judge_append, judge_head, judge_cons, judge_nil, in_turn-left, in_turn-right, in_turn-both}
use Rattle.rules.proofs.Valid.{valid_well_formed}
use Rattle.rules.proofs.Files.{is_byte, file_short, well_formed_accepted, file_bytes, read_back}
use Rattle.rules.proofs.Demands.{Demand2, Demand3}
use Rattle.rules.proofs.Proved.{demand2, demand3}

-- ---- the statements

-- what an accepted text becomes
pub record Translated (text room : List ℕ) : Type 0 where
  pub states_it : task_of (file_of (text_task text)) ≡ text_task text
  pub accepted : file_verdict (file_of (text_task text)) ≡ Ok tt
  pub of_bytes : every is_byte (file_of (text_task text)) ≡ true
  pub written : translation_after text room ≡ file_of (text_task text) ++ drop (length (file_of (text_task text))) room
  pub within : length (file_of (text_task text)) ≤ length room
  -- the same problem, so the same formula, models and schedules, at every horizon; demands 2 and 3 hold of them
  pub same_problem : (k : ℕ) → problem_of (file_of (text_task text)) k ≡ problem (text_task text) k
  pub formula_exact : (k : ℕ) → Demand2 (text_task text) k
  pub pairing : (k : ℕ) → Demand3 (text_task text) k

-- exactly the texts in the format whose task is valid and fits are accepted
pub record InFormat (text : List ℕ) (room : ℕ) : Type 0 where
  pub reads : text_verdict text ≡ Ok tt
  pub valid : Valid (text_task text)
  pub fits : length (file_of (text_task text)) ≤ room

-- ---- their proofs

stated_valid : (T : Task) (room : ℕ) → stated_verdict T room ≡ Ok tt → Valid T
unfolding stated_verdict
stated_valid T room h = in_turn-left _ _ (sym (judge_append (task_rules true (λ a. true) T) (room_rule (length (file_of T)) room)) ∙ h)

stated_fits : (T : Task) (room : ℕ) → stated_verdict T room ≡ Ok tt → length (file_of T) ≤ room
unfolding stated_verdict
stated_fits T room h =
    leb-true _ _
    (judge_head _ _
    (in_turn-right (judge (task_rules true (λ a. true) T)) _ (sym (judge_append (task_rules true (λ a. true) T) (room_rule (length (file_of T)) room)) ∙ h)))

fits_stated : (T : Task) (room : ℕ) → Valid T → length (file_of T) ≤ room → stated_verdict T room ≡ Ok tt
unfolding stated_verdict
fits_stated T room v l =
    judge_append (task_rules true (λ a. true) T) (room_rule (length (file_of T)) room) ∙ in_turn-both _ _ v (judge_cons _ _ (le-leb _ _ l) judge_nil)

pub accepted_exactly : (text : List ℕ) (room : ℕ) → (translation_verdict text room ≡ Ok tt) ↔ InFormat text room
unfolding translation_verdict
accepted_exactly text room = (
  (λ h.
      let stated : stated_verdict (text_task text) room ≡ Ok tt = in_turn-right (text_verdict text) _ h in
      record {
        reads = in_turn-left (text_verdict text) _ h;
        valid = stated_valid (text_task text) room stated;
        fits = stated_fits (text_task text) room stated;
      }),
  (λ f. in_turn-both (text_verdict text) _ f.reads (fits_stated (text_task text) room f.valid f.fits)),
)

pub translated : (text room : List ℕ) → translation_verdict text (length room) ≡ Ok tt → Translated text room
unfolding translation_after problem_of
translated text room h =
    let fine = (accepted_exactly text (length room)).0 h in
    let T : Task = text_task text in
    record {
      states_it = read_back T;
      accepted = well_formed_accepted T (valid_well_formed T fine.valid);
      of_bytes = file_bytes T (valid_well_formed T fine.valid);
      written = rw h refl;
      within = fine.fits;
      same_problem = λ k. ap (λ t. problem t k) (read_back T);
      formula_exact = demand2 T;
      pairing = demand3 T fine.valid;
    }

-- a refusal leaves all as found
pub refused_untouched : (text room : List ℕ) (why : Refusal) → translation_verdict text (length room) ≡ Err why → translation_after text room ≡ room
unfolding translation_after
refused_untouched text room why h = rw h refl

-- in the room of the longest file no text is refused for room
pub room_enough : (text : List ℕ) (room : ℕ) → max_file ≤ room → text_verdict text ≡ Ok tt → Valid (text_task text) → translation_verdict text room ≡ Ok tt
room_enough text room l r v =
    (accepted_exactly text room).1 (record { reads = r; valid = v; fits = omega (arith, file_short (text_task text) (valid_well_formed (text_task text) v)) })
