-- The trial of a line comes to the rules' own scan of it: where it goes through, both rows are those that store what the line names, and where
-- it stops, the scan refuses for the same reason, and clearing the numbers before the stop gives back the row as it was.
-- Assumes nothing.
use mathlib.Core.Path.{◌≡◌, refl, sym, ap, ◌∙◌}
use mathlib.Core.Logic.{⊎_elim}
use mathlib.Core.Bool.{Bool, true, false, cond, not, ◌&&◌, ◌||◌, or_assoc, or-false}
use mathlib.Core.List.{List, [], ◌∷◌, ◌++◌, tail, foldl-append}
use Prim.Native.Char.{code}
use Prim.Native.Nat.{ℕ, suc, ◌+◌, ◌-◌, ◌/◌, ◌≤◌, ◌<◌}
use Rattle.std.specs.Prelude.{Result, Ok, Err}
use native.Mathlib.Omega.{arith}
use borrow.Author.Tests.{eq-eqb, ne_eqb, eqb-true, eqb-false, leb-true}
use lib.Dec.{eqb, leb, ltb}
use lib.ListN.{length, drop, length-drop}
use Rattle.rules.specs.Counting.{first, any}
use Rattle.rules.specs.Answers.{judge, Verdict}
use Rattle.rules.specs.File.{byte}
use Rattle.rules.specs.Text.{space}
use Rattle.rules.specs.Families.{Literal}
use Rattle.rules.specs.Rows.{word_bits, words_for, bit_of_variable, with_variable, Rows, store, store_all}
use Rattle.rules.specs.Lines.{onto, pieces, reach, is_number, is_negative, variable_of, literal_of, names, Scan, word_rules, scan_word, scan_piece, go_on, scan_pieces, scan_start, scan_line}
use Rattle.rules.specs.declared.Refusal.{Refusal}
use Rattle.rules.proofs.Bools.{either, or_right, or_cases, not_true}
use Rattle.rules.proofs.Judging.{judge_head, judge_tail}
use Rattle.rows.proofs.Bits.{length-with, bit_written, bit_kept, with_restored, with_order}
use Rattle.lent_bytes.specs.Words.{pieces_behind}
use Rattle.output.specs.Trial.{stop_of, written, piece_scan, trial_leaves, trial, first_gap, number_pieces, rewritten}
use Rattle.output.specs.declared.numbers.Stopped.{Stopped}
use Rattle.output.proofs.WordLaws.{there}
use Rattle.output.proofs.TrialLaws.{written_none, written_one, rewritten_next, rewritten_all}

or_none : (a b : Bool) → (a || b) ≡ false → a ≡ false
or_none true b h = h
or_none false b h = refl

-- ---- marks in a row

-- a marked variable shows beside those that showed before
bit_marked : (row : List ℕ) (v u : ℕ) → 0 < v → 0 < u → (v - 1) / word_bits < length row
    → bit_of_variable (with_variable row v true) u ≡ (bit_of_variable row u || eqb v u)
bit_marked row v u hv hu l =
    ⊎_elim
    (λ t.
    let e : v ≡ u = eqb-true v u t in
    ap (bit_of_variable (with_variable row v true)) (sym e) ∙ bit_written row v true l ∙ sym (or_right (bit_of_variable row u) (eqb v u) t))
    (λ t.
    bit_kept row u v true (λ e. eqb-false v u t (omega arith))
    ∙ sym (or-false (bit_of_variable row u))
    ∙ ap (λ b. bit_of_variable row u || b) (sym t))
    (either (eqb v u))

names_literal : (u : ℕ) (p : List ℕ) → names u (literal_of p) ≡ eqb (variable_of p) u
unfolding literal_of
names_literal u p = ⊎_elim (λ t. rw t refl) (λ t. rw t refl) (either (is_negative p))

any_snoc : {X : Type 0} (q : X → Bool) (l : List X) (x : X) → any q (l ++ (x ∷ [])) ≡ (any q l || q x)
unfolding any
any_snoc q [] x = or-false (q x)
any_snoc q (y ∷ l) x = ap (λ b. q y || b) (any_snoc q l x) ∙ sym (or_assoc (q y) (any q l) (q x))

-- ---- a word that the rules let pass

module _ (highest : ℕ) (row : List ℕ) (scan : Scan) (p : List ℕ) (ok : judge (word_rules highest row scan p) ≡ Ok tt) where
  passed_number : is_number p ≡ true
  unfolding word_rules
  passed_number = judge_head _ _ ok

  passed_small : variable_of p ≤ highest
  unfolding word_rules
  passed_small = leb-true _ _ (judge_head _ _ (judge_tail _ _ (judge_tail _ _ ok)))

  passed_new : eqb (variable_of p) 0 || not (bit_of_variable row (variable_of p) || any (names (variable_of p)) scan.named) ≡ true
  unfolding word_rules
  passed_new = judge_head _ _ (judge_tail _ _ (judge_tail _ _ (judge_tail _ _ ok)))

-- ---- what a line names, stored

store_given : (rows : Rows) (p : List ℕ) → (store rows (literal_of p)).given ≡ with_variable rows.given (variable_of p) true
unfolding store literal_of
store_given rows p = ⊎_elim (λ t. rw t refl) (λ t. rw t refl) (either (is_negative p))

store_true : (rows : Rows) (p : List ℕ) → (store rows (literal_of p)).is_true ≡ with_variable rows.is_true (variable_of p) (not (is_negative p))
unfolding store literal_of
store_true rows p = ⊎_elim (λ t. rw t refl) (λ t. rw t refl) (either (is_negative p))

store_last : (rows : Rows) (ls : List Literal) (l : Literal) → store (store_all rows ls) l ≡ store_all rows (ls ++ (l ∷ []))
unfolding store_all
store_last rows ls l = sym (foldl-append store rows ls (l ∷ []))

-- ---- the pieces of a line take up its bytes, each with the separator before it

total : List (List ℕ) → ℕ
total [] = 0
total (p ∷ ps) = suc (length p) + total ps

total_onto : (b : ℕ) (ps : List (List ℕ)) → 0 < total ps → total (onto b ps) ≡ suc (total ps)
unfolding total
total_onto b [] h = absurd (omega arith)
total_onto b (p ∷ ps) h = omega arith

total_pieces : (separator : ℕ) (s : List ℕ) → total (pieces separator s) ≡ suc (length s)
unfolding pieces total
total_pieces separator [] = refl
total_pieces separator (b ∷ s) =
    let rest : total (pieces separator s) ≡ suc (length s) = total_pieces separator s in
    ⊎_elim (λ t. rw t (omega arith)) (λ t. rw t (total_onto b (pieces separator s) (omega arith) ∙ ap suc rest)) (either (eqb b separator))

total_behind : (separator : ℕ) (s : List ℕ) → total (pieces_behind separator s) ≡ length s
unfolding pieces_behind total
total_behind separator [] = refl
total_behind separator (b ∷ s) = total_pieces separator s

-- ---- the scan, piece by piece

stays : (judged : Verdict) (next scan : Scan) (why : Refusal) → judged ≡ Err why → go_on judged next scan ≡ scan
stays judged next scan why e = rw e

scan_next : (highest : ℕ) (row : List ℕ) (scan : Scan) (p : List ℕ) (ps : List (List ℕ)) → scan.verdict ≡ Ok tt
    → scan_pieces highest row scan (p ∷ ps) ≡ scan_pieces highest row (scan_piece highest row scan p) ps
unfolding scan_pieces
scan_next highest row scan p ps e = rw e

scan_stays : (highest : ℕ) (row : List ℕ) (scan : Scan) (why : Refusal) (ps : List (List ℕ)) → scan.verdict ≡ Err why
    → scan_pieces highest row scan ps ≡ scan
unfolding scan_pieces
scan_stays highest row scan why [] e = refl
scan_stays highest row scan why (p ∷ ps) e =
    ap (λ s. scan_pieces highest row s ps) (stays scan.verdict (scan_piece highest row scan p) scan why e) ∙ scan_stays highest row scan why ps e

-- ---- the trial, piece by piece

trial_empty : (highest : ℕ) (row : List ℕ) (gap : ℕ) (closed : Bool) (ps : List (List ℕ))
    → trial highest row gap closed ([] ∷ ps) ≡ trial highest row (gap + 1) closed ps
unfolding trial piece_scan scan_piece written is_number reach first
trial_empty highest row gap closed ps = refl

rewritten_empty : (signs : Bool) (stop : ℕ) (row : List ℕ) (gap : ℕ) (ps : List (List ℕ))
    → rewritten signs stop row gap ([] ∷ ps) ≡ rewritten signs stop row (gap + 1) ps
unfolding rewritten written is_number reach first
rewritten_empty signs stop row gap ps = ⊎_elim (λ t. rw t refl) (λ t. rw t refl) (either (ltb gap stop))

module _ (highest : ℕ) (row : List ℕ) (gap : ℕ) (closed : Bool) (b : ℕ) (w : List ℕ) (ps : List (List ℕ)) where
  abbrev trial_verdict : Verdict
  trial_verdict = judge (word_rules highest row (record { verdict = Ok tt; at = suc gap; closed = closed; named = [] }) (b ∷ w))

  trial_word_refused : (why : Refusal) → trial_verdict ≡ Err why → trial highest row gap closed ((b ∷ w) ∷ ps) ≡ trial_leaves (Err (record { why = why; gap = gap })) row
  unfolding trial piece_scan scan_piece scan_word
  trial_word_refused why e = rw e

  trial_word_passed : trial_verdict ≡ Ok tt
      → trial highest row gap closed ((b ∷ w) ∷ ps)
      ≡ trial highest (written true row (b ∷ w)) (gap + suc (length (b ∷ w))) (closed || eqb (variable_of (b ∷ w)) 0) ps
  unfolding trial piece_scan scan_piece scan_word
  trial_word_passed e = rw e

-- ---- trial and scan agree

module _ (highest : ℕ) (rows₀ : Rows) (fit : words_for highest ≤ length rows₀.given) where
  -- where both have come: the scan has named what the rows have stored
  record Ready (scan : Scan) (rows : Rows) (gap : ℕ) : Type 0 where
    so_far : scan.verdict ≡ Ok tt
    place : scan.at ≡ suc gap
    stored : rows ≡ store_all rows₀ scan.named
    long : length rows.given ≡ length rows₀.given
    bits : (v : ℕ) → 0 < v → (v - 1) / word_bits < length rows.given
        → bit_of_variable rows.given v ≡ (bit_of_variable rows₀.given v || any (names v) scan.named)

  in_row : (rows : Rows) (v : ℕ) → length rows.given ≡ length rows₀.given → 0 < v → v ≤ highest → (v - 1) / word_bits < length rows.given
  in_row rows v l z h = omega arith

  same_new : (scan : Scan) (rows : Rows) (gap v : ℕ) → Ready scan rows gap → v ≤ highest
      → (eqb v 0 || not (bit_of_variable rows₀.given v || any (names v) scan.named)) ≡ (eqb v 0 || not (bit_of_variable rows.given v || false))
  same_new scan rows gap v r h =
      ⊎_elim (λ t. rw t refl)
      (λ t.
      let z : v ≡ 0 → ⊥ = eqb-false v 0 t in
      ap (λ b. eqb v 0 || not b) (sym (or-false (bit_of_variable rows.given v) ∙ r.bits v (omega (arith, z)) (in_row rows v r.long (omega (arith, z)) h))))
      (either (eqb v 0))

  -- the marks say what the rules ask of the rows as they were and of what was named since
  same_verdict : (scan : Scan) (rows : Rows) (gap : ℕ) (p : List ℕ) → Ready scan rows gap
      → judge (word_rules highest rows₀.given scan p)
      ≡ judge (word_rules highest rows.given (record { verdict = Ok tt; at = suc gap; closed = scan.closed; named = [] }) p)
  unfolding word_rules judge any
  same_verdict scan rows gap p r =
      ⊎_elim (λ t. rw (same_new scan rows gap (variable_of p) r (leb-true (variable_of p) highest t), r.place))
      (λ t. rw t (rw r.place))
      (either (leb (variable_of p) highest))

  -- how the trial and the scan of what is left end
  abbrev pub Agree : Result Bool Stopped → (given is_true : List ℕ) → Scan → Type 0
  Agree (Ok c) given is_true s =
      (s.verdict ≡ Ok tt) × (s.closed ≡ c) × (◌≡◌ {A = Rows} (record { given = given; is_true = is_true }) (store_all rows₀ s.named))
  Agree (Err stopped) given is_true s = s.verdict ≡ Err stopped.why

  -- what comes after an empty piece, after the closing 0, and after a variable
  ready_empty : (scan : Scan) (rows : Rows) (gap : ℕ) → Ready scan rows gap → Ready (scan_piece highest rows₀.given scan []) rows (gap + 1)
  unfolding scan_piece
  ready_empty scan rows gap r = record { so_far = r.so_far; place = omega (arith, r.place); stored = r.stored; long = r.long; bits = r.bits }

  module _ (scan : Scan) (rows : Rows) (gap : ℕ) (p : List ℕ) (r : Ready scan rows gap)
      (ok : judge (word_rules highest rows₀.given scan p) ≡ Ok tt) where
    ready_zero : variable_of p ≡ 0 → Ready (scan_word highest rows₀.given scan p) rows (gap + suc (length p))
    unfolding scan_word
    ready_zero z =
        record {
          so_far = ok;
          place = omega (arith, r.place);
          stored = rw (eq-eqb (variable_of p) 0 z) r.stored;
          long = r.long;
          bits = rw (eq-eqb (variable_of p) 0 z) r.bits;
        }

    ready_one : (variable_of p ≡ 0 → ⊥) → Ready (scan_word highest rows₀.given scan p) (store rows (literal_of p)) (gap + suc (length p))
    unfolding scan_word
    ready_one z =
        record {
          so_far = ok;
          place = omega (arith, r.place);
          stored = rw (ne_eqb (variable_of p) 0 z) (ap (λ s. store s (literal_of p)) r.stored ∙ store_last rows₀ scan.named (literal_of p));
          long = ap length (store_given rows p) ∙ length-with rows.given (variable_of p) true ∙ r.long;
          bits =
              λ u hu l.
              rw (ne_eqb (variable_of p) 0 z)
              (ap (λ row. bit_of_variable row u) (store_given rows p)
              ∙ bit_marked rows.given (variable_of p) u (omega (arith, z)) hu
              (in_row rows (variable_of p) r.long (omega (arith, z)) (passed_small highest rows₀.given scan p ok))
              ∙ ap (λ b. b || eqb (variable_of p) u) (r.bits u hu (omega (arith, ap length (store_given rows p), length-with rows.given (variable_of p) true)))
              ∙ or_assoc (bit_of_variable rows₀.given u) (any (names u) scan.named) (eqb (variable_of p) u)
              ∙ ap (λ b. bit_of_variable rows₀.given u || b)
              (ap (λ b. any (names u) scan.named || b) (sym (names_literal u p)) ∙ sym (any_snoc (names u) scan.named (literal_of p))));
        }

  abbrev Agreed : (stop : ℕ) → List (List ℕ) → Scan → Rows → ℕ → Type 0
  Agreed stop ps scan rows gap =
      Agree (trial highest rows.given gap scan.closed ps).answer (trial highest rows.given gap scan.closed ps).row
      (rewritten true stop rows.is_true gap ps) (scan_pieces highest rows₀.given scan ps)

  abbrev Agreement : (stop : ℕ) → List (List ℕ) → Type 0
  Agreement stop ps = (scan : Scan) (rows : Rows) (gap : ℕ) → Ready scan rows gap → gap + total ps ≤ stop → Agreed stop ps scan rows gap

  agree_none : (stop : ℕ) → Agreement stop []
  unfolding trial rewritten scan_pieces
  agree_none stop scan rows gap r h = (r.so_far, refl, r.stored)

  agree_empty : (stop : ℕ) (ps : List (List ℕ)) → Agreement stop ps → Agreement stop ([] ∷ ps)
  unfolding total scan_piece
  agree_empty stop ps rest scan rows gap r h =
      rw (trial_empty highest rows.given gap scan.closed ps, rewritten_empty true stop rows.is_true gap ps, scan_next highest rows₀.given scan [] ps r.so_far)
      (rest (scan_piece highest rows₀.given scan []) rows (gap + 1) (ready_empty scan rows gap r) (omega arith))

  module _ (stop b : ℕ) (w : List ℕ) (ps : List (List ℕ)) (rest : Agreement stop ps) (scan : Scan) (rows : Rows) (gap : ℕ) (r : Ready scan rows gap)
      (h : gap + total ((b ∷ w) ∷ ps) ≤ stop) where
    agree_refused : (why : Refusal) → judge (word_rules highest rows₀.given scan (b ∷ w)) ≡ Err why → Agreed stop ((b ∷ w) ∷ ps) scan rows gap
    unfolding scan_piece scan_word
    agree_refused why e =
        rw (trial_word_refused highest rows.given gap scan.closed b w ps why (sym (same_verdict scan rows gap (b ∷ w) r) ∙ e))
        (ap (λ s. s.verdict)
        (scan_next highest rows₀.given scan (b ∷ w) ps r.so_far ∙ scan_stays highest rows₀.given (scan_piece highest rows₀.given scan (b ∷ w)) why ps e)
        ∙ e)

    agree_passed : judge (word_rules highest rows₀.given scan (b ∷ w)) ≡ Ok tt → Agreed stop ((b ∷ w) ∷ ps) scan rows gap
    unfolding total scan_piece scan_word
    agree_passed e =
        let p : List ℕ = b ∷ w in
        let a : is_number p ≡ true = passed_number highest rows₀.given scan p e in
        rw (
          trial_word_passed highest rows.given gap scan.closed b w ps (sym (same_verdict scan rows gap (b ∷ w) r) ∙ e),
          rewritten_next true stop rows.is_true gap (b ∷ w) ps (omega arith),
          scan_next highest rows₀.given scan (b ∷ w) ps r.so_far,
        )
        (⊎_elim
        (λ t.
        let z : variable_of p ≡ 0 = eqb-true (variable_of p) 0 t in
        rw (written_none true rows.given p z, written_none (not (is_negative p)) rows.is_true p z)
        (rest (scan_piece highest rows₀.given scan p) rows (gap + suc (length p)) (ready_zero scan rows gap p r e z) (omega arith)))
        (λ t.
        let z : variable_of p ≡ 0 → ⊥ = eqb-false (variable_of p) 0 t in
        rw (
          written_one true rows.given p a z ∙ sym (store_given rows p),
          written_one (not (is_negative p)) rows.is_true p a z ∙ sym (store_true rows p),
        )
        (rest (scan_piece highest rows₀.given scan p) (store rows (literal_of p)) (gap + suc (length p)) (ready_one scan rows gap p r e z) (omega arith)))
        (either (eqb (variable_of p) 0)))

    agree_word : (judged : Verdict) → judge (word_rules highest rows₀.given scan (b ∷ w)) ≡ judged → Agreed stop ((b ∷ w) ∷ ps) scan rows gap
    agree_word (Ok _) e = agree_passed e
    agree_word (Err why) e = agree_refused why e

  agree : (stop : ℕ) (ps : List (List ℕ)) → Agreement stop ps
  agree stop [] = agree_none stop
  agree stop ([] ∷ ps) = agree_empty stop ps (agree stop ps)
  agree stop ((b ∷ w) ∷ ps) = λ scan rows gap r h. agree_word stop b w ps (agree stop ps) scan rows gap r h _ refl

-- ---- a stopped trial is taken back

-- bits are cleared in either order
clears_order : (row : List ℕ) (u v : ℕ) → with_variable (with_variable row u false) v false ≡ with_variable (with_variable row v false) u false
unfolding with_variable
clears_order row u v =
    ⊎_elim (λ t. rw (eqb-true (u - 1) (v - 1) t)) (λ t. with_order row u v false false (eqb-false (u - 1) (v - 1) t)) (either (eqb (u - 1) (v - 1)))

clear_order : (row p q : List ℕ) → written false (written false row p) q ≡ written false (written false row q) p
unfolding written
clear_order row p q = each (is_number p && not (eqb (variable_of p) 0)) (is_number q && not (eqb (variable_of q) 0))
  where
    each : (a b : Bool) → cond b (with_variable (cond a (with_variable row (variable_of p) false) row) (variable_of q) false) (cond a (with_variable row (variable_of p) false) row)
        ≡ cond a (with_variable (cond b (with_variable row (variable_of q) false) row) (variable_of p) false) (cond b (with_variable row (variable_of q) false) row)
    each true true = clears_order row (variable_of p) (variable_of q)
    each true false = refl
    each false true = refl
    each false false = refl

clear_last : (stop : ℕ) (row : List ℕ) (gap : ℕ) (p : List ℕ) (ps : List (List ℕ))
    → rewritten false stop (written false row p) gap ps ≡ written false (rewritten false stop row gap ps) p
unfolding rewritten
clear_last stop row gap p [] = refl
clear_last stop row gap p (q ∷ ps) =
    ⊎_elim
    (λ t. rw t (ap (λ r. rewritten false stop r (gap + suc (length q)) ps) (clear_order row p q) ∙ clear_last stop (written false row q) (gap + suc (length q)) p ps))
    (λ t. rw t (clear_last stop row (gap + suc (length q)) p ps))
    (either (ltb gap stop))

-- a word that passed had its bit 0
clear_marked : (highest : ℕ) (row : List ℕ) (scan : Scan) (p : List ℕ) → judge (word_rules highest row scan p) ≡ Ok tt
    → written false (written true row p) p ≡ row
clear_marked highest row scan p ok =
    let a : is_number p ≡ true = passed_number highest row scan p ok in
    let v : ℕ = variable_of p in
    ⊎_elim
    (λ t. written_none false (written true row p) p (eqb-true v 0 t) ∙ written_none true row p (eqb-true v 0 t))
    (λ t.
    written_one false (written true row p) p a (eqb-false v 0 t)
    ∙ ap (λ r. with_variable r v false) (written_one true row p a (eqb-false v 0 t))
    ∙ with_restored row v false true
    (or_none _ (any (names v) scan.named) (not_true _ (rw t at (passed_new highest row scan p ok)))))
    (either (eqb v 0))

-- how a trial left the row, and that it stopped behind where it began
abbrev Back : (highest : ℕ) → List ℕ → ℕ → Bool → List (List ℕ) → Type 0
Back highest row gap closed ps =
    (stopped : Stopped) → (trial highest row gap closed ps).answer ≡ Err stopped
    → (gap ≤ stopped.gap) × (rewritten false stopped.gap (trial highest row gap closed ps).row gap ps ≡ row)

back_none : (highest : ℕ) (row : List ℕ) (gap : ℕ) (closed : Bool) → Back highest row gap closed []
unfolding trial
back_none highest row gap closed stopped e =
    let f : ◌≡◌ {A = Result Bool Stopped} (Ok closed) (Err stopped) = e in let z : ◌≡◌ {A = ℕ} 0 1 = cc in absurd (omega arith)

back_empty : (highest : ℕ) (row : List ℕ) (gap : ℕ) (closed : Bool) (ps : List (List ℕ)) → Back highest row (gap + 1) closed ps → Back highest row gap closed ([] ∷ ps)
back_empty highest row gap closed ps rest =
    rw (trial_empty highest row gap closed ps) (λ stopped e.
    (omega (arith, (rest stopped e).0), rewritten_empty false stopped.gap (trial highest row (gap + 1) closed ps).row gap ps ∙ (rest stopped e).1))

back_word : (highest : ℕ) (row : List ℕ) (gap : ℕ) (closed : Bool) (b : ℕ) (w : List ℕ) (ps : List (List ℕ))
    → Back highest (written true row (b ∷ w)) (gap + suc (length (b ∷ w))) (closed || eqb (variable_of (b ∷ w)) 0) ps
    → (judged : Verdict) → judge (word_rules highest row (record { verdict = Ok tt; at = suc gap; closed = closed; named = [] }) (b ∷ w)) ≡ judged
    → Back highest row gap closed ((b ∷ w) ∷ ps)
back_word highest row gap closed b w ps rest (Ok _) ok =
    rw (trial_word_passed highest row gap closed b w ps ok) (λ stopped e.
    let p : List ℕ = b ∷ w in
    let end : List ℕ = (trial highest (written true row p) (gap + suc (length p)) (closed || eqb (variable_of p) 0) ps).row in
    let behind : gap + suc (length p) ≤ stopped.gap = (rest stopped e).0 in (
      omega arith,
      rewritten_next false stopped.gap end gap p ps (omega arith)
          ∙ clear_last stopped.gap end (gap + suc (length p)) p ps
          ∙ ap (λ r. written false r p) (rest stopped e).1
          ∙ clear_marked highest row _ p ok,
    ))
back_word highest row gap closed b w ps rest (Err y) ok =
    rw (trial_word_refused highest row gap closed b w ps y ok) (λ stopped e.
    let here : gap ≡ stopped.gap = (let f : ◌≡◌ {A = Result Bool Stopped} (Err (record { why = y; gap = gap })) (Err stopped) = e in ap stop_of f) in
    (omega arith, rewritten_all false stopped.gap row gap ((b ∷ w) ∷ ps) (omega arith)))

back : (highest : ℕ) (row : List ℕ) (gap : ℕ) (closed : Bool) (ps : List (List ℕ)) → Back highest row gap closed ps
back highest row gap closed [] = back_none highest row gap closed
back highest row gap closed ([] ∷ ps) = back_empty highest row gap closed ps (back highest row (gap + 1) closed ps)
back highest row gap closed ((b ∷ w) ∷ ps) =
    back_word highest row gap closed b w ps
    (back highest (written true row (b ∷ w)) (gap + suc (length (b ∷ w))) (closed || eqb (variable_of (b ∷ w)) 0) ps) _ refl

-- ---- a whole line of numbers

tail_pieces : (line : List ℕ) → byte line 0 ≡ code "v" → (eqb (length line) 1 || eqb (byte line 1) space) ≡ true → tail (pieces space line) ≡ number_pieces line
unfolding pieces pieces_behind number_pieces
tail_pieces [] e h = absurd (omega arith)
tail_pieces (b ∷ []) e h = rw e refl
tail_pieces (b ∷ (d ∷ s)) e h =
    ⊎_elim (λ t. absurd (omega (arith, eqb-true (length (b ∷ (d ∷ s))) 1 t))) (λ t. rw (e, eqb-true d space t) refl)
    (or_cases (eqb (length (b ∷ (d ∷ s))) 1) (eqb d space) h)

module _ (highest : ℕ) (rows : Rows) (line : List ℕ) (fit : words_for highest ≤ length rows.given)
    (v : byte line 0 ≡ code "v") (alone : (eqb (length line) 1 || eqb (byte line 1) space) ≡ true) where
  total_line : first_gap + total (number_pieces line) ≡ length line
  unfolding number_pieces
  total_line =
      omega (arith, total_behind space (drop 1 line), length-drop 1 line, there line 0 117 v)

  pub line_agrees : Agree highest rows fit
      (trial highest rows.given first_gap false (number_pieces line)).answer (trial highest rows.given first_gap false (number_pieces line)).row
      (rewritten true (length line) rows.is_true first_gap (number_pieces line)) (scan_line highest rows.given line)
  unfolding scan_line store_all any
  line_agrees =
      rw (tail_pieces line v alone)
      (agree highest rows fit (length line) (number_pieces line) scan_start rows first_gap
      (record { so_far = refl; place = refl; stored = refl; long = refl; bits = λ u h l. sym (or-false (bit_of_variable rows.given u)) })
      (omega (arith, total_line)))

  pub line_back : (stopped : Stopped) → (trial highest rows.given first_gap false (number_pieces line)).answer ≡ Err stopped
      → rewritten false stopped.gap (trial highest rows.given first_gap false (number_pieces line)).row first_gap (number_pieces line) ≡ rows.given
  line_back stopped e = (back highest rows.given first_gap false (number_pieces line) stopped e).1
