-- Bytes: held up to the end of a line, line by line, and all of a call.
-- Assumes nothing.
use Prim.Native.Nat.{ℕ, zero, suc, ◌+◌, ◌-◌, ◌≤◌, ◌<◌}
use mathlib.Core.Path.{◌≡◌, refl, sym, ap, ap₂, ◌∙◌}
use mathlib.Core.Bool.{Bool, true, false, not, ◌&&◌}
use mathlib.Core.List.{List}
use mathlib.Core.Logic.{◌≢◌}
use native.Mathlib.Omega.{arith}
use native.Mathlib.Nat.{add-zero, add-suc}
use native.Mathlib.Numerals.{add-one}
use borrow.Author.Tests.{eq-eqb, ne_eqb, le-leb, leb-true}
use lib.Dec.{eqb, leb}
use lib.ListN.{length, get_or, take, drop, set, length-drop, drop_of_length-le}
use lib.Seq.{drop-cons, get_or-drop, take_all as take_whole}
use Rattle.std.specs.Prelude.{Option, None, Some, Ok, Err}
use Rattle.std.specs.Option.{MatchOption, unwrap_or}
use Rattle.std.specs.List.{AllWithin, HoldsAt}
use Rattle.rules.specs.Text.{lf}
use Rattle.rules.specs.declared.Refusal.{Refusal}
use Rattle.rules.specs.declared.Refusal.TheVariants.{Room}
use Rattle.rules.proofs.Bools.{clash, and_left, and_right, not_true, not_false}
use Rattle.translator.specs.Intake.{Memory, head_room, Taken, taken, end_line, with_held, take_byte, take_all, SameRest, HeldUpTo, Passed, no_lf, block, half_block, quarter_block, block_passes, PassedUpTo, HeldLine, has_room, refused_for, take_call}
use Rattle.translator.specs.declared.intake.Intake.{Intake}
use Rattle.translator.proofs.InPieces.{bytes_stay, byte_ends, byte_held, byte_passed}

-- the next byte of what is left
pub next_byte : (t : Taken) (bytes : List ℕ) (n : ℕ) → n < length bytes → take_all t (drop n bytes) ≡ take_all (take_byte t (get_or bytes n 0)) (drop (n + 1) bytes)
unfolding take_all
next_byte t bytes n h = rw (add-one n, drop-cons bytes n 0 h)

-- what is left from a place on, as a lent part has it
pub left_from : (bytes : List ℕ) (at : ℕ) → take (length bytes - at) (drop at bytes) ≡ drop at bytes
left_from bytes at = take_whole (length bytes - at) (drop at bytes) (omega (arith, length-drop at bytes))

-- ---- bytes up to an LF or the end

module _ (bytes : List ℕ) (at held : ℕ) (line : List ℕ) where
  pub rest_none : SameRest bytes at held line at held line
  unfolding SameRest
  rest_none i m e = refl

  pub rest_start : SameRest bytes at held line (at + 0) (held + 0) line
  rest_start = rw (add-zero at, add-zero held) rest_none

  module _ (n h : ℕ) (l : List ℕ) (rest : SameRest bytes at held line n h l) where
    rest_on : (h' : ℕ) (l' : List ℕ) → n < length bytes
        → ((i : Intake) (m : Memory) → i.verdict ≡ Ok tt → take_byte (taken (with_held h i) m l) (get_or bytes n 0) ≡ taken (with_held h' i) m l')
        → SameRest bytes at held line (n + 1) h' l'
    unfolding SameRest
    rest_on h' l' k o i m e =
        ap (λ t. take_all t (drop (n + 1) bytes)) (sym (o i m e)) ∙ sym (next_byte (taken (with_held h i) m l) bytes n k) ∙ rest i m e

    pub rest_held : (n' h' : ℕ) → n' ≡ n + 1 → h' ≡ h + 1 → n < length bytes → (get_or bytes n 0 ≡ lf → ⊥) → h < head_room
        → SameRest bytes at held line n' h' (set l h (get_or bytes n 0))
    rest_held n' h' a b k f r = rw (a, b) (rest_on (h + 1) (set l h (get_or bytes n 0)) k (λ i m e. byte_held (taken (with_held h i) m l) (get_or bytes n 0) e f r))

    rest_passed : n < length bytes → (get_or bytes n 0 ≡ lf → ⊥) → head_room ≤ h → SameRest bytes at held line (n + 1) h l
    rest_passed k f r = rest_on h l k (λ i m e. byte_passed (taken (with_held h i) m l) (get_or bytes n 0) e f r)

    pub up_to-lf : at ≤ n → n < length bytes → get_or bytes n 0 ≡ lf → h ≤ head_room → HeldUpTo bytes at held line n h l
    up_to-lf f k e r = record { from = f; within = omega arith; ends = λ z. e; fits = r; rest = rest }

    pub up_to-passed : (n' end : ℕ) → n' ≡ n → at ≤ n → h ≡ head_room → PassedUpTo bytes n' end → HeldUpTo bytes at held line end head_room l
    unfolding SameRest Passed
    up_to-passed n' end same f full behind =
        let p : PassedUpTo bytes n end = rw same at behind in
        record {
          from = omega (arith, p.from);
          within = p.within;
          ends = p.ends;
          fits = omega arith;
          rest = λ i m e. p.rest l i m e ∙ ap (λ k. take_all (taken (with_held k i) m l) (drop n bytes)) (sym full) ∙ rest i m e;
        }

-- ---- bytes without an LF

and_true : (b : Bool) → b ≡ (b && true)
and_true true = refl
and_true false = refl

and_turned : (a b c : Bool) → (a && b && c) ≡ (a && (b && c))
and_turned true b c = refl
and_turned false b c = refl

module _ (bytes : List ℕ) (at : ℕ) where
  no_lf-more : (m n : ℕ) → no_lf bytes at (m + n) ≡ (no_lf bytes at m && no_lf bytes (at + m) n)
  unfolding no_lf
  no_lf-more m zero = rw (add-zero m) (and_true (no_lf bytes at m))
  no_lf-more m (suc n) =
      let place : at + (m + n) ≡ at + m + n = omega arith in
      rw (add-suc m n)
      (ap₂ (λ b k. b && not (eqb (get_or bytes k 0) lf)) (no_lf-more m n) place ∙ and_turned (no_lf bytes at m) (no_lf bytes (at + m) n) _)

  module _ (a b : Bool) where
    pub no_lf-half : a ≡ no_lf bytes at quarter_block → b ≡ no_lf bytes (at + quarter_block) quarter_block → (a && b) ≡ no_lf bytes at half_block
    no_lf-half e f = ap₂ ◌&&◌ e f ∙ sym (no_lf-more quarter_block quarter_block)

    pub no_lf-block : a ≡ no_lf bytes at half_block → b ≡ no_lf bytes (at + half_block) half_block → (a && b) ≡ no_lf bytes at block
    no_lf-block e f = ap₂ ◌&&◌ e f ∙ sym (no_lf-more half_block half_block)

  pub block_passes_lem : (r : Bool) → block ≤ length bytes - at → r ≡ no_lf bytes at block → r ≡ block_passes bytes at
  unfolding block_passes
  block_passes_lem r h e = e ∙ ap (λ b. b && no_lf bytes at block) (sym (le-leb (at + block) (length bytes) (omega arith)))

-- ---- bytes behind the first of a line

module _ (bytes : List ℕ) (at : ℕ) where
  pub passed_none : Passed bytes at at
  unfolding Passed
  passed_none line = rest_none bytes at head_room line

  module _ (n : ℕ) (passed : Passed bytes at n) where
    passed_byte : n < length bytes → (get_or bytes n 0 ≡ lf → ⊥) → Passed bytes at (n + 1)
    unfolding Passed
    passed_byte k f line = rest_passed bytes at head_room line n head_room line (passed line) k f (omega arith)

    pub passed_behind : at ≤ n → (end : ℕ) → PassedUpTo bytes n end → PassedUpTo bytes at end
    unfolding Passed SameRest
    passed_behind f end p =
        record { from = omega (arith, p.from); within = p.within; ends = p.ends; rest = λ line i m e. p.rest line i m e ∙ passed line i m e }

  passed_many : (n : ℕ) → Passed bytes at n → (count : ℕ) → n + count ≤ length bytes → no_lf bytes n count ≡ true → Passed bytes at (n + count)
  unfolding no_lf
  passed_many n passed zero k t = rw (add-zero n) passed
  passed_many n passed (suc c) k t =
      let others : no_lf bytes n c ≡ true = and_left (no_lf bytes n c) (not (eqb (get_or bytes (n + c) 0) lf)) t in
      let last : not (eqb (get_or bytes (n + c) 0) lf) ≡ true = and_right (no_lf bytes n c) (not (eqb (get_or bytes (n + c) 0) lf)) t in
      rw (add-suc n c, ← add-one (n + c))
      (passed_byte (n + c) (passed_many n passed c (omega arith) others) (omega arith)
      (λ e. clash (eq-eqb (get_or bytes (n + c) 0) lf e) (not_true (eqb (get_or bytes (n + c) 0) lf) last)))

  -- none of the bytes before the first LF is one
  no_lf-before : (n : ℕ) → ((k : ℕ) → k < n → get_or bytes (at + k) 0 ≢ lf) → no_lf bytes at n ≡ true
  unfolding no_lf
  no_lf-before zero f = refl
  no_lf-before (suc n) f = rw (no_lf-before n (λ k h. f k (omega arith)), ne_eqb (get_or bytes (at + n) 0) lf (f n (omega arith))) refl

  passed_before : (n : ℕ) → at + n ≤ length bytes → AllWithin (λ b. b ≢ lf) (drop at bytes) 0 n → Passed bytes at (at + n)
  passed_before n h w =
      passed_many at passed_none n h (no_lf-before n (λ k f e. w k 0 (omega arith) f (get_or-drop at bytes k 0 ∙ e)))

  pub passed_first : (n : ℕ) (r : Option ℕ) → at ≤ length bytes → n ≡ unwrap_or r (length bytes - at)
      → MatchOption r (AllWithin (λ b. b ≢ lf) (drop at bytes) 0 (length (drop at bytes)))
      (λ i. (i < length (drop at bytes)) × HoldsAt (λ b. b ≡ lf) (drop at bytes) i × AllWithin (λ b. b ≢ lf) (drop at bytes) 0 i)
      → PassedUpTo bytes at (at + n)
  passed_first n None h e all =
      let whole : AllWithin (λ b. b ≢ lf) (drop at bytes) 0 n = rw (e, ← length-drop at bytes) all in
      record { from = omega arith; within = omega (arith, e); ends = λ k. absurd (omega (arith, e)); rest = passed_before n (omega (arith, e)) whole }
  passed_first n (Some i) h e m =
      let short : i < length bytes - at = rw (length-drop at bytes) at m.0 in
      rw e
      (record {
        from = omega arith;
        within = omega arith;
        ends = λ k. sym (get_or-drop at bytes i 0) ∙ m.1 0;
        rest = passed_before i (omega arith) m.2;
      })

  module _ (n : ℕ) (r : Bool) (is : r ≡ block_passes bytes n) (t : r ≡ true) where
    pub block_within : n + block ≤ length bytes
    unfolding block_passes
    block_within = leb-true (n + block) (length bytes) (and_left (leb (n + block) (length bytes)) (no_lf bytes n block) (sym is ∙ t))

    pub block_less : length bytes - (n + block) < length bytes - n
    block_less = omega (arith, block_within)

    pub passed_block : Passed bytes at n → Passed bytes at (n + block)
    unfolding block_passes
    passed_block passed = passed_many n passed block block_within (and_right (leb (n + block) (length bytes)) (no_lf bytes n block) (sym is ∙ t))

-- ---- a line

module _ (i : Intake) (line bytes : List ℕ) (at : ℕ) where
  pub refused_holds : (why : Refusal) → i.verdict ≡ Err why → at ≤ length bytes → i.held ≤ head_room → HeldLine i line bytes at i (length bytes) line
  refused_holds why e f h =
      record {
        from = f;
        within = omega arith;
        ends = λ z. absurd (omega arith);
        fits = h;
        kept = refl;
        rest =
            λ m. bytes_stay (taken i m line) why (drop (length bytes) bytes) e ∙ sym (bytes_stay (taken i m line) why (drop at bytes) e);
      }

  pub line_holds : (end h : ℕ) (l : List ℕ) (then : Intake) → i.verdict ≡ Ok tt → HeldUpTo bytes at i.held line end h l → then ≡ with_held h i
      → HeldLine i line bytes at then end l
  unfolding SameRest
  line_holds end h l then v u e =
      record {
        from = u.from;
        within = u.within;
        ends = λ z. (u.ends z, ap (λ b. b.verdict) e ∙ v);
        fits = omega (arith, ap (λ b. b.held) e, u.fits);
        kept = ap (λ b. b.kept) e;
        rest = λ m. ap (λ b. take_all (taken b m l) (drop end bytes)) e ∙ u.rest i m v;
      }

  module _ (then : Intake) (end : ℕ) (l : List ℕ) (w : HeldLine i line bytes at then end l) (m : Memory) where
    pub further_end : take_all (taken then m l) (drop end bytes) ≡ take_all (taken i m line) (drop at bytes)
    further_end = w.rest m

    pub further_line : (r : Intake) (after : Memory) → end < length bytes → taken r after l ≡ end_line (taken then m l)
        → take_all (taken r after l) (drop (end + 1) bytes) ≡ take_all (taken i m line) (drop at bytes)
    further_line r after k d =
        ap (λ t. take_all t (drop (end + 1) bytes)) (d ∙ sym (byte_ends (taken then m l) (get_or bytes end 0) (w.ends k).1 (w.ends k).0))
        ∙ sym (next_byte (taken then m l) bytes end k)
        ∙ further_end

pub further_on : (t u whole : Taken) (bytes : List ℕ) (n k : ℕ) → take_all t (drop n bytes) ≡ take_all u (drop k bytes) → take_all u (drop k bytes) ≡ whole
    → take_all t (drop n bytes) ≡ whole
further_on t u whole bytes n k e f = e ∙ f

-- ---- the call

module _ (i : Intake) (m : Memory) (line bytes : List ℕ) (r : Bool) (room : r ≡ has_room (taken i m line)) where
  pub call_short : (s : Intake) → not r ≡ true → s ≡ refused_for (Err Room) i → taken s m line ≡ take_call (taken i m line) bytes
  unfolding take_call
  call_short s h e = rw (sym room ∙ not_true r h, e)

  pub call_done : (t : Taken) (n : ℕ) → not r ≡ false → length bytes ≤ n → take_all t (drop n bytes) ≡ take_all (taken i m line) bytes
      → t ≡ take_call (taken i m line) bytes
  unfolding take_call take_all
  call_done t n h d k = rw (drop_of_length-le bytes d) at k ∙ rw (sym room ∙ not_false r h)
