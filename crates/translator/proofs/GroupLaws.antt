-- The facts of a mutex group: each that ends is one less, and a reading goes on behind those that were read.
-- Assumes nothing.
use Rattle.std.specs.Prelude.{Ok}
use Prim.Native.Nat.{ℕ, ◌+◌, ◌-◌, ◌≤◌, ◌<◌}
use mathlib.Core.Path.{◌≡◌, refl, sym, ap, ap₂, ◌∙◌}
use mathlib.Core.Bool.{Bool, true, false, not, ◌&&◌}
use mathlib.Core.List.{List}
use native.Mathlib.Omega.{arith}
use borrow.Author.Tests.{ne_eqb, ltb-true, le-ltb}
use lib.Dec.{ltb}
use lib.ListN.{length, get_or, take, drop}
use Rattle.rules.specs.declared.FormatLine.{FormatLine}
use Rattle.rules.specs.declared.FormatLine.TheVariants.{MutexFact}
use Rattle.rules.specs.Answers.{Verdict}
use Rattle.rules.proofs.Bools.{not_true, not_false, and_left, and_right}
use Rattle.textlines.specs.Says.{is_fact}
use Rattle.textlines.proofs.ShapeLaws.{group_fact}
use Rattle.translator.specs.Position.{line_due, to, moved_on}
use Rattle.translator.specs.Intake.{Memory, keep_line, one_more, head_room, taken, end_line, take_all, SameRest, HeldUpTo}
use Rattle.translator.specs.Facts.{facts, among_facts, one_read, SameFacts, FactsRead, fact_ends, AllRead, FactsTaken}
use Rattle.translator.specs.declared.intake.Intake.{Intake}
use Rattle.translator.specs.declared.facts.Facts.{Facts}
use Rattle.translator.proofs.InPieces.{byte_ends}
use Rattle.translator.proofs.ByteLaws.{next_byte}

-- ---- a fact ends

module _ (bytes : List ℕ) (at held : ℕ) (line : List ℕ) where
  pub no_end : length bytes ≤ at → false ≡ fact_ends bytes at held line
  unfolding fact_ends
  no_end h = ap (λ b. b && is_fact (take held line)) (sym (le-ltb at (length bytes) h))

  ends_within : fact_ends bytes at held line ≡ true → at < length bytes
  unfolding fact_ends
  ends_within t = ltb-true at (length bytes) (and_left (ltb at (length bytes)) (is_fact (take held line)) t)

  ends_fact : fact_ends bytes at held line ≡ true → is_fact (take held line) ≡ true
  unfolding fact_ends
  ends_fact t = and_right (ltb at (length bytes)) (is_fact (take held line)) t

fact_ended : (f : Facts) (next : ℕ) (i : Intake) (m : Memory) (line : List ℕ) → 0 < f.left → is_fact (take f.held line) ≡ true
    → end_line (taken (among_facts f i) m line) ≡ taken (among_facts (one_read next f) i) m line
unfolding end_line line_due moved_on keep_line one_read
fact_ended f next i m line l t =
    rw (ne_eqb f.left 0 (λ e. omega (arith, e, l)), group_fact (one_more f.lines) (take f.held line) t)

-- ---- facts one after the other

abbrev held_to : (end held : ℕ) → Facts → Facts
held_to end held f = facts end held f.left f.lines

pub one_less : (f r : Facts) (next : ℕ) → r ≡ one_read next f → r.left ≡ f.left - 1
unfolding one_read
one_less f r next e = ap (λ r. r.left) e

module _ (bytes : List ℕ) (first : Facts) (line : List ℕ) where
  pub facts_none : first.at ≤ length bytes → first.held ≤ head_room → FactsRead bytes first line first line
  unfolding SameFacts
  facts_none w h = record { from = omega arith; within = w; fits = h; rest = λ i m. refl }

  pub none_left : (f : Facts) (l : List ℕ) → FactsRead bytes first line f l → f.left ≤ 0 → AllRead bytes first line f l
  none_left f l read z = record { read = read; over = record { ends = λ p. absurd (omega arith); none = λ p. absurd (omega arith) } }

  module _ (f : Facts) (l : List ℕ) (read : FactsRead bytes first line f l) (end h : ℕ) (l' : List ℕ) (u : HeldUpTo bytes f.at f.held l end h l') where
    facts_held : FactsRead bytes first line (held_to end h f) l'
    unfolding SameFacts SameRest
    facts_held =
        record {
          from = omega (arith, read.from, u.from);
          within = u.within;
          fits = u.fits;
          rest = λ i m. u.rest (among_facts f i) m refl ∙ read.rest i m;
        }

    pub facts_stop : (b : Bool) → b ≡ fact_ends bytes end h l' → not b ≡ true → AllRead bytes first line (held_to end h f) l'
    facts_stop b is t = record { read = facts_held; over = record { ends = λ p. u.ends; none = λ p. sym is ∙ not_true b t } }

    module _ (b : Bool) (is : b ≡ fact_ends bytes end h l') (t : not b ≡ false) where
      pub fact_within : end < length bytes
      fact_within = ends_within bytes end h l' (sym is ∙ not_false b t)

      one_read_lem : 0 < f.left → FactsRead bytes first line (one_read (end + 1) (held_to end h f)) l'
      unfolding SameFacts one_read
      one_read_lem p =
          record {
            from = omega (arith, read.from, u.from);
            within = omega (arith, fact_within);
            fits = omega arith;
            rest =
                λ i m.
                ap (λ t. take_all t (drop (end + 1) bytes))
                (sym
                (byte_ends (taken (among_facts (held_to end h f) i) m l') (get_or bytes end 0) refl (u.ends fact_within)
                ∙ fact_ended (held_to end h f) (end + 1) i m l' p (ends_fact bytes end h l' (sym is ∙ not_false b t))))
                ∙ sym (next_byte (taken (among_facts (held_to end h f) i) m l') bytes end fact_within)
                ∙ facts_held.rest i m;
          }

      pub facts_next : 0 < f.left → (r : Facts) → r ≡ one_read (end + 1) (held_to end h f) → FactsRead bytes first line r l'
      facts_next p r e = rw e (one_read_lem p)

-- ---- a reading

abbrev as_it_is : Intake → FormatLine → Verdict → Intake
as_it_is i due verdict = record { position = to due i.position; lines = i.lines; verdict = verdict; kept = i.kept; held = i.held }

module _ (i : Intake) (line bytes : List ℕ) (at : ℕ) where
  stands : i.verdict ≡ Ok tt → i.position.line ≡ MutexFact → among_facts (facts at i.held i.position.inner i.lines) i ≡ i
  stands v d = ap₂ (as_it_is i) (sym d) (sym v)

  pub facts_taken : (then : Intake) (f : Facts) (l : List ℕ) → i.verdict ≡ Ok tt → i.position.line ≡ MutexFact
      → AllRead bytes (facts at i.held i.position.inner i.lines) line f l → then ≡ among_facts f i → FactsTaken i line bytes at then f.at l
  unfolding SameFacts
  facts_taken then f l v d r e =
      record {
        from = r.read.from;
        within = r.read.within;
        fits = omega (arith, ap (λ b. b.held) e, r.read.fits);
        kept = ap (λ b. b.kept) e;
        over = rw e r.over;
        rest = λ m. ap (λ b. take_all (taken b m l) (drop f.at bytes)) e ∙ r.read.rest i m ∙ ap (λ b. take_all (taken b m line) (drop at bytes)) (stands v d);
      }
