-- A text that comes in pieces: its lines where some of the first has begun, and the first bytes of that line, held in lent room.
-- Assumes nothing.
use mathlib.Core.Path.{◌≡◌, refl, sym, ap, ◌∙◌}
use mathlib.Core.Logic.{⊎_elim}
use mathlib.Core.List.{List, [], ◌∷◌, ◌++◌, append-nil, append_assoc}
use Prim.Native.Nat.{ℕ, suc, ◌+◌, ◌≤◌, ◌<◌, min}
use native.Mathlib.Omega.{arith}
use native.Mathlib.Numerals.{add-one}
use borrow.Author.Tests.{eq-eqb, ne_eqb}
use lib.Dec.{eqb}
use lib.ListN.{length, take, set, length-append, length-set}
use lib.Seq.{take_all, take-suc-set, take-append-le}
use Rattle.rules.specs.Text.{lf}
use Rattle.rules.specs.Lines.{onto, pieces}
use Rattle.rules.specs.Output.{without_empty_last, lines_of}
use Rattle.rules.proofs.Bools.{either}

-- ---- pieces

onto_some : (b : ℕ) (ps : List (List ℕ)) (P : List (List ℕ) → Type 0) → ((q : List ℕ) (qs : List (List ℕ)) → P (q ∷ qs)) → P (onto b ps)
onto_some b [] P f = f (b ∷ []) []
onto_some b (p ∷ ps) P f = f (b ∷ p) ps

-- every text has a first piece
pieces_some : (separator : ℕ) (s : List ℕ) (P : List (List ℕ) → Type 0) → ((q : List ℕ) (qs : List (List ℕ)) → P (q ∷ qs)) → P (pieces separator s)
unfolding pieces
pieces_some separator [] P f = f [] []
pieces_some separator (b ∷ s) P f =
    ⊎_elim (λ t. rw t (f [] (pieces separator s))) (λ t. rw t (onto_some b (pieces separator s) P f)) (either (eqb b separator))

-- ---- lines, where some of the first has begun

abbrev prefixed : List ℕ → List (List ℕ) → List (List ℕ)
prefixed s [] = s ∷ []
prefixed s (q ∷ qs) = (s ++ q) ∷ qs

prefixed_onto : (s : List ℕ) (b : ℕ) (ps : List (List ℕ)) → prefixed s (onto b ps) ≡ prefixed (s ++ (b ∷ [])) ps
prefixed_onto s b [] = refl
prefixed_onto s b (q ∷ qs) = ap (λ l. l ∷ qs) (sym (append_assoc s (b ∷ []) q))

prefixed_none : (bytes : List ℕ) → prefixed [] (pieces lf bytes) ≡ pieces lf bytes
prefixed_none bytes = pieces_some lf bytes (λ ps. prefixed [] ps ≡ ps) (λ q qs. refl)

not_last : (l bytes : List ℕ) → without_empty_last (l ∷ pieces lf bytes) ≡ l ∷ without_empty_last (pieces lf bytes)
unfolding without_empty_last
not_last l bytes = pieces_some lf bytes (λ ps. without_empty_last (l ∷ ps) ≡ l ∷ without_empty_last ps) (λ q qs. refl)

-- the lines of what has begun of a line and the bytes behind it
unfoldable pub lines_ahead : (begun bytes : List ℕ) → List (List ℕ)
lines_ahead begun bytes = without_empty_last (prefixed begun (pieces lf bytes))

pub ahead_first : (bytes : List ℕ) → lines_ahead [] bytes ≡ lines_of bytes
unfolding lines_ahead lines_of
ahead_first bytes = ap without_empty_last (prefixed_none bytes)

pub ahead_none : lines_ahead [] [] ≡ []
unfolding lines_ahead pieces without_empty_last
ahead_none = refl

pub ahead_last : (b : ℕ) (begun : List ℕ) → lines_ahead (b ∷ begun) [] ≡ (b ∷ begun) ∷ []
unfolding lines_ahead pieces without_empty_last
ahead_last b begun = ap (λ l. (b ∷ l) ∷ []) (append-nil begun)

pub ahead_lf : (begun bytes : List ℕ) (b : ℕ) → b ≡ lf → lines_ahead begun (b ∷ bytes) ≡ begun ∷ lines_ahead [] bytes
unfolding lines_ahead pieces
ahead_lf begun bytes b e =
    rw (eq-eqb b lf e)
    (not_last (begun ++ []) bytes
    ∙ ap (λ l. l ∷ without_empty_last (pieces lf bytes)) (append-nil begun)
    ∙ ap (λ ls. begun ∷ without_empty_last ls) (sym (prefixed_none bytes)))

pub ahead_byte : (begun bytes : List ℕ) (b : ℕ) → (b ≡ lf → ⊥) → lines_ahead begun (b ∷ bytes) ≡ lines_ahead (begun ++ (b ∷ [])) bytes
unfolding lines_ahead pieces
ahead_byte begun bytes b e = rw (ne_eqb b lf e) (ap without_empty_last (prefixed_onto begun b (pieces lf bytes)))

-- a text has no more lines than bytes
onto_lines : (b : ℕ) (ps : List (List ℕ)) → length (without_empty_last (onto b ps)) ≤ suc (length (without_empty_last ps))
unfolding without_empty_last
onto_lines b [] = omega arith
onto_lines b ([] ∷ []) = omega arith
onto_lines b ((c ∷ l) ∷ []) = omega arith
onto_lines b (l ∷ (m ∷ ls)) = omega arith

no_lines : length (without_empty_last ([] ∷ [])) ≤ 0
unfolding without_empty_last
no_lines = omega arith

pub lines_most : (bytes : List ℕ) → length (lines_of bytes) ≤ length bytes
unfolding lines_of pieces
lines_most [] = no_lines
lines_most (b ∷ bytes) =
    let rest : length (without_empty_last (pieces lf bytes)) ≤ length bytes = lines_most bytes in
    ⊎_elim (λ t. rw t (omega (arith, ap length (not_last [] bytes))))
    (λ t. rw t (omega (arith, onto_lines b (pieces lf bytes))))
    (either (eqb b lf))

-- ---- what is held of a line that has begun: its first bytes, as far as there is room

pub record Holds (room held : ℕ) (line begun : List ℕ) : Type 0 where
  pub much : held ≡ min (length begun) room
  pub same : take held line ≡ take room begun
  pub fits : room ≤ length line

pub holds_none : (room : ℕ) (line : List ℕ) → room ≤ length line → Holds room 0 line []
holds_none room line h = record { much = omega arith; same = sym (take_all room [] (omega arith)); fits = h }

pub holds_more : (room held : ℕ) (line begun : List ℕ) (b : ℕ) → Holds room held line begun → held < room
    → Holds room (held + 1) (set line held b) (begun ++ (b ∷ []))
holds_more room held line begun b h l =
    let long : length (begun ++ (b ∷ [])) ≡ length begun + 1 = length-append begun (b ∷ []) in
    record {
      much = omega (arith, h.much);
      same =
          ap (λ k. take k (set line held b)) (add-one held)
          ∙ take-suc-set line held b (omega (arith, h.fits))
          ∙ ap (λ s. s ++ (b ∷ [])) (h.same ∙ take_all room begun (omega (arith, h.much)))
          ∙ sym (take_all room (begun ++ (b ∷ [])) (omega (arith, h.much)));
      fits = omega (arith, h.fits, length-set line held b);
    }

pub holds_full : (room held : ℕ) (line begun : List ℕ) (b : ℕ) → Holds room held line begun → room ≤ held → Holds room held line (begun ++ (b ∷ []))
holds_full room held line begun b h l =
    let long : length (begun ++ (b ∷ [])) ≡ length begun + 1 = length-append begun (b ∷ []) in
    record {
      much = omega (arith, h.much);
      same = h.same ∙ sym (take-append-le room begun (b ∷ []) (omega (arith, h.much)));
      fits = h.fits;
    }
