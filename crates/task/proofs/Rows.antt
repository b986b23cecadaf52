-- Rows written one behind the other over the front of a lent table, and what each row of an index has.
-- Assumes nothing.
use mathlib.Core.Path.{◌≡◌, refl, sym, ap, ◌∙◌}
use mathlib.Core.List.{List, map, [], ◌∷◌, ◌++◌, append-nil, append_assoc}
use Prim.Native.Nat.{ℕ, suc, ◌+◌, ◌-◌, ◌*◌, ◌≤◌, ◌<◌}
use native.Mathlib.Omega.{arith}
use native.Mathlib.Numerals.{add-one}
use native.Mathlib.Nat.{mul_comm}
use lib.ListN.{length, get_or, set, take, drop, length-append, length-drop, length-map, get_or-eq_default}
use lib.Seq.{length-take-le, drop-cons, set_at, take_at, drop_at, sets, sets-eq, length-sets, take-append_seam, drop-append-add, drop-drop, drop-length, get_or-drop}
use Rattle.rules.specs.Counting.{sum_to, for_each}
use Rattle.rules.specs.Limits.{max_variables, max_actions, pair_bytes, count_bytes}
use Rattle.rules.specs.Counts.{pairs_below}
use Rattle.rules.specs.File.{byte, body_start, body, action_bytes, action_in, rests, task_of}
use Rattle.rules.proofs.Counting.{sum_to-const, sum_to-ext, sum_to-part, length-for_each}
use Rattle.rules.proofs.Loops.{sum_yet, sum_more}
use Rattle.rules.proofs.Rests.{rest_zero, rest_suc, drop_past, Reached, reached_next, reached_all}
use Rattle.task.specs.Index.{rest_at, variable_row, action_row, variable_rows, action_rows, variable_width, action_width, actions_at, count_at, index_length, index_of, index_values, VariablesFit, ActionsFit}

-- ---- written over the front of a table

abbrev pub over : (table written : List ℕ) → List ℕ
over table written = written ++ drop (length written) table

pub over_more : (table p q : List ℕ) → length p + length q ≤ length table → sets (over table p) (length p) q ≡ over table (p ++ q)
over_more table p q h =
    let behind : List ℕ = drop (length p) table in
    sets-eq q (over table p) (length p) (omega (arith, length-append p behind, length-drop (length p) table))
    ∙ rw (take-append_seam p behind, drop-append-add p behind (length q), drop-drop (length q) (length p) table, length-append p q)

-- rows of one width
module _ (f : ℕ → List ℕ) (width : ℕ) (wide : (i : ℕ) → length (f i) ≡ width) where
  pub length-rows : (m : ℕ) → length (for_each m f) ≡ width * m
  length-rows m = length-for_each m f ∙ sum_to-ext m (λ i. length (f i)) (λ i. width) (λ i l. wide i) ∙ sum_to-const m width ∙ mul_comm m width

  rows_none : (table : List ℕ) → table ≡ over table (for_each 0 f)
  unfolding for_each
  rows_none table = refl

  rows_more : (table out : List ℕ) (m : ℕ) → out ≡ over table (for_each m f) → width * m + width ≤ length table
      → sets out (width * m) (f m) ≡ over table (for_each (m + 1) f)
  unfolding for_each
  rows_more table out m e h =
      rw (add-one, e, ← length-rows m) (over_more table (for_each m f) (f m) (omega (arith, length-rows m, wide m)))

  rows_all : (table out : List ℕ) (m : ℕ) → out ≡ over table (for_each m f) → length table ≡ width * m → out ≡ for_each m f
  rows_all table out m e h =
      let none : drop (length (for_each m f)) table ≡ [] =
      let all : length (for_each m f) ≡ length table = omega (arith, length-rows m) in rw (all, drop-length table) in
      e ∙ ap (λ r. for_each m f ++ r) none ∙ append-nil (for_each m f)

-- ---- rows

pub wide_variable : (sizes : List ℕ) (x : ℕ) → length (variable_row sizes x) ≡ variable_width
unfolding variable_row
wide_variable sizes x = refl

pub wide_action : (start : ℕ) (actions : List ℕ) (a : ℕ) → length (action_row start actions a) ≡ action_width
unfolding action_row
wide_action start actions a = refl

-- a sum that has grown by a summand is still below what the whole sum is below
grown_few : (w : ℕ → ℕ) (m i sum v : ℕ) → i < m → sum_to m w < index_values → sum ≡ sum_to i w → v ≡ w i → sum + v < index_values
grown_few w m i sum v l h es ev = omega (arith, sum_to-part m w i l)

-- the rows of the first x variables are written
pub record VariablesFilled (sizes table out : List ℕ) (x values pairs : ℕ) : Type 0 where
  pub rows : x ≤ variable_rows
  pub room : length table ≡ variable_width * variable_rows
  pub room_still : length out ≡ variable_width * variable_rows
  pub values_few : values < index_values
  pub pairs_few : pairs < index_values
  pub values_are : values ≡ sum_to x (byte sizes)
  pub pairs_are : pairs ≡ sum_to x (λ y. pairs_below (byte sizes y))
  pub filled : out ≡ over table (for_each x (variable_row sizes))

module _ (sizes table : List ℕ) where
  pub variables_none : length table ≡ variable_width * variable_rows → VariablesFilled sizes table table 0 0 0
  variables_none h =
      record {
        rows = omega arith;
        room = h;
        room_still = h;
        values_few = omega arith;
        pairs_few = omega arith;
        values_are = sum_yet (byte sizes);
        pairs_are = sum_yet (λ y. pairs_below (byte sizes y));
        filled = rows_none (variable_row sizes) variable_width (wide_variable sizes) table;
      }

  module _ (out : List ℕ) (x values pairs : ℕ) (f : VariablesFilled sizes table out x values pairs) where
    row_written : x < variable_rows → sets out (variable_width * x) (values ∷ pairs ∷ []) ≡ over table (for_each (x + 1) (variable_row sizes))
    unfolding variable_row
    row_written h =
        rw (f.values_are, f.pairs_are) (rows_more (variable_row sizes) variable_width (wide_variable sizes) table out x f.filled (omega arith))

    pairs_grown : VariablesFit sizes → (size more : ℕ) → x ≤ max_variables → size ≡ byte sizes x → more ≡ pairs_below size → pairs + more < index_values
    pairs_grown fit size more l es em =
        grown_few (λ y. pairs_below (byte sizes y)) variable_rows x pairs more (omega arith) fit.pairs_fit f.pairs_are (em ∙ ap pairs_below es)

    pub variables_more : VariablesFit sizes → (after : List ℕ) (size more : ℕ) → x ≤ max_variables → after ≡ sets out (variable_width * x) (values ∷ pairs ∷ [])
        → size ≡ byte sizes x → more ≡ pairs_below size → VariablesFilled sizes table after (x + 1) (values + size) (pairs + more)
    variables_more fit after size more l ea es em =
        record {
          rows = omega arith;
          room = f.room;
          room_still = ap length ea ∙ length-sets out (variable_width * x) (values ∷ pairs ∷ []) ∙ f.room_still;
          values_few = grown_few (byte sizes) variable_rows x values size (omega arith) fit.values_fit f.values_are es;
          pairs_few = pairs_grown fit size more l es em;
          values_are = sum_more (byte sizes) x values size f.values_are es;
          pairs_are = sum_more (λ y. pairs_below (byte sizes y)) x pairs more f.pairs_are (em ∙ ap pairs_below es);
          filled = ea ∙ row_written (omega arith);
        }

    pub variables_all : variable_rows ≤ x → out ≡ for_each variable_rows (variable_row sizes)
    variables_all h =
        let e : x ≡ variable_rows = omega arith in
        rows_all (variable_row sizes) variable_width (wide_variable sizes) table out variable_rows (rw e at f.filled) f.room

-- ---- bytes

pub byte_past : (s : List ℕ) (i : ℕ) → length s ≤ i → 0 ≡ byte s i
byte_past s i h = sym (get_or-eq_default s 0 h)

module _ (s : List ℕ) (at b₀ b₁ : ℕ) (e₀ : b₀ ≡ byte s at) (e₁ : b₁ ≡ byte s (at + 1)) where
  bytes_at : count_bytes + pair_bytes * (b₀ + b₁) ≡ action_bytes (drop at s)
  bytes_at =
      let here : get_or (drop at s) 0 0 ≡ b₀ = get_or-drop at s 0 0 ∙ sym (e₀ ∙ ap (byte s) (omega arith)) in
      omega (arith, here, get_or-drop at s 1 0)

-- ---- the action of a rest

module _ (s : List ℕ) (at a : ℕ) (er : rest_at s a ≡ drop at s) where
  rest_byte : (i b : ℕ) → b ≡ byte s (at + i) → b ≡ byte (rest_at s a) i
  rest_byte i b e = e ∙ sym (get_or-drop at s i 0) ∙ ap (λ r. byte r i) (sym er)

  preconditions_here : (b : ℕ) → b ≡ byte s at → b ≡ byte (rest_at s a) 0
  preconditions_here b e = rest_byte 0 b (e ∙ ap (byte s) (omega arith))

  effects_here : (b : ℕ) → b ≡ byte s (at + 1) → b ≡ byte (rest_at s a) 1
  effects_here b e = rest_byte 1 b e

  rest_next : (next : ℕ) → drop next s ≡ drop (action_bytes (drop at s)) (drop at s) → rest_at s (a + 1) ≡ drop next s
  rest_next next e = rw add-one (rest_suc s a ∙ ap (λ r. drop (action_bytes r) r) er ∙ sym e)

-- ---- counting actions

module _ (s : List ℕ) (at next : ℕ) (l : at < length s) (h : next ≤ length s) (e : drop next s ≡ drop (action_bytes (drop at s)) (drop at s)) where
  pub place_rises : at < next
  place_rises = omega (arith, ap length e, length-drop next s, length-drop (action_bytes (drop at s)) (drop at s), length-drop at s)

  pub action_counted : (a : ℕ) → Reached s at a → Reached s next (a + 1)
  action_counted a r = reached_next s at a r l next h e

  pub place_falls : length s - next < length s - at
  place_falls = omega (arith, place_rises)

  pub counted_within : (a : ℕ) → a ≤ at → a + 1 ≤ next
  counted_within a k = omega (arith, place_rises)

pub all_counted : (s : List ℕ) (at a : ℕ) → Reached s at a → length s ≤ at → a ≡ length (rests s)
all_counted s at a r h = sym (reached_all s at a r h)

-- ---- the rows of the first a actions are written, and the reading has come to place at

pub record ActionsFilled (start : ℕ) (s table out : List ℕ) (a at preconditions effects : ℕ) : Type 0 where
  pub rows : a ≤ action_rows
  pub within : at ≤ length s
  pub room : length table ≡ action_width * action_rows
  pub room_still : length out ≡ action_width * action_rows
  pub preconditions_few : preconditions < index_values
  pub effects_few : effects < index_values
  pub reached : rest_at s a ≡ drop at s
  pub preconditions_are : preconditions ≡ sum_to a (λ b. byte (rest_at s b) 0)
  pub effects_are : effects ≡ sum_to a (λ b. byte (rest_at s b) 1)
  pub filled : out ≡ over table (for_each a (action_row start s))

module _ (start : ℕ) (s table : List ℕ) where
  pub actions_none : length table ≡ action_width * action_rows → ActionsFilled start s table table 0 0 0 0
  actions_none h =
      record {
        rows = omega arith;
        within = omega arith;
        room = h;
        room_still = h;
        preconditions_few = omega arith;
        effects_few = omega arith;
        reached = rest_zero s;
        preconditions_are = sum_yet (λ b. byte (rest_at s b) 0);
        effects_are = sum_yet (λ b. byte (rest_at s b) 1);
        filled = rows_none (action_row start s) action_width (wide_action start s) table;
      }

  module _ (out : List ℕ) (a at preconditions effects : ℕ) (f : ActionsFilled start s table out a at preconditions effects) where
    action_written : a < action_rows
        → sets out (action_width * a) ((start + at) ∷ preconditions ∷ effects ∷ []) ≡ over table (for_each (a + 1) (action_row start s))
    unfolding action_row
    action_written h =
        let place : at ≡ length s - length (rest_at s a) = omega (arith, ap length f.reached, length-drop at s) in
        rw (f.preconditions_are, f.effects_are, place)
        (rows_more (action_row start s) action_width (wide_action start s) table out a f.filled (omega arith))

    pub actions_more : ActionsFit s → (after : List ℕ) (p e next : ℕ) → a ≤ max_actions
        → after ≡ sets out (action_width * a) ((start + at) ∷ preconditions ∷ effects ∷ [])
        → p ≡ byte s at → e ≡ byte s (at + 1) → next ≤ length s → drop next s ≡ drop (action_bytes (drop at s)) (drop at s)
        → ActionsFilled start s table after (a + 1) next (preconditions + p) (effects + e)
    actions_more fit after p e next l ea ep ee ln en =
        let pre : p ≡ byte (rest_at s a) 0 = preconditions_here s at a f.reached p ep in
        let eff : e ≡ byte (rest_at s a) 1 = effects_here s at a f.reached e ee in
        record {
          rows = omega arith;
          within = ln;
          room = f.room;
          room_still = ap length ea ∙ length-sets out (action_width * a) ((start + at) ∷ preconditions ∷ effects ∷ []) ∙ f.room_still;
          preconditions_few = grown_few (λ b. byte (rest_at s b) 0) action_rows a preconditions p (omega arith) fit.preconditions_fit f.preconditions_are pre;
          effects_few = grown_few (λ b. byte (rest_at s b) 1) action_rows a effects e (omega arith) fit.effects_fit f.effects_are eff;
          reached = rest_next s at a f.reached next en;
          preconditions_are = sum_more (λ b. byte (rest_at s b) 0) a preconditions p f.preconditions_are pre;
          effects_are = sum_more (λ b. byte (rest_at s b) 1) a effects e f.effects_are eff;
          filled = ea ∙ action_written (omega arith);
        }

    pub actions_all : action_rows ≤ a → out ≡ for_each action_rows (action_row start s)
    actions_all h =
        let e : a ≡ action_rows = omega arith in
        rows_all (action_row start s) action_width (wide_action start s) table out action_rows (rw e at f.filled) f.room

-- ---- the parts of an index

pub front_long : (l : List ℕ) (k m : ℕ) → length l ≡ m → k ≤ m → k ≡ length (take k l)
front_long l k m e h = sym (length-take-le k l (omega arith))

pub long_front : (l : List ℕ) (k m : ℕ) → length l ≡ m → k ≤ m → length (take k l) ≡ k
long_front l k m e h = length-take-le k l (omega arith)

pub middle_filled : (l ys rows : List ℕ) → ys ≡ rows
    → take actions_at l ++ (ys ++ drop (action_width * action_rows) (drop actions_at l)) ≡ take actions_at l ++ (rows ++ drop (action_width * action_rows) (drop actions_at l))
middle_filled l ys rows e = rw e

-- two parts and one number behind them
parts_written : (p q l : List ℕ) (z : ℕ) → length l ≡ suc (length p + length q)
    → set (p ++ (q ++ drop (length q) (drop (length p) l))) (length p + length q) z ≡ p ++ (q ++ (z ∷ []))
parts_written p q l z h =
    let last : ℕ = length p + length q in
    let end : drop (length q) (drop (length p) l) ≡ get_or l last 0 ∷ [] =
    drop-drop (length q) (length p) l ∙ drop-cons l last 0 (omega arith) ∙ ap (λ r. get_or l last 0 ∷ r) (drop_past (suc last) l (omega arith)) in
    rw (end, ← append_assoc p q (get_or l last 0 ∷ []), set_at (p ++ q) (get_or l last 0) [] z last (length-append p q)) (append_assoc p q (z ∷ []))

-- the index once its three parts are written, one after the other
module _ (file index one two sizes actions : List ℕ) (start count : ℕ) (room : length index ≡ index_length) where
  abbrev rows₁ : List ℕ
  rows₁ = for_each variable_rows (variable_row sizes)

  abbrev rows₂ : List ℕ
  rows₂ = for_each action_rows (action_row start actions)

  long₁ : length rows₁ ≡ actions_at
  long₁ = length-rows (variable_row sizes) variable_width (wide_variable sizes) variable_rows

  long₂ : length rows₂ ≡ action_width * action_rows
  long₂ = length-rows (action_row start actions) action_width (wide_action start actions) action_rows

  pub index_filled : sizes ≡ body file 0 → actions ≡ body file 3 → start ≡ body_start file 3
      → one ≡ rows₁ ++ drop actions_at index
      → two ≡ take actions_at one ++ (rows₂ ++ drop (action_width * action_rows) (drop actions_at one))
      → count ≡ length (rests actions) → set two count_at count ≡ index_of file
  unfolding index_of task_of
  index_filled es ea et e₁ e₂ ec =
      let both : two ≡ rows₁ ++ (rows₂ ++ drop (length rows₂) (drop (length rows₁) index)) =
      e₂ ∙ rw (e₁, take_at rows₁ (drop actions_at index) actions_at long₁, drop_at rows₁ (drop actions_at index) actions_at long₁, long₁, long₂) in
      let last : count_at ≡ length rows₁ + length rows₂ = omega (arith, long₁, long₂) in
      let counted : count ≡ length (map action_in (rests (body file 3))) = ec ∙ ap (λ s. length (rests s)) ea ∙ sym (length-map (rests (body file 3)) action_in) in
      ap (λ l. set l count_at count) both
      ∙ ap (λ k. set (rows₁ ++ (rows₂ ++ drop (length rows₂) (drop (length rows₁) index))) k count) last
      ∙ parts_written rows₁ rows₂ index count (omega (arith, long₁, long₂))
      ∙ rw (es, ea, et, counted)
