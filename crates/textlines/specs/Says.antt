-- What a line says to the one who reads it: the numbers that its shape lets it have, or the rules' refusal.
-- Assumes nothing.
use Rattle.std.specs.Prelude.{ℕ, Bool, cond, ◌&&◌, ◌||◌, List, [], eqb, Option, None, Some, Result, Ok, Err}
use Rattle.rules.specs.Answers.{judge, Verdict}
use Rattle.rules.specs.Format.{Shape, keyword, name, version, metric, layer, number, fact, effect, axiom_count, nothing, shape_of, line_rules, word_at, word_count, is_plain, is_minus_one, number_at, line_number, has_old}
use Rattle.rules.specs.declared.FormatLine.{FormatLine}
use Rattle.rules.specs.declared.Refusal.{Refusal}
use Rattle.rules.specs.declared.Refusal.TheVariants.{AgainstFormat}
use Rattle.textlines.specs.declared.Numbers.{Numbers}

abbrev pub numbers : (first second : ℕ) → Option ℕ → Numbers
numbers first second old = record { first = first; second = second; old = old }

abbrev pub no_numbers : Numbers
no_numbers = numbers 0 0 None

abbrev pub old_in : List ℕ → Option ℕ
old_in line = cond (has_old line) (Some (number_at line 2)) None

unfoldable pub numbers_in : Shape → List ℕ → Numbers
numbers_in (keyword word) line = no_numbers
numbers_in name line = no_numbers
numbers_in version line = no_numbers
numbers_in metric line = no_numbers
numbers_in layer line = no_numbers
numbers_in (number announced states) line = numbers (line_number line) 0 None
numbers_in (fact states) line = numbers (number_at line 0) (number_at line 1) None
numbers_in effect line = numbers (number_at line 1) (number_at line 3) (old_in line)
numbers_in axiom_count line = no_numbers
numbers_in nothing line = no_numbers

abbrev pub said_by : Verdict → Numbers → Result Numbers Refusal
said_by (Ok _) says = Ok says
said_by (Err why) says = Err why

-- a line that has to be of some shape, at its number in the text
unfoldable pub shape_says : Shape → (at : ℕ) → List ℕ → Result Numbers Refusal
shape_says shape at line = said_by (judge (line_rules shape at line)) (numbers_in shape line)

-- a line that has to be of some kind, at its number in the text
unfoldable pub says_as : FormatLine → (at : ℕ) → List ℕ → Result Numbers Refusal
says_as due at line = shape_says (shape_of due) at line

-- a line is decided by so many of its first bytes
abbrev pub deciding : ℕ
deciding = 32

-- ---- the answers of a line that says no number

abbrev pub says_nothing : Result Numbers Refusal
says_nothing = Ok no_numbers

abbrev pub against_format : (at : ℕ) → Result Numbers Refusal
against_format at = Err (AgainstFormat at)

-- ---- the shapes whatever they announce and state

abbrev pub a_number : Shape
a_number = number (λ m. []) (λ m s. s)

abbrev pub a_fact : Shape
a_fact = fact (λ p s. s)

-- ---- the tests that the rules of a line are made of

unfoldable pub is_fact : List ℕ → Bool
is_fact line = eqb (word_count line) 2 && is_plain (word_at line 0) && is_plain (word_at line 1)

-- a number, or -1
unfoldable pub is_signed : List ℕ → Bool
is_signed word = is_plain word || is_minus_one word

unfoldable pub is_effect : List ℕ → Bool
is_effect line = eqb (word_count line) 4 && is_plain (word_at line 1) && is_signed (word_at line 2) && is_plain (word_at line 3)
