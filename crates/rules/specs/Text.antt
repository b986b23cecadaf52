-- Text: numbers in decimal, DIMACS lines of the header and of a clause, and the line of a refusal.
-- Assumes nothing.
use Rattle.std.specs.Prelude.{ℕ, zero, suc, ◌+◌, ◌/◌, ◌%◌, true, false, List, [], ◌∷◌, ◌++◌, map, ltb}
use Prim.Native.String.{String}
use Prim.Native.Char.{code}
use Rattle.rules.specs.Counting.{joined}
use Rattle.rules.specs.Answers.{answer_of}
use Rattle.rules.specs.Problem.{Problem}
use Rattle.rules.specs.Numbering.{N}
use Rattle.rules.specs.Families.{Literal, plus, minus, Clause, C, formula}
use Rattle.rules.specs.declared.Refusal.{Refusal}

-- the bytes of a text
unfoldable pub ascii : String → List ℕ
ascii String.[] = []
ascii (String.◌∷◌ c s) = code c ∷ ascii s

-- a line's end
abbrev pub lf : ℕ
lf = 10

abbrev pub space : ℕ
space = code " "

abbrev pub dash : ℕ
dash = code "-"

-- the byte of the digit 0; the others follow it
abbrev pub digit0 : ℕ
digit0 = code "0"

-- m in decimal, no zero in front; most bounds its digits
unfoldable pub decimal_up_to : (most : ℕ) → ℕ → List ℕ
decimal_up_to zero m = []
decimal_up_to (suc most) m = elim (ltb m 10) [ true ↦ (digit0 + m) ∷ [] | false ↦ decimal_up_to most (m / 10) ++ ((digit0 + m % 10) ∷ []) ]

unfoldable pub decimal : ℕ → List ℕ
decimal m = decimal_up_to (suc m) m

unfoldable pub literal_text : Literal → List ℕ
literal_text (plus v) = decimal v
literal_text (minus v) = dash ∷ decimal v

-- literals parted by one space, ending in " 0" and LF
unfoldable pub clause_line : Clause → List ℕ
clause_line c = joined (map (λ l. literal_text l ++ (space ∷ [])) c) ++ (digit0 ∷ lf ∷ [])

unfoldable pub header_line : Problem → List ℕ
header_line P = ascii "p cnf " ++ decimal (N P) ++ (space ∷ []) ++ decimal (C P) ++ (lf ∷ [])

-- a line a clause
unfoldable pub clause_lines : Problem → List (List ℕ)
clause_lines P = map clause_line (formula P)

unfoldable pub formula_text : Problem → List ℕ
formula_text P = header_line P ++ joined (clause_lines P)

unfoldable pub refusal_line : Refusal → List ℕ
refusal_line r = ascii "refused " ++ decimal (answer_of r).number ++ (space ∷ []) ++ decimal (answer_of r).detail ++ (lf ∷ [])
