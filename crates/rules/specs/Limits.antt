-- The limits that the rules set, each named once.
-- Assumes nothing.
use Rattle.std.specs.Prelude.{ℕ, ◌+◌, ◌*◌}

abbrev pub max_variables : ℕ
max_variables = 96

abbrev pub max_domain : ℕ
max_domain = 64

-- of S, the sum of all domain sizes
abbrev pub max_values : ℕ
max_values = 1024

abbrev pub max_goals : ℕ
max_goals = 96

abbrev pub max_actions : ℕ
max_actions = 512

-- of an action's preconditions, and of its effects
abbrev pub max_pairs : ℕ
max_pairs = 8

abbrev pub max_horizon : ℕ
max_horizon = 64

-- of a solver's line, in bytes
abbrev pub max_line : ℕ
max_line = 4096

-- of a number in a solver's line
abbrev pub max_digits : ℕ
max_digits = 6

-- of a number in the translator's text
abbrev pub max_text_digits : ℕ
max_text_digits = 6

-- of the translator's format
abbrev pub format_version : ℕ
format_version = 3

-- how many values a byte has
abbrev pub byte_values : ℕ
byte_values = 256

-- of a start and of a length in the table of contents
abbrev pub number_bytes : ℕ
number_bytes = 2

abbrev pub row_bytes : ℕ
row_bytes = number_bytes + number_bytes

abbrev pub contents_rows : ℕ
contents_rows = 4

-- where the first body starts
abbrev pub contents_bytes : ℕ
contents_bytes = contents_rows * row_bytes

abbrev pub pair_bytes : ℕ
pair_bytes = 2

-- the byte p and the byte e before an action's pairs
abbrev pub count_bytes : ℕ
count_bytes = 2

abbrev pub max_action : ℕ
max_action = count_bytes + pair_bytes * (max_pairs + max_pairs)

-- the longest file: contents, sizes, start values, goal pairs and actions at their limits
abbrev pub max_file : ℕ
max_file = contents_bytes + max_variables + max_variables + pair_bytes * max_goals + max_actions * max_action

-- what follows from these, and is proved: the most formula variables, clauses, and literals of a clause
abbrev pub max_n : ℕ
max_n = 99328

abbrev pub max_c : ℕ
max_c = 11065120

abbrev pub max_literals : ℕ
max_literals = 514
