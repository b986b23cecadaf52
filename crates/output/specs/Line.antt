-- What a call leaves, its answer and the two lent rows; how a reading starts, and what a line of each kind comes to.
-- Assumes nothing.
use Rattle.std.specs.Prelude.{Bool, cond, ◌&&◌, List, [], ℕ, leb, replicate, Ok, Err}
use Rattle.rules.specs.Rows.{Rows, words_for, over_row}
use Rattle.rules.specs.Lines.{Kind, kind_verdict, phase_after, named, Progress, rows_fit, progress}
use Rattle.rules.specs.declared.Refusal.TheVariants.{Room}
use Rattle.rules.specs.declared.Phase.TheVariants.{NoStatus}
use Rattle.rules.specs.Answers.{LineAnswer}
use Rattle.rules.specs.declared.Reading.{Reading}
pub use Rattle.rows.specs.Lent.{lent}

abbrev pub leaves : LineAnswer → (given is_true : List ℕ) → Progress
leaves answer given is_true = record { answer = answer; rows = lent given is_true }

-- rows of these lengths have the words that so many variables need
unfoldable pub both_fit : (highest given is_true : ℕ) → Bool
both_fit highest given is_true = leb (words_for highest) given && leb (words_for highest) is_true

-- the first reading state, and the words needed 0 in both rows, if they are there
unfoldable pub started : (highest : ℕ) → Rows → Progress
started highest rows =
    cond (rows_fit highest rows)
    (leaves (Ok (record { highest = highest; phase = NoStatus })) (over_row (replicate (words_for highest) 0) rows.given)
    (over_row (replicate (words_for highest) 0) rows.is_true))
    (record { answer = Err Room; rows = rows })

-- what a line of a kind comes to, where the rows are long enough and the line is not too long
unfoldable pub by_kind : Kind → Reading → Rows → List ℕ → Progress
by_kind kind reading rows line =
    progress (kind_verdict kind reading rows.given line)
    (record { highest = reading.highest; phase = phase_after kind reading rows.given line })
    (named kind reading rows.given line) rows

-- the answer to a line of a kind that reads no row
unfoldable pub answer_to : Kind → Reading → List ℕ → LineAnswer
unfolding by_kind
answer_to kind reading line = (by_kind kind reading (lent [] []) line).answer
