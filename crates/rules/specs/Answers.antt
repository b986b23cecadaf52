-- Answers: the rules that a call judges by, in their order, and the number and detail of each refusal.
-- Assumes nothing.
use Rattle.std.specs.Prelude.{ℕ, Bool, cond, List, [], ◌∷◌, eqb, Result, Ok, Err}
use Rattle.rules.specs.Counting.{first}
use Rattle.rules.specs.declared.Refusal.{Refusal}
use Rattle.rules.specs.declared.Refusal.TheVariants.{FileLength, ContentsRow, BodyLength, DomainSize, StartValue, GoalPair, ActionAtFault, Horizon, ClauseNumber, Room, Grammar, OutOfPlace, OverN, GivenBefore, Unfinished, UnmetClause, Unsatisfiable, Unknown, EntryOverA, DoesNotApply, GoalUnmet, AgainstFormat, AxiomOrCondition, OtherVersion}
use Rattle.rules.specs.declared.Reading.{Reading}

-- the answer of a call that only judges
abbrev pub Verdict : Type 0
Verdict = Result Unit Refusal

-- the answer to one line of solver output
abbrev pub LineAnswer : Type 0
LineAnswer = Result Reading Refusal

-- an answer's number and detail
pub record Answer : Type 0 where
  pub number : ℕ
  pub detail : ℕ

abbrev pub answer : ℕ → ℕ → Answer
answer number detail = record { number = number; detail = detail }

-- the rules' table
abbrev pub answer_of : Refusal → Answer
answer_of FileLength = answer 1 0
answer_of (ContentsRow r) = answer 2 r
answer_of BodyLength = answer 3 0
answer_of (DomainSize x) = answer 4 x
answer_of (StartValue x) = answer 5 x
answer_of (GoalPair i) = answer 6 i
answer_of (ActionAtFault a) = answer 7 a
answer_of Horizon = answer 8 0
answer_of ClauseNumber = answer 9 0
answer_of Room = answer 10 0
answer_of (Grammar i) = answer 11 i
answer_of (OutOfPlace i) = answer 12 i
answer_of (OverN i) = answer 13 i
answer_of (GivenBefore i) = answer 14 i
answer_of Unfinished = answer 15 0
answer_of (UnmetClause c) = answer 17 c
answer_of Unsatisfiable = answer 18 0
answer_of Unknown = answer 19 0
answer_of (EntryOverA t) = answer 20 t
answer_of (DoesNotApply t) = answer 21 t
answer_of (GoalUnmet i) = answer 22 i
answer_of (AgainstFormat line) = answer 30 line
answer_of (AxiomOrCondition line) = answer 31 line
answer_of (OtherVersion line) = answer 32 line

-- 0 is acceptance, detail 0
abbrev pub answer_to : Verdict → Answer
answer_to (Ok _) = answer 0 0
answer_to (Err why) = answer_of why

-- the next reading state is acceptance
abbrev pub answer_to_line : LineAnswer → Answer
answer_to_line (Ok reading) = answer 0 0
answer_to_line (Err why) = answer_of why

-- what has to hold, and the refusal where it does not
pub record Rule : Type 0 where
  pub holds : Bool
  pub refusal : Refusal

-- the first rule that does not hold refuses
unfoldable pub judge : List Rule → Verdict
judge [] = Ok tt
judge (r ∷ rs) = cond r.holds (judge rs) (Err r.refusal)

-- the second verdict where the first accepts
abbrev pub in_turn : Verdict → Verdict → Verdict
in_turn (Ok _) then = then
in_turn (Err why) then = Err why

abbrev pub demand : Bool → Refusal → Rule
demand holds refusal = record { holds = holds; refusal = refusal }

-- none of the numbers below m is at fault; the first that is gives the refusal
abbrev pub none_at_fault : ℕ → (ℕ → Bool) → (ℕ → Refusal) → Rule
none_at_fault m at_fault refusal = demand (eqb (first m at_fault) m) (refusal (first m at_fault))
