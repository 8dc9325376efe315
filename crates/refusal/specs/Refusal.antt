-- "Where a number is given": the number of each refusal; and the number in an answer, where 0 is none.
use Rattle.std.specs.Prelude.{ℕ, Result, Ok, Err}
use Rattle.refusal.specs.declared.Refusal.{Refusal}
use Rattle.refusal.specs.declared.Refusal.TheVariants.{EndsEarly, TaskCount, TaskRule, PairCount, PairRule, BytesBehind, LongCycle, ManyJobs}
use Rattle.refusal.specs.declared.Refusal.TheVariants.{NoPlausibleLength, NoPlan, ShortBuffer, NotATable, WrongSizes, NotAPlan, NoSuchRow, NoSuchTask}
use Rattle.refusal.specs.declared.Refusal.TheVariants.{SilentSection, TooManyTasks, TooManyPairs, SilentTicksDiffer, WrongSpan, NoFrameFits, AllowanceUsed}
use Rattle.refusal.specs.declared.Refusal.TheVariants.{NoSuchCut, TasksFull, WrongDraft, OutsideWindow, RowOrOrder, NoSuchRegister, NoSuchPair}

abbrev pub number_of : Refusal → ℕ
-- "bytes end inside a section or before its count"
number_of EndsEarly = 1
-- "n is 0 or above 16"
number_of TaskCount = 2
-- "a task breaks its inequalities"
number_of TaskRule = 3
-- "pair count above 16"
number_of PairCount = 4
-- "a pair breaks its rule"
number_of PairRule = 5
-- "bytes follow the last pair"; of a third section: "behind this section"
number_of BytesBehind = 6
-- "H above 10,000"
number_of LongCycle = 7
-- "more than 128 jobs"
number_of ManyJobs = 8
-- "no plausible f"
number_of NoPlausibleLength = 9
-- "some plausible f, no plan"
number_of NoPlan = 10
-- "buffer shorter than the table"; of a request: "A short buffer gives 11"
number_of ShortBuffer = 11
-- "not the form above"
number_of NotATable = 12
-- "H not the request's, or f not plausible"
number_of WrongSizes = 13
-- "not a plan"
number_of NotAPlan = 14
-- "row not below F"
number_of NoSuchRow = 15
-- "task number not below n"
number_of NoSuchTask = 16
-- "a count above 1 or a g above 15"
number_of SilentSection = 17
-- "more than 16 tasks"
number_of TooManyTasks = 18
-- "more than 16 pairs"
number_of TooManyPairs = 19
-- "differing g"
number_of SilentTicksDiffer = 20
-- "if L is 0, s > e or e > 2H"
number_of WrongSpan = 21
-- "when no frame fits"
number_of NoFrameFits = 22
-- "when the full search needs more tries than allowed"
number_of AllowanceUsed = 23
-- "if i is not below n or u is not from 1 to C − 1"
number_of NoSuchCut = 24
-- "if n is already 16"
number_of TasksFull = 25
-- "a draft whose frame length is not plausible, whose loads are not its row sums or whose placed jobs break window, capacity or order, an unknown job, a lift of
-- a lifted job, a put of a placed one, or writing while a job is lifted"
number_of WrongDraft = 26
-- "a frame outside the window"
number_of OutsideWindow = 27
-- "a row over f or a pair out of order with a placed job"
number_of RowOrOrder = 28
-- "an address above 7"
number_of NoSuchRegister = 29
-- "when a, b is no pair of the request"
number_of NoSuchPair = 30

abbrev pub refusal_in : {T : Type 0} → Result T Refusal → ℕ
refusal_in (Ok x) = 0
refusal_in (Err e) = number_of e
