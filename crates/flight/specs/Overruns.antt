-- The overruns in a list of calls, by task. 02, R-2: "a task's count is the number of its accepted reports above C".
use Rattle.std.specs.Prelude.{◌&&◌, List, [], ◌∷◌, ℕ, ◌+◌, eqb}
use Rattle.cursor.specs.Choice.{bit}
use Rattle.request.specs.Request.{reading}
use Rattle.dispatcher.specs.Dispatch.{overran}
use Rattle.flight.specs.Calls.{Call, next_frame_call, report}

-- 1 for a report of task i that is accepted and above C
abbrev pub overrun_in : ℕ → Call → ℕ
overrun_in i next_frame_call = 0
overrun_in i (report bytes task ticks) = bit (eqb task i && overran (reading bytes) task ticks)

-- how many of the calls are such reports
unfoldable pub overruns : ℕ → List Call → ℕ
overruns i [] = 0
overruns i (c ∷ cs) = overrun_in i c + overruns i cs
