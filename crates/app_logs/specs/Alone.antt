-- What is answered to a log in memory, and when it has no answer.
use Rattle.std.specs.Prelude.{⊤, ℕ, List, Bool, None}
use Rattle.app_orders.specs.Expected.{expecting_nothing}
use Rattle.app_orders.specs.declared.log_order.LogJudging.{LogJudging}
use Rattle.app_orders.specs.declared.log_order.LogOrder.{LogOrder}
use Rattle.json_lines.specs.declared.outcome.Outcome.{Outcome}
use Rattle.log_reader.specs.Logs.{IsLogOf, IsRefusedLog, Log}
use Rattle.app_logs.specs.declared.failure.LogError.{LogError}
use Rattle.app_logs.specs.declared.failure.LogError.TheVariants.{Refused, Memory, ReadFault, WriteFault}
use Rattle.app_logs.specs.LogAnswers.{IsLogAnswer}

-- how a log is judged once, and nothing is expected of it. The calling thread takes the place of the workers
abbrev pub judging_once : LogJudging
judging_once = record { workers = 2; expected = expecting_nothing; every = None }

-- these bytes have a log, whose last line may be torn; the text answers it, and this comes of it
abbrev pub IsAnswerTo : LogOrder → List ℕ → List ℕ → Outcome → Type 0
IsAnswerTo order bytes text outcome = (log : Log) × (torn : Bool) × IsLogOf bytes log torn × IsLogAnswer order log text outcome

-- the error of a log in memory
abbrev pub memory_error : LogError → LogError
memory_error (Refused refusal) = Refused refusal
memory_error Memory = Memory
memory_error ReadFault = Memory
memory_error WriteFault = Memory

-- why it has no answer: a line of it is refused, or memory ran out
abbrev pub IsMemoryError : List ℕ → LogError → Type 0
IsMemoryError bytes (Refused refusal) = IsRefusedLog bytes refusal
IsMemoryError bytes Memory = ⊤
IsMemoryError bytes ReadFault = ⊥
IsMemoryError bytes WriteFault = ⊥
