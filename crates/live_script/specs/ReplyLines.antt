-- The line of a reply, with its line feed (this project's profile).
use Rattle.std.specs.Prelude.{ℕ, List, ◌++◌, true, false, codes, decimal, Option, Some, None}
use Rattle.serde_json.specs.Data.{Data}
use Rattle.serde_json.specs.Written.{compact_text}
use Rattle.model_history.specs.declared.op_id.OpId.{OpId}
use Rattle.model_history.specs.History.{HistoryValue}
use Rattle.json_histories.specs.Form.{history_form}
use Rattle.cert_check.specs.declared.checking.Outcome.{Outcome}
use Rattle.cert_check.specs.declared.checking.Outcome.TheVariants.{Explained, Unexplained}
use Rattle.pattern_check.specs.KindNames.{kind_name}
use Rattle.live_case_board.specs.declared.answer.Answer.{Answer as Standing}
use Rattle.live_case_board.specs.declared.answer.Answer.TheVariants.{Yes, No, Unknown, Open}
use Rattle.live_simulation.specs.declared.reply.ReplyOf.{ReplyOf}
use Rattle.live_simulation.specs.declared.reply.ReplyOf.TheVariants.{Done, Sealer, Found, Sealed, Case, Taken, Verdict, Accepted, Answer, Refused}
use Rattle.live_simulation.specs.Refusals.{number_of}

-- an operation: its session and its index
abbrev pub operation_text : OpId → List ℕ
operation_text o = decimal o.session ++ (codes "." ++ (decimal o.index ++ codes "\n"))

-- a verdict, with its number
abbrev pub verdict_text : ℕ → Outcome → List ℕ
verdict_text v Explained = codes "verdict " ++ (decimal v ++ codes " explained\n")
verdict_text v Unexplained = codes "verdict " ++ (decimal v ++ codes " unexplained\n")

-- how a case stands
abbrev pub answer_text : Standing → List ℕ
answer_text Yes = codes "yes\n"
answer_text (No kind) = codes "no " ++ (kind_name kind ++ codes "\n")
answer_text (Unknown None) = codes "unknown\n"
answer_text (Unknown (Some o)) = codes "unknown " ++ operation_text o
answer_text (Open n) = codes "open " ++ (decimal n ++ codes "\n")

module _ {S C R : Type 0} (name : List ℕ) (operation_form : C → Option R → Data) (start_form : S → List Data) where
  -- the line of a reply; a history is written as compact JSON
  abbrev pub line_for : ReplyOf (HistoryValue S C R) → List ℕ
  line_for (Done o) = codes "ok " ++ operation_text o
  line_for (Sealer z) = codes "ok " ++ (decimal z ++ codes "\n")
  line_for (Found cell true) = codes "seen\n"
  line_for (Found cell false) = codes "none\n"
  line_for (Sealed h) = compact_text (history_form name operation_form start_form h) ++ codes "\n"
  line_for (Case c) = codes "ok " ++ (decimal c ++ codes "\n")
  line_for (Taken None) = codes "none\n"
  line_for (Taken (Some piece)) = codes "take " ++ (decimal piece.number ++ (codes " " ++ operation_text piece.op))
  line_for (Verdict v outcome) = verdict_text v outcome
  line_for Accepted = codes "ok\n"
  line_for (Answer standing) = answer_text standing
  line_for (Refused refusal) = codes "refused " ++ (decimal (number_of refusal) ++ codes "\n")
