-- The lines of replies that show no history.
use Rattle.std.specs.Prelude.{ℕ, List, [], ◌++◌, true, false, codes, decimal, Some, None}
use Rattle.live_simulation.specs.declared.reply.ReplyOf.{ReplyOf}
use Rattle.live_simulation.specs.declared.reply.ReplyOf.TheVariants.{Done, Sealer, Found, Sealed, Case, Taken, Verdict, Accepted, Answer, Refused}
use Rattle.live_simulation.specs.Refusals.{number_of}
use Rattle.live_script.specs.ReplyLines.{answer_text, operation_text, verdict_text}

abbrev pub other_text : {H : Type 0} → ReplyOf H → List ℕ
other_text (Done o) = codes "ok " ++ operation_text o
other_text (Sealer z) = codes "ok " ++ (decimal z ++ codes "\n")
other_text (Found cell true) = codes "seen\n"
other_text (Found cell false) = codes "none\n"
other_text (Sealed h) = []
other_text (Case c) = codes "ok " ++ (decimal c ++ codes "\n")
other_text (Taken None) = codes "none\n"
other_text (Taken (Some piece)) = codes "take " ++ (decimal piece.number ++ (codes " " ++ operation_text piece.op))
other_text (Verdict v outcome) = verdict_text v outcome
other_text Accepted = codes "ok\n"
other_text (Answer answer) = answer_text answer
other_text (Refused refusal) = codes "refused " ++ (decimal (number_of refusal) ++ codes "\n")
