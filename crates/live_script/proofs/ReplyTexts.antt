-- The line of a reply that shows no history.
use Rattle.std.proofs.Common.{◌≡◌, ◌≢◌, ℕ, List, true, false, Option, Some, None, refl}
use Rattle.serde_json.specs.Data.{Data}
use Rattle.model_history.specs.History.{HistoryValue}
use Rattle.live_simulation.specs.declared.reply.ReplyOf.{ReplyOf}
use Rattle.live_simulation.specs.declared.reply.ReplyOf.TheVariants.{Done, Sealer, Found, Sealed, Case, Taken, Verdict, Accepted, Answer, Refused}
use Rattle.live_script.specs.ReplyLines.{line_for}
use Rattle.live_script.specs.Steps.Lines.{other_text}

module _ {S C R : Type 0} (name : List ℕ) (operation_form : C → Option R → Data) (start_form : S → List Data) where
  pub other_line : (reply : ReplyOf (HistoryValue S C R)) → ((h : HistoryValue S C R) → reply ≢ Sealed h) → other_text reply ≡ line_for name operation_form start_form reply
  other_line (Done o) other = refl
  other_line (Sealer z) other = refl
  other_line (Found cell true) other = refl
  other_line (Found cell false) other = refl
  other_line (Sealed h) other = absurd (other h refl)
  other_line (Case c) other = refl
  other_line (Taken None) other = refl
  other_line (Taken (Some piece)) other = refl
  other_line (Verdict v outcome) other = refl
  other_line Accepted other = refl
  other_line (Answer answer) other = refl
  other_line (Refused refusal) other = refl
