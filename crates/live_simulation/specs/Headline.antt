-- What a run says of the histories that its cases were filed from.
use Rattle.std.specs.Prelude.{◌≡◌, ℕ, List, Option, Some, slice_get}
use Rattle.model_history.specs.History.{HistoryValue}
use Rattle.live_seals.specs.Cuts.{IsConsistentCut}
use Rattle.cert_check.specs.declared.criterion.Criterion.{Criterion}
use Rattle.cert_check.specs.declared.certificate.Certificate.{Certificate}
use Rattle.cert_check.specs.Criteria.{Meets}
use Rattle.pattern_check.specs.declared.kind.Kind.{Kind}
use Rattle.live_case_board.specs.declared.answer.Answer.TheVariants.{Yes, No}
use Rattle.live_simulation.specs.declared.step.StepOf.{StepOf}
use Rattle.live_simulation.specs.declared.step.StepOf.TheVariants.{Ask}
use Rattle.live_simulation.specs.declared.reply.ReplyOf.{ReplyOf}
use Rattle.live_simulation.specs.declared.reply.ReplyOf.TheVariants.{Answer}
use Rattle.live_simulation.specs.Happened.{events}
use Rattle.live_simulation.specs.LaneReplies.{seal}
use Rattle.live_simulation.specs.Cases.{filings}

module _ {S C R : Type 0} (start : S) (k : ℕ) (es : List (StepOf C R × ReplyOf (HistoryValue S C R))) where
  -- each sealer that has finished has sealed a consistent cut of what its sessions recorded
  abbrev pub SealsAreCuts : Type 0
  SealsAreCuts = (z : ℕ) (h : HistoryValue S C R) → seal start k (events es) z ≡ Some h → IsConsistentCut (events es) z h

  -- the case was filed from a finished sealer, which sealed this history, to be judged by this criterion
  pub record IsFiledFrom (c : ℕ) (h : HistoryValue S C R) (criterion : Criterion) : Type 0 where
    pub sealer : ℕ
    pub certificate : Option Certificate
    pub filed : slice_get (filings es) c ≡ Some record { sealer = sealer; criterion = criterion; certificate = certificate }
    pub sealed : seal start k (events es) sealer ≡ Some h

  -- each yes is true: the history that the case was filed from meets the criterion
  abbrev pub EachYesIsTrue : (S → List C → C → R) → Type 0
  EachYesIsTrue answer =
      (i c : ℕ) → slice_get es i ≡ Some (Ask c, Answer Yes)
      → (h : HistoryValue S C R) × (criterion : Criterion) × IsFiledFrom c h criterion × Meets answer h criterion

  -- each no is true: the kind excludes the criterion in that history, which does not meet it
  abbrev pub EachNoIsTrue : (S → List C → C → R) → (HistoryValue S C R → Criterion → Kind → Type 0) → Type 0
  EachNoIsTrue answer excluded =
      (i c : ℕ) (kind : Kind) → slice_get es i ≡ Some (Ask c, Answer (No kind))
      → (h : HistoryValue S C R) × (criterion : Criterion) × IsFiledFrom c h criterion × excluded h criterion kind × ¬ Meets answer h criterion
