-- What is said of a run that failed, piece by piece.
use Rattle.std.specs.Prelude.{◌≡◌, ℕ, List, [], Bool, true, Option, codes, refl}
use Rattle.std.specs.Io.KnownBytes.{Appends}
use Rattle.std.proofs.Common.{inl, inr}
use Rattle.app_orders.specs.declared.detail.Detail.{Detail}
use Rattle.app_orders.specs.declared.detail.Detail.TheVariants.{Number, Reason}
use Rattle.show_refusals.specs.declared.refusal.Refusal.{Refusal}
use Rattle.app_engine.specs.declared.failure.RunError.{RunError}
use Rattle.app_engine.specs.Failure.{failure_status, line_for}
use Rattle.app_process.specs.Failing.{IsReason, Refuses, SaysFurther, asks_why}
use Rattle.app_process.specs.Saying.{said_lines}
use Rattle.app_process.proofs.SaidLaws.{appends_both, appends_nothing}

module _ (label : Option (List ℕ)) (at_terminal : Bool) (refusal : Option Refusal) where
  pub says_nothing : (detail : Detail) (a : Option (List ℕ)) → SaysFurther label at_terminal detail refusal a a
  says_nothing detail a = ([], inl refl, appends_nothing a)

  pub says_reason : (detail : Detail) (line : List ℕ) (a b : Option (List ℕ)) → detail ≡ Reason → IsReason refusal line
      → Appends a b (said_lines label line) → SaysFurther label at_terminal detail refusal a b
  says_reason detail line a b asked reason said = (said_lines label line, inr (inl (line, asked, reason, refl)), said)

  pub says_advice : (detail : Detail) (a b : Option (List ℕ)) → detail ≡ Number → at_terminal ≡ true
      → Appends a b (said_lines label asks_why) → SaysFurther label at_terminal detail refusal a b
  says_advice detail a b asked at said = (said_lines label asks_why, inr (inr (asked, at, refl)), said)

  -- the line, and what comes after it
  pub refuses : (detail : Detail) (error : RunError) (a b c : Option (List ℕ)) (status : ℕ) → status ≡ failure_status error
      → Appends a b (said_lines label (line_for error)) → SaysFurther label at_terminal detail refusal b c
      → Refuses label at_terminal detail refusal error a c status
  refuses detail error a b c status is_status line further =
      inl (record {
        further = further.0;
        is_status = is_status;
        is_further = further.1;
        said = appends_both a b c (said_lines label (line_for error)) further.0 line further.2;
      })

  pub refuses_short : (detail : Detail) (error : RunError) (a b : Option (List ℕ)) (status : ℕ) → status ≡ 4
      → Appends a b (said_lines label (codes "no memory")) → Refuses label at_terminal detail refusal error a b status
  refuses_short detail error a b status is_status said = inr (is_status, said)
