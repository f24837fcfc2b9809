-- What the pieces of a certificate of a history show.
use Rattle.std.specs.Prelude.{◌≡◌, ⊤}
use Rattle.json_histories.specs.declared.any_history.AnyHistory.{AnyHistory}
use Rattle.cert_check.specs.declared.certificate.Certificate.{Certificate}
use Rattle.cert_check.specs.declared.desk_error.DeskError.{DeskError}
use Rattle.cert_check.specs.declared.desk_error.DeskError.TheVariants.{Memory, ShapeMismatch}
use Rattle.cert_check.specs.Certificates.{HasShapeOf}
use Rattle.live_case_board.specs.declared.answer.Answer.{Answer}
use Rattle.live_case_answers.specs.Shown.{IsSaidOf}
use Rattle.app_findings.specs.Answers.{HoldsOf}

-- a certificate has the shape of a history
abbrev pub HasShape : AnyHistory → Certificate → Type 0
HasShape history certificate = HoldsOf (λ S C R answer h. HasShapeOf h certificate) history

-- an answer says what the pieces of a certificate of the history show
abbrev pub IsShown : AnyHistory → Certificate → Answer → Type 0
IsShown history certificate said = HoldsOf (λ S C R answer h. IsSaidOf answer h certificate said) history

-- why a certificate with a form is not checked: it does not have the shape of the history, or memory ran out
abbrev pub IsCheckError : Type 0 → DeskError → Type 0
IsCheckError has_shape ShapeMismatch = ¬ has_shape
IsCheckError has_shape Memory = ⊤
IsCheckError has_shape _ = ⊥
