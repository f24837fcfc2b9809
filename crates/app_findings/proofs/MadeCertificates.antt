-- A certificate that was made certifies, where it explains each operation.
use Rattle.std.proofs.Common.{◌≡◌, List, Option, Some, None, Result, Ok, Err, IfOk, IfSome}
use Rattle.model_history.specs.History.{HistoryValue}
use Rattle.cert_check.specs.declared.criterion.Criterion.{Criterion}
use Rattle.cert_check.specs.declared.certificate.Certificate.{Certificate}
use Rattle.cert_check.specs.Certificates.{Certifies, HasShapeOf, IsExplainedThroughout, criterion_of}

pub certified-made : {S C R E : Type 0} (answer : S → List C → C → R) (h : HistoryValue S C R) (criterion : Criterion) (made : Result (Option Certificate) E)
    → IfOk made (λ m. IfSome m (λ c. criterion_of c ≡ criterion)) → IfOk made (λ m. IfSome m (HasShapeOf h))
    → IfOk made (λ m. IfSome m (IsExplainedThroughout answer h)) → IfOk made (λ m. IfSome m (Certifies answer h criterion))
certified-made answer h criterion (Ok (Some certificate)) same shape explained = (same, shape, explained)
certified-made answer h criterion (Ok None) same shape explained = tt
certified-made answer h criterion (Err e) same shape explained = tt
