-- What a checker of pieces holds, and what it says of a piece.
use Rattle.std.proofs.Common.{◌≡◌, Bool, ℕ, List, length, sym, ap, subst, ◌∙◌}
use Rattle.std.specs.Prelude.{◌↔◌, IsTrue, Some}
use Rattle.std.proofs.lemmas.Option.{same_Some}
use Rattle.model_history.specs.declared.op_id.OpId.{OpId}
use Rattle.model_history.specs.History.{HistoryValue}
use Rattle.order_causal.specs.Vectors.{Counts}
use Rattle.cert_check.specs.declared.certificate.Certificate.{Certificate}
use Rattle.cert_check.specs.declared.certificate.Certificate.TheVariants.{Cc, Cm, Ccv}
use Rattle.cert_check.specs.Certificates.{CaseRecord, IsExplainedPiece}
use Rattle.cert_check.specs.Steps.Namings.{AreCountsAt}
use Rattle.cert_check.specs.Steps.Walks.{IsListWalkOf}

module _ {S C R : Type 0} where
  -- the certificate that is held is that of the case file
  pub held_is : (file now : CaseRecord S C R) → file ≡ now → (held certificate : Certificate) → file.2 ≡ Some held → now.2 ≡ Some certificate → held ≡ certificate
  held_is file now same held certificate holds is = same_Some held certificate (sym holds ∙ ap (λ (f : CaseRecord S C R). f.2) same ∙ is)

  -- what decides a piece decides it under other names of the history and of the certificate
  pub decided_as : (answer : S → List C → C → R) (o : OpId) (explained : Bool) (h now : HistoryValue S C R) → h ≡ now → (held certificate : Certificate) → held ≡ certificate
      → IsTrue explained ↔ IsExplainedPiece answer h held o → IsTrue explained ↔ IsExplainedPiece answer now certificate o
  decided_as answer o explained h now same held certificate is exactly =
      subst (λ (x : HistoryValue S C R). IsTrue explained ↔ IsExplainedPiece answer x certificate o) same
      (subst (λ (k : Certificate). IsTrue explained ↔ IsExplainedPiece answer h k o) is exactly)

  -- a walk over the one list, at its front
  pub list_begins : (h : HistoryValue S C R) (held : Certificate) (place : ℕ) (counts : List ℕ) → place ≡ 0
      → ((list : List ℕ) → AreCountsAt list 0 (length h.1) counts) → IsListWalkOf h held place counts
  list_begins h (Cc v schedules) place counts front begins = tt
  list_begins h (Cm v schedules) place counts front begins = tt
  list_begins h (Ccv v arbitration) place counts front begins = subst (λ (k : ℕ). AreCountsAt arbitration k (length h.1) counts) (sym front) (begins arbitration)

  -- and where the certificate has one
  pub list_walk_at : (h : HistoryValue S C R) (held : Certificate) (v : Counts) (arbitration : List ℕ) → held ≡ Ccv v arbitration → (place : ℕ) (counts : List ℕ)
      → IsListWalkOf h held place counts → AreCountsAt arbitration place (length h.1) counts
  list_walk_at h held v arbitration is place counts walked = subst (λ (k : Certificate). IsListWalkOf h k place counts) is walked

  pub list_walk_on : (h : HistoryValue S C R) (held : Certificate) (v : Counts) (arbitration : List ℕ) → held ≡ Ccv v arbitration → (place : ℕ) (counts : List ℕ)
      → AreCountsAt arbitration place (length h.1) counts → IsListWalkOf h held place counts
  list_walk_on h held v arbitration is place counts at = subst (λ (k : Certificate). IsListWalkOf h k place counts) (sym is) at
