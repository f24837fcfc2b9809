-- The numbers of a certificate of which every piece explains its operation are in range.
use Rattle.std.proofs.Common.{ℕ, ◌<◌, ◌≤◌, ◌^◌, Bool, List, [], All, length, get_or, take, arith}
use Rattle.std.proofs.lemmas.List.Elements.{All-from_get_or}
use Rattle.std.proofs.lemmas.Option.{slice_get-get_or}
use Rattle.model_history.specs.declared.op_id.OpId.{OpId}
use Rattle.model_history.specs.History.{HistoryValue, IsOp, IsHistory, session}
use Rattle.order_causal.specs.Orders.{op, StandsAt}
use Rattle.order_causal.specs.Vectors.{ByOperation, Counts, count, list_of, HasOneEach}
use Rattle.order_causal.proofs.OrdersLaws.{session-of_history}
use Rattle.cert_check.specs.declared.certificate.Certificate.{Certificate}
use Rattle.cert_check.specs.declared.certificate.Certificate.TheVariants.{Cc, Cm, Ccv}
use Rattle.cert_check.specs.CertificateForm.{AreBelow, IsCertificate}
use Rattle.cert_check.specs.Certificates.{HasShapeOf, IsExplainedThroughout}
use Rattle.cert_check.specs.Schedules.{named}
use Rattle.order_causal.specs.Schedules.{placed}
use Rattle.cert_check.proofs.Named.{named_at, named_within}

-- counts that are at most the lengths of sessions
counts-below : (v : Counts) (o : OpId) (lengths : ℕ → ℕ) → ((s : ℕ) → count v o s ≤ lengths s) → ((s : ℕ) → lengths s ≤ 256)
    → All (λ n. n < 2 ^ 16) (list_of v o)
counts-below v o lengths existing short = All-from_get_or (λ n. n < 2 ^ 16) (list_of v o) 0 (λ s below.
    let counts = existing s in
    let few = short s in
    omega arith)

module _ {S C R : Type 0} (h : HistoryValue S C R) where
  -- lists that are in range for each operation of the history
  lists-below : (limit : ℕ) (lists : ByOperation ℕ) → HasOneEach h lists
      → ((o : OpId) → IsOp h o → All (λ n. n < limit) (list_of lists o)) → AreBelow limit lists
  lists-below limit lists one_each each =
      All-from_get_or (All (All (λ n. n < limit))) lists [] (λ s _.
      All-from_get_or (All (λ n. n < limit)) (get_or lists s []) [] (λ i below.
      let long = one_each.operations s in
      each (op s i) (omega arith)))

  -- the numbers of a list that names operations of the history
  sessions-below : (list : List ℕ) → length h.1 ≤ 16 → ((k : ℕ) (a : OpId) → StandsAt (named list) k a → IsOp h a)
      → All (λ s. s < 16) list
  sessions-below list few of_history = All-from_get_or (λ s. s < 16) list 0 (λ k below.
      let s : ℕ = get_or list k 0 in
      let a : OpId = op s (placed (take k list) s) in
      let inside = session-of_history h a (of_history k a (named_at list k s (slice_get-get_or list k 0 below))) in
      omega arith)

  module _ (is_start : S → Type 0) (fits : C → R → Bool) (limits : IsHistory is_start fits h) (answer : S → List C → C → R) where
    pub explained-in_range : (c : Certificate) → HasShapeOf h c → IsExplainedThroughout answer h c → IsCertificate c
    explained-in_range (Cc v schedules) shape explained = (
      lists-below (2 ^ 16) v shape.0.one_each (λ o is_op. counts-below v o (λ s. length (session h s)) (explained o is_op).vector.existing (λ s. (limits.each s).short)),
      lists-below 16 schedules shape.1 (λ o is_op. sessions-below (list_of schedules o) limits.few (explained o is_op).schedules.existing),
    )
    explained-in_range (Cm v schedules) shape explained = (
      lists-below (2 ^ 16) v shape.0.one_each (λ o is_op. counts-below v o (λ s. length (session h s)) (explained o is_op).vector.existing (λ s. (limits.each s).short)),
      lists-below 16 schedules shape.1 (λ o is_op. sessions-below (list_of schedules o) limits.few (explained o is_op).schedules.existing),
    )
    explained-in_range (Ccv v arbitration) shape explained = (
      lists-below (2 ^ 16) v shape.0.one_each (λ o is_op. counts-below v o (λ s. length (session h s)) (explained o is_op).vector.existing (λ s. (limits.each s).short)),
      sessions-below arbitration limits.few (λ k a stands.
          let within = named_within arbitration k a stands in
          let ends = shape.1 a.session in
          omega arith),
    )
