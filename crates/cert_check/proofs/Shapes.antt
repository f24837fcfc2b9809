-- What the shape of a certificate says of its one list.
use Rattle.std.proofs.Common.{◌≡◌, ℕ, ◌+◌, ◌<◌, ◌≤◌, List, [], length, get_or, refl, sym, ap, ◌∙◌, arith, ⊎_elim, take_all}
use Rattle.std.specs.Prelude.{All, Some, slice_get}
use Rattle.std.proofs.lemmas.Bool.{cases_lt}
use Rattle.std.proofs.lemmas.List.{get_or_past}
use Rattle.std.proofs.lemmas.Option.{slice_get-get_or, slice_get_within, get_or_from_slice_get}
use Rattle.model_history.specs.History.{HistoryValue, session}
use Rattle.order_causal.proofs.Placed.{placed-up}
use Rattle.order_causal.specs.Orders.{op}
use Rattle.order_causal.proofs.OrdersLaws.{session-of_history}
use Rattle.order_causal.specs.Schedules.{placed}
use Rattle.order_causal.specs.Vectors.{AreVectorsOf}
use Rattle.cert_check.specs.declared.certificate.Certificate.{Certificate}
use Rattle.cert_check.specs.declared.certificate.Certificate.TheVariants.{Cc, Cm, Ccv}
use Rattle.cert_check.specs.Certificates.{vectors_of, HasShapeOf}
use Rattle.cert_check.proofs.Named.{placed-next, placed-one, named_each, named_is}

-- a number that occurs at a place occurs
pub times_some : (list : List ℕ) (k s : ℕ) → slice_get list k ≡ Some s → 0 < placed list s
times_some list k s here =
    let next = placed-next s list k s here in
    let one = placed-one s s refl in
    let within = slice_get_within list k s here in
    let up_to = placed-up list (k + 1) (length list) s (omega arith) in
    let whole = ap (λ (xs : List ℕ). placed xs s) (take_all (length list) list (omega arith)) in
    omega arith

-- a number that is too large occurs nowhere
pub times_none : (list : List ℕ) (n s : ℕ) → All (λ t. t < n) list → n ≤ s → placed list s ≡ 0
times_none list n s small large =
    ⊎_elim
    (λ (some : 0 < placed list s).
    let place = named_each list (op s 0) some in
    let here = (named_is list place.0 (op s 0) place.1).0 in
    let within = slice_get_within list place.0 s here in
    let below = small place.0 0 within in
    let is = get_or_from_slice_get list place.0 s 0 here in
    absurd (omega arith))
    (λ (none : placed list s ≤ 0). omega arith)
    (cases_lt 0 (placed list s))

module _ {S C R : Type 0} (h : HistoryValue S C R) where
  -- each number of a list that names each operation is that of a session
  pub names_within : (list : List ℕ) → ((s : ℕ) → placed list s ≡ length (session h s)) → All (λ s. s < length h.1) list
  names_within list exact = λ k d below.
      let s : ℕ = get_or list k d in
      let some = times_some list k s (slice_get-get_or list k d below) in
      let all = exact s in
      session-of_history h (op s 0) (omega arith)

  pub names_all : (list : List ℕ) → All (λ s. s < length h.1) list
      → ((s : ℕ) → s < length h.1 → placed list s ≡ length (session h s))
      → (s : ℕ) → placed list s ≡ length (session h s)
  names_all list small inside s =
      ⊎_elim
      (λ (below : s < length h.1). inside s below)
      (λ (past : length h.1 ≤ s). times_none list (length h.1) s small past ∙ sym (ap length (get_or_past h.1 s [] past)))
      (cases_lt s (length h.1))

-- a certificate of good shape has vectors of the history
pub shape-vectors : {S C R : Type 0} (h : HistoryValue S C R) (certificate : Certificate) → HasShapeOf h certificate → AreVectorsOf h (vectors_of certificate)
shape-vectors h (Cc v schedules) shape = shape.0
shape-vectors h (Cm v schedules) shape = shape.0
shape-vectors h (Ccv v arbitration) shape = shape.0
