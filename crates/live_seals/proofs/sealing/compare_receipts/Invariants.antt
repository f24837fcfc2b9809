use Rattle.std.proofs.Common.{◌≡◌, ◌<◌, ℕ}
use Rattle.std.specs.Prelude.{Some, slice_get}
use Rattle.live_recorder.specs.Sessions.{ReceiptState}
use Rattle.live_seals.specs.Steps.Sealing.{IsShown}
use Rattle.live_seals.proofs.sealing.compare_receipts.Given as goal

abbrev pub invariant-loop-receipt : goal.invariant-loop-receipt
invariant-loop-receipt g l = (j : ℕ) (r : ReceiptState _ _) → j < l.receipt-index → slice_get l.receipts j ≡ Some r → IsShown l.lanes.items r
