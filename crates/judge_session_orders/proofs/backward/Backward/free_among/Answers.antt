use Rattle.std.specs.Prelude.{◌≡◌, ◌≢◌, ℕ, slice_index_or}
use Rattle.std.proofs.Common.{arith, sym, subst, ⊎_elim}
use Rattle.std.proofs.lemmas.Bool.{cases_eq}
use Rattle.judge_session_orders.specs.Backward.{IsOpen}
use Rattle.judge_session_orders.specs.OnItsWay.{IsStopped, left_of}
use Rattle.judge_session_orders.proofs.Awake.{awake-exists}
use Rattle.judge_session_orders.proofs.backward.Backward.free_among.Goals as goal

pub is_free_other-requires-clause-exists : goal.is_free_other-requires-clause-exists
is_free_other-requires-clause-exists c =
    awake-exists c.args.index.now c.args.self.now c.args.sessions.now c.requires.awake c.loop-place.place (omega arith)

pub loop-place-preserved : goal.loop-place-preserved
loop-place-preserved c j from below other is_open = ⊎_elim
    (λ (here : j ≡ c.loop-place.place).
    subst (λ (n : ℕ). slice_index_or c.args.sessions.now n 0 ≢ c.args.self.now.own
    → IsOpen (left_of c.args.index.now.history c.args.self.now) (slice_index_or c.args.sessions.now n 0)
    → IsStopped c.args.index.now c.args.self.now (slice_index_or c.args.sessions.now n 0)) (sym here)
    (c.if-is_free_other.ensures.stopped (λ t. absurd cc)) other is_open)
    (λ (apart : j ≢ c.loop-place.place). c.loop-place.invariant j from (omega arith) other is_open)
    (cases_eq j c.loop-place.place)
