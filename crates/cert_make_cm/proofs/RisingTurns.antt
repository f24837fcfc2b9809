-- Along a session the vectors of a happened-before relation rise.
use Rattle.std.proofs.Common.{◌≡◌, ℕ, zero, suc, ◌≤◌, length, arith, refl}
use Rattle.std.specs.Prelude.{slice_index}
use Rattle.model_history.specs.History.{session}
use Rattle.order_causal.specs.Orders.{op}
use Rattle.order_causal.specs.Vectors.{Counts}
use Rattle.order_memory.specs.declared.happened_before.HappenedBefore.{HappenedBefore}
use Rattle.order_memory.specs.Memory.{MemoryHistory}
use Rattle.order_memory.specs.SourceOrder.{CountsSourceOrder}
use Rattle.order_memory.specs.Steps.GrowthSteps.{IsGivenUp}
use Rattle.order_memory.specs.Steps.HappenedBefores.{IsMade, past_count, vectors_of, session_of, taken_of}
use Rattle.order_memory.proofs.GrowingSteps.{monotone-to}
use Rattle.order_memory.proofs.SourceVectors.{own-count}
use Rattle.cert_make_cm.specs.Steps.Started.{AreRising}

-- of its own session the past of the first n operations has n
own-past : (h : MemoryHistory) (v : Counts) → CountsSourceOrder h v → (s n : ℕ) → n ≤ length (session h s) → past_count v s n s ≡ n
own-past h v counts s zero inside = refl
own-past h v counts s (suc n) inside = let own = own-count h v counts (op s n) (omega arith) in omega arith

pub made-rising : (h : MemoryHistory) (a : HappenedBefore) → IsMade h a → ¬ IsGivenUp a.order → (n : ℕ) → n ≤ taken_of a
    → AreRising (vectors_of a) (session_of a) n
made-rising h a made kept n up_to =
    let s : ℕ = session_of a in
    let own = own-past h made.causal made.counts s (taken_of a) made.well_formed.taken in
    let all = made.all kept s in
    let taken = made.well_formed.taken in
    record {
      monotone = λ j m z before below.
          monotone-to (vectors_of a) (λ t. slice_index a.order.past.items t) (made.transitive kept).monotone s j m z before (omega arith);
      own = λ m below.
          let begun = made.begun.own (op s m) (omega arith) in
          let grown = made.grown (op s m) s in
          omega arith;
    }
