-- Turns stand by other vectors that count the same where it matters.
use Rattle.std.proofs.Common.{◌≡◌, ℕ, zero, suc, ◌+◌, ◌<◌, ◌≤◌, List, [], length, take, get_or, arith, refl, sym, subst, ◌∙◌, ⊎_elim}
use Rattle.std.specs.Prelude.{◌≢◌, slice_index_or}
use Rattle.model_history.specs.declared.op_id.OpId.{OpId}
use Rattle.model_history.specs.History.{session}
use Rattle.order_causal.proofs.FullWalks.{walk-within}
use Rattle.order_causal.proofs.TopologicalLaws.{placed-same}
use Rattle.order_causal.specs.Orders.{op}
use Rattle.order_causal.specs.Schedules.{placed, next_of}
use Rattle.order_causal.specs.Topological.{CanGoOn, IsFullWalk}
use Rattle.order_causal.specs.Vectors.{Counts, IsCounted, count, list_of}
use Rattle.order_memory.specs.declared.happened_before.HappenedBefore.{HappenedBefore}
use Rattle.order_memory.specs.Memory.{MemoryHistory}
use Rattle.order_memory.specs.Raises.{IsRaisedSince}
use Rattle.order_memory.specs.Steps.GrowingOrders.{AreHeldVectors}
use Rattle.order_memory.specs.Steps.HappenedBefores.{IsMade, TakesNext, raises_of, vectors_of}
use Rattle.cert_make_cm.specs.Steps.Started.{AreStarted}
use Rattle.cert_make_cm.specs.Turns.{AreTurns}

-- vectors of the same operations, and limits, that are the same below the limits
record AreAlike (v w : Counts) (limits bounds : List ℕ) : Type 0 where
  pub operations : (s : ℕ) → length (slice_index_or v s []) ≡ length (slice_index_or w s [])
  pub limited : (s : ℕ) → get_or limits s 0 ≡ get_or bounds s 0
  pub counts : (p : OpId) → p.index < get_or limits p.session 0 → (t : ℕ) → count v p t ≡ count w p t

alike-back : (v w : Counts) (limits bounds : List ℕ) → AreAlike v w limits bounds → AreAlike w v bounds limits
alike-back v w limits bounds alike = record {
  operations = λ s. sym (alike.operations s);
  limited = λ s. sym (alike.limited s);
  counts = λ p below t. let same = alike.limited p.session in sym (alike.counts p (omega arith) t);
}

-- the same sessions can go on
can-alike : (v w : Counts) (limits bounds : List ℕ) → AreAlike v w limits bounds → (schedule : List ℕ) (s : ℕ)
    → CanGoOn v limits schedule s → CanGoOn w bounds schedule s
can-alike v w limits bounds alike schedule s can =
    let below = can.below in
    let same = alike.limited s in
    record {
      there = let there = can.there in let operations = alike.operations s in omega arith;
      below = omega arith;
      ready = λ t apart.
          let ready = can.ready t apart in
          let counts = alike.counts (next_of schedule s) below t in
          omega arith;
    }

-- so a full walk by the one is one by the other
walk-alike : (v w : Counts) (limits bounds before whole : List ℕ) → AreAlike v w limits bounds
    → IsFullWalk v limits before whole → IsFullWalk w bounds before whole
walk-alike v w limits bounds before whole alike full =
    let back = alike-back v w limits bounds alike in
    record {
      walk = record {
        extends = full.walk.extends;
        each = λ k s from at.
            let next = full.walk.each k s from at in
            record {
              can = can-alike v w limits bounds alike (take k whole) s next.can;
              least = λ t below can. next.least t below (can-alike w v bounds limits back (take k whole) t can);
            };
      };
      ended = λ s can. full.ended s (can-alike w v bounds limits back whole s can);
    }

-- and so are turns
turns-alike : (v w : Counts) (s n : ℕ) → ((m : ℕ) → m < n → AreAlike v w (list_of v (op s m)) (list_of w (op s m)))
    → (schedule : List ℕ) → AreTurns v s n schedule → AreTurns w s n schedule
turns-alike v w s zero alike schedule none = none
turns-alike v w s (suc n) alike schedule (before, earlier, turn) = (
  before,
  turns-alike v w s n (λ m below. alike m (omega arith)) before earlier,
  record {
    counted = turn.counted;
    walk = walk-alike v w (list_of v (op s n)) (list_of w (op s n)) before turn.counted (alike n (omega arith)) turn.walk;
    last = turn.last;
  },
)

-- turns place no more of their session than it has operations, and one for each turn
pub turns-few : (h : MemoryHistory) (v : Counts) → AreHeldVectors h v → (s n : ℕ) → n ≤ length (session h s)
    → (schedule : List ℕ) → AreTurns v s n schedule → placed schedule s ≤ length (session h s) + n
turns-few h v held s zero inside schedule none = subst (λ (xs : List ℕ). placed xs s ≤ length (session h s) + zero) (sym none) (omega arith)
turns-few h v held s (suc n) inside schedule (before, earlier, turn) =
    let few = turns-few h v held s n (omega arith) before earlier in
    let most = held.held (op s n) s (omega arith) in
    let within = walk-within v (list_of v (op s n)) before turn.counted turn.walk.walk s in
    let more = placed-same turn.counted s in
    subst (λ (xs : List ℕ). placed xs s ≤ length (session h s) + suc n) (sym turn.last) (omega arith)

-- of the first n operations of the session s, none was raised since the relation before, nor was one that it counts
abbrev pub AreUnraised : HappenedBefore → HappenedBefore → ℕ → ℕ → Type 0
AreUnraised a b s n =
    (m : ℕ) (p : OpId) → m < n → IsRaisedSince (raises_of b) (length (raises_of a)) p → (p ≢ op s m) × ¬ IsCounted (vectors_of b) (op s m) p

-- their turns stand where an operation more is taken in
turns-kept : (h : MemoryHistory) (a b : HappenedBefore) → IsMade h a → TakesNext h a b → (s n : ℕ) → AreUnraised a b s n
    → (schedule : List ℕ) → AreTurns (vectors_of a) s n schedule → AreTurns (vectors_of b) s n schedule
turns-kept h a b made takes s n kept =
    let v : Counts = vectors_of a in
    let w : Counts = vectors_of b in
    turns-alike v w s n (λ m below.
    let limits : (u : ℕ) → count v (op s m) u ≡ count w (op s m) u =
    λ u. ⊎_elim
    (λ (same : count w (op s m) u ≡ count v (op s m) u). sym same)
    (λ (since : IsRaisedSince (raises_of b) (length (raises_of a)) (op s m)). absurd ((kept m (op s m) below since).0 refl))
    (takes.same (op s m) u) in
    record {
      operations = λ u. made.well_formed.order.counts.vectors.one_each.operations u
          ∙ sym (takes.made.well_formed.order.counts.vectors.one_each.operations u);
      limited = limits;
      counts = λ p counted t. ⊎_elim
          (λ (same : count w p t ≡ count v p t). sym same)
          (λ (since : IsRaisedSince (raises_of b) (length (raises_of a)) p).
          let limit = limits p.session in
          absurd ((kept m p below since).1 (omega arith)))
          (takes.same p t);
    })

started-kept : (h : MemoryHistory) (a b : HappenedBefore) → IsMade h a → TakesNext h a b → (s n : ℕ) → AreUnraised a b s n
    → (schedule starts : List ℕ) → AreStarted (vectors_of a) s n schedule starts → AreStarted (vectors_of b) s n schedule starts
started-kept h a b made takes s n kept schedule starts started = record {
  size = started.size;
  turns = turns-kept h a b made takes s n kept schedule started.turns;
  rising = started.rising;
  inside = started.inside;
  each = λ m below.
      turns-kept h a b made takes s m (λ j p less. kept j p (omega arith)) (take (get_or starts m 0) schedule) (started.each m below);
}

-- so do the first n of them that were kept
pub kept-started : (h : MemoryHistory) (a b : HappenedBefore) → IsMade h a → TakesNext h a b → (s n all : ℕ) → n ≤ all → AreUnraised a b s n
    → (schedule starts shorter fewer : List ℕ) → AreStarted (vectors_of a) s all schedule starts
    → ((v : Counts) (t m : ℕ) → n ≤ m → AreStarted v t m schedule starts → AreStarted v t n shorter fewer)
    → AreStarted (vectors_of b) s (length fewer) shorter fewer
kept-started h a b made takes s n all up_to kept schedule starts shorter fewer started keeps =
    let first = keeps (vectors_of a) s all up_to started in
    subst (λ (k : ℕ). AreStarted (vectors_of b) s k shorter fewer) (sym first.size) (started-kept h a b made takes s n kept shorter fewer first)
