-- Schedules in which the operations of a session take turns keep the happened-before relation.
use Rattle.std.proofs.Common.{◌≡◌, ℕ, zero, suc, ◌+◌, ◌<◌, ◌≤◌, List, [], ◌∷◌, ◌++◌, length, take, ⊎_elim, arith, sym, ap, subst, ◌∙◌, take_all}
use Rattle.std.specs.Prelude.{◌≢◌, Some, slice_get}
use Rattle.std.proofs.lemmas.Bool.{cases_eq, cases_lt}
use Rattle.std.proofs.lemmas.List.{length_push, take-append-le}
use Rattle.std.proofs.lemmas.Option.{slice_get_within}
use Rattle.model_history.specs.declared.op_id.OpId.{OpId}
use Rattle.model_history.specs.History.{IsOp}
use Rattle.order_causal.proofs.Fronts.{front-take, front-at, push-at, push-last}
use Rattle.order_memory.proofs.HappenedBeforeCounts.{counted-in_past, own-happened}
use Rattle.order_memory.specs.HappenedBeforeVectors.{IsHBVectors}
use Rattle.order_memory.specs.Memory.{MemoryHistory, IsDifferentiated}
use Rattle.order_causal.proofs.Placed.{placed-up}
use Rattle.order_causal.specs.Orders.{op}
use Rattle.order_memory.specs.Relations.{IsPast, HB}
use Rattle.order_memory.specs.SourceOrder.{CountsSourceOrder}
use Rattle.order_causal.specs.Schedules.{placed, next_of}
use Rattle.order_causal.specs.Vectors.{Counts, count}
use Rattle.cert_make_cm.specs.Turns.{IsTurn, AreTurns}
use Rattle.cert_make_cm.proofs.TurnPlaces.{turn-past, turn-counted, turns-within, turns-own}

-- behind a schedule the next operation of the session t is in the past of o, all that its vector counts is placed, and no
-- more is where t is the session of o
pub record IsReached (h : MemoryHistory) (o : OpId) (now : Counts) (schedule : List ℕ) (t : ℕ) : Type 0 where
  pub in_past : IsPast h o (next_of schedule t)
  pub counted : (u : ℕ) → count now (next_of schedule t) u ≤ placed schedule u
  pub exact : t ≡ o.session → (u : ℕ) → placed schedule u ≤ count now (next_of schedule t) u

-- each number of a schedule names an operation that is reached
abbrev pub AreReached : MemoryHistory → OpId → Counts → List ℕ → Type 0
AreReached h o now schedule = (k t : ℕ) → slice_get schedule k ≡ Some t → IsReached h o now (take k schedule) t

module _ (h : MemoryHistory) (v : Counts) (order : CountsSourceOrder h v) (distinct : IsDifferentiated h) (o : OpId) (is_op : IsOp h o)
    (now : Counts) (happened : IsHBVectors h o now) (acyclic : (a : OpId) → ¬ HB h o a a) where
  module _ (m : ℕ) (up_to : m ≤ o.index) (before whole : List ℕ) (turn : IsTurn now o.session m before whole)
      (begun : (u : ℕ) → placed before u ≤ count now (op o.session m) u) (own : placed before o.session ≡ m)
      (earlier : AreReached h o now before) where
    front : (k : ℕ) → k ≤ length turn.counted → take k whole ≡ take k turn.counted
    front k inside = ap (take k) turn.last ∙ take-append-le k turn.counted (o.session ∷ []) inside

    -- an operation that was there before the walk
    reached-before : (k t : ℕ) → k < length before → slice_get turn.counted k ≡ Some t → IsReached h o now (take k turn.counted) t
    reached-before k t below at =
        let extends = turn.walk.walk.extends in
        subst (λ (xs : List ℕ). IsReached h o now xs t) (sym (front-take before turn.counted extends k (omega arith)))
        (earlier k t (front-at before turn.counted extends k t below at))

    -- an operation that the walk places
    reached-walk : (k t : ℕ) → length before ≤ k → slice_get turn.counted k ≡ Some t → IsReached h o now (take k turn.counted) t
    reached-walk k t from at =
        let xs : List ℕ = take k turn.counted in
        let can = (turn.walk.walk.each k t from at).can in
        let in_q = turn-past h v order distinct o is_op now happened acyclic m up_to in
        let in_b : IsPast h o (next_of xs t) =
        counted-in_past h v order distinct o is_op now happened acyclic (next_of xs t) (op o.session m) in_q can.below in
        let own_b = own-happened h v order distinct o is_op now happened acyclic (next_of xs t) in_b in
        record {
          in_past = in_b;
          counted = λ u. ⊎_elim
              (λ (same : u ≡ t). subst (λ (s : ℕ). count now (next_of xs t) s ≤ placed xs s) (sym same) (omega arith))
              (λ (apart : u ≢ t). can.ready u apart)
              (cases_eq u t);
          exact = λ same.
              let below : placed xs o.session < count now (op o.session m) o.session =
              subst (λ (s : ℕ). placed xs s < count now (op o.session m) s) same can.below in
              let own_q = own-happened h v order distinct o is_op now happened acyclic (op o.session m) in_q in
              let more = placed-up turn.counted (length before) k o.session from in
              let begins = ap (λ (ys : List ℕ). placed ys o.session) turn.walk.walk.extends in
              absurd (omega arith);
        }

    -- the operation whose turn it is
    reached-turn : IsReached h o now turn.counted o.session
    reached-turn =
        let places = turn-counted h v order distinct o is_op now happened acyclic m up_to before whole turn begun in
        let in_q = turn-past h v order distinct o is_op now happened acyclic m up_to in
        let own_q = own-happened h v order distinct o is_op now happened acyclic (op o.session m) in_q in
        let here = places o.session in
        let index : m ≡ placed turn.counted o.session = omega arith in
        let is : op o.session m ≡ next_of turn.counted o.session = ap (λ (i : ℕ). op o.session i) index in
        record {
          in_past = subst (λ (x : OpId). IsPast h o x) is in_q;
          counted = λ u. let place = places u in subst (λ (x : OpId). count now x u ≤ placed turn.counted u) is (omega arith);
          exact = λ same u. let place = places u in subst (λ (x : OpId). placed turn.counted u ≤ count now x u) is (omega arith);
        }

    turn-reached : AreReached h o now whole
    turn-reached k t at =
        let there : slice_get (turn.counted ++ o.session ∷ []) k ≡ Some t = sym (ap (λ (xs : List ℕ). slice_get xs k) turn.last) ∙ at in
        let size = length_push turn.counted o.session in
        let within = slice_get_within (turn.counted ++ o.session ∷ []) k t there in
        ⊎_elim
        (λ (inside : k < length turn.counted).
        let in_walk = push-at turn.counted o.session k t inside there in
        subst (λ (xs : List ℕ). IsReached h o now xs t) (sym (front k (omega arith))) (⊎_elim
        (λ (below : k < length before). reached-before k t below in_walk)
        (λ (from : length before ≤ k). reached-walk k t from in_walk)
        (cases_lt k (length before))))
        (λ (past : length turn.counted ≤ k).
        let last : k ≡ length turn.counted = omega arith in
        let same : o.session ≡ t =
        push-last turn.counted o.session t (ap (λ (n : ℕ). slice_get (turn.counted ++ o.session ∷ []) n) (sym last) ∙ there) in
        let all : take k whole ≡ turn.counted = front k (omega arith) ∙ take_all k turn.counted past in
        subst (λ (xs : List ℕ). IsReached h o now xs t) (sym all) (subst (λ (s : ℕ). IsReached h o now turn.counted s) same reached-turn))
        (cases_lt k (length turn.counted))

  -- each operation that the schedule of some turns names is reached
  pub turns-reached : (n : ℕ) → n ≤ o.index + 1 → (schedule : List ℕ) → AreTurns now o.session n schedule → AreReached h o now schedule
  turns-reached zero up_to schedule none k t at =
      let within = slice_get_within schedule k t at in
      let size = ap (λ (xs : List ℕ). length xs) none in
      absurd (omega arith)
  turns-reached (suc n) up_to schedule (before, earlier, turn) k t at =
      turn-reached n (omega arith) before schedule turn
      (turns-within h v order distinct o is_op now happened acyclic n (omega arith) before earlier)
      (turns-own h v order distinct o is_op now happened acyclic n (omega arith) before earlier)
      (turns-reached n (omega arith) before earlier) k t at
