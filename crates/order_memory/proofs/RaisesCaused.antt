-- Steps of a state in which vectors grow keep that its raises are right, and that they reach what is counted.
use Rattle.std.specs.Prelude.{◌≡◌, ℕ, ◌+◌, ◌-◌, ◌<◌, ◌≤◌, List, IsTrue, length, slice_index}
use Rattle.std.proofs.Common.{arith, sym, ap, subst, subst₂, ◌∙◌, ⊎_elim, inl, inr, length-append}
use Rattle.model_history.specs.declared.op_id.OpId.{OpId}
use Rattle.model_history.specs.History.{IsOp, Precedes, session}
use Rattle.order_memory.specs.declared.growing_order.Cause.{Cause}
use Rattle.order_memory.specs.declared.growing_order.Cause.TheVariants.{Through, Read}
use Rattle.order_memory.specs.declared.growing_order.GrowingOrder.{GrowingOrder}
use Rattle.order_memory.specs.declared.growing_order.Raise.{Raise}
use Rattle.order_memory.specs.Memory.{MemoryHistory}
use Rattle.order_memory.specs.Raises.{AreReached, AreRightRaises, IsRightCause, IsRightRaise, operation_of}
use Rattle.order_memory.specs.Relations.{AreRivalWrites, IsPast}
use Rattle.order_memory.specs.Steps.GrowthSteps.{Grows, IsCaused, IsGrowing, IsIn, IsInclusion, IsRaise, IsRelease}
use Rattle.order_causal.specs.Orders.{op, Ops, program_past}
use Rattle.order_causal.specs.Vectors.{Counts, count, IsCounted}
use Rattle.order_causal.proofs.OrdersLaws.{session-of_history}
use Rattle.order_memory.proofs.GrowthLaws.{grows-keep}
use Rattle.order_memory.proofs.MemoryLaws.{read-of_history}
use Rattle.order_memory.proofs.Raises.{raise-rises}
use Rattle.order_memory.proofs.RaiseLists.{raises-length}
use Rattle.order_memory.proofs.RightRaises.{raises-right, reached-less, reached-raised}

module _ (h : MemoryHistory) (free : Type 0) (reads : Ops) where
  -- each raise adds a count
  pub grows-few : (a b : GrowingOrder) → Grows h free reads a b → length a.raises.items ≤ a.added → length b.raises.items ≤ b.added
  grows-few a b grows = grows-keep h free reads (λ (x : GrowingOrder). length x.raises.items ≤ x.added)
      (λ x y before raise.
      let sums = raise.added in
      let more = raise.more in
      let size = raises-length raise.raised.op raise.raised.session raise.number raise.named (raise.raised.end - raise.raised.op.index) in
      let both = ap (λ (es : List Raise). length es) raise.raises ∙ length-append x.raises.items _ in
      omega arith)
      (λ x y before included.
      let same = ap (λ (es : List Raise). length es) included.raises in
      let added = included.added in
      omega arith)
      (λ x y before is released.
      let same = ap (λ (es : List Raise). length es) released.raises in
      let added = released.added in
      omega arith)
      a b grows

  module _ (o : OpId) (v : Counts) (kept : (r : OpId) → IsTrue (reads r) → IsTrue (program_past o r)) (now : GrowingOrder) (growing : IsGrowing h now)
      (in_past : (p : OpId) → IsIn now p → IsPast h o p) where
    -- no more is in, and no more is counted, than now
    record IsEarlier (x : GrowingOrder) : Type 0 where
      past : (s : ℕ) → slice_index x.past.items s ≤ slice_index now.past.items s
      counts : (p : OpId) (s : ℕ) → count x.counts p s ≤ count now.counts p s

    -- then the raises are right, and reach what is counted
    abbrev IsRight : GrowingOrder → Type 0
    IsRight x = IsEarlier x → AreRightRaises h o v x.raises.items × AreReached v x.raises.items x.counts

    module _ (x : GrowingOrder) (earlier : IsEarlier x) (reached : AreReached v x.raises.items x.counts) (b : OpId) (u c : ℕ) (is_op : IsOp h b) where
      -- what causes a raise is a right cause
      caused-right : (cause : Cause) → IsCaused h reads x.counts b u c cause
          → IsOp h (operation_of cause) × IsRightCause h o v x.raises.items (length x.raises.items) (record { op = b; session = u; count = c; cause = cause }) cause
      caused-right (Through m) caused = (
        ⊎_elim
            (λ (counted : IsCounted x.counts b m).
            let less = earlier.counts b m.session in
            let most = growing.counts.held b m.session is_op in
            let there : IsOp h m = omega arith in there)
            (λ (before : Precedes m b).
            let less = before.1 in
            let there : m.index < length (session h m.session) = subst (λ (s : ℕ). m.index < length (session h s)) (sym before.0) (omega arith) in there)
            caused.0,
        (
          ⊎_elim
              (λ (counted : IsCounted x.counts b m).
              inl (reached-less v x.raises.items _ b m.session (count x.counts b m.session) (m.index + 1) (omega arith) (reached b m.session)))
              (λ (before : Precedes m b). inr before)
              caused.0,
          reached-less v x.raises.items _ m u (count x.counts m u) c caused.1 (reached m u),
        ),
      )
      caused-right (Read r) caused =
          let last = caused.1 in
          let counted = caused.5 in
          let here : caused.0 ≡ c - 1 = omega arith in (
            read-of_history h r caused.3.0 caused.3.1 caused.3.3,
            (
              kept r caused.2,
              caused.3,
              subst (λ (k : ℕ). AreRivalWrites h (op u k) b) here caused.4,
              reached-less v x.raises.items _ r u (count x.counts r u) c (omega arith) (reached r u),
            ),
          )

    right-raise : (x y : GrowingOrder) → IsRight x → IsRaise h reads x y → IsRight y
    right-raise x y right raise later =
        let f : OpId = raise.raised.op in
        let u : ℕ = raise.raised.session in
        let c : ℕ = raise.number in
        let n : ℕ = raise.raised.end - raise.raised.op.index in
        let earlier : IsEarlier x = record {
          past = λ s. let most = later.past s in let same = ap (λ (es : List ℕ). slice_index es s) raise.past in omega arith;
          counts = λ p s. let most = later.counts p s in let rises = raise-rises h free reads x y raise p s in omega arith;
        } in
        let before = right earlier in
        let some = raise.some in
        let inside = raise.inside in
        let less = raise.first in
        let most = earlier.past raise.raised.op.session in
        let is_op : IsOp h f = raise.is_op in
        let cause = caused-right x earlier before.1 f u c is_op raise.named raise.cause in
        let value = raise.range.reached raise.raised.op.index (omega arith) some in
        let no_more = later.counts f u in
        let held = growing.counts.held f u is_op in
        let last : IsOp h (op u (c - 1)) = omega arith in
        let first : IsRightRaise h o v x.raises.items (length x.raises.items) (record { op = f; session = u; count = c; cause = raise.named }) = record {
          is_op = is_op;
          past = in_past f (omega arith);
          exists = session-of_history h (op u (c - 1)) last;
          some = omega arith;
          held = omega arith;
          named = cause.0;
          cause = cause.1;
        } in (
          subst (λ (es : List Raise). AreRightRaises h o v es) (sym raise.raises)
              (raises-right h o v x.raises.items before.0 f u c raise.named first n
              (λ j below.
              let is_in : IsIn now (op raise.raised.op.session (raise.raised.op.index + j)) = omega arith in
              let there = growing.past raise.raised.op.session in
              (omega arith, in_past (op raise.raised.op.session (raise.raised.op.index + j)) is_in))),
          subst (λ (es : List Raise). AreReached v es y.counts) (sym raise.raises)
              (reached-raised v x.raises.items x.counts y.counts raise.raised.op.session raise.raised.op.index raise.raised.end u c raise.named before.1 raise.range),
        )

    right-inclusion : (x y : GrowingOrder) → IsRight x → IsInclusion h x y → IsRight y
    right-inclusion x y right included later =
        let before = right (record {
          past = λ s. let most = later.past s in let more = included.past s in omega arith;
          counts = λ p s. let most = later.counts p s in let same = ap (λ (w : Counts). count w p s) included.counts in omega arith;
        }) in (
          subst (λ (es : List Raise). AreRightRaises h o v es) (sym included.raises) before.0,
          subst₂ (λ (es : List Raise) (w : Counts). AreReached v es w) (sym included.raises) (sym included.counts) before.1,
        )

    right-release : (x y : GrowingOrder) → IsRight x → free → IsRelease h x y → IsRight y
    right-release x y right is released later =
        let before = right (record {
          past = λ s. let most = later.past s in let same = ap (λ (es : List ℕ). slice_index es s) released.past in omega arith;
          counts = λ p s. let most = later.counts p s in let same = ap (λ (w : Counts). count w p s) released.counts in omega arith;
        }) in (
          subst (λ (es : List Raise). AreRightRaises h o v es) (sym released.raises) before.0,
          subst₂ (λ (es : List Raise) (w : Counts). AreReached v es w) (sym released.raises) (sym released.counts) before.1,
        )

    -- so they are after steps to now
    pub grows-right : (a : GrowingOrder) → Grows h free reads a now → AreRightRaises h o v a.raises.items → AreReached v a.raises.items a.counts
        → AreRightRaises h o v now.raises.items × AreReached v now.raises.items now.counts
    grows-right a grows right reached =
        grows-keep h free reads IsRight right-raise right-inclusion right-release a now grows (λ _. (right, reached))
        (record { past = λ s. omega arith; counts = λ p s. omega arith })
