-- What an index says of an operation, by its number.
use Rattle.std.specs.Prelude.{◌≡◌, ℕ, ◌+◌, ◌-◌, ◌<◌, ◌≤◌, List, length}
use Rattle.std.proofs.Common.{arith, ap, get_or, subst}
use Rattle.std.proofs.lemmas.Option.{get_or_from_slice_get, slice_get_read}
use Rattle.model_history.specs.declared.op_id.OpId.{OpId}
use Rattle.model_history.specs.History.{IsOp, many_before, number}
use Rattle.order_causal.specs.Orders.{op}
use Rattle.order_causal.proofs.OrdersLaws.{session-of_history}
use Rattle.order_memory.specs.Memory.{MemoryHistory}
use Rattle.judge_memory.specs.Steps.{IsNext, many}
use Rattle.judge_memory.proofs.Numbers.{many-rises, number-found}
use Rattle.judge_memory.specs.declared.part.Part.{Part}
use Rattle.judge_memory.specs.declared.part.Part.TheVariants as parts
use Rattle.judge_memory.specs.Lists.{IsSessionOf, ListsEach, ListsStarts}
use Rattle.judge_memory.specs.Parts.{IsPart}
use Rattle.judge_memory.proofs.ListsLaws.{each-at}
use Rattle.judge_memory.proofs.PartsLaws.{source-below}

module _ (h : MemoryHistory) where
  -- no start is past the last number
  pub start-within : (starts : List ℕ) → ListsStarts h (length h.1) starts → (t n : ℕ) → t ≤ length h.1 → n ≡ get_or starts t n → n ≤ many h
  start-within starts lists t n up_to is =
      let count = lists.count in
      let at = get_or_from_slice_get starts t n 0 (slice_get_read starts (length h.1 + 1) t n (omega arith) (omega arith) is) in
      let start = lists.start t up_to in
      let rises = many-rises h t (length h.1) up_to in
      omega arith

  -- each number has a session
  pub session-below : (sessions : List ℕ) → ListsEach h IsSessionOf (many h) sessions → (n s : ℕ) → n < many h → s ≡ get_or sessions n s
      → s < length h.1
  session-below sessions lists n s below is =
      let found = number-found h n below in
      let same : s ≡ found.0.session = each-at h IsSessionOf sessions lists found.0 n s found.1 found.2 is in
      let inside = session-of_history h found.0 found.1 in
      omega arith

  -- a source has the number of an operation
  pub part-below : (ps : List Part) → ListsEach h (IsPart h) (many h) ps → (n w : ℕ) (p : Part) → n < many h → p ≡ get_or ps n p
      → p ≡ parts.SourcedRead w → w < many h
  part-below ps lists n w p below is sourced =
      let found = number-found h n below in
      let part = each-at h (IsPart h) ps lists found.0 n p found.1 found.2 is in
      source-below h found.0 w (subst (IsPart h found.0) sourced part)

  module _ (o : OpId) (n s : ℕ) (is_op : IsOp h o) (at : number h o ≡ n) (same : s ≡ o.session) where
    -- an operation that is not the first of its session has the one before it whose number is one less
    pub later-before : (n ≡ many_before h s → ⊥) → (1 ≤ n) × ((p : OpId) × IsOp h p × IsNext h p o × (number h p ≡ n - 1))
    later-before later =
        let start = ap (many_before h) same in
        let behind : 0 < o.index = omega arith in
        (omega arith, (op o.session (o.index - 1), omega arith, ((λ j. o.session), omega arith, is_op), omega arith))
