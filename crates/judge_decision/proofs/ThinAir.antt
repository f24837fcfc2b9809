-- What the part of an operation says of reads of values that nobody wrote.
use Rattle.std.specs.Prelude.{◌≡◌, ◌≢◌, ℕ, ◌+◌, ◌<◌}
use Rattle.std.proofs.Common.{arith, refl, sym, ap, subst, ⊎_elim, eq-or-lt_of_le, ◌∙◌}
use Rattle.model_history.specs.declared.op_id.OpId.{OpId}
use Rattle.model_history.specs.History.{IsOp, number}
use Rattle.order_memory.specs.Memory.{MemoryHistory, initial, Writes}
use Rattle.order_memory.specs.SourceOrder.{LacksSource}
use Rattle.order_memory.proofs.MemoryLaws.{read-of_history, same_read, write-or_read}
use Rattle.judge_memory.specs.Steps.{many}
use Rattle.judge_memory.proofs.Numbers.{number-all, number-found}
use Rattle.judge_memory.specs.declared.part.Part.{Part}
use Rattle.judge_memory.specs.declared.part.Part.TheVariants as parts
use Rattle.judge_memory.specs.Parts.{IsPart, IsThinAir}
use Rattle.judge_decision.specs.Steps.ThinAir.{AreSourcedBelow}

module _ (h : MemoryHistory) where
  -- another part is that of no such read
  sourced-part : (o : OpId) (p : Part) → p ≢ parts.ThinAirRead → IsPart h o p → ¬ IsThinAir h o
  sourced-part o parts.Write other (x, v, writes) (y, u, reads, apart, unwritten) = write-or_read h o o x v y u writes reads refl
  sourced-part o (parts.SourcedRead n) other (w, (x, v, writes, reads, not_initial), named) (y, u, again, apart, unwritten) =
      let same = same_read h o x v y u reads again in
      unwritten w (subst (λ (z : ℕ). Writes h w z u) same.0 (subst (λ (z : ℕ). Writes h w x z) same.1 writes))
  sourced-part o parts.InitialRead other (x, reads) (y, u, again, apart, unwritten) =
      let same = same_read h o x (initial h x) y u reads again in
      apart (sym same.1 ∙ ap (initial h) same.0)
  sourced-part o parts.ThinAirRead other is thin = other refl
  sourced-part o parts.UnknownRead other (unwrites, unreads) (y, u, reads, apart, unwritten) = unreads y u reads

  -- an operation whose part says so
  pub found : (n : ℕ) → n < many h → ((o : OpId) → IsOp h o → number h o ≡ n → IsPart h o parts.ThinAirRead) → LacksSource h
  found n below part =
      let o = number-found h n below in
      let thin = part o.0 o.1 o.2 in
      (o.0, thin.0, thin.1, thin.2, thin.3, thin.4)

  -- one operation more without
  pub none-next : (n : ℕ) (p : Part) → p ≢ parts.ThinAirRead → ((o : OpId) → IsOp h o → number h o ≡ n → IsPart h o p)
      → AreSourcedBelow h n → AreSourcedBelow h (n + 1)
  none-next n p other part before o is_op below = ⊎_elim
      (λ (same : number h o ≡ n). sourced-part o p other (part o is_op same))
      (λ (less : number h o < n). before o is_op less)
      (eq-or-lt_of_le (let up_to = below in omega arith))

  -- all are gone through
  pub none-found : AreSourcedBelow h (many h) → ¬ LacksSource h
  none-found none (r, x, v, reads, apart, unwritten) =
      let is_op = read-of_history h r x v reads in
      none r is_op (number-all h r is_op) (x, v, reads, apart, unwritten)
