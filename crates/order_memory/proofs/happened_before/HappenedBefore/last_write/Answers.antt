use Rattle.std.proofs.Common.{◌<◌, ℕ, List, ◌-◌, ◌∙◌, ap, refl, subst, subst₂, sym}
use Rattle.std.proofs.lemmas.Option.{same_Some}
use Rattle.order_memory.specs.declared.writes.Write.{Write}
use Rattle.order_memory.specs.Memory.{MemoryCall, Writes}
use Rattle.order_causal.specs.Orders.{op}
use Rattle.order_memory.specs.Steps.HappenedBefores.{IsLastBelow}
use Rattle.order_memory.specs.Steps.Written.{ListsWrites}
use Rattle.order_memory.proofs.FollowedReads.{found-last, found-none}
use Rattle.order_memory.proofs.happened_before.HappenedBefore.last_write.Goals as goal

pub returns : goal.returns
returns c = λ call is.
    let h = c.args.h.now in
    let s = c.args.session in
    let end = c.end_of_writes-end.result in
    let same = same_Some _ _ (sym c.call.ensures ∙ is) in
    let lists = subst (λ (writes : List Write). ListsWrites h writes) (sym c.deref.ensures.value) c.requires.well_formed.writes in
    rw c.at.ensures (rw c.from.ensures (
      refl,
      subst₂ (λ (x n : ℕ). IsLastBelow h x s n (end - 1)) (ap (λ (d : MemoryCall). d.key) same) c.count-count.ensures
          (found-last h c.deref.result.now lists c.call.result.key s c.count-count.result end c.end_of_writes-end.ensures c.if-end-eq0.false),
    ))

pub returns-then-end-eq0 : goal.returns-then-end-eq0
returns-then-end-eq0 c = λ call is.
    let h = c.args.h.now in
    let s = c.args.session in
    let same = same_Some _ _ (sym c.call.ensures ∙ is) in
    let lists = subst (λ (writes : List Write). ListsWrites h writes) (sym c.deref.ensures.value) c.requires.well_formed.writes in
    subst₂ (λ (x n : ℕ). (j y : ℕ) → j < n → ¬ Writes h (op s j) x y) (ap (λ (d : MemoryCall). d.key) same) c.count-count.ensures
    (found-none h c.deref.result.now lists c.call.result.key s c.count-count.result c.end_of_writes-end.result c.end_of_writes-end.ensures c.if-end-eq0.true)
