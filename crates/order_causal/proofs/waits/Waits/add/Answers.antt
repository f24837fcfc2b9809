use Rattle.std.proofs.Common.{◌≡◌, ◌≤◌, ◌+◌, ℕ, List, get_or, ap, sym, subst, arith}
use Rattle.order_causal.specs.Vectors.{IsListed, Counts, count, with_item}
use Rattle.order_causal.specs.Steps.Waiting.{AddsWait}
use Rattle.order_causal.specs.Waits.{AreWaits}
use Rattle.order_causal.proofs.WaitsLaws.{added, added-waits}
use Rattle.order_causal.proofs.waits.Waits.add.Goals as goal

pub invariant_of-self : goal.invariant_of-self
invariant_of-self c =
    let v = c.self.inside.counts in
    let listed : IsListed v c.args.op = subst (λ (w : Counts). IsListed w c.args.op) (sym c.self.view_is) c.requires.op in
    let there : IsListed v c.args.other = subst (λ (w : Counts). IsListed w c.args.other) (sym c.self.view_is) c.requires.other in
    subst (λ (w : Counts). AreWaits w) (sym c.set.ensures)
    (rw c.session_place-place.ensures (rw c.number.ensures (added-waits v c.self.invariant c.args.op c.args.other listed there)))

pub returns-then-from-other : goal.returns-then-from-other
returns-then-from-other c =
    let v = c.self.inside.counts in
    let listed : IsListed v c.args.op = subst (λ (w : Counts). IsListed w c.args.op) (sym c.self.view_is) c.requires.op in
    let there : IsListed v c.args.other = subst (λ (w : Counts). IsListed w c.args.other) (sym c.self.view_is) c.requires.other in
    let read = ap (λ (xs : List ℕ). get_or xs c.args.other.session 0) c.get.ensures in
    let value : c.from.result ≡ get_or c.get.result.now c.args.other.session 0 = rw c.session_place-place.ensures at c.from.ensures in
    let above : count v c.args.op c.args.other.session ≤ c.args.other.index = let less = c.if-from-other.true in omega arith in
    subst (λ (w : Counts). AddsWait c.args.op c.args.other c.args.self.now w) (sym c.set.ensures)
    (rw c.session_place-place.ensures (rw c.number.ensures (subst (λ (w : Counts). AddsWait c.args.op c.args.other w (with_item v c.args.op c.args.other.session (c.args.other.index + 1))) c.self.view_is
    (added v c.self.invariant c.args.op c.args.other listed there above))))
