use Rattle.order_memory.proofs.SourcedLaws.{square-vectors}
use Rattle.order_causal.proofs.VectorsLaws.{HasListOf-of_history}
use Rattle.std.proofs.Common.{◌≡◌, ◌+◌, ◌++◌, ◌∷◌, [], List, ℕ, length, get_or, suc, ap, sym, subst, arith, ◌∙◌}
use Rattle.model_history.specs.declared.op_id.OpId.{OpId}
use Rattle.order_causal.specs.Orders.{op}
use Rattle.order_causal.specs.Topological.{IsFullWalk}
use Rattle.order_causal.specs.Vectors.{count, list_of}
use Rattle.cert_make_cm.proofs.TurnsKept.{turns-few}
use Rattle.cert_make_cm.proofs.TurnsStarted.{started-next}
use Rattle.cert_make_cm.specs.Steps.Started.{AreStarted}
use Rattle.cert_make_cm.specs.Turns.{IsTurn}
use Rattle.cert_make_cm.proofs.turns.Turns.go_on.Goals as goal

pub place-requires-clause-room : goal.place-requires-clause-room
place-requires-clause-room c =
    let s = c.args.session in
    let i = c.loop-index.index in
    let held = c.requires.vectors.held (op s i) s (omega arith) in
    let read = ap (λ (xs : List ℕ). get_or xs s 0) c.get.ensures in
    let same = ap (λ (o : OpId). count c.args.vectors.now o s) c.at.ensures in
    let within = c.run_to.ensures.within s in
    let few = turns-few c.args.h.now c.args.vectors.now c.requires.vectors s i (omega arith) c.loop-index.self.walk c.loop-index.invariant.turns in
    let short = c.requires.short in
    omega arith

pub loop-index-preserved : goal.loop-index-preserved
loop-index-preserved c =
    let s = c.args.session in
    let i = c.loop-index.index in
    let v = c.args.vectors.now in
    let walk : List ℕ = c.loop-index.self.walk in
    let starts : List ℕ = c.loop-index.self.starts.items in
    let turn : IsTurn v s i walk c.place.new.self = record {
      counted = c.run_to.new.self;
      walk = subst (λ (xs : List ℕ). IsFullWalk v xs walk c.run_to.new.self)
          (c.get.ensures ∙ ap (λ (o : OpId). list_of v o) c.at.ensures) c.in_ok-run_to.ensures.rule;
      last = c.in_ok-place.ensures.ok;
    } in
    let next : suc i ≡ i + 1 = omega arith in
    let more : c.push.new.self.items ≡ starts ++ length walk ∷ [] = rw c.schedule.ensures at c.in_ok-push.ensures.items in
    subst (λ (es : List ℕ). AreStarted v s (i + 1) c.place.new.self es) (sym more)
    (subst (λ (n : ℕ). AreStarted v s n c.place.new.self (starts ++ length walk ∷ [])) next
    (started-next v s i walk starts c.loop-index.invariant c.place.new.self turn))

pub get-requires-clause-session : goal.get-requires-clause-session
get-requires-clause-session c =
    let below = c.loop-index-test.true in
    let inside = c.requires.inside in
    rw c.at.ensures ((HasListOf-of_history c.args.h.now c.args.vectors.now (op c.args.session c.loop-index.index) c.requires.vectors.vectors.one_each (omega arith)).session)

pub get-requires-clause-index : goal.get-requires-clause-index
get-requires-clause-index c =
    let below = c.loop-index-test.true in
    let inside = c.requires.inside in
    rw c.at.ensures ((HasListOf-of_history c.args.h.now c.args.vectors.now (op c.args.session c.loop-index.index) c.requires.vectors.vectors.one_each (omega arith)).index)

pub run_to-requires-clause-few : goal.run_to-requires-clause-few
run_to-requires-clause-few c = let sessions = c.requires.vectors.vectors.one_each.sessions in let few = c.requires.few in omega arith

pub run_to-requires-clause-square : goal.run_to-requires-clause-square
run_to-requires-clause-square c = square-vectors c.args.h.now c.args.vectors.now c.requires.vectors.vectors

pub run_to-requires-clause-limits : goal.run_to-requires-clause-limits
run_to-requires-clause-limits c =
    let below = c.loop-index-test.true in
    let inside = c.requires.inside in
    ap (λ (xs : List ℕ). length xs) c.get.ensures
    ∙ square-vectors c.args.h.now c.args.vectors.now c.requires.vectors.vectors c.at.result (rw c.at.ensures ((HasListOf-of_history c.args.h.now c.args.vectors.now (op c.args.session c.loop-index.index) c.requires.vectors.vectors.one_each (omega arith)).index))
