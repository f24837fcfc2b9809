use Rattle.order_causal.proofs.VectorsLaws.{HasListOf-of_history}
use Rattle.std.proofs.Common.{◌++◌, ◌∷◌, List, ℕ, [], inr, sym, subst, ◌∙◌, arith, length, ap}
use Rattle.std.specs.Prelude.{None, Some}
use Rattle.std.proofs.lemmas.Result.{on_ok_weaker}
use Rattle.order_causal.specs.Topological.{IsFullWalk}
use Rattle.order_causal.proofs.FullWalks.{walk-within}
use Rattle.order_causal.proofs.PathsLaws.{leads-edge}
use Rattle.order_causal.proofs.PushedLaws.{listed-length}
use Rattle.order_memory.proofs.IndexedLaws.{if_any-source}
use Rattle.order_memory.proofs.SourcedLaws.{listed-source, source-some, square-vectors}
use Rattle.order_memory.specs.SourceOrder.{IsSourceEdge, IsSourceOf}
use Rattle.cert_make_cc.specs.BySources.{IsScheduleFor}
use Rattle.cert_make_cc.specs.Steps.Cuts.{AreClosed}
use Rattle.cert_make_cc.proofs.SourceLimits.{apart_closed, counted_on, past_closed}
use Rattle.cert_make_cc.proofs.schedule.schedule_of.Goals as goal

pub returns-in_default-clause-schedule : goal.returns-in_default-clause-schedule
returns-in_default-clause-schedule c =
    let h = c.args.order.now in
    let v = c.args.vectors.now in
    let o = c.args.op in
    let walk : List ℕ = c.cut_to.new.self.walk in
    on_ok_weaker {P = IsFullWalk v c.in_ok-past.past.items [] walk} {Q = IsScheduleFor h v o walk} c.cut_to.result
    (λ full. record {
      source = None;
      is_source = subst (IsSourceOf h o) c.in_default.is (if_any-source h c.requires.counts.sources o c.source.result c.source.ensures);
      walk = subst (λ (xs : List ℕ). IsFullWalk v xs [] walk) (c.in_ok-past.ensures.items ∙ c.get.ensures) full;
    })
    c.cut_to.ensures.full

pub limits_apart_from-requires-clause-rising : goal.limits_apart_from-requires-clause-rising
limits_apart_from-requires-clause-rising c = counted_on c.args.order.now c.args.vectors.now c.requires.counts c.in-Some.write

pub cut_to-requires-clause-closed : goal.cut_to-requires-clause-closed
cut_to-requires-clause-closed c =
    let v = c.args.vectors.now in
    subst (λ (xs : List ℕ). AreClosed v xs) (sym (c.in_ok-past.ensures.items ∙ c.get.ensures))
    (past_closed c.args.order.now v c.requires.counts c.args.op c.requires.is_op)

pub cut_to-requires-2-clause-closed : goal.cut_to-requires-2-clause-closed
cut_to-requires-2-clause-closed c =
    let h = c.args.order.now in
    let o = c.args.op in
    let w = c.in-Some.write in
    let source = source-some h o w c.source.result (if_any-source h c.requires.counts.sources o c.source.result c.source.ensures) c.in-Some.is in
    apart_closed h c.args.vectors.now c.requires.counts o w c.requires.is_op (leads-edge (IsSourceEdge h) w o (inr source))
    c.in_ok-limits.limits.items c.in_ok-limits.ensures.apart

pub run_behind-requires-clause-room : goal.run_behind-requires-clause-room
run_behind-requires-clause-room c =
    let v = c.args.vectors.now in
    let s = c.in-Some.write.session in
    let w_listed = listed-source c.args.order.now v c.requires.counts.vectors c.args.op c.source.result
    (if_any-source c.args.order.now c.requires.counts.sources c.args.op c.source.result c.source.ensures) c.in-Some.write c.in-Some.is in
    let inside = listed-length v s c.in-Some.write.index w_listed in
    let small = c.in_ok-limits.ensures.small s inside in
    let most = walk-within v c.in_ok-limits.limits.items [] c.cut_to-2.new.self.walk c.in_ok-cut_to.ensures.full.walk s in
    rw c.session_place.ensures (omega arith)

pub returns-clause-schedule : goal.returns-clause-schedule
returns-clause-schedule c =
    let h = c.args.order.now in
    let v = c.args.vectors.now in
    let o = c.args.op in
    let w = c.in-Some.write in
    let before : List ℕ = c.cut_to-2.new.self.walk in
    let walk : List ℕ = c.run_behind.new.self.walk in
    on_ok_weaker {P = IsFullWalk v c.get-2.result.now (before ++ w.session ∷ []) walk} {Q = IsScheduleFor h v o walk} c.run_behind.result
    (λ rest. record {
      source = Some w;
      is_source = subst (IsSourceOf h o) c.in-Some.is (if_any-source h c.requires.counts.sources o c.source.result c.source.ensures);
      walk = record {
        limits = c.in_ok-limits.limits.items;
        apart = c.in_ok-limits.ensures.apart;
        before = before;
        first = c.in_ok-cut_to.ensures.full;
        rest = subst (λ (xs : List ℕ). IsFullWalk v xs (before ++ w.session ∷ []) walk) c.get-2.ensures rest;
      };
    })
    (rw c.session_place.ensures at c.run_behind.ensures.rule)

pub get-requires-clause-session : goal.get-requires-clause-session
get-requires-clause-session c = (HasListOf-of_history c.args.order.now c.args.vectors.now c.args.op c.requires.counts.vectors.one_each c.requires.is_op).session

pub get-requires-clause-index : goal.get-requires-clause-index
get-requires-clause-index c = (HasListOf-of_history c.args.order.now c.args.vectors.now c.args.op c.requires.counts.vectors.one_each c.requires.is_op).index

pub get-requires-2-clause-session : goal.get-requires-2-clause-session
get-requires-2-clause-session c = (HasListOf-of_history c.args.order.now c.args.vectors.now c.args.op c.requires.counts.vectors.one_each c.requires.is_op).session

pub get-requires-2-clause-index : goal.get-requires-2-clause-index
get-requires-2-clause-index c = (HasListOf-of_history c.args.order.now c.args.vectors.now c.args.op c.requires.counts.vectors.one_each c.requires.is_op).index

pub limits_apart_from-requires-clause-listed : goal.limits_apart_from-requires-clause-listed
limits_apart_from-requires-clause-listed c = (HasListOf-of_history c.args.order.now c.args.vectors.now c.args.op c.requires.counts.vectors.one_each c.requires.is_op).index

pub limits_apart_from-requires-clause-square : goal.limits_apart_from-requires-clause-square
limits_apart_from-requires-clause-square c = square-vectors c.args.order.now c.args.vectors.now c.requires.counts.vectors

pub run_behind-requires-clause-square : goal.run_behind-requires-clause-square
run_behind-requires-clause-square c = square-vectors c.args.order.now c.args.vectors.now c.requires.counts.vectors

pub run_behind-requires-clause-limits : goal.run_behind-requires-clause-limits
run_behind-requires-clause-limits c =
    ap (λ (xs : List ℕ). length xs) c.get-2.ensures ∙ square-vectors c.args.order.now c.args.vectors.now c.requires.counts.vectors c.args.op (HasListOf-of_history c.args.order.now c.args.vectors.now c.args.op c.requires.counts.vectors.one_each c.requires.is_op).index

pub cut_to-requires-clause-limits : goal.cut_to-requires-clause-limits
cut_to-requires-clause-limits c =
    ap (λ (xs : List ℕ). length xs) (c.in_ok-past.ensures.items ∙ c.get.ensures) ∙ square-vectors c.args.order.now c.args.vectors.now c.requires.counts.vectors c.args.op (HasListOf-of_history c.args.order.now c.args.vectors.now c.args.op c.requires.counts.vectors.one_each c.requires.is_op).index
