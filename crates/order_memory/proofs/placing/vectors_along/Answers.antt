use Rattle.std.proofs.Common.{◌≡◌, ◌<◌, arith, length, get_or, ◌∙◌, ap, sym, ℕ}
use Rattle.std.proofs.lemmas.Option.{slice_get-get_or}
use Rattle.std.specs.Prelude.{Some, slice_get}
use Rattle.order_causal.proofs.PushedLaws.{listed-length}
use Rattle.order_memory.proofs.SourceWaits.{along-push, along-ready}
use Rattle.order_memory.proofs.placing.vectors_along.Goals as goal

pub place-requires-clause-ready : goal.place-requires-clause-ready
place-requires-clause-ready c =
    let schedule = c.args.schedule.now in
    let k = c.loop-session.session-index in
    let is : c.from.result ≡ get_or schedule k 0 = c.from.ensures in
    let at : slice_get schedule k ≡ Some c.from.result = slice_get-get_or schedule k 0 c.loop-session-test.true ∙ ap (λ (s : ℕ). Some s) (sym is) in
    along-ready c.args.sources.now schedule k c.from.result at c.loop-session.vectors c.loop-session.invariant.placed c.requires.follows

pub loop-session-preserved : goal.loop-session-preserved
loop-session-preserved c =
    let schedule = c.args.schedule.now in
    let k = c.loop-session.session-index in
    let s = c.from.result in
    let is : s ≡ get_or schedule k 0 = c.from.ensures in
    let inv = c.loop-session.invariant in
    let at : slice_get schedule k ≡ Some s = slice_get-get_or schedule k 0 c.loop-session-test.true ∙ ap (λ (r : ℕ). Some r) (sym is) in
    let ready = along-ready c.args.sources.now schedule k s at c.loop-session.vectors inv.placed c.requires.follows in
    let unfinished = ready.unfinished in
    let inside : s < length c.loop-session.vectors =
    let there = listed-length c.args.sources.now s _ unfinished in let same = inv.so_far.sessions in omega arith in
    let placed = c.in_ok-place.ensures.placed in
    record {
      so_far = c.in_ok-place.ensures.so_far;
      placed = along-push c.args.sources.now schedule k s at c.loop-session.vectors inv.placed c.place.new.vectors placed.0 inside placed.1;
    }
