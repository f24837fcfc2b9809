use Rattle.std.proofs.Common.{[], ◌∷◌, length, ap, ◌∙◌, arith}
use Rattle.std.specs.Prelude.{slice_get}
use Rattle.live_driver.proofs.Lists.{get_front}
use Rattle.live_recorder.proofs.Telling.{get_pushed, length_push}
use Rattle.live_driver.proofs.seating.seats_of.Goals as goal

pub of-requires-after_bounds : goal.of-requires-after_bounds
of-requires-after_bounds g c κs within =
    let left = c.pop.new.self.items in
    let own = c.in-Some.own in
    c.loop-own.invariant.ready (length left) own (ap (λ xs. slice_get xs (length left)) c.in-Some.ensures.items ∙ get_pushed left own)

pub loop-own-preserved : goal.loop-own-preserved
loop-own-preserved g c =
    let old = c.loop-own in
    let left = c.pop.new.self.items in
    let own = c.in-Some.own in
    let e = c.in-Some.ensures.items in
    record {
      ready = λ s x here. old.invariant.ready s x (ap (λ xs. slice_get xs s) e ∙ get_front left (own ∷ []) s x here);
      many = omega (arith, ap length e ∙ length_push left own, c.in_ok-push.ensures.len, old.invariant.many);
    }
