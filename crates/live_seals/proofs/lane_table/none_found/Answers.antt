use Rattle.std.proofs.Common.{◌+◌, ◌∙◌, ℕ, None, length, ap, arith}
use Rattle.live_recorder.proofs.Telling.{length_push}
use Rattle.live_seals.proofs.NothingFound.{none_first, none_more_at}
use Rattle.live_seals.proofs.lane_table.none_found.Goals as goal

pub loop-place-init : goal.loop-place-init
loop-place-init g c = record { many = ap length c.in_ok-found.ensures.items; none = none_first c.in_ok-found.found.items c.in_ok-found.ensures.items }

pub loop-place-preserved : goal.loop-place-preserved
loop-place-preserved g c = record {
  many = ap length c.in_ok-push.ensures.items ∙ (length_push c.loop-place.found.items None ∙ ap (λ (n : ℕ). n + 1) c.loop-place.invariant.many);
  none = none_more_at c.loop-place.found.items c.push.new.self.items c.in_ok-push.ensures.items c.loop-place.invariant.none;
}

pub returns-clause-many : goal.returns-clause-many
returns-clause-many g c =
    let many = c.loop-place.invariant.many in let stop = c.loop-place-test.false in let inside = c.loop-place.auto._place-end in omega (arith, many, stop, inside)

pub returns-clause-none : goal.returns-clause-none
returns-clause-none g c = c.loop-place.invariant.none
