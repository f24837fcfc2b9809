use Rattle.std.proofs.Common.{arith, ap, ◌∙◌}
use Rattle.std.specs.Prelude.{None}
use Rattle.std.proofs.lemmas.List.{get_or_default}
use Rattle.cert_make.specs.Advice.{Heard}
use Rattle.cert_make.proofs.Advices.{hear_next}
use Rattle.cert_make.proofs.StampedSessions.{stamped-next}
use Rattle.cert_make.proofs.by_stamp.push_stamped.Goals as goal

pub loop-index-preserved : goal.loop-index-preserved
loop-index-preserved g c =
    let s = c.args.session in
    let i = c.loop-index.index in
    let reported = c.advice_in-reported.result.now in
    let size = c.advice_in-reported.ensures.size in
    let count = c.len-index-end.ensures.count in
    let entry = c.index-reported-index.is ∙ get_or_default reported i c.index-reported-index.result None (omega arith) in
    let known = c.hear.ensures ∙ hear_next reported s i c.at.result c.index-reported-index.result c.loop-index.heard c.at.ensures entry c.loop-index.invariant.known in
    record {
      known = known;
      listed = c.in_ok-push.ensures.items
          ∙ stamped-next reported s i c.stamp.result c.args.ops.now.items c.loop-index.ops.items c.loop-index.invariant.listed
          (c.stamp.ensures ∙ ap (λ (k : Heard). k.1) known);
    }
