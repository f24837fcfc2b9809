use Rattle.model_objects.proofs.TableLemmas.{copied_all, copied_more}
use Rattle.model_objects.proofs.keyed.KeyedSeqObject.copy_start.Goals as goal

pub loop-key-init : goal.loop-key-init
loop-key-init g c = c.new-copy.ensures

pub loop-key-preserved : goal.loop-key-preserved
loop-key-preserved g c =
    copied_more c.args.start.now c.entries-key-items.result.now c.loop-key.copy c.push.new.self c.loop-key.key-index c.loop-key-item.result
    c.in_ok-copy_start.field-0 c.entries-key-items.ensures c.loop-key.invariant c.loop-key-test.true c.loop-key-item.is c.in_ok-copy_start.ensures
    c.in_ok-push.ensures.ok

pub returns : goal.returns
returns g c =
    copied_all c.args.start.now c.entries-key-items.result.now c.loop-key.copy c.loop-key.key-index c.entries-key-items.ensures c.loop-key.invariant
    c.loop-key-test.false
