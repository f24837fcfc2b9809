use Rattle.std.proofs.Common.{arith}
use Rattle.std.proofs.lemmas.List.{length_push}
use Rattle.judge_memory.proofs.KeyPlaces.{places-push}
use Rattle.judge_memory.proofs.variables.places.Goals as goal

pub loop-key-preserved : goal.loop-key-preserved
loop-key-preserved c =
    let count = c.loop-key.invariant.count in
    record {
      count = rw c.in_ok-push.ensures.items (let more = length_push c.loop-key.places.items c.place_of.result in omega arith);
      each = rw c.in_ok-push.ensures.items
          (places-push c.args.distinct.now c.args.keys.now c.loop-key.places.items c.loop-key.key-index _ c.place_of.result c.loop-key-test.true count
          c.loop-key.invariant.each c.place_of.ensures);
    }

pub place_of-requires-clause-listed : goal.place_of-requires-clause-listed
place_of-requires-clause-listed c = c.requires.each c.loop-key.key-index _ c.loop-key-test.true
