use Rattle.std.proofs.Common.{subst, nat_cmp}
use Rattle.std.specs.Map.{keys_of}
use Rattle.std.specs.Map.Iter.{deref_pair}
use Rattle.std.specs.List.Sorted.{IsStrictlySortedBy}
use Rattle.std.proofs.lemmas.Map.Iter.{rest_more}
use Rattle.model_objects.proofs.TableLemmas.{copies_all, entries_more}
use Rattle.model_objects.proofs.keyed.KeyedSeqObject.again.Goals as goal

pub loop-key-preserved : goal.loop-key-preserved
loop-key-preserved g c =
    entries_more c.args.self.now.1 c.loop-key.states.entries c.put.new.states.entries c.loop-key.key-iterator c.next.new.self c.in-Some.key.now c.in-Some.state.now c.in_ok-copy.copy
    (subst (λ state. IsStrictlySortedBy nat_cmp (keys_of state.1)) c.self.view_is c.into_iter-key-iterator.ensures.into_iter_gives.5) c.loop-key.invariant
    (rest_more deref_pair c.loop-key.key-iterator c.next.new.self c.next.result (c.in-Some.key, c.in-Some.state) c.in-Some.is c.next.ensures.steps) c.in_ok-copy.ensures c.in_ok-put.ensures.entries

pub returns : goal.returns
returns g c =
    copies_all c.args.self.now c.in_ok-start.start c.self.inside.start c.loop-key.states.entries c.loop-key.key-iterator c.self.inside.states.entries
    c.self.view_is c.in_ok-start.ensures c.loop-key.invariant c.in-None.ensures.steps.0
