use Rattle.std.proofs.Common.{◌≡◌, List, [], get_or, ap, sym, arith, ◌∙◌}
use Rattle.std.specs.Prelude.{Option, Some, None, length, slice_get}
use Rattle.std.proofs.lemmas.Option.{slice_get-get_or}
use Rattle.model_history.specs.declared.op_id.OpId.{OpId}
use Rattle.order_memory.proofs.IndexedLaws.{ListsReadsBefore-session}
use Rattle.order_memory.proofs.known_reads.push_reads.Goals as goal

pub push_read-requires-clause-source : goal.push_read-requires-clause-source
push_read-requires-clause-source c =
    let es = c.get-of_session.result.now in
    let at : slice_get (get_or c.args.sources.now c.args.session []) c.loop-index.index ≡ Some (get_or es c.loop-index.index None) =
    ap (λ (xs : List (Option OpId)). slice_get xs c.loop-index.index) (sym c.get-of_session.ensures)
    ∙ slice_get-get_or es c.loop-index.index None c.loop-index-test.true in
    (c.requires.sources.each c.args.session c.requires.exists).each c.loop-index.index _ at

pub loop-index-preserved : goal.loop-index-preserved
loop-index-preserved c = c.in_ok-push_read.ensures

pub returns : goal.returns
returns c =
    let same = ap (λ (xs : List (Option OpId)). length xs) c.get-of_session.ensures in
    let count = (c.requires.sources.each c.args.session c.requires.exists).count in
    ListsReadsBefore-session c.args.h.now c.args.session c.loop-index.index c.loop-index.reads.items (omega arith) c.loop-index.invariant
