use Rattle.std.proofs.Common.{◌≡◌, List, [], length, get_or, ap, sym, arith, ◌∙◌}
use Rattle.std.specs.Prelude.{Option, Some, None, slice_get}
use Rattle.std.proofs.lemmas.Option.{same_Some, slice_get-get_or}
use Rattle.model_history.specs.declared.op_id.OpId.{OpId}
use Rattle.order_causal.specs.Orders.{op}
use Rattle.order_memory.specs.Sources.{HasSource}
use Rattle.order_memory.proofs.SourceWaits.{sources-more, sources-other, sources-session}
use Rattle.order_causal.proofs.WaitsLaws.{alike-trans}
use Rattle.order_memory.proofs.source_waits.add_sources.Goals as goal
use Rattle.order_memory.proofs.source_waits.add_sources.Goals.{in-Some, in_default}

pub add-requires-clause-other : goal.add-requires-clause-other
add-requires-clause-other c =
    let es = c.get-of_session.result.now in
    let has : HasSource c.args.sources.now (op c.args.session c.loop-index.index) c.in-Some.source =
    ap (λ (xs : List (Option OpId)). slice_get xs c.loop-index.index) (sym c.get-of_session.ensures)
    ∙ slice_get-get_or es c.loop-index.index None c.loop-index-test.true ∙ ap (λ (e : Option OpId). Some e) c.in-Some.is in
    let listed = c.requires.listed (op c.args.session c.loop-index.index) c.in-Some.source has in
    let same = c.loop-index.invariant.alike.operations c.in-Some.source.session in
    omega arith

pub loop-index-preserved : goal.loop-index-preserved
loop-index-preserved c =
    let es = c.get-of_session.result.now in
    let sources = c.args.sources.now in
    let s = c.args.session in
    let i = c.loop-index.index in
    let inv = c.loop-index.invariant in
    let at : slice_get (get_or sources s []) i ≡ Some (get_or es i None) =
    ap (λ (xs : List (Option OpId)). slice_get xs i) (sym c.get-of_session.ensures) ∙ slice_get-get_or es i None c.loop-index-test.true in
    elim c.match-of_session-index.branch [
      | in-Some w ↦ rw w.waits-is (record {
        alike = alike-trans w.add.new.self c.loop-index.waits sources w.add.ensures.alike inv.alike;
        so_far = sources-more sources s i c.loop-index.waits inv.so_far w.in-Some.source w.add.new.self
            (at ∙ ap (λ (e : Option OpId). Some e) w.in-Some.is) (rw w.at-op.ensures at w.add.ensures);
      })
      | in_default w ↦ rw w.waits-is (record {
        alike = inv.alike;
        so_far = sources-other sources s i c.loop-index.waits inv.so_far (λ b has. w.in_default.not-Some b (same_Some _ _ (sym at ∙ has)));
      })
    ]

pub returns-clause-so_far : goal.returns-clause-so_far
returns-clause-so_far c =
    let read = ap (λ (xs : List (Option OpId)). length xs) c.get-of_session.ensures in
    let done = c.loop-index-test.false in
    sources-session c.args.sources.now c.args.session c.loop-index.index c.loop-index.waits c.loop-index.invariant.so_far (omega arith)
