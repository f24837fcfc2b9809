use Rattle.std.specs.Prelude.{ℕ, slice_index_or}
use Rattle.std.proofs.Common.{arith, ap, inl}
use Rattle.std.proofs.lemmas.List.{get_or_read}
use Rattle.judge_session_orders.proofs.FreeLaws.{some-reader}
use Rattle.judge_session_orders.proofs.backward.Backward.freed.Goals as goal

pub returns-then-index-gt0-clause-freed : goal.returns-then-index-gt0-clause-freed
returns-then-index-gt0-clause-freed c w is_op at_w is_open last =
    let b = c.args.self.now in
    let size = c.requires.on_its_way.sizes.readers in
    let below = c.requires.below in
    let read = get_or_read b.readers.items c.args.write c.index.result.now (omega arith) c.index.ensures 0 in
    let same = ap (λ (n : ℕ). slice_index_or b.readers.items n 0) at_w in
    let more = c.if-index-gt0.true in
    inl (some-reader c.args.index.now b c.requires.on_its_way w is_op (λ none. omega arith))
