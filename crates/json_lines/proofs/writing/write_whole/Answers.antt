use Rattle.std.proofs.Common.{List, ℕ, subst, sym}
use Rattle.std.proofs.lemmas.List.{take_rest}
use Rattle.json_lines.proofs.WriteCallLaws.{Taken, taken_more, taken_none, write_more, write_none}
use Rattle.json_lines.proofs.writing.write_whole.Goals as goal

pub loop-init : goal.loop-init
loop-init g c = record { taken = taken_none _ _; calls = write_none g.W.Sink.called _ }

pub loop-preserved : goal.loop-preserved
loop-preserved g c =
    let call = c.in_ok-count.ensures.call in
    let rest = c.loop.rest.now in
    let count = c.in_ok-count.count in
    let first = g.W.Sink.contents c.args.writer.now in
    let before = g.W.Sink.contents c.loop.writer in
    let after = g.W.Sink.contents c.write_once.new.writer in
    record {
      taken = subst (λ (l : List ℕ). Taken c.args.text.now l first after) (sym (take_rest rest count))
          (taken_more c.args.text.now rest first before after count c.loop.invariant.taken c.in_ok-count.ensures.taken);
      calls = write_more g.W.Sink.called c.loop.counter c.args.writer.now c.loop.writer c.write_once.new.writer call.0 c.loop.invariant.calls call.1 call.2;
    }
