use Rattle.std.proofs.Common.{◌≡◌, sym, subst, None}
use Rattle.json_lines.specs.declared.outcome.Outcome.TheVariants.{Met}
use Rattle.json_line_workers.specs.declared.place.Place.{Place}
use Rattle.json_line_workers.specs.Places.{IsOutlet, start}
use Rattle.json_line_workers.specs.Calls.{IsWritten}
use Rattle.json_line_workers.proofs.CallLaws.{if-some, written_first}
use Rattle.json_line_workers.proofs.FiledLaws.{filed-none, outlet-filed}
use Rattle.json_line_workers.proofs.outlet.Outlet.new.Goals as goal

pub invariant_of-result : goal.invariant_of-result
invariant_of-result g c =
    let now = g.W.Sink.contents c.args.writer in (
      subst (λ (p : Place). IsOutlet g.J.Job.says g.J.Job.input g.J.Job.before now p Met None) (sym c.first.ensures)
          (outlet-filed g.J.Job.says g.J.Job.input g.J.Job.before now start Met (filed-none g.J.Job.says g.J.Job.input g.J.Job.before now c.requires.before)),
      if-some g.J.WrittenTo.writer (λ first. first ≡ c.args.writer) (λ first. IsWritten g.W.Sink.called first c.args.writer None)
          (λ first same. subst (λ s. IsWritten g.W.Sink.called s c.args.writer None) (sym same) (written_first g.W.Sink.called c.args.writer)) c.requires.first,
    )
