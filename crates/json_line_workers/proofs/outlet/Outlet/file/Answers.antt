use Rattle.std.proofs.Common.{◌≡◌, None, Some, Ok, Err, Option, IfSome, refl, rules, subst, sym}
use Rattle.std.specs.Io.KnownBytes.{Appends}
use Rattle.json_lines.specs.declared.fault.Fault.{Fault}
use Rattle.json_lines.specs.declared.fault.Fault.TheVariants.{Memory, Write}
use Rattle.json_lines.specs.declared.writing.TheConstants.{MAX_WRITE_CALLS}
use Rattle.json_lines.specs.WriteCalls.{AppendsFront, FailsToTake, PassesOn}
use Rattle.json_lines.specs.declared.outcome.Outcome.{Outcome}
use Rattle.json_lines.specs.Outcomes.{worse}
use Rattle.json_line_workers.specs.declared.place.Place.{Place}
use Rattle.json_line_workers.specs.Calls.{IsWritten}
use Rattle.json_line_workers.specs.Places.{IsDone, IsFiled, IsOutlet}
use Rattle.json_line_workers.proofs.CallLaws.{if-some, none_write, written_fault, written_more}
use Rattle.json_line_workers.proofs.FiledLaws.{begun-part, filed-more, first-part, memory-written, outlet-filed, outlet-first, outlet-write, part-fault}
use Rattle.json_line_workers.proofs.outlet.Outlet.file.Goals as goal

pub invariant_of-self-in-Ok : goal.invariant_of-self-in-Ok
invariant_of-self-in-Ok g c =
    let says = g.J.Job.says in
    let input = g.J.Job.input in
    let before = g.J.Job.before in
    let old = c.self.inside in
    let done = c.done.inside in
    let w = g.W.Sink.contents old.writer in
    let x = g.W.Sink.contents c.write_whole.new.writer in
    let whole : old.fault ≡ None = search rules in
    let filed : IsFiled says input before w old.until old.outcome = c.self.invariant.0.filed whole in
    let from : old.until ≡ done.from = search rules in
    let is : IsDone says input old.until done.until done.part = subst (λ (p : Place). IsDone says input p done.until done.part) (sym from) c.done.invariant in
    let ok : done.part.outcome ≡ Ok c.in-Ok.one = c.in-Ok.is in
    let written : Appends w x done.part.text.items = search rules in
    let outcome : c.worse-self-inside.result ≡ worse old.outcome c.in-Ok.one = search rules in
    let passes : PassesOn g.W.Sink.called old.writer c.write_whole.new.writer = search rules in
    let calls = if-some g.J.WrittenTo.writer _ (λ first. IsWritten g.W.Sink.called first c.write_whole.new.writer None)
    (λ first so_far. written_more g.W.Sink.called first old.writer c.write_whole.new.writer None (none_write None refl)
    (subst (λ (f : Option Fault). IsWritten g.W.Sink.called first old.writer f) whole so_far) passes) c.self.invariant.1 in
    subst (λ (f : Option Fault). IsOutlet says input before x done.until c.worse-self-inside.result f
    × IfSome g.J.WrittenTo.writer (λ first. IsWritten g.W.Sink.called first c.write_whole.new.writer f)) (sym whole) (
      subst (λ (o : Outcome). IsOutlet says input before x done.until o None) (sym outcome)
          (outlet-filed says input before x done.until (worse old.outcome c.in-Ok.one)
          (filed-more says input before w x old.until done.until done.part old.outcome c.in-Ok.one filed is ok written)),
      calls,
    )

pub invariant_of-self-in-Err : goal.invariant_of-self-in-Err
invariant_of-self-in-Err g c =
    let says = g.J.Job.says in
    let input = g.J.Job.input in
    let before = g.J.Job.before in
    let old = c.self.inside in
    let done = c.done.inside in
    let w = g.W.Sink.contents old.writer in
    let x = g.W.Sink.contents c.write_whole.new.writer in
    let whole : old.fault ≡ None = search rules in
    let filed : IsFiled says input before w old.until old.outcome = c.self.invariant.0.filed whole in
    let from : old.until ≡ done.from = search rules in
    let is : IsDone says input old.until done.until done.part = subst (λ (p : Place). IsDone says input p done.until done.part) (sym from) c.done.invariant in
    let err : done.part.outcome ≡ Err c.in-Err.fault = c.in-Err.is in
    let memory : c.in-Err.fault ≡ Memory = part-fault says input before old.until done.until done.part c.in-Err.fault is err in
    let written : Appends w x done.part.text.items = search rules in
    let passes : PassesOn g.W.Sink.called old.writer c.write_whole.new.writer = search rules in (
      outlet-first says input before x old.until old.outcome c.in-Err.fault memory
          (first-part says input before w x old.until done.until done.part old.outcome c.in-Err.fault filed is err written),
      if-some g.J.WrittenTo.writer _ (λ first. IsWritten g.W.Sink.called first c.write_whole.new.writer (Some c.in-Err.fault))
          (λ first so_far. written_more g.W.Sink.called first old.writer c.write_whole.new.writer (Some c.in-Err.fault) (memory-written c.in-Err.fault memory)
          (subst (λ (f : Option Fault). IsWritten g.W.Sink.called first old.writer f) whole so_far) passes) c.self.invariant.1,
    )

pub invariant_of-self : goal.invariant_of-self
invariant_of-self g c =
    let says = g.J.Job.says in
    let input = g.J.Job.input in
    let before = g.J.Job.before in
    let old = c.self.inside in
    let done = c.done.inside in
    let w = g.W.Sink.contents old.writer in
    let x = g.W.Sink.contents c.write_whole.new.writer in
    let whole : old.fault ≡ None = search rules in
    let filed : IsFiled says input before w old.until old.outcome = c.self.invariant.0.filed whole in
    let from : old.until ≡ done.from = search rules in
    let is : IsDone says input old.until done.until done.part = subst (λ (p : Place). IsDone says input p done.until done.part) (sym from) c.done.invariant in
    let front : AppendsFront w x done.part.text.items = search rules in
    let fails : FailsToTake g.W.Sink.called MAX_WRITE_CALLS old.writer c.write_whole.new.writer = search rules in (
      outlet-write says input before x old.until old.outcome (begun-part says input before w x old.until done.until done.part old.outcome filed is front),
      if-some g.J.WrittenTo.writer _ (λ first. IsWritten g.W.Sink.called first c.write_whole.new.writer (Some Write))
          (λ first so_far. written_fault g.W.Sink.called first old.writer c.write_whole.new.writer
          (subst (λ (f : Option Fault). IsWritten g.W.Sink.called first old.writer f) whole so_far) fails) c.self.invariant.1,
    )
