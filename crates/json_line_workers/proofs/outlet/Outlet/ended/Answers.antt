use Rattle.std.proofs.Common.{◌≡◌, Result, IfOk, sym, subst}
use Rattle.json_lines.specs.declared.fault.Fault.{Fault}
use Rattle.json_line_workers.specs.declared.place.Place.{Place}
use Rattle.json_line_workers.specs.Places.{IsEnd}
use Rattle.json_line_workers.proofs.FiledLaws.{all-filed}
use Rattle.json_line_workers.proofs.outlet.Outlet.ended.Goals as goal

pub returns-then-is-clause-answered : goal.returns-then-is-clause-answered
returns-then-is-clause-answered g c =
    let s = c.self.inside in
    let input = g.J.Job.input in
    let until : s.until ≡ c.in-Ok.place = c.is.ensures c.if-is.true in
    let end : IsEnd input c.in-Ok.place = subst (λ (r : Result Place Fault). IfOk r (λ p. IsEnd input p)) c.in-Ok.is c.requires.end in
    all-filed g.J.Job.says input g.J.Job.before (g.W.Sink.contents s.writer) s.until s.outcome (c.self.invariant.0.filed c.in_default.is)
    (subst (λ (p : Place). IsEnd input p) (sym until) end)
