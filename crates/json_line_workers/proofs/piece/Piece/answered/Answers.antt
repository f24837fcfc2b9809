use Rattle.std.proofs.Common.{List, ℕ, subst}
use Rattle.json_line_workers.specs.Places.{IsPartOf}
use Rattle.json_line_workers.proofs.FiledLaws.{done-piece}
use Rattle.json_line_workers.proofs.piece.Piece.answered.Goals as goal

pub invariant_of-result : goal.invariant_of-result
invariant_of-result g c =
    let s = c.self.inside in
    let says = g.C.LineHandler.says c.args.handler.now in
    let most = g.C.LineHandler.most c.args.handler.now in
    let part = c.part_of-part.result in
    let made : IsPartOf says most s.long s.bytes.items part = subst (λ (b : List ℕ). IsPartOf says most s.long b part) c.as_slice.ensures.value c.part_of-part.ensures in
    done-piece says g.J.Job.says most g.J.Job.most g.J.Job.input s.from s.until s.long s.bytes.items part c.requires c.self.invariant made
