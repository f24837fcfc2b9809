use Rattle.std.proofs.Common.{rules}
use Rattle.cert_check.proofs.PieceCheckers.{list_begins}
use Rattle.cert_check.proofs.Shapes.{shape-vectors}
use Rattle.cert_check.proofs.piece_checker.PieceChecker.with.Goals as goal

pub new-requires-clause-shape : goal.new-requires-clause-shape
new-requires-clause-shape g c = λ _ _.
    let good = c.certificate-is_case_file.ensures.is_case_file c.args.certificate.now c.requires.certificate in
    rw (c.history.ensures, c.vectors.ensures) (shape-vectors c.args.file.now.0 c.args.certificate.now good.1)

pub invariant_of-result : goal.invariant_of-result
invariant_of-result g c =
    let list = list_begins c.args.file.now.0 c.args.certificate.now c.in_ok-list.list.place c.in_ok-list.list.naming.counts.items
    c.in_ok-list.ensures.front (rw (← c.history-2.ensures) c.in_ok-list.ensures.counts) in
    let good = c.certificate-is_case_file.ensures.is_case_file c.args.certificate.now c.requires.certificate in
    record {
      certificate = c.requires.certificate;
      shape = good.1;
      walk = search rules;
      past = search rules;
      list = list;
    }
