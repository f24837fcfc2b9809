use Rattle.std.proofs.Common.{◌≡◌, sym, ap, ◌∙◌}
use Rattle.std.specs.Prelude.{option_copied, Some}
use Rattle.cert_check.proofs.Shapes.{shape-vectors}
use Rattle.cert_check.proofs.piece_checker.PieceChecker.new.Goals as goal

pub of-requires-after_bounds : goal.of-requires-after_bounds
of-requires-after_bounds g c = λ _ _.
    let is : c.args.file.now.2 ≡ Some c.unwrap-certificate.result.now =
    sym (sym (ap option_copied c.unwrap-certificate.ensures) ∙ c.certificate.ensures.certificate) in
    let good = c.certificate.ensures.is_case_file c.unwrap-certificate.result.now is in
    rw (c.history.ensures, c.vectors.ensures) (shape-vectors c.args.file.now.0 c.unwrap-certificate.result.now good.1)
