use Rattle.std.proofs.Common.{arith}
use Rattle.serde_json.specs.View.{view}
use Rattle.cert_check.specs.CriterionNames.{name_of}
use Rattle.cert_check.proofs.CertificateForms.{no_certificate-sized}
use Rattle.cert_check.proofs.reading.read_parts.Goals as goal
use Rattle.cert_check.proofs.reading.read_parts.Goals.{in_default-via-then-rest-lt2, in_default-via-else-rest-lt2+else-rest-lt3}

pub returns-in_default : goal.returns-in_default
returns-in_default c =
    let of_other_size = no_certificate-sized view (name_of c.args.criterion) c.args.rest.now in
    elim c.in_default.branch [
      | in_default-via-then-rest-lt2 w ↦ of_other_size (λ two. absurd (grind arith))
      | in_default-via-else-rest-lt2+else-rest-lt3 w ↦ of_other_size (λ two. absurd (grind arith))
    ]
