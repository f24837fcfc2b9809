use Rattle.std.proofs.Common.{map}
use Rattle.serde_json.specs.View.{view}
use Rattle.cert_check.proofs.CertificateForms.{no_certificate-unworded, no_certificate-unnamed}
use Rattle.cert_check.proofs.reading.read_form.Goals as goal

pub returns-in_default : goal.returns-in_default
returns-in_default c = no_certificate-unworded (view c.args.value.now) c.in_default.ensures.read

pub returns-in-None : goal.returns-in-None
returns-in-None c =
    no_certificate-unnamed (view c.args.value.now) c.in-Some.word.now (map view c.in-Some.rest.now) c.in-Some.ensures.read c.in-None.ensures
