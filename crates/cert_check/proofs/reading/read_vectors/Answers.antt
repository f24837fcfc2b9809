use Rattle.cert_check.proofs.CertificateForms.{no_certificate-vectors, no_cc_certificate, no_cm_certificate, no_ccv_certificate}
use Rattle.serde_json.specs.View.{view}
use Rattle.cert_check.proofs.reading.read_vectors.Goals as goal

pub returns-in_default : goal.returns-in_default
returns-in_default c =
    no_certificate-vectors c.args.criterion (view c.args.vectors.now) (view c.args.explained.now) (rw c.in_default.is at c.in_ok-vectors.ensures)

pub returns-in-None : goal.returns-in-None
returns-in-None c =
    let none = rw c.in-None.is at c.in_ok-schedules-in-Cc.ensures in
    rw c.in-Cc.is (no_cc_certificate (view c.args.vectors.now) (view c.args.explained.now) none)

pub returns-in-None-2 : goal.returns-in-None-2
returns-in-None-2 c =
    let none = rw c.in-None-2.is at c.in_ok-schedules-in-Cm.ensures in
    rw c.in-Cm.is (no_cm_certificate (view c.args.vectors.now) (view c.args.explained.now) none)

pub returns-in-None-3 : goal.returns-in-None-3
returns-in-None-3 c =
    let none = rw c.in-None-3.is at c.in_ok-sessions-in-Ccv.ensures in
    rw c.in-Ccv.is (no_ccv_certificate (view c.args.vectors.now) (view c.args.explained.now) none)
