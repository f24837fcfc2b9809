use Rattle.pattern_json.proofs.CertificateParts.{found_there}
use Rattle.pattern_json.proofs.certificate.certificate_from.Goals as goal

pub returns-in-Ok-true-clause-read : goal.returns-in-Ok-true-clause-read
returns-in-Ok-true-clause-read c =
    let read = rw c.in-Ok-true.field-0-test at c.in-Ok-true.ensures.read in
    (read.0, read.1, rw (c.whole_of-whole.ensures) (found_there c.gather_list-gathered.new.gathered read.0 read.2))
