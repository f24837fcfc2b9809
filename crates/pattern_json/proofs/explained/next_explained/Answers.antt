use Rattle.std.proofs.Common.{◌∙◌}
use Rattle.pattern_json.proofs.CertificateParts.{no_arbitration, no_cc_schedules, no_cm_schedules}
use Rattle.pattern_json.proofs.explained.next_explained.Goals as goal

pub returns-in-None-clause-read : goal.returns-in-None-clause-read
returns-in-None-clause-read c =
    let read = rw c.in-None.is at c.in_ok-schedules-in-Cc.ensures.read in
    (read.0, read.1, λ certificate good kind same. no_cc_schedules read.0 read.2 certificate good (kind ∙ c.in-Cc.is) same)

pub returns-in-None-2-clause-read : goal.returns-in-None-2-clause-read
returns-in-None-2-clause-read c =
    let read = rw c.in-None-2.is at c.in_ok-schedules-in-Cm.ensures.read in
    (read.0, read.1, λ certificate good kind same. no_cm_schedules read.0 read.2 certificate good (kind ∙ c.in-Cm.is) same)

pub returns-in-None-3-clause-read : goal.returns-in-None-3-clause-read
returns-in-None-3-clause-read c =
    let read = rw c.in-None-3.is at c.in_ok-sessions-in-Ccv.ensures.read in
    (read.0, read.1, λ certificate good kind same. no_arbitration read.0 read.2 certificate good (kind ∙ c.in-Ccv.is) same)

pub returns-in-Some-clause-read : goal.returns-in-Some-clause-read
returns-in-Some-clause-read c =
    let read = rw c.in-Some.is at c.in_ok-schedules-in-Cc.ensures.read in
    (read.0, read.1, rw c.in-Cc.is read.2)

pub returns-in-Some-2-clause-read : goal.returns-in-Some-2-clause-read
returns-in-Some-2-clause-read c =
    let read = rw c.in-Some-2.is at c.in_ok-schedules-in-Cm.ensures.read in
    (read.0, read.1, rw c.in-Cm.is read.2)

pub returns-in-Some-3-clause-read : goal.returns-in-Some-3-clause-read
returns-in-Some-3-clause-read c =
    let read = rw c.in-Some-3.is at c.in_ok-sessions-in-Ccv.ensures.read in
    (read.0, read.1, rw (c.in-Ccv.is, c.of.ensures) read.2)
