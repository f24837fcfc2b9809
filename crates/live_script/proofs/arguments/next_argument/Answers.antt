use Rattle.live_script.proofs.arguments.next_argument.Goals as goal

pub returns-in-Ok-Some-clause-read : goal.returns-in-Ok-Some-clause-read
returns-in-Ok-Some-clause-read g c = rw c.in-Call.is (rw c.in-Ok-Some.field-0-is at c.in-Ok-Some.ensures.read)

pub returns-in-Ok-None-clause-read : goal.returns-in-Ok-None-clause-read
returns-in-Ok-None-clause-read g c = rw c.in-Call.is (rw c.in-Ok-None.field-0-is at c.in-Ok-None.ensures.read)

pub returns-in-Ok-Some-next_return-clause-read : goal.returns-in-Ok-Some-next_return-clause-read
returns-in-Ok-Some-next_return-clause-read g c = rw c.in-Return.is (rw c.in-Ok-Some-next_return.field-0-is at c.in-Ok-Some-next_return.ensures.read)

pub returns-in-Ok-None-next_return-clause-read : goal.returns-in-Ok-None-next_return-clause-read
returns-in-Ok-None-next_return-clause-read g c = rw c.in-Return.is (rw c.in-Ok-None-next_return.field-0-is at c.in-Ok-None-next_return.ensures.read)

pub returns-in-Ok-Some-next_plain-clause-read : goal.returns-in-Ok-Some-next_plain-clause-read
returns-in-Ok-Some-next_plain-clause-read g c = rw c.in-Plain.is (rw c.in-Ok-Some-next_plain.field-0-is at c.in-Ok-Some-next_plain.ensures.read)

pub returns-in-Ok-None-next_plain-clause-read : goal.returns-in-Ok-None-next_plain-clause-read
returns-in-Ok-None-next_plain-clause-read g c = rw c.in-Plain.is (rw c.in-Ok-None-next_plain.field-0-is at c.in-Ok-None-next_plain.ensures.read)
