use Rattle.live_script.proofs.arguments.next_plain.Goals as goal

pub returns-in-Some-clause-read : goal.returns-in-Some-clause-read
returns-in-Some-clause-read c = rw c.in-Word.is (rw c.in-Some.is at c.in_ok-word-in-Word.ensures.read)

pub returns-in-None-clause-read : goal.returns-in-None-clause-read
returns-in-None-clause-read c = rw c.in-Word.is (rw c.in-None.is at c.in_ok-word-in-Word.ensures.read)

pub returns-in-Some-2-clause-read : goal.returns-in-Some-2-clause-read
returns-in-Some-2-clause-read c = rw c.in-Number.is (rw c.in-Some-2.is at c.in_ok-number-in-Number.ensures.read)

pub returns-in-None-2-clause-read : goal.returns-in-None-2-clause-read
returns-in-None-2-clause-read c = rw c.in-Number.is (rw c.in-None-2.is at c.in_ok-number-in-Number.ensures.read)

pub returns-in-Some-3-clause-read : goal.returns-in-Some-3-clause-read
returns-in-Some-3-clause-read c = rw c.in-Times.is (rw c.in-Some-3.is at c.in_ok-times-in-Times.ensures.read)

pub returns-in-None-3-clause-read : goal.returns-in-None-3-clause-read
returns-in-None-3-clause-read c = rw c.in-Times.is (rw c.in-None-3.is at c.in_ok-times-in-Times.ensures.read)

pub returns-in-Ok-Some-clause-read : goal.returns-in-Ok-Some-clause-read
returns-in-Ok-Some-clause-read c = rw c.in-Counts.is (rw c.in-Ok-Some.field-0-is at c.in-Ok-Some.ensures.read)

pub returns-in-Ok-None-clause-read : goal.returns-in-Ok-None-clause-read
returns-in-Ok-None-clause-read c = rw c.in-Counts.is (rw c.in-Ok-None.field-0-is at c.in-Ok-None.ensures.read)

pub returns-in-Ok-Some-next_case-clause-read : goal.returns-in-Ok-Some-next_case-clause-read
returns-in-Ok-Some-next_case-clause-read c = rw c.in-Case.is (rw c.in-Ok-Some-next_case.field-0-is at c.in-Ok-Some-next_case.ensures.read)

pub returns-in-Ok-None-next_case-clause-read : goal.returns-in-Ok-None-next_case-clause-read
returns-in-Ok-None-next_case-clause-read c = rw c.in-Case.is (rw c.in-Ok-None-next_case.field-0-is at c.in-Ok-None-next_case.ensures.read)

pub returns-in-Ok-Some-next_pattern-clause-read : goal.returns-in-Ok-Some-next_pattern-clause-read
returns-in-Ok-Some-next_pattern-clause-read c = rw c.in-Pattern.is (rw c.in-Ok-Some-next_pattern.field-0-is at c.in-Ok-Some-next_pattern.ensures.read)

pub returns-in-Ok-None-next_pattern-clause-read : goal.returns-in-Ok-None-next_pattern-clause-read
returns-in-Ok-None-next_pattern-clause-read c = rw c.in-Pattern.is (rw c.in-Ok-None-next_pattern.field-0-is at c.in-Ok-None-next_pattern.ensures.read)
