use Rattle.json_lines.proofs.FeedingLaws.{feed_within, free_long, none_free}
use Rattle.json_lines.proofs.feeding.first_end.Goals as goal

pub returns-in-Some-clause-found : goal.returns-in-Some-clause-found
returns-in-Some-clause-found c =
    feed_within c.args.most c.args.bytes.now c.in-Some.index c.end_at.result c.in-Some.ensures c.end_at.ensures.feed c.end_at.ensures.long

pub returns-in-Some-clause-within : goal.returns-in-Some-clause-within
returns-in-Some-clause-within c = c.end_at.ensures.within

pub returns-else-bytes-most-clause-short : goal.returns-else-bytes-most-clause-short
returns-else-bytes-most-clause-short c = c.if-bytes-most.false

pub returns-then-bytes-most-clause-found : goal.returns-then-bytes-most-clause-found
returns-then-bytes-most-clause-found c = free_long c.args.most c.args.bytes.now (none_free c.args.bytes.now c.in-None.ensures) c.if-bytes-most.true

pub returns-else-bytes-most-clause-free : goal.returns-else-bytes-most-clause-free
returns-else-bytes-most-clause-free c = none_free c.args.bytes.now c.in-None.ensures

pub returns-in-Some-clause-before : goal.returns-in-Some-clause-before
returns-in-Some-clause-before c = c.end_at.ensures.before
