use Rattle.std.proofs.Common.{◌∙◌, sym}
use Rattle.order_memory.proofs.IndexedLaws.{if_any-read}
use Rattle.order_memory.proofs.found_sources.found_source.Goals as goal

pub returns : goal.returns
returns c =
    if_any-read c.args.h.now c.args.op c.in_ok-read.read.0 c.in_ok-read.read.1 (rw c.in_ok-read.was at c.known_read.ensures) c.args.writes.now c.requires.writes
    (λ same. c.if-read-initial_value.false (same ∙ sym c.initial_value.ensures)) c.least_write.result c.least_write.ensures
