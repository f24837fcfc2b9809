use Rattle.std.proofs.Common.{length}
use Rattle.cert_check.proofs.list_walk.ListWalk.go_behind.Goals as goal

pub on_to-place-requires-clause-counts : goal.on_to-place-requires-clause-counts
on_to-place-requires-clause-counts g c = λ _ _.
    c.place_before-from.ensures.counts c.args.list.now (length c.args.h.now.1) c.requires.counts
