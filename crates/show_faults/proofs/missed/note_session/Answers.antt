use Rattle.std.specs.Prelude.{[], slice_index_or}
use Rattle.std.proofs.lemmas.Option.{slice_get-get_or}
use Rattle.judge_memory.proofs.Orders.{order_by-straight}
use Rattle.show_faults.proofs.missed.note_session.Goals as goal

pub find_past_ends-requires-clause-session : goal.find_past_ends-requires-clause-session
find_past_ends-requires-clause-session c =
    c.requires.below c.args.i (slice_index_or c.args.sessions.now c.args.i 0)
    (slice_get-get_or c.args.sessions.now c.args.i 0 c.requires.inside)

pub find_firsts-requires-clause-session : goal.find_firsts-requires-clause-session
find_firsts-requires-clause-session c =
    c.requires.below c.args.i (slice_index_or c.args.sessions.now c.args.i 0)
    (slice_get-get_or c.args.sessions.now c.args.i 0 c.requires.inside)

pub note_column-requires-clause-session : goal.note_column-requires-clause-session
note_column-requires-clause-session c =
    c.requires.below c.args.i (slice_index_or c.args.sessions.now c.args.i 0)
    (slice_get-get_or c.args.sessions.now c.args.i 0 c.requires.inside)

pub note_column-requires-clause-straight : goal.note_column-requires-clause-straight
note_column-requires-clause-straight c = order_by-straight c.args.index.now.history [] c.args.order.now c.requires.order
