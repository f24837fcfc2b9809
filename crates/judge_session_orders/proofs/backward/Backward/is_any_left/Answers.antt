use Rattle.std.specs.Prelude.{slice_index_or}
use Rattle.std.proofs.Common.{arith, sym, subst}
use Rattle.std.proofs.lemmas.List.{get_or_read}
use Rattle.judge_session_orders.specs.Backward.{IsOpen}
use Rattle.judge_session_orders.specs.OnItsWay.{left_of}
use Rattle.judge_session_orders.proofs.TurnLaws.{listed-exists, open-place}
use Rattle.judge_session_orders.proofs.backward.Backward.is_any_left.Goals as goal

pub index-requires : goal.index-requires
index-requires c =
    let exists = (listed-exists c.args.index.now.history c.args.sessions.now c.requires.sessions c.loop-i.i (omega arith)).0 in
    let size = c.requires.on_its_way.sizes.ends in
    omega arith

pub start-requires : goal.start-requires
start-requires c = (listed-exists c.args.index.now.history c.args.sessions.now c.requires.sessions c.loop-i.i (omega arith)).0

pub returns-then-index-start-clause-some : goal.returns-then-index-start-clause-some
returns-then-index-start-clause-some c _ =
    let exists = (listed-exists c.args.index.now.history c.args.sessions.now c.requires.sessions c.loop-i.i (omega arith)).0 in
    let size = c.requires.on_its_way.sizes.ends in
    let read = get_or_read c.args.self.now.ends.items _ _ (omega arith) c.index.ensures 0 in
    let start = c.start.ensures.number in
    (slice_index_or c.args.sessions.now c.loop-i.i 0, omega arith)

pub returns-clause-none : goal.returns-clause-none
returns-clause-none c _ t is_open =
    let place = open-place c.args.index.now c.args.self.now c.requires.on_its_way c.args.sessions.now c.requires.sessions t is_open in
    let below = place.1 in
    c.loop-i.invariant place.0 (omega arith) (subst (IsOpen (left_of c.args.index.now.history c.args.self.now)) (sym place.2) is_open)
