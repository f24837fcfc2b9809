use Rattle.std.specs.Prelude.{◌≤◌, ℕ, ◌+◌, List, [], length}
use Rattle.std.proofs.Common.{arith, sym, subst}
use Rattle.judge_memory.proofs.Orders.{order_by-straight}
use Rattle.show_faults.specs.Noted.{AreNoted}
use Rattle.show_faults.proofs.Noting.{noted-first, noted-whole}
use Rattle.show_faults.proofs.missed.missed_writes.Goals as goal

pub loop-i-init : goal.loop-i-init
loop-i-init c = record {
  ends = c.in_ok-column.ensures.ends;
  firsts = c.in_ok-column.ensures.firsts;
  last = c.in_ok-column.ensures.last;
  noted = noted-first c.args.index.now.history c.in_ok-sessions.sessions.items c.in_ok-missed.missed.items c.in_ok-missed.ensures.size
      c.in_ok-missed.ensures.none;
}

pub note_session-requires-clause-noted : goal.note_session-requires-clause-noted
note_session-requires-clause-noted c =
    subst (λ (xs : List ℕ). AreNoted c.args.index.now.history xs c.loop-i.i c.loop-i.missed.items) (sym c.deref.ensures.value)
    c.loop-i.invariant.noted

pub loop-i-preserved : goal.loop-i-preserved
loop-i-preserved c = record {
  ends = c.note_session.ensures.ends;
  firsts = c.note_session.ensures.firsts;
  last = c.note_session.ensures.last;
  noted = subst (λ (xs : List ℕ). AreNoted c.args.index.now.history xs (c.loop-i.i + 1) c.note_session.new.missed.items)
      c.deref.ensures.value c.note_session.ensures.noted;
}

pub returns : goal.returns
returns c =
    let list : List ℕ = c.in_ok-sessions.sessions.items in
    let whole : length list ≤ c.loop-i.i = grind arith in
    noted-whole c.args.index.now.history list c.loop-i.i whole c.in_ok-sessions.ensures.each
    (order_by-straight c.args.index.now.history [] c.args.order.now c.requires) c.loop-i.missed.items c.loop-i.invariant.noted
