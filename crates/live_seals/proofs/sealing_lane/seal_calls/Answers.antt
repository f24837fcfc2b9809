use Rattle.std.proofs.Common.{◌≡◌, ◌+◌, ◌++◌, ◌<◌, ◌≤◌, length, refl, ap, sym, ◌∙◌, subst, arith, rules}
use Rattle.live_recorder.proofs.Telling.{length_push}
use Rattle.std.specs.Prelude.{Some, None, false, map}
use Rattle.std.proofs.lemmas.List.{append-nil}
use Rattle.live_seals.specs.Steps.Sealing.{AreCallsRead}
use Rattle.live_seals.specs.Steps.Tables.{has_note, is_note, no_advice}
use Rattle.live_seals.proofs.FoundLooks.{one_more}
use Rattle.live_seals.proofs.Advising.{mapped_more}
use Rattle.live_seals.proofs.Sealings.{calls_more, calls_none}
use Rattle.live_seals.proofs.sealing_lane.seal_calls.Goals as goal

pub loop-i-init : goal.loop-i-init
loop-i-init g c =
    let operations = c.args.operations.now.items in
    let before = c.args.advice.now.items in
    let first : c.len-i.result ≡ length operations = search (rules, c.len-i.ensures) in
    let none : length c.new-notes.result.list ≡ 0 = ap length c.new-notes.ensures in
    record {
      many = omega arith;
      read = subst (λ l. AreCallsRead c.args.lane.now operations l operations) (sym c.new-notes.ensures)
          (calls_none g.O.Recorded.fitting c.args.lane.now operations);
      advised = subst (λ l. before ≡ before ++ map no_advice l) (sym c.new-notes.ensures) (sym (append-nil before));
      found = λ i from below. absurd (omega (arith, from, below));
    }

pub call_note-requires : goal.call_note-requires
call_note-requires g c = subst (λ n. c.loop-i.i < n) c.places-i-end.ensures.places c.loop-i-test.true

pub loop-i-preserved : goal.loop-i-preserved
loop-i-preserved g c =
    let more : length c.push_call.new.notes.list ≡ length c.loop-i.notes.list + 1 = ap length c.in_ok-push_call.ensures.noted ∙ length_push c.loop-i.notes.list (c.in_ok-push_call.ensures.cell, c.in_ok-push_call.ensures.known) in
    let many : length c.args.operations.now.items + length c.loop-i.notes.list ≡ c.loop-i.i = c.loop-i.invariant.many in
    record {
      many = omega arith;
      read = calls_more g.O.Recorded.fitting c.args.lane.now c.loop-i.i c.args.operations.now.items c.loop-i.notes.list c.push_call.new.notes.list c.loop-i.operations.items c.push_call.new.operations.items c.loop-i.advice.items c.push_call.new.advice.items c.loop-i.invariant.read c.in_ok-push_call.ensures (sym c.loop-i.invariant.many);
      advised = mapped_more no_advice c.args.advice.now.items c.loop-i.advice.items c.push_call.new.advice.items c.loop-i.notes.list c.push_call.new.notes.list (c.in_ok-push_call.ensures.cell, c.in_ok-push_call.ensures.known) None c.loop-i.invariant.advised c.in_ok-push_call.ensures.noted c.in_ok-push_call.ensures.advised refl;
      found = one_more (has_note c.args.table.now.calls) (length c.args.operations.now.items) c.loop-i.i c.loop-i.invariant.found (λ _. ap is_note (c.found_call.ensures ∙ ap Some c.in-Some.is));
    }

pub returns-in_default-clause-found : goal.returns-in_default-clause-found
returns-in_default-clause-found g c =
    let many : length c.args.operations.now.items + length c.loop-i.notes.list ≡ c.loop-i.i = c.loop-i.invariant.many in
    let read : length c.loop-i.operations.items ≡ length c.args.operations.now.items + length c.loop-i.notes.list = c.loop-i.invariant.read.many in
    let less : c.loop-i.i < c.places-i-end.result = search (rules, c.loop-i-test.true) in
    let places : c.places-i-end.result ≡ length c.args.lane.now.calls = c.places-i-end.ensures.places in
    let table : length c.args.table.now.calls ≡ length c.args.lane.now.calls = c.requires.table.call_places in
    λ short. record {
      from_on = omega arith;
      within = omega arith;
      full = λ i h k. c.loop-i.invariant.found i h (let k' : i < length c.loop-i.operations.items = k in omega arith);
      stops = λ h. subst (λ n. has_note c.args.table.now.calls n ≡ false) (sym (read ∙ many)) (ap is_note (c.found_call.ensures ∙ ap Some c.in_default.is));
    }

pub returns-clause-found : goal.returns-clause-found
returns-clause-found g c =
    let many : length c.args.operations.now.items + length c.loop-i.notes.list ≡ c.loop-i.i = c.loop-i.invariant.many in
    let read : length c.loop-i.operations.items ≡ length c.args.operations.now.items + length c.loop-i.notes.list = c.loop-i.invariant.read.many in
    let places : c.places-i-end.result ≡ length c.args.lane.now.calls = c.places-i-end.ensures.places in
    let table : length c.args.table.now.calls ≡ length c.args.lane.now.calls = c.requires.table.call_places in
    let all : c.places-i-end.result ≤ c.loop-i.i = search (rules, c.loop-i-test.false) in
    λ short. record {
      from_on = omega arith;
      within = let first : c.len-i.result ≡ length c.args.operations.now.items = search (rules, c.len-i.ensures) in let end : c.loop-i.i ≤ c.places-i-end.result = c.loop-i.auto.i-end (omega arith) in omega arith;
      full = λ i h k. c.loop-i.invariant.found i h (let k' : i < length c.loop-i.operations.items = k in omega arith);
      stops = λ h. absurd (let h' : length c.loop-i.operations.items < length c.args.table.now.calls = h in omega arith);
    }

pub returns-in_default-clause-read : goal.returns-in_default-clause-read
returns-in_default-clause-read g c = c.loop-i.invariant.read

pub returns-in_default-clause-advised : goal.returns-in_default-clause-advised
returns-in_default-clause-advised g c = c.loop-i.invariant.advised

pub returns-clause-read : goal.returns-clause-read
returns-clause-read g c = c.loop-i.invariant.read

pub returns-clause-advised : goal.returns-clause-advised
returns-clause-advised g c = c.loop-i.invariant.advised

pub returns-in_default-clause-short : goal.returns-in_default-clause-short
returns-in_default-clause-short g c =
    let many = c.loop-i.invariant.many in
    let read = c.loop-i.invariant.read.many in
    let places : c.places-i-end.result ≡ length c.args.lane.now.calls = c.places-i-end.ensures.places in
    let less : c.loop-i.i < c.places-i-end.result = c.loop-i-test.true in
    λ short. omega arith
