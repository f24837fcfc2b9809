use Rattle.std.proofs.Common.{◌≡◌, ◌+◌, ◌++◌, ◌<◌, ◌≤◌, length, subst, subst₂, ap, sym, ◌∙◌, arith, rules}
use Rattle.live_recorder.proofs.Telling.{length_push}
use Rattle.std.specs.Prelude.{Some, option_map, false, map}
use Rattle.std.proofs.lemmas.List.{append-nil}
use Rattle.live_seals.specs.Steps.Sealing.{AreReturnsRead}
use Rattle.live_seals.specs.Steps.Tables.{advice_shown, has_note}
use Rattle.live_seals.proofs.FoundLooks.{one_more}
use Rattle.live_seals.proofs.Advising.{mapped_more}
use Rattle.live_seals.proofs.Sealings.{returns_more, returns_none, not_told}
use Rattle.live_seals.proofs.sealing_lane.seal_returns.Goals as goal

pub loop-i-init : goal.loop-i-init
loop-i-init g c =
    let before = c.args.advice.now.items in
    record {
      many = ap length c.new-notes.ensures;
      read = subst₂ (λ l es. AreReturnsRead g.O.Recorded.fitting c.args.lane.now l es) (sym c.new-notes.ensures) (sym c.requires.empty)
          (returns_none g.O.Recorded.fitting c.args.lane.now);
      advised = subst (λ l. before ≡ before ++ map advice_shown l) (sym c.new-notes.ensures) (sym (append-nil before));
      found = λ i from below. absurd (omega (arith, below));
    }

pub return_note-requires-clause-place : goal.return_note-requires-clause-place
return_note-requires-clause-place g c =
    subst (λ n. c.loop-i.i < n) (c.places-i-end.ensures.places ∙ sym c.places-i-end.ensures.lane.even) c.loop-i-test.true

pub push_return-requires : goal.push_return-requires
push_return-requires g c = record {
  place = subst (λ n. c.loop-i.i < n) (c.places-i-end.ensures.places ∙ sym c.places-i-end.ensures.lane.even) c.loop-i-test.true;
  found = c.in-Some.ensures.found;
}

pub loop-i-preserved : goal.loop-i-preserved
loop-i-preserved g c =
    let more : length c.push_return.new.notes.list ≡ length c.loop-i.notes.list + 1 = ap length c.in_ok-push_return.ensures.noted ∙ length_push c.loop-i.notes.list (c.in_ok-push_return.ensures.cell, c.in_ok-push_return.ensures.known) in
    let many : length c.loop-i.notes.list ≡ c.loop-i.i = c.loop-i.invariant.many in
    record {
      many = omega arith;
      read = returns_more g.O.Recorded.fitting c.args.lane.now c.loop-i.i c.loop-i.notes.list c.push_return.new.notes.list c.loop-i.operations.items c.push_return.new.operations.items c.loop-i.advice.items c.push_return.new.advice.items c.loop-i.invariant.read c.in_ok-push_return.ensures (sym c.loop-i.invariant.many);
      advised = mapped_more advice_shown c.args.advice.now.items c.loop-i.advice.items c.push_return.new.advice.items c.loop-i.notes.list c.push_return.new.notes.list (c.in_ok-push_return.ensures.cell, c.in_ok-push_return.ensures.known) (Some c.in_ok-push_return.ensures.advice) c.loop-i.invariant.advised c.in_ok-push_return.ensures.noted c.in_ok-push_return.ensures.advised (ap (option_map (λ o. o.2)) c.in_ok-push_return.ensures.shows);
      found = one_more (has_note c.args.table.now.returns) c.args.best.count c.loop-i.i c.loop-i.invariant.found c.in-Some.ensures.looked;
    }

pub returns-clause-told : goal.returns-clause-told
returns-clause-told g c =
    let many : length c.loop-i.notes.list ≡ c.loop-i.i = c.loop-i.invariant.many in
    let places : c.places-i-end.result ≡ length c.args.lane.now.calls = c.places-i-end.ensures.places in
    let even : length c.args.lane.now.returns ≡ length c.args.lane.now.calls = c.places-i-end.ensures.lane.even in
    let within : c.args.best.count ≤ length c.args.lane.now.returns = c.requires.within in
    let all : c.places-i-end.result ≤ c.loop-i.i = search (rules, c.loop-i-test.false) in omega arith

pub returns-in_default-clause-found : goal.returns-in_default-clause-found
returns-in_default-clause-found g c =
    let many : length c.loop-i.notes.list ≡ c.loop-i.i = c.loop-i.invariant.many in
    let less : c.loop-i.i < c.places-i-end.result = search (rules, c.loop-i-test.true) in
    let far = not_told c.args.best.count c.loop-i.i c.in_default.ensures.told in
    let places : c.places-i-end.result ≡ length c.args.lane.now.calls = c.places-i-end.ensures.places in
    let even : length c.args.lane.now.returns ≡ length c.args.lane.now.calls = c.places-i-end.ensures.lane.even in
    let table : length c.args.table.now.returns ≡ length c.args.lane.now.returns = c.requires.table.return_places in
    record {
      from_on = let f : c.args.best.count ≤ c.loop-i.i = far in omega arith;
      within = omega arith;
      full = λ i h k. c.loop-i.invariant.found i h (let k' : i < length c.loop-i.notes.list = k in omega arith);
      stops = λ h. subst (λ n. has_note c.args.table.now.returns n ≡ false) (sym many) (c.in_default.ensures.looked far);
    }

pub returns-clause-found : goal.returns-clause-found
returns-clause-found g c =
    let many : length c.loop-i.notes.list ≡ c.loop-i.i = c.loop-i.invariant.many in
    let places : c.places-i-end.result ≡ length c.args.lane.now.calls = c.places-i-end.ensures.places in
    let even : length c.args.lane.now.returns ≡ length c.args.lane.now.calls = c.places-i-end.ensures.lane.even in
    let within : c.args.best.count ≤ length c.args.lane.now.returns = c.requires.within in
    let table : length c.args.table.now.returns ≡ length c.args.lane.now.returns = c.requires.table.return_places in
    let all : c.places-i-end.result ≤ c.loop-i.i = search (rules, c.loop-i-test.false) in
    let end : c.loop-i.i ≤ c.places-i-end.result = search rules in
    record {
      from_on = omega arith;
      within = omega arith;
      full = λ i h k. c.loop-i.invariant.found i h (let k' : i < length c.loop-i.notes.list = k in omega arith);
      stops = λ h. absurd (let h' : length c.loop-i.notes.list < length c.args.table.now.returns = h in omega arith);
    }

pub returns-in_default-clause-read : goal.returns-in_default-clause-read
returns-in_default-clause-read g c = c.loop-i.invariant.read

pub returns-in_default-clause-told : goal.returns-in_default-clause-told
returns-in_default-clause-told g c =
    subst (λ n. c.args.best.count ≤ n) (sym c.loop-i.invariant.many) (not_told c.args.best.count c.loop-i.i c.in_default.ensures.told)

pub returns-in_default-clause-short : goal.returns-in_default-clause-short
returns-in_default-clause-short g c =
    let many : length c.loop-i.notes.list ≡ c.loop-i.i = c.loop-i.invariant.many in
    let places : c.places-i-end.result ≡ length c.args.lane.now.calls = c.places-i-end.ensures.places in
    let less = c.loop-i-test.true in
    omega arith

pub returns-in_default-clause-advised : goal.returns-in_default-clause-advised
returns-in_default-clause-advised g c = c.loop-i.invariant.advised

pub returns-clause-read : goal.returns-clause-read
returns-clause-read g c = c.loop-i.invariant.read

pub returns-clause-short : goal.returns-clause-short
returns-clause-short g c =
    let many : length c.loop-i.notes.list ≡ c.loop-i.i = c.loop-i.invariant.many in
    let places : c.places-i-end.result ≡ length c.args.lane.now.calls = c.places-i-end.ensures.places in
    let end : c.loop-i.i ≤ c.places-i-end.result = c.loop-i.auto.i-end in
    omega arith

pub returns-clause-advised : goal.returns-clause-advised
returns-clause-advised g c = c.loop-i.invariant.advised
