use Rattle.std.proofs.Common.{◌≡◌, ◌∙◌, ◌++◌, ◌≤◌, List, Option, length, map, ap, sym, subst, arith}
use Rattle.std.proofs.lemmas.List.{append_assoc}
use Rattle.model_history.specs.declared.advice.Advice.{Advice}
use Rattle.live_seals.specs.Steps.Tables.{IsSealedSession, AreNotesOf, RunsTo, advice_shown, advised, has_note, no_advice}
use Rattle.live_seals.specs.Steps.Sealing.{IsOfTable}
use Rattle.live_seals.proofs.Sealings.{session_sealed, notes_sealed}
use Rattle.live_seals.proofs.sealing_lane.seal_lane.Goals as goal

pub returns-clause-session : goal.returns-clause-session
returns-clause-session g c = subst (λ l. IsSealedSession g.O.Recorded.fitting c.seal_calls.new.operations.items l) (sym c.of.ensures) (session_sealed g.O.Recorded.fitting c.args.lane.now c.in_ok-returns.returns.list c.in_ok-calls.calls.list c.seal_returns.new.operations.items c.seal_calls.new.operations.items c.in_ok-returns.ensures.read c.in_ok-calls.ensures.read)

pub returns-clause-notes : goal.returns-clause-notes
returns-clause-notes g c = subst (λ l. AreNotesOf c.args.lane.now l) (sym c.of.ensures) (notes_sealed g.O.Recorded.fitting c.args.lane.now c.in_ok-returns.returns.list c.in_ok-calls.calls.list c.seal_returns.new.operations.items c.seal_calls.new.operations.items c.in_ok-returns.ensures.read c.in_ok-calls.ensures.read)

pub returns-clause-found : goal.returns-clause-found
returns-clause-found g c = subst (λ l. IsOfTable c.args.table.now c.args.best.count c.seal_calls.new.operations.items l) (sym c.of.ensures) (record {
  returns = c.in_ok-returns.ensures.found;
  calls =
      let many : length c.seal_returns.new.operations.items ≡ length c.in_ok-returns.returns.list = c.in_ok-returns.ensures.read.many in
      let short : length c.in_ok-returns.returns.list ≤ length c.args.lane.now.calls = c.in_ok-returns.ensures.short in
      subst (λ n. RunsTo (has_note c.args.table.now.calls) n (length c.seal_calls.new.operations.items) (length c.args.table.now.calls)) many (c.in_ok-calls.ensures.found (omega arith));
})

pub returns-clause-advised : goal.returns-clause-advised
returns-clause-advised g c =
    c.in_ok-calls.ensures.advised
    ∙ (ap (λ (xs : List (Option Advice)). xs ++ map no_advice c.in_ok-calls.calls.list) c.in_ok-returns.ensures.advised
    ∙ (append_assoc c.args.advice.now.items (map advice_shown c.in_ok-returns.returns.list) (map no_advice c.in_ok-calls.calls.list)
    ∙ sym (ap (λ l. c.args.advice.now.items ++ advised l) c.of.ensures)))

pub returns-clause-short : goal.returns-clause-short
returns-clause-short g c =
    let many : length c.seal_returns.new.operations.items ≡ length c.in_ok-returns.returns.list = c.in_ok-returns.ensures.read.many in
    let within : length c.in_ok-returns.returns.list ≤ length c.args.lane.now.calls = c.in_ok-returns.ensures.short in
    let front : length c.seal_returns.new.operations.items ≤ length c.args.lane.now.calls = omega (arith, many, within) in
    let all : length c.seal_calls.new.operations.items ≤ length c.args.lane.now.calls = c.in_ok-calls.ensures.short front in
    let few : length c.args.lane.now.calls ≤ 256 = c.places-places.ensures.lane.short in
    let short : length c.seal_calls.new.operations.items ≤ 256 = omega (arith, all, few) in short

pub returns-clause-told : goal.returns-clause-told
returns-clause-told g c = subst (λ l. c.args.best.count ≤ length l.returns) (sym c.of.ensures) c.in_ok-returns.ensures.told

pub returns-clause-lane : goal.returns-clause-lane
returns-clause-lane g c = c.places-places.ensures.lane

pub seal_returns-requires-clause-empty : goal.seal_returns-requires-clause-empty
seal_returns-requires-clause-empty g c = c.new-operations.ensures.items

pub seal_calls-requires : goal.seal_calls-requires
seal_calls-requires g c = record { table = c.requires.table }
