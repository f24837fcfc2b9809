use Rattle.std.proofs.Common.{◌≡◌, ◌+◌, ◌<◌, ◌≤◌, ◌∷◌, [], length, get_or, refl, ap, sym, ◌∙◌, subst, subst₂, arith}
use Rattle.std.specs.Prelude.{map, Some, slice_get}
use Rattle.std.specs.List.{flat_map}
use Rattle.std.proofs.lemmas.List.{map-append}
use Rattle.std.proofs.lemmas.Option.{slice_get_within}
use Rattle.live_recorder.proofs.Telling.{length_push, length_map}
use Rattle.live_cut_plan.proofs.ListPlaces.{read_at}
use Rattle.live_seals.proofs.TableLemmas.{table_at, lanes_many}
use Rattle.live_seals.proofs.Histories.{count_in, told_by, lanes_more, lane_found, lanes_found_more}
use Rattle.live_seals.specs.Steps.Sealing.{IsLaneFound}
use Rattle.live_seals.specs.Steps.Tables.{advised}
use Rattle.live_seals.proofs.Advising.{lanes_advised_more}
use Rattle.live_seals.proofs.FoundLooks.{count_is}
use Rattle.live_seals.proofs.sealing.seal_lanes.Goals as goal

pub loop-s-init : goal.loop-s-init
loop-s-init g c =
    let none : length c.new-lanes.result.items ≡ 0 = ap length c.new-lanes.ensures.items in
    record {
      sessions = ap length c.new-sessions.ensures.items;
      lanes = none;
      each = λ s es n lane e f at. absurd (let below = slice_get_within c.new-lanes.result.items s n f in omega arith);
      advised = subst₂ (λ a l. a ≡ flat_map advised l) (sym c.new-advice.ensures.items) (sym c.new-lanes.ensures.items) refl;
      found = λ s es l e f. absurd (let below = slice_get_within c.new-lanes.result.items s l f in omega arith);
    }

pub lane-requires : goal.lane-requires
lane-requires g c = subst (λ n. c.loop-s.s < n) c.len-s-end.ensures.lanes c.loop-s-test.true

pub index-requires : goal.index-requires
index-requires g c =
    let looker = c.looker.inside in
    let tables = c.looker.invariant.tables in
    let inside = lanes_many looker.lanes.now.cells looker.tables.items c.loop-s.s c.lane.result.now tables c.lane.ensures in
    omega arith

pub seal_lane-requires-clause-receipts : goal.seal_lane-requires-clause-receipts
seal_lane-requires-clause-receipts g c =
    told_by g.O.Recorded.fitting c.looker.inside.lanes.now c.looker.inside.receipts.now c.loop-s.s _ c.longest-best.result c.lane.result.now
    c.looker.invariant.of c.longest-best.ensures c.lane.ensures

pub seal_lane-requires-clause-within : goal.seal_lane-requires-clause-within
seal_lane-requires-clause-within g c = count_in g.O.Recorded.fitting c.looker.inside.lanes.now c.looker.inside.receipts.now c.loop-s.s _ c.longest-best.result c.lane.result.now c.looker.invariant.of c.longest-best.ensures c.lane.ensures

pub seal_lane-requires-clause-table : goal.seal_lane-requires-clause-table
seal_lane-requires-clause-table g c = table_at c.looker.inside.lanes.now.cells c.looker.inside.tables.items c.loop-s.s c.lane.result.now c.index.result.now c.looker.invariant.tables c.lane.ensures (lanes_many c.looker.inside.lanes.now.cells c.looker.inside.tables.items c.loop-s.s c.lane.result.now c.looker.invariant.tables c.lane.ensures) c.index.ensures

pub loop-s-preserved : goal.loop-s-preserved
loop-s-preserved g c = record {
  sessions = ap length c.in_ok-push.ensures.items ∙ (length_push c.loop-s.sessions.items c.in_ok-operations.operations ∙ ap (λ n. n + 1) c.loop-s.invariant.sessions);
  lanes = ap length c.in_ok-push-2.ensures.items ∙ (length_push c.loop-s.lanes.items c.in_ok-operations.lane ∙ ap (λ n. n + 1) c.loop-s.invariant.lanes);
  each = lanes_more g.O.Recorded.fitting c.args.looker.now.lanes.cells c.args.looker.now.receipts (map (λ v. v.items) c.loop-s.sessions.items) (map (λ v. v.items) c.push.new.self.items) c.loop-s.lanes.items c.push-in-loop-s.new.self.items c.loop-s.s c.in_ok-operations.operations.items c.in_ok-operations.lane c.lane.result.now
      (length_map (λ v. v.items) c.loop-s.sessions.items ∙ c.loop-s.invariant.sessions) c.loop-s.invariant.lanes (subst (λ v. slice_get v.lanes.cells c.loop-s.s ≡ Some c.lane.result.now) c.looker.view_is c.lane.ensures)
      (ap (map (λ v. v.items)) c.in_ok-push.ensures.items ∙ map-append (λ v. v.items) c.loop-s.sessions.items (c.in_ok-operations.operations ∷ [])) c.in_ok-push-2.ensures.items
      (record {
        session = c.in_ok-operations.ensures.session;
        notes = c.in_ok-operations.ensures.notes;
        short = c.in_ok-operations.ensures.short;
        told = λ j r e f.
            let at = subst (λ v. slice_get v.receipts j ≡ Some r) (sym c.looker.view_is) e in
            let m : length r.operations ≤ c.longest-best.result.count = c.longest-best.ensures.most j r (slice_get_within c.looker.inside.receipts.now j r at) at f in
            let t : c.longest-best.result.count ≤ length c.in_ok-operations.lane.returns = c.in_ok-operations.ensures.told in omega arith;
      })
      c.loop-s.invariant.each;
  advised = lanes_advised_more c.loop-s.advice.items c.seal_lane.new.advice.items c.loop-s.lanes.items c.push-in-loop-s.new.self.items c.in_ok-operations.lane c.loop-s.invariant.advised c.in_ok-push-2.ensures.items c.in_ok-operations.ensures.advised;
  found = lanes_found_more c.args.looker.now.looks c.args.looker.now.told c.args.looker.now.cap (map (λ v. v.items) c.loop-s.sessions.items) (map (λ v. v.items) c.push.new.self.items) c.loop-s.lanes.items c.push-in-loop-s.new.self.items c.loop-s.s c.in_ok-operations.operations.items c.in_ok-operations.lane
      (length_map (λ v. v.items) c.loop-s.sessions.items ∙ c.loop-s.invariant.sessions) c.loop-s.invariant.lanes (ap (map (λ v. v.items)) c.in_ok-push.ensures.items ∙ map-append (λ v. v.items) c.loop-s.sessions.items (c.in_ok-operations.operations ∷ [])) c.in_ok-push-2.ensures.items
      (subst (λ v. IsLaneFound v.looks c.loop-s.s (get_or v.told c.loop-s.s 0) v.cap c.in_ok-operations.operations.items c.in_ok-operations.lane) c.looker.view_is
      (lane_found c.looker.inside.looks.items c.loop-s.s (get_or c.looker.inside.told.items c.loop-s.s 0) c.looker.inside.cap c.longest-best.result.count c.lane.result.now c.index.result.now c.in_ok-operations.operations.items c.in_ok-operations.lane
      (c.looker.invariant.looked c.loop-s.s c.index.result.now (read_at c.looker.inside.tables.items c.loop-s.s c.index.result.now (lanes_many c.looker.inside.lanes.now.cells c.looker.inside.tables.items c.loop-s.s c.lane.result.now c.looker.invariant.tables c.lane.ensures) c.index.ensures))
      (count_is c.looker.inside.lanes.now c.looker.inside.receipts.now c.looker.inside.told.items c.loop-s.s c.longest-best.result c.looker.invariant.counts c.longest-best.ensures)
      (table_at c.looker.inside.lanes.now.cells c.looker.inside.tables.items c.loop-s.s c.lane.result.now c.index.result.now c.looker.invariant.tables c.lane.ensures (lanes_many c.looker.inside.lanes.now.cells c.looker.inside.tables.items c.loop-s.s c.lane.result.now c.looker.invariant.tables c.lane.ensures) c.index.ensures)
      c.in_ok-operations.ensures.lane (c.looker.invariant.places c.loop-s.s c.lane.result.now c.lane.ensures) c.in_ok-operations.ensures.found))
      c.loop-s.invariant.found;
}

pub returns-clause-found : goal.returns-clause-found
returns-clause-found g c = c.loop-s.invariant.found

pub returns-clause-sealed : goal.returns-clause-sealed
returns-clause-sealed g c =
    let past : c.len-s-end.result ≤ c.loop-s.s = c.loop-s-test.false in
    let within : c.loop-s.s ≤ c.len-s-end.result = c.loop-s.auto.s-end in
    let end : c.loop-s.s ≡ c.len-s-end.result = omega arith in
    let all = end ∙ (c.len-s-end.ensures.lanes ∙ ap (λ v. length v.lanes.cells) c.looker.view_is) in
    record {
      sessions = length_map (λ v. v.items) c.loop-s.sessions.items ∙ (c.loop-s.invariant.sessions ∙ all);
      lanes = c.loop-s.invariant.lanes ∙ all;
      each = c.loop-s.invariant.each;
    }

pub returns-clause-advised : goal.returns-clause-advised
returns-clause-advised g c = c.loop-s.invariant.advised
