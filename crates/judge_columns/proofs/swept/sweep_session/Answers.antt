use Rattle.std.specs.Prelude.{◌≡◌, ◌++◌, ◌∷◌, [], ℕ, ◌+◌, ◌||◌, List, slice_index_or}
use Rattle.std.proofs.Common.{arith}
use Rattle.std.proofs.lemmas.List.{get_or_past}
use Rattle.judge_memory.specs.Steps.{many}
use Rattle.judge_columns.specs.Lanes.{lane_of}
use Rattle.judge_columns.specs.Groups.{IsAmong}
use Rattle.judge_columns.specs.Swept.{HasEdge}
use Rattle.judge_columns.proofs.Copies.{ends-copied, firsts-copied, lane-copied, within-copied}
use Rattle.judge_columns.proofs.GroupLists.{among-more}
use Rattle.judge_columns.proofs.SessionsSwept.{or-either, swept-both, swept-column}
use Rattle.judge_columns.proofs.swept.sweep_session.Goals as goal

pub sweep_column-overwritten-requires-clause-ends : goal.sweep_column-overwritten-requires-clause-ends
sweep_column-overwritten-requires-clause-ends c =
    let h = c.args.index.now.history in
    let ends : List ℕ = c.deref.result.now in
    ends-copied h c.args.session (lane_of c.args.lanes.now.ends.items c.args.lane) (λ n. slice_index_or ends n 0)
    (lane-copied (many h) c.args.lanes.now.ends.items c.args.lane c.take_lanes.new.ends.items ends c.requires.numbers.ends
    c.deref.ensures.value c.take_lanes.ensures.ends)
    c.requires.column.ends

pub sweep_column-overwritten-requires-clause-within : goal.sweep_column-overwritten-requires-clause-within
sweep_column-overwritten-requires-clause-within c =
    let h = c.args.index.now.history in
    let ends : List ℕ = c.deref.result.now in
    within-copied h c.args.session (lane_of c.args.lanes.now.ends.items c.args.lane) (λ n. slice_index_or ends n 0)
    (lane-copied (many h) c.args.lanes.now.ends.items c.args.lane c.take_lanes.new.ends.items ends c.requires.numbers.ends
    c.deref.ensures.value c.take_lanes.ensures.ends)
    c.requires.column.within

pub sweep_column-overwritten-requires-clause-firsts : goal.sweep_column-overwritten-requires-clause-firsts
sweep_column-overwritten-requires-clause-firsts c =
    let h = c.args.index.now.history in
    let firsts : List ℕ = c.deref-2.result.now in
    firsts-copied h c.args.session (lane_of c.args.lanes.now.firsts.items c.args.lane) (λ n. slice_index_or firsts n 0)
    (lane-copied (many h) c.args.lanes.now.firsts.items c.args.lane c.take_lanes.new.firsts.items firsts c.requires.numbers.firsts
    c.deref-2.ensures.value c.take_lanes.ensures.firsts)
    c.requires.column.firsts

pub returns-clause-swept : goal.returns-clause-swept
returns-clause-swept c sessions places k here was =
    let h = c.args.index.now.history in
    let old = c.args.swept.now in
    let one = c.sweep_column-overwritten.result in
    let shows = c.sweep_column-overwritten.ensures in
    let edges : List (ℕ × ℕ) = c.push_edges.new.edges.items in
    let late : List ℕ = c.sweep_column-overwritten.new.late.items in
    let size = shows.late_size in
    let column = swept-column h c.args.session one.start one.read (λ n. slice_index_or late n 0) shows.start shows.read shows.edges
    (λ to past. get_or_past late to 0 (omega arith)) shows.writes in
    swept-both h (IsAmong sessions places) (λ t. t ≡ c.args.session) (IsAmong sessions (places ++ k ∷ []))
    (among-more sessions places k c.args.session here) old.has_overwritten_start old.has_overwritten_read
    (HasEdge old.edges.items) was one.start one.read (λ from to. slice_index_or late to 0 ≡ from + 1) column
    (old.has_overwritten_start || one.start) (old.has_overwritten_read || one.read) (HasEdge edges)
    (or-either old.has_overwritten_start one.start) (or-either old.has_overwritten_read one.read)
    c.in_ok-push_edges.ensures.edges
