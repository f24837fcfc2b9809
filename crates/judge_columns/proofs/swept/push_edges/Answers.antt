use Rattle.std.specs.Prelude.{◌≡◌, ◌≤◌, ℕ, List, length, slice_index_or}
use Rattle.std.proofs.Common.{arith, ◌∙◌}
use Rattle.judge_columns.proofs.PushedEdges.{cleared-more, cleared-whole, edges-more, edges-whole, left-more}
use Rattle.judge_columns.proofs.swept.push_edges.Goals as goal

pub loop-to-preserved : goal.loop-to-preserved
loop-to-preserved c =
    let to : ℕ = c.loop-to.to in
    let first : List ℕ = c.args.late.now.items in
    let old : List ℕ = c.loop-to.late.items in
    let late : List ℕ = c.take_late.new.late.items in
    let was = c.loop-to.invariant in
    let value : c.take_late.result ≡ slice_index_or first to 0 = c.take_late.ensures.taken ∙ was.left to (omega arith) in
    record {
      size = c.take_late.ensures.size ∙ was.size;
      clear = cleared-more old late to c.take_late.ensures.others c.take_late.ensures.none was.clear;
      left = left-more old late to c.take_late.ensures.others first was.left;
      edges = edges-more first c.args.edges.now.items c.loop-to.edges.items c.push_edge.new.edges.items to c.take_late.result value
          was.edges c.in_ok-push_edge.ensures;
    }

pub returns-clause-clear : goal.returns-clause-clear
returns-clause-clear c =
    let size = c.loop-to.invariant.size in
    let whole : length c.loop-to.late.items ≤ c.loop-to.to = grind arith in
    cleared-whole c.loop-to.late.items c.loop-to.to whole c.loop-to.invariant.clear

pub returns-clause-edges : goal.returns-clause-edges
returns-clause-edges c =
    let whole : length c.args.late.now.items ≤ c.loop-to.to = grind arith in
    edges-whole c.args.late.now.items c.args.edges.now.items c.loop-to.edges.items c.loop-to.to whole c.loop-to.invariant.edges
