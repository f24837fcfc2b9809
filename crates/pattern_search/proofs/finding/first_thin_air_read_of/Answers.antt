use Rattle.std.proofs.Common.{arith, below_more, refl, ◌≤◌, length}
use Rattle.model_history.specs.History.{session}
use Rattle.pattern_search.proofs.First.{no_thin_air_of}
use Rattle.pattern_search.proofs.finding.first_thin_air_read_of.Goals as goal

pub loop-index-preserved : goal.loop-index-preserved
loop-index-preserved c = below_more _ _ c.loop-index.invariant
    (λ thin_air. let yes = (rw c.at-read.ensures at c.is_thin_air_read.ensures).1 thin_air in let no_read = c.if-is_thin_air_read.false in absurd cc)

pub returns-then-is_thin_air_read : goal.returns-then-is_thin_air_read
returns-then-is_thin_air_read c = rw c.at-read.ensures (record {
  thin_air = (rw c.at-read.ensures at c.is_thin_air_read.ensures).0 c.if-is_thin_air_read.true;
  of_session = refl;
  none_earlier = c.loop-index.invariant;
})

pub returns : goal.returns
returns c =
    let count = c.len-index-end.ensures.count in
    let ended : length (session c.args.h.now c.args.session) ≤ c.loop-index.index = omega arith in
    no_thin_air_of c.args.h.now c.args.session c.loop-index.index ended c.loop-index.invariant
