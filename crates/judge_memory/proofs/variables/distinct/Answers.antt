use Rattle.std.proofs.Common.{eqb}
use Rattle.std.proofs.lemmas.List.Filters.{dedup_is}
use Rattle.std.proofs.lemmas.Map.Keys.{IsStrictlyIncreasing-dedup}
use Rattle.judge_memory.proofs.KeyPlaces.{distinct-each}
use Rattle.judge_memory.proofs.variables.distinct.Goals as goal

pub returns-clause-rising : goal.returns-clause-rising
returns-clause-rising c = rw (dedup_is eqb _ _ c.dedup.ensures.filtered) (IsStrictlyIncreasing-dedup _ c.sort_unstable.ensures.sorted)

pub returns-clause-each : goal.returns-clause-each
returns-clause-each c = distinct-each _ _ _ _ c.in_ok-distinct.ensures.items c.sort_unstable.ensures.permutation
    (dedup_is eqb _ _ c.dedup.ensures.filtered)
