use Rattle.std.proofs.Common.{None, refl, subst}
use Rattle.pattern_check.specs.declared.kind.Kind.TheVariants.{CyclicHB, WriteHBInitRead}
use Rattle.cert_check.specs.declared.criterion.Criterion.TheVariants.{Cm}
use Rattle.order_memory.specs.HappenedBeforePatterns.{HasHBCycle}
use Rattle.order_memory.specs.Memory.{MemoryHistory}
use Rattle.order_memory.specs.MemoryHistories.{IsMemoryHistory}
use Rattle.order_memory.proofs.ReadAnswers.{history-fits}
use Rattle.pattern_search.specs.Searches.{HasLargeHB}
use Rattle.pattern_search.proofs.FirstKindLaws.{first-cycle_in_hb, first-start_in_hb}
use Rattle.pattern_search.proofs.NothingFound.{free-memory}
use Rattle.judge_decision.proofs.Completeness.{free-meets}
use Rattle.judge_decision.proofs.Decided.{cycles-left}
use Rattle.judge_decision.proofs.deciding_limited.decision_of.Goals as goal

pub returns-in-Present : goal.returns-in-Present
returns-in-Present c =
    let h = c.args.memory.now in
    let comes = rw c.in-Present.is at c.requires.searched.starts in (
      record {
        against = refl;
        present = comes.0;
        not_met = c.present_kinds_exclude_criteria.ensures h Cm WriteHBInitRead refl comes.0;
      },
      comes.1,
      first-start_in_hb h c.requires.free Cm,
    )

pub returns-in-Present-cycles : goal.returns-in-Present-cycles
returns-in-Present-cycles c =
    let h = c.args.memory.now in
    let start = rw c.in-Nothing.is at c.requires.searched.starts in
    let left = cycles-left h (HasLargeHB h None) (¬ HasHBCycle h) c.args.searched.starts c.args.searched.cycles c.in-Nothing.is c.requires.searched.cycles in
    let comes = rw c.in-Present-cycles.is at left in (
      record {
        against = refl;
        present = comes.0;
        not_met = c.present_kinds_exclude_criteria.ensures h Cm CyclicHB refl comes.0;
      },
      comes.1,
      first-cycle_in_hb h c.requires.free start Cm,
    )

pub returns-in-Nothing-cycles : goal.returns-in-Nothing-cycles
returns-in-Nothing-cycles c =
    let h = c.args.memory.now in
    let start = rw c.in-Nothing.is at c.requires.searched.starts in
    let left = cycles-left h (HasLargeHB h None) (¬ HasHBCycle h) c.args.searched.starts c.args.searched.cycles c.in-Nothing.is c.requires.searched.cycles in
    let cycle = rw c.in-Nothing-cycles.is at left in
    let is_history = subst (λ (m : MemoryHistory). IsMemoryHistory m) c.history.ensures c.value_is_history.ensures in
    free-meets h (history-fits h _ is_history) c.requires.distinct Cm (free-memory h c.requires.free (cycle, start))
