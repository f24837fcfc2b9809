-- What is found of a memory history over the limits, and one criterion.
use Rattle.json_histories.specs.declared.any_history.AnyHistory.TheVariants.{Memory}
use Rattle.order_memory.specs.Memory.{MemoryHistory}
use Rattle.cert_check.specs.declared.criterion.Criterion.{Criterion}
use Rattle.app_findings.specs.declared.finding.Finding.{Finding}
use Rattle.app_findings.specs.Answers.{IsKnownOnDistinctValues, IsLongTrueOf, NamesUnexplained}
use Rattle.app_findings.specs.Findings.{IsFinding, answer_of}

-- a finding of it, with an answer that `judge` may give
pub record IsLongFound (h : MemoryHistory) (criterion : Criterion) (finding : Finding) : Type 0 where
  pub is_finding : IsFinding (Memory h) criterion finding
  pub is_true : IsLongTrueOf (Memory h) criterion (answer_of finding)
  pub is_known : IsKnownOnDistinctValues (Memory h) (answer_of finding)
  pub names : NamesUnexplained (Memory h) criterion (answer_of finding)
