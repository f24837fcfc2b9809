use Rattle.std.proofs.Common.{subst, sym}
use Rattle.model_history.specs.declared.op_id.OpId.{OpId}
use Rattle.order_memory.specs.Relations.{ReadsFrom}
use Rattle.order_memory.proofs.MemoryLaws.{read-of_history}
use Rattle.pattern_check.proofs.Distinct.{reads-from_source}
use Rattle.judge_patterns.proofs.numbered_memory.NumberedMemoryKnownMemory.source.Goals as goal

pub returns-in_default : goal.returns-in_default
returns-in_default c = λ write. (
  (λ from. absurd (c.in_default.ensures.number (read-of_history c.args.self.now.index.now.history c.args.read from.0 from.1 from.3))),
  λ no. absurd cc,
)

pub returns-in_default-source : goal.returns-in_default-source
returns-in_default-source c = λ write. (
  (λ from. absurd (c.in_default-source.ensures.source c.args.read c.in-Some.ensures.number.0 c.in-Some.ensures.number.1 write from)),
  λ no. absurd cc,
)

pub returns : goal.returns
returns c =
    let h = c.args.self.now.index.now.history in
    let found = c.in-Some-source.ensures.source c.args.read c.in-Some.ensures.number.0 c.in-Some.ensures.number.1 in
    let same = c.operation_of.ensures found.0 found.1 found.3 in
    reads-from_source h c.value_is_indexed.ensures.distinct c.args.read c.operation_of.result
    (subst (λ (a : OpId). ReadsFrom h a c.args.read) (sym same) found.2)
