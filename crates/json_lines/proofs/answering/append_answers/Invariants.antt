use Rattle.std.proofs.Common.{length}
use Rattle.json_lines.specs.Lines.{Front, lines_of}
use Rattle.json_lines.proofs.answering.append_answers.Given as goal

abbrev pub invariant-loop-rest : goal.invariant-loop-rest
invariant-loop-rest g l = Front (g.C.LineHandler.says l.handler) (lines_of l.fn.bytes) (lines_of l.rest) l.text.items l.outcome

abbrev pub decreases-loop-rest : goal.decreases-loop-rest
decreases-loop-rest g l = length l.rest
