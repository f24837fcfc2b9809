-- The content so far.
use Rattle.std.proofs.Common.{string_bytes}
use Rattle.show_pictures.specs.Steps.Drawing.{AppendsContent}
use Rattle.show_pictures.proofs.drawing_head.draw_lines.Given as goal

abbrev pub invariant-loop-number : goal.invariant-loop-number
invariant-loop-number l = AppendsContent (string_bytes l.initial.svg) (string_bytes l.svg)
