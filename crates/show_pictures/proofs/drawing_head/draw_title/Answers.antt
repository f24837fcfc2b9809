-- An element with an escaped text, and the end of its line.
use Rattle.std.proofs.Common.{chars, refl, [], codes}
use Rattle.std.proofs.lemmas.Result.{on_ok_weaker}
use Rattle.show_pictures.specs.Markup.{no_content}
use Rattle.show_pictures.proofs.Contents.{nothing_appended, line_end, written_text, at_end, full_tag}
use Rattle.show_pictures.proofs.drawing_head.draw_title.Goals as goal

pub returns-in_ok-title-in-Some : goal.returns-in_ok-title-in-Some
returns-in_ok-title-in-Some c =
    on_ok_weaker c.writeln.result (λ is. record {
      added = _;
      is = is;
      content =
          full_tag (codes "title") _ _ (codes "\n") refl (at_end _)
          (written_text _ (chars c.deref.result.now) c.in_ok-title-in-Some.ensures) (line_end [] no_content);
    }) c.writeln.ensures.bytes

pub returns-in-None : goal.returns-in-None
returns-in-None c = nothing_appended _
