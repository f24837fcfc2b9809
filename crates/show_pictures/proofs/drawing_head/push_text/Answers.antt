-- An element with an escaped text, and the end of its line.
use Rattle.std.proofs.Common.{refl, [], codes, chars, string_bytes}
use Rattle.std.proofs.lemmas.Result.{on_ok_weaker}
use Rattle.show_pictures.specs.Markup.{no_content}
use Rattle.show_pictures.proofs.Contents.{line_end, written_text, at_end, attribute_then, more_attributes, full_tag}
use Rattle.show_pictures.proofs.Values.{number_is_value}
use Rattle.show_pictures.proofs.drawing_head.push_text.Goals as goal

pub returns : goal.returns
returns c =
    on_ok_weaker c.writeln.result (λ is. record {
      added = _;
      is = is;
      content =
          full_tag (codes "text") _ (string_bytes c.in_ok-words.words) (codes "\n") refl
          (attribute_then (codes "x") _ _ _ refl (number_is_value c.args.x.0)
          (attribute_then (codes "y") _ _ _ refl (number_is_value c.args.y.0)
          (more_attributes c.requires (at_end _))))
          (written_text _ (chars c.args.words.now) c.in_ok-words.ensures) (line_end [] no_content);
    }) c.writeln.ensures.bytes
