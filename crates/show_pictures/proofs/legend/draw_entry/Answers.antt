-- A sign and a text.
use Rattle.std.proofs.Common.{refl, codes}
use Rattle.std.proofs.lemmas.Result.{on_ok_weaker}
use Rattle.show_pictures.specs.Markup.{no_attribute, attribute}
use Rattle.show_pictures.proofs.Contents.{appended_then}
use Rattle.show_pictures.proofs.legend.draw_entry.Goals as goal

pub push_text-requires : goal.push_text-requires
push_text-requires c = attribute (codes "font-size") (codes "13") _ refl refl (attribute (codes "fill") (codes "#374151") _ refl refl no_attribute)

pub returns : goal.returns
returns c = on_ok_weaker c.push_text.result (appended_then _ _ _ c.in_ok-draw_sign.ensures) c.push_text.ensures
