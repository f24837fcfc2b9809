-- An element around that.
use Rattle.std.proofs.Common.{subst, sym, string_bytes}
use Rattle.show_pictures.specs.Steps.Drawing.{IsWithin}
use Rattle.std.proofs.lemmas.Result.{IfOk-weaker}
use Rattle.show_pictures.specs.Markup.{IsSvgElement}
use Rattle.show_pictures.proofs.Contents.{svg_element}
use Rattle.show_pictures.proofs.drawing.drawing_with.Goals as goal

pub returns : goal.returns
returns c =
    let within : IsWithin c.deref.result.now = subst IsWithin (sym c.deref.ensures) c.in_ok-within.ensures in
    IfOk-weaker c.element_of-svg.result _ (λ svg. IsSvgElement (string_bytes svg)) (λ svg is. svg_element _ (string_bytes svg) is within)
    c.element_of-svg.ensures
