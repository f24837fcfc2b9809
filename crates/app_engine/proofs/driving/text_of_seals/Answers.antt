use Rattle.std.proofs.Common.{◌∙◌, ◌++◌, ap, length, refl}
use Rattle.std.specs.Prelude.{string_bytes}
use Rattle.std.proofs.lemmas.Option.{slice_get_read}
use Rattle.app_engine.proofs.SealedTexts.{texts_next}
use Rattle.app_engine.proofs.driving.text_of_seals.Goals as goal

pub text_of_seal-requires-clause-sealed : goal.text_of_seal-requires-clause-sealed
text_of_seal-requires-clause-sealed g c κs within =
    let seals = c.args.seals.now in
    let i = c.loop-sealed.sealed-index in
    c.requires.sealed i c.sealed-item.result (slice_get_read seals (length seals) i c.sealed-item.result refl c.loop-sealed-test.true c.sealed-item.is)

pub loop-sealed-preserved : goal.loop-sealed-preserved
loop-sealed-preserved g c =
    let seals = c.args.seals.now in
    let i = c.loop-sealed.sealed-index in
    let text = string_bytes c.loop-sealed.text in
    let more = string_bytes c.in_ok-more.more in
    texts_next g.O.Drivable.any c.args.input.now seals i c.sealed-item.result text more (string_bytes c.push_str.new.self)
    (slice_get_read seals (length seals) i c.sealed-item.result refl c.loop-sealed-test.true c.sealed-item.is) c.loop-sealed.invariant c.in_ok-more.ensures
    (c.in_ok-push_str.ensures.bytes ∙ ap (λ m. text ++ m) c.as_str.ensures.value)
