-- Entries between the start of a group and its end.
use Rattle.std.proofs.Common.{refl, codes}
use Rattle.std.proofs.lemmas.Result.{on_ok_weaker}
use Rattle.show_pictures.proofs.Contents.{pushed, nothing_appended, appended_then, group_appended}
use Rattle.show_pictures.proofs.legend.draw_legend.Goals as goal

pub loop-number-init : goal.loop-number-init
loop-number-init c = nothing_appended _

pub loop-number-preserved : goal.loop-number-preserved
loop-number-preserved c = appended_then _ _ _ c.loop-number.invariant c.in_ok-draw_entry.ensures

pub returns : goal.returns
returns c =
    on_ok_weaker c.push_str-2.result (λ is.
    group_appended _ _ _ _ (codes "legend") refl c.in_ok-push_str.ensures.bytes c.loop-number.invariant is) (pushed c.push_str-2.result _ _ _ c.push_str-2.ensures.bytes)
