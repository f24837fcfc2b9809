use Rattle.std.proofs.Common.{◌≡◌, ◌∙◌, ℕ, List, ap, sym, subst, map-id}
use Rattle.std.specs.Prelude.{encode_utf8_all, string_bytes}
use Rattle.std.proofs.lemmas.Iterator.{YieldsList-from_chars}
use Rattle.std.proofs.lemmas.Iterator.Consumers.{YieldsList-end}
use Rattle.std.proofs.lemmas.Str.{encodes-chars}
use Rattle.log_reader.specs.Spelling.{AddsSpelled}
use Rattle.log_reader.proofs.ShownLaws.{encoded-push}
use Rattle.log_reader.proofs.SpellLaws.{adds_more, adds_none}
use Rattle.log_reader.proofs.shown.push_shown.Goals as goal

pub loop-c-init : goal.loop-c-init
loop-c-init c = (λ h. h, adds_none (string_bytes c.args.text.now))

pub loop-c-preserved : goal.loop-c-preserved
loop-c-preserved c = (
  λ h. c.in_ok-push_character.ensures.shown (c.loop-c.invariant.0 h),
  subst (λ (s : List ℕ). AddsSpelled s (string_bytes c.args.text.now) (string_bytes c.push_character.new.text)) (sym (encoded-push c.loop-c.yielded _))
      (adds_more _ _ _ _ _ c.loop-c.invariant.1 c.in_ok-push_character.ensures.spelled),
)

pub returns-clause-spelled : goal.returns-clause-spelled
returns-clause-spelled c =
    let done = YieldsList-end (YieldsList-from_chars c.args.shown.now c.utf8.shown cc) c.loop-c.yielded _ c.loop-c.yielded_by _ _ c.in-None.is c.next.ensures.steps in
    let same : encode_utf8_all c.loop-c.yielded ≡ c.args.shown.now = ap encode_utf8_all (sym (map-id c.loop-c.yielded) ∙ done.0) ∙ encodes-chars c.args.shown.now c.utf8.shown in
    subst (λ (s : List ℕ). AddsSpelled s (string_bytes c.args.text.now) (string_bytes c.loop-c.text)) same c.loop-c.invariant.1
