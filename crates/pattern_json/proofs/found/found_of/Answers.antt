use Rattle.std.proofs.Common.{◌≡◌, Bool, true, false, sym, ◌∙◌}
use Rattle.pattern_json.proofs.Shortened.{found_large, found_whole}
use Rattle.pattern_json.proofs.found.found_of.Goals as goal

pub returns-then-is_too_large : goal.returns-then-is_too_large
returns-then-is_too_large c = λ d is. found_large d c.in-Some.certificate (rw c.in-Some.is at is) (c.is_too_large.ensures.0 c.if-is_too_large.true)

pub returns-else-is_too_large : goal.returns-else-is_too_large
returns-else-is_too_large c = λ d is.
    found_whole d c.in-Some.certificate (rw c.in-Some.is at is)
    (λ large. let e : ◌≡◌ {A = Bool} true false = sym (c.is_too_large.ensures.1 large) ∙ c.if-is_too_large.false in absurd cc)
