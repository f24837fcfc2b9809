use Rattle.std.proofs.Common.{string_bytes}
use Rattle.std.proofs.lemmas.Result.{IfOk-weaker}
use Rattle.show_refusals.proofs.PlainLines.{place_is_plain}
use Rattle.show_refusals.proofs.fronts.front_of_numbers.Goals as goal

pub returns-clause-plain : goal.returns-clause-plain
returns-clause-plain c =
    IfOk-weaker c.format.result _ _
    (λ front is. place_is_plain c.args.session c.args.index (string_bytes front) c.ranges.session.fits c.ranges.index.fits is)
    c.format.ensures.ok
