use Rattle.json_histories.specs.Reads.{number_form}
use Rattle.pattern_json.proofs.CertificateForms.{forms_more, no_forms}
use Rattle.pattern_json.proofs.numbers.NumbersGather.take_next.Goals as goal

pub returns-in_default-clause-taken : goal.returns-in_default-clause-taken
returns-in_default-clause-taken g c =
    let read = rw c.in_default.is at c.in_ok-number.ensures.read in
    (read.0, read.1, λ ds so_far more. no_forms g.T.Number.fits (λ n. number_form (g.T.Number.whole n)) ds more read.0 read.2)

pub returns-clause-taken : goal.returns-clause-taken
returns-clause-taken g c =
    let read = rw c.in-Some.is at c.in_ok-number.ensures.read in (
      read.0,
      read.1,
      λ ds so_far. rw (c.in_ok-push.ensures.items)
          (forms_more g.T.Number.fits (λ n. number_form (g.T.Number.whole n)) ds c.args.self.now.numbers.items read.0 c.in-Some.number so_far read.2),
    )
