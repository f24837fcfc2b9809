use Rattle.std.proofs.Common.{All}
use Rattle.json_histories.specs.Reads.{list_form, number_form}
use Rattle.pattern_json.proofs.CertificateForms.{forms_more, no_forms}
use Rattle.pattern_json.proofs.session.SessionGather.take_next.Goals as goal

pub returns-then-not-branch-clause-taken : goal.returns-then-not-branch-clause-taken
returns-then-not-branch-clause-taken g c =
    let read = rw c.if-not-branch.true at c.in_ok-next_numbers.ensures.read in
    (read.0, read.1, λ ds so_far more. no_forms (All g.T.Number.fits) (list_form (λ n. number_form (g.T.Number.whole n))) ds more read.0 read.2)

pub returns-clause-taken : goal.returns-clause-taken
returns-clause-taken g c =
    let read = rw c.if-not-branch.false at c.in_ok-next_numbers.ensures.read in (
      read.0,
      read.1,
      λ ds so_far. rw (c.in_ok-push.ensures.ok, c.as_slice.ensures)
          (forms_more (All g.T.Number.fits) (list_form (λ n. number_form (g.T.Number.whole n))) ds c.args.self.now.rows read.0 c.next_numbers.new.list.numbers.items so_far read.2),
    )
