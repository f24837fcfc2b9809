use Rattle.std.proofs.Common.{All}
use Rattle.json_histories.specs.Reads.{list_form, number_form}
use Rattle.pattern_json.specs.Steps.Lists.{AreForms, AreNoForms}
use Rattle.pattern_json.proofs.CertificateForms.{list_is, list_is_none, list_taken}
use Rattle.pattern_json.proofs.session.next_session.Goals as goal

pub returns-then-not-branch-clause-read : goal.returns-then-not-branch-clause-read
returns-then-not-branch-clause-read g c =
    let read = rw c.if-not-branch.true at c.in_ok-next_list.ensures.read in (
      read.0,
      read.1,
      list_is_none (All g.T.Number.fits) (list_form (λ n. number_form (g.T.Number.whole n)))
          (λ ds. AreForms (All g.T.Number.fits) (list_form (λ n. number_form (g.T.Number.whole n))) ds c.next_list.new.gathered.rows) read.0 read.2,
    )

pub returns-clause-read : goal.returns-clause-read
returns-clause-read g c =
    let read = rw c.if-not-branch.false at c.in_ok-next_list.ensures.read in
    let rows = c.next_list.new.gathered.rows in
    let taken = list_taken (λ ds. AreForms (All g.T.Number.fits) (list_form (λ n. number_form (g.T.Number.whole n))) ds rows)
    (AreNoForms (All g.T.Number.fits) (list_form (λ n. number_form (g.T.Number.whole n)))) read.0 read.2 in
    (read.0, read.1, rw (c.replace.ensures.value) (list_is (All g.T.Number.fits) (list_form (λ n. number_form (g.T.Number.whole n))) read.0 taken.0 rows taken.1 taken.2))
