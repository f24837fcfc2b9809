use Rattle.std.proofs.Common.{All}
use Rattle.json_histories.specs.Reads.{list_form, number_form}
use Rattle.pattern_json.specs.Steps.Lists.{AreKept}
use Rattle.pattern_json.proofs.CertificateForms.{list_is_none}
use Rattle.pattern_json.proofs.KeptLists.{list_kept}
use Rattle.pattern_json.proofs.lists.next_lists.Goals as goal

pub returns-then-not-branch-clause-read : goal.returns-then-not-branch-clause-read
returns-then-not-branch-clause-read g c =
    let read = rw c.if-not-branch.true at c.in_ok-next_list.ensures.read in (
      read.0,
      read.1,
      list_is_none (All (All g.T.Number.fits)) (list_form (list_form (λ n. number_form (g.T.Number.whole n))))
          (λ ds. AreKept (All (All g.T.Number.fits)) (list_form (list_form (λ n. number_form (g.T.Number.whole n)))) ds c.next_list.new.gathered.kept) read.0 read.2,
    )

pub returns-clause-read : goal.returns-clause-read
returns-clause-read g c =
    let read = rw c.if-not-branch.false at c.in_ok-next_list.ensures.read in
    (read.0, read.1, list_kept (All (All g.T.Number.fits)) (list_form (list_form (λ n. number_form (g.T.Number.whole n)))) c.next_list.new.gathered.kept read.0 read.2)
