use Rattle.std.proofs.Common.{All, arith}
use Rattle.json_histories.specs.Reads.{list_form, number_form}
use Rattle.pattern_json.proofs.CertificateForms.{no_forms}
use Rattle.pattern_json.proofs.KeptLists.{one_kept, one_passed}
use Rattle.pattern_json.proofs.lists.ListsGather.take_next.Goals as goal

pub returns-in_default-clause-taken : goal.returns-in_default-clause-taken
returns-in_default-clause-taken g c =
    let read = rw c.in_default.is at c.in_ok-rows.ensures.read in
    (read.0, read.1, λ ds so_far more. no_forms (All (All g.T.Number.fits)) (list_form (list_form (λ n. number_form (g.T.Number.whole n)))) ds more read.0 read.2)

pub returns-in_ok-push_rows-clause-taken : goal.returns-in_ok-push_rows-clause-taken
returns-in_ok-push_rows-clause-taken g c =
    let read = rw c.in-Some.is at c.in_ok-rows.ensures.read in
    let room = c.if-sessions-le-MAX_SESSIONS.true in
    let many = c.sessions.ensures in (
      read.0,
      read.1,
      λ ds so_far. rw (c.in_ok-push_rows.ensures.ok)
          (one_kept (All (All g.T.Number.fits)) (list_form (list_form (λ n. number_form (g.T.Number.whole n)))) ds c.args.self.now.kept read.0 c.in-Some.rows so_far read.2 (omega (arith, room, many))),
    )

pub returns-else-sessions-le-MAX_SESSIONS-clause-taken : goal.returns-else-sessions-le-MAX_SESSIONS-clause-taken
returns-else-sessions-le-MAX_SESSIONS-clause-taken g c =
    let read = rw c.in-Some.is at c.in_ok-rows.ensures.read in
    let full = c.if-sessions-le-MAX_SESSIONS.false in
    let many = c.sessions.ensures in (
      read.0,
      read.1,
      λ ds so_far.
          one_passed (All (All g.T.Number.fits)) (list_form (list_form (λ n. number_form (g.T.Number.whole n)))) ds c.args.self.now.kept read.0 c.in-Some.rows so_far read.2 (λ few. absurd (omega (arith, full, many, few))),
    )
