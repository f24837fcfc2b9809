use Rattle.std.proofs.Common.{◌≡◌, ◌∙◌, ap, arith, sym}
use Rattle.live_cut_plan.proofs.ListPlaces.{read_at}
use Rattle.live_seals.proofs.LongestReceipts.{longest_is_new, longest_stays}
use Rattle.live_seals.proofs.longest.longer.Goals as goal
use Rattle.live_seals.proofs.longest.longer.Goals.{else-session_place-lane-via-then-session_place-lane+else-len-best, else-session_place-lane-via-else-session_place-lane}

pub returns-then-len-best : goal.returns-then-len-best
returns-then-len-best g c =
    let here = read_at c.args.receipts.now c.args.j c.index-receipts-j.result c.requires.place c.index-receipts-j.is in
    let lane : c.index-receipts-j.result.lane ≡ c.args.lane = sym (c.session_place.ensures ∙ ap (λ o. o.session) c.op.ensures) ∙ c.if-session_place-lane.true in
    let first = c.len.ensures.operations in
    let again = c.len-then-len-best.ensures.operations in
    let more = c.if-len-best.true in
    longest_is_new c.args.receipts.now c.args.lane c.args.j c.args.best c.requires.before c.index-receipts-j.result here c.len-then-len-best.result lane
    (omega (arith, first, again, more)) (sym again) (sym c.len-then-len-best.ensures.cells)

pub returns : goal.returns
returns g c =
    let here = read_at c.args.receipts.now c.args.j c.index-receipts-j.result c.requires.place c.index-receipts-j.is in
    let lane : c.session_place.result ≡ c.index-receipts-j.result.lane = c.session_place.ensures ∙ ap (λ o. o.session) c.op.ensures in
    longest_stays c.args.receipts.now c.args.lane c.args.j c.args.best c.requires.before c.index-receipts-j.result here (elim c.else-session_place-lane.branch [
      | else-session_place-lane-via-then-session_place-lane+else-len-best w ↦ λ same. let many = w.len.ensures.operations in let most = w.if-len-best.false in omega (arith, many, most)
      | else-session_place-lane-via-else-session_place-lane w ↦ λ same. absurd (w.if-session_place-lane.false (lane ∙ same))
    ])
