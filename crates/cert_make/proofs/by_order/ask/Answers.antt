use Rattle.order_memory.proofs.Outcomes.{on_ok-one}
use Rattle.cert_make.proofs.by_order.ask.Goals as goal

pub returns : goal.returns
returns g c =
    let from = rw c.session_place-session.ensures at c.placed.ensures in
    let asked = c.end_of_asked-end.ensures in
    on_ok-one c.place_before.result _ _
    (λ whole. record {
      end = c.end_of_asked-end.result;
      behind = rw from at asked.behind;
      each = rw from at asked.each;
      last = asked.last;
      placed_next = whole;
    })
    (rw c.session_place-session.ensures at c.place_before.ensures)
