use Rattle.std.proofs.Common.{arith, refl}
use Rattle.order_memory.proofs.CountSumsLaws.{counted-item, counted-most, most-few}
use Rattle.order_memory.proofs.HeldItems.{held-item}
use Rattle.order_memory.proofs.growing_order.GrowingOrder.raise.Goals as goal

pub overflow_add-self : goal.overflow_add-self
overflow_add-self c =
    let growing = c.requires.growing in
    let added = growing.added in
    let fits = c.ranges.number.fits in
    let most = counted-most c.args.h.now c.args.self.now.counts growing.counts in
    let few = most-few c.args.h.now growing.few growing.short in
    omega arith

pub returns : goal.returns
returns c =
    let growing = c.requires.growing in
    let v = c.args.self.now.counts in
    let moved = counted-item c.args.h.now v growing.counts c.args.op c.args.session c.args.number c.requires.is_op c.requires.exists in
    let added = growing.added in
    rw c.set.ensures (record {
      growing = record {
        counts = held-item c.args.h.now v growing.counts c.args.op c.requires.is_op c.args.session c.args.number c.requires.exists c.requires.held;
        few = growing.few;
        short = growing.short;
        sessions = growing.sessions;
        past = growing.past;
        pending = growing.pending;
        waiting = growing.waiting;
        added = omega arith;
      };
      less = omega arith;
      counts = refl;
      pending = refl;
      past = refl;
      raises = c.in_ok-push.ensures.items;
      added = omega arith;
      more = omega arith;
      cyclic = refl;
      most = refl;
    })
