use Rattle.std.proofs.Common.{◌≡◌, ◌<◌, ◌≤◌, ◌∷◌, ◌++◌, [], arith, length, get_or, set, take, ap, subst, sym, ◌∙◌}
use Rattle.std.proofs.lemmas.List.{set-get_or, take_more, take_all, length-take-le}
use Rattle.live_recorder.proofs.note_list.copies.Goals as goal

pub loop-i-preserved : goal.loop-i-preserved
loop-i-preserved g c =
    let notes = c.args.notes.now.items in
    let i = c.loop-i.i in
    let note = c.index_mut-note.result.now in
    let here : i < length notes = subst (λ n. i < n) c.loop-i.invariant.many c.loop-i-test.true in
    let read : note ≡ get_or notes i note = c.index_mut-note.ensures.value ∙ ap (λ l. get_or l i note) c.loop-i.invariant.items in
    record {
      many = c.loop-i.invariant.many;
      items = ap (λ n. set c.loop-i.notes.items i n) (c.again.ensures.0 ∙ c.index_mut-note.ensures.value)
          ∙ (set-get_or c.loop-i.notes.items i note ∙ c.loop-i.invariant.items);
      capacity = c.loop-i.invariant.capacity;
      copied = c.push_reserved.ensures.items ∙ (ap (λ l. l ++ c.again.result ∷ []) c.loop-i.invariant.copied
          ∙ (ap (λ n. take i notes ++ n ∷ []) (c.again.ensures.1 ∙ read) ∙ sym (take_more notes i note here)));
      room = c.push_reserved.ensures.capacity ∙ c.loop-i.invariant.room;
    }

pub push_reserved-requires : goal.push_reserved-requires
push_reserved-requires g c =
    let notes = c.args.notes.now.items in
    let here : c.loop-i.i ≤ length notes = let many = c.loop-i.invariant.many in let below = c.loop-i-test.true in omega arith in
    let size : length c.loop-i.copied.items ≡ c.loop-i.i = ap length c.loop-i.invariant.copied ∙ length-take-le c.loop-i.i notes here in
    let room = c.loop-i.invariant.room in
    let below = c.loop-i-test.true in
    omega arith

pub returns : goal.returns
returns g c =
    let notes = c.args.notes.now.items in
    let many = c.loop-i.invariant.many in
    let past = c.loop-i-test.false in
    let all : length notes ≤ c.loop-i.i = omega arith in
    let copied = c.loop-i.invariant.copied ∙ take_all c.loop-i.i notes all in
    record {
      items = c.loop-i.invariant.items;
      capacity = c.loop-i.invariant.capacity;
      copied = copied;
      room = let size : length c.loop-i.copied.items ≡ length notes = ap length copied in let room = c.loop-i.invariant.room in omega arith;
    }
