use Rattle.std.specs.Prelude.{◌≡◌, ◌≢◌, ◌+◌, ℕ, None, slice_index_or}
use Rattle.std.proofs.Common.{refl, sym, ap, subst, ◌∙◌}
use Rattle.model_history.specs.declared.op_id.OpId.{OpId}
use Rattle.judge_session_orders.specs.declared.backward.Backward.{Backward}
use Rattle.judge_session_orders.specs.Backward.{last_left}
use Rattle.judge_session_orders.specs.OnItsWay.{left_of}
use Rattle.judge_session_orders.specs.Tables.{variable}
use Rattle.judge_session_orders.proofs.PlacementLaws.{write-placed, writer-some}
use Rattle.judge_session_orders.proofs.backward.Backward.place_write.Goals as goal

pub take_one-requires-2-clause-some : goal.take_one-requires-2-clause-some
take_one-requires-2-clause-some c =
    let part = c.requires.part.part in
    let place = c.variable-variable.ensures.variable ∙ ap (λ (n : ℕ). slice_index_or c.args.index.now.variables n 0)
    (sym c.requires.part.number_of) in
    subst (λ (x : ℕ). slice_index_or c.args.self.now.writes.items x 0 ≢ 0) (sym place)
    (writer-some c.args.index.now c.args.self.now c.args.session c.requires.next part.0 part.1 part.2)

pub returns : goal.returns
returns c =
    let h = c.args.index.now.history in
    let b = c.args.self.now in
    let sizes = c.requires.next.on_its_way.sizes in
    let part = c.requires.part.part in
    let p : OpId = last_left (left_of h b) c.args.session in
    let place : c.variable-variable.result ≡ variable h c.args.index.now.variables p =
    c.variable-variable.ensures.variable ∙ ap (λ (n : ℕ). slice_index_or c.args.index.now.variables n 0) (sym c.requires.part.number_of) in
    let d : Backward = record {
      own = b.own;
      ends = c.take_one.new.numbers;
      readers = b.readers;
      writes = c.take_one-2.new.numbers;
      locks = c.set_lock.new.locks;
      start = b.start;
    } in
    write-placed c.args.index.now b c.args.session c.requires.next d refl
    (record {
      ends = c.take_one.ensures.size ∙ sizes.ends;
      readers = sizes.readers;
      writes = c.take_one-2.ensures.size ∙ sizes.writes;
      locks = c.set_lock.ensures.size ∙ sizes.locks;
    })
    c.take_one.ensures.less c.take_one.ensures.others part.0 part.1 part.2 (λ n. refl)
    (subst (λ (x : ℕ). slice_index_or b.writes.items x 0 ≡ slice_index_or c.take_one-2.new.numbers.items x 0 + 1) place
    c.take_one-2.ensures.less)
    (λ y apart. sym (c.take_one-2.ensures.others y (λ same. apart (same ∙ place))))
    (ap (λ (x : ℕ). slice_index_or c.set_lock.new.locks.items x None) (sym place) ∙ c.set_lock.ensures.set)
    (λ y apart. c.set_lock.ensures.others y (λ same. apart (same ∙ place))) refl
