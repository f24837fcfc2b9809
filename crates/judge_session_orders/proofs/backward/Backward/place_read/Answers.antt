use Rattle.std.specs.Prelude.{◌≡◌, ◌≢◌, ◌+◌, ℕ, None, Some, slice_index_or}
use Rattle.std.proofs.Common.{refl, sym, ap, subst, ◌∙◌}
use Rattle.model_history.specs.declared.op_id.OpId.{OpId}
use Rattle.judge_session_orders.specs.declared.backward.Backward.{Backward}
use Rattle.judge_session_orders.specs.Backward.{last_left}
use Rattle.judge_session_orders.specs.OnItsWay.{left_of}
use Rattle.judge_session_orders.specs.Tables.{variable}
use Rattle.judge_session_orders.proofs.PlacementLaws.{other_read-placed, own_read-placed, reader-some}
use Rattle.judge_session_orders.proofs.backward.Backward.place_read.Goals as goal

pub take_one-requires-2-clause-some : goal.take_one-requires-2-clause-some
take_one-requires-2-clause-some c =
    let part = c.requires.part.part in
    subst (λ (n : ℕ). slice_index_or c.args.self.now.readers.items n 0 ≢ 0) part.2
    (reader-some c.args.index.now c.args.self.now c.args.session c.requires.next part.0 part.1)

pub returns-then-session-self : goal.returns-then-session-self
returns-then-session-self c =
    let h = c.args.index.now.history in
    let b = c.args.self.now in
    let sizes = c.requires.next.on_its_way.sizes in
    let part = c.requires.part.part in
    let p : OpId = last_left (left_of h b) c.args.session in
    let place : c.variable.result ≡ variable h c.args.index.now.variables p =
    c.variable.ensures.variable ∙ ap (λ (n : ℕ). slice_index_or c.args.index.now.variables n 0) (sym c.requires.part.number_of) in
    let d : Backward = record {
      own = b.own;
      ends = c.take_one.new.numbers;
      readers = c.take_one-2.new.numbers;
      writes = b.writes;
      locks = c.set_lock.new.locks;
      start = b.start;
    } in
    own_read-placed c.args.index.now b c.args.session c.requires.next d refl
    (record {
      ends = c.take_one.ensures.size ∙ sizes.ends;
      readers = c.take_one-2.ensures.size ∙ sizes.readers;
      writes = sizes.writes;
      locks = c.set_lock.ensures.size ∙ sizes.locks;
    })
    c.take_one.ensures.less c.take_one.ensures.others c.if-session-self.true part.0 part.1
    (subst (λ (n : ℕ). slice_index_or b.readers.items n 0 ≡ slice_index_or c.take_one-2.new.numbers.items n 0 + 1) (sym part.2)
    c.take_one-2.ensures.less)
    (λ n apart. sym (c.take_one-2.ensures.others n (λ same. apart (same ∙ sym part.2)))) (λ x. refl)
    (ap (λ (x : ℕ). slice_index_or c.set_lock.new.locks.items x None) (sym place) ∙ c.set_lock.ensures.set ∙ ap (λ (n : ℕ). Some n)
    (sym part.2))
    (λ y apart. c.set_lock.ensures.others y (λ same. apart (same ∙ place))) refl

pub returns-else-session-self : goal.returns-else-session-self
returns-else-session-self c =
    let b = c.args.self.now in
    let sizes = c.requires.next.on_its_way.sizes in
    let part = c.requires.part.part in
    let d : Backward = record {
      own = b.own;
      ends = c.take_one.new.numbers;
      readers = c.take_one-2.new.numbers;
      writes = b.writes;
      locks = b.locks;
      start = b.start;
    } in
    other_read-placed c.args.index.now b c.args.session c.requires.next d refl
    (record {
      ends = c.take_one.ensures.size ∙ sizes.ends;
      readers = c.take_one-2.ensures.size ∙ sizes.readers;
      writes = sizes.writes;
      locks = sizes.locks;
    })
    c.take_one.ensures.less c.take_one.ensures.others c.if-session-self.false part.0 part.1
    (subst (λ (n : ℕ). slice_index_or b.readers.items n 0 ≡ slice_index_or c.take_one-2.new.numbers.items n 0 + 1) (sym part.2)
    c.take_one-2.ensures.less)
    (λ n apart. sym (c.take_one-2.ensures.others n (λ same. apart (same ∙ sym part.2)))) (λ x. refl) (λ y. refl) refl
