use Rattle.std.specs.Prelude.{◌≡◌, ℕ, true, slice_index_or}
use Rattle.std.proofs.Common.{arith, refl, sym, ap, ◌∙◌}
use Rattle.std.proofs.lemmas.List.{get_or_read}
use Rattle.model_history.specs.declared.op_id.OpId.{OpId}
use Rattle.judge_session_orders.specs.declared.backward.Backward.{Backward}
use Rattle.judge_session_orders.specs.Backward.{last_left}
use Rattle.judge_session_orders.specs.OnItsWay.{left_of}
use Rattle.judge_session_orders.specs.Tables.{variable}
use Rattle.judge_session_orders.proofs.PartLaws.{initial-unsourced}
use Rattle.judge_session_orders.proofs.PlacementLaws.{other-kept, other-placed, overwritten-placed, unwritten-kept, written-overwrites}
use Rattle.judge_session_orders.proofs.backward.Backward.place_initial_read.Goals as goal

pub returns-then-session-self : goal.returns-then-session-self
returns-then-session-self c =
    let h = c.args.index.now.history in
    let b = c.args.self.now in
    let sizes = c.requires.next.on_its_way.sizes in
    let part = c.requires.part.part in
    let p : OpId = last_left (left_of h b) c.args.session in
    let d : Backward = record {
      own = b.own;
      ends = c.take_one.new.numbers;
      readers = b.readers;
      writes = b.writes;
      locks = b.locks;
      start = b.start;
    } in
    other-placed c.args.index.now b c.args.session c.requires.next d refl
    (record { ends = c.take_one.ensures.size ∙ sizes.ends; readers = sizes.readers; writes = sizes.writes; locks = sizes.locks })
    c.take_one.ensures.less c.take_one.ensures.others (initial-unsourced h p part) (λ n. refl) (λ x. refl) (λ y. refl)
    (other-kept c.args.index.now b c.args.session c.requires.next c.if-session-self.true) refl

pub returns-then-index-gt0 : goal.returns-then-index-gt0
returns-then-index-gt0 c =
    let h = c.args.index.now.history in
    let b = c.args.self.now in
    let sizes = c.requires.next.on_its_way.sizes in
    let part = c.requires.part.part in
    let p : OpId = last_left (left_of h b) c.args.session in
    let size = sizes.writes in
    let below = c.variable.ensures.below in
    let read = get_or_read b.writes.items _ _ (omega arith) c.index.ensures 0 in
    let place : c.variable.result ≡ variable h c.args.index.now.variables p =
    c.variable.ensures.variable ∙ ap (λ (n : ℕ). slice_index_or c.args.index.now.variables n 0) (sym c.requires.part.number_of) in
    let here = ap (λ (x : ℕ). slice_index_or b.writes.items x 0) place in
    let d : Backward = record {
      own = b.own;
      ends = c.take_one.new.numbers;
      readers = b.readers;
      writes = b.writes;
      locks = b.locks;
      start = true;
    } in
    let some = c.if-index-gt0.true in
    overwritten-placed c.args.index.now b c.args.session c.requires.next d refl
    (record { ends = c.take_one.ensures.size ∙ sizes.ends; readers = sizes.readers; writes = sizes.writes; locks = sizes.locks })
    c.take_one.ensures.less c.take_one.ensures.others (initial-unsourced h p part) (λ n. refl) (λ x. refl) (λ y. refl)
    (written-overwrites c.args.index.now b c.args.session c.requires.next c.if-session-self.false part.0 part.1 (λ none. omega arith)) refl

pub returns-else-index-gt0 : goal.returns-else-index-gt0
returns-else-index-gt0 c =
    let h = c.args.index.now.history in
    let b = c.args.self.now in
    let sizes = c.requires.next.on_its_way.sizes in
    let part = c.requires.part.part in
    let p : OpId = last_left (left_of h b) c.args.session in
    let size = sizes.writes in
    let below = c.variable.ensures.below in
    let read = get_or_read b.writes.items _ _ (omega arith) c.index.ensures 0 in
    let place : c.variable.result ≡ variable h c.args.index.now.variables p =
    c.variable.ensures.variable ∙ ap (λ (n : ℕ). slice_index_or c.args.index.now.variables n 0) (sym c.requires.part.number_of) in
    let here = ap (λ (x : ℕ). slice_index_or b.writes.items x 0) place in
    let d : Backward = record {
      own = b.own;
      ends = c.take_one.new.numbers;
      readers = b.readers;
      writes = b.writes;
      locks = b.locks;
      start = b.start;
    } in
    let none = c.if-index-gt0.false in
    other-placed c.args.index.now b c.args.session c.requires.next d refl
    (record { ends = c.take_one.ensures.size ∙ sizes.ends; readers = sizes.readers; writes = sizes.writes; locks = sizes.locks })
    c.take_one.ensures.less c.take_one.ensures.others (initial-unsourced h p part) (λ n. refl) (λ x. refl) (λ y. refl)
    (unwritten-kept c.args.index.now b c.args.session c.requires.next part.0 part.1 (omega arith)) refl
