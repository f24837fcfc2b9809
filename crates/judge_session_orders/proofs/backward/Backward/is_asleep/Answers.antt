use Rattle.std.specs.Prelude.{◌≡◌, ◌-◌, ℕ, slice_index_or}
use Rattle.std.proofs.Common.{arith, ap, ltb-true}
use Rattle.std.proofs.lemmas.List.{get_or_read}
use Rattle.model_history.specs.History.{number}
use Rattle.judge_memory.proofs.Numbers.{number-all}
use Rattle.judge_session_orders.specs.Backward.{IsOpen, last_left}
use Rattle.judge_session_orders.specs.OnItsWay.{left_of}
use Rattle.judge_session_orders.proofs.FreeLaws.{last-number, last-op, some-reader}
use Rattle.judge_session_orders.proofs.backward.Backward.is_asleep.Goals as goal

pub index-requires : goal.index-requires
index-requires c =
    let h = c.args.index.now.history in
    let b = c.args.self.now in
    let size = c.requires.on_its_way.sizes.ends in
    let end = get_or_read b.ends.items _ _ (omega arith) c.index-end.ensures 0 in
    let is_open : IsOpen (left_of h b) c.args.session = omega arith in
    let at = last-number c.args.index.now b c.requires.on_its_way c.args.session is_open in
    let inside = number-all h (last_left (left_of h b) c.args.session) (last-op c.args.index.now b c.requires.on_its_way c.args.session
    is_open) in
    let readers = c.requires.on_its_way.sizes.readers in
    omega arith

pub returns : goal.returns
returns c holds is_open =
    let h = c.args.index.now.history in
    let b = c.args.self.now in
    let size = c.requires.on_its_way.sizes.ends in
    let end = get_or_read b.ends.items _ _ (omega arith) c.index-end.ensures 0 in
    let at = last-number c.args.index.now b c.requires.on_its_way c.args.session is_open in
    let is_op = last-op c.args.index.now b c.requires.on_its_way c.args.session is_open in
    let inside = number-all h (last_left (left_of h b) c.args.session) is_op in
    let readers = c.requires.on_its_way.sizes.readers in
    let read = get_or_read b.readers.items _ _ (omega arith) c.index.ensures 0 in
    let here : number h (last_left (left_of h b) c.args.session) ≡ c.index-end.result.now - 1 = omega arith in
    let same = ap (λ (n : ℕ). slice_index_or b.readers.items n 0) here in
    let more = ltb-true 0 c.index.result.now holds in
    some-reader c.args.index.now b c.requires.on_its_way (last_left (left_of h b) c.args.session) is_op (λ none. omega arith)
