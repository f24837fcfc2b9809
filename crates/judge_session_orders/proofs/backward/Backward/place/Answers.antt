use Rattle.std.specs.Prelude.{◌≡◌, ◌-◌}
use Rattle.std.proofs.Common.{arith}
use Rattle.std.proofs.lemmas.List.{get_or_read}
use Rattle.model_history.specs.declared.op_id.OpId.{OpId}
use Rattle.model_history.specs.History.{number}
use Rattle.judge_memory.proofs.Numbers.{number-all}
use Rattle.judge_session_orders.specs.Backward.{IsOpen, last_left}
use Rattle.judge_session_orders.specs.OnItsWay.{left_of}
use Rattle.judge_session_orders.proofs.FreeLaws.{last-number, last-op}
use Rattle.judge_session_orders.proofs.backward.Backward.place.Goals as goal

pub part-part-requires : goal.part-part-requires
part-part-requires c =
    let h = c.args.index.now.history in
    let b = c.args.self.now in
    let size = c.requires.on_its_way.sizes.ends in
    let exists = c.requires.exists in
    let end = get_or_read b.ends.items _ _ (omega arith) c.index.ensures 0 in
    let is_open : IsOpen (left_of h b) c.args.session = c.requires.free.0 in
    let at = last-number c.args.index.now b c.requires.on_its_way c.args.session is_open in
    let inside = number-all h (last_left (left_of h b) c.args.session) (last-op c.args.index.now b c.requires.on_its_way c.args.session
    is_open) in
    omega arith

pub place_part-requires-clause-below : goal.place_part-requires-clause-below
place_part-requires-clause-below c =
    let h = c.args.index.now.history in
    let b = c.args.self.now in
    let size = c.requires.on_its_way.sizes.ends in
    let exists = c.requires.exists in
    let end = get_or_read b.ends.items _ _ (omega arith) c.index.ensures 0 in
    let is_open : IsOpen (left_of h b) c.args.session = c.requires.free.0 in
    let at = last-number c.args.index.now b c.requires.on_its_way c.args.session is_open in
    let inside = number-all h (last_left (left_of h b) c.args.session) (last-op c.args.index.now b c.requires.on_its_way c.args.session
    is_open) in
    omega arith

pub place_part-requires-clause-part : goal.place_part-requires-clause-part
place_part-requires-clause-part c =
    let h = c.args.index.now.history in
    let b = c.args.self.now in
    let size = c.requires.on_its_way.sizes.ends in
    let exists = c.requires.exists in
    let end = get_or_read b.ends.items _ _ (omega arith) c.index.ensures 0 in
    let is_open : IsOpen (left_of h b) c.args.session = c.requires.free.0 in
    let p : OpId = last_left (left_of h b) c.args.session in
    let at = last-number c.args.index.now b c.requires.on_its_way c.args.session is_open in
    let here : number h p ≡ c.index.result.now - 1 = omega arith in
    record {
      number_of = here;
      part = c.part-part.ensures.part p (last-op c.args.index.now b c.requires.on_its_way c.args.session is_open) here;
    }

pub returns-clause-freed : goal.returns-clause-freed
returns-clause-freed c =
    let h = c.args.index.now.history in
    let b = c.args.self.now in
    let size = c.requires.on_its_way.sizes.ends in
    let exists = c.requires.exists in
    let end = get_or_read b.ends.items _ _ (omega arith) c.index.ensures 0 in
    let is_open : IsOpen (left_of h b) c.args.session = c.requires.free.0 in
    let p : OpId = last_left (left_of h b) c.args.session in
    let at = last-number c.args.index.now b c.requires.on_its_way c.args.session is_open in
    let here : number h p ≡ c.index.result.now - 1 = omega arith in
    c.freed_by.ensures.freed p (c.part-part.ensures.part p (last-op c.args.index.now b c.requires.on_its_way c.args.session is_open) here)
