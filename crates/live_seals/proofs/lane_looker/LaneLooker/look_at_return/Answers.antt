use Rattle.std.proofs.Common.{◌≡◌, ◌∷◌, ◌++◌, [], arith, ap, subst, sym, ◌∙◌}
use Rattle.std.specs.Prelude.{Some, slice_get, true, false}
use Rattle.std.proofs.lemmas.Result.{err_from_is_err_and}
use Rattle.live_cut_plan.specs.declared.cell.Cell.TheVariants.{Return}
use Rattle.live_seals.specs.Steps.Tables.{IsLooker}
use Rattle.live_seals.proofs.TableLemmas.{kept_lanes, return_place, keeps_return, keeps_empty, lanes_many}
use Rattle.live_seals.proofs.lane_looker.LaneLooker.look_at_return.Goals as goal

pub index_mut-requires : goal.index_mut-requires
index_mut-requires g c =
    let f = rw c.in-Some.is at c.find_return_of-found.ensures in
    let at = subst (λ l. slice_get l.lanes.cells c.args.op.session ≡ Some f.0) (sym c.self.view_is) f.1 in
    let inside = lanes_many c.self.inside.lanes.now.cells c.self.inside.tables.items c.args.op.session f.0 c.self.invariant.tables at in
    omega arith

pub keep_return-requires : goal.keep_return-requires
keep_return-requires g c =
    let f = rw c.in-Some.is at c.find_return_of-found.ensures in
    let at = subst (λ l. slice_get l.lanes.cells c.args.op.session ≡ Some f.0) (sym c.self.view_is) f.1 in
    rw c.place.ensures (return_place c.self.inside.lanes.now c.self.inside.receipts.now c.self.inside.told.items c.self.inside.cap c.self.inside.looks.items c.push.new.self.items c.self.inside.tables.items
    c.self.invariant c.args.op.session f.0 at c.index_mut.result.now c.index_mut.result.now (rw c.session_place.ensures at c.index_mut.ensures.value) c.args.op.index c.in-Some.found f.2)

pub invariant_of-self-2 : goal.invariant_of-self-2
invariant_of-self-2 g c =
    let f = rw c.in-Some.is at c.find_return_of-found.ensures in
    let at = subst (λ l. slice_get l.lanes.cells c.args.op.session ≡ Some f.0) (sym c.self.view_is) f.1 in
    let full = rw c.in-Some.is at c.is_some.ensures in
    rw c.session_place.ensures (keeps_return c.self.inside.lanes.now c.self.inside.receipts.now c.self.inside.told.items c.self.inside.cap c.self.inside.looks.items c.push.new.self.items c.self.inside.tables.items
    c.self.invariant c.args.op.session f.0 at c.index_mut.result.now c.keep_return.new.self (rw c.session_place.ensures at c.index_mut.ensures.value) c.args.op.index c.in-Some.found f.2
    (rw c.place.ensures at c.keep_return.ensures.returns) c.keep_return.ensures.calls (rw full at c.in_ok-push.ensures.items))

pub invariant_of-self-in_default : goal.invariant_of-self-in_default
invariant_of-self-in_default g c =
    let empty = rw c.in_default.is at c.is_some.ensures in
    keeps_empty c.self.inside.lanes.now c.self.inside.receipts.now c.self.inside.told.items c.self.inside.cap c.self.inside.looks.items c.push.new.self.items c.self.inside.tables.items
    (Return c.args.op) c.self.invariant (rw empty at c.in_ok-push.ensures.items)

pub invariant_of-self : goal.invariant_of-self
invariant_of-self g c =
    let inside = c.self.inside in
    subst (λ looks. IsLooker inside.lanes.now inside.receipts.now inside.told.items inside.cap looks inside.tables.items)
    (sym c.in_err-push.ensures.items) c.self.invariant

pub returns-clause-looked : goal.returns-clause-looked
returns-clause-looked g c =
    let full = rw c.in-Some.is at c.is_some.ensures in
    let pushed : c.push.new.self.items ≡ c.self.inside.looks.items ++ (Return c.args.op, true) ∷ [] =
    rw full at c.in_ok-push.ensures.items in
    (kept_lanes c.push.new.self.items c.self.view_is, pushed ∙ ap (λ l. l.looks ++ (Return c.args.op, true) ∷ []) c.self.view_is)

pub returns-in_default-clause-looked : goal.returns-in_default-clause-looked
returns-in_default-clause-looked g c =
    let empty = rw c.in_default.is at c.is_some.ensures in
    let pushed : c.push.new.self.items ≡ c.self.inside.looks.items ++ (Return c.args.op, false) ∷ [] =
    rw empty at c.in_ok-push.ensures.items in
    (kept_lanes c.push.new.self.items c.self.view_is, pushed ∙ ap (λ l. l.looks ++ (Return c.args.op, false) ∷ []) c.self.view_is)

pub returns-in_err-push-clause-refused : goal.returns-in_err-push-clause-refused
returns-in_err-push-clause-refused g c =
    let p = err_from_is_err_and c.from_residual.result c.from_residual.ensures.1 in
    rw p.1 (kept_lanes c.push.new.self.items c.self.view_is, c.in_err-push.ensures.items ∙ ap (λ l. l.looks) c.self.view_is)
