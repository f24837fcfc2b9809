use Rattle.std.proofs.Common.{◌≡◌, None, arith}
use Rattle.std.proofs.lemmas.Result.{err_from_is_err_and}
use Rattle.json.specs.Json.{after_end_array}
use Rattle.json_tokens.proofs.Elements.{element_refused, no_rest_after}
use Rattle.json_tokens.proofs.Gathering.{gathering_begun, gathering_more, gathering_over, gathering_refused}
use Rattle.json_tokens.proofs.gather.gather_rest.Goals as goal

pub elements-init : goal.elements-init
elements-init g c = gathering_begun g.G.Gather.is_of g.G.Gather.refuses c.args.depth c.args.reader.now c.args.gathered.now c.requires.empty

pub returns-in_err-take_next-clause-refused : goal.returns-in_err-take_next-clause-refused
returns-in_err-take_next-clause-refused g c =
    let now = c.elements.reader in
    let inv = c.elements.invariant in
    let going : (after_end_array now ≡ None) × (c.take_end_array.new.self ≡ now) = grind arith in
    let p = err_from_is_err_and c.from_residual.result c.from_residual.ensures.1 in
    rw (p.1, p.2) (element_refused c.args.depth c.args.reader.now now inv.elements inv.so_far going.0 c.in_err-take_next.field-0.0 (rw (← going.1) c.in_err-take_next.ensures.refused))

pub returns-in_err-walk_items-clause-refused : goal.returns-in_err-walk_items-clause-refused
returns-in_err-walk_items-clause-refused g c =
    let now = c.elements.reader in
    let inv = c.elements.invariant in
    let going : (after_end_array now ≡ None) × (c.take_end_array.new.self ≡ now) = grind arith in
    let done = c.in_ok-take_next.ensures in
    let p = err_from_is_err_and c.from_residual-in_err-walk_items.result c.from_residual-in_err-walk_items.ensures.1 in
    rw (p.1, p.2) (no_rest_after c.args.depth c.args.reader.now now inv.elements inv.so_far c.take_next.new.reader done.taken.0 going.0 (rw (← going.1) done.taken.1) (rw (← going.1) done.shorter) c.in_err-walk_items.ensures.value)

pub returns-then-not-branch-clause-read : goal.returns-then-not-branch-clause-read
returns-then-not-branch-clause-read g c =
    let now = c.elements.reader in
    let going : (after_end_array now ≡ None) × (c.take_end_array.new.self ≡ now) = grind arith in
    let done = c.in_ok-take_next.ensures in
    gathering_refused g.G.Gather.is_of g.G.Gather.refuses c.args.depth c.args.reader.now now c.elements.gathered c.elements.invariant c.take_next.new.self c.in_ok-take_next.field-0
    c.take_next.new.reader c.walk_items.new.reader c.if-not-branch.true going.0 (rw (← going.1) done.taken) (rw (← going.1) done.shorter) c.in_ok-walk_items.ensures.value

pub elements-preserved : goal.elements-preserved
elements-preserved g c =
    let now = c.elements.reader in
    let going : (after_end_array now ≡ None) × (c.take_end_array.new.self ≡ now) = grind arith in
    let done = c.in_ok-take_next.ensures in
    gathering_more g.G.Gather.is_of g.G.Gather.refuses c.args.depth c.args.reader.now now c.elements.gathered c.elements.invariant c.take_next.new.self c.in_ok-take_next.field-0
    c.take_next.new.reader c.if-not-branch.false going.0 (rw (← going.1) done.taken) (rw (← going.1) done.shorter)

pub returns-clause-read : goal.returns-clause-read
returns-clause-read g c =
    gathering_over g.G.Gather.is_of g.G.Gather.refuses c.args.depth c.args.reader.now c.elements.reader c.elements.gathered c.elements.invariant c.take_end_array.new.self (grind arith)
