use Rattle.std.proofs.Common.{◌≡◌, ◌+◌, ◌∷◌, List, [], ap, arith, length, length-append}
use Rattle.std.proofs.lemmas.Option.{slice_get_within}
use Rattle.pattern_check.specs.declared.link.Link.{Link}
use Rattle.pattern_check.proofs.Neighbours.{related-at}
use Rattle.pattern_search.specs.Steps.Conflicts.{IsConflictStep}
use Rattle.pattern_search.proofs.ConflictLinks.{links-cycle, links-more}
use Rattle.pattern_search.proofs.search.conflicts.links_of.Goals as goal

pub loop-i-preserved : goal.loop-i-preserved
loop-i-preserved c =
    let before = c.loop-i.invariant in
    let inside = c.loop-i-test.true in
    let more = links-more c.args.order.now c.args.ops.now c.loop-i.i c.loop-i.links.items _ _ c.in_ok-link_of.field-0 before.2 before.1 inside c.in_ok-link_of.ensures in
    let size = length-append c.loop-i.links.items (c.in_ok-link_of.field-0 ∷ []) in
    rw c.in_ok-push.ensures.items ((omega arith), (omega arith), more)

pub returns : goal.returns
returns c =
    let last = c.loop-i.invariant in
    let ended : length c.loop-i.links.items + 1 ≡ length c.args.ops.now = omega arith in
    rw c.of.ensures (links-cycle c.args.order.now c.args.ops.now c.requires c.loop-i.links.items last.2 ended)

pub loop-i-init : goal.loop-i-init
loop-i-init c =
    let some = c.requires.some in
    let none = ap (λ (xs : List Link). length xs) c.new-links.ensures.items in
    (omega arith, omega arith, λ k a b l at next there. let inside = slice_get_within c.new-links.result.items k l there in absurd (omega arith))

pub link_of-requires : goal.link_of-requires
link_of-requires c =
    let size = c.loop-i.invariant.1 in
    related-at (IsConflictStep c.args.order.now) c.args.ops.now c.loop-i.i _ _ (omega arith) c.loop-i-test.true c.requires.joined
