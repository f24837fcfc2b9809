use Rattle.pattern_search.proofs.ConflictLinks.{conflict-link, edge-link}
use Rattle.pattern_search.proofs.search.conflicts.link_of.Goals as goal

pub returns-in_ok-path_between-in-Some : goal.returns-in_ok-path_between-in-Some
returns-in_ok-path_between-in-Some c =
    let conflict = c.in-Some.ensures in
    conflict-link c.args.order.now c.args.from c.args.to c.in-Some.read c.in_ok-path_between-in-Some.field-0 conflict
    (c.in_ok-path_between-in-Some.ensures conflict.past)

pub returns-in-None : goal.returns-in-None
returns-in-None c = edge-link c.args.order.now c.args.from c.args.to c.requires c.in-None.ensures
