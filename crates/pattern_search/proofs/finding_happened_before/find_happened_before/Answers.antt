use Rattle.std.proofs.Common.{◌≡◌, true}
use Rattle.pattern_check.specs.declared.kind.Kind.TheVariants.{CyclicHB}
use Rattle.pattern_check.specs.Kinds.{is_against}
use Rattle.pattern_search.proofs.SearchedLaws.{cycle-found, not-pattern}
use Rattle.pattern_search.proofs.finding_happened_before.find_happened_before.Goals as goal

pub returns-in-Pattern-cycles : goal.returns-in-Pattern-cycles
returns-in-Pattern-cycles c =
    let h = c.args.order.now in
    let criterion = c.args.criterion in
    let searched = c.in_ok-starts.ensures in
    let starts = c.in_ok-starts.field-0.starts in
    let cycle = c.in-Pattern-cycles.cycle in
    let against : is_against CyclicHB criterion ≡ true =
    let yes = c.if-not-is_against.false in
    let same = c.is_against.ensures in cc in
    let cycles = rw c.in-Pattern-cycles.is at searched.cycles in
    let found = cycle-found h criterion starts cycle against (not-pattern starts c.in-Present.is) searched.starts cycles in
    record { found = found.0; kind = found.1; none = λ is. tt }
