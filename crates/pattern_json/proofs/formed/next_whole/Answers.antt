use Rattle.pattern_json.proofs.Wholes.{no_whole, whole_read}
use Rattle.pattern_json.proofs.formed.next_whole.Goals as goal

pub returns-then-branch-clause-read : goal.returns-then-branch-clause-read
returns-then-branch-clause-read g c =
    let found = c.in_ok-next_list.ensures.read in (
      found.0,
      found.1,
      whole_read g.P.Parts.parts found.0 g.P.Gather.is_of g.P.Gather.refuses c.next_list.new.gathered c.in_ok-next_list.field-0 c.if-branch.true found.2 c.whole.result c.whole.ensures,
    )

pub returns-else-branch-clause-read : goal.returns-else-branch-clause-read
returns-else-branch-clause-read g c =
    let found = c.in_ok-next_list.ensures.read in (
      found.0,
      found.1,
      no_whole g.P.Parts.parts found.0 g.P.Gather.is_of g.P.Gather.refuses c.next_list.new.gathered c.in_ok-next_list.field-0 c.if-branch.false found.2 g.met.P.Parts.refuses_parts,
    )
