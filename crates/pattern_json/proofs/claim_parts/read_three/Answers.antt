use Rattle.pattern_json.proofs.ClaimParts.{three_made}
use Rattle.pattern_json.proofs.claim_parts.read_three.Goals as goal

pub returns-in-Ok-true-clause-read : goal.returns-in-Ok-true-clause-read
returns-in-Ok-true-clause-read g c =
    let found = c.in-Ok-true.ensures.read in (
      found.0,
      found.1,
      three_made g.H.ClaimHistory.made_of found.0 c.gather_text-gathered.new.gathered c.in-Ok-true.field-0 c.in-Ok-true.field-0-test found.2 c.whole-whole.result c.whole-whole.ensures,
    )
