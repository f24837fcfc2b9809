use Rattle.json_histories.specs.Json.{list}
use Rattle.pattern_json.specs.PatternForm.{link_form}
use Rattle.pattern_json.specs.Steps.Taken.{link_parts}
use Rattle.pattern_json.proofs.PatternForms.{value_read_as}
use Rattle.pattern_json.proofs.LinkParts.{link_list}
use Rattle.pattern_json.proofs.link.LinkFormed.next.Goals as goal

pub returns-clause-read : goal.returns-clause-read
returns-clause-read c =
    value_read_as (λ link. list (link_parts link)) link_form link_list c.next_opened.result c.args.depth c.args.reader.now c.next_opened.new.reader c.next_opened.ensures.read
