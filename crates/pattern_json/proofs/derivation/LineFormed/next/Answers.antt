use Rattle.json_histories.specs.Json.{list}
use Rattle.pattern_json.specs.PatternForm.{line_form}
use Rattle.pattern_json.specs.Steps.Taken.{line_parts}
use Rattle.pattern_json.proofs.PatternForms.{value_read_as}
use Rattle.pattern_json.proofs.LineParts.{line_list}
use Rattle.pattern_json.proofs.derivation.LineFormed.next.Goals as goal

pub returns-clause-read : goal.returns-clause-read
returns-clause-read c =
    value_read_as (λ line. list (line_parts line)) line_form line_list c.next_opened.result c.args.depth c.args.reader.now c.next_opened.new.reader c.next_opened.ensures.read
