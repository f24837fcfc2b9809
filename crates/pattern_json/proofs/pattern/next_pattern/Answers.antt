use Rattle.json_histories.specs.Json.{list}
use Rattle.pattern_json.specs.PatternForm.{form_of}
use Rattle.pattern_json.specs.Steps.PatternTaken.{pattern_parts}
use Rattle.pattern_json.proofs.PatternForms.{value_read_as}
use Rattle.pattern_json.proofs.PatternParts.{pattern_list}
use Rattle.pattern_json.proofs.pattern.next_pattern.Goals as goal

pub returns-clause-read : goal.returns-clause-read
returns-clause-read c =
    value_read_as (λ pattern. list (pattern_parts pattern)) form_of pattern_list c.next_opened.result c.args.depth c.args.reader.now c.next_opened.new.reader c.next_opened.ensures.read
