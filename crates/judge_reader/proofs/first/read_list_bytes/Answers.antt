use Rattle.judge_reader.specs.Steps.Reading.{IsWholeList}
use Rattle.judge_reader.proofs.FirstForms.{refused_if_not}
use Rattle.judge_reader.proofs.first.read_list_bytes.Goals as goal

pub returns-in-Ok-read_list_text-clause-refused : goal.returns-in-Ok-read_list_text-clause-refused
returns-in-Ok-read_list_text-clause-refused c =
    let cases = c.in-Ok.ensures.cases in
    let parts = c.in-Ok-read_list_text.parts in
    let whole : IsWholeList c.args.text.now parts = rw (← cases.0) c.in-Ok-read_list_text.ensures.read in
    refused_if_not c.args.text.now parts cases.1 whole
