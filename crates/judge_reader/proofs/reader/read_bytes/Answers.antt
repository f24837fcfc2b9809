use Rattle.judge_reader.specs.Steps.Reading.{IsWhole}
use Rattle.judge_reader.proofs.LongForms.{refused_if_not}
use Rattle.judge_reader.proofs.reader.read_bytes.Goals as goal

pub returns-in-Ok-read_text-clause-refused : goal.returns-in-Ok-read_text-clause-refused
returns-in-Ok-read_text-clause-refused c =
    let cases = c.in-Ok.ensures.cases in
    let parts = c.in-Ok-read_text.parts in
    let whole : IsWhole c.args.text.now parts = rw (← cases.0) c.in-Ok-read_text.ensures.read in
    refused_if_not c.args.text.now parts cases.1 whole
