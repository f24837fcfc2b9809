use Rattle.std.proofs.Common.{◌∙◌, ◌++◌, ℕ, List, ap}
use Rattle.std.specs.Prelude.{string_bytes}
use Rattle.log_reader.proofs.NameTextLaws.{pushed_name, whole_named}
use Rattle.log_reader.proofs.name_value.push_whole.Goals as goal

pub returns-clause-name : goal.returns-clause-name
returns-clause-name c =
    pushed_name c.push_str.result (string_bytes c.args.code.now) (string_bytes c.push_str.new.self) c.format.result.now c.push_str.ensures.bytes
    (whole_named c.args.number _ c.ranges.number.fits (ap (λ (l : List ℕ). l ++ c.format.result.now) c.requires ∙ c.format.ensures.text))
