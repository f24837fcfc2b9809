use Rattle.std.proofs.Common.{◌≡◌, ◌∙◌, ◌++◌, ℕ, List, ap, arith}
use Rattle.std.specs.Prelude.{string_bytes}
use Rattle.std.specs.Fmt.{signed_decimal}
use Rattle.std.proofs.lemmas.Grind.{common_steps}
use Rattle.log_reader.proofs.NameTextLaws.{pushed_name, signed_named}
use Rattle.log_reader.proofs.name_value.push_signed.Goals as goal

pub returns-clause-name : goal.returns-clause-name
returns-clause-name c =
    let text : c.format.result.now ≡ signed_decimal c.args.number = grind (arith, common_steps) in
    pushed_name c.push_str.result (string_bytes c.args.code.now) (string_bytes c.push_str.new.self) c.format.result.now c.push_str.ensures.bytes
    (signed_named c.args.number _ c.ranges.number.sfits (ap (λ (l : List ℕ). l ++ c.format.result.now) c.requires ∙ text))
