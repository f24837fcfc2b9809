use Rattle.std.proofs.Common.{◌≡◌, ◌∷◌, Some, ap, ◌∙◌, refl}
use Rattle.json.specs.Reads.{token_of}
use Rattle.log_reader.specs.Names.{name_of}
use Rattle.log_reader.specs.Steps.{name_in}
use Rattle.log_reader.specs.declared.name_value.NameValue.TheVariants.{Text, Whole}
use Rattle.log_reader.proofs.QuickLaws.{next_number, next_text}
use Rattle.log_reader.proofs.quick.next_name.Goals as goal

pub returns-in-String : goal.returns-in-String
returns-in-String c =
    next_text (λ d. name_of d ≡ Some (name_in (Text c.in-String.text))) c.args.reader.now c.next.new.self c.in-String.text.now
    (c.in_ok-text.ensures.value ∙ ap (λ t. token_of t ∷ c.next.new.self) c.in-String.is) refl

pub returns-in_ok-whole_number-in-Number : goal.returns-in_ok-whole_number-in-Number
returns-in_ok-whole_number-in-Number c =
    next_number (λ d. name_of d ≡ Some (name_in (Whole c.in_ok-whole_number-in-Number.field-0))) c.args.reader.now c.next.new.self c.in-Number.text.now c.in_ok-whole_number-in-Number.field-0
    (c.in_ok-text.ensures.value ∙ ap (λ t. token_of t ∷ c.next.new.self) c.in-Number.is) c.in_ok-whole_number-in-Number.ensures refl
