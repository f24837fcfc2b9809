use Rattle.std.proofs.Common.{◌≡◌, ◌∷◌, Some, ap, ◌∙◌, refl}
use Rattle.json.specs.Reads.{token_of}
use Rattle.log_reader.specs.Forms.{answer, answer_at, nothing}
use Rattle.log_reader.specs.Steps.{name_in}
use Rattle.log_reader.specs.declared.name_value.NameValue.TheVariants.{Text, Whole}
use Rattle.log_reader.proofs.QuickLaws.{next_null, next_number, next_text, truth_next_answer}
use Rattle.log_reader.proofs.quick.next_answer.Goals as goal

pub returns-in-String : goal.returns-in-String
returns-in-String c =
    next_text (λ d. answer_at d ≡ Some (answer (name_in (Text c.in-String.text)))) c.args.reader.now c.next.new.self c.in-String.text.now
    (c.in_ok-next.ensures.value ∙ ap (λ t. token_of t ∷ c.next.new.self) c.in-String.is) refl

pub returns-in_ok-whole_number-in-Number : goal.returns-in_ok-whole_number-in-Number
returns-in_ok-whole_number-in-Number c =
    next_number (λ d. answer_at d ≡ Some (answer (name_in (Whole c.in_ok-whole_number-in-Number.field-0)))) c.args.reader.now c.next.new.self c.in-Number.text.now c.in_ok-whole_number-in-Number.field-0
    (c.in_ok-next.ensures.value ∙ ap (λ t. token_of t ∷ c.next.new.self) c.in-Number.is) c.in_ok-whole_number-in-Number.ensures refl

pub returns-in-Bool : goal.returns-in-Bool
returns-in-Bool c =
    truth_next_answer c.args.reader.now c.next.new.self c.in-Bool.truth (c.in_ok-next.ensures.value ∙ ap (λ t. token_of t ∷ c.next.new.self) c.in-Bool.is)

pub returns-in-Null : goal.returns-in-Null
returns-in-Null c =
    next_null (λ d. answer_at d ≡ Some nothing) c.args.reader.now c.next.new.self (c.in_ok-next.ensures.value ∙ ap (λ t. token_of t ∷ c.next.new.self) c.in-Null.is) refl
