use Rattle.std.proofs.Common.{◌≡◌, ◌∷◌, ap, ◌∙◌, refl}
use Rattle.json.specs.Reads.{token_of}
use Rattle.serde_json.specs.Data.{string}
use Rattle.log_reader.proofs.QuickLaws.{next_text}
use Rattle.log_reader.proofs.quick.next_word.Goals as goal

pub returns-in-String : goal.returns-in-String
returns-in-String c =
    next_text (λ d. d ≡ string c.in-String.text.now) c.args.reader.now c.next.new.self c.in-String.text.now
    (c.in_ok-text.ensures.value ∙ ap (λ t. token_of t ∷ c.next.new.self) c.in-String.is) refl
