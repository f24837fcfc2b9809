use Rattle.std.proofs.Common.{ap, ◌∙◌}
use Rattle.std.specs.Prelude.{option_and_then}
use Rattle.serde_json.specs.View.{view}
use Rattle.log_reader.specs.Forms.{said_in}
use Rattle.log_reader.proofs.FormLaws.{said_with_note}
use Rattle.log_reader.proofs.forms.said_at.Goals as goal

pub returns-in-len4 : goal.returns-in-len4
returns-in-len4 c =
    c.called_of.ensures
    ∙ said_with_note view c.in_ok-elements_of.field-0.now c.word-item-then-this-lt5.result c.client-item.result c.more-item.result c.word-item-then-this-lt5.is
    c.client-item.is c.more-item.is c.in-len4.len_at_least c.in-len4.len_below
    ∙ ap (option_and_then said_in) c.in_ok-elements_of.ensures
