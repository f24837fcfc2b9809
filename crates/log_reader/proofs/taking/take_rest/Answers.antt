use Rattle.std.proofs.Common.{subst}
use Rattle.serde_json.specs.View.{view}
use Rattle.log_reader.specs.BookSteps.{IsContent}
use Rattle.log_reader.specs.declared.content.Content.{Content}
use Rattle.log_reader.proofs.TakeLaws.{takes_value}
use Rattle.log_reader.proofs.taking.take_rest.Goals as goal

pub returns-in-Ok-clause-ends : goal.returns-in-Ok-clause-ends
returns-in-Ok-clause-ends c =
    let content = subst (λ (k : Content). IsContent c.args.text.now k) c.in-Json.is c.in_ok-content_of.ensures in
    takes_value c.args.line c.args.book.now c.args.text.now (view c.in-Json.value) c.take_value-taken.new.book content.0 content.1 c.in-Ok.ensures.added
