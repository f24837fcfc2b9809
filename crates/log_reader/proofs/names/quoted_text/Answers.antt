use Rattle.std.proofs.Common.{string_bytes}
use Rattle.std.proofs.lemmas.Str.{IsUtf8-string_bytes}
use Rattle.log_reader.proofs.NameTextLaws.{quoted_made}
use Rattle.log_reader.proofs.names.quoted_text.Goals as goal

pub returns : goal.returns
returns c =
    quoted_made c.args.shown.now _ (string_bytes c.push_quote.new.text) (string_bytes c.push_shown.new.text) (string_bytes c.push_quote-2.new.text)
    c.new-text.ensures.bytes c.in_ok-push_quote.ensures.added c.in_ok-push_shown.ensures.spelled c.in_ok-push_quote-2.ensures.added
    c.in_ok-push_quote.ensures.shown c.in_ok-push_shown.ensures.shown c.in_ok-push_quote-2.ensures.shown (IsUtf8-string_bytes c.push_quote-2.new.text)
