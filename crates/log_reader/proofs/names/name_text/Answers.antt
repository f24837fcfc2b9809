use Rattle.std.proofs.Common.{None, arith}
use Rattle.std.proofs.lemmas.Str.Pattern.{strip_prefix_char}
use Rattle.log_reader.proofs.NameTextLaws.{own_texts}
use Rattle.log_reader.proofs.names.name_text.Goals as goal

-- a name that is no text
pub returns-in-None : goal.returns-in-None
returns-in-None c =
    own_texts c.from_str.result c.args.name.now c.requires (strip_prefix_char 34 c.args.name.now None c.in-None.ensures.cases (omega arith)) c.from_str.ensures.ok
