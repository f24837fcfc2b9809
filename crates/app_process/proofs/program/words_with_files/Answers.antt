-- Words that name a file first do not name none.
use Rattle.std.proofs.Common.{string_bytes}
use Rattle.std.proofs.lemmas.List.{take_rest}
use Rattle.app_process.proofs.AskedLaws.{names_file}
use Rattle.app_process.proofs.program.words_with_files.Goals as goal

pub returns-in-Some-clause-some : goal.returns-in-Some-clause-some
returns-in-Some-clause-some c =
    names_file string_bytes c.args.words.now _ _ _ c.in-len2-up.len_at_least (take_rest c.args.words.now 2) c.in-Some.ensures
