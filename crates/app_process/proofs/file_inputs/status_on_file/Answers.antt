-- What is known of a file is known of its reader.
use Rattle.std.proofs.Common.{Bor, Global, List, String, ap, map, string_bytes, ◌∙◌}
use Rattle.std.specs.Option.{option_copied}
use Rattle.clap.specs.Words.{Text}
use Rattle.app_process.specs.Faults.{ReadingFails, WritingFails, most_ahead}
use Rattle.app_process.proofs.FileLaws.{file_read}
use Rattle.app_process.proofs.file_inputs.status_on_file.Goals as goal

abbrev texts : Bor (List (String Global)) → List Text
texts words = map string_bytes words.now

pub status_on_reader-requires-clause-choices : goal.status_on_reader-requires-clause-choices
status_on_reader-requires-clause-choices g c κs within = rw (c.with_rest-given.ensures.words, c.of-given.ensures.words) c.requires

pub returns-in-Ok : goal.returns-in-Ok
returns-in-Ok g c =
    file_read (g.F.Open.opens c.args.all.now.files.now) (g.F.Open.lacks c.args.all.now.files.now) (ReadingFails most_ahead g.F.File.Source.called) (WritingFails g.W.Sink.called) _ _ c.args.all.now.terminals _ c.args.name.now _ _ _ _ _ _ _ _ (ap texts (c.with_rest-given.ensures.words ∙ c.of-given.ensures.words))
    (c.with_rest-given.ensures.terminals ∙ c.of-given.ensures.terminals)
    (ap option_copied (c.with_rest-given.ensures.label ∙ c.of-given.ensures.label) ∙ c.label_for-label.ensures) c.in-Ok.ensures.opened c.status_on_reader.ensures
