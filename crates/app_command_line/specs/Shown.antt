-- What the program shows to words that ask for help or for the version. Text is bytes, and the first word is the program's name.
use Rattle.std.specs.Prelude.{◌≡◌, ◌≢◌, ◌⊎◌, List, [], ◌∷◌, ◌++◌, Option, Some, None, codes, slice_get}
use Rattle.clap.specs.Words.{Text}
use Rattle.app_command_line.specs.Options.{command_word}
use Rattle.app_command_line.specs.declared.abouts.TheConstants as abouts
use Rattle.app_command_line.specs.declared.help.TheConstants.{VERSION}
use Rattle.app_command_line.specs.declared.help_page.HelpPage.{HelpPage}
use Rattle.app_command_line.specs.declared.help_page.HelpPage.TheVariants.{Program, Help, Command}
use Rattle.app_command_line.specs.declared.manuals.TheConstants as manuals
use Rattle.app_command_line.specs.declared.settings.CommandName.{CommandName}
use Rattle.app_command_line.specs.declared.settings.CommandName.TheVariants as commands
use Rattle.app_command_line.specs.declared.topics.TheConstants.{FORMS, REFUSALS}

-- the page that a word names: that of the program where there is no word, or it names no other
abbrev pub Names : Option Text → HelpPage → Type 0
Names None page = page ≡ Program
Names (Some word) Program = ((command : CommandName) → word ≢ command_word command) × (word ≢ codes "help")
Names (Some word) Help = word ≡ codes "help"
Names (Some word) (Command command) = word ≡ command_word command

-- the page on which words ask for help: the one that the second word names, or where that is `help`, the one that the third names
abbrev pub AsksForPage : List Text → HelpPage → Type 0
AsksForPage words page =
    ((page ≢ Help) × Names (slice_get words 1) page) ⊎ (Names (slice_get words 1) Help × Names (slice_get words 2) page)

-- what a page says first, and last
abbrev pub about_of : HelpPage → Text
about_of Program = abouts.PROGRAM.now
about_of Help = abouts.HELP.now
about_of (Command commands.Judge) = abouts.JUDGE.now
about_of (Command commands.Check) = abouts.CHECK.now
about_of (Command commands.Explain) = abouts.EXPLAIN.now
about_of (Command commands.Refute) = abouts.REFUTE.now
about_of (Command commands.Replay) = abouts.REPLAY.now
about_of (Command commands.Drive) = abouts.DRIVE.now
about_of (Command commands.Events) = abouts.EVENTS.now

abbrev pub manual_of : HelpPage → Text
manual_of Program = manuals.PROGRAM.now
manual_of Help = manuals.HELP.now
manual_of (Command commands.Judge) = manuals.JUDGE.now
manual_of (Command commands.Check) = manuals.CHECK.now
manual_of (Command commands.Explain) = manuals.EXPLAIN.now
manual_of (Command commands.Refute) = manuals.REFUTE.now
manual_of (Command commands.Replay) = manuals.REPLAY.now
manual_of (Command commands.Drive) = manuals.DRIVE.now
manual_of (Command commands.Events) = manuals.EVENTS.now

-- a page: what it says first as a line, the usage and the options as `clap` writes them, and what it says last
abbrev pub IsHelpOn : HelpPage → Text → Type 0
IsHelpOn page text = (usage : Text) × (text ≡ about_of page ++ (codes "\n" ++ (usage ++ manual_of page)))

-- the text is the help that the words ask for
abbrev pub IsHelpFor : List Text → Text → Type 0
IsHelpFor words text = (page : HelpPage) × AsksForPage words page × IsHelpOn page text

-- the version
abbrev pub version_text : Text
version_text = codes "causal_judge " ++ (VERSION.now ++ codes "\n")

-- two words that ask for help on a topic, and the text of that topic
abbrev pub NamesTopic : Text → Text → Type 0
NamesTopic word topic = (word ≡ codes "help") × ((topic ≡ codes "forms") ⊎ (topic ≡ codes "refusals"))

abbrev pub IsTextOf : Text → Text → Text → Type 0
IsTextOf word topic text =
    (word ≡ codes "help") × (((topic ≡ codes "forms") × (text ≡ FORMS.now)) ⊎ ((topic ≡ codes "refusals") × (text ≡ REFUSALS.now)))

-- the same of the words of a command line
abbrev pub AsksForTopic : List Text → Type 0
AsksForTopic (program ∷ word ∷ topic ∷ []) = NamesTopic word topic
AsksForTopic _ = ⊥

abbrev pub IsTopicText : List Text → Text → Type 0
IsTopicText (program ∷ word ∷ topic ∷ []) text = IsTextOf word topic text
IsTopicText _ text = ⊥
