-- How a run that does what is asked for ends, by what its parts promise.
use Rattle.std.specs.Prelude.{◌≡◌, ◌≢◌, ◌⊎◌, ⊤, ℕ, List, [], ◌∷◌, Bool, true, false, Option, None, Some, refl}
use Rattle.std.proofs.Common.{◌≤◌, ◌<◌, length, drop, map, inl, inr, sym, subst, arith}
use Rattle.clap.specs.Words.{Text, fault_of}
use Rattle.app_command_line.specs.CommandLine.{AsksNothing, IsCommandLine, IsUsageFor, command_line}
use Rattle.app_orders.specs.declared.detail.Detail.{Detail}
use Rattle.app_command_line.specs.Options.{AreFiles}
use Rattle.app_command_line.specs.declared.command.Usage.{Usage}
use Rattle.app_command_line.specs.declared.sight.Sight.TheVariants.{Unseen}
use Rattle.app_process.specs.declared.terminals.Terminals.{Terminals}
use Rattle.app_orders.specs.declared.line_judging.LineJudging.{LineJudging}
use Rattle.app_orders.specs.declared.manner.Asked.{Asked}
use Rattle.app_orders.specs.declared.manner.Manner.{Manner}
use Rattle.app_orders.specs.declared.order.Order.{Order}
use Rattle.app_orders.specs.declared.order.Order.TheVariants.{JudgeLines}
use Rattle.app_process.specs.Dressing.{IsPainted, is_plain, plainly}
use Rattle.app_process.specs.Endings.{EndsInput, EndsLines, EndsOrder, EndsTask, IsOfWhole}
use Rattle.json_lines.specs.declared.fault.Fault.{Fault}
use Rattle.app_process.specs.Faults.{Blames, where_plain}
use Rattle.app_process.specs.Process.{EndsAsked, EndsFiles, EndsRun, EndsWords, GoesToFile, GoesToOutput, IsAfterCommand, NamesNoFile}
use Rattle.app_process.specs.Saying.{Known, SaysSome}
use Rattle.app_process.specs.Usages.{EndsUsage}
use Rattle.app_process.proofs.NamedFiles.{NamesFirst, names_first}

module _ {may : Fault → Type 0} (label : Option (List ℕ)) (at_terminal : Bool) where
  pub as_whole : (order : Order) (detail : Detail) (manner : Manner) (reader before after said_before said_after : Option (List ℕ)) (status : ℕ)
      → IsOfWhole order → EndsOrder may label at_terminal order detail manner reader before after said_before said_after status
      → EndsInput may label at_terminal order detail manner reader before after said_before said_after status
  as_whole order detail manner reader before after said_before said_after status whole ends = inl (whole, ends)

  pub by_lines : (order : Order) (judging : LineJudging) (detail : Detail) (manner : Manner) (reader before after said_before said_after : Option (List ℕ))
      (status : ℕ) → order ≡ JudgeLines judging → EndsLines may label judging reader before after said_before said_after status
      → EndsInput may label at_terminal order detail manner reader before after said_before said_after status
  by_lines order judging detail manner reader before after said_before said_after status is_order ends = inr (judging, is_order, ends)

module _ (reading : Type 0) (label : Option (List ℕ)) (said_at_terminal shown_at_terminal : Bool) where
  -- an answer for a file that is none
  pub not_saved : (asked : Asked) (reader answer said_before said_after : Option (List ℕ)) (status : ℕ) → status ≢ 0
      → EndsTask (Blames reading ⊤) label said_at_terminal asked.task asked.manner reader (Some []) answer said_before said_after status
      → GoesToFile reading label said_at_terminal shown_at_terminal asked reader None None said_before said_after status
  not_saved asked reader answer said_before said_after status other ends = record {
    answer = answer;
    said = said_after;
    answered = status;
    ends = ends;
    output = refl;
    unsaved = λ n. (refl, refl);
    saved = λ none. absurd (other none);
  }

  -- an answer that was written to the file, or could not be
  pub is_saved : (asked : Asked) (reader answer said_before said said_after : Option (List ℕ)) (answered status : ℕ) → answered ≡ 0
      → EndsTask (Blames reading ⊤) label said_at_terminal asked.task asked.manner reader (Some []) answer said_before said answered
      → ((status ≡ 0) × (said_after ≡ said)) ⊎ ((status ≡ 3) × SaysSome said said_after)
      → GoesToFile reading label said_at_terminal shown_at_terminal asked reader None None said_before said_after status
  is_saved asked reader answer said_before said said_after answered status none ends kept = record {
    answer = answer;
    said = said;
    answered = answered;
    ends = ends;
    output = refl;
    unsaved = λ other. absurd (other none);
    saved = λ n. kept;
  }

module _ (reading writing : Type 0) (label : Option (List ℕ)) (said_at_terminal shown_at_terminal : Bool) where
  pub output_as_it_is : (asked : Asked) (painted : Bool) (reader before after said_before said_after : Option (List ℕ)) (status : ℕ)
      → IsPainted asked.task asked.manner.coloring shown_at_terminal painted → is_plain label painted ≡ true
      → EndsTask (Blames reading writing) label said_at_terminal asked.task asked.manner reader before after said_before said_after status
      → GoesToOutput reading writing label said_at_terminal shown_at_terminal asked reader before after said_before said_after status
  output_as_it_is asked painted reader before after said_before said_after status is_painted plain ends =
      let P : Bool → Type 0 = λ p. EndsTask (Blames reading (where_plain p writing)) label said_at_terminal asked.task asked.manner reader (plainly p before) (plainly p after) said_before said_after status in
      (painted, is_painted, subst P (sym plain) ends)

  pub output_dressed : (asked : Asked) (painted : Bool) (reader before after said_before said_after : Option (List ℕ)) (status : ℕ)
      → IsPainted asked.task asked.manner.coloring shown_at_terminal painted → is_plain label painted ≡ false
      → EndsTask (Blames reading ⊤) label said_at_terminal asked.task asked.manner reader None None said_before said_after status
      → GoesToOutput reading writing label said_at_terminal shown_at_terminal asked reader before after said_before said_after status
  output_dressed asked painted reader before after said_before said_after status is_painted plain ends =
      let P : Bool → Type 0 = λ p. EndsTask (Blames reading (where_plain p writing)) label said_at_terminal asked.task asked.manner reader (plainly p before) (plainly p after) said_before said_after status in
      (painted, is_painted, subst P (sym plain) ends)

  pub to_output : (asked : Asked) (reader before after said_before said_after : Option (List ℕ)) (status : ℕ) → asked.manner.to_file ≡ false
      → GoesToOutput reading writing label said_at_terminal shown_at_terminal asked reader before after said_before said_after status
      → EndsAsked reading writing label said_at_terminal shown_at_terminal asked reader before after said_before said_after status
  to_output asked reader before after said_before said_after status to ends = inl (to, ends)

  pub to_file : (asked : Asked) (reader output said_before said_after : Option (List ℕ)) (status : ℕ) → asked.manner.to_file ≡ true
      → GoesToFile reading label said_at_terminal shown_at_terminal asked reader None None said_before said_after status
      → EndsAsked reading writing label said_at_terminal shown_at_terminal asked reader output output said_before said_after status
  to_file asked reader output said_before said_after status to ends = inr (
    to,
    record {
      answer = ends.answer;
      said = ends.said;
      answered = ends.answered;
      ends = ends.ends;
      output = refl;
      unsaved = ends.unsaved;
      saved = ends.saved;
    },
  )

-- words that name no file: they are a command line, or they ask for nothing
module _ (reading writing : Type 0) (words : List Text) (terminals : Terminals) where
  pub words_asked : (asked : Asked) (reader before after said_before said_after : Option (List ℕ)) (status : ℕ) → IsCommandLine Unseen asked words
      → EndsAsked reading writing None terminals.error terminals.output asked reader before after said_before said_after status
      → EndsWords reading writing words terminals reader before after said_before said_after status
  words_asked asked reader before after said_before said_after status is_line ends = inl (asked, is_line, ends)

  pub words_misused : (usage : Usage) (reader before after said_before said_after : Option (List ℕ)) (status : ℕ) → AsksNothing Unseen words
      → IsUsageFor (fault_of command_line words) words usage → EndsUsage writing usage before after said_before said_after status
      → EndsWords reading writing words terminals reader before after said_before said_after status
  words_misused usage reader before after said_before said_after status none is_usage ends = inr (usage, none, is_usage, ends)

  -- they name no file, or some
  pub run_on_input : (Opens : Text → Known → Type 0) (Lacks : Text → Type 0) (file_reading : Type 0) (reader before after said_before said_after : Option (List ℕ)) (status : ℕ) → NamesNoFile words
      → EndsWords reading writing words terminals reader before after said_before said_after status
      → EndsRun Opens Lacks file_reading reading writing words terminals reader before after said_before said_after status
  run_on_input Opens Lacks file_reading reader before after said_before said_after status none ends = inl (none, ends)

  pub run_on_files : (Opens : Text → Known → Type 0) (Lacks : Text → Type 0) (file_reading : Type 0) (further : List Text) (reader before after said_before said_after : Option (List ℕ)) (status : ℕ)
      → ¬ NamesNoFile words → IsAfterCommand words further
      → EndsFiles Opens Lacks file_reading writing words terminals further before after said_before said_after status
      → EndsRun Opens Lacks file_reading reading writing words terminals reader before after said_before said_after status
  run_on_files Opens Lacks file_reading further reader before after said_before said_after status some after_command ends = inr (some, further, after_command, ends)

-- the words after that of a command, by some words and how each is a text
module _ {T : Type 0} (text : T → Text) where
  pub after_command : (words : List T) → 2 ≤ length words → IsAfterCommand (map text words) (map text (drop 2 words))
  after_command [] many = absurd (omega arith)
  after_command (program ∷ []) many = absurd (omega arith)
  after_command (program ∷ word ∷ further) many = refl

  pub names_file : (words further : List T) (rest : List Text) (name : Text) → 2 ≤ length words → further ≡ drop 2 words
      → NamesFirst (map text further) name rest → ¬ NamesNoFile (map text words)
  names_file [] further rest name many is_further next = absurd (omega arith)
  names_file (program ∷ []) further rest name many is_further next = absurd (omega arith)
  names_file (program ∷ word ∷ later) further rest name many is_further next =
      let P : List T → Type 0 = λ f. NamesFirst (map text f) name rest in
      names_first (map text later) rest name (subst P is_further next)

  pub no_file : (words : List T) → 2 ≤ length words → AreFiles false (map text (drop 2 words)) [] → NamesNoFile (map text words)
  no_file [] many none = tt
  no_file (program ∷ []) many none = tt
  no_file (program ∷ word ∷ further) many none = none

  pub few_words : (words : List T) → length words < 2 → NamesNoFile (map text words)
  few_words [] few = tt
  few_words (program ∷ []) few = tt
  few_words (program ∷ word ∷ further) few = absurd (omega arith)
