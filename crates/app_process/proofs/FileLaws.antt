-- How a run over files ends, by what its parts promise.
use Rattle.std.specs.Prelude.{◌≡◌, ◌≢◌, ◌++◌, ℕ, List, [], ◌∷◌, Bool, false, true, Option, None, Some, codes, refl}
use Rattle.std.specs.Fmt.{option_append}
use Rattle.std.specs.Io.KnownBytes.{Appends, Consumes, prepend_known}
use Rattle.std.proofs.Common.{inl, inr, ap, sym, subst, ◌∙◌, append-nil, append_assoc}
use Rattle.clap.specs.Words.{Text}
use Rattle.app_command_line.specs.CommandLine.{AsksNothing, IsCommandLine}
use Rattle.app_command_line.specs.Options.{AreFiles}
use Rattle.app_orders.specs.declared.manner.Asked.{Asked}
use Rattle.app_command_line.specs.declared.sight.Sight.{Sight}
use Rattle.app_command_line.specs.declared.sight.Sight.TheVariants.{Unseen}
use Rattle.app_process.specs.declared.terminals.Terminals.{Terminals}
use Rattle.app_process.specs.Process.{AskForLines, AskForLook, AskForNone, EndAll, EndEach, EndsAsked, EndsFile, EndsFiles, EndsInputOf, EndsMisuse, IsKnownOf, IsOfOne, NameSeveral, SaysSeveral, is_seen, label_of, reads_lines}
use Rattle.app_process.specs.Saying.{Known, SaysSome, said_lines}
use Rattle.json_lines.specs.declared.fault.Fault.{Fault}
use Rattle.json_lines.specs.declared.fault.Fault.TheVariants as faults
use Rattle.app_process.specs.Statuses.{worse}
use Rattle.app_process.specs.Steps.Readings.{EndsUnlooked}
use Rattle.app_process.proofs.FaultLaws.{asked_of}

-- words that ask for nothing are no command line
pub not_asked : {writing : Type 0} (sight : Sight) (words : List Text) (asked : Asked) (before after said_before said_after : Option (List ℕ)) (status : ℕ)
    → AsksNothing sight words → IsCommandLine sight asked words → EndsMisuse writing sight words before after said_before said_after status
not_asked sight words asked before after said_before said_after status none is_line = absurd (none asked is_line)

-- the words ask for judging lines; or they do not, on an input that was not looked at, and then it is looked at
pub ask_for_lines : (words : List Text) (asked : Asked) → IsCommandLine Unseen asked words → reads_lines asked.task ≡ true → AskForLines words
ask_for_lines words asked is_line lines = (asked, is_line, lines)

pub ask_for_other : (words : List Text) (asked : Asked) → IsCommandLine Unseen asked words → reads_lines asked.task ≡ false → AskForLook words
ask_for_other words asked is_line other = inr (asked, is_line, other)

pub ask_for_nothing : (words : List Text) → AsksNothing Unseen words → AskForLook words
ask_for_nothing words none = inl none

-- words that ask for nothing on an input of any look
pub none_unseen : (words : List Text) → AskForNone words → AsksNothing Unseen words
none_unseen words none = none Unseen

-- a reader is known of itself
pub known_itself : (reader : Option (List ℕ)) → IsKnownOf reader reader
known_itself None = tt
known_itself (Some xs) = refl

-- why it was not found how an input looks is said
pub lacks_memory : (label said_before said_after : Option (List ℕ)) (status : ℕ) → status ≡ 4
    → Appends said_before said_after (said_lines label (codes "no memory")) → EndsUnlooked label faults.Memory said_before said_after status
lacks_memory label said_before said_after status is_status said = (is_status, said)

pub is_unread : (label said_before said_after : Option (List ℕ)) (fault : Fault) (status : ℕ) → fault ≢ faults.Memory → status ≡ 3
    → SaysSome said_before said_after → EndsUnlooked label fault said_before said_after status
is_unread label said_before said_after faults.Memory status other is_status said = absurd (other refl)
is_unread label said_before said_after faults.Read status other is_status said = (is_status, said)
is_unread label said_before said_after faults.Write status other is_status said = (is_status, said)

-- some bytes that were read, and those after them
pub known_again : (reader rest : Option (List ℕ)) (bytes : List ℕ) → Consumes reader rest bytes → IsKnownOf reader (prepend_known bytes rest)
known_again None rest bytes consumed = tt
known_again (Some xs) None bytes consumed = absurd consumed
known_again (Some xs) (Some ys) bytes consumed = ap Some (sym consumed)

-- what is so of what was read and what is left is so of the whole
known_more : (reader rest : Option (List ℕ)) (bytes : List ℕ) → Consumes reader rest bytes → (known : Option (List ℕ))
    → IsKnownOf (prepend_known bytes rest) known → IsKnownOf reader known
known_more None rest bytes consumed known is_known = tt
known_more (Some xs) None bytes consumed known is_known = absurd consumed
known_more (Some xs) (Some ys) bytes consumed known is_known = is_known ∙ ap Some (sym consumed)

module _ (reading writing : Type 0) (words : List Text) (terminals : Terminals) (label : Option (List ℕ)) where
  -- what the words ask for is done, on what a reader has
  pub lines_end : {own : Type 0} (asked : Asked) (at : Bool) (reader before after said_before said_after : Option (List ℕ)) (status : ℕ)
      → at ≡ terminals.error → (own → reading) → IsCommandLine Unseen asked words → reads_lines asked.task ≡ true
      → EndsAsked own writing label at terminals.output asked reader before after said_before said_after status
      → EndsInputOf reading writing words terminals label reader before after said_before said_after status
  lines_end asked at reader before after said_before said_after status is_at weaker is_line lines ends =
      let whole = asked_of _ _ _ weaker label at terminals.output asked reader before after said_before said_after status ends in
      let P : Bool → Type 0 = λ b. EndsAsked reading writing label b terminals.output asked reader before after said_before said_after status in
      inl (Unseen, asked, reader, inl (refl, (asked, is_line, lines)), is_line, known_itself reader, subst P is_at whole)

  pub looked_at : {chained : Type 0} (sight : Sight) (asked : Asked) (at : Bool) (reader known before after said_before said_after : Option (List ℕ))
      (status : ℕ) → AskForLook words → is_seen sight ≡ true → at ≡ terminals.error → known ≡ reader → (chained → reading) → IsCommandLine sight asked words
      → EndsAsked chained writing label at terminals.output asked known before after said_before said_after status
      → EndsInputOf reading writing words terminals label reader before after said_before said_after status
  looked_at sight asked at reader known before after said_before said_after status looks seen is_at is_known weaker is_line ends =
      let own = asked_of _ _ _ weaker label at terminals.output asked known before after said_before said_after status ends in
      let P : Bool → Type 0 = λ b. EndsAsked reading writing label b terminals.output asked known before after said_before said_after status in
      let Q : Option (List ℕ) → Type 0 = λ r. EndsAsked reading writing label terminals.error terminals.output asked r before after said_before said_after status in
      inl (sight, asked, reader, inr (seen, looks), is_line, known_itself reader, subst Q is_known (subst P is_at own))

  pub misused : (sight : Sight) (reader before after said_before said_after : Option (List ℕ)) (status : ℕ)
      → AskForLook words → is_seen sight ≡ true → EndsMisuse writing sight words before after said_before said_after status
      → EndsInputOf reading writing words terminals label reader before after said_before said_after status
  misused sight reader before after said_before said_after status looks seen ends = inr (inl (sight, inr (seen, looks), ends))

  pub not_looked_at : (looked : Type 0) (fault : Fault) (reader output said_before said_after : Option (List ℕ)) (status : ℕ) → (looked → reading)
      → (fault ≢ faults.Memory → looked) → EndsUnlooked label fault said_before said_after status
      → EndsInputOf reading writing words terminals label reader output output said_before said_after status
  not_looked_at looked faults.Memory reader output said_before said_after status weaker fails short = inr (inr (inr (refl, short)))
  not_looked_at looked faults.Read reader output said_before said_after status weaker fails (is_status, said) =
      inr (inr (inl (weaker (fails (λ is. cc)), is_status, refl, said)))
  not_looked_at looked faults.Write reader output said_before said_after status weaker fails (is_status, said) =
      inr (inr (inl (weaker (fails (λ is. cc)), is_status, refl, said)))

  pub read_again : {looked : Type 0} (reader rest before after said_before said_after : Option (List ℕ)) (bytes : List ℕ) (status : ℕ)
      → (looked → reading) → Consumes reader rest bytes
      → EndsInputOf looked writing words terminals label (prepend_known bytes rest) before after said_before said_after status
      → EndsInputOf reading writing words terminals label reader before after said_before said_after status
  read_again reader rest before after said_before said_after bytes status weaker consumed (inl (sight, asked, known, looks, is_line, is_known, ends)) =
      let own = asked_of _ _ _ weaker label terminals.error terminals.output asked known before after said_before said_after status ends in
      inl (sight, asked, known, looks, is_line, known_more reader rest bytes consumed known is_known, own)
  read_again reader rest before after said_before said_after bytes status weaker consumed (inr (inl misuse)) = inr (inl misuse)
  read_again reader rest before after said_before said_after bytes status weaker consumed (inr (inr (inl (blamed, is_status, same, said)))) =
      inr (inr (inl (weaker blamed, is_status, same, said)))
  read_again reader rest before after said_before said_after bytes status weaker consumed (inr (inr (inr short))) = inr (inr (inr short))

module _ (Opens : Text → Known → Type 0) (Lacks : Text → Type 0) (reading writing : Type 0) where
  pub unread_ends : (words : List Text) (terminals : Terminals) (name : Text) (label output said_before said_after : Option (List ℕ)) (status : ℕ)
      → status ≡ 3 → Lacks name → SaysSome said_before said_after
      → EndsFile Opens Lacks reading writing words terminals name label output output said_before said_after status
  unread_ends words terminals name label output said_before said_after status is_status lacks said = inr (lacks, is_status, refl, said)

  -- a file that is open, where the words, the terminals and the label are known by other names
  pub file_read : (words others : List Text) (terminals others_terminals : Terminals) (name : Text) (label others_label : Option (List ℕ))
      (reader before after said_before said_after : Option (List ℕ)) (status : ℕ) → others ≡ words → others_terminals ≡ terminals → others_label ≡ label
      → Opens name reader → EndsInputOf reading writing others others_terminals others_label reader before after said_before said_after status
      → EndsFile Opens Lacks reading writing words terminals name label before after said_before said_after status
  file_read words others terminals others_terminals name label others_label reader before after said_before said_after status same_words same_terminals same_label opens ends =
      let P : List Text → Type 0 = λ w. EndsInputOf reading writing w others_terminals others_label reader before after said_before said_after status in
      let Q : Terminals → Type 0 = λ t. EndsInputOf reading writing words t others_label reader before after said_before said_after status in
      let R : Option (List ℕ) → Type 0 = λ l. EndsInputOf reading writing words terminals l reader before after said_before said_after status in
      inl (reader, opens, subst R same_label (subst Q same_terminals (subst P same_words ends)))

-- one file more
pub each_more : (Opens : Text → Known → Type 0) (Lacks : Text → Type 0) (reading writing : Type 0) (words : List Text) (terminals : Terminals) (several : Bool) (names : List Text) (name : Text)
    (before between after said_before said said_after : Option (List ℕ)) (worst so_far one : ℕ)
    → EndEach Opens Lacks reading writing words terminals several names before between said_before said worst so_far
    → EndsFile Opens Lacks reading writing words terminals name (label_of several name) between after said said_after one
    → EndEach Opens Lacks reading writing words terminals several (names ++ name ∷ []) before after said_before said_after worst (worse so_far one)
unfolding EndEach
each_more Opens Lacks reading writing words terminals several [] name before between after said_before said said_after worst so_far one (same, same_said, is_worst) ends =
    let P : Option (List ℕ) → Type 0 = λ b. EndsFile Opens Lacks reading writing words terminals name (label_of several name) b after said said_after one in
    let first = subst P same ends in
    let Q : Option (List ℕ) → Type 0 = λ b. EndsFile Opens Lacks reading writing words terminals name (label_of several name) before after b said_after one in
    (after, said_after, one, subst Q same_said first, (refl, refl, ap (λ w. worse w one) is_worst))
each_more Opens Lacks reading writing words terminals several (first ∷ names) name before between after said_before said said_after worst so_far one (b, s, o, begins, further) ends =
    (b, s, o, begins, each_more Opens Lacks reading writing words terminals several names name b between after s said said_after (worse worst o) so_far one further ends)

pub each_none : (Opens : Text → Known → Type 0) (Lacks : Text → Type 0) (reading writing : Type 0) (words : List Text) (terminals : Terminals) (several : Bool) (output said : Option (List ℕ)) (worst : ℕ)
    → EndEach Opens Lacks reading writing words terminals several [] output output said said worst worst
unfolding EndEach
each_none Opens Lacks reading writing words terminals several output said worst = (refl, refl, refl)

-- what was done over the files that some words name, up to those that the rest of the words name
module _ (Opens : Text → Known → Type 0) (Lacks : Text → Type 0) (reading writing : Type 0) (words : List Text) (terminals : Terminals) (several : Bool)
    (further : List Text) where
  abbrev pub SoFar : List Text → Option (List ℕ) → Option (List ℕ) → Option (List ℕ) → Option (List ℕ) → ℕ → Type 0
  SoFar rest before now said_before said_now worst =
      (files : List Text) × EndEach Opens Lacks reading writing words terminals several files before now said_before said_now 0 worst
      × ((later : List Text) → AreFiles false rest later → AreFiles false further (files ++ later))

  pub so_far_none : (output said : Option (List ℕ)) → SoFar further output output said said 0
  so_far_none output said = ([], each_none Opens Lacks reading writing words terminals several output said 0, λ later are. are)

  pub so_far_more : (rest after_name : List Text) (name : Text) (before now after said_before said_now said_after : Option (List ℕ)) (worst one : ℕ)
      → SoFar rest before now said_before said_now worst → EndsFile Opens Lacks reading writing words terminals name (label_of several name) now after said_now said_after one
      → ((later : List Text) → AreFiles false after_name later → AreFiles false rest (name ∷ later))
      → SoFar after_name before after said_before said_after (worse worst one)
  so_far_more rest after_name name before now after said_before said_now said_after worst one (files, each, are) ends next =
      let P : List Text → List Text → Type 0 = λ later all. AreFiles false further all in (
        files ++ name ∷ [],
        each_more Opens Lacks reading writing words terminals several files name before now after said_before said_now said_after 0 worst one each ends,
        λ later are_later. subst (P later) (sym (append_assoc files (name ∷ []) later)) (are (name ∷ later) (next later are_later)),
      )

  pub so_far_all : (rest : List Text) (before after said_before said_after : Option (List ℕ)) (status : ℕ) → NameSeveral further several
      → SoFar rest before after said_before said_after status → AreFiles false rest []
      → EndAll Opens Lacks reading writing words terminals further before after said_before said_after status
  so_far_all rest before after said_before said_after status is_several (files, each, are) none =
      let P : List Text → Type 0 = λ all. AreFiles false further all in
      let named : AreFiles false further files = subst P (append-nil files) (are [] none) in
      let Q : Bool → Type 0 = λ s. EndEach Opens Lacks reading writing words terminals s files before after said_before said_after 0 status in
      (files, named, subst Q (is_several files named) each)

-- what all that was done over files comes to
module _ (Opens : Text → Known → Type 0) (Lacks : Text → Type 0) (reading writing : Type 0) (words : List Text) (terminals : Terminals) (further : List Text)
    (before after said_before said_after : Option (List ℕ)) (status : ℕ) where
  pub each_ends : (sight : Sight) (asked : Asked) → IsCommandLine sight asked words
      → EndAll Opens Lacks reading writing words terminals further before after said_before said_after status
      → EndsFiles Opens Lacks reading writing words terminals further before after said_before said_after status
  each_ends sight asked is_line all = inl ((sight, asked, is_line), all)

  pub misuse_ends : AskForNone words → EndsMisuse writing Unseen words before after said_before said_after status
      → EndsFiles Opens Lacks reading writing words terminals further before after said_before said_after status
  misuse_ends none misuse = inr (inl (none, misuse))

pub several_ends : (Opens : Text → Known → Type 0) (Lacks : Text → Type 0) (reading writing : Type 0) (words : List Text) (terminals : Terminals) (further : List Text) (output said_before said_after : Option (List ℕ)) (status : ℕ)
    (sight : Sight) (asked : Asked) (several : Bool) → IsCommandLine sight asked words → IsOfOne asked → NameSeveral further several → several ≡ true
    → status ≡ 2 → SaysSeveral said_before said_after → EndsFiles Opens Lacks reading writing words terminals further output output said_before said_after status
several_ends Opens Lacks reading writing words terminals further output said_before said_after status sight asked several is_line of_one is_several are_many is_status said =
    inr (inr (sight, asked, is_line, of_one, subst (NameSeveral further) are_many is_several, is_status, refl, said))

-- the bytes that were read, and those that the reader still has
pub chain_known : (bytes : List ℕ) (rest : Option (List ℕ)) → option_append (Some bytes) rest ≡ prepend_known bytes rest
chain_known bytes None = refl
chain_known bytes (Some ys) = refl
