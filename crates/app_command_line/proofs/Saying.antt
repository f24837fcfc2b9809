-- What the words after a command say, one by one, and the task that they give.
use Rattle.std.proofs.Common.{◌≡◌, ◌≤◌, ◌∙◌, ◌-◌, Bool, true, false, List, [], ◌∷◌, length, map, drop, take, get_or, arith, sym, ap, subst, Option, Some, None, inl, inr, ⊎_elim, MatchOption}
use Rattle.std.proofs.lemmas.List.{take_all}
use Rattle.std.proofs.lemmas.Option.{same_Some}
use Rattle.clap.specs.Words.{Text}
use Rattle.std.specs.Prelude.{◌≢◌}
use Rattle.app_orders.specs.declared.manner.Asked.{Asked}
use Rattle.app_command_line.specs.declared.said.Said.{Said}
use Rattle.app_command_line.specs.declared.settings.CommandName.{CommandName}
use Rattle.app_command_line.specs.declared.settings.Setting.{Setting}
use Rattle.app_command_line.specs.declared.sight.Sight.{Sight}
use Rattle.app_command_line.specs.Options.{AddsAlone, AddsTogether, IsAsked, NamesFile, Say, SaysAlone, SaysTogether, and_also, asked_for, command_word, unsaid}
use Rattle.app_command_line.specs.Steps.Files.{BeginsWithNoFile, SaySame}
use Rattle.app_command_line.proofs.SettingWords.{alone_once, alone_or_together, command_once, together_dashed, together_once}

-- a setting is added in one way
added_once : (before : Said) (s t : Setting) (a b : Said) → s ≡ t → and_also before s ≡ Some a → and_also before t ≡ Some b → a ≡ b
added_once before s t a b same first second = same_Some a b (sym first ∙ ap (and_also before) same ∙ second)

adds_alone_once : (before : Said) (w : Text) (a b : Said) → AddsAlone before w a → AddsAlone before w b → a ≡ b
adds_alone_once before w a b first second = added_once before first.0 second.0 a b (alone_once first.0 second.0 w first.1 second.1) first.2 second.2

adds_together_once : (before : Said) (w value : Text) (a b : Said) → AddsTogether before w value a → AddsTogether before w value b → a ≡ b
adds_together_once before w value a b first second =
    added_once before first.0 second.0 a b (together_once first.0 second.0 w value first.1 second.1) first.2 second.2

adds_one_way : (before : Said) (w value : Text) (a b : Said) → AddsAlone before w a → AddsTogether before w value b → ⊥
adds_one_way before w value a b alone together = alone_or_together alone.0 together.0 w value alone.1 together.1

-- what comes of one word or of two, where it is known what they say
pub added_alone : (before : Said) (s : Setting) (w : Text) (r : Option Said) → SaysAlone s w → r ≡ and_also before s
    → MatchOption r ((after : Said) → ¬ AddsAlone before w after) (AddsAlone before w)
added_alone before s w None says is = λ after adds.
    let bad : None ≡ Some after = is ∙ ap (and_also before) (alone_once s adds.0 w says adds.1) ∙ adds.2 in absurd (cc)
added_alone before s w (Some said) says is = (s, says, sym is)

pub added_together : (before : Said) (s : Setting) (w value : Text) (r : Option Said) → SaysTogether s w value → r ≡ and_also before s
    → MatchOption r ((after : Said) → ¬ AddsTogether before w value after) (AddsTogether before w value)
added_together before s w value None says is = λ after adds.
    let bad : None ≡ Some after = is ∙ ap (and_also before) (together_once s adds.0 w value says adds.1) ∙ adds.2 in absurd (cc)
added_together before s w value (Some said) says is = (s, says, sym is)

pub none_alone : (before : Said) (w : Text) → ((s : Setting) → ¬ SaysAlone s w) → (after : Said) → ¬ AddsAlone before w after
none_alone before w none after adds = none adds.0 adds.1

pub none_together : (before : Said) (w value : Text) → ((s : Setting) → ¬ SaysTogether s w value) → (after : Said) → ¬ AddsTogether before w value after
none_together before w value none after adds = none adds.0 adds.1

-- a word that says something alone names no option
not_both : (before said after : Said) (w : Text) (words : List Text) → AddsAlone before w said → Say before (Some w) words after → ⊥
not_both before said after w [] adds say = say
not_both before said after w (value ∷ words) adds say = adds_one_way before w value said say.0 adds say.1

-- a file's name says nothing alone, and names no option
pub not_alone : (before said : Said) (w : Text) → NamesFile w → AddsAlone before w said → ⊥
not_alone before said w file adds = file.1 adds.0 adds.1

pub not_named : (before after : Said) (w : Text) (words : List Text) → NamesFile w → Say before (Some w) words after → ⊥
not_named before after w [] file say = say
not_named before after w (value ∷ words) file say =
    let bad : ◌≡◌ {A = Bool} true false = sym file.0 ∙ together_dashed say.1.0 w value say.1.1 in absurd (cc)

-- what comes of more words
pub say_next : (before said : Said) (w : Text) (words : List Text) (r : Option Said) → AddsAlone before w said
    → MatchOption r ((after : Said) → ¬ Say said None words after) (Say said None words)
    → MatchOption r ((after : Said) → ¬ Say before None (w ∷ words) after) (Say before None (w ∷ words))
say_next before said w words None adds rest = λ after say.
    ⊎_elim (λ (alone : (x : Said) × AddsAlone before w x × Say x None words after).
    rest after (subst (λ (x : Said). Say x None words after) (adds_alone_once before w alone.0 said alone.1 adds) alone.2))
    (⊎_elim (λ (later : Say before (Some w) words after). not_both before said after w words adds later)
    (λ (file : NamesFile w × Say before None words after). not_alone before said w file.0 adds)) say
say_next before said w words (Some after) adds rest = inl (said, adds, rest)

pub say_later : (before : Said) (w : Text) (words : List Text) (r : Option Said) → ((after : Said) → ¬ AddsAlone before w after) → ¬ NamesFile w
    → MatchOption r ((after : Said) → ¬ Say before (Some w) words after) (Say before (Some w) words)
    → MatchOption r ((after : Said) → ¬ Say before None (w ∷ words) after) (Say before None (w ∷ words))
say_later before w words None none no_file rest = λ after say.
    ⊎_elim (λ (alone : (x : Said) × AddsAlone before w x × Say x None words after). none alone.0 alone.1)
    (⊎_elim (λ (later : Say before (Some w) words after). rest after later)
    (λ (file : NamesFile w × Say before None words after). no_file file.0)) say
say_later before w words (Some after) none no_file rest = inr (inl rest)

pub say_value : (before said : Said) (w value : Text) (words : List Text) (r : Option Said) → AddsTogether before w value said
    → MatchOption r ((after : Said) → ¬ Say said None words after) (Say said None words)
    → MatchOption r ((after : Said) → ¬ Say before (Some w) (value ∷ words) after) (Say before (Some w) (value ∷ words))
say_value before said w value words None adds rest = λ after later.
    rest after (subst (λ (x : Said). Say x None words after) (adds_together_once before w value later.0 said later.1 adds) later.2)
say_value before said w value words (Some after) adds rest = (said, adds, rest)

pub say_no_value : (before : Said) (w value : Text) (words : List Text) → ((after : Said) → ¬ AddsTogether before w value after)
    → (after : Said) → ¬ Say before (Some w) (value ∷ words) after
say_no_value before w value words none after later = none later.0 later.1

-- the first of some words, and those after it
abbrev pub without_first : {A : Type 0} → List A → List A
without_first xs = take (length xs - 1) (drop 1 xs)

first_word : {A : Type 0} (f : A → Text) (xs : List A) (a : A) (w : Text) → 1 ≤ length xs → a ≡ get_or xs 0 a → w ≡ f a
    → map f xs ≡ w ∷ map f (without_first xs)
first_word f [] a w least first is = absurd (omega arith)
first_word f (x ∷ xs) a w least first is =
    ap (λ v. v ∷ map f xs) (ap f (sym first) ∙ sym is) ∙ ap (λ rest. w ∷ map f rest) (sym (take_all (length (x ∷ xs) - 1) xs (omega arith)))

-- words say what is left of them after files
same_said : (before : Said) (words rest : List Text) (r : Option Said) → SaySame words rest
    → MatchOption r ((after : Said) → ¬ Say before None rest after) (Say before None rest)
    → MatchOption r ((after : Said) → ¬ Say before None words after) (Say before None words)
same_said before words rest None same none = λ after say. none after ((same before after).0 say)
same_said before words rest (Some after) same say = (same before after).1 say

first_no_file : {A : Type 0} (f : A → Text) (xs : List A) (a : A) (w : Text) → 1 ≤ length xs → a ≡ get_or xs 0 a → w ≡ f a
    → BeginsWithNoFile (map f xs) → ¬ NamesFile w
first_no_file f [] a w least first is none = absurd (omega arith)
first_no_file f (x ∷ xs) a w least first is none = subst (λ (v : Text). ¬ NamesFile v) (sym (is ∙ ap f first)) none

-- what comes of words, by the first of them that names no file
pub says_next : {A : Type 0} (f : A → Text) (before said : Said) (words xs : List A) (a : A) (w : Text) (r : Option Said)
    → SaySame (map f words) (map f xs) → 1 ≤ length xs → a ≡ get_or xs 0 a → w ≡ f a → AddsAlone before w said
    → MatchOption r ((after : Said) → ¬ Say said None (map f (without_first xs)) after) (Say said None (map f (without_first xs)))
    → MatchOption r ((after : Said) → ¬ Say before None (map f words) after) (Say before None (map f words))
says_next f before said words xs a w r same least first is adds rest =
    same_said before (map f words) (map f xs) r same
    (subst (λ (ws : List Text). MatchOption r ((after : Said) → ¬ Say before None ws after) (Say before None ws))
    (sym (first_word f xs a w least first is)) (say_next before said w (map f (without_first xs)) r adds rest))

pub says_later : {A : Type 0} (f : A → Text) (before : Said) (words xs : List A) (a : A) (w v : Text) (r : Option Said)
    → SaySame (map f words) (map f xs) → BeginsWithNoFile (map f xs) → 1 ≤ length xs
    → a ≡ get_or xs 0 a → w ≡ f a → v ≡ f a → ((after : Said) → ¬ AddsAlone before w after)
    → MatchOption r ((after : Said) → ¬ Say before (Some v) (map f (without_first xs)) after) (Say before (Some v) (map f (without_first xs)))
    → MatchOption r ((after : Said) → ¬ Say before None (map f words) after) (Say before None (map f words))
says_later f before words xs a w v r same no_file least first is also none rest =
    same_said before (map f words) (map f xs) r same
    (subst (λ (ws : List Text). MatchOption r ((after : Said) → ¬ Say before None ws after) (Say before None ws))
    (sym (first_word f xs a v least first also))
    (say_later before v (map f (without_first xs)) r (subst (λ (u : Text). (after : Said) → ¬ AddsAlone before u after) (is ∙ sym also) none)
    (first_no_file f xs a v least first also no_file) rest))

pub says_value : {A : Type 0} (f : A → Text) (before said : Said) (w value : Text) (xs : List A) (a : A) (r : Option Said) → 1 ≤ length xs
    → a ≡ get_or xs 0 a → value ≡ f a → AddsTogether before w value said
    → MatchOption r ((after : Said) → ¬ Say said None (map f (without_first xs)) after) (Say said None (map f (without_first xs)))
    → MatchOption r ((after : Said) → ¬ Say before (Some w) (map f xs) after) (Say before (Some w) (map f xs))
says_value f before said w value xs a r least first is adds rest =
    subst (λ (words : List Text). MatchOption r ((after : Said) → ¬ Say before (Some w) words after) (Say before (Some w) words))
    (sym (first_word f xs a value least first is)) (say_value before said w value (map f (without_first xs)) r adds rest)

pub says_no_value : {A : Type 0} (f : A → Text) (before : Said) (w value : Text) (xs : List A) (a : A) → 1 ≤ length xs
    → a ≡ get_or xs 0 a → value ≡ f a → ((after : Said) → ¬ AddsTogether before w value after)
    → (after : Said) → ¬ Say before (Some w) (map f xs) after
says_no_value f before w value xs a least first is none =
    subst (λ (words : List Text). (after : Said) → ¬ Say before (Some w) words after)
    (sym (first_word f xs a value least first is)) (say_no_value before w value (map f (without_first xs)) none)

-- words say one thing
say_once : (before : Said) (name : Option Text) (words : List Text) (a b : Said) → Say before name words a → Say before name words b → a ≡ b
say_once before None [] a b first second = first ∙ sym second
say_once before (Some name) [] a b first second = absurd first
say_once before None (w ∷ words) a b (inl x) (inl y) =
    say_once y.0 None words a b (subst (λ (said : Said). Say said None words a) (adds_alone_once before w x.0 y.0 x.1 y.1) x.2) y.2
say_once before None (w ∷ words) a b (inl x) (inr (inl y)) = absurd (not_both before x.0 b w words x.1 y)
say_once before None (w ∷ words) a b (inl x) (inr (inr y)) = absurd (not_alone before x.0 w y.0 x.1)
say_once before None (w ∷ words) a b (inr (inl x)) (inl y) = absurd (not_both before y.0 a w words y.1 x)
say_once before None (w ∷ words) a b (inr (inr x)) (inl y) = absurd (not_alone before y.0 w x.0 y.1)
say_once before None (w ∷ words) a b (inr (inl x)) (inr (inl y)) = say_once before (Some w) words a b x y
say_once before None (w ∷ words) a b (inr (inl x)) (inr (inr y)) = absurd (not_named before a w words y.0 x)
say_once before None (w ∷ words) a b (inr (inr x)) (inr (inl y)) = absurd (not_named before b w words x.0 y)
say_once before None (w ∷ words) a b (inr (inr x)) (inr (inr y)) = say_once before None words a b x.1 y.1
say_once before (Some name) (value ∷ words) a b x y =
    say_once y.0 None words a b (subst (λ (said : Said). Say said None words a) (adds_together_once before name value x.0 y.0 x.1 y.1) x.2) y.2

-- what is asked for
pub task_given : (sight : Sight) (word : Text) (words : List Text) (command : CommandName) (said : Said) (r : Option Asked) → word ≡ command_word command
    → Say (unsaid command) None words said → r ≡ asked_for sight said
    → MatchOption r ((asked : Asked) → ¬ IsAsked sight asked word words) (λ asked. IsAsked sight asked word words)
task_given sight word words command said None is say gives = λ asked asks.
    let same : command ≡ asks.0 = command_once command asks.0 (sym is ∙ asks.1) in
    let one : said ≡ asks.2 = say_once (unsaid asks.0) None words said asks.2 (subst (λ (c : CommandName). Say (unsaid c) None words said) same say) asks.3 in
    let bad : None ≡ Some asked = gives ∙ ap (asked_for sight) one ∙ asks.4 in absurd (cc)
task_given sight word words command said (Some asked) is say gives = (command, is, said, say, sym gives)

pub nothing_said : (sight : Sight) (word : Text) (words : List Text) (command : CommandName) → word ≡ command_word command
    → ((after : Said) → ¬ Say (unsaid command) None words after) → (asked : Asked) → ¬ IsAsked sight asked word words
nothing_said sight word words command is none asked asks =
    none asks.2 (subst (λ (c : CommandName). Say (unsaid c) None words asks.2) (command_once asks.0 command (sym asks.1 ∙ is)) asks.3)

pub no_command : (sight : Sight) (word : Text) (words : List Text) → ((command : CommandName) → word ≢ command_word command) → (asked : Asked)
    → ¬ IsAsked sight asked word words
no_command sight word words none asked asks = none asks.0 asks.1
