-- What a word says is read off it: no word says two things.
use Rattle.std.proofs.Common.{◌≡◌, ◌<◌, ◌≤◌, ◌∙◌, ℕ, Bool, true, false, ◌∷◌, ◌++◌, refl, sym, ap, subst, ◌+◌, ◌*◌, arith, length, get_or, Option, Some, None, MatchOption}
use Rattle.std.specs.Prelude.{◌≢◌, ◌==◌, ◌||◌, codes, if◌then◌else◌, nat_eq}
use Rattle.std.specs.Cmp.Lexicographic.{pointwise}
use Rattle.std.specs.List.{after_first, before_first}
use Rattle.std.specs.Str.Parse.{digits_value, without_leading_plus}
use Rattle.clap.specs.Words.{Text}
use Rattle.judge_workers.specs.Workers.{AreWorkers}
use Rattle.model_history.specs.declared.limits.TheConstants.{MAX_SESSIONS}
use Rattle.app_orders.specs.declared.drive.TheConstants.{MAX_SEALS}
use Rattle.app_orders.specs.declared.drive.Store.TheVariants.{Causal, Lamport}
use Rattle.app_orders.specs.declared.coloring.Coloring.{Coloring}
use Rattle.app_orders.specs.declared.coloring.Coloring.TheVariants as colorings
use Rattle.app_orders.specs.declared.expected.Expected.{Expected}
use Rattle.app_command_line.specs.declared.settings.CommandName.{CommandName}
use Rattle.app_command_line.specs.declared.settings.CommandName.TheVariants as commands
use Rattle.app_command_line.specs.declared.settings.Setting.{Setting}
use Rattle.app_command_line.specs.declared.settings.Setting.TheVariants as settings
use Rattle.app_command_line.specs.Expected.{Lists}
use Rattle.app_command_line.specs.Numerals.{IsEvery, IsLeast, IsListed, Writes}
use Rattle.app_command_line.specs.Options.{SaysAlone, SaysTogether, color_word, command_word, is_bare}
use Rattle.app_command_line.specs.Steps.BareWords.{IsNoBareWord}
use Rattle.app_command_line.proofs.Names.{list-read, listed}

-- three letters of a word tell its setting apart
abbrev mark : Text → ℕ
mark (a ∷ b ∷ c ∷ d ∷ rest) = a + (1000 * c + 1000000 * d)
mark _ = 0

-- and a fourth one tells two of them apart
abbrev sixth : Text → ℕ
sixth (a ∷ b ∷ c ∷ d ∷ e ∷ f ∷ rest) = f
sixth _ = 0

-- the second letter of a word
abbrev second : Text → ℕ
second (a ∷ b ∷ rest) = b
second _ = 0

-- the colouring that a word names
abbrev coloring_from : Text → Coloring
coloring_from word =
    if mark word == 111116097 then colorings.Auto else
    if mark word == 97119097 then colorings.Always else colorings.Never

coloring-read : (c : Coloring) → coloring_from (color_word c) ≡ c
coloring-read colorings.Auto = refl
coloring-read colorings.Always = refl
coloring-read colorings.Never = refl

abbrev number_in : Text → ℕ
number_in text = digits_value 10 (without_leading_plus text)

-- what a word and a value say, and the value after the equals sign in a word
abbrev setting_of : Text → Text → Setting
setting_of word value =
    if second word == 111 then settings.Output else
    if mark word == 115117099 then settings.Store Causal else
    if mark word == 112109108 then settings.Store Lamport else
    if mark word == 97101045 then settings.Eager else
    if mark word == 105108045 then settings.Lines else
    if mark word == 107115045 then settings.SkipBlank else
    if mark word == 111108045 then settings.Long else
    if mark word == 115106045 then settings.Json else
    if mark word == 101099045 then settings.Certificates else
    if mark word == 118115045 then settings.Svg else
    if mark word == 116104045 then settings.Html else
    if mark word == 101115045 then settings.Seals (number_in value) else
    if mark word == 111119045 then settings.Workers (number_in value) else
    if mark word == 116115045 then settings.Stop (number_in value) else
    if mark word == 108097045 then settings.All (number_in value) else
    if mark word == 97110045 then settings.Names else
    if mark word == 117115045 then settings.Summary else
    if mark word == 111110045 then settings.Notes else
    if mark word == 114112045 then settings.Progress else
    if mark word == 116097045 then settings.AtLeastReads (number_in value) else
    if mark word == 111099045 then settings.Color (coloring_from value) else
    if mark word == 104119045 then settings.Why else
    if mark word == 118101045 then (if sixth word == 110 then settings.Events else settings.Every (number_in value)) else
    settings.Expect (listed value)

abbrev value_of : Text → Text
value_of word = after_first (λ c. c == 61) word

alone-read : (s : Setting) (w : Text) → SaysAlone s w → setting_of w (value_of w) ≡ s
alone-read (settings.Store Causal) w says = ap (λ v. setting_of v (value_of v)) says
alone-read (settings.Store Lamport) w says = ap (λ v. setting_of v (value_of v)) says
alone-read settings.Eager w says = ap (λ v. setting_of v (value_of v)) says
alone-read settings.Lines w says = ap (λ v. setting_of v (value_of v)) says
alone-read settings.SkipBlank w says = ap (λ v. setting_of v (value_of v)) says
alone-read settings.Long w says = ap (λ v. setting_of v (value_of v)) says
alone-read settings.Json w says = ap (λ v. setting_of v (value_of v)) says
alone-read settings.Certificates w says = ap (λ v. setting_of v (value_of v)) says
alone-read settings.Svg w says = ap (λ v. setting_of v (value_of v)) says
alone-read settings.Html w says = ap (λ v. setting_of v (value_of v)) says
alone-read settings.Events w says = ap (λ v. setting_of v (value_of v)) says
alone-read settings.Names w says = ap (λ v. setting_of v (value_of v)) says
alone-read settings.Notes w says = ap (λ v. setting_of v (value_of v)) says
alone-read settings.Why w says = ap (λ v. setting_of v (value_of v)) says
alone-read settings.Summary w says = ap (λ v. setting_of v (value_of v)) says
alone-read settings.Progress w says = ap (λ v. setting_of v (value_of v)) says
alone-read (settings.Seals n) w says = ap (λ v. setting_of v (value_of v)) says.1 ∙ ap settings.Seals says.2.1
alone-read (settings.Workers n) w says = ap (λ v. setting_of v (value_of v)) says.1 ∙ ap settings.Workers says.2.1
alone-read (settings.Stop n) w says = ap (λ v. setting_of v (value_of v)) says.1 ∙ ap settings.Stop says.2.1
alone-read (settings.All n) w says = ap (λ v. setting_of v (value_of v)) says.1 ∙ ap settings.All says.2.1
alone-read (settings.Every n) w says = ap (λ v. setting_of v (value_of v)) says.1 ∙ ap settings.Every says.2.1
alone-read (settings.Expect e) w says = ap (λ v. setting_of v (value_of v)) says.1 ∙ ap settings.Expect (sym (list-read says.0 e says.2))
alone-read (settings.AtLeastReads n) w says = ap (λ v. setting_of v (value_of v)) says.1 ∙ ap settings.AtLeastReads says.2.1
alone-read (settings.Color c) w says =
    ap (λ v. setting_of v (value_of v)) says.1 ∙ ap (λ t. settings.Color (coloring_from t)) says.2 ∙ ap settings.Color (coloring-read c)
alone-read settings.Output w says = ap (λ v. setting_of v (value_of v)) says.1

together-read : (s : Setting) (w value : Text) → SaysTogether s w value → setting_of w value ≡ s
together-read (settings.Seals n) w value says = ap (λ v. setting_of v value) says.0 ∙ ap settings.Seals says.1.1
together-read (settings.Workers n) w value says = ap (λ v. setting_of v value) says.0 ∙ ap settings.Workers says.1.1
together-read (settings.Stop n) w value says = ap (λ v. setting_of v value) says.0 ∙ ap settings.Stop says.1.1
together-read (settings.All n) w value says = ap (λ v. setting_of v value) says.0 ∙ ap settings.All says.1.1
together-read (settings.Every n) w value says = ap (λ v. setting_of v value) says.0 ∙ ap settings.Every says.1.1
together-read (settings.Expect e) w value says = ap (λ v. setting_of v value) says.0 ∙ ap settings.Expect (sym (list-read value e says.1))
together-read (settings.AtLeastReads n) w value says = ap (λ v. setting_of v value) says.0 ∙ ap settings.AtLeastReads says.1.1
together-read (settings.Color c) w value says =
    ap (λ v. setting_of v value) says.0 ∙ ap (λ t. settings.Color (coloring_from t)) says.1 ∙ ap settings.Color (coloring-read c)
together-read settings.Output w value says = ap (λ v. setting_of v value) says
together-read (settings.Store store) w value says = absurd says
together-read settings.Eager w value says = absurd says
together-read settings.Lines w value says = absurd says
together-read settings.SkipBlank w value says = absurd says
together-read settings.Long w value says = absurd says
together-read settings.Json w value says = absurd says
together-read settings.Certificates w value says = absurd says
together-read settings.Svg w value says = absurd says
together-read settings.Html w value says = absurd says
together-read settings.Events w value says = absurd says
together-read settings.Names w value says = absurd says
together-read settings.Notes w value says = absurd says
together-read settings.Why w value says = absurd says
together-read settings.Summary w value says = absurd says
together-read settings.Progress w value says = absurd says

-- one word says one thing, and so do two
pub alone_once : (s t : Setting) (w : Text) → SaysAlone s w → SaysAlone t w → s ≡ t
alone_once s t w says also = sym (alone-read s w says) ∙ alone-read t w also

pub together_once : (s t : Setting) (w value : Text) → SaysTogether s w value → SaysTogether t w value → s ≡ t
together_once s t w value says also = sym (together-read s w value says) ∙ together-read t w value also

-- what one word says, no two words say
abbrev names_option : Text → Bool
names_option word =
    pointwise nat_eq (codes "--seals") word || (pointwise nat_eq (codes "--workers") word || (pointwise nat_eq (codes "--stop") word
    || (pointwise nat_eq (codes "--expect") word || (pointwise nat_eq (codes "--all") word || (pointwise nat_eq (codes "--every") word
    || (pointwise nat_eq (codes "--at-least-reads") word || (pointwise nat_eq (codes "--color") word || pointwise nat_eq (codes "-o") word)))))))

alone-no-option : (s : Setting) (w : Text) → SaysAlone s w → names_option w ≡ false
alone-no-option (settings.Store Causal) w says = ap names_option says
alone-no-option (settings.Store Lamport) w says = ap names_option says
alone-no-option settings.Eager w says = ap names_option says
alone-no-option settings.Lines w says = ap names_option says
alone-no-option settings.SkipBlank w says = ap names_option says
alone-no-option settings.Long w says = ap names_option says
alone-no-option settings.Json w says = ap names_option says
alone-no-option settings.Certificates w says = ap names_option says
alone-no-option settings.Svg w says = ap names_option says
alone-no-option settings.Html w says = ap names_option says
alone-no-option settings.Events w says = ap names_option says
alone-no-option settings.Names w says = ap names_option says
alone-no-option settings.Notes w says = ap names_option says
alone-no-option settings.Why w says = ap names_option says
alone-no-option settings.Summary w says = ap names_option says
alone-no-option settings.Progress w says = ap names_option says
alone-no-option (settings.Seals n) w says = ap names_option says.1
alone-no-option (settings.Workers n) w says = ap names_option says.1
alone-no-option (settings.Stop n) w says = ap names_option says.1
alone-no-option (settings.Expect n) w says = ap names_option says.1
alone-no-option (settings.All n) w says = ap names_option says.1
alone-no-option (settings.Every n) w says = ap names_option says.1
alone-no-option (settings.AtLeastReads n) w says = ap names_option says.1
alone-no-option (settings.Color n) w says = ap names_option says.1
alone-no-option settings.Output w says = ap names_option says.1

together-option : (s : Setting) (w value : Text) → SaysTogether s w value → names_option w ≡ true
together-option (settings.Seals n) w value says = ap names_option says.0
together-option (settings.Workers n) w value says = ap names_option says.0
together-option (settings.Stop n) w value says = ap names_option says.0
together-option (settings.Expect n) w value says = ap names_option says.0
together-option (settings.All n) w value says = ap names_option says.0
together-option (settings.Every n) w value says = ap names_option says.0
together-option (settings.AtLeastReads n) w value says = ap names_option says.0
together-option (settings.Color n) w value says = ap names_option says.0
together-option settings.Output w value says = ap names_option says
together-option (settings.Store store) w value says = absurd says
together-option settings.Eager w value says = absurd says
together-option settings.Lines w value says = absurd says
together-option settings.SkipBlank w value says = absurd says
together-option settings.Long w value says = absurd says
together-option settings.Json w value says = absurd says
together-option settings.Certificates w value says = absurd says
together-option settings.Svg w value says = absurd says
together-option settings.Html w value says = absurd says
together-option settings.Events w value says = absurd says
together-option settings.Names w value says = absurd says
together-option settings.Notes w value says = absurd says
together-option settings.Why w value says = absurd says
together-option settings.Summary w value says = absurd says
together-option settings.Progress w value says = absurd says

pub alone_or_together : (s t : Setting) (w value : Text) → SaysAlone s w → SaysTogether t w value → ⊥
alone_or_together s t w value says also = let bad : ◌≡◌ {A = Bool} true false = sym (together-option t w value also) ∙ alone-no-option s w says in absurd (cc)

-- a word with an equals sign says what the name before it and the value after it say
abbrev is_equals : ℕ → Bool
is_equals c = c == 61

split_alone : (s : Setting) (w name value : Text) → IsNoBareWord w → name ≡ before_first is_equals w → value ≡ after_first is_equals w → SaysAlone s w
    → SaysTogether s name value
split_alone (settings.Seals n) w name value bare front later says =
    (front ∙ ap (before_first is_equals) says.1, subst (λ (t : Text). Writes t n) (sym (later ∙ ap (after_first is_equals) says.1)) says.2, says.3)
split_alone (settings.Workers n) w name value bare front later says =
    (front ∙ ap (before_first is_equals) says.1, subst (λ (t : Text). Writes t n) (sym (later ∙ ap (after_first is_equals) says.1)) says.2, says.3)
split_alone (settings.Stop n) w name value bare front later says =
    (front ∙ ap (before_first is_equals) says.1, subst (λ (t : Text). Writes t n) (sym (later ∙ ap (after_first is_equals) says.1)) says.2, says.3)
split_alone (settings.All n) w name value bare front later says =
    (front ∙ ap (before_first is_equals) says.1, subst (λ (t : Text). Writes t n) (sym (later ∙ ap (after_first is_equals) says.1)) says.2, says.3)
split_alone (settings.Every n) w name value bare front later says =
    (front ∙ ap (before_first is_equals) says.1, subst (λ (t : Text). Writes t n) (sym (later ∙ ap (after_first is_equals) says.1)) says.2, says.3)
split_alone (settings.Expect e) w name value bare front later says =
    (front ∙ ap (before_first is_equals) says.1, subst (λ (t : Text). Lists t e) (sym (later ∙ ap (after_first is_equals) says.1)) says.2)
split_alone (settings.AtLeastReads n) w name value bare front later says =
    (front ∙ ap (before_first is_equals) says.1, subst (λ (t : Text). Writes t n) (sym (later ∙ ap (after_first is_equals) says.1)) says.2, says.3)
split_alone (settings.Color c) w name value bare front later says =
    (front ∙ ap (before_first is_equals) says.1, later ∙ ap (after_first is_equals) says.1 ∙ says.2)
split_alone settings.Output w name value bare front later says = front ∙ ap (before_first is_equals) says.1
split_alone (settings.Store Causal) w name value bare front later says = absurd (bare.causal says)
split_alone (settings.Store Lamport) w name value bare front later says = absurd (bare.lamport says)
split_alone settings.Eager w name value bare front later says = absurd (bare.eager says)
split_alone settings.Lines w name value bare front later says = absurd (bare.lines says)
split_alone settings.SkipBlank w name value bare front later says = absurd (bare.skip_blank says)
split_alone settings.Long w name value bare front later says = absurd (bare.long says)
split_alone settings.Json w name value bare front later says = absurd (bare.json says)
split_alone settings.Certificates w name value bare front later says = absurd (bare.certificates says)
split_alone settings.Svg w name value bare front later says = absurd (bare.svg says)
split_alone settings.Html w name value bare front later says = absurd (bare.html says)
split_alone settings.Events w name value bare front later says = absurd (bare.events says)
split_alone settings.Names w name value bare front later says = absurd (bare.names says)
split_alone settings.Notes w name value bare front later says = absurd (bare.notes says)
split_alone settings.Why w name value bare front later says = absurd (bare.why says)
split_alone settings.Summary w name value bare front later says = absurd (bare.summary says)
split_alone settings.Progress w name value bare front later says = absurd (bare.progress says)

joined_alone : (s : Setting) (w name value : Text) → w ≡ name ++ 61 ∷ value → SaysTogether s name value → SaysAlone s w
joined_alone (settings.Seals n) w name value is says = (value, is ∙ ap (λ (t : Text). t ++ 61 ∷ value) says.0, says.1, says.2)
joined_alone (settings.Workers n) w name value is says = (value, is ∙ ap (λ (t : Text). t ++ 61 ∷ value) says.0, says.1, says.2)
joined_alone (settings.Stop n) w name value is says = (value, is ∙ ap (λ (t : Text). t ++ 61 ∷ value) says.0, says.1, says.2)
joined_alone (settings.All n) w name value is says = (value, is ∙ ap (λ (t : Text). t ++ 61 ∷ value) says.0, says.1, says.2)
joined_alone (settings.Every n) w name value is says = (value, is ∙ ap (λ (t : Text). t ++ 61 ∷ value) says.0, says.1, says.2)
joined_alone (settings.Expect e) w name value is says = (value, is ∙ ap (λ (t : Text). t ++ 61 ∷ value) says.0, says.1)
joined_alone (settings.AtLeastReads n) w name value is says = (value, is ∙ ap (λ (t : Text). t ++ 61 ∷ value) says.0, says.1, says.2)
joined_alone (settings.Color c) w name value is says = (value, is ∙ ap (λ (t : Text). t ++ 61 ∷ value) says.0, says.1)
joined_alone settings.Output w name value is says = (value, is ∙ ap (λ (t : Text). t ++ 61 ∷ value) says)
joined_alone (settings.Store store) w name value is says = absurd says
joined_alone settings.Eager w name value is says = absurd says
joined_alone settings.Lines w name value is says = absurd says
joined_alone settings.SkipBlank w name value is says = absurd says
joined_alone settings.Long w name value is says = absurd says
joined_alone settings.Json w name value is says = absurd says
joined_alone settings.Certificates w name value is says = absurd says
joined_alone settings.Svg w name value is says = absurd says
joined_alone settings.Html w name value is says = absurd says
joined_alone settings.Events w name value is says = absurd says
joined_alone settings.Names w name value is says = absurd says
joined_alone settings.Notes w name value is says = absurd says
joined_alone settings.Why w name value is says = absurd says
joined_alone settings.Summary w name value is says = absurd says
joined_alone settings.Progress w name value is says = absurd says

pub said_by_value : (w name value : Text) (r : Option Setting) → IsNoBareWord w → w ≡ name ++ 61 ∷ value → name ≡ before_first is_equals w
    → value ≡ after_first is_equals w → MatchOption r ((s : Setting) → ¬ SaysTogether s name value) (λ s. SaysTogether s name value)
    → MatchOption r ((s : Setting) → ¬ SaysAlone s w) (λ s. SaysAlone s w)
said_by_value w name value None bare is front later none = λ s says. none s (split_alone s w name value bare front later says)
said_by_value w name value (Some s) bare is front later says = joined_alone s w name value is says

-- a word without one that is none of those that say something without a value, says nothing
has_equals : (w v : Text) (i : ℕ) → ((k : ℕ) → k < length w → get_or w k 0 ≢ 61) → w ≡ v → i < length v → get_or v i 0 ≡ 61 → ⊥
has_equals w v i free is within at = free i (subst (λ (t : Text). i < length t) (sym is) within) (ap (λ (t : Text). get_or t i 0) is ∙ at)

pub no_value : (w : Text) → IsNoBareWord w → ((k : ℕ) → k < length w → get_or w k 0 ≢ 61) → (s : Setting) → ¬ SaysAlone s w
no_value w bare free (settings.Store Causal) says = bare.causal says
no_value w bare free (settings.Store Lamport) says = bare.lamport says
no_value w bare free settings.Eager says = bare.eager says
no_value w bare free settings.Lines says = bare.lines says
no_value w bare free settings.SkipBlank says = bare.skip_blank says
no_value w bare free settings.Long says = bare.long says
no_value w bare free settings.Json says = bare.json says
no_value w bare free settings.Certificates says = bare.certificates says
no_value w bare free settings.Svg says = bare.svg says
no_value w bare free settings.Html says = bare.html says
no_value w bare free settings.Events says = bare.events says
no_value w bare free settings.Names says = bare.names says
no_value w bare free settings.Notes says = bare.notes says
no_value w bare free settings.Why says = bare.why says
no_value w bare free settings.Summary says = bare.summary says
no_value w bare free settings.Progress says = bare.progress says
no_value w bare free (settings.Seals n) says = has_equals w (codes "--seals=" ++ says.0) 7 free says.1 (omega arith) refl
no_value w bare free (settings.Workers n) says = has_equals w (codes "--workers=" ++ says.0) 9 free says.1 (omega arith) refl
no_value w bare free (settings.Stop n) says = has_equals w (codes "--stop=" ++ says.0) 6 free says.1 (omega arith) refl
no_value w bare free (settings.All n) says = has_equals w (codes "--all=" ++ says.0) 5 free says.1 (omega arith) refl
no_value w bare free (settings.Every n) says = has_equals w (codes "--every=" ++ says.0) 7 free says.1 (omega arith) refl
no_value w bare free (settings.Expect n) says = has_equals w (codes "--expect=" ++ says.0) 8 free says.1 (omega arith) refl
no_value w bare free (settings.AtLeastReads n) says = has_equals w (codes "--at-least-reads=" ++ says.0) 16 free says.1 (omega arith) refl
no_value w bare free (settings.Color c) says = has_equals w (codes "--color=" ++ says.0) 7 free says.1 (omega arith) refl
no_value w bare free settings.Output says = has_equals w (codes "-o=" ++ says.0) 2 free says.1 (omega arith) refl

-- the name of an option says nothing with a value that the option does not take
together_as : (w v value : Text) (s : Setting) → w ≡ v → SaysTogether s w value → SaysTogether (setting_of v value) w value
together_as w v value s is says = subst (λ (x : Setting). SaysTogether x w value) (sym (together-read s w value says) ∙ ap (λ t. setting_of t value) is) says

pub no_seals_together : (w number : Text) → w ≡ codes "--seals" → ((n : ℕ) → n ≤ MAX_SEALS → ¬ Writes number n) → (s : Setting) → ¬ SaysTogether s w number
no_seals_together w number is none s says =
    let so : SaysTogether (settings.Seals (number_in number)) w number = together_as w (codes "--seals") number s is says in none (number_in number) so.2 so.1

pub no_workers_together : (w number : Text) → w ≡ codes "--workers" → ((n : ℕ) → AreWorkers n → ¬ Writes number n) → (s : Setting) → ¬ SaysTogether s w number
no_workers_together w number is none s says =
    let so : SaysTogether (settings.Workers (number_in number)) w number = together_as w (codes "--workers") number s is says in none (number_in number) so.2 so.1

pub no_stop_together : (w number : Text) → w ≡ codes "--stop" → ((n : ℕ) → n < MAX_SESSIONS → ¬ Writes number n) → (s : Setting) → ¬ SaysTogether s w number
no_stop_together w number is none s says =
    let so : SaysTogether (settings.Stop (number_in number)) w number = together_as w (codes "--stop") number s is says in none (number_in number) so.2 so.1

pub no_expect_together : (w list : Text) → w ≡ codes "--expect" → ((e : Expected) → ¬ Lists list e) → (s : Setting) → ¬ SaysTogether s w list
no_expect_together w list is none s says =
    let so : SaysTogether (settings.Expect (listed list)) w list = together_as w (codes "--expect") list s is says in none (listed list) so.1

pub no_all_together : (w number : Text) → w ≡ codes "--all" → ((n : ℕ) → IsListed n → ¬ Writes number n) → (s : Setting) → ¬ SaysTogether s w number
no_all_together w number is none s says =
    let so : SaysTogether (settings.All (number_in number)) w number = together_as w (codes "--all") number s is says in none (number_in number) so.2 so.1

pub no_every_together : (w number : Text) → w ≡ codes "--every" → ((n : ℕ) → IsEvery n → ¬ Writes number n) → (s : Setting) → ¬ SaysTogether s w number
no_every_together w number is none s says =
    let so : SaysTogether (settings.Every (number_in number)) w number = together_as w (codes "--every") number s is says in none (number_in number) so.2 so.1

pub no_reads_together : (w number : Text) → w ≡ codes "--at-least-reads" → ((n : ℕ) → IsLeast n → ¬ Writes number n) → (s : Setting) → ¬ SaysTogether s w number
no_reads_together w number is none s says =
    let so : SaysTogether (settings.AtLeastReads (number_in number)) w number = together_as w (codes "--at-least-reads") number s is says in none (number_in number) so.2 so.1

pub no_color_together : (w name : Text) → w ≡ codes "--color" → ((c : Coloring) → name ≢ color_word c) → (s : Setting) → ¬ SaysTogether s w name
no_color_together w name is none s says =
    let so : SaysTogether (settings.Color (coloring_from name)) w name = together_as w (codes "--color") name s is says in none (coloring_from name) so.1

-- a word that is none of the names of options says nothing
pub no_together : (w value : Text) → w ≢ codes "--seals" → w ≢ codes "--workers" → w ≢ codes "--expect" → w ≢ codes "--stop" → w ≢ codes "--all"
    → w ≢ codes "--every" → w ≢ codes "--at-least-reads" → w ≢ codes "--color" → w ≢ codes "-o" → (s : Setting) → ¬ SaysTogether s w value
no_together w value is_no _ _ _ _ _ _ _ _ (settings.Seals n) says = is_no says.0
no_together w value _ is_no _ _ _ _ _ _ _ (settings.Workers n) says = is_no says.0
no_together w value _ _ is_no _ _ _ _ _ _ (settings.Expect n) says = is_no says.0
no_together w value _ _ _ is_no _ _ _ _ _ (settings.Stop n) says = is_no says.0
no_together w value _ _ _ _ is_no _ _ _ _ (settings.All n) says = is_no says.0
no_together w value _ _ _ _ _ is_no _ _ _ (settings.Every n) says = is_no says.0
no_together w value _ _ _ _ _ _ is_no _ _ (settings.AtLeastReads n) says = is_no says.0
no_together w value _ _ _ _ _ _ _ is_no _ (settings.Color n) says = is_no says.0
no_together w value _ _ _ _ _ _ _ _ is_no settings.Output says = is_no says
no_together w value _ _ _ _ _ _ _ _ _ (settings.Store store) says = says
no_together w value _ _ _ _ _ _ _ _ _ settings.Eager says = says
no_together w value _ _ _ _ _ _ _ _ _ settings.Lines says = says
no_together w value _ _ _ _ _ _ _ _ _ settings.SkipBlank says = says
no_together w value _ _ _ _ _ _ _ _ _ settings.Long says = says
no_together w value _ _ _ _ _ _ _ _ _ settings.Json says = says
no_together w value _ _ _ _ _ _ _ _ _ settings.Certificates says = says
no_together w value _ _ _ _ _ _ _ _ _ settings.Svg says = says
no_together w value _ _ _ _ _ _ _ _ _ settings.Html says = says
no_together w value _ _ _ _ _ _ _ _ _ settings.Events says = says
no_together w value _ _ _ _ _ _ _ _ _ settings.Names says = says
no_together w value _ _ _ _ _ _ _ _ _ settings.Notes says = says
no_together w value _ _ _ _ _ _ _ _ _ settings.Why says = says
no_together w value _ _ _ _ _ _ _ _ _ settings.Summary says = says
no_together w value _ _ _ _ _ _ _ _ _ settings.Progress says = says

-- the name of an option begins with a hyphen
pub together_dashed : (s : Setting) (w value : Text) → SaysTogether s w value → is_bare w ≡ false
together_dashed (settings.Seals n) w value says = ap is_bare says.0
together_dashed (settings.Workers n) w value says = ap is_bare says.0
together_dashed (settings.Stop n) w value says = ap is_bare says.0
together_dashed (settings.Expect n) w value says = ap is_bare says.0
together_dashed (settings.All n) w value says = ap is_bare says.0
together_dashed (settings.Every n) w value says = ap is_bare says.0
together_dashed (settings.AtLeastReads n) w value says = ap is_bare says.0
together_dashed (settings.Color n) w value says = ap is_bare says.0
together_dashed settings.Output w value says = ap is_bare says
together_dashed (settings.Store store) w value says = absurd says
together_dashed settings.Eager w value says = absurd says
together_dashed settings.Lines w value says = absurd says
together_dashed settings.SkipBlank w value says = absurd says
together_dashed settings.Long w value says = absurd says
together_dashed settings.Json w value says = absurd says
together_dashed settings.Certificates w value says = absurd says
together_dashed settings.Svg w value says = absurd says
together_dashed settings.Html w value says = absurd says
together_dashed settings.Events w value says = absurd says
together_dashed settings.Names w value says = absurd says
together_dashed settings.Notes w value says = absurd says
together_dashed settings.Why w value says = absurd says
together_dashed settings.Summary w value says = absurd says
together_dashed settings.Progress w value says = absurd says

pub none_said : (w value : Text) (r : Option Setting) → r ≡ None → ((s : Setting) → ¬ SaysTogether s w value)
    → MatchOption r ((s : Setting) → ¬ SaysTogether s w value) (λ s. SaysTogether s w value)
none_said w value r is none =
    subst (λ (o : Option Setting). MatchOption o ((s : Setting) → ¬ SaysTogether s w value) (λ s. SaysTogether s w value)) (sym is) none

-- a word names one command
abbrev command_of : Text → CommandName
command_of word =
    if mark word == 103100106 then commands.Judge else
    if mark word == 99101099 then commands.Check else
    if mark word == 108112101 then commands.Explain else
    if mark word == 117102114 then commands.Refute else
    if mark word == 108112114 then commands.Replay else
    if mark word == 110101101 then commands.Events else commands.Drive

command-read : (c : CommandName) → command_of (command_word c) ≡ c
command-read commands.Judge = refl
command-read commands.Check = refl
command-read commands.Explain = refl
command-read commands.Refute = refl
command-read commands.Replay = refl
command-read commands.Drive = refl
command-read commands.Events = refl

pub command_once : (c d : CommandName) → command_word c ≡ command_word d → c ≡ d
command_once c d same = sym (command-read c) ∙ ap command_of same ∙ command-read d
