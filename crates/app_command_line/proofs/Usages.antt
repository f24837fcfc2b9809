-- What is said of words is said of a fault among those that `clap` finds.
use Rattle.std.proofs.Common.{◌≡◌, ◌≢◌, Global, List, [], ◌∷◌, inl, inr, subst, sym}
use Rattle.std.specs.Prelude.{IfErr, IfOk, MatchResult, Result, Ok, Err, String, string_bytes}
use Rattle.clap.specs.Words.{FailsBy, HasKind, IsAmong, Kinds, Text, kind_of}
use Rattle.clap.specs.declared.Error.{Error}
use Rattle.clap.specs.declared.error.kind.ErrorKind.{ErrorKind}
use Rattle.clap.specs.declared.error.kind.ErrorKind.TheVariants.{DisplayHelp, DisplayVersion, OutOfMemory}
use Rattle.app_command_line.specs.declared.command.Usage.{Usage}
use Rattle.app_command_line.specs.declared.command.Usage.TheVariants.{Fault, Help, Memory}
use Rattle.app_command_line.specs.CommandLine.{IsFault, IsTopicUsage, IsUsageBy, IsUsageFor, IsUsageOf}
use Rattle.app_command_line.specs.Misuses.{IsMisuse}
use Rattle.app_command_line.specs.Shown.{AsksForTopic, IsHelpFor, IsTopicText, version_text}

pub usage_among : (kinds : Kinds) (words : List Text) (e : Error) (u : Usage) → HasKind kinds e → IsUsageOf (kind_of e) words u → IsUsageBy kinds words u
usage_among kinds words e (Help text) (inl memory) (inl help) = absurd (let of_help = help.0 in cc)
usage_among kinds words e (Help text) (inl memory) (inr version) = absurd (let of_version = version.0 in cc)
usage_among kinds words e (Help text) (inr among) (inl help) = inl (subst (λ (kind : ErrorKind). IsAmong kind kinds) help.0 among, help.1)
usage_among kinds words e (Help text) (inr among) (inr version) = inr (subst (λ (kind : ErrorKind). IsAmong kind kinds) version.0 among, version.1)
usage_among kinds words e (Fault text) (inl memory) fault = absurd (fault.1 memory)
usage_among kinds words e (Fault text) (inr among) fault = inr (kind_of e, among, fault.0)
usage_among kinds words e Memory has any = tt

-- where `clap` finds no fault, the fault that the program finds is said
pub said_without_fault : (kinds : Kinds) (words : List Text) (u : Usage) → kinds ≡ [] → IsMisuse words u → IsUsageBy kinds words u
said_without_fault kinds words (Help text) none fault = absurd fault
said_without_fault kinds words (Fault text) none fault = inl (none, fault)
said_without_fault kinds words Memory none fault = tt

-- a text that is shown where there is memory for it
pub shown_help : {E : Type 0} (kind : ErrorKind) (words : List Text) (r : Result (String Global) E) (u : Usage) → kind ≡ DisplayHelp → IfOk r (λ t. IsHelpFor words (string_bytes t))
    → MatchResult r (λ t. u ≡ Help t) (λ e. u ≡ Memory) → IsUsageOf kind words u
shown_help kind words (Ok t) u is holds shows = subst (λ (x : Usage). IsUsageOf kind words x) (sym shows) (inl (is, holds))
shown_help kind words (Err e) u is holds shows = subst (λ (x : Usage). IsUsageOf kind words x) (sym shows) tt

pub shown_version : {E : Type 0} (kind : ErrorKind) (words : List Text) (r : Result (String Global) E) (u : Usage) → kind ≡ DisplayVersion → IfOk r (λ t. string_bytes t ≡ version_text)
    → MatchResult r (λ t. u ≡ Help t) (λ e. u ≡ Memory) → IsUsageOf kind words u
shown_version kind words (Ok t) u is holds shows = subst (λ (x : Usage). IsUsageOf kind words x) (sym shows) (inr (is, holds))
shown_version kind words (Err e) u is holds shows = subst (λ (x : Usage). IsUsageOf kind words x) (sym shows) tt

asks_for_topic : (words : List Text) (text : Text) → IsTopicText words text → AsksForTopic words
asks_for_topic [] text is = is
asks_for_topic (p ∷ []) text is = is
asks_for_topic (p ∷ w ∷ []) text is = is
asks_for_topic (p ∷ w ∷ t ∷ []) text is = (is.0, elim is.1 [ inl forms ↦ inl forms.0 | inr refusals ↦ inr refusals.0 ])
asks_for_topic (p ∷ w ∷ t ∷ x ∷ ws) text is = is

pub shown_topic : {E : Type 0} (kinds : Kinds) (words : List Text) (text : Text) (r : Result (String Global) E) (u : Usage) → IsTopicText words text → IfOk r (λ t. string_bytes t ≡ text)
    → MatchResult r (λ t. u ≡ Help t) (λ e. u ≡ Memory) → IsUsageFor kinds words u
shown_topic kinds words text (Ok t) u is holds shows =
    inl (asks_for_topic words text is, subst (λ (x : Usage). IsTopicUsage words x) (sym shows) (subst (λ (x : Text). IsTopicText words x) (sym holds) is))
shown_topic kinds words text (Err e) u is holds shows = inl (asks_for_topic words text is, subst (λ (x : Usage). IsTopicUsage words x) (sym shows) tt)

-- a fault that is no request
pub said_of_fault : (kind : ErrorKind) (words : List Text) (u : Usage) → kind ≢ OutOfMemory → kind ≢ DisplayHelp → kind ≢ DisplayVersion → IsFault u → IsUsageOf kind words u
said_of_fault kind words (Help text) memory help version fault = absurd fault
said_of_fault kind words (Fault text) memory help version fault = (λ request. elim request [ inl is ↦ help is | inr is ↦ version is ], memory)
said_of_fault kind words Memory memory help version fault = tt

-- what is taken has no fault
pub taken_without_fault : {T : Type 0} (kinds : Kinds) (r : Result T Error) → FailsBy kinds r → IfOk r (λ _. kinds ≡ [])
taken_without_fault kinds (Ok m) fails = fails
taken_without_fault kinds (Err e) fails = tt

-- what is not taken has a kind of fault
pub refused_by_a_kind : {T : Type 0} (kinds : Kinds) (r : Result T Error) → FailsBy kinds r → IfErr r (HasKind kinds)
refused_by_a_kind kinds (Ok m) fails = tt
refused_by_a_kind kinds (Err e) fails = fails
