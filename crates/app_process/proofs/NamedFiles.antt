-- The files that words name: they are one list, and it can't be that they are none.
use Rattle.std.specs.Prelude.{◌≡◌, List, [], ◌∷◌, Bool, true, false, refl}
use Rattle.std.proofs.Common.{inl, inr, ap, sym, ◌∙◌}
use Rattle.clap.specs.Words.{Text}
use Rattle.app_command_line.specs.Options.{AreFiles, SaysAlone, is_bare}
use Rattle.app_command_line.specs.declared.settings.Setting.{Setting}
use Rattle.app_process.specs.Process.{NameSeveral, are_several}

-- the words after a word that says nothing name no list of files: then neither do they with that word before them
after_bare : (word : Text) (words : List Text) (bare : Bool) → is_bare word ≡ bare → ((setting : Setting) → ¬ SaysAlone setting word)
    → (((files : List Text) → ¬ AreFiles true words files) → ⊥) → (((files : List Text) → ¬ AreFiles false words files) → ⊥)
    → ((files : List Text) → ¬ AreFiles false (word ∷ words) files) → ⊥
after_bare word words true bare silent after_name after_file none =
    after_file (λ files are. none (word ∷ files) (inr (inr ((bare, silent), files, refl, are))))
after_bare word words false bare silent after_name after_file none = after_name (λ files are. none files (inr (inl (silent, bare, are))))

some_files : (after_name : Bool) (words : List Text) → ((files : List Text) → ¬ AreFiles after_name words files) → ⊥
some_files after_name [] none = none [] refl
some_files true (value ∷ words) none = some_files false words none
some_files false (word ∷ words) none =
    let silent : (setting : Setting) → ¬ SaysAlone setting word =
    λ setting says. some_files false words (λ files are. none files (inl (setting, says, are))) in
    after_bare word words (is_bare word) refl silent (some_files true words) (some_files false words) none

same_files : (after_name : Bool) (words one other : List Text) → AreFiles after_name words one → AreFiles after_name words other → one ≡ other
same_files after_name [] one other e f = e ∙ sym f
same_files true (value ∷ words) one other e f = same_files false words one other e f
same_files false (word ∷ words) one other (inl (setting, says, e)) (inl (again, says_too, f)) = same_files false words one other e f
same_files false (word ∷ words) one other (inl (setting, says, e)) (inr (inl (silent, bare, f))) = absurd (silent setting says)
same_files false (word ∷ words) one other (inl (setting, says, e)) (inr (inr ((bare, silent), later, is, f))) = absurd (silent setting says)
same_files false (word ∷ words) one other (inr (inl (silent, bare, e))) (inl (setting, says, f)) = absurd (silent setting says)
same_files false (word ∷ words) one other (inr (inl (silent, bare, e))) (inr (inl (silent_too, bare_too, f))) = same_files true words one other e f
same_files false (word ∷ words) one other (inr (inl (silent, bare, e))) (inr (inr ((bare_too, silent_too), later, is, f))) = cc
same_files false (word ∷ words) one other (inr (inr ((bare, silent), later, is, e))) (inl (setting, says, f)) = absurd (silent setting says)
same_files false (word ∷ words) one other (inr (inr ((bare, silent), later, is, e))) (inr (inl (silent_too, bare_too, f))) = cc
same_files false (word ∷ words) one other (inr (inr ((bare, silent), first, is, e))) (inr (inr ((bare_too, silent_too), second, is_too, f))) =
    is ∙ (ap (λ later. word ∷ later) (same_files false words first second e f) ∙ sym is_too)

-- words that name a file first, and then those of the rest
abbrev pub NamesFirst : List Text → Text → List Text → Type 0
NamesFirst words name rest = (later : List Text) → AreFiles false rest later → AreFiles false words (name ∷ later)

no_cons : (name : Text) (later : List Text) → name ∷ later ≡ [] → ⊥
no_cons name later e = cc

pub names_first : (words rest : List Text) (name : Text) → NamesFirst words name rest → ¬ AreFiles false words []
names_first words rest name next none =
    some_files false rest (λ later are. no_cons name later (same_files false words (name ∷ later) [] (next later are) none))

-- they name none, one, or several
pub names_none : (words : List Text) → AreFiles false words [] → NameSeveral words false
names_none words none files are = ap are_several (same_files false words [] files none are)

pub names_one : (words rest : List Text) (name : Text) → NamesFirst words name rest → AreFiles false rest [] → NameSeveral words false
names_one words rest name next none files are = ap are_several (same_files false words (name ∷ []) files (next [] none) are)

two_or_more : (words rest last : List Text) (first second : Text) → NamesFirst words first rest → NamesFirst rest second last
    → (files : List Text) → AreFiles false words files → are_several files ≡ false → ⊥
two_or_more words rest last first second next further files are few =
    let never : (later : List Text) → ¬ AreFiles false last later = λ later are_later.
    let same = ap are_several (same_files false words files (first ∷ second ∷ later) are (next (second ∷ later) (further later are_later))) in
    let bad : true ≡ false = sym same ∙ few in cc in
    some_files false last never

is_true : (b : Bool) → (b ≡ false → ⊥) → true ≡ b
is_true true never = refl
is_true false never = absurd (never refl)

pub names_several : (words rest last : List Text) (first second : Text) → NamesFirst words first rest → NamesFirst rest second last
    → NameSeveral words true
names_several words rest last first second next further files are =
    is_true (are_several files) (two_or_more words rest last first second next further files are)
