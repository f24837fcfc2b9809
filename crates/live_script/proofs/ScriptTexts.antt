-- What is read of a text, or why it is refused, by the parts that are seen of its value.
use Rattle.std.proofs.Common.{◌≡◌, ◌≢◌, ℕ, List, Option, Some, None, Result, Ok, Err, refl, ap, sym, subst, ◌∙◌}
use Rattle.std.specs.Prelude.{IfOk, IfErr, MatchResult, option_map}
use Rattle.serde_json.specs.Data.{Data}
use Rattle.json_histories.specs.AnyForm.{IsJson}
use Rattle.json_histories.specs.Laws.Json.{map_from}
use Rattle.json_histories.specs.ObjectNames.{text_of}
use Rattle.json_histories.specs.declared.object_name.ObjectName.{ObjectName}
use Rattle.live_script.specs.declared.any_script.AnyScript.{AnyScript}
use Rattle.live_script.specs.declared.script_error.ScriptError.{ScriptError}
use Rattle.live_script.specs.declared.script_error.ScriptError.TheVariants.{NotJson, BadShape, UnknownObject, BadLimits, BadStep, TooManySteps, BadInitial, Memory}
use Rattle.live_script.specs.declared.script_place.ScriptPlace.TheVariants.{Whole}
use Rattle.live_script.specs.AnyScriptForm.{IsRefusalBy, IsRefusedAs, IsRefusedFor}
use Rattle.live_script.specs.ScriptForm.{Parts, AreParts, IsNumberOfSessions, parts_form}
use Rattle.live_script.specs.Shortened.{IsKeptFrom}
use Rattle.live_script.specs.Steps.ScriptParts.{parts_at}
use Rattle.live_script.specs.Steps.ScriptsRead.{IsAnyKept, rest_seen}
use Rattle.live_script.proofs.CutScripts.{cut_at, parts_cut, parts_seen}
use Rattle.live_script.proofs.ScriptForms.{parts-read, refused_behind}

text_refused : (text : List ℕ) (d : Data) (e : ScriptError) → IsJson text d → IsRefusedAs d e → IsRefusedFor text e
text_refused text d NotJson json refused = absurd refused
text_refused text d Memory json refused = tt
text_refused text d BadShape json refused = (d, json, refused)
text_refused text d UnknownObject json refused = (d, json, refused)
text_refused text d BadLimits json refused = (d, json, refused)
text_refused text d (BadStep i) json refused = (d, json, refused)
text_refused text d TooManySteps json refused = (d, json, refused)
text_refused text d BadInitial json refused = (d, json, refused)

none_there : (o : Option Parts) → option_map parts_seen o ≡ None → o ≡ None
none_there None none = refl
none_there (Some p) none = absurd cc

module _ (text : List ℕ) (seen : Data) (read : (d : Data) × IsJson text d × (seen ≡ cut_at Whole d)) where
  -- the parts that are seen are seen of the parts of the text
  pub parts_there : (q : Parts) → parts_at seen ≡ Some q → (p : Parts) × (read.0 ≡ parts_form p) × AreParts p × (parts_seen p ≡ q)
  parts_there q found =
      let there = map_from parts_seen (parts_at read.0) q (sym (parts_cut read.0) ∙ ap parts_at (sym read.2) ∙ found) in
      let parts = parts-read read.0 there.0 there.1 in
      (there.0, parts.0, parts.1, there.2)

  module _ (q : Parts) (found : parts_at seen ≡ Some q) where
    abbrev there : (p : Parts) × (read.0 ≡ parts_form p) × AreParts p × (parts_seen p ≡ q)
    there = parts_there q found

    same_name : q.name ≡ there.0.name
    same_name = ap (λ (p : Parts). p.name) (sym there.3)

    same_sessions : q.sessions ≡ there.0.sessions
    same_sessions = ap (λ (p : Parts). p.sessions) (sym there.3)

    pub unknown_object : ((name : ObjectName) → q.name ≢ text_of name) → IsRefusedFor text UnknownObject
    unknown_object none = (read.0, read.1, (there.0, there.1, there.2, λ name is. none name (same_name ∙ is)))

    module _ (name : ObjectName) (named : q.name ≡ text_of name) where
      pub bad_limits : ¬ IsNumberOfSessions q.sessions → IsRefusedFor text BadLimits
      bad_limits none =
          (read.0, read.1, (there.0, there.1, there.2, (name, sym same_name ∙ named, subst (λ (k : ℕ). ¬ IsNumberOfSessions k) same_sessions none)))

      -- what is read by the name
      module _ (sessions : ℕ) (is : IsNumberOfSessions sessions) (many : q.sessions ≡ sessions) (rest : List Data) (after : rest ≡ q.rest) (result : Result AnyScript ScriptError)
          (by_parts : (p : Parts) → IsJson text (parts_form p) → p.name ≡ text_of name → p.sessions ≡ sessions → rest ≡ rest_seen p.rest
          → MatchResult result (IsAnyKept p) (IsRefusalBy name sessions p.steps p.rest)) where
        answer : MatchResult result (IsAnyKept there.0) (IsRefusalBy name sessions there.0.steps there.0.rest)
        answer =
            by_parts there.0 (subst (IsJson text) there.1 read.1) (sym same_name ∙ named) (sym same_sessions ∙ many)
            (after ∙ ap (λ (p : Parts). p.rest) (sym there.3))

        kept_there : (r : Result AnyScript ScriptError) → MatchResult r (IsAnyKept there.0) (IsRefusalBy name sessions there.0.steps there.0.rest) → IfOk r (IsKeptFrom text)
        kept_there (Ok kept) found =
            (found.0, subst (IsJson text) (there.1 ∙ ap parts_form found.2) read.1, found.1, found.3)
        kept_there (Err e) refused = tt

        refused_there : (r : Result AnyScript ScriptError) → MatchResult r (IsAnyKept there.0) (IsRefusalBy name sessions there.0.steps there.0.rest) → IfErr r (IsRefusedFor text)
        refused_there (Ok kept) found = tt
        refused_there (Err e) refused =
            let count : there.0.sessions ≡ sessions = sym same_sessions ∙ many in
            text_refused text read.0 e read.1
            (refused_behind read.0 there.0 there.1 there.2 name (sym same_name ∙ named) (subst IsNumberOfSessions (sym count) is) e
            (subst (λ (k : ℕ). IsRefusalBy name k there.0.steps there.0.rest e) (sym count) refused))

        pub script_read : IfOk result (IsKeptFrom text)
        script_read = kept_there result answer

        pub script_refused : IfErr result (IsRefusedFor text)
        script_refused = refused_there result answer
