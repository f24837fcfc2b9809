-- What a value is of which the parts of a script were read, and why it is refused by its parts.
use Rattle.std.proofs.Common.{◌≡◌, ◌<◌, ◌≤◌, ◌⊎◌, ℕ, zero, suc, List, [], ◌∷◌, Option, Some, None, true, refl, ap, sym, subst, ◌∙◌, arith, inl, inr}
use Rattle.std.proofs.lemmas.Option.{same_Some}
use Rattle.std.specs.Prelude.{◌≢◌, is_some}
use Rattle.model_history.specs.declared.limits.TheConstants.{MAX_SESSIONS}
use Rattle.serde_json.specs.Data.{Data, string}
use Rattle.serde_json.specs.Find.{as_str}
use Rattle.json_histories.specs.Json.{elements, list, whole_number}
use Rattle.json_histories.specs.Laws.Json.{and_then_from, map_from, chosen, as_str-read, whole_number-read, list_from_elements, listed-items_of}
use Rattle.json_histories.specs.ObjectNames.{name_at, text_of}
use Rattle.json_histories.specs.Reads.{number_form}
use Rattle.json_histories.specs.declared.object_name.ObjectName.{ObjectName}
use Rattle.json_histories.specs.declared.object_name.ObjectName.TheVariants as names
use Rattle.live_script.specs.AnyScriptForm.{IsRefusalBy, IsRefusedAs}
use Rattle.live_script.specs.ScriptForm.{Parts, AreParts, IsNumberOfSessions, IsRefusalOf, IsRest, parts_form}
use Rattle.live_script.specs.Steps.ScriptParts.{named_parts, parts_among, parts_at}
use Rattle.live_script.specs.declared.script_error.ScriptError.{ScriptError}
use Rattle.live_script.specs.declared.script_error.ScriptError.TheVariants.{NotJson, BadShape, UnknownObject, BadLimits, BadStep, TooManySteps, BadInitial, Memory}

-- ---- parts

named_parts-read : (n k ss : Data) (rest : List Data) (p : Parts) → named_parts n k ss rest ≡ Some p
    → (n ≡ string p.name) × (k ≡ number_form p.sessions) × (ss ≡ list p.steps) × (rest ≡ p.rest)
named_parts-read n k ss rest p e =
    let text = and_then_from _ (as_str n) p e in
    let number = and_then_from _ (whole_number k) p text.2 in
    let steps = map_from _ (elements ss) p number.2 in
    let same = steps.2 in (
      as_str-read n text.0 text.1 ∙ ap (λ (x : Parts). string x.name) same,
      whole_number-read k number.0 number.1 ∙ ap (λ (x : Parts). number_form x.sessions) same,
      list_from_elements ss steps.0 steps.1 ∙ ap (λ (x : Parts). list x.steps) same,
      ap (λ (x : Parts). x.rest) same,
    )

abbrev IsOf : List Data → Parts → Type 0
IsOf ds p = (list ds ≡ parts_form p) × AreParts p

parts_are : (n k ss : Data) (rest : List Data) (p : Parts) → IsRest rest → named_parts n k ss rest ≡ Some p → IsOf (n ∷ k ∷ ss ∷ rest) p
parts_are n k ss rest p is e =
    let read = named_parts-read n k ss rest p e in
    ((λ i. list (read.0 i ∷ read.1 i ∷ read.2 i ∷ read.3 i)), subst IsRest read.3 is)

one_list : (d : Data) (o : Option (List Data)) → elements d ≡ o → is_some o ≡ true → (ds : List Data) × (d ≡ list ds)
one_list d None has some = absurd cc
one_list d (Some ds) has some = (ds, list_from_elements d ds has)

parts_among-read : (ds : List Data) (p : Parts) → parts_among ds ≡ Some p → IsOf ds p
parts_among-read [] p e = absurd cc
parts_among-read (n ∷ []) p e = absurd cc
parts_among-read (n ∷ k ∷ []) p e = absurd cc
parts_among-read (n ∷ k ∷ ss ∷ []) p e = parts_are n k ss [] p tt e
parts_among-read (n ∷ k ∷ ss ∷ t ∷ []) p e =
    let q = chosen (is_some (elements t)) (named_parts n k ss (t ∷ [])) p e in
    parts_are n k ss (t ∷ []) p (one_list t (elements t) refl q.0) q.1
parts_among-read (n ∷ k ∷ ss ∷ t ∷ d ∷ ds) p e = absurd cc

-- the parts of a form are read from it
pub parts_again : (p : Parts) → AreParts p → parts_at (parts_form p) ≡ Some p
parts_again p are = again p.rest are
  where
    again : (rest : List Data) → IsRest rest
        → parts_at (list (string p.name ∷ number_form p.sessions ∷ list p.steps ∷ rest)) ≡ Some (record { name = p.name; sessions = p.sessions; steps = p.steps; rest = rest })
    again [] is = rw (listed-items_of p.steps) refl
    again (t ∷ []) is = rw (is.1, listed-items_of p.steps) refl
    again (t ∷ e ∷ ds) is = absurd is

module _ (d : Data) where
  pub parts-read : (p : Parts) → parts_at d ≡ Some p → (d ≡ parts_form p) × AreParts p
  parts-read p e =
      let parts = and_then_from parts_among (elements d) p e in
      let are = parts_among-read parts.0 p parts.2 in
      (list_from_elements d parts.0 parts.1 ∙ are.0, are.1)

  pub no_parts : parts_at d ≡ None → (p : Parts) → AreParts p → d ≢ parts_form p
  no_parts none p are same =
      let e : ◌≡◌ {A = Option Parts} None (Some p) = sym none ∙ ap parts_at same ∙ parts_again p are in absurd cc

-- ---- names

name_again : (name : ObjectName) → name_at (text_of name) ≡ Some name
name_again names.Register = refl
name_again names.Counter = refl
name_again names.Set = refl
name_again names.Queue = refl
name_again names.Memory = refl
name_again names.Counters = refl
name_again names.Sets = refl
name_again names.Queues = refl

pub no_name : (text : List ℕ) → name_at text ≡ None → (name : ObjectName) → text ≢ text_of name
no_name text none name same =
    let e : ◌≡◌ {A = Option ObjectName} None (Some name) = sym none ∙ ap name_at same ∙ name_again name in absurd cc

pub one_name : (a b : ObjectName) → text_of a ≡ text_of b → a ≡ b
one_name a b same = same_Some a b (sym (name_again a) ∙ ap name_at same ∙ name_again b)

-- ---- numbers of sessions

pub too_many_sessions : (k : ℕ) → (k ≡ 0) ⊎ ((k ≢ 0) × (MAX_SESSIONS < k)) → ¬ IsNumberOfSessions k
too_many_sessions k (inl none) is = let some = is.0 in omega (arith, none, some)
too_many_sessions k (inr many) is = let few = is.1 in let over = many.1 in omega (arith, few, over)

pub some_sessions : (k : ℕ) → k ≢ 0 → k ≤ MAX_SESSIONS → IsNumberOfSessions k
some_sessions zero some few = absurd (some refl)
some_sessions (suc k) some few = (omega arith, few)

-- ---- refusals

-- the refusals of steps and of starts
abbrev IsBehind : ScriptError → Type 0
IsBehind (BadStep i) = Unit {0}
IsBehind TooManySteps = Unit {0}
IsBehind BadInitial = Unit {0}
IsBehind Memory = Unit {0}
IsBehind _ = ⊥

module _ {S C R : Type 0} (call_form : C → Data) (return_form : R → Data) (is_call : C → Type 0) (k : ℕ)
    (start_form : S → List Data) (is_start has_form : S → Type 0) (steps rest : List Data) where
  behind : (e : ScriptError) → IsRefusalOf call_form return_form is_call k start_form is_start has_form steps rest e → IsBehind e
  behind NotJson refused = refused
  behind BadShape refused = refused
  behind UnknownObject refused = refused
  behind BadLimits refused = refused
  behind (BadStep i) refused = tt
  behind TooManySteps refused = tt
  behind BadInitial refused = tt
  behind Memory refused = tt

is_behind : (name : ObjectName) (k : ℕ) (steps rest : List Data) (e : ScriptError) → IsRefusalBy name k steps rest e → IsBehind e
is_behind names.Register k steps rest e refused = behind _ _ _ k _ _ _ steps rest e refused
is_behind names.Counter k steps rest e refused = behind _ _ _ k _ _ _ steps rest e refused
is_behind names.Set k steps rest e refused = behind _ _ _ k _ _ _ steps rest e refused
is_behind names.Queue k steps rest e refused = behind _ _ _ k _ _ _ steps rest e refused
is_behind names.Memory k steps rest e refused = behind _ _ _ k _ _ _ steps rest e refused
is_behind names.Counters k steps rest e refused = behind _ _ _ k _ _ _ steps rest e refused
is_behind names.Sets k steps rest e refused = behind _ _ _ k _ _ _ steps rest e refused
is_behind names.Queues k steps rest e refused = behind _ _ _ k _ _ _ steps rest e refused

module _ (d : Data) (p : Parts) (form : d ≡ parts_form p) (are : AreParts p) (name : ObjectName) (named : p.name ≡ text_of name)
    (sessions : IsNumberOfSessions p.sessions) where
  pub refused_behind : (e : ScriptError) → IsRefusalBy name p.sessions p.steps p.rest e → IsRefusedAs d e
  refused_behind NotJson refused = is_behind name p.sessions p.steps p.rest NotJson refused
  refused_behind BadShape refused = absurd (is_behind name p.sessions p.steps p.rest BadShape refused)
  refused_behind UnknownObject refused = absurd (is_behind name p.sessions p.steps p.rest UnknownObject refused)
  refused_behind BadLimits refused = absurd (is_behind name p.sessions p.steps p.rest BadLimits refused)
  refused_behind (BadStep i) refused = (p, form, are, (name, named, sessions, refused))
  refused_behind TooManySteps refused = (p, form, are, (name, named, sessions, refused))
  refused_behind BadInitial refused = (p, form, are, (name, named, sessions, refused))
  refused_behind Memory refused = tt
