-- What can come of one script, and what cannot come of it beside that.
use Rattle.std.proofs.Common.{◌≡◌, ◌<◌, ◌≤◌, ◌+◌, ◌⊎◌, ℕ, zero, suc, List, [], ◌∷◌, Bool, false, Some, length, map, take, refl, sym, ap, subst, ◌∙◌, arith, inl, inr}
use Rattle.std.specs.Prelude.{◌≢◌, codes, nat_eq, option_map, slice_get, unwrap_or, if◌then◌else◌}
use Rattle.std.specs.Option.{option_map_or}
use Rattle.std.specs.Cmp.Lexicographic.{pointwise}
use Rattle.std.proofs.lemmas.Bool.{cases_lt}
use Rattle.std.proofs.lemmas.List.{length-append, length-replicate}
use Rattle.std.proofs.lemmas.List.Elements.{All-get_or}
use Rattle.std.proofs.lemmas.Option.{same_Some, slice_get-map, slice_get_within, get_or_from_slice_get}
use Rattle.serde_json.specs.Data.{Data, string}
use Rattle.serde_json.specs.Find.{as_str}
use Rattle.json_histories.specs.AnyForm.{IsJson}
use Rattle.json_histories.specs.Json.{elements, list, whole_number}
use Rattle.json_histories.specs.ObjectNames.{text_of}
use Rattle.json_histories.specs.Reads.{number_form}
use Rattle.json_histories.specs.RegisterForm as register
use Rattle.json_histories.specs.Spelling.{entry_form, no_start_form, plain_start_form, table_form}
use Rattle.json_histories.specs.declared.object_name.ObjectName.{ObjectName}
use Rattle.json_histories.specs.declared.object_name.ObjectName.TheVariants as names
use Rattle.json_histories.specs.Laws.Json.{elements-list, map_from}
use Rattle.live_simulation.specs.declared.step.StepOf.TheVariants.{Begin, End, Start, Look, Show, File, Take, Work, Put, Refute, Ask}
use Rattle.live_script.specs.declared.script_error.ScriptError.{ScriptError}
use Rattle.live_script.specs.declared.script_error.ScriptError.TheVariants.{NotJson, BadShape, UnknownObject, BadLimits, BadStep, TooManySteps, BadInitial, Memory}
use Rattle.live_script.specs.declared.written_step.WrittenStep.{WrittenStep}
use Rattle.live_script.specs.declared.written_step.WrittenStep.TheVariants.{Once, StartUntold, Looks}
use Rattle.live_script.specs.AnyScriptForm.{IsAnyScript, IsRefusalBy, IsRefusedAs, IsRefusedFor, form_of, parts_of}
use Rattle.live_script.specs.declared.any_script.AnyScript.{AnyScript}
use Rattle.live_script.specs.declared.any_script.AnyScript.TheVariants as scripts
use Rattle.live_script.proofs.ScriptForms.{one_name}
use Rattle.live_script.specs.ScriptForm.{AreParts, IsNumberOfSessions, IsRest, IsScript, Parts, ScriptValue, parts_form, AreFine, AreForms, AreTooMany, IsBadAt, IsNoForm, IsRefusalOf}
use Rattle.app_engine.specs.Failure.{script_status}
use Rattle.live_script.specs.StepForm.{IsWritten, steps_of, written_form, written_out}

-- ---- how many steps a value stands for, where it is the form of one

abbrev is_look : Data → Bool
is_look d = option_map_or (λ word. pointwise nat_eq word (codes "look")) (as_str d) false

abbrev count_among : List Data → ℕ
count_among (w ∷ z ∷ n ∷ []) = if is_look w then unwrap_or (whole_number n) 1 else 1
count_among _ = 1

abbrev count_at : Data → ℕ
count_at d = option_map_or count_among (elements d) 1

abbrev total : List Data → ℕ
total [] = 0
total (d ∷ ds) = count_at d + total ds

first_few : (m n : ℕ) (ds : List Data) → m ≤ n → total (take m ds) ≤ total (take n ds)
first_few zero n ds few = omega arith
first_few (suc m) zero ds few = absurd (omega arith)
first_few (suc m) (suc n) [] few = omega arith
first_few (suc m) (suc n) (d ∷ ds) few = let rest : total (take m ds) ≤ total (take n ds) = first_few m n ds (omega arith) in omega (arith, rest)

first_of_all : (n : ℕ) (ds : List Data) → total (take n ds) ≤ total ds
first_of_all zero ds = omega arith
first_of_all (suc n) [] = omega arith
first_of_all (suc n) (d ∷ ds) = let rest = first_of_all n ds in omega (arith, rest)

slice_get-first : (n i : ℕ) (ds : List Data) → i < n → slice_get (take n ds) i ≡ slice_get ds i
slice_get-first zero i ds within = absurd (omega arith)
slice_get-first (suc n) i [] within = refl
slice_get-first (suc n) zero (d ∷ ds) within = refl
slice_get-first (suc n) (suc i) (d ∷ ds) within = slice_get-first n i ds (omega arith)

module _ {C R : Type 0} (call_form : C → Data) (return_form : R → Data) (k : ℕ) where
  count_form : (step : WrittenStep C R) → count_at (written_form call_form return_form step) ≡ length (steps_of k step)
  count_form (Once (Begin s c)) = refl
  count_form (Once (End s r)) = refl
  count_form (Once (Start told)) = refl
  count_form (Once (Look z)) = refl
  count_form (Once (Show z)) = refl
  count_form (Once (File z criterion certificate)) = refl
  count_form (Once Take) = refl
  count_form (Once (Work c o)) = refl
  count_form (Once (Put c v)) = refl
  count_form (Once (Refute c pattern)) = refl
  count_form (Once (Ask c)) = refl
  count_form StartUntold = refl
  count_form (Looks z n) = sym (length-replicate n (Look z))

  total_forms : (steps : List (WrittenStep C R)) → total (map (written_form call_form return_form) steps) ≡ length (written_out k steps)
  total_forms [] = refl
  total_forms (step ∷ steps) =
      let here = count_form step in
      let rest = total_forms steps in
      let sum = length-append (steps_of k step) (written_out k steps) in
      omega (arith, here, rest, sum)

  module _ (is_call : C → Type 0) where
    counted : (ds : List Data) (steps : List (WrittenStep C R)) → AreForms call_form return_form is_call k ds steps → total ds ≡ length (written_out k steps)
    counted ds steps are = ap total are.0 ∙ total_forms steps

    -- a value among forms is the form of a step
    form_there : (ds : List Data) (steps : List (WrittenStep C R)) → AreForms call_form return_form is_call k ds steps → (i : ℕ) (d : Data)
        → slice_get ds i ≡ Some d → ¬ IsNoForm call_form return_form is_call k d
    form_there ds steps are i d here none =
        let at : option_map (written_form call_form return_form) (slice_get steps i) ≡ Some d =
        sym (slice_get-map (written_form call_form return_form) steps i) ∙ ap (λ (x : List Data). slice_get x i) (sym are.0) ∙ here in
        let one = map_from (written_form call_form return_form) (slice_get steps i) d at in
        let written : IsWritten is_call k one.0 = subst (IsWritten is_call k) (get_or_from_slice_get steps i one.0 one.0 one.1)
        (All-get_or (IsWritten is_call k) steps i one.0 (slice_get_within steps i one.0 one.1) are.1) in
        none one.0 written (sym one.2)

    module _ (ds : List Data) where
      -- steps that are fine are not refused
      fine_not_bad : (i : ℕ) → AreFine call_form return_form is_call k ds → ¬ IsBadAt call_form return_form is_call k ds i
      fine_not_bad i fine bad = form_there ds fine.0 fine.1 i bad.1 bad.4 bad.5

      fine_not_many : AreFine call_form return_form is_call k ds → ¬ AreTooMany call_form return_form is_call k ds
      fine_not_many fine many =
          let all = counted ds fine.0 fine.1 in
          let first = counted (take many.0 ds) many.1 many.2 in
          let part = first_of_all many.0 ds in
          let few = fine.2 in
          let over = many.3 in
          absurd (omega (arith, all, first, part, few, over))

      -- and are refused in one way
      bad_not_many : (i : ℕ) → IsBadAt call_form return_form is_call k ds i → ¬ AreTooMany call_form return_form is_call k ds
      bad_not_many i bad many =
          elim (cases_lt i many.0) [
            | inl before ↦ form_there (take many.0 ds) many.1 many.2 i bad.1 (slice_get-first many.0 i ds before ∙ bad.4) bad.5
            | inr behind ↦
                let first = counted (take i ds) bad.0 bad.2 in
                let some = counted (take many.0 ds) many.1 many.2 in
                let part = first_few many.0 i ds behind in
                let few = bad.3 in
                let over = many.3 in
                absurd (omega (arith, first, some, part, few, over))
          ]

      not_before : (i j : ℕ) → IsBadAt call_form return_form is_call k ds i → IsBadAt call_form return_form is_call k ds j → ¬ (i < j)
      not_before i j first second before =
          form_there (take j ds) second.0 second.2 i first.1 (slice_get-first j i ds before ∙ first.4) first.5

      one_place : (i j : ℕ) → IsBadAt call_form return_form is_call k ds i → IsBadAt call_form return_form is_call k ds j → i ≡ j
      one_place i j first second =
          elim (cases_lt i j) [
            | inl before ↦ absurd (not_before i j first second before)
            | inr behind ↦ elim (cases_lt j i) [
              | inl before ↦ absurd (not_before j i second first before)
              | inr same ↦ omega (arith, behind, same)
            ]
          ]

-- ---- refusals behind the name of an object

-- the refusals of steps and of starts, but for want of memory
abbrev IsBehind : ScriptError → Type 0
IsBehind (BadStep i) = Unit {0}
IsBehind TooManySteps = Unit {0}
IsBehind BadInitial = Unit {0}
IsBehind _ = ⊥

module _ {S C R : Type 0} (call_form : C → Data) (return_form : R → Data) (is_call : C → Type 0) (k : ℕ)
    (start_form : S → List Data) (is_start has_form : S → Type 0) (ds rest : List Data) where
  once : (e f : ScriptError) → IsBehind e → IsBehind f → IsRefusalOf call_form return_form is_call k start_form is_start has_form ds rest e
      → IsRefusalOf call_form return_form is_call k start_form is_start has_form ds rest f → e ≡ f
  once (BadStep i) (BadStep j) one two first second = ap BadStep (one_place call_form return_form k is_call ds i j first second)
  once (BadStep i) TooManySteps one two first second = absurd (bad_not_many call_form return_form k is_call ds i first second)
  once (BadStep i) BadInitial one two first second = absurd (fine_not_bad call_form return_form k is_call ds i second.0 first)
  once TooManySteps (BadStep j) one two first second = absurd (bad_not_many call_form return_form k is_call ds j second first)
  once TooManySteps TooManySteps one two first second = refl
  once TooManySteps BadInitial one two first second = absurd (fine_not_many call_form return_form k is_call ds second.0 first)
  once BadInitial (BadStep j) one two first second = absurd (fine_not_bad call_form return_form k is_call ds j first.0 second)
  once BadInitial TooManySteps one two first second = absurd (fine_not_many call_form return_form k is_call ds first.0 second)
  once BadInitial BadInitial one two first second = refl
  once NotJson f one two first second = absurd one
  once BadShape f one two first second = absurd one
  once UnknownObject f one two first second = absurd one
  once BadLimits f one two first second = absurd one
  once Memory f one two first second = absurd one
  once e NotJson one two first second = absurd two
  once e BadShape one two first second = absurd two
  once e UnknownObject one two first second = absurd two
  once e BadLimits one two first second = absurd two
  once e Memory one two first second = absurd two

  not_refused : AreFine call_form return_form is_call k ds → (start : S) → is_start start → has_form start → rest ≡ start_form start → (e : ScriptError)
      → IsBehind e → IsRefusalOf call_form return_form is_call k start_form is_start has_form ds rest e → ⊥
  not_refused all start is has form (BadStep i) behind refused = fine_not_bad call_form return_form k is_call ds i all refused
  not_refused all start is has form TooManySteps behind refused = fine_not_many call_form return_form k is_call ds all refused
  not_refused all start is has form BadInitial behind refused = refused.1 start is has form
  not_refused all start is has form NotJson behind refused = behind
  not_refused all start is has form BadShape behind refused = behind
  not_refused all start is has form UnknownObject behind refused = behind
  not_refused all start is has form BadLimits behind refused = behind
  not_refused all start is has form Memory behind refused = behind

module _ {S C R : Type 0} (call_form : C → Data) (return_form : R → Data) (is_call : C → Type 0)
    (start_form : S → List Data) (is_start has_form : S → Type 0) where
  fine : (s : ScriptValue S C R) → IsScript is_call is_start has_form s → (e : ScriptError) → IsBehind e
      → IsRefusalOf call_form return_form is_call s.sessions start_form is_start has_form (map (written_form call_form return_form) s.steps) (start_form s.start) e → ⊥
  fine s is e behind refused =
      not_refused call_form return_form is_call s.sessions start_form is_start has_form (map (written_form call_form return_form) s.steps) (start_form s.start)
      (s.steps, (refl, is.each), is.few) s.start is.start is.start_form refl e behind refused

once_by : (name : ObjectName) (k : ℕ) (ds rest : List Data) (e f : ScriptError) → IsBehind e → IsBehind f → IsRefusalBy name k ds rest e → IsRefusalBy name k ds rest f → e ≡ f
once_by names.Register k ds rest e f one two first second = once _ _ _ k _ _ _ ds rest e f one two first second
once_by names.Counter k ds rest e f one two first second = once _ _ _ k _ _ _ ds rest e f one two first second
once_by names.Set k ds rest e f one two first second = once _ _ _ k _ _ _ ds rest e f one two first second
once_by names.Queue k ds rest e f one two first second = once _ _ _ k _ _ _ ds rest e f one two first second
once_by names.Memory k ds rest e f one two first second = once _ _ _ k _ _ _ ds rest e f one two first second
once_by names.Counters k ds rest e f one two first second = once _ _ _ k _ _ _ ds rest e f one two first second
once_by names.Sets k ds rest e f one two first second = once _ _ _ k _ _ _ ds rest e f one two first second
once_by names.Queues k ds rest e f one two first second = once _ _ _ k _ _ _ ds rest e f one two first second

abbrev object_of : AnyScript → ObjectName
object_of (scripts.Register s) = names.Register
object_of (scripts.Counter s) = names.Counter
object_of (scripts.Set s) = names.Set
object_of (scripts.Queue s) = names.Queue
object_of (scripts.Memory s) = names.Memory
object_of (scripts.Counters s) = names.Counters
object_of (scripts.Sets s) = names.Sets
object_of (scripts.Queues s) = names.Queues

named_so : (s : AnyScript) → (parts_of s).name ≡ text_of (object_of s)
named_so (scripts.Register s) = refl
named_so (scripts.Counter s) = refl
named_so (scripts.Set s) = refl
named_so (scripts.Queue s) = refl
named_so (scripts.Memory s) = refl
named_so (scripts.Counters s) = refl
named_so (scripts.Sets s) = refl
named_so (scripts.Queues s) = refl

may_have_so_many : (s : AnyScript) → IsAnyScript s → IsNumberOfSessions (parts_of s).sessions
may_have_so_many (scripts.Register s) is = is.sessions
may_have_so_many (scripts.Counter s) is = is.sessions
may_have_so_many (scripts.Set s) is = is.sessions
may_have_so_many (scripts.Queue s) is = is.sessions
may_have_so_many (scripts.Memory s) is = is.sessions
may_have_so_many (scripts.Counters s) is = is.sessions
may_have_so_many (scripts.Sets s) is = is.sessions
may_have_so_many (scripts.Queues s) is = is.sessions

fine_by : (s : AnyScript) → IsAnyScript s → (e : ScriptError) → IsBehind e → ¬ IsRefusalBy (object_of s) (parts_of s).sessions (parts_of s).steps (parts_of s).rest e
fine_by (scripts.Register s) is e behind refused = fine _ _ _ plain_start_form _ _ s is e behind refused
fine_by (scripts.Counter s) is e behind refused = fine _ _ _ plain_start_form _ _ s is e behind refused
fine_by (scripts.Set s) is e behind refused = fine _ _ _ plain_start_form _ _ s is e behind refused
fine_by (scripts.Queue s) is e behind refused = fine _ _ _ plain_start_form _ _ s is e behind refused
fine_by (scripts.Memory s) is e behind refused = fine _ _ _ (table_form register.start_form) _ _ s is e behind refused
fine_by (scripts.Counters s) is e behind refused = fine _ _ _ (table_form no_start_form) _ _ s is e behind refused
fine_by (scripts.Sets s) is e behind refused = fine _ _ _ (table_form no_start_form) _ _ s is e behind refused
fine_by (scripts.Queues s) is e behind refused = fine _ _ _ (table_form no_start_form) _ _ s is e behind refused

-- ---- values and texts

-- the parts of a form are one
record ArePartsOf (p q : Parts) : Type 0 where
  name : p.name ≡ q.name
  sessions : p.sessions ≡ q.sessions
  steps : p.steps ≡ q.steps
  rest : p.rest ≡ q.rest

parts_from : (a b : List ℕ) (j k : ℕ) (ss ts rest more : List Data) → string a ∷ number_form j ∷ list ss ∷ rest ≡ string b ∷ number_form k ∷ list ts ∷ more
    → (a ≡ b) × (j ≡ k) × (ss ≡ ts) × (rest ≡ more)
parts_from a b j k ss ts rest more same =
    let name : string a ≡ string b = cc in
    let number : number_form j ≡ number_form k = cc in
    let steps : list ss ≡ list ts = cc in
    let behind : rest ≡ more = cc in
    (same_Some a b (ap as_str name), same_Some j k (ap whole_number number), same_Some ss ts (sym (elements-list ss) ∙ ap elements steps ∙ elements-list ts), behind)

same_parts : (p q : Parts) → parts_form p ≡ parts_form q → ArePartsOf p q
same_parts p q same =
    let parts = parts_from p.name q.name p.sessions q.sessions p.steps q.steps p.rest q.rest
    (same_Some _ _ (sym (elements-list (string p.name ∷ number_form p.sessions ∷ list p.steps ∷ p.rest)) ∙ ap elements same
    ∙ elements-list (string q.name ∷ number_form q.sessions ∷ list q.steps ∷ q.rest))) in
    record { name = parts.0; sessions = parts.1; steps = parts.2; rest = parts.3 }

-- why parts are refused: no object has the name, or there are no sessions or too many, or the steps or the start are refused
abbrev IsRefusedBehind : Parts → ObjectName → ScriptError → Type 0
IsRefusedBehind p name e =
    ((e ≡ BadLimits) × ¬ IsNumberOfSessions p.sessions) ⊎ (IsBehind e × IsNumberOfSessions p.sessions × IsRefusalBy name p.sessions p.steps p.rest e)

abbrev IsRefusedIn : Parts → ScriptError → Type 0
IsRefusedIn p e =
    ((e ≡ UnknownObject) × ((name : ObjectName) → p.name ≢ text_of name)) ⊎ ((name : ObjectName) × (p.name ≡ text_of name) × IsRefusedBehind p name e)

behind_once : (p : Parts) (name : ObjectName) (e f : ScriptError) → IsRefusedBehind p name e → IsRefusedBehind p name f → e ≡ f
behind_once p name e f (inl a) (inl b) = a.0 ∙ sym b.0
behind_once p name e f (inl a) (inr b) = absurd (a.1 b.1)
behind_once p name e f (inr a) (inl b) = absurd (b.1 a.1)
behind_once p name e f (inr a) (inr b) = once_by name p.sessions p.steps p.rest e f a.0 b.0 a.2 b.2

parts_once : (p : Parts) (e f : ScriptError) → IsRefusedIn p e → IsRefusedIn p f → e ≡ f
parts_once p e f (inl a) (inl b) = a.0 ∙ sym b.0
parts_once p e f (inl a) (inr b) = absurd (a.1 b.0 b.1)
parts_once p e f (inr a) (inl b) = absurd (b.1 a.0 a.1)
parts_once p e f (inr a) (inr b) =
    behind_once p a.0 e f a.2 (subst (λ (n : ObjectName). IsRefusedBehind p n f) (one_name b.0 a.0 (sym b.1 ∙ a.1)) b.2)

moved : (p q : Parts) → ArePartsOf p q → (e : ScriptError) → IsRefusedIn p e → IsRefusedIn q e
moved p q are e refused =
    subst (λ (x : Parts). IsRefusedIn x e)
    (λ i. record { name = are.name i; sessions = are.sessions i; steps = are.steps i; rest = are.rest i }) refused

-- why a value is refused: it has no parts of a script, or its parts are refused
abbrev IsRefusedOf : Data → ScriptError → Type 0
IsRefusedOf d e = ((e ≡ BadShape) × ((p : Parts) → AreParts p → d ≢ parts_form p)) ⊎ ((p : Parts) × (d ≡ parts_form p) × AreParts p × IsRefusedIn p e)

of_value : (d : Data) (e : ScriptError) → IsRefusedAs d e → script_status e ≡ 1 → IsRefusedOf d e
of_value d NotJson refused one = absurd refused
of_value d BadShape refused one = inl (refl, refused)
of_value d UnknownObject refused one = inr (refused.0, refused.1, refused.2, inl (refl, refused.3))
of_value d BadLimits refused one = inr (refused.0, refused.1, refused.2, inr (refused.3.0, refused.3.1, inl (refl, refused.3.2)))
of_value d (BadStep i) refused one = inr (refused.0, refused.1, refused.2, inr (refused.3.0, refused.3.1, inr (tt, refused.3.2, refused.3.3)))
of_value d TooManySteps refused one = inr (refused.0, refused.1, refused.2, inr (refused.3.0, refused.3.1, inr (tt, refused.3.2, refused.3.3)))
of_value d BadInitial refused one = inr (refused.0, refused.1, refused.2, inr (refused.3.0, refused.3.1, inr (tt, refused.3.2, refused.3.3)))
of_value d Memory refused one = absurd (omega arith)

value_once : (d : Data) (e f : ScriptError) → IsRefusedOf d e → IsRefusedOf d f → e ≡ f
value_once d e f (inl a) (inl b) = a.0 ∙ sym b.0
value_once d e f (inl a) (inr b) = absurd (a.1 b.0 b.2 b.1)
value_once d e f (inr a) (inl b) = absurd (b.1 a.0 a.2 a.1)
value_once d e f (inr a) (inr b) = parts_once b.0 e f (moved a.0 b.0 (same_parts a.0 b.0 (sym a.1 ∙ b.1)) e a.3) b.3

table_rest : {S : Type 0} (start_form : S → Data) (table : List (ℕ × S)) → IsRest (table_form start_form table)
table_rest start_form [] = tt
table_rest start_form (entry ∷ table) = (map (entry_form start_form) (entry ∷ table), refl)

are_parts : (s : AnyScript) → AreParts (parts_of s)
are_parts (scripts.Register s) = tt
are_parts (scripts.Counter s) = tt
are_parts (scripts.Set s) = tt
are_parts (scripts.Queue s) = tt
are_parts (scripts.Memory s) = table_rest register.start_form s.start
are_parts (scripts.Counters s) = table_rest no_start_form s.start
are_parts (scripts.Sets s) = table_rest no_start_form s.start
are_parts (scripts.Queues s) = table_rest no_start_form s.start

-- the refusal of a text is that it is no JSON, or one of its value
abbrev IsRefusedText : List ℕ → ScriptError → Type 0
IsRefusedText text e = ((e ≡ NotJson) × ((d : Data) → ¬ IsJson text d)) ⊎ ((d : Data) × IsJson text d × IsRefusedOf d e)

of_text : (text : List ℕ) (e : ScriptError) → IsRefusedFor text e → script_status e ≡ 1 → IsRefusedText text e
of_text text NotJson refused one = inl (refl, refused)
of_text text BadShape refused one = inr (refused.0, refused.1, of_value refused.0 BadShape refused.2 one)
of_text text UnknownObject refused one = inr (refused.0, refused.1, of_value refused.0 UnknownObject refused.2 one)
of_text text BadLimits refused one = inr (refused.0, refused.1, of_value refused.0 BadLimits refused.2 one)
of_text text (BadStep i) refused one = inr (refused.0, refused.1, of_value refused.0 (BadStep i) refused.2 one)
of_text text TooManySteps refused one = inr (refused.0, refused.1, of_value refused.0 TooManySteps refused.2 one)
of_text text BadInitial refused one = inr (refused.0, refused.1, of_value refused.0 BadInitial refused.2 one)
of_text text Memory refused one = absurd (omega arith)

one_value : (text : List ℕ) (d e : Data) → IsJson text d → IsJson text e → d ≡ e
one_value text d e first second = same_Some d e (sym first.1 ∙ second.1)

text_once : (text : List ℕ) (e f : ScriptError) → IsRefusedText text e → IsRefusedText text f → e ≡ f
text_once text e f (inl a) (inl b) = a.0 ∙ sym b.0
text_once text e f (inl a) (inr b) = absurd (a.1 b.0 b.1)
text_once text e f (inr a) (inl b) = absurd (b.1 a.0 a.1)
text_once text e f (inr a) (inr b) =
    value_once b.0 e f (subst (λ (d : Data). IsRefusedOf d e) (one_value text a.0 b.0 a.1 b.1) a.2) b.2

-- the form of a script is not refused
module _ (s : AnyScript) (is : IsAnyScript s) (e : ScriptError) where
  behind_not_refused : (name : ObjectName) → name ≡ object_of s → IsRefusedBehind (parts_of s) name e → ⊥
  behind_not_refused name same (inl b) = b.1 (may_have_so_many s is)
  behind_not_refused name same (inr b) =
      fine_by s is e b.0 (subst (λ (n : ObjectName). IsRefusalBy n (parts_of s).sessions (parts_of s).steps (parts_of s).rest e) same b.2)

  parts_not_refused : IsRefusedIn (parts_of s) e → ⊥
  parts_not_refused (inl b) = b.1 (object_of s) (named_so s)
  parts_not_refused (inr b) = behind_not_refused b.0 (one_name b.0 (object_of s) (sym b.1 ∙ named_so s)) b.2

  script_not_refused : IsRefusedOf (form_of s) e → ⊥
  script_not_refused (inl a) = a.1 (parts_of s) (are_parts s) refl
  script_not_refused (inr a) = parts_not_refused (moved a.0 (parts_of s) (same_parts a.0 (parts_of s) (sym a.1)) e a.3)

  text_not_refused : (text : List ℕ) → IsJson text (form_of s) → IsRefusedText text e → ⊥
  text_not_refused text json (inl a) = a.1 (form_of s) json
  text_not_refused text json (inr a) = script_not_refused (subst (λ (d : Data). IsRefusedOf d e) (one_value text a.0 (form_of s) a.1 json) a.2)

-- a script is refused in one way, and not at all where it has the form of one
pub script_refused_once : (text : List ℕ) (e f : ScriptError) → IsRefusedFor text e → IsRefusedFor text f → script_status e ≡ 1 → script_status f ≡ 1 → e ≡ f
script_refused_once text e f first second one two = text_once text e f (of_text text e first one) (of_text text f second two)

pub script_is_fine : (text : List ℕ) (s : AnyScript) → IsAnyScript s → IsJson text (form_of s) → (e : ScriptError) → IsRefusedFor text e → script_status e ≡ 1 → ⊥
script_is_fine text s is json e refused one = text_not_refused s is e text json (of_text text e refused one)

pub script_statuses : (e : ScriptError) → (script_status e ≡ 4) ⊎ (script_status e ≡ 1)
script_statuses NotJson = inr refl
script_statuses BadShape = inr refl
script_statuses UnknownObject = inr refl
script_statuses BadLimits = inr refl
script_statuses (BadStep i) = inr refl
script_statuses TooManySteps = inr refl
script_statuses BadInitial = inr refl
script_statuses Memory = inl refl
