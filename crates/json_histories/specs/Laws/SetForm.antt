-- Reading undoes the spelling of a set, and nothing else is read.
use Rattle.std.specs.Prelude.{◌≡◌, ◌≢◌, ℕ, List, [], ◌∷◌, ◌++◌, codes, Bool, true, Some, None, refl}
use Rattle.std.proofs.Common.{ap, ⊎_elim}
use Rattle.serde_json.specs.Data.{Data, null, boolean, number, string, array, object}
use Rattle.serde_json.specs.Find.{as_bool}
use Rattle.model_objects.specs.AddRemoveSet.{matches}
use Rattle.model_objects.specs.declared.add_remove_set.SetCall.{SetCall}
use Rattle.model_objects.specs.declared.add_remove_set.SetCall.TheVariants.{Add, Remove, Has}
use Rattle.model_objects.specs.declared.add_remove_set.SetRet.{SetRet}
use Rattle.model_objects.specs.declared.add_remove_set.SetRet.TheVariants.{Done, Has as HasAnswer}
use Rattle.json_histories.specs.Laws.Call.{by_word, with_number_read, said_read, done_read}
use Rattle.json_histories.specs.Form.{HaveNoFloats}
use Rattle.json_histories.specs.Json.{unknown}
use Rattle.json_histories.specs.Spelled.{IsSpelling}
use Rattle.json_histories.specs.SetForm.{word_of, arguments, ret_form, call_at, ret_at}
use Rattle.json_histories.specs.Spelling.{call_with}

pub call_read : (w : List ℕ) (ds rest : List Data) (c : SetCall) → call_at w ds ≡ Some (c, rest) → (w ≡ word_of c) × (ds ≡ arguments c ++ rest)
call_read w ds rest c e =
    ⊎_elim
    (λ p. with_number_read word_of arguments Add w ds rest c (λ n. p.0) (λ n. refl) p.1)
    (λ not_add. ⊎_elim
    (λ p. with_number_read word_of arguments Remove w ds rest c (λ n. p.0) (λ n. refl) p.1)
    (λ not_rem. ⊎_elim
    (λ p. with_number_read word_of arguments Has w ds rest c (λ n. p.0) (λ n. refl) p.1)
    (λ none. absurd cc)
    (by_word w (codes "has") (call_with Has ds) None (c, rest) not_rem))
    (by_word w (codes "rem") (call_with Remove ds) _ (c, rest) not_add))
    (by_word w (codes "add") (call_with Add ds) _ (c, rest) e)

pub call_again : (c : SetCall) (rest : List Data) → call_at (word_of c) (arguments c ++ rest) ≡ Some (c, rest)
call_again (Add e) rest = refl
call_again (Remove e) rest = refl
call_again (Has e) rest = refl

as_bool-read : (d : Data) (b : Bool) → as_bool d ≡ Some b → d ≡ boolean b
as_bool-read null b e = absurd cc
as_bool-read (boolean a) b e = let h : a ≡ b = cc in ap boolean h
as_bool-read (number n) b e = absurd cc
as_bool-read (string s) b e = absurd cc
as_bool-read (array ds) b e = absurd cc
as_bool-read (object ms) b e = absurd cc

pub ret_read : (c : SetCall) (ds : List Data) (r : SetRet) → ret_at c ds ≡ Some r → (ds ≡ ret_form r) × (matches c r ≡ true)
ret_read (Add u) [] r e = done_read ret_form (matches (Add u)) Done refl refl r e
ret_read (Add u) (d ∷ ds) r e = absurd cc
ret_read (Remove u) [] r e = done_read ret_form (matches (Remove u)) Done refl refl r e
ret_read (Remove u) (d ∷ ds) r e = absurd cc
ret_read (Has u) [] r e = absurd cc
ret_read (Has u) (d ∷ []) r e = said_read ret_form (matches (Has u)) boolean as_bool as_bool-read HasAnswer (λ b. refl) (λ b. refl) d r e
ret_read (Has u) (d ∷ f ∷ ds) r e = absurd cc

pub ret_again : (c : SetCall) (r : SetRet) → matches c r ≡ true → ret_at c (ret_form r) ≡ Some r
ret_again (Add u) Done e = refl
ret_again (Add u) (HasAnswer b) e = absurd cc
ret_again (Remove u) Done e = refl
ret_again (Remove u) (HasAnswer b) e = absurd cc
ret_again (Has u) Done e = absurd cc
ret_again (Has u) (HasAnswer b) e = refl

pub ret_is_known : (r : SetRet) → ret_form r ≢ unknown ∷ []
ret_is_known Done e = absurd cc
ret_is_known (HasAnswer b) e = let h : boolean b ≡ unknown = cc in absurd cc

pub arguments_have_no_float : (c : SetCall) → HaveNoFloats (arguments c)
arguments_have_no_float (Add u) = refl
arguments_have_no_float (Remove u) = refl
arguments_have_no_float (Has u) = refl

pub ret_has_no_float : (r : SetRet) → HaveNoFloats (ret_form r)
ret_has_no_float Done = refl
ret_has_no_float (HasAnswer b) = refl

-- all of it
pub is_spelling : IsSpelling word_of arguments ret_form call_at ret_at matches
is_spelling = record {
  call_read = call_read;
  call_again = call_again;
  ret_read = ret_read;
  ret_again = ret_again;
  ret_is_known = ret_is_known;
  arguments_have_no_float = arguments_have_no_float;
  ret_has_no_float = ret_has_no_float;
}
