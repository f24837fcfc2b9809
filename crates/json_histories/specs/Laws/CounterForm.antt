-- Reading undoes the spelling of a counter, and nothing else is read.
use Rattle.std.specs.Prelude.{◌≡◌, ◌≢◌, ℕ, List, [], ◌∷◌, ◌++◌, codes, true, Some, None, refl}
use Rattle.std.proofs.Common.{⊎_elim}
use Rattle.serde_json.specs.Data.{Data, number, unsigned}
use Rattle.model_objects.specs.Counter.{matches}
use Rattle.model_objects.specs.declared.counter.CounterCall.{CounterCall}
use Rattle.model_objects.specs.declared.counter.CounterCall.TheVariants.{Increment, Get}
use Rattle.model_objects.specs.declared.counter.CounterRet.{CounterRet}
use Rattle.model_objects.specs.declared.counter.CounterRet.TheVariants.{Done, Value}
use Rattle.json_histories.specs.Laws.Call.{by_word, alone_read, number_said, done_read}
use Rattle.json_histories.specs.CounterForm.{word_of, arguments, ret_form, call_at, ret_at}
use Rattle.json_histories.specs.Form.{HaveNoFloats}
use Rattle.json_histories.specs.Json.{unknown}
use Rattle.json_histories.specs.Spelled.{IsSpelling}

pub call_read : (w : List ℕ) (ds rest : List Data) (c : CounterCall) → call_at w ds ≡ Some (c, rest) → (w ≡ word_of c) × (ds ≡ arguments c ++ rest)
call_read w ds rest c e =
    ⊎_elim
    (λ p. alone_read word_of arguments Increment w ds rest c p.0 refl p.1)
    (λ other. ⊎_elim
    (λ p. alone_read word_of arguments Get w ds rest c p.0 refl p.1)
    (λ none. absurd cc)
    (by_word w (codes "get") (Some (Get, ds)) None (c, rest) other))
    (by_word w (codes "inc") (Some (Increment, ds)) _ (c, rest) e)

pub call_again : (c : CounterCall) (rest : List Data) → call_at (word_of c) (arguments c ++ rest) ≡ Some (c, rest)
call_again Increment rest = refl
call_again Get rest = refl

pub ret_read : (c : CounterCall) (ds : List Data) (r : CounterRet) → ret_at c ds ≡ Some r → (ds ≡ ret_form r) × (matches c r ≡ true)
ret_read Increment [] r e = done_read ret_form (matches Increment) Done refl refl r e
ret_read Increment (d ∷ ds) r e = absurd cc
ret_read Get [] r e = absurd cc
ret_read Get (d ∷ []) r e = number_said ret_form (matches Get) Value (λ n. refl) (λ n. refl) d r e
ret_read Get (d ∷ f ∷ ds) r e = absurd cc

pub ret_again : (c : CounterCall) (r : CounterRet) → matches c r ≡ true → ret_at c (ret_form r) ≡ Some r
ret_again Increment Done e = refl
ret_again Increment (Value n) e = absurd cc
ret_again Get Done e = absurd cc
ret_again Get (Value n) e = refl

pub ret_is_known : (r : CounterRet) → ret_form r ≢ unknown ∷ []
ret_is_known Done e = absurd cc
ret_is_known (Value v) e = let h : number (unsigned v) ≡ unknown = cc in absurd cc

pub arguments_have_no_float : (c : CounterCall) → HaveNoFloats (arguments c)
arguments_have_no_float c = refl

pub ret_has_no_float : (r : CounterRet) → HaveNoFloats (ret_form r)
ret_has_no_float Done = refl
ret_has_no_float (Value v) = refl

-- all of it
pub is_spelling : IsSpelling word_of arguments ret_form call_at ret_at matches
is_spelling = record {
  call_read = call_read;
  call_again = call_again;
  ret_read = ret_read;
  ret_again = ret_again;
  ret_is_known = ret_is_known;
  arguments_have_no_float = arguments_have_no_float;
  ret_has_no_float = ret_has_no_float;
}
