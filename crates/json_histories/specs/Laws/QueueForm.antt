-- Reading undoes the spelling of a queue, and nothing else is read.
use Rattle.std.specs.Prelude.{◌≡◌, ◌≢◌, ℕ, List, [], ◌∷◌, ◌++◌, codes, true, Some, None, option_map, refl}
use Rattle.serde_json.specs.Data.{Data, null, boolean, number, string, array, object, unsigned}
use Rattle.model_objects.specs.Queue.{matches}
use Rattle.model_objects.specs.declared.queue.QueueCall.{QueueCall}
use Rattle.model_objects.specs.declared.queue.QueueCall.TheVariants.{Push, Pop}
use Rattle.model_objects.specs.declared.queue.QueueRet.{QueueRet}
use Rattle.model_objects.specs.declared.queue.QueueRet.TheVariants.{Done, Popped}
use Rattle.json_histories.specs.Laws.Call.{number_or_alone_read, number_said, done_read}
use Rattle.json_histories.specs.Form.{HaveNoFloats}
use Rattle.json_histories.specs.Json.{unknown, whole_number}
use Rattle.json_histories.specs.Spelled.{IsSpelling}
use Rattle.json_histories.specs.QueueForm.{word_of, arguments, ret_form, call_at, popped_at, ret_at}

pub call_read : (w : List ℕ) (ds rest : List Data) (c : QueueCall) → call_at w ds ≡ Some (c, rest) → (w ≡ word_of c) × (ds ≡ arguments c ++ rest)
call_read = number_or_alone_read word_of arguments Push Pop (codes "push") (codes "pop") (λ n. refl) (λ n. refl) refl refl

pub call_again : (c : QueueCall) (rest : List Data) → call_at (word_of c) (arguments c ++ rest) ≡ Some (c, rest)
call_again (Push v) rest = refl
call_again Pop rest = refl

-- a return of a pop
popped_number : (d : Data) (r : QueueRet) → (option_map (λ (v : ℕ). Popped (Some v)) (whole_number d) ≡ Some r)
    → (d ∷ [] ≡ ret_form r) × (matches Pop r ≡ true)
popped_number = number_said ret_form (matches Pop) (λ (v : ℕ). Popped (Some v)) (λ v. refl) (λ v. refl)

popped_read : (d : Data) (r : QueueRet) → popped_at d ≡ Some r → (d ∷ [] ≡ ret_form r) × (matches Pop r ≡ true)
popped_read null r e = let h : Popped None ≡ r = cc in rw (← h) (refl, refl)
popped_read (boolean b) r e = popped_number (boolean b) r e
popped_read (number n) r e = popped_number (number n) r e
popped_read (string s) r e = popped_number (string s) r e
popped_read (array ds) r e = popped_number (array ds) r e
popped_read (object ms) r e = popped_number (object ms) r e

pub ret_read : (c : QueueCall) (ds : List Data) (r : QueueRet) → ret_at c ds ≡ Some r → (ds ≡ ret_form r) × (matches c r ≡ true)
ret_read (Push v) [] r e = done_read ret_form (matches (Push v)) Done refl refl r e
ret_read (Push v) (d ∷ ds) r e = absurd cc
ret_read Pop [] r e = absurd cc
ret_read Pop (d ∷ []) r e = popped_read d r e
ret_read Pop (d ∷ f ∷ ds) r e = absurd cc

pub ret_again : (c : QueueCall) (r : QueueRet) → matches c r ≡ true → ret_at c (ret_form r) ≡ Some r
ret_again (Push v) Done e = refl
ret_again (Push v) (Popped item) e = absurd cc
ret_again Pop Done e = absurd cc
ret_again Pop (Popped None) e = refl
ret_again Pop (Popped (Some v)) e = refl

pub ret_is_known : (r : QueueRet) → ret_form r ≢ unknown ∷ []
ret_is_known Done e = absurd cc
ret_is_known (Popped None) e = let h : null ≡ unknown = cc in absurd cc
ret_is_known (Popped (Some v)) e = let h : number (unsigned v) ≡ unknown = cc in absurd cc

pub arguments_have_no_float : (c : QueueCall) → HaveNoFloats (arguments c)
arguments_have_no_float (Push v) = refl
arguments_have_no_float Pop = refl

pub ret_has_no_float : (r : QueueRet) → HaveNoFloats (ret_form r)
ret_has_no_float Done = refl
ret_has_no_float (Popped None) = refl
ret_has_no_float (Popped (Some v)) = refl

-- all of it
pub is_spelling : IsSpelling word_of arguments ret_form call_at ret_at matches
is_spelling = record {
  call_read = call_read;
  call_again = call_again;
  ret_read = ret_read;
  ret_again = ret_again;
  ret_is_known = ret_is_known;
  arguments_have_no_float = arguments_have_no_float;
  ret_has_no_float = ret_has_no_float;
}
