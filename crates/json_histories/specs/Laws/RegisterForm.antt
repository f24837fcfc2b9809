-- Reading undoes the spelling of a register, and nothing else is read.
use Rattle.std.specs.Prelude.{◌≡◌, ◌≢◌, ℕ, ◌==◌, List, [], ◌∷◌, ◌++◌, codes, true, false, Some, None, if◌then◌else◌, refl}
use Rattle.std.proofs.Common.{⊎_elim}
use Rattle.std.proofs.lemmas.Bool.{cases_Bool, eqb-true}
use Rattle.std.proofs.lemmas.Option.{option_and_then_some}
use Rattle.serde_json.specs.Data.{Data, number, unsigned}
use Rattle.serde_json.specs.Written.{has_float}
use Rattle.model_objects.specs.Register.{matches}
use Rattle.model_objects.specs.declared.register.RegisterCall.{RegisterCall}
use Rattle.model_objects.specs.declared.register.RegisterCall.TheVariants.{Write, Read}
use Rattle.model_objects.specs.declared.register.RegisterRet.{RegisterRet}
use Rattle.model_objects.specs.declared.register.RegisterRet.TheVariants.{Done, Value}
use Rattle.json_histories.specs.Form.{HaveNoFloats}
use Rattle.json_histories.specs.Json.{whole_number, unknown}
use Rattle.json_histories.specs.Laws.Json.{whole_number-read}
use Rattle.json_histories.specs.Laws.Call.{number_or_alone_read, number_said, done_read}
use Rattle.json_histories.specs.Spelled.{IsSpelling, IsStartSpelling}
use Rattle.json_histories.specs.RegisterForm.{word_of, arguments, ret_form, call_at, ret_at, start_form, start_at}

pub call_read : (w : List ℕ) (ds rest : List Data) (c : RegisterCall) → call_at w ds ≡ Some (c, rest) → (w ≡ word_of c) × (ds ≡ arguments c ++ rest)
call_read = number_or_alone_read word_of arguments Write Read (codes "w") (codes "r") (λ n. refl) (λ n. refl) refl refl

pub call_again : (c : RegisterCall) (rest : List Data) → call_at (word_of c) (arguments c ++ rest) ≡ Some (c, rest)
call_again (Write v) rest = refl
call_again Read rest = refl

pub ret_read : (c : RegisterCall) (ds : List Data) (r : RegisterRet) → ret_at c ds ≡ Some r → (ds ≡ ret_form r) × (matches c r ≡ true)
ret_read (Write v) [] r e = done_read ret_form (matches (Write v)) Done refl refl r e
ret_read (Write v) (d ∷ ds) r e = absurd cc
ret_read Read [] r e = absurd cc
ret_read Read (d ∷ []) r e = number_said ret_form (matches Read) Value (λ n. refl) (λ n. refl) d r e
ret_read Read (d ∷ f ∷ ds) r e = absurd cc

pub ret_again : (c : RegisterCall) (r : RegisterRet) → matches c r ≡ true → ret_at c (ret_form r) ≡ Some r
ret_again (Write v) Done e = refl
ret_again (Write v) (Value n) e = absurd cc
ret_again Read Done e = absurd cc
ret_again Read (Value n) e = refl

pub ret_is_known : (r : RegisterRet) → ret_form r ≢ unknown ∷ []
ret_is_known Done e = absurd cc
ret_is_known (Value v) e = let h : number (unsigned v) ≡ unknown = cc in absurd cc

start_cases : (d : Data) (n s : ℕ) → whole_number d ≡ Some n → (if n == 0 then None else Some n) ≡ Some s → (d ≡ start_form s) × Unit {0} × (s ≢ 0)
start_cases d n s e read =
    ⊎_elim
    (λ (is_0 : (n == 0) ≡ true). let h : None ≡ Some s = rw is_0 at read in absurd cc)
    (λ (not_0 : (n == 0) ≡ false).
    let h : Some n ≡ Some s = rw not_0 at read in
    let same : n ≡ s = cc in
    rw (← same) (whole_number-read d n e, tt, λ (z : n ≡ 0). let k = rw z at not_0 in absurd cc))
    (cases_Bool (n == 0))

pub start_read : (d : Data) (s : ℕ) → start_at d ≡ Some s → (d ≡ start_form s) × Unit {0} × (s ≢ 0)
start_read d s e = option_and_then_some _ (whole_number d) s e (λ n number read. start_cases d n s number read)

pub start_again : (s : ℕ) → Unit {0} → s ≢ 0 → start_at (start_form s) ≡ Some s
start_again s _ not_plain =
    ⊎_elim
    (λ (is_0 : (s == 0) ≡ true). absurd (not_plain (eqb-true s 0 is_0)))
    (λ (not_0 : (s == 0) ≡ false). rw not_0 refl)
    (cases_Bool (s == 0))

pub arguments_have_no_float : (c : RegisterCall) → HaveNoFloats (arguments c)
arguments_have_no_float (Write v) = refl
arguments_have_no_float Read = refl

pub ret_has_no_float : (r : RegisterRet) → HaveNoFloats (ret_form r)
ret_has_no_float Done = refl
ret_has_no_float (Value v) = refl

pub start_has_no_float : (s : ℕ) → has_float (start_form s) ≡ false
start_has_no_float s = refl

-- all of it
pub is_spelling : IsSpelling word_of arguments ret_form call_at ret_at matches
is_spelling = record {
  call_read = call_read;
  call_again = call_again;
  ret_read = ret_read;
  ret_again = ret_again;
  ret_is_known = ret_is_known;
  arguments_have_no_float = arguments_have_no_float;
  ret_has_no_float = ret_has_no_float;
}

pub is_start_spelling : IsStartSpelling 0 (λ _. Unit {0}) start_form start_at
is_start_spelling = record { start_read = start_read; start_again = start_again; start_has_no_float = start_has_no_float }
