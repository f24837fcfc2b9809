-- A reader that gives some bytes that were read before, and then those of another one.
use Rattle.std.specs.Prelude.{◌≡◌, ◌≤◌, ◌<◌, ◌++◌, ℕ, zero, suc, List, [], Option, None, Some, Result, Ok, Err, length, min, take, refl}
use Rattle.std.specs.Io.KnownBytes.{Consumes, IsAtEnd, Keeps, ReadConsumes, prepend_known}
use Rattle.std.specs.declared.io.Error.{Error}
use Rattle.json_lines.specs.ReadCalls.{CallOutcome, IsFailure}
use Rattle.app_process.specs.Faults.{most_ahead}
use Rattle.app_process.specs.Steps.Readers.{PassesAhead, SparesCall}
use Rattle.std.proofs.Common.{ap, arith, subst, sym, ◌∙◌, ◌∷◌, inl, inr, append_assoc}

prepend_nothing : (known : Option (List ℕ)) → prepend_known [] known ≡ known
prepend_nothing None = refl
prepend_nothing (Some xs) = refl

-- none were read before
pub from_reader : (ahead : List ℕ) (old new : Option (List ℕ)) (result : Result ℕ Error) (buffer : List ℕ) → length ahead ≡ 0
    → ReadConsumes old new result buffer → ReadConsumes (prepend_known ahead old) (prepend_known ahead new) result buffer
from_reader [] old new result buffer none reads =
    let P : Option (List ℕ) → Type 0 = λ o. ReadConsumes o (prepend_known [] new) result buffer in
    let Q : Option (List ℕ) → Type 0 = λ n. ReadConsumes old n result buffer in
    subst P (sym (prepend_nothing old)) (subst Q (sym (prepend_nothing new)) reads)
from_reader (x ∷ xs) old new result buffer none reads = absurd (omega arith)

kept : (ahead : List ℕ) (old new : Option (List ℕ)) → Keeps old new → Keeps (prepend_known ahead old) (prepend_known ahead new)
kept ahead None new keeps = tt
kept ahead (Some xs) None keeps = absurd keeps
kept ahead (Some xs) (Some ys) keeps = ap (λ l. ahead ++ l) keeps

consumed_none : (ahead : List ℕ) (old new : Option (List ℕ)) → Consumes old new [] → Consumes (prepend_known ahead old) (prepend_known ahead new) []
consumed_none ahead None new consumed = tt
consumed_none ahead (Some xs) None consumed = absurd consumed
consumed_none ahead (Some xs) (Some ys) consumed = ap (λ l. ahead ++ l) consumed

take_none : (n : ℕ) → take {A = ℕ} n [] ≡ []
take_none zero = refl
take_none (suc n) = refl

-- no byte is wanted
pub no_room : (ahead : List ℕ) (old new : Option (List ℕ)) (result : Result ℕ Error) (buffer : List ℕ) → length buffer ≡ 0
    → ReadConsumes old new result buffer → ReadConsumes (prepend_known ahead old) (prepend_known ahead new) result buffer
no_room ahead old new (Ok count) [] none (consumed, at_end) =
    let P : List ℕ → Type 0 = λ l. Consumes old new l in
    let Q : List ℕ → Type 0 = λ l. Consumes (prepend_known ahead old) (prepend_known ahead new) l in
    (subst Q (sym (take_none count)) (consumed_none ahead old new (subst P (take_none count) consumed)), λ is_none room. absurd (omega arith))
no_room ahead old new (Err error) [] none keeps = kept ahead old new keeps
no_room ahead old new result (b ∷ bs) none reads = absurd (omega arith)

consumed_ahead : (old new given : List ℕ) (before rest : Option (List ℕ)) → old ≡ given ++ new → Consumes before rest []
    → Consumes (prepend_known old before) (prepend_known new rest) given
consumed_ahead old new given None rest is same = tt
consumed_ahead old new given (Some xs) None is same = absurd same
consumed_ahead old new given (Some xs) (Some ys) is same =
    ap (λ l. l ++ xs) is ∙ (append_assoc given new xs ∙ ap (λ l. given ++ (new ++ l)) same)

value : Result ℕ Error → ℕ
value (Ok n) = n
value (Err e) = 0

some_given : (a b n : ℕ) → n ≡ min a b → 0 < a → 0 < b → n ≡ 0 → ⊥
some_given a b n is some room none = omega arith

-- some of the bytes that were read before are given, where the other reader still has what it had
pub from_bytes : (old new : List ℕ) (before rest : Option (List ℕ)) (result : Result ℕ Error) (buffer : List ℕ) (room : ℕ)
    → result ≡ Ok (min (length old) room) → 0 < length old → 0 < room → ReadConsumes (Some old) (Some new) result buffer → Consumes before rest []
    → ReadConsumes (prepend_known old before) (prepend_known new rest) result buffer
unfolding value
from_bytes old new before rest (Ok count) buffer room is some wide (consumed, at_end) same = (
  consumed_ahead old new (take count buffer) before rest consumed same,
  λ none wanted. absurd (some_given (length old) room count (ap value is) some wide none),
)
from_bytes old new before rest (Err error) buffer room is some wide reads same = cc

-- a call for no byte took none
pub asked_none : (old new : Option (List ℕ)) (result : Result ℕ Error) (buffer : List ℕ) → length buffer ≡ 0 → ReadConsumes old new result buffer
    → Consumes old new []
asked_none old new (Ok count) [] none (consumed, at_end) =
    let P : List ℕ → Type 0 = λ l. Consumes old new l in
    subst P (take_none count) consumed
asked_none None new (Err error) [] none keeps = tt
asked_none (Some xs) None (Err error) [] none keeps = absurd keeps
asked_none (Some xs) (Some ys) (Err error) [] none keeps = sym keeps
asked_none old new result (b ∷ bs) none reads = absurd (omega arith)

pub nothing_taken : (known : Option (List ℕ)) → Consumes known known []
nothing_taken None = tt
nothing_taken (Some xs) = refl

module _ {S : Type 0} (called : S → CallOutcome → S → Type 0) where
  pub spared : (left_old left_new : ℕ) (old new : S) → left_new < left_old → left_old ≤ most_ahead → new ≡ old → SparesCall called left_old left_new old new
  spared left_old left_new old new fewer most same = inl (fewer, most, same)

  pub called_once : (left_old left_new : ℕ) (old new : S) (outcome : CallOutcome) → left_new ≡ left_old → called old outcome new
      → SparesCall called left_old left_new old new
  called_once left_old left_new old new outcome same call = inr (same, outcome, call)

  pub passes_ahead : (left_old left_new : ℕ) (old new : S) (outcome : CallOutcome) (count : ℕ) → outcome ≡ Ok count → SparesCall called left_old left_new old new
      → PassesAhead called left_old left_new old outcome new
  passes_ahead left_old left_new old new outcome count is (inl (fewer, most, same)) = inl (count, is, fewer, most, same)
  passes_ahead left_old left_new old new outcome count is (inr (same, actual, call)) =
      inr (same, (actual, call, λ fails. absurd (subst IsFailure is fails)))

  pub passes_on : (left_old left_new : ℕ) (old new : S) (outcome : CallOutcome) → left_new ≡ left_old → called old outcome new
      → PassesAhead called left_old left_new old outcome new
  passes_on left_old left_new old new outcome same call = inr (same, (outcome, call, λ fails. fails))
