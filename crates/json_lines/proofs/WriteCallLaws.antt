-- One call of a sink more, and what it then holds.
use Rattle.std.proofs.Common.{◌≡◌, ◌≤◌, ◌+◌, ℕ, zero, suc, List, [], ◌++◌, Option, Result, Ok, Err, OnOk, OnErr, refl, sym, ap, ◌∙◌, subst, add-one, append_assoc, append-nil, length, take, drop, take-append-drop, inl, inr, arith, ⊎_elim}
use Rattle.std.specs.Io.KnownBytes.{Appends, Keeps}
use Rattle.std.proofs.KnownBytes.{Appends-kept, Appends-nil, Appends-trans}
use Rattle.json_lines.specs.declared.fault.Fault.{Fault}
use Rattle.json_lines.specs.Steps.{PassedOnAs}
use Rattle.json_lines.specs.WriteCalls.{AppendsFront, FailsToTake, HasFailed, HasPassedOn, IsPassedOn, PassesOn, SinkCall, WriteOn, WritesUntil, WritingGoesOn, pass_on, take_of}

module _ {S : Type 0} (called : S → SinkCall → S → Type 0) where
  pub write_none : (s : S) → WriteOn called 0 s s
  unfolding WriteOn
  write_none s = refl

  pub write_more : (n : ℕ) (old between new : S) (call : SinkCall) → WriteOn called n old between → called between call new → WritingGoesOn call
      → WriteOn called (n + 1) old new
  unfolding WriteOn
  write_more n old between new call before made on = rw add-one (between, call, before, on, made)

  pub write_join : (n m : ℕ) (a b c : S) → WriteOn called n a b → WriteOn called m b c → (k : ℕ) × (m ≤ k) × WriteOn called k a c
  unfolding WriteOn
  write_join n zero a b c first then = (n, omega arith, subst (λ (s : S). WriteOn called n a s) then first)
  write_join n (suc m) a b c first (between, call, then, on, made) =
      let (k, many, joined) = write_join n m a b between first then in
      (suc k, omega (arith, many), (between, call, joined, on, made))

  goes_on_passed : (call : SinkCall) → HasPassedOn call → WritingGoesOn call
  goes_on_passed (take_of bytes outcome) is = absurd is
  goes_on_passed (pass_on (Ok u)) is = tt
  goes_on_passed (pass_on (Err e)) is = absurd is

  -- no call failed
  pub none_failed : (a b : S) → IsPassedOn called a b → (n : ℕ) × WriteOn called n a b
  none_failed a b is =
      ⊎_elim (λ (same : a ≡ b). (0, subst (λ (s : S). WriteOn called 0 a s) same (write_none a)))
      (λ (passed : PassesOn called a b). let (n, between, call, before, last, made) = passed in
      (n + 1, write_more n a between b call before made (goes_on_passed call last))) is

  pub passes_join : (a b c : S) → IsPassedOn called a b → PassesOn called b c → IsPassedOn called a c
  passes_join a b c first (m, between, call, before, last, made) =
      let (n, on) = none_failed a b first in
      let (k, many, joined) = write_join n m a b between on before in
      inr (k, between, call, joined, last, made)

  pub passed_join : (a b c : S) → IsPassedOn called a b → IsPassedOn called b c → IsPassedOn called a c
  passed_join a b c first =
      ⊎_elim (λ (same : b ≡ c). subst (λ (s : S). IsPassedOn called a s) same first)
      (λ (passed : PassesOn called b c). passes_join a b c first passed)

  pub fails_join : (most : ℕ) (a b c : S) → IsPassedOn called a b → FailsToTake called most b c → FailsToTake called most a c
  fails_join most a b c first fails =
      let (n, on) = none_failed a b first in
      ⊎_elim (λ (failed : WritesUntil called HasFailed b c). let (m, between, call, before, last, made) = failed in
      let (k, many, joined) = write_join n m a b between on before in
      inl (k, between, call, joined, last, made))
      (λ (many : (m : ℕ) × (most ≤ m) × WriteOn called m b c). let (m, enough, before) = many in
      let (k, more, joined) = write_join n m a b c on before in
      inr (k, omega (arith, enough, more), joined)) fails

  -- the last call failed, or it passed on what was taken
  pub passes_on : (n : ℕ) (old between new : S) (r : Result Unit Fault) → WriteOn called n old between
      → (call : SinkCall) × called between call new × PassedOnAs call r → OnOk r (PassesOn called old new)
  passes_on n old between new (Ok u) before (call, made, is) = (n, between, call, before, is, made)
  passes_on n old between new (Err e) before last = tt

  pub fails_to_pass_on : (most n : ℕ) (old between new : S) (r : Result Unit Fault) → WriteOn called n old between
      → (call : SinkCall) × called between call new × PassedOnAs call r → OnErr r (FailsToTake called most old new)
  fails_to_pass_on most n old between new (Ok u) before last = tt
  fails_to_pass_on most n old between new (Err e) before (call, made, is) = inl (n, between, call, before, is, made)

  pub fails_to_take : (most n : ℕ) (old between new : S) (call : SinkCall) → WriteOn called n old between → called between call new → HasFailed call
      → FailsToTake called most old new
  fails_to_take most n old between new call before made is = inl (n, between, call, before, is, made)

-- so much of a text was taken, and the rest is left
pub record Taken (text rest : List ℕ) (before after : Option (List ℕ)) : Type 0 where
  pub done : List ℕ
  pub split : text ≡ done ++ rest
  pub appends : Appends before after done

pub taken_none : (text : List ℕ) (held : Option (List ℕ)) → Taken text text held held
taken_none text held = record { done = []; split = refl; appends = Appends-nil held }

pub taken_more : (text rest : List ℕ) (a b c : Option (List ℕ)) (count : ℕ) → Taken text rest a b → Appends b c (take count rest)
    → Taken text (drop count rest) a c
taken_more text rest a b c count before more = record {
  done = before.done ++ take count rest;
  split = before.split ∙ ap (λ l. before.done ++ l) (sym (take-append-drop count rest)) ∙ sym (append_assoc before.done (take count rest) (drop count rest));
  appends = Appends-trans a b c before.done (take count rest) before.appends more;
}

pub taken_front : (text rest : List ℕ) (a b c : Option (List ℕ)) → Taken text rest a b → Keeps b c → AppendsFront a c text
taken_front text rest a b c before kept = (before.done, rest, before.split, Appends-kept a b c before.done before.appends kept)

pub taken_all : (text rest : List ℕ) (a b c : Option (List ℕ)) → rest ≡ [] → Taken text rest a b → Keeps b c → Appends a c text
taken_all text rest a b c none before kept =
    subst (λ (l : List ℕ). Appends a c l) (sym (before.split ∙ ap (λ l. before.done ++ l) none ∙ append-nil before.done))
    (Appends-kept a b c before.done before.appends kept)

-- a beginning of a text behind one that was written whole is a beginning of both
pub front_behind : (a b c : Option (List ℕ)) (text more : List ℕ) → Appends a b text → AppendsFront b c more → AppendsFront a c (text ++ more)
front_behind a b c text more first (front, rest, split, begun) =
    (text ++ front, rest, ap (λ l. text ++ l) split ∙ sym (append_assoc text front rest), Appends-trans a b c text front first begun)

pub front_whole : (a b : Option (List ℕ)) (text : List ℕ) → Appends a b text → AppendsFront a b text
front_whole a b text whole = (text, [], sym (append-nil text), whole)
