-- Reading the sessions of a history, one after the other.
use Rattle.std.proofs.Common.{◌≡◌, ℕ, zero, suc, ◌+◌, ◌<◌, ◌≤◌, Bool, List, [], ◌∷◌, ◌++◌, length, map, take, get_or, Option, Some, None, refl, sym, subst, ap, ◌∙◌, arith}
use Rattle.std.specs.Prelude.{slice_get}
use Rattle.std.proofs.lemmas.Bool.{le-ltb, lt-ltb}
use Rattle.std.proofs.lemmas.List.{length-map, take_all, take_more, map_push}
use Rattle.std.proofs.lemmas.Option.{slice_get_within, get_or_from_slice_get}
use Rattle.serde_json.specs.Data.{Data}
use Rattle.json_histories.specs.declared.read_error.ReadError.{ReadError}
use Rattle.json_histories.specs.declared.read_error.ReadError.TheVariants.{NotJson, BadShape, UnknownObject, BadOp, ReturnAfterUnknown, TooManySessions, TooManyOps, Memory, BadInitial}
use Rattle.json_histories.specs.Refusals.{IsFirst}
use Rattle.model_history.specs.History.{IsSession}
use Rattle.json_histories.specs.Json.{elements}
use Rattle.json_histories.specs.Form.{AreSessions, ReadAs, session_at}
use Rattle.json_histories.specs.Reading.{first_among, operations_refusal, session_refusal, sessions_refusal}
use Rattle.json_histories.proofs.FirstRefusal.{first_among_more, first_among_some}

pub empty_session : {C R : Type 0} (fits : C → R → Bool) → IsSession {C = C} {R = R} fits []
empty_session fits = record { short = omega arith; fitting = λ i c r here. absurd cc; known_first = λ i j c d r lt here there. absurd cc }

-- one more session
pub one_more_session : {C R : Type 0} (fits : C → R → Bool) (ss : List (List (C × Option R))) (es : List (C × Option R)) → AreSessions fits ss → IsSession fits es → AreSessions fits (ss ++ es ∷ [])
one_more_session fits [] es before here zero = here
one_more_session fits [] es before here (suc k) = empty_session fits
one_more_session fits (x ∷ ss) es before here zero = before 0
one_more_session fits (x ∷ ss) es before here (suc k) = one_more_session fits ss es (λ i. before (suc i)) here k

-- what was read of the first sessions
pub record AreReadUpTo {C R : Type 0} (operation_at : Data → Option (C × Option R)) (fits : C → R → Bool)
    (ds : List Data) (ss : List (List (C × Option R))) (s : ℕ) : Type 0 where
  pub read : ReadAs operation_at (take s ds) ss
  pub are_sessions : AreSessions fits ss
  pub none : first_among s (session_refusal operation_at ds) ≡ None

module _ {C R : Type 0} (operation_at : Data → Option (C × Option R)) (fits : C → R → Bool) where
  pub reads_no_session : (ds : List Data) → AreReadUpTo operation_at fits ds [] 0
  reads_no_session ds = record { read = refl; are_sessions = λ s. empty_session fits; none = refl }

  pub reads_on : (ds : List Data) (ss : List (List (C × Option R))) (es : List (C × Option R)) (s : ℕ) (d : Data)
      → AreReadUpTo operation_at fits ds ss s → slice_get ds s ≡ Some d → session_at operation_at d ≡ Some (map (λ e. Some e) es) → IsSession fits es
      → operations_refusal operation_at s (elements d) ≡ None → AreReadUpTo operation_at fits ds (ss ++ es ∷ []) (s + 1)
  reads_on ds ss es s d so_far here read is_session fine =
      let lt : s < length ds = slice_get_within ds s d here in
      let item : get_or ds s d ≡ d = get_or_from_slice_get ds s d d here in
      let front : take (s + 1) ds ≡ take s ds ++ d ∷ [] = take_more ds s d lt ∙ ap (λ x. take s ds ++ x ∷ []) item in
      record {
        read = ap (map (session_at operation_at)) front ∙ map_push (session_at operation_at) (take s ds) d ∙ rw (read, so_far.read) (sym (map_push (λ xs. Some (map (λ e. Some e) xs)) ss es));
        are_sessions = one_more_session fits ss es so_far.are_sessions is_session;
        none = first_among_more s (session_refusal operation_at ds) so_far.none (rw here fine);
      }

  pub refused_there : (n : ℕ) (ds : List Data) (ss : List (List (C × Option R))) (s : ℕ) (d : Data) (e : ReadError) → length ds ≡ n
      → AreReadUpTo operation_at fits ds ss s → slice_get ds s ≡ Some d → operations_refusal operation_at s (elements d) ≡ Some e
      → first_among n (session_refusal operation_at ds) ≡ Some e
  refused_there n ds ss s d e count so_far here bad =
      rw (← count) (first_among_some (length ds) s (session_refusal operation_at ds) e so_far.none (rw here bad) (slice_get_within ds s d here))

  pub few_sessions : (ds : List Data) → length ds ≤ 16 → sessions_refusal operation_at ds ≡ first_among (length ds) (session_refusal operation_at ds)
  few_sessions ds few = rw (le-ltb 16 (length ds) few) refl

  pub many_sessions : (n : ℕ) (ds : List Data) → length ds ≡ n → 16 < n → sessions_refusal operation_at ds ≡ Some TooManySessions
  many_sessions n ds count many = rw (lt-ltb 16 (length ds) (rw count many)) refl

  -- as many were read as the forms are
  pub as_many : (ds : List Data) (ss : List (List (C × Option R))) → ReadAs operation_at ds ss → length ss ≡ length ds
  as_many ds ss read = sym (simp length-map at (ap length read))

  -- the last of them was read
  pub all_read : (ds : List Data) (ss : List (List (C × Option R))) (s : ℕ) → length ds ≤ s → AreReadUpTo operation_at fits ds ss s → ReadAs operation_at ds ss
  all_read ds ss s end so_far = subst (λ (xs : List Data). ReadAs operation_at xs ss) (take_all s ds end) so_far.read

  pub all_fine : (ds : List Data) (ss : List (List (C × Option R))) (s : ℕ) → length ds ≤ 16 → length ds ≡ s → AreReadUpTo operation_at fits ds ss s
      → sessions_refusal operation_at ds ≡ None
  all_fine ds ss s few end so_far = few_sessions ds few ∙ ap (λ (n : ℕ). first_among n (session_refusal operation_at ds)) end ∙ so_far.none

-- a first refusal of a part is one of the whole
pub IsFirst-moves : (part whole : Option ReadError) (e : ReadError) → ((x : ReadError) → part ≡ Some x → whole ≡ Some x) → IsFirst part e → IsFirst whole e
IsFirst-moves part whole NotJson moves first = first
IsFirst-moves part whole BadShape moves first = moves BadShape first
IsFirst-moves part whole UnknownObject moves first = moves UnknownObject first
IsFirst-moves part whole (BadOp op) moves first = moves (BadOp op) first
IsFirst-moves part whole (ReturnAfterUnknown op) moves first = moves (ReturnAfterUnknown op) first
IsFirst-moves part whole TooManySessions moves first = moves TooManySessions first
IsFirst-moves part whole TooManyOps moves first = moves TooManyOps first
IsFirst-moves part whole Memory moves first = tt
IsFirst-moves part whole BadInitial moves first = moves BadInitial first

-- where nothing is refused, memory ran out
pub IsFirst_of_none : (first : Option ReadError) (e : ReadError) → first ≡ None → IsFirst first e → e ≡ Memory
IsFirst_of_none first NotJson none h = absurd h
IsFirst_of_none first BadShape none h = let bad = sym none ∙ h in absurd cc
IsFirst_of_none first UnknownObject none h = let bad = sym none ∙ h in absurd cc
IsFirst_of_none first (BadOp op) none h = let bad = sym none ∙ h in absurd cc
IsFirst_of_none first (ReturnAfterUnknown op) none h = let bad = sym none ∙ h in absurd cc
IsFirst_of_none first TooManySessions none h = let bad = sym none ∙ h in absurd cc
IsFirst_of_none first TooManyOps none h = let bad = sym none ∙ h in absurd cc
IsFirst_of_none first Memory none h = refl
IsFirst_of_none first BadInitial none h = let bad = sym none ∙ h in absurd cc
