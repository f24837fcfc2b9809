-- Schedules that a naming has gone through, and the pieces that they make.
use Rattle.std.proofs.Common.{◌≡◌, ◌==◌, ℕ, zero, suc, ◌<◌, ◌↔◌, Bool, List, [], ◌∷◌, length, take, get_or, refl, sym, ap, ◌∙◌, subst, arith, take_all, lt-ltb, eq-eqb, eqb-true}
use Rattle.std.specs.Prelude.{IsTrue, Some, filter, nat_le, slice_get}
use Rattle.std.proofs.lemmas.Bool.{and_parts, and_from, le-leb, cond-true}
use Rattle.std.proofs.lemmas.Option.{slice_get_within}
use Rattle.model_history.specs.declared.op_id.OpId.{OpId}
use Rattle.model_history.specs.History.{HistoryValue, calls, entry}
use Rattle.order_causal.specs.Orders.{Ops, StandsAt, only, program_past}
use Rattle.order_causal.specs.Vectors.{Counts, count, list_of, IsVectorOk}
use Rattle.order_causal.specs.Schedules.{placed}
use Rattle.cert_check.specs.Certificates.{counted, IsScheduledPiece}
use Rattle.cert_check.specs.Criteria.{Explains}
use Rattle.cert_check.specs.Schedules.{named, IsSchedule}
use Rattle.cert_check.specs.Steps.Namings.{AreCountsAt, AreNamedWell}
use Rattle.cert_check.specs.Steps.Replays.{AreAnswered, IsAnsweredAfter, NamesOperations}
use Rattle.cert_check.proofs.ConvergentLaws.{only-same}
use Rattle.cert_check.proofs.Named.{length-named, named_once, named_within, slice_get-from_take}
use Rattle.cert_check.proofs.Pasts.{only-itself}

-- at the end of a list the running counts are those of the whole list
pub counts_at_end : (list : List ℕ) (n : ℕ) (counts : List ℕ) → AreCountsAt list (length list) n counts → (s : ℕ) → get_or counts s 0 ≡ placed list s
counts_at_end list n counts at s = at.each s ∙ ap (λ (xs : List ℕ). placed xs s) (take_all (length list) list (omega arith))

module _ {S C R : Type 0} (h : HistoryValue S C R) (v : Counts) (o : OpId) (list : List ℕ) where
  -- a list that names operations well and ends where a vector ends is a schedule
  pub schedule-from : AreNamedWell h v list (length list) → (n : ℕ) (counts : List ℕ) → AreCountsAt list (length list) n counts
      → ((s : ℕ) → get_or counts s 0 ≡ count v o s) → IsSchedule h v o list
  schedule-from well n counts at ends =
      let long = length-named list in record {
        existing = λ k a there. let within = slice_get_within (named list) k a there in (well.each k (omega arith)).existing a there;
        after_counted = λ k b a there. let within = slice_get_within (named list) k b there in (well.each k (omega arith)).after_counted b a there;
        ends = λ s. sym (counts_at_end list n counts at s) ∙ ends s;
      }

  pub schedule-named : IsSchedule h v o list → AreNamedWell h v list (length list)
  schedule-named good = record {
    each = λ k below. record {
      existing = λ a there. good.existing k a there;
      after_counted = λ b a there. good.after_counted k b a there;
    };
  }

  pub schedule-ends : IsSchedule h v o list → (n : ℕ) (counts : List ℕ) → AreCountsAt list (length list) n counts → (s : ℕ) → get_or counts s 0 ≡ count v o s
  schedule-ends good n counts at s = counts_at_end list n counts at s ∙ good.ends s

  -- the counts at the end of a schedule are those of the vector
  pub schedule-counts : IsSchedule h v o list → (n : ℕ) (counts : List ℕ) → counts ≡ list_of v o → length (list_of v o) ≡ n
      → AreCountsAt list (length list) n counts
  schedule-counts good n counts is size = record {
    width = ap (λ (xs : List ℕ). length xs) is ∙ size;
    each = λ s. ap (λ (xs : List ℕ). get_or xs s 0) is ∙ sym (good.ends s)
        ∙ sym (ap (λ (xs : List ℕ). placed xs s) (take_all (length list) list (omega arith)));
  }

  pub schedule-names : IsSchedule h v o list → NamesOperations h list
  schedule-names good = record { each = λ k a there. good.existing k a there }

-- all that a filter is asked of passes
filter_all : {X : Type 0} (p : X → Bool) (xs : List X) → ((k : ℕ) (x : X) → slice_get xs k ≡ Some x → IsTrue (p x)) → filter p xs ≡ xs
filter_all {X} p [] all = refl
filter_all {X} p (x ∷ xs) all = cond-true (p x) (x ∷ filter p xs) (filter p xs) (all zero x refl) ∙ ap (λ (ys : List X). x ∷ ys) (filter_all p xs (λ k y there. all (suc k) y there))

module _ {S C R : Type 0} (answer : S → List C → C → R) (h : HistoryValue S C R) (v : Counts) (o : OpId) (list : List ℕ) (good : IsSchedule h v o list) where
  -- the vector counts what the schedule names
  all_counted : (k : ℕ) (a : OpId) → StandsAt (named list) k a → IsTrue (counted v o a)
  all_counted k a there =
      let within = named_within list k a there in
      let ends = good.ends a.session in
      lt-ltb a.index (count v o a.session) (omega arith)

  -- all that the schedule names is counted
  pub counted_front : (i : ℕ) → filter (counted v o) (take i (named list)) ≡ take i (named list)
  counted_front i = filter_all (counted v o) (take i (named list)) (λ k a there.
      let r = slice_get-from_take (named list) i k a there in all_counted k a r.1)

  -- the schedule explains the known return of its operation exactly where that is the answer at its place
  pub own_answered : (i : ℕ) → StandsAt (named list) i o → IsAnsweredAfter answer h (filter (counted v o) (take i (named list))) o ↔ Explains answer h (named list) (only o)
  own_answered i there = (
    (λ answered k a c r stands alone known.
        let is : a ≡ o = only-same o a alone in
        let same : i ≡ k = named_once list i k o there (subst (λ (x : OpId). StandsAt (named list) k x) is stands) in
        subst (λ (ops : List OpId). r ≡ answer h.0 (calls h ops) c) (counted_front i ∙ ap (λ (j : ℕ). take j (named list)) same)
        (answered c r (subst (λ (x : OpId). entry h x ≡ Some (c, Some r)) is known))),
    λ explains c r known.
        subst (λ (ops : List OpId). r ≡ answer h.0 (calls h ops) c) (sym (counted_front i))
        (explains i o c r there (only-itself o) known),
  )

  -- the own operations that a schedule names are those up to its operation
  pub own_named : (good_vector : IsVectorOk h v o) → o.index < placed list o.session
  own_named vector = let own = vector.own in let ends = good.ends o.session in omega arith

  -- an operation of the session that the schedule names is kept
  pub own_kept : IsVectorOk h v o → (j : ℕ) (a : OpId) → StandsAt (named list) j a → a.session ≡ o.session → IsTrue (program_past o a)
  own_kept vector j a there own_session =
      let within = named_within list j a there in
      let ends = good.ends o.session in
      let own = vector.own in
      let here : placed list a.session ≡ placed list o.session = ap (λ (s : ℕ). placed list s) own_session in
      and_from (a.session == o.session) (nat_le a.index o.index) (eq-eqb a.session o.session own_session) (le-leb a.index o.index (omega arith))

  -- what is kept for a later operation of the session, among what the schedule names, is kept for this one
  within_past : IsVectorOk h v o → (later : OpId) → later.session ≡ o.session → (j : ℕ) (a : OpId) → StandsAt (named list) j a
      → IsTrue (program_past later a) → IsTrue (program_past o a)
  within_past vector later same j a there inside =
      let parts = and_parts (a.session == later.session) (nat_le a.index later.index) inside in
      own_kept vector j a there (eqb-true a.session later.session parts.0 ∙ same)

  pub answered_later : IsVectorOk h v o → (later : OpId) → later.session ≡ o.session
      → AreAnswered answer h (program_past o) list (length list) → AreAnswered answer h (program_past later) list (length list)
  answered_later vector later same answered = record {
    each = λ j below a there inside. answered.each j below a there (within_past vector later same j a there inside);
  }

-- where the vector and the schedule are good, what decides whether the schedule explains decides the piece
module _ {S C R : Type 0} (answer : S → List C → C → R) (h : HistoryValue S C R) (v : Counts) (o : OpId) (list : List ℕ) (kept : Ops)
    (vector : IsVectorOk h v o) (good : IsSchedule h v o list) where
  pub piece_exactly : (explained : Bool) → IsTrue explained ↔ Explains answer h (named list) kept → IsTrue explained ↔ IsScheduledPiece answer h v list o kept
  piece_exactly explained exactly = (
    (λ t. record { vector = vector; schedules = good; explains = exactly.0 t }),
    λ piece. exactly.1 piece.explains,
  )
