-- A state that has applied some calls, with queries between them.
use Rattle.std.proofs.Common.{◌≡◌, ℕ, zero, suc, ◌+◌, ◌≤◌, List, [], ◌∷◌, ◌++◌, take, length, refl, sym, ap, subst, ◌∙◌, arith, add-one, append_assoc, length-append}
use Rattle.std.specs.Prelude.{Bool, true, false, not, filter, insert, Some, slice_get}
use Rattle.std.proofs.lemmas.List.Elements.{filter-append}
use Rattle.std.proofs.lemmas.List.{map-append, take_all}
use Rattle.std.proofs.lemmas.List.Edits.{insert_end, length-insert}
use Rattle.std.proofs.lemmas.Option.{slice_get_within, get_or_from_slice_get}
use Rattle.std.proofs.Math.Seq.{take-suc, take-length}
use Rattle.live_replica.specs.declared.update.UpdateOf.{UpdateOf}
use Rattle.live_replica.specs.Updates.{calls, writers}
use Rattle.live_replica.specs.Replaying.{SameUpdates}
use Rattle.live_replica.specs.Steps.Logs.{HasTaken, Serves}

module _ {C : Type 0} (query : C → Bool) where
  -- the calls but for queries
  abbrev pub updates_of : List C → List C
  updates_of cs = filter (λ (c : C). not (query c)) cs

  pub updates-one : (c : C) → query c ≡ true → updates_of (c ∷ []) ≡ []
  updates-one c q = rw q refl

  pub updates-cons_query : (c : C) (cs : List C) → query c ≡ true → updates_of (c ∷ cs) ≡ updates_of cs
  updates-cons_query c cs q = rw q refl

  pub updates-cons : (c : C) (cs : List C) → query c ≡ false → updates_of (c ∷ cs) ≡ c ∷ updates_of cs
  updates-cons c cs q = rw q refl

  pub same-push : (cs ds : List C) (c : C) → SameUpdates query cs ds → SameUpdates query (cs ++ c ∷ []) (ds ++ c ∷ [])
  same-push cs ds c e = filter-append _ cs (c ∷ []) ∙ (ap (λ (l : List C). l ++ updates_of (c ∷ [])) e ∙ sym (filter-append _ ds (c ∷ [])))

  append_none : (xs : List C) → xs ++ [] ≡ xs
  append_none [] = refl
  append_none (x ∷ xs) = ap (λ (l : List C). x ∷ l) (append_none xs)

  pub same-query : (cs ds : List C) (c : C) → query c ≡ true → SameUpdates query cs ds → SameUpdates query cs (ds ++ c ∷ [])
  same-query cs ds c q e = e ∙ sym (filter-append _ ds (c ∷ []) ∙ (ap (λ (l : List C). updates_of ds ++ l) (updates-one c q) ∙ append_none (updates_of ds)))

  module _ {S R : Type 0} (answer : S → List C → C → R) (law : (s : S) (before after : List C) (q c : C) → query q ≡ true → answer s (before ++ q ∷ after) c ≡ answer s (before ++ after) c) (s : S) (c : C) where
    answer-step : (before : List C) (d : C) (cs : List C) (b : Bool) → query d ≡ b → ((front : List C) → answer s (front ++ cs) c ≡ answer s (front ++ updates_of cs) c) → answer s (before ++ d ∷ cs) c ≡ answer s (before ++ updates_of (d ∷ cs)) c
    answer-step before d cs true q rest = law s before cs d c q ∙ (rest before ∙ ap (λ (l : List C). answer s (before ++ l) c) (sym (updates-cons_query d cs q)))
    answer-step before d cs false q rest =
        ap (λ (l : List C). answer s l c) (sym (append_assoc before (d ∷ []) cs))
        ∙ (rest (before ++ d ∷ [])
        ∙ (ap (λ (l : List C). answer s l c) (append_assoc before (d ∷ []) (updates_of cs)) ∙ ap (λ (l : List C). answer s (before ++ l) c) (sym (updates-cons d cs q))))

    pub answer-updates : (before cs : List C) → answer s (before ++ cs) c ≡ answer s (before ++ updates_of cs) c
    answer-updates before [] = refl
    answer-updates before (d ∷ cs) = answer-step before d cs (query d) refl (λ (front : List C). answer-updates front cs)

    -- calls that differ in queries alone have one answer behind them
    pub same_answer : (cs ds : List C) → SameUpdates query cs ds → answer s cs c ≡ answer s ds c
    same_answer cs ds e = answer-updates [] cs ∙ (ap (λ (l : List C). answer s l c) e ∙ sym (answer-updates [] ds))

module _ {S C Z : Type 0} (query : C → Bool) (stands : Z → S → List C → Type 0) where
  pub serves-fresh : (z : Z) (start : S) → stands z start [] → Serves query stands z start []
  serves-fresh z start st = ([], refl, st)

  -- one more call is delivered
  pub serves-push : (z z' : Z) (start : S) (cs : List C) (c : C) → Serves query stands z start cs → ((ds : List C) → stands z start ds → stands z' start (ds ++ c ∷ [])) → Serves query stands z' start (cs ++ c ∷ [])
  serves-push z z' start cs c s step = (s.0 ++ c ∷ [], same-push query cs s.0 c s.1, step s.0 s.2)

  -- a query is applied
  pub serves-query : (z z' : Z) (start : S) (cs : List C) (c : C) → query c ≡ true → Serves query stands z start cs → ((ds : List C) → stands z start ds → stands z' start (ds ++ c ∷ [])) → Serves query stands z' start cs
  serves-query z z' start cs c q s step = (s.0 ++ c ∷ [], same-query query cs s.0 c q s.1, step s.0 s.2)

  -- what the object answers is the answer after its calls, with any queries put between them
  pub served : {R : Type 0} (answer : S → List C → C → R) → ((s : S) (before after : List C) (q c : C) → query q ≡ true → answer s (before ++ q ∷ after) c ≡ answer s (before ++ after) c)
      → (z : Z) (start : S) (cs : List C) (c : C) (r : R) → Serves query stands z start cs → ((ds : List C) → stands z start ds → r ≡ answer start ds c)
      → (es : List C) → SameUpdates query cs es → r ≡ answer start es c
  served answer law z start cs c r s replies es e = replies s.0 s.2 ∙ same_answer query answer law start c s.0 es (sym s.1 ∙ e)

module _ {C : Type 0} where
  -- the calls of one more of the first updates
  pub calls-more : (us : List (UpdateOf C)) (i : ℕ) (u : UpdateOf C) → slice_get us i ≡ Some u → calls (take (i + 1) us) ≡ calls (take i us) ++ u.call ∷ []
  calls-more us i u e = ap calls (rw add-one (take-suc us i u (slice_get_within us i u e) ∙ ap (λ (y : UpdateOf C). take i us ++ y ∷ []) (get_or_from_slice_get us i u u e))) ∙ map-append (λ (v : UpdateOf C). v.call) (take i us) (u ∷ [])

  -- the sessions of one more of the first updates
  pub writers-more : (us : List (UpdateOf C)) (i : ℕ) (u : UpdateOf C) → slice_get us i ≡ Some u → writers (take (i + 1) us) ≡ writers (take i us) ++ u.session ∷ []
  writers-more us i u e = ap writers (rw add-one (take-suc us i u (slice_get_within us i u e) ∙ ap (λ (y : UpdateOf C). take i us ++ y ∷ []) (get_or_from_slice_get us i u u e))) ∙ map-append (λ (v : UpdateOf C). v.session) (take i us) (u ∷ [])

  take_at_length : (us : List (UpdateOf C)) (u : UpdateOf C) → take (length us + 1) (us ++ u ∷ []) ≡ us ++ u ∷ []
  take_at_length us u = take_all (length us + 1) (us ++ u ∷ []) (omega (arith, length-append us (u ∷ [])))

  -- and of one more update behind them all
  pub calls-push : (us : List (UpdateOf C)) (u : UpdateOf C) → calls (us ++ u ∷ []) ≡ calls us ++ u.call ∷ []
  calls-push us u = map-append (λ (v : UpdateOf C). v.call) us (u ∷ [])

  take-insert : (n at : ℕ) (us : List (UpdateOf C)) (u : UpdateOf C) → n ≤ at → at ≤ length us → take n (insert us at u) ≡ take n us
  take-insert zero at us u before within = refl
  take-insert (suc n) zero us u before within = absurd (omega arith)
  take-insert (suc n) (suc at) [] u before within = absurd (omega arith)
  take-insert (suc n) (suc at) (v ∷ us) u before within = ap (λ (l : List (UpdateOf C)). v ∷ l) (take-insert n at us u (omega arith) (omega arith))

module _ {S C Z : Type 0} (query : C → Bool) (stands : Z → S → List C → Type 0) (z : Z) (start : S) (us : List (UpdateOf C)) where
  -- a state that has taken nothing in
  pub taken-none : stands z start [] → HasTaken query stands z start us 0
  taken-none st = record { within = omega arith; serves = serves-fresh query stands z start st }

  -- an update that comes in behind the first ones
  pub taken-insert : (n at : ℕ) (u : UpdateOf C) → n ≤ at → at ≤ length us → HasTaken query stands z start us n → HasTaken query stands z start (insert us at u) n
  taken-insert n at u before within t = record {
    within = omega (arith, length-insert us at u within);
    serves = subst (λ (l : List (UpdateOf C)). Serves query stands z start (calls l)) (sym (take-insert n at us u before within)) t.serves;
  }

  -- an update that comes in behind them all
  pub taken-behind : (n : ℕ) (u : UpdateOf C) → HasTaken query stands z start us n → HasTaken query stands z start (us ++ u ∷ []) n
  taken-behind n u t = subst (λ (l : List (UpdateOf C)). HasTaken query stands z start l n) (insert_end us u) (taken-insert n (length us) u t.within (omega arith) t)

  -- a state that has applied all of them
  pub taken-all : (n : ℕ) → n ≡ length us → HasTaken query stands z start us n → Serves query stands z start (calls us)
  taken-all n e t = subst (λ (l : List (UpdateOf C)). Serves query stands z start (calls l)) (ap (λ (m : ℕ). take m us) e ∙ take-length us) t.serves

module _ {S C Z : Type 0} (query : C → Bool) (stands : Z → S → List C → Type 0) (z z' : Z) (start : S) (us : List (UpdateOf C)) (c : C) (takes : (ds : List C) → stands z start ds → stands z' start (ds ++ c ∷ [])) where
  -- the next of the updates is delivered
  pub taken-more : (i : ℕ) (u : UpdateOf C) → slice_get us i ≡ Some u → u.call ≡ c → HasTaken query stands z start us i → HasTaken query stands z' start us (i + 1)
  taken-more i u at is t =
      let below = slice_get_within us i u at in record {
        within = omega arith;
        serves = subst (λ (cs : List C). Serves query stands z' start cs) (sym (calls-more us i u at ∙ ap (λ (d : C). calls (take i us) ++ d ∷ []) is))
            (serves-push query stands z z' start (calls (take i us)) c t.serves takes);
      }

  -- an update behind them all is delivered
  pub taken-push : HasTaken query stands z start us (length us) → (u : UpdateOf C) → u.call ≡ c → HasTaken query stands z' start (us ++ u ∷ []) (length us + 1)
  taken-push t u is = record {
    within = omega (arith, length-append us (u ∷ []));
    serves = subst (λ (l : List (UpdateOf C)). Serves query stands z' start (calls l)) (sym (take_at_length us u))
        (subst (λ (cs : List C). Serves query stands z' start cs) (sym (calls-push us u ∙ ap (λ (d : C). calls us ++ d ∷ []) is))
        (serves-push query stands z z' start (calls us) c (taken-all query stands z start us (length us) refl t) takes));
  }

  -- a query is applied
  pub taken-query : query c ≡ true → (n : ℕ) → HasTaken query stands z start us n → HasTaken query stands z' start us n
  taken-query q n t = record { within = t.within; serves = serves-query query stands z z' start (calls (take n us)) c q t.serves takes }

  -- what is answered after all of the updates
  pub answered : {R : Type 0} (answer : S → List C → C → R) → ((s : S) (before after : List C) (q d : C) → query q ≡ true → answer s (before ++ q ∷ after) d ≡ answer s (before ++ after) d)
      → HasTaken query stands z start us (length us) → (r : R) → ((ds : List C) → stands z start ds → r ≡ answer start ds c)
      → (cs : List C) → SameUpdates query (calls us) cs → r ≡ answer start cs c
  answered answer law t r replies = served query stands answer law z start (calls us) c r (taken-all query stands z start us (length us) refl t) replies
