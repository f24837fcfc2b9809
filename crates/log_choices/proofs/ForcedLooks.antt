-- What a null read can have seen.
use Rattle.std.proofs.Common.{◌≡◌, ℕ, ◌<◌, ◌≤◌, [], ◌∷◌, ap, sym, subst, ◌∙◌, refl, inl, inr, ⊎_elim, arith}
use Rattle.std.specs.Prelude.{◌≢◌, ◌⊎◌, Bool, false, true, List, All, Contains, Option, Some, None, IsTrue, slice_get}
use Rattle.std.proofs.lemmas.Option.{same_Some}
use Rattle.std.proofs.lemmas.List.Elements.{All-contains, All-cons, Contains-append_right}
use Rattle.log_events.specs.declared.event.ClientCall.TheVariants.{WriteTo, DeleteOf}
use Rattle.log_events.specs.declared.event.Ending.TheVariants.{Failed}
use Rattle.log_events.specs.declared.event.Event.{Event}
use Rattle.log_events.specs.declared.event.Event.TheVariants.{Begins, Starts}
use Rattle.log_events.specs.Events.{IsAt}
use Rattle.log_events.specs.Histories.{is_deleted}
use Rattle.log_events.proofs.CallPlaces.{call_at, calls-to, ended-from}
use Rattle.log_events.proofs.ReadSources.{delete-names}
use Rattle.log_choices.specs.Choices.{BeginsKeptDelete, IsCandidate, IsNullRead}
use Rattle.log_choices.specs.Forced.{BeginsWriteOf, Comes, IsOut, after_read, replaced, start_replaced}
use Rattle.log_choices.specs.ForcedSteps.{GetsNothing, IsExcluded, IsFirst, IsKeptWrite, IsLeft, IsLook, IsReplacing, look_by, writing}
use Rattle.log_choices.proofs.ForcedCalls.{all-at}
use Rattle.log_choices.proofs.ForcedStarts.{start-or-none}
use Rattle.log_choices.specs.declared.forced_kept.Kept.{Kept}
use Rattle.log_choices.specs.declared.forced_kept.Delete.{Delete}
use Rattle.log_choices.specs.declared.forced_looks.Left.{Left}
use Rattle.log_choices.specs.declared.forced_looks.Left.TheVariants.{NoneLeft, OneLeft, MoreLeft}
use Rattle.log_choices.specs.declared.forced_looks.Look.TheVariants.{Lacks}
use Rattle.log_choices.specs.declared.forced_looks.NullRead.{NullRead}
use Rattle.log_choices.specs.declared.seen.Seen.{Seen}
use Rattle.log_choices.specs.declared.seen.Seen.TheVariants.{Start, Delete as SeenDelete}
use Rattle.log_choices.specs.ChoiceTables.{seen_of}

module _ (in_time : Bool) (es : List Event) where
  -- a write or delete that did not fail is one of its key
  pub begins-write : (w : Kept) → IsKeptWrite in_time es w → BeginsWriteOf es w.key w.place
  begins-write w kept = (w.client, by_value w.value kept.begun)
    where
      by_value : (v : Option ℕ) → IsAt es w.place (Begins w.client (writing w.key v))
          → ((u : ℕ) × IsAt es w.place (Begins w.client (WriteTo w.key u))) ⊎ IsAt es w.place (Begins w.client (DeleteOf w.key))
      by_value (Some u) at = inl (u, at)
      by_value None at = inr at

  -- a delete that did not fail names its key
  pub kept-names : (x p : ℕ) → BeginsKeptDelete es x p → is_deleted es x ≡ true
  kept-names x p (client, at, stays) =
      let r = calls-to 0 es p client (DeleteOf x) at in
      delete-names es (call_at 0 p es client (DeleteOf x)) x r refl (λ failed.
      let end = ended-from es p (call_at 0 p es client (DeleteOf x)) Failed (record { begun = at; ended = refl }) failed in stays end.0 end.1)

  module _ (read : NullRead) (gets : GetsNothing es read) where
    pub null-read : (p : ℕ) → BeginsKeptDelete es read.key p → IsNullRead es read.client read.key read.place read.end
    null-read p kept = let named : IsTrue (is_deleted es read.key) = kept-names read.key p kept in record { ended = gets.ended; named = named }

    -- a write of the key replaces a delete, or the start
    pub replaced-out : (w : Kept) (p q : ℕ) → BeginsKeptDelete es read.key q → IsKeptWrite in_time es w → w.key ≡ read.key → w.place ≢ p → Comes in_time es p w.place
        → Comes in_time es w.place read.place → IsOut in_time es read.place (Some p)
    replaced-out w p q kept write key other before comes =
        replaced read.client read.key read.end w.place (null-read q kept)
        (subst (λ (x : ℕ). BeginsWriteOf es x w.place) key (begins-write w write)) other before comes

    pub after-out : (p q : ℕ) → BeginsKeptDelete es read.key q → Comes in_time es read.place p → IsOut in_time es read.place (Some p)
    after-out p q kept comes = after_read read.client read.key read.end (null-read q kept) comes

    pub out-by : (writes : List Kept) → All (IsKeptWrite in_time es) writes → (p : ℕ) → BeginsKeptDelete es read.key p → (n : ℕ) → IsReplacing in_time es writes read.key read.place n
        → (w : Kept) → slice_get writes n ≡ Some w → w.place ≢ p → Comes in_time es p w.place → IsOut in_time es read.place (Some p)
    out-by writes all p kept n (v, at, key, before) w there other comes =
        let same : v ≡ w = same_Some _ _ (sym at ∙ there) in
        replaced-out w p p kept (all-at (IsKeptWrite in_time es) writes n w all there) (subst (λ (u : Kept). u.key ≡ read.key) same key) other comes
        (subst (λ (u : Kept). Comes in_time es u.place read.place) same before)

    pub start-out : (w : Kept) (q : ℕ) → BeginsKeptDelete es read.key q → IsKeptWrite in_time es w → w.key ≡ read.key → Comes in_time es w.place read.place
        → IsOut in_time es read.place None
    start-out w q kept write key comes =
        start_replaced read.client read.key read.end w.place (null-read q kept)
        (subst (λ (x : ℕ). BeginsWriteOf es x w.place) key (begins-write w write)) comes

    -- the deletes of the key, of which some are left, and whether the start is
    module _ (deletes : List Delete) (q : ℕ) (kept : BeginsKeptDelete es read.key q)
        (listed : (d : Delete) → Contains deletes d → BeginsKeptDelete es read.key d.place)
        (lists : (p : ℕ) → BeginsKeptDelete es read.key p → (d : Delete) × Contains deletes d × (d.place ≡ p)) where
      out-of : (P : ℕ → Type 0) → ((d : Delete) → Contains deletes d → P d.place) → (p : ℕ) → BeginsKeptDelete es read.key p → P p
      out-of P each p begins = let (d, there, same) = lists p begins in subst P same (each d there)

      candidate-out : (p : ℕ) → IsCandidate in_time es read.key read.end (Some p) → IsExcluded in_time es read.place read.end p
          → IsOut in_time es read.place (Some p)
      candidate-out p (begins, before) excluded = ⊎_elim
          {C = IsOut in_time es read.place (Some p)}
          (λ (out : IsOut in_time es read.place (Some p)). out)
          (λ (late : IsTrue in_time × (read.end ≤ p)). let early = before late.0 in let after = late.1 in absurd (omega arith))
          excluded

      all-out : (outs : All (λ (e : Delete). IsExcluded in_time es read.place read.end e.place) deletes) → (p : ℕ)
          → IsCandidate in_time es read.key read.end (Some p) → IsOut in_time es read.place (Some p)
      all-out outs p candidate = candidate-out p candidate
          (out-of (IsExcluded in_time es read.place read.end)
          (λ d there. All-contains (λ (e : Delete). IsExcluded in_time es read.place read.end e.place) deletes d outs there) p candidate.0)

      -- where each delete begins after the end, the start is a candidate, or nothing is
      start-if-any : All (λ (d : Delete). IsTrue in_time × (read.end ≤ d.place)) deletes
          → IsCandidate in_time es read.key read.end None ⊎ ((c : Option ℕ) → ¬ IsCandidate in_time es read.key read.end c)
      start-if-any late = ⊎_elim
          {C = IsCandidate in_time es read.key read.end None ⊎ ((c : Option ℕ) → ¬ IsCandidate in_time es read.key read.end c)}
          (λ (started : (k : ℕ) × (v : ℕ) × IsAt es k (Starts read.key v)). inr (none started))
          (λ (other : (k v : ℕ) → ¬ IsAt es k (Starts read.key v)). inl other)
          (start-or-none es read.key)
        where
          none : ((k : ℕ) × (v : ℕ) × IsAt es k (Starts read.key v)) → (c : Option ℕ) → ¬ IsCandidate in_time es read.key read.end c
          none (k, v, at) None candidate = candidate k v at
          none started (Some p) (begins, before) =
              let (d, there, same) = lists p begins in
              let timed = All-contains (λ (e : Delete). IsTrue in_time × (read.end ≤ e.place)) deletes d late there in
              let early = before timed.0 in
              let after = timed.1 in
              absurd (omega arith)

      -- where the start is out and all deletes are, the read counts as one that saw this candidate, if there is any
      lacks-from : All (λ (d : Delete). IsExcluded in_time es read.place read.end d.place) deletes
          → (false ≡ false → IsCandidate in_time es read.key read.end None → IsOut in_time es read.place None) → (s : Seen)
          → IsCandidate in_time es read.key read.end (seen_of s) ⊎ ((d : Option ℕ) → ¬ IsCandidate in_time es read.key read.end d)
          → IsLook in_time es read.place (Lacks s)
      lacks-from outs out s candidate = (
        record {
          client = read.client;
          key = read.key;
          ends = read.end;
          null = null-read q kept;
          candidate = candidate;
          others = λ d may other. each d may;
        },
        (read.client, read.key, read.end, null-read q kept, each),
      )
        where
          each : (c : Option ℕ) → IsCandidate in_time es read.key read.end c → IsOut in_time es read.place c
          each None may = out refl may
          each (Some p) may = all-out outs p may

      pub look-from : (left : Left) (b : Bool) → IsLeft in_time es read.place read.end deletes left
          → (b ≡ true → (k v : ℕ) → ¬ IsAt es k (Starts read.key v))
          → (b ≡ false → IsCandidate in_time es read.key read.end None → IsOut in_time es read.place None)
          → (first : Option Delete) → IsFirst in_time read.end deletes first → IsLook in_time es read.place (look_by left b first)
      look-from NoneLeft true outs start out first within = record {
        client = read.client;
        key = read.key;
        ends = read.end;
        null = null-read q kept;
        candidate = inl (start refl);
        others = others;
      }
        where
          others : (d : Option ℕ) → IsCandidate in_time es read.key read.end d → d ≢ None → IsOut in_time es read.place d
          others None candidate other = absurd (other refl)
          others (Some p) candidate other = all-out outs p candidate
      look-from NoneLeft false outs start out (Some first) (there, timed) =
          lacks-from outs out (SeenDelete first.place) (inl (listed first there, timed))
      look-from NoneLeft false outs start out None late = lacks-from outs out Start (start-if-any late)
      look-from (OneLeft e) false (there, timed, outs) start out first within = record {
        client = read.client;
        key = read.key;
        ends = read.end;
        null = null-read q kept;
        candidate = inl (listed e there, timed);
        others = others;
      }
        where
          others : (d : Option ℕ) → IsCandidate in_time es read.key read.end d → d ≢ Some e.place → IsOut in_time es read.place d
          others None candidate other = out refl candidate
          others (Some p) candidate other = candidate-out p candidate
              (out-of (λ (n : ℕ). n ≢ e.place → IsExcluded in_time es read.place read.end n)
              (λ d here. All-contains (λ (a : Delete). a.place ≢ e.place → IsExcluded in_time es read.place read.end a.place) deletes d outs here)
              p candidate.0 (λ same. other (ap (λ (n : ℕ). Some n) same)))
      look-from (OneLeft e) true outs start out first within = tt
      look-from MoreLeft b outs start out first within = tt

module _ (in_time : Bool) (es : List Event) (r j : ℕ) where
  -- one more delete that the read can't have seen, before some, and the first that it can
  pub left-out : (deletes : List Delete) (d : Delete) (left : Left) → IsLeft in_time es r j deletes left → IsExcluded in_time es r j d.place
      → IsLeft in_time es r j (d ∷ deletes) left
  left-out deletes d NoneLeft outs out = All-cons (λ (e : Delete). IsExcluded in_time es r j e.place) d deletes out outs
  left-out deletes d (OneLeft e) (there, timed, outs) out = (
    Contains-append_right (d ∷ []) deletes e there,
    timed,
    All-cons (λ (a : Delete). a.place ≢ e.place → IsExcluded in_time es r j a.place) d deletes (λ _. out) outs,
  )
  left-out deletes d MoreLeft outs out = tt

  pub left-one : (deletes : List Delete) (d : Delete) → IsLeft in_time es r j deletes NoneLeft → (IsTrue in_time → d.place < j)
      → IsLeft in_time es r j (d ∷ deletes) (OneLeft d)
  left-one deletes d outs timed = (
    (0, omega arith, refl),
    timed,
    All-cons (λ (a : Delete). a.place ≢ d.place → IsExcluded in_time es r j a.place) d deletes (λ other. absurd (other refl))
        (λ k e below other. outs k e below),
  )

  -- none so far
  pub left-none : IsLeft in_time es r j [] NoneLeft
  left-none k e below = absurd (omega arith)
