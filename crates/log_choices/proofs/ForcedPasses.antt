-- What a pass keeps: what it has found so far, and what comes before the calls that it comes to.
use Rattle.std.proofs.Common.{◌≡◌, ℕ, ◌+◌, ◌<◌, ◌≤◌, [], ◌∷◌, ◌++◌, length, get_or, set, ap, sym, subst, ◌∙◌, inl, inr, ⊎_elim, arith}
use Rattle.std.proofs.lemmas.Bool.{cases_eq}
use Rattle.std.proofs.lemmas.Option.{same_Some, slice_get_within, get_or_from_slice_get, slice_get-get_or}
use Rattle.std.specs.Prelude.{◌≢◌, ◌⊎◌, Bool, All, Contains, List, Some, slice_get, slice_index, option_map}
use Rattle.std.specs.List.Sorted.{IsStrictlyIncreasing}
use Rattle.std.specs.Map.{keys_of}
use Rattle.std.specs.declared.vec.Vec.{Vec}
use Rattle.std.proofs.lemmas.List.{length-map, map-append, get_or-map, length-set, get_or-set_same, get_or-set_other}
use Rattle.std.proofs.lemmas.List.Elements.{All-push}
use Rattle.std.proofs.lemmas.List.Kept.{AllPairs-from_increasing}
use Rattle.std.proofs.lemmas.List.Quantifiers.{all_pairs_push}
use Rattle.model_objects.specs.Table.{IsRising, value_at}
use Rattle.log_events.specs.declared.event.ClientCall.{ClientCall}
use Rattle.log_events.specs.declared.event.ClientCall.TheVariants.{WriteTo, ReadOf}
use Rattle.log_events.specs.declared.event.Ending.{Ending}
use Rattle.log_events.specs.declared.event.Ending.TheVariants.{Got, GotNothing, Failed, Lost}
use Rattle.log_events.specs.declared.event.Event.{Event}
use Rattle.log_events.specs.declared.event.Event.TheVariants.{Begins}
use Rattle.log_events.specs.Events.{Call, IsAt, IsEnded, run_calls}
use Rattle.log_events.specs.Kept.{IsSmallCall}
use Rattle.log_events.specs.Shapes.{called_key}
use Rattle.log_events.specs.declared.limits.TheConstants.{MAX_NAME}
use Rattle.log_events.proofs.CallKindsLaws.{Contains-place}
use Rattle.log_events.proofs.CallPlaces.{calls-once, calls-rise, ended-to}
use Rattle.log_choices.specs.ChoiceTables.{seen_of}
use Rattle.log_choices.specs.Forced.{Comes, only_left, returned}
use Rattle.log_choices.specs.ForcedSteps.{AreForcedReads, AreFoundBelow, ArePasts, IsKeptWrite, IsLeftWith, IsLook, IsPast}
use Rattle.log_choices.specs.ForcedSteps.{GetsNothing, IsAnswered, IsPastFrom, IsPlan, writing}
use Rattle.log_choices.specs.declared.forced_looks.Look.TheVariants.{Saw}
use Rattle.log_choices.specs.declared.forced_looks.NullRead.{NullRead}
use Rattle.log_choices.specs.declared.forced_kept.Kept.{Kept}
use Rattle.log_choices.specs.declared.forced_plan.Plan.{Plan}
use Rattle.log_choices.specs.declared.seen.Seen.{Seen}
use Rattle.log_choices.specs.declared.seen.Seen.TheVariants.{Start}
use Rattle.log_choices.proofs.CallEffects.{got-returned}
use Rattle.log_choices.proofs.ForcedCalls.{call-ended, call-placed, call-unended, get-at}
use Rattle.log_choices.proofs.ForcedPasts.{IsRaised, past-advanced}
use Rattle.log_choices.proofs.ForcedReadsLaws.{entry-of}

-- an entry after those whose keys are below its own
rising-push : (table : List (ℕ × Seen)) (r : ℕ) (s : Seen) → IsRising table → All (λ entry. entry.0 < r) table
    → IsRising (table ++ (r, s) ∷ [])
rising-push table r s rising below =
    subst IsStrictlyIncreasing (sym (map-append (λ (entry : ℕ × Seen). entry.0) table ((r, s) ∷ [])))
    (λ i inside. all_pairs_push (λ (x y : ℕ). x < y) (keys_of table) r (AllPairs-from_increasing (keys_of table) rising) under i (i + 1) 0
    (omega arith) inside)
  where
    under : (k d : ℕ) → k < length (keys_of table) → get_or (keys_of table) k d < r
    under k d within =
        let short : k < length table = omega (arith, length-map table (λ (entry : ℕ × Seen). entry.0)) in
        rw (get_or-map (λ (entry : ℕ × Seen). entry.0) table k (0, Start) d short) (below k (0, Start) short)

module _ (in_time : Bool) (es : List Event) where
  pub none-forced : AreForcedReads in_time es []
  none-forced = record { seen = λ k e below. absurd (omega arith); rising = λ i inside. absurd (omega arith) }

  pub found-pushed : (table : List (ℕ × Seen)) (r : ℕ) (s : Seen) → AreFoundBelow in_time es r table → IsLeftWith in_time es r (seen_of s)
      → AreFoundBelow in_time es (r + 1) (table ++ (r, s) ∷ [])
  found-pushed table r s found left = record {
    forced = record {
      seen = All-push (λ (entry : ℕ × Seen). IsLeftWith in_time es entry.0 (seen_of entry.1)) table (r, s) found.forced.seen left;
      rising = rising-push table r s found.forced.rising found.below;
    };
    below = All-push (λ (entry : ℕ × Seen). entry.0 < r + 1) table (r, s) (λ k e short. let less = found.below k e short in omega arith)
        (omega arith);
  }

  pub found-later : (table : List (ℕ × Seen)) (a b : ℕ) → a ≤ b → AreFoundBelow in_time es a table → AreFoundBelow in_time es b table
  found-later table a b later found = record {
    forced = found.forced;
    below = λ k e short. let less = found.below k e short in omega arith;
  }

  -- the delete that a read must have seen comes before it
  pub seen-comes : (r p : ℕ) → IsLeftWith in_time es r (Some p) → Comes in_time es p r
  seen-comes r p left = only_left left.client left.key left.ends left.null left.others

  -- what an earlier pass has found
  pub look-earlier : (table : List (ℕ × Seen)) (r : ℕ) (s : Seen) → AreForcedReads in_time es table → Some s ≡ value_at table r → IsLook in_time es r (Saw s)
  look-earlier table r s forced is = entry-of in_time es table r (seen_of s) forced.seen (ap (option_map seen_of) (sym is))

  -- a write comes before a read that got its value
  pub source-comes : (w : Kept) → IsKeptWrite in_time es w → (a : Call) → Contains (run_calls es) a → (x v : ℕ) → a.call ≡ ReadOf x
      → a.ending ≡ Some (Got v) → w.key ≡ x → w.value ≡ Some v → Comes in_time es w.place a.place
  source-comes w kept a listed x v read got key value = returned (record {
    client = w.client;
    reader = a.client;
    x = x;
    v = v;
    j = end.0;
    write = record {
      begun = subst (λ (d : ClientCall). IsAt es w.place (Begins w.client d)) same kept.begun;
      not_failed = λ k failed. kept.not_failed k (subst (λ (d : ClientCall). IsEnded es w.client d w.place k Failed) (sym same) failed);
      returned = λ k lost. got-returned es a.client x a.place end.0 v end.1;
    };
    read = end.1;
  })
    where
      same : writing w.key w.value ≡ WriteTo x v
      same = λ i. writing (key i) (value i)

      end : (j : ℕ) × IsEnded es a.client (ReadOf x) a.place j (Got v)
      end = let (j, ended) = call-ended es a listed (Got v) got in (j, subst (λ (d : ClientCall). IsEnded es a.client d a.place j (Got v)) read ended)

  -- a write with other counts of what comes before it
  pub kept-renewed : (w v : Kept) → IsKeptWrite in_time es w → v ≡ record w { past = v.past } → IsPast in_time es v.past.items w.place → IsKeptWrite in_time es v
  kept-renewed w v kept is past = subst (IsKeptWrite in_time es) (sym is) (record {
    begun = kept.begun;
    not_failed = kept.not_failed;
    not_lost = kept.not_lost;
    small = kept.small;
    past = past;
  })

  -- nothing is known to come before calls by counts that are 0
  pub blank-past : (counts : List ℕ) → ((c : ℕ) → slice_index counts c ≡ 0) → (client b : ℕ) → IsPastFrom in_time es client b counts
  blank-past counts blank client b q call later at c p is = let none = blank c in absurd (omega arith)

  pub past-later : (client a b : ℕ) (counts : List ℕ) → a ≤ b → IsPastFrom in_time es client a counts → IsPastFrom in_time es client b counts
  past-later client a b counts later past q call above at = past q call (omega arith) at

  pub past-here : (a : Call) (counts : List ℕ) → Contains (run_calls es) a → IsPastFrom in_time es a.client a.place counts → IsPast in_time es counts a.place
  past-here a counts listed past = past a.place a.call (omega arith) (call-placed es a listed).begun

  -- after a call that neither failed nor was lost, and after one that did
  pub gone-past : (a : Call) (old new : List ℕ) → Contains (run_calls es) a → (a.ending ≡ Some Lost ⊎ a.ending ≡ Some Failed → ⊥)
      → IsRaised old new a.client a.place → IsPast in_time es old a.place → IsPastFrom in_time es a.client (a.place + 1) new
  gone-past a old new listed stays raised past =
      past-advanced in_time es a.client a.place a.call old new raised (call-placed es a listed).begun
      (call-unended es a listed Failed (λ failed. stays (inr failed))) (call-unended es a listed Lost (λ lost. stays (inl lost))) past

  pub not-gone : (a : Call) (counts : List ℕ) → a.ending ≡ Some Lost ⊎ a.ending ≡ Some Failed
      → IsPastFrom in_time es a.client a.place counts ⊎ IsAnswered a.ending → IsPastFrom in_time es a.client (a.place + 1) counts
  not-gone a counts ended later = ⊎_elim
      {C = IsPastFrom in_time es a.client (a.place + 1) counts}
      (λ (past : IsPastFrom in_time es a.client a.place counts). past-later a.client a.place (a.place + 1) counts (omega arith) past)
      (λ (answered : IsAnswered a.ending). absurd (⊎_elim {C = ⊥} answered.2 answered.1 ended))
      later

  -- a call that is a read that got nothing, by its number and by the place at which the call of that number ended
  pub gets-nothing : (a : Call) → Contains (run_calls es) a → IsSmallCall a → (n : ℕ) (b : Call) → slice_get (run_calls es) n ≡ Some b
      → b.place ≡ a.place → (read : NullRead)
      → ((d : Call) → slice_get (run_calls es) n ≡ Some d → (e : Ending) × IsEnded es d.client d.call d.place read.end e)
      → read.client ≡ a.client → read.place ≡ a.place → a.call ≡ ReadOf read.key → a.ending ≡ Some GotNothing → GetsNothing es read
  gets-nothing a listed small n b at same read ended client place call ending = record {
    small = subst (λ (d : ClientCall). called_key d ≤ MAX_NAME) call small.key;
    ended = subst (λ (m : ℕ). IsEnded es read.client (ReadOf read.key) m read.end GotNothing) (sym place)
        (subst (λ (m : ℕ). IsEnded es m (ReadOf read.key) a.place read.end GotNothing) (sym client)
        (subst (λ (d : ClientCall). IsEnded es a.client d a.place read.end GotNothing) call own));
  }
    where
      number : (k : ℕ) × (slice_get (run_calls es) k ≡ Some a)
      number = Contains-place (run_calls es) a listed

      here : slice_get (run_calls es) n ≡ Some a
      here = ap (slice_get (run_calls es)) (calls-once es n number.0 b a at number.1 same) ∙ number.1

      last : (e : Ending) × IsEnded es a.client a.call a.place read.end e
      last = ended a here

      nothing : last.0 ≡ GotNothing
      nothing = same_Some _ _ (sym (sym ending ∙ (call-placed es a listed).ended ∙ ended-to es a.client a.call a.place read.end last.0 last.1))

      own : IsEnded es a.client a.call a.place read.end GotNothing
      own = subst (λ (e : Ending). IsEnded es a.client a.call a.place read.end e) nothing last.1

  -- what is known before the call of a number, by the plan, the pasts of the clients, and what is found
  pub record IsPassed {Z : Type 0} (i : ℕ) (plan : Plan) (pasts : List (Vec ℕ Z)) (table : List (ℕ × Seen)) : Type 0 where
    pub from : ℕ
    pub later : (k : ℕ) (a : Call) → i ≤ k → slice_get (run_calls es) k ≡ Some a → from ≤ a.place
    pub planned : IsPlan in_time es plan
    pub known : ArePasts in_time es from pasts
    pub found : AreFoundBelow in_time es from table

  pub passed-first : {Z : Type 0} (plan : Plan) (pasts : List (Vec ℕ Z)) → IsPlan in_time es plan → ((b : ℕ) → ArePasts in_time es b pasts)
      → IsPassed 0 plan pasts []
  passed-first plan pasts is all = record {
    from = 0;
    later = λ k a above at. omega arith;
    planned = is;
    known = all 0;
    found = record { forced = none-forced; below = λ k e below. absurd (omega arith) };
  }

  -- after a call
  pub passed-next : {Z : Type 0} (i k : ℕ) (plan after : Plan) (pasts : List (Vec ℕ Z)) (past : Vec ℕ Z) (table more : List (ℕ × Seen))
      (a : Call) → IsPassed i plan pasts table → slice_get (run_calls es) i ≡ Some a → k ≡ a.client → IsPlan in_time es after
      → IsPastFrom in_time es a.client (a.place + 1) past.items → AreFoundBelow in_time es (a.place + 1) more
      → IsPassed (i + 1) after (set pasts k past) more
  passed-next {Z} i k plan after pasts past table more a passed at same is own found =
      subst (λ (n : ℕ). IsPassed (i + 1) after (set pasts n past) more) (sym same) (record {
        from = a.place + 1;
        later = λ m b above there. let less = calls-rise 0 es i m a b (omega arith) at there in omega arith;
        planned = is;
        known = each;
        found = found;
      })
    where
      first : passed.from ≤ a.place
      first = passed.later i a (omega arith) at

      each : ArePasts in_time es (a.place + 1) (set pasts a.client past)
      each client there stands = ⊎_elim
          {C = IsPastFrom in_time es client (a.place + 1) there.items}
          (λ (same : client ≡ a.client).
          let inside : a.client < length pasts = omega (arith, slice_get_within (set pasts a.client past) client there stands, length-set pasts a.client past) in
          let new : past ≡ there = sym (get_or-set_same pasts a.client past there inside)
          ∙ ap (λ (n : ℕ). get_or (set pasts a.client past) n there) (sym same) ∙ get_or_from_slice_get _ client there there stands in
          subst (λ (v : Vec ℕ Z). IsPastFrom in_time es client (a.place + 1) v.items) new
          (subst (λ (n : ℕ). IsPastFrom in_time es n (a.place + 1) past.items) (sym same) own))
          (λ (other : client ≢ a.client).
          let inside : client < length pasts = omega (arith, slice_get_within (set pasts a.client past) client there stands, length-set pasts a.client past) in
          let old : get_or pasts client there ≡ there = sym (get_or-set_other pasts a.client client past there other)
          ∙ get_or_from_slice_get _ client there there stands in
          past-later client passed.from (a.place + 1) there.items (omega (arith, first))
          (passed.known client there (get-at pasts client there inside (sym old))))
          (cases_eq client a.client)

  -- after a call of a client of which nothing is kept
  pub passed-over : {Z : Type 0} (i : ℕ) (plan : Plan) (pasts : List (Vec ℕ Z)) (table : List (ℕ × Seen)) → IsPassed i plan pasts table
      → IsPassed (i + 1) plan pasts table
  passed-over i plan pasts table passed = record {
    from = passed.from;
    later = λ k a above at. passed.later k a (omega arith) at;
    planned = passed.planned;
    known = passed.known;
    found = passed.found;
  }

  pub passed-past : {Z : Type 0} (i k : ℕ) (plan : Plan) (pasts : List (Vec ℕ Z)) (table : List (ℕ × Seen)) (a : Call) (d : Vec ℕ Z)
      → IsPassed i plan pasts table → slice_get (run_calls es) i ≡ Some a → k ≡ a.client → k < length pasts
      → IsPastFrom in_time es a.client a.place (get_or pasts k d).items
  passed-past i k plan pasts table a d passed at client inside =
      let own = passed.known k (get_or pasts k d) (slice_get-get_or pasts k d inside) in
      past-later a.client passed.from a.place (get_or pasts k d).items (passed.later i a (omega arith) at)
      (subst (λ (n : ℕ). IsPastFrom in_time es n passed.from (get_or pasts k d).items) client own)

  pub passed-found : {Z : Type 0} (i : ℕ) (plan : Plan) (pasts : List (Vec ℕ Z)) (table : List (ℕ × Seen)) (a : Call)
      → IsPassed i plan pasts table → slice_get (run_calls es) i ≡ Some a → AreFoundBelow in_time es a.place table
  passed-found i plan pasts table a passed at = found-later table passed.from a.place (passed.later i a (omega arith) at) passed.found
