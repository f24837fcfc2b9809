-- What is checked of a choice makes it a whole choice.
use Rattle.std.proofs.Common.{◌≡◌, ℕ, ◌+◌, ◌<◌, ◌≤◌, ◌++◌, true, false, [], ◌∷◌, length, get_or, take, refl, ap, sym, subst, ◌∙◌, ⊎_elim, arith, eqb-true}
use Rattle.std.specs.Prelude.{◌≢◌, All, Bool, Contains, IsTrue, List, Option, Some, None, option_map, slice_get}
use Rattle.std.specs.List.Sorted.{IsStrictlyIncreasing}
use Rattle.std.specs.Map.{keys_of}
use Rattle.std.proofs.lemmas.Bool.{cases_lt}
use Rattle.std.proofs.lemmas.List.{length-map, map-append, get_or-map, take_more}
use Rattle.std.proofs.lemmas.List.Elements.{All-contains, All-push}
use Rattle.std.proofs.lemmas.List.Kept.{AllPairs-from_increasing}
use Rattle.std.proofs.lemmas.List.Quantifiers.{all_pairs_push}
use Rattle.std.proofs.lemmas.Option.{same_Some}
use Rattle.model_objects.specs.Table.{IsRising, value_at}
use Rattle.log_events.specs.declared.event.ClientCall.{ClientCall}
use Rattle.log_events.specs.declared.event.ClientCall.TheVariants.{WriteTo, ReadOf, DeleteOf}
use Rattle.log_events.specs.declared.event.Ending.{Ending}
use Rattle.log_events.specs.declared.event.Ending.TheVariants.{GotNothing, Failed}
use Rattle.log_events.specs.declared.event.Event.{Event}
use Rattle.log_events.specs.declared.event.Event.TheVariants.{Begins, Ends}
use Rattle.log_events.specs.Events.{Call, IsAt, IsEnded, run_calls}
use Rattle.log_events.specs.Histories.{deletes, is_deleted}
use Rattle.log_events.specs.Kept.{IsSmallCall}
use Rattle.log_events.specs.Steps.CallKinds.{missed_key}
use Rattle.log_events.proofs.CallKindsLaws.{place-Contains}
use Rattle.log_events.proofs.CallPlaces.{call_at, calls-to, ended-to}
use Rattle.log_events.proofs.ListPlaces.{list_any-from}
use Rattle.log_choices.specs.Checked.{AreExplained, IsExplained}
use Rattle.log_choices.specs.Choices.{BeginsKeptDelete, Choice, IsCandidate, IsChoice, IsNullRead, IsWhole}
use Rattle.log_choices.specs.ChoiceTables.{choice_in, seen_of}
use Rattle.log_choices.specs.ForcedSteps.{AreDeletes, GetsNothing}
use Rattle.log_choices.specs.declared.forced_kept.Delete.{Delete}
use Rattle.log_choices.specs.declared.forced_looks.NullRead.{NullRead}
use Rattle.log_choices.specs.declared.seen.Seen.{Seen}
use Rattle.log_choices.specs.declared.seen.Seen.TheVariants.{Start}
use Rattle.log_choices.proofs.ForcedCalls.{call-placed, call-unended}
use Rattle.log_choices.proofs.ForcedPasses.{gets-nothing}

-- entries whose places rise, and are below b
pub record AreRisingBelow (b : ℕ) (table : List (ℕ × Seen)) : Type 0 where
  pub rising : IsRising table
  pub below : All (λ entry. entry.0 < b) table

pub none-rising : AreRisingBelow 0 []
none-rising = record { rising = λ i inside. absurd (omega arith); below = λ k e short. absurd (omega arith) }

rising-push : (table : List (ℕ × Seen)) (r : ℕ) (s : Seen) → IsRising table → All (λ entry. entry.0 < r) table
    → IsRising (table ++ (r, s) ∷ [])
rising-push table r s rising below =
    subst IsStrictlyIncreasing (sym (map-append (λ (entry : ℕ × Seen). entry.0) table ((r, s) ∷ [])))
    (λ i inside. all_pairs_push (λ (x y : ℕ). x < y) (keys_of table) r (AllPairs-from_increasing (keys_of table) rising) under i (i + 1) 0
    (omega arith) inside)
  where
    under : (k d : ℕ) → k < length (keys_of table) → get_or (keys_of table) k d < r
    under k d within =
        let short : k < length table = omega (arith, length-map table (λ (entry : ℕ × Seen). entry.0)) in
        rw (get_or-map (λ (entry : ℕ × Seen). entry.0) table k (0, Start) d short) (below k (0, Start) short)

-- one entry more
rising-next : (b : ℕ) (table : List (ℕ × Seen)) (entry : ℕ × Seen) → AreRisingBelow b table → b ≤ entry.0
    → AreRisingBelow (entry.0 + 1) (table ++ entry ∷ [])
rising-next b table entry before above = record {
  rising = rising-push table entry.0 entry.1 before.rising (λ k e short. let less = before.below k e short in omega arith);
  below = All-push (λ (other : ℕ × Seen). other.0 < entry.0 + 1) table entry (λ k e short. let less = before.below k e short in omega arith)
      (omega arith);
}

pub rising-more : (entries : List (ℕ × Seen)) (i : ℕ) (d : ℕ × Seen) (b : ℕ) → i < length entries → b ≤ (get_or entries i d).0
    → AreRisingBelow b (take i entries) → AreRisingBelow ((get_or entries i d).0 + 1) (take (i + 1) entries)
rising-more entries i d b inside above before =
    rw (take_more entries i d inside) (rising-next b (take i entries) (get_or entries i d) before above)

-- a delete of a key that did not fail
deletes-is : (x : ℕ) (call : ClientCall) (ending : Option Ending) → deletes x call ending ≡ true → (call ≡ DeleteOf x) × (ending ≢ Some Failed)
deletes-is x (WriteTo y v) ending is = absurd cc
deletes-is x (ReadOf y) ending is = absurd cc
deletes-is x (DeleteOf y) (Some Failed) is = absurd cc
deletes-is x (DeleteOf y) ending is = (ap (λ (n : ℕ). DeleteOf n) (eqb-true y x is), λ failed. absurd cc)

-- a read that got nothing
missed-is : (call : ClientCall) (ending : Option Ending) (x : ℕ) → missed_key call ending ≡ Some x → (call ≡ ReadOf x) × (ending ≡ Some GotNothing)
missed-is (WriteTo y v) ending x is = absurd cc
missed-is (DeleteOf y) ending x is = absurd cc
missed-is (ReadOf y) (Some GotNothing) x is = (ap (λ (n : ℕ). ReadOf n) (same_Some _ _ is), refl)
missed-is (ReadOf y) ending x is = absurd cc

module _ (es : List Event) where
  -- a key that is deleted has such a delete
  pub named-delete : (x : ℕ) → IsTrue (is_deleted es x) → (p : ℕ) × BeginsKeptDelete es x p
  named-delete x named =
      let (m, a, called, is) = list_any-from (λ (a : Call). deletes x a.call a.ending) (run_calls es) named in
      let (call, stays) = deletes-is x a.call a.ending is in
      let run = place-Contains (run_calls es) m a called in (
        a.place,
        (
          a.client,
          (call-placed es a run).begun ∙ (λ i. Some (Begins a.client (call i))),
          λ k end.
              call-unended es a run Failed stays k (subst (λ (c : ClientCall). IsEnded es a.client c a.place k Failed) (sym call) end),
        ),
      )

  -- a key of which no delete is listed
  pub unlisted-unnamed : (listed : List Delete) (x : ℕ) → AreDeletes es listed → ((d : Delete) → Contains listed d → d.key ≢ x)
      → (client i j : ℕ) → ¬ IsNullRead es client x i j
  unlisted-unnamed listed x are none client i j null =
      let (p, begins) = named-delete x null.named in
      let (d, there, key, _) = are.lists x p begins in none d there key

  -- a null read is the call that began at its place
  pub null-call : (a : Call) → Contains (run_calls es) a → (client x j : ℕ) → IsNullRead es client x a.place j
      → (a.call ≡ ReadOf x) × (a.ending ≡ Some GotNothing)
  null-call a listed client x j null =
      let placed = call-placed es a listed in
      let same = same_Some _ _ (sym placed.begun ∙ null.ended.was_open.begun) in
      let caller : a.client ≡ client = cc in
      let call : a.call ≡ ReadOf x = cc in
      let here = subst (λ (c : ClientCall). IsEnded es a.client c a.place j GotNothing) (sym call)
      (subst (λ (n : ℕ). IsEnded es n (ReadOf x) a.place j GotNothing) (sym caller) null.ended) in
      (call, placed.ended ∙ ended-to es a.client a.call a.place j GotNothing here)

  -- a call that is no read that got nothing is no null read
  pub no-null : (a : Call) → Contains (run_calls es) a → missed_key a.call a.ending ≡ None → (client x j : ℕ) → ¬ IsNullRead es client x a.place j
  no-null a listed none client x j null =
      let (call, ending) = null-call a listed client x j null in
      let found : missed_key a.call a.ending ≡ Some x = λ t. missed_key (call t) (ending t) in
      let same = sym none ∙ found in absurd cc

  pub pending-no-null : (a : Call) → Contains (run_calls es) a → a.ending ≡ None → (client x j : ℕ) → ¬ IsNullRead es client x a.place j
  pending-no-null a listed pending client x j null =
      let (_, ending) = null-call a listed client x j null in
      let same = sym pending ∙ ending in absurd cc

  -- a call that is one gets nothing
  pub null-gets : (a : Call) (n : ℕ) → slice_get (run_calls es) n ≡ Some a → IsSmallCall a → (read : NullRead)
      → ((d : Call) → slice_get (run_calls es) n ≡ Some d → (e : Ending) × IsEnded es d.client d.call d.place read.end e)
      → read.client ≡ a.client → read.place ≡ a.place → missed_key a.call a.ending ≡ Some read.key → GetsNothing es read
  null-gets a n at small read ended client place missed =
      let (call, ending) = missed-is a.call a.ending read.key missed in
      gets-nothing false es a (place-Contains (run_calls es) n a at) small n a at refl read ended client place call ending

  -- a call ends once
  one-end : (client other : ℕ) (call next : ClientCall) (r j k : ℕ) (e f : Ending) → IsEnded es client call r j e → IsEnded es other next r k f → j ≡ k
  one-end client other call next r j k e f end second = ⊎_elim
      {C = j ≡ k}
      (λ (below : j < k). absurd (second.was_open.unended j e end.was_open.earlier below
      (subst (λ (n : ℕ). IsAt es j (Ends n e)) client_same end.ends)))
      (λ (above : k ≤ j). ⊎_elim
      {C = j ≡ k}
      (λ (under : k < j). absurd (end.was_open.unended k f second.was_open.earlier under
      (subst (λ (n : ℕ). IsAt es k (Ends n f)) (sym client_same) second.ends)))
      (λ (over : j ≤ k). omega arith)
      (cases_lt k j))
      (cases_lt j k)
    where
      client_same : client ≡ other
      client_same = let same = same_Some _ _ (sym end.was_open.begun ∙ second.was_open.begun) in cc

  one-key : (client other x y r j k : ℕ) (e f : Ending) → IsEnded es client (ReadOf x) r j e → IsEnded es other (ReadOf y) r k f → x ≡ y
  one-key client other x y r j k e f end second =
      let same = same_Some _ _ (sym end.was_open.begun ∙ second.was_open.begun) in cc

  -- what a listed delete begins
  pub listed-delete : (listed : List Delete) (d : Delete) (x p : ℕ) → AreDeletes es listed → Contains listed d → d.key ≡ x → d.place ≡ p
      → BeginsKeptDelete es x p
  listed-delete listed d x p are there key place =
      subst (λ (n : ℕ). BeginsKeptDelete es n p) key
      (subst (λ (m : ℕ). BeginsKeptDelete es d.key m) place
      (All-contains (λ (e : Delete). BeginsKeptDelete es e.key e.place) listed d are.listed there))

  module _ (in_time : Bool) where
    -- a read that the table has with a candidate
    pub explained-by : (table : List (ℕ × Seen)) (place : ℕ) (read : NullRead) (s : Seen) → GetsNothing es read → read.place ≡ place
        → value_at table read.place ≡ Some s → IsCandidate in_time es read.key read.end (seen_of s)
        → IsExplained in_time es (choice_in table) place
    explained-by table place read s gets here found candidate client x j null =
        let moved = subst (λ (n : ℕ). IsNullRead es client x n j) (sym here) null in
        let key = one-key read.client client read.key x read.place read.end j GotNothing GotNothing gets.ended moved.ended in
        let ends = one-end read.client client (ReadOf read.key) (ReadOf x) read.place read.end j GotNothing GotNothing gets.ended moved.ended in (
          seen_of s,
          ap (choice_in table) (sym here) ∙ ap (option_map seen_of) found,
          subst (λ (n : ℕ). IsCandidate in_time es n j (seen_of s)) key
              (subst (λ (m : ℕ). IsCandidate in_time es read.key m (seen_of s)) ends candidate),
        )

    -- a read of a key of which no delete is listed is no null read
    pub unnamed-explained : (f : Choice) (listed : List Delete) (read : NullRead) (place : ℕ) → AreDeletes es listed → GetsNothing es read
        → read.place ≡ place → ((d : Delete) → Contains listed d → d.key ≢ read.key) → IsExplained in_time es f place
    unnamed-explained f listed read place are gets here none client x j null =
        let moved = subst (λ (n : ℕ). IsNullRead es client x n j) (sym here) null in
        let key = one-key read.client client read.key x read.place read.end j GotNothing GotNothing gets.ended moved.ended in
        absurd (unlisted-unnamed listed x are (λ d there same. none d there (same ∙ sym key)) client place j null)

    -- the first calls that are null reads saw candidates
    abbrev pub AreExplainedBelow : Choice → ℕ → Type 0
    AreExplainedBelow f b = (n : ℕ) (a : Call) → n < b → slice_get (run_calls es) n ≡ Some a → IsExplained in_time es f a.place

    -- one call more
    pub explained-more : (f : Choice) (b : ℕ) → AreExplainedBelow f b
        → ((a : Call) → slice_get (run_calls es) b ≡ Some a → IsExplained in_time es f a.place) → AreExplainedBelow f (b + 1)
    explained-more f b before here n a below at = ⊎_elim
        {C = IsExplained in_time es f a.place}
        (λ (under : n < b). before n a under at)
        (λ (over : b ≤ n). let same : n ≡ b = omega arith in
        here a (subst (λ (m : ℕ). slice_get (run_calls es) m ≡ Some a) same at))
        (cases_lt n b)

    -- each null read is a call
    pub all-explained : (f : Choice) → ((n : ℕ) (a : Call) → slice_get (run_calls es) n ≡ Some a → IsExplained in_time es f a.place)
        → AreExplained in_time es f
    all-explained f each i client x j null =
        let (m, called) = calls-to 0 es i client (ReadOf x) null.ended.was_open.begun in
        let same : 0 + i ≡ i = omega arith in
        subst (λ (n : ℕ). IsExplained in_time es f n) same (each m (call_at 0 i es client (ReadOf x)) called) client x j null

    pub explained-whole : (f : Choice) → AreExplained in_time es f → IsWhole es f
    explained-whole f explained client x i j null none =
        let (c, is, _) = explained i client x j null in
        let same = sym none ∙ is in absurd cc

    pub explained-choice : (f : Choice) → AreExplained in_time es f → IsChoice in_time es f
    explained-choice f explained client x i j c null is =
        let (d, seen, candidate) = explained i client x j null in
        subst (λ (o : Option ℕ). IsCandidate in_time es x j o) (same_Some _ _ (sym seen ∙ is)) candidate
