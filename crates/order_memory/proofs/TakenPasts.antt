-- How an operation is taken in with all that its vector counts.
use Rattle.std.specs.Prelude.{◌≡◌, ◌≢◌, ℕ, ◌+◌, ◌-◌, ◌<◌, ◌≤◌, [], length, max, MatchOption, Option, None, Some, slice_index}
use Rattle.std.proofs.Common.{zero, suc, arith, refl, sym, ap, subst, ◌∙◌, ⊎_elim, inl, inr}
use Rattle.std.proofs.lemmas.Bool.{cases_eq, cases_lt}
use Rattle.std.proofs.lemmas.List.{get_or_past}
use Rattle.model_history.specs.declared.op_id.OpId.{OpId}
use Rattle.model_history.specs.History.{IsOp, session}
use Rattle.order_memory.specs.declared.growing_order.GrowingOrder.{GrowingOrder}
use Rattle.order_memory.specs.CountSums.{sum_below}
use Rattle.order_memory.specs.Memory.{MemoryHistory}
use Rattle.order_memory.specs.SourceOrder.{IsSource, IsSourceEdge, SourceOrder}
use Rattle.order_memory.specs.Sources.{Sources}
use Rattle.order_memory.specs.Steps.GrowthSteps.{Always, IsIn, IsInclusion, NoReads}
use Rattle.order_memory.specs.Steps.HappenedBefores.{AreStrictOf}
use Rattle.order_memory.specs.Steps.Indexed.{ListsSourcesIfAny, IsSourceIfAny, listed_source}
use Rattle.order_memory.specs.Steps.TakingIn.{IncludesPast, IsNextReady, IsRaisedCausal, IsReady, TakesOne, TakesPast, TakesSome}
use Rattle.order_causal.specs.Orders.{op}
use Rattle.order_causal.specs.Vectors.{Counts, count, IsCounted}
use Rattle.order_causal.proofs.OrdersLaws.{same_op, session-of_history}
use Rattle.order_causal.proofs.PathsLaws.{leads-edge, leads-leads}
use Rattle.order_memory.proofs.CountSumsLaws.{sum-changed, sum-within}
use Rattle.order_memory.proofs.GrowthLaws.{grows-same, grows-step, grows-then}
use Rattle.order_memory.proofs.IndexedLaws.{listed-if_any}
use Rattle.order_memory.proofs.MemoryLaws.{write-of_history}
use Rattle.order_memory.proofs.Raises.{grows-outside}
use Rattle.order_memory.proofs.SourceVectors.{counted-back, counted-within, counts-before, own-count}
use Rattle.order_memory.proofs.StrictLaws.{strict-straight, within-strict}
use Rattle.order_memory.proofs.TakenIn.{before-row, begun-grown, source-counted, strict-before}

-- a sum of numbers of which one is larger, and none smaller, is larger
sum-less : (f g : ℕ → ℕ) (n i : ℕ) → i < n → ((j : ℕ) → f j ≤ g j) → f i < g i → sum_below f n < sum_below g n
sum-less f g zero i below within less = absurd (omega arith)
sum-less f g (suc n) i below within less = ⊎_elim
    (λ (last : i ≡ n).
    let rest = sum-within f g n (λ j under. within j) in
    let here : f n < g n = subst (λ (j : ℕ). f j < g j) last less in
    omega arith)
    (λ (apart : i ≢ n).
    let rest = sum-less f g n i (omega arith) within less in
    let last = within n in
    omega arith)
    (cases_eq i n)

module _ (h : MemoryHistory) where
  -- the source that is listed for an operation is of a session of the history
  pub source-session : (sources : Sources) → ListsSourcesIfAny h sources → (o w : OpId) → Some w ≡ listed_source sources o → w.session < length h.1
  source-session sources lists o w same =
      let is = subst (λ (e : Option OpId). IsSourceIfAny h o e) (sym same) (listed-if_any h sources lists o) in
      session-of_history h w (write-of_history h w is.0.0 is.0.1 is.0.2)

  -- one inclusion after another
  pub inclusion-then : (a b x : GrowingOrder) → IsInclusion h a b → IsInclusion h b x → IsInclusion h a x
  inclusion-then a b x first second = record {
    counts = second.counts ∙ first.counts;
    pending = second.pending ∙ first.pending;
    past = λ s. let one = first.past s in let two = second.past s in omega arith;
    added = second.added ∙ first.added;
    raises = second.raises ∙ first.raises;
    cyclic = second.cyclic ∙ first.cyclic;
    most = second.most ∙ first.most;
  }

  module _ (a : GrowingOrder) (ready : IsReady h a) (o : OpId) (is_op : IsOp h o) (next : slice_index a.past.items o.session ≤ o.index) where
    -- its vector was not raised
    pub unraised : (t : ℕ) → count a.counts o t ≡ count ready.begun.strict o t
    unraised t = ready.begun.outside o t next

    pub unraised-own : count a.counts o o.session ≡ o.index
    unraised-own = unraised o.session ∙ ready.begun.own o is_op

    -- of no session that isn't there anything is counted
    pub none-past : (t : ℕ) → length h.1 ≤ t → count a.counts o t ≡ 0
    none-past t past =
        let none = ap (λ es. length es) (get_or_past h.1 t [] past) in
        let most = ready.growing.counts.held o t is_op in
        omega arith

    module _ (sources : Sources) (lists : ListsSourcesIfAny h sources) (blocked : (t : ℕ) → t < length h.1 → ¬ IsNextReady sources a o t) where
      -- the next operation of a session
      abbrev next_of : ℕ → OpId
      next_of t = op t (slice_index a.past.items t)

      -- how much the causal order puts before an operation
      abbrev size : OpId → ℕ
      size p = sum_below (λ s. count ready.begun.causal p s) (length h.1)

      next-before : (t : ℕ) → slice_index a.past.items t < count a.counts o t → SourceOrder h (next_of t) o
      next-before t left = let same = unraised t in strict-before h a ready.begun o is_op t (slice_index a.past.items t) (omega arith)

      next-op : (t : ℕ) → slice_index a.past.items t < count a.counts o t → IsOp h (next_of t)
      next-op t left = let most = ready.growing.counts.held o t is_op in omega arith

      -- its source is not in, and less is before the next operation of the session of the source
      blocked-by : (t : ℕ) → slice_index a.past.items t < count a.counts o t → (w : OpId) → IsSource h w (next_of t) → slice_index a.past.items w.session ≤ w.index
          → (slice_index a.past.items w.session < count a.counts o w.session) × (size (next_of w.session) < size (next_of t))
      blocked-by t left w source out =
          let v = ready.begun.causal in
          let n = next_of t in
          let n_is_op = next-op t left in
          let edge = leads-edge (IsSourceEdge h) w n (inr source) in
          let before = leads-leads (IsSourceEdge h) w n o edge (next-before t left) in
          let counted = before-row h a ready.begun o w is_op before in
          let w_is_op = (source-counted h a ready.begun n w n_is_op source).0 in
          let own_w = own-count h v ready.begun.counts w w_is_op in
          let own_n = own-count h v ready.begun.counts n n_is_op in
          let u = next_of w.session in
          let counts_u : IsCounted v w u = omega arith in
          let of_w = counted-within h v ready.begun.counts w u w_is_op counts_u in
          let counts_w = counts-before h v ready.begun.counts n w n_is_op edge in
          let of_n = counted-within h v ready.begun.counts n w n_is_op counts_w in
          let less : count v w t ≤ slice_index a.past.items t = ⊎_elim
          (λ (back : slice_index a.past.items t < count v w t).
          let same = counted-back h v ready.begun.counts w n w_is_op n_is_op counts_w back in
          absurd ((source-counted h a ready.begun n w n_is_op source).1 same))
          (λ (up_to : count v w t ≤ slice_index a.past.items t). up_to)
          (cases_lt (slice_index a.past.items t) (count v w t)) in
          let exists = session-of_history h n n_is_op in
          let here = of_w t in (
            omega arith,
            sum-less (λ s. count v u s) (λ s. count v n s) (length h.1) t exists (λ s. let one = of_w s in let two = of_n s in omega arith) (omega arith),
          )

      blocked-none : (t : ℕ) → slice_index a.past.items t < count a.counts o t
          → ((u : ℕ) → size (next_of u) < size (next_of t) → slice_index a.past.items u < count a.counts o u → ⊥)
          → (e : Option OpId) → e ≡ listed_source sources (next_of t) → IsSourceIfAny h (next_of t) e → ⊥
      blocked-none t left earlier None same source =
          let exists = session-of_history h (next_of t) (next-op t left) in
          blocked t exists (left, subst (λ (e : Option OpId). MatchOption e Always (IsIn a)) same tt)
      blocked-none t left earlier (Some w) same source =
          let exists = session-of_history h (next_of t) (next-op t left) in
          ⊎_elim
          (λ (is_in : IsIn a w). blocked t exists (left, subst (λ (e : Option OpId). MatchOption e Always (IsIn a)) same is_in))
          (λ (out : slice_index a.past.items w.session ≤ w.index). let by = blocked-by t left w source out in earlier w.session by.1 by.0)
          (cases_lt w.index (slice_index a.past.items w.session))

      never : (k t : ℕ) → size (next_of t) < k → slice_index a.past.items t < count a.counts o t → ⊥
      never zero t less left = omega arith
      never (suc k) t less left =
          blocked-none t left (λ u fewer left_u. never k u (omega arith) left_u) (listed_source sources (next_of t)) refl (listed-if_any h sources lists (next_of t))

      -- where no operation is ready, all that the vector counts is in
      pub all-in : (t : ℕ) → count a.counts o t ≤ slice_index a.past.items t
      all-in t = ⊎_elim
          (λ (left : slice_index a.past.items t < count a.counts o t). absurd (never (size (next_of t) + 1) t (omega arith) left))
          (λ (up_to : count a.counts o t ≤ slice_index a.past.items t). up_to)
          (cases_lt (slice_index a.past.items t) (count a.counts o t))

  module _ (a : GrowingOrder) (ready : IsReady h a) (o : OpId) (is_op : IsOp h o) (next : slice_index a.past.items o.session ≤ o.index) where
    -- nothing is taken in
    pub some-none : TakesSome h a a o
    some-none = record {
      ready = ready;
      grows = grows-same h Always NoReads a ready.growing;
      kept = λ p s is_in. refl;
      from = λ t. omega arith;
      most = λ t. omega arith;
    }

    module _ (b : GrowingOrder) (some : TakesSome h a b o) where
      -- the operation itself is not
      pub still-out : slice_index b.past.items o.session ≤ o.index
      still-out = let own = unraised-own a ready o is_op next in let most = some.most o.session in omega arith

      pub same-row : (t : ℕ) → count b.counts o t ≡ count a.counts o t
      same-row t = grows-outside h Always NoReads a.counts a b some.grows (λ p s behind. refl) o t still-out

      -- one more is taken in
      pub some-next : (x : GrowingOrder) (t : ℕ) → slice_index b.past.items t < count b.counts o t → TakesOne h b x (op t (slice_index b.past.items t)) → TakesSome h a x o
      some-next x t below one = record {
        ready = one.ready;
        grows = grows-then h Always NoReads a b x some.grows one.grows;
        kept = λ p s is_in. let from = some.from p.session in one.kept p s (omega arith) ∙ some.kept p s is_in;
        from = λ u. ⊎_elim
            (λ (here : u ≡ t).
            let is = one.here in
            let from = some.from t in
            subst (λ (k : ℕ). slice_index a.past.items k ≤ slice_index x.past.items k) (sym here) (omega arith))
            (λ (apart : u ≢ t). let same = one.others u apart in let from = some.from u in omega arith)
            (cases_eq u t);
        most = λ u. ⊎_elim
            (λ (here : u ≡ t).
            let is = one.here in
            let row = same-row t in
            subst (λ (k : ℕ). slice_index x.past.items k ≤ max (slice_index a.past.items k) (count a.counts o k)) (sym here) (omega arith))
            (λ (apart : u ≢ t). let same = one.others u apart in let most = some.most u in omega arith)
            (cases_eq u t);
      }

      -- what is ready still is while no operation of its session is taken in
      still-in : (e : Option OpId) → MatchOption e Always (IsIn a) → MatchOption e Always (IsIn b)
      still-in None is = tt
      still-in (Some w) is = let from = some.from w.session in omega arith

      pub some-more : (sources : Sources) (t : ℕ) → IsNextReady sources a o t → ¬ IsNextReady sources b o t → slice_index a.past.items t < slice_index b.past.items t
      some-more sources t first last = ⊎_elim
          (λ (more : slice_index a.past.items t < slice_index b.past.items t). more)
          (λ (up_to : slice_index b.past.items t ≤ slice_index a.past.items t).
          let from = some.from t in
          let same : slice_index a.past.items t ≡ slice_index b.past.items t = omega arith in
          let row = same-row t in
          let less = first.0 in
          absurd (last (
            omega arith,
            subst (λ (i : ℕ). MatchOption (listed_source sources (op t i)) Always (IsIn b)) same
                (still-in (listed_source sources (op t (slice_index a.past.items t))) first.1),
          )))
          (cases_lt (slice_index a.past.items t) (slice_index b.past.items t))

      -- more are taken in
      pub some-then : (x : GrowingOrder) → TakesSome h b x o → TakesSome h a x o
      some-then x second = record {
        ready = second.ready;
        grows = grows-then h Always NoReads a b x some.grows second.grows;
        kept = λ p s is_in. let from = some.from p.session in second.kept p s (omega arith) ∙ some.kept p s is_in;
        from = λ t. let one = some.from t in let two = second.from t in omega arith;
        most = λ t. let one = some.most t in let two = second.most t in let row = same-row t in omega arith;
      }

      -- fewer operations are left
      pub left-fewer : (x : GrowingOrder) (t : ℕ) → t < length h.1 → TakesSome h b x o → slice_index b.past.items t < slice_index x.past.items t
          → sum_below (λ u. length (session h u) - slice_index x.past.items u) (length h.1) < sum_below (λ u. length (session h u) - slice_index b.past.items u) (length h.1)
      left-fewer x t exists second more =
          let most = second.ready.growing.past t in
          sum-less (λ u. length (session h u) - slice_index x.past.items u) (λ u. length (session h u) - slice_index b.past.items u) (length h.1) t exists
          (λ u. let from = second.from u in omega arith) (omega arith)

      pub left-less : (x : GrowingOrder) (t : ℕ) → t < length h.1 → slice_index b.past.items t < count b.counts o t → TakesOne h b x (op t (slice_index b.past.items t))
          → sum_below (λ u. length (session h u) - slice_index x.past.items u) (length h.1) < sum_below (λ u. length (session h u) - slice_index b.past.items u) (length h.1)
      left-less x t exists below one =
          let is = one.here in
          let most = some.ready.growing.counts.held o t is_op in
          let sums = sum-changed (λ u. length (session h u) - slice_index x.past.items u) (λ u. length (session h u) - slice_index b.past.items u) (length h.1) t 1 0 exists
          (omega arith) (λ u under apart. let same = one.others u apart in omega arith) in
          omega arith

      module _ (all : (t : ℕ) → count b.counts o t ≤ slice_index b.past.items t) where
        -- then the operation is the next one, and its source is in
        pub last-next : o.index ≡ slice_index b.past.items o.session
        last-next = let own = unraised-own a ready o is_op next in let row = same-row o.session in let most = all o.session in let out = still-out in omega arith

        source-in : (e : Option OpId) → IsSourceIfAny h o e → MatchOption e Always (IsIn b)
        source-in None none = tt
        source-in (Some w) source = let counted = (source-counted h b some.ready.begun o w is_op source).2 in let most = all w.session in omega arith

        pub last-source : (sources : Sources) → ListsSourcesIfAny h sources → MatchOption (listed_source sources o) Always (IsIn b)
        last-source sources lists = source-in (listed_source sources o) (listed-if_any h sources lists o)

        pub some-all : (x : GrowingOrder) → TakesOne h b x o → TakesPast h a x o
        some-all x one = record {
          ready = one.ready;
          grows = grows-then h Always NoReads a b x some.grows one.grows;
          kept = λ p s is_in. let from = some.from p.session in one.kept p s (omega arith) ∙ some.kept p s is_in;
          here = one.here;
          others = λ t exists apart.
              let same = one.others t apart in
              let row = same-row t in
              let most = some.most t in
              let from = some.from t in
              let enough = all t in
              omega arith;
        }

    -- what an operation counts that is taken in so is in
    new-inside : (b : GrowingOrder) (includes : IncludesPast h a b o) (begun : IsRaisedCausal h b) (strict : AreStrictOf h begun.causal begun.strict)
        → ((p : OpId) (s : ℕ) → count b.counts p s ≡ count begun.strict p s) → (p : OpId) (y : ℕ) → IsIn b p → slice_index a.past.items p.session ≤ p.index → y < length h.1
        → count b.counts p y ≤ slice_index b.past.items y
    new-inside b includes begun strict is p y is_in new exists =
        let up_to = includes.growing.past p.session in
        let p_is_op : IsOp h p = omega arith in
        let row : (t : ℕ) → count a.counts o t ≡ count begun.strict o t = λ t. sym (ap (λ (v : Counts). count v o t) includes.inclusion.counts) ∙ is o t in
        let at_y : count begun.strict o y ≤ slice_index b.past.items y = ⊎_elim
        (λ (own : y ≡ o.session).
        let here = includes.here in
        let index = strict.own o is_op in
        subst (λ (t : ℕ). count begun.strict o t ≤ slice_index b.past.items t) (sym own) (omega arith))
        (λ (apart : y ≢ o.session). let others = includes.others y exists apart in let same = row y in omega arith)
        (cases_eq y o.session) in
        let now = is p y in
        ⊎_elim
        (λ (same : p.session ≡ o.session).
        let here = includes.here in
        let in_o : p.index < slice_index b.past.items o.session = subst (λ (t : ℕ). p.index < slice_index b.past.items t) same is_in in
        ⊎_elim
        (λ (last : p.index ≡ o.index).
        let one = ap (λ (q : OpId). count begun.strict q y) (same_op p o same last) in
        omega arith)
        (λ (before : p.index ≢ o.index).
        let index = strict.own o is_op in
        let counted : IsCounted begun.strict o p = subst (λ (t : ℕ). p.index < count begun.strict o t) (sym same) (omega arith) in
        let less = within-strict h begun.causal begun.strict begun.counts strict p o y is_op counted in
        omega arith)
        (cases_eq p.index o.index))
        (λ (apart : p.session ≢ o.session).
        let p_exists = session-of_history h p p_is_op in
        let others = includes.others p.session p_exists apart in
        let same = row p.session in
        let counted : IsCounted begun.strict o p = omega arith in
        let less = within-strict h begun.causal begun.strict begun.counts strict p o y is_op counted in
        omega arith)
        (cases_eq p.session o.session)

    -- where nothing was added, all is taken in as it is
    pub included-past : (b : GrowingOrder) → a.added ≡ 0 → IncludesPast h a b o → TakesPast h a b o
    included-past b none includes =
        let grows = grows-step h Always NoReads a b includes.growing (inr (inl includes.inclusion)) in
        let begun = begun-grown h a b grows ready.begun in
        let strict : AreStrictOf h begun.causal begun.strict = record { own = begun.own; others = begun.others } in
        let is = begun.untouched (includes.inclusion.added ∙ none) in
        let straight = strict-straight h begun.causal begun.strict begun.counts strict in
        let most = includes.growing.past in
        let from = includes.inclusion.past in
        let same : (p : OpId) (s : ℕ) → count b.counts p s ≡ count a.counts p s = λ p s. ap (λ (v : Counts). count v p s) includes.inclusion.counts in
        record {
          ready = record {
            growing = includes.growing;
            begun = begun;
            transitive = record {
              empty = ap (λ es. length es) includes.inclusion.pending ∙ ready.transitive.empty;
              inside = λ p y is_in. ⊎_elim
                  (λ (old : IsIn a p). let before = ready.transitive.inside p y old in let rises = from y in let now = same p y in omega arith)
                  (λ (new : slice_index a.past.items p.session ≤ p.index). ⊎_elim
                  (λ (exists : y < length h.1). new-inside b includes begun strict is p y is_in new exists)
                  (λ (past : length h.1 ≤ y).
                  let p_most = most p.session in
                  let p_is_op : IsOp h p = omega arith in
                  let held = includes.growing.counts.held p y p_is_op in
                  let nothing = ap (λ es. length es) (get_or_past h.1 y [] past) in
                  omega arith)
                  (cases_lt y (length h.1)))
                  (cases_lt p.index (slice_index a.past.items p.session));
              monotone = λ s j z below.
                  let up_to = most s in
                  let rises = straight.monotone s j z (omega arith) in
                  let one = is (op s j) z in
                  let two = is (op s (j + 1)) z in
                  omega arith;
              pasts = λ p y i z is_in ends.
                  let up_to = most p.session in
                  let within = straight.within p y i z (omega arith) (sym (is p y) ∙ ends) in
                  let one = is (op y i) z in
                  let two = is p z in
                  omega arith;
            };
          };
          grows = grows;
          kept = λ p s is_in. same p s;
          here = includes.here;
          others = includes.others;
        }
