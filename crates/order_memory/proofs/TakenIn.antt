-- What an operation counts once it is taken in behind its source.
use Rattle.std.specs.Prelude.{◌≡◌, ◌≢◌, ◌⊎◌, ℕ, ◌+◌, ◌-◌, ◌<◌, ◌≤◌, max, MatchOption, Option, None, Some, slice_index}
use Rattle.std.proofs.Common.{zero, suc, arith, refl, sym, ap, subst, ◌∙◌, ⊎_elim, inl, inr}
use Rattle.std.proofs.lemmas.Bool.{cases_eq}
use Rattle.model_history.specs.declared.op_id.OpId.{OpId}
use Rattle.model_history.specs.History.{IsOp, Precedes}
use Rattle.order_memory.specs.declared.growing_order.GrowingOrder.{GrowingOrder}
use Rattle.order_memory.specs.Memory.{MemoryHistory}
use Rattle.order_memory.specs.SourceOrder.{IsSource, IsSourceEdge, SourceOrder}
use Rattle.order_memory.specs.Sources.{Sources}
use Rattle.order_memory.specs.Steps.GrowthSteps.{Always, Grows, IsIn, IsIncluded, IsMonotone, NoReads}
use Rattle.order_memory.specs.Steps.Indexed.{ListsSourcesIfAny, IsSourceIfAny, listed_source}
use Rattle.order_memory.specs.Steps.TakingIn.{CountsPasts, IsInside, IsJoined, IsRaisedCausal, IsReady, TakesOne, before_at, row_of}
use Rattle.order_causal.specs.Orders.{op}
use Rattle.order_causal.specs.Vectors.{Counts, count, IsCounted}
use Rattle.order_causal.proofs.OrdersLaws.{same_op}
use Rattle.order_causal.proofs.PathsLaws.{last-edge, leads-edge, leads-leads}
use Rattle.order_memory.proofs.GrowthLaws.{grows-step, grows-then}
use Rattle.order_memory.proofs.IndexedLaws.{if_any-unique, listed-if_any}
use Rattle.order_memory.proofs.MemoryLaws.{write-of_history}
use Rattle.order_memory.proofs.Raises.{grows-outside, grows-rises, grows-untouched}
use Rattle.order_memory.proofs.SourceVectors.{before-counted, counts-before, own-count, program-before}

-- rows of vectors that agree are the same
pub row-same : (v w : Counts) (e : Option OpId) → MatchOption e Always (λ p. (z : ℕ) → count w p z ≡ count v p z) → (z : ℕ) → row_of w e z ≡ row_of v e z
row-same v w None same z = refl
row-same v w (Some p) same z = same z

-- the row of an operation that is there
pub row-there : (v : Counts) (e : Option OpId) (p : OpId) → e ≡ Some p → (z : ℕ) → row_of v e z ≡ count v p z
row-there v e p is z = ap (λ (f : Option OpId). row_of v f z) is

-- the operation before the next one of a session is in
pub before-in : (a : GrowingOrder) (s n : ℕ) → n ≡ slice_index a.past.items s → MatchOption (before_at s n) Always (IsIn a)
before-in a s zero is = tt
before-in a s (suc n) is = omega arith

pub before-there : (s n j : ℕ) → n ≡ j + 1 → before_at s n ≡ Some (op s j)
before-there s n j is = ap (λ (k : ℕ). before_at s k) (let next : n ≡ suc j = omega arith in next)

-- which operation is before another one, where there is one
pub before-of : (o : OpId) (e : Option OpId) → MatchOption e (o.index ≡ 0) (λ m. (m.session ≡ o.session) × (m.index + 1 ≡ o.index))
    → e ≡ before_at o.session o.index
before-of o None first = ap (before_at o.session) (sym first)
before-of o (Some m) is = sym (subst (λ (s : ℕ). before_at o.session o.index ≡ Some (op s m.index)) (sym is.0) (before-there o.session o.index m.index (sym is.1)))

-- a row counts no more than is in, and all that the last operations count that it counts
pub record IsRowIn (a : GrowingOrder) (f : ℕ → ℕ) : Type 0 where
  pub inside : (y : ℕ) → f y ≤ slice_index a.past.items y
  pub pasts : (y i z : ℕ) → f y ≡ i + 1 → count a.counts (op y i) z ≤ f z

pub row-in : (a : GrowingOrder) → IsInside a → CountsPasts a → (e : Option OpId) → MatchOption e Always (IsIn a) → IsRowIn a (row_of a.counts e)
row-in a inside pasts None is = record { inside = λ y. omega arith; pasts = λ y i z ends. absurd (omega arith) }
row-in a inside pasts (Some p) is = record { inside = λ y. inside p y is; pasts = λ y i z ends. pasts p y i z is ends }

-- what is in when an operation is: it, or what was in
pub in-cases : (h : MemoryHistory) (a m : GrowingOrder) (o : OpId) → o.index ≡ slice_index a.past.items o.session → IsIncluded h a m o → (b : OpId) → IsIn m b
    → IsIn a b ⊎ (b ≡ o)
in-cases h a m o next included b is_in = ⊎_elim
    (λ (same : b.session ≡ o.session).
    let here = included.here in
    let below : b.index < slice_index m.past.items o.session = subst (λ (t : ℕ). b.index < slice_index m.past.items t) same is_in in
    ⊎_elim
    (λ (last : b.index ≡ o.index). inr (same_op b o same last))
    (λ (apart : b.index ≢ o.index). inl (subst (λ (t : ℕ). b.index < slice_index a.past.items t) (sym same) (omega arith)))
    (cases_eq b.index o.index))
    (λ (apart : b.session ≢ o.session). let as_before = included.others b.session apart in inl (omega arith))
    (cases_eq b.session o.session)

module _ (h : MemoryHistory) where
  -- vectors that began as those of the causal order still did
  pub begun-grown : (a b : GrowingOrder) → Grows h Always NoReads a b → IsRaisedCausal h a → IsRaisedCausal h b
  begun-grown a b grows begun = record {
    causal = begun.causal;
    counts = begun.counts;
    strict = begun.strict;
    own = begun.own;
    others = begun.others;
    grown = λ p s. let before = begun.grown p s in let rises = grows-rises h Always NoReads a b grows p s in omega arith;
    outside = grows-outside h Always NoReads begun.strict a b grows begun.outside;
    untouched = grows-untouched h Always NoReads begun.strict a b grows begun.untouched;
  }

  module _ (a : GrowingOrder) (begun : IsRaisedCausal h a) where
    -- what comes before an operation is counted by it
    pub before-row : (p q : OpId) → IsOp h p → SourceOrder h q p → q.index < count a.counts p q.session
    before-row p q p_is_op leads =
        let counted = counts-before h begun.causal begun.counts p q p_is_op leads in
        let grown = begun.grown p q.session in
        ⊎_elim
        (λ (same : q.session ≡ p.session).
        let own = begun.own p p_is_op in
        let more = own-count h begun.causal begun.counts p p_is_op in
        let here : q.index < count begun.causal p p.session = subst (λ (t : ℕ). q.index < count begun.causal p t) same counted in
        let strict : count begun.strict p q.session ≡ p.index = subst (λ (t : ℕ). count begun.strict p t ≡ p.index) (sym same) own in
        let other : q.index ≢ p.index = λ is. begun.counts.acyclic p (subst (λ (x : OpId). SourceOrder h x p) (same_op q p same is) leads) in
        omega arith)
        (λ (apart : q.session ≢ p.session). let same = begun.others p q.session p_is_op apart in omega arith)
        (cases_eq q.session p.session)

    module _ (o : OpId) (is_op : IsOp h o) where
      -- what an operation counts that was not raised comes before it
      pub strict-before : (y i : ℕ) → i < count begun.strict o y → SourceOrder h (op y i) o
      strict-before y i below =
          let counted : IsCounted begun.causal o (op y i) × (op y i ≢ o) = ⊎_elim
          (λ (same : y ≡ o.session).
          let own = begun.own o is_op in
          let more = own-count h begun.causal begun.counts o is_op in
          let less : i < count begun.strict o o.session = subst (λ (t : ℕ). i < count begun.strict o t) same below in (
            subst (λ (t : ℕ). i < count begun.causal o t) (sym same) (omega arith),
            λ is. let index : i ≡ o.index = ap (λ (x : OpId). x.index) is in absurd (omega arith),
          ))
          (λ (apart : y ≢ o.session).
          let other = begun.others o y is_op apart in
          (omega arith, λ is. apart (ap (λ (x : OpId). x.session) is)))
          (cases_eq y o.session) in
          before-counted h begun.causal begun.counts o (op y i) is_op counted.0 counted.1

      -- it is the operation before it in its session or its source, or one of these counts it
      abbrev pub IsDue : ℕ → ℕ → Type 0
      IsDue y i =
          ((j : ℕ) × (o.index ≡ j + 1) × ((op y i ≡ op o.session j) ⊎ (i < count a.counts (op o.session j) y)))
          ⊎ ((w : OpId) × IsSource h w o × ((op y i ≡ w) ⊎ (i < count a.counts w y)))

      pub is_due : (y i : ℕ) → i < count begun.strict o y → IsDue y i
      is_due y i below =
          let q : OpId = op y i in
          let last = last-edge (IsSourceEdge h) q o (strict-before y i below) in
          ⊎_elim
          (λ (program : Precedes last.0 o × IsOp h o).
          let same = program.0.0 in
          let less = program.0.1 in
          let j : ℕ = o.index - 1 in
          let place : o.index ≡ j + 1 = omega arith in
          let m : OpId = op o.session j in
          let m_is_op : IsOp h m = omega arith in
          let rest : (q ≡ m) ⊎ SourceOrder h q m = ⊎_elim
          (λ (here : last.0.index ≡ j). ⊎_elim
          (λ (is : q ≡ last.0). inl (is ∙ same_op last.0 m same here))
          (λ (leads : SourceOrder h q last.0). inr (subst (λ (x : OpId). SourceOrder h q x) (same_op last.0 m same here) leads))
          last.1)
          (λ (apart : last.0.index ≢ j).
          let later : SourceOrder h last.0 m =
          subst (λ (x : OpId). SourceOrder h x m) (sym (same_op last.0 (op o.session last.0.index) same refl))
          (program-before h o.session last.0.index j (omega arith) m_is_op) in
          ⊎_elim
          (λ (is : q ≡ last.0). inr (subst (λ (x : OpId). SourceOrder h x m) (sym is) later))
          (λ (leads : SourceOrder h q last.0). inr (leads-leads (IsSourceEdge h) q last.0 m leads later))
          last.1)
          (cases_eq last.0.index j) in
          inl (
            j,
            place,
            ⊎_elim
                (λ (is : q ≡ m). inl is)
                (λ (leads : SourceOrder h q m). inr (before-row m q m_is_op leads))
                rest,
          ))
          (λ (source : IsSource h last.0 o). inr (
            last.0,
            source,
            ⊎_elim
                (λ (is : q ≡ last.0). inl is)
                (λ (leads : SourceOrder h q last.0). inr (before-row last.0 q (write-of_history h last.0 source.0.0 source.0.1 source.0.2) leads))
                last.1,
          ))
          last.2

  -- a source of an operation is another operation, which its vector counts
  pub source-counted : (a : GrowingOrder) → IsRaisedCausal h a → (o w : OpId) → IsOp h o → IsSource h w o → IsOp h w × (w ≢ o) × IsCounted a.counts o w
  source-counted a begun o w is_op source =
      let leads = leads-edge (IsSourceEdge h) w o (inr source) in (
        write-of_history h w source.0.0 source.0.1 source.0.2,
        λ is. begun.counts.acyclic o (subst (λ (x : OpId). SourceOrder h x o) is leads),
        before-row a begun o w is_op leads,
      )

  module _ (sources : Sources) (lists : ListsSourcesIfAny h sources) (a : GrowingOrder) (ready : IsReady h a) (o : OpId) (is_op : IsOp h o)
      (next : o.index ≡ slice_index a.past.items o.session) (source : MatchOption (listed_source sources o) Always (IsIn a)) where
    abbrev before_row : ℕ → ℕ
    before_row z = row_of a.counts (before_at o.session o.index) z

    abbrev source_row : ℕ → ℕ
    source_row z = row_of a.counts (listed_source sources o) z

    before-is : IsRowIn a before_row
    before-is = row-in a ready.transitive.inside ready.transitive.pasts (before_at o.session o.index) (before-in a o.session o.index next)

    source-is : IsRowIn a source_row
    source-is = row-in a ready.transitive.inside ready.transitive.pasts (listed_source sources o) source

    source-caused : (x : GrowingOrder) → ((z : ℕ) → count a.counts o z ≤ count x.counts o z) → (e : Option OpId) → IsSourceIfAny h o e
        → MatchOption e Always (λ m. IsOp h m × (m ≢ o) × (IsCounted x.counts o m ⊎ Precedes m o))
    source-caused x rises None none = tt
    source-caused x rises (Some w) is =
        let counted = source-counted a ready.begun o w is_op is in
        let more = rises w.session in
        let below = counted.2 in
        (counted.0, counted.1, inl (let now : w.index < count x.counts o w.session = omega arith in now))

    -- its source is another operation, which its vector counts
    pub source-cause : (x : GrowingOrder) → ((z : ℕ) → count a.counts o z ≤ count x.counts o z) → (e : Option OpId) → e ≡ listed_source sources o
        → MatchOption e Always (λ m. IsOp h m × (m ≢ o) × (IsCounted x.counts o m ⊎ Precedes m o))
    source-cause x rises e same =
        source-caused x rises e (subst (λ (f : Option OpId). IsSourceIfAny h o f) (sym same) (listed-if_any h sources lists o))

    -- what the last operation of a session counts is counted by one of the two
    abbrev IsCoveredBy : ℕ → ℕ → Type 0
    IsCoveredBy y i = (i < slice_index a.past.items y) × ((z : ℕ) → count a.counts (op y i) z ≤ max (before_row z) (source_row z))

    by-before : (y i : ℕ) → before_row y ≡ i + 1 → IsCoveredBy y i
    by-before y i ends = ((let most = before-is.inside y in omega arith), λ z. let less = before-is.pasts y i z ends in omega arith)

    by-source : (y i : ℕ) → source_row y ≡ i + 1 → IsCoveredBy y i
    by-source y i ends = ((let most = source-is.inside y in omega arith), λ z. let less = source-is.pasts y i z ends in omega arith)

    source-there : (w : OpId) → IsSource h w o → listed_source sources o ≡ Some w
    source-there w is = if_any-unique h o (listed_source sources o) (Some w) (listed-if_any h sources lists o) is

    by-row : (y i : ℕ) → count a.counts o y ≡ i + 1 → before_row y ≤ i + 1 → source_row y ≤ i + 1 → IsCoveredBy y i
    by-row y i ends most_before most_source =
        let out = ready.begun.outside o y (omega arith) in
        ⊎_elim
        (λ (due : (j : ℕ) × (o.index ≡ j + 1) × ((op y i ≡ op o.session j) ⊎ (i < count a.counts (op o.session j) y))).
        let there = before-there o.session o.index due.0 due.1 in
        ⊎_elim
        (λ (is : op y i ≡ op o.session due.0).
        let place = due.1 in
        let inside : due.0 < slice_index a.past.items o.session = omega arith in (
          subst (λ (p : OpId). p.index < slice_index a.past.items p.session) (sym is) inside,
          λ z.
              let row = row-there a.counts (before_at o.session o.index) (op o.session due.0) there z in
              let same = ap (λ (p : OpId). count a.counts p z) is in
              omega arith,
        ))
        (λ (less : i < count a.counts (op o.session due.0) y).
        let row = row-there a.counts (before_at o.session o.index) (op o.session due.0) there y in
        by-before y i (omega arith))
        due.2)
        (λ (due : (w : OpId) × IsSource h w o × ((op y i ≡ w) ⊎ (i < count a.counts w y))).
        let there = source-there due.0 due.1 in
        ⊎_elim
        (λ (is : op y i ≡ due.0).
        let inside : IsIn a due.0 = subst (λ (e : Option OpId). MatchOption e Always (IsIn a)) there source in (
          subst (λ (p : OpId). p.index < slice_index a.past.items p.session) (sym is) inside,
          λ z.
              let row = row-there a.counts (listed_source sources o) due.0 there z in
              let same = ap (λ (p : OpId). count a.counts p z) is in
              omega arith,
        ))
        (λ (less : i < count a.counts due.0 y).
        let row = row-there a.counts (listed_source sources o) due.0 there y in
        by-source y i (omega arith))
        due.2)
        (is_due a ready.begun o is_op y i (omega arith))

    covered : (n y i : ℕ) → n ≡ max (max (count a.counts o y) (before_row y)) (source_row y) → n ≡ i + 1 → IsCoveredBy y i
    covered n y i is ends = ⊎_elim
        (λ (here : before_row y ≡ i + 1). by-before y i here)
        (λ (other : before_row y ≢ i + 1). ⊎_elim
        (λ (here : source_row y ≡ i + 1). by-source y i here)
        (λ (neither : source_row y ≢ i + 1). by-row y i (omega arith) (omega arith) (omega arith))
        (cases_eq (source_row y) (i + 1)))
        (cases_eq (before_row y) (i + 1))

    module _ (m x b : GrowingOrder) (included : IsIncluded h a m o) (first : IsJoined h m x o (row_of m.counts (before_at o.session o.index)))
        (second : IsJoined h x b o (row_of x.counts (listed_source sources o))) where
      all-steps : Grows h Always NoReads a b
      all-steps = grows-then h Always NoReads a x b
          (grows-then h Always NoReads a m x (grows-step h Always NoReads a m included.growing (inr (inl included.inclusion))) first.grows) second.grows

      as-counts : (p : OpId) (z : ℕ) → count m.counts p z ≡ count a.counts p z
      as-counts p z = ap (λ (v : Counts). count v p z) included.inclusion.counts

      now-other : (p : OpId) (z : ℕ) → p ≢ o → count b.counts p z ≡ count a.counts p z
      now-other p z apart = second.others p z apart ∙ first.others p z apart ∙ as-counts p z

      in-apart : (p : OpId) → IsIn a p → p ≢ o
      in-apart p is_in is =
          let here : o.index < slice_index a.past.items o.session = subst (λ (q : OpId). q.index < slice_index a.past.items q.session) is is_in in
          absurd (omega arith)

      still-row : (e : Option OpId) → MatchOption e Always (IsIn a) → MatchOption e Always (λ p. (z : ℕ) → count x.counts p z ≡ count a.counts p z)
      still-row None is = tt
      still-row (Some p) is = λ z. first.others p z (in-apart p is) ∙ as-counts p z

      here-row : (e : Option OpId) → MatchOption e Always (λ p. (z : ℕ) → count m.counts p z ≡ count a.counts p z)
      here-row None = tt
      here-row (Some p) = as-counts p

      now-here : (z : ℕ) → count b.counts o z ≡ max (max (count a.counts o z) (before_row z)) (source_row z)
      now-here z =
          let one = first.here z in
          let two = second.here z in
          let same = as-counts o z in
          let row_before = row-same a.counts m.counts (before_at o.session o.index) (here-row (before_at o.session o.index)) z in
          let row_source = row-same a.counts x.counts (listed_source sources o) (still-row (listed_source sources o) source) z in
          omega arith

      now-past : b.past.items ≡ m.past.items
      now-past = second.past ∙ first.past

      past-more : (t : ℕ) → slice_index a.past.items t ≤ slice_index b.past.items t
      past-more t = let same = ap (λ es. slice_index es t) now-past in let rises = included.inclusion.past t in omega arith

      cases-in : (p : OpId) → IsIn b p → IsIn a p ⊎ (p ≡ o)
      cases-in p is_in = in-cases h a m o next included p (subst (λ es. p.index < slice_index es p.session) now-past is_in)

      inside-now : IsInside b
      inside-now p y is_in =
          let more = past-more y in
          ⊎_elim
          (λ (old : IsIn a p). let same = now-other p y (in-apart p old) in let most = ready.transitive.inside p y old in omega arith)
          (λ (new : p ≡ o).
          let is = now-here y in
          let most : count b.counts o y ≤ slice_index a.past.items y = ⊎_elim
          (λ (none : count b.counts o y ≡ 0). omega arith)
          (λ (some : count b.counts o y ≢ 0).
          let below = (covered (count b.counts o y) y (count b.counts o y - 1) is (omega arith)).0 in omega arith)
          (cases_eq (count b.counts o y) 0) in
          subst (λ (q : OpId). count b.counts q y ≤ slice_index b.past.items y) (sym new) (omega arith))
          (cases-in p is_in)

      monotone-now : IsMonotone b.counts (λ s. slice_index b.past.items s)
      monotone-now s j z below = ⊎_elim
          (λ (old : IsIn a (op s (j + 1))).
          let before : IsIn a (op s j) = omega arith in
          let one = now-other (op s j) z (in-apart (op s j) before) in
          let two = now-other (op s (j + 1)) z (in-apart (op s (j + 1)) old) in
          let rises = ready.transitive.monotone s j z old in
          omega arith)
          (λ (new : op s (j + 1) ≡ o).
          let of_session : s ≡ o.session = ap (λ (p : OpId). p.session) new in
          let of_index : j + 1 ≡ o.index = ap (λ (p : OpId). p.index) new in
          let before : j < slice_index a.past.items s = subst (λ (t : ℕ). j < slice_index a.past.items t) (sym of_session) (omega arith) in
          let one = now-other (op s j) z (in-apart (op s j) before) in
          let row = row-there a.counts (before_at o.session o.index) (op o.session j) (before-there o.session o.index j (sym of_index)) z in
          let same = ap (λ (t : ℕ). count a.counts (op t j) z) of_session in
          let is = now-here z in
          subst (λ (q : OpId). count b.counts (op s j) z ≤ count b.counts q z) (sym new) (omega arith))
          (cases-in (op s (j + 1)) below)

      pasts-now : CountsPasts b
      pasts-now p y i z is_in ends = ⊎_elim
          (λ (old : IsIn a p).
          let ended : count a.counts p y ≡ i + 1 = sym (now-other p y (in-apart p old)) ∙ ends in
          let most = ready.transitive.inside p y old in
          let last : IsIn a (op y i) = omega arith in
          let one = now-other (op y i) z (in-apart (op y i) last) in
          let two = now-other p z (in-apart p old) in
          let less = ready.transitive.pasts p y i z old ended in
          omega arith)
          (λ (new : p ≡ o).
          let here : count b.counts o y ≡ i + 1 = subst (λ (q : OpId). count b.counts q y ≡ i + 1) new ends in
          let by = covered (count b.counts o y) y i (now-here y) here in
          let one = now-other (op y i) z (in-apart (op y i) by.0) in
          let less = by.1 z in
          let is = now-here z in
          subst (λ (q : OpId). count b.counts (op y i) z ≤ count b.counts q z) (sym new) (omega arith))
          (cases-in p is_in)

      -- it is taken in
      pub taken-one : TakesOne h a b o
      taken-one = record {
        ready = record {
          growing = second.grows.growing;
          begun = begun-grown a b all-steps ready.begun;
          transitive = record { empty = second.empty; inside = inside-now; monotone = monotone-now; pasts = pasts-now };
        };
        grows = all-steps;
        kept = λ p s is_in. now-other p s (in-apart p is_in);
        here = ap (λ es. slice_index es o.session) now-past ∙ included.here;
        others = λ t apart. ap (λ es. slice_index es t) now-past ∙ included.others t apart;
      }
