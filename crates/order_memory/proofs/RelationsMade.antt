-- How the happened-before relation of an operation is made from that of the one before.
use Rattle.std.specs.Prelude.{◌≡◌, ◌≢◌, ◌⊎◌, ℕ, ◌+◌, ◌<◌, ◌≤◌, List, length, true, false, Contains, MatchOption, Option, Some, None, slice_index}
use Rattle.std.proofs.Common.{zero, suc, arith, refl, sym, ap, subst, subst₂, ◌∙◌, ⊎_elim, inl, inr, ltb-true}
use Rattle.std.proofs.lemmas.Bool.{cases_eq, cases_lt}
use Rattle.std.proofs.lemmas.List.{get_or_past}
use Rattle.std.proofs.lemmas.List.Elements.{All-contains}
use Rattle.model_history.specs.declared.op_id.OpId.{OpId}
use Rattle.model_history.specs.History.{IsOp, session}
use Rattle.order_memory.specs.declared.growing_order.GrowingOrder.{GrowingOrder}
use Rattle.order_memory.specs.declared.growing_order.Raised.{Raised}
use Rattle.order_memory.specs.declared.happened_before.HappenedBefore.{HappenedBefore}
use Rattle.order_memory.specs.declared.happened_before.Saturation.{Saturation}
use Rattle.order_memory.specs.declared.happened_before.Saturation.TheVariants.{Saturated, Cyclic, GivenUp}
use Rattle.order_memory.specs.CountSums.{all_counted}
use Rattle.order_memory.specs.HappenedBeforeVectors.{IsHBVectors}
use Rattle.order_memory.specs.Memory.{MemoryHistory, IsDifferentiated}
use Rattle.order_causal.specs.Orders.{op, program_past}
use Rattle.order_memory.specs.Raises.{AreReached, AreRightRaises}
use Rattle.order_memory.specs.Relations.{IsPast, HB}
use Rattle.order_memory.specs.SourceOrder.{CountsSourceOrder, IsSource, IsSourceEdge, SourceOrder}
use Rattle.order_memory.specs.Steps.GrowthSteps.{Always, Grows, IsCovered, IsFresh, IsGivenUp, IsIn, IsPending, IsSettled, NoMore, NoReads, Waits}
use Rattle.order_memory.specs.Steps.HappenedBefores.{AreReadsFollowed, AreSourcesIn, AreStrictOf, HasGrown, HasMorePairs, IsLastBelow, IsMade, IsOutcome, IsReadFollowed, IsReadDone, IsReadWaiting, IsSupported, TakesIn, TakesNext, Tells, last_of, past_count}
use Rattle.order_memory.specs.Steps.TakingIn.{IsReady, IsTransitive, TakesPast}
use Rattle.order_causal.specs.Vectors.{Counts, count, list_of, IsCounted}
use Rattle.order_memory.proofs.CountSumsLaws.{counted-within as all-within}
use Rattle.order_memory.proofs.FirstWrites.{CO-from_sources, distinct-source}
use Rattle.order_memory.proofs.FollowedReads.{grows-read}
use Rattle.order_memory.proofs.GrowthLaws.{grows-then, grows-wider}
use Rattle.order_memory.proofs.HappenedBeforeLaws.{HB-earlier, HB-inside, in_past-from, past-of_history, past-program, program_past-from, program_past-parts}
use Rattle.order_memory.proofs.HappenedBeforeVectors.{IsFixed, fixed-exact, supported-strict}
use Rattle.order_causal.proofs.OrdersLaws.{same_op, session-of_history}
use Rattle.order_memory.proofs.Raises.{TellsCycles, grows-bounded, grows-cyclic, grows-most, grows-outside, grows-rises, grows-sums, grows-supported, grows-untouched, settled-within}
use Rattle.order_memory.proofs.RaisedSince.{grows-since}
use Rattle.order_memory.proofs.RaisesCaused.{grows-few, grows-right}
use Rattle.order_memory.proofs.RightRaises.{right-later}
use Rattle.order_causal.proofs.PathsLaws.{leads-edge, leads-leads}
use Rattle.order_memory.proofs.SourceVectors.{counts-before, counted-within, own-count, program-before}

-- nothing is in a list with no entries
no-entry : (es : List Raised) → length es ≡ 0 → (e : Raised) → Contains es e → ⊥
no-entry es none e held = All-contains (λ (x : Raised). ⊥) es e (λ k d below. absurd (omega arith)) held

module _ (h : MemoryHistory) (v : Counts) (counts : CountsSourceOrder h v) where
  -- past the last session nothing is counted
  no-count : (p : OpId) (s : ℕ) → IsOp h p → length h.1 ≤ s → count v p s ≡ 0
  no-count p s is_op past = let size = counts.vectors.counts p is_op in get_or_past (list_of v p) s 0 (omega arith)

  module _ (happened : HappenedBefore) (made : IsMade h happened) (same : made.causal ≡ v) (next : happened.taken < length (session h happened.session)) where
    abbrev next_op : OpId
    next_op = op happened.session happened.taken

    -- what is in is in the past of the next operation
    past-before_next : (n s : ℕ) → n ≤ happened.taken → past_count v happened.session n s ≤ count v next_op s
    past-before_next zero s below = omega arith
    past-before_next (suc n) s below =
        let before = counts-before h v counts next_op (op happened.session n) next (program-before h happened.session n happened.taken (omega arith) next) in
        counted-within h v counts next_op (op happened.session n) next before s

    own-past : (n : ℕ) → n ≤ happened.taken → past_count v happened.session n happened.session ≡ n
    own-past zero below = refl
    own-past (suc n) below = let own = own-count h v counts (op happened.session n) (omega arith) in omega arith

    past-most : (s : ℕ) → slice_index happened.order.past.items s ≤ past_count v happened.session happened.taken s
    past-most s = let most = made.past s in let is = ap (λ (w : Counts). past_count w happened.session happened.taken s) same in omega arith

    begun-of : AreStrictOf h v made.strict
    begun-of = subst (λ (w : Counts). AreStrictOf h w made.strict) same made.begun

    -- what is in comes before the next operation
    pub in-before_next : (p : OpId) → IsIn happened.order p → p.index < count v next_op p.session
    in-before_next p is_in = let most = past-most p.session in let less = past-before_next happened.taken p.session (omega arith) in omega arith

    pub past-next_op : (s : ℕ) → slice_index happened.order.past.items s ≤ past_count v happened.session (suc happened.taken) s
    past-next_op s = let most = past-most s in let less = past-before_next happened.taken s (omega arith) in omega arith

    module _ (kept : ¬ IsGivenUp happened.order) where
      -- the next operation may be taken in
      pub next-ready : IsReady h happened.order
      next-ready = record {
        growing = made.well_formed.order;
        begun = record {
          causal = made.causal;
          counts = made.counts;
          strict = made.strict;
          own = made.begun.own;
          others = made.begun.others;
          grown = made.grown;
          outside = made.outside;
          untouched = made.untouched;
        };
        transitive = made.transitive kept;
      }

      -- the operations of the session that were taken in are in
      pub taken-in : (j : ℕ) → j < happened.taken → IsIn happened.order (op happened.session j)
      taken-in j below =
          let own = own-past happened.taken (omega arith) in
          let is = ap (λ (w : Counts). past_count w happened.session happened.taken happened.session) same in
          let all = made.all kept happened.session in
          omega arith

    pub next-outside : slice_index happened.order.past.items happened.session ≤ happened.taken
    next-outside = let most = past-most happened.session in let own = own-past happened.taken (omega arith) in omega arith

    next-strict : (s : ℕ) → count happened.order.counts next_op s ≡ count made.strict next_op s
    next-strict s = made.outside next_op s next-outside

    module _ (after : GrowingOrder) (takes : TakesPast h happened.order after next_op) where
      -- then just its past is in
      taken-past : (s : ℕ) → slice_index after.past.items s ≡ count v next_op s
      taken-past s = ⊎_elim
          (λ (here : s ≡ happened.session).
          let own = own-count h v counts next_op next in
          let is = takes.here in
          subst (λ (t : ℕ). slice_index after.past.items t ≡ count v next_op t) (sym here) (omega arith))
          (λ (apart : s ≢ happened.session). ⊎_elim
          (λ (exists : s < length h.1).
          let is = takes.others s exists apart in
          let before = past-most s in
          let less = past-before_next happened.taken s (omega arith) in
          let counted = next-strict s ∙ begun-of.others next_op s next apart in
          omega arith)
          (λ (past : length h.1 ≤ s).
          let none = no-count next_op s next past in
          let size = takes.ready.growing.sessions in
          let nothing : slice_index after.past.items s ≡ 0 = get_or_past after.past.items s 0 (omega arith) in
          omega arith)
          (cases_lt s (length h.1)))
          (cases_eq s happened.session)

      -- and so are the sources of the session's reads
      taken-sources : (j : ℕ) (w : OpId) → j < happened.taken + 1 → IsSource h w (op happened.session j) → IsIn after w
      taken-sources j w below source =
          let edge = leads-edge (IsSourceEdge h) w (op happened.session j) (inr source) in
          let before : SourceOrder h w next_op = ⊎_elim
          (λ (last : j ≡ happened.taken). subst (λ (k : ℕ). SourceOrder h w (op happened.session k)) last edge)
          (λ (apart : j ≢ happened.taken).
          leads-leads (IsSourceEdge h) w (op happened.session j) next_op edge (program-before h happened.session j happened.taken (omega arith) next))
          (cases_eq j happened.taken) in
          let counted = counts-before h v counts next_op w next before in
          let is = taken-past w.session in
          omega arith

    module _ (distinct : IsDifferentiated h) where
      -- what is counted of the past of the operation before is in the relation of the next one
      supported-in : (n : ℕ) → happened.taken ≡ n → (a b : OpId) → IsIn happened.order b → IsCounted happened.order.counts b a → HB h next_op a b
      supported-in zero first a b is_in counted =
          let most = past-most b.session in
          let none : past_count v happened.session happened.taken b.session ≡ 0 = ap (λ (n : ℕ). past_count v happened.session n b.session) first in
          absurd (omega arith)
      supported-in (suc n) more a b is_in counted =
          let p : OpId = op happened.session n in
          let p_is_op : IsOp h p = omega arith in
          let most = past-most b.session in
          let before : past_count v happened.session happened.taken b.session ≡ count v p b.session = ap (λ (k : ℕ). past_count v happened.session k b.session) more in
          let in_p : IsPast h p b = ⊎_elim
          (λ (same_op : b ≡ p). inl same_op)
          (λ (order : SourceOrder h b p). inr (CO-from_sources h b p order))
          ((counts.counted p b p_is_op).0 (omega arith)) in
          HB-earlier h next_op p next (program_past-from next_op p refl (omega arith)) a b
          (made.supported distinct n (omega arith) a b in_p counted)

      pub next-supported : IsSupported h next_op happened.order.counts
      next-supported a b in_b counted = ⊎_elim
          (λ (is_in : IsIn happened.order b). supported-in happened.taken refl a b is_in counted)
          (λ (outside : slice_index happened.order.past.items b.session ≤ b.index).
          let is = made.outside b a.session outside in
          supported-strict h v counts distinct next_op next made.strict begun-of a b in_b (omega arith))
          (cases_lt b.index (slice_index happened.order.past.items b.session))

-- vectors that count the causal order are the same everywhere
counts-least : (h : MemoryHistory) (v w : Counts) → CountsSourceOrder h v → CountsSourceOrder h w → (p : OpId) → IsOp h p → (s : ℕ)
    → count w p s ≤ count v p s
counts-least h v w of_v of_w p is_op s = ⊎_elim
    (λ (less : count v p s < count w p s).
    let again : count v p s < count v p s = (of_v.counted p (op s (count v p s)) is_op).1 ((of_w.counted p (op s (count v p s)) is_op).0 less) in
    absurd (omega arith))
    (λ (up_to : count w p s ≤ count v p s). up_to)
    (cases_lt (count v p s) (count w p s))

strict-least : (h : MemoryHistory) (v w a b : Counts) → CountsSourceOrder h v → CountsSourceOrder h w → AreStrictOf h v a → AreStrictOf h w b
    → (p : OpId) (s : ℕ) → IsOp h p → count b p s ≤ count a p s
strict-least h v w a b of_v of_w strict_a strict_b p s is_op = ⊎_elim
    (λ (same : s ≡ p.session).
    let one = strict_a.own p is_op in
    let two = strict_b.own p is_op in
    let here : count b p p.session ≤ count a p p.session = omega arith in
    subst (λ (t : ℕ). count b p t ≤ count a p t) (sym same) here)
    (λ (apart : s ≢ p.session).
    let one = strict_a.others p s is_op apart in
    let two = strict_b.others p s is_op apart in
    let least = counts-least h v w of_v of_w p is_op s in
    omega arith)
    (cases_eq s p.session)

module _ (h : MemoryHistory) where
  -- what is in stays in
  pub grown-sources : (free : Type 0) (m x : HappenedBefore) → HasGrown h free m x → AreSourcesIn h m → AreSourcesIn h x
  grown-sources free m x grown sources j w below source =
      let taken = grown.taken in
      let is_in = sources j w (omega arith) (subst (λ (s : ℕ). IsSource h w (op s j)) grown.session source) in
      subst (λ (es : List ℕ). w.index < slice_index es w.session) (sym grown.past) is_in

  -- a settled state stays so
  pub grown-settled : (more : Raised → Type 0) (m x : HappenedBefore) → HasGrown h ⊥ m x → IsSettled more m.order → IsSettled more x.order
  grown-settled more m x grown settled =
      settled-within h (program_past (last_of m)) more m.order x.order (record { grows = grown.order; past = grown.past }) settled

  -- and so do reads that are followed
  pub grown-reads : (more : Raised → Type 0) (n : ℕ) (m x : HappenedBefore) → HasGrown h ⊥ m x → AreReadsFollowed h more n m → AreReadsFollowed h more n x
  grown-reads more n m x grown reads j u below exists =
      subst (λ (s : ℕ). IsReadFollowed h (Waits more x.order) x.order.counts (op s j) u) (sym grown.session)
      (grows-read h (program_past (last_of m)) more m.order x.order grown.order (op m.session j) u (reads j u below exists))

  pub grown-read : (more : Raised → Type 0) (m x : HappenedBefore) → HasGrown h ⊥ m x → (j u : ℕ)
      → IsReadFollowed h (Waits more m.order) m.order.counts (op m.session j) u → IsReadFollowed h (Waits more x.order) x.order.counts (op x.session j) u
  grown-read more m x grown j u read =
      subst (λ (s : ℕ). IsReadFollowed h (Waits more x.order) x.order.counts (op s j) u) (sym grown.session)
      (grows-read h (program_past (last_of m)) more m.order x.order grown.order (op m.session j) u read)

  last-same : (free : Type 0) (m x : HappenedBefore) → HasGrown h free m x → last_of x ≡ last_of m
  last-same free m x grown = let taken = grown.taken in same_op (last_of x) (last_of m) grown.session (omega arith)

  -- no step at all, and steps after steps
  pub grown-then : (free : Type 0) (a m x : HappenedBefore) → HasGrown h free a m → HasGrown h free m x → HasGrown h free a x
  grown-then free a m x first second = record {
    well_formed = second.well_formed;
    order = grows-then h free (program_past (last_of a)) a.order m.order x.order first.order
        (subst (λ (o : OpId). Grows h free (program_past o) m.order x.order) (last-same free a m first) second.order);
    past = second.past ∙ first.past;
    session = second.session ∙ first.session;
    taken = second.taken ∙ first.taken;
  }

  pub grown-free : (a m : HappenedBefore) → HasGrown h ⊥ a m → HasGrown h Always a m
  grown-free a m grown = record {
    well_formed = grown.well_formed;
    order = grows-wider h ⊥ Always (λ none. absurd none) (program_past (last_of a)) (program_past (last_of a)) (λ r is. is) a.order m.order grown.order;
    past = grown.past;
    session = grown.session;
    taken = grown.taken;
  }

  -- in a state in which nothing waits all is followed
  pub transitive-settled : (order : GrowingOrder) → IsTransitive order → IsSettled NoMore order
  transitive-settled order transitive = record {
    monotone = transitive.monotone;
    followed = λ p y is_in fresh i z ends. inl (transitive.pasts p y i z is_in ends);
  }

  -- a relation that is given up
  module _ (a : HappenedBefore) (made : IsMade h a) (next : a.taken < length (session h a.session)) (given : IsGivenUp a.order) where
    abbrev later : HappenedBefore
    later = record { session = a.session; taken = a.taken + 1; order = a.order; writes = a.writes; sources = a.sources }

    given-past : (p : OpId) → IsIn a.order p → IsPast h (op a.session a.taken) p
    given-past p is_in = ⊎_elim
        (λ (same : p ≡ op a.session a.taken). inl same)
        (λ (before : SourceOrder h p (op a.session a.taken)). inr (CO-from_sources h p (op a.session a.taken) before))
        ((made.counts.counted (op a.session a.taken) p next).0 (in-before_next h made.causal made.counts a made refl next p is_in))

    given-supported : IsDifferentiated h → IsSupported h (op a.session a.taken) a.order.counts
    given-supported = next-supported h made.causal made.counts a made refl next

    given-pairs : IsDifferentiated h → (n : ℕ) → n < a.order.added → HasMorePairs h (op a.session a.taken) n
    given-pairs distinct n fewer = record {
      causal = made.causal;
      counts = made.counts;
      strict = made.strict;
      begun = made.begun;
      now = a.order.counts;
      held = made.well_formed.order.counts;
      supported = given-supported distinct;
      outside = λ p s not. made.outside p s (⊎_elim
          (λ (is_in : IsIn a.order p). absurd (not (given-past p is_in)))
          (λ (out : slice_index a.order.past.items p.session ≤ p.index). out)
          (cases_lt p.index (slice_index a.order.past.items p.session)));
      more = let sums = made.added in omega arith;
    }

    given-most : IsDifferentiated h → (most : Option ℕ) → MatchOption most ⊥ (λ n. n < a.order.added) → MatchOption most ⊥ (λ n. HasMorePairs h (op a.session a.taken) n)
    given-most distinct None given_up = given_up
    given-most distinct (Some n) given_up = given-pairs distinct n given_up

    given-outcome : IsDifferentiated h → (told : Saturation) → Tells later told → IsOutcome h (op a.session a.taken) a.order.most a.order.counts told
    given-outcome distinct Saturated tells = absurd (tells.0 given)
    given-outcome distinct Cyclic tells = absurd (tells.0 given)
    given-outcome distinct GivenUp tells = given-most distinct a.order.most tells

    given-made : IsMade h later
    given-made = record {
      well_formed = record {
        order = made.well_formed.order;
        exists = made.well_formed.exists;
        taken = omega arith;
        writes = made.well_formed.writes;
        by_variable = made.well_formed.by_variable;
        sources = made.well_formed.sources;
      };
      causal = made.causal;
      counts = made.counts;
      strict = made.strict;
      begun = made.begun;
      grown = made.grown;
      outside = made.outside;
      untouched = made.untouched;
      added = made.added;
      past = λ s.
          let one : a.taken + 1 ≡ suc a.taken = omega arith in
          let same = ap (λ (n : ℕ). past_count made.causal a.session n s) one in
          let most = past-next_op h made.causal made.counts a made refl next s in
          omega arith;
      all = λ not. absurd (not given);
      cyclic = made.cyclic;
      acyclic = made.acyclic;
      supported = λ distinct n is.
          let here : a.taken ≡ n = omega arith in
          subst (λ (j : ℕ). IsSupported h (op a.session j) a.order.counts) here (given-supported distinct);
      right = λ n is_op from. made.right n is_op (omega arith);
      reached = made.reached;
      few = made.few;
      transitive = λ not. absurd (not given);
      reads = λ not. absurd (not given);
    }

    -- that of the next operation is given up too
    pub takes-given : TakesNext h a later
    takes-given = record {
      made = given-made;
      session = refl;
      taken = refl;
      most = refl;
      counts = λ p s. omega arith;
      same = λ p s. inl refl;
      outcome = given-outcome;
      few = λ distinct not. absurd (not given);
      raised = λ distinct n below. given-pairs distinct n (let few = made.few in omega arith);
    }

  module _ (a m : HappenedBefore) (made : IsMade h a) (kept : ¬ IsGivenUp a.order) (next : a.taken < length (session h a.session)) (takes : TakesIn h a m) where
    abbrev o : OpId
    o = op a.session a.taken

    pub sources-taken : AreSourcesIn h m
    sources-taken j w below source =
        let taken = takes.taken in
        taken-sources h made.causal made.counts a made refl next m.order takes.past j w (omega arith)
        (subst (λ (s : ℕ). IsSource h w (op s j)) takes.session source)

    module _ (x : HappenedBefore) (grown : HasGrown h ⊥ m x)
        (followed : (u : ℕ) → u < length h.1 → IsReadFollowed h (Waits NoMore x.order) x.order.counts (op x.session a.taken) u) where
      pub reads-taken : AreReadsFollowed h NoMore x.taken x
      reads-taken j u below exists = ⊎_elim
          (λ (last : j ≡ a.taken). subst (λ (k : ℕ). IsReadFollowed h (Waits NoMore x.order) x.order.counts (op x.session k) u) (sym last) (followed u exists))
          (λ (apart : j ≢ a.taken).
          let taken = takes.taken in
          let same = grown.taken in
          let of_m : IsReadFollowed h (Waits NoMore m.order) m.order.counts (op a.session j) u = ⊎_elim
          (λ (done : IsReadDone h a.order.counts (op a.session j) u). inl (λ w x t n source wrote last other.
          let row = takes.past.kept (op a.session j) u (taken-in h made.causal made.counts a made refl next kept j (omega arith)) in
          let less = done w x t n source wrote (subst (λ (k : ℕ). IsLastBelow h x u k n) row last) other in
          let rises = grows-rises h Always NoReads a.order m.order takes.past.grows w u in
          omega arith))
          (λ (waiting : IsReadWaiting (Waits NoMore a.order) (op a.session j) u). absurd (⊎_elim
          (λ (held : Contains a.order.pending.items waiting.0). no-entry a.order.pending.items (made.transitive kept).empty waiting.0 held)
          (λ (none : ⊥). none)
          waiting.1))
          (made.reads kept j u (omega arith) exists) in
          grown-read NoMore m x grown j u (subst (λ (s : ℕ). IsReadFollowed h (Waits NoMore m.order) m.order.counts (op s j) u) (sym takes.session) of_m))
          (cases_eq j a.taken)

      module _ (b : HappenedBefore) (saturated : HasGrown h Always x b) (settled : IsSettled NoMore b.order) (reads : AreReadsFollowed h NoMore b.taken b) where
        last-m : last_of m ≡ o
        last-m = let taken = takes.taken in same_op (last_of m) o takes.session (omega arith)

        -- all steps
        steps : Grows h Always (program_past o) a.order b.order
        steps =
            let first = grows-wider h Always Always (λ is. is) NoReads (program_past o) (λ r none. absurd cc) a.order m.order takes.past.grows in
            let second : Grows h Always (program_past o) m.order x.order = subst (λ (q : OpId). Grows h Always (program_past q) m.order x.order) last-m
            (grows-wider h ⊥ Always (λ none. absurd none) (program_past (last_of m)) (program_past (last_of m)) (λ r is. is) m.order x.order grown.order) in
            let third : Grows h Always (program_past o) x.order b.order = subst (λ (q : OpId). Grows h Always (program_past q) x.order b.order) (last-same ⊥ m x grown ∙ last-m) saturated.order in
            grows-then h Always (program_past o) a.order x.order b.order (grows-then h Always (program_past o) a.order m.order x.order first second) third

        same-session : b.session ≡ a.session
        same-session = saturated.session ∙ grown.session ∙ takes.session

        same-taken : b.taken ≡ suc a.taken
        same-taken = let one = saturated.taken in let two = grown.taken in let three = takes.taken in omega arith

        same-past : b.order.past.items ≡ m.order.past.items
        same-past = saturated.past ∙ grown.past

        past-next : (s : ℕ) → slice_index b.order.past.items s ≡ count made.causal o s
        past-next s = ap (λ (es : List ℕ). slice_index es s) same-past ∙ taken-past h made.causal made.counts a made refl next m.order takes.past s

        tells-before : TellsCycles h Always (program_past o) a.order
        tells-before = (
          (λ p is_op. let own = made.begun.own p is_op in let more = made.grown p p.session in omega arith),
          made.cyclic,
          made.acyclic,
        )

        tells-after : TellsCycles h Always (program_past o) b.order
        tells-after = grows-cyclic h Always (program_past o) a.order b.order steps tells-before

        supported-next : IsDifferentiated h → IsSupported h o b.order.counts
        supported-next distinct = grows-supported h Always (program_past o) made.causal made.counts distinct o next (λ r is. is) a.order b.order steps
            (next-supported h made.causal made.counts a made refl next distinct)

        sums-next : b.order.added + all_counted h made.strict ≡ all_counted h b.order.counts
        sums-next = let sums = (grows-sums h Always (program_past o) a.order b.order steps).0 in let before = made.added in omega arith

        outside-next : (p : OpId) (s : ℕ) → slice_index b.order.past.items p.session ≤ p.index → count b.order.counts p s ≡ count made.strict p s
        outside-next = grows-outside h Always (program_past o) made.strict a.order b.order steps made.outside

        -- what is in is in its past
        past-in : (p : OpId) → IsIn b.order p → IsPast h o p
        past-in p is_in = let is = past-next p.session in ⊎_elim
            (λ (same : p ≡ o). inl same)
            (λ (before : SourceOrder h p o). inr (CO-from_sources h p o before))
            ((made.counts.counted o p next).0 (omega arith))

        -- its raises are right, and reach what is counted
        right-next : AreRightRaises h o made.strict b.order.raises.items × AreReached made.strict b.order.raises.items b.order.counts
        right-next = grows-right h Always (program_past o) o made.strict (λ r is. is) b.order saturated.well_formed.order past-in a.order steps
            (made.right a.taken next (omega arith)) made.reached

        few-raises : length b.order.raises.items ≤ b.order.added
        few-raises = grows-few h Always (program_past o) a.order b.order steps made.few

        module _ (waits : length b.order.pending.items ≡ 0) where
          -- where nothing waits, a vector counts what the last one counts that it counts
          followed-end : (p : OpId) (u i z : ℕ) → IsFresh (Waits NoMore b.order) b.order.counts p u → IsIn b.order p → count b.order.counts p u ≡ i + 1
              → count b.order.counts (op u i) z ≤ count b.order.counts p z
          followed-end p u i z fresh is_in ends = ⊎_elim
              (λ (counts : count b.order.counts (op u i) z ≤ count b.order.counts p z). counts)
              (λ (waiting : IsPending (Waits NoMore b.order) p u ⊎ IsCovered (Waits NoMore b.order) b.order.counts (op u i) z). absurd (⊎_elim
              (λ (is : IsPending (Waits NoMore b.order) p u). ⊎_elim
              (λ (held : Contains b.order.pending.items is.0). no-entry b.order.pending.items waits is.0 held)
              (λ (none : ⊥). none)
              is.1)
              (λ (is : IsCovered (Waits NoMore b.order) b.order.counts (op u i) z). ⊎_elim
              (λ (held : Contains b.order.pending.items is.0). no-entry b.order.pending.items waits is.0 held)
              (λ (none : ⊥). none)
              is.1)
              waiting))
              (settled.followed p u is_in fresh i z ends)

          last-from : (n : ℕ) (p : OpId) → p.index ≡ n → IsIn b.order p → (u i z : ℕ) → count b.order.counts p u ≡ i + 1
              → count b.order.counts (op u i) z ≤ count b.order.counts p z
          last-from zero p first is_in u i z ends = followed-end p u i z (λ j is. absurd (omega arith)) is_in ends
          last-from (suc n) p place is_in u i z ends = ⊎_elim
              (λ (less : count b.order.counts (op p.session n) u < count b.order.counts p u).
              followed-end p u i z
              (λ j is. subst (λ (k : ℕ). count b.order.counts (op p.session k) u < count b.order.counts p u) (let same : n ≡ j = omega arith in same) less)
              is_in ends)
              (λ (enough : count b.order.counts p u ≤ count b.order.counts (op p.session n) u).
              let here : op p.session (n + 1) ≡ p = same_op (op p.session (n + 1)) p refl (omega arith) in
              let below : n + 1 < slice_index b.order.past.items p.session = omega arith in
              let rises = settled.monotone p.session n u below in
              let rises_u : count b.order.counts (op p.session n) u ≤ count b.order.counts p u =
              subst (λ (q : OpId). count b.order.counts (op p.session n) u ≤ count b.order.counts q u) here rises in
              let last = last-from n (op p.session n) refl (omega arith) u i z (omega arith) in
              let rises_z : count b.order.counts (op p.session n) z ≤ count b.order.counts p z =
              subst (λ (q : OpId). count b.order.counts (op p.session n) z ≤ count b.order.counts q z) here (settled.monotone p.session n z below) in
              omega arith)
              (cases_lt (count b.order.counts (op p.session n) u) (count b.order.counts p u))

          bounded-m : (p : OpId) (y : ℕ) → p.index < slice_index b.order.past.items p.session → count m.order.counts p y ≤ slice_index b.order.past.items y
          bounded-m p y below =
              let same_p = ap (λ (es : List ℕ). slice_index es p.session) same-past in
              let same_y = ap (λ (es : List ℕ). slice_index es y) same-past in
              let most = takes.past.ready.transitive.inside p y (omega arith) in
              omega arith

          from-m : Grows h Always (program_past o) m.order b.order
          from-m =
              let second : Grows h Always (program_past o) m.order x.order = subst (λ (q : OpId). Grows h Always (program_past q) m.order x.order) last-m
              (grows-wider h ⊥ Always (λ none. absurd none) (program_past (last_of m)) (program_past (last_of m)) (λ r is. is) m.order x.order grown.order) in
              let third : Grows h Always (program_past o) x.order b.order = subst (λ (q : OpId). Grows h Always (program_past q) x.order b.order) (last-same ⊥ m x grown ∙ last-m) saturated.order in
              grows-then h Always (program_past o) m.order x.order b.order second third

          -- then the vectors are those of a transitive order
          transitive-next : IsTransitive b.order
          transitive-next = record {
            empty = waits;
            inside = grows-bounded h Always (program_past o) (λ s. slice_index b.order.past.items s)
                (λ r is.
                let parts = program_past-parts o r is in
                let up_to = parts.1 in
                let here = takes.past.here in
                let same = ap (λ (es : List ℕ). slice_index es a.session) same-past in
                subst (λ (t : ℕ). r.index < slice_index b.order.past.items t) (sym parts.0) (omega arith))
                m.order b.order from-m bounded-m;
            monotone = settled.monotone;
            pasts = λ p u i z is_in ends. last-from p.index p refl is_in u i z ends;
          }

          module _ (distinct : IsDifferentiated h) where
            in-past : (p : OpId) → IsPast h o p → IsIn b.order p
            in-past p in_p =
                let counted = ltb-true p.index (count made.causal o p.session) (in_past-from h made.causal made.counts distinct o next p in_p) in
                let is = past-next p.session in
                omega arith

            -- nothing is left to be added
            fixed-next : IsFixed h made.causal o b.order.counts
            fixed-next = record {
              own = λ p in_p. tells-after.0 p (past-of_history h o p next in_p);
              others = λ p u in_p apart.
                  let begun = made.begun.others p u (past-of_history h o p next in_p) apart in
                  let before = made.grown p u in
                  let rises = grows-rises h Always (program_past o) a.order b.order steps p u in
                  omega arith;
              past = λ p u i in_p ends. (HB-inside h made.causal made.counts distinct o next (op u i) p (supported-next distinct (op u i) p in_p (omega arith))).0;
              last = λ p u i in_p ends z. last-from p.index p refl (in-past p in_p) u i z ends;
              next = λ s i in_next z. settled.monotone s i z (in-past (op s (i + 1)) in_next);
              read = λ w r y t u m kept from wrote last apart.
                  let parts = program_past-parts o r kept in
                  let up_to = parts.1 in
                  let taken = same-taken in
                  let below = last.below in
                  let r_is_op = past-of_history h o r next (past-program h o r next kept) in
                  let most = saturated.well_formed.order.counts.held r u r_is_op in
                  let exists = session-of_history h (op u m) (omega arith) in
                  let here : op b.session r.index ≡ r = same_op (op b.session r.index) r (same-session ∙ sym parts.0) refl in
                  let read : IsReadFollowed h (Waits NoMore b.order) b.order.counts r u =
                  subst (λ (q : OpId). IsReadFollowed h (Waits NoMore b.order) b.order.counts q u) here (reads r.index u (omega arith) exists) in
                  ⊎_elim
                  (λ (done : IsReadDone h b.order.counts r u). done w y t m (distinct-source h distinct w r from) wrote last apart)
                  (λ (waiting : IsReadWaiting (Waits NoMore b.order) r u). absurd (⊎_elim
                  (λ (held : Contains b.order.pending.items waiting.0). no-entry b.order.pending.items waits waiting.0 held)
                  (λ (none : ⊥). none)
                  waiting.1))
                  read;
            }

            -- the vectors are those of the relation
            exact-next : IsHBVectors h o b.order.counts
            exact-next = fixed-exact h made.causal made.counts distinct o next b.order.counts fixed-next saturated.well_formed.order.counts (supported-next distinct)

            acyclic-next : b.order.is_cyclic ≡ false → (p : OpId) → ¬ HB h o p p
            acyclic-next not p happened =
                let in_p = (HB-inside h made.causal made.counts distinct o next p p happened).1 in
                let counted = (exact-next.exact p p in_p).1 happened in
                let own = tells-after.2 not p (past-of_history h o p next in_p) in
                omega arith

            cyclic-next : b.order.is_cyclic ≡ true → (p : OpId) × HB h o p p
            cyclic-next is =
                let cycle = tells-after.1 is in
                (cycle.0, (exact-next.exact cycle.0 cycle.0 (past-in cycle.0 cycle.1)).0 cycle.2)

            -- other vectors of pairs of the relation count no more
            least-next : (n : ℕ) (more : HasMorePairs h o n) (p : OpId) (s : ℕ) → IsOp h p → count more.now p s ≤ count b.order.counts p s
            least-next n more p s is_op = ⊎_elim
                (λ (is_in : IsIn b.order p). ⊎_elim
                (λ (less : count b.order.counts p s < count more.now p s).
                let a : OpId = op s (count b.order.counts p s) in
                let again : count b.order.counts p s < count b.order.counts p s =
                (exact-next.exact a p (past-in p is_in)).1 (more.supported a p (past-in p is_in) less) in
                absurd (omega arith))
                (λ (up_to : count more.now p s ≤ count b.order.counts p s). up_to)
                (cases_lt (count b.order.counts p s) (count more.now p s)))
                (λ (out : slice_index b.order.past.items p.session ≤ p.index).
                let other = more.outside p s (λ in_p. let is_in = in-past p in_p in omega arith) in
                let same = outside-next p s out in
                let strict = strict-least h made.causal more.causal made.strict more.strict made.counts more.counts made.begun more.begun p s is_op in
                omega arith)
                (cases_lt p.index (slice_index b.order.past.items p.session))

            no-more : (n : ℕ) → ¬ (n < b.order.added) → ¬ HasMorePairs h o n
            no-more n not more =
                let now = all-within h more.now b.order.counts (λ p s is_op. least-next n more p s is_op) in
                let strict = all-within h made.strict more.strict
                (λ p s is_op. strict-least h more.causal made.causal more.strict made.strict more.counts made.counts more.begun made.begun p s is_op) in
                let sums = sums-next in
                let most = more.more in
                not (omega arith)

            few-next : (most : Option ℕ) → ¬ MatchOption most ⊥ (λ n. n < b.order.added) → MatchOption most Always (λ n. ¬ HasMorePairs h o n)
            few-next None not = tt
            few-next (Some n) not = no-more n not

        -- what was added are pairs of the relation
        added-pairs : IsDifferentiated h → (n : ℕ) → n < b.order.added → HasMorePairs h o n
        added-pairs distinct n fewer = record {
          causal = made.causal;
          counts = made.counts;
          strict = made.strict;
          begun = made.begun;
          now = b.order.counts;
          held = saturated.well_formed.order.counts;
          supported = supported-next distinct;
          outside = λ p s not. outside-next p s (⊎_elim
              (λ (is_in : IsIn b.order p). absurd (not (past-in p is_in)))
              (λ (out : slice_index b.order.past.items p.session ≤ p.index). out)
              (cases_lt p.index (slice_index b.order.past.items p.session)));
          more = let sums = sums-next in omega arith;
        }

        more-pairs : IsDifferentiated h → (most : Option ℕ) → MatchOption most ⊥ (λ n. n < b.order.added) → MatchOption most ⊥ (λ n. HasMorePairs h o n)
        more-pairs distinct None given_up = given_up
        more-pairs distinct (Some n) given_up = added-pairs distinct n given_up

        module _ (ended : (length b.order.pending.items ≡ 0) ⊎ IsGivenUp b.order) where
          waits-none : ¬ IsGivenUp b.order → length b.order.pending.items ≡ 0
          waits-none not = ⊎_elim
              (λ (none : length b.order.pending.items ≡ 0). none)
              (λ (given_up : IsGivenUp b.order). absurd (not given_up))
              ended

          past-made : (s : ℕ) → slice_index b.order.past.items s ≡ past_count made.causal b.session b.taken s
          past-made s = past-next s ∙ subst₂ (λ (t n : ℕ). count made.causal o s ≡ past_count made.causal t n s) (sym same-session) (sym same-taken) refl

          -- the relation is made
          pub made-next : IsMade h b
          made-next = record {
            well_formed = saturated.well_formed;
            causal = made.causal;
            counts = made.counts;
            strict = made.strict;
            begun = made.begun;
            grown = λ p s. let before = made.grown p s in let rises = grows-rises h Always (program_past o) a.order b.order steps p s in omega arith;
            outside = outside-next;
            untouched = grows-untouched h Always (program_past o) made.strict a.order b.order steps made.untouched;
            added = sums-next;
            past = λ s. let is = past-made s in omega arith;
            all = λ _ s. let is = past-made s in omega arith;
            cyclic = tells-after.1;
            acyclic = tells-after.2;
            supported = λ distinct n is.
                let here : o ≡ op b.session n = let taken = same-taken in same_op o (op b.session n) (sym same-session) (omega arith) in
                subst (λ (q : OpId). IsSupported h q b.order.counts) here (supported-next distinct);
            right = λ n is_op from. right-later h (op b.session n) o made.strict b.order.raises.items is_op
                (program_past-from (op b.session n) o (sym same-session) (let taken = same-taken in omega arith)) right-next.0;
            reached = right-next.1;
            few = few-raises;
            transitive = λ not. transitive-next (waits-none not);
            reads = λ _. reads;
          }

          pub outcome-next : IsDifferentiated h → (told : Saturation) → Tells b told → IsOutcome h o b.order.most b.order.counts told
          outcome-next distinct Saturated tells = let none = waits-none tells.0 in (exact-next none distinct, acyclic-next none distinct tells.1)
          outcome-next distinct Cyclic tells = let none = waits-none tells.0 in (exact-next none distinct, cyclic-next none distinct tells.1)
          outcome-next distinct GivenUp tells = more-pairs distinct b.order.most tells

          pub takes-next : TakesNext h a b
          takes-next = record {
            made = made-next;
            session = same-session;
            taken = let taken = same-taken in omega arith;
            most = grows-most h Always (program_past o) a.order b.order steps;
            counts = λ p s. grows-rises h Always (program_past o) a.order b.order steps p s;
            same = grows-since h Always (program_past o) a.order b.order steps;
            outcome = outcome-next;
            few = λ distinct not. few-next (waits-none not) distinct b.order.most not;
            raised = λ distinct n below. added-pairs distinct n (let few = few-raises in omega arith);
          }
