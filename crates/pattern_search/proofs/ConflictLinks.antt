-- Operations that wait for one another by the reads of a history, and the links that show a cycle of them.
use Rattle.std.specs.Prelude.{◌≢◌, ◌↔◌, ◌==◌, ◌&&◌, Bool, IsTrue, not, true, Option, Some, None, MatchOption, slice_get}
use Rattle.std.proofs.Common.{◌≡◌, ℕ, ◌+◌, ◌-◌, ◌<◌, ◌≤◌, List, [], ◌∷◌, ◌++◌, length, get_or, arith, refl, sym, ap, subst, subst₂, ◌∙◌, inl, inr, ⊎_elim, eq-or-lt_of_le, length-append}
use Rattle.std.proofs.lemmas.Bool.{not-true, true≢false}
use Rattle.std.proofs.lemmas.List.{get_or_append_left, get_or_push}
use Rattle.std.proofs.lemmas.Option.{same_Some, slice_get_within, slice_get-get_or, get_or_from_slice_get}
use Rattle.model_history.specs.declared.op_id.OpId.{OpId}
use Rattle.model_history.specs.History.{Precedes}
use Rattle.order_memory.specs.declared.known_reads.KnownRead.{KnownRead}
use Rattle.order_memory.specs.Memory.{MemoryHistory, Reads, Writes}
use Rattle.order_causal.specs.Orders.{only, op, StandsAt}
use Rattle.order_memory.specs.Relations.{IsEdge, ReadsFrom}
use Rattle.order_memory.specs.SourceOrder.{IsSource, SourceOrder}
use Rattle.order_causal.specs.Vectors.{IsListed, Counts, count}
use Rattle.order_memory.specs.Steps.Conflicts.{IsWriteInPast, IsDue}
use Rattle.order_memory.specs.Steps.Indexed.{HasNoWriteOfPast, IsKnownRead, IsLastWriteOfPast, IsSourceIfAny, IsSourcePast, ListsReads}
use Rattle.order_causal.specs.Waits.{AreAlike, AreWaitsFor, IsAwaited, IsWaitEdge, IsWaitingCycle}
use Rattle.order_memory.proofs.IndexedLaws.{if_any-unique}
use Rattle.order_memory.proofs.MemoryLaws.{read-of_history, same_read, write-or_read}
use Rattle.order_causal.proofs.OrdersLaws.{same_op}
use Rattle.cert_check.proofs.ConvergentLaws.{only-same}
use Rattle.pattern_check.specs.declared.link.Link.{Link}
use Rattle.pattern_check.specs.declared.link.Link.TheVariants.{Co, Cf}
use Rattle.pattern_check.specs.Paths.{GoesFrom, IsCycle}
use Rattle.pattern_search.specs.Steps.Conflicts.{AreLinksOf, IsConflictBy, IsConflictCycle, IsConflictStep, IsLastConflict, LinksTo}
use Rattle.pattern_check.proofs.ReadPasts.{itself}
use Rattle.order_memory.proofs.Elements.{at-listed}
use Rattle.pattern_search.proofs.ReadPatterns.{source-of}

-- the test of operations for equality
pub same_operations : (a b : OpId) → (((a.session == b.session) && (a.index == b.index)) ≡ true) ↔ (a ≡ b)
same_operations a b = (only-same b a, λ same. subst (λ (o : OpId). IsTrue (only b o)) (sym same) (itself b))

pub apart-tested : (a b : OpId) (t : Bool) → t ≡ not ((a.session == b.session) && (a.index == b.index)) → t ≡ true → a ≢ b
apart-tested a b t is holds same =
    let test = (same_operations a b).1 same in
    let no = not-true ((a.session == b.session) && (a.index == b.index)) (sym is ∙ holds) in
    true≢false (sym test ∙ no)

module _ (h : MemoryHistory) (waits : Counts) (alike : AreAlike waits h.1) (are : AreWaitsFor (IsDue h) waits) where
  -- the last write of a session that an operation waits for by a read is the last one in the past of the read
  awaited-last : (a b r : OpId) → count waits b a.session ≡ a.index + 1 → IsSource h b r → (write : IsWriteInPast h r a)
      → IsLastWriteOfPast h write.x a.session r a
  awaited-last a b r awaited source write = record {
    session = refl;
    past = (read-of_history h r write.x write.y write.reads, inr write.before);
    value = write.u;
    writes = write.writes;
    last = λ i u past wrote.
        let before : SourceOrder h (op a.session i) r = ⊎_elim
        (λ (same : op a.session i ≡ r). absurd (write-or_read h (op a.session i) r write.x u write.x write.y wrote write.reads same))
        (λ (earlier : SourceOrder h (op a.session i) r). earlier)
        past.1 in
        let counted = are.each (op a.session i) b (
          r,
          inr (source, record { x = write.x; u = u; y = write.y; writes = wrote; reads = write.reads; before = before }),
        ) in
        omega arith;
  }

  wait-step : (a b : OpId) → IsWaitEdge waits a b → IsConflictStep h a b
  wait-step a b = ⊎_elim
      (λ (before : Precedes a b × IsListed waits b).
      let same = alike.operations b.session in let listed = before.1 in inl (inl (before.0, omega arith)))
      (λ (awaited : IsAwaited waits b a).
      let due = are.last a b awaited.0 in
      let r : OpId = due.0 in
      ⊎_elim
      (λ (source : IsSource h a r × (b ≡ r)). inl (inr (subst (λ (o : OpId). ReadsFrom h a o) (sym source.1) source.0.0)))
      (λ (conflict : IsSource h b r × IsWriteInPast h r a).
      let write = conflict.1 in
      inr (
        record { op = r; key = write.x; source = Some b },
        record { value = write.y; reads = write.reads; source = conflict.0 },
        record { source = refl; apart = awaited.1; last = awaited-last a b r awaited.0 conflict.0 write },
      ))
      due.1)

  -- a cycle of operations that wait is one of the causal order and conflicts
  pub conflict-cycle : (ops : List OpId) → IsWaitingCycle waits ops → IsConflictCycle h ops
  conflict-cycle ops cycle = record { joined = λ k a b at next. wait-step a b (cycle.joined k a b at next); some = cycle.some; closed = cycle.closed }

module _ (h : MemoryHistory) where
  -- the last write of a session in the past of a read is the one that a conflict by the read asks for
  last-same : (x s : ℕ) (o a w : OpId) → IsLastWriteOfPast h x s o a → IsLastWriteOfPast h x s o w → a ≡ w
  last-same x s o a w first second =
      let up = second.last a.index first.value (subst (λ (b : OpId). IsSourcePast h o b) (same_op a (op s a.index) first.session refl) first.past)
      (subst (λ (b : OpId). Writes h b x first.value) (same_op a (op s a.index) first.session refl) first.writes) in
      let down = first.last w.index second.value (subst (λ (b : OpId). IsSourcePast h o b) (same_op w (op s w.index) second.session refl) second.past)
      (subst (λ (b : OpId). Writes h b x second.value) (same_op w (op s w.index) second.session refl) second.writes) in
      same_op a w (first.session ∙ sym second.session) (omega arith)

  pub last-conflict : (a b : OpId) (k : KnownRead) → k.source ≡ Some b → a ≢ b → (e : Option OpId)
      → MatchOption e (HasNoWriteOfPast h k.key a.session k.op) (IsLastWriteOfPast h k.key a.session k.op)
      → (e ≡ Some a) ↔ IsLastConflict h a b k
  last-conflict a b k source apart None none = (
    (λ same. absurd cc),
    λ conflict. let last = conflict.last in absurd (none a.index last.value last.past last.writes),
  )
  last-conflict a b k source apart (Some w) found = (
    (λ same. record {
      source = source;
      apart = apart;
      last = subst (λ (o : OpId). IsLastWriteOfPast h k.key a.session k.op o) (same_Some w a same) found;
    }),
    λ conflict. ap (λ (o : OpId). Some o) (last-same k.key a.session k.op w a found conflict.last),
  )

  -- by such a read its write and the write that it reads from are in conflict
  pub conflict-by : (a b : OpId) (k : KnownRead) → IsKnownRead h k → IsLastConflict h a b k → IsConflictBy h a b k.op
  conflict-by a b k known conflict =
      let reads = source-of h k known b conflict.source in
      let same = same_read h k.op k.key known.value reads.0 reads.1 known.reads reads.3 in
      let last = conflict.last in
      record {
        past = last.past;
        reads = reads;
        rivals = (conflict.apart, (k.key, last.value, reads.1, last.writes, subst (λ (x : ℕ). Writes h b x reads.1) (sym same.0) reads.2));
      }

  pub conflict-link : (a b r : OpId) (path : List OpId) → IsConflictBy h a b r → GoesFrom h path a r → LinksTo h a b (Cf path b)
  conflict-link a b r path conflict goes = record { is = (a, r, goes, conflict.reads, conflict.rivals); begins = goes.first; ends = refl }

  pub edge-link : (a b : OpId) → IsConflictStep h a b → ((k : KnownRead) → IsKnownRead h k → ¬ IsLastConflict h a b k) → LinksTo h a b (Co a b)
  edge-link a b step none = ⊎_elim
      (λ (edge : IsEdge h a b). record { is = edge; begins = refl; ends = refl })
      (λ (conflict : (k : KnownRead) × IsKnownRead h k × IsLastConflict h a b k). absurd (none conflict.0 conflict.1 conflict.2))
      step

  -- a known read has one entry
  known-same : (j k : KnownRead) → IsKnownRead h j → IsKnownRead h k → j.op ≡ k.op → j ≡ k
  known-same j k first second same =
      let reads : Reads h k.op j.key first.value = subst (λ (o : OpId). Reads h o j.key first.value) same first.reads in
      let keys = same_read h k.op j.key first.value k.key second.value reads second.reads in
      let sources = if_any-unique h k.op j.source k.source (subst (λ (o : OpId). IsSourceIfAny h o j.source) same first.source) second.source in
      λ i. record { op = same i; key = keys.0 i; source = sources i }

  -- where no listed read shows a conflict, no known read does
  pub no_conflict : (a b : OpId) (reads : List KnownRead) → ListsReads h reads → (n : ℕ) → length reads ≤ n
      → ((i : ℕ) (k : KnownRead) → i < n → slice_get reads i ≡ Some k → ¬ IsLastConflict h a b k)
      → (k : KnownRead) → IsKnownRead h k → ¬ IsLastConflict h a b k
  no_conflict a b reads lists n ended none k known conflict =
      let entry = lists.each k.op k.key known.value known.reads in
      let j = entry.0 in
      let at = at-listed reads j entry.1 in
      let inside = slice_get_within reads entry.1.0 j at in
      let same = known-same j k (lists.no_other j entry.1) known entry.2 in
      none entry.1.0 j (omega arith) at (subst (λ (m : KnownRead). IsLastConflict h a b m) (sym same) conflict)

  module _ (ops : List OpId) where
    pub no-links : AreLinksOf h ops []
    no-links k a b l first next at = let below = slice_get_within [] k l at in absurd (omega arith)

    -- a link more
    pub links-more : (n : ℕ) (links : List Link) (d e : OpId) (link : Link) → AreLinksOf h ops links → length links + 1 ≡ n → n < length ops
        → LinksTo h (get_or ops (n - 1) d) (get_or ops n e) link → AreLinksOf h ops (links ++ link ∷ [])
    links-more n links d e link so_far count inside to k a b l at_a at_b at =
        let below = slice_get_within (links ++ link ∷ []) k l at in
        let size = length-append links (link ∷ []) in
        ⊎_elim
        (λ (last : k ≡ length links).
        let is : link ≡ l = sym (get_or_push links link l k (sym last)) ∙ get_or_from_slice_get (links ++ link ∷ []) k l l at in
        let here : k ≡ n - 1 = omega arith in
        let next : k + 1 ≡ n = omega arith in
        let is_a : get_or ops (n - 1) d ≡ a = get_or_from_slice_get ops (n - 1) a d (ap (slice_get ops) (sym here) ∙ at_a) in
        let is_b : get_or ops n e ≡ b = get_or_from_slice_get ops n b e (ap (slice_get ops) (sym next) ∙ at_b) in
        subst₂ (λ (x y : OpId). LinksTo h x y l) is_a is_b (subst (λ (m : Link). LinksTo h (get_or ops (n - 1) d) (get_or ops n e) m) is to))
        (λ (old : k < length links).
        let there = slice_get-get_or links k l old in
        let is : get_or links k l ≡ l = sym (get_or_append_left links (link ∷ []) l k old) ∙ get_or_from_slice_get (links ++ link ∷ []) k l l at in
        so_far k a b l at_a at_b (there ∙ ap (λ (m : Link). Some m) is))
        (let up_to : k ≤ length links = omega arith in eq-or-lt_of_le up_to)

    module _ (cycle : IsConflictCycle h ops) (links : List Link) (all : AreLinksOf h ops links) (count : length links + 1 ≡ length ops) where
      -- the link at a place, and where it goes
      link-at : (k : ℕ) (l : Link) → slice_get links k ≡ Some l → (a b : OpId) × StandsAt ops k a × StandsAt ops (k + 1) b × LinksTo h a b l
      link-at k l at =
          let below = slice_get_within links k l at in
          let none : OpId = op 0 0 in
          let at_a = slice_get-get_or ops k none (omega arith) in
          let at_b = slice_get-get_or ops (k + 1) none (omega arith) in
          (get_or ops k none, get_or ops (k + 1) none, at_a, at_b, all k (get_or ops k none) (get_or ops (k + 1) none) l at_a at_b at)

      link-of : (k : ℕ) → k < length links → (l : Link) × (slice_get links k ≡ Some l)
      link-of k below = let none : Link = Co (op 0 0) (op 0 0) in (get_or links k none, slice_get-get_or links k none below)

      -- the links of a cycle of such steps make a cycle
      pub links-cycle : IsCycle h links
      links-cycle =
          let some = cycle.some in
          let first = link-of 0 (omega arith) in
          let last = link-of (length links - 1) (omega arith) in
          let from = link-at 0 first.0 first.1 in
          let to = link-at (length links - 1) last.0 last.1 in
          let closed = cycle.closed in
          let begins : closed.0 ≡ from.0 = same_Some closed.0 from.0 (sym closed.1 ∙ from.2) in
          let place : length links - 1 + 1 ≡ length ops - 1 = omega arith in
          let ends : to.1 ≡ closed.0 = same_Some to.1 closed.0 (sym to.3 ∙ ap (slice_get ops) place ∙ closed.2) in
          record {
            each = λ k d below. (link-at k (get_or links k d) (slice_get-get_or links k d below)).4.is;
            joined = λ k l m at_l at_m.
                let one = link-at k l at_l in
                let two = link-at (k + 1) m at_m in
                let same : two.0 ≡ one.1 = same_Some two.0 one.1 (sym two.2 ∙ one.3) in
                two.4.begins ∙ ap (λ (o : OpId). Some o) (same ∙ sym one.4.ends);
            closed = (
              last.0,
              first.0,
              last.1,
              first.1,
              from.4.begins ∙ ap (λ (o : OpId). Some o) (sym begins ∙ sym ends ∙ sym to.4.ends),
            );
          }
