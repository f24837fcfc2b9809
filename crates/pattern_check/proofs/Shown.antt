-- What a pattern names shows its kind, and so excludes the criteria that the kind is against.
use Rattle.std.proofs.Common.{◌≡◌, ℕ, zero, suc, ◌+◌, ◌-◌, ◌⊎◌, inl, inr, List, ◌∷◌, length, map, sym, ap, ◌∙◌, subst, refl, arith, add-one}
use Rattle.std.specs.Prelude.{IsTrue, Some, slice_get, option_map}
use Rattle.std.proofs.lemmas.Option.{same_Some, slice_get_within, get_or_from_slice_get, slice_get-map}
use Rattle.model_history.specs.declared.op_id.OpId.{OpId}
use Rattle.json_histories.specs.Laws.Json.{map_from}
use Rattle.order_causal.specs.Orders.{StandsAt}
use Rattle.order_memory.specs.Memory.{MemoryHistory, memory_answer, IsDifferentiated}
use Rattle.order_memory.specs.Relations.{CO, CF}
use Rattle.cert_check.specs.declared.criterion.Criterion.{Criterion}
use Rattle.cert_check.specs.declared.criterion.Criterion.TheVariants.{Cc, Cm, Ccv}
use Rattle.cert_check.specs.Criteria.{Meets}
use Rattle.pattern_check.specs.declared.kind.Kind.{Kind}
use Rattle.pattern_check.specs.declared.kind.Kind.TheVariants as kinds
use Rattle.pattern_check.specs.declared.link.Link.{Link}
use Rattle.pattern_check.specs.declared.link.Link.TheVariants.{Co, Cf}
use Rattle.pattern_check.specs.declared.pattern.Pattern.{Pattern}
use Rattle.pattern_check.specs.declared.pattern.Pattern.TheVariants.{CyclicCO, ThinAirRead, WriteCOInitRead, WriteCORead, WriteHBInitRead, CyclicHB, CyclicCF}
use Rattle.pattern_check.specs.Kinds.{is_against, Shows, IsPresent, IsTrueNo}
use Rattle.pattern_check.specs.Paths.{begin_of, end_of, IsLink, IsCycle}
use Rattle.pattern_check.specs.Patterns.{kind_of, IsShownBy, IsBadPattern}
use Rattle.pattern_check.proofs.Derived.{derivation-sound}
use Rattle.pattern_check.proofs.MemoryExclusion.{initial_read_HB-excluded, cyclic_HB-excluded}
use Rattle.pattern_check.proofs.Exclusion.{consistency-excluded, convergence-excluded}
use Rattle.pattern_check.proofs.Leads.{leads-step, goes-leads, goes-apart}
use Rattle.order_memory.proofs.MemoryLaws.{write-or_read}

module _ (h : MemoryHistory) where
  -- a step of a cycle of the causal order and conflicts
  abbrev IsStep : OpId → OpId → Type 0
  IsStep a b = CO h a b ⊎ CF h a b

  link-step : (l : Link) (a : OpId) → IsLink h l → begin_of l ≡ Some a → IsStep a (end_of l)
  link-step (Co b c) a edge begins = let same : b ≡ a = same_Some b a begins in inl (leads-step _ a c (rw (← same) edge))
  link-step (Cf path w) a (b, r, goes, (x, v, wrote, reads, other), rival) begins =
      let same : b ≡ a = same_Some b a (sym goes.first ∙ begins) in
      let writes = rival.1 in
      rw (← same) (inr (rival, (r, goes-apart h path b r (write-or_read h b r writes.0 writes.1 x v writes.3 reads) goes, (x, v, wrote, reads, other))))

  module _ (links : List Link) (cycle : IsCycle h links) where
    abbrev last : Link
    last = cycle.closed.0

    -- where the links end, with the end of the last one in front
    abbrev ends : List OpId
    ends = end_of last ∷ map end_of links

    -- the link that leads to a place
    link-to : (k : ℕ) (b : OpId) → StandsAt ends (k + 1) b → (l : Link) × (slice_get links k ≡ Some l) × (end_of l ≡ b)
    link-to k b stands =
        let there : slice_get (map end_of links) k ≡ Some b = rw add-one at stands in
        map_from end_of (slice_get links k) b (sym (slice_get-map end_of links k) ∙ there)

    link-from : (k : ℕ) (a : OpId) (l : Link) → StandsAt ends k a → slice_get links k ≡ Some l → begin_of l ≡ Some a
    link-from zero a l stands at =
        let closed = cycle.closed in
        let first : closed.1 ≡ l = same_Some _ _ (sym closed.3 ∙ at) in
        let here : end_of last ≡ a = same_Some _ _ stands in
        rw (← first, ← here) closed.4
    link-from (suc k) a l stands at =
        let before = map_from end_of (slice_get links k) a (sym (slice_get-map end_of links k) ∙ stands) in
        let next : k + 1 ≡ suc k = omega arith in
        rw (← before.2) (cycle.joined k before.0 l before.1 (ap (slice_get links) next ∙ at))

    link-at : (k : ℕ) (l : Link) → slice_get links k ≡ Some l → IsLink h l
    link-at k l at =
        subst (λ (l : Link). IsLink h l) (get_or_from_slice_get links k l l at) (cycle.each k l (slice_get_within links k l at))

    cycle-shows : Shows h kinds.CyclicCF
    cycle-shows = (
      end_of last,
      (
        ends,
        length links - 1,
        λ k a b at_a at_b.
            let l = link-to k b at_b in
            subst (λ (b : OpId). IsStep a b) l.2 (link-step l.0 a (link-at k l.0 l.1) (link-from k a l.0 at_a l.1)),
        refl,
        rw add-one (slice_get-map end_of links (length links - 1) ∙ ap (option_map end_of) cycle.closed.2),
      ),
    )

  pub pattern-shows : (pattern : Pattern) → IsShownBy h pattern → Shows h (kind_of pattern)
  pattern-shows (CyclicCO path) (edge, (a, goes)) = (a, goes-leads h path a a edge goes)
  pattern-shows (ThinAirRead r) shown = (r, shown)
  pattern-shows (WriteCOInitRead path) (w, r, x, v, wrote, reads, goes) =
      (w, r, x, v, wrote, reads, goes-apart h path w r (write-or_read h w r x v x _ wrote reads) goes)
  pattern-shows (WriteCORead first second) (a, b, r, from, rival, above, below) =
      let writes = rival.1 in (
        a,
        b,
        r,
        from,
        rival,
        goes-apart h first a b rival.0 above,
        goes-apart h second b r (write-or_read h b r writes.0 writes.2 from.0 from.1 writes.4 from.3) below,
      )
  pattern-shows (WriteHBInitRead o lines) (w, r, x, v, wrote, reads, kept, is) =
      (o, w, r, x, v, wrote, reads, kept, derivation-sound h o lines w r is)
  pattern-shows (CyclicHB o lines) (a, is) = (o, a, derivation-sound h o lines a a is)
  pattern-shows (CyclicCF links) cycle = cycle-shows links cycle

  module _ (of_cm : Meets memory_answer h Cm → Meets memory_answer h Cc) (of_ccv : Meets memory_answer h Ccv → Meets memory_answer h Cc) where
    to_consistency : (criterion : Criterion) → Meets memory_answer h criterion → Meets memory_answer h Cc
    to_consistency Cc met = met
    to_consistency Cm met = of_cm met
    to_consistency Ccv met = of_ccv met

    -- a kind that is shown excludes the criteria that it is against, where each criterion contains causal consistency
    pub kind-excludes : IsDifferentiated h → (criterion : Criterion) (kind : Kind) → IsTrue (is_against kind criterion) → Shows h kind
        → ¬ Meets memory_answer h criterion
    kind-excludes distinct criterion kinds.CyclicCO against shown met =
        consistency-excluded h distinct kinds.CyclicCO refl shown (to_consistency criterion met)
    kind-excludes distinct criterion kinds.ThinAirRead against shown met =
        consistency-excluded h distinct kinds.ThinAirRead refl shown (to_consistency criterion met)
    kind-excludes distinct criterion kinds.WriteCOInitRead against shown met =
        consistency-excluded h distinct kinds.WriteCOInitRead refl shown (to_consistency criterion met)
    kind-excludes distinct criterion kinds.WriteCORead against shown met =
        consistency-excluded h distinct kinds.WriteCORead refl shown (to_consistency criterion met)
    kind-excludes distinct Cc kinds.WriteHBInitRead against shown met = absurd cc
    kind-excludes distinct Cm kinds.WriteHBInitRead against shown met = initial_read_HB-excluded h distinct shown met
    kind-excludes distinct Ccv kinds.WriteHBInitRead against shown met = absurd cc
    kind-excludes distinct Cc kinds.CyclicHB against shown met = absurd cc
    kind-excludes distinct Cm kinds.CyclicHB against shown met = cyclic_HB-excluded h distinct shown met
    kind-excludes distinct Ccv kinds.CyclicHB against shown met = absurd cc
    kind-excludes distinct Cc kinds.CyclicCF against shown met = absurd cc
    kind-excludes distinct Cm kinds.CyclicCF against shown met = absurd cc
    kind-excludes distinct Ccv kinds.CyclicCF against shown met = convergence-excluded h distinct shown met

  -- so does a bad pattern, where each kind that is present excludes the criteria that it is against
  pub pattern-excludes : ((criterion : Criterion) (kind : Kind) → IsTrue (is_against kind criterion) → IsPresent h kind → ¬ Meets memory_answer h criterion)
      → (criterion : Criterion) (pattern : Pattern) → IsBadPattern h criterion pattern → IsTrueNo h criterion (kind_of pattern)
  pattern-excludes kinds_exclude criterion pattern bad =
      let present : IsPresent h (kind_of pattern) = (bad.differentiated, pattern-shows pattern bad.shown) in
      record {
        against = bad.against;
        present = present;
        not_met = kinds_exclude criterion (kind_of pattern) bad.against present;
      }
