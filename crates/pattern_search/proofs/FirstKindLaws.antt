-- Which kind of bad pattern comes first, of those that are present.
use Rattle.std.proofs.Common.{◌<◌, ap, arith, inl, inr, refl, sym, subst, ⊎_elim, ◌∙◌}
use Rattle.std.specs.Prelude.{◌≡◌, ◌≢◌, ◌⊎◌, IsTrue, Some}
use Rattle.cert_check.specs.declared.criterion.Criterion.{Criterion}
use Rattle.cert_check.specs.declared.criterion.Criterion.TheVariants.{Cc, Cm, Ccv}
use Rattle.order_memory.specs.HappenedBeforePatterns.{HasStartOverwrittenInHB}
use Rattle.order_memory.specs.Memory.{MemoryHistory}
use Rattle.order_memory.specs.OverwrittenReads.{HasOverwrittenStart}
use Rattle.order_memory.specs.SourceOrder.{IsCyclic}
use Rattle.order_memory.specs.Steps.Indexed.{IsOrdered}
use Rattle.order_memory.proofs.FirstWrites.{CO-by_sources}
use Rattle.pattern_check.specs.declared.kind.Kind.{Kind}
use Rattle.pattern_check.specs.declared.kind.Kind.TheVariants.{CyclicCO, ThinAirRead, WriteCOInitRead, WriteCORead, WriteHBInitRead, CyclicHB, CyclicCF}
use Rattle.pattern_check.specs.declared.pattern.Pattern.{Pattern}
use Rattle.pattern_check.specs.Kinds.{is_against, IsFreeOf, IsPresent}
use Rattle.pattern_check.specs.Patterns.{kind_of}
use Rattle.pattern_search.specs.FirstKinds.{ComesFirst, ComesFirstOrLarge, place_of}
use Rattle.pattern_search.specs.Searches.{HasLargeHB}
use Rattle.pattern_search.specs.Steps.Found.{IsFirstFound, IsFirstHappened}

module _ (h : MemoryHistory) where
  -- a history with an order has no cycle and no thin-air read
  ordered-cycle : IsOrdered h → ¬ IsPresent h CyclicCO
  ordered-cycle ordered present = ordered.acyclic present.1.0 (CO-by_sources h present.0 present.1.0 present.1.0 present.1.1)

  ordered-thin_air : IsOrdered h → ¬ IsPresent h ThinAirRead
  ordered-thin_air ordered present = let read = present.1.1 in ordered.sources (present.1.0, read.0, read.1, read.2, read.3, read.4)

  -- of the kinds that are against every criterion
  pub first-cycle : (criterion : Criterion) → ComesFirst h criterion CyclicCO
  first-cycle criterion other below against present = absurd (omega arith)

  pub first-thin_air : ¬ IsCyclic h → (criterion : Criterion) → ComesFirst h criterion ThinAirRead
  first-thin_air acyclic criterion CyclicCO below against present = acyclic present.1
  first-thin_air acyclic criterion ThinAirRead below against present = absurd (omega arith)
  first-thin_air acyclic criterion WriteCOInitRead below against present = absurd (omega arith)
  first-thin_air acyclic criterion WriteCORead below against present = absurd (omega arith)
  first-thin_air acyclic criterion WriteHBInitRead below against present = absurd (omega arith)
  first-thin_air acyclic criterion CyclicHB below against present = absurd (omega arith)
  first-thin_air acyclic criterion CyclicCF below against present = absurd (omega arith)

  pub first-start : IsOrdered h → (criterion : Criterion) → ComesFirst h criterion WriteCOInitRead
  first-start ordered criterion CyclicCO below against present = ordered-cycle ordered present
  first-start ordered criterion ThinAirRead below against present = ordered-thin_air ordered present
  first-start ordered criterion WriteCOInitRead below against present = absurd (omega arith)
  first-start ordered criterion WriteCORead below against present = absurd (omega arith)
  first-start ordered criterion WriteHBInitRead below against present = absurd (omega arith)
  first-start ordered criterion CyclicHB below against present = absurd (omega arith)
  first-start ordered criterion CyclicCF below against present = absurd (omega arith)

  pub first-read : IsOrdered h → ¬ HasOverwrittenStart h → (criterion : Criterion) → ComesFirst h criterion WriteCORead
  first-read ordered start criterion CyclicCO below against present = ordered-cycle ordered present
  first-read ordered start criterion ThinAirRead below against present = ordered-thin_air ordered present
  first-read ordered start criterion WriteCOInitRead below against present = start present.1
  first-read ordered start criterion WriteCORead below against present = absurd (omega arith)
  first-read ordered start criterion WriteHBInitRead below against present = absurd (omega arith)
  first-read ordered start criterion CyclicHB below against present = absurd (omega arith)
  first-read ordered start criterion CyclicCF below against present = absurd (omega arith)

  -- of the kinds of happened-before, where no kind against causal consistency is present
  pub first-start_in_hb : IsFreeOf h Cc → (criterion : Criterion) → ComesFirst h criterion WriteHBInitRead
  first-start_in_hb free criterion CyclicCO below against present = free CyclicCO refl present
  first-start_in_hb free criterion ThinAirRead below against present = free ThinAirRead refl present
  first-start_in_hb free criterion WriteCOInitRead below against present = free WriteCOInitRead refl present
  first-start_in_hb free criterion WriteCORead below against present = free WriteCORead refl present
  first-start_in_hb free criterion WriteHBInitRead below against present = absurd (omega arith)
  first-start_in_hb free criterion CyclicHB below against present = absurd (omega arith)
  first-start_in_hb free criterion CyclicCF below against present = absurd (omega arith)

  pub first-cycle_in_hb : IsFreeOf h Cc → ¬ HasStartOverwrittenInHB h → (criterion : Criterion) → ComesFirst h criterion CyclicHB
  first-cycle_in_hb free start criterion CyclicCO below against present = free CyclicCO refl present
  first-cycle_in_hb free start criterion ThinAirRead below against present = free ThinAirRead refl present
  first-cycle_in_hb free start criterion WriteCOInitRead below against present = free WriteCOInitRead refl present
  first-cycle_in_hb free start criterion WriteCORead below against present = free WriteCORead refl present
  first-cycle_in_hb free start criterion WriteHBInitRead below against present = start present.1
  first-cycle_in_hb free start criterion CyclicHB below against present = absurd (omega arith)
  first-cycle_in_hb free start criterion CyclicCF below against present = absurd (omega arith)

  pub first-happened : IsFreeOf h Cc → (criterion : Criterion) (kind : Kind) → IsFirstHappened h kind → ComesFirstOrLarge h criterion kind
  first-happened free criterion kind found = ⊎_elim
      (λ (is : kind ≡ WriteHBInitRead). inl (subst (λ (k : Kind). ComesFirst h criterion k) (sym is) (first-start_in_hb free criterion)))
      (λ (is : (kind ≡ CyclicHB) × ((¬ HasStartOverwrittenInHB h) ⊎ HasLargeHB h (Some 19999))). ⊎_elim
      (λ (start : ¬ HasStartOverwrittenInHB h).
      inl (subst (λ (k : Kind). ComesFirst h criterion k) (sym is.0) (first-cycle_in_hb free start criterion)))
      (λ (large : HasLargeHB h (Some 19999)). inr (is.0, large))
      is.1)
      found

  -- and of a cycle with conflicts there
  pub first-conflicts : IsFreeOf h Cc → ComesFirst h Ccv CyclicCF
  first-conflicts free CyclicCO below against present = free CyclicCO refl present
  first-conflicts free ThinAirRead below against present = free ThinAirRead refl present
  first-conflicts free WriteCOInitRead below against present = free WriteCOInitRead refl present
  first-conflicts free WriteCORead below against present = free WriteCORead refl present
  first-conflicts free WriteHBInitRead below against present = absurd cc
  first-conflicts free CyclicHB below against present = absurd cc
  first-conflicts free CyclicCF below against present = absurd (omega arith)

  pub first-conflicts_for : IsFreeOf h Cc → (criterion : Criterion) (kind : Kind) → kind ≡ CyclicCF → IsTrue (is_against kind criterion)
      → ComesFirst h criterion kind
  first-conflicts_for free Cc kind is against = let is_not = subst (λ (k : Kind). IsTrue (is_against k Cc)) is against in absurd cc
  first-conflicts_for free Cm kind is against = let is_not = subst (λ (k : Kind). IsTrue (is_against k Cm)) is against in absurd cc
  first-conflicts_for free Ccv kind is against = subst (λ (k : Kind). ComesFirst h Ccv k) (sym is) (first-conflicts free)

  -- a kind of happened-before is no thin-air read
  pub happened-found : (pattern : Pattern) → IsFirstHappened h (kind_of pattern) → IsFirstFound h pattern
  happened-found pattern found r same =
      let is : kind_of pattern ≡ ThinAirRead = ap kind_of same in ⊎_elim
      (λ (start : kind_of pattern ≡ WriteHBInitRead). let no : ThinAirRead ≡ WriteHBInitRead = sym is ∙ start in absurd cc)
      (λ (cycle : (kind_of pattern ≡ CyclicHB) × ((¬ HasStartOverwrittenInHB h) ⊎ HasLargeHB h (Some 19999))).
      let no : ThinAirRead ≡ CyclicHB = sym is ∙ cycle.0 in absurd cc)
      found

  -- for other criteria than causal memory the kind comes first
  pub first-exact : (criterion : Criterion) (kind : Kind) → criterion ≢ Cm → IsTrue (is_against kind criterion) → ComesFirstOrLarge h criterion kind
      → ComesFirst h criterion kind
  first-exact Cc kind apart against found = ⊎_elim
      (λ (first : ComesFirst h Cc kind). first)
      (λ (cycle : (kind ≡ CyclicHB) × HasLargeHB h (Some 19999)).
      let is_not = subst (λ (k : Kind). IsTrue (is_against k Cc)) cycle.0 against in absurd cc)
      found
  first-exact Cm kind apart against found = absurd (apart (λ i. Cm))
  first-exact Ccv kind apart against found = ⊎_elim
      (λ (first : ComesFirst h Ccv kind). first)
      (λ (cycle : (kind ≡ CyclicHB) × HasLargeHB h (Some 19999)).
      let is_not = subst (λ (k : Kind). IsTrue (is_against k Ccv)) cycle.0 against in absurd cc)
      found

  -- what comes first of the kinds against causal consistency does so of those against causal memory
  place-consistent : (kind : Kind) → IsTrue (is_against kind Cc) → place_of kind < 4
  place-consistent CyclicCO against = omega arith
  place-consistent ThinAirRead against = omega arith
  place-consistent WriteCOInitRead against = omega arith
  place-consistent WriteCORead against = omega arith
  place-consistent WriteHBInitRead against = absurd cc
  place-consistent CyclicHB against = absurd cc
  place-consistent CyclicCF against = absurd cc

  pub first-memory : (kind : Kind) → IsTrue (is_against kind Cc) → ComesFirst h Cc kind → ComesFirst h Cm kind
  first-memory kind against first CyclicCO below _ = first CyclicCO below refl
  first-memory kind against first ThinAirRead below _ = first ThinAirRead below refl
  first-memory kind against first WriteCOInitRead below _ = first WriteCOInitRead below refl
  first-memory kind against first WriteCORead below _ = first WriteCORead below refl
  first-memory kind against first WriteHBInitRead below _ = λ present. let few = place-consistent kind against in absurd (omega arith)
  first-memory kind against first CyclicHB below _ = λ present. let few = place-consistent kind against in absurd (omega arith)
  first-memory kind against first CyclicCF below _ = λ present. let few = place-consistent kind against in absurd (omega arith)
