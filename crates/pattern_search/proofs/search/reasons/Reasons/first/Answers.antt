use Rattle.std.proofs.Common.{◌≡◌, ℕ, ◌+◌, ◌<◌, length, sym, subst, ◌∙◌, arith, refl}
use Rattle.std.specs.Prelude.{Option, Some, slice_get}
use Rattle.std.specs.BTreeMap.{get}
use Rattle.std.proofs.lemmas.Option.{slice_get_read, slice_get_within}
use Rattle.model_history.specs.declared.op_id.OpId.{OpId}
use Rattle.pattern_search.specs.Steps.Reasons.{IsFirstFrom, IsLastOf, by_place, end_of}
use Rattle.pattern_search.proofs.FirstRaises.{first-begin, first-end, first-step}
use Rattle.pattern_search.proofs.search.reasons.Reasons.first.Goals as goal

pub back-init : goal.back-init
back-init c =
    let v = c.self.inside in
    let is : c.copied-next.result ≡ get by_place v.latest c.args.pair.1 = c.copied-next.ensures ∙ c.get.ensures.value in
    let last : IsLastOf v.raises.now (length v.raises.now) c.args.pair.1 c.copied-next.result =
    subst (λ (place : Option ℕ). IsLastOf v.raises.now (length v.raises.now) c.args.pair.1 place) (sym is) (c.self.invariant.last c.args.pair.1) in
    (first-begin v.raises.now c.args.pair c.copied-next.result last, last.is_of)

pub nearer-found-requires : goal.nearer-found-requires
nearer-found-requires c =
    let of = c.back.invariant.1 c.in-Some.number c.in-Some.is in
    slice_get_within c.self.inside.raises.now c.in-Some.number of.0 of.1

pub index-next-requires : goal.index-next-requires
index-next-requires c =
    let of = c.back.invariant.1 c.in-Some.number c.in-Some.is in
    let below = slice_get_within c.self.inside.raises.now c.in-Some.number of.0 of.1 in
    let count = c.self.invariant.count in
    omega arith

pub back-smaller : goal.back-smaller
back-smaller c =
    let v = c.self.inside in
    let n = c.in-Some.number in
    let of = c.back.invariant.1 n c.in-Some.is in
    let below = slice_get_within v.raises.now n of.0 of.1 in
    let count = c.self.invariant.count in
    let inside : n < length v.earlier.items = omega arith in
    let there : slice_get v.earlier.items n ≡ Some c.index-next.result.now = slice_get_read v.earlier.items (length v.earlier.items) n c.index-next.result.now refl inside c.index-next.ensures in
    let link = c.self.invariant.each n of.0 c.index-next.result.now of.1 there in
    let up = link.inside in
    let less : end_of c.index-next.result.now < n + 1 = omega arith in
    subst (λ (place : Option ℕ). end_of c.index-next.result.now < end_of place) (sym c.in-Some.is) less

pub back-preserved : goal.back-preserved
back-preserved c =
    let v = c.self.inside in
    let n = c.in-Some.number in
    let of = c.back.invariant.1 n c.in-Some.is in
    let below = slice_get_within v.raises.now n of.0 of.1 in
    let count = c.self.invariant.count in
    let inside : n < length v.earlier.items = omega arith in
    let there : slice_get v.earlier.items n ≡ Some c.index-next.result.now = slice_get_read v.earlier.items (length v.earlier.items) n c.index-next.result.now refl inside c.index-next.ensures in
    let link : IsLastOf v.raises.now n c.args.pair.1 c.index-next.result.now =
    subst (λ (b : OpId). IsLastOf v.raises.now n b c.index-next.result.now) of.2 (c.self.invariant.each n of.0 c.index-next.result.now of.1 there) in
    let before : IsFirstFrom v.raises.now c.args.pair (n + 1) c.back.found =
    subst (λ (place : Option ℕ). IsFirstFrom v.raises.now c.args.pair (end_of place) c.back.found) c.in-Some.is c.back.invariant.0 in
    (first-step v.raises.now c.args.pair n of.0 of.1 c.back.found c.index-next.result.now before link c.nearer-found.result (c.nearer-found.ensures of.0 of.1), link.is_of)

pub returns : goal.returns
returns c =
    let v = c.self.inside in
    let ended : IsFirstFrom v.raises.now c.args.pair 0 c.back.found =
    subst (λ (place : Option ℕ). IsFirstFrom v.raises.now c.args.pair (end_of place) c.back.found) c.in_default.is c.back.invariant.0 in
    rw (← c.self.view_is) (first-end v.raises.now c.args.pair c.back.found ended)
