use Rattle.std.proofs.Common.{◌≡◌, ℕ, List, length, sym, subst, ◌∙◌, arith}
use Rattle.std.specs.Prelude.{Option}
use Rattle.std.specs.BTreeMap.{get}
use Rattle.std.proofs.lemmas.Option.{slice_get-get_or}
use Rattle.pattern_search.specs.Steps.Reasons.{AreLinked, by_place}
use Rattle.pattern_search.proofs.FirstRaises.{linked-more, linked-none}
use Rattle.pattern_search.proofs.search.reasons.Reasons.of.Goals as goal

pub loop-raise-init : goal.loop-raise-init
loop-raise-init c =
    subst (λ (ps : List (Option ℕ)). AreLinked c.args.raises.now 0 c.new-latest.result ps) (sym c.new-earlier.ensures.items)
    (linked-none c.args.raises.now c.new-latest.result c.new-latest.ensures.empty)

pub loop-raise-preserved : goal.loop-raise-preserved
loop-raise-preserved c =
    let raises = c.args.raises.now in
    let n = c.loop-raise.raise-index in
    let latest = c.loop-raise.latest in
    let count = c.loop-raise.invariant.count in
    let number : c.len-number.result ≡ n = omega arith in
    let at = slice_get-get_or raises n _ c.loop-raise-test.true in
    let is : c.copied.result ≡ get by_place latest _ = c.copied.ensures ∙ c.get.ensures.value in
    let more = linked-more raises n _ at latest c.insert.new.self c.loop-raise.earlier.items c.loop-raise.invariant
    (λ q. rw number at (c.in_ok-insert.ensures.updates.0 q)) in
    rw (c.in_ok-push.ensures.items, is) more

pub invariant_of-result : goal.invariant_of-result
invariant_of-result c =
    let ended : c.loop-raise.raise-index ≡ length c.args.raises.now = omega arith in
    subst (λ (n : ℕ). AreLinked c.args.raises.now n c.loop-raise.latest c.loop-raise.earlier.items) ended c.loop-raise.invariant
