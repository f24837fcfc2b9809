use Rattle.std.proofs.Common.{◌≡◌, ◌<◌, ◌+◌, ◌-◌, List, ℕ, length, take, get_or, length-take, sym, ap, subst₂, ◌∙◌, arith}
use Rattle.std.proofs.lemmas.Grind.{get_or_default_zero}
use Rattle.cert_make_cc.proofs.CutsGoOn.{agree-before, back-end, cut_back}
use Rattle.cert_make_cc.specs.Steps.Cuts.{AgreeUpTo, IsCut}
use Rattle.cert_make_cc.proofs.cutting.Cutting.cut_to.Goals as goal

-- what is left of a walk that is cut at a start
left-of : (starts walk left : List ℕ) (n start : ℕ) → n < length starts → start ≡ get_or starts n start → left ≡ take start walk
    → left ≡ take (get_or starts n 0) walk
left-of starts walk left n start inside read is =
    let zero = get_or_default_zero starts n start inside in
    is ∙ ap (λ (k : ℕ). take k walk) (read ∙ zero)

pub go_on-requires-clause-cut : goal.go_on-requires-clause-cut
go_on-requires-clause-cut c =
    let whole = c.args.whole.now in
    let limits = c.args.self.now.limits.items in
    let others = c.args.limits.items in
    let starts = c.args.self.now.starts.items in
    let walk = c.args.self.now.walk in
    let n = c.min-common.result in
    let begins = c.requires.cut.begins in
    let least = c.min-common.ensures in
    let size = c.len.ensures in
    let inside : n < length starts = omega arith in
    let agree : AgreeUpTo whole limits others c.common.result =
    subst₂ (λ (ls os : List ℕ). AgreeUpTo whole ls os c.common.result) c.deref.ensures.value c.deref-2.ensures.value c.common.ensures in
    let left = left-of starts walk c.cut.new.self n c.index.result.now inside c.index.ensures c.cut.ensures in
    subst₂ (λ (ss xs : List ℕ). IsCut whole others ss xs) (sym c.truncate.ensures.items) (sym left)
    (cut_back whole limits starts walk c.requires.cut others n inside (agree-before whole limits others n c.common.result (omega arith) agree))

pub go_on-requires-clause-end : goal.go_on-requires-clause-end
go_on-requires-clause-end c =
    let whole = c.args.whole.now in
    let limits = c.args.self.now.limits.items in
    let others = c.args.limits.items in
    let starts = c.args.self.now.starts.items in
    let walk = c.args.self.now.walk in
    let n = c.min-common.result in
    let begins = c.requires.cut.begins in
    let least = c.min-common.ensures in
    let size = c.len.ensures in
    let inside : n < length starts = omega arith in
    let agree : AgreeUpTo whole limits others c.common.result =
    subst₂ (λ (ls os : List ℕ). AgreeUpTo whole ls os c.common.result) c.deref.ensures.value c.deref-2.ensures.value c.common.ensures in
    let left = left-of starts walk c.cut.new.self n c.index.result.now inside c.index.ensures c.cut.ensures in
    let end = back-end whole limits starts walk c.requires.cut others n inside (agree-before whole limits others n c.common.result (omega arith) agree) in
    let long = length-take (n + 1) starts in
    let last : n ≡ length (take (n + 1) starts) - 1 = omega arith in
    ap (λ (xs : List ℕ). length xs) left ∙ end ∙ ap (λ (k : ℕ). get_or (take (n + 1) starts) k 0) last
    ∙ ap (λ (ss : List ℕ). get_or ss (length ss - 1) 0) (sym c.truncate.ensures.items)
