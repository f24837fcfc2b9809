use Rattle.std.proofs.Common.{◌≡◌, ℕ, ◌+◌, length, ap, arith, sym, subst, ◌∙◌, IfOk}
use Rattle.model_history.specs.History.{session}
use Rattle.order_memory.specs.Memory.{MemoryHistory}
use Rattle.pattern_search.specs.Searches.{AreSearched}
use Rattle.pattern_search.specs.Steps.Relations.{HasNoCycleBefore, HasNoStartBefore}
use Rattle.pattern_search.proofs.SearchedLaws.{no-relation, searched-empty, searched-open}
use Rattle.pattern_search.proofs.finding_happened_before.search_session.Goals as goal

pub returns-in-Some : goal.returns-in-Some
returns-in-Some c =
    let h = c.args.order.now in
    let most = c.args.most in
    let s = c.in-Some.relation.0.session in
    let of_last = rw c.in-Some.is at c.in_ok-relation.ensures in
    let same : s ≡ c.args.session = of_last.made.of_session in
    subst (λ (t : ℕ). IfOk c.search_relation.result (AreSearched h most (HasNoStartBefore h (t + 1)) (HasNoCycleBefore h (t + 1)))) same
    (c.search_relation.ensures most (subst (λ (t : ℕ). AreSearched h most (HasNoStartBefore h t) (HasNoCycleBefore h t) c.args.so_far) (sym same) c.requires.so_far))

pub returns-in-None : goal.returns-in-None
returns-in-None c =
    let h = c.args.order.now in
    let s = c.args.session in
    let same : c.history-h.result.now ≡ h = c.history-h.ensures in
    let empty : length (session h s) ≡ 0 =
    ap (λ (g : MemoryHistory). length (session g s)) (sym same) ∙ sym c.len.ensures.count ∙ c.if-len-eq0.true in
    searched-empty h c.args.most s empty c.args.so_far c.requires.so_far

pub returns-in-None-2 : goal.returns-in-None-2
returns-in-None-2 c =
    let h = c.args.order.now in
    let s = c.args.session in
    let same : c.history-h.result.now ≡ h = c.history-h.ensures in
    let some : ¬ (length (session h s) ≡ 0) = λ empty.
    let out = c.if-len-eq0.false in
    let zero = c.len.ensures.count ∙ ap (λ (g : MemoryHistory). length (session g s)) same ∙ empty in omega arith in
    let none = rw c.in-None-2.is at c.in_ok-relation.ensures in
    searched-open h c.args.most (HasNoStartBefore h s) (HasNoCycleBefore h s) (HasNoStartBefore h (s + 1)) (HasNoCycleBefore h (s + 1))
    (no-relation h c.args.most s some none) c.args.so_far (record { starts = c.or.result; cycles = c.or-in-None-2.result })
    c.or.ensures c.or-in-None-2.ensures c.requires.so_far
