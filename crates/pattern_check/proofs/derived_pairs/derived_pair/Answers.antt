use Rattle.std.proofs.Common.{◌≡◌, ◌+◌, ◌-◌, ◌≤◌, length, List, sym, ◌∙◌, arith, subst}
use Rattle.std.specs.Prelude.{Some, slice_get}
use Rattle.std.proofs.lemmas.Option.{slice_get-get_or}
use Rattle.model_history.specs.declared.op_id.OpId.{OpId}
use Rattle.pattern_check.specs.Derivations.{Pair, Gives, GivePairs}
use Rattle.pattern_check.proofs.Derived.{no_derivation, derivation-last, pairs-more}
use Rattle.pattern_check.proofs.derived_pairs.derived_pair.Goals as goal

pub returns : goal.returns
returns g c =
    let ended : c.loop-line.line-index ≡ length c.args.lines.now = omega arith in
    let bounded : length c.args.lines.now ≤ 100000 = omega arith in
    derivation-last (g.M.KnownMemory.history c.args.h.now) c.args.op c.args.lines.now c.requires c.loop-line.line-index c.loop-line.pairs.items c.loop-line.invariant ended bounded
    c.copied.result
    (subst (λ (ps : List Pair). c.copied.result ≡ slice_get ps (length ps - 1)) c.deref-2.ensures.value (c.copied.ensures ∙ c.last.ensures.value))

pub returns-in_default : goal.returns-in_default
returns-in_default g c =
    let at = slice_get-get_or c.args.lines.now c.loop-line.line-index c.line-item.result c.loop-line-test.true in
    no_derivation (g.M.KnownMemory.history c.args.h.now) c.args.op c.args.lines.now c.requires c.loop-line.line-index c.loop-line.pairs.items c.line-item.result c.loop-line.invariant
    (at ∙ (λ i. Some (sym c.line-item.is i)))
    (subst (λ (ps : List Pair). (a b : OpId) → ¬ Gives (g.M.KnownMemory.history c.args.h.now) c.args.op ps c.line-item.result a b) c.deref.ensures.value c.in_default.ensures)

pub loop-line-preserved : goal.loop-line-preserved
loop-line-preserved g c =
    let at = slice_get-get_or c.args.lines.now c.loop-line.line-index c.line-item.result c.loop-line-test.true in
    let more = pairs-more (g.M.KnownMemory.history c.args.h.now) c.args.op c.args.lines.now c.loop-line.line-index c.loop-line.pairs.items c.line-item.result c.in-Some.pair c.loop-line.invariant
    (at ∙ (λ i. Some (sym c.line-item.is i)))
    (subst (λ (ps : List Pair). Gives (g.M.KnownMemory.history c.args.h.now) c.args.op ps c.line-item.result c.in-Some.pair.0 c.in-Some.pair.1) c.deref.ensures.value c.in-Some.ensures) in
    subst (λ (ps : List Pair). GivePairs (g.M.KnownMemory.history c.args.h.now) c.args.op c.args.lines.now (c.loop-line.line-index + 1) ps) (sym c.in_ok-push.ensures.items) more
