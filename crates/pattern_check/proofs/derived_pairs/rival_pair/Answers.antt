use Rattle.std.proofs.Common.{◌≡◌, Option, Some, None, true, false, refl, sym, ◌∙◌}
use Rattle.cert_check.proofs.ConvergentLaws.{only-same}
use Rattle.model_history.specs.declared.op_id.OpId.{OpId}
use Rattle.pattern_check.specs.Derivations.{Pair}
use Rattle.pattern_check.proofs.Derived.{ends-with, rival-parts, only-apart}
use Rattle.pattern_check.proofs.derived_pairs.rival_pair.Goals as goal
use Rattle.pattern_check.proofs.derived_pairs.rival_pair.Goals.{else-eq-via-then-eq+else-comes_before_source, else-eq-via-else-eq}

pub returns-in_default : goal.returns-in_default
returns-in_default g c = λ a b gives.
    let no : ◌≡◌ {A = Option OpId} None (Some b) = (c.in_default.ensures' b).0 gives.reads in absurd cc

pub returns-in_default-2 : goal.returns-in_default-2
returns-in_default-2 g c = λ a b gives.
    let no : ◌≡◌ {A = Option Pair} None (Some (a, c.args.read)) = sym c.in_default.is-0 ∙ c.pair_at.ensures ∙ gives.before_read in absurd cc

pub returns-then-comes_before_source : goal.returns-then-comes_before_source
returns-then-comes_before_source g c = record {
  before_read = ends-with c.args.pairs.now c.args.i c.in-Some-Some.pair (sym c.pair_at.ensures ∙ c.in-Some-Some.is-0) c.args.read
      (only-same c.args.read c.in-Some-Some.pair.1 (sym c.eq.ensures ∙ c.if-eq.true));
  of_session = (c.comes_before_source.ensures.0 c.if-comes_before_source.true).0;
  reads = (c.in-Some-Some.ensures' c.in-Some-Some.source).1 refl;
  rivals = (c.comes_before_source.ensures.0 c.if-comes_before_source.true).1;
}

pub returns-else-eq : goal.returns-else-eq
returns-else-eq g c = λ a b gives.
    let parts = rival-parts (g.M.KnownMemory.history c.args.h.now) c.args.op c.requires c.args.pairs.now c.args.i c.args.read c.in-Some-Some.source c.in-Some-Some.pair
    (sym c.pair_at.ensures ∙ c.in-Some-Some.is-0) ((c.in-Some-Some.ensures' c.in-Some-Some.source).1 refl) a b gives in
    elim c.else-eq.branch [
      | else-eq-via-then-eq+else-comes_before_source w ↦
          let no : false ≡ true = sym w.if-comes_before_source.false ∙ w.comes_before_source.ensures.1 (parts.1, parts.2) in absurd cc
      | else-eq-via-else-eq w ↦ only-apart c.args.read c.in-Some-Some.pair.1 (sym c.eq.ensures ∙ w.if-eq.false) parts.0
    ]
