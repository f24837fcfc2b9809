use Rattle.std.proofs.Common.{arith, ◌∙◌, ltb-true, subst, sym}
use Rattle.std.specs.Prelude.{MatchOption}
use Rattle.std.proofs.lemmas.Bool.{lt-ltb}
use Rattle.std.proofs.lemmas.List.{get_or_read}
use Rattle.order_memory.specs.Steps.GrowthSteps.{Always, IsIn}
use Rattle.order_memory.proofs.TakenPasts.{source-session}
use Rattle.order_memory.proofs.growing_order.GrowingOrder.has_source_in.Goals as goal

pub index-requires : goal.index-requires
index-requires c =
    let exists = source-session c.args.h.now c.args.sources.now c.requires.sources c.args.op c.in-Some.source (sym c.in-Some.is ∙ c.source_in.ensures) in
    let sessions = c.requires.growing.sessions in
    omega (arith, c.args.self.now.past.ok.0, exists, sessions)

pub returns-in-Some : goal.returns-in-Some
returns-in-Some c =
    let self = c.args.self.now in
    let same = sym c.in-Some.is ∙ c.source_in.ensures in
    let exists = source-session c.args.h.now c.args.sources.now c.requires.sources c.args.op c.in-Some.source same in
    let sessions = c.requires.growing.sessions in
    let at = get_or_read self.past.items c.in-Some.source.session _ (omega arith) (rw c.session_place.ensures at c.index.ensures) 0 in (
      λ is.
          let less = ltb-true c.place.result c.from.result is in
          let is_in : IsIn self c.in-Some.source = omega arith in
          subst (λ e. MatchOption e Always (IsIn self)) same is_in,
      λ listed.
          let is_in : IsIn self c.in-Some.source = subst (λ e. MatchOption e Always (IsIn self)) (sym same) listed in
          lt-ltb c.place.result c.from.result (omega arith),
    )
