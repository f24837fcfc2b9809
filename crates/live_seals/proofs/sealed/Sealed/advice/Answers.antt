use Rattle.std.proofs.Common.{ap, sym, ◌∙◌, subst}
use Rattle.std.specs.List.{flat_map}
use Rattle.std.proofs.lemmas.List.Folds.{flat_map-map}
use Rattle.live_seals.specs.Seals.{IsAdvised}
use Rattle.live_seals.specs.Steps.Tables.{advised}
use Rattle.live_seals.proofs.Advising.{is_advised}
use Rattle.live_seals.proofs.sealed.Sealed.advice.Goals as goal

pub returns-clause-each : goal.returns-clause-each
returns-clause-each g c = subst (λ s. IsAdvised s) c.self.view_is (is_advised g.O.SeqObject.matches c.self.inside.history c.self.inside.lanes.items c.self.invariant.0)

pub returns-clause-order : goal.returns-clause-order
returns-clause-order g c = c.deref.ensures.value ∙ (c.self.invariant.1 ∙ (sym (flat_map-map (λ a. a) advised c.self.inside.lanes.items) ∙ ap (λ s. flat_map (λ a. a) s.advice) c.self.view_is))
