-- A search by key finds what the keys, which rise, say.
use Rattle.std.proofs.Common.{◌≡◌, rules, ◌∙◌, sym}
use Rattle.std.proofs.lemmas.List.Sorted.{answers_always}
use Rattle.model_objects.proofs.TableLemmas.{value_at-place, value_at-gap}
use Rattle.model_objects.proofs.table.Table.get.Goals as goal

pub returns-in-Ok : goal.returns-in-Ok
returns-in-Ok g c =
    let same : c.deref.result.now ≡ c.args.self.now = c.deref.ensures.value ∙ c.self.view_is in
    rw (sym same) (value_at-place c.deref.result.now c.args.key c.in-Ok.place c.index.result.now (rw same c.requires)
    c.in-Ok.ensures.bound (c.in-Ok.ensures.position (λ p. p.0) (answers_always _ _ _ (λ f a r q k. search rules))) (rw c.deref.ensures.value c.index.ensures))

pub returns-in-Err : goal.returns-in-Err
returns-in-Err g c =
    let same : c.deref.result.now ≡ c.args.self.now = c.deref.ensures.value ∙ c.self.view_is in
    rw (sym same) (value_at-gap c.deref.result.now c.args.key c.in-Err.field-0 (rw same c.requires)
    (c.in-Err.ensures.position (λ p. p.0) (answers_always _ _ _ (λ f a r q k. search rules))))
