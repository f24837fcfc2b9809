use Rattle.std.proofs.Common.{◌∙◌, List, ◌∷◌, ◌++◌, ap, sym}
use Rattle.serde_json.specs.Data.{Data}
use Rattle.pattern_json.proofs.Wholes.{no_items}
use Rattle.pattern_json.proofs.items.ItemsGather.take_next.Goals as goal

pub returns-in_default-clause-taken : goal.returns-in_default-clause-taken
returns-in_default-clause-taken g c =
    let next = rw c.in_default.is at c.in_ok-item.ensures.read in (
      next.0,
      next.1,
      λ ds is more items same.
          no_items g.T.Formed.form c.args.self.now next.0 more next.2 items (sym (ap (λ (es : List Data). es ++ next.0 ∷ more) is) ∙ same),
    )
