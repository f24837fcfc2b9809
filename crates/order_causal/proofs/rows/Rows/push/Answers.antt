use Rattle.std.proofs.Common.{ap, arith, length, ◌≡◌, ◌∙◌, ◌++◌, ◌∷◌, []}
use Rattle.order_causal.proofs.Flat.{pushed-rows, pushed-rises}
use Rattle.order_causal.proofs.rows.Rows.push.Goals as goal

pub invariant_of-self-2 : goal.invariant_of-self-2
invariant_of-self-2 g c =
    let len : c.len.result ≡ length c.extend_from_slice.new.self.items = omega (arith, c.len.ensures, c.extend_from_slice.new.self.ok) in
    pushed-rises c.self.inside.items.items c.args.row.now c.extend_from_slice.new.self.items c.self.inside.ends.items c.push.new.self.items c.len.result
    c.self.invariant c.in_ok-extend_from_slice.ensures.items len
    (c.in_ok-push.ensures.items ∙ ap (λ es. es ++ c.len.result ∷ []) c.reserve.ensures.items)

pub returns-clause-ok : goal.returns-clause-ok
returns-clause-ok g c =
    let len : c.len.result ≡ length c.extend_from_slice.new.self.items = omega (arith, c.len.ensures, c.extend_from_slice.new.self.ok) in
    pushed-rows c.self.inside.items.items c.args.row.now c.extend_from_slice.new.self.items c.self.inside.ends.items c.push.new.self.items c.len.result
    c.self.invariant c.in_ok-extend_from_slice.ensures.items len
    (c.in_ok-push.ensures.items ∙ ap (λ es. es ++ c.len.result ∷ []) c.reserve.ensures.items)
    ∙ ap (λ rows. rows ++ c.args.row.now ∷ []) c.self.view_is
