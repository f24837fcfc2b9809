use Rattle.std.proofs.Common.{List, ℕ, ◌<◌, ◌≡◌, ◌+◌, ◌∙◌, length, get_or, set, ap, sym, subst, arith, []}
use Rattle.order_causal.specs.Steps.FlatRows.{cut, start_of}
use Rattle.order_causal.proofs.Flat.{cut-length, cut-set, inside-part, rises-end}
use Rattle.order_causal.proofs.rows.Rows.set.Goals as goal

pub range_of-range-requires-clause-exists : goal.range_of-range-requires-clause-exists
range_of-range-requires-clause-exists g c =
    let cut = cut-length c.self.inside.items.items 0 c.self.inside.ends.items in
    let view = ap length c.self.view_is in
    let ends = ap length c.deref.ensures.value in
    subst (λ (n : ℕ). c.args.i < n) (sym view ∙ cut ∙ sym ends) c.requires.exists

pub overflow_add-range : goal.overflow_add-range
overflow_add-range g c =
    let items = c.self.inside.items.items in
    let ends = c.self.inside.ends.items in
    let exists : c.args.i < length ends = subst (λ (n : ℕ). c.args.i < n) (sym (ap length c.self.view_is) ∙ cut-length items 0 ends) c.requires.exists in
    let here : c.args.j < length (get_or (cut items 0 ends) c.args.i []) =
    subst (λ (rows : _). c.args.j < length (get_or rows c.args.i [])) (sym c.self.view_is) c.requires.inside in
    let inside = inside-part items ends c.args.i c.args.j exists here in
    let start : c.range_of-range.result.0 ≡ start_of 0 ends c.args.i = c.range_of-range.ensures.start ∙ ap (λ (es : List ℕ). start_of 0 es c.args.i) c.deref.ensures.value in
    let last = rises-end 0 ends (length items) c.self.invariant c.args.i 0 exists in
    let ok = c.self.inside.items.ok in
    omega arith

pub index_mut-requires : goal.index_mut-requires
index_mut-requires g c =
    let items = c.self.inside.items.items in
    let ends = c.self.inside.ends.items in
    let exists : c.args.i < length ends = subst (λ (n : ℕ). c.args.i < n) (sym (ap length c.self.view_is) ∙ cut-length items 0 ends) c.requires.exists in
    let here : c.args.j < length (get_or (cut items 0 ends) c.args.i []) =
    subst (λ (rows : _). c.args.j < length (get_or rows c.args.i [])) (sym c.self.view_is) c.requires.inside in
    let inside = inside-part items ends c.args.i c.args.j exists here in
    let start : c.range_of-range.result.0 ≡ start_of 0 ends c.args.i = c.range_of-range.ensures.start ∙ ap (λ (es : List ℕ). start_of 0 es c.args.i) c.deref.ensures.value in
    let last = rises-end 0 ends (length items) c.self.invariant c.args.i 0 exists in
    omega arith

pub returns : goal.returns
returns g c =
    let items = c.self.inside.items.items in
    let ends = c.self.inside.ends.items in
    let exists : c.args.i < length ends = subst (λ (n : ℕ). c.args.i < n) (sym (ap length c.self.view_is) ∙ cut-length items 0 ends) c.requires.exists in
    let here : c.args.j < length (get_or (cut items 0 ends) c.args.i []) =
    subst (λ (rows : _). c.args.j < length (get_or rows c.args.i [])) (sym c.self.view_is) c.requires.inside in
    let inside = inside-part items ends c.args.i c.args.j exists here in
    let start : c.range_of-range.result.0 ≡ start_of 0 ends c.args.i = c.range_of-range.ensures.start ∙ ap (λ (es : List ℕ). start_of 0 es c.args.i) c.deref.ensures.value in
    let place = ap (λ (n : ℕ). cut (set items (n + c.args.j) c.args.item) 0 ends) start in
    let done = cut-set items 0 ends (length items) c.args.i c.args.j c.args.item c.self.invariant exists inside in
    place ∙ done ∙ ap (λ (rows : _). set rows c.args.i (set (get_or rows c.args.i []) c.args.j c.args.item)) c.self.view_is
