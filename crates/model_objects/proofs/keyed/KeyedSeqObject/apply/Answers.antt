-- The state at the call's key takes the call in, and the others stay.
use Rattle.std.proofs.Common.{◌≡◌, [], Some, nat_cmp, refl, ap, sym, subst, ◌∙◌}
use Rattle.std.specs.Prelude.{IsSome}
use Rattle.std.specs.BTreeMap.{is_at}
use Rattle.std.specs.Map.{lookup}
use Rattle.std.proofs.lemmas.Map.Steps.{set_value_same}
use Rattle.std.proofs.lemmas.Result.{err_from_is_err_and, on_ok_weaker, on_err_weaker}
use Rattle.model_objects.specs.Table.{start_at}
use Rattle.model_objects.specs.Keyed.{calls_at}
use Rattle.model_objects.proofs.KeyedLemmas.{stands_after_call, stands_from_some, stands_from_none, start_or_plain, start_at_is_start}
use Rattle.model_objects.proofs.keyed.KeyedSeqObject.apply.Goals as goal

pub returns-in-Some-clause-answers : goal.returns-in-Some-clause-answers
returns-in-Some-clause-answers g c = λ s cs stood.
    c.apply.ensures.answers (start_at g.O.SeqObject.plain_start s c.args.call.key) (calls_at c.args.call.key cs)
    (stands_from_some g.O.SeqObject.plain_start g.O.SeqObject.stands c.args.self.now c.self.inside.start c.self.inside.states.entries
    s cs c.args.call.key c.in-Some.state.now c.self.view_is stood c.in-Some.ensures.value)

pub returns-in-Some-clause-takes_in : goal.returns-in-Some-clause-takes_in
returns-in-Some-clause-takes_in g c = λ s cs stood.
    let some = subst (λ o. IsSome o) c.in-Some.ensures.value refl in
    on_ok_weaker c.apply.result
    (stands_after_call g.O.SeqObject.plain_start g.O.SeqObject.stands c.args.self.now c.self.inside.start c.self.inside.states.entries
    (c.get_mut.follows.lender c.apply.new.self).entries s cs c.args.call c.apply.new.self c.self.view_is stood
    ((c.get_mut.follows.holds c.apply.new.self).3 some).0)
    (c.apply.ensures.takes_in (start_at g.O.SeqObject.plain_start s c.args.call.key) (calls_at c.args.call.key cs)
    (stands_from_some g.O.SeqObject.plain_start g.O.SeqObject.stands c.args.self.now c.self.inside.start c.self.inside.states.entries
    s cs c.args.call.key c.in-Some.state.now c.self.view_is stood c.in-Some.ensures.value))

pub returns-in-Some-clause-err : goal.returns-in-Some-clause-err
returns-in-Some-clause-err g c =
    on_err_weaker c.apply.result (λ same.
    let value : lookup (is_at (nat_cmp c.args.call.key)) c.self.inside.states.entries ≡ Some c.apply.new.self = sym c.in-Some.ensures.value ∙ ap Some (sym same) in
    let entries = (c.get_mut.follows.holds c.apply.new.self).0 ∙ set_value_same (is_at (nat_cmp c.args.call.key)) c.self.inside.states.entries c.apply.new.self value in
    ap (λ es. (c.self.inside.start, es)) entries ∙ c.self.view_is)
    c.apply.ensures.err

pub fresh-requires : goal.fresh-requires
fresh-requires g c =
    let found = start_or_plain g.O.SeqObject.plain_start c.self.inside.start c.args.call.key _ _ _ c.unwrap_or.ensures c.get.ensures c.in_ok-plain.ensures in
    subst g.O.SeqObject.is_start (sym found) (start_at_is_start g.O.SeqObject.plain_start g.O.SeqObject.is_start c.self.inside.start c.args.call.key g.met.O.SeqObject.plain_is_start c.self.invariant)

pub returns-clause-takes_in : goal.returns-clause-takes_in
returns-clause-takes_in g c = λ s cs stood.
    let plain = g.O.SeqObject.plain_start in
    let stands = g.O.SeqObject.stands in
    let key = c.args.call.key in
    let found = start_or_plain plain c.self.inside.start key _ _ _ c.unwrap_or.ensures c.get.ensures c.in_ok-plain.ensures in
    let fresh : stands c.in_ok-state.state (start_at plain c.self.inside.start key) [] = subst (λ t. stands c.in_ok-state.state t []) found c.in_ok-state.ensures in
    let view_is = ap (λ m. (c.self.inside.start, m.entries)) c.get_mut.follows.holds-at-none ∙ c.self.view_is in
    stands_after_call plain stands c.args.self.now c.self.inside.start c.get_mut.follows.lender-at-none.entries c.put.new.states.entries
    s cs c.args.call c.apply-2.new.self view_is stood c.in_ok-put.ensures.updates.0
    (c.in_ok-answer.ensures.takes_in (start_at plain s key) (calls_at key cs)
    (stands_from_none plain stands c.args.self.now c.self.inside.start c.self.inside.states.entries s cs key c.in_ok-state.state
    c.self.view_is stood c.in_default.ensures.value fresh))

pub returns-clause-answers : goal.returns-clause-answers
returns-clause-answers g c = λ s cs stood.
    let plain = g.O.SeqObject.plain_start in
    let stands = g.O.SeqObject.stands in
    let key = c.args.call.key in
    let found = start_or_plain plain c.self.inside.start key _ _ _ c.unwrap_or.ensures c.get.ensures c.in_ok-plain.ensures in
    let fresh : stands c.in_ok-state.state (start_at plain c.self.inside.start key) [] = subst (λ t. stands c.in_ok-state.state t []) found c.in_ok-state.ensures in
    c.in_ok-answer.ensures.answers (start_at plain s key) (calls_at key cs)
    (stands_from_none plain stands c.args.self.now c.self.inside.start c.self.inside.states.entries s cs key c.in_ok-state.state
    c.self.view_is stood c.in_default.ensures.value fresh)

pub returns-in_err-plain-clause-err : goal.returns-in_err-plain-clause-err
returns-in_err-plain-clause-err g c =
    let p = err_from_is_err_and c.from_residual.result c.from_residual.ensures.1 in
    rw p.1 (ap (λ m. (c.self.inside.start, m.entries)) c.get_mut.follows.holds-at-none ∙ c.self.view_is)

pub returns-in_err-state-clause-err : goal.returns-in_err-state-clause-err
returns-in_err-state-clause-err g c =
    let p = err_from_is_err_and c.from_residual-in_err-state.result c.from_residual-in_err-state.ensures.1 in
    rw p.1 (ap (λ m. (c.self.inside.start, m.entries)) c.get_mut.follows.holds-at-none ∙ c.self.view_is)

pub returns-in_err-answer-clause-err : goal.returns-in_err-answer-clause-err
returns-in_err-answer-clause-err g c =
    let p = err_from_is_err_and c.from_residual-in_err-answer.result c.from_residual-in_err-answer.ensures.1 in
    rw p.1 (ap (λ m. (c.self.inside.start, m.entries)) c.get_mut.follows.holds-at-none ∙ c.self.view_is)

pub returns-in_err-put-clause-err : goal.returns-in_err-put-clause-err
returns-in_err-put-clause-err g c =
    let p = err_from_is_err_and c.from_residual-in_err-put.result c.from_residual-in_err-put.ensures.1 in
    let view_is = ap (λ m. (c.self.inside.start, m.entries)) c.get_mut.follows.holds-at-none ∙ c.self.view_is in
    rw p.1 (ap (λ es. (c.self.inside.start, es)) c.in_err-put.ensures.err ∙ view_is)
