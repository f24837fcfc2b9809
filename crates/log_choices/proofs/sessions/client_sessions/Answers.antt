use Rattle.std.proofs.Common.{◌≡◌, ◌++◌, ◌∷◌, [], ℕ, ◌<◌, List, length, map, get_or, ap, sym, subst, ◌∙◌, arith, Vec, Global}
use Rattle.std.specs.Prelude.{All, Contains, filter_map}
use Rattle.std.specs.List.{range_with_len}
use Rattle.std.proofs.lemmas.List.{length-map}
use Rattle.std.proofs.lemmas.List.FromFn.{map-range_with_len_more}
use Rattle.log_events.specs.Events.{Call, calls_of, run_calls}
use Rattle.log_events.specs.Histories.{Operation, clients}
use Rattle.log_choices.specs.ChoiceTables.{choice_in}
use Rattle.log_choices.specs.ChosenHistories.{client_session_by, operation_by}
use Rattle.log_choices.proofs.ClientRows.{calls-of-run, row-found, rows-many}
use Rattle.log_choices.proofs.sessions.client_sessions.Goals as goal

pub collect_operations-requires : goal.collect_operations-requires
collect_operations-requires c =
    let es = c.args.calls.now.0 in
    let i = c.loop-row.row-index in
    let v = c.row-item.result in
    let rows = c.in_ok-rows.rows.items in
    let listed = c.deref-row-items.ensures.value in
    let within : i < length rows = subst (λ (l : List (Vec Call Global)). i < length l) listed c.loop-row-test.true in
    let read : v ≡ get_or rows i v = c.row-item.is ∙ ap (λ (l : List (Vec Call Global)). get_or l i v) listed in
    let r = row-found (λ (w : Vec Call Global). w.items) es rows i v c.in_ok-rows.ensures within read in
    let found : c.deref.result.now ≡ calls_of i es = c.deref.ensures.value ∙ r.0 in
    subst (λ (l : List Call). All (Contains (run_calls es)) l) (sym found) (calls-of-run es i)

pub loop-row-preserved : goal.loop-row-preserved
loop-row-preserved c =
    let es = c.args.calls.now.0 in
    let f = choice_in c.args.calls.now.1 in
    let i = c.loop-row.row-index in
    let v = c.row-item.result in
    let rows = c.in_ok-rows.rows.items in
    let listed = c.deref-row-items.ensures.value in
    let within : i < length rows = subst (λ (l : List (Vec Call Global)). i < length l) listed c.loop-row-test.true in
    let read : v ≡ get_or rows i v = c.row-item.is ∙ ap (λ (l : List (Vec Call Global)). get_or l i v) listed in
    let r = row-found (λ (w : Vec Call Global). w.items) es rows i v c.in_ok-rows.ensures within read in
    let found : c.deref.result.now ≡ calls_of i es = c.deref.ensures.value ∙ r.0 in
    let row = c.deref-in-loop-row.ensures.value ∙ c.in_ok-collect_operations.ensures ∙ ap (filter_map (λ (a : Call). operation_by es f a.place a.call a.ending)) found in
    c.in_ok-push.ensures.ok ∙ ap (λ (l : List (List Operation)). l ++ c.deref-in-loop-row.result.now ∷ []) c.loop-row.invariant
    ∙ ap (λ (l : List Operation). map (client_session_by es f) (range_with_len 0 i) ++ l ∷ []) row
    ∙ sym (map-range_with_len_more (client_session_by es f) 0 i i (omega arith))

pub returns : goal.returns
returns c =
    let es = c.args.calls.now.0 in
    let rows = c.in_ok-rows.rows.items in
    let over = c.loop-row-test.false in
    let within = c.loop-row.auto.row-index-end in
    let long = ap length c.deref-row-items.ensures.value in
    let many = rows-many es (map (λ (w : Vec Call Global). w.items) rows) c.in_ok-rows.ensures in
    let same = length-map rows (λ (w : Vec Call Global). w.items) in
    let all : c.loop-row.row-index ≡ clients es = omega arith in
    c.loop-row.invariant ∙ ap (λ (n : ℕ). map (client_session_by es (choice_in c.args.calls.now.1)) (range_with_len 0 n)) all
