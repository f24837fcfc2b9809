use Rattle.std.proofs.Common.{◌≡◌, ℕ, ◌<◌, ◌≤◌, List, [], ◌∷◌, ◌++◌, length, drop, take, get_or, ap, sym, ◌∙◌, arith}
use Rattle.std.specs.Prelude.{Some, filter_map, slice_get}
use Rattle.std.proofs.lemmas.List.{drop_all, get_or_default, length-take-le, take_all}
use Rattle.std.proofs.lemmas.Option.{slice_get-get_or}
use Rattle.log_events.specs.Events.{Call}
use Rattle.log_events.specs.Histories.{clients}
use Rattle.log_events.specs.Origins.{origins_of}
use Rattle.log_choices.proofs.ForkPlaces.{fork-row, fork_places-rows, origins-long, row_place, rows-more}
use Rattle.log_choices.proofs.lost_calls.returned_writes.Goals as goal

pub loop-fork-init : goal.loop-fork-init
loop-fork-init c =
    let es = c.args.log.now in
    let rows = origins_of es in
    let k = c.clients-fork.result in
    let own : k ≡ clients es = c.clients-fork.ensures in
    let long = origins-long es in
    let cut = length-take-le k rows (omega arith) in
    c.new-places.ensures.items ∙ ap (filter_map row_place) (sym (drop_all (clients es) (take k rows) (omega arith)))

pub bounds-get-0 : goal.bounds-get-0
bounds-get-0 c =
    let es = c.args.log.now in
    let rows = origins_of es in
    let k = c.loop-fork.fork in
    let row = c.get.result.now in
    let exact = c.in_ok-origins.ensures.exact in
    let test = c.loop-fork-test.true in
    let end = c.len-fork-end.ensures in
    let first = c.loop-fork.auto.fork in
    let own = c.clients-fork.ensures in
    let same = ap length exact in
    let within : k < length rows = omega arith in
    let past : clients es ≤ k = omega arith in
    let read : row ≡ get_or rows k [] = c.get.ensures ∙ ap (λ (l : List (List Call)). get_or l k []) exact in
    let at : slice_get rows k ≡ Some row = slice_get-get_or rows k [] within ∙ ap Some (sym read) in
    let r = fork-row es k row past at in
    let two = ap length r.1 in
    let inside : 0 < length row = omega arith in
    inside

pub loop-fork-preserved : goal.loop-fork-preserved
loop-fork-preserved c =
    let es = c.args.log.now in
    let rows = origins_of es in
    let n = clients es in
    let k = c.loop-fork.fork in
    let row = c.get.result.now in
    let a = c.index-get-0.result in
    let exact = c.in_ok-origins.ensures.exact in
    let test = c.loop-fork-test.true in
    let end = c.len-fork-end.ensures in
    let first = c.loop-fork.auto.fork in
    let own = c.clients-fork.ensures in
    let same = ap length exact in
    let within : k < length rows = omega arith in
    let past : n ≤ k = omega arith in
    let read : row ≡ get_or rows k [] = c.get.ensures ∙ ap (λ (l : List (List Call)). get_or l k []) exact in
    let at : slice_get rows k ≡ Some row = slice_get-get_or rows k [] within ∙ ap Some (sym read) in
    let r = fork-row es k row past at in
    let two = ap length r.1 in
    let inside : 0 < length row = omega arith in
    let found : slice_get row 0 ≡ Some a = slice_get-get_or row 0 a inside ∙ ap Some (sym c.index-get-0.is) in
    let before = filter_map row_place (drop n (take k rows)) in
    c.in_ok-push.ensures.items
    ∙ ap (λ (l : List ℕ). l ++ c.place.result ∷ []) c.loop-fork.invariant
    ∙ ap (λ (p : ℕ). before ++ p ∷ []) c.place.ensures
    ∙ sym (rows-more es k row a past within (read ∙ get_or_default rows k [] row within) found)

pub returns : goal.returns
returns c =
    let es = c.args.log.now in
    let rows = origins_of es in
    let same = ap length c.in_ok-origins.ensures.exact in
    let end = c.len-fork-end.ensures in
    let test = c.loop-fork-test.false in
    let over : length rows ≤ c.loop-fork.fork = omega arith in
    c.loop-fork.invariant
    ∙ ap (λ (l : List (List Call)). filter_map row_place (drop (clients es) l)) (take_all c.loop-fork.fork rows over)
    ∙ fork_places-rows es
