use Rattle.std.specs.Prelude.{◌≡◌, ◌+◌, ◌<◌, ◌∷◌, ℕ, List, [], Some, length, slice_get, slice_index_or}
use Rattle.std.proofs.Common.{arith, subst}
use Rattle.std.proofs.lemmas.Option.{slice_get-get_or}
use Rattle.judge_columns.specs.Lanes.{in_lane}
use Rattle.judge_columns.proofs.FourLanes.{each-lane}
use Rattle.judge_columns.proofs.swept.four_from.Goals as goal

pub returns-clause-listed : goal.returns-clause-listed
returns-clause-listed c =
    let list : List ℕ = c.args.sessions.now in
    each-lane _ (c.args.from, slice_get-get_or list c.args.from 0 c.requires) c.session_or.ensures.listed c.session_or-2.ensures.listed
    c.session_or-3.ensures.listed

pub returns-clause-places : goal.returns-clause-places
returns-clause-places c =
    let list : List ℕ = c.args.sessions.now in
    let from : ℕ = c.args.from in
    let at : ℕ = slice_index_or list from 0 in
    let row : List ℕ = at ∷ c.session_or.result ∷ c.session_or-2.result ∷ c.session_or-3.result ∷ [] in
    let here : from ≡ from + 0 = omega arith in
    each-lane (λ (k : ℕ). from + k < length list → slice_get list (from + k) ≡ Some (in_lane row k))
    (λ _. subst (λ (j : ℕ). slice_get list j ≡ Some at) here (slice_get-get_or list from 0 c.requires)) c.session_or.ensures.place
    c.session_or-2.ensures.place c.session_or-3.ensures.place
