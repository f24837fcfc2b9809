-- The calls of each client, as they come.
use Rattle.std.proofs.Common.{◌≡◌, ℕ, ◌+◌, ◌<◌, List, [], ◌∷◌, ◌++◌, length, map, set, take, get_or, refl, ap, sym, ◌∙◌, ⊎_elim, arith, eq-eqb}
use Rattle.std.specs.Prelude.{◌≢◌, ◌==◌, All, Contains, filter, replicate}
use Rattle.std.specs.List.{range_with_len}
use Rattle.std.proofs.lemmas.Bool.{cases_eq, ne_eqb}
use Rattle.std.proofs.lemmas.List.{get_or-map, get_or-replicate, get_or-set_other, get_or-set_same, length-map, length-replicate, length-set, same_lists}
use Rattle.std.proofs.lemmas.List.Elements.{All-contains_itself, All-filter}
use Rattle.std.proofs.lemmas.List.FromFn.{get_or-map-range_with_len, length-map-range_with_len}
use Rattle.log_events.specs.declared.event.Event.{Event}
use Rattle.log_events.specs.Events.{Call, calls_of, run_calls}
use Rattle.log_events.specs.Histories.{clients}
use Rattle.log_events.proofs.Loops.{filter_more-none, filter_more-some}
use Rattle.log_choices.specs.Steps.ChosenCalls.{client_rows}

abbrev pub of_client : List Call → ℕ → List Call
of_client calls client = filter (λ (a : Call). a.client == client) calls

-- the calls of each of n clients
abbrev pub rows_of : ℕ → List Call → List (List Call)
rows_of n calls = map (of_client calls) (range_with_len 0 n)

pub row-of : (n : ℕ) (calls : List Call) (k : ℕ) (d : List Call) → k < n → get_or (rows_of n calls) k d ≡ of_client calls k
row-of n calls k d below = get_or-map-range_with_len (of_client calls) 0 n k k d below (omega arith)

-- none yet
pub rows-none : (n : ℕ) → ◌≡◌ {A = List (List Call)} (replicate n []) (rows_of n [])
rows-none n =
    let empty = length-replicate {A = List Call} n [] in
    let long = length-map-range_with_len (of_client []) 0 n in
    same_lists (replicate n []) (rows_of n []) (omega arith)
    (λ k d below.
    let within : k < n = omega arith in
    get_or-replicate n k [] d within ∙ sym (row-of n [] k d within))

-- one more call, put after those of its client
pub rows-more : (n : ℕ) (calls : List Call) (i : ℕ) (a : Call) → i < length calls → a ≡ get_or calls i a → a.client < n
    → set (rows_of n (take i calls)) a.client (of_client (take i calls) a.client ++ a ∷ []) ≡ rows_of n (take (i + 1) calls)
rows-more n calls i a within read known =
    let before = rows_of n (take i calls) in
    let own = of_client (take i calls) a.client ++ a ∷ [] in
    let long = length-map-range_with_len (of_client (take i calls)) 0 n in
    let longer = length-map-range_with_len (of_client (take (i + 1) calls)) 0 n in
    let changed = length-set before a.client own in
    same_lists (set before a.client own) (rows_of n (take (i + 1) calls)) (omega arith)
    (λ k d below.
    let inside : k < n = omega arith in
    ⊎_elim
    (λ (same : k ≡ a.client).
    ap (λ (m : ℕ). get_or (set before a.client own) m d) same
    ∙ get_or-set_same before a.client own d (omega arith)
    ∙ sym (filter_more-some (λ (b : Call). b.client == a.client) calls i a within read (eq-eqb a.client a.client refl))
    ∙ ap (of_client (take (i + 1) calls)) (sym same)
    ∙ sym (row-of n (take (i + 1) calls) k d inside))
    (λ (apart : k ≢ a.client).
    get_or-set_other before a.client k own d apart
    ∙ row-of n (take i calls) k d inside
    ∙ sym (filter_more-none (λ (b : Call). b.client == k) calls i a within read (ne_eqb a.client k (λ same. apart (sym same))))
    ∙ sym (row-of n (take (i + 1) calls) k d inside))
    (cases_eq k a.client))

-- the rows of a log: the calls of each client, which are calls of the run
pub own-row : (es : List Event) (rows : List (List Call)) (k : ℕ) (d : List Call) → rows ≡ client_rows es → k < length rows
    → (get_or rows k d ≡ calls_of k es) × (k < clients es)
own-row es rows k d same within =
    let long = length-map-range_with_len (of_client (run_calls es)) 0 (clients es) in
    let many = ap length same in
    let below : k < clients es = omega arith in
    (ap (λ (l : List (List Call)). get_or l k d) same ∙ row-of (clients es) (run_calls es) k d below, below)

-- a row in a list of what has rows
pub row-found : {V : Type 0} (items : V → List Call) (es : List Event) (vs : List V) (i : ℕ) (v : V) → map items vs ≡ client_rows es
    → i < length vs → v ≡ get_or vs i v → (items v ≡ calls_of i es) × (i < clients es)
row-found items es vs i v same within read =
    let long = length-map vs items in
    let inside : i < length (map items vs) = omega arith in
    let r = own-row es (map items vs) i [] same inside in
    (ap items read ∙ sym (get_or-map items vs i v [] within) ∙ r.0, r.1)

pub rows-many-of : (n : ℕ) (calls : List Call) (rows : List (List Call)) → rows ≡ rows_of n calls → length rows ≡ n
rows-many-of n calls rows same = ap length same ∙ length-map-range_with_len (of_client calls) 0 n

pub rows-many : (es : List Event) (rows : List (List Call)) → rows ≡ client_rows es → length rows ≡ clients es
rows-many es rows same = rows-many-of (clients es) (run_calls es) rows same

pub calls-of-run : (es : List Event) (client : ℕ) → All (Contains (run_calls es)) (calls_of client es)
calls-of-run es client =
    All-filter (λ (a : Call). a.client == client) (Contains (run_calls es)) (run_calls es) (All-contains_itself (run_calls es))
