-- Chains of the calls of each client.
use Rattle.std.proofs.Common.{◌≡◌, ℕ, suc, ◌+◌, ◌-◌, ◌<◌, ◌≤◌, List, [], ◌∷◌, ◌++◌, length, drop, set, ap, sym, subst, ◌∙◌, inl, inr, ⊎_elim, arith, append_assoc, drop-cons, eq-eqb}
use Rattle.std.specs.Prelude.{◌≢◌, ◌⊎◌, ◌==◌, filter, slice_get, slice_index, Some}
use Rattle.std.proofs.lemmas.Bool.{cases_eq, ne_eqb}
use Rattle.std.proofs.lemmas.List.{append-nil, drop_all, get_or-set_other, get_or-set_same, length-set}
use Rattle.std.proofs.lemmas.Option.{slice_get_within, get_or_from_slice_get}
use Rattle.log_events.specs.Events.{Call}
use Rattle.log_events.specs.Steps.Chains.{AreChainsFrom, IsOnChain, Leads, left}

-- a change of a link before those of a chain
Leads-set : (calls : List Call) (next : List ℕ) (low link i v : ℕ) (rest : List Call) → i < low → Leads calls next low link rest
    → Leads calls (set next i v) low link rest
Leads-set calls next low link i v [] below leads = leads
Leads-set calls next low link i v (a ∷ rest) below (k, is, above, at, more) =
    let apart : k ≢ i = λ same. absurd (omega arith) in (
      k,
      is,
      above,
      at,
      subst (λ (n : ℕ). Leads calls (set next i v) (k + 1) n rest) (sym (get_or-set_other next i k v 0 apart))
          (Leads-set calls next (k + 1) (slice_index next k) i v rest (omega arith) more),
    )

Leads-lower : (calls : List Call) (next : List ℕ) (low high link : ℕ) (rest : List Call) → low ≤ high → Leads calls next high link rest
    → Leads calls next low link rest
Leads-lower calls next low high link [] below leads = leads
Leads-lower calls next low high link (a ∷ rest) below (k, is, above, at, more) = (k, is, omega arith, at, more)

-- no call is linked yet
pub chains-none : (calls : List Call) (clients : ℕ) (first next : List ℕ) (n : ℕ) → length first ≡ clients → length next ≡ length calls
    → ((client : ℕ) → client < clients → slice_index first client ≡ 0) → length calls ≤ n → AreChainsFrom calls clients first next n
chains-none calls clients first next n many as_many none past = record {
  many = many;
  as_many = as_many;
  lead = λ client below.
      subst (λ (l : List Call). Leads calls next n (slice_index first client) (filter (λ (a : Call). a.client == client) l))
      (sym (drop_all n calls past)) (none client below);
}

abbrev later_of : List ℕ → List ℕ → ℕ → Call → List ℕ
later_of first next n a = set next n (slice_index first a.client)

abbrev firsts_of : List ℕ → ℕ → Call → List ℕ
firsts_of first n a = set first a.client (n + 1)

-- the call before the linked ones comes first in the chain of its client
pub chains-more : (calls : List Call) (clients : ℕ) (first next : List ℕ) (n : ℕ) (a : Call) → AreChainsFrom calls clients first next (n + 1)
    → slice_get calls n ≡ Some a → a.client < clients
    → AreChainsFrom calls clients (set first a.client (n + 1)) (set next n (slice_index first a.client)) n
chains-more calls clients first next n a chains at known =
    let many = chains.many in
    let as_many = chains.as_many in
    let within = slice_get_within calls n a at in
    let longer = length-set first a.client (n + 1) in
    let long = length-set next n (slice_index first a.client) in
    let rest : drop n calls ≡ a ∷ drop (n + 1) calls =
    drop-cons calls n a within ∙ ap (λ (x : Call). x ∷ drop (suc n) calls) (get_or_from_slice_get calls n a a at)
    ∙ (let one : suc n ≡ n + 1 = omega arith in ap (λ (m : ℕ). a ∷ drop m calls) one) in record {
      many = omega arith;
      as_many = omega arith;
      lead = λ client below.
          subst (λ (l : List Call). Leads calls (set next n (slice_index first a.client)) n (slice_index (set first a.client (n + 1)) client)
          (filter (λ (b : Call). b.client == client) l)) (sym rest) (⊎_elim
          (λ (equal : a.client ≡ client). own client equal (drop (n + 1) calls) (chains.lead client below))
          (λ (apart : a.client ≡ client → ⊥). other client apart (drop (n + 1) calls) (chains.lead client below))
          (cases_eq a.client client));
    }
  where
    own : (client : ℕ) → a.client ≡ client → (l : List Call)
        → Leads calls next (n + 1) (slice_index first client) (filter (λ (b : Call). b.client == client) l)
        → Leads calls (later_of first next n a) n (slice_index (firsts_of first n a) client) (filter (λ (b : Call). b.client == client) (a ∷ l))
    own client equal l leads =
        let many = chains.many in
        let as_many = chains.as_many in
        let within = slice_get_within calls n a at in
        let linked : slice_index (later_of first next n a) n ≡ slice_index first client =
        get_or-set_same next n (slice_index first a.client) 0 (omega arith) ∙ ap (slice_index first) equal in
        let here : slice_index (firsts_of first n a) client ≡ n + 1 =
        ap (slice_index (firsts_of first n a)) (sym equal) ∙ get_or-set_same first a.client (n + 1) 0 (omega arith) in
        rw (eq-eqb a.client client equal) (
          n,
          here,
          omega arith,
          at,
          subst (λ (m : ℕ). Leads calls (later_of first next n a) (n + 1) m (filter (λ (b : Call). b.client == client) l)) (sym linked)
              (Leads-set calls next (n + 1) (slice_index first client) n (slice_index first a.client) (filter (λ (b : Call). b.client == client) l) (omega arith) leads),
        )

    other : (client : ℕ) → (a.client ≡ client → ⊥) → (l : List Call)
        → Leads calls next (n + 1) (slice_index first client) (filter (λ (b : Call). b.client == client) l)
        → Leads calls (later_of first next n a) n (slice_index (firsts_of first n a) client) (filter (λ (b : Call). b.client == client) (a ∷ l))
    other client apart l leads =
        let same = get_or-set_other first a.client client (n + 1) 0 (λ equal. apart (sym equal)) in
        rw (ne_eqb a.client client apart)
        (subst (λ (m : ℕ). Leads calls (later_of first next n a) n m (filter (λ (b : Call). b.client == client) l)) (sym same)
        (Leads-lower calls (later_of first next n a) n (n + 1) (slice_index first client) (filter (λ (b : Call). b.client == client) l) (omega arith)
        (Leads-set calls next (n + 1) (slice_index first client) n (slice_index first a.client) (filter (λ (b : Call). b.client == client) l) (omega arith) leads)))

-- a link to a call, and the way on from there
pub record IsStep (calls : List Call) (next : List ℕ) (all found : List Call) (link : ℕ) (a : Call) : Type 0 where
  pub at : slice_get calls (link - 1) ≡ Some a
  pub onward : IsOnChain calls next all (found ++ a ∷ []) (slice_index next (link - 1))
  pub later : (slice_index next (link - 1) ≡ 0) ⊎ (link < slice_index next (link - 1))

pub on_chain-step : (calls : List Call) (next : List ℕ) (all found : List Call) (link : ℕ) → IsOnChain calls next all found link → link ≢ 0
    → (a : Call) × IsStep calls next all found link a
on_chain-step calls next all found link way some = step way.rest way.leads way.joined
  where
    onward : (k : ℕ) (a : Call) (rest : List Call) → Leads calls next (k + 1) (slice_index next k) rest
        → (slice_index next k ≡ 0) ⊎ (k + 1 < slice_index next k)
    onward k a [] leads = inl leads
    onward k a (b ∷ rest) (m, is, above, at, more) = inr (omega arith)

    step : (rest : List Call) → Leads calls next way.low link rest → found ++ rest ≡ all → (a : Call) × IsStep calls next all found link a
    step [] none joined = absurd (some none)
    step (a ∷ rest) (k, is, above, at, more) joined =
        let number : link - 1 ≡ k = omega arith in (
          a,
          record {
            at = ap (slice_get calls) number ∙ at;
            onward = record {
              low = k + 1;
              rest = rest;
              leads = subst (λ (n : ℕ). Leads calls next (k + 1) (slice_index next n) rest) (sym number) more;
              joined = append_assoc found (a ∷ []) rest ∙ joined;
            };
            later = subst (λ (n : ℕ). (slice_index next n ≡ 0) ⊎ (link < slice_index next n)) (sym number)
                (subst (λ (n : ℕ). (slice_index next k ≡ 0) ⊎ (n < slice_index next k)) (sym is) (onward k a rest more));
          },
        )

-- the end of a chain
pub on_chain-end : (calls : List Call) (next : List ℕ) (all found : List Call) (link : ℕ) → IsOnChain calls next all found link → link ≡ 0 → found ≡ all
on_chain-end calls next all found link way none = ended way.rest way.leads way.joined
  where
    ended : (rest : List Call) → Leads calls next way.low link rest → found ++ rest ≡ all → found ≡ all
    ended [] leads joined = sym (append-nil found) ∙ joined
    ended (a ∷ rest) (k, is, above, at, more) joined = absurd (omega arith)

-- less of the chain is left
pub left-step : (calls : List Call) (link after : ℕ) (a : Call) → link ≢ 0 → slice_get calls (link - 1) ≡ Some a
    → (after ≡ 0) ⊎ (link < after) → left calls after < left calls link
left-step calls link after a some at later =
    let within = slice_get_within calls (link - 1) a at in
    rw (ne_eqb link 0 some) (⊎_elim
    (λ (none : after ≡ 0). rw (eq-eqb after 0 none) (omega arith))
    (λ (more : link < after). let apart : after ≢ 0 = λ none. absurd (omega arith) in rw (ne_eqb after 0 apart) (omega arith))
    later)
