-- The history of a log by a choice is that of the resolved log, with other values.
use Rattle.std.proofs.Common.{◌≡◌, ℕ, ◌+◌, ◌-◌, ◌*◌, true, false, Bool, List, [], ◌∷◌, ◌++◌, map, refl, ap, sym, ◌∙◌, ⊎_elim, arith}
use Rattle.std.specs.Prelude.{◌≢◌, ◌==◌, ◌&&◌, ◌||◌, if◌then◌else◌, Option, Some, None, option_map, filter, filter_map, max, slice_get}
use Rattle.std.specs.List.{list_any, cons_option, range_with_len}
use Rattle.std.proofs.lemmas.Bool.{cases_eq, eq-eqb, ne_eqb}
use Rattle.std.proofs.lemmas.List.{map-append}
use Rattle.std.proofs.lemmas.Option.{slice_get-map}
use Rattle.model_objects.specs.declared.register.RegisterRet.TheVariants.{Done, Value}
use Rattle.cert_subhistories.proofs.KeptLists.{mapped_from}
use Rattle.log_events.specs.declared.event.ClientCall.{ClientCall}
use Rattle.log_events.specs.declared.event.ClientCall.TheVariants.{WriteTo, ReadOf, DeleteOf}
use Rattle.log_events.specs.declared.event.Ending.{Ending}
use Rattle.log_events.specs.declared.event.Ending.TheVariants.{Answered, Got, GotNothing, Failed, Lost}
use Rattle.log_events.specs.declared.event.Event.{Event}
use Rattle.log_events.specs.declared.event.Event.TheVariants.{Starts, Begins, Ends}
use Rattle.log_events.specs.Events.{IsAllowed, Call, run_calls}
use Rattle.log_events.specs.Histories.{key, mark, value, nothing, deleted, Operation, write, read, gets, deletes, clients, start_entry, is_returned, is_deleted, operation, fork, client_session, fork_sessions, history_of}
use Rattle.log_events.proofs.AllowedLogs.{allowed-turns}
use Rattle.log_choices.specs.Choices.{Choice}
use Rattle.log_choices.specs.ChosenHistories.{seen_value, is_of_delete, saw, sees, is_seen, operation_by, fork_by, client_session_by, fork_sessions_by, history_by}
use Rattle.log_choices.proofs.RenamedHistories.{renamed, renamed_operation, renamed_start}
use Rattle.log_choices.proofs.ResolvedLogs.{Begun, resolved_call, resolved_miss, resolved_ending, resolved_call_of, begun_after, resolved_from, resolved-calls}

-- the values of a resolved log: 0 stays, a value 2v + 1 becomes 4v + 1, and what a delete writes, 2p + 2, becomes 4p + 3
abbrev pub spread : ℕ → ℕ
spread n = 2 * n - 1

pub spread-once : (u v : ℕ) → spread u ≡ spread v → u ≡ v
spread-once u v same = omega arith

-- lists that are mapped, filtered and searched
module _ {X Y : Type 0} where
  pub filter_map-map : {A B : Type 0} (r : X → A) (g : A → Option B) (h : X → Option Y) (s : Y → B)
      → ((x : X) → g (r x) ≡ option_map s (h x)) → (xs : List X) → filter_map g (map r xs) ≡ map s (filter_map h xs)
  filter_map-map r g h s each [] = refl
  filter_map-map {A} {B} r g h s each (x ∷ xs) =
      (λ i. cons_option (each x i) (filter_map-map r g h s each xs i)) ∙ front (h x)
    where
      front : (o : Option Y) → cons_option (option_map s o) (map s (filter_map h xs)) ≡ map s (cons_option o (filter_map h xs))
      front None = refl
      front (Some y) = refl

pub filter-map : {X A : Type 0} (r : X → A) (p : A → Bool) (q : X → Bool) → ((x : X) → p (r x) ≡ q x) → (xs : List X)
    → filter p (map r xs) ≡ map r (filter q xs)
filter-map r p q each [] = refl
filter-map {X} {A} r p q each (x ∷ xs) =
    (λ i. if each x i then (r x ∷ filter-map r p q each xs i) else filter-map r p q each xs i) ∙ front (q x)
  where
    front : (b : Bool) → (if b then (r x ∷ map r (filter q xs)) else map r (filter q xs)) ≡ map r (if b then (x ∷ filter q xs) else filter q xs)
    front true = refl
    front false = refl

pub list_any-map : {X A : Type 0} (r : X → A) (p : A → Bool) (q : X → Bool) → ((x : X) → p (r x) ≡ q x) → (xs : List X)
    → list_any p (map r xs) ≡ list_any q xs
list_any-map r p q each [] = refl
list_any-map r p q each (x ∷ xs) = λ i. each x i || list_any-map r p q each xs i

pub map-same : {X Y : Type 0} (f g : X → Y) → ((x : X) → f x ≡ g x) → (xs : List X) → map f xs ≡ map g xs
map-same f g each [] = refl
map-same f g each (x ∷ xs) = λ i. each x i ∷ map-same f g each xs i

pub map-map : {X Y Z : Type 0} (f : X → Y) (g : Y → Z) (xs : List X) → map g (map f xs) ≡ map (λ (x : X). g (f x)) xs
map-map f g [] = refl
map-map {X} {Y} {Z} f g (x ∷ xs) = ap (λ (l : List Z). g (f x) ∷ l) (map-map f g xs)

-- tests of numbers
and-false : (b : Bool) → (b && false) ≡ false
and-false true = refl
and-false false = refl

even-even : (u v : ℕ) → (2 * u == 2 * v) ≡ (u == v)
even-even u v = ⊎_elim
    (λ (same : u ≡ v). eq-eqb (2 * u) (2 * v) (omega arith) ∙ sym (eq-eqb u v same))
    (λ (apart : u ≢ v). ne_eqb (2 * u) (2 * v) (λ same. apart (omega arith)) ∙ sym (ne_eqb u v apart))
    (cases_eq u v)

odd-odd : (u v : ℕ) → (2 * u + 1 == 2 * v + 1) ≡ (u == v)
odd-odd u v = ⊎_elim
    (λ (same : u ≡ v). eq-eqb (2 * u + 1) (2 * v + 1) (omega arith) ∙ sym (eq-eqb u v same))
    (λ (apart : u ≢ v). ne_eqb (2 * u + 1) (2 * v + 1) (λ same. apart (omega arith)) ∙ sym (ne_eqb u v apart))
    (cases_eq u v)

odd-even : (u v : ℕ) → (2 * u + 1 == 2 * v) ≡ false
odd-even u v = ne_eqb (2 * u + 1) (2 * v) (λ same. omega arith)

even-odd : (u v : ℕ) → (2 * u == 2 * v + 1) ≡ false
even-odd u v = ne_eqb (2 * u) (2 * v + 1) (λ same. omega arith)

module _ (es : List Event) (f : Choice) where
  -- before the log no client began anything
  abbrev pub nothing_begun : ℕ → Begun
  nothing_begun c = (0, ReadOf 0)

  abbrev pub resolved : List Event
  resolved = resolved_from es f nothing_begun 0 es

  -- what a read of the resolved log got: a value, or a delete
  gets-value : (x v : ℕ) (a : Call)
      → gets x (2 * v) (resolved_call a.place a.call) (option_map (resolved_ending es f (a.place, a.call)) a.ending) ≡ gets x v a.call a.ending
  gets-value x v a = by_call a.place a.call a.ending
    where
      missed : (y : ℕ) (o : Option (Option ℕ)) → gets x (2 * v) (ReadOf y) (Some (resolved_miss o)) ≡ false
      missed y None = refl
      missed y (Some None) = refl
      missed y (Some (Some p)) = ap (λ (b : Bool). (y == x) && b) (odd-even p v) ∙ and-false (y == x)

      by_call : (place : ℕ) (call : ClientCall) (ending : Option Ending)
          → gets x (2 * v) (resolved_call place call) (option_map (resolved_ending es f (place, call)) ending) ≡ gets x v call ending
      by_call place (WriteTo y u) None = refl
      by_call place (WriteTo y u) (Some Answered) = refl
      by_call place (WriteTo y u) (Some (Got w)) = refl
      by_call place (WriteTo y u) (Some GotNothing) = refl
      by_call place (WriteTo y u) (Some Failed) = refl
      by_call place (WriteTo y u) (Some Lost) = refl
      by_call place (ReadOf y) None = refl
      by_call place (ReadOf y) (Some Answered) = refl
      by_call place (ReadOf y) (Some (Got w)) = ap (λ (b : Bool). (y == x) && b) (even-even w v)
      by_call place (ReadOf y) (Some GotNothing) = missed y (saw es f place y)
      by_call place (ReadOf y) (Some Failed) = refl
      by_call place (ReadOf y) (Some Lost) = refl
      by_call place (DeleteOf y) None = refl
      by_call place (DeleteOf y) (Some Answered) = refl
      by_call place (DeleteOf y) (Some (Got w)) = refl
      by_call place (DeleteOf y) (Some GotNothing) = refl
      by_call place (DeleteOf y) (Some Failed) = refl
      by_call place (DeleteOf y) (Some Lost) = refl

  gets-delete : (x p : ℕ) (a : Call)
      → gets x (2 * p + 1) (resolved_call a.place a.call) (option_map (resolved_ending es f (a.place, a.call)) a.ending) ≡ sees es f x p a.place a.call a.ending
  gets-delete x p a = by_call a.place a.call a.ending
    where
      missed : (y : ℕ) (o : Option (Option ℕ)) → gets x (2 * p + 1) (ReadOf y) (Some (resolved_miss o)) ≡ ((y == x) && is_of_delete p o)
      missed y None = sym (and-false (y == x))
      missed y (Some None) = sym (and-false (y == x))
      missed y (Some (Some q)) = ap (λ (b : Bool). (y == x) && b) (odd-odd q p)

      by_call : (place : ℕ) (call : ClientCall) (ending : Option Ending)
          → gets x (2 * p + 1) (resolved_call place call) (option_map (resolved_ending es f (place, call)) ending) ≡ sees es f x p place call ending
      by_call place (WriteTo y u) None = refl
      by_call place (WriteTo y u) (Some Answered) = refl
      by_call place (WriteTo y u) (Some (Got w)) = refl
      by_call place (WriteTo y u) (Some GotNothing) = refl
      by_call place (WriteTo y u) (Some Failed) = refl
      by_call place (WriteTo y u) (Some Lost) = refl
      by_call place (ReadOf y) None = refl
      by_call place (ReadOf y) (Some Answered) = refl
      by_call place (ReadOf y) (Some (Got w)) = ap (λ (b : Bool). (y == x) && b) (even-odd w p) ∙ and-false (y == x)
      by_call place (ReadOf y) (Some GotNothing) = missed y (saw es f place y)
      by_call place (ReadOf y) (Some Failed) = refl
      by_call place (ReadOf y) (Some Lost) = refl
      by_call place (DeleteOf y) None = refl
      by_call place (DeleteOf y) (Some Answered) = refl
      by_call place (DeleteOf y) (Some (Got w)) = refl
      by_call place (DeleteOf y) (Some GotNothing) = refl
      by_call place (DeleteOf y) (Some Failed) = refl
      by_call place (DeleteOf y) (Some Lost) = refl

  deletes-nothing : (x : ℕ) (a : Call)
      → deletes x (resolved_call a.place a.call) (option_map (resolved_ending es f (a.place, a.call)) a.ending) ≡ false
  deletes-nothing x a = by_call a.place a.call (option_map (resolved_ending es f (a.place, a.call)) a.ending)
    where
      by_call : (place : ℕ) (call : ClientCall) (ending : Option Ending) → deletes x (resolved_call place call) ending ≡ false
      by_call place (WriteTo y u) ending = refl
      by_call place (ReadOf y) ending = refl
      by_call place (DeleteOf y) ending = refl

  none-any : (xs : List Call) → list_any (λ (a : Call). false) xs ≡ false
  none-any [] = refl
  none-any (a ∷ xs) = none-any xs

  module _ (allowed : IsAllowed es) where
    pub resolved-run : run_calls resolved ≡ map (resolved_call_of es f) (run_calls es)
    resolved-run = resolved-calls es f nothing_begun 0 es (allowed-turns es allowed)

    run-at : (k : ℕ) → slice_get (run_calls resolved) k ≡ option_map (resolved_call_of es f) (slice_get (run_calls es) k)
    run-at k = ap (λ (l : List Call). slice_get l k) resolved-run ∙ slice_get-map (resolved_call_of es f) (run_calls es) k

    pub run-from : (k : ℕ) (b : Call) → slice_get (run_calls resolved) k ≡ Some b
        → (a : Call) × (slice_get (run_calls es) k ≡ Some a) × (resolved_call_of es f a ≡ b)
    run-from k b at = mapped_from (resolved_call_of es f) (slice_get (run_calls es) k) b (sym (run-at k) ∙ at)

    pub run-to : (k : ℕ) (a : Call) → slice_get (run_calls es) k ≡ Some a → slice_get (run_calls resolved) k ≡ Some (resolved_call_of es f a)
    run-to k a at = run-at k ∙ ap (option_map (resolved_call_of es f)) at

    pub returned-value : (x v : ℕ) → is_returned resolved x (2 * v) ≡ is_returned es x v
    returned-value x v =
        ap (list_any (λ (a : Call). gets x (2 * v) a.call a.ending)) resolved-run
        ∙ list_any-map (resolved_call_of es f) (λ (a : Call). gets x (2 * v) a.call a.ending) (λ (a : Call). gets x v a.call a.ending) (gets-value x v) (run_calls es)

    pub returned-delete : (x p : ℕ) → is_returned resolved x (2 * p + 1) ≡ is_seen es f x p
    returned-delete x p =
        ap (list_any (λ (a : Call). gets x (2 * p + 1) a.call a.ending)) resolved-run
        ∙ list_any-map (resolved_call_of es f) (λ (a : Call). gets x (2 * p + 1) a.call a.ending)
        (λ (a : Call). sees es f x p a.place a.call a.ending) (gets-delete x p) (run_calls es)

    pub undeleted : (x : ℕ) → is_deleted resolved x ≡ false
    undeleted x =
        ap (list_any (λ (a : Call). deletes x a.call a.ending)) resolved-run
        ∙ list_any-map (resolved_call_of es f) (λ (a : Call). deletes x a.call a.ending) (λ (a : Call). false) (deletes-nothing x) (run_calls es)
        ∙ none-any (run_calls es)

    -- the operation and the fork of a call
    spread-value : (v : ℕ) → value (2 * v) ≡ spread (value v)
    spread-value v = omega arith

    spread-deleted : (p : ℕ) → value (2 * p + 1) ≡ spread (deleted p)
    spread-deleted p = omega arith

    pub operation-resolved : (a : Call)
        → operation resolved a.place (resolved_call a.place a.call) (option_map (resolved_ending es f (a.place, a.call)) a.ending)
        ≡ option_map (renamed_operation spread) (operation_by es f a.place a.call a.ending)
    operation-resolved a = by_call a.place a.call a.ending
      where
        marked : (place : ℕ) (b : Bool) → (if b then Some (write (mark place) 1 (Some Done)) else None)
            ≡ option_map (renamed_operation spread) (if b then Some (write (mark place) 1 (Some Done)) else None)
        marked place true = refl
        marked place false = refl

        missed : (place y : ℕ) (o : Option (Option ℕ)) → operation resolved place (ReadOf y) (Some (resolved_miss o))
            ≡ option_map (renamed_operation spread) (option_map (λ c. read (key y) (Some (Value (seen_value c)))) o)
        missed place y None = refl
        missed place y (Some None) = ap (λ (b : Bool). if b then None else Some (read (key y) (Some (Value nothing)))) (undeleted y)
        missed place y (Some (Some p)) = ap (λ (n : ℕ). Some (read (key y) (Some (Value n)))) (spread-deleted p)

        unmissed : (place y : ℕ) (b : Bool)
            → option_map (renamed_operation spread) (if b then None else Some (read (key y) (Some (Value nothing))))
            ≡ (if b then None else Some (read (key y) (Some (Value nothing))))
        unmissed place y true = refl
        unmissed place y false = refl

        by_call : (place : ℕ) (call : ClientCall) (ending : Option Ending)
            → operation resolved place (resolved_call place call) (option_map (resolved_ending es f (place, call)) ending)
            ≡ option_map (renamed_operation spread) (operation_by es f place call ending)
        by_call place (WriteTo y u) None = ap (λ (n : ℕ). Some (write (key y) n None)) (spread-value u)
        by_call place (WriteTo y u) (Some Answered) = ap (λ (n : ℕ). Some (write (key y) n (Some Done))) (spread-value u)
        by_call place (WriteTo y u) (Some (Got w)) = refl
        by_call place (WriteTo y u) (Some GotNothing) = refl
        by_call place (WriteTo y u) (Some Failed) = refl
        by_call place (WriteTo y u) (Some Lost) =
            ap (λ (b : Bool). if b then Some (write (mark place) 1 (Some Done)) else None) (returned-value y u) ∙ marked place (is_returned es y u)
        by_call place (ReadOf y) None = refl
        by_call place (ReadOf y) (Some Answered) = refl
        by_call place (ReadOf y) (Some (Got w)) = ap (λ (n : ℕ). Some (read (key y) (Some (Value n)))) (spread-value w)
        by_call place (ReadOf y) (Some GotNothing) = missed place y (saw es f place y)
        by_call place (ReadOf y) (Some Failed) = refl
        by_call place (ReadOf y) (Some Lost) = refl
        by_call place (DeleteOf y) None = ap (λ (n : ℕ). Some (write (key y) n None)) (spread-deleted place)
        by_call place (DeleteOf y) (Some Answered) = ap (λ (n : ℕ). Some (write (key y) n (Some Done))) (spread-deleted place)
        by_call place (DeleteOf y) (Some (Got w)) = refl
        by_call place (DeleteOf y) (Some GotNothing) = refl
        by_call place (DeleteOf y) (Some Failed) = refl
        by_call place (DeleteOf y) (Some Lost) =
            ap (λ (b : Bool). if b then Some (write (mark place) 1 (Some Done)) else None) (returned-delete y place) ∙ marked place (is_seen es f y place)

    pub fork-resolved : (a : Call)
        → fork resolved a.place (resolved_call a.place a.call) (option_map (resolved_ending es f (a.place, a.call)) a.ending)
        ≡ option_map (map (renamed_operation spread)) (fork_by es f a.place a.call a.ending)
    fork-resolved a = by_call a.place a.call a.ending
      where
        forked : (place y u n : ℕ) → value u ≡ spread n → (b : Bool)
            → (if b then Some (read (mark place) (Some (Value 1)) ∷ write (key y) (value u) None ∷ []) else None)
            ≡ option_map (map (renamed_operation spread)) (if b then Some (read (mark place) (Some (Value 1)) ∷ write (key y) n None ∷ []) else None)
        forked place y u n same true = ap (λ (m : ℕ). Some (read (mark place) (Some (Value 1)) ∷ write (key y) m None ∷ [])) same
        forked place y u n same false = refl

        missed : (place y : ℕ) (o : Option (Option ℕ)) → fork resolved place (ReadOf y) (Some (resolved_miss o)) ≡ None
        missed place y o = refl

        by_call : (place : ℕ) (call : ClientCall) (ending : Option Ending)
            → fork resolved place (resolved_call place call) (option_map (resolved_ending es f (place, call)) ending)
            ≡ option_map (map (renamed_operation spread)) (fork_by es f place call ending)
        by_call place (WriteTo y u) None = refl
        by_call place (WriteTo y u) (Some Answered) = refl
        by_call place (WriteTo y u) (Some (Got w)) = refl
        by_call place (WriteTo y u) (Some GotNothing) = refl
        by_call place (WriteTo y u) (Some Failed) = refl
        by_call place (WriteTo y u) (Some Lost) =
            ap (λ (b : Bool). if b then Some (read (mark place) (Some (Value 1)) ∷ write (key y) (value (2 * u)) None ∷ []) else None) (returned-value y u)
            ∙ forked place y (2 * u) (value u) (spread-value u) (is_returned es y u)
        by_call place (ReadOf y) None = refl
        by_call place (ReadOf y) (Some Answered) = refl
        by_call place (ReadOf y) (Some (Got w)) = refl
        by_call place (ReadOf y) (Some GotNothing) = missed place y (saw es f place y)
        by_call place (ReadOf y) (Some Failed) = refl
        by_call place (ReadOf y) (Some Lost) = refl
        by_call place (DeleteOf y) None = refl
        by_call place (DeleteOf y) (Some Answered) = refl
        by_call place (DeleteOf y) (Some (Got w)) = refl
        by_call place (DeleteOf y) (Some GotNothing) = refl
        by_call place (DeleteOf y) (Some Failed) = refl
        by_call place (DeleteOf y) (Some Lost) =
            ap (λ (b : Bool). if b then Some (read (mark place) (Some (Value 1)) ∷ write (key y) (value (2 * place + 1)) None ∷ []) else None) (returned-delete y place)
            ∙ forked place y (2 * place + 1) (deleted place) (spread-deleted place) (is_seen es f y place)

    -- the sessions and the start
    session-resolved : (c : ℕ) → client_session resolved c ≡ map (renamed_operation spread) (client_session_by es f c)
    session-resolved c =
        ap (λ (calls : List Call). filter_map (λ (a : Call). operation resolved a.place a.call a.ending) (filter (λ (a : Call). a.client == c) calls)) resolved-run
        ∙ ap (filter_map (λ (a : Call). operation resolved a.place a.call a.ending))
        (filter-map (resolved_call_of es f) (λ (a : Call). a.client == c) (λ (a : Call). a.client == c) (λ a. refl) (run_calls es))
        ∙ filter_map-map (resolved_call_of es f) (λ (a : Call). operation resolved a.place a.call a.ending)
        (λ (a : Call). operation_by es f a.place a.call a.ending) (renamed_operation spread) operation-resolved
        (filter (λ (a : Call). a.client == c) (run_calls es))

    forks-resolved : fork_sessions resolved ≡ map (map (renamed_operation spread)) (fork_sessions_by es f)
    forks-resolved =
        ap (filter_map (λ (a : Call). fork resolved a.place a.call a.ending)) resolved-run
        ∙ filter_map-map (resolved_call_of es f) (λ (a : Call). fork resolved a.place a.call a.ending)
        (λ (a : Call). fork_by es f a.place a.call a.ending) (map (renamed_operation spread)) fork-resolved (run_calls es)

    pub start-resolved : (begun : ℕ → Begun) (i : ℕ) (l : List Event)
        → filter_map start_entry (resolved_from es f begun i l) ≡ renamed_start spread (filter_map start_entry l)
    unfolding resolved_from
    start-resolved begun i [] = refl
    start-resolved begun i (Starts x v ∷ l) =
        λ t. (key x, spread-value v t) ∷ start-resolved begun (i + 1) l t
    start-resolved begun i (Begins c call ∷ l) = start-resolved (begun_after es f begun i (Begins c call)) (i + 1) l
    start-resolved begun i (Ends c ending ∷ l) = start-resolved begun (i + 1) l

    pub clients-resolved : (begun : ℕ → Begun) (i : ℕ) (l : List Event) → clients (resolved_from es f begun i l) ≡ clients l
    unfolding resolved_from
    clients-resolved begun i [] = refl
    clients-resolved begun i (Starts x v ∷ l) = clients-resolved begun (i + 1) l
    clients-resolved begun i (Begins c call ∷ l) = ap (λ (n : ℕ). max (c + 1) n) (clients-resolved (begun_after es f begun i (Begins c call)) (i + 1) l)
    clients-resolved begun i (Ends c ending ∷ l) = clients-resolved begun (i + 1) l

    sessions-resolved : map (client_session resolved) (range_with_len 0 (clients resolved)) ++ fork_sessions resolved
        ≡ map (map (renamed_operation spread)) (map (client_session_by es f) (range_with_len 0 (clients es)) ++ fork_sessions_by es f)
    sessions-resolved =
        (λ i. map (client_session resolved) (range_with_len 0 (clients-resolved nothing_begun 0 es i)) ++ forks-resolved i)
        ∙ ap (λ (l : List (List Operation)). l ++ map (map (renamed_operation spread)) (fork_sessions_by es f))
        (map-same (client_session resolved) (λ (c : ℕ). map (renamed_operation spread) (client_session_by es f c)) session-resolved (range_with_len 0 (clients es))
        ∙ sym (map-map (client_session_by es f) (map (renamed_operation spread)) (range_with_len 0 (clients es))))
        ∙ sym (map-append (map (renamed_operation spread)) (map (client_session_by es f) (range_with_len 0 (clients es))) (fork_sessions_by es f))

    pub history-resolved : history_of resolved ≡ renamed spread (history_by es f)
    history-resolved = λ i. (start-resolved nothing_begun 0 es i, sessions-resolved i)
