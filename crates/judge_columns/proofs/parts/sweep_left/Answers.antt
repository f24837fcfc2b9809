use Rattle.std.specs.Prelude.{◌≡◌, ◌<◌, ℕ, List, Some, length, slice_get}
use Rattle.std.proofs.Common.{subst, sym}
use Rattle.std.proofs.lemmas.Option.{slice_get_within}
use Rattle.judge_columns.specs.Forks.{AreOnlyWrites, IsForkBelow}
use Rattle.judge_columns.specs.Groups.{IsSweptForks, IsSweptSessions}
use Rattle.judge_columns.specs.Parts.{IsSweptOver}
use Rattle.judge_columns.specs.Swept.{IsListed}
use Rattle.judge_columns.proofs.GroupsSwept.{both-kinds}
use Rattle.judge_columns.proofs.SessionsSwept.{all-below, all-reads, all-reduced, all-starts}
use Rattle.judge_columns.proofs.parts.sweep_left.Goals as goal

pub returns-clause-start : goal.returns-clause-start
returns-clause-start c =
    let h = c.args.index.now.history in
    let list : List ℕ = c.args.sessions.now in
    let sessions : List ℕ = c.args.share.now.sessions.items in
    let forks : List ℕ = c.args.share.now.forks.items in
    let a = c.in_ok-swept.swept in
    let b = c.in_ok-of_forks.of_forks in
    let s = c.join.new.whole in
    let first : IsSweptOver h (IsListed sessions (length sessions)) a =
    subst (λ (xs : List ℕ). IsSweptOver h (IsListed xs (length xs)) a) c.deref.ensures.value c.in_ok-swept.ensures in
    let second : IsSweptOver h (IsForkBelow h forks (length forks)) b =
    subst (λ (xs : List ℕ). IsSweptOver h (IsForkBelow h xs (length xs)) b) c.deref-2.ensures.value c.in_ok-of_forks.ensures in
    let whole = both-kinds h list sessions forks c.requires.all a b s first second c.in_ok-join.ensures.start c.in_ok-join.ensures.read
    c.in_ok-join.ensures.edges in
    all-starts h (IsListed list (length list))
    (λ w x v wrote. let place = c.requires.writers w x v wrote in (place.0, slice_get_within list place.0 w.session place.1, place.1))
    s.has_overwritten_start s.has_overwritten_read s.edges.items whole

pub returns-clause-read : goal.returns-clause-read
returns-clause-read c =
    let h = c.args.index.now.history in
    let list : List ℕ = c.args.sessions.now in
    let sessions : List ℕ = c.args.share.now.sessions.items in
    let forks : List ℕ = c.args.share.now.forks.items in
    let a = c.in_ok-swept.swept in
    let b = c.in_ok-of_forks.of_forks in
    let s = c.join.new.whole in
    let first : IsSweptOver h (IsListed sessions (length sessions)) a =
    subst (λ (xs : List ℕ). IsSweptOver h (IsListed xs (length xs)) a) c.deref.ensures.value c.in_ok-swept.ensures in
    let second : IsSweptOver h (IsForkBelow h forks (length forks)) b =
    subst (λ (xs : List ℕ). IsSweptOver h (IsForkBelow h xs (length xs)) b) c.deref-2.ensures.value c.in_ok-of_forks.ensures in
    let whole = both-kinds h list sessions forks c.requires.all a b s first second c.in_ok-join.ensures.start c.in_ok-join.ensures.read
    c.in_ok-join.ensures.edges in
    all-reads h (IsListed list (length list))
    (λ w x v wrote. let place = c.requires.writers w x v wrote in (place.0, slice_get_within list place.0 w.session place.1, place.1))
    s.has_overwritten_start s.has_overwritten_read s.edges.items whole

pub returns-clause-edges : goal.returns-clause-edges
returns-clause-edges c =
    let h = c.args.index.now.history in
    let list : List ℕ = c.args.sessions.now in
    let sessions : List ℕ = c.args.share.now.sessions.items in
    let forks : List ℕ = c.args.share.now.forks.items in
    let a = c.in_ok-swept.swept in
    let b = c.in_ok-of_forks.of_forks in
    let s = c.join.new.whole in
    let first : IsSweptOver h (IsListed sessions (length sessions)) a =
    subst (λ (xs : List ℕ). IsSweptOver h (IsListed xs (length xs)) a) c.deref.ensures.value c.in_ok-swept.ensures in
    let second : IsSweptOver h (IsForkBelow h forks (length forks)) b =
    subst (λ (xs : List ℕ). IsSweptOver h (IsForkBelow h xs (length xs)) b) c.deref-2.ensures.value c.in_ok-of_forks.ensures in
    let whole = both-kinds h list sessions forks c.requires.all a b s first second c.in_ok-join.ensures.start c.in_ok-join.ensures.read
    c.in_ok-join.ensures.edges in
    all-reduced h (IsListed list (length list))
    (λ w x v wrote. let place = c.requires.writers w x v wrote in (place.0, slice_get_within list place.0 w.session place.1, place.1))
    s.has_overwritten_start s.has_overwritten_read s.edges.items whole

pub returns-clause-below : goal.returns-clause-below
returns-clause-below c =
    let h = c.args.index.now.history in
    let list : List ℕ = c.args.sessions.now in
    let sessions : List ℕ = c.args.share.now.sessions.items in
    let forks : List ℕ = c.args.share.now.forks.items in
    let a = c.in_ok-swept.swept in
    let b = c.in_ok-of_forks.of_forks in
    let s = c.join.new.whole in
    let first : IsSweptOver h (IsListed sessions (length sessions)) a =
    subst (λ (xs : List ℕ). IsSweptOver h (IsListed xs (length xs)) a) c.deref.ensures.value c.in_ok-swept.ensures in
    let second : IsSweptOver h (IsForkBelow h forks (length forks)) b =
    subst (λ (xs : List ℕ). IsSweptOver h (IsForkBelow h xs (length xs)) b) c.deref-2.ensures.value c.in_ok-of_forks.ensures in
    let whole = both-kinds h list sessions forks c.requires.all a b s first second c.in_ok-join.ensures.start c.in_ok-join.ensures.read
    c.in_ok-join.ensures.edges in
    all-below h (IsListed list (length list)) s.has_overwritten_start s.has_overwritten_read s.edges.items whole

pub sweep_left_sessions-requires-clause-below : goal.sweep_left_sessions-requires-clause-below
sweep_left_sessions-requires-clause-below c =
    subst (λ (xs : List ℕ). (k t : ℕ) → slice_get xs k ≡ Some t → t < length c.args.index.now.history.1) (sym c.deref.ensures.value)
    c.requires.share.below

pub sweep_left_sessions-requires-clause-found : goal.sweep_left_sessions-requires-clause-found
sweep_left_sessions-requires-clause-found c =
    subst (λ (xs : List ℕ). IsSweptSessions c.args.index.now.history xs c.args.claimed.sessions) (sym c.deref.ensures.value) c.requires.claimed.0

pub sweep_left_forks-requires-clause-only : goal.sweep_left_forks-requires-clause-only
sweep_left_forks-requires-clause-only c =
    subst (λ (xs : List ℕ). AreOnlyWrites c.args.index.now.history xs) (sym c.deref-2.ensures.value) c.requires.share.only

pub sweep_left_forks-requires-clause-found : goal.sweep_left_forks-requires-clause-found
sweep_left_forks-requires-clause-found c =
    subst (λ (xs : List ℕ). IsSweptForks c.args.index.now.history xs c.args.claimed.forks) (sym c.deref-2.ensures.value) c.requires.claimed.1
