use Rattle.std.specs.Prelude.{◌≡◌, ◌⊎◌, ◌↔◌, ◌<◌, ◌+◌, ℕ, List, Some, length, slice_get, slice_index_or}
use Rattle.model_history.specs.History.{number}
use Rattle.judge_columns.specs.Forks.{IsForkAt}
use Rattle.judge_columns.proofs.Shared.{none-at}
use Rattle.std.proofs.Common.{arith, inl, inr, subst, ⊎_elim}
use Rattle.std.proofs.lemmas.Option.{slice_get-get_or}
use Rattle.judge_columns.specs.Shares.{IsShared}
use Rattle.judge_columns.specs.Swept.{IsListed}
use Rattle.judge_columns.proofs.GroupLists.{listed-more}
use Rattle.judge_columns.proofs.shares.share_of.Goals as goal

-- the same of a session more
more : (now old listed next : Type 0) (here : Type 0) → old ↔ listed → now ↔ (old ⊎ here) → next ↔ (listed ⊎ here) → now ↔ next
more now old listed next here was added grown = (
  (λ is. grown.1 (⊎_elim (λ (one : old). inl (was.0 one)) (λ (one : here). inr one) (added.0 is))),
  λ is. added.1 (⊎_elim (λ (one : listed). inl (was.1 one)) (λ (one : here). inr one) (grown.0 is)),
)

pub loop-i-preserved : goal.loop-i-preserved
loop-i-preserved c =
    let h = c.args.index.now.history in
    let list : List ℕ = c.args.sessions.now in
    let i : ℕ = c.loop-i.i in
    let was = c.loop-i.invariant in
    let inside : i < length list = grind arith in
    record {
      share = c.in_ok-add.ensures.share;
      all = λ t. more (IsShared h c.add.new.share t) (IsShared h c.loop-i.share t) (IsListed list i t) (IsListed list (i + 1) t)
          (t ≡ slice_index_or list i 0) (was.all t) (c.in_ok-add.ensures.added t)
          (listed-more list i (slice_index_or list i 0) (slice_get-get_or list i 0 inside) t);
    }

pub returns-clause-all : goal.returns-clause-all
returns-clause-all c =
    let h = c.args.index.now.history in
    let list : List ℕ = c.args.sessions.now in
    let end : c.loop-i.i ≡ length list = grind arith in
    subst (λ (n : ℕ). (t : ℕ) → IsShared h c.loop-i.share t ↔ IsListed list n t) end c.loop-i.invariant.all

pub loop-i-init : goal.loop-i-init
loop-i-init c =
    let h = c.args.index.now.history in
    let sessions : List ℕ = c.new.result.items in
    let forks : List ℕ = c.new-2.result.items in
    let one = none-at sessions c.new.ensures.items in
    let two = none-at forks c.new-2.ensures.items in
    record {
      share = record { below = λ k t at. absurd (one k t at); only = λ k n at. absurd (two k n at) };
      all = λ t. (
        (λ shared. ⊎_elim
            (λ (some : (k : ℕ) × (slice_get sessions k ≡ Some t)). absurd (one some.0 t some.1))
            (λ (fork : (k : ℕ) × IsForkAt h forks k t). absurd (two fork.0 (number h fork.1.0) fork.1.2))
            shared),
        λ listed. absurd (let below = listed.1 in omega arith),
      );
    }

pub returns-clause-share : goal.returns-clause-share
returns-clause-share c = c.loop-i.invariant.share

pub add-requires-clause-session : goal.add-requires-clause-session
add-requires-clause-session c =
    let list : List ℕ = c.args.sessions.now in
    c.requires.below c.loop-i.i (slice_index_or list c.loop-i.i 0) (slice_get-get_or list c.loop-i.i 0 c.loop-i-test.true)

pub add-requires-clause-share : goal.add-requires-clause-share
add-requires-clause-share c = c.loop-i.invariant.share
