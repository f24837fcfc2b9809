use Rattle.std.specs.Prelude.{◌≡◌, ◌↔◌, ◌<◌, ℕ, List, Some, length, slice_get}
use Rattle.std.proofs.Common.{sym, ◌∙◌, subst}
use Rattle.judge_columns.specs.Parts.{HasWriters}
use Rattle.judge_columns.specs.Shares.{IsShared}
use Rattle.judge_columns.specs.Swept.{IsListed}
use Rattle.judge_columns.proofs.parts.sweep.Goals as goal

pub sweep_left-requires-clause-all : goal.sweep_left-requires-clause-all
sweep_left-requires-clause-all c =
    subst (λ (xs : List ℕ). (t : ℕ) → IsShared c.args.index.now.history c.in_ok-share.share t ↔ IsListed xs (length xs) t)
    (c.deref.ensures.value ∙ sym c.deref-2.ensures.value) c.in_ok-share.ensures.all

pub sweep_left-requires-clause-claimed : goal.sweep_left-requires-clause-claimed
sweep_left-requires-clause-claimed c = c.nothing_claimed-none.ensures c.args.index.now.history c.in_ok-share.share

pub share_of-requires : goal.share_of-requires
share_of-requires c = record {
  below = subst (λ (xs : List ℕ). (k t : ℕ) → slice_get xs k ≡ Some t → t < length c.args.index.now.history.1) (sym c.deref.ensures.value)
      c.in_ok-sessions.ensures.below;
}

pub sweep_left-requires-clause-writers : goal.sweep_left-requires-clause-writers
sweep_left-requires-clause-writers c =
    subst (λ (xs : List ℕ). HasWriters c.args.index.now.history xs) (sym c.deref-2.ensures.value) c.in_ok-sessions.ensures.each

pub sweep_left-requires-clause-share : goal.sweep_left-requires-clause-share
sweep_left-requires-clause-share c = c.in_ok-share.ensures.share

pub returns-clause-start : goal.returns-clause-start
returns-clause-start c = c.sweep_left.ensures.start

pub returns-clause-read : goal.returns-clause-read
returns-clause-read c = c.sweep_left.ensures.read

pub returns-clause-edges : goal.returns-clause-edges
returns-clause-edges c = c.sweep_left.ensures.edges

pub returns-clause-below : goal.returns-clause-below
returns-clause-below c = c.sweep_left.ensures.below
