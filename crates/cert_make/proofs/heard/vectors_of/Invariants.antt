use Rattle.std.specs.Prelude.{◌≡◌}
use Rattle.order_causal.specs.Steps.Gathered.{AreListsUpTo}
use Rattle.cert_make.specs.Advice.{IsToldVector, heard_before}
use Rattle.cert_make.proofs.heard.vectors_of.Given as goal

-- the operations so far have their vectors, and what is known is that of the last of them
abbrev pub invariant-loop-index : goal.invariant-loop-index
invariant-loop-index g l = record {
  so_far : AreListsUpTo (IsToldVector l.h l.advice) l.session l.index l.vectors;
  known : l.heard ≡ heard_before l.reported l.session l.index;
}
