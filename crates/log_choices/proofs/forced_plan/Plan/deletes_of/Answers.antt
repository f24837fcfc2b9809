use Rattle.std.proofs.Common.{◌≡◌, ◌≤◌, ◌-◌, true, false, List, take, drop, length, subst, sym, rules, arith}
use Rattle.std.specs.Prelude.{Contains}
use Rattle.std.specs.List.Sorted.{IsNonDecreasingBy, IsPartitionPoint}
use Rattle.std.proofs.lemmas.List.Sorted.{IsNonDecreasingBy-from_sort, IsPartitionedBy-ltb, IsPartitionedBy-leb, IsPartitionPoint-from_clause}
use Rattle.log_choices.specs.declared.forced_kept.Delete.{Delete}
use Rattle.log_choices.proofs.ForcedDeletes.{within-from, within-to}
use Rattle.log_choices.proofs.forced_plan.Plan.deletes_of.Goals as goal
use lib.Dec.{ltb, leb}

pub returns-then-from-to : goal.returns-then-from-to
returns-then-from-to c =
    let xs = c.args.self.now.deletes.items in
    let x = c.args.key in
    let sorted = IsNonDecreasingBy-from_sort (λ (d : Delete). d.key) xs c.requires in
    let first = subst (IsNonDecreasingBy (λ (d : Delete). d.key)) (sym c.deref.ensures.value) sorted in
    let second = subst (IsNonDecreasingBy (λ (d : Delete). d.key)) (sym c.deref-2.ensures.value) sorted in
    let low = subst
    (λ (l : List Delete). IsPartitionPoint (λ (d : Delete). ltb d.key x ≡ true) (λ (d : Delete). ltb d.key x ≡ false) l c.partition_point-from.result)
    c.deref.ensures.value
    (IsPartitionPoint-from_clause (λ (d : Delete). ltb d.key x) c.deref.result.now c.partition_point-from.result c.partition_point-from.ensures.partitioned
    (IsPartitionedBy-ltb (λ (d : Delete). d.key) c.deref.result.now x first) (λ a r f k. search rules)) in
    let high = subst
    (λ (l : List Delete). IsPartitionPoint (λ (d : Delete). leb d.key x ≡ true) (λ (d : Delete). leb d.key x ≡ false) l c.partition_point-to.result)
    c.deref-2.ensures.value
    (IsPartitionPoint-from_clause (λ (d : Delete). leb d.key x) c.deref-2.result.now c.partition_point-to.result c.partition_point-to.ensures.partitioned
    (IsPartitionedBy-leb (λ (d : Delete). d.key) c.deref-2.result.now x second) (λ a r f k. search rules)) in
    let inside = subst (λ (l : List Delete). c.partition_point-to.result ≤ length l) c.deref-2.ensures.value c.partition_point-to.ensures.bound in
    let whole = c.deref-then-from-to.ensures.value in
    λ d. (
      λ there. within-from xs x c.partition_point-from.result c.partition_point-to.result low high inside c.if-from-to.true d
          (subst (λ (l : List Delete). Contains (take (c.partition_point-to.result - c.partition_point-from.result) (drop c.partition_point-from.result l)) d) whole there),
      λ found. subst (λ (l : List Delete). Contains (take (c.partition_point-to.result - c.partition_point-from.result) (drop c.partition_point-from.result l)) d) (sym whole)
          (within-to xs x c.partition_point-from.result c.partition_point-to.result low high inside d found).1,
    )

pub returns-else-from-to : goal.returns-else-from-to
returns-else-from-to c =
    let xs = c.args.self.now.deletes.items in
    let x = c.args.key in
    let sorted = IsNonDecreasingBy-from_sort (λ (d : Delete). d.key) xs c.requires in
    let first = subst (IsNonDecreasingBy (λ (d : Delete). d.key)) (sym c.deref.ensures.value) sorted in
    let second = subst (IsNonDecreasingBy (λ (d : Delete). d.key)) (sym c.deref-2.ensures.value) sorted in
    let low = subst
    (λ (l : List Delete). IsPartitionPoint (λ (d : Delete). ltb d.key x ≡ true) (λ (d : Delete). ltb d.key x ≡ false) l c.partition_point-from.result)
    c.deref.ensures.value
    (IsPartitionPoint-from_clause (λ (d : Delete). ltb d.key x) c.deref.result.now c.partition_point-from.result c.partition_point-from.ensures.partitioned
    (IsPartitionedBy-ltb (λ (d : Delete). d.key) c.deref.result.now x first) (λ a r f k. search rules)) in
    let high = subst
    (λ (l : List Delete). IsPartitionPoint (λ (d : Delete). leb d.key x ≡ true) (λ (d : Delete). leb d.key x ≡ false) l c.partition_point-to.result)
    c.deref-2.ensures.value
    (IsPartitionPoint-from_clause (λ (d : Delete). leb d.key x) c.deref-2.result.now c.partition_point-to.result c.partition_point-to.ensures.partitioned
    (IsPartitionedBy-leb (λ (d : Delete). d.key) c.deref-2.result.now x second) (λ a r f k. search rules)) in
    let inside = subst (λ (l : List Delete). c.partition_point-to.result ≤ length l) c.deref-2.ensures.value c.partition_point-to.ensures.bound in
    λ d. (
      λ (i, below, is). absurd (omega arith),
      λ found. let both = within-to xs x c.partition_point-from.result c.partition_point-to.result low high inside d found in
          let ordered = both.0 in let apart = c.if-from-to.false in absurd (omega arith),
    )
