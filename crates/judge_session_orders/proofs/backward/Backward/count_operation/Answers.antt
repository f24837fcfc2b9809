use Rattle.std.specs.Prelude.{◌≡◌, ◌+◌, ℕ, slice_index_or}
use Rattle.std.proofs.Common.{arith, refl, sym, ap, subst, ◌∙◌}
use Rattle.std.proofs.lemmas.List.{get_or_read}
use Rattle.model_history.specs.declared.op_id.OpId.{OpId}
use Rattle.model_history.specs.History.{number}
use Rattle.judge_memory.proofs.Numbers.{number-found}
use Rattle.judge_session_orders.specs.OnItsWay.{HasCounts}
use Rattle.judge_session_orders.specs.Tables.{left_under, variable}
use Rattle.judge_session_orders.proofs.Counts.{counts-same}
use Rattle.judge_session_orders.proofs.CountSteps.{counted-write, counted-read, counted-other, under-same}
use Rattle.judge_session_orders.proofs.PartLaws.{other-unsourced}
use Rattle.judge_session_orders.proofs.backward.Backward.count_operation.Goals as goal

pub returns-then-operation-index-clause-counted : goal.returns-then-operation-index-clause-counted
returns-then-operation-index-clause-counted c counts =
    let h = c.args.index.now.history in
    let variables = c.args.index.now.variables in
    let ends = c.args.self.now.ends.items in
    let found = number-found h c.args.operation c.requires.below in
    let a : OpId = found.0 in
    let at : number h a ≡ c.args.operation = found.2 in
    let session = c.session_of.ensures.session a found.1 at in
    let inside = c.session_of.ensures.below in
    let size = c.requires.sizes.ends in
    let read = get_or_read ends _ _ (omega arith) c.index.ensures 0 in
    let here = ap (λ (s : ℕ). slice_index_or ends s 0) session in
    let same : (t : ℕ) → left_under h ends c.args.operation t ≡ left_under h ends (c.args.operation + 1) t =
    subst (λ (n : ℕ). (t : ℕ) → left_under h ends n t ≡ left_under h ends (n + 1) t) at
    (under-same h ends c.requires.within a found.1 (omega arith)) in
    counts-same h variables (left_under h ends c.args.operation) (λ n. slice_index_or c.args.self.now.readers.items n 0)
    (λ x. slice_index_or c.args.self.now.writes.items x 0) (left_under h ends (c.args.operation + 1)) same counts

pub returns-in-Write-clause-counted : goal.returns-in-Write-clause-counted
returns-in-Write-clause-counted c =
    let h = c.args.index.now.history in
    let variables = c.args.index.now.variables in
    let ends = c.args.self.now.ends.items in
    let found = number-found h c.args.operation c.requires.below in
    let a : OpId = found.0 in
    let at : number h a ≡ c.args.operation = found.2 in
    let session = c.session_of.ensures.session a found.1 at in
    let inside = c.session_of.ensures.below in
    let size = c.requires.sizes.ends in
    let read = get_or_read ends _ _ (omega arith) c.index.ensures 0 in
    let here = ap (λ (s : ℕ). slice_index_or ends s 0) session in
    let wrote = c.in-Write.ensures.part a found.1 at in
    let place : c.variable.result ≡ variable h variables a = c.variable.ensures.variable ∙ ap (λ (n : ℕ). slice_index_or variables n 0)
    (sym at) in
    subst (λ (n : ℕ). HasCounts c.args.index.now (left_under h ends n) c.args.self.now
    → HasCounts c.args.index.now (left_under h ends (n + 1)) (record {
      own = c.args.self.now.own;
      ends = c.args.self.now.ends;
      readers =
          c.args.self.now.readers;
      writes = c.add_one.new.numbers;
      locks = c.args.self.now.locks;
      start = c.args.self.now.start;
    })) at
    (counted-write h ends c.requires.within a found.1 variables (omega arith)
    (λ n. slice_index_or c.args.self.now.readers.items n 0) (λ n. slice_index_or c.args.self.now.readers.items n 0)
    (λ x. slice_index_or c.args.self.now.writes.items x 0) (λ x. slice_index_or c.add_one.new.numbers.items x 0)
    wrote.0 wrote.1 wrote.2 (λ n. refl)
    (subst (λ (x : ℕ). slice_index_or c.add_one.new.numbers.items x 0 ≡ slice_index_or c.args.self.now.writes.items x 0 + 1) place
    c.add_one.ensures.more)
    (λ y apart. c.add_one.ensures.others y (λ same. apart (same ∙ place))))

pub returns-in-SourcedRead-clause-counted : goal.returns-in-SourcedRead-clause-counted
returns-in-SourcedRead-clause-counted c =
    let h = c.args.index.now.history in
    let variables = c.args.index.now.variables in
    let ends = c.args.self.now.ends.items in
    let found = number-found h c.args.operation c.requires.below in
    let a : OpId = found.0 in
    let at : number h a ≡ c.args.operation = found.2 in
    let session = c.session_of.ensures.session a found.1 at in
    let inside = c.session_of.ensures.below in
    let size = c.requires.sizes.ends in
    let read = get_or_read ends _ _ (omega arith) c.index.ensures 0 in
    let here = ap (λ (s : ℕ). slice_index_or ends s 0) session in
    let from = c.in-SourcedRead.ensures.part a found.1 at in
    let added = c.add_one-in-SourcedRead.new.numbers in
    subst (λ (n : ℕ). HasCounts c.args.index.now (left_under h ends n) c.args.self.now
    → HasCounts c.args.index.now (left_under h ends (n + 1)) (record {
      own = c.args.self.now.own;
      ends = c.args.self.now.ends;
      readers =
          added;
      writes = c.args.self.now.writes;
      locks = c.args.self.now.locks;
      start = c.args.self.now.start;
    })) at
    (counted-read h ends c.requires.within a found.1 variables (omega arith)
    (λ n. slice_index_or c.args.self.now.readers.items n 0) (λ n. slice_index_or added.items n 0)
    (λ x. slice_index_or c.args.self.now.writes.items x 0) (λ x. slice_index_or c.args.self.now.writes.items x 0)
    c.requires.distinct from.0 from.1
    (subst (λ (n : ℕ). slice_index_or added.items n 0 ≡ slice_index_or c.args.self.now.readers.items n 0 + 1) (sym from.2)
    c.add_one-in-SourcedRead.ensures.more)
    (λ n apart. c.add_one-in-SourcedRead.ensures.others n (λ same. apart (same ∙ sym from.2))) (λ x. refl))

pub returns-in-InitialRead : goal.returns-in-InitialRead
returns-in-InitialRead c =
    let h = c.args.index.now.history in
    let variables = c.args.index.now.variables in
    let ends = c.args.self.now.ends.items in
    let found = number-found h c.args.operation c.requires.below in
    let a : OpId = found.0 in
    let at : number h a ≡ c.args.operation = found.2 in
    let session = c.session_of.ensures.session a found.1 at in
    let inside = c.session_of.ensures.below in
    let size = c.requires.sizes.ends in
    let read = get_or_read ends _ _ (omega arith) c.index.ensures 0 in
    let here = ap (λ (s : ℕ). slice_index_or ends s 0) session in
    let none = other-unsourced h a c.part.result c.in-InitialRead.is (c.part.ensures.part a found.1 at) in
    record {
      sizes = c.requires.sizes;
      ends = refl;
      locks = refl;
      own = refl;
      most = record {
        readers = λ n. (let up_to = c.requires.most.readers n in omega arith);
        writes = λ x. (let up_to = c.requires.most.writes x in omega arith);
      };
      counted = subst (λ (n : ℕ). HasCounts c.args.index.now (left_under h ends n) c.args.self.now
          → HasCounts c.args.index.now (left_under h ends (n + 1)) c.args.self.now) at
          (counted-other h ends c.requires.within a found.1 variables (omega arith)
          (λ n. slice_index_or c.args.self.now.readers.items n 0) (λ n. slice_index_or c.args.self.now.readers.items n 0)
          (λ x. slice_index_or c.args.self.now.writes.items x 0) (λ x. slice_index_or c.args.self.now.writes.items x 0)
          none.0 none.1 (λ n. refl) (λ x. refl));
    }
