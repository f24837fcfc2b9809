use Rattle.std.specs.Prelude.{◌≡◌, ◌≢◌, ◌+◌, ◌-◌, ℕ, slice_index_or}
use Rattle.std.proofs.Common.{arith, refl, sym, ap, subst, ◌∙◌}
use Rattle.std.proofs.lemmas.List.{get_or_read}
use Rattle.model_history.specs.History.{number}
use Rattle.model_history.specs.declared.op_id.OpId.{OpId}
use Rattle.judge_session_orders.specs.declared.backward.Backward.{Backward}
use Rattle.judge_session_orders.specs.Backward.{last_left}
use Rattle.judge_session_orders.specs.OnItsWay.{left_of}
use Rattle.judge_session_orders.specs.Tables.{variable}
use Rattle.judge_session_orders.proofs.PartLaws.{other-unsourced}
use Rattle.judge_session_orders.proofs.TakenOut.{last-number, last-of_history, last-read, last-written, taken-other, taken-read, taken-write}
use Rattle.judge_session_orders.proofs.backward.Backward.take_last.Goals as goal

pub take_one-requires-in-Write-clause-some : goal.take_one-requires-in-Write-clause-some
take_one-requires-in-Write-clause-some c =
    let index = c.args.index.now in
    let h = index.history in
    let b = c.args.self.now in
    let r = c.requires in
    let p : OpId = last_left (left_of h b) c.args.session in
    let size = r.sizes.ends in
    let exists = r.exists in
    let read = get_or_read b.ends.items c.args.session c.index.result.now (omega arith) c.index.ensures 0 in
    let at : number h p ≡ c.index.result.now - 1 =
    last-number index b c.args.session r.exists r.sizes r.counts r.some r.within ∙ ap (λ (n : ℕ). n - 1) (sym read) in
    let part = c.in-Write.ensures.part p (last-of_history index b c.args.session r.exists r.sizes r.counts r.some r.within) at in
    let place : c.variable.result ≡ variable h index.variables p =
    c.variable.ensures.variable ∙ ap (λ (n : ℕ). slice_index_or index.variables n 0) (sym at) in
    subst (λ (x : ℕ). slice_index_or b.writes.items x 0 ≢ 0) (sym place)
    (last-written index b c.args.session r.exists r.sizes r.counts r.some r.within part.0 part.1 part.2)

pub take_one-requires-in-SourcedRead-clause-some : goal.take_one-requires-in-SourcedRead-clause-some
take_one-requires-in-SourcedRead-clause-some c =
    let index = c.args.index.now in
    let h = index.history in
    let b = c.args.self.now in
    let r = c.requires in
    let p : OpId = last_left (left_of h b) c.args.session in
    let size = r.sizes.ends in
    let exists = r.exists in
    let read = get_or_read b.ends.items c.args.session c.index.result.now (omega arith) c.index.ensures 0 in
    let at : number h p ≡ c.index.result.now - 1 =
    last-number index b c.args.session r.exists r.sizes r.counts r.some r.within ∙ ap (λ (n : ℕ). n - 1) (sym read) in
    let part = c.in-SourcedRead.ensures.part p (last-of_history index b c.args.session r.exists r.sizes r.counts r.some r.within) at in
    subst (λ (n : ℕ). slice_index_or b.readers.items n 0 ≢ 0) part.2
    (last-read index b c.args.session r.exists r.sizes r.counts r.some r.within part.0 part.1)

pub returns-in-Write-clause-counts : goal.returns-in-Write-clause-counts
returns-in-Write-clause-counts c =
    let index = c.args.index.now in
    let h = index.history in
    let b = c.args.self.now in
    let r = c.requires in
    let p : OpId = last_left (left_of h b) c.args.session in
    let size = r.sizes.ends in
    let exists = r.exists in
    let read = get_or_read b.ends.items c.args.session c.index.result.now (omega arith) c.index.ensures 0 in
    let at : number h p ≡ c.index.result.now - 1 =
    last-number index b c.args.session r.exists r.sizes r.counts r.some r.within ∙ ap (λ (n : ℕ). n - 1) (sym read) in
    let part = c.in-Write.ensures.part p (last-of_history index b c.args.session r.exists r.sizes r.counts r.some r.within) at in
    let place : c.variable.result ≡ variable h index.variables p =
    c.variable.ensures.variable ∙ ap (λ (n : ℕ). slice_index_or index.variables n 0) (sym at) in
    let d : Backward = record {
      own = b.own;
      ends = c.take_one.new.numbers;
      readers = b.readers;
      writes = c.take_one-in-Write.new.numbers;
      locks = b.locks;
      start = b.start;
    } in
    taken-write index b c.args.session r.exists r.sizes r.counts r.some r.within d c.take_one.ensures.less c.take_one.ensures.others
    part.0 part.1 part.2 (λ n. refl)
    (subst (λ (x : ℕ). slice_index_or b.writes.items x 0 ≡ slice_index_or c.take_one-in-Write.new.numbers.items x 0 + 1) place
    c.take_one-in-Write.ensures.less)
    (λ y apart. sym (c.take_one-in-Write.ensures.others y (λ same. apart (same ∙ place))))

pub returns-in-SourcedRead-clause-counts : goal.returns-in-SourcedRead-clause-counts
returns-in-SourcedRead-clause-counts c =
    let index = c.args.index.now in
    let h = index.history in
    let b = c.args.self.now in
    let r = c.requires in
    let p : OpId = last_left (left_of h b) c.args.session in
    let size = r.sizes.ends in
    let exists = r.exists in
    let read = get_or_read b.ends.items c.args.session c.index.result.now (omega arith) c.index.ensures 0 in
    let at : number h p ≡ c.index.result.now - 1 =
    last-number index b c.args.session r.exists r.sizes r.counts r.some r.within ∙ ap (λ (n : ℕ). n - 1) (sym read) in
    let part = c.in-SourcedRead.ensures.part p (last-of_history index b c.args.session r.exists r.sizes r.counts r.some r.within) at in
    let d : Backward = record {
      own = b.own;
      ends = c.take_one.new.numbers;
      readers = c.take_one-in-SourcedRead.new.numbers;
      writes = b.writes;
      locks = b.locks;
      start = b.start;
    } in
    taken-read index b c.args.session r.exists r.sizes r.counts r.some r.within d c.take_one.ensures.less c.take_one.ensures.others
    r.distinct part.0 part.1
    (subst (λ (n : ℕ). slice_index_or b.readers.items n 0 ≡ slice_index_or c.take_one-in-SourcedRead.new.numbers.items n 0 + 1) (sym part.2)
    c.take_one-in-SourcedRead.ensures.less)
    (λ n apart. sym (c.take_one-in-SourcedRead.ensures.others n (λ same. apart (same ∙ sym part.2)))) (λ x. refl)

pub returns-in-InitialRead : goal.returns-in-InitialRead
returns-in-InitialRead c =
    let index = c.args.index.now in
    let h = index.history in
    let b = c.args.self.now in
    let r = c.requires in
    let p : OpId = last_left (left_of h b) c.args.session in
    let size = r.sizes.ends in
    let exists = r.exists in
    let read = get_or_read b.ends.items c.args.session c.index.result.now (omega arith) c.index.ensures 0 in
    let at : number h p ≡ c.index.result.now - 1 =
    last-number index b c.args.session r.exists r.sizes r.counts r.some r.within ∙ ap (λ (n : ℕ). n - 1) (sym read) in
    let none = other-unsourced h p c.part.result c.in-InitialRead.is
    (c.part.ensures.part p (last-of_history index b c.args.session r.exists r.sizes r.counts r.some r.within) at) in
    let d : Backward = record {
      own = b.own;
      ends = c.take_one.new.numbers;
      readers = b.readers;
      writes = b.writes;
      locks = b.locks;
      start = b.start;
    } in
    record {
      sizes = record {
        ends = c.take_one.ensures.size ∙ r.sizes.ends;
        readers = r.sizes.readers;
        writes = r.sizes.writes;
        locks = r.sizes.locks;
      };
      counts = taken-other index b c.args.session r.exists r.sizes r.counts r.some r.within d c.take_one.ensures.less
          c.take_one.ensures.others none.0 none.1 (λ n. refl) (λ x. refl);
      less = c.take_one.ensures.less;
      others = c.take_one.ensures.others;
      locks = refl;
      own = refl;
      start = refl;
    }
