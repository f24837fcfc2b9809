use Rattle.std.proofs.Common.{◌≤◌, length, drop, arith, ap, le_refl, refl, subst, sym, ◌∙◌}
use Rattle.std.proofs.lemmas.Result.{err_from_is_err_and}
use Rattle.json_lines.specs.Steps.{EndsIn, IsFree, TakesSome}
use Rattle.json_lines.specs.LineReaders.{Lining}
use Rattle.json_lines.proofs.FeedingLaws.{bytes_from}
use Rattle.json_lines.proofs.FindingLaws.{finds_held, finds_read}
use Rattle.json_lines.proofs.ReadCallLaws.{finds_as, finds_fault, go_on_none, looks_on}
use Rattle.json_lines.proofs.line_reader.LineReader.next.Goals as goal

pub invariant_of-self : goal.invariant_of-self
invariant_of-self g c =
    let parted = c.self.invariant in
    let at = c.self.inside.at in
    record { room = parted.room; line = le_refl at; before = le_refl at; within = parted.within; few = parted.few }

pub found-requires : goal.found-requires
found-requires g c =
    let rest = bytes_from c.deref.result.now c.self.inside.bytes.items c.self.inside.at c.deref.ensures.value in
    subst (λ l. EndsIn c.self.inside.most l c.in-Some.end) rest c.in-Some.ensures.found

pub read_to_end-requires : goal.read_to_end-requires
read_to_end-requires g c =
    let rest = bytes_from c.deref.result.now c.self.inside.bytes.items c.self.inside.at c.deref.ensures.value in
    let same = rest ∙ sym c.drop_front.ensures in
    record {
      room = let size = ap length c.as_mut_slice.ensures.value in let room = c.self.invariant.room in omega arith;
      free = subst IsFree same c.in_default.ensures.free;
      short = subst (λ l. length l ≤ c.self.inside.most) same c.in_default.ensures.short;
    }

pub found-requires-2 : goal.found-requires-2
found-requires-2 g c = c.in_ok-end.ensures.found.ends

pub returns-in_err-end-clause-kept : goal.returns-in_err-end-clause-kept
returns-in_err-end-clause-kept g c =
    let p = err_from_is_err_and c.from_residual.result c.from_residual.ensures.1 in
    let held = c.drop_front.ensures ∙ ap (λ (v : Lining). v.held) c.self.view_is in
    rw p.1 (subst (λ l. TakesSome (g.R.Source.remaining c.args.reader.now) (g.R.Source.remaining c.read_to_end.new.reader) l c.read_to_end.new.bytes.items) held c.in_err-end.ensures.kept)

pub returns-in_err-end-clause-same : goal.returns-in_err-end-clause-same
returns-in_err-end-clause-same g c =
    let p = err_from_is_err_and c.from_residual.result c.from_residual.ensures.1 in
    rw p.1 (refl, ap (λ (v : Lining). v.most) c.self.view_is)

pub returns-in-Some-clause-found : goal.returns-in-Some-clause-found
returns-in-Some-clause-found g c =
    let held = ap (λ (v : Lining). v.held) (sym c.self.view_is) in
    let most = ap (λ (v : Lining). v.most) (sym c.self.view_is) in
    finds_held _ c.args.self.now c.found.new.self c.found.result (drop c.self.inside.at c.self.inside.bytes.items) c.self.inside.most held most c.found.ensures.first
    (c.found.ensures.over _ (c.in-Some.ensures.within _)) c.found.ensures.most

pub returns-in-Some-clause-calls : goal.returns-in-Some-clause-calls
returns-in-Some-clause-calls g c =
    finds_as g.R.Source.called _ c.in-Some.end c.found.result _ _ c.found.ensures.as_end
    (looks_on g.R.Source.called _ c.in-Some.end _ _ c.in-Some.ensures.before (0, omega arith, go_on_none g.R.Source.called _))

pub returns-clause-calls : goal.returns-clause-calls
returns-clause-calls g c =
    finds_as g.R.Source.called _ c.in_ok-end.end c.found-2.result _ _ c.found-2.ensures.as_end c.in_ok-end.ensures.calls

pub returns-in_err-end-clause-calls : goal.returns-in_err-end-clause-calls
returns-in_err-end-clause-calls g c =
    let p = err_from_is_err_and c.from_residual.result c.from_residual.ensures.1 in
    rw (p.1, p.2) (finds_fault g.R.Source.called _ c.in_err-end.field-0.0 _ _ c.in_err-end.ensures.calls)

pub returns-clause-found : goal.returns-clause-found
returns-clause-found g c =
    let read = c.in_ok-end.ensures.found in
    let held = ap (λ (v : Lining). v.held) (sym c.self.view_is) in
    let most = ap (λ (v : Lining). v.most) (sym c.self.view_is) in
    finds_read _ _ c.args.self.now c.found-2.new.self c.found-2.result c.self.inside.most c.drop_front.new.bytes.items c.read_to_end.new.bytes.items c.in_ok-end.end
    (held ∙ sym c.drop_front.ensures) most read c.found-2.ensures.first (c.found-2.ensures.over _ read.over) c.found-2.ensures.most

pub returns-in-Some-clause-few : goal.returns-in-Some-clause-few
returns-in-Some-clause-few g c = c.found.ensures.few

pub returns-clause-few : goal.returns-clause-few
returns-clause-few g c = c.found-2.ensures.few

pub returns-in_err-end-clause-few : goal.returns-in_err-end-clause-few
returns-in_err-end-clause-few g c = omega (arith, c.in_err-end.ensures.few, c.self.invariant.room)
