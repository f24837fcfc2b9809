use Rattle.std.proofs.Common.{◌≡◌, ◌++◌, ◌<◌, ◌≤◌, ◌+◌, arith, length, rules, subst, sym, take, [], append-nil}
use Rattle.std.proofs.lemmas.List.{length-take-le}
use Rattle.std.proofs.lemmas.Result.{err_from_is_err_and}
use Rattle.memchr.specs.Find.{IsFirstByte, is_byte}
use Rattle.json_lines.specs.Steps.{Takes}
use Rattle.json_lines.specs.declared.feeding.LineEnd.TheVariants.{Feed, TooLong}
use Rattle.json_lines.proofs.FeedingLaws.{feed_after, few_after, free_after, free_long}
use Rattle.json_lines.proofs.ReadCallLaws.{ends_once, fails_once, go_on_more, go_on_none, go_on_once, looks_on}
use Rattle.json_lines.proofs.TakingLaws.{takes-kept, takes-lost, takes-more, takes-none, takes-some}
use Rattle.json_lines.proofs.feeding.read_to_end.Goals as goal

pub loop-init : goal.loop-init
loop-init g c = record {
  takes = takes-none _ _;
  free = c.requires.free;
  short = c.requires.short;
  calls = go_on_none g.R.Source.called _;
}

pub returns-in_err-count-clause-calls : goal.returns-in_err-count-clause-calls
returns-in_err-count-clause-calls g c =
    let p = err_from_is_err_and c.from_residual.result c.from_residual.ensures.1 in
    rw (p.1, p.2, c.in_err-count.ensures.error) (fails_once g.R.Source.called c.loop.counter _ _ _ _ c.in_err-count.field-0.0 c.loop-test.true c.loop.invariant.calls c.in_err-count.ensures.call)

pub returns-in_default-clause-calls : goal.returns-in_default-clause-calls
returns-in_default-clause-calls g c =
    let call = rw c.in_default.is at c.in_ok-count.ensures.call in
    ends_once g.R.Source.called c.loop.counter _ _ _ _ c.loop-test.true c.loop.invariant.calls call

pub returns-in_err-extend_from_slice-clause-calls : goal.returns-in_err-extend_from_slice-clause-calls
returns-in_err-extend_from_slice-clause-calls g c =
    let p = err_from_is_err_and c.from_residual-in_err-extend_from_slice.result c.from_residual-in_err-extend_from_slice.ensures.1 in
    let call = rw c.in-Some.is at c.in_ok-count.ensures.call in
    rw (p.1, p.2) (go_on_once g.R.Source.called c.loop.counter _ c.in-Some.count _ _ _ c.loop-test.true c.loop.invariant.calls call)

pub returns-in-Some-memchr-clause-calls : goal.returns-in-Some-memchr-clause-calls
returns-in-Some-memchr-clause-calls g c =
    let call = rw c.in-Some.is at c.in_ok-count.ensures.call in
    looks_on g.R.Source.called _ c.end_at.result _ _ c.end_at.ensures.before
    (go_on_once g.R.Source.called c.loop.counter _ c.in-Some.count _ _ _ c.loop-test.true c.loop.invariant.calls call)

pub returns-then-len-most-clause-calls : goal.returns-then-len-most-clause-calls
returns-then-len-most-clause-calls g c =
    let call = rw c.in-Some.is at c.in_ok-count.ensures.call in
    go_on_once g.R.Source.called c.loop.counter _ c.in-Some.count _ _ _ c.loop-test.true c.loop.invariant.calls call

pub returns-in-Some-memchr-clause-found : goal.returns-in-Some-memchr-clause-found
returns-in-Some-memchr-clause-found g c =
    let old = c.loop.bytes.items in
    let more = take c.in-Some.count c.read_once.new.chunk in
    let items : c.extend_from_slice.new.self.items ≡ old ++ more = c.in_ok-extend_from_slice.ensures.items in
    let given = rw c.in-Some.is at c.in_ok-count.ensures.given in
    let found = subst (λ r. IsFirstByte (is_byte 10) more r) c.in-Some-memchr.is c.memchr.ensures in
    let len : c.len-before.result ≡ length old = search rules in
    let k = c.in-Some-memchr.index in
    let near : length old + k ≤ c.args.most → c.end_at.result ≡ Feed (length old + k) = rw len at c.end_at.ensures.feed in
    let late : c.args.most < length old + k → c.end_at.result ≡ TooLong = rw len at c.end_at.ensures.long in
    let step : Takes (g.R.Source.remaining c.loop.reader) (g.R.Source.remaining c.read_once.new.reader) old c.extend_from_slice.new.self.items = record { taken = more; consumed = given.1; held = items } in
    record {
      takes = takes-more _ _ _ _ _ _ c.loop.invariant.takes step;
      ends = feed_after c.args.most old more c.extend_from_slice.new.self.items items c.loop.invariant.free k found c.end_at.result near late;
      over = c.end_at.ensures.within _;
    }

pub returns-then-len-most-clause-found : goal.returns-then-len-most-clause-found
returns-then-len-most-clause-found g c =
    let old = c.loop.bytes.items in
    let more = take c.in-Some.count c.read_once.new.chunk in
    let items : c.extend_from_slice.new.self.items ≡ old ++ more = c.in_ok-extend_from_slice.ensures.items in
    let given = rw c.in-Some.is at c.in_ok-count.ensures.given in
    let none = subst (λ r. IsFirstByte (is_byte 10) more r) c.in_default-memchr.is c.memchr.ensures in
    let long : c.args.most < length c.extend_from_slice.new.self.items = search rules in
    let step : Takes (g.R.Source.remaining c.loop.reader) (g.R.Source.remaining c.read_once.new.reader) old c.extend_from_slice.new.self.items = record { taken = more; consumed = given.1; held = items } in
    record {
      takes = takes-more _ _ _ _ _ _ c.loop.invariant.takes step;
      ends = free_long c.args.most c.extend_from_slice.new.self.items (free_after c.args.most old more _ items c.loop.invariant.free none) long;
      over = tt;
    }

pub loop-preserved : goal.loop-preserved
loop-preserved g c =
    let old = c.loop.bytes.items in
    let more = take c.in-Some.count c.read_once.new.chunk in
    let items : c.extend_from_slice.new.self.items ≡ old ++ more = c.in_ok-extend_from_slice.ensures.items in
    let given = rw c.in-Some.is at c.in_ok-count.ensures.given in
    let none = subst (λ r. IsFirstByte (is_byte 10) more r) c.in_default-memchr.is c.memchr.ensures in
    let step : Takes (g.R.Source.remaining c.loop.reader) (g.R.Source.remaining c.read_once.new.reader) old c.extend_from_slice.new.self.items = record { taken = more; consumed = given.1; held = items } in
    record {
      takes = takes-more _ _ _ _ _ _ c.loop.invariant.takes step;
      free = free_after c.args.most old more _ items c.loop.invariant.free none;
      short = search rules;
      calls = let call = rw c.in-Some.is at c.in_ok-count.ensures.call in go_on_more g.R.Source.called c.loop.counter _ _ _ call.0 c.loop.invariant.calls call.1 call.2;
    }

pub returns-in_default-clause-found : goal.returns-in_default-clause-found
returns-in_default-clause-found g c =
    let given = rw c.in_default.is at c.in_ok-count.ensures.given in
    let step : Takes (g.R.Source.remaining c.loop.reader) (g.R.Source.remaining c.read_once.new.reader) c.loop.bytes.items c.loop.bytes.items = record { taken = []; consumed = given.0; held = sym (append-nil c.loop.bytes.items) } in
    record {
      takes = takes-more _ _ _ _ _ _ c.loop.invariant.takes step;
      ends = (c.loop.invariant.free, c.loop.invariant.short);
      over = given.1;
    }

pub returns-in_default-clause-few : goal.returns-in_default-clause-few
returns-in_default-clause-few g c = let short = c.loop.invariant.short in omega arith

pub returns-clause-few : goal.returns-clause-few
returns-clause-few g c = let short = c.loop.invariant.short in omega arith

pub returns-in-Some-memchr-clause-few : goal.returns-in-Some-memchr-clause-few
returns-in-Some-memchr-clause-few g c =
    let given = rw c.in-Some.is at c.in_ok-count.ensures.given in
    let more = take c.in-Some.count c.read_once.new.chunk in
    let size : length more ≡ c.in-Some.count = length-take-le c.in-Some.count c.read_once.new.chunk given.0 in
    let chunk = c.read_once.auto.chunk in
    let first = c.loop.auto.chunk in
    few_after c.args.most (length c.args.chunk.now) c.loop.bytes.items more c.extend_from_slice.new.self.items
    c.in_ok-extend_from_slice.ensures.items c.loop.invariant.short (let many = given.0 in omega arith)

pub returns-then-len-most-clause-few : goal.returns-then-len-most-clause-few
returns-then-len-most-clause-few g c =
    let given = rw c.in-Some.is at c.in_ok-count.ensures.given in
    let more = take c.in-Some.count c.read_once.new.chunk in
    let size : length more ≡ c.in-Some.count = length-take-le c.in-Some.count c.read_once.new.chunk given.0 in
    let chunk = c.read_once.auto.chunk in
    let first = c.loop.auto.chunk in
    few_after c.args.most (length c.args.chunk.now) c.loop.bytes.items more c.extend_from_slice.new.self.items
    c.in_ok-extend_from_slice.ensures.items c.loop.invariant.short (let many = given.0 in omega arith)

pub returns-in_err-count-clause-kept : goal.returns-in_err-count-clause-kept
returns-in_err-count-clause-kept g c =
    let p = err_from_is_err_and c.from_residual.result c.from_residual.ensures.1 in
    rw p.1 (takes-kept _ _ _ _ _ c.loop.invariant.takes c.in_err-count.ensures.kept)

pub returns-clause-kept : goal.returns-clause-kept
returns-clause-kept g c = takes-some _ _ _ _ c.loop.invariant.takes

pub returns-in_err-extend_from_slice-clause-kept : goal.returns-in_err-extend_from_slice-clause-kept
returns-in_err-extend_from_slice-clause-kept g c =
    let p = err_from_is_err_and c.from_residual-in_err-extend_from_slice.result c.from_residual-in_err-extend_from_slice.ensures.1 in
    let same : c.extend_from_slice.new.self.items ≡ c.loop.bytes.items = search rules in
    let given = rw c.in-Some.is at c.in_ok-count.ensures.given in
    rw (p.1, same) (takes-lost _ _ _ _ _ (take c.in-Some.count c.read_once.new.chunk) c.loop.invariant.takes given.1)
