use Rattle.std.proofs.Common.{◌≡◌, ◌+◌, ◌∙◌, ℕ, [], append-nil, arith, inl, length, rules, take, ap, refl, sym, subst}
use Rattle.std.proofs.KnownBytes.{Consumes-nil, Consumes-trans}
use Rattle.std.specs.Io.KnownBytes.{Consumes}
use Rattle.std.proofs.lemmas.List.{length-take-le}
use Rattle.memchr.specs.Find.{IsFirstByte, is_byte}
use Rattle.std.proofs.lemmas.Result.{err_from_is_err_and}
use Rattle.json_lines.specs.ReadCalls.{GoOn}
use Rattle.json_lines.specs.Steps.{Gives}
use Rattle.json_lines.specs.declared.read_call.TheConstants.{MAX_READ_CALLS}
use Rattle.json_lines.proofs.ReadCallLaws.{ends_once, fails_once, go_on_more, go_on_none, go_on_once}
use Rattle.json_lines.proofs.TakingLaws.{further_more}
use Rattle.json_line_workers.proofs.CallLaws.{fault_once}
use Rattle.json_line_workers.proofs.NextLaws.{few_held, passed-more, passes-found}
use Rattle.json_line_workers.proofs.reading.pass_over.Goals as goal

pub loop-init : goal.loop-init
loop-init g c = record {
  passes = ([], (λ k d below e. absurd (omega (arith, below))), Consumes-nil (g.R.Source.remaining c.args.reader.now), refl);
  calls = go_on_none g.R.Source.called c.args.reader.now;
  nothing = c.requires.nothing;
  cut = c.requires.cut;
  at = refl;
}

pub take_in-requires : goal.take_in-requires
take_in-requires g c = c.loop.invariant.cut

pub returns-in_default-clause-passed : goal.returns-in_default-clause-passed
returns-in_default-clause-passed g c =
    let before = g.R.Source.remaining c.args.reader.now in
    let between = g.R.Source.remaining c.loop.reader in
    let after = g.R.Source.remaining c.read_once.new.reader in
    let given = subst (λ r. Gives between after c.read_once.new.chunk r) c.in_default.is c.in_ok-count.ensures.given in
    let passes = c.loop.invariant.passes in
    let consumed =
    subst (λ l. Consumes before after l) (append-nil passes.0) (Consumes-trans before between after passes.0 [] passes.2 given.0) in
    ((passes.0, passes.1, consumed, passes.3), given.1, c.loop.invariant.nothing)

pub returns-in_default-clause-few : goal.returns-in_default-clause-few
returns-in_default-clause-few g c = let none = ap length c.loop.invariant.nothing in omega arith

pub returns-clause-few : goal.returns-clause-few
returns-clause-few g c = let none = ap length c.loop.invariant.nothing in omega arith

pub returns-in_err-count-clause-few : goal.returns-in_err-count-clause-few
returns-in_err-count-clause-few g c = let none = ap length c.loop.invariant.nothing in omega arith

pub returns-in_err-passed-clause-few : goal.returns-in_err-passed-clause-few
returns-in_err-passed-clause-few g c = let none = ap length c.loop.invariant.nothing in omega arith

pub returns-in-Some-memchr-clause-passed : goal.returns-in-Some-memchr-clause-passed
returns-in-Some-memchr-clause-passed g c =
    let given = subst (λ r. Gives (g.R.Source.remaining c.loop.reader) (g.R.Source.remaining c.read_once.new.reader) c.read_once.new.chunk r) c.in-Some.is c.in_ok-count.ensures.given in
    let bytes = take c.in-Some.count c.read_once.new.chunk in
    let found = subst (λ r. IsFirstByte (is_byte 10) bytes r) c.in-Some-memchr.is c.memchr.ensures in
    let held = rw c.loop.invariant.nothing at c.in_ok-take_in.ensures.bytes in
    passes-found _ _ _ bytes _ c.in-Some-memchr.at c.loop.passed _ c.loop.invariant.passes given.1 found held c.in_ok-more_than.ensures.sum

pub loop-preserved : goal.loop-preserved
loop-preserved g c =
    let given = subst (λ r. Gives (g.R.Source.remaining c.loop.reader) (g.R.Source.remaining c.read_once.new.reader) c.read_once.new.chunk r) c.in-Some.is c.in_ok-count.ensures.given in
    let bytes = take c.in-Some.count c.read_once.new.chunk in
    let none = subst (λ r. IsFirstByte (is_byte 10) bytes r) c.in_default-memchr.is c.memchr.ensures in
    let call = rw c.in-Some.is at c.in_ok-count.ensures.call in
    let long : length bytes ≡ c.in-Some.count = length-take-le c.in-Some.count c.read_once.new.chunk given.0 in
    record {
      passes = passed-more _ _ _ bytes c.loop.passed _ c.loop.invariant.passes given.1 none (c.in_ok-passed.ensures.sum ∙ ap (λ n. c.loop.passed + n) (sym long));
      calls = go_on_more g.R.Source.called c.loop.counter _ _ _ call.0 c.loop.invariant.calls call.1 call.2;
      nothing = c.loop.invariant.nothing;
      cut = c.loop.invariant.cut;
      at = c.loop.invariant.at;
    }

pub returns-in-Some-memchr-clause-few : goal.returns-in-Some-memchr-clause-few
returns-in-Some-memchr-clause-few g c =
    few_held _ _ _ (length c.args.chunk.now) c.loop.held.bytes.items _ c.read_once.new.chunk c.loop.invariant.nothing c.take_in.ensures.few
    (c.read_once.auto.chunk ∙ c.loop.auto.chunk)

pub returns-in_err-more_than-clause-few : goal.returns-in_err-more_than-clause-few
returns-in_err-more_than-clause-few g c =
    few_held _ _ _ (length c.args.chunk.now) c.loop.held.bytes.items _ c.read_once.new.chunk c.loop.invariant.nothing c.take_in.ensures.few
    (c.read_once.auto.chunk ∙ c.loop.auto.chunk)

pub returns-in_err-take_in-clause-few : goal.returns-in_err-take_in-clause-few
returns-in_err-take_in-clause-few g c =
    few_held _ _ _ (length c.args.chunk.now) c.loop.held.bytes.items _ c.read_once.new.chunk c.loop.invariant.nothing c.take_in.ensures.few
    (c.read_once.auto.chunk ∙ c.loop.auto.chunk)

pub returns-in_err-count-clause-calls : goal.returns-in_err-count-clause-calls
returns-in_err-count-clause-calls g c =
    let p = err_from_is_err_and c.from_residual.result c.from_residual.ensures.1 in
    rw (p.1, p.2, c.in_err-count.ensures.error)
    (fails_once g.R.Source.called c.loop.counter MAX_READ_CALLS _ _ _ c.in_err-count.field-0.0 c.loop-test.true c.loop.invariant.calls c.in_err-count.ensures.call)

pub returns-in_default-clause-calls : goal.returns-in_default-clause-calls
returns-in_default-clause-calls g c =
    let call = rw c.in_default.is at c.in_ok-count.ensures.call in
    ends_once g.R.Source.called c.loop.counter MAX_READ_CALLS _ _ _ c.loop-test.true c.loop.invariant.calls call

pub returns-in_err-take_in-clause-further : goal.returns-in_err-take_in-clause-further
returns-in_err-take_in-clause-further g c =
    let given = rw c.in-Some.is at c.in_ok-count.ensures.given in
    let passes = c.loop.invariant.passes in
    further_more _ _ _ (passes.0, passes.2) (take c.in-Some.count c.read_once.new.chunk, given.1)

pub returns-in_err-more_than-clause-further : goal.returns-in_err-more_than-clause-further
returns-in_err-more_than-clause-further g c =
    let given = rw c.in-Some.is at c.in_ok-count.ensures.given in
    let passes = c.loop.invariant.passes in
    further_more _ _ _ (passes.0, passes.2) (take c.in-Some.count c.read_once.new.chunk, given.1)

pub returns-in_err-passed-clause-further : goal.returns-in_err-passed-clause-further
returns-in_err-passed-clause-further g c =
    let given = rw c.in-Some.is at c.in_ok-count.ensures.given in
    let passes = c.loop.invariant.passes in
    further_more _ _ _ (passes.0, passes.2) (take c.in-Some.count c.read_once.new.chunk, given.1)

pub returns-in-Some-memchr-clause-further : goal.returns-in-Some-memchr-clause-further
returns-in-Some-memchr-clause-further g c =
    let given = rw c.in-Some.is at c.in_ok-count.ensures.given in
    let passes = c.loop.invariant.passes in
    further_more _ _ _ (passes.0, passes.2) (take c.in-Some.count c.read_once.new.chunk, given.1)

pub returns-in_err-take_in-clause-calls : goal.returns-in_err-take_in-clause-calls
returns-in_err-take_in-clause-calls g c =
    let p = err_from_is_err_and c.from_residual-in_err-take_in.result c.from_residual-in_err-take_in.ensures.1 in
    let call = c.in_ok-count.ensures.call in
    rw (p.1, p.2, c.in_err-take_in.ensures.error) (fault_once g.R.Source.called c.loop.counter _ _ _ c.loop.invariant.calls (call.0, call.1))

pub returns-in_err-more_than-clause-calls : goal.returns-in_err-more_than-clause-calls
returns-in_err-more_than-clause-calls g c =
    let p = err_from_is_err_and c.from_residual-in_err-more_than.result c.from_residual-in_err-more_than.ensures.1 in
    let call = c.in_ok-count.ensures.call in
    rw (p.1, p.2, c.in_err-more_than.ensures.error) (fault_once g.R.Source.called c.loop.counter _ _ _ c.loop.invariant.calls (call.0, call.1))

pub returns-in_err-passed-clause-calls : goal.returns-in_err-passed-clause-calls
returns-in_err-passed-clause-calls g c =
    let p = err_from_is_err_and c.from_residual-in_err-passed.result c.from_residual-in_err-passed.ensures.1 in
    let call = c.in_ok-count.ensures.call in
    rw (p.1, p.2, c.in_err-passed.ensures.error) (fault_once g.R.Source.called c.loop.counter _ _ _ c.loop.invariant.calls (call.0, call.1))

pub returns-in-Some-memchr-clause-calls : goal.returns-in-Some-memchr-clause-calls
returns-in-Some-memchr-clause-calls g c =
    let call = rw c.in-Some.is at c.in_ok-count.ensures.call in
    go_on_once g.R.Source.called c.loop.counter MAX_READ_CALLS c.in-Some.count _ _ _ c.loop-test.true c.loop.invariant.calls call

pub returns-clause-calls : goal.returns-clause-calls
returns-clause-calls g c =
    let end : c.loop.counter ≡ MAX_READ_CALLS = search rules in
    inl (subst (λ (n : ℕ). GoOn g.R.Source.called n c.args.reader.now c.loop.reader) end c.loop.invariant.calls)
