use Rattle.std.proofs.Common.{◌≡◌, ◌∙◌, length, ap, subst, refl, rules, false, true, arith}
use Rattle.std.specs.Io.KnownBytes.{IsAtEnd}
use Rattle.json_line_workers.specs.declared.place.Place.{Place}
use Rattle.json_line_workers.specs.declared.held.Stop.{Stop}
use Rattle.json_line_workers.specs.declared.reading.Next.{Next}
use Rattle.json_line_workers.specs.Pieces.{HandsOut, IsNext, Stops, HandsOutLong}
use Rattle.std.proofs.lemmas.Result.{err_from_is_err_and}
use Rattle.json_line_workers.proofs.CallLaws.{hands_out}
use Rattle.json_line_workers.proofs.NextLaws.{if-ok, next-end, next-lines, next-long, reading-more}
use Rattle.json_line_workers.proofs.reading.whole_lines.Goals as goal

pub returns-in-Lines-clause-next : goal.returns-in-Lines-clause-next
returns-in-Lines-clause-next g c =
    let fill = c.in_ok-fill.ensures in
    let held = c.fill.new.held in
    let new = c.hand_out.new.held in
    let reader = g.R.Source.remaining c.fill.new.reader in
    let input = g.J.Job.input in
    let reading = reading-more input c.args.held.now held (g.R.Source.remaining c.args.reader.now) reader c.requires.reading fill.taken fill.at fill.cut c.requires.outside in
    let outside : held.at.inside ≡ false = ap (λ (p : Place). p.inside) fill.at ∙ c.requires.outside in
    if-ok c.hand_out.result (HandsOut held.whole false held new) (IsNext input c.args.most c.args.held.now.at new reader)
    (λ (next : Next) (hands : HandsOut held.whole false held new next). subst (λ (p : Place). IsNext input c.args.most p new reader next) fill.at
    (next-lines input c.args.most held new reader next reading outside held.whole false hands fill.cut.within refl refl))
    c.hand_out.ensures.handed

pub returns-in-End-clause-next : goal.returns-in-End-clause-next
returns-in-End-clause-next g c =
    let fill = c.in_ok-fill.ensures in
    let held = c.fill.new.held in
    let new = c.hand_out-in-End.new.held in
    let reader = g.R.Source.remaining c.fill.new.reader in
    let input = g.J.Job.input in
    let count = c.len-count.result in
    let long : count ≡ length held.bytes.items = search rules in
    let end : IsAtEnd reader = subst (λ (s : Stop). Stops c.args.most s reader held) c.in-End.is fill.stop in
    let reading = reading-more input c.args.held.now held (g.R.Source.remaining c.args.reader.now) reader c.requires.reading fill.taken fill.at fill.cut c.requires.outside in
    let outside : held.at.inside ≡ false = ap (λ (p : Place). p.inside) fill.at ∙ c.requires.outside in
    if-ok c.hand_out-in-End.result (HandsOut count true held new) (IsNext input c.args.most c.args.held.now.at new reader)
    (λ (next : Next) (hands : HandsOut count true held new next). subst (λ (p : Place). IsNext input c.args.most p new reader next) fill.at
    (next-end input c.args.most held new reader next reading outside count true hands (omega (arith, long)) refl long end))
    c.hand_out-in-End.ensures.handed

pub returns-in-TooLong-clause-next : goal.returns-in-TooLong-clause-next
returns-in-TooLong-clause-next g c =
    let fill = c.in_ok-fill.ensures in
    let held = c.fill.new.held in
    let new = c.hand_out_long.new.held in
    let reader = g.R.Source.remaining c.fill.new.reader in
    let input = g.J.Job.input in
    let stops = subst (λ (s : Stop). Stops c.args.most s reader held) c.in-TooLong.is fill.stop in
    let reading = reading-more input c.args.held.now held (g.R.Source.remaining c.args.reader.now) reader c.requires.reading fill.taken fill.at fill.cut c.requires.outside in
    let outside : held.at.inside ≡ false = ap (λ (p : Place). p.inside) fill.at ∙ c.requires.outside in
    if-ok c.hand_out_long.result (HandsOutLong held new) (IsNext input c.args.most c.args.held.now.at new reader)
    (λ (next : Next) (hands : HandsOutLong held new next). subst (λ (p : Place). IsNext input c.args.most p new reader next) fill.at
    (next-long input c.args.most held new reader next reading outside hands stops.0 stops.1))
    c.hand_out_long.ensures.handed

pub returns-in_err-fill-clause-calls : goal.returns-in_err-fill-clause-calls
returns-in_err-fill-clause-calls g c =
    let p = err_from_is_err_and c.from_residual.result c.from_residual.ensures.1 in
    rw (p.1, p.2) c.in_err-fill.ensures.calls

pub returns-in-Lines-clause-calls : goal.returns-in-Lines-clause-calls
returns-in-Lines-clause-calls g c =
    let held = c.fill.new.held in
    let by = rw c.in-Lines.is at c.in_ok-fill.ensures.calls in
    hands_out g.R.Source.called c.hand_out.result false c.args.reader.now c.fill.new.reader
    (if-ok c.hand_out.result (HandsOut held.whole false held c.hand_out.new.held) (λ next. next.last ≡ false) (λ next hands. hands.last_is) c.hand_out.ensures.handed)
    c.hand_out.ensures.error by

pub returns-in-End-clause-calls : goal.returns-in-End-clause-calls
returns-in-End-clause-calls g c =
    let held = c.fill.new.held in
    let by = rw c.in-End.is at c.in_ok-fill.ensures.calls in
    hands_out g.R.Source.called c.hand_out-in-End.result true c.args.reader.now c.fill.new.reader
    (if-ok c.hand_out-in-End.result (HandsOut c.len-count.result true held c.hand_out-in-End.new.held) (λ next. next.last ≡ true) (λ next hands. hands.last_is)
    c.hand_out-in-End.ensures.handed)
    c.hand_out-in-End.ensures.error by

pub returns-in-TooLong-clause-calls : goal.returns-in-TooLong-clause-calls
returns-in-TooLong-clause-calls g c =
    let held = c.fill.new.held in
    let by = rw c.in-TooLong.is at c.in_ok-fill.ensures.calls in
    hands_out g.R.Source.called c.hand_out_long.result false c.args.reader.now c.fill.new.reader
    (if-ok c.hand_out_long.result (HandsOutLong held c.hand_out_long.new.held) (λ next. next.last ≡ false) (λ next hands. hands.last_is) c.hand_out_long.ensures.handed)
    c.hand_out_long.ensures.error by
