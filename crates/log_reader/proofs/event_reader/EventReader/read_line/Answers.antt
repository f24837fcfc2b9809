use Rattle.std.proofs.Common.{◌+◌, ◌≤◌, ◌++◌, List, ℕ, false, length, subst, ◌∙◌, refl}
use Rattle.std.proofs.lemmas.Result.{err_from_is_err_and}
use Rattle.json_lines.specs.LineReaders.{BeginsLong, IsFirst, IsOver}
use Rattle.log_reader.specs.BookSteps.{IsLineFault, IsRestFault}
use Rattle.log_reader.specs.Logs.{EndsBy, Takes}
use Rattle.log_reader.specs.ReadSteps.{ReadsAll, ReadsMore}
use Rattle.log_reader.specs.Readings.{Extends, FaultsAt, Reading}
use Rattle.json_lines.proofs.TakingLaws.{further_some}
use Rattle.log_reader.proofs.BookLaws.{extends-same}
use Rattle.log_reader.proofs.LogCallLaws.{found_calls, line_fault_calls, no_line_calls, rest_fault_calls}
use Rattle.log_reader.proofs.ReadLaws.{line_fault, long_fault, reads_end, reads_line, reads_rest, rest_fault}
use Rattle.log_reader.proofs.TakeLaws.{ends_few, takes_few}
use Rattle.log_reader.proofs.event_reader.EventReader.read_line.Goals as goal

pub returns-in_err-take_line-in-Line-clause-fault : goal.returns-in_err-take_line-in-Line-clause-fault
returns-in_err-take_line-in-Line-clause-fault g c =
    let finds = c.in_ok-found.ensures.found in
    let first = subst (λ f. IsFirst (c.self.inside.lines.held ++ finds.taken) c.next.new.self f) c.in-Line.is finds.first in
    let p = err_from_is_err_and c.from_residual-in_err-take_line-in-Line.result c.from_residual-in_err-take_line-in-Line.ensures.1 in
    let fault = subst (λ (l : List ℕ). IsLineFault c.self.inside.book l (c.self.inside.count + 1) c.in_err-take_line-in-Line.field-0.0) c.line.ensures c.in_err-take_line-in-Line.ensures.fault in
    let at = line_fault (g.R.Source.remaining c.args.source.now) (g.R.Source.remaining c.next.new.reader) finds.taken finds.consumed c.self.inside.book c.self.inside.lines.held
    c.self.inside.count c.next.new.self.line c.next.new.self.held c.in_err-take_line-in-Line.field-0.0 first.0 first.1 fault in
    rw (p.1, p.2) (subst (λ (r : Reading). FaultsAt (length r.log.events + 1) (g.R.Source.remaining c.args.source.now) r c.in_err-take_line-in-Line.field-0.0) c.self.view_is at)

pub returns-in_err-torn-in-Rest-clause-fault : goal.returns-in_err-torn-in-Rest-clause-fault
returns-in_err-torn-in-Rest-clause-fault g c =
    let finds = c.in_ok-found.ensures.found in
    let first = subst (λ f. IsFirst (c.self.inside.lines.held ++ finds.taken) c.next.new.self f) c.in-Rest.is finds.first in
    let over = subst (λ f. IsOver (g.R.Source.remaining c.next.new.reader) f) c.in-Rest.is finds.over in
    let p = err_from_is_err_and c.from_residual-in_err-torn-in-Rest.result c.from_residual-in_err-torn-in-Rest.ensures.1 in
    let fault = subst (λ (l : List ℕ). IsRestFault c.self.inside.book l (c.self.inside.count + 1) c.in_err-torn-in-Rest.field-0.0) c.line-in-Rest.ensures c.in_err-torn-in-Rest.ensures.fault in
    let at = rest_fault (g.R.Source.remaining c.args.source.now) (g.R.Source.remaining c.next.new.reader) finds.taken finds.consumed c.self.inside.book c.self.inside.lines.held
    c.self.inside.count c.next.new.self.line c.in_err-torn-in-Rest.field-0.0 over first.0 first.1 fault in
    rw (p.1, p.2) (subst (λ (r : Reading). FaultsAt (length r.log.events + 1) (g.R.Source.remaining c.args.source.now) r c.in_err-torn-in-Rest.field-0.0) c.self.view_is at)

pub returns-in_ok-take_line-in-Line-clause-read : goal.returns-in_ok-take_line-in-Line-clause-read
returns-in_ok-take_line-in-Line-clause-read g c =
    let finds = c.in_ok-found.ensures.found in
    let first = subst (λ f. IsFirst (c.self.inside.lines.held ++ finds.taken) c.next.new.self f) c.in-Line.is finds.first in
    let takes = subst (λ (l : List ℕ). Takes (c.self.inside.count + 1) c.self.inside.book l c.take_line.new.book) c.line.ensures c.in_ok-take_line-in-Line.ensures.takes in
    let new : Reading = record { log = c.take_line.new.book; held = c.next.new.self.held; count = c.self.inside.count + 1 } in
    let reads = reads_line (g.R.Source.remaining c.args.source.now) (g.R.Source.remaining c.next.new.reader) finds.taken finds.consumed c.self.inside.book c.self.inside.lines.held
    c.self.inside.count c.next.new.self.line c.next.new.self.held c.take_line.new.book new first.0 first.1 takes refl in
    subst (λ (r : Reading). ReadsMore (g.R.Source.remaining c.args.source.now) (g.R.Source.remaining c.next.new.reader) r new) c.self.view_is reads

pub returns-in_ok-torn-in-Rest-clause-read : goal.returns-in_ok-torn-in-Rest-clause-read
returns-in_ok-torn-in-Rest-clause-read g c =
    let finds = c.in_ok-found.ensures.found in
    let first = subst (λ f. IsFirst (c.self.inside.lines.held ++ finds.taken) c.next.new.self f) c.in-Rest.is finds.first in
    let over = subst (λ f. IsOver (g.R.Source.remaining c.next.new.reader) f) c.in-Rest.is finds.over in
    let ends = subst (λ (l : List ℕ). EndsBy (c.self.inside.count + 1) c.self.inside.book l c.in_ok-torn-in-Rest.torn c.take_rest.new.book) c.line-in-Rest.ensures c.in_ok-torn-in-Rest.ensures.ends in
    let new : Reading = record { log = c.take_rest.new.book; held = c.next.new.self.held; count = c.self.inside.count } in
    let reads = reads_rest (g.R.Source.remaining c.args.source.now) (g.R.Source.remaining c.next.new.reader) finds.taken finds.consumed c.self.inside.book c.self.inside.lines.held
    c.self.inside.count c.next.new.self.line c.in_ok-torn-in-Rest.torn new over first.0 first.1 ends in
    subst (λ (r : Reading). ReadsAll (g.R.Source.remaining c.args.source.now) (g.R.Source.remaining c.next.new.reader) r new c.in_ok-torn-in-Rest.torn) c.self.view_is reads

pub returns-in-TooLong-clause-fault : goal.returns-in-TooLong-clause-fault
returns-in-TooLong-clause-fault g c =
    let finds = c.in_ok-found.ensures.found in
    let bytes = c.self.inside.lines.held ++ finds.taken in
    let first = subst (λ f. IsFirst bytes c.next.new.self f) c.in-TooLong.is finds.first in
    let long = subst (λ (m : ℕ). BeginsLong m bytes) (finds.most ∙ c.self.invariant) first.2 in
    let at = long_fault (g.R.Source.remaining c.args.source.now) (g.R.Source.remaining c.next.new.reader) finds.taken finds.consumed c.self.inside.book c.self.inside.lines.held
    c.self.inside.count bytes c.refused.result refl long c.refused.ensures in
    subst (λ (r : Reading). FaultsAt (length r.log.events + 1) (g.R.Source.remaining c.args.source.now) r c.refused.result) c.self.view_is at

pub returns-in_ok-take_line-in-Line-clause-few : goal.returns-in_ok-take_line-in-Line-clause-few
returns-in_ok-take_line-in-Line-clause-few g c =
    let few = takes_few (c.self.inside.count + 1) c.self.inside.book c.line.result.now c.take_line.new.book c.in_ok-take_line-in-Line.ensures.takes in
    subst (λ (r : Reading). length c.take_line.new.book.events ≤ length r.log.events + 1) c.self.view_is few

pub returns-in_ok-torn-in-Rest-clause-few : goal.returns-in_ok-torn-in-Rest-clause-few
returns-in_ok-torn-in-Rest-clause-few g c =
    let few = ends_few (c.self.inside.count + 1) c.self.inside.book c.line-in-Rest.result.now c.in_ok-torn-in-Rest.torn c.take_rest.new.book c.in_ok-torn-in-Rest.ensures.ends in
    subst (λ (r : Reading). length c.take_rest.new.book.events ≤ length r.log.events + 1) c.self.view_is few

pub returns-in-End-clause-read : goal.returns-in-End-clause-read
returns-in-End-clause-read g c =
    let before = g.R.Source.remaining c.args.source.now in
    let after = g.R.Source.remaining c.next.new.reader in
    let finds = c.in_ok-found.ensures.found in
    let first = subst (λ f. IsFirst (c.self.inside.lines.held ++ finds.taken) c.next.new.self f) c.in-End.is finds.first in
    let over = subst (λ f. IsOver after f) c.in-End.is finds.over in
    let new : Reading = record { log = c.self.inside.book; held = c.next.new.self.held; count = c.self.inside.count } in
    let reads = reads_end before after finds.taken finds.consumed c.self.inside.book c.self.inside.lines.held c.self.inside.count new over first.0 refl in
    subst (λ (r : Reading). ReadsAll before after r new false) c.self.view_is reads

pub returns-in-End-clause-extends : goal.returns-in-End-clause-extends
returns-in-End-clause-extends g c = subst (λ (r : Reading). Extends r.log c.self.inside.book) c.self.view_is (extends-same c.self.inside.book)

pub returns-in-TooLong-clause-extends : goal.returns-in-TooLong-clause-extends
returns-in-TooLong-clause-extends g c = subst (λ (r : Reading). Extends r.log c.self.inside.book) c.self.view_is (extends-same c.self.inside.book)

pub returns-in_err-found-clause-extends : goal.returns-in_err-found-clause-extends
returns-in_err-found-clause-extends g c = subst (λ (r : Reading). Extends r.log c.self.inside.book) c.self.view_is (extends-same c.self.inside.book)

pub returns-in_err-take_line-in-Line-clause-extends : goal.returns-in_err-take_line-in-Line-clause-extends
returns-in_err-take_line-in-Line-clause-extends g c = subst (λ (r : Reading). Extends r.log c.take_line.new.book) c.self.view_is c.take_line.ensures.extends

pub returns-in_ok-take_line-in-Line-clause-extends : goal.returns-in_ok-take_line-in-Line-clause-extends
returns-in_ok-take_line-in-Line-clause-extends g c = subst (λ (r : Reading). Extends r.log c.take_line.new.book) c.self.view_is c.take_line.ensures.extends

pub returns-in_err-torn-in-Rest-clause-extends : goal.returns-in_err-torn-in-Rest-clause-extends
returns-in_err-torn-in-Rest-clause-extends g c = subst (λ (r : Reading). Extends r.log c.take_rest.new.book) c.self.view_is c.take_rest.ensures.extends

pub returns-in_ok-torn-in-Rest-clause-extends : goal.returns-in_ok-torn-in-Rest-clause-extends
returns-in_ok-torn-in-Rest-clause-extends g c = subst (λ (r : Reading). Extends r.log c.take_rest.new.book) c.self.view_is c.take_rest.ensures.extends

pub returns-in_err-found-clause-calls : goal.returns-in_err-found-clause-calls
returns-in_err-found-clause-calls g c =
    let p = err_from_is_err_and c.from_residual.result c.from_residual.ensures.1 in
    rw p.1 (no_line_calls g.R.Source.called c.in_err-found.field-0.0 _ _ _ p.2 c.in_err-found.ensures.calls)

pub returns-in_err-take_line-in-Line-clause-calls : goal.returns-in_err-take_line-in-Line-clause-calls
returns-in_err-take_line-in-Line-clause-calls g c =
    let p = err_from_is_err_and c.from_residual-in_err-take_line-in-Line.result c.from_residual-in_err-take_line-in-Line.ensures.1 in
    rw (p.1, p.2)
    (line_fault_calls g.R.Source.called c.self.inside.book c.line.result.now (c.self.inside.count + 1) c.in_err-take_line-in-Line.field-0.0 _ _
    c.in_err-take_line-in-Line.ensures.fault (found_calls g.R.Source.called c.in_ok-found.found _ _ c.in_ok-found.ensures.calls))

pub returns-in_err-torn-in-Rest-clause-calls : goal.returns-in_err-torn-in-Rest-clause-calls
returns-in_err-torn-in-Rest-clause-calls g c =
    let p = err_from_is_err_and c.from_residual-in_err-torn-in-Rest.result c.from_residual-in_err-torn-in-Rest.ensures.1 in
    rw (p.1, p.2)
    (rest_fault_calls g.R.Source.called c.self.inside.book c.line-in-Rest.result.now (c.self.inside.count + 1) c.in_err-torn-in-Rest.field-0.0 _ _
    c.in_err-torn-in-Rest.ensures.fault (found_calls g.R.Source.called c.in_ok-found.found _ _ c.in_ok-found.ensures.calls))

pub returns-in_err-found-clause-further : goal.returns-in_err-found-clause-further
returns-in_err-found-clause-further g c = further_some _ _ _ _ c.in_err-found.ensures.kept
