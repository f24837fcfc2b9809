use Rattle.std.proofs.Common.{◌+◌, arith, rules, sym, ◌∙◌}
use Rattle.judge_memory.proofs.PartsLaws.{writer-below, writer-number, writer-session, part-sourced, part-thin_air}
use Rattle.judge_memory.proofs.reads.part_of_read.Goals as goal

pub offset_bounds-starts-session_place : goal.offset_bounds-starts-session_place
offset_bounds-starts-session_place c =
    let below = writer-session c.args.h.now c.args.writes.now c.requires.writes c.args.key c.args.value c.in-Some.write c.in-Some.ensures
    c.args.starts.now c.requires.starts c.session_place.result c.in-Some.write.index c.session_place.ensures (λ j. c.in-Some.write.index) in
    search rules

pub bounds-starts-session_place : goal.bounds-starts-session_place
bounds-starts-session_place c =
    let below = writer-session c.args.h.now c.args.writes.now c.requires.writes c.args.key c.args.value c.in-Some.write c.in-Some.ensures
    c.args.starts.now c.requires.starts c.session_place.result c.in-Some.write.index c.session_place.ensures (λ j. c.in-Some.write.index) in
    omega arith

pub overflow_cast-result : goal.overflow_cast-result
overflow_cast-result c =
    let below = writer-below c.args.h.now c.args.writes.now c.requires.writes c.args.key c.args.value c.in-Some.write c.in-Some.ensures
    c.args.starts.now c.requires.starts c.session_place.result c.place.result c.session_place.ensures c.place.ensures in
    let fits = c.type_inv.starts (c.session_place.result + 1) in
    omega arith

pub overflow_add-result : goal.overflow_add-result
overflow_add-result c =
    let below = writer-below c.args.h.now c.args.writes.now c.requires.writes c.args.key c.args.value c.in-Some.write c.in-Some.ensures
    c.args.starts.now c.requires.starts c.session_place.result c.place.result c.session_place.ensures c.place.ensures in
    let fits = c.type_inv.starts (c.session_place.result + 1) in
    omega arith

pub returns-in-Some : goal.returns-in-Some
returns-in-Some c = λ o reads.
    part-sourced c.args.h.now o c.args.key c.args.value reads c.args.writes.now c.requires.writes
    (λ same. c.if-value-initial_value.false (same ∙ sym c.initial_value.ensures)) c.in-Some.write _ c.in-Some.ensures
    (writer-number c.args.h.now c.args.writes.now c.requires.writes c.args.key c.args.value c.in-Some.write c.in-Some.ensures
    c.args.starts.now c.requires.starts c.session_place.result c.place.result c.session_place.ensures c.place.ensures)

pub returns-in-None : goal.returns-in-None
returns-in-None c = λ o reads.
    part-thin_air c.args.h.now o c.args.key c.args.value reads c.args.writes.now c.requires.writes
    (λ same. c.if-value-initial_value.false (same ∙ sym c.initial_value.ensures)) c.in-None.ensures
