use Rattle.std.proofs.Common.{◌++◌, ◌∷◌, [], ap, sym, ◌∙◌}
use Rattle.std.specs.Prelude.{Some}
use Rattle.live_seals.proofs.TableLemmas.{shown_parts, fitting_parts}
use Rattle.live_seals.proofs.sealing_lane.push_return.Goals as goal

pub return_record-requires : goal.return_record-requires
return_record-requires g c = record { place = c.requires.place; cell = c.requires.found.0 }

pub returns : goal.returns
returns g c = record {
  cell = c.return_record.new.note.cell;
  known = c.return_record.new.note.known;
  call = c.call.result;
  ret = c.in-Some-reply.ret;
  advice = c.in-Some-reply.told;
  of = c.requires.found.0 ∙ ap Some (sym c.in-Some.ensures.cell);
  shows = shown_parts c.return_record.new.note.known c.in-Some.record.now c.reply.result.now c.call.result c.in-Some-reply.ret c.in-Some-reply.told c.in-Some.ensures.value.0 c.reply.ensures.reply c.in-Some-reply.is c.call.ensures;
  fitting = fitting_parts g.O.Recorded.fitting c.in-Some.record.now c.reply.result.now c.call.result c.in-Some-reply.ret c.in-Some-reply.told c.reply.ensures.fitting c.reply.ensures.reply c.in-Some-reply.is c.call.ensures;
  noted = c.push-3.ensures ∙ ap (λ l. l ++ (c.return_record.new.note.cell, c.return_record.new.note.known) ∷ []) c.in_ok-reserve.ensures.list;
  pushed = c.in_ok-push.ensures.items;
  advised = c.in_ok-push-2.ensures.items ∙ ap (λ d. c.args.advice.now.items ++ Some d ∷ []) c.in_ok-copy.ensures;
}
