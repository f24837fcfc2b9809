use Rattle.std.proofs.Common.{◌++◌, ◌∷◌, [], ap, sym, ◌∙◌}
use Rattle.std.specs.Prelude.{Some}
use Rattle.live_seals.proofs.sealing_lane.push_call.Goals as goal

pub call-requires : goal.call-requires
call-requires g c = record { place = c.requires.place; cell = c.requires.found.0 }

pub returns : goal.returns
returns g c = record {
  cell = c.call.new.note.cell;
  known = c.call.new.note.known;
  call = c.in-Some.call.now;
  of = c.requires.found.0 ∙ ap Some (sym c.in-Some.ensures.cell);
  shows = c.in-Some.ensures.value.0;
  noted = c.push-3.ensures ∙ ap (λ l. l ++ (c.call.new.note.cell, c.call.new.note.known) ∷ []) c.in_ok-reserve.ensures.list;
  pushed = c.in_ok-push.ensures.items;
  advised = c.in_ok-push-2.ensures.items;
}
