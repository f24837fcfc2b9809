use Rattle.std.proofs.Common.{◌≡◌, ◌+◌, take, length, vec_capacity}
use Rattle.live_recorder.proofs.note_list.copies.Given as goal

abbrev pub invariant-loop-i : goal.invariant-loop-i
invariant-loop-i g l = record {
  many : l.many ≡ length l.fn.notes.items;
  items : l.notes.items ≡ l.fn.notes.items;
  capacity : vec_capacity l.notes ≡ vec_capacity l.fn.notes;
  copied : l.copied.items ≡ take l.i l.fn.notes.items;
  room : vec_capacity l.copied ≡ l.many + 1;
}
