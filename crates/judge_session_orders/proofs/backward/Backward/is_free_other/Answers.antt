use Rattle.judge_session_orders.proofs.backward.Backward.is_free_other.Goals as goal

pub returns-clause-next : goal.returns-clause-next
returns-clause-next c holds = record {
  on_its_way = c.requires.on_its_way;
  exists = c.requires.exists;
  free = c.is_free.ensures.free holds;
  turn = λ same. absurd (c.if-session-self.false same);
}
