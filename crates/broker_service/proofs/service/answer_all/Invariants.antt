use Rattle.broker_service.proofs.service.answer_all.Given as goal

abbrev pub ghosts-answer_named : goal.ghosts-answer_named
ghosts-answer_named g a = record {
  table = a.parts.table;
  total = a.parts.total;
  passes = a.parts.passes;
  base = a.parts.base;
  id = a.id.now;
  start = g.B.Disk.state a.parts.disk;
}
