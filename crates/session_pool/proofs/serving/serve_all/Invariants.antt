use Rattle.std.proofs.Common.{All}
use Rattle.session_pool.specs.Notes.{IsNoteOf, IsUnused}
use Rattle.session_pool.proofs.serving.serve_all.Given as goal

abbrev pub ghosts-serve_named-N-LeaseName : goal.ghosts-serve_named-N-LeaseName
ghosts-serve_named-N-LeaseName g a = record {
  table = a.parts.table;
  total = a.parts.total;
  passes = a.parts.passes;
  base = a.parts.base;
  id = g.S.Session.id a.session.now;
  start = g.B.Disk.state a.parts.disk;
}

abbrev pub ghosts-serve_named-W-Ledger : goal.ghosts-serve_named-W-Ledger
ghosts-serve_named-W-Ledger g a = record { name = a.blank.name; parts = a.blank.parts }

abbrev pub ghosts-serve_named-W-Run : goal.ghosts-serve_named-W-Run
ghosts-serve_named-W-Run g a = record { first = g.D.Door.state a.door; sessions = a.sessions }

abbrev pub ghosts-serve_named-W-Shift : goal.ghosts-serve_named-W-Shift
ghosts-serve_named-W-Shift g a = record {
  is_note = IsNoteOf (g.S.Session.is_note a.session.now);
  granted = g.S.Session.granted;
  refused = g.S.Session.refused;
  size = g.S.Session.size a.session.now;
  fresh = All IsUnused a.passes.items;
}
