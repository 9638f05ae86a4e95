use Rattle.std.proofs.Common.{string_bytes}
use Rattle.std.specs.Option.{option_map}
use Rattle.session_service.proofs.service.lead_sessions.Given as goal

-- the loan as it is lent, and how the run is asked for
abbrev pub ghosts-serve_watched : goal.ghosts-serve_watched
ghosts-serve_watched g a = record {
  shelf = a.loan.shelf.ghost_name;
  notices = a.loan.notices.ghost_name;
  first = g.F.Shelf.state a.loan.shelf.now;
  silent = g.E.Sink.state a.loan.notices.now;
  prefix = option_map string_bytes a.options.now.logs;
  follows = a.options.now.follow;
}
