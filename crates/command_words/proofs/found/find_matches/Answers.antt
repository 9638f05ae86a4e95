use Rattle.std.proofs.Common.{◌∙◌}
use Rattle.command_words.specs.Rows.{row_at}
use Rattle.command_words.specs.Words.{texts}
use Rattle.command_words.proofs.Finding.{kept, not_taken}
use Rattle.command_words.proofs.found.find_matches.Goals as goal

pub returns-in-Ok : goal.returns-in-Ok
returns-in-Ok c =
    kept _ (row_at c.args.row.now) (texts c.args.words.now) c.in-Ok.matches _ c.in_ok-command.ensures c.in-Ok.ensures.matches c.in-Ok.ensures.kinds c.if_plain.ensures.some c.if_plain.ensures.none

pub returns : goal.returns
returns c =
    not_taken _ (row_at c.args.row.now) (texts c.args.words.now) c.in_ok-command.ensures
    (λ takes_them. c.in_default.not-OutOfMemory (c.kind.ensures ∙ c.in-Err.ensures.passes takes_them))
