use Rattle.arith_reader.proofs.PlainLines.{blanks_passed, name_at}
use Rattle.arith_reader.proofs.lines.next_name.Goals as goal

pub returns-in_err-name-clause-same : goal.returns-in_err-name-clause-same
returns-in_err-name-clause-same c =
    blanks_passed c.args.tokens.now c.move_on.new.self c.rest-text.result.now c.skip_blanks-start.result.now c.rest-text.ensures.left c.move_on.ensures
    c.skip_blanks-start.ensures.tokens_kept

pub returns-clause-same : goal.returns-clause-same
returns-clause-same c =
    blanks_passed c.args.tokens.now c.move_on.new.self c.rest-text.result.now c.skip_blanks-start.result.now c.rest-text.ensures.left c.move_on.ensures
    c.skip_blanks-start.ensures.tokens_kept

pub returns-clause-name : goal.returns-clause-name
returns-clause-name c =
    name_at c.args.tokens.now c.rest-text.result.now c.skip_blanks-start.result.now _ c.in_ok-name.behind.now c.rest-text.ensures.left c.rest-text.ensures.fits
    c.skip_blanks-start.ensures.tokens_kept c.skip_blanks-start.ensures.within c.in_ok-name.ensures
