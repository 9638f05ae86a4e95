use Rattle.bristol_reader.proofs.PlainLines.{name_after}
use Rattle.bristol_reader.proofs.lines.single_name.Goals as goal

pub returns : goal.returns
returns g c = name_after c.args.text.now c.next_token-start.result.now _ c.in_ok-name.behind.now c.next_token-start.ensures.tokens_kept c.next_token-start.ensures.within c.in_ok-name.ensures
