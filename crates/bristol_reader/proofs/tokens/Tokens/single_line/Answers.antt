use Rattle.std.proofs.Common.{◌+◌, refl, ap, sym, ◌∙◌}
use Rattle.zk_model.specs.ArithFaults.{Place}
use Rattle.text_tokens.specs.Words.{place_of}
use Rattle.bristol_reader.proofs.PlainLines.{single_line}
use Rattle.bristol_reader.proofs.tokens.Tokens.single_line.Goals as goal

pub returns-clause-line : goal.returns-clause-line
returns-clause-line g c =
    single_line c.args.behind.now c.in_ok-input.behind.now c.in_ok-out.behind.now c.in_ok-name.behind.now c.taken-first.result c.args.self.now _ _
    (c.taken-first.ensures ∙ ap (λ (p : Place). p.taken) c.self.view_is) (c.move_on.ensures ∙ ap (λ n. place_of c.in_ok-name.behind.now (n + 5)) (sym c.taken-first.ensures))
    c.requires.left c.in_ok-input.ensures c.in_ok-out.ensures c.in_ok-name.ensures refl refl
