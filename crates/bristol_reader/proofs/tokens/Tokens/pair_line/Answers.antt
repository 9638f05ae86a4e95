use Rattle.std.proofs.Common.{◌+◌, refl, ap, sym, ◌∙◌}
use Rattle.zk_model.specs.ArithFaults.{Place}
use Rattle.text_tokens.specs.Words.{place_of}
use Rattle.bristol_reader.proofs.PlainLines.{pair_line}
use Rattle.bristol_reader.proofs.tokens.Tokens.pair_line.Goals as goal

pub returns-clause-line : goal.returns-clause-line
returns-clause-line g c =
    pair_line c.args.behind.now c.in_ok-a.behind.now c.in_ok-b.behind.now c.in_ok-out.behind.now c.in_ok-name.behind.now c.taken-first.result c.args.self.now _ _
    (c.taken-first.ensures ∙ ap (λ (p : Place). p.taken) c.self.view_is) (c.move_on.ensures ∙ ap (λ n. place_of c.in_ok-name.behind.now (n + 6)) (sym c.taken-first.ensures))
    c.requires.left c.in_ok-a.ensures c.in_ok-b.ensures c.in_ok-out.ensures c.in_ok-name.ensures refl refl refl
