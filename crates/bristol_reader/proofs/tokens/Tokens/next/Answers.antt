use Rattle.std.proofs.Common.{sym, ◌∙◌, subst}
use Rattle.zk_model.specs.ArithFaults.{Place}
use Rattle.bristol_reader.specs.Words.{TakesWord}
use Rattle.bristol_reader.specs.declared.tokens.Word.{Word}
use Rattle.bristol_reader.proofs.Wanted.{blanks_behind, name_taken, number_taken}
use Rattle.bristol_reader.proofs.tokens.Tokens.next.Goals as goal
use Rattle.bristol_reader.proofs.tokens.Tokens.next.Goals.{in-Name, in-Number}

pub returns-clause-word : goal.returns-clause-word
returns-clause-word c =
    let same = c.move_on.ensures ∙ blanks_behind c.next.new.self c.rest.result.now c.skip_blanks-behind.result.now c.rest.ensures.left c.skip_blanks-behind.ensures.tokens_kept in
    subst (λ (p : Place). TakesWord c.args.self.now p c.match-next.word) (sym same)
    (subst (λ (p : Place). TakesWord p c.next.new.self c.match-next.word) c.self.view_is
    (elim c.match-next.branch [
      | in-Name w ↦ subst (λ (n : Word). TakesWord c.self.inside.tokens c.next.new.self n) (sym w.word-is)
          (name_taken c.self.inside.tokens c.next.new.self w.in-Name.name.now w.gate_name.result w.gate_name.ensures w.in-Name.ensures)
      | in-Number w ↦ subst (λ (n : Word). TakesWord c.self.inside.tokens c.next.new.self n) (sym w.word-is)
          (number_taken c.self.inside.tokens c.next.new.self w.in-Number.number w.shown.result w.shown.ensures w.in-Number.ensures)
    ]))
