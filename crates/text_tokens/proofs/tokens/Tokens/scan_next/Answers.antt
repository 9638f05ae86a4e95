use Rattle.std.proofs.Common.{◌≡◌, ◌+◌, ap, rules, length, refl, subst, sym, ◌∙◌}
use borrow.Author.Tests.{tests}
use Rattle.zk_model.specs.Bristol.{lexeme}
use Rattle.text_tokens.specs.Words.{IsNext, place_of, word_of}
use Rattle.text_tokens.proofs.Splitting.{ends_here, takes_first, some_bytes}
use Rattle.text_tokens.proofs.Shorts.{takes_name, takes_number}
use Rattle.text_tokens.proofs.tokens.Tokens.scan_next.Goals as goal
use Rattle.text_tokens.proofs.tokens.Tokens.scan_next.Goals.{in-Number, in-Name}

pub returns-then-is_empty : goal.returns-then-is_empty
returns-then-is_empty c =
    let none : length c.skip_blanks-start.result.now ≡ 0 = search (rules, tests) in
    (ends_here c.self.inside.rest.now c.skip_blanks-start.result.now c.self.inside.taken _ c.self.view_is c.skip_blanks-start.ensures.tokens_kept none, refl)

pub returns : goal.returns
returns c =
    let takes = takes_first c.self.inside.rest.now c.skip_blanks-start.result.now c.split_at.result.0.now c.split_at.result.1.now c.self.inside.taken c.args.self.now c.scan-scanned.result c.self.view_is c.skip_blanks-start.ensures.tokens_kept
    (some_bytes c.skip_blanks-start.result.now c.is_empty.result c.is_empty.ensures c.if-is_empty.false) c.skip_blanks-start.ensures.begins c.scan-scanned.ensures
    c.split_at.ensures.front c.split_at.ensures.back in
    elim c.match-scanned.branch [
      | in-Number w ↦
          subst (IsNext c.args.self.now (place_of c.split_at.result.1.now (c.self.inside.taken + 1))) (sym w.result-is)
          (takes_number c.args.self.now _ c.split_at.result.0.now w.in-Number.number (sym w.in-Number.is ∙ c.scan-scanned.ensures.word_is ∙ ap (λ l. word_of (lexeme l)) (sym c.split_at.ensures.front)) takes)
      | in-Name w ↦
          subst (IsNext c.args.self.now (place_of c.split_at.result.1.now (c.self.inside.taken + 1))) (sym w.result-is)
          (takes_name c.args.self.now _ c.split_at.result.0.now (sym w.in-Name.is ∙ c.scan-scanned.ensures.word_is ∙ ap (λ l. word_of (lexeme l)) (sym c.split_at.ensures.front)) takes)
    ]
