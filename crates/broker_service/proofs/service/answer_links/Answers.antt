use Rattle.std.proofs.Common.{◌≡◌, ◌+◌, length, rules, ap, ◌∙◌, ◌++◌, ◌∷◌, []}
use Rattle.std.proofs.lemmas.List.{length_push}
use Rattle.broker_service.specs.Turns.{keeping}
use Rattle.broker_service.proofs.Links.{one_exchange_more, one_more}
use Rattle.broker_service.proofs.service.answer_links.Goals as goal

pub links-preserved : goal.links-preserved
links-preserved g c =
    let inv = c.links.invariant in
    let note = c.answer_one-note.result in
    let pushed : c.push_reserved.new.self.items ≡ c.links.notes.items ++ note ∷ [] = search rules in
    record {
      nodes = c.answer_one-note.ensures.nodes;
      own = c.answer_one-note.ensures.own;
      count = let more = length_push c.links.notes.items note in ap length pushed ∙ more ∙ ap (λ n. n + 1) inv.count;
      taken = one_more c.links.counter c.args.asks (g.D.Door.state c.args.door.now) (g.D.Door.state c.links.door) inv.taken (g.D.Door.state c.next.new.self)
          (rw c.in-Ok-Some.field-0-is at c.in-Ok-Some.ensures.given) c.in-Ok-Some.ensures.rest c.in-Ok-Some.ensures.cause.done;
      exchanges = rw pushed (one_exchange_more g.D.Link.Link.state g.B.Disk.state c.links.notes.items note
          (keeping c.args.core.now c.args.pass.now) (keeping c.links.core c.links.pass) (keeping c.answer_one-note.new.core c.answer_one-note.new.pass)
          inv.exchanges c.answer_one-note.ensures.step);
    }
