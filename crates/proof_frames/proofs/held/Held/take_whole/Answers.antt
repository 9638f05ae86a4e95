use Rattle.std.proofs.Common.{◌≡◌, [], true, sym, ap, ◌∙◌, arith}
use Rattle.std.specs.Prelude.{vec_len}
use Rattle.std.proofs.lemmas.Bool.{eqb-true}
use Rattle.std.proofs.lemmas.List.{nil_from_length}
use Rattle.zk_model.specs.declared.Expect.{Expect}
use Rattle.proof_frames.specs.Holding.{AreElementsApart, is_list, longest, spelled}
use Rattle.proof_frames.specs.Rows.{BeginsFrame, row_of, told}
use Rattle.proof_frames.specs.declared.held.Held.{Held}
use Rattle.proof_frames.specs.declared.row.Payload.TheVariants as payload
use Rattle.proof_frames.specs.declared.row.Row.{Row}
use Rattle.proof_frames.proofs.EveryRow.{same_list}
use Rattle.proof_frames.proofs.Kept.{list_left, elements_step}
use Rattle.proof_frames.proofs.held.Held.take_whole.Goals as goal

-- a row of elements alone is one of a list
list_of : (place : Expect) (held : Held) (row : Row) {count : _} → row ≡ row_of place (told place held.start.items) → row.payload ≡ payload.Elements count
    → is_list (longest place) ≡ true
list_of place held row is elements =
    sym (same_list place (told place held.start.items)) ∙ ap (λ r. is_list r.payload) (sym is) ∙ ap is_list elements

pub take_elements-requires-clause-room : goal.take_elements-requires-clause-room
take_elements-requires-clause-room c =
    let old = c.args.self.now in
    let list = list_of c.args.place old c.row-payload.result c.row-payload.ensures c.in-Elements.is in
    let apart : AreElementsApart old.start.items old.elements.items old.part.items = rw list at c.requires.holds.kept in
    let header = apart.header in
    let left = list_left c.args.place old.start.items old.elements.items old.part.items list (omega (arith, old.start.ok.0)) c.args.piece.now c.requires.within in
    omega (arith, left, old.elements.ok.0)

pub returns-in-Elements-clause-holds : goal.returns-in-Elements-clause-holds
returns-in-Elements-clause-holds c =
    let old = c.args.self.now in
    let list = list_of c.args.place old c.row-payload.result c.row-payload.ensures c.in-Elements.is in
    let apart : AreElementsApart old.start.items old.elements.items old.part.items = rw list at c.requires.holds.kept in
    let header = apart.header in
    let left = list_left c.args.place old.start.items old.elements.items old.part.items list (omega (arith, old.start.ok.0)) c.args.piece.now c.requires.within in
    let count : vec_len old.part ≡ 0 = eqb-true (vec_len old.part) 0 (sym c.is_empty.ensures ∙ c.if-not-is_empty.false) in
    let none : old.part.items ≡ [] = nil_from_length old.part.items (omega (arith, count, old.part.ok.0)) in
    let begun : BeginsFrame c.args.place (spelled old.start.items old.elements.items []) = rw none at c.requires.holds.begun in
    let step = elements_step c.args.place old.start.items old.elements.items c.take_elements.new.elements.items list (omega (arith, old.start.ok.0)) begun c.take_elements.ensures.ranged
    (omega (arith, left, c.take_elements.ensures.count, old.elements.ok.0, c.take_elements.new.elements.ok.0)) in
    record {
      short = c.requires.holds.short;
      begun = rw none step.0;
      kept = rw none step.1;
      room = record { start = c.requires.holds.room.start; elements = omega arith; part = c.requires.holds.room.part };
    }
