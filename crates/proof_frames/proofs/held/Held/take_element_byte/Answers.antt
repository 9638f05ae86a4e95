use Rattle.std.proofs.Common.{◌≡◌, ◌<◌, List, ℕ, ◌∷◌, ◌++◌, [], length, refl, sym, ap, ◌∙◌, arith, subst}
use Rattle.std.specs.Int.{w64, from_le_bytes}
use Rattle.std.proofs.lemmas.Bool.{false≢true}
use Rattle.zk_model.specs.Field.{IsElement}
use Rattle.proof_frames.specs.Holding.{AreElementsApart}
use Rattle.proof_frames.proofs.Kept.{steps, list_left, part_step, last_ends, element_step}
use Rattle.proof_frames.proofs.held.Held.take_element_byte.Goals as goal

pub returns-in_default : goal.returns-in_default
returns-in_default c =
    let old = c.args.self.now in
    let apart : AreElementsApart old.start.items old.elements.items old.part.items = rw c.requires.list at c.requires.holds.kept in
    let partial = apart.partial in
    let less : length old.part.items < 7 = omega (arith, partial, c.deref.ensures.len, old.part.ok.0, c.in_default.ensures.none) in
    steps c.args.place old _ c.args.byte c.requires.holds
    (record { start = c.requires.holds.room.start; elements = c.requires.holds.room.elements; part = omega (arith, c.requires.holds.room.part, c.push_reserved.ensures.capacity) })
    (rw c.push_reserved.ensures.items (part_step c.args.place old.start.items old.elements.items old.part.items c.args.byte c.requires.list (omega (arith, old.start.ok.0))
    c.requires.holds.begun c.requires.holds.kept (omega arith) less c.requires.within))

pub returns-in_default-from_le : goal.returns-in_default-from_le
returns-in_default-from_le c =
    let old = c.args.self.now in
    let part_is : c.deref.result.now ≡ old.part.items = c.deref.ensures.value in
    let word_is : c.in-Some.word ≡ old.part.items ++ c.args.byte ∷ [] = c.in-Some.ensures.word.0 ∙ ap (λ l. l ++ c.args.byte ∷ []) part_is in (
      refl,
      last_ends c.args.place old.start.items old.elements.items old.part.items c.requires.list (omega (arith, old.start.ok.0)) c.args.byte
          (ap length (sym part_is) ∙ c.in-Some.ensures.word.1) c.requires.within
          (λ is. false≢true (c.in_default-from_le.ensures.below.1 (subst (λ (l : List ℕ). IsElement (from_le_bytes w64 l)) (sym word_is) is))),
    )

pub push_reserved-requires-2 : goal.push_reserved-requires-2
push_reserved-requires-2 c =
    let old = c.args.self.now in
    let left = list_left c.args.place old.start.items old.elements.items old.part.items c.requires.list (omega (arith, old.start.ok.0)) (c.args.byte ∷ []) c.requires.within in
    omega (arith, left, old.elements.ok.0, c.requires.holds.room.elements)

pub returns : goal.returns
returns c =
    let old = c.args.self.now in
    let part_is : c.deref.result.now ≡ old.part.items = c.deref.ensures.value in
    let element = c.in-Some-from_le.element in
    let word_is : c.in-Some.word ≡ old.part.items ++ c.args.byte ∷ [] = c.in-Some.ensures.word.0 ∙ ap (λ l. l ++ c.args.byte ∷ []) part_is in
    let value : element ≡ from_le_bytes w64 c.in-Some.word = c.in-Some-from_le.ensures.value in
    steps c.args.place old _ c.args.byte c.requires.holds (record { start = c.requires.holds.room.start; elements = omega arith; part = omega arith })
    (rw (c.push_reserved-2.ensures.items, c.clear.ensures.items)
    (element_step c.args.place old.start.items old.elements.items old.part.items c.args.byte element c.requires.list (omega (arith, old.start.ok.0)) c.requires.holds.begun
    c.requires.holds.kept (omega arith) (ap length (sym part_is) ∙ c.in-Some.ensures.word.1) c.requires.within (c.in-Some-from_le.ensures.spelling ∙ word_is)
    (value ∙ ap (from_le_bytes w64) word_is) (rw value (c.in-Some-from_le.ensures.below.0 refl))))
