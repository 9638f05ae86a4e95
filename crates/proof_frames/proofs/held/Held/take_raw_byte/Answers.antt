use Rattle.std.proofs.Common.{[], ◌∷◌, refl, sym, ◌∙◌, arith}
use Rattle.std.proofs.lemmas.Bool.{false≢true}
use Rattle.proof_frames.specs.Holding.{is_list, longest}
use Rattle.proof_frames.proofs.Kept.{steps, raw_follows, raw_step, raw_ends, raw_room}
use Rattle.proof_frames.proofs.held.Held.take_raw_byte.Goals as goal

pub returns-then-not-allows : goal.returns-then-not-allows
returns-then-not-allows c =
    let old = c.args.self.now in
    let same = raw_follows c.args.place old.start.items c.deref.result.now c.args.byte c.len.result c.args.row c.slot.result c.requires.row c.slot.ensures (omega (arith, old.start.ok.0))
    c.deref.ensures.value in (
      refl,
      raw_ends c.args.place (is_list (longest c.args.place)) old.start.items old.elements.items old.part.items c.args.byte c.requires.holds.kept
          (λ list. let early = c.requires.raw list in omega (arith, early, old.start.ok.0))
          (λ follows. false≢true (sym c.if-not-allows.true ∙ c.allows.ensures.1 (same.1 follows))),
    )

pub push_reserved-requires : goal.push_reserved-requires
push_reserved-requires c =
    let old = c.args.self.now in
    let early = c.requires.raw in
    let room = raw_room c.args.place old (c.args.byte ∷ []) c.requires.holds (λ list. let few = early list in omega (arith, few, old.start.ok.0)) c.requires.within in
    omega (arith, room, old.start.ok.0)

pub returns : goal.returns
returns c =
    let old = c.args.self.now in
    let same = raw_follows c.args.place old.start.items c.deref.result.now c.args.byte c.len.result c.args.row c.slot.result c.requires.row c.slot.ensures (omega (arith, old.start.ok.0))
    c.deref.ensures.value in
    steps c.args.place old _ c.args.byte c.requires.holds
    (record { start = omega (arith, c.requires.holds.room.start, c.push_reserved.ensures.capacity); elements = c.requires.holds.room.elements; part = c.requires.holds.room.part })
    (rw c.push_reserved.ensures.items (raw_step c.args.place (is_list (longest c.args.place)) old.start.items old.elements.items old.part.items c.args.byte c.requires.holds.begun
    c.requires.holds.kept (λ list. let early = c.requires.raw list in omega (arith, early, old.start.ok.0)) c.requires.within (same.0 (c.allows.ensures.0 c.if-not-allows.false))))
