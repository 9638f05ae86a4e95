use Rattle.std.proofs.Common.{map, replicate, length, arith, ap, sym, subst, ◌-◌, ◌++◌, ◌≡◌, ◌∙◌, List}
use Rattle.std.proofs.lemmas.List.{length-map, map-append, take_all}
use Rattle.wire_auth.specs.Walks.{AreHeldAt}
use Rattle.wire_auth.proofs.HeldNumbers.{few_first, first_held}
use Rattle.wire_auth.proofs.walking.first_slots.Goals as goal

pub returns-clause-held : goal.returns-clause-held
returns-clause-held g c which is wires are =
    subst (AreHeldAt c.args.program.now is.places 0 wires)
    (sym (ap (map (g.N.Carried.part which)) items ∙ map-append (g.N.Carried.part which) c.args.first.items rest))
    (first_held c.args.program.now c.args.plan.now is (map (g.N.Carried.part which) c.args.first.items) (map (g.N.Carried.part which) rest) wires
    (length-map c.args.first.items (g.N.Carried.part which) ∙ c.requires.first) are)
  where
    rest : List g.row.N.Denot
    rest = replicate (c.slots.result - length c.args.first.items) c.nothing.result

    items : c.resize.new.self.items ≡ c.args.first.items ++ rest
    items = c.in_ok-resize.ensures.items
        ∙ (λ i. take_all c.slots.result c.args.first.items
        (let few = few_first c.args.program.now c.args.plan.now is in omega (arith, few, c.slots.ensures, c.requires.first)) i
        ++ replicate (c.slots.result - c.args.first.ok.0 i) c.nothing.result)
