use Rattle.std.proofs.Common.{◌≡◌, ◌<◌, ◌+◌, ◌++◌, ◌∷◌, suc, length, take, drop, slice_set, ap, subst, sym, ◌∙◌, arith, rules}
use Rattle.claim_store.specs.Ranges.{with_span}
use Rattle.claim_store.proofs.Places.{one_joined, two_joined}
use Rattle.claim_store.proofs.ranges.add_span.Goals as goal

pub returns-then-first-end-2 : goal.returns-then-first-end-2
returns-then-first-end-2 c =
    let r = c.find_joined-first.result in
    let e = c.find_joined-first.ensures in
    let ranges = c.args.ranges.now.items in
    let more : r.first + 1 < r.end = search rules in
    let two : suc (suc r.first) ≡ r.end = omega (arith, more, e.place) in
    let removed : c.remove-joined.new.self.items ≡ take (suc r.first) (slice_set ranges r.first r.span) ++ drop (suc (suc r.first)) (slice_set ranges r.first r.span) = search rules in
    let at : c.deref.result.now ≡ ranges = c.deref.ensures.value in
    let joined : with_span c.args.span ranges ≡ take r.first ranges ++ r.span ∷ drop r.end ranges =
    subst (λ l. with_span c.args.span l ≡ take r.first l ++ r.span ∷ drop r.end l) at e.joined in
    removed
    ∙ two_joined ranges r.first r.span (omega (arith, more, e.place, e.within, ap length at))
    ∙ ap (λ n. take r.first ranges ++ r.span ∷ drop n ranges) two
    ∙ sym joined

pub returns-else-first-end-2 : goal.returns-else-first-end-2
returns-else-first-end-2 c =
    let r = c.find_joined-first.result in
    let e = c.find_joined-first.ensures in
    let ranges = c.args.ranges.now.items in
    let one : r.first + 1 ≡ r.end = omega (arith, c.if-first-end.false, c.if-first-end-2.false, e.place) in
    let at : c.deref.result.now ≡ ranges = c.deref.ensures.value in
    let joined : with_span c.args.span ranges ≡ take r.first ranges ++ r.span ∷ drop r.end ranges =
    subst (λ l. with_span c.args.span l ≡ take r.first l ++ r.span ∷ drop r.end l) at e.joined in
    one_joined ranges r.first r.span (omega (arith, one, e.place, e.within, ap length at))
    ∙ ap (λ n. take r.first ranges ++ r.span ∷ drop n ranges) one
    ∙ sym joined
