use Rattle.std.proofs.Common.{◌≡◌, ℕ, ◌*◌, ◌<◌, List, refl, sym, ap, ◌∙◌, arith, length, flat_map, get_or, subst}
use Rattle.std.proofs.lemmas.List.{get_or_default}
use Rattle.std.proofs.lemmas.List.Elements.{All-get_or}
use Rattle.zk_model.specs.Field.{IsElement}
use Rattle.zk_model.specs.Bytes.{element_bytes}
use Rattle.zk_model.specs.Frames as model
use Rattle.zk_model.specs.Transcript.{frame_bytes}
use Rattle.zk_model.specs.declared.FrameKind.TheVariants as kind
use Rattle.zk_model.specs.declared.Expect.{Expect}
use Rattle.zk_model.specs.declared.Expect.TheVariants as expect
use Rattle.proof_frames.specs.Frames.{flattened, grant_or_refusal_in, block_or_out_in}
use Rattle.proof_frames.specs.declared.rooms.Rooms.{Rooms}
use Rattle.proof_frames.specs.Rooms.{HasRooms}
use Rattle.proof_frames.specs.Rows.{row_of}
use Rattle.proof_frames.proofs.Fields.{one_item}
use Rattle.proof_frames.proofs.Finished.{HoldsWhole, raw_payload, raw_finished, list_finished, elements_held}
use Rattle.proof_frames.proofs.Sums.{flattened_bytes}
use Rattle.proof_frames.proofs.Words.{Says, hello_said, short_hello_said, grant_said, verdict_said, poly_verdict_said, want_said, block_said, are_sums}
use Rattle.proof_frames.proofs.whole.whole_frame.Goals.{Start}
use Rattle.proof_frames.proofs.whole.whole_frame.Goals as goal

-- a whole frame is held
done : (c : Start) → HoldsWhole c.args.place c.args.held.now
done c = record { holds = c.requires.holds; whole = c.requires.whole }

pub returns-in-Hello : goal.returns-in-Hello
returns-in-Hello c =
    raw_finished c.args.place expect.Hello c.args.held.now c.payload.result.now _ c.in-Hello.is refl (done (goal.at.returns-in-Hello c).Start) c.payload.ensures
    (λ has. rw c.hello_of.ensures (hello_said _ _ has.fits))

pub returns-in-ShortHello : goal.returns-in-ShortHello
returns-in-ShortHello c =
    raw_finished c.args.place expect.ShortHello c.args.held.now c.payload-in-ShortHello.result.now _ c.in-ShortHello.is refl (done (goal.at.returns-in-ShortHello c).Start)
    c.payload-in-ShortHello.ensures (λ has. rw c.hello_of-in-ShortHello.ensures (short_hello_said 0 _ has.fits))

pub returns-in-Grant : goal.returns-in-Grant
returns-in-Grant c =
    let start : List ℕ = c.args.held.now.start.items in
    let bytes : List ℕ = c.payload-in-Grant.result.now in
    raw_finished c.args.place expect.Grant c.args.held.now bytes _ c.in-Grant.is refl (done (goal.at.returns-in-Grant c).Start) c.payload-in-Grant.ensures (λ has.
    let first : c.index.result.now ≡ get_or start 0 0 = c.index.ensures ∙ get_or_default start 0 c.index.result.now 0 (let headed = has.headed in omega arith) in
    rw c.grant_or_refusal_of.ensures (subst (λ (kind : ℕ). Says expect.Grant (row_of expect.Grant (get_or start 0 0)) bytes (grant_or_refusal_in kind bytes)) (sym first)
    (grant_said (get_or start 0 0) bytes has.fits)))

pub returns-in-Verdict : goal.returns-in-Verdict
returns-in-Verdict c =
    raw_finished c.args.place expect.Verdict c.args.held.now c.payload-in-Verdict.result.now _ c.in-Verdict.is refl (done (goal.at.returns-in-Verdict c).Start)
    c.payload-in-Verdict.ensures (λ has. rw c.verdict_of.ensures (verdict_said _ has.fits))

pub returns-in-PolyVerdict : goal.returns-in-PolyVerdict
returns-in-PolyVerdict c =
    raw_finished c.args.place expect.PolyVerdict c.args.held.now c.payload-in-PolyVerdict.result.now _ c.in-PolyVerdict.is refl (done (goal.at.returns-in-PolyVerdict c).Start)
    c.payload-in-PolyVerdict.ensures (λ has. rw c.verdict_of-in-PolyVerdict.ensures (poly_verdict_said _ has.fits))

pub returns-in-PolySums : goal.returns-in-PolySums
returns-in-PolySums c =
    list_finished c.args.place (expect.PolySums c.in-PolySums.count) c.args.held.now c.in-PolySums.count _ c.in-PolySums.is refl
    (done (goal.at.returns-in-PolySums c).Start) (λ are. rw c.give_elements-in-PolySums.ensures (record { allowed = (_, refl, are); spelled = refl }))

pub returns-in-Want : goal.returns-in-Want
returns-in-Want c =
    raw_finished c.args.place expect.Want c.args.held.now c.payload-in-Want.result.now _ c.in-Want.is refl (done (goal.at.returns-in-Want c).Start)
    c.payload-in-Want.ensures (λ has. rw c.want_of.ensures (want_said _ has.fits))

pub returns-in-Block : goal.returns-in-Block
returns-in-Block c =
    let start : List ℕ = c.args.held.now.start.items in
    let bytes : List ℕ = c.payload-in-Block.result.now in
    raw_finished c.args.place expect.Block c.args.held.now bytes _ c.in-Block.is refl (done (goal.at.returns-in-Block c).Start) c.payload-in-Block.ensures (λ has.
    let first : c.index-in-Block.result.now ≡ get_or start 0 0 = c.index-in-Block.ensures ∙ get_or_default start 0 c.index-in-Block.result.now 0 (let headed = has.headed in omega arith) in
    rw c.block_or_out_of.ensures (subst (λ (kind : ℕ). Says expect.Block (row_of expect.Block (get_or start 0 0)) bytes (block_or_out_in kind bytes)) (sym first)
    (block_said (get_or start 0 0) bytes has.fits)))

-- the room for what is handed out
rooms_at : (place stage : Expect) (rooms : Rooms) → place ≡ stage → HasRooms place rooms → HasRooms stage rooms
rooms_at place stage rooms is has = subst (λ (p : Expect). HasRooms p rooms) is has

pub trees_of-requires-clause-payload : goal.trees_of-requires-clause-payload
trees_of-requires-clause-payload c =
    let now = c.in-Ask in
    let stage : Expect = expect.Ask now.height now.trees now.units_left in
    let has = raw_payload c.args.place stage c.args.held.now c.payload-in-Ask.result.now now.is refl (done (goal.at.trees_of-requires-clause-payload c).Start) c.payload-in-Ask.ensures in
    rw (rooms_at c.args.place stage c.args.rooms.now now.is c.requires.rooms).counted has.fits

pub returns-in-Ask : goal.returns-in-Ask
returns-in-Ask c =
    let now = c.in-Ask in
    let stage : Expect = expect.Ask now.height now.trees now.units_left in
    let rooms = rooms_at c.args.place stage c.args.rooms.now now.is c.requires.rooms in
    let are : model.AreAsks now.height now.trees c.trees_of.result.items = record { counted = c.trees_of.ensures.count ∙ rooms.counted; each = c.trees_of.ensures.fits } in
    raw_finished c.args.place stage c.args.held.now c.payload-in-Ask.result.now _ now.is refl (done (goal.at.returns-in-Ask c).Start) c.payload-in-Ask.ensures
    (λ has. record { allowed = (_, refl, are); spelled = ap (frame_bytes kind.ExtendAsk) c.trees_of.ensures.spelled })

pub trees_of-trees-requires-clause-payload : goal.trees_of-trees-requires-clause-payload
trees_of-trees-requires-clause-payload c =
    let now = c.in-Reply in
    let stage : Expect = expect.Reply now.height now.trees now.units_left in
    let has = raw_payload c.args.place stage c.args.held.now c.payload-in-Reply.result.now now.is refl (done (goal.at.trees_of-trees-requires-clause-payload c).Start)
    c.payload-in-Reply.ensures in
    rw (rooms_at c.args.place stage c.args.rooms.now now.is c.requires.rooms).counted has.fits

pub returns-in-Reply : goal.returns-in-Reply
returns-in-Reply c =
    let now = c.in-Reply in
    let stage : Expect = expect.Reply now.height now.trees now.units_left in
    let rooms = rooms_at c.args.place stage c.args.rooms.now now.is c.requires.rooms in
    let are : model.AreReplies now.height now.trees c.trees_of-trees.result.items = record { counted = c.trees_of-trees.ensures.count ∙ rooms.counted; each = c.trees_of-trees.ensures.fits } in
    raw_finished c.args.place stage c.args.held.now c.payload-in-Reply.result.now _ now.is refl (done (goal.at.returns-in-Reply c).Start) c.payload-in-Reply.ensures
    (λ has. record { allowed = (_, refl, are); spelled = ap (frame_bytes kind.ExtendReply) c.trees_of-trees.ensures.spelled })

pub returns-in-Corrections : goal.returns-in-Corrections
returns-in-Corrections c =
    list_finished c.args.place (expect.Corrections c.in-Corrections.count) c.args.held.now c.in-Corrections.count _ c.in-Corrections.is refl
    (done (goal.at.returns-in-Corrections c).Start) (λ are. rw c.give_elements.ensures (record { allowed = (_, refl, are); spelled = refl }))

pub returns-in-Openings : goal.returns-in-Openings
returns-in-Openings c =
    list_finished c.args.place (expect.Openings c.in-Openings.count) c.args.held.now c.in-Openings.count _ c.in-Openings.is refl
    (done (goal.at.returns-in-Openings c).Start) (λ are. rw c.give_elements-in-Openings.ensures (record { allowed = (_, refl, are); spelled = refl }))

pub returns-in-Challenge : goal.returns-in-Challenge
returns-in-Challenge c =
    let elements : List ℕ = c.args.held.now.elements.items in
    let element : ℕ = c.index-in-Challenge.result.now in
    list_finished c.args.place expect.Challenge c.args.held.now 1 (model.challenge element) c.in-Challenge.is refl
    (done (goal.at.returns-in-Challenge c).Start) (λ are.
    let some : 0 < length elements = let counted = are.counted in omega arith in
    let first : element ≡ get_or elements 0 0 = c.index-in-Challenge.ensures ∙ get_or_default elements 0 element 0 some in
    record {
      allowed = (element, refl, subst IsElement (sym first) (All-get_or IsElement elements 0 0 some are.ranged));
      spelled = ap (frame_bytes kind.Challenge) (ap element_bytes first ∙ ap (flat_map element_bytes) (sym (one_item elements are.counted)));
    })

pub pairs_of-requires-clause-room : goal.pairs_of-requires-clause-room
pairs_of-requires-clause-room c =
    let sized = elements_held c.args.place (expect.Sums c.in-Sums.sections) c.args.held.now (2 * c.in-Sums.sections) c.in-Sums.is refl
    (done (goal.at.pairs_of-requires-clause-room c).Start) in
    let room = rooms_at c.args.place (expect.Sums c.in-Sums.sections) c.args.rooms.now c.in-Sums.is c.requires.rooms in
    omega (arith, sized, room.1, ap length c.deref.ensures.value)

pub returns-in-Sums : goal.returns-in-Sums
returns-in-Sums c =
    let both : List (ℕ × ℕ) = c.pairs_of.result.items in
    list_finished c.args.place (expect.Sums c.in-Sums.sections) c.args.held.now (2 * c.in-Sums.sections) _ c.in-Sums.is refl
    (done (goal.at.returns-in-Sums c).Start) (λ are.
    let given = c.deref.ensures.value in
    let flat : c.args.held.now.elements.items ≡ flattened both = sym given ∙ (c.pairs_of.ensures c.in-Sums.sections (ap length given ∙ are.counted)).0 in
    record {
      allowed = (both, refl, are_sums c.in-Sums.sections both (subst (model.AreElements (2 * c.in-Sums.sections)) flat are));
      spelled = ap (frame_bytes kind.Sums) (sym (flattened_bytes both) ∙ ap (flat_map element_bytes) (sym flat));
    })
