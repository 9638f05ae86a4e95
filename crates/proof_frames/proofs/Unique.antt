-- The frames that a place allows are told by their bytes.
use Rattle.std.proofs.Common.{◌≡◌, ℕ, inl, inr, [], ◌++◌, drop, get_or, sym, ◌∙◌, ap, arith, append-nil}
use Rattle.std.specs.Int.{w32, to_le_bytes}
use Rattle.std.proofs.lemmas.Nat.{from_le_bytes-to_le_bytes_4, from_le_bytes-to_le_bytes_8}
use Rattle.frame_laws.proofs.Codes.{IsCode, word32_code, word64_code, element_code, frame_code}
use Rattle.frame_laws.proofs.FrameCodes.{hello_code, asks_code, replies_code, elements_code, sums_code}
use Rattle.zk_model.specs.Field.{IsElement}
use Rattle.zk_model.specs.Bytes.{element_bytes}
use Rattle.zk_model.specs.Transcript.{BeginsWith, Grant, IsHello, grant_frame, verdict_frame, refuse_frame}
use Rattle.zk_model.specs.Messages.{FitsWant, FitsBlock, FitsOut, want_frame, block_frame, out_frame}
use Rattle.zk_model.specs.declared.messages.Block.{Block}
use Rattle.zk_model.specs.declared.messages.Out.{Out}
use Rattle.zk_model.specs.Frames as model
use Rattle.zk_model.specs.Frames.{Frame, FitsGrant, FitsRefusal, FitsVerdict, FitsPolyVerdict, AreAsks, AreReplies, AreElements, AreSums, frame_spelling}
use Rattle.zk_model.specs.declared.Expect.TheVariants as expect
use Rattle.zk_model.specs.declared.FrameKind.TheVariants as kind
use Rattle.proof_frames.specs.Frames.{want_in, block_in, out_in}
use Rattle.proof_frames.specs.Laws.{OneFrame, NoneBeginsAnother}
use Rattle.proof_frames.proofs.Words.{want_again}

-- ---- values that their frames tell

grant_code : IsCode grant_frame FitsGrant
grant_code x y ps qs left right same =
    let counts = λ (grant : Grant). to_le_bytes w32 grant.count in
    let sections = λ (grant : Grant). to_le_bytes w32 grant.section_length in
    let start = word64_code x.start y.start (counts x ++ (sections x ++ ps)) (counts y ++ (sections y ++ qs)) left.start right.start (ap (drop 5) same) in
    let count = word32_code x.count y.count (sections x ++ ps) (sections y ++ qs) left.count right.count start.1 in
    let section = word32_code x.section_length y.section_length ps qs left.section_length right.section_length count.1 in
    (λ i. record { start = start.0 i; count = count.0 i; section_length = section.0 i }, section.1)

verdict_code : IsCode (λ (said : ℕ × ℕ). verdict_frame said.0 said.1) (λ said. FitsVerdict said.0 said.1)
verdict_code x y ps qs left right same =
    let number = word32_code x.1 y.1 ps qs left.numbered right.numbered (ap (drop 6) same) in
    let code : x.0 ≡ y.0 = ap (λ l. get_or l 5 0) same in
    (λ i. (code i, number.0 i), number.1)

poly_verdict_code : IsCode (λ (said : ℕ × ℕ). verdict_frame said.0 said.1) (λ said. FitsPolyVerdict said.0 said.1)
poly_verdict_code x y ps qs left right same =
    let number = word32_code x.1 y.1 ps qs left.numbered right.numbered (ap (drop 6) same) in
    let code : x.0 ≡ y.0 = ap (λ l. get_or l 5 0) same in
    (λ i. (code i, number.0 i), number.1)

refusal_code : IsCode refuse_frame FitsRefusal
refusal_code x y ps qs left right same = (ap (λ l. get_or l 5 0) same, ap (drop 6) same)

want_code : IsCode want_frame FitsWant
want_code x y ps qs left right same = (sym (want_again x left) ∙ ap (λ l. want_in (drop 5 l)) same ∙ want_again y right, ap (drop 21) same)

block_code : IsCode block_frame FitsBlock
block_code x y ps qs left right same =
    (sym (again x left) ∙ ap (λ l. block_in (drop 5 l)) same ∙ again y right, ap (drop 29) same)
  where
    again : (block : Block) → FitsBlock block → block_in (drop 5 (block_frame block)) ≡ block
    again block is = λ i. record {
      node = from_le_bytes-to_le_bytes_4 block.node is.node i;
      number = from_le_bytes-to_le_bytes_8 block.number is.number i;
      start = from_le_bytes-to_le_bytes_8 block.start is.start i;
      count = from_le_bytes-to_le_bytes_4 block.count is.count i;
    }

out_code : IsCode out_frame FitsOut
out_code x y ps qs left right same = (sym (again x left) ∙ ap (λ l. out_in (drop 5 l)) same ∙ again y right, ap (drop 25) same)
  where
    again : (out : Out) → FitsOut out → out_in (drop 5 (out_frame out)) ≡ out
    again out is = λ i. record {
      node = from_le_bytes-to_le_bytes_4 out.node is.node i;
      number = from_le_bytes-to_le_bytes_8 out.number is.number i;
      at = from_le_bytes-to_le_bytes_8 out.at is.at i;
    }

-- ---- frames

-- the bytes of a frame and of another in front of more
facing : (one other a b : Frame) → one ≡ a → other ≡ b → (begun : BeginsWith (frame_spelling one) (frame_spelling other))
    → frame_spelling a ++ [] ≡ frame_spelling b ++ begun.0
facing one other a b is is_too begun =
    append-nil (frame_spelling a) ∙ ap frame_spelling (sym is) ∙ begun.1 ∙ ap (λ f. frame_spelling f ++ begun.0) is_too

by_code : {A : Type 0} (frame_of : A → Frame) (P : A → Type 0) → IsCode (λ value. frame_spelling (frame_of value)) P → (one other : Frame)
    → ((value : A) × (one ≡ frame_of value) × P value) → ((value : A) × (other ≡ frame_of value) × P value) → BeginsWith (frame_spelling one) (frame_spelling other) → one ≡ other
by_code frame_of P code one other a b begun =
    a.1 ∙ ap frame_of (code a.0 b.0 [] begun.0 a.2 b.2 (facing one other (frame_of a.0) (frame_of b.0) a.1 b.1 begun)).0 ∙ sym b.1

pub none_begins_another : NoneBeginsAnother
none_begins_another expect.Hello one other a b = by_code model.hello IsHello hello_code one other a b
none_begins_another expect.ShortHello one other a b = by_code model.hello IsHello hello_code one other (a.0, a.1, a.2) (b.0, b.1, b.2)
none_begins_another expect.Grant one other (inl a) (inl b) = by_code model.grant FitsGrant grant_code one other a b
none_begins_another expect.Grant one other (inl a) (inr b) = λ begun.
    let kinds : 2 ≡ 10 = ap (λ l. get_or l 0 0) (facing one other (model.grant a.0) (model.refuse b.0) a.1 b.1 begun) in
    absurd (omega (arith, kinds))
none_begins_another expect.Grant one other (inr a) (inl b) = λ begun.
    let kinds : 10 ≡ 2 = ap (λ l. get_or l 0 0) (facing one other (model.refuse a.0) (model.grant b.0) a.1 b.1 begun) in
    absurd (omega (arith, kinds))
none_begins_another expect.Grant one other (inr a) (inr b) = by_code model.refuse FitsRefusal refusal_code one other a b
none_begins_another (expect.Ask height trees left) one other a b = by_code model.asks (AreAsks height trees)
    (λ x y ps qs is is_too. asks_code height trees x y ps qs (is.counted, is.each) (is_too.counted, is_too.each)) one other a b
none_begins_another (expect.Reply height trees left) one other a b = by_code model.replies (AreReplies height trees)
    (λ x y ps qs is is_too. replies_code height trees x y ps qs (is.counted, is.each) (is_too.counted, is_too.each)) one other a b
none_begins_another (expect.Corrections count) one other a b = by_code model.corrections (AreElements count)
    (λ x y ps qs is is_too. elements_code kind.Corrections count x y ps qs (is.counted, is.ranged) (is_too.counted, is_too.ranged)) one other a b
none_begins_another expect.Challenge one other a b =
    by_code model.challenge IsElement (frame_code element_bytes IsElement kind.Challenge element_code) one other a b
none_begins_another (expect.Sums sections) one other a b = by_code model.sums (AreSums sections)
    (λ x y ps qs is is_too. sums_code sections x y ps qs (is.counted, is.ranged) (is_too.counted, is_too.ranged)) one other a b
none_begins_another (expect.Openings count) one other a b = by_code model.openings (AreElements count)
    (λ x y ps qs is is_too. elements_code kind.Openings count x y ps qs (is.counted, is.ranged) (is_too.counted, is_too.ranged)) one other a b
none_begins_another expect.Verdict one other a b =
    by_code (λ (said : ℕ × ℕ). model.verdict said.0 said.1) (λ said. FitsVerdict said.0 said.1) verdict_code one other ((a.0, a.1), a.2, a.3) ((b.0, b.1), b.2, b.3)
none_begins_another (expect.PolySums count) one other a b = by_code model.poly_sums (AreElements count)
    (λ x y ps qs is is_too. elements_code kind.Sums count x y ps qs (is.counted, is.ranged) (is_too.counted, is_too.ranged)) one other a b
none_begins_another expect.PolyVerdict one other a b =
    by_code (λ (said : ℕ × ℕ). model.verdict said.0 said.1) (λ said. FitsPolyVerdict said.0 said.1) poly_verdict_code one other ((a.0, a.1), a.2, a.3) ((b.0, b.1), b.2, b.3)
none_begins_another expect.Want one other a b = by_code model.want FitsWant want_code one other a b
none_begins_another expect.Block one other (inl a) (inl b) = by_code model.block FitsBlock block_code one other a b
none_begins_another expect.Block one other (inl a) (inr b) = λ begun.
    let kinds : 12 ≡ 13 = ap (λ l. get_or l 0 0) (facing one other (model.block a.0) (model.out b.0) a.1 b.1 begun) in
    absurd (omega (arith, kinds))
none_begins_another expect.Block one other (inr a) (inl b) = λ begun.
    let kinds : 13 ≡ 12 = ap (λ l. get_or l 0 0) (facing one other (model.out a.0) (model.block b.0) a.1 b.1 begun) in
    absurd (omega (arith, kinds))
none_begins_another expect.Block one other (inr a) (inr b) = by_code model.out FitsOut out_code one other a b

pub one_frame : OneFrame
one_frame place bytes one other is is_too =
    none_begins_another place one other is.allowed is_too.allowed
    ([], sym is.spelled ∙ is_too.spelled ∙ sym (append-nil (frame_spelling other)))
