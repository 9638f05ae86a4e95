-- How frames pass, one by one.
use Rattle.std.proofs.Common.{◌≡◌, ◌⊎◌, ◌+◌, ◌^◌, ◌<◌, ◌≤◌, inl, inr, Bool, true, false, if◌then◌else◌, Option, Some, None, List, [], ◌∷◌, ◌++◌, drop, refl, sym, ◌∙◌, ap, subst, arith}
use Rattle.std.specs.Prelude.{All, IfSome, IsSomeAnd, map}
use Rattle.std.proofs.lemmas.List.{map-append}
use Rattle.std.proofs.lemmas.List.Elements.{All-rest, All-drop, All-head, All-push}
use Rattle.frame_link.proofs.LineLemmas.{longest, frame_most}
use Rattle.proof_frames.specs.declared.frame.Frame as coded
use Rattle.proof_frames.specs.Frames.{frame_value}
use Rattle.zk_model.specs.declared.limits.TheConstants.{MAX_PAYLOAD}
use Rattle.zk_model.specs.Transcript.{Grant, same_side}
use Rattle.zk_model.specs.Frames.{Frame, hello, grant, asks, replies, corrections, challenge, sums, openings, verdict, refuse, poly_sums, want, block, out, frame_spelling, Allows}
use Rattle.zk_model.specs.declared.Expect.{Expect}
use Rattle.zk_model.specs.declared.Expect.TheVariants as expect
use Rattle.zk_model.specs.declared.Side.{Side}
use Rattle.zk_model.specs.declared.Side.TheVariants.{Prover, Verifier}
use Rattle.frame_link.specs.Sides.{peer_of}
use Rattle.proof_frames.specs.Frames.{IsShort}
use Rattle.proof_frames.specs.Readings.{IsShortPlace}
use Rattle.proof_frames.proofs.Lengths.{whole_length}
use Rattle.session_script.specs.declared.after.After.{After}
use Rattle.session_script.specs.declared.after.After.TheVariants.{Behind, Nothing, Rest}
use Rattle.session_script.specs.Scripts.{side_at, said_by, Says, after_in, left_after, next_of, own_of, place_weight, weight, weight_after, Rules, Stage, stage_of, Fits, Passes, Reached, FailsThere, AnswerFails, TurnsDown}
use Rattle.session_script.specs.declared.fault.EndFault.{EndFault}
use Rattle.session_script.specs.declared.fault.EndFault.TheVariants.{NoMemory}

-- ---- places

pub next_front : (places : List Expect) (place : Expect) → next_of places ≡ Some place → places ≡ place ∷ drop 1 places
next_front [] place next = cc
next_front (first ∷ places) place next = cc

own_case : (side : Side) (first place : Expect) (same : Bool) → same_side side (side_at first) ≡ same
    → (if same then Some first else None) ≡ Some place → (first ≡ place) × (same_side side (side_at place) ≡ true)
own_case side first place true is own = let e : first ≡ place = cc in (e, ap (λ p. same_side side (side_at p)) (sym e) ∙ is)
own_case side first place false is own = cc

same_is : (one other : Side) → same_side one other ≡ true → other ≡ one
same_is Prover Prover is = refl
same_is Prover Verifier is = cc
same_is Verifier Prover is = cc
same_is Verifier Verifier is = refl

differs_is : (one other : Side) → same_side one other ≡ false → other ≡ peer_of one
differs_is Prover Prover is = cc
differs_is Prover Verifier is = refl
differs_is Verifier Prover is = refl
differs_is Verifier Verifier is = cc

pub own_front : (side : Side) (places : List Expect) (place : Expect) → own_of side places ≡ Some place
    → (places ≡ place ∷ drop 1 places) × (side_at place ≡ side)
own_front side [] place own = cc
own_front side (first ∷ places) place own =
    let found = own_case side first place (same_side side (side_at first)) refl own in
    (ap (λ p. p ∷ places) found.0, same_is side (side_at place) found.1)

peers_case : (side : Side) (first : Expect) (same : Bool) → same_side side (side_at first) ≡ same
    → (if same then Some first else None) ≡ None → side_at first ≡ peer_of side
peers_case side first true is own = cc
peers_case side first false is own = differs_is side (side_at first) is

-- where the next place is not one's own, it is the peer's
pub peers : (side : Side) (place : Expect) (places : List Expect) → own_of side (place ∷ places) ≡ None → side_at place ≡ peer_of side
peers side place places own = peers_case side place (same_side side (side_at place)) refl own

-- ---- frames

pub allowed_side : (place : Expect) (frame : Frame) → Allows place frame → said_by frame ≡ side_at place
allowed_side expect.Hello frame allowed = ap said_by allowed.1
allowed_side expect.ShortHello frame allowed = ap said_by allowed.1
allowed_side expect.Grant frame (inl allowed) = ap said_by allowed.1
allowed_side expect.Grant frame (inr allowed) = ap said_by allowed.1
allowed_side (expect.Ask height trees left) frame allowed = ap said_by allowed.1
allowed_side (expect.Reply height trees left) frame allowed = ap said_by allowed.1
allowed_side (expect.Corrections count) frame allowed = ap said_by allowed.1
allowed_side expect.Challenge frame allowed = ap said_by allowed.1
allowed_side (expect.Sums sections) frame allowed = ap said_by allowed.1
allowed_side (expect.Openings count) frame allowed = ap said_by allowed.1
allowed_side expect.Verdict frame allowed = ap said_by allowed.2
allowed_side (expect.PolySums count) frame allowed = ap said_by allowed.1
allowed_side expect.PolyVerdict frame allowed = ap said_by allowed.2
allowed_side expect.Want frame allowed = ap said_by allowed.1
allowed_side expect.Block frame (inl allowed) = ap said_by allowed.1
allowed_side expect.Block frame (inr allowed) = ap said_by allowed.1

pub granting : (frame : Frame) (given : Grant) → after_in frame ≡ Behind given → frame ≡ grant given
granting (grant other) given is = cc
granting (hello said) given is = cc
granting (asks said) given is = cc
granting (replies said) given is = cc
granting (corrections elements) given is = cc
granting (challenge element) given is = cc
granting (sums both) given is = cc
granting (openings macs) given is = cc
granting (verdict code number) given is = cc
granting (refuse code) given is = cc
granting (poly_sums elements) given is = cc
granting (want said) given is = cc
granting (block other) given is = cc
granting (out said) given is = cc

-- a frame takes a place
by_after : (place : Expect) (rest new : List Expect) (after : After) → (place_weight place ≡ 2 ^ 24 + 1) ⊎ (after ≡ Rest)
    → weight new ≤ weight_after after (weight rest) → weight new < weight (place ∷ rest)
by_after place rest new (Behind given) (inl heavy) few = omega (arith, heavy, few)
by_after place rest new (Behind given) (inr is) few = cc
by_after place rest new Nothing (inl heavy) few = omega (arith, heavy, few)
by_after place rest new Nothing (inr is) few = cc
by_after place rest new Rest is few = omega (arith, some place, few)
  where
    some : (place : Expect) → 1 ≤ place_weight place
    some expect.Grant = omega arith
    some place = omega arith

pub fewer : (place : Expect) (rest new : List Expect) (frame : Frame) → Allows place frame
    → weight new ≤ weight_after (after_in frame) (weight rest) → weight new < weight (place ∷ rest)
fewer place rest new frame allowed few = by_after place rest new (after_in frame) (at place allowed) few
  where
    at : (place : Expect) → Allows place frame → (place_weight place ≡ 2 ^ 24 + 1) ⊎ (after_in frame ≡ Rest)
    at expect.Hello allowed = inr (ap after_in allowed.1)
    at expect.ShortHello allowed = inr (ap after_in allowed.1)
    at expect.Grant allowed = inl refl
    at (expect.Ask height trees left) allowed = inr (ap after_in allowed.1)
    at (expect.Reply height trees left) allowed = inr (ap after_in allowed.1)
    at (expect.Corrections count) allowed = inr (ap after_in allowed.1)
    at expect.Challenge allowed = inr (ap after_in allowed.1)
    at (expect.Sums sections) allowed = inr (ap after_in allowed.1)
    at (expect.Openings count) allowed = inr (ap after_in allowed.1)
    at expect.Verdict allowed = inr (ap after_in allowed.2)
    at (expect.PolySums count) allowed = inr (ap after_in allowed.1)
    at expect.PolyVerdict allowed = inr (ap after_in allowed.2)
    at expect.Want allowed = inr (ap after_in allowed.1)
    at expect.Block (inl allowed) = inr (ap after_in allowed.1)
    at expect.Block (inr allowed) = inr (ap after_in allowed.1)

-- one more
pub passes_more : {K F : Type 0} (rules : Rules K F) (old mid new : Stage K) (frames : List Frame) (frame : Frame)
    → Passes rules old frames mid → Fits rules mid frame new → Passes rules old (frames ++ frame ∷ []) new
passes_more rules old mid new [] frame passes fits = (new, subst (λ s. Fits rules s frame new) passes fits, refl)
passes_more rules old mid new (first ∷ frames) frame passes fits = (passes.0, passes.1, passes_more rules passes.0 mid new frames frame passes.2 fits)

pub says_more : (side : Side) (frames : List Frame) (frame : Frame) → Says side frames → said_by frame ≡ side → Says side (frames ++ frame ∷ [])
says_more side [] frame says said = (said, tt)
says_more side (first ∷ frames) frame says said = (says.0, says_more side frames frame says.1 said)

longest_short : (place : Expect) → IsShortPlace place → longest place ≤ MAX_PAYLOAD + 5
longest_short expect.Hello short = omega arith
longest_short expect.Grant short = omega arith
longest_short expect.Challenge short = omega arith
longest_short expect.Verdict short = omega arith
longest_short expect.Block short = omega arith
longest_short other short = short

-- a frame of a short place is short
pub short_frame : (place : Expect) (frame : Frame) → IsShortPlace place → Allows place frame → IsShort frame
short_frame place frame short allowed =
    let whole = whole_length place (frame_spelling frame) frame (record { allowed = allowed; spelled = refl }) in
    omega (arith, whole, frame_most place (frame_spelling frame), longest_short place short)

pub rest_short : (places rest : List Expect) (place : Expect) → places ≡ place ∷ rest → All IsShortPlace places → All IsShortPlace rest
rest_short places rest place is short = All-rest IsShortPlace place rest places is short

pub drop_short : (places rest : List Expect) → rest ≡ drop 1 places → All IsShortPlace places → All IsShortPlace rest
drop_short places rest is short = subst (All IsShortPlace) (sym is) (All-drop IsShortPlace 1 places short)

pub head_short : (places : List Expect) (place : Expect) → places ≡ place ∷ drop 1 places → All IsShortPlace places → IsShortPlace place
head_short places place is short = All-head IsShortPlace place (drop 1 places) (subst (All IsShortPlace) is short)

-- a frame that was said
pub said_fits : {K F : Type 0} (rules : Rules K F) (known now : K) (places rest new : List Expect) (place : Expect) (frame : Frame)
    → places ≡ place ∷ drop 1 places → rest ≡ drop 1 places → Allows place frame → rules.passes known frame now
    → new ≡ left_after rules.behind rest (after_in frame) → Fits rules (stage_of known places) frame (stage_of now new)
said_fits rules known now places rest new place frame next popped allowed passes left = record {
  place = place;
  places = drop 1 places;
  next = next;
  allowed = allowed;
  passes = passes;
  left = left ∙ ap (λ l. left_after rules.behind l (after_in frame)) popped;
}

-- frames that were said, one more
module _ (now frames : List coded.Frame) (frame : coded.Frame) (is : now ≡ frames ++ frame ∷ []) where
  mapped : map frame_value frames ++ frame_value frame ∷ [] ≡ map frame_value now
  mapped = sym (ap (map frame_value) is ∙ map-append frame_value frames (frame ∷ []))

  pub answer_more : {K F : Type 0} (rules : Rules K F) (old mid new : Stage K) → Passes rules old (map frame_value frames) mid
      → Fits rules mid (frame_value frame) new → Passes rules old (map frame_value now) new
  answer_more rules old mid new passes fits =
      subst (λ l. Passes rules old l new) mapped (passes_more rules old mid new (map frame_value frames) (frame_value frame) passes fits)

  pub own_more : (side : Side) → Says side (map frame_value frames) → said_by (frame_value frame) ≡ side → Says side (map frame_value now)
  own_more side says said = subst (Says side) mapped (says_more side (map frame_value frames) (frame_value frame) says said)

  pub all_more : All IsShort (map frame_value frames) → IsShort (frame_value frame) → All IsShort (map frame_value now)
  all_more shorts short = subst (All IsShort) mapped (All-push IsShort (map frame_value frames) (frame_value frame) shorts short)

pub next_short : (places : List Expect) (next : Option Expect) → next ≡ next_of places → All IsShortPlace places → IfSome next IsShortPlace
next_short [] next is short = subst (λ o. IfSome o IsShortPlace) (sym is) tt
next_short (place ∷ places) next is short = subst (λ o. IfSome o IsShortPlace) (sym is) (All-head IsShortPlace place places short)

-- ---- what some frames lead to

pub passes_on : {K F : Type 0} (rules : Rules K F) (old mid new : Stage K) (frames others : List Frame) → Passes rules old frames mid
    → Passes rules mid others new → Passes rules old (frames ++ others) new
passes_on rules old mid new [] others passes more = subst (λ s. Passes rules s others new) passes more
passes_on rules old mid new (frame ∷ frames) others passes more = (passes.0, passes.1, passes_on rules passes.0 mid new frames others passes.2 more)

pub reached_on : {K F : Type 0} (rules : Rules K F) (mid new : Stage K) (frames : List Frame) → Reached rules mid → Passes rules mid frames new
    → Reached rules new
reached_on rules mid new frames reached passes = record {
  start = reached.start;
  begins = reached.begins;
  frames = reached.frames ++ frames;
  passed = passes_on rules (stage_of reached.start rules.places) mid new reached.frames frames reached.passed passes;
}

-- at the place that comes next
pub reached_at : {K F : Type 0} (rules : Rules K F) (known : K) (places rest : List Expect) (place : Expect) → places ≡ place ∷ rest
    → Reached rules (stage_of known places) → (more : List Expect) × Reached rules (stage_of known (place ∷ more))
reached_at rules known places rest place is reached = (rest, subst (λ l. Reached rules (stage_of known l)) is reached)

-- ---- what stops an end

-- frames pass, and then others, behind which it stops
pub fails_on : {K F : Type 0} (side : Side) (rules : Rules K F) (old mid : Stage K) (frames others : List Frame) (fault : EndFault F) (known : K)
    → Passes rules old frames mid → AnswerFails side rules mid others fault known → AnswerFails side rules old (frames ++ others) fault known
fails_on side rules old mid frames others fault known passes fails = record {
  stage = fails.stage;
  passes = passes_on rules old mid fails.stage frames others passes fails.passes;
  fails = fails.fails;
}

pub says_on : (side : Side) (frames others : List Frame) → Says side frames → Says side others → Says side (frames ++ others)
says_on side [] others says more = more
says_on side (frame ∷ frames) others says more = (says.0, says_on side frames others says.1 more)

-- memory is missing behind a frame that passed
pub lacks_behind : {K F : Type 0} (side : Side) (rules : Rules K F) (old : Stage K) (frame : Frame) (known : K) (places : List Expect) (fault : EndFault F)
    → fault ≡ NoMemory → Fits rules old frame (stage_of known places) → AnswerFails side rules old (frame ∷ []) fault known
lacks_behind side rules old frame known places fault is fits = record {
  stage = stage_of known places;
  passes = (stage_of known places, fits, refl);
  fails = subst (λ f. FailsThere side rules (stage_of known places) f known) (sym is) refl;
}

-- what stopped it behind frames that passed
pub stopped_behind : {K F : Type 0} (side : Side) (rules : Rules K F) (old mid : Stage K) (frames : List Frame) (fault : EndFault F) (known : K)
    → Passes rules old frames mid → Says side frames
    → ((said : List Frame) × Says side said × AnswerFails side rules mid said fault known)
    → (said : List Frame) × Says side said × AnswerFails side rules old said fault known
stopped_behind side rules old mid frames fault known passes says fails =
    (frames ++ fails.0, says_on side frames fails.0 says fails.1, fails_on side rules old mid frames fails.0 fault known passes fails.2)

-- memory is missing behind a frame of one's own
pub lacks_said : {K F : Type 0} (side : Side) (rules : Rules K F) (old : Stage K) (frame : Frame) (now : K) (place : Expect)
    → own_of side old.left ≡ Some place → Allows place frame → rules.passes old.known frame now
    → (said : List Frame) × Says side said × AnswerFails side rules old said NoMemory now
lacks_said side rules old frame now place own allowed passes =
    let front = own_front side old.left place own in (
      frame ∷ [],
      (allowed_side place frame allowed ∙ front.1, tt),
      lacks_behind side rules old frame now (left_after rules.behind (drop 1 old.left) (after_in frame)) NoMemory refl (record {
        place = place;
        places = drop 1 old.left;
        next = front.0;
        allowed = allowed;
        passes = passes;
        left = refl;
      }),
    )

-- or behind one of the peer's
pub down_behind : {K F : Type 0} (side : Side) (rules : Rules K F) (old : Stage K) (frame : Frame) (now : K) (place : Expect) (rest : List Expect)
    → old.left ≡ place ∷ rest → Allows place frame → rules.passes old.known frame now → TurnsDown side rules old frame NoMemory now
down_behind side rules old frame now place rest next allowed passes =
    inr (
      [],
      tt,
      lacks_behind side rules old frame now (left_after rules.behind rest (after_in frame)) NoMemory refl (record {
        place = place;
        places = rest;
        next = next;
        allowed = allowed;
        passes = passes;
        left = refl;
      }),
    )

pub allowed_next : (places : List Expect) (place : Expect) (rest : List Expect) (frame : Frame) → places ≡ place ∷ rest
    → IsSomeAnd (next_of places) (λ p. Allows p frame) → Allows place frame
allowed_next places place rest frame is expected = subst (λ l. IsSomeAnd (next_of l) (λ p. Allows p frame)) is expected

-- a frame that was said is lost
pub lost_behind : {K F : Type 0} (side : Side) (rules : Rules K F) (old mid new : Stage K) (frames : List Frame) (frame : Frame)
    → Passes rules old frames mid → Says side frames → said_by frame ≡ side → Fits rules mid frame new
    → (said : List Frame) × Says side said × AnswerFails side rules old said NoMemory new.known
lost_behind side rules old mid new frames frame passes says said fits = (
  frames ++ frame ∷ [],
  says_more side frames frame says said,
  record {
    stage = new;
    passes = passes_more rules old mid new frames frame passes fits;
    fails = refl;
  },
)
