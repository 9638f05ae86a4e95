-- What a verifier knows at each place of its session, from the frames that led there.
use Rattle.std.proofs.Common.{◌≡◌, ◌⊎◌, ℕ, zero, suc, inl, inr, Some, List, [], ◌∷◌, ◌++◌, map, flat_map, length, ◌+◌, ◌-◌, ◌<◌, ◌≤◌, refl, sym, ◌∙◌, ap, subst, arith, append_assoc, append-nil}
use Rattle.std.specs.Prelude.{All}
use Rattle.std.specs.List.{range_with_len}
use Rattle.std.proofs.lemmas.List.{length_push}
use Rattle.std.proofs.lemmas.List.Elements.{All-nil, All-push, All-rest}
use Rattle.zk_model.specs.Audit.{round_places}
use Rattle.zk_model.specs.Correlations.{span_keys}
use Rattle.zk_model.specs.Field.{IsElement, from_word}
use Rattle.zk_model.specs.Files.{VerifierFile, IsVerifierFile, rounds_of}
use Rattle.zk_model.specs.Frames.{Frame, hello, grant, asks, replies, corrections, challenge, sums, openings, poly_sums, verdict, refuse, Allows, AreAsks, AreReplies, AreElements}
use Rattle.zk_model.specs.ServedVerifier.{round_replies}
use Rattle.zk_model.specs.Transcript.{Hello, Grant, TreeAsk, TreeReply, IsTreeAsk, IsTreeReply}
use Rattle.zk_model.specs.View.{span_of}
use Rattle.zk_model.specs.declared.Expect.{Expect}
use Rattle.zk_model.specs.declared.Expect.TheVariants as expect
use Rattle.zk_model.specs.declared.Kind.{Kind}
use Rattle.zk_model.specs.declared.Kind.TheVariants.{Direct, Extended}
use Rattle.session_core.specs.declared.judgement.Judgement.{Judgement}
use Rattle.session_laws.specs.Rounds.{RepliesAreInRange}
use Rattle.session_script.specs.Scripts.{after_in, left_after, Stage, stage_of, Fits, Passes, Reached}
use Rattle.session_verifier.specs.Serving.{Grants}
use Rattle.session_claim.specs.Claims.{Claim, HasPlaces, IsGreeting, IsVerdictPlace, AreAnswers, AllowsEach, IsExchange, claim_needs}
use Rattle.session_claim.specs.Script.{first_places, claim_places, claim_behind}
use Rattle.claim_verifier.specs.Hearing.{Heard, Known, known_of, asking, replying, units_of, exchange_in, AsksMore, AsksOn, JudgesSo, GrantsUnits, IsUnheard, VerifierPasses, verifier_rules}
use Rattle.claim_verifier.specs.Rounds.{IsRoundOver}

-- ---- lists

each_more : (places : List Expect) (frames : List Frame) (place : Expect) (frame : Frame) → AllowsEach places frames → Allows place frame
    → AllowsEach (places ++ place ∷ []) (frames ++ frame ∷ [])
each_more [] [] place frame each allowed = (allowed, tt)
each_more [] (f ∷ frames) place frame each allowed = absurd each
each_more (p ∷ places) [] place frame each allowed = absurd each
each_more (p ∷ places) (f ∷ frames) place frame each allowed = (each.0, each_more places frames place frame each.1 allowed)

pub answers_rest : (done rest : List Expect) → AreAnswers (done ++ rest) → AreAnswers rest
answers_rest [] rest are = are
answers_rest (expect.Sums sections ∷ done) rest are = answers_rest done rest are
answers_rest (expect.Openings count ∷ done) rest are = answers_rest done rest are
answers_rest (expect.PolySums count ∷ done) rest are = answers_rest done rest are
answers_rest (place ∷ done) rest are = absurd are

split : (place other : Expect) (places others : List Expect) (all : List Expect) → all ≡ place ∷ places → all ≡ other ∷ others → (place ≡ other) × (places ≡ others)
split place other places others all one two = let e : place ∷ places ≡ other ∷ others = sym one ∙ two in (cc, cc)

-- the places of asks and of replies from one on, so many
abbrev pub asks_places : VerifierFile → ℕ → ℕ → ℕ → List Expect
asks_places file count from more = map (λ i. expect.Ask file.params.height file.params.trees (count - i)) (range_with_len from more)

abbrev pub replies_places : VerifierFile → ℕ → ℕ → ℕ → List Expect
replies_places file count from more = map (λ i. expect.Reply file.params.height file.params.trees (count - i)) (range_with_len from more)

pub coin_is_element : (word : ℕ) → IsElement (from_word word)
coin_is_element word = omega arith

-- what a greeting's place allows is a hello
pub greeted : (place : Expect) (frame : Frame) → IsGreeting place → Allows place frame → (said : Hello) × (frame ≡ hello said)
greeted expect.Hello frame is allowed = (allowed.0, allowed.1)
greeted expect.ShortHello frame is allowed = (allowed.0, allowed.1)
greeted place frame is allowed = absurd is

-- and what a verdict's place allows is one
pub verdict_said : (place : Expect) (frame : Frame) → IsVerdictPlace place → Allows place frame → (code : ℕ) × (number : ℕ) × (frame ≡ verdict code number)
verdict_said expect.Verdict frame is allowed = (allowed.0, allowed.1, allowed.2)
verdict_said expect.PolyVerdict frame is allowed = (allowed.0, allowed.1, allowed.2)
verdict_said place frame is allowed = absurd is

at_least_one : (n : ℕ) → 1 ≤ n → (more : ℕ) × (n ≡ suc more)
at_least_one zero some = absurd (omega (arith, some))
at_least_one (suc more) some = (more, refl)

-- asks of every unit and tree, and replies to them
trees_asked : (height trees count : ℕ) (units : List (List TreeAsk)) → All (AreAsks height trees) units
    → All (λ (said : List TreeAsk). (length said ≡ trees) × All (IsTreeAsk height) said) units
trees_asked height trees count units each k d less = let q = each k d less in (q.counted, q.each)

trees_replied : (height trees : ℕ) (units : List (List TreeReply)) → All (λ (said : List TreeReply). (length said ≡ trees) × All (IsTreeReply height) said) units
    → All (AreReplies height trees) units
trees_replied height trees units each k d less = let q = each k d less in record { counted = q.0; each = q.1 }

-- ---- where a session is

module _ {R : Type 0} (grants : Grants R) (claim : Claim) (file : VerifierFile) (section_length : ℕ) where
  -- this grant was given
  pub record HasGrant (heard : Heard) (given : Grant) : Type 0 where
    pub granted : heard.given ≡ Some given
    pub count : given.count ≡ units_of claim file section_length
    pub section : given.section_length ≡ section_length
    pub within : given.start + given.count ≤ file.params.total

  -- nothing is granted yet
  pub record AtFirst (stage : Stage (Known R)) : Type 0 where
    pub left : (stage.left ≡ first_places claim) ⊎ (stage.left ≡ expect.Grant ∷ [])
    pub unheard : IsUnheard grants claim file section_length stage.known

  -- asks are still to come
  pub record AtAsks (given : Grant) (stage : Stage (Known R)) : Type 0 where
    pub has : HasGrant stage.known.heard given
    pub extended : file.params.kind ≡ Extended
    pub asked : List (List TreeAsk)
    pub round : stage.known.heard.round ≡ asking asked
    pub more : ℕ
    pub counted : length asked + suc more ≡ given.count
    pub left : stage.left ≡ asks_places file given.count (length asked) (suc more)
        ++ (replies_places file given.count 0 given.count ++ claim_places claim given.section_length)
    pub each : All (AreAsks file.params.height file.params.trees) asked
    pub none : stage.known.heard.answers ≡ []

  -- these replies are still to be said, maybe none
  pub record AtReplies (given : Grant) (stage : Stage (Known R)) : Type 0 where
    pub has : HasGrant stage.known.heard given
    pub extended : file.params.kind ≡ Extended
    pub due : List (List TreeReply)
    pub round : stage.known.heard.round ≡ replying due
    pub done : ℕ
    pub left : stage.left ≡ replies_places file given.count done (length due) ++ claim_places claim given.section_length
    pub each : All (AreReplies file.params.height file.params.trees) due
    pub none : stage.known.heard.answers ≡ []

  -- there are no rounds
  pub record AtDirect (given : Grant) (stage : Stage (Known R)) : Type 0 where
    pub has : HasGrant stage.known.heard given
    pub direct : file.params.kind ≡ Direct
    pub left : stage.left ≡ claim_places claim given.section_length
    pub none : stage.known.heard.answers ≡ []

  -- the corrections came
  pub record AtChallenge (given : Grant) (stage : Stage (Known R)) : Type 0 where
    pub has : HasGrant stage.known.heard given
    pub over : IsRoundOver file.params.kind stage.known.heard.round
    pub left : stage.left ≡ expect.Challenge ∷ claim.answers given.section_length ++ claim.verdict ∷ []
    pub corrections : AreElements claim.givens stage.known.heard.corrections
    pub none : stage.known.heard.answers ≡ []

  -- so many answers came
  pub record AtAnswers (given : Grant) (stage : Stage (Known R)) : Type 0 where
    pub has : HasGrant stage.known.heard given
    pub over : IsRoundOver file.params.kind stage.known.heard.round
    pub done : List Expect
    pub rest : List Expect
    pub left : stage.left ≡ rest ++ claim.verdict ∷ []
    pub all : claim.answers given.section_length ≡ done ++ rest
    pub corrections : AreElements claim.givens stage.known.heard.corrections
    pub each : AllowsEach done stage.known.heard.answers

  -- it was judged
  pub record IsJudgedSo (heard : Heard) (given : Grant) (judgement : Judgement) : Type 0 where
    pub has : HasGrant heard given
    pub over : IsRoundOver file.params.kind heard.round
    pub said : heard.judged ≡ Some judgement
    pub exchange : IsExchange claim (exchange_in file given heard)
    pub enough : claim_needs claim given.section_length ≤ length (span_keys file (span_of given))
    pub judged : claim.judges file.key (span_keys file (span_of given)) (exchange_in file given heard) judgement

  pub record AtEnd (stage : Stage (Known R)) : Type 0 where
    pub left : stage.left ≡ []
    pub given : Grant
    pub judgement : Judgement
    pub judged : IsJudgedSo stage.known.heard given judgement

  abbrev pub IsGranted : Stage (Known R) → Type 0
  IsGranted stage = (given : Grant) × (AtAsks given stage ⊎ AtReplies given stage ⊎ AtDirect given stage ⊎ AtChallenge given stage ⊎ AtAnswers given stage)

  abbrev pub IsDue : Stage (Known R) → Type 0
  IsDue stage = AtFirst stage ⊎ IsGranted stage ⊎ AtEnd stage

  module _ (places : HasPlaces claim) (is_file : IsVerifierFile file) (in_range : RepliesAreInRange) where
    module _ (old new : Stage (Known R)) (frame : Frame) (fits : Fits (verifier_rules grants claim file section_length) old frame new) where
      -- the frame at a place that is known, and what it leaves
      at : (place : Expect) (rest : List Expect) → old.left ≡ place ∷ rest
          → Allows place frame × (new.left ≡ left_after (claim_behind file.params claim) rest (after_in frame))
      at place rest is =
          let same = split fits.place place fits.places rest old.left fits.next is in
          (subst (λ p. Allows p frame) same.0 fits.allowed, fits.left ∙ ap (λ l. left_after (claim_behind file.params claim) l (after_in frame)) same.1)

      passes_as : (other : Frame) → frame ≡ other → VerifierPasses grants claim file section_length old.known other new.known
      passes_as other is = subst (λ f. VerifierPasses grants claim file section_length old.known f new.known) is fits.passes

      left_as : (other : Frame) (rest : List Expect) → frame ≡ other → new.left ≡ left_after (claim_behind file.params claim) rest (after_in frame)
          → new.left ≡ left_after (claim_behind file.params claim) rest (after_in other)
      left_as other rest is left = left ∙ ap (λ f. left_after (claim_behind file.params claim) rest (after_in f)) is

      -- the grant stays
      has_on : (given : Grant) → HasGrant old.known.heard given → new.known.heard.given ≡ old.known.heard.given → HasGrant new.known.heard given
      has_on given has same = record { granted = same ∙ has.granted; count = has.count; section = has.section; within = has.within }

      -- ---- the hello, and the grant

      granted_direct : (given : Grant) → HasGrant new.known.heard given → new.left ≡ claim_behind file.params claim given → file.params.kind ≡ Direct
          → new.known.heard.answers ≡ [] → IsDue new
      granted_direct given has left direct none = inr (inl (
        given,
        inr (inr (inl (record {
          has = has;
          direct = direct;
          left = left ∙ ap (λ (k : Kind). flat_map (λ n. round_places file.params given) (range_with_len 0 (rounds_of k)) ++ claim_places claim given.section_length) direct;
          none = none;
        }))),
      ))

      granted_extended : (given : Grant) → HasGrant new.known.heard given → new.left ≡ claim_behind file.params claim given → file.params.kind ≡ Extended
          → new.known.heard.answers ≡ [] → new.known.heard.round ≡ asking [] → 1 ≤ given.count → IsDue new
      granted_extended given has left extended none round some =
          let more = at_least_one given.count some in
          let all = asks_places file given.count 0 given.count in
          let said = replies_places file given.count 0 given.count in
          inr (inl (
            given,
            inl (record {
              has = has;
              extended = extended;
              asked = [];
              round = round;
              more = more.0;
              counted = omega (arith, more.1);
              left = left
                  ∙ ap (λ (k : Kind). flat_map (λ n. round_places file.params given) (range_with_len 0 (rounds_of k)) ++ claim_places claim given.section_length) extended
                  ∙ ap (λ l. l ++ claim_places claim given.section_length) (append-nil (all ++ said))
                  ∙ append_assoc all said (claim_places claim given.section_length)
                  ∙ ap (λ n. asks_places file given.count 0 n ++ (said ++ claim_places claim given.section_length)) more.1;
              each = All-nil (AreAsks file.params.height file.params.trees);
              none = none;
            }),
          ))

      granting : IsUnheard grants claim file section_length old.known → (given : Grant) → frame ≡ grant given
          → new.left ≡ left_after (claim_behind file.params claim) [] (after_in frame) → IsDue new
      granting unheard given is left = by_kind file.params.kind refl
        where
          units : GrantsUnits grants claim file section_length old.known given new.known
          units = passes_as (grant given) is

          has : HasGrant new.known.heard given
          has = record {
            granted = ap (λ (h : Heard). h.given) units.heard;
            count = ap (λ (q : Grant). q.count) units.given_is;
            section = ap (λ (q : Grant). q.section_length) units.given_is;
            within = subst (λ n. n ≤ file.params.total)
                (units.counted ∙ (λ i. (sym (ap (λ (q : Grant). q.start) units.given_is) i) + (sym (ap (λ (q : Grant). q.count) units.given_is) i))) units.within;
          }

          none : new.known.heard.answers ≡ []
          none = ap (λ (h : Heard). h.answers) units.heard ∙ ap (λ (h : Heard). h.answers) unheard.heard

          round : new.known.heard.round ≡ asking []
          round = ap (λ (h : Heard). h.round) units.heard ∙ ap (λ (h : Heard). h.round) unheard.heard

          some : 1 ≤ given.count
          some = omega (arith, ap (λ (q : Grant). q.count) units.given_is)

          by_kind : (kind : Kind) → file.params.kind ≡ kind → IsDue new
          by_kind Direct direct = granted_direct given has (left_as (grant given) [] is left) direct none
          by_kind Extended extended = granted_extended given has (left_as (grant given) [] is left) extended none round some

      first_on : AtFirst old → IsDue new
      first_on first = by first.left
        where
          granted : Allows expect.Grant frame → new.left ≡ left_after (claim_behind file.params claim) [] (after_in frame) → IsDue new
          granted (inl (given, is, fit)) left = granting first.unheard given is left
          granted (inr (code, is, fit)) left = absurd (passes_as (refuse code) is).0

          by : (old.left ≡ first_places claim) ⊎ (old.left ≡ expect.Grant ∷ []) → IsDue new
          by (inl is) =
              let here = at claim.greeting (expect.Grant ∷ []) is in
              let said = greeted claim.greeting frame places.greeting here.0 in
              let on = passes_as (hello said.0) said.1 in
              let same : new.known ≡ old.known = (λ i. known_of (on.0.1 i) (on.1 i)) in
              inl (record {
                left = inr (left_as (hello said.0) (expect.Grant ∷ []) said.1 here.1);
                unheard = subst (IsUnheard grants claim file section_length) (sym same) first.unheard;
              })
          by (inr is) = let here = at expect.Grant [] is in granted here.0 here.1

      -- ---- rounds

      asks_left : (given : Grant) (due : AtAsks given old) (said : List TreeAsk) (more : ℕ) → due.more ≡ suc more
          → new.left ≡ asks_places file given.count (length due.asked + 1) due.more ++ (replies_places file given.count 0 given.count ++ claim_places claim given.section_length)
          → new.left ≡ asks_places file given.count (length (due.asked ++ said ∷ [])) (suc more)
          ++ (replies_places file given.count 0 given.count ++ claim_places claim given.section_length)
      asks_left given due said more is left =
          left ∙ (λ i. asks_places file given.count (sym (length_push due.asked said) i) (is i)
          ++ (replies_places file given.count 0 given.count ++ claim_places claim given.section_length))

      asks_next : (given : Grant) (due : AtAsks given old) → IsDue new
      asks_next given due = by on.on
        where
          here : Allows (expect.Ask file.params.height file.params.trees (given.count - length due.asked)) frame
              × (new.left ≡ left_after (claim_behind file.params claim)
              (asks_places file given.count (length due.asked + 1) due.more ++ (replies_places file given.count 0 given.count ++ claim_places claim given.section_length)) (after_in frame))
          here = at (expect.Ask file.params.height file.params.trees (given.count - length due.asked))
              (asks_places file given.count (length due.asked + 1) due.more ++ (replies_places file given.count 0 given.count ++ claim_places claim given.section_length)) due.left

          said : List TreeAsk
          said = here.0.0

          on : AsksMore file old.known.heard said new.known.heard
          on = (passes_as (asks said) here.0.1).0

          left : new.left ≡ asks_places file given.count (length due.asked + 1) due.more ++ (replies_places file given.count 0 given.count ++ claim_places claim given.section_length)
          left = left_as (asks said) _ here.0.1 here.1

          given_is : on.given ≡ given
          given_is = let e : Some on.given ≡ Some given = sym on.granted ∙ due.has.granted in cc

          asked_is : on.asked ≡ due.asked
          asked_is = let e : asking on.asked ≡ asking due.asked = sym on.before ∙ due.round in cc

          has : HasGrant new.known.heard given
          has = has_on given due.has (ap (λ (h : Heard). h.given) on.heard)

          none : new.known.heard.answers ≡ []
          none = ap (λ (h : Heard). h.answers) on.heard ∙ due.none

          each : All (AreAsks file.params.height file.params.trees) (due.asked ++ said ∷ [])
          each = All-push (AreAsks file.params.height file.params.trees) due.asked said due.each here.0.2

          all_is : on.asked ++ said ∷ [] ≡ due.asked ++ said ∷ []
          all_is = ap (λ l. l ++ said ∷ []) asked_is

          last : (more : ℕ) → due.more ≡ more → length (due.asked ++ said ∷ []) ≡ given.count → more ≡ 0
          last more is count = omega (arith, is, count, length_push due.asked said, due.counted)

          goes : (more : ℕ) → due.more ≡ more → length (due.asked ++ said ∷ []) < given.count → (rest : ℕ) × (due.more ≡ suc rest)
          goes zero is less = absurd (omega (arith, is, less, length_push due.asked said, due.counted))
          goes (suc rest) is less = (rest, is)

          by : AsksOn file on.given (on.asked ++ said ∷ []) on.round → IsDue new
          by (inl (less, round)) =
              let rest = goes due.more refl (subst (λ (q : List (List TreeAsk) × Grant). length q.0 < q.1.count) (λ i. (all_is i, given_is i)) less) in
              inr (inl (
                given,
                inl (record {
                  has = has;
                  extended = due.extended;
                  asked = due.asked ++ said ∷ [];
                  round = ap (λ (h : Heard). h.round) on.heard ∙ round ∙ ap asking all_is;
                  more = rest.0;
                  counted = omega (arith, rest.1, length_push due.asked said, due.counted);
                  left = asks_left given due said rest.0 rest.1 left;
                  each = each;
                  none = none;
                }),
              ))
          by (inr (count, round)) =
              let whole = subst (λ (q : List (List TreeAsk) × Grant). length q.0 ≡ q.1.count) (λ i. (all_is i, given_is i)) count in
              let replied = in_range file given (due.asked ++ said ∷ []) is_file due.has.within
              (whole, trees_asked file.params.height file.params.trees given.count (due.asked ++ said ∷ []) each) in
              inr (inl (
                given,
                inr (inl (record {
                  has = has;
                  extended = due.extended;
                  due = round_replies file given (due.asked ++ said ∷ []);
                  round = ap (λ (h : Heard). h.round) on.heard ∙ round ∙ (λ i. replying (round_replies file (given_is i) (all_is i)));
                  done = 0;
                  left = left ∙ ap (λ n. asks_places file given.count (length due.asked + 1) n ++ (replies_places file given.count 0 given.count ++ claim_places claim given.section_length))
                      (last due.more refl whole)
                      ∙ ap (λ n. replies_places file given.count 0 n ++ claim_places claim given.section_length) (sym replied.0);
                  each = trees_replied file.params.height file.params.trees (round_replies file given (due.asked ++ said ∷ [])) replied.1;
                  none = none;
                })),
              ))

      -- corrections, once all rounds are over
      corrected : (given : Grant) → HasGrant old.known.heard given → IsRoundOver file.params.kind old.known.heard.round
          → old.left ≡ claim_places claim given.section_length → old.known.heard.answers ≡ [] → IsDue new
      corrected given has over left none =
          let here = at (expect.Corrections claim.givens) (expect.Challenge ∷ claim.answers given.section_length ++ claim.verdict ∷ []) left in
          let on = (passes_as (corrections here.0.0) here.0.1).0 in
          inr (inl (
            given,
            inr (inr (inr (inl (record {
              has = has_on given has (ap (λ (h : Heard). h.given) on);
              over = subst (IsRoundOver file.params.kind) (sym (ap (λ (h : Heard). h.round) on)) over;
              left = left_as (corrections here.0.0) (expect.Challenge ∷ claim.answers given.section_length ++ claim.verdict ∷ []) here.0.1 here.1;
              corrections = subst (λ (h : Heard). AreElements claim.givens h.corrections) (sym on) here.0.2;
              none = ap (λ (h : Heard). h.answers) on ∙ none;
            })))),
          ))

      replies_next : (given : Grant) (due : AtReplies given old) (list : List (List TreeReply)) → due.due ≡ list → IsDue new
      replies_next given due [] is =
          corrected given due.has (inr (due.extended, due.round ∙ ap replying is))
          (due.left ∙ ap (λ (l : List (List TreeReply)). replies_places file given.count due.done (length l) ++ claim_places claim given.section_length) is) due.none
      replies_next given due (next ∷ list) is = inr (inl (
        given,
        inr (inl (record {
          has = has_on given due.has (ap (λ (h : Heard). h.given) on.2);
          extended = due.extended;
          due = list;
          round = ap (λ (h : Heard). h.round) on.2 ∙ ap replying rest_is;
          done = due.done + 1;
          left = left_as (replies said) _ here.0.1 here.1;
          each = All-rest (AreReplies file.params.height file.params.trees) next list due.due is due.each;
          none = ap (λ (h : Heard). h.answers) on.2 ∙ due.none;
        })),
      ))
        where
          here : Allows (expect.Reply file.params.height file.params.trees (given.count - due.done)) frame
              × (new.left ≡ left_after (claim_behind file.params claim)
              (replies_places file given.count (due.done + 1) (length list) ++ claim_places claim given.section_length) (after_in frame))
          here = at (expect.Reply file.params.height file.params.trees (given.count - due.done))
              (replies_places file given.count (due.done + 1) (length list) ++ claim_places claim given.section_length)
              (due.left ∙ ap (λ (l : List (List TreeReply)). replies_places file given.count due.done (length l) ++ claim_places claim given.section_length) is)

          said : List TreeReply
          said = here.0.0

          on : (left : List (List TreeReply)) × (old.known.heard.round ≡ replying (said ∷ left)) × (new.known.heard ≡ record old.known.heard { round = replying left })
          on = (passes_as (replies said) here.0.1).0

          rest_is : on.0 ≡ list
          rest_is = let e : replying (said ∷ on.0) ≡ replying (next ∷ list) = sym on.1 ∙ due.round ∙ ap replying is in cc

      -- ---- the challenge, the answers, and the verdict

      challenge_next : (given : Grant) (due : AtChallenge given old) → IsDue new
      challenge_next given due =
          let here = at expect.Challenge (claim.answers given.section_length ++ claim.verdict ∷ []) due.left in
          let on = (passes_as (challenge here.0.0) here.0.1).0.3 in
          inr (inl (
            given,
            inr (inr (inr (inr (record {
              has = has_on given due.has (ap (λ (h : Heard). h.given) on);
              over = subst (IsRoundOver file.params.kind) (sym (ap (λ (h : Heard). h.round) on)) due.over;
              done = [];
              rest = claim.answers given.section_length;
              left = left_as (challenge here.0.0) (claim.answers given.section_length ++ claim.verdict ∷ []) here.0.1 here.1;
              all = refl;
              corrections = subst (λ (h : Heard). AreElements claim.givens h.corrections) (sym on) due.corrections;
              each = subst (AllowsEach []) (sym (ap (λ (h : Heard). h.answers) on ∙ due.none)) tt;
            })))),
          ))

      -- an answer more
      answered : (given : Grant) (due : AtAnswers given old) (place : Expect) (rest : List Expect) (other : Frame) → due.rest ≡ place ∷ rest → Allows place other
          → new.known.heard ≡ record old.known.heard { answers = old.known.heard.answers ++ other ∷ [] } → new.left ≡ rest ++ claim.verdict ∷ [] → IsDue new
      answered given due place rest other is allowed on left =
          inr (inl (
            given,
            inr (inr (inr (inr (record {
              has = has_on given due.has (ap (λ (h : Heard). h.given) on);
              over = subst (IsRoundOver file.params.kind) (sym (ap (λ (h : Heard). h.round) on)) due.over;
              done = due.done ++ place ∷ [];
              rest = rest;
              left = left;
              all = due.all ∙ ap (λ l. due.done ++ l) is ∙ sym (append_assoc due.done (place ∷ []) rest);
              corrections = subst (λ (h : Heard). AreElements claim.givens h.corrections) (sym on) due.corrections;
              each = subst (AllowsEach (due.done ++ place ∷ [])) (sym (ap (λ (h : Heard). h.answers) on))
                  (each_more due.done old.known.heard.answers place other due.each allowed);
            })))),
          ))

      verdict_next : (given : Grant) (due : AtAnswers given old) → due.rest ≡ [] → IsDue new
      verdict_next given due is = inr (inr (record {
        left = left_as (verdict said.0 said.1) [] said.2 here.1;
        given = given;
        judgement = on.judgement;
        judged = record {
          has = has_on given due.has (ap (λ (h : Heard). h.given) on.heard);
          over = subst (IsRoundOver file.params.kind) (sym (ap (λ (h : Heard). h.round) on.heard)) due.over;
          said = ap (λ (h : Heard). h.judged) on.heard;
          exchange = subst (λ (h : Heard). IsExchange claim (exchange_in file given h)) (sym on.heard) (record {
            corrections = due.corrections;
            challenge = coin_is_element _;
            answers = subst (λ l. AllowsEach l old.known.heard.answers) (sym (due.all ∙ ap (λ l. due.done ++ l) is ∙ append-nil due.done)) due.each;
          });
          enough = subst (λ (q : Grant). claim_needs claim q.section_length ≤ length (span_keys file (span_of q))) given_is on.enough;
          judged = subst (λ (q : Grant × Heard). claim.judges file.key (span_keys file (span_of q.0)) (exchange_in file q.0 q.1) on.judgement)
              (λ i. (given_is i, sym on.heard i)) on.judged;
        };
      }))
        where
          here : Allows claim.verdict frame × (new.left ≡ left_after (claim_behind file.params claim) [] (after_in frame))
          here = at claim.verdict [] (due.left ∙ ap (λ l. l ++ claim.verdict ∷ []) is)

          said : (code : ℕ) × (number : ℕ) × (frame ≡ verdict code number)
          said = verdict_said claim.verdict frame places.verdict here.0

          on : JudgesSo claim file old.known.heard said.0 said.1 new.known.heard
          on = (passes_as (verdict said.0 said.1) said.2).0

          given_is : on.given ≡ given
          given_is = let e : Some on.given ≡ Some given = sym on.granted ∙ due.has.granted in cc

      answers_next : (given : Grant) (due : AtAnswers given old) (rest : List Expect) → due.rest ≡ rest → AreAnswers rest → IsDue new
      answers_next given due [] is are = verdict_next given due is
      answers_next given due (expect.Sums count ∷ rest) is are =
          let here = at (expect.Sums count) (rest ++ claim.verdict ∷ []) (due.left ∙ ap (λ l. l ++ claim.verdict ∷ []) is) in
          answered given due (expect.Sums count) rest (sums here.0.0) is (subst (Allows (expect.Sums count)) here.0.1 here.0)
          (passes_as (sums here.0.0) here.0.1).0 (left_as (sums here.0.0) (rest ++ claim.verdict ∷ []) here.0.1 here.1)
      answers_next given due (expect.Openings count ∷ rest) is are =
          let here = at (expect.Openings count) (rest ++ claim.verdict ∷ []) (due.left ∙ ap (λ l. l ++ claim.verdict ∷ []) is) in
          answered given due (expect.Openings count) rest (openings here.0.0) is (subst (Allows (expect.Openings count)) here.0.1 here.0)
          (passes_as (openings here.0.0) here.0.1).0 (left_as (openings here.0.0) (rest ++ claim.verdict ∷ []) here.0.1 here.1)
      answers_next given due (expect.PolySums count ∷ rest) is are =
          let here = at (expect.PolySums count) (rest ++ claim.verdict ∷ []) (due.left ∙ ap (λ l. l ++ claim.verdict ∷ []) is) in
          answered given due (expect.PolySums count) rest (poly_sums here.0.0) is (subst (Allows (expect.PolySums count)) here.0.1 here.0)
          (passes_as (poly_sums here.0.0) here.0.1).0 (left_as (poly_sums here.0.0) (rest ++ claim.verdict ∷ []) here.0.1 here.1)
      answers_next given due (place ∷ rest) is are = absurd are

      over_no : AtEnd old → IsDue new
      over_no end = let no : [] ≡ fits.place ∷ fits.places = sym end.left ∙ fits.next in cc

      pub due_on : IsDue old → IsDue new
      due_on (inl first) = first_on first
      due_on (inr (inl (given, inl due))) = asks_next given due
      due_on (inr (inl (given, inr (inl due)))) = replies_next given due due.due refl
      due_on (inr (inl (given, inr (inr (inl due))))) = corrected given due.has (inl due.direct) due.left due.none
      due_on (inr (inl (given, inr (inr (inr (inl due)))))) = challenge_next given due
      due_on (inr (inl (given, inr (inr (inr (inr due)))))) =
          answers_next given due due.rest refl (answers_rest due.done due.rest (subst AreAnswers due.all (places.answers given.section_length)))
      due_on (inr (inr end)) = over_no end

    pub due_after : (old new : Stage (Known R)) (frames : List Frame) → Passes (verifier_rules grants claim file section_length) old frames new → IsDue old → IsDue new
    due_after old new [] passes due = subst IsDue (sym passes) due
    due_after old new (frame ∷ frames) passes due = due_after passes.0 new frames passes.2 (due_on old passes.0 frame passes.1 due)

    -- so it is wherever its frames led
    pub due_at : (stage : Stage (Known R)) → Reached (verifier_rules grants claim file section_length) stage → IsDue stage
    due_at stage reached = due_after (stage_of reached.start (first_places claim)) stage reached.frames reached.passed
        (inl (record { left = inl refl; unheard = reached.begins }))
