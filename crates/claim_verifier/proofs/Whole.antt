-- The frames that a verifier's rules let pass, from nothing on to the end, are those of a whole session.
use Rattle.std.proofs.Common.{◌≡◌, ℕ, zero, suc, inl, inr, Some, List, [], ◌∷◌, ◌++◌, map, flat_map, length, ◌+◌, ◌-◌, ◌<◌, ◌≤◌, refl, sym, ◌∙◌, ap, subst, arith, append_assoc, append-nil}
use Rattle.std.specs.Prelude.{All}
use Rattle.std.specs.List.{range_with_len}
use Rattle.std.proofs.lemmas.List.{length_push}
use Rattle.std.proofs.lemmas.List.Elements.{All-nil, All-cons, All-push}
use Rattle.zk_model.specs.Audit.{round_frames, round_places}
use Rattle.zk_model.specs.Correlations.{span_keys}
use Rattle.zk_model.specs.Files.{VerifierFile, IsVerifierFile, rounds_of}
use Rattle.zk_model.specs.Frames.{Frame, hello, grant, asks, replies, corrections, challenge, sums, openings, poly_sums, verdict, refuse, Allows, AreAsks}
use Rattle.zk_model.specs.ServedVerifier.{RepliesAre, challenge_coin, round_replies}
use Rattle.zk_model.specs.Transcript.{Hello, Grant, Round, TreeAsk, TreeReply, IsRound, IsTreeAsk, ForEachTree}
use Rattle.zk_model.specs.View.{span_of, verdict_code, verdict_number}
use Rattle.zk_model.specs.declared.Expect.{Expect}
use Rattle.zk_model.specs.declared.Expect.TheVariants as expect
use Rattle.zk_model.specs.declared.Kind.{Kind}
use Rattle.zk_model.specs.declared.Kind.TheVariants.{Direct, Extended}
use Rattle.zk_model.specs.declared.Params.{Params}
use Rattle.zk_model.specs.declared.Side.TheVariants.{Verifier}
use Rattle.zk_laws.specs.Keys.{KeysFit}
use Rattle.zk_laws.specs.SeenPairs.{AreRounds, PairsExist}
use Rattle.session_core.specs.Judgements.{verdict_in}
use Rattle.session_core.specs.declared.judgement.Judgement.{Judgement}
use Rattle.session_core.specs.declared.judgement.Judgement.TheVariants.{Accepted}
use Rattle.session_laws.specs.Rounds.{RepliesAreInRange}
use Rattle.frame_link.specs.Lines.{LinkSnapshot}
use Rattle.session_driver.specs.declared.drive.Outcome.TheVariants.{Done}
use Rattle.session_script.specs.Scripts.{after_in, left_after, log_of, ScriptLeaves, Stage, stage_of, Passes}
use Rattle.session_verifier.specs.Serving.{Grants}
use Rattle.session_claim.specs.Claims.{Claim, Exchange, HasPlaces, AreAnswers, AllowsEach, IsExchange, IsSound, claim_needs}
use Rattle.session_claim.specs.Script.{first_places, claim_places, claim_behind}
use Rattle.claim_verifier.specs.Hearing.{Heard, Known, RoundStage, known_of, nothing_heard, asking, replying, grant_from, AsksMore, AsksOn, JudgesSo, GrantsUnits, VerifierPasses, verifier_rules}
use Rattle.claim_verifier.specs.Served.{ClaimSession, IsHeardWhole, ShowsToAll, claim_frames}
use Rattle.claim_verifier.proofs.Due.{asks_places, replies_places, coin_is_element, greeted, verdict_said}

-- ---- lists

split : (place other : Expect) (places others : List Expect) → place ∷ places ≡ other ∷ others → (place ≡ other) × (places ≡ others)
split place other places others same = (cc, cc)

some_more : (n : ℕ) → 1 ≤ n → (more : ℕ) × (n ≡ suc more)
some_more zero some = absurd (omega (arith, some))
some_more (suc more) some = (more, refl)

trees_asked : (height trees : ℕ) (units : List (List TreeAsk)) → All (AreAsks height trees) units
    → All (λ (said : List TreeAsk). (length said ≡ trees) × All (IsTreeAsk height) said) units
trees_asked height trees units each k d less = let q = each k d less in (q.counted, q.each)

module _ {R : Type 0} (grants : Grants R) (claim : Claim) (file : VerifierFile) (section_length : ℕ) (last : Known R) where
  -- these frames lead from a place to the end
  abbrev Leads : Known R → List Expect → List Frame → Type 0
  Leads known left frames = Passes (verifier_rules grants claim file section_length) (stage_of known left) frames (stage_of last [])

  -- so there is a frame for the next place
  record Next (known : Known R) (place : Expect) (rest : List Expect) (frames : List Frame) : Type 0 where
    pub frame : Frame
    pub more : List Frame
    pub are : frames ≡ frame ∷ more
    pub allowed : Allows place frame
    pub mid : Known R
    pub passes : VerifierPasses grants claim file section_length known frame mid
    pub onward : Leads mid (left_after (claim_behind file.params claim) rest (after_in frame)) more

  next : (known : Known R) (place : Expect) (rest : List Expect) (frames : List Frame) → Leads known (place ∷ rest) frames → Next known place rest frames
  next known place rest [] leads = let no : [] ≡ place ∷ rest = ap (λ (s : Stage (Known R)). s.left) leads in cc
  next known place rest (frame ∷ more) leads =
      let fits = leads.1 in
      let same = split fits.place place fits.places rest (sym fits.next) in
      record {
        frame = frame;
        more = more;
        are = refl;
        allowed = subst (λ p. Allows p frame) same.0 fits.allowed;
        mid = leads.0.known;
        passes = fits.passes;
        onward = subst (λ l. Leads leads.0.known l more)
            (fits.left ∙ ap (λ l. left_after (claim_behind file.params claim) l (after_in frame)) same.1) leads.2;
      }

  -- the same, where it is known which frame it is
  next_as : (known : Known R) (place : Expect) (rest : List Expect) (frames : List Frame) (n : Next known place rest frames) (other : Frame) → n.frame ≡ other
      → (frames ≡ other ∷ n.more) × VerifierPasses grants claim file section_length known other n.mid
      × Leads n.mid (left_after (claim_behind file.params claim) rest (after_in other)) n.more
  next_as known place rest frames n other same =
      subst (λ f. (frames ≡ f ∷ n.more) × VerifierPasses grants claim file section_length known f n.mid
      × Leads n.mid (left_after (claim_behind file.params claim) rest (after_in f)) n.more) same (n.are, n.passes, n.onward)

  -- no frame follows where no place is left
  over : (known : Known R) (frames : List Frame) → Leads known [] frames → (frames ≡ []) × (last ≡ known)
  over known [] leads = (refl, ap (λ (s : Stage (Known R)). s.known) leads)
  over known (frame ∷ more) leads = let no : [] ≡ leads.1.place ∷ leads.1.places = leads.1.next in cc

  -- ---- behind the challenge

  -- the exchange of these answers
  abbrev exchange_of : Grant → List ℕ → List Frame → Exchange
  exchange_of given elements answers = record {
    section_length = given.section_length;
    corrections = elements;
    challenge = challenge_coin file given.start;
    answers = answers;
  }

  abbrev verdict_of : Judgement → Frame
  verdict_of judgement = verdict (verdict_code (verdict_in judgement)) (verdict_number (verdict_in judgement))

  -- the answers at these places came behind earlier ones, and then the verdict
  record Answered (given : Grant) (elements : List ℕ) (before : List Frame) (places : List Expect) (frames : List Frame) : Type 0 where
    pub answers : List Frame
    pub judgement : Judgement
    pub are : frames ≡ answers ++ verdict_of judgement ∷ []
    pub each : AllowsEach places answers
    pub enough : claim_needs claim given.section_length ≤ length (span_keys file (span_of given))
    pub judged : claim.judges file.key (span_keys file (span_of given)) (exchange_of given elements (before ++ answers)) judgement
    pub said : last.heard.judged ≡ Some judgement
    pub granted : last.heard.given ≡ Some given

  module _ (places : HasPlaces claim) (given : Grant) where
    judging : (known : Known R) (frames : List Frame) → known.heard.given ≡ Some given → Leads known (claim.verdict ∷ []) frames
        → Answered given known.heard.corrections known.heard.answers [] frames
    judging known frames granted leads =
        let n = next known claim.verdict [] frames leads in
        let said = verdict_said claim.verdict n.frame places.verdict n.allowed in
        let is = next_as known claim.verdict [] frames n (verdict said.0 said.1) said.2 in
        let on : JudgesSo claim file known.heard said.0 said.1 n.mid.heard = is.1.0 in
        let ends = over n.mid n.more is.2 in
        let same : on.given ≡ given = (let e : Some on.given ≡ Some given = sym on.granted ∙ granted in cc) in
        record {
          answers = [];
          judgement = on.judgement;
          are = is.0 ∙ (λ i. verdict (on.code_is i) (on.number_is i) ∷ ends.0 i);
          each = tt;
          enough = subst (λ (q : Grant). claim_needs claim q.section_length ≤ length (span_keys file (span_of q))) same on.enough;
          judged = subst (λ (q : Grant × List Frame). claim.judges file.key (span_keys file (span_of q.0)) (exchange_of q.0 known.heard.corrections q.1) on.judgement)
              (λ i. (same i, sym (append-nil known.heard.answers) i)) on.judged;
          said = ap (λ (k : Known R). k.heard.judged) ends.1 ∙ ap (λ (h : Heard). h.judged) on.heard;
          granted = ap (λ (k : Known R). k.heard.given) ends.1 ∙ ap (λ (h : Heard). h.given) on.heard ∙ granted;
        }

    -- an answer more
    more_answered : (known mid : Known R) (place : Expect) (list : List Expect) (frames more : List Frame) (frame : Frame) → Allows place frame → frames ≡ frame ∷ more
        → mid.heard ≡ record known.heard { answers = known.heard.answers ++ frame ∷ [] }
        → Answered given mid.heard.corrections mid.heard.answers list more
        → Answered given known.heard.corrections known.heard.answers (place ∷ list) frames
    more_answered known mid place list frames more frame allowed are on rest = record {
      answers = frame ∷ rest.answers;
      judgement = rest.judgement;
      are = are ∙ ap (λ l. frame ∷ l) rest.are;
      each = (allowed, rest.each);
      enough = rest.enough;
      judged = subst (λ (q : List ℕ × List Frame). claim.judges file.key (span_keys file (span_of given)) (exchange_of given q.0 q.1) rest.judgement)
          (λ i. (
            ap (λ (h : Heard). h.corrections) on i,
            (ap (λ (h : Heard). h.answers ++ rest.answers) on ∙ append_assoc known.heard.answers (frame ∷ []) rest.answers) i,
          )) rest.judged;
      said = rest.said;
      granted = rest.granted;
    }

    answered : (list : List Expect) → AreAnswers list → (known : Known R) (frames : List Frame) → known.heard.given ≡ Some given
        → Leads known (list ++ claim.verdict ∷ []) frames → Answered given known.heard.corrections known.heard.answers list frames
    answered [] are known frames granted leads = judging known frames granted leads
    answered (expect.Sums count ∷ list) are known frames granted leads =
        let n = next known (expect.Sums count) (list ++ claim.verdict ∷ []) frames leads in
        let is = next_as known (expect.Sums count) (list ++ claim.verdict ∷ []) frames n (sums n.allowed.0) n.allowed.1 in
        more_answered known n.mid (expect.Sums count) list frames n.more (sums n.allowed.0) (subst (Allows (expect.Sums count)) n.allowed.1 n.allowed) is.0 is.1.0
        (answered list are n.mid n.more (ap (λ (h : Heard). h.given) is.1.0 ∙ granted) is.2)
    answered (expect.Openings count ∷ list) are known frames granted leads =
        let n = next known (expect.Openings count) (list ++ claim.verdict ∷ []) frames leads in
        let is = next_as known (expect.Openings count) (list ++ claim.verdict ∷ []) frames n (openings n.allowed.0) n.allowed.1 in
        more_answered known n.mid (expect.Openings count) list frames n.more (openings n.allowed.0) (subst (Allows (expect.Openings count)) n.allowed.1 n.allowed)
        is.0 is.1.0 (answered list are n.mid n.more (ap (λ (h : Heard). h.given) is.1.0 ∙ granted) is.2)
    answered (expect.PolySums count ∷ list) are known frames granted leads =
        let n = next known (expect.PolySums count) (list ++ claim.verdict ∷ []) frames leads in
        let is = next_as known (expect.PolySums count) (list ++ claim.verdict ∷ []) frames n (poly_sums n.allowed.0) n.allowed.1 in
        more_answered known n.mid (expect.PolySums count) list frames n.more (poly_sums n.allowed.0) (subst (Allows (expect.PolySums count)) n.allowed.1 n.allowed)
        is.0 is.1.0 (answered list are n.mid n.more (ap (λ (h : Heard). h.given) is.1.0 ∙ granted) is.2)
    answered (place ∷ list) are known frames granted leads = absurd are

    -- ---- behind all rounds

    -- corrections, the coin, the answers, and the verdict
    record Exchanged (frames : List Frame) : Type 0 where
      pub elements : List ℕ
      pub answers : List Frame
      pub judgement : Judgement
      pub are : frames ≡ corrections elements ∷ challenge (challenge_coin file given.start) ∷ answers ++ verdict_of judgement ∷ []
      pub exchange : IsExchange claim (exchange_of given elements answers)
      pub enough : claim_needs claim given.section_length ≤ length (span_keys file (span_of given))
      pub judged : claim.judges file.key (span_keys file (span_of given)) (exchange_of given elements answers) judgement
      pub said : last.heard.judged ≡ Some judgement
      pub granted : last.heard.given ≡ Some given

    challenged : (known : Known R) (frames : List Frame) → known.heard.given ≡ Some given → known.heard.answers ≡ []
        → Leads known (expect.Challenge ∷ claim.answers given.section_length ++ claim.verdict ∷ []) frames
        → (more : List Frame) × (frames ≡ challenge (challenge_coin file given.start) ∷ more)
        × Answered given known.heard.corrections [] (claim.answers given.section_length) more
    challenged known frames granted none leads =
        let left = claim.answers given.section_length ++ claim.verdict ∷ [] in
        let n = next known expect.Challenge left frames leads in
        let is = next_as known expect.Challenge left frames n (challenge n.allowed.0) n.allowed.1 in
        let on = is.1.0 in
        let same : on.0 ≡ given = (let e : Some on.0 ≡ Some given = sym on.1 ∙ granted in cc) in (
          n.more,
          is.0 ∙ ap (λ e. challenge e ∷ n.more) (on.2 ∙ ap (λ (q : Grant). challenge_coin file q.start) same),
          subst (λ (q : List ℕ × List Frame). Answered given q.0 q.1 (claim.answers given.section_length) n.more)
              (λ i. (ap (λ (h : Heard). h.corrections) on.3 i, (ap (λ (h : Heard). h.answers) on.3 ∙ none) i))
              (answered (claim.answers given.section_length) (places.answers given.section_length) n.mid n.more (ap (λ (h : Heard). h.given) on.3 ∙ granted) is.2),
        )

    exchanged : (known : Known R) (frames : List Frame) → known.heard.given ≡ Some given → known.heard.answers ≡ []
        → Leads known (claim_places claim given.section_length) frames → Exchanged frames
    exchanged known frames granted none leads =
        let left = expect.Challenge ∷ claim.answers given.section_length ++ claim.verdict ∷ [] in
        let n = next known (expect.Corrections claim.givens) left frames leads in
        let is = next_as known (expect.Corrections claim.givens) left frames n (corrections n.allowed.0) n.allowed.1 in
        let on = is.1.0 in
        let behind = challenged n.mid n.more (ap (λ (h : Heard). h.given) on ∙ granted) (ap (λ (h : Heard). h.answers) on ∙ none) is.2 in
        let rest = subst (λ (e : List ℕ). Answered given e [] (claim.answers given.section_length) behind.0) (ap (λ (h : Heard). h.corrections) on) behind.2 in
        record {
          elements = n.allowed.0;
          answers = rest.answers;
          judgement = rest.judgement;
          are = is.0 ∙ ap (λ l. corrections n.allowed.0 ∷ l) (behind.1 ∙ ap (λ l. challenge (challenge_coin file given.start) ∷ l) rest.are);
          exchange = record { corrections = n.allowed.2; challenge = coin_is_element _; answers = rest.each };
          enough = rest.enough;
          judged = rest.judged;
          said = rest.said;
          granted = rest.granted;
        }

    -- ---- rounds

    replied : (due : List (List TreeReply)) (done : ℕ) (known : Known R) (frames : List Frame) → known.heard.given ≡ Some given → known.heard.answers ≡ []
        → known.heard.round ≡ replying due → Leads known (replies_places file given.count done (length due) ++ claim_places claim given.section_length) frames
        → (more : List Frame) × (frames ≡ map replies due ++ more) × Exchanged more
    replied [] done known frames granted none round leads = (frames, refl, exchanged known frames granted none leads)
    replied (said ∷ due) done known frames granted none round leads =
        let place = expect.Reply file.params.height file.params.trees (given.count - done) in
        let left = replies_places file given.count (done + 1) (length due) ++ claim_places claim given.section_length in
        let n = next known place left frames leads in
        let is = next_as known place left frames n (replies n.allowed.0) n.allowed.1 in
        let on = is.1.0 in
        let e : replying (n.allowed.0 ∷ on.0) ≡ replying (said ∷ due) = sym on.1 ∙ round in
        let said_is : n.allowed.0 ≡ said = cc in
        let due_is : on.0 ≡ due = cc in
        let rest = replied due (done + 1) n.mid n.more (ap (λ (h : Heard). h.given) on.2 ∙ granted) (ap (λ (h : Heard). h.answers) on.2 ∙ none)
        (ap (λ (h : Heard). h.round) on.2 ∙ ap replying due_is) is.2 in
        (rest.0, is.0 ∙ (λ i. replies (said_is i) ∷ rest.1 i), rest.2)

    -- all asks, of which these came before, and then the replies to them
    record Rounded (asked : List (List TreeAsk)) (frames : List Frame) : Type 0 where
      pub new : List (List TreeAsk)
      pub counted : length (asked ++ new) ≡ given.count
      pub each : All (AreAsks file.params.height file.params.trees) (asked ++ new)
      pub more : List Frame
      pub are : frames ≡ map asks new ++ (map replies (round_replies file given (asked ++ new)) ++ more)
      pub rest : Exchanged more

    module _ (is_file : IsVerifierFile file) (in_range : RepliesAreInRange) (within : given.start + given.count ≤ file.params.total) where
      abbrev behind_asks : List Expect
      behind_asks = replies_places file given.count 0 given.count ++ claim_places claim given.section_length

      reply_count : (all : List (List TreeAsk)) → length all ≡ given.count → All (AreAsks file.params.height file.params.trees) all
          → length (round_replies file given all) ≡ given.count
      reply_count all counted each =
          (in_range file given all is_file within (counted, trees_asked file.params.height file.params.trees all each)).0

      -- the last asks came
      all_asked : (asked : List (List TreeAsk)) (said : List TreeAsk) (known mid : Known R) (frames more : List Frame) → frames ≡ asks said ∷ more
          → length (asked ++ said ∷ []) ≡ given.count → All (AreAsks file.params.height file.params.trees) (asked ++ said ∷ [])
          → mid.heard.given ≡ Some given → mid.heard.answers ≡ [] → mid.heard.round ≡ replying (round_replies file given (asked ++ said ∷ []))
          → Leads mid behind_asks more → Rounded asked frames
      all_asked asked said known mid frames more are counted each granted none round leads =
          let all = asked ++ said ∷ [] in
          let rest = replied (round_replies file given all) 0 mid more granted none round
          (subst (λ n. Leads mid (replies_places file given.count 0 n ++ claim_places claim given.section_length) more) (sym (reply_count all counted each)) leads) in
          record {
            new = said ∷ [];
            counted = counted;
            each = each;
            more = rest.0;
            are = are ∙ ap (λ l. asks said ∷ l) rest.1;
            rest = rest.2;
          }

      -- asks of one unit came
      record AskCame (more : ℕ) (asked : List (List TreeAsk)) (known : Known R) (frames : List Frame) : Type 0 where
        pub said : List TreeAsk
        pub mid : Known R
        pub behind : List Frame
        pub are : frames ≡ asks said ∷ behind
        pub each : All (AreAsks file.params.height file.params.trees) (asked ++ said ∷ [])
        pub granted : mid.heard.given ≡ Some given
        pub none : mid.heard.answers ≡ []
        pub on : AsksOn file given (asked ++ said ∷ []) mid.heard.round
        pub onward : Leads mid (asks_places file given.count (length asked + 1) more ++ behind_asks) behind

      ask_came : (more : ℕ) (asked : List (List TreeAsk)) (known : Known R) (frames : List Frame)
          → All (AreAsks file.params.height file.params.trees) asked → known.heard.given ≡ Some given → known.heard.answers ≡ [] → known.heard.round ≡ asking asked
          → Leads known (asks_places file given.count (length asked) (suc more) ++ behind_asks) frames → AskCame more asked known frames
      ask_came more asked known frames each granted none round leads =
          let place = expect.Ask file.params.height file.params.trees (given.count - length asked) in
          let left = asks_places file given.count (length asked + 1) more ++ behind_asks in
          let n = next known place left frames leads in
          let is = next_as known place left frames n (asks n.allowed.0) n.allowed.1 in
          let on : AsksMore file known.heard n.allowed.0 n.mid.heard = is.1.0 in
          let given_is : on.given ≡ given = (let e : Some on.given ≡ Some given = sym on.granted ∙ granted in cc) in
          let asked_is : on.asked ≡ asked = (let e : asking on.asked ≡ asking asked = sym on.before ∙ round in cc) in
          record {
            said = n.allowed.0;
            mid = n.mid;
            behind = n.more;
            are = is.0;
            each = All-push (AreAsks file.params.height file.params.trees) asked n.allowed.0 each n.allowed.2;
            granted = ap (λ (h : Heard). h.given) on.heard ∙ granted;
            none = ap (λ (h : Heard). h.answers) on.heard ∙ none;
            on = subst (AsksOn file given (asked ++ n.allowed.0 ∷ [])) (sym (ap (λ (h : Heard). h.round) on.heard))
                (subst (λ (q : Grant × List (List TreeAsk)). AsksOn file q.0 (q.1 ++ n.allowed.0 ∷ []) on.round) (λ i. (given_is i, asked_is i)) on.on);
            onward = is.2;
          }

      -- the last asks are answered, and others are not
      full_round : (all : List (List TreeAsk)) (round : RoundStage) → AsksOn file given all round → length all ≡ given.count
          → round ≡ replying (round_replies file given all)
      full_round all round (inl (less, is)) full = absurd (omega (arith, less, full))
      full_round all round (inr (counted, is)) full = is

      more_round : (all : List (List TreeAsk)) (round : RoundStage) → AsksOn file given all round → length all < given.count → round ≡ asking all
      more_round all round (inl (less, is)) few = is
      more_round all round (inr (full, is)) few = absurd (omega (arith, few, full))

      asked_on : (more : ℕ) (asked : List (List TreeAsk)) (known : Known R) (frames : List Frame) → length asked + suc more ≡ given.count
          → All (AreAsks file.params.height file.params.trees) asked → known.heard.given ≡ Some given → known.heard.answers ≡ [] → known.heard.round ≡ asking asked
          → Leads known (asks_places file given.count (length asked) (suc more) ++ behind_asks) frames → Rounded asked frames
      asked_on zero asked known frames counted each granted none round leads =
          let came = ask_came zero asked known frames each granted none round leads in
          let full : length (asked ++ came.said ∷ []) ≡ given.count = omega (arith, counted, length_push asked came.said) in
          all_asked asked came.said known came.mid frames came.behind came.are full came.each came.granted came.none
          (full_round (asked ++ came.said ∷ []) came.mid.heard.round came.on full) came.onward
      asked_on (suc m) asked known frames counted each granted none round leads =
          let came = ask_came (suc m) asked known frames each granted none round leads in
          let all = asked ++ came.said ∷ [] in
          let rest = asked_on m all came.mid came.behind (omega (arith, counted, length_push asked came.said)) came.each came.granted came.none
          (more_round all came.mid.heard.round came.on (omega (arith, counted, length_push asked came.said)))
          (subst (λ k. Leads came.mid (asks_places file given.count k (suc m) ++ behind_asks) came.behind) (sym (length_push asked came.said)) came.onward) in
          let same = append_assoc asked (came.said ∷ []) rest.new in
          record {
            new = came.said ∷ rest.new;
            counted = subst (λ l. length l ≡ given.count) same rest.counted;
            each = subst (All (AreAsks file.params.height file.params.trees)) same rest.each;
            more = rest.more;
            are = came.are ∙ ap (λ l. asks came.said ∷ l) (rest.are
                ∙ ap (λ l. map asks rest.new ++ (map replies (round_replies file given l) ++ rest.more)) same);
            rest = rest.rest;
          }

  -- ---- the hello and the grant

  -- the session of a hello, a grant, rounds, and what came behind them
  abbrev session_of : (said : Hello) (given : Grant) → List Round → List ℕ → List Frame → Judgement → ClaimSession
  session_of said given rounds elements answers judgement = record {
    setup = record { hello = said; grant = given; rounds = rounds };
    exchange = exchange_of given elements answers;
    judgement = judgement;
  }

  -- it is a whole session, but for its bytes
  pub record IsWhole (frames : List Frame) : Type 0 where
    pub s : ClaimSession
    pub are : frames ≡ claim_frames s
    pub hello : claim.greets file.id s.setup.hello
    pub grant : s.setup.grant ≡ grant_from claim file section_length s.setup.grant.start
    pub rounds : AreRounds file.params s.setup.grant s.setup.rounds
    pub replies : RepliesAre file s.setup
    pub section : s.exchange.section_length ≡ s.setup.grant.section_length
    pub coin : s.exchange.challenge ≡ challenge_coin file s.setup.grant.start
    pub exchange : IsExchange claim s.exchange
    pub enough : claim_needs claim s.exchange.section_length ≤ length (span_keys file (span_of s.setup.grant))
    pub judged : claim.judges file.key (span_keys file (span_of s.setup.grant)) s.exchange s.judgement
    pub said : last.heard.judged ≡ Some s.judgement
    pub granted : last.heard.given ≡ Some s.setup.grant

  module _ (places : HasPlaces claim) (is_file : IsVerifierFile file) (in_range : RepliesAreInRange) where
    module _ (said : Hello) (greets : claim.greets file.id said) (given : Grant) (grant_is : given ≡ grant_from claim file section_length given.start)
        (within : given.start + given.count ≤ file.params.total) (frames : List Frame) where
      -- with these rounds
      with_rounds : (rounds : List Round) (more : List Frame) → frames ≡ hello said ∷ grant given ∷ flat_map round_frames rounds ++ more
          → AreRounds file.params given rounds → All (λ (round : Round). round.replies ≡ round_replies file given round.asks) rounds
          → Exchanged places given more → IsWhole frames
      with_rounds rounds more are in_order answers rest = record {
        s = session_of said given rounds rest.elements rest.answers rest.judgement;
        are = are ∙ ap (λ l. hello said ∷ grant given ∷ flat_map round_frames rounds ++ l) rest.are
            ∙ sym (append_assoc (hello said ∷ grant given ∷ flat_map round_frames rounds)
            (corrections rest.elements ∷ challenge (challenge_coin file given.start) ∷ rest.answers) (verdict_of rest.judgement ∷ []));
        hello = greets;
        grant = grant_is;
        rounds = in_order;
        replies = answers;
        section = refl;
        coin = refl;
        exchange = rest.exchange;
        enough = rest.enough;
        judged = rest.judged;
        said = rest.said;
        granted = rest.granted;
      }

      direct : file.params.kind ≡ Direct → (more : List Frame) → frames ≡ hello said ∷ grant given ∷ more → Exchanged places given more → IsWhole frames
      direct kind more are rest = with_rounds [] more are
          (record { within = within; count = ap rounds_of (sym kind); each = All-nil (IsRound file.params given) })
          (All-nil (λ (round : Round). round.replies ≡ round_replies file given round.asks)) rest

      extended : file.params.kind ≡ Extended → (more : List Frame) → frames ≡ hello said ∷ grant given ∷ more → Rounded places given [] more → IsWhole frames
      extended kind more are rounded = with_rounds (round ∷ []) rounded.more
          (are ∙ ap (λ l. hello said ∷ grant given ∷ l) (rounded.are
          ∙ sym (append_assoc (map asks rounded.new) (map replies round.replies) rounded.more)
          ∙ ap (λ l. l ++ rounded.more) (sym (append-nil (map asks rounded.new ++ map replies round.replies)))))
          (record {
            within = within;
            count = ap rounds_of (sym kind);
            each = All-cons (IsRound file.params given) round [] (record { asks = asked; replies = in_range file given rounded.new is_file within asked })
                (All-nil (IsRound file.params given));
          })
          (All-cons (λ (r : Round). r.replies ≡ round_replies file given r.asks) round [] refl (All-nil (λ (r : Round). r.replies ≡ round_replies file given r.asks)))
          rounded.rest
        where
          round : Round
          round = record { asks = rounded.new; replies = round_replies file given rounded.new }

          asked : ForEachTree file.params given (IsTreeAsk file.params.height) rounded.new
          asked = (rounded.counted, trees_asked file.params.height file.params.trees rounded.new rounded.each)

    -- from its grant on
    granted_on : (said : Hello) → claim.greets file.id said → (known mid : Known R) (given : Grant) → known.heard ≡ nothing_heard
        → GrantsUnits grants claim file section_length known given mid → (frames more : List Frame) → frames ≡ hello said ∷ grant given ∷ more
        → Leads mid (claim_behind file.params claim given) more → IsWhole frames
    granted_on said greets known mid given unheard units frames more are leads = by file.params.kind refl
      where
        grant_is : given ≡ grant_from claim file section_length given.start
        grant_is = units.given_is ∙ ap (grant_from claim file section_length) (sym (ap (λ (q : Grant). q.start) units.given_is))

        within : given.start + given.count ≤ file.params.total
        within = subst (λ n. n ≤ file.params.total)
            (units.counted ∙ (λ i. (sym (ap (λ (q : Grant). q.start) units.given_is) i) + (sym (ap (λ (q : Grant). q.count) units.given_is) i))) units.within

        granted : mid.heard.given ≡ Some given
        granted = ap (λ (h : Heard). h.given) units.heard

        none : mid.heard.answers ≡ []
        none = ap (λ (h : Heard). h.answers) units.heard ∙ ap (λ (h : Heard). h.answers) unheard

        round : mid.heard.round ≡ asking []
        round = ap (λ (h : Heard). h.round) units.heard ∙ ap (λ (h : Heard). h.round) unheard

        some : 1 ≤ given.count
        some = omega (arith, ap (λ (q : Grant). q.count) units.given_is)

        by : (kind : Kind) → file.params.kind ≡ kind → IsWhole frames
        by Direct kind = direct said greets given grant_is within frames kind more are
            (exchanged places given mid more granted none
            (subst (λ (k : Kind). Leads mid (flat_map (λ n. round_places file.params given) (range_with_len 0 (rounds_of k)) ++ claim_places claim given.section_length) more)
            kind leads))
        by Extended kind =
            let m = some_more given.count some in
            let all = asks_places file given.count 0 given.count in
            let replied = replies_places file given.count 0 given.count in
            extended said greets given grant_is within frames kind more are
            (asked_on places given is_file in_range within m.0 [] mid more (omega (arith, m.1)) (All-nil (AreAsks file.params.height file.params.trees)) granted none round
            (subst (λ (l : List Expect). Leads mid l more)
            (ap (λ (k : Kind). flat_map (λ n. round_places file.params given) (range_with_len 0 (rounds_of k)) ++ claim_places claim given.section_length) kind
            ∙ ap (λ l. l ++ claim_places claim given.section_length) (append-nil (all ++ replied))
            ∙ append_assoc all replied (claim_places claim given.section_length)
            ∙ ap (λ n. asks_places file given.count 0 n ++ (replied ++ claim_places claim given.section_length)) m.1) leads))

    pub whole : (old : R) (frames : List Frame) → Leads (known_of nothing_heard old) (first_places claim) frames → IsWhole frames
    whole old frames leads = by n.allowed
      where
        first : Next (known_of nothing_heard old) claim.greeting (expect.Grant ∷ []) frames
        first = next (known_of nothing_heard old) claim.greeting (expect.Grant ∷ []) frames leads

        said : (said : Hello) × (first.frame ≡ hello said)
        said = greeted claim.greeting first.frame places.greeting first.allowed

        is : (frames ≡ hello said.0 ∷ first.more) × VerifierPasses grants claim file section_length (known_of nothing_heard old) (hello said.0) first.mid
            × Leads first.mid (expect.Grant ∷ []) first.more
        is = next_as (known_of nothing_heard old) claim.greeting (expect.Grant ∷ []) frames first (hello said.0) said.1

        n : Next first.mid expect.Grant [] first.more
        n = next first.mid expect.Grant [] first.more is.2

        by : Allows expect.Grant n.frame → IsWhole frames
        by (inl (given, given_is, fit)) =
            let at = next_as first.mid expect.Grant [] first.more n (grant given) given_is in
            granted_on said.0 is.1.0.0 first.mid n.mid given is.1.0.1 at.1 frames n.more (is.0 ∙ ap (λ l. hello said.0 ∷ l) at.0) at.2
        by (inr (code, code_is, fit)) = absurd (next_as first.mid expect.Grant [] first.more n (refuse code) code_is).1.0

-- what it shows of every prover's file that is dealt with the verifier's
pub shows_to_all : (claim : Claim) (file : VerifierFile) → IsVerifierFile file → IsSound claim → KeysFit → PairsExist → (s : ClaimSession)
    → AreRounds file.params s.setup.grant s.setup.rounds → RepliesAre file s.setup → IsExchange claim s.exchange
    → claim_needs claim s.exchange.section_length ≤ length (span_keys file (span_of s.setup.grant))
    → claim.judges file.key (span_keys file (span_of s.setup.grant)) s.exchange Accepted
    → ShowsToAll claim file s
shows_to_all claim file is_file sound fits exist s rounds replied exchange enough judged prover is_prover dealt =
    let theirs = subst (λ (params : Params). AreRounds params s.setup.grant s.setup.rounds) (sym dealt.params) rounds in
    let there = exist prover s.setup is_prover theirs in
    record {
      pairs = there.0;
      seen = there.1;
      shows = λ others seen. sound file.key others _ s.exchange is_file.key (fits prover file s.setup others is_prover is_file dealt theirs replied seen)
          enough exchange judged;
    }

module _ {R : Type 0} (grants : Grants R) (claim : Claim) (file : VerifierFile) (section_length : ℕ) (places : HasPlaces claim) (is_file : IsVerifierFile file)
    (in_range : RepliesAreInRange) (sound : IsSound claim) (fits : KeysFit) (exist : PairsExist) (old new : R) (heard : Heard) (first now : LinkSnapshot)
    (leaves : ScriptLeaves (verifier_rules grants claim file section_length) Verifier [] (stage_of (known_of nothing_heard old) (first_places claim))
    (known_of heard new) Done first now) where
  -- what was heard is a whole session
  pub heard_whole : (judgement : Judgement) → heard.judged ≡ Some judgement → IsHeardWhole claim file section_length heard judgement now.log
  heard_whole judgement judged = record {
    session = found.s;
    judgement_is = same;
    granted = subst (λ (h : Heard). h.given ≡ Some found.s.setup.grant) (ap (λ (k : Known R). k.heard) (sym leaves.stops.same)) found.granted;
    served = record {
      bytes = leaves.stops.well.logged ∙ ap log_of found.are;
      hello = found.hello;
      grant = found.grant;
      rounds = found.rounds;
      replies = found.replies;
      section = found.section;
      coin = found.coin;
      exchange = found.exchange;
      enough = found.enough;
      judged = found.judged;
    };
    shows = λ accepted. shows_to_all claim file is_file sound fits exist found.s found.rounds found.replies found.exchange found.enough
        (subst (λ j. claim.judges file.key (span_keys file (span_of found.s.setup.grant)) found.s.exchange j) (same ∙ accepted) found.judged);
  }
    where
      passed : Passes (verifier_rules grants claim file section_length) (stage_of (known_of nothing_heard old) (first_places claim)) leaves.frames
          (stage_of leaves.stage.known [])
      passed = subst (λ l. Passes (verifier_rules grants claim file section_length) (stage_of (known_of nothing_heard old) (first_places claim)) leaves.frames
          (stage_of leaves.stage.known l)) leaves.stops.none leaves.passed

      found : IsWhole grants claim file section_length leaves.stage.known leaves.frames
      found = whole grants claim file section_length leaves.stage.known places is_file in_range old leaves.frames passed

      same : found.s.judgement ≡ judgement
      same = let e : Some found.s.judgement ≡ Some judgement = sym found.said ∙ ap (λ (k : Known R). k.heard.judged) (sym leaves.stops.same) ∙ judged in cc
