-- What a prover knows at each place of its session, from the frames that led there.
use Rattle.std.proofs.Common.{◌≡◌, ◌⊎◌, ℕ, zero, suc, inl, inr, Some, List, [], ◌∷◌, ◌++◌, map, flat_map, length, ◌+◌, ◌-◌, ◌≤◌, refl, sym, ◌∙◌, ap, subst, arith, append_assoc, append-nil}
use Rattle.std.specs.Prelude.{All}
use Rattle.std.specs.List.{range_with_len}
use Rattle.std.proofs.lemmas.List.{length_push}
use Rattle.std.proofs.lemmas.List.Elements.{All-nil, All-push, All-rest}
use Rattle.zk_model.specs.Audit.{round_places}
use Rattle.zk_model.specs.Files.{ProverFile, IsProverFile, rounds_of}
use Rattle.zk_model.specs.Frames.{Frame, grant, asks, replies, corrections, challenge, sums, openings, poly_sums, verdict, refuse, Allows, AreAsks, AreReplies}
use Rattle.zk_model.specs.HonestProver.{round_asks}
use Rattle.zk_model.specs.Transcript.{Grant, TreeAsk, TreeReply, IsTreeAsk}
use Rattle.zk_model.specs.declared.Expect.{Expect}
use Rattle.zk_model.specs.declared.Expect.TheVariants as expect
use Rattle.zk_model.specs.declared.Kind.{Kind}
use Rattle.zk_model.specs.declared.Kind.TheVariants.{Direct, Extended}
use Rattle.session_laws.specs.Rounds.{AsksAreInRange}
use Rattle.session_prover.specs.Stages.{ClaimantTells}
use Rattle.session_script.specs.Scripts.{after_in, left_after, Stage, stage_of, Fits, Passes, Reached}
use Rattle.session_claim.specs.Claims.{HasPlaces, IsVerdictPlace, AreAnswers, AllowsEach, claim_needs}
use Rattle.session_claim.specs.Script.{claim_places, claim_behind}
use Rattle.claim_prover.specs.Telling.{Knowledge, Told, Known, SuitsClaim, Commits, IsChallenged, AnswersSo, TakesGrant, IsUntold, ProverPasses, asks_in, prover_rules}

-- ---- lists

-- what a verdict's place allows is a verdict
verdict_read : (place : Expect) (frame : Frame) → IsVerdictPlace place → Allows place frame → (code : ℕ) × (number : ℕ) × (frame ≡ verdict code number)
verdict_read expect.Verdict frame is allowed = (allowed.0, allowed.1, allowed.2)
verdict_read expect.PolyVerdict frame is allowed = (allowed.0, allowed.1, allowed.2)
verdict_read place frame is allowed = absurd is

split : (place other : Expect) (places others : List Expect) (all : List Expect) → all ≡ place ∷ places → all ≡ other ∷ others → (place ≡ other) × (places ≡ others)
split place other places others all one two = let e : place ∷ places ≡ other ∷ others = sym one ∙ two in (cc, cc)

-- the places of asks and of replies from one on, so many
abbrev pub asks_places : ProverFile → ℕ → ℕ → ℕ → List Expect
asks_places file count from more = map (λ i. expect.Ask file.params.height file.params.trees (count - i)) (range_with_len from more)

abbrev pub replies_places : ProverFile → ℕ → ℕ → ℕ → List Expect
replies_places file count from more = map (λ i. expect.Reply file.params.height file.params.trees (count - i)) (range_with_len from more)

trees_asked : (height trees : ℕ) (units : List (List TreeAsk)) → All (λ (said : List TreeAsk). (length said ≡ trees) × All (IsTreeAsk height) said) units
    → All (AreAsks height trees) units
trees_asked height trees units each k d less = let q = each k d less in record { counted = q.0; each = q.1 }

-- ---- where a session is

module _ {O : Type 0} (claims : ClaimantTells O) (knows : Knowledge) (file : ProverFile) where
  -- this grant was taken
  pub record HasGrant (told : Told) (given : Grant) : Type 0 where
    pub granted : told.given ≡ Some given
    pub suits : SuitsClaim knows.claim file.params given
    pub within : given.start + given.count ≤ file.params.total

  -- the replies that are wanted came
  pub record HasReplies (told : Told) (given : Grant) : Type 0 where
    pub whole : file.params.kind ≡ Extended → length told.replies ≡ given.count
    pub each : All (AreReplies file.params.height file.params.trees) told.replies

  -- nothing is granted yet
  pub record AtFirst (stage : Stage (Known O)) : Type 0 where
    pub left : stage.left ≡ expect.Grant ∷ []
    pub untold : IsUntold claims knows file stage.known

  -- these asks are still to be said, maybe none
  pub record AtAsks (given : Grant) (stage : Stage (Known O)) : Type 0 where
    pub has : HasGrant stage.known.told given
    pub due : List (List TreeAsk)
    pub due_is : stage.known.told.asks ≡ due
    pub done : ℕ
    pub left : stage.left ≡ asks_places file given.count done (length due) ++ (replies_places file given.count 0 given.count ++ claim_places knows.claim given.section_length)
    pub each : All (AreAsks file.params.height file.params.trees) due
    pub none : stage.known.told.replies ≡ []

  -- these replies came, and so many are still to come, maybe none
  pub record AtReplies (given : Grant) (stage : Stage (Known O)) : Type 0 where
    pub has : HasGrant stage.known.told given
    pub came : List (List TreeReply)
    pub came_is : stage.known.told.replies ≡ came
    pub more : ℕ
    pub counted : length came + more ≡ given.count
    pub left : stage.left ≡ replies_places file given.count (length came) more ++ claim_places knows.claim given.section_length
    pub each : All (AreReplies file.params.height file.params.trees) came

  -- all rounds are over
  pub record AtCorrections (given : Grant) (stage : Stage (Known O)) : Type 0 where
    pub has : HasGrant stage.known.told given
    pub replied : HasReplies stage.known.told given
    pub left : stage.left ≡ claim_places knows.claim given.section_length

  -- its values are committed
  pub record AtChallenge (given : Grant) (stage : Stage (Known O)) : Type 0 where
    pub has : HasGrant stage.known.told given
    pub enough : claim_needs knows.claim given.section_length ≤ length stage.known.told.pairs
    pub left : stage.left ≡ expect.Challenge ∷ knows.claim.answers given.section_length ++ knows.claim.verdict ∷ []

  -- these answers are still to be said, maybe none
  pub record AtAnswers (stage : Stage (Known O)) : Type 0 where
    pub rest : List Expect
    pub left : stage.left ≡ rest ++ knows.claim.verdict ∷ []
    pub are : AreAnswers rest
    pub each : AllowsEach rest stage.known.told.answers

  -- a verdict was read
  pub record AtEnd (stage : Stage (Known O)) : Type 0 where
    pub left : stage.left ≡ []
    pub code : ℕ
    pub number : ℕ
    pub read : stage.known.told.verdict ≡ Some (code, number)

  abbrev pub IsGranted : Stage (Known O) → Type 0
  IsGranted stage = (given : Grant) × (AtAsks given stage ⊎ AtReplies given stage ⊎ AtCorrections given stage ⊎ AtChallenge given stage)

  abbrev pub IsDue : Stage (Known O) → Type 0
  IsDue stage = AtFirst stage ⊎ IsGranted stage ⊎ AtAnswers stage ⊎ AtEnd stage

  -- once all asks are said, replies are to come; once all came, corrections are due
  pub asks_over : (given : Grant) (stage : Stage (Known O)) (at : AtAsks given stage) → at.due ≡ [] → AtReplies given stage
  asks_over given stage at is = record {
    has = at.has;
    came = [];
    came_is = at.none;
    more = given.count;
    counted = omega arith;
    left = at.left ∙ ap (λ (l : List (List TreeAsk)). asks_places file given.count at.done (length l)
        ++ (replies_places file given.count 0 given.count ++ claim_places knows.claim given.section_length)) is;
    each = All-nil (AreReplies file.params.height file.params.trees);
  }

  pub replies_over : (given : Grant) (stage : Stage (Known O)) (at : AtReplies given stage) → at.more ≡ 0 → AtCorrections given stage
  replies_over given stage at is = record {
    has = at.has;
    replied = record {
      whole = λ extended. ap length at.came_is ∙ omega (arith, at.counted, is);
      each = subst (All (AreReplies file.params.height file.params.trees)) (sym at.came_is) at.each;
    };
    left = at.left ∙ ap (λ n. replies_places file given.count (length at.came) n ++ claim_places knows.claim given.section_length) is;
  }

  module _ (places : HasPlaces knows.claim) (is_file : IsProverFile file) (in_range : AsksAreInRange) where
    module _ (old new : Stage (Known O)) (frame : Frame) (fits : Fits (prover_rules claims knows file) old frame new) where
      -- the frame at a place that is known, and what it leaves
      at : (place : Expect) (rest : List Expect) → old.left ≡ place ∷ rest
          → Allows place frame × (new.left ≡ left_after (claim_behind file.params knows.claim) rest (after_in frame))
      at place rest is =
          let same = split fits.place place fits.places rest old.left fits.next is in
          (subst (λ p. Allows p frame) same.0 fits.allowed, fits.left ∙ ap (λ l. left_after (claim_behind file.params knows.claim) l (after_in frame)) same.1)

      passes_as : (other : Frame) → frame ≡ other → ProverPasses claims knows file old.known other new.known
      passes_as other is = subst (λ f. ProverPasses claims knows file old.known f new.known) is fits.passes

      left_as : (other : Frame) (rest : List Expect) → frame ≡ other → new.left ≡ left_after (claim_behind file.params knows.claim) rest (after_in frame)
          → new.left ≡ left_after (claim_behind file.params knows.claim) rest (after_in other)
      left_as other rest is left = left ∙ ap (λ f. left_after (claim_behind file.params knows.claim) rest (after_in f)) is

      -- the grant stays
      has_on : (given : Grant) → HasGrant old.known.told given → new.known.told.given ≡ old.known.told.given → HasGrant new.known.told given
      has_on given has same = record { granted = same ∙ has.granted; suits = has.suits; within = has.within }

      -- ---- the grant

      granted_direct : (given : Grant) → HasGrant new.known.told given → new.left ≡ claim_behind file.params knows.claim given → file.params.kind ≡ Direct
          → new.known.told.replies ≡ [] → IsDue new
      granted_direct given has left direct none = inr (inl (
        given,
        inr (inr (inl (record {
          has = has;
          replied = record {
            whole = λ extended. let no : Direct ≡ Extended = sym direct ∙ extended in cc;
            each = subst (All (AreReplies file.params.height file.params.trees)) (sym none) (All-nil (AreReplies file.params.height file.params.trees));
          };
          left = left ∙ ap (λ (k : Kind). flat_map (λ n. round_places file.params given) (range_with_len 0 (rounds_of k)) ++ claim_places knows.claim given.section_length) direct;
        }))),
      ))

      granted_extended : (given : Grant) → HasGrant new.known.told given → new.left ≡ claim_behind file.params knows.claim given → file.params.kind ≡ Extended
          → new.known.told.replies ≡ [] → new.known.told.asks ≡ asks_in file file.params.kind given → IsDue new
      granted_extended given has left extended none asked =
          let said = in_range file given is_file has.within in
          let all = asks_places file given.count 0 given.count in
          let replied = replies_places file given.count 0 given.count in
          inr (inl (
            given,
            inl (record {
              has = has;
              due = round_asks file given;
              due_is = asked ∙ ap (λ (k : Kind). asks_in file k given) extended;
              done = 0;
              left = left
                  ∙ ap (λ (k : Kind). flat_map (λ n. round_places file.params given) (range_with_len 0 (rounds_of k)) ++ claim_places knows.claim given.section_length) extended
                  ∙ ap (λ l. l ++ claim_places knows.claim given.section_length) (append-nil (all ++ replied))
                  ∙ append_assoc all replied (claim_places knows.claim given.section_length)
                  ∙ ap (λ n. asks_places file given.count 0 n ++ (replied ++ claim_places knows.claim given.section_length)) (sym said.0);
              each = trees_asked file.params.height file.params.trees (round_asks file given) said.1;
              none = none;
            }),
          ))

      granting : IsUntold claims knows file old.known → (given : Grant) → frame ≡ grant given
          → new.left ≡ left_after (claim_behind file.params knows.claim) [] (after_in frame) → IsDue new
      granting untold given is left = by_kind file.params.kind refl
        where
          takes : TakesGrant claims knows file old.known given new.known
          takes = passes_as (grant given) is

          has : HasGrant new.known.told given
          has = record { granted = ap (λ (t : Told). t.given) takes.told; suits = takes.takes.suits; within = takes.takes.within }

          none : new.known.told.replies ≡ []
          none = ap (λ (t : Told). t.replies) takes.told ∙ ap (λ (t : Told). t.replies) untold.told

          asked : new.known.told.asks ≡ asks_in file file.params.kind given
          asked = ap (λ (t : Told). t.asks) takes.told

          by_kind : (kind : Kind) → file.params.kind ≡ kind → IsDue new
          by_kind Direct direct = granted_direct given has (left_as (grant given) [] is left) direct none
          by_kind Extended extended = granted_extended given has (left_as (grant given) [] is left) extended none asked

      first_on : AtFirst old → IsDue new
      first_on first = by here.0 here.1
        where
          here : Allows expect.Grant frame × (new.left ≡ left_after (claim_behind file.params knows.claim) [] (after_in frame))
          here = at expect.Grant [] first.left

          by : Allows expect.Grant frame → new.left ≡ left_after (claim_behind file.params knows.claim) [] (after_in frame) → IsDue new
          by (inl (given, is, fit)) left = granting first.untold given is left
          by (inr (code, is, fit)) left = absurd (passes_as (refuse code) is).0

      -- ---- corrections and rounds

      corrected : (given : Grant) → AtCorrections given old → IsDue new
      corrected given due =
          let here = at (expect.Corrections knows.claim.givens) (expect.Challenge ∷ knows.claim.answers given.section_length ++ knows.claim.verdict ∷ []) due.left in
          let on : Commits knows file old.known.told here.0.0 new.known.told = (passes_as (corrections here.0.0) here.0.1).0 in
          let given_is : on.given ≡ given = (let e : Some on.given ≡ Some given = sym on.granted ∙ due.has.granted in cc) in
          inr (inl (
            given,
            inr (inr (inr (record {
              has = has_on given due.has (ap (λ (t : Told). t.given) on.told);
              enough = subst (λ (q : Grant × Told). claim_needs knows.claim q.0.section_length ≤ length q.1.pairs) (λ i. (given_is i, sym on.told i)) on.enough;
              left = left_as (corrections here.0.0) (expect.Challenge ∷ knows.claim.answers given.section_length ++ knows.claim.verdict ∷ []) here.0.1 here.1;
            }))),
          ))

      replies_next : (given : Grant) (due : AtReplies given old) (more : ℕ) → due.more ≡ more → IsDue new
      replies_next given due zero is = corrected given (replies_over given old due is)
      replies_next given due (suc more) is =
          let here = at (expect.Reply file.params.height file.params.trees (given.count - length due.came))
          (replies_places file given.count (length due.came + 1) more ++ claim_places knows.claim given.section_length)
          (due.left ∙ ap (λ n. replies_places file given.count (length due.came) n ++ claim_places knows.claim given.section_length) is) in
          let on = (passes_as (replies here.0.0) here.0.1).0 in
          inr (inl (
            given,
            inr (inl (record {
              has = has_on given due.has (ap (λ (t : Told). t.given) on);
              came = due.came ++ here.0.0 ∷ [];
              came_is = ap (λ (t : Told). t.replies) on ∙ ap (λ l. l ++ here.0.0 ∷ []) due.came_is;
              more = more;
              counted = omega (arith, is, due.counted, length_push due.came here.0.0);
              left = left_as (replies here.0.0) _ here.0.1 here.1
                  ∙ ap (λ n. replies_places file given.count n more ++ claim_places knows.claim given.section_length) (sym (length_push due.came here.0.0));
              each = All-push (AreReplies file.params.height file.params.trees) due.came here.0.0 due.each here.0.2;
            })),
          ))

      asks_next : (given : Grant) (due : AtAsks given old) (list : List (List TreeAsk)) → due.due ≡ list → IsDue new
      asks_next given due [] is = let next = asks_over given old due is in replies_next given next next.more refl
      asks_next given due (next ∷ list) is = inr (inl (
        given,
        inl (record {
          has = has_on given due.has (ap (λ (t : Told). t.given) on.2);
          due = list;
          due_is = ap (λ (t : Told). t.asks) on.2 ∙ rest_is;
          done = due.done + 1;
          left = left_as (asks said) _ here.0.1 here.1;
          each = All-rest (AreAsks file.params.height file.params.trees) next list due.due is due.each;
          none = ap (λ (t : Told). t.replies) on.2 ∙ due.none;
        }),
      ))
        where
          here : Allows (expect.Ask file.params.height file.params.trees (given.count - due.done)) frame
              × (new.left ≡ left_after (claim_behind file.params knows.claim)
              (asks_places file given.count (due.done + 1) (length list) ++ (replies_places file given.count 0 given.count ++ claim_places knows.claim given.section_length)) (after_in frame))
          here = at (expect.Ask file.params.height file.params.trees (given.count - due.done))
              (asks_places file given.count (due.done + 1) (length list) ++ (replies_places file given.count 0 given.count ++ claim_places knows.claim given.section_length))
              (due.left ∙ ap (λ (l : List (List TreeAsk)). asks_places file given.count due.done (length l)
              ++ (replies_places file given.count 0 given.count ++ claim_places knows.claim given.section_length)) is)

          said : List TreeAsk
          said = here.0.0

          on : (left : List (List TreeAsk)) × (old.known.told.asks ≡ said ∷ left) × (new.known.told ≡ record old.known.told { asks = left })
          on = (passes_as (asks said) here.0.1).0

          rest_is : on.0 ≡ list
          rest_is = let e : said ∷ on.0 ≡ next ∷ list = sym on.1 ∙ due.due_is ∙ is in cc

      -- ---- the challenge, the answers, and the verdict

      challenge_next : (given : Grant) (due : AtChallenge given old) → IsDue new
      challenge_next given due =
          let here = at expect.Challenge (knows.claim.answers given.section_length ++ knows.claim.verdict ∷ []) due.left in
          let on : IsChallenged knows old.known.told here.0.0 new.known.told = (passes_as (challenge here.0.0) here.0.1).0 in
          let given_is : on.given ≡ given = (let e : Some on.given ≡ Some given = sym on.granted ∙ due.has.granted in cc) in
          inr (inr (inl (record {
            rest = knows.claim.answers given.section_length;
            left = left_as (challenge here.0.0) (knows.claim.answers given.section_length ++ knows.claim.verdict ∷ []) here.0.1 here.1;
            are = places.answers given.section_length;
            each = subst (λ (q : Grant × List Frame). AllowsEach (knows.claim.answers q.0.section_length) q.1)
                (λ i. (given_is i, sym (ap (λ (t : Told). t.answers) on.told) i)) on.placed;
          })))

      -- an answer is said
      answered : (due : AtAnswers old) (place : Expect) (rest : List Expect) (other : Frame) → due.rest ≡ place ∷ rest → AreAnswers rest
          → AnswersSo old.known.told other new.known.told → new.left ≡ rest ++ knows.claim.verdict ∷ [] → IsDue new
      answered due place rest other is are on left =
          let each : AllowsEach (place ∷ rest) (other ∷ on.0) = subst (λ (q : List Expect × List Frame). AllowsEach q.0 q.1) (λ i. (is i, on.1 i)) due.each in
          inr (inr (inl (record {
            rest = rest;
            left = left;
            are = are;
            each = subst (AllowsEach rest) (sym (ap (λ (t : Told). t.answers) on.2)) each.1;
          })))

      answers_next : (due : AtAnswers old) (rest : List Expect) → due.rest ≡ rest → AreAnswers rest → IsDue new
      answers_next due [] is are =
          let here = at knows.claim.verdict [] (due.left ∙ ap (λ l. l ++ knows.claim.verdict ∷ []) is) in
          let said = verdict_read knows.claim.verdict frame places.verdict here.0 in
          let on = (passes_as (verdict said.0 said.1) said.2).0 in
          inr (inr (inr (record {
            left = left_as (verdict said.0 said.1) [] said.2 here.1;
            code = said.0;
            number = said.1;
            read = ap (λ (t : Told). t.verdict) on;
          })))
      answers_next due (expect.Sums count ∷ rest) is are =
          let here = at (expect.Sums count) (rest ++ knows.claim.verdict ∷ []) (due.left ∙ ap (λ l. l ++ knows.claim.verdict ∷ []) is) in
          answered due (expect.Sums count) rest (sums here.0.0) is are (passes_as (sums here.0.0) here.0.1).0 (left_as (sums here.0.0) (rest ++ knows.claim.verdict ∷ []) here.0.1 here.1)
      answers_next due (expect.Openings count ∷ rest) is are =
          let here = at (expect.Openings count) (rest ++ knows.claim.verdict ∷ []) (due.left ∙ ap (λ l. l ++ knows.claim.verdict ∷ []) is) in
          answered due (expect.Openings count) rest (openings here.0.0) is are (passes_as (openings here.0.0) here.0.1).0
          (left_as (openings here.0.0) (rest ++ knows.claim.verdict ∷ []) here.0.1 here.1)
      answers_next due (expect.PolySums count ∷ rest) is are =
          let here = at (expect.PolySums count) (rest ++ knows.claim.verdict ∷ []) (due.left ∙ ap (λ l. l ++ knows.claim.verdict ∷ []) is) in
          answered due (expect.PolySums count) rest (poly_sums here.0.0) is are (passes_as (poly_sums here.0.0) here.0.1).0
          (left_as (poly_sums here.0.0) (rest ++ knows.claim.verdict ∷ []) here.0.1 here.1)
      answers_next due (place ∷ rest) is are = absurd are

      over_no : AtEnd old → IsDue new
      over_no end = let no : [] ≡ fits.place ∷ fits.places = sym end.left ∙ fits.next in cc

      pub due_on : IsDue old → IsDue new
      due_on (inl first) = first_on first
      due_on (inr (inl (given, inl due))) = asks_next given due due.due refl
      due_on (inr (inl (given, inr (inl due)))) = replies_next given due due.more refl
      due_on (inr (inl (given, inr (inr (inl due))))) = corrected given due
      due_on (inr (inl (given, inr (inr (inr due))))) = challenge_next given due
      due_on (inr (inr (inl due))) = answers_next due due.rest refl due.are
      due_on (inr (inr (inr end))) = over_no end

    pub due_after : (old new : Stage (Known O)) (frames : List Frame) → Passes (prover_rules claims knows file) old frames new → IsDue old → IsDue new
    due_after old new [] passes due = subst IsDue (sym passes) due
    due_after old new (frame ∷ frames) passes due = due_after passes.0 new frames passes.2 (due_on old passes.0 frame passes.1 due)

    -- so it is wherever its frames led
    pub due_at : (stage : Stage (Known O)) → Reached (prover_rules claims knows file) stage → IsDue stage
    due_at stage reached = due_after (stage_of reached.start (expect.Grant ∷ [])) stage reached.frames reached.passed
        (inl (record { left = refl; untold = reached.begins }))
