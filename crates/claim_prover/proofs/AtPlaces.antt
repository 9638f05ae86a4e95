-- What a prover knows at the place that comes next.
use Rattle.std.proofs.Common.{◌≡◌, ℕ, zero, suc, inl, inr, Some, List, [], ◌∷◌, ◌++◌, length, ◌+◌, ◌-◌, ◌*◌, ◌≤◌, refl, sym, ◌∙◌, ap, subst, arith}
use Rattle.std.specs.Prelude.{All}
use Rattle.std.proofs.lemmas.List.Elements.{All-head}
use Rattle.zk_model.specs.Files.{ProverFile, IsProverFile}
use Rattle.zk_model.specs.Frames.{Frame, Allows, AreAsks}
use Rattle.zk_model.specs.Transcript.{Grant, TreeAsk}
use Rattle.zk_model.specs.declared.Expect.{Expect}
use Rattle.zk_model.specs.declared.Expect.TheVariants as expect
use Rattle.zk_model.specs.declared.Side.TheVariants.{Prover, Verifier}
use Rattle.session_laws.specs.Rounds.{AsksAreInRange}
use Rattle.session_prover.specs.Stages.{ClaimantTells}
use Rattle.session_script.specs.Scripts.{stage_of, side_at, Reached}
use Rattle.session_claim.specs.Claims.{Claim, HasPlaces, IsVerdictPlace, AreAnswers, AllowsEach, claim_needs}
use Rattle.session_claim.specs.Script.{claim_places}
use Rattle.zk_model.specs.Frames.{asks}
use Rattle.zk_model.specs.Files.{correlations_per_unit}
use Rattle.zk_model.specs.Mac.{Pair}
use Rattle.zk_laws.proofs.Views.{gives_some, parts_hold}
use Rattle.claim_prover.specs.Telling.{Knowledge, Told, Known, SuitsClaim, known_of, IsUntold, ProverPasses, prover_rules}
use Rattle.claim_prover.proofs.Due.{HasGrant, HasReplies, AtAsks, AtReplies, AtCorrections, AtAnswers, AtEnd, IsDue, asks_places, replies_places, asks_over, replies_over, due_at}

first_is : (place other : Expect) (rest others : List Expect) → place ∷ rest ≡ other ∷ others → other ≡ place
first_is place other rest others is = cc

module _ {O : Type 0} (claims : ClaimantTells O) (knows : Knowledge) (file : ProverFile) where
  -- the next answer stands at its place
  pub record OwesAnswer (place : Expect) (told : Told) : Type 0 where
    pub said : Frame
    pub due : List Frame
    pub answers : told.answers ≡ said ∷ due
    pub allowed : Allows place said

  pub record OwesCorrections (count : ℕ) (told : Told) : Type 0 where
    pub count_is : count ≡ knows.claim.givens
    pub given : Grant
    pub has : HasGrant claims knows file told given
    pub replied : HasReplies claims knows file told given

  pub record OwesAsks (height trees : ℕ) (told : Told) : Type 0 where
    pub said : List TreeAsk
    pub due : List (List TreeAsk)
    pub asks : told.asks ≡ said ∷ due
    pub are : AreAsks height trees said

  pub record MayAnswer (told : Told) : Type 0 where
    pub given : Grant
    pub has : HasGrant claims knows file told given
    pub enough : claim_needs knows.claim given.section_length ≤ length told.pairs

  -- what is known at a place
  abbrev pub KnowsAt : Expect → Known O → Type 0
  KnowsAt expect.Hello known = ⊥
  KnowsAt expect.ShortHello known = ⊥
  KnowsAt expect.Grant known = IsUntold claims knows file known
  KnowsAt (expect.Ask height trees left) known = OwesAsks height trees known.told
  KnowsAt (expect.Reply height trees left) known = Unit {0}
  KnowsAt (expect.Corrections count) known = OwesCorrections count known.told
  KnowsAt expect.Challenge known = MayAnswer known.told
  KnowsAt (expect.Sums count) known = OwesAnswer (expect.Sums count) known.told
  KnowsAt (expect.Openings count) known = OwesAnswer (expect.Openings count) known.told
  KnowsAt (expect.PolySums count) known = OwesAnswer (expect.PolySums count) known.told
  KnowsAt expect.Verdict known = Unit {0}
  KnowsAt expect.PolyVerdict known = Unit {0}
  KnowsAt expect.Want known = ⊥
  KnowsAt expect.Block known = ⊥

  module _ (places : HasPlaces knows.claim) (is_file : IsProverFile file) (in_range : AsksAreInRange) (known : Known O) (place : Expect) (rest : List Expect) where
    here : (other : Expect) (others : List Expect) → place ∷ rest ≡ other ∷ others → KnowsAt other known → KnowsAt place known
    here other others is at = subst (λ p. KnowsAt p known) (first_is place other rest others is) at

    by_corrections : (given : Grant) → AtCorrections claims knows file given (stage_of known (place ∷ rest)) → KnowsAt place known
    by_corrections given due = here (expect.Corrections knows.claim.givens) _ due.left (record { count_is = refl; given = given; has = due.has; replied = due.replied })

    by_replies : (given : Grant) (due : AtReplies claims knows file given (stage_of known (place ∷ rest))) (more : ℕ) → due.more ≡ more → KnowsAt place known
    by_replies given due zero is = by_corrections given (replies_over claims knows file given (stage_of known (place ∷ rest)) due is)
    by_replies given due (suc more) is =
        here (expect.Reply file.params.height file.params.trees (given.count - length due.came)) _
        (due.left ∙ ap (λ n. replies_places file given.count (length due.came) n ++ claim_places knows.claim given.section_length) is) tt

    by_asks : (given : Grant) (due : AtAsks claims knows file given (stage_of known (place ∷ rest))) (list : List (List TreeAsk)) → due.due ≡ list → KnowsAt place known
    by_asks given due [] is = let next = asks_over claims knows file given (stage_of known (place ∷ rest)) due is in by_replies given next next.more refl
    by_asks given due (said ∷ list) is =
        here (expect.Ask file.params.height file.params.trees (given.count - due.done)) _
        (due.left ∙ ap (λ (l : List (List TreeAsk)). asks_places file given.count due.done (length l)
        ++ (replies_places file given.count 0 given.count ++ claim_places knows.claim given.section_length)) is)
        (record {
          said = said;
          due = list;
          asks = due.due_is ∙ is;
          are = All-head (AreAsks file.params.height file.params.trees) said list (subst (All (AreAsks file.params.height file.params.trees)) is due.each);
        })

    owes : (at : Expect) (others : List Expect) (frames : List Frame) → known.told.answers ≡ frames → AllowsEach (at ∷ others) frames → OwesAnswer at known.told
    owes at others [] is each = absurd each
    owes at others (frame ∷ frames) is each = record { said = frame; due = frames; answers = is; allowed = each.0 }

    by_verdict : (at : Expect) → IsVerdictPlace at → KnowsAt at known
    by_verdict expect.Verdict is = tt
    by_verdict expect.PolyVerdict is = tt
    by_verdict at is = absurd is

    by_answers : (due : AtAnswers claims knows file (stage_of known (place ∷ rest))) (more : List Expect) → due.rest ≡ more → AreAnswers more → KnowsAt place known
    by_answers due [] is are = here knows.claim.verdict [] (due.left ∙ ap (λ l. l ++ knows.claim.verdict ∷ []) is) (by_verdict knows.claim.verdict places.verdict)
    by_answers due (expect.Sums count ∷ more) is are =
        here (expect.Sums count) _ (due.left ∙ ap (λ l. l ++ knows.claim.verdict ∷ []) is)
        (owes (expect.Sums count) more known.told.answers refl (subst (λ l. AllowsEach l known.told.answers) is due.each))
    by_answers due (expect.Openings count ∷ more) is are =
        here (expect.Openings count) _ (due.left ∙ ap (λ l. l ++ knows.claim.verdict ∷ []) is)
        (owes (expect.Openings count) more known.told.answers refl (subst (λ l. AllowsEach l known.told.answers) is due.each))
    by_answers due (expect.PolySums count ∷ more) is are =
        here (expect.PolySums count) _ (due.left ∙ ap (λ l. l ++ knows.claim.verdict ∷ []) is)
        (owes (expect.PolySums count) more known.told.answers refl (subst (λ l. AllowsEach l known.told.answers) is due.each))
    by_answers due (other ∷ more) is are = absurd are

    pub knows_at : Reached (prover_rules claims knows file) (stage_of known (place ∷ rest)) → KnowsAt place known
    knows_at reached = by (due_at claims knows file places is_file in_range (stage_of known (place ∷ rest)) reached)
      where
        by : IsDue claims knows file (stage_of known (place ∷ rest)) → KnowsAt place known
        by (inl first) = here expect.Grant [] first.left first.untold
        by (inr (inl (given, inl due))) = by_asks given due due.due refl
        by (inr (inl (given, inr (inl due)))) = by_replies given due due.more refl
        by (inr (inl (given, inr (inr (inl due))))) = by_corrections given due
        by (inr (inl (given, inr (inr (inr due))))) = here expect.Challenge _ due.left (record { given = given; has = due.has; enough = due.enough })
        by (inr (inr (inl due))) = by_answers due due.rest refl due.are
        by (inr (inr (inr end))) = let no : place ∷ rest ≡ [] = end.left in cc

    pub grant_at : Reached (prover_rules claims knows file) (stage_of known (place ∷ rest)) → place ≡ expect.Grant → IsUntold claims knows file known
    grant_at reached is = subst (λ p. KnowsAt p known) is (knows_at reached)

    pub asks_at : Reached (prover_rules claims knows file) (stage_of known (place ∷ rest)) → (height trees left : ℕ) → place ≡ expect.Ask height trees left
        → OwesAsks height trees known.told
    asks_at reached height trees left is = subst (λ p. KnowsAt p known) is (knows_at reached)

    pub corrections_at : Reached (prover_rules claims knows file) (stage_of known (place ∷ rest)) → (count : ℕ) → place ≡ expect.Corrections count → OwesCorrections count known.told
    corrections_at reached count is = subst (λ p. KnowsAt p known) is (knows_at reached)

    pub challenge_at : Reached (prover_rules claims knows file) (stage_of known (place ∷ rest)) → place ≡ expect.Challenge → MayAnswer known.told
    challenge_at reached is = subst (λ p. KnowsAt p known) is (knows_at reached)

    pub sums_at : Reached (prover_rules claims knows file) (stage_of known (place ∷ rest)) → (count : ℕ) → place ≡ expect.Sums count → OwesAnswer (expect.Sums count) known.told
    sums_at reached count is = subst (λ p. KnowsAt p known) is (knows_at reached)

    pub openings_at : Reached (prover_rules claims knows file) (stage_of known (place ∷ rest)) → (count : ℕ) → place ≡ expect.Openings count → OwesAnswer (expect.Openings count) known.told
    openings_at reached count is = subst (λ p. KnowsAt p known) is (knows_at reached)

    pub poly_sums_at : Reached (prover_rules claims knows file) (stage_of known (place ∷ rest)) → (count : ℕ) → place ≡ expect.PolySums count
        → OwesAnswer (expect.PolySums count) known.told
    poly_sums_at reached count is = subst (λ p. KnowsAt p known) is (knows_at reached)

  -- whichever grant it is
  pub same_grant : (told : Told) (given other : Grant) → told.given ≡ Some given → told.given ≡ Some other → given ≡ other
  same_grant told given other one two = let e : Some given ≡ Some other = sym one ∙ two in cc

  pub asks_allowed : (place : Expect) (height trees left : ℕ) (told : Told) → place ≡ expect.Ask height trees left → OwesAsks height trees told
      → (said : List TreeAsk) (due : List (List TreeAsk)) → told.asks ≡ said ∷ due → Allows place (asks said)
  asks_allowed place height trees left told is owes said due two =
      let e : owes.said ∷ owes.due ≡ said ∷ due = sym owes.asks ∙ two in
      let same : owes.said ≡ said = cc in
      subst (λ p. Allows p (asks said)) (sym is) (said, refl, subst (AreAsks height trees) same owes.are)

  pub answer_allowed : (place other : Expect) (told : Told) → place ≡ other → OwesAnswer other told → (said : Frame) (due : List Frame) → told.answers ≡ said ∷ due → Allows place said
  answer_allowed place other told is owes said due two =
      let e : owes.said ∷ owes.due ≡ said ∷ due = sym owes.answers ∙ two in
      let same : owes.said ≡ said = cc in
      subst (λ p. Allows p said) (sym is) (subst (Allows other) same owes.allowed)

  pub sums_pass : (count : ℕ) (told : Told) (claimant : O) → OwesAnswer (expect.Sums count) told → (said : Frame) (due : List Frame) → told.answers ≡ said ∷ due
      → ProverPasses claims knows file (known_of told claimant) said (known_of (record told { answers = due }) claimant)
  sums_pass count told claimant owes said due two =
      let here : Allows (expect.Sums count) said = answer_allowed (expect.Sums count) (expect.Sums count) told refl owes said due two in
      subst (λ f. ProverPasses claims knows file (known_of told claimant) f (known_of (record told { answers = due }) claimant)) (sym here.1)
      ((due, two ∙ ap (λ f. f ∷ due) here.1, refl), refl)

  pub openings_pass : (count : ℕ) (told : Told) (claimant : O) → OwesAnswer (expect.Openings count) told → (said : Frame) (due : List Frame) → told.answers ≡ said ∷ due
      → ProverPasses claims knows file (known_of told claimant) said (known_of (record told { answers = due }) claimant)
  openings_pass count told claimant owes said due two =
      let here : Allows (expect.Openings count) said = answer_allowed (expect.Openings count) (expect.Openings count) told refl owes said due two in
      subst (λ f. ProverPasses claims knows file (known_of told claimant) f (known_of (record told { answers = due }) claimant)) (sym here.1)
      ((due, two ∙ ap (λ f. f ∷ due) here.1, refl), refl)

  pub poly_sums_pass : (count : ℕ) (told : Told) (claimant : O) → OwesAnswer (expect.PolySums count) told → (said : Frame) (due : List Frame) → told.answers ≡ said ∷ due
      → ProverPasses claims knows file (known_of told claimant) said (known_of (record told { answers = due }) claimant)
  poly_sums_pass count told claimant owes said due two =
      let here : Allows (expect.PolySums count) said = answer_allowed (expect.PolySums count) (expect.PolySums count) told refl owes said due two in
      subst (λ f. ProverPasses claims knows file (known_of told claimant) f (known_of (record told { answers = due }) claimant)) (sym here.1)
      ((due, two ∙ ap (λ f. f ∷ due) here.1, refl), refl)

  -- what it hears is a grant, replies, a challenge or a verdict
  pub hears_one : (known : Known O) (place : Expect) → KnowsAt place known → side_at place ≡ Verifier → (place ≡ expect.Grant → ⊥)
      → ((height trees left : ℕ) → place ≡ expect.Reply height trees left → ⊥) → (place ≡ expect.Challenge → ⊥) → (place ≡ expect.Verdict → ⊥)
      → (place ≡ expect.PolyVerdict → ⊥) → ⊥
  hears_one known expect.Grant at side no_grant no_reply no_challenge no_verdict no_poly_verdict = no_grant refl
  hears_one known (expect.Reply height trees left) at side no_grant no_reply no_challenge no_verdict no_poly_verdict = no_reply height trees left refl
  hears_one known expect.Challenge at side no_grant no_reply no_challenge no_verdict no_poly_verdict = no_challenge refl
  hears_one known expect.Verdict at side no_grant no_reply no_challenge no_verdict no_poly_verdict = no_verdict refl
  hears_one known expect.PolyVerdict at side no_grant no_reply no_challenge no_verdict no_poly_verdict = no_poly_verdict refl
  hears_one known expect.Block at side no_grant no_reply no_challenge no_verdict no_poly_verdict = at
  hears_one known place at side no_grant no_reply no_challenge no_verdict no_poly_verdict = cc

  -- what it says is asks, corrections, sums or openings
  pub says_one : (known : Known O) (place : Expect) → KnowsAt place known → side_at place ≡ Prover → ((height trees left : ℕ) → place ≡ expect.Ask height trees left → ⊥)
      → ((count : ℕ) → place ≡ expect.Corrections count → ⊥) → ((count : ℕ) → place ≡ expect.Sums count → ⊥) → ((count : ℕ) → place ≡ expect.Openings count → ⊥)
      → ((count : ℕ) → place ≡ expect.PolySums count → ⊥) → ⊥
  says_one known expect.Hello at side no_asks no_corrections no_sums no_openings no_poly_sums = at
  says_one known expect.ShortHello at side no_asks no_corrections no_sums no_openings no_poly_sums = at
  says_one known (expect.Ask height trees left) at side no_asks no_corrections no_sums no_openings no_poly_sums = no_asks height trees left refl
  says_one known (expect.Corrections count) at side no_asks no_corrections no_sums no_openings no_poly_sums = no_corrections count refl
  says_one known (expect.Sums count) at side no_asks no_corrections no_sums no_openings no_poly_sums = no_sums count refl
  says_one known (expect.Openings count) at side no_asks no_corrections no_sums no_openings no_poly_sums = no_openings count refl
  says_one known (expect.PolySums count) at side no_asks no_corrections no_sums no_openings no_poly_sums = no_poly_sums count refl
  says_one known expect.Want at side no_asks no_corrections no_sums no_openings no_poly_sums = at
  says_one known place at side no_asks no_corrections no_sums no_openings no_poly_sums = cc

  -- a session of which nothing is left has a verdict that was read
  pub ended_at : HasPlaces knows.claim → IsProverFile file → AsksAreInRange → (known : Known O) (left : List Expect)
      → Reached (prover_rules claims knows file) (stage_of known left) → left ≡ [] → AtEnd claims knows file (stage_of known left)
  ended_at places is_file in_range known left reached none = by (due_at claims knows file places is_file in_range (stage_of known left) reached)
    where
      no_front : (front more : List Expect) (place : Expect) → left ≡ front ++ place ∷ more → ⊥
      no_front [] more place is = let e : [] ≡ place ∷ more = sym none ∙ is in cc
      no_front (first ∷ front) more place is = let e : [] ≡ first ∷ (front ++ place ∷ more) = sym none ∙ is in cc

      no_replies : (given : Grant) → AtReplies claims knows file given (stage_of known left) → ⊥
      no_replies given due = no_front (replies_places file given.count (length due.came) due.more) _ _ due.left

      no_asks : (given : Grant) (due : AtAsks claims knows file given (stage_of known left)) (list : List (List TreeAsk)) → due.due ≡ list → ⊥
      no_asks given due [] is = no_replies given (asks_over claims knows file given (stage_of known left) due is)
      no_asks given due (said ∷ list) is = no_front [] _ _ (due.left ∙ ap (λ (l : List (List TreeAsk)). asks_places file given.count due.done (length l)
          ++ (replies_places file given.count 0 given.count ++ claim_places knows.claim given.section_length)) is)

      by : IsDue claims knows file (stage_of known left) → AtEnd claims knows file (stage_of known left)
      by (inl first) = absurd (no_front [] _ _ first.left)
      by (inr (inl (given, inl due))) = absurd (no_asks given due due.due refl)
      by (inr (inl (given, inr (inl due)))) = absurd (no_replies given due)
      by (inr (inl (given, inr (inr (inl due))))) = absurd (no_front [] _ _ due.left)
      by (inr (inl (given, inr (inr (inr due))))) = absurd (no_front [] _ _ due.left)
      by (inr (inr (inl due))) = absurd (no_front due.rest _ _ due.left)
      by (inr (inr (inr end))) = end

-- the pairs of a grant that suits are enough
pub enough_for : (claim : Claim) (file : ProverFile) (given : Grant) (pairs : List Pair) → IsProverFile file → SuitsClaim claim file.params given
    → length pairs ≡ given.count * correlations_per_unit file.params → claim_needs claim given.section_length ≤ length pairs
enough_for claim file given pairs is suits count =
    subst (λ n. claim_needs claim given.section_length ≤ n) (sym count)
    (parts_hold (claim_needs claim given.section_length) (correlations_per_unit file.params) given.count
    (gives_some file.params file.params.kind is.params.limits) suits.count)

-- and more than the values
pub givens_for : (givens masks count : ℕ) → givens + masks ≤ count → givens ≤ count
givens_for givens masks count enough = omega (arith, enough)

pub some_same : (one other : Grant) → Some one ≡ Some other → one ≡ other
some_same one other is = cc
