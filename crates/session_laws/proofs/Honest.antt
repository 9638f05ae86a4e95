-- What an honest prover makes of a setup: whoever has a witness has an honest session over it.
use Rattle.std.proofs.Common.{◌≡◌, ℕ, suc, ◌+◌, ◌<◌, ◌≤◌, ◌^◌, List, [], ◌∷◌, zip, length, refl, sym, ◌∙◌, ap, subst, arith}
use Rattle.std.specs.Prelude.{All, get_or}
use Rattle.std.specs.List.{range_with_len}
use Rattle.std.proofs.lemmas.List.{length-map}
use Rattle.std.proofs.lemmas.List.Elements.{All-map, All-nil, All-cons, All-same}
use Rattle.std.proofs.lemmas.List.FromFn.{length-map-range_with_len}
use Rattle.std.proofs.lemmas.Slice.Zip.{length-zip}
use Rattle.mersenne_field.proofs.FieldLaws.{reduced}
use Rattle.session_laws.proofs.Shapes.{round_asks_shaped, round_replies_shaped}
use Rattle.zk_laws.proofs.FoundPairs.{pairs_exist}
use Rattle.zk_laws.proofs.OnePairs.{one_pairs}
use Rattle.zk_laws.proofs.WholePairs.{pairs_are_whole}
use Rattle.circuit_laws.proofs.Unique.{set_element}
use Rattle.zk_laws.proofs.Views.{rounds_are, enough_pairs, view_exists, mac_at_place}
use Rattle.zk_model.specs.Field.{IsElement, ◌-ₚ◌}
use Rattle.zk_model.specs.Program.{Program}
use Rattle.zk_model.specs.Statement.{Statement, IsStatement}
use Rattle.zk_model.specs.Mac.{Pair, corrected_pair, corrected_pairs, macs_of, pair_at}
use Rattle.zk_model.specs.Files.{ProverFile, VerifierFile, IsProverFile, IsVerifierFile, rounds_of}
use Rattle.frame_laws.proofs.Hellos.{wanted_is_hello}
use Rattle.zk_model.specs.Transcript.{Grant, Round, Setup, Commitment, Transcript, ForEachTree, IsTreeAsk, IsTreeReply, IsGrant, IsRound, IsSetup, IsCommitment, IsTranscript, wanted_hello}
use Rattle.zk_model.specs.Correlations.{IsProverView}
use Rattle.zk_model.specs.Check.{honest_sums, section_triples, all_sums, opened_pairs}
use Rattle.zk_model.specs.View.{View, IsView, view_masks}
use Rattle.zk_model.specs.HonestProver.{ProverTask, IsWitness, IsHonest, honest_corrections, round_asks}
use Rattle.zk_model.specs.ServedVerifier.{RepliesAre, round_replies}
use Rattle.zk_model.specs.declared.Kind.{Kind}
use Rattle.zk_model.specs.declared.Kind.TheVariants.{Direct, Extended}
use Rattle.zk_model.specs.declared.Params.{Params}

-- the asks of all rounds are those of an honest prover
abbrev pub AsksAre : ProverFile → Setup → Type 0
AsksAre file setup = All (λ round. round.asks ≡ round_asks file setup.grant) setup.rounds

-- ---- a session over a setup

-- an honest session with this setup, challenge and verdict, of these values
pub record IsMade (prover : ProverTask) (setup : Setup) (challenge code number : ℕ) (wires given : List ℕ) : Type 0 where
  pub t : Transcript
  pub transcript : IsTranscript prover.file.params prover.statement.program t
  pub honest : IsHonest prover t
  pub setup_is : t.commitment.setup ≡ setup
  pub challenge_is : t.challenge ≡ challenge
  pub code_is : t.code ≡ code
  pub number_is : t.number ≡ number
  pub wires_are : honest.wires ≡ wires
  pub given_are : honest.given ≡ given

-- each correction is an element
corrections_are_elements : (given : List ℕ) (pairs : List Pair) → All IsElement (honest_corrections given pairs)
corrections_are_elements given pairs = All-map IsElement (λ q. q.0 -ₚ q.1.x) (zip given pairs) (λ n d below. reduced _)

-- one for each given value
corrections_count : (given : List ℕ) (pairs : List Pair) (n : ℕ) → length given ≡ n → n ≤ length pairs
    → length (honest_corrections given pairs) ≡ n
corrections_count given pairs n counted enough =
    let zipped = length-zip given pairs in
    length-map _ _ ∙ omega (arith, zipped, counted, enough)

-- the MACs of given values stay those of the correlations
given_macs : (pairs : List Pair) (corrections : List ℕ) → All (λ pair. IsElement pair.x × IsElement pair.m) pairs
    → All IsElement (macs_of (corrected_pairs pairs corrections))
given_macs pairs corrections all =
    All-map IsElement (λ (pair : Pair). pair.m) (corrected_pairs pairs corrections)
    (All-map (λ (pair : Pair). IsElement pair.m) (λ q. corrected_pair q.0 q.1) (zip pairs corrections) (of_zip pairs corrections all))
  where
    of_zip : (pairs : List Pair) (corrections : List ℕ) → All (λ pair. IsElement pair.x × IsElement pair.m) pairs
        → All (λ (q : Pair × ℕ). IsElement q.0.m) (zip pairs corrections)
    of_zip [] corrections all = All-nil (λ (q : Pair × ℕ). IsElement q.0.m)
    of_zip (pair ∷ pairs) [] all = All-nil (λ (q : Pair × ℕ). IsElement q.0.m)
    of_zip (pair ∷ pairs) (c ∷ corrections) all = All-cons (λ (q : Pair × ℕ). IsElement q.0.m) (pair, c) (zip pairs corrections)
        (all 0 pair (omega arith)).1 (of_zip pairs corrections (λ k d below. all (suc k) d (omega (arith, below))))

-- the MACs of opened wires are elements
pub opened_macs : (file : ProverFile) (statement : Statement) (commitment : Commitment) (view : View) → IsProverFile file
    → IsStatement statement → IsCommitment file.params statement.program commitment → IsView file statement commitment view
    → All IsElement (macs_of (opened_pairs statement.program view.carried))
opened_macs file statement commitment view is stated committed seen =
    All-map IsElement (λ (pair : Pair). pair.m) (opened_pairs statement.program view.carried)
    (All-map (λ (pair : Pair). IsElement pair.m) (pair_at view.carried.wires) statement.program.opened
    (λ o d below. subst IsElement (mac_at_place view.carried.wires (get_or statement.program.opened o d))
    (set_element 0 statement.program statement.public (macs_of view.carried.given) (macs_of view.carried.wires)
    (length statement.program.steps) (get_or statement.program.opened o d) stated.program seen.carried.macs elements
    (stated.program.opened o d below))))
  where
    elements : All IsElement (macs_of view.carried.given)
    elements = All-same IsElement _ _ (ap macs_of seen.given)
        (given_macs view.pairs commitment.corrections
        (pairs_are_whole file commitment.setup view.pairs is
        (rounds_are file.params statement.program commitment.setup committed.setup) seen.pairs).elements)

-- the sums are elements
pub sums_are_elements : (program : Program) (section_length challenge : ℕ) (view : View)
    → All (λ both. IsElement both.0 × IsElement both.1)
    (all_sums program section_length challenge view.carried (view_masks program view))
sums_are_elements program section_length challenge view =
    All-map (λ (both : ℕ × ℕ). IsElement both.0 × IsElement both.1)
    (λ s. honest_sums challenge (section_triples program section_length view.carried s) (pair_at (view_masks program view) s))
    (range_with_len 0 _) (λ n d below. (reduced _, reduced _))

-- the frames of an honest prover over a view
abbrev pub made_transcript : Program → Commitment → View → ℕ → ℕ → ℕ → Transcript
made_transcript program commitment view challenge code number = record {
  commitment = commitment;
  challenge = challenge;
  sums = all_sums program commitment.setup.grant.section_length challenge view.carried (view_masks program view);
  openings = macs_of (opened_pairs program view.carried);
  code = code;
  number = number;
}

-- what the prover fixed was honest, so it is where sums and openings are made of it, whatever the verifier says
abbrev pub honest_as : (prover : ProverTask) (t : Transcript) (challenge code number : ℕ) (sums : List (ℕ × ℕ)) (openings : List ℕ) → (honest : IsHonest prover t)
    → sums ≡ all_sums prover.statement.program t.commitment.setup.grant.section_length challenge honest.view.carried
    (view_masks prover.statement.program honest.view)
    → openings ≡ macs_of (opened_pairs prover.statement.program honest.view.carried)
    → IsHonest prover (record t { challenge = challenge; sums = sums; openings = openings; code = code; number = number })
honest_as prover t challenge code number sums openings honest summed opened =
    record { hello = honest.hello; asks = honest.asks; wires = honest.wires; given = honest.given; witness = honest.witness; view = honest.view; seen = honest.seen; corrections = honest.corrections; sums = summed; openings = opened }

pub honest_session_exists : (prover : ProverTask) (setup : Setup) (challenge code number : ℕ) (wires given : List ℕ)
    → IsProverFile prover.file → IsStatement prover.statement → IsWitness prover.statement prover.inputs wires given
    → IsSetup prover.file.params prover.statement.program setup
    → setup.hello ≡ wanted_hello prover.file.id prover.statement → AsksAre prover.file setup
    → IsElement challenge → code ≤ 2 → number < 2 ^ 32
    → IsMade prover setup challenge code number wires given
honest_session_exists prover setup challenge code number wires given is stated witness set hello asks element said numbered = record {
  t = made_transcript prover.statement.program commitment view.0 challenge code number;
  transcript = record {
    commitment = committed;
    challenge = element;
    sum_count = length-map-range_with_len _ 0 _;
    sums = sums_are_elements prover.statement.program setup.grant.section_length challenge view.0;
    opening_count = length-map _ _ ∙ length-map _ _;
    openings = opened_macs prover.file prover.statement commitment view.0 is stated committed view.1;
    code = said;
    number = numbered;
  };
  honest = record {
    hello = hello;
    asks = asks;
    wires = wires;
    view = view.0;
    given = given;
    witness = witness;
    seen = view.1;
    corrections = ap (honest_corrections given) (one_pairs prover.file setup pairs.0 view.0.pairs pairs.1 view.1.pairs);
    sums = refl;
    openings = refl;
  };
  setup_is = refl;
  challenge_is = refl;
  code_is = refl;
  number_is = refl;
  wires_are = refl;
  given_are = refl;
}
  where
    pairs : (pairs : List Pair) × IsProverView prover.file setup pairs
    pairs = pairs_exist prover.file setup is (rounds_are prover.file.params prover.statement.program setup set)

    commitment : Commitment
    commitment = record { setup = setup; corrections = honest_corrections given pairs.0 }

    committed : IsCommitment prover.file.params prover.statement.program commitment
    committed = record {
      setup = set;
      count =
          let enough = enough_pairs prover.file prover.statement.program setup pairs.0 is set pairs.1 in
          corrections_count given pairs.0 prover.statement.program.givens witness.solves.count (omega (arith, enough));
      elements = corrections_are_elements given pairs.0;
    }

    view : (view : View) × IsView prover.file prover.statement commitment view
    view = view_exists prover.file prover.statement commitment is stated committed

-- ---- a setup with a grant

-- no round, or one of the prover's asks and the verifier's replies
abbrev honest_rounds : ProverFile → VerifierFile → Grant → Kind → List Round
honest_rounds prover verifier grant Direct = []
honest_rounds prover verifier grant Extended =
    record { asks = round_asks prover grant; replies = round_replies verifier grant (round_asks prover grant) } ∷ []

-- rounds in which neither end deviates
record AreHonestRounds (prover : ProverFile) (verifier : VerifierFile) (grant : Grant) (kind : Kind) (rounds : List Round) : Type 0 where
  count : length rounds ≡ rounds_of kind
  each : All (IsRound prover.params grant) rounds
  asks : All (λ round. round.asks ≡ round_asks prover grant) rounds
  replies : All (λ round. round.replies ≡ round_replies verifier grant round.asks) rounds

honest_rounds_are : (prover : ProverFile) (verifier : VerifierFile) (grant : Grant) (kind : Kind) → IsProverFile prover
    → IsVerifierFile verifier → prover.params ≡ verifier.params → grant.start + grant.count ≤ prover.params.total
    → AreHonestRounds prover verifier grant kind (honest_rounds prover verifier grant kind)
honest_rounds_are prover verifier grant Direct left right same within =
    record { count = refl; each = All-nil _; asks = All-nil _; replies = All-nil _ }
honest_rounds_are prover verifier grant Extended left right same within = record {
  count = refl;
  each = All-cons (IsRound prover.params grant) _ [] round (All-nil (IsRound prover.params grant));
  asks = All-cons (λ (round : Round). round.asks ≡ round_asks prover grant) _ [] refl (All-nil _);
  replies = All-cons (λ (round : Round). round.replies ≡ round_replies verifier grant round.asks) _ [] refl (All-nil _);
}
  where
    replied : ForEachTree verifier.params grant (IsTreeReply verifier.params.height) (round_replies verifier grant (round_asks prover grant))
    replied = round_replies_shaped verifier grant (round_asks prover grant) right
        (subst (λ (params : Params). grant.start + grant.count ≤ params.total) same within)
        (subst (λ (params : Params). ForEachTree params grant (IsTreeAsk params.height) (round_asks prover grant)) same
        (round_asks_shaped prover grant left within))

    round : IsRound prover.params grant (record { asks = round_asks prover grant; replies = round_replies verifier grant (round_asks prover grant) })
    round = record {
      asks = round_asks_shaped prover grant left within;
      replies = subst (λ (params : Params). ForEachTree params grant (IsTreeReply params.height) (round_replies verifier grant (round_asks prover grant)))
          (sym same) replied;
    }

-- a setup with this grant in which neither end deviates
pub record HasHonestSetup (prover : ProverTask) (verifier : VerifierFile) (grant : Grant) : Type 0 where
  pub setup : Setup
  pub granted : setup.grant ≡ grant
  pub is : IsSetup prover.file.params prover.statement.program setup
  pub hello : setup.hello ≡ wanted_hello prover.file.id prover.statement
  pub asks : AsksAre prover.file setup
  pub replies : RepliesAre verifier setup

pub honest_setup_exists : (prover : ProverTask) (verifier : VerifierFile) (grant : Grant) → IsProverFile prover.file
    → IsStatement prover.statement → IsVerifierFile verifier → prover.file.params ≡ verifier.params
    → IsGrant prover.file.params prover.statement.program grant → HasHonestSetup prover verifier grant
honest_setup_exists prover verifier grant left stated right same granted = record {
  setup = record { hello = wanted_hello prover.file.id prover.statement; grant = grant; rounds = honest_rounds prover.file verifier grant prover.file.params.kind };
  granted = refl;
  is = record { hello = wanted_is_hello prover.file.id prover.statement left.id stated; grant = granted; round_count = rounds.count; rounds = rounds.each };
  hello = refl;
  asks = rounds.asks;
  replies = rounds.replies;
}
  where
    rounds : AreHonestRounds prover.file verifier grant prover.file.params.kind (honest_rounds prover.file verifier grant prover.file.params.kind)
    rounds = honest_rounds_are prover.file verifier grant prover.file.params.kind left right same granted.within
