-- An honest session over a setup that the verifier replied to can be served to its end, where it is accepted.
use Rattle.std.proofs.Common.{◌≡◌, ℕ, List, refl, sym, ◌∙◌, ap, subst, arith}
use Rattle.std.proofs.lemmas.List.{length-map}
use Rattle.std.proofs.lemmas.List.FromFn.{length-map-range_with_len}
use Rattle.mersenne_field.proofs.FieldLaws.{reduced}
use Rattle.session_laws.specs.Peers.{GivesClaims}
use Rattle.session_laws.proofs.Followed.{AreEnds}
use Rattle.session_laws.proofs.Honest.{IsMade, HasHonestSetup, made_transcript, opened_macs, sums_are_elements, honest_as, honest_session_exists, honest_setup_exists}
use Rattle.session_laws.proofs.Served.{given_count}
use Rattle.zk_laws.specs.Completeness.{AreCounterparts}
use Rattle.zk_laws.proofs.Follow.{wires_follow}
use Rattle.zk_laws.proofs.HonestIsAccepted.{honest_session_is_accepted}
use Rattle.zk_laws.proofs.HonestSession.{honest_session_holds}
use Rattle.zk_laws.proofs.KeysFit.{keys_fit}
use Rattle.zk_laws.proofs.Views.{rounds_are}
use Rattle.frame_laws.proofs.Hellos.{wanted_fits}
use Rattle.zk_model.specs.Program.{Carries, opened_values}
use Rattle.zk_model.specs.Mac.{AreKeysOf, corrected_keys}
use Rattle.zk_model.specs.Files.{VerifierFile, AreDealt}
use Rattle.zk_model.specs.Transcript.{Grant, Setup, Transcript, IsHelloFor, IsGrant, IsTranscript, wanted_hello, spelling}
use Rattle.zk_model.specs.Check.{WireKeys, AllSectionsHold, AllOpeningsHold}
use Rattle.zk_model.specs.View.{AreSessionKeys, session_keys, session_products, session_openings}
use Rattle.zk_model.specs.HonestProver.{ProverTask, IsHonest}
use Rattle.zk_model.specs.ServedVerifier.{VerifierTask, RepliesAre, IsServed, challenge_coin}
use Rattle.zk_model.specs.BothEnds.{IsHonestSession}
use Rattle.zk_model.specs.declared.Params.{Params}
use Rattle.zk_model.specs.declared.Verdict.TheVariants.{Accepted}

-- a verifier of the prover's statement
abbrev pub task_of : ProverTask → VerifierFile → VerifierTask
task_of prover file = record { file = file; statement = prover.statement }

-- both ends over one statement, whose files are dealt together, and a prover whose values give the claims
pub record AreBoth (prover : ProverTask) (file : VerifierFile) : Type 0 where
  pub ends : AreEnds prover file
  pub dealt : AreDealt prover.file file
  pub claims : GivesClaims prover

pub counterparts : (prover : ProverTask) (file : VerifierFile) → AreBoth prover file → AreCounterparts prover (task_of prover file)
counterparts prover file both = record {
  statement = refl;
  prover_file = both.ends.prover_file;
  verifier_file = both.ends.verifier_file;
  dealt = both.dealt;
}

-- an honest session with the commitment of u, the verifier's coin, and the verdict that all holds
pub record IsCompleted (prover : ProverTask) (file : VerifierFile) (u s : Transcript) : Type 0 where
  pub session : IsHonestSession prover (task_of prover file) u.commitment.setup.grant s Accepted (spelling s)
  pub commitment : s.commitment ≡ u.commitment
  pub challenge : s.challenge ≡ challenge_coin file u.commitment.setup.grant.start
  pub sums : u.challenge ≡ challenge_coin file u.commitment.setup.grant.start → s.sums ≡ u.sums
  pub openings : s.openings ≡ u.openings
  pub code : s.code ≡ 0
  pub number : s.number ≡ 0

pub completed : (prover : ProverTask) (file : VerifierFile) (u : Transcript) → AreBoth prover file
    → IsTranscript prover.file.params prover.statement.program u → IsHonest prover u → RepliesAre file u.commitment.setup
    → (s : Transcript) × IsCompleted prover file u s
completed prover file u both is honest replies = (
  s,
  record {
    session = (honest_session_is_accepted prover (task_of prover file) s Accepted (spelling s) (counterparts prover file both)
        honestly claims served).1;
    commitment = refl;
    challenge = refl;
    sums = λ same. ap (λ challenge. (made_transcript prover.statement.program u.commitment honest.view challenge 0 0).sums) (sym same)
        ∙ sym honest.sums;
    openings = sym honest.openings;
    code = refl;
    number = refl;
  },
)
  where
    s : Transcript
    s = made_transcript prover.statement.program u.commitment honest.view (challenge_coin file u.commitment.setup.grant.start) 0 0

    transcript : IsTranscript prover.file.params prover.statement.program s
    transcript = record {
      commitment = is.commitment;
      challenge = reduced _;
      sum_count = length-map-range_with_len _ 0 _;
      sums = sums_are_elements prover.statement.program u.commitment.setup.grant.section_length
          (challenge_coin file u.commitment.setup.grant.start) honest.view;
      opening_count = length-map _ _ ∙ length-map _ _;
      openings = opened_macs prover.file prover.statement u.commitment honest.view both.ends.prover_file both.ends.stated is.commitment honest.seen;
      code = omega arith;
      number = omega arith;
    }

    honestly : IsHonest prover s
    honestly = honest_as prover u (challenge_coin file u.commitment.setup.grant.start) 0 0 _ _ honest refl refl

    claims : opened_values prover.statement.program honest.wires ≡ prover.statement.claims
    claims = both.claims honest.wires honest.given honest.witness

    theirs : IsTranscript file.params prover.statement.program s
    theirs = subst (λ (params : Params). IsTranscript params prover.statement.program s) both.dealt.params transcript

    given : List ℕ
    given = corrected_keys file.key (session_keys file u.commitment) u.commitment.corrections

    wires : (numbers : List ℕ) × Carries file.key prover.statement.program prover.statement.public given numbers
    wires = wires_follow file.key prover.statement.program prover.statement.public given both.ends.stated.program both.ends.stated.public_count
        (given_count file prover.statement.program u.commitment both.ends.verifier_file theirs.commitment.setup.grant is.commitment.count)

    keys : WireKeys
    keys = record { given = given; wires = wires.0 }

    carried : AreSessionKeys file prover.statement u.commitment keys
    carried = record { given = refl; carried = wires.1 }

    fit : AreKeysOf file.key honest.view.pairs (session_keys file u.commitment)
    fit = keys_fit prover.file file u.commitment.setup honest.view.pairs both.ends.prover_file both.ends.verifier_file both.dealt
        (rounds_are prover.file.params prover.statement.program u.commitment.setup is.commitment.setup) replies honest.seen.pairs

    hold : AllSectionsHold (session_products file prover.statement s keys) × AllOpeningsHold (session_openings file prover.statement s keys)
    hold = honest_session_holds file prover s keys both.ends.stated both.ends.verifier_file.key transcript honestly claims fit carried

    served : IsServed (task_of prover file) s Accepted (spelling s)
    served = record {
      in_order = record {
        stated = both.ends.stated;
        hello = subst (IsHelloFor file.id prover.statement) (sym (honest.hello ∙ ap (λ id. wanted_hello id prover.statement) both.dealt.id))
            (wanted_fits file.id prover.statement both.ends.stated);
        transcript = theirs;
        bytes = refl;
      };
      replies = replies;
      challenge = refl;
      judged = record { keys = keys; carried = carried; judged = hold; said = record { code = refl; number = refl } };
    }

-- a session with this grant in which neither end deviates
pub fresh_session : (prover : ProverTask) (file : VerifierFile) (grant : Grant) → AreBoth prover file
    → IsGrant prover.file.params prover.statement.program grant
    → (s : Transcript) × IsHonestSession prover (task_of prover file) grant s Accepted (spelling s)
fresh_session prover file grant both granted = (
  whole.0,
  subst (λ (grant : Grant). IsHonestSession prover (task_of prover file) grant whole.0 Accepted (spelling whole.0))
      (ap (λ setup. setup.grant) made.setup_is ∙ found.granted) whole.1.session,
)
  where
    found : HasHonestSetup prover file grant
    found = honest_setup_exists prover file grant both.ends.prover_file both.ends.stated both.ends.verifier_file both.ends.params granted

    made : IsMade prover found.setup 0 0 0 both.ends.witness.wires both.ends.witness.given
    made = honest_session_exists prover found.setup 0 0 0 both.ends.witness.wires both.ends.witness.given both.ends.prover_file
        both.ends.stated both.ends.witness.witness found.is found.hello found.asks (omega arith) (omega arith) (omega arith)

    whole : (s : Transcript) × IsCompleted prover file made.t s
    whole = completed prover file made.t both made.transcript made.honest
        (subst (λ (setup : Setup). RepliesAre file setup) (sym made.setup_is) found.replies)
