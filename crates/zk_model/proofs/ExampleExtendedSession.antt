-- A whole session of kind extended about the circuit of one AND, with all hashes and coins: in order, served by the verifier,
-- and of an honest prover.
use Rattle.std.proofs.Common.{◌≡◌, ℕ, List, [], ◌∷◌, ◌++◌, length, flat_map, slice_index, drop, refl, sym, ap, ◌∙◌, replicate, lit<, lit≤}
use Rattle.std.specs.Prelude.{All}
use Rattle.std.proofs.lemmas.List.Elements.{All-from_recursion}
use Rattle.sha2.specs.Sha256.{sha256, digest_bytes, hash_after, compress, rounds, schedule, first_words}
use Rattle.rand_chacha.specs.Block.{block_word, double_rounds, column_round, diagonal_round, quarter_round}
use Rattle.rand_core.specs.Steps.{u32_at}
use Rattle.zk_model.proofs.ExampleTools.{one_only, bytes_by_test, honest_by, whole_answer}
use Rattle.zk_model.proofs.ExamplePrograms.{and_program, and_solved}
use Rattle.zk_model.proofs.ExampleSession.{statement, stated, session_of, hello_fits, greets, transcript_of}
use Rattle.zk_model.proofs.ExampleRound.{params, prover, verifier, grant, first_ask, second_ask, first_messages, first_reply, second_messages, second_reply, round, asked, replied}
use Rattle.zk_model.proofs.ExampleFound.{pairs, seen}
use Rattle.zk_model.specs.Field.{IsElement}
use Rattle.zk_model.specs.Bytes.{LeftRight, AreBothBytes}
use Rattle.zk_model.specs.Mac.{corrected_keys}
use Rattle.zk_model.specs.Coins.{coin_word}
use Rattle.zk_model.specs.Tree.{child_of}
use Rattle.zk_model.specs.Program.{MeetsStep}
use Rattle.zk_model.specs.Transcript.{TreeAsk, TreeReply, Setup, Commitment, Transcript, IsTreeAsk, IsTreeReply, IsRound, IsTranscript, wanted_hello, hello_frame, grant_frame, ask_frame, reply_frame, corrections_frame, challenge_frame, sums_frame, openings_frame, verdict_frame, spelling, sent_by}
use Rattle.zk_model.specs.Check.{WireKeys, section_left, section_keys, SectionHolds, AllSectionsHold, OpeningHolds, AllOpeningsHold}
use Rattle.zk_model.specs.View.{View, IsView, session_keys, AreSessionKeys, session_products, session_openings}
use Rattle.zk_model.specs.HonestProver.{ProverTask, IsHonest, SentAfter, round_asks}
use Rattle.zk_model.specs.ServedVerifier.{VerifierTask, challenge_coin, round_replies, IsServed}
use Rattle.zk_model.specs.BothEnds.{IsHonestSession}
use Rattle.zk_model.specs.declared.Side.TheVariants.{Prover, Verifier}
use Rattle.zk_model.specs.declared.Verdict.TheVariants.{Accepted}

-- ---- the session

abbrev setup : Setup
setup = record { hello = wanted_hello (replicate 32 1) statement; grant = grant; rounds = round ∷ [] }

-- 1 less each of the first three values
abbrev session : Transcript
session = session_of setup (2305843009213693884 ∷ 2266386089951480102 ∷ 1502920062593609024 ∷ []) (2250538639952329407, 276242780300017579) 674248719802933514

abbrev commitment : Commitment
commitment = session.commitment

the_challenge : challenge_coin verifier 0 ≡ session.challenge
unfolding coin_word block_word double_rounds column_round diagonal_round quarter_round u32_at
the_challenge = refl

ask_fits : (ask : TreeAsk) → length ask.flips ≡ 1 → IsElement ask.base_correction
    → (length (ask ∷ []) ≡ 1) × All (IsTreeAsk params.height) (ask ∷ [])
ask_fits ask flips element = (refl, All-from_recursion (IsTreeAsk params.height) (ask ∷ []) (record { flips = flips; base_correction = element }, tt))

reply_fits : (both : LeftRight) (leaf_offset : ℕ) → AreBothBytes 16 both → IsElement leaf_offset
    → All (IsTreeReply params.height) (record { messages = both ∷ []; leaf_offset = leaf_offset } ∷ [])
reply_fits both leaf_offset bytes element =
    All-from_recursion (IsTreeReply params.height) (record { messages = both ∷ []; leaf_offset = leaf_offset } ∷ [])
    (record { count = refl; messages = All-from_recursion (AreBothBytes 16) (both ∷ []) (bytes, tt); leaf_offset = element }, tt)

round_fits : IsRound params grant round
round_fits = record {
  asks = (
    refl,
    All-from_recursion (λ (trees : List TreeAsk). (length trees ≡ 1) × All (IsTreeAsk params.height) trees) round.asks
        (ask_fits first_ask refl (lit< tt), (ask_fits second_ask refl (lit< tt), tt)),
  );
  replies = (
    refl,
    All-from_recursion (λ (trees : List TreeReply). (length trees ≡ 1) × All (IsTreeReply params.height) trees) round.replies (
      (refl, reply_fits first_messages first_reply.leaf_offset (bytes_by_test 16 first_messages.left refl refl, bytes_by_test 16 first_messages.right refl refl) (lit< tt)),
      ((refl, reply_fits second_messages second_reply.leaf_offset (bytes_by_test 16 second_messages.left refl refl, bytes_by_test 16 second_messages.right refl refl) (lit< tt)), tt),
    ),
  );
}

transcript : IsTranscript params and_program session
transcript = transcript_of params setup _ _ _ _ _
    (record {
      hello = hello_fits;
      grant = record { section_some = lit≤ tt; section_most = lit≤ tt; count = refl; count_most = lit≤ tt; within = lit≤ tt };
      round_count = refl;
      rounds = All-from_recursion (IsRound params grant) setup.rounds (round_fits, tt);
    })
    refl (lit< tt, lit< tt, lit< tt) (lit< tt, lit< tt) (lit< tt)

-- ---- an honest prover

abbrev view : View
view = record {
  pairs = pairs;
  carried = record {
    given = record { x = 1; m = 40599947921909244 } ∷ record { x = 1; m = 1425776292189221082 } ∷ record { x = 1; m = 674248719802933514 } ∷ [];
    wires = record { x = 1; m = 40599947921909244 } ∷ record { x = 1; m = 1425776292189221082 } ∷ record { x = 1; m = 674248719802933514 } ∷ [];
  };
}

viewed : IsView prover statement commitment view
viewed = record {
  pairs = seen setup.hello;
  given = refl;
  carried = record {
    values = and_solved.carried;
    macs = record { whole = refl; constants = refl; inputs = refl; steps = All-from_recursion (MeetsStep 0 (40599947921909244 ∷ 1425776292189221082 ∷ 674248719802933514 ∷ []) (40599947921909244 ∷ 1425776292189221082 ∷ 674248719802933514 ∷ [])) and_program.steps (refl, tt) };
  };
}

abbrev prover_task : ProverTask
prover_task = record { file = prover; statement = statement; inputs = 1 ∷ 1 ∷ [] }

honest : IsHonest prover_task session
honest =
    honest_by prover_task session (1 ∷ 1 ∷ 1 ∷ []) (1 ∷ 1 ∷ 1 ∷ []) view refl (All-from_recursion (λ r. r.asks ≡ round_asks prover grant) setup.rounds (asked, tt))
    (record { solves = and_solved; inputs_are = refl }) viewed refl refl refl

-- ---- the verifier

abbrev all_keys : List ℕ
all_keys = 40599947921909584 ∷ 1623060888500290332 ∷ 77177434475970252 ∷ 2205882858090765111 ∷ []

keys_are : session_keys verifier commitment ≡ all_keys
unfolding coin_word block_word double_rounds column_round diagonal_round quarter_round u32_at child_of sha256 digest_bytes hash_after compress rounds schedule first_words
keys_are = refl

abbrev keys : WireKeys
keys = record { given = 40599947921909249 ∷ 1425776292189221087 ∷ 674248719802933519 ∷ []; wires = 40599947921909249 ∷ 1425776292189221087 ∷ 674248719802933519 ∷ [] }

carried : AreSessionKeys verifier statement commitment keys
carried = record {
  given = ap (λ l. corrected_keys 5 l commitment.corrections) (sym keys_are);
  carried = record { whole = refl; constants = refl; inputs = refl; steps = All-from_recursion (MeetsStep 5 keys.wires keys.given) and_program.steps (refl, tt) };
}

-- both sides of the section, by its mask
section_holds : SectionHolds (session_products verifier statement session keys) 0
section_holds = ap (λ l. section_left 5 session.challenge (section_keys and_program 1048576 keys 0) (slice_index (drop 3 l) 0)) keys_are

openings_hold : AllOpeningsHold (session_openings verifier statement session keys)
openings_hold = one_only (OpeningHolds (session_openings verifier statement session keys)) refl

sections_hold : AllSectionsHold (session_products verifier statement session keys)
sections_hold = one_only (SectionHolds (session_products verifier statement session keys)) section_holds

abbrev verifier_task : VerifierTask
verifier_task = record { file = verifier; statement = statement }

served : IsServed verifier_task session Accepted (spelling session)
served = record {
  in_order = record { stated = stated; hello = greets; transcript = transcript; bytes = refl };
  replies = All-from_recursion (λ r. r.replies ≡ round_replies verifier grant r.asks) setup.rounds (replied, tt);
  challenge = sym the_challenge;
  judged = record { keys = keys; carried = carried; judged = (sections_hold, openings_hold); said = record { code = refl; number = refl } };
}

-- ---- the bytes of each side

received : List ℕ
received = grant_frame grant ++ flat_map reply_frame round.replies ++ challenge_frame session.challenge ++ verdict_frame 0 0

sent : List ℕ
sent = hello_frame setup.hello ++ flat_map ask_frame round.asks ++ corrections_frame commitment.corrections ++ sums_frame session.sums ++ openings_frame session.openings

sent_all : SentAfter prover_task received 4 sent × (sent_by Verifier (spelling session) ≡ received) × (sent_by Prover (spelling session) ≡ sent)
unfolding received sent sha256 digest_bytes hash_after compress rounds schedule first_words
sent_all = ((session, transcript, honest, lit< tt, ([], refl), refl), refl, refl)

whole : IsHonestSession prover_task verifier_task grant session Accepted (spelling session)
unfolding received
whole = record {
  served = served;
  granted = refl;
  checks = record { keys = keys; carried = carried; sections = sections_hold; openings = openings_hold };
  honest = honest;
  honest_bytes = whole_answer prover_task (spelling session) received sent 4 refl sent_all.0 sent_all.1 sent_all.2;
  served_bytes = sent_all.1
      ∙ ap (λ coin. grant_frame grant ++ flat_map reply_frame round.replies ++ challenge_frame coin ++ verdict_frame 0 0) (sym the_challenge);
}
