-- The session of kind direct is one of an honest prover and a verifier.
use Rattle.std.proofs.Common.{◌≡◌, ℕ, List, [], ◌∷◌, ◌++◌, take, drop, inl, inr, refl, sym, ap, ◌∙◌, arith, lit<, lit≤}
use Rattle.sha2.specs.Sha256.{sha256, digest_bytes, hash_after, compress, rounds, schedule, first_words}
use Rattle.zk_model.proofs.ExampleTools.{honest_by, whole_answer}
use Rattle.zk_model.proofs.ExamplePrograms.{and_solved}
use Rattle.zk_model.proofs.ExampleSession.{prover, verifier, statement, commitment, session, the_challenge, transcript, in_order, view, viewed, keys, carried, sections_hold, openings_hold, checked}
use Rattle.zk_model.specs.Transcript.{spelling, sent_by, bytes_from, turn_bytes, session_turns, hello_frame, grant_frame, corrections_frame, challenge_frame, sums_frame, openings_frame, verdict_frame}
use Rattle.zk_model.specs.HonestProver.{ProverTask, IsHonest, SentAfter}
use Rattle.zk_model.specs.ServedVerifier.{VerifierTask, IsServed, IsAccepted, ServesWith}
use Rattle.zk_model.specs.BothEnds.{IsHonestSession}
use Rattle.zk_model.specs.declared.Side.TheVariants.{Prover, Verifier}
use Rattle.zk_model.specs.declared.Verdict.TheVariants.{Accepted}

abbrev prover_task : ProverTask
prover_task = record { file = prover; statement = statement; inputs = 1 ∷ 1 ∷ [] }

abbrev verifier_task : VerifierTask
verifier_task = record { file = verifier; statement = statement }

honest : IsHonest prover_task session
honest =
    honest_by prover_task session (1 ∷ 1 ∷ 1 ∷ []) (1 ∷ 1 ∷ 1 ∷ []) view refl (λ k d below. absurd (omega arith))
    (record { solves = and_solved; inputs_are = refl }) viewed refl refl refl

served : IsServed verifier_task session Accepted (spelling session)
served = record {
  in_order = in_order;
  replies = λ k d below. absurd (omega arith);
  challenge = sym the_challenge;
  judged = record { keys = keys; carried = carried; judged = (sections_hold, openings_hold); said = record { code = refl; number = refl } };
}

accepted : IsAccepted verifier_task (spelling session)
accepted = record { t = session; in_order = in_order; checks = checked; said = record { code = refl; number = refl } }

-- ---- the bytes of each side

received : List ℕ
received = grant_frame commitment.setup.grant ++ challenge_frame session.challenge ++ verdict_frame 0 0

sent : List ℕ
sent = hello_frame commitment.setup.hello ++ corrections_frame commitment.corrections ++ sums_frame session.sums ++ openings_frame session.openings

-- after the grant, the challenge and the verdict the prover has sent all it has to say
sent_all : SentAfter prover_task received 3 sent × (sent_by Verifier (spelling session) ≡ received) × (sent_by Prover (spelling session) ≡ sent)
unfolding received sent sha256 digest_bytes hash_after compress rounds schedule first_words
sent_all = ((session, transcript, honest, lit< tt, ([], refl), refl), refl, refl)

whole : IsHonestSession prover_task verifier_task commitment.setup.grant session Accepted (spelling session)
unfolding received
whole = record {
  served = served;
  granted = refl;
  checks = checked;
  honest = honest;
  honest_bytes = whole_answer prover_task (spelling session) received sent 3 refl sent_all.0 sent_all.1 sent_all.2;
  served_bytes = sent_all.1 ∙ ap (λ coin. grant_frame commitment.setup.grant ++ challenge_frame coin ++ verdict_frame 0 0) (sym the_challenge);
}

-- ---- sessions that end early

-- the log ends in the middle of the hello
cut_off : ServesWith verifier_task commitment.setup.grant (take 9 (spelling session))
unfolding sha256 digest_bytes hash_after compress rounds schedule first_words
cut_off = record { t = session; verdict = Accepted; served = served; granted = refl; bytes = inl (drop 9 (spelling session), refl) }

-- after the grant come three bytes that are no corrections
gone_wrong : ServesWith verifier_task commitment.setup.grant (turn_bytes (take 1 (session_turns session)) ++ bytes_from Prover (1 ∷ 2 ∷ 3 ∷ []))
gone_wrong = record {
  t = session;
  verdict = Accepted;
  served = served;
  granted = refl;
  bytes = inr (record { whole = 1; more = lit< tt; rest = 1 ∷ 2 ∷ 3 ∷ []; most = lit≤ tt; bytes = refl });
}
