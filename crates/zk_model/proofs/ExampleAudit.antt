-- An audit of the session of `ExampleSession`: its frames and their places, what is found in its log, a log that ends early, and
-- one of a wrong hello.
use Rattle.std.proofs.Common.{◌≡◌, true, [], ◌∷◌, inr, refl, sym, ◌∙◌, ap, replicate, take, map, arith, lit<}
use Rattle.std.proofs.lemmas.List.{append-nil}
use Rattle.sha2.specs.Sha256.{sha256, digest_bytes, hash_after, compress, rounds, schedule, first_words}
use Rattle.zk_model.proofs.ExampleTools.{each_item}
use Rattle.std.specs.Prelude.{Some, None}
use Rattle.zk_model.proofs.ExampleFiles.{direct}
use Rattle.zk_model.proofs.ExamplePrograms.{and_circuit}
use Rattle.zk_model.proofs.ExampleSession.{prover, verifier, statement, hello_fits, session, in_order, the_challenge, keys, carried, sections_hold, openings_hold, found}
use Rattle.zk_model.specs.Circuit.{MeetsGate}
use Rattle.zk_model.specs.Transcript.{Hello, wanted_hello, spelling}
use Rattle.zk_model.specs.Frames.{hello, frame_spelling}
use Rattle.zk_model.specs.Finding.{found_inputs}
use Rattle.zk_model.specs.ServedVerifier.{VerifierTask}
use Rattle.zk_model.specs.Headline.{AreSatisfyingBits}
use Rattle.zk_model.specs.Audit.{session_frames, frames_spelling, bytes_in, place_after, AreFaultless, IsAcceptedLog, IsFoundIn, EndsEarly, HasFaultAt}
use Rattle.zk_model.specs.declared.Expect.TheVariants as expect

abbrev task : VerifierTask
task = record { file = verifier; statement = statement }

-- ---- frames and places

-- the log has the bytes of the frames
frames_spell : bytes_in (spelling session) ≡ frames_spelling (session_frames session)
unfolding sha256 digest_bytes hash_after compress rounds schedule first_words
frames_spell = refl

-- the places of all frames, and none behind them
places : map (λ n. place_after direct statement (take n (session_frames session))) (0 ∷ 1 ∷ 2 ∷ 3 ∷ 4 ∷ 5 ∷ 6 ∷ 7 ∷ [])
    ≡ Some expect.Hello ∷ Some expect.Grant ∷ Some (expect.Corrections 3) ∷ Some expect.Challenge ∷ Some (expect.Sums 1)
    ∷ Some (expect.Openings 1) ∷ Some expect.Verdict ∷ None ∷ []
places = refl

-- ---- the whole log

accepted : IsAcceptedLog task (bytes_in (spelling session)) session
accepted = record {
  served = record {
    in_order = in_order;
    replies = λ k d below. absurd (omega (arith, below));
    challenge = sym the_challenge;
    judged = record { keys = keys; carried = carried; judged = (sections_hold, openings_hold); said = record { code = refl; number = refl } };
  };
  bytes = refl;
}

-- both inputs are 1
audited : IsFoundIn (AreSatisfyingBits and_circuit [] (true ∷ [])) prover task (bytes_in (spelling session)) (found_inputs (1 ∷ 1 ∷ []))
audited = record {
  t = session;
  accepted = accepted;
  found = found;
  says = record {
    bits = true ∷ true ∷ [];
    inputs_are = refl;
    satisfied = (
      true ∷ true ∷ true ∷ [],
      record { whole = refl; first = refl; gates = each_item (λ n gate. MeetsGate (true ∷ true ∷ true ∷ []) gate) and_circuit.gates (refl, tt) },
      refl,
    );
  };
}

-- ---- other logs

-- no frame is no fault
none_faulty : AreFaultless task []
none_faulty [] frame behind e = cc
none_faulty (first ∷ before) frame behind e = cc

-- nothing was sent
empty : EndsEarly task []
empty = record {
  frames = [];
  rest = [];
  read = record { faultless = none_faulty; bytes = refl };
  place = expect.Hello;
  place_is = refl;
  begun = record { frame = hello (wanted_hello (replicate 32 1) statement); allowed = (wanted_hello (replicate 32 1) statement, refl, hello_fits); begun = (_, refl) };
  unfinished = λ frame whole. let e : [] ≡ frame_spelling (hello whole.allowed.0) = whole.spelled ∙ ap frame_spelling whole.allowed.1 in cc;
}

-- a hello of version 2 in the short form, which the statement does not take
abbrev wrong : Hello
wrong = record (wanted_hello (replicate 32 1) statement) { version = 2 }

-- its last byte, which is the version, is a fault
wrong_hello : HasFaultAt task (frame_spelling (hello wrong)) 101
unfolding sha256 digest_bytes hash_after compress rounds schedule first_words
wrong_hello = record {
  frames = [];
  rest = frame_spelling (hello wrong);
  read = record { faultless = none_faulty; bytes = refl };
  n = 101;
  fault = inr (record {
    place = expect.Hello;
    frame = hello wrong;
    placed = record { place_is = refl; allowed = (wrong, refl, record { id = hello_fits.id; circuit = hello_fits.circuit; outputs = hello_fits.outputs; version = lit< tt; public = tt }) };
    wrong = λ fits. let e : 2 ≡ 1 = fits.version in omega (arith, e);
    spelled = ([], sym (append-nil _));
    last = refl;
  });
  at = refl;
}
