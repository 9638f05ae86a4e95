-- The first turn of a session tells its hello.
use Rattle.std.proofs.Common.{◌≡◌, ℕ, zero, suc, List, [], ◌∷◌, ◌++◌, take, sym, ◌∙◌, ap, append_assoc, append-nil}
use Rattle.frame_laws.proofs.FrameCodes.{hello_code}
use Rattle.frame_laws.proofs.Hellos.{wanted_is_hello}
use Rattle.session_laws.proofs.Turns.{said}
use Rattle.session_laws.proofs.Sizes.{round_turns}
use Rattle.zk_model.specs.Program.{Program}
use Rattle.zk_model.specs.Statement.{IsStatement}
use Rattle.zk_model.specs.Files.{IsProverFile}
use Rattle.zk_model.specs.Transcript.{Hello, Transcript, IsHello, IsTranscript, wanted_hello, hello_frame, corrections_frame, challenge_frame, sums_frame, openings_frame, verdict_frame, session_turns}
use Rattle.zk_model.specs.HonestProver.{ProverTask, SentAfter, AreHonestBytes}
use Rattle.zk_model.specs.declared.Params.{Params}

-- the turns after the first
abbrev pub later_turns : Transcript → List (List ℕ × List ℕ)
later_turns t =
    round_turns t.commitment.setup.rounds
    ++ (corrections_frame t.commitment.corrections, challenge_frame t.challenge)
    ∷ (sums_frame t.sums ++ openings_frame t.openings, verdict_frame t.code t.number)
    ∷ []

-- sessions in which what is said begins alike have one hello
pub one_greeting : (params : Params) (program : Program) (t u : Transcript) (m n : ℕ) (xs ys : List ℕ)
    → IsTranscript params program t → IsTranscript params program u
    → said (take (suc m) (session_turns t)) ++ xs ≡ said (take (suc n) (session_turns u)) ++ ys
    → t.commitment.setup.hello ≡ u.commitment.setup.hello
one_greeting params program t u m n xs ys is also same =
    let mine : List ℕ = said (take m (later_turns t)) in
    let theirs : List ℕ = said (take n (later_turns u)) in
    (hello_code t.commitment.setup.hello u.commitment.setup.hello (mine ++ xs) (theirs ++ ys) is.commitment.setup.hello also.commitment.setup.hello
    (sym (append_assoc (hello_frame t.commitment.setup.hello) mine xs) ∙ same
    ∙ append_assoc (hello_frame u.commitment.setup.hello) theirs ys)).0

-- whatever came, what an honest prover sent begins with its hello
greets_first : (prover : ProverTask) (received sent : List ℕ) (turns : ℕ) → SentAfter prover received turns sent
    → (rest : List ℕ) × (sent ≡ hello_frame (wanted_hello prover.file.id prover.statement) ++ rest)
greets_first prover received sent zero after = ([], after ∙ sym (append-nil (hello_frame (wanted_hello prover.file.id prover.statement))))
greets_first prover received sent (suc n) after =
    let later : List ℕ = said (take (suc n) (later_turns after.0)) in
    (later, after.5 ∙ ap (λ (hello : Hello). hello_frame hello ++ later) after.2.hello)

-- so a session whose first turns it said has its hello
pub greeting_is : (prover : ProverTask) (t : Transcript) (n : ℕ) (received honest more : List ℕ) → IsProverFile prover.file
    → IsStatement prover.statement → IsTranscript prover.file.params prover.statement.program t → AreHonestBytes prover received honest
    → honest ≡ said (take (suc n) (session_turns t)) ++ more
    → t.commitment.setup.hello ≡ wanted_hello prover.file.id prover.statement
greeting_is prover t n received honest more file stated is bytes sent =
    let first = greets_first prover received honest bytes.turns bytes.answer in
    let later : List ℕ = said (take n (later_turns t)) in
    let mine : IsHello (wanted_hello prover.file.id prover.statement) = wanted_is_hello prover.file.id prover.statement file.id stated in
    (hello_code t.commitment.setup.hello (wanted_hello prover.file.id prover.statement) (later ++ more) first.0 is.commitment.setup.hello mine
    (sym (append_assoc (hello_frame t.commitment.setup.hello) later more) ∙ sym sent ∙ first.1)).0
