use Rattle.std.proofs.Common.{◌≡◌, ◌∷◌, ◌<◌, ◌^◌, ℕ, List, ap, ◌∙◌, subst, refl, sym, arith, length, drop, map, flat_map}
use Rattle.zk_model.specs.Field.{IsElement}
use Rattle.zk_model.specs.Files.{IsVerifierFile}
use Rattle.zk_model.specs.Statement.{Statement, IsStatement}
use Rattle.zk_model.specs.Transcript.{Hello, Grant, IsGrant, bytes_from, hello_frame, grant_frame, turn_bytes, wanted_hello, spelling}
use Rattle.frame_laws.proofs.Hellos.{wanted_fits}
use Rattle.zk_model.specs.View.{verdict_code, verdict_number}
use Rattle.zk_model.specs.declared.Side.TheVariants.{Prover, Verifier}
use Rattle.zk_model.specs.declared.Verdict.{Verdict}
use Rattle.zk_model.specs.Program.{Program}
use Rattle.zk_model.specs.Check.{all_sums}
use Rattle.zk_model.specs.Frames.{frame_spelling}
use Rattle.proof_frames.specs.Frames.{frame_value as frame_said}
use Rattle.session_core.specs.Jobs.{VerifierJob, IsVerifierJob, granted_from}
use Rattle.session_core.specs.Judgements.{verdict_in, session_transcript, IsJudgement}
use Rattle.session_rehearsal.specs.Holding.{AreRoundsHeld, IsRehearsedSession, ends_of}
use Rattle.session_core.specs.Rounds.{round_turns}
use Rattle.session_core.proofs.Enough.{parts_within}
use Rattle.session_core.proofs.Served.{AreRanged, served_is}
use Rattle.session_rehearsal.proofs.Spelled.{log_spelled}
use Rattle.session_rehearsal.proofs.Held.{session_is}
use Rattle.session_rehearsal.proofs.exchange.judge.Goals as goal

pub returns-clause-short : goal.returns-clause-short
returns-clause-short c =
    let is : IsVerifierJob c.args.verifier.now = c.file.ensures.job in
    let program = c.program-program.ensures.program ∙ ap (λ (s : Statement). s.program) c.statement.ensures.statement in
    let products = ap (λ (p : Program). length p.products) program in
    let givens = ap (λ (p : Program). p.givens) program in
    let few = parts_within (length c.args.verifier.now.task.statement.program.products) c.args.verifier.now.section_length is.section_some in
    let opened = ap (λ (p : Program). length p.opened) program in
    let counted = c.requires.counted in
    record {
      rounds = counted.rounds;
      corrections = omega (arith, counted.corrections, givens, c.products-products.ensures.held.givens);
      sums = omega (arith, counted.sums, few, products, c.products-products.ensures.held.products);
      openings = omega (arith, counted.openings, opened, c.products-products.ensures.held.opened);
    }

pub returns-clause-session : goal.returns-clause-session
returns-clause-session c prover log stated dealt answered noted =
    let job : VerifierJob = c.args.verifier.now in
    let wanted : Hello = wanted_hello job.task.file.id job.task.statement in
    let a = c.args.answered in
    let rounds = answered.held.rounds in
    let judgement = c.judge_left_sides-judgement.result in
    let d = a.corrections.items in
    let both = a.opened.sums.items in
    let macs = a.opened.openings.items in
    let pairs = answered.wires in
    let seen = answered.seen in
    let grant : a.grant ≡ granted_from job 0 = answered.grant in
    let coin = answered.challenge in
    let frame_value : c.verdict.result ≡ verdict_in judgement = c.verdict.ensures in
    let is : IsVerifierJob job = c.file.ensures.job in
    let is_stated : IsStatement job.task.statement = subst IsStatement c.statement.ensures.statement c.program-program.ensures.stated in
    let granted : IsGrant job.task.file.params job.task.statement.program (granted_from job 0) =
    record { section_some = is.section_some; section_most = is.section_most; count = refl; count_most = is.units_most; within = omega (arith, c.requires.within) } in
    let ranged : AreRanged job 0 d both macs (verdict_in judgement) = record {
      corrections = record { counted = c.requires.counted.corrections; ranged = noted.corrections };
      challenge = subst IsElement coin noted.challenge;
      sums = record { counted = c.requires.counted.sums; ranged = noted.sums };
      openings = record { counted = c.requires.counted.openings; ranged = noted.openings };
      number = subst (λ (v : Verdict). verdict_number v < 2 ^ 32) frame_value noted.number;
    } in
    let found : IsJudgement job.task (session_transcript job wanted 0 rounds d both macs (verdict_in judgement)) judgement =
    subst (λ (q : List ℕ × List (ℕ × ℕ) × List ℕ). IsJudgement job.task (session_transcript job wanted 0 rounds q.0 q.1 q.2 (verdict_in judgement)) judgement)
    (λ i. (c.deref.ensures.value i, c.deref-2.ensures.value i, c.deref-3.ensures.value i)) (c.judge_left_sides-judgement.ensures wanted rounds) in
    let hello = answered.hello ∙ (λ i. wanted_hello (dealt.id i) (stated i)) in
    let spells : log ≡ spelling (session_transcript job wanted 0 rounds d both macs (verdict_in judgement)) =
    noted.log_is
    ∙ log_spelled (session_transcript job wanted 0 rounds d both macs (verdict_in judgement)) (round_turns rounds) a.hello a.grant
    (bytes_from Prover (flat_map frame_spelling (map frame_said a.asked.items)))
    (bytes_from Verifier (flat_map frame_spelling (map frame_said a.replied.items)))
    a.challenge (verdict_code c.verdict.result) (verdict_number c.verdict.result)
    answered.held.noted
    (λ i. turn_bytes ((hello_frame (hello i), grant_frame (grant i)) ∷ round_turns rounds))
    coin (ap verdict_code frame_value) (ap verdict_number frame_value) in
    let at : AreRoundsHeld prover.file job.task.file (granted_from job 0) seen rounds =
    subst (λ (g : Grant). AreRoundsHeld prover.file job.task.file g seen rounds) grant answered.held.held in
    subst (λ (v : Verdict). IsRehearsedSession (ends_of prover job) (granted_from job 0) v log) (sym frame_value)
    (session_is prover job 0 seen rounds d both macs judgement pairs log stated dealt.id
    (served_is job wanted 0 rounds d both macs judgement log is_stated (subst IsVerifierFile c.file.ensures.file c.total-total.ensures.file) is
    (wanted_fits job.task.file.id job.task.statement is_stated) granted at.served ranged found spells)
    at
    answered.fixed
    (answered.sums ∙ (λ i. all_sums prover.statement.program (grant i).section_length (coin i) pairs
    (drop prover.statement.program.givens seen)))
    answered.openings)
