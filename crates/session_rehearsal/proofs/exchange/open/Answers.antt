use Rattle.std.proofs.Common.{ℕ, List, ◌≡◌, ◌≤◌, ◌*◌, ap, ◌∙◌, subst, sym, length, drop}
use Rattle.zk_model.specs.Files.{AreParams, IsVerifierFile, correlations_per_unit}
use Rattle.zk_model.specs.Statement.{Statement}
use Rattle.zk_model.specs.Transcript.{Grant, units_for}
use Rattle.zk_model.specs.Program.{section_count, correlations_needed}
use Rattle.zk_model.specs.Check.{all_sums, opened_pairs}
use Rattle.zk_model.specs.Mac.{Pair, macs_of}
use Rattle.session_core.specs.Ends.{IsFixed}
use Rattle.session_core.specs.Fixing.{AreEnough, HoldsKeys, pairs_fixed}
use Rattle.session_core.specs.Judgements.{AreLeftSides}
use Rattle.session_core.specs.Jobs.{ProverJob, VerifierJob, granted_from}
use Rattle.wire_auth.specs.Held.{items_in}
use Rattle.session_core.proofs.Enough.{enough_units}
use Rattle.session_rehearsal.proofs.exchange.open.Goals as goal

-- pairs of all units of the verifier's grant are enough for the prover's job
enough : (prover : ProverJob) (job : VerifierJob) (grant : Grant) (pairs seen : List Pair) → prover.file.params ≡ job.task.file.params
    → prover.statement ≡ job.task.statement → grant ≡ granted_from job 0 → IsVerifierFile job.task.file
    → length pairs ≡ grant.count * correlations_per_unit prover.file.params → seen ≡ pairs → AreEnough prover grant.section_length seen
enough prover job grant pairs seen params stated is file counted same =
    let needed : grant.count ≡ units_for prover.file.params (correlations_needed prover.statement.program grant.section_length) =
    ap (λ (g : Grant). g.count) is
    ∙ (λ i. units_for (sym params i) (correlations_needed (sym stated i).program (sym is i).section_length)) in
    subst (AreEnough prover grant.section_length) (sym same)
    (enough_units prover.file.params prover.statement.program grant.section_length grant.count (length pairs)
    (subst AreParams (sym params) file.params) needed counted)

pub commit_with-requires-clause-enough : goal.commit_with-requires-clause-enough
commit_with-requires-clause-enough g c =
    enough c.args.prover.now c.args.verifier.now c.args.grant (items_in c.args.established.pairs) c.as_slice-seen.result.now
    c.requires.dealt.params c.requires.stated c.requires.grant (subst IsVerifierFile c.file.ensures.file c.total-total.ensures.file)
    c.requires.pairs c.as_slice-seen.ensures

pub both_walks-requires-clause-held : goal.both_walks-requires-clause-held
both_walks-requires-clause-held g c κs inside = record {
  some = subst (λ (g : Grant). 1 ≤ g.section_length) (sym c.requires.grant) c.file.ensures.job.section_some;
  enough = enough c.args.prover.now c.args.verifier.now c.args.grant (items_in c.args.established.pairs) c.as_slice-seen.result.now
      c.requires.dealt.params c.requires.stated c.requires.grant (subst IsVerifierFile c.file.ensures.file c.total-total.ensures.file)
      c.requires.pairs c.as_slice-seen.ensures;
}

pub both_walks-requires-clause-keys : goal.both_walks-requires-clause-keys
both_walks-requires-clause-keys g c κs inside = subst (λ (l : List ℕ). HoldsKeys c.args.verifier.now 0 l) (sym c.as_slice-held.ensures) c.requires.keys

pub both_walks-requires-clause-corrections : goal.both_walks-requires-clause-corrections
both_walks-requires-clause-corrections g c κs inside =
    ap length c.deref.ensures.value ∙ c.in_ok-corrections.ensures.one_each ∙ ap (λ (s : Statement). s.program.givens) c.requires.stated

pub returns-clause-answered : goal.returns-clause-answered
returns-clause-answered g c = record {
  hello = c.greet-hello.ensures;
  grant = c.requires.grant;
  seen = items_in c.args.established.pairs;
  held = c.requires.held;
  wires = pairs_fixed c.args.prover.now (items_in c.args.established.pairs);
  fixed = subst (λ (l : List Pair). IsFixed c.args.prover.now.statement c.args.prover.now.given l c.in_ok-corrections.corrections.items (pairs_fixed c.args.prover.now l))
      c.as_slice-seen.ensures c.in_ok-corrections.ensures.fixed;
  challenge = c.challenge-challenge.ensures;
  sums = c.in_ok-walked.ensures.opened.sums
      ∙ ap (λ (l : List Pair). all_sums c.args.prover.now.statement.program c.args.grant.section_length c.challenge-challenge.result (pairs_fixed c.args.prover.now l)
      (drop c.args.prover.now.statement.program.givens l)) c.as_slice-seen.ensures;
  openings = c.in_ok-walked.ensures.opened.openings
      ∙ ap (λ (l : List Pair). macs_of (opened_pairs c.args.prover.now.statement.program (pairs_fixed c.args.prover.now l))) c.as_slice-seen.ensures;
}

pub returns-clause-counted : goal.returns-clause-counted
returns-clause-counted g c = record {
  rounds = c.requires.short;
  left_sides = subst (λ (l : List ℕ). AreLeftSides c.args.verifier.now 0 l c.in_ok-walked.walked.left_sides) c.deref.ensures.value c.in_ok-walked.ensures.left_sides;
  corrections = c.in_ok-corrections.ensures.one_each ∙ ap (λ (s : Statement). s.program.givens) c.requires.stated;
  sums = c.in_ok-walked.ensures.opened.sum_count ∙ (λ i. section_count (c.requires.stated i).program (c.requires.grant i).section_length);
  openings = c.in_ok-walked.ensures.opened.opening_count ∙ ap (λ (s : Statement). length s.program.opened) c.requires.stated;
}
