use Rattle.std.proofs.Common.{◌≡◌, List, length, sym, ◌∙◌, ap, subst, arith}
use Rattle.std.specs.Prelude.{All}
use Rattle.zk_model.specs.Files.{ProverFile, VerifierFile}
use Rattle.zk_model.specs.Frames.{AreAsks}
use Rattle.zk_model.specs.ServedVerifier.{VerifierTask}
use Rattle.zk_model.specs.declared.Kind.TheVariants.{Extended}
use Rattle.zk_model.specs.declared.Params.{Params}
use Rattle.proof_frames.specs.declared.frame.Frame as coded
use Rattle.session_core.specs.Extending.{asks_of}
use Rattle.proof_audit.specs.Audits.{IsAudited}
use Rattle.proof_audit.specs.Seen.{HasRound, AreSeenPairs}
use Rattle.proof_audit.specs.SeenValues.{round_values, fitted_pairs}
use Rattle.proof_audit.specs.declared.session.Session.{Session}
use Rattle.proof_audit.proofs.Audited.{has_rounds}
use Rattle.proof_audit.proofs.SeenPairs.{seen_by_keys}
use Rattle.proof_audit.proofs.pairs.seen_pairs.Goals as goal

-- the round of a session over files of kind extended
round_of : (prover : ProverFile) (task : VerifierTask) (s : Session) (params : Params) → IsAudited prover task s → params ≡ prover.params → params.kind ≡ Extended → HasRound prover s
round_of prover task s params audited same is = (has_rounds prover task s audited).round (ap (λ (p : Params). p.kind) (sym same) ∙ is)

pub round_values-requires-clause-within : goal.round_values-requires-clause-within
round_values-requires-clause-within c =
    let rounds = has_rounds c.args.prover.now c.requires.0 c.args.session.now c.requires.2 in
    let round = round_of c.args.prover.now c.requires.0 c.args.session.now c.params.result c.requires.2 c.params.ensures.params c.in-Extended.is in
    let asked : c.deref.result.now ≡ c.args.session.now.asked.items = c.deref.ensures.value ∙ ap (λ (s : Session). s.asked.items) c.session.view_is in
    let start : c.session.inside.0.0.start ≡ c.args.session.now.grant.start = ap (λ (s : Session). s.grant.start) c.session.view_is in
    omega (arith, rounds.within, round.asked, ap length asked, start)

pub round_values-requires-clause-asks : goal.round_values-requires-clause-asks
round_values-requires-clause-asks c =
    let round = round_of c.args.prover.now c.requires.0 c.args.session.now c.params.result c.requires.2 c.params.ensures.params c.in-Extended.is in
    let asked : c.deref.result.now ≡ c.args.session.now.asked.items = c.deref.ensures.value ∙ ap (λ (s : Session). s.asked.items) c.session.view_is in
    subst (λ (frames : List coded.Frame). All (AreAsks c.args.prover.now.params.height c.args.prover.now.params.trees) (asks_of frames)) (sym asked) round.asks

pub returns-in_ok-pairs-in-Extended : goal.returns-in_ok-pairs-in-Extended
returns-in_ok-pairs-in-Extended c =
    subst (AreSeenPairs c.args.prover.now c.args.session.now)
    (sym (c.in_ok-pairs-in-Extended.ensures ∙ ap (λ key. fitted_pairs key c.deref-in-Extended.result.now c.deref-in-Extended-2.result.now) key))
    (seen_by_keys c.args.prover.now c.requires.0 c.args.session.now c.deref-in-Extended.result.now c.deref-in-Extended-2.result.now c.requires.2 extended
    values keys)
  where
    extended : c.args.prover.now.params.kind ≡ Extended
    extended = ap (λ (params : Params). params.kind) (sym c.params.ensures.params) ∙ c.in-Extended.is

    key : c.key.result ≡ c.requires.0.file.key
    key = c.key.ensures.key ∙ ap (λ (file : VerifierFile). file.key) (sym c.requires.1)

    asked : c.deref.result.now ≡ c.args.session.now.asked.items
    asked = c.deref.ensures.value ∙ ap (λ (s : Session). s.asked.items) c.session.view_is

    start : c.session.inside.0.0.start ≡ c.args.session.now.grant.start
    start = ap (λ (s : Session). s.grant.start) c.session.view_is

    values : c.deref-in-Extended.result.now
        ≡ round_values c.args.prover.now c.args.session.now.grant.start (asks_of c.args.session.now.asked.items) (length c.args.session.now.asked.items)
    values = c.deref-in-Extended.ensures.value ∙ c.in_ok-values-in-Extended.ensures
        ∙ (λ i. round_values c.args.prover.now (start i) (asks_of (asked i)) (length (asked i)))

    keys : c.deref-in-Extended-2.result.now ≡ c.args.session.now.keys.items
    keys = c.deref-in-Extended-2.ensures.value ∙ ap (λ (s : Session). s.keys.items) c.session.view_is
