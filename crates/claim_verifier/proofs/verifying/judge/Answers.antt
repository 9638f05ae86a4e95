use Rattle.std.proofs.Common.{◌≡◌, ◌≤◌, ℕ, length, sym, ap, subst}
use Rattle.std.specs.Prelude.{List, Result, Ok, Err, OnOk}
use Rattle.zk_model.specs.Files.{correlations_per_unit}
use Rattle.zk_model.specs.Transcript.{Grant}
use Rattle.session_claim.specs.Claims.{claim_needs}
use Rattle.zk_laws.proofs.Views.{gives_some, parts_hold}
use Rattle.claim_verifier.proofs.verifying.judge.Goals as goal

pub judge-requires-clause-enough : goal.judge-requires-clause-enough
judge-requires-clause-enough g c =
    let claim = g.C.Claim.claim c.args.claim.now in
    let params = c.args.file.now.params in
    let section : c.args.given.section_length ≡ c.given.inside.section = sym (ap (λ (q : Grant). q.section_length) c.given.view_is) in
    subst (λ (n : ℕ). claim_needs claim n ≤ length c.keys_of-keys.result.now) section
    (subst (λ (n : ℕ). claim_needs claim c.args.given.section_length ≤ n) (sym c.keys_of-keys.ensures.count)
    (parts_hold (claim_needs claim c.args.given.section_length) (correlations_per_unit params) c.args.given.count
    (gives_some params params.kind c.total-total.ensures.file.params.limits) c.requires.due.count))

on_ok : {T E P : Type 0} (result : Result T E) → P → OnOk result P
on_ok (Ok value) holds = holds
on_ok (Err fault) holds = tt

pub returns-clause-enough : goal.returns-clause-enough
returns-clause-enough g c =
    let claim = g.C.Claim.claim c.args.claim.now in
    let params = c.args.file.now.params in
    on_ok c.judge.result (subst (λ (l : List ℕ). claim_needs claim c.args.given.section_length ≤ length l) c.keys_of-keys.ensures.spanned
    (subst (λ (n : ℕ). claim_needs claim c.args.given.section_length ≤ n) (sym c.keys_of-keys.ensures.count)
    (parts_hold (claim_needs claim c.args.given.section_length) (correlations_per_unit params) c.args.given.count
    (gives_some params params.kind c.total-total.ensures.file.params.limits) c.requires.due.count)))
