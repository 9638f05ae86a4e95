-- Whatever the prover asked, the verifier's keys fit the pairs that the prover sees.
use Rattle.std.proofs.Common.{◌≡◌, ℕ, ◌+◌, ◌-◌, ◌<◌, List, [], ◌∷◌, map, length, slice_index_or, sym, ◌∙◌, ap, subst, arith, flat_map}
use Rattle.std.specs.List.{AllByRecursion, range_with_len, enumerate_from}
use Rattle.std.proofs.lemmas.List.{length-map, get_or-map}
use Rattle.std.proofs.lemmas.List.Elements.{recursion_from_All}
use Rattle.std.proofs.lemmas.List.FromFn.{length-enumerate_from, get_or-enumerate_from}
use Rattle.zk_laws.proofs.TreeKeys.{all_zip_at}
use Rattle.zk_laws.proofs.UnitKeys.{IsAnswered, joined_keys, unit_keys_fit}
use Rattle.zk_laws.proofs.WholePairs.{granted_unit}
use Rattle.zk_laws.specs.Keys.{KeysFit}
use Rattle.zk_laws.specs.SeenPairs.{AreRounds}
use Rattle.zk_model.specs.Mac.{fitting_key}
use Rattle.zk_model.specs.Files.{VerifierFile, UnitsMatch, IsProverUnit, prover_unit}
use Rattle.zk_model.specs.Transcript.{Grant, Round, IsRound}
use Rattle.zk_model.specs.Correlations.{IsUnitView, unit_rounds, unit_keys}
use Rattle.zk_model.specs.Replies.{unit_reply}
use Rattle.zk_model.specs.ServedVerifier.{round_replies}
use Rattle.zk_model.specs.declared.Params.{Params}

-- each round of unit i of a grant has the replies of the verifier's file to its asks
unit_answered : (verifier : VerifierFile) (grant : Grant) (i : ℕ) (rounds : List Round) → i < grant.count
    → AllByRecursion (IsRound verifier.params grant) rounds
    → AllByRecursion (λ round. round.replies ≡ round_replies verifier grant round.asks) rounds
    → AllByRecursion (IsAnswered verifier (grant.start + i)) (unit_rounds rounds i)
unit_answered verifier grant i [] below are replied = tt
unit_answered verifier grant i (round ∷ rounds) below are replied = (
  record {
    count = (are.0.asks.1 i [] (omega (arith, below, are.0.asks.0))).0;
    replies = ap (λ replies. slice_index_or replies i []) replied.0
        ∙ get_or-map (λ entry. unit_reply verifier entry.0 entry.1) (enumerate_from grant.start round.asks) i (0, []) []
        (omega (arith, length-enumerate_from grant.start round.asks, are.0.asks.0, below))
        ∙ ap (λ entry. unit_reply verifier entry.0 entry.1)
        (get_or-enumerate_from grant.start round.asks i (0, []) (omega (arith, are.0.asks.0, below)));
  },
  unit_answered verifier grant i rounds below are.1 replied.1,
)

-- the keys of all units fit the pairs of all units
pub keys_fit : KeysFit
keys_fit prover verifier setup pairs left right dealt given answered seen =
    ap (λ n. flat_map (unit_keys verifier) (range_with_len setup.grant.start n)) count
    ∙ joined_keys verifier.key (unit_keys verifier) setup.grant.start seen.units each
    ∙ ap (map (fitting_key verifier.key)) (sym seen.joined)
  where
    count : setup.grant.start + setup.grant.count - setup.grant.start ≡ length seen.units
    count = omega (arith, seen.count)

    set : AreRounds verifier.params setup.grant setup.rounds
    set = subst (λ (params : Params). AreRounds params setup.grant setup.rounds) dealt.params given

    each : (i : ℕ) → i < length seen.units
        → unit_keys verifier (setup.grant.start + i) ≡ map (fitting_key verifier.key) (slice_index_or seen.units i [])
    each i below =
        let inside : i < setup.grant.count = omega (arith, below, seen.count) in
        let there : setup.grant.start + i < verifier.params.total = omega (arith, inside, set.within) in
        let total : prover.params.total ≡ verifier.params.total = ap (λ params. params.total) dealt.params in
        unit_keys_fit verifier verifier.params.kind (setup.grant.start + i) (prover_unit prover (setup.grant.start + i))
        (unit_rounds setup.rounds i) (slice_index_or seen.units i [])
        (all_zip_at (UnitsMatch verifier.key) prover.units verifier.units (setup.grant.start + i)
        (record { pairs = []; trees = [] }) (record { keys = []; trees = [] }) dealt.units (omega (arith, there, total, left.count)))
        (subst (λ (params : Params). IsProverUnit params (prover_unit prover (setup.grant.start + i))) dealt.params
        (granted_unit prover setup i left given inside))
        (right.units (setup.grant.start + i) (record { keys = []; trees = [] }) (omega (arith, there, right.count)))
        (length-map setup.rounds _ ∙ set.count)
        (unit_answered verifier setup.grant i setup.rounds inside
        (recursion_from_All (IsRound verifier.params setup.grant) setup.rounds set.each)
        (recursion_from_All (λ round. round.replies ≡ round_replies verifier setup.grant round.asks) setup.rounds answered))
        (subst (λ (seed : List ℕ). IsUnitView verifier.params seed (prover_unit prover (setup.grant.start + i)) (unit_rounds setup.rounds i)
        (slice_index_or seen.units i [])) dealt.code_seed
        (subst (λ (params : Params). IsUnitView params prover.code_seed (prover_unit prover (setup.grant.start + i)) (unit_rounds setup.rounds i)
        (slice_index_or seen.units i [])) dealt.params (seen.each i inside)))
