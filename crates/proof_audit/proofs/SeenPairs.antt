-- The pairs of a session of kind extended follow from their values and the verifier's keys.
use Rattle.std.proofs.Common.{◌≡◌, ℕ, suc, ◌+◌, ◌<◌, ◌≤◌, List, [], ◌∷◌, map, length, get_or, refl, sym, ◌∙◌, ap, subst, arith, lit<}
use Rattle.std.specs.Prelude.{All}
use Rattle.mersenne_field.proofs.FieldLaws.{minus-negative, plus_assoc, plus-minus, plus-zero}
use Rattle.zk_model.specs.Field.{IsElement, ◌+ₚ◌, ◌-ₚ◌, ◌*ₚ◌}
use Rattle.zk_model.specs.Mac.{Pair, values_of, fitting_key}
use Rattle.zk_model.specs.Files.{ProverFile, IsProverFile, prover_unit}
use Rattle.zk_model.specs.Transcript.{Hello, TreeAsk, TreeReply, Grant, Setup}
use Rattle.zk_model.specs.Correlations.{IsProverView}
use Rattle.zk_model.specs.ServedVerifier.{VerifierTask}
use Rattle.zk_model.specs.declared.Kind.{Kind}
use Rattle.zk_model.specs.declared.Kind.TheVariants.{Extended}
use Rattle.zk_model.specs.declared.Params.{Params}
use Rattle.tree_laws.proofs.Joined.{joined_parts}
use Rattle.zk_laws.specs.SeenPairs.{AreRounds, AreSessionPairs}
use Rattle.zk_laws.proofs.FoundPairs.{pairs_exist}
use Rattle.zk_laws.proofs.KeysFit.{keys_fit}
use Rattle.zk_laws.proofs.Views.{rounds_are}
use Rattle.zk_laws.proofs.WholePairs.{pairs_are_whole}
use Rattle.session_core.specs.Extending.{asks_of, replies_of}
use Rattle.proof_audit.specs.Audits.{IsAudited}
use Rattle.proof_audit.specs.Seen.{ArePairsBy, AreUnitPairs, AreSeenPairs}
use Rattle.proof_audit.specs.SeenValues.{unit_values, round_values, fitted_pairs}
use Rattle.proof_audit.specs.Stages.{HoldsRoundKeys, rounds_read, setup_read}
use Rattle.proof_audit.specs.declared.session.Session.{Session}
use Rattle.proof_audit.proofs.Audited.{whole, round_whole, has_rounds}
use Rattle.proof_audit.proofs.SeenValues.{extension_values, unit_is, values_joined}

-- ---- pairs from values and keys

-- the key that fits a MAC gives it back
mac_back : (mac more : ℕ) → IsElement mac → (mac +ₚ more) -ₚ more ≡ mac
mac_back mac more element =
    minus-negative (mac +ₚ more) more ∙ plus_assoc mac more (0 -ₚ more)
    ∙ ap (λ n. mac +ₚ n) (plus-minus 0 more (lit< tt)) ∙ plus-zero mac element

pub pairs_back : (key : ℕ) (pairs : List Pair) → All (λ pair. IsElement pair.x × IsElement pair.m) pairs
    → fitted_pairs key (values_of pairs) (map (fitting_key key) pairs) ≡ pairs
pairs_back key [] elements = refl
pairs_back key (pair ∷ pairs) elements = λ i.
    record { x = pair.x; m = mac_back pair.m (pair.x *ₚ key) (elements 0 pair (omega arith)).1 i }
    ∷ pairs_back key pairs (λ k e below. elements (suc k) e (omega (arith, below))) i

-- ---- the values of a session's pairs

-- the setup of a session of kind extended
abbrev pub one_round : Hello → Grant → List (List TreeAsk) → List (List TreeReply) → Setup
one_round greeting given asked replied = record { hello = greeting; grant = given; rounds = rounds_read Extended asked replied }

pub session_values : (prover : ProverFile) (greeting : Hello) (given : Grant) (asked : List (List TreeAsk)) (replied : List (List TreeReply))
    (pairs : List Pair) → IsProverFile prover → given.start + given.count ≤ prover.params.total
    → IsProverView prover (one_round greeting given asked replied) pairs
    → values_of pairs ≡ round_values prover given.start asked given.count
session_values prover greeting given asked replied pairs is within view =
    ap values_of view.joined ∙ sym (joined_parts (λ pair. pair.x) view.units)
    ∙ values_joined at 0 view.units each
    ∙ ap (round_values prover given.start asked) view.count
  where
    at : ℕ → List ℕ
    at i = unit_values prover.params prover.code_seed (prover_unit prover (given.start + i)) (get_or asked i [])

    start : (n : ℕ) → n ≡ 0 + n
    start n = omega arith

    each : (i : ℕ) → i < length view.units → values_of (get_or view.units i []) ≡ at (0 + i)
    each i below =
        let inside : i < given.count = omega (arith, below, view.count) in
        let there : given.start + i < prover.params.total = omega (arith, inside, within) in
        extension_values prover.params prover.code_seed (prover_unit prover (given.start + i))
        (record { asks = get_or asked i []; replies = get_or replied i [] })
        (get_or view.units i []) (unit_is prover (given.start + i) is there) (view.each i inside)
        ∙ ap at (start i)

-- what the prover sees is made unit by unit
seen_of : (prover : ProverFile) (greeting : Hello) (given : Grant) (asked : List (List TreeAsk)) (replied : List (List TreeReply))
    (pairs : List Pair) → length asked ≡ given.count → IsProverView prover (one_round greeting given asked replied) pairs
    → AreUnitPairs prover given.start asked replied pairs
seen_of prover greeting given asked replied pairs count view = record {
  units = view.units;
  one_each = view.count ∙ sym count;
  each = λ i below. view.each i (omega (arith, below, count));
  joined = view.joined;
}

-- ---- a session

-- the verifier's keys and the values that were dealt and asked give the pairs that the prover sees
pub seen_by_keys : (prover : ProverFile) (task : VerifierTask) (s : Session) (values keys : List ℕ) → IsAudited prover task s
    → prover.params.kind ≡ Extended
    → values ≡ round_values prover s.grant.start (asks_of s.asked.items) (length s.asked.items) → keys ≡ s.keys.items
    → AreSeenPairs prover s (fitted_pairs task.file.key values keys)
seen_by_keys prover task s values keys audited is are kept = subst (AreSeenPairs prover s) (sym same) (record {
  made = subst (λ (kind : Kind). ArePairsBy kind prover s pairs) (sym is)
      (seen_of prover audited.greeting s.grant (asks_of s.asked.items) (replies_of s.replied.items) pairs
      (round_whole prover task s audited is).asks.0 view);
  count = counted.count;
})
  where
    extended : task.file.params.kind ≡ Extended
    extended = ap (λ (params : Params). params.kind) (sym audited.dealt.params) ∙ is

    rounds : AreRounds prover.params s.grant (setup_read task audited.greeting s).rounds
    rounds = rounds_are prover.params task.statement.program (setup_read task audited.greeting s) (whole prover task s audited).commitment.setup

    found : (pairs : List Pair) × IsProverView prover (setup_read task audited.greeting s) pairs
    found = pairs_exist prover (setup_read task audited.greeting s) audited.prover_file rounds

    pairs : List Pair
    pairs = found.0

    counted : AreSessionPairs prover.params s.grant pairs
    counted = pairs_are_whole prover (setup_read task audited.greeting s) pairs audited.prover_file rounds found.1

    view : IsProverView prover (one_round audited.greeting s.grant (asks_of s.asked.items) (replies_of s.replied.items)) pairs
    view = subst (λ (kind : Kind). IsProverView prover (record {
      hello = audited.greeting;
      grant = s.grant;
      rounds = rounds_read kind (asks_of s.asked.items) (replies_of s.replied.items);
    }) pairs) extended found.1

    seen_values : values ≡ values_of pairs
    seen_values = are
        ∙ ap (round_values prover s.grant.start (asks_of s.asked.items)) ((has_rounds prover task s audited).round is).asked
        ∙ sym (session_values prover audited.greeting s.grant (asks_of s.asked.items) (replies_of s.replied.items) pairs audited.prover_file
        (has_rounds prover task s audited).within view)

    seen_keys : keys ≡ map (fitting_key task.file.key) pairs
    seen_keys = kept
        ∙ (subst (λ (kind : Kind). HoldsRoundKeys kind task.file s.grant s.keys.items) extended audited.kept).0
        ∙ keys_fit prover task.file (setup_read task audited.greeting s) pairs audited.prover_file audited.verifier_file audited.dealt
        rounds audited.served.replies found.1

    same : fitted_pairs task.file.key values keys ≡ pairs
    same = (λ i. fitted_pairs task.file.key (seen_values i) (seen_keys i)) ∙ pairs_back task.file.key pairs counted.elements
