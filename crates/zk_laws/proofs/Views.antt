-- What the prover sees: there are enough pairs, a view exists, and all views agree.
use Rattle.std.proofs.Common.{◌≡◌, ℕ, ◌*◌, ◌^◌, ◌≤◌, max, List, [], ◌∷◌, map, zip, length, slice_index, refl, sym, ◌∙◌, ap, subst, arith, le_trans, le_refl}
use Rattle.std.proofs.Math.ListN.{get_or-map}
use Rattle.std.proofs.lemmas.List.{length-map}
use Rattle.std.proofs.lemmas.Nat.{mul-le, pow_pos}
use Rattle.std.proofs.lemmas.Slice.Zip.{length-zip}
use Rattle.zk_model.specs.Program.{Program, Carries, IsSetInAll, part_count, correlations_needed}
use Rattle.zk_model.specs.Mac.{Pair, values_of, macs_of, corrected_pair, corrected_pairs, pair_at}
use Rattle.zk_model.specs.Files.{ProverFile, AreWithinLimits, IsProverFile, correlations_per_unit}
use Rattle.zk_model.specs.Transcript.{Setup, Commitment, IsSetup, IsCommitment}
use Rattle.zk_model.specs.Correlations.{IsProverView}
use Rattle.zk_model.specs.declared.Kind.{Kind}
use Rattle.zk_model.specs.declared.Kind.TheVariants.{Direct, Extended}
use Rattle.zk_model.specs.declared.Params.{Params}
use Rattle.zk_laws.specs.SeenPairs.{AreRounds}
use Rattle.zk_laws.specs.Uniqueness.{OneView}
use Rattle.zk_laws.specs.Sessions.{ViewExists}
use Rattle.zk_laws.proofs.FoundPairs.{pairs_exist}
use Rattle.zk_laws.proofs.OnePairs.{one_pairs}
use Rattle.zk_laws.proofs.WholePairs.{pairs_are_whole}
use Rattle.zk_laws.proofs.Follow.{wires_follow}
use Rattle.circuit_laws.proofs.Unique.{one_on_set_wires}

-- ---- enough pairs

-- the rounds of a setup
pub rounds_are : (params : Params) (program : Program) (setup : Setup) → IsSetup params program setup → AreRounds params setup.grant setup.rounds
rounds_are params program setup set = record { within = set.grant.within; count = set.round_count; each = set.rounds }

-- every kind gives some
pub gives_some : (params : Params) (kind : Kind) → AreWithinLimits kind (record params { kind = kind })
    → 1 ≤ correlations_per_unit (record params { kind = kind })
gives_some params Direct limits = omega arith
gives_some params Extended limits = mul-le 1 1 params.trees (2 ^ params.height) limits.2 (pow_pos params.height)

-- as many parts as hold n hold n, and so do more
pub parts_hold : (n size count : ℕ) → 1 ≤ size → count ≡ max 1 (part_count n size) → n ≤ count * size
parts_hold n size count some is = le_trans hold (mul-le (part_count n size) size count size more (le_refl size))
  where
    more : part_count n size ≤ count
    more = omega (arith, is)

    hold : n ≤ part_count n size * size
    hold = omega (arith, some)

-- there is a pair for each correlation that a session takes
pub enough_pairs : (file : ProverFile) (program : Program) (setup : Setup) (pairs : List Pair) → IsProverFile file
    → IsSetup file.params program setup → IsProverView file setup pairs
    → correlations_needed program setup.grant.section_length ≤ length pairs
enough_pairs file program setup pairs is set seen =
    let counted = (pairs_are_whole file setup pairs is (rounds_are file.params program setup set) seen).count in
    let hold = parts_hold (correlations_needed program setup.grant.section_length) (correlations_per_unit file.params) setup.grant.count
    (gives_some file.params file.params.kind is.params.limits) set.grant.count in
    omega (arith, counted, hold)

-- so there is one for each given value
pub given_count : (file : ProverFile) (program : Program) (commitment : Commitment) (pairs : List Pair) → IsProverFile file
    → IsCommitment file.params program commitment → IsProverView file commitment.setup pairs
    → length (corrected_pairs pairs commitment.corrections) ≡ program.givens
given_count file program commitment pairs is committed seen =
    let enough = enough_pairs file program commitment.setup pairs is committed.setup seen in
    let mapped = length-map (zip pairs commitment.corrections) (λ q. corrected_pair q.0 q.1) in
    let zipped = length-zip pairs commitment.corrections in
    omega (arith, enough, mapped, zipped, committed.count)

-- ---- a view exists

-- values and MACs as pairs
abbrev joined_pairs : List ℕ → List ℕ → List Pair
joined_pairs values macs = map (λ q. record { x = q.0; m = q.1 }) (zip values macs)

values_of_joined : (values macs : List ℕ) → length values ≡ length macs → values_of (joined_pairs values macs) ≡ values
values_of_joined [] macs same = refl
values_of_joined (value ∷ values) [] same = absurd (omega (arith, same))
values_of_joined (value ∷ values) (mac ∷ macs) same = ap (λ l. value ∷ l) (values_of_joined values macs (omega (arith, same)))

macs_of_joined : (values macs : List ℕ) → length values ≡ length macs → macs_of (joined_pairs values macs) ≡ macs
macs_of_joined [] [] same = refl
macs_of_joined [] (mac ∷ macs) same = absurd (omega (arith, same))
macs_of_joined (value ∷ values) [] same = absurd (omega (arith, same))
macs_of_joined (value ∷ values) (mac ∷ macs) same = ap (λ l. mac ∷ l) (macs_of_joined values macs (omega (arith, same)))

-- the wires follow from the given values, and from their MACs
pub view_exists : ViewExists
view_exists file statement commitment is stated committed =
    let found = pairs_exist file commitment.setup is (rounds_are file.params statement.program commitment.setup committed.setup) in
    let given = corrected_pairs found.0 commitment.corrections in
    let count = given_count file statement.program commitment found.0 is committed found.1 in
    let values = wires_follow 1 statement.program statement.public (values_of given) stated.program stated.public_count
    (length-map given (λ (pair : Pair). pair.x) ∙ count) in
    let macs = wires_follow 0 statement.program statement.public (macs_of given) stated.program stated.public_count
    (length-map given (λ (pair : Pair). pair.m) ∙ count) in
    let same = values.1.whole ∙ sym macs.1.whole in (
      record { pairs = found.0; carried = record { given = given; wires = joined_pairs values.0 macs.0 } },
      record {
        pairs = found.1;
        given = refl;
        carried = record {
          values = subst (Carries 1 statement.program statement.public (values_of given)) (sym (values_of_joined values.0 macs.0 same)) values.1;
          macs = subst (Carries 0 statement.program statement.public (macs_of given)) (sym (macs_of_joined values.0 macs.0 same)) macs.1;
        };
      },
    )

-- ---- all views agree

-- the value of a place is that of its pair
pub value_at_place : (pairs : List Pair) (i : ℕ) → slice_index (values_of pairs) i ≡ (pair_at pairs i).x
value_at_place pairs i = get_or-map (λ (pair : Pair). pair.x) pairs i (record { x = 0; m = 0 })

pub mac_at_place : (pairs : List Pair) (i : ℕ) → slice_index (macs_of pairs) i ≡ (pair_at pairs i).m
mac_at_place pairs i = get_or-map (λ (pair : Pair). pair.m) pairs i (record { x = 0; m = 0 })

pub one_view : OneView
one_view file statement commitment some others is stated committed left right = record {
  pairs = pairs;
  given = given;
  wires = λ wire set. λ i. record { x = value wire set i; m = mac wire set i };
}
  where
    pairs : some.pairs ≡ others.pairs
    pairs = one_pairs file commitment.setup some.pairs others.pairs left.pairs right.pairs

    given : some.carried.given ≡ others.carried.given
    given = left.given ∙ ap (λ l. corrected_pairs l commitment.corrections) pairs ∙ sym right.given

    -- of the values, or of the MACs
    part_of : (one : ℕ) (part : Pair → ℕ) → ((pairs : List Pair) (i : ℕ) → slice_index (map part pairs) i ≡ part (pair_at pairs i))
        → Carries one statement.program statement.public (map part some.carried.given) (map part some.carried.wires)
        → Carries one statement.program statement.public (map part others.carried.given) (map part others.carried.wires)
        → (wire : ℕ) → IsSetInAll statement.program wire → part (pair_at some.carried.wires wire) ≡ part (pair_at others.carried.wires wire)
    part_of one part at mine theirs wire set = sym (at some.carried.wires wire)
        ∙ one_on_set_wires one statement.program statement.public (map part some.carried.given) (map part some.carried.wires)
        (map part others.carried.wires) wire stated.program mine
        (subst (λ (l : List Pair). Carries one statement.program statement.public (map part l) (map part others.carried.wires)) (sym given) theirs)
        set
        ∙ at others.carried.wires wire

    value : (wire : ℕ) → IsSetInAll statement.program wire → (pair_at some.carried.wires wire).x ≡ (pair_at others.carried.wires wire).x
    value = part_of 1 (λ pair. pair.x) value_at_place left.carried.values right.carried.values

    mac : (wire : ℕ) → IsSetInAll statement.program wire → (pair_at some.carried.wires wire).m ≡ (pair_at others.carried.wires wire).m
    mac = part_of 0 (λ pair. pair.m) mac_at_place left.carried.macs right.carried.macs
