-- A prover sees as many pairs as the units of its grant give, all of elements.
use Rattle.std.proofs.Common.{◌≡◌, ℕ, suc, ◌+◌, ◌*◌, ◌^◌, ◌<◌, List, [], ◌∷◌, take, length, slice_index_or, sym, ◌∙◌, ap, subst, arith}
use Rattle.std.proofs.Math.ListN.{length-append}
use Rattle.std.specs.Prelude.{All, flat_map}
use Rattle.std.specs.List.{enumerate_from}
use Rattle.std.proofs.lemmas.List.{length-map, get_or-map}
use Rattle.std.proofs.lemmas.List.Elements.{All-nil, All-append}
use Rattle.std.proofs.lemmas.List.FromFn.{length-enumerate_from, length-map-range_with_len}
use Rattle.mersenne_field.proofs.FieldLaws.{reduced}
use Rattle.tree_laws.proofs.Joined.{joined_parts}
use Rattle.zk_laws.specs.SeenPairs.{AreRounds, PairsAreWhole}
use Rattle.zk_model.specs.Field.{IsElement}
use Rattle.zk_model.specs.Mac.{Pair, values_of, macs_of}
use Rattle.zk_model.specs.Extension.{code_outputs}
use Rattle.zk_model.specs.Files.{ProverUnit, ProverFile, IsProverUnit, IsProverFile, correlations_per_unit, rounds_of, prover_unit}
use Rattle.zk_model.specs.Transcript.{Setup}
use Rattle.zk_model.specs.Correlations.{TreeView, UnitRound, IsNoiseOf, IsExtension, IsUnitView, tree_view, unit_rounds}
use Rattle.zk_model.specs.declared.Kind.{Kind}
use Rattle.zk_model.specs.declared.Kind.TheVariants.{Direct, Extended}
use Rattle.zk_model.specs.declared.Params.{Params}

-- ---- lists joined

-- units of the same length, joined
pub joined_length : (per : ℕ) (units : List (List Pair)) → ((i : ℕ) → i < length units → length (slice_index_or units i []) ≡ per)
    → length (flat_map (λ unit. unit) units) ≡ length units * per
joined_length per [] each = omega arith
joined_length per (unit ∷ units) each =
    let first = each 0 (omega arith) in
    let rest = joined_length per units (λ i below. each (suc i) (omega (arith, below))) in
    length-append unit (flat_map (λ unit. unit) units) ∙ omega (arith, first, rest)

-- what holds of all items of all lists holds of all items of the joined list
joined_all : (P : Pair → Type 0) (units : List (List Pair)) → ((i : ℕ) → i < length units → All P (slice_index_or units i []))
    → All P (flat_map (λ unit. unit) units)
joined_all P [] each = All-nil P
joined_all P (unit ∷ units) each = All-append P unit (flat_map (λ unit. unit) units) (each 0 (omega arith))
    (joined_all P units (λ i below. each (suc i) (omega (arith, below))))

-- ---- counts

-- the noise of a tree has an entry for each leaf
pub noise_length : (tree : TreeView) (entries : List Pair) → IsNoiseOf tree entries → length entries ≡ 2 ^ length tree.levels
noise_length tree entries is = ap length is.2 ∙ length-map _ _ ∙ length-enumerate_from 0 is.0 ∙ is.1.whole

-- and so has all noise of a unit
pub all_noise_length : (params : Params) (unit : ProverUnit) (round : UnitRound) (noise : List (List Pair)) → length noise ≡ params.trees
    → ((t : ℕ) → t < params.trees → IsNoiseOf (tree_view params unit round t) (slice_index_or noise t []))
    → length (flat_map (λ entries. entries) noise) ≡ params.trees * 2 ^ params.height
all_noise_length params unit round noise count each =
    joined_length (2 ^ params.height) noise (λ t below.
    noise_length (tree_view params unit round t) (slice_index_or noise t []) (each t (omega (arith, below, count)))
    ∙ ap (λ n. 2 ^ n) (length-map-range_with_len _ 0 params.height))
    ∙ ap (λ n. n * 2 ^ params.height) count

-- the pairs that a round makes
extension_length : (params : Params) (code_seed : List ℕ) (unit : ProverUnit) (round : UnitRound) (pairs : List Pair)
    → IsExtension params code_seed unit round pairs → length pairs ≡ params.trees * 2 ^ params.height
extension_length params code_seed unit round pairs made =
    sym (length-map pairs (λ pair. pair.x))
    ∙ ap length made.values ∙ length-map _ _ ∙ length-enumerate_from 0 (flat_map values_of made.noise)
    ∙ ap length (joined_parts (λ pair. pair.x) made.noise) ∙ length-map (flat_map (λ entries. entries) made.noise) _
    ∙ all_noise_length params unit round made.noise made.count made.each

-- the pairs of a unit are as many as its kind gives
unit_length : (params : Params) (kind : Kind) (code_seed : List ℕ) (unit : ProverUnit) (rounds : List UnitRound) (pairs : List Pair)
    → IsProverUnit (record params { kind = kind }) unit → length rounds ≡ rounds_of kind
    → IsUnitView (record params { kind = kind }) code_seed unit rounds pairs
    → length pairs ≡ correlations_per_unit (record params { kind = kind })
unit_length params Direct code_seed unit [] pairs is count seen = ap length seen ∙ is.count
unit_length params Direct code_seed unit (round ∷ rounds) pairs is count seen = absurd (omega (arith, count))
unit_length params Extended code_seed unit [] pairs is count seen = absurd (omega (arith, count))
unit_length params Extended code_seed unit (round ∷ []) pairs is count seen =
    extension_length (record params { kind = Extended }) code_seed unit round pairs seen
unit_length params Extended code_seed unit (round ∷ next ∷ more) pairs is count seen = absurd seen

-- ---- elements

-- a value and a MAC are elements
abbrev ArePairElements : Pair → Type 0
ArePairElements pair = IsElement pair.x × IsElement pair.m

-- the code's outputs are elements
output_element : (code_seed base entries outputs : List ℕ) (k : ℕ) → outputs ≡ code_outputs code_seed base entries → k < length outputs
    → IsElement (slice_index_or outputs k 0)
output_element code_seed base entries outputs k are below =
    subst IsElement (sym (ap (λ l. slice_index_or l k 0) are
    ∙ get_or-map _ (enumerate_from 0 entries) k (0, 0) 0 (omega (arith, below, count)))) (reduced _)
  where
    count : length outputs ≡ length (enumerate_from 0 entries)
    count = ap length are ∙ length-map _ _

-- and so are the parts of the pairs that a round makes
extension_elements : (params : Params) (code_seed : List ℕ) (unit : ProverUnit) (round : UnitRound) (pairs : List Pair)
    → IsExtension params code_seed unit round pairs → All ArePairElements pairs
extension_elements params code_seed unit round pairs made k d below = (
  subst IsElement (get_or-map (λ (pair : Pair). pair.x) pairs k d 0 below)
      (output_element code_seed (values_of (take params.base unit.pairs)) (flat_map values_of made.noise) (values_of pairs) k made.values
      (omega (arith, below, length-map pairs (λ (pair : Pair). pair.x)))),
  subst IsElement (get_or-map (λ (pair : Pair). pair.m) pairs k d 0 below)
      (output_element code_seed (macs_of (take params.base unit.pairs)) (flat_map macs_of made.noise) (macs_of pairs) k made.macs
      (omega (arith, below, length-map pairs (λ (pair : Pair). pair.m)))),
)

-- the pairs of a unit are of elements
unit_elements : (params : Params) (code_seed : List ℕ) (unit : ProverUnit) (rounds : List UnitRound) (pairs : List Pair)
    → IsProverUnit params unit → IsUnitView params code_seed unit rounds pairs → All ArePairElements pairs
unit_elements params code_seed unit [] pairs is seen = subst (All ArePairElements) (sym seen) is.elements
unit_elements params code_seed unit (round ∷ []) pairs is seen = extension_elements params code_seed unit round pairs seen
unit_elements params code_seed unit (round ∷ next ∷ more) pairs is seen = absurd seen

-- ---- a session

-- the units of a grant are those of the file
pub granted_unit : (file : ProverFile) (setup : Setup) (i : ℕ) → IsProverFile file → AreRounds file.params setup.grant setup.rounds
    → i < setup.grant.count → IsProverUnit file.params (prover_unit file (setup.grant.start + i))
granted_unit file setup i is are below =
    is.units (setup.grant.start + i) (record { pairs = []; trees = [] }) (omega (arith, below, is.count, are.within))

-- the prover sees as many pairs as the units of its grant give, all of elements
pub pairs_are_whole : PairsAreWhole
pairs_are_whole file setup pairs is are seen = record {
  count = ap length seen.joined
      ∙ joined_length (correlations_per_unit file.params) seen.units (λ i below. counted i (omega (arith, below, seen.count)))
      ∙ ap (λ n. n * correlations_per_unit file.params) seen.count;
  elements = subst (All ArePairElements) (sym seen.joined) (joined_all ArePairElements seen.units
      (λ i below. let inside : i < setup.grant.count = omega (arith, below, seen.count) in
      unit_elements file.params file.code_seed (prover_unit file (setup.grant.start + i)) (unit_rounds setup.rounds i)
      (slice_index_or seen.units i []) (granted_unit file setup i is are inside) (seen.each i inside)));
}
  where
    counted : (i : ℕ) → i < setup.grant.count → length (slice_index_or seen.units i []) ≡ correlations_per_unit file.params
    counted i below = unit_length file.params file.params.kind file.code_seed (prover_unit file (setup.grant.start + i))
        (unit_rounds setup.rounds i) (slice_index_or seen.units i []) (granted_unit file setup i is are below)
        (length-map setup.rounds _ ∙ are.count) (seen.each i below)
