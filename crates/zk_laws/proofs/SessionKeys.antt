-- Where the verifier's keys of the correlations fit the prover's pairs, so do those of the given values, of every wire that
-- is set, of the products and of the masks; and where an equation holds, the key is a root.
use Rattle.std.proofs.Common.{◌≡◌, ℕ, zero, suc, ◌+◌, ◌%◌, ◌<◌, List, [], ◌∷◌, map, drop, length, slice_index, slice_index_or, refl, sym, ◌∙◌, ap, subst, zero-mul}
use Rattle.std.specs.Prelude.{get_or}
use Rattle.std.specs.List.{drop-map}
use Rattle.std.proofs.lemmas.List.{get_or-map}
use Rattle.mersenne_field.proofs.FieldLaws.{corrected_key-fitting}
use Rattle.zk_model.specs.Field.{prime, IsElement}
use Rattle.zk_model.specs.Polynomial.{IsRoot}
use Rattle.zk_model.specs.Program.{Program, Carries, IsSetInAll, IsProduct}
use Rattle.zk_model.specs.Statement.{Statement, IsStatement}
use Rattle.zk_model.specs.Mac.{Pair, fitting_key, AreKeysOf, corrected_pairs, corrected_keys, pair_at}
use Rattle.zk_model.specs.Files.{ProverFile, VerifierFile}
use Rattle.zk_model.specs.Transcript.{Commitment, Transcript}
use Rattle.zk_model.specs.Check.{WireKeys, product_triple, key_triple, section_of, section_triples, section_keys, section_left, opened_pairs, SectionHolds, OpeningHolds}
use Rattle.zk_model.specs.View.{View, IsView, view_masks, session_keys, AreSessionKeys, session_products, session_openings}
use Rattle.zk_model.specs.Finding.{section_polynomial, wire_polynomial}
use Rattle.zk_model.specs.declared.Product.{Product}
use Rattle.zk_laws.proofs.Sections.{fitting_triple, key_is_root, key_is_opening_root}
use Rattle.zk_laws.proofs.WireKeys.{wire_keys_fit}
use Rattle.circuit_laws.proofs.Unique.{one_on_set_wires}
use Rattle.zk_laws.proofs.Parts.{map_same, map_twice, in_section}

-- ---- keys of pairs

corrected_keys_fit : (key : ℕ) (pairs : List Pair) (ds : List ℕ)
    → corrected_keys key (map (fitting_key key) pairs) ds ≡ map (fitting_key key) (corrected_pairs pairs ds)
corrected_keys_fit key [] ds = refl
corrected_keys_fit key (pair ∷ pairs) [] = refl
corrected_keys_fit key (pair ∷ pairs) (d ∷ ds) = λ i. corrected_key-fitting key pair d i ∷ corrected_keys_fit key pairs ds i

-- the key at a place fits the pair there, and past the end both are 0
key_at : (key : ℕ) (pairs : List Pair) (i : ℕ) → slice_index (map (fitting_key key) pairs) i ≡ fitting_key key (pair_at pairs i)
key_at key [] i = ap (λ n. (0 + n % prime) % prime) (sym (zero-mul key))
key_at key (pair ∷ pairs) zero = refl
key_at key (pair ∷ pairs) (suc i) = key_at key pairs i

-- ---- both ends of a session

-- What the two ends of a session hold, where the verifier's keys of the correlations fit the pairs that the prover sees.
pub record AreBothEnds
    (prover : ProverFile)
    (verifier : VerifierFile)
    (statement : Statement)
    (commitment : Commitment)
    (view : View)
    (keys : WireKeys) : Type 0 where
  pub element : IsElement verifier.key
  pub stated : IsStatement statement
  pub seen : IsView prover statement commitment view
  pub fit : AreKeysOf verifier.key view.pairs (session_keys verifier commitment)
  pub carried : AreSessionKeys verifier statement commitment keys

-- the keys of the given values fit
given_fit : (prover : ProverFile) (verifier : VerifierFile) (statement : Statement) (commitment : Commitment) (view : View) (keys : WireKeys)
    → AreBothEnds prover verifier statement commitment view keys → keys.given ≡ map (fitting_key verifier.key) view.carried.given
given_fit prover verifier statement commitment view keys both =
    both.carried.given
    ∙ ap (λ ks. corrected_keys verifier.key ks commitment.corrections) both.fit
    ∙ corrected_keys_fit verifier.key view.pairs commitment.corrections
    ∙ sym (ap (map (fitting_key verifier.key)) both.seen.given)

-- and so does the key of every wire that is set
pub wire_fits : (prover : ProverFile) (verifier : VerifierFile) (statement : Statement) (commitment : Commitment) (view : View) (keys : WireKeys)
    → AreBothEnds prover verifier statement commitment view keys → (wire : ℕ) → IsSetInAll statement.program wire
    → slice_index keys.wires wire ≡ fitting_key verifier.key (pair_at view.carried.wires wire)
wire_fits prover verifier statement commitment view keys both wire set =
    one_on_set_wires verifier.key statement.program statement.public keys.given keys.wires
    (map (fitting_key verifier.key) view.carried.wires) wire both.stated.program both.carried.carried
    (subst (λ (ks : List ℕ). Carries verifier.key statement.program statement.public ks (map (fitting_key verifier.key) view.carried.wires))
    (sym (given_fit prover verifier statement commitment view keys both))
    (wire_keys_fit verifier.key statement.program statement.public view.carried both.element both.seen.carried))
    set
    ∙ key_at verifier.key view.carried.wires wire

-- the keys of a product
triple_fits : (prover : ProverFile) (verifier : VerifierFile) (statement : Statement) (commitment : Commitment) (view : View) (keys : WireKeys)
    → AreBothEnds prover verifier statement commitment view keys → (product : Product) → IsProduct statement.program product
    → key_triple keys product ≡ fitting_triple verifier.key (product_triple view.carried product)
triple_fits prover verifier statement commitment view keys both product is = λ i. record {
  a = wire_fits prover verifier statement commitment view keys both product.a is.left i;
  b = wire_fits prover verifier statement commitment view keys both product.b is.right i;
  c = (ap (λ ks. slice_index ks product.c) (given_fit prover verifier statement commitment view keys both)
      ∙ key_at verifier.key view.carried.given product.c) i;
}

-- those of a section's products
pub section_fits : (prover : ProverFile) (verifier : VerifierFile) (statement : Statement) (commitment : Commitment) (view : View) (keys : WireKeys)
    → AreBothEnds prover verifier statement commitment view keys → (size s : ℕ)
    → section_keys statement.program size keys s ≡ map (fitting_triple verifier.key) (section_triples statement.program size view.carried s)
section_fits prover verifier statement commitment view keys both size s =
    map_same (key_triple keys) (λ product. fitting_triple verifier.key (product_triple view.carried product))
    (section_of size s statement.program.products)
    (in_section (λ product. key_triple keys product ≡ fitting_triple verifier.key (product_triple view.carried product)) size s statement.program.products
    (λ n d below. triple_fits prover verifier statement commitment view keys both (get_or statement.program.products n d)
    (both.stated.program.products n d below)))
    ∙ sym (map_twice (fitting_triple verifier.key) (product_triple view.carried) (section_of size s statement.program.products))

-- and the key of a mask
pub mask_fits : (prover : ProverFile) (verifier : VerifierFile) (statement : Statement) (commitment : Commitment) (view : View) (keys : WireKeys)
    → AreBothEnds prover verifier statement commitment view keys → (s : ℕ)
    → slice_index (drop statement.program.givens (session_keys verifier commitment)) s
    ≡ fitting_key verifier.key (pair_at (view_masks statement.program view) s)
mask_fits prover verifier statement commitment view keys both s =
    ap (λ ks. slice_index (drop statement.program.givens ks) s) both.fit
    ∙ ap (λ ks. slice_index ks s) (drop-map (fitting_key verifier.key) statement.program.givens view.pairs)
    ∙ key_at verifier.key (view_masks statement.program view) s

-- the left side of a section's equation, by the prover's pairs
pub left_side : (prover : ProverFile) (verifier : VerifierFile) (statement : Statement) (t : Transcript) (view : View) (keys : WireKeys)
    → AreBothEnds prover verifier statement t.commitment view keys → (size s : ℕ)
    → section_left verifier.key t.challenge (section_keys statement.program size keys s)
    (slice_index (drop statement.program.givens (session_keys verifier t.commitment)) s)
    ≡ section_left verifier.key t.challenge
    (map (fitting_triple verifier.key) (section_triples statement.program size view.carried s))
    (fitting_key verifier.key (pair_at (view_masks statement.program view) s))
left_side prover verifier statement t view keys both size s = λ i. section_left verifier.key t.challenge
    (section_fits prover verifier statement t.commitment view keys both size s i)
    (mask_fits prover verifier statement t.commitment view keys both s i)

-- the pair of an opened wire
pub opened_pair : (program : Program) (view : View) (o : ℕ) → o < length program.opened
    → pair_at (opened_pairs program view.carried) o ≡ pair_at view.carried.wires (slice_index program.opened o)
opened_pair program view o below =
    get_or-map (pair_at view.carried.wires) program.opened o 0 (record { x = 0; m = 0 }) below

-- ---- equations that hold

-- the key is a root of the polynomial of a section whose equation holds
pub held_section_has_root : (prover : ProverFile) (verifier : VerifierFile) (statement : Statement) (t : Transcript) (view : View) (keys : WireKeys)
    → AreBothEnds prover verifier statement t.commitment view keys → (s : ℕ)
    → SectionHolds (session_products verifier statement t keys) s
    → IsRoot (section_polynomial statement.program t view s) verifier.key
held_section_has_root prover verifier statement t view keys both s holds =
    key_is_root verifier.key t.challenge (section_triples statement.program size view.carried s)
    (pair_at (view_masks statement.program view) s) (slice_index_or t.sums s (0, 0))
    (sym (left_side prover verifier statement t view keys both size s) ∙ holds)
  where
    size : ℕ
    size = t.commitment.setup.grant.section_length

-- and of that of an opened wire
pub held_opening_has_root : (prover : ProverFile) (verifier : VerifierFile) (statement : Statement) (t : Transcript) (view : View) (keys : WireKeys)
    → AreBothEnds prover verifier statement t.commitment view keys → (o : ℕ) → o < length statement.program.opened
    → OpeningHolds (session_openings verifier statement t keys) o
    → IsRoot (wire_polynomial statement t view o) verifier.key
held_opening_has_root prover verifier statement t view keys both o below holds =
    key_is_opening_root verifier.key (pair_at (opened_pairs statement.program view.carried) o)
    (slice_index t.openings o) (slice_index statement.claims o)
    (ap (fitting_key verifier.key) (opened_pair statement.program view o below)
    ∙ sym (wire_fits prover verifier statement t.commitment view keys both (slice_index statement.program.opened o)
    (both.stated.program.opened o 0 below))
    ∙ holds)
