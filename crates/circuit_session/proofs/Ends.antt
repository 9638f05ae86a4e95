-- Where the verifier's keys of the correlations fit the prover's pairs, so do those of the given values, of every wire that is set, of the
-- products and of the masks; and where an equation holds, the key is a root.
use Rattle.std.proofs.Common.{◌≡◌, ℕ, zero, suc, ◌+◌, ◌%◌, ◌<◌, List, [], ◌∷◌, map, drop, length, slice_index, slice_index_or, refl, sym, ◌∙◌, ap, subst, zero-mul}
use Rattle.std.specs.Prelude.{get_or}
use Rattle.std.specs.List.{drop-map}
use Rattle.std.proofs.lemmas.List.{get_or-map}
use Rattle.mersenne_field.proofs.FieldLaws.{corrected_key-fitting}
use Rattle.zk_model.specs.Field.{prime, IsElement}
use Rattle.zk_model.specs.Polynomial.{IsRoot}
use Rattle.zk_model.specs.Program.{Carries, IsSetInAll, IsProduct}
use Rattle.zk_model.specs.Statement.{Statement, IsStatement}
use Rattle.zk_model.specs.Mac.{Pair, fitting_key, AreKeysOf, corrected_pairs, corrected_keys, pair_at}
use Rattle.zk_model.specs.Transcript.{Transcript}
use Rattle.zk_model.specs.Check.{WireKeys, ArePairsOf, product_triple, key_triple, section_of, section_triples, section_keys, section_left, section_right, opening_right, opened_pairs}
use Rattle.zk_model.specs.View.{View, view_masks}
use Rattle.zk_model.specs.Finding.{section_polynomial, wire_polynomial}
use Rattle.zk_model.specs.declared.Product.{Product}
use Rattle.zk_laws.proofs.Sections.{fitting_triple, key_is_root, key_is_opening_root}
use Rattle.zk_laws.proofs.WireKeys.{wire_keys_fit}
use Rattle.zk_laws.proofs.Parts.{map_same, map_twice, in_section}
use Rattle.circuit_laws.proofs.Unique.{one_on_set_wires}
use Rattle.circuit_session.specs.Statements.{AreWireKeys}

-- ---- keys of pairs

corrected_keys_fit : (key : ℕ) (pairs : List Pair) (ds : List ℕ)
    → corrected_keys key (map (fitting_key key) pairs) ds ≡ map (fitting_key key) (corrected_pairs pairs ds)
corrected_keys_fit key [] ds = refl
corrected_keys_fit key (pair ∷ pairs) [] = refl
corrected_keys_fit key (pair ∷ pairs) (d ∷ ds) = λ i. corrected_key-fitting key pair d i ∷ corrected_keys_fit key pairs ds i

-- the key at a place fits the pair there, and past the end both are 0
key_at : (key : ℕ) (pairs : List Pair) (i : ℕ) → slice_index (map (fitting_key key) pairs) i ≡ fitting_key key (pair_at pairs i)
key_at key [] i = ap (λ n. (0 + n % prime) % prime) (sym (zero-mul key))
key_at key (pair ∷ pairs) zero = refl
key_at key (pair ∷ pairs) (suc i) = key_at key pairs i

-- ---- both ends

-- What the two ends hold: pairs of the correlations, of given values and of wires, and keys that fit the former, with the keys of the wires.
pub record AreEnds (key : ℕ) (statement : Statement) (keys corrections : List ℕ) (view : View) (wires : WireKeys) : Type 0 where
  pub element : IsElement key
  pub stated : IsStatement statement
  pub given : view.carried.given ≡ corrected_pairs view.pairs corrections
  pub carried : ArePairsOf statement.program statement.public view.carried
  pub fit : AreKeysOf key view.pairs keys
  pub theirs : AreWireKeys statement key keys corrections wires

module _ (key : ℕ) (statement : Statement) (keys corrections : List ℕ) (view : View) (wires : WireKeys)
    (ends : AreEnds key statement keys corrections view wires) where
  -- the keys of the given values fit
  given_fit : wires.given ≡ map (fitting_key key) view.carried.given
  given_fit =
      ends.theirs.given
      ∙ ap (λ ks. corrected_keys key ks corrections) ends.fit
      ∙ corrected_keys_fit key view.pairs corrections
      ∙ sym (ap (map (fitting_key key)) ends.given)

  -- and so does the key of every wire that is set
  wire_fits : (wire : ℕ) → IsSetInAll statement.program wire → slice_index wires.wires wire ≡ fitting_key key (pair_at view.carried.wires wire)
  wire_fits wire set =
      one_on_set_wires key statement.program statement.public wires.given wires.wires
      (map (fitting_key key) view.carried.wires) wire ends.stated.program ends.theirs.carried
      (subst (λ (ks : List ℕ). Carries key statement.program statement.public ks (map (fitting_key key) view.carried.wires))
      (sym given_fit)
      (wire_keys_fit key statement.program statement.public view.carried ends.element ends.carried))
      set
      ∙ key_at key view.carried.wires wire

  -- the keys of a product
  triple_fits : (product : Product) → IsProduct statement.program product
      → key_triple wires product ≡ fitting_triple key (product_triple view.carried product)
  triple_fits product is = λ i. record {
    a = wire_fits product.a is.left i;
    b = wire_fits product.b is.right i;
    c = (ap (λ ks. slice_index ks product.c) given_fit ∙ key_at key view.carried.given product.c) i;
  }

  -- those of a section's products
  section_fits : (size s : ℕ)
      → section_keys statement.program size wires s ≡ map (fitting_triple key) (section_triples statement.program size view.carried s)
  section_fits size s =
      map_same (key_triple wires) (λ product. fitting_triple key (product_triple view.carried product))
      (section_of size s statement.program.products)
      (in_section (λ product. key_triple wires product ≡ fitting_triple key (product_triple view.carried product)) size s statement.program.products
      (λ n d below. triple_fits (get_or statement.program.products n d) (ends.stated.program.products n d below)))
      ∙ sym (map_twice (fitting_triple key) (product_triple view.carried) (section_of size s statement.program.products))

  -- and the key of a mask
  mask_fits : (s : ℕ) → slice_index (drop statement.program.givens keys) s ≡ fitting_key key (pair_at (view_masks statement.program view) s)
  mask_fits s =
      ap (λ ks. slice_index (drop statement.program.givens ks) s) ends.fit
      ∙ ap (λ ks. slice_index ks s) (drop-map (fitting_key key) statement.program.givens view.pairs)
      ∙ key_at key (view_masks statement.program view) s

  -- the pair of an opened wire
  pub opened_pair : (o : ℕ) → o < length statement.program.opened
      → pair_at (opened_pairs statement.program view.carried) o ≡ pair_at view.carried.wires (slice_index statement.program.opened o)
  opened_pair o below = get_or-map (pair_at view.carried.wires) statement.program.opened o 0 (record { x = 0; m = 0 }) below

  -- the key is a root of the polynomial of a section whose equation holds
  pub section_has_root : (t : Transcript) (s : ℕ)
      → section_left key t.challenge (section_keys statement.program t.commitment.setup.grant.section_length wires s)
      (slice_index (drop statement.program.givens keys) s)
      ≡ section_right key (slice_index_or t.sums s (0, 0))
      → IsRoot (section_polynomial statement.program t view s) key
  section_has_root t s holds =
      key_is_root key t.challenge (section_triples statement.program t.commitment.setup.grant.section_length view.carried s)
      (pair_at (view_masks statement.program view) s) (slice_index_or t.sums s (0, 0))
      (sym (λ i. section_left key t.challenge (section_fits t.commitment.setup.grant.section_length s i) (mask_fits s i)) ∙ holds)

  -- and of that of an opened wire
  pub opening_has_root : (t : Transcript) (o : ℕ) → o < length statement.program.opened
      → slice_index wires.wires (slice_index statement.program.opened o) ≡ opening_right key (slice_index t.openings o) (slice_index statement.claims o)
      → IsRoot (wire_polynomial statement t view o) key
  opening_has_root t o below holds =
      key_is_opening_root key (pair_at (opened_pairs statement.program view.carried) o)
      (slice_index t.openings o) (slice_index statement.claims o)
      (ap (fitting_key key) (opened_pair o below)
      ∙ sym (wire_fits (slice_index statement.program.opened o) (ends.stated.program.opened o 0 below))
      ∙ holds)
