-- Views that agree have the same products and opened pairs; and so what stands before the challenge fixes the errors.
use Rattle.std.proofs.Common.{◌≡◌, ℕ, drop, sym, ◌∙◌, ap, subst}
use Rattle.zk_model.specs.Program.{Program, IsProduct, IsProgram}
use Rattle.zk_model.specs.Mac.{pair_at}
use Rattle.zk_model.specs.Transcript.{Commitment}
use Rattle.zk_model.specs.Check.{product_triple, section_of, section_triples, opened_pairs, error_polynomial}
use Rattle.zk_model.specs.View.{View, IsView, view_masks}
use Rattle.zk_model.specs.Finding.{section_errors}
use Rattle.zk_model.specs.declared.Product.{Product}
use Rattle.zk_laws.specs.Uniqueness.{Agree, FixedBeforeChallenge}
use Rattle.frame_laws.proofs.OneTranscript.{one_commitment}
use Rattle.zk_laws.proofs.Parts.{map_same, in_section}
use Rattle.zk_laws.proofs.Views.{one_view}

-- ---- views that agree

-- the pairs of a product
same_triple : (program : Program) (some others : View) (product : Product) → Agree program some others → IsProduct program product
    → product_triple some.carried product ≡ product_triple others.carried product
same_triple program some others product agree is = λ i. record {
  a = agree.wires product.a is.left i;
  b = agree.wires product.b is.right i;
  c = pair_at (agree.given i) product.c;
}

-- those of the products of a section
pub same_triples : (program : Program) (some others : View) (size s : ℕ) → IsProgram program → Agree program some others
    → section_triples program size some.carried s ≡ section_triples program size others.carried s
same_triples program some others size s formed agree =
    map_same (product_triple some.carried) (product_triple others.carried) (section_of size s program.products)
    (in_section (λ product. product_triple some.carried product ≡ product_triple others.carried product) size s program.products
    (λ n d below. same_triple program some others _ agree (formed.products n d below)))

-- those of the opened wires
pub same_opened : (program : Program) (some others : View) → IsProgram program → Agree program some others
    → opened_pairs program some.carried ≡ opened_pairs program others.carried
same_opened program some others formed agree =
    map_same (pair_at some.carried.wires) (pair_at others.carried.wires) program.opened
    (λ n d below. agree.wires _ (formed.opened n d below))

-- and those of the masks
pub same_masks : (program : Program) (some others : View) → Agree program some others → view_masks program some ≡ view_masks program others
same_masks program some others agree = ap (drop program.givens) agree.pairs

-- the errors of a section
pub same_errors : (program : Program) (commitment : Commitment) (some others : View) (s : ℕ) → IsProgram program → Agree program some others
    → section_errors program commitment some s ≡ section_errors program commitment others s
same_errors program commitment some others s formed agree =
    ap error_polynomial (same_triples program some others commitment.setup.grant.section_length s formed agree)

-- the other way round
pub agree_back : (program : Program) (some others : View) → Agree program some others → Agree program others some
agree_back program some others agree = record {
  pairs = sym agree.pairs;
  given = sym agree.given;
  wires = λ wire set. sym (agree.wires wire set);
}

-- ---- before the challenge

pub fixed_before_challenge : FixedBeforeChallenge
fixed_before_challenge file statement t u is stated left right begins = (
  one,
  λ view other s seen others.
      ap (λ (c : Commitment). section_errors statement.program c view s) one
      ∙ same_errors statement.program u.commitment view other s stated.program
      (one_view file statement u.commitment view other is stated right.commitment
      (subst (λ (c : Commitment). IsView file statement c view) one seen) others),
)
  where
    one : t.commitment ≡ u.commitment
    one = one_commitment file.params statement.program t.commitment u begins.0 is.params left.commitment right.commitment begins.1
