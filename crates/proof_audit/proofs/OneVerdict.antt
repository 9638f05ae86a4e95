-- The checks of a session have one verdict, whatever keys of wires they are over.
use Rattle.std.proofs.Common.{◌≡◌, ℕ, ◌<◌, List, drop, length, refl, sym, ◌∙◌, ap, subst, slice_index, arith}
use Rattle.zk_model.specs.Program.{IsProduct, IsSetInAll, Carries, section_count}
use Rattle.zk_model.specs.Statement.{Statement, IsStatement}
use Rattle.zk_model.specs.Files.{VerifierFile}
use Rattle.zk_model.specs.Transcript.{Transcript}
use Rattle.zk_model.specs.Check.{WireKeys, KeyTriple, key_triple, section_keys, section_of, section_left, SectionHolds, OpeningHolds}
use Rattle.zk_model.specs.View.{AreSessionKeys, session_products, session_openings, session_keys, IsVerdictOf}
use Rattle.zk_model.specs.declared.Product.{Product}
use Rattle.zk_model.specs.declared.Verdict.{Verdict}
use Rattle.zk_model.specs.declared.Verdict.TheVariants.{Accepted, RejectedSum, RejectedOpening}
use Rattle.circuit_laws.proofs.Unique.{one_on_set_wires}
use Rattle.zk_laws.proofs.Parts.{map_same, in_section}
use Rattle.zk_laws.proofs.FirstFailures.{one_first, first_of_same}

-- ---- keys of all wires

-- two keys of a wire that is set are one
same_wire : (file : VerifierFile) (statement : Statement) (t : Transcript) (some others : WireKeys) → IsStatement statement
    → AreSessionKeys file statement t.commitment some → AreSessionKeys file statement t.commitment others
    → (wire : ℕ) → IsSetInAll statement.program wire → slice_index some.wires wire ≡ slice_index others.wires wire
same_wire file statement t some others stated left right wire set =
    one_on_set_wires file.key statement.program statement.public some.given some.wires others.wires wire stated.program left.carried
    (subst (λ (given : List ℕ). Carries file.key statement.program statement.public given others.wires) (right.given ∙ sym left.given) right.carried)
    set

same_triple : (file : VerifierFile) (statement : Statement) (t : Transcript) (some others : WireKeys) → IsStatement statement
    → AreSessionKeys file statement t.commitment some → AreSessionKeys file statement t.commitment others
    → (product : Product) → IsProduct statement.program product → key_triple some product ≡ key_triple others product
same_triple file statement t some others stated left right product is = λ i. record {
  a = same_wire file statement t some others stated left right product.a is.left i;
  b = same_wire file statement t some others stated left right product.b is.right i;
  c = ap (λ (given : List ℕ). slice_index given product.c) (left.given ∙ sym right.given) i;
}

-- so the equations are the same
same_section : (file : VerifierFile) (statement : Statement) (t : Transcript) (some others : WireKeys) → IsStatement statement
    → AreSessionKeys file statement t.commitment some → AreSessionKeys file statement t.commitment others
    → (s : ℕ) → SectionHolds (session_products file statement t some) s → SectionHolds (session_products file statement t others) s
same_section file statement t some others stated left right s holds =
    ap (λ (triples : List KeyTriple). section_left file.key t.challenge triples
    (slice_index (drop statement.program.givens (session_keys file t.commitment)) s)) (sym same) ∙ holds
  where
    size : ℕ
    size = t.commitment.setup.grant.section_length

    same : section_keys statement.program size some s ≡ section_keys statement.program size others s
    same = map_same (key_triple some) (key_triple others) (section_of size s statement.program.products)
        (in_section (λ product. key_triple some product ≡ key_triple others product) size s statement.program.products
        (λ n d below. same_triple file statement t some others stated left right _ (stated.program.products n d below)))

same_opening : (file : VerifierFile) (statement : Statement) (t : Transcript) (some others : WireKeys) → IsStatement statement
    → AreSessionKeys file statement t.commitment some → AreSessionKeys file statement t.commitment others
    → (o : ℕ) → o < length statement.program.opened
    → OpeningHolds (session_openings file statement t some) o → OpeningHolds (session_openings file statement t others) o
same_opening file statement t some others stated left right o below holds =
    sym (same_wire file statement t some others stated left right (slice_index statement.program.opened o) (stated.program.opened o 0 below)) ∙ holds

-- ---- verdicts

-- a verdict over some keys is one over others
same_verdict : (file : VerifierFile) (statement : Statement) (t : Transcript) (some others : WireKeys) (verdict : Verdict) → IsStatement statement
    → AreSessionKeys file statement t.commitment some → AreSessionKeys file statement t.commitment others
    → IsVerdictOf (session_products file statement t some) (session_openings file statement t some) verdict
    → IsVerdictOf (session_products file statement t others) (session_openings file statement t others) verdict
same_verdict file statement t some others Accepted stated left right is = (
  λ s below. same_section file statement t some others stated left right s (is.0 s below),
  λ o below. same_opening file statement t some others stated left right o below (is.1 o below),
)
same_verdict file statement t some others (RejectedSum s) stated left right is =
    first_of_same (SectionHolds (session_products file statement t some)) (SectionHolds (session_products file statement t others))
    (section_count statement.program t.commitment.setup.grant.section_length) s
    (same_section file statement t some others stated left right) (same_section file statement t others some stated right left) is
same_verdict file statement t some others (RejectedOpening o) stated left right is = (
  λ s below. same_section file statement t some others stated left right s (is.0 s below),
  record {
    below = is.1.below;
    fails = λ holds. is.1.fails (same_opening file statement t others some stated right left o is.1.below holds);
    before = λ k below. same_opening file statement t some others stated left right k (omega (arith, below, is.1.below)) (is.1.before k below);
  },
)

-- the checks over one list of keys have one
one_of_checks : (file : VerifierFile) (statement : Statement) (t : Transcript) (keys : WireKeys) (one other : Verdict)
    → IsVerdictOf (session_products file statement t keys) (session_openings file statement t keys) one
    → IsVerdictOf (session_products file statement t keys) (session_openings file statement t keys) other → one ≡ other
one_of_checks file statement t keys Accepted Accepted left right = refl
one_of_checks file statement t keys Accepted (RejectedSum s) left right = absurd (right.fails (left.0 s right.below))
one_of_checks file statement t keys Accepted (RejectedOpening o) left right = absurd (right.1.fails (left.1 o right.1.below))
one_of_checks file statement t keys (RejectedSum s) Accepted left right = absurd (left.fails (right.0 s left.below))
one_of_checks file statement t keys (RejectedSum s) (RejectedSum r) left right =
    ap RejectedSum (one_first (SectionHolds (session_products file statement t keys)) (section_count statement.program t.commitment.setup.grant.section_length) s r left right)
one_of_checks file statement t keys (RejectedSum s) (RejectedOpening o) left right = absurd (left.fails (right.0 s left.below))
one_of_checks file statement t keys (RejectedOpening o) Accepted left right = absurd (left.1.fails (right.1 o left.1.below))
one_of_checks file statement t keys (RejectedOpening o) (RejectedSum s) left right = absurd (right.fails (left.0 s right.below))
one_of_checks file statement t keys (RejectedOpening o) (RejectedOpening p) left right =
    ap RejectedOpening (one_first (OpeningHolds (session_openings file statement t keys)) (length statement.program.opened) o p left.1 right.1)

-- so the checks of a session have one
pub one_judged : (file : VerifierFile) (statement : Statement) (t : Transcript) (some others : WireKeys) (one other : Verdict) → IsStatement statement
    → AreSessionKeys file statement t.commitment some → AreSessionKeys file statement t.commitment others
    → IsVerdictOf (session_products file statement t some) (session_openings file statement t some) one
    → IsVerdictOf (session_products file statement t others) (session_openings file statement t others) other → one ≡ other
one_judged file statement t some others one other stated left right judged also =
    one_of_checks file statement t some one other judged
    (same_verdict file statement t others some other stated right left also)
