-- A hello that differs is not for a statement, and the checks of an exchange have one verdict, whatever keys of wires they are over.
use Rattle.std.proofs.Common.{◌≡◌, ℕ, ◌<◌, List, [], ◌∷◌, drop, length, refl, sym, ◌∙◌, ap, subst, slice_index, arith}
use Rattle.zk_model.specs.Check.{WireKeys, KeyTriple, AreKeysFor, key_triple, section_keys, section_of, section_left, SectionHolds, OpeningHolds}
use Rattle.zk_model.specs.Frames.{sums, openings}
use Rattle.zk_model.specs.Program.{IsProduct, IsSetInAll, Carries, section_count}
use Rattle.zk_model.specs.Statement.{Statement, IsStatement}
use Rattle.zk_model.specs.Transcript.{Hello, IsHelloFor, version_of}
use Rattle.zk_model.specs.View.{IsVerdictOf}
use Rattle.zk_model.specs.declared.Product.{Product}
use Rattle.zk_model.specs.declared.Verdict.{Verdict}
use Rattle.zk_model.specs.declared.Verdict.TheVariants.{Accepted, RejectedSum, RejectedOpening}
use Rattle.circuit_laws.proofs.Unique.{one_on_set_wires}
use Rattle.zk_laws.proofs.Parts.{map_same, in_section}
use Rattle.zk_laws.proofs.FirstFailures.{one_first, first_of_same}
use Rattle.session_core.specs.Cores.{DiffersFirst, digests_of, digests_said}
use Rattle.session_core.specs.Judgements.{verdict_in}
use Rattle.session_core.specs.declared.fault.HelloDiffers.{HelloDiffers}
use Rattle.session_core.specs.declared.fault.HelloDiffers.TheVariants as differs
use Rattle.session_core.specs.declared.judgement.Judgement.{Judgement}
use Rattle.session_claim.specs.Claims.{Exchange, IsDecided}
use Rattle.circuit_session.specs.Statements.{AreWireKeys, IsJudgedBy, exchange_products, exchange_openings, statement_claim}

-- ---- hellos

said_are : (id : List ℕ) (statement : Statement) (said : Hello) → IsHelloFor id statement said → digests_of statement ≡ digests_said said
said_are id statement said is = λ i. record { circuit = sym is.circuit i; outputs = sym is.outputs i; public = sym is.public i }

hello_decided : (id : List ℕ) (statement : Statement) (said : Hello) (difference : HelloDiffers) → DiffersFirst id statement said difference
    → ¬ IsHelloFor id statement said
hello_decided id statement said (differs.Id want got) first is = first.2 (first.0 ∙ sym is.id ∙ sym first.1)
hello_decided id statement said (differs.Version want got) first is = first.3 (first.1 ∙ sym is.version ∙ sym first.2)
hello_decided id statement said (differs.Statement want got) first is = first.4 (first.2 ∙ said_are id statement said is ∙ sym first.3)

module _ (statement : Statement) (stated : IsStatement statement) (key : ℕ) (keys : List ℕ) (exchange : Exchange) where
  -- ---- keys of all wires

  -- they follow from the keys of the correlations
  abbrev Carried : WireKeys → Type 0
  Carried wires = AreWireKeys statement key keys exchange.corrections wires

  same_wire : (some others : WireKeys) → Carried some → Carried others → (wire : ℕ) → IsSetInAll statement.program wire
      → slice_index some.wires wire ≡ slice_index others.wires wire
  same_wire some others left right wire set =
      one_on_set_wires key statement.program statement.public some.given some.wires others.wires wire stated.program left.carried
      (subst (λ (given : List ℕ). Carries key statement.program statement.public given others.wires) (right.given ∙ sym left.given) right.carried)
      set

  same_triple : (some others : WireKeys) → Carried some → Carried others → (product : Product) → IsProduct statement.program product
      → key_triple some product ≡ key_triple others product
  same_triple some others left right product is = λ i. record {
    a = same_wire some others left right product.a is.left i;
    b = same_wire some others left right product.b is.right i;
    c = ap (λ (given : List ℕ). slice_index given product.c) (left.given ∙ sym right.given) i;
  }

  -- so the equations are the same
  module _ (both : List (ℕ × ℕ)) (macs : List ℕ) where
    abbrev HoldsAt : WireKeys → ℕ → Type 0
    HoldsAt wires = SectionHolds (exchange_products statement key keys exchange both wires)

    abbrev OpensAt : WireKeys → ℕ → Type 0
    OpensAt wires = OpeningHolds (exchange_openings statement key macs wires)

    abbrev Says : WireKeys → Verdict → Type 0
    Says wires = IsVerdictOf (exchange_products statement key keys exchange both wires) (exchange_openings statement key macs wires)

    same_section : (some others : WireKeys) → Carried some → Carried others → (s : ℕ) → HoldsAt some s → HoldsAt others s
    same_section some others left right s holds =
        ap (λ (triples : List KeyTriple). section_left key exchange.challenge triples (slice_index (drop statement.program.givens keys) s)) (sym same) ∙ holds
      where
        size : ℕ
        size = exchange.section_length

        same : section_keys statement.program size some s ≡ section_keys statement.program size others s
        same = map_same (key_triple some) (key_triple others) (section_of size s statement.program.products)
            (in_section (λ product. key_triple some product ≡ key_triple others product) size s statement.program.products
            (λ n d below. same_triple some others left right _ (stated.program.products n d below)))

    same_opening : (some others : WireKeys) → Carried some → Carried others → (o : ℕ) → o < length statement.program.opened → OpensAt some o → OpensAt others o
    same_opening some others left right o below holds =
        sym (same_wire some others left right (slice_index statement.program.opened o) (stated.program.opened o 0 below)) ∙ holds

    -- ---- verdicts

    -- a verdict over some keys is one over others
    same_verdict : (some others : WireKeys) (verdict : Verdict) → Carried some → Carried others → Says some verdict → Says others verdict
    same_verdict some others Accepted left right is = (
      λ s below. same_section some others left right s (is.0 s below),
      λ o below. same_opening some others left right o below (is.1 o below),
    )
    same_verdict some others (RejectedSum s) left right is =
        first_of_same (HoldsAt some) (HoldsAt others) (section_count statement.program exchange.section_length) s
        (same_section some others left right) (same_section others some right left) is
    same_verdict some others (RejectedOpening o) left right is = (
      λ s below. same_section some others left right s (is.0 s below),
      record {
        below = is.1.below;
        fails = λ holds. is.1.fails (same_opening others some right left o is.1.below holds);
        before = λ k below. same_opening some others left right k (omega (arith, below, is.1.below)) (is.1.before k below);
      },
    )

    -- the checks over one list of keys have one
    one_of_checks : (wires : WireKeys) (one other : Verdict) → Says wires one → Says wires other → one ≡ other
    one_of_checks wires Accepted Accepted left right = refl
    one_of_checks wires Accepted (RejectedSum s) left right = absurd (right.fails (left.0 s right.below))
    one_of_checks wires Accepted (RejectedOpening o) left right = absurd (right.1.fails (left.1 o right.1.below))
    one_of_checks wires (RejectedSum s) Accepted left right = absurd (left.fails (right.0 s left.below))
    one_of_checks wires (RejectedSum s) (RejectedSum r) left right =
        ap RejectedSum (one_first (HoldsAt wires) (section_count statement.program exchange.section_length) s r left right)
    one_of_checks wires (RejectedSum s) (RejectedOpening o) left right = absurd (left.fails (right.0 s left.below))
    one_of_checks wires (RejectedOpening o) Accepted left right = absurd (left.1.fails (right.1 o left.1.below))
    one_of_checks wires (RejectedOpening o) (RejectedSum s) left right = absurd (right.fails (left.0 s right.below))
    one_of_checks wires (RejectedOpening o) (RejectedOpening p) left right =
        ap RejectedOpening (one_first (OpensAt wires) (length statement.program.opened) o p left.1 right.1)

  -- so an exchange has one
  one_judged : (one other : Judgement) → IsJudgedBy statement key keys exchange one → IsJudgedBy statement key keys exchange other
      → verdict_in one ≡ verdict_in other
  one_judged one other judged also =
      one_of_checks judged.both judged.macs judged.wires (verdict_in one) (verdict_in other) judged.judged.0
      (same_verdict judged.both judged.macs also.wires judged.wires (verdict_in other) also.carried judged.carried
      (subst (λ (q : List (ℕ × ℕ) × List ℕ). Says q.0 q.1 also.wires (verdict_in other)) (λ i. (sums_same i, macs_same i)) also.judged.0))
    where
      answers : sums also.both ∷ openings also.macs ∷ [] ≡ sums judged.both ∷ openings judged.macs ∷ []
      answers = sym also.answers ∙ judged.answers

      sums_same : also.both ≡ judged.both
      sums_same = let e = answers in cc

      macs_same : also.macs ≡ judged.macs
      macs_same = let e = answers in cc

pub statement_is_decided : (statement : Statement) → IsStatement statement → IsDecided (statement_claim statement)
statement_is_decided statement stated = record {
  hellos = λ id said difference. hello_decided id statement said difference;
  verdicts = λ key keys exchange one other judged also. one_judged statement stated key keys exchange one other judged also;
}
