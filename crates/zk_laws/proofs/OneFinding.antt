-- A session has one finding: views that agree give the same ones, and a view gives one.
use Rattle.std.proofs.Common.{◌≡◌, ℕ, inl, inr, List, length, take, slice_index, slice_index_or, sym, ◌∙◌, ap, subst}
use Rattle.zk_model.specs.Polynomial.{IsZero, IsRoot}
use Rattle.zk_model.specs.Mac.{Pair, values_of, pair_at}
use Rattle.zk_model.specs.Program.{Program, IsProgram}
use Rattle.zk_model.specs.Statement.{Statement}
use Rattle.zk_model.specs.Transcript.{Commitment, Transcript, sections_of}
use Rattle.zk_model.specs.Check.{key_polynomial, opening_polynomial}
use Rattle.zk_model.specs.View.{View}
use Rattle.zk_model.specs.Finding.{Finding, found_inputs, found_challenge_root, found_key_root, section_errors, HasNoError, AllWithoutError, IsFirstError, IsAsClaimed, section_polynomial, wire_polynomial, IsSectionRoot, IsChallengeRoot, AreInputs, Gives}
use Rattle.zk_laws.specs.Uniqueness.{Agree, OneFinding}
use Rattle.zk_laws.proofs.FirstFailures.{one_first, not_all, first_of_same}
use Rattle.zk_laws.proofs.Agreed.{same_triples, same_opened, same_masks, same_errors, agree_back}
use Rattle.zk_laws.proofs.Views.{one_view}

-- ---- views that agree give the same findings

-- the same sections have no error
same_right : (program : Program) (commitment : Commitment) (some others : View) → IsProgram program → Agree program some others
    → (s : ℕ) → HasNoError program commitment some s → HasNoError program commitment others s
same_right program commitment some others formed agree s none =
    subst IsZero (same_errors program commitment some others s formed agree) none

all_right : (program : Program) (commitment : Commitment) (some others : View) → IsProgram program → Agree program some others
    → AllWithoutError program commitment some → AllWithoutError program commitment others
all_right program commitment some others formed agree all s below = same_right program commitment some others formed agree s (all s below)

first_error : (program : Program) (commitment : Commitment) (some others : View) (s : ℕ) → IsProgram program → Agree program some others
    → IsFirstError program commitment some s → IsFirstError program commitment others s
first_error program commitment some others s formed agree first =
    first_of_same (HasNoError program commitment some) (HasNoError program commitment others) (sections_of program commitment) s
    (same_right program commitment some others formed agree)
    (same_right program commitment others some formed (agree_back program some others agree)) first

-- the same opened wires are as claimed
same_claimed : (statement : Statement) (some others : View) → IsProgram statement.program → Agree statement.program some others
    → (o : ℕ) → IsAsClaimed statement some o → IsAsClaimed statement others o
same_claimed statement some others formed agree o claimed =
    sym (ap (λ (pairs : List Pair). (pair_at pairs o).x) (same_opened statement.program some others formed agree)) ∙ claimed

-- and the polynomials in the key are the same
same_section_polynomial : (program : Program) (t : Transcript) (some others : View) (s : ℕ) → IsProgram program → Agree program some others
    → section_polynomial program t some s ≡ section_polynomial program t others s
same_section_polynomial program t some others s formed agree = λ i. key_polynomial t.challenge
    (same_triples program some others t.commitment.setup.grant.section_length s formed agree i)
    (pair_at (same_masks program some others agree i) s) (slice_index_or t.sums s (0, 0))

same_wire_polynomial : (statement : Statement) (t : Transcript) (some others : View) (o : ℕ)
    → IsProgram statement.program → Agree statement.program some others
    → wire_polynomial statement t some o ≡ wire_polynomial statement t others o
same_wire_polynomial statement t some others o formed agree =
    ap (λ (pairs : List Pair). opening_polynomial (pair_at pairs o) (slice_index t.openings o) (slice_index statement.claims o))
    (same_opened statement.program some others formed agree)

-- so does each finding
gives_same : (statement : Statement) (t : Transcript) (some others : View) (finding : Finding)
    → IsProgram statement.program → Agree statement.program some others
    → Gives statement t some finding → Gives statement t others finding
gives_same statement t some others (found_inputs inputs) formed agree gives = record {
  right = all_right statement.program t.commitment some others formed agree gives.right;
  claimed = λ o below. same_claimed statement some others formed agree o (gives.claimed o below);
  inputs_are = gives.inputs_are ∙ ap (λ (given : List Pair). take statement.program.inputs (values_of given)) agree.given;
}
gives_same statement t some others (found_challenge_root s polynomial) formed agree gives = record {
  first = first_error statement.program t.commitment some others s formed agree gives.first;
  polynomial_is = gives.polynomial_is ∙ same_errors statement.program t.commitment some others s formed agree;
  met = gives.met;
}
gives_same statement t some others (found_key_root polynomial) formed agree (inl by) = inl (record {
  section = by.section;
  first = first_error statement.program t.commitment some others by.section formed agree by.first;
  unmet = λ root. by.unmet (subst (λ (p : List ℕ). IsRoot p t.challenge)
      (sym (same_errors statement.program t.commitment some others by.section formed agree)) root);
  polynomial_is = by.polynomial_is ∙ same_section_polynomial statement.program t some others by.section formed agree;
})
gives_same statement t some others (found_key_root polynomial) formed agree (inr by) = inr (record {
  right = all_right statement.program t.commitment some others formed agree by.right;
  opened = by.opened;
  first = first_of_same (IsAsClaimed statement some) (IsAsClaimed statement others) (length statement.program.opened) by.opened
      (same_claimed statement some others formed agree)
      (same_claimed statement others some formed (agree_back statement.program some others agree)) by.first;
  polynomial_is = by.polynomial_is ∙ same_wire_polynomial statement t some others by.opened formed agree;
})

-- ---- a view gives one finding

-- a section has an error where none has one
no_first : {A : Type 0} (program : Program) (commitment : Commitment) (view : View) (s : ℕ) → IsFirstError program commitment view s
    → AllWithoutError program commitment view → A
no_first program commitment view s first all = absurd (not_all (HasNoError program commitment view) (sections_of program commitment) s first all)

-- the first section with an error
one_section : (program : Program) (commitment : Commitment) (view : View) (s r : ℕ)
    → IsFirstError program commitment view s → IsFirstError program commitment view r → s ≡ r
one_section program commitment view s r left right =
    one_first (HasNoError program commitment view) (sections_of program commitment) s r left right

-- the errors of that section have a root at the challenge where they have none
root_or_not : {A : Type 0} (program : Program) (t : Transcript) (view : View) (s : ℕ) (polynomial other : List ℕ)
    → IsChallengeRoot program t view s polynomial → IsSectionRoot program t view other → A
root_or_not program t view s polynomial other root by =
    absurd (by.unmet (subst (λ (p : List ℕ). IsRoot p t.challenge)
    (root.polynomial_is ∙ ap (section_errors program t.commitment view) (one_section program t.commitment view s by.section root.first by.first))
    root.met))

-- the polynomials of two roots at the key are one
one_key_root : (statement : Statement) (t : Transcript) (view : View) (p q : List ℕ)
    → Gives statement t view (found_key_root p) → Gives statement t view (found_key_root q) → p ≡ q
one_key_root statement t view p q (inl left) (inl right) =
    left.polynomial_is
    ∙ ap (section_polynomial statement.program t view)
    (one_section statement.program t.commitment view left.section right.section left.first right.first)
    ∙ sym right.polynomial_is
one_key_root statement t view p q (inl left) (inr right) =
    no_first statement.program t.commitment view left.section left.first right.right
one_key_root statement t view p q (inr left) (inl right) =
    no_first statement.program t.commitment view right.section right.first left.right
one_key_root statement t view p q (inr left) (inr right) =
    left.polynomial_is
    ∙ ap (wire_polynomial statement t view)
    (one_first (IsAsClaimed statement view) (length statement.program.opened) left.opened right.opened left.first right.first)
    ∙ sym right.polynomial_is

-- a root at the challenge leaves no root at the key
challenge_or_key : {A : Type 0} (statement : Statement) (t : Transcript) (view : View) (s : ℕ) (p q : List ℕ)
    → IsChallengeRoot statement.program t view s p → Gives statement t view (found_key_root q) → A
challenge_or_key statement t view s p q left (inl right) = root_or_not statement.program t view s p q left right
challenge_or_key statement t view s p q left (inr right) = no_first statement.program t.commitment view s left.first right.right

-- nor does a root at the key leave inputs
key_or_inputs : {A : Type 0} (statement : Statement) (t : Transcript) (view : View) (p inputs : List ℕ)
    → Gives statement t view (found_key_root p) → AreInputs statement t view inputs → A
key_or_inputs statement t view p inputs (inl left) right =
    no_first statement.program t.commitment view left.section left.first right.right
key_or_inputs statement t view p inputs (inr left) right =
    absurd (not_all (IsAsClaimed statement view) (length statement.program.opened) left.opened left.first right.claimed)

gives_one : (statement : Statement) (t : Transcript) (view : View) (some others : Finding)
    → Gives statement t view some → Gives statement t view others → some ≡ others
gives_one statement t view (found_inputs p) (found_inputs q) left right = ap found_inputs (left.inputs_are ∙ sym right.inputs_are)
gives_one statement t view (found_inputs p) (found_challenge_root s q) left right =
    no_first statement.program t.commitment view s right.first left.right
gives_one statement t view (found_inputs p) (found_key_root q) left right = key_or_inputs statement t view q p right left
gives_one statement t view (found_challenge_root s p) (found_inputs q) left right =
    no_first statement.program t.commitment view s left.first right.right
gives_one statement t view (found_challenge_root s p) (found_challenge_root r q) left right =
    let same = one_section statement.program t.commitment view s r left.first right.first in
    let polynomial = left.polynomial_is ∙ ap (section_errors statement.program t.commitment view) same ∙ sym right.polynomial_is in
    λ i. found_challenge_root (same i) (polynomial i)
gives_one statement t view (found_challenge_root s p) (found_key_root q) left right = challenge_or_key statement t view s p q left right
gives_one statement t view (found_key_root p) (found_inputs q) left right = key_or_inputs statement t view p q left right
gives_one statement t view (found_key_root p) (found_challenge_root s q) left right = challenge_or_key statement t view s q p right left
gives_one statement t view (found_key_root p) (found_key_root q) left right = ap found_key_root (one_key_root statement t view p q left right)

pub one_finding : OneFinding
one_finding file statement t some others is stated whole left right =
    gives_one statement t right.view some others
    (gives_same statement t left.view right.view some stated.program
    (one_view file statement t.commitment left.view right.view is stated whole.commitment left.seen right.seen) left.gives)
    right.gives
