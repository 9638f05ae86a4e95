-- What follows from a ceiling that is found.
use Rattle.std.proofs.Common.{◌≡◌, ◌≤◌, ℕ, List, [], true, Option, Some, IsSomeAnd, refl, ap, sym, ◌∙◌, subst, arith}
use Rattle.std.proofs.lemmas.Bool.Decides.{nat_tests}
use Rattle.zk_model.specs.declared.JournalKind.TheVariants.{Ceilings}
use Rattle.zk_model.specs.declared.limits.TheConstants.{MAX_SLOTS}
use Rattle.lease_journal.specs.Twins.{are_twin_slots, SaysTwin, twin_ceiling_slots}
use Rattle.lease_journal.proofs.Sound.{none_sound}
use Rattle.twin_journal.specs.Laws.{IsNewTwin}
use Rattle.twin_journal.specs.Starts.{AreTidy}
use Rattle.twin_journal.proofs.NewTwins.{blank_twin_is_new}
use Rattle.twin_journal.proofs.TidyFiles.{said_is_tidy}
use Rattle.twin_journal.proofs.TwinLaws.{recovers_one, says_recovers, starts_again}
use Rattle.lease_store.specs.Ceilings.{FindsCeiling, HasCeilings, SaysCeiling, last_ceiling}
use Rattle.lease_store.specs.Laws.{BlankSaysZero, CeilingsStartAgain, MayStart}
use Rattle.lease_store.proofs.Places.{begins_once}
use Rattle.lease_store.proofs.Starting.{says_ceiling}

-- a store may start on bytes in which ceilings stand
pub may_start : (id : List ℕ) (total place generation : ℕ) (bodies : List (ℕ × ℕ)) (bytes : List ℕ) → HasCeilings id total place generation bodies bytes
    → MayStart id total bytes
may_start id total place generation bodies bytes has = record {
  tidy = said_is_tidy Ceilings id total place (twin_ceiling_slots total) generation bodies bytes has.holds has.says;
  refused = λ fault cause. starts_again Ceilings id total place (twin_ceiling_slots total) generation bodies bytes fault has.holds has.says has.sound has.may_have cause;
}

-- bytes say one list of ceilings
pub one_list : (id : List ℕ) (total a g b h : ℕ) (some other : List (ℕ × ℕ)) (bytes : List ℕ) → HasCeilings id total a g some bytes → HasCeilings id total b h other bytes
    → some ≡ other
one_list id total a g b h some other bytes one two =
    let same : b ≡ a = begins_once bytes b a two.holds.begins one.holds.begins in
    recovers_one a (twin_ceiling_slots total) bytes some other
    (says_recovers a (twin_ceiling_slots total) g some bytes one.says).recovered
    (says_recovers a (twin_ceiling_slots total) h other bytes (subst (λ n. SaysTwin n (twin_ceiling_slots total) h other bytes) same two.says)).recovered

-- and one ceiling
pub one_ceiling : (id : List ℕ) (total some other : ℕ) (bytes : List ℕ) → SaysCeiling id total some bytes → SaysCeiling id total other bytes → some ≡ other
one_ceiling id total some other bytes one two =
    sym one.last ∙ ap last_ceiling (one_list id total one.begin one.generation two.begin two.generation one.bodies two.bodies bytes one.says two.says) ∙ two.last

-- bytes in which a ceiling is found say their last one
pub says_found : (id : List ℕ) (total ceiling : ℕ) (first bytes : List ℕ) (found : FindsCeiling id total ceiling first bytes)
    → SaysCeiling id total (last_ceiling found.bodies) bytes
says_found id total ceiling first bytes found =
    says_ceiling id total found.begin found.generation (last_ceiling found.bodies) found.bodies bytes found.says refl

pub ceilings_again : CeilingsStartAgain
ceilings_again = record {
  said = λ id total ceiling bytes says. may_start id total says.begin says.generation says.bodies bytes says.says;
  found = λ id total ceiling first bytes found. may_start id total found.begin found.generation found.bodies bytes found.says;
  one = one_ceiling;
}

pub few_slots : (total slots : ℕ) → slots ≡ twin_ceiling_slots total → 1 ≤ total → are_twin_slots Ceilings total slots ≡ true
few_slots total slots is some =
    let least : 1 ≤ slots = omega (arith, is, some) in
    let most : slots ≤ MAX_SLOTS = omega (arith, is) in
    grind (arith, nat_tests)

pub blank_zero : BlankSaysZero
blank_zero id total whole some = zero_of (blank_twin_is_new Ceilings id total (twin_ceiling_slots total) whole (few_slots total (twin_ceiling_slots total) refl some))
  where
    zero_of : {bytes : List ℕ} → IsNewTwin Ceilings id total (twin_ceiling_slots total) bytes → SaysCeiling id total 0 bytes
    zero_of {bytes} new = record {
      begin = 0;
      generation = 1;
      bodies = [];
      says = record {
        holds = new.holds;
        says = new.says;
        sound = none_sound Ceilings total;
        may_have = record { least = omega arith; most = omega arith };
      };
      last = refl;
      seconds = λ place below. absurd (omega (arith, below));
    }

-- what a next start asks of the bytes
pub tidy_again : {id : List ℕ} {total ceiling : ℕ} {first bytes : List ℕ} → FindsCeiling id total ceiling first bytes → AreTidy bytes
tidy_again {id} {total} {ceiling} {first} {bytes} found = (may_start id total found.begin found.generation found.bodies bytes found.says).tidy

pub read_tidy : (id : List ℕ) (total ceiling : ℕ) (first : List ℕ) (content : Option (List ℕ)) → IsSomeAnd content (FindsCeiling id total ceiling first)
    → (bytes : List ℕ) → content ≡ Some bytes → AreTidy bytes
read_tidy id total ceiling first content found bytes is = tidy_again (subst (λ o. IsSomeAnd o (FindsCeiling id total ceiling first)) is found)
