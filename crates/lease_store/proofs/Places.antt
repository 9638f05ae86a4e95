-- Where the journal of ceilings begins.
use Rattle.std.proofs.Common.{◌≡◌, ℕ, List, ap, sym, ◌∙◌, subst}
use Rattle.zk_model.specs.declared.JournalKind.TheVariants.{Ceilings}
use Rattle.lease_journal.specs.Twins.{HoldsTwin, twin_begin, twin_slots_at}
use Rattle.lease_store.specs.Ceilings.{HasCeilingHeader}

-- it begins at one place
pub begins_once : (bytes : List ℕ) (some other : ℕ) → twin_begin Ceilings bytes ≡ some → twin_begin Ceilings bytes ≡ other → some ≡ other
begins_once bytes some other one two = sym one ∙ two

-- it stands where it was opened
pub holds_there : (id : List ℕ) (total begin slots : ℕ) (bytes : List ℕ) → twin_begin Ceilings bytes ≡ begin → twin_slots_at begin bytes ≡ slots
    → HasCeilingHeader id total bytes → HoldsTwin Ceilings id total begin slots bytes
holds_there id total begin slots bytes begins says has =
    let place : has.begin ≡ begin = begins_once bytes has.begin begin has.holds.begins begins in
    let count : has.slots ≡ slots = sym has.holds.stands.says ∙ ap (λ n. twin_slots_at n bytes) place ∙ says in
    subst (λ n. HoldsTwin Ceilings id total begin n bytes) count (subst (λ n. HoldsTwin Ceilings id total n has.slots bytes) place has.holds)
