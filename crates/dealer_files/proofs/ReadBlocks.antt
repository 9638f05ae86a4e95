-- Blocks that are read one after another, and where the first fault stands.
use Rattle.std.proofs.Common.{◌≡◌, ℕ, zero, suc, ◌+◌, ◌*◌, ◌^◌, ◌<◌, ◌≤◌, List, [], ◌∷◌, ◌++◌, length, flat_map, take, drop, refl, ap, sym, ◌∙◌, arith, subst, inl, inr, length-append, length-drop, mul-le-mul_left, mul-le-mul_right}
use Rattle.std.specs.Prelude.{◌⊎◌, All, slice_index}
use Rattle.std.proofs.lemmas.List.{take_all, drop-drop}
use Rattle.std.proofs.lemmas.List.Elements.{All-from_recursion, All-append}
use Rattle.std.proofs.Math.Seq.{drop-append_seam, take-add}
use Rattle.zk_model.specs.Field.{prime}
use Rattle.zk_model.specs.Files.{dealt_per_unit}
use Rattle.dealer_files.specs.FileFaults.{word64_at, params_at, block_length, block_start, file_length, elements_per_unit, IsUnitElement, IsTransferBit, IsBadPlace, IsFirstBadPlace, IsInRange}
use Rattle.zk_model.specs.declared.Params.{Params}
use Rattle.zk_model.specs.declared.Side.{Side}
use Rattle.zk_model.specs.declared.Side.TheVariants.{Prover, Verifier}
use Rattle.zk_model.specs.declared.limits.TheConstants.{MAX_DEALT_UNITS}
use Rattle.dealer_files.specs.Flat.{piece, transfers_per_unit}
use Rattle.dealer_files.specs.Faults.{HasBody, IsFirstFileFault}
use Rattle.dealer_files.specs.Reading.{Spelled, a_pair, a_transfer, AreAppended, AreElementsFrom, AreBits, IsElementFault, IsElementFaultOr, IsBitFaultOr, IsUnitInRange, AreBlocks}
use Rattle.dealer_files.specs.declared.fault.FileFault.{FileFault}
use Rattle.dealer_files.specs.declared.fault.FileFault.TheVariants.{BadMagic, BadKind, BadParam, Length, BadElement, ZeroKey, BadDigest, NoMemory}
use Rattle.dealer_files.proofs.ReadItems.{le_or_more}

-- ---- places

-- a unit's block begins at a place that a word can name
pub start_fits : (size unit total : ℕ) → size ≤ 2 ^ 21 → unit < total → total ≤ MAX_DEALT_UNITS → size * unit ≤ 2 ^ 61
start_fits size unit total small below most =
    let first : size * unit ≤ 2 ^ 21 * unit = mul-le-mul_right unit small in
    let few : unit ≤ 2 ^ 40 = omega (arith, below, most) in
    let second : 2 ^ 21 * unit ≤ 2 ^ 21 * 2 ^ 40 = mul-le-mul_left (2 ^ 21) few in
    omega (arith, first, second)

-- ---- pieces

-- more after does not change what stands before
take_before : {A : Type 0} (n : ℕ) (l more : List A) → n ≤ length l → take n (l ++ more) ≡ take n l
take_before zero l more few = refl
take_before (suc n) [] more few = absurd (omega arith)
take_before (suc n) (x ∷ l) more few = ap (λ r. x ∷ r) (take_before n l more (omega arith))

drop_before : {A : Type 0} (n : ℕ) (l more : List A) → n ≤ length l → drop n (l ++ more) ≡ drop n l ++ more
drop_before zero l more few = refl
drop_before (suc n) [] more few = absurd (omega arith)
drop_before (suc n) (x ∷ l) more few = drop_before n l more (omega arith)

piece_before : {A : Type 0} (size n unit : ℕ) (items more : List A) → length items ≡ size * n → unit < n
    → piece size (items ++ more) unit ≡ piece size items unit
piece_before size n unit items more sized below =
    let end : size * (unit + 1) ≤ size * n = mul-le-mul_left size (omega arith) in
    let split : size * (unit + 1) ≡ size * unit + size = omega arith in
    ap (take size) (drop_before (size * unit) items more (omega (arith, sized)))
    ∙ take_before size (drop (size * unit) items) more (omega (arith, sized, length-drop (size * unit) items))

piece_last : {A : Type 0} (size n : ℕ) (items more : List A) → length items ≡ size * n → length more ≡ size → piece size (items ++ more) n ≡ more
piece_last size n items more sized whole =
    ap (take size) (ap (λ k. drop k (items ++ more)) (sym sized) ∙ drop-append_seam items more)
    ∙ take_all size more (omega (arith, whole))

-- ---- blocks

pub no_blocks : {A B : Type 0} (form : Spelled A) (other : Spelled B) (side : Side) (params : Params) (bytes : List ℕ)
    → AreBlocks form other side params bytes 0 [] []
no_blocks form other side params bytes = record {
  dealt = omega arith;
  transfers = omega arith;
  spelled = λ unit below. absurd (omega arith);
  hold = All-from_recursion form.Holds [] tt;
  hold_other = All-from_recursion other.Holds [] tt;
  in_range = λ unit below. absurd (omega arith);
}

-- where a block and its second part stand, and how many items each part has
pub record StandsAt {A B : Type 0} (form : Spelled A) (other : Spelled B) (side : Side) (params : Params) (n start behind dealt each : ℕ) : Type 0 where
  pub start_is : start ≡ block_start side params n
  pub behind_is : behind ≡ start + form.size * dealt
  pub dealt_is : dealt ≡ dealt_per_unit params
  pub each_is : each ≡ transfers_per_unit params
  pub whole : form.size * dealt + other.size * each ≡ block_length side params

pub one_block : {A B : Type 0} (form : Spelled A) (other : Spelled B) (side : Side) (params : Params) (bytes : List ℕ) (n start behind dealt each : ℕ)
    (items now : List A) (others then : List B)
    → StandsAt form other side params n start behind dealt each
    → AreAppended form items now dealt bytes start → AreAppended other others then each bytes behind
    → IsUnitInRange side params bytes n
    → AreBlocks form other side params bytes n items others → AreBlocks form other side params bytes (n + 1) now then
one_block form other side params bytes n start behind dealt each items now others then at read reads good far = record {
  dealt = ap length read.whole ∙ length-append items read.items ∙ omega (arith, far.dealt, read.counted, at.dealt_is);
  transfers = ap length reads.whole ∙ length-append others reads.items ∙ omega (arith, far.transfers, reads.counted, at.each_is);
  spelled = λ unit below. by_cases unit (le_or_more unit n (omega (arith, below)));
  hold = subst (All form.Holds) (sym read.whole) (All-append form.Holds items read.items far.hold read.hold);
  hold_other = subst (All other.Holds) (sym reads.whole) (All-append other.Holds others reads.items far.hold_other reads.hold);
  in_range = λ unit below. ranged unit (le_or_more unit n (omega (arith, below)));
}
  where
    Spells : ℕ → Type 0
    Spells unit = flat_map form.spell (piece (dealt_per_unit params) now unit) ++ flat_map other.spell (piece (transfers_per_unit params) then unit)
        ≡ take (block_length side params) (drop (block_start side params unit) bytes)

    by_cases : (unit : ℕ) → (unit < n) ⊎ (unit ≡ n) → Spells unit
    by_cases unit (inl less) =
        (λ i. flat_map form.spell ((ap (λ l. piece (dealt_per_unit params) l unit) read.whole ∙ piece_before (dealt_per_unit params) n unit items read.items far.dealt less) i)
        ++ flat_map other.spell ((ap (λ l. piece (transfers_per_unit params) l unit) reads.whole ∙ piece_before (transfers_per_unit params) n unit others reads.items far.transfers less) i))
        ∙ far.spelled unit less
    by_cases unit (inr same) = subst Spells (sym same) last
      where
        last : Spells n
        last =
            (λ i. flat_map form.spell ((ap (λ l. piece (dealt_per_unit params) l n) read.whole ∙ piece_last (dealt_per_unit params) n items read.items far.dealt (read.counted ∙ at.dealt_is)) i)
            ++ flat_map other.spell ((ap (λ l. piece (transfers_per_unit params) l n) reads.whole ∙ piece_last (transfers_per_unit params) n others reads.items far.transfers (reads.counted ∙ at.each_is)) i))
            ∙ (λ i. read.spelled i ++ (reads.spelled ∙ ap (λ k. take (other.size * each) (drop k bytes)) at.behind_is ∙ ap (take (other.size * each)) (sym (drop-drop (form.size * dealt) start bytes))) i)
            ∙ sym (take-add (form.size * dealt) (other.size * each) (drop start bytes))
            ∙ (λ i. take (at.whole i) (drop (at.start_is i) bytes))

    ranged : (unit : ℕ) → (unit < n) ⊎ (unit ≡ n) → IsUnitInRange side params bytes unit
    ranged unit (inl less) = far.in_range unit less
    ranged unit (inr same) = subst (IsUnitInRange side params bytes) (sym same) good

-- ---- where places stand

-- a unit's block ends before a later one begins
later_block : (side : Side) (params : Params) (unit later : ℕ) → unit < later
    → block_start side params unit + block_length side params ≤ block_start side params later
later_block side params unit later less =
    let more : block_length side params * (unit + 1) ≤ block_length side params * later = mul-le-mul_left (block_length side params) (omega arith) in
    let split : block_length side params * (unit + 1) ≡ block_length side params * unit + block_length side params = omega arith in
    omega arith

-- of two numbers one is less, or they are one
one_or_other : (a b : ℕ) → (a < b) ⊎ ((a ≡ b) ⊎ (b < a))
one_or_other zero zero = inr (inl refl)
one_or_other zero (suc b) = inl (omega arith)
one_or_other (suc a) zero = inr (inr (omega arith))
one_or_other (suc a) (suc b) = up (one_or_other a b) where
  up : (a < b) ⊎ ((a ≡ b) ⊎ (b < a)) → (suc a < suc b) ⊎ ((suc a ≡ suc b) ⊎ (suc b < suc a))
  up (inl less) = inl (omega arith)
  up (inr (inl same)) = inr (inl (omega arith))
  up (inr (inr more)) = inr (inr (omega arith))

-- no element before a place is the prime or more: those of the units before it, and those of its own unit that stand before it
no_element_before : (side : Side) (bytes : List ℕ) (unit place : ℕ)
    → ((u : ℕ) → u < unit → AreElementsFrom bytes (block_start side (params_at bytes) u) (elements_per_unit side (params_at bytes)))
    → place < block_start side (params_at bytes) unit + block_length side (params_at bytes)
    → ((i : ℕ) → i < elements_per_unit side (params_at bytes) → block_start side (params_at bytes) unit + 8 * i < place
    → word64_at bytes (block_start side (params_at bytes) unit + 8 * i) < prime)
    → (other : ℕ) → other < place → IsUnitElement side (params_at bytes) other → prime ≤ word64_at bytes other → ⊥
no_element_before side bytes unit place all within before other less stand bad = cases (one_or_other stand.unit unit)
  where
    params : Params
    params = params_at bytes

    at : prime ≤ word64_at bytes (block_start side params stand.unit + 8 * stand.number)
    at = subst (λ (n : ℕ). prime ≤ word64_at bytes n) stand.stands bad

    cases : (stand.unit < unit) ⊎ ((stand.unit ≡ unit) ⊎ (unit < stand.unit)) → ⊥
    cases (inl earlier) = let good = all stand.unit earlier stand.number stand.number_within in omega (arith, good, at)
    cases (inr (inl same)) =
        let start : block_start side params stand.unit ≡ block_start side params unit = ap (block_start side params) same in
        let good = before stand.number stand.number_within (omega (arith, less, stand.stands, start)) in
        let here = subst (λ (n : ℕ). prime ≤ word64_at bytes (n + 8 * stand.number)) start at in
        omega (arith, good, here)
    cases (inr (inr later)) = omega (arith, less, stand.stands, within, later_block side params unit stand.unit later)

-- and no bit is above 1
no_bit_before : (bytes : List ℕ) (unit place : ℕ)
    → ((u : ℕ) → u < unit → IsUnitInRange Prover (params_at bytes) bytes u)
    → place < block_start Prover (params_at bytes) unit + block_length Prover (params_at bytes)
    → ((i : ℕ) → i < transfers_per_unit (params_at bytes)
    → block_start Prover (params_at bytes) unit + 16 * dealt_per_unit (params_at bytes) + 17 * i < place
    → slice_index bytes (block_start Prover (params_at bytes) unit + 16 * dealt_per_unit (params_at bytes) + 17 * i) ≤ 1)
    → (other : ℕ) → other < place → IsTransferBit (params_at bytes) other → 1 < slice_index bytes other → ⊥
no_bit_before bytes unit place all within before other less stand bad = cases (one_or_other stand.unit unit)
  where
    params : Params
    params = params_at bytes

    at : 1 < slice_index bytes (block_start Prover params stand.unit + 16 * dealt_per_unit params + 17 * stand.number)
    at = subst (λ (n : ℕ). 1 < slice_index bytes n) stand.stands bad

    cases : (stand.unit < unit) ⊎ ((stand.unit ≡ unit) ⊎ (unit < stand.unit)) → ⊥
    cases (inl earlier) = let good = (all stand.unit earlier).1 stand.number stand.number_within in omega (arith, good, at)
    cases (inr (inl same)) =
        let start : block_start Prover params stand.unit ≡ block_start Prover params unit = ap (block_start Prover params) same in
        let good = before stand.number stand.number_within (omega (arith, less, stand.stands, start)) in
        let here = subst (λ (n : ℕ). 1 < slice_index bytes (n + 16 * dealt_per_unit params + 17 * stand.number)) start at in
        omega (arith, good, here)
    cases (inr (inr later)) = omega (arith, less, stand.stands, within, later_block Prover params unit stand.unit later)

-- ---- the prover's file

-- all units are in range: there is no bad place
pub prover_in_range : (bytes : List ℕ) → ((unit : ℕ) → unit < (params_at bytes).total → IsUnitInRange Prover (params_at bytes) bytes unit)
    → IsInRange Prover bytes
prover_in_range bytes all place (inl bad) =
    let good = (all bad.0.unit bad.0.unit_within).0 bad.0.number bad.0.number_within in
    let at = subst (λ (n : ℕ). prime ≤ word64_at bytes n) bad.0.stands bad.1 in
    omega (arith, good, at)
prover_in_range bytes all place (inr bad) =
    let good = (all bad.0.unit bad.0.unit_within).1 bad.0.number bad.0.number_within in
    let at = subst (λ (n : ℕ). 1 < slice_index bytes n) bad.0.stands bad.1 in
    omega (arith, good, at)

-- a place is after all places of the units before, and of its own unit only those that follow are in doubt
prover_first_element : (bytes : List ℕ) (unit place number : ℕ)
    → ((u : ℕ) → u < unit → IsUnitInRange Prover (params_at bytes) bytes u)
    → number < elements_per_unit Prover (params_at bytes) → place ≡ block_start Prover (params_at bytes) unit + 8 * number
    → AreElementsFrom bytes (block_start Prover (params_at bytes) unit) number
    → (other : ℕ) → other < place → ¬ IsBadPlace Prover bytes other
prover_first_element bytes unit place number all within stands before other less (inl bad) =
    no_element_before Prover bytes unit place (λ u below. (all u below).0) (omega (arith, stands, within))
    (λ i inside early. before i (omega (arith, early, stands))) other less bad.0 bad.1
prover_first_element bytes unit place number all within stands before other less (inr bad) =
    no_bit_before bytes unit place all (omega (arith, stands, within)) (λ i inside early. absurd (omega (arith, early, stands, within))) other less bad.0 bad.1

-- the same of a bit, after the elements of its unit
prover_first_bit : (bytes : List ℕ) (unit place number : ℕ)
    → ((u : ℕ) → u < unit → IsUnitInRange Prover (params_at bytes) bytes u)
    → number < transfers_per_unit (params_at bytes)
    → place ≡ block_start Prover (params_at bytes) unit + 16 * dealt_per_unit (params_at bytes) + 17 * number
    → AreElementsFrom bytes (block_start Prover (params_at bytes) unit) (elements_per_unit Prover (params_at bytes))
    → AreBits bytes (block_start Prover (params_at bytes) unit + 16 * dealt_per_unit (params_at bytes)) number
    → (other : ℕ) → other < place → ¬ IsBadPlace Prover bytes other
prover_first_bit bytes unit place number all within stands elements before other less (inl bad) =
    no_element_before Prover bytes unit place (λ u below. (all u below).0) (omega (arith, stands, within))
    (λ i inside early. elements i inside) other less bad.0 bad.1
prover_first_bit bytes unit place number all within stands elements before other less (inr bad) =
    no_bit_before bytes unit place all (omega (arith, stands, within)) (λ i inside early. before i (omega (arith, early, stands))) other less bad.0 bad.1

-- what may come of reading elements is the first fault, where the first bad one stands at the first bad place
element_fault_first : (side : Side) (bytes : List ℕ) (start count : ℕ) (reason : FileFault) → HasBody side bytes
    → ((place : ℕ) → IsElementFault bytes start count place → IsFirstBadPlace side bytes place)
    → IsElementFaultOr bytes start count reason → IsFirstFileFault side bytes reason
element_fault_first side bytes start count (BadElement place) body first is = (body, first place is)
element_fault_first side bytes start count NoMemory body first is = tt
element_fault_first side bytes start count BadMagic body first is = absurd is
element_fault_first side bytes start count BadKind body first is = absurd is
element_fault_first side bytes start count BadParam body first is = absurd is
element_fault_first side bytes start count (Length need got) body first is = absurd is
element_fault_first side bytes start count ZeroKey body first is = absurd is
element_fault_first side bytes start count BadDigest body first is = absurd is

-- the first fault of a file whose elements are read up to one, where that one stands at a bad place and none is before it
element_first : (side : Side) (bytes : List ℕ) (params : Params) (unit start count : ℕ) (reason : FileFault) → params ≡ params_at bytes → HasBody side bytes
    → ((place : ℕ) → IsUnitElement side (params_at bytes) place → prime ≤ word64_at bytes place → IsBadPlace side bytes place)
    → ((place number : ℕ) → ((u : ℕ) → u < unit → IsUnitInRange side (params_at bytes) bytes u)
    → number < elements_per_unit side (params_at bytes) → place ≡ block_start side (params_at bytes) unit + 8 * number
    → AreElementsFrom bytes (block_start side (params_at bytes) unit) number
    → (other : ℕ) → other < place → ¬ IsBadPlace side bytes other)
    → unit < params.total → start ≡ block_start side params unit → count ≡ elements_per_unit side params
    → ((u : ℕ) → u < unit → IsUnitInRange side params bytes u)
    → IsElementFaultOr bytes start count reason → IsFirstFileFault side bytes reason
element_first side bytes params unit start count reason same body bad first = subst (λ (p : Params). unit < p.total → start ≡ block_start side p unit
    → count ≡ elements_per_unit side p → ((u : ℕ) → u < unit → IsUnitInRange side p bytes u)
    → IsElementFaultOr bytes start count reason → IsFirstFileFault side bytes reason) (sym same) at
  where
    at : unit < (params_at bytes).total → start ≡ block_start side (params_at bytes) unit
        → count ≡ elements_per_unit side (params_at bytes) → ((u : ℕ) → u < unit → IsUnitInRange side (params_at bytes) bytes u)
        → IsElementFaultOr bytes start count reason → IsFirstFileFault side bytes reason
    at below s n all = element_fault_first side bytes start count reason body (λ place is.
        let stands = is.stands ∙ ap (λ k. k + 8 * is.number) s in record {
          bad = bad place (record { unit = unit; number = is.number; unit_within = below; number_within = omega (arith, is.within, n); stands = stands }) is.bad;
          first = first place is.number all (omega (arith, is.within, n)) stands (subst (λ (k : ℕ). AreElementsFrom bytes k is.number) s is.before);
        })

-- of a prover's file
pub prover_element_first : (bytes : List ℕ) (params : Params) (unit start count : ℕ) (reason : FileFault) → params ≡ params_at bytes
    → HasBody Prover bytes → unit < params.total → start ≡ block_start Prover params unit → count ≡ elements_per_unit Prover params
    → ((u : ℕ) → u < unit → IsUnitInRange Prover params bytes u)
    → IsElementFaultOr bytes start count reason → IsFirstFileFault Prover bytes reason
prover_element_first bytes params unit start count reason same body =
    element_first Prover bytes params unit start count reason same body (λ place at bad. inl (at, bad)) (prover_first_element bytes unit)

-- and of one whose bits are read up to one
pub prover_bit_first : (bytes : List ℕ) (params : Params) (unit start behind count dealt : ℕ) (reason : FileFault) → params ≡ params_at bytes
    → HasBody Prover bytes → unit < params.total → start ≡ block_start Prover params unit → behind ≡ start + 16 * dealt
    → dealt ≡ dealt_per_unit params → count ≡ transfers_per_unit params
    → ((u : ℕ) → u < unit → IsUnitInRange Prover params bytes u) → AreElementsFrom bytes start (2 * dealt)
    → IsBitFaultOr bytes behind count reason → IsFirstFileFault Prover bytes reason
prover_bit_first bytes params unit start behind count dealt reason same body = subst (λ (p : Params). unit < p.total → start ≡ block_start Prover p unit
    → behind ≡ start + 16 * dealt → dealt ≡ dealt_per_unit p → count ≡ transfers_per_unit p
    → ((u : ℕ) → u < unit → IsUnitInRange Prover p bytes u) → AreElementsFrom bytes start (2 * dealt)
    → IsBitFaultOr bytes behind count reason → IsFirstFileFault Prover bytes reason) (sym same) (at reason)
  where
    at : (r : FileFault) → unit < (params_at bytes).total → start ≡ block_start Prover (params_at bytes) unit
        → behind ≡ start + 16 * dealt → dealt ≡ dealt_per_unit (params_at bytes) → count ≡ transfers_per_unit (params_at bytes)
        → ((u : ℕ) → u < unit → IsUnitInRange Prover (params_at bytes) bytes u) → AreElementsFrom bytes start (2 * dealt)
        → IsBitFaultOr bytes behind count r → IsFirstFileFault Prover bytes r
    at (BadElement place) below s b d n all elements is =
        let from : behind ≡ block_start Prover (params_at bytes) unit + 16 * dealt_per_unit (params_at bytes) = b ∙ (λ i. s i + 16 * d i) in
        let stands = is.stands ∙ ap (λ k. k + 17 * is.number) from in (
          body,
          record {
            bad = inr (record { unit = unit; number = is.number; unit_within = below; number_within = omega (arith, is.within, n); stands = stands }, is.bad);
            first = prover_first_bit bytes unit place is.number all (omega (arith, is.within, n)) stands
                (subst (λ (k : ℕ). AreElementsFrom bytes k (elements_per_unit Prover (params_at bytes))) s (subst (λ (k : ℕ). AreElementsFrom bytes start (2 * k)) d elements))
                (subst (λ (k : ℕ). AreBits bytes k is.number) from is.before);
          },
        )
    at NoMemory below s b d n all elements is = tt
    at BadMagic below s b d n all elements is = absurd is
    at BadKind below s b d n all elements is = absurd is
    at BadParam below s b d n all elements is = absurd is
    at (Length need got) below s b d n all elements is = absurd is
    at ZeroKey below s b d n all elements is = absurd is
    at BadDigest below s b d n all elements is = absurd is

-- a block stands within the bytes
pub block_within : (side : Side) (bytes : List ℕ) (params : Params) (unit : ℕ) → params ≡ params_at bytes → HasBody side bytes → unit < params.total
    → block_start side params unit + block_length side params ≤ length bytes
block_within side bytes params unit same body below =
    omega (arith, later_block side params unit params.total below, body.length, ap (file_length side) same)

-- both parts of a block stand within the bytes
pub parts_within : {A B : Type 0} (form : Spelled A) (other : Spelled B) (side : Side) (bytes : List ℕ) (params : Params) (unit start behind dealt each : ℕ) → params ≡ params_at bytes
    → HasBody side bytes → unit < params.total → StandsAt form other side params unit start behind dealt each
    → (start + form.size * dealt ≤ length bytes) × (behind + other.size * each ≤ length bytes)
parts_within form other side bytes params unit start behind dealt each same body below at =
    let within = block_within side bytes params unit same body below in
    (omega (arith, within, at.start_is, at.whole), omega (arith, within, at.start_is, at.behind_is, at.whole))

-- a prover's unit whose elements and bits are read
pub prover_unit_read : (params : Params) (bytes : List ℕ) (unit start dealt each : ℕ) → StandsAt a_pair a_transfer Prover params unit start (start + 16 * dealt) dealt each
    → AreElementsFrom bytes start (2 * dealt) → AreBits bytes (start + 16 * dealt) each → IsUnitInRange Prover params bytes unit
prover_unit_read params bytes unit start dealt each at elements bits = (
  subst (λ (n : ℕ). AreElementsFrom bytes n (2 * dealt_per_unit params)) at.start_is (subst (λ (n : ℕ). AreElementsFrom bytes start (2 * n)) at.dealt_is elements),
  subst (λ (n : ℕ). AreBits bytes n (transfers_per_unit params)) (λ i. at.start_is i + 16 * at.dealt_is i)
      (subst (λ (n : ℕ). AreBits bytes (start + 16 * dealt) n) at.each_is bits),
)

-- ---- the verifier's file

-- the key and all units are in range: there is no bad place
pub verifier_in_range : (bytes : List ℕ) → word64_at bytes 128 < prime
    → ((unit : ℕ) → unit < (params_at bytes).total → IsUnitInRange Verifier (params_at bytes) bytes unit) → IsInRange Verifier bytes
verifier_in_range bytes key all place (inl (inl stands, bad)) =
    let at = subst (λ (n : ℕ). prime ≤ word64_at bytes n) stands bad in
    omega (arith, key, at)
verifier_in_range bytes key all place (inl (inr here, bad)) =
    let good = all here.unit here.unit_within here.number here.number_within in
    let at = subst (λ (n : ℕ). prime ≤ word64_at bytes n) here.stands bad in
    omega (arith, good, at)
verifier_in_range bytes key all place (inr bad) = bad.0

-- nothing stands before the key
pub verifier_key_first : (bytes : List ℕ) → prime ≤ word64_at bytes 128 → IsFirstBadPlace Verifier bytes 128
verifier_key_first bytes bad = record {
  bad = inl (inl refl, bad);
  first = λ other less is. earlier other less is;
}
  where
    earlier : (other : ℕ) → other < 128 → IsBadPlace Verifier bytes other → ⊥
    earlier other less (inl (inl stands, bad)) = omega (arith, less, stands)
    earlier other less (inl (inr here, bad)) = omega (arith, less, here.stands)
    earlier other less (inr bad) = bad.0

-- a place is after the key, all places of the units before, and those of its own unit that come before it
verifier_first_element : (bytes : List ℕ) (unit place number : ℕ) → word64_at bytes 128 < prime
    → ((u : ℕ) → u < unit → IsUnitInRange Verifier (params_at bytes) bytes u)
    → number < elements_per_unit Verifier (params_at bytes) → place ≡ block_start Verifier (params_at bytes) unit + 8 * number
    → AreElementsFrom bytes (block_start Verifier (params_at bytes) unit) number
    → (other : ℕ) → other < place → ¬ IsBadPlace Verifier bytes other
verifier_first_element bytes unit place number key all within stands before other less (inl (inl first, bad)) =
    let at = subst (λ (n : ℕ). prime ≤ word64_at bytes n) first bad in
    omega (arith, key, at)
verifier_first_element bytes unit place number key all within stands before other less (inl (inr here, bad)) =
    no_element_before Verifier bytes unit place all (omega (arith, stands, within)) (λ i inside early. before i (omega (arith, early, stands))) other less here bad
verifier_first_element bytes unit place number key all within stands before other less (inr bad) = bad.0

-- the first fault of a file whose keys are read up to one
pub verifier_element_first : (bytes : List ℕ) (params : Params) (unit start count : ℕ) (reason : FileFault) → params ≡ params_at bytes
    → HasBody Verifier bytes → word64_at bytes 128 < prime → unit < params.total → start ≡ block_start Verifier params unit
    → count ≡ elements_per_unit Verifier params → ((u : ℕ) → u < unit → IsUnitInRange Verifier params bytes u)
    → IsElementFaultOr bytes start count reason → IsFirstFileFault Verifier bytes reason
verifier_element_first bytes params unit start count reason same body key =
    element_first Verifier bytes params unit start count reason same body (λ place at bad. inl (inr at, bad))
    (λ place number. verifier_first_element bytes unit place number key)

-- a verifier's unit whose keys are read
pub verifier_unit_read : (params : Params) (bytes : List ℕ) (unit start dealt : ℕ) → start ≡ block_start Verifier params unit
    → dealt ≡ dealt_per_unit params → AreElementsFrom bytes start dealt → IsUnitInRange Verifier params bytes unit
verifier_unit_read params bytes unit start dealt s d elements =
    subst (λ (n : ℕ). AreElementsFrom bytes n (dealt_per_unit params)) s (subst (λ (n : ℕ). AreElementsFrom bytes start n) d elements)
