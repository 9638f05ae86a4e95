-- Values and the bytes that spell them.
use Rattle.std.proofs.Common.{◌≡◌, ℕ, zero, suc, ◌+◌, ◌*◌, ◌^◌, ◌<◌, ◌≤◌, List, [], ◌∷◌, ◌++◌, flat_map, length, take, drop, get_or, refl, sym, ◌∙◌, ap, arith, length-append, append-nil, subst, take-append-drop, length-drop}
use Rattle.std.specs.Prelude.{All, Bool, true, false}
use Rattle.std.specs.Int.{w32, w64, from_le_bytes, to_le_bytes}
use Rattle.std.specs.List.{AllByRecursion}
use Rattle.std.proofs.lemmas.List.{nil_from_length, length-take-le}
use Rattle.std.proofs.lemmas.List.Concat.{flat_map_single}
use Rattle.std.proofs.lemmas.List.Elements.{All-append, All-cons, All-nil, All-get_or, All-take, All-drop, recursion_from_All}
use Rattle.zk_model.proofs.Octets.{word_octets}
use Rattle.zk_model.specs.Bits.{from_bit}
use Rattle.zk_model.specs.Bytes.{AreBytes, AreBothBytes, element_bytes}
use Rattle.zk_model.specs.Field.{IsElement}
use Rattle.zk_model.specs.Transcript.{IsTreeAsk, IsTreeReply}
use Rattle.proof_frames.specs.declared.row.Field.{Field}
use Rattle.proof_frames.specs.declared.row.Field.TheVariants as field
use Rattle.proof_frames.specs.Frames.{ask_bytes, message_bytes, reply_bytes}
use Rattle.proof_frames.specs.Rows.{FitsFields, FitsField, AreWithin, repeat, levels, tree_fields}
use Rattle.proof_frames.proofs.Fields.{fits_append, fits_split, one_item}
use Rattle.proof_frames.proofs.Octets.{half_octets, back_32, back_64, below_32, below_64}

-- the value that bytes say
pub record Said {A : Type 0} (f : A → List ℕ) (P : A → Type 0) (bytes : List ℕ) : Type 0 where
  pub value : A
  pub is : P value
  pub spelled : bytes ≡ f value

-- the bytes of a value that is allowed fit, and bytes that fit say one
pub record Spells {A : Type 0} (f : A → List ℕ) (P : A → Type 0) (Q : List ℕ → Type 0) : Type 0 where
  pub fits : (value : A) → P value → Q (f value)
  pub back : (bytes : List ℕ) → Q bytes → Said f P bytes

-- other values with the same bytes
abbrev pub as_spells : {A B : Type 0} {f : A → List ℕ} {P : A → Type 0} {Q : List ℕ → Type 0} (g : B → List ℕ) (R : B → Type 0) → Spells f P Q
    → ((b : B) → R b → (a : A) × P a × (f a ≡ g b)) → ((a : A) → P a → (b : B) × R b × (f a ≡ g b)) → Spells g R Q
as_spells {Q} g R code to from = record {
  fits = λ b is. subst Q (to b is).2 (code.fits (to b is).0 (to b is).1);
  back = λ bytes fits.
      let said = code.back bytes fits in
      record { value = (from said.value said.is).0; is = (from said.value said.is).1; spelled = said.spelled ∙ (from said.value said.is).2 };
}

-- ---- so many bytes, each in a range

-- bytes of any value
pub octets_fit : (n : ℕ) (bytes : List ℕ) → AreBytes n bytes → AreWithin n 0 255 bytes
octets_fit n bytes are = record {
  counted = are.0;
  ranged = λ k default less. let small : get_or bytes k default < 256 = are.1 k default less in (omega arith, omega arith);
}

pub fit_octets : (n : ℕ) (bytes : List ℕ) → AreWithin n 0 255 bytes → AreBytes n bytes
fit_octets n bytes fits = (fits.counted, λ k default less. let range = fits.ranged k default less in let high : get_or bytes k default ≤ 255 = range.1 in omega arith)

abbrev pub bytes_spell : (n : ℕ) → Spells (λ bytes. bytes) (AreBytes n) (AreWithin n 0 255)
bytes_spell n = record { fits = octets_fit n; back = λ bytes fits. record { value = bytes; is = fit_octets n bytes fits; spelled = refl } }

-- numbers of 64 bits, and of 32
abbrev pub word_spells : Spells (to_le_bytes w64) (λ n. n < 2 ^ 64) (AreWithin 8 0 255)
word_spells = record {
  fits = λ n small. octets_fit 8 (to_le_bytes w64 n) (refl, word_octets n);
  back = λ bytes fits.
      let are = fit_octets 8 bytes fits in
      record { value = from_le_bytes w64 bytes; is = below_64 bytes are.1; spelled = sym (back_64 bytes are.0 are.1) };
}

abbrev pub half_spells : Spells (to_le_bytes w32) (λ n. n < 2 ^ 32) (AreWithin 4 0 255)
half_spells = record {
  fits = λ n small. octets_fit 4 (to_le_bytes w32 n) (refl, half_octets n);
  back = λ bytes fits.
      let are = fit_octets 4 bytes fits in
      record { value = from_le_bytes w32 bytes; is = below_32 bytes are.1; spelled = sym (back_32 bytes are.0 are.1) };
}

-- a byte
abbrev pub byte_spells : (least most : ℕ) → Spells (λ byte. byte ∷ []) (λ byte. (least ≤ byte) × (byte ≤ most)) (AreWithin 1 least most)
byte_spells least most = record {
  fits = λ byte range. record { counted = refl; ranged = All-cons (λ b. (least ≤ b) × (b ≤ most)) byte [] range (All-nil (λ b. (least ≤ b) × (b ≤ most))) };
  back = λ bytes fits. record {
    value = get_or bytes 0 0;
    is = fits.ranged 0 0 (let counted = fits.counted in omega arith);
    spelled = one_item bytes fits.counted;
  };
}

-- one value after another
pub within_front : (m n least most : ℕ) (bytes : List ℕ) → AreWithin (m + n) least most bytes → AreWithin m least most (take m bytes)
within_front m n least most bytes fits = record {
  counted = let counted = fits.counted in length-take-le m bytes (omega arith);
  ranged = All-take (λ b. (least ≤ b) × (b ≤ most)) m bytes fits.ranged;
}

pub within_rest : (m n least most : ℕ) (bytes : List ℕ) → AreWithin (m + n) least most bytes → AreWithin n least most (drop m bytes)
within_rest m n least most bytes fits = record {
  counted = let counted = fits.counted in omega (arith, length-drop m bytes);
  ranged = All-drop (λ b. (least ≤ b) × (b ≤ most)) m bytes fits.ranged;
}

abbrev pub both_spell : {A B : Type 0} {f : A → List ℕ} {P : A → Type 0} {g : B → List ℕ} {R : B → Type 0} (m n least most : ℕ) → Spells f P (AreWithin m least most)
    → Spells g R (AreWithin n least most) → Spells (λ (both : A × B). f both.0 ++ g both.1) (λ both. P both.0 × R both.1) (AreWithin (m + n) least most)
both_spell {f} {g} m n least most one two = record {
  fits = λ both are.
      let front = one.fits both.0 are.0 in
      let rest = two.fits both.1 are.1 in
      record {
        counted = length-append (f both.0) (g both.1) ∙ (λ i. front.counted i + rest.counted i);
        ranged = All-append (λ b. (least ≤ b) × (b ≤ most)) (f both.0) (g both.1) front.ranged rest.ranged;
      };
  back = λ bytes fits.
      let front = one.back (take m bytes) (within_front m n least most bytes fits) in
      let rest = two.back (drop m bytes) (within_rest m n least most bytes fits) in
      record { value = (front.value, rest.value); is = (front.is, rest.is); spelled = sym (take-append-drop m bytes) ∙ (λ i. front.spelled i ++ rest.spelled i) };
}

pub halves_fit : (bytes : List ℕ) → AreWithin 32 0 255 bytes → AreBytes 16 (take 16 bytes) × AreBytes 16 (drop 16 bytes)
halves_fit bytes fits = (fit_octets 16 (take 16 bytes) (within_front 16 16 0 255 bytes fits), fit_octets 16 (drop 16 bytes) (within_rest 16 16 0 255 bytes fits))

-- so many of them
pub levels_spell : {A : Type 0} {f : A → List ℕ} {P : A → Type 0} (size least most : ℕ) → Spells f P (AreWithin size least most) → (count : ℕ)
    → Spells (flat_map f) (λ items. (length items ≡ count) × All P items) (AreWithin (size * count) least most)
levels_spell {A} {f} {P} size least most code zero = record {
  fits = λ items are. rw (nil_from_length items are.0) (record { counted = omega arith; ranged = All-nil (λ b. (least ≤ b) × (b ≤ most)) });
  back = λ bytes fits. record { value = []; is = (refl, All-nil P); spelled = nil_from_length bytes (let counted = fits.counted in omega arith) };
}
levels_spell {A} {f} {P} size least most code (suc count) =
    subst (λ (n : ℕ). Spells (flat_map f) (λ items. (length items ≡ suc count) × All P items) (AreWithin n least most)) (let e : size + size * count ≡ size * suc count = omega arith in e)
    (as_spells (flat_map f) (λ items. (length items ≡ suc count) × All P items) (both_spell size (size * count) least most code (levels_spell size least most code count))
    first (λ both is. (both.0 ∷ both.1, (ap suc is.1.0, All-cons P both.0 both.1 is.0 is.1.1), refl)))
  where
    first : (items : List A) → (length items ≡ suc count) × All P items
        → (both : A × List A) × (P both.0 × ((length both.1 ≡ count) × All P both.1)) × (f both.0 ++ flat_map f both.1 ≡ flat_map f items)
    first [] are = absurd (omega (arith, are.0))
    first (item ∷ items) are = ((item, items), (All-get_or P (item ∷ items) 0 item (omega arith) are.1, (omega (arith, are.0), All-drop P 1 (item ∷ items) are.1)), refl)

-- ---- fields

-- an element
pub element_spells : Spells element_bytes IsElement (FitsField field.Element)
element_spells = record {
  fits = λ element is. record { element = element; is = is; spelled = refl };
  back = λ bytes fits. record { value = fits.element; is = fits.is; spelled = fits.spelled };
}

-- a number of 32 bits in a range
abbrev pub number_spells : (least most : ℕ) → Spells (to_le_bytes w32) (λ n. (least ≤ n) × (n ≤ most)) (FitsField (field.Number least most))
number_spells least most = record {
  fits = λ n range. record { number = n; at_least = range.0; at_most = range.1; spelled = refl };
  back = λ bytes fits. record { value = fits.number; is = (fits.at_least, fits.at_most); spelled = fits.spelled };
}

-- one field alone, of a payload of elements or of any
abbrev pub single_spells : {A : Type 0} {f : A → List ℕ} {P : A → Type 0} (one : Field) → Spells f P (FitsField one) → Spells f P (FitsFields (one ∷ []))
single_spells {f} one code = record {
  fits = λ value is. (f value, [], sym (append-nil (f value)), code.fits value is, refl);
  back = λ bytes fits. code.back bytes (subst (FitsField one) (sym (fits.2 ∙ ap (λ l. fits.0 ++ l) fits.4 ∙ append-nil fits.0)) fits.3);
}

-- one field, and others after it
abbrev pub front_spells : {A B : Type 0} {f : A → List ℕ} {P : A → Type 0} {g : B → List ℕ} {R : B → Type 0} (one : Field) (fields : List Field) → Spells f P (FitsField one)
    → Spells g R (FitsFields fields) → Spells (λ (both : A × B). f both.0 ++ g both.1) (λ both. P both.0 × R both.1) (FitsFields (one ∷ fields))
front_spells {f} {g} one fields first others = record {
  fits = λ both are. (f both.0, g both.1, refl, first.fits both.0 are.0, others.fits both.1 are.1);
  back = λ bytes fits.
      let front = first.back fits.0 fits.3 in
      let rest = others.back fits.1 fits.4 in
      record { value = (front.value, rest.value); is = (front.is, rest.is); spelled = fits.2 ∙ (λ i. front.spelled i ++ rest.spelled i) };
}

-- one field, and another after it
abbrev pub two_spell : {A B : Type 0} {f : A → List ℕ} {P : A → Type 0} {g : B → List ℕ} {R : B → Type 0} (one two : Field) → Spells f P (FitsField one) → Spells g R (FitsField two)
    → Spells (λ (both : A × B). f both.0 ++ g both.1) (λ both. P both.0 × R both.1) (FitsFields (one ∷ two ∷ []))
two_spell one two first second = front_spells one (two ∷ []) first (single_spells two second)

-- fields so many times
pub many_spell : {A : Type 0} {f : A → List ℕ} {P : A → Type 0} (fields : List Field) → Spells f P (FitsFields fields) → (count : ℕ)
    → Spells (flat_map f) (λ items. (length items ≡ count) × All P items) (FitsFields (repeat count fields))
many_spell {A} {f} {P} fields code count = record {
  fits = λ items are. subst (λ (n : ℕ). FitsFields (repeat n fields) (flat_map f items)) are.0 (fits items (recursion_from_All P items are.1));
  back = back count;
}
  where
    fits : (items : List A) → AllByRecursion P items → FitsFields (repeat (length items) fields) (flat_map f items)
    fits [] each = refl
    fits (item ∷ items) each = fits_append fields (repeat (length items) fields) (f item) (flat_map f items) (code.fits item each.0) (fits items each.1)

    back : (count : ℕ) (bytes : List ℕ) → FitsFields (repeat count fields) bytes → Said (flat_map f) (λ items. (length items ≡ count) × All P items) bytes
    back zero bytes fits = record { value = []; is = (refl, All-nil P); spelled = fits }
    back (suc count) bytes fits =
        let apart = fits_split fields (repeat count fields) bytes fits in
        let one = code.back apart.0 apart.3 in
        let others = back count apart.1 apart.4 in
        record {
          value = one.value ∷ others.value;
          is = (ap suc others.is.0, All-cons P one.value others.value one.is others.is.1);
          spelled = apart.2 ∙ (λ i. one.spelled i ++ others.spelled i);
        }

-- ---- trees

-- the levels of a tree, and its element
tree_spells : {A : Type 0} {f : A → List ℕ} {P : A → Type 0} (height size most : ℕ) → Spells f P (AreWithin size 0 most)
    → Spells (λ (tree : List A × ℕ). flat_map f tree.0 ++ element_bytes tree.1) (λ tree. ((length tree.0 ≡ height) × All P tree.0) × IsElement tree.1)
    (FitsFields (tree_fields height size most))
tree_spells height size most code = two_spell (levels height size most) field.Element (levels_spell size 0 most code height) element_spells

-- a bit
bit_spells : Spells (λ bit. from_bit bit ∷ []) (λ bit. Unit {0}) (AreWithin 1 0 1)
bit_spells = as_spells (λ bit. from_bit bit ∷ []) (λ bit. Unit {0}) (byte_spells 0 1) (λ bit is. (from_bit bit, small bit, refl)) bit_of
  where
    small : (bit : Bool) → (0 ≤ from_bit bit) × (from_bit bit ≤ 1)
    small false = (omega arith, omega arith)
    small true = (omega arith, omega arith)

    bit_of : (byte : ℕ) → (0 ≤ byte) × (byte ≤ 1) → (bit : Bool) × Unit {0} × (byte ∷ [] ≡ from_bit bit ∷ [])
    bit_of zero range = (false, tt, refl)
    bit_of (suc zero) range = (true, tt, refl)
    bit_of (suc (suc byte)) range = absurd (omega (arith, range.1))

pub ask_spells : (height : ℕ) → Spells ask_bytes (IsTreeAsk height) (FitsFields (tree_fields height 1 1))
ask_spells height = as_spells ask_bytes (IsTreeAsk height) (tree_spells height 1 1 bit_spells)
    (λ ask is. (
      (ask.flips, ask.base_correction),
      ((is.flips, λ k default less. tt), is.base_correction),
      ap (λ l. l ++ element_bytes ask.base_correction) (flat_map_single from_bit ask.flips),
    ))
    (λ tree is. (
      record { flips = tree.0; base_correction = tree.1 },
      record { flips = is.0.0; base_correction = is.1 },
      ap (λ l. l ++ element_bytes tree.1) (flat_map_single from_bit tree.0),
    ))

-- both messages of a level
message_spells : Spells message_bytes (AreBothBytes 16) (AreWithin 32 0 255)
message_spells = as_spells message_bytes (AreBothBytes 16) (both_spell 16 16 0 255 (bytes_spell 16) (bytes_spell 16))
    (λ both are. ((both.left, both.right), are, refl)) (λ both are. (record { left = both.0; right = both.1 }, are, refl))

pub reply_spells : (height : ℕ) → Spells reply_bytes (IsTreeReply height) (FitsFields (tree_fields height 32 255))
reply_spells height = as_spells reply_bytes (IsTreeReply height) (tree_spells height 32 255 message_spells)
    (λ reply is. ((reply.messages, reply.leaf_offset), ((is.count, is.messages), is.leaf_offset), refl))
    (λ tree is. (record { messages = tree.0; leaf_offset = tree.1 }, record { count = is.0.0; messages = is.0.1; leaf_offset = is.1 }, refl))
