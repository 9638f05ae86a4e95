-- The frames that a place allows, as bytes that its row allows, and back.
use Rattle.std.proofs.Common.{◌≡◌, ℕ, ◌+◌, ◌-◌, ◌*◌, inl, inr, List, [], ◌∷◌, ◌++◌, flat_map, length, drop, get_or, refl, sym, ◌∙◌, ap, arith, append_assoc, append-nil, length-append, subst}
use Rattle.std.specs.Prelude.{Bool, true, false, Option, Some, None, unwrap_or, IfSome, if◌then◌else◌, nat_eq}
use Rattle.std.specs.Int.{w32, w64, to_le_bytes}
use Rattle.std.proofs.lemmas.List.{nil_from_length}
use Rattle.std.proofs.lemmas.Nat.{from_le_bytes-to_le_bytes_4, from_le_bytes-to_le_bytes_8}
use Rattle.std.proofs.lemmas.List.Elements.{All-nil, All-from_recursion, recursion_from_All}
use Rattle.frame_laws.proofs.Hellos.{hello_payload}
use Rattle.zk_model.specs.Field.{IsElement}
use Rattle.zk_model.specs.Bytes.{AreBytes, element_bytes}
use Rattle.zk_model.specs.Transcript.{Hello, Grant, IsHello, frame_bytes, kind_number}
use Rattle.zk_model.specs.Frames as model
use Rattle.zk_model.specs.Frames.{Frame, Allows, IsWhole, FitsGrant, FitsVerdict, FitsPolyVerdict, FitsRefusal, AreAsks, AreReplies, AreElements, AreSums, frame_spelling}
use Rattle.zk_model.specs.Messages.{FitsWant, FitsBlock, FitsOut}
use Rattle.zk_model.specs.declared.limits.TheConstants.{MAX_NODES, MAX_UNITS}
use Rattle.zk_model.specs.declared.messages.Block.{Block}
use Rattle.zk_model.specs.declared.messages.Out.{Out}
use Rattle.zk_model.specs.declared.messages.Want.{Want}
use Rattle.zk_model.specs.declared.Expect.{Expect}
use Rattle.zk_model.specs.declared.Expect.TheVariants as expect
use Rattle.proof_frames.specs.declared.row.Field.{Field}
use Rattle.proof_frames.specs.declared.row.Field.TheVariants as field
use Rattle.proof_frames.specs.declared.row.Row.{Row}
use Rattle.proof_frames.specs.Frames.{ask_bytes, reply_bytes, flattened, sums_payload, digest_in, hello_in, grant_or_refusal_in, verdict_in, want_in, block_or_out_in}
use Rattle.proof_frames.specs.Rows.{FitsFields, FitsField, AreWithin, any, between, one_field, want_payload, repeat, row_of, told, header, payload_fields, tree_fields}
use Rattle.proof_frames.proofs.EveryRow.{header_tells, told_early, told_stays}
use Rattle.proof_frames.proofs.Fields.{fits_length, payload_sized, one_item}
use Rattle.proof_frames.proofs.Octets.{IsByte}
use Rattle.proof_frames.proofs.Spells.{Spells, as_spells, bytes_spell, byte_spells, word_spells, half_spells, both_spell, octets_fit, fit_octets, element_spells, number_spells, single_spells, front_spells, two_spell, many_spell, ask_spells, reply_spells}
use Rattle.proof_frames.proofs.Sums.{flattened_bytes, length-flattened, flattened_elements, paired, flattened_paired, paired_elements}

-- the bytes of a frame of a row
pub record IsWord (row : Row) (word : List ℕ) : Type 0 where
  pub payload : List ℕ
  pub fits : FitsFields (payload_fields row.payload) payload
  pub spelled : word ≡ header row ++ payload

-- the bytes of a frame at a place
abbrev pub IsWordAt : Expect → List ℕ → Type 0
IsWordAt place word = IsWord (row_of place (told place word)) word

-- a kind, the length of a payload, and the payload
headed : (row : Row) (payload : List ℕ) → FitsFields (payload_fields row.payload) payload → frame_bytes row.kind payload ≡ header row ++ payload
headed row payload fits =
    ap (λ n. (kind_number row.kind ∷ to_le_bytes w32 n) ++ payload) (fits_length (payload_fields row.payload) payload fits ∙ payload_sized row.payload)

-- a header tells its row
row_told : (place : Expect) (byte : ℕ) (payload : List ℕ) → row_of place (told place (header (row_of place byte) ++ payload)) ≡ row_of place byte
row_told place byte payload =
    ap (row_of place) (told_stays place (header (row_of place byte)) payload (omega (arith, told_early place))) ∙ header_tells place byte

-- ---- payloads of one field

abbrev alone_spells : {A : Type 0} {f : A → List ℕ} {P : A → Type 0} (one : Field) → Spells f P (FitsField one) → Spells f P (FitsFields (payload_fields (one_field one)))
alone_spells {f} one code = record {
  fits = λ value is. (f value, [], sym (append-nil (f value)), code.fits value is, ([], [], refl, octets_fit 0 [] (refl, All-nil IsByte), refl));
  back = λ bytes fits.
      let behind = fits.4 in
      let counted = behind.3.counted in
      let none : fits.1 ≡ [] = nil_from_length fits.1 (omega (arith, ap length behind.2, ap length behind.4, length-append behind.0 behind.1)) in
      code.back bytes (subst (FitsField one) (sym (fits.2 ∙ ap (λ l. fits.0 ++ l) none ∙ append-nil fits.0)) fits.3);
}

-- a digest of public bits, of which so many bytes are there
abbrev IsDigest : ℕ → Option (List ℕ) → Type 0
IsDigest n public = IfSome public (AreBytes 32) × (length (unwrap_or public []) ≡ n)

digest_fits : (n : ℕ) (public : Option (List ℕ)) → IsDigest n public → AreWithin n 0 255 (unwrap_or public [])
digest_fits n None is = octets_fit n [] (is.1, All-nil IsByte)
digest_fits n (Some digest) is = octets_fit n digest (is.1, is.0.1)

abbrev DigestSpells : ℕ → Type 0
DigestSpells n = Spells (λ public. unwrap_or public []) (IsDigest n) (AreWithin n 0 255)

abbrev no_digest : DigestSpells 0
no_digest = record {
  fits = digest_fits 0;
  back = λ bytes fits.
      let none = nil_from_length bytes fits.counted in
      record { value = digest_in bytes; is = rw none (tt, refl); spelled = rw none refl };
}

abbrev a_digest : DigestSpells 32
a_digest = record {
  fits = digest_fits 32;
  back = λ bytes fits.
      let is : digest_in bytes ≡ Some bytes = ap (λ n. if nat_eq n 32 then Some bytes else None) fits.counted in
      record { value = digest_in bytes; is = subst (IsDigest 32) (sym is) (fit_octets 32 bytes fits, fits.counted); spelled = ap (λ public. unwrap_or public []) (sym is) };
}

-- a greeting, whose digest has so many bytes
abbrev hello_spells : (n : ℕ) → DigestSpells n → Spells hello_payload (λ said. IsHello said × IsDigest n said.public) (AreWithin (32 + (32 + (32 + (1 + n)))) 0 255)
hello_spells n digest =
    as_spells hello_payload (λ said. IsHello said × IsDigest n said.public)
    (both_spell 32 (32 + (32 + (1 + n))) 0 255 (bytes_spell 32) (both_spell 32 (32 + (1 + n)) 0 255 (bytes_spell 32)
    (both_spell 32 (1 + n) 0 255 (bytes_spell 32) (both_spell 1 n 0 255 (byte_spells 0 255) digest))))
    (λ said is. (
      (said.id, (said.circuit, (said.outputs, (said.version, said.public)))),
      (is.0.id, (is.0.circuit, (is.0.outputs, ((omega arith, let small = is.0.version in omega arith), is.1)))),
      grouped said,
    ))
    (λ parts is. (
      record { id = parts.0; circuit = parts.1.0; outputs = parts.1.1.0; version = parts.1.1.1.0; public = parts.1.1.1.1 },
      (record { id = is.0; circuit = is.1.0; outputs = is.1.1.0; version = let most = is.1.1.1.0.1 in omega arith; public = is.1.1.1.1.0 }, is.1.1.1.1),
      grouped (record { id = parts.0; circuit = parts.1.0; outputs = parts.1.1.0; version = parts.1.1.1.0; public = parts.1.1.1.1 }),
    ))
  where
    grouped : (said : Hello) → said.id ++ (said.circuit ++ (said.outputs ++ said.version ∷ unwrap_or said.public [])) ≡ hello_payload said
    grouped said =
        let behind : List ℕ = said.version ∷ unwrap_or said.public [] in
        sym (append_assoc said.id said.circuit (said.outputs ++ behind)) ∙ sym (append_assoc (said.id ++ said.circuit) said.outputs behind)

-- a grant
abbrev grant_payload : Grant → List ℕ
grant_payload given = to_le_bytes w64 given.start ++ to_le_bytes w32 given.count ++ to_le_bytes w32 given.section_length

abbrev grant_spells : Spells grant_payload FitsGrant (AreWithin 16 0 255)
grant_spells = as_spells grant_payload FitsGrant (both_spell 8 8 0 255 word_spells (both_spell 4 4 0 255 half_spells half_spells))
    (λ given is. (
      (given.start, (given.count, given.section_length)),
      (is.start, (is.count, is.section_length)),
      sym (append_assoc (to_le_bytes w64 given.start) (to_le_bytes w32 given.count) (to_le_bytes w32 given.section_length)),
    ))
    (λ parts is. (
      record { start = parts.0; count = parts.1.0; section_length = parts.1.1 },
      record { start = is.0; count = is.1.0; section_length = is.1.1 },
      sym (append_assoc (to_le_bytes w64 parts.0) (to_le_bytes w32 parts.1.0) (to_le_bytes w32 parts.1.1)),
    ))

-- what nodes and a broker send
abbrev want_bytes : Want → List ℕ
want_bytes want = to_le_bytes w32 want.node ++ to_le_bytes w64 want.number ++ to_le_bytes w32 want.count

abbrev want_spells : Spells want_bytes FitsWant (FitsFields (payload_fields want_payload))
want_spells = as_spells want_bytes FitsWant
    (front_spells (field.Number 0 (MAX_NODES - 1)) (any 8 ∷ field.Number 1 MAX_UNITS ∷ []) (number_spells 0 (MAX_NODES - 1))
    (two_spell (any 8) (field.Number 1 MAX_UNITS) word_spells (number_spells 1 MAX_UNITS)))
    (λ want is. ((want.node, (want.number, want.count)), ((omega arith, let few = is.node in omega arith), (is.number, (is.least, is.most))), refl))
    (λ parts is. (
      record { node = parts.0; number = parts.1.0; count = parts.1.1 },
      record { node = let few = is.0.1 in omega arith; number = is.1.0; least = is.1.1.0; most = is.1.1.1 },
      refl,
    ))

abbrev block_bytes : Block → List ℕ
block_bytes block = to_le_bytes w32 block.node ++ to_le_bytes w64 block.number ++ to_le_bytes w64 block.start ++ to_le_bytes w32 block.count

abbrev block_spells : Spells block_bytes FitsBlock (AreWithin 24 0 255)
block_spells = as_spells block_bytes FitsBlock
    (both_spell 4 20 0 255 half_spells (both_spell 8 12 0 255 word_spells (both_spell 8 4 0 255 word_spells half_spells)))
    (λ block is. ((block.node, (block.number, (block.start, block.count))), (is.node, (is.number, (is.start, is.count))), refl))
    (λ parts is. (
      record { node = parts.0; number = parts.1.0; start = parts.1.1.0; count = parts.1.1.1 },
      record { node = is.0; number = is.1.0; start = is.1.1.0; count = is.1.1.1 },
      refl,
    ))

abbrev out_bytes : Out → List ℕ
out_bytes out = to_le_bytes w32 out.node ++ to_le_bytes w64 out.number ++ to_le_bytes w64 out.at

abbrev out_spells : Spells out_bytes FitsOut (AreWithin 20 0 255)
out_spells = as_spells out_bytes FitsOut (both_spell 4 16 0 255 half_spells (both_spell 8 8 0 255 word_spells word_spells))
    (λ out is. ((out.node, (out.number, out.at)), (is.node, (is.number, is.at)), refl))
    (λ parts is. (record { node = parts.0; number = parts.1.0; at = parts.1.1 }, record { node = is.0; number = is.1.0; at = is.1.1 }, refl))

abbrev refusal_spells : Spells (λ code. code ∷ []) FitsRefusal (AreWithin 1 1 4)
refusal_spells = as_spells (λ code. code ∷ []) FitsRefusal (byte_spells 1 4)
    (λ code is. (code, (is.least, is.most), refl)) (λ code is. (code, record { least = is.0; most = is.1 }, refl))

abbrev verdict_spells : Spells (λ (said : ℕ × ℕ). said.0 ∷ to_le_bytes w32 said.1) (λ said. FitsVerdict said.0 said.1) (FitsFields (between 0 2 ∷ any 4 ∷ []))
verdict_spells =
    as_spells (λ (said : ℕ × ℕ). said.0 ∷ to_le_bytes w32 said.1) (λ said. FitsVerdict said.0 said.1) (two_spell (between 0 2) (any 4) (byte_spells 0 2) half_spells)
    (λ said is. (said, ((omega arith, is.said), is.numbered), refl)) (λ said is. (said, record { said = is.0.1; numbered = is.1 }, refl))

decision_spells : Spells (λ (said : ℕ × ℕ). said.0 ∷ to_le_bytes w32 said.1) (λ said. FitsPolyVerdict said.0 said.1) (FitsField field.Decision)
decision_spells = record {
  fits = λ said is. record { code = said.0; number = said.1; fits = is; spelled = refl };
  back = λ bytes fits. record { value = (fits.code, fits.number); is = fits.fits; spelled = fits.spelled };
}

-- ---- payloads of lists

elements_spell : (count : ℕ) → Spells (flat_map element_bytes) (AreElements count) (FitsFields (repeat count (field.Element ∷ [])))
elements_spell count =
    as_spells (flat_map element_bytes) (AreElements count) (many_spell (field.Element ∷ []) (single_spells field.Element element_spells) count)
    (λ elements are. (elements, (are.counted, are.ranged), refl)) (λ elements are. (elements, record { counted = are.0; ranged = are.1 }, refl))

challenge_spells : Spells element_bytes IsElement (FitsFields (repeat 1 (field.Element ∷ [])))
challenge_spells = single_spells field.Element element_spells

asks_spell : (height trees : ℕ) → Spells (flat_map ask_bytes) (AreAsks height trees) (FitsFields (repeat trees (tree_fields height 1 1)))
asks_spell height trees =
    as_spells (flat_map ask_bytes) (AreAsks height trees) (many_spell (tree_fields height 1 1) (ask_spells height) trees)
    (λ said are. (said, (are.counted, are.each), refl)) (λ said are. (said, record { counted = are.0; each = are.1 }, refl))

replies_spell : (height trees : ℕ) → Spells (flat_map reply_bytes) (AreReplies height trees) (FitsFields (repeat trees (tree_fields height 32 255)))
replies_spell height trees =
    as_spells (flat_map reply_bytes) (AreReplies height trees) (many_spell (tree_fields height 32 255) (reply_spells height) trees)
    (λ said are. (said, (are.counted, are.each), refl)) (λ said are. (said, record { counted = are.0; each = are.1 }, refl))

-- pairs of elements as elements
pub are_sums : (sections : ℕ) (both : List (ℕ × ℕ)) → AreElements (2 * sections) (flattened both) → AreSums sections both
are_sums sections both are = record {
  counted = let counted = are.counted in omega (arith, length-flattened both);
  ranged = All-from_recursion (λ q. IsElement q.0 × IsElement q.1) both (paired_elements both (recursion_from_All IsElement (flattened both) are.ranged));
}

sums_spell : (sections : ℕ) → Spells sums_payload (AreSums sections) (FitsFields (repeat (2 * sections) (field.Element ∷ [])))
sums_spell sections = as_spells sums_payload (AreSums sections) (elements_spell (2 * sections))
    (λ both are. (
      flattened both,
      record {
        counted = length-flattened both ∙ ap (λ n. 2 * n) are.counted;
        ranged = All-from_recursion IsElement (flattened both) (flattened_elements both (recursion_from_All (λ q. IsElement q.0 × IsElement q.1) both are.ranged));
      },
      flattened_bytes both,
    ))
    (λ elements are.
    let flat : flattened (paired elements) ≡ elements = flattened_paired sections elements are.counted in (
      paired elements,
      are_sums sections (paired elements) (subst (AreElements (2 * sections)) (sym flat) are),
      ap (flat_map element_bytes) (sym flat) ∙ flattened_bytes (paired elements),
    ))

-- ---- the frames of each row

-- the payload of a frame of a row, and the frame that a payload says
pub record Means (row : Row) (Of : Frame → Type 0) : Type 0 where
  pub payload : (frame : Frame) → Of frame → (bytes : List ℕ) × FitsFields (payload_fields row.payload) bytes × (frame_spelling frame ≡ frame_bytes row.kind bytes)
  pub frame : (bytes : List ℕ) → FitsFields (payload_fields row.payload) bytes → (frame : Frame) × Of frame × (frame_spelling frame ≡ frame_bytes row.kind bytes)

abbrev Frames : {A : Type 0} → (A → Frame) → (A → Type 0) → Frame → Type 0
Frames {A} make P frame = (value : A) × (frame ≡ make value) × P value

abbrev means : {A : Type 0} {f : A → List ℕ} {P : A → Type 0} (row : Row) (make : A → Frame) → Spells f P (FitsFields (payload_fields row.payload))
    → ((value : A) → frame_spelling (make value) ≡ frame_bytes row.kind (f value)) → Means row (Frames make P)
means {f} row make code spells = record {
  payload = λ frame said. (f said.0, code.fits said.0 said.2, ap frame_spelling said.1 ∙ spells said.0);
  frame = λ bytes fits.
      let said = code.back bytes fits in
      (make said.value, (said.value, refl, said.is), spells said.value ∙ ap (frame_bytes row.kind) (sym said.spelled));
}

-- greetings without a digest and with one, grants and refusals
abbrev short_hellos : Means (row_of expect.Hello 0) (Frames model.hello (λ said. IsHello said × IsDigest 0 said.public))
short_hellos = means (row_of expect.Hello 0) model.hello (alone_spells (any 97) (hello_spells 0 no_digest)) (λ said. refl)

abbrev long_hellos : Means (row_of expect.Hello 129) (Frames model.hello (λ said. IsHello said × IsDigest 32 said.public))
long_hellos = means (row_of expect.Hello 129) model.hello (alone_spells (any 129) (hello_spells 32 a_digest)) (λ said. refl)

abbrev grants : Means (row_of expect.Grant 0) (Frames model.grant FitsGrant)
grants = means (row_of expect.Grant 0) model.grant (alone_spells (any 16) grant_spells) (λ given. refl)

abbrev refusals : Means (row_of expect.Grant 10) (Frames model.refuse FitsRefusal)
refusals = means (row_of expect.Grant 10) model.refuse (alone_spells (between 1 4) refusal_spells) (λ code. refl)

-- blocks, and that no units are left
abbrev blocks : Means (row_of expect.Block 0) (Frames model.block FitsBlock)
blocks = means (row_of expect.Block 0) model.block (alone_spells (any 24) block_spells) (λ given. refl)

abbrev outs : Means (row_of expect.Block 13) (Frames model.out FitsOut)
outs = means (row_of expect.Block 13) model.out (alone_spells (any 20) out_spells) (λ said. refl)

-- the frames of a place that has one row
abbrev wants : Means (row_of expect.Want 0) (Frames model.want FitsWant)
wants = means (row_of expect.Want 0) model.want want_spells (λ said. refl)

abbrev verdict_of : ℕ × ℕ → Frame
verdict_of said = model.verdict said.0 said.1

abbrev verdicts : Means (row_of expect.Verdict 0) (Frames verdict_of (λ said. FitsVerdict said.0 said.1))
verdicts = means (row_of expect.Verdict 0) verdict_of verdict_spells (λ said. refl)

abbrev poly_verdicts : Means (row_of expect.PolyVerdict 0) (Frames verdict_of (λ said. FitsPolyVerdict said.0 said.1))
poly_verdicts = means (row_of expect.PolyVerdict 0) verdict_of (alone_spells field.Decision decision_spells) (λ said. refl)

-- the frame that a payload says at a place
pub record Says (place : Expect) (row : Row) (payload : List ℕ) (frame : Frame) : Type 0 where
  pub allowed : Allows place frame
  pub spelled : frame_spelling frame ≡ frame_bytes row.kind payload

pub hello_said : (byte : ℕ) (payload : List ℕ) → FitsFields (payload_fields (row_of expect.Hello byte).payload) payload
    → Says expect.Hello (row_of expect.Hello byte) payload (model.hello (hello_in payload))
hello_said byte payload = by_low (nat_eq byte 129) refl
  where
    by_low : (b : Bool) → nat_eq byte 129 ≡ b → FitsFields (payload_fields (row_of expect.Hello byte).payload) payload
        → Says expect.Hello (row_of expect.Hello byte) payload (model.hello (hello_in payload))
    by_low true e = rw e (λ fits. let said = long_hellos.frame payload fits in record { allowed = (hello_in payload, refl, said.1.2.0); spelled = said.2 })
    by_low false e = rw e (λ fits. let said = short_hellos.frame payload fits in record { allowed = (hello_in payload, refl, said.1.2.0); spelled = said.2 })

-- a greeting that ends without a digest has none
no_public : (public : Option (List ℕ)) → IsDigest 0 public → public ≡ None
no_public None is = refl
no_public (Some digest) is = absurd (omega (arith, is.0.0, is.1))

pub short_hello_said : (byte : ℕ) (payload : List ℕ) → FitsFields (payload_fields (row_of expect.ShortHello byte).payload) payload
    → Says expect.ShortHello (row_of expect.ShortHello byte) payload (model.hello (hello_in payload))
short_hello_said byte payload fits =
    let said = short_hellos.frame payload fits in
    record { allowed = (hello_in payload, refl, said.1.2.0, no_public (hello_in payload).public said.1.2.1); spelled = said.2 }

pub grant_said : (byte : ℕ) (payload : List ℕ) → FitsFields (payload_fields (row_of expect.Grant byte).payload) payload
    → Says expect.Grant (row_of expect.Grant byte) payload (grant_or_refusal_in byte payload)
grant_said byte payload = by_first (nat_eq byte 10) refl
  where
    by_first : (b : Bool) → nat_eq byte 10 ≡ b → FitsFields (payload_fields (row_of expect.Grant byte).payload) payload
        → Says expect.Grant (row_of expect.Grant byte) payload (grant_or_refusal_in byte payload)
    by_first true e = rw e (λ fits. let said = refusals.frame payload fits in record { allowed = inr said.1; spelled = said.2 })
    by_first false e = rw e (λ fits. let said = grants.frame payload fits in record { allowed = inl said.1; spelled = said.2 })

pub verdict_said : (payload : List ℕ) → FitsFields (payload_fields (row_of expect.Verdict 0).payload) payload → Says expect.Verdict (row_of expect.Verdict 0) payload (verdict_in payload)
verdict_said payload fits =
    let said = verdicts.frame payload fits in
    let counted = fits.3.counted in
    let front : payload ≡ get_or fits.0 0 0 ∷ fits.1 = fits.2 ∙ ap (λ l. l ++ fits.1) (one_item fits.0 counted) in
    subst (Says expect.Verdict (row_of expect.Verdict 0) payload) (ap verdict_in (sym front))
    (record { allowed = (said.1.0.0, said.1.0.1, said.1.1, said.1.2); spelled = said.2 })

pub poly_verdict_said : (payload : List ℕ) → FitsFields (payload_fields (row_of expect.PolyVerdict 0).payload) payload
    → Says expect.PolyVerdict (row_of expect.PolyVerdict 0) payload (verdict_in payload)
poly_verdict_said payload fits =
    let said = poly_verdicts.frame payload fits in
    let again : verdict_in payload ≡ verdict_of said.1.0 =
    ap verdict_in (sym (ap (drop 5) said.2)) ∙ ap (model.verdict said.1.0.0) (from_le_bytes-to_le_bytes_4 said.1.0.1 (let few = said.1.2.numbered in omega arith)) in
    subst (Says expect.PolyVerdict (row_of expect.PolyVerdict 0) payload) (sym again)
    (record { allowed = (said.1.0.0, said.1.0.1, refl, said.1.2); spelled = ap frame_spelling (sym said.1.1) ∙ said.2 })

-- a want's bytes say it
pub want_again : (want : Want) → FitsWant want → want_in (want_bytes want) ≡ want
want_again want is = λ i. record {
  node = from_le_bytes-to_le_bytes_4 want.node (let few = is.node in omega arith) i;
  number = from_le_bytes-to_le_bytes_8 want.number is.number i;
  count = from_le_bytes-to_le_bytes_4 want.count (let few = is.most in omega arith) i;
}

pub want_said : (payload : List ℕ) → FitsFields (payload_fields (row_of expect.Want 0).payload) payload
    → Says expect.Want (row_of expect.Want 0) payload (model.want (want_in payload))
want_said payload fits =
    let said = wants.frame payload fits in
    let same : want_in payload ≡ said.1.0 = ap want_in (sym (ap (drop 5) said.2)) ∙ want_again said.1.0 said.1.2 in
    subst (Says expect.Want (row_of expect.Want 0) payload) (ap model.want (sym same)) (record { allowed = said.1; spelled = said.2 })

pub block_said : (byte : ℕ) (payload : List ℕ) → FitsFields (payload_fields (row_of expect.Block byte).payload) payload
    → Says expect.Block (row_of expect.Block byte) payload (block_or_out_in byte payload)
block_said byte payload = by_first (nat_eq byte 13) refl
  where
    by_first : (b : Bool) → nat_eq byte 13 ≡ b → FitsFields (payload_fields (row_of expect.Block byte).payload) payload
        → Says expect.Block (row_of expect.Block byte) payload (block_or_out_in byte payload)
    by_first true e = rw e (λ fits. let said = outs.frame payload fits in record { allowed = inr said.1; spelled = said.2 })
    by_first false e = rw e (λ fits. let said = blocks.frame payload fits in record { allowed = inl said.1; spelled = said.2 })

-- ---- all frames

-- the frames at a place, but for long greetings, refusals and outs
abbrev Plain : Expect → Frame → Type 0
Plain expect.Hello frame = Frames model.hello (λ said. IsHello said × IsDigest 0 said.public) frame
Plain expect.ShortHello frame = Frames model.hello (λ said. IsHello said × IsDigest 0 said.public) frame
Plain expect.Grant frame = Frames model.grant FitsGrant frame
Plain expect.Verdict frame = Frames verdict_of (λ said. FitsVerdict said.0 said.1) frame
Plain expect.PolyVerdict frame = Frames verdict_of (λ said. FitsPolyVerdict said.0 said.1) frame
Plain expect.Block frame = Frames model.block FitsBlock frame
Plain place frame = Allows place frame

plain : (place : Expect) → Means (row_of place 0) (Plain place)
plain expect.Hello = short_hellos
plain expect.ShortHello = short_hellos
plain expect.Grant = grants
plain (expect.Ask height trees left) = means (row_of (expect.Ask height trees left) 0) model.asks (asks_spell height trees) (λ said. refl)
plain (expect.Reply height trees left) = means (row_of (expect.Reply height trees left) 0) model.replies (replies_spell height trees) (λ said. refl)
plain (expect.Corrections count) = means (row_of (expect.Corrections count) 0) model.corrections (elements_spell count) (λ said. refl)
plain expect.Challenge = means (row_of expect.Challenge 0) model.challenge challenge_spells (λ said. refl)
plain (expect.Sums sections) = means (row_of (expect.Sums sections) 0) model.sums (sums_spell sections) (λ said. refl)
plain (expect.Openings count) = means (row_of (expect.Openings count) 0) model.openings (elements_spell count) (λ said. refl)
plain expect.Verdict = verdicts
plain (expect.PolySums count) = means (row_of (expect.PolySums count) 0) model.poly_sums (elements_spell count) (λ said. refl)
plain expect.PolyVerdict = poly_verdicts
plain expect.Want = wants
plain expect.Block = blocks

-- a frame of a row is a word
of_row : (place : Expect) (byte : ℕ) (frame : Frame) {Of : Frame → Type 0} → Means (row_of place byte) Of → Of frame → IsWordAt place (frame_spelling frame)
of_row place byte frame rows is =
    let row = row_of place byte in
    let has = rows.payload frame is in
    let spelled = has.2 ∙ headed row has.0 has.1 in
    subst (λ (r : Row). IsWord r (frame_spelling frame)) (sym (ap (λ l. row_of place (told place l)) spelled ∙ row_told place byte has.0))
    (record { payload = has.0; fits = has.1; spelled = spelled })

-- the bytes of a frame that a place allows are a word
pub allowed_word : (place : Expect) (frame : Frame) → Allows place frame → IsWordAt place (frame_spelling frame)
allowed_word expect.Hello frame is = by_public is.0.public refl
  where
    by_public : (public : Option (List ℕ)) → is.0.public ≡ public → IsWordAt expect.Hello (frame_spelling frame)
    by_public None form =
        of_row expect.Hello 0 frame short_hellos (is.0, is.1, (is.2, subst (IsDigest 0) (sym form) (tt, refl)))
    by_public (Some digest) form =
        let are : AreBytes 32 digest = subst (λ (p : Option (List ℕ)). IfSome p (AreBytes 32)) form is.2.public in
        of_row expect.Hello 129 frame long_hellos (is.0, is.1, (is.2, subst (IsDigest 32) (sym form) (are, are.0)))
allowed_word expect.ShortHello frame is = of_row expect.ShortHello 0 frame short_hellos (is.0, is.1, (is.2, subst (IsDigest 0) (sym is.3) (tt, refl)))
allowed_word expect.Grant frame (inl is) = of_row expect.Grant 0 frame grants is
allowed_word expect.Grant frame (inr is) = of_row expect.Grant 10 frame refusals is
allowed_word expect.Block frame (inl is) = of_row expect.Block 0 frame blocks is
allowed_word expect.Block frame (inr is) = of_row expect.Block 13 frame outs is
allowed_word expect.Verdict frame is = of_row expect.Verdict 0 frame verdicts ((is.0, is.1), is.2, is.3)
allowed_word expect.PolyVerdict frame is = of_row expect.PolyVerdict 0 frame poly_verdicts ((is.0, is.1), is.2, is.3)
allowed_word place frame is = of_row place 0 frame (plain place) is

-- a word is the bytes of the frame that its payload says
pub said_whole : (place : Expect) (word : List ℕ) (is : IsWordAt place word) (frame : Frame) → Says place (row_of place (told place word)) is.payload frame → IsWhole place word frame
said_whole place word is frame says = record {
  allowed = says.allowed;
  spelled = is.spelled ∙ sym (headed (row_of place (told place word)) is.payload is.fits) ∙ sym says.spelled;
}

-- every word is the bytes of a frame that is allowed
pub word_whole : (place : Expect) (word : List ℕ) → IsWordAt place word → (frame : Frame) × IsWhole place word frame
word_whole place word is =
    let said = payload_said place (told place word) is.payload is.fits in
    (said.0, said_whole place word is said.0 said.1)
  where
    payload_said : (place : Expect) (byte : ℕ) (bytes : List ℕ) → FitsFields (payload_fields (row_of place byte).payload) bytes
        → (frame : Frame) × Says place (row_of place byte) bytes frame
    payload_said expect.Hello byte bytes fits = (model.hello (hello_in bytes), hello_said byte bytes fits)
    payload_said expect.ShortHello byte bytes fits = (model.hello (hello_in bytes), short_hello_said byte bytes fits)
    payload_said expect.Grant byte bytes fits = (grant_or_refusal_in byte bytes, grant_said byte bytes fits)
    payload_said expect.Block byte bytes fits = (block_or_out_in byte bytes, block_said byte bytes fits)
    payload_said expect.Verdict byte bytes fits = (verdict_in bytes, verdict_said bytes fits)
    payload_said expect.PolyVerdict byte bytes fits = (verdict_in bytes, poly_verdict_said bytes fits)
    payload_said place byte bytes fits = let said = (plain place).frame bytes fits in (said.0, record { allowed = said.1; spelled = said.2 })
