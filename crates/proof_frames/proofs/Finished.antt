-- What is handed out once the frame is whole.
use Rattle.std.proofs.Common.{◌≡◌, ℕ, ◌≤◌, List, flat_map, length, drop, sym, ◌∙◌, ap, arith, subst}
use Rattle.std.specs.Prelude.{false}
use Rattle.zk_model.specs.Bytes.{element_bytes}
use Rattle.zk_model.specs.Frames.{Frame, IsWhole, AreElements, frame_length}
use Rattle.zk_model.specs.declared.Expect.{Expect}
use Rattle.proof_frames.specs.declared.row.Payload.TheVariants as payload
use Rattle.proof_frames.specs.declared.held.Held.{Held}
use Rattle.proof_frames.specs.Holding.{Holds, bytes_of, is_list, longest}
use Rattle.proof_frames.specs.Rows.{FitsFields, row_of, told, payload_fields, payload_length}
use Rattle.proof_frames.proofs.Fields.{fits_length, payload_sized}
use Rattle.proof_frames.proofs.Kept.{finished_raw, finished_elements}
use Rattle.proof_frames.proofs.Words.{IsWordAt, Says, said_whole}

-- the whole frame at a place is held
pub record HoldsWhole (place : Expect) (held : Held) : Type 0 where
  pub holds : Holds place held
  pub whole : length (bytes_of held) ≡ frame_length place (bytes_of held)

at_stage : (place stage : Expect) (held : Held) → place ≡ stage → HoldsWhole place held → HoldsWhole stage held
at_stage place stage held is done = subst (λ (p : Expect). HoldsWhole p held) is done

-- the payload of whole bytes
pub record HasPayload (place : Expect) (bytes payload : List ℕ) : Type 0 where
  pub fits : FitsFields (payload_fields (row_of place (told place bytes)).payload) payload
  pub sized : length payload ≡ payload_length (row_of place (told place bytes)).payload
  pub headed : 5 ≤ length bytes
  pub whole : (frame : Frame) → Says place (row_of place (told place bytes)) payload frame → IsWhole place bytes frame

word_payload : (place : Expect) (bytes payload : List ℕ) → IsWordAt place bytes → payload ≡ drop 5 bytes → HasPayload place bytes payload
word_payload place bytes payload word behind =
    let row = row_of place (told place bytes) in
    let same : word.payload ≡ payload = sym (behind ∙ ap (drop 5) word.spelled) in
    record {
      fits = subst (FitsFields (payload_fields row.payload)) same word.fits;
      sized = ap length (sym same) ∙ fits_length (payload_fields row.payload) word.payload word.fits ∙ payload_sized row.payload;
      headed = omega (arith, ap length word.spelled);
      whole = λ frame says. said_whole place bytes word frame (subst (λ (l : List ℕ). Says place row l frame) (sym same) says);
    }

-- of bytes as they came
pub raw_payload : (place stage : Expect) (held : Held) (payload : List ℕ) → place ≡ stage → is_list (longest stage) ≡ false → HoldsWhole place held → payload ≡ drop 5 held.start.items
    → HasPayload stage held.start.items payload
raw_payload place stage held payload is raw done behind =
    let now = at_stage place stage held is done in
    word_payload stage held.start.items payload
    (finished_raw stage held.start.items held.elements.items held.part.items raw now.holds.begun now.holds.kept now.whole).1 behind

pub raw_finished : (place stage : Expect) (held : Held) (payload : List ℕ) (frame : Frame) → place ≡ stage → is_list (longest stage) ≡ false → HoldsWhole place held
    → payload ≡ drop 5 held.start.items → (HasPayload stage held.start.items payload → Says stage (row_of stage (told stage held.start.items)) payload frame)
    → IsWhole place (bytes_of held) frame
raw_finished place stage held payload frame is raw done behind says =
    let has = raw_payload place stage held payload is raw done behind in
    let now = at_stage place stage held is done in
    let bytes = (finished_raw stage held.start.items held.elements.items held.part.items raw now.holds.begun now.holds.kept now.whole).0 in
    subst (λ (q : Expect × List ℕ). IsWhole q.0 q.1 frame) (λ i. (sym is i, sym bytes i)) (has.whole frame (says has))

-- of elements
pub list_finished : (place stage : Expect) (held : Held) (count : ℕ) (frame : Frame) → place ≡ stage → longest stage ≡ payload.Elements count → HoldsWhole place held
    → (AreElements count held.elements.items → Says stage (row_of stage (told stage (bytes_of held))) (flat_map element_bytes held.elements.items) frame)
    → IsWhole place (bytes_of held) frame
list_finished place stage held count frame is list done says =
    let now = at_stage place stage held is done in
    let all = finished_elements stage held.start.items held.elements.items held.part.items count list now.holds.begun now.holds.kept now.whole in
    subst (λ (p : Expect). IsWhole p (bytes_of held) frame) (sym is)
    ((word_payload stage (bytes_of held) (flat_map element_bytes held.elements.items) all.word all.behind).whole frame (says all.are))

pub elements_held : (place stage : Expect) (held : Held) (count : ℕ) → place ≡ stage → longest stage ≡ payload.Elements count → HoldsWhole place held
    → length held.elements.items ≡ count
elements_held place stage held count is list done =
    let now = at_stage place stage held is done in
    (finished_elements stage held.start.items held.elements.items held.part.items count list now.holds.begun now.holds.kept now.whole).are.counted
