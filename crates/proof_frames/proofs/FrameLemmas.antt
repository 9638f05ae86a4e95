-- The payloads of frames.
use Rattle.std.proofs.Common.{◌≡◌, ℕ, ◌*◌, ◌^◌, ◌≤◌, List, [], ◌∷◌, ◌++◌, length, flat_map, take, drop, refl, ap, sym, ◌∙◌, arith, length-append, append_assoc, subst, take-append-drop}
use Rattle.std.specs.Prelude.{All}
use Rattle.std.proofs.lemmas.List.Elements.{All-take, All-get_or}
use Rattle.std.proofs.lemmas.List.{flat_map_more, take_at, get_or_push}
use Rattle.zk_model.specs.Bytes.{element_bytes}
use Rattle.zk_model.specs.Transcript.{frame_bytes}
use Rattle.zk_model.specs.declared.FrameKind.{FrameKind}
use Rattle.zk_model.specs.Frames as model
use Rattle.zk_model.specs.Frames.{frame_spelling}
use Rattle.proof_frames.specs.Frames.{sums_payload, IsShort}

pub length-elements : (elements : List ℕ) → length (flat_map element_bytes elements) ≡ 8 * length elements
length-elements [] = refl
length-elements (element ∷ elements) = omega (arith, length-elements elements)

pub length-sums : (sums : List (ℕ × ℕ)) → length (sums_payload sums) ≡ 16 * length sums
length-sums [] = refl
length-sums (both ∷ sums) = omega (arith, length-sums sums)

-- the payloads of short frames
pub short_elements : (frame : model.Frame) (kind : FrameKind) (elements given : List ℕ) → IsShort frame → frame_spelling frame ≡ frame_bytes kind (flat_map element_bytes elements)
    → given ≡ elements → 8 * length given ≤ 2 ^ 28
short_elements frame kind elements given short is same =
    omega (arith, short, ap length is, length-elements elements, ap length same)

pub short_sums : (frame : model.Frame) (sums given : List (ℕ × ℕ)) → IsShort frame → frame ≡ model.sums sums → given ≡ sums → 16 * length given ≤ 2 ^ 28
short_sums frame sums given short is same =
    omega (arith, short, ap (λ f. length (frame_spelling f)) is, length-sums sums, ap length same)

-- the bytes of one item more, which were the front of the rest
pub item_taken : {A : Type 0} (f : A → List ℕ) (items now : List A) (item : A) (front behind rest all : List ℕ) (n : ℕ) → now ≡ items ++ item ∷ []
    → f item ≡ front → front ≡ take n rest → behind ≡ drop n rest → flat_map f items ++ rest ≡ all → flat_map f now ++ behind ≡ all
item_taken f items now item front behind rest all n pushed is_front is_taken is_behind same =
    let read : f item ++ behind ≡ rest = (λ i. (is_front ∙ is_taken) i ++ is_behind i) ∙ take-append-drop n rest in
    ap (λ l. flat_map f l ++ behind) pushed ∙ ap (λ l. l ++ behind) (sym (flat_map_more f [] items item)) ∙ append_assoc (flat_map f items) (f item) behind
    ∙ ap (λ l. flat_map f items ++ l) read ∙ same

-- what holds of all holds of the last, and of those before it
pub all_last : {A : Type 0} (P : A → Type 0) (old now : List A) (item : A) → old ≡ now ++ item ∷ [] → All P old → All P now × P item
all_last P old now item is all =
    let both : All P (now ++ item ∷ []) = subst (All P) is all in (
      subst (All P) (take_at now (item ∷ []) (length now) refl) (All-take P (length now) (now ++ item ∷ []) both),
      subst P (get_or_push now item item (length now) refl) (All-get_or P (now ++ item ∷ []) (length now) item (omega (arith, length-append now (item ∷ []))) both),
    )
