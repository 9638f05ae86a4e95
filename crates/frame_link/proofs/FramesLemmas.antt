-- Frames that are sent together, and how long they are.
use Rattle.std.proofs.Common.{◌≡◌, ℕ, suc, ◌+◌, ◌*◌, ◌<◌, ◌≤◌, List, [], ◌∷◌, ◌++◌, map, flat_map, length, take, get_or, slice_index_or, refl, ap, sym, ◌∙◌, subst, arith, length-append}
use Rattle.std.specs.Prelude.{All}
use Rattle.std.proofs.lemmas.List.{length-map, get_or-map, map_more, flat_map_more}
use Rattle.zk_model.specs.Transcript.{TreeAsk, TreeReply, ask_frame, reply_frame}
use Rattle.zk_model.specs.Frames.{asks, replies, AreAsks, AreReplies}
use Rattle.zk_model.specs.declared.Expect.TheVariants as places
use Rattle.proof_frames.proofs.Lengths.{whole_length}

-- what holds of all that items stand for holds of what one of them stands for
pub holds_of : {A B : Type 0} (P : B → Type 0) (f : A → B) (items : List A) (i : ℕ) (item : A) → i < length items → item ≡ get_or items i item
    → All P (map f items) → P (f item)
holds_of P f items i item within at all =
    subst P (get_or-map f items i item (f item) within ∙ ap f (sym at)) (all i (f item) (omega (arith, within, length-map items f)))

-- the bytes of one item more
pub bytes_more : {A B : Type 0} (bytes : B → List ℕ) (f : A → B) (items : List A) (i : ℕ) (item : A) (before now : List ℕ) → i < length items → item ≡ get_or items i item
    → before ≡ flat_map bytes (map f (take i items)) → now ≡ before ++ bytes (f item) → now ≡ flat_map bytes (map f (take (i + 1) items))
bytes_more bytes f items i item before now within at far pushed =
    pushed ∙ ap (λ l. l ++ bytes (f item)) far ∙ flat_map_more bytes [] (map f (take i items)) (f item)
    ∙ ap (λ a. flat_map bytes (map f (take i items) ++ f a ∷ [])) at ∙ ap (flat_map bytes) (sym (map_more f items i item within))

-- items of one length
flat_length : {A : Type 0} (f : A → List ℕ) (per : ℕ) (items : List A) → All (λ item. length (f item) ≡ per) items
    → length (flat_map f items) ≡ length items * per
flat_length f per [] each = omega arith
flat_length f per (item ∷ items) each =
    let rest = flat_length f per items (λ k d below. each (suc k) d (omega (arith, below))) in
    length-append (f item) (flat_map f items) ∙ omega (arith, each 0 item (omega arith), rest)

pub ask_length : (height trees : ℕ) (said : List TreeAsk) → AreAsks height trees said → length (ask_frame said) ≡ 5 + trees * (height + 8)
ask_length height trees said are = whole_length (places.Ask height trees 0) (ask_frame said) (asks said) (record { allowed = (said, refl, are); spelled = refl })

pub reply_length : (height trees : ℕ) (said : List TreeReply) → AreReplies height trees said → length (reply_frame said) ≡ 5 + trees * (32 * height + 8)
reply_length height trees said are =
    whole_length (places.Reply height trees 0) (reply_frame said) (replies said) (record { allowed = (said, refl, are); spelled = refl })

pub asks_length : (height trees : ℕ) (said : List (List TreeAsk)) → All (AreAsks height trees) said
    → length (flat_map ask_frame said) ≡ length said * (5 + trees * (height + 8))
asks_length height trees said each =
    flat_length ask_frame (5 + trees * (height + 8)) said (λ k d below. ask_length height trees (slice_index_or said k d) (each k d below))

pub replies_length : (height trees : ℕ) (said : List (List TreeReply)) → All (AreReplies height trees) said
    → length (flat_map reply_frame said) ≡ length said * (5 + trees * (32 * height + 8))
replies_length height trees said each =
    flat_length reply_frame (5 + trees * (32 * height + 8)) said (λ k d below. reply_length height trees (slice_index_or said k d) (each k d below))

-- replies for some units are some bytes
pub some_replies : (replies : List (List TreeReply)) → 1 ≤ length replies → 1 ≤ length (flat_map reply_frame replies)
some_replies [] some = absurd (omega (arith, some))
some_replies (trees ∷ more) some = omega (arith, length-append (reply_frame trees) (flat_map reply_frame more))
