-- Lists that grow unit by unit, and what the prover sees of a round of all units.
use Rattle.std.proofs.Common.{◌≡◌, ℕ, ◌+◌, ◌<◌, List, [], ◌∷◌, ◌++◌, map, flat_map, drop, length, get_or, refl, sym, ◌∙◌, ap, subst, arith, append-nil, append_assoc, Vec, Global}
use Rattle.std.specs.Prelude.{slice_index_or, All}
use Rattle.std.specs.List.{range_with_len, enumerate_from}
use Rattle.std.proofs.lemmas.List.{length-map, get_or-map, map-append}
use Rattle.std.proofs.lemmas.List.Elements.{All-push}
use Rattle.std.proofs.lemmas.List.Concat.{flat_map-append}
use Rattle.std.proofs.lemmas.List.FromFn.{fill_by_all, map-range_with_len_more, length-enumerate_from, get_or-enumerate_from, get_or-map-range_with_len}
use Rattle.zk_model.specs.Mac.{Pair}
use Rattle.zk_model.specs.Files.{ProverFile, prover_unit}
use Rattle.zk_model.specs.Transcript.{Hello, Grant, TreeAsk, TreeReply, Setup}
use Rattle.zk_model.specs.Correlations.{IsExtension, IsProverView}
use Rattle.zk_model.specs.HonestProver.{honest_asks, round_asks}
use Rattle.circuit_laws.proofs.Ranges.{range-append}
use Rattle.zk_model.specs.Frames as model
use Rattle.proof_frames.specs.Frames.{frame_value}
use Rattle.proof_frames.specs.declared.frame.Frame.{Frame}
use Rattle.round_fan.specs.Fans.{lists_of}
use Rattle.session_core.specs.Extending.{asks_in, replies_in, asks_of, replies_of}
use Rattle.session_core.specs.Fixing.{AreFirstPairs}

-- ---- lists that grow

-- one item more than those of the first numbers
pub one_more : {A B : Type 0} (read : A → B) (make : ℕ → B) (start n j : ℕ) (items now : List A) (item : A)
    → start + n ≡ j → map read items ≡ map make (range_with_len start n) → now ≡ items ++ item ∷ [] → read item ≡ make j
    → map read now ≡ map make (range_with_len start (n + 1))
one_more read make start n j items now item at far pushed is =
    ap (map read) pushed ∙ map-append read items (item ∷ []) ∙ (λ i. far i ++ is i ∷ []) ∙ sym (map-range_with_len_more make start n j at)

-- one part more
pub one_part_more : {B : Type 0} (make : ℕ → List B) (start n j : ℕ) (items now part : List B)
    → start + n ≡ j → items ≡ flat_map make (range_with_len start n) → now ≡ items ++ part → part ≡ make j
    → now ≡ flat_map make (range_with_len start (n + 1))
one_part_more make start n j items now part at far pushed is =
    pushed
    ∙ (λ i. far i ++ (is ∙ ap make (sym at) ∙ sym (append-nil (make (start + n)))) i)
    ∙ sym (flat_map-append make (range_with_len start n) ((start + n) ∷ []))
    ∙ ap (flat_map make) (sym (range-append start n 1))

-- items by their numbers, in two ways
pub numbered : {A B : Type 0} (f : ℕ → A → B) (a : ℕ) (items : List A) (none : A) (other : B)
    → map (λ entry. f entry.0 entry.1) (enumerate_from a items)
    ≡ map (λ i. f (a + i) (get_or items i none)) (range_with_len 0 (length items))
numbered f a items none other =
    fill_by_all (λ i. f (a + i) (get_or items i none)) _ (length items) other
    (length-map (enumerate_from a items) (λ entry. f entry.0 entry.1) ∙ length-enumerate_from a items)
    (λ i below.
    get_or-map (λ entry. f entry.0 entry.1) (enumerate_from a items) i (0, none) other (omega (arith, below, length-enumerate_from a items))
    ∙ ap (λ (entry : ℕ × _). f entry.0 entry.1) (get_or-enumerate_from a items i (0, none) below))

-- ---- frames and the trees that they speak of

trees_are : {A : Type 0} (said : A → model.Frame) (read : model.Frame → A) → ((trees : A) → read (said trees) ≡ trees)
    → (frames : List Frame) (trees : List A) → map frame_value frames ≡ map said trees → map (λ f. read (frame_value f)) frames ≡ trees
trees_are said read back [] [] is = refl
trees_are said read back [] (one ∷ more) is = absurd (omega (arith, ap length is))
trees_are said read back (frame ∷ frames) [] is = absurd (omega (arith, ap length is))
trees_are said read back (frame ∷ frames) (one ∷ more) is =
    λ i. (ap read (ap (λ l. get_or l 0 (model.refuse 0)) is) ∙ back one) i ∷ trees_are said read back frames more (ap (drop 1) is) i

pub asks_are : (frames : List Frame) (asks : List (List TreeAsk)) → map frame_value frames ≡ map model.asks asks → asks_of frames ≡ asks
asks_are = trees_are model.asks asks_in (λ trees. refl)

pub replies_are : (frames : List Frame) (replies : List (List TreeReply)) → map frame_value frames ≡ map model.replies replies → replies_of frames ≡ replies
replies_are = trees_are model.replies replies_in (λ trees. refl)

-- the asks of frame i
pub asks_at : (P : List TreeAsk → Type 0) (frames : List Frame) (i : ℕ) (frame : Frame) (trees : List TreeAsk) → All P (asks_of frames) → i < length frames
    → frame ≡ get_or frames i frame → trees ≡ asks_in (frame_value frame) → (trees ≡ get_or (asks_of frames) i []) × P trees
asks_at P frames i frame trees all below at is =
    let there : trees ≡ get_or (asks_of frames) i [] = is ∙ ap (λ f. asks_in (frame_value f)) at ∙ sym (get_or-map (λ f. asks_in (frame_value f)) frames i frame [] below) in
    (there, subst P (sym there) (all i [] (omega (arith, below, length-map frames (λ f. asks_in (frame_value f))))))

-- ---- what the prover sees

-- a session's setup with one round of honest asks and these replies
abbrev pub one_round : ProverFile → Hello → Grant → List (List TreeReply) → Setup
one_round file hello grant replies =
    record { hello = hello; grant = grant; rounds = record { asks = round_asks file grant; replies = replies } ∷ [] }

-- the pairs of all units are those that the prover sees
pub whole_view : (file : ProverFile) (hello : Hello) (grant : Grant) (replies : List (List TreeReply)) (pairs : List Pair)
    → length replies ≡ grant.count → AreFirstPairs file grant replies pairs → IsProverView file (one_round file hello grant replies) pairs
whole_view file hello grant replies pairs counted first = record {
  units = first.units;
  count = first.one_each ∙ counted;
  each = λ i below. subst (λ (asks : List TreeAsk). IsExtension file.params file.code_seed (prover_unit file (grant.start + i))
      (record { asks = asks; replies = slice_index_or replies i [] }) (slice_index_or first.units i []))
      (sym (get_or-map-range_with_len (honest_asks file) grant.start grant.count i (grant.start + i) [] below refl))
      (first.each i (omega (arith, below, counted)));
  joined = first.joined;
}

-- ---- lists made in two steps

pub map_twice : {A B C : Type 0} (g : B → C) (f : A → B) (items : List A) → map (λ item. g (f item)) items ≡ map g (map f items)
map_twice g f [] = refl
map_twice g f (item ∷ items) = ap (λ l. g (f item) ∷ l) (map_twice g f items)

-- ---- lists of vectors that grow

-- one vector more
pub vector_pushed : {A : Type 0} (P : List A → Type 0) (vectors now : List (Vec A Global)) (vector : Vec A Global) → All P (lists_of vectors)
    → P vector.items → now ≡ vectors ++ vector ∷ [] → All P (lists_of now)
vector_pushed P vectors now vector all one pushed =
    subst (All P) (sym (ap lists_of pushed ∙ map-append (λ (v : Vec _ Global). v.items) vectors (vector ∷ [])))
    (All-push P (lists_of vectors) vector.items all one)

-- one frame more of those that are left
pub one_framed : {A : Type 0} (said : List A → model.Frame) (frames now : List Frame) (frame : Frame) (trees : Vec A Global) (rest left : List (Vec A Global)) (all : List model.Frame)
    → map frame_value frames ++ map said (lists_of rest) ≡ all → rest ≡ trees ∷ left → now ≡ frames ++ frame ∷ []
    → frame_value frame ≡ said trees.items → map frame_value now ++ map said (lists_of left) ≡ all
one_framed said frames now frame trees rest left all far next pushed is =
    ap (λ l. map frame_value l ++ map said (lists_of left)) pushed
    ∙ ap (λ l. l ++ map said (lists_of left)) (map-append frame_value frames (frame ∷ []))
    ∙ append_assoc (map frame_value frames) (frame_value frame ∷ []) (map said (lists_of left))
    ∙ ap (λ f. map frame_value frames ++ f ∷ map said (lists_of left)) is
    ∙ ap (λ l. map frame_value frames ++ map said (lists_of l)) (sym next)
    ∙ far
