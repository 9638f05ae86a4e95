-- The rounds that a prover asks for, and the turns that they make.
use Rattle.std.proofs.Common.{◌≡◌, ℕ, List, ◌++◌, ap, ◌∙◌, append-nil, ◌+◌, ◌≤◌, [], ◌∷◌, flat_map, length, refl, sym, length-append, arith, append_assoc, suc, ◌*◌, ◌<◌, replicate, slice_index_or, subst, take}
use Rattle.std.proofs.lemmas.List.{length-replicate, length-map}
use Rattle.zk_model.specs.Transcript.{Grant, TreeReply, reply_frame, Hello, TreeAsk, Round, Setup, IsGrant, IsRound, IsTreeReply, ForEachTree}
use Rattle.zk_model.specs.Frames.{AreReplies}
use Rattle.session_prover.specs.Stages.{AreAskedRounds}
use Rattle.session_core.specs.Jobs.{ProverJob}
use Rattle.std.specs.Prelude.{All, None}
use Rattle.std.specs.List.{AllByRecursion}
use Rattle.std.proofs.lemmas.List.Elements.{All-nil, All-cons, All-weaker, All-replicate}
use Rattle.std.proofs.lemmas.List.FromFn.{get_or-map-range_with_len}
use Rattle.frame_laws.proofs.Codes.{same_front}
use Rattle.zk_laws.proofs.FoundPairs.{pairs_exist}
use Rattle.session_laws.proofs.Shapes.{round_asks_shaped}
use Rattle.session_laws.proofs.Turns.{answered}
use Rattle.zk_model.specs.Bytes.{LeftRight, AreBothBytes}
use Rattle.zk_model.specs.Mac.{Pair}
use Rattle.zk_model.specs.Files.{ProverFile, IsProverFile, prover_unit, rounds_of}
use Rattle.zk_model.specs.Correlations.{IsExtension, IsProverView}
use Rattle.zk_model.specs.HonestProver.{honest_asks, round_asks}
use Rattle.zk_model.specs.declared.Kind.{Kind}
use Rattle.zk_model.specs.declared.Kind.TheVariants.{Direct, Extended}
use Rattle.zk_model.specs.declared.Params.{Params}
use Rattle.session_core.specs.Fixing.{AreFirstPairs}
use Rattle.session_core.specs.Rounds.{round_turns}
use Rattle.frame_link.proofs.FramesLemmas.{replies_length}

-- What stands next in what a verifier says, where a prover waits; and what an honest prover sends when it is not there.

-- ---- the replies of a round

-- one for each unit
pub each_replied : (params : Params) (given : Grant) (came : List (List TreeReply)) → ForEachTree params given (IsTreeReply params.height) came
    → All (AreReplies params.height params.trees) came
each_replied params given came all =
    All-weaker (λ trees. (length trees ≡ params.trees) × All (IsTreeReply params.height) trees) (AreReplies params.height params.trees)
    (λ trees each. record { counted = each.0; each = each.1 }) came all.1

pub replied_each : (params : Params) (given : Grant) (came : List (List TreeReply)) → length came ≡ given.count
    → All (AreReplies params.height params.trees) came → ForEachTree params given (IsTreeReply params.height) came
replied_each params given came count all = (
  count,
  All-weaker (AreReplies params.height params.trees) (λ trees. (length trees ≡ params.trees) × All (IsTreeReply params.height) trees)
      (λ trees each. (each.counted, each.each)) came all,
)

-- how many bytes the replies for a unit have
abbrev pub unit_size : Params → ℕ
unit_size params = 5 + params.trees * (32 * params.height + 8)

pub rounds_length : (params : Params) (given : Grant) (rounds : List Round) → AllByRecursion (IsRound params given) rounds
    → length (answered (round_turns rounds)) ≡ length rounds * (given.count * unit_size params)
rounds_length params given [] all = omega arith
rounds_length params given (round ∷ rounds) all =
    length-append (flat_map reply_frame round.replies) (answered (round_turns rounds))
    ∙ (λ i. replies_length params.height params.trees round.replies (each_replied params given round.replies all.0.replies) i + rounds_length params given rounds all.1 i)
    ∙ ap (λ n. n * unit_size params + length rounds * (given.count * unit_size params)) all.0.replies.0
    ∙ omega arith

-- ---- the next of some parts

-- after parts that are fewer than others, where all are of one length, stands the next of those
pub next_part : {A : Type 0} (f : A → List ℕ) (P : A → Type 0) (per : ℕ) → ((x : A) → P x → length (f x) ≡ per)
    → (xs ys : List A) (bytes tail : List ℕ) → AllByRecursion P xs → AllByRecursion P ys → length xs < length ys
    → flat_map f xs ++ bytes ≡ flat_map f ys ++ tail
    → (y : A) × P y × (rest : List ℕ) × (bytes ≡ f y ++ rest)
next_part f P per each [] [] bytes tail left right less same = absurd (omega (arith, less))
next_part f P per each (x ∷ xs) [] bytes tail left right less same = absurd (omega (arith, less))
next_part f P per each [] (y ∷ ys) bytes tail left right less same =
    (y, right.0, flat_map f ys ++ tail, same ∙ append_assoc (f y) (flat_map f ys) tail)
next_part f P per each (x ∷ xs) (y ∷ ys) bytes tail left right less same =
    next_part f P per each xs ys bytes tail left.1 right.1 (omega (arith, less))
    (same_front (f x) (f y) (flat_map f xs ++ bytes) (flat_map f ys ++ tail) (each x left.0 ∙ sym (each y right.0))
    (sym (append_assoc (f x) (flat_map f xs) bytes) ∙ same ∙ append_assoc (f y) (flat_map f ys) tail)).1

-- ---- and the pairs that they make

-- the units of a grant have pairs that the replies to their asks make
pub all_pairs : (file : ProverFile) (given : Grant) (came : List (List TreeReply)) → IsProverFile file → file.params.kind ≡ Extended
    → given.start + given.count ≤ file.params.total → length came ≡ given.count → All (AreReplies file.params.height file.params.trees) came
    → (pairs : List Pair) × AreFirstPairs file given came pairs
all_pairs file given came is extended within counted are = (
  found.0,
  record {
    units = found.1.units;
    one_each = found.1.count ∙ sym counted;
    each = λ i below. let inside : i < given.count = omega (arith, below, counted) in
        subst (λ (asks : List TreeAsk). IsExtension file.params file.code_seed (prover_unit file (given.start + i))
        (record { asks = asks; replies = slice_index_or came i [] }) (slice_index_or found.1.units i []))
        (get_or-map-range_with_len (honest_asks file) given.start given.count i (given.start + i) [] inside refl) (found.1.each i inside);
    joined = found.1.joined;
  },
)
  where
    hello : Hello
    hello = record { id = []; circuit = []; outputs = []; version = 0; public = None }

    setup : Setup
    setup = record { hello = hello; grant = given; rounds = record { asks = round_asks file given; replies = came } ∷ [] }

    found : (pairs : List Pair) × IsProverView file setup pairs
    found = pairs_exist file setup is (record {
      within = within;
      count = sym (ap rounds_of extended);
      each = All-cons (IsRound file.params given) _ [] (record {
        asks = round_asks_shaped file given is within;
        replies = replied_each file.params given came counted are;
      }) (All-nil (IsRound file.params given));
    })

-- ---- rounds that are asked for

-- none in kind direct
pub asked_none : (job : ProverJob) (given : Grant) → job.file.params.kind ≡ Direct → AreAskedRounds job given []
asked_none job given direct = record {
  count = sym (ap rounds_of direct);
  ranged = All-nil (IsRound job.file.params given);
  asks = All-nil (λ round. round.asks ≡ round_asks job.file given);
}

-- a round with these replies
pub asked_round : (job : ProverJob) (given : Grant) (came : List (List TreeReply)) → IsProverFile job.file
    → IsGrant job.file.params job.statement.program given → job.file.params.kind ≡ Extended
    → length came ≡ given.count → All (AreReplies job.file.params.height job.file.params.trees) came
    → AreAskedRounds job given (record { asks = round_asks job.file given; replies = came } ∷ [])
asked_round job given came is granted extended count all = record {
  count = sym (ap rounds_of extended);
  ranged = All-cons (IsRound job.file.params given) _ [] (record {
    asks = round_asks_shaped job.file given is granted.within;
    replies = replied_each job.file.params given came count all;
  }) (All-nil (IsRound job.file.params given));
  asks = All-cons (λ round. round.asks ≡ round_asks job.file given) _ [] refl (All-nil (λ round. round.asks ≡ round_asks job.file given));
}

-- a reply of zeros
abbrev zeros : LeftRight
zeros = record { left = replicate 16 0; right = replicate 16 0 }

abbrev blank : ℕ → TreeReply
blank height = record { messages = replicate height zeros; leaf_offset = 0 }

zeros_are : AreBothBytes 16 zeros
zeros_are = ((refl, All-replicate (λ byte. byte < 256) 16 0 (omega arith)), (refl, All-replicate (λ byte. byte < 256) 16 0 (omega arith)))

blank_is : (height : ℕ) → IsTreeReply height (blank height)
blank_is height = record {
  count = length-replicate height zeros;
  messages = All-replicate (AreBothBytes 16) height zeros zeros_are;
  leaf_offset = omega arith;
}

-- some rounds that may be under a grant, whatever the kind
pub some_rounds : (job : ProverJob) (given : Grant) → IsProverFile job.file → IsGrant job.file.params job.statement.program given
    → (rounds : List Round) × AreAskedRounds job given rounds
some_rounds job given is granted = by_kind job.file.params.kind refl
  where
    by_kind : (kind : Kind) → job.file.params.kind ≡ kind → (rounds : List Round) × AreAskedRounds job given rounds
    by_kind Direct same = ([], asked_none job given same)
    by_kind Extended same =
        let trees : List TreeReply = replicate job.file.params.trees (blank job.file.params.height) in (
          record { asks = round_asks job.file given; replies = replicate given.count trees } ∷ [],
          asked_round job given (replicate given.count trees) is granted same (length-replicate given.count trees)
              (All-replicate (AreReplies job.file.params.height job.file.params.trees) given.count trees (record {
                counted = length-replicate job.file.params.trees (blank job.file.params.height);
                each = All-replicate (IsTreeReply job.file.params.height) job.file.params.trees (blank job.file.params.height) (blank_is job.file.params.height);
              })),
        )

-- ---- turns after rounds

-- what is in turns, one more, and the last two
pub turns_to : {T B : Type 0} (f : T → List B) (turns : List T) (c : T) (more : List T)
    → flat_map f (take (suc (length turns)) (turns ++ c ∷ more)) ≡ flat_map f turns ++ f c
turns_to f [] c more = append-nil (f c)
turns_to f (turn ∷ turns) c more =
    ap (λ l. f turn ++ l) (turns_to f turns c more) ∙ sym (append_assoc (f turn) (flat_map f turns) (f c))

pub turns_all : {T B : Type 0} (f : T → List B) (turns : List T) (c e : T)
    → flat_map f (take (suc (suc (length turns))) (turns ++ c ∷ e ∷ [])) ≡ flat_map f turns ++ (f c ++ f e)
turns_all f [] c e = ap (λ l. f c ++ l) (append-nil (f e))
turns_all f (turn ∷ turns) c e =
    ap (λ l. f turn ++ l) (turns_all f turns c e) ∙ sym (append_assoc (f turn) (flat_map f turns) (f c ++ f e))

pub turns_before : {T B : Type 0} (f : T → List B) (turns more : List T) → flat_map f (take (length turns) (turns ++ more)) ≡ flat_map f turns
turns_before f [] more = refl
turns_before f (turn ∷ turns) more = ap (λ l. f turn ++ l) (turns_before f turns more)

pub round_count : (rounds : List Round) → length (round_turns rounds) ≡ length rounds
round_count rounds = length-map rounds _
