-- What the examples are proved with.
use Rattle.std.proofs.Common.{◌≡◌, ℕ, zero, suc, ◌+◌, ◌<◌, ◌≤◌, true, List, [], ◌∷◌, map, flat_map, length, replicate, length-append, refl, sym, ◌∙◌, ap, subst, inl, inr, arith}
use Rattle.std.specs.Prelude.{All, Some, slice_get, nat_lt}
use Rattle.std.specs.List.{list_all}
use Rattle.std.proofs.lemmas.List.{length-map, length-replicate}
use Rattle.std.proofs.lemmas.List.Elements.{All-replicate}
use Rattle.std.proofs.lemmas.List.Sums.{AllPass-from_list_all}
use Rattle.std.proofs.lemmas.Bool.{ltb-true}
use Rattle.sha2.specs.Sha256.{sha256, digest_bytes, hash_after, compress, rounds, schedule, first_words}
use Rattle.zk_model.specs.Bytes.{AreBytes}
use Rattle.zk_model.specs.Program.{Program, IsSet, IsMadeOnce}
use Rattle.zk_model.specs.Files.{rounds_of}
use Rattle.zk_model.specs.Check.{all_sums, opened_pairs}
use Rattle.zk_model.specs.Mac.{macs_of}
use Rattle.zk_model.specs.Transcript.{Round, Transcript, IsTranscript, ask_frame, reply_frame, sent_by, session_turns, wanted_hello}
use Rattle.zk_model.specs.HonestProver.{AreHonestBytes, IsHonest, IsWitness, ProverTask, SentAfter, honest_corrections, round_asks}
use Rattle.zk_model.specs.View.{View, IsView, view_masks}
use Rattle.zk_model.specs.declared.Params.{Params}
use Rattle.zk_model.specs.declared.Product.{Product}
use Rattle.zk_model.specs.declared.Side.{Side}
use Rattle.zk_model.specs.declared.Side.TheVariants.{Prover, Verifier}

-- ---- items of a list

-- P holds of the items of a list, of which the first has this number
abbrev pub HoldsFrom : {A : Type 0} → (ℕ → A → Type 0) → ℕ → List A → Type 0
HoldsFrom P i [] = Unit {0}
HoldsFrom P i (item ∷ items) = P i item × HoldsFrom P (i + 1) items

each_from : {A : Type 0} (P : ℕ → A → Type 0) (items : List A) (i n m : ℕ) (item : A) → HoldsFrom P i items
    → slice_get items n ≡ Some item → m ≡ i + n → P m item
each_from P [] i n m item holds is e = cc
each_from {A} P (first ∷ items) i zero m item holds is e =
    let same : first ≡ item = cc in
    let at : i ≡ m = omega arith in
    subst (λ (g : A). P m g) same (subst (λ (k : ℕ). P k first) at holds.0)
each_from P (first ∷ items) i (suc n) m item holds is e = each_from P items (i + 1) n m item holds.1 is (omega arith)

-- so it holds of each with its number
pub each_item : {A : Type 0} (P : ℕ → A → Type 0) (items : List A) → HoldsFrom P 0 items
    → (n : ℕ) (item : A) → slice_get items n ≡ Some item → P n item
each_item P items holds n item is = each_from P items 0 n n item holds is (omega arith)

-- ---- numbers below a bound

pub one_only : (P : ℕ → Type 0) → P 0 → (n : ℕ) → n < 1 → P n
one_only P holds zero below = holds
one_only P holds (suc n) below = absurd (omega arith)

pub two_only : (P : ℕ → Type 0) → P 0 → P 1 → (n : ℕ) → n < 2 → P n
two_only P first second zero below = first
two_only P first second (suc zero) below = second
two_only P first second (suc (suc n)) below = absurd (omega arith)

-- ---- bytes

pub bytes_of : (n byte : ℕ) → byte < 256 → AreBytes n (replicate n byte)
bytes_of n byte fits = (length-replicate n byte, All-replicate (λ b. b < 256) n byte fits)

pub bytes_by_test : (n : ℕ) (bytes : List ℕ) → length bytes ≡ n → list_all (λ byte. nat_lt byte 256) bytes ≡ true → AreBytes n bytes
bytes_by_test n bytes count test = (count, λ k d below. ltb-true _ _ (AllPass-from_list_all (λ byte. nat_lt byte 256) bytes test k d below))

-- the digest of the empty text
pub empty_digest_fits : AreBytes 32 (sha256 [])
unfolding sha256 digest_bytes hash_after compress rounds schedule first_words
empty_digest_fits = bytes_by_test 32 (sha256 []) refl refl

-- ---- programs

-- no step sets a wire before the first one
pub unset : (program : Program) (wire : ℕ) → program.public + program.inputs ≤ wire → ¬ IsSet program 0 wire
unset program wire past (inl first) = omega (arith, past, first)
unset program wire past (inr by) = omega (arith, by.2)

-- the product n is the only one whose value is given value j
pub made_once : (program : Program) (j n : ℕ) (product : Product) → slice_get program.products n ≡ Some product → product.c ≡ j
    → HoldsFrom (λ m other. other.c ≡ j → m ≡ n) 0 program.products → IsMadeOnce program j
made_once program j n product stands value others = record {
  number = n;
  made = record { product = product; stands = stands; value = value };
  once = λ other of. each_item (λ m p. p.c ≡ j → m ≡ n) program.products others other of.product of.stands of.value;
}

-- ---- turns

-- a session has a turn for the hello, one for each round, and two more
pub same_count : (params : Params) (program : Program) (t : Transcript) → IsTranscript params program t
    → length (session_turns t) ≡ suc (rounds_of params.kind + 2)
same_count params program t is =
    let rounds = t.commitment.setup.rounds in
    let each = map (λ round. (flat_map ask_frame round.asks, flat_map reply_frame round.replies)) rounds in
    ap suc (length-append each _
    ∙ ap (λ n. n + 2) (length-map rounds (λ round. (flat_map ask_frame round.asks, flat_map reply_frame round.replies)) ∙ is.commitment.setup.round_count))

-- ---- honest provers

-- a prover is honest whose hello, asks, corrections, sums and openings are those of its witness and its view
pub honest_by : (task : ProverTask) (t : Transcript) (wires given : List ℕ) (view : View) → t.commitment.setup.hello ≡ wanted_hello task.file.id task.statement
    → All (λ (round : Round). round.asks ≡ round_asks task.file t.commitment.setup.grant) t.commitment.setup.rounds
    → IsWitness task.statement task.inputs wires given → IsView task.file task.statement t.commitment view
    → t.commitment.corrections ≡ honest_corrections given view.pairs
    → t.sums ≡ all_sums task.statement.program t.commitment.setup.grant.section_length t.challenge view.carried (view_masks task.statement.program view)
    → t.openings ≡ macs_of (opened_pairs task.statement.program view.carried) → IsHonest task t
honest_by task t wires given view hello asks witness seen corrections sums openings = record {
  hello = hello;
  asks = asks;
  wires = wires;
  given = given;
  witness = witness;
  view = view;
  seen = seen;
  corrections = corrections;
  sums = sums;
  openings = openings;
}

-- where an honest prover has answered all turns of a session, what it sends in the session's log answers what the log has of the verifier
pub whole_answer : (task : ProverTask) (log : List (Side × ℕ)) (received sent : List ℕ) (turns : ℕ) → turns ≡ rounds_of task.file.params.kind + 3
    → SentAfter task received turns sent → sent_by Verifier log ≡ received → sent_by Prover log ≡ sent
    → AreHonestBytes task (sent_by Verifier log) (sent_by Prover log)
whole_answer task log received sent turns all after by_verifier by_prover =
    subst (λ (bytes : List ℕ). AreHonestBytes task bytes (sent_by Prover log)) (sym by_verifier)
    (subst (λ (bytes : List ℕ). AreHonestBytes task received bytes) (sym by_prover) (record { turns = turns; answer = after; most = most }))
  where
    most : (more : ℕ) (other : List ℕ) → SentAfter task received more other → more ≤ turns
    most zero other after = omega arith
    most (suc n) other after =
        let count = same_count task.file.params task.statement.program after.0 after.1 in
        omega (arith, count, after.3, all)
