-- A log that is cut in a turn of the prover is not that of a whole session: by the grant it has too few bytes of the
-- verifier.
use Rattle.std.proofs.Common.{◌≡◌, ℕ, zero, suc, ◌+◌, ◌<◌, List, [], ◌++◌, take, length, refl, sym, ◌∙◌, ap, arith}
use Rattle.std.proofs.lemmas.List.{take_all}
use Rattle.session_laws.specs.Cuts.{CutIsNotWhole, CutIsNotAccepted, VerdictIsSaid, OneVerdictOfCode}
use Rattle.session_laws.proofs.Turns.{answered, cut_answered, no_more_turns, as_many}
use Rattle.session_laws.proofs.Sizes.{same_sizes, all_answered, count_is}
use Rattle.frame_laws.proofs.FrameCodes.{grant_code}
use Rattle.frame_laws.proofs.OneTranscript.{one_transcript}
use Rattle.frame_laws.proofs.SentBytes.{sent_by-verifier}
use Rattle.zk_model.specs.Program.{Program}
use Rattle.zk_model.specs.Files.{AreParams, rounds_of}
use Rattle.zk_model.specs.Transcript.{Hello, Transcript, IsHello, IsTranscript, session_turns, sent_by}
use Rattle.zk_model.specs.declared.Params.{Params}
use Rattle.zk_model.specs.declared.Side.TheVariants.{Verifier}
use Rattle.zk_model.specs.declared.Verdict.TheVariants.{Accepted, RejectedSum, RejectedOpening}

-- sessions whose answers begin alike have one grant
pub one_grant : (params : Params) (program : Program) (t u : Transcript) (m n : ℕ) (xs ys : List ℕ) → AreParams params
    → IsTranscript params program t → IsTranscript params program u
    → answered (take (suc m) (session_turns t)) ++ xs ≡ answered (take (suc n) (session_turns u)) ++ ys
    → t.commitment.setup.grant ≡ u.commitment.setup.grant
one_grant params program t u m n xs ys are is also same =
    (grant_code params program are t.commitment.setup.grant u.commitment.setup.grant _ _ is.commitment.setup.grant also.commitment.setup.grant same).0

-- a session with another hello
abbrev pub greeted : Hello → Transcript → Transcript
greeted hello t =
    record t { commitment = record t.commitment { setup = record t.commitment.setup { hello = hello } } }

pub greeted_is : (params : Params) (program : Program) (hello : Hello) (t : Transcript) → IsHello hello → IsTranscript params program t
    → IsTranscript params program (greeted hello t)
greeted_is params program hello t greets is = record {
  commitment = record {
    setup = record {
      hello = greets;
      grant = is.commitment.setup.grant;
      round_count = is.commitment.setup.round_count;
      rounds = is.commitment.setup.rounds;
    };
    count = is.commitment.count;
    elements = is.commitment.elements;
  };
  challenge = is.challenge;
  sum_count = is.sum_count;
  sums = is.sums;
  opening_count = is.opening_count;
  openings = is.openings;
  code = is.code;
  number = is.number;
}

-- the answers of all turns are not those of fewer, since no hello is in them
not_fewer : (params : Params) (program : Program) (t u : Transcript) (n : ℕ) → AreParams params
    → IsTranscript params program t → IsTranscript params program u → n < length (session_turns t)
    → answered (take n (session_turns t)) ≡ answered (session_turns u) → ⊥
not_fewer params program t u zero are is also below same =
    let some = ap length same in omega (arith, some)
not_fewer params program t u (suc n) are is also below same =
    let all = take_all (length us) us (omega arith) in
    let front = ap (λ l. answered l) all in
    let grant = one_grant params program t u n (rounds + 2) [] [] are is also
    (ap (λ l. l ++ []) (same ∙ sym (ap (λ l. answered l) (take_all (suc (rounds + 2)) us (omega (arith, count)))))) in
    let alike = greeted u.commitment.setup.hello t in
    let sized = same_sizes params program u alike also (greeted_is params program u.commitment.setup.hello t also.commitment.setup.hello is) refl (sym grant) in
    let many : length us ≡ length (session_turns t) = as_many us (session_turns alike) sized in
    let most = no_more_turns (length us) (suc n) us (session_turns alike) sized (all_answered params program u also) (omega arith)
    (let left = ap length front in let right = ap length same in omega (arith, left, right)) in
    omega (arith, most, many, below)
  where
    us : List (List ℕ × List ℕ)
    us = session_turns u

    rounds : ℕ
    rounds = rounds_of params.kind

    count : length (session_turns u) ≡ rounds_of params.kind + 3
    count = count_is params program u also

pub cut_is_not_whole : CutIsNotWhole
cut_is_not_whole params program t u log are is also cut whole =
    not_fewer params program t u cut.whole are is also cut.more
    (sym (cut_answered (take cut.whole (session_turns t)) cut.rest) ∙ sym (ap (sent_by Verifier) cut.bytes)
    ∙ ap (sent_by Verifier) whole ∙ sent_by-verifier (session_turns u))

pub cut_is_not_accepted : CutIsNotAccepted
cut_is_not_accepted task t log are is cut accepted =
    cut_is_not_whole task.file.params task.statement.program t accepted.t log are is accepted.in_order.transcript cut accepted.in_order.bytes

pub verdict_is_said : VerdictIsSaid
verdict_is_said params program t u log are is also left right =
    let same = one_transcript params program t u are is also (sym left ∙ right) in
    (ap (λ t. t.code) same, ap (λ t. t.number) same)

pub one_verdict_of_code : OneVerdictOfCode
one_verdict_of_code t Accepted Accepted left right = refl
one_verdict_of_code t Accepted (RejectedSum s) left right = let clash = sym left.code ∙ right.code in absurd (omega (arith, clash))
one_verdict_of_code t Accepted (RejectedOpening o) left right = let clash = sym left.code ∙ right.code in absurd (omega (arith, clash))
one_verdict_of_code t (RejectedSum s) Accepted left right = let clash = sym left.code ∙ right.code in absurd (omega (arith, clash))
one_verdict_of_code t (RejectedSum s) (RejectedSum r) left right = ap RejectedSum (sym left.number ∙ right.number)
one_verdict_of_code t (RejectedSum s) (RejectedOpening o) left right = let clash = sym left.code ∙ right.code in absurd (omega (arith, clash))
one_verdict_of_code t (RejectedOpening o) Accepted left right = let clash = sym left.code ∙ right.code in absurd (omega (arith, clash))
one_verdict_of_code t (RejectedOpening o) (RejectedSum s) left right = let clash = sym left.code ∙ right.code in absurd (omega (arith, clash))
one_verdict_of_code t (RejectedOpening o) (RejectedOpening p) left right = ap RejectedOpening (sym left.number ∙ right.number)
