-- Dealt extended files with two units, over a base of 10 and with one tree of height 1: the honest asks and the
-- verifier's replies of a session, with all hashes and coins. The key is 5.
use Rattle.std.proofs.Common.{◌≡◌, ℕ, ◌+◌, ◌*◌, ◌<◌, Bool, true, false, List, [], ◌∷◌, refl, replicate, map, length, lit<, lit≤}
use Rattle.std.specs.Prelude.{All}
use Rattle.std.specs.List.{range_with_len}
use Rattle.std.proofs.lemmas.List.Elements.{All-from_recursion}
use Rattle.sha2.specs.Sha256.{sha256, digest_bytes, hash_after, compress, rounds, schedule, first_words}
use Rattle.rand_chacha.specs.Block.{block_word, double_rounds, column_round, diagonal_round, quarter_round}
use Rattle.rand_core.specs.Steps.{u32_at}
use Rattle.zk_model.proofs.ExampleTools.{bytes_of}
use Rattle.zk_model.proofs.ExampleFiles.{prover_file_of, verifier_file_of, is_prover_file, is_verifier_file, are_dealt}
use Rattle.zk_model.specs.Field.{IsElement}
use Rattle.zk_model.specs.Bytes.{LeftRight, AreBytes, AreBothBytes}
use Rattle.zk_model.specs.Coins.{coin_word}
use Rattle.zk_model.specs.Mac.{Pair}
use Rattle.zk_model.specs.Tree.{child_of}
use Rattle.zk_model.specs.Files.{Transfer, ProverUnit, VerifierUnit, ProverFile, VerifierFile, AreParams, IsProverUnit, IsVerifierUnit, IsProverFile, IsVerifierFile, AreDealt}
use Rattle.zk_model.specs.Transcript.{Grant, TreeAsk, TreeReply, Round}
use Rattle.zk_model.specs.HonestProver.{round_asks, place_coin}
use Rattle.zk_model.specs.ServedVerifier.{round_replies}
use Rattle.zk_model.specs.declared.Kind.TheVariants.{Extended}
use Rattle.zk_model.specs.declared.Params.{Params}

-- ---- the files

abbrev pub params : Params
params = record { kind = Extended; height = 1; trees = 1; base = 10; total = 2 }

-- the pairs (1, 0), (2, 2), (3, 4) and so on
abbrev pub dealt : List Pair
dealt = map (λ i. record { x = i + 1; m = 2 * i }) (range_with_len 0 11)

abbrev pub prover_unit_of : Bool → ℕ → ProverUnit
prover_unit_of bit byte = record { pairs = dealt; trees = (record { bit = bit; pad = replicate 16 byte } ∷ []) ∷ [] }

abbrev pub prover : ProverFile
prover = prover_file_of params 3 7 (prover_unit_of true 21 ∷ prover_unit_of false 31 ∷ [])

abbrev verifier_unit_of : VerifierUnit
verifier_unit_of = record {
  keys = map (λ i. 7 * i + 5) (range_with_len 0 11);
  trees = (record { left = replicate 16 31; right = replicate 16 21 } ∷ []) ∷ [];
}

abbrev pub verifier : VerifierFile
verifier = verifier_file_of params 7 (verifier_unit_of ∷ verifier_unit_of ∷ [])

-- ---- they are files, dealt together

numbers_fit : AreParams params
numbers_fit = record { some = lit≤ tt; total = lit≤ tt; limits = (lit≤ tt, lit≤ tt, lit≤ tt, lit≤ tt, lit≤ tt, lit≤ tt) }

prover_unit_fits : (bit : Bool) (byte : ℕ) → byte < 256 → IsProverUnit params (prover_unit_of bit byte)
prover_unit_fits bit byte fits = record {
  count = refl;
  elements = All-from_recursion (λ (pair : Pair). IsElement pair.x × IsElement pair.m) dealt
      ((lit< tt, lit< tt), ((lit< tt, lit< tt), ((lit< tt, lit< tt), ((lit< tt, lit< tt), ((lit< tt, lit< tt), ((lit< tt, lit< tt), ((lit< tt, lit< tt), ((lit< tt, lit< tt), ((lit< tt, lit< tt), ((lit< tt, lit< tt), ((lit< tt, lit< tt), tt)))))))))));
  trees = (
    refl,
    All-from_recursion (λ (levels : List Transfer). (length levels ≡ 1) × All (λ transfer. AreBytes 16 transfer.pad) levels)
        ((record { bit = bit; pad = replicate 16 byte } ∷ []) ∷ [])
        ((refl, All-from_recursion (λ (transfer : Transfer). AreBytes 16 transfer.pad) (record { bit = bit; pad = replicate 16 byte } ∷ []) (bytes_of 16 byte fits, tt)), tt),
  );
}

pub prover_file : IsProverFile prover
prover_file = is_prover_file params 3 7 prover.units numbers_fit (lit≤ tt) (lit< tt) (bytes_of 32 7 (lit< tt)) refl
    (prover_unit_fits true 21 (lit< tt), (prover_unit_fits false 31 (lit< tt), tt))

verifier_unit_fits : IsVerifierUnit params verifier_unit_of
verifier_unit_fits = record {
  count = refl;
  elements = All-from_recursion IsElement verifier_unit_of.keys (lit< tt, (lit< tt, (lit< tt, (lit< tt, (lit< tt, (lit< tt, (lit< tt, (lit< tt, (lit< tt, (lit< tt, (lit< tt, tt)))))))))));
  trees = (
    refl,
    All-from_recursion (λ (levels : List LeftRight). (length levels ≡ 1) × All (AreBothBytes 16) levels) verifier_unit_of.trees (
      (
        refl,
        All-from_recursion (AreBothBytes 16) (record { left = replicate 16 31; right = replicate 16 21 } ∷ [])
            ((bytes_of 16 31 (lit< tt), bytes_of 16 21 (lit< tt)), tt),
      ),
      tt,
    ),
  );
}

pub verifier_file : IsVerifierFile verifier
verifier_file = is_verifier_file params 7 verifier.units numbers_fit (lit≤ tt) (bytes_of 32 7 (lit< tt)) refl (verifier_unit_fits, (verifier_unit_fits, tt))

pub files_dealt : AreDealt prover verifier
files_dealt = are_dealt params 3 7 prover.units verifier.units
    (record { keys = refl; pads = ((refl, tt), tt) }, (record { keys = refl; pads = ((refl, tt), tt) }, tt))

-- ---- the round

abbrev pub grant : Grant
grant = record { start = 0; count = 2; section_length = 1048576 }

-- the hidden places are 1 and 0
places : place_coin prover 0 0 ∷ place_coin prover 1 0 ∷ [] ≡ 1 ∷ 0 ∷ []
unfolding coin_word block_word double_rounds column_round diagonal_round quarter_round u32_at
places = refl

abbrev pub first_ask : TreeAsk
first_ask = record { flips = true ∷ []; base_correction = 39456919262213779 }

abbrev pub second_ask : TreeAsk
second_ask = record { flips = true ∷ []; base_correction = 802922946620084849 }

abbrev pub first_messages : LeftRight
first_messages = record {
  left = 157 ∷ 240 ∷ 221 ∷ 20 ∷ 101 ∷ 40 ∷ 133 ∷ 245 ∷ 87 ∷ 44 ∷ 177 ∷ 49 ∷ 250 ∷ 98 ∷ 44 ∷ 93 ∷ [];
  right = 147 ∷ 222 ∷ 252 ∷ 68 ∷ 88 ∷ 90 ∷ 153 ∷ 41 ∷ 180 ∷ 30 ∷ 97 ∷ 99 ∷ 23 ∷ 170 ∷ 67 ∷ 243 ∷ [];
}

abbrev pub second_messages : LeftRight
second_messages = record {
  left = 17 ∷ 168 ∷ 136 ∷ 171 ∷ 98 ∷ 37 ∷ 7 ∷ 148 ∷ 151 ∷ 235 ∷ 227 ∷ 41 ∷ 180 ∷ 98 ∷ 110 ∷ 148 ∷ [];
  right = 184 ∷ 134 ∷ 128 ∷ 179 ∷ 218 ∷ 193 ∷ 131 ∷ 65 ∷ 69 ∷ 43 ∷ 65 ∷ 169 ∷ 111 ∷ 48 ∷ 67 ∷ 43 ∷ [];
}

abbrev pub first_reply : TreeReply
first_reply = record { messages = first_messages ∷ []; leaf_offset = 839466769102563861 }

abbrev pub second_reply : TreeReply
second_reply = record { messages = second_messages ∷ []; leaf_offset = 1731554440533689813 }

abbrev pub round : Round
round = record { asks = (first_ask ∷ []) ∷ (second_ask ∷ []) ∷ []; replies = (first_reply ∷ []) ∷ (second_reply ∷ []) ∷ [] }

pub asked : round.asks ≡ round_asks prover grant
unfolding coin_word block_word double_rounds column_round diagonal_round quarter_round u32_at
asked = refl

pub replied : round.replies ≡ round_replies verifier grant round.asks
unfolding coin_word block_word double_rounds column_round diagonal_round quarter_round u32_at child_of sha256 digest_bytes hash_after compress rounds schedule first_words
replied = refl
