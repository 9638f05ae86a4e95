-- What an honest prover sends.
use Rattle.std.specs.Prelude.{◌≡◌, ℕ, zero, suc, ◌+◌, ◌*◌, ◌%◌, ◌^◌, ◌<◌, ◌≤◌, not, List, map, flat_map, zip, take, length, All}
use Rattle.std.specs.List.{range_with_len, enumerate_from}
use Rattle.zk_model.specs.Field.{◌-ₚ◌, from_word}
use Rattle.zk_model.specs.Program.{Solves}
use Rattle.zk_model.specs.Statement.{Statement}
use Rattle.zk_model.specs.Mac.{Pair, pair_at, macs_of}
use Rattle.zk_model.specs.Coins.{coin_word}
use Rattle.zk_model.specs.Tree.{path_to}
use Rattle.zk_model.specs.Extension.{flip_for}
use Rattle.zk_model.specs.Files.{Transfer, ProverFile, prover_unit}
use Rattle.zk_model.specs.Transcript.{Grant, TreeAsk, Transcript, IsTranscript, wanted_hello, hello_frame, session_turns, BeginsWith}
use Rattle.zk_model.specs.Check.{all_sums, opened_pairs}
use Rattle.zk_model.specs.View.{View, IsView, view_masks}

-- ---- the asks of an extension

-- the hidden place of a tree, from the prover's coins
abbrev pub place_coin : ProverFile → ℕ → ℕ → ℕ
place_coin file unit tree = coin_word file.coin_key (4 * unit + 2) (2 * tree) % 2 ^ file.params.height

-- and the value that the base is corrected to
abbrev pub noise_coin : ProverFile → ℕ → ℕ → ℕ
noise_coin file unit tree = from_word (coin_word file.coin_key (4 * unit + 2) (2 * tree + 1))

-- the ask for a tree: on each level the side away from its place is chosen, and the base value becomes the noise
abbrev pub honest_ask : ProverFile → ℕ → ℕ → List Transfer → TreeAsk
honest_ask file unit tree transfers = record {
  flips = map (λ q. flip_for q.1.bit (not q.0)) (zip (path_to file.params.height (place_coin file unit tree)) transfers);
  base_correction = noise_coin file unit tree -ₚ base.x;
}
  where
    base : Pair
    base = pair_at (prover_unit file unit).pairs (file.params.base + tree)

-- the asks for all trees of a unit
abbrev pub honest_asks : ProverFile → ℕ → List TreeAsk
honest_asks file unit =
    map (λ entry. honest_ask file unit entry.0 entry.1) (enumerate_from 0 (prover_unit file unit).trees)

-- the asks of all units of a grant
abbrev pub round_asks : ProverFile → Grant → List (List TreeAsk)
round_asks file grant = map (honest_asks file) (range_with_len grant.start grant.count)

-- ---- the whole prover

-- what an honest prover has: a file, a statement, and inputs
pub record ProverTask : Type 0 where
  pub file : ProverFile
  pub statement : Statement
  pub inputs : List ℕ

-- values of all wires and given values that solve the program with these inputs
pub record IsWitness (statement : Statement) (inputs wires given : List ℕ) : Type 0 where
  pub solves : Solves statement.program statement.public wires given
  pub inputs_are : take statement.program.inputs given ≡ inputs

-- the corrections that turn the dealt values into the given ones
abbrev pub honest_corrections : List ℕ → List Pair → List ℕ
honest_corrections given pairs = map (λ q. q.0 -ₚ q.1.x) (zip given pairs)

-- the prover's frames of a session are those of an honest prover, whose values solve the program
pub record IsHonest (task : ProverTask) (t : Transcript) : Type 0 where
  pub hello : t.commitment.setup.hello ≡ wanted_hello task.file.id task.statement
  pub asks : All (λ round. round.asks ≡ round_asks task.file t.commitment.setup.grant) t.commitment.setup.rounds
  pub wires : List ℕ
  pub given : List ℕ
  pub witness : IsWitness task.statement task.inputs wires given
  pub view : View
  pub seen : IsView task.file task.statement t.commitment view
  pub corrections : t.commitment.corrections ≡ honest_corrections given view.pairs
  pub sums : t.sums ≡ all_sums task.statement.program t.commitment.setup.grant.section_length t.challenge view.carried
      (view_masks task.statement.program view)
  pub openings : t.openings ≡ macs_of (opened_pairs task.statement.program view.carried)

-- What an honest prover has sent once the verifier's first n turns have come: its hello, and after each
-- turn its next one. Later turns may be any, since nothing that was sent depends on them.
abbrev pub SentAfter : ProverTask → List ℕ → ℕ → List ℕ → Type 0
SentAfter task received zero sent = sent ≡ hello_frame (wanted_hello task.file.id task.statement)
SentAfter task received (suc n) sent = (t : Transcript)
    × IsTranscript task.file.params task.statement.program t
    × IsHonest task t
    × (n < length (session_turns t))
    × BeginsWith received (flat_map (λ turn. turn.1) (take (suc n) (session_turns t)))
    × (sent ≡ flat_map (λ turn. turn.0) (take (suc (suc n)) (session_turns t)))

-- what an honest prover sends when these bytes and no more have come: its answer to all whole turns among them
pub record AreHonestBytes (task : ProverTask) (received : List ℕ) (sent : List ℕ) : Type 0 where
  pub turns : ℕ
  pub answer : SentAfter task received turns sent
  pub most : (more : ℕ) (other : List ℕ) → SentAfter task received more other → more ≤ turns
