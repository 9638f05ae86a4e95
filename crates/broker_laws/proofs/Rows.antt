-- A file of 100 units: node 1 asks for 3 with number 1, and the Want comes again, before and after a start of the broker.
use Rattle.std.proofs.Common.{◌≡◌, ℕ, ◌-◌, ◌^◌, min, true, false, List, [], ◌∷◌, ◌++◌, replicate, refl, sym, ap, ◌∙◌, arith, None, Some}
use Rattle.std.specs.List.{Contains}
use Rattle.std.specs.Prelude.{Ok}
use Rattle.std.proofs.lemmas.List.Elements.{All-cons, All-nil}
use Rattle.zk_model.specs.declared.Span.{Span}
use Rattle.zk_model.specs.declared.messages.Block.{Block}
use Rattle.zk_model.specs.declared.messages.Want.{Want}
use Rattle.zk_port.specs.Disks.{DiskState}
use Rattle.atomic_table.specs.Seated.{TableId}
use Rattle.lease_core.specs.Spans.{span}
use Rattle.lease_words.specs.Calls.{IsFreshPass, entries_of, greatest_end, number_of}
use Rattle.lease_words.specs.Views.{entry}
use Rattle.lease_words.specs.declared.pass.Pass.{Pass}
use Rattle.lease_store.specs.Leases.{Leased}
use Rattle.claim_store.specs.Claims.{ClaimState, SaysClaims}
use Rattle.broker_core.specs.Messages.{block_of, rounded}
use Rattle.broker_core.specs.declared.message.Message.{Message}
use Rattle.broker_core.specs.declared.message.Message.TheVariants as message
use Rattle.broker_links.specs.declared.reply.Reply.TheVariants as reply
use Rattle.broker_node.specs.NodeStates.{starting, takes_own}
use Rattle.broker_node.specs.Steps.{DrawsInTurn}
use Rattle.broker_service.specs.Turns.{IsReplyStep, Keeping, keeping}
use Rattle.node_grants.specs.Grants.{IsTaken}
use Rattle.broker_laws.specs.BrokerDeeds.{BrokerParty, broker_party, broker_run, raised}
use Rattle.broker_laws.specs.BrokerDeeds as brokers
use Rattle.broker_laws.specs.Histories.{Happened, Parties, of_broker, of_node, parties_at_first, with_node_at}
use Rattle.broker_laws.specs.NodeDeeds.{NodeParty, NodeRun, SaysJournal, node_party, node_run}
use Rattle.broker_laws.specs.NodeDeeds as nodes

abbrev block : ℕ → ℕ → Block
block start count = record { node = 1; number = 1; start = start; count = count }

-- 16 units are leased for 3
row_count : rounded 3 ≡ 16
row_count = refl

-- a broker whose era began at a unit, and whose pass drew nothing, grants the units from there on
row_granted : (base : ℕ) (p q : Pass) (s : Span) → entries_of p ≡ [] → DrawsInTurn base p q → Leased p 16 (Ok s) q → block_of 1 1 s ≡ block base 16
row_granted base p q s none turn l =
    let begins : base ≡ s.start = sym (ap (greatest_end base) none) ∙ turn (entry (number_of p) s.start 16) l.0.entry_is in
    let size = l.1 in
    let count : min (s.end - s.start) (2 ^ 32 - 1) ≡ 16 = omega (arith, size) in
    (λ i. record { node = 1; number = 1; start = sym begins i; count = count i })

-- the first Block is [0, 16), for which the journal keeps the ceiling 16; the same once more leaves it; after the start it is [16, 32), and the ceiling 32
row_first : raised 100 0 16 ≡ 16
row_first = refl

row_again : raised 100 16 16 ≡ 16
row_again = refl

row_restarted : raised 100 16 32 ≡ 32
row_restarted = refl

-- the ceiling for the last units is the total
row_last : raised 100 96 100 ≡ 100
row_last = refl

-- node 1 has taken [0, 16), and takes no other Block of that number
row_taken : takes_own (record { node = 1; own = record { number = 2; block = Some (span 0 16) } }) (block 16 16) ≡ false
row_taken = refl

-- ---- as a history

abbrev want : Want
want = record { node = 1; number = 1; count = 3 }

-- what the calls answer in it
record RowCalls {B C : Type 0} (node_disk : B → DiskState) (broker_disk : C → DiskState) : Type 0 where
  first : TableId
  pass : Pass
  fresh : IsFreshPass first 0 100 0 pass
  one : Keeping
  answers : IsReplyStep broker_disk want (Ok (reply.Block (block 0 16))) (keeping (replicate 2 None) pass) one
  turn : DrawsInTurn 0 pass one.pass
  again : Keeping
  answers_again : IsReplyStep broker_disk want (Ok (reply.Block (block 0 16))) one again
  turn_again : DrawsInTurn 0 one.pass again.pass
  claims : ClaimState B
  total_is : claims.total ≡ 100
  bytes : List ℕ
  left : SaysJournal [] claims bytes
  read : SaysClaims claims.total claims.begin claims.slots claims.claims bytes
  holds : NodeRun B
  takes : IsTaken node_disk (starting 1) claims (block 0 16) (Ok true) holds.node holds.claims
  second : TableId
  next : Pass
  fresh_next : IsFreshPass second 16 100 0 next
  anew : Keeping
  answers_anew : IsReplyStep broker_disk want (Ok (reply.Block (block 16 16))) (keeping (replicate 2 None) next) anew
  turn_anew : DrawsInTurn 16 next anew.pass
  still : NodeRun B
  passes_over : IsTaken node_disk holds.node holds.claims (block 16 16) (Ok false) still.node still.claims

-- They are a history of a broker of two nodes, whose journal then keeps the ceiling 32; and that of node 1 keeps [0, 16).
row_happened : {B C : Type 0} (node_disk : B → DiskState) (broker_disk : C → DiskState) (c : RowCalls node_disk broker_disk)
    → (last : Parties B)
    × Happened node_disk broker_disk 100 2 (
    of_broker (brokers.starts c.pass) ∷ of_node 1 (nodes.starts c.claims) ∷ of_node 1 (nodes.asks want)
    ∷ of_broker (brokers.replies want (Ok (reply.Block (block 0 16))) false c.one)
    ∷ of_broker (brokers.replies want (Ok (reply.Block (block 0 16))) false c.again)
    ∷ of_node 1 (nodes.meets (block 0 16) (Ok true) false c.holds)
    ∷ of_broker (brokers.starts c.next)
    ∷ of_broker (brokers.replies want (Ok (reply.Block (block 16 16))) false c.anew)
    ∷ of_node 1 (nodes.meets (block 16 16) (Ok false) false c.still) ∷ []
    ) parties_at_first last
    × (last.broker.ceiling ≡ 32) × ((last.nodes 1).journal ≡ span 0 16 ∷ [])
row_happened {B} node_disk broker_disk c =
    let b1 : BrokerParty = broker_party 0 (Some (broker_run 0 (keeping (replicate 2 None) c.pass))) in
    let n1 : NodeParty B = node_party [] (Some (node_run (starting 1) c.claims)) in
    let b2 : BrokerParty = broker_party 16 (Some (broker_run 0 c.one)) in
    let b3 : BrokerParty = broker_party 16 (Some (broker_run 0 c.again)) in
    let n2 : NodeParty B = node_party (span 0 16 ∷ []) (Some c.holds) in
    let b4 : BrokerParty = broker_party 16 (Some (broker_run 16 (keeping (replicate 2 None) c.next))) in
    let b5 : BrokerParty = broker_party 32 (Some (broker_run 16 c.anew)) in
    let n3 : NodeParty B = node_party (span 0 16 ∷ []) (Some c.still) in
    let s0 : Parties B = parties_at_first in
    let s1 : Parties B = record s0 { broker = b1; sent = s0.sent ++ [] } in
    let s2 : Parties B = record s1 { nodes = with_node_at 1 n1 s1.nodes; sent = s1.sent ++ [] } in
    let s3 : Parties B = record s2 { nodes = with_node_at 1 n1 s2.nodes; sent = s2.sent ++ message.Want want ∷ [] } in
    let s4 : Parties B = record s3 { broker = b2; sent = s3.sent ++ message.Block (block 0 16) ∷ [] } in
    let s5 : Parties B = record s4 { broker = b3; sent = s4.sent ++ message.Block (block 0 16) ∷ [] } in
    let s6 : Parties B = record s5 { nodes = with_node_at 1 n2 s5.nodes; sent = s5.sent ++ [] } in
    let s7 : Parties B = record s6 { broker = b4; sent = s6.sent ++ [] } in
    let s8 : Parties B = record s7 { broker = b5; sent = s7.sent ++ message.Block (block 16 16) ∷ [] } in
    let s9 : Parties B = record s8 { nodes = with_node_at 1 n3 s8.nodes; sent = s8.sent ++ [] } in
    let wants : List Message → Want → Type 0 = λ sent w. Contains sent (message.Want w) in
    let blocks : List Message → Block → Type 0 = λ sent b. Contains sent (message.Block b) in (
      s9,
      (
        s1,
        record { now = b1; did = record { table = c.first; number = 0; fresh = c.fresh; becomes = refl }; came = All-nil (wants s0.sent); goes = refl },
        (
          s2,
          record {
            there = omega arith;
            now = n1;
            did = record { total_is = c.total_is; bytes = c.bytes; left = c.left; read = c.read; becomes = refl };
            came = All-nil (blocks s1.sent);
            goes = refl;
          },
          (
            s3,
            record { there = omega arith; now = n1; did = ((refl, omega arith, omega arith), refl); came = All-nil (blocks s2.sent); goes = refl },
            (
              s4,
              record {
                now = b2;
                did = record { step = c.answers; turn = c.turn; becomes = refl };
                came = All-cons (wants s3.sent) want [] (0, omega arith, refl) (All-nil (wants s3.sent));
                goes = refl;
              },
              (
                s5,
                record {
                  now = b3;
                  did = record { step = c.answers_again; turn = c.turn_again; becomes = refl };
                  came = All-cons (wants s4.sent) want [] (0, omega arith, refl) (All-nil (wants s4.sent));
                  goes = refl;
                },
                (
                  s6,
                  record {
                    there = omega arith;
                    now = n2;
                    did = (c.takes, refl);
                    came = All-cons (blocks s5.sent) (block 0 16) [] (1, omega arith, refl) (All-nil (blocks s5.sent));
                    goes = refl;
                  },
                  (
                    s7,
                    record { now = b4; did = record { table = c.second; number = 0; fresh = c.fresh_next; becomes = refl }; came = All-nil (wants s6.sent); goes = refl },
                    (
                      s8,
                      record {
                        now = b5;
                        did = record { step = c.answers_anew; turn = c.turn_anew; becomes = refl };
                        came = All-cons (wants s7.sent) want [] (0, omega arith, refl) (All-nil (wants s7.sent));
                        goes = refl;
                      },
                      (
                        s9,
                        record {
                          there = omega arith;
                          now = n3;
                          did = (c.passes_over, refl);
                          came = All-cons (blocks s8.sent) (block 16 16) [] (3, omega arith, refl) (All-nil (blocks s8.sent));
                          goes = refl;
                        },
                        refl,
                      ),
                    ),
                  ),
                ),
              ),
            ),
          ),
        ),
      ),
      refl,
      refl,
    )
