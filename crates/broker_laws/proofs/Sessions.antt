-- Sessions of a node are a list of its deeds.
use Rattle.std.proofs.Common.{◌≡◌, ℕ, zero, suc, ◌≤◌, Bool, List, [], ◌∷◌, ◌++◌, map, refl, sym, ap, ◌∙◌, subst, Option, None, Some}
use Rattle.std.specs.List.{AllZip, flat_map}
use Rattle.std.specs.Prelude.{MatchOption, Result, Ok, Err}
use Rattle.std.proofs.lemmas.Grind.{flat_map-append}
use Rattle.std.proofs.lemmas.List.{append-nil}
use Rattle.std.proofs.lemmas.List.Elements.{All-append, All-nil}
use Rattle.std.proofs.lemmas.List.Folds.{flat_map-map}
use Rattle.zk_model.specs.declared.Span.{Span}
use Rattle.zk_model.specs.declared.messages.Block.{Block}
use Rattle.zk_model.specs.declared.messages.Want.{Want}
use Rattle.zk_port.specs.Disks.{DiskState}
use Rattle.zk_port.specs.Links.{LinkState}
use Rattle.lease_store.specs.declared.grantor.GrantFault.{GrantFault}
use Rattle.broker_links.specs.declared.note.Try.{Try}
use Rattle.session_core.specs.Jobs.{VerifierJobs}
use Rattle.session_pool.specs.Notes.{granted_by}
use Rattle.session_verifier.specs.declared.note.SessionNote.{SessionNote}
use Rattle.node_grants.specs.Desks.{Desk}
use Rattle.node_grants.specs.Grants.{IsGrantOf, Ports, ports_of}
use Rattle.node_sessions.specs.Sessions.{HaveLed, IsLed, LeadsNext, size_of}
use Rattle.broker_laws.specs.Histories.{of_node, units_by, units_in}
use Rattle.broker_laws.specs.Laws.{DrawsNoUnitTwice, GrantsByDeeds, LogsWant, all_brought, brought_by, granted_in}
use Rattle.broker_laws.specs.NodeDeeds.{AreNodeDeeds, IsWithinRun, NodeDeed, NodeParty, all_asked, all_came, all_drawn, asked_in, came_in, drawn_in, node_party, node_run}
use Rattle.broker_laws.specs.Sessions.{LeadsByDeeds, SessionRun, SessionsAreDeeds, SessionsGrantOnce, all_granted, all_tries, deeds_of, granted_to}
use Rattle.broker_laws.proofs.Chains.{node_deeds_more, zip_more}
use Rattle.broker_laws.proofs.Grants.{grant_by_deeds}
use Rattle.broker_laws.proofs.Interleaved.{draws_first, runs_draw_once}

-- what a grant grants is what the note says
granted_alike : (answer : Result Span GrantFault) → granted_in answer ≡ granted_to (granted_by (Some answer))
granted_alike (Ok s) = refl
granted_alike (Err fault) = refl

-- the units that a node's deeds draw are those that a history of these deeds draws
units_of_node : {B : Type 0} (number : ℕ) (deeds : List (NodeDeed B)) → units_in (map (of_node number) deeds) ≡ all_drawn deeds
units_of_node number deeds = flat_map-map units_by (of_node number) deeds

module _ {B L : Type 0} (ports : Ports B L) (jobs : VerifierJobs) (total number : ℕ) (kept : Bool) where
  abbrev running : List Span → Desk B L → NodeParty B
  running journal d = node_party journal (Some (node_run d.node d.claims))

  -- one session
  one_session : (journal : List Span) (old new : Desk B L) (note : SessionNote L) → LeadsNext ports jobs old new note
      → LeadsByDeeds ports.state total number kept journal old new (note ∷ [])
  one_session journal old new note next = by_answer next.led.answer next.led.moved next.led.granted where
    first : Desk B L
    first = record old { door = next.door; tries = [] }

    some_tries : all_tries (note ∷ []) ≡ new.tries
    some_tries = append-nil note.tries.items ∙ next.led.tries

    by_answer : (answer : Option (Result Span GrantFault))
        → MatchOption answer (new ≡ record old { door = next.door; tries = [] })
        (λ a. IsGrantOf ports (size_of jobs note) a (record old { door = next.door; tries = [] }) new)
        → note.granted ≡ granted_by answer → LeadsByDeeds ports.state total number kept journal old new (note ∷ [])
    by_answer None same granted =
        let none : all_tries (note ∷ []) ≡ [] = append-nil note.tries.items ∙ next.led.tries ∙ ap (λ (d : Desk B L). d.tries) same in
        record {
          deeds = [];
          left = journal;
          did = ap (running journal) same;
          asked = subst (λ (ts : List (Try L)). AllZip (λ want (t : Try L). LogsWant want t.log) [] ts) (sym none) tt;
          came = ap all_brought (sym none);
          drawn = ap (λ (o : Option Span). granted_to o ++ []) (sym granted);
          within = All-nil (IsWithinRun kept);
        }
    by_answer (Some a) moved granted =
        let g = grant_by_deeds ports (size_of jobs note) total number kept next.led.least next.led.most a journal
        (record old { door = next.door; tries = [] }) new moved in
        let are : all_tries (note ∷ []) ≡ g.tries = append-nil note.tries.items ∙ next.led.tries ∙ g.made in
        record {
          deeds = g.deeds;
          left = g.left;
          did = g.did;
          asked = subst (λ (ts : List (Try L)). AllZip (λ want (t : Try L). LogsWant want t.log) (all_asked g.deeds) ts) (sym are) g.asked;
          came = g.came ∙ ap all_brought (sym are);
          drawn = units_of_node number g.deeds ∙ g.drawn ∙ granted_alike a ∙ sym (append-nil (granted_to (granted_by (Some a))))
              ∙ ap (λ (o : Option Span). granted_to o ++ []) (sym granted);
          within = g.within;
        }

  -- so many, one after another
  pub sessions_by_deeds : (n : ℕ) (journal : List Span) (old new : Desk B L) (notes : List (SessionNote L)) → HaveLed ports jobs n old new notes
      → LeadsByDeeds ports.state total number kept journal old new notes
  sessions_by_deeds zero journal old new notes (same, none) = subst (λ (ns : List (SessionNote L)). LeadsByDeeds ports.state total number kept journal old new ns) (sym none) (record {
    deeds = [];
    left = journal;
    did = ap (running journal) same;
    asked = tt;
    came = refl;
    drawn = refl;
    within = All-nil (IsWithinRun kept);
  })
  sessions_by_deeds (suc n) journal old new notes (mid, before, last, led, next, are) =
      let first = sessions_by_deeds n journal old mid before led in
      let more = one_session first.left mid new last next in
      subst (λ (ns : List (SessionNote L)). LeadsByDeeds ports.state total number kept journal old new ns) (sym are) (record {
        deeds = first.deeds ++ more.deeds;
        left = more.left;
        did = node_deeds_more ports.state total number first.deeds more.deeds (running journal old) (running first.left mid) (running more.left new) first.did more.did;
        asked = subst (λ (wants : List Want). AllZip (λ want (t : Try L). LogsWant want t.log) wants (all_tries (before ++ last ∷ [])))
            (sym (flat_map-append asked_in first.deeds more.deeds))
            (subst (λ (ts : List (Try L)). AllZip (λ want (t : Try L). LogsWant want t.log) (all_asked first.deeds ++ all_asked more.deeds) ts)
            (sym (flat_map-append (λ (x : SessionNote L). x.tries.items) before (last ∷ [])))
            (zip_more (λ want (t : Try L). LogsWant want t.log) (all_asked first.deeds) (all_asked more.deeds) (all_tries before) (all_tries (last ∷ [])) first.asked more.asked));
        came = flat_map-append came_in first.deeds more.deeds ∙ (λ i. first.came i ++ more.came i)
            ∙ sym (ap all_brought (flat_map-append (λ (x : SessionNote L). x.tries.items) before (last ∷ []))
            ∙ flat_map-append (λ (t : Try L). brought_by t.outcome) (all_tries before) (all_tries (last ∷ [])));
        drawn = units_of_node number (first.deeds ++ more.deeds) ∙ flat_map-append drawn_in first.deeds more.deeds
            ∙ (λ i. sym (units_of_node number first.deeds) i ++ sym (units_of_node number more.deeds) i) ∙ (λ i. first.drawn i ++ more.drawn i)
            ∙ sym (flat_map-append (λ (x : SessionNote L). granted_to x.granted) before (last ∷ []));
        within = All-append (IsWithinRun kept) first.deeds more.deeds first.within more.within;
      })

pub sessions_are_deeds : {B L : Type 0} (tells : L → LinkState) (state : B → DiskState) → SessionsAreDeeds tells state
sessions_are_deeds tells state broker patience jobs sessions total number kept journal old new notes led =
    sessions_by_deeds (ports_of tells state broker patience) jobs total number kept sessions journal old new notes led

-- what the runs' deeds draw is what their sessions were granted
drawn_by_runs : {B L : Type 0} {state : B → DiskState} {total : ℕ} (runs : List (SessionRun B L state total))
    → flat_map units_in (map deeds_of runs) ≡ flat_map (λ run. all_granted run.notes) runs
drawn_by_runs [] = refl
drawn_by_runs (run ∷ runs) = λ i. run.led.drawn i ++ drawn_by_runs runs i

pub sessions_grant_once : {B C : Type 0} (L : Type 0) (node_disk : B → DiskState) (broker_disk : C → DiskState) → SessionsGrantOnce L node_disk broker_disk
sessions_grant_once L node_disk broker_disk total nodes history last runs others happened mixed =
    let once = runs_draw_once node_disk broker_disk total nodes history last (map deeds_of runs ++ others) happened mixed in
    subst (DrawsNoUnitTwice last.broker.ceiling) (drawn_by_runs runs)
    (draws_first last.broker.ceiling (flat_map units_in (map deeds_of runs)) (flat_map units_in others)
    (subst (DrawsNoUnitTwice last.broker.ceiling) (flat_map-append units_in (map deeds_of runs) others) once))
