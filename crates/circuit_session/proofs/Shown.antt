-- A statement is a claim that acceptance shows.
use Rattle.std.proofs.Common.{◌≡◌, ℕ, ◌≤◌, List, [], map, length, refl, sym, ◌∙◌, ap, subst, arith}
use Rattle.std.specs.Prelude.{None}
use Rattle.std.proofs.lemmas.List.{length-map}
use Rattle.zk_model.specs.Field.{IsElement}
use Rattle.zk_model.specs.Mac.{Pair, fitting_key, AreKeysOf, corrected_pairs}
use Rattle.zk_model.specs.Statement.{Statement, IsStatement}
use Rattle.zk_model.specs.Transcript.{Transcript}
use Rattle.zk_model.specs.Check.{AllSectionsHold, AllOpeningsHold}
use Rattle.zk_model.specs.View.{View}
use Rattle.session_core.specs.declared.judgement.Judgement.TheVariants.{Accepted}
use Rattle.session_claim.specs.Claims.{Exchange, IsExchange, IsSound, claim_needs}
use Rattle.circuit_session.specs.Statements.{AreWireKeys, IsJudgedBy, IsViewOf, IsTranscriptOf, IsExtractedFrom, exchange_products, exchange_openings, sums_in, macs_in, statement_claim}
use Rattle.circuit_session.proofs.Ends.{AreEnds}
use Rattle.circuit_session.proofs.Findings.{AreAccepted, given_count, view_exists, finding_exists, finding_shows}

-- a transcript of an exchange, of no hello, no units and no rounds
abbrev transcript_of : Exchange → List (ℕ × ℕ) → List ℕ → Transcript
transcript_of exchange both macs = record {
  commitment = record {
    setup = record {
      hello = record { id = []; circuit = []; outputs = []; version = 0; public = None };
      grant = record { start = 0; count = 0; section_length = exchange.section_length };
      rounds = [];
    };
    corrections = exchange.corrections;
  };
  challenge = exchange.challenge;
  sums = both;
  openings = macs;
  code = 0;
  number = 0;
}

module _ (statement : Statement) (key : ℕ) (pairs : List Pair) (keys : List ℕ) (exchange : Exchange) (t : Transcript)
    (stated : IsStatement statement) (element : IsElement key) (fit : AreKeysOf key pairs keys)
    (enough : claim_needs (statement_claim statement) exchange.section_length ≤ length keys)
    (whole : IsExchange (statement_claim statement) exchange)
    (judged : IsJudgedBy statement key keys exchange Accepted) (is : IsTranscriptOf exchange t) where
  -- the sums and the MACs are those of the transcript
  sums_are : judged.both ≡ t.sums
  sums_are = ap sums_in (sym judged.answers ∙ is.answers)

  macs_are : judged.macs ≡ t.openings
  macs_are = ap macs_in (sym judged.answers ∙ is.answers)

  -- there is a given value for each correction
  counted : length (corrected_pairs pairs t.commitment.corrections) ≡ statement.program.givens
  counted =
      let many = ap length fit ∙ length-map pairs (fitting_key key) in
      given_count pairs t.commitment.corrections statement.program.givens
      (ap length is.corrections ∙ whole.corrections.counted) (omega (arith, enough, many))

  -- what the ends hold, of any view
  ends : (view : View) → IsViewOf statement pairs t.commitment.corrections view
      → AreEnds key statement keys t.commitment.corrections view judged.wires
  ends view seen = record {
    element = element;
    stated = stated;
    given = seen.given ∙ ap (λ l. corrected_pairs l t.commitment.corrections) (sym seen.pairs_are);
    carried = seen.carried;
    fit = fit ∙ ap (map (fitting_key key)) (sym seen.pairs_are);
    theirs = subst (λ (l : List ℕ). AreWireKeys statement key keys l judged.wires) (sym is.corrections) judged.carried;
  }

  accepted : (view : View) → IsViewOf statement pairs t.commitment.corrections view → AreAccepted key statement keys t view judged.wires
  accepted view seen = record {
    ends = ends view seen;
    some = subst (λ n. 1 ≤ n) (sym is.section_length) judged.some;
    count = ap length seen.given ∙ counted;
    sections = subst (λ (T : Type 0). T) sections_same judged.judged.0.0;
    openings = subst (λ (T : Type 0). T) openings_same judged.judged.0.1;
  }
    where
      transcribed : Exchange
      transcribed = record {
        section_length = t.commitment.setup.grant.section_length;
        corrections = t.commitment.corrections;
        challenge = t.challenge;
        answers = exchange.answers;
      }

      same : exchange ≡ transcribed
      same i = record {
        section_length = sym is.section_length i;
        corrections = sym is.corrections i;
        challenge = sym is.challenge i;
        answers = exchange.answers;
      }

      sections_same : AllSectionsHold (exchange_products statement key keys exchange judged.both judged.wires)
          ≡ AllSectionsHold (exchange_products statement key keys transcribed t.sums judged.wires)
      sections_same i = AllSectionsHold (exchange_products statement key keys (same i) (sums_are i) judged.wires)

      openings_same : AllOpeningsHold (exchange_openings statement key judged.macs judged.wires)
          ≡ AllOpeningsHold (exchange_openings statement key t.openings judged.wires)
      openings_same i = AllOpeningsHold (exchange_openings statement key (macs_are i) judged.wires)

  -- there is a finding, and every finding shows what it says
  extracted : IsExtractedFrom statement pairs key t
  extracted =
      let view = view_exists statement pairs t.commitment.corrections stated counted in
      let found = finding_exists statement t view.0 in
      record {
        finding = found.0;
        found = record { view = view.0; seen = view.1; gives = found.1 };
        shows = λ other by. finding_shows key statement keys t by.view judged.wires (accepted by.view by.seen) other by.gives;
      }

pub statement_is_sound : (statement : Statement) → IsStatement statement → IsSound (statement_claim statement)
statement_is_sound statement stated key pairs keys exchange element fit enough whole judged = record {
  transcript = transcript_of exchange judged.both judged.macs;
  whole = record { section_length = refl; corrections = refl; challenge = refl; answers = judged.answers };
  each = λ t is. extracted statement key pairs keys exchange t stated element fit enough whole judged is;
}
