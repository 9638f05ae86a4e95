use Rattle.std.proofs.Common.{rules, ◌≡◌, ◌+◌, ◌-◌, ◌≤◌, List, ℕ, ◌++◌, length, get_or, sym, ap, ◌∙◌, arith, append_assoc, subst, take-append-drop}
use Rattle.std.specs.Prelude.{All}
use Rattle.std.proofs.lemmas.Bool.{false≢true}
use Rattle.std.proofs.lemmas.List.Elements.{All-from_get_or, All-take}
use Rattle.zk_model.specs.Frames.{frame_length}
use Rattle.proof_frames.specs.Holding.{bytes_of, is_list}
use Rattle.proof_frames.specs.Rows.{free, payload_fields}
use Rattle.proof_frames.proofs.Fields.{slots}
use Rattle.proof_frames.proofs.Kept.{raw_room, raw_run, run_left}
use Rattle.proof_frames.proofs.EveryRow.{same_list}
use Rattle.proof_frames.proofs.Lengths.{short_row}
use Rattle.proof_frames.proofs.Octets.{IsByte}
use Rattle.proof_frames.proofs.held.Held.take_free.Goals as goal

pub free_run-requires-clause-short : goal.free_run-requires-clause-short
free_run-requires-clause-short c = rw c.requires.payload (short_row c.args.place _ c.requires.holds.short)

pub free_run-requires-clause-within : goal.free_run-requires-clause-within
free_run-requires-clause-within c =
    let old = c.args.self.now in
    let left = run_left c.args.place old c.args.piece.now (omega (arith, old.start.ok.0)) c.requires.within in
    rw c.requires.payload (omega (arith, left, old.start.ok.0))

pub push_bytes-requires : goal.push_bytes-requires
push_bytes-requires c =
    let old = c.args.self.now in
    let raw = sym c.requires.raw ∙ ap is_list c.requires.payload ∙ same_list c.args.place _ in
    let room = raw_room c.args.place old c.args.piece.now c.requires.holds (λ list. absurd (false≢true (raw ∙ list))) c.requires.within in
    omega (arith, room, old.start.ok.0, c.split_at.ensures.front_len, c.min-run.ensures)

pub returns : goal.returns
returns c =
    let old = c.args.self.now in
    let piece : List ℕ = c.args.piece.now in
    let front : List ℕ = c.split_at.result.0.now in
    let behind : List ℕ = c.split_at.result.1.now in
    let n = c.min-run.result in
    let whole : front ++ behind ≡ piece = (λ i. c.split_at.ensures.front i ++ c.split_at.ensures.back i) ∙ take-append-drop n piece in
    let bytes : All IsByte front =
    subst (All IsByte) (sym c.split_at.ensures.front) (All-take IsByte n piece (All-from_get_or IsByte piece 0 (λ i less. omega (arith, c.type_inv.piece i)))) in
    let len : c.len.result ≡ length old.start.items = omega (arith, old.start.ok.0) in
    let run = raw_run c.args.place old.start.items old.elements.items old.part.items front behind c.args.payload c.requires.payload c.requires.raw (omega (arith, old.start.ok.0))
    c.requires.holds.begun c.requires.holds.kept bytes
    (λ j less. ap (λ k. get_or (slots (payload_fields c.args.payload)) (k - 5 + j) free) (sym len) ∙ c.free_run.ensures j (omega (arith, less, c.split_at.ensures.front_len, c.min-run.ensures)))
    (subst (λ (l : List ℕ). length (bytes_of old ++ l) ≤ frame_length c.args.place (bytes_of old ++ l)) (sym whole) c.requires.within) in
    record {
      holds = record {
        short = c.requires.holds.short;
        begun = rw c.push_bytes.ensures.items run.0;
        kept = rw c.push_bytes.ensures.items run.2;
        room = record { start = omega (arith, c.requires.holds.room.start, c.push_bytes.ensures.capacity); elements = c.requires.holds.room.elements; part = c.requires.holds.room.part };
      };
      bytes = rw c.push_bytes.ensures.items (ap (λ l. l ++ behind) run.1 ∙ append_assoc (bytes_of old) front behind ∙ ap (λ l. bytes_of old ++ l) whole);
      less = search rules;
    }
