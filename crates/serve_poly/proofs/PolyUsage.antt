-- No service of constraints ends with the status of words that ask for nothing.
use Rattle.std.proofs.Common.{◌≡◌, ◌⊎◌, ℕ, List, Option, Some, None, sym, ◌∙◌, inl, inr, arith, refl}
use Rattle.zk_port.specs.Links.{LinkState}
use Rattle.dealer_files.specs.declared.fault.FileFault.TheVariants as file
use Rattle.session_verifier.specs.declared.note.SessionNote.{SessionNote}
use Rattle.command_words.specs.Words.{ServePolyAsk}
use Rattle.file_commands.specs.Effects.{DoorChange, Effects, ShelfChange}
use Rattle.file_commands.specs.Journals.{DiskChange}
use Rattle.file_commands.specs.Stops.{stop_status}
use Rattle.file_commands.specs.declared.refusal.Refusal.{Refusal}
use Rattle.file_commands.specs.declared.refusal.Refusal.TheVariants as stop
use Rattle.file_commands.proofs.Means.{file_status}
use Rattle.serve_poly.specs.PolyServices.{PolyServiceMeans, ServePolyStop, ServesPoly}

unused : (ask : ServePolyAsk) (shelf : ShelfChange) (disk : DiskChange) (door : DoorChange) → ServePolyStop ask shelf disk door stop.Usage → ⊥
unused ask shelf disk door (inl (inl lacks, untouched, unheard)) = absurd lacks
unused ask shelf disk door (inl (inr lacks, untouched, unheard)) = absurd lacks.3
unused ask shelf disk door (inr (served, stands, inl cause)) = absurd cause.0
unused ask shelf disk door (inr (served, stands, inr cause)) = elim cause.1.1 [ inl journal ↦ absurd journal.0 | inr silent ↦ absurd silent ]

-- no other stop has that status
stop_no : (ask : ServePolyAsk) (shelf : ShelfChange) (disk : DiskChange) (door : DoorChange) (why : Refusal) → ServePolyStop ask shelf disk door why
    → 2 ≡ stop_status why → ⊥
stop_no ask shelf disk door stop.Usage cause at = unused ask shelf disk door cause
stop_no ask shelf disk door (stop.BadFile fault) cause at = elim (file_status fault) [ inl e ↦ omega (arith, at, e) | inr e ↦ omega (arith, at, e) ]
stop_no ask shelf disk door stop.NoMemory cause at = omega (arith, at)
stop_no ask shelf disk door (stop.BadText fault) cause at = omega (arith, at)
stop_no ask shelf disk door (stop.TooLong limit) cause at = omega (arith, at)
stop_no ask shelf disk door (stop.ManyPublic inputs got) cause at = omega (arith, at)
stop_no ask shelf disk door (stop.WrongBits need got) cause at = omega (arith, at)
stop_no ask shelf disk door (stop.WrongOutputs need got) cause at = omega (arith, at)
stop_no ask shelf disk door (stop.BadElements fault) cause at = omega (arith, at)
stop_no ask shelf disk door (stop.BadConstraints fault) cause at = omega (arith, at)
stop_no ask shelf disk door (stop.Unsatisfied output) cause at = omega (arith, at)
stop_no ask shelf disk door (stop.TooLarge need units) cause at = omega (arith, at)
stop_no ask shelf disk door (stop.NotDealt unit) cause at = omega (arith, at)
stop_no ask shelf disk door (stop.BadLog place) cause at = omega (arith, at)
stop_no ask shelf disk door (stop.StatementLine line) cause at = omega (arith, at)
stop_no ask shelf disk door (stop.StatementCount lines) cause at = omega (arith, at)
stop_no ask shelf disk door stop.ShelfFailed cause at = omega (arith, at)
stop_no ask shelf disk door stop.DoorFailed cause at = omega (arith, at)
stop_no ask shelf disk door (stop.JournalShort need got) cause at = omega (arith, at)
stop_no ask shelf disk door (stop.JournalHeader place) cause at = omega (arith, at)
stop_no ask shelf disk door (stop.JournalBody slot) cause at = omega (arith, at)
stop_no ask shelf disk door (stop.JournalFailed count) cause at = omega (arith, at)

module _ {L : Type 0} (ask : ServePolyAsk) (disk : DiskChange) (door : DoorChange) (run : Effects) where
  means_no : (notes : Option (List (SessionNote L))) → PolyServiceMeans ask notes disk door run → run.status ≡ 2 → ⊥
  means_no (Some notes) (inl zero_is) two = let is = zero_is.0 in omega (arith, is, two)
  means_no (Some notes) (inr (inl one)) two = let is = one.0 in omega (arith, is, two)
  means_no (Some notes) (inr (inr (inl four))) two = let is = four.0 in omega (arith, is, two)
  means_no (Some notes) (inr (inr (inr (inl five)))) two = let is = five.0 in omega (arith, is, two)
  means_no (Some notes) (inr (inr (inr (inr (inl six))))) two = let is = six.0 in omega (arith, is, two)
  means_no (Some notes) (inr (inr (inr (inr (inr seven))))) two = omega (arith, seven, two)
  means_no None (inl stopped) two = stop_no ask run.shelf disk door stopped.0 stopped.1 (sym two ∙ stopped.2)
  means_no None (inr seven) two = omega (arith, seven, two)

pub serve_two : {L : Type 0} (link_tells : L → LinkState) (ask : ServePolyAsk) (notes : Option (List (SessionNote L))) (disk : DiskChange) (door : DoorChange)
    (run : Effects) → ServesPoly link_tells ask notes disk door run → run.status ≡ 2 → ⊥
serve_two link_tells ask notes disk door run serves two = means_no ask disk door run notes serves.means two
