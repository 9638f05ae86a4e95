-- What the outcomes of exchanges tell of wants.
use Rattle.std.proofs.Common.{◌≡◌, ℕ, zero, suc, ◌<◌, ◌⊎◌, inl, inr, List, [], ◌∷◌, length, get_or, refl, sym, ap, subst, arith, All, Option, None, Some, IfSome}
use Rattle.std.specs.List.{AllPairs, AllZip}
use Rattle.std.proofs.lemmas.Slice.Zip.{AllZip-long}
use Rattle.zk_model.specs.declared.messages.Block.{Block}
use Rattle.zk_port.specs.Disks.{DiskState}
use Rattle.zk_port.specs.Links.{LinkState}
use Rattle.frame_link.specs.Lines.{LinkSnapshot}
use Rattle.lease_store.specs.declared.LeaseFault.{LeaseFault}
use Rattle.broker_links.specs.Answers.{Asked, IsBrokerCause}
use Rattle.broker_links.specs.declared.note.BrokerNote.{BrokerNote}
use Rattle.broker_links.specs.declared.note.BrokerOutcome.{BrokerOutcome}
use Rattle.broker_links.specs.declared.note.BrokerOutcome.TheVariants as outcome
use Rattle.broker_links.specs.declared.reply.Reply.TheVariants as reply
use Rattle.broker_service.specs.Granted.{AreOneOrApart, IsToldBy, block_by, block_in, fault_by, fault_in, refusal, sent_block}
use Rattle.broker_service.specs.Turns.{AreExchanges, Keeping}

told_by : (asked : Asked LeaseFault) (of : BrokerOutcome LeaseFault) (first now : LinkSnapshot) → IsBrokerCause asked first of now → IsToldBy of asked
told_by asked (outcome.Answered want given) first now cause = (cause.answered.asked_is, cause.answered.answer_is)
told_by asked (outcome.PeerEnded at) first now cause = cause.0.unasked
told_by asked (outcome.BadFrame place) first now cause = cause.unasked
told_by asked outcome.Link first now (rose, inl stops) = ap fault_by stops.unasked
told_by asked outcome.Link first now (rose, inr keeps) = ap fault_by keeps.answered.answer_is
told_by asked outcome.NoMemory first now (inl stops) = ap fault_by stops.unasked
told_by asked outcome.NoMemory first now (inr (inl leaves)) = ap fault_by leaves.unasked
told_by asked outcome.NoMemory first now (inr (inr (inl keeps))) = ap fault_by keeps.answered.answer_is
told_by asked outcome.NoMemory first now (inr (inr (inr keeps))) = ap fault_by keeps.answered.answer_is
told_by asked (outcome.Refused fault) first now cause = cause.answered.answer_is

module _ {B L : Type 0} (tells : L → LinkState) (state : B → DiskState) where
  pub all_told : (notes : List (BrokerNote L LeaseFault)) (asks : List (Asked LeaseFault)) (old new : Keeping) → AreExchanges tells state notes asks old new
      → AllZip (λ note asked. IsToldBy note.outcome asked) notes asks
  all_told [] [] old new are = tt
  all_told [] (a ∷ asks) old new are = are
  all_told (n ∷ notes) [] old new are = are
  all_told (n ∷ notes) (a ∷ asks) old new are = (told_by a n.outcome _ _ are.1.is_note.cause, all_told notes asks are.0 new are.2)

-- ---- by the outcomes

zip_at : {X Y : Type 0} (R : X → Y → Type 0) (xs : List X) (ys : List Y) (k : ℕ) (d : X) (e : Y) → AllZip R xs ys → k < length xs → R (get_or xs k d) (get_or ys k e)
zip_at R [] ys k d e zip l = absurd (omega (arith, l))
zip_at R (x ∷ xs) [] k d e zip l = absurd zip
zip_at R (x ∷ xs) (y ∷ ys) zero d e zip l = zip.0
zip_at R (x ∷ xs) (y ∷ ys) (suc k) d e zip l = zip_at R xs ys k d e zip.1 (omega (arith, l))

sent_of : (of : BrokerOutcome LeaseFault) (asked : Asked LeaseFault) → IsToldBy of asked → (sent_block of ≡ None) ⊎ (block_in asked ≡ sent_block of)
sent_of (outcome.Answered want (reply.Block b)) asked told = inr (ap block_by told.1)
sent_of (outcome.Answered want (reply.Out o)) asked told = inl refl
sent_of (outcome.PeerEnded at) asked told = inl refl
sent_of (outcome.BadFrame place) asked told = inl refl
sent_of outcome.Link asked told = inl refl
sent_of outcome.NoMemory asked told = inl refl
sent_of (outcome.Refused fault) asked told = inl refl

refused_of : (of : BrokerOutcome LeaseFault) (asked : Asked LeaseFault) → IsToldBy of asked → (refusal of ≡ None) ⊎ (fault_in asked ≡ refusal of)
refused_of (outcome.Answered want given) asked told = inl refl
refused_of (outcome.PeerEnded at) asked told = inl refl
refused_of (outcome.BadFrame place) asked told = inl refl
refused_of outcome.Link asked told = inl refl
refused_of outcome.NoMemory asked told = inl refl
refused_of (outcome.Refused fault) asked told = inr (ap fault_by told)

-- what holds of what was granted holds of what was sent
if_told : {X : Type 0} (P : X → Type 0) (sent granted : Option X) → (sent ≡ None) ⊎ (granted ≡ sent) → IfSome granted P → IfSome sent P
if_told P sent granted (inl none) is = subst (λ o. IfSome o P) (sym none) tt
if_told P sent granted (inr same) is = subst (λ o. IfSome o P) same is

apart_told : (x y : Option Block) (a b : Option Block) → (x ≡ None) ⊎ (a ≡ x) → (y ≡ None) ⊎ (b ≡ y) → AreOneOrApart a b → AreOneOrApart x y
apart_told x y a b (inl none) told apart = subst (λ o. AreOneOrApart o y) (sym none) tt
apart_told x y a b (inr same) (inl none) apart = subst (AreOneOrApart x) (sym none) (with_none x) where
  with_none : (o : Option Block) → AreOneOrApart o None
  with_none None = tt
  with_none (Some c) = tt
apart_told x y a b (inr same) (inr also) apart = subst (λ o. AreOneOrApart o y) same (subst (AreOneOrApart a) also apart)

nobody : Asked LeaseFault
nobody = record { want = None; answer = None }

module _ {L : Type 0} (notes : List (BrokerNote L LeaseFault)) (asks : List (Asked LeaseFault))
    (told : AllZip (λ note asked. IsToldBy note.outcome asked) notes asks) where
  same_long : length asks ≡ length notes
  same_long = AllZip-long (λ (note : BrokerNote L LeaseFault) (asked : Asked LeaseFault). IsToldBy note.outcome asked) notes asks told

  told_at : (k : ℕ) (d : BrokerNote L LeaseFault) → k < length notes → IsToldBy (get_or notes k d).outcome (get_or asks k nobody)
  told_at k d l = zip_at (λ (note : BrokerNote L LeaseFault) (asked : Asked LeaseFault). IsToldBy note.outcome asked) notes asks k d nobody told l

  pub sent_once : AllPairs (λ a b. AreOneOrApart (block_in a) (block_in b)) asks → AllPairs (λ m n. AreOneOrApart (sent_block m.outcome) (sent_block n.outcome)) notes
  sent_once once i j d h l =
      let before : i < length notes = omega (arith, h, l) in let long = same_long in
      apart_told (sent_block (get_or notes i d).outcome) (sent_block (get_or notes j d).outcome) (block_in (get_or asks i nobody)) (block_in (get_or asks j nobody))
      (sent_of (get_or notes i d).outcome (get_or asks i nobody) (told_at i d before)) (sent_of (get_or notes j d).outcome (get_or asks j nobody) (told_at j d l))
      (once i j nobody h (omega (arith, l, long)))

  pub sent_all : (P : Block → Type 0) → All (λ a. IfSome (block_in a) P) asks → All (λ note. IfSome (sent_block note.outcome) P) notes
  sent_all P all k d l = let long = same_long in
      if_told P (sent_block (get_or notes k d).outcome) (block_in (get_or asks k nobody))
      (sent_of (get_or notes k d).outcome (get_or asks k nobody) (told_at k d l)) (all k nobody (omega (arith, l, long)))

  pub refused_all : (P : LeaseFault → Type 0) → All (λ a. IfSome (fault_in a) P) asks → All (λ note. IfSome (refusal note.outcome) P) notes
  refused_all P all k d l = let long = same_long in
      if_told P (refusal (get_or notes k d).outcome) (fault_in (get_or asks k nobody))
      (refused_of (get_or notes k d).outcome (get_or asks k nobody) (told_at k d l)) (all k nobody (omega (arith, l, long)))
