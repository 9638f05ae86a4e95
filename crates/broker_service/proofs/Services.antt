-- A service by one pass.
use Rattle.std.proofs.Common.{◌≡◌, List, [], ◌∷◌, length, get_or, set, replicate, refl, sym, subst, arith, Option, None}
use Rattle.zk_model.specs.declared.limits.TheConstants.{MAX_NODES}
use Rattle.zk_port.specs.Disks.{DiskState}
use Rattle.zk_port.specs.Links.{LinkState}
use Rattle.lease_words.specs.declared.pass.Pass.{Pass}
use Rattle.lease_store.specs.declared.LeaseFault.{LeaseFault}
use Rattle.broker_core.specs.declared.message.Kept.{Kept}
use Rattle.broker_links.specs.declared.note.BrokerNote.{BrokerNote}
use Rattle.broker_service.specs.Left.{IsService, keeping_none}
use Rattle.broker_service.specs.Turns.{AreSomeExchanges, keeping}

module _ {B L : Type 0} (tells : L → LinkState) (state : B → DiskState) where
  pub service_by : (passes : List Pass) (old new : Pass) (kept now : List (Option Kept)) (notes : List (BrokerNote L LeaseFault)) → length passes ≡ 1
      → old ≡ get_or passes 0 old → kept ≡ replicate MAX_NODES None → AreSomeExchanges tells state notes (keeping kept old) (keeping now new)
      → IsService tells state passes (set passes 0 new) notes
  service_by [] old new kept now notes one is none are = absurd (omega (arith, one))
  service_by (p ∷ []) old new kept now notes one is none are = record {
    first = p;
    one_pass = refl;
    last = keeping now new;
    still_one = refl;
    exchanges = subst (λ (q : Pass). AreSomeExchanges tells state notes (keeping_none q) (keeping now new)) is
        (subst (λ (k : List (Option Kept)). AreSomeExchanges tells state notes (keeping k old) (keeping now new)) none are);
  }
  service_by (p ∷ q ∷ passes) old new kept now notes one is none are = absurd (omega (arith, one))

  pub no_service : (passes : List Pass) (notes : List (BrokerNote L LeaseFault)) → length passes ≡ 1 → notes ≡ [] → IsService tells state passes passes notes
  no_service [] notes one none = absurd (omega (arith, one))
  no_service (p ∷ []) notes one none = record {
    first = p;
    one_pass = refl;
    last = keeping_none p;
    still_one = refl;
    exchanges = subst (λ (n : List (BrokerNote L LeaseFault)). AreSomeExchanges tells state n (keeping_none p) (keeping_none p)) (sym none) ([], refl);
  }
  no_service (p ∷ q ∷ passes) notes one none = absurd (omega (arith, one))
