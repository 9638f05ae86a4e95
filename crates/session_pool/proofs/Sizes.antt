-- Where all sessions that lease are of one size: what is said by the size of a note is said by that number.
use Rattle.std.proofs.Common.{◌≡◌, ℕ, ◌+◌, ◌-◌, ◌*◌, ◌<◌, ◌≤◌, zero, suc, max, ⊎_elim, List, length, get_or, subst, arith, All, Contains, Option, None, Some, IfSome}
use Rattle.std.specs.List.{sum_by}
use Rattle.std.proofs.lemmas.Bool.{cases_lt}
use Rattle.std.proofs.lemmas.List.Sums.{sum_by-le}
use Rattle.zk_model.specs.declared.Span.{Span}
use Rattle.lease_store.specs.declared.grantor.GrantFault.{GrantFault}
use Rattle.lease_store.specs.declared.LeaseFault.TheVariants as lease
use Rattle.lease_store.specs.declared.grantor.GrantFault.TheVariants as grant
use Rattle.session_pool.specs.Notes.{IsBetween, IsRefusedBy, IsRefusedAmong}

pub one_between : {M : Type 0} (size : M → ℕ) (granted : M → Option Span) (units base ceiling : ℕ) (notes : List M)
    → All (λ note. IfSome (granted note) (λ _. size note ≡ units)) notes
    → All (λ note. IsBetween (size note) base ceiling (granted note)) notes
    → All (λ note. IsBetween units base ceiling (granted note)) notes
one_between size granted units base ceiling notes same h k d l =
    at_size (size (get_or notes k d)) (granted (get_or notes k d)) (same k d l) (h k d l) where
      at_size : (n : ℕ) (g : Option Span) → IfSome g (λ _. n ≡ units) → IsBetween n base ceiling g → IsBetween units base ceiling g
      at_size n None is b = tt
      at_size n (Some s) is b = subst (λ (m : ℕ). IsBetween m base ceiling (Some s)) is b

-- a greater last place
last_more : (units total low high : ℕ) → low ≤ high → (fault : GrantFault) → IsRefusedBy units total low (Some fault) → IsRefusedBy units total high (Some fault)
last_more units total low high more (grant.Lease (lease.Exhausted at count all)) r = let a = r.0 in (omega (arith, a, more), r.1, r.2, r.3)
last_more units total low high more (grant.Lease lease.Device) r = tt
last_more units total low high more (grant.Lease (lease.Broken first)) r = tt
last_more units total low high more grant.NoMemory r = r
last_more units total low high more (grant.NoBlock wants) r = r
last_more units total low high more grant.Broker r = r

at_most : (units n : ℕ) → (1 ≤ n → n ≡ units) → n ≤ units
at_most units n h = ⊎_elim (λ (z : 0 < n). omega (arith, h z)) (λ (z : n ≤ 0). omega (arith, z)) (cases_lt 0 n)

all_but_one : (units taken notes own : ℕ) → taken ≤ notes * units → taken - max units own ≤ units * (notes - 1)
all_but_one units taken zero own h = omega (arith, h)
all_but_one units taken (suc n) own h = let e : suc n - 1 ≡ n = omega arith in rw e (omega (arith, h))

module _ {M : Type 0} (size : M → ℕ) (refused : M → Option GrantFault) (units base total : ℕ) (notes : List M) (same : All (λ note. 1 ≤ size note → size note ≡ units) notes) where
  taken_at_most : sum_by size notes ≤ length notes * units
  taken_at_most = sum_by-le size units notes (λ k d l. at_most units (size (get_or notes k d)) (same k d l))

  contained : (drawer : M) → Contains notes drawer → 1 ≤ size drawer → size drawer ≡ units
  contained drawer c some = subst (λ (y : M). 1 ≤ size y → size y ≡ units) c.2 (same c.0 drawer c.1) some

  one_refused : (note : M) (o : Option GrantFault) → IfSome o (IsRefusedAmong size base total notes note)
      → IsRefusedBy units total (base + units * (length notes - 1)) o
  one_refused note None r = tt
  one_refused note (Some fault) r =
      let is = contained r.drawer r.among r.least in
      let but : sum_by size notes - max units (size note) ≤ units * (length notes - 1) = all_but_one units (sum_by size notes) (length notes) (size note) taken_at_most in
      last_more units total (base + (sum_by size notes - max units (size note))) (base + units * (length notes - 1)) (omega (arith, but)) fault
      (subst (λ (n : ℕ). IsRefusedBy n total (base + (sum_by size notes - max n (size note))) (Some fault)) is r.refused)

  -- a note is refused by a draw of that size, at or below the base and what all other notes take
  pub one_size : All (λ note. IfSome (refused note) (IsRefusedAmong size base total notes note)) notes
      → All (λ note. IsRefusedBy units total (base + units * (length notes - 1)) (refused note)) notes
  one_size h k d l = one_refused (get_or notes k d) (refused (get_or notes k d)) (h k d l)
