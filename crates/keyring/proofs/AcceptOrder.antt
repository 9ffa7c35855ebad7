-- The order of what lines accept is total, and equal only at equals.
use Rattle.std.proofs.Common.{◌≡◌, List, ℕ, refl}
use Rattle.std.specs.Cmp.{IsTotalOrder}
use Rattle.std.proofs.lemmas.Cmp.{on_total, then_total, nat_list_cmp_total}
use Rattle.std.proofs.lemmas.Map.Lookups.{CmpEqualImpliesEq, exact_bytes}
use Rattle.rad_base.proofs.NameOrder.{both_equal}
use Rattle.keyring.specs.Accepts.{accept_cmp}
use Rattle.keyring.specs.declared.accept.Accept.{Accept}

-- the order of what lines accept is total
pub accept_total : IsTotalOrder accept_cmp
accept_total =
    then_total (on_total (λ accept. accept.key.0) nat_list_cmp_total)
    (then_total (on_total (λ accept. accept.digest.0) nat_list_cmp_total) (on_total (λ accept. accept.sig.0) nat_list_cmp_total))

-- three parts make what a line accepts
pub same_accept : (a b : Accept) → a.key.0 ≡ b.key.0 → a.digest.0 ≡ b.digest.0 → a.sig.0 ≡ b.sig.0 → a ≡ b
same_accept a b key digest sig = parts a.key.0 b.key.0 a.digest.0 b.digest.0 a.sig.0 b.sig.0 key digest sig
  where
    accept_of_bytes : List ℕ → List ℕ → List ℕ → Accept
    accept_of_bytes key digest sig = record { key = record { 0 = key }; digest = record { 0 = digest }; sig = record { 0 = sig } }

    parts : (k l d e s t : List ℕ) → k ≡ l → d ≡ e → s ≡ t → accept_of_bytes k d s ≡ accept_of_bytes l e t
    parts k l d e s t p q r = rw (p, q, r) refl

-- what compares as equal is one
pub accept_exact : CmpEqualImpliesEq accept_cmp
accept_exact a b h =
    let first = both_equal _ _ h in
    let second = both_equal _ _ first.1 in
    same_accept a b (exact_bytes _ _ first.0) (exact_bytes _ _ second.0) (exact_bytes _ _ second.1)
