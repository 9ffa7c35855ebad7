-- What an accept line accepts: its order, its sizes and its code.
use Rattle.std.specs.Prelude.{ℕ, List, refl}
use Rattle.std.specs.declared.cmp.Ordering.{Ordering}
use Rattle.std.specs.Ordering.{nat_cmp, ordering_then}
use Rattle.std.specs.Cmp.Lexicographic.{slice_cmp}
use Rattle.std.specs.Coded.{Coded, code_by, coded_list, coded_ℕ, coded×}
use Rattle.rad_base.specs.declared.names.Nid.{Nid}
use Rattle.rad_base.specs.Sizes.{HasBytes, IsNid, IsSig}
use Rattle.keyring.specs.declared.accept.Accept.{Accept}
use Rattle.keyring.specs.declared.accept.Digest.{Digest}

-- the 32 bytes of a digest
abbrev pub IsDigest : Digest → Type 0
IsDigest digest = HasBytes 32 digest.0

-- a key, a digest and a signature of their sizes
pub record IsAccept (accept : Accept) : Type 0 where
  pub key : IsNid accept.key
  pub digest : IsDigest accept.digest
  pub sig : IsSig accept.sig

-- by the key, then by the digest, then by the signature
abbrev pub accept_cmp : Accept → Accept → Ordering
accept_cmp a b =
    ordering_then (slice_cmp nat_cmp a.key.0 b.key.0)
    (ordering_then (slice_cmp nat_cmp a.digest.0 b.digest.0) (slice_cmp nat_cmp a.sig.0 b.sig.0))

-- what is stored of a key
abbrev pub coded_nid : Coded Nid
coded_nid =
    code_by (List ℕ) (coded_list coded_ℕ) (λ nid. nid.0) (λ bytes. record { 0 = bytes }) (λ _. refl)

-- what is stored of a key, a digest and a signature
abbrev pub coded_accept : Coded Accept
coded_accept =
    code_by (List ℕ × (List ℕ × List ℕ))
    (coded× (coded_list coded_ℕ) (coded× (coded_list coded_ℕ) (coded_list coded_ℕ)))
    (λ accept. (accept.key.0, (accept.digest.0, accept.sig.0)))
    (λ parts. record {
      key = record { 0 = parts.0 };
      digest = record { 0 = parts.1.0 };
      sig = record { 0 = parts.1.1 };
    }) (λ _. refl)
