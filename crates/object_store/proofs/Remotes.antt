-- When two lists of remotes are one.
use Rattle.std.proofs.Common.{◌≡◌, Bool, true, false, ◌&&◌, ap, refl}
use Rattle.std.specs.Bool.{Decides}
use Rattle.std.specs.Str.{bytes_eq}
use Rattle.std.proofs.lemmas.Slice.Eq.{bytes_eq-Decides}
use Rattle.rad_base.specs.declared.names.Nid.{Nid}
use Rattle.rad_base.specs.declared.names.Oid.{Oid}

both : (a b : Bool) → (a && b) ≡ true → (a ≡ true) × (b ≡ true)
both true true e = (refl, refl)
both true false e = cc e
both false b e = cc e

joined : (a b : Bool) → a ≡ true → b ≡ true → (a && b) ≡ true
joined true true e f = refl
joined true false e f = f
joined false b e f = e

-- a key and a commit compare as equal exactly where they are
pub same_pair : (a b : Nid × Oid) → Decides (bytes_eq a.0.0 b.0.0 && bytes_eq a.1.0 b.1.0) (a ≡ b)
same_pair a b = (
  λ e.
      let p = both (bytes_eq a.0.0 b.0.0) (bytes_eq a.1.0 b.1.0) e in
      let node : a.0.0 ≡ b.0.0 = (bytes_eq-Decides a.0.0 b.0.0).0 p.0 in
      let oid : a.1.0 ≡ b.1.0 = (bytes_eq-Decides a.1.0 b.1.0).0 p.1 in
      (λ i. (record { 0 = node i }, record { 0 = oid i })),
  λ e.
      joined (bytes_eq a.0.0 b.0.0) (bytes_eq a.1.0 b.1.0) ((bytes_eq-Decides a.0.0 b.0.0).1 (ap (λ (x : Nid × Oid). x.0.0) e))
      ((bytes_eq-Decides a.1.0 b.1.0).1 (ap (λ (x : Nid × Oid). x.1.0) e)),
)
