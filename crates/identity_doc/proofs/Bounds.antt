-- The bounds that the checks of a document leave.
use Rattle.std.proofs.Common.{◌≡◌, ◌∙◌, ℕ, ◌≤◌, ◌&&◌, nat_le, Bool, true, false, if◌then◌else◌, List, length, map, Option, Some, None, option_and_then, ok_or, Result, Ok, Err, refl, sym, ap, subst, arith}
use Rattle.std.proofs.lemmas.Bool.Decides.{nat_tests}
use Rattle.std.proofs.lemmas.List.{length-map}
use Rattle.serde_json.specs.Data.{Data, Num}
use Rattle.serde_json.specs.Find.{as_u64}
use Rattle.rad_base.specs.declared.names.Nid.{Nid}
use Rattle.keyring.specs.Contents.{Contents}
use Rattle.identity_doc.proofs.DelegateKeys.{read_iff}
use Rattle.rad_base.specs.Lists.{AllDiffer}
use Rattle.identity_doc.specs.Documents.{◌>>=◌, CanDecide, Checked, checked, counted_elements, key_in, element_keys, delegate_elements, threshold_number, payload_object, threshold_within, visibility_of, within}
use Rattle.identity_doc.specs.Texts.{IsSomeText}
use Rattle.identity_doc.specs.declared.doc.Doc.{Doc}
use Rattle.identity_doc.specs.declared.fault.DocFault.{DocFault}
use Rattle.identity_doc.specs.declared.visibility.Visibility.{Visibility}
use Rattle.identity_doc.specs.declared.fault.DocFault.TheVariants.{BadCount, BadThreshold}

-- where two checks pass, the first one passes, and the second on what the first one read
passes : {A B : Type 0} (first : Result A DocFault) (second : A → Result B DocFault) (b : B) → (first >>= second) ≡ Ok b
    → (a : A) × (first ≡ Ok a) × (second a ≡ Ok b)
passes (Ok a) second b h = (a, refl, h)
passes (Err fault) second b h = cc h

counted_at : (ds some : List Data) (low high : Bool) → nat_le (length ds) 255 ≡ high
    → (if low && high then Ok ds else Err (BadCount (length ds))) ≡ Ok some → length some ≤ 255
counted_at ds some true true e h = let same : ds ≡ some = cc in subst (λ (l : List Data). length l ≤ 255) same (grind (arith, nat_tests))
counted_at ds some true false e h = cc h
counted_at ds some false high e h = cc h

few : (ds some : List Data) → counted_elements ds ≡ Ok some → length some ≤ 255
few ds some h = counted_at ds some _ _ refl h

within_at : (n k t : ℕ) (low high : Bool) → nat_le 1 k ≡ low → nat_le k n ≡ high
    → (if low && high then Some k else None) ≡ Some t → (1 ≤ t) × (t ≤ n)
within_at n k t true true l h e =
    let same : k ≡ t = cc in
    subst (λ (x : ℕ). (1 ≤ x) × (x ≤ n)) same (grind (arith, nat_tests), grind (arith, nat_tests))
within_at n k t true false l h e = cc e
within_at n k t false high l h e = cc e

ok_or_some : {A : Type 0} (o : Option A) (fault : DocFault) (a : A) → ok_or o fault ≡ Ok a → o ≡ Some a
ok_or_some None fault a h = cc h
ok_or_some (Some x) fault a h = cc

reached : (n : ℕ) (o : Option ℕ) (t : ℕ) → option_and_then (within n) o ≡ Some t → (1 ≤ t) × (t ≤ n)
reached n None t h = cc h
reached n (Some k) t h = within_at n k t _ _ refl refl h

-- the delegates are few and all differ, and the threshold is 1 to their number
pub record IsBounded (delegates : List Nid) (threshold : ℕ) : Type 0 where
  pub differ : AllDiffer delegates
  pub few : length delegates ≤ 255
  pub low : 1 ≤ threshold
  pub high : threshold ≤ length delegates

keyed_few : (keyring : Contents) (ds : List Data) (keys : List Nid) → element_keys keyring ds ≡ Ok keys → length ds ≤ 255
    → AllDiffer keys × (length keys ≤ 255)
keyed_few keyring ds keys h l =
    let r = (read_iff (map (key_in keyring) ds) keys).0 h in
    let same : length keys ≡ length ds = sym (length-map keys Some) ∙ (sym (ap length r.0) ∙ length-map ds (key_in keyring)) in
    (r.1, omega arith)

-- what is left to check after each of the checks
module _ (value : Data) (keyring : Contents) where
  abbrev after_all : List Nid → ℕ → Data → Visibility → Result Checked DocFault
  after_all delegates threshold payload visibility =
      Ok (record { delegates = delegates; threshold = threshold; payload = payload; visibility = visibility })

  abbrev after_payload : List Nid → ℕ → Data → Result Checked DocFault
  after_payload delegates threshold payload =
      visibility_of keyring value >>= λ visibility. after_all delegates threshold payload visibility

  abbrev after_threshold : List Nid → ℕ → Result Checked DocFault
  after_threshold delegates threshold = payload_object value >>= λ payload. after_payload delegates threshold payload

  abbrev after_number : List Nid → Num → Result Checked DocFault
  after_number delegates number = threshold_within (length delegates) number >>= λ threshold. after_threshold delegates threshold

  abbrev after_keys : List Nid → Result Checked DocFault
  after_keys delegates = threshold_number value >>= λ number. after_number delegates number

  abbrev after_count : List Data → Result Checked DocFault
  after_count some = element_keys keyring some >>= λ delegates. after_keys delegates

  abbrev after_list : List Data → Result Checked DocFault
  after_list all = counted_elements all >>= λ some. after_count some

  same_checked : (delegates : List Nid) (threshold : ℕ) (payload : Data) (visibility : Visibility) (c : Checked)
      → after_all delegates threshold payload visibility ≡ Ok c
      → record { delegates = delegates; threshold = threshold; payload = payload; visibility = visibility } ≡ c
  same_checked delegates threshold payload visibility c h = cc

  bounded_same : (delegates : List Nid) (threshold : ℕ) (payload : Data) (visibility : Visibility) (c : Checked)
      → after_all delegates threshold payload visibility ≡ Ok c → IsBounded delegates threshold → IsBounded c.delegates c.threshold
  bounded_same delegates threshold payload visibility c h whole =
      subst (λ (r : Checked). IsBounded r.delegates r.threshold) (same_checked delegates threshold payload visibility c h) whole

  pub bounded : (c : Checked) → checked value keyring ≡ Ok c → IsBounded c.delegates c.threshold
  bounded c h =
      let a = passes (delegate_elements value) after_list c h in
      let b = passes (counted_elements a.0) after_count c a.2 in
      let k = passes (element_keys keyring b.0) after_keys c b.2 in
      let n = passes (threshold_number value) (after_number k.0) c k.2 in
      let t = passes (threshold_within (length k.0) n.0) (after_threshold k.0) c n.2 in
      let p = passes (payload_object value) (after_payload k.0 t.0) c t.2 in
      let v = passes (visibility_of keyring value) (after_all k.0 t.0 p.0) c p.2 in
      let keys = keyed_few keyring b.0 k.0 k.1 (few a.0 b.0 b.1) in
      let reach = reached (length k.0) (as_u64 n.0) t.0 (ok_or_some (option_and_then (within (length k.0)) (as_u64 n.0)) BadThreshold t.0 t.1) in
      let whole : IsBounded k.0 t.0 = record { differ = keys.0; few = keys.1; low = reach.0; high = reach.1 } in
      bounded_same k.0 t.0 p.0 v.0 c v.2 whole

-- a document that some text is
pub can_decide : (keyring : Contents) (doc : Doc) → IsSomeText keyring doc → CanDecide doc
can_decide keyring doc text =
    let b = bounded text.1.value keyring _ text.1.says.passes in
    record { differ = b.differ; few = b.few; low = b.low; high = b.high }
