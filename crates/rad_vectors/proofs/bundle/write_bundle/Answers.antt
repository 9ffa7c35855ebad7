use Rattle.std.proofs.Common.{rules, ◌≡◌, ◌++◌, ◌∷◌, [], ℕ, List, map, subst, ap, ◌∙◌}
use Rattle.std.specs.List.{flat_map}
use Rattle.rad_base.specs.declared.names.Nid.{Nid}
use Rattle.rad_base.specs.declared.names.Oid.{Oid}
use Rattle.fetch_wire.specs.Sections.{Object, as_part, offer_text, part_text}
use Rattle.fetch_wire.specs.declared.part.Part.TheVariants as parts
use Rattle.rad_vectors.specs.Objects.{blob, object_name}
use Rattle.rad_vectors.specs.Repositories.{IsInOrder, identity_commit}
use Rattle.rad_vectors.specs.Shown.{all_shown}
use Rattle.rad_vectors.specs.declared.object.NamedObject.{NamedObject}
use Rattle.rad_vectors.proofs.SignedObjects.{joined}
use Rattle.rad_vectors.proofs.bundle.write_bundle.Goals as goal

-- objects and the end word
abbrev ended : List NamedObject → List ℕ
ended objects = flat_map part_text (map as_part (all_shown objects) ++ parts.End ∷ [])

-- the head of the identity section
abbrev offered : Oid → List (Nid × Oid) → List ℕ
offered id remotes = offer_text (record { id = id; remotes = remotes })

pub returns : goal.returns
returns c =
    let identity = c.sort_by_name.new.objects.items in
    let sigs = c.sort_by_name-2.new.objects.items in
    let tips = c.sort_by_name-3.new.objects.items in
    let front = c.in_ok-identity.identity.document.0 in
    let head = offered c.in_ok-identity.identity.commit c.in_ok-signed.signed.remotes in
    let start : c.in_ok-bytes.bytes.items ≡ front = search rules in
    let offer : c.push_part.new.bytes.items ≡ front ++ head = c.in_ok-push_part.ensures ∙ ap (λ (xs : List ℕ). xs ++ head) start in
    let first : c.push_objects.new.bytes.items ≡ (front ++ head) ++ ended identity =
    c.in_ok-push_objects.ensures ∙ (ap (λ (os : List NamedObject). c.push_part.new.bytes.items ++ ended os) c.deref.ensures.value ∙ ap (λ (xs : List ℕ). xs ++ ended identity) offer) in
    let letter : c.push_part-2.new.bytes.items ≡ ((front ++ head) ++ ended identity) ++ (83 ∷ []) =
    c.in_ok-push_part-2.ensures ∙ ap (λ (xs : List ℕ). xs ++ (83 ∷ [])) first in
    let second : c.push_objects-2.new.bytes.items ≡ (((front ++ head) ++ ended identity) ++ (83 ∷ [])) ++ ended sigs =
    c.in_ok-push_objects-2.ensures ∙ (ap (λ (os : List NamedObject). c.push_part-2.new.bytes.items ++ ended os) c.deref-2.ensures.value ∙ ap (λ (xs : List ℕ). xs ++ ended sigs) letter) in
    let last : c.push_part-3.new.bytes.items ≡ ((((front ++ head) ++ ended identity) ++ (83 ∷ [])) ++ ended sigs) ++ (68 ∷ []) =
    c.in_ok-push_part-3.ensures ∙ ap (λ (xs : List ℕ). xs ++ (68 ∷ [])) second in
    let text : c.push_objects-3.new.bytes.items ≡ (((((front ++ head) ++ ended identity) ++ (83 ∷ [])) ++ ended sigs) ++ (68 ∷ [])) ++ ended tips =
    c.in_ok-push_objects-3.ensures ∙ (ap (λ (os : List NamedObject). c.push_part-3.new.bytes.items ++ ended os) c.deref-3.ensures.value ∙ ap (λ (xs : List ℕ). xs ++ ended tips) last) in
    record {
      identity = all_shown identity;
      sigs = all_shown sigs;
      tips = all_shown tips;
      of_identity = subst (λ (xs : List Object). IsInOrder xs (all_shown identity)) c.in_ok-identity.ensures.objects c.in_ok-sort_by_name.ensures;
      of_sigs = subst (λ (xs : List Object). IsInOrder xs (all_shown sigs)) c.in_ok-signed.ensures.objects c.in_ok-sort_by_name-2.ensures;
      of_tips = c.in_ok-sort_by_name-3.ensures;
      text = text ∙ (joined front head (ended identity) (83 ∷ []) (ended sigs) (68 ∷ []) (ended tips)
          ∙ (ap (λ (oid : Oid). oid.0 ++ ((head ++ ended identity) ++ (((83 ∷ []) ++ ended sigs) ++ ((68 ∷ []) ++ ended tips)))) c.in_ok-identity.ensures.document
          ∙ (ap (λ (oid : Oid). (object_name (blob c.args.document.now)).0 ++ ((offered oid c.in_ok-signed.signed.remotes ++ ended identity) ++ (((83 ∷ []) ++ ended sigs) ++ ((68 ∷ []) ++ ended tips)))) c.in_ok-identity.ensures.commit
          ∙ ap (λ (rs : List (Nid × Oid)). (object_name (blob c.args.document.now)).0 ++ ((offered (object_name (identity_commit c.args.document.now)) rs ++ ended identity) ++ (((83 ∷ []) ++ ended sigs) ++ ((68 ∷ []) ++ ended tips)))) c.in_ok-signed.ensures.remotes)));
    }
