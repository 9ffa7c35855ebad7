use Rattle.std.proofs.Common.{◌≡◌, List, [], ◌∷◌, ◌++◌, Some, inl, ap, sym, subst, ⊎_elim, ◌∙◌}
use Rattle.std.specs.Prelude.{Contains, ◌↔◌}
use Rattle.rad_base.specs.declared.names.Nid.{Nid}
use Rattle.rad_base.specs.declared.names.Oid.{Oid}
use Rattle.rad_base.proofs.Members.{contains_head, contains_nothing, contains_one}
use Rattle.rad_base.proofs.Options.{some_is}
use Rattle.repo_slice.specs.Keeps.{IsNamedIn}
use Rattle.repo_slice.specs.MemKeeps.{told_of}
use Rattle.repo_slice.proofs.mem_keep.MemKeepKeep.have.Goals as goal

pub returns-clause-names : goal.returns-clause-names
returns-clause-names c =
    let only : c.push.new.self ≡ c.args.rid.now.0 ∷ [] = c.in_ok-push.ensures.ok ∙ ap (λ (l : List Oid). l ++ c.args.rid.now.0 ∷ []) c.new-names.ensures in
    subst (λ (names : List Oid). (oid : Oid) → Contains names oid ↔ IsNamedIn (told_of c.args.rid.now) oid) (sym only) (λ oid. (
      λ h. inl (ap Some (contains_one c.args.rid.now.0 oid h)),
      λ h. ⊎_elim
          (λ e. subst (λ (o : Oid). Contains (c.args.rid.now.0 ∷ []) o) (some_is c.args.rid.now.0 oid e) (contains_head c.args.rid.now.0 []))
          (λ (p : (node : Nid) × Contains [] (node, oid)). absurd (contains_nothing (p.0, oid) p.1))
          h,
    ))
