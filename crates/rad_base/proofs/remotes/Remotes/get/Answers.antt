use Rattle.std.proofs.Common.{List, [], sym, ap, ◌∙◌, rules}
use Rattle.std.proofs.lemmas.List.Sorted.{answers_always}
use Rattle.rad_base.specs.declared.names.Nid.{Nid}
use Rattle.rad_base.specs.declared.names.Oid.{Oid}
use Rattle.rad_base.specs.Order.{IsRising, commit_of}
use Rattle.rad_base.proofs.Searched.{searched_found, searched_none}
use Rattle.rad_base.proofs.remotes.Remotes.get.Goals as goal

no_remote : Nid × Oid
no_remote = (record { 0 = [] }, record { 0 = [] })

pub returns-in-Ok : goal.returns-in-Ok
unfolding no_remote
returns-in-Ok c =
    let remotes = c.as_slice-remotes.result.now in
    let rising : IsRising remotes = rw c.as_slice-remotes.ensures.items c.as_slice-remotes.ensures.rising in
    let equal = c.in-Ok.ensures.position (λ (p : Nid × Oid). p.0) (answers_always _ _ _ (λ f a r g called. search rules)) in
    sym (ap (λ (l : List (Nid × Oid)). commit_of l c.args.node.now) (sym c.as_slice-remotes.ensures.items)
    ∙ searched_found remotes c.args.node.now c.in-Ok.i no_remote rising c.in-Ok.ensures.bound (equal no_remote))

pub returns-in-Err : goal.returns-in-Err
returns-in-Err c =
    let remotes = c.as_slice-remotes.result.now in
    let rising : IsRising remotes = rw c.as_slice-remotes.ensures.items c.as_slice-remotes.ensures.rising in
    let parts = c.in-Err.ensures.position (λ (p : Nid × Oid). p.0) (answers_always _ _ _ (λ f a r g called. search rules)) in
    sym (ap (λ (l : List (Nid × Oid)). commit_of l c.args.node.now) (sym c.as_slice-remotes.ensures.items)
    ∙ searched_none remotes c.args.node.now _ rising parts)
