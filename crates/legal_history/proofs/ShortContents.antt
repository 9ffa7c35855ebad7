-- No object of what a legal history makes of a repository is longer than a put may have it.
use Rattle.std.proofs.Common.{◌≡◌, ◌≤◌, Bool, true, false, cond, List, [], ◌∷◌, ◌++◌, length, Option, None, Some, refl, sym, subst, ◌∙◌, append_assoc}
use Rattle.std.proofs.lemmas.List.{append-nil}
use Rattle.std.specs.Prelude.{if◌then◌else◌}
use Rattle.std.specs.Option.{option_or}
use Rattle.std.specs.BTreeMap.{is_at}
use Rattle.rad_base.specs.declared.names.Oid.{Oid}
use Rattle.rad_base.specs.declared.names.Rid.{Rid}
use Rattle.rad_base.specs.Order.{oid_cmp}
use Rattle.rad_base.proofs.Options.{some_is}
use Rattle.git_object.specs.Names.{name}
use Rattle.keyring.specs.Contents.{Contents}
use Rattle.commit_graph.specs.InMemory.{objects_in}
use Rattle.commit_graph.specs.Objects.{Object, ObjectMap}
use Rattle.repo_entries.specs.Batches.{AreContents}
use Rattle.repo_entries.specs.Items.{Item, claim, heard, install, missed, put, refused}
use Rattle.legal_history.specs.Histories.{Lawful, Legal, LegalFrom}
use Rattle.legal_history.specs.Replays.{AreShort, Standing, after_install, after_item, after_put, is_same, replay, with_objects}
use Rattle.legal_history.proofs.GoodStandings.{replay_more}

-- those of a batch
in_batch : (batch : List Object) → AreContents batch → (oid : Oid) (object : Object) → objects_in batch oid ≡ Some object → length object.1 ≤ 33554432
in_batch [] each oid object e = cc e
in_batch (x ∷ batch) each oid object e = by_name (is_at (oid_cmp oid) (name x.0 x.1)) (in_batch batch each.1 oid object) e
  where
    by_name : (b : Bool) → (objects_in batch oid ≡ Some object → length object.1 ≤ 33554432) → cond b (Some x) (objects_in batch oid) ≡ Some object → length object.1 ≤ 33554432
    by_name true later is = subst (λ (o : Object). length o.1 ≤ 33554432) (some_is x object is) each.0
    by_name false later is = later is

-- those of a batch that is put among others
put_short : (objects : ObjectMap) (batch : List Object) → AreShort objects → AreContents batch → AreShort (with_objects objects batch)
put_short objects batch short each oid object e = by_held (objects oid) refl e
  where
    by_held : (o : Option Object) → objects oid ≡ o → option_or o (objects_in batch oid) ≡ Some object → length object.1 ≤ 33554432
    by_held None is found = in_batch batch each oid object found
    by_held (Some x) is found = short oid object (is ∙ found)

-- a lawful entry keeps them so
item_short : (keyring : Contents) (rid : Rid) (before : List Item) (item : Item) → AreShort (replay rid before).objects → Lawful keyring before item
    → AreShort (after_item rid (replay rid before) item).objects
item_short keyring rid before (claim of caller) h l = h
item_short keyring rid before (put of batch caller) h l = by_name (is_same rid of)
  where
    by_name : (b : Bool) → AreShort (if b then after_put batch (replay rid before) else replay rid before).objects
    by_name true = put_short (replay rid before).objects batch h l.0.each
    by_name false = h
item_short keyring rid before (install of id remotes caller) h l = by_name (is_same rid of)
  where
    by_name : (b : Bool) → AreShort (if b then after_install id remotes (replay rid before) else replay rid before).objects
    by_name true = h
    by_name false = h
item_short keyring rid before (heard message caller) h l = h
item_short keyring rid before (missed of left caller) h l = h
item_short keyring rid before (refused of why caller) h l = h

short_from : (keyring : Contents) (rid : Rid) (before items : List Item) → AreShort (replay rid before).objects → LegalFrom keyring before items
    → AreShort (replay rid (before ++ items)).objects
short_from keyring rid before [] h legal = subst (λ (l : List Item). AreShort (replay rid l).objects) (sym (append-nil before)) h
short_from keyring rid before (item ∷ items) h legal =
    subst (λ (l : List Item). AreShort (replay rid l).objects) (append_assoc before (item ∷ []) items)
    (short_from keyring rid (before ++ item ∷ []) items
    (subst (λ (s : Standing). AreShort s.objects) (sym (replay_more rid before item)) (item_short keyring rid before item h legal.0)) legal.1)

pub legal_short : (keyring : Contents) (rid : Rid) (items : List Item) → Legal keyring items → AreShort (replay rid items).objects
legal_short keyring rid items legal = short_from keyring rid [] items (λ oid object e. absurd (cc e)) legal
