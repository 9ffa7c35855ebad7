-- The job of a bundle that is spelled whole.
use Rattle.std.proofs.Common.{◌≡◌, ◌+◌, ◌^◌, ℕ, List, [], ◌∷◌, ◌++◌, flat_map, length, Result, inl, inr, refl, sym, ap, subst, arith, length-append, Some}
use Rattle.std.proofs.lemmas.List.{append-nil, take_all}
use Rattle.std.specs.List.{AllByRecursion}
use Rattle.rad_base.specs.declared.offer.Offer.{Offer}
use Rattle.commit_graph.specs.Objects.{Object, ObjectMap}
use Rattle.keyring.specs.Contents.{Contents}
use Rattle.repo_entries.specs.Items.{Item}
use Rattle.repo_entries.specs.declared.whole.Whole.{Whole}
use Rattle.repo_slice.specs.Keeps.{Held, item_of, put_told}
use Rattle.repo_slice.specs.Verdicts.{IsVerdict}
use Rattle.repo_slice.specs.declared.scope.Scope.TheVariants.{All}
use Rattle.repo_slice.specs.declared.verdict.Judged.{Judged}
use Rattle.legal_history.specs.Replays.{replayed_state}
use Rattle.fetch_wire.specs.Bundles.{Bundle}
use Rattle.fetch_wire.specs.Sections.{IsHead, IsObject, part_text, parts_of}
use Rattle.fetch_wire.specs.declared.part.Which.{Which}
use Rattle.fetch_wire.specs.declared.part.Which.TheVariants.{Identity, Sigs, Tips}
use Rattle.fetch_stages.specs.Batches.{IsCut}
use Rattle.fetch_stages.specs.Imports.{IsBundleJob, Verdict, setting_of}
use Rattle.fetch_stages.specs.Jobs.{Passes, Reaches, Runs, Setting, all_sections, head_with, place_behind}
use Rattle.fetch_stages.specs.Puts.{puts_of}
use Rattle.fetch_stages.proofs.Importing.{came_whole}
use Rattle.rad_node.specs.Completeness.{IsBundle, objects_with}
use Rattle.rad_node.specs.Imports.{held_behind, importing}

-- the bytes of a section
abbrev text_of : Offer → Which → List Object → List ℕ
text_of offer which objects = flat_map part_text (parts_of (head_with offer which) objects)

-- what is held once its objects are put
abbrev held_after : Held → List Object → Held
held_after held objects = record { state = held.state; objects = put_told held.objects objects }

-- a section that is spelled comes to its end
passes : (s : Setting) (offer : Offer) (which : Which) (objects : List Object) (batches : List (List Object)) (bytes rest : List ℕ) (held : Held)
    → IsHead which (head_with offer which) → AllByRecursion IsObject objects → IsCut objects batches → bytes ≡ text_of offer which objects ++ rest
    → Passes s offer which bytes rest held (held_after held objects) (puts_of s.rid s.constants.caller batches)
passes s offer which objects batches bytes rest held head each cut text = record {
  objects = objects;
  section = record { is_head = head; each = each; text = text };
  batches = batches;
  cut = cut;
  made = refl;
  held = refl;
}

-- the place behind a section
behind_text : (place : ℕ) (text rest : List ℕ) → place_behind place (text ++ rest) rest ≡ place + length text
behind_text place text rest = omega (arith, length-append text rest)

-- what is held of the repository once its objects are put
abbrev pub held_with : List Item → Bundle → Held
held_with stored bundle = record { state = replayed_state bundle.rid stored; objects = Some (objects_with stored bundle) }

pub bundle_job : (keyring : Contents) (stored : List Item) (bundle : Bundle) (verdict : Result Judged Whole) (entries : List Item) (bytes : List ℕ)
    → IsBundle keyring stored bundle verdict entries bytes
    → IsBundleJob (importing keyring) (held_behind stored) bytes entries (Verdict bundle.rid (held_with stored bundle) verdict)
bundle_job keyring stored bundle verdict entries bytes b =
    let rid = bundle.rid in
    let offer = bundle.offer in
    let s = setting_of (importing keyring) rid in
    let limits = b.spells.is in
    let identity = text_of offer Identity bundle.identity in
    let sigs = text_of offer Sigs bundle.sigs in
    let tips = text_of offer Tips bundle.tips in
    let rest = identity ++ (sigs ++ tips) in
    let first = held_behind stored rid in
    let second = held_after first bundle.identity in
    let third = held_after second bundle.sigs in
    let on = held_with stored bundle in
    let m = b.makes in
    let one = place_behind 0 rest (sigs ++ tips) in
    let two = place_behind one (sigs ++ tips) tips in
    let place = place_behind two tips [] in
    let size : length bytes ≡ 20 + length rest = omega (arith, ap (λ (l : List ℕ). length l) b.spells.text, length-append rid.0.0 rest, limits.rid.size) in
    let at : place ≡ length rest =
    omega (arith, behind_text 0 identity (sigs ++ tips), behind_text one sigs tips, length-append identity (sigs ++ tips), length-append sigs tips) in
    let judges : Runs s offer [] on place [] (item_of rid 1 verdict ∷ []) (Reaches on verdict place) =
    inl (record {
      verdict = verdict;
      is = λ objects e. subst (λ (o : ObjectMap). IsVerdict o keyring (replayed_state rid stored) offer All verdict) (cc e) b.verdict_is;
      made = refl;
      reached = refl;
    }) in
    let runs : Runs s offer all_sections first 0 rest entries (Reaches on verdict place) =
    inr (
      second,
      sigs ++ tips,
      puts_of rid 1 m.identity,
      puts_of rid 1 m.sigs ++ (puts_of rid 1 m.tips ++ item_of rid 1 verdict ∷ []),
      passes s offer Identity bundle.identity m.identity rest (sigs ++ tips) first limits.offer limits.identity m.identity_cut refl,
      inr (
        third,
        tips,
        puts_of rid 1 m.sigs,
        puts_of rid 1 m.tips ++ item_of rid 1 verdict ∷ [],
        passes s offer Sigs bundle.sigs m.sigs (sigs ++ tips) tips second tt limits.sigs m.sigs_cut refl,
        inr (
          on,
          [],
          puts_of rid 1 m.tips,
          item_of rid 1 verdict ∷ [],
          passes s offer Tips bundle.tips m.tips tips [] third tt limits.tips m.tips_cut (sym (append-nil tips)),
          judges,
          refl,
        ),
        refl,
      ),
      m.all,
    ) in
    let short = b.short in
    inr (record {
      rid = rid;
      name = limits.rid;
      rest = rest;
      text = b.spells.text;
      stop = Reaches on verdict place;
      job = record {
        offer = offer;
        found = Reaches on verdict place;
        runs = subst (λ (l : List ℕ). Runs s offer all_sections first 0 l entries (Reaches on verdict place))
            (sym (take_all (2 ^ 30) rest (omega (arith, short, size)))) runs;
        stop_is = refl;
      };
      came_is = sym (came_whole rid (length bytes) place on verdict (omega (arith, size, at)));
    })
