-- By its verdict a bundle makes exactly one list of entries.
use Rattle.std.proofs.Common.{◌≡◌, List, [], ◌∷◌, ◌++◌, Result, refl, sym, ap, ◌∙◌}
use Rattle.commit_graph.specs.Objects.{Object}
use Rattle.repo_entries.specs.Items.{Item}
use Rattle.repo_entries.specs.declared.whole.Whole.{Whole}
use Rattle.repo_slice.specs.Keeps.{item_of}
use Rattle.repo_slice.specs.declared.verdict.Judged.{Judged}
use Rattle.fetch_wire.specs.Bundles.{Bundle}
use Rattle.fetch_stages.specs.Batches.{IsCut}
use Rattle.fetch_stages.specs.Puts.{puts_of}
use Rattle.fetch_stages.proofs.CutOn.{cut_ended, cut_on}
use Rattle.fetch_stages.proofs.OneCut.{one_cut}
use Rattle.rad_node.specs.Completeness.{AreEntries}

-- objects are cut
some_cut : (objects : List Object) → (batches : List (List Object)) × IsCut objects batches
some_cut objects =
    let first = cut_on objects [] [] [] (refl, refl) in
    let last = cut_ended objects first.0 first.1 first.2 in
    (first.0 ++ last.0, last.1)

pub some_entries : (bundle : Bundle) (verdict : Result Judged Whole) → (entries : List Item) × AreEntries bundle verdict entries
some_entries bundle verdict =
    let identity = some_cut bundle.identity in
    let sigs = some_cut bundle.sigs in
    let tips = some_cut bundle.tips in (
      puts_of bundle.rid 1 identity.0 ++ (puts_of bundle.rid 1 sigs.0 ++ (puts_of bundle.rid 1 tips.0 ++ item_of bundle.rid 1 verdict ∷ [])),
      record {
        identity = identity.0;
        sigs = sigs.0;
        tips = tips.0;
        identity_cut = identity.1;
        sigs_cut = sigs.1;
        tips_cut = tips.1;
        all = refl;
      },
    )

pub one_entries : (bundle : Bundle) (verdict : Result Judged Whole) (these those : List Item) → AreEntries bundle verdict these → AreEntries bundle verdict those
    → these ≡ those
one_entries bundle verdict these those a b =
    let identity : a.identity ≡ b.identity = one_cut bundle.identity a.identity b.identity a.identity_cut b.identity_cut in
    let sigs : a.sigs ≡ b.sigs = one_cut bundle.sigs a.sigs b.sigs a.sigs_cut b.sigs_cut in
    let tips : a.tips ≡ b.tips = one_cut bundle.tips a.tips b.tips a.tips_cut b.tips_cut in
    let puts = λ (batches : List (List Object)). puts_of bundle.rid 1 batches in
    let last = item_of bundle.rid 1 verdict ∷ [] in
    a.all ∙ ap (λ (l : List (List Object)). puts l ++ (puts a.sigs ++ (puts a.tips ++ last))) identity
    ∙ ap (λ (l : List (List Object)). puts b.identity ++ (puts l ++ (puts a.tips ++ last))) sigs
    ∙ ap (λ (l : List (List Object)). puts b.identity ++ (puts b.sigs ++ (puts l ++ last))) tips ∙ sym b.all
