use Rattle.std.proofs.Common.{◌≡◌, map, take}
use Rattle.std.specs.List.{flat_map}
use Rattle.rad_vectors.specs.Repositories.{remotes_of, signed_objects}
use Rattle.rad_vectors.specs.Shown.{all_shown}
use Rattle.rad_vectors.specs.Signers.{signer_of}
use Rattle.rad_vectors.proofs.signing.signed_refs.Given as goal

abbrev pub invariant-delegates : goal.invariant-delegates
invariant-delegates l =
    record {
      objects : all_shown l.objects.items ≡ flat_map signed_objects (map signer_of (take l.delegate-index l.delegates));
      remotes : l.remotes.items ≡ remotes_of (map signer_of (take l.delegate-index l.delegates));
    }
