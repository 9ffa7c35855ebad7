-- Delegates, as definitions see them.
use Rattle.rad_vectors.specs.Repositories.{Signer}
use Rattle.rad_vectors.specs.declared.delegate.Delegate.{Delegate}

-- the key and the text of the refs
abbrev pub signer_of : Delegate → Signer
signer_of delegate = record { key = delegate.key; refs = delegate.refs.items }
