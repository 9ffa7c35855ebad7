use Rattle.object_store.proofs.Listing.{listed}
use Rattle.object_store.proofs.store.Store.repositories.Goals as goal

pub returns-clause-names : goal.returns-clause-names
returns-clause-names g c = λ items s.
    listed c.args.self.now.repositories c.args.self.now.keyring items c.shown_names.result s.legal s.each c.shown_names.ensures.names
