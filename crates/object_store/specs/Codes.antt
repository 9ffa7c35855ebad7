-- Codes of the repositories and of the announcements of a store, for models of types that hold one.
use Rattle.std.specs.BTreeMap.{BTreeMap}
use Rattle.std.specs.Prelude.{Option}
use Rattle.std.specs.Coded.{Coded}
use Rattle.std.specs.contracts.alloc.Global as global
use Rattle.std.specs.contracts.collections.BTreeMap as tree
use Rattle.std.specs.contracts.option.Option as option
use Rattle.std.specs.contracts.impls.GlobalAllocator.TheImpl.{ghosts}
use Rattle.rad_base.specs.contracts.names.Rid as rid
use Rattle.rad_base.specs.contracts.names.RidOrd.TheImpl as ord
use Rattle.rad_base.specs.contracts.names.RidPartialEq.TheImpl as eq
use Rattle.rad_base.specs.contracts.names.RidPartialOrd.TheImpl as partial_ord
use Rattle.rad_base.specs.declared.names.Rid.{Rid}
use Rattle.announcements.specs.contracts.kept.Kept as kept
use Rattle.announcements.specs.contracts.key.Key as key
use Rattle.announcements.specs.contracts.key.KeyOrd.TheImpl as key_ord
use Rattle.announcements.specs.contracts.key.KeyPartialEq.TheImpl as key_eq
use Rattle.announcements.specs.contracts.key.KeyPartialOrd.TheImpl as key_partial_ord
use Rattle.announcements.specs.declared.kept.Kept.{Kept}
use Rattle.announcements.specs.declared.key.Key.{Key}
use Rattle.object_store.specs.contracts.repository.Repository as repository
use Rattle.object_store.specs.declared.repository.Repository.{Repository}

-- a map of repositories by their names
abbrev pub coded_repositories : Coded (BTreeMap Rid Repository)
coded_repositories =
    (tree.the_row rid.the_row repository.the_row global.the_row ord.ghosts eq.ghosts partial_ord.ghosts ghosts).coded

-- a map of what is kept by its keys
abbrev pub coded_places : Coded (BTreeMap Key (Option Kept))
coded_places =
    (tree.the_row key.the_row (option.the_row kept.the_row) global.the_row key_ord.ghosts key_eq.ghosts key_partial_ord.ghosts ghosts).coded
