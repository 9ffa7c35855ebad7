-- Named objects, as definitions see them.
use Rattle.std.specs.Prelude.{List, map}
use Rattle.fetch_wire.specs.Sections.{Object}
use Rattle.rad_vectors.specs.declared.object.NamedObject.{NamedObject}

-- the kind and the content
abbrev pub shown : NamedObject → Object
shown object = (object.kind, object.content.items)

-- those of a list
abbrev pub all_shown : List NamedObject → List Object
all_shown objects = map shown objects
