use Rattle.std.proofs.Common.{List, ℕ, sym, ap, subst, ◌∙◌, arith, length}
use Rattle.gossip_wire.proofs.AnnouncedTexts.{about_behind, about_size}
use Rattle.gossip_wire.proofs.FieldTexts.{one_sized}
use Rattle.gossip_wire.proofs.MessageTexts.{no_about, said}
use Rattle.gossip_wire.specs.Fields.{addresses_text}
use Rattle.gossip_wire.specs.Messages.{IsOf, signed_text}
use Rattle.gossip_wire.specs.declared.message.Message.TheVariants.{Node}
use Rattle.gossip_wire.proofs.reading.read_about.Goals as goal

pub returns-in_default-clause-none : goal.returns-in_default-clause-none
returns-in_default-clause-none c =
    no_about c.args.node c.args.sig c.args.bytes.now c.requires
    (λ f t alias addresses is e. omega (arith, c.in_default.ensures.none, ap length e, about_size f t alias addresses))

pub returns-in_default-eight_bytes_front-clause-none : goal.returns-in_default-eight_bytes_front-clause-none
returns-in_default-eight_bytes_front-clause-none c =
    let a = c.in-Some.ensures.found in
    no_about c.args.node c.args.sig c.args.bytes.now c.requires
    (λ f t alias addresses is e. omega (arith, c.in_default-eight_bytes_front.ensures.none, ap length a.1, ap length e, about_size f t alias addresses))

pub returns-in_default-alias_front-clause-none : goal.returns-in_default-alias_front-clause-none
returns-in_default-alias_front-clause-none c =
    let a = c.in-Some.ensures.found in
    let b = c.in-Some-eight_bytes_front.ensures.found in
    no_about c.args.node c.args.sig c.args.bytes.now c.requires
    (λ f t alias addresses is e. c.in_default-alias_front.ensures.none alias (addresses_text addresses) is.name
    (about_behind c.in-Some.features c.in-Some-eight_bytes_front.time c.args.bytes.now c.in-Some.rest.now c.in-Some-eight_bytes_front.rest.now a.0 b.0 a.1 b.1 f t alias addresses is e))

pub returns-in_default-2-clause-none : goal.returns-in_default-2-clause-none
returns-in_default-2-clause-none c =
    let a = c.in-Some.ensures.found in
    let b = c.in-Some-eight_bytes_front.ensures.found in
    let d = c.in-Some-alias_front.ensures.found in
    no_about c.args.node c.args.sig c.args.bytes.now c.requires
    (λ f t alias addresses is e.
    let behind = about_behind c.in-Some.features c.in-Some-eight_bytes_front.time c.args.bytes.now c.in-Some.rest.now c.in-Some-eight_bytes_front.rest.now a.0 b.0 a.1 b.1 f t alias addresses is e in
    let one = one_sized c.in-Some-alias_front.alias.now alias c.in-Some-alias_front.rest.now (addresses_text addresses) (sym d.1 ∙ behind) in
    (rw c.in_default-2.is at c.in_ok-addresses.ensures.none) addresses is.places one.1)

pub returns-clause-found : goal.returns-clause-found
returns-clause-found c =
    let a = c.in-Some.ensures.found in
    let b = c.in-Some-eight_bytes_front.ensures.found in
    let d = c.in-Some-alias_front.ensures.found in
    let places = rw c.in-Some-2.is at c.in_ok-addresses.ensures.found in
    let same = rw c.in-Some-3.is at c.in_ok-alias.ensures.same in
    subst (λ (l : List ℕ). IsOf 2 (signed_text c.args.node c.args.sig c.args.bytes.now) (Node c.args.node c.args.sig c.in-Some.features c.in-Some-eight_bytes_front.time l c.in-Some-2.addresses)) (sym same)
    (said c.args.node c.args.sig c.in-Some.features c.in-Some-eight_bytes_front.time c.in-Some-alias_front.alias.now c.in-Some-2.addresses
    c.args.bytes.now c.in-Some.rest.now c.in-Some-eight_bytes_front.rest.now c.in-Some-alias_front.rest.now
    c.requires (record { offers = a.0; when = b.0; name = d.0; places = places.0 }) a.1 b.1 d.1 places.1)
