use Rattle.std.proofs.Common.{refl}
use Rattle.git_object.proofs.Tags.{broken_no_tag, broken_tag_rest, broken_type, tag_parts}
use Rattle.git_object.proofs.tag.read_tag.Goals as goal

pub returns-in_default-type_line_at-clause-bad : goal.returns-in_default-type_line_at-clause-bad
returns-in_default-type_line_at-clause-bad c =
    let object = c.in-Some.ensures.found in
    broken_type c.args.bytes.now c.in-Some.behind_object.now c.in-Some.object _ object.0 object.1 c.in_default-type_line_at.ensures.none refl

pub returns-in_default-type_line_at-clause-exact : goal.returns-in_default-type_line_at-clause-exact
returns-in_default-type_line_at-clause-exact c =
    (λ ok. cc ok, λ tag. absurd (broken_no_tag c.args.bytes.now _ (returns-in_default-type_line_at-clause-bad c) tag))

pub returns-in_default-after-clause-bad : goal.returns-in_default-after-clause-bad
returns-in_default-after-clause-bad c =
    let object = c.in-Some.ensures.found in
    broken_tag_rest c.args.bytes.now c.in-Some.behind_object.now c.in-Some-type_line_at.rest.now c.in-Some.object c.in-Some-type_line_at.kind _
    object.0 object.1 c.in-Some-type_line_at.ensures.found (λ begins. c.in_default-after.ensures.none begins.0 begins.1) refl

pub returns-in_default-after-clause-exact : goal.returns-in_default-after-clause-exact
returns-in_default-after-clause-exact c =
    (λ ok. cc ok, λ tag. absurd (broken_no_tag c.args.bytes.now _ (returns-in_default-after-clause-bad c) tag))

pub returns-clause-tag : goal.returns-clause-tag
returns-clause-tag c =
    let object = c.in-Some.ensures.found in
    tag_parts c.args.bytes.now c.in-Some.behind_object.now c.in-Some-type_line_at.rest.now c.in-Some.object c.in-Some-type_line_at.kind
    object.0 object.1 c.in-Some-type_line_at.ensures.found (c.in-Some-after.field-0.now, c.in-Some-after.ensures.found)

pub returns-clause-exact : goal.returns-clause-exact
returns-clause-exact c = (λ ok. (_, returns-clause-tag c), λ tag. refl)
