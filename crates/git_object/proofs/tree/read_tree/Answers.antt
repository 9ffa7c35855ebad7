use Rattle.std.proofs.Common.{length, arith, refl, ap, length-append}
use Rattle.rad_base.proofs.Conditions.{is_nothing}
use Rattle.git_object.specs.Grammar.{entry_text}
use Rattle.git_object.specs.Reading.{entries_in}
use Rattle.git_object.specs.Views.{tree_entry_of, last_key}
use Rattle.git_object.proofs.TreeTexts.{broken_no_tree, broken_tree, read_all, read_more, read_none, some_rest}
use Rattle.git_object.proofs.tree.read_tree.Goals as goal

pub reading-init : goal.reading-init
reading-init c = record { left = omega arith; read = read_none c.args.bytes.now }

pub returns-in_default-clause-bad : goal.returns-in_default-clause-bad
returns-in_default-clause-bad c =
    broken_tree c.args.bytes.now c.reading.rest.now (last_key c.reading.before) _ c.reading.invariant.read
    (some_rest c.is_empty.result c.reading.rest.now c.is_empty.ensures c.reading-test.true) c.in_default.ensures.none refl

pub returns-in_default-clause-exact : goal.returns-in_default-clause-exact
returns-in_default-clause-exact c = (λ ok. cc ok, λ tree. absurd (broken_no_tree c.args.bytes.now _ (returns-in_default-clause-bad c) tree))

pub reading-preserved : goal.reading-preserved
reading-preserved c =
    let found = c.in-Some.ensures.found in
    record {
      left = omega (arith, c.reading.invariant.left, ap length found.text, length-append (entry_text (tree_entry_of c.in-Some.entry)) c.in-Some.more.now);
      read = read_more c.args.bytes.now c.reading.rest.now c.in-Some.more.now (last_key c.reading.before) (tree_entry_of c.in-Some.entry) c.reading.invariant.read found.is found.text found.above;
    }

pub returns-clause-tree : goal.returns-clause-tree
returns-clause-tree c =
    read_all c.args.bytes.now c.reading.rest.now (last_key c.reading.before) c.reading.invariant.read
    (is_nothing c.is_empty.result c.reading.rest.now c.is_empty.ensures c.reading-test.false)

pub returns-clause-exact : goal.returns-clause-exact
returns-clause-exact c = (λ ok. (entries_in c.args.bytes.now, returns-clause-tree c), λ tree. refl)
