use Rattle.rad_node.proofs.Openings.{opened_good, printing_said}
use Rattle.rad_node.proofs.printing.print_store.Goals as goal

pub returns-in-Ok-clause-done : goal.returns-in-Ok-clause-done
returns-in-Ok-clause-done g c = λ r.
    let o = c.in-Ok.ensures.opened in
    let p = c.print_on.ensures.report o.stored o.stands r in
    record {
      keyring = c.in-Ok.store.keyring;
      stored = o.stored;
      good = opened_good g.D.Disk.reads_as g.D.Disk.images _ c.in-Ok.store o;
      text = p.0;
      is = p.1;
      given = p.2;
    }

pub returns-in-Ok-clause-said : goal.returns-in-Ok-clause-said
returns-in-Ok-clause-said g c = printing_said c.args.which _ _ c.print_on.result.0 c.print_on.ensures.end
