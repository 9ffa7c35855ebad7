use Rattle.std.proofs.Common.{◌<◌, List, ℕ, length, Some, None, subst, arith}
use Rattle.std.proofs.lemmas.Grind.{common_steps}
use Rattle.unit_reader.specs.Units.{BeginsBelow}
use Rattle.unit_reader.proofs.Readings.{Held, held_begin, held_broken, held_fronts, kept_begin, kept_turned, short_turned, turned_as, unit_turned}
use Rattle.unit_reader.proofs.reader.UnitReader.turn.Goals as goal

pub invariant_of-self-then-len-want : goal.invariant_of-self-then-len-want
invariant_of-self-then-len-want g c =
    let size : length c.self.inside.held.items < c.want-want.result = rw (← c.deref.ensures.value) c.want-want.ensures.more in
    let held : Held g.U.Units.shut g.U.Units.judge c.self.inside.units c.self.inside.held.items c.args.piece.now c.want-want.result c.min-n.result c.extend_from_slice.new.self.items =
    record {
      live = rw (← c.self.view_is) at c.requires.live;
      begun = c.self.invariant;
      begins = subst (λ (xs : List ℕ). BeginsBelow g.U.Units.judge c.self.inside.units xs c.want-want.result) c.deref.ensures.value c.want-want.ensures.begins;
      some = first_of (omega (arith, c.requires.some, c.self.inside.held.ok.0), omega arith);
      within = omega arith;
      upto = first_of (omega (arith, c.self.inside.held.ok.0), omega arith);
      same = grind (arith, common_steps, c.in_ok-extend_from_slice.ensures.items);
    } in
    held_begin held (first_of (omega (arith, c.extend_from_slice.new.self.ok.0), omega arith))

pub returns-then-len-want : goal.returns-then-len-want
returns-then-len-want g c =
    let size : length c.self.inside.held.items < c.want-want.result = rw (← c.deref.ensures.value) c.want-want.ensures.more in
    let held : Held g.U.Units.shut g.U.Units.judge c.self.inside.units c.self.inside.held.items c.args.piece.now c.want-want.result c.min-n.result c.extend_from_slice.new.self.items =
    record {
      live = rw (← c.self.view_is) at c.requires.live;
      begun = c.self.invariant;
      begins = subst (λ (xs : List ℕ). BeginsBelow g.U.Units.judge c.self.inside.units xs c.want-want.result) c.deref.ensures.value c.want-want.ensures.begins;
      some = first_of (omega (arith, c.requires.some, c.self.inside.held.ok.0), omega arith);
      within = omega arith;
      upto = first_of (omega (arith, c.self.inside.held.ok.0), omega arith);
      same = grind (arith, common_steps, c.in_ok-extend_from_slice.ensures.items);
    } in
    turned_as c.args.self.now c.self.view_is (short_turned held (first_of (omega (arith, c.extend_from_slice.new.self.ok.0), omega arith)))

pub look-requires-clause-fronts : goal.look-requires-clause-fronts
look-requires-clause-fronts g c =
    let size : length c.self.inside.held.items < c.want-want.result = rw (← c.deref.ensures.value) c.want-want.ensures.more in
    let held : Held g.U.Units.shut g.U.Units.judge c.self.inside.units c.self.inside.held.items c.args.piece.now c.want-want.result c.min-n.result c.extend_from_slice.new.self.items =
    record {
      live = rw (← c.self.view_is) at c.requires.live;
      begun = c.self.invariant;
      begins = subst (λ (xs : List ℕ). BeginsBelow g.U.Units.judge c.self.inside.units xs c.want-want.result) c.deref.ensures.value c.want-want.ensures.begins;
      some = first_of (omega (arith, c.requires.some, c.self.inside.held.ok.0), omega arith);
      within = omega arith;
      upto = first_of (omega (arith, c.self.inside.held.ok.0), omega arith);
      same = grind (arith, common_steps, c.in_ok-extend_from_slice.ensures.items);
    } in
    held_fronts held

pub invariant_of-self-in-Ok-Short : goal.invariant_of-self-in-Ok-Short
invariant_of-self-in-Ok-Short g c =
    let size : length c.self.inside.held.items < c.want-want.result = rw (← c.deref.ensures.value) c.want-want.ensures.more in
    let held : Held g.U.Units.shut g.U.Units.judge c.self.inside.units c.self.inside.held.items c.args.piece.now c.want-want.result c.min-n.result c.extend_from_slice.new.self.items =
    record {
      live = rw (← c.self.view_is) at c.requires.live;
      begun = c.self.invariant;
      begins = subst (λ (xs : List ℕ). BeginsBelow g.U.Units.judge c.self.inside.units xs c.want-want.result) c.deref.ensures.value c.want-want.ensures.begins;
      some = first_of (omega (arith, c.requires.some, c.self.inside.held.ok.0), omega arith);
      within = omega arith;
      upto = first_of (omega (arith, c.self.inside.held.ok.0), omega arith);
      same = grind (arith, common_steps, c.in_ok-extend_from_slice.ensures.items);
    } in
    let is = rw c.in-Ok-Short.field-0-is at c.in-Ok-Short.ensures in
    kept_begin held c.look.new.self c.look.new.held.items is

pub returns-in-Ok-Short : goal.returns-in-Ok-Short
returns-in-Ok-Short g c =
    let size : length c.self.inside.held.items < c.want-want.result = rw (← c.deref.ensures.value) c.want-want.ensures.more in
    let held : Held g.U.Units.shut g.U.Units.judge c.self.inside.units c.self.inside.held.items c.args.piece.now c.want-want.result c.min-n.result c.extend_from_slice.new.self.items =
    record {
      live = rw (← c.self.view_is) at c.requires.live;
      begun = c.self.invariant;
      begins = subst (λ (xs : List ℕ). BeginsBelow g.U.Units.judge c.self.inside.units xs c.want-want.result) c.deref.ensures.value c.want-want.ensures.begins;
      some = first_of (omega (arith, c.requires.some, c.self.inside.held.ok.0), omega arith);
      within = omega arith;
      upto = first_of (omega (arith, c.self.inside.held.ok.0), omega arith);
      same = grind (arith, common_steps, c.in_ok-extend_from_slice.ensures.items);
    } in
    let is = rw c.in-Ok-Short.field-0-is at c.in-Ok-Short.ensures in
    turned_as c.args.self.now c.self.view_is (kept_turned held c.look.new.self c.look.new.held.items is)

pub returns-in-Ok-Unit : goal.returns-in-Ok-Unit
returns-in-Ok-Unit g c =
    let size : length c.self.inside.held.items < c.want-want.result = rw (← c.deref.ensures.value) c.want-want.ensures.more in
    let held : Held g.U.Units.shut g.U.Units.judge c.self.inside.units c.self.inside.held.items c.args.piece.now c.want-want.result c.min-n.result c.extend_from_slice.new.self.items =
    record {
      live = rw (← c.self.view_is) at c.requires.live;
      begun = c.self.invariant;
      begins = subst (λ (xs : List ℕ). BeginsBelow g.U.Units.judge c.self.inside.units xs c.want-want.result) c.deref.ensures.value c.want-want.ensures.begins;
      some = first_of (omega (arith, c.requires.some, c.self.inside.held.ok.0), omega arith);
      within = omega arith;
      upto = first_of (omega (arith, c.self.inside.held.ok.0), omega arith);
      same = grind (arith, common_steps, c.in_ok-extend_from_slice.ensures.items);
    } in
    let is = rw c.in-Ok-Unit.field-0-is at c.in-Ok-Unit.ensures in
    turned_as c.args.self.now c.self.view_is (unit_turned held None c.look.new.self c.look.new.held.items is.0 is.1)

pub returns-in-Ok-Whole : goal.returns-in-Ok-Whole
returns-in-Ok-Whole g c =
    let size : length c.self.inside.held.items < c.want-want.result = rw (← c.deref.ensures.value) c.want-want.ensures.more in
    let held : Held g.U.Units.shut g.U.Units.judge c.self.inside.units c.self.inside.held.items c.args.piece.now c.want-want.result c.min-n.result c.extend_from_slice.new.self.items =
    record {
      live = rw (← c.self.view_is) at c.requires.live;
      begun = c.self.invariant;
      begins = subst (λ (xs : List ℕ). BeginsBelow g.U.Units.judge c.self.inside.units xs c.want-want.result) c.deref.ensures.value c.want-want.ensures.begins;
      some = first_of (omega (arith, c.requires.some, c.self.inside.held.ok.0), omega arith);
      within = omega arith;
      upto = first_of (omega (arith, c.self.inside.held.ok.0), omega arith);
      same = grind (arith, common_steps, c.in_ok-extend_from_slice.ensures.items);
    } in
    let is = rw c.in-Ok-Whole.field-0-is at c.in-Ok-Whole.ensures in
    turned_as c.args.self.now c.self.view_is (unit_turned held (Some c.in-Ok-Whole.item) c.look.new.self c.look.new.held.items is.0 is.1)

pub returns-in-Err : goal.returns-in-Err
returns-in-Err g c =
    let size : length c.self.inside.held.items < c.want-want.result = rw (← c.deref.ensures.value) c.want-want.ensures.more in
    let held : Held g.U.Units.shut g.U.Units.judge c.self.inside.units c.self.inside.held.items c.args.piece.now c.want-want.result c.min-n.result c.extend_from_slice.new.self.items =
    record {
      live = rw (← c.self.view_is) at c.requires.live;
      begun = c.self.invariant;
      begins = subst (λ (xs : List ℕ). BeginsBelow g.U.Units.judge c.self.inside.units xs c.want-want.result) c.deref.ensures.value c.want-want.ensures.begins;
      some = first_of (omega (arith, c.requires.some, c.self.inside.held.ok.0), omega arith);
      within = omega arith;
      upto = first_of (omega (arith, c.self.inside.held.ok.0), omega arith);
      same = grind (arith, common_steps, c.in_ok-extend_from_slice.ensures.items);
    } in
    held_broken held c.args.self.now c.self.view_is c.in-Err.stop c.look.new.self c.look.new.self c.look.new.held.items c.clear.new.self.items c.in-Err.ensures
