use Rattle.std.proofs.Common.{◌<◌, refl, subst}
use Rattle.unwind_tree.proofs.Rooms.{room_at, room_within}
use Rattle.unwind_tree.proofs.changes.fill.Goals as goal

pub element_mut-requires : goal.element_mut-requires
element_mut-requires c = room_within c.args.number c.args.scopes.now c.requires

pub fill-requires : goal.fill-requires
fill-requires c = subst (λ n. 0 < n) (room_at c.args.number c.args.scopes.now c.element_mut.result.now c.element_mut.ensures.value) c.requires

pub returns : goal.returns
returns c = record {
  scope = c.element_mut.result.now;
  left = record { entries = c.fill.new.self; pending = c.element_mut.result.now.pending };
  there = c.element_mut.ensures.value;
  how = (c.fill.ensures, refl);
  is = refl;
}
