-- What is so of an accepted text.
use Rattle.std.proofs.Common.{slice_get, ap, ◌∙◌, arith}
use Rattle.mir_ty.specs.ItemTable.{ItemTable}
use Rattle.mir_base.specs.declared.place_in_text.Pos.{Pos}
use Rattle.src_tree.specs.Layout.{Parts}
use Rattle.typed_tree.specs.Tree.{ProgramTree}
use Rattle.well_typed.specs.Claim.{Holds}
use Rattle.well_typed.specs.Items.{are_items}
use Rattle.well_typed.specs.Program.{WellTyped, are_bodies}
use Rattle.typing_rules.specs.Promises.{AreReady, AreClosures}
use Rattle.typing_soundness.specs.Program.{AreCollected, IsAccepted, HaveHeads}
use Rattle.typing_soundness.proofs.Items.Accepted.{items_ready}
use Rattle.typing_soundness.proofs.Items.Headed.{heads_of_text, have_heads}
use Rattle.typing_soundness.proofs.Items.Known.{items_known}
use Rattle.typing_soundness.proofs.Bodies.Order.{bodies_in_order}
use Rattle.typing_soundness.proofs.Bodies.Program.{bodies_typed, heads_typed}

module _ (parts : Parts Pos) (items : ItemTable) (p : ProgramTree) (h : IsAccepted parts items p) where
  pub are_collected : AreCollected parts items
  are_collected =
      let ready : AreReady items = items_ready parts h.end items p h.collected h.checked h.text.listed in
      record {
        shaped = h.text.shaped;
        ready = ready;
        known = items_known parts items (heads_of_text parts h.end items h.collected) ready h.text.shaped;
      }

  pub are_headed : HaveHeads p.items.bodies p.bodies × AreClosures p.items
  are_headed = have_heads parts h.end items p h.collected h.checked h.text.shaped h.text.listed

  pub are_typed : AreReady p.items × Holds (are_bodies p.items 0 p.items.bodies p.bodies)
  are_typed =
      let typed = bodies_typed parts items p are_collected h.checked in (
        typed.1,
        heads_typed p.items 0 p.items.bodies p.bodies (λ k head is. ap (slice_get p.items.bodies) (omega arith) ∙ is)
            (typed.2 are_headed.1) (bodies_in_order parts items p h.checked) are_headed.0,
      )

  pub is_typed : Holds (are_items p.items) → WellTyped p
  is_typed are = (are, are_typed.1)
