-- `List` as an owner of many values, so that a type may reach itself through it: its elements are those of its `Vec`.
use mathlib.Core.Path.{◌≡◌, refl, sym}
use mathlib.Core.List.{List as Listed, []}
use mathlib.Core.Former.{Former, this, list, via, children}
use base.Stored.{code_map}
use denote.RattleType.{RattleType}
use denote.HoleLaws.{Alike}
use denote.HolePlaces.{Recodes, struct_places, laid}
use denote.Hole.Carrier.{listed, list-listed}
use denote.Hole.Fix.{over}
use denote.Param.Weighed.{Weighed, w_list}
use denote.Model.Placed.{view_places}
use Rattle.std.specs.formers.vec.Vec as vec
use Rattle.std.specs.declared.alloc.Global.{Global}
use Rattle.std.specs.contracts.alloc.Global as heap
use Rattle.std.specs.contracts.impls.GlobalAllocator.TheImpl.{ghosts}
use Rattle.mir_base.specs.declared.list.List.TheInside.{Inside}
use Rattle.mir_base.specs.declared.list.List.TheView.{view, invariant}
use Rattle.mir_base.specs.contracts.list.List as outside
use Rattle.mir_base.specs.contracts.list.List.TheInside as inside

-- the shape of a list is its length, and it holds its elements in order
abbrev pub the_former : Former {0} → Former {0}
the_former g = list g

abbrev pub the_weighed : {g : Former {0}} → Weighed g → Weighed (the_former g)
the_weighed w = w_list w

pub the_empty : Listed ⊥
the_empty = []

abbrev pub the_items : (X : Type 0) → Listed X → Listed X
the_items X elements = elements

pub the_items_listed : (X : Type 0) (elements : Listed X) →
    listed _ (children (the_former this) X elements) ≡ the_items X elements
the_items_listed X elements = list-listed X elements

-- the one field, a `Vec`
abbrev field : Former {0}
field =
    via (vec.the_former this Global) Inside (λ X a. a.elements) (λ X v. record { elements = v })
    (λ X a. refl) (λ X v. refl)

module _ (R S : RattleType) (h : R.Denot → S.Denot) where
  pub the_places : Alike R S h → Alike (outside.the_row R) (outside.the_row S) ((the_former this).map R.Denot S.Denot h)
  the_places alike =
      let vecs = vec.the_places heap.the_row ghosts R S h alike in
      let fields = struct_places (inside.the_type R) (inside.the_type S) (vec.mapped h, tt) _ (λ d. refl) refl
      (laid _ _ _ vecs, tt) in
      view_places field (list this) view (λ X Y k u. refl) (λ X u. refl) R.Denot S.Denot h
      (outside.the_row R).coded (outside.the_row S).coded
      (invariant R.Denot) (invariant S.Denot) (λ u p q. refl) (λ u p q. refl) (λ u e. tt) (λ u e. tt)
      (over (inside.the_row R)) (over (inside.the_row S)) fields

  pub the_codes_placed : Recodes R S h →
      Recodes (outside.the_row R) (outside.the_row S) ((the_former this).map R.Denot S.Denot h)
  the_codes_placed same elements = sym (code_map R.coded.code S.coded.code h (λ x. sym (same x)) elements)
