-- The keys of a place at whose root stands no binding of a guard: on its way are nodes inside alone, and a place
-- without
-- a name at its root is one of them.
use Rattle.std.proofs.Common.{◌≡◌, inl, inr, ℕ, List, Option, Some, None, refl, sym, subst}
use Rattle.std.proofs.lemmas.Option.{none-some}
use Rattle.mir_ty.specs.declared.ty.TyId.{TyId}
use Rattle.mir_ty.specs.ItemTable.{ItemTable}
use Rattle.store_model.specs.Places.Place.{Step, ToPart, ToContent, ToElement, Place, whole_local}
use Rattle.typed_tree.specs.declared.node.Use.{Use}
use Rattle.typed_tree.specs.Nodes.{number_of, nodes_of, nodes_in}
use Rattle.typed_tree.specs.Tree as tree
use Rattle.typed_tree.specs.Tree.{Node, node, Form}
use Rattle.src_meaning.specs.Shape as shapes
use Rattle.src_meaning.specs.Shape.{head, shape, shape_of}
use Rattle.typing_rules.specs.Accesses.{root_of, root_of_form}
use Rattle.soundness_cells.proofs.PassCells.{NodeIn, node_left, node_right}
use Rattle.soundness_frame.proofs.PassKeys.{KeysIn, keys_at_end}

module _ (items : ItemTable) (places : shapes.Aliases) (P : ℕ → Type 0) where
  -- a name at the root stands for itself
  abbrev pub Itself : Option ℕ → Type 0
  Itself root = (key : ℕ) → root ≡ Some key → shapes.place_of_key key places ≡ whole_local key

  abbrev Inside : List Node → Type 0
  Inside ns = (m : Node) → NodeIn ns m → P (number_of m)

  own_node : (m : Node) → NodeIn (nodes_of m) m
  own_node (node id at ty by form) = inl refl

  no_steps : (key : ℕ) → shapes.place_of_key key places ≡ whole_local key →
      KeysIn P (shapes.place_of_key key places).steps
  no_steps key e = subst (λ (q : Place). KeysIn P q.steps) (sym e) tt

  mutual
    pub own_steps : (n : Node) → Itself (root_of n) → Inside (nodes_of n) →
        KeysIn P ((shape items n).place places).steps
    own_steps (node id at ty by form) r f = form_steps form id ty by r (λ m i. f m (inr i))

    form_steps : (form : Form) (id : ℕ) (ty : TyId) (by : Option Use) → Itself (root_of_form form) →
        Inside (nodes_in form) → KeysIn P ((shape_of items form (head id ty by)).place places).steps
    form_steps (tree.Variable key) id ty by r f = no_steps key (r key refl)
    form_steps (tree.Captured closure part name) id ty by r f =
        keys_at_end P (shapes.place_of_key closure places).steps (ToPart part) (no_steps closure (r closure refl)) tt
    form_steps (tree.Field base part) id ty by r f =
        keys_at_end P ((shape items base).place places).steps (ToPart part) (own_steps base r f) tt
    form_steps (tree.Index base index count) id ty by r f =
        keys_at_end P ((shape items base).place places).steps (ToElement (number_of index))
        (own_steps base r (λ m i. f m (node_left (nodes_of base) (nodes_of index) m i)))
        (f index (node_right (nodes_of base) (nodes_of index) index (own_node index)), tt)
    form_steps (tree.Deref base) id ty by r f =
        keys_at_end P ((shape items base).place places).steps ToContent (own_steps base r f) tt
    form_steps form id ty by r f = tt

  mutual
    pub own_root : (n : Node) → root_of n ≡ None → Inside (nodes_of n) → P ((shape items n).place places).local
    own_root (node id at ty by form) r f =
        form_root form id ty by r (f (node id at ty by form) (inl refl)) (λ m i. f m (inr i))

    form_root : (form : Form) (id : ℕ) (ty : TyId) (by : Option Use) → root_of_form form ≡ None → P id →
        Inside (nodes_in form) → P ((shape_of items form (head id ty by)).place places).local
    form_root (tree.Variable key) id ty by r own f = absurd (none-some key (sym r))
    form_root (tree.Captured closure part name) id ty by r own f = absurd (none-some closure (sym r))
    form_root (tree.Field base part) id ty by r own f = own_root base r f
    form_root (tree.Index base index count) id ty by r own f =
        own_root base r (λ m i. f m (node_left (nodes_of base) (nodes_of index) m i))
    form_root (tree.Deref base) id ty by r own f = own_root base r f
    form_root form id ty by r own f = own
