-- No argument of a call stands in what another names, or is an index on the way to it: the keys of such a place are
-- names in scope and nodes inside an argument, and no argument is one of those.
use Rattle.std.proofs.Common.{◌≡◌, ◌⊎◌, inl, inr, ℕ, ◌<◌, List, [], ◌∷◌, ◌++◌, Option, refl, sym, subst, arith}
use Rattle.std.proofs.lemmas.Bool.{false≢true}
use Rattle.mir_base.specs.declared.place_in_text.Pos.{Pos}
use Rattle.mir_ty.specs.declared.ty.TyId.{TyId}
use Rattle.typed_tree.specs.declared.node.Use.{Use}
use Rattle.typed_tree.specs.Nodes.{number_of, nodes_of, nodes_in, nodes_among}
use Rattle.typed_tree.specs.Tree as tree
use Rattle.typed_tree.specs.Tree.{Node, node, Form, Nodes, no_node, a_node, BodyTree, ProgramTree}
use Rattle.src_meaning.specs.Locals.OfBody.{local_ty, local_of}
use Rattle.src_meaning.specs.Shape as shapes
use Rattle.src_meaning.specs.Shape.{shape}
use Rattle.typing_rules.specs.Accesses as rules
use Rattle.well_typed.specs.Claim.{Holds}
use Rattle.well_typed.specs.Nodes as typing
use Rattle.well_typed.specs.Places.{Standing, Passed, Used, borrow_by}
use Rattle.soundness_values.proofs.AlsoTests.{Also}
use Rattle.soundness_values.proofs.CheckedBodies.{is_reference_param}
use Rattle.soundness_values.proofs.Facts.{Naming}
use Rattle.soundness.proofs.PassAloneArgs.{names_of, locals_in}
use Rattle.soundness.proofs.PassAloneBrings.{named_form, args_of}
use Rattle.soundness.proofs.PassAloneKeys.{other_place}
use Rattle.soundness.proofs.PassAloneRun.{Of}
use Rattle.soundness.proofs.PassAloneSuit.{local_off}
use Rattle.soundness_frame.proofs.PassArgsLeft.{OffIfAny, OffAll, AllOff}
use Rattle.soundness_cells.proofs.PassCells.{Above, NodeIn, above_in, node_left, node_right, rising}
use Rattle.soundness_cells.proofs.PassFacts.{Standpoint, context}
use Rattle.soundness_frame.proofs.PassFrameBodies.{any_place}
use Rattle.soundness_cells.proofs.PassRest.{own_local}
use Rattle.soundness_frame.proofs.PassTold.{Here}
use Rattle.soundness_frame.proofs.PassToldBelow.{node_above}
use Rattle.soundness_frame.proofs.PassToldPlaces.{Rises, above_left, above_right, rises_right}

-- one of some arguments, and the nodes inside it
abbrev pub ArgIn : Nodes → Node → Type 0
ArgIn no_node a = ⊥
ArgIn (a_node first rest) a = (first ≡ a) ⊎ ArgIn rest a

abbrev pub inside : Node → List Node
inside (node id at ty by form) = nodes_in form

own_node : (m : Node) → NodeIn (nodes_of m) m
own_node (node id at ty by form) = inl refl

inside_in : (a j : Node) → NodeIn (inside a) j → NodeIn (nodes_of a) j
inside_in (node id at ty by form) j i = inr i

pub arg_in : (ns : Nodes) (a j : Node) → ArgIn ns a → NodeIn (nodes_of a) j → NodeIn (nodes_among ns) j
arg_in no_node a j x i = absurd x
arg_in (a_node first rest) a j (inl e) i = node_left (nodes_of first) (nodes_among rest) j
    (subst (λ m. NodeIn (nodes_of m) j) (sym e) i)
arg_in (a_node first rest) a j (inr x) i =
    node_right (nodes_of first) (nodes_among rest) j (arg_in rest a j x i)

less_apart : (j m : ℕ) → j < m → j ≡ m → ⊥
less_apart j m l e = let less : j < m = l in let same : j ≡ m = e in omega (less, same, arith)

more_apart : (j m : ℕ) → m < j → j ≡ m → ⊥
more_apart j m l e = let less : m < j = l in let same : j ≡ m = e in omega (less, same, arith)

-- the first of some nodes is below all behind it
first_below : (first : Node) (rest : List Node) → Rises (nodes_of first ++ rest) →
    Above (number_of first) (inside first) × Above (number_of first) rest
first_below (node id at ty by form) rest r =
    let a = (rising (node id at ty by form) (nodes_in form ++ rest) r).0 in
    (above_left id (nodes_in form) rest a, above_right id (nodes_in form) rest a)

-- no argument is a node inside one
pub inside_apart : (ns : Nodes) → Rises (nodes_among ns) → (a m : Node) → ArgIn ns a → ArgIn ns m → (j : Node) →
    NodeIn (inside a) j → number_of j ≡ number_of m → ⊥
inside_apart no_node r a m x y j i = absurd x
inside_apart (a_node first rest) r a m (inl e) (inl f) j i = more_apart (number_of j) (number_of m)
    (subst (λ k. number_of k < number_of j) f (above_in (number_of first) (inside first) j
    (first_below first (nodes_among rest) r).0 (subst (λ k. NodeIn (inside k) j) (sym e) i)))
inside_apart (a_node first rest) r a m (inl e) (inr y) j i = less_apart (number_of j) (number_of m)
    (above_in (number_of j) (nodes_among rest) m (node_above (nodes_of first) (nodes_among rest) j r
    (inside_in first j (subst (λ k. NodeIn (inside k) j) (sym e) i))) (arg_in rest m m y (own_node m)))
inside_apart (a_node first rest) r a m (inr x) (inl f) j i = more_apart (number_of j) (number_of m)
    (subst (λ k. number_of k < number_of j) f (above_in (number_of first) (nodes_among rest) j
    (first_below first (nodes_among rest) r).1 (arg_in rest a j x (inside_in a j i))))
inside_apart (a_node first rest) r a m (inr x) (inr y) j i =
    inside_apart rest (rises_right (nodes_of first) (nodes_among rest) r) a m x y j i

module _ (p : ProgramTree) (b : BodyTree) (also : Also) (fuel : ℕ) (rise : Rises (nodes_of b.block)) where
  abbrev local : ℕ → ℕ
  local = local_of p.items b

  abbrev IfAny : ℕ → Option Naming → Type 0
  IfAny = OffIfAny p.items (local_ty p.items b) (is_reference_param p.items b) (own_local p.items b)

  -- each argument stands somehow
  pub one_typed : (x : Standpoint) (ids : List TyId) (ns : Nodes) → Holds (typing.arguments (context p.items x) ids
      ns) →
      (a : Node) → ArgIn ns a → (standing : Standing) × Holds (typing.typed (context p.items x) standing a)
  one_typed x ids no_node h a i = absurd i
  one_typed x [] (a_node first rest) h a i = absurd (false≢true h)
  one_typed x (id ∷ ids) (a_node first rest) h a (inl e) =
      (Passed id, subst (λ m. Holds (typing.typed (context p.items x) (Passed id) m)) e h.0)
  one_typed x (id ∷ ids) (a_node first rest) h a (inr i) = one_typed x ids rest h.1 a i

  module _ (aliases : rules.Aliases) (places : shapes.Aliases) (x : Standpoint)
      (whole : Nodes) (ids : List TyId) (o : Here p.items any_place (Of p b) aliases places x (nodes_among whole))
      (typed : Holds (typing.arguments (context p.items x) ids whole)) where
    off_form : (form : Form) (id : ℕ) (at : Pos) (ty : TyId) (by : Option Use) → ArgIn whole (node id at ty by form) →
        (m : Node) → ArgIn whole m → IfAny (local (number_of m)) (named_form p.items b also fuel rise places id form).1
    off_form (tree.Borrow unique base) id at ty by i m y =
        let t = one_typed x ids whole typed (node id at ty by (tree.Borrow unique base)) i in
        local_off p.items b (number_of m) ((shape p.items base).place places)
        (other_place p.items any_place (Of p b) aliases places x (nodes_among whole) o base m (Used (borrow_by unique))
        t.1.1.0 (arg_in whole m m y (own_node m))
        (λ j k. inside_apart whole o.rises (node id at ty by (tree.Borrow unique base)) m i y j k))
    off_form form id at ty by i m y = tt

    off_names : (m : Node) → ArgIn whole m → (part : Nodes) → ((a : Node) → ArgIn part a → ArgIn whole a) →
        OffAll p.items (local_ty p.items b) (is_reference_param p.items b) (own_local p.items b) (local (number_of m))
        (names_of (args_of p.items b also fuel rise places part))
    off_names m y no_node f = tt
    off_names m y (a_node (node id at ty by form) rest) f =
        (off_form form id at ty by (f (node id at ty by form) (inl refl)) m y, off_names m y rest (λ a i. f a (inr i)))

    off_locals : (part : Nodes) → ((a : Node) → ArgIn part a → ArgIn whole a) →
        AllOff p.items (local_ty p.items b) (is_reference_param p.items b) (own_local p.items b)
        (locals_in p.items b part) (names_of (args_of p.items b also fuel rise places whole))
    off_locals no_node f = tt
    off_locals (a_node first rest) f =
        (off_names first (f first (inl refl)) whole (λ a i. i), off_locals rest (λ a i. f a (inr i)))

    -- no argument is in what another names
    pub all_off : AllOff p.items (local_ty p.items b) (is_reference_param p.items b) (own_local p.items b)
        (locals_in p.items b whole) (names_of (args_of p.items b also fuel rise places whole))
    all_off = off_locals whole (λ a i. i)
