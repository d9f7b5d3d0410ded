-- What the arguments of a call name lies apart: each from those behind it, where nothing conflicts among them.
use Rattle.std.proofs.Common.{◌≡◌, inr, ℕ, ◌<◌, ◌||◌, not, Bool, true, false, List, [], ◌∷◌, ◌++◌, Option, if◌then◌else◌, refl, ap, subst, arith}
use Rattle.std.specs.Cmp.Derive.{both_true}
use Rattle.std.proofs.lemmas.Bool.{false≢true}
use Rattle.mir_base.specs.declared.place_in_text.Pos.{Pos}
use Rattle.mir_ty.specs.declared.ty.TyId.{TyId}
use Rattle.mir_ty.specs.ItemTable.{ItemTable}
use Rattle.store_model.specs.Places.Place.{Place}
use Rattle.typed_tree.specs.declared.node.Use.{Use}
use Rattle.typed_tree.specs.Nodes.{number_of, nodes_of, nodes_among}
use Rattle.typed_tree.specs.Tree as tree
use Rattle.typed_tree.specs.Tree.{Node, node, Form, Nodes, no_node, a_node, BodyTree}
use Rattle.src_meaning.specs.Locals.Effects.{place_at}
use Rattle.src_meaning.specs.Locals.OfBody.{local_ty, local_of}
use Rattle.src_meaning.specs.Shape as shapes
use Rattle.src_meaning.specs.Shape.{shape}
use Rattle.typing_rules.specs.Accesses as rules
use Rattle.typing_rules.specs.Accesses.{Argument, Referring, told, told_form, inside, place_of, root_of, root_of_form, replaces, one, own_access, access_by, overlap_together, conflicts_among}
use Rattle.well_typed.specs.Claim.{Holds}
use Rattle.well_typed.specs.Nodes as typing
use Rattle.well_typed.specs.Places.{Passed, Used, borrow_by}
use Rattle.soundness_values.proofs.AlsoTests.{Also}
use Rattle.soundness_values.proofs.CheckedBodies.{is_reference_param}
use Rattle.soundness_values.proofs.Checks as checks
use Rattle.soundness_values.proofs.Facts.{Naming}
use Rattle.soundness.proofs.PassAloneArgs.{names_of}
use Rattle.soundness.proofs.PassAloneBrings.{args_of}
use Rattle.soundness.proofs.PassAloneKeys.{other_keys, below_later, other_place}
use Rattle.soundness.proofs.PassAlonePairs.{NoAlias, Without, Placed, placed, pair_apart}
use Rattle.soundness.proofs.PassAlonePassed.{Argued, AllTold}
use Rattle.soundness_frame.proofs.PassArgsLeft.{named_of}
use Rattle.soundness_cells.proofs.PassCells.{NodeIn, node_left, node_right, above_in}
use Rattle.soundness_frame.proofs.PassConflicts.{EachArgument, Apart, first_apart, rest_apart}
use Rattle.soundness_cells.proofs.PassFacts.{Standpoint, context}
use Rattle.soundness_cells.proofs.PassRest.{own_local}
use Rattle.soundness_frame.proofs.PassTold as here
use Rattle.soundness_frame.proofs.PassTold.{KnownOf, Here, Told}
use Rattle.soundness_frame.proofs.PassToldBelow.{node_above}
use Rattle.soundness_frame.proofs.PassToldPlaces.{Rises}

module _ (items : ItemTable) (May : Place → Type 0) (Of : KnownOf) (aliases : rules.Aliases) (places : shapes.Aliases)
    (x : Standpoint) where
  abbrev at_place : Node → Place
  at_place base = (shape items base).place places

  abbrev Around : List Node → Type 0
  Around = Here items May Of aliases places x

  abbrev TypedAs : Node → Type 0
  TypedAs base = (unique : Bool) × Holds (typing.typed (context items x) (Used (borrow_by unique)) base)

  -- ---- of one argument that borrows

  -- what is borrowed by `&mut` is no binding of a guard
  pub no_alias : (at : Pos) (unique : Bool) (base : Node) → Told items May Of aliases
      (told_form aliases at (tree.Borrow unique base)) → unique ≡ true → NoAlias items May Of aliases places (root_of
      base)
  no_alias at unique base t u key e =
      (here.told_right items May Of aliases (inside aliases base)
      (one (if unique then rules.BorrowsUniquely else rules.Borrows) (place_of aliases base) (root_of base) at)
      t).0.0.replaced key (ap (λ b. replaces (if b then rules.BorrowsUniquely else rules.Borrows)) u) e

  pub arg_placed : (id : ℕ) (at : Pos) (ty : TyId) (by : Option Use) (unique : Bool) (base : Node) (want : TyId) →
      Around (nodes_of (node id at ty by (tree.Borrow unique base))) →
      Holds (typing.typed (context items x) (Passed want) (node id at ty by (tree.Borrow unique base))) →
      Told items May Of aliases (told aliases (node id at ty by (tree.Borrow unique base))) →
      Placed items May Of aliases places base unique
  arg_placed id at ty by unique base want o h t = placed items May Of aliases places x base (Used (borrow_by unique))
      unique
      (here.here_in items May Of aliases places x (node id at ty by (tree.Borrow unique base)) (nodes_of base) o) h.1.0
      (no_alias at unique base
      (here.told_left items May Of aliases (told_form aliases at (tree.Borrow unique base))
      (own_access (access_by by) (place_of aliases (node id at ty by (tree.Borrow unique base)))
      (root_of_form (tree.Borrow unique base)) at) t))

  -- its place has none of the keys of nodes behind
  pub none_behind : (first : Node) (rest : Nodes) → Around (nodes_of first ++ nodes_among rest) → (base : Node) →
      ((m : Node) → NodeIn (nodes_of base) m → NodeIn (nodes_of first) m) → TypedAs base → (m : Node) →
      NodeIn (nodes_among rest) m → Without items May Of aliases places m (at_place base)
  none_behind first rest o base f h m i = other_keys (nodes_among rest) m (at_place base) i
      (below_later items May Of aliases places x (nodes_of first) (nodes_among rest) o base (Used (borrow_by h.0))
      h.1 f)

  -- that of one behind has none of its keys
  pub none_before : (first : Node) (rest : Nodes) → Around (nodes_of first ++ nodes_among rest) → (base : Node) →
      ((m : Node) → NodeIn (nodes_of base) m → NodeIn (nodes_among rest) m) → TypedAs base → (m : Node) →
      NodeIn (nodes_of first) m → Without items May Of aliases places m (at_place base)
  none_before first rest o base f h m i = other_place items May Of aliases places x (nodes_of first ++ nodes_among rest)
      o base m (Used (borrow_by h.0)) h.1 (node_left (nodes_of first) (nodes_among rest) m i)
      (λ j k same.
      let less : number_of m < number_of j = above_in (number_of m) (nodes_among rest) j
      (node_above (nodes_of first) (nodes_among rest) m o.rises i) (f j k) in
      let equal : number_of j ≡ number_of m = same in
      let never : ⊥ = omega (less, equal, arith) in never)

  -- ---- all of them

  module _ (body : BodyTree) (also : Also) (fuel : ℕ) (rise : Rises (nodes_of body.block)) where
    abbrev local : ℕ → ℕ
    local = local_of items body

    abbrev named : Nodes → List Naming
    named ns = named_of items (local_ty items body) (is_reference_param items body) (own_local items body)
        (names_of (args_of items body also fuel rise places ns))

    abbrev naming : ℕ → Bool → Node → Naming
    naming id unique base =
        record { local = local id; unique = unique; place = place_at local (at_place base) }

    abbrev apart_from : Naming → List Naming → Bool
    apart_from = checks.apart_from items (local_ty items body) (is_reference_param items body)

    unless : (c d : Bool) → (c ≡ true → d ≡ true) → (not c || d) ≡ true
    unless true d f = f refl
    unless false d f = refl

    module _ (id : ℕ) (at : Pos) (ty : TyId) (by : Option Use) (unique : Bool) (base : Node) (rest : Nodes)
        (o : Around (nodes_of (node id at ty by (tree.Borrow unique base)) ++ nodes_among rest))
        (q : Placed items May Of aliases places base unique)
        (h : Holds (typing.typed (context items x) (Used (borrow_by unique)) base)) (is_receiver : Bool) where
      abbrev first : Node
      first = node id at ty by (tree.Borrow unique base)

      abbrev refers : Referring
      refers = record { place = place_of aliases base; unique = unique }

      -- from those behind
      apart_rest : (part : Nodes) (tys : List TyId) (as_ : List Argument) → Argued aliases part as_ →
          ((m : Node) → NodeIn (nodes_among part) m → NodeIn (nodes_among rest) m) → Around (nodes_among part) →
          Holds (typing.arguments (context items x) tys part) → AllTold items May Of aliases as_ →
          EachArgument (Apart is_receiver refers) as_ → apart_from (naming id unique base) (named part) ≡ true
      apart_rest no_node tys as_ k f g typed t a = refl
      apart_rest (a_node n part) [] as_ k f g typed t a = absurd (false≢true typed)
      apart_rest (a_node n part) (want ∷ tys) [] k f g typed t a = absurd k
      apart_rest (a_node (node key pos its usage form) part) (want ∷ tys) (arg ∷ as_) k f g typed t a =
          by_form form k.0 typed.0 (here.here_left items May Of aliases places x (nodes_of (node key pos its usage
          form))
          (nodes_among part) g) t.0 (λ m i. f m (node_left (nodes_of (node key pos its usage form)) (nodes_among
          part) m i))
          (apart_rest part tys as_ k.1
          (λ m i. f m (node_right (nodes_of (node key pos its usage form)) (nodes_among part) m i))
          (here.here_right items May Of aliases places x (nodes_of (node key pos its usage form)) (nodes_among part) g)
          typed.1 t.1 a.1)
        where
          by_form : (form : Form) → (arg.refers ≡ rules.refers_by aliases form)
              × (arg.told ≡ told aliases (node key pos its usage form)) →
              Holds (typing.typed (context items x) (Passed want) (node key pos its usage form)) →
              Around (nodes_of (node key pos its usage form)) → Told items May Of aliases arg.told →
              ((m : Node) → NodeIn (nodes_of (node key pos its usage form)) m → NodeIn (nodes_among rest) m) →
              apart_from (naming id unique base) (named part) ≡ true →
              apart_from (naming id unique base) (named (a_node (node key pos its usage form) part)) ≡ true
          by_form (tree.Borrow w other) e s g2 u f2 later = both_true
              (unless (unique || w) _ (λ either. pair_apart items May Of aliases places body base other unique w q
              (arg_placed key pos its usage w other want g2 s (subst (Told items May Of aliases) e.1 u)) either
              (λ m i. none_before first rest o other (λ j z. f2 j (inr z)) (w, s.1.0) m (inr i))
              (λ m i. none_behind first rest o base (λ j z. inr z) (unique, h) m (f2 m (inr i)))
              (subst (λ r. overlap_together refers r ≡ false) e.0 a.0.together))) later
          by_form form e s g2 u f2 later = later

    pub all_apart : (ns : Nodes) (tys : List TyId) (as_ : List Argument) → Argued aliases ns as_ →
        Around (nodes_among ns) → Holds (typing.arguments (context items x) tys ns) → AllTold items May Of aliases as_ →
        conflicts_among as_ ≡ [] →
        checks.all_apart items (local_ty items body) (is_reference_param items body) (named ns) ≡ true
    all_apart no_node tys as_ k g typed t free = refl
    all_apart (a_node n rest) [] as_ k g typed t free = absurd (false≢true typed)
    all_apart (a_node n rest) (want ∷ tys) [] k g typed t free = absurd k
    all_apart (a_node (node id at ty by form) rest) (want ∷ tys) (arg ∷ as_) k g typed t free =
        by_form form k.0 typed.0 g t.0 (all_apart rest tys as_ k.1
        (here.here_right items May Of aliases places x (nodes_of (node id at ty by form)) (nodes_among rest) g)
        typed.1 t.1 (rest_apart arg as_ free))
      where
        by_form : (form : Form) → (arg.refers ≡ rules.refers_by aliases form)
            × (arg.told ≡ told aliases (node id at ty by form)) →
            Holds (typing.typed (context items x) (Passed want) (node id at ty by form)) →
            Around (nodes_of (node id at ty by form) ++ nodes_among rest) → Told items May Of aliases arg.told →
            checks.all_apart items (local_ty items body) (is_reference_param items body) (named rest) ≡ true →
            checks.all_apart items (local_ty items body) (is_reference_param items body)
            (named (a_node (node id at ty by form) rest)) ≡ true
        by_form (tree.Borrow unique base) e s g2 u later =
            let first = node id at ty by (tree.Borrow unique base) in
            both_true (apart_rest id at ty by unique base rest g2
            (arg_placed id at ty by unique base want
            (here.here_left items May Of aliases places x (nodes_of first) (nodes_among rest) g2) s
            (subst (Told items May Of aliases) e.1 u)) s.1.0 arg.is_receiver rest tys as_ k.1 (λ m i. i)
            (here.here_right items May Of aliases places x (nodes_of first) (nodes_among rest) g2) typed.1 t.1
            (first_apart arg as_ (record { place = place_of aliases base; unique = unique }) free e.0)) later
        by_form form e s g2 u later = later
