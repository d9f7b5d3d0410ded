-- Operands that need no place, and scrutinees, below the nodes that take them.
use Rattle.std.proofs.Common.{◌≡◌, inl, inr, ℕ, ◌<◌, Bool, true, false, List, [], ◌∷◌, ◌++◌, Option, Some, None, refl, ap, sym, subst, arith}
use Rattle.std.specs.Prelude.{option_and_then}
use Rattle.std.specs.Option.{option_map_or}
use Rattle.std.proofs.lemmas.Bool.{false≢true}
use Rattle.mir_base.specs.declared.place_in_text.Pos.{Pos}
use Rattle.mir_ty.specs.declared.ty.Ty.{Ty}
use Rattle.mir_ty.specs.declared.ty.TyId.{TyId}
use Rattle.mir_ty.specs.ItemTable.{ItemTable, type_at}
use Rattle.store_model.specs.Places.Place.{Place}
use Rattle.typed_tree.specs.declared.node.Use.{Use}
use Rattle.typed_tree.specs.Nodes.{number_of, nodes_of, nodes_in}
use Rattle.typed_tree.specs.Tree as tree
use Rattle.typed_tree.specs.Tree.{Node, node, Form}
use Rattle.src_meaning.specs.Shape as shapes
use Rattle.src_meaning.specs.Shape.{shape}
use Rattle.typing_rules.specs.Accesses as rules
use Rattle.typing_rules.specs.Accesses.{told_form}
use Rattle.well_typed.specs.Claim.{Holds}
use Rattle.well_typed.specs.Nodes as typing
use Rattle.well_typed.specs.Places.{InScope, Context, Standing, Taken, Wanted, stands, form_of, ty_of}
use Rattle.well_typed.specs.Types as types
use Rattle.soundness_cells.proofs.PassFacts.{Standpoint, context, right}
use Rattle.soundness_cells.proofs.PassCells.{Above, NodeIn, above_in, rising}
use Rattle.soundness_frame.proofs.PassKeys.{Keys, place_keys}
use Rattle.soundness_frame.proofs.PassTold as here
use Rattle.soundness_frame.proofs.PassTold.{ids, KnownOf, Here, Told}
use Rattle.soundness_frame.proofs.PassToldPlaces as told_places
use Rattle.soundness_frame.proofs.PassToldPlaces.{Rises}
use Rattle.soundness_frame.proofs.PassWithin as within
use Rattle.soundness_frame.proofs.PassWithin.{is_among, Outer}

-- what is said of a call, a borrow or an assignment is known where such a node stands
abbrev pub Saying : (items : ItemTable) (May : Place → Type 0) (Of : KnownOf)
    (Says : shapes.Aliases → Outer → ℕ → Form → Type 0) → Type 0
Saying items May Of Says = (form : Form) (id : ℕ) (at : Pos) (ty : TyId) (by : Option Use) (aliases : rules.Aliases)
    (places : shapes.Aliases) (x : Standpoint) → Here items May Of aliases places x (nodes_of (node id at ty by form)) →
    Here items May Of aliases places x (nodes_in form) → Holds (typing.row (context items x) id ty form) →
    Told items May Of aliases (told_form aliases at form) →
    Says places (ids x) id form

-- a node has a number below those behind
pub node_above : (a b : List Node) (m : Node) → Rises (a ++ b) → NodeIn a m → Above (number_of m) b
node_above [] b m r i = absurd i
node_above (n ∷ a) b m r (inl e) =
    subst (λ k. Above k b) (ap number_of e) (told_places.above_right (number_of n) a b (rising n (a ++ b) r).0)
node_above (n ∷ a) b m r (inr i) = node_above a b m (rising n (a ++ b) r).1 i

module _ (items : ItemTable) (May : Place → Type 0) (Of : KnownOf)
    (Says : shapes.Aliases → Outer → ℕ → Form → Type 0)
    (says : Saying items May Of Says) where
  abbrev K : Standpoint → Context
  K = context items

  abbrev W : shapes.Aliases → Outer → Node → Type 0
  W = within.Within items May Says

  -- a node whose value is used for no parameter is no borrow
  taken_loose : (form : Form) (id : ℕ) (at : Pos) (ty : TyId) (by : Option Use) (x : Standpoint) →
      Holds (stands (K x) Taken ty by form) → within.Loose (node id at ty by form)
  taken_loose (tree.Borrow unique base) id at ty by x h =
      absurd (false≢true (right (Rattle.std.specs.Prelude.is_none by) false h))
  taken_loose form id at ty by x h = refl

  pub loose : (n : Node) (x : Standpoint) → Holds (typing.typed (K x) Taken n) → within.Loose n
  loose (node id at ty by form) x h = taken_loose form id at ty by x h.0

  -- what is coerced is a box, and made by a node that hands its destination to no other
  no_bool : (o : Option Ty) (trait_no : ℕ) → option_map_or types.is_bool_ty o false ≡ true →
      option_map_or (λ adt. types.implements items adt trait_no)
      (option_and_then (types.adt_of items) (option_and_then types.boxed_in o)) false ≡ true → ⊥
  no_bool None trait_no b h = false≢true b
  no_bool (Some Ty.Bool) trait_no b h = false≢true h
  no_bool (Some ty) trait_no b h = false≢true b

  no_unit : (o : Option Ty) (trait_no : ℕ) → option_map_or types.is_unit_ty o false ≡ true →
      option_map_or (λ adt. types.implements items adt trait_no)
      (option_and_then (types.adt_of items) (option_and_then types.boxed_in o)) false ≡ true → ⊥
  no_unit None trait_no b h = false≢true b
  no_unit (Some Ty.Unit) trait_no b h = false≢true h
  no_unit (Some ty) trait_no b h = false≢true b

  plain_form : (form : Form) (id : ℕ) (ty to : TyId) (trait_no : ℕ) (x : Standpoint) →
      Holds (typing.row (K x) id ty form) → typing.is_leaf form ≡ true →
      typing.box_implements items to ty trait_no ≡ true → within.carries form ≡ false
  plain_form (tree.And a b) id ty to trait_no x h l k =
      absurd (no_bool (type_at items ty) trait_no h.1.1.1.1 (right _ _ k))
  plain_form (tree.Or a b) id ty to trait_no x h l k =
      absurd (no_bool (type_at items ty) trait_no h.1.1.1.1 (right _ _ k))
  plain_form (tree.While test body) id ty to trait_no x h l k =
      absurd (no_unit (type_at items ty) trait_no h.1.1.1.1 (right _ _ k))
  plain_form (tree.WhileLet p s body) id ty to trait_no x h l k =
      absurd (no_unit (type_at items ty) trait_no h.1.1.1.1 (right _ _ k))
  plain_form (tree.Block stmts tail) id ty to trait_no x h l k = absurd (false≢true l)
  plain_form (tree.If test body otherwise) id ty to trait_no x h l k = absurd (false≢true l)
  plain_form (tree.IfLet p s body otherwise) id ty to trait_no x h l k = absurd (false≢true l)
  plain_form (tree.Match s ns) id ty to trait_no x h l k = absurd (false≢true l)
  plain_form (tree.Loop body) id ty to trait_no x h l k = absurd (false≢true l)
  plain_form form id ty to trait_no x h l k = refl

  pub plain_operand : (n : Node) (to : TyId) (trait_no : ℕ) (x : Standpoint) → Holds (typing.typed (K x) Taken n) →
      typing.is_leaf (form_of n) ≡ true → typing.box_implements items to (ty_of n) trait_no ≡ true →
      within.carries (form_of n) ≡ false
  plain_operand (node id at ty by form) to trait_no x h l k = plain_form form id ty to trait_no x h.1 l k

  pub loose_wanted : (n : Node) (want : TyId) (x : Standpoint) → Holds (typing.typed (K x) (Wanted want) n) → within.Loose n
  loose_wanted (node id at ty by form) want x h = taken_loose form id at ty by x h.0.0

  -- the place of a scrutinee is one before the nodes behind
  pub scrutinee_below : (s : Node) (ns : List Node) (aliases : rules.Aliases) (places : shapes.Aliases) (x : Standpoint)
      (standing : Standing) → Here items May Of aliases places x (nodes_of s ++ ns) →
      Holds (typing.typed (K x) standing s) → Keys (λ k. Above k ns) ((shape items s).place places)
  scrutinee_below s ns aliases places x standing g h = place_keys (λ k. Above k ns) items places x
      (here.here_right items May Of aliases places x (nodes_of s) ns g).low
      (λ y e. closure_below y e (told_places.is_alias aliases y.key) refl) s standing h
      (λ m i. node_above (nodes_of s) ns m g.rises i)
    where
      closure_below : (y : InScope) → x.closure ≡ Some y → (b : Bool) → told_places.is_alias aliases y.key ≡ b →
          Keys (λ k. Above k ns) (shapes.place_of_key y.key places)
      closure_below y e true a = absurd (g.sees.closure y e a)
      closure_below y e false a = subst (Keys (λ k. Above k ns)) (sym (g.sees.plain y.key a))
          ((here.here_right items May Of aliases places x (nodes_of s) ns g).outer y e, tt)

  -- it has none of the keys of cells around
  pub scrutinee_off : (s : Node) (ns : List Node) (aliases : rules.Aliases) (places : shapes.Aliases) (x : Standpoint)
      (standing : Standing) → Here items May Of aliases places x (nodes_of s ++ ns) →
      Holds (typing.typed (K x) standing s) → (d : ℕ) → is_among d x.outside ≡ true →
      Keys (λ k. k ≡ d → ⊥) ((shape items s).place places)
  scrutinee_off s ns aliases places x standing g h d i = place_keys (λ k. k ≡ d → ⊥) items places x (g.away d i).names
      (λ y e. of_closure y e (told_places.is_alias aliases y.key) refl) s standing h
      (λ m j e.
      let less : d < number_of m = above_in d (nodes_of s) m
      ((here.here_left items May Of aliases places x (nodes_of s) ns g).under d i) j in
      let same : number_of m ≡ d = e in
      let never : ⊥ = omega (less, same, arith) in never)
    where
      of_closure : (y : InScope) → x.closure ≡ Some y → (b : Bool) → told_places.is_alias aliases y.key ≡ b →
          Keys (λ k. k ≡ d → ⊥) (shapes.place_of_key y.key places)
      of_closure y e true a = absurd (g.sees.closure y e a)
      of_closure y e false a = subst (Keys (λ k. k ≡ d → ⊥)) (sym (g.sees.plain y.key a)) ((g.away d i).self y e, tt)

  -- what is said of a form, where it stands
  pub said : (form : Form) (id : ℕ) (at : Pos) (ty : TyId) (by : Option Use) (aliases : rules.Aliases)
      (places : shapes.Aliases) (x : Standpoint) → Here items May Of aliases places x (nodes_of (node id at ty by form))
      →
      Holds (typing.row (K x) id ty form) → Told items May Of aliases (told_form aliases at form) →
      Says places (ids x) id form
  said form id at ty by aliases places x o h t = says form id at ty by aliases places x o
      (here.here_in items May Of aliases places x (node id at ty by form) (nodes_in form) o) h t
