-- Each cell of a body is that of a node: it has the node's type, and a node of type `!` with one is a place, a call or
-- a
-- name. So the local of a node of the block has the type of the node, if it has any.
use Rattle.std.proofs.Common.{◌≡◌, ◌⊎◌, inl, inr, ℕ, ◌&&◌, not, Bool, true, false, List, [], ◌∷◌, ◌++◌, map, Option, Some, None, refl, ap, sym, ◌∙◌, subst}
use Rattle.std.specs.Cmp.{second_so}
use Rattle.std.proofs.lemmas.Bool.{false≢true}
use Rattle.std.proofs.lemmas.Option.{none-some, same_Some}
use Rattle.mir_base.specs.declared.place_in_text.Pos.{Pos}
use Rattle.mir_ty.specs.declared.ty.TyId.{TyId}
use Rattle.mir_ty.specs.ItemTable.{ItemTable}
use Rattle.typed_tree.specs.declared.node.Use.{Use}
use Rattle.typed_tree.specs.Nodes.{number_of, nodes_of, nodes_in, param_nodes}
use Rattle.typed_tree.specs.Tree as tree
use Rattle.typed_tree.specs.Tree.{Node, node, Form, BodyTree}
use Rattle.src_meaning.specs.Forms.{is_never}
use Rattle.src_meaning.specs.Locals.OfBody as of_body
use Rattle.src_meaning.specs.Locals.OfBody.{cells, reached_cells, cells_in, is_place_form, local_of, local_ty}
use Rattle.src_meaning.specs.Scopes.{Entry}
use Rattle.well_typed.specs.Places.{form_of, ty_of}
use Rattle.soundness_values.proofs.Leaving.{AllOf, all_append, Among}
use Rattle.soundness_cells.proofs.PassCellWalk as walk
use Rattle.soundness_cells.proofs.PassCellWalk.{CellSteps}
use Rattle.soundness_cells.proofs.PassCellPatterns.{made_of_never}
use Rattle.soundness_cells.proofs.PassCells.{NodeIn, node_left, node_right, one_node, is_literal, made_ty, made_in, parts, param_entry, inside, inside_params, locals_are}
use Rattle.soundness_cells.proofs.PassLocals.{EntryIn, entry_of_all, Standing, found_or_none}
use Rattle.soundness_cells.proofs.PassNumbers.{Numbered, first_apart, rises_apart, inside_numbered}
use Rattle.soundness_cells.proofs.PassOneEach.{tops_key, insides_key}
use Rattle.soundness.proofs.PassProtectEnds.{numbered_in}
use Rattle.soundness_frame.proofs.PassToldPlaces.{Rises, rises_right}

abbrev has_value : Form → Bool
has_value (tree.Let pattern initialiser) = false
has_value (tree.Evaluate expression) = false
has_value (tree.Arm pattern guard body) = false
has_value tree.Wildcard = false
has_value (tree.StructPattern fields) = false
has_value (tree.VariantPattern variant is_test fields) = false
has_value (tree.TuplePattern parts) = false
has_value (tree.ArrayPattern elements) = false
has_value (tree.OrPattern alternatives) = false
has_value form = true

abbrev is_made : (own never : Bool) → Form → Bool
is_made own true form = made_of_never form
is_made own false form = own && has_value form

made_so : (own never : Bool) (form : Form) → is_made own never form ≡ true → never ≡ true → made_of_never form ≡ true
made_so own true form e n = e
made_so own false form e n = absurd (false≢true n)

module _ (items : ItemTable) where
  -- an entry is the cell of a node among some, of its type; one of type `!` is a place, a call or a name
  abbrev pub MadeOf : List Node → Entry → Type 0
  MadeOf ns e = (n : Node) × (NodeIn ns n × ((number_of n ≡ e.key) × ((made_in items n ≡ e.ty)
      × (is_never items (ty_of n) ≡ true → made_of_never (form_of n) ≡ true))))

  abbrev pub AreMade : List Node → List Entry → Type 0
  AreMade ns es = AllOf (MadeOf ns) es

  wider : (a b : List Node) → ((n : Node) → NodeIn a n → NodeIn b n) → (es : List Entry) → AreMade a es →
      AreMade b es
  wider a b f [] h = tt
  wider a b f (e ∷ es) h = ((h.0.0, (f h.0.0 h.0.1.0, h.0.1.1)), wider a b f es h.1)

  together : (a b : List Node) (es fs : List Entry) → AreMade a es → AreMade b fs → AreMade (a ++ b) (es ++ fs)
  together a b es fs h k = all_append (MadeOf (a ++ b)) es fs (wider a (a ++ b) (node_left a b) es h)
      (wider b (a ++ b) (node_right a b) fs k)

  abbrev made_if : Bool → Entry → List Entry
  made_if true e = e ∷ []
  made_if false e = []

  own_cell : (made : Bool) (id : ℕ) (at : Pos) (ty : TyId) (by : Option Use) (form : Form) (es : List Entry) →
      (made ≡ true → is_never items ty ≡ true → made_of_never form ≡ true) → AreMade (nodes_in form) es →
      AreMade (node id at ty by form ∷ nodes_in form)
      (made_if made (record { key = id; ty = made_ty items (is_literal form) ty }) ++ es)
  own_cell true id at ty by form es f h = (
    (node id at ty by form, (inl refl, (refl, (refl, f refl)))),
    wider (nodes_in form) (node id at ty by form ∷ nodes_in form) (λ n i. inr i) es h,
  )
  own_cell false id at ty by form es f h =
      wider (nodes_in form) (node id at ty by form ∷ nodes_in form) (λ n i. inr i) es h

  cell_steps : CellSteps items AreMade
  cell_steps = record {
    none = tt;
    both = together;
    own = λ own id at ty by form h. own_cell (is_made own (is_never items ty) form) id at ty by form (cells_in items form)
        (made_so own (is_never items ty) form) h;
    reached = λ id at ty by form h. own_cell (not (is_place_form form) && is_made true (is_never items ty) form) id at ty by
        form (cells_in items form)
        (λ e n. made_so true (is_never items ty) form (second_so (not (is_place_form form)) _ e) n) h;
  }

  pub cells_are : (own : Bool) (n : Node) → AreMade (nodes_of n) (cells items own n)
  cells_are = walk.cells_are items AreMade cell_steps

  pub reached_are : (n : Node) → AreMade (nodes_of n) (reached_cells items n)
  reached_are = walk.reached_are items AreMade cell_steps

  -- the cells of what is in a node
  pub in_are : (form : Form) → AreMade (nodes_in form) (cells_in items form)
  in_are = walk.in_are items AreMade cell_steps

-- ---- the local of a node

entry_split : (a b : List Entry) (e : Entry) → EntryIn (a ++ b) e → EntryIn a e ⊎ EntryIn b e
entry_split [] b e i = inr i
entry_split (x ∷ a) b e (inl same) = inl (inl same)
entry_split (x ∷ a) b e (inr i) = further (entry_split a b e i)
  where
    further : EntryIn a e ⊎ EntryIn b e → EntryIn (x ∷ a) e ⊎ EntryIn b e
    further (inl j) = inl (inr j)
    further (inr j) = inr j

among_so : (es : List Entry) (e : Entry) → EntryIn es e → Among es e.key
among_so [] e i = i
among_so (x ∷ es) e (inl same) = inl (ap (λ (y : Entry). y.key) same)
among_so (x ∷ es) e (inr i) = inr (among_so es e i)

-- inside a block numbers rise, above its own
inside_rises : (n : Node) → Rises (nodes_of n) → Rises (n ∷ nodes_in (form_of n))
inside_rises (node id at ty by form) r = r

inside_in : (n m : Node) → NodeIn (nodes_in (form_of n)) m → NodeIn (nodes_of n) m
inside_in (node id at ty by form) m i = inr i

module _ (items : ItemTable) (body : BodyTree) (rise : Rises (param_nodes body.params ++ nodes_of body.block)) where
  abbrev block : List Node
  block = nodes_in (form_of body.block)

  block_rises : Rises (body.block ∷ block)
  block_rises = inside_rises body.block (rises_right (param_nodes body.params) (nodes_of body.block) rise)

  -- of a node inside the block: its local has its type, if any, and none if nothing is made of it
  pub local_made : (m : Node) → NodeIn block m → (t : TyId) →
      local_ty items body (local_of items body (number_of m)) ≡ Some t →
      (made_in items m ≡ t) × (is_never items (ty_of m) ≡ true → made_of_never (form_of m) ≡ true)
  local_made m i t at = by (found_or_none (of_body.locals items body) (number_of m))
    where
      Found : TyId → Type 0
      Found t = (made_in items m ≡ t) × (is_never items (ty_of m) ≡ true → made_of_never (form_of m) ≡ true)

      in_block : Numbered (nodes_of body.block) (number_of m)
      in_block = inside_numbered body.block (number_of m) (numbered_in block m i)

      of_made : (e : Entry) → e.key ≡ number_of m → MadeOf items block e → Found e.ty
      of_made e same (n, (j, (key, (ty, made)))) =
          let one : n ≡ m = one_node block (rises_right (body.block ∷ []) block block_rises) n m j i (key ∙ same) in
          subst (λ k. (made_in items k ≡ e.ty)
          × (is_never items (ty_of k) ≡ true → made_of_never (form_of k) ≡ true)) one (ty, made)

      of_rest : (e : Entry) → e.key ≡ number_of m →
          EntryIn (map (param_entry items) body.params ++ inside_params items body.params) e
          ⊎ EntryIn (inside items body.block) e → Found e.ty
      of_rest e same (inr j) = of_made e same
          (entry_of_all (MadeOf items block) (inside items body.block) e (in_are items (form_of body.block)) j)
      of_rest e same (inl j) = of_params (entry_split (map (param_entry items) body.params)
          (inside_params items body.params) e j)
        where
          of_params : EntryIn (map (param_entry items) body.params) e ⊎ EntryIn (inside_params items body.params) e →
              Found e.ty
          of_params (inl k) = absurd (rises_apart (param_nodes body.params) (nodes_of body.block) rise e.key
              (tops_key items body.params e.key (among_so (map (param_entry items) body.params) e k))
              (subst (Numbered (nodes_of body.block)) (sym same) in_block))
          of_params (inr k) = absurd (rises_apart (param_nodes body.params) (nodes_of body.block) rise e.key
              (insides_key items body.params e.key (among_so (inside_params items body.params) e k))
              (subst (Numbered (nodes_of body.block)) (sym same) in_block))

      of_parts : (e : Entry) → e.key ≡ number_of m →
          EntryIn (parts items body.params body.answer body.block) e → Found e.ty
      of_parts e same (inl first) = absurd (first_apart body.block block block_rises
          (subst (Numbered block) (sym (ap (λ (y : Entry). y.key) first ∙ same)) (numbered_in block m i)))
      of_parts e same (inr j) = of_rest e same
          (entry_split (map (param_entry items) body.params ++ inside_params items body.params)
          (inside items body.block) e j)

      by : Standing (of_body.locals items body) (number_of m) ⊎ (local_ty items body
          (local_of items body (number_of m)) ≡ None) → Found t
      by (inr none) = absurd (none-some t (sym none ∙ at))
      by (inl (e, (j, (same, there)))) = subst Found (same_Some e.ty t (sym there ∙ at))
          (of_parts e same (subst (λ es. EntryIn es e) (locals_are items body) j))
