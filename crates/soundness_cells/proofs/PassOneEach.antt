-- Each local of a body is the cell of a key of its own: the keys of its locals are numbers of its nodes, in the order
-- of the nodes, and these rise.
use Rattle.std.proofs.Common.{◌≡◌, ◌⊎◌, inl, inr, ℕ, zero, suc, Bool, true, false, List, [], ◌∷◌, ◌++◌, map, Option, Some, refl, ap, sym, ◌∙◌, subst}
use Rattle.std.specs.Prelude.{slice_get}
use Rattle.std.proofs.lemmas.Option.{none-some}
use Rattle.mir_base.specs.declared.place_in_text.Pos.{Pos}
use Rattle.mir_ty.specs.declared.ty.TyId.{TyId}
use Rattle.mir_ty.specs.ItemTable.{ItemTable}
use Rattle.typed_tree.specs.declared.node.Use.{Use}
use Rattle.typed_tree.specs.Nodes.{number_of, nodes_of, nodes_in, param_nodes}
use Rattle.typed_tree.specs.Tree.{Node, node, Form, ParamTree}
use Rattle.src_meaning.specs.Locals.OfBody.{cells, reached_cells, cells_in}
use Rattle.src_meaning.specs.Scopes.{Entry}
use Rattle.well_typed.specs.Places.{form_of}
use Rattle.soundness_values.proofs.Leaving.{Among, among_split}
use Rattle.soundness_cells.proofs.PassCellWalk as walk
use Rattle.soundness_cells.proofs.PassCellWalk.{CellSteps}
use Rattle.soundness_cells.proofs.PassCells.{rising, is_literal, made_ty, param_entry, inside, inside_params, parts}
use Rattle.soundness_cells.proofs.PassNumbers.{Numbered, numbered_left, numbered_right, Rises, first_apart, rises_left, rises_right, rises_apart, own_number, inside_numbered}

-- entries have numbers of nodes, in their order
pub data CellsOf : List Node → List Entry → Type 0 where
  no_cell : (ns : List Node) → CellsOf ns []
  a_cell : (n : Node) (ns : List Node) (e : Entry) (es : List Entry) → number_of n ≡ e.key → CellsOf ns es →
      CellsOf (n ∷ ns) (e ∷ es)
  skipped : (n : Node) (ns : List Node) (es : List Entry) → CellsOf ns es → CellsOf (n ∷ ns) es

none_before : (a b : List Node) (fs : List Entry) → CellsOf b fs → CellsOf (a ++ b) fs
none_before [] b fs k = k
none_before (n ∷ a) b fs k = skipped n (a ++ b) fs (none_before a b fs k)

together : (a b : List Node) (es fs : List Entry) → CellsOf a es → CellsOf b fs → CellsOf (a ++ b) (es ++ fs)
together x b y fs (no_cell a) k = none_before a b fs k
together x b y fs (a_cell n ns e es same h) k = a_cell n (ns ++ b) e (es ++ fs) same (together ns b es fs h k)
together x b y fs (skipped n ns es h) k = skipped n (ns ++ b) (es ++ fs) (together ns b es fs h k)

-- no two entries have one key
abbrev pub Distinct : List Entry → Type 0
Distinct [] = Unit {0}
Distinct (e ∷ es) = (Among es e.key → ⊥) × Distinct es

distinct_both : (a b : List Entry) → Distinct a → Distinct b → ((key : ℕ) → Among a key → Among b key → ⊥) →
    Distinct (a ++ b)
distinct_both [] b d f h = f
distinct_both (e ∷ a) b d f h = (
  (λ x. by (among_split a b e.key x)),
  distinct_both a b d.1 f (λ key x y. h key (inr x) y),
)
  where
    by : Among a e.key ⊎ Among b e.key → ⊥
    by (inl x) = d.0 x
    by (inr x) = h e.key (inl refl) x

pub cells_numbered : (ns : List Node) (es : List Entry) → CellsOf ns es → (key : ℕ) → Among es key → Numbered ns key
cells_numbered a b (no_cell ns) key h = absurd h
cells_numbered a b (a_cell n ns e es same c) key (inl h) = inl (same ∙ h)
cells_numbered a b (a_cell n ns e es same c) key (inr h) = inr (cells_numbered ns es c key h)
cells_numbered a b (skipped n ns es c) key h = inr (cells_numbered ns es c key h)

cells_distinct : (ns : List Node) (es : List Entry) → CellsOf ns es → Rises ns → Distinct es
cells_distinct a b (no_cell ns) r = tt
cells_distinct a b (a_cell n ns e es same c) r = (
  (λ h. first_apart n ns r (subst (Numbered ns) (sym same) (cells_numbered ns es c e.key h))),
  cells_distinct ns es c (rising n ns r).1,
)
cells_distinct a b (skipped n ns es c) r = cells_distinct ns es c (rising n ns r).1

among_at : (es : List Entry) (j : ℕ) (y : Entry) → slice_get es j ≡ Some y → (key : ℕ) → y.key ≡ key → Among es key
among_at [] j y k key e = absurd (none-some y k)
among_at (t ∷ es) zero y k key e = let same : t ≡ y = cc in inl (ap (λ (u : Entry). u.key) same ∙ e)
among_at (t ∷ es) (suc j) y k key e = inr (among_at es j y k key e)

-- two indices at which one key stands are one
pub one_index : (es : List Entry) → Distinct es → (i j : ℕ) (x y : Entry) → slice_get es i ≡ Some x →
    slice_get es j ≡ Some y → x.key ≡ y.key → i ≡ j
one_index [] d i j x y h k e = absurd (none-some x h)
one_index (z ∷ es) d zero zero x y h k e = refl
one_index (z ∷ es) d zero (suc j) x y h k e =
    let first : z ≡ x = cc in
    absurd (d.0 (among_at es j y k z.key (sym e ∙ ap (λ (t : Entry). t.key) (sym first))))
one_index (z ∷ es) d (suc i) zero x y h k e =
    let first : z ≡ y = cc in absurd (d.0 (among_at es i x h z.key (e ∙ ap (λ (t : Entry). t.key) (sym first))))
one_index (z ∷ es) d (suc i) (suc j) x y h k e = ap suc (one_index es d.1 i j x y h k e)

module _ (items : ItemTable) where
  abbrev made_if : Bool → Entry → List Entry
  made_if true e = e ∷ []
  made_if false e = []

  own_cell : (made : Bool) (id : ℕ) (at : Pos) (ty : TyId) (by : Option Use) (form : Form) (es : List Entry) →
      CellsOf (nodes_in form) es →
      CellsOf (node id at ty by form ∷ nodes_in form)
      (made_if made (record { key = id; ty = made_ty items (is_literal form) ty }) ++ es)
  own_cell true id at ty by form es h = a_cell (node id at ty by form) (nodes_in form) _ es refl h
  own_cell false id at ty by form es h = skipped (node id at ty by form) (nodes_in form) es h

  cell_steps : CellSteps items CellsOf
  cell_steps = record {
    none = no_cell [];
    both = together;
    own = λ own id at ty by form h. own_cell _ id at ty by form (cells_in items form) h;
    reached = λ id at ty by form h. own_cell _ id at ty by form (cells_in items form) h;
  }

  pub cells_are : (own : Bool) (n : Node) → CellsOf (nodes_of n) (cells items own n)
  cells_are = walk.cells_are items CellsOf cell_steps

  pub reached_are : (n : Node) → CellsOf (nodes_of n) (reached_cells items n)
  reached_are = walk.reached_are items CellsOf cell_steps

  -- the cells of what is in a node
  pub in_are : (form : Form) → CellsOf (nodes_in form) (cells_in items form)
  in_are = walk.in_are items CellsOf cell_steps

  -- ---- the locals of a body

  rises_open : (n : Node) → Rises (nodes_of n) → Rises (n ∷ nodes_in (form_of n))
  rises_open (node id at ty by form) r = r

  abbrev tops : List ParamTree → List Entry
  tops params = map (param_entry items) params

  inside_key : (n : Node) (key : ℕ) → Among (inside items n) key → Numbered (nodes_in (form_of n)) key
  inside_key n key h = cells_numbered (nodes_in (form_of n)) (inside items n) (in_are (form_of n)) key h

  pub tops_key : (params : List ParamTree) (key : ℕ) → Among (tops params) key → Numbered (param_nodes params) key
  tops_key [] key h = absurd h
  tops_key (param ∷ params) key (inl e) = numbered_left (nodes_of param.pattern) (param_nodes params) key
      (subst (Numbered (nodes_of param.pattern)) e (own_number param.pattern))
  tops_key (param ∷ params) key (inr h) =
      numbered_right (nodes_of param.pattern) (param_nodes params) key (tops_key params key h)

  pub insides_key : (params : List ParamTree) (key : ℕ) → Among (inside_params items params) key →
      Numbered (param_nodes params) key
  insides_key [] key h = absurd h
  insides_key (param ∷ params) key h = by (among_split (inside items param.pattern) (inside_params items params) key h)
      (λ x. insides_key params key x)
    where
      by : Among (inside items param.pattern) key ⊎ Among (inside_params items params) key →
          (Among (inside_params items params) key → Numbered (param_nodes params) key) →
          Numbered (param_nodes (param ∷ params)) key
      by (inl x) later = numbered_left (nodes_of param.pattern) (param_nodes params) key
          (inside_numbered param.pattern key (inside_key param.pattern key x))
      by (inr x) later = numbered_right (nodes_of param.pattern) (param_nodes params) key (later x)

  inside_distinct : (n : Node) → Rises (nodes_of n) → Distinct (inside items n)
  inside_distinct n r = cells_distinct (nodes_in (form_of n)) (inside items n) (in_are (form_of n))
      (rising n (nodes_in (form_of n)) (rises_open n r)).1

  abbrev Sorted : List ParamTree → Type 0
  Sorted params = Distinct (tops params) × (Distinct (inside_params items params)
      × ((key : ℕ) → Among (tops params) key → Among (inside_params items params) key → ⊥))

  params_sorted : (params : List ParamTree) → Rises (param_nodes params) → Sorted params
  params_sorted [] r = (tt, (tt, λ key h k. h))
  params_sorted (param ∷ params) r = by (params_sorted params (rises_right here rest r))
    where
      here : List Node
      here = nodes_of param.pattern

      rest : List Node
      rest = param_nodes params

      apart : (key : ℕ) → Numbered (nodes_of param.pattern) key → Numbered (param_nodes params) key → ⊥
      apart = rises_apart (nodes_of param.pattern) (param_nodes params) r

      first : Rises (nodes_of param.pattern)
      first = rises_left (nodes_of param.pattern) (param_nodes params) r

      by : Sorted params → Sorted (param ∷ params)
      by later = (
        (
          (λ x. apart (number_of param.pattern) (own_number param.pattern)
              (tops_key params (number_of param.pattern) x)),
          later.0,
        ),
        (
          distinct_both (inside items param.pattern) (inside_params items params)
              (inside_distinct param.pattern first) later.1.0
              (λ key x y. apart key (inside_numbered param.pattern key (inside_key param.pattern key x))
              (insides_key params key y)),
          λ key x y. crossed key x (among_split (inside items param.pattern) (inside_params items params) key y),
        ),
      )
        where
          crossed : (key : ℕ) → (number_of param.pattern ≡ key) ⊎ Among (tops params) key →
              Among (inside items param.pattern) key ⊎ Among (inside_params items params) key → ⊥
          crossed key (inl e) (inl y) = first_apart param.pattern (nodes_in (form_of param.pattern))
              (rises_open param.pattern first) (subst (Numbered (nodes_in (form_of param.pattern))) (sym e)
              (inside_key param.pattern key y))
          crossed key (inl e) (inr y) =
              apart key (subst (Numbered (nodes_of param.pattern)) e (own_number param.pattern)) (insides_key params
              key y)
          crossed key (inr x) (inl y) = apart key (inside_numbered param.pattern key (inside_key param.pattern key y))
              (tops_key params key x)
          crossed key (inr x) (inr y) = later.1.1 key x y

  pub locals_distinct : (params : List ParamTree) (answer : TyId) (block : Node) →
      Rises (param_nodes params ++ nodes_of block) → Distinct (parts items params answer block)
  locals_distinct params answer block r = (
    (λ x. by (among_split (tops params ++ inside_params items params) (inside items block) (number_of block) x)),
    distinct_both (tops params ++ inside_params items params) (inside items block)
        (distinct_both (tops params) (inside_params items params) s.0 s.1.0 s.1.1) (inside_distinct block last)
        (λ key x y. apart key (in_params key x) (inside_numbered block key (inside_key block key y))),
  )
    where
      s : Sorted params
      s = params_sorted params (rises_left (param_nodes params) (nodes_of block) r)

      last : Rises (nodes_of block)
      last = rises_right (param_nodes params) (nodes_of block) r

      apart : (key : ℕ) → Numbered (param_nodes params) key → Numbered (nodes_of block) key → ⊥
      apart = rises_apart (param_nodes params) (nodes_of block) r

      either : (key : ℕ) → Among (tops params) key ⊎ Among (inside_params items params) key →
          Numbered (param_nodes params) key
      either key (inl x) = tops_key params key x
      either key (inr x) = insides_key params key x

      in_params : (key : ℕ) → Among (tops params ++ inside_params items params) key → Numbered (param_nodes params) key
      in_params key x = either key (among_split (tops params) (inside_params items params) key x)

      by : Among (tops params ++ inside_params items params) (number_of block)
          ⊎ Among (inside items block) (number_of block) → ⊥
      by (inl x) = apart (number_of block) (in_params (number_of block) x) (own_number block)
      by (inr x) = first_apart block (nodes_in (form_of block)) (rises_open block last)
          (inside_key block (number_of block) x)
