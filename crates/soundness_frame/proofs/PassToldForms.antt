-- What a node changes lies within what may be changed, if the accesses that are told of it allow that: one line a form.
use Rattle.std.proofs.Common.{◌≡◌, ℕ, ◌==◌, ◌&&◌, not, true, false, List, [], ◌∷◌, ◌++◌, length, slice_get, Option, if◌then◌else◌, refl, ap, subst}
use Rattle.std.specs.Prelude.{option_map}
use Rattle.std.specs.List.{filter_map}
use Rattle.std.proofs.lemmas.Bool.{false≢true}
use Rattle.mir_base.specs.declared.place_in_text.Pos.{Pos}
use Rattle.mir_ty.specs.declared.ty.TyId.{TyId}
use Rattle.mir_ty.specs.ItemTable.{ItemTable}
use Rattle.store_model.specs.Places.Place.{Place, whole_local}
use Rattle.typed_tree.specs.declared.node.Use.{Use}
use Rattle.typed_tree.specs.Nodes.{nodes_of, nodes_in, nodes_among, nodes_of_fields, nodes_if_any}
use Rattle.typed_tree.specs.Tree as tree
use Rattle.typed_tree.specs.Tree.{Node, node, Form, Nodes, no_node, a_node, Fields, no_field, a_field, MaybeNode, absent, present}
use Rattle.src_meaning.specs.Forms as forms
use Rattle.src_meaning.specs.Locals.OfBody.{is_place_form}
use Rattle.src_meaning.specs.Shape as shapes
use Rattle.src_meaning.specs.Shape.{head, shape, shape_of, operand_at}
use Rattle.typing_rules.specs.Accesses as rules
use Rattle.typing_rules.specs.Accesses.{◌⊕◌, told, told_form, inside, place_of, root_of, bound, changes, replaces, own_access, access_by, accesses_of, one, told_all, told_fields, told_arms, told_guard, arguments, all_told, receiver_of, conflicting, conflicts_among, against_guard}
use Rattle.well_typed.specs.Claim.{Holds, fact, both, some}
use Rattle.well_typed.specs.Nodes as typing
use Rattle.well_typed.specs.Patterns as patterns
use Rattle.well_typed.specs.Patterns.{entries_of}
use Rattle.well_typed.specs.Places.{LoopAround, Context, loop_with, in_guard, Standing, Taken, Wanted, Passed, Base, Used, Stored, ty_of, borrow_by}
use Rattle.well_typed.specs.Types as types
use Rattle.soundness_values.proofs.NoOverlap.{node_seen}
use Rattle.soundness_cells.proofs.PassFacts.{Standpoint, context, with_names, in_a_loop, beside, right}
use Rattle.soundness_frame.proofs.PassFrameActs.{Takes}
use Rattle.soundness_cells.proofs.PassCells.{Above}
use Rattle.soundness_frame.proofs.PassKeys.{Keys, keys_more}
use Rattle.soundness_frame.proofs.PassTold as here
use Rattle.soundness_frame.proofs.PassTold.{ids, IsValue, KnownOf, StandsFor, Here, Told, named_loop}
use Rattle.soundness_frame.proofs.PassToldPatterns as told_patterns
use Rattle.soundness_frame.proofs.PassToldPatterns.{name_left}
use Rattle.soundness_frame.proofs.PassToldPlaces as told_places
use Rattle.soundness_frame.proofs.PassToldPlaces.{name_above}
use Rattle.soundness_frame.proofs.PassWithin as within
use Rattle.soundness_frame.proofs.PassWithin.{is_among, if_place, Outer}
use Rattle.soundness_values.proofs.PlaceTypes.{some_holds}
use Rattle.soundness_frame.proofs.PassToldParts as told_parts
use Rattle.soundness_frame.proofs.PassToldParts.{argument_told}
use Rattle.soundness_frame.proofs.PassToldBelow.{Saying, loose, plain_operand, loose_wanted, scrutinee_below, scrutinee_off, said}

module _ (items : ItemTable) (May : Place → Type 0) (Of : KnownOf)
    (Says : shapes.Aliases → Outer → ℕ → Form → Type 0)
    (says : Saying items May Of Says) where
  abbrev K : Standpoint → Context
  K = context items

  abbrev W : shapes.Aliases → Outer → Node → Type 0
  W = within.Within items May Says

  -- ---- the forms

  mutual
    pub node_within : (n : Node) (standing : Standing) (aliases : rules.Aliases) (places : shapes.Aliases)
        (x : Standpoint) → IsValue standing → Here items May Of aliases places x (nodes_of n) →
        Holds (typing.typed (K x) standing n) → Told items May Of aliases (told aliases n) → W places (ids x) n
    node_within (node id at ty by form) standing aliases places x v g h t = (
      g.owned.0 [],
      (
        here.used_within items May Of id at ty by form standing aliases places x v g h
            (here.told_right items May Of aliases (told_form aliases at form)
            (own_access (access_by by) (place_of aliases (node id at ty by form)) (rules.root_of_form form) at) t).0,
        form_within form id at ty by aliases places x g
            (here.here_beside items May Of aliases places x (node id at ty by form) (nodes_in form) g) h.1
            (here.told_left items May Of aliases (told_form aliases at form)
            (own_access (access_by by) (place_of aliases (node id at ty by form)) (rules.root_of_form form) at) t),
      ),
    )

    -- a node that is reached as a place
    pub node_reached : (n : Node) (standing : Standing) (aliases : rules.Aliases) (places : shapes.Aliases)
        (x : Standpoint) → Here items May Of aliases places x (nodes_of n) → Holds (typing.typed (K x) standing n) →
        Told items May Of aliases (inside aliases n) → within.Reaching items May Says places (ids x) n
    node_reached (node id at ty by form) standing aliases places x g h t = (
      g.owned.0 [],
      form_within form id at ty by aliases places x g
          (here.here_beside items May Of aliases places x (node id at ty by form) (nodes_in form) g) h.1 t,
    )

    -- one that is used too, as a scrutinee
    used_reached : (n : Node) (standing : Standing) (aliases : rules.Aliases) (places : shapes.Aliases)
        (x : Standpoint) → Here items May Of aliases places x (nodes_of n) → Holds (typing.typed (K x) standing n) →
        Told items May Of aliases (told aliases n) → within.Reaching items May Says places (ids x) n
    used_reached (node id at ty by form) standing aliases places x g h t = (
      g.owned.0 [],
      form_within form id at ty by aliases places x g
          (here.here_beside items May Of aliases places x (node id at ty by form) (nodes_in form) g) h.1
          (here.told_left items May Of aliases (told_form aliases at form)
          (own_access (access_by by) (place_of aliases (node id at ty by form)) (rules.root_of_form form) at) t),
    )

    form_within : (form : Form) (id : ℕ) (at : Pos) (ty : TyId) (by : Option Use) (aliases : rules.Aliases)
        (places : shapes.Aliases) (x : Standpoint) →
        Here items May Of aliases places x (nodes_of (node id at ty by form)) →
        Here items May Of aliases places (beside id x) (nodes_in form) → Holds (typing.row (K x) id ty form) →
        Told items May Of aliases (told_form aliases at form) → within.WithinIn items May Says places (ids x) id form
    form_within (tree.Field base part) id at ty by aliases places x o g h t =
        node_reached base Base aliases places (beside id x) g h.0 t
    form_within (tree.Index base index count) id at ty by aliases places x o g h t =
        let rest = told aliases index
        ⊕ one rules.Borrows (option_map rules.with_end (place_of aliases base)) (root_of base) at in (
          node_reached base Base aliases places (beside id x)
              (here.here_left items May Of aliases places (beside id x) (nodes_of base) (nodes_of index) g) h.0
              (here.told_left items May Of aliases (inside aliases base) rest t),
          node_within index Taken aliases places (beside id x) tt
              (here.here_right items May Of aliases places (beside id x) (nodes_of base) (nodes_of index) g) h.1.0
              (here.told_left items May Of aliases (told aliases index)
              (one rules.Borrows (option_map rules.with_end (place_of aliases base)) (root_of base) at)
              (here.told_right items May Of aliases (inside aliases base) rest t)),
        )
    form_within (tree.Deref base) id at ty by aliases places x o g h t = node_reached base Base aliases places (beside
        id x) g h.0 t
    form_within (tree.Not operand) id at ty by aliases places x o g h t =
        node_within operand Taken aliases places (beside id x) tt g h.0 t
    form_within (tree.Negate operand) id at ty by aliases places x o g h t =
        node_within operand Taken aliases places (beside id x) tt g h.0 t
    form_within (tree.Arithmetic operator left right) id at ty by aliases places x o g h t = (
      node_within left (Wanted ty) aliases places (beside id x) tt
          (here.here_left items May Of aliases places (beside id x) (nodes_of left) (nodes_of right) g) h.0
          (here.told_left items May Of aliases (told aliases left) (told aliases right) t),
      node_within right (Wanted ty) aliases places (beside id x) tt
          (here.here_right items May Of aliases places (beside id x) (nodes_of left) (nodes_of right) g) h.1.0
          (here.told_right items May Of aliases (told aliases left) (told aliases right) t),
    )
    form_within (tree.Comparison operator left right) id at ty by aliases places x o g h t = (
      node_within left Taken aliases places (beside id x) tt
          (here.here_left items May Of aliases places (beside id x) (nodes_of left) (nodes_of right) g) h.0
          (here.told_left items May Of aliases (told aliases left) (told aliases right) t),
      node_within right Taken aliases places (beside id x) tt
          (here.here_right items May Of aliases places (beside id x) (nodes_of left) (nodes_of right) g) h.1.0
          (here.told_right items May Of aliases (told aliases left) (told aliases right) t),
    )
    form_within (tree.And left right) id at ty by aliases places x o g h t = (
      node_within left Taken aliases places (beside id x) tt
          (here.here_left items May Of aliases places (beside id x) (nodes_of left) (nodes_of right) g) h.0
          (here.told_left items May Of aliases (told aliases left) (told aliases right) t),
      (
        loose items May Of Says says right (beside id x) h.1.0,
        node_within right Taken aliases places (beside id x) tt
            (here.here_right items May Of aliases places (beside id x) (nodes_of left) (nodes_of right) g) h.1.0
            (here.told_right items May Of aliases (told aliases left) (told aliases right) t),
      ),
    )
    form_within (tree.Or left right) id at ty by aliases places x o g h t = (
      node_within left Taken aliases places (beside id x) tt
          (here.here_left items May Of aliases places (beside id x) (nodes_of left) (nodes_of right) g) h.0
          (here.told_left items May Of aliases (told aliases left) (told aliases right) t),
      (
        loose items May Of Says says right (beside id x) h.1.0,
        node_within right Taken aliases places (beside id x) tt
            (here.here_right items May Of aliases places (beside id x) (nodes_of left) (nodes_of right) g) h.1.0
            (here.told_right items May Of aliases (told aliases left) (told aliases right) t),
      ),
    )
    form_within (tree.Assign place value) id at ty by aliases places x o g h t =
        let store = one rules.Stores (place_of aliases place) (root_of place) at in
        let g_place = here.here_left items May Of aliases places (beside id x) (nodes_of place) (nodes_of value) g in
        let rest = here.told_right items May Of aliases (told aliases value) (inside aliases place ⊕ store) t in (
          ((
            node_within value (Wanted (ty_of place)) aliases places (beside id x) tt
                (here.here_right items May Of aliases places (beside id x) (nodes_of place) (nodes_of value) g) h.1.1.0
                (here.told_left items May Of aliases (told aliases value) (inside aliases place ⊕ store) t),
            (
              node_reached place Stored aliases places (beside id x) g_place h.0
                  (here.told_left items May Of aliases (inside aliases place) store rest),
              told_parts.replaced_may items May Of Says aliases places (beside id x) place Stored
                  (record { access = rules.Stores; place = place_of aliases place; root = root_of place; at = at })
                  g_place h.0
                  (here.told_right items May Of aliases (inside aliases place) store rest).0.0 refl refl refl refl,
            ),
          )),
          said items May Of Says says (tree.Assign place value) id at ty by aliases places x o h t,
        )
    form_within (tree.Call body args) id at ty by aliases places x o g h t =
        let s = some_holds (slice_get items.bodies body)
        (λ sig. both (fact (types.is_same ty sig.result)) (typing.arguments (K (beside id x)) sig.params args)) h.0 in (
          (args_within args s.0.params aliases places (beside id x) g s.1.1.1
              (here.told_left items May Of aliases (all_told (arguments aliases args))
              (conflicting (conflicts_among (arguments aliases args))) t)),
          said items May Of Says says (tree.Call body args) id at ty by aliases places x o h t,
        )
    form_within (tree.MethodCall body receiver args) id at ty by aliases places x o g h t =
        let s = some_holds (slice_get items.bodies body) (λ sig. both (fact (types.is_same ty sig.result))
        (typing.first_and_rest (λ t. typing.typed (K (beside id x)) (Passed t) receiver) (λ ts. typing.arguments (K
        (beside id x)) ts args)
        sig.params)) h.0 in
        let c = (receiver_of aliases receiver (told aliases receiver)).told in
        let u = here.told_left items May Of aliases
        (all_told (receiver_of aliases receiver (told aliases receiver) ∷ arguments aliases args))
        (conflicting (conflicts_among (receiver_of aliases receiver
        (told aliases receiver) ∷ arguments aliases args))) t
        in (
          (told_parts.passed_within items May Of Says receiver args s.0.params aliases places (beside id x) g s.1.1.1
              (λ t2 g2 h2. node_within receiver (Passed t2) aliases places (beside id x) tt g2 h2
              (told_parts.receiver_left items May Of Says receiver aliases (all_told (arguments aliases args)) u))
              (λ ts g2 h2. args_within args ts aliases places (beside id x) g2 h2
              (here.told_right items May Of aliases c (all_told (arguments aliases args)) u))),
          said items May Of Says says (tree.MethodCall body receiver args) id at ty by aliases places x o h t,
        )
    form_within (tree.VirtualCall trait_no method receiver args) id at ty by aliases places x o g h t =
        let d = some_holds (slice_get items.traits trait_no) (λ def. some (slice_get def.methods method)
        (λ sig. both (fact (types.is_same ty sig.result))
        (typing.first_and_rest (λ t. typing.typed (K (beside id x)) (Passed t) receiver) (λ ts. typing.arguments (K
        (beside id x)) ts args)
        sig.params))) h in
        let s = some_holds (slice_get d.0.methods method) (λ sig. both (fact (types.is_same ty sig.result))
        (typing.first_and_rest (λ t. typing.typed (K (beside id x)) (Passed t) receiver) (λ ts. typing.arguments (K
        (beside id x)) ts args)
        sig.params)) d.1.1 in
        let c = (receiver_of aliases receiver (told aliases receiver)).told in
        let u = here.told_left items May Of aliases
        (all_told (receiver_of aliases receiver (told aliases receiver) ∷ arguments aliases args))
        (conflicting (conflicts_among (receiver_of aliases receiver
        (told aliases receiver) ∷ arguments aliases args))) t
        in (
          (told_parts.passed_within items May Of Says receiver args s.0.params aliases places (beside id x) g s.1.1.1
              (λ t2 g2 h2. node_within receiver (Passed t2) aliases places (beside id x) tt g2 h2
              (told_parts.receiver_left items May Of Says receiver aliases (all_told (arguments aliases args)) u))
              (λ ts g2 h2. args_within args ts aliases places (beside id x) g2 h2
              (here.told_right items May Of aliases c (all_told (arguments aliases args)) u))),
          said items May Of Says says (tree.VirtualCall trait_no method receiver args) id at ty by aliases places x o h t,
        )
    form_within (tree.ClosureCall body callee args) id at ty by aliases places x o g h t =
        let s = some_holds (slice_get items.bodies body) (λ sig. both (fact (types.is_same ty sig.result))
        (typing.first_and_rest (λ t. typing.typed (K (beside id x)) (Passed t) callee) (λ ts. typing.arguments (K
        (beside id x)) ts args)
        sig.params)) h.0 in
        let passed = all_told (arguments aliases args) ⊕ conflicting (conflicts_among (arguments aliases args)) in (
          (told_parts.passed_within items May Of Says callee args s.0.params aliases places (beside id x) g s.1.1.1
              (λ t2 g2 h2. node_within callee (Passed t2) aliases places (beside id x) tt g2 h2
              (here.told_left items May Of aliases (told aliases callee) passed t))
              (λ ts g2 h2. args_within args ts aliases places (beside id x) g2 h2
              (here.told_left items May Of aliases (all_told (arguments aliases args))
              (conflicting (conflicts_among (arguments aliases args)))
              (here.told_right items May Of aliases (told aliases callee) passed t)))),
          said items May Of Says says (tree.ClosureCall body callee args) id at ty by aliases places x o h t,
        )
    form_within (tree.Make adt variant fields) id at ty by aliases places x o g h t =
        let s = some_holds (types.variant_at items adt variant) (λ v. both
        (fact (Rattle.well_typed.specs.Names.are_distinct_numbers (patterns.field_numbers fields)
        && length (patterns.field_numbers fields) == length v.fields)) (typing.made_fields (K (beside id x)) v.fields
        fields)) h.1
        in
        fields_within fields s.0.fields aliases places (beside id x) g s.1.1.1 t
    form_within (tree.Tuple parts) id at ty by aliases places x o g h t =
        let s = some_holds (types.tuple_of items ty) (λ tys. typing.made_parts (K (beside id x)) tys parts) h in
        parts_within parts s.0 aliases places (beside id x) g s.1.1 t
    form_within (tree.Array elements) id at ty by aliases places x o g h t =
        let s = some_holds (types.array_of items ty) (λ a. both (fact (patterns.count_of elements == a.1))
        (typing.elements_of (K (beside id x)) a.0 elements)) h in
        elements_within elements s.0.0 aliases places (beside id x) g s.1.1.1 t
    form_within (tree.Closure closure captures) id at ty by aliases places x o g h t =
        let s = some_holds (slice_get items.closures closure)
        (λ def. typing.captured (K (beside id x)) def.captures captures) h.1 in
        captures_within captures s.0.captures aliases places (beside id x) g s.1.1 t
    form_within (tree.NewBox content) id at ty by aliases places x o g h t =
        let s = some_holds (types.boxed_of items ty) (λ within_. both (typing.typed (K (beside id x)) (Wanted within_)
        content)
        (fact (not (types.is_dyn items within_)))) h in
        node_within content (Wanted s.0) aliases places (beside id x) tt g s.1.1.0 t
    form_within (tree.Print operand) id at ty by aliases places x o g h t =
        node_within operand Taken aliases places (beside id x) tt g h.0 t
    form_within (tree.DropValue operand) id at ty by aliases places x o g h t =
        node_within operand Taken aliases places (beside id x) tt g h.0 t
    form_within (tree.Forget operand) id at ty by aliases places x o g h t =
        node_within operand Taken aliases places (beside id x) tt g h.0 t
    form_within (tree.Borrow unique base) id at ty by aliases places x o g h t = (
      (
        node_reached base (Used (borrow_by unique)) aliases places (beside id x) g h.0
            (here.told_left items May Of aliases (inside aliases base)
            (one (if unique then rules.BorrowsUniquely else rules.Borrows) (place_of aliases base) (root_of base) at)
            t),
        (λ u. let p = (here.told_right items May Of aliases (inside aliases base)
            (one (if unique then rules.BorrowsUniquely else rules.Borrows) (place_of aliases base) (root_of base) at)
            t).0.0
            in
            let e : (if unique then rules.BorrowsUniquely else rules.Borrows) ≡ rules.BorrowsUniquely =
            ap (λ b. if b then rules.BorrowsUniquely else rules.Borrows) u in
            told_parts.replaced_may items May Of Says aliases places (beside id x) base (Used (borrow_by unique))
            (record {
              access = if unique then rules.BorrowsUniquely else rules.Borrows;
              place = place_of aliases base;
              root = root_of base;
              at = at;
            }) g h.0 p (ap changes e) (ap replaces e) refl refl),
      ),
      said items May Of Says says (tree.Borrow unique base) id at ty by aliases places x o h t,
    )
    form_within (tree.Unsize trait_no operand) id at ty by aliases places x o g h t = (
      (loose items May Of Says says operand (beside id x) h.0, node_within operand Taken aliases places (beside id x) tt g h.0 t),
      plain_operand items May Of Says says operand ty trait_no (beside id x) h.0 h.1.0 h.1.1,
    )
    form_within (tree.Block stmts absent) id at ty by aliases places x o g h t =
        block_within stmts absent aliases places (beside id x) g h.0 (λ y g2 h2. tt)
        (here.told_left items May Of aliases (told_all aliases stmts) rules.quiet t)
    form_within (tree.Block stmts (present tail)) id at ty by aliases places x o g h t =
        block_within stmts (present tail) aliases places (beside id x) g h.0
        (λ y g2 h2. (
          loose items May Of Says says tail y h2,
          node_within tail Taken aliases places y tt g2 h2
              (here.told_right items May Of aliases (told_all aliases stmts) (told aliases tail) t),
        ))
        (here.told_left items May Of aliases (told_all aliases stmts) (told aliases tail) t)
    form_within (tree.Let pattern value) id at ty by aliases places x o g h t = absurd (false≢true h)
    form_within (tree.Evaluate expression) id at ty by aliases places x o g h t = absurd (false≢true h)
    form_within (tree.If c body absent) id at ty by aliases places x o g h t =
        let g2 = here.here_left items May Of aliases places (beside id x) (nodes_of c ++ nodes_of body) [] g in
        let t2 = here.told_right items May Of aliases (told aliases c) (told aliases body ⊕ rules.quiet) t in (
          node_within c Taken aliases places (beside id x) tt
              (here.here_left items May Of aliases places (beside id x) (nodes_of c) (nodes_of body) g2) h.0
              (here.told_left items May Of aliases (told aliases c) (told aliases body ⊕ rules.quiet) t),
          (
            (
              loose items May Of Says says body (beside id x) h.1.1.0,
              node_within body Taken aliases places (beside id x) tt
                  (here.here_right items May Of aliases places (beside id x) (nodes_of c) (nodes_of body) g2) h.1.1.0
                  (here.told_left items May Of aliases (told aliases body) rules.quiet t2),
            ),
            tt,
          ),
        )
    form_within (tree.If c body (present otherwise)) id at ty by aliases places x o g h t =
        let g2 = here.here_left items May Of aliases places (beside id x) (nodes_of c ++ nodes_of body) (nodes_of
        otherwise) g in
        let t2 = here.told_right items May Of aliases (told aliases c)
        (told aliases body ⊕ told aliases otherwise) t in (
          node_within c Taken aliases places (beside id x) tt
              (here.here_left items May Of aliases places (beside id x) (nodes_of c) (nodes_of body) g2) h.0
              (here.told_left items May Of aliases (told aliases c) (told aliases body ⊕ told aliases otherwise) t),
          (
            (
              loose items May Of Says says body (beside id x) h.1.1.0,
              node_within body Taken aliases places (beside id x) tt
                  (here.here_right items May Of aliases places (beside id x) (nodes_of c) (nodes_of body) g2) h.1.1.0
                  (here.told_left items May Of aliases (told aliases body) (told aliases otherwise) t2),
            ),
            (
              loose items May Of Says says otherwise (beside id x) h.1.1.1.0,
              node_within otherwise Taken aliases places (beside id x) tt
                  (here.here_right items May Of aliases places (beside id x) (nodes_of c ++ nodes_of body) (nodes_of
                  otherwise) g)
                  h.1.1.1.0
                  (here.told_right items May Of aliases (told aliases body) (told aliases otherwise) t2),
            ),
          ),
        )
    form_within (tree.IfLet p s body absent) id at ty by aliases places x o g h t =
        let g3 = here.here_left items May Of aliases places (beside id x) (nodes_of p ++ nodes_of s ++ nodes_of body) []
        g in
        let rest = rules.of_scrutinee aliases p s ⊕ (told aliases body ⊕ rules.quiet) in
        let t1 = here.told_right items May Of aliases (told aliases s) rest t in
        let m = told_parts.taken_within items May Of Says p s body aliases places (beside id x) g3 h.0 h.1.0
        (here.told_left items May Of aliases (rules.of_scrutinee aliases p s) (told aliases body ⊕ rules.quiet) t1)
        (λ g2. used_reached s (Used Use.Borrow) aliases places (beside id x) g2 h.0
        (here.told_left items May Of aliases (told aliases s) rest t))
        (λ g2. node_within body Taken aliases places (with_names (entries_of p) (beside id x)) tt g2 h.1.1.0
        (here.told_left items May Of aliases (told aliases body) rules.quiet
        (here.told_right items May Of aliases (rules.of_scrutinee aliases p s) (told aliases body ⊕ rules.quiet) t1)))
        in
        (m.0, ((loose items May Of Says says body (with_names (entries_of p) (beside id x)) h.1.1.0, m.1), tt))
    form_within (tree.IfLet p s body (present otherwise)) id at ty by aliases places x o g h t =
        let g3 = here.here_left items May Of aliases places (beside id x) (nodes_of p ++ nodes_of s ++ nodes_of body)
        (nodes_of otherwise) g in
        let last = told aliases body ⊕ told aliases otherwise in
        let rest = rules.of_scrutinee aliases p s ⊕ last in
        let t1 = here.told_right items May Of aliases (told aliases s) rest t in
        let t2 = here.told_right items May Of aliases (rules.of_scrutinee aliases p s) last t1 in
        let m = told_parts.taken_within items May Of Says p s body aliases places (beside id x) g3 h.0 h.1.0
        (here.told_left items May Of aliases (rules.of_scrutinee aliases p s) last t1)
        (λ g2. used_reached s (Used Use.Borrow) aliases places (beside id x) g2 h.0
        (here.told_left items May Of aliases (told aliases s) rest t))
        (λ g2. node_within body Taken aliases places (with_names (entries_of p) (beside id x)) tt g2 h.1.1.0
        (here.told_left items May Of aliases (told aliases body) (told aliases otherwise) t2)) in (
          m.0,
          (
            (loose items May Of Says says body (with_names (entries_of p) (beside id x)) h.1.1.0, m.1),
            (
              loose items May Of Says says otherwise (beside id x) h.1.1.1.0,
              node_within otherwise Taken aliases places (beside id x) tt
                  (here.here_right items May Of aliases places (beside id x) (nodes_of p ++ nodes_of s ++ nodes_of body)
                  (nodes_of otherwise) g)
                  h.1.1.1.0 (here.told_right items May Of aliases (told aliases body) (told aliases otherwise) t2),
            ),
          ),
        )
    form_within (tree.Match s arms) id at ty by aliases places x o g h t =
        let g_s = here.here_left items May Of aliases places (beside id x) (nodes_of s) (nodes_among arms) g in (
          used_reached s (Used Use.Borrow) aliases places (beside id x) g_s h.0
              (here.told_left items May Of aliases (told aliases s) (told_arms aliases (place_of aliases s) arms) t),
          arms_within arms s aliases places (beside id x) (scrutinee_below items May Of Says says s (nodes_among arms) aliases places (beside
              id x)
              (Used Use.Borrow) g h.0)
              (here.place_stands items May Of s (Used Use.Borrow) aliases places (beside id x) g_s h.0)
              (scrutinee_off items May Of Says says s (nodes_among arms) aliases places (beside id x) (Used Use.Borrow) g h.0)
              (here.here_right items May Of aliases places (beside id x) (nodes_of s) (nodes_among arms) g) g_s.owned
              h.0 h.1.0
              (here.told_right items May Of aliases (told aliases s) (told_arms aliases (place_of aliases s) arms) t),
        )
    form_within (tree.Loop body) id at ty by aliases places x o g h t =
        node_within body Taken aliases places (in_a_loop (record { loop = id; ty = ty; has_value = true }) (beside id
        x)) tt
        (here.here_loop items May Of aliases places (beside id x) (record { loop = id; ty = ty; has_value = true })
        (nodes_of body) g) h.0 t
    form_within (tree.While c body) id at ty by aliases places x o g h t =
        let a : LoopAround = record { loop = id; ty = ty; has_value = false } in
        let g2 = here.here_loop items May Of aliases places (beside id x) a (nodes_of c ++ nodes_of body) g in (
          node_within c Taken aliases places (in_a_loop a (beside id x)) tt
              (here.here_left items May Of aliases places (in_a_loop a (beside id x)) (nodes_of c) (nodes_of body) g2)
              h.0
              (here.told_left items May Of aliases (told aliases c) (told aliases body) t),
          node_within body Taken aliases places (in_a_loop a (beside id x)) tt
              (here.here_right items May Of aliases places (in_a_loop a (beside id x)) (nodes_of c) (nodes_of body) g2)
              h.1.1.0
              (here.told_right items May Of aliases (told aliases c) (told aliases body) t),
        )
    form_within (tree.WhileLet p s body) id at ty by aliases places x o g h t =
        let a : LoopAround = record { loop = id; ty = ty; has_value = false } in
        let t1 = here.told_right items May Of aliases (told aliases s)
        (rules.of_scrutinee aliases p s ⊕ told aliases body) t in
        told_parts.taken_within items May Of Says p s body aliases places (in_a_loop a (beside id x))
        (here.here_loop items May Of aliases places (beside id x) a (nodes_of p ++ nodes_of s ++ nodes_of body) g) h.0
        h.1.0
        (here.told_left items May Of aliases (rules.of_scrutinee aliases p s) (told aliases body) t1)
        (λ g2. used_reached s (Used Use.Borrow) aliases places (in_a_loop a (beside id x)) g2 h.0
        (here.told_left items May Of aliases (told aliases s) (rules.of_scrutinee aliases p s ⊕ told aliases body) t))
        (λ g2. node_within body Taken aliases places (with_names (entries_of p) (in_a_loop a (beside id x))) tt g2
        h.1.1.0
        (here.told_right items May Of aliases (rules.of_scrutinee aliases p s) (told aliases body) t1))
    form_within (tree.Break loop absent) id at ty by aliases places x o g h t =
        let s = some_holds (loop_with loop (beside id x).loops) (λ a. typing.carries (K (beside id x)) a absent) h.0 in
        (named_loop loop (beside id x).loops s.0 s.1.0, tt)
    form_within (tree.Break loop (present value)) id at ty by aliases places x o g h t =
        let s = some_holds (loop_with loop (beside id x).loops) (λ a. typing.carries (K (beside id x)) a (present
        value)) h.0 in (
          named_loop loop (beside id x).loops s.0 s.1.0,
          (
            loose_wanted items May Of Says says value s.0.ty (beside id x) s.1.1.1,
            node_within value (Wanted s.0.ty) aliases places (beside id x) tt g s.1.1.1 t,
          ),
        )
    form_within (tree.Return absent) id at ty by aliases places x o g h t = tt
    form_within (tree.Return (present value)) id at ty by aliases places x o g h t = (
      loose_wanted items May Of Says says value (beside id x).answer (beside id x) h.0,
      node_within value (Wanted (beside id x).answer)
          aliases places (beside id x) tt g h.0 t,
    )
    form_within form id at ty by aliases places x o g h t = tt

    -- ---- lists

    pub args_within : (args : Nodes) (tys : List TyId) (aliases : rules.Aliases) (places : shapes.Aliases)
        (x : Standpoint) → Here items May Of aliases places x (nodes_among args) →
        Holds (typing.arguments (K x) tys args) → Told items May Of aliases (all_told (arguments aliases args)) →
        within.AllWithin items May Says places (ids x) args
    args_within no_node tys aliases places x g h t = tt
    args_within (a_node first rest) [] aliases places x g h t = absurd (false≢true h)
    args_within (a_node first rest) (ty ∷ tys) aliases places x g h t = (
      node_within first (Passed ty) aliases places x tt
          (here.here_left items May Of aliases places x (nodes_of first) (nodes_among rest) g) h.0
          (subst (Told items May Of aliases) (argument_told first aliases)
          (here.told_left items May Of aliases (rules.argument aliases first).told
          (all_told (arguments aliases rest)) t)),
      args_within rest tys aliases places x
          (here.here_right items May Of aliases places x (nodes_of first) (nodes_among rest) g) h.1
          (here.told_right items May Of aliases (rules.argument aliases first).told
          (all_told (arguments aliases rest)) t),
    )

    parts_within : (parts : Nodes) (tys : List TyId) (aliases : rules.Aliases) (places : shapes.Aliases)
        (x : Standpoint) → Here items May Of aliases places x (nodes_among parts) →
        Holds (typing.made_parts (K x) tys parts) → Told items May Of aliases (told_all aliases parts) →
        within.AllWithin items May Says places (ids x) parts
    parts_within no_node tys aliases places x g h t = tt
    parts_within (a_node first rest) [] aliases places x g h t = absurd (false≢true h)
    parts_within (a_node first rest) (ty ∷ tys) aliases places x g h t = (
      node_within first (Wanted ty) aliases places x tt
          (here.here_left items May Of aliases places x (nodes_of first) (nodes_among rest) g) h.0
          (here.told_left items May Of aliases (told aliases first) (told_all aliases rest) t),
      parts_within rest tys aliases places x
          (here.here_right items May Of aliases places x (nodes_of first) (nodes_among rest) g) h.1
          (here.told_right items May Of aliases (told aliases first) (told_all aliases rest) t),
    )

    elements_within : (elements : Nodes) (ty : TyId) (aliases : rules.Aliases) (places : shapes.Aliases)
        (x : Standpoint) → Here items May Of aliases places x (nodes_among elements) →
        Holds (typing.elements_of (K x) ty elements) → Told items May Of aliases (told_all aliases elements) →
        within.AllWithin items May Says places (ids x) elements
    elements_within no_node ty aliases places x g h t = tt
    elements_within (a_node first rest) ty aliases places x g h t = (
      node_within first (Wanted ty) aliases places x tt
          (here.here_left items May Of aliases places x (nodes_of first) (nodes_among rest) g) h.0
          (here.told_left items May Of aliases (told aliases first) (told_all aliases rest) t),
      elements_within rest ty aliases places x
          (here.here_right items May Of aliases places x (nodes_of first) (nodes_among rest) g) h.1
          (here.told_right items May Of aliases (told aliases first) (told_all aliases rest) t),
    )

    captures_within : (captures : Nodes) (tys : List TyId) (aliases : rules.Aliases) (places : shapes.Aliases)
        (x : Standpoint) → Here items May Of aliases places x (nodes_among captures) →
        Holds (typing.captured (K x) tys captures) → Told items May Of aliases (told_all aliases captures) →
        within.AllWithin items May Says places (ids x) captures
    captures_within no_node tys aliases places x g h t = tt
    captures_within (a_node first rest) [] aliases places x g h t = absurd (false≢true h)
    captures_within (a_node first rest) (ty ∷ tys) aliases places x g h t = (
      node_within first Taken aliases places x tt
          (here.here_left items May Of aliases places x (nodes_of first) (nodes_among rest) g) h.0
          (here.told_left items May Of aliases (told aliases first) (told_all aliases rest) t),
      captures_within rest tys aliases places x
          (here.here_right items May Of aliases places x (nodes_of first) (nodes_among rest) g) h.1.1
          (here.told_right items May Of aliases (told aliases first) (told_all aliases rest) t),
    )

    fields_within : (fields : Fields) (tys : List TyId) (aliases : rules.Aliases) (places : shapes.Aliases)
        (x : Standpoint) → Here items May Of aliases places x (nodes_of_fields fields) →
        Holds (typing.made_fields (K x) tys fields) → Told items May Of aliases (told_fields aliases fields) →
        within.FieldsWithin items May Says places (ids x) fields
    fields_within no_field tys aliases places x g h t = tt
    fields_within (a_field number value rest) tys aliases places x g h t =
        let s = some_holds (slice_get tys number) (λ ty. typing.typed (K x) (Wanted ty) value) h.0 in (
          node_within value (Wanted s.0) aliases places x tt
              (here.here_left items May Of aliases places x (nodes_of value) (nodes_of_fields rest) g) s.1.1
              (here.told_left items May Of aliases (told aliases value) (told_fields aliases rest) t),
          fields_within rest tys aliases places x
              (here.here_right items May Of aliases places x (nodes_of value) (nodes_of_fields rest) g) h.1
              (here.told_right items May Of aliases (told aliases value) (told_fields aliases rest) t),
        )

    -- ---- patterns that are taken, arms

    arms_within : (arms : Nodes) (s : Node) (aliases : rules.Aliases) (places : shapes.Aliases) (x : Standpoint) →
        Keys (λ k. Above k (nodes_among arms)) ((shape items s).place places) →
        StandsFor Of.root (place_of aliases s) ((shape items s).place places) →
        ((d : ℕ) → is_among d x.outside ≡ true → Keys (λ k. k ≡ d → ⊥) ((shape items s).place places)) →
        Here items May Of aliases places x (nodes_among arms) → told_places.AllOwned items May (nodes_of s) →
        Holds (typing.typed (K x) (Used Use.Borrow) s) →
        Holds (typing.arms_of (K x) (typing.matched_in false (K x) s) (ty_of s) arms) →
        Told items May Of aliases (told_arms aliases (place_of aliases s) arms) →
        within.ArmsWithin items May Says places (ids x) ((shape items s).place places) arms
    arms_within no_node s aliases places x below r off g o h k t = tt
    arms_within (a_node (node id at ty by form) rest) s aliases places x below r off g o h k t = (
      arm_within form id at ty by s aliases places x
          (keys_more (λ k. Above k (nodes_of (node id at ty by form) ++ nodes_among rest))
          (λ k. Above k (nodes_in form))
          (λ k a. told_places.above_right k (node id at ty by form ∷ []) (nodes_in form)
          (told_places.above_left k (nodes_of (node id at ty by form)) (nodes_among rest) a))
          ((shape items s).place places) below) r off
          (here.here_in items May Of aliases places x (node id at ty by form) (nodes_in form)
          (here.here_left items May Of aliases places x (nodes_of (node id at ty by form)) (nodes_among rest) g)) o h
          k.0
          (here.told_left items May Of aliases (rules.told_arm aliases (place_of aliases s) (node id at ty by form))
          (told_arms aliases (place_of aliases s) rest) t),
      arms_within rest s aliases places x
          (keys_more (λ k. Above k (nodes_of (node id at ty by form) ++ nodes_among rest))
          (λ k. Above k (nodes_among rest))
          (λ k a. told_places.above_right k (nodes_of (node id at ty by form)) (nodes_among rest) a)
          ((shape items s).place places) below) r off
          (here.here_right items May Of aliases places x (nodes_of (node id at ty by form)) (nodes_among rest) g) o h
          k.1
          (here.told_right items May Of aliases (rules.told_arm aliases (place_of aliases s) (node id at ty by form))
          (told_arms aliases (place_of aliases s) rest) t),
    )

    arm_within : (form : Form) (id : ℕ) (at : Pos) (ty : TyId) (by : Option Use) (s : Node) (aliases : rules.Aliases)
        (places : shapes.Aliases) (x : Standpoint) → Keys (λ k. Above k (nodes_in form))
        ((shape items s).place places) → StandsFor Of.root (place_of aliases s) ((shape items s).place places) →
        ((d : ℕ) → is_among d x.outside ≡ true → Keys (λ k. k ≡ d → ⊥) ((shape items s).place places)) →
        Here items May Of aliases places x (nodes_in form) → told_places.AllOwned items May (nodes_of s) →
        Holds (typing.typed (K x) (Used Use.Borrow) s) →
        Holds (typing.arm (K x) (typing.matched_in false (K x) s) (ty_of s) (node id at ty by form)) →
        Told items May Of aliases (rules.told_arm aliases (place_of aliases s) (node id at ty by form)) →
        within.ArmWithin items May Says places (ids x) ((shape items s).place places) (node id at ty by form)
    arm_within (tree.Arm p guard body) id at ty by s aliases places x below r off g o h k t =
        let scrutinee = place_of aliases s in
        let guarded = told_guard aliases scrutinee (bound scrutinee p) guard in
        let rest = accesses_of (bound scrutinee p) ⊕ told aliases body in
        let t1 = here.told_right items May Of aliases guarded rest t in
        let g2 = here.here_left items May Of aliases places x (nodes_of p ++ nodes_if_any guard) (nodes_of body) g in
        let g_p = here.here_left items May Of aliases places x (nodes_of p) (nodes_if_any guard) g2 in (
          told_parts.matches items May Of Says aliases places x p s false (Used Use.Borrow)
              (ty_of s) g.sees.seen g.sees g_p.owned o h k.1.1.0 r
              (here.told_left items May Of aliases (accesses_of (bound scrutinee p)) (told aliases body) t1).0,
          (
            guard_within guard p s aliases places x
                (keys_more (λ k. Above k ((nodes_of p ++ nodes_if_any guard) ++ nodes_of body))
                (λ k. Above k (nodes_if_any guard)) (λ k a. told_places.above_right k (nodes_of p) (nodes_if_any guard)
                (told_places.above_left k (nodes_of p ++ nodes_if_any guard) (nodes_of body) a))
                ((shape items s).place places) below) r off g2 k.1.1.1.0 (here.told_left items May Of aliases guarded
                rest t),
            (
              loose items May Of Says says body (with_names (entries_of p) x) k.1.1.1.1.0,
              node_within body Taken aliases places (with_names (entries_of p) x) tt
                  (here.here_names items May Of aliases places x p (nodes_of body) g_p.past
                  (λ key i. name_above (nodes_of p ++ nodes_if_any guard) (nodes_of body) key g.rises
                  (name_left (nodes_of p) (nodes_if_any guard) key i)) g_p.names g_p.under g_p.name_types
                  (here.here_right items May Of aliases places x (nodes_of p ++ nodes_if_any guard) (nodes_of body) g))
                  k.1.1.1.1.0
                  (here.told_right items May Of aliases (accesses_of (bound scrutinee p)) (told aliases body) t1),
            ),
          ),
        )
    arm_within form id at ty by s aliases places x below r off g o h k t = tt

    guard_within : (guard : MaybeNode) (p s : Node) (aliases : rules.Aliases) (places : shapes.Aliases)
        (x : Standpoint) → Keys (λ k. Above k (nodes_if_any guard)) ((shape items s).place places) →
        StandsFor Of.root (place_of aliases s) ((shape items s).place places) →
        ((d : ℕ) → is_among d x.outside ≡ true → Keys (λ k. k ≡ d → ⊥) ((shape items s).place places)) →
        Here items May Of aliases places x (nodes_of p ++ nodes_if_any guard) →
        Holds (typing.guarded (K (with_names (in_guard (entries_of p)) x)) guard) →
        Told items May Of aliases (told_guard aliases (place_of aliases s) (bound (place_of aliases s) p) guard) →
        within.WithinIfAny items May Says (forms.aliases_with
        ((shape items p).bindings ((shape items s).place places)) places)
        (ids x) guard
    guard_within absent p s aliases places x below r off g k t = tt
    guard_within (present guard) p s aliases places x below r off g k t =
        let scrutinee = place_of aliases s in
        let bounds = bound scrutinee p in
        let inner = told (rules.aliases_with bounds aliases) guard in
        let q = (shape items s).place places in
        let own = here.told_left items May Of aliases inner
        (conflicting (filter_map (against_guard scrutinee bounds) inner.accesses)) t in
        let against = here.told_right items May Of aliases inner
        (conflicting (filter_map (against_guard scrutinee bounds) inner.accesses)) t in
        node_within guard Taken (rules.aliases_with bounds aliases)
        (forms.aliases_with ((shape items p).bindings q) places) (with_names (in_guard (entries_of p)) x) tt
        (told_parts.here_guard items May Of Says aliases places x p scrutinee q (nodes_of guard)
        (node_seen items aliases places g.sees.seen s) r below off g) k.0 (
          told_parts.guard_permits items May Of Says scrutinee bounds aliases inner.accesses
              (told_parts.none_against items May Of Says scrutinee bounds inner.accesses against.1) own.0,
          own.1,
        )

    -- ---- blocks

    block_within : (stmts : Nodes) (tail : MaybeNode) (aliases : rules.Aliases) (places : shapes.Aliases)
        (x : Standpoint) → Here items May Of aliases places x (nodes_among stmts ++ nodes_if_any tail) →
        Holds (typing.statements (K x) stmts (λ d. typing.tail_of d tail)) →
        ((y : Standpoint) → Here items May Of aliases places y (nodes_if_any tail) →
        Holds (typing.tail_of (K y) tail) → within.LooseIfAny items May Says places (ids y) tail) →
        Told items May Of aliases (told_all aliases stmts) →
        within.AllWithin items May Says places (ids x) stmts × within.LooseIfAny items May Says places (ids x) tail
    block_within no_node tail aliases places x g h last t = (tt, last x g h)
    block_within (a_node (node id at ty by form) rest) tail aliases places x g h last t =
        let first = node id at ty by form in
        let gs = told_parts.regrouped items May Of Says (nodes_of first) (nodes_among rest)
        (nodes_if_any tail) aliases places x g in
        let g_form = here.here_in items May Of aliases places x first (nodes_in form)
        (here.here_left items May Of aliases places x (nodes_of first) (nodes_among rest ++ nodes_if_any tail) gs) in
        let more = block_within rest tail aliases places (with_names (typing.entries_in form) x)
        (told_parts.statement_names items May Of Says form aliases places x
        (nodes_among rest ++ nodes_if_any tail) g_form
        (told_places.rises_right (first ∷ []) (nodes_in form ++ (nodes_among rest ++ nodes_if_any tail)) gs.rises)
        (here.here_right items May Of aliases places x (nodes_of first) (nodes_among rest ++ nodes_if_any tail) gs))
        h.1.1
        last (here.told_right items May Of aliases (told aliases first) (told_all aliases rest) t) in (
          (
            (
              gs.owned.0 [],
              statement_within form id at ty by aliases places x
                  (here.here_beside items May Of aliases places x first (nodes_in form)
                  (here.here_left items May Of aliases places x (nodes_of first) (nodes_among rest ++ nodes_if_any tail)
                  gs)) h.1.0
                  (here.told_left items May Of aliases (told_form aliases at form)
                  (own_access (access_by by) (place_of aliases first) (rules.root_of_form form) at)
                  (here.told_left items May Of aliases (told aliases first) (told_all aliases rest) t)),
            ),
            more.0,
          ),
          more.1,
        )

    statement_within : (form : Form) (id : ℕ) (at : Pos) (ty : TyId) (by : Option Use) (aliases : rules.Aliases)
        (places : shapes.Aliases) (x : Standpoint) → Here items May Of aliases places (beside id x) (nodes_in form) →
        Holds (typing.statement (K x) form) → Told items May Of aliases (told_form aliases at form) →
        if_place (is_place_form form)
        (Takes May (operand_at (head id ty by) ((shape_of items form (head id ty by)).place places)))
        × within.WithinIn items May Says places (ids x) id form
    statement_within (tree.Let pattern absent) id at ty by aliases places x g h t = (
      tt,
      told_patterns.cells_own items May pattern (whole_local 0)
          (here.here_left items May Of aliases places (beside id x) (nodes_of pattern) [] g).owned,
    )
    statement_within (tree.Let (node pid pat pty pby (tree.Binding name)) (present value)) id at ty by aliases places
        x g
        h t = (
          tt,
          (
            g.owned.0 [],
            (
              loose_wanted items May Of Says says value pty x h.0,
              node_within value (Wanted pty) aliases places (beside pid (beside id x)) tt
                  (here.here_beside items May Of aliases places (beside id x)
                  (node pid pat pty pby (tree.Binding name)) (nodes_of value) g) h.0
                  (here.told_left items May Of aliases (told aliases value)
                  (rules.of_let aliases (node pid pat pty pby (tree.Binding name)) value) t),
            ),
          ),
        )
    statement_within (tree.Let (node pid pat pty pby pform) (present value)) id at ty by aliases places x g h t = (
      tt,
      told_parts.let_within items May Of Says pform pid pat pty pby value id aliases places x (λ n. n) g h
          (λ standing g2 h2 t2. used_reached value standing aliases places (beside id x) g2 h2 t2) t,
    )
    statement_within (tree.Evaluate expression) id at ty by aliases places x g h t =
        (tt, node_within expression Taken aliases places (beside id x) tt g h t)
    statement_within form id at ty by aliases places x g h t = absurd (false≢true h)
