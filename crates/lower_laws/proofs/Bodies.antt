-- The line of a body, its locals and its lines have no fault; and there is a `main`.
use Rattle.std.proofs.Common.{◌≡◌, ℕ, zero, suc, ◌+◌, ◌<◌, ◌≤◌, ◌||◌, not, nat_lt, Bool, true, false, List, [], ◌∷◌, ◌++◌, length, map, take, Option, Some, None, slice_get, cond, if◌then◌else◌, refl, sym, ap, subst, ◌∙◌, arith}
use Rattle.std.specs.Prelude.{is_some, option_and_then, codes, flat_map, zip, position, unwrap_or}
use Rattle.std.specs.List.{list_any, position_or_len}
use Rattle.std.specs.Option.{option_map_or}
use Rattle.std.specs.Str.{bytes_eq}
use Rattle.std.proofs.lemmas.Bool.{eqb-true, lt-ltb}
use Rattle.std.proofs.lemmas.Bool.Decides.{Decides-eqb}
use Rattle.std.proofs.lemmas.List.Concat.{flat_map-cons}
use Rattle.std.proofs.lemmas.Option.{none-some, same_Some}
use Rattle.cfg_graph.specs.declared.graph.Kind.{Kind}
use Rattle.cfg_graph.specs.declared.terminator.Term.{Term}
use Rattle.cfg_graph.specs.WellFormed.Faults as of_graph
use Rattle.cfg_graph.specs.WellFormed.Faults.{of_each, at_line, nowhere}
use Rattle.cfg_graph.specs.WellFormed.LineFaults.{body_faults, body_tests, has_sig, has_own_name, is_sig_of}
use Rattle.cfg_graph.proofs.Rests.{position-any}
use Rattle.mir_ty.specs.declared.def.ClosureDef.{ClosureDef}
use Rattle.mir_ty.specs.declared.def.Sig.{Sig}
use Rattle.mir_ty.specs.declared.ty.Ty.{Ty}
use Rattle.mir_ty.specs.declared.ty.TyId.{TyId}
use Rattle.mir_ty.specs.ItemTable.{type_at}
use Rattle.mir_ty.specs.Parts.{parts_of}
use Rattle.store_model.specs.Places.Place.{content_of, element_of}
use Rattle.store_model.specs.Places.TypeForms as forms
use Rattle.typed_tree.specs.Tree as tree
use Rattle.typed_tree.specs.Tree.{Node, Form, ParamTree, BodyTree, ProgramTree}
use Rattle.src_meaning.specs.Locals.OfBody.{cells, cells_in, locals, param_key, answer_key, bool_ty}
use Rattle.src_meaning.specs.Scopes.{Entry}
use Rattle.well_typed.specs.Claim.{Claim, Holds, fact, nothing, ◌&◌}
use Rattle.well_typed.specs.Items as items_of
use Rattle.well_typed.specs.Nodes as typing
use Rattle.well_typed.specs.Patterns as patterns
use Rattle.well_typed.specs.Patterns.{Matched, entries_of}
use Rattle.well_typed.specs.Places.{InScope, Context, Wanted, form_of}
use Rattle.well_typed.specs.Program.{WellTyped, are_bodies, is_body, is_inside, closure_with}
use Rattle.well_typed.specs.Types as types
use Rattle.lower_rules.specs.CodeLaws.{target_of}
use Rattle.lower_rules.specs.Spots.{body_ways}
use Rattle.lower_rules.specs.Build.{ending, made, MadeBlock}
use Rattle.lower_rules.specs.Lower as lower
use Rattle.lower_rules.specs.Lower.{body_of, graph_of, node_of}
use Rattle.lower_rules.proofs.Forms.{function_lowers}
use Rattle.lower_rules.proofs.Sizes.{set_length}
use Rattle.lower_laws.specs.Lines.{LocalsHaveNoFault, LinesHaveNoFault}
use Rattle.lower_laws.proofs.Facts as facts
use Rattle.lower_laws.proofs.WholeLines.{lowered_lines_have_no_fault}
use Rattle.lower_laws.specs.Lowerable.{IsLowerable}
use Rattle.lower_laws.proofs.Cells as nodes
use Rattle.lower_laws.proofs.Cells.{each_append}
use Rattle.lower_laws.proofs.Items as of_items
use Rattle.lower_laws.proofs.Items.{no_line, none_of}
use Rattle.lower_laws.proofs.Known.{untrue, and_first, and_second, both, some_is, Each, There, Fine, same_fine, Told}
use Rattle.lower_laws.proofs.Types as of_types
use Rattle.lower_laws.proofs.Types.{each_at, none_broken}

length_map : {A B : Type 0} (f : A → B) (xs : List A) → length (map f xs) ≡ length xs
length_map f [] = refl
length_map f (x ∷ xs) = ap suc (length_map f xs)

or_second : (a : Bool) {b : Bool} → b ≡ true → a || b ≡ true
or_second true e = refl
or_second false e = e

each_second : {A : Type 0} (P : A → Type 0) (xs ys : List A) → Each P (xs ++ ys) → Each P ys
each_second P [] ys h = h
each_second P (x ∷ xs) ys h = each_second P xs ys h.1

-- the first that passes, where one does
passes_at : (test : Ty → Bool) (xs : List Ty) → list_any test xs ≡ true → (x : Ty) × (slice_get xs (position_or_len test xs) ≡ Some x) × (test x ≡ true)
passes_at test [] h = absurd (untrue h)
passes_at test (x ∷ xs) h = on (test x) refl h (passes_at test xs)
  where
    on : (b : Bool) → test x ≡ b → b || list_any test xs ≡ true → (list_any test xs ≡ true → (y : Ty) × (slice_get xs (position_or_len test xs) ≡ Some y) × (test y ≡ true)) → (y : Ty) × (slice_get (x ∷ xs) (position_or_len test (x ∷ xs)) ≡ Some y) × (test y ≡ true)
    on true e h more = (x, ap (λ (b : Bool). slice_get (x ∷ xs) (cond (not b) (1 + position_or_len test xs) 0)) e, e)
    on false e h more =
        let it = more h in
        let next : 1 + position_or_len test xs ≡ suc (position_or_len test xs) = omega arith in
        (it.0, ap (λ (b : Bool). slice_get (x ∷ xs) (cond (not b) (1 + position_or_len test xs) 0)) e ∙ ap (slice_get (x ∷ xs)) next ∙ it.1, it.2)

first_passes : (test : Ty → Bool) (xs : List Ty) → list_any test xs ≡ true → (n : ℕ) × (x : Ty) × (position test xs ≡ Some n) × (slice_get xs n ≡ Some x) × (test x ≡ true)
first_passes test xs h =
    let n = some_is (position test xs) (position-any {X = Ty} test xs ∙ h) in
    let at = passes_at test xs h in
    let same = number (nat_lt (position_or_len test xs) (length xs)) (position_or_len test xs) n.0 n.1 in
    (n.0, at.0, n.1, ap (slice_get xs) (sym same) ∙ at.1, at.2)
  where
    number : (b : Bool) (m n : ℕ) → (if b then Some m else None) ≡ Some n → m ≡ n
    number true m n e = same_Some m n e
    number false m n e = absurd (none-some n e)

module _ (p : ProgramTree) (w : WellTyped p) where
  made_types : (id : TyId) (ty : Ty) → type_at p.items id ≡ Some ty → items_of.is_well_made p.items ty ≡ true
  made_types id ty e = facts.good p w id ty e

  inside_same : (ty : Ty) (j : TyId) → types.inside_in ty ≡ Some j → content_of ty ≡ Some j
  inside_same ty j e = e

  pub told : Told p.items
  told = record {
    fields = λ id v n j e. field id v n j (type_at p.items id) refl e;
    contents = λ id j e. content id j (type_at p.items id) refl e;
    elements = λ id a e. element id a (type_at p.items id) refl e;
    tuples = λ id tys e. tuple id tys (type_at p.items id) refl e;
    results = λ n sig e. (of_items.head_at p w n sig e).0;
    answers = λ n m def sig e d. of_items.answer_at p w n m def sig e d;
    truth = truth_fine;
  }
    where
      field : (id : TyId) (v n : ℕ) (j : TyId) (o : Option Ty) → type_at p.items id ≡ o → option_and_then (λ ty. slice_get (parts_of p.items ty v) n) o ≡ Some j → There p.items j
      field id v n j None e h = absurd (none-some j h)
      field id v n j (Some ty) e h = facts.parts_there p w id ty v n j e h

      content : (id j : TyId) (o : Option Ty) → type_at p.items id ≡ o → option_and_then types.inside_in o ≡ Some j → There p.items j
      content id j None e h = absurd (none-some j h)
      content id j (Some ty) e h = facts.content_there p w id ty j e (inside_same ty j h)

      array_same : (ty : Ty) (a : TyId × ℕ) → types.array_in ty ≡ Some a → element_of ty ≡ Some a.0
      array_same (Ty.Array element count) a e = ap (λ (x : TyId × ℕ). Some x.0) (same_Some (element, count) a e)
      array_same _ a e = absurd (none-some a e)

      element : (id : TyId) (a : TyId × ℕ) (o : Option Ty) → type_at p.items id ≡ o → option_and_then types.array_in o ≡ Some a → There p.items a.0
      element id a None e h = absurd (none-some a h)
      element id a (Some ty) e h = facts.element_there p w id ty a.0 e (array_same ty a h)

      tuple_same : (ty : Ty) (tys : List TyId) → types.tuple_in ty ≡ Some tys → ty ≡ Ty.Tuple tys
      tuple_same (Ty.Tuple parts) tys e = ap Ty.Tuple (same_Some parts tys e)
      tuple_same _ tys e = absurd (none-some tys e)

      tuple : (id : TyId) (tys : List TyId) (o : Option Ty) → type_at p.items id ≡ o → option_and_then types.tuple_in o ≡ Some tys → Each (There p.items) tys
      tuple id tys None e h = absurd (none-some tys h)
      tuple id tys (Some ty) e h = of_types.parts_there p.items made_types (Ty.Tuple tys) (made_types id (Ty.Tuple tys) (e ∙ ap (λ (t : Ty). Some t) (tuple_same ty tys h)))

      truth_fine : Fine p.items (bool_ty p.items)
      truth_fine =
          let b = first_passes (λ ty. forms.is_bool (Some ty)) p.items.types (any_same p.items.types w.0.0.1.1.0) in
          let at : type_at p.items (bool_ty p.items) ≡ Some b.1 = ap (λ (o : Option ℕ). slice_get p.items.types (option_map_or (λ n. n) o (length p.items.types))) b.2 ∙ b.3 in
          ((b.1, at), ap (λ (o : Option Ty). is_some (option_and_then types.dyn_in o)) at ∙ no_dyn b.1 b.4)
        where
          is_truth : (ty : Ty) → items_of.is_equal Ty.Bool ty ≡ true → forms.is_bool (Some ty) ≡ true
          is_truth Ty.Bool h = refl
          is_truth _ h = absurd (untrue h)

          any_same : (tys : List Ty) → list_any (items_of.is_equal Ty.Bool) tys ≡ true → list_any (λ ty. forms.is_bool (Some ty)) tys ≡ true
          any_same [] h = h
          any_same (ty ∷ tys) h = on (items_of.is_equal Ty.Bool ty) refl h (any_same tys)
            where
              on : (b : Bool) → items_of.is_equal Ty.Bool ty ≡ b → b || list_any (items_of.is_equal Ty.Bool) tys ≡ true → (list_any (items_of.is_equal Ty.Bool) tys ≡ true → list_any (λ ty. forms.is_bool (Some ty)) tys ≡ true) → forms.is_bool (Some ty) || list_any (λ ty. forms.is_bool (Some ty)) tys ≡ true
              on true e h more = ap (λ (b : Bool). b || list_any (λ ty. forms.is_bool (Some ty)) tys) (is_truth ty e)
              on false e h more = or_second (forms.is_bool (Some ty)) (more h)

          no_dyn : (ty : Ty) → forms.is_bool (Some ty) ≡ true → is_some (types.dyn_in ty) ≡ false
          no_dyn Ty.Bool h = refl
          no_dyn _ h = absurd (untrue h)

  -- ---- parameters
  abbrev whole : Matched
  whole = record { takes_all = true; may_move = true }

  abbrev NameOrWildcard : Form → Bool
  NameOrWildcard tree.Wildcard = true
  NameOrWildcard (tree.Binding name) = true
  NameOrWildcard _ = false

  abbrev ParamIs : TyId → ParamTree → Claim
  ParamIs ty param = fact (types.is_same param.ty ty) & patterns.pattern p.items whole param.ty param.pattern & fact (NameOrWildcard (form_of param.pattern) || not (types.is_reference p.items param.ty))

  abbrev ParamsAre : List TyId → List ParamTree → Claim
  ParamsAre [] [] = nothing
  ParamsAre (ty ∷ tys) (param ∷ params) = ParamIs ty param & ParamsAre tys params
  ParamsAre tys params = fact false

  abbrev entry_of_param : ParamTree → Entry
  entry_of_param param = record { key = param_key param; ty = param.ty }

  abbrev cells_of_params : List ParamTree → List Entry
  cells_of_params [] = []
  cells_of_params (param ∷ params) = cells_in p.items (form_of param.pattern) ++ cells_of_params params

  abbrev entries_of_params : List ParamTree → List InScope
  entries_of_params params = flat_map (λ (q : ParamTree). entries_of q.pattern) params

  abbrev AllFine : List Entry → Type 0
  AllFine = nodes.AllFine p.items

  pattern_inside : (q : Node) → AllFine (cells p.items true q) → AllFine (cells_in p.items (form_of q))
  pattern_inside (tree.node id at ty by form) h = each_second (λ (e : Entry). Fine p.items e.ty) _ (cells_in p.items form) h

  pub record ParamsGood (params : List ParamTree) : Type 0 where
    pub own : AllFine (map entry_of_param params)
    pub inner : AllFine (cells_of_params params)
    pub names : nodes.AllThere p.items (entries_of_params params)

  params_good : (tys : List TyId) (params : List ParamTree) → Each (Fine p.items) tys → Holds (ParamsAre tys params) → ParamsGood params
  params_good [] [] f h = record { own = tt; inner = tt; names = tt }
  params_good [] (param ∷ params) f h = absurd (untrue h)
  params_good (ty ∷ tys) [] f h = absurd (untrue h)
  params_good (ty ∷ tys) (param ∷ params) f h =
      let own = same_fine p.items param.ty ty h.0.0 f.0 in
      let q = nodes.pattern_good p.items told whole param.ty param.pattern own.0 h.0.1.0 in
      let more = params_good tys params f.1 h.1 in
      record {
        own = (own, more.own);
        inner = each_append (λ (e : Entry). Fine p.items e.ty) _ _ (pattern_inside param.pattern q.cells) more.inner;
        names =
            subst (nodes.AllThere p.items) (sym (flat_map-cons (λ (q : ParamTree). entries_of q.pattern) param params))
            (each_append (λ (e : InScope). There p.items e.ty) _ _ (nodes.pattern_names p.items told param.pattern q) more.names);
      }

  -- the types of the first locals are those of the head
  params_same : (tys : List TyId) (params : List ParamTree) (xs ys : List Entry) → Holds (ParamsAre tys params) →
      (length tys ≡ length params) × (forms.same_ids (take (length params) (map (λ (e : Entry). e.ty) ((map entry_of_param params ++ xs) ++ ys))) tys ≡ true) × (length params ≤ length (map (λ (e : Entry). e.ty) ((map entry_of_param params ++ xs) ++ ys)))
  params_same [] [] xs ys h = (refl, refl, omega arith)
  params_same [] (param ∷ params) xs ys h = absurd (untrue h)
  params_same (ty ∷ tys) [] xs ys h = absurd (untrue h)
  params_same (ty ∷ tys) (param ∷ params) xs ys h =
      let more = params_same tys params xs ys h.1 in
      let least = more.2 in
      (ap suc more.0, both (types.is_same param.ty ty) _ h.0.0 more.1, omega (least, arith))

  module _ (low : IsLowerable p) (n : ℕ) (body : BodyTree) (at_n : slice_get p.bodies n ≡ Some body) where
    typed : (sig : Sig) × (slice_get p.items.bodies n ≡ Some sig) × Holds (is_body p.items n sig body)
    typed = facts.body_at p w n body at_n

    head_fine : Each (Fine p.items) (typed.0.result ∷ typed.0.params)
    head_fine = of_items.head_at p w n typed.0 typed.1

    params : ParamsGood body.params
    params = params_good typed.0.params body.params head_fine.1 typed.2.1.1.0

    -- ---- the cells of the block
    abbrev context : Option InScope → List ParamTree → Context
    context closure params = record { items = p.items; entries = entries_of_params params; closure = closure; loops = []; answer = body.answer }

    block_inside : (closure : Option InScope) (params : List ParamTree) → nodes.AllThere p.items (entries_of_params params) → Holds (typing.typed (context closure params) (Wanted body.answer) body.block) → AllFine (cells_in p.items (form_of body.block))
    block_inside closure params names h = (nodes.node_good p.items told (context closure params) names (Wanted body.answer) body.block h).inside.cells

    names_rest : (self : ParamTree) (params : List ParamTree) → nodes.AllThere p.items (entries_of_params (self ∷ params)) → nodes.AllThere p.items (entries_of_params params)
    names_rest self params h = each_second (λ (e : InScope). There p.items e.ty) (entries_of self.pattern) (entries_of_params params) (subst (nodes.AllThere p.items) (flat_map-cons (λ (q : ParamTree). entries_of q.pattern) self params) h)

    block_cells : AllFine (cells_in p.items (form_of body.block))
    block_cells = of (closure_with p.items n) body.params params.names typed.2.1.1.1.1.1.1
      where
        of : (o : Option ClosureDef) (ps : List ParamTree) → nodes.AllThere p.items (entries_of_params ps) → Holds (is_inside p.items o body ps) → AllFine (cells_in p.items (form_of body.block))
        of None ps names h = block_inside None ps names h.0
        of (Some def) [] names h = absurd (untrue h)
        of (Some def) (self ∷ ps) names h = block_inside (Some (record { key = param_key self; ty = self.ty; is_in_guard = false })) ps (names_rest self ps names) h.0

    all_cells : AllFine (locals p.items body)
    all_cells = (
      same_fine p.items body.answer typed.0.result typed.2.1.0 head_fine.0,
      each_append (λ (e : Entry). Fine p.items e.ty) (map entry_of_param body.params ++ cells_of_params body.params) (cells_in p.items (form_of body.block))
          (each_append (λ (e : Entry). Fine p.items e.ty) (map entry_of_param body.params) (cells_of_params body.params) params.own params.inner) block_cells,
    )

    from_mapped : {X Y : Type 0} (f : X → Y) (xs : List X) (n : ℕ) (y : Y) → slice_get (map f xs) n ≡ Some y → (x : X) × (slice_get xs n ≡ Some x) × (f x ≡ y)
    from_mapped f [] n y e = absurd (none-some y e)
    from_mapped f (x ∷ xs) zero y e = (x, refl, same_Some (f x) y e)
    from_mapped f (x ∷ xs) (suc n) y e = from_mapped f xs n y e

    pub locals_clean : LocalsHaveNoFault p.items (length p.bodies) (body_of p.items body)
    locals_clean i id e =
        let x = from_mapped (λ (e : Entry). e.ty) (locals p.items body) i id e in
        of_types.local_clean p.items made_types low.0 (length p.bodies) id (subst (Fine p.items) x.2 (each_at (λ (e : Entry). Fine p.items e.ty) (locals p.items body) i x.0 all_cells x.1))

    pub lines_clean : LinesHaveNoFault p.items (length p.bodies) (body_of p.items body)
    lines_clean = lowered_lines_have_no_fault p w n body at_n locals_clean

    -- ---- the line of the body
    longer : 0 < length (body_of p.items body).blocks
    longer =
        let f = lower.frame p.items body in
        let t = target_of p.items body (body_of p.items body) (node_of p.items body) in
        let begun = lower.start f body in
        let S = lower.answer_scope f body in
        let last = ending (Term.Goto 1) 0 in
        let code = (lower.entire_function f body).build (body_ways 1) S last begun in
        let grows : length begun.blocks ≤ length code.1.blocks = ((function_lowers t body).grows (body_ways 1) S last begun).longer in
        let set = set_length code.1.blocks 0 (Some (made Kind.Plain (length code.1.blocks) code.0)) in
        let mapped = length_map (λ (o : Option MadeBlock). (unwrap_or o lower.unmade).block) (lower.built f body).blocks in
        omega (grows, set, mapped, arith)

    head_same : has_sig p.items (length p.bodies) (body_of p.items body) (slice_get p.items.bodies n) ≡ true
    head_same =
        let same = params_same typed.0.params body.params (cells_of_params body.params) (cells_in p.items (form_of body.block)) typed.2.1.1.0 in
        let heads : is_sig_of p.items (length p.bodies) (body_of p.items body) typed.0 ≡ true = both _ _ ((Decides-eqb (length typed.0.params) (length body.params)).1 same.0) (both (types.is_same body.answer typed.0.result) _ typed.2.1.0 same.1) in
        ap (λ (o : Option Sig). option_map_or (is_sig_of p.items (length p.bodies) (body_of p.items body)) o false) typed.1 ∙ heads

    own_name : option_map_or (has_own_name p.items (length p.bodies) n) (slice_get p.items.bodies n) true ≡ true
    own_name =
        let at = of_items.name_at (λ (sig : Sig). sig.name) p.items.bodies n typed.0 typed.1 in
        let is_word = of_items.name_of_item typed.0.name (of_items.all_got _ (of_items.body_names p w) n typed.0.name (of_items.body_named p w) at) in
        ap (λ (o : Option Sig). option_map_or (has_own_name p.items (length p.bodies) n) o true) typed.1 ∙ both _ _ is_word (ap not (of_items.not_repeated (of_items.body_names p w) n typed.0.name (of_items.body_distinct p w) at))

    pub own_clean : body_faults p.items (length p.bodies) n (body_of p.items body) ≡ []
    own_clean =
        let same = params_same typed.0.params body.params (cells_of_params body.params) (cells_in p.items (form_of body.block)) typed.2.1.1.0 in
        let least = same.2 in
        none_broken (body_tests p.items (length p.bodies) n (body_of p.items body)) (
          lt-ltb 0 (length (body_of p.items body).blocks) longer,
          (lt-ltb (length body.params) (length (body_of p.items body).locals) (omega (least, arith)), (head_same, (own_name, tt))),
        )

  -- ---- `main`
  tree_at : (m : ℕ) (sigs : List Sig) (bodies : List BodyTree) → Holds (are_bodies p.items m sigs bodies) → (i : ℕ) (sig : Sig) → slice_get sigs i ≡ Some sig → (body : BodyTree) × (slice_get bodies i ≡ Some body) × (length sig.params ≡ length body.params)
  tree_at m [] [] h i sig e = absurd (none-some sig e)
  tree_at m [] (body ∷ bodies) h i sig e = absurd (untrue h)
  tree_at m (sig ∷ sigs) [] h i s e = absurd (untrue h)
  tree_at m (sig ∷ sigs) (body ∷ bodies) h zero s e = (body, refl, ap (λ (x : Sig). length x.params) (sym (same_Some sig s e)) ∙ (params_same sig.params body.params [] [] h.0.1.1.0).0)
  tree_at m (sig ∷ sigs) (body ∷ bodies) h (suc i) s e = tree_at (suc m) sigs bodies h.1 i s e

  zipped : {A B C : Type 0} (f : B → C) (test : A × C → Bool) (xs : List A) (ys : List B) (i : ℕ) (x : A) (y : B) → slice_get xs i ≡ Some x → slice_get ys i ≡ Some y → test (x, f y) ≡ true → list_any test (zip xs (map f ys)) ≡ true
  zipped f test [] ys i x y e d h = absurd (none-some x e)
  zipped f test (a ∷ xs) [] i x y e d h = absurd (none-some y d)
  zipped f test (a ∷ xs) (b ∷ ys) zero x y e d h =
      ap (λ (t : Bool). t || list_any test (zip xs (map f ys))) (subst (λ z. test (z, f b) ≡ true) (sym (same_Some a x e)) (subst (λ z. test (x, f z) ≡ true) (sym (same_Some b y d)) h))
  zipped f test (a ∷ xs) (b ∷ ys) (suc i) x y e d h = on (test (a, f b)) (zipped f test xs ys i x y e d h)
    where
      on : (t : Bool) → list_any test (zip xs (map f ys)) ≡ true → t || list_any test (zip xs (map f ys)) ≡ true
      on true k = refl
      on false k = k

  pub main_there : of_graph.end_faults (graph_of p) ≡ []
  main_there =
      let m = of_items.any_got _ p.items.bodies w.0.1.1.1.1.1.1.1.1.1 in
      let t = tree_at 0 p.items.bodies p.bodies w.1 m.0 m.1 m.2 in
      let none : length t.0.params ≡ 0 = sym t.2 ∙ eqb-true (length m.1.params) 0 (and_first _ _ (and_second (bytes_eq m.1.name (codes "main")) _ m.3)) in
      ap (of_graph.main_faults (graph_of p)) (zipped (body_of p.items) (of_graph.is_main (graph_of p)) p.items.bodies p.bodies m.0 m.1 t.0 m.2 t.1 (both _ _ (and_first _ _ m.3) ((Decides-eqb (length t.0.params) 0).1 none)))
