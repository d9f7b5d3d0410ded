-- The nodes of a tree under other numbers are its nodes under other numbers; patterns, names and what they bind.
use Rattle.std.proofs.Common.{◌≡◌, ℕ, Bool, true, false, ◌&&◌, ◌||◌, ◌==◌, not, nat_lt, if◌then◌else◌, List, [], ◌∷◌, ◌++◌, map, length, replicate, Option, Some, None, IsTrue, ◌⊎◌, inl, inr, refl, ap, sym, subst, ◌∙◌}
use Rattle.std.specs.Prelude.{is_none}
use Rattle.std.specs.List.{filter_map, cons_option, list_any}
use Rattle.std.proofs.lemmas.Bool.{eqb-true}
use Rattle.std.proofs.lemmas.List.{map-append}
use Rattle.mir_ty.specs.declared.ty.TyId.{TyId}
use Rattle.mir_ty.specs.Facts.{has_drop_impl}
use Rattle.mir_ty.specs.ItemTable.{ItemTable}
use Rattle.mir_ty.specs.Parts.{field_ty}
use Rattle.typed_tree.specs.declared.node.Use.{Use}
use Rattle.typed_tree.specs.Nodes.{nodes_of, nodes_in, nodes_among, nodes_of_fields, nodes_if_any}
use Rattle.typed_tree.specs.Tree.{Node, node, Nodes, no_node, a_node, Fields, no_field, a_field, MaybeNode, absent, present, Form, Number, Truth, UnitValue, Variable, Captured, Field, Index, Deref, Not, Negate, Arithmetic, Comparison, And, Or, Assign, Call, MethodCall, VirtualCall, ClosureCall, Make, Tuple, Array, Closure, NewBox, Print, Ask, DropValue, Forget, Panic, Borrow, Unsize, Block, Let, Evaluate, If, IfLet, Match, Arm, Loop, While, WhileLet, Break, Continue, Return, Wildcard, Binding, NumberPattern, TruthPattern, StructPattern, VariantPattern, TuplePattern, ArrayPattern, OrPattern}
use Rattle.well_typed.specs.Claim.{fact, both, some}
use Rattle.well_typed.specs.Names.{are_distinct_numbers}
use Rattle.well_typed.specs.Nodes.{carried_by, carries_ty}
use Rattle.well_typed.specs.Patterns as well
use Rattle.well_typed.specs.Patterns.{Matched, binding_name, binding_entry, names_of, entries_of, field_numbers, count_of}
use Rattle.well_typed.specs.Places.{InScope}
use Rattle.well_typed.specs.Types.{adt_of, array_of, is_same, is_enum}
use Rattle.typing_rules.specs.Numbered.{renumbered, form_renumbered, nodes_renumbered, fields_renumbered, maybe_renumbered}
use Rattle.typing_soundness.specs.Numbers.{entry_on, option_on}
use Rattle.typing_rules.proofs.Sound.Fitted.{or_left, or_right, same_self}
use Rattle.typing_rules.proofs.Sound.Operators.{or_cases}

module _ (f : ℕ → ℕ) where
  -- ---- nodes

  join : (xs ys : List Node) {us vs : List Node} → us ≡ map (renumbered f) xs → vs ≡ map (renumbered f) ys → us ++ vs ≡
      map (renumbered f) (xs ++ ys)
  join xs ys e h = (λ i. e i ++ h i) ∙ sym (map-append (renumbered f) xs ys)

  mutual
    pub of_node : (n : Node) → nodes_of (renumbered f n) ≡ map (renumbered f) (nodes_of n)
    of_node (node id at ty by form) = ap (λ xs. node (f id) at ty by (form_renumbered f form) ∷ xs) (in_form form)

    in_form : (form : Form) → nodes_in (form_renumbered f form) ≡ map (renumbered f) (nodes_in form)
    in_form (Field base part) = of_node base
    in_form (Index base index length) = join (nodes_of base) (nodes_of index) (of_node base) (of_node index)
    in_form (Deref base) = of_node base
    in_form (Not operand) = of_node operand
    in_form (Negate operand) = of_node operand
    in_form (Arithmetic operator left right) = join (nodes_of left) (nodes_of right) (of_node left) (of_node right)
    in_form (Comparison operator left right) = join (nodes_of left) (nodes_of right) (of_node left) (of_node right)
    in_form (And left right) = join (nodes_of left) (nodes_of right) (of_node left) (of_node right)
    in_form (Or left right) = join (nodes_of left) (nodes_of right) (of_node left) (of_node right)
    in_form (Assign place value) = join (nodes_of place) (nodes_of value) (of_node place) (of_node value)
    in_form (Call body args) = among args
    in_form (MethodCall body receiver args) = join (nodes_of receiver) (nodes_among args) (of_node receiver) (among args)
    in_form (VirtualCall trait_no method receiver args) = join (nodes_of receiver) (nodes_among args) (of_node receiver) (among args)
    in_form (ClosureCall body callee args) = join (nodes_of callee) (nodes_among args) (of_node callee) (among args)
    in_form (Make adt variant fields) = of_fields fields
    in_form (Tuple parts) = among parts
    in_form (Array elements) = among elements
    in_form (Closure closure captures) = among captures
    in_form (NewBox content) = of_node content
    in_form (Print operand) = of_node operand
    in_form (DropValue operand) = of_node operand
    in_form (Forget operand) = of_node operand
    in_form (Borrow unique base) = of_node base
    in_form (Unsize trait_no operand) = of_node operand
    in_form (Block statements tail) = join (nodes_among statements) (nodes_if_any tail) (among statements) (if_any tail)
    in_form (Let pattern initialiser) = join (nodes_of pattern) (nodes_if_any initialiser) (of_node pattern) (if_any initialiser)
    in_form (Evaluate expression) = of_node expression
    in_form (If condition body otherwise) = join ((nodes_of condition) ++ nodes_of body) (nodes_if_any otherwise) (join (nodes_of condition) (nodes_of body) (of_node condition) (of_node body)) (if_any otherwise)
    in_form (IfLet pattern scrutinee body otherwise) = join (((nodes_of pattern) ++ nodes_of scrutinee) ++ nodes_of body) (nodes_if_any otherwise) (join ((nodes_of pattern) ++ nodes_of scrutinee) (nodes_of body) (join (nodes_of pattern) (nodes_of scrutinee) (of_node pattern) (of_node scrutinee)) (of_node body)) (if_any otherwise)
    in_form (Match scrutinee arms) = join (nodes_of scrutinee) (nodes_among arms) (of_node scrutinee) (among arms)
    in_form (Arm pattern guard body) = join ((nodes_of pattern) ++ nodes_if_any guard) (nodes_of body) (join (nodes_of pattern) (nodes_if_any guard) (of_node pattern) (if_any guard)) (of_node body)
    in_form (Loop body) = of_node body
    in_form (While condition body) = join (nodes_of condition) (nodes_of body) (of_node condition) (of_node body)
    in_form (WhileLet pattern scrutinee body) = join ((nodes_of pattern) ++ nodes_of scrutinee) (nodes_of body) (join (nodes_of pattern) (nodes_of scrutinee) (of_node pattern) (of_node scrutinee)) (of_node body)
    in_form (Break from value) = if_any value
    in_form (Return value) = if_any value
    in_form (StructPattern fields) = of_fields fields
    in_form (VariantPattern variant is_test fields) = of_fields fields
    in_form (TuplePattern parts) = among parts
    in_form (ArrayPattern elements) = among elements
    in_form (OrPattern alternatives) = among alternatives
    in_form other = refl

    among : (ns : Nodes) → nodes_among (nodes_renumbered f ns) ≡ map (renumbered f) (nodes_among ns)
    among no_node = refl
    among (a_node first rest) = join (nodes_of first) (nodes_among rest) (of_node first) (among rest)

    of_fields : (fs : Fields) → nodes_of_fields (fields_renumbered f fs) ≡ map (renumbered f) (nodes_of_fields fs)
    of_fields no_field = refl
    of_fields (a_field number value rest) =
        join (nodes_of value) (nodes_of_fields rest) (of_node value) (of_fields rest)

    if_any : (n : MaybeNode) → nodes_if_any (maybe_renumbered f n) ≡ map (renumbered f) (nodes_if_any n)
    if_any absent = refl
    if_any (present value) = of_node value

  pub among_nodes : (ns : Nodes) → nodes_among (nodes_renumbered f ns) ≡ map (renumbered f) (nodes_among ns)
  among_nodes ns = among ns

  -- ---- names, and what they bind

  name_same : (n : Node) → binding_name (renumbered f n) ≡ binding_name n
  name_same (node id at ty by (Binding name)) = refl
  name_same (node id at ty by _) = refl

  names_same : (ns : List Node) → filter_map binding_name (map (renumbered f) ns) ≡ filter_map binding_name ns
  names_same [] = refl
  names_same (n ∷ ns) = λ i. cons_option (name_same n i) (names_same ns i)

  cons_on : (o : Option InScope) (xs : List InScope) → cons_option (option_on f o) (map (entry_on f) xs) ≡ map (entry_on f)
      (cons_option o xs)
  cons_on None xs = refl
  cons_on (Some x) xs = refl

  entry_same : (n : Node) → binding_entry (renumbered f n) ≡ option_on f (binding_entry n)
  entry_same (node id at ty by (Binding name)) = refl
  entry_same (node id at ty by _) = refl

  entries_same : (ns : List Node) → filter_map binding_entry (map (renumbered f) ns) ≡ map (entry_on f) (filter_map
      binding_entry ns)
  entries_same [] = refl
  entries_same (n ∷ ns) =
      (λ i. cons_option (entry_same n i) (entries_same ns i)) ∙ cons_on (binding_entry n) (filter_map binding_entry ns)

  pub names_on : (p : Node) → names_of (renumbered f p) ≡ names_of p
  names_on p = ap (filter_map binding_name) (of_node p) ∙ names_same (nodes_of p)

  pub entries_on : (p : Node) → entries_of (renumbered f p) ≡ map (entry_on f) (entries_of p)
  entries_on p = ap (filter_map binding_entry) (of_node p) ∙ entries_same (nodes_of p)

  -- ---- patterns

  numbers_same : (fs : Fields) → field_numbers (fields_renumbered f fs) ≡ field_numbers fs
  numbers_same no_field = refl
  numbers_same (a_field number value rest) = ap (λ ns. number ∷ ns) (numbers_same rest)

  pub field_numbers_on : (fs : Fields) → field_numbers (fields_renumbered f fs) ≡ field_numbers fs
  field_numbers_on fs = numbers_same fs

  pub count_on : (ns : Nodes) → count_of (nodes_renumbered f ns) ≡ count_of ns
  count_on no_node = refl
  count_on (a_node first rest) = ap (λ n. Rattle.std.specs.Prelude.suc n) (count_on rest)

  module _ (items : ItemTable) where
    mutual
      pub pattern_on : (m : Matched) (expected : TyId) (p : Node) → well.pattern items m expected (renumbered f p) ≡
          well.pattern items m expected p
      pattern_on m expected (node id at ty by form) = ap (both (fact (is_same ty expected))) (row_on m ty by form)

      row_on : (m : Matched) (ty : TyId) (by : Option Use) (form : Form) → well.pattern_row items m ty by
          (form_renumbered f form) ≡ well.pattern_row items m ty by form
      row_on m ty by (StructPattern fields) =
          λ i. both (fact (is_none by)) (both (some (adt_of items ty) (λ n. fact (not (is_enum items n)))) (both (fact
          (are_distinct_numbers (numbers_same fields i))) (fields_on (well.within (has_drop_impl items ty) m) ty 0 fields
          i)))
      row_on m ty by (VariantPattern variant is_test fields) =
          λ i. both (fact (well.is_test_by items is_test by && not (is_test && m.takes_all))) (both (some (adt_of items
          ty) (λ n. both (fact (is_enum items n && nat_lt variant (well.variant_count items n))) (fact (if is_test then
          nat_lt 1 (well.variant_count items n) else not (nat_lt 1 (well.variant_count items n)))))) (both (fact
          (are_distinct_numbers (numbers_same fields i))) (fields_on (well.within (has_drop_impl items ty) m) ty variant
          fields i)))
      row_on m ty by (TuplePattern parts) =
          λ i. both (fact (is_none by)) (some (well.tuple_types items ty) (λ tys. parts_on m tys parts i))
      row_on m ty by (ArrayPattern elements) =
          λ i. both (fact (is_none by)) (some (array_of items ty) (λ a. parts_on m (replicate a.1 a.0) elements i))
      row_on m ty by (OrPattern alternatives) =
          λ i. both (fact (is_none by && well.has_no_names ((ap (filter_map binding_name) (among alternatives) ∙
          names_same (nodes_among alternatives)) i))) (both (fact (nat_lt 1 (count_on alternatives i))) (each_on m ty
          alternatives i))
      row_on m ty by _ = refl

      fields_on : (m : Matched) (ty : TyId) (variant : ℕ) (fs : Fields) → well.field_patterns items m ty variant
          (fields_renumbered f fs) ≡ well.field_patterns items m ty variant fs
      fields_on m ty variant no_field = refl
      fields_on m ty variant (a_field number value rest) =
          λ i. both (some (field_ty items ty variant number) (λ expected. pattern_on m expected value i)) (fields_on m ty
          variant rest i)

      parts_on : (m : Matched) (tys : List TyId) (ns : Nodes) → well.part_patterns items m tys (nodes_renumbered f ns) ≡
          well.part_patterns items m tys ns
      parts_on m tys no_node = refl
      parts_on m [] (a_node first rest) = refl
      parts_on m (ty ∷ tys) (a_node first rest) = λ i. both (pattern_on m ty first i) (parts_on m tys rest i)

      each_on : (m : Matched) (ty : TyId) (ns : Nodes) → well.each_pattern items m ty (nodes_renumbered f ns) ≡
          well.each_pattern items m ty ns
      each_on m ty no_node = refl
      each_on m ty (a_node first rest) = λ i. both (pattern_on m ty first i) (each_on m ty rest i)

    -- ---- what is carried out of a loop

    carries_same : (ty : TyId) (v : MaybeNode) → carries_ty items ty (maybe_renumbered f v) ≡ carries_ty items ty v
    carries_same ty absent = refl
    carries_same ty (present (node id at t by form)) = refl

    -- what is carried by one of some nodes is carried by it under another number
    any_cons : (p : MaybeNode → Bool) (o : Option MaybeNode) (xs : List MaybeNode) → IsTrue (list_any p (cons_option o
        xs)) → IsTrue (list_any p (cons_option o [])) ⊎ IsTrue (list_any p xs)
    any_cons p None xs h = inr h
    any_cons p (Some x) xs h = by (or_cases (p x) (list_any p xs) h)
      where
        by : IsTrue (p x) ⊎ IsTrue (list_any p xs) → IsTrue (p x || false) ⊎ IsTrue (list_any p xs)
        by (inl a) = inl (or_left (p x) false a)
        by (inr b) = inr b

    cons_left : (p : MaybeNode → Bool) (o : Option MaybeNode) (xs : List MaybeNode) → IsTrue (list_any p (cons_option o
        [])) → IsTrue (list_any p (cons_option o xs))
    cons_left p None xs h = absurd (let no_ : IsTrue false = h in cc)
    cons_left p (Some x) xs h = or_left (p x) (list_any p xs) (by (or_cases (p x) false h))
      where
        by : IsTrue (p x) ⊎ IsTrue false → IsTrue (p x)
        by (inl a) = a
        by (inr b) = absurd (let no_ : IsTrue false = b in cc)

    cons_right : (p : MaybeNode → Bool) (o : Option MaybeNode) (xs : List MaybeNode) → IsTrue (list_any p xs) → IsTrue
        (list_any p (cons_option o xs))
    cons_right p None xs h = h
    cons_right p (Some x) xs h = or_right (p x) (list_any p xs) h

    one_carried : (loop : ℕ) (ty : TyId) (n : Node) → IsTrue (list_any (carries_ty items ty) (cons_option (carried_by
        loop n) [])) → IsTrue (list_any (carries_ty items ty) (cons_option (carried_by (f loop) (renumbered f n)) []))
    one_carried loop ty (node id at t by (Break from value)) = by_same (loop == from) refl
      where
        by_same : (b : Bool) → (loop == from) ≡ b → IsTrue (list_any (carries_ty items ty) (cons_option (if b then Some
            value else None) [])) → IsTrue (list_any (carries_ty items ty) (cons_option (if f loop == f from then Some
            (maybe_renumbered f value) else None) []))
        by_same true e h =
            let same : f loop == f from ≡ true = subst (λ k. IsTrue (f loop == f k)) (eqb-true loop from e) (same_self
            (f loop)) in
            subst (λ (b : Bool). IsTrue (list_any (carries_ty items ty) (cons_option (if b then Some (maybe_renumbered f
            value) else None) []))) (sym same) (subst (λ b. IsTrue (b || false)) (sym (carries_same ty value)) h)
        by_same false e h = absurd (let no_ : IsTrue false = h in cc)
    one_carried loop ty (node id at t by _) = λ h. absurd (let no_ : IsTrue false = h in cc)

    pub carried_on : (loop : ℕ) (ty : TyId) (ns : List Node) → IsTrue (list_any (carries_ty items ty) (filter_map
        (carried_by loop) ns)) → IsTrue (list_any (carries_ty items ty) (filter_map (carried_by (f loop)) (map
        (renumbered f) ns)))
    carried_on loop ty [] h = h
    carried_on loop ty (n ∷ ns) h =
        by (λ k. carried_on loop ty ns k) (any_cons (carries_ty items ty) (carried_by loop n) (filter_map (carried_by
        loop) ns) h)
      where
        by : (IsTrue (list_any (carries_ty items ty) (filter_map (carried_by loop) ns)) → IsTrue (list_any (carries_ty
            items ty) (filter_map (carried_by (f loop)) (map (renumbered f) ns)))) → IsTrue (list_any (carries_ty items
            ty) (cons_option (carried_by loop n) [])) ⊎ IsTrue (list_any (carries_ty items ty) (filter_map (carried_by
            loop) ns)) → IsTrue (list_any (carries_ty items ty) (filter_map (carried_by (f loop)) (map (renumbered f) (n
            ∷ ns))))
        by on (inl a) = cons_left (carries_ty items ty) (carried_by (f loop) (renumbered f n)) _ (one_carried loop ty n
            a)
        by on (inr b) = cons_right (carries_ty items ty) (carried_by (f loop) (renumbered f n)) _ (on b)
