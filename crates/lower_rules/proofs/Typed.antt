-- In a typed program each jump names a loop around it: by cases on the form.
use Rattle.std.proofs.Common.{◌≡◌, ℕ, zero, suc, Bool, true, false, ◌&&◌, ◌||◌, ◌==◌, List, [], ◌∷◌, map, cond, slice_get, length, not, Option, Some, None, refl, subst}
use Rattle.std.proofs.lemmas.Option.{none-some, same_Some}
use Rattle.std.specs.List.{find}
use Rattle.mir_ty.specs.declared.def.ClosureDef.{ClosureDef}
use Rattle.mir_ty.specs.declared.adt.Variant.{Variant}
use Rattle.mir_ty.specs.declared.def.Sig.{Sig}
use Rattle.mir_ty.specs.declared.def.TraitDef.{TraitDef}
use Rattle.mir_ty.specs.declared.ty.TyId.{TyId}
use Rattle.mir_ty.specs.ItemTable.{ItemTable}
use Rattle.typed_tree.specs.Tree as tree
use Rattle.typed_tree.specs.Tree.{Node, node, Form, Nodes, no_node, a_node, Fields, no_field, a_field, MaybeNode, absent, present, ParamTree, BodyTree}
use Rattle.well_typed.specs.Claim.{Claim, Holds, some, fact, ◌&◌, nothing}
use Rattle.well_typed.specs.Names.{are_distinct_numbers}
use Rattle.well_typed.specs.Types.{is_same, is_dyn, tuple_of, array_of, boxed_of, variant_at}
use Rattle.well_typed.specs.Nodes as typing
use Rattle.well_typed.specs.Patterns.{Matched, field_numbers, count_of}
use Rattle.well_typed.specs.Places.{LoopAround, Context, Standing, Passed, Wanted, loop_with}
use Rattle.well_typed.specs.Program.{closure_with, is_inside, are_bodies}
use Rattle.lower_rules.specs.Laws.{NamesItsLoops, WellTypedNamesItsLoops}
use Rattle.lower_rules.specs.Loops.{names_its_loops, has_loop, names_loops, names_loops_in, all_name_loops, fields_name_loops, if_any_names}

both : (a b : Bool) → a ≡ true → b ≡ true → a && b ≡ true
both true b e d = d
both false b e d = e

-- a first and a last thing, with others between
with_last : (a b z : Bool) → a ≡ true → b && z ≡ true → (a && b) && z ≡ true
with_last true b z e d = d
with_last false b z e d = absurd (let never : false ≡ true = e in cc)

untrue : false ≡ true → ⊥
untrue e = let never : false ≡ true = e in cc

some_at : {A : Type 0} (o : Option A) (claim : A → Claim) (P : Type 0) → Holds (some o claim) → ((a : A) → Holds (claim a) → P) → P
some_at None claim P h holds = absurd (untrue h)
some_at (Some a) claim P h holds = holds a h

loop_around : (loop : ℕ) (loops : List LoopAround) (claim : LoopAround → Claim) → Holds (some (find (λ a. a.loop == loop) loops) claim) → has_loop loop (map (λ a. a.loop) loops) ≡ true
loop_around loop [] claim h = absurd (untrue h)
loop_around loop (a ∷ loops) claim h = by_name (a.loop == loop) (loop_around loop loops claim) h
  where
    by_name : (x : Bool) → (Holds (some (find (λ a. a.loop == loop) loops) claim) → has_loop loop (map (λ a. a.loop) loops) ≡ true) →
        Holds (some (cond x (Some a) (find (λ a. a.loop == loop) loops)) claim) → x || has_loop loop (map (λ a. a.loop) loops) ≡ true
    by_name true rest h = refl
    by_name false rest h = rest h

abbrev around : Context → List ℕ
around c = map (λ a. a.loop) c.loops

-- the first argument and the others
first_named : (c : Context) (first : Node) (args : Nodes) (tys : List TyId) → ((ty : TyId) → Holds (typing.typed c (Passed ty) first) → names_loops (around c) first ≡ true) →
    ((tys : List TyId) → Holds (typing.arguments c tys args) → all_name_loops (around c) args ≡ true) →
    Holds (typing.first_and_rest (λ t. typing.typed c (Passed t) first) (λ ts. typing.arguments c ts args) tys) → names_loops (around c) first && all_name_loops (around c) args ≡ true
first_named c first args [] one rest h = absurd (untrue h)
first_named c first args (ty ∷ tys) one rest h = both _ _ (one ty h.0) (rest tys h.1)

mutual
  pub node_names : (c : Context) (standing : Standing) (n : Node) → Holds (typing.typed c standing n) → names_loops (around c) n ≡ true
  node_names c standing (node id at ty by form) = λ h. row_names c id ty form h.1

  row_names : (c : Context) (id : ℕ) (ty : TyId) (form : Form) → Holds (typing.row c id ty form) → names_loops_in (around c) id form ≡ true
  row_names c id ty (tree.Field base part) = λ h. node_names c _ base h.0
  row_names c id ty (tree.Index base index count) = λ h. both _ _ (node_names c _ base h.0) (node_names c _ index h.1.0)
  row_names c id ty (tree.Deref base) = λ h. node_names c _ base h.0
  row_names c id ty (tree.Not operand) = λ h. node_names c _ operand h.0
  row_names c id ty (tree.Negate operand) = λ h. node_names c _ operand h.0
  row_names c id ty (tree.Print operand) = λ h. node_names c _ operand h.0
  row_names c id ty (tree.DropValue operand) = λ h. node_names c _ operand h.0
  row_names c id ty (tree.Forget operand) = λ h. node_names c _ operand h.0
  row_names c id ty (tree.Unsize trait_no operand) = λ h. node_names c _ operand h.0
  row_names c id ty (tree.Arithmetic operator left right) = λ h. both _ _ (node_names c _ left h.0) (node_names c _ right h.1.0)
  row_names c id ty (tree.Comparison operator left right) = λ h. both _ _ (node_names c _ left h.0) (node_names c _ right h.1.0)
  row_names c id ty (tree.And left right) = λ h. both _ _ (node_names c _ left h.0) (node_names c _ right h.1.0)
  row_names c id ty (tree.Or left right) = λ h. both _ _ (node_names c _ left h.0) (node_names c _ right h.1.0)
  row_names c id ty (tree.Assign place value) = λ h. both _ _ (node_names c _ place h.0) (node_names c _ value h.1.1.0)
  row_names c id ty (tree.Call body args) = λ h. some_at (slice_get c.items.bodies body) (λ sig. fact (is_same ty sig.result) & typing.arguments c sig.params args) _ h.0 (λ (sig : Sig) g. arguments_name c sig.params args g.1)
  row_names c id ty (tree.MethodCall body receiver args) = λ h.
      some_at (slice_get c.items.bodies body) (λ sig. fact (is_same ty sig.result) & typing.first_and_rest (λ t. typing.typed c (Passed t) receiver) (λ ts. typing.arguments c ts args) sig.params) _ h.0 (λ (sig : Sig) g. first_named c receiver args sig.params (λ ty. node_names c _ receiver) (λ tys. arguments_name c tys args) g.1)
  row_names c id ty (tree.VirtualCall trait_no method receiver args) = λ h.
      some_at (slice_get c.items.traits trait_no) (λ def. some (slice_get def.methods method) (λ sig. fact (is_same ty sig.result) & typing.first_and_rest (λ t. typing.typed c (Passed t) receiver) (λ ts. typing.arguments c ts args) sig.params)) _ h
      (λ (def : TraitDef) g. some_at (slice_get def.methods method) (λ sig. fact (is_same ty sig.result) & typing.first_and_rest (λ t. typing.typed c (Passed t) receiver) (λ ts. typing.arguments c ts args) sig.params) _ g
      (λ (sig : Sig) k. first_named c receiver args sig.params (λ ty. node_names c _ receiver) (λ tys. arguments_name c tys args) k.1))
  row_names c id ty (tree.ClosureCall body callee args) = λ h.
      some_at (slice_get c.items.bodies body) (λ sig. fact (is_same ty sig.result) & typing.first_and_rest (λ t. typing.typed c (Passed t) callee) (λ ts. typing.arguments c ts args) sig.params) _ h.0 (λ (sig : Sig) g. first_named c callee args sig.params (λ ty. node_names c _ callee) (λ tys. arguments_name c tys args) g.1)
  row_names c id ty (tree.Make adt variant fields) = λ h. some_at (variant_at c.items adt variant) (λ v. fact (are_distinct_numbers (field_numbers fields) && length (field_numbers fields) == length v.fields) & typing.made_fields c v.fields fields) _ h.1 (λ (v : Variant) g. fields_name c v.fields fields g.1)
  row_names c id ty (tree.Tuple parts) = λ h. some_at (tuple_of c.items ty) (λ tys. typing.made_parts c tys parts) _ h (λ (tys : List TyId) g. parts_name c tys parts g)
  row_names c id ty (tree.Array elements) = λ h. some_at (array_of c.items ty) (λ a. fact (count_of elements == a.1) & typing.elements_of c a.0 elements) _ h (λ (a : TyId × ℕ) g. elements_name c a.0 elements g.1)
  row_names c id ty (tree.Closure closure captures) = λ h. some_at (slice_get c.items.closures closure) (λ def. typing.captured c def.captures captures) _ h.1 (λ (def : ClosureDef) g. captures_name c def.captures captures g)
  row_names c id ty (tree.NewBox content) = λ h. some_at (boxed_of c.items ty) (λ inside. typing.typed c (Wanted inside) content & fact (not (is_dyn c.items inside))) _ h (λ (inside : TyId) g. node_names c _ content g.0)
  row_names c id ty (tree.Borrow unique base) = λ h. node_names c _ base h.0
  row_names c id ty (tree.Block stmts tail) = λ h. statements_name c stmts _ _ (λ d e g. subst (λ loops. if_any_names loops tail ≡ true) e (tail_names d tail g)) h.0
  row_names c id ty (tree.If condition body absent) = λ h. both _ _ (node_names c _ condition h.0) (both _ _ (node_names c _ body h.1.1.0) refl)
  row_names c id ty (tree.If condition body (present otherwise)) = λ h.
      both _ _ (node_names c _ condition h.0) (both _ _ (node_names c _ body h.1.1.0) (node_names c _ otherwise h.1.1.1.0))
  row_names c id ty (tree.IfLet p scrutinee body absent) = λ h. both _ _ (node_names c _ scrutinee h.0) (both _ _ (node_names _ _ body h.1.1.0) refl)
  row_names c id ty (tree.IfLet p scrutinee body (present otherwise)) = λ h.
      both _ _ (node_names c _ scrutinee h.0) (both _ _ (node_names _ _ body h.1.1.0) (node_names c _ otherwise h.1.1.1.0))
  row_names c id ty (tree.Match scrutinee arms) = λ h. both _ _ (node_names c _ scrutinee h.0) (arms_name c _ _ arms h.1.0)
  row_names c id ty (tree.Loop body) = λ h. node_names _ _ body h.0
  row_names c id ty (tree.While condition body) = λ h. both _ _ (node_names _ _ condition h.0) (node_names _ _ body h.1.1.0)
  row_names c id ty (tree.WhileLet p scrutinee body) = λ h. both _ _ (node_names _ _ scrutinee h.0) (node_names _ _ body h.1.1.0)
  row_names c id ty (tree.Break loop value) = λ h. both _ _ (loop_around loop c.loops (λ a. typing.carries c a value) h.0) (some_at (loop_with loop c.loops) (λ a. typing.carries c a value) _ h.0 (λ (a : LoopAround) g. carried_names c a value g))
  row_names c id ty (tree.Continue loop) = λ h. loop_around loop c.loops (λ a. nothing) h.0
  row_names c id ty (tree.Return value) = λ h. returned_names c value h.0
  row_names c id ty (tree.Let p value) = λ h. absurd (untrue h)
  row_names c id ty (tree.Evaluate expression) = λ h. absurd (untrue h)
  row_names c id ty (tree.Arm p guard body) = λ h. absurd (untrue h)
  row_names c id ty other = λ h. refl

  carried_names : (c : Context) (a : LoopAround) (value : MaybeNode) → Holds (typing.carries c a value) → if_any_names (around c) value ≡ true
  carried_names c a absent = λ h. refl
  carried_names c a (present value) = λ h. node_names c _ value h.1

  returned_names : (c : Context) (value : MaybeNode) → Holds (typing.returned c value) → if_any_names (around c) value ≡ true
  returned_names c absent = λ h. refl
  returned_names c (present value) = λ h. node_names c _ value h

  tail_names : (c : Context) (tail : MaybeNode) → Holds (typing.tail_of c tail) → if_any_names (around c) tail ≡ true
  tail_names c absent = λ h. refl
  tail_names c (present tail) = λ h. node_names c _ tail h

  guard_names : (c : Context) (guard : MaybeNode) → Holds (typing.guarded c guard) → if_any_names (around c) guard ≡ true
  guard_names c absent = λ h. refl
  guard_names c (present guard) = λ h. node_names c _ guard h.0

  arguments_name : (c : Context) (tys : List TyId) (ns : Nodes) → Holds (typing.arguments c tys ns) → all_name_loops (around c) ns ≡ true
  arguments_name c [] no_node = λ h. refl
  arguments_name c [] (a_node first rest) = λ h. absurd (untrue h)
  arguments_name c (ty ∷ tys) no_node = λ h. absurd (untrue h)
  arguments_name c (ty ∷ tys) (a_node first rest) = λ h. both _ _ (node_names c _ first h.0) (arguments_name c tys rest h.1)

  parts_name : (c : Context) (tys : List TyId) (ns : Nodes) → Holds (typing.made_parts c tys ns) → all_name_loops (around c) ns ≡ true
  parts_name c [] no_node = λ h. refl
  parts_name c [] (a_node first rest) = λ h. absurd (untrue h)
  parts_name c (ty ∷ tys) no_node = λ h. absurd (untrue h)
  parts_name c (ty ∷ tys) (a_node first rest) = λ h. both _ _ (node_names c _ first h.0) (parts_name c tys rest h.1)

  fields_name : (c : Context) (tys : List TyId) (fs : Fields) → Holds (typing.made_fields c tys fs) → fields_name_loops (around c) fs ≡ true
  fields_name c tys no_field = λ h. refl
  fields_name c tys (a_field number value rest) = λ h. both _ _ (some_at (slice_get tys number) (λ ty. typing.typed c (Wanted ty) value) _ h.0 (λ (ty : TyId) g. node_names c _ value g)) (fields_name c tys rest h.1)

  elements_name : (c : Context) (ty : TyId) (ns : Nodes) → Holds (typing.elements_of c ty ns) → all_name_loops (around c) ns ≡ true
  elements_name c ty no_node = λ h. refl
  elements_name c ty (a_node first rest) = λ h. both _ _ (node_names c _ first h.0) (elements_name c ty rest h.1)

  captures_name : (c : Context) (tys : List TyId) (ns : Nodes) → Holds (typing.captured c tys ns) → all_name_loops (around c) ns ≡ true
  captures_name c [] no_node = λ h. refl
  captures_name c [] (a_node first rest) = λ h. absurd (untrue h)
  captures_name c (ty ∷ tys) no_node = λ h. absurd (untrue h)
  captures_name c (ty ∷ tys) (a_node first rest) = λ h. both _ _ (node_names c _ first h.0) (captures_name c tys rest h.1.1)

  arms_name : (c : Context) (m : Matched) (ty : TyId) (ns : Nodes) → Holds (typing.arms_of c m ty ns) → all_name_loops (around c) ns ≡ true
  arms_name c m ty no_node = λ h. refl
  arms_name c m ty (a_node first rest) = λ h. both _ _ (arm_names c m ty first h.0) (arms_name c m ty rest h.1)

  arm_names : (c : Context) (m : Matched) (want : TyId) (n : Node) → Holds (typing.arm c m want n) → names_loops (around c) n ≡ true
  arm_names c m want (node id at ty by (tree.Arm p guard body)) = λ h. both _ _ (guard_names _ guard h.1.1.1.0) (node_names _ _ body h.1.1.1.1.0)
  arm_names c m want (node id at ty by other) = λ h. absurd (untrue h)

  statements_name : (c : Context) (ns : Nodes) (behind : Context → Claim) (z : Bool) → ((d : Context) → around d ≡ around c → Holds (behind d) → z ≡ true) →
      Holds (typing.statements c ns behind) → all_name_loops (around c) ns && z ≡ true
  statements_name c no_node behind z last = λ h. last c refl h
  statements_name c (a_node (node id at ty by form) rest) behind z last = λ h. with_last _ _ _ (statement_names c id form h.1.0) (statements_name _ rest behind z last h.1.1)

  statement_names : (c : Context) (id : ℕ) (form : Form) → Holds (typing.statement c form) → names_loops_in (around c) id form ≡ true
  statement_names c id (tree.Let p absent) = λ h. refl
  statement_names c id (tree.Let p (present value)) = λ h. node_names c _ value h.0
  statement_names c id (tree.Evaluate expression) = λ h. node_names c _ expression h
  statement_names c id other = λ h. absurd (untrue h)

inside_names : (items : ItemTable) (closure : Option ClosureDef) (body : BodyTree) (params : List ParamTree) → Holds (is_inside items closure body params) → names_its_loops body ≡ true
inside_names items None body params h = node_names _ _ body.block h.0
inside_names items (Some def) body [] h = absurd (untrue h)
inside_names items (Some def) body (self ∷ params) h = node_names _ _ body.block h.0

-- each jump of a body that is well typed names a loop around it
pub bodies_name_loops : (items : ItemTable) (n : ℕ) (sigs : List Sig) (bodies : List BodyTree) → Holds (are_bodies items n sigs bodies) → (i : ℕ) (tree : BodyTree) → slice_get bodies i ≡ Some tree → NamesItsLoops tree
bodies_name_loops items n [] [] h i tree e = absurd (none-some tree e)
bodies_name_loops items n [] (body ∷ bodies) h i tree e = absurd (untrue h)
bodies_name_loops items n (sig ∷ sigs) [] h i tree e = absurd (none-some tree e)
bodies_name_loops items n (sig ∷ sigs) (body ∷ bodies) h zero tree e =
    subst NamesItsLoops (same_Some body tree e) (inside_names items (closure_with items n) body body.params h.0.1.1.1.1.1.1)
bodies_name_loops items n (sig ∷ sigs) (body ∷ bodies) h (suc i) tree e = bodies_name_loops items (suc n) sigs bodies h.1 i tree e

pub well_typed_names_loops : WellTypedNamesItsLoops
well_typed_names_loops program typed = bodies_name_loops program.items 0 program.items.bodies program.bodies typed.1
