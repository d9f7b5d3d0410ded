-- What stands in a local of a reference type, by the rules of typing: an argument there is a borrow, and the callee of a
-- closure stands in another one.
use Rattle.std.proofs.Common.{◌≡◌, ◌⊎◌, inl, inr, ℕ, ◌+◌, ◌==◌, ◌&&◌, ◌||◌, not, suc, Bool, true, false, List, [], ◌∷◌, ◌++◌, map, Option, Some, None, slice_get, if◌then◌else◌, refl, sym, ap, subst, ◌∙◌}
use Rattle.std.specs.Cmp.{first_so}
use Rattle.std.specs.Prelude.{is_none, is_some, option_and_then}
use Rattle.std.specs.List.{list_all, list_any}
use Rattle.std.specs.Option.{option_map_or}
use Rattle.std.proofs.lemmas.Bool.{false≢true, eqb-true}
use Rattle.std.proofs.lemmas.Bool.Decides.{Decides-eqb}
use Rattle.std.proofs.lemmas.Option.{none-some, same_Some}
use Rattle.mir_ty.specs.declared.def.ClosureDef.{ClosureDef}
use Rattle.mir_ty.specs.declared.def.Sig.{Sig}
use Rattle.mir_ty.specs.declared.ty.Ty.{Ty}
use Rattle.mir_ty.specs.declared.ty.TyId.{TyId}
use Rattle.mir_ty.specs.ItemTable.{ItemTable, type_at}
use Rattle.typed_tree.specs.declared.node.Use.{Use}
use Rattle.typed_tree.specs.Nodes.{number_of, nodes_of, nodes_in, param_nodes}
use Rattle.typed_tree.specs.Tree as tree
use Rattle.typed_tree.specs.Tree.{Node, node, Form, Nodes, BodyTree, ProgramTree}
use Rattle.src_meaning.specs.Locals.OfBody.{bool_ty, local_of, local_among, local_ty}
use Rattle.src_meaning.specs.Scopes.{Entry}
use Rattle.well_typed.specs.Claim.{Holds, fact, both}
use Rattle.well_typed.specs.Items.{stands_alone}
use Rattle.well_typed.specs.Nodes as typing
use Rattle.well_typed.specs.Nodes.{is_closure_body}
use Rattle.well_typed.specs.Places.{Passed, form_of, ty_of, is_borrow, is_taken, stands}
use Rattle.well_typed.specs.Program.{WellTyped, is_body}
use Rattle.well_typed.specs.Types as types
use Rattle.soundness_values.proofs.ClaimParts.{numbered_got, there_is}
use Rattle.soundness_cells.proofs.PassCells.{NodeIn, node_right, made_in, made_ty, locals_are}
use Rattle.soundness_cells.proofs.PassFacts.{Standpoint, context}
use Rattle.soundness_cells.proofs.PassFirst.{body_at}
use Rattle.soundness_cells.proofs.PassGood.{TypedParams, typed_params, found_ty, answer_local, node_local}
use Rattle.soundness_cells.proofs.PassLocals.{tys, keys}
use Rattle.soundness_cells.proofs.PassNumbers.{opened}
use Rattle.soundness_values.proofs.PlaceTypes.{some_holds}
use Rattle.lower_ready.proofs.AloneParts.{results_not, truth_not}

and_left : (a b : Bool) → (a && b) ≡ true → a ≡ true
and_left true b e = refl
and_left false b e = e

and_right : (a b : Bool) → (a && b) ≡ true → b ≡ true
and_right true b e = e
and_right false b e = absurd (false≢true e)

either_so : (a b : Bool) → (a || b) ≡ true → (a ≡ true) ⊎ (b ≡ true)
either_so true b e = inl refl
either_so false b e = inr e

same_id : (a b : TyId) → types.is_same a b ≡ true → a ≡ b
same_id a b e = ap (λ (n : ℕ). record { 0 = n }) (eqb-true a.0 b.0 e)

-- one of which a test holds
some_at : {A : Type 0} (test : A → Bool) (l : List A) → list_any test l ≡ true →
    (k : ℕ) × ((x : A) × ((slice_get l k ≡ Some x) × (test x ≡ true)))
some_at test [] h = absurd (false≢true h)
some_at {A = A} test (x ∷ l) h = by (test x) refl h (λ e. some_at test l e)
  where
    by : (b : Bool) → test x ≡ b → (b || list_any test l) ≡ true →
        (list_any test l ≡ true → (k : ℕ) × ((y : A) × ((slice_get l k ≡ Some y) × (test y ≡ true)))) →
        (k : ℕ) × ((y : A) × ((slice_get (x ∷ l) k ≡ Some y) × (test y ≡ true)))
    by true t e later = (0, (x, (refl, t)))
    by false t e later = let r = later e in (suc r.0, (r.1.0, r.1.1))

module _ (items : ItemTable) where
  -- a reference is of another type than `!`, and so is a closure
  never_not : (id : TyId) → types.is_reference items id ≡ true → types.is_never items id ≡ false
  never_not id = by (type_at items id)
    where
      by : (o : Option Ty) → is_some (option_and_then types.reference_in o) ≡ true →
          option_map_or types.is_never_ty o false ≡ false
      by None e = refl
      by (Some Ty.Never) e = absurd (false≢true e)
      by (Some ty) e = refl

  closure_not : (id : TyId) (n : ℕ) → types.closure_of items id ≡ Some n → types.is_reference items id ≡ false
  closure_not id n = by (type_at items id)
    where
      by : (o : Option Ty) → option_and_then types.closure_in o ≡ Some n →
          is_some (option_and_then types.reference_in o) ≡ false
      by None e = refl
      by (Some (Ty.Shared to)) e = absurd (none-some n e)
      by (Some (Ty.Unique to)) e = absurd (none-some n e)
      by (Some ty) e = refl

  -- an argument of a reference type is a borrow, for a parameter of such a type
  passed_ref : (x : Standpoint) (want : TyId) (n : Node) → Holds (typing.typed (context items x) (Passed want) n) →
      types.is_reference items (ty_of n) ≡ true →
      (is_borrow (form_of n) ≡ true) × (types.is_reference items want ≡ true)
  passed_ref x want (node id at ty by form) h r =
      of (types.is_reference items want && not (types.is_never items ty)) refl h.0
    where
      of : (b : Bool) → (types.is_reference items want && not (types.is_never items ty)) ≡ b →
          Holds (if b then fact (is_borrow form && is_none by && types.is_same ty want)
          else (both (is_taken (context items x) ty by form) (fact (types.fits items want ty)))) →
          (is_borrow form ≡ true) × (types.is_reference items want ≡ true)
      of true e k = (
        and_left (is_borrow form) (is_none by) (and_left (is_borrow form && is_none by) (types.is_same ty want) k),
        and_left (types.is_reference items want) _ e,
      )
      of false e k = absurd (elim (either_so (types.is_same ty want) (types.is_never items ty) k.1) [
        | inl same ↦ false≢true (sym e ∙ ap (λ (b : Bool). b && not (types.is_never items ty))
            (ap (types.is_reference items) (sym (same_id ty want same)) ∙ r) ∙ ap not (never_not ty r))
        | inr never ↦ false≢true (sym (never_not ty r) ∙ never)
      ])

module _ (p : ProgramTree) (w : WellTyped p) where
  -- the first parameter of the inside of a closure is the closure
  closure_first : (callee : ℕ) (sig : Sig) (ty : TyId) (rest : List TyId) → slice_get p.items.bodies callee ≡ Some sig →
      is_closure_body p.items callee ≡ true → sig.params ≡ ty ∷ rest → types.is_reference p.items ty ≡ false
  closure_first callee sig ty rest e c same = is_one (types.closure_of p.items ty) refl
      (and_left (is_it found.0 ty) (list_all (stands_alone p.items) rest) parts)
    where
      found : (k : ℕ) × ((def : ClosureDef) × ((slice_get p.items.closures k ≡ Some def) ×
          ((def.body == callee) ≡ true)))
      found = some_at (λ (def : ClosureDef). def.body == callee) p.items.closures c

      inside : slice_get p.items.bodies found.1.0.body ≡ Some sig
      inside = ap (slice_get p.items.bodies) ((Decides-eqb found.1.0.body callee).0 found.1.1.1) ∙ e

      is_it : ℕ → TyId → Bool
      is_it n id = option_map_or (λ m. m == n) (types.closure_of p.items id) false

      Begins : ℕ → List TyId → Bool
      Begins n [] = false
      Begins n (id ∷ ids) = is_it n id && list_all (stands_alone p.items) ids

      parts : Begins found.0 (ty ∷ rest) ≡ true
      parts =
          let claim = numbered_got _ p.items.closures found.0 found.1.0 w.0.1.1.1.1.1.0 found.1.1.0 in
          let s = there_is (slice_get p.items.bodies found.1.0.body) _ claim.1 in
          let one : s.0 ≡ sig = same_Some s.0 sig (sym s.1.0 ∙ inside) in
          subst (λ l. Begins found.0 l ≡ true) same (subst (λ (x : Sig). Begins found.0 x.params ≡ true) one s.1.1)

      is_one : (o : Option ℕ) → types.closure_of p.items ty ≡ o → option_map_or (λ m. m == found.0) o false ≡ true →
          types.is_reference p.items ty ≡ false
      is_one None s h = absurd (false≢true h)
      is_one (Some m) s h = closure_not p.items ty m s

  module _ (n : ℕ) (body : BodyTree) (at : slice_get p.bodies n ≡ Some body) (local : ℕ) (id : TyId)
      (slot : local_ty p.items body local ≡ Some id) (ref : types.is_reference p.items id ≡ true) where
    abbrev lo : ℕ → ℕ
    lo = local_of p.items body

    found : (sig : Sig) × ((slice_get p.items.bodies n ≡ Some sig) × Holds (is_body p.items (0 + n) sig body))
    found = body_at p.items 0 p.items.bodies p.bodies w.1 n body at

    typed_so : TypedParams p.items body.params
    typed_so = typed_params p.items found.0.params body.params found.1.1.1.1.0

    abbrev found_at : ℕ → Option TyId
    found_at = found_ty p.items body.params body.answer body.block found.1.1.1.1.1.0 typed_so

    slot_is : (key : ℕ) → local_ty p.items body (lo key) ≡ found_at key
    slot_is key = ap (λ (es : List Entry). slice_get (tys es) (local_among (keys es) key)) (locals_are p.items body)

    here : (key : ℕ) → (lo key == local) ≡ true → found_at key ≡ Some id
    here key e = sym (slot_is key) ∙ ap (local_ty p.items body) (eqb-true (lo key) local e) ∙ slot

    -- a node whose number leads there is of a reference type
    node_ref : (m : Node) → NodeIn (nodes_of body.block) m → (lo (number_of m) == local) ≡ true →
        types.is_reference p.items (ty_of m) ≡ true
    node_ref m i e = by (subst (λ l. NodeIn l m) (opened body.block) i)
      where
        no_answer : body.answer ≡ id → ⊥
        no_answer same = false≢true (sym (results_not p w n found.0 found.1.0)
            ∙ ap (types.is_reference p.items) (sym (same_id body.answer found.0.result found.1.1.1.0) ∙ same) ∙ ref)

        made : (b : Bool) → made_ty p.items b (ty_of m) ≡ id → types.is_reference p.items (ty_of m) ≡ true
        made true same =
            absurd (false≢true (sym (truth_not p w) ∙ ap (types.is_reference p.items) same ∙ ref))
        made false same = ap (types.is_reference p.items) same ∙ ref

        by : (body.block ≡ m) ⊎ NodeIn (nodes_in (form_of body.block)) m →
            types.is_reference p.items (ty_of m) ≡ true
        by (inl same) = absurd (no_answer (same_Some body.answer id
            (sym (answer_local p.items body.params body.answer body.block found.1.1.1.1.1.0 typed_so)
            ∙ ap (λ (x : Node). found_at (number_of x)) same ∙ here (number_of m) e)))
        by (inr inside) = of_node (node_local p.items body.params body.answer body.block found.1.1.1.1.1.0 typed_so m
            (node_right (param_nodes body.params) (nodes_in (form_of body.block)) m inside))
          where
            of_node : (found_at (number_of m) ≡ Some (made_in p.items m)) ⊎ (found_at (number_of m) ≡ None) →
                types.is_reference p.items (ty_of m) ≡ true
            of_node (inl s) = made _ (same_Some (made_in p.items m) id (sym s ∙ here (number_of m) e))
            of_node (inr s) = absurd (none-some id (sym s ∙ here (number_of m) e))

    pub argument_borrows : (x : Standpoint) (m : Node) (want : TyId) → NodeIn (nodes_of body.block) m →
        Holds (typing.typed (context p.items x) (Passed want) m) → (lo (number_of m) == local) ≡ true →
        is_borrow (form_of m) ≡ true
    argument_borrows x m want i h e = (passed_ref p.items x want m h (node_ref m i e)).0

    pub callee_elsewhere : (x : Standpoint) (key : ℕ) (ty : TyId) (callee : ℕ) (value : Node) (args : Nodes) →
        NodeIn (nodes_of body.block) value →
        Holds (typing.row (context p.items x) key ty (tree.ClosureCall callee value args)) →
        (lo (number_of value) == local) ≡ false
    callee_elsewhere x key ty callee value args i h = by (lo (number_of value) == local) refl
      where
        no_ref : (sig : Sig) → slice_get p.items.bodies callee ≡ Some sig → (params : List TyId) →
            sig.params ≡ params →
            Holds (typing.first_and_rest (λ t. typing.typed (context p.items x) (Passed t) value)
            (λ ts. typing.arguments (context p.items x) ts args) params) →
            types.is_reference p.items (ty_of value) ≡ true → ⊥
        no_ref sig there [] same k r = false≢true k
        no_ref sig there (first ∷ rest) same k r = false≢true (sym (closure_first callee sig first rest there h.1 same)
            ∙ (passed_ref p.items x first value k.0 r).1)

        by : (b : Bool) → (lo (number_of value) == local) ≡ b → b ≡ false
        by true e =
            let s = some_holds (slice_get p.items.bodies callee) (λ (sig : Sig). both (fact (types.is_same ty sig.result))
            (typing.first_and_rest (λ t. typing.typed (context p.items x) (Passed t) value)
            (λ ts. typing.arguments (context p.items x) ts args) sig.params)) h.0 in
            absurd (no_ref s.0 s.1.0 s.0.params refl s.1.1.1 (node_ref value i e))
        by false e = refl
