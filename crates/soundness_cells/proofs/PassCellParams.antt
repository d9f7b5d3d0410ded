-- What is in scope as a body begins: the names of its parameters, and the value of a closure, each in a cell of its type.
-- A parameter that is taken apart is no reference.
use Rattle.std.proofs.Common.{◌≡◌, ◌⊎◌, inl, inr, ℕ, zero, suc, ◌==◌, ◌&&◌, ◌||◌, not, Bool, true, false, List, [], ◌∷◌, ◌++◌, map, Option, Some, None, if◌then◌else◌, refl, ap, sym, ◌∙◌, subst}
use Rattle.std.specs.Prelude.{slice_get}
use Rattle.std.specs.List.{flat_map, find, list_all}
use Rattle.std.proofs.lemmas.Bool.{false≢true}
use Rattle.std.proofs.lemmas.Bool.Decides.{Decides-eqb}
use Rattle.std.proofs.lemmas.Option.{none-some, same_Some}
use Rattle.mir_base.specs.declared.place_in_text.Pos.{Pos}
use Rattle.mir_ty.specs.declared.def.ClosureDef.{ClosureDef}
use Rattle.mir_ty.specs.declared.def.Sig.{Sig}
use Rattle.mir_ty.specs.declared.ty.Ty.{Ty}
use Rattle.mir_ty.specs.declared.ty.TyId.{TyId}
use Rattle.mir_ty.specs.ItemTable.{ItemTable, type_at}
use Rattle.store_model.specs.Places.Place.{Place}
use Rattle.typed_tree.specs.declared.node.Use.{Use}
use Rattle.typed_tree.specs.Nodes.{number_of}
use Rattle.typed_tree.specs.Tree as tree
use Rattle.typed_tree.specs.Tree.{Node, node, Form, ParamTree, BodyTree}
use Rattle.src_meaning.specs.Locals.OfBody.{cells}
use Rattle.src_meaning.specs.Scopes.{Entry}
use Rattle.src_meaning.specs.Shape.{BoundName, shape}
use Rattle.well_typed.specs.Claim.{Holds}
use Rattle.well_typed.specs.Items as items_of
use Rattle.well_typed.specs.Patterns as patterns
use Rattle.well_typed.specs.Patterns.{entries_of}
use Rattle.well_typed.specs.Places.{InScope}
use Rattle.well_typed.specs.Program.{is_param, are_params, closure_with}
use Rattle.well_typed.specs.Types as types
use Rattle.soundness_cells.proofs.PassCellActs.{Cell}
use Rattle.soundness_cells.proofs.PassCellPatterns as cells_of
use Rattle.soundness_cells.proofs.PassCellPatterns.{Told, Has}
use Rattle.soundness_cells.proofs.PassCellPlaces.{Root, Scoped}
use Rattle.soundness_cells.proofs.PassCellScoped as scope
use Rattle.soundness_cells.proofs.PassCellTypes as facts
use Rattle.soundness_cells.proofs.PassCells.{param_entry, inside, inside_params}
use Rattle.soundness_cells.proofs.PassFacts.{Standpoint, with_names}
use Rattle.soundness_cells.proofs.PassGood.{TypedParams, whole, param_made}
use Rattle.soundness_cells.proofs.PassListed.{Lists}
use Rattle.soundness_values.proofs.PlaceTypes.{same_type}

module _ (items : ItemTable) where
  -- a parameter that is no single name has no names, or is no reference
  abbrev pub PlainParam : ParamTree → Type 0
  PlainParam param = (shape items param.pattern).is_binding ≡ false →
      ((place : Place) → (shape items param.pattern).bindings place ≡ []) ⊎ (types.is_reference items param.ty ≡ false)

  abbrev pub PlainParams : List ParamTree → Type 0
  PlainParams [] = Unit {0}
  PlainParams (param ∷ params) = PlainParam param × PlainParams params

  by_form : (form : Form) (id : ℕ) (at : Pos) (by : Option Use) (own want ty : TyId) →
      Holds (is_param items want (record { pattern = node id at own by form; ty = ty })) →
      PlainParam (record { pattern = node id at own by form; ty = ty })
  by_form tree.Wildcard id at by own want ty h = λ e. inl (λ place. refl)
  by_form (tree.Binding name) id at by own want ty h = λ e. absurd (false≢true (sym e))
  by_form form id at by own want ty h = λ e. inr (facts.is_false (types.is_reference items ty) h.1.1)

  one_plain : (p : Node) (want ty : TyId) → Holds (is_param items want (record { pattern = p; ty = ty })) →
      PlainParam (record { pattern = p; ty = ty })
  one_plain (node id at own by form) want ty h = by_form form id at by own want ty h

  pub plain_params : (tys : List TyId) (params : List ParamTree) → Holds (are_params items tys params) →
      PlainParams params
  plain_params [] [] h = tt
  plain_params [] (param ∷ params) h = absurd (false≢true h)
  plain_params (ty ∷ tys) [] h = tt
  plain_params (ty ∷ tys) (param ∷ params) h =
      (one_plain param.pattern ty param.ty h.0, plain_params tys params h.1)

module _ (items : ItemTable) (told : Told items) (body : BodyTree) where
  pub pattern_cells : (p : Node) (want : TyId) → Holds (patterns.pattern items whole want p) →
      Cell items body (number_of p) want → Has items body (inside items p) → Has items body (cells items true p)
  pattern_cells (node id at ty by form) want h c k =
      cells_of.with_own items body id at ty by form
      (subst (λ t. Cell items body id t) (sym (param_made items (node id at ty by form) want h)) c) k

  -- parameters that are references may be used, by names, and are of types in the table
  abbrev pub ParamRoots : List ParamTree → Type 0
  ParamRoots [] = Unit {0}
  ParamRoots (param ∷ params) =
      (scope.OneRoot items body param.pattern param.ty × Lists items param.ty) × ParamRoots params

  abbrev pub AllRoots : List ParamTree → Type 0
  AllRoots [] = Unit {0}
  AllRoots (param ∷ params) = Root items body (number_of param.pattern) param.ty × AllRoots params

  root_by_form : (form : Form) (id : ℕ) (at : Pos) (by : Option Use) (own want ty : TyId) →
      Holds (is_param items want (record { pattern = node id at own by form; ty = ty })) → Root items body id ty →
      scope.OneRoot items body (node id at own by form) ty
  root_by_form tree.Wildcard id at by own want ty h r = inr (refl, r)
  root_by_form (tree.Binding name) id at by own want ty h r = inr (refl, r)
  root_by_form form id at by own want ty h r = inl (facts.is_false (types.is_reference items ty) h.1.1)

  one_root : (p : Node) (want ty : TyId) → Holds (is_param items want (record { pattern = p; ty = ty })) →
      Root items body (number_of p) ty → scope.OneRoot items body p ty
  one_root (node id at own by form) want ty h r = root_by_form form id at by own want ty h r

  pub param_roots : (tys : List TyId) (params : List ParamTree) → Holds (are_params items tys params) →
      list_all (items_of.is_param items) tys ≡ true → AllRoots params → ParamRoots params
  param_roots tys [] h l r = tt
  param_roots [] (param ∷ params) h l r = absurd (false≢true h)
  param_roots (ty ∷ tys) (param ∷ params) h l r = (
    (
      one_root param.pattern ty param.ty h.0 r.0,
      subst (Lists items) (sym (same_type param.ty ty h.0.0))
          (facts.left_of _ _ (facts.left_of (items_of.is_param items ty) _ l)),
    ),
    param_roots tys params h.1 (facts.right_of (items_of.is_param items ty) _ l) r.1,
  )

  -- the names of parameters
  params_in : (params : List ParamTree) → TypedParams items params → ParamRoots params →
      Has items body (map (param_entry items) params) → Has items body (inside_params items params) →
      (x : Standpoint) → Scoped items body x →
      Scoped items body (with_names (flat_map (λ p. entries_of p.pattern) params) x)
  params_in [] t r k l x s =
      record { names = s.names; roots = s.roots; listed = s.listed; closure = s.closure }
  params_in (param ∷ params) t r k l x s =
      let later = params_in params t.1 r.1 k.1
      (cells_of.has_right items body (inside items param.pattern) (inside_params items params) l) x s in
      let here = scope.scoped_names items body told param.pattern whole param.ty
      (with_names (flat_map (λ p. entries_of p.pattern) params) x) t.0 r.0.0 r.0.1
      (pattern_cells param.pattern param.ty t.0 k.0
      (cells_of.has_left items body (inside items param.pattern) (inside_params items params) l)) later in
      record {
        names = λ key y e. here.names key y
            (ap (Rattle.well_typed.specs.Places.entry_with key)
            (sym (append_assoc (entries_of param.pattern) (flat_map (λ p. entries_of p.pattern) params) x.entries)) ∙ e);
        roots = λ key y e. here.roots key y
            (ap (Rattle.well_typed.specs.Places.entry_with key)
            (sym (append_assoc (entries_of param.pattern) (flat_map (λ p. entries_of p.pattern) params) x.entries)) ∙ e);
        listed = λ key y e. here.listed key y
            (ap (Rattle.well_typed.specs.Places.entry_with key)
            (sym (append_assoc (entries_of param.pattern) (flat_map (λ p. entries_of p.pattern) params) x.entries)) ∙ e);
        closure = here.closure;
      }
    where
      append_assoc : (a b c : List InScope) → (a ++ b) ++ c ≡ a ++ (b ++ c)
      append_assoc a b c = Rattle.std.proofs.Common.append_assoc a b c

  abbrev At : Option InScope → List InScope → TyId → Standpoint
  At closure entries answer = record { entries = entries; closure = closure; loops = []; answer = answer; outside = [] }

  -- of a body whose parameters these are, and of which the value of a closure is the first
  pub body_scoped : (closure : Option InScope) (answer : TyId) →
      ((y : InScope) → closure ≡ Some y →
      Cell items body y.key y.ty × ((n : ℕ) × (type_at items y.ty ≡ Some (Ty.Closure n)))) →
      (params : List ParamTree) → TypedParams items params → ParamRoots params →
      Has items body (map (param_entry items) params) → Has items body (inside_params items params) →
      Scoped items body (At closure (flat_map (λ p. entries_of p.pattern) params) answer)
  body_scoped closure answer c params t r k l =
      let s = params_in params t r k l (At closure [] answer)
      (record {
        names = λ key y e. absurd (none-some y e);
        roots = λ key y e. absurd (none-some y e);
        listed = λ key y e. absurd (none-some y e);
        closure = c;
      }) in
      record {
        names = λ key y e. s.names key y (ap (Rattle.well_typed.specs.Places.entry_with key)
            (append_nil (flat_map (λ p. entries_of p.pattern) params)) ∙ e);
        roots = λ key y e. s.roots key y (ap (Rattle.well_typed.specs.Places.entry_with key)
            (append_nil (flat_map (λ p. entries_of p.pattern) params)) ∙ e);
        listed = λ key y e. s.listed key y (ap (Rattle.well_typed.specs.Places.entry_with key)
            (append_nil (flat_map (λ p. entries_of p.pattern) params)) ∙ e);
        closure = c;
      }
    where
      append_nil : (es : List InScope) → es ++ [] ≡ es
      append_nil [] = refl
      append_nil (y ∷ es) = ap (λ l. y ∷ l) (append_nil es)

  -- ---- closures

  found_def : (number : ℕ) (list : List ClosureDef) (def : ClosureDef) → find (λ d. d.body == number) list ≡ Some def →
      (n : ℕ) × ((slice_get list n ≡ Some def) × (def.body ≡ number))
  found_def number [] def e = absurd (none-some def e)
  found_def number (d ∷ list) def e = by (d.body == number) refl e (λ f. found_def number list def f)
    where
      by : (b : Bool) → (d.body == number) ≡ b → (if b then Some d else find (λ d. d.body == number) list) ≡ Some def →
          (find (λ d. d.body == number) list ≡ Some def →
          (n : ℕ) × ((slice_get list n ≡ Some def) × (def.body ≡ number))) →
          (n : ℕ) × ((slice_get (d ∷ list) n ≡ Some def) × (def.body ≡ number))
      by true k f later = (
        0,
        (
          f,
          ap (λ (x : ClosureDef). x.body) (sym (same_Some d def f))
              ∙ (Decides-eqb d.body number).0 k,
        ),
      )
      by false k f later = let r = later f in (suc r.0, r.1)

  -- the first parameter of the inside of a closure is the closure
  pub self_closure : (number : ℕ) (sig : Sig) (def : ClosureDef) (self : ParamTree) (rest : List ParamTree) →
      slice_get items.bodies number ≡ Some sig → closure_with items number ≡ Some def →
      Holds (are_params items sig.params (self ∷ rest)) → (n : ℕ) × (type_at items self.ty ≡ Some (Ty.Closure n))
  self_closure number sig def self rest at c h = by sig.params refl h
    where
      d : (n : ℕ) × ((slice_get items.closures n ≡ Some def) × (def.body ≡ number))
      d = found_def number items.closures def c

      closure_by : (o : Option Ty) (n : ℕ) → Rattle.std.specs.Prelude.option_and_then types.closure_in o ≡ Some n →
          o ≡ Some (Ty.Closure n)
      closure_by None n e = absurd (none-some n e)
      closure_by (Some (Ty.Closure m)) n e = ap (λ k. Some (Ty.Closure k)) (same_Some m n e)
      closure_by (Some ty) n e = absurd (none-some n e)

      by : (tys : List TyId) → sig.params ≡ tys → Holds (are_params items tys (self ∷ rest)) →
          (n : ℕ) × (type_at items self.ty ≡ Some (Ty.Closure n))
      by [] e k = absurd (false≢true k)
      by (ty ∷ tys) e k = (
        d.0,
        subst (λ i. type_at items i ≡ Some (Ty.Closure d.0)) (sym (same_type self.ty ty k.0.0))
            (closure_by (type_at items ty) d.0 (told.closures d.0 def sig ty tys d.1.0
            (subst (λ m. slice_get items.bodies m ≡ Some sig) (sym d.1.1) at) e)),
      )
