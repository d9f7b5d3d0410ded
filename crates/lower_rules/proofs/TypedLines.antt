-- Which lines have no fault, by the types of their places: one lemma a statement, and one a terminator.
use Rattle.std.proofs.Common.{◌≡◌, inl, inr, ℕ, ◌==◌, ◌&&◌, nat_lt, Bool, true, false, List, [], ◌∷◌, length, Some, slice_get, ℤ, refl, ap, ◌∙◌, arith}
use Rattle.std.proofs.lemmas.Bool.{lt-ltb}
use Rattle.std.proofs.lemmas.Bool.Decides.{eqb_tells}
use Rattle.std.proofs.lemmas.Option.{slice_get_within}
use Rattle.std.specs.Cmp.Lexicographic.{pointwise}
use Rattle.std.specs.Prelude.{option_and_then, is_some}
use Rattle.std.specs.List.{list_all}
use Rattle.cfg_graph.specs.declared.graph.Body.{Body}
use Rattle.cfg_graph.specs.declared.place.Operand.{Operand}
use Rattle.cfg_graph.specs.declared.place.Place.{Place}
use Rattle.cfg_graph.specs.declared.statement.Stmt.{Stmt}
use Rattle.cfg_graph.specs.declared.terminator.Term.{Term}
use Rattle.cfg_graph.specs.declared.terminator.Unwind.{Unwind}
use Rattle.cfg_graph.specs.Places.{index_locals, place_id}
use Rattle.cfg_graph.specs.Uses.{places_of_stmt, places_of_term}
use Rattle.cfg_graph.specs.WellFormed.Broken.{broken}
use Rattle.cfg_graph.specs.WellFormed.LineFaults.{stmt_faults}
use Rattle.cfg_graph.specs.WellFormed.TypeFaults.{is_drop_body}
use Rattle.cfg_graph.specs.WellFormed.Typing.{term_is_typed, method_at}
use Rattle.mir_base.specs.declared.int_kind.IntKind.{IntKind}
use Rattle.mir_base.specs.declared.operator.Cmp.{Cmp}
use Rattle.mir_base.specs.declared.operator.Math.{Math}
use Rattle.mir_base.specs.declared.trace.Why.{Why}
use Rattle.mir_ty.specs.declared.adt.Adt.{Adt}
use Rattle.mir_ty.specs.declared.adt.Variant.{Variant}
use Rattle.mir_ty.specs.declared.def.ClosureDef.{ClosureDef}
use Rattle.mir_ty.specs.declared.def.Sig.{Sig}
use Rattle.mir_ty.specs.declared.ty.Ty.{Ty}
use Rattle.mir_ty.specs.declared.ty.TyId.{TyId}
use Rattle.mir_ty.specs.ItemTable.{ItemTable, type_at}
use Rattle.store_model.specs.Concrete.Effects.{fits, impl_of}
use Rattle.store_model.specs.Places.TypeForms as forms

pub equal_itself : (n : ℕ) → (n == n) ≡ true
equal_itself n = elim (eqb_tells n n) [ inl same ↦ same.0 | inr other ↦ absurd (let apart = other.1 in let never : ⊥ = omega arith in never) ]

same_kind_itself : (kind : IntKind) → forms.is_int kind (Some (Ty.Int kind)) ≡ true
same_kind_itself IntKind.I32 = refl
same_kind_itself IntKind.I64 = refl
same_kind_itself IntKind.U32 = refl
same_kind_itself IntKind.U64 = refl
same_kind_itself IntKind.Usize = refl

both : (a b : Bool) → a ≡ true → b ≡ true → a && b ≡ true
both true b e d = d
both false b e d = e

clean : (a b c d : Bool) → a ≡ true → b ≡ true → c ≡ true → d ≡ true → broken ((1, a) ∷ (2, b) ∷ (3, c) ∷ (6, d) ∷ []) ≡ []
clean true true true true e1 e2 e3 e4 = refl
clean false b c d e1 e2 e3 e4 = absurd (let never : false ≡ true = e1 in cc)
clean true false c d e1 e2 e3 e4 = absurd (let never : false ≡ true = e2 in cc)
clean true true false d e1 e2 e3 e4 = absurd (let never : false ≡ true = e3 in cc)
clean true true true false e1 e2 e3 e4 = absurd (let never : false ≡ true = e4 in cc)

pub below : {A : Type 0} (xs : List A) (n : ℕ) (x : A) → slice_get xs n ≡ Some x → nat_lt n (length xs) ≡ true
below xs n x e = lt-ltb n (length xs) (slice_get_within xs n x e)

module _ (items : ItemTable) (bodies : ℕ) (body : Body) where
  -- a place of a type, whose locals exist, and whose indices are of type `usize`
  pub record PlaceIs (p : Place) (id : TyId) (ty : Ty) : Type 0 where
    pub is : place_id items body.locals p ≡ Some id
    pub known : type_at items id ≡ Some ty
    pub there : list_all (λ local. nat_lt local (length body.locals)) (p.local ∷ index_locals p.steps) ≡ true
    pub indices : list_all (λ local. forms.is_int IntKind.Usize (option_and_then (type_at items) (slice_get body.locals local))) (index_locals p.steps) ≡ true

  abbrev pub Sized : Ty → Type 0
  Sized ty = forms.is_dyn (Some ty) ≡ false

  abbrev pub StmtOk : Stmt → Type 0
  StmtOk stmt = stmt_faults items bodies body stmt ≡ []

  -- the body, or the trait's method, that a terminator names exists
  abbrev pub numbers_exist : Term → Bool
  numbers_exist (Term.Call to g args next unwind) = nat_lt g bodies
  numbers_exist (Term.Virtual to trait_no method args next unwind) = is_some (method_at items trait_no method)
  numbers_exist _ = true

  abbrev pub Exist : Place → Bool
  Exist p = list_all (λ local. nat_lt local (length body.locals)) (p.local ∷ index_locals p.steps)

  abbrev pub TermOk : Term → Type 0
  TermOk term = (numbers_exist term ≡ true) × (list_all Exist (places_of_term term) ≡ true) × (term_is_typed items body.locals term ≡ true)

  -- ---- statements
  pub put_copied : (to from : Place) (id : TyId) (ty : Ty) → PlaceIs to id ty → PlaceIs from id ty → Sized ty → StmtOk (Stmt.Put to (Operand.Copied from))
  put_copied to from id ty a b d = simp (a.is, a.known, a.there, a.indices, b.is, b.there, b.indices, d, equal_itself)

  pub put_moved : (to from : Place) (id : TyId) (ty : Ty) → PlaceIs to id ty → PlaceIs from id ty → Sized ty → StmtOk (Stmt.Put to (Operand.Moved from))
  put_moved to from id ty a b d = simp (a.is, a.known, a.there, a.indices, b.is, b.there, b.indices, d, equal_itself)

  pub put_number : (to : Place) (id : TyId) (value : ℤ) (kind : IntKind) → PlaceIs to id (Ty.Int kind) → fits kind value ≡ true → StmtOk (Stmt.Put to (Operand.Number value kind))
  put_number to id value kind a fit = simp (a.is, a.known, a.there, a.indices, same_kind_itself, fit)

  pub put_truth : (to : Place) (id : TyId) (value : Bool) → PlaceIs to id Ty.Bool → StmtOk (Stmt.Put to (Operand.Truth value))
  put_truth to id value a = simp (a.is, a.known, a.there, a.indices)

  pub put_unit : (to : Place) (id : TyId) → PlaceIs to id Ty.Unit → StmtOk (Stmt.Put to Operand.Unit)
  put_unit to id a = simp (a.is, a.known, a.there, a.indices)

  pub compared : (to p q : Place) (op : Cmp) (id i j : TyId) (t u : Ty) → PlaceIs to id Ty.Bool → PlaceIs p i t → PlaceIs q j u → forms.are_compared (Some t) (Some u) ≡ true → Sized t → Sized u →
      StmtOk (Stmt.Compare to op (Operand.Moved p) (Operand.Moved q))
  compared to p q op id i j t u a b c e d d' = simp (a.is, a.known, a.there, a.indices, b.is, b.known, b.there, b.indices, c.is, c.known, c.there, c.indices, e, d, d')

  pub number_compared : (to p : Place) (id i : TyId) (value : ℤ) (kind : IntKind) → PlaceIs to id Ty.Bool → PlaceIs p i (Ty.Int kind) → fits kind value ≡ true → StmtOk (Stmt.Compare to Cmp.Eq (Operand.Copied p) (Operand.Number value kind))
  number_compared to p id i value kind a b fit = simp (a.is, a.known, a.there, a.indices, b.is, b.known, b.there, b.indices, fit, same_kind_itself)

  pub truth_compared : (to p : Place) (id i : TyId) (value : Bool) → PlaceIs to id Ty.Bool → PlaceIs p i Ty.Bool → StmtOk (Stmt.Compare to Cmp.Eq (Operand.Copied p) (Operand.Truth value))
  truth_compared to p id i value a b = simp (a.is, a.known, a.there, a.indices, b.is, b.known, b.there, b.indices)

  pub negated_truth : (to p : Place) (id i : TyId) → PlaceIs to id Ty.Bool → PlaceIs p i Ty.Bool → StmtOk (Stmt.Not to (Operand.Moved p))
  negated_truth to p id i a b = simp (a.is, a.known, a.there, a.indices, b.is, b.known, b.there, b.indices)

  pub boxed : (to p : Place) (id i : TyId) (t : Ty) → PlaceIs to id (Ty.Boxed i) → PlaceIs p i t → Sized t → StmtOk (Stmt.NewBox to (Operand.Moved p))
  boxed to p id i t a b d = simp (a.is, a.known, a.there, a.indices, b.is, b.known, b.there, b.indices, d, equal_itself)

  pub unsized : (to p : Place) (id object i inner trait_no adt impl_no : ℕ) → PlaceIs to (record { 0 = id }) (Ty.Boxed (record { 0 = object })) → PlaceIs p (record { 0 = i }) (Ty.Boxed (record { 0 = inner })) →
      type_at items (record { 0 = object }) ≡ Some (Ty.Dyn trait_no) → type_at items (record { 0 = inner }) ≡ Some (Ty.Adt adt) → nat_lt trait_no (length items.traits) ≡ true → impl_of items trait_no adt ≡ Some impl_no →
      StmtOk (Stmt.Unsize to trait_no (Operand.Moved p))
  unsized to p id object i inner trait_no adt impl_no a b o n l m = simp (a.is, a.known, a.there, a.indices, b.is, b.known, b.there, b.indices, o, n, l, m, equal_itself)

  pub borrowed : (to p : Place) (unique : Bool) (id i : TyId) (ty t : Ty) → PlaceIs to id ty → PlaceIs p i t → forms.referent unique (Some ty) ≡ Some i → Sized ty → StmtOk (Stmt.Borrow to unique p)
  borrowed to p unique id i ty t a b r d = simp (a.is, a.known, a.there, a.indices, b.is, b.known, b.there, b.indices, r, d, equal_itself)

  pub touched : (p : Place) (i : TyId) (t : Ty) → PlaceIs p i t → StmtOk (Stmt.Touch p)
  touched p i t b = simp (b.is, b.known, b.there, b.indices)

  pub printed : (p : Place) (i : TyId) → PlaceIs p i (Ty.Int IntKind.I32) → StmtOk (Stmt.Print (Operand.Moved p))
  printed p i b = simp (b.is, b.known, b.there, b.indices)

  pub forgotten : (p : Place) (i : TyId) (t : Ty) → PlaceIs p i t → Sized t → StmtOk (Stmt.Forget (Operand.Moved p))
  forgotten p i t b d = simp (b.is, b.known, b.there, b.indices, d)

  -- ---- lists of operands that are moved
  abbrev pub AllMoved : List Operand → List TyId → Type 0
  AllMoved [] [] = Unit {0}
  AllMoved (Operand.Moved p ∷ os) (id ∷ ids) = ((ty : Ty) × PlaceIs p id ty × Sized ty) × AllMoved os ids
  AllMoved _ _ = ⊥

  all_places : (test : Place → Bool) → ((p : Place) (id : TyId) (ty : Ty) → PlaceIs p id ty → test p ≡ true) → (to : Place) → test to ≡ true → (os : List Operand) (ids : List TyId) → AllMoved os ids →
      list_all test (places_of_stmt (Stmt.Tuple to os)) ≡ true
  all_places test one to t [] [] h = both (test to) true t refl
  all_places test one to t [] (id ∷ ids) h = absurd h
  all_places test one to t (Operand.Moved p ∷ os) [] h = absurd h
  all_places test one to t (Operand.Moved p ∷ os) (id ∷ ids) h = both (test p) _ (one p id h.0.0 h.0.1) (all_places test one to t os ids h.1)
  all_places test one to t (Operand.Copied p ∷ os) [] h = absurd h
  all_places test one to t (Operand.Copied p ∷ os) (id ∷ ids) h = absurd h
  all_places test one to t (Operand.Number value kind ∷ os) [] h = absurd h
  all_places test one to t (Operand.Number value kind ∷ os) (id ∷ ids) h = absurd h
  all_places test one to t (Operand.Truth value ∷ os) [] h = absurd h
  all_places test one to t (Operand.Truth value ∷ os) (id ∷ ids) h = absurd h
  all_places test one to t (Operand.Unit ∷ os) [] h = absurd h
  all_places test one to t (Operand.Unit ∷ os) (id ∷ ids) h = absurd h

  all_operands : (test : Operand → Bool) → ((p : Place) (id : TyId) (ty : Ty) → PlaceIs p id ty → Sized ty → test (Operand.Moved p) ≡ true) → (os : List Operand) (ids : List TyId) → AllMoved os ids → list_all test os ≡ true
  all_operands test one [] [] h = refl
  all_operands test one [] (id ∷ ids) h = absurd h
  all_operands test one (Operand.Moved p ∷ os) [] h = absurd h
  all_operands test one (Operand.Moved p ∷ os) (id ∷ ids) h = both (test (Operand.Moved p)) _ (one p id h.0.0 h.0.1 h.0.2) (all_operands test one os ids h.1)
  all_operands test one (Operand.Copied p ∷ os) [] h = absurd h
  all_operands test one (Operand.Copied p ∷ os) (id ∷ ids) h = absurd h
  all_operands test one (Operand.Number value kind ∷ os) [] h = absurd h
  all_operands test one (Operand.Number value kind ∷ os) (id ∷ ids) h = absurd h
  all_operands test one (Operand.Truth value ∷ os) [] h = absurd h
  all_operands test one (Operand.Truth value ∷ os) (id ∷ ids) h = absurd h
  all_operands test one (Operand.Unit ∷ os) [] h = absurd h
  all_operands test one (Operand.Unit ∷ os) (id ∷ ids) h = absurd h

  all_typed : (test : TyId → Operand → Bool) → ((p : Place) (id : TyId) (ty : Ty) → PlaceIs p id ty → test id (Operand.Moved p) ≡ true) → (os : List Operand) (ids : List TyId) → AllMoved os ids → pointwise test ids os ≡ true
  all_typed test one [] [] h = refl
  all_typed test one [] (id ∷ ids) h = absurd h
  all_typed test one (Operand.Moved p ∷ os) [] h = absurd h
  all_typed test one (Operand.Moved p ∷ os) (id ∷ ids) h = both (test id (Operand.Moved p)) _ (one p id h.0.0 h.0.1) (all_typed test one os ids h.1)
  all_typed test one (Operand.Copied p ∷ os) [] h = absurd h
  all_typed test one (Operand.Copied p ∷ os) (id ∷ ids) h = absurd h
  all_typed test one (Operand.Number value kind ∷ os) [] h = absurd h
  all_typed test one (Operand.Number value kind ∷ os) (id ∷ ids) h = absurd h
  all_typed test one (Operand.Truth value ∷ os) [] h = absurd h
  all_typed test one (Operand.Truth value ∷ os) (id ∷ ids) h = absurd h
  all_typed test one (Operand.Unit ∷ os) [] h = absurd h
  all_typed test one (Operand.Unit ∷ os) (id ∷ ids) h = absurd h

  pub tuple_made : (to : Place) (id : TyId) (os : List Operand) (ids : List TyId) → PlaceIs to id (Ty.Tuple ids) → AllMoved os ids → StmtOk (Stmt.Tuple to os)
  tuple_made to id os ids a h =
      clean _ _ _ _ refl (all_places Exist (λ p i t b. b.there) to a.there os ids h)
      (both _ _ (both _ _ (both _ _ (all_places _ (λ p i t b. simp (b.is, b.known, b.indices)) to (simp (a.is, a.known, a.indices)) os ids h) (simp (a.is, a.known)))
      (all_operands _ (λ p i t b d. simp (b.is, b.known, d)) os ids h)) (simp (a.is, a.known) (all_typed _ (λ p i t b. simp (b.is, equal_itself)) os ids h))) refl

  -- elements of one type
  abbrev pub AllOf : TyId → List Operand → Type 0
  AllOf id [] = Unit {0}
  AllOf id (Operand.Moved p ∷ os) = ((ty : Ty) × PlaceIs p id ty × Sized ty) × AllOf id os
  AllOf id _ = ⊥

  abbrev copies : TyId → List Operand → List TyId
  copies id [] = []
  copies id (o ∷ os) = id ∷ copies id os

  as_moved : (id : TyId) (os : List Operand) → AllOf id os → AllMoved os (copies id os)
  as_moved id [] h = tt
  as_moved id (Operand.Moved p ∷ os) h = (h.0, as_moved id os h.1)
  as_moved id (Operand.Copied p ∷ os) h = absurd h
  as_moved id (Operand.Number value kind ∷ os) h = absurd h
  as_moved id (Operand.Truth value ∷ os) h = absurd h
  as_moved id (Operand.Unit ∷ os) h = absurd h

  all_elements : (test : Operand → Bool) (id : TyId) → ((p : Place) (ty : Ty) → PlaceIs p id ty → test (Operand.Moved p) ≡ true) → (os : List Operand) → AllOf id os → list_all test os ≡ true
  all_elements test id one [] h = refl
  all_elements test id one (Operand.Moved p ∷ os) h = both (test (Operand.Moved p)) _ (one p h.0.0 h.0.1) (all_elements test id one os h.1)
  all_elements test id one (Operand.Copied p ∷ os) h = absurd h
  all_elements test id one (Operand.Number value kind ∷ os) h = absurd h
  all_elements test id one (Operand.Truth value ∷ os) h = absurd h
  all_elements test id one (Operand.Unit ∷ os) h = absurd h

  pub array_made : (to : Place) (id element : TyId) (count : ℕ) (os : List Operand) → PlaceIs to id (Ty.Array element count) → length os ≡ count → AllOf element os → StmtOk (Stmt.Array to os)
  array_made to id element count os a e h =
      let m = as_moved element os h in
      clean _ _ _ _ refl (all_places Exist (λ p i t b. b.there) to a.there os (copies element os) m)
      (both _ _ (both _ _ (both _ _ (all_places _ (λ p i t b. simp (b.is, b.known, b.indices)) to (simp (a.is, a.known, a.indices)) os (copies element os) m) (simp (a.is, a.known)))
      (all_operands _ (λ p i t b d. simp (b.is, b.known, d)) os (copies element os) m))
      (simp (a.is, a.known) (both _ _ (ap (λ n. n == count) e ∙ equal_itself count) (all_elements _ element (λ p t b. simp (b.is, equal_itself)) os h)))) refl

  pub adt_made : (to : Place) (id : TyId) (n variant : ℕ) (adt : Adt) (v : Variant) (os : List Operand) → PlaceIs to id (Ty.Adt n) → slice_get items.adts n ≡ Some adt → slice_get adt.variants variant ≡ Some v → AllMoved os v.fields →
      StmtOk (Stmt.Make to n variant os)
  adt_made to id n variant adt v os a e d h =
      clean _ _ _ _ (below items.adts n adt e) (all_places Exist (λ p i t b. b.there) to a.there os v.fields h)
      (both _ _ (both _ _ (both _ _ (all_places _ (λ p i t b. simp (b.is, b.known, b.indices)) to (simp (a.is, a.known, a.indices)) os v.fields h) (simp (a.is, a.known)))
      (all_operands _ (λ p i t b d. simp (b.is, b.known, d)) os v.fields h)) (simp (a.is, a.known, e, d, equal_itself) (all_typed _ (λ p i t b. simp (b.is, equal_itself)) os v.fields h))) refl

  pub closure_made : (to : Place) (id : TyId) (n : ℕ) (def : ClosureDef) (os : List Operand) → PlaceIs to id (Ty.Closure n) → slice_get items.closures n ≡ Some def → AllMoved os def.captures → StmtOk (Stmt.Close to n os)
  closure_made to id n def os a e h =
      clean _ _ _ _ (below items.closures n def e) (all_places Exist (λ p i t b. b.there) to a.there os def.captures h)
      (both _ _ (both _ _ (both _ _ (all_places _ (λ p i t b. simp (b.is, b.known, b.indices)) to (simp (a.is, a.known, a.indices)) os def.captures h) (simp (a.is, a.known)))
      (all_operands _ (λ p i t b d. simp (b.is, b.known, d)) os def.captures h)) (simp (a.is, a.known, e, equal_itself) (all_typed _ (λ p i t b. simp (b.is, equal_itself)) os def.captures h))) refl

  -- ---- terminators
  pub goto_ok : (n : ℕ) → TermOk (Term.Goto n)
  goto_ok n = (refl, refl, refl)

  pub return_ok : TermOk Term.Return
  return_ok = (refl, refl, refl)

  pub resume_ok : TermOk Term.Resume
  resume_ok = (refl, refl, refl)

  pub panic_ok : (u : Unwind) → TermOk (Term.Panic Why.Explicit u) × TermOk (Term.Panic Why.Match u)
  panic_ok u = ((refl, refl, refl), (refl, refl, refl))

  pub if_ok : (p : Place) (id : TyId) → PlaceIs p id Ty.Bool → (y n : ℕ) → TermOk (Term.If (Operand.Moved p) y n)
  if_ok p id b y n = (refl, simp (b.there), simp (b.is, b.known, b.indices))

  pub case_ok : (p : Place) (id : TyId) (n variant : ℕ) (adt : Adt) (v : Variant) → PlaceIs p id (Ty.Adt n) → slice_get items.adts n ≡ Some adt → adt.is_enum ≡ true → slice_get adt.variants variant ≡ Some v → (y m : ℕ) → TermOk (Term.Case p variant y m)
  case_ok p id n variant adt v b e x d y m = (refl, simp (b.there), simp (b.is, b.known, b.indices, e, x, d))

  pub math_ok : (to p q : Place) (op : Math) (id i j : TyId) (kind : IntKind) → PlaceIs to id (Ty.Int kind) → PlaceIs p i (Ty.Int kind) → PlaceIs q j (Ty.Int kind) → (n : ℕ) (u : Unwind) →
      TermOk (Term.Math to op (Operand.Moved p) (Operand.Moved q) n u)
  math_ok to p q op id i j kind a b c n u = (refl, simp (a.there, b.there, c.there), simp (a.is, a.known, a.indices, b.is, b.known, b.indices, c.is, c.known, c.indices, same_kind_itself))

  pub negate_ok : (to p : Place) (id i : TyId) (kind : IntKind) → PlaceIs to id (Ty.Int kind) → PlaceIs p i (Ty.Int kind) → forms.is_signed (Some (Ty.Int kind)) ≡ true → (n : ℕ) (u : Unwind) → TermOk (Term.Negate to (Operand.Moved p) n u)
  negate_ok to p id i kind a b s n u = (refl, simp (a.there, b.there), simp (a.is, a.known, a.indices, b.is, b.known, b.indices, same_kind_itself, s))

  pub bounds_ok : (p : Place) (i : TyId) (count : ℕ) → PlaceIs p i (Ty.Int IntKind.Usize) → (n : ℕ) (u : Unwind) → TermOk (Term.Bounds (Operand.Copied p) count n u)
  bounds_ok p i count b n u = (refl, simp (b.there), simp (b.is, b.known, b.indices))

  pub ask_ok : (to : Place) (id : TyId) → PlaceIs to id (Ty.Int IntKind.I32) → (n : ℕ) (u : Unwind) → TermOk (Term.Ask to n u)
  ask_ok to id a n u = (refl, simp (a.there), simp (a.is, a.known, a.indices))

  pub drop_ok : (p : Place) (id : TyId) (ty : Ty) → PlaceIs p id ty → (n : ℕ) (u : Unwind) → TermOk (Term.DropAt p n u)
  drop_ok p id ty b n u = (refl, simp (b.there), simp (b.is, b.known, b.indices))

  term_places : (test : Place → Bool) → ((p : Place) (id : TyId) (ty : Ty) → PlaceIs p id ty → test p ≡ true) → (to : Place) → test to ≡ true → (g n : ℕ) (u : Unwind) (os : List Operand) (ids : List TyId) → AllMoved os ids →
      list_all test (places_of_term (Term.Call to g os n u)) ≡ true
  term_places test one to t g n u [] [] h = both (test to) true t refl
  term_places test one to t g n u [] (id ∷ ids) h = absurd h
  term_places test one to t g n u (Operand.Moved p ∷ os) [] h = absurd h
  term_places test one to t g n u (Operand.Moved p ∷ os) (id ∷ ids) h = both (test p) _ (one p id h.0.0 h.0.1) (term_places test one to t g n u os ids h.1)
  term_places test one to t g n u (Operand.Copied p ∷ os) [] h = absurd h
  term_places test one to t g n u (Operand.Copied p ∷ os) (id ∷ ids) h = absurd h
  term_places test one to t g n u (Operand.Number value kind ∷ os) [] h = absurd h
  term_places test one to t g n u (Operand.Number value kind ∷ os) (id ∷ ids) h = absurd h
  term_places test one to t g n u (Operand.Truth value ∷ os) [] h = absurd h
  term_places test one to t g n u (Operand.Truth value ∷ os) (id ∷ ids) h = absurd h
  term_places test one to t g n u (Operand.Unit ∷ os) [] h = absurd h
  term_places test one to t g n u (Operand.Unit ∷ os) (id ∷ ids) h = absurd h

  pub call_ok : (to : Place) (id : TyId) (ty : Ty) (g : ℕ) (sig : Sig) (os : List Operand) → PlaceIs to id ty → Sized ty → slice_get items.bodies g ≡ Some sig → sig.result.0 ≡ id.0 → is_drop_body items g ≡ false → nat_lt g bodies ≡ true →
      AllMoved os sig.params → (n : ℕ) (u : Unwind) → TermOk (Term.Call to g os n u)
  call_ok to id ty g sig os a sized e r d l h n u = (
    l,
    term_places Exist (λ p i t b. b.there) to a.there g n u os sig.params h,
    both _ _ (both _ _ (both _ _ (term_places _ (λ p i t b. simp (b.is, b.known, b.indices)) to (simp (a.is, a.known, a.indices)) g n u os sig.params h) (simp (a.is, a.known, sized)))
        (all_operands _ (λ p i t b d. simp (b.is, b.known, d)) os sig.params h))
        (simp (e, a.is, d, r, equal_itself) (both _ _ (both _ _ (all_typed _ (λ p i t b. simp (b.is, equal_itself)) os sig.params h) refl) refl)),
  )

  pub virtual_ok : (to : Place) (id : TyId) (ty : Ty) (trait_no method : ℕ) (sig : Sig) (os : List Operand) → PlaceIs to id ty → Sized ty → method_at items trait_no method ≡ Some sig → sig.result.0 ≡ id.0 →
      AllMoved os sig.params → (n : ℕ) (u : Unwind) → TermOk (Term.Virtual to trait_no method os n u)
  virtual_ok to id ty trait_no method sig os a sized e r h n u = (
    ap is_some e,
    term_places Exist (λ p i t b. b.there) to a.there 0 n u os sig.params h,
    both _ _ (both _ _ (both _ _ (term_places _ (λ p i t b. simp (b.is, b.known, b.indices)) to (simp (a.is, a.known, a.indices)) 0 n u os sig.params h) (simp (a.is, a.known, sized)))
        (all_operands _ (λ p i t b d. simp (b.is, b.known, d)) os sig.params h))
        (simp (e, a.is, r, equal_itself) (both _ _ (all_typed _ (λ p i t b. simp (b.is, equal_itself)) os sig.params h) refl)),
  )
