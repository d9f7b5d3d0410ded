-- An argument that is `&mut *p` for a protected p is one for a protected parameter: of functions and methods, since the
-- rounds look at each call; of closures there is none, since only functions and methods have parameters of reference
-- types.
use Rattle.std.proofs.Common.{◌≡◌, ◌⊎◌, inl, inr, ℕ, zero, suc, ◌+◌, ◌<◌, ◌==◌, ◌&&◌, ◌||◌, not, Bool, true, false, List, [], ◌∷◌, map, length, Contains, Option, Some, None, if◌then◌else◌, refl, ap, sym, ◌∙◌, subst, arith}
use Rattle.std.specs.Prelude.{slice_get, option_and_then}
use Rattle.std.specs.Cmp.{first_so, second_so}
use Rattle.std.specs.Cmp.Derive.{both_true}
use Rattle.std.specs.List.{list_all, list_any, filter_map, cons_option}
use Rattle.std.specs.Option.{option_map_or}
use Rattle.std.proofs.lemmas.Bool.{false≢true}
use Rattle.std.proofs.lemmas.Bool.Decides.{Decides-eqb}
use Rattle.std.proofs.lemmas.Option.{none-some, same_Some}
use Rattle.mir_base.specs.declared.place_in_text.Pos.{Pos}
use Rattle.mir_ty.specs.declared.def.ClosureDef.{ClosureDef}
use Rattle.mir_ty.specs.declared.def.ImplDef.{ImplDef}
use Rattle.mir_ty.specs.declared.def.Sig.{Sig}
use Rattle.mir_ty.specs.declared.ty.Ty.{Ty}
use Rattle.mir_ty.specs.declared.ty.TyId.{TyId}
use Rattle.mir_ty.specs.ItemTable.{ItemTable, type_at}
use Rattle.store_model.specs.Places.Place.{is_reference}
use Rattle.src_meaning.specs.Programs.{setting_of}
use Rattle.typed_tree.specs.Nodes.{nodes_of}
use Rattle.typed_tree.specs.Tree.{Node, Nodes, no_node, a_node, BodyTree, ProgramTree}
use Rattle.typing_rules.specs.Replaced.{CalledBody, OfBody, OfTrait, Passing, passing, passings_of, passes_key, numbers_for, is_among, bodies_of, replaceable, method_in}
use Rattle.well_typed.specs.Claim.{Holds}
use Rattle.well_typed.specs.Items.{stands_alone}
use Rattle.well_typed.specs.Nodes.{is_closure_body}
use Rattle.well_typed.specs.Program.{WellTyped, are_params}
use Rattle.well_typed.specs.Types as types
use Rattle.soundness_values.proofs.Behind.{names_it}
use Rattle.soundness_values.proofs.Checks.{head_of}
use Rattle.soundness_values.proofs.ClaimParts.{numbered_got, there_is, all_got}
use Rattle.soundness_values.proofs.MethodHeads.{methods_of}
use Rattle.soundness_values.proofs.OnceByPass.{is_reference_at, protected}
use Rattle.soundness.proofs.PassClosurePlain.{some_at, closure_plain}
use Rattle.soundness_cells.proofs.PassCells.{NodeIn}
use Rattle.soundness_cells.proofs.PassCellTypes as facts
use Rattle.soundness_cells.proofs.PassNumbers.{Rises}
use Rattle.soundness.proofs.PassProtectArgs.{ArgOk, ArgsOk}
use Rattle.soundness.proofs.PassProtectLaw.{Param, protected_param, passed_kept, first_passed, rest_passed, mapped_in}
use Rattle.soundness_values.proofs.Virtual.{a_reference, Method}

all_members : {A : Type 0} (test : A → Bool) (l : List A) → ((x : A) → Contains l x → test x ≡ true) →
    list_all test l ≡ true
all_members test [] f = refl
all_members {A = A} test (x ∷ l) f = both_true (f x (zero, (let h : 0 < length (x ∷ l) = omega arith in h), refl))
    (all_members test l (λ y c. f y (tail y c)))
  where
    tail : (y : A) → Contains l y → Contains (x ∷ l) y
    tail y (k, m, e) = (suc k, (let h : suc k < length (x ∷ l) = omega (arith, m) in h), e)

-- one that is kept comes from one of the list
from_some : {A B : Type 0} (f : A → Option B) (l : List A) (y : B) → Contains (filter_map f l) y →
    (k : ℕ) × ((x : A) × ((slice_get l k ≡ Some x) × (f x ≡ Some y)))
from_some f [] y (k, l, e) = let never : ⊥ = omega (arith, l) in absurd never
from_some {A = A} {B = B} f (x ∷ l) y c = by (f x) refl c (λ d. from_some f l y d)
  where
    Found : List A → Type 0
    Found l = (k : ℕ) × ((z : A) × ((slice_get l k ≡ Some z) × (f z ≡ Some y)))

    later_one : Found l → Found (x ∷ l)
    later_one r = (suc r.0, (r.1.0, r.1.1))

    by : (o : Option B) → f x ≡ o → Contains (cons_option o (filter_map f l)) y →
        (Contains (filter_map f l) y → Found l) → Found (x ∷ l)
    by None e c later = later_one (later c)
    by (Some z) e (zero, m, s) later = (0, (x, (refl, e ∙ ap Some s)))
    by (Some z) e (suc k, m, s) later =
        later_one (later (k, (let h : k < length (filter_map f l) = omega (arith, m) in h), s))

module _ (p : ProgramTree) (typed : WellTyped p) (n : ℕ) (b : BodyTree) (at : slice_get p.bodies n ≡ Some b)
    (own : b.number ≡ n) (sig : Sig) (there : slice_get p.items.bodies n ≡ Some sig)
    (params : Holds (are_params p.items sig.params b.params)) (rise : Rises (nodes_of b.block)) where
  abbrev Ok : List ℕ → ℕ → TyId → Node → Type 0
  Ok = ArgOk p.items b (protected p) n rise

  abbrev AllOk : List ℕ → ℕ → List TyId → Nodes → Type 0
  AllOk = ArgsOk p.items b (protected p) n rise

  -- each body that is called has references where these types are
  abbrev References : CalledBody → List TyId → Type 0
  References callee tys = (c : ℕ) → Contains (bodies_of p.items callee) c → (k : ℕ) (id : TyId) →
      slice_get tys k ≡ Some id → is_reference (type_at p.items id) ≡ true → is_reference_at p.items c k ≡ true

  module _ (callee : CalledBody) (tys : List TyId) (refs : References callee tys) (call : Node) (from : Pos)
      (inside : NodeIn (nodes_of b.block) call) (args : Nodes)
      (passes : (key : ℕ) → passings_of key call ≡ map (passing from callee) (numbers_for key 0 args)) where
    one_ok : (k : ℕ) (id : TyId) (first : Node) → slice_get tys k ≡ Some id →
        ((key : ℕ) → passes_key first ≡ Some key → Contains (numbers_for key 0 args) k) →
        Ok (bodies_of p.items callee) k id first
    one_ok k id first e number key pass protects r = all_members (λ c. protected p c (suc k)) (bodies_of p.items callee)
        (λ c i. both_true (refs c i k id e r)
        (ap not (passed_kept p n b at own sig there params key
        (protected_param p n b at own sig there params key (Rattle.src_meaning.specs.Locals.OfBody.local_of p.items b
        key) refl protects) call
        (passing from callee k) c inside
        (subst (λ l. Contains l (passing from callee k)) (sym (passes key))
        (mapped_in (passing from callee) (numbers_for key 0 args) k (number key pass))) i)))

    all_ok : (k : ℕ) (ids : List TyId) (rest : Nodes) →
        ((j : ℕ) (id : TyId) → slice_get ids j ≡ Some id → (i : ℕ) → i ≡ k + j → slice_get tys i ≡ Some id) →
        ((key j : ℕ) → Contains (numbers_for key k rest) j → Contains (numbers_for key 0 args) j) →
        AllOk (bodies_of p.items callee) k ids rest
    all_ok k [] rest f g = tt
    all_ok k (id ∷ ids) no_node f g = tt
    all_ok k (id ∷ ids) (a_node first rest) f g = (
      one_ok k id first (f 0 id refl k (let e : k ≡ k + 0 = omega arith in e))
          (λ key pass. g key k (first_passed key k first rest pass)),
      all_ok (suc k) ids rest
          (λ j t e i same. f (suc j) t e i (let s : i ≡ k + suc j = omega (arith, same) in s))
          (λ key j c. g key j (rest_passed key k j first rest c)),
    )

    pub call_ok : AllOk (bodies_of p.items callee) 0 tys args
    call_ok = all_ok 0 tys args
        (λ j id e i same. let s : i ≡ j = omega (arith, same) in subst (λ m. slice_get tys m ≡ Some id) (sym s) e)
        (λ key j c. c)

  -- ---- what is called

  -- a function or a method by its number
  pub body_refs : (callee : ℕ) (its : Sig) → slice_get p.items.bodies callee ≡ Some its →
      References (OfBody callee) its.params
  body_refs callee its e c (zero, l, same) k id s r = subst (λ m. is_reference_at p.items m k ≡ true) same
      (ap (λ o. option_map_or (λ (x : Sig). is_reference (option_and_then (type_at p.items) (slice_get x.params k))) o
      false) e ∙ ap (λ o. is_reference (option_and_then (type_at p.items) o)) s ∙ r)
  body_refs callee its e c (suc i, l, same) k id s r =
      let never : ⊥ = omega (arith, l) in absurd never

  -- the impls of a method of a trait
  pub trait_refs : (trait_no method : ℕ) (head : List TyId × TyId) →
      head_of p.items (λ key. None) (λ key. false) trait_no method ≡ Some head →
      References (OfTrait trait_no method) head.0
  trait_refs trait_no method head e c i k id s r = of_body (from_some (method_in trait_no method) p.items.impls c i)
    where
      m : Method (setting_of p) trait_no method head.0 head.1
      m = methods_of p typed trait_no method head e

      method_is : (impl : ImplDef) (d : Bool) → (impl.trait_no == trait_no) ≡ d →
          (if d then slice_get impl.bodies method else None) ≡ Some c →
          ((impl.trait_no == trait_no) ≡ true) × (slice_get impl.bodies method ≡ Some c)
      method_is impl true h k = (h, k)
      method_is impl false h k = absurd (none-some c k)

      refers : (its : Sig) (self : TyId) (to : TyId) → its.params ≡ self ∷ m.rest →
          type_at p.items self ≡ Some (names_it m.unique to) → slice_get p.items.bodies c ≡ Some its →
          is_reference_at p.items c k ≡ true
      refers its self to ps t there =
          ap (λ o. option_map_or (λ (x : Sig). is_reference (option_and_then (type_at p.items)
          (slice_get x.params k))) o
          false) there
          ∙ ap (λ l. is_reference (option_and_then (type_at p.items) (slice_get l k))) ps
          ∙ by k (subst (λ l. slice_get l k ≡ Some id) m.params_are s)
        where
          by : (k : ℕ) → slice_get (m.self ∷ m.rest) k ≡ Some id →
              is_reference (option_and_then (type_at p.items) (slice_get (self ∷ m.rest) k)) ≡ true
          by zero f = ap is_reference t ∙ a_reference m.unique to
          by (suc j) f = ap (λ o. is_reference (option_and_then (type_at p.items) o)) f ∙ r

      of_body : (impl_no : ℕ) × ((impl : ImplDef) × ((slice_get p.items.impls impl_no ≡ Some impl)
          × (method_in trait_no method impl ≡ Some c))) → is_reference_at p.items c k ≡ true
      of_body (impl_no, (impl, (g, h))) =
          let q = method_is impl (impl.trait_no == trait_no) refl h in
          let body = m.of_impl impl_no impl g q.0 in
          let same : body.body ≡ c = same_Some body.body c (sym body.there ∙ q.1) in
          refers body.sig body.self body.of body.params_are body.self_is
          (subst (λ x. slice_get p.items.bodies x ≡ Some body.sig) same body.sig_is)

  pub closure_ok : (callee : ℕ) (its : Sig) → slice_get p.items.bodies callee ≡ Some its →
      is_closure_body p.items callee ≡ true → (args : Nodes) → AllOk (callee ∷ []) 0 its.params args
  closure_ok callee its e c args = none_ok 0 its.params args (closure_plain p typed callee its e c)
    where
      none_ok : (k : ℕ) (ids : List TyId) (rest : Nodes) → ((id : TyId) (j : ℕ) → slice_get ids j ≡ Some id →
          is_reference (type_at p.items id) ≡ false) → AllOk (callee ∷ []) k ids rest
      none_ok k [] rest f = tt
      none_ok k (id ∷ ids) no_node f = tt
      none_ok k (id ∷ ids) (a_node first rest) f = (
        λ key pass protects r. absurd (false≢true (sym (f id 0 refl) ∙ r)),
        none_ok (suc k) ids rest (λ t j s. f t (suc j) s),
      )
