-- The methods of the traits of a well typed program: each begins with a reference to its own trait object, and the body
-- of an impl has the same head, with a reference to the struct or enum of the impl.
use Rattle.std.proofs.Common.{◌≡◌, ℕ, zero, suc, ◌==◌, ◌&&◌, not, Bool, true, false, List, [], ◌∷◌, Option, Some, None, if◌then◌else◌, refl, ap, sym, ◌∙◌, subst}
use Rattle.std.specs.Prelude.{slice_get, option_and_then}
use Rattle.std.specs.Cmp.{first_so, second_so}
use Rattle.std.specs.Option.{option_map_or}
use Rattle.std.proofs.lemmas.Bool.{false≢true}
use Rattle.std.proofs.lemmas.Bool.Decides.{Decides-eqb}
use Rattle.std.proofs.lemmas.Option.{none-some}
use Rattle.mir_ty.specs.declared.def.ImplDef.{ImplDef}
use Rattle.mir_ty.specs.declared.def.Sig.{Sig}
use Rattle.mir_ty.specs.declared.def.TraitDef.{TraitDef}
use Rattle.mir_ty.specs.declared.ty.Ty.{Ty}
use Rattle.mir_ty.specs.declared.ty.TyId.{TyId}
use Rattle.mir_ty.specs.ItemTable.{ItemTable, type_at}
use Rattle.src_meaning.specs.Programs.{setting_of}
use Rattle.typed_tree.specs.Tree.{ProgramTree}
use Rattle.well_typed.specs.Claim.{Claim, Holds, fact, some, nothing, ◌&◌}
use Rattle.well_typed.specs.Items.{is_method, are_same_params, implements_head}
use Rattle.well_typed.specs.Program.{WellTyped}
use Rattle.well_typed.specs.Types.{is_same, are_same, adt_of, trait_of, reference_of}
use Rattle.soundness_values.proofs.Behind.{names_it}
use Rattle.soundness_values.proofs.Checks.{head_of}
use Rattle.soundness_values.proofs.ClaimParts.{some_is, each_got, numbered_got, there_is, same_ty, same_tys, adt_is, dyn_is, is_numbered, Refers, refers_to, unique_so}
use Rattle.soundness_values.proofs.Virtual.{Body, Method}

module _ (items : ItemTable) where
  -- one body for each method of a trait, in their order
  abbrev ImplementsAll : ℕ → List ℕ → List Sig → List ℕ → Claim
  ImplementsAll adt name [] [] = nothing
  ImplementsAll adt name (method ∷ methods) (body ∷ bodies) =
      some (slice_get items.bodies body) (implements_head items adt name method) & ImplementsAll adt name methods bodies
  ImplementsAll adt name _ _ = fact false

  record Implements (adt : ℕ) (method : Sig) (bodies : List ℕ) (n : ℕ) : Type 0 where
    pub body : ℕ
    pub there : slice_get bodies n ≡ Some body
    pub sig : Sig
    pub sig_is : slice_get items.bodies body ≡ Some sig
    pub params : are_same_params items adt method.params sig.params ≡ true
    pub result : is_same method.result sig.result ≡ true

  implements_one : (adt : ℕ) (name : List ℕ) (methods : List Sig) (bodies : List ℕ) →
      Holds (ImplementsAll adt name methods bodies) → (n : ℕ) (method : Sig) → slice_get methods n ≡ Some method →
      Implements adt method bodies n
  implements_one adt name [] [] h n method e = absurd (none-some method e)
  implements_one adt name [] (body ∷ bodies) h n method e = absurd (none-some method e)
  implements_one adt name (m ∷ methods) [] h n method e = absurd (false≢true h)
  implements_one adt name (m ∷ methods) (body ∷ bodies) h zero method e =
      let it = there_is (slice_get items.bodies body) (implements_head items adt name m) h.0 in
      subst (λ (x : Sig). Implements adt x (body ∷ bodies) 0) (some_is e) (record {
        body = body;
        there = refl;
        sig = it.0;
        sig_is = it.1.0;
        params = first_so (are_same_params items adt m.params it.0.params) (is_same m.result it.0.result) it.1.1.1;
        result = second_so (are_same_params items adt m.params it.0.params) (is_same m.result it.0.result) it.1.1.1;
      })
  implements_one adt name (m ∷ methods) (body ∷ bodies) h (suc n) method e =
      let it = implements_one adt name methods bodies h.1 n method e in
      record {
        body = it.body;
        there = it.there;
        sig = it.sig;
        sig_is = it.sig_is;
        params = it.params;
        result = it.result;
      }

  -- the parameters of such a body: its own `self`, and those of the method
  record SameParams (adt : ℕ) (unique : Bool) (rest params : List TyId) : Type 0 where
    pub self : TyId
    pub params_are : params ≡ self ∷ rest
    pub of : TyId
    pub self_is : type_at items self ≡ Some (names_it unique of)
    pub of_is : type_at items of ≡ Some (Ty.Adt adt)

  same_truth : (a b : Bool) → (if a then b else not b) ≡ true → b ≡ a
  same_truth true b h = h
  same_truth false true h = absurd (false≢true h)
  same_truth false false h = refl

  same_params : (adt : ℕ) (unique : Bool) (object self : TyId) (rest params : List TyId) →
      type_at items self ≡ Some (names_it unique object) → are_same_params items adt (self ∷ rest) params ≡ true →
      SameParams adt unique rest params
  same_params adt unique object self rest [] e h = absurd (false≢true h)
  same_params adt unique object self rest (own ∷ others) e h = by (refers_to items (adt_of items) adt own (first_so
      (option_map_or (is_numbered items (adt_of items) adt) (reference_of items own) false) _ h))
    where
      is_unique : TyId → Bool
      is_unique id = option_map_or (λ (r : Bool × TyId). r.0) (reference_of items id) false

      more : ((if is_unique self then is_unique own else not (is_unique own)) && are_same rest others) ≡ true
      more = second_so (option_map_or (is_numbered items (adt_of items) adt) (reference_of items own) false) _ h

      by : Refers items (adt_of items) adt own → SameParams adt unique rest (own ∷ others)
      by r = record {
        self = own;
        params_are = ap (λ l. own ∷ l)
            (sym (same_tys rest others
            (second_so (if is_unique self then is_unique own else not (is_unique own)) (are_same rest others) more)));
        of = r.to;
        self_is = r.is_reference ∙ ap (λ b. Some (names_it b r.to))
            (sym (unique_so items r.unique r.to own r.is_reference)
            ∙ same_truth (is_unique self) (is_unique own)
            (first_so (if is_unique self then is_unique own else not (is_unique own)) (are_same rest others) more)
            ∙ unique_so items unique object self e);
        of_is = adt_is items r.to adt r.is_number;
      }

  -- a method begins with a reference to its trait object
  abbrev BeginsWithSelf : ℕ → List TyId → Bool
  BeginsWithSelf n [] = false
  BeginsWithSelf n (ty ∷ tys) = option_map_or (is_numbered items (trait_of items) n) (reference_of items ty) false

  record SelfFirst (trait_no : ℕ) (params : List TyId) : Type 0 where
    pub unique : Bool
    pub self : TyId
    pub object : TyId
    pub rest : List TyId
    pub params_are : params ≡ self ∷ rest
    pub self_is : type_at items self ≡ Some (names_it unique object)
    pub object_is : type_at items object ≡ Some (Ty.Dyn trait_no)

  begins : (n : ℕ) (params : List TyId) → BeginsWithSelf n params ≡ true → SelfFirst n params
  begins n [] h = absurd (false≢true h)
  begins n (self ∷ rest) h = let r = refers_to items (trait_of items) n self h in record {
    unique = r.unique;
    self = self;
    object = r.to;
    rest = rest;
    params_are = refl;
    self_is = r.is_reference;
    object_is = dyn_is items r.to n r.is_number;
  }

  self_first : (n : ℕ) (sig : Sig) → Holds (is_method items n sig) → SelfFirst n sig.params
  self_first n sig h = begins n sig.params h.1.0

  -- a head that is found
  record HeadThere (trait_no method : ℕ) (head : List TyId × TyId) : Type 0 where
    pub def : TraitDef
    pub def_is : slice_get items.traits trait_no ≡ Some def
    pub sig : Sig
    pub sig_is : slice_get def.methods method ≡ Some sig
    pub head_is : head ≡ (sig.params, sig.result)

  head_there : (trait_no method : ℕ) (head : List TyId × TyId) →
      head_of items (λ key. None) (λ key. false) trait_no method ≡ Some head → HeadThere trait_no method head
  head_there trait_no method head e = by (slice_get items.traits trait_no) refl e
    where
      of_sig : (def : TraitDef) → slice_get items.traits trait_no ≡ Some def → (o : Option Sig) →
          slice_get def.methods method ≡ o →
          option_map_or (λ (sig : Sig). Some (sig.params, sig.result)) o None ≡ Some head →
          HeadThere trait_no method head
      of_sig def d None s k = absurd (none-some head k)
      of_sig def d (Some sig) s k =
          record { def = def; def_is = d; sig = sig; sig_is = s; head_is = sym (some_is k) }

      by : (o : Option TraitDef) → slice_get items.traits trait_no ≡ o →
          option_and_then (λ (def : TraitDef). option_map_or (λ (sig : Sig). Some (sig.params, sig.result))
          (slice_get def.methods method) None) o ≡ Some head → HeadThere trait_no method head
      by None d k = absurd (none-some head k)
      by (Some def) d k = of_sig def d (slice_get def.methods method) refl k

module _ (p : ProgramTree) (typed : WellTyped p) where
  abbrev table : ItemTable
  table = p.items

  of_impl : (trait_no method : ℕ) (head : List TyId × TyId) (t : HeadThere table trait_no method head)
      (s : SelfFirst table trait_no t.sig.params) (impl_no : ℕ) (impl : ImplDef) →
      slice_get table.impls impl_no ≡ Some impl → (impl.trait_no == trait_no) ≡ true →
      Body (setting_of p) s.unique s.rest method t.sig.result impl
  of_impl trait_no method head t s impl_no impl e same =
      let claim = each_got _ table.impls impl_no impl typed.0.1.1.1.0 e in
      let tr = there_is (slice_get table.traits impl.trait_no) _ claim in
      let adt = there_is (slice_get table.adts impl.adt) _ tr.1.1 in
      let is_trait : impl.trait_no ≡ trait_no = (Decides-eqb impl.trait_no trait_no).0 same in
      let is_def : tr.0 ≡ t.def = some_is (sym tr.1.0 ∙ ap (slice_get table.traits) is_trait ∙ t.def_is) in
      let it = implements_one table impl.adt adt.0.name tr.0.methods impl.bodies adt.1.1 method t.sig
      (ap (λ (x : TraitDef). slice_get x.methods method) is_def ∙ t.sig_is) in
      let params = same_params table impl.adt s.unique s.object s.self s.rest it.sig.params s.self_is
      (subst (λ l. are_same_params table impl.adt l it.sig.params ≡ true) s.params_are it.params) in
      record {
        body = it.body;
        there = it.there;
        sig = it.sig;
        sig_is = it.sig_is;
        result_is = sym (same_ty t.sig.result it.sig.result it.result);
        self = params.self;
        params_are = params.params_are;
        of = params.of;
        self_is = params.self_is;
        of_is = params.of_is;
      }

  -- the methods of traits
  pub methods_of : (trait_no method : ℕ) (head : List TyId × TyId) →
      head_of table (λ key. None) (λ key. false) trait_no method ≡ Some head →
      Method (setting_of p) trait_no method head.0 head.1
  methods_of trait_no method head e =
      let t = head_there table trait_no method head e in
      let claim = numbered_got _ table.traits trait_no t.def typed.0.1.1.0 t.def_is in
      let s = self_first table trait_no t.sig (each_got _ t.def.methods method t.sig claim.0 t.sig_is) in
      subst (λ (h : List TyId × TyId). Method (setting_of p) trait_no method h.0 h.1) (sym t.head_is) (record {
        unique = s.unique;
        self = s.self;
        object = s.object;
        rest = s.rest;
        params_are = s.params_are;
        self_is = s.self_is;
        object_is = s.object_is;
        of_impl = of_impl trait_no method head t s;
      })
