-- The body that a call by a trait object runs: it is one that the tests of protected parameters looked at, it may be run,
-- and what its references name is what those of the method name.
use Rattle.std.proofs.Common.{◌≡◌, ℕ, zero, suc, Bool, true, List, [], ◌∷◌, Option, Some, None, if◌then◌else◌, refl, ap, sym, ◌∙◌, subst}
use Rattle.std.specs.Prelude.{slice_get, option_and_then}
use Rattle.std.specs.List.{list_all, filter_map}
use Rattle.std.proofs.lemmas.Bool.Decides.{Decides-eqb}
use Rattle.std.proofs.lemmas.Option.{none-some}
use Rattle.mir_ty.specs.declared.def.ImplDef.{ImplDef}
use Rattle.mir_ty.specs.declared.def.Sig.{Sig}
use Rattle.mir_ty.specs.declared.ty.TyId.{TyId}
use Rattle.mir_ty.specs.ItemTable.{ItemTable, type_at}
use Rattle.store_model.specs.declared.address.Addr.{Addr}
use Rattle.store_model.specs.Values.Datum.{Datum, Address}
use Rattle.store_model.specs.Abstract.Presence.{is_present}
use Rattle.store_model.specs.Places.Place.{is_reference}
use Rattle.store_model.specs.Places.TypeForms.{is_dyn_of}
use Rattle.store_model.specs.Concrete.Effects as values
use Rattle.store_model.specs.Concrete.Effects.{virtual_body, object_body}
use Rattle.store_model.specs.Concrete.Location.{Setting, OfType, Located}
use Rattle.store_model.specs.Concrete.State.{State}
use Rattle.typing_rules.specs.Replaced.{OfTrait, bodies_of, method_in}
use Rattle.soundness_values.proofs.Behind.{names_it}
use Rattle.soundness_values.proofs.Contracts.{targets_of, AllAlone, MayRun}
use Rattle.soundness_values.proofs.Facts.{Each}
use Rattle.soundness_values.proofs.Forms.{address_of}
use Rattle.soundness_values.proofs.Known.{Target, StandsFor}
use Rattle.soundness_values.proofs.Taking.{first, second}
use Rattle.soundness_values.proofs.Virtual.{Method, object_of, self_stands, first_target, a_reference}

abbrev cons_option : Option ℕ → List ℕ → List ℕ
cons_option None l = l
cons_option (Some n) l = n ∷ l

-- what holds of all that is given by some of a list
all_given : {A : Type 0} (f : A → Option ℕ) (q : ℕ → Bool) (l : List A) (n : ℕ) (x : A) (y : ℕ) →
    list_all q (filter_map f l) ≡ true → slice_get l n ≡ Some x → f x ≡ Some y → q y ≡ true
all_given f q [] n x y h e g = absurd (none-some x e)
all_given f q (z ∷ l) zero x y h e g =
    first (q y) (list_all q (filter_map f l)) (subst (λ o. list_all q (cons_option o (filter_map f l)) ≡ true)
    (ap f (some_same e) ∙ g) h)
  where
    some_same : {A : Type 0} {a b : A} → Some a ≡ Some b → a ≡ b
    some_same k = cc
all_given f q (z ∷ l) (suc n) x y h e g = all_given f q l n x y (by (f z) h) e g
  where
    by : (o : Option ℕ) → list_all q (cons_option o (filter_map f l)) ≡ true → list_all q (filter_map f l) ≡ true
    by None k = k
    by (Some m) k = second (q m) _ k

module _ (setting : Setting) where
  abbrev items : ItemTable
  items = setting.items

  pub record Callee (trait_no method : ℕ) (params : List TyId) (result : TyId) (ds : List Datum) (v : State) : Type 1 where
    pub body : ℕ
    pub sig : Sig
    pub sig_is : slice_get items.bodies body ≡ Some sig
    pub body_is : virtual_body setting trait_no method v ds ≡ Some body
    pub may : MayRun setting sig.params ds v
    pub among : (q : ℕ → Bool) → list_all q (bodies_of items (OfTrait trait_no method)) ≡ true → q body ≡ true
    pub same : (holds : Bool → ℕ → Addr → Type 0) →
        Each (λ (t : Target). holds t.unique t.local t.address) (targets_of items 1 params ds) →
        Each (λ (t : Target). holds t.unique t.local t.address) (targets_of items 1 sig.params ds)

  by_address : (trait_no method : ℕ) (params : List TyId) (result : TyId)
      (m : Method setting trait_no method params result) (a : Addr) (ds : List Datum) (v : State) →
      MayRun setting (m.self ∷ m.rest) (Address a ∷ ds) v →
      Callee trait_no method (m.self ∷ m.rest) result (Address a ∷ ds) v
  by_address trait_no method params result m a ds v may =
      let ts = targets_of items 2 m.rest ds in
      let are = first_target setting m.unique m.object m.self a m.rest ds m.self_is in
      let stands = subst (Each (λ t. StandsFor setting 0 t v)) are may.stands in
      let alone = subst AllAlone are may.alone in
      let s = stands.0 in
      let o = object_of setting m.object trait_no s.standing.dynamic s.standing.value m.object_is s.of_type s.by_impl
      s.whole in
      let b = m.of_impl o.impl_no o.impl o.there o.of_trait in
      let selves = first_target setting m.unique b.of b.self a m.rest ds b.self_is in
      let may_self : MayRun setting (b.self ∷ m.rest) (Address a ∷ ds) v = record {
        whole = ((refl, ap is_reference b.self_is ∙ a_reference m.unique b.of), may.whole.1);
        stands = subst (Each (λ t. StandsFor setting 0 t v)) (sym selves)
            (self_stands setting m.unique m.object b.of trait_no a v s o b.of_is, stands.1);
        alone = subst AllAlone (sym selves) (alone.0, alone.1);
      } in
      record {
        body = b.body;
        sig = b.sig;
        sig_is = b.sig_is;
        body_is = ap (option_and_then (λ (x : Located). object_body setting trait_no method x.dynamic)) s.stands
            ∙ ap (object_body setting trait_no method) o.found_so
            ∙ ap (λ (x : Option ImplDef). option_and_then
            (λ body. values.if_so (is_dyn_of trait_no (type_at items m.object))
            body) (option_and_then (λ (i : ImplDef). slice_get i.bodies method) x)) o.there
            ∙ ap (option_and_then (λ body. values.if_so (is_dyn_of trait_no (type_at items m.object)) body)) b.there
            ∙ ap (λ c. values.if_so c b.body) (ap (is_dyn_of trait_no) m.object_is
            ∙ (Decides-eqb trait_no trait_no).1 refl);
        may = subst (λ l. MayRun setting l (Address a ∷ ds) v) (sym b.params_are) may_self;
        among = λ q h. all_given (method_in trait_no method) q items.impls o.impl_no o.impl b.body h o.there
            (ap (λ c. if c then slice_get o.impl.bodies method else None) o.of_trait ∙ b.there);
        same = λ holds h. subst (λ l. Each (λ (t : Target). holds t.unique t.local t.address)
            (targets_of items 1 l (Address a ∷ ds))) (sym b.params_are)
            (subst (Each (λ (t : Target). holds t.unique t.local t.address)) (sym selves)
            (subst (Each (λ (t : Target). holds t.unique t.local t.address)) are h));
      }

  -- the body that is called
  pub callee : (trait_no method : ℕ) (params : List TyId) (result : TyId) → Method setting trait_no method params result →
      (ds : List Datum) (v : State) → MayRun setting params ds v → Callee trait_no method params result ds v
  callee trait_no method params result m ds v may =
      subst (λ l. MayRun setting l ds v → Callee trait_no method l result ds v) (sym m.params_are) (by ds) may
    where
      by : (ds : List Datum) → MayRun setting (m.self ∷ m.rest) ds v →
          Callee trait_no method (m.self ∷ m.rest) result ds v
      by [] may = absurd may.whole
      by (d ∷ ds) may =
          let a = address_of items d (OfType m.self) is_present (names_it m.unique m.object) m.self_is
          (a_reference m.unique m.object) refl may.whole.0 in
          subst (λ x. MayRun setting (m.self ∷ m.rest) (x ∷ ds) v →
          Callee trait_no method (m.self ∷ m.rest) result (x ∷ ds) v) (sym a.is_it)
          (by_address trait_no method params result m a.address ds v) may
