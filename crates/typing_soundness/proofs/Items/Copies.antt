-- Structs and enums that derive `Copy`.
use Rattle.std.proofs.Common.{◌≡◌, ℕ, suc, ◌+◌, Bool, true, false, ◌&&◌, ◌||◌, not, List, [], ◌∷◌, ◌++◌, slice_get, Some, Result, Ok, Err, IsTrue, refl, ap, sym, subst, ◌∙◌, arith}
use Rattle.std.specs.Prelude.{codes, is_some}
use Rattle.std.specs.List.{list_all, filter_map}
use Rattle.std.proofs.lemmas.Bool.{false≢true}
use Rattle.mir_base.specs.declared.place_in_text.Pos.{Pos}
use Rattle.mir_base.specs.declared.rule.Rule.{Rule}
use Rattle.mir_ty.specs.declared.adt.Adt.{Adt}
use Rattle.mir_ty.specs.declared.adt.Variant.{Variant}
use Rattle.mir_ty.specs.declared.ty.Ty.{Ty}
use Rattle.mir_ty.specs.declared.ty.TyId.{TyId}
use Rattle.mir_ty.specs.Facts.{is_copy}
use Rattle.mir_ty.specs.ItemTable.{ItemTable}
use Rattle.mir_ty.specs.Parts.{fields_of, variants_of}
use Rattle.src_tree.specs.Layout.{Parts}
use Rattle.typed_tree.specs.Tree.{ProgramTree}
use Rattle.typing_rules.specs.Check.{TypingState, Broken, obeys, each_checked}
use Rattle.typing_rules.specs.Collected as rules
use Rattle.typing_rules.specs.Items.{ItemSyn, items_of, item_syns, body_paths}
use Rattle.typing_rules.specs.Promises.{AreReady, Extends, IsAlone, IsReady, IsThere, IsValueType}
use Rattle.typing_rules.specs.Written.{number_of}
use Rattle.typing_rules.proofs.Sound.Later.{same_copy}
use Rattle.src_ast.specs.Syntax.{Word, Named, Syn, syn, AnItem, StructItem, EnumItem}
use Rattle.typing_soundness.specs.Heads.{IsAdtOf, AreAdtsOf}
use Rattle.typing_soundness.specs.Items.{may_be_copy}
use Rattle.typing_soundness.specs.Program.{IsAccepted}
use Rattle.typing_soundness.specs.Walks.{Walked}
use Rattle.typing_soundness.proofs.Bodies.Program.{bodies_typed}
use Rattle.typing_soundness.proofs.Items.Accepting.{are_collected}
use Rattle.typing_soundness.proofs.Items.Collected.{all_adts, adts_in}
use Rattle.typing_soundness.proofs.Items.Headed.{heads_of_text, ok_same, no_ok}
use Rattle.typing_soundness.proofs.Items.Ready.{All, all_at}
use Rattle.typing_soundness.proofs.Walking.Lawful.{whatever}
use Rattle.typing_soundness.proofs.Walking.Steps.{walk, walk_map, walk_obeyed, walk_ends}

-- ---- what is asked at the end of the collection

abbrev pub Derived : Type 0
Derived = List (Pos × List Named)

abbrev pub AreDerived : ItemTable → List Word → ℕ → Derived → Type 0
AreDerived items dropped n [] = Unit {0}
AreDerived items dropped n (a ∷ as_) =
    IsTrue (rules.may_derive items dropped a.1 (slice_get items.adts n)) × AreDerived items dropped (suc n) as_

pub all_derived : (dropped : List Word) (n : ℕ) (as_ : Derived) (s : TypingState) → Walked (λ _ t. (t.items ≡ s.items) ×
    AreDerived s.items dropped n as_) (rules.all_derive dropped n as_ s)
all_derived dropped n [] s = walk_ends (refl, tt)
all_derived dropped n (a ∷ as_) s =
    walk_obeyed Rule.T10 a.0 (rules.may_derive s.items dropped a.1 (slice_get s.items.adts n)) _ λ h. walk_map
    (all_derived
    dropped (suc n) as_ s) λ _ t k. (k.0, (h, k.1))

abbrev pub derived_in : List ItemSyn → Derived
derived_in is = filter_map rules.adt_item (item_syns is)

collecting_derived : (is : List ItemSyn) (end : Pos) (s : TypingState) → Walked (λ _ t. AreDerived t.items
    (rules.drop_owners is) 0
    (derived_in is))
    (rules.collecting is end s)
collecting_derived is end s =
    walk (whatever {P = Unit {0}} (rules.names_differ (filter_map rules.item_name (item_syns is)) [] s) tt) λ _ t _. walk
    (whatever {P = Unit {0}} (rules.heads_collected (rules.known_of is) (record { outer = []; in_outer = 0; closures = 0 })
    is t) tt) λ _ u _. walk (whatever {P = Unit {0}} (each_checked (rules.impl_of (rules.known_of is)) (item_syns is) u) tt)
    λ _ v _. walk (whatever {P = Unit {0}} (rules.all_finite 0 (derived_in is) v) tt) λ _ w _. walk (all_derived
    (rules.drop_owners is) 0 (derived_in is) w) λ _ x h. walk_map (ends (is_some (number_of (body_paths is) (codes
    "main"))) x) λ _ y e. subst (λ items. AreDerived items
    (rules.drop_owners is) 0 (derived_in is)) (sym (e ∙ h.0)) h.1
  where
    ends : (b : Bool) (x : TypingState) → Walked (λ _ y. y.items ≡ x.items) (obeys Rule.T01 end b x)
    ends true x = walk_ends refl
    ends false x = record { so = tt }

-- ---- structs and enums alone

derived_with : (i : Syn) (is : List ItemSyn) → filter_map rules.adt_item (all_adts is) ≡ derived_in is → filter_map
    rules.adt_item (adts_in i ++ all_adts is) ≡ filter_map rules.adt_item (i ∷ item_syns is)
derived_with (syn at (AnItem (StructItem ds name kind fields))) is e = ap (λ as_. (at, ds) ∷ as_) e
derived_with (syn at (AnItem (EnumItem ds name variants))) is e = ap (λ as_. (at, ds) ∷ as_) e
derived_with (syn at _) is e = e

pub derived_of_text : (is : List ItemSyn) → filter_map rules.adt_item (all_adts is) ≡ derived_in is
derived_of_text [] = refl
derived_of_text (i ∷ is) = derived_with i.item is (derived_of_text is)

-- ---- one struct or enum

only_copies : (copy clone rest : Bool) → IsTrue (not copy || (clone && rest)) → IsTrue (not copy || rest)
only_copies true true rest h = h
only_copies true false rest h = absurd (cc)
only_copies false clone rest h = refl

-- what has no impl of `Drop` has no `drop` body either
without_body : (copy clone body owned rest : Bool) → IsTrue (not copy || (clone && (not (body || owned) && rest))) →
    IsTrue
    (not copy || (clone && (not body && rest)))
without_body true true true owned rest h = h
without_body true true false true rest h = absurd (false≢true h)
without_body true true false false rest h = h
without_body true false body owned rest h = h
without_body false clone body owned rest h = refl

one_copies : (items : ItemTable) (dropped : List Word) (ds : List Named) (adt : Adt) → adt.copy ≡ rules.derives (codes
    "Copy") ds → IsTrue (rules.may_derive items dropped ds (Some adt)) → IsTrue (may_be_copy items adt)
one_copies items dropped ds adt e h =
    let parts = list_all (λ v. list_all (is_copy items) v.fields) adt.variants in
    let rest = not (is_some adt.drop_body) && parts in
    ap (λ b. not b || rest) e ∙ only_copies (rules.derives (codes "Copy") ds) (rules.derives (codes "Clone") ds) rest
    (without_body (rules.derives (codes "Copy") ds) (rules.derives (codes "Clone") ds) (is_some adt.drop_body) (is_some
    (number_of dropped adt.name)) parts h)

module _ (items : ItemTable) (dropped : List Word) where
  adt_copies : (n : ℕ) (i : Syn) (is : List Syn) (adt : Adt) → IsAdtOf i adt → slice_get items.adts n ≡ Some adt →
      AreDerived items dropped n (filter_map rules.adt_item (i ∷ is)) → IsTrue (may_be_copy items adt) × AreDerived
      items
      dropped (suc n) (filter_map rules.adt_item is)
  adt_copies n (syn at (AnItem (StructItem ds name kind fields))) is adt are at_n h = (
    one_copies items dropped ds adt are.4.2 (subst (λ o. IsTrue (rules.may_derive items dropped ds o)) at_n h.0),
    h.1,
  )
  adt_copies n (syn at (AnItem (EnumItem ds name variants))) is adt are at_n h =
      (one_copies items dropped ds adt are.3 (subst (λ o. IsTrue (rules.may_derive items dropped ds o)) at_n h.0), h.1)
  adt_copies n (syn at _) is adt are at_n h = absurd are

  adts_copy : (n : ℕ) (is : List Syn) (adts : List Adt) → AreAdtsOf is adts → ((k : ℕ) (adt : Adt) → slice_get adts k ≡
      Some adt → slice_get items.adts (n + k) ≡ Some adt) → AreDerived items dropped n (filter_map rules.adt_item is) →
      All (λ adt. IsTrue (may_be_copy items adt)) adts
  adts_copy n [] [] are at_n h = tt
  adts_copy n [] (adt ∷ adts) are at_n h = absurd are
  adts_copy n (i ∷ is) [] are at_n h = absurd are
  adts_copy n (i ∷ is) (adt ∷ adts) are at_n h =
      let one = adt_copies n i is adt are.0 (ap (slice_get items.adts) (omega arith) ∙ at_n 0 adt refl) h in (
        one.0,
        adts_copy (suc n) is adts are.1 (λ k x e. ap (slice_get items.adts) (omega arith) ∙ at_n (suc k) x e) one.1,
      )

-- ---- among more types

same_all : {A : Type 0} (f g : A → Bool) (xs : List A) → ((k : ℕ) (x : A) → slice_get xs k ≡ Some x → f x ≡ g x) →
    list_all f xs ≡ list_all g xs
same_all f g [] h = refl
same_all f g (x ∷ xs) h =
    ap (λ b. b && list_all f xs) (h 0 x refl) ∙ ap (λ b. g x && b) (same_all f g xs (λ k y is. h (suc k) y is))

there : (items : ItemTable) (id : TyId) → IsAlone items id → IsReady items id
there items id h = (h.0, h.1, by h.0 h.2)
  where
    by : (ty : Ty) → IsValueType items ty → IsThere items ty
    by (Ty.Closure n) k = k
    by _ k = tt

module _ (parts : Parts Pos) (items : ItemTable) (p : ProgramTree) (h : IsAccepted parts items p) where
  extends : Extends items p.items
  extends = (bodies_typed parts items p (are_collected parts items p h) h.checked).0

  ready : AreReady items
  ready = (are_collected parts items p h).ready

  abbrev dropped : List Word
  dropped = rules.drop_owners (items_of parts)

  derived : AreDerived items dropped 0 (derived_in (items_of parts))
  derived = by _ (collecting_derived (items_of parts) h.end (rules.starting_with rules.no_items)) h.collected
    where
      by : (r : Result (Unit {0} × TypingState) Broken) → Walked (λ _ t. AreDerived t.items dropped 0
          (derived_in (items_of parts))) r → rules.items_in r ≡ Ok items → AreDerived items dropped 0 (derived_in (items_of parts))
      by (Ok a) w e = subst (λ i. AreDerived i dropped 0 (derived_in (items_of parts))) (ok_same a.1.items items e) w.so
      by (Err x) w e = absurd (no_ok x e)

  collected_copies : All (λ adt. IsTrue (may_be_copy items adt)) items.adts
  collected_copies =
      adts_copy items dropped 0 (all_adts (items_of parts)) items.adts (heads_of_text parts h.end items
      h.collected).adts (λ k adt
      is. ap (slice_get items.adts) (omega arith) ∙ is) (subst (AreDerived items dropped 0) (sym (derived_of_text
      (items_of
      parts))) derived)

  pub text_copies : (n : ℕ) (adt : Adt) → slice_get p.items.adts n ≡ Some adt → IsTrue (may_be_copy p.items adt)
  text_copies n adt is =
      let at_n : slice_get items.adts n ≡ Some adt = ap (λ as_. slice_get as_ n) (sym extends.adts) ∙ is in
      let same = same_all (λ (v : Variant). list_all (is_copy p.items) v.fields) (λ (v : Variant). list_all (is_copy items)
      v.fields) adt.variants (λ m v at_m. same_all (is_copy p.items) (is_copy items) v.fields (λ k id at_k. same_copy extends
      ready id (there items id (ready.fields n m k id (ap (λ o. slice_get (fields_of (slice_get (variants_of o) m)) k) at_n
      ∙ ap (λ o. slice_get (fields_of o) k) at_m ∙ at_k))))) in
      ap (λ b. not adt.copy || (not (is_some adt.drop_body) && b)) same ∙ all_at (λ x. IsTrue (may_be_copy items x))
      items.adts n adt collected_copies at_n
