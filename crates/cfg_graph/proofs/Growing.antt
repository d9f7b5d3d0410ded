-- Where more is known the rules of the questions show no less.
use Rattle.std.proofs.Common.{◌≡◌, Bool, true, not, ◌&&◌, List, [], ◌∷◌}
use Rattle.std.specs.List.{list_all}
use Rattle.std.proofs.lemmas.Bool.{and_parts, and_from}
use Rattle.mir_ty.specs.declared.ty.Ty.{Ty}
use Rattle.mir_ty.specs.declared.ty.TyId.{TyId}
use Rattle.mir_ty.specs.AreItems.{types_in}
use Rattle.mir_ty.specs.ItemTable.{ItemTable, type_at}
use Rattle.mir_ty.specs.Parts.{held_by}
use Rattle.mir_ty.proofs.FixedPoint.{IsWithin, IsGrowing}
use Rattle.store_model.specs.Places.TypeForms.{is_dyn, is_adt, is_closure}
use Rattle.cfg_graph.specs.declared.type_faults.Question.{Question}
use Rattle.cfg_graph.specs.WellFormed.TypeFaults.{own_number_exists, existing, misplacing}
use Rattle.cfg_graph.specs.WellFormed.Questions.{rule_for}
use Rattle.cfg_graph.proofs.InfiniteSize.{list_any-grows, growing}

and_grows : (a b c d : Bool) → (a ≡ true → c ≡ true) → (b ≡ true → d ≡ true) → (a && b) ≡ true → (c && d) ≡ true
and_grows a b c d ac bd h = let p = and_parts a b h in and_from c d (ac p.0) (bd p.1)

list_all-grows : {X : Type 0} (P Q : X → Bool) → ((x : X) → P x ≡ true → Q x ≡ true) → (xs : List X) → list_all P xs ≡ true → list_all Q xs ≡ true
list_all-grows P Q sub [] h = h
list_all-grows P Q sub (x ∷ xs) h = and_grows (P x) (list_all P xs) (Q x) (list_all Q xs) (sub x) (list_all-grows P Q sub xs) h

module _ (items : ItemTable) where
  existing-growing : IsGrowing (existing items)
  existing-growing = record {
    grows = λ P Q sub ty h. and_grows (own_number_exists items ty) (list_all P (types_in ty)) (own_number_exists items ty) (list_all Q (types_in ty)) (λ e. e) (list_all-grows P Q sub (types_in ty)) h;
  }

  misplaces_more : (P Q : TyId → Bool) → IsWithin P Q → (ty : Ty) → misplacing items P ty ≡ true → misplacing items Q ty ≡ true
  misplaces_more P Q sub (Ty.Dyn n) h = h
  misplaces_more P Q sub (Ty.Boxed to) h = and_grows (not (is_dyn (type_at items to))) (P to) (not (is_dyn (type_at items to))) (Q to) (λ e. e) (sub to) h
  misplaces_more P Q sub (Ty.Shared to) h = and_grows (not (is_dyn (type_at items to))) (P to) (not (is_dyn (type_at items to))) (Q to) (λ e. e) (sub to) h
  misplaces_more P Q sub (Ty.Unique to) h = and_grows (not (is_dyn (type_at items to))) (P to) (not (is_dyn (type_at items to))) (Q to) (λ e. e) (sub to) h
  misplaces_more P Q sub (Ty.Tuple parts) h = list_any-grows P Q sub parts h
  misplaces_more P Q sub (Ty.Array element count) h = list_any-grows P Q sub (element ∷ []) h
  misplaces_more P Q sub _ h = h

  pub rule_for-growing : (question : Question) → IsGrowing (rule_for items question)
  rule_for-growing Question.Exists = existing-growing
  rule_for-growing Question.MisplacesDyn = record { grows = misplaces_more }
  rule_for-growing Question.IsFinite = record { grows = λ P Q sub ty h. list_all-grows P Q sub (held_by items ty) h }
  rule_for-growing (Question.HoldsAdt n) = growing items (is_adt n)
  rule_for-growing (Question.HoldsClosure n) = growing items (is_closure n)
