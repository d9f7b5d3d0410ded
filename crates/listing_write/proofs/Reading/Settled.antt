-- A graph that is equal as compared to a well formed one, and whose types exist where they are written as those of that one, is well formed:
-- each test of each line has one answer.
use Rattle.std.proofs.Common.{◌≡◌, ℕ, zero, suc, ◌+◌, ◌<◌, Bool, true, false, not, ◌&&◌, ◌||◌, ◌==◌, if◌then◌else◌, List, [], ◌∷◌, ◌++◌, map, flat_map, take, zip, length, codes, Option, Some, None, is_some, nat_lt, slice_get, refl, ap, sym, subst, ◌∙◌, arith, lt-ltb}
use Rattle.std.specs.Prelude.{option_map}
use Rattle.std.specs.List.{list_all, list_any}
use Rattle.std.specs.Option.{option_map_or}
use Rattle.std.specs.Cmp.Lexicographic.{pointwise}
use Rattle.std.proofs.lemmas.Bool.{and_parts, and_from, false≢true}
use Rattle.std.proofs.lemmas.Option.{none-some, same_Some, slice_get-map, slice_get_within}
use Rattle.std.proofs.lemmas.List.Folds.{list_all-map}
use Rattle.mir_ty.specs.declared.ty.Ty.{Ty}
use Rattle.mir_ty.specs.declared.ty.TyId.{TyId}
use Rattle.mir_ty.specs.declared.adt.Adt.{Adt}
use Rattle.mir_ty.specs.declared.adt.Variant.{Variant}
use Rattle.mir_ty.specs.declared.def.Sig.{Sig}
use Rattle.mir_ty.specs.declared.def.TraitDef.{TraitDef}
use Rattle.mir_ty.specs.declared.def.ImplDef.{ImplDef}
use Rattle.mir_ty.specs.declared.def.ClosureDef.{ClosureDef}
use Rattle.mir_ty.specs.AreItems.{AreItems, AreTypes}
use Rattle.mir_ty.specs.ItemTable.{ItemTable, type_at}
use Rattle.mir_ty.specs.Parts.{captures_of}
use Rattle.store_model.specs.Places.TypeForms.{same_ids}
use Rattle.cfg_graph.specs.declared.place.Place.{Place}
use Rattle.cfg_graph.specs.declared.statement.Stmt.{Stmt}
use Rattle.cfg_graph.specs.declared.terminator.Term.{Term}
use Rattle.cfg_graph.specs.declared.graph.Block.{Block}
use Rattle.cfg_graph.specs.declared.graph.Body.{Body}
use Rattle.cfg_graph.specs.declared.graph.Graph.{Graph}
use Rattle.cfg_graph.specs.declared.graph.GraphFault.{GraphFault}
use Rattle.cfg_graph.specs.WellFormed.Broken.{broken}
use Rattle.cfg_graph.specs.WellFormed.Cleanup.{edges_lower, keeps_cleanup, keeps_to_cleanup}
use Rattle.cfg_graph.specs.WellFormed.Faults.{nowhere, at_line, of_each, of_items, item_faults, own_faults, locals_faults, stmts_faults, block_faults, faults_of_body, end_faults, main_faults, is_main, IsWellFormed}
use Rattle.cfg_graph.specs.WellFormed.ItemFaults.{field_types, types_of_sig, types_of_trait, exist, place_dyn, is_unique_adt, are_dropped, is_drop_sig, has_drop_sig, adt_has_types, adt_has_names, adt_tests, adt_faults, trait_has_names, trait_tests, trait_faults, are_selves, params_implement, sig_implements, body_implements, methods_of, impl_exists, impl_tests, impl_faults, begins_with_closure, has_closure_sig, closure_has_types, closure_tests, closure_faults}
use Rattle.cfg_graph.specs.WellFormed.LineFaults.{stmt_numbers_exist, term_numbers_exist, locals_exist, stmt_has_row, stmt_tests, stmt_faults, blocks_exist, term_tests, term_faults, local_tests, local_faults, is_sig_of, has_sig, has_own_name, body_tests, body_faults}
use Rattle.cfg_graph.specs.WellFormed.NameFaults.{same_name, is_among, is_name, is_adt_name, is_repeated, is_repeated_impl}
use Rattle.cfg_graph.specs.WellFormed.TypeFaults.{ty_exists, misplaces_dyn, adt_holds_itself, closure_holds_itself}
use Rattle.cfg_graph.specs.WellFormed.Typing.{method_at, stmt_is_typed, term_is_typed}
use Rattle.cfg_graph.specs.Edges.{targets, is_cleanup}
use Rattle.cfg_graph.specs.Places.{index_locals}
use Rattle.cfg_graph.specs.Uses.{places_of_stmt, places_of_term}
use Rattle.cfg_graph.proofs.InfiniteSize.{adt_holding-tested, closure_holding-tested}
use Rattle.cfg_graph.proofs.NoFaults.{second_empty, broken-holds}
use Rattle.listing_write.specs.Compared.{AdtSeen, SigSeen, BodySeen, VariantSeen, variant_seen, adt_seen, sig_seen, trait_seen, closure_seen, body_seen, seen, IsListed, WellFormedAsCompared}
use Rattle.listing_write.specs.Fields.{GraphFits}
use Rattle.listing_write.proofs.Reading.Basics.{Every}
use Rattle.listing_write.proofs.Reading.Listed.{all_at, found_at, adt_holds, trait_holds, impl_holds, closure_holds, own_holds, local_holds, stmt_holds, term_holds, term_exists, good_body}
use Rattle.listing_write.proofs.Reading.Alike.{TyAlike, ListsAlike, Alike, FormsAlike, shared, unique}
use Rattle.listing_write.proofs.Reading.Tested.{OptTy, OptId, unit_alike, adt_alike, closure_alike, slice_alike}
use Rattle.listing_write.proofs.Reading.Held.{misplaced_alike, none_misplaced, adt_holds_too, closure_holds_too}
use Rattle.listing_write.proofs.Reading.Typed.{SigAlike, OptSig, ItemsAlike, stmt_alike, term_alike, stmt_row_alike}
use Rattle.listing_write.proofs.Reading.Same.{WrittenExist, Both, both_at, same_length, adts_same, traits_same, impls_same, closures_same, adt_count, trait_count, body_count, bodies_both, in_table, forms, one_type_left, all_fields, AdtPair, OptAdt, adt_pair, OptTrait, methods_both, held_opt, captures_opt, TraitPair, trait_pair, signature_opt, items_alike}

-- no faults, where each test holds
both_empty : {X : Type 0} (xs ys : List X) → xs ≡ [] → ys ≡ [] → xs ++ ys ≡ []
both_empty xs ys h k = λ i. h i ++ k i

none_of_each : {X : Type 0} (faults : ℕ → X → List GraphFault) (k : ℕ) (xs : List X) → ((n : ℕ) (x : X) → slice_get xs n ≡ Some x → faults (k + n) x ≡ []) → of_each faults k xs ≡ []
none_of_each faults k [] h = refl
none_of_each faults k (x ∷ xs) h =
    both_empty (faults k x) (of_each faults (suc k) xs) (subst (λ m. faults m x ≡ []) (let e : k + 0 ≡ k = omega arith in e) (h 0 x refl))
    (none_of_each faults (suc k) xs (λ n y e. subst (λ m. faults m y ≡ []) (let s : k + suc n ≡ suc k + n = omega arith in s) (h (suc n) y e)))

all_pass : (tests : List (ℕ × Bool)) → Every (λ (test : ℕ × Bool). test.1 ≡ true) tests → broken tests ≡ []
all_pass [] h = refl
all_pass (test ∷ tests) h = by test.1 h.0 (all_pass tests h.1)
  where
    by : (t : Bool) → t ≡ true → broken tests ≡ [] → (if t then broken tests else test.0 ∷ broken tests) ≡ []
    by true h k = k
    by false h k = absurd (false≢true h)

-- one answer
same_answer : (p q : Bool) → p ≡ q → p ≡ true → q ≡ true
same_answer p q e h = sym e ∙ h

list_all_every : {X : Type 0} (p : X → Bool) (xs : List X) → Every (λ x. p x ≡ true) xs → list_all p xs ≡ true
list_all_every p [] h = refl
list_all_every p (x ∷ xs) h = and_from (p x) _ h.0 (list_all_every p xs h.1)

take_same : {X : Type 0} (n : ℕ) (xs ys : List X) → ((m : ℕ) → m < n → slice_get xs m ≡ slice_get ys m) → take n xs ≡ take n ys
take_same zero [] [] h = refl
take_same zero [] (y ∷ ys) h = refl
take_same zero (x ∷ xs) [] h = refl
take_same zero (x ∷ xs) (y ∷ ys) h = refl
take_same (suc n) [] [] h = refl
take_same (suc n) [] (y ∷ ys) h = absurd (none-some y (h 0 (omega arith)))
take_same (suc n) (x ∷ xs) [] h = absurd (none-some x (sym (h 0 (omega arith))))
take_same (suc n) (x ∷ xs) (y ∷ ys) h = λ i. same_Some x y (h 0 (omega arith)) i ∷ take_same n xs ys (λ m lt. h (suc m) (omega arith)) i

module _ (left right : ItemTable) where
  right_all : (xs ys : List TyId) → ListsAlike left right xs ys → list_all (ty_exists right) ys ≡ true
  right_all [] [] h = refl
  right_all [] (y ∷ ys) h = absurd h
  right_all (x ∷ xs) [] h = absurd h
  right_all (x ∷ xs) (y ∷ ys) h = and_from (ty_exists right y) _ h.0.right_exists (right_all xs ys h.1)

  lists_length : (xs ys : List TyId) → ListsAlike left right xs ys → length xs ≡ length ys
  lists_length [] [] h = refl
  lists_length [] (y ∷ ys) h = absurd h
  lists_length (x ∷ xs) [] h = absurd h
  lists_length (x ∷ xs) (y ∷ ys) h = ap suc (lists_length xs ys h.1)

  take_alike : (n : ℕ) (xs ys : List TyId) → ListsAlike left right xs ys → ListsAlike left right (take n xs) (take n ys)
  take_alike zero [] [] h = tt
  take_alike (suc n) [] [] h = tt
  take_alike n [] (y ∷ ys) h = absurd h
  take_alike n (x ∷ xs) [] h = absurd h
  take_alike zero (x ∷ xs) (y ∷ ys) h = tt
  take_alike (suc n) (x ∷ xs) (y ∷ ys) h = (h.0, take_alike n xs ys h.1)

  append_alike : (xs ys us vs : List TyId) → ListsAlike left right xs ys → ListsAlike left right us vs → ListsAlike left right (xs ++ us) (ys ++ vs)
  append_alike [] [] us vs h k = k
  append_alike [] (y ∷ ys) us vs h k = absurd h
  append_alike (x ∷ xs) [] us vs h k = absurd h
  append_alike (x ∷ xs) (y ∷ ys) us vs h k = (h.0, append_alike xs ys us vs h.1 k)

  module _ (bodies : ℕ) (alike : ItemsAlike left right bodies) where
    ids_same : (xs ys us vs : List TyId) → ListsAlike left right xs ys → ListsAlike left right us vs → same_ids xs us ≡ same_ids ys vs
    ids_same [] [] [] [] h k = refl
    ids_same [] [] (u ∷ us) (v ∷ vs) h k = refl
    ids_same (x ∷ xs) (y ∷ ys) [] [] h k = refl
    ids_same (x ∷ xs) (y ∷ ys) (u ∷ us) (v ∷ vs) h k = λ i. alike.ids x y u v h.0 k.0 i && ids_same xs ys us vs h.1 k.1 i
    ids_same [] (y ∷ ys) us vs h k = absurd h
    ids_same (x ∷ xs) [] us vs h k = absurd h
    ids_same xs ys [] (v ∷ vs) h k = absurd k
    ids_same xs ys (u ∷ us) [] h k = absurd k

    -- a `Drop` body's signature
    unique_same : (n : ℕ) (x y : Option Ty) → OptTy left right x y → is_unique_adt left bodies n x ≡ is_unique_adt right bodies n y
    unique_same n None None h = refl
    unique_same n (Some s) (Some t) h = by s t h
      where
        by : (s t : Ty) → Alike left right s t → is_unique_adt left bodies n (Some s) ≡ is_unique_adt right bodies n (Some t)
        by s t (unique {a = a} {b = b} h) = adt_alike left right n (type_at left a) (type_at right b) (alike.types a b h)
        by s t _ = refl
    unique_same n None (Some t) h = absurd h
    unique_same n (Some s) None h = absurd h

    dropped_same : (n : ℕ) (xs ys : List TyId) → ListsAlike left right xs ys → are_dropped left bodies n xs ≡ are_dropped right bodies n ys
    dropped_same n [] [] h = refl
    dropped_same n (x ∷ []) (y ∷ []) h = unique_same n (type_at left x) (type_at right y) (alike.types x y h.0)
    dropped_same n (x ∷ u ∷ xs) (y ∷ v ∷ ys) h = refl
    dropped_same n [] (y ∷ ys) h = absurd h
    dropped_same n (x ∷ xs) [] h = absurd h
    dropped_same n (x ∷ []) (y ∷ v ∷ ys) h = absurd h.1
    dropped_same n (x ∷ u ∷ xs) (y ∷ []) h = absurd h.1

    drop_sig_same : (n : ℕ) (x y : Option Sig) → OptSig left right x y → option_map_or (is_drop_sig left bodies n) x false ≡ option_map_or (is_drop_sig right bodies n) y false
    drop_sig_same n None None h = refl
    drop_sig_same n (Some s) (Some t) h =
        λ i. dropped_same n s.params t.params h.params i && unit_alike left right (type_at left s.result) (type_at right t.result) (alike.types s.result t.result h.answer) i
    drop_sig_same n None (Some t) h = absurd h
    drop_sig_same n (Some s) None h = absurd h

    has_drop_same : (n : ℕ) (o : Option ℕ) → option_map_or (λ body. nat_lt body bodies) o true ≡ true
        → option_map_or (has_drop_sig left bodies n) o true ≡ option_map_or (has_drop_sig right bodies n) o true
    has_drop_same n None h = refl
    has_drop_same n (Some body) h = drop_sig_same n (slice_get left.bodies body) (slice_get right.bodies body) (alike.signatures body h)

    -- the body of a method
    selves_same : (n : ℕ) (x y u v : Option Ty) → OptTy left right x y → OptTy left right u v → are_selves left bodies n x u ≡ are_selves right bodies n y v
    selves_same n None None None None h k = refl
    selves_same n None None (Some u) (Some v) h k = refl
    selves_same n (Some s) (Some t) None None h k = by s t h
      where
        by : (s t : Ty) → Alike left right s t → are_selves left bodies n (Some s) None ≡ are_selves right bodies n (Some t) None
        by s t (shared h) = refl
        by s t (unique h) = refl
        by s t _ = refl
    selves_same n (Some s) (Some t) (Some u) (Some v) h k = by s t u v h k
      where
        by : (s t u v : Ty) → Alike left right s t → Alike left right u v → are_selves left bodies n (Some s) (Some u) ≡ are_selves right bodies n (Some t) (Some v)
        by s t u v (shared h) (shared {a = a} {b = b} k) = adt_alike left right n (type_at left a) (type_at right b) (alike.types a b k)
        by s t u v (unique h) (unique {a = a} {b = b} k) = adt_alike left right n (type_at left a) (type_at right b) (alike.types a b k)
        by s t u v _ _ = refl
    selves_same n None (Some t) u v h k = absurd h
    selves_same n (Some s) None u v h k = absurd h
    selves_same n x y None (Some v) h k = absurd k
    selves_same n x y (Some u) None h k = absurd k

    params_same : (n : ℕ) (xs ys us vs : List TyId) → ListsAlike left right xs ys → ListsAlike left right us vs → params_implement left bodies n xs us ≡ params_implement right bodies n ys vs
    params_same n [] [] us vs h k = refl
    params_same n (x ∷ xs) (y ∷ ys) [] [] h k = refl
    params_same n (x ∷ xs) (y ∷ ys) (u ∷ us) (v ∷ vs) h k =
        λ i. selves_same n (type_at left x) (type_at right y) (type_at left u) (type_at right v) (alike.types x y h.0) (alike.types u v k.0) i && ids_same xs ys us vs h.1 k.1 i
    params_same n [] (y ∷ ys) us vs h k = absurd h
    params_same n (x ∷ xs) [] us vs h k = absurd h
    params_same n (x ∷ xs) (y ∷ ys) [] (v ∷ vs) h k = absurd k
    params_same n (x ∷ xs) (y ∷ ys) (u ∷ us) [] h k = absurd k

    implement_same : (n : ℕ) (m p : Sig) → SigAlike left right m p → (x y : Option Sig) → OptSig left right x y
        → option_map_or (sig_implements left bodies n m) x false ≡ option_map_or (sig_implements right bodies n p) y false
    implement_same n m p h None None k = refl
    implement_same n m p h (Some s) (Some t) k =
        λ i. params_same n m.params p.params s.params t.params h.params k.params i && alike.ids m.result p.result s.result t.result h.answer k.answer i
    implement_same n m p h None (Some t) k = absurd k
    implement_same n m p h (Some s) None k = absurd k

    bodies_implement : (n : ℕ) (ms ps : List Sig) → ((k : ℕ) → OptSig left right (slice_get ms k) (slice_get ps k)) → (numbers : List ℕ) → list_all (λ body. nat_lt body bodies) numbers ≡ true
        → pointwise (body_implements left bodies n) ms numbers ≡ pointwise (body_implements right bodies n) ps numbers
    bodies_implement n [] [] h [] e = refl
    bodies_implement n [] [] h (b ∷ bs) e = refl
    bodies_implement n (m ∷ ms) (p ∷ ps) h [] e = refl
    bodies_implement n (m ∷ ms) (p ∷ ps) h (b ∷ bs) e =
        let (this, others) = and_parts (nat_lt b bodies) _ e in
        λ i. (implement_same n m p (h 0) (slice_get left.bodies b) (slice_get right.bodies b) (alike.signatures b this) i && not (alike.drops b i))
        && bodies_implement n ms ps (λ k. h (suc k)) bs others i
    bodies_implement n [] (p ∷ ps) h bs e = absurd (h 0)
    bodies_implement n (m ∷ ms) [] h bs e = absurd (h 0)

    closure_sig_same : (n : ℕ) (x y : Option Sig) → OptSig left right x y
        → option_map_or (λ sig. begins_with_closure left bodies n sig.params) x false ≡ option_map_or (λ sig. begins_with_closure right bodies n sig.params) y false
    closure_sig_same n None None h = refl
    closure_sig_same n (Some s) (Some t) h = by s.params t.params h.params
      where
        by : (xs ys : List TyId) → ListsAlike left right xs ys → begins_with_closure left bodies n xs ≡ begins_with_closure right bodies n ys
        by [] [] h = refl
        by (x ∷ xs) (y ∷ ys) h = closure_alike left right n (type_at left x) (type_at right y) (alike.types x y h.0)
        by [] (y ∷ ys) h = absurd h
        by (x ∷ xs) [] h = absurd h
    closure_sig_same n None (Some t) h = absurd h
    closure_sig_same n (Some s) None h = absurd h

    some_sig : (x y : Option Sig) → OptSig left right x y → is_some x ≡ is_some y
    some_sig None None h = refl
    some_sig (Some s) (Some t) h = refl
    some_sig None (Some t) h = absurd h
    some_sig (Some s) None h = absurd h

not_held : (l r : Bool) → (r ≡ true → l ≡ true) → not l ≡ true → not r ≡ true
not_held l false f h = refl
not_held l true f h = absurd (false≢true (ap not (sym (f refl)) ∙ h))

module _ (left right : Graph) (l : IsListed left) (ri : AreItems right.items) (ex : WrittenExist left right) (rf : GraphFits right) (same : seen left ≡ seen right) where
  abbrev L : ItemTable
  L = left.items

  abbrev R : ItemTable
  R = right.items

  abbrev lb : ℕ
  lb = length left.bodies

  abbrev rb : ℕ
  rb = length right.bodies

  count : lb ≡ rb
  count = body_count left right l ri ex rf same

  alike : ItemsAlike L R lb
  alike = items_alike left right l ri ex rf same

  own_forms : (a b : TyId) → TyAlike L R a b → FormsAlike L R a b
  own_forms = forms left right l ri ex rf same

  dyn_same : (xs ys : List TyId) → ListsAlike L R xs ys → place_dyn L lb xs ≡ place_dyn R lb ys
  dyn_same xs ys h = λ i. not (none_misplaced L R own_forms xs ys h i)

  -- structs and enums
  names_by_look : (items : ItemTable) (adts : List Adt) → map (λ (adt : Adt). adt.name) adts ≡ map (λ (s : AdtSeen). s.name) (map (adt_seen items) adts)
  names_by_look items [] = refl
  names_by_look items (x ∷ xs) = ap (λ (w : List (List ℕ)). x.name ∷ w) (names_by_look items xs)

  adt_names_same : map (λ (adt : Adt). adt.name) L.adts ≡ map (λ (adt : Adt). adt.name) R.adts
  adt_names_same = names_by_look L L.adts ∙ ap (map (λ (s : AdtSeen). s.name)) (adts_same left right l ri ex rf same) ∙ sym (names_by_look R R.adts)

  variant_names : (items : ItemTable) (vs : List Variant) → list_all (λ variant. is_name variant.name) vs ≡ list_all (λ (s : VariantSeen). is_name s.0) (map (variant_seen items) vs)
  variant_names items vs = sym (list_all-map (λ (s : VariantSeen). is_name s.0) (variant_seen items) vs)

  adt_settled : (n : ℕ) (x y : Adt) → slice_get L.adts n ≡ Some x → AdtPair left right l ri ex rf same n x y → adt_faults R rb n y ≡ []
  adt_settled n x y at pair =
      let holds = adt_holds left l n x at in
      let t1 = broken-holds (adt_tests L lb n x) holds 0 (1, exist L lb (field_types x) && option_map_or (λ body. nat_lt body lb) x.drop_body true) refl in
      let t3 = broken-holds (adt_tests L lb n x) holds 1 (3, adt_has_types L lb n x && not (adt_holds_itself L n)) refl in
      let t7 = broken-holds (adt_tests L lb n x) holds 2 (7, adt_has_names L lb n x) refl in
      let fields = all_fields left right l ri ex rf same x.variants y.variants pair.good.variants pair.is (ap (λ (s : AdtSeen). s.variants) pair.look) in
      let drop : x.drop_body ≡ y.drop_body = ap (λ (s : AdtSeen). s.drop_body) pair.look in
      let name : x.name ≡ y.name = ap (λ (s : AdtSeen). s.name) pair.look in
      let (some, body) = and_parts (exist L lb (field_types x)) _ t1 in
      let (typed, free) = and_parts (adt_has_types L lb n x) _ t3 in
      let types : adt_has_types L lb n x ≡ adt_has_types R lb n y =
      λ i. dyn_same (field_types x) (field_types y) fields i && (has_drop_same L R lb alike n x.drop_body body ∙ ap (λ (o : Option ℕ). option_map_or (has_drop_sig R lb n) o true) drop) i in
      let variants : list_all (λ variant. is_name variant.name) x.variants ≡ list_all (λ variant. is_name variant.name) y.variants =
      variant_names L x.variants ∙ ap (list_all (λ (s : VariantSeen). is_name s.0)) (ap (λ (s : AdtSeen). s.variants) pair.look) ∙ sym (variant_names R y.variants) in
      let named : adt_has_names L lb n x ≡ adt_has_names R lb n y = λ i. is_adt_name (name i) && variants i && not (is_repeated (adt_names_same i) n (name i)) in
      let bodies : option_map_or (λ body. nat_lt body lb) x.drop_body true ≡ option_map_or (λ body. nat_lt body rb) y.drop_body true =
      λ i. option_map_or (λ body. nat_lt body (count i)) (drop i) true in
      all_pass (adt_tests R rb n y) (
        and_from (exist R rb (field_types y)) _ (right_all L R (field_types x) (field_types y) fields) (sym bodies ∙ body),
        (
          and_from (adt_has_types R rb n y) _ (sym types ∙ typed)
              (not_held (adt_holds_itself L n) (adt_holds_itself R n)
              (λ h. (adt_holding-tested L n).1 (adt_holds_too L R own_forms (held_opt left right l ri ex rf same) (captures_opt left right l ri ex rf same) (one_type_left left right l ri ex rf same) n
              ((adt_holding-tested R n).0 h))) free),
          (sym named ∙ t7, tt),
        ),
      )

  all_adts : (n : ℕ) (y : Adt) → slice_get R.adts n ≡ Some y → adt_faults R rb n y ≡ []
  all_adts n y e = by (slice_get L.adts n) refl (subst (λ p. OptAdt left right l ri ex rf same n (slice_get L.adts n) p) e (adt_pair left right l ri ex rf same n))
    where
      by : (o : Option Adt) → slice_get L.adts n ≡ o → OptAdt left right l ri ex rf same n o (Some y) → adt_faults R rb n y ≡ []
      by None at h = absurd h
      by (Some x) at h = adt_settled n x y at h

  -- traits
  trait_names_by_look : (items : ItemTable) (traits : List TraitDef) → map (λ (def : TraitDef). def.name) traits ≡ map (λ (s : List ℕ × List SigSeen). s.0) (map (trait_seen items) traits)
  trait_names_by_look items [] = refl
  trait_names_by_look items (x ∷ xs) = ap (λ (w : List (List ℕ)). x.name ∷ w) (trait_names_by_look items xs)

  trait_names_same : map (λ (def : TraitDef). def.name) L.traits ≡ map (λ (def : TraitDef). def.name) R.traits
  trait_names_same =
      trait_names_by_look L L.traits ∙ ap (map (λ (s : List ℕ × List SigSeen). s.0)) (traits_same left right l ri ex rf same) ∙ sym (trait_names_by_look R R.traits)

  method_names : (items : ItemTable) (ms : List Sig) → list_all (λ method. is_name method.name) ms ≡ list_all (λ (s : SigSeen). is_name s.0) (map (sig_seen items) ms)
  method_names items ms = sym (list_all-map (λ (s : SigSeen). is_name s.0) (sig_seen items) ms)

  sig_types : (ms ps : List Sig) → ((k : ℕ) → OptSig L R (slice_get ms k) (slice_get ps k)) → ListsAlike L R (flat_map types_of_sig ms) (flat_map types_of_sig ps)
  sig_types [] [] h = tt
  sig_types (m ∷ ms) (p ∷ ps) h =
      append_alike L R (types_of_sig m) (types_of_sig p) (flat_map types_of_sig ms) (flat_map types_of_sig ps)
      (let one : SigAlike L R m p = h 0 in (one.answer, one.params)) (sig_types ms ps (λ k. h (suc k)))
  sig_types [] (p ∷ ps) h = absurd (h 0)
  sig_types (m ∷ ms) [] h = absurd (h 0)

  trait_methods : (x y : TraitDef) → TraitPair left right l ri ex rf same x y → (k : ℕ) → OptSig L R (slice_get x.methods k) (slice_get y.methods k)
  trait_methods x y pair = methods_both left right l ri ex rf same x.methods y.methods pair.good.methods pair.is (ap (λ (s : List ℕ × List SigSeen). s.1) pair.look)

  trait_settled : (n : ℕ) (x y : TraitDef) → slice_get L.traits n ≡ Some x → TraitPair left right l ri ex rf same x y → trait_faults R rb n y ≡ []
  trait_settled n x y at pair =
      let holds = trait_holds left l n x at in
      let t3 = broken-holds (trait_tests L lb n x) holds 1 (3, place_dyn L lb (types_of_trait x)) refl in
      let t7 = broken-holds (trait_tests L lb n x) holds 2 (7, trait_has_names L lb n x) refl in
      let types = sig_types x.methods y.methods (trait_methods x y pair) in
      let name : x.name ≡ y.name = ap (λ (s : List ℕ × List SigSeen). s.0) pair.look in
      let methods : list_all (λ method. is_name method.name) x.methods ≡ list_all (λ method. is_name method.name) y.methods =
      method_names L x.methods ∙ ap (list_all (λ (s : SigSeen). is_name s.0)) (ap (λ (s : List ℕ × List SigSeen). s.1) pair.look) ∙ sym (method_names R y.methods) in
      let named : trait_has_names L lb n x ≡ trait_has_names R rb n y = λ i. is_name (name i) && methods i && not (is_repeated (trait_names_same i) n (name i)) in
      all_pass (trait_tests R rb n y)
      (right_all L R (types_of_trait x) (types_of_trait y) types, (sym (dyn_same (types_of_trait x) (types_of_trait y) types) ∙ t3, (sym named ∙ t7, tt)))

  all_traits : (n : ℕ) (y : TraitDef) → slice_get R.traits n ≡ Some y → trait_faults R rb n y ≡ []
  all_traits n y e = by (slice_get L.traits n) refl (subst (λ p. OptTrait left right l ri ex rf same (slice_get L.traits n) p) e (trait_pair left right l ri ex rf same n))
    where
      by : (o : Option TraitDef) → slice_get L.traits n ≡ o → OptTrait left right l ri ex rf same o (Some y) → trait_faults R rb n y ≡ []
      by None at h = absurd h
      by (Some x) at h = trait_settled n x y at h

  -- impls
  methods_of_same : (n : ℕ) (o p : Option TraitDef) → OptTrait left right l ri ex rf same o p
      → (k : ℕ) → OptSig L R (slice_get (option_map_or (λ def. def.methods) o []) k) (slice_get (option_map_or (λ def. def.methods) p []) k)
  methods_of_same n None None h k = tt
  methods_of_same n (Some x) (Some y) h k = trait_methods x y h k
  methods_of_same n None (Some y) h k = absurd h
  methods_of_same n (Some x) None h k = absurd h

  all_impls : (n : ℕ) (d : ImplDef) → slice_get R.impls n ≡ Some d → impl_faults R rb n d ≡ []
  all_impls n d e =
      let impls : L.impls ≡ R.impls = impls_same left right l ri ex rf same in
      let at : slice_get L.impls n ≡ Some d = ap (λ (xs : List ImplDef). slice_get xs n) impls ∙ e in
      let holds = impl_holds left l n d at in
      let t1 = broken-holds (impl_tests L lb n d) holds 0 (1, impl_exists L lb d) refl in
      let t3 = broken-holds (impl_tests L lb n d) holds 1 (3, pointwise (body_implements L lb d.adt) (methods_of L lb d.trait_no) d.bodies) refl in
      let t7 = broken-holds (impl_tests L lb n d) holds 2 (7, not (is_repeated_impl L.impls n d)) refl in
      let traits : length L.traits ≡ length R.traits = trait_count left right l ri ex rf same in
      let adts : length L.adts ≡ length R.adts = adt_count left right l ri ex rf same in
      let exists : impl_exists L lb d ≡ impl_exists R rb d =
      λ i. nat_lt d.trait_no (traits i) && nat_lt d.adt (adts i) && list_all (λ body. nat_lt body (count i)) d.bodies in
      let bodies = (and_parts (nat_lt d.trait_no (length L.traits) && nat_lt d.adt (length L.adts)) _ t1).1 in
      let typed = bodies_implement L R lb alike d.adt (methods_of L lb d.trait_no) (methods_of R lb d.trait_no)
      (methods_of_same d.trait_no (slice_get L.traits d.trait_no) (slice_get R.traits d.trait_no) (trait_pair left right l ri ex rf same d.trait_no)) d.bodies bodies in
      all_pass (impl_tests R rb n d) (sym exists ∙ t1, (sym typed ∙ t3, (sym (ap (λ (xs : List ImplDef). not (is_repeated_impl xs n d)) impls) ∙ t7, tt)))

  -- closures
  closure_settled : (n : ℕ) (x y : ClosureDef) → slice_get L.closures n ≡ Some x → slice_get R.closures n ≡ Some y → closure_seen L x ≡ closure_seen R y → closure_faults R rb n y ≡ []
  closure_settled n x y at e look =
      let holds = closure_holds left l n x at in
      let t1 = broken-holds (closure_tests L lb n x) holds 0 (1, exist L lb x.captures && nat_lt x.body lb) refl in
      let t3 = broken-holds (closure_tests L lb n x) holds 1 (3, closure_has_types L lb n x && not (closure_holds_itself L n)) refl in
      let captures : ListsAlike L R x.captures y.captures =
      subst (λ o. ListsAlike L R (captures_of o) y.captures) at (subst (λ p. ListsAlike L R (captures_of (slice_get L.closures n)) (captures_of p)) e (captures_opt left right l ri ex rf same n)) in
      let body : x.body ≡ y.body = ap (λ (s : List (List ℕ) × ℕ). s.1) look in
      let (some, within) = and_parts (exist L lb x.captures) _ t1 in
      let (typed, free) = and_parts (closure_has_types L lb n x) _ t3 in
      let types : closure_has_types L lb n x ≡ closure_has_types R lb n y =
      λ i. dyn_same x.captures y.captures captures i
      && (closure_sig_same L R lb alike n (slice_get L.bodies x.body) (slice_get R.bodies x.body) (signature_opt left right l ri ex rf same x.body within) ∙ ap (has_closure_sig R lb n) body) i in
      let numbered : nat_lt x.body lb ≡ nat_lt y.body rb = λ i. nat_lt (body i) (count i) in
      all_pass (closure_tests R rb n y) (
        and_from (exist R rb y.captures) _ (right_all L R x.captures y.captures captures) (sym numbered ∙ within),
        (
          and_from (closure_has_types R rb n y) _ (sym types ∙ typed)
              (not_held (closure_holds_itself L n) (closure_holds_itself R n)
              (λ h. (closure_holding-tested L n).1 (closure_holds_too L R own_forms (held_opt left right l ri ex rf same) (captures_opt left right l ri ex rf same) (one_type_left left right l ri ex rf same) n
              ((closure_holding-tested R n).0 h))) free),
          tt,
        ),
      )

  all_closures : (n : ℕ) (y : ClosureDef) → slice_get R.closures n ≡ Some y → closure_faults R rb n y ≡ []
  all_closures n y e =
      by (slice_get L.closures n) refl
      (subst (λ p. Both (closure_seen L) (closure_seen R) (slice_get L.closures n) p) e (both_at (closure_seen L) (closure_seen R) L.closures R.closures (closures_same left right l ri ex rf same) n))
    where
      by : (o : Option ClosureDef) → slice_get L.closures n ≡ o → Both (closure_seen L) (closure_seen R) o (Some y) → closure_faults R rb n y ≡ []
      by None at h = absurd h
      by (Some x) at h = closure_settled n x y at e h

  -- the items have no fault
  none_of_items : {X : Type 0} (before : ℕ) (faults : ℕ → X → List ℕ) (xs : List X) → ((n : ℕ) (x : X) → slice_get xs n ≡ Some x → faults n x ≡ []) → of_items right before faults xs ≡ []
  none_of_items before faults xs h =
      none_of_each (λ n x. at_line nowhere nowhere (before + n) (faults n x)) 0 xs
      (λ n x e. ap (at_line nowhere nowhere (before + (0 + n))) (subst (λ m. faults m x ≡ []) (let k : n ≡ 0 + n = omega arith in k) (h n x e)))

  no_item_fault : item_faults right ≡ []
  no_item_fault =
      both_empty _ _ (none_of_items 0 (adt_faults R rb) R.adts all_adts)
      (both_empty _ _ (none_of_items (length R.adts) (trait_faults R rb) R.traits all_traits)
      (both_empty _ _ (none_of_items (length R.adts + length R.traits) (impl_faults R rb) R.impls all_impls)
      (none_of_items (length R.adts + length R.traits + length R.impls) (closure_faults R rb) R.closures all_closures)))

  closure_count : length L.closures ≡ length R.closures
  closure_count = same_length (closure_seen L) (closure_seen R) L.closures R.closures (closures_same left right l ri ex rf same)

  -- names of bodies
  abbrev name_of : Sig → List ℕ
  name_of sig = sig.name

  named_by_look : (items : ItemTable) (o : Option Sig) → option_map name_of o ≡ option_map (λ (s : SigSeen). s.0) (option_map (sig_seen items) o)
  named_by_look items None = refl
  named_by_look items (Some s) = refl

  sig_look : (n : ℕ) → nat_lt n lb ≡ true → option_map (sig_seen L) (slice_get L.bodies n) ≡ option_map (sig_seen R) (slice_get R.bodies n)
  sig_look n lt =
      let (body, at) = found_at left.bodies n lt in
      by body (slice_get right.bodies n) (subst (λ o. Both (body_seen L n) (body_seen R n) o (slice_get right.bodies n)) at (bodies_both left right l ri ex rf same n))
    where
      by : (body : Body) (q : Option Body) → Both (body_seen L n) (body_seen R n) (Some body) q → option_map (sig_seen L) (slice_get L.bodies n) ≡ option_map (sig_seen R) (slice_get R.bodies n)
      by body (Some other) h = ap (λ (s : BodySeen). s.signature) h
      by body None h = absurd h

  name_look : (n : ℕ) → nat_lt n lb ≡ true → option_map name_of (slice_get L.bodies n) ≡ option_map name_of (slice_get R.bodies n)
  name_look n lt =
      named_by_look L (slice_get L.bodies n) ∙ ap (option_map (λ (s : SigSeen). s.0)) (sig_look n lt) ∙ sym (named_by_look R (slice_get R.bodies n))

  earlier_names : (n : ℕ) → n < lb → take n (map name_of L.bodies) ≡ take n (map name_of R.bodies)
  earlier_names n lt =
      take_same n (map name_of L.bodies) (map name_of R.bodies)
      (λ m less. slice_get-map name_of L.bodies m ∙ name_look m (lt-ltb m lb (omega arith)) ∙ sym (slice_get-map name_of R.bodies m))

  name_settled : (n : ℕ) → n < lb → (o p : Option Sig) → option_map name_of o ≡ option_map name_of p
      → option_map_or (has_own_name L lb n) o true ≡ option_map_or (has_own_name R rb n) p true
  name_settled n lt None None h = refl
  name_settled n lt (Some s) (Some t) h =
      let name : s.name ≡ t.name = same_Some s.name t.name h in
      λ i. is_name (name i) && not (is_among (earlier_names n lt i) (name i))
  name_settled n lt None (Some t) h = absurd (none-some t.name h)
  name_settled n lt (Some s) None h = absurd (none-some s.name (sym h))

  module _ (n : ℕ) (b c : Body) (at : slice_get left.bodies n ≡ Some b) (here : slice_get right.bodies n ≡ Some c) (look : body_seen L n b ≡ body_seen R n c) where
    within : n < lb
    within = slice_get_within left.bodies n b at

    params : b.params ≡ c.params
    params = ap (λ (s : BodySeen). s.params) look

    blocks : b.blocks ≡ c.blocks
    blocks = ap (λ (s : BodySeen). s.blocks) look

    locals : ListsAlike L R b.locals c.locals
    locals =
        in_table left right l ri ex rf same b.locals c.locals (good_body left l n b at).locals (all_at (λ (body : Body). AreTypes R.types body.locals) right.bodies n c ex.locals here)
        (ap (λ (s : BodySeen). s.locals) look)

    local_count : length b.locals ≡ length c.locals
    local_count = lists_length L R b.locals c.locals locals

    is_sig_same : (s t : Sig) → SigAlike L R s t → is_sig_of L lb b s ≡ is_sig_of R rb c t
    is_sig_same s t h =
        let taken = take_alike L R (suc b.params) b.locals c.locals locals in
        let lengths : length s.params ≡ length t.params = lists_length L R s.params t.params h.params in
        let ids : same_ids (take (suc b.params) b.locals) (s.result ∷ s.params) ≡ same_ids (take (suc c.params) c.locals) (t.result ∷ t.params) =
        ids_same L R lb alike (take (suc b.params) b.locals) (take (suc b.params) c.locals) (s.result ∷ s.params) (t.result ∷ t.params) taken (h.answer, h.params)
        ∙ ap (λ (p : ℕ). same_ids (take (suc p) c.locals) (t.result ∷ t.params)) params in
        λ i. (lengths i == params i) && ids i

    has_sig_same : (o p : Option Sig) → OptSig L R o p → has_sig L lb b o ≡ has_sig R rb c p
    has_sig_same None None h = refl
    has_sig_same (Some s) (Some t) h = is_sig_same s t h
    has_sig_same None (Some t) h = absurd h
    has_sig_same (Some s) None h = absurd h

    own_settled : body_faults R rb n c ≡ []
    own_settled =
        let holds = own_holds left l n b at in
        let t1 = broken-holds (body_tests L lb n b) holds 0 (1, nat_lt 0 (length b.blocks)) refl in
        let t2 = broken-holds (body_tests L lb n b) holds 1 (2, nat_lt b.params (length b.locals)) refl in
        let t3 = broken-holds (body_tests L lb n b) holds 2 (3, has_sig L lb b (slice_get L.bodies n)) refl in
        let t7 = broken-holds (body_tests L lb n b) holds 3 (7, option_map_or (has_own_name L lb n) (slice_get L.bodies n) true) refl in
        let lt = lt-ltb n lb within in
        let numbers : nat_lt b.params (length b.locals) ≡ nat_lt c.params (length c.locals) = λ i. nat_lt (params i) (local_count i) in
        all_pass (body_tests R rb n c) (
          sym (ap (λ (xs : List Block). nat_lt 0 (length xs)) blocks) ∙ t1,
          (
            sym numbers ∙ t2,
            (
              sym (has_sig_same (slice_get L.bodies n) (slice_get R.bodies n) (signature_opt left right l ri ex rf same n lt)) ∙ t3,
              (sym (name_settled n within (slice_get L.bodies n) (slice_get R.bodies n) (name_look n lt)) ∙ t7, tt),
            ),
          ),
        )

    local_settled : (m : ℕ) (id : TyId) → slice_get c.locals m ≡ Some id → local_faults R rb id ≡ []
    local_settled m id e = by (slice_get b.locals m) refl (subst (λ q. OptId L R (slice_get b.locals m) q) e (slice_alike L R b.locals c.locals locals m))
      where
        by : (o : Option TyId) → slice_get b.locals m ≡ o → OptId L R o (Some id) → local_faults R rb id ≡ []
        by None is h = absurd h
        by (Some a) is h =
            let t3 = broken-holds (local_tests L lb a) (local_holds left l n b at m a is) 1 (3, not (misplaces_dyn L a)) refl in
            all_pass (local_tests R rb id) (h.right_exists, (ap not (sym (misplaced_alike L R own_forms a id h)) ∙ t3, tt))

    places_exist : (places : List Place) → list_all (locals_exist L lb b) places ≡ list_all (locals_exist R rb c) places
    places_exist places = λ i. list_all (λ place. list_all (λ local. nat_lt local (local_count i)) (place.local ∷ index_locals place.steps)) places

    adts : length L.adts ≡ length R.adts
    adts = adt_count left right l ri ex rf same

    traits : length L.traits ≡ length R.traits
    traits = trait_count left right l ri ex rf same

    stmt_numbers : (stmt : Stmt) → stmt_numbers_exist L lb stmt ≡ stmt_numbers_exist R rb stmt
    stmt_numbers (Stmt.Make to adt variant parts) = ap (nat_lt adt) adts
    stmt_numbers (Stmt.Close to closure parts) = ap (nat_lt closure) closure_count
    stmt_numbers (Stmt.Unsize to trait from) = ap (nat_lt trait) traits
    stmt_numbers _ = refl

    term_numbers : (term : Term) → term_numbers_exist L lb term ≡ term_numbers_exist R rb term
    term_numbers (Term.Call to body args next unwind) = ap (nat_lt body) count
    term_numbers (Term.Virtual to trait method args next unwind) = some_sig L R lb alike (method_at L trait method) (method_at R trait method) (alike.methods trait method)
    term_numbers _ = refl

    module _ (m : ℕ) (block : Block) (there : slice_get c.blocks m ≡ Some block) where
      in_left : slice_get b.blocks m ≡ Some block
      in_left = ap (λ (xs : List Block). slice_get xs m) blocks ∙ there

      stmt_settled : (k : ℕ) (stmt : Stmt) → slice_get block.stmts k ≡ Some stmt → stmt_faults R rb c stmt ≡ []
      stmt_settled k stmt is =
          let holds = stmt_holds left l n b at m block in_left k stmt is in
          let t1 = broken-holds (stmt_tests L lb b stmt) holds 0 (1, stmt_numbers_exist L lb stmt) refl in
          let t2 = broken-holds (stmt_tests L lb b stmt) holds 1 (2, list_all (locals_exist L lb b) (places_of_stmt stmt)) refl in
          let t3 = broken-holds (stmt_tests L lb b stmt) holds 2 (3, stmt_is_typed L b.locals stmt) refl in
          let t6 = broken-holds (stmt_tests L lb b stmt) holds 3 (6, stmt_has_row L lb b.locals stmt) refl in
          all_pass (stmt_tests R rb c stmt) (
            sym (stmt_numbers stmt) ∙ t1,
            (
              sym (places_exist (places_of_stmt stmt)) ∙ t2,
              (
                sym (stmt_alike L R lb alike b.locals c.locals locals stmt) ∙ t3,
                (sym (stmt_row_alike L R lb alike b.locals c.locals locals stmt) ∙ t6, tt),
              ),
            ),
          )

      abbrev with_blocks : List Block → Body
      with_blocks xs = record { params = c.params; locals = c.locals; blocks = xs }

      keep_same : (t : Bool) → keeps_cleanup t b block.term ≡ keeps_cleanup t c block.term
      keep_same true = λ i. keeps_cleanup true (with_blocks (blocks i)) block.term
      keep_same false = λ i. keeps_cleanup false (with_blocks (blocks i)) block.term

      term_settled : term_faults R rb c block ≡ []
      term_settled =
          let holds = term_holds left l n b at m block in_left in
          let exists = term_exists left l n b at m block in_left in
          let t1 = broken-holds (term_tests L lb b block) holds 0 (1, term_numbers_exist L lb block.term && blocks_exist L lb b (targets block.term)) refl in
          let t2 = broken-holds (term_tests L lb b block) holds 1 (2, list_all (locals_exist L lb b) (places_of_term block.term)) refl in
          let t3 = broken-holds (term_tests L lb b block) holds 2 (3, term_is_typed L b.locals block.term) refl in
          let t4 = broken-holds (term_tests L lb b block) holds 3 (4, edges_lower b block) refl in
          let t5 = broken-holds (term_tests L lb b block) holds 4 (5, keeps_to_cleanup b block) refl in
          let numbers : (term_numbers_exist L lb block.term && blocks_exist L lb b (targets block.term)) ≡ (term_numbers_exist R rb block.term && blocks_exist R rb c (targets block.term)) =
          λ i. term_numbers block.term i && list_all (λ k. nat_lt k (length (blocks i))) (targets block.term) in
          let lower : edges_lower b block ≡ edges_lower c block = λ i. edges_lower (with_blocks (blocks i)) block in
          let keep : keeps_to_cleanup b block ≡ keeps_to_cleanup c block = keep_same (is_cleanup block) in
          all_pass (term_tests R rb c block) (
            sym numbers ∙ t1,
            (
              sym (places_exist (places_of_term block.term)) ∙ t2,
              (
                sym (term_alike L R lb alike b.locals c.locals locals block.term exists) ∙ t3,
                (sym lower ∙ t4, (sym keep ∙ t5, tt)),
              ),
            ),
          )

      block_settled : (number : ℕ) → block_faults right number c m block ≡ []
      block_settled number =
          both_empty (stmts_faults right number c m block) (at_line number m (length block.stmts) (term_faults R rb c block))
          (none_of_each (λ line stmt. at_line number m line (stmt_faults R rb c stmt)) 0 block.stmts (λ k stmt is. ap (at_line number m (0 + k)) (stmt_settled k stmt is)))
          (ap (at_line number m (length block.stmts)) term_settled)

    body_settled : faults_of_body right n c ≡ []
    body_settled =
        both_empty (own_faults right n c) (locals_faults right n c ++ of_each (block_faults right n c) 0 c.blocks)
        (ap (at_line n nowhere nowhere) own_settled)
        (both_empty (locals_faults right n c) (of_each (block_faults right n c) 0 c.blocks)
        (none_of_each (λ m id. at_line n nowhere m (local_faults R rb id)) 0 c.locals (λ m id is. ap (at_line n nowhere (0 + m)) (local_settled m id is)))
        (none_of_each (block_faults right n c) 0 c.blocks
        (λ m block is. subst (λ k. block_faults right n c k block ≡ []) (let e : m ≡ 0 + m = omega arith in e) (block_settled m block is n))))

  all_bodies : (n : ℕ) (c : Body) → slice_get right.bodies n ≡ Some c → faults_of_body right n c ≡ []
  all_bodies n c e =
      by (slice_get left.bodies n) refl (subst (λ q. Both (body_seen L n) (body_seen R n) (slice_get left.bodies n) q) e (bodies_both left right l ri ex rf same n))
    where
      by : (o : Option Body) → slice_get left.bodies n ≡ o → Both (body_seen L n) (body_seen R n) o (Some c) → faults_of_body right n c ≡ []
      by None is h = absurd h
      by (Some b) is h = body_settled n b c is e h

  no_body_fault : of_each (faults_of_body right) 0 right.bodies ≡ []
  no_body_fault =
      none_of_each (faults_of_body right) 0 right.bodies
      (λ n c e. subst (λ m. faults_of_body right m c ≡ []) (let k : n ≡ 0 + n = omega arith in k) (all_bodies n c e))

  -- `main`
  abbrev HeadsAlike : List Sig → List Sig → List Body → List Body → Type 0
  HeadsAlike ss ts bs cs =
      ((n : ℕ) → Both (λ (b : Body). b.params) (λ (c : Body). c.params) (slice_get bs n) (slice_get cs n))
      × ((n : ℕ) (b : Body) → slice_get bs n ≡ Some b → Both name_of name_of (slice_get ss n) (slice_get ts n))

  mains : (ss ts : List Sig) (bs cs : List Body) → HeadsAlike ss ts bs cs → list_any (is_main left) (zip ss bs) ≡ list_any (is_main right) (zip ts cs)
  mains [] [] bs cs h = refl
  mains [] (t ∷ ts) [] [] h = refl
  mains (s ∷ ss) [] [] [] h = refl
  mains (s ∷ ss) (t ∷ ts) [] [] h = refl
  mains [] (t ∷ ts) (b ∷ bs) (c ∷ cs) h = absurd (h.1 0 b refl)
  mains (s ∷ ss) [] (b ∷ bs) (c ∷ cs) h = absurd (h.1 0 b refl)
  mains (s ∷ ss) (t ∷ ts) (b ∷ bs) (c ∷ cs) h =
      let name : s.name ≡ t.name = h.1 0 b refl in
      let params : b.params ≡ c.params = h.0 0 in
      let rest = mains ss ts bs cs ((λ n. h.0 (suc n)), (λ n b is. h.1 (suc n) b is)) in
      λ i. (same_name (name i) (codes "main") && (params i == 0)) || rest i
  mains ss ts [] (c ∷ cs) h = absurd (h.0 0)
  mains ss ts (b ∷ bs) [] h = absurd (h.0 0)

  both_params : (n : ℕ) → Both (λ (b : Body). b.params) (λ (c : Body). c.params) (slice_get left.bodies n) (slice_get right.bodies n)
  both_params n = by (slice_get left.bodies n) (slice_get right.bodies n) (bodies_both left right l ri ex rf same n)
    where
      by : (o p : Option Body) → Both (body_seen L n) (body_seen R n) o p → Both (λ (b : Body). b.params) (λ (c : Body). c.params) o p
      by None None h = tt
      by (Some b) (Some c) h = ap (λ (s : BodySeen). s.params) h
      by None (Some c) h = absurd h
      by (Some b) None h = absurd h

  both_names : (o p : Option Sig) → option_map name_of o ≡ option_map name_of p → Both name_of name_of o p
  both_names None None h = tt
  both_names (Some s) (Some t) h = same_Some s.name t.name h
  both_names None (Some t) h = absurd (none-some t.name h)
  both_names (Some s) None h = absurd (none-some s.name (sym h))

  main_same : list_any (is_main left) (zip L.bodies left.bodies) ≡ list_any (is_main right) (zip R.bodies right.bodies)
  main_same =
      mains L.bodies R.bodies left.bodies right.bodies
      (both_params, λ n b is. both_names (slice_get L.bodies n) (slice_get R.bodies n) (name_look n (lt-ltb n lb (slice_get_within left.bodies n b is))))

  missing_same : (t : Bool) → main_faults right t ≡ main_faults left t
  missing_same true = refl
  missing_same false = refl

  no_end_fault : end_faults right ≡ []
  no_end_fault =
      missing_same (list_any (is_main right) (zip R.bodies right.bodies)) ∙ ap (main_faults left) (sym main_same)
      ∙ second_empty (of_each (faults_of_body left) 0 left.bodies) (end_faults left)
      (second_empty (item_faults left) (of_each (faults_of_body left) 0 left.bodies ++ end_faults left) l.well_formed)

  pub settled : IsWellFormed right
  settled =
      both_empty (item_faults right) (of_each (faults_of_body right) 0 right.bodies ++ end_faults right) no_item_fault
      (both_empty (of_each (faults_of_body right) 0 right.bodies) (end_faults right) no_body_fault no_end_fault)

pub well_formed_as_compared : WellFormedAsCompared
well_formed_as_compared left right l ri ex rf same = settled left right l ri (record { table = λ a b e there text. ex.table b there; locals = ex.locals }) rf same
