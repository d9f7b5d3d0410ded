-- In a graph without a fault no type holds itself: on the way round there would be a struct, an enum or a closure, since
-- the types in a type have lower numbers, and its line would have a fault.
use Rattle.std.proofs.Common.{◌≡◌, ◌⊎◌, inl, inr, ℕ, ◌+◌, ◌<◌, Bool, true, false, not, ◌&&◌, List, [], ◌∷◌, ◌++◌, length, slice_get, Contains, Option, Some, None, refl, ap, subst, sym, ◌∙◌, arith}
use Rattle.std.specs.Prelude.{flat_map}
use Rattle.std.specs.Cmp.{second_so}
use Rattle.std.proofs.lemmas.Bool.{false≢true}
use Rattle.std.proofs.lemmas.List.Elements.{All-contains}
use Rattle.mir_ty.specs.declared.ty.Ty.{Ty}
use Rattle.mir_ty.specs.declared.ty.TyId.{TyId}
use Rattle.mir_ty.specs.declared.adt.Adt.{Adt}
use Rattle.mir_ty.specs.declared.def.ClosureDef.{ClosureDef}
use Rattle.mir_ty.specs.ItemTable.{ItemTable, type_at}
use Rattle.mir_ty.specs.Parts.{held_by, variants_of, captures_of, Holds, at_once, within}
use Rattle.cfg_graph.specs.declared.graph.Graph.{Graph}
use Rattle.cfg_graph.specs.WellFormed.Faults.{at_line, nowhere, of_each, of_items, adts_faults, traits_faults, impls_faults, closures_faults, item_faults, faults_of_body, end_faults, IsWellFormed, ArePartsFirst, WellFormedHoldsNothing}
use Rattle.cfg_graph.specs.WellFormed.ItemFaults.{adt_tests, adt_faults, adt_has_types, closure_tests, closure_faults, closure_has_types}
use Rattle.cfg_graph.specs.WellFormed.TypeFaults.{hold, adt_holds_itself, closure_holds_itself}
use Rattle.store_model.specs.Places.TypeForms.{is_adt, is_closure}
use Rattle.cfg_graph.proofs.InfiniteSize.{adt_holding-tested, closure_holding-tested}
use Rattle.cfg_graph.proofs.NoFaults.{first_empty, second_empty, map_empty, of_each-empty, broken-holds}

none_contained : {X : Type 0} (x : X) → Contains [] x → ⊥
none_contained x c = let k : c.0 < 0 = c.1 in omega arith

-- the type of a struct, an enum or a closure
abbrev IsItem : ItemTable → TyId → Type 0
IsItem items m = ((n : ℕ) × (type_at items m ≡ Some (Ty.Adt n))) ⊎ ((n : ℕ) × (type_at items m ≡ Some (Ty.Closure n)))

module _ (items : ItemTable) (first : ArePartsFirst items.types) where
  -- what is held has a lower number, or there is such a type on the way to it
  abbrev GoesDown : TyId → TyId → Type 0
  GoesDown a b = (b.0 < a.0) ⊎ ((m : TyId) × IsItem items m × ((a ≡ m) ⊎ Holds items a m) × Holds items m b)

  down_at_once : (a b : TyId) (ty : Ty) → type_at items a ≡ Some ty → Contains (held_by items ty) b → GoesDown a b
  down_at_once a b (Ty.Adt n) is c = inr (a, inl (n, is), inl refl, at_once is c)
  down_at_once a b (Ty.Closure n) is c = inr (a, inr (n, is), inl refl, at_once is c)
  down_at_once a b (Ty.Tuple parts) is c = inl (All-contains (λ id. id.0 < a.0) parts b (first a.0 (Ty.Tuple parts) is) c)
  down_at_once a b (Ty.Array element count) is c = inl (All-contains (λ id. id.0 < a.0) (element ∷ []) b (first a.0 (Ty.Array element count) is) c)
  down_at_once a b _ is c = absurd (none_contained b c)

  down_further : (a b c : TyId) → Holds items a b → Holds items b c → GoesDown a b → GoesDown b c → GoesDown a c
  down_further a b c ab bc (inr (m, item, to, from)) _ = inr (m, item, to, within from bc)
  down_further a b c ab bc (inl lower) (inl still) = inl (omega arith)
  down_further a b c ab bc (inl lower) (inr (m, item, inl e, from)) = inr (m, item, inr (subst (Holds items a) e ab), from)
  down_further a b c ab bc (inl lower) (inr (m, item, inr to, from)) = inr (m, item, inr (within ab to), from)

  goes_down : (a b : TyId) → Holds items a b → GoesDown a b
  goes_down a b (at_once {ty = ty} is c) = down_at_once a b ty is c
  goes_down a c (within {b = b} ab bc) = down_further a b c ab bc (goes_down a b ab) (goes_down b c bc)

  -- what holds itself goes round through such a type
  round : (id : TyId) → Holds items id id → (m : TyId) × IsItem items m × Holds items m m
  round id h = by (goes_down id id h)
    where
      by : GoesDown id id → (m : TyId) × IsItem items m × Holds items m m
      by (inl lower) = absurd (omega arith)
      by (inr (m, item, inl e, from)) = (m, item, subst (Holds items m) e from)
      by (inr (m, item, inr to, from)) = (m, item, within from to)

holds_not : (holds : Bool) → not holds ≡ true → holds ≡ true → ⊥
holds_not false h k = false≢true k
holds_not true h k = false≢true h

module _ (graph : Graph) (h : IsWellFormed graph) where
  abbrev bodies : ℕ
  bodies = length graph.bodies

  no_item_fault : item_faults graph ≡ []
  no_item_fault = first_empty (item_faults graph) (of_each (faults_of_body graph) 0 graph.bodies ++ end_faults graph) h

  no_adt_fault : adts_faults graph ≡ []
  no_adt_fault = first_empty (adts_faults graph) (traits_faults graph ++ (impls_faults graph ++ closures_faults graph)) no_item_fault

  no_closure_fault : closures_faults graph ≡ []
  no_closure_fault =
      second_empty (impls_faults graph) (closures_faults graph)
      (second_empty (traits_faults graph) (impls_faults graph ++ closures_faults graph)
      (second_empty (adts_faults graph) (traits_faults graph ++ (impls_faults graph ++ closures_faults graph)) no_item_fault))

  -- an item of a list without a fault has none of its own
  no_fault_of : {X : Type 0} → (before : ℕ) (faults : ℕ → X → List ℕ) (xs : List X) → of_items graph before faults xs ≡ [] → (n : ℕ) (x : X) → slice_get xs n ≡ Some x → faults n x ≡ []
  no_fault_of before faults xs none n x is =
      let own = of_each-empty (λ n x. at_line nowhere nowhere (before + n) (faults n x)) 0 xs none n x is in
      let empty = map_empty (λ (k : ℕ). record { number = k; body = nowhere; block = nowhere; line = before + (0 + n) }) (faults (0 + n) x) own in
      subst (λ m. faults m x ≡ []) (let e : 0 + n ≡ n = omega arith in e) empty

  no_adt : (n : ℕ) → adt_holds_itself graph.items n ≡ true → ⊥
  no_adt n k = by (slice_get graph.items.adts n) refl
    where
      by : (o : Option Adt) → slice_get graph.items.adts n ≡ o → ⊥
      by None none = false≢true (sym (ap (λ o. hold graph.items (is_adt n) (flat_map (λ variant. variant.fields) (variants_of o))) none) ∙ k)
      by (Some adt) is =
          let tests = no_fault_of 0 (adt_faults graph.items bodies) graph.items.adts no_adt_fault n adt is in
          let test = broken-holds (adt_tests graph.items bodies n adt) tests 1 (3, adt_has_types graph.items bodies n adt && not (adt_holds_itself graph.items n)) refl in
          holds_not (adt_holds_itself graph.items n) (second_so (adt_has_types graph.items bodies n adt) (not (adt_holds_itself graph.items n)) test) k

  no_closure : (n : ℕ) → closure_holds_itself graph.items n ≡ true → ⊥
  no_closure n k = by (slice_get graph.items.closures n) refl
    where
      by : (o : Option ClosureDef) → slice_get graph.items.closures n ≡ o → ⊥
      by None none = false≢true (sym (ap (λ o. hold graph.items (is_closure n) (captures_of o)) none) ∙ k)
      by (Some def) is =
          let tests = no_fault_of (length graph.items.adts + length graph.items.traits + length graph.items.impls) (closure_faults graph.items bodies) graph.items.closures no_closure_fault n def is in
          let test = broken-holds (closure_tests graph.items bodies n def) tests 1 (3, closure_has_types graph.items bodies n def && not (closure_holds_itself graph.items n)) refl in
          holds_not (closure_holds_itself graph.items n) (second_so (closure_has_types graph.items bodies n def) (not (closure_holds_itself graph.items n)) test) k

  no_item : (m : TyId) → IsItem graph.items m → Holds graph.items m m → ⊥
  no_item m (inl (n, is)) holds = no_adt n ((adt_holding-tested graph.items n).1 (m, is, holds))
  no_item m (inr (n, is)) holds = no_closure n ((closure_holding-tested graph.items n).1 (m, is, holds))

pub well_formed-holds_nothing : WellFormedHoldsNothing
well_formed-holds_nothing graph h first id holds =
    let found = round graph.items first id holds in
    no_item graph h found.0 found.1 found.2
