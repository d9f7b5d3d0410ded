-- The body that a run begins with: a well typed program has one with the name `main`, which has no parameters and the
-- result `()`.
use Rattle.std.proofs.Common.{◌≡◌, ℕ, ◌==◌, ◌&&◌, ◌||◌, not, cond, Bool, true, false, List, [], ◌∷◌, ◌++◌, map, length, Option, Some, None, refl, ap, sym, ◌∙◌}
use Rattle.std.specs.Prelude.{slice_get, codes}
use Rattle.std.specs.Cmp.{first_so, second_so}
use Rattle.std.specs.List.{list_any, find, position_or_len}
use Rattle.std.specs.Option.{option_map_or}
use Rattle.std.specs.Str.{bytes_eq}
use Rattle.std.proofs.lemmas.Bool.{false≢true, lt-ltb}
use Rattle.std.proofs.lemmas.Bool.Decides.{Decides-eqb}
use Rattle.std.proofs.lemmas.List.Folds.{find_at}
use Rattle.std.proofs.lemmas.Option.{slice_get_within}
use Rattle.std.proofs.lemmas.Slice.Eq.{bytes_eq-Decides}
use Rattle.mir_ty.specs.declared.adt.Adt.{Adt}
use Rattle.mir_ty.specs.declared.def.Sig.{Sig}
use Rattle.mir_ty.specs.declared.def.TraitDef.{TraitDef}
use Rattle.mir_ty.specs.declared.ty.Ty.{Ty}
use Rattle.mir_ty.specs.declared.ty.TyId.{TyId}
use Rattle.mir_ty.specs.ItemTable.{ItemTable, type_at}
use Rattle.store_model.specs.Concrete.Bodies.{main_of}
use Rattle.typed_tree.specs.Tree.{ProgramTree}
use Rattle.well_typed.specs.Items.{is_main}
use Rattle.well_typed.specs.Names.{is_among, are_distinct}
use Rattle.well_typed.specs.Program.{WellTyped}
use Rattle.well_typed.specs.Types.{is_unit, is_unit_ty}

distinct_behind : (xs ys : List (List ℕ)) → are_distinct (xs ++ ys) ≡ true → are_distinct ys ≡ true
distinct_behind [] ys h = h
distinct_behind (x ∷ xs) ys h =
    distinct_behind xs ys (second_so (not (is_among x (xs ++ ys))) (are_distinct (xs ++ ys)) h)

abbrev named : Sig → Bool
named sig = bytes_eq sig.name (codes "main")

no_params : (params : List TyId) → (length params == 0) ≡ true → params ≡ []
no_params [] h = refl
no_params (ty ∷ tys) h = absurd (let same : length (ty ∷ tys) ≡ 0 = (Decides-eqb (length (ty ∷ tys)) 0).0 h in
    let never : ⊥ = cc in never)

module _ (items : ItemTable) where
  -- a name stands among those of bodies of which one is `main`
  main_among : (name : List ℕ) → bytes_eq name (codes "main") ≡ true → (bodies : List Sig) →
      list_any (is_main items) bodies ≡ true → is_among name (map (λ (sig : Sig). sig.name) bodies) ≡ true
  main_among name e [] h = absurd (false≢true h)
  main_among name e (sig ∷ bodies) h = by (is_main items sig) refl h (main_among name e bodies)
    where
      same : is_main items sig ≡ true → bytes_eq name sig.name ≡ true
      same m = (bytes_eq-Decides name sig.name).1 ((bytes_eq-Decides name (codes "main")).0 e
          ∙ sym ((bytes_eq-Decides sig.name (codes "main")).0 (first_so (named sig) _ m)))

      or_left : (a b : Bool) → a ≡ true → (a || b) ≡ true
      or_left true b k = refl
      or_left false b k = absurd (false≢true k)

      or_right : (a b : Bool) → b ≡ true → (a || b) ≡ true
      or_right true b k = refl
      or_right false b k = k

      by : (b : Bool) → is_main items sig ≡ b → (b || list_any (is_main items) bodies) ≡ true →
          (list_any (is_main items) bodies ≡ true → is_among name (map (λ (s : Sig). s.name) bodies) ≡ true) →
          is_among name (map (λ (s : Sig). s.name) (sig ∷ bodies)) ≡ true
      by true m k later = or_left (bytes_eq name sig.name) _ (same m)
      by false m k later = or_right (bytes_eq name sig.name) _ (later k)

  -- the first with the name is it
  main_first : (bodies : List Sig) → are_distinct (map (λ (sig : Sig). sig.name) bodies) ≡ true →
      list_any (is_main items) bodies ≡ true →
      (sig : Sig) × ((find named bodies ≡ Some sig) × (is_main items sig ≡ true))
  main_first [] d h = absurd (false≢true h)
  main_first (sig ∷ bodies) d h = by (named sig) refl (is_main items sig) refl h
      (main_first bodies (second_so (not (is_among sig.name (map (λ (s : Sig). s.name) bodies))) _ d))
    where
      not_true : (b : Bool) → not b ≡ true → b ≡ true → ⊥
      not_true true n t = false≢true n
      not_true false n t = false≢true t

      by : (a : Bool) → named sig ≡ a → (b : Bool) → is_main items sig ≡ b →
          (b || list_any (is_main items) bodies) ≡ true →
          (list_any (is_main items) bodies ≡ true →
          (s : Sig) × ((find named bodies ≡ Some s) × (is_main items s ≡ true))) →
          (s : Sig) × ((cond a (Some sig) (find named bodies) ≡ Some s) × (is_main items s ≡ true))
      by true n true m k later = (sig, (refl, m))
      by true n false m k later = absurd (not_true (is_among sig.name (map (λ (s : Sig). s.name) bodies))
          (first_so (not (is_among sig.name (map (λ (s : Sig). s.name) bodies))) _ d) (main_among sig.name n bodies k))
      by false n true m k later = absurd (false≢true (sym n ∙ first_so (named sig) _ m))
      by false n false m k later = later k

-- `main` has no parameters, and the result `()`
pub record Main (p : ProgramTree) : Type 0 where
  pub sig : Sig
  pub there : slice_get p.items.bodies (main_of p.items) ≡ Some sig
  pub none : sig.params ≡ []
  pub gives_unit : type_at p.items sig.result ≡ Some Ty.Unit

pub main_head : (p : ProgramTree) → WellTyped p → Main p
main_head p typed =
    let found = main_first p.items p.items.bodies names (typed.0.1.1.1.1.1.1.1.1.1) in
    let at : slice_get p.items.bodies (position_or_len named p.items.bodies) ≡ Some found.0 =
    sym (find_at named p.items.bodies) ∙ found.1.0 in
    let is_it : main_of p.items ≡ position_or_len named p.items.bodies =
    ap (λ b. option_map_or (λ n. n) (cond b (Some (position_or_len named p.items.bodies)) None) 0)
    (lt-ltb (position_or_len named p.items.bodies) (length p.items.bodies)
    (slice_get_within p.items.bodies (position_or_len named p.items.bodies) found.0 at)) in
    let more = second_so (named found.0) ((length found.0.params == 0) && is_unit p.items found.0.result) found.1.1 in
    record {
      sig = found.0;
      there = ap (slice_get p.items.bodies) is_it ∙ at;
      none = no_params found.0.params (first_so (length found.0.params == 0) _ more);
      gives_unit = unit_is (type_at p.items found.0.result) (second_so (length found.0.params == 0) _ more);
    }
  where
    names : are_distinct (map (λ (sig : Sig). sig.name) p.items.bodies) ≡ true
    names = distinct_behind (map (λ (adt : Adt). adt.name) p.items.adts
        ++ map (λ (def : TraitDef). def.name) p.items.traits) (map (λ (sig : Sig). sig.name) p.items.bodies)
        (typed.0.1.1.1.1.1.1.1.0)

    unit_is : (o : Option Ty) → option_map_or is_unit_ty o false ≡ true → o ≡ Some Ty.Unit
    unit_is None h = absurd (false≢true h)
    unit_is (Some Ty.Unit) h = refl
    unit_is (Some other) h = absurd (false≢true h)
