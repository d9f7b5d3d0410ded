-- The body with the name `main` may be entered without arguments.
use Rattle.std.proofs.Common.{◌≡◌, ℕ, zero, suc, ◌+◌, ◌<◌, ◌==◌, nat_eq, nat_lt, not, Bool, true, false, cond, List, [], ◌∷◌, ◌++◌, map, take, length, Option, Some, None, codes, zip, slice_get, refl, ap, sym, ◌∙◌, subst, arith}
use Rattle.std.specs.List.{list_any, position_or_len}
use Rattle.std.specs.Option.{option_map_or, option_and_then}
use Rattle.std.specs.Cmp.{first_so, second_so}
use Rattle.std.specs.Cmp.Lexicographic.{pointwise, bytes_decides}
use Rattle.std.proofs.lemmas.Bool.{false≢true, lt-ltb}
use Rattle.std.proofs.lemmas.Bool.Decides.{Decides-eqb}
use Rattle.std.proofs.lemmas.Option.{none-some}
use Rattle.mir_ty.specs.declared.def.Sig.{Sig}
use Rattle.mir_ty.specs.declared.ty.TyId.{TyId}
use Rattle.mir_ty.specs.ItemTable.{ItemTable}
use Rattle.cfg_graph.specs.declared.graph.Body.{Body}
use Rattle.cfg_graph.specs.declared.graph.Graph.{Graph}
use Rattle.cfg_graph.specs.WellFormed.Faults.{of_each, item_faults, faults_of_body, is_main, main_faults, end_faults, IsWellFormed}
use Rattle.cfg_graph.specs.WellFormed.NameFaults.{same_name, is_name, is_repeated}
use Rattle.cfg_graph.proofs.NoFaults.{second_empty}
use Rattle.store_model.specs.Concrete.Bodies.{main_of}
use Rattle.store_model.specs.Concrete.State.{State}
use Rattle.mir_ty.proofs.ListLemmas.{slice_get-Contains}
use Rattle.drop_values.proofs.Made.{AllFull}
use Rattle.drop_elaborate.proofs.Begins.{params-are}
use Rattle.drop_elaborate.proofs.BodyFacts.{own-name}
use Rattle.drop_elaborate.proofs.Entered.{Enters}
use Rattle.drop_elaborate.proofs.PathSpares.{any-there}
use Rattle.drop_elaborate.proofs.StandAlone.{any-not}

zip-there : {A B : Type 0} (xs : List A) (ys : List B) (k : ℕ) (x : A) (y : B) → slice_get (zip xs ys) k ≡ Some (x, y) →
    (slice_get xs k ≡ Some x) × (slice_get ys k ≡ Some y)
zip-there [] ys k x y e = absurd (none-some (x, y) e)
zip-there (a ∷ xs) [] k x y e = absurd (none-some (x, y) e)
zip-there (a ∷ xs) (b ∷ ys) zero x y e =
    let z : Some (a, b) ≡ Some (x, y) = e in
    let w : (a, b) ≡ (x, y) = cc in (ap (λ (t : _ × _). Some t.0) w, ap (λ (t : _ × _). Some t.1) w)
zip-there (a ∷ xs) (b ∷ ys) (suc k) x y e = zip-there xs ys k x y e

-- where a test passes and did not pass before
first-position : {A : Type 0} (p : A → Bool) (xs : List A) (k : ℕ) (x : A) → slice_get xs k ≡ Some x → p x ≡ true →
    ((j : ℕ) (y : A) → j < k → slice_get xs j ≡ Some y → p y ≡ false) → position_or_len p xs ≡ k
first-position p [] k x e t before = absurd (none-some x e)
first-position p (z ∷ xs) zero x e t before =
    ap (λ b. cond (not b) (1 + position_or_len p xs) 0)
    (ap p (let w : Some z ≡ Some x = e in let v : z ≡ x = cc in v) ∙ t)
first-position p (z ∷ xs) (suc k) x e t before =
    ap (λ b. cond (not b) (1 + position_or_len p xs) 0) (before 0 z (omega arith) refl)
    ∙ (let r = first-position p xs k x e t (λ j y l f. before (suc j) y (omega (arith, l)) f) in
    let w : 1 + position_or_len p xs ≡ suc k = omega (arith, r) in w)

index-less : {A : Type 0} (xs : List A) (k : ℕ) (x : A) → slice_get xs k ≡ Some x → k < length xs
index-less [] k x e = absurd (none-some x e)
index-less (y ∷ xs) zero x e = omega arith
index-less (y ∷ xs) (suc k) x e = let l = index-less xs k x e in omega (arith, l)

-- an earlier one is among the first ones
taken-name : (sigs : List Sig) (k j : ℕ) (sig : Sig) → j < k → slice_get sigs j ≡ Some sig →
    slice_get (take k (map (λ (s : Sig). s.name) sigs)) j ≡ Some sig.name
taken-name [] k j sig l e = absurd (none-some sig e)
taken-name (s ∷ sigs) zero j sig l e = absurd (let never : ⊥ = omega (arith, l) in never)
taken-name (s ∷ sigs) (suc k) zero sig l e =
    ap (λ (s : Sig). Some s.name) (let w : Some s ≡ Some sig = e in let v : s ≡ sig = cc in v)
taken-name (s ∷ sigs) (suc k) (suc j) sig l e = taken-name sigs k j sig (omega (arith, l)) e

none-left : {A : Type 0} (xs : List A) → length xs ≡ 0 → xs ≡ []
none-left [] e = refl
none-left (x ∷ xs) e = absurd (let never : ⊥ = omega (arith, e) in never)

module _ (graph : Graph) (well : IsWellFormed graph) where
  abbrev items : ItemTable
  items = graph.items

  abbrev local_ty : (body local : ℕ) → Option TyId
  local_ty = λ n local. option_and_then (λ (body : Body). slice_get body.locals local) (slice_get graph.bodies n)

  abbrev names_main : Sig → Bool
  names_main sig = pointwise nat_eq sig.name (codes "main")

  some-main : list_any (is_main graph) (zip items.bodies graph.bodies) ≡ true
  some-main =
      by (list_any (is_main graph) (zip items.bodies graph.bodies))
      (second_empty (of_each (faults_of_body graph) 0 graph.bodies) (end_faults graph)
      (second_empty (item_faults graph) (of_each (faults_of_body graph) 0 graph.bodies ++ end_faults graph) well))
    where
      by : (b : Bool) → main_faults graph b ≡ [] → b ≡ true
      by true h = refl
      by false h = absurd (let z : _ ∷ [] ≡ [] = h in cc)

  -- its name is that of no other body
  no-earlier : (k : ℕ) (sig : Sig) (body : Body) → slice_get items.bodies k ≡ Some sig →
      slice_get graph.bodies k ≡ Some body → names_main sig ≡ true → (j : ℕ) (other : Sig) → j < k →
      slice_get items.bodies j ≡ Some other → names_main other ≡ false
  no-earlier k sig body sig_at body_at named j other l other_at = by (names_main other) refl
    where
      unlike : same_name sig.name other.name ≡ false
      unlike =
          any-not (same_name sig.name) (take k (map (λ (s : Sig). s.name) items.bodies)) j other.name
          (second_so (is_name sig.name) (not (is_repeated (map (λ (s : Sig). s.name) items.bodies) k sig.name))
          (own-name graph well k body body_at sig sig_at)) (taken-name items.bodies k j other l other_at)

      by : (b : Bool) → names_main other ≡ b → names_main other ≡ false
      by false h = h
      by true h =
          let one : sig.name ≡ codes "main" = (bytes_decides sig.name (codes "main")).0 named in
          let two : other.name ≡ codes "main" = (bytes_decides other.name (codes "main")).0 h in
          absurd (false≢true (sym unlike ∙ (bytes_decides sig.name other.name).1 (one ∙ sym two)))

  pub main-enters : (w : State) → Enters items local_ty (main_of items) [] w
  main-enters w =
      let m = any-there (is_main graph) (zip items.bodies graph.bodies) some-main in
      let two = zip-there items.bodies graph.bodies m.at m.x.0 m.x.1 m.there in
      let named = first_so (same_name m.x.0.name (codes "main")) (m.x.1.params == 0) m.passes in
      let none = (Decides-eqb m.x.1.params 0).0 (second_so (same_name m.x.0.name (codes "main")) (m.x.1.params == 0)
      m.passes) in
      let count = (params-are graph well m.at m.x.1 two.1 m.x.0 two.0).0 in
      let params : m.x.0.params ≡ [] = none-left m.x.0.params (count ∙ none) in
      let first = first-position names_main items.bodies m.at m.x.0 two.0 named
      (no-earlier m.at m.x.0 m.x.1 two.0 two.1 named) in
      let is : main_of items ≡ m.at =
      ap (λ n. option_map_or (λ n. n) (cond (nat_lt n (length items.bodies)) (Some n) None) 0) first
      ∙ ap (λ b. option_map_or (λ n. n) (cond b (Some m.at) None) 0)
      (lt-ltb m.at (length items.bodies) (index-less items.bodies m.at m.x.0 two.0)) in record {
        sig = m.x.0;
        sig_is = ap (slice_get items.bodies) is ∙ two.0;
        full = subst (λ ids. AllFull items ids []) (sym params) tt;
        named = λ a c. absurd (none-some a (slice_get-Contains [] a c));
      }
