-- What is taken lies apart from what a reference names that the action spares: the addresses of both take different
-- parts of some value.
use Rattle.std.proofs.Common.{◌≡◌, ◌≢◌, ◌⊎◌, inl, inr, ℕ, zero, suc, ◌==◌, ◌&&◌, ◌||◌, not, Bool, true, false, List, [], ◌∷◌, length, Some, None, slice_get, refl, ap, sym, ◌∙◌, subst}
use Rattle.std.specs.List.{list_any}
use Rattle.std.specs.Option.{option_map_or}
use Rattle.std.proofs.lemmas.Bool.{false≢true}
use Rattle.std.proofs.lemmas.Bool.Decides.{Decides-eqb, eqb_tells}
use Rattle.std.proofs.lemmas.Option.{none-some}
use Rattle.mir_ty.specs.ItemTable.{ItemTable}
use Rattle.cfg_graph.specs.declared.graph.Body.{Body}
use Rattle.cfg_graph.specs.Moves.Gone.{PathAction, are_first}
use Rattle.cfg_graph.specs.NamedPlaces.{as_laid_out, one_goes_on, overlaps, behind, follow, named_by, references_made, followed, named_places, takes, goes_through, overlap, spares}
use Rattle.store_model.specs.declared.address.Addr.{Addr}
use Rattle.store_model.specs.declared.address.At.{At}
use Rattle.store_model.specs.declared.address.At.TheVariants.{Part, Inside}
use Rattle.store_model.specs.Concrete.Location.{DynamicType}
use Rattle.store_model.specs.Places.Place.{Step, ToPart, ToField, ToContent, ToElement, Place, before_element}
use Rattle.store_model.specs.Values.Datum.{Datum}
use Rattle.drop_values.proofs.Staying.{Diverge}
use Rattle.drop_values.proofs.TypedSteps.{RunsAlong}
use Rattle.drop_values.proofs.Ways.{Way, ends, to_part, to_field, to_content}

-- the path of a way runs along its steps
pub way-runs : {items : ItemTable} {steps : List Step} {path : List At} {found f' : DynamicType} {d d' : Datum} →
    Way items steps path found d f' d' → RunsAlong steps path
way-runs (ends found d) = refl
way-runs (to_part steps path found variant serial parts n inner f f' d' not_enum is_part is_found way) =
    (Part n, path, refl, refl, way-runs way)
way-runs (to_field steps path found variant serial parts n inner f f' d' enum is_part is_found way) =
    (Part n, path, refl, refl, way-runs way)
way-runs (to_content steps path found serial impl_no inside f f' d' is_found way) =
    (Inside, path, refl, refl, way-runs way)

neither : (a b : Bool) → (a || b) ≡ false → (a ≡ false) × (b ≡ false)
neither false b h = (refl, h)
neither true b h = absurd (false≢true (sym h))

yes_and : (x a b : Bool) → x ≡ true → (x && a) || (x && b) ≡ false → (a || b) ≡ false
yes_and true a b e h = h
yes_and false a b e h = absurd (false≢true e)

-- the same number, or another one
numbers : (n m : ℕ) (rest other : Bool) → ((n == m) && rest) || ((m == n) && other) ≡ false →
    (m ≢ n) ⊎ ((rest || other) ≡ false)
numbers n m rest other h = elim (eqb_tells n m) [
  | inr y ↦ inl (λ e. y.1 (sym e))
  | inl y ↦ inr (neither-of y.1 h)
]
  where
    neither-of : n ≡ m → ((n == m) && rest) || ((m == n) && other) ≡ false → (rest || other) ≡ false
    neither-of e h =
        ap (λ a. (a && rest) || other) (sym ((Decides-eqb n m).1 e))
        ∙ ap (λ a. ((n == m) && rest) || (a && other)) (sym ((Decides-eqb m n).1 (sym e))) ∙ h

runs-part : (n : ℕ) (steps : List Step) (path : List At) {at : At} {rest : List At} → path ≡ at ∷ rest → at ≡ Part n →
    path ≡ Part n ∷ rest
runs-part n steps path {at} {rest} e g = e ∙ ap (λ a. a ∷ rest) g

runs-inside : (path : List At) {at : At} {rest : List At} → path ≡ at ∷ rest → at ≡ Inside → path ≡ Inside ∷ rest
runs-inside path {at} {rest} e g = e ∙ ap (λ a. a ∷ rest) g

parts-diverge : (n m : ℕ) (taken path : List At) (rest other : Bool) → (m ≢ n) ⊎ ((rest || other) ≡ false) →
    ((rest || other) ≡ false → Diverge taken path) → Diverge (Part m ∷ taken) (Part n ∷ path)
parts-diverge n m taken path rest other (inl d) h = inl d
parts-diverge n m taken path rest other (inr e) h = inr (h e)

pub diverging : (names takes : List Step) (path taken : List At) →
    one_goes_on (as_laid_out (before_element names)) (as_laid_out (before_element takes)) ≡ false →
    RunsAlong names path → RunsAlong takes taken → Diverge taken path
diverging [] others path taken h r t = absurd (false≢true (sym h))
diverging (ToPart n ∷ names) [] path taken h r t = absurd (false≢true (sym h))
diverging (ToPart n ∷ names) (ToPart m ∷ others) path taken h r t =
    subst (λ p. Diverge p path) (sym (runs-part m others taken t.2 t.3))
    (subst (λ p. Diverge (Part m ∷ t.1) p) (sym (runs-part n names path r.2 r.3))
    (parts-diverge n m t.1 r.1 (are_first (as_laid_out (before_element names)) (as_laid_out (before_element others)))
    (are_first (as_laid_out (before_element others)) (as_laid_out (before_element names)))
    (numbers n m (are_first (as_laid_out (before_element names))
    (as_laid_out (before_element others))) (are_first (as_laid_out (before_element others))
    (as_laid_out (before_element names))) h) (λ k. diverging names others r.1 t.1 k r.4 t.4)))
diverging (ToPart n ∷ names) (ToField mv m ∷ others) path taken h r t =
    subst (λ p. Diverge p path) (sym (runs-part m others taken t.2 t.3))
    (subst (λ p. Diverge (Part m ∷ t.1) p) (sym (runs-part n names path r.2 r.3))
    (parts-diverge n m t.1 r.1 (are_first (as_laid_out (before_element names)) (as_laid_out (before_element others)))
    (are_first (as_laid_out (before_element others)) (as_laid_out (before_element names)))
    (numbers n m (are_first (as_laid_out (before_element names))
    (as_laid_out (before_element others))) (are_first (as_laid_out (before_element others))
    (as_laid_out (before_element names))) h) (λ k. diverging names others r.1 t.1 k r.4 t.4)))
diverging (ToPart n ∷ names) (ToContent ∷ others) path taken h r t =
    subst (λ p. Diverge p path) (sym (runs-inside taken t.2 t.3))
    (subst (λ p. Diverge (Inside ∷ t.1) p) (sym (runs-part n names path r.2 r.3)) tt)
diverging (ToPart n ∷ names) (ToElement m ∷ others) path taken h r t = absurd (false≢true (sym h))
diverging (ToField nv n ∷ names) [] path taken h r t = absurd (false≢true (sym h))
diverging (ToField nv n ∷ names) (ToPart m ∷ others) path taken h r t =
    subst (λ p. Diverge p path) (sym (runs-part m others taken t.2 t.3))
    (subst (λ p. Diverge (Part m ∷ t.1) p) (sym (runs-part n names path r.2 r.3))
    (parts-diverge n m t.1 r.1 (are_first (as_laid_out (before_element names)) (as_laid_out (before_element others)))
    (are_first (as_laid_out (before_element others)) (as_laid_out (before_element names)))
    (numbers n m (are_first (as_laid_out (before_element names))
    (as_laid_out (before_element others))) (are_first (as_laid_out (before_element others))
    (as_laid_out (before_element names))) h) (λ k. diverging names others r.1 t.1 k r.4 t.4)))
diverging (ToField nv n ∷ names) (ToField mv m ∷ others) path taken h r t =
    subst (λ p. Diverge p path) (sym (runs-part m others taken t.2 t.3))
    (subst (λ p. Diverge (Part m ∷ t.1) p) (sym (runs-part n names path r.2 r.3))
    (parts-diverge n m t.1 r.1 (are_first (as_laid_out (before_element names)) (as_laid_out (before_element others)))
    (are_first (as_laid_out (before_element others)) (as_laid_out (before_element names)))
    (numbers n m (are_first (as_laid_out (before_element names))
    (as_laid_out (before_element others))) (are_first (as_laid_out (before_element others))
    (as_laid_out (before_element names))) h) (λ k. diverging names others r.1 t.1 k r.4 t.4)))
diverging (ToField nv n ∷ names) (ToContent ∷ others) path taken h r t =
    subst (λ p. Diverge p path) (sym (runs-inside taken t.2 t.3))
    (subst (λ p. Diverge (Inside ∷ t.1) p) (sym (runs-part n names path r.2 r.3)) tt)
diverging (ToField nv n ∷ names) (ToElement m ∷ others) path taken h r t = absurd (false≢true (sym h))
diverging (ToContent ∷ names) [] path taken h r t = absurd (false≢true (sym h))
diverging (ToContent ∷ names) (ToPart m ∷ others) path taken h r t =
    subst (λ p. Diverge p path) (sym (runs-part m others taken t.2 t.3))
    (subst (λ p. Diverge (Part m ∷ t.1) p) (sym (runs-inside path r.2 r.3)) tt)
diverging (ToContent ∷ names) (ToField mv m ∷ others) path taken h r t =
    subst (λ p. Diverge p path) (sym (runs-part m others taken t.2 t.3))
    (subst (λ p. Diverge (Part m ∷ t.1) p) (sym (runs-inside path r.2 r.3)) tt)
diverging (ToContent ∷ names) (ToContent ∷ others) path taken h r t =
    subst (λ p. Diverge p path) (sym (runs-inside taken t.2 t.3))
    (subst (λ p. Diverge (Inside ∷ t.1) p) (sym (runs-inside path r.2 r.3))
    (diverging names others r.1 t.1 h r.4 t.4))
diverging (ToContent ∷ names) (ToElement m ∷ others) path taken h r t = absurd (false≢true (sym h))
diverging (ToElement n ∷ names) others path taken h r t = absurd (false≢true (sym h))

none-of : {A : Type 0} (p : A → Bool) (xs : List A) (k : ℕ) (x : A) → list_any p xs ≡ false →
    slice_get xs k ≡ Some x → p x ≡ false
none-of p [] k x h e = absurd (none-some x e)
none-of p (y ∷ xs) zero x h e = subst (λ z. p z ≡ false) (let z : y ≡ x = cc in z) (neither (p y) (list_any p xs) h).0
none-of p (y ∷ xs) (suc k) x h e = none-of p xs k x (neither (p y) (list_any p xs) h).1 e

module _ (body : Body) where
  -- the reference in a local names a place of the body's own that begins so, as the body makes it
  pub record IsNamed (r : ℕ) (b : Addr) : Type 0 where
    pub number : ℕ
    pub place : Place
    pub among : slice_get (named_places body r) number ≡ Some place
    pub local : place.local ≡ b.key.0
    pub runs : RunsAlong place.steps b.path
    -- no reference is made there
    pub rooted : named_by b.key.0 (references_made body) ≡ None

  -- the place leads through no reference that the body makes
  abbrev pub LeadsItself : Place → Type 0
  LeadsItself place = behind (references_made body) place.local place.steps ≡ None

  followed-itself : (place : Place) → LeadsItself place → followed body place ≡ place ∷ []
  followed-itself place h = by (length (references_made body))
    where
      by : (most : ℕ) → follow (references_made body) most place ≡ place ∷ []
      by zero = refl
      by (suc most) = ap (λ o. place ∷ option_map_or (follow (references_made body) most) o []) h

  -- what an action takes lies apart from what a reference names that it spares
  pub spared-apart : (r : ℕ) (b : Addr) (action : PathAction) (taken : List At) → spares body r action ≡ true →
      takes body action ≡ true → LeadsItself action.place → (r == action.place.local) ≡ false → IsNamed r b →
      b.key.0 ≡ action.place.local → RunsAlong action.place.steps taken → Diverge taken b.path
  spared-apart r b action taken spared takes_it itself other named key runs =
      diverging named.place.steps action.place.steps b.path taken
      (same-local (named.place.local == action.place.local) ((Decides-eqb named.place.local action.place.local).1
      (named.local ∙ key)) overlaps-not) named.runs runs
    where
      no : (b : Bool) → not b ≡ true → b ≡ false
      no false e = refl
      no true e = absurd (false≢true e)

      last-so : (a g o : Bool) → a ≡ true → g ≡ false → (not a || g || not o) ≡ true → o ≡ false
      last-so true false o ea eg h = no o h
      last-so true true o ea eg h = absurd (false≢true (sym eg))
      last-so false g o ea eg h = absurd (false≢true ea)

      same-local : (x : Bool) {rest : Bool} → x ≡ true → (x && rest) ≡ false → rest ≡ false
      same-local true e h = h
      same-local false e h = absurd (false≢true e)

      turned : (action.place.local == r) ≡ false
      turned = elim (eqb_tells action.place.local r) [
        | inl y ↦ absurd (false≢true (sym other ∙ (Decides-eqb r action.place.local).1 (sym y.1)))
        | inr y ↦ y.0
      ]

      through_not : goes_through body r (followed body action.place) ≡ false
      through_not = ap (goes_through body r) (followed-itself action.place itself) ∙ ap (λ b. b || false) turned

      no-overlap : overlap body (named_places body r) (action.place ∷ []) ≡ false
      no-overlap =
          ap (overlap body (named_places body r)) (sym (followed-itself action.place itself))
          ∙ last-so (takes body action) (goes_through body r (followed body action.place))
          (overlap body (named_places body r) (followed body action.place)) takes_it through_not spared

      overlaps-not : overlaps named.place action.place ≡ false
      overlaps-not =
          (neither (overlaps named.place action.place) false
          (none-of (λ place. list_any (overlaps place) (action.place ∷ [])) (named_places body r) named.number
          named.place no-overlap named.among)).0
