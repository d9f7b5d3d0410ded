-- A place that goes through no reference that is made is followed to itself alone; so what spares what is named is apart
-- from the one place.
use Rattle.std.proofs.Common.{◌≡◌, ℕ, zero, suc, ◌==◌, ◌||◌, not, Bool, true, false, List, [], ◌∷◌, length, Option, Some, None, refl, sym, ap, subst, ◌∙◌}
use Rattle.std.specs.Option.{option_map_or}
use Rattle.cfg_graph.specs.declared.graph.Body.{Body}
use Rattle.cfg_graph.specs.NamedPlaces.{named_by, references_made, behind, follow, followed, named_places, takes, overlaps, overlap, goes_through}
use Rattle.store_model.specs.Places.Place.{Step, ToPart, ToField, ToContent, ToElement, Place}
use Rattle.lower_ready.proofs.NamedLines.{is_plain}
use Rattle.lower_ready.proofs.NamedWatch as watch
use Rattle.lower_ready.proofs.Noting.{Note}

-- it leads through no reference that is made here
abbrev pub IsDirect : Body → Place → Type 0
IsDirect body place = behind (references_made body) place.local place.steps ≡ None

-- so does a whole local, and a place in a local in which no reference is made
pub whole_direct : (body : Body) (local : ℕ) → IsDirect body (record { local = local; steps = [] })
whole_direct body local = refl

pub unmade_direct : (body : Body) (place : Place) → named_by place.local (references_made body) ≡ None →
    IsDirect body place
unmade_direct body place e = by place.steps
  where
    by : (steps : List Step) → behind (references_made body) place.local steps ≡ None
    by [] = refl
    by (ToPart n ∷ steps) = refl
    by (ToField v n ∷ steps) = refl
    by (ToElement i ∷ steps) = refl
    by (ToContent ∷ steps) =
        ap (λ (o : Option Place). option_map_or
        (λ (p : Place). Some (Rattle.cfg_graph.specs.NamedPlaces.further steps p)) o None) e

pub followed_alone : (body : Body) (place : Place) → IsDirect body place → followed body place ≡ place ∷ []
followed_alone body place e = by (length (references_made body))
  where
    by : (most : ℕ) → follow (references_made body) most place ≡ place ∷ []
    by zero = refl
    by (suc most) = ap (λ (o : Option Place). place ∷ option_map_or (follow (references_made body) most) o []) e

or_end : (b : Bool) → (b || false) ≡ b
or_end true = refl
or_end false = refl

module _ (body : Body) (local : ℕ) (named : Place) (made : named_by local (references_made body) ≡ Some named)
    (direct : IsDirect body named) where
  names_one : named_places body local ≡ named ∷ []
  names_one = ap (λ (o : Option Place). option_map_or (followed body) o []) made ∙ followed_alone body named direct

  -- what spares what is named is apart from the one place
  pub spared_plain : (x : Note) → IsDirect body x.1 → watch.is_spared body local x ≡ is_plain body local named x
  spared_plain x e =
      ap (λ (ps : List Place). not (takes body (watch.as_action body local x)) || goes_through body local ps
      || not (overlap body (named_places body local) ps)) (followed_alone body x.1 e)
      ∙ ap (λ (ns : List Place). not (takes body (watch.as_action body local x)) || ((x.1.local == local) || false)
      || not (overlap body ns (x.1 ∷ []))) names_one
      ∙ both (not (takes body (watch.as_action body local x))) (x.1.local == local) (overlaps named x.1)
    where
      both : (a b c : Bool) → (a || (b || false) || not ((c || false) || false)) ≡ (a || (b || not c))
      both true true true = refl
      both true true false = refl
      both true false true = refl
      both true false false = refl
      both false true true = refl
      both false true false = refl
      both false false true = refl
      both false false false = refl
