-- Where a whole value of its type stands at a place, its parts stand below, whole and of their types.
use Rattle.std.proofs.Common.{◌≡◌, ℕ, zero, suc, ◌==◌, if◌then◌else◌, Bool, true, false, List, [], ◌∷◌, ◌++◌, length, map, Option, Some, None, refl, ap, sym, ◌∙◌, subst}
use Rattle.std.specs.Prelude.{slice_get, option_and_then}
use Rattle.std.specs.Option.{option_map_or}
use Rattle.std.proofs.lemmas.Bool.Decides.{Decides-eqb}
use Rattle.mir_ty.specs.declared.ty.TyId.{TyId}
use Rattle.mir_ty.specs.ItemTable.{ItemTable, type_at}
use Rattle.store_model.specs.declared.address.At.{At}
use Rattle.store_model.specs.declared.address.At.TheVariants.{Part}
use Rattle.store_model.specs.Values.Access.{part, part_at}
use Rattle.store_model.specs.Values.Datum.{Datum, Data, Aggregate, no_part, a_part}
use Rattle.store_model.specs.Places.Place.{Step, ToPart, ToField, Place}
use Rattle.store_model.specs.Concrete.Location.{Setting, DynamicType, OfType, OfObject, Located, Reached, Reaches, CutOff, Nowhere, below, into, located_part, type_of_part, on_reached, reach_of, reach_if, located_root, into_field, follow_from, along, in_youngest, reach, is_of_type}
use Rattle.store_model.specs.Concrete.State.{State, Activation, Cells}
use Rattle.src_meaning.specs.Locals.Effects.{step_at, place_at}
use Rattle.src_meaning.specs.Shape.{extended}
use Rattle.src_meaning.specs.Takes as taking
use Rattle.soundness_values.specs.Typed.{IsOf, ArePartsOf, is_found}
use Rattle.match_laws.specs.Matches.{Stands}

on_same : (r : Reached) → on_reached r Reaches CutOff Nowhere ≡ r
on_same (Reaches s) = refl
on_same CutOff = refl
on_same Nowhere = refl

map_last : {A B : Type 0} (f : A → B) (list : List A) (x : A) → map f (list ++ x ∷ []) ≡ map f list ++ f x ∷ []
map_last f [] x = refl
map_last f (y ∷ list) x = ap (λ l. f y ∷ l) (map_last f list x)

-- ---- one step further

module _ (setting : Setting) (w : State) where
  along_further : (held : Cells) (steps : List Step) (step : Step) (from s : Located) →
      along setting w held steps from ≡ Reaches s →
      along setting w held (steps ++ step ∷ []) from ≡ follow_from setting w held step s.value s
  along_further held [] step from s e =
      let same : from ≡ s = cc in
      on_same (follow_from setting w held step from.value from)
      ∙ ap (λ (x : Located). follow_from setting w held step x.value x) same
  along_further held (first ∷ steps) step from s e =
      by (λ t. along_further held steps step t s) (follow_from setting w held first from.value from) e
    where
      by : ((t : Located) → along setting w held steps t ≡ Reaches s →
          along setting w held (steps ++ step ∷ []) t ≡ follow_from setting w held step s.value s) →
          (r : Reached) → on_reached r (along setting w held steps) CutOff Nowhere ≡ Reaches s →
          on_reached r (along setting w held (steps ++ step ∷ [])) CutOff Nowhere
          ≡ follow_from setting w held step s.value s
      by later (Reaches t) k = later t k
      by later CutOff k = absurd (let never : ⊥ = cc in never)
      by later Nowhere k = absurd (let never : ⊥ = cc in never)

  -- a step below a value leads where it leads in any cells
  abbrev Leads : Step → Located → Reached → Type 0
  Leads step s r = (held : Cells) → follow_from setting w held step s.value s ≡ r

  youngest_further : (local : ℕ) (steps : List Step) (step : Step) (s : Located) (r : Reached) → Leads step s r →
      (acts : List Activation) → in_youngest setting w (record { local = local; steps = steps }) acts ≡ Reaches s →
      in_youngest setting w (record { local = local; steps = steps ++ step ∷ [] }) acts ≡ r
  youngest_further local steps step s r leads [] e = absurd (let never : ⊥ = cc in never)
  youngest_further local steps step s r leads (a ∷ older) e =
      by (reach_of (located_root (length older) local a.cells (setting.local_ty a.body local))) e
    where
      by : (t : Reached) → on_reached t (along setting w a.cells steps) CutOff Nowhere ≡ Reaches s →
          on_reached t (along setting w a.cells (steps ++ step ∷ [])) CutOff Nowhere ≡ r
      by (Reaches root) k = along_further a.cells steps step root s k ∙ leads a.cells
      by CutOff k = absurd (let never : ⊥ = cc in never)
      by Nowhere k = absurd (let never : ⊥ = cc in never)

  pub reach_further : (local_of : ℕ → ℕ) (place : Place) (step : Step) (s : Located) (r : Reached) →
      Leads (step_at local_of step) s r → reach setting w (place_at local_of place) ≡ Reaches s →
      reach setting w (place_at local_of (extended step place)) ≡ r
  reach_further local_of place step s r leads e =
      ap (λ l. in_youngest setting w (record { local = local_of place.local; steps = l }) w.activations)
      (map_last (step_at local_of) place.steps step)
      ∙ youngest_further (local_of place.local) (map (step_at local_of) place.steps) (step_at local_of step) s r leads
      w.activations e

-- ---- a part of a value of its type

record PartIs (items : ItemTable) (f : DynamicType) (o : Option Datum) : Type 0 where
  value : Datum
  is : o ≡ Some value
  whole : IsOf items f value

nth_part : (items : ItemTable) (found_at : ℕ → Option DynamicType) (parts : Data) (n : ℕ) (f : DynamicType) →
    found_at n ≡ Some f → ArePartsOf items found_at parts → PartIs items f (part_at n parts)
nth_part items found_at no_part n f e h = absurd (let none : found_at n ≡ None = h n in let never : ⊥ = cc in never)
nth_part items found_at (a_part first rest) zero f e h =
    let same : h.0.0 ≡ f = let one : found_at 0 ≡ Some h.0.0 = h.0.1 in cc in
    record { value = first; is = refl; whole = subst (λ g. IsOf items g first) same h.0.2 }
nth_part items found_at (a_part first rest) (suc n) f e h = nth_part items (λ k. found_at (suc k)) rest n f e h.1

same_type : (id : TyId) → (id.0 == id.0) ≡ true
same_type id = (Decides-eqb id.0 id.0).1 refl

-- a part, where it stands
pub record PartStands (setting : Setting) (local_of : ℕ → ℕ) (w : State) (place : Place) (step : Step) (want : TyId)
    (s : Located) : Type 0 where
  pub standing : Located
  pub stands : Stands setting local_of w (extended step place) want standing
  pub is : taking.part_at step (Some s.value) ≡ Some standing.value

module _ (setting : Setting) (local_of : ℕ → ℕ) (w : State) (place : Place) (ty : TyId) (s : Located)
    (there : Stands setting local_of w place ty s) (active : ℕ) (serial : Option ℕ) (parts : Data)
    (value : s.value ≡ Aggregate active serial parts) where
  abbrev items : ItemTable
  items = setting.items

  whole : IsOf items s.dynamic (Aggregate active serial parts)
  whole = subst (IsOf items s.dynamic) value there.whole

  module _ (n : ℕ) (want : TyId)
      (typed : type_of_part items (Part n) (Aggregate active serial no_part) s.dynamic ≡ Some (OfType want)) where
    one : PartIs items (OfType want) (part_at n parts)
    one = nth_part items (λ k. type_of_part items (Part k) (Aggregate active serial no_part) s.dynamic) parts n
        (OfType want) typed whole.2

    abbrev standing : Located
    standing = record { address = below s.address (Part n); dynamic = OfType want; value = one.value }

    leads : reach_of (into items (Part n) s) ≡ Reaches standing
    leads = ap (λ d. reach_of (located_part s (Part n) (part (Part n) d) (type_of_part items (Part n) d s.dynamic)))
        value
        ∙ ap (λ o. reach_of (located_part s (Part n) o (type_of_part items (Part n) (Aggregate active serial no_part)
        s.dynamic))) one.is
        ∙ ap (λ o. reach_of (located_part s (Part n) (Some one.value) o)) typed

    at_part : (step : Step) → reach setting w (place_at local_of (extended step place)) ≡ Reaches standing →
        Stands setting local_of w (extended step place) want standing
    at_part step e = record { reached = e; of_type = same_type want; found = refl; whole = one.whole }

    pub part_stands : PartStands setting local_of w place (ToPart n) want s
    part_stands = record {
      standing = standing;
      stands = at_part (ToPart n) (reach_further setting w local_of place (ToPart n) s (Reaches standing)
          (λ held. ap (λ d. follow_from setting w held (ToPart n) d s) value ∙ leads) there.reached);
      is = ap (λ d. taking.part_at (ToPart n) (Some d)) value ∙ one.is;
    }

    pub field_stands : (variant : ℕ) → (variant == active) ≡ true →
        PartStands setting local_of w place (ToField variant n) want s
    field_stands variant same = record {
      standing = standing;
      stands = at_part (ToField variant n) (reach_further setting w local_of place (ToField variant n) s
          (Reaches standing)
          (λ held. ap (λ d. follow_from setting w held (ToField variant n) d s) value
          ∙ ap (λ d. into_field setting w held variant n d s) value
          ∙ ap (λ b. reach_if b (into items (Part n) s)) same ∙ leads) there.reached);
      is = ap (λ d. taking.part_at (ToField variant n) (Some d)) value
          ∙ ap (λ b. if b then part (Part n) (Aggregate active serial parts) else None) same
          ∙ one.is;
    }
