-- What is known of a value goes by what is gone at each place alone, however that is written down.
use Rattle.std.proofs.Common.{◌≡◌, ℕ, suc, List, [], ◌∷◌, Option, refl, sym, ◌∙◌}
use Rattle.mir_ty.specs.ItemTable.{ItemTable}
use Rattle.store_model.specs.declared.address.At.{At}
use Rattle.store_model.specs.Abstract.Presence.{Presence, itself_gone, presence_at, presence_along}
use Rattle.store_model.specs.Concrete.Location.{DynamicType}
use Rattle.store_model.specs.Places.Place.{Step, ToContent}
use Rattle.store_model.specs.Values.Datum.{Datum, Data, Gone, Number, Truth, UnitValue, Aggregate, Box, Address, no_part, a_part}
use Rattle.drop_values.specs.Typed.{part_step, Fits, PartsFit}
use Rattle.drop_values.proofs.Behind.{Leads, stops, by_part, by_content}

-- the same places are gone
abbrev pub Alike : Presence → Presence → Type 0
Alike p q = (steps : List Step) → itself_gone (presence_along steps p) ≡ itself_gone (presence_along steps q)

pub alike-at : (step : Step) (p q : Presence) → Alike p q → Alike (presence_at step p) (presence_at step q)
alike-at step p q h steps = h (step ∷ steps)

module _ (items : ItemTable) where
  mutual
    pub alike-Fits : (d : Datum) (found : DynamicType) (p q : Presence) → Alike p q → Fits items found p d →
        Fits items found q d
    alike-Fits Gone found p q h k = sym (h []) ∙ k
    alike-Fits (Number x) found p q h k = (sym (h []) ∙ k.0, k.1)
    alike-Fits (Truth x) found p q h k = (sym (h []) ∙ k.0, k.1)
    alike-Fits UnitValue found p q h k = (sym (h []) ∙ k.0, k.1)
    alike-Fits (Address a) found p q h k = (sym (h []) ∙ k.0, k.1)
    alike-Fits (Aggregate variant serial parts) found p q h k = (
      sym (h []) ∙ k.0,
      k.1,
      k.2,
      alike-PartsFit parts _ (λ n. presence_at (part_step items found variant n) p)
          (λ n. presence_at (part_step items found variant n) q)
          (λ n. alike-at (part_step items found variant n) p q h) k.3,
    )
    alike-Fits (Box serial impl_no inside) found p q h k = (
      sym (h []) ∙ k.0,
      k.1,
      (
        k.2.0,
        k.2.1,
        alike-Fits inside k.2.0 (presence_at ToContent p) (presence_at ToContent q) (alike-at ToContent p q h) k.2.2,
      ),
    )

    alike-PartsFit : (parts : Data) (found_at : ℕ → Option DynamicType) (p q : ℕ → Presence) →
        ((n : ℕ) → Alike (p n) (q n)) → PartsFit items found_at p parts → PartsFit items found_at q parts
    alike-PartsFit no_part found_at p q h k = k
    alike-PartsFit (a_part first rest) found_at p q h k = (
      (k.0.0, k.0.1, alike-Fits first k.0.0 (p 0) (q 0) (h 0) k.0.2),
      alike-PartsFit rest (λ n. found_at (suc n)) (λ n. p (suc n)) (λ n. q (suc n)) (λ n. h (suc n)) k.1,
    )

  -- where a path leads, by what is known otherwise: to what is known at the end of the same steps
  pub record OtherLeads (path : List At) (found : DynamicType) (p p' : Presence) (d : Datum) (f : DynamicType)
      (q : Presence) (e : Datum) : Type 0 where
    pub steps : List Step
    pub end_is : q ≡ presence_along steps p
    pub leads : Leads items path found p' d f (presence_along steps p') e

  pub other-leads : {path : List At} {found f : DynamicType} {p q : Presence} {d e : Datum} (p' : Presence) →
      Leads items path found p d f q e → OtherLeads path found p p' d f q e
  other-leads p' (stops found p d) = record { steps = []; end_is = refl; leads = stops found p' d }
  other-leads p' (by_part path found p variant serial parts n inner f f' q d' is_part is_found rest) =
      let r = other-leads (presence_at (part_step items found variant n) p') rest in record {
        steps = part_step items found variant n ∷ r.steps;
        end_is = r.end_is;
        leads = by_part path found p' variant serial parts n inner f f'
            (presence_along r.steps (presence_at (part_step items found variant n) p')) d' is_part is_found r.leads;
      }
  other-leads p' (by_content path found p serial impl_no inside f f' q d' is_found rest) =
      let r = other-leads (presence_at ToContent p') rest in record {
        steps = ToContent ∷ r.steps;
        end_is = r.end_is;
        leads = by_content path found p' serial impl_no inside f f'
            (presence_along r.steps (presence_at ToContent p')) d' is_found r.leads;
      }
