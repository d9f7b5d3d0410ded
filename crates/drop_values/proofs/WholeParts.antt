-- Paths in a whole value: what stands on them is whole, and no path goes on below what is gone.
use Rattle.std.proofs.Common.{◌≡◌, inl, inr, ℕ, zero, suc, List, [], ◌∷◌, Option, Some, None, refl, ap, sym, ◌∙◌, subst}
use Rattle.std.specs.Option.{option_and_then}
use Rattle.std.proofs.lemmas.Option.{none-some}
use Rattle.store_model.specs.declared.address.At.{At}
use Rattle.store_model.specs.declared.address.At.TheVariants.{Part, Inside}
use Rattle.store_model.proofs.Values.Access.{same_step_or_not}
use Rattle.store_model.specs.Values.Access.{part, part_at, value_at, AreApart}
use Rattle.store_model.specs.Values.Datum.{Datum, Data, Gone, Number, Truth, UnitValue, Aggregate, Box, Address, no_part, a_part}
use Rattle.store_model.specs.Values.Wholeness.{IsWhole, AreWhole}

-- ---- a whole value stands apart from what is gone

whole-part_at : (n : ℕ) (parts : Data) (inner : Datum) → AreWhole parts → part_at n parts ≡ Some inner → IsWhole inner
whole-part_at n no_part inner h e = absurd (none-some inner e)
whole-part_at zero (a_part first rest) inner h e = subst IsWhole (let x : first ≡ inner = cc in x) h.0
whole-part_at (suc n) (a_part first rest) inner h e = whole-part_at n rest inner h.1 e

pub whole-part : (step : At) (d inner : Datum) → IsWhole d → part step d ≡ Some inner → IsWhole inner
whole-part (Part n) (Aggregate variant serial parts) inner h e = whole-part_at n parts inner h e
whole-part Inside (Box serial impl_no inside) inner h e = subst IsWhole (let x : inside ≡ inner = cc in x) h
whole-part (Part n) Gone inner h e = absurd h
whole-part (Part n) (Number x) inner h e = absurd (none-some inner e)
whole-part (Part n) (Truth x) inner h e = absurd (none-some inner e)
whole-part (Part n) UnitValue inner h e = absurd (none-some inner e)
whole-part (Part n) (Box serial impl_no inside) inner h e = absurd (none-some inner e)
whole-part (Part n) (Address a) inner h e = absurd (none-some inner e)
whole-part Inside Gone inner h e = absurd h
whole-part Inside (Number x) inner h e = absurd (none-some inner e)
whole-part Inside (Truth x) inner h e = absurd (none-some inner e)
whole-part Inside UnitValue inner h e = absurd (none-some inner e)
whole-part Inside (Aggregate variant serial parts) inner h e = absurd (none-some inner e)
whole-part Inside (Address a) inner h e = absurd (none-some inner e)

-- by way of a part
pub record Through (step : At) (path : List At) (root d : Datum) : Type 0 where
  pub inner : Datum
  pub part_is : part step root ≡ Some inner
  pub rest : value_at path inner ≡ Some d

pub through : (step : At) (path : List At) (root d : Datum) → value_at (step ∷ path) root ≡ Some d → Through step path
    root d
through step path root d e = by (part step root) refl e
  where
    by : (o : Option Datum) → part step root ≡ o → option_and_then (value_at path) o ≡ Some d → Through step path root d
    by None h e = absurd (none-some d e)
    by (Some inner) h e = record { inner = inner; part_is = h; rest = e }

pub whole-nowhere-gone : (path : List At) (root : Datum) → IsWhole root → value_at path root ≡ Some Gone → ⊥
whole-nowhere-gone [] root h e = subst IsWhole (let x : root ≡ Gone = cc in x) h
whole-nowhere-gone (step ∷ path) root h e =
    let t = through step path root Gone e in whole-nowhere-gone path t.inner (whole-part step root t.inner h t.part_is)
    t.rest

pub nothing-below-gone : (step : At) (path : List At) (d : Datum) → value_at (step ∷ path) Gone ≡ Some d → ⊥
nothing-below-gone (Part n) path d e = none-some d e
nothing-below-gone Inside path d e = none-some d e

pub turned : (one other : List At) → AreApart one other → AreApart other one
turned one other h = record {
  above = h.above;
  one_step = h.other_step;
  one_below = h.other_below;
  other_step = h.one_step;
  other_below = h.one_below;
  one_is = h.other_is;
  other_is = h.one_is;
  differ = λ e. h.differ (sym e);
}

pub apart-from-gone : (path other : List At) (root d : Datum) → value_at path root ≡ Some Gone →
    value_at other root ≡ Some d → IsWhole d → AreApart path other
apart-from-gone [] [] root d e h w =
    absurd (subst IsWhole (let x : d ≡ Gone = (let y : Some Gone ≡ Some d = sym e ∙ h in cc) in x) w)
apart-from-gone [] (step ∷ other) root d e h w =
    absurd (nothing-below-gone step other d (subst (λ r. value_at (step ∷ other) r ≡ Some d)
    (let x : root ≡ Gone = cc in x) h))
apart-from-gone (step ∷ path) [] root d e h w =
    absurd (whole-nowhere-gone (step ∷ path) root (subst IsWhole (let x : d ≡ root = cc in x) w) e)
apart-from-gone (step ∷ path) (next ∷ other) root d e h w = elim (same_step_or_not step next) [
  | inr differ ↦ record {
    above = [];
    one_step = step;
    one_below = path;
    other_step = next;
    other_below = other;
    one_is = refl;
    other_is = refl;
    differ = differ;
  }
  | inl same ↦ (
      let t = through step path root Gone e in
      let u = through next other root d h in
      let one : u.inner ≡ t.inner = (let x : Some u.inner ≡ Some t.inner =
      sym u.part_is ∙ ap (λ s. part s root) (sym same) ∙ t.part_is in cc) in
      let r = apart-from-gone path other t.inner d t.rest (subst (λ r. value_at other r ≡ Some d) one u.rest) w in
      record {
        above = step ∷ r.above;
        one_step = r.one_step;
        one_below = r.one_below;
        other_step = r.other_step;
        other_below = r.other_below;
        one_is = ap (λ p. step ∷ p) r.one_is;
        other_is = ap (λ s. s ∷ other) (sym same) ∙ ap (λ p. step ∷ p) r.other_is;
        differ = r.differ;
      }
      )
]
