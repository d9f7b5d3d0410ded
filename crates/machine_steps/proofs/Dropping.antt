-- A drop, step by step.
use Rattle.std.proofs.Common.{◌≡◌, inl, inr, ℕ, ◌<◌, List, [], ◌∷◌, ◌++◌, Bool, true, false, Option, Some, None, refl, ap, sym, subst, ◌∙◌, arith, append_assoc}
use Rattle.machine_steps.specs.Continuation.{from_part, Level, PartsOf, ContentOf, DropRest, IsBehind, finished, at_path, found_as, StandsFrom, after_by, HasLeft, IsAfter}
use Rattle.machine_steps.proofs.Below.{later_parts_kept, located_stored, stands_at}
use Rattle.mir_base.specs.declared.trace.Event.{Event}
use Rattle.store_model.specs.declared.address.At.{At}
use Rattle.store_model.specs.declared.address.At.TheVariants.{Part, Inside}
use Rattle.store_model.specs.Concrete.Drops.{in_mode, unwinding_out, if_still_typed, same_if, gone_at, freed_there, freed_at}
use Rattle.store_model.specs.Concrete.Location.{Setting, DynamicType, Located, located_at, stored_at}
use Rattle.store_model.specs.Concrete.State.{State, with_event, Bodies}
use Rattle.store_model.specs.Effects.{Mode, Unwinding, Halt, Stuck, Out, Go, Unwind, Halts}
use Rattle.store_model.specs.Values.Access.{part_at, with_part_at, replaced}
use Rattle.store_model.specs.Values.Datum.{Datum, Data, Gone, Number, Truth, UnitValue, Aggregate, Box, Address}

-- One after another.

pub unwinding_twice : (o : Out State) → unwinding_out (unwinding_out o) ≡ unwinding_out o
unwinding_twice (Go w) = refl
unwinding_twice (Unwind w) = refl
unwinding_twice (Halts halt w) = refl

pub one_by_one : (mode : Mode) (o : Out State) (f g : DropRest) → in_mode mode (in_mode mode o f) g ≡ in_mode mode o (λ mode w. in_mode mode (f mode w) g)
one_by_one mode (Go w) f g = refl
one_by_one mode (Halts halt w) f g = refl
one_by_one mode (Unwind w) f g = go (f Unwinding w)
  where
    go : (o : Out State) → in_mode mode (unwinding_out o) g ≡ unwinding_out (in_mode Unwinding o g)
    go (Go v) = refl
    go (Unwind v) = sym (unwinding_twice (g Unwinding v))
    go (Halts halt v) = refl

pub same_rest : (mode : Mode) (o : Out State) (f g : DropRest) → ((mode : Mode) (w : State) → f mode w ≡ g mode w) → in_mode mode o f ≡ in_mode mode o g
same_rest mode (Go w) f g e = e mode w
same_rest mode (Unwind w) f g e = ap unwinding_out (e Unwinding w)
same_rest mode (Halts halt w) f g e = refl

pub halts_through : (panicked : Bool) (halt : Halt) (w : State) → finished panicked (Halts halt w) ≡ Halts halt w
halts_through true halt w = refl
halts_through false halt w = refl

-- an aggregate of which a part before a number was replaced
pub record PartReplaced (next k : ℕ) (below : List At) (new : Datum) (variant : ℕ) (serial : Option ℕ) (now : Data) : Type 0 where
  pub later : Data
  pub is : replaced (Part k ∷ below) new (Aggregate variant serial now) ≡ Aggregate variant serial later
  pub same : from_part next later ≡ from_part next now

pub part_replaced : (next k : ℕ) (below : List At) (new : Datum) (variant : ℕ) (serial : Option ℕ) (now : Data) → k < next → PartReplaced next k below new variant serial now
part_replaced next k below new variant serial now l = go (part_at k now) refl
  where
    go : (o : Option Datum) → part_at k now ≡ o → PartReplaced next k below new variant serial now
    go None e = record { later = now; is = rw e refl; same = refl }
    go (Some inner) e = record { later = with_part_at k (replaced below new inner) now; is = rw e refl; same = later_parts_kept next k (replaced below new inner) now l }

module _ (setting : Setting) (run : Bodies) (depth key : ℕ) where
  -- What is left stays so: after ticks were spent, and after something was dropped.

  later_by : (levels : List Level) (Left Later : List At → DropRest → Type 0) → ((path : List At) (rest : DropRest) → Left path rest → Later path rest) → (path : List At) (rest : DropRest) →
      after_by setting run depth key levels Left path rest → after_by setting run depth key levels Later path rest
  later_by [] Left Later f path rest h = h
  later_by (level ∷ levels) Left Later f path rest h = record { above = h.above; step = h.step; is = h.is; behind = h.behind; left = f h.above rest h.left }

  pub left_later : (levels : List Level) (w v : State) → v.ticks < w.ticks → (path : List At) (rest : DropRest) → HasLeft setting run depth key levels w path rest → HasLeft setting run depth key levels v path rest
  left_later [] w v l path rest h = h
  left_later (PartsOf dynamic variant next total ticks ∷ levels) w v l path rest h = record {
    fuel = h.fuel;
    enough = h.enough;
    serial = h.serial;
    parts = h.parts;
    counted = h.counted;
    stands = elim h.stands [ inl k ↦ inl (omega (arith, k, l)) | inr k ↦ (let e = k.0 in inl (omega (arith, e, l))) ];
    outer = h.outer;
    after = later_by levels (HasLeft setting run depth key levels w) (HasLeft setting run depth key levels v) (left_later levels w v l) path h.outer h.after;
    does = h.does;
  }
  left_later (ContentOf dynamic ∷ levels) w v l path rest h =
      record { outer = h.outer; after = later_by levels (HasLeft setting run depth key levels w) (HasLeft setting run depth key levels v) (left_later levels w v l) path h.outer h.after; does = h.does }

  pub after_later : (levels : List Level) (w v : State) (path : List At) (rest : DropRest) → v.ticks < w.ticks → IsAfter setting run depth key levels w path rest → IsAfter setting run depth key levels v path rest
  after_later levels w v path rest l h = later_by levels (HasLeft setting run depth key levels w) (HasLeft setting run depth key levels v) (left_later levels w v l) path rest h

  still_stands : (w v : State) (path : List At) (dynamic : DynamicType) (variant next : ℕ) (parts : Data) (k : ℕ) (below : List At) (new : Datum) →
      v.activations ≡ (stored_at (at_path setting run depth key (path ++ Part k ∷ below)) new w).activations → k < next → StandsFrom setting run depth key w path dynamic variant next parts →
      StandsFrom setting run depth key v path dynamic variant next parts
  still_stands w v path dynamic variant next parts k below new e l h =
      let p = part_replaced next k below new variant h.serial h.now l in
      record {
        serial = h.serial;
        now = p.later;
        there = ap (λ acts. located_at setting (record v { activations = acts }) (at_path setting run depth key path)) e
            ∙ located_stored setting w (at_path setting run depth key path) (found_as setting run depth key path dynamic (Aggregate variant h.serial h.now)) h.there (Part k ∷ below) new
            ∙ ap (λ d. Some (found_as setting run depth key path dynamic d)) p.is;
        same = p.same ∙ h.same;
      }

  abbrev first_behind : List Level → At → Type 0
  first_behind [] step = ⊥
  first_behind (level ∷ levels) step = IsBehind level step

  -- something was stored at a path
  abbrev Stored : State → State → List At → Datum → Type 0
  Stored w v path new = (v.ticks ≡ w.ticks) × (v.activations ≡ (stored_at (at_path setting run depth key path) new w).activations)

  -- what is left outside stays so
  abbrev StaysLeft : List Level → State → State → Type 0
  StaysLeft levels w v = (path : List At) (rest : DropRest) (step : At) (below : List At) (new : Datum) → Stored w v (path ++ step ∷ below) new → first_behind levels step →
      HasLeft setting run depth key levels w path rest → HasLeft setting run depth key levels v path rest

  stored_by : (levels : List Level) (w v : State) → StaysLeft levels w v → (path : List At) (rest : DropRest) (below : List At) (new : Datum) → Stored w v (path ++ below) new →
      IsAfter setting run depth key levels w path rest → IsAfter setting run depth key levels v path rest
  stored_by [] w v f path rest below new e h = h
  stored_by (level ∷ levels) w v f path rest below new e h =
      let long : path ++ below ≡ h.above ++ h.step ∷ below = ap (λ p. p ++ below) h.is ∙ append_assoc h.above (h.step ∷ []) below in
      record { above = h.above; step = h.step; is = h.is; behind = h.behind; left = f h.above rest h.step below new (subst (λ p. Stored w v p new) long e) h.behind h.left }

  left_stored : (levels : List Level) (w v : State) → StaysLeft levels w v
  left_stored [] w v path rest step below new e b h = absurd b
  left_stored (PartsOf dynamic variant next total ticks ∷ levels) w v path rest Inside below new e b h = absurd b
  left_stored (PartsOf dynamic variant next total ticks ∷ levels) w v path rest (Part k) below new e b h =
      let t = e.0 in
      record {
        fuel = h.fuel;
        enough = h.enough;
        serial = h.serial;
        parts = h.parts;
        counted = h.counted;
        stands = elim h.stands [
          | inl k ↦ inl (omega (arith, t, k))
          | inr s ↦ inr (t ∙ s.0, still_stands w v path dynamic variant next h.parts k below new e.1 b s.1)
        ];
        outer = h.outer;
        after = stored_by levels w v (left_stored levels w v) path h.outer (Part k ∷ below) new e h.after;
        does = h.does;
      }
  left_stored (ContentOf dynamic ∷ levels) w v path rest (Part k) below new e b h = absurd b
  left_stored (ContentOf dynamic ∷ levels) w v path rest Inside below new e b h =
      record { outer = h.outer; after = stored_by levels w v (left_stored levels w v) path h.outer (Inside ∷ below) new e h.after; does = h.does }

  pub after_stored : (levels : List Level) (w v : State) (path : List At) (rest : DropRest) (below : List At) (new : Datum) → v.ticks ≡ w.ticks →
      v.activations ≡ (stored_at (at_path setting run depth key (path ++ below)) new w).activations →
      IsAfter setting run depth key levels w path rest → IsAfter setting run depth key levels v path rest
  after_stored levels w v path rest below new t e h = stored_by levels w v (left_stored levels w v) path rest below new (t, e) h

  -- What clears a place goes on with it gone.

  pub cleared : (path : List At) (dynamic : DynamicType) (w v : State) → gone_at setting run (found_as setting run depth key path dynamic Gone) w ≡ Go v →
      v ≡ stored_at (at_path setting run depth key path) Gone w
  cleared path dynamic w v is = go (located_at setting w (at_path setting run depth key path)) refl
    where
      go : (o : Option Located) → located_at setting w (at_path setting run depth key path) ≡ o → v ≡ stored_at (at_path setting run depth key path) Gone w
      go None e = absurd (let k : Halts Stuck w ≡ Go v = sym (rw e refl) ∙ is in cc)
      go (Some s) e = by_test s e _ (sym (ap (λ o. if_still_typed setting.items dynamic o (λ s w. Go (stored_at s.address Gone w)) w) e) ∙ is)
        where
          by_test : (s : Located) → located_at setting w (at_path setting run depth key path) ≡ Some s → (b : Bool) → same_if b (λ w. Go (stored_at s.address Gone w)) w ≡ Go v → v ≡ stored_at (at_path setting run depth key path) Gone w
          by_test s e true k =
              let same : stored_at s.address Gone w ≡ v = cc in
              sym same ∙ ap (λ a. stored_at a Gone w) (stands_at setting w (at_path setting run depth key path) s e)
          by_test s e false k = absurd (cc)

  pub freed_there_is : (path : List At) (dynamic : DynamicType) (w v : State) → freed_at setting run (found_as setting run depth key path dynamic Gone) w ≡ Go v →
      (v.ticks ≡ w.ticks) × (v.activations ≡ (stored_at (at_path setting run depth key path) Gone w).activations)
  freed_there_is path dynamic w v is = go (located_at setting w (at_path setting run depth key path)) refl
    where
      by_value : (value : Datum) (s : Located) → s.address ≡ at_path setting run depth key path → freed_there setting run value s w ≡ Go v →
          (v.ticks ≡ w.ticks) × (v.activations ≡ (stored_at (at_path setting run depth key path) Gone w).activations)
      by_value (Box serial impl_no inside) s a k =
          let same : with_event (Event.Freed serial) (stored_at s.address Gone w) ≡ v = cc in
          (ap (λ (v : State). v.ticks) (sym same), ap (λ (v : State). v.activations) (sym same) ∙ ap (λ a. (stored_at a Gone w).activations) a)
      by_value other s a k = absurd (cc)

      by_test : (s : Located) → located_at setting w (at_path setting run depth key path) ≡ Some s → (b : Bool) → same_if b (λ w. freed_there setting run s.value s w) w ≡ Go v →
          (v.ticks ≡ w.ticks) × (v.activations ≡ (stored_at (at_path setting run depth key path) Gone w).activations)
      by_test s e true k = by_value s.value s (stands_at setting w (at_path setting run depth key path) s e) k
      by_test s e false k = absurd (cc)

      go : (o : Option Located) → located_at setting w (at_path setting run depth key path) ≡ o → (v.ticks ≡ w.ticks) × (v.activations ≡ (stored_at (at_path setting run depth key path) Gone w).activations)
      go None e = absurd (let k : Halts Stuck w ≡ Go v = sym (rw e refl) ∙ is in cc)
      go (Some s) e = by_test s e _ (sym (ap (λ o. if_still_typed setting.items dynamic o (λ s w. freed_there setting run s.value s w) w) e) ∙ is)
