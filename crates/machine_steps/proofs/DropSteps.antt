-- What one step of a drop leaves.
use Rattle.std.proofs.Common.{◌≡◌, inl, inr, ℕ, zero, suc, ◌==◌, ◌<◌, ◌≤◌, List, [], ◌∷◌, ◌++◌, Bool, true, false, Option, Some, None, slice_get, refl, ap, sym, subst, ◌∙◌, arith, append-nil}
use Rattle.std.proofs.lemmas.Bool.Decides.{Decides-eqb}
use Rattle.std.specs.Option.{option_map_or}
use Rattle.machine_steps.specs.Continuation.{from_part, is_still, is_expected, expected_if, found_of, told_serial, IsPlain, own_impl, type_of_number, Level, PartsOf, ContentOf, DropRest, finished, at_path, found_as, StandsFrom, PartsLeft, HasLeft, IsAfter, Visits, AsRead, Again, LeavesLeft, GoesLeft, ClearsLeft, FreesLeft, VisitsLeft, ReadLeft, AwaitsLeft, EntersLeft}
use Rattle.machine_steps.proofs.Below.{next_part, stands_at, located_step, into_is, into_untyped, parts_of_into}
use Rattle.machine_steps.proofs.Dropping.{unwinding_twice, one_by_one, same_rest, halts_through, after_later, after_stored, cleared, freed_there_is}
use Rattle.mir_base.specs.declared.trace.Event.{Event}
use Rattle.mir_ty.specs.ItemTable.{ItemTable}
use Rattle.mir_ty.specs.Parts.{parts_of}
use Rattle.mir_ty.specs.declared.ty.TyId.{TyId}
use Rattle.mir_ty.specs.declared.ty.Ty.{Ty}
use Rattle.store_model.specs.declared.address.At.{At}
use Rattle.store_model.specs.declared.address.At.TheVariants.{Part, Inside}
use Rattle.store_model.specs.Concrete.Drops.{Stage, Begins, HasRun, in_mode, drop_body_out, unwinding_out, if_still_typed, same_if, gone_at, freed_there, freed_at, as_read, if_part, with_body, own_body, drop_impl, drop_value, drop_parts, dropped_there, drop_at}
use Rattle.store_model.specs.Concrete.Location.{Setting, DynamicType, OfType, OfObject, Located, type_of_part, concrete_ty, into, located_at, stored_at}
use Rattle.store_model.specs.Concrete.State.{State, Answer, Returns, Unwinds, HaltsIn, Bodies}
use Rattle.store_model.specs.Effects.{Mode, Normal, Unwinding, Halt, Aborted, Stuck, Out, Go, Halts}
use Rattle.store_model.specs.Values.Access.{part}
use Rattle.store_model.specs.Values.Datum.{Datum, Data, Gone, Number, Truth, UnitValue, Aggregate, Box, Address, no_part, a_part}
use Rattle.store_model.specs.Values.Parts.{count}

abbrev serial_or_zero : Option ℕ → ℕ
serial_or_zero None = 0
serial_or_zero (Some serial) = serial

no_step : (above : List At) (step : At) → [] ≡ above ++ step ∷ [] → ⊥
no_step [] step e = absurd (cc)
no_step (one ∷ above) step e = absurd (cc)

append_last : (above : List At) (step : At) (other : List At) (last : At) → above ++ step ∷ [] ≡ other ++ last ∷ [] → (above ≡ other) × (step ≡ last)
append_last [] step [] last e = (refl, (let k : step ≡ last = cc in k))
append_last [] step (x ∷ other) last e = absurd (no_step other last (let k : [] ≡ other ++ last ∷ [] = cc in k))
append_last (x ∷ above) step [] last e = absurd (no_step above step (let k : above ++ step ∷ [] ≡ [] = cc in sym k))
append_last (x ∷ above) step (y ∷ other) last e =
    let first : x ≡ y = cc in
    let rest = append_last above step other last (let k : above ++ step ∷ [] ≡ other ++ last ∷ [] = cc in k) in
    (ap (λ x. x ∷ above) first ∙ ap (λ l. y ∷ l) rest.0, rest.1)

pub still_is : (items : ItemTable) (dynamic : DynamicType) (s : Located) (next : Located → State → Out State) (w : State) →
    if_still_typed items dynamic (Some s) next w ≡ same_if (is_still items dynamic s.dynamic) (next s) w
still_is items (OfType id) s next w = refl
still_is items (OfObject id impl_no) s next w = refl

-- a halt in a step is the halt of the whole
pub halts_whole : (mode : Mode) (panicked : Bool) (halt : Halt) (v : State) (o out : Out State) (rest : DropRest) → o ≡ Halts halt v → out ≡ finished panicked (in_mode mode o rest) → out ≡ Halts halt v
halts_whole mode panicked halt v o out rest e is = is ∙ ap (λ o. finished panicked (in_mode mode o rest)) e ∙ halts_through panicked halt v

no_parts_past : (n : ℕ) (parts : Data) → count parts ≤ n → from_part n parts ≡ no_part
no_parts_past zero no_part l = refl
no_parts_past zero (a_part first rest) l = absurd (let never : ⊥ = omega arith in never)
no_parts_past (suc n) no_part l = refl
no_parts_past (suc n) (a_part first rest) l = no_parts_past n rest (omega arith)

pub later_same : (n : ℕ) (now parts : Data) → from_part n now ≡ from_part n parts → from_part (suc n) now ≡ from_part (suc n) parts
later_same n now parts e = later n now ∙ ap (from_part 1) e ∙ sym (later n parts)
  where
    later : (n : ℕ) (parts : Data) → from_part (suc n) parts ≡ from_part 1 (from_part n parts)
    later zero parts = refl
    later (suc n) no_part = refl
    later (suc n) (a_part first rest) = later n rest

record HasPart (n : ℕ) (parts : Data) : Type 0 where
  pub first : Datum
  pub rest : Data
  pub is : from_part n parts ≡ a_part first rest

has_part : (n : ℕ) (parts : Data) → n < count parts → HasPart n parts
has_part n no_part l = absurd (let never : ⊥ = omega arith in never)
has_part zero (a_part first rest) l = record { first = first; rest = rest; is = refl }
has_part (suc n) (a_part first rest) l = let h = has_part n rest (omega arith) in record { first = h.first; rest = h.rest; is = h.is }

pub typed_by_number : (items : ItemTable) (dynamic : DynamicType) (variant n : ℕ) (serial : Option ℕ) (parts : Data) →
    type_of_part items (Part n) (Aggregate variant serial parts) dynamic ≡ type_of_number items dynamic variant n
typed_by_number items dynamic variant n serial parts = go (concrete_ty items dynamic) refl
  where
    field : (o : Option TyId) → option_map_or (λ id. Some (OfType id)) o None ≡ found_of o
    field None = refl
    field (Some id) = refl

    go : (o : Option Ty) → concrete_ty items dynamic ≡ o → type_of_part items (Part n) (Aggregate variant serial parts) dynamic ≡ type_of_number items dynamic variant n
    go None e = rw e refl
    go (Some ty) e = rw e (field (slice_get (parts_of items ty variant) n))

module _ (setting : Setting) (run : Bodies) (depth key : ℕ) where
  abbrev here : List At → DynamicType → Located
  here path dynamic = found_as setting run depth key path dynamic Gone

  -- a drop asks of what it was given no more than where it stands and as what it was found
  dropped_same : (fuel : ℕ) (stage : Stage) (s : Located) (path : List At) (dynamic : DynamicType) → s.address ≡ at_path setting run depth key path → s.dynamic ≡ dynamic → (mode : Mode) (v : State) →
      drop_at setting run fuel stage s mode v ≡ drop_at setting run fuel stage (here path dynamic) mode v
  dropped_same zero stage s path dynamic a d mode v = refl
  dropped_same (suc n) stage s path dynamic a d mode v =
      ap (λ a. if_still_typed setting.items s.dynamic (located_at setting v a) (dropped_there setting run (drop_at setting run n) stage mode) v) a
      ∙ ap (λ d. if_still_typed setting.items d (located_at setting v (at_path setting run depth key path)) (dropped_there setting run (drop_at setting run n) stage mode) v) d

  gone_same : (s : Located) (path : List At) → s.address ≡ at_path setting run depth key path → (v : State) → gone_at setting run s v ≡ gone_at setting run (here path s.dynamic) v
  gone_same s path a v = ap (λ a. if_still_typed setting.items s.dynamic (located_at setting v a) (λ s w. Go (stored_at s.address Gone w)) v) a

  freed_same : (s : Located) (path : List At) → s.address ≡ at_path setting run depth key path → (v : State) → freed_at setting run s v ≡ freed_at setting run (here path s.dynamic) v
  freed_same s path a v = ap (λ a. if_still_typed setting.items s.dynamic (located_at setting v a) (λ s w. freed_there setting run s.value s w) v) a

  module _ (levels : List Level) (mode : Mode) (panicked : Bool) (out : Out State) where
    -- What clears and frees.

    pub clear_goes : (w v : State) (path : List At) (dynamic : DynamicType) → ClearsLeft setting run depth key levels w path mode panicked out dynamic → gone_at setting run (here path dynamic) w ≡ Go v →
        LeavesLeft setting run depth key levels v path mode panicked out
    clear_goes w v path dynamic h e =
        let same = cleared setting run depth key path dynamic w v e in
        record {
          rest = h.rest;
          is_rest = after_stored setting run depth key levels w v path h.rest [] Gone (ap (λ (v : State). v.ticks) same)
              (ap (λ (v : State). v.activations) same ∙ ap (λ p. (stored_at (at_path setting run depth key p) Gone w).activations) (sym (append-nil path))) h.is_rest;
          is = h.is ∙ ap (λ o. finished panicked (in_mode mode o h.rest)) e;
        }

    pub clear_halts : (w v : State) (path : List At) (dynamic : DynamicType) (halt : Halt) → ClearsLeft setting run depth key levels w path mode panicked out dynamic → gone_at setting run (here path dynamic) w ≡ Halts halt v →
        out ≡ Halts halt v
    clear_halts w v path dynamic halt h e = halts_whole mode panicked halt v _ out h.rest e h.is

    pub free_goes : (w v : State) (path : List At) (dynamic : DynamicType) → FreesLeft setting run depth key levels w path mode panicked out dynamic → freed_at setting run (here path dynamic) w ≡ Go v →
        LeavesLeft setting run depth key levels v path mode panicked out
    free_goes w v path dynamic h e =
        let same = freed_there_is setting run depth key path dynamic w v e in
        record {
          rest = h.rest;
          is_rest = after_stored setting run depth key levels w v path h.rest [] Gone same.0
              (same.1 ∙ ap (λ p. (stored_at (at_path setting run depth key p) Gone w).activations) (sym (append-nil path))) h.is_rest;
          is = h.is ∙ ap (λ o. finished panicked (in_mode mode o h.rest)) e;
        }

    pub free_halts : (w v : State) (path : List At) (dynamic : DynamicType) (halt : Halt) → FreesLeft setting run depth key levels w path mode panicked out dynamic → freed_at setting run (here path dynamic) w ≡ Halts halt v →
        out ≡ Halts halt v
    free_halts w v path dynamic halt h e = halts_whole mode panicked halt v _ out h.rest e h.is

    -- What leaves a value.

    pub leave_ends : (w : State) (path : List At) → levels ≡ [] → LeavesLeft setting run depth key levels w path mode panicked out → out ≡ finished panicked (Go w)
    leave_ends w path e h = h.is ∙ ap (finished panicked) (subst (λ l. IsAfter setting run depth key l w path h.rest) e h.is_rest mode w)

    pub leave_goes : (level : Level) (w : State) (above : List At) (step : At) → LeavesLeft setting run depth key (level ∷ levels) w (above ++ step ∷ []) mode panicked out →
        GoesLeft setting run depth key (level ∷ levels) w above mode panicked out
    leave_goes level w above step h =
        let after = h.is_rest in
        record { rest = h.rest; is_rest = subst (λ p. HasLeft setting run depth key (level ∷ levels) w p h.rest) (sym (append_last above step after.above after.step after.is).0) after.left; is = h.is }

    pub leave_has_step : (level : Level) (w : State) (path : List At) → LeavesLeft setting run depth key (level ∷ levels) w path mode panicked out → path ≡ [] → ⊥
    leave_has_step level w path h e = no_step h.is_rest.above h.is_rest.step (sym e ∙ h.is_rest.is)

    -- What goes on with a container.

    pub go_content : (w : State) (path : List At) (dynamic : DynamicType) → GoesLeft setting run depth key (ContentOf dynamic ∷ levels) w path mode panicked out →
        FreesLeft setting run depth key levels w path mode panicked out dynamic
    go_content w path dynamic h = record { rest = h.is_rest.outer; is_rest = h.is_rest.after; is = h.is ∙ ap (finished panicked) (h.is_rest.does mode w) }

    module _ (w : State) (path : List At) (dynamic : DynamicType) (variant next total ticks : ℕ)
        (h : GoesLeft setting run depth key (PartsOf dynamic variant next total ticks ∷ levels) w path mode panicked out) where
      pub go_end : total ≤ next → ClearsLeft setting run depth key levels w path mode panicked out dynamic
      go_end l =
          let p = h.is_rest in
          let c = p.counted in
          let none : from_part next p.parts ≡ no_part = no_parts_past next p.parts (omega (arith, c)) in
          record {
            rest = p.outer;
            is_rest = p.after;
            is = h.is ∙ ap (finished panicked) (p.does mode w
                ∙ ap (λ d. in_mode mode (drop_parts setting run (drop_at setting run p.fuel) ticks d next (found_as setting run depth key path dynamic (Aggregate variant p.serial p.parts)) mode w)
                (λ mode v. in_mode mode (gone_at setting run (here path dynamic) v) p.outer)) none);
          }

      -- a part that has no type
      pub go_untyped : next < total → type_of_number setting.items dynamic variant next ≡ None → out ≡ Halts Stuck w
      go_untyped l e =
          let p = h.is_rest in
          let c = p.counted in
          let first = has_part next p.parts (omega (arith, c)) in
          let whole = found_as setting run depth key path dynamic (Aggregate variant p.serial p.parts) in
          let none : into setting.items (Part next) whole ≡ None = into_untyped setting.items (Part next) whole (typed_by_number setting.items dynamic variant next p.serial p.parts ∙ e) in
          halts_whole mode panicked Stuck w
          (drop_parts setting run (drop_at setting run p.fuel) ticks (from_part next p.parts) next whole mode w) out
          (λ mode v. in_mode mode (gone_at setting run (here path dynamic) v) p.outer)
          (ap (λ d. drop_parts setting run (drop_at setting run p.fuel) ticks d next whole mode w) first.is
          ∙ ap (λ o. in_mode mode (if_part setting run (drop_at setting run p.fuel) ticks o (drop_value setting run (drop_at setting run p.fuel) ticks first.first Begins) mode w)
          (drop_parts setting run (drop_at setting run p.fuel) ticks first.rest (suc next) whole)) none)
          (h.is ∙ ap (finished panicked) (p.does mode w))

      -- a part is dropped next
      module _ (l : next < total) (child : DynamicType) (typed : type_of_number setting.items dynamic variant next ≡ Some child) where
        abbrev path' : List At
        path' = path ++ Part next ∷ []

        part_visited : (p : PartsLeft setting run depth key w path dynamic variant next total ticks h.rest (IsAfter setting run depth key levels w path)) → (first : HasPart next p.parts) →
            (does : DropRest) → (expected : Option DynamicType) → Visits setting run depth key w path' Begins does expected →
            ((v : State) → v ≡ w → if_part setting run (drop_at setting run p.fuel) ticks (into setting.items (Part next) (found_as setting run depth key path dynamic (Aggregate variant p.serial p.parts)))
            (drop_value setting run (drop_at setting run p.fuel) ticks first.first Begins) mode v ≡ does mode v) →
            VisitsLeft setting run depth key (PartsOf dynamic variant (suc next) total ticks ∷ levels) w path' mode panicked out Begins expected
        part_visited p first does expected visits part =
            let again = drop_at setting run p.fuel in
            let whole = found_as setting run depth key path dynamic (Aggregate variant p.serial p.parts) in
            let after_parts : DropRest = λ mode v. in_mode mode (gone_at setting run (here path dynamic) v) p.outer in
            let rest : DropRest = λ mode v. in_mode mode (drop_parts setting run again ticks (from_part (suc next) p.parts) (suc next) whole mode v) after_parts in
            let later = (next_part next p.parts first.first first.rest first.is).1 in
            record {
              does = does;
              visits = visits;
              left = record {
                rest = rest;
                is_rest = record {
                  above = path;
                  step = Part next;
                  is = refl;
                  behind = omega arith;
                  left = record {
                    fuel = p.fuel;
                    enough = p.enough;
                    serial = p.serial;
                    parts = p.parts;
                    counted = p.counted;
                    stands = elim p.stands [
                      | inl k ↦ inl k
                      | inr k ↦ inr (k.0, record { serial = k.1.serial; now = k.1.now; there = k.1.there; same = later_same next k.1.now p.parts k.1.same })
                    ];
                    outer = p.outer;
                    after = p.after;
                    does = λ mode v. refl;
                  };
                };
                is = h.is ∙ ap (finished panicked)
                    (p.does mode w
                    ∙ ap (λ d. in_mode mode (drop_parts setting run again ticks d next whole mode w) after_parts) first.is
                    ∙ one_by_one mode (if_part setting run again ticks (into setting.items (Part next) whole) (drop_value setting run again ticks first.first Begins) mode w)
                    (drop_parts setting run again ticks first.rest (suc next) whole) after_parts
                    ∙ ap (λ o. in_mode mode o (λ mode v. in_mode mode (drop_parts setting run again ticks first.rest (suc next) whole mode v) after_parts)) (part w refl)
                    ∙ ap (λ d. in_mode mode (does mode w) (λ mode v. in_mode mode (drop_parts setting run again ticks d (suc next) whole mode v) after_parts)) (sym later));
              };
            }

        go_by : (p : PartsLeft setting run depth key w path dynamic variant next total ticks h.rest (IsAfter setting run depth key levels w path)) (first : HasPart next p.parts) (b : Bool) → (w.ticks == ticks) ≡ b →
            VisitsLeft setting run depth key (PartsOf dynamic variant (suc next) total ticks ∷ levels) w path' mode panicked out Begins (expected_if b child)
        go_by p first true e =
            let again = drop_at setting run p.fuel in
            let same : w.ticks ≡ ticks = (Decides-eqb w.ticks ticks).0 e in
            let enough = p.enough in
            let stands : StandsFrom setting run depth key w path dynamic variant next p.parts = elim p.stands [ inl k ↦ absurd (let never : ⊥ = omega (arith, same, k) in never) | inr k ↦ k.1 ] in
            let whole = found_as setting run depth key path dynamic (Aggregate variant p.serial p.parts) in
            let now = found_as setting run depth key path dynamic (Aggregate variant stands.serial stands.now) in
            let s : Located = found_as setting run depth key path' child first.first in
            let is_into : into setting.items (Part next) whole ≡ Some s =
            into_is setting.items (Part next) whole first.first child (next_part next p.parts first.first first.rest first.is).0 (typed_by_number setting.items dynamic variant next p.serial p.parts ∙ typed)
            in
            let is_now : into setting.items (Part next) now ≡ Some s =
            into_is setting.items (Part next) now first.first child (next_part next stands.now first.first first.rest (stands.same ∙ first.is)).0 (typed_by_number setting.items dynamic variant next stands.serial stands.now ∙ typed)
            in
            part_visited p first (λ mode v. drop_value setting run again ticks first.first Begins s mode v) None
            (AsRead p.fuel s (omega (arith, same, enough)) (located_step setting w (at_path setting run depth key path) now stands.there (Part next) ∙ is_now)
            (λ mode v. ap (λ t. drop_value setting run again t first.first Begins s mode v) (sym same)))
            (λ v i. ap (λ o. if_part setting run again ticks o (drop_value setting run again ticks first.first Begins) mode v) is_into
            ∙ ap (λ b. as_read setting run again ticks b (drop_value setting run again ticks first.first Begins) s mode v) (ap (λ (v : State). v.ticks == ticks) i ∙ e))
        go_by p first false e =
            let again = drop_at setting run p.fuel in
            let enough = p.enough in
            let less : w.ticks < p.fuel = elim p.stands [
              | inl k ↦ omega (arith, enough, k)
              | inr k ↦ absurd (let true_false : false ≡ true = sym e ∙ (Decides-eqb w.ticks ticks).1 k.0 in cc)
            ]
            in
            let whole = found_as setting run depth key path dynamic (Aggregate variant p.serial p.parts) in
            let s : Located = found_as setting run depth key path' child first.first in
            let is_into : into setting.items (Part next) whole ≡ Some s =
            into_is setting.items (Part next) whole first.first child (next_part next p.parts first.first first.rest first.is).0 (typed_by_number setting.items dynamic variant next p.serial p.parts ∙ typed)
            in
            part_visited p first (λ mode v. drop_at setting run p.fuel Begins (here path' child) mode v) (Some child)
            (Again p.fuel child less (λ mode v. refl))
            (λ v i. ap (λ o. if_part setting run again ticks o (drop_value setting run again ticks first.first Begins) mode v) is_into
            ∙ ap (λ b. as_read setting run again ticks b (drop_value setting run again ticks first.first Begins) s mode v) (ap (λ (v : State). v.ticks == ticks) i ∙ e)
            ∙ dropped_same p.fuel Begins s path' child refl refl mode v)

        pub go_part : VisitsLeft setting run depth key (PartsOf dynamic variant (suc next) total ticks ∷ levels) w path' mode panicked out Begins (expected_if (w.ticks == ticks) child)
        go_part =
            let c = h.is_rest.counted in
            go_by h.is_rest (has_part next h.is_rest.parts (omega (arith, c))) (w.ticks == ticks) refl

    -- What is read.

    module _ (w : State) (path : List At) (stage : Stage) where
      nothing_does : (expected : Option DynamicType) (does : DropRest) → Visits setting run depth key w path stage does expected → located_at setting w (at_path setting run depth key path) ≡ None → does mode w ≡ Halts Stuck w
      nothing_does None does (AsRead fuel s enough there is) e = absurd (let k : None ≡ Some s = sym e ∙ there in cc)
      nothing_does (Some _) does (Again zero dynamic enough is) e = absurd (let never : ⊥ = omega arith in never)
      nothing_does (Some _) does (Again (suc n) dynamic enough is) e =
          is mode w ∙ ap (λ o. if_still_typed setting.items dynamic o (dropped_there setting run (drop_at setting run n) stage mode) w) e

      unexpected_does : (s : Located) (expected : Option DynamicType) (does : DropRest) → Visits setting run depth key w path stage does expected → located_at setting w (at_path setting run depth key path) ≡ Some s →
          is_expected setting.items expected s.dynamic ≡ false → does mode w ≡ Halts Stuck w
      unexpected_does s None does (AsRead fuel t enough there is) e f = absurd (cc)
      unexpected_does s (Some _) does (Again zero dynamic enough is) e f = absurd (let never : ⊥ = omega arith in never)
      unexpected_does s (Some _) does (Again (suc n) dynamic enough is) e f =
          is mode w ∙ ap (λ o. if_still_typed setting.items dynamic o (dropped_there setting run (drop_at setting run n) stage mode) w) e
          ∙ still_is setting.items dynamic s (dropped_there setting run (drop_at setting run n) stage mode) w
          ∙ ap (λ b. same_if b (dropped_there setting run (drop_at setting run n) stage mode s) w) f

      record Reads (s : Located) (does : DropRest) : Type 0 where
        pub fuel : ℕ
        pub enough : w.ticks ≤ fuel
        pub is : does mode w ≡ drop_value setting run (drop_at setting run fuel) w.ticks s.value stage s mode w

      reads : (s : Located) (expected : Option DynamicType) (does : DropRest) → Visits setting run depth key w path stage does expected → located_at setting w (at_path setting run depth key path) ≡ Some s →
          is_expected setting.items expected s.dynamic ≡ true → Reads s does
      reads s None does (AsRead fuel t enough there is) e f =
          let k : Some t ≡ Some s = sym there ∙ e in
          let same : t ≡ s = cc in
          record { fuel = fuel; enough = enough; is = is mode w ∙ ap (λ (s : Located). drop_value setting run (drop_at setting run fuel) w.ticks s.value stage s mode w) same }
      reads s (Some _) does (Again zero dynamic enough is) e f = absurd (let never : ⊥ = omega arith in never)
      reads s (Some _) does (Again (suc n) dynamic enough is) e f = record {
        fuel = n;
        enough = omega arith;
        is = is mode w ∙ ap (λ o. if_still_typed setting.items dynamic o (dropped_there setting run (drop_at setting run n) stage mode) w) e
            ∙ still_is setting.items dynamic s (dropped_there setting run (drop_at setting run n) stage mode) w
            ∙ ap (λ b. same_if b (dropped_there setting run (drop_at setting run n) stage mode s) w) f;
      }

      module _ (expected : Option DynamicType) (h : VisitsLeft setting run depth key levels w path mode panicked out stage expected) where
        pub visit_nothing : located_at setting w (at_path setting run depth key path) ≡ None → out ≡ Halts Stuck w
        visit_nothing e = halts_whole mode panicked Stuck w (h.does mode w) out h.left.rest (nothing_does expected h.does h.visits e) h.left.is

        pub visit_unexpected : (s : Located) → located_at setting w (at_path setting run depth key path) ≡ Some s → is_expected setting.items expected s.dynamic ≡ false → out ≡ Halts Stuck w
        visit_unexpected s e f = halts_whole mode panicked Stuck w (h.does mode w) out h.left.rest (unexpected_does s expected h.does h.visits e f) h.left.is

        pub visit_reads : (s : Located) → located_at setting w (at_path setting run depth key path) ≡ Some s → is_expected setting.items expected s.dynamic ≡ true → ReadLeft setting run depth key levels w path mode panicked out stage s
        visit_reads s e f =
            let r = reads s expected h.does h.visits e f in
            record { fuel = r.fuel; enough = r.enough; left = record { rest = h.left.rest; is_rest = h.left.is_rest; is = h.left.is ∙ ap (λ o. finished panicked (in_mode mode o h.left.rest)) r.is } }

      module _ (s : Located) (there : located_at setting w (at_path setting run depth key path) ≡ Some s) (h : ReadLeft setting run depth key levels w path mode panicked out stage s) where
        address_is : s.address ≡ at_path setting run depth key path
        address_is = stands_at setting w (at_path setting run depth key path) s there

        read_is : (value : Datum) → s.value ≡ value → out ≡ finished panicked (in_mode mode (drop_value setting run (drop_at setting run h.fuel) w.ticks value stage s mode w) h.left.rest)
        read_is value e = h.left.is ∙ ap (λ d. finished panicked (in_mode mode (drop_value setting run (drop_at setting run h.fuel) w.ticks d stage s mode w) h.left.rest)) e

        pub read_gone : s.value ≡ Gone → LeavesLeft setting run depth key levels w path mode panicked out
        read_gone e = record { rest = h.left.rest; is_rest = h.left.is_rest; is = read_is Gone e }

        plain_is : (value : Datum) → IsPlain value → drop_value setting run (drop_at setting run h.fuel) w.ticks value stage s mode w ≡ gone_at setting run s w
        plain_is (Number number) p = refl
        plain_is (Truth truth) p = refl
        plain_is UnitValue p = refl
        plain_is (Address address) p = refl
        plain_is Gone p = absurd p
        plain_is (Aggregate variant serial parts) p = absurd p
        plain_is (Box serial impl_no inside) p = absurd p

        pub read_plain : IsPlain s.value → ClearsLeft setting run depth key levels w path mode panicked out s.dynamic
        read_plain p = record {
          rest = h.left.rest;
          is_rest = h.left.is_rest;
          is = read_is s.value refl ∙ ap (λ o. finished panicked (in_mode mode o h.left.rest)) (plain_is s.value p ∙ gone_same s path address_is w);
        }

        module _ (variant : ℕ) (serial : Option ℕ) (parts : Data) (e : s.value ≡ Aggregate variant serial parts) where
          s_is : s ≡ found_as setting run depth key path s.dynamic (Aggregate variant serial parts)
          s_is = ap (λ a. record { address = a; dynamic = s.dynamic; value = s.value }) address_is ∙ ap (λ d. record { address = at_path setting run depth key path; dynamic = s.dynamic; value = d }) e

          abbrev its_impl : Option (ℕ × ℕ)
          its_impl = own_body setting run (drop_at setting run h.fuel) w.ticks stage (drop_impl setting.items (concrete_ty setting.items s.dynamic))

          abbrev drops_parts : DropRest
          drops_parts mode w' = in_mode mode (drop_parts setting run (drop_at setting run h.fuel) w.ticks parts 0 s mode w') (λ mode. gone_at setting run s)

          pub read_parts : own_impl stage (drop_impl setting.items (concrete_ty setting.items s.dynamic)) ≡ None →
              GoesLeft setting run depth key (PartsOf s.dynamic variant 0 (count parts) w.ticks ∷ levels) w path mode panicked out
          read_parts none =
              let again = drop_at setting run h.fuel in
              let whole = found_as setting run depth key path s.dynamic (Aggregate variant serial parts) in
              let rest : DropRest = λ mode v. in_mode mode (drop_parts setting run again w.ticks parts 0 whole mode v) (λ mode v. in_mode mode (gone_at setting run (here path s.dynamic) v) h.left.rest) in
              record {
                rest = rest;
                is_rest = record {
                  fuel = h.fuel;
                  enough = h.enough;
                  serial = serial;
                  parts = parts;
                  counted = refl;
                  stands = inr (refl, record { serial = serial; now = parts; there = there ∙ ap Some s_is; same = refl });
                  outer = h.left.rest;
                  after = h.left.is_rest;
                  does = λ mode v. refl;
                };
                is = read_is (Aggregate variant serial parts) e
                    ∙ ap (λ o. finished panicked (in_mode mode (with_body setting run again w.ticks o serial s drops_parts mode w) h.left.rest)) (own_is stage (drop_impl setting.items (concrete_ty setting.items s.dynamic)) ∙ none)
                    ∙ ap (finished panicked)
                    (one_by_one mode (drop_parts setting run again w.ticks parts 0 s mode w) (λ mode. gone_at setting run s) h.left.rest
                    ∙ same_rest mode (drop_parts setting run again w.ticks parts 0 s mode w) (λ mode v. in_mode mode (gone_at setting run s v) h.left.rest) (λ mode v. in_mode mode (gone_at setting run (here path s.dynamic) v) h.left.rest)
                    (λ mode v. ap (λ o. in_mode mode o h.left.rest) (gone_same s path address_is v))
                    ∙ ap (λ t. in_mode mode (drop_parts setting run again w.ticks parts 0 t mode w) (λ mode v. in_mode mode (gone_at setting run (here path s.dynamic) v) h.left.rest)) s_is);
              }
            where
              own_is : (stage : Stage) (of : Option (ℕ × ℕ)) → own_body setting run (drop_at setting run h.fuel) w.ticks stage of ≡ own_impl stage of
              own_is Begins of = refl
              own_is HasRun of = refl

          pub read_enters : (of : ℕ × ℕ) → own_impl stage (drop_impl setting.items (concrete_ty setting.items s.dynamic)) ≡ Some of →
              EntersLeft setting run depth key levels w path mode panicked out of.0 (told_serial serial) of.1 s.dynamic
          read_enters of some =
              let again = drop_at setting run h.fuel in
              let next : DropRest = λ mode v. in_mode mode (drop_at setting run h.fuel HasRun (here path s.dynamic) mode v) h.left.rest in
              record {
                outs = λ answer. finished panicked (in_mode mode (drop_body_out mode answer) next);
                awaits = record { fuel = h.fuel; enough = h.enough; rest = h.left.rest; after = h.left.is_rest; is = λ answer. refl };
                is = read_is (Aggregate variant serial parts) e
                    ∙ ap (λ o. finished panicked (in_mode mode (with_body setting run again w.ticks o serial s drops_parts mode w) h.left.rest)) (own_is stage (drop_impl setting.items (concrete_ty setting.items s.dynamic)) ∙ some)
                    ∙ ap (λ n. finished panicked (in_mode mode (in_mode mode (drop_body_out mode (run (Event.Dropped of.0 n) of.1 (Address s.address ∷ []) w)) (again HasRun s)) h.left.rest)) (serial_is serial)
                    ∙ ap (λ a. finished panicked (in_mode mode (in_mode mode (drop_body_out mode (run (Event.Dropped of.0 (told_serial serial)) of.1 (Address a ∷ []) w)) (again HasRun s)) h.left.rest)) address_is
                    ∙ ap (finished panicked)
                    (one_by_one mode (drop_body_out mode (run (Event.Dropped of.0 (told_serial serial)) of.1 (Address (at_path setting run depth key path) ∷ []) w)) (again HasRun s) h.left.rest
                    ∙ same_rest mode (drop_body_out mode (run (Event.Dropped of.0 (told_serial serial)) of.1 (Address (at_path setting run depth key path) ∷ []) w))
                    (λ mode v. in_mode mode (again HasRun s mode v) h.left.rest) next
                    (λ mode v. ap (λ o. in_mode mode o h.left.rest) (dropped_same h.fuel HasRun s path s.dynamic address_is refl mode v)));
              }
            where
              own_is : (stage : Stage) (of : Option (ℕ × ℕ)) → own_body setting run (drop_at setting run h.fuel) w.ticks stage of ≡ own_impl stage of
              own_is Begins of = refl
              own_is HasRun of = refl

              serial_is : (serial : Option ℕ) → serial_or_zero serial ≡ told_serial serial
              serial_is None = refl
              serial_is (Some n) = refl

        module _ (serial : ℕ) (impl_no : Option ℕ) (inside : Datum) (e : s.value ≡ Box serial impl_no inside) where
          pub read_box_untyped : into setting.items Inside s ≡ None → out ≡ Halts Stuck w
          read_box_untyped none =
              let again = drop_at setting run h.fuel in
              halts_whole mode panicked Stuck w (drop_value setting run again w.ticks (Box serial impl_no inside) stage s mode w) out h.left.rest
              (ap (λ o. in_mode mode (if_part setting run again w.ticks o (drop_value setting run again w.ticks inside Begins) mode w) (λ mode. freed_at setting run s)) none)
              (read_is (Box serial impl_no inside) e)

          pub read_box : (child : Located) → into setting.items Inside s ≡ Some child →
              VisitsLeft setting run depth key (ContentOf s.dynamic ∷ levels) w (path ++ Inside ∷ []) mode panicked out Begins None
          read_box child is_child =
              let again = drop_at setting run h.fuel in
              let i = parts_of_into setting.items Inside s child is_child in
              let value_is : child.value ≡ inside = (let k : Some child.value ≡ Some inside = sym i.part_is ∙ ap (part Inside) e in (cc)) in
              record {
                does = λ mode v. drop_value setting run again w.ticks inside Begins child mode v;
                visits = AsRead h.fuel child h.enough (located_step setting w (at_path setting run depth key path) s there Inside ∙ is_child)
                    (λ mode v. ap (λ d. drop_value setting run again w.ticks d Begins child mode v) (sym value_is));
                left = record {
                  rest = λ mode v. in_mode mode (freed_at setting run (here path s.dynamic) v) h.left.rest;
                  is_rest = record {
                    above = path;
                    step = Inside;
                    is = refl;
                    behind = tt;
                    left = record { outer = h.left.rest; after = h.left.is_rest; does = λ mode v. refl };
                  };
                  is = read_is (Box serial impl_no inside) e
                      ∙ ap (λ o. finished panicked (in_mode mode (in_mode mode (if_part setting run again w.ticks o (drop_value setting run again w.ticks inside Begins) mode w) (λ mode. freed_at setting run s)) h.left.rest)) is_child
                      ∙ ap (λ b. finished panicked (in_mode mode (in_mode mode (as_read setting run again w.ticks b (drop_value setting run again w.ticks inside Begins) child mode w) (λ mode. freed_at setting run s)) h.left.rest))
                      ((Decides-eqb w.ticks w.ticks).1 refl)
                      ∙ ap (finished panicked)
                      (one_by_one mode (drop_value setting run again w.ticks inside Begins child mode w) (λ mode. freed_at setting run s) h.left.rest
                      ∙ same_rest mode (drop_value setting run again w.ticks inside Begins child mode w) (λ mode v. in_mode mode (freed_at setting run s v) h.left.rest) (λ mode v. in_mode mode (freed_at setting run (here path s.dynamic) v) h.left.rest)
                      (λ mode v. ap (λ o. in_mode mode o h.left.rest) (freed_same s path address_is v)));
                };
              }

  -- After a `Drop` body.

  module _ (levels : List Level) (w v : State) (path : List At) (mode : Mode) (panicked : Bool) (outs : Answer → Out State) (dynamic : DynamicType)
      (h : AwaitsLeft setting run depth key levels w path mode panicked outs dynamic) (l : v.ticks < w.ticks) where
    again_visited : (mode' : Mode) (panicked' : Bool) (out : Out State) →
        out ≡ finished panicked' (in_mode mode' (drop_at setting run h.fuel HasRun (here path dynamic) mode' v) h.rest) →
        VisitsLeft setting run depth key levels v path mode' panicked' out HasRun (Some dynamic)
    again_visited mode' panicked' out e =
        let enough = h.enough in
        record {
          does = λ mode v. drop_at setting run h.fuel HasRun (here path dynamic) mode v;
          visits = Again h.fuel dynamic (omega (arith, enough, l)) (λ mode v. refl);
          left = record { rest = h.rest; is_rest = after_later setting run depth key levels w v path h.rest l h.after; is = e };
        }

    pub await_returns : (value : Datum) → VisitsLeft setting run depth key levels v path mode panicked (outs (Returns value v)) HasRun (Some dynamic)
    await_returns value = again_visited mode panicked (outs (Returns value v)) (h.is (Returns value v))

    finished_twice : (panicked : Bool) (o : Out State) → finished panicked (unwinding_out o) ≡ unwinding_out o
    finished_twice true o = unwinding_twice o
    finished_twice false o = refl

    pub await_unwinds : mode ≡ Normal → VisitsLeft setting run depth key levels v path Unwinding true (outs (Unwinds v)) HasRun (Some dynamic)
    await_unwinds e =
        let next : DropRest = λ mode v. in_mode mode (drop_at setting run h.fuel HasRun (here path dynamic) mode v) h.rest in
        again_visited Unwinding true (outs (Unwinds v))
        (h.is (Unwinds v) ∙ ap (λ m. finished panicked (in_mode m (drop_body_out m (Unwinds v)) next)) e ∙ finished_twice panicked (next Unwinding v))

    pub await_aborts : mode ≡ Unwinding → outs (Unwinds v) ≡ Halts Aborted v
    await_aborts e =
        let next : DropRest = λ mode v. in_mode mode (drop_at setting run h.fuel HasRun (here path dynamic) mode v) h.rest in
        h.is (Unwinds v) ∙ ap (λ m. finished panicked (in_mode m (drop_body_out m (Unwinds v)) next)) e ∙ halts_through panicked Aborted v

    pub await_halts : (halt : Halt) → outs (HaltsIn halt v) ≡ Halts halt v
    await_halts halt = h.is (HaltsIn halt v) ∙ halts_through panicked halt v
