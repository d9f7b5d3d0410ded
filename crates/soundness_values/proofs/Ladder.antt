-- Dropping what stands at an address: the place is gone then and nothing else is changed, whatever its parts are,
-- and however its `Drop` bodies end, if each of these changes only what its `self` names. So no drop is stuck. What
-- is kept meanwhile (of serial numbers, say) is a parameter.
use Rattle.std.proofs.Common.{◌≡◌, ℕ, zero, suc, ◌+◌, ◌<◌, ◌==◌, Bool, true, false, List, [], ◌∷◌, Option, Some, None, refl, ap, sym, ◌∙◌, subst, arith}
use Rattle.std.specs.Option.{option_map_or}
use Rattle.mir_ty.specs.declared.ty.TyId.{TyId}
use Rattle.mir_ty.specs.ItemTable.{ItemTable}
use Rattle.store_model.specs.declared.address.At.TheVariants.{Part, Inside}
use Rattle.store_model.specs.Values.Datum.{Datum, Data, Gone, Number, Truth, UnitValue, Aggregate, Box, Address, no_part, a_part}
use Rattle.store_model.specs.Values.Access.{part_at, with_part, replaced}
use Rattle.store_model.specs.Values.Wholeness.{are_whole, serials, serials_of_all}
use Rattle.store_model.specs.Effects.{Mode, Normal, Unwinding, Aborted, OutOfTicks, Out}
use Rattle.store_model.specs.Abstract.Presence.{Presence, is_present, presence_at}
use Rattle.store_model.specs.Places.Place.{ToContent}
use Rattle.store_model.specs.Concrete.Location.{Setting, DynamicType, concrete_ty, type_of_part, Located, below, into, located_part, located_at, stored_at}
use Rattle.store_model.specs.Concrete.State.{State, Answer, Bodies}
use Rattle.store_model.specs.Concrete.Drops.{drop_impl, Stage, Begins, HasRun, drop_body_out, in_mode, gone_at, freed_at, as_read, if_part, with_body, own_body, drop_value, drop_parts, dropped_there, drop_at}
use Rattle.soundness_values.specs.Typed.{is_found}
use Rattle.mir_base.specs.Once.{times}
use Rattle.soundness_values.proofs.Counts.{times_append, in_value, held_after}
use Rattle.soundness_values.proofs.Fits.{Fits, PartsFit, present_if_whole}
use Rattle.soundness_values.proofs.Standings.{Alike, alike_after, alike_located, stored_alike, stored_located, stored_below, stored_twice, stored_same, located_below}
use Rattle.soundness_values.proofs.Sealed.{Sealed, AllSealed, sealed_if_whole, gone_before, part_after_gone, one_more_gone}
use Rattle.soundness_values.proofs.StillTyped.{same_number, typed_of, still_itself, still_of_part, none_if_not, some_if_so}
use Rattle.soundness_values.proofs.LadderEnds.{Room, RoomOfParts, Kept, Told, StandsWhole, DropKeeps, DropsKeep, Done, done_from, unwinding_done, found_part, found_inside, still_there, gone_done, freed_done, PartsDone, unwinding_parts, walked, returns, unwinds, halts, goes, panics, ends, parts_go, parts_end}

zero_plus : (m : ℕ) → 0 + m ≡ m
zero_plus m = omega arith

module _ (setting : Setting) (size : ℕ → ℕ)
    (sized : (body key : ℕ) (id : TyId) → setting.local_ty body key ≡ Some id →
    key < size body) (kept : Kept setting size) where
  abbrev items : ItemTable
  items = setting.items

  module _ (run : Bodies) (keeps : DropsKeep setting size sized kept run) where
    module _ (again : Stage → Located → Mode → State → Out State)
        (again_begins : (dropping : List ℕ) (w : State) (s : Located) (p : Presence) (mode : Mode) →
        located_at setting w s.address ≡ Some s → Fits items s.dynamic p s.value → Sealed s.value →
        Told setting size sized kept s.dynamic → Room size dropping w s.value → kept.good dropping w →
        Done setting size sized kept dropping w s.address mode (again Begins s mode w))
        (again_run : (dropping : List ℕ) (w : State) (s : Located) (variant serial : ℕ) (parts : Data)
        (mode : Mode) →
        located_at setting w s.address ≡ Some (record s { value = Aggregate variant (Some serial) parts }) →
        Fits items s.dynamic is_present (Aggregate variant (Some serial) parts) → are_whole parts ≡ true →
        Told setting size sized kept s.dynamic → RoomOfParts size (serial ∷ dropping) w parts →
        kept.good (serial ∷ dropping) w →
        Done setting size sized kept dropping w s.address mode (again HasRun s mode w))
        (ticks : ℕ) where
      body_done : (dropping : List ℕ) (w : State) (s : Located) (variant serial : ℕ) (parts : Data) (mode : Mode) →
          located_at setting w s.address ≡ Some (record s { value = Aggregate variant (Some serial) parts }) →
          Told setting size sized kept s.dynamic → Room size dropping w (Aggregate variant (Some serial) parts) →
          (answer : Answer) → DropKeeps setting size sized kept dropping
          (record s { value = Aggregate variant (Some serial) parts }) w answer →
          Done setting size sized kept dropping w s.address mode
          (in_mode mode (drop_body_out mode answer)
          (again HasRun (record s { value = Aggregate variant (Some serial) parts })))
      body_done dropping w s variant serial parts mode e h m answer k = by mode answer k
        where
          here : Located
          here = record s { value = Aggregate variant (Some serial) parts }

          room_for : (v : State) (k : StandsWhole setting size sized kept dropping here w v) →
              RoomOfParts size (k.own ∷ dropping) v k.parts
          room_for v k n =
              let before = m n in
              let change = held_after size n setting sized w v s.address here
              (Aggregate k.variant (Some k.own) k.parts) e k.changed in
              let own : in_value n (Aggregate k.variant (Some k.own) k.parts) ≡ times n (k.own ∷ []) + times n
              (serials_of_all k.parts) = times_append n (k.own ∷ []) (serials_of_all k.parts) in
              let all : times n (k.own ∷ dropping) ≡ times n (k.own ∷ []) + times n dropping =
              times_append n (k.own ∷ []) dropping in
              omega arith

          rest_done : (mode : Mode) (v : State) → StandsWhole setting size sized kept dropping here w v →
              Done setting size sized kept dropping w s.address mode
              (again HasRun here mode v)
          rest_done mode v k =
              let now : located_at setting v s.address ≡ Some
              (record s { value = Aggregate k.variant (Some k.own) k.parts }) =
              alike_located setting v (stored_at s.address (Aggregate k.variant (Some k.own) k.parts) w) k.changed
              s.address ∙ stored_located setting w s.address here (Aggregate k.variant (Some k.own) k.parts) e in
              done_from setting size sized kept dropping w v here s (Aggregate k.variant (Some k.own) k.parts) mode _
              refl e k.changed
              (again_run dropping v here k.variant k.own k.parts mode now k.fit k.whole h (room_for v k) k.good)

          by : (mode : Mode) (answer : Answer) → DropKeeps setting size sized kept dropping here w answer →
              Done setting size sized kept dropping w s.address mode
              (in_mode mode (drop_body_out mode answer) (again HasRun here))
          by mode answer (returns value v k) = rest_done mode v k
          by Normal answer (unwinds v k) = unwinding_done setting size sized kept dropping w s Normal _ refl
              (rest_done Unwinding v k)
          by Unwinding answer (unwinds v k) = ends Aborted v tt (kept.at_halt (k.own ∷ dropping) v k.good)
          by mode answer (halts halt v h g) = ends halt v h g

      box_done : (dropping : List ℕ) (w : State) (s : Located) (serial : ℕ) (impl_no : Option ℕ) (inside : Datum)
          (f : DynamicType) (mode : Mode) → located_at setting w s.address ≡ Some
          (record s { value = Box serial impl_no inside }) →
          Told setting size sized kept s.dynamic → type_of_part items Inside (Box serial impl_no Gone) s.dynamic
          ≡ Some f → (w.ticks == ticks) ≡ true → Room size dropping w (Box serial impl_no inside) →
          (located_at setting w (below s.address Inside) ≡ Some
          (record { address = below s.address Inside; dynamic = f; value = inside }) → Room size dropping w inside →
          Done setting size sized kept dropping w (below s.address Inside) mode
          (drop_value setting run again ticks inside Begins
          (record { address = below s.address Inside; dynamic = f; value = inside }) mode w)) →
          Done setting size sized kept dropping w s.address mode
          (drop_value setting run again ticks (Box serial impl_no inside) Begins
          (record s { value = Box serial impl_no inside }) mode w)
      box_done dropping w s serial impl_no inside f mode e h is_found t m content =
          subst (λ x. Done setting size sized kept dropping w s.address mode
          (in_mode mode (if_part setting run again ticks x (drop_value setting run again ticks inside Begins) mode
          w) (λ mode. freed_at setting run here))) (sym is_part)
          (subst (λ b. Done setting size sized kept dropping w s.address mode
          (in_mode mode (as_read setting run again ticks b (drop_value setting run again ticks inside Begins)
          at_inside mode w) (λ mode. freed_at setting run here))) (sym t)
          (by _ (content at_content room_inside)))
        where
          here : Located
          here = record s { value = Box serial impl_no inside }

          at_inside : Located
          at_inside = record { address = below s.address Inside; dynamic = f; value = inside }

          is_part : into items Inside here ≡ Some at_inside
          is_part = ap (located_part here Inside (Some inside)) is_found

          at_content : located_at setting w (below s.address Inside) ≡ Some at_inside
          at_content = located_below setting w s.address here Inside e ∙ is_part

          in_box : (n : ℕ) (d : Datum) → in_value n (Box serial impl_no d) ≡ in_value n d + times n (serial ∷ [])
          in_box n d = times_append n (serials d) (serial ∷ [])

          room_inside : Room size dropping w inside
          room_inside n = let before = m n in let sum = in_box n inside in omega arith

          room_empty : (v : State) → Alike v.activations (stored_at (below s.address Inside) Gone w).activations →
              Room size dropping v (Box serial impl_no Gone)
          room_empty v j n =
              let before = m n in
              let sum = in_box n inside in
              let left = in_box n Gone in
              let change = held_after size n setting sized w v (below s.address Inside) at_inside Gone at_content
              j in
              omega arith

          then_freed : (mode : Mode) (v : State) →
              Alike v.activations (stored_at (below s.address Inside) Gone w).activations → kept.good dropping v →
              Done setting size sized kept dropping w s.address mode (freed_at setting run here v)
          then_freed mode v j g =
              let changed : Alike v.activations (stored_at s.address (Box serial impl_no Gone) w).activations =
              subst (λ (x : State). Alike v.activations x.activations)
              (stored_below setting w s.address here Inside Gone e) j in
              let now : located_at setting v s.address ≡ Some (record s { value = Box serial impl_no Gone }) =
              alike_located setting v (stored_at s.address (Box serial impl_no Gone) w) changed s.address
              ∙ stored_located setting w s.address here (Box serial impl_no Gone) e in
              done_from setting size sized kept dropping w v here s (Box serial impl_no Gone) mode _ refl e changed
              (freed_done setting size sized kept run keeps dropping v here serial impl_no mode now h (room_empty v j)
              g)

          by : (o : Out State) → Done setting size sized kept dropping w at_inside.address mode o →
              Done setting size sized kept dropping w s.address mode
              (in_mode mode o (λ mode. freed_at setting run here))
          by o (goes v j g) = then_freed mode v j g
          by o (panics v n j g) = unwinding_done setting size sized kept dropping w s mode _ n
              (then_freed Unwinding v j g)
          by o (ends halt v h g) = ends halt v h g

      mutual
        value_done : (d : Datum) (dropping : List ℕ) (w : State) (s : Located) (p : Presence) (mode : Mode) →
            located_at setting w s.address ≡ Some (record s { value = d }) → Fits items s.dynamic p d →
            Sealed d → Room size dropping w d → kept.good dropping w → is_found items s.dynamic ≡ true →
            (w.ticks == ticks) ≡ true →
            Done setting size sized kept dropping w s.address mode
            (drop_value setting run again ticks d Begins (record s { value = d }) mode w)
        value_done Gone dropping w s p mode e k c m g o t =
            goes w (stored_same setting w s.address (record s { value = Gone }) e) g
        value_done (Number number) dropping w s p mode e k c m g o t =
            gone_done setting size sized kept run keeps dropping w (record s { value = Number number }) (Number number)
            mode e
            (still_itself items s.dynamic (typed_of items (Number number) s.dynamic p tt k), o) m g
        value_done (Truth truth) dropping w s p mode e k c m g o t =
            gone_done setting size sized kept run keeps dropping w (record s { value = Truth truth }) (Truth truth) mode
            e
            (still_itself items s.dynamic (typed_of items (Truth truth) s.dynamic p tt k), o) m g
        value_done UnitValue dropping w s p mode e k c m g o t =
            gone_done setting size sized kept run keeps dropping w (record s { value = UnitValue }) UnitValue mode e
            (still_itself items s.dynamic (typed_of items UnitValue s.dynamic p tt k), o) m g
        value_done (Address address) dropping w s p mode e k c m g o t =
            gone_done setting size sized kept run keeps dropping w (record s { value = Address address })
            (Address address) mode e
            (still_itself items s.dynamic (typed_of items (Address address) s.dynamic p tt k), o) m g
        value_done (Aggregate variant None parts) dropping w s p mode e k c m g o t =
            let none : drop_impl items (concrete_ty items s.dynamic) ≡ None = none_if_not items _ k.1 in
            subst (λ x. Done setting size sized kept dropping w s.address mode
            (with_body setting run again ticks (own_body setting run again ticks Begins x) None
            (record s { value = Aggregate variant None parts })
            (λ mode w. in_mode mode
            (drop_parts setting run again ticks parts 0 (record s { value = Aggregate variant None parts }) mode w)
            (λ mode. gone_at setting run (record s { value = Aggregate variant None parts }))) mode w)) (sym none)
            (walked setting size sized kept run keeps dropping w s variant None (Aggregate variant None parts) mode _ e
            (still_itself items s.dynamic (typed_of items (Aggregate variant None parts) s.dynamic p tt k), o)
            (parts_done parts 0 parts dropping w w s variant None _ _ mode
            (λ m. ap (λ x. part_at x parts) (zero_plus m))
            (λ m. ap (λ x. type_of_part items (Part x) (Aggregate variant None no_part) s.dynamic)
            (sym (zero_plus m))) e
            (stored_same setting w s.address (record s { value = Aggregate variant None parts }) e) k.3 c.1 m g))
        value_done (Aggregate variant (Some serial) parts) dropping w s p mode e k c m g o t =
            let impl = some_if_so items (drop_impl items (concrete_ty items s.dynamic)) k.1 in
            let whole : are_whole parts ≡ true = c.0 refl in
            let fit : Fits items s.dynamic is_present (Aggregate variant (Some serial) parts) =
            present_if_whole items (Aggregate variant (Some serial) parts) s.dynamic p whole k in
            subst (λ x. Done setting size sized kept dropping w s.address mode
            (with_body setting run again ticks (own_body setting run again ticks Begins x) (Some serial)
            (record s { value = Aggregate variant (Some serial) parts })
            (λ mode w. in_mode mode
            (drop_parts setting run again ticks parts 0 (record s { value = Aggregate variant (Some serial) parts })
            mode w) (λ mode. gone_at setting run (record s { value = Aggregate variant (Some serial) parts }))) mode
            w)) (sym impl.1)
            (body_done dropping w s variant serial parts mode e
            (still_itself items s.dynamic (typed_of items (Aggregate variant (Some serial) parts) s.dynamic p tt k), o)
            m _
            (keeps dropping w (record s { value = Aggregate variant (Some serial) parts }) impl.0 variant serial
            parts e
            refl impl.1 fit o m g))
        value_done (Box serial impl_no inside) dropping w s p mode e k c m g o t =
            box_done dropping w s serial impl_no inside k.2.0 mode e
            (still_itself items s.dynamic (typed_of items (Box serial impl_no inside) s.dynamic p tt k), o) k.2.1 t m
            (λ at_inside r. value_done inside dropping w
            (record { address = below s.address Inside; dynamic = k.2.0; value = inside })
            (presence_at ToContent p) mode at_inside k.2.2 c r g
            (found_inside setting size sized kept (concrete_ty items s.dynamic) k.1.0 impl_no k.2.0 k.1.1 (k.1.2, k.1.3)
            k.2.1) t)

        parts_done : (parts : Data) (n : ℕ) (all : Data) (dropping : List ℕ) (w0 w : State) (s : Located)
            (variant : ℕ)
            (serial : Option ℕ) (found_at : ℕ → Option DynamicType) (presence_of : ℕ → Presence) (mode : Mode) →
            ((m : ℕ) → part_at (n + m) all ≡ part_at m parts) →
            ((m : ℕ) → found_at m ≡ type_of_part items (Part (n + m)) (Aggregate variant serial no_part)
            s.dynamic) →
            located_at setting w0 s.address ≡ Some (record s { value = Aggregate variant serial all }) →
            Alike w.activations (stored_at s.address (Aggregate variant serial (gone_before n parts))
            w0).activations →
            PartsFit items found_at presence_of parts → AllSealed parts → RoomOfParts size dropping w parts →
            kept.good dropping w →
            PartsDone setting size sized kept run keeps dropping w0 s variant serial mode
            (drop_parts setting run again ticks parts n (record s { value = Aggregate variant serial all }) mode w)
        parts_done no_part n all dropping w0 w s variant serial found_at presence_of mode is_part is_found e j k c r
            g =
            parts_go n w j r g
        parts_done (a_part first rest) n all dropping w0 w s variant serial found_at presence_of mode is_part
            is_found e
            j k c r g =
            subst (λ x. PartsDone setting size sized kept run keeps dropping w0 s variant serial mode
            (in_mode mode (if_part setting run again ticks x (drop_value setting run again ticks first Begins) mode
            w) (drop_parts setting run again ticks rest (suc n) here))) (sym at_part)
            (by (λ t. value_done first dropping w there (presence_of 0) mode there_now k.0.2 c.0 room_first g
            (found_part setting size sized kept n variant (concrete_ty items s.dynamic) k.0.0 found_there) t)
            (λ mode v i o h. parts_done rest (suc n) all dropping w0 v s variant serial (λ m. found_at (suc m))
            (λ m. presence_of (suc m)) mode next_part next_found e i k.1 c.1 o h) (w.ticks == ticks) refl)
          where
            here : Located
            here = record s { value = Aggregate variant serial all }

            next_part : (m : ℕ) → part_at (suc n + m) all ≡ part_at m rest
            next_part m = ap (λ x. part_at x all) (let z : suc n + m ≡ n + suc m = omega arith in z)
                ∙ is_part (suc m)

            next_found : (m : ℕ) → found_at (suc m) ≡ type_of_part items (Part (suc n + m))
                (Aggregate variant serial no_part) s.dynamic
            next_found m = is_found (suc m)
                ∙ ap (λ x. type_of_part items (Part x) (Aggregate variant serial no_part) s.dynamic)
                (let z : n + suc m ≡ suc n + m = omega arith in z)

            RestDone : Type 0
            RestDone = (mode : Mode) (v : State) →
                Alike v.activations (stored_at s.address (Aggregate variant serial (gone_before (suc n) rest))
                w0).activations → RoomOfParts size dropping v rest → kept.good dropping v →
                PartsDone setting size sized kept run keeps dropping w0 s variant serial mode
                (drop_parts setting run again ticks rest (suc n) here mode v)

            now : Located
            now = record s { value = Aggregate variant serial (gone_before n (a_part first rest)) }

            there : Located
            there = record { address = below s.address (Part n); dynamic = k.0.0; value = first }

            found_there : type_of_part items (Part n) (Aggregate variant serial no_part) s.dynamic ≡ Some k.0.0
            found_there = ap (λ m. type_of_part items (Part m) (Aggregate variant serial no_part) s.dynamic)
                (let z : n ≡ n + 0 = omega arith in z) ∙ sym (is_found 0) ∙ k.0.1

            at_part : into items (Part n) here ≡ Some there
            at_part =
                ap (λ x. located_part here (Part n) x
                (type_of_part items (Part n) (Aggregate variant serial all) s.dynamic))
                (ap (λ m. part_at m all) (let z : n ≡ n + 0 = omega arith in z) ∙ is_part 0)
                ∙ ap (located_part here (Part n) (Some first)) found_there

            here_now : located_at setting w s.address ≡ Some now
            here_now = alike_located setting w
                (stored_at s.address (Aggregate variant serial (gone_before n (a_part first rest))) w0) j s.address
                ∙ stored_located setting w0 s.address here
                (Aggregate variant serial (gone_before n (a_part first rest))) e

            there_now : located_at setting w (below s.address (Part n)) ≡ Some there
            there_now =
                located_below setting w s.address now (Part n) here_now
                ∙ ap (λ x. located_part now (Part n) x
                (type_of_part items (Part n) (Aggregate variant serial (gone_before n (a_part first rest)))
                s.dynamic)) (part_after_gone n first rest)
                ∙ ap (located_part now (Part n) (Some first)) found_there

            both : (m : ℕ) → times m (serials_of_all (a_part first rest)) ≡ in_value m first + times m
                (serials_of_all rest)
            both m = times_append m (serials first) (serials_of_all rest)

            room_first : Room size dropping w first
            room_first m = let before = r m in let sum = both m in omega arith

            room_rest : (v : State) → Alike v.activations (stored_at (below s.address (Part n)) Gone w).activations →
                RoomOfParts size dropping v rest
            room_rest v i m =
                let before = r m in
                let sum = both m in
                let change = held_after size m setting sized w v (below s.address (Part n)) there Gone there_now i in
                omega arith

            later : RestDone → (mode : Mode) (v : State) →
                Alike v.activations (stored_at (below s.address (Part n)) Gone w).activations →
                kept.good dropping v →
                PartsDone setting size sized kept run keeps dropping w0 s variant serial mode
                (drop_parts setting run again ticks rest (suc n) here mode v)
            later rest_done mode v i h =
                let shape : replaced (Part n ∷ []) Gone
                (Aggregate variant serial (gone_before n (a_part first rest)))
                ≡ Aggregate variant serial (gone_before (suc n) rest) =
                ap (λ o. option_map_or
                (λ inner. with_part (Part n) Gone (Aggregate variant serial (gone_before n (a_part first rest)))) o
                (Aggregate variant serial (gone_before n (a_part first rest)))) (part_after_gone n first rest)
                ∙ ap (Aggregate variant serial) (one_more_gone n first rest) in
                let changed : Alike v.activations
                (stored_at s.address (Aggregate variant serial (gone_before (suc n) rest)) w).activations =
                subst (λ (x : State). Alike v.activations x.activations)
                (stored_below setting w s.address now (Part n) Gone here_now
                ∙ ap (λ d. stored_at s.address d w) shape) i in
                rest_done mode v
                (alike_after changed _
                (alike_after (stored_alike setting w
                (stored_at s.address (Aggregate variant serial (gone_before n (a_part first rest))) w0) s.address
                (Aggregate variant serial (gone_before (suc n) rest)) j) _
                (stored_twice setting w0 s.address here
                (Aggregate variant serial (gone_before n (a_part first rest)))
                (Aggregate variant serial (gone_before (suc n) rest)) e)))
                (room_rest v i) h

            then_rest : RestDone → (o : Out State) → Done setting size sized kept dropping w there.address mode o →
                PartsDone setting size sized kept run keeps dropping w0 s variant serial mode
                (in_mode mode o (drop_parts setting run again ticks rest (suc n) here))
            then_rest rest_done o (goes v i h) = later rest_done mode v i h
            then_rest rest_done o (panics v n i h) = unwinding_parts setting size sized kept run keeps mode n
                (later rest_done Unwinding v i h)
            then_rest rest_done o (ends halt v h i) = parts_end halt v h i

            by : ((w.ticks == ticks) ≡ true → Done setting size sized kept dropping w there.address mode
                (drop_value setting run again ticks first Begins there mode w)) → RestDone → (b : Bool) →
                (w.ticks == ticks) ≡ b →
                PartsDone setting size sized kept run keeps dropping w0 s variant serial mode
                (in_mode mode (as_read setting run again ticks b (drop_value setting run again ticks first Begins)
                there mode w) (drop_parts setting run again ticks rest (suc n) here))
            by first_done rest_done true t = then_rest rest_done _ (first_done t)
            by first_done rest_done false t =
                then_rest rest_done _
                (again_begins dropping w there (presence_of 0) mode there_now k.0.2 c.0 (
                  still_of_part items n variant (concrete_ty items s.dynamic) k.0.0 found_there,
                  found_part setting size sized kept n variant (concrete_ty items s.dynamic) k.0.0 found_there,
                ) room_first g)

    -- what is dropped at an address is gone then
    abbrev BeginsDone : ℕ → Type 0
    BeginsDone n = (dropping : List ℕ) (w : State) (s : Located) (p : Presence) (mode : Mode) →
        located_at setting w s.address ≡ Some s → Fits items s.dynamic p s.value → Sealed s.value →
        Told setting size sized kept s.dynamic → Room size dropping w s.value → kept.good dropping w →
        Done setting size sized kept dropping w s.address mode (drop_at setting run n Begins s mode w)

    abbrev HasRunDone : ℕ → Type 0
    HasRunDone n = (dropping : List ℕ) (w : State) (s : Located) (variant serial : ℕ) (parts : Data) (mode : Mode) →
        located_at setting w s.address ≡ Some (record s { value = Aggregate variant (Some serial) parts }) →
        Fits items s.dynamic is_present (Aggregate variant (Some serial) parts) → are_whole parts ≡ true →
        Told setting size sized kept s.dynamic → RoomOfParts size (serial ∷ dropping) w parts →
        kept.good (serial ∷ dropping) w →
        Done setting size sized kept dropping w s.address mode (drop_at setting run n HasRun s mode w)

    begins_done : (n : ℕ) → BeginsDone n → HasRunDone n → BeginsDone (suc n)
    begins_done n b r dropping w s p mode e k c h m g =
        subst (Done setting size sized kept dropping w s.address mode)
        (sym (still_there setting size sized kept run keeps s s.value w
        (dropped_there setting run (drop_at setting run n) Begins mode) e h))
        (value_done (drop_at setting run n) b r w.ticks s.value dropping w s p mode e k c m g h.1 (same_number w.ticks))

    has_run_done : (n : ℕ) → BeginsDone n → HasRunDone n → HasRunDone (suc n)
    has_run_done n b r dropping w s variant serial parts mode e k whole h m g =
        subst (Done setting size sized kept dropping w s.address mode)
        (sym (still_there setting size sized kept run keeps s (Aggregate variant (Some serial) parts) w
        (dropped_there setting run (drop_at setting run n) HasRun mode) e h))
        (walked setting size sized kept run keeps dropping w s variant (Some serial)
        (Aggregate variant (Some serial) parts) mode _ e h
        (parts_done (drop_at setting run n) b r w.ticks parts 0 parts (serial ∷ dropping) w w s variant
        (Some serial) _ _ mode (λ m. ap (λ x. part_at x parts) (zero_plus m))
        (λ m. ap (λ x. type_of_part items (Part x) (Aggregate variant (Some serial) no_part) s.dynamic)
        (sym (zero_plus m))) e
        (stored_same setting w s.address (record s { value = Aggregate variant (Some serial) parts }) e) k.3
        (sealed_if_whole (Aggregate variant (Some serial) parts) whole).1 m g))

    pub dropping_done : (n : ℕ) → BeginsDone n × HasRunDone n
    dropping_done zero = (
      (λ dropping w s p mode e k c h m g. ends OutOfTicks w tt (kept.at_halt dropping w g)),
      (λ dropping w s variant serial parts mode e k whole h m g. ends OutOfTicks w tt
          (kept.at_halt (serial ∷ dropping) w g)),
    )
    dropping_done (suc n) = let before = dropping_done n in
        (begins_done n before.0 before.1, has_run_done n before.0 before.1)
