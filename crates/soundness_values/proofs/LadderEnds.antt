-- How a drop may end: what is kept meanwhile, what a `Drop` body owes, and that the place is gone then and nothing else
-- is changed; so it is with a value without parts, with an empty box, and with a whole once its parts are gone.
use Rattle.std.proofs.Common.{◌≡◌, ℕ, ◌+◌, ◌<◌, ◌≤◌, ◌&&◌, Bool, true, false, List, [], ◌∷◌, ◌++◌, Option, Some, None, is_some, refl, ap, sym, ◌∙◌, subst, arith}
use Rattle.std.specs.Option.{option_map_or, option_to_list}
use Rattle.std.proofs.lemmas.Bool.{false≢true}
use Rattle.mir_base.specs.declared.trace.Event.{Event}
use Rattle.mir_ty.specs.declared.ty.Ty.{Ty}
use Rattle.mir_ty.specs.declared.ty.TyId.{TyId}
use Rattle.mir_ty.specs.Parts.{parts_of}
use Rattle.mir_ty.specs.ItemTable.{ItemTable, type_at}
use Rattle.store_model.specs.declared.address.Addr.{Addr}
use Rattle.store_model.specs.Values.Datum.{Datum, Data, Gone, Aggregate, Box, Address, no_part}
use Rattle.store_model.specs.Values.Wholeness.{are_whole, serials, serials_of_all}
use Rattle.store_model.specs.Effects.{Mode, Normal, Unwinding, Halt, Aborted, OutOfTicks, Out, Go, Unwind, Halts}
use Rattle.store_model.specs.Abstract.Presence.{is_present}
use Rattle.store_model.specs.Concrete.Location.{Setting, DynamicType, OfType, OfObject, concrete_ty, type_in_box, type_of_field, Located, located_at, stored_at}
use Rattle.store_model.specs.Concrete.State.{State, with_event, Answer, Returns, Unwinds, HaltsIn, Bodies}
use Rattle.store_model.specs.Concrete.Drops.{drop_impl, still_of, if_still_typed, same_if, unwinding_out, in_mode, gone_at, freed_at, freed_there, still}
use Rattle.std.specs.Prelude.{slice_get}
use Rattle.std.proofs.lemmas.Option.{none-some}
use Rattle.store_model.specs.Places.TypeForms.{is_dyn, box_content}
use Rattle.soundness_values.specs.Typed.{is_found, is_impl_for}
use Rattle.mir_base.specs.Once.{times}
use Rattle.soundness_values.proofs.Counts.{times_append, in_value, held}
use Rattle.soundness_values.proofs.Fits.{Fits}
use Rattle.soundness_values.proofs.Standings.{Alike, alike_itself, alike_after, alike_located, stored_alike, stored_located, stored_twice}
use Rattle.soundness_values.proofs.Sealed.{gone_before, no_serials}

-- the numbers of a list and those in a value or in the parts of one are held, each as often as it is there
abbrev pub Room : (ℕ → ℕ) → List ℕ → State → Datum → Type 0
Room size dropping w d = (k : ℕ) → times k dropping + in_value k d ≤ held size k w.activations

abbrev pub RoomOfParts : (ℕ → ℕ) → List ℕ → State → Data → Type 0
RoomOfParts size dropping w parts = (k : ℕ) → times k dropping + times k (serials_of_all parts)
    ≤ held size k w.activations

-- What is kept while values are dropped: a state, with the numbers of the values whose `Drop` bodies run or have
-- run.
pub record Kept (setting : Setting) (size : ℕ → ℕ) : Type 1 where
  pub good : List ℕ → State → Type 0
  pub halted : State → Type 0
  pub at_halt : (dropping : List ℕ) (w : State) → good dropping w → halted w
  -- what has no serial number left but those whose `Drop` bodies have run becomes gone
  pub goes : (dropping : List ℕ) (w : State) (s : Located) → located_at setting w s.address ≡ Some s →
      Room size dropping w s.value → good (serials s.value ++ dropping) w →
      good dropping (stored_at s.address Gone w)
  -- an empty box is freed
  pub frees : (dropping : List ℕ) (w : State) (s : Located) (serial : ℕ) (impl_no : Option ℕ) →
      s.value ≡ Box serial impl_no Gone → located_at setting w s.address ≡ Some s → Room size dropping w s.value →
      good dropping w →
      good dropping (with_event (Event.Freed serial) (stored_at s.address Gone w))

-- a run may end at any point by a second panic, or for want of a tick
abbrev pub MayEnd : Halt → Type 0
MayEnd Aborted = Unit {0}
MayEnd OutOfTicks = Unit {0}
MayEnd halt = ⊥

module _ (setting : Setting) (size : ℕ → ℕ)
    (sized : (body key : ℕ) (id : TyId) → setting.local_ty body key ≡ Some id →
    key < size body) (kept : Kept setting size) where
  abbrev items : ItemTable
  items = setting.items

  -- what was found at an address is still of its type, and a trait object is one by an impl of its trait
  abbrev pub Told : DynamicType → Type 0
  Told f = (still_of items f f ≡ true) × (is_found items f ≡ true)

  -- a whole value of the same type stands at the address, with a number, and nothing else is changed
  pub record StandsWhole (dropping : List ℕ) (s : Located) (w v : State) : Type 0 where
    pub variant : ℕ
    pub own : ℕ
    pub parts : Data
    pub changed : Alike v.activations (stored_at s.address (Aggregate variant (Some own) parts) w).activations
    pub fit : Fits items s.dynamic is_present (Aggregate variant (Some own) parts)
    pub whole : are_whole parts ≡ true
    pub good : kept.good (own ∷ dropping) v

  -- what a `Drop` body owes
  pub data DropKeeps (dropping : List ℕ) (s : Located) (w : State) : Answer → Type 0 where
    returns : (value : Datum) (v : State) → StandsWhole dropping s w v → DropKeeps dropping s w (Returns value v)
    unwinds : (v : State) → StandsWhole dropping s w v → DropKeeps dropping s w (Unwinds v)
    halts : (halt : Halt) (v : State) → MayEnd halt → kept.halted v → DropKeeps dropping s w (HaltsIn halt v)

  abbrev pub DropsKeep : Bodies → Type 0
  DropsKeep run = (dropping : List ℕ) (w : State) (s : Located) (of : ℕ × ℕ) (variant serial : ℕ) (parts : Data) →
      located_at setting w s.address ≡ Some s → s.value ≡ Aggregate variant (Some serial) parts →
      drop_impl items (concrete_ty items s.dynamic) ≡ Some of →
      Fits items s.dynamic is_present s.value → is_found items s.dynamic ≡ true → Room size dropping w s.value →
      kept.good dropping w →
      DropKeeps dropping s w (run (Event.Dropped of.0 serial) of.1 (Address s.address ∷ []) w)

  -- the place is gone and nothing else is changed, or the run may end so
  pub data Done (dropping : List ℕ) (w0 : State) (a : Addr) (mode : Mode) : Out State → Type 0 where
    goes : (w : State) → Alike w.activations (stored_at a Gone w0).activations → kept.good dropping w →
        Done dropping w0 a mode (Go w)
    panics : (w : State) → mode ≡ Normal → Alike w.activations (stored_at a Gone w0).activations →
        kept.good dropping w → Done dropping w0 a mode (Unwind w)
    ends : (halt : Halt) (w : State) → MayEnd halt → kept.halted w → Done dropping w0 a mode (Halts halt w)

  -- the same from a state of which the first is changed at the address alone
  pub done_from : (dropping : List ℕ) (w0 w : State) (s s' : Located) (d : Datum) (mode : Mode) (o : Out State) →
      s'.address ≡ s.address → located_at setting w0 s.address ≡ Some s →
      Alike w.activations (stored_at s.address d w0).activations → Done dropping w s'.address mode o →
      Done dropping w0 s.address mode o
  done_from dropping w0 w s s' d mode o e here k done = by o done
    where
      onto : (v : State) → Alike v.activations (stored_at s'.address Gone w).activations →
          Alike v.activations (stored_at s.address Gone w0).activations
      onto v j =
          alike_after (subst (λ a. Alike v.activations (stored_at a Gone w).activations) e j) _
          (alike_after (stored_alike setting w (stored_at s.address d w0) s.address Gone k) _
          (stored_twice setting w0 s.address s d Gone here))

      by : (o : Out State) → Done dropping w s'.address mode o → Done dropping w0 s.address mode o
      by o (goes v j g) = goes v (onto v j) g
      by o (panics v n j g) = panics v n (onto v j) g
      by o (ends halt v h g) = ends halt v h g

  abbrev is_unwinding : Mode → Bool
  is_unwinding Normal = false
  is_unwinding Unwinding = true

  pub not_normal : {A : Type 0} → Unwinding ≡ Normal → A
  not_normal e = absurd (false≢true (sym (ap is_unwinding e)))

  pub unwinding_done : (dropping : List ℕ) (w0 : State) (s : Located) (mode : Mode) (o : Out State) → mode ≡ Normal →
      Done dropping w0 s.address Unwinding o → Done dropping w0 s.address mode (unwinding_out o)
  unwinding_done dropping w0 s mode o e (goes w k g) = panics w e k g
  unwinding_done dropping w0 s mode o e (panics w n k g) = not_normal n
  unwinding_done dropping w0 s mode o e (ends halt w h g) = ends halt w h g

  -- a part is found as its type, and the content of a box as the box says
  pub found_part : (n variant : ℕ) (o : Option Ty) (f : DynamicType) → type_of_field items variant n o ≡ Some f →
      is_found items f ≡ true
  found_part n variant None f e = absurd (none-some f e)
  found_part n variant (Some ty) f e = by (slice_get (parts_of items ty variant) n) e
    where
      by : (o : Option TyId) → option_map_or (λ id. Some (OfType id)) o None ≡ Some f → is_found items f ≡ true
      by None x = absurd (none-some f x)
      by (Some id) x = let same : OfType id ≡ f = cc in subst (λ g. is_found items g ≡ true) same refl

  pub found_inside : (o : Option Ty) (content : TyId) (impl_no : Option ℕ) (f : DynamicType) → box_content o ≡ Some
      content →
      (is_some impl_no ≡ is_dyn (type_at items content)) × (is_impl_for items (type_at items content) impl_no ≡ true) →
      type_in_box impl_no o ≡ Some f → is_found items f ≡ true
  found_inside (Some (Ty.Boxed t)) content None f e k x =
      let same : OfType t ≡ f = cc in subst (λ g. is_found items g ≡ true) same refl
  found_inside (Some (Ty.Boxed t)) content (Some i) f e k x =
      let inside : t ≡ content = cc in
      let same : OfObject t i ≡ f = cc in
      subst (λ g. is_found items g ≡ true) same
      (subst (λ c. (is_dyn (type_at items c) && is_impl_for items (type_at items c) (Some i)) ≡ true) (sym inside)
      (ap (λ b. b && is_impl_for items (type_at items content) (Some i)) (sym k.0) ∙ k.1))
  found_inside None content impl_no f e k x = absurd (none-some content e)
  found_inside (Some other) content impl_no f e k x = absurd (none-some content e)

  module _ (run : Bodies) (keeps : DropsKeep run) where
    -- what stands there still is what was found
    pub still_there : (s : Located) (d : Datum) (w : State) (next : Located → State → Out State) →
        located_at setting w s.address ≡ Some (record s { value = d }) →
        Told s.dynamic → still setting run s next w ≡ next (record s { value = d }) w
    still_there s d w next e h =
        ap (λ o. if_still_typed items s.dynamic o next w) e ∙ ap (λ b. same_if b (next (record s { value = d })) w) h.0

    pub gone_done : (dropping : List ℕ) (w : State) (s : Located) (d : Datum) (mode : Mode) →
        located_at setting w s.address ≡ Some (record s { value = d }) → Told s.dynamic →
        Room size dropping w d → kept.good (serials d ++ dropping) w → Done dropping w s.address mode
        (gone_at setting run s w)
    gone_done dropping w s d mode e h m g =
        subst (Done dropping w s.address mode) (sym (still_there s d w (λ s w. Go (stored_at s.address Gone w)) e h))
        (goes (stored_at s.address Gone w) (alike_itself _) (kept.goes dropping w (record s { value = d }) e m g))

    pub freed_done : (dropping : List ℕ) (w : State) (s : Located) (serial : ℕ) (impl_no : Option ℕ) (mode : Mode) →
        located_at setting w s.address ≡ Some (record s { value = Box serial impl_no Gone }) →
        Told s.dynamic → Room size dropping w (Box serial impl_no Gone) →
        kept.good dropping w → Done dropping w s.address mode (freed_at setting run s w)
    freed_done dropping w s serial impl_no mode e h m g =
        subst (Done dropping w s.address mode)
        (sym (still_there s (Box serial impl_no Gone) w (λ s w. freed_there setting run s.value s w) e h))
        (goes (with_event (Event.Freed serial) (stored_at s.address Gone w)) (alike_itself _)
        (kept.frees dropping w (record s { value = Box serial impl_no Gone }) serial impl_no refl e m g))

    -- all parts are gone
    pub data PartsDone (dropping : List ℕ) (w0 : State) (s : Located) (variant : ℕ) (serial : Option ℕ)
        (mode : Mode) : Out State → Type 0 where
      parts_go : (m : ℕ) (w : State) →
          Alike w.activations (stored_at s.address (Aggregate variant serial (gone_before m no_part))
          w0).activations →
          RoomOfParts size dropping w no_part → kept.good dropping w →
          PartsDone dropping w0 s variant serial mode (Go w)
      parts_panic : (m : ℕ) (w : State) → mode ≡ Normal →
          Alike w.activations (stored_at s.address (Aggregate variant serial (gone_before m no_part))
          w0).activations →
          RoomOfParts size dropping w no_part → kept.good dropping w →
          PartsDone dropping w0 s variant serial mode (Unwind w)
      parts_end : (halt : Halt) (w : State) → MayEnd halt → kept.halted w →
          PartsDone dropping w0 s variant serial mode
          (Halts halt w)

    pub unwinding_parts : {dropping : List ℕ} {w0 : State} {s : Located} {variant : ℕ} {serial : Option ℕ}
        (mode : Mode) {o : Out State} → mode ≡ Normal → PartsDone dropping w0 s variant serial Unwinding o →
        PartsDone dropping w0 s variant serial mode (unwinding_out o)
    unwinding_parts mode e (parts_go m w k r g) = parts_panic m w e k r g
    unwinding_parts mode e (parts_panic m w n k r g) = not_normal n
    unwinding_parts mode e (parts_end halt w h g) = parts_end halt w h g

    -- and then the whole is
    pub walked : (dropping : List ℕ) (w : State) (s : Located) (variant : ℕ) (serial : Option ℕ) (d : Datum)
        (mode : Mode)
        (o : Out State) → located_at setting w s.address ≡ Some (record s { value = d }) →
        Told s.dynamic → PartsDone (option_to_list serial ++ dropping) w s variant serial
        mode o →
        Done dropping w s.address mode (in_mode mode o (λ mode. gone_at setting run (record s { value = d })))
    walked dropping w s variant serial d mode o here h k = by o k
      where
        serials_left : (m : ℕ) → serials (Aggregate variant serial (gone_before m no_part)) ++ dropping
            ≡ option_to_list serial ++ dropping
        serials_left m = ap (λ l. (option_to_list serial ++ l) ++ dropping) (no_serials m) ∙ of serial
          where
            of : (o : Option ℕ) → (option_to_list o ++ []) ++ dropping ≡ option_to_list o ++ dropping
            of None = refl
            of (Some n) = refl

        room_left : (m : ℕ) (v : State) → RoomOfParts size (option_to_list serial ++ dropping) v no_part →
            Room size dropping v (Aggregate variant serial (gone_before m no_part))
        room_left m v r k =
            let all = r k in
            let sum : times k (option_to_list serial ++ dropping) ≡ times k
            (serials (Aggregate variant serial (gone_before m no_part))) + times k dropping =
            ap (times k) (sym (serials_left m))
            ∙ times_append k (serials (Aggregate variant serial (gone_before m no_part))) dropping in
            omega arith

        gone : (mode : Mode) (m : ℕ) (v : State) →
            Alike v.activations (stored_at s.address (Aggregate variant serial (gone_before m no_part))
            w).activations →
            RoomOfParts size (option_to_list serial ++ dropping) v no_part →
            kept.good (option_to_list serial ++ dropping) v →
            Done dropping w s.address mode (gone_at setting run (record s { value = d }) v)
        gone mode m v j r g =
            let now : located_at setting v s.address ≡ Some
            (record s { value = Aggregate variant serial (gone_before m no_part) }) =
            alike_located setting v (stored_at s.address (Aggregate variant serial (gone_before m no_part)) w) j
            s.address ∙ stored_located setting w s.address (record s { value = d })
            (Aggregate variant serial (gone_before m no_part)) here in
            done_from dropping w v (record s { value = d }) s (Aggregate variant serial (gone_before m no_part))
            mode _
            refl here j
            (gone_done dropping v (record s { value = d }) (Aggregate variant serial (gone_before m no_part)) mode
            now h
            (room_left m v r) (subst (λ l. kept.good l v) (sym (serials_left m)) g))

        by : (o : Out State) → PartsDone (option_to_list serial ++ dropping) w s variant serial mode o →
            Done dropping w s.address mode (in_mode mode o (λ mode. gone_at setting run (record s { value = d })))
        by o (parts_go m v j r g) = gone mode m v j r g
        by o (parts_panic m v n j r g) = unwinding_done dropping w s mode _ n (gone Unwinding m v j r g)
        by o (parts_end halt v h g) = ends halt v h g
