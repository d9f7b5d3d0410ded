-- What a drop changes, and that each part that it comes to may as well be read afresh.
use Rattle.std.proofs.Common.{◌≡◌, ℕ, zero, suc, ◌==◌, Bool, true, false, [], ◌∷◌, Option, Some, None, refl, ap, sym, ◌∙◌, subst}
use Rattle.mir_base.specs.declared.trace.Event.{Event}
use Rattle.store_model.specs.declared.address.Addr.{Addr}
use Rattle.store_model.specs.declared.address.At.{At}
use Rattle.store_model.specs.declared.address.At.TheVariants.{Part, Inside}
use Rattle.store_model.specs.Values.Datum.{Datum, Data, Gone, Number, Truth, UnitValue, Aggregate, Box, Address, no_part, a_part}
use Rattle.store_model.specs.Concrete.Drops.{drop_body_out, unwinding_out, in_mode, drop_impl, still_of, same_if, if_still_typed, Stage, Begins, HasRun, still, gone_at, freed_there, freed_at, as_read, if_part, with_body, own_body, serial_or_none, drop_value, drop_parts, dropped_there, drop_at}
use Rattle.store_model.specs.Effects.{Mode, Normal, Unwinding, Out, Go, Unwind, Halts}
use Rattle.store_model.specs.Values.Access.{part, with_part, part_at, with_part_at}
use Rattle.store_model.specs.Concrete.Location.{Setting, DynamicType, concrete_ty, type_of_part, type_of_field, type_in_box, Located, below, into, located_at, stored_at}
use Rattle.store_model.specs.Concrete.State.{State, Answer, Returns, Unwinds, HaltsIn, Bodies}
use Rattle.drop_values.specs.Plan.{IfFound}
use Rattle.drop_values.specs.Typed.{IsFull}
use Rattle.drop_values.proofs.Stand.{Changed, stored-Changed, Changed-Changed, with_value, Into, into-parts, into-is, Stands, stands-Changed, stands-into, standing-address, Changed-above, gone-Changed, stands-known}
use Rattle.drop_values.proofs.Sound.{BodyFull, Sound, SoundParts, full-Sound}

-- the parts from a number on
abbrev pub tail : ℕ → Data → Data
tail zero parts = parts
tail (suc k) no_part = no_part
tail (suc k) (a_part first rest) = tail k rest

pub tail-first : (k : ℕ) (parts : Data) (first : Datum) (rest : Data) → tail k parts ≡ a_part first rest →
    part_at k parts ≡ Some first
tail-first zero no_part first rest e = absurd (let n : no_part ≡ a_part first rest = e in cc)
tail-first zero (a_part f r) first rest e = let x : f ≡ first = cc in ap Some x
tail-first (suc k) no_part first rest e = absurd (let n : no_part ≡ a_part first rest = e in cc)
tail-first (suc k) (a_part f r) first rest e = tail-first k r first rest e

pub tail-next : (k : ℕ) (new : Datum) (parts : Data) (first : Datum) (rest : Data) → tail k parts ≡ a_part first rest →
    tail (suc k) (with_part_at k new parts) ≡ rest
tail-next zero new no_part first rest e = absurd (let n : no_part ≡ a_part first rest = e in cc)
tail-next zero new (a_part f r) first rest e = let x : r ≡ rest = cc in x
tail-next (suc k) new no_part first rest e = absurd (let n : no_part ≡ a_part first rest = e in cc)
tail-next (suc k) new (a_part f r) first rest e = tail-next k new r first rest e

-- each way but a halt leads to such a state
abbrev pub Each : (State → Type 0) → Out State → Type 0
Each P (Go w) = P w
Each P (Unwind w) = P w
Each P (Halts halt w) = Unit {0}

pub each_in_mode : (P Q : State → Type 0) (mode : Mode) (o : Out State) (next : Mode → State → Out State) → Each P o →
    ((mode : Mode) (v : State) → P v → Each Q (next mode v)) → Each Q (in_mode mode o next)
each_in_mode P Q mode (Go w) next p h = h mode w p
each_in_mode P Q mode (Unwind w) next p h = go (next Unwinding w) (h Unwinding w p)
  where
    go : (o : Out State) → Each Q o → Each Q (unwinding_out o)
    go (Go w) q = q
    go (Unwind w) q = q
    go (Halts halt w) q = tt
each_in_mode P Q mode (Halts halt w) next p h = tt

-- the same in each mode and state that a way leads to
pub same_in_mode : (P : State → Type 0) (mode : Mode) (o : Out State) (next next' : Mode → State → Out State) →
    Each P o → ((mode : Mode) (v : State) → P v → next mode v ≡ next' mode v) →
    in_mode mode o next ≡ in_mode mode o next'
same_in_mode P mode (Go w) next next' p h = h mode w p
same_in_mode P mode (Unwind w) next next' p h = ap unwinding_out (h Unwinding w p)
same_in_mode P mode (Halts halt w) next next' p h = refl

module _ (setting : Setting) where
  -- what a `Drop` body leaves: nothing but its value may have changed, and that is full again
  pub record Left (s : Located) (w v : State) : Type 0 where
    pub new : Datum
    pub full : IsFull setting.items s.dynamic new
    pub change : Changed s.address new w v

  abbrev pub Leaves : Located → State → Answer → Type 0
  Leaves s w (Returns value v) = Left s w v
  Leaves s w (Unwinds v) = Left s w v
  Leaves s w (HaltsIn halt v) = Unit {0}

  abbrev pub Frames : Bodies → Type 0
  Frames run = (of : ℕ × ℕ) (serial : ℕ) (s : Located) (w : State) → drop_impl setting.items
      (concrete_ty setting.items s.dynamic) ≡ Some of → Stands setting w s →
      IsFull setting.items s.dynamic s.value → Leaves s w (run (Event.Dropped of.0 serial) of.1
      (Address s.address ∷ []) w)

module _ (setting : Setting) (run : Bodies) (frames : Frames setting run) where
  abbrev pub After : Addr → State → Out State → Type 0
  After a w o = Each (Changed a Gone w) o

  still_each : (P : State → Type 0) (s t : Located) (next : Located → State → Out State) (w : State) →
      located_at setting w s.address ≡ Some t → Each P (next t w) → Each P (still setting run s next w)
  still_each P s t next w e p = subst (λ o. Each P (if_still_typed setting.items s.dynamic o next w))
      (sym e) (go (still_of setting.items s.dynamic t.dynamic))
    where
      go : (b : Bool) → Each P (same_if b (next t) w)
      go true = p
      go false = tt

  pub gone-After : (s : Located) (v : Datum) (w : State) → Stands setting w (with_value s v) →
      After s.address w (gone_at setting run s w)
  gone-After s v w e = still_each (Changed s.address Gone w) s (with_value s v) (λ s w. Go (stored_at s.address Gone w))
      w e (stored-Changed s.address Gone w (stands-known setting w (with_value s v) e))

  pub freed-After : (s : Located) (v : Datum) (w : State) → Stands setting w (with_value s v) →
      After s.address w (freed_at setting run s w)
  freed-After s v w e = still_each (Changed s.address Gone w) s (with_value s v)
      (λ s w. freed_there setting run s.value s w) w e (go v)
    where
      stored : Changed s.address Gone w (stored_at s.address Gone w)
      stored = stored-Changed s.address Gone w (stands-known setting w (with_value s v) e)

      go : (d : Datum) → Each (Changed s.address Gone w) (freed_there setting run d (with_value s v) w)
      go Gone = tt
      go (Number number) = tt
      go (Truth truth) = tt
      go UnitValue = tt
      go (Aggregate variant serial parts) = tt
      go (Box serial impl_no inside) = record {
        less = stored.less;
        count = stored.count;
        bodies =
            stored.bodies;
        here = stored.here;
        apart = stored.apart;
      }
      go (Address address) = tt

  -- a container with a value in it that may be dropped
  module _ (again : Stage → Located → Mode → State → Out State)
      (again_after : (stage : Stage) (s : Located) (v : Datum) (mode : Mode) (w : State) →
      Stands setting w (with_value s v) → Sound setting.items v s.dynamic → After s.address w
      (again stage s mode w))
      (ticks : ℕ) where
    part-After : (step : At) (s t : Located) (drop : Located → Mode → State → Out State) (mode : Mode) (w : State) →
        into setting.items step s ≡ Some t → Stands setting w t → Sound setting.items t.value t.dynamic →
        After t.address w (drop t mode w) → After t.address w
        (if_part setting run again ticks (into setting.items step s) drop mode w)
    part-After step s t drop mode w e st sound h =
        subst (λ o. After t.address w (if_part setting run again ticks o drop mode w)) (sym e) (go (w.ticks == ticks))
      where
        go : (b : Bool) → After t.address w (as_read setting run again ticks b drop t mode w)
        go true = h
        go false = again_after Begins t t.value mode w st sound

    -- the rest of an aggregate, as it stands while its first parts are gone already
    pub record Rest (s : Located) (k variant : ℕ) (serial : Option ℕ) (rest : Data) (w0 w : State) : Type 0 where
      pub parts : Data
      pub stands : Stands setting w (with_value s (Aggregate variant serial parts))
      pub tail_is : tail k parts ≡ rest
      pub change : (new : Datum) (v : State) → Changed s.address new w v → Changed s.address new w0 v

    -- the same where all parts that were to be dropped are gone
    pub record Ended (s : Located) (w0 w : State) : Type 0 where
      pub value : Datum
      pub stands : Stands setting w (with_value s value)
      pub change : (new : Datum) (v : State) → Changed s.address new w v → Changed s.address new w0 v

    -- an aggregate and its next part
    pub record Next (s : Located) (k variant : ℕ) (serial : Option ℕ) (first : Datum) (rest : Data)
        (w0 w : State) (t : Located) : Type 0 where
      pub stands : Stands setting w t
      pub value_is : t.value ≡ first
      pub found_is : type_of_field setting.items variant k (concrete_ty setting.items s.dynamic) ≡ Some t.dynamic
      pub address_is : t.address ≡ below s.address (Part k)
      pub goes_on : (v : State) → Changed t.address Gone w v → Rest s (suc k) variant serial rest w0 v

    pub next_part : (s : Located) (k variant : ℕ) (serial : Option ℕ) (parts : Data) (first : Datum)
        (rest : Data) (w0 w : State) (t : Located) →
        s.value ≡ Aggregate variant serial parts → tail k parts ≡ a_part first rest →
        Rest s k variant serial (a_part first rest) w0 w → into setting.items (Part k) s ≡ Some t →
        Next s k variant serial first rest w0 w t
    next_part s k variant serial parts first rest w0 w t is tails r e =
        let i = into-parts setting.items (Part k) s t e in
        let c : Located = with_value s (Aggregate variant serial r.parts) in
        let first_is : i.value ≡ first = (let same : Some i.value ≡ Some first = sym i.value_is
        ∙ ap (part (Part k)) is ∙ tail-first k parts first rest tails in cc) in
        let found_is : type_of_field setting.items variant k (concrete_ty setting.items s.dynamic) ≡ Some i.dynamic =
        ap (λ d. type_of_part setting.items (Part k) d s.dynamic) (sym is) ∙ i.found_is in
        let j : Into setting.items (Part k) c t = record {
          value = i.value;
          dynamic = i.dynamic;
          value_is =
              tail-first k r.parts first rest r.tail_is ∙ ap Some (sym first_is);
          found_is = found_is;
          is = i.is;
        } in
        let there : located_at setting w (below s.address (Part k)) ≡ Some t = stands-into setting w c (Part k) r.stands
        ∙ into-is setting.items (Part k) c t j in
        let address : t.address ≡ below s.address (Part k) = standing-address setting w
        (below s.address (Part k)) t there in record {
          stands = ap (located_at setting w) address ∙ there;
          value_is = ap (λ x. x.value) i.is ∙ first_is;
          found_is = found_is ∙ ap (λ x. Some x.dynamic) (sym i.is);
          address_is = address;
          goes_on = λ v ch.
              let above = Changed-above setting w v c t (Part k) Gone r.stands j
              (subst (λ a. Changed a Gone w v) address ch) in record {
                parts = with_part_at k Gone r.parts;
                stands = stands-Changed setting w v c (Aggregate variant serial (with_part_at k Gone r.parts))
                    r.stands above;
                tail_is = tail-next k Gone r.parts first rest r.tail_is;
                change = λ new u h. r.change new u
                    (Changed-Changed s.address (Aggregate variant serial (with_part_at k Gone r.parts))
                    new w v u above h);
              };
        }

    -- a `Drop` body, and then the rest
    pub body_out : (s : Located) (w : State) (mode : Mode) (a : Answer) → Leaves setting s w a →
        Each (Left setting s w) (drop_body_out mode a)
    body_out s w mode (Returns value v) h = h
    body_out s w Normal (Unwinds v) h = h
    body_out s w Unwinding (Unwinds v) h = tt
    body_out s w mode (HaltsIn halt v) h = tt

    pub part_or_halt : (P : State → Type 0) (o : Option Located) (drop : Located → Mode → State → Out State)
        (mode : Mode) (w : State) →
        ((t : Located) → o ≡ Some t → Each P (if_part setting run again ticks (Some t) drop mode w)) →
        Each P (if_part setting run again ticks o drop mode w)
    part_or_halt P None drop mode w h = tt
    part_or_halt P (Some t) drop mode w h = h t refl

    pub weaken : (P Q : State → Type 0) (o : Out State) → Each P o → ((v : State) → P v → Q v) → Each Q o
    weaken P Q (Go w) p h = h w p
    weaken P Q (Unwind w) p h = h w p
    weaken P Q (Halts halt w) p h = tt

    pub if_found_is : (P : DynamicType → Type 0) (o : Option DynamicType) (f : DynamicType) → o ≡ Some f →
        IfFound o P → P f
    if_found_is P None f e h = absurd (let n : None ≡ Some f = e in cc)
    if_found_is P (Some g) f e h = subst P (let x : g ≡ f = cc in x) h

    mutual
      pub value-After : (d : Datum) (stage : Stage) (s : Located) (mode : Mode) (w : State) → s.value ≡ d →
          Stands setting w s → Sound setting.items d s.dynamic → After s.address w
          (drop_value setting run again ticks d stage s mode w)
      value-After Gone stage s mode w is st sound = gone-Changed setting w s st is
      value-After (Number number) stage s mode w is st sound = gone-After s s.value w st
      value-After (Truth truth) stage s mode w is st sound = gone-After s s.value w st
      value-After UnitValue stage s mode w is st sound = gone-After s s.value w st
      value-After (Address address) stage s mode w is st sound = gone-After s s.value w st
      value-After (Aggregate variant serial parts) stage s mode w is st sound =
          by (own_body setting run again ticks stage (drop_impl setting.items (concrete_ty setting.items s.dynamic)))
          whole
          (λ mode'. each_in_mode (Ended s w) (Changed s.address Gone w) mode'
          (drop_parts setting run again ticks parts 0 s mode' w) (λ m. gone_at setting run s)
          (parts-After parts 0 s mode' w w variant serial parts is refl
          (record {
            parts = parts;
            stands = subst (λ d. Stands setting w (with_value s d)) is st;
            tail_is =
                refl;
            change = λ new v c. c;
          }) sound.1)
          (λ m v e. weaken (Changed s.address Gone v) (Changed s.address Gone w) (gone_at setting run s v)
          (gone-After s e.value v e.stands) (λ u c. e.change Gone u c)))
        where
          of_body : (stage : Stage) (o : Option (ℕ × ℕ)) →
              BodyFull setting.items o s.dynamic (Aggregate variant serial parts) → (of : ℕ × ℕ) →
              own_body setting run again ticks stage o ≡ Some of →
              (o ≡ Some of) × IsFull setting.items s.dynamic (Aggregate variant serial parts)
          of_body Begins None h of e = absurd (let n : None ≡ Some of = e in cc)
          of_body Begins (Some x) h of e = (e, h)
          of_body HasRun o h of e = absurd (let n : None ≡ Some of = e in cc)

          whole : (of : ℕ × ℕ) → own_body setting run again ticks stage
              (drop_impl setting.items (concrete_ty setting.items s.dynamic)) ≡ Some of →
              (drop_impl setting.items (concrete_ty setting.items s.dynamic) ≡ Some of)
              × IsFull setting.items s.dynamic (Aggregate variant serial parts)
          whole = of_body stage (drop_impl setting.items (concrete_ty setting.items s.dynamic)) sound.0

          by : (o : Option (ℕ × ℕ)) → ((of : ℕ × ℕ) → o ≡ Some of →
              (drop_impl setting.items (concrete_ty setting.items s.dynamic) ≡ Some of)
              × IsFull setting.items s.dynamic (Aggregate variant serial parts)) →
              ((mode : Mode) → After s.address w (in_mode mode (drop_parts setting run again ticks parts 0 s mode w)
              (λ m. gone_at setting run s))) →
              After s.address w (with_body setting run again ticks o serial s
              (λ mode w. in_mode mode (drop_parts setting run again ticks parts 0 s mode w)
              (λ m. gone_at setting run s)) mode w)
          by None h p = p mode
          by (Some of) h p =
              each_in_mode (Left setting s w) (Changed s.address Gone w) mode _ (again HasRun s)
              (body_out s w mode _ (frames of (serial_or_none serial) s w (h of refl).0 st
              (subst (IsFull setting.items s.dynamic) (sym is) (h of refl).1)))
              (λ m v l. weaken (Changed s.address Gone v) (Changed s.address Gone w) (again HasRun s m v)
              (again_after HasRun s l.new m v (stands-Changed setting w v s l.new st l.change)
              (full-Sound setting.items l.new s.dynamic l.full))
              (λ u c. Changed-Changed s.address l.new Gone w v u l.change c))
      value-After (Box serial impl_no inside) stage s mode w is st sound =
          each_in_mode (Ended s w) (Changed s.address Gone w) mode
          (if_part setting run again ticks (into setting.items Inside s)
          (drop_value setting run again ticks inside Begins) mode w) (λ m. freed_at setting run s)
          (part_or_halt (Ended s w) (into setting.items Inside s) (drop_value setting run again ticks inside Begins)
          mode w
          (λ t e. content t e (into-parts setting.items Inside s t e)
          (λ st' v_is sound'. value-After inside Begins t mode w v_is st' sound')))
          (λ m v e. weaken (Changed s.address Gone v) (Changed s.address Gone w) (freed_at setting run s v)
          (freed-After s e.value v e.stands) (λ u c. e.change Gone u c))
        where
          content : (t : Located) (e : into setting.items Inside s ≡ Some t) (i : Into setting.items Inside s t) →
              (Stands setting w t → t.value ≡ inside → Sound setting.items inside t.dynamic →
              After t.address w (drop_value setting run again ticks inside Begins t mode w)) →
              Each (Ended s w) (if_part setting run again ticks (Some t)
              (drop_value setting run again ticks inside Begins) mode w)
          content t e i h =
              let there : located_at setting w (below s.address Inside) ≡ Some t = stands-into setting w s Inside st
              ∙ e in
              let address : t.address ≡ below s.address Inside = standing-address setting w
              (below s.address Inside) t there in
              let st' : Stands setting w t = ap (located_at setting w) address ∙ there in
              let v_is : t.value ≡ inside = (let same : Some i.value ≡ Some inside = sym i.value_is
              ∙ ap (part Inside) is in ap (λ x. x.value) i.is ∙ cc) in
              let f_is : type_in_box impl_no (concrete_ty setting.items s.dynamic) ≡ Some t.dynamic =
              ap (λ d. type_of_part setting.items Inside d s.dynamic) (sym is) ∙ i.found_is
              ∙ ap (λ x. Some x.dynamic) (sym i.is) in
              let sound' : Sound setting.items inside t.dynamic = if_found_is (Sound setting.items inside)
              _ t.dynamic f_is sound in
              weaken (Changed t.address Gone w) (Ended s w) (if_part setting run again ticks (Some t)
              (drop_value setting run again ticks inside Begins) mode w)
              (read (w.ticks == ticks) st' (subst (λ d. Sound setting.items d t.dynamic) (sym v_is) sound')
              (h st' v_is sound'))
              (λ v c. let above = Changed-above setting w v s t Inside Gone st i
              (subst (λ a. Changed a Gone w v) address c) in record {
                value = with_part Inside Gone s.value;
                stands = stands-Changed setting w v s (with_part Inside Gone s.value) st above;
                change = λ new u k. Changed-Changed s.address (with_part Inside Gone s.value) new w v u above k;
              })
            where
              read : (b : Bool) → Stands setting w t → Sound setting.items t.value t.dynamic →
                  After t.address w (drop_value setting run again ticks inside Begins t mode w) →
                  After t.address w (as_read setting run again ticks b
                  (drop_value setting run again ticks inside Begins) t mode w)
              read true st sound h = h
              read false st sound h = again_after Begins t t.value mode w st sound

      pub parts-After : (rest : Data) (k : ℕ) (s : Located) (mode : Mode) (w w0 : State) (variant : ℕ)
          (serial : Option ℕ) (parts : Data) →
          s.value ≡ Aggregate variant serial parts → tail k parts ≡ rest → Rest s k variant serial rest w0 w →
          SoundParts setting.items rest (λ n. type_of_field setting.items variant n
          (concrete_ty setting.items s.dynamic)) k →
          Each (Ended s w0) (drop_parts setting run again ticks rest k s mode w)
      parts-After no_part k s mode w w0 variant serial parts is tails r sound =
          record { value = Aggregate variant serial r.parts; stands = r.stands; change = r.change }
      parts-After (a_part first rest) k s mode w w0 variant serial parts is tails r sound =
          each_in_mode (Rest s (suc k) variant serial rest w0) (Ended s w0) mode
          (if_part setting run again ticks (into setting.items (Part k) s)
          (drop_value setting run again ticks first Begins) mode w)
          (drop_parts setting run again ticks rest (suc k) s)
          (part_or_halt (Rest s (suc k) variant serial rest w0) (into setting.items (Part k) s)
          (drop_value setting run again ticks first Begins) mode w
          (λ t e. one t (next_part s k variant serial parts first rest w0 w t is tails r e)
          (λ st v_is sound'. value-After first Begins t mode w v_is st sound')))
          (λ m v r'. parts-After rest (suc k) s m v w0 variant serial parts is (later parts k tails) r' sound.1)
        where
          later : (parts : Data) (k : ℕ) → tail k parts ≡ a_part first rest → tail (suc k) parts ≡ rest
          later no_part zero e = absurd (let n : no_part ≡ a_part first rest = e in cc)
          later no_part (suc k) e = absurd (let n : no_part ≡ a_part first rest = e in cc)
          later (a_part f r) zero e = let x : r ≡ rest = cc in x
          later (a_part f r) (suc k) e = later r k e

          one : (t : Located) (n : Next s k variant serial first rest w0 w t) →
              (Stands setting w t → t.value ≡ first → Sound setting.items first t.dynamic →
              After t.address w (drop_value setting run again ticks first Begins t mode w)) →
              Each (Rest s (suc k) variant serial rest w0) (if_part setting run again ticks (Some t)
              (drop_value setting run again ticks first Begins) mode w)
          one t n h =
              let sound' : Sound setting.items first t.dynamic = if_found_is (Sound setting.items first)
              _ t.dynamic n.found_is sound.0 in
              weaken (Changed t.address Gone w) (Rest s (suc k) variant serial rest w0)
              (if_part setting run again ticks (Some t) (drop_value setting run again ticks first Begins) mode w)
              (read (w.ticks == ticks) (subst (λ d. Sound setting.items d t.dynamic) (sym n.value_is) sound')
              (h n.stands n.value_is sound')) n.goes_on
            where
              read : (b : Bool) → Sound setting.items t.value t.dynamic → After t.address w
                  (drop_value setting run again ticks first Begins t mode w) →
                  After t.address w (as_read setting run again ticks b (drop_value setting run again ticks first Begins)
                  t mode w)
              read true sound h = h
              read false sound h = again_after Begins t t.value mode w n.stands sound

    -- a part, as it was read or read again
    pub read-After : (d : Datum) (t : Located) (mode : Mode) (w : State) → t.value ≡ d → Stands setting w t →
        Sound setting.items d t.dynamic → After t.address w (if_part setting run again ticks (Some t)
        (drop_value setting run again ticks d Begins) mode w)
    read-After d t mode w is st sound = by (w.ticks == ticks)
      where
        by : (b : Bool) → After t.address w (as_read setting run again ticks b
            (drop_value setting run again ticks d Begins) t mode w)
        by true = value-After d Begins t mode w is st sound
        by false = again_after Begins t t.value mode w st (subst (λ d. Sound setting.items d t.dynamic) (sym is) sound)

  -- a drop leaves its place gone, and changes nothing else
  pub drop_at-After : (bound : ℕ) (stage : Stage) (s : Located) (v : Datum) (mode : Mode) (w : State) →
      Stands setting w (with_value s v) → Sound setting.items v s.dynamic →
      After s.address w (drop_at setting run bound stage s mode w)
  drop_at-After zero stage s v mode w st sound = tt
  drop_at-After (suc n) stage s v mode w st sound =
      still_each (Changed s.address Gone w) s (with_value s v)
      (dropped_there setting run (drop_at setting run n) stage mode) w st
      (value-After (drop_at setting run n) (drop_at-After n) w.ticks v stage (with_value s v) mode w refl st sound)
