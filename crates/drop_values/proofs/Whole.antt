-- A full value is dropped alike in both runs.
use Rattle.std.proofs.Common.{◌≡◌, inl, inr, ℕ, zero, suc, ◌==◌, ◌≤◌, Bool, true, false, [], ◌∷◌, ◌++◌, Option, Some, None, refl, ap, sym, ◌∙◌, subst, arith, List}
use Rattle.mir_base.specs.declared.trace.Event.{Event}
use Rattle.mir_ty.specs.declared.ty.TyId.{TyId}
use Rattle.mir_ty.specs.ItemTable.{ItemTable}
use Rattle.store_model.specs.declared.address.At.TheVariants.{Part, Inside}
use Rattle.store_model.specs.Values.Datum.{Datum, Data, Gone, Number, Truth, UnitValue, Aggregate, Box, Address, no_part, a_part}
use Rattle.store_model.specs.Concrete.Drops.{drop_body_out, unwinding_out, in_mode, drop_impl, still_of, same_if, if_still_typed, Stage, Begins, HasRun, still, gone_at, freed_there, freed_at, as_read, if_part, with_body, own_body, serial_or_none, drop_value, drop_parts, dropped_there, drop_at}
use Rattle.store_model.specs.Effects.{Mode, Normal, Unwinding, Out, Go, Unwind, Halts}
use Rattle.store_model.specs.Values.Access.{part, with_part}
use Rattle.store_model.specs.Concrete.Location.{Setting, concrete_ty, type_of_part, Located, below, into, located_at, stored_at}
use Rattle.store_model.specs.Abstract.Presence.{is_present}
use Rattle.store_model.specs.Concrete.State.{State, with_event, Answer, Returns, Unwinds, HaltsIn, Bodies}
use Rattle.std.proofs.lemmas.Bool.{false≢true}
use Rattle.drop_values.specs.Covers.{Covers}
use Rattle.drop_values.specs.Typed.{PartsFit, IsFull}
use Rattle.drop_values.proofs.Fits.{full-whole, part_fits}
use Rattle.drop_values.proofs.Found.{field-proper, box-proper}
use Rattle.drop_values.specs.Like.{Flags, Like, Same, SameAnswer, SameBodies, MayEnter, raw_setting, strict_setting, Extends}
use Rattle.drop_values.proofs.Stand.{Changed, stored-Changed, Changed-Changed, with_value, Into, into-parts, Stands, stands-Changed, stands-into, standing-address, Changed-above, stands-known}
use Rattle.drop_values.proofs.Frame.{tail, tail-first, Each, Left, Frames, Rest, Ended, Next, next_part, body_out, part_or_halt, weaken, parts-After, read-After, drop_at-After}
use Rattle.drop_values.proofs.Sound.{Sound, full-Sound}
use Rattle.drop_values.proofs.LikeLaws.{whole-Covers, there, change-Like}

module _ (local_ty : (body local : ℕ) → Option TyId) where
  -- a way that is the same, and what comes next
  unwinding-Same : (B : State → State → Type 0) (o o' : Out State) → Same local_ty B o o' →
      Same local_ty B (unwinding_out o) (unwinding_out o')
  unwinding-Same B (Go w) o' h = (h.0, ap unwinding_out h.1, h.2)
  unwinding-Same B (Unwind w) o' h = (h.0, ap unwinding_out h.1, h.2)
  unwinding-Same B (Halts halt w) o' (inl stuck) = inl stuck
  unwinding-Same B (Halts halt w) o' (inr h) = inr (h.0, ap unwinding_out h.1, h.2)

  pub in_mode-Same : (A B : State → State → Type 0) (P : State → Type 0) (mode : Mode) (o o' : Out State)
      (next next' : Mode → State → Out State) → Each P o → Same local_ty A o o' →
      ((m : Mode) (v v' : State) → P v → A v v' → Same local_ty B (next m v) (next' m v')) →
      Same local_ty B (in_mode mode o next) (in_mode mode o' next')
  in_mode-Same A B P mode (Go w) o' next next' p h f = subst (λ x. Same local_ty B (next mode w) (in_mode mode x next'))
      (sym h.1) (f mode w h.0 p h.2)
  in_mode-Same A B P mode (Unwind w) o' next next' p h f =
      subst (λ x. Same local_ty B (unwinding_out (next Unwinding w)) (in_mode mode x next')) (sym h.1)
      (unwinding-Same B (next Unwinding w) (next' Unwinding h.0) (f Unwinding w h.0 p h.2))
  in_mode-Same A B P mode (Halts halt w) o' next next' p (inl stuck) f = inl stuck
  in_mode-Same A B P mode (Halts halt w) o' next next' p (inr h) f = inr (h.0, ap (λ x. in_mode mode x next') h.1, h.2)

  body_out-Same : (flags : Flags) (mode : Mode) (a a' : Answer) → SameAnswer local_ty flags a a' →
      Same local_ty (Like local_ty flags) (drop_body_out mode a) (drop_body_out mode a')
  body_out-Same flags mode (Returns value w) a' h = (h.0, ap (drop_body_out mode) h.1, h.2)
  body_out-Same flags Normal (Unwinds w) a' h = (h.0, ap (drop_body_out Normal) h.1, h.2)
  body_out-Same flags Unwinding (Unwinds w) a' h = inr (h.0, ap (drop_body_out Unwinding) h.1, h.2.trace)
  body_out-Same flags mode (HaltsIn halt w) a' (inl stuck) = inl stuck
  body_out-Same flags mode (HaltsIn halt w) a' (inr h) = inr (h.0, ap (drop_body_out mode) h.1, h.2)

module _ (items : ItemTable) (local_ty local_ty' : (body local : ℕ) → Option TyId)
    (extends : Extends local_ty local_ty') (run run' : Bodies)
    (frames : Frames (raw_setting items local_ty) run) (most : ℕ) (good : ℕ → List Datum → State → Type 0)
    (may_enter : MayEnter items local_ty good) (tie : SameBodies local_ty good most run run') (flags : Flags) where
  abbrev raw : Setting
  raw = raw_setting items local_ty

  abbrev strict : Setting
  strict = strict_setting items local_ty'

  abbrev L : State → State → Type 0
  L = Like local_ty flags

  abbrev Way : Out State → Out State → Type 0
  Way = Same local_ty L

  still-Same : (s : Located) (v : Datum) (next next' : Located → State → Out State) (w w' : State) →
      Stands raw w (with_value s v) → L w w' →
      ((other : Datum) → Stands strict w' (with_value s other) → Covers v other →
      Way (next (with_value s v) w) (next' (with_value s other) w')) → Way (still raw run s next w)
      (still strict run' s next' w')
  still-Same s v next next' w w' st like h =
      let t = there items local_ty local_ty' extends flags w w' s.address (with_value s v) like st in
      subst (λ o. Way (if_still_typed items s.dynamic o next w)
      (if_still_typed items s.dynamic (located_at strict w' s.address) next' w')) (sym st)
      (subst (λ o. Way (same_if (still_of items s.dynamic s.dynamic) (next (with_value s v)) w)
      (if_still_typed items s.dynamic o next' w')) (sym t.stands)
      (go (still_of items s.dynamic s.dynamic) t.other t.stands t.covers))
    where
      go : (b : Bool) (other : Datum) → Stands strict w' (with_value s other) → Covers v other →
          Way (same_if b (next (with_value s v)) w) (same_if b (next' (with_value s other)) w')
      go true other e c = h other e c
      go false other e c = inl tt

  -- the place is gone in both
  stored-Same : (s : Located) (v other : Datum) (w w' : State) → Stands raw w (with_value s v) →
      Stands strict w' (with_value s other) → L w w' → L (stored_at s.address Gone w) (stored_at s.address Gone w')
  stored-Same s v other w w' st st' like =
      change-Like items local_ty local_ty' extends flags w w' (stored_at s.address Gone w)
      (stored_at s.address Gone w') s.address (with_value s v) Gone Gone like st
      (stored-Changed s.address Gone w (stands-known raw w (with_value s v) st))
      (stored-Changed s.address Gone w' (stands-known strict w' (with_value s other) st')) refl
      (record { asked = like.asked; ticks = like.ticks; serial = like.serial; trace = like.trace })

  pub gone-Same : (s : Located) (v : Datum) (w w' : State) → Stands raw w (with_value s v) → L w w' →
      Way (gone_at raw run s w) (gone_at strict run' s w')
  gone-Same s v w w' st like = still-Same s v (λ s w. Go (stored_at s.address Gone w))
      (λ s w. Go (stored_at s.address Gone w)) w w' st like
      (λ other e c. (stored_at s.address Gone w', refl, stored-Same s v other w w' st e like))

  pub freed-Same : (s : Located) (v : Datum) (w w' : State) → Stands raw w (with_value s v) → L w w' →
      Way (freed_at raw run s w) (freed_at strict run' s w')
  freed-Same s v w w' st like = still-Same s v (λ s w. freed_there raw run s.value s w)
      (λ s w. freed_there strict run' s.value s w) w w' st like
      (λ other e c. go v other c (stored-Same s v other w w' st e like))
    where
      go : (d other : Datum) → Covers d other → L (stored_at s.address Gone w) (stored_at s.address Gone w') →
          Way (freed_there raw run d (with_value s v) w) (freed_there strict run' other (with_value s other) w')
      go (Box serial impl_no inside) other c l = (
        with_event (Event.Freed serial) (stored_at s.address Gone w'),
        ap (λ d. freed_there strict run' d (with_value s other) w') c.1,
        record {
          asked = l.asked;
          ticks = l.ticks;
          serial = l.serial;
          trace =
              ap (λ t. t ++ Event.Freed serial ∷ []) l.trace;
          count = l.count;
          bodies = l.bodies;
          covers =
              l.covers;
          flags_are = l.flags_are;
        },
      )
      go others other c l = inl tt

  module _ (b ticks : ℕ) (again_Same : (stage : Stage) (s : Located) (v : Datum) (mode : Mode) (w w' : State) →
      Stands raw w (with_value s v) → IsFull items s.dynamic v → L w w' → w.ticks ≤ most →
      Way (drop_at raw run b stage s mode w) (drop_at strict run' b stage s mode w')) where
    abbrev again : Stage → Located → Mode → State → Out State
    again = drop_at raw run b

    abbrev again' : Stage → Located → Mode → State → Out State
    again' = drop_at strict run' b

    abbrev again_After : (stage : Stage) (s : Located) (v : Datum) (mode : Mode) (w : State) →
        Stands raw w (with_value s v) → Sound items v s.dynamic → Each (Changed s.address Gone w)
        (drop_at raw run b stage s mode w)
    again_After = drop_at-After raw run frames b

    own-Same : (stage : Stage) (o : Option (ℕ × ℕ)) → own_body strict run' again' ticks stage o ≡ own_body
        raw run again ticks stage o
    own-Same Begins o = refl
    own-Same HasRun o = refl

    if_part-Same : (o : Option Located) (d : Datum) (mode : Mode) (w w' : State) → L w w' →
        ((t : Located) → o ≡ Some t → Stands raw w t × IsFull items t.dynamic t.value
        × (Way (drop_value raw run again ticks d Begins t mode w)
        (drop_value strict run' again' ticks d Begins t mode w'))) → w.ticks ≤ most →
        Way (if_part raw run again ticks o (drop_value raw run again ticks d Begins) mode w)
        (if_part strict run' again' ticks o (drop_value strict run' again' ticks d Begins) mode w')
    if_part-Same None d mode w w' like h l = inl tt
    if_part-Same (Some t) d mode w w' like h l =
        subst (λ x. Way (as_read raw run again ticks (w.ticks == ticks) (drop_value raw run again ticks d Begins)
        t mode w) (as_read strict run' again' ticks (x == ticks) (drop_value strict run' again' ticks d Begins)
        t mode w')) (sym like.ticks)
        (by (w.ticks == ticks) (h t refl))
      where
        by : (b : Bool) → Stands raw w t × IsFull items t.dynamic t.value
            × (Way (drop_value raw run again ticks d Begins t mode w)
            (drop_value strict run' again' ticks d Begins t mode w')) →
            Way (as_read raw run again ticks b (drop_value raw run again ticks d Begins) t mode w)
            (as_read strict run' again' ticks b (drop_value strict run' again' ticks d Begins) t mode w')
        by true h = h.2
        by false h = again_Same Begins t t.value mode w w' h.0 h.1 like l

    mutual
      value-Same : (d : Datum) (stage : Stage) (s : Located) (mode : Mode) (w w' : State) → s.value ≡ d →
          Stands raw w s → IsFull items s.dynamic d → L w w' → w.ticks ≤ most →
          Way (drop_value raw run again ticks d stage s mode w) (drop_value strict run' again' ticks d stage s mode w')
      value-Same Gone stage s mode w w' is st h like l = absurd (false≢true h.1)
      value-Same (Number number) stage s mode w w' is st h like l = gone-Same s s.value w w' st like
      value-Same (Truth truth) stage s mode w w' is st h like l = gone-Same s s.value w w' st like
      value-Same UnitValue stage s mode w w' is st h like l = gone-Same s s.value w w' st like
      value-Same (Address address) stage s mode w w' is st h like l = gone-Same s s.value w w' st like
      value-Same (Aggregate variant serial parts) stage s mode w w' is st h like l =
          subst (λ o. Way (with_body raw run again ticks (own_body raw run again ticks stage
          (drop_impl items (concrete_ty items s.dynamic))) serial s
          (λ mode w. in_mode mode (drop_parts raw run again ticks parts 0 s mode w) (λ m. gone_at raw run s)) mode w)
          (with_body strict run' again' ticks o serial s
          (λ mode w. in_mode mode (drop_parts strict run' again' ticks parts 0 s mode w)
          (λ m. gone_at strict run' s)) mode w'))
          (sym (own-Same stage (drop_impl items (concrete_ty items s.dynamic))))
          (by (own_body raw run again ticks stage (drop_impl items (concrete_ty items s.dynamic))) refl
          (in_mode-Same local_ty L L (Ended raw run frames again again_After ticks s w) mode
          (drop_parts raw run again ticks parts 0 s mode w) (drop_parts strict run' again' ticks parts 0 s mode w')
          (λ m. gone_at raw run s) (λ m. gone_at strict run' s)
          (parts-After raw run frames again again_After ticks parts 0 s mode w w variant serial parts is refl at_first
          (full-Sound items (Aggregate variant serial parts) s.dynamic h).1)
          (parts-Same parts 0 s mode w w w' variant serial parts is refl at_first h.1.3 like l)
          (λ m v v' e like'. gone-Same s e.value v v' e.stands like')))
        where
          at_first : Rest raw run frames again again_After ticks s 0 variant serial parts w w
          at_first = record {
            parts = parts;
            stands = subst (λ d. Stands raw w (with_value s d)) is st;
            tail_is =
                refl;
            change = λ new v c. c;
          }

          from_own : (stage : Stage) (o : Option (ℕ × ℕ)) (of : ℕ × ℕ) → own_body raw run again
              ticks stage o ≡ Some of → o ≡ Some of
          from_own Begins o of e = e
          from_own HasRun o of e = absurd (let n : None ≡ Some of = e in cc)

          by : (o : Option (ℕ × ℕ)) → own_body raw run again ticks stage
              (drop_impl items (concrete_ty items s.dynamic)) ≡ o →
              Way (in_mode mode (drop_parts raw run again ticks parts 0 s mode w) (λ m. gone_at raw run s))
              (in_mode mode (drop_parts strict run' again' ticks parts 0 s mode w') (λ m. gone_at strict run' s)) →
              Way (with_body raw run again ticks o serial s
              (λ mode w. in_mode mode (drop_parts raw run again ticks parts 0 s mode w) (λ m. gone_at raw run s))
              mode w)
              (with_body strict run' again' ticks o serial s
              (λ mode w. in_mode mode (drop_parts strict run' again' ticks parts 0 s mode w)
              (λ m. gone_at strict run' s)) mode w')
          by None e p = p
          by (Some of) e p =
              let impl = from_own stage (drop_impl items (concrete_ty items s.dynamic)) of e in
              in_mode-Same local_ty L L (Left raw s w) mode _ _ (again HasRun s) (again' HasRun s)
              (body_out raw run frames again again_After ticks s w mode _
              (frames of (serial_or_none serial) s w impl st (subst (IsFull items s.dynamic) (sym is) h)))
              (body_out-Same local_ty flags mode _ _ (tie flags (Event.Dropped of.0 (serial_or_none serial)) of.1
              (Address s.address ∷ []) w w' (may_enter flags of s w w' like impl st
              (subst (IsFull items s.dynamic) (sym is) h))
              like l))
              (λ m v v' x like'. again_Same HasRun s x.new m v v' (stands-Changed raw w v s x.new st x.change)
              x.full like' (let c = x.change.less in omega arith))
      value-Same (Box serial impl_no inside) stage s mode w w' is st h like l =
          in_mode-Same local_ty L L (Ended raw run frames again again_After ticks s w) mode _ _
          (λ m. freed_at raw run s) (λ m. freed_at strict run' s)
          (part_or_halt raw run frames again again_After ticks (Ended raw run frames again again_After ticks s w)
          (into items Inside s) (drop_value raw run again ticks inside Begins) mode w
          (λ t e. ended t e (into-parts items Inside s t e)))
          (if_part-Same (into items Inside s) inside mode w w' like
          (λ t e. let i = into-parts items Inside s t e in let c =
          content t e i in (
            c.0,
            subst (IsFull items t.dynamic) (sym c.1) (full t i),
            value-Same
                inside Begins t mode w w'
                c.1 c.0 (full t i) like l,
          ))
          l)
          (λ m v v' e like'. freed-Same s e.value v v' e.stands like')
        where
          -- the content, as what it is found
          full : (t : Located) → Into items Inside s t → IsFull items t.dynamic inside
          full t i =
              let b = h.1 in
              subst (λ f. IsFull items f inside)
              (let x : Some b.2.0 ≡ Some i.dynamic = sym b.2.1
              ∙ ap (λ d. type_of_part items Inside d s.dynamic) (sym is) ∙ i.found_is in
              let y : b.2.0 ≡ i.dynamic = cc in y ∙ sym (ap (λ (z : Located). z.dynamic) i.is))
              (box-proper items (concrete_ty items s.dynamic) b.1.0 impl_no b.2.0 b.1.1 b.1.2 b.1.3 b.2.1, b.2.2)

          content : (t : Located) → into items Inside s ≡ Some t → Into items Inside s t → Stands raw w t
              × (t.value ≡ inside) × (t.address ≡ below s.address Inside)
          content t e i =
              let there : located_at raw w (below s.address Inside) ≡ Some t = stands-into raw w s Inside st ∙ e in
              let address : t.address ≡ below s.address Inside = standing-address raw w
              (below s.address Inside) t there in (
                ap (located_at raw w) address ∙ there,
                (let same : Some i.value ≡ Some inside =
                    sym i.value_is ∙ ap (part Inside) is in ap (λ x. x.value) i.is ∙ cc),
                address,
              )

          ended : (t : Located) → into items Inside s ≡ Some t → Into items Inside s t →
              Each (Ended raw run frames again again_After ticks s w)
              (if_part raw run again ticks (Some t) (drop_value raw run again ticks inside Begins) mode w)
          ended t e i =
              let c = content t e i in
              weaken raw run frames again again_After ticks (Changed t.address Gone w)
              (Ended raw run frames again again_After ticks s w)
              (if_part raw run again ticks (Some t) (drop_value raw run again ticks inside Begins) mode w)
              (read-After raw run frames again again_After ticks inside t mode w c.1 c.0
              (full-Sound items inside t.dynamic (full t i)))
              (λ v ch. let above = Changed-above raw w v s t Inside Gone st i
              (subst (λ a. Changed a Gone w v) c.2 ch) in record {
                value = with_part Inside Gone s.value;
                stands = stands-Changed raw w v s (with_part Inside Gone s.value) st above;
                change = λ new u k. Changed-Changed s.address (with_part Inside Gone s.value) new w v u above k;
              })

      parts-Same : (rest : Data) (k : ℕ) (s : Located) (mode : Mode) (w w0 w' : State) (variant : ℕ)
          (serial : Option ℕ) (parts : Data) → s.value ≡ Aggregate variant serial parts → tail k parts ≡ rest →
          Rest raw run frames again again_After ticks s k variant serial rest w0 w →
          PartsFit items (λ n. type_of_part items (Part n) (Aggregate variant serial no_part) s.dynamic)
          (λ n. is_present) parts → L w w' → w.ticks ≤ most →
          Way (drop_parts raw run again ticks rest k s mode w) (drop_parts strict run' again' ticks rest k s mode w')
      parts-Same no_part k s mode w w0 w' variant serial parts is tails r h like l = (w', refl, like)
      parts-Same (a_part first rest) k s mode w w0 w' variant serial parts is tails r h like l =
          in_mode-Same local_ty L L Mid mode _ _ (drop_parts raw run again ticks rest (suc k) s)
          (drop_parts strict run' again' ticks rest (suc k) s)
          (part_or_halt raw run frames again again_After ticks Mid (into items (Part k) s)
          (drop_value raw run again ticks first Begins) mode w (λ t e. let n = next t e in
          weaken raw run frames again again_After ticks (Changed t.address Gone w) Mid
          (if_part raw run again ticks (Some t) (drop_value raw run again ticks first Begins) mode w)
          (read-After raw run frames again again_After ticks first t mode w n.value_is n.stands
          (full-Sound items first t.dynamic (full t n))) (λ v c. (n.goes_on v c, c.less))))
          (if_part-Same (into items (Part k) s) first mode w w' like (λ t e. let n =
          next t e in (
            n.stands,
            subst (IsFull items t.dynamic) (sym n.value_is) (full t n),
            value-Same first Begins
                t mode w w' n.value_is n.stands (full t n) like l,
          )) l)
          (λ m v v' q like'. parts-Same rest (suc k) s m v w0 v' variant serial parts is
          (later parts k tails) q.0 h like' (let a = q.1 in omega arith))
        where
          full : (t : Located) → Next raw run frames again again_After ticks s k variant serial first rest w0 w t →
              IsFull items t.dynamic first
          full t n =
              let g = part_fits items parts _ (λ n. is_present) k first h (tail-first k parts first rest tails) in
              subst (λ f. IsFull items f first)
              (let x : Some g.0 ≡ Some t.dynamic = sym g.1 ∙ n.found_is in let y : g.0 ≡ t.dynamic = cc in y)
              (field-proper items (concrete_ty items s.dynamic) variant k g.0 g.1, g.2)

          Mid : State → Type 0
          Mid v = Rest raw run frames again again_After ticks s (suc k) variant serial rest w0 v × (v.ticks ≤ w.ticks)

          next : (t : Located) → into items (Part k) s ≡ Some t → Next raw run frames again again_After
              ticks s k variant serial first rest w0 w t
          next t e = next_part raw run frames again again_After ticks s k variant serial parts first
              rest w0 w t is tails r e

          later : (parts : Data) (k : ℕ) → tail k parts ≡ a_part first rest → tail (suc k) parts ≡ rest
          later no_part zero e = absurd (let n : no_part ≡ a_part first rest = e in cc)
          later no_part (suc k) e = absurd (let n : no_part ≡ a_part first rest = e in cc)
          later (a_part f r) zero e = let x : r ≡ rest = cc in x
          later (a_part f r) (suc k) e = later r k e

  -- a full value is dropped alike
  pub drop_at-Same : (b : ℕ) (stage : Stage) (s : Located) (v : Datum) (mode : Mode) (w w' : State) →
      Stands raw w (with_value s v) → IsFull items s.dynamic v → L w w' → w.ticks ≤ most →
      Way (drop_at raw run b stage s mode w) (drop_at strict run' b stage s mode w')
  drop_at-Same zero stage s v mode w w' st h like l = inr (w', refl, like.trace)
  drop_at-Same (suc n) stage s v mode w w' st h like l =
      still-Same s v (dropped_there raw run (drop_at raw run n) stage mode)
      (dropped_there strict run' (drop_at strict run' n) stage mode) w w' st like
      (λ other e c. by other (whole-Covers v other (full-whole items v s.dynamic h) c)
      (value-Same n w.ticks (drop_at-Same n) v stage
      (with_value s v) mode w w' refl st h like l))
    where
      by : (other : Datum) → other ≡ v → Way (drop_value raw run (drop_at raw run n) w.ticks v stage
          (with_value s v) mode w) (drop_value strict run' (drop_at strict run' n) w.ticks v stage
          (with_value s v) mode w') →
          Way (drop_value raw run (drop_at raw run n) w.ticks v stage (with_value s v) mode w)
          (drop_value strict run' (drop_at strict run' n) w'.ticks other stage (with_value s other) mode w')
      by other e p = subst (λ t. Way (drop_value raw run (drop_at raw run n) w.ticks v stage (with_value s v) mode w)
          (drop_value strict run' (drop_at strict run' n) t other stage (with_value s other) mode w')) (sym like.ticks)
          (subst (λ d. Way (drop_value raw run (drop_at raw run n) w.ticks v stage (with_value s v) mode w)
          (drop_value strict run' (drop_at strict run' n) w.ticks d stage (with_value s d) mode w')) (sym e) p)
