-- A statement that stores into a place which is gone leaves the same cells whatever stood there before: what was
-- dropped and is stored again is dropped and stored in one step.
use Rattle.std.proofs.Common.{◌≡◌, ℕ, ◌≤◌, ◌==◌, ◌&&◌, Bool, true, false, List, Option, Some, None, refl, ap, sym, ◌∙◌, subst, arith}
use Rattle.std.specs.Option.{option_and_then, option_map_or}
use Rattle.std.specs.Cmp.{first_so, second_so}
use Rattle.std.proofs.lemmas.Bool.Decides.{Decides-eqb}
use Rattle.mir_base.specs.declared.operator.Cmp.{Cmp}
use Rattle.mir_base.specs.declared.trace.Event.{Event}
use Rattle.mir_ty.specs.declared.ty.Ty.{Ty}
use Rattle.mir_ty.specs.declared.ty.TyId.{TyId}
use Rattle.mir_ty.specs.ItemTable.{ItemTable, type_at}
use Rattle.store_model.specs.declared.address.Addr.{Addr}
use Rattle.store_model.proofs.Values.Access.{replaced-replaced}
use Rattle.store_model.specs.Concrete.Drops.{drop_impl}
use Rattle.store_model.specs.Concrete.Effects.{body_of_youngest, ty_of_place, never_at, ty_of_operand, or_stuck, impl_of, with_impl, made, whole_at, evaluate_operand, evaluate_operands, with_operand, with_operands, put, put_if, tell_after, compared, negated, made_event, built, boxed, impl_boxed, impl_put, acted, act}
use Rattle.store_model.specs.Concrete.Location.{Setting, Located, Reached, Reaches, CutOff, Nowhere, on_reached, reach, stored_at}
use Rattle.store_model.specs.Concrete.State.{State, Bodies, with_event, numbered_next}
use Rattle.store_model.specs.Effects as effects
use Rattle.store_model.specs.Effects.{EffectSite, AggregateKind, OfTuple, OfArray, OfVariant, OfClosure, Out, Go, Unwind, Halts, Stuck, halting_if, stores_where}
use Rattle.store_model.specs.Places.Place.{Place, place_ty}
use Rattle.store_model.specs.Places.TypeForms.{adt_of, box_content, is_never}
use Rattle.store_model.specs.Values.Access.{replaced}
use Rattle.store_model.specs.Values.Datum.{Datum, Truth, Aggregate, Box, Address, data_from}
use Rattle.drop_values.specs.Like.{held, raw_setting, strict_setting}
use Rattle.drop_values.proofs.Actions.{youngest_is}
use Rattle.drop_values.proofs.Hole.{Any, told_as, Filled, SiteIndexed, OperandIndexed, OperandsIndexed, used, numbered, taken, all-taken}
use Rattle.drop_values.proofs.LikeLaws.{there-by}
use Rattle.drop_values.proofs.Reach.{IndexOk, reach_by}
use Rattle.drop_values.proofs.SameReach.{reach-same}
use Rattle.drop_values.proofs.Stand.{Changed, stored-Changed, with_value, Stands, stands-known}
use Rattle.drop_values.proofs.Touched.{SameCells}

module _ (items : ItemTable) (local_ty : (body local : ℕ) → Option TyId) (number depth : ℕ) where
  abbrev raw : Setting
  raw = raw_setting items local_ty

  abbrev strict : Setting
  strict = strict_setting items local_ty

  -- where the first goes on, the second goes on, with the same cells
  abbrev pub Matches : Out State → Out State → Type 0
  Matches o o' = (x : State) → o ≡ Go x → (x' : State) × (o' ≡ Go x') × SameCells x' x

  never-goes : {A : Type 0} (halt : effects.Halt) (u x : State) → ◌≡◌ {A = Out State} (Halts halt u) (Go x) → A
  never-goes halt u x e = absurd (let y : Halts halt u ≡ Go x = e in cc)

  told-matches : (event : Event) (o o' : Out State) → Matches o o' →
      Matches (tell_after raw event o) (tell_after raw event o')
  told-matches event (Go y) o' m x e =
      let r = m y refl in
      let same : with_event event y ≡ x = (let z : Go (with_event event y) ≡ Go x = e in cc) in (
        with_event event r.0,
        ap (tell_after raw event) r.1,
        subst (SameCells (with_event event r.0)) same
            (record { less = r.2.less; count = r.2.count; bodies = r.2.bodies; cells = r.2.cells }),
      )
  told-matches event (Unwind y) o' m x e = absurd (let z : Unwind y ≡ Go x = e in cc)
  told-matches event (Halts halt y) o' m x e = never-goes halt y x e

  halting-matches : (b : Bool) (o o' : Out State) → Matches o o' →
      Matches (halting_if b Stuck o) (halting_if b Stuck o')
  halting-matches false o o' m x e = by o e (m x)
    where
      by : (o : Out State) → halting_if false Stuck o ≡ Go x →
          (o ≡ Go x → (x' : State) × (o' ≡ Go x') × SameCells x' x) →
          (x' : State) × (halting_if false Stuck o' ≡ Go x') × SameCells x' x
      by (Go y) e m = let r = m e in (r.0, ap (halting_if false Stuck) r.1, r.2)
      by (Unwind y) e m = absurd (let z : Unwind y ≡ Go x = e in cc)
      by (Halts halt y) e m = never-goes halt y x e
  halting-matches true (Go y) o' m x e = never-goes Stuck y x e
  halting-matches true (Unwind y) o' m x e = absurd (let z : Unwind y ≡ Go x = e in cc)
  halting-matches true (Halts halt y) o' m x e = never-goes halt y x e

  module _ (w : State) (s : Located) (st : Stands raw w s) (place : Place) (leads : reach raw w place ≡ Reaches s) where
    abbrev F : State → State → Type 0
    F u z = Filled items local_ty number depth w s st u z

    abbrev Indexed : EffectSite → Type 0
    Indexed site = SiteIndexed items local_ty number depth w s st site

    abbrev Operated : effects.Operand → Type 0
    Operated operand = OperandIndexed items local_ty number depth w s st operand

    abbrev AllOperated : List effects.Operand → Type 0
    AllOperated operands = OperandsIndexed items local_ty number depth w s st operands

    -- the place is reached where it was
    reached-there : (u z : State) (t : Located) → F u z → IndexOk (local_ty number) place.steps →
        reach raw u place ≡ Reaches t → t.address ≡ s.address
    reached-there u z t f ok e =
        let r = reach_by Any items local_ty local_ty (λ b k id e. e)
        (λ d k. held d k (told_as items local_ty number depth w s st u)) u
        (told_as items local_ty number depth w s st u) f.under depth number place t f.deep f.number_is ok e in
        let both : Reaches s ≡ Reaches (with_value t r.0.other) =
        sym leads ∙ reach-same items local_ty false true w (told_as items local_ty number depth w s st u) refl place
        ∙ r.0.reaches in
        let same : s ≡ with_value t r.0.other = cc in ap (λ (x : Located). x.address) (sym same)

    -- a value comes there in both
    put-matches : (to : EffectSite) (v : Datum) (u z : State) → to.place ≡ place → IndexOk (local_ty number)
        place.steps →
        F u z → Matches (put raw to v u) (put raw to v z)
    put-matches to v u z is ok f x e =
        by (reach raw u place) refl (subst (λ p. on_reached (reach raw u p) (λ t. Go (stored_at t.address v u))
        (Halts Stuck u) (Halts Stuck u) ≡ Go x) is e)
      where
        by : (r : Reached) → reach raw u place ≡ r →
            on_reached r (λ t. Go (stored_at t.address v u)) (Halts Stuck u) (Halts Stuck u) ≡ Go x →
            (x' : State) × (put raw to v z ≡ Go x') × SameCells x' x
        by CutOff h e = never-goes Stuck u x e
        by Nowhere h e = never-goes Stuck u x e
        by (Reaches t) h e =
            let r = reach_by Any items local_ty local_ty (λ b k id e. e) (λ d k. held d k z) u z f.like depth number
            place t f.deep f.number_is ok h in
            let there = there-by items local_ty local_ty (λ b k id e. e) Any (λ d k. held d k z) u z t.address t f.like
            r.1 in
            let x_is : stored_at t.address v u ≡ x =
            (let y : Go (stored_at t.address v u) ≡ Go x = e in cc) in
            let c = stored-Changed t.address v u (stands-known raw u t r.1) in
            let c' = stored-Changed t.address v z (stands-known strict z (with_value t there.other) there.stands) in
            let at : t.address ≡ s.address = reached-there u z t f ok h in (
              stored_at t.address v z,
              subst (λ p. on_reached (reach raw z p) (λ t. Go (stored_at t.address v z)) (Halts Stuck z) (Halts Stuck z)
                  ≡ Go (stored_at t.address v z)) (sym is)
                  (ap (λ o. on_reached o (λ t. Go (stored_at t.address v z)) (Halts Stuck z) (Halts Stuck z))
                  (reach-same items local_ty false true z z refl place ∙ r.0.reaches)),
              subst (SameCells (stored_at t.address v z)) x_is (record {
                less = (let l = f.like.ticks in let y : u.ticks ≤ z.ticks = omega (arith, l) in y);
                count = c.count ∙ sym f.change.count ∙ sym c'.count;
                bodies = λ d. c.bodies d ∙ sym (f.change.bodies d) ∙ sym (c'.bodies d);
                cells = λ d k. cells t at c c' d k ((d == t.address.depth) && (k == t.address.key.0)) refl;
              }),
            )
          where
            cells : (t : Located) → t.address ≡ s.address → Changed t.address v u (stored_at t.address v u) →
                Changed t.address v z (stored_at t.address v z) → (d k : ℕ) (b : Bool) →
                ((d == t.address.depth) && (k == t.address.key.0)) ≡ b →
                held d k (stored_at t.address v u) ≡ held d k (stored_at t.address v z)
            cells t at c c' d k false n =
                c.apart d k n
                ∙ sym (f.change.apart d k (ap (λ (a : Addr). (d == a.depth) && (k == a.key.0)) (sym at) ∙ n))
                ∙ sym (c'.apart d k n)
            cells t at c c' d k true n =
                let dd = (Decides-eqb d t.address.depth).0 (first_so (d == t.address.depth) (k == t.address.key.0) n) in
                let kk = (Decides-eqb k t.address.key.0).0 (second_so (d == t.address.depth) (k == t.address.key.0) n)
                in
                let up : (x : State) → held d k x ≡ held t.address.depth t.address.key.0 x =
                (λ x. ap (λ e. held e k x) dd ∙ ap (λ e. held t.address.depth e x) kk) in
                let here : held t.address.depth t.address.key.0 z
                ≡ replaced t.address.path s.value (held t.address.depth t.address.key.0 u) =
                subst (λ (a : Addr). held a.depth a.key.0 z ≡ replaced a.path s.value (held a.depth a.key.0 u)) (sym at)
                f.change.here in
                up (stored_at t.address v u) ∙ c.here
                ∙ sym (replaced-replaced t.address.path s.value v (held t.address.depth t.address.key.0 u))
                ∙ ap (replaced t.address.path v) (sym here) ∙ sym c'.here ∙ sym (up (stored_at t.address v z))

    module _ (to : EffectSite) (is : to.place ≡ place) (ok : IndexOk (local_ty number) place.steps) where
      puts : (v : Datum) (u z : State) → F u z → Matches (put raw to v u) (put raw to v z)
      puts v u z f = put-matches to v u z is ok f

      puts-if : (v : Option Datum) (u z : State) → F u z → Matches (put_if raw to v u) (put_if raw to v z)
      puts-if None u z f x e = never-goes Stuck u x e
      puts-if (Some v) u z f x e = puts v u z f x e

      -- what comes after operands
      operand-matches : (operand : effects.Operand) (u z : State) (next next' : Datum → State → Out State) → F u z →
          Operated operand → ((v : Datum) (u2 z2 : State) → F u2 z2 → Matches (next v u2) (next' v z2)) →
          Matches (with_operand raw operand u next) (with_operand raw operand z next')
      operand-matches operand u z next next' f o m x e = by (evaluate_operand raw operand u) refl e
        where
          by : (g : Option (Datum × State)) → evaluate_operand raw operand u ≡ g →
              or_stuck g (λ t. next t.0 t.1) u ≡ Go x →
              (x' : State) × (with_operand raw operand z next' ≡ Go x') × SameCells x' x
          by None h e = never-goes Stuck u x e
          by (Some t) h e =
              let k = taken items local_ty number depth w s st operand u z t.0 t.1 f o h in
              let r = m t.0 t.1 k.after k.filled x e in
              (r.0, ap (λ g. or_stuck g (λ t. next' t.0 t.1) z) k.gives ∙ r.1, r.2)

      operands-match : (operands : List effects.Operand) (u z : State) (next next' : List Datum → State → Out State) →
          F u z → AllOperated operands →
          ((vs : List Datum) (u2 z2 : State) → F u2 z2 → Matches (next vs u2) (next' vs z2)) →
          Matches (with_operands raw operands u next) (with_operands raw operands z next')
      operands-match operands u z next next' f o m x e = by (evaluate_operands raw operands u) refl e
        where
          by : (g : Option (List Datum × State)) → evaluate_operands raw operands u ≡ g →
              or_stuck g (λ t. next t.0 t.1) u ≡ Go x →
              (x' : State) × (with_operands raw operands z next' ≡ Go x') × SameCells x' x
          by None h e = never-goes Stuck u x e
          by (Some t) h e =
              let k = all-taken items local_ty number depth w s st operands u z t.0 t.1 f o h in
              let r = m t.0 t.1 k.after k.filled x e in
              (r.0, ap (λ g. or_stuck g (λ t. next' t.0 t.1) z) k.gives ∙ r.1, r.2)

      built-matches : (kind : AggregateKind) (parts : List Datum) (u z : State) → F u z →
          Matches (built raw to kind parts u) (built raw to kind parts z)
      built-matches OfTuple parts u z f = puts (Aggregate 0 None (data_from parts)) u z f
      built-matches OfArray parts u z f = puts (Aggregate 0 None (data_from parts)) u z f
      built-matches (OfClosure closure) parts u z f = puts (Aggregate 0 None (data_from parts)) u z f
      built-matches (OfVariant adt variant) parts u z f =
          subst (λ n. Matches (made_event raw adt to (made adt variant parts (Some u.serial)
          (drop_impl items (Some (Ty.Adt adt)))) (drop_impl items (Some (Ty.Adt adt))) u)
          (made_event raw adt to (made adt variant parts (Some n) (drop_impl items (Some (Ty.Adt adt))))
          (drop_impl items (Some (Ty.Adt adt))) z)) (sym f.like.serial) (by (drop_impl items (Some (Ty.Adt adt))))
        where
          by : (o : Option (ℕ × ℕ)) → Matches (made_event raw adt to (made adt variant parts (Some u.serial) o) o u)
              (made_event raw adt to (made adt variant parts (Some u.serial) o) o z)
          by None = puts (made adt variant parts (Some u.serial) None) u z f
          by (Some of) =
              subst (λ n. Matches
              (tell_after raw (Event.Make adt u.serial) (put raw to (made adt variant parts (Some u.serial) (Some of))
              (numbered_next u)))
              (tell_after raw (Event.Make adt n) (put raw to (made adt variant parts (Some u.serial) (Some of))
              (numbered_next z)))) (sym f.like.serial)
              (told-matches (Event.Make adt u.serial)
              (put raw to (made adt variant parts (Some u.serial) (Some of)) (numbered_next u))
              (put raw to (made adt variant parts (Some u.serial) (Some of)) (numbered_next z))
              (puts (made adt variant parts (Some u.serial) (Some of)) (numbered_next u) (numbered_next z)
              (numbered items local_ty number depth w s st u z f)))

      boxed-matches : (content : Datum) (u z : State) → F u z →
          Matches (boxed raw to content u) (boxed raw to content z)
      boxed-matches content u z f =
          subst (λ n. Matches (tell_after raw (Event.Boxed u.serial) (put raw to (Box u.serial None content)
          (numbered_next u)))
          (tell_after raw (Event.Boxed n) (put raw to (Box n None content) (numbered_next z)))) (sym f.like.serial)
          (told-matches (Event.Boxed u.serial) (put raw to (Box u.serial None content) (numbered_next u))
          (put raw to (Box u.serial None content) (numbered_next z))
          (puts (Box u.serial None content) (numbered_next u) (numbered_next z)
          (numbered items local_ty number depth w s st u z f)))

      -- the types of places are those of the body that runs
      youngest-same : (u z : State) → F u z → body_of_youngest z ≡ body_of_youngest u
      youngest-same u z f =
          youngest_is items local_ty local_ty (λ b k id e. e) (λ d k. held d k u) depth number z
          (f.like.count ∙ f.deep) (f.like.bodies depth ∙ f.number_is)
          ∙ sym (youngest_is items local_ty local_ty (λ b k id e. e) (λ d k. held d k u) depth number u f.deep
          f.number_is)

      type-same : (u z : State) (site : EffectSite) → F u z → ty_of_place raw z site ≡ ty_of_place raw u site
      type-same u z site f =
          ap (λ o. option_and_then (type_at items) (place_ty items (λ local. option_and_then
          (λ body. local_ty body local) o) site.place)) (youngest-same u z f)

      operand-type-same : (u z : State) (operand : effects.Operand) → F u z →
          ty_of_operand raw z operand ≡ ty_of_operand raw u operand
      operand-type-same u z (effects.Copied site) f = type-same u z site f
      operand-type-same u z (effects.Moved site) f = type-same u z site f
      operand-type-same u z (effects.Number value kind) f = refl
      operand-type-same u z (effects.Truth value) f = refl
      operand-type-same u z effects.UnitValue f = refl

      impl-same : (trait_no : ℕ) (u z : State) (operand : effects.Operand) → F u z →
          impl_boxed raw trait_no z operand ≡ impl_boxed raw trait_no u operand
      impl-same trait_no u z operand f =
          ap (λ o. option_and_then (impl_of items trait_no) (adt_of (option_and_then (type_at items) (box_content o))))
          (operand-type-same u z operand f)

      abbrev Acts : (run : Bodies) → effects.Action → State → State → Type 0
      Acts run action u z = Matches (acted raw run action u) (acted raw run action z)

      put-acts : (run : Bodies) (from : effects.Operand) (u z : State) → F u z → Operated from →
          Acts run (effects.Put to from) u z
      put-acts run from u z f o = operand-matches from u z (put raw to) (put raw to) f o puts

      compare-acts : (run : Bodies) (operator : Cmp) (left right : effects.Operand) (u z : State) → F u z →
          Operated left → Operated right → Acts run (effects.Compare to operator left right) u z
      compare-acts run operator left right u z f o p =
          operand-matches left u z _ _ f o (λ a u2 z2 f2. operand-matches right u2 z2 _ _ f2 p
          (λ b u3 z3 f3. puts-if (option_map_or (λ t. Some (Truth t)) (compared operator a b) None) u3 z3 f3))

      not-acts : (run : Bodies) (operand : effects.Operand) (u z : State) → F u z → Operated operand →
          Acts run (effects.Not to operand) u z
      not-acts run operand u z f o =
          operand-matches operand u z _ _ f o (λ v u2 z2 f2. puts-if (negated raw v) u2 z2 f2)

      build-acts : (run : Bodies) (kind : AggregateKind) (parts : List effects.Operand) (u z : State) → F u z →
          AllOperated parts → Acts run (effects.Build to kind parts) u z
      build-acts run kind parts u z f o =
          operands-match parts u z (built raw to kind) (built raw to kind) f o (built-matches kind)

      box-acts : (run : Bodies) (content : effects.Operand) (u z : State) → F u z → Operated content →
          Acts run (effects.NewBox to content) u z
      box-acts run content u z f o = operand-matches content u z (boxed raw to) (boxed raw to) f o boxed-matches

      unsize-acts : (run : Bodies) (trait_no : ℕ) (operand : effects.Operand) (u z : State) → F u z → Operated operand →
          Acts run (effects.Unsize to trait_no operand) u z
      unsize-acts run trait_no operand u z f o =
          subst (λ i. Matches (with_operand raw operand u (impl_put raw to (impl_boxed raw trait_no u operand)))
          (with_operand raw operand z (impl_put raw to i))) (sym (impl-same trait_no u z operand f))
          (operand-matches operand u z _ _ f o
          (λ v u2 z2 f2. puts-if (option_and_then (λ n. with_impl n v) (impl_boxed raw trait_no u operand)) u2 z2 f2))

      borrow-acts : (run : Bodies) (unique : Bool) (base : EffectSite) (u z : State) → F u z → Indexed base →
          Acts run (effects.Borrow to unique base) u z
      borrow-acts run unique base u z f o x e = by (whole_at raw u base) refl e
        where
          by : (g : Option Located) → whole_at raw u base ≡ g →
              or_stuck g (λ t. put raw to (Address t.address) u) u ≡ Go x →
              (x' : State) × (acted raw run (effects.Borrow to unique base) z ≡ Go x') × SameCells x' x
          by None h e = never-goes Stuck u x e
          by (Some t) h e =
              let k = used items local_ty number depth w s st u z base t f o h in
              let r = puts (Address t.address) u z f x e in
              (r.0, ap (λ g. or_stuck g (λ t. put raw to (Address t.address) z) z) k.there_too ∙ r.1, r.2)

    -- the places of an action, where it stores into the place
    abbrev pub Refills : effects.Action → Type 0
    Refills (effects.Put to from) = (to.place ≡ place) × Operated from
    Refills (effects.Compare to operator left right) = (to.place ≡ place) × Operated left × Operated right
    Refills (effects.Not to operand) = (to.place ≡ place) × Operated operand
    Refills (effects.Build to kind parts) = (to.place ≡ place) × AllOperated parts
    Refills (effects.NewBox to content) = (to.place ≡ place) × Operated content
    Refills (effects.Unsize to trait_no operand) = (to.place ≡ place) × Operated operand
    Refills (effects.Borrow to unique base) = (to.place ≡ place) × Indexed base
    Refills _ = ⊥

    -- nothing is stored into a place of the type `!` in either
    never-same : (u z : State) (to : EffectSite) → F u z → never_at raw z to ≡ never_at raw u to
    never-same u z to f =
        ap (λ o. is_never (option_and_then (type_at items) (place_ty items (λ local. option_and_then
        (λ body. local_ty body local) o) to.place)))
        (youngest_is items local_ty local_ty (λ b k id e. e) (λ d k. held d k u) depth number z
        (f.like.count ∙ f.deep) (f.like.bodies depth ∙ f.number_is)
        ∙ sym (youngest_is items local_ty local_ty (λ b k id e. e) (λ d k. held d k u) depth number u f.deep
        f.number_is))

    halted-same : (u z : State) (to : EffectSite) (o o' : Out State) → F u z → Matches o o' →
        Matches (halting_if (never_at raw u to) Stuck o) (halting_if (never_at raw z to) Stuck o')
    halted-same u z to o o' f m =
        subst (λ b. Matches (halting_if (never_at raw u to) Stuck o) (halting_if b Stuck o')) (sym (never-same u z to
        f))
        (halting-matches (never_at raw u to) o o' m)

    -- it does the same, whatever stood there
    pub refill-matches : (run : Bodies) (action : effects.Action) (u z : State) → Refills action →
        IndexOk (local_ty number) place.steps → F u z → Matches (act raw run action u) (act raw run action z)
    refill-matches run (effects.Put to from) u z r ok f =
        halted-same u z to _ _ f (put-acts to r.0 ok run from u z f r.1)
    refill-matches run (effects.Compare to operator left right) u z r ok f =
        halted-same u z to _ _ f (compare-acts to r.0 ok run operator left right u z f r.1 r.2)
    refill-matches run (effects.Not to operand) u z r ok f =
        halted-same u z to _ _ f (not-acts to r.0 ok run operand u z f r.1)
    refill-matches run (effects.Build to kind parts) u z r ok f =
        halted-same u z to _ _ f (build-acts to r.0 ok run kind parts u z f r.1)
    refill-matches run (effects.NewBox to content) u z r ok f =
        halted-same u z to _ _ f (box-acts to r.0 ok run content u z f r.1)
    refill-matches run (effects.Unsize to trait_no operand) u z r ok f =
        halted-same u z to _ _ f (unsize-acts to r.0 ok run trait_no operand u z f r.1)
    refill-matches run (effects.Borrow to unique base) u z r ok f =
        halted-same u z to _ _ f (borrow-acts to r.0 ok run unique base u z f r.1)
    refill-matches run other u z r ok f = absurd r
