-- What is told and stored of values that both runs compute alike: numbers, aggregates, boxes, panics, what is printed
-- and what is asked.
use Rattle.std.proofs.Common.{◌≡◌, inl, inr, ℕ, suc, ℤ, pos, Bool, true, false, List, [], ◌∷◌, ◌++◌, Option, Some, None, refl, ap, sym, subst}
use Rattle.std.specs.Prelude.{neg_ℤ, int_lt}
use Rattle.mir_base.specs.declared.int_kind.IntKind.{IntKind}
use Rattle.mir_base.specs.declared.operator.Math.{Math}
use Rattle.mir_base.specs.declared.trace.Event.{Event}
use Rattle.mir_base.specs.declared.trace.Why.{Why}
use Rattle.mir_ty.specs.declared.ty.Ty.{Ty}
use Rattle.mir_ty.specs.declared.ty.TyId.{TyId}
use Rattle.mir_ty.specs.ItemTable.{ItemTable}
use Rattle.store_model.specs.Concrete.Effects.{Computed, Gives, PanicsBy, computed, if_within, made, put, tell_after, panics, made_event, built, boxed, printed, with_events, put_computed, compute, negate, within_bounds, bounded, asked}
use Rattle.store_model.specs.Concrete.Drops.{drop_impl}
use Rattle.store_model.specs.Values.Datum.{Datum, Gone, Number, Truth, UnitValue, Aggregate, Box, Address}
use Rattle.store_model.specs.Effects as effects
use Rattle.store_model.specs.Effects.{EffectSite, Stuck, Out, Go, Unwind, Halts, halting_if}
use Rattle.store_model.specs.Concrete.Location.{Setting}
use Rattle.store_model.specs.Concrete.State.{State, with_event, numbered_next}
use Rattle.drop_values.specs.Like.{Flags, Like, Same, raw_setting, strict_setting, Extends}
use Rattle.drop_values.proofs.Operands.{Both as BothOf, SiteOk as SiteOkOf, put-Same}

module _ (items : ItemTable) (local_ty local_ty' : (body local : ℕ) → Option TyId)
    (extends : Extends local_ty local_ty') (flags : Flags) (depth number : ℕ) where
  abbrev raw : Setting
  raw = raw_setting items local_ty

  abbrev strict : Setting
  strict = strict_setting items local_ty'

  abbrev L : State → State → Type 0
  L = Like local_ty flags

  abbrev Way : Out State → Out State → Type 0
  Way = Same local_ty L

  abbrev Both : (most : ℕ) (w w' : State) → Type 0
  Both = BothOf items local_ty local_ty' extends flags depth number

  abbrev SiteOk : EffectSite → Type 0
  SiteOk = SiteOkOf items local_ty local_ty' extends flags depth number

  pub halting-Same : (x : Bool) (o o' : Out State) → Way o o' → Way (halting_if x Stuck o) (halting_if x Stuck o')
  halting-Same false (Go v) o' h = (h.0, ap (halting_if false Stuck) h.1, h.2)
  halting-Same false (Unwind v) o' h = (h.0, ap (halting_if false Stuck) h.1, h.2)
  halting-Same false (Halts halt v) o' (inl stuck) = inl stuck
  halting-Same false (Halts halt v) o' (inr h) = inr (h.0, ap (halting_if false Stuck) h.1, h.2)
  halting-Same true (Go v) o' h = inl tt
  halting-Same true (Unwind v) o' h = (h.0, ap (halting_if true Stuck) h.1, h.2)
  halting-Same true (Halts halt v) o' (inl stuck) = inl stuck
  halting-Same true (Halts halt v) o' (inr h) = inr (h.0, ap (halting_if true Stuck) h.1, h.2)

  pub told-Same : (event : Event) (o o' : Out State) → Way o o' → Way (tell_after raw event o)
      (tell_after strict event o')
  told-Same event (Go v) o' h = (
    with_event event h.0,
    ap (tell_after strict event) h.1,
    let l = h.2 in
        record {
          asked = l.asked;
          ticks = l.ticks;
          serial = l.serial;
          trace = ap (λ t. t ++ event ∷ []) l.trace;
          count =
              l.count;
          bodies = l.bodies;
          covers = l.covers;
          flags_are = l.flags_are;
        },
  )
  told-Same event (Unwind v) o' h = (h.0, ap (tell_after strict event) h.1, h.2)
  told-Same event (Halts halt v) o' (inl stuck) = inl stuck
  told-Same event (Halts halt v) o' (inr h) = inr (h.0, ap (tell_after strict event) h.1, h.2)

  pub events-Like : (events : List Event) (w w' : State) → L w w' → L (with_events raw events w)
      (with_events strict events w')
  events-Like events w w' l = record {
    asked = l.asked;
    ticks = l.ticks;
    serial = l.serial;
    trace =
        ap (λ t. t ++ events) l.trace;
    count = l.count;
    bodies = l.bodies;
    covers = l.covers;
    flags_are = l.flags_are;
  }

  numbered : (most : ℕ) (w w' : State) → Both most w w' → Both most (numbered_next w) (numbered_next w')
  numbered most w w' b = let l = b.like in record {
    like = record {
      asked = l.asked;
      ticks = l.ticks;
      serial = ap suc l.serial;
      trace = l.trace;
      count =
          l.count;
      bodies = l.bodies;
      covers = l.covers;
      flags_are = l.flags_are;
    };
    deep = b.deep;
    number_is = b.number_is;
    few = b.few;
  }

  asked-Both : (most : ℕ) (rest : List ℤ) (w w' : State) → Both most w w' → Both most (record w { asked = rest })
      (record w' { asked = rest })
  asked-Both most rest w w' b = let l = b.like in record {
    like = record {
      asked = refl;
      ticks = l.ticks;
      serial = l.serial;
      trace = l.trace;
      count = l.count;
      bodies =
          l.bodies;
      covers = l.covers;
      flags_are = l.flags_are;
    };
    deep = b.deep;
    number_is = b.number_is;
    few = b.few;
  }

  pub panics-Same : (why : Why) (w w' : State) → L w w' → Way (Unwind (panics raw why w))
      (Unwind (panics strict why w'))
  panics-Same why w w' l = (panics strict why w', refl, events-Like (Event.Panicked why ∷ []) w w' l)

  module _ (most : ℕ) where
    made-Same : (adt : ℕ) (to : EffectSite) (v v' : Datum) (of : Option (ℕ × ℕ)) (w w' : State) →
        v' ≡ v → Both most w w' → SiteOk to → Way (made_event raw adt to v of w) (made_event strict adt to v' of w')
    made-Same adt to v v' None w w' e b ok = subst (λ x. Way (put raw to v w) (put strict to x w'))
        (sym e) (put-Same items local_ty local_ty' extends flags depth number most to v w w' b ok)
    made-Same adt to v v' (Some of) w w' e b ok =
        subst (λ x. Way (tell_after raw (Event.Make adt w.serial) (put raw to v (numbered_next w)))
        (tell_after strict (Event.Make adt w'.serial) (put strict to x (numbered_next w')))) (sym e)
        (subst (λ n. Way (tell_after raw (Event.Make adt w.serial) (put raw to v (numbered_next w)))
        (tell_after strict (Event.Make adt n) (put strict to v (numbered_next w')))) (sym b.like.serial)
        (told-Same (Event.Make adt w.serial) (put raw to v (numbered_next w)) (put strict to v (numbered_next w'))
        (put-Same items local_ty local_ty' extends flags depth number most to v (numbered_next w) (numbered_next w')
        (numbered most w w' b) ok)))

    pub built-Same : (to : EffectSite) (kind : effects.AggregateKind) (vs : List Datum) (w w' : State) →
        Both most w w' → SiteOk to → Way (built raw to kind vs w) (built strict to kind vs w')
    built-Same to effects.OfTuple vs w w' b ok = put-Same items local_ty local_ty' extends flags depth number most to _
        w w' b ok
    built-Same to effects.OfArray vs w w' b ok = put-Same items local_ty local_ty' extends flags depth number most to _
        w w' b ok
    built-Same to (effects.OfClosure closure) vs w w' b ok = put-Same items local_ty local_ty' extends flags depth
        number most to _ w w' b ok
    built-Same to (effects.OfVariant adt variant) vs w w' b ok =
        made-Same adt to (made adt variant vs (Some w.serial) (drop_impl items (Some (Ty.Adt adt))))
        (made adt variant vs (Some w'.serial) (drop_impl items (Some (Ty.Adt adt))))
        (drop_impl items (Some (Ty.Adt adt))) w w'
        (ap (λ n. made adt variant vs (Some n) (drop_impl items (Some (Ty.Adt adt)))) b.like.serial) b ok

    pub boxed-Same : (to : EffectSite) (v : Datum) (w w' : State) → Both most w w' → SiteOk to →
        Way (boxed raw to v w) (boxed strict to v w')
    boxed-Same to v w w' b ok =
        subst (λ n. Way (boxed raw to v w) (tell_after strict (Event.Boxed n)
        (put strict to (Box n None v) (numbered_next w')))) (sym b.like.serial)
        (told-Same (Event.Boxed w.serial) (put raw to (Box w.serial None v) (numbered_next w))
        (put strict to (Box w.serial None v) (numbered_next w'))
        (put-Same items local_ty local_ty' extends flags depth number most to (Box w.serial None v) (numbered_next w)
        (numbered_next w') (numbered most w w' b) ok))

    computed-Same : (to : EffectSite) (c : Computed) (w w' : State) → Both most w w' → SiteOk to →
        Way (put_computed raw to c w) (put_computed strict to c w')
    computed-Same to (Gives number') w w' b ok = put-Same items local_ty local_ty' extends flags depth number most to
        (Number number') w w' b ok
    computed-Same to (PanicsBy why) w w' b ok = panics-Same why w w' b.like

    pub compute-Same : (to : EffectSite) (operator : Math) (kind : Option IntKind) (left right : Datum) (w w' : State) →
        Both most w w' → SiteOk to → Way (compute raw to operator kind left right w)
        (compute strict to operator kind left right w')
    compute-Same to operator None left right w w' b ok = inl tt
    compute-Same to operator (Some kind) (Number x) (Number y) w w' b ok =
        computed-Same to (computed operator kind x y) w w' b ok
    compute-Same to operator (Some kind) (Number x) other w w' b ok = inl tt
    compute-Same to operator (Some kind) other right w w' b ok = inl tt

    pub negate-Same : (to : EffectSite) (kind : Option IntKind) (v : Datum) (w w' : State) → Both most w w' →
        SiteOk to → Way (negate raw to kind v w) (negate strict to kind v w')
    negate-Same to None v w w' b ok = inl tt
    negate-Same to (Some kind) (Number x) w w' b ok = computed-Same to (if_within kind (neg_ℤ x)) w w' b ok
    negate-Same to (Some kind) other w w' b ok = inl tt

    within-Same : (x : Bool) (w w' : State) → Both most w w' → Way (within_bounds raw x w) (within_bounds strict x w')
    within-Same true w w' b = (w', refl, b.like)
    within-Same false w w' b = panics-Same Why.Index w w' b.like

    pub bounded-Same : (count : ℕ) (v : Datum) (w w' : State) → Both most w w' → Way (bounded raw count v w)
        (bounded strict count v w')
    bounded-Same count (Number x) w w' b = within-Same (int_lt x (pos count)) w w' b
    bounded-Same count other w w' b = inl tt

    pub printed-Same : (v : Datum) (w w' : State) → Both most w w' → Way (printed raw v w) (printed strict v w')
    printed-Same (Number x) w w' b = (
      with_event (Event.Printed x) w',
      refl,
      events-Like
          (Event.Printed x ∷ []) w w' b.like,
    )
    printed-Same Gone w w' b = inl tt
    printed-Same (Truth x) w w' b = inl tt
    printed-Same UnitValue w w' b = inl tt
    printed-Same (Aggregate v s ps) w w' b = inl tt
    printed-Same (Box s i d) w w' b = inl tt
    printed-Same (Address a) w w' b = inl tt

    pub asked-Same : (to : EffectSite) (numbers : List ℤ) (w w' : State) → Both most w w' → SiteOk to →
        Way (asked raw to numbers w) (asked strict to numbers w')
    asked-Same to [] w w' b ok = panics-Same Why.Ask w w' b.like
    asked-Same to (x ∷ rest) w w' b ok = told-Same (Event.Asked x) (put raw to (Number x) (record w { asked = rest }))
        (put strict to (Number x) (record w' { asked = rest }))
        (put-Same items local_ty local_ty' extends flags depth number most to (Number x) (record w { asked = rest })
        (record w' { asked = rest })
        (asked-Both most rest w w' b) ok)
