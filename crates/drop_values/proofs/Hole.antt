-- A state in which a place is gone, and one that holds a value there and is else the same: what is read from the first
-- is read from the second, and stands apart from that place.
use Rattle.std.proofs.Common.{◌≡◌, ℕ, suc, ◌==◌, ◌&&◌, Bool, true, false, List, [], ◌∷◌, length, Option, Some, None, refl, ap, sym, ◌∙◌, subst, arith}
use Rattle.std.specs.Option.{option_and_then, option_map_or}
use Rattle.std.specs.Cmp.{first_so, second_so}
use Rattle.std.proofs.lemmas.Bool.Decides.{Decides-eqb}
use Rattle.std.proofs.lemmas.Option.{none-some}
use Rattle.mir_ty.specs.declared.ty.TyId.{TyId}
use Rattle.mir_ty.specs.ItemTable.{ItemTable}
use Rattle.store_model.specs.declared.address.At.{At}
use Rattle.store_model.proofs.Values.Access.{value_at-replaced, value_at-replaced_apart, replaced_back, replaced-swap}
use Rattle.store_model.proofs.Values.Wholeness.{is_whole-iff_IsWhole}
use Rattle.store_model.specs.Concrete.Effects.{if_so, whole, whole_at, evaluate_operand, evaluate_operands}
use Rattle.store_model.specs.Concrete.Location.{Setting, Located, located_at, Reached, Reaches, CutOff, Nowhere, on_reached, reach, stored_at}
use Rattle.store_model.specs.Concrete.State.{State, numbered_next}
use Rattle.store_model.specs.Effects as effects
use Rattle.store_model.specs.Effects.{EffectSite}
use Rattle.store_model.specs.Places.Place.{Place}
use Rattle.store_model.specs.Values.Access.{value_at, replaced, AreApart}
use Rattle.store_model.specs.Values.Datum.{Datum, Data, Gone, Number, Truth, UnitValue, Aggregate, Box, Address, no_part, a_part}
use Rattle.store_model.specs.Values.Wholeness.{IsWhole, is_whole}
use Rattle.drop_values.specs.Covers.{CoversBy, AllCoveredBy}
use Rattle.drop_values.specs.Like.{held, body_at, LikeBy, raw_setting, strict_setting}
use Rattle.drop_values.proofs.LikeLaws.{whole-by, there-by, change-by}
use Rattle.drop_values.proofs.Reach.{IndexOk, reach_by}
use Rattle.drop_values.proofs.SameReach.{located-same, reach-same}
use Rattle.drop_values.proofs.Stand.{Changed, same-Changed, stored-Changed, with_value, Stands, stands-known, to_root}
use Rattle.drop_values.proofs.WholeParts.{turned, apart-from-gone}

-- anything may stand in place of what is gone
abbrev pub Any : Datum → Type 0
Any d = Unit {0}

mutual
  covers-itself : (d : Datum) → CoversBy Any d d
  covers-itself Gone = tt
  covers-itself (Number x) = refl
  covers-itself (Truth x) = refl
  covers-itself UnitValue = refl
  covers-itself (Aggregate variant serial parts) = (parts, refl, cover-themselves parts)
  covers-itself (Box serial impl_no inside) = (inside, refl, covers-itself inside)
  covers-itself (Address a) = refl

  cover-themselves : (parts : Data) → AllCoveredBy Any parts parts
  cover-themselves no_part = refl
  cover-themselves (a_part first rest) = (first, rest, refl, covers-itself first, cover-themselves rest)

module _ (items : ItemTable) (local_ty : (body local : ℕ) → Option TyId) (number depth : ℕ) where
  abbrev raw : Setting
  raw = raw_setting items local_ty

  abbrev strict : Setting
  strict = strict_setting items local_ty

  -- the state before the place was gone, and what stood there
  module _ (w : State) (s : Located) (st : Stands raw w s) where
    abbrev gone_depth : ℕ
    gone_depth = s.address.depth

    abbrev gone_local : ℕ
    gone_local = s.address.key.0

    abbrev path : List At
    path = s.address.path

    -- its cells, and else what another state has
    abbrev pub told_as : State → State
    told_as u = record u { activations = w.activations }

    abbrev Among : (State → State → Type 0)
    Among u z = LikeBy Any local_ty (λ d k. held d k z) u z

    pub record Filled (u z : State) : Type 0 where
      pub like : Among u z
      pub under : Among u (told_as u)
      pub change : Changed s.address s.value u z
      pub empty : value_at path (held gone_depth gone_local u) ≡ Some Gone
      pub deep : length u.activations ≡ suc depth
      pub number_is : body_at depth u ≡ Some number

    stood : value_at path (held gone_depth gone_local w) ≡ Some s.value
    stood =
        let r = to_root raw w s.address s st in ap (value_at path) (sym r.root_value) ∙ r.path.stands

    -- with other flags
    other-flags : (u z : State) (flags : ℕ → ℕ → Datum) → LikeBy Any local_ty flags u z → Among u z
    other-flags u z flags l = record {
      asked = l.asked;
      ticks = l.ticks;
      serial = l.serial;
      trace = l.trace;
      count = l.count;
      bodies = l.bodies;
      covers = l.covers;
      flags_are = λ d k b e n. refl;
    }

    itself : (u : State) → Among u u
    itself u = record {
      asked = refl;
      ticks = refl;
      serial = refl;
      trace = refl;
      count = refl;
      bodies = λ d. refl;
      covers = λ d k b id e n. covers-itself (held d k u);
      flags_are = λ d k b e n. refl;
    }

    -- as the place is made gone
    pub begun : (v : State) → Changed s.address Gone w v → length w.activations ≡ suc depth →
        body_at depth w ≡ Some number → Filled v (told_as v)
    begun v c deep is = record {
      like = like;
      under = like;
      change = record {
        less = omega arith;
        count = sym c.count;
        bodies = λ d. sym (c.bodies d);
        here = sym (ap (replaced path s.value) c.here
            ∙ replaced_back path Gone (held gone_depth gone_local w) s.value stood);
        apart = λ d k n. sym (c.apart d k n);
      };
      empty = ap (value_at path) c.here ∙ value_at-replaced path Gone (held gone_depth gone_local w) s.value stood;
      deep = c.count ∙ deep;
      number_is = c.bodies depth ∙ is;
    }
      where
        before : State
        before = told_as v

        there : located_at strict before s.address ≡ Some s
        there = sym (located-same items local_ty false true w before refl s.address) ∙ st

        there-raw : located_at raw before s.address ≡ Some s
        there-raw = sym (located-same items local_ty false false w before refl s.address) ∙ st

        like : Among v before
        like =
            other-flags v before (λ d k. held d k before)
            (change-by items local_ty local_ty (λ b k id e. e) Any (λ d k. held d k before) before before v before
            s.address s Gone s.value (itself before) there-raw (record {
              less = omega arith;
              count = c.count;
              bodies = c.bodies;
              here = c.here;
              apart = c.apart;
            }) (same-Changed strict before s there) tt
            (record { asked = refl; ticks = refl; serial = refl; trace = refl }))

    -- ---- what is read

    pub record UsedBoth (u z : State) (site : EffectSite) (t : Located) : Type 0 where
      pub is_whole : IsWhole t.value
      pub stands : Stands raw u t
      pub stands_too : Stands strict z t
      pub there_too : whole_at raw z site ≡ Some t

    -- a place that is reached is reached in both
    reached : (u z : State) (place : Place) (t : Located) → Filled u z → IndexOk (local_ty number) place.steps →
        reach raw u place ≡ Reaches t → (other : Datum) × (reach raw z place ≡ Reaches (with_value t other))
        × CoversBy Any t.value other × Stands raw u t
    reached u z place t f ok e =
        let r = reach_by Any items local_ty local_ty (λ b k id e. e) (λ d k. held d k z) u z f.like depth number place t
        f.deep f.number_is ok e in
        (r.0.other, reach-same items local_ty false true z z refl place ∙ r.0.reaches, r.0.covers, r.1)

    pub used : (u z : State) (site : EffectSite) (t : Located) → Filled u z →
        IndexOk (local_ty number) site.place.steps → whole_at raw u site ≡ Some t → UsedBoth u z site t
    used u z site t f ok e = by (reach raw u site.place) refl e
      where
        so : (x : Bool) (t' : Located) → if_so x t' ≡ Some t → (x ≡ true) × (t' ≡ t)
        so true t' e = (refl, (let y : t' ≡ t = cc in y))
        so false t' e = absurd (none-some t e)

        by : (r : Reached) → reach raw u site.place ≡ r → on_reached r (whole raw) None None ≡ Some t →
            UsedBoth u z site t
        by CutOff h e = absurd (none-some t e)
        by Nowhere h e = absurd (none-some t e)
        by (Reaches t') h e =
            let k = so (is_whole t'.value) t' e in
            let yes : is_whole t.value ≡ true = ap (λ (x : Located). is_whole x.value) (sym k.1) ∙ k.0 in
            let wh : IsWhole t.value = (is_whole-iff_IsWhole t.value).0 yes in
            let r = reached u z site.place t f ok (h ∙ ap Reaches k.1) in
            let same : with_value t r.0 ≡ t = ap (with_value t) (whole-by Any t.value r.0 wh r.2) in
            let x = there-by items local_ty local_ty (λ b k id e. e) Any (λ d k. held d k z) u z t.address t f.like r.3
            in
            let same' : with_value t x.other ≡ t = ap (with_value t) (whole-by Any t.value x.other wh x.covers) in
            record {
              is_whole = wh;
              stands = r.3;
              stands_too = x.stands ∙ ap Some same';
              there_too = ap (λ o. on_reached o (whole raw) None None) (r.1 ∙ ap Reaches same) ∙ ap (λ b. if_so b t)
                  yes;
            }

    -- a whole value is moved out in both
    module _ (u z : State) (t : Located) (f : Filled u z) (wh : IsWhole t.value) (here : Stands raw u t)
        (here' : Stands strict z t) where
      abbrev u2 : State
      u2 = stored_at t.address Gone u

      abbrev z2 : State
      z2 = stored_at t.address Gone z

      c : Changed t.address Gone u u2
      c = stored-Changed t.address Gone u (stands-known raw u t here)

      c' : Changed t.address Gone z z2
      c' = stored-Changed t.address Gone z (stands-known strict z t here')

      value-there : value_at t.address.path (held t.address.depth t.address.key.0 u) ≡ Some t.value
      value-there =
          let r = to_root raw u t.address t here in ap (value_at t.address.path) (sym r.root_value) ∙ r.path.stands

      -- in the same local its place lies apart
      apart-there : gone_depth ≡ t.address.depth → gone_local ≡ t.address.key.0 → AreApart path t.address.path
      apart-there d k =
          apart-from-gone path t.address.path (held gone_depth gone_local u) t.value f.empty
          (ap (λ e. value_at t.address.path (held e gone_local u)) d
          ∙ ap (λ e. value_at t.address.path (held t.address.depth e u)) k ∙ value-there) wh

      same-local : ((gone_depth == t.address.depth) && (gone_local == t.address.key.0)) ≡ true →
          (gone_depth ≡ t.address.depth) × (gone_local ≡ t.address.key.0)
      same-local n = (
        (Decides-eqb gone_depth t.address.depth).0
            (first_so (gone_depth == t.address.depth) (gone_local == t.address.key.0) n),
        (Decides-eqb gone_local t.address.key.0).0
            (second_so (gone_depth == t.address.depth) (gone_local == t.address.key.0) n),
      )

      -- what the local of the place holds then
      held-now : (x : State) (y : State) → Changed t.address Gone x y → gone_depth ≡ t.address.depth →
          gone_local ≡ t.address.key.0 →
          held gone_depth gone_local y ≡ replaced t.address.path Gone (held gone_depth gone_local x)
      held-now x y ch d k =
          ap (λ e. held e gone_local y) d ∙ ap (λ e. held t.address.depth e y) k ∙ ch.here
          ∙ sym (ap (λ e. replaced t.address.path Gone (held e gone_local x)) d
          ∙ ap (λ e. replaced t.address.path Gone (held t.address.depth e x)) k)

      change-here : (b : Bool) → ((gone_depth == t.address.depth) && (gone_local == t.address.key.0)) ≡ b →
          held gone_depth gone_local z2 ≡ replaced path s.value (held gone_depth gone_local u2)
      change-here false n =
          c'.apart gone_depth gone_local n ∙ f.change.here
          ∙ ap (replaced path s.value) (sym (c.apart gone_depth gone_local n))
      change-here true n =
          let l = same-local n in
          held-now z z2 c' l.0 l.1 ∙ ap (replaced t.address.path Gone) f.change.here
          ∙ sym (replaced-swap path t.address.path s.value Gone (held gone_depth gone_local u) (apart-there l.0 l.1))
          ∙ ap (replaced path s.value) (sym (held-now u u2 c l.0 l.1))

      change-apart : (d k : ℕ) → ((d == gone_depth) && (k == gone_local)) ≡ false → (b : Bool) →
          ((d == t.address.depth) && (k == t.address.key.0)) ≡ b → held d k z2 ≡ held d k u2
      change-apart d k n false m = c'.apart d k m ∙ f.change.apart d k n ∙ sym (c.apart d k m)
      change-apart d k n true m =
          let dd = (Decides-eqb d t.address.depth).0 (first_so (d == t.address.depth) (k == t.address.key.0) m) in
          let kk = (Decides-eqb k t.address.key.0).0 (second_so (d == t.address.depth) (k == t.address.key.0) m) in
          let up : (x : State) → held d k x ≡ held t.address.depth t.address.key.0 x =
          (λ x. ap (λ e. held e k x) dd ∙ ap (λ e. held t.address.depth e x) kk) in
          up z2 ∙ c'.here ∙ ap (replaced t.address.path Gone) (sym (up z) ∙ f.change.apart d k n ∙ up u)
          ∙ sym c.here ∙ sym (up u2)

      empty-still : (b : Bool) → ((gone_depth == t.address.depth) && (gone_local == t.address.key.0)) ≡ b →
          value_at path (held gone_depth gone_local u2) ≡ Some Gone
      empty-still false n = ap (value_at path) (c.apart gone_depth gone_local n) ∙ f.empty
      empty-still true n =
          let l = same-local n in
          ap (value_at path) (held-now u u2 c l.0 l.1)
          ∙ value_at-replaced_apart t.address.path path Gone (held gone_depth gone_local u)
          (turned path t.address.path (apart-there l.0 l.1)) ∙ f.empty

      pub moved : Filled u2 z2
      moved =
          let below = there-by items local_ty local_ty (λ b k id e. e) Any (λ d k. held d k (told_as u)) u (told_as u)
          t.address t f.under here in record {
            like = other-flags u2 z2 (λ d k. held d k z)
                (change-by items local_ty local_ty (λ b k id e. e) Any (λ d k. held d k z) u z u2 z2 t.address t
                Gone Gone f.like here c c' tt (record {
                  asked = f.like.asked;
                  ticks = f.like.ticks;
                  serial = f.like.serial;
                  trace = f.like.trace;
                }));
            under = other-flags u2 (told_as u2) (λ d k. held d k (told_as u))
                (change-by items local_ty local_ty (λ b k id e. e) Any (λ d k. held d k (told_as u)) u (told_as u) u2
                (told_as u2) t.address t Gone below.other f.under here c
                (same-Changed strict (told_as u) (with_value t below.other) below.stands) tt
                (record { asked = refl; ticks = refl; serial = refl; trace = refl }));
            change = record {
              less = f.change.less;
              count = c'.count ∙ f.change.count ∙ sym c.count;
              bodies = λ d. c'.bodies d ∙ f.change.bodies d ∙ sym (c.bodies d);
              here = change-here ((gone_depth == t.address.depth) && (gone_local == t.address.key.0)) refl;
              apart = λ d k n. change-apart d k n ((d == t.address.depth) && (k == t.address.key.0)) refl;
            };
            empty = empty-still ((gone_depth == t.address.depth) && (gone_local == t.address.key.0)) refl;
            deep = c.count ∙ f.deep;
            number_is = c.bodies depth ∙ f.number_is;
          }

    -- the next serial number is taken in both
    pub numbered : (u z : State) → Filled u z → Filled (numbered_next u) (numbered_next z)
    numbered u z f = record {
      like = (let l = f.like in record {
        asked = l.asked;
        ticks = l.ticks;
        serial = ap suc l.serial;
        trace = l.trace;
        count = l.count;
        bodies = l.bodies;
        covers = l.covers;
        flags_are = l.flags_are;
      });
      under = (let l = f.under in record {
        asked = refl;
        ticks = refl;
        serial = refl;
        trace = refl;
        count = l.count;
        bodies = l.bodies;
        covers = l.covers;
        flags_are = l.flags_are;
      });
      change = (let c = f.change in record {
        less = c.less;
        count = c.count;
        bodies = c.bodies;
        here = c.here;
        apart = c.apart;
      });
      empty = f.empty;
      deep = f.deep;
      number_is = f.number_is;
    }

    -- ---- operands

    abbrev pub SiteIndexed : EffectSite → Type 0
    SiteIndexed site = IndexOk (local_ty number) site.place.steps

    abbrev pub OperandIndexed : effects.Operand → Type 0
    OperandIndexed (effects.Copied site) = SiteIndexed site
    OperandIndexed (effects.Moved site) = SiteIndexed site
    OperandIndexed _ = Unit {0}

    abbrev pub OperandsIndexed : List effects.Operand → Type 0
    OperandsIndexed [] = Unit {0}
    OperandsIndexed (x ∷ xs) = OperandIndexed x × OperandsIndexed xs

    abbrev Gives : Type 0
    Gives = Option (Datum × State)

    pub record TakenToo (z : State) (operand : effects.Operand) (v : Datum) (u2 : State) : Type 0 where
      pub after : State
      pub gives : evaluate_operand raw operand z ≡ Some (v, after)
      pub filled : Filled u2 after

    constant-too : (u z : State) (operand : effects.Operand) (d v : Datum) (u2 : State) → Filled u z →
        evaluate_operand raw operand z ≡ Some (d, z) → ◌≡◌ {A = Gives} (Some (d, u)) (Some (v, u2)) →
        TakenToo z operand v u2
    constant-too u z operand d v u2 f g e =
        let both : ◌≡◌ {A = Datum × State} (d, u) (v, u2) = cc in record {
          after = z;
          gives = g ∙ ap (λ (x : Datum × State). Some (x.0, z)) both;
          filled = subst (λ (x : Datum × State). Filled x.1 z) both f;
        }

    pub taken : (operand : effects.Operand) (u z : State) (v : Datum) (u2 : State) → Filled u z →
        OperandIndexed operand → evaluate_operand raw operand u ≡ Some (v, u2) → TakenToo z operand v u2
    taken (effects.Copied site) u z v u2 f ok e = by (whole_at raw u site) refl e
      where
        by : (o : Option Located) → whole_at raw u site ≡ o →
            option_map_or {U = Gives} (λ (t : Located). Some (t.value, u)) o None ≡ Some (v, u2) →
            TakenToo z (effects.Copied site) v u2
        by None h e = absurd (none-some (v, u2) e)
        by (Some t) h e =
            let k = used u z site t f ok h in
            constant-too u z (effects.Copied site) t.value v u2 f
            (ap (λ o. option_map_or {U = Gives} (λ (t : Located). Some (t.value, z)) o None) k.there_too) e
    taken (effects.Moved site) u z v u2 f ok e = by (whole_at raw u site) refl e
      where
        by : (o : Option Located) → whole_at raw u site ≡ o →
            option_map_or {U = Gives} (λ (t : Located). Some (t.value, stored_at t.address Gone u)) o None
            ≡ Some (v, u2) → TakenToo z (effects.Moved site) v u2
        by None h e = absurd (none-some (v, u2) e)
        by (Some t) h e =
            let k = used u z site t f ok h in
            let both : ◌≡◌ {A = Datum × State} (t.value, stored_at t.address Gone u) (v, u2) = cc in record {
              after = stored_at t.address Gone z;
              gives = ap (λ o. option_map_or {U = Gives} (λ (t : Located). Some (t.value, stored_at t.address Gone z)) o
                  None) k.there_too ∙ ap (λ (x : Datum × State). Some (x.0, stored_at t.address Gone z)) both;
              filled = subst (λ (x : Datum × State). Filled x.1 (stored_at t.address Gone z)) both
                  (moved u z t f k.is_whole k.stands k.stands_too);
            }
    taken (effects.Number value kind) u z v u2 f ok e =
        constant-too u z (effects.Number value kind) (Number value) v u2 f refl e
    taken (effects.Truth value) u z v u2 f ok e = constant-too u z (effects.Truth value) (Truth value) v u2 f refl e
    taken effects.UnitValue u z v u2 f ok e = constant-too u z effects.UnitValue UnitValue v u2 f refl e

    abbrev GivesAll : Type 0
    GivesAll = Option (List Datum × State)

    pub record AllTakenToo (z : State) (operands : List effects.Operand) (vs : List Datum) (u2 : State) : Type 0 where
      pub after : State
      pub gives : evaluate_operands raw operands z ≡ Some (vs, after)
      pub filled : Filled u2 after

    pub all-taken : (operands : List effects.Operand) (u z : State) (vs : List Datum) (u2 : State) → Filled u z →
        OperandsIndexed operands → evaluate_operands raw operands u ≡ Some (vs, u2) → AllTakenToo z operands vs u2
    all-taken [] u z vs u2 f ok e =
        let both : ◌≡◌ {A = List Datum × State} ([], u) (vs, u2) = cc in record {
          after = z;
          gives = ap (λ (x : List Datum × State). Some (x.0, z)) both;
          filled = subst (λ (x : List Datum × State). Filled x.1 z) both f;
        }
    all-taken (operand ∷ operands) u z vs u2 f ok e = by (evaluate_operand raw operand u) refl e
        (λ u1 z1 vs' u2' f' e'. all-taken operands u1 z1 vs' u2' f' ok.1 e')
      where
        Rest : Type 0
        Rest = (u1 z1 : State) (vs' : List Datum) (u2' : State) → Filled u1 z1 →
            evaluate_operands raw operands u1 ≡ Some (vs', u2') → AllTakenToo z1 operands vs' u2'

        by : (o : Gives) → evaluate_operand raw operand u ≡ o →
            option_and_then {U = List Datum × State} (λ (one : Datum × State). option_map_or {U = GivesAll}
            (λ (rest : List Datum × State). Some (one.0 ∷ rest.0, rest.1)) (evaluate_operands raw operands one.1) None)
            o ≡ Some (vs, u2) → Rest → AllTakenToo z (operand ∷ operands) vs u2
        by None h e rest = absurd (none-some (vs, u2) e)
        by (Some t) h e rest = more (evaluate_operands raw operands t.1) refl e
          where
            more : (o : GivesAll) → evaluate_operands raw operands t.1 ≡ o →
                option_map_or {U = GivesAll} (λ (rest : List Datum × State). Some (t.0 ∷ rest.0, rest.1)) o None
                ≡ Some (vs, u2) → AllTakenToo z (operand ∷ operands) vs u2
            more None k e = absurd (none-some (vs, u2) e)
            more (Some r) k e =
                let one = taken operand u z t.0 t.1 f ok.0 h in
                let others = rest t.1 one.after r.0 r.1 one.filled k in
                let both : ◌≡◌ {A = List Datum × State} (t.0 ∷ r.0, r.1) (vs, u2) = cc in record {
                  after = others.after;
                  gives = ap (option_and_then {U = List Datum × State} (λ (one : Datum × State). option_map_or
                      {U = GivesAll} (λ (rest : List Datum × State). Some (one.0 ∷ rest.0, rest.1))
                      (evaluate_operands raw operands one.1) None)) one.gives
                      ∙ ap (λ o. option_map_or {U = GivesAll}
                      (λ (rest : List Datum × State). Some (t.0 ∷ rest.0, rest.1)) o None) others.gives
                      ∙ ap (λ (x : List Datum × State). Some (x.0, others.after)) both;
                  filled = subst (λ (x : List Datum × State). Filled x.1 others.after) both others.filled;
                }
