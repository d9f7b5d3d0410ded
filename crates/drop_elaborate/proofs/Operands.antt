-- The operands of a raw line, one after another: each gives a full value of its type, a reference that is used names
-- what may be stored into, and what is known holds after each.
use Rattle.std.proofs.Common.{◌≡◌, ℕ, Bool, true, false, ℤ, List, [], ◌∷◌, ◌++◌, Option, Some, None, slice_get, refl, ap, sym, ◌∙◌, subst}
use Rattle.std.specs.Option.{option_map_or}
use Rattle.std.proofs.lemmas.Bool.{false≢true}
use Rattle.std.proofs.lemmas.Bool.Decides.{Decides-eqb}
use Rattle.std.proofs.lemmas.Option.{none-some}
use Rattle.mir_base.specs.declared.int_kind.IntKind.{IntKind}
use Rattle.mir_ty.specs.declared.ty.Ty.{Ty}
use Rattle.mir_ty.specs.declared.ty.TyId.{TyId}
use Rattle.mir_ty.specs.ItemTable.{ItemTable, type_at}
use Rattle.cfg_graph.specs.declared.graph.Body.{Body}
use Rattle.cfg_graph.specs.declared.place.Operand.{Operand}
use Rattle.cfg_graph.specs.declared.place.Place as graph
use Rattle.cfg_graph.specs.Moves.Actions.{at_line}
use Rattle.cfg_graph.specs.Moves.Gone.{PathAction, reaches_whole}
use Rattle.cfg_graph.specs.Moves.Present.{present_after}
use Rattle.cfg_graph.specs.NamedPlaces.{references_made, named_by}
use Rattle.cfg_graph.specs.Places.{named}
use Rattle.cfg_graph.specs.Uses.{Copies, Moves, operand_uses}
use Rattle.cfg_meaning.specs.Actions.{site_of, operand_of}
use Rattle.store_model.specs.declared.address.Addr.{Addr}
use Rattle.store_model.specs.declared.address.At.{At}
use Rattle.store_model.specs.Abstract.Presence.{is_present}
use Rattle.store_model.specs.Concrete.Effects.{if_so, whole, whole_at, evaluate_operand}
use Rattle.store_model.specs.Concrete.Location.{Setting, DynamicType, OfType, Located, Reached, Reaches, CutOff, Nowhere, reach, on_reached, stored_at}
use Rattle.store_model.specs.Concrete.State.{State}
use Rattle.store_model.specs.Effects.{EffectSite}
use Rattle.store_model.specs.Places.Place.{Step, ToContent, ToElement, Place, watched, is_reference}
use Rattle.store_model.specs.Places.TypeForms.{is_dyn, is_bool, is_unit, int_kind}
use Rattle.store_model.specs.Values.Datum.{Datum, Gone, Number, Truth, UnitValue, Address}
use Rattle.store_model.specs.Values.Wholeness.{IsWhole, is_whole}
use Rattle.store_model.proofs.Values.Wholeness.{is_whole-iff_IsWhole}
use Rattle.drop_values.specs.Like.{held, raw_setting}
use Rattle.drop_values.specs.Typed.{a_type, IsFull}
use Rattle.drop_values.proofs.BehindInvariant.{opens}
use Rattle.drop_values.proofs.Fits.{whole-full}
use Rattle.drop_values.proofs.Invariant.{RefersTo, to_older, to_own}
use Rattle.drop_values.proofs.Knows.{PlainSteps, Own, own_place}
use Rattle.drop_values.proofs.LeftGone.{BodilessSteps}
use Rattle.drop_values.proofs.Reach.{IndexOk}
use Rattle.drop_values.proofs.Sites.{PlaceIs, a_part, an_element, behind, IsOpen, Lands, lands}
use Rattle.drop_values.proofs.Stand.{Changed, stored-Changed, stands-known}
use Rattle.drop_values.proofs.Touched.{same_cells, AllNameFull}
use Rattle.drop_values.proofs.TypedAs.{as-typed}
use Rattle.drop_values.proofs.Ways.{Way, ends, to_part, to_field, to_content}
use Rattle.drop_elaborate.proofs.Apart.{IsNamed, LeadsItself}
use Rattle.drop_elaborate.proofs.Held.{plain-counts, Held, OpensAfter, not-named, read-Held, taken-Held, own-opens, read-opens}
use Rattle.drop_elaborate.proofs.SinceMade.{IsLive}

-- a place whose value is used is reached, and its value is whole
pub record UsedAt (setting : Setting) (w : State) (site : EffectSite) (s : Located) : Type 0 where
  pub reached : reach setting w site.place ≡ Reaches s
  pub is_whole : IsWhole s.value

pub used-at : (setting : Setting) (w : State) (site : EffectSite) (s : Located) → whole_at setting w site ≡ Some s →
    UsedAt setting w site s
used-at setting w site s e = by (reach setting w site.place) refl e
  where
    so : (x : Bool) (t : Located) → if_so x t ≡ Some s → (x ≡ true) × (t ≡ s)
    so true t e = (refl, (let y : t ≡ s = cc in y))
    so false t e = absurd (let y : None ≡ Some s = e in cc)

    by : (r : Reached) → reach setting w site.place ≡ r → on_reached r (whole setting) None None ≡ Some s →
        UsedAt setting w site s
    by CutOff h e = absurd (let y : None ≡ Some s = e in cc)
    by Nowhere h e = absurd (let y : None ≡ Some s = e in cc)
    by (Reaches t) h e =
        let q = so (is_whole t.value) t e in record {
          reached = h ∙ ap Reaches q.1;
          is_whole = (is_whole-iff_IsWhole s.value).0 (ap (λ (x : Located). is_whole x.value) (sym q.1) ∙ q.0);
        }

-- what stands at the end of no steps
way-nil : {items : ItemTable} {steps : List Step} {path : List At} {found f' : DynamicType} {d d' : Datum} →
    Way items steps path found d f' d' → steps ≡ [] → d' ≡ d
way-nil (ends found d) e = refl
way-nil (to_part steps path found variant serial parts n inner f f' d' not_enum is_part is_found way) e = absurd (cc)
way-nil (to_field steps path found variant serial parts n inner f f' d' enum is_part is_found way) e = absurd (cc)
way-nil (to_content steps path found serial impl_no inside f f' d' is_found way) e = absurd (cc)

no-end : (upper : List Step) (step : Step) (rest : List Step) → [] ≡ upper ++ step ∷ rest → ⊥
no-end [] step rest e = cc
no-end (x ∷ upper) step rest e = cc

module _ (items : ItemTable) (local_ty : (body local : ℕ) → Option TyId) (number depth : ℕ) (body : Body)
    (addresses : List Addr) (before : State) (given : AllNameFull items local_ty before addresses)
    (locals_are : (k : ℕ) → local_ty number k ≡ slice_get body.locals k) where
  abbrev raw : Setting
  raw = raw_setting items local_ty

  abbrev HeldNow : List PathAction → State → Type 0
  HeldNow actions w = Held items local_ty number depth body addresses before given locals_are actions w

  abbrev OpensNow : List PathAction → State → Addr → Type 0
  OpensNow actions w b = OpensAfter items local_ty number depth body addresses before given locals_are actions w b

  -- a place of a line, by its type
  pub record PlaceOk (place : Place) (id : TyId) : Type 0 where
    pub is : PlaceIs items local_ty number place id
    pub index : IndexOk (local_ty number) place.steps
    pub sized : is_dyn (type_at items id) ≡ false
    pub alone : is_reference (type_at items id) ≡ true → place.steps ≡ []

  -- a use of it, after some actions: its array is there, or its reference may be used
  pub record UseOk (actions : List PathAction) (place : Place) (id : TyId) (ok : PlaceOk place id) : Type 0 where
    pub reachable : IsOpen items local_ty number depth addresses before (IsNamed body) given (IsLive body actions)
        (present_after items body actions) ok.is
    pub lives : is_reference (type_at items id) ≡ true → IsLive body actions place.local

  -- what a use of a place gives
  pub record Read (actions : List PathAction) (w : State) (place : Place) (id : TyId) (s : Located) : Type 0 where
    pub lands_at : Lands items local_ty number depth addresses before (IsNamed body) given
        (present_after items body actions) w place s id
    pub full_there : IsFull items s.dynamic s.value
    pub full : IsFull items (OfType id) s.value
    pub from : (b : Addr) → s.value ≡ Address b → held depth place.local w ≡ Address b
    pub opened : (b : Addr) → s.value ≡ Address b → OpensNow actions w b

  pub reads : (actions : List PathAction) (w : State) (node : ℕ) (place : Place) (id : TyId) (s : Located)
      (ok : PlaceOk place id) → UseOk actions place id ok → HeldNow actions w →
      whole_at raw w (record { node = node; place = place }) ≡ Some s → Read actions w place id s
  reads actions w node place id s ok used h e =
      let u = used-at raw w (record { node = node; place = place }) s e in
      let l = lands items local_ty number depth addresses before (IsNamed body) given (IsLive body actions)
      (present_after items body actions) w place id s ok.is h used.reachable ok.index u.reached in
      let there = whole-full items s.value s.dynamic l.typed.0 l.proper u.is_whole l.typed.1 in
      let full : IsFull items (OfType id) s.value =
      (a_type id, as-typed items s.dynamic id is_present s.value l.as_is ok.sized there.1) in record {
        lands_at = l;
        full_there = there;
        full = full;
        from = λ b eb. address b eb (reference s.value b eb full) ok.is u.reached;
        opened = λ b eb.
            opens items local_ty number depth addresses before (IsNamed body) given (IsLive body actions)
            (present_after items body actions) w place.local b (used.lives (reference s.value b eb full))
            (h.refers place.local b (address b eb (reference s.value b eb full) ok.is u.reached));
      }
    where
      reference : (d : Datum) (b : Addr) → d ≡ Address b → IsFull items (OfType id) d →
          is_reference (type_at items id) ≡ true
      reference d b eb f = (subst (IsFull items (OfType id)) eb f).1.1

      address : (b : Addr) → s.value ≡ Address b → is_reference (type_at items id) ≡ true →
          PlaceIs items local_ty number place id → reach raw w place ≡ Reaches s → held depth place.local w ≡ Address b
      address b eb r (a_part id0 typed plain) reached =
          let o = own_place raw number depth (present_after items body actions) w place id0 id s h.knows typed plain
          reached in
          sym (way-nil o.arrives.way (ok.alone r)) ∙ eb
      address b eb r (an_element upper rest index id0 array typed steps_are plain solid) reached =
          absurd (no-end upper (ToElement index) rest (sym (ok.alone r) ∙ steps_are))
      address b eb r (behind rest id0 to typed named_it steps_are solid) reached =
          absurd (no-end [] ToContent rest (sym (ok.alone r) ∙ steps_are))

  -- ---- operands

  -- an operand, with the type of its value
  pub data OperandIs : Operand → TyId → Type 0 where
    copied : (place : graph.Place) (id : TyId) → PlaceOk (named place) id → OperandIs (Operand.Copied place) id
    moved : (place : graph.Place) (id start : TyId) → PlaceOk (named place) id →
        local_ty number place.local ≡ Some start → PlainSteps items (named place).steps start id →
        BodilessSteps items (named place).steps start → LeadsItself body (named place) →
        OperandIs (Operand.Moved place) id
    a_number : (value : ℤ) (kind : IntKind) (id : TyId) → type_at items id ≡ Some (Ty.Int kind) →
        OperandIs (Operand.Number value kind) id
    a_truth : (value : Bool) (id : TyId) → type_at items id ≡ Some Ty.Bool → OperandIs (Operand.Truth value) id
    a_unit : (id : TyId) → type_at items id ≡ Some Ty.Unit → OperandIs Operand.Unit id

  abbrev pub OperandUsed : List PathAction → {operand : Operand} {id : TyId} → OperandIs operand id → Type 0
  OperandUsed actions {operand} {id} (copied place end ok) = UseOk actions (named place) end ok
  OperandUsed actions {operand} {id} (moved place end start ok typed plain bodiless itself) =
      UseOk actions (named place) end ok
  OperandUsed actions {operand} {id} (a_number value kind end is) = Unit {0}
  OperandUsed actions {operand} {id} (a_truth value end is) = Unit {0}
  OperandUsed actions {operand} {id} (a_unit end is) = Unit {0}

  -- what it gives, and what holds then
  pub record Took (actions : List PathAction) (id : TyId) (v : Datum) (u : State) : Type 0 where
    pub full : IsFull items (OfType id) v
    pub opened : (b : Addr) → v ≡ Address b → OpensNow actions u b
    pub held_now : HeldNow actions u

  no_more : (actions : List PathAction) → actions ++ [] ≡ actions
  no_more [] = refl
  no_more (action ∷ actions) = ap (λ l. action ∷ l) (no_more actions)

  constant : (actions : List PathAction) (id : TyId) (d v : Datum) (w u : State) → IsFull items (OfType id) d →
      ((b : Addr) → d ≡ Address b → ⊥) → ◌≡◌ {A = Option (Datum × State)} (Some (d, w)) (Some (v, u)) →
      HeldNow actions w → Took (actions ++ []) id v u
  constant actions id d v w u full plain e h =
      let both : ◌≡◌ {A = Datum × State} (d, w) (v, u) = cc in
      let value_is : d ≡ v = ap (λ (x : Datum × State). x.0) both in
      let state_is : w ≡ u = ap (λ (x : Datum × State). x.1) both in
      subst (λ l. Took l id v u) (sym (no_more actions)) (record {
        full = subst (IsFull items (OfType id)) value_is full;
        opened = λ b eb. absurd (plain b (value_is ∙ eb));
        held_now = subst (HeldNow actions) state_is h;
      })

  pub operand-Took : (n line : ℕ) (operand : Operand) (id : TyId) (is : OperandIs operand id)
      (actions : List PathAction) (w : State) (v : Datum) (u : State) → OperandUsed actions is → HeldNow actions w →
      evaluate_operand raw (operand_of 0 operand) w ≡ Some (v, u) →
      Took (actions ++ at_line n line (operand_uses operand)) id v u
  operand-Took n line _ id (copied place _ ok) actions w v u used h e =
      by (whole_at raw w (site_of 0 place)) refl e
    where
      action : PathAction
      action = record { how = Copies; place = named place; block = n; line = line }

      by : (o : Option Located) → whole_at raw w (site_of 0 place) ≡ o →
          option_map_or {U = Option (Datum × State)} (λ s. Some (s.value, w)) o None ≡ Some (v, u) →
          Took (actions ++ action ∷ []) id v u
      by None eo e = absurd (none-some (v, u) e)
      by (Some s) eo e =
          let r = reads actions w 0 (named place) id s ok used h eo in
          let both : ◌≡◌ {A = Datum × State} (s.value, w) (v, u) = cc in
          let value_is : s.value ≡ v = ap (λ (x : Datum × State). x.0) both in
          let state_is : w ≡ u = ap (λ (x : Datum × State). x.1) both in
          subst (Took (actions ++ action ∷ []) id v) state_is (record {
            full = subst (IsFull items (OfType id)) value_is r.full;
            opened = λ b eb. read-opens items local_ty number depth body addresses before given
                locals_are actions action
                w refl b (r.opened b (value_is ∙ eb));
            held_now = read-Held items local_ty number depth body addresses before given locals_are actions action w w
                refl (λ r. refl) (same_cells w) h;
          })
  operand-Took n line _ id (moved place _ start ok typed plain bodiless itself) actions w v u used h e =
      by (whole_at raw w (site_of 0 place)) refl e
    where
      action : PathAction
      action = record { how = Moves; place = named place; block = n; line = line }

      by : (o : Option Located) → whole_at raw w (site_of 0 place) ≡ o →
          option_map_or {U = Option (Datum × State)} (λ s. Some (s.value, stored_at s.address Gone w)) o None ≡ Some
          (v, u) →
          Took (actions ++ action ∷ []) id v u
      by None eo e = absurd (none-some (v, u) e)
      by (Some s) eo e =
          let r = reads actions w 0 (named place) id s ok used h eo in
          let at = used-at raw w (site_of 0 place) s eo in
          let both : ◌≡◌ {A = Datum × State} (s.value, stored_at s.address Gone w) (v, u) = cc in
          let value_is : s.value ≡ v = ap (λ (x : Datum × State). x.0) both in
          let state_is : stored_at s.address Gone w ≡ u = ap (λ (x : Datum × State). x.1) both in
          let o = own_place raw number depth (present_after items body actions) w (named place) start id s h.knows typed
          plain at.reached in
          let c = stored-Changed s.address Gone w (stands-known raw w s r.lands_at.stands) in
          subst (Took (actions ++ action ∷ []) id v) state_is (record {
            full = subst (IsFull items (OfType id)) value_is r.full;
            opened = λ b eb. still b s (value_is ∙ eb) o c (r.opened b (value_is ∙ eb)) r.full;
            held_now = taken-Held items local_ty number depth body addresses before given locals_are actions action w
                (stored_at s.address Gone w) start id s refl (λ r. refl) typed plain bodiless itself o c h;
          })
        where
          -- what a reference that is moved names is no part of itself
          still : (b : Addr) (s : Located) → s.value ≡ Address b →
              (o : Own raw number depth w (named place) s start id) →
              Changed s.address Gone w (stored_at s.address Gone w) → OpensNow actions w b →
              IsFull items (OfType id) s.value → OpensNow (actions ++ action ∷ []) (stored_at s.address Gone w) b
          still b s eb o c x f =
              own-opens items local_ty number depth body addresses before given locals_are actions action w
              (stored_at s.address Gone w) start id s Gone true (ap (λ x. reaches_whole (watched items x
              (named place).steps)) (sym (locals_are place.local) ∙ typed) ∙ plain-counts items
              (named place).steps start
              id plain) refl typed o c b
              (λ deep key. absurd (no-part deep key (h.refers place.local b (sym (way-nil o.arrives.way
              (ok.alone (subst (IsFull items (OfType id)) eb f).1.1)) ∙ eb)))) x
            where
              no-part : b.depth ≡ depth → b.key.0 ≡ place.local →
                  RefersTo items local_ty number depth addresses before (IsNamed body) (IsLive body actions)
                  (present_after items body actions) w place.local b → ⊥
              no-part deep key (to_older far within full) =
                  false≢true (sym far ∙ (Decides-eqb b.depth depth).1 deep)
              no-part deep key (to_own e named there) =
                  not-named items local_ty number depth body addresses before given locals_are place.local b
                  (ap (λ k. named_by k (references_made body)) (sym key) ∙ named.rooted) named
  operand-Took n line _ id (a_number value kind _ is) actions w v u used h e =
      constant actions id (Number value) v w u
      (a_type id, (refl, (kind, ap int_kind is))) (λ b x. absurd (let y : Number value ≡ Address b = x in cc))
      e h
  operand-Took n line _ id (a_truth value _ is) actions w v u used h e =
      constant actions id (Truth value) v w u (a_type id, (refl, ap is_bool is))
      (λ b x. absurd (let y : Truth value ≡ Address b = x in cc)) e h
  operand-Took n line _ id (a_unit _ is) actions w v u used h e =
      constant actions id UnitValue v w u (a_type id, (refl, ap is_unit is))
      (λ b x. absurd (let y : UnitValue ≡ Address b = x in cc)) e h
