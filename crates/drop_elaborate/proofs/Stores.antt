-- What holds of a raw run is kept by a store of a full value of the place's type, and by a body that is called with
-- references that may be stored through.
use Rattle.std.proofs.Common.{◌≡◌, ◌⊎◌, inl, inr, ℕ, ◌==◌, ◌&&◌, Bool, true, false, List, [], ◌∷◌, ◌++◌, Option, Some, None, slice_get, Contains, refl, ap, sym, ◌∙◌, subst}
use Rattle.std.specs.Prelude.{option_and_then}
use Rattle.std.proofs.lemmas.Bool.{false≢true}
use Rattle.std.proofs.lemmas.Bool.Decides.{Decides-eqb, eqb_tells}
use Rattle.std.proofs.lemmas.Option.{none-some}
use Rattle.mir_ty.specs.declared.ty.Ty.{Ty}
use Rattle.mir_ty.specs.declared.ty.TyId.{TyId}
use Rattle.mir_ty.specs.ItemTable.{ItemTable, type_at}
use Rattle.cfg_graph.specs.declared.graph.Body.{Body}
use Rattle.cfg_graph.specs.Moves.Gone.{PathAction, are_first, counts, leaves_gone, reaches_whole}
use Rattle.cfg_graph.specs.Moves.Present.{present_after}
use Rattle.cfg_graph.specs.NamedPlaces.{makes, stores}
use Rattle.cfg_graph.specs.Uses.{Stores}
use Rattle.store_model.specs.declared.address.Addr.{Addr}
use Rattle.store_model.specs.Abstract.Presence.{is_present}
use Rattle.store_model.specs.Concrete.Effects.{put}
use Rattle.store_model.specs.Concrete.Location.{Setting, OfType, named_by, Located, Reached, Reaches, CutOff, Nowhere, reach, on_reached, stored_at}
use Rattle.store_model.specs.Concrete.State.{State}
use Rattle.store_model.specs.Effects.{EffectSite, Go, Halts, Stuck}
use Rattle.store_model.specs.Places.Place.{Step, ToPart, ToField, ToContent, ToElement, Place, watched, watched_content, content_of, step_ty, is_reference}
use Rattle.store_model.specs.Values.Datum.{Datum}
use Rattle.drop_values.specs.Like.{raw_setting}
use Rattle.drop_values.specs.Typed.{IsFull}
use Rattle.drop_values.proofs.BehindInvariant.{touched-Invariant}
use Rattle.drop_values.proofs.Knows.{PlainSteps, no_steps, to_next, Own, own_place}
use Rattle.drop_values.proofs.Sites.{PlaceIs, a_part, an_element, behind, IsOpen, Landed, on_own, on_open, lands}
use Rattle.drop_values.proofs.Stand.{stored-Changed, stands-known, Stands}
use Rattle.drop_values.proofs.Touched.{NoAddress, Touched, AllNameFull}
use Rattle.drop_values.proofs.TypedAs.{typed-as}
use Rattle.drop_elaborate.proofs.Apart.{IsNamed}
use Rattle.drop_elaborate.proofs.Held.{Held, OpensAfter, stored-Held, opened-Held}
use Rattle.drop_elaborate.proofs.Operands.{PlaceOk}
use Rattle.drop_elaborate.proofs.SinceMade.{IsLive}

-- ---- what is not watched, and what makes no reference

more-not-first : (upper : List Step) (step : Step) (rest steps : List Step) → steps ≡ upper ++ step ∷ rest →
    are_first steps [] ≡ false
more-not-first [] step rest steps e = ap (λ l. are_first l []) e
more-not-first (x ∷ upper) step rest steps e = ap (λ l. are_first l []) e

pub plain-no-element : {items : ItemTable} (upper rest : List Step) (index : ℕ) (id end : TyId) →
    PlainSteps items (upper ++ ToElement index ∷ rest) id end → ⊥
plain-no-element [] rest index id end (to_next _ _ _ next _ ty is step_is plain more) = plain
plain-no-element (step ∷ upper) rest index id end (to_next _ _ _ next _ ty is step_is plain more) =
    plain-no-element upper rest index next end more

pub element-not-watched : (items : ItemTable) (upper rest : List Step) (index : ℕ) (id array : TyId) →
    PlainSteps items upper id array → reaches_whole (watched items (Some id) (upper ++ ToElement index ∷ rest)) ≡ false
element-not-watched items _ rest index _ _ (no_steps id) = refl
element-not-watched items _ rest index _ array (to_next (ToPart n) steps id next _ ty is step_is plain more) =
    ap (λ o. reaches_whole (watched items o (steps ++ ToElement index ∷ rest)))
    (ap (λ o. option_and_then (step_ty items (ToPart n)) o) is ∙ step_is)
    ∙ element-not-watched items steps rest index next array more
element-not-watched items _ rest index _ array (to_next (ToField v n) steps id next _ ty is step_is plain more) =
    ap (λ o. reaches_whole (watched items o (steps ++ ToElement index ∷ rest)))
    (ap (λ o. option_and_then (step_ty items (ToField v n)) o) is ∙ step_is)
    ∙ element-not-watched items steps rest index next array more
element-not-watched items _ rest index _ array (to_next ToContent steps id next _ ty is step_is plain more) =
    ap (λ b. reaches_whole (watched_content b (watched items (option_and_then content_of (type_at items id))
    (steps ++ ToElement index ∷ rest)))) (ap is_reference is ∙ plain)
    ∙ ap (λ o. reaches_whole (watched items o (steps ++ ToElement index ∷ rest)))
    (ap (λ o. option_and_then content_of o) is ∙ step_is)
    ∙ element-not-watched items steps rest index next array more
element-not-watched items _ rest index _ array (to_next (ToElement i) steps id next _ ty is step_is plain more) =
    absurd plain

pub named-reference : (o : Option Ty) (to : TyId) → named_by o ≡ Some to → is_reference o ≡ true
named-reference None to e = absurd (none-some to e)
named-reference (Some (Ty.Shared t)) to e = refl
named-reference (Some (Ty.Unique t)) to e = refl
named-reference (Some other) to e = absurd (none-some to e)

pub plain-no-reference : {items : ItemTable} (rest : List Step) (id end : TyId) →
    PlainSteps items (ToContent ∷ rest) id end → is_reference (type_at items id) ≡ true → ⊥
plain-no-reference rest id end (to_next _ _ _ next _ ty is step_is plain more) r =
    false≢true (sym plain ∙ sym (ap is_reference is) ∙ r)

module _ (items : ItemTable) (local_ty : (body local : ℕ) → Option TyId) (number depth : ℕ) (body : Body)
    (addresses : List Addr) (before : State) (given : AllNameFull items local_ty before addresses)
    (locals_are : (k : ℕ) → local_ty number k ≡ slice_get body.locals k) where
  abbrev raw : Setting
  raw = raw_setting items local_ty

  abbrev HeldNow : List PathAction → State → Type 0
  HeldNow actions w = Held items local_ty number depth body addresses before given locals_are actions w

  abbrev OpensNow : List PathAction → State → Addr → Type 0
  OpensNow actions w b = OpensAfter items local_ty number depth body addresses before given locals_are actions w b

  abbrev Ok : Place → TyId → Type 0
  Ok place id = PlaceOk items local_ty number depth body addresses before given locals_are place id

  -- the place is reached
  record Stored (w : State) (site : EffectSite) (v : Datum) (u : State) : Type 0 where
    pub s : Located
    pub reached : reach raw w site.place ≡ Reaches s
    pub state_is : stored_at s.address v w ≡ u

  stored-at : (w : State) (site : EffectSite) (v : Datum) (u : State) → put raw site v w ≡ Go u → Stored w site v u
  stored-at w site v u e = by (reach raw w site.place) refl e
    where
      by : (r : Reached) → reach raw w site.place ≡ r →
          on_reached r (λ s. Go (stored_at s.address v w)) (Halts Stuck w) (Halts Stuck w) ≡ Go u → Stored w site v u
      by (Reaches s) h e = record {
        s = s;
        reached = h;
        state_is =
            (let x : Go (stored_at s.address v w) ≡ Go u = e in cc);
      }
      by CutOff h e = absurd (let x : Halts Stuck w ≡ Go u = e in cc)
      by Nowhere h e = absurd (let x : Halts Stuck w ≡ Go u = e in cc)

  -- a store of a value that is no reference
  pub put-Held : (action : PathAction) (actions : List PathAction) (node : ℕ) (id : TyId) (ok : Ok action.place id)
      (w u : State) (v : Datum) → action.how ≡ Stores →
      IsOpen items local_ty number depth addresses before (IsNamed body) given (IsLive body actions)
      (present_after items body actions) ok.is →
      HeldNow actions w → IsFull items (OfType id) v → NoAddress v →
      put raw (record { node = node; place = action.place }) v w ≡ Go u → HeldNow (actions ++ action ∷ []) u
  put-Held action actions node id ok w u v how reachable h full plain_value e =
      let x = stored-at w (record { node = node; place = action.place }) v u e in
      let l = lands items local_ty number depth addresses before (IsNamed body) given (IsLive body actions)
      (present_after items body actions) w action.place id x.s ok.is h reachable ok.index x.reached in
      subst (HeldNow (actions ++ action ∷ [])) x.state_is
      (by ok.is x.s l.stands x.reached (l.proper, typed-as items x.s.dynamic id is_present v l.as_is ok.sized full.1)
      l.landed)
    where
      leaves : leaves_gone action.how ≡ Some false
      leaves = ap leaves_gone how

      makes-if : (r : ℕ) (b : Bool) → (action.place.local == r) ≡ b →
          (b ≡ false) ⊎ (are_first action.place.steps [] ≡ false) → makes body r action ≡ false
      makes-if r b eb (inl e) =
          ap (λ x. stores body action.how && (x && are_first action.place.steps [] && are_first [] action.place.steps))
          (eb ∙ e)
          ∙ no_and (stores body action.how)
        where
          no_and : (x : Bool) → (x && false) ≡ false
          no_and true = refl
          no_and false = refl
      makes-if r b eb (inr e) =
          ap (λ x. stores body action.how && ((action.place.local == r) && x && are_first [] action.place.steps)) e
          ∙ no_and (stores body action.how) (action.place.local == r)
        where
          no_and : (x y : Bool) → (x && (y && false && true)) ≡ false
          no_and true true = refl
          no_and true false = refl
          no_and false y = refl

      turned : (r : ℕ) → (r == action.place.local) ≡ false → (action.place.local == r) ≡ false
      turned r n = elim (eqb_tells action.place.local r) [
        | inl y ↦ absurd (false≢true (sym n ∙ (Decides-eqb r action.place.local).1 (sym y.1)))
        | inr y ↦ y.0
      ]

      in-own : (s : Located) (start : TyId) → Stands raw w s → IsFull items s.dynamic v →
          local_ty number action.place.local ≡ Some start → PlainSteps items action.place.steps start id →
          Own raw number depth w action.place s start id → HeldNow (actions ++ action ∷ []) (stored_at s.address v w)
      in-own s start st f typed plain o =
          stored-Held items local_ty number depth body addresses before given locals_are actions action w
          (stored_at s.address v w) start id s v leaves typed plain o f
          (stored-Changed s.address v w (stands-known raw w s st))
          (λ r n. makes-if r false (turned r n) (inl refl)) (λ b eb. absurd (plain_value b eb)) h

      in-open : (s : Located) → Stands raw w s → IsFull items s.dynamic v → counts items body action.place ≡ false →
          are_first action.place.steps [] ≡ false → OpensNow actions w s.address →
          HeldNow (actions ++ action ∷ []) (stored_at s.address v w)
      in-open s st f n no-first o =
          opened-Held items local_ty number depth body addresses before given locals_are actions action w
          (stored_at s.address v w) s.address s v n (λ r. makes-if r (action.place.local == r) refl (inr no-first)) st f
          plain_value (stored-Changed s.address v w (stands-known raw w s st)) o h

      Land : Located → Type 0
      Land s = Landed items local_ty number depth addresses before (IsNamed body) given
          (present_after items body actions) w action.place s id

      by : PlaceIs items local_ty number action.place id → (s : Located) → Stands raw w s →
          reach raw w action.place ≡ Reaches s → IsFull items s.dynamic v → Land s →
          HeldNow (actions ++ action ∷ []) (stored_at s.address v w)
      by is s st r f (on_own start typed plain o) = in-own s start st f typed plain o
      by (a_part start typed plain) s st r f (on_open o) =
          in-own s start st f typed plain
          (own_place raw number depth (present_after items body actions) w action.place start id
          s h.knows typed plain r)
      by (an_element upper rest index start array typed steps_are plain solid) s st r f (on_open o) =
          in-open s st f
          (ap (λ x. reaches_whole (watched items x action.place.steps)) (sym (locals_are action.place.local) ∙ typed)
          ∙ ap (λ steps. reaches_whole (watched items (Some start) steps)) steps_are
          ∙ element-not-watched items upper rest index start array plain)
          (more-not-first upper (ToElement index) rest action.place.steps steps_are) o
      by (behind rest start to typed named_it steps_are solid) s st r f (on_open o) =
          in-open s st f
          (ap (λ x. reaches_whole (watched items x action.place.steps)) (sym (locals_are action.place.local) ∙ typed)
          ∙ ap (λ steps. reaches_whole (watched items (Some start) steps)) steps_are
          ∙ ap (λ b. reaches_whole (watched_content b (watched items (option_and_then content_of (type_at items start))
          rest))) (named-reference (type_at items start) to named_it))
          (more-not-first [] ToContent rest action.place.steps steps_are) o

  -- a body was called with addresses at which it may store
  pub called-Held : (actions : List PathAction) (inner : List Addr) {w v : State} →
      ((b : Addr) → Contains inner b → OpensNow actions w b) → Touched items local_ty inner w v → HeldNow actions w →
      HeldNow actions v
  called-Held actions inner {w} {v} o t h =
      (touched-Invariant items local_ty number depth addresses before (IsNamed body) given (IsLive body actions)
      (present_after items body actions) inner o t h).invariant
