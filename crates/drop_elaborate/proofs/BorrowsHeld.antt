-- What holds of a raw run is kept where a reference is made: it names a place of the body's own all of which is
-- there, or lies within what another reference names; and what it names is among the places to which it is followed.
use Rattle.std.proofs.Common.{◌≡◌, inl, inr, ℕ, zero, suc, ◌==◌, ◌&&◌, Bool, true, false, List, [], ◌∷◌, ◌++◌, length, Option, Some, None, slice_get, refl, ap, sym, ◌∙◌, subst, append_assoc}
use Rattle.std.specs.Option.{option_map_or}
use Rattle.std.proofs.lemmas.Bool.{false≢true}
use Rattle.std.proofs.lemmas.Bool.Decides.{Decides-eqb, eqb_tells}
use Rattle.std.proofs.lemmas.Option.{none-some}
use Rattle.mir_ty.specs.declared.ty.Ty.{Ty}
use Rattle.mir_ty.specs.declared.ty.TyId.{TyId}
use Rattle.mir_ty.specs.ItemTable.{ItemTable, type_at}
use Rattle.cfg_graph.specs.declared.graph.Body.{Body}
use Rattle.cfg_graph.specs.declared.place.Place as graph
use Rattle.cfg_graph.specs.declared.statement.Stmt.{Stmt}
use Rattle.cfg_graph.specs.Moves.Actions.{at_line}
use Rattle.cfg_graph.specs.Moves.Gone.{PathAction, are_first, reaches_whole}
use Rattle.cfg_graph.specs.Moves.Present.{present_after}
use Rattle.cfg_graph.specs.NamedPlaces.{references_made, named_by, further, follow, followed, behind as behind_made, stores, makes}
use Rattle.cfg_graph.specs.Places.{named}
use Rattle.cfg_graph.specs.Uses.{Borrows, Stores, stmt_uses}
use Rattle.cfg_meaning.specs.Actions.{site_of}
use Rattle.store_model.specs.declared.address.Addr.{Addr}
use Rattle.store_model.specs.declared.address.At.{At}
use Rattle.store_model.specs.Abstract.Presence.{is_present, presence_along, all_present}
use Rattle.store_model.specs.Concrete.Effects.{or_stuck, whole_at, put, never_at, acted, act}
use Rattle.store_model.specs.Concrete.Location.{Setting, OfType, Located, root_address, Reached, Reaches, CutOff, Nowhere, reach, on_reached, stored_at}
use Rattle.store_model.specs.Concrete.State.{State, Bodies}
use Rattle.store_model.specs.Effects as effects
use Rattle.store_model.specs.Effects.{Out, Go, Halts, Stuck}
use Rattle.store_model.specs.Places.Place.{Step, ToPart, ToField, ToContent, ToElement, Place, watched, is_reference, step_ty}
use Rattle.store_model.specs.Places.TypeForms.{is_dyn}
use Rattle.store_model.specs.Values.Datum.{Address}
use Rattle.drop_values.specs.Like.{held, raw_setting}
use Rattle.drop_values.specs.Typed.{IsFull}
use Rattle.drop_values.proofs.Behind.{Leads}
use Rattle.drop_values.proofs.BehindInvariant.{Opens, an_older, its_own}
use Rattle.drop_values.proofs.Invariant.{RefersTo, to_older, to_own}
use Rattle.drop_values.proofs.Knows.{PlainSteps, no_steps, to_next, IsPlainStep, present_by, Own, own_place}
use Rattle.drop_values.proofs.Reach.{IndexOk}
use Rattle.drop_values.proofs.Sites.{PlaceIs, a_part, an_element, behind, IsOpen, Lands, Landed, on_own, on_open, lands, way-leads, element-runs, behind-runs}
use Rattle.drop_values.proofs.Stand.{Changed, stored-Changed, stands-known}
use Rattle.drop_values.proofs.Touched.{same_cells, AllNameFull}
use Rattle.drop_values.proofs.TypedSteps.{RunsAlong, SolidSteps, one_more}
use Rattle.drop_values.proofs.TypedAs.{typed-as}
use Rattle.drop_elaborate.proofs.Apart.{IsNamed, way-runs}
use Rattle.drop_elaborate.proofs.Chains.{onward, NamesNone, none-follows, leads-of, leads-further, among-followed}
use Rattle.drop_elaborate.proofs.Held.{Held, OpensAfter, plain-counts, present-changed, read-Held, read-opens, own-opens, stored-Held}
use Rattle.drop_elaborate.proofs.OperandStays.{GivenBy}
use Rattle.drop_elaborate.proofs.Operands.{used-at}
use Rattle.drop_elaborate.proofs.SinceMade.{IsLive}
use Rattle.drop_elaborate.proofs.StatementsHeld.{went-on}
use Rattle.drop_elaborate.proofs.Stores.{plain-no-element, plain-no-reference, named-reference}

-- two paths one after the other
runs-append : (steps more : List Step) (path others : List At) → RunsAlong steps path → RunsAlong more others →
    RunsAlong (steps ++ more) (path ++ others)
runs-append [] more path others r k = subst (λ p. RunsAlong more (p ++ others)) (sym r) k
runs-append (step ∷ steps) more path others r k =
    (r.0, r.1 ++ others, ap (λ p. p ++ others) r.2, r.3, runs-append steps more r.1 others r.4 k)

module _ (items : ItemTable) where
  no-plain-step : (ty : Ty) (step : Step) (next : TyId) → is_reference (Some ty) ≡ true →
      step_ty items step ty ≡ Some next → IsPlainStep step ty → ⊥
  no-plain-step (Ty.Shared to) (ToPart n) next r e p = none-some next e
  no-plain-step (Ty.Shared to) (ToField v n) next r e p = none-some next e
  no-plain-step (Ty.Shared to) ToContent next r e p = false≢true (sym p)
  no-plain-step (Ty.Shared to) (ToElement i) next r e p = p
  no-plain-step (Ty.Unique to) (ToPart n) next r e p = none-some next e
  no-plain-step (Ty.Unique to) (ToField v n) next r e p = none-some next e
  no-plain-step (Ty.Unique to) ToContent next r e p = false≢true (sym p)
  no-plain-step (Ty.Unique to) (ToElement i) next r e p = p
  no-plain-step other step next r e p = false≢true r

  -- no plain step leads on from a reference
  pub reference-steps : (steps : List Step) (id end : TyId) → PlainSteps items steps id end →
      is_reference (type_at items id) ≡ true → (steps ≡ []) × (id ≡ end)
  reference-steps _ _ _ (no_steps id) r = (refl, refl)
  reference-steps _ _ end (to_next step steps id next _ ty is step_is plain rest) r =
      absurd (no-plain-step ty step next (ap is_reference (sym is) ∙ r) step_is plain)

module _ (items : ItemTable) (local_ty : (body local : ℕ) → Option TyId) (number depth : ℕ) (body : Body)
    (addresses : List Addr) (before : State) (given : AllNameFull items local_ty before addresses)
    (locals_are : (k : ℕ) → local_ty number k ≡ slice_get body.locals k)
    (made_are : (k : ℕ) (place : Place) → named_by k (references_made body) ≡ Some place →
    (id : TyId) × (local_ty number k ≡ Some id) × (is_reference (type_at items id) ≡ true))
    (none : NamesNone (references_made body)) where
  abbrev raw : Setting
  raw = raw_setting items local_ty

  abbrev HeldNow : List PathAction → State → Type 0
  HeldNow actions w = Held items local_ty number depth body addresses before given locals_are actions w

  abbrev OpensNow : List PathAction → State → Addr → Type 0
  OpensNow actions w b = OpensAfter items local_ty number depth body addresses before given locals_are actions w b

  abbrev Given : ℕ → List PathAction → State → Addr → Type 0
  Given r actions w b = GivenBy items local_ty number depth body addresses before given locals_are r actions w b

  abbrev Is : Place → TyId → Type 0
  Is place id = PlaceIs items local_ty number place id

  -- all of a place of the body's own is there
  abbrev pub AllOfIt : List PathAction → {place : Place} {id : TyId} → Is place id → Type 0
  AllOfIt actions {place} {id} (a_part start typed plain) =
      all_present (presence_along place.steps (present_after items body actions place.local)) ≡ true
  AllOfIt actions {place} {id} (an_element upper rest index start array typed steps_are plain solid) = Unit {0}
  AllOfIt actions {place} {id} (behind rest start to typed named_it steps_are solid) = Unit {0}

  -- no reference is made in the local of a place of the body's own
  plain-rooted : (place : Place) (steps : List Step) (start end : TyId) → local_ty number place.local ≡ Some start →
      PlainSteps items steps start end → is_reference (type_at items end) ≡ false →
      named_by place.local (references_made body) ≡ None
  plain-rooted place steps start end typed plain free = by (named_by place.local (references_made body)) refl
    where
      by : (o : Option Place) → named_by place.local (references_made body) ≡ o → o ≡ None
      by None e = refl
      by (Some q) e =
          let m = made_are place.local q e in
          let same : m.0 ≡ start = (let x : Some m.0 ≡ Some start = sym m.1 ∙ typed in cc) in
          let r = reference-steps items steps start end plain (ap (λ i. is_reference (type_at items i)) (sym same)
          ∙ m.2) in
          absurd (false≢true (sym free ∙ ap (λ i. is_reference (type_at items i)) (sym (same ∙ r.1)) ∙ m.2))

  -- the place itself is the first to which its reference is followed
  named-itself : (r : ℕ) (place : Place) (b : Addr) → named_by r (references_made body) ≡ Some place →
      place.local ≡ b.key.0 → RunsAlong place.steps b.path → named_by place.local (references_made body) ≡ None →
      IsNamed body r b
  named-itself r place b made local runs rooted = record {
    number = 0;
    place = place;
    among = ap (λ o. slice_get (option_map_or (followed body) o []) 0) made
        ∙ first (length (references_made body));
    local = local;
    runs = runs;
    rooted = ap (λ k. named_by k (references_made body)) (sym local) ∙ rooted;
  }
    where
      first : (most : ℕ) → slice_get (follow (references_made body) most place) 0 ≡ Some place
      first zero = refl
      first (suc most) = refl

  -- what is named through another reference
  named-through : (r q : ℕ) (place : Place) (rest : List Step) (b : Addr) (path : List At) →
      named_by r (references_made body) ≡ Some place → place.local ≡ q → place.steps ≡ ToContent ∷ rest →
      IsNamed body q b → RunsAlong rest path → IsNamed body r (record b { path = b.path ++ path })
  named-through r q place rest b path made local steps_are n runs =
      by (named_by q (references_made body)) refl n.among
    where
      by : (o : Option Place) → named_by q (references_made body) ≡ o →
          slice_get (option_map_or (followed body) o []) n.number ≡ Some n.place →
          IsNamed body r (record b { path = b.path ++ path })
      by None e among = absurd (none-some n.place among)
      by (Some p) e among =
          let rooted : named_by n.place.local (references_made body) ≡ None =
          ap (λ k. named_by k (references_made body)) n.local ∙ n.rooted in
          let leads = leads-of (references_made body) (length (references_made body)) p n.place n.number among
          (none-follows (references_made body) n.place.local n.place.steps rooted) in
          let next : behind_made (references_made body) place.local place.steps ≡ Some (further rest p) =
          ap (behind_made (references_made body) place.local) steps_are
          ∙ ap (λ k. option_map_or (λ place. Some (further rest place)) (named_by k (references_made body)) None) local
          ∙ ap (λ o. option_map_or (λ place. Some (further rest place)) o None) e in record {
            number = suc n.number;
            place = further rest n.place;
            among = ap (λ o. slice_get (option_map_or (followed body) o []) (suc n.number)) made
                ∙ among-followed (references_made body) none r place (further rest n.place) (suc n.number) made
                (onward place (further rest p) (further rest n.place) n.number next
                (leads-further (references_made body) rest rooted leads));
            local = n.local;
            runs = runs-append n.place.steps rest b.path path n.runs runs;
            rooted = n.rooted;
          }

  -- an array is no reference
  array-free : {index : ℕ} {rest : List Step} {array end : TyId} → SolidSteps items (ToElement index ∷ rest) array end →
      is_reference (type_at items array) ≡ false
  array-free (one_more _ _ _ next _ ty is step_is free more) = ap is_reference is ∙ free

  abbrev Open : List PathAction → {place : Place} {id : TyId} → Is place id → Type 0
  Open actions is =
      IsOpen items local_ty number depth addresses before (IsNamed body) given (IsLive body actions)
      (present_after items body actions) is

  abbrev LandsNow : List PathAction → State → Place → Located → TyId → Type 0
  LandsNow actions w place s id =
      Lands items local_ty number depth addresses before (IsNamed body) given (present_after items body actions) w place
      s id

  -- an address at which a value may come, which is that of a place
  opened : (actions : List PathAction) (w : State) (place : Place) (id : TyId) (s : Located) (is : Is place id) →
      AllOfIt actions is → HeldNow actions w → reach raw w place ≡ Reaches s → LandsNow actions w place s id →
      OpensNow actions w s.address
  opened actions w place id s is all h e l = by is all l.landed
    where
      by-own : (start : TyId) → local_ty number place.local ≡ Some start →
          all_present (presence_along place.steps (present_after items body actions place.local)) ≡ true →
          Own raw number depth w place s start id → OpensNow actions w s.address
      by-own start typed whole o =
          subst (Opens items local_ty number depth addresses before (IsNamed body) given
          (present_after items body actions) w) (sym o.arrives.address) (its_own refl (record {
            all = λ id' f p d same ty l.
                let id_is : id' ≡ start = (let y : Some id' ≡ Some start = sym ty ∙ typed in cc) in
                ap all_present (way-leads items o.arrives.way
                (subst (λ t. Leads items o.arrives.path (OfType t) (present_after items body actions place.local)
                (held depth place.local w) f p d) id_is l)) ∙ whole;
          }))

      by : (is : Is place id) → AllOfIt actions is →
          Landed items local_ty number depth addresses before (IsNamed body) given (present_after items body actions) w
          place s id → OpensNow actions w s.address
      by is all (on_open o) = o
      by (a_part start typed plain) all (on_own _ _ _ o) =
          by-own start typed all (own_place raw number depth (present_after items body actions) w place start id s
          h.knows
          typed plain e)
      by (an_element upper rest index start array typed steps_are plain solid) all (on_own start' typed' plain' o) =
          absurd (plain-no-element upper rest index start' id (subst (λ l. PlainSteps items l start' id) steps_are
          plain'))
      by (behind rest start to typed named_it steps_are solid) all (on_own start' typed' plain' o) =
          absurd (plain-no-reference rest start' id (subst (λ l. PlainSteps items l start' id) steps_are plain')
          (ap (λ i. is_reference (type_at items i)) (let y : Some start' ≡ Some start = sym typed' ∙ typed in
          let z : start' ≡ start = cc in z) ∙ named-reference (type_at items start) to named_it))

  -- what the reference names that is made of a place
  pub borrowed : (actions : List PathAction) (w : State) (r : ℕ) (place : Place) (id : TyId) (s : Located)
      (is : Is place id) → IndexOk (local_ty number) place.steps → Open actions is → AllOfIt actions is →
      HeldNow actions w → is_reference (type_at items id) ≡ false → named_by r (references_made body) ≡ Some place →
      reach raw w place ≡ Reaches s → Given r actions w s.address
  borrowed actions w r place id s is index way_in all h free made e = record {
    opened = opened actions w place id s is all h e (lands items local_ty number depth addresses before (IsNamed body)
        given (IsLive body actions) (present_after items body actions) w place id s is h way_in index e);
    named_so = by is way_in;
  }
    where
      by : (is : Is place id) → Open actions is → s.address.depth ≡ depth → IsNamed body r s.address
      by (a_part start typed plain) way_in deep =
          let o = own_place raw number depth (present_after items body actions) w place start id s h.knows typed plain
          e in
          subst (IsNamed body r) (sym o.arrives.address)
          (named-itself r place (record (root_address depth place.local) { path = o.arrives.path }) made refl
          (way-runs o.arrives.way) (plain-rooted place place.steps start id typed plain free))
      by (an_element upper rest index start array typed steps_are plain solid) way_in deep =
          let x = element-runs items local_ty number depth addresses before (IsNamed body) given (IsLive body actions)
          (present_after items body actions) w place id s upper rest index start array typed steps_are plain solid h e
          in
          subst (IsNamed body r) (sym x.address)
          (named-itself r place (record (root_address depth place.local) { path = x.path ++ x.others }) made refl
          (subst (λ l. RunsAlong l (x.path ++ x.others)) (sym steps_are)
          (runs-append upper (ToElement index ∷ rest) x.path x.others (way-runs x.way) x.runs))
          (plain-rooted place upper start array typed plain (array-free solid)))
      by (behind rest start to typed named_it steps_are solid) way_in deep =
          let x = behind-runs items local_ty number depth addresses before (IsNamed body) given (IsLive body actions)
          (present_after items body actions) w place id s rest start to typed named_it steps_are solid way_in h e in
          subst (IsNamed body r) (sym x.address)
          (named-through r place.local place rest x.named x.path made refl steps_are
          (of x.named (h.refers place.local x.named x.held_is) (ap (λ (a : Addr). a.depth) (sym x.address) ∙ deep))
          x.runs)
        where
          of : (b : Addr) → RefersTo items local_ty number depth addresses before (IsNamed body) (IsLive body actions)
              (present_after items body actions) w place.local b → b.depth ≡ depth → IsNamed body place.local b
          of b (to_older far within full) deep = absurd (false≢true (sym far ∙ (Decides-eqb b.depth depth).1 deep))
          of b (to_own e named there) deep = named

  -- ---- the statement

  module _ (run : Bodies) (n line : ℕ) (actions : List PathAction) (w x : State) (h : HeldNow actions w)
      (to of : graph.Place) (unique : Bool) (id target : TyId) where
    abbrev at_borrow : PathAction
    at_borrow = record { how = Borrows; place = named of; block = n; line = line }

    abbrev at_store : PathAction
    at_store = record { how = Stores; place = named to; block = n; line = line }

    abbrev Then : List PathAction
    Then = actions ++ at_borrow ∷ []

    makes-no-other : (r : ℕ) → (r == to.local) ≡ false → makes body r at_store ≡ false
    makes-no-other r other =
        ap (λ b. stores body Stores && (b && are_first (named to).steps [] && are_first [] (named to).steps)) turned
      where
        turned : (to.local == r) ≡ false
        turned = elim (eqb_tells to.local r) [
          | inl y ↦ absurd (false≢true (sym other ∙ (Decides-eqb r to.local).1 (sym y.1)))
          | inr y ↦ y.0
        ]

    -- the address comes to the whole local
    address-stored : (u : State) → HeldNow Then u → (start : TyId) → local_ty number to.local ≡ Some start →
        PlainSteps items (named to).steps start id → is_dyn (type_at items id) ≡ false →
        is_reference (type_at items id) ≡ true → IndexOk (local_ty number) (named to).steps →
        (b : Addr) → Given to.local Then u b → put raw (site_of 0 to) (Address b) u ≡ Go x →
        HeldNow (Then ++ at_store ∷ []) x
    address-stored u k start typed plain sized is_ref index b given_it e = by (reach raw u (named to)) refl e
      where
        by : (r : Reached) → reach raw u (named to) ≡ r →
            on_reached r (λ s. Go (stored_at s.address (Address b) u)) (Halts Stuck u) (Halts Stuck u) ≡ Go x →
            HeldNow (Then ++ at_store ∷ []) x
        by CutOff er e = absurd (let y : Halts Stuck u ≡ Go x = e in cc)
        by Nowhere er e = absurd (let y : Halts Stuck u ≡ Go x = e in cc)
        by (Reaches s) er e =
            let o = own_place raw number depth (present_after items body Then) u (named to) start id s k.knows typed
            plain
            er in
            let l = lands items local_ty number depth addresses before (IsNamed body) given (IsLive body Then)
            (present_after items body Then) u (named to) id s (a_part start typed plain) k tt index er in
            let c = stored-Changed s.address (Address b) u (stands-known raw u s l.stands) in
            let full : IsFull items s.dynamic (Address b) =
            (l.proper, typed-as items s.dynamic id is_present (Address b) l.as_is sized (refl, is_ref)) in
            subst (HeldNow (Then ++ at_store ∷ [])) (let y : Go (stored_at s.address (Address b) u) ≡ Go x = e in
            let z : stored_at s.address (Address b) u ≡ x = cc in z)
            (stored-Held items local_ty number depth body addresses before given locals_are Then at_store u
            (stored_at s.address (Address b) u) start id s (Address b) refl typed plain o full c makes-no-other
            (λ b' eb. subst (RefersTo items local_ty number depth addresses before (IsNamed body)
            (IsLive body (Then ++ at_store ∷ []))
            (present_by raw number depth false (named to) (present_after items body Then))
            (stored_at s.address (Address b) u) to.local) (let y : Address b ≡ Address b' = eb in
            let z : b ≡ b' = cc in z)
            (refers s o c (own-opens items local_ty number depth body addresses before given locals_are Then at_store u
            (stored_at s.address (Address b) u) start id s (Address b) false counted refl typed o c b
            (λ deep key. inl refl) given_it.opened))) k)
          where
            counted : reaches_whole (watched items (slice_get body.locals to.local) (named to).steps) ≡ true
            counted =
                ap (λ x. reaches_whole (watched items x (named to).steps)) (sym (locals_are to.local) ∙ typed)
                ∙ plain-counts items (named to).steps start id plain

            refers : (s : Located) (o : Own raw number depth u (named to) s start id) →
                Changed s.address (Address b) u (stored_at s.address (Address b) u) →
                OpensNow (Then ++ at_store ∷ []) (stored_at s.address (Address b) u) b →
                RefersTo items local_ty number depth addresses before (IsNamed body)
                (IsLive body (Then ++ at_store ∷ []))
                (present_by raw number depth false (named to) (present_after items body Then))
                (stored_at s.address (Address b) u) to.local b
            refers s o c x =
                subst (λ present. RefersTo items local_ty number depth addresses before (IsNamed body)
                (IsLive body (Then ++ at_store ∷ [])) present (stored_at s.address (Address b) u) to.local b)
                (present-changed items local_ty number depth body addresses before given locals_are Then at_store false
                counted refl) (so x)
              where
                so : OpensNow (Then ++ at_store ∷ []) (stored_at s.address (Address b) u) b →
                    RefersTo items local_ty number depth addresses before (IsNamed body)
                    (IsLive body (Then ++ at_store ∷ [])) (present_after items body (Then ++ at_store ∷ []))
                    (stored_at s.address (Address b) u) to.local b
                so (an_older far within full) = to_older far within full
                so (its_own deep there) = to_own deep (given_it.named_so deep) (λ l. there)

    pub borrow-line : (start : TyId) → local_ty number to.local ≡ Some start →
        PlainSteps items (named to).steps start id → is_dyn (type_at items id) ≡ false →
        is_reference (type_at items id) ≡ true → IndexOk (local_ty number) (named to).steps →
        (is : Is (named of) target) → IndexOk (local_ty number) (named of).steps → Open actions is →
        AllOfIt actions is → is_reference (type_at items target) ≡ false →
        named_by to.local (references_made body) ≡ Some (named of) →
        act raw run (effects.Borrow (site_of 0 to) unique (site_of 0 of)) w ≡ Go x →
        HeldNow (actions ++ at_line n line (stmt_uses (Stmt.Borrow to unique of))) x
    borrow-line start typed plain sized is_ref index is index' way_in all free made e =
        subst (λ l. HeldNow l x) (append_assoc actions (at_borrow ∷ []) (at_store ∷ []))
        (by (whole_at raw w (site_of 0 of)) refl
        (went-on (effects.stores_where (never_at raw w) (effects.Borrow (site_of 0 to) unique (site_of 0 of))) Stuck
        (acted raw run (effects.Borrow (site_of 0 to) unique (site_of 0 of)) w) x e))
      where
        by : (o : Option Located) → whole_at raw w (site_of 0 of) ≡ o →
            or_stuck {A = Located} o (λ s. put raw (site_of 0 to) (Address s.address) w) w ≡ Go x →
            HeldNow (Then ++ at_store ∷ []) x
        by None eo e = absurd (let y : Halts Stuck w ≡ Go x = e in cc)
        by (Some s) eo e =
            let u = used-at raw w (site_of 0 of) s eo in
            let b = borrowed actions w to.local (named of) target s is index' way_in all h free made u.reached in
            address-stored w (read-Held items local_ty number depth body addresses before given locals_are actions
            at_borrow w w refl (λ r. refl) (same_cells w) h) start typed plain sized is_ref index s.address (record {
              opened = read-opens items local_ty number depth body addresses before given locals_are actions at_borrow w
                  refl s.address b.opened;
              named_so = b.named_so;
            }) e
