-- Where the place of a drop leads, on a path that meets no bad use: it is not cut off; what stands there is sound,
-- and it is a place of the body's own with no `Drop` body around it, or all of it is there and it is refilled at once.
use Rattle.std.proofs.Common.{◌≡◌, ◌⊎◌, inl, inr, ℕ, ◌&&◌, ◌||◌, not, Bool, true, false, List, [], ◌∷◌, ◌++◌, Option, Some, slice_get, refl, ap, sym, ◌∙◌, subst}
use Rattle.std.specs.Cmp.{first_so, second_so}
use Rattle.std.specs.Cmp.Derive.{both_true}
use Rattle.std.proofs.lemmas.Bool.{false≢true}
use Rattle.mir_ty.specs.declared.ty.TyId.{TyId}
use Rattle.mir_ty.specs.ItemTable.{ItemTable, type_at}
use Rattle.cfg_graph.specs.declared.graph.Block.{Block}
use Rattle.cfg_graph.specs.declared.graph.Body.{Body}
use Rattle.cfg_graph.specs.declared.place.Place as graph
use Rattle.cfg_graph.specs.declared.terminator.Term.{Term}
use Rattle.cfg_graph.specs.declared.terminator.Unwind.{Unwind}
use Rattle.cfg_graph.proofs.Present.{gone_is_not_present}
use Rattle.cfg_graph.specs.Moves.Gone.{PathAction, containers, is_gone_after, container_gone_after}
use Rattle.cfg_graph.specs.Moves.Present.{present_after}
use Rattle.cfg_graph.specs.Places.{named, place_id}
use Rattle.cfg_graph.specs.Ready.{may_be_left_gone, refills, refills_after_panic, drops_well}
use Rattle.cfg_graph.specs.Uses.{Drops, operands_of_term, other_term_uses, stored_by_term}
use Rattle.cfg_graph.specs.WellFormed.Typing.{is_typed_place}
use Rattle.store_model.specs.declared.address.Addr.{Addr}
use Rattle.store_model.proofs.Values.Wholeness.{is_whole-iff_IsWhole}
use Rattle.store_model.specs.Abstract.Presence.{Presence, is_present, itself_gone, presence_at, presence_along, containers_present, all_present}
use Rattle.store_model.specs.Concrete.Location.{Setting, OfType, Located, root_address, named_by as type_named_by, Reached, Reaches, CutOff, Nowhere, on_reached, reach, along, follow_from}
use Rattle.store_model.specs.Concrete.State.{State, Cells}
use Rattle.store_model.specs.Places.Place.{Step, ToContent, ToElement, is_reference}
use Rattle.store_model.specs.Values.Datum.{Gone}
use Rattle.drop_values.specs.Like.{held, raw_setting}
use Rattle.drop_values.specs.Typed.{Fits, IsFull}
use Rattle.drop_values.proofs.BehindInvariant.{opens, opens-full}
use Rattle.drop_values.proofs.Cut.{none-gone-above, cut-gone, whole-not-cut, plain-not-cut, reach-along}
use Rattle.drop_values.proofs.Fits.{full-whole, whole_if_present}
use Rattle.drop_values.proofs.FoundAs.{itself}
use Rattle.drop_values.proofs.Sound.{Sound, full-Sound}
use Rattle.drop_values.proofs.Knows.{PlainSteps, arrived, followed, root, Own, own_place}
use Rattle.drop_values.proofs.KnowsLaws.{Bodiless}
use Rattle.drop_values.proofs.LeftGone.{BodilessSteps, way-bodiless}
use Rattle.drop_values.proofs.Reach.{IndexOk}
use Rattle.drop_values.proofs.Sites.{of-as, PlaceIs, a_part, an_element, behind, IsOpen, Landed, on_own, on_open, Lands, lands, behind-it}
use Rattle.drop_values.proofs.Stand.{Changed, Stands}
use Rattle.drop_values.proofs.Touched.{SameCells, same-Changed-after, AllNameFull}
use Rattle.drop_values.proofs.TypedSteps.{SolidSteps}
use Rattle.drop_values.proofs.TypedAs.{as-of}
use Rattle.drop_values.proofs.Ways.{fits_at_end}
use Rattle.drop_values.proofs.Within.{HasBody, within-full, bodiless-or, never-both, sound-end}
use Rattle.drop_elaborate.proofs.Apart.{IsNamed, LeadsItself}
use Rattle.drop_elaborate.proofs.Held.{Held, dropped-Held}
use Rattle.drop_elaborate.proofs.LinesTyped.{Leavable, own-itself, leavable}
use Rattle.drop_elaborate.proofs.OperandTypes.{place-at, index-at, typed-id}
use Rattle.drop_elaborate.proofs.PathFacts.{Follows, has-containers}
use Rattle.drop_elaborate.proofs.PathUses.{opened-by}
use Rattle.drop_elaborate.proofs.ReadyBody.{BodyIsReady}
use Rattle.drop_elaborate.proofs.SinceMade.{IsLive}
use Rattle.drop_elaborate.proofs.LineOperands.{made_are, no_param}
use Rattle.drop_elaborate.proofs.StmtTests.{LineTested, term-tested}
use Rattle.drop_elaborate.proofs.Stores.{plain-no-element, plain-no-reference, named-reference}

-- along steps in two pieces
along-two : (setting : Setting) (w : State) (cells : Cells) (first more : List Step) (s : Located) →
    along setting w cells (first ++ more) s ≡ on_reached (along setting w cells first s) (along setting w cells more)
    CutOff Nowhere
along-two setting w cells [] more s = refl
along-two setting w cells (step ∷ first) more s = by (follow_from setting w cells step s.value s)
    (λ m. along-two setting w cells first more m)
  where
    by : (r : Reached) → ((m : Located) → along setting w cells (first ++ more) m
        ≡ on_reached (along setting w cells first m) (along setting w cells more) CutOff Nowhere) →
        on_reached r (along setting w cells (first ++ more)) CutOff Nowhere
        ≡ on_reached (on_reached r (along setting w cells first) CutOff Nowhere) (along setting w cells more) CutOff
        Nowhere
    by (Reaches m) again = again m
    by CutOff again = refl
    by Nowhere again = refl

-- the containers of a place up to one of them
containers-first : (first more : List Step) (p : Presence) → containers_present (first ++ more) p ≡ true →
    containers_present first p ≡ true
containers-first [] more p h = refl
containers-first (step ∷ first) more p h =
    both_true (first_so (not (itself_gone p)) (containers_present (first ++ more) (presence_at step p)) h)
    (containers-first first more (presence_at step p)
    (second_so (not (itself_gone p)) (containers_present (first ++ more) (presence_at step p)) h))

module _ (items : ItemTable) (local_ty : (body local : ℕ) → Option TyId) (number depth bodies : ℕ) (body : Body)
    (addresses : List Addr) (before : State) (given : AllNameFull items local_ty before addresses)
    (locals_are : (k : ℕ) → local_ty number k ≡ slice_get body.locals k) (ready : BodyIsReady items bodies body) where
  abbrev raw : Setting
  raw = raw_setting items local_ty

  abbrev HeldNow : List PathAction → State → Type 0
  HeldNow actions w = Held items local_ty number depth body addresses before given locals_are actions w

  abbrev pub at_drop : (n line : ℕ) → graph.Place → PathAction
  at_drop n line place = record { how = Drops; place = named place; block = n; line = line }

  -- the place, with its type and where it leads
  pub record DropPlace (acts : List PathAction) (place : graph.Place) : Type 0 where
    pub id : TyId
    pub typed : place_id items body.locals place ≡ Some id
    pub is : PlaceIs items local_ty number (named place) id
    pub index : IndexOk (local_ty number) (named place).steps
    pub opened : IsOpen items local_ty number depth addresses before (IsNamed body) given (IsLive body acts)
        (present_after items body acts) is
    pub containers_there : container_gone_after items body acts (named place) ≡ false

  only : (b : Bool) → (b && true) ≡ true → b ≡ true
  only b h = first_so b true h

  pub drop-place : (n line : ℕ) (block : Block) → slice_get body.blocks n ≡ Some block → (place : graph.Place)
      (next : ℕ) (unwind : Unwind) → block.term ≡ Term.DropAt place next unwind → (acts rest : List PathAction) →
      Follows items body acts (at_drop n line place ∷ rest) → DropPlace acts place
  drop-place n line block at place next unwind e acts rest f =
      let t : LineTested items body (operands_of_term (Term.DropAt place next unwind))
      (stored_by_term (Term.DropAt place next unwind)) (other_term_uses (Term.DropAt place next unwind)) =
      subst (λ term. LineTested items body (operands_of_term term) (stored_by_term term) (other_term_uses term)) e
      (term-tested items body block.term (ready.term_typed n block at) (ready.term_moves n block at)).0 in
      let typed = only (is_typed_place items body.locals place) t.others_typed in
      let made = made_are items local_ty number depth bodies body addresses before given locals_are ready in
      let i = typed-id items ready.alone local_ty number depth body addresses before given locals_are made place typed
      in
      let is = place-at items ready.alone local_ty number depth body addresses before given locals_are made place i.0
      i.1 in
      let h = has-containers items body acts (at_drop n line place) rest f tt in record {
        id = i.0;
        typed = i.1;
        is = is;
        index = index-at items ready.alone local_ty number depth body addresses before given locals_are made place
            typed;
        opened = opened-by items local_ty number depth body addresses before given locals_are
            (no_param items local_ty number depth bodies body addresses before given locals_are ready) acts
            (at_drop n line place) rest f h.containers h.array i.0 is;
        containers_there = h.containers;
      }

  module _ (acts : List PathAction) (w : State) (place : graph.Place) (d : DropPlace acts place) (h : HeldNow acts w)
    where
      abbrev present : Presence
      present = present_after items body acts place.local

      abbrev start_at : TyId → Located
      start_at start = root raw number depth place.local start w

      there : containers_present (named place).steps present ≡ true
      there =
          none-gone-above containers refl (λ step steps. refl) (named place).steps present
          (λ outer. is_gone_after items body acts (record { local = place.local; steps = outer }))
          (λ outer. sym (gone_is_not_present items body acts (record { local = place.local; steps = outer })))
          d.containers_there

      no : (b : Bool) → b ≡ true → not b ≡ true → ⊥
      no true e h = false≢true h
      no false e h = false≢true e

      -- it is not cut off
      pub not-cut : reach raw w (named place) ≡ CutOff → ⊥
      not-cut e = by d.id d.is d.opened
        where
          element : (id : TyId) (cells : Cells) (upper rest : List Step) (index : ℕ) (start array : TyId) →
              local_ty number place.local ≡ Some start → (named place).steps ≡ upper ++ ToElement index ∷ rest →
              PlainSteps items upper start array → SolidSteps items (ToElement index ∷ rest) array id →
              all_present (presence_along upper present) ≡ true → (x : Reached) →
              along raw w cells upper (start_at start) ≡ x →
              on_reached x (along raw w cells (ToElement index ∷ rest)) CutOff Nowhere ≡ CutOff → ⊥
          element id cells upper rest index start array typed steps_are plain solid all (Reaches m) er ec =
              let fits = h.knows.fits place.local start typed in
              let a = arrived raw w cells upper (start_at start) m start array present plain (itself start) fits er in
              let fit = fits_at_end items present a.way fits in
              whole-not-cut items local_ty w cells (ToElement index ∷ rest) m array id solid
              (of-as items m.dynamic array a.of) (presence_along upper present, fit)
              ((is_whole-iff_IsWhole m.value).0 (whole_if_present items m.value m.dynamic (presence_along upper present)
              all fit)) ec
          element id cells upper rest index start array typed steps_are plain solid all CutOff er ec =
              plain-not-cut items local_ty w cells upper (start_at start) start array present plain (itself start)
              (h.knows.fits place.local start typed)
              (containers-first upper (ToElement index ∷ rest) present
              (subst (λ steps. containers_present steps present ≡ true) steps_are there)) er
          element id cells upper rest index start array typed steps_are plain solid all Nowhere er ec = cc

          through : (id : TyId) (cells : Cells) (rest : List Step) (start to : TyId) →
              local_ty number place.local ≡ Some start → type_named_by (type_at items start) ≡ Some to →
              (named place).steps ≡ ToContent ∷ rest → SolidSteps items rest to id → IsLive body acts place.local →
              (x : Reached) → follow_from raw w cells ToContent (held depth place.local w) (start_at start) ≡ x →
              on_reached x (along raw w cells rest) CutOff Nowhere ≡ CutOff → ⊥
          through id cells rest start to typed named_it steps_are solid live (Reaches m) er ec =
              let fits = h.knows.fits place.local start typed in
              let b = behind-it items local_ty number depth addresses before (IsNamed body) given w cells start to
              present
              (held depth place.local w) (root_address depth place.local) m named_it fits
              (followed raw w cells ToContent (root_address depth place.local) (OfType start) (held depth place.local
              w) m
              er) in
              let o = opens items local_ty number depth addresses before (IsNamed body) given (IsLive body acts)
              (present_after items body acts) w place.local b.address live (h.refers place.local b.address b.value_is)
              in
              let full = opens-full items local_ty number depth addresses before (IsNamed body) given
              (present_after items body acts) w b.address h.knows o m b.there in
              whole-not-cut items local_ty w cells rest m to id solid (as-of items to m.dynamic full.0 b.found_is)
              (is_present, full.1) (full-whole items m.value m.dynamic full) ec
          through id cells rest start to typed named_it steps_are solid live CutOff er ec =
              no (itself_gone present)
              (subst (Fits items (OfType start) present)
              (cut-gone raw w cells ToContent (held depth place.local w) (start_at start) er)
              (h.knows.fits place.local start typed))
              (first_so (not (itself_gone present)) (containers_present rest (presence_at ToContent present))
              (subst (λ steps. containers_present steps present ≡ true) steps_are there))
          through id cells rest start to typed named_it steps_are solid live Nowhere er ec = cc

          by : (id : TyId) (is : PlaceIs items local_ty number (named place) id) →
              IsOpen items local_ty number depth addresses before (IsNamed body) given (IsLive body acts)
              (present_after items body acts) is → ⊥
          by id (a_part start typed plain) o =
              let r = reach-along raw number depth w (named place) start h.knows.deep h.knows.number_is typed in
              plain-not-cut items local_ty w r.0 (named place).steps (start_at start) start id present plain (itself
              start)
              (h.knows.fits place.local start typed) there (sym r.1 ∙ e)
          by id (an_element upper rest index start array typed steps_are plain solid) o =
              let r = reach-along raw number depth w (named place) start h.knows.deep h.knows.number_is typed in
              element id r.0 upper rest index start array typed steps_are plain solid o
              (along raw w r.0 upper (start_at start)) refl
              (sym (along-two raw w r.0 upper (ToElement index ∷ rest) (start_at start))
              ∙ ap (λ steps. along raw w r.0 steps (start_at start)) (sym steps_are) ∙ sym r.1 ∙ e)
          by id (behind rest start to typed named_it steps_are solid) o =
              let r = reach-along raw number depth w (named place) start h.knows.deep h.knows.number_is typed in
              through id r.0 rest start to typed named_it steps_are solid o
              (follow_from raw w r.0 ToContent (held depth place.local w) (start_at start)) refl
              (ap (λ steps. along raw w r.0 steps (start_at start)) (sym steps_are) ∙ sym r.1 ∙ e)

      -- ---- what stands there

      abbrev NeverLeft : Type 0
      NeverLeft = may_be_left_gone items body place ≡ true → ⊥

      pub data Standing (s : Located) : Type 0 where
        -- it may be left gone
        own : (start : TyId) → local_ty number place.local ≡ Some start →
            PlainSteps items (named place).steps start d.id → LeadsItself body (named place) →
            (o : Own raw number depth w (named place) s start d.id) → Bodiless items o.arrives.way → Standing s
        -- all of it is there, and it gets a value again
        full : IsFull items s.dynamic s.value → NeverLeft → Standing s

      pub record Found (s : Located) : Type 0 where
        pub stands : Stands raw w s
        pub sound : Sound items s.value s.dynamic
        pub standing : Standing s

      leaves : may_be_left_gone items body place ≡ true → Leavable items ready.alone local_ty number body locals_are
          (made_are items local_ty number depth bodies body addresses before given locals_are ready) place d.id
      leaves m = leavable items ready.alone local_ty number body locals_are
          (made_are items local_ty number depth bodies body addresses before given locals_are ready) place d.id d.is m

      same-start : (a b : TyId) → local_ty number place.local ≡ Some a → local_ty number place.local ≡ Some b → a ≡ b
      same-start a b e f = let x : Some a ≡ Some b = sym e ∙ f in cc

      pub found : (s : Located) → reach raw w (named place) ≡ Reaches s → Found s
      found s e = by d.is refl
        where
          l : Lands items local_ty number depth addresses before (IsNamed body) given (present_after items body acts) w
              (named place) s d.id
          l = lands items local_ty number depth addresses before (IsNamed body) given (IsLive body acts)
              (present_after items body acts) w (named place) d.id s d.is h d.opened d.index e

          own-found : (start : TyId) → local_ty number place.local ≡ Some start →
              PlainSteps items (named place).steps start d.id →
              (o : Own raw number depth w (named place) s start d.id) →
              Bodiless items o.arrives.way ⊎ HasBody items o.arrives.way → Found s
          own-found start typed plain o (inl bodiless) = record {
            stands = l.stands;
            sound = sound-end items o.arrives.way (h.sound place.local start typed);
            standing = own start typed plain (own-itself items ready.alone local_ty number body locals_are
                (made_are items local_ty number depth bodies body addresses before given locals_are ready) (named place)
                start d.id typed plain) o bodiless;
          }
          own-found start typed plain o (inr body_there) =
              let f = within-full items o.arrives.way (h.sound place.local start typed) body_there in record {
                stands = l.stands;
                sound = full-Sound items s.value s.dynamic f;
                standing = full f (λ m.
                    let v = leaves m in
                    let same = same-start v.start start v.typed typed in
                    never-both items o.arrives.way
                    (way-bodiless items local_ty w [] s.address o.arrives.way start d.id
                    (of-as items (OfType start) start (itself start))
                    (present, h.knows.fits place.local start typed) plain
                    (subst (BodilessSteps items (named place).steps) same v.no_body)) body_there);
              }

          open-found : NeverLeft → Landed items local_ty number depth addresses before (IsNamed body) given
              (present_after items body acts) w (named place) s d.id → Found s
          open-found never (on_own start typed plain o) = own-found start typed plain o (bodiless-or items
              o.arrives.way)
          open-found never (on_open o) =
              let f = opens-full items local_ty number depth addresses before (IsNamed body) given
              (present_after items body acts) w s.address h.knows o s l.stands in record {
                stands = l.stands;
                sound = full-Sound items s.value s.dynamic f;
                standing = full f never;
              }

          by : (is : PlaceIs items local_ty number (named place) d.id) → d.is ≡ is → Found s
          by (a_part start typed plain) same =
              let o = own_place raw number depth (present_after items body acts) w (named place) start d.id s h.knows
              typed
              plain e in own-found start typed plain o (bodiless-or items o.arrives.way)
          by (an_element upper rest index start array typed steps_are plain solid) same =
              open-found (λ m. plain-no-element upper rest index (leaves m).start d.id
              (subst (λ steps. PlainSteps items steps (leaves m).start d.id) steps_are (leaves m).plain)) l.landed
          by (behind rest start to typed named_it steps_are solid) same =
              open-found (λ m.
              let v = leaves m in
              plain-no-reference rest v.start d.id
              (subst (λ steps. PlainSteps items steps v.start d.id) steps_are v.plain)
              (ap (λ i. is_reference (type_at items i)) (same-start v.start start v.typed typed)
              ∙ named-reference (type_at items start) to named_it)) l.landed

      -- what holds as it is dropped, where it may be left gone
      pub after-own : (n line : ℕ) (s : Located) (v : State) (start : TyId) → local_ty number place.local ≡ Some start →
          PlainSteps items (named place).steps start d.id → LeadsItself body (named place) →
          (o : Own raw number depth w (named place) s start d.id) → Bodiless items o.arrives.way →
          Changed s.address Gone w v → HeldNow (acts ++ at_drop n line place ∷ []) v
      after-own n line s v start typed plain itself_led o bodiless c =
          dropped-Held items local_ty number depth body addresses before given locals_are acts (at_drop n line place)
          w v
          start d.id s refl (λ r. refl) typed plain itself_led o bodiless c h

  -- a place that may not be left gone was dropped, and the next statement stores there
  pub record Emptied (m : ℕ) (actions : List PathAction) (v : State) : Type 0 where
    pub acts : List PathAction
    pub block : ℕ
    pub line : ℕ
    pub place : graph.Place
    pub before_it : State
    pub s : Located
    pub known : HeldNow acts before_it
    pub there : DropPlace acts place
    pub leads : reach raw before_it (named place) ≡ Reaches s
    pub stood : Stands raw before_it s
    pub changed : Changed s.address Gone before_it v
    pub done : actions ≡ acts ++ at_drop block line place ∷ []
    pub refilled : refills items body place m ≡ true

  -- nothing is changed in any cell
  pub emptied-same : (m : ℕ) (actions : List PathAction) (w v : State) → SameCells w v → Emptied m actions w →
      Emptied m actions v
  emptied-same m actions w v same x = record {
    acts = x.acts;
    block = x.block;
    line = x.line;
    place = x.place;
    before_it = x.before_it;
    s = x.s;
    known = x.known;
    there = x.there;
    leads = x.leads;
    stood = x.stood;
    changed = same-Changed-after x.s.address Gone x.before_it w v x.changed same;
    done = x.done;
    refilled = x.refilled;
  }

  -- it is refilled on each way on
  pub record RefilledOn (place : graph.Place) (next : ℕ) (unwind : Unwind) : Type 0 where
    pub on : refills items body place next ≡ true
    pub after_panic : refills_after_panic items body place unwind ≡ true

  pub refilled-on : (n : ℕ) (block : Block) → slice_get body.blocks n ≡ Some block → (place : graph.Place) (next : ℕ)
      (unwind : Unwind) → block.term ≡ Term.DropAt place next unwind → (may_be_left_gone items body place ≡ true → ⊥) →
      RefilledOn place next unwind
  refilled-on n block at place next unwind e never =
      by (may_be_left_gone items body place) refl
      (ap (drops_well items body) (sym e) ∙ ready.drops n block at)
    where
      by : (b : Bool) → may_be_left_gone items body place ≡ b →
          (b || (refills items body place next && refills_after_panic items body place unwind)) ≡ true →
          RefilledOn place next unwind
      by true m h = absurd (never m)
      by false m h = record {
        on = first_so (refills items body place next) (refills_after_panic items body place unwind) h;
        after_panic = second_so (refills items body place next) (refills_after_panic items body place unwind) h;
      }
