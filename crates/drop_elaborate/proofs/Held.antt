-- What holds of a raw run within a body after the actions of a path, and that it holds after one action more: a place
-- is read, moved out of, stored into, or lies behind a reference.
use Rattle.std.proofs.Common.{◌≡◌, ◌⊎◌, inl, inr, ℕ, ◌==◌, ◌&&◌, Bool, true, false, List, [], ◌∷◌, ◌++◌, Option, Some, None, if◌then◌else◌, slice_get, refl, ap, sym, ◌∙◌, subst}
use Rattle.std.proofs.Math.Path.{fun_ext}
use Rattle.std.specs.Prelude.{option_and_then}
use Rattle.std.specs.Option.{option_map_or}
use Rattle.std.specs.Cmp.{first_so}
use Rattle.std.proofs.lemmas.Option.{none-some}
use Rattle.mir_ty.specs.declared.ty.TyId.{TyId}
use Rattle.mir_ty.specs.ItemTable.{ItemTable, type_at}
use Rattle.cfg_graph.specs.declared.graph.Body.{Body}
use Rattle.cfg_graph.specs.Moves.Gone.{PathAction, below, counts, is_gone_after, leaves_gone, reaches_whole}
use Rattle.cfg_graph.specs.Moves.Present as moves
use Rattle.cfg_graph.specs.Moves.Present.{changed_by, present_from, present_after, present_at_start}
use Rattle.cfg_graph.proofs.AllPresent.{whole_is_all_present}
use Rattle.cfg_graph.proofs.Present.{gone_is_not_present}
use Rattle.cfg_graph.specs.NamedPlaces.{references_made, named_by, followed, spares, makes}
use Rattle.store_model.specs.declared.address.Addr.{Addr}
use Rattle.store_model.specs.Abstract.Presence.{Presence, presence_along, all_present}
use Rattle.store_model.specs.Concrete.Location.{Setting, OfType, Located, located_at}
use Rattle.store_model.specs.Concrete.State.{State}
use Rattle.store_model.specs.Places.Place.{Step, ToPart, ToField, ToContent, ToElement, Place, watched, watched_content, content_of, step_ty, is_reference}
use Rattle.store_model.specs.Values.Datum.{Datum, Gone, Address}
use Rattle.drop_values.specs.Like.{held, raw_setting}
use Rattle.drop_values.specs.Typed.{IsFull}
use Rattle.drop_values.proofs.AlikePresence.{Alike, alike-Fits, other-leads}
use Rattle.drop_values.proofs.BehindInvariant.{Opens, an_older, its_own, behind-Invariant}
use Rattle.drop_values.proofs.Sound.{full-Sound}
use Rattle.drop_values.proofs.Invariant.{RefersTo, to_older, to_own, Invariant, same-Invariant, fewer, own-Invariant}
use Rattle.drop_values.proofs.Knows.{PlainSteps, no_steps, to_next, present_by, Own}
use Rattle.drop_values.proofs.KnowsLaws.{Bodiless}
use Rattle.drop_values.proofs.Named.{located-by}
use Rattle.drop_values.proofs.References.{AllThere, own-stays}
use Rattle.drop_values.proofs.LeftGone.{BodilessSteps, taken-Invariant}
use Rattle.drop_values.proofs.Stand.{Changed}
use Rattle.drop_values.proofs.Staying.{Diverge}
use Rattle.drop_values.proofs.Touched.{SameCells, NoAddress, AllNameFull}
use Rattle.drop_elaborate.proofs.Apart.{IsNamed, LeadsItself, spared-apart, way-runs}
use Rattle.drop_elaborate.proofs.SinceMade.{all-first, all-second, since, since_from-append, IsSpared, IsLive}

-- a place of plain steps is watched to its end
pub plain-counts : (items : ItemTable) (steps : List Step) (id end : TyId) → PlainSteps items steps id end →
    reaches_whole (watched items (Some id) steps) ≡ true
plain-counts items _ _ _ (no_steps id) = refl
plain-counts items _ _ end (to_next (ToPart n) steps id next _ ty is step_is plain rest) =
    ap (λ o. reaches_whole (watched items o steps)) (ap (λ o. option_and_then (step_ty items (ToPart n)) o) is
    ∙ step_is)
    ∙ plain-counts items steps next end rest
plain-counts items _ _ end (to_next (ToField v n) steps id next _ ty is step_is plain rest) =
    ap (λ o. reaches_whole (watched items o steps)) (ap (λ o. option_and_then (step_ty items (ToField v n)) o) is
    ∙ step_is) ∙ plain-counts items steps next end rest
plain-counts items _ _ end (to_next ToContent steps id next _ ty is step_is plain rest) =
    ap (λ b. reaches_whole (watched_content b (watched items (option_and_then content_of (type_at items id)) steps)))
    (ap is_reference is ∙ plain)
    ∙ ap (λ o. reaches_whole (watched items o steps)) (ap (λ o. option_and_then content_of o) is ∙ step_is)
    ∙ plain-counts items steps next end rest
plain-counts items _ _ end (to_next (ToElement i) steps id next _ ty is step_is plain rest) = absurd plain

module _ (items : ItemTable) (local_ty : (body local : ℕ) → Option TyId) (number depth : ℕ) (body : Body)
    (addresses : List Addr) (before : State) (given : AllNameFull items local_ty before addresses)
    (locals_are : (k : ℕ) → local_ty number k ≡ slice_get body.locals k) where
  abbrev raw : Setting
  raw = raw_setting items local_ty

  -- what holds after these actions
  abbrev pub Held : List PathAction → State → Type 0
  Held actions w =
      Invariant items local_ty number depth addresses before (IsNamed body) (IsLive body actions)
      (present_after items body actions) w

  -- an address at which a value may come then
  abbrev pub OpensAfter : List PathAction → State → Addr → Type 0
  OpensAfter actions w b =
      Opens items local_ty number depth addresses before (IsNamed body) given (present_after items body actions) w b

  -- ---- one action more

  present-more : (k : ℕ) (actions : List PathAction) (action : PathAction) (p : Presence) →
      present_from items body k (actions ++ action ∷ []) p
      ≡ moves.present_by items body k action (present_from items body k actions p)
  present-more k [] action p = refl
  present-more k (first ∷ actions) action p = present-more k actions action (moves.present_by items body k first p)

  -- an action that changes nothing of what is present
  abbrev pub LeavesPresent : PathAction → Type 0
  LeavesPresent action = (leaves_gone action.how ≡ None) ⊎ (counts items body action.place ≡ false)

  left-present : (k : ℕ) (action : PathAction) (p : Presence) → LeavesPresent action →
      moves.present_by items body k action p ≡ p
  left-present k action p (inl e) =
      ap (λ o. if counts items body action.place && (action.place.local == k) then changed_by o
      action.place.steps p else p)
      e
      ∙ same (counts items body action.place && (action.place.local == k))
    where
      same : (b : Bool) → (if b then p else p) ≡ p
      same true = refl
      same false = refl
  left-present k action p (inr e) =
      ap (λ c. if c && (action.place.local == k) then changed_by (leaves_gone action.how) action.place.steps p else p) e

  pub present-same : (actions : List PathAction) (action : PathAction) → LeavesPresent action →
      present_after items body (actions ++ action ∷ []) ≡ present_after items body actions
  present-same actions action l = fun_ext (λ k.
      present-more k actions action (present_at_start items body k)
      ∙ left-present k action (present_after items body actions k) l)

  -- an action at a place of the body's own
  pub present-changed : (actions : List PathAction) (action : PathAction) (leaves : Bool) →
      counts items body action.place ≡ true → leaves_gone action.how ≡ Some leaves →
      present_after items body (actions ++ action ∷ [])
      ≡ present_by raw number depth leaves action.place (present_after items body actions)
  present-changed actions action leaves c g = fun_ext (λ k.
      present-more k actions action (present_at_start items body k)
      ∙ ap (λ x. if x && (action.place.local == k) then changed_by (leaves_gone action.how) action.place.steps
      (present_after items body actions k) else present_after items body actions k) c
      ∙ ap (λ o. if action.place.local == k then changed_by o action.place.steps (present_after items body actions k)
      else
      present_after items body actions k) g)

  -- what lives after it lived before it, and is spared by it
  pub lives-before : (actions : List PathAction) (action : PathAction) (r : ℕ) → makes body r action ≡ false →
      IsLive body (actions ++ action ∷ []) r →
      IsLive body actions r × ((named_by r (references_made body) ≡ None) ⊎ (spares body r action ≡ true))
  lives-before actions action r m (inl e) = (inl e, inl e)
  lives-before actions action r m (inr s) =
      by (since body r actions) refl (subst (IsSpared body r) (since_from-append body r None actions (action ∷ [])
      ∙ ap (λ b. if b then Some [] else option_map_or (λ l. Some (l ++ action ∷ [])) (since body r actions) None) m)
      s)
    where
      by : (o : Option (List PathAction)) → since body r actions ≡ o →
          IsSpared body r (option_map_or (λ l. Some (l ++ action ∷ [])) o None) →
          IsLive body actions r × ((named_by r (references_made body) ≡ None) ⊎ (spares body r action ≡ true))
      by None e s = absurd s
      by (Some l) e s = (
        inr (subst (IsSpared body r) (sym e) (all-first (spares body r) l (action ∷ []) s)),
        inr (first_so (spares body r action) true (all-second (spares body r) l (action ∷ []) s)),
      )

  -- a local that no reference is made in names nothing
  pub not-named : (r : ℕ) (b : Addr) → named_by r (references_made body) ≡ None → IsNamed body r b → ⊥
  not-named r b e named =
      none-some named.place (sym (ap (λ o. slice_get (option_map_or (followed body) o []) named.number) e)
      ∙ named.among)

  -- a place is read, or tested, and no cell is changed
  pub read-Held : (actions : List PathAction) (action : PathAction) (w v : State) → leaves_gone action.how ≡ None →
      ((r : ℕ) → makes body r action ≡ false) → SameCells w v → Held actions w → Held (actions ++ action ∷ []) v
  read-Held actions action w v g m s h =
      subst (λ present. Invariant items local_ty number depth addresses before (IsNamed body)
      (IsLive body (actions ++ action ∷ [])) present v) (sym (present-same actions action (inl g)))
      (fewer items local_ty number depth addresses before (IsNamed body) (IsLive body actions)
      (IsLive body (actions ++ action ∷ [])) (present_after items body actions) v
      (λ r l. (lives-before actions action r (m r) l).0)
      (same-Invariant items local_ty number depth addresses before (IsNamed body) (IsLive body actions)
      (present_after items body actions) w v s h))

  -- a value is taken from a place of the body's own that may be left gone
  pub taken-Held : (actions : List PathAction) (action : PathAction) (w v : State) (id end : TyId) (t : Located) →
      leaves_gone action.how ≡ Some true → ((r : ℕ) → makes body r action ≡ false) →
      local_ty number action.place.local ≡ Some id → PlainSteps items action.place.steps id end →
      BodilessSteps items action.place.steps id → LeadsItself body action.place →
      Own raw number depth w action.place t id end → Changed t.address Gone w v →
      Held actions w → Held (actions ++ action ∷ []) v
  taken-Held actions action w v id end t g m typed plain bodiless itself o c h =
      subst (λ present. Invariant items local_ty number depth addresses before (IsNamed body)
      (IsLive body (actions ++ action ∷ [])) present v)
      (sym (present-changed actions action true
      (ap (λ x. reaches_whole (watched items x action.place.steps)) (sym (locals_are action.place.local) ∙ typed)
      ∙ plain-counts items action.place.steps id end plain) g))
      (taken-Invariant items local_ty number depth addresses before (IsNamed body) (IsLive body actions)
      (IsLive body (actions ++ action ∷ [])) (present_after items body actions) w v action.place
      id end t typed plain
      bodiless o c
      (λ r b n l. let k = lives-before actions action r (m r) l in
      (k.0, λ named key. apart r b n named key k.1)) h)
    where
      apart : (r : ℕ) (b : Addr) → (r == action.place.local) ≡ false → IsNamed body r b → b.key.0 ≡ action.place.local →
          (named_by r (references_made body) ≡ None) ⊎ (spares body r action ≡ true) → Diverge o.arrives.path b.path
      apart r b n named key (inl e) = absurd (not-named r b e named)
      apart r b n named key (inr s) =
          spared-apart body r b action o.arrives.path s
          (ap (λ x. option_map_or (λ gone. gone) x false) g) itself n named key (way-runs o.arrives.way)

  -- what stands at a place of the body's own is dropped, if no container of it has a `Drop` body
  pub dropped-Held : (actions : List PathAction) (action : PathAction) (w v : State) (id end : TyId) (t : Located) →
      leaves_gone action.how ≡ Some true → ((r : ℕ) → makes body r action ≡ false) →
      local_ty number action.place.local ≡ Some id → PlainSteps items action.place.steps id end →
      LeadsItself body action.place → (o : Own raw number depth w action.place t id end) →
      Bodiless items o.arrives.way → Changed t.address Gone w v → Held actions w → Held (actions ++ action ∷ []) v
  dropped-Held actions action w v id end t g m typed plain itself o bodiless c h =
      subst (λ present. Invariant items local_ty number depth addresses before (IsNamed body)
      (IsLive body (actions ++ action ∷ [])) present v)
      (sym (present-changed actions action true
      (ap (λ x. reaches_whole (watched items x action.place.steps)) (sym (locals_are action.place.local) ∙ typed)
      ∙ plain-counts items action.place.steps id end plain) g))
      (own-Invariant items local_ty number depth addresses before (IsNamed body) true
      (present_after items body actions) w v action.place id end t Gone typed o c (IsLive body actions)
      (IsLive body (actions ++ action ∷ [])) refl (inr bodiless) tt
      (λ r b n l. let k = lives-before actions action r (m r) l in
      (k.0, λ named key. inr (apart r b n named key k.1)))
      (λ b e. absurd (let x : Gone ≡ Address b = e in cc)) h)
    where
      apart : (r : ℕ) (b : Addr) → (r == action.place.local) ≡ false → IsNamed body r b → b.key.0 ≡ action.place.local →
          (named_by r (references_made body) ≡ None) ⊎ (spares body r action ≡ true) → Diverge o.arrives.path b.path
      apart r b n named key (inl e) = absurd (not-named r b e named)
      apart r b n named key (inr s) =
          spared-apart body r b action o.arrives.path s (ap (λ x. option_map_or (λ gone. gone) x false) g) itself n
          named
          key (way-runs o.arrives.way)

  -- by another list of actions, after which the same is gone and no more may be used
  pub other-path : (actions others : List PathAction) (w : State) →
      ((place : Place) → is_gone_after items body actions place ≡ is_gone_after items body others place) →
      ((r : ℕ) → IsLive body others r → IsLive body actions r) → Held actions w → Held others w
  other-path actions others w same live h = record {
    knows = record {
      deep = h.knows.deep;
      number_is = h.knows.number_is;
      fits = λ k id e. alike-Fits items (held depth k w) (OfType id) (present_after items body actions k)
          (present_after items body others k) (alike k) (h.knows.fits k id e);
    };
    sound = h.sound;
    older = h.older;
    refers = λ r b e. refers r b (h.refers r b e);
  }
    where
      alike : (k : ℕ) → Alike (present_after items body actions k) (present_after items body others k)
      alike k steps =
          gone_is_not_present items body actions (record { local = k; steps = steps })
          ∙ same (record { local = k; steps = steps })
          ∙ sym (gone_is_not_present items body others (record { local = k; steps = steps }))

      all-there : (k : ℕ) (steps : List Step) →
          all_present (presence_along steps (present_after items body actions k)) ≡ true →
          all_present (presence_along steps (present_after items body others k)) ≡ true
      all-there k steps h =
          let place : Place = record { local = k; steps = steps } in
          (whole_is_all_present items body others place).1
          (λ more. sym (same (below place more)) ∙ (whole_is_all_present items body actions place).0 h more)

      there : (b : Addr) → AllThere items local_ty number depth (present_after items body actions) w b →
          AllThere items local_ty number depth (present_after items body others) w b
      there b a = record {
        all = λ id f p d e ty l.
            let o = other-leads items (present_after items body actions b.key.0) l in
            subst (λ q. all_present q ≡ true) (sym o.end_is)
            (all-there b.key.0 o.steps (a.all id f
            (presence_along o.steps (present_after items body actions b.key.0)) d e ty o.leads));
      }

      refers : (r : ℕ) (b : Addr) →
          RefersTo items local_ty number depth addresses before (IsNamed body) (IsLive body actions)
          (present_after items body actions) w r b →
          RefersTo items local_ty number depth addresses before (IsNamed body) (IsLive body others)
          (present_after items body others) w r b
      refers r b (to_older far within full) = to_older far within full
      refers r b (to_own e named found) = to_own e named (λ l. there b (found (live r l)))

  -- a full value is stored at a place of the body's own
  pub stored-Held : (actions : List PathAction) (action : PathAction) (w v : State) (id end : TyId) (t : Located)
      (new : Datum) → leaves_gone action.how ≡ Some false → local_ty number action.place.local ≡ Some id →
      PlainSteps items action.place.steps id end → Own raw number depth w action.place t id end →
      IsFull items t.dynamic new → Changed t.address new w v →
      ((r : ℕ) → (r == action.place.local) ≡ false → makes body r action ≡ false) →
      ((b : Addr) → new ≡ Address b → RefersTo items local_ty number depth addresses before (IsNamed body)
      (IsLive body (actions ++ action ∷ []))
      (present_by raw number depth false action.place (present_after items body actions)) v action.place.local b) →
      Held actions w → Held (actions ++ action ∷ []) v
  stored-Held actions action w v id end t new g typed plain o full c m fresh h =
      subst (λ present. Invariant items local_ty number depth addresses before (IsNamed body)
      (IsLive body (actions ++ action ∷ [])) present v)
      (sym (present-changed actions action false
      (ap (λ x. reaches_whole (watched items x action.place.steps)) (sym (locals_are action.place.local) ∙ typed)
      ∙ plain-counts items action.place.steps id end plain) g))
      (own-Invariant items local_ty number depth addresses before (IsNamed body) false
      (present_after items body actions)
      w v action.place id end t new typed o c (IsLive body actions) (IsLive body (actions ++ action ∷ [])) full.1
      (inl full) (full-Sound items new t.dynamic full)
      (λ r b n l. ((lives-before actions action r (m r n) l).0, λ named key. inl refl)) fresh h)

  -- a full value comes behind a reference, or to an element of an array
  pub opened-Held : (actions : List PathAction) (action : PathAction) (w v : State) (b : Addr) (s : Located)
      (new : Datum) → counts items body action.place ≡ false → ((r : ℕ) → makes body r action ≡ false) →
      located_at raw w b ≡ Some s → IsFull items s.dynamic new → NoAddress new → Changed b new w v →
      OpensAfter actions w b → Held actions w → Held (actions ++ action ∷ []) v
  opened-Held actions action w v b s new n m e full plain c o h =
      subst (λ present. Invariant items local_ty number depth addresses before (IsNamed body)
      (IsLive body (actions ++ action ∷ [])) present v) (sym (present-same actions action (inr n)))
      (fewer items local_ty number depth addresses before (IsNamed body) (IsLive body actions)
      (IsLive body (actions ++ action ∷ [])) (present_after items body actions) v
      (λ r l. (lives-before actions action r (m r) l).0)
      (behind-Invariant items local_ty number depth addresses before (IsNamed body) given
      (present_after items body actions)
      w v b s new e full plain c (IsLive body actions) o h))

  -- where a place of the body's own is stored into, or taken beside it, an address stays one at which a value may come
  pub own-opens : (actions : List PathAction) (action : PathAction) (w v : State) (id end : TyId) (t : Located)
      (new : Datum) (leaves : Bool) → counts items body action.place ≡ true → leaves_gone action.how ≡ Some leaves →
      local_ty number action.place.local ≡ Some id → (o : Own raw number depth w action.place t id end) →
      Changed t.address new w v → (b : Addr) →
      (b.depth ≡ depth → b.key.0 ≡ action.place.local → (leaves ≡ false) ⊎ Diverge o.arrives.path b.path) →
      OpensAfter actions w b → OpensAfter (actions ++ action ∷ []) v b
  own-opens actions action w v id end t new leaves n g typed o c b apart x =
      subst (λ present. Opens items local_ty number depth addresses before (IsNamed body) given present v b)
      (sym (present-changed actions action leaves n g)) (by x)
    where
      by : OpensAfter actions w b → Opens items local_ty number depth addresses before (IsNamed body) given
          (present_by raw number depth leaves action.place (present_after items body actions)) v b
      by (an_older far within full) = an_older far within (λ s e. full s (located-by items local_ty w v b
          (c.bodies b.depth) (c.apart b.depth b.key.0 (ap (λ (x : Addr). (b.depth == x.depth) && (b.key.0 == x.key.0))
          o.arrives.address ∙ ap (λ x. x && (b.key.0 == action.place.local)) far)) ∙ e))
      by (its_own e there) =
          its_own e (own-stays items local_ty number depth leaves (present_after items body actions) w v action.place id
          end t new typed o c b (apart e) there)

  -- where nothing changes
  pub read-opens : (actions : List PathAction) (action : PathAction) (w : State) → leaves_gone action.how ≡ None →
      (b : Addr) → OpensAfter actions w b → OpensAfter (actions ++ action ∷ []) w b
  read-opens actions action w g b x =
      subst (λ present. Opens items local_ty number depth addresses before (IsNamed body) given present w b)
      (sym (present-same actions action (inl g))) x
