-- What a line of a path may rely on: its operands may be used, one after another, and what it stores into is reached;
-- for the path meets no bad use and keeps what references name.
use Rattle.std.proofs.Common.{◌≡◌, ◌⊎◌, inl, inr, ℕ, ◌==◌, ◌&&◌, not, Bool, true, false, List, [], ◌∷◌, ◌++◌, flat_map, Option, Some, None, slice_get, refl, ap, sym, ◌∙◌, subst}
use Rattle.std.specs.List.{list_all}
use Rattle.std.specs.Cmp.{first_so, second_so}
use Rattle.std.specs.Cmp.Derive.{both_true}
use Rattle.std.proofs.lemmas.Bool.Decides.{Decides-eqb}
use Rattle.mir_ty.specs.declared.ty.TyId.{TyId}
use Rattle.mir_ty.specs.ItemTable.{ItemTable}
use Rattle.cfg_graph.specs.declared.graph.Body.{Body}
use Rattle.cfg_graph.specs.declared.place.Operand.{Operand}
use Rattle.cfg_graph.specs.declared.place.Place as graph
use Rattle.cfg_graph.specs.Moves.Actions.{at_line}
use Rattle.cfg_graph.specs.Moves.Gone.{PathAction, are_first, has_index, is_param, is_gone_after, container_gone_after, array_broken_after, IsWholeAfter}
use Rattle.cfg_graph.specs.Moves.Present.{present_after}
use Rattle.cfg_graph.specs.NamedPlaces.{same_place, references_made, named_by, stores, uses, spares}
use Rattle.cfg_graph.specs.Places.{named}
use Rattle.cfg_graph.specs.Uses.{PlaceUse, Copies, Moves, Borrows, Touches, Tests, Stores, Drops, Frees, operand_uses}
use Rattle.cfg_graph.proofs.AllPresent.{whole_is_all_present}
use Rattle.store_model.specs.declared.address.Addr.{Addr}
use Rattle.store_model.specs.Abstract.Presence.{presence_along, all_present}
use Rattle.store_model.specs.Concrete.State.{State}
use Rattle.store_model.specs.Places.Place.{Step, ToPart, ToField, ToContent, ToElement, Place, whole_local, before_element}
use Rattle.drop_values.proofs.Knows.{PlainSteps, no_steps, to_next}
use Rattle.drop_values.proofs.Sites.{PlaceIs, a_part, an_element, behind, IsOpen}
use Rattle.drop_values.proofs.Touched.{AllNameFull}
use Rattle.drop_elaborate.proofs.Apart.{IsNamed}
use Rattle.drop_elaborate.proofs.OperandLists.{IsConstant, OperandsAre, none_is, each_is, any_is, AllUsed, AllSpare, LineSpares}
use Rattle.drop_elaborate.proofs.Operands.{PlaceOk, UseOk, OperandIs, copied, moved, a_number, a_truth, a_unit}
use Rattle.drop_elaborate.proofs.PathFacts.{Follows, follows-later, IsRead, ReadsWell, reads-well, has-containers, local-there, array-there, live-at, line-spares}
use Rattle.drop_elaborate.proofs.SinceMade.{IsLive}
use Rattle.drop_elaborate.proofs.StatementsHeld.{Operated}

-- up to the first element
before-array : {items : ItemTable} (upper rest : List Step) (index : ℕ) (id array : TyId) →
    PlainSteps items upper id array → before_element (upper ++ ToElement index ∷ rest) ≡ upper
before-array _ rest index _ _ (no_steps id) = refl
before-array _ rest index _ array (to_next (ToPart n) steps id next _ ty is step_is plain more) =
    ap (λ l. ToPart n ∷ l) (before-array steps rest index next array more)
before-array _ rest index _ array (to_next (ToField v n) steps id next _ ty is step_is plain more) =
    ap (λ l. ToField v n ∷ l) (before-array steps rest index next array more)
before-array _ rest index _ array (to_next ToContent steps id next _ ty is step_is plain more) =
    ap (λ l. ToContent ∷ l) (before-array steps rest index next array more)
before-array _ rest index _ array (to_next (ToElement i) steps id next _ ty is step_is plain more) = absurd plain

index-after : (upper rest : List Step) (index : ℕ) → has_index (upper ++ ToElement index ∷ rest) ≡ true
index-after [] rest index = refl
index-after (ToPart n ∷ upper) rest index = index-after upper rest index
index-after (ToField v n ∷ upper) rest index = index-after upper rest index
index-after (ToContent ∷ upper) rest index = index-after upper rest index
index-after (ToElement i ∷ upper) rest index = refl

-- the first step of a place with an element
first-step : (upper rest : List Step) (index : ℕ) →
    (step : Step) × (steps : List Step) × (upper ++ ToElement index ∷ rest ≡ step ∷ steps)
first-step [] rest index = (ToElement index, rest, refl)
first-step (x ∷ upper) rest index = (x, upper ++ ToElement index ∷ rest, refl)

module _ (items : ItemTable) (local_ty : (body local : ℕ) → Option TyId) (number depth : ℕ) (body : Body)
    (addresses : List Addr) (before : State) (given : AllNameFull items local_ty before addresses)
    (locals_are : (k : ℕ) → local_ty number k ≡ slice_get body.locals k)
    (no_param : (r : ℕ) (q : Place) → named_by r (references_made body) ≡ Some q → is_param items body r ≡ false) where
  abbrev Ok : Place → TyId → Type 0
  Ok place id = PlaceOk items local_ty number depth body addresses before given locals_are place id

  abbrev Use : List PathAction → (place : Place) (id : TyId) → Ok place id → Type 0
  Use actions place id ok = UseOk items local_ty number depth body addresses before given locals_are actions place id ok

  abbrev Is : Operand → TyId → Type 0
  Is operand id = OperandIs items local_ty number depth body addresses before given locals_are operand id

  abbrev Are : List Operand → List (Option TyId) → Type 0
  Are operands ids = OperandsAre items local_ty number depth body addresses before given locals_are operands ids

  abbrev Open : List PathAction → {place : Place} {id : TyId} → PlaceIs items local_ty number place id → Type 0
  Open actions is =
      IsOpen items local_ty number depth addresses before (IsNamed body) given (IsLive body actions)
      (present_after items body actions) is

  abbrev Next : List PathAction → List PathAction → Type 0
  Next acts rest = Follows items body acts rest

  nil : {A : Type 0} (l : List A) → l ++ [] ≡ l
  nil [] = refl
  nil (x ∷ l) = ap (λ l. x ∷ l) (nil l)

  -- ---- one place

  present-there : (acts : List PathAction) (local : ℕ) (steps : List Step) →
      IsWholeAfter items body acts (record { local = local; steps = steps }) →
      all_present (presence_along steps (present_after items body acts local)) ≡ true
  present-there acts local steps h =
      (whole_is_all_present items body acts (record { local = local; steps = steps })).1 h

  element-there : (acts : List PathAction) (place : Place) (upper rest : List Step) (index : ℕ) (id array : TyId) →
      place.steps ≡ upper ++ ToElement index ∷ rest → PlainSteps items upper id array →
      array_broken_after items body acts place ≡ false →
      all_present (presence_along upper (present_after items body acts place.local)) ≡ true
  element-there acts place upper rest index id array steps_are plain h =
      subst (λ l. all_present (presence_along l (present_after items body acts place.local)) ≡ true)
      (ap before_element steps_are ∙ before-array upper rest index id array plain)
      (present-there acts place.local (before_element place.steps)
      (array-there items body acts place (ap has_index steps_are ∙ index-after upper rest index) h))

  -- what goes through a reference uses it
  behind-uses : (action : PathAction) (rest : List Step) → action.place.steps ≡ ToContent ∷ rest →
      uses body action.place.local action ≡ true
  behind-uses action rest e =
      both_true ((Decides-eqb action.place.local action.place.local).1 refl)
      (ap (λ steps. not (stores body action.how && ((action.place.local == action.place.local)
      && are_first steps [] && are_first [] steps))) e
      ∙ ap not (no_and (stores body action.how) (action.place.local == action.place.local)))
    where
      no_and : (x y : Bool) → (x && (y && false && true)) ≡ false
      no_and true true = refl
      no_and true false = refl
      no_and false y = refl

  -- the place is reached where its containers are there
  pub opened-by : (acts : List PathAction) (action : PathAction) (rest : List PathAction) → Next acts (action ∷ rest) →
      container_gone_after items body acts action.place ≡ false →
      array_broken_after items body acts action.place ≡ false → (id : TyId) →
      (is : PlaceIs items local_ty number action.place id) → Open acts is
  opened-by acts action rest f c a id (a_part start typed plain) = tt
  opened-by acts action rest f c a id (an_element upper more index start array typed steps_are plain solid) =
      element-there acts action.place upper more index start array steps_are plain a
  opened-by acts action rest f c a id (behind more start to typed named_it steps_are solid) =
      live-at items body no_param acts action rest f (behind-uses action more steps_are)
      (local-there items body acts action.place ToContent more steps_are c)

  pub read-uses : (action : PathAction) (acts rest : List PathAction) (f : Next acts (action ∷ rest)) →
      IsRead items body acts action rest f action.how → uses body action.place.local action ≡ true
  read-uses action acts rest f i =
      both_true ((Decides-eqb action.place.local action.place.local).1 refl)
      (ap (λ b. not (b && same_place action.place (whole_local action.place.local))) (by action.how i))
    where
      by : (how : PlaceUse) → IsRead items body acts action rest f how → stores body how ≡ false
      by Copies i = refl
      by Moves i = refl
      by Borrows i = refl
      by Touches i = refl
      by Tests i = absurd i
      by Stores i = absurd i
      by Drops i = absurd i
      by Frees i = absurd i

  itself-there : (acts : List PathAction) (place : Place) → IsWholeAfter items body acts place →
      is_gone_after items body acts place ≡ false
  itself-there acts place h =
      ap (λ steps. is_gone_after items body acts (record { local = place.local; steps = steps })) (sym (nil
      place.steps))
      ∙ h []

  -- a reading use
  -- the local of what is read
  pub read-live : (acts : List PathAction) (action : PathAction) (rest : List PathAction)
      (f : Next acts (action ∷ rest)) → IsRead items body acts action rest f action.how →
      IsLive body acts action.place.local
  read-live acts action rest f i =
      live-at items body no_param acts action rest f (read-uses action acts rest f i) (by action.place.steps refl)
    where
      r : ReadsWell items body acts action rest f
      r = reads-well items body acts action rest f i

      by : (steps : List Step) → action.place.steps ≡ steps →
          is_gone_after items body acts (whole_local action.place.local) ≡ false
      by [] e =
          subst (λ steps. is_gone_after items body acts (record { local = action.place.local; steps = steps }) ≡
          false) e
          (itself-there acts action.place r.whole)
      by (step ∷ steps) e = local-there items body acts action.place step steps e r.containers

  -- a reading use
  pub use-at : (acts : List PathAction) (action : PathAction) (rest : List PathAction) (f : Next acts (action ∷ rest)) →
      IsRead items body acts action rest f action.how → (id : TyId) (ok : Ok action.place id) → Use acts action.place
      id ok
  use-at acts action rest f i id ok =
      let r = reads-well items body acts action rest f i in record {
        reachable = opened-by acts action rest f r.containers r.array id ok.is;
        lives = λ reference. read-live acts action rest f i;
      }

  -- ---- the operands of a line

  abbrev Taken : ℕ → ℕ → PlaceUse → graph.Place → PathAction
  Taken n line how place = record { how = how; place = named place; block = n; line = line }

  pub all-used : (n line : ℕ) (operands : List Operand) (ids : List (Option TyId)) (are : Are operands ids)
      (acts rest : List PathAction) → Next acts (at_line n line (flat_map operand_uses operands) ++ rest) →
      AllUsed items local_ty number depth body addresses before given locals_are n line acts are
  all-used n line _ _ none_is acts rest f = tt
  all-used n line _ _ (each_is _ operands id ids (copied place _ ok) are) acts rest f =
      let more = at_line n line (flat_map operand_uses operands) ++ rest in (
        use-at acts (Taken n line Copies place) more f tt id ok,
        all-used n line operands ids are (acts ++ Taken n line Copies place ∷ []) rest
            (follows-later items body acts (Taken n line Copies place ∷ []) more f),
      )
  all-used n line _ _ (each_is _ operands id ids (moved place _ start ok typed plain bodiless itself) are) acts rest f =
      let more = at_line n line (flat_map operand_uses operands) ++ rest in (
        use-at acts (Taken n line Moves place) more f tt id ok,
        all-used n line operands ids are (acts ++ Taken n line Moves place ∷ []) rest
            (follows-later items body acts (Taken n line Moves place ∷ []) more f),
      )
  all-used n line _ _ (each_is _ operands id ids (a_number value kind _ is) are) acts rest f = (
    tt,
    all-used n line operands ids are (acts ++ []) rest (subst (λ l. Next l (at_line n line
        (flat_map operand_uses operands) ++ rest)) (sym (nil acts)) f),
  )
  all-used n line _ _ (each_is _ operands id ids (a_truth value _ is) are) acts rest f = (
    tt,
    all-used n line operands ids are (acts ++ []) rest (subst (λ l. Next l (at_line n line
        (flat_map operand_uses operands) ++ rest)) (sym (nil acts)) f),
  )
  all-used n line _ _ (each_is _ operands id ids (a_unit _ is) are) acts rest f = (
    tt,
    all-used n line operands ids are (acts ++ []) rest (subst (λ l. Next l (at_line n line
        (flat_map operand_uses operands) ++ rest)) (sym (nil acts)) f),
  )
  all-used n line _ _ (any_is operand operands ids constant are) acts rest f =
      all-used n line operands ids are (acts ++ at_line n line (operand_uses operand)) rest (by operand constant f)
    where
      by : (operand : Operand) → IsConstant items local_ty number depth body addresses before given locals_are operand →
          Next acts (at_line n line (operand_uses operand ++ flat_map operand_uses operands) ++ rest) →
          Next (acts ++ at_line n line (operand_uses operand)) (at_line n line (flat_map operand_uses operands) ++ rest)
      by (Operand.Copied place) c f = absurd c
      by (Operand.Moved place) c f = absurd c
      by (Operand.Number value kind) c f =
          subst (λ l. Next l (at_line n line (flat_map operand_uses operands) ++ rest)) (sym (nil acts)) f
      by (Operand.Truth value) c f =
          subst (λ l. Next l (at_line n line (flat_map operand_uses operands) ++ rest)) (sym (nil acts)) f
      by Operand.Unit c f =
          subst (λ l. Next l (at_line n line (flat_map operand_uses operands) ++ rest)) (sym (nil acts)) f

  -- all actions of a line are at it
  all-here : (n line : ℕ) (xs : List (PlaceUse × graph.Place)) →
      list_all (λ (a : PathAction). (a.block == n) && (a.line == line)) (at_line n line xs) ≡ true
  all-here n line [] = refl
  all-here n line (x ∷ xs) =
      both_true (both_true ((Decides-eqb n n).1 refl) ((Decides-eqb line line).1 refl)) (all-here n line xs)

  -- what the later operands of a line spare
  all-spared : (r n line : ℕ) (operands : List Operand) (ids : List (Option TyId)) (are : Are operands ids) →
      (named_by r (references_made body) ≡ None)
      ⊎ (list_all (spares body r) (at_line n line (flat_map operand_uses operands)) ≡ true) →
      AllSpare items local_ty number depth body addresses before given locals_are r n line are
  all-spared r n line _ _ none_is h = tt
  all-spared r n line _ _ (each_is _ operands id ids (copied place _ ok) are) h =
      (tt, all-spared r n line operands ids are (tail h))
    where
      tail : (named_by r (references_made body) ≡ None) ⊎ (list_all (spares body r) (Taken n line Copies place
          ∷ at_line n line (flat_map operand_uses operands)) ≡ true) → (named_by r (references_made body) ≡ None)
          ⊎ (list_all (spares body r) (at_line n line (flat_map operand_uses operands)) ≡ true)
      tail (inl e) = inl e
      tail (inr e) = inr (second_so (spares body r (Taken n line Copies place)) (list_all (spares body r)
          (at_line n line (flat_map operand_uses operands))) e)
  all-spared r n line _ _ (each_is _ operands id ids (moved place _ start ok typed plain bodiless itself) are) h =
      (head h, all-spared r n line operands ids are (tail h))
    where
      head : (named_by r (references_made body) ≡ None) ⊎ (list_all (spares body r) (Taken n line Moves place
          ∷ at_line n line (flat_map operand_uses operands)) ≡ true) → (named_by r (references_made body) ≡ None)
          ⊎ (spares body r (Taken n line Moves place) ≡ true)
      head (inl e) = inl e
      head (inr e) = inr (first_so (spares body r (Taken n line Moves place)) (list_all (spares body r)
          (at_line n line (flat_map operand_uses operands))) e)

      tail : (named_by r (references_made body) ≡ None) ⊎ (list_all (spares body r) (Taken n line Moves place
          ∷ at_line n line (flat_map operand_uses operands)) ≡ true) → (named_by r (references_made body) ≡ None)
          ⊎ (list_all (spares body r) (at_line n line (flat_map operand_uses operands)) ≡ true)
      tail (inl e) = inl e
      tail (inr e) = inr (second_so (spares body r (Taken n line Moves place)) (list_all (spares body r)
          (at_line n line (flat_map operand_uses operands))) e)
  all-spared r n line _ _ (each_is _ operands id ids (a_number value kind _ is) are) h =
      (tt, all-spared r n line operands ids are h)
  all-spared r n line _ _ (each_is _ operands id ids (a_truth value _ is) are) h =
      (tt, all-spared r n line operands ids are h)
  all-spared r n line _ _ (each_is _ operands id ids (a_unit _ is) are) h =
      (tt, all-spared r n line operands ids are h)
  all-spared r n line _ _ (any_is operand operands ids constant are) h =
      all-spared r n line operands ids are (by operand constant h)
    where
      by : (operand : Operand) → IsConstant items local_ty number depth body addresses before given locals_are operand →
          (named_by r (references_made body) ≡ None) ⊎ (list_all (spares body r)
          (at_line n line (operand_uses operand ++ flat_map operand_uses operands)) ≡ true) →
          (named_by r (references_made body) ≡ None)
          ⊎ (list_all (spares body r) (at_line n line (flat_map operand_uses operands)) ≡ true)
      by (Operand.Copied place) c h = absurd c
      by (Operand.Moved place) c h = absurd c
      by (Operand.Number value kind) c h = h
      by (Operand.Truth value) c h = h
      by Operand.Unit c h = h

  -- an operand that is read: what later operands take is not what it names
  one-spared : (acts : List PathAction) (n line : ℕ) (how : PlaceUse) (place : graph.Place) (operands : List Operand)
      (ids : List (Option TyId)) (are : Are operands ids) (rest : List PathAction)
      (f : Next acts (Taken n line how place ∷ (at_line n line (flat_map operand_uses operands) ++ rest))) →
      IsRead items body acts (Taken n line how place) (at_line n line (flat_map operand_uses operands) ++ rest) f how →
      (r : ℕ) → place.local ≡ r →
      AllSpare items local_ty number depth body addresses before given locals_are r n line are
  one-spared acts n line how place operands ids are rest f i r e =
      subst (λ r. AllSpare items local_ty number depth body addresses before given locals_are r n line are) e
      (all-spared place.local n line operands ids are
      (line-spares items body place.local acts (Taken n line how place) (at_line n line (flat_map operand_uses
      operands))
      rest f (read-uses (Taken n line how place) acts (at_line n line (flat_map operand_uses operands) ++ rest) f i)
      (read-live acts (Taken n line how place) (at_line n line (flat_map operand_uses operands) ++ rest) f i)
      (all-here n line (flat_map operand_uses operands))))

  pub line-spare : (n line : ℕ) (operands : List Operand) (ids : List (Option TyId)) (are : Are operands ids)
      (acts rest : List PathAction) → Next acts (at_line n line (flat_map operand_uses operands) ++ rest) →
      LineSpares items local_ty number depth body addresses before given locals_are n line are
  line-spare n line _ _ none_is acts rest f = tt
  line-spare n line _ _ (each_is _ operands id ids (copied place _ ok) are) acts rest f =
      let more = at_line n line (flat_map operand_uses operands) ++ rest in (
        (λ r e. one-spared acts n line Copies place operands ids are rest f tt r e),
        line-spare n line operands ids are (acts ++ Taken n line Copies place ∷ []) rest
            (follows-later items body acts (Taken n line Copies place ∷ []) more f),
      )
  line-spare n line _ _ (each_is _ operands id ids (moved place _ start ok typed plain bodiless itself) are) acts rest
      f =
      let more = at_line n line (flat_map operand_uses operands) ++ rest in (
        (λ r e. one-spared acts n line Moves place operands ids are rest f tt r e),
        line-spare n line operands ids are (acts ++ Taken n line Moves place ∷ []) rest
            (follows-later items body acts (Taken n line Moves place ∷ []) more f),
      )
  line-spare n line _ _ (each_is _ operands id ids (a_number value kind _ is) are) acts rest f =
      ((λ r e. absurd e), line-spare n line operands ids are acts rest f)
  line-spare n line _ _ (each_is _ operands id ids (a_truth value _ is) are) acts rest f =
      ((λ r e. absurd e), line-spare n line operands ids are acts rest f)
  line-spare n line _ _ (each_is _ operands id ids (a_unit _ is) are) acts rest f =
      ((λ r e. absurd e), line-spare n line operands ids are acts rest f)
  line-spare n line _ _ (any_is operand operands ids constant are) acts rest f =
      line-spare n line operands ids are acts rest (by operand constant f)
    where
      by : (operand : Operand) → IsConstant items local_ty number depth body addresses before given locals_are operand →
          Next acts (at_line n line (operand_uses operand ++ flat_map operand_uses operands) ++ rest) →
          Next acts (at_line n line (flat_map operand_uses operands) ++ rest)
      by (Operand.Copied place) c f = absurd c
      by (Operand.Moved place) c f = absurd c
      by (Operand.Number value kind) c f = f
      by (Operand.Truth value) c f = f
      by Operand.Unit c f = f

  -- the operands of a line, as it comes on a path
  pub operated : (n line : ℕ) {operands : List Operand} {ids : List (Option TyId)} (are : Are operands ids)
      (acts rest : List PathAction) → Next acts (at_line n line (flat_map operand_uses operands) ++ rest) →
      Operated items local_ty number depth body addresses before given locals_are n line acts are
  operated n line {operands} {ids} are acts rest f =
      record {
        used = all-used n line operands ids are acts rest f;
        spare = line-spare n line operands ids are acts
            rest f;
      }

  -- the place into which a line stores
  pub stored-open : (n line : ℕ) (acts rest : List PathAction) (place : graph.Place) (id : TyId) →
      Next acts (Taken n line Stores place ∷ rest) → (is : PlaceIs items local_ty number (named place) id) → Open acts
      is
  stored-open n line acts rest place id f is =
      let h = has-containers items body acts (Taken n line Stores place) rest f tt in
      opened-by acts (Taken n line Stores place) rest f h.containers h.array id is

  -- all of what is borrowed is there
  pub borrowed-there : (acts : List PathAction) (action : PathAction) (rest : List PathAction)
      (f : Next acts (action ∷ rest)) → IsRead items body acts action rest f action.how →
      all_present (presence_along action.place.steps (present_after items body acts action.place.local)) ≡ true
  borrowed-there acts action rest f i =
      present-there acts action.place.local action.place.steps (reads-well items body acts action rest f i).whole
