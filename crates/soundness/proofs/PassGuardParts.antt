-- A guard leaves the parts of its scrutinee that the names of its arm take: what is known of them is known while only
-- what lies off the scrutinee changes, so these names may be bound behind the guard.
use Rattle.std.proofs.Common.{◌≡◌, ℕ, suc, ◌==◌, ◌&&◌, ◌||◌, Bool, true, false, List, [], ◌∷◌, ◌++◌, map, Option, refl, sym}
use Rattle.std.specs.Cmp.Derive.{both_true}
use Rattle.std.proofs.lemmas.Bool.{false≢true}
use Rattle.mir_ty.specs.declared.ty.TyId.{TyId}
use Rattle.mir_ty.specs.ItemTable.{ItemTable}
use Rattle.store_model.specs.Places.Place.{Step, ToPart, ToField, ToContent, ToElement, Place}
use Rattle.typed_tree.specs.declared.node.Use.{Use}
use Rattle.typed_tree.specs.Tree as tree
use Rattle.typed_tree.specs.Tree.{Node, node, Form, Nodes, no_node, a_node, Fields, no_field, a_field, BodyTree}
use Rattle.src_meaning.specs.Locals.Effects.{place_at, step_at}
use Rattle.src_meaning.specs.Locals.OfBody.{local_of, local_ty}
use Rattle.src_meaning.specs.Shape.{BoundName, head, shape, shape_of, in_fields, in_parts, extended}
use Rattle.typing_rules.specs.Accesses.{AccessStep, begin_alike}
use Rattle.soundness_values.proofs.AlsoTests.{Also}
use Rattle.soundness_values.proofs.CheckedBodies.{is_reference_param}
use Rattle.soundness_values.proofs.Facts.{Facts, takes_index}
use Rattle.soundness_values.proofs.NoOverlap.{seen}
use Rattle.soundness.proofs.PassGuardLeaves.{OffOf}
use Rattle.soundness.proofs.PassKnownRules as known
use Rattle.soundness.proofs.PassKnownStill.{known_clear}
use Rattle.soundness.proofs.PassPlacesCalm.{bounds_known}
use Rattle.soundness_frame.proofs.PassStays.{FactsStay}

-- ---- what holds of a place, and of its parts, holds of what the names of a pattern take

module _ (Q : Place → Type 0) (items : ItemTable) (part : (q : Place) (n : ℕ) → Q q → Q (extended (ToPart n) q))
    (field : (q : Place) (v n : ℕ) → Q q → Q (extended (ToField v n) q)) where
  abbrev pub AllTaken : List BoundName → Type 0
  AllTaken [] = Unit {0}
  AllTaken (b ∷ bounds) = Q b.site.place × AllTaken bounds

  both_taken : (a b : List BoundName) → AllTaken a → AllTaken b → AllTaken (a ++ b)
  both_taken [] b h k = k
  both_taken (x ∷ a) b h k = (h.0, both_taken a b h.1 k)

  mutual
    pub names_taken : (p : Node) (q : Place) → Q q → AllTaken ((shape items p).bindings q)
    names_taken (node id at ty by form) q h = form_taken form id ty by q h

    form_taken : (form : Form) (id : ℕ) (ty : TyId) (by : Option Use) (q : Place) → Q q →
        AllTaken ((shape_of items form (head id ty by)).bindings q)
    form_taken (tree.Binding name) id ty by q h = (h, tt)
    form_taken (tree.StructPattern fields) id ty by q h = fields_taken fields ToPart (λ y n k. part y n k) q h
    form_taken (tree.VariantPattern variant is_test fields) id ty by q h =
        fields_taken fields (ToField variant) (λ y n k. field y variant n k) q h
    form_taken (tree.TuplePattern parts) id ty by q h = parts_taken parts 0 q h
    form_taken (tree.ArrayPattern elements) id ty by q h = parts_taken elements 0 q h
    form_taken form id ty by q h = tt

    fields_taken : (fields : Fields) (step : ℕ → Step) → ((y : Place) (n : ℕ) → Q y → Q (extended (step n) y)) →
        (q : Place) → Q q → AllTaken ((in_fields items fields step).bindings q)
    fields_taken no_field step f q h = tt
    fields_taken (a_field number value rest) step f q h = both_taken ((shape items value).bindings (extended (step
        number) q))
        ((in_fields items rest step).bindings q) (names_taken value (extended (step number) q) (f q number h))
        (fields_taken rest step f q h)

    parts_taken : (parts : Nodes) (k : ℕ) (q : Place) → Q q → AllTaken ((in_parts items parts k).bindings q)
    parts_taken no_node k q h = tt
    parts_taken (a_node first rest) k q h = both_taken ((shape items first).bindings (extended (ToPart k) q))
        ((in_parts items rest (suc k)).bindings q) (names_taken first (extended (ToPart k) q) (part q k h))
        (parts_taken rest (suc k) q h)

-- ---- a part is off what its whole is off

and_less : (c r s : Bool) → (c && r) ≡ false → (r ≡ false → s ≡ false) → (c && s) ≡ false
and_less true r s h f = f h
and_less false r s h f = refl

or_less : (c r s : Bool) → (c || r) ≡ false → (r ≡ false → s ≡ false) → (c || s) ≡ false
or_less true r s h f = h
or_less false r s h f = f h

module _ (local : ℕ → ℕ) where
  abbrev at_locals : List Step → List Step
  at_locals = map (step_at local)

  begin_more : (steps : List Step) (step : Step) (s : List AccessStep) → begin_alike (seen (at_locals steps)) s ≡
      false →
      begin_alike (seen (at_locals (steps ++ step ∷ []))) s ≡ false
  begin_more [] step s h = absurd (false≢true (sym h))
  begin_more (ToElement i ∷ steps) step s h = absurd (false≢true (sym h))
  begin_more (ToPart n ∷ steps) step [] h = absurd (false≢true (sym h))
  begin_more (ToField v n ∷ steps) step [] h = absurd (false≢true (sym h))
  begin_more (ToContent ∷ steps) step [] h = absurd (false≢true (sym h))
  begin_more (ToPart n ∷ steps) step (b ∷ s) h = and_less _ _ _ h (begin_more steps step s)
  begin_more (ToField v n ∷ steps) step (b ∷ s) h = and_less _ _ _ h (begin_more steps step s)
  begin_more (ToContent ∷ steps) step (b ∷ s) h = and_less _ _ _ h (begin_more steps step s)

  takes_more : (steps : List Step) (step : Step) (z : ℕ) → takes_index z (at_locals (step ∷ [])) ≡ false →
      takes_index z (at_locals steps) ≡ false → takes_index z (at_locals (steps ++ step ∷ [])) ≡ false
  takes_more [] step z k h = k
  takes_more (ToElement i ∷ steps) step z k h = or_less _ _ _ h (takes_more steps step z k)
  takes_more (ToPart n ∷ steps) step z k h = takes_more steps step z k h
  takes_more (ToField v n ∷ steps) step z k h = takes_more steps step z k h
  takes_more (ToContent ∷ steps) step z k h = takes_more steps step z k h

  module _ (May : Place → Type 0) where
    -- what may be changed neither overlaps the place nor is an index on its way
    abbrev pub ClearAt : Place → Type 0
    ClearAt q = (u : Place) → May u →
        ((local q.local == u.local && begin_alike (seen (at_locals q.steps)) (seen u.steps)) ≡ false)
        × (takes_index u.local (at_locals q.steps) ≡ false)

    pub clear_further : (step : Step) → ((z : ℕ) → takes_index z (at_locals (step ∷ [])) ≡ false) → (q : Place) →
        ClearAt q → ClearAt (extended step q)
    clear_further step f q h u m = (
      and_less (local q.local == u.local) (begin_alike (seen (at_locals q.steps)) (seen u.steps))
          (begin_alike (seen (at_locals (q.steps ++ step ∷ []))) (seen u.steps)) (h u m).0
          (begin_more q.steps step (seen u.steps)),
      takes_more q.steps step u.local (f u.local) (h u m).1,
    )

-- ---- the names of an arm, behind its guard

module _ (items : ItemTable) (body : BodyTree) (also : Also) (place : Place) where
  abbrev local : ℕ → ℕ
  local = local_of items body

  abbrev pub May : Place → Type 0
  May = OffOf local place

  abbrev pub Fit : List BoundName → Facts → Type 0
  Fit bounds facts = known.AllFit items body also facts bounds

  abbrev pub Clears : List BoundName → Type 0
  Clears = AllTaken (ClearAt local May) items (λ q k h. clear_further local May (ToPart k) (λ z. refl) q h)
      (λ q v k h. clear_further local May (ToField v k) (λ z. refl) q h)

  pub clears : (pattern : Node) → Clears ((shape items pattern).bindings place)
  clears pattern = names_taken (ClearAt local May) items (λ q k h. clear_further local May (ToPart k) (λ z. refl) q h)
      (λ q v k h. clear_further local May (ToField v k) (λ z. refl) q h) pattern place (λ u m. m)

  pub still_fit : (bounds : List BoundName) (before now : Facts) → FactsStay May before now → Clears bounds →
      Fit bounds before → Fit bounds now
  still_fit [] before now k c f = tt
  still_fit (x ∷ bounds) before now k c f = (
    record {
      cell = f.0.cell;
      plain = f.0.plain;
      known = known_clear items (local_ty items body) (is_reference_param items body) before now
          (place_at local x.site.place) May k (record { apart = λ u m. (c.0 u m).0; way = λ u m. (c.0 u m).1 })
          f.0.known;
      movable = f.0.movable;
    },
    (f.1.0, still_fit bounds before now k c.1 f.1.1),
  )

  -- what the names of an arm would take is known
  pub fit_known : (bounds : List BoundName) (facts : Facts) → Fit bounds facts → bounds_known items body bounds facts
      ≡ true
  fit_known [] facts f = refl
  fit_known (x ∷ bounds) facts f = both_true f.0.known (fit_known bounds facts f.1.1)
