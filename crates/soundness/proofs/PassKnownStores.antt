-- A place of which the value is replaced, as by an assignment: what it held is dropped if its type needs that, and the new
-- value is moved there from a cell, also where the drop panics. Neither fails for want of anything known, as soon as the
-- place is known, may be changed, leads through no variant, and the cell is another local and no index on the way.
use Rattle.std.proofs.Common.{◌≡◌, ℕ, ◌==◌, ◌&&◌, ◌||◌, not, Bool, true, false, List, [], ◌∷◌, ◌++◌, Option, Some, None, refl, ap, sym, ◌∙◌, subst}
use Rattle.std.specs.Option.{option_map_or}
use Rattle.std.specs.Cmp.Derive.{both_true}
use Rattle.std.proofs.lemmas.Bool.{false≢true}
use Rattle.std.proofs.lemmas.Bool.Decides.{Decides-eqb}
use Rattle.mir_ty.specs.declared.ty.TyId.{TyId}
use Rattle.mir_ty.specs.Facts.{needs_drop}
use Rattle.mir_ty.specs.ItemTable.{ItemTable}
use Rattle.store_model.specs.Abstract.Presence.{Presence}
use Rattle.store_model.specs.Effects as effects
use Rattle.store_model.specs.Effects.{EffectSite, Action, Normal, Out, Go, Unwind, Halts}
use Rattle.store_model.specs.Places.Place.{Step, ToPart, ToField, ToContent, ToElement, Place, whole_local}
use Rattle.typed_tree.specs.Tree.{BodyTree}
use Rattle.src_meaning.specs.Forms as forms
use Rattle.src_meaning.specs.Forms.{moved}
use Rattle.src_meaning.specs.Locals.Effects as locals_of
use Rattle.src_meaning.specs.Locals.Effects.{place_at, action_at}
use Rattle.src_meaning.specs.Locals.OfBody.{local_of, local_ty}
use Rattle.src_meaning.specs.Scopes.{Scopes, innermost, without_operands, Exit, Value, Panics, At, in_scopes, on_value}
use Rattle.soundness_values.proofs.AlsoTests.{Also}
use Rattle.soundness_values.proofs.CheckedBodies.{is_reference_param}
use Rattle.soundness_values.proofs.Checked.{Checking}
use Rattle.soundness_values.proofs.Checks as checks
use Rattle.soundness_values.proofs.Checks.{no_steps}
use Rattle.soundness_values.proofs.Facts.{Facts, takes_index, hits, stays, without}
use Rattle.soundness_values.proofs.Leaving.{Shown, ShownOut}
use Rattle.soundness_cells.proofs.PassCellEffects.{drop_quiet}
use Rattle.soundness_cells.proofs.PassCellNames.{PlaceOk}
use Rattle.soundness.proofs.PassKnownMoved.{Leaves, known_left}
use Rattle.soundness.proofs.PassKnownPlaces.{Known, cell_known}
use Rattle.soundness.proofs.PassKnownRules as rules
use Rattle.soundness.proofs.PassMovable.{Movable, movable_moved}
use Rattle.soundness_cells.proofs.PassRefilled.{not_mark}
use Rattle.soundness.proofs.PassCallsAlone.{alone_run}
use Rattle.soundness.proofs.PassPlacesMarks.{drop_places}
use Rattle.soundness_cells.proofs.PassRestSplit.{places_now, places_drop}

-- a step to a field of a variant
abbrev pub has_field : List Step → Bool
has_field [] = false
has_field (ToField v n ∷ steps) = true
has_field (ToPart n ∷ steps) = has_field steps
has_field (ToContent ∷ steps) = has_field steps
has_field (ToElement i ∷ steps) = has_field steps

pub field_there : (above : List Step) (u m : ℕ) (below : List Step) → has_field (above ++ ToField u m ∷ below) ≡ true
field_there [] u m below = refl
field_there (ToField v n ∷ above) u m below = refl
field_there (ToPart n ∷ above) u m below = field_there above u m below
field_there (ToContent ∷ above) u m below = field_there above u m below
field_there (ToElement i ∷ above) u m below = field_there above u m below

-- a change at a place leaves what is known of the place itself, where no variant is on its way
pub leaves_itself : (place : Place) → has_field place.steps ≡ false → takes_index place.local place.steps ≡ false →
    Leaves place place
leaves_itself place f t = record {
  above = λ steps u m below e. absurd (false≢true (sym f ∙ ap has_field e ∙ field_there steps u m below));
  index = λ i k. by i k (i == place.local) refl;
}
  where
    by : (i : ℕ) → takes_index i place.steps ≡ true → (c : Bool) → (i == place.local) ≡ c → c ≡ false
    by i k false e = refl
    by i k true e = absurd (false≢true (sym t
        ∙ subst (λ l. takes_index l place.steps ≡ true) ((Decides-eqb i place.local).0 e) k))

module _ (items : ItemTable) (body : BodyTree) (also : Also) where
  abbrev V : Type 0
  V = Checking Facts

  abbrev L : ℕ → ℕ
  L = local_of items body

  abbrev needs : Place → Bool
  needs place = checks.needs items (local_ty items body) (is_reference_param items body) (place_at L place)

  -- a place gets a value that stands in a cell
  pub record Replaced (facts : Facts) (place : Place) (key : ℕ) : Type 0 where
    pub known : Known items body facts place
    pub changeable : checks.may_change items (local_ty items body) (is_reference_param items body) (place_at L place)
        ≡ true
    pub fieldless : has_field (place_at L place).steps ≡ false
    pub rooted : takes_index (place_at L place).local (place_at L place).steps ≡ false
    pub other : (L key == (place_at L place).local) ≡ false
    pub unindexed : takes_index (L key) (place_at L place).steps ≡ false
    pub value : Movable items body (whole_local key)

  -- whether its type needs dropping
  pub needs_by_type : (ty : TyId) (place : Place) → PlaceOk items body ty place → needs place ≡ needs_drop items ty
  needs_by_type ty place ok = ap (λ o. option_map_or (needs_drop items) o false) ok.typed

  abbrev Store : EffectSite → ℕ → Action
  Store site key = effects.Put site (moved site.node key)

  -- what is known after the drop, and after all
  abbrev pub dropped : Bool → Place → Facts → Facts
  dropped true place facts =
      checks.after_drop items (local_ty items body) (is_reference_param items body) (place_at L place) facts
  dropped false place facts = facts

  abbrev pub replaced : Bool → EffectSite → ℕ → Facts → Facts
  replaced drops site key facts = checks.after_action items (local_ty items body) (is_reference_param items body)
      (action_at L (Store site key)) (dropped drops site.place facts)

  module _ (site : EffectSite) (key : ℕ) (facts : Facts) (calm : facts.refilled ≡ None)
      (r : Replaced facts site.place key) where
    abbrev P : Place
    P = place_at L site.place

    itself_known : Known items body (without P facts) site.place
    itself_known = known_left items (local_ty items body) (is_reference_param items body) facts P P
        (leaves_itself P r.fieldless r.rooted) r.known

    beside : (other : Facts) → Known items body other site.place →
        Known items body (without (whole_local (L key)) other) site.place
    beside other h = rules.own_cell items body also other key site.place (record {
      root = λ z e. subst (λ k. (k == P.local) ≡ false) (sym e) r.other;
      way = λ z e. subst (λ k. takes_index k P.steps ≡ false) (sym e) r.unindexed;
    }) h

    first : (a b : Bool) → a ≡ true → (a || b) ≡ true
    first true b h = refl
    first false b h = absurd (false≢true h)

    second : (a b : Bool) → b ≡ true → (a || b) ≡ true
    second true b h = refl
    second false b h = h

    -- the store, where no place waits
    calm_store : (other : Facts) (cells : List (ℕ × Presence)) → other.refilled ≡ None →
        Known items body other site.place → (no_steps P.steps || not (needs site.place)) ≡ true →
        places_now items body other cells (action_at L (Store site key)) ≡ true
    calm_store other cells c h e = subst (λ o. checks.unless_refilled o
        (Rattle.soundness_cells.proofs.PassRestSplit.places_act items body other cells (action_at L (Store site key)))
        (λ hole. Rattle.soundness_cells.proofs.PassRestMarks.left_refill items body other hole
        (action_at L (Store site key))) ≡ true) (sym c)
        (both_true (both_true (beside other h) (both_true r.changeable (empty (no_steps P.steps) (needs site.place) _ e)))
        (both_true (cell_known items body other key) (movable_moved items body (whole_local key) r.value)))
      where
        empty : (n m rest : Bool) → (n || not m) ≡ true → (n || (not m || rest)) ≡ true
        empty true m rest e = refl
        empty false false rest e = refl
        empty false true rest e = absurd (false≢true e)

    -- the store, where the place waits for it
    waiting_store : (cells : List (ℕ × Presence)) → places_now items body (record (without P facts) { refilled = Some P })
        cells (action_at L (Store site key)) ≡ true
    waiting_store cells = both_true
        (both_true (ap not r.other) (both_true (ap not r.unindexed) (ap not r.rooted)))
        (both_true (both_true itself_known r.changeable)
        (both_true (cell_known items body (record (without P facts) { refilled = Some P }) key)
        (movable_moved items body (whole_local key) r.value)))

    stores : (drops : Bool) (cells : List (ℕ × Presence)) → (drops ≡ false → needs site.place ≡ false) →
        places_now items body (dropped drops site.place facts) cells (action_at L (Store site key)) ≡ true
    stores false cells e = calm_store facts cells calm r.known (second (no_steps P.steps) _ (ap not (e refl)))
    stores true cells e = by (no_steps P.steps) refl
      where
        by : (n : Bool) → no_steps P.steps ≡ n →
            places_now items body (checks.refilled_if n P (without P facts)) cells (action_at L (Store site key)) ≡ true
        by true n = calm_store (without P facts) cells calm itself_known (first (no_steps P.steps) _ n)
        by false n = waiting_store cells

    drop_shown : (v : V) → v.facts ≡ facts → ShownOut (not_mark 5) (rules.With items body also (dropped true site.place facts))
        (rules.With items body also (dropped true site.place facts)) ((alone_run items body also).drop Normal site v)
    drop_shown v same = subst (λ f. ShownOut (not_mark 5) (rules.With items body also (dropped true site.place f))
        (rules.With items body also (dropped true site.place f)) ((alone_run items body also).drop Normal site v)) same
        (rules.shown items body also _ v _ _ _
        (drop_places items body also Normal (locals_of.site_at L site) v.free v.facts
        (subst (λ f. places_drop items body f P ≡ true) (sym same)
        (second (no_steps P.steps) _ (both_true r.known r.changeable))))
        (drop_quiet items (local_ty items body) Normal (locals_of.site_at L site) v.free))

    -- the store in scopes, and before a panic goes on
    abbrev After : Bool → Exit → Scopes → V → Type 0
    After drops exit S w = w.facts ≡ replaced drops site key facts

    store_shown : (drops : Bool) → (drops ≡ false → needs site.place ≡ false) → (v : V) →
        v.facts ≡ dropped drops site.place facts →
        ShownOut (not_mark 5) (rules.With items body also (replaced drops site key facts))
        (rules.With items body also (replaced drops site key facts)) ((alone_run items body also).act (Store site key) v)
    store_shown drops e v same = subst (λ f. ShownOut (not_mark 5)
        (rules.With items body also (checks.after_action items (local_ty items body) (is_reference_param items body)
        (action_at L (Store site key)) f))
        (rules.With items body also (checks.after_action items (local_ty items body) (is_reference_param items body)
        (action_at L (Store site key)) f)) ((alone_run items body also).act (Store site key) v)) same
        (rules.acts_shown items body also (Store site key) v
        (subst (λ f. places_now items body f v.free.cells (action_at L (Store site key)) ≡ true) (sym same)
        (stores drops v.free.cells e)))

    in_scope : (drops : Bool) (S : Scopes) (o : Out V) →
        ShownOut (not_mark 5) (rules.With items body also (replaced drops site key facts))
        (rules.With items body also (replaced drops site key facts)) o →
        Shown (not_mark 5) (After drops) (in_scopes S o)
    in_scope drops S (Go w) h = h
    in_scope drops S (Unwind w) h = h
    in_scope drops S (Halts halt w) h = h

    then_panic : (drops : Bool) (S : Scopes) (o : Out V) →
        ShownOut (not_mark 5) (rules.With items body also (replaced drops site key facts))
        (rules.With items body also (replaced drops site key facts)) o →
        Shown (not_mark 5) (After drops) (on_value (in_scopes S o) (At Panics))
    then_panic drops S (Go w) h = h
    then_panic drops S (Unwind w) h = h
    then_panic drops S (Halts halt w) h = h

    after_drop : (drops : Bool) → (drops ≡ false → needs site.place ≡ false) → (S : Scopes) (o : Out V) →
        ShownOut (not_mark 5) (rules.With items body also (dropped drops site.place facts))
        (rules.With items body also (dropped drops site.place facts)) o →
        Shown (not_mark 5) (After drops) (forms.stored_after items (alone_run items body also) site key S o)
    after_drop drops e S (Go w) h = in_scope drops (innermost (without_operands (key ∷ [])) S)
        ((alone_run items body also).act (Store site key) w) (store_shown drops e w h)
    after_drop drops e S (Unwind w) h = then_panic drops (innermost (without_operands (key ∷ [])) S)
        ((alone_run items body also).act (Store site key) w) (store_shown drops e w h)
    after_drop drops e S (Halts halt w) h = h

    -- the value of a place is replaced
    pub replacing_known : (drops : Bool) → (drops ≡ false → needs site.place ≡ false) → (S : Scopes) (v : V) →
        v.facts ≡ facts →
        Shown (not_mark 5) (After drops) (forms.replacing items (alone_run items body also) drops site key S v)
    replacing_known true e S v same =
        after_drop true e S ((alone_run items body also).drop Normal site v) (drop_shown v same)
    replacing_known false e S v same = after_drop false e S (Go v) same
