-- What an action leaves of a row, by the mask of its path.
use Rattle.std.proofs.Common.{◌≡◌, inl, inr, ℕ, zero, suc, ◌<◌, Bool, true, false, not, ◌&&◌, ◌||◌, if◌then◌else◌, List, [], ◌∷◌, map, length, Option, Some, None, slice_get, Contains, refl, sym, ap, ◌∙◌, arith}
use Rattle.std.specs.Prelude.{unwrap_or}
use Rattle.std.specs.Option.{is_some}
use Rattle.mir_ty.specs.ItemTable.{ItemTable}
use Rattle.mir_ty.proofs.ListLemmas.{Contains-slice_get}
use Rattle.store_model.specs.Places.Place.{Place}
use Rattle.bit_rows.specs.Words.{union, difference}
use Rattle.cfg_graph.specs.declared.place.Place.{Place as GraphPlace}
use Rattle.cfg_graph.specs.declared.graph.Body.{Body}
use Rattle.cfg_graph.specs.Places.{named}
use Rattle.cfg_graph.specs.Uses.{PlaceUse}
use Rattle.cfg_graph.specs.Moves.Gone.{PathAction, leaves_gone, is_at_or_above, counts, left_by}
use Rattle.init_flow.specs.Carried.{Bits}
use Rattle.move_paths.specs.Forest.{PathForest, IsForest}
use Rattle.init_flow.specs.declared.switches.Switch.{Switch}
use Rattle.init_flow.specs.Fits.{IsSwitch}
use Rattle.init_flow.specs.Moved.{mask_of}
use Rattle.init_flow.proofs.Following.{counted}
use Rattle.std.specs.Option.{option_map}
use Rattle.std.proofs.lemmas.Option.{slice_get-map}
use Rattle.std.proofs.Common.{subst}
use Rattle.move_paths.specs.Uses.{use_of}
use Rattle.init_flow.specs.Moved.{masks_of}
use Rattle.init_flow.specs.Concerns.{AreOfBody}
use Rattle.init_flow.proofs.Telling.{of-body}
use Rattle.move_errors.specs.declared.act.Act.{Act}
use Rattle.move_errors.specs.Runs.{actions_of, action_of}
use Rattle.move_errors.specs.Rows.{left, use_at, IsUsed, IsWatched}

module _ (items : ItemTable) (body : Body) (a : PathAction) where
  abbrev Same : List Place → (Place → Option Bool) → Type 0
  Same paths f = (q : Place) → Contains paths q → left_by items body q a ≡ f q

  later : (f : Place → Option Bool) (q : Place) (qs : List Place) → Same (q ∷ qs) f → Same qs f
  later f q qs same z has = same z (suc has.0, (let k = has.1 in omega (k, arith)), has.2)

  left-none : (paths : List Place) (row : Bits) → length row ≡ length paths → Same paths (λ q. None) → left items body a paths row ≡ row
  left-none [] [] long same = refl
  left-none [] (b ∷ row) long same = absurd (omega (long, arith))
  left-none (q ∷ qs) [] long same = absurd (omega (long, arith))
  left-none (q ∷ qs) (b ∷ row) long same =
      λ i. unwrap_or (same q (0, omega arith, refl) i) b ∷ left-none qs row (omega (long, arith)) (later (λ q. None) q qs same) i

  left-on : (f : Place → Bool) (paths : List Place) (row : Bits) → length row ≡ length paths → Same paths (λ q. if f q then Some true else None)
      → left items body a paths row ≡ union (map f paths) row
  left-on f [] [] long same = refl
  left-on f [] (b ∷ row) long same = absurd (omega (long, arith))
  left-on f (q ∷ qs) [] long same = absurd (omega (long, arith))
  left-on f (q ∷ qs) (b ∷ row) long same =
      λ i. (ap (λ (o : Option Bool). unwrap_or o b) (same q (0, omega arith, refl)) ∙ one (f q) b) i
      ∷ left-on f qs row (omega (long, arith)) (later (λ q. if f q then Some true else None) q qs same) i
    where
      one : (m b : Bool) → unwrap_or (if m then Some true else None) b ≡ (m || b)
      one true b = refl
      one false b = refl

  left-off : (f : Place → Bool) (paths : List Place) (row : Bits) → length row ≡ length paths → Same paths (λ q. if f q then Some false else None)
      → left items body a paths row ≡ difference (map f paths) row
  left-off f [] [] long same = refl
  left-off f [] (b ∷ row) long same = absurd (omega (long, arith))
  left-off f (q ∷ qs) [] long same = absurd (omega (long, arith))
  left-off f (q ∷ qs) (b ∷ row) long same =
      λ i. (ap (λ (o : Option Bool). unwrap_or o b) (same q (0, omega arith, refl)) ∙ one (f q) b) i
      ∷ left-off f qs row (omega (long, arith)) (later (λ q. if f q then Some false else None) q qs same) i
    where
      one : (m b : Bool) → unwrap_or (if m then Some false else None) b ≡ (not m && b)
      one true b = refl
      one false b = refl

  pub length-left : (paths : List Place) (row : Bits) → length row ≡ length paths → length (left items body a paths row) ≡ length paths
  length-left [] row long = refl
  length-left (q ∷ qs) [] long = absurd (omega (long, arith))
  length-left (q ∷ qs) (b ∷ row) long = ap suc (length-left qs row (omega (long, arith)))

module _ (items : ItemTable) (body : Body) (forest : PathForest) (is : IsForest items body forest) (made : PlaceUse × GraphPlace) (block line : ℕ) where
  abbrev action : PathAction
  action = record { how = made.0; place = named made.1; block = block; line = line }

  abbrev Inside : Type 0
  Inside = is_some (leaves_gone made.0) ≡ true → counts items body (named made.1) ≡ true → Contains forest.paths (named made.1)

  pub left-nothing : (row : Bits) → length row ≡ length forest.paths → Inside → IsSwitch forest.paths true made None → left items body action forest.paths row ≡ row
  left-nothing row long inside (inl keeps) = left-none items body action forest.paths row long (λ q has. by (counts items body (named made.1) && is_at_or_above (named made.1) q))
    where
      by : (b : Bool) → (if b then leaves_gone made.0 else None) ≡ None
      by true = keeps
      by false = refl
  left-nothing row long inside (inr absent) = left-none items body action forest.paths row long
      (λ q has. by (counts items body (named made.1)) refl (is_at_or_above (named made.1) q) (leaves_gone made.0) refl)
    where
      by : (w : Bool) → counts items body (named made.1) ≡ w → (u : Bool) (o : Option Bool) → leaves_gone made.0 ≡ o → (if w && u then o else None) ≡ None
      by false e u o l = refl
      by true e false o l = refl
      by true e true None l = refl
      by true e true (Some t) l = absurd (absent (inside (ap is_some l) e))

  left-is : (switch : Switch) → (fits : IsSwitch forest.paths true made (Some switch)) → (q : Place)
      → left_by items body q action ≡ (if is_at_or_above (named made.1) q then Some switch.on else None)
  left-is switch fits q =
      ap (λ (b : Bool). if b && is_at_or_above (named made.1) q then leaves_gone made.0 else None)
      (counted items body forest is (named made.1) (Contains-slice_get forest.paths switch.path (named made.1) fits.2))
      ∙ ap (λ (o : Option Bool). if is_at_or_above (named made.1) q then o else None) (fits.1 ∙ ap Some (sym fits.3))

  pub left-switched : (row : Bits) (switch : Switch) → length row ≡ length forest.paths → IsSwitch forest.paths true made (Some switch)
      → left items body action forest.paths row
      ≡ (if switch.on then union (mask_of forest.paths (named made.1)) row else difference (mask_of forest.paths (named made.1)) row)
  left-switched row switch long fits = by switch.on refl
    where
      by : (on : Bool) → switch.on ≡ on → left items body action forest.paths row
          ≡ (if on then union (mask_of forest.paths (named made.1)) row else difference (mask_of forest.paths (named made.1)) row)
      by true e = left-on items body action (is_at_or_above (named made.1)) forest.paths row long
          (λ q has. left-is switch fits q ∙ ap (λ (b : Bool). if is_at_or_above (named made.1) q then Some b else None) e)
      by false e = left-off items body action (is_at_or_above (named made.1)) forest.paths row long
          (λ q has. left-is switch fits q ∙ ap (λ (b : Bool). if is_at_or_above (named made.1) q then Some b else None) e)

-- where an action stands does not matter
pub left-plain : (items : ItemTable) (body : Body) (how : PlaceUse) (place : Place) (block line : ℕ) (paths : List Place) (row : Bits)
    → left items body (record { how = how; place = place; block = block; line = line }) paths row ≡ left items body (use_at how place) paths row
left-plain items body how place block line [] row = refl
left-plain items body how place block line (q ∷ qs) [] = refl
left-plain items body how place block line (q ∷ qs) (b ∷ row) =
    ap (λ (z : Bits). unwrap_or (left_by items body q (use_at how place)) b ∷ z) (left-plain items body how place block line qs row)

-- the mask of a path
pub mask-got : (paths : List Place) (below : List Bits) (n : ℕ) (place : Place) → below ≡ masks_of paths → slice_get paths n ≡ Some place
    → slice_get below n ≡ Some (mask_of paths place)
mask-got paths below n place is at =
    ap (λ (z : List Bits). slice_get z n) is ∙ slice_get-map (mask_of paths) paths n ∙ ap (option_map (mask_of paths)) at

-- a use of the body
module _ (items : ItemTable) (body : Body) (forest : PathForest) (below : List Bits) (watched : IsWatched items body forest below) where
  pub used-local : (how : PlaceUse) (place : Place) → IsUsed body how place → place.local < length body.locals
  used-local how place used = let k = watched.locals used.0 used.1 in let e = ap (λ (p : Place). p.local) used.3 in omega (k, e, arith)

  pub used-inside : (made : PlaceUse × GraphPlace) → IsUsed body made.0 (named made.1) → Inside items body forest watched.is_forest made 0 0
  used-inside made used changes counted_so =
      of-body items body forest watched.is_forest (use_at made.0 (named made.1) ∷ []) are (use_at made.0 (named made.1)) (0, omega arith, refl) changes counted_so (used-local made.0 (named made.1) used)
    where
      are : AreOfBody body (use_at made.0 (named made.1) ∷ [])
      are a (zero, within, is) = (used.0, used.1, ap (λ (z : PathAction). z.how) (sym is) ∙ used.2, ap (λ (z : PathAction). z.place) (sym is) ∙ used.3)
      are a (suc k, within, is) = absurd (omega (within, arith))

  pub used-at : (acts : List Act) (i : ℕ) (act : Act) → AreOfBody body (actions_of 0 acts) → slice_get acts i ≡ Some act → IsUsed body (use_of act.how) (named act.place.now)
  used-at acts i act are at =
      are (action_of 0 act) (Contains-slice_get (actions_of 0 acts) i (action_of 0 act) (slice_get-map (action_of 0) acts i ∙ ap (option_map (action_of 0)) at))

  pub applied-nothing : (made : PlaceUse × GraphPlace) (row : Bits) (o : Option Switch) → IsUsed body made.0 (named made.1) → length row ≡ length forest.paths → IsSwitch forest.paths true made o → o ≡ None
      → row ≡ left items body (use_at made.0 (named made.1)) forest.paths row
  applied-nothing made row o used long fits none =
      sym (left-nothing items body forest watched.is_forest made 0 0 row long (used-inside made used) (subst (IsSwitch forest.paths true made) none fits))

  pub applied-mask : (made : PlaceUse × GraphPlace) (o : Option Switch) (switch : Switch) → IsSwitch forest.paths true made o → o ≡ Some switch
      → slice_get below switch.path ≡ Some (mask_of forest.paths (named made.1))
  applied-mask made o switch fits some = let it = subst (IsSwitch forest.paths true made) some fits in mask-got forest.paths below switch.path (named made.1) watched.masks it.2

  pub applied : (made : PlaceUse × GraphPlace) (row : Bits) (o : Option Switch) (switch : Switch) → length row ≡ length forest.paths → IsSwitch forest.paths true made o → o ≡ Some switch
      → (if switch.on then union (mask_of forest.paths (named made.1)) row else difference (mask_of forest.paths (named made.1)) row) ≡ left items body (use_at made.0 (named made.1)) forest.paths row
  applied made row o switch long fits some =
      sym (left-switched items body forest watched.is_forest made 0 0 row switch long (subst (IsSwitch forest.paths true made) some fits))
