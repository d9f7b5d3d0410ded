-- Switches follow the actions of uses: the row that says what is gone of each path after some actions becomes the one
-- after these too.
use Rattle.std.proofs.Common.{◌≡◌, ◌⊎◌, inl, inr, suc, Bool, true, false, not, ◌&&◌, ◌||◌, if◌then◌else◌, List, [], ◌∷◌, ◌++◌, map, flat_map, length, nat_lt, Option, Some, None, Contains, refl, sym, ap, ◌∙◌, arith}
use Rattle.std.specs.Prelude.{unwrap_or, ◌==◌, ⊤}
use Rattle.std.specs.List.{list_any}
use Rattle.std.specs.Option.{option_or, option_map, is_some}
use Rattle.std.specs.Simd.Lanes.{zip2}
use Rattle.std.specs.Cmp.{first_so, second_so}
use Rattle.std.specs.Cmp.Derive.{both_true}
use Rattle.std.proofs.lemmas.Bool.{false≢true, lt-ltb, ltb-true, eqb-true, eq-eqb}
use Rattle.std.proofs.lemmas.Option.{slice_get-map}
use Rattle.std.proofs.lemmas.List.{append-nil, append_assoc, length-map}
use Rattle.bit_rows.specs.Words.{union, difference}
use Rattle.mir_ty.specs.ItemTable.{ItemTable}
use Rattle.mir_ty.proofs.ListLemmas.{Contains-slice_get}
use Rattle.store_model.specs.Places.Place.{Place}
use Rattle.cfg_graph.specs.declared.place.Place.{Place as GraphPlace}
use Rattle.cfg_graph.specs.declared.graph.Body.{Body}
use Rattle.cfg_graph.specs.Places.{named}
use Rattle.cfg_graph.specs.Uses.{PlaceUse}
use Rattle.cfg_graph.specs.Moves.Gone.{PathAction, leaves_gone, are_first, is_at_or_above, counts, left_by, last_left, is_param, is_gone_after}
use Rattle.init_flow.specs.Carried.{Bits}
use Rattle.move_paths.specs.Forest.{PathForest, IsForest, is_local, is_above_change, names_any}
use Rattle.move_paths.specs.Uses.{block_uses}
use Rattle.move_paths.proofs.Naming.{either}
use Rattle.init_flow.specs.declared.switches.Switch.{Switch}
use Rattle.init_flow.specs.Fits.{Fits, IsSwitch}
use Rattle.init_flow.specs.Moved.{mask_of, masks_of, says}
use Rattle.init_flow.specs.Switches.{all_switched, at_most_one, by_mask, switch_by}
use Rattle.init_flow.proofs.Upward.{counts-up}

or-last : (a b c : Option Bool) → option_or (option_or a b) c ≡ option_or a (option_or b c)
or-last (Some x) b c = refl
or-last None b c = refl

or-none : (a : Option Bool) → a ≡ option_or a None
or-none (Some x) = refl
or-none None = refl

module _ (items : ItemTable) (body : Body) where
  last-push : (q : Place) (xs : List PathAction) (a : PathAction) → last_left items body q (xs ++ a ∷ []) ≡ option_or (left_by items body q a) (last_left items body q xs)
  last-push q [] a = or-none (left_by items body q a)
  last-push q (x ∷ xs) a =
      ap (λ (z : Option Bool). option_or z (left_by items body q x)) (last-push q xs a)
      ∙ or-last (left_by items body q a) (last_left items body q xs) (left_by items body q x)

  pub gone-push : (q : Place) (xs : List PathAction) (a : PathAction) → is_gone_after items body (xs ++ a ∷ []) q ≡ unwrap_or (left_by items body q a) (is_gone_after items body xs q)
  gone-push q xs a = ap (λ (z : Option Bool). unwrap_or z (not (is_param items body q.local))) (last-push q xs a) ∙ by (left_by items body q a)
    where
      by : (z : Option Bool) → unwrap_or (option_or z (last_left items body q xs)) (not (is_param items body q.local)) ≡ unwrap_or z (is_gone_after items body xs q)
      by (Some t) = refl
      by None = refl

pub map-same : {X Y : Type 0} (f g : X → Y) (xs : List X) → ((x : X) → Contains xs x → f x ≡ g x) → map f xs ≡ map g xs
map-same f g [] same = refl
map-same f g (x ∷ xs) same = λ i. same x (0, omega arith, refl) i ∷ map-same f g xs (λ y has. same y (suc has.0, (let k = has.1 in omega (k, arith)), has.2)) i

pub zip-map : {X : Type 0} (f : Bool → Bool → Bool) (g h : X → Bool) (xs : List X) → zip2 f (map g xs) (map h xs) ≡ map (λ x. f (g x) (h x)) xs
zip-map f g h [] = refl
zip-map f g h (x ∷ xs) = ap (λ z. f (g x) (h x) ∷ z) (zip-map f g h xs)

-- a use as an action, wherever it stands
abbrev pub act : PlaceUse × GraphPlace → PathAction
act made = record { how = made.0; place = named made.1; block = 0; line = 0 }

abbrev pub acts : List (PlaceUse × GraphPlace) → List PathAction
acts uses = map act uses

-- what a row says of paths after actions
abbrev pub state : ItemTable → Body → List Place → Bool → List PathAction → Bits
state items body paths gone earlier = map (λ q. says gone (is_gone_after items body earlier q)) paths

-- a use that makes paths made its place one
abbrev pub IsIn : ItemTable → Body → List Place → PlaceUse × GraphPlace → Type 0
IsIn items body paths made = names_any items body made ≡ true → Contains paths (named made.1)

abbrev pub AreIn : ItemTable → Body → List Place → List (PlaceUse × GraphPlace) → Type 0
AreIn items body paths [] = ⊤
AreIn items body paths (made ∷ uses) = IsIn items body paths made × AreIn items body paths uses

pub all-append : (below : List Bits) (xs ys : List Switch) (row : Bits) → all_switched below (xs ++ ys) row ≡ all_switched below ys (all_switched below xs row)
all-append below [] ys row = refl
all-append below (x ∷ xs) ys row = all-append below xs ys (switch_by below x row)

module _ (items : ItemTable) (body : Body) (forest : PathForest) (is : IsForest items body forest) where
  pub counted : (q : Place) → Contains forest.paths q → counts items body q ≡ true
  counted q has =
      let path = (is.each q).0 has in
      elim (either (is_local q.steps) (list_any (is_above_change items body q) (flat_map block_uses body.blocks)) (second_so (nat_lt q.local (length body.locals)) (is_local q.steps || list_any (is_above_change items body q) (flat_map block_uses body.blocks)) path)) [
        | inl local ↦ local-counts q.steps local
        | inr some ↦ any-counts (flat_map block_uses body.blocks) some
      ]
    where
      local-counts : (steps : List _) → is_local steps ≡ true → counts items body (record { local = q.local; steps = steps }) ≡ true
      local-counts [] h = refl
      local-counts (step ∷ steps) h = absurd (false≢true h)

      any-counts : (uses : List (PlaceUse × GraphPlace)) → list_any (is_above_change items body q) uses ≡ true → counts items body q ≡ true
      any-counts [] h = absurd (false≢true h)
      any-counts (made ∷ uses) h = elim (either (is_above_change items body q made) (list_any (is_above_change items body q) uses) h) [
        | inl here ↦ counts-up items body q (named made.1) (second_so (is_some (leaves_gone made.0) && counts items body (named made.1)) (is_at_or_above q (named made.1)) here)
            (second_so (is_some (leaves_gone made.0)) (counts items body (named made.1)) (first_so (is_some (leaves_gone made.0) && counts items body (named made.1)) (is_at_or_above q (named made.1)) here))
        | inr later ↦ any-counts uses later
      ]

  -- a use that switches nothing
  nothing : (gone : Bool) (made : PlaceUse × GraphPlace) → IsSwitch forest.paths gone made None → IsIn items body forest.paths made → (earlier : List PathAction)
      → state items body forest.paths gone earlier ≡ state items body forest.paths gone (earlier ++ act made ∷ [])
  nothing gone made none inside earlier = map-same _ _ forest.paths (λ q has. ap (says gone) (sym (gone-push items body q earlier (act made) ∙ ap (λ (z : Option Bool). unwrap_or z (is_gone_after items body earlier q)) (left q has none))))
    where
      left : (q : Place) → Contains forest.paths q → (leaves_gone made.0 ≡ None) ⊎ (¬ Contains forest.paths (named made.1)) → left_by items body q (act made) ≡ None
      left q has (inl keeps) = by (counts items body (named made.1) && is_at_or_above (named made.1) q)
        where
          by : (b : Bool) → (if b then leaves_gone made.0 else None) ≡ None
          by true = keeps
          by false = refl
      left q has (inr absent) = by (counts items body (named made.1) && is_at_or_above (named made.1) q) refl (leaves_gone made.0) refl
        where
          by : (b : Bool) → (counts items body (named made.1) && is_at_or_above (named made.1) q) ≡ b → (o : Option Bool) → leaves_gone made.0 ≡ o → (if b then o else None) ≡ None
          by false e o l = refl
          by true e None l = refl
          by true e (Some t) l =
              let watched = first_so (counts items body (named made.1)) (is_at_or_above (named made.1) q) e in
              let over = second_so (counts items body (named made.1)) (is_at_or_above (named made.1) q) e in
              let local = eqb-true (named made.1).local q.local (first_so ((named made.1).local == q.local) (are_first (named made.1).steps q.steps) over) in
              let within = ltb-true q.local (length body.locals) (first_so (nat_lt q.local (length body.locals)) (is_local q.steps || list_any (is_above_change items body q) (flat_map block_uses body.blocks)) ((is.each q).0 has)) in
              absurd (absent (inside (both_true (lt-ltb made.1.local (length body.locals) (omega (local, within, arith))) (both_true (ap is_some l) watched))))

  -- a use that switches a path
  switches : (gone : Bool) (made : PlaceUse × GraphPlace) (switch : Switch) → IsSwitch forest.paths gone made (Some switch) → (earlier : List PathAction)
      → switch_by (masks_of forest.paths) switch (state items body forest.paths gone earlier) ≡ state items body forest.paths gone (earlier ++ act made ∷ [])
  switches gone made switch fits earlier =
      ap (λ (z : Option Bits). by_mask z switch.on (state items body forest.paths gone earlier)) (slice_get-map (mask_of forest.paths) forest.paths switch.path ∙ ap (option_map (mask_of forest.paths)) fits.2)
      ∙ ap (λ (b : Bool). if b then (if switch.on then union (mask_of forest.paths place) before else difference (mask_of forest.paths place) before) else before)
      (eq-eqb (length (mask_of forest.paths place)) (length before) (length-map forest.paths (is_at_or_above place) ∙ sym (length-map forest.paths (λ q. says gone (is_gone_after items body earlier q)))))
      ∙ by switch.on fits.3
    where
      place : Place
      place = named made.1

      before : Bits
      before = state items body forest.paths gone earlier

      watched : counts items body place ≡ true
      watched = counted place (Contains-slice_get forest.paths switch.path place fits.2)

      left : (q : Place) → left_by items body q (act made) ≡ (if is_at_or_above place q then Some fits.0 else None)
      left q = ap (λ (b : Bool). if b && is_at_or_above place q then leaves_gone made.0 else None) watched ∙ ap (λ (z : Option Bool). if is_at_or_above place q then z else None) fits.1

      after : (q : Place) → says gone (is_gone_after items body (earlier ++ act made ∷ []) q) ≡ says gone (unwrap_or (if is_at_or_above place q then Some fits.0 else None) (is_gone_after items body earlier q))
      after q = ap (says gone) (gone-push items body q earlier (act made) ∙ ap (λ (z : Option Bool). unwrap_or z (is_gone_after items body earlier q)) (left q))

      turned_on : (m g : Bool) → true ≡ says gone fits.0 → (m || says gone g) ≡ says gone (unwrap_or (if m then Some fits.0 else None) g)
      turned_on true g e = e
      turned_on false g e = refl

      turned_off : (m g : Bool) → false ≡ says gone fits.0 → (not m && says gone g) ≡ says gone (unwrap_or (if m then Some fits.0 else None) g)
      turned_off true g e = e
      turned_off false g e = refl

      by : (on : Bool) → on ≡ says gone fits.0 → (if on then union (mask_of forest.paths place) before else difference (mask_of forest.paths place) before) ≡ state items body forest.paths gone (earlier ++ act made ∷ [])
      by true e = zip-map (λ a b. a || b) (is_at_or_above place) (λ q. says gone (is_gone_after items body earlier q)) forest.paths
          ∙ map-same _ _ forest.paths (λ q has. turned_on (is_at_or_above place q) (is_gone_after items body earlier q) e ∙ sym (after q))
      by false e = zip-map (λ a b. not a && b) (is_at_or_above place) (λ q. says gone (is_gone_after items body earlier q)) forest.paths
          ∙ map-same _ _ forest.paths (λ q has. turned_off (is_at_or_above place q) (is_gone_after items body earlier q) e ∙ sym (after q))

  pub follows : (gone : Bool) (uses : List (PlaceUse × GraphPlace)) (list : List Switch) → Fits forest.paths gone list uses → AreIn items body forest.paths uses → (earlier : List PathAction)
      → all_switched (masks_of forest.paths) list (state items body forest.paths gone earlier) ≡ state items body forest.paths gone (earlier ++ acts uses)
  follows gone [] list fits inside earlier =
      ap (λ (z : List Switch). all_switched (masks_of forest.paths) z (state items body forest.paths gone earlier)) fits ∙ ap (state items body forest.paths gone) (sym (append-nil earlier))
  follows gone (made ∷ uses) list fits inside earlier =
      ap (λ (z : List Switch). all_switched (masks_of forest.paths) z (state items body forest.paths gone earlier)) fits.2
      ∙ all-append (masks_of forest.paths) (at_most_one fits.0) fits.1 (state items body forest.paths gone earlier)
      ∙ ap (all_switched (masks_of forest.paths) fits.1) (one fits.0 fits.3)
      ∙ follows gone uses fits.1 fits.4 inside.1 (earlier ++ act made ∷ [])
      ∙ ap (state items body forest.paths gone) (append_assoc earlier (act made ∷ []) (acts uses))
    where
      one : (first : Option Switch) → IsSwitch forest.paths gone made first → all_switched (masks_of forest.paths) (at_most_one first) (state items body forest.paths gone earlier) ≡ state items body forest.paths gone (earlier ++ act made ∷ [])
      one None none = nothing gone made none inside.0 earlier
      one (Some switch) some = switches gone made switch some earlier
