-- A place whose value was dropped, and which is to get another at once: what is known of the state before, from which
-- it differs there alone; and the place is reached still.
use Rattle.std.proofs.Common.{◌≡◌, ◌≢◌, ◌⊎◌, ℕ, suc, pos, ◌==◌, ◌&&◌, ◌||◌, not, Bool, true, false, List, [], ◌∷◌, ◌++◌, length, Option, Some, None, if◌then◌else◌, refl, ap, sym, ◌∙◌, subst}
use Rattle.std.specs.Prelude.{slice_get, option_and_then}
use Rattle.std.proofs.lemmas.Bool.{false≢true}
use Rattle.std.proofs.lemmas.Bool.Decides.{Decides-eqb}
use Rattle.mir_ty.specs.declared.ty.Ty.{Ty}
use Rattle.mir_ty.specs.declared.ty.TyId.{TyId}
use Rattle.mir_ty.specs.ItemTable.{ItemTable, type_at}
use Rattle.store_model.proofs.Values.Access.{replaced-step}
use Rattle.store_model.proofs.Values.OnePart.{part_at-with_part_at}
use Rattle.store_model.specs.declared.address.Addr.{Addr}
use Rattle.store_model.specs.declared.address.At.{At}
use Rattle.store_model.specs.declared.address.At.TheVariants.{Part, Inside}
use Rattle.store_model.specs.Values.Datum.{Datum, Data, Gone, Number, Aggregate, Box, Address}
use Rattle.store_model.specs.Values.Access.{part, with_part_at, replaced}
use Rattle.store_model.specs.Abstract.Effects.{presence, with_presence, watched_at, acted}
use Rattle.store_model.specs.Abstract.Presence.{Presence, Parts, known, none_named, named, changed_among, changed_at, after_action}
use Rattle.store_model.specs.Places.Place.{Step, ToPart, ToField, ToContent, ToElement, Place, Reach, Watched, Whole, ThroughReference, ByElement, same_step}
use Rattle.store_model.specs.Concrete.Location.{Setting, DynamicType, OfType, is_of_type, Located, Reaches, CutOff, Nowhere, reach, reach_of, on_reached, in_youngest, located_root, located_at, along, stored_at, root_of}
use Rattle.store_model.specs.Concrete.State.{State, Activation, Cells, cell, with_cell, with_cell_at}
use Rattle.soundness_values.specs.Frames.{Apart, Alike, SameCells, other_depth}
use Rattle.soundness_values.proofs.Facts.{Facts, takes_index}
use Rattle.soundness_values.proofs.Fits.{same_itself}
use Rattle.soundness_values.proofs.Frames.{at_head, at_older, stored_along}
use Rattle.soundness_values.proofs.Known.{Target, StandsFor, same_head}
use Rattle.soundness_values.proofs.Behind.{names_it}
use Rattle.soundness_values.proofs.Kept.{behind_reference, behind_shared}
use Rattle.soundness_values.proofs.Along.{path_at, containers_along}
use Rattle.soundness_values.proofs.Apart.{not_same, located_apart}
use Rattle.soundness_values.proofs.Reached.{address_of}
use Rattle.soundness_values.proofs.Running.{Passed, Runs, Lies, in_local, behind}
use Rattle.soundness_values.proofs.Reaching.{stands, same_place}
use Rattle.soundness_values.proofs.Changing.{own_there}
use Rattle.soundness_values.proofs.Standings.{alike_located, alike_length, cell_changed, cell_other, changed_length, stored_located}
use Rattle.soundness_values.proofs.Ways.{Way, ends, to_part, to_field, to_content, to_element, Indexed, whole_along, has_index, reached_by_way}

-- ---- the same way, whatever stands at its end

pub way_replaced : {items : ItemTable} {steps : List Step} {path : List At} {f f' : DynamicType} {d d' : Datum}
    (new : Datum) → Way items steps path f d f' d' → Way items steps path f (replaced path new d) f' new
way_replaced new (ends f d) = ends f new
way_replaced {items} new (to_part steps path found variant serial parts n inner f f' d' enum is_part is_found way) =
    subst (λ x. Way items (ToPart n ∷ steps) (Part n ∷ path) found x f' new)
    (sym (replaced-step (Part n) path new (Aggregate variant serial parts) inner is_part))
    (to_part steps path found variant serial (with_part_at n (replaced path new inner) parts) n
    (replaced path new inner) f f' new enum (part_at-with_part_at n (replaced path new inner) inner parts is_part)
    is_found (way_replaced new way))
way_replaced {items} new (to_field steps path found variant serial parts n inner f f' d' enum is_part is_found way) =
    subst (λ x. Way items (ToField variant n ∷ steps) (Part n ∷ path) found x f' new)
    (sym (replaced-step (Part n) path new (Aggregate variant serial parts) inner is_part))
    (to_field steps path found variant serial (with_part_at n (replaced path new inner) parts) n
    (replaced path new inner) f f' new enum (part_at-with_part_at n (replaced path new inner) inner parts is_part)
    is_found (way_replaced new way))
way_replaced new (to_content steps path found serial impl_no inside f f' d' is_found way) =
    to_content steps path found serial impl_no (replaced path new inside) f f' new is_found (way_replaced new way)
way_replaced {items} new (to_element steps path found variant serial parts i n inner f f' d' is_part is_found way) =
    subst (λ x. Way items (ToElement i ∷ steps) (Part n ∷ path) found x f' new)
    (sym (replaced-step (Part n) path new (Aggregate variant serial parts) inner is_part))
    (to_element steps path found variant serial (with_part_at n (replaced path new inner) parts) i n
    (replaced path new inner) f f' new (part_at-with_part_at n (replaced path new inner) inner parts is_part)
    is_found (way_replaced new way))

or_first : (x y : Bool) → (x || y) ≡ false → x ≡ false
or_first true y h = absurd (false≢true (sym h))
or_first false y h = refl

or_second : (x y : Bool) → (x || y) ≡ false → y ≡ false
or_second true y h = absurd (false≢true (sym h))
or_second false y h = h

-- the same numbers of elements, where other locals changed
pub indexed_kept : (one other : ℕ) (a b : Cells) (steps : List Step) (path : List At) →
    takes_index one steps ≡ false → takes_index other steps ≡ false →
    ((key : ℕ) → (key == one) ≡ false → (key == other) ≡ false → cell key a ≡ cell key b) →
    Indexed b steps path → Indexed a steps path
indexed_kept one other a b [] path h k same i = tt
indexed_kept one other a b (ToPart n ∷ steps) [] h k same i = tt
indexed_kept one other a b (ToField v n ∷ steps) [] h k same i = tt
indexed_kept one other a b (ToContent ∷ steps) [] h k same i = tt
indexed_kept one other a b (ToElement j ∷ steps) [] h k same i = tt
indexed_kept one other a b (ToPart n ∷ steps) (at ∷ path) h k same i = indexed_kept one other a b steps path h k same i
indexed_kept one other a b (ToField v n ∷ steps) (at ∷ path) h k same i =
    indexed_kept one other a b steps path h k same i
indexed_kept one other a b (ToContent ∷ steps) (at ∷ path) h k same i =
    indexed_kept one other a b steps path h k same i
indexed_kept one other a b (ToElement j ∷ steps) (Inside ∷ path) h k same i =
    indexed_kept one other a b steps path (or_second (j == one) (takes_index one steps) h)
    (or_second (j == other) (takes_index other steps) k) same i
indexed_kept one other a b (ToElement j ∷ steps) (Part n ∷ path) h k same i = (
  same j (or_first (j == one) (takes_index one steps) h) (or_first (j == other) (takes_index other steps) k) ∙ i.0,
  indexed_kept one other a b steps path (or_second (j == one) (takes_index one steps) h)
      (or_second (j == other) (takes_index other steps) k) same i.1,
)

-- ---- what is present after a place was emptied and filled

step_self : (s : Step) → same_step s s ≡ true
step_self (ToPart n) = (Decides-eqb n n).1 refl
step_self (ToField v n) = ap (λ b. b && (n == n)) ((Decides-eqb v v).1 refl) ∙ (Decides-eqb n n).1 refl
step_self ToContent = refl
step_self (ToElement n) = (Decides-eqb n n).1 refl

among_twice : (s : Step) (f g h : Presence → Presence) (o : Presence) (parts : Parts) →
    ((p : Presence) → f (g p) ≡ h p) → changed_among s f o (changed_among s g o parts) ≡ changed_among s h o parts
among_twice s f g h o none_named e =
    ap (λ b. if b then named s (f (g o)) none_named else named s (g o) (changed_among s f o none_named)) (step_self s)
    ∙ ap (λ p. named s p none_named) (e o)
among_twice s f g h o (named other part rest) e = by (same_step s other) refl (among_twice s f g h o rest e)
  where
    by : (b : Bool) → same_step s other ≡ b → changed_among s f o (changed_among s g o rest) ≡ changed_among s h o
        rest → changed_among s f o (if b then named other (g part) rest else named other part
        (changed_among s g o rest)) ≡ (if b then named other (h part) rest else named other part
        (changed_among s h o rest))
    by true k later = ap (λ b. if b then named other (f (g part)) rest else named other (g part)
        (changed_among s f o rest)) k ∙ ap (λ p. named other p rest) (e part)
    by false k later = ap (λ b. if b then named other (f part) (changed_among s g o rest) else named other part
        (changed_among s f o (changed_among s g o rest))) k ∙ ap (λ r. named other part r) later

filled_whole : (steps : List Step) (p : Presence) → after_action false steps (after_action true steps p)
    ≡ after_action false steps p
filled_whole [] p = refl
filled_whole (s ∷ steps) (known gone parts) = ap (known gone)
    (among_twice s (after_action false steps) (after_action true steps) (after_action false steps)
    (known gone none_named) parts (filled_whole steps))

pub filled_again : (w : Watched) (p : Presence) → acted false w (acted true w p) ≡ acted false w p
filled_again w p = by w.reach
  where
    by : (r : Reach) → acted false (record { steps = w.steps; reach = r })
        (acted true (record { steps = w.steps; reach = r }) p) ≡ acted false (record { steps = w.steps; reach = r }) p
    by Whole = filled_whole w.steps p
    by ThroughReference = refl
    by ByElement = refl

module _ (setting : Setting) (number : ℕ) (targets : List Target) (uniques : List Addr) (base : State)
    (is_target : ℕ → Bool) (passed : Passed setting number targets uniques base is_target) where
  abbrev items : ItemTable
  items = setting.items

  abbrev local_ty : ℕ → Option TyId
  local_ty key = setting.local_ty number key

  abbrev R : State → List (ℕ × Presence) → Facts → Type 0
  R = Runs setting number targets uniques base is_target

  abbrev L : (w : State) (cells : List (ℕ × Presence)) (facts : Facts) → R w cells facts → Place → Type 0
  L = Lies setting number targets uniques base is_target passed

  -- a place that was emptied, and is to be filled at once
  pub record Hole (w : State) (cells : List (ℕ × Presence)) (facts : Facts) (hole : Place) : Type 0 where
    pub before : State
    pub cells_before : List (ℕ × Presence)
    pub runs : R before cells_before facts
    pub standing : Located
    pub reached : reach setting before hole ≡ Reaches standing
    pub may : is_target hole.local ≡ false → (containers_along hole.steps (presence hole.local cells_before) ≡ true)
        × ((has_index hole.steps ≡ false) ⊎ (whole_along hole.steps (presence hole.local cells_before) ≡ true))
    pub emptied : Alike w.activations (stored_at standing.address Gone before).activations
    pub cells_are : cells ≡ with_presence hole.local (acted true (watched_at items local_ty
        (record { node = 0; place = hole }))) cells_before

  module _ (before : State) (cells : List (ℕ × Presence)) (facts : Facts) (runs : R before cells facts)
      (hole : Place) where
    -- the youngest activation of a state in which the place is empty
    pub record Head (l : L before cells facts runs hole) (w : State) : Type 0 where
      pub held : Cells
      pub older : List Activation
      pub is_there : w.activations ≡ (record { body = number; cells = held }) ∷ older
      pub others : (key : ℕ) → (key == hole.local) ≡ false → cell key held ≡ cell key runs.known.held
      pub root : is_target hole.local ≡ false → cell hole.local held
          ≡ replaced (path_at runs.known.held hole.steps) Gone (cell hole.local runs.known.held)
      pub all : is_target hole.local ≡ true → (key : ℕ) → cell key held ≡ cell key runs.known.held
      pub as_deep : length older ≡ length runs.known.older

    pub head_of : (l : L before cells facts runs hole) (w : State) →
        Alike w.activations (stored_at (stands setting number targets uniques base is_target passed before cells
        facts runs hole l).standing.address Gone before).activations → Head l w
    unfolding stands
    head_of (in_local id typed none own sure lead) w j =
        let a = same_head setting number j number
        (with_cell hole.local (replaced (path_at runs.known.held hole.steps) Gone
        (cell hole.local runs.known.held)) runs.known.held) runs.known.older
        (ap (λ p. (stored_at (record {
          depth = length runs.known.older;
          key = (record { 0 = hole.local });
          path = p;
        }) Gone before).activations) lead.path_is
        ∙ own_there setting number targets uniques base is_target passed before cells facts runs hole own id typed
        Gone (λ p. p)) in
        record {
          held = a.0;
          older = a.1.0;
          is_there = a.1.1.0;
          others = λ key h. a.1.1.1.0 key ∙ cell_other hole.local key _ runs.known.held h;
          root = λ o. a.1.1.1.0 hole.local ∙ cell_changed hole.local _ runs.known.held;
          all = λ o. absurd (false≢true (sym own ∙ o));
          as_deep = alike_length a.1.1.1.1;
        }
    head_of (behind n t at same steps is sure lead) w j =
        let s = runs.known.stands n t at in
        let d = replaced (s.standing.address.path ++ lead.path) Gone
        (root_of (record s.standing.address { path = s.standing.address.path ++ lead.path }) before) in
        let deep : (s.standing.address.depth == length runs.known.older) ≡ false =
        not_same s.standing.address.depth (length runs.known.older)
        (λ e. runs.known.is_older n t at (sym (ap (λ (x : Addr). x.depth) (address_of setting before t.address
        s.standing s.stands)) ∙ e)) in
        let a = same_head setting number j number runs.known.held
        (with_cell_at s.standing.address.depth s.standing.address.key.0 d runs.known.older)
        (ap (with_cell_at s.standing.address.depth s.standing.address.key.0 d) runs.known.is_there
        ∙ at_older s.standing.address.depth s.standing.address.key.0 d
        (record { body = number; cells = runs.known.held }) runs.known.older deep) in
        record {
          held = a.0;
          older = a.1.0;
          is_there = a.1.1.0;
          others = λ key h. a.1.1.1.0 key;
          root = λ o. absurd (false≢true (sym o ∙ subst (λ x. is_target x ≡ true) same (passed.is_param n t at)));
          all = λ o key. a.1.1.1.0 key;
          as_deep = alike_length a.1.1.1.1 ∙ changed_length s.standing.address.depth s.standing.address.key.0 d
              runs.known.older;
        }

    module _ (w : State) (local : ℕ) (other : (local == hole.local) ≡ false) (no_target : is_target local ≡ false)
        (no_index : takes_index local hole.steps ≡ false) (own_index : takes_index hole.local hole.steps ≡ false)
      where
        abbrev pub emptied_there : L before cells facts runs hole → Type 0
        emptied_there l = Alike w.activations (stored_at (stands setting number targets uniques base is_target passed
            before cells facts runs hole l).standing.address Gone before).activations

        abbrev pub local_at : {l : L before cells facts runs hole} → Head l w → Addr
        local_at hd = record { depth = length hd.older; key = (record { 0 = local }); path = [] }

        pub moved_there : {l : L before cells facts runs hole} (hd : Head l w) →
            (stored_at (local_at hd) Gone w).activations
            ≡ (record { body = number; cells = with_cell local Gone hd.held }) ∷ hd.older
        moved_there hd = ap (with_cell_at (length hd.older) local Gone) hd.is_there
            ∙ at_head (length hd.older) local Gone (record { body = number; cells = hd.held }) hd.older
            ((Decides-eqb (length hd.older) (length hd.older)).1 refl)

        swapped : (a b : ℕ) → (a == b) ≡ false → (b == a) ≡ false
        swapped a b h = by (b == a) refl
          where
            by : (c : Bool) → (b == a) ≡ c → c ≡ false
            by false e = refl
            by true e = absurd (false≢true (sym h ∙ (Decides-eqb a b).1 (sym ((Decides-eqb b a).0 e))))

        -- the emptied place is reached, after another local was emptied too
        pub reached_empty : (l : L before cells facts runs hole) (j : emptied_there l) →
            reach setting (stored_at (local_at (head_of l w j)) Gone w) hole ≡ Reaches
            (record (stands setting number targets uniques base is_target passed before cells facts runs hole
            l).standing { value = Gone })
        unfolding stands
        reached_empty (in_local id typed none own sure lead) j =
            let hd = head_of (in_local id typed none own sure lead) w j in
            let u = stored_at (local_at hd) Gone w in
            let held' = with_cell local Gone hd.held in
            ap (in_youngest setting u hole) (moved_there hd)
            ∙ ap (λ o. on_reached (reach_of (located_root (length hd.older) hole.local held' o))
            (along setting u held' hole.steps) CutOff Nowhere) typed
            ∙ ap (λ d. along setting u held' hole.steps (record {
              address = record { depth = length hd.older; key = (record { 0 = hole.local }); path = [] };
              dynamic = OfType id;
              value = d;
            })) (cell_other local hole.local Gone hd.held (swapped local hole.local other) ∙ hd.root own
            ∙ ap (λ p. replaced p Gone (cell hole.local runs.known.held)) (sym lead.path_is))
            ∙ reached_by_way setting u held'
            (record { depth = length hd.older; key = (record { 0 = hole.local }); path = [] })
            (way_replaced Gone lead.way)
            (indexed_kept local hole.local held' runs.known.held hole.steps lead.path no_index own_index
            (λ key h k. cell_other local key Gone hd.held h ∙ hd.others key k) lead.indexed)
            ∙ ap (λ n. Reaches (record {
              address = record { depth = n; key = (record { 0 = hole.local }); path = lead.path };
              dynamic = lead.dynamic;
              value = Gone;
            })) hd.as_deep
        reached_empty (behind n t at same steps is sure lead) j =
            let hd = head_of (behind n t at same steps is sure lead) w j in
            let u = stored_at (local_at hd) Gone w in
            let held' = with_cell local Gone hd.held in
            let s = runs.known.stands n t at in
            let ty = passed.typed n t at in
            let of_target : is_target hole.local ≡ true = subst (λ x. is_target x ≡ true) same (passed.is_param n t at)
            in
            let is_address : s.standing.address ≡ t.address = address_of setting before t.address s.standing s.stands in
            let not_local : (t.local == local) ≡ false =
            subst (λ x. (x == local) ≡ false) (sym same) (swapped local hole.local other) in
            let located : located_at setting u t.address ≡ Some
            (record (s.standing) { value = replaced lead.path Gone s.standing.value }) =
            located_apart setting w t.address (local_at hd) Gone
            (other_depth t.address (local_at hd) (λ e. runs.known.is_older n t at (e ∙ hd.as_deep)))
            ∙ alike_located setting w (stored_at (record s.standing.address
            { path = s.standing.address.path ++ lead.path }) Gone before) j t.address
            ∙ ap (λ (a : Addr). located_at setting (stored_at (record a { path = a.path ++ lead.path }) Gone before)
            t.address) is_address
            ∙ ap (λ (x : State). located_at setting x t.address)
            (stored_along setting before t.address s.standing lead.path Gone s.stands)
            ∙ stored_located setting before t.address s.standing (replaced lead.path Gone s.standing.value) s.stands in
            ap (reach setting u) (same_place setting number targets uniques base is_target passed before cells facts
            runs
            hole t steps same is)
            ∙ ap (in_youngest setting u (record { local = t.local; steps = ToContent ∷ steps })) (moved_there hd)
            ∙ ap (λ o. on_reached (reach_of (located_root (length hd.older) t.local held' o))
            (along setting u held' (ToContent ∷ steps)) CutOff Nowhere) ty.1.0
            ∙ through t.unique u held' t.local (length hd.older) ty.0 t.address steps
            (record (s.standing) { value = replaced lead.path Gone s.standing.value }) t.to ty.1.1
            (cell_other local t.local Gone hd.held not_local ∙ hd.all of_target t.local
            ∙ runs.known.named n t at) located s.of_type
            ∙ reached_by_way setting u held' s.standing.address (way_replaced Gone lead.way)
            (indexed_kept local hole.local held' runs.known.held steps lead.path
            (ap (takes_index local) (sym is) ∙ no_index) (ap (takes_index hole.local) (sym is) ∙ own_index)
            (λ key h k. cell_other local key Gone hd.held h ∙ hd.all of_target key) lead.indexed)
          where
            through : (b : Bool) (u : State) (held' : Cells) (key depth : ℕ) (id : TyId) (address : Addr)
                (steps : List Step) (stood : Located) (to : TyId) → type_at items id ≡ Some (names_it b to) →
                cell key held' ≡ Address address → located_at setting u address ≡ Some stood →
                is_of_type items to stood.dynamic ≡ true →
                along setting u held' (ToContent ∷ steps) (record {
                  address = record { depth = depth; key = (record { 0 = key }); path = [] };
                  dynamic = OfType id;
                  value = cell key held';
                }) ≡ along setting u held' steps stood
            through true u held' key depth id address steps stood to e v h k =
                behind_reference setting u held' steps address _ stood to v e h k
            through false u held' key depth id address steps stood to e v h k =
                behind_shared setting u held' steps address _ stood to v e h k
