-- What a value put or taken at one place leaves gone.
use Rattle.std.proofs.Common.{◌≡◌, ◌↔◌, ◌⊎◌, inl, inr, suc, Bool, true, false, cond, not, ◌||◌, ◌&&◌, List, [], ◌∷◌, ◌++◌, Option, Some, None, Decides, refl, ap, sym, subst, ◌∙◌, arith, length, length-append, ◌==◌, append-nil}
use Rattle.std.proofs.lemmas.Bool.{true≢false, false≢true}
use Rattle.std.specs.Cmp.{first_so, second_so}
use Rattle.std.specs.List.{list_any, filter}
use Rattle.std.specs.Option.{option_map, is_some}
use Rattle.std.proofs.lemmas.Bool.Decides.{Decides-eqb}
use Rattle.machine_store.specs.Marks.{same_step, leads_into, is_outside, IsMarked, GoneMarks}
use Rattle.store_model.proofs.Values.Access.{none_or_some, value_at-below, value_at-append, replaced-nowhere, value_at-replaced, value_at-replaced_above, value_at-replaced_below, value_at-below_Gone, value_at-replaced_apart, paths_compare}
use Rattle.store_model.proofs.Values.Wholeness.{IsWhole-iff_no_gone, is_whole-iff_IsWhole}
use Rattle.store_model.specs.declared.address.At.{At}
use Rattle.store_model.specs.declared.address.At.TheVariants.{Part, Inside}
use Rattle.store_model.specs.declared.value.Value.{Value, Value-F, fold-roll-Value}
use Rattle.store_model.specs.declared.value.Value.TheVariants.{Gone as nothing, rolls-Gone}
use Rattle.store_model.specs.Values.Datum.{Datum, datum_of, datum_of_layer, Gone, Number, Truth, UnitValue, Aggregate, Box, Address}
use Rattle.store_model.specs.Values.Access.{part, with_part, value_at, replaced, AreApart}
use Rattle.store_model.specs.Values.Wholeness.{IsWhole, is_whole}

-- a path leads to a place or into it
abbrev pub LeadsInto : List At → List At → Type 0
LeadsInto path place = (below : List At) × (path ≡ place ++ below)

same_step_Decides : (a b : At) → Decides (same_step a b) (a ≡ b)
same_step_Decides (Part n) (Part m) = (λ h. ap Part ((Decides-eqb n m).0 h), λ e. (Decides-eqb n m).1 (cc))
same_step_Decides (Part n) Inside = (λ h. absurd (false≢true h), λ e. absurd (cc))
same_step_Decides Inside (Part m) = (λ h. absurd (false≢true h), λ e. absurd (cc))
same_step_Decides Inside Inside = (λ h. refl, λ e. refl)

further : (other step : At) (path place : List At) → Decides (leads_into path place) (LeadsInto path place) →
    Decides (leads_into (other ∷ path) (step ∷ place)) (LeadsInto (other ∷ path) (step ∷ place))
further other step path place rest = (told, tells)
  where
    told : (same_step other step && leads_into path place) ≡ true → LeadsInto (other ∷ path) (step ∷ place)
    told h =
        let same : other ≡ step = (same_step_Decides other step).0 (first_so (same_step other step) (leads_into path place) h) in
        let leads : LeadsInto path place = rest.0 (second_so (same_step other step) (leads_into path place) h) in
        (leads.0, (let e : path ≡ place ++ leads.0 = leads.1 in cc))

    tells : LeadsInto (other ∷ path) (step ∷ place) → (same_step other step && leads_into path place) ≡ true
    tells h =
        let e : other ∷ path ≡ step ∷ place ++ h.0 = h.1 in
        let same : other ≡ step = cc in
        let below : path ≡ place ++ h.0 = cc in
        rw ((same_step_Decides other step).1 same) (rest.1 (h.0, below))

pub leads_Decides : (path place : List At) → Decides (leads_into path place) (LeadsInto path place)
leads_Decides path [] = (λ h. (path, refl), λ h. refl)
leads_Decides [] (step ∷ place) = (λ h. absurd (false≢true h), λ h. absurd (let e = h.1 in cc))
leads_Decides (other ∷ path) (step ∷ place) = further other step path place (leads_Decides path place)

some_not_none : {A : Type 0} (a : A) (o : Option A) → o ≡ Some a → o ≡ None → ⊥
some_not_none a o e h = absurd (cc)

-- what has a part is not gone when the part is changed
with_part_stands : (step : At) (new root inner : Datum) → part step root ≡ Some inner → with_part step new root ≡ Gone → ⊥
with_part_stands (Part n) new (Aggregate variant serial parts) inner e h = absurd (cc)
with_part_stands Inside new (Aggregate variant serial parts) inner e h = absurd (cc)
with_part_stands (Part n) new other inner e h = absurd (cc)
with_part_stands Inside new other inner e h = absurd (cc)

-- what stands above a place of a value that stands is not gone when the place is changed
container_stands : (step : At) (path : List At) (new root old : Datum) → value_at (step ∷ path) root ≡ Some old → replaced (step ∷ path) new root ≡ Gone → ⊥
container_stands step path new root old e h = go (part step root) refl
  where
    go : (o : Option Datum) → part step root ≡ o → ⊥
    go None d = some_not_none old (value_at (step ∷ path) root) e (rw d refl)
    go (Some inner) d = with_part_stands step (replaced path new inner) root inner d (sym (rw d refl) ∙ h)

-- the places that do not lie in a changed one are gone as before
pub same_outside : (place path : List At) (new root : Datum) → (LeadsInto path place → ⊥) →
    (value_at path (replaced place new root) ≡ Some Gone) ↔ (value_at path root ≡ Some Gone)
same_outside place path new root out = go (paths_compare place path)
  where
    unchanged : value_at place root ≡ None → (value_at path (replaced place new root) ≡ Some Gone) ↔ (value_at path root ≡ Some Gone)
    unchanged none = rw (replaced-nowhere place new root none) (λ h. h, λ h. h)

    below_gone : (step : At) (below : List At) → place ≡ path ++ step ∷ below → value_at path root ≡ Some Gone → value_at place root ≡ None
    below_gone step below e h = ap (λ p. value_at p root) e ∙ value_at-below_Gone path below step root h

    above : (step : At) (below : List At) → place ≡ path ++ step ∷ below → (old : Datum) → value_at place root ≡ Some old → (c : Option Datum) → value_at path root ≡ c →
        value_at path (replaced place new root) ≡ Some Gone → value_at path root ≡ Some Gone
    above step below e old stands None d h =
        absurd (some_not_none old (value_at place root) stands (ap (λ p. value_at p root) e ∙ value_at-append path (step ∷ below) root ∙ rw d refl))
    above step below e old stands (Some c) d h =
        let inner : value_at (step ∷ below) c ≡ Some old = sym (value_at-below path (step ∷ below) root c d) ∙ sym (ap (λ p. value_at p root) e) ∙ stands in
        let now : Some (replaced (step ∷ below) new c) ≡ Some Gone = sym (value_at-replaced_below path (step ∷ below) new root c d) ∙ sym (ap (λ p. value_at path (replaced p new root)) e) ∙ h in
        absurd (container_stands step below new c old inner (cc))

    go : ((below : List At) × (path ≡ place ++ below)) ⊎ (((below : List At) × (place ≡ path ++ below)) ⊎ AreApart place path) →
        (value_at path (replaced place new root) ≡ Some Gone) ↔ (value_at path root ≡ Some Gone)
    go (inl leads) = absurd (out leads)
    go (inr (inl ([], e))) = absurd (out ([], sym (append-nil path) ∙ sym e ∙ sym (append-nil place)))
    go (inr (inl (step ∷ below, e))) =
        (λ h. at_change (none_or_some (value_at place root)) h, λ h. (unchanged (below_gone step below e h)).1 h)
      where
        at_change : (value_at place root ≡ None) ⊎ ((old : Datum) × (value_at place root ≡ Some old)) → value_at path (replaced place new root) ≡ Some Gone → value_at path root ≡ Some Gone
        at_change (inl none) h = (unchanged none).0 h
        at_change (inr (old, stands)) h = above step below e old stands (value_at path root) refl h
    go (inr (inr apart)) = rw (value_at-replaced_apart place path new root apart) (λ h. h, λ h. h)

-- nothing is gone in a whole value
pub none_gone : (root : Datum) → IsWhole root → GoneMarks root []
none_gone root whole path = (λ c. absurd c, λ h. absurd ((IsWhole-iff_no_gone root).0 whole path h))

-- Which paths are marked after some were removed or one was added.

filtered_kept : (test : List At → Bool) (p : List At) (kept : List (List At)) (path : List At) (b : Bool) → test p ≡ b → test path ≡ true →
    (IsMarked kept path → IsMarked (cond b (p ∷ kept) kept) path) × (p ≡ path → IsMarked (cond b (p ∷ kept) kept) path)
filtered_kept test p kept path true e h = (λ m. inr m, λ d. inl d)
filtered_kept test p kept path false e h = (λ m. m, λ d. absurd (true≢false (sym h ∙ ap test (sym d) ∙ e)))

marked_kept : (test : List At → Bool) (places : List (List At)) (path : List At) → test path ≡ true → IsMarked places path → IsMarked (filter test places) path
marked_kept test [] path h m = m
marked_kept test (p ∷ places) path h (inl d) = (filtered_kept test p (filter test places) path (test p) refl h).1 d
marked_kept test (p ∷ places) path h (inr m) = (filtered_kept test p (filter test places) path (test p) refl h).0 (marked_kept test places path h m)

before_one : (test : List At → Bool) (p : List At) (places kept : List (List At)) (path : List At) → (IsMarked kept path → IsMarked places path × (test path ≡ true)) →
    (b : Bool) → test p ≡ b → IsMarked (cond b (p ∷ kept) kept) path → (IsMarked (p ∷ places) path) × (test path ≡ true)
before_one test p places kept path ih true e (inl d) = (inl d, ap test (sym d) ∙ e)
before_one test p places kept path ih true e (inr m) = (inr (ih m).0, (ih m).1)
before_one test p places kept path ih false e m = (inr (ih m).0, (ih m).1)

marked_before : (test : List At → Bool) (places : List (List At)) (path : List At) → IsMarked (filter test places) path → IsMarked places path × (test path ≡ true)
marked_before test [] path m = absurd m
marked_before test (p ∷ places) path m = before_one test p places (filter test places) path (marked_before test places path) (test p) refl m

marked_more : (places : List (List At)) (added path : List At) → IsMarked places path → IsMarked (places ++ added ∷ []) path
marked_more [] added path m = absurd m
marked_more (p ∷ places) added path (inl d) = inl d
marked_more (p ∷ places) added path (inr m) = inr (marked_more places added path m)

marked_last : (places : List (List At)) (added : List At) → IsMarked (places ++ added ∷ []) added
marked_last [] added = inl refl
marked_last (p ∷ places) added = inr (marked_last places added)

added_later : (p : List At) (places : List (List At)) (added path : List At) → IsMarked places path ⊎ (added ≡ path) → IsMarked (p ∷ places) path ⊎ (added ≡ path)
added_later p places added path (inl m) = inl (inr m)
added_later p places added path (inr d) = inr d

marked_added : (places : List (List At)) (added path : List At) → IsMarked (places ++ added ∷ []) path → IsMarked places path ⊎ (added ≡ path)
marked_added [] added path (inl d) = inr d
marked_added [] added path (inr m) = absurd m
marked_added (p ∷ places) added path (inl d) = inl (inl d)
marked_added (p ∷ places) added path (inr m) = added_later p places added path (marked_added places added path m)

abbrev Found : (List At → Bool) → List (List At) → Type 0
Found test places = (path : List At) × IsMarked places path × (test path ≡ true)

found_one : (test : List At → Bool) (p : List At) (places : List (List At)) → (list_any test places ≡ true → Found test places) →
    (b : Bool) → test p ≡ b → (b || list_any test places) ≡ true → Found test (p ∷ places)
found_one test p places ih true e h = (p, inl refl, e)
found_one test p places ih false e h = ((ih h).0, inr (ih h).1, (ih h).2)

marked_found : (test : List At → Bool) (places : List (List At)) → list_any test places ≡ true → Found test places
marked_found test [] h = absurd (false≢true h)
marked_found test (p ∷ places) h = found_one test p places (marked_found test places) (test p) refl h

found_there : (test : List At → Bool) (p : List At) (places : List (List At)) (path : List At) → test path ≡ true → (IsMarked places path → list_any test places ≡ true) →
    (b : Bool) → test p ≡ b → IsMarked (p ∷ places) path → (b || list_any test places) ≡ true
found_there test p places path h ih true e m = refl
found_there test p places path h ih false e (inl d) = absurd (true≢false (sym h ∙ ap test (sym d) ∙ e))
found_there test p places path h ih false e (inr m) = ih m

found_marked : (test : List At → Bool) (places : List (List At)) (path : List At) → IsMarked places path → test path ≡ true → list_any test places ≡ true
found_marked test [] path m h = absurd m
found_marked test (p ∷ places) path m h = found_there test p places path h (λ k. found_marked test places path k h) (test p) refl m

-- a place is whole where no mark leads to it or into it
pub whole_by_marks : (root inner : Datum) (places : List (List At)) (place : List At) → GoneMarks root places → value_at place root ≡ Some inner →
    not (list_any (λ path. leads_into path place) places) ≡ is_whole inner
whole_by_marks root inner places place marks stands = go (list_any (λ path. leads_into path place) places) refl (is_whole inner) refl
  where
    go : (b : Bool) → list_any (λ path. leads_into path place) places ≡ b → (c : Bool) → is_whole inner ≡ c → not b ≡ c
    go true e false d = refl
    go false e true d = refl
    go true e true d =
        let found = marked_found (λ path. leads_into path place) places e in
        let leads = (leads_Decides found.0 place).0 found.2 in
        let gone : value_at leads.0 inner ≡ Some Gone = sym (value_at-below place leads.0 root inner stands) ∙ ap (λ p. value_at p root) (sym leads.1) ∙ (marks found.0).0 found.1 in
        absurd ((IsWhole-iff_no_gone inner).0 ((is_whole-iff_IsWhole inner).0 d) leads.0 gone)
    go false e false d =
        absurd (true≢false (sym ((is_whole-iff_IsWhole inner).1 ((IsWhole-iff_no_gone inner).1 none)) ∙ d))
      where
        none : (path : List At) → value_at path inner ≡ Some Gone → ⊥
        none path h =
            true≢false (sym (found_marked (λ p. leads_into p place) places (place ++ path) ((marks (place ++ path)).1 (value_at-below place path root inner stands ∙ h)) ((leads_Decides (place ++ path) place).1 (path, refl))) ∙ e)

outside_of : (counts : Bool) (place path : List At) → is_outside counts place path ≡ true → (LeadsInto path place → ⊥) ⊎ ((counts ≡ false) × (length path ≡ length place))
outside_of counts place path h = go (leads_into path place) refl counts refl (length path == length place) refl
  where
    go : (b : Bool) → leads_into path place ≡ b → (c : Bool) → counts ≡ c → (e : Bool) → (length path == length place) ≡ e → (LeadsInto path place → ⊥) ⊎ ((counts ≡ false) × (length path ≡ length place))
    go false l c d e k = inl (λ leads. true≢false (sym ((leads_Decides path place).1 leads) ∙ l))
    go true l false d true k = inr (d, (Decides-eqb (length path) (length place)).0 k)
    go true l true d e k = absurd (let i : is_outside counts place path ≡ false = rw (l, d) refl in false≢true (sym i ∙ h))
    go true l false d false k = absurd (let i : is_outside counts place path ≡ false = rw (l, d, k) refl in false≢true (sym i ∙ h))

outside_leads_not : (counts : Bool) (place path : List At) → (LeadsInto path place → ⊥) → is_outside counts place path ≡ true
outside_leads_not counts place path out = go (leads_into path place) refl
  where
    go : (b : Bool) → leads_into path place ≡ b → is_outside counts place path ≡ true
    go true l = absurd (out ((leads_Decides path place).0 l))
    go false l = rw l refl

leads_or_not : (path place : List At) → LeadsInto path place ⊎ (LeadsInto path place → ⊥)
leads_or_not path place = go (leads_into path place) refl
  where
    go : (b : Bool) → leads_into path place ≡ b → LeadsInto path place ⊎ (LeadsInto path place → ⊥)
    go true l = inl ((leads_Decides path place).0 l)
    go false l = inr (λ leads. true≢false (sym ((leads_Decides path place).1 leads) ∙ l))

-- within a place nothing is gone of a whole value that was put there; where there is no such place, nothing stands
nothing_gone_within : (root new : Datum) (place below : List At) → IsWhole new → value_at (place ++ below) (replaced place new root) ≡ Some Gone → ⊥
nothing_gone_within root new place below whole h = go (none_or_some (value_at place root))
  where
    go : (value_at place root ≡ None) ⊎ ((old : Datum) × (value_at place root ≡ Some old)) → ⊥
    go (inl none) =
        some_not_none Gone (value_at (place ++ below) root) (sym (ap (value_at (place ++ below)) (replaced-nowhere place new root none)) ∙ h)
        (value_at-append place below root ∙ rw none refl)
    go (inr (old, stands)) = (IsWhole-iff_no_gone new).0 whole below (sym (value_at-replaced_above place below new root old stands) ∙ h)

-- the marks after a whole value was put at a place
pub marks_put : (root new : Datum) (places : List (List At)) (place : List At) → IsWhole new → GoneMarks root places →
    GoneMarks (replaced place new root) (filter (is_outside true place) places)
marks_put root new places place whole marks path = (told, tells)
  where
    told : IsMarked (filter (is_outside true place) places) path → value_at path (replaced place new root) ≡ Some Gone
    told m = go (outside_of true place path (marked_before (is_outside true place) places path m).1)
      where
        go : (LeadsInto path place → ⊥) ⊎ ((true ≡ false) × (length path ≡ length place)) → value_at path (replaced place new root) ≡ Some Gone
        go (inl out) = (same_outside place path new root out).1 ((marks path).0 (marked_before (is_outside true place) places path m).0)
        go (inr never) = absurd (true≢false never.0)

    tells : value_at path (replaced place new root) ≡ Some Gone → IsMarked (filter (is_outside true place) places) path
    tells h = go (leads_or_not path place)
      where
        go : LeadsInto path place ⊎ (LeadsInto path place → ⊥) → IsMarked (filter (is_outside true place) places) path
        go (inl leads) = absurd (nothing_gone_within root new place leads.0 whole (ap (λ p. value_at p (replaced place new root)) (sym leads.1) ∙ h))
        go (inr out) = marked_kept (is_outside true place) places path (outside_leads_not true place path out) ((marks path).1 ((same_outside place path new root out).0 h))

same_by_length : (path place : List At) → LeadsInto path place → length path ≡ length place → place ≡ path
same_by_length path place ([], e) h = sym (append-nil place) ∙ sym e
same_by_length path place (step ∷ below, e) h = absurd (let k = ap length e in let l = length-append place (step ∷ below) in omega arith)

-- the marks after what stood at a place was taken
pub marks_taken : (root old : Datum) (places : List (List At)) (place : List At) → value_at place root ≡ Some old → GoneMarks root places →
    GoneMarks (replaced place Gone root) (filter (is_outside false place) (places ++ place ∷ []))
marks_taken root old places place stands marks path = (told, tells)
  where
    told : IsMarked (filter (is_outside false place) (places ++ place ∷ [])) path → value_at path (replaced place Gone root) ≡ Some Gone
    told m = go (outside_of false place path outside) (marked_added places place path before) (leads_or_not path place)
      where
        before : IsMarked (places ++ place ∷ []) path
        before = (marked_before (is_outside false place) (places ++ place ∷ []) path m).0

        outside : is_outside false place path ≡ true
        outside = (marked_before (is_outside false place) (places ++ place ∷ []) path m).1

        at_place : place ≡ path → value_at path (replaced place Gone root) ≡ Some Gone
        at_place e = ap (λ p. value_at p (replaced place Gone root)) (sym e) ∙ value_at-replaced place Gone root old stands

        go : (LeadsInto path place → ⊥) ⊎ ((false ≡ false) × (length path ≡ length place)) → IsMarked places path ⊎ (place ≡ path) → LeadsInto path place ⊎ (LeadsInto path place → ⊥) →
            value_at path (replaced place Gone root) ≡ Some Gone
        go s (inr e) d = at_place e
        go (inl out) (inl m) d = (same_outside place path Gone root out).1 ((marks path).0 m)
        go (inr k) (inl m) (inr out) = (same_outside place path Gone root out).1 ((marks path).0 m)
        go (inr k) (inl m) (inl leads) = at_place (same_by_length path place leads k.1)

    tells : value_at path (replaced place Gone root) ≡ Some Gone → IsMarked (filter (is_outside false place) (places ++ place ∷ [])) path
    tells h = go (leads_or_not path place)
      where
        itself : is_outside false place place ≡ true
        itself = rw ((leads_Decides place place).1 ([], sym (append-nil place)), (Decides-eqb (length place) (length place)).1 refl) refl

        go : LeadsInto path place ⊎ (LeadsInto path place → ⊥) → IsMarked (filter (is_outside false place) (places ++ place ∷ [])) path
        go (inr out) =
            marked_kept (is_outside false place) (places ++ place ∷ []) path (outside_leads_not false place path out)
            (marked_more places place path ((marks path).1 ((same_outside place path Gone root out).0 h)))
        go (inl ([], e)) =
            subst (IsMarked (filter (is_outside false place) (places ++ place ∷ []))) (sym (append-nil place) ∙ sym e)
            (marked_kept (is_outside false place) (places ++ place ∷ []) place itself (marked_last places place))
        go (inl (step ∷ below, e)) =
            absurd (some_not_none Gone (value_at (place ++ step ∷ below) (replaced place Gone root)) (ap (λ p. value_at p (replaced place Gone root)) (sym e) ∙ h)
            (value_at-below_Gone place below step (replaced place Gone root) (value_at-replaced place Gone root old stands)))

-- what was read somewhere stands there
pub stands_or_not : (read : Option Value) (root : Datum) (place : List At) → option_map datum_of read ≡ value_at place root → is_some read ≡ true →
    (old : Datum) × (value_at place root ≡ Some old)
stands_or_not None root place e h = absurd (false≢true h)
stands_or_not (Some value) root place e h = (datum_of value, sym e)

datum_of_nothing : datum_of nothing ≡ Gone
datum_of_nothing = ap datum_of (sym rolls-Gone) ∙ fold-roll-Value Datum datum_of_layer Value-F.Gone

root_alone : (path : List At) → IsMarked ([] ∷ []) path ↔ (value_at path Gone ≡ Some Gone)
root_alone [] = (λ m. refl, λ h. inl refl)
root_alone (step ∷ path) = (told step, tells step)
  where
    told : (step : At) → IsMarked ([] ∷ []) (step ∷ path) → value_at (step ∷ path) Gone ≡ Some Gone
    told step (inl e) = absurd (cc)
    told step (inr m) = absurd m

    tells : (step : At) → value_at (step ∷ path) Gone ≡ Some Gone → IsMarked ([] ∷ []) (step ∷ path)
    tells (Part n) h = absurd (cc)
    tells Inside h = absurd (cc)

-- of what is gone the whole is the one place that is
pub all_gone : (places : List (List At)) → places ≡ [] ∷ [] → GoneMarks (datum_of nothing) places
all_gone places e = subst (λ root. GoneMarks root places) (sym datum_of_nothing) (subst (GoneMarks Gone) (sym e) root_alone)

-- a value put in what is gone is lost, but for one in place of the whole
pub put_in_gone : (place : List At) (value : Datum) → (length place == 0) ≡ false → replaced place value Gone ≡ Gone
put_in_gone [] value h = absurd (true≢false h)
put_in_gone (Part n ∷ place) value h = refl
put_in_gone (Inside ∷ place) value h = refl

pub put_whole : (place : List At) (value root : Datum) → (length place == 0) ≡ true → replaced place value root ≡ value
put_whole [] value root h = refl
put_whole (step ∷ place) value root h = absurd (let k : suc (length place) ≡ 0 = (Decides-eqb (suc (length place)) 0).0 h in omega arith)
