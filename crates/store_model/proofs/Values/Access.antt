-- The laws of places: what stands at a path after something was put at another.
use Rattle.std.proofs.Common.{◌≡◌, ◌≢◌, ◌⊎◌, inl, inr, List, [], ◌∷◌, ◌++◌, Option, Some, None, refl, sym, ap, ◌∙◌}
use Rattle.std.proofs.lemmas.Bool.Decides.{eqb_tells}
use Rattle.std.specs.Option.{option_and_then, option_map_or}
use Rattle.store_model.specs.declared.address.At.{At}
use Rattle.store_model.specs.declared.address.At.TheVariants.{Part, Inside}
use Rattle.store_model.specs.Values.Datum.{Datum, Gone}
use Rattle.store_model.specs.Values.Access.{part, with_part, value_at, replaced, IsCutOff, AreApart}
use Rattle.store_model.proofs.Values.OnePart.{part-with_part, with_part-part, with_part-with_part, part-with_part_other, with_part-swap}

-- an option is none or some
pub none_or_some : {A : Type 0} (option : Option A) → (option ≡ None) ⊎ ((value : A) × (option ≡ Some value))
none_or_some None = inl refl
none_or_some (Some value) = inr (value, refl)

-- a path walked by its first step
pub value_at-step : (step : At) (path : List At) (root inner : Datum) → part step root ≡ Some inner → value_at (step ∷ path) root ≡ value_at path inner
value_at-step step path root inner is_part = ap (option_and_then (value_at path)) is_part

pub value_at-no_step : (step : At) (path : List At) (root : Datum) → part step root ≡ None → value_at (step ∷ path) root ≡ None
value_at-no_step step path root is_part = ap (option_and_then (value_at path)) is_part

pub replaced-step : (step : At) (path : List At) (new root inner : Datum) → part step root ≡ Some inner → replaced (step ∷ path) new root ≡ with_part step (replaced path new inner) root
replaced-step step path new root inner is_part = ap (λ o. option_map_or (λ x. with_part step (replaced path new x) root) o root) is_part

pub replaced-no_step : (step : At) (path : List At) (new root : Datum) → part step root ≡ None → replaced (step ∷ path) new root ≡ root
replaced-no_step step path new root is_part = ap (λ o. option_map_or (λ x. with_part step (replaced path new x) root) o root) is_part

-- a change below one step, read by that step
pub part-replaced : (step : At) (path : List At) (new root inner : Datum) → part step root ≡ Some inner → part step (replaced (step ∷ path) new root) ≡ Some (replaced path new inner)
part-replaced step path new root inner is_part =
    ap (part step) (replaced-step step path new root inner is_part) ∙ part-with_part step (replaced path new inner) inner root is_part

-- a path may be walked in two pieces
pub value_at-append : (above below : List At) (root : Datum) → value_at (above ++ below) root ≡ option_and_then (value_at below) (value_at above root)
value_at-append [] below root = refl
value_at-append (step ∷ above) below root =
    elim (part step root) as (λ o. option_and_then (value_at (above ++ below)) o ≡ option_and_then (value_at below) (option_and_then (value_at above) o))
    [ None ↦ refl | Some inner ↦ value_at-append above below inner ]

-- from where something stands the path goes on
pub value_at-below : (above below : List At) (root inner : Datum) → value_at above root ≡ Some inner → value_at (above ++ below) root ≡ value_at below inner
value_at-below above below root inner h = value_at-append above below root ∙ ap (option_and_then (value_at below)) h

-- where nothing stands, nothing changes
pub replaced-nowhere : (path : List At) (new root : Datum) → value_at path root ≡ None → replaced path new root ≡ root
replaced-nowhere [] new root h = absurd (cc)
replaced-nowhere (step ∷ path) new root h =
    elim (none_or_some (part step root)) [
      | inl none ↦ replaced-no_step step path new root none
      | inr some ↦ (
          let inner = replaced-nowhere path new some.0 (sym (value_at-step step path root some.0 some.1) ∙ h) in
          replaced-step step path new root some.0 some.1 ∙ ap (λ x. with_part step x root) inner ∙ with_part-part step some.0 root some.1
          )
    ]

-- of two values put in one place the later stays
pub replaced-replaced : (path : List At) (new later root : Datum) → replaced path later (replaced path new root) ≡ replaced path later root
replaced-replaced [] new later root = refl
replaced-replaced (step ∷ path) new later root =
    elim (none_or_some (part step root)) [
      | inl none ↦ ap (replaced (step ∷ path) later) (replaced-no_step step path new root none)
      | inr some ↦ (
          let first = replaced-step step path new root some.0 some.1 in
          let again = replaced-step step path later (replaced (step ∷ path) new root) (replaced path new some.0) (part-replaced step path new root some.0 some.1) in
          again ∙ ap (λ x. with_part step x (replaced (step ∷ path) new root)) (replaced-replaced path new later some.0) ∙ ap (with_part step (replaced path later some.0)) first
          ∙ with_part-with_part step (replaced path new some.0) (replaced path later some.0) root ∙ sym (replaced-step step path later root some.0 some.1)
          )
    ]

-- a change below a place is a change of what stands there
pub replaced-append : (path below : List At) (new root old : Datum) → value_at path root ≡ Some old → replaced (path ++ below) new root ≡ replaced path (replaced below new old) root
replaced-append [] below new root old h = ap (replaced below new) (let e : root ≡ old = cc in e)
replaced-append (step ∷ path) below new root old h =
    elim (none_or_some (part step root)) [
      | inl none ↦ absurd (let e : Some old ≡ None = sym h ∙ value_at-no_step step path root none in cc)
      | inr some ↦ (
          let inner = replaced-append path below new some.0 old (sym (value_at-step step path root some.0 some.1) ∙ h) in
          replaced-step step (path ++ below) new root some.0 some.1 ∙ ap (λ x. with_part step x root) inner ∙ sym (replaced-step step path (replaced below new old) root some.0 some.1)
          )
    ]

-- what was put stands at its place
pub value_at-replaced : (path : List At) (new root old : Datum) → value_at path root ≡ Some old → value_at path (replaced path new root) ≡ Some new
value_at-replaced [] new root old h = refl
value_at-replaced (step ∷ path) new root old h =
    elim (none_or_some (part step root)) [
      | inl none ↦ absurd (let e : Some old ≡ None = sym h ∙ value_at-no_step step path root none in cc)
      | inr some ↦ (
          let inner = value_at-replaced path new some.0 old (sym (value_at-step step path root some.0 some.1) ∙ h) in
          value_at-step step path (replaced (step ∷ path) new root) (replaced path new some.0) (part-replaced step path new root some.0 some.1) ∙ inner
          )
    ]

-- below the place stand the parts of what was put
pub value_at-replaced_above : (path below : List At) (new root old : Datum) → value_at path root ≡ Some old → value_at (path ++ below) (replaced path new root) ≡ value_at below new
value_at-replaced_above path below new root old h = value_at-below path below (replaced path new root) new (value_at-replaced path new root old h)

-- what is gone has no parts
pub part-Gone : (step : At) → part step Gone ≡ None
part-Gone (Part number) = refl
part-Gone Inside = refl

-- below a place that is gone nothing stands
pub value_at-below_Gone : (path below : List At) (step : At) (root : Datum) → value_at path root ≡ Some Gone → value_at (path ++ step ∷ below) root ≡ None
value_at-below_Gone path below step root h = value_at-below path (step ∷ below) root Gone h ∙ value_at-no_step step below Gone (part-Gone step)

-- above the place stand the containers with what was put in them
pub value_at-replaced_below : (path below : List At) (new root old : Datum) → value_at path root ≡ Some old → value_at path (replaced (path ++ below) new root) ≡ Some (replaced below new old)
value_at-replaced_below path below new root old h =
    ap (value_at path) (replaced-append path below new root old h) ∙ value_at-replaced path (replaced below new old) root old h

-- what stood in a place, put there again, changes nothing
pub replaced-value_at : (path : List At) (root old : Datum) → value_at path root ≡ Some old → replaced path old root ≡ root
replaced-value_at [] root old h = let e : old ≡ root = cc in e
replaced-value_at (step ∷ path) root old h =
    elim (none_or_some (part step root)) [
      | inl none ↦ absurd (let e : Some old ≡ None = sym h ∙ value_at-no_step step path root none in cc)
      | inr some ↦ (
          let inner = replaced-value_at path some.0 old (sym (value_at-step step path root some.0 some.1) ∙ h) in
          replaced-step step path old root some.0 some.1 ∙ ap (λ x. with_part step x root) inner ∙ with_part-part step some.0 root some.1
          )
    ]

-- what was taken or replaced, put back, gives the value as it was
pub replaced_back : (path : List At) (new root old : Datum) → value_at path root ≡ Some old → replaced path old (replaced path new root) ≡ root
replaced_back path new root old h = replaced-replaced path new old root ∙ replaced-value_at path root old h

-- what is put in a container does away with what was put in a part of it
pub replaced-replaced_below : (path below : List At) (new later root : Datum) → replaced path later (replaced (path ++ below) new root) ≡ replaced path later root
replaced-replaced_below path below new later root =
    elim (none_or_some (value_at path root)) [
      | inl none ↦ ap (replaced path later) (replaced-nowhere (path ++ below) new root (value_at-append path below root ∙ ap (option_and_then (value_at below)) none))
      | inr some ↦ ap (replaced path later) (replaced-append path below new root some.0 some.1) ∙ replaced-replaced path (replaced below new some.0) later root
    ]

-- two paths that take different steps from the end of a common one
value_at-replaced_fork : (above : List At) (step other : At) (below other_below : List At) (new root : Datum) → step ≢ other →
    value_at (above ++ other ∷ other_below) (replaced (above ++ step ∷ below) new root) ≡ value_at (above ++ other ∷ other_below) root
value_at-replaced_fork [] step other below other_below new root differ =
    elim (none_or_some (part step root)) [
      | inl none ↦ ap (value_at (other ∷ other_below)) (replaced-no_step step below new root none)
      | inr some ↦ ap (value_at (other ∷ other_below)) (replaced-step step below new root some.0 some.1)
          ∙ ap (option_and_then (value_at other_below)) (part-with_part_other step other (replaced below new some.0) root differ)
    ]
value_at-replaced_fork (first ∷ above) step other below other_below new root differ =
    elim (none_or_some (part first root)) [
      | inl none ↦ ap (value_at (first ∷ above ++ other ∷ other_below)) (replaced-no_step first (above ++ step ∷ below) new root none)
      | inr some ↦ (
          let changed = replaced (first ∷ above ++ step ∷ below) new root in
          value_at-step first (above ++ other ∷ other_below) changed (replaced (above ++ step ∷ below) new some.0) (part-replaced first (above ++ step ∷ below) new root some.0 some.1)
          ∙ value_at-replaced_fork above step other below other_below new some.0 differ ∙ sym (value_at-step first (above ++ other ∷ other_below) root some.0 some.1)
          )
    ]

-- apart from the place everything stands as before
pub value_at-replaced_apart : (path other : List At) (new root : Datum) → AreApart path other → value_at other (replaced path new root) ≡ value_at other root
value_at-replaced_apart path other new root apart =
    ap (λ p. value_at other (replaced p new root)) apart.one_is ∙ ap (λ p. value_at p (replaced (apart.above ++ apart.one_step ∷ apart.one_below) new root)) apart.other_is
    ∙ value_at-replaced_fork apart.above apart.one_step apart.other_step apart.one_below apart.other_below new root apart.differ ∙ sym (ap (λ p. value_at p root) apart.other_is)

replaced_fork-swap : (above : List At) (step other : At) (below other_below : List At) (new another root : Datum) → step ≢ other →
    replaced (above ++ step ∷ below) new (replaced (above ++ other ∷ other_below) another root) ≡ replaced (above ++ other ∷ other_below) another (replaced (above ++ step ∷ below) new root)
replaced_fork-swap [] step other below other_below new another root differ =
    let apart : other ≢ step = λ e. differ (sym e) in
    elim (none_or_some (part step root)) [
      | inl none ↦ (
          let changed = replaced (other ∷ other_below) another root in
          let stays = value_at-replaced_fork [] other step other_below [] another root apart in
          let still_none : part step changed ≡ None = step_none step changed root stays none in
          replaced-no_step step below new changed still_none ∙ sym (ap (replaced (other ∷ other_below) another) (replaced-no_step step below new root none))
          )
      | inr some ↦ elim (none_or_some (part other root)) [
        | inl none ↦ (
            let changed = replaced (step ∷ below) new root in
            let stays = value_at-replaced_fork [] step other below [] new root differ in
            let still_none : part other changed ≡ None = step_none other changed root stays none in
            ap (replaced (step ∷ below) new) (replaced-no_step other other_below another root none) ∙ sym (replaced-no_step other other_below another changed still_none)
            )
        | inr same ↦ (
            let one = replaced below new some.0 in
            let two = replaced other_below another same.0 in
            let first = replaced-step step below new root some.0 some.1 in
            let second = replaced-step other other_below another root same.0 same.1 in
            let after_second = replaced-step step below new (with_part other two root) some.0 (part-with_part_other other step two root apart ∙ some.1) in
            let after_first = replaced-step other other_below another (with_part step one root) same.0 (part-with_part_other step other one root differ ∙ same.1) in
            ap (replaced (step ∷ below) new) second ∙ after_second ∙ with_part-swap step other one two root differ ∙ sym after_first ∙ sym (ap (replaced (other ∷ other_below) another) first)
            )
      ]
    ]
  where
    step_none : (step : At) (changed root : Datum) → value_at (step ∷ []) changed ≡ value_at (step ∷ []) root → part step root ≡ None → part step changed ≡ None
    step_none step changed root stays none =
        elim (none_or_some (part step changed)) [
          | inl still ↦ still
          | inr some ↦ absurd (let e : Some some.0 ≡ None = sym (value_at-step step [] changed some.0 some.1) ∙ stays ∙ value_at-no_step step [] root none in cc)
        ]
replaced_fork-swap (first ∷ above) step other below other_below new another root differ =
    let one_path = above ++ step ∷ below in
    let other_path = above ++ other ∷ other_below in
    elim (none_or_some (part first root)) [
      | inl none ↦ (
          let one = replaced-no_step first one_path new root none in
          let two = replaced-no_step first other_path another root none in
          ap (replaced (first ∷ one_path) new) two ∙ one ∙ sym (ap (replaced (first ∷ other_path) another) one ∙ two)
          )
      | inr some ↦ (
          let x = some.0 in
          let one = replaced-step first one_path new root x some.1 in
          let two = replaced-step first other_path another root x some.1 in
          let one_again = replaced-step first one_path new (replaced (first ∷ other_path) another root) (replaced other_path another x) (part-replaced first other_path another root x some.1) in
          let two_again = replaced-step first other_path another (replaced (first ∷ one_path) new root) (replaced one_path new x) (part-replaced first one_path new root x some.1) in
          let left = replaced one_path new (replaced other_path another x) in
          let right = replaced other_path another (replaced one_path new x) in
          one_again ∙ ap (with_part first left) two ∙ with_part-with_part first (replaced other_path another x) left root ∙ ap (λ y. with_part first y root) (replaced_fork-swap above step other below other_below new another x differ)
          ∙ sym (two_again ∙ ap (with_part first right) one ∙ with_part-with_part first (replaced one_path new x) right root)
          )
    ]

-- at places that are apart the order does not matter
pub replaced-swap : (path other : List At) (new another root : Datum) → AreApart path other → replaced path new (replaced other another root) ≡ replaced other another (replaced path new root)
replaced-swap path other new another root apart =
    let fork = replaced_fork-swap apart.above apart.one_step apart.other_step apart.one_below apart.other_below new another root apart.differ in
    ap (λ p. replaced p new (replaced other another root)) apart.one_is ∙ ap (λ p. replaced (apart.above ++ apart.one_step ∷ apart.one_below) new (replaced p another root)) apart.other_is ∙ fork
    ∙ sym (ap (λ p. replaced other another (replaced p new root)) apart.one_is ∙ ap (λ p. replaced p another (replaced (apart.above ++ apart.one_step ∷ apart.one_below) new root)) apart.other_is)

-- nothing stands at a path exactly where a container on it is gone or has no such part
pub IsCutOff-from_none : (path : List At) (root : Datum) → value_at path root ≡ None → IsCutOff path root
IsCutOff-from_none [] root h = absurd (cc)
IsCutOff-from_none (step ∷ path) root h =
    elim (none_or_some (part step root)) [
      | inl none ↦ record { above = []; step = step; below = path; container = root; path_is = refl; container_is = refl; lacks = none }
      | inr some ↦ (
          let inner = IsCutOff-from_none path some.0 (sym (value_at-step step path root some.0 some.1) ∙ h) in
          record {
            above = step ∷ inner.above;
            step = inner.step;
            below = inner.below;
            container = inner.container;
            path_is = ap (λ p. step ∷ p) inner.path_is;
            container_is = value_at-step step inner.above root some.0 some.1 ∙ inner.container_is;
            lacks = inner.lacks;
          }
          )
    ]

pub none_from-IsCutOff : (path : List At) (root : Datum) → IsCutOff path root → value_at path root ≡ None
none_from-IsCutOff path root cut =
    ap (λ p. value_at p root) cut.path_is ∙ value_at-below cut.above (cut.step ∷ cut.below) root cut.container cut.container_is ∙ value_at-no_step cut.step cut.below cut.container cut.lacks

-- where something stands, no container is gone or lacks a part
pub not_cut_off : (path : List At) (root inner : Datum) → value_at path root ≡ Some inner → IsCutOff path root → ⊥
not_cut_off path root inner h cut = let e : Some inner ≡ None = sym h ∙ none_from-IsCutOff path root cut in cc

-- two steps are the same, or they differ
pub same_step_or_not : (step other : At) → (step ≡ other) ⊎ (step ≢ other)
same_step_or_not (Part number) (Part other) =
    elim (eqb_tells number other) [ inl same ↦ inl (ap Part same.1) | inr not ↦ inr (λ e. not.1 (let n : number ≡ other = cc in n)) ]
same_step_or_not (Part number) Inside = inr (λ e. cc)
same_step_or_not Inside (Part other) = inr (λ e. cc)
same_step_or_not Inside Inside = inl refl

-- of two paths one goes on from the end of the other, or they are apart
pub paths_compare : (one other : List At) → ((below : List At) × (other ≡ one ++ below)) ⊎ (((below : List At) × (one ≡ other ++ below)) ⊎ AreApart one other)
paths_compare [] other = inl (other, refl)
paths_compare (step ∷ one) [] = inr (inl (step ∷ one, refl))
paths_compare (step ∷ one) (next ∷ other) =
    elim (same_step_or_not step next) [
      | inl same ↦ elim (paths_compare one other) [
        | inl on ↦ inl (on.0, ap (λ s. s ∷ other) (sym same) ∙ ap (λ p. step ∷ p) on.1)
        | inr back ↦ elim back [
          | inl on ↦ inr (inl (on.0, ap (λ s. s ∷ one) same ∙ ap (λ p. next ∷ p) on.1))
          | inr apart ↦ inr (inr record {
            above = step ∷ apart.above;
            one_step = apart.one_step;
            one_below = apart.one_below;
            other_step = apart.other_step;
            other_below = apart.other_below;
            one_is = ap (λ p. step ∷ p) apart.one_is;
            other_is = ap (λ s. s ∷ other) (sym same) ∙ ap (λ p. step ∷ p) apart.other_is;
            differ = apart.differ;
          })
        ]
      ]
      | inr differ ↦ inr (inr record {
        above = [];
        one_step = step;
        one_below = one;
        other_step = next;
        other_below = other;
        one_is = refl;
        other_is = refl;
        differ = differ;
      })
    ]
