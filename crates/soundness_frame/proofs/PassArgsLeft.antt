-- What a call asks of its arguments follows from what is known of each where all are made: what the references name,
-- that this leads on and may be used, and that no argument stands in what another names or is an index on the way.
use Rattle.std.proofs.Common.{◌≡◌, ℕ, ◌==◌, ◌&&◌, ◌||◌, not, Bool, true, false, List, [], ◌∷◌, ◌++◌, map, filter, Option, Some, None, if◌then◌else◌, refl, ap, sym, ◌∙◌, subst}
use Rattle.std.specs.Cmp.{first_so, second_so}
use Rattle.std.specs.Cmp.Derive.{both_true}
use Rattle.std.specs.List.{find, list_any}
use Rattle.std.specs.Option.{option_map_or}
use Rattle.std.proofs.lemmas.Bool.{false≢true}
use Rattle.std.proofs.lemmas.Bool.Decides.{Decides-eqb}
use Rattle.std.proofs.lemmas.Option.{none-some}
use Rattle.mir_ty.specs.declared.ty.Ty.{Ty}
use Rattle.mir_ty.specs.declared.ty.TyId.{TyId}
use Rattle.mir_ty.specs.ItemTable.{ItemTable, type_at}
use Rattle.store_model.specs.Abstract.Presence.{Presence}
use Rattle.store_model.specs.Effects as effects
use Rattle.store_model.specs.Effects.{Operand}
use Rattle.store_model.specs.Places.Place.{Place, is_reference, whole_local}
use Rattle.store_model.specs.Places.TypeForms.{same_id}
use Rattle.typing_rules.specs.Accesses.{begin_alike}
use Rattle.soundness_values.proofs.Checks as checks
use Rattle.soundness_values.proofs.Checks.{if_so, listed}
use Rattle.soundness_values.proofs.Facts.{Naming, Facts, takes_index, without}
use Rattle.soundness_values.proofs.NoOverlap.{seen}
use Rattle.soundness_frame.proofs.PassFrameFacts as frame
use Rattle.soundness_frame.proofs.PassFrameFacts.{FactsKept, find_kept, named_by}
use Rattle.soundness_cells.proofs.PassRestCalls.{left_as, left_passes, left_call}
use Rattle.soundness_frame.proofs.PassStillKnown.{Clear, still_sure}
use Rattle.soundness_values.proofs.Running.{sure_place}

find_none : {A : Type 0} (test keep : A → Bool) (list : List A) → find test list ≡ None →
    find test (filter keep list) ≡ None
find_none test keep [] e = refl
find_none {A = A} test keep (a ∷ list) e = by (test a) (keep a) refl e (find_none test keep list)
  where
    by : (b c : Bool) → test a ≡ b → (if b then Some a else find test list) ≡ None →
        (find test list ≡ None → find test (filter keep list) ≡ None) →
        find test (if c then a ∷ filter keep list else filter keep list) ≡ None
    by true c k e later = absurd (none-some a (sym e))
    by false true k e later = ap (λ b. if b then Some a else find test (filter keep list)) k ∙ later e
    by false false k e later = later e

pub found_local : (local : ℕ) (list : List Naming) (n : Naming) → find (λ (x : Naming). x.local == local) list ≡ Some n →
    (n.local == local) ≡ true
found_local local [] n e = absurd (none-some n e)
found_local local (x ∷ list) n e = by (x.local == local) refl e (found_local local list n)
  where
    same : Some x ≡ Some n → x ≡ n
    same k = cc

    by : (b : Bool) → (x.local == local) ≡ b → (if b then Some x else find (λ (y : Naming). y.local == local) list)
        ≡ Some n → (find (λ (y : Naming). y.local == local) list ≡ Some n → (n.local == local) ≡ true) →
        (n.local == local) ≡ true
    by true k f later = subst (λ (y : Naming). (y.local == local) ≡ true) (same f) k
    by false k f later = later f

module _ (items : ItemTable) (local_ty : ℕ → Option TyId) (is_target : ℕ → Bool)
    (own : (l : ℕ) (id : TyId) → local_ty l ≡ Some id → is_reference (type_at items id) ≡ false → is_target l ≡ false)
  where
    abbrev Cells : Type 0
    Cells = List (ℕ × Presence)

    abbrev sure : Facts → Place → Bool
    sure = sure_place items local_ty is_target

    -- an argument in a local, and some of them
    abbrev pub arg : ℕ → ℕ → Operand
    arg at_node local = effects.Moved (record { node = at_node; place = whole_local local })

    abbrev pub args_in : ℕ → List ℕ → List Operand
    args_in at_node locals = map (arg at_node) locals

    -- what one of them names, if it is a reference
    abbrev pub named_of : List (Option Naming) → List Naming
    named_of [] = []
    named_of (o ∷ os) = listed o ++ named_of os

    -- a local is not that of a place, nor an index on the way to it
    abbrev pub Off : ℕ → Naming → Type 0
    Off local n = ((n.place.local == local) ≡ false) × (takes_index local n.place.steps ≡ false)

    abbrev pub OffIfAny : ℕ → Option Naming → Type 0
    OffIfAny local None = Unit {0}
    OffIfAny local (Some n) = Off local n

    -- of one local and of all that is named
    abbrev pub OffAll : ℕ → List (Option Naming) → Type 0
    OffAll local [] = Unit {0}
    OffAll local (o ∷ os) = OffIfAny local o × OffAll local os

    abbrev pub AllOff : List ℕ → List (Option Naming) → Type 0
    AllOff [] os = Unit {0}
    AllOff (l ∷ ls) os = OffAll l os × AllOff ls os

    -- one local and others
    abbrev pub Differs : ℕ → List ℕ → Type 0
    Differs local [] = Unit {0}
    Differs local (l ∷ ls) = ((l == local) ≡ false) × Differs local ls

    abbrev pub Distinct : List ℕ → Type 0
    Distinct [] = Unit {0}
    Distinct (l ∷ ls) = Differs l ls × Distinct ls

    -- each local is known to name this, or nothing
    abbrev pub AllNames : Facts → List ℕ → List (Option Naming) → Type 0
    AllNames facts [] [] = Unit {0}
    AllNames facts (l ∷ ls) (o ∷ os) = (named_by l facts ≡ o) × AllNames facts ls os
    AllNames facts ls os = ⊥

    -- what is asked of a reference of a type
    abbrev pub Asked : Facts → Cells → Bool → TyId → ℕ → Option Naming → Type 0
    Asked facts cells unique to local o = (not (is_target local) ≡ true)
        × (checks.names_well_if_any items local_ty is_target facts cells unique to o ≡ true)

    abbrev pub AskedAs : Facts → Cells → ℕ → Option Naming → Option Ty → Type 0
    AskedAs facts cells local o (Some (Ty.Shared to)) = Asked facts cells false to local o
    AskedAs facts cells local o (Some (Ty.Unique to)) = Asked facts cells true to local o
    AskedAs facts cells local o ty = Unit {0}

    abbrev pub AllAsked : Facts → Cells → List TyId → List ℕ → List (Option Naming) → Type 0
    AllAsked facts cells (id ∷ ids) (l ∷ ls) (o ∷ os) =
        AskedAs facts cells l o (type_at items id) × AllAsked facts cells ids ls os
    AllAsked facts cells ids ls os = Unit {0}

    -- ---- after one argument was taken

    naming_left : (local other : ℕ) (facts : Facts) (o : Option Naming) → (local == other) ≡ false → OffIfAny other o →
        named_by local facts ≡ o → named_by local (without (whole_local other) facts) ≡ o
    naming_left local other facts None d f e = find_none (λ (x : Naming). x.local == local)
        (λ (x : Naming). not (x.local == other) && not (takes_index other x.place.steps)) facts.naming e
    naming_left local other facts (Some n) d f e = find_kept (λ (x : Naming). x.local == local)
        (λ (x : Naming). not (x.local == other) && not (takes_index other x.place.steps)) facts.naming n
        (both_true (ap not (by (n.local == other) refl)) (ap not f.1)) e
      where
        by : (b : Bool) → (n.local == other) ≡ b → b ≡ false
        by false k = refl
        by true k = absurd (false≢true (sym d
            ∙ (Decides-eqb local other).1
            (sym ((Decides-eqb n.local local).0
            (found_local local facts.naming n e))
            ∙ (Decides-eqb n.local other).0 k)))

    all_names_left : (other : ℕ) (facts : Facts) (ls : List ℕ) (os : List (Option Naming)) → Differs other ls →
        OffAll other os → AllNames facts ls os → AllNames (without (whole_local other) facts) ls os
    all_names_left other facts [] [] d f n = tt
    all_names_left other facts [] (o ∷ os) d f n = absurd n
    all_names_left other facts (l ∷ ls) [] d f n = absurd n
    all_names_left other facts (l ∷ ls) (o ∷ os) d f n =
        (naming_left l other facts o d.0 f.0 n.0, all_names_left other facts ls os d.1 f.1 n.1)

    -- only one local is changed, and what is known of references is left aside
    abbrev Only : ℕ → Place → Type 0
    Only other q = q ≡ whole_local other

    abbrev nameless : Facts → Facts
    nameless facts = record facts { naming = [] }

    sure_left : (other : ℕ) (facts : Facts) (place : Place) → (place.local == other) ≡ false →
        takes_index other place.steps ≡ false → sure facts place ≡ true →
        sure (without (whole_local other) facts) place ≡ true
    sure_left other facts place d f h = still_sure (Only other) items local_ty is_target (nameless facts)
        (without (whole_local other) (nameless facts)) kept place clear h
      where
        clear : Clear (Only other) place
        clear = record {
          apart = λ q m. ap (λ b. b && begin_alike (seen place.steps) (seen q.steps))
              (ap (λ (x : Place). place.local == x.local) m ∙ d);
          way = λ q m. ap (λ (x : Place). takes_index x.local place.steps) m ∙ f;
        }

        kept : FactsKept (Only other) (nameless facts) (without (whole_local other) (nameless facts))
        kept = frame.dropped_kept (Only other) items local_ty is_target (whole_local other) (nameless facts)
            (nameless facts) refl (record {
              bounded = λ l count f k. k;
              variants = λ place n f k. k;
              naming = λ l m f g k. k;
              allowed = tt;
            })

    well_left : (other : ℕ) (facts : Facts) (cells : Cells) (unique : Bool) (to : TyId) (o : Option Naming) →
        OffIfAny other o → checks.names_well_if_any items local_ty is_target facts cells unique to o ≡ true →
        checks.names_well_if_any items local_ty is_target (without (whole_local other) facts) cells unique to o ≡ true
    well_left other facts cells unique to None f h = h
    well_left other facts cells unique to (Some n) f h =
        let typed = if_so unique n.unique
        && option_map_or (same_id to) (checks.id_of items local_ty is_target n.place) false in
        let changed = not unique || checks.may_change items local_ty is_target n.place in
        let p = first_so (typed && (sure facts n.place && changed)) _ h in
        let q = second_so typed (sure facts n.place && changed) p in
        both_true (both_true (first_so typed (sure facts n.place && changed) p)
        (both_true (sure_left other facts n.place f.0 f.1 (first_so (sure facts n.place) changed q))
        (second_so (sure facts n.place) changed q)))
        (second_so (typed && (sure facts n.place && changed)) _ h)

    asked_left : (other : ℕ) (facts : Facts) (cells : Cells) (local : ℕ) (o : Option Naming) (ty : Option Ty) →
        OffIfAny other o → AskedAs facts cells local o ty → AskedAs (without (whole_local other) facts) cells local o ty
    asked_left other facts cells local o (Some (Ty.Shared to)) f a =
        (a.0, well_left other facts cells false to o f a.1)
    asked_left other facts cells local o (Some (Ty.Unique to)) f a =
        (a.0, well_left other facts cells true to o f a.1)
    asked_left other facts cells local o None f a = a
    asked_left other facts cells local o (Some ty) f a = tt

    all_asked_left : (other : ℕ) (facts : Facts) (cells : Cells) (ids : List TyId) (ls : List ℕ)
        (os : List (Option Naming)) → OffAll other os → AllAsked facts cells ids ls os →
        AllAsked (without (whole_local other) facts) cells ids ls os
    all_asked_left other facts cells [] ls os f a = tt
    all_asked_left other facts cells (id ∷ ids) [] os f a = tt
    all_asked_left other facts cells (id ∷ ids) (l ∷ ls) [] f a = tt
    all_asked_left other facts cells (id ∷ ids) (l ∷ ls) (o ∷ os) f a = (
      asked_left other facts cells l o (type_at items id) f.0 a.0,
      all_asked_left other facts cells ids ls os f.1 a.1,
    )

    -- ---- where all are taken

    asked_last : (at_node : ℕ) (taken : List ℕ) (facts : Facts) (cells : Cells) (ids : List TyId) (ls : List ℕ)
        (os : List (Option Naming)) → AllOff taken os → AllAsked facts cells ids ls os →
        AllAsked (checks.after_operands items local_ty is_target (args_in at_node taken) facts) cells ids ls os
    asked_last at_node [] facts cells ids ls os f a = a
    asked_last at_node (t ∷ taken) facts cells ids ls os f a =
        asked_last at_node taken (without (whole_local t) facts) cells ids ls os f.1
        (all_asked_left t facts cells ids ls os f.0 a)

    one_left : (at_node : ℕ) (last facts : Facts) (cells : Cells) (local : ℕ) (o : Option Naming) (ty : Option Ty) →
        named_by local facts ≡ o → AskedAs last cells local o ty →
        left_as items local_ty is_target own last facts cells (arg at_node local) ty ≡ true
    one_left at_node last facts cells local o (Some (Ty.Shared to)) n a = both_true a.0
        (ap (checks.names_well_if_any items local_ty is_target last cells false to) n ∙ a.1)
    one_left at_node last facts cells local o (Some (Ty.Unique to)) n a = both_true a.0
        (ap (checks.names_well_if_any items local_ty is_target last cells true to) n ∙ a.1)
    one_left at_node last facts cells local o None n a = refl
    one_left at_node last facts cells local o (Some ty) n a = refl

    passes_left : (at_node : ℕ) (last facts : Facts) (cells : Cells) (ids : List TyId) (ls : List ℕ)
        (os : List (Option Naming)) → Distinct ls → AllOff ls os → AllNames facts ls os →
        AllAsked last cells ids ls os →
        left_passes items local_ty is_target own last facts cells ids (args_in at_node ls) ≡ true
    passes_left at_node last facts cells [] ls os d f n a = refl
    passes_left at_node last facts cells (id ∷ ids) [] os d f n a = refl
    passes_left at_node last facts cells (id ∷ ids) (l ∷ ls) [] d f n a = absurd n
    passes_left at_node last facts cells (id ∷ ids) (l ∷ ls) (o ∷ os) d f n a =
        both_true (one_left at_node last facts cells l o (type_at items id) n.0 a.0)
        (passes_left at_node last (without (whole_local l) facts) cells ids ls os d.1 (later ls f.1)
        (all_names_left l facts ls os d.0 f.0.1 n.1) a.1)
      where
        later : (ls : List ℕ) → AllOff ls (o ∷ os) → AllOff ls os
        later [] f = tt
        later (l ∷ ls) f = (f.0.1, later ls f.1)

    pub named_left : (at_node : ℕ) (facts : Facts) (ls : List ℕ) (os : List (Option Naming)) → Distinct ls →
        AllOff ls os → AllNames facts ls os →
        checks.named_by_all items local_ty is_target facts (args_in at_node ls) ≡ named_of os
    named_left at_node facts [] [] d f n = refl
    named_left at_node facts [] (o ∷ os) d f n = absurd n
    named_left at_node facts (l ∷ ls) [] d f n = absurd n
    named_left at_node facts (l ∷ ls) (o ∷ os) d f n =
        ap (λ x. listed x ++ checks.named_by_all items local_ty is_target (without (whole_local l) facts)
        (args_in at_node ls)) n.0
        ∙ ap (λ x. listed o ++ x) (named_left at_node (without (whole_local l) facts) ls os d.1 (later ls f.1)
        (all_names_left l facts ls os d.0 f.0.1 n.1))
      where
        later : (ls : List ℕ) → AllOff ls (o ∷ os) → AllOff ls os
        later [] f = tt
        later (l ∷ ls) f = (f.0.1, later ls f.1)

    -- no argument is taken out of what is named
    none_from : (at_node local : ℕ) (os : List (Option Naming)) → OffAll local os →
        list_any (checks.takes_from items local_ty is_target (arg at_node local)) (named_of os) ≡ false
    none_from at_node local [] f = refl
    none_from at_node local (None ∷ os) f = none_from at_node local os f.1
    none_from at_node local (Some n ∷ os) f =
        ap (λ b. b || list_any (checks.takes_from items local_ty is_target (arg at_node local)) (named_of os))
        (ap (λ b. b || takes_index local n.place.steps) (turned local n.place.local f.0.0) ∙ f.0.1)
        ∙ none_from at_node local os f.1
      where
        turned : (a b : ℕ) → (b == a) ≡ false → (a == b) ≡ false
        turned a b e = by (a == b) refl
          where
            by : (c : Bool) → (a == b) ≡ c → c ≡ false
            by false k = refl
            by true k = absurd (false≢true (sym e ∙ (Decides-eqb b a).1
                (sym ((Decides-eqb a b).0 k))))

    none_taken_left : (at_node : ℕ) (ls : List ℕ) (os : List (Option Naming)) → AllOff ls os →
        checks.none_taken items local_ty is_target (args_in at_node ls) (named_of os) ≡ true
    none_taken_left at_node [] os f = refl
    none_taken_left at_node (l ∷ ls) os f =
        both_true (ap not (none_from at_node l os f.0)) (none_taken_left at_node ls os f.1)

    -- what a call asks
    pub call_left : (at_node : ℕ) (facts : Facts) (cells : Cells) (ids : List TyId) (ls : List ℕ)
        (os : List (Option Naming)) → Distinct ls → AllOff ls os → AllNames facts ls os →
        AllAsked facts cells ids ls os → checks.all_apart items local_ty is_target (named_of os) ≡ true →
        left_call items local_ty is_target own facts cells ids (args_in at_node ls) ≡ true
    call_left at_node facts cells ids ls os d f n a apart =
        let names = named_left at_node facts ls os d f n in
        both_true (passes_left at_node
        (checks.after_operands items local_ty is_target (args_in at_node ls) facts) facts cells ids ls os d f n
        (asked_last at_node ls facts cells ids ls os f a))
        (subst (λ l. (checks.all_apart items local_ty is_target l
        && checks.none_taken items local_ty is_target (args_in at_node ls) l) ≡ true) (sym names)
        (both_true apart (none_taken_left at_node ls os f)))
