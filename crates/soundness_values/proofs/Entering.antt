-- From the contract of a call to what is known as its body begins: which of its parameters are references, what they
-- name, and that all else is known.
use Rattle.std.proofs.Common.{◌≡◌, ◌≢◌, ℕ, zero, suc, ◌+◌, ◌≤◌, ◌==◌, ◌||◌, Bool, true, false, List, [], ◌∷◌, ◌++◌, length, Option, Some, None, if◌then◌else◌, refl, ap, sym, ◌∙◌, subst, arith}
use Rattle.std.specs.Prelude.{slice_get}
use Rattle.std.specs.List.{range_with_len}
use Rattle.std.proofs.lemmas.Bool.{false≢true}
use Rattle.std.proofs.lemmas.Bool.Decides.{Decides-eqb}
use Rattle.std.proofs.lemmas.Option.{none-some}
use Rattle.mir_base.specs.declared.trace.Event.{Event}
use Rattle.mir_ty.specs.declared.ty.Ty.{Ty}
use Rattle.mir_ty.specs.declared.ty.TyId.{TyId}
use Rattle.mir_ty.specs.ItemTable.{ItemTable, type_at}
use Rattle.store_model.specs.declared.address.Addr.{Addr}
use Rattle.store_model.specs.Values.Datum.{Datum, Address}
use Rattle.store_model.specs.Abstract.Effects.{params_present}
use Rattle.store_model.specs.Abstract.Presence.{is_present}
use Rattle.store_model.specs.Places.Place.{is_reference}
use Rattle.store_model.specs.Concrete.Location.{Setting, OfType}
use Rattle.store_model.specs.Concrete.State.{State, cell}
use Rattle.src_meaning.specs.Programs.{arguments_from}
use Rattle.soundness_values.specs.Frames.{Apart}
use Rattle.soundness_values.proofs.Behind.{names_it}
use Rattle.soundness_values.proofs.Bodies.{begun}
use Rattle.soundness_values.proofs.Contracts.{target_if, targets_of, unique_if, uniques_of, AllAlone, AreWhole, MayRun, all_unique_apart}
use Rattle.soundness_values.proofs.Facts.{Each, no_facts}
use Rattle.soundness_values.proofs.Forms.{address_of}
use Rattle.soundness_values.proofs.Fits.{Fits, whole_if_present}
use Rattle.soundness_values.proofs.Changing.{known_held}
use Rattle.soundness_values.proofs.Known.{Target, StandsFor, Known}
use Rattle.soundness_values.proofs.Running.{Passed, Runs}
use Rattle.soundness_values.proofs.Sealed.{Sealed, sealed_if_whole}
use Rattle.soundness_values.proofs.Starts.{Standing, none_stands, one_stands, known_at_start}

-- ---- lists

pub each_get : {A : Type 0} (holds : A → Type 0) (list : List A) (n : ℕ) (a : A) → slice_get list n ≡ Some a →
    Each holds list → holds a
each_get holds [] n a e h = absurd (none-some a e)
each_get holds (x ∷ list) zero a e h = let same : x ≡ a = cc in subst holds same h.0
each_get holds (x ∷ list) (suc n) a e h = each_get holds list n a e h.1

pub each_from : {A : Type 0} (holds : A → Type 0) (list : List A) →
    ((n : ℕ) (a : A) → slice_get list n ≡ Some a → holds a) → Each holds list
each_from holds [] f = tt
each_from holds (x ∷ list) f = (f 0 x refl, each_from holds list (λ n. f (suc n)))

module _ (items : ItemTable) where
  -- ---- the targets of a call, by the parameters

  -- which parameter a target is
  pub record Param (l : ℕ) (ids : List TyId) (ds : List Datum) (t : Target) : Type 0 where
    pub i : ℕ
    pub id : TyId
    pub is_param : slice_get ids i ≡ Some id
    pub is_value : slice_get ds i ≡ Some (Address t.address)
    pub local_is : t.local ≡ l + i
    pub ty_is : type_at items id ≡ Some (names_it t.unique t.to)

  -- a parameter is a target or none
  data Targeted (id : TyId) (l : ℕ) (d : Datum) : List Target → Type 0 where
    none_there : Targeted id l d []
    one_there : (t : Target) → t.local ≡ l → d ≡ Address t.address → type_at items id ≡ Some (names_it t.unique t.to) →
        Targeted id l d (t ∷ [])

  targeted : (id : TyId) (l : ℕ) (d : Datum) → Targeted id l d (target_if (type_at items id) l d)
  targeted id l d = by (type_at items id) refl d
    where
      by : (o : Option Ty) → type_at items id ≡ o → (d : Datum) → Targeted id l d (target_if o l d)
      by (Some (Ty.Unique to)) e (Address a) = one_there (record { unique = true; local = l; address = a; to = to })
          refl
          refl e
      by (Some (Ty.Shared to)) e (Address a) = one_there (record { unique = false; local = l; address = a; to = to })
          refl refl e
      by None e d = none_there
      by (Some (Ty.Unique to)) e other = none_there
      by (Some (Ty.Shared to)) e other = none_there
      by (Some other) e d = none_there

  later_param : (l : ℕ) (id : TyId) (ids : List TyId) (d : Datum) (ds : List Datum) (t : Target) →
      Param (suc l) ids ds t → Param l (id ∷ ids) (d ∷ ds) t
  later_param l id ids d ds t p = record {
    i = suc p.i;
    id = p.id;
    is_param = p.is_param;
    is_value = p.is_value;
    local_is = p.local_is ∙ (let z : suc l + p.i ≡ l + suc p.i = omega arith in z);
    ty_is = p.ty_is;
  }

  pub target_param : (l : ℕ) (ids : List TyId) (ds : List Datum) (n : ℕ) (t : Target) →
      slice_get (targets_of items l ids ds) n ≡ Some t → Param l ids ds t
  target_param l [] ds n t e = absurd (none-some t e)
  target_param l (id ∷ ids) [] n t e = absurd (none-some t e)
  target_param l (id ∷ ids) (d ∷ ds) n t e = by (target_if (type_at items id) l d) (targeted id l d) n e
      (λ m k. later_param l id ids d ds t (target_param (suc l) ids ds m t k))
    where
      by : (ts : List Target) → Targeted id l d ts → (n : ℕ) → slice_get (ts ++ targets_of items (suc l) ids ds) n
          ≡ Some t → ((m : ℕ) → slice_get (targets_of items (suc l) ids ds) m ≡ Some t → Param l (id ∷ ids) (d ∷ ds) t)
          →
          Param l (id ∷ ids) (d ∷ ds) t
      by _ none_there n e later = later n e
      by _ (one_there u local value ty) (suc n) e later = later n e
      by _ (one_there u local value ty) zero e later =
          let same : u ≡ t = cc in
          subst (Param l (id ∷ ids) (d ∷ ds)) same (record {
            i = 0;
            id = id;
            is_param = refl;
            is_value = ap (λ (x : Datum). Some x) value;
            local_is = local ∙ (let z : l ≡ l + 0 = omega arith in z);
            ty_is = ty;
          })

  -- each has a parameter of its own
  pub one_param : (l : ℕ) (ids : List TyId) (ds : List Datum) (n j : ℕ) (t u : Target) →
      slice_get (targets_of items l ids ds) n ≡ Some t → slice_get (targets_of items l ids ds) j ≡ Some u →
      t.local ≡ u.local → n ≡ j
  one_param l [] ds n j t u e k s = absurd (none-some t e)
  one_param l (id ∷ ids) [] n j t u e k s = absurd (none-some t e)
  one_param l (id ∷ ids) (d ∷ ds) n j t u e k s = by (target_if (type_at items id) l d) (targeted id l d) n j e k
      (λ m i x y. one_param (suc l) ids ds m i t u x y s)
    where
      above : (m : ℕ) (x : Target) → slice_get (targets_of items (suc l) ids ds) m ≡ Some x → suc l ≤ x.local
      above m x z = let p = target_param (suc l) ids ds m x z in
          let local : x.local ≡ suc l + p.i = p.local_is in omega arith

      by : (ts : List Target) → Targeted id l d ts → (n j : ℕ) →
          slice_get (ts ++ targets_of items (suc l) ids ds) n ≡ Some t →
          slice_get (ts ++ targets_of items (suc l) ids ds) j ≡ Some u → ((m i : ℕ) →
          slice_get (targets_of items (suc l) ids ds) m ≡ Some t →
          slice_get (targets_of items (suc l) ids ds) i ≡ Some u → m ≡ i) → n ≡ j
      by _ none_there n j e k later = later n j e k
      by _ (one_there x local value ty) zero zero e k later = refl
      by _ (one_there x local value ty) (suc n) (suc j) e k later = ap suc (later n j e k)
      by _ (one_there x local value ty) zero (suc j) e k later =
          let is : x ≡ t = cc in
          let one : t.local ≡ l = ap (λ (y : Target). y.local) (sym is) ∙ local in
          let more = above j u k in
          let same : t.local ≡ u.local = s in
          absurd (let never : ⊥ = omega arith in never)
      by _ (one_there x local value ty) (suc n) zero e k later =
          let is : x ≡ u = cc in
          let one : u.local ≡ l = ap (λ (y : Target). y.local) (sym is) ∙ local in
          let more = above n t e in
          let same : t.local ≡ u.local = s in
          absurd (let never : ⊥ = omega arith in never)

  -- a parameter that is a reference is a target
  pub record IsTarget (l i : ℕ) (ts : List Target) : Type 0 where
    pub n : ℕ
    pub t : Target
    pub at : slice_get ts n ≡ Some t
    pub local_is : t.local ≡ l + i

  past : (l i : ℕ) (ts rest : List Target) → IsTarget (suc l) i rest → IsTarget l (suc i) (ts ++ rest)
  past l i [] rest k = record {
    n = k.n;
    t = k.t;
    at = k.at;
    local_is = k.local_is ∙ (let z : suc l + i ≡ l + suc i = omega arith in z);
  }
  past l i (x ∷ ts) rest k = let q = past l i ts rest k in
      record { n = suc q.n; t = q.t; at = q.at; local_is = q.local_is }

  named_target : (unique : Bool) (to : TyId) (l : ℕ) (a : Addr) (id : TyId) (rest : List Target) →
      type_at items id ≡ Some (names_it unique to) → IsTarget l 0 (target_if (type_at items id) l (Address a) ++ rest)
  named_target true to l a id rest e = subst (λ o. IsTarget l 0 (target_if o l (Address a) ++ rest)) (sym e) (record {
    n = 0;
    t = record { unique = true; local = l; address = a; to = to };
    at = refl;
    local_is = (let z : l ≡ l + 0 = omega arith in z);
  })
  named_target false to l a id rest e = subst (λ o. IsTarget l 0 (target_if o l (Address a) ++ rest)) (sym e) (record {
    n = 0;
    t = record { unique = false; local = l; address = a; to = to };
    at = refl;
    local_is = (let z : l ≡ l + 0 = omega arith in z);
  })

  -- a reference type names one
  names_some : (o : Option Ty) → is_reference o ≡ true →
      (unique : Bool) × ((to : TyId) × (o ≡ Some (names_it unique to)))
  names_some (Some (Ty.Unique to)) h = (true, (to, refl))
  names_some (Some (Ty.Shared to)) h = (false, (to, refl))
  names_some None h = absurd (false≢true h)
  names_some (Some other) h = absurd (false≢true h)

module _ (setting : Setting) where
  abbrev items_of : ItemTable
  items_of = setting.items

  pub param_target : (l : ℕ) (ids : List TyId) (ds : List Datum) (i : ℕ) (id : TyId) → AreWhole setting ids ds →
      slice_get ids i ≡ Some id → is_reference (type_at items_of id) ≡ true →
      IsTarget items_of l i (targets_of items_of l ids ds)
  param_target l [] ds i id h e k = absurd (none-some id e)
  param_target l (x ∷ ids) [] i id h e k = absurd h
  param_target l (x ∷ ids) (d ∷ ds) zero id h e k =
      let same : x ≡ id = cc in
      let r = names_some items_of (type_at items_of x)
      (subst (λ y. is_reference (type_at items_of y) ≡ true) (sym same) k) in
      let a = address_of items_of d (OfType x) is_present (names_it r.0 r.1.0) r.1.1 (is_ref r.0 r.1.0) refl h.0 in
      subst (λ y. IsTarget items_of l 0 (target_if (type_at items_of x) l y ++ targets_of items_of (suc l) ids ds))
      (sym a.is_it) (named_target items_of r.0 r.1.0 l a.address x (targets_of items_of (suc l) ids ds) r.1.1)
    where
      is_ref : (unique : Bool) (to : TyId) → is_reference (Some (names_it unique to)) ≡ true
      is_ref true to = refl
      is_ref false to = refl
  param_target l (x ∷ ids) (d ∷ ds) (suc i) id h e k =
      past items_of l i (target_if (type_at items_of x) l d) (targets_of items_of (suc l) ids ds)
      (param_target (suc l) ids ds i id h.1 e k)

  pub as_many_args : (ids : List TyId) (ds : List Datum) → AreWhole setting ids ds → length ds ≡ length ids
  as_many_args [] [] h = refl
  as_many_args [] (d ∷ ds) h = absurd h
  as_many_args (id ∷ ids) [] h = absurd h
  as_many_args (id ∷ ids) (d ∷ ds) h = ap suc (as_many_args ids ds h.1)

  pub whole_arg : (ids : List TyId) (ds : List Datum) (i : ℕ) (d : Datum) (id : TyId) → AreWhole setting ids ds →
      slice_get ds i ≡ Some d → slice_get ids i ≡ Some id → Fits items_of (OfType id) is_present d
  whole_arg [] ds i d id h e k = absurd (none-some id k)
  whole_arg (x ∷ ids) [] i d id h e k = absurd h
  whole_arg (x ∷ ids) (y ∷ ds) zero d id h e k =
      let one : x ≡ id = cc in
      let other : y ≡ d = cc in
      subst (λ z. Fits items_of (OfType z) is_present d) one
      (subst (λ z. Fits items_of (OfType x) is_present z) other h.0)
  whole_arg (x ∷ ids) (y ∷ ds) (suc i) d id h e k = whole_arg ids ds i d id h.1 e k

  -- ---- lists of targets

  unique_at : (ts : List Target) (n : ℕ) (t : Target) → slice_get ts n ≡ Some t → t.unique ≡ true →
      (m : ℕ) × (slice_get (uniques_of ts) m ≡ Some t.address)
  unique_at [] n t e u = absurd (none-some t e)
  unique_at (x ∷ ts) zero t e u =
      let same : x ≡ t = cc in (
        0,
        ap (λ b. slice_get (unique_if b x.address (uniques_of ts)) 0) (ap (λ (y : Target). y.unique) same ∙ u)
            ∙ ap (λ (y : Target). Some y.address) same,
      )
  unique_at (x ∷ ts) (suc n) t e u = by x.unique (unique_at ts n t e u)
    where
      by : (b : Bool) → (m : ℕ) × (slice_get (uniques_of ts) m ≡ Some t.address) →
          (m : ℕ) × (slice_get (unique_if b x.address (uniques_of ts)) m ≡ Some t.address)
      by true later = (suc later.0, later.1)
      by false later = later

  or_left : (a b : Bool) → a ≡ true → (a || b) ≡ true
  or_left true b h = refl
  or_left false b h = absurd (false≢true h)

  or_right : (a b : Bool) → b ≡ true → (a || b) ≡ true
  or_right true b h = refl
  or_right false b h = h

  less : (j n : ℕ) → (suc j == suc n) ≡ false → (j == n) ≡ false
  less j n d = by (j == n) refl
    where
      by : (b : Bool) → (j == n) ≡ b → b ≡ false
      by false e = refl
      by true e = absurd (false≢true (sym d ∙ (Decides-eqb (suc j) (suc n)).1 (ap suc ((Decides-eqb j n).0 e))))

  alone_at : (ts : List Target) (n j : ℕ) (t u : Target) → AllAlone ts → slice_get ts n ≡ Some t →
      slice_get ts j ≡ Some u → (j == n) ≡ false → t.unique ≡ true → Apart u.address t.address
  alone_at [] n j t u a e k d h = absurd (none-some t e)
  alone_at (x ∷ ts) zero zero t u a e k d h = absurd (false≢true (sym d))
  alone_at (x ∷ ts) zero (suc j) t u a e k d h =
      let same : x ≡ t = cc in
      let both = each_get (λ (y : Target). (x.unique || y.unique) ≡ true → Apart x.address y.address
      × Apart y.address x.address) ts j u k a.0 in
      subst (λ (y : Target). Apart u.address y.address) same
      (both (or_left x.unique u.unique (ap (λ (y : Target). y.unique) same ∙ h))).1
  alone_at (x ∷ ts) (suc n) zero t u a e k d h =
      let same : x ≡ u = cc in
      let both = each_get (λ (y : Target). (x.unique || y.unique) ≡ true → Apart x.address y.address
      × Apart y.address x.address) ts n t e a.0 in
      subst (λ (y : Target). Apart y.address t.address) same (both (or_right x.unique t.unique h)).0
  alone_at (x ∷ ts) (suc n) (suc j) t u a e k d h = alone_at ts n j t u a.1 e k (less j n d) h

  -- what stands at what is `&mut`
  pub record Stood (w : State) (ts : List Target) : Type 0 where
    pub values : List Datum
    pub standing : Standing setting w (uniques_of ts) values

  pub stood_of : (w : State) (ts : List Target) → Each (λ t. StandsFor setting 0 t w) ts → Stood w ts
  stood_of w [] h = record { values = []; standing = none_stands }
  stood_of w (t ∷ ts) h = let s = by t.unique (stood_of w ts h.1) in record { values = s.0; standing = s.1 }
    where
      by : (b : Bool) → Stood w ts → (values : List Datum) × Standing setting w (unique_if b t.address (uniques_of ts))
          values
      by true later = (
        h.0.standing.value ∷ later.values,
        one_stands t.address (uniques_of ts) later.values h.0.standing h.0.stands later.standing,
      )
      by false later = (later.values, later.standing)

  -- ---- arguments as they are held

  arg_cell : (l : ℕ) (args : List Datum) (i : ℕ) (d : Datum) → slice_get args i ≡ Some d →
      cell (l + i) (arguments_from l args) ≡ d
  arg_cell l [] i d e = absurd (none-some d e)
  arg_cell l (x ∷ args) zero d e =
      ap (λ b. if b then x else cell (l + 0) (arguments_from (suc l) args))
      ((Decides-eqb (l + 0) l).1 (let z : l + 0 ≡ l = omega arith in z)) ∙ (let same : x ≡ d = cc in same)
  arg_cell l (x ∷ args) (suc i) d e =
      ap (λ b. if b then x else cell (l + suc i) (arguments_from (suc l) args)) (other (l + suc i == l) refl)
      ∙ ap (λ k. cell k (arguments_from (suc l) args)) (let z : l + suc i ≡ suc l + i = omega arith in z)
      ∙ arg_cell (suc l) args i d e
    where
      other : (b : Bool) → (l + suc i == l) ≡ b → b ≡ false
      other false k = refl
      other true k = absurd (let same : l + suc i ≡ l = (Decides-eqb (l + suc i) l).0 k in
          let never : ⊥ = omega arith in never)

  args_sealed : (l : ℕ) (ids : List TyId) (ds : List Datum) → AreWhole setting ids ds → (key : ℕ) →
      Sealed (cell key (arguments_from l ds))
  args_sealed l ids [] h key = tt
  args_sealed l [] (d ∷ ds) h key = absurd h
  args_sealed l (id ∷ ids) (d ∷ ds) h key = by (key == l) (args_sealed (suc l) ids ds h.1 key)
    where
      by : (b : Bool) → Sealed (cell key (arguments_from (suc l) ds)) →
          Sealed (if b then d else cell key (arguments_from (suc l) ds))
      by true later = sealed_if_whole d (whole_if_present items_of d (OfType id) is_present refl h.0)
      by false later = later

  some_param : (ids : List TyId) (ds : List Datum) (i : ℕ) (d : Datum) → AreWhole setting ids ds →
      slice_get ds i ≡ Some d → (id : TyId) × (slice_get ids i ≡ Some id)
  some_param ids [] i d h e = absurd (none-some d e)
  some_param [] (x ∷ ds) i d h e = absurd h
  some_param (id ∷ ids) (x ∷ ds) zero d h e = (id, refl)
  some_param (id ∷ ids) (x ∷ ds) (suc i) d h e = some_param ids ds i d h.1 e

  each_numbered : (number : ℕ) (w : State) (t : Target) → StandsFor setting 0 t w → StandsFor setting number t w
  each_numbered number w t s = record {
    standing = s.standing;
    stands = s.stands;
    of_type = s.of_type;
    by_impl = s.by_impl;
    whole = s.whole;
  }

  -- what is known of a body by its head: the types of its parameters and of its result, and which are references
  pub record HeadOf (number : ℕ) (is_target : ℕ → Bool) (params : List TyId) (result : TyId) : Type 0 where
    pub typed : (i : ℕ) (id : TyId) → slice_get params i ≡ Some id → setting.local_ty number (1 + i) ≡ Some id
    pub answer : setting.local_ty number 0 ≡ Some result
    pub references : (i : ℕ) (id : TyId) → slice_get params i ≡ Some id → is_reference (type_at items_of id) ≡ true →
        is_target (1 + i) ≡ true
    pub params_alone : (local : ℕ) → is_target local ≡ true →
        (i : ℕ) × ((id : TyId) × ((local ≡ 1 + i) × ((slice_get params i ≡ Some id)
        × (is_reference (type_at items_of id) ≡ true))))

  module _ (number : ℕ) (is_target : ℕ → Bool) (params : List TyId) (result : TyId)
      (head : HeadOf number is_target params result) (args : List Datum) (w : State)
      (may : MayRun setting params args w) where
    abbrev pub targets : List Target
    targets = targets_of items_of 1 params args

    abbrev pub uniques : List Addr
    uniques = uniques_of targets

    a_reference : (unique : Bool) (to : TyId) → is_reference (Some (names_it unique to)) ≡ true
    a_reference true to = refl
    a_reference false to = refl

    -- what the references of the body name, as they were passed
    pub passed_at : Passed setting number targets uniques w is_target
    passed_at = record {
      apart = all_unique_apart setting targets may.alone;
      position = λ n t e u. unique_at targets n t e u;
      stood = λ n t e. let s = each_get (λ x. StandsFor setting 0 x w) targets n t e may.stands in
          (s.standing, s.stands);
      alone = λ n j t u e k d h. alone_at targets n j t u may.alone e k d h;
      one_local = λ n j t u e k s. one_param items_of 1 params args n j t u e k s;
      is_param = λ n t e. let p = target_param items_of 1 params args n t e in
          subst (λ l. is_target l ≡ true) (sym p.local_is)
          (head.references p.i p.id p.is_param (ap is_reference p.ty_is ∙ a_reference t.unique t.to));
      typed = λ n t e. let p = target_param items_of 1 params args n t e in
          (p.id, (ap (setting.local_ty number) p.local_is ∙ head.typed p.i p.id p.is_param, p.ty_is));
      all = λ local h.
          let p = head.params_alone local h in
          let k = param_target 1 params args p.0 p.1.0 may.whole p.1.1.1.0 p.1.1.1.1 in
          (k.n, (k.t, (k.at, k.local_is ∙ sym p.1.1.0)));
    }

    -- what is known as the body begins
    pub runs_at : (event : Event) (ticks : ℕ) → Runs setting number targets uniques w is_target
        (begun event number args ticks w) (params_present (range_with_len 1 (length args))) no_facts
    runs_at event ticks = record {
      known = start;
      holding = record { bounded = tt; variants = tt; naming = tt };
      sealed = λ key. subst (λ c. Sealed (cell key c))
          (sym (known_held setting number targets uniques w is_target passed_at (begun event number args ticks w)
          (params_present (range_with_len 1 (length args))) start (arguments_from 1 args) w.activations refl).0)
          (args_sealed 1 params args may.whole key);
    }
      where
        some_same : {a b : TyId} → Some a ≡ Some b → a ≡ b
        some_same z = cc

        start : Known setting number targets uniques w (begun event number args ticks w)
            (params_present (range_with_len 1 (length args)))
        start =
            let stood = stood_of w targets may.stands in
            known_at_start setting number targets uniques event args ticks w stood.values
            (all_unique_apart setting targets may.alone) stood.standing
            (λ i arg id e k.
            let q = some_param params args i arg may.whole e in
            let same : q.0 ≡ id = some_same (sym (head.typed i q.0 q.1) ∙ k) in
            subst (λ x. Fits items_of (OfType x) is_present arg) same
            (whole_arg params args i arg q.0 may.whole e q.1))
            (λ n t e. let p = target_param items_of 1 params args n t e in
            ap (λ l. cell l (arguments_from 1 args)) p.local_is ∙ arg_cell 1 args p.i (Address t.address) p.is_value)
            (λ n t e. each_numbered number w t (each_get (λ x. StandsFor setting 0 x w) targets n t e may.stands))
