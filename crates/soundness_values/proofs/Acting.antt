-- Actions of a checked run: each whose tests hold follows that of a free run. It takes no choice where it cannot
-- panic, and else 0 where it goes on and 1 where it panics.
use Rattle.std.proofs.Common.{◌≡◌, ℕ, ℤ, Bool, true, false, List, [], ◌∷◌, Option, Some, None, refl, ap, sym, ◌∙◌, subst}
use Rattle.std.specs.Prelude.{slice_get, option_and_then}
use Rattle.std.specs.Option.{option_map_or}
use Rattle.std.proofs.lemmas.Bool.{false≢true}
use Rattle.std.proofs.lemmas.Bool.Decides.{Decides-eqb}
use Rattle.mir_base.specs.declared.int_kind.IntKind.{IntKind}
use Rattle.mir_ty.specs.declared.ty.Ty.{Ty}
use Rattle.mir_ty.specs.declared.ty.TyId.{TyId}
use Rattle.mir_ty.specs.ItemTable.{ItemTable, type_at}
use Rattle.store_model.proofs.Effects.Following.{Relation}
use Rattle.store_model.specs.declared.address.Addr.{Addr}
use Rattle.store_model.specs.Values.Datum.{Datum, Number, Truth, UnitValue}
use Rattle.store_model.specs.Effects.{EffectSite, Operand, Halt, Stuck, Unreachable, Out, Go, Unwind, Halts, on_go, halting_if}
use Rattle.store_model.specs.Abstract.Effects as free
use Rattle.store_model.specs.Abstract.Effects.{AbstractState, operand_used, operands_used}
use Rattle.store_model.specs.Abstract.Presence.{Presence, is_present}
use Rattle.store_model.specs.Places.Place.{place_ty}
use Rattle.store_model.specs.Places.TypeForms.{same_id, is_never, is_bool, is_int, int_kind}
use Rattle.store_model.specs.Concrete.Effects as values
use Rattle.store_model.specs.Concrete.Effects.{or_stuck, evaluate_operand}
use Rattle.store_model.specs.Concrete.Location.{Setting, OfType}
use Rattle.store_model.specs.Concrete.State.{State, Activation}
use Rattle.soundness_values.proofs.Doing.{FollowsOut, out_after}
use Rattle.soundness_values.specs.Typed.{number_fits}
use Rattle.soundness_values.proofs.Fits.{Fits}
use Rattle.soundness_values.proofs.Forms.{truth_of, number_of}
use Rattle.soundness_values.proofs.Facts.{Facts}
use Rattle.soundness_values.proofs.Dropped.{feeding}
use Rattle.soundness_values.proofs.Known.{Target}
use Rattle.soundness_values.proofs.Running.{Passed, Runs}
use Rattle.soundness_values.proofs.Checks.{ty_of, is_of, form_of, takes_well, after_operand}
use Rattle.soundness_values.proofs.Taking.{first, rel, ValueOf, of_copied, of_moved, of_number, of_truth, of_unit, operand_follows}

-- what halts where something holds, after one outcome
halting_after : {W : Type 0} (b : Bool) (halt : Halt) (o : Out W) (next : W → Out W) →
    halting_if b halt (on_go o next) ≡ on_go o (λ w. halting_if b halt (next w))
halting_after b halt (Go w) next = refl
halting_after true halt (Unwind w) next = refl
halting_after false halt (Unwind w) next = refl
halting_after true halt (Halts h w) next = refl
halting_after false halt (Halts h w) next = refl

halting_stuck : {A : Type 0} (b : Bool) (o : Option A) (next : A → Out State) (w0 : State) →
    halting_if b Stuck (or_stuck o next w0) ≡ or_stuck o (λ a. halting_if b Stuck (next a)) w0
halting_stuck true None next w0 = refl
halting_stuck false None next w0 = refl
halting_stuck b (Some a) next w0 = refl

module _ (setting : Setting) (number : ℕ) (targets : List Target) (uniques : List Addr) (base : State)
    (is_target : ℕ → Bool) (passed : Passed setting number targets uniques base is_target) where
  abbrev items : ItemTable
  items = setting.items

  abbrev local_ty : ℕ → Option TyId
  local_ty key = setting.local_ty number key

  abbrev R : State → List (ℕ × Presence) → Facts → Type 0
  R = Runs setting number targets uniques base is_target

  abbrev rels : Facts → Relation State AbstractState
  rels = rel setting number targets uniques base is_target passed

  abbrev Value : Operand → Datum → Type 0
  Value = ValueOf setting number targets uniques base is_target passed

  -- ---- what values are

  pub some_same : {A : Type 0} {a b : A} → Some a ≡ Some b → a ≡ b
  some_same x = cc

  pub same_ids : (a b : TyId) → same_id a b ≡ true → a ≡ b
  same_ids a b h = let same : a.0 ≡ b.0 = (Decides-eqb a.0 b.0).0 h in ap (λ n. record { 0 = n }) same

  place_is : (id : TyId) (o : Option TyId) (end : TyId) → o ≡ Some end → option_map_or (same_id id) o false ≡ true →
      id ≡ end
  place_is id o end e h = same_ids id end (subst (λ x. option_map_or (same_id id) x false ≡ true) e h)

  pub int_is : (kind : IntKind) (o : Option Ty) → is_int kind o ≡ true → o ≡ Some (Ty.Int kind)
  int_is kind None h = absurd (false≢true h)
  int_is IntKind.I32 (Some (Ty.Int IntKind.I32)) h = refl
  int_is IntKind.I64 (Some (Ty.Int IntKind.I64)) h = refl
  int_is IntKind.U32 (Some (Ty.Int IntKind.U32)) h = refl
  int_is IntKind.U64 (Some (Ty.Int IntKind.U64)) h = refl
  int_is IntKind.Usize (Some (Ty.Int IntKind.Usize)) h = refl
  int_is IntKind.I32 (Some (Ty.Int IntKind.I64)) h = absurd (false≢true h)
  int_is IntKind.I32 (Some (Ty.Int IntKind.U32)) h = absurd (false≢true h)
  int_is IntKind.I32 (Some (Ty.Int IntKind.U64)) h = absurd (false≢true h)
  int_is IntKind.I32 (Some (Ty.Int IntKind.Usize)) h = absurd (false≢true h)
  int_is IntKind.I64 (Some (Ty.Int IntKind.I32)) h = absurd (false≢true h)
  int_is IntKind.I64 (Some (Ty.Int IntKind.U32)) h = absurd (false≢true h)
  int_is IntKind.I64 (Some (Ty.Int IntKind.U64)) h = absurd (false≢true h)
  int_is IntKind.I64 (Some (Ty.Int IntKind.Usize)) h = absurd (false≢true h)
  int_is IntKind.U32 (Some (Ty.Int IntKind.I32)) h = absurd (false≢true h)
  int_is IntKind.U32 (Some (Ty.Int IntKind.I64)) h = absurd (false≢true h)
  int_is IntKind.U32 (Some (Ty.Int IntKind.U64)) h = absurd (false≢true h)
  int_is IntKind.U32 (Some (Ty.Int IntKind.Usize)) h = absurd (false≢true h)
  int_is IntKind.U64 (Some (Ty.Int IntKind.I32)) h = absurd (false≢true h)
  int_is IntKind.U64 (Some (Ty.Int IntKind.I64)) h = absurd (false≢true h)
  int_is IntKind.U64 (Some (Ty.Int IntKind.U32)) h = absurd (false≢true h)
  int_is IntKind.U64 (Some (Ty.Int IntKind.Usize)) h = absurd (false≢true h)
  int_is IntKind.Usize (Some (Ty.Int IntKind.I32)) h = absurd (false≢true h)
  int_is IntKind.Usize (Some (Ty.Int IntKind.I64)) h = absurd (false≢true h)
  int_is IntKind.Usize (Some (Ty.Int IntKind.U32)) h = absurd (false≢true h)
  int_is IntKind.Usize (Some (Ty.Int IntKind.U64)) h = absurd (false≢true h)
  int_is kind (Some Ty.Bool) h = absurd (not_int kind h)
    where
      not_int : (kind : IntKind) → is_int kind (Some Ty.Bool) ≡ true → ⊥
      not_int kind h = false≢true h
  int_is kind (Some other) h = absurd (false≢true h)

  number_fits_in : (value : ℤ) (kind : IntKind) (id : TyId) → is_int kind (type_at items id) ≡ true →
      number_fits kind value ≡ true → Fits items (OfType id) is_present (Number value)
  number_fits_in value kind id h k = (refl, (kind, ap int_kind (int_is kind (type_at items id) h), k))

  -- a value of an operand that is of a type
  pub value_is : (operand : Operand) (d : Datum) (id : TyId) → Value operand d →
      is_of items local_ty is_target operand id ≡ true → Fits items (OfType id) is_present d
  value_is _ _ id (of_copied site end d e k) h = subst (λ i. Fits items (OfType i) is_present d)
      (sym (place_is id _ end e h)) k
  value_is _ _ id (of_moved site end d e k) h = subst (λ i. Fits items (OfType i) is_present d)
      (sym (place_is id _ end e h)) k
  value_is _ _ id (of_number value kind k) h = number_fits_in value kind id
      (first (is_int kind (type_at items id)) _ h) k
  value_is _ _ id (of_truth value) h = (refl, h)
  value_is _ _ id of_unit h = (refl, h)

  -- by the form of its type
  pub data Formed (ty : Ty) (d : Datum) : Type 0 where
    formed : (id : TyId) → type_at items id ≡ Some ty → Fits items (OfType id) is_present d → Formed ty d
    a_number : (value : ℤ) (kind : IntKind) → ty ≡ Ty.Int kind → d ≡ Number value → number_fits kind value ≡ true →
        Formed ty d
    a_truth : (value : Bool) → ty ≡ Ty.Bool → d ≡ Truth value → Formed ty d
    a_unit : ty ≡ Ty.Unit → d ≡ UnitValue → Formed ty d

  pub value_form : (operand : Operand) (d : Datum) (ty : Ty) → Value operand d →
      form_of items local_ty is_target operand ≡ Some ty → Formed ty d
  value_form _ _ ty (of_copied site end d e k) h = formed end (sym (ap (option_and_then (type_at items)) e) ∙ h) k
  value_form _ _ ty (of_moved site end d e k) h = formed end (sym (ap (option_and_then (type_at items)) e) ∙ h) k
  value_form _ _ ty (of_number value kind k) h = a_number value kind (sym (some_same h)) refl k
  value_form _ _ ty (of_truth value) h = a_truth value (sym (some_same h)) refl
  value_form _ _ ty of_unit h = a_unit (sym (some_same h)) refl

  -- a truth value, and a number
  pub truth_value : (d : Datum) → Formed Ty.Bool d → (truth : Bool) × (d ≡ Truth truth)
  truth_value d (formed id e k) = truth_of items d (OfType id) is_present e refl k
  truth_value d (a_number value kind e is fit) = absurd (let never : ⊥ = cc in never)
  truth_value d (a_truth value e is) = (value, is)
  truth_value d (a_unit e is) = absurd (let never : ⊥ = cc in never)

  pub number_value : (d : Datum) (kind : IntKind) → Formed (Ty.Int kind) d →
      (value : ℤ) × ((d ≡ Number value) × (number_fits kind value ≡ true))
  number_value d kind (formed id e k) =
      let n = number_of items d (OfType id) is_present kind e refl k in
      (n.0, (n.1, fits_number n.0 id e (subst (Fits items (OfType id) is_present) n.1 k)))
    where
      fits_number : (value : ℤ) (id : TyId) → type_at items id ≡ Some (Ty.Int kind) →
          Fits items (OfType id) is_present (Number value) → number_fits kind value ≡ true
      fits_number value id e k = subst (λ x. number_fits x value ≡ true) (some_same (sym k.1.1 ∙ ap int_kind e))
          k.1.2
  number_value d kind (a_number value other e is fit) =
      (value, (is, subst (λ x. number_fits x value ≡ true) (int_same (sym e)) fit))
    where
      int_same : Ty.Int other ≡ Ty.Int kind → other ≡ kind
      int_same x = cc
  number_value d kind (a_truth value e is) = absurd (let never : ⊥ = cc in never)
  number_value d kind (a_unit e is) = absurd (let never : ⊥ = cc in never)

  -- the same of a form that is told by a test
  pub bool_is : (o : Option Ty) → is_bool o ≡ true → o ≡ Some Ty.Bool
  bool_is None h = absurd (false≢true h)
  bool_is (Some Ty.Bool) h = refl
  bool_is (Some other) h = absurd (false≢true h)

  pub operand_truth : (operand : Operand) (d : Datum) → Value operand d →
      is_bool (form_of items local_ty is_target operand) ≡ true → (truth : Bool) × (d ≡ Truth truth)
  operand_truth operand d v h =
      truth_value d (value_form operand d Ty.Bool v (bool_is (form_of items local_ty is_target operand) h))

  pub operand_number : (operand : Operand) (d : Datum) (kind : IntKind) → Value operand d →
      is_int kind (form_of items local_ty is_target operand) ≡ true →
      (value : ℤ) × ((d ≡ Number value) × (number_fits kind value ≡ true))
  operand_number operand d kind v h =
      number_value d kind (value_form operand d (Ty.Int kind) v
      (int_is kind (form_of items local_ty is_target operand) h))

  -- ---- actions that store what they make of operands

  module _ (w : State) (cells : List (ℕ × Presence)) (facts : Facts) (runs : R w cells facts) where
    pub concrete_ty_is : (site : EffectSite) → values.ty_of_place setting w site ≡ ty_of items local_ty is_target
        site.place
    concrete_ty_is site =
        ap (λ (l : List Activation). option_and_then (type_at items)
        (place_ty items (λ local. option_and_then (λ body. setting.local_ty body local)
        (option_map_or (λ (a : Activation). Some a.body) (slice_get l 0) None)) site.place)) runs.known.is_there

    -- a store after what comes first, at a place whose type is told by what is stored
    pub stores_after : {A : Type 0} (goal : Facts) (to : EffectSite) (end : TyId) →
        place_ty items local_ty to.place ≡ Some end → (o : Option A) (next : A → Out State)
        (p : List Bool → Out AbstractState) (more : AbstractState → Out AbstractState) (w0 : State) →
        ((b : Bool) → (b ≡ is_never (type_at items end)) →
        FollowsOut (rels goal) tt (or_stuck o (λ a. halting_if b Stuck (next a)) w0)
        (λ t. on_go (p t) (λ u. halting_if b Unreachable (more u)))) →
        FollowsOut (rels goal) tt (halting_if (values.never_at setting w to) Stuck (or_stuck o next w0))
        (λ t. halting_if (free.never_at items local_ty to) Unreachable (on_go (p t) more))
    stores_after goal to end e o next p more w0 f =
        let concrete : values.never_at setting w to ≡ is_never (type_at items end) =
        ap is_never (concrete_ty_is to ∙ ap (option_and_then (type_at items)) e) in
        let abstract_is : free.never_at items local_ty to ≡ is_never (type_at items end) =
        ap (λ x. is_never (option_and_then (type_at items) x)) e in
        subst (λ x. FollowsOut (rels goal) tt x
        (λ t. halting_if (free.never_at items local_ty to) Unreachable (on_go (p t) more)))
        (sym (ap (λ b. halting_if b Stuck (or_stuck o next w0)) concrete
        ∙ halting_stuck (is_never (type_at items end)) o next w0))
        (out_after (rels goal) [] _ (λ rest. ap (λ b. halting_if b Unreachable (on_go (p rest) more)) abstract_is
        ∙ halting_after (is_never (type_at items end)) Unreachable (p rest) more)
        (f (is_never (type_at items end)) refl))

    -- of one operand
    pub one_stores : (goal : Facts) (to : EffectSite) (end : TyId) → place_ty items local_ty to.place ≡ Some end →
        (operand : Operand) → takes_well items local_ty is_target facts operand ≡ true →
        (next : Datum → State → Out State) →
        ((d : Datum) (v : State) (cells' : List (ℕ × Presence)) → Value operand d →
        R v cells' (after_operand items local_ty is_target operand facts) →
        (is_never (type_at items end) ≡ false) × FollowsOut (rels goal) tt (next d v)
        (λ t. free.store items local_ty to (feeding t cells'))) →
        FollowsOut (rels goal) tt
        (halting_if (values.never_at setting w to) Stuck (values.with_operand setting operand w next))
        (λ t. halting_if (free.never_at items local_ty to) Unreachable
        (operands_used items local_ty (operand ∷ []) (free.store items local_ty to) (feeding t cells)))
    one_stores goal to end e operand h next f =
        stores_after goal to end e (evaluate_operand setting operand w) (λ t. next t.0 t.1)
        (λ t. operand_used items local_ty operand (feeding t cells))
        (operands_used items local_ty [] (free.store items local_ty to)) w
        (λ b same. operand_follows setting number targets uniques base is_target passed w cells facts runs goal
        operand w (λ d v. halting_if b Stuck (next d v))
        (λ u. halting_if b Unreachable (free.store items local_ty to u)) h
        (λ d v cells' value run. let c = f d v cells' value run in
        subst (λ x. FollowsOut (rels goal) tt (halting_if x Stuck (next d v))
        (λ t. halting_if x Unreachable (free.store items local_ty to (feeding t cells'))))
        (sym (same ∙ c.0)) c.1))

    -- of two
    pub two_stores : (goal : Facts) (to : EffectSite) (end : TyId) → place_ty items local_ty to.place ≡ Some end →
        is_never (type_at items end) ≡ false → (left right : Operand) →
        takes_well items local_ty is_target facts left ≡ true → takes_well items local_ty is_target
        (after_operand items local_ty is_target left facts) right ≡ true →
        (next : Datum → Datum → State → Out State) (more : AbstractState → Out AbstractState) →
        ((a b : Datum) (v : State) (cells' : List (ℕ × Presence)) → Value left a → Value right b →
        R v cells' (after_operand items local_ty is_target right
        (after_operand items local_ty is_target left facts)) →
        FollowsOut (rels goal) tt (next a b v) (λ t. more (feeding t cells'))) →
        FollowsOut (rels goal) tt
        (halting_if (values.never_at setting w to) Stuck (values.with_two_operands setting left right w next))
        (λ t. halting_if (free.never_at items local_ty to) Unreachable
        (operands_used items local_ty (left ∷ right ∷ []) more (feeding t cells)))
    two_stores goal to end e some left right h k next more f =
        subst (λ b. FollowsOut (rels goal) tt
        (halting_if b Stuck (values.with_two_operands setting left right w next))
        (λ t. halting_if (free.never_at items local_ty to) Unreachable
        (operands_used items local_ty (left ∷ right ∷ []) more (feeding t cells))))
        (sym (ap is_never (concrete_ty_is to ∙ ap (option_and_then (type_at items)) e) ∙ some))
        (out_after (rels goal) [] _
        (λ rest. ap (λ b. halting_if b Unreachable
        (operands_used items local_ty (left ∷ right ∷ []) more (feeding rest cells)))
        (ap (λ x. is_never (option_and_then (type_at items) x)) e ∙ some))
        (operand_follows setting number targets uniques base is_target passed w cells facts runs goal left w
        (λ a v. values.with_operand setting right v (next a)) (operands_used items local_ty (right ∷ []) more) h
        (λ a v cells' value run. operand_follows setting number targets uniques base is_target passed v cells'
        (after_operand items local_ty is_target left facts) run goal right v (next a)
        (operands_used items local_ty [] more) k
        (λ b u cells'' other again. f a b u cells'' value other again))))
