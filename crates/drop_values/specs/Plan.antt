-- How what remains of a place is dropped (the rustc development guide, "Drop elaboration"): not at all, as a whole, by
-- the flag of its own part, or in parts, each by a plan of its own. And which values a plan fits.
use Rattle.std.specs.Prelude.{◌≡◌, ◌≢◌, ◌⊎◌, ℕ, suc, true, false, [], Option, Some, None}
use Rattle.mir_ty.specs.declared.ty.TyId.{TyId}
use Rattle.mir_ty.specs.ItemTable.{ItemTable}
use Rattle.store_model.specs.Values.Datum.{Datum, Data, Gone, Number, Truth, UnitValue, Aggregate, Box, Address, no_part, a_part}
use Rattle.store_model.specs.Concrete.Drops.{drop_impl, still_of}
use Rattle.store_model.specs.Concrete.Location.{DynamicType, OfType, concrete_ty, type_of_field, type_in_box}
use Rattle.store_model.specs.Values.Wholeness.{serials}
use Rattle.drop_values.specs.Typed.{IsFull}

mutual
  pub data Plan : Type 0 where
    -- nothing numbered stands there on any path
    Nothing : Plan
    -- all of it stands there: one drop
    Entire : Plan
    -- its own part stands there where the flag is set
    ByFlag : (flag : ℕ) (plan : Plan) → Plan
    -- the parts in order, where its own part stands there; where it does not, no part stands there
    InParts : (parts : Plans) → Plan
    -- the content, and then the box is freed, where the flag is set, if there is one
    OfBox : (guard : Option ℕ) (inside : Plan) → Plan
    -- the parts of the variant that stands there
    ByVariant : (cases : Cases) → Plan

  pub data Plans : Type 0 where
    no_plan : Plans
    a_plan : (plan : Plan) (rest : Plans) → Plans

  pub data Cases : Type 0 where
    no_case : Cases
    a_case : (variant : ℕ) (parts : Plans) (rest : Cases) → Cases

abbrev pub IfFound : Option DynamicType → (DynamicType → Type 0) → Type 0
IfFound None P = Unit {0}
IfFound (Some found) P = P found

module _ (items : ItemTable) where
  -- no value in it is a box or has a `Drop` body
  abbrev mutual
    pub Quiet : Datum → DynamicType → Type 0
    Quiet Gone found = Unit {0}
    Quiet (Number number) found = Unit {0}
    Quiet (Truth truth) found = Unit {0}
    Quiet UnitValue found = Unit {0}
    Quiet (Aggregate variant serial parts) found = (drop_impl items (concrete_ty items found) ≡ None)
        × QuietParts parts (λ n. type_of_field items variant n (concrete_ty items found)) 0
    Quiet (Box serial impl_no inside) found = ⊥
    Quiet (Address address) found = Unit {0}

    pub QuietParts : Data → (ℕ → Option DynamicType) → ℕ → Type 0
    QuietParts no_part found_at n = Unit {0}
    QuietParts (a_part first rest) found_at n = IfFound (found_at n) (Quiet first) × QuietParts rest found_at (suc n)

  -- a value without a number and a `Drop` body of its own, that is taken apart
  pub record TakenApart (d : Datum) (found : DynamicType) (variant : ℕ) (parts : Data) : Type 0 where
    pub id : TyId
    pub found_is : found ≡ OfType id
    pub no_body : drop_impl items (concrete_ty items found) ≡ None
    pub value_is : d ≡ Aggregate variant None parts

  -- a box and what its content is found as, which may be a trait object
  pub record BoxAround (d : Datum) (found : DynamicType) (inside : Datum) (content : DynamicType) : Type 0 where
    pub id : TyId
    pub serial : ℕ
    pub impl_no : Option ℕ
    pub found_is : found ≡ OfType id
    pub value_is : d ≡ Box serial impl_no inside
    pub content_is : type_in_box impl_no (concrete_ty items found) ≡ Some content
    pub sure : still_of items content content ≡ true

  module _ (IsFlag : ℕ → Type 0) (flag_holds : ℕ → Datum) where
    -- a guard lets through what it guards, or keeps it out
    abbrev pub Open : Option ℕ → Type 0
    Open None = Unit {0}
    Open (Some flag) = IsFlag flag × (flag_holds flag ≡ Truth true)

    abbrev pub Shut : Option ℕ → Type 0
    Shut None = ⊥
    Shut (Some flag) = IsFlag flag × (flag_holds flag ≡ Truth false)

    -- nothing is dropped by a plan: all its flags are false
    abbrev mutual
      pub Idle : Plan → Type 0
      Idle Nothing = Unit {0}
      Idle Entire = ⊥
      Idle (ByFlag flag plan) = Shut (Some flag)
      Idle (InParts plans) = AllIdle plans
      Idle (OfBox guard plan) = Shut guard × Idle plan
      Idle (ByVariant cases) = ⊥

      pub AllIdle : Plans → Type 0
      AllIdle no_plan = Unit {0}
      AllIdle (a_plan plan plans) = Idle plan × AllIdle plans

    -- a plan fits a value, where the flags hold this
    abbrev mutual
      pub Fits : Plan → Datum → DynamicType → Type 0
      Fits Nothing d found = (serials d ≡ []) × Quiet d found
      Fits Entire d found = IsFull items found d
      Fits (ByFlag flag plan) d found = IsFlag flag × (((flag_holds flag ≡ Truth true) × Fits plan d found)
          ⊎ ((flag_holds flag ≡ Truth false) × (d ≡ Gone)))
      Fits (InParts plans) d found = ((variant : ℕ) × (parts : Data) × TakenApart d found variant parts
          × FitsAll plans parts (λ n. type_of_field items variant n (concrete_ty items found)) 0)
          ⊎ ((d ≡ Gone) × AllIdle plans)
      Fits (OfBox guard plan) d found = ((inside : Datum) × (content : DynamicType) × BoxAround d found inside content
          × Fits plan inside content × Open guard) ⊎ ((d ≡ Gone) × Shut guard × Idle plan)
      Fits (ByVariant cases) d found = (variant : ℕ) × (parts : Data) × TakenApart d found variant parts
          × FitsCase cases variant parts (λ n. type_of_field items variant n (concrete_ty items found))

      pub FitsAll : Plans → Data → (ℕ → Option DynamicType) → ℕ → Type 0
      FitsAll no_plan no_part found_at n = Unit {0}
      FitsAll no_plan (a_part first rest) found_at n = ⊥
      FitsAll (a_plan plan plans) no_part found_at n = ⊥
      FitsAll (a_plan plan plans) (a_part first rest) found_at n = IfFound (found_at n) (Fits plan first)
          × FitsAll plans rest found_at (suc n)

      pub FitsCase : Cases → ℕ → Data → (ℕ → Option DynamicType) → Type 0
      FitsCase no_case variant parts found_at = ⊥
      FitsCase (a_case v plans rest) variant parts found_at = ((v ≡ variant) × FitsAll plans parts found_at 0)
          ⊎ ((v ≢ variant) × FitsCase rest variant parts found_at)
