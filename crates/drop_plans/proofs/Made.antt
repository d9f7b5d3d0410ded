-- What the code answers at each turn is what the definition of plans has there.
use Rattle.std.proofs.Common.{◌≡◌, ◌⊎◌, inl, inr, ◌∙◌, ◌∷◌, [], ◌<◌, ℕ, Bool, true, false, not, List, Option, Some, None, Contains, length, map, slice_get, refl, sym, ap}
use Rattle.std.specs.Prelude.{option_map, slice_index_or}
use Rattle.std.proofs.lemmas.List.{get_or-map, length-map}
use Rattle.std.proofs.lemmas.Option.{get_or_from_slice_get, slice_get_within, slice_get-get_or}
use Rattle.bit_rows.specs.Words.{any_both}
use Rattle.mir_ty.specs.declared.ty.Ty.{Ty}
use Rattle.mir_ty.specs.declared.ty.TyId.{TyId}
use Rattle.mir_ty.specs.Facts.{needs_drop, has_drop_impl}
use Rattle.mir_ty.specs.ItemTable.{ItemTable, type_at}
use Rattle.mir_ty.specs.Parts.{parts_of}
use Rattle.store_model.specs.Places.Place.{Place, Step, ToContent, ToPart, is_enum, whole_local}
use Rattle.store_model.specs.Places.TypeForms.{box_content}
use Rattle.cfg_graph.specs.Moves.Gone.{is_at_or_above, below}
use Rattle.init_flow.specs.Moved.{mask_of}
use Rattle.move_paths.specs.Forest.{path_at}
use Rattle.drop_values.specs.Facts.{Tree, at_path, Branches, no_branch, a_branch}
use Rattle.drop_values.specs.Plan as plain
use Rattle.drop_values.specs.Planning as planning
use Rattle.drop_values.specs.Planning.{branch_by}
use Rattle.drop_plans.specs.Plans.{AreTold, IsEnum, facts_of, flag_of, plan_at, inner_at, part_at, below_of, variants_at}
use Rattle.drop_plans.specs.Trees.{IsTreeOf}
use Rattle.drop_plans.specs.declared.planner.Planner.{Planner}
use Rattle.drop_plans.proofs.Sureness.{sure-is}
use Rattle.drop_plans.proofs.Under.{branch-tree, some-branch, no-branch, plan-by}

-- the place of a path is that
pub path-there : (paths : List Place) (path : ℕ) → path < length paths → slice_get paths path ≡ Some (path_at paths path)
path-there paths path within = slice_get-get_or paths path (whole_local 0) within

module _ (at : Planner) (told : AreTold at) (path : ℕ) (place : Place)
    (here : slice_get at.forest.now.paths path ≡ Some place) where
  abbrev paths : List Place
  paths = at.forest.now.paths

  pub within : path < length at.forest.now.paths
  within = slice_get_within paths path place here

  -- the mask of the path
  pub mask-is : slice_index_or at.below.now path [] ≡ map (is_at_or_above place) at.forest.now.paths
  mask-is =
      ap (λ (masks : List (List Bool)). slice_index_or masks path []) told.below
      ∙ get_or-map (mask_of paths) paths path place [] within
      ∙ ap (mask_of paths) (get_or_from_slice_get paths path place place here)

  pub mask-long : length (slice_index_or at.below.now path []) ≡ length at.forest.now.paths
  mask-long = ap length mask-is ∙ length-map paths (is_at_or_above place)

  pub masks-long : length at.below.now ≡ length at.forest.now.paths
  masks-long = ap length told.below ∙ length-map paths (mask_of paths)

  module _ (ty : TyId) (number : ℕ) (under : Branches)
      (is : IsTreeOf at.forest.now.paths place (at_path number under)) where
    same : number ≡ path
    same = told.once number path place is.0 here

    abbrev surely : Bool
    surely = planning.sure at.items.now (facts_of at.facts.now) (flag_of at.flags.now) (at_path number under)

    sure-by : surely ≡ not (any_both (slice_index_or at.below.now path []) at.facts.now.gone)
    sure-by =
        sure-is at.items.now (facts_of at.facts.now) (flag_of at.flags.now) paths told.once told.closed at.facts.now.gone
        (λ k. refl) (at_path number under) place is
        ∙ ap (λ (mask : List Bool). not (any_both mask at.facts.now.gone)) (sym mask-is)

    abbrev by : (needs present sure gone : Bool) → Option ℕ → plain.Plan
    by needs present sure gone flag = planning.decided needs present sure gone flag (inner_at at under ty)

    all : (needs present sure gone : Bool) → needs_drop at.items.now ty ≡ needs →
        slice_index_or at.facts.now.present path false ≡ present → surely ≡ sure →
        slice_index_or at.facts.now.gone path false ≡ gone →
        plan_at at (at_path number under) ty ≡ by needs present sure gone (flag_of at.flags.now path)
    all needs present sure gone n p s g =
        (λ i. by (n i) (slice_index_or at.facts.now.present (same i) false) (s i)
        (slice_index_or at.facts.now.gone (same i) false) (flag_of at.flags.now (same i)))
        ∙ (λ i. by needs (p i) sure (g i) (flag_of at.flags.now path))

    pub unneeded : needs_drop at.items.now ty ≡ false → plain.Nothing ≡ plan_at at (at_path number under) ty
    unneeded n = sym (all false _ _ _ n refl refl refl)

    pub absent : needs_drop at.items.now ty ≡ true → slice_index_or at.facts.now.present path false ≡ false →
        plain.Nothing ≡ plan_at at (at_path number under) ty
    absent n p = sym (all true false _ _ n p refl refl)

    pub entire : needs_drop at.items.now ty ≡ true → slice_index_or at.facts.now.present path false ≡ true →
        any_both (slice_index_or at.below.now path []) at.facts.now.gone ≡ false →
        plain.Entire ≡ plan_at at (at_path number under) ty
    entire n p m = sym (all true true true _ n p (sure-by ∙ ap not m) refl)

    pub by-flag : needs_drop at.items.now ty ≡ true → slice_index_or at.facts.now.present path false ≡ true →
        any_both (slice_index_or at.below.now path []) at.facts.now.gone ≡ true →
        slice_index_or at.facts.now.gone path false ≡ true →
        inner_at at under ty (flag_of at.flags.now path) ≡ plan_at at (at_path number under) ty
    by-flag n p m g = sym (all true true false true n p (sure-by ∙ ap not m) g)

    pub unguarded : needs_drop at.items.now ty ≡ true → slice_index_or at.facts.now.present path false ≡ true →
        any_both (slice_index_or at.below.now path []) at.facts.now.gone ≡ true →
        slice_index_or at.facts.now.gone path false ≡ false →
        inner_at at under ty None ≡ plan_at at (at_path number under) ty
    unguarded n p m g = sym (all true true false false n p (sure-by ∙ ap not m) g)

  -- by the tree that there is
  module _ (ty : TyId) where
    pub sure-tree : (tree : Tree) → IsTreeOf at.forest.now.paths place tree →
        planning.sure at.items.now (facts_of at.facts.now) (flag_of at.flags.now) tree
        ≡ not (any_both (slice_index_or at.below.now path []) at.facts.now.gone)
    sure-tree (at_path number under) is = sure-by ty number under is

    pub unneeded-tree : needs_drop at.items.now ty ≡ false → (tree : Tree) →
        IsTreeOf at.forest.now.paths place tree → plain.Nothing ≡ plan_at at tree ty
    unneeded-tree n (at_path number under) is = unneeded ty number under is n

    pub absent-tree : needs_drop at.items.now ty ≡ true → slice_index_or at.facts.now.present path false ≡ false →
        (tree : Tree) → IsTreeOf at.forest.now.paths place tree → plain.Nothing ≡ plan_at at tree ty
    absent-tree n p (at_path number under) is = absent ty number under is n p

    pub entire-tree : needs_drop at.items.now ty ≡ true → slice_index_or at.facts.now.present path false ≡ true →
        any_both (slice_index_or at.below.now path []) at.facts.now.gone ≡ false →
        (tree : Tree) → IsTreeOf at.forest.now.paths place tree → plain.Entire ≡ plan_at at tree ty
    entire-tree n p m (at_path number under) is = entire ty number under is n p m

    abbrev Inner : plain.Plan → Option ℕ → Type 0
    Inner made guard = (number : ℕ) (under : Branches) → IsTreeOf at.forest.now.paths place (at_path number under) →
        made ≡ inner_at at under ty guard

    pub by-flag-tree : (made : plain.Plan) (guard : Option ℕ) → Inner made guard → guard ≡ flag_of at.flags.now path →
        needs_drop at.items.now ty ≡ true → slice_index_or at.facts.now.present path false ≡ true →
        any_both (slice_index_or at.below.now path []) at.facts.now.gone ≡ true →
        slice_index_or at.facts.now.gone path false ≡ true →
        (tree : Tree) → IsTreeOf at.forest.now.paths place tree → made ≡ plan_at at tree ty
    by-flag-tree made guard planned flag n p m g (at_path number under) is =
        planned number under is ∙ ap (inner_at at under ty) flag ∙ by-flag ty number under is n p m g

    pub unguarded-tree : (made : plain.Plan) → Inner made None →
        needs_drop at.items.now ty ≡ true → slice_index_or at.facts.now.present path false ≡ true →
        any_both (slice_index_or at.below.now path []) at.facts.now.gone ≡ true →
        slice_index_or at.facts.now.gone path false ≡ false →
        (tree : Tree) → IsTreeOf at.forest.now.paths place tree → made ≡ plan_at at tree ty
    unguarded-tree made planned n p m g (at_path number under) is =
        planned number under is ∙ unguarded ty number under is n p m g

  -- the part to which a step leads
  module _ (number : ℕ) (under : Branches) (id ty : TyId) (step : Step) (guard : Option ℕ)
      (is : IsTreeOf at.forest.now.paths place (at_path number under))
      (fits : planning.stepped at.items.now step id ≡ ty) where
    part-by : (o : Option Tree) → branch_by step under ≡ o →
        part_at at under id guard step ty
        ≡ planning.part_plan at.items.now guard ty (option_map (λ tree. plan_at at tree ty) o)
    part-by o e =
        ap (planning.part_plan at.items.now guard ty)
        (plan-by at.items.now (facts_of at.facts.now) (flag_of at.flags.now) step under id
        ∙ (λ i. option_map (λ tree. plan_at at tree (fits i)) (e i)))

    pub part-path : (made : plain.Plan) → Contains at.forest.now.paths (below place (step ∷ [])) →
        ((tree : Tree) → IsTreeOf at.forest.now.paths (below place (step ∷ [])) tree → made ≡ plan_at at tree ty) →
        made ≡ part_at at under id guard step ty
    part-path made has planned =
        let branch = some-branch paths place number under step is has in
        planned branch.0 (branch-tree paths place step branch.0 under is.1 branch.1)
        ∙ sym (part-by (Some branch.0) branch.1)

    pub part-whole : ¬ Contains at.forest.now.paths (below place (step ∷ [])) →
        planning.whole_plan guard (needs_drop at.items.now ty) ≡ part_at at under id guard step ty
    part-whole has_none = sym (part-by None (no-branch paths place number under step is has_none))

-- a value is taken apart by its type
pub apart : (at : Planner) (under : Branches) (id : TyId) (guard : Option ℕ) → (under ≡ no_branch → ⊥) →
    inner_at at under id guard
    ≡ planning.unless_impl at.items.now (facts_of at.facts.now) (flag_of at.flags.now) guard (has_drop_impl at.items.now id)
    (type_at at.items.now id) (below_of at under id)
apart at no_branch id guard branched = absurd (branched refl)
apart at (a_branch step tree rest) id guard branched = refl

pub lowest-whole : (at : Planner) (under : Branches) (id : TyId) (guard : Option ℕ) → under ≡ no_branch →
    inner_at at under id guard ≡ planning.guarded guard plain.Entire
lowest-whole at under id guard none = ap (λ (u : Branches). inner_at at u id guard) none

-- what is no enum and no box is taken apart by its parts
pub by-parts : (items : ItemTable) (guard : Option ℕ) (ty : Ty) (plans : List (Step × plain.Plan)) →
    is_enum items ty ≡ false → box_content (Some ty) ≡ None →
    planning.taken_apart items guard (is_enum items ty) ty plans
    ≡ plain.InParts (planning.part_plans items guard (parts_of items ty 0) ToPart plans 0)
by-parts items guard (Ty.Boxed content) plans no_enum no_box = absurd (cc)
by-parts items guard (Ty.Adt n) plans no_enum no_box =
    ap (λ (b : Bool). planning.taken_apart items guard b (Ty.Adt n) plans) no_enum
by-parts items guard (Ty.Int kind) plans no_enum no_box = refl
by-parts items guard Ty.Bool plans no_enum no_box = refl
by-parts items guard Ty.Unit plans no_enum no_box = refl
by-parts items guard Ty.Never plans no_enum no_box = refl
by-parts items guard (Ty.Tuple parts) plans no_enum no_box = refl
by-parts items guard (Ty.Array element count) plans no_enum no_box = refl
by-parts items guard (Ty.Dyn n) plans no_enum no_box = refl
by-parts items guard (Ty.Shared to) plans no_enum no_box = refl
by-parts items guard (Ty.Unique to) plans no_enum no_box = refl
by-parts items guard (Ty.Closure n) plans no_enum no_box = refl

-- the shapes of types, where there are branches
module _ (at : Planner) (under : Branches) (id : TyId) (guard : Option ℕ) (branched : under ≡ no_branch → ⊥) where
  abbrev parted : Bool → Option Ty → plain.Plan
  parted has ty =
      planning.unless_impl at.items.now (facts_of at.facts.now) (flag_of at.flags.now) guard has ty (below_of at under id)

  unparted : (has : Bool) → parted has None ≡ planning.guarded guard plain.Entire
  unparted true = refl
  unparted false = refl

  pub whole-shape : (has_drop_impl at.items.now id ≡ true) ⊎ (type_at at.items.now id ≡ None) →
      planning.guarded guard plain.Entire ≡ inner_at at under id guard
  whole-shape (inl impl) =
      sym (apart at under id guard branched ∙ ap (λ (b : Bool). parted b (type_at at.items.now id)) impl)
  whole-shape (inr none) =
      sym (apart at under id guard branched ∙ ap (parted (has_drop_impl at.items.now id)) none
      ∙ unparted (has_drop_impl at.items.now id))

  module _ (no_impl : has_drop_impl at.items.now id ≡ false) where
    typed : (ty : Ty) → type_at at.items.now id ≡ Some ty →
        inner_at at under id guard
        ≡ planning.taken_apart at.items.now guard (is_enum at.items.now ty) ty (below_of at under id)
    typed ty is = apart at under id guard branched ∙ (λ i. parted (no_impl i) (is i))

    pub box-shape : (content : TyId) → type_at at.items.now id ≡ Some (Ty.Boxed content) →
        plain.OfBox guard (part_at at under id guard ToContent content) ≡ inner_at at under id guard
    box-shape content is = sym (typed (Ty.Boxed content) is)

    pub parts-shape : (ty : Ty) → type_at at.items.now id ≡ Some ty → is_enum at.items.now ty ≡ false →
        box_content (Some ty) ≡ None →
        plain.InParts (planning.part_plans at.items.now guard (parts_of at.items.now ty 0) ToPart (below_of at under id) 0)
        ≡ inner_at at under id guard
    parts-shape ty is no_enum no_box =
        sym (typed ty is ∙ by-parts at.items.now guard ty (below_of at under id) no_enum no_box)

    pub enum-shape : (n count : ℕ) → IsEnum at id n count →
        planning.guarded guard (plain.ByVariant (variants_at at under id n)) ≡ inner_at at under id guard
    enum-shape n count e =
        sym (typed (Ty.Adt n) e.typed
        ∙ ap (λ (b : Bool). planning.taken_apart at.items.now guard b (Ty.Adt n) (below_of at under id)) e.is)
