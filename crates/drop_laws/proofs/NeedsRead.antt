-- The plan of a drop reads each flag that the drop needs.
use Rattle.std.proofs.Common.{◌≡◌, inl, inr, ◌∙◌, ◌∷◌, [], ◌++◌, ℕ, suc, ◌==◌, not, Bool, true, false, ◌&&◌, ◌||◌, List, Option, Some, None, Contains, ◌+◌, slice_get, refl, sym, ap, subst, arith, if◌then◌else◌}
use Rattle.std.specs.Prelude.{option_and_then, option_map}
use Rattle.std.specs.Cmp.{first_so, second_so}
use Rattle.std.proofs.lemmas.Bool.{false≢true, eq-eqb}
use Rattle.std.proofs.lemmas.Option.{none-some, same_Some}
use Rattle.mir_ty.proofs.ListLemmas.{Contains-slice_get}
use Rattle.mir_ty.specs.declared.ty.Ty.{Ty}
use Rattle.mir_ty.specs.declared.ty.TyId.{TyId}
use Rattle.mir_ty.specs.Facts.{needs_drop, has_drop_impl}
use Rattle.mir_ty.specs.ItemTable.{ItemTable, type_at}
use Rattle.mir_ty.specs.Parts.{parts_of, variants_of}
use Rattle.cfg_graph.specs.declared.graph.Body.{Body}
use Rattle.cfg_graph.specs.Moves.BadUses.{bad_uses_on}
use Rattle.cfg_graph.specs.Moves.Gone.{below, reaches_whole, is_gone_after}
use Rattle.cfg_graph.specs.Moves.Paths.{IsPath}
use Rattle.move_paths.specs.Forest.{PathForest, IsForest, is_path}
use Rattle.store_model.specs.Places.Place.{Step, ToPart, ToField, ToContent, ToElement, Place, is_enum, is_reference, content_of, part_if, unless_enum, step_ty, watched, watched_content}
use Rattle.drop_values.specs.Facts.{Tree, at_path, Branches, no_branch, a_branch, Facts}
use Rattle.drop_values.specs.Plan.{Plan, Entire, ByVariant}
use Rattle.drop_values.specs.Planning.{branch_by, plan_by, guarded, whole_plan, stepped, decided, part_plan, part_plans, variant_plans, taken_apart, is_none_tree, is_bare, any_bare, apart_reads, unless_reads, reads_flag, sure, unless_impl, inner_plan, plan_of, plans_below}
use Rattle.drop_values.proofs.Steps.{same_step-refl}
use Rattle.drop_elaborate.proofs.ReadyBody.{BodyIsReady}
use Rattle.drop_elaborate.specs.Kinds.{place_id, MayBe, AreFacts, IsTree, NeedsFlag}
use Rattle.drop_laws.proofs.BelowPaths.{closed}
use Rattle.drop_laws.proofs.BelowPaths.{below-nil, below-step, plan-by}
use Rattle.drop_laws.proofs.ApartAs.{Apart, boxed, enum, plainly, apart_as}
use Rattle.drop_laws.proofs.Inductions.{along-tree, branch-at}
use Rattle.drop_laws.proofs.PathPlaces.{step-type, step-typed, there-above, comes-sunk}
use Rattle.drop_laws.proofs.PlanParts.{either, or-left, or-right, guarded-reads, whole-reads, part-some, variant-some}
use Rattle.drop_laws.proofs.Rungs.{part-there, part-is, field-there, variant-there, sure-whole}
use Rattle.drop_laws.proofs.WithinPaths.{needs-above, path-within}
use Rattle.drop_laws.specs.Rungs.{is_guard, reads, any_reads, some_reads}

no-tree : (o : Option Tree) → is_none_tree o ≡ true → o ≡ None
no-tree None h = refl
no-tree (Some tree) h = absurd (false≢true h)

itself-is : (k : ℕ) → (k == k) ≡ true
itself-is k = eq-eqb k k refl

module _ (items : ItemTable) where
  -- ---- what the plan of a part reads, of parts that are no paths

  bare-some : (ids : List TyId) (step : ℕ → Step) (under : Branches) (n : ℕ) → any_bare items ids step under n ≡ true →
      (j : ℕ) × (m : ℕ) × (id : TyId) × (m ≡ n + j) × (slice_get ids j ≡ Some id)
      × ((is_bare (step m) under && needs_drop items id) ≡ true)
  bare-some [] step under n h = absurd (false≢true h)
  bare-some (id ∷ ids) step under n h =
      elim (either (is_bare (step n) under && needs_drop items id) (any_bare items ids step under (suc n)) h) [
        | inl here ↦ (0, n, id, omega arith, refl, here)
        | inr later ↦ (let r = bare-some ids step under (suc n) later in
            (suc r.0, r.1, r.2, (let e = r.3 in let z : r.1 ≡ n + suc r.0 = omega (arith, e) in z), r.4, r.5))
      ]

  bare-same : (ids : List TyId) (step : ℕ → Step) (one other : Branches) (n : ℕ) →
      ((s : Step) → is_bare s one ≡ is_bare s other) → any_bare items ids step one n ≡ any_bare items ids step other n
  bare-same [] step one other n same = refl
  bare-same (id ∷ ids) step one other n same =
      (λ i. (same (step n) i && needs_drop items id) || bare-same ids step one other (suc n) same i)

module _ (items : ItemTable) (bodies : ℕ) (body : Body) (ready : BodyIsReady items bodies body)
    (fine : (path : List ℕ) (given : List Bool) → IsPath items body path given → bad_uses_on items body path ≡ [])
    (forest : PathForest) (is_forest : IsForest items body forest) (n : ℕ) (facts : Facts)
    (are_facts : AreFacts items body forest.paths n facts) (flag_of : ℕ → Option ℕ)
    (by_number : (number k : ℕ) → flag_of number ≡ Some k → k ≡ number)
    (all_have : (number : ℕ) (q : Place) → slice_get forest.paths number ≡ Some q → flag_of number ≡ Some number) where
  abbrev paths : List Place
  paths = forest.paths

  abbrev planned : Tree → TyId → Plan
  planned tree id = plan_of items facts flag_of tree id

  abbrev plans : Branches → TyId → List (Step × Plan)
  plans under id = plans_below items facts flag_of under id

  abbrev inner : Branches → TyId → Option ℕ → Plan
  inner under id guard = inner_plan items facts flag_of under id (plans under id) guard

  abbrev IsTreeAt : Place → Tree → Type 0
  IsTreeAt q tree = IsTree items body paths q tree

  abbrev OfType : Place → TyId → Type 0
  OfType q id = place_id items body q ≡ Some id

  is-path : (number : ℕ) (q : Place) → slice_get paths number ≡ Some q → is_path items body q ≡ true
  is-path number q e = (is_forest.each q).0 (Contains-slice_get paths number q e)

  abbrev part-is-so : (under : Branches) (guard : Option ℕ) (step : Step) (id next : TyId) →
      option_and_then (step_ty items step) (type_at items id) ≡ Some next → (o : Option Tree) → branch_by step under ≡
      o →
      part_plan items guard next (plan_by step (plans under id))
      ≡ part_plan items guard next (option_map (λ tree. planned tree next) o)
  part-is-so under guard step id next e o at =
      part-is items bodies body ready fine forest is_forest n facts are_facts flag_of under guard step id next e o at

  -- ---- whether a path reads its own flag is a matter of the paths below it alone

  tree-path : (tree : Tree) (p : Place) → IsTreeAt p tree → is_path items body p ≡ true
  tree-path (at_path k under) p t = is-path k p t.0

  bare-is : (q : Place) (number : ℕ) (under : Branches) → IsTreeAt q (at_path number under) → (step : Step) →
      is_bare step under ≡ not (is_path items body (below q (step ∷ [])))
  bare-is q number under is step = by (branch_by step under) refl
    where
      by : (o : Option Tree) → branch_by step under ≡ o → is_none_tree o ≡ not (is_path items body (below q (step ∷
          [])))
      by None e = sym (ap not (is.2 step e))
      by (Some tree) e =
          sym (ap not (tree-path tree (below q (step ∷ [])) (branch-at items body paths q under is.1 step tree e)))

  reads-same : (q : Place) (k m : ℕ) (one other : Branches) (id : TyId) → IsTreeAt q (at_path k one) →
      IsTreeAt q (at_path m other) → reads_flag items one id ≡ reads_flag items other id
  reads-same q k m one other id a b = by one other a b
    where
      same : (u v : Branches) → IsTreeAt q (at_path k u) → IsTreeAt q (at_path m v) → (s : Step) → is_bare s u ≡
          is_bare s v
      same u v a b s = bare-is q k u a s ∙ sym (bare-is q m v b s)

      own : (step : Step) (tree : Tree) (rest : Branches) → is_bare step (a_branch step tree rest) ≡ false
      own step tree rest = ap (λ (b : Bool). is_none_tree (if b then Some tree else branch_by step rest))
          (same_step-refl step)

      apart : (u v : Branches) → ((s : Step) → is_bare s u ≡ is_bare s v) → (ty : Ty) → Apart items ty →
          apart_reads items (is_enum items ty) ty u ≡ apart_reads items (is_enum items ty) ty v
      apart u v eq _ (boxed content) = refl
      apart u v eq _ (enum j en) = en.asks u ∙ sym (en.asks v)
      apart u v eq _ (plainly ty p) = p.asks u ∙ bare-same items (parts_of items ty 0) ToPart u v 0 eq ∙ sym (p.asks v)

      unless : (u v : Branches) → ((s : Step) → is_bare s u ≡ is_bare s v) → (b : Bool) (o : Option Ty) →
          unless_reads items b o u ≡ unless_reads items b o v
      unless u v eq true o = refl
      unless u v eq false None = refl
      unless u v eq false (Some ty) = apart u v eq ty (apart_as items ty)

      by : (u v : Branches) → IsTreeAt q (at_path k u) → IsTreeAt q (at_path m v) → reads_flag items u id ≡ reads_flag
          items v id
      by no_branch no_branch a b = refl
      by no_branch (a_branch step tree rest) a b =
          absurd (false≢true (sym (own step tree rest) ∙ sym (same no_branch (a_branch step tree rest) a b step)))
      by (a_branch step tree rest) no_branch a b =
          absurd (false≢true (sym (own step tree rest) ∙ same (a_branch step tree rest) no_branch a b step))
      by (a_branch s t r) (a_branch x y z) a b =
          unless (a_branch s t r) (a_branch x y z) (same (a_branch s t r) (a_branch x y z) a b) (has_drop_impl items
          id) (type_at items id)

  -- ---- a flag that is needed is read

  pub record Wanted (k : ℕ) (path : Place) : Type 0 where
    pub at : slice_get paths k ≡ Some path
    pub number : ℕ
    pub under : Branches
    pub tree : IsTreeAt path (at_path number under)
    pub id : TyId
    pub typed : OfType path id
    pub needed : needs_drop items id ≡ true
    pub asks : reads_flag items under id ≡ true
    pub present : MayBe items body n path false
    pub gone : MayBe items body n path true

  abbrev NoImpl : Place → List Step → Type 0
  NoImpl q steps = (upper lower : List Step) (step : Step) (outer : TyId) → steps ≡ upper ++ step ∷ lower →
      OfType (below q upper) outer → has_drop_impl items outer ≡ false

  module _ (k : ℕ) where
    abbrev IsRead : Place → Tree → Type 0
    IsRead q tree = (rest : List Step) (id : TyId) → OfType q id → Wanted k (below q rest) → NoImpl q rest →
        (reads k (planned tree id) ≡ true) × (needs_drop items id ≡ true)

    -- the plan behind its own flag
    own-read : (under : Branches) (id : TyId) → reads_flag items under id ≡ true → reads k (inner under id (Some k)) ≡
        true
    own-read under id asks = by under refl
      where
        entire : reads k (guarded (Some k) Entire) ≡ true
        entire = or-left (k == k) false (itself-is k)

        bare : (ty : Ty) → any_bare items (parts_of items ty 0) ToPart under 0 ≡ true →
            any_reads k (part_plans items (Some k) (parts_of items ty 0) ToPart (plans under id) 0) ≡ true
        bare ty h =
            let r = bare-some items (parts_of items ty 0) ToPart under 0 h in
            let same : r.1 ≡ r.0 = (let e = r.3 in omega (arith, e)) in
            let both : (is_bare (ToPart r.0) under && needs_drop items r.2) ≡ true =
            subst (λ (m : ℕ). (is_bare (ToPart m) under && needs_drop items r.2) ≡ true) same r.5 in
            let none = no-tree (branch_by (ToPart r.0) under) (first_so (is_bare (ToPart r.0) under) (needs_drop items
            r.2) both) in
            let needs = second_so (is_bare (ToPart r.0) under) (needs_drop items r.2) both in
            part-some items (reads k) (any_reads k) (λ plan rest. refl) refl (Some k) (parts_of items ty 0) ToPart
            (plans under id)
            r.0 r.2 r.4
            (ap (λ (o : Option Plan). reads k (part_plan items (Some k) r.2 o))
            (plan-by items facts flag_of (ToPart r.0) under id
            ∙ ap (option_map (λ tree. planned tree (stepped items (ToPart r.0) id))) none)
            ∙ ap (λ (b : Bool). reads k (whole_plan (Some k) b)) needs ∙ whole-reads k (Some k) ∙ itself-is k)

        apart : (s : Step) (first : Tree) (rest : Branches) → under ≡ a_branch s first rest → (ty : Ty) → type_at
            items id ≡ Some ty →
            has_drop_impl items id ≡ false → Apart items ty →
            reads k (taken_apart items (Some k) (is_enum items ty) ty (plans under id)) ≡ true
        apart s first rest some _ at impl (boxed content) =
            or-left (k == k) (reads k (part_plan items (Some k) content (plan_by ToContent (plans under id))))
            (itself-is k)
        apart s first rest some _ at impl (enum j en) =
            let cases = ByVariant (variant_plans items (variants_of (slice_get items.adts j)) (plans under id) 0) in
            ap (reads k) (en.apart (Some k) (plans under id)) ∙ or-left (k == k) (reads k cases) (itself-is k)
        apart s first rest some _ at impl (plainly ty p) =
            ap (reads k) (p.apart (Some k) (plans under id))
            ∙ bare ty (sym (ap (λ (u : Branches). reads_flag items u id) some
            ∙ (λ i. unless_reads items (impl i) (at i) (a_branch s first rest))
            ∙ ap (apart_reads items (is_enum items ty) ty) (sym some) ∙ p.asks under) ∙ asks)

        unless : (s : Step) (first : Tree) (rest : Branches) → under ≡ a_branch s first rest → (b : Bool) →
            has_drop_impl items id ≡ b → (o : Option Ty) →
            type_at items id ≡ o → reads k (unless_impl items facts flag_of (Some k) b o (plans under id)) ≡ true
        unless s first rest some true eb o eo = entire
        unless s first rest some false eb None eo = entire
        unless s first rest some false eb (Some ty) eo = apart s first rest some ty eo eb (apart_as items ty)

        by : (u : Branches) → under ≡ u → reads k (inner_plan items facts flag_of u id (plans under id) (Some k)) ≡ true
        by no_branch e = entire
        by (a_branch s first rest) e = unless s first rest e (has_drop_impl items id) refl (type_at items id) refl

    -- a path below is read where the plan comes to it
    module _ (q : Place) (number : ℕ) (under : Branches) (is : IsTreeAt q (at_path number under)) (step : Step) (rest
        : List Step)
        (id : TyId) (typed : OfType q id) (want : Wanted k (below q (step ∷ rest))) (apart : NoImpl q (step ∷ rest))
        (next : TyId)
        (e : option_and_then (step_ty items step) (type_at items id) ≡ Some next) (tree : Tree)
        (at : branch_by step under ≡ Some tree) (read : reads k (planned tree next) ≡ true) where
      part-read : (guard : Option ℕ) → reads k (part_plan items guard next (plan_by step (plans under id))) ≡ true
      part-read guard = ap (reads k) (part-is-so under guard step id next e (Some tree) at) ∙ read

      no_impl : has_drop_impl items id ≡ false
      no_impl = apart [] rest step id refl (ap (place_id items body) (below-nil q) ∙ typed)

      by-plain : (guard : Option ℕ) (ty : Ty) (z : Step) → z ≡ step → step_ty items z ty ≡ Some next →
          is_enum items ty ≡ false → (content : (to : TyId) → content_of ty ≡ Some to → is_reference (Some ty) ≡ true) →
          type_at items id ≡ Some ty → any_reads k (part_plans items guard (parts_of items ty 0) ToPart (plans under
          id) 0) ≡ true
      by-plain guard ty (ToPart j) same s off content ty_is =
          part-some items (reads k) (any_reads k) (λ plan rest. refl) refl guard (parts_of items ty 0) ToPart (plans
          under id) j next
          (part-there (is_enum items ty) (slice_get (parts_of items ty 0) j) next off s)
          (ap (λ (y : Step). reads k (part_plan items guard next (plan_by y (plans under id)))) same ∙ part-read guard)
      by-plain guard ty (ToField v j) same s off content ty_is =
          absurd (none-some next (sym (ap (λ (b : Bool). part_if b (slice_get (parts_of items ty v) j)) off) ∙ s))
      by-plain guard ty ToContent same s off content ty_is =
          let within = path-within items body q step rest id typed (is-path k (below q (step ∷ rest)) want.at) in
          absurd (false≢true (sym (ap (λ (b : Bool). reaches_whole (watched_content b (watched items (option_and_then
          content_of (type_at items id)) [])))
          (ap is_reference ty_is ∙ content next s))
          ∙ ap (λ (y : Step). reaches_whole (watched items (Some id) (y ∷ []))) same ∙ within))
      by-plain guard ty (ToElement i) same s off content ty_is =
          let within = path-within items body q step rest id typed (is-path k (below q (step ∷ rest)) want.at) in
          absurd (false≢true (ap (λ (y : Step). reaches_whole (watched items (Some id) (y ∷ []))) same ∙ within))

      by-box : (guard : Option ℕ) (content : TyId) (z : Step) → z ≡ step → step_ty items z (Ty.Boxed content) ≡ Some
          next →
          reads k (part_plan items guard content (plan_by ToContent (plans under id))) ≡ true
      by-box guard content (ToPart j) same s = absurd (none-some next s)
      by-box guard content (ToField v j) same s = absurd (none-some next s)
      by-box guard content ToContent same s =
          ap (λ (y : TyId). reads k (part_plan items guard y (plan_by ToContent (plans under id)))) (same_Some content
          next s)
          ∙ ap (λ (y : Step). reads k (part_plan items guard next (plan_by y (plans under id)))) same ∙ part-read guard
      by-box guard content (ToElement i) same s = absurd (none-some next s)

      by-enum : (j : ℕ) → is_enum items (Ty.Adt j) ≡ true → (z : Step) → z ≡ step → step_ty items z (Ty.Adt j) ≡ Some
          next →
          some_reads k (variant_plans items (variants_of (slice_get items.adts j)) (plans under id) 0) ≡ true
      by-enum j is_it (ToPart m) same s =
          absurd (none-some next (sym (ap (λ (b : Bool). unless_enum b (slice_get (parts_of items (Ty.Adt j) 0) m))
          is_it) ∙ s))
      by-enum j is_it (ToField v m) same s =
          let there = field-there (is_enum items (Ty.Adt j)) (slice_get (parts_of items (Ty.Adt j) v) m) next s in
          let variant = variant-there (variants_of (slice_get items.adts j)) v m next there in
          variant-some items (reads k) (any_reads k) (λ plan rest. refl) refl (some_reads k) (λ v all rest. refl) refl
          (variants_of (slice_get items.adts j)) (plans under id) v variant.0 m next variant.1 variant.2
          (ap (λ (y : Step). reads k (part_plan items None next (plan_by y (plans under id)))) same ∙ part-read None)
      by-enum j is_it ToContent same s = absurd (none-some next s)
      by-enum j is_it (ToElement i) same s = absurd (none-some next s)

      apart-read : (guard : Option ℕ) (ty : Ty) → type_at items id ≡ Some ty → Apart items ty → step_ty items step ty
          ≡ Some next →
          reads k (taken_apart items guard (is_enum items ty) ty (plans under id)) ≡ true
      apart-read guard _ ty_is (boxed content) s = or-right (is_guard guard k) _ (by-box guard content step refl s)
      apart-read guard _ ty_is (enum j en) s =
          let cases = ByVariant (variant_plans items (variants_of (slice_get items.adts j)) (plans under id) 0) in
          ap (reads k) (en.apart guard (plans under id)) ∙ guarded-reads k guard cases
          ∙ or-right (is_guard guard k) (reads k cases) (by-enum j en.enum step refl s)
      apart-read guard _ ty_is (plainly ty p) s =
          ap (reads k) (p.apart guard (plans under id)) ∙ by-plain guard ty step refl s p.no_enum p.content ty_is

      inner-read : (guard : Option ℕ) → reads k (inner under id guard) ≡ true
      inner-read guard = by under at
        where
          typed_by : (o : Option Ty) → type_at items id ≡ o → option_and_then (step_ty items step) o ≡ Some next →
              reads k (unless_impl items facts flag_of guard false o (plans under id)) ≡ true
          typed_by None ty_is s = absurd (none-some next s)
          typed_by (Some ty) ty_is s = apart-read guard ty ty_is (apart_as items ty) s

          by : (u : Branches) → branch_by step u ≡ Some tree →
              reads k (inner_plan items facts flag_of u id (plans under id) guard) ≡ true
          by no_branch b = absurd (none-some tree b)
          by (a_branch s first others) b =
              ap (λ (d : Bool). reads k (unless_impl items facts flag_of guard d (type_at items id) (plans under id)))
              no_impl
              ∙ typed_by (type_at items id) refl e

    wanted-read : (tree : Tree) (q : Place) → IsTreeAt q tree → IsRead q tree
    wanted-read = along-tree items body paths IsRead kept
      where
        kept : (q : Place) (number : ℕ) (under : Branches) → IsTreeAt q (at_path number under) →
            ((step : Step) (tree : Tree) → branch_by step under ≡ Some tree → IsTreeAt (below q (step ∷ [])) tree
            × IsRead (below q (step ∷ [])) tree) → IsRead q (at_path number under)
        kept q number under is lower rest id typed want apart = at_rest rest want apart
          where
            present_at : (rest : List Step) → Wanted k (below q rest) → facts.present number ≡ true
            present_at rest want =
                (are_facts.present number q is.0).1 (
                  want.present.0,
                  want.present.1,
                  there-above items body want.present.0 (comes-sunk items body fine n want.present.0 want.present.1) q
                      rest want.present.2,
                )

            no-sure : (rest : List Step) → Wanted k (below q rest) → sure items facts flag_of (at_path number under) ≡
                false
            no-sure rest want = by (sure items facts flag_of (at_path number under)) refl
              where
                by : (b : Bool) → sure items facts flag_of (at_path number under) ≡ b → sure items facts flag_of
                    (at_path number under) ≡ false
                by false e = e
                by true e =
                    absurd (false≢true (sym (sure-whole items bodies body ready fine forest is_forest n facts
                    are_facts flag_of
                    (at_path number under) q is e want.gone.0 want.gone.1 rest) ∙ want.gone.2))

            decided-read : (rest : List Step) → Wanted k (below q rest) → needs_drop items id ≡ true → (g : Bool) →
                facts.gone number ≡ g →
                ((guard : Option ℕ) → (g ≡ true → guard ≡ flag_of number) → reads k (inner under id guard) ≡ true) →
                reads k (planned (at_path number under) id) ≡ true
            decided-read rest want needs g eg inner_read =
                (λ i. reads k (decided (needs i) (present_at rest want i) (no-sure rest want i) (eg i) (flag_of
                number) (inner under id)))
                ∙ by g inner_read
              where
                by : (g : Bool) → ((guard : Option ℕ) → (g ≡ true → guard ≡ flag_of number) → reads k (inner under id
                    guard) ≡ true) →
                    reads k (decided true true false g (flag_of number) (inner under id)) ≡ true
                by true read = read (flag_of number) (λ e. refl)
                by false read = read None (λ e. absurd (false≢true e))

            at_rest : (rest : List Step) → Wanted k (below q rest) → NoImpl q rest →
                (reads k (planned (at_path number under) id) ≡ true) × (needs_drop items id ≡ true)
            at_rest [] want apart =
                let itself : below q [] ≡ q = below-nil q in
                let number_is : k ≡ number = is_forest.once k number q (want.at ∙ ap Some itself) is.0 in
                let id_is : want.id ≡ id = same_Some want.id id (sym want.typed ∙ ap (place_id items body) itself ∙
                typed) in
                let needs : needs_drop items id ≡ true = subst (λ z. needs_drop items z ≡ true) id_is want.needed in
                let asks : reads_flag items under id ≡ true =
                reads-same q number want.number under want.under id is (subst (λ (p : Place). IsTreeAt p (at_path
                want.number want.under)) itself want.tree)
                ∙ ap (reads_flag items want.under) (sym id_is) ∙ want.asks in
                let gone : facts.gone number ≡ true =
                (are_facts.gone number q is.0).1 (
                  want.gone.0,
                  want.gone.1,
                  ap (is_gone_after items body want.gone.0) (sym itself) ∙ want.gone.2,
                ) in (
                  decided-read [] want needs true gone (λ guard own. subst (λ (o : Option ℕ). reads k (inner under id
                      o) ≡ true)
                      (sym (own refl ∙ all_have number q is.0 ∙ ap Some (sym number_is))) (own-read under id asks)),
                  needs,
                )
            at_rest (step ∷ rest) want apart =
                let path_there = is-path k (below q (step ∷ rest)) want.at in
                let below_is : below (below q (step ∷ [])) rest ≡ below q (step ∷ rest) = below-step q step rest in
                let next_path : is_path items body (below q (step ∷ [])) ≡ true =
                (is_forest.each (below q (step ∷ []))).0 (closed items body forest is_forest (below q (step ∷ [])) rest
                (subst (Contains paths) (sym below_is) (Contains-slice_get paths k (below q (step ∷ rest)) want.at))) in
                let s = step-typed items body bodies ready q step id typed next_path in
                let tree = branch-there step next_path in
                let want_below : Wanted k (below (below q (step ∷ [])) rest) = subst (Wanted k) (sym below_is) want in
                let r = (lower step tree.0 tree.1).1 rest s.0 (step-type items body q step id s.0 typed s.1) want_below
                (λ upper more_steps z outer e t. apart (step ∷ upper) more_steps z outer (ap (λ l. step ∷ l) e)
                (ap (place_id items body) (sym (below-step q step upper)) ∙ t)) in
                let needs : needs_drop items id ≡ true =
                needs-above items step id s.0 s.1 (path-within items body q step rest id typed path_there) r.1 in (
                  decided-read (step ∷ rest) want needs (facts.gone number) refl (λ guard own.
                      inner-read q number under is step rest id typed want apart s.0 s.1 tree.0 tree.1 r.0 guard),
                  needs,
                )
              where
                branch-there : (step : Step) → is_path items body (below q (step ∷ [])) ≡ true →
                    (tree : Tree) × (branch_by step under ≡ Some tree)
                branch-there step h = by (branch_by step under) refl
                  where
                    by : (o : Option Tree) → branch_by step under ≡ o → (tree : Tree) × (branch_by step under ≡ Some
                        tree)
                    by None e = absurd (false≢true (sym (is.2 step e) ∙ h))
                    by (Some tree) e = (tree, e)

  -- what some drop of a place needs is read by its plan
  pub needs-read : (place : Place) (tree : Tree) (id : TyId) → IsTreeAt place tree → OfType place id → (k : ℕ) (path :
      Place) →
      slice_get paths k ≡ Some path → NeedsFlag items body paths n place path → reads k (planned tree id) ≡ true
  needs-read place tree id is typed k path at needs =
      let path_is = needs.path_is in
      (wanted-read k tree place is needs.steps id typed
      (record {
        at = at ∙ ap Some path_is;
        number = needs.number;
        under = needs.under;
        tree = subst (λ (p : Place). IsTreeAt p (at_path needs.number needs.under)) path_is needs.tree;
        id = needs.id;
        typed = ap (place_id items body) (sym path_is) ∙ needs.typed;
        needed = needs.needed;
        asks = needs.reads;
        present = (
          needs.present.0,
          needs.present.1,
          ap (is_gone_after items body needs.present.0) (sym path_is) ∙
              needs.present.2,
        );
        gone = (needs.gone.0, needs.gone.1, ap (is_gone_after items body needs.gone.0) (sym path_is) ∙ needs.gone.2);
      })
      (λ upper more_steps step outer e t. needs.apart upper more_steps step outer e t)).0
