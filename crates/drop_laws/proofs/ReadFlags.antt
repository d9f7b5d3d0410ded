-- Each flag that the plan of a drop reads is one that the drop needs.
use Rattle.std.proofs.Common.{◌≡◌, ◌⊎◌, inl, inr, ◌∙◌, ◌∷◌, [], ◌++◌, ℕ, zero, suc, Bool, true, false, ◌&&◌, List, Option, Some, None, ◌+◌, slice_get, refl, sym, ap, subst, append_assoc, arith}
use Rattle.std.specs.Prelude.{option_and_then, option_map}
use Rattle.std.specs.Cmp.Derive.{both_true}
use Rattle.std.proofs.lemmas.Bool.{false≢true, eqb-true}
use Rattle.std.proofs.lemmas.Option.{none-some, same_Some}
use Rattle.mir_ty.proofs.ListLemmas.{Contains-slice_get}
use Rattle.mir_ty.specs.declared.adt.Variant.{Variant}
use Rattle.mir_ty.specs.declared.ty.Ty.{Ty}
use Rattle.mir_ty.specs.declared.ty.TyId.{TyId}
use Rattle.mir_ty.specs.Facts.{needs_drop, has_drop_impl}
use Rattle.mir_ty.specs.ItemTable.{ItemTable, type_at}
use Rattle.mir_ty.specs.Parts.{parts_of, fields_of, variants_of}
use Rattle.cfg_graph.specs.declared.graph.Body.{Body}
use Rattle.cfg_graph.specs.Moves.BadUses.{bad_uses_on}
use Rattle.cfg_graph.specs.Moves.Gone.{below}
use Rattle.cfg_graph.specs.Moves.Paths.{IsPath}
use Rattle.move_paths.specs.Forest.{PathForest, IsForest, is_path}
use Rattle.store_model.specs.Places.Place.{Step, ToPart, ToField, ToContent, Place, is_enum, step_ty}
use Rattle.drop_values.specs.Facts.{Tree, at_path, Branches, no_branch, a_branch, Facts}
use Rattle.drop_values.specs.Plan.{Plan, Entire, ByVariant}
use Rattle.drop_values.specs.Planning.{branch_by, plan_by, guarded, whole_plan, decided, part_plan, variant_plans, taken_apart, is_none_tree, is_bare, any_bare, apart_reads, unless_reads, reads_flag, sure, unless_impl, inner_plan, plan_of, plans_below}
use Rattle.drop_elaborate.proofs.ReadyBody.{BodyIsReady}
use Rattle.drop_elaborate.specs.Kinds.{place_id, IsDead, IsSure, AreFacts, IsTree, NeedsFlag}
use Rattle.drop_laws.proofs.BelowPaths.{below-nil}
use Rattle.drop_laws.proofs.ApartAs.{Apart, boxed, enum, plainly, apart_as}
use Rattle.drop_laws.proofs.Inductions.{along-tree}
use Rattle.drop_laws.proofs.NumberedBelow.{typed-needs}
use Rattle.drop_laws.proofs.PathPlaces.{step-type}
use Rattle.drop_laws.proofs.PlanParts.{either, or-left, or-right, guarded-reads, whole-reads, some-part, some-variant}
use Rattle.drop_laws.proofs.Rungs.{part-is, part-type, field-type}
use Rattle.drop_laws.specs.Rungs.{is_guard, reads, any_reads, some_reads}

-- the last of some steps, or an earlier one
last-split : (steps : List Step) (last : Step) (upper : List Step) (s : Step) (lower : List Step) →
    steps ++ last ∷ [] ≡ upper ++ s ∷ lower → (upper ≡ steps) ⊎ ((rest : List Step) × (steps ≡ upper ++ s ∷ rest))
last-split [] last [] s lower e = inl refl
last-split [] last (x ∷ upper) s lower e =
    absurd (none upper (let z : last ∷ [] ≡ x ∷ (upper ++ s ∷ lower) = e in let y : [] ≡ upper ++ s ∷ lower = cc in y))
  where
    none : (u : List Step) → [] ≡ u ++ s ∷ lower → ⊥
    none [] h = absurd (let n : [] ≡ s ∷ lower = h in cc)
    none (y ∷ u) h = absurd (let n : [] ≡ y ∷ (u ++ s ∷ lower) = h in cc)
last-split (x ∷ steps) last [] s lower e =
    inr (steps, (let z : x ∷ (steps ++ last ∷ []) ≡ s ∷ lower = e in let y : x ≡ s = cc in ap (λ k. k ∷ steps) y))
last-split (x ∷ steps) last (y ∷ upper) s lower e =
    let z : x ∷ (steps ++ last ∷ []) ≡ y ∷ (upper ++ s ∷ lower) = e in
    let head : x ≡ y = cc in
    let tail : steps ++ last ∷ [] ≡ upper ++ s ∷ lower = cc in
    elim (last-split steps last upper s lower tail) [
      | inl a ↦ inl (ap (λ l. y ∷ l) a ∙ ap (λ k. k ∷ steps) (sym head))
      | inr a ↦ inr (a.0, ap (λ k. k ∷ steps) head ∙ ap (λ l. y ∷ l) a.1)
    ]

module _ (items : ItemTable) where
  -- ---- what the plan of a part reads, of parts that are no paths

  bare-from : (ids : List TyId) (step : ℕ → Step) (under : Branches) (n j m : ℕ) (id : TyId) → m ≡ n + j →
      slice_get ids j ≡ Some id → (is_bare (step m) under && needs_drop items id) ≡ true →
      any_bare items ids step under n ≡ true
  bare-from [] step under n j m id e at h = absurd (none-some id at)
  bare-from (x ∷ ids) step under n zero m id e at h =
      let here : m ≡ n = omega (arith, e) in
      or-left (is_bare (step n) under && needs_drop items x) (any_bare items ids step under (suc n))
      (subst (λ (k : ℕ). (is_bare (step k) under && needs_drop items x) ≡ true) here
      (subst (λ (y : TyId). (is_bare (step m) under && needs_drop items y) ≡ true) (sym (same_Some x id at)) h))
  bare-from (x ∷ ids) step under n (suc j) m id e at h =
      or-right (is_bare (step n) under && needs_drop items x) (any_bare items ids step under (suc n))
      (bare-from ids step under (suc n) j m id (omega (arith, e)) at h)

module _ (items : ItemTable) (bodies : ℕ) (body : Body) (ready : BodyIsReady items bodies body)
    (fine : (path : List ℕ) (given : List Bool) → IsPath items body path given → bad_uses_on items body path ≡ [])
    (forest : PathForest) (is_forest : IsForest items body forest) (n : ℕ) (facts : Facts)
    (are_facts : AreFacts items body forest.paths n facts) (flag_of : ℕ → Option ℕ)
    (by_number : (number k : ℕ) → flag_of number ≡ Some k → k ≡ number)
    (all_have : (number : ℕ) (q : Place) → slice_get forest.paths number ≡ Some q → flag_of number ≡ Some number) where
  abbrev paths : List Place
  paths = forest.paths

  abbrev planned : Tree → TyId → Plan
  planned tree id = plan_of items facts flag_of tree id

  abbrev plans : Branches → TyId → List (Step × Plan)
  plans under id = plans_below items facts flag_of under id

  abbrev inner : Branches → TyId → Option ℕ → Plan
  inner under id guard = inner_plan items facts flag_of under id (plans under id) guard

  abbrev IsTreeAt : Place → Tree → Type 0
  IsTreeAt q tree = IsTree items body paths q tree

  abbrev OfType : Place → TyId → Type 0
  OfType q id = place_id items body q ≡ Some id

  is-path : (number : ℕ) (q : Place) → slice_get paths number ≡ Some q → is_path items body q ≡ true
  is-path number q e = (is_forest.each q).0 (Contains-slice_get paths number q e)

  abbrev part-is-so : (under : Branches) (guard : Option ℕ) (step : Step) (id next : TyId) →
      option_and_then (step_ty items step) (type_at items id) ≡ Some next → (o : Option Tree) → branch_by step under ≡
      o →
      part_plan items guard next (plan_by step (plans under id))
      ≡ part_plan items guard next (option_map (λ tree. planned tree next) o)
  part-is-so under guard step id next e o at =
      part-is items bodies body ready fine forest is_forest n facts are_facts flag_of under guard step id next e o at

  -- ---- a flag that is read is needed

  module _ (place : Place) (not_dead : IsDead items body n place → ⊥) (not_sure : IsSure items body n place → ⊥) where
    -- no type with a `Drop` impl lies on these steps from a place
    abbrev Apart_from : Place → List Step → Type 0
    Apart_from q steps = (upper lower : List Step) (step : Step) (outer : TyId) → steps ≡ upper ++ step ∷ lower →
        OfType (below q upper) outer → has_drop_impl items outer ≡ false

    apart-more : (steps : List Step) (step : Step) (id : TyId) → OfType (below place steps) id →
        has_drop_impl items id ≡ false → Apart_from place steps → Apart_from place (steps ++ step ∷ [])
    apart-more steps step id t none a upper lower s outer e y = elim (last-split steps step upper s lower e) [
      | inl u ↦ (let same : id ≡ outer =
          same_Some id outer (sym t ∙ ap (λ l. place_id items body (below place l)) (sym u) ∙ y) in
          subst (λ x. has_drop_impl items x ≡ false) same none)
      | inr u ↦ a upper u.0 s outer u.1 y
    ]

    abbrev Needed : ℕ → Type 0
    Needed k = (path : Place) × (slice_get paths k ≡ Some path) × NeedsFlag items body paths n place path

    module _ (k : ℕ) (q : Place) (number : ℕ) (under : Branches) (is : IsTreeAt q (at_path number under)) (steps :
        List Step)
        (id : TyId) (q_is : q ≡ below place steps) (typed : OfType q id) (apart : Apart_from place steps)
        (needs : needs_drop items id ≡ true) (present : facts.present number ≡ true)
        (lower : (step : Step) (tree : Tree) (next : TyId) → branch_by step under ≡ Some tree →
        has_drop_impl items id ≡ false → OfType (below q (step ∷ [])) next → reads k (planned tree next) ≡ true →
        Needed k) where
      own : facts.gone number ≡ true → k ≡ number → reads_flag items under id ≡ true → Needed k
      own gone same flag = (
        q,
        ap (slice_get paths) same ∙ is.0,
        record {
          not_dead = not_dead;
          not_sure = not_sure;
          steps = steps;
          path_is = q_is;
          number = number;
          under = under;
          tree = is;
          id = id;
          typed = typed;
          needed = needs;
          reads = flag;
          apart = apart;
          present = (are_facts.present number q is.0).0 present;
          gone = (are_facts.gone number q is.0).0 gone;
        },
      )

      module _ (guard : Option ℕ) (mine : is_guard guard k ≡ true → reads_flag items under id ≡ true → Needed k) where
        part-needed : has_drop_impl items id ≡ false → (inner_guard : Option ℕ) (step : Step) (next : TyId) →
            option_and_then (step_ty items step) (type_at items id) ≡ Some next →
            (is_guard inner_guard k ≡ true → needs_drop items next ≡ true → is_bare step under ≡ true → Needed k) →
            reads k (part_plan items inner_guard next (plan_by step (plans under id))) ≡ true → Needed k
        part-needed impl inner_guard step next e bare h =
            by (branch_by step under) refl
            (sym (ap (reads k) (part-is-so under inner_guard step id next e (branch_by step under) refl)) ∙ h)
          where
            whole : (needs_it : Bool) → needs_drop items next ≡ needs_it → branch_by step under ≡ None →
                reads k (whole_plan inner_guard needs_it) ≡ true → Needed k
            whole true en at h = bare (sym (whole-reads k inner_guard) ∙ h) en (ap is_none_tree at)
            whole false en at h = absurd (false≢true h)

            by : (o : Option Tree) → branch_by step under ≡ o →
                reads k (part_plan items inner_guard next (option_map (λ tree. planned tree next) o)) ≡ true → Needed k
            by (Some tree) at h = lower step tree next at impl (step-type items body q step id next typed e) h
            by None at h = whole (needs_drop items next) refl at h

        module _ (s : Step) (first : Tree) (rest : Branches) (some : under ≡ a_branch s first rest) (impl :
            has_drop_impl items id ≡ false) where
          flag-is : (ty : Ty) → type_at items id ≡ Some ty → apart_reads items (is_enum items ty) ty under ≡ true →
              reads_flag items under id ≡ true
          flag-is ty at h =
              ap (λ (u : Branches). reads_flag items u id) some
              ∙ (λ i. unless_reads items (impl i) (at i) (a_branch s first rest))
              ∙ ap (apart_reads items (is_enum items ty) ty) (sym some) ∙ h

          apart-needed : (ty : Ty) → type_at items id ≡ Some ty → Apart items ty →
              reads k (taken_apart items guard (is_enum items ty) ty (plans under id)) ≡ true → Needed k
          apart-needed _ at (boxed content) h =
              elim (either (is_guard guard k) (reads k (part_plan items guard content (plan_by ToContent (plans under
              id)))) h) [
                | inl g ↦ mine g (flag-is (Ty.Boxed content) at refl)
                | inr part ↦ part-needed impl guard ToContent content (ap (option_and_then (step_ty items ToContent))
                    at)
                    (λ g needs_it bare. mine g (flag-is (Ty.Boxed content) at refl)) part
              ]
          apart-needed _ at (enum j en) h =
              let cases = ByVariant (variant_plans items (variants_of (slice_get items.adts j)) (plans under id) 0) in
              elim (either (is_guard guard k) (reads k cases)
              (sym (ap (reads k) (en.apart guard (plans under id)) ∙ guarded-reads k guard cases) ∙ h)) [
                | inl g ↦ mine g (flag-is (Ty.Adt j) at (en.asks under))
                | inr some_case ↦ (let r = some-variant items (reads k) (any_reads k) (λ plan rest. refl) refl
                    (some_reads k) (λ v all rest. refl) refl
                    (variants_of (slice_get items.adts j)) (plans under id) some_case in
                    part-needed impl None (ToField r.number r.part.part) r.part.id
                    (field-type items id r.part.id j r.number r.part.part at en.enum
                    (ap (λ (o : Option Variant). slice_get (fields_of o) r.part.part) r.at ∙ r.part.there))
                    (λ g needs_it bare. absurd (false≢true g)) r.part.holds)
              ]
          apart-needed _ at (plainly ty p) h =
              let r = some-part items (reads k) (any_reads k) (λ plan rest. refl) refl guard (parts_of items ty 0)
              ToPart (plans under id)
              (sym (ap (reads k) (p.apart guard (plans under id))) ∙ h) in
              part-needed impl guard (ToPart r.part) r.id (part-type items id r.id ty r.part at p.no_enum r.there)
              (λ g needs_it bare. mine g (flag-is ty at (p.asks under ∙ bare-from items (parts_of items ty 0) ToPart
              under 0 r.part r.part r.id
              (omega arith) r.there (both_true bare needs_it)))) r.holds

        unless-needed : (s : Step) (first : Tree) (rest : Branches) → under ≡ a_branch s first rest → (b : Bool) →
            has_drop_impl items id ≡ b → (o : Option Ty) → type_at items id ≡ o →
            reads k (unless_impl items facts flag_of guard b o (plans under id)) ≡ true → Needed k
        unless-needed s first rest some true eb o eo h =
            mine (sym (guarded-entire guard) ∙ h)
            (ap (λ (u : Branches). reads_flag items u id) some ∙ ap (λ (b : Bool). unless_reads items b (type_at items
            id) (a_branch s first rest)) eb)
          where
            guarded-entire : (g : Option ℕ) → reads k (guarded g Entire) ≡ is_guard g k
            guarded-entire g = whole-reads k g
        unless-needed s first rest some false eb None eo h = absurd (typed-needs items body ready.one_variant id eo
            needs)
        unless-needed s first rest some false eb (Some ty) eo h =
            apart-needed s first rest some eb ty eo (apart_as items ty) h

        inner-needed : (u : Branches) → under ≡ u →
            reads k (inner_plan items facts flag_of u id (plans under id) guard) ≡ true → Needed k
        inner-needed no_branch e h =
            mine (sym (whole-reads k guard) ∙ h) (ap (λ (u : Branches). reads_flag items u id) e)
        inner-needed (a_branch s first rest) e h =
            unless-needed s first rest e (has_drop_impl items id) refl (type_at items id) refl h

    abbrev IsNeeded : Place → Tree → Type 0
    IsNeeded q tree = (k : ℕ) (steps : List Step) (id : TyId) → q ≡ below place steps → OfType q id →
        Apart_from place steps → reads k (planned tree id) ≡ true → Needed k

    read-needed : (tree : Tree) (q : Place) → IsTreeAt q tree → IsNeeded q tree
    read-needed = along-tree items body paths IsNeeded kept
      where
        kept : (q : Place) (number : ℕ) (under : Branches) → IsTreeAt q (at_path number under) →
            ((step : Step) (tree : Tree) → branch_by step under ≡ Some tree → IsTreeAt (below q (step ∷ [])) tree
            × IsNeeded (below q (step ∷ [])) tree) → IsNeeded q (at_path number under)
        kept q number under is lower k steps id q_is typed apart h =
            by (needs_drop items id) refl (facts.present number) refl (sure items facts flag_of (at_path number under))
            (facts.gone number) refl h
          where
            next-needed : (step : Step) (tree : Tree) (next : TyId) → branch_by step under ≡ Some tree →
                has_drop_impl items id ≡ false → OfType (below q (step ∷ [])) next → reads k (planned tree next) ≡
                true → Needed k
            next-needed step tree next at impl t h =
                (lower step tree at).1 k (steps ++ step ∷ []) next
                (ap (λ x. below x (step ∷ [])) q_is
                ∙ ap (λ l. record { local = place.local; steps = l }) (append_assoc place.steps steps (step ∷ []))) t
                (apart-more steps step id (subst (λ x. OfType x id) q_is typed) impl apart) h

            with_guard : needs_drop items id ≡ true → facts.present number ≡ true → (guard : Option ℕ) →
                (is_guard guard k ≡ true → reads_flag items under id ≡ true → Needed k) →
                reads k (inner under id guard) ≡ true → Needed k
            with_guard needs present guard mine h =
                inner-needed k q number under is steps id q_is typed apart needs present next-needed guard mine under
                refl h

            mine : needs_drop items id ≡ true → facts.present number ≡ true → facts.gone number ≡ true → (o : Option
                ℕ) →
                flag_of number ≡ o → is_guard o k ≡ true → reads_flag items under id ≡ true → Needed k
            mine needs present gone None eo g flag = absurd (false≢true g)
            mine needs present gone (Some f) eo g flag =
                own k q number under is steps id q_is typed apart needs present next-needed gone
                (sym (eqb-true f k g) ∙ by_number number f eo) flag

            by : (a : Bool) → needs_drop items id ≡ a → (b : Bool) → facts.present number ≡ b → (s : Bool) → (g :
                Bool) →
                facts.gone number ≡ g → reads k (decided a b s g (flag_of number) (inner under id)) ≡ true → Needed k
            by false ea b eb s g eg h = absurd (false≢true h)
            by true ea false eb s g eg h = absurd (false≢true h)
            by true ea true eb true g eg h = absurd (false≢true h)
            by true ea true eb false true eg h =
                with_guard ea eb (flag_of number) (mine ea eb eg (flag_of number) refl) h
            by true ea true eb false false eg h = with_guard ea eb None (λ g flag. absurd (false≢true g)) h

    -- of the place of the drop
    pub read-needs : (tree : Tree) (id : TyId) → IsTreeAt place tree → OfType place id → (k : ℕ) →
        reads k (planned tree id) ≡ true → Needed k
    read-needs tree id is typed k h =
        read-needed tree place is k [] id (sym (below-nil place)) typed (λ upper lower step outer e t. absurd (none
        upper lower step e)) h
      where
        none : (upper lower : List Step) (step : Step) → [] ≡ upper ++ step ∷ lower → ⊥
        none [] lower step e = absurd (let z : [] ≡ step ∷ lower = e in cc)
        none (x ∷ upper) lower step e = absurd (let z : [] ≡ x ∷ (upper ++ step ∷ lower) = e in cc)
