-- The arguments of a call with what the tests say of them: what a `&mut` one names lies apart from each place where a
-- number stays, or at or below it; and where it is exactly such a place, the parameter is protected in each body that
-- may be called.
use Rattle.std.proofs.Common.{◌≡◌, ℕ, zero, suc, ◌<◌, ◌&&◌, ◌||◌, not, Bool, true, false, List, [], ◌∷◌, ◌++◌, length, Option, Some, None, refl, ap, sym, ◌∙◌, subst, arith}
use Rattle.std.specs.Prelude.{slice_get}
use Rattle.std.specs.List.{list_all}
use Rattle.std.specs.Option.{option_map_or}
use Rattle.std.proofs.lemmas.Bool.{false≢true}
use Rattle.std.proofs.lemmas.Option.{none-some}
use Rattle.mir_ty.specs.declared.ty.TyId.{TyId}
use Rattle.mir_ty.specs.ItemTable.{ItemTable, type_at}
use Rattle.store_model.specs.declared.address.Addr.{Addr}
use Rattle.store_model.specs.declared.address.At.{At}
use Rattle.store_model.specs.Values.Datum.{Datum, Address}
use Rattle.store_model.specs.Abstract.Effects.{presence, may_use, watched_at}
use Rattle.store_model.specs.Abstract.Presence.{Presence, is_present}
use Rattle.store_model.specs.Places.Place.{Step, ToContent}
use Rattle.store_model.specs.Places.TypeForms.{same_id}
use Rattle.store_model.specs.Concrete.Location.{Setting, OfType, named_by}
use Rattle.store_model.specs.Concrete.State.{State, Cells}
use Rattle.store_model.specs.Effects.{Operand}
use Rattle.soundness_values.specs.Frames.{Apart, other_depth, other_local, other_part}
use Rattle.soundness_values.proofs.Along.{path_at}
use Rattle.soundness_values.proofs.Arguments.{Args, no_arg, a_value, a_name}
use Rattle.soundness_values.proofs.Behind.{names_it}
use Rattle.soundness_values.proofs.Checks.{id_of, is_unique, may_change, if_so, names_well, takes_well, after_operand}
use Rattle.soundness_values.proofs.Contracts.{targets_of, target_if, no_target, one_target}
use Rattle.soundness_values.proofs.CountedStores.{Spaced, spaced_apart, spaced_below, AllSpaced}
use Rattle.soundness_values.proofs.CountedTakes.{Counted}
use Rattle.soundness_values.proofs.DropsCount.{is_content}
use Rattle.soundness_values.proofs.Facts.{Naming, Facts, Each, each_more}
use Rattle.soundness_values.proofs.Fits.{Fits}
use Rattle.soundness_values.proofs.Frames.{apart_below}
use Rattle.soundness_values.proofs.Known.{Target}
use Rattle.soundness_values.proofs.Passing.{NamesAt, own_names, behind_names}
use Rattle.soundness_values.proofs.ProtectTests.{marked_naming}
use Rattle.soundness_values.proofs.Running.{sure_place, Passed, Runs, own_place}
use Rattle.soundness_values.proofs.Storing.{names_unique}
use Rattle.soundness_values.proofs.Taking.{first, second}

-- ---- nothing is apart from itself

at_same : (above : List At) (i j : At) (p q : List At) → above ++ i ∷ p ≡ above ++ j ∷ q → i ≡ j
at_same [] i j p q e = cc
at_same (x ∷ above) i j p q e = at_same above i j p q (tail_same e)
  where
    tail_same : {a b : At} {l m : List At} → a ∷ l ≡ b ∷ m → l ≡ m
    tail_same z = cc

never_apart : (a b : Addr) → Apart a b → b ≡ a → ⊥
never_apart _ _ (other_depth a b h) e = h (ap (λ (x : Addr). x.depth) (sym e))
never_apart _ _ (other_local a b h) e = h (ap (λ (x : Addr). x.key.0) (sym e))
never_apart _ _ (other_part a b h) e =
    h.differ (at_same h.above h.one_step h.other_step h.one_below h.other_below
    (sym h.one_is ∙ ap (λ (x : Addr). x.path) (sym e) ∙ h.other_is))

-- what is appended is nothing where the list is the same
none_more : (p q : List At) → p ++ q ≡ p → q ≡ []
none_more [] q e = e
none_more (i ∷ p) q e = none_more p q (tail_same e)
  where
    tail_same : {a b : At} {l m : List At} → a ∷ l ≡ b ∷ m → l ≡ m
    tail_same z = cc

both_none : (p q : List At) → p ++ q ≡ [] → (p ≡ []) × (q ≡ [])
both_none [] q e = (refl, e)
both_none (i ∷ p) q e = absurd (let never : ⊥ = cc in never)

longer : (p q r : List At) → (p ++ q) ++ r ≡ p ++ (q ++ r)
longer [] q r = refl
longer (i ∷ p) q r = ap (λ l. i ∷ l) (longer p q r)

no_more : (p : List At) → p ++ [] ≡ p
no_more [] = refl
no_more (i ∷ p) = ap (λ l. i ∷ l) (no_more p)

ends_there : (held : Cells) (steps : List Step) → path_at held steps ≡ [] → steps ≡ []
ends_there held [] e = refl
ends_there held (s ∷ steps) e = absurd (let never : ⊥ = cc in never)

each_append : {A : Type 0} (holds : A → Type 0) (a b : List A) → Each holds a → Each holds b → Each holds (a ++ b)
each_append holds [] b h k = k
each_append holds (x ∷ a) b h k = (h.0, each_append holds a b h.1 k)

pub each_get : {A : Type 0} (holds : A → Type 0) (l : List A) (m : ℕ) (x : A) → Each holds l → slice_get l m ≡ Some x →
    holds x
each_get holds [] m x h e = absurd (none-some x e)
each_get holds (y ∷ l) zero x h e = subst holds (some_same e) h.0
  where
    some_same : {A : Type 0} {a b : A} → Some a ≡ Some b → a ≡ b
    some_same z = cc
each_get holds (y ∷ l) (suc m) x h e = each_get holds l m x h.1 e

or_second : (a b : Bool) → (not a || b) ≡ true → a ≡ true → b ≡ true
or_second true b h k = h
or_second false b h k = absurd (false≢true k)

module _ (setting : Setting) (number : ℕ) (targets : List Target) (uniques : List Addr) (base : State)
    (is_target : ℕ → Bool) (passed : Passed setting number targets uniques base is_target) (size : ℕ → ℕ)
    (sized : (body key : ℕ) (id : TyId) → setting.local_ty body key ≡ Some id → key < size body)
    (loose : setting.strict ≡ false) (dropping : List ℕ) (guards : List (Addr × ℕ))
    (deep : Each (λ (g : Addr × ℕ). g.0.depth < length base.activations) guards)
    (spaced : AllSpaced guards targets) (protects : ℕ → ℕ → Bool)
    (exact : (m : ℕ) (t : Target) → slice_get targets m ≡ Some t → t.unique ≡ true →
    Each (λ (g : Addr × ℕ). t.address ≡ g.0 → protects number t.local ≡ true) guards) where
  abbrev items : ItemTable
  items = setting.items

  abbrev local_ty : ℕ → Option TyId
  local_ty key = setting.local_ty number key

  abbrev R : State → List (ℕ × Presence) → Facts → Type 0
  R = Runs setting number targets uniques base is_target

  abbrev C : List ℕ → State → Type 0
  C = Counted setting number targets uniques base is_target passed size sized dropping guards deep

  abbrev takes : Facts → Operand → Bool
  takes = takes_well items local_ty is_target

  abbrev after : Operand → Facts → Facts
  after = after_operand items local_ty is_target

  -- what is asked of what a parameter names
  abbrev pub TargetOk : List ℕ → Target → Type 0
  TargetOk bodies t = t.unique ≡ true → Each (λ (g : Addr × ℕ). Spaced g.0 t.address
      × (t.address ≡ g.0 → list_all (λ body. protects body t.local) bodies ≡ true)) guards

  -- values and references, with the tests of these
  pub data Marked (last : Facts) (start : List (ℕ × Presence)) (depth : ℕ) (held : Cells) (bodies : List ℕ) : ℕ →
      List TyId → List Naming → List Datum → Type 0 where
    no_mark : (local : ℕ) → Marked last start depth held bodies local [] [] []
    value_mark : (local : ℕ) (id : TyId) (ids : List TyId) (more names : List Naming) (d : Datum) (ds : List Datum) →
        named_by (type_at items id) ≡ None → Fits items (OfType id) is_present d →
        Marked last start depth held bodies (suc local) ids names ds →
        Marked last start depth held bodies local (id ∷ ids) (more ++ names) (d ∷ ds)
    name_mark : (local : ℕ) (id : TyId) (ids : List TyId) (unique : Bool) (to : TyId) (n : Naming)
        (names : List Naming) (d : Datum) (ds : List Datum) → type_at items id ≡ Some (names_it unique to) →
        names_well items local_ty is_target last start unique to n ≡ true → NamesAt setting number targets uniques base
        is_target passed depth held n.place d → marked_naming items protects number bodies local (Some n) ≡ true →
        Marked last start depth held bodies (suc local) ids names ds →
        Marked last start depth held bodies local (id ∷ ids) (n ∷ names) (d ∷ ds)

  module _ (last : Facts) (start : List (ℕ × Presence)) (depth : ℕ) (held : Cells) (bodies : List ℕ) where
    abbrev M : ℕ → List TyId → List Naming → List Datum → Type 0
    M = Marked last start depth held bodies

    pub args_of : (local : ℕ) (ids : List TyId) (names : List Naming) (ds : List Datum) → M local ids names ds →
        Args setting number targets uniques base is_target passed last start depth held ids names ds
    args_of _ _ _ _ (no_mark local) = no_arg
    args_of _ _ _ _ (value_mark local id ids more names d ds none fit rest) =
        a_value id ids more names d ds none fit (args_of (suc local) ids names ds rest)
    args_of _ _ _ _ (name_mark local id ids unique to n names d ds e well at mark rest) =
        a_name id ids unique to n names d ds e well at (args_of (suc local) ids names ds rest)

    module _ (at_depth : depth ≡ length base.activations) where
      -- where a place that is named lies
      Ok : ℕ → Addr → Addr × ℕ → Type 0
      Ok local a g = Spaced g.0 a × (a ≡ g.0 → list_all (λ body. protects body local) bodies ≡ true)

      own_ok : (local key : ℕ) (path : List At) → Each (λ (g : Addr × ℕ). Spaced g.0
          (own_place setting number targets uniques base is_target depth key path)
          × (own_place setting number targets uniques base is_target depth key path ≡ g.0 →
          list_all (λ body. protects body local) bodies ≡ true)) guards
      own_ok local key path = each_more (λ (g : Addr × ℕ). g.0.depth < length base.activations)
          (λ (g : Addr × ℕ). Spaced g.0 (own_place setting number targets uniques base is_target depth key path)
          × (own_place setting number targets uniques base is_target depth key path ≡ g.0 →
          list_all (λ body. protects body local) bodies ≡ true)) guards
          (λ g l. (
            spaced_apart (other_depth g.0 (own_place setting number targets uniques base is_target depth key path)
                (λ (same : g.0.depth ≡ depth). let never : ⊥ = omega arith in never)),
            (λ e. absurd (let same : depth ≡ g.0.depth = ap (λ (x : Addr). x.depth) e in
                let never : ⊥ = omega arith in never)),
          )) deep

      further : (a b : Addr) (path : List At) → Spaced a b → Spaced a (record b { path = b.path ++ path })
      further a b path (spaced_apart h) = spaced_apart (apart_below setting a b path h)
      further a b path (spaced_below (rest, e)) = spaced_below (
        rest ++ path,
        ap (λ (x : Addr). record x { path = x.path ++ path }) e
            ∙ ap (λ p. record { depth = a.depth; key = a.key; path = p }) (longer a.path rest path),
      )

      -- exactly there, where it is there with what it leads to
      exactly : (a b : Addr) (path : List At) → Spaced a b → record b { path = b.path ++ path } ≡ a →
          (b ≡ a) × (path ≡ [])
      exactly a b path (spaced_apart h) e = absurd (never_apart a (record b { path = b.path ++ path })
          (apart_below setting a b path h) e)
      exactly a b path (spaced_below (rest, s)) e =
          let whole : a.path ++ (rest ++ path) ≡ a.path =
          sym (longer a.path rest path) ∙ ap (λ (x : Addr). x.path ++ path) (sym s) ∙ ap (λ (x : Addr). x.path) e in
          let none = both_none rest path (none_more a.path (rest ++ path) whole) in (
            s ∙ ap (λ p. record { depth = a.depth; key = a.key; path = p })
                (ap (λ l. a.path ++ l) none.0 ∙ no_more a.path),
            none.1,
          )

      behind_ok : (local : ℕ) (n : Naming) (m : ℕ) (t : Target) → slice_get targets m ≡ Some t → t.local ≡ n.place.local →
          (steps : List Step) → n.place.steps ≡ ToContent ∷ steps → n.unique ≡ true →
          may_change items local_ty is_target n.place ≡ true →
          marked_naming items protects number bodies local (Some n) ≡ true →
          Each (λ (g : Addr × ℕ). Spaced g.0 (record t.address { path = t.address.path ++ path_at held steps })
          × (record t.address { path = t.address.path ++ path_at held steps } ≡ g.0 →
          list_all (λ body. protects body local) bodies ≡ true)) guards
      behind_ok local n m t is_at same steps is uniq changes mark =
          all_of guards (spaced m t is_at unique) (exact m t is_at unique)
        where
          ty : (id : TyId) × ((local_ty t.local ≡ Some id) × (type_at items id ≡ Some (names_it t.unique t.to)))
          ty = passed.typed m t is_at

          is_tgt : is_target n.place.local ≡ true
          is_tgt = subst (λ l. is_target l ≡ true) same (passed.is_param m t is_at)

          unique : t.unique ≡ true
          unique = names_unique setting number targets uniques base is_target passed t ty.0 ty.1.1
              (subst (λ o. is_unique items local_ty is_target o ≡ true) (ap local_ty (sym same) ∙ ty.1.0)
              (or_second (is_target n.place.local) _ changes is_tgt))

          so : protects number t.local ≡ true → steps ≡ [] → list_all (λ body. protects body local) bodies ≡ true
          so h none = or_second (n.unique && (is_content n.place.steps && protects number n.place.local)) _ mark
              (ap (λ b. b && (is_content n.place.steps && protects number n.place.local)) uniq
              ∙ ap (λ l. is_content l && protects number n.place.local) (is ∙ ap (λ l. ToContent ∷ l) none)
              ∙ ap (protects number) (sym same) ∙ h)

          one : (a : Addr) → Spaced a t.address → (t.address ≡ a → protects number t.local ≡ true) →
              Spaced a (record t.address { path = t.address.path ++ path_at held steps })
              × (record t.address { path = t.address.path ++ path_at held steps } ≡ a →
              list_all (λ body. protects body local) bodies ≡ true)
          one a s x = (
            further a t.address (path_at held steps) s,
            (λ e. let z = exactly a t.address (path_at held steps) s e in so (x z.0) (ends_there held steps z.1)),
          )

          all_of : (gs : List (Addr × ℕ)) → Each (λ (g : Addr × ℕ). Spaced g.0 t.address) gs →
              Each (λ (g : Addr × ℕ). t.address ≡ g.0 → protects number t.local ≡ true) gs →
              Each (λ (g : Addr × ℕ). Spaced g.0 (record t.address { path = t.address.path ++ path_at held steps })
              × (record t.address { path = t.address.path ++ path_at held steps } ≡ g.0 →
              list_all (λ body. protects body local) bodies ≡ true)) gs
          all_of [] s x = tt
          all_of (g ∷ gs) s x = (one g.0 s.0 x.0, all_of gs s.1 x.1)

      unique_of : (b c : Bool) → if_so b c ≡ true → b ≡ true → c ≡ true
      unique_of true c h e = h
      unique_of false c h e = absurd (false≢true e)

      name_ok : (local : ℕ) (unique : Bool) (to : TyId) (n : Naming) (d : Datum) →
          names_well items local_ty is_target last start unique to n ≡ true → NamesAt setting number targets uniques base
          is_target passed depth held n.place d → marked_naming items protects number bodies local (Some n) ≡ true →
          Each (TargetOk bodies) (target_if (Some (names_it unique to)) local d)
      name_ok local unique to n d well at mark = by at
        where
          front : ((if_so unique n.unique && option_map_or (same_id to) (id_of items local_ty is_target n.place) false)
              && (sure_place items local_ty is_target last n.place
              && (not unique || may_change items local_ty is_target n.place))) ≡ true
          front = first ((if_so unique n.unique && option_map_or (same_id to) (id_of items local_ty is_target n.place) false)
              && (sure_place items local_ty is_target last n.place
              && (not unique || may_change items local_ty is_target n.place)))
              (may_use (watched_at items local_ty (record { node = 0; place = n.place })) (presence n.place.local start))
              well

          is_uniq : unique ≡ true → n.unique ≡ true
          is_uniq u = unique_of unique n.unique (first (if_so unique n.unique) _
              (first (if_so unique n.unique && option_map_or (same_id to) (id_of items local_ty is_target n.place) false) _
              front)) u

          changes : unique ≡ true → may_change items local_ty is_target n.place ≡ true
          changes u = or_second unique _ (second (sure_place items local_ty is_target last n.place) _
              (second (if_so unique n.unique && option_map_or (same_id to) (id_of items local_ty is_target n.place) false) _
              front)) u

          with_address : (a : Addr) → d ≡ Address a → (unique ≡ true → Each (λ (g : Addr × ℕ). Spaced g.0 a
              × (a ≡ g.0 → list_all (λ body. protects body local) bodies ≡ true)) guards) →
              Each (TargetOk bodies) (target_if (Some (names_it unique to)) local d)
          with_address a e f = subst (λ x. Each (TargetOk bodies) (target_if (Some (names_it unique to)) local x)) (sym e)
              (subst (Each (TargetOk bodies)) (sym (one_target unique to local a)) (f, tt))

          by : NamesAt setting number targets uniques base is_target passed depth held n.place d →
              Each (TargetOk bodies) (target_if (Some (names_it unique to)) local d)
          by (own_names own e) = with_address _ e
              (λ u. own_ok local n.place.local (path_at held n.place.steps))
          by (behind_names m t is_at same steps is e) = with_address _ e
              (λ u. behind_ok local n m t is_at same steps is (is_uniq u) (changes u) mark)

      pub targets_ok : (local : ℕ) (ids : List TyId) (names : List Naming) (ds : List Datum) → M local ids names ds →
          Each (TargetOk bodies) (targets_of items local ids ds)
      targets_ok _ _ _ _ (no_mark local) = tt
      targets_ok _ _ _ _ (value_mark local id ids more names d ds none fit rest) =
          subst (λ l. Each (TargetOk bodies) (l ++ targets_of items (suc local) ids ds))
          (sym (no_target (type_at items id) local d none)) (targets_ok (suc local) ids names ds rest)
      targets_ok _ _ _ _ (name_mark local id ids unique to n names d ds e well at mark rest) =
          each_append (TargetOk bodies) (target_if (type_at items id) local d) (targets_of items (suc local) ids ds)
          (subst (λ o. Each (TargetOk bodies) (target_if o local d)) (sym e)
          (name_ok local unique to n d well at mark)) (targets_ok (suc local) ids names ds rest)
