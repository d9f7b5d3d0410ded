-- A flag is set or cleared in the elaborated run alone.
use Rattle.std.proofs.Common.{◌≡◌, inl, inr, ℕ, suc, ◌==◌, Bool, true, false, ◌&&◌, List, [], ◌∷◌, length, Option, Some, None, if◌then◌else◌, refl, ap, sym, ◌∙◌, subst, arith}
use Rattle.std.proofs.lemmas.Bool.Decides.{eqb_tells}
use Rattle.mir_ty.specs.declared.ty.TyId.{TyId}
use Rattle.mir_ty.specs.ItemTable.{ItemTable}
use Rattle.store_model.specs.Concrete.Effects.{put}
use Rattle.store_model.specs.Values.Datum.{Datum, Truth}
use Rattle.store_model.specs.Effects.{Stuck, Go, Halts}
use Rattle.store_model.specs.Places.Place.{whole_local}
use Rattle.store_model.specs.Concrete.Location.{Setting, root_address, located_root, reach_of, on_reached, CutOff, Nowhere, along, in_youngest, stored_at}
use Rattle.store_model.specs.Concrete.State.{State, Activation, at_depth}
use Rattle.drop_values.specs.Covers.{Covers}
use Rattle.drop_values.specs.Like.{held, body_at, body_of, Flags, Like, strict_setting}
use Rattle.drop_values.proofs.Stand.{Changed, stored-Changed}

-- the flags with one at a depth that holds this
abbrev pub with_flag : Flags → (depth flag : ℕ) → Datum → Flags
with_flag flags depth flag value d k = if (d == depth) && (k == flag) then value else flags d k

module _ (items : ItemTable) (local_ty local_ty' : (body local : ℕ) → Option TyId) (flags : Flags)
    (number depth : ℕ) where
  abbrev strict : Setting
  strict = strict_setting items local_ty'

  pub set-Like : (flag : ℕ) (truth : Bool) (w w' : State) → Like local_ty flags w w' →
      length w.activations ≡ suc depth → body_at depth w ≡ Some number → local_ty number flag ≡ None →
      (id : TyId) → local_ty' number flag ≡ Some id →
      (node : ℕ) → (v' : State) × (put strict (record { node = node; place = whole_local flag })
      (Truth truth) w' ≡ Go v') × Like local_ty (with_flag flags depth flag (Truth truth)) w v'
  set-Like flag truth w w' like deep is none id some node = by w'.activations refl
    where
      same : (d : ℕ) → (d == d) ≡ true
      same d = elim (eqb_tells d d) [ inl y ↦ y.0 | inr y ↦ absurd (y.1 refl) ]

      by : (acts : List Activation) → w'.activations ≡ acts → (v' : State)
          × (put strict (record { node = node; place = whole_local flag }) (Truth truth) w' ≡ Go v')
          × Like local_ty (with_flag flags depth flag (Truth truth)) w v'
      by [] e = absurd (let x : 0 ≡ suc depth = sym (ap length e) ∙ like.count ∙ deep in cc)
      by (a ∷ older) e = (
        stored_at (root_address depth flag) (Truth truth) w',
        ap (λ o. on_reached o (λ s. Go (stored_at s.address (Truth truth) w')) (Halts Stuck w') (Halts Stuck w'))
            (ap (in_youngest strict w' (whole_local flag)) e
            ∙ ap (λ o. on_reached (reach_of (located_root (length older) flag a.cells o))
            (along strict w' a.cells []) CutOff Nowhere) (ap (λ b. local_ty' b flag) number_is ∙ some))
            ∙ ap (λ n. Go (stored_at (root_address n flag) (Truth truth) w')) long,
        record {
          asked = like.asked;
          ticks = like.ticks;
          serial = like.serial;
          trace = like.trace;
          count = changed.count ∙ like.count;
          bodies = λ d. changed.bodies d ∙ like.bodies d;
          covers = λ d k b id h t. subst (Covers (held d k w)) (sym (changed.apart d k (not_flag d k b id h t)))
              (like.covers d k b id h t);
          flags_are = λ d k b h t. held_is d k b h t ((d == depth) && (k == flag)) refl;
        },
      )
        where
          long : length older ≡ depth
          long = let x : suc (length older) ≡ suc depth = sym (ap length e) ∙ like.count ∙ deep in omega (arith, x)

          at : at_depth depth w'.activations ≡ Some a
          at = ap (at_depth depth) e ∙ ap (λ b. if b then Some a else at_depth depth older)
              (ap (λ m. depth == m) long ∙ same depth)

          number_is : a.body ≡ number
          number_is = let x : Some a.body ≡ Some number = sym (ap body_of at) ∙ like.bodies depth ∙ is in cc

          changed : Changed (root_address depth flag) (Truth truth) w'
              (stored_at (root_address depth flag) (Truth truth) w')
          changed = stored-Changed (root_address depth flag) (Truth truth) w' (a, at)

          both : (d k : ℕ) → ((d == depth) && (k == flag)) ≡ true → (d ≡ depth) × (k ≡ flag)
          both d k n = elim (eqb_tells d depth) [
            | inl y ↦ elim (eqb_tells k flag) [
              | inl z ↦ (y.1, z.1)
              | inr z ↦ absurd (let x : false ≡ true = sym (ap (λ b. b && (k == flag)) y.0 ∙ z.0) ∙ n in cc)
            ]
            | inr y ↦ absurd (let x : false ≡ true = sym (ap (λ b. b && (k == flag)) y.0) ∙ n in cc)
          ]

          not_flag : (d k b : ℕ) (id : TyId) → body_at d w ≡ Some b → local_ty b k ≡ Some id →
              ((d == depth) && (k == flag)) ≡ false
          not_flag d k b id h t = go ((d == depth) && (k == flag)) refl
            where
              go : (x : Bool) → ((d == depth) && (k == flag)) ≡ x → x ≡ false
              go false n = refl
              go true n =
                  let p = both d k n in
                  let b_is : b ≡ number = (let x : Some b ≡ Some number = sym h ∙ ap (λ d. body_at d w) p.0
                  ∙ is in cc) in
                  absurd (let x : None ≡ Some id = sym none ∙ ap (local_ty number) (sym p.1)
                  ∙ ap (λ b. local_ty b k) (sym b_is) ∙ t in cc)

          held_is : (d k b : ℕ) → body_at d w ≡ Some b → local_ty b k ≡ None → (x : Bool) →
              ((d == depth) && (k == flag)) ≡ x → held d k (stored_at (root_address depth flag)
              (Truth truth) w') ≡ with_flag flags depth flag (Truth truth) d k
          held_is d k b h t true n =
              let p = both d k n in
              ap (λ d. held d k (stored_at (root_address depth flag) (Truth truth) w')) p.0
              ∙ ap (λ k. held depth k (stored_at (root_address depth flag) (Truth truth) w')) p.1 ∙ changed.here
              ∙ sym (ap (λ x. if x then Truth truth else flags d k) n)
          held_is d k b h t false n = changed.apart d k n ∙ like.flags_are d k b h t
              ∙ sym (ap (λ x. if x then Truth truth else flags d k) n)
