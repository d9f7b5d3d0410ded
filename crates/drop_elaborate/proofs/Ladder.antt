-- A ladder does what the drop of what remains does.
use Rattle.std.proofs.Common.{◌≡◌, ◌≢◌, ◌⊎◌, inl, inr, ℕ, suc, ◌==◌, ◌≤◌, ◌<◌, Bool, true, false, List, [], Option, Some, None, refl, ap, sym, ◌∙◌, subst, arith}
use Rattle.std.proofs.lemmas.Bool.Decides.{eqb_tells}
use Rattle.mir_ty.specs.declared.ty.TyId.{TyId}
use Rattle.mir_ty.specs.ItemTable.{ItemTable}
use Rattle.cfg_graph.specs.declared.graph.Body.{Body}
use Rattle.cfg_graph.specs.declared.place.Place.{Place}
use Rattle.cfg_graph.specs.declared.place.Step.{Step}
use Rattle.cfg_graph.specs.declared.terminator.Term.{Term}
use Rattle.cfg_graph.specs.Places.{named}
use Rattle.cfg_meaning.specs.Walk.{Next, branch, renamed_choice, naming}
use Rattle.store_model.specs.declared.address.At.TheVariants.{Part, Inside}
use Rattle.store_model.specs.Concrete.Effects.{concrete_effects, chosen_if, variant_tested}
use Rattle.store_model.specs.Values.Datum.{Datum, Data, Gone, Truth, Aggregate, Box, no_part, a_part}
use Rattle.store_model.specs.Concrete.Drops.{in_mode, Begins, freed_at, drop_at}
use Rattle.store_model.specs.Effects.{Mode, Normal, Unwinding, Stuck, Out, Neither}
use Rattle.store_model.specs.Values.Access.{part, with_part}
use Rattle.store_model.specs.Concrete.Location.{Setting, DynamicType, concrete_ty, type_of_part, type_of_field, Located, below, into, located_at, on_reached}
use Rattle.store_model.specs.Values.Wholeness.{serials}
use Rattle.store_model.specs.Concrete.State.{State, Bodies}
use Rattle.store_model.proofs.Concrete.Effects.{ticks_of, Spending}
use Rattle.drop_elaborate.specs.Ladder.{Ending, Calmly, Abruptly, mode_in, place_below, FreedAt, FreedBy, LadderAt, PartsAt, CasesAt}
use Rattle.drop_values.specs.Like.{Flags, Like, SameBodies, MayEnter, raw_setting, strict_setting, Extends}
use Rattle.drop_values.specs.Plan.{Plan, Nothing, Entire, ByFlag, InParts, OfBox, ByVariant, Plans, no_plan, a_plan, Cases, no_case, a_case, IfFound, Quiet, Open, Fits, FitsAll, FitsCase}
use Rattle.drop_values.proofs.Stand.{Changed, Changed-Changed, with_value, Into, into-parts, Stands, stands-Changed, stands-into, standing-address, Changed-above}
use Rattle.drop_values.proofs.Frame.{tail, Frames}
use Rattle.drop_values.proofs.Sound.{Sound}
use Rattle.drop_values.proofs.Fresh.{drop_if, drop_rest, aggregate_afresh, box_afresh}
use Rattle.drop_values.proofs.Names.{Names, names-Changed, reached_there}
use Rattle.drop_values.proofs.Quiet.{fits-Sound, fits-all-Sound, fits-case-Sound}
use Rattle.drop_elaborate.proofs.Walks.{unplaced, Walks}
use Rattle.drop_elaborate.proofs.Rungs.{Here as HereOf, here-Changed, Ends as EndsOf, ends-weaken, then_calm, then_abrupt}
use Rattle.drop_elaborate.proofs.IdleLadder.{same_nat, at_block, few', flag-yes, flag-no, idle-walk}
use Rattle.drop_elaborate.proofs.TakenParts.{emptied-serials, later, Current as CurrentOf, Emptied_of as EmptiedOf, StepsTo as StepsToOf, NextPart as NextPartOf, names-below, next, at_first}
use Rattle.drop_elaborate.proofs.EntireDrops.{nothing-ends, entire-ends, freed-ends, shell-ends, if_into, gone-ends}

found_in : (P : DynamicType → Type 0) (o : Option DynamicType) (f : DynamicType) → o ≡ Some f → IfFound o P → P f
found_in P None f e h = absurd (let n : None ≡ Some f = e in cc)
found_in P (Some g) f e h = subst P (let x : g ≡ f = cc in x) h

module _ (items : ItemTable) (local_ty local_ty' : (body local : ℕ) → Option TyId)
    (extends : Extends local_ty local_ty') (run run' : Bodies)
    (frames : Frames (raw_setting items local_ty) run) (spending : Spending run) (most : ℕ)
    (good : ℕ → List Datum → State → Type 0) (may_enter : MayEnter items local_ty good)
    (tie : SameBodies local_ty good most run run') (bound : ℕ) (great : most < bound)
    (body : Body) (node : ℕ → ℕ → ℕ) (Walk : Next State)
    (walks : Walks (naming unplaced (concrete_effects (strict_setting items local_ty') run' bound))
    ticks_of most body node Walk)
    (flags : Flags) (number depth : ℕ) where
  abbrev raw : Setting
  raw = raw_setting items local_ty

  abbrev strict : Setting
  strict = strict_setting items local_ty'

  abbrev L : State → State → Type 0
  L = Like local_ty flags

  abbrev Here : State → Type 0
  Here = HereOf number depth

  -- a local that the elaboration added
  abbrev pub IsFlag : ℕ → Type 0
  IsFlag flag = (local_ty number flag ≡ None) × ((id : TyId) × (local_ty' number flag ≡ Some id))

  abbrev FitsNow : Plan → Datum → DynamicType → Type 0
  FitsNow = Fits items IsFlag (flags depth)

  abbrev pub Ends : (State → Type 0) → ℕ → Ending → Out State → Out State → Type 0
  Ends = EndsOf local_ty flags Walk

  abbrev Current : Place → Located → (k variant : ℕ) → Data → State → State → Type 0
  Current = CurrentOf items local_ty local_ty' extends most number depth

  abbrev Emptied_of : Place → Located → State → State → Type 0
  Emptied_of = EmptiedOf items local_ty local_ty' extends most number depth

  abbrev StepsTo : (ℕ → Step) → ℕ → Type 0
  StepsTo = StepsToOf items local_ty local_ty' extends most number depth

  abbrev NextPart : Place → (ℕ → Step) → Located → (k variant : ℕ) → Datum → Data → State → State → Located → Type 0
  NextPart = NextPartOf items local_ty local_ty' extends most number depth

  mutual
    -- the ladder of a plan does what the drop of the raw graph does
    pub ladder : (plan : Plan) (place : Place) (from to : ℕ) (ending : Ending) (s : Located) (w w' : State) →
        LadderAt body plan place from to ending → FitsNow plan s.value s.dynamic →
        Stands raw w s → Names items local_ty local_ty' extends w (named place) s → Here w → L w w' → w.ticks ≤ most →
        Ends (Changed s.address Gone w) to ending (drop_at raw run bound Begins s (mode_in ending) w) (Walk from w')
    ladder Nothing place from to ending s w w' code fits st names here like l =
        subst (λ n. Ends (Changed s.address Gone w) to ending (drop_at raw run bound Begins s (mode_in ending) w)
        (Walk n w')) (sym code)
        (nothing-ends items local_ty local_ty' extends run run' frames spending most good may_enter tie bound great body
        node Walk walks flags number depth s to ending w w' st fits.0 fits.1
        (fits-Sound items IsFlag (flags depth) Nothing s.value s.dynamic fits) like l)
    ladder Entire place from to ending s w w' code fits st names here like l =
        entire-ends items local_ty local_ty' extends run run' frames spending most good may_enter tie bound great body
        node Walk walks flags number depth place s from to ending w w' code fits st names
        (fits-Sound items IsFlag (flags depth) Entire s.value s.dynamic fits) like l
    ladder (ByFlag flag plan) place from to ending s w w' code fits st names here like l =
        by fits.1 (λ k. ladder plan place code.0 to ending s w w' code.2 k st names here like l)
      where
        by : ((flags depth flag ≡ Truth true) × FitsNow plan s.value s.dynamic)
            ⊎ ((flags depth flag ≡ Truth false) × (s.value ≡ Gone)) →
            (FitsNow plan s.value s.dynamic → Ends (Changed s.address Gone w) to ending
            (drop_at raw run bound Begins s (mode_in ending) w) (Walk code.0 w')) →
            Ends (Changed s.address Gone w) to ending (drop_at raw run bound Begins s (mode_in ending) w) (Walk from w')
        by (inl k) h = subst (Ends (Changed s.address Gone w) to ending
            (drop_at raw run bound Begins s (mode_in ending) w))
            (sym (flag-yes items local_ty local_ty' run' most bound body node Walk walks flags number depth flag code.0
            to from w w' code.1 here like l fits.0 k.0)) (h k.1)
        by (inr k) h = subst (Ends (Changed s.address Gone w) to ending
            (drop_at raw run bound Begins s (mode_in ending) w))
            (sym (flag-no items local_ty local_ty' run' most bound body node Walk walks flags number depth flag code.0
            to from w w' code.1 here like l fits.0 k.0))
            (nothing-ends items local_ty local_ty' extends run run' frames spending most good may_enter tie bound great
            body node Walk walks flags number depth s to ending w w' st (ap serials k.1)
            (subst (λ d. Quiet items d s.dynamic) (sym k.1) tt)
            (subst (λ d. Sound items d s.dynamic) (sym k.1) tt) like l)
    ladder (InParts plans) place from to ending s w w' code (inr k) st names here like l =
        gone-ends items local_ty local_ty' extends run run' frames spending most good may_enter tie bound great body
        node Walk walks flags number depth s from to ending w w'
        (idle-walk items local_ty local_ty' run' most bound body node Walk walks flags number depth
        (InParts plans) place from to ending w w' code k.1 here like l)
        k.0 st like l
    ladder (InParts plans) place from to ending s w w' code (inl fits) st names here like l =
        let t = fits.2 in
        subst (λ o. Ends (Changed s.address Gone w) to ending o (Walk from w'))
        (sym (aggregate_afresh raw run frames spending bound s t.id fits.0 None fits.1 (mode_in ending)
        w t.found_is t.value_is st t.no_body (fits-all-Sound items IsFlag (flags depth) plans fits.1 _ 0 fits.3)
        (omega arith)))
        (shell-ends items local_ty local_ty' extends run run' frames spending most good may_enter tie bound great body
        node Walk walks flags number depth place s t.id to ending w
        (drop_rest raw run frames spending bound fits.1 0 s (mode_in ending) w)
        (Walk from w') t.found_is
        (parts-ladder plans Step.Part fits.1 0 place from to ending s fits.0 fits.1 w w w'
        (λ n c m parts e i. (refl, i)) code fits.3 t.value_is refl
        (at_first items local_ty local_ty' extends most number depth place s w fits.0 fits.1 t st names here l) like))
    ladder (OfBox guard plan) place from to ending s w w' code (inr k) st names here like l =
        gone-ends items local_ty local_ty' extends run run' frames spending most good may_enter tie bound great body
        node Walk walks flags number depth s from to ending w w'
        (idle-walk items local_ty local_ty' run' most bound body node Walk walks flags number depth
        (OfBox guard plan) place from to ending w w' code
        (k.1, k.2) here like l) k.0 st like l
    ladder (OfBox guard plan) place from to ending s w w' code (inl fits) st names here like l =
        let x = fits.2 in
        subst (λ o. Ends (Changed s.address Gone w) to ending o (Walk from w'))
        (sym (box_afresh raw run frames spending bound s x.id x.serial x.impl_no fits.0 fits.1
        (mode_in ending) w x.found_is x.value_is x.content_is x.sure st (omega arith)))
        (by ending code (λ mid e k. if_into items local_ty local_ty' extends run run' frames spending most good
        may_enter tie bound great body node Walk walks flags number depth Content (into items Inside s) mid e w
        (Walk from w')
        (λ t h. ends-weaken local_ty flags Walk (Changed t.address Gone w) Content mid e
        (drop_at raw run bound Begins t (mode_in e) w)
        (Walk from w') (goes_on t h)
        (let c = content t h in ladder plan (place_below place Step.Inside) from mid e t w w' k
        (subst (λ d. FitsNow plan d t.dynamic) (sym c.1) (subst (FitsNow plan fits.0) (sym c.2) fits.3))
        c.0 c.3 here like l))))
      where
        Content : State → Type 0
        Content v = Stands raw v (with_value s (Box fits.2.serial fits.2.impl_no Gone))
            × Names items local_ty local_ty' extends v (named place)
            (with_value s (Box fits.2.serial fits.2.impl_no Gone))
            × ((u : State) → Changed s.address Gone v u → Changed s.address Gone w u) × (v.ticks ≤ most) × Here v

        into_content : (t : Located) → into items Inside s ≡ Some t → Into items Inside s t
        into_content t h = into-parts items Inside s t h

        address : (t : Located) → into items Inside s ≡ Some t → t.address ≡ below s.address Inside
        address t h = standing-address raw w (below s.address Inside) t (stands-into raw w s Inside st ∙ h)

        content : (t : Located) → into items Inside s ≡ Some t → Stands raw w t × (t.value ≡ fits.0)
            × (t.dynamic ≡ fits.1) × Names items local_ty local_ty' extends w (named (place_below place Step.Inside)) t
        content t h =
            let i = into_content t h in (
              ap (located_at raw w) (address t h) ∙ stands-into raw w s Inside st ∙ h,
              (let same : Some i.value ≡ Some fits.0 = sym i.value_is
                  ∙ ap (part Inside) fits.2.value_is in ap (λ x. x.value) i.is ∙ cc),
              (let same : Some i.dynamic ≡ Some fits.1 = sym i.found_is
                  ∙ ap (λ d. type_of_part items Inside d s.dynamic) fits.2.value_is
                  ∙ fits.2.content_is in ap (λ x. x.dynamic) i.is ∙ cc),
              names-below items local_ty local_ty' extends most number depth w place Step.Inside Inside s t names
                  (refl, i) (address t h),
            )

        goes_on : (t : Located) → into items Inside s ≡ Some t → (v : State) → Changed t.address Gone w v → Content v
        goes_on t h v ch =
            let above = subst (λ d. Changed s.address d w v) (ap (with_part Inside Gone) fits.2.value_is)
            (Changed-above raw w v s t Inside Gone st (into_content t h)
            (subst (λ a. Changed a Gone w v) (address t h) ch)) in (
              stands-Changed raw w v s (Box fits.2.serial fits.2.impl_no Gone) st above,
              names-Changed items local_ty local_ty' extends w v (named place) s (Box fits.2.serial fits.2.impl_no Gone)
                  names above,
              (λ u k. Changed-Changed s.address (Box fits.2.serial fits.2.impl_no Gone) Gone w v u above k),
              (let a = above.less in omega arith),
              here-Changed number depth s.address (Box fits.2.serial fits.2.impl_no Gone) w v above here,
            )

        freed : (m : Mode) (from to : ℕ) (ending : Ending) (v v' : State) → FreedBy body guard place from to ending →
            Content v → L v v' → Ends (Changed s.address Gone w) to ending (freed_at raw run s v) (Walk from v')
        freed m from to ending v v' code c like = by_guard guard fits.4 code
          where
            plainly : (n : ℕ) → FreedAt body place n to ending → Ends (Changed s.address Gone w) to ending
                (freed_at raw run s v) (Walk n v')
            plainly n code =
                let f = freed-ends items local_ty local_ty' extends run run' frames spending most good may_enter tie
                bound great body node Walk walks flags number depth place s fits.2.id fits.2.serial fits.2.impl_no n to
                w v v' code
                fits.2.found_is c.0 c.1 c.2 like c.3 in
                subst (λ o. Ends (Changed s.address Gone w) to ending o (Walk n v')) (sym f.2) (f.1, f.3, f.4, f.5)

            by_guard : (g : Option ℕ) → Open items IsFlag (flags depth) g → FreedBy body g place from to ending →
                Ends (Changed s.address Gone w) to ending (freed_at raw run s v) (Walk from v')
            by_guard None opens code = plainly from code
            by_guard (Some flag) opens code = subst (Ends (Changed s.address Gone w) to ending (freed_at raw run s v))
                (sym (flag-yes items local_ty local_ty' run' most bound body node Walk walks flags number depth flag
                code.0 to from v v' code.1 c.4 like c.3 opens.0 opens.1)) (plainly code.0 code.2)

        by : (ending : Ending) → LadderAt body (OfBox guard plan) place from to ending →
            ((mid : ℕ) (e : Ending) → LadderAt body plan (place_below place Step.Inside) from mid e →
            Ends Content mid e (drop_if raw run frames spending bound (into items Inside s) (mode_in e) w)
            (Walk from w')) →
            Ends (Changed s.address Gone w) to ending
            (in_mode (mode_in ending) (drop_if raw run frames spending bound (into items Inside s)
            (mode_in ending) w) (λ m. freed_at raw run s)) (Walk from w')
        by (Calmly cleanup) code h =
            then_calm local_ty flags Walk Content (Changed s.address Gone w) code.0 code.2.0 to cleanup
            (drop_if raw run frames spending bound (into items Inside s) Normal w) (λ m. freed_at raw run s)
            (Walk from w') (h code.0 (Calmly code.2.0) code.2.2)
            (λ v v' c like. freed Normal code.0 to (Calmly cleanup) v v' code.1 c like)
            (λ v v' c like. freed Unwinding code.2.0 cleanup Abruptly v v' code.2.1 c like)
        by Abruptly code h =
            then_abrupt local_ty flags Walk Content (Changed s.address Gone w) code.0 to
            (drop_if raw run frames spending bound (into items Inside s) Unwinding w) (λ m. freed_at raw run s)
            (Walk from w') (h code.0 Abruptly code.2)
            (λ v v' c like. freed Unwinding code.0 to Abruptly v v' code.1 c like)
    ladder (ByVariant cases) place from to ending s w w' code fits st names here like l =
        let t = fits.2 in
        subst (λ o. Ends (Changed s.address Gone w) to ending o (Walk from w'))
        (sym (aggregate_afresh raw run frames spending bound s t.id fits.0 None fits.1 (mode_in ending)
        w t.found_is t.value_is st t.no_body (fits-case-Sound items IsFlag (flags depth) cases
        fits.0 fits.1 _ fits.3) (omega arith)))
        (shell-ends items local_ty local_ty' extends run run' frames spending most good may_enter tie bound great body
        node Walk walks flags number depth place s t.id to ending w
        (drop_rest raw run frames spending bound fits.1 0 s (mode_in ending) w)
        (Walk from w') t.found_is
        (cases-ladder cases place from to ending s fits.0 fits.1 w w' code fits.3 t.value_is
        (at_first items local_ty local_ty' extends most number depth place s w fits.0 fits.1 t st names here l) like))

    -- the parts from a number on
    parts-ladder : (plans : Plans) (step : ℕ → Step) → (rest : Data) (k : ℕ) (place : Place) (from to : ℕ)
        (ending : Ending) (s : Located) (variant : ℕ) (parts : Data) (w0 w w' : State) → StepsTo step variant →
        PartsAt body plans step k place from to ending →
        FitsAll items IsFlag (flags depth) plans rest (λ n. type_of_field items variant n (concrete_ty items s.dynamic))
        k → s.value ≡ Aggregate variant None parts → tail k parts ≡ rest → Current place s k variant rest w0 w →
        L w w' →
        Ends (Emptied_of place s w0) to ending (drop_rest raw run frames spending bound rest k s (mode_in ending) w)
        (Walk from w')
    parts-ladder no_plan step no_part k place from to ending s variant parts w0 w w' takes code fits is tails r like = (
      w',
      record {
        value = Aggregate variant None r.parts;
        stands = r.stands;
        none =
            emptied-serials k r.parts r.emptied r.tail_is;
        change = r.change;
      },
      like,
      ap (λ n. Walk n w') code,
    )
    parts-ladder no_plan step (a_part first rest) k place from to ending s variant parts w0 w w'
        takes code fits is tails r like = absurd fits
    parts-ladder (a_plan plan plans) step no_part k place from to ending s variant parts w0 w w'
        takes code fits is tails r like = absurd fits
    parts-ladder (a_plan plan plans) step (a_part first rest) k place from to ending s variant parts
        w0 w w' takes code fits is tails r like =
        by ending code
        (λ mid e c. if_into items local_ty local_ty' extends run run' frames spending most good may_enter tie bound
        great body node Walk walks flags number depth Mid (into items (Part k) s) mid e w (Walk from w')
        (λ t h. let n = part_next t h in
        ends-weaken local_ty flags Walk (Changed t.address Gone w) Mid mid e
        (drop_at raw run bound Begins t (mode_in e) w)
        (Walk from w') n.goes_on
        (ladder plan (place_below place (step k)) from mid e t w w' c
        (subst (λ d. FitsNow plan d t.dynamic) (sym n.value_is)
        (found_in (FitsNow plan first) _ t.dynamic n.found_is fits.0)) n.stands n.names r.here like r.few)))
        (λ from to e v v' c r' like'. parts-ladder plans step rest (suc k) place from to e s variant
        parts w0 v v' takes c fits.1 is (later parts k first rest tails) r' like')
      where
        Mid : State → Type 0
        Mid = Current place s (suc k) variant rest w0

        part_next : (t : Located) → into items (Part k) s ≡ Some t → NextPart place step s k variant first rest w0 w t
        part_next t h = next items local_ty local_ty' extends most number depth place step s k variant parts first rest
            w0 w t takes is tails r h

        by : (ending : Ending) → PartsAt body (a_plan plan plans) step k place from to ending →
            ((mid : ℕ) (e : Ending) → LadderAt body plan (place_below place (step k)) from mid e →
            Ends Mid mid e (drop_if raw run frames spending bound (into items (Part k) s) (mode_in e) w)
            (Walk from w')) →
            ((from to : ℕ) (e : Ending) (v v' : State) → PartsAt body plans step (suc k) place from to e →
            Mid v → L v v' →
            Ends (Emptied_of place s w0) to e (drop_rest raw run frames spending bound rest (suc k) s (mode_in e) v)
            (Walk from v')) →
            Ends (Emptied_of place s w0) to ending
            (in_mode (mode_in ending) (drop_if raw run frames spending bound (into items (Part k) s)
            (mode_in ending) w) (drop_rest raw run frames spending bound rest (suc k) s)) (Walk from w')
        by (Calmly cleanup) code one more =
            then_calm local_ty flags Walk Mid (Emptied_of place s w0) code.0 code.2.0 to cleanup
            (drop_if raw run frames spending bound (into items (Part k) s) Normal w)
            (drop_rest raw run frames spending bound rest (suc k) s) (Walk from w')
            (one code.0 (Calmly code.2.0) code.2.2) (λ v v' c like. more code.0 to (Calmly cleanup) v v' code.1 c like)
            (λ v v' c like. more code.2.0 cleanup Abruptly v v' code.2.1 c like)
        by Abruptly code one more =
            then_abrupt local_ty flags Walk Mid (Emptied_of place s w0) code.0 to
            (drop_if raw run frames spending bound (into items (Part k) s) Unwinding w)
            (drop_rest raw run frames spending bound rest (suc k) s) (Walk from w')
            (one code.0 Abruptly code.2) (λ v v' c like. more code.0 to Abruptly v v' code.1 c like)

    -- the parts of the variant that stands there
    cases-ladder : (cases : Cases) (place : Place) (from to : ℕ) (ending : Ending) (s : Located)
        (variant : ℕ) (parts : Data) (w w' : State) → CasesAt body cases place from to ending →
        FitsCase items IsFlag (flags depth) cases variant parts
        (λ n. type_of_field items variant n (concrete_ty items s.dynamic)) →
        s.value ≡ Aggregate variant None parts → Current place s 0 variant parts w w → L w w' →
        Ends (Emptied_of place s w) to ending (drop_rest raw run frames spending bound parts 0 s (mode_in ending) w)
        (Walk from w')
    cases-ladder no_case place from to ending s variant parts w w' code fits is r like = absurd fits
    cases-ladder (a_case v plans rest) place from to ending s variant parts w w' code fits is r like =
        by fits
        (λ e k. parts-ladder plans (λ n. Step.Field v n) parts 0 place code.0 to ending s variant parts w w w'
        (λ n c m ps h i. (refl, (None, ps, h ∙ ap (λ x. Aggregate x None ps) (sym e)), i)) code.3 k is refl r like)
        (λ k. cases-ladder rest place code.1 to ending s variant parts w w' code.4 k is r like)
      where
        Result : Out State → Type 0
        Result out = Ends (Emptied_of place s w) to ending (drop_rest raw run frames spending bound parts 0 s
            (mode_in ending) w) out

        tested : (b : Bool) → (v == variant) ≡ b → Walk from w' ≡ branch
            (renamed_choice unplaced (chosen_if strict b w')) (Walk code.0) (Walk code.1)
        tested b e =
            let c : Located = with_value s (Aggregate variant None r.parts) in
            let there = reached_there items local_ty local_ty' extends flags w w' (named place) c like r.names in
            at_block items local_ty local_ty' run' most bound body node Walk walks flags number depth from []
            (Term.Case place v code.0 code.1) w' code.2 (few' items local_ty local_ty' run' most bound body node Walk
            walks flags number depth w w' like r.few)
            ∙ ap (λ o. branch (renamed_choice unplaced (on_reached o (λ s. variant_tested strict v s.value w')
            (Neither Stuck w') (Neither Stuck w'))) (Walk code.0) (Walk code.1)) there.reaches
            ∙ ap (λ d. branch (renamed_choice unplaced (variant_tested strict v d w')) (Walk code.0) (Walk code.1))
            there.covers.1
            ∙ ap (λ b. branch (renamed_choice unplaced (chosen_if strict b w')) (Walk code.0) (Walk code.1)) e

        by : ((v ≡ variant) × FitsAll items IsFlag (flags depth) plans parts
            (λ n. type_of_field items variant n (concrete_ty items s.dynamic)) 0) ⊎
            ((v ≢ variant) × FitsCase items IsFlag (flags depth) rest variant parts
            (λ n. type_of_field items variant n (concrete_ty items s.dynamic))) →
            ((v ≡ variant) → FitsAll items IsFlag (flags depth) plans parts
            (λ n. type_of_field items variant n (concrete_ty items s.dynamic)) 0 → Result (Walk code.0 w')) →
            (FitsCase items IsFlag (flags depth) rest variant parts
            (λ n. type_of_field items variant n (concrete_ty items s.dynamic)) → Result (Walk code.1 w')) →
            Result (Walk from w')
        by (inl k) f g = subst Result (sym (tested true (ap (λ x. v == x) (sym k.0) ∙ same_nat v))) (f k.0 k.1)
        by (inr k) f g = elim (eqb_tells v variant) [
          | inl y ↦ absurd (k.0 y.1)
          | inr y ↦ subst Result (sym (tested false y.0)) (g k.1)
        ]
