-- What is left where a value was dropped in which no `Drop` body is to run.
use Rattle.std.proofs.Common.{◌≡◌, ◌⊎◌, inl, inr, ℕ, suc, ◌==◌, ◌+◌, ◌<◌, ◌≤◌, List, [], ◌∷◌, ◌++◌, length, Bool, true, false, Option, Some, None, refl, ap, sym, subst, ◌∙◌, arith, append_assoc, append-nil}
use Rattle.std.specs.Option.{option_map_or}
use Rattle.machine_steps.specs.Continuation.{from_part, expected_if, VisitsLeft, is_still, type_of_number, IsPlain, Level, PartsOf, ContentOf, at_path, found_as, LeavesLeft, GoesLeft, ReadLeft}
use Rattle.machine_steps.specs.Swept.{freed, freed_parts, HasType, IsFoundAgain, IsSwept, ArePartsSwept, is_there, with_events}
use Rattle.machine_steps.proofs.Below.{same_number, cell_stored, as_many, stored_in, local_of, located_stored, located_step, into_is, next_part, stands_at}
use Rattle.machine_steps.proofs.Dropping.{part_replaced}
use Rattle.machine_steps.proofs.DropSteps.{still_is, typed_by_number, clear_goes, free_goes, leave_goes, go_content, go_end, go_part, visit_reads, read_gone, read_plain, read_parts, read_box}
use Rattle.mir_base.specs.declared.trace.Event.{Event}
use Rattle.store_model.proofs.Values.Access.{none_or_some, replaced-step, replaced-no_step, part-replaced}
use Rattle.store_model.proofs.Values.OnePart.{with_part-with_part}
use Rattle.store_model.specs.declared.address.Addr.{Addr}
use Rattle.store_model.specs.declared.address.At.{At}
use Rattle.store_model.specs.declared.address.At.TheVariants.{Part, Inside}
use Rattle.store_model.specs.Concrete.Drops.{Stage, Begins, if_still_typed, same_if, gone_at, freed_there, freed_at}
use Rattle.store_model.specs.Concrete.Location.{Setting, DynamicType, Located, into, located_at, stored_at, type_of_part}
use Rattle.store_model.specs.Concrete.State.{State, Activation, Cells, cell, with_cell, at_depth, with_cell_at, with_event, Bodies}
use Rattle.store_model.specs.Effects.{Mode, Out, Go}
use Rattle.store_model.specs.Values.Access.{part, with_part, replaced}
use Rattle.store_model.specs.Values.Datum.{Datum, Data, Gone, Number, Truth, UnitValue, Aggregate, Box, Address, no_part, a_part}
use Rattle.store_model.specs.Values.Parts.{count}

-- What was stored within a place is lost where the place is stored into.

replaced_over : (path below : List At) (new later root : Datum) → replaced path later (replaced (path ++ below) new root) ≡ replaced path later root
replaced_over [] below new later root = refl
replaced_over (step ∷ path) below new later root =
    elim (none_or_some (part step root)) [
      | inl none ↦ ap (replaced (step ∷ path) later) (replaced-no_step step (path ++ below) new root none)
      | inr some ↦ (
          let first = replaced-step step (path ++ below) new root some.0 some.1 in
          let again = replaced-step step path later (replaced (step ∷ (path ++ below)) new root) (replaced (path ++ below) new some.0) (part-replaced step (path ++ below) new root some.0 some.1) in
          again ∙ ap (λ x. with_part step x (replaced (step ∷ (path ++ below)) new root)) (replaced_over path below new later some.0) ∙ ap (with_part step (replaced path later some.0)) first
          ∙ with_part-with_part step (replaced (path ++ below) new some.0) (replaced path later some.0) root ∙ sym (replaced-step step path later root some.0 some.1)
          )
    ]

cell_over : (key : ℕ) (new later : Datum) (cells : Cells) → with_cell key later (with_cell key new cells) ≡ with_cell key later cells
cell_over key new later [] = rw (same_number key) refl
cell_over key new later (c ∷ cells) = go (cell_over key new later cells) (key == c.0) refl
  where
    go : with_cell key later (with_cell key new cells) ≡ with_cell key later cells → (b : Bool) → (key == c.0) ≡ b → with_cell key later (with_cell key new (c ∷ cells)) ≡ with_cell key later (c ∷ cells)
    go ih true e = rw (e, same_number key) refl
    go ih false e = rw (e, e) (ap (λ l. c ∷ l) ih)

cell_at_over : (depth key : ℕ) (new later : Datum) (acts : List Activation) → with_cell_at depth key later (with_cell_at depth key new acts) ≡ with_cell_at depth key later acts
cell_at_over depth key new later [] = refl
cell_at_over depth key new later (a ∷ older) = go (cell_at_over depth key new later older) (depth == length older) refl
  where
    go : with_cell_at depth key later (with_cell_at depth key new older) ≡ with_cell_at depth key later older → (b : Bool) → (depth == length older) ≡ b →
        with_cell_at depth key later (with_cell_at depth key new (a ∷ older)) ≡ with_cell_at depth key later (a ∷ older)
    go ih true e = rw (e, e) (ap (λ cells. (record a { cells = cells }) ∷ older) (cell_over key new later a.cells))
    go ih false e = rw (e, as_many depth key new older, e) (ap (λ l. a ∷ l) ih)

stored_over : (setting : Setting) (w : State) (address : Addr) (s : Located) → located_at setting w address ≡ Some s → (below : List At) (new later : Datum) →
    (stored_at address later (stored_at (record address { path = address.path ++ below }) new w)).activations ≡ (stored_at address later w).activations
stored_over setting w address s there below new later =
    let l = local_of setting w address s there in
    let key = address.key.0 in
    let root = option_map_or (λ (a : Activation). cell key a.cells) (at_depth address.depth w.activations) Gone in
    let value = replaced (address.path ++ below) new root in
    let stored : option_map_or (λ (a : Activation). cell key a.cells) (at_depth address.depth (with_cell_at address.depth key value w.activations)) Gone ≡ value =
    ap (λ o. option_map_or (λ (a : Activation). cell key a.cells) o Gone) (stored_in address.depth key value w.activations l.activation l.there) ∙ cell_stored key value l.activation.cells
    in
    ap (λ r. with_cell_at address.depth key (replaced address.path later r) (with_cell_at address.depth key value w.activations)) stored
    ∙ cell_at_over address.depth key value (replaced address.path later value) w.activations
    ∙ ap (λ d. with_cell_at address.depth key d w.activations) (replaced_over address.path below new later root)

no_events : (w : State) → with_events [] w ≡ w
no_events w = ap (λ t. record w { trace = t }) (append-nil w.trace)

module _ (setting : Setting) (run : Bodies) (depth key : ℕ) where
  abbrev at : List At → Addr
  at path = at_path setting run depth key path

  abbrev found : List At → DynamicType → Datum → Located
  found path dynamic value = found_as setting run depth key path dynamic value

  abbrev after : List Event → List At → State → State
  after events path w = with_events events (stored_at (at path) Gone w)

  gone_goes : (w : State) (path : List At) (dynamic : DynamicType) (s : Located) → located_at setting w (at path) ≡ Some s → is_still setting.items dynamic s.dynamic ≡ true →
      gone_at setting run (found path dynamic Gone) w ≡ Go (stored_at (at path) Gone w)
  gone_goes w path dynamic s e f =
      ap (λ o. if_still_typed setting.items dynamic o (λ s w. Go (stored_at s.address Gone w)) w) e
      ∙ still_is setting.items dynamic s (λ s w. Go (stored_at s.address Gone w)) w
      ∙ ap (λ b. same_if b (λ w. Go (stored_at s.address Gone w)) w) f
      ∙ ap (λ a. Go (stored_at a Gone w)) (stands_at setting w (at path) s e)

  freed_goes : (w : State) (path : List At) (dynamic : DynamicType) (serial : ℕ) (impl_no : Option ℕ) (inside : Datum) → located_at setting w (at path) ≡ Some (found path dynamic (Box serial impl_no inside)) →
      is_still setting.items dynamic dynamic ≡ true →
      freed_at setting run (found path dynamic Gone) w ≡ Go (with_event (Event.Freed serial) (stored_at (at path) Gone w))
  freed_goes w path dynamic serial impl_no inside e f =
      ap (λ o. if_still_typed setting.items dynamic o (λ s w. freed_there setting run s.value s w) w) e
      ∙ still_is setting.items dynamic (found path dynamic (Box serial impl_no inside)) (λ s w. freed_there setting run s.value s w) w
      ∙ ap (λ b. same_if b (λ w. freed_there setting run (Box serial impl_no inside) (found path dynamic (Box serial impl_no inside)) w) w) f

  -- after something within a place was swept: the place is as it was, or with that gone
  abbrev Within : State → State → List At → Type 0
  Within w v path = (v.activations ≡ w.activations) ⊎ (v.activations ≡ (stored_at (at path) Gone w).activations)

  gone_within : (w v : State) (path below : List At) (s : Located) → located_at setting w (at path) ≡ Some s → Within w v (path ++ below) →
      (stored_at (at path) Gone v).activations ≡ (stored_at (at path) Gone w).activations
  gone_within w v path below s there (inl e) = ap (λ acts. (stored_at (at path) Gone (record w { activations = acts })).activations) e
  gone_within w v path below s there (inr e) =
      ap (λ acts. (stored_at (at path) Gone (record w { activations = acts })).activations) e ∙ stored_over setting w (at path) s there below Gone Gone

  -- what was freed first, and then the rest
  freed_both : (w v : State) (path : List At) (first later : List Event) → v ≡ record w { activations = v.activations; trace = w.trace ++ first } →
      (stored_at (at path) Gone v).activations ≡ (stored_at (at path) Gone w).activations → with_events later (stored_at (at path) Gone v) ≡ after (first ++ later) path w
  freed_both w v path first later is gone =
      ap (λ acts. record v { activations = acts; trace = v.trace ++ later }) gone
      ∙ ap (λ (u : State). record u { activations = (stored_at (at path) Gone w).activations; trace = u.trace ++ later }) is
      ∙ ap (λ t. record w { activations = (stored_at (at path) Gone w).activations; trace = t }) (append_assoc w.trace first later)

  -- the container of a part that was swept
  record StandsNext (v : State) (path : List At) (dynamic : DynamicType) (variant next : ℕ) (serial : Option ℕ) (rest : Data) : Type 0 where
    pub now : Data
    pub there : located_at setting v (at path) ≡ Some (found path dynamic (Aggregate variant serial now))
    pub left : from_part (suc next) now ≡ rest

  stands_next : (w v : State) (path : List At) (dynamic : DynamicType) (variant next : ℕ) (serial : Option ℕ) (now : Data) (first : Datum) (rest : Data) →
      located_at setting w (at path) ≡ Some (found path dynamic (Aggregate variant serial now)) → from_part next now ≡ a_part first rest → Within w v (path ++ Part next ∷ []) →
      StandsNext v path dynamic variant next serial rest
  stands_next w v path dynamic variant next serial now first rest there from (inl e) = record {
    now = now;
    there = ap (λ acts. located_at setting (record w { activations = acts }) (at path)) e ∙ there;
    left = (next_part next now first rest from).1;
  }
  stands_next w v path dynamic variant next serial now first rest there from (inr e) =
      let p = part_replaced (suc next) next [] Gone variant serial now (omega arith) in
      record {
        now = p.later;
        there = ap (λ acts. located_at setting (record w { activations = acts }) (at path)) e
            ∙ located_stored setting w (at path) (found path dynamic (Aggregate variant serial now)) there (Part next ∷ []) Gone
            ∙ ap (λ d. Some (found path dynamic d)) p.is;
        left = p.same ∙ (next_part next now first rest from).1;
      }

  record BoxStands (v : State) (path : List At) (dynamic : DynamicType) (serial : ℕ) (impl_no : Option ℕ) : Type 0 where
    pub inside : Datum
    pub there : located_at setting v (at path) ≡ Some (found path dynamic (Box serial impl_no inside))

  box_stands : (w v : State) (path : List At) (dynamic : DynamicType) (serial : ℕ) (impl_no : Option ℕ) (inside : Datum) →
      located_at setting w (at path) ≡ Some (found path dynamic (Box serial impl_no inside)) → Within w v (path ++ Inside ∷ []) → BoxStands v path dynamic serial impl_no
  box_stands w v path dynamic serial impl_no inside there (inl e) =
      record { inside = inside; there = ap (λ acts. located_at setting (record w { activations = acts }) (at path)) e ∙ there }
  box_stands w v path dynamic serial impl_no inside there (inr e) = record {
    inside = Gone;
    there = ap (λ acts. located_at setting (record w { activations = acts }) (at path)) e
        ∙ located_stored setting w (at path) (found path dynamic (Box serial impl_no inside)) there (Inside ∷ []) Gone;
  }

  module _ (mode : Mode) (panicked : Bool) (out : Out State) where
    abbrev Leaves : List Level → State → List At → Type 0
    Leaves levels w path = LeavesLeft setting run depth key levels w path mode panicked out

    abbrev Goes : List Level → State → List At → Type 0
    Goes levels w path = GoesLeft setting run depth key levels w path mode panicked out

    abbrev Reads : List Level → State → List At → Stage → Located → Type 0
    Reads levels w path stage s = ReadLeft setting run depth key levels w path mode panicked out stage s

    -- a part was swept
    record SweptTo (levels : List Level) (w : State) (path : List At) (value : Datum) : Type 0 where
      pub v : State
      pub left : Leaves levels v path
      pub is : v ≡ record w { activations = v.activations; trace = w.trace ++ freed value }
      pub within : Within w v path

    -- where something stands so, its drop comes to this
    abbrev ComesTo : Datum → (List Level → State → List At → Type 0) → Stage → Type 0
    ComesTo value Comes stage =
        (levels : List Level) (w : State) (path : List At) (dynamic : DynamicType) → located_at setting w (at path) ≡ Some (found path dynamic value) → IsSwept setting.items stage value dynamic →
        Reads levels w path stage (found path dynamic value) → Comes levels w path

    abbrev Sweeps : Datum → Type 0
    Sweeps value = ComesTo value (λ levels w path. SweptTo levels w path value) Begins

    abbrev SweepsWhole : Datum → Stage → Type 0
    SweepsWhole value stage = ComesTo value (λ levels w path. Leaves levels (after (freed value) path w) path) stage

    abbrev PartsSweep : Data → Type 0
    PartsSweep rest =
        (levels : List Level) (w : State) (path : List At) (dynamic : DynamicType) (variant next total : ℕ) (serial : Option ℕ) (now : Data) →
        located_at setting w (at path) ≡ Some (found path dynamic (Aggregate variant serial now)) → from_part next now ≡ rest → next + count rest ≡ total →
        IsFoundAgain setting.items dynamic → ArePartsSwept setting.items rest dynamic variant next → Goes (PartsOf dynamic variant next total w.ticks ∷ levels) w path →
        Leaves levels (after (freed_parts rest) path w) path

    whole_swept : (value : Datum) → SweepsWhole value Begins → Sweeps value
    whole_swept value sweeps levels w path dynamic there swept reads =
        record { v = after (freed value) path w; left = sweeps levels w path dynamic there swept reads; is = refl; within = inr refl }

    gone_swept : Sweeps Gone
    gone_swept levels w path dynamic there swept reads = record {
      v = w;
      left = read_gone setting run depth key levels mode panicked out w path Begins (found path dynamic Gone) there reads refl;
      is = sym (no_events w);
      within = inl refl;
    }

    plain_swept : (stage : Stage) (value : Datum) → IsPlain value → (levels : List Level) (w : State) (path : List At) (dynamic : DynamicType) → located_at setting w (at path) ≡ Some (found path dynamic value) →
        IsFoundAgain setting.items dynamic → Reads levels w path stage (found path dynamic value) → Leaves levels (after [] path w) path
    plain_swept stage value plain levels w path dynamic there again reads =
        subst (λ v. Leaves levels v path) (sym (no_events (stored_at (at path) Gone w)))
        (clear_goes setting run depth key levels mode panicked out w (stored_at (at path) Gone w) path dynamic
        (read_plain setting run depth key levels mode panicked out w path stage (found path dynamic value) there reads plain) (gone_goes w path dynamic (found path dynamic value) there again))

    no_part_swept : PartsSweep no_part
    no_part_swept levels w path dynamic variant next total serial now there from counted again swept goes =
        let l : total ≤ next = (let k : next + 0 ≡ total = counted in omega (arith, k)) in
        subst (λ v. Leaves levels v path) (sym (no_events (stored_at (at path) Gone w)))
        (clear_goes setting run depth key levels mode panicked out w (stored_at (at path) Gone w) path dynamic
        (go_end setting run depth key levels mode panicked out w path dynamic variant next total w.ticks goes l) (gone_goes w path dynamic (found path dynamic (Aggregate variant serial now)) there again))

    a_part_swept : (first : Datum) (rest : Data) → Sweeps first → PartsSweep rest → PartsSweep (a_part first rest)
    a_part_swept first rest sweeps others levels w path dynamic variant next total serial now there from counted again swept goes =
        go (type_of_number setting.items dynamic variant next) refl swept.0
      where
        go : (o : Option DynamicType) → type_of_number setting.items dynamic variant next ≡ o → HasType o (IsSwept setting.items Begins first) → Leaves levels (after (freed first ++ freed_parts rest) path w) path
        go None e h = absurd h
        go (Some child) e h =
            let whole = found path dynamic (Aggregate variant serial now) in
            let one = found (path ++ Part next ∷ []) child first in
            let is_one : into setting.items (Part next) whole ≡ Some one =
            into_is setting.items (Part next) whole first child (next_part next now first rest from).0 (typed_by_number setting.items dynamic variant next serial now ∙ e)
            in
            let there_one : located_at setting w (at (path ++ Part next ∷ [])) ≡ Some one = located_step setting w (at path) whole there (Part next) ∙ is_one in
            let l : next < total = (let k : next + suc (count rest) ≡ total = counted in omega (arith, k)) in
            let inner : List Level = PartsOf dynamic variant (suc next) total w.ticks ∷ levels in
            let visits = subst (VisitsLeft setting run depth key inner w (path ++ Part next ∷ []) mode panicked out Begins) (ap (λ b. expected_if b child) (same_number w.ticks))
            (go_part setting run depth key levels mode panicked out w path dynamic variant next total w.ticks goes l child e)
            in
            let reads = visit_reads setting run depth key inner mode panicked out w (path ++ Part next ∷ []) Begins None visits one there_one refl in
            let r = sweeps inner w (path ++ Part next ∷ []) child there_one h reads in
            let same_ticks : r.v.ticks ≡ w.ticks = ap (λ (v : State). v.ticks) r.is in
            let goes_on : Goes (PartsOf dynamic variant (suc next) total r.v.ticks ∷ levels) r.v path =
            subst (λ t. Goes (PartsOf dynamic variant (suc next) total t ∷ levels) r.v path) (sym same_ticks)
            (leave_goes setting run depth key levels mode panicked out (PartsOf dynamic variant (suc next) total w.ticks) r.v path (Part next) r.left)
            in
            let stands = stands_next w r.v path dynamic variant next serial now first rest there from r.within in
            let left = others levels r.v path dynamic variant (suc next) total serial stands.now stands.there stands.left (let k : next + suc (count rest) ≡ total = counted in omega (arith, k)) again swept.1 goes_on in
            subst (λ v. Leaves levels v path) (freed_both w r.v path (freed first) (freed_parts rest) r.is (gone_within w r.v path (Part next ∷ []) whole there r.within)) left

    aggregate_swept : (stage : Stage) (variant : ℕ) (serial : Option ℕ) (parts : Data) → PartsSweep parts → SweepsWhole (Aggregate variant serial parts) stage
    aggregate_swept stage variant serial parts sweep levels w path dynamic there swept reads =
        sweep levels w path dynamic variant 0 (count parts) serial parts there refl (let k : 0 + count parts ≡ count parts = omega arith in k) swept.0 swept.2
        (read_parts setting run depth key levels mode panicked out w path stage (found path dynamic (Aggregate variant serial parts)) there reads variant serial parts refl
        swept.1)

    box_swept : (stage : Stage) (serial : ℕ) (impl_no : Option ℕ) (inside : Datum) → Sweeps inside → SweepsWhole (Box serial impl_no inside) stage
    box_swept stage serial impl_no inside sweeps levels w path dynamic there swept reads = go (type_of_part setting.items Inside (Box serial impl_no inside) dynamic) refl swept.1
      where
        go : (o : Option DynamicType) → type_of_part setting.items Inside (Box serial impl_no inside) dynamic ≡ o → HasType o (IsSwept setting.items Begins inside) →
            Leaves levels (after (freed inside ++ Event.Freed serial ∷ []) path w) path
        go None e h = absurd h
        go (Some child) e h =
            let whole = found path dynamic (Box serial impl_no inside) in
            let one = found (path ++ Inside ∷ []) child inside in
            let is_one : into setting.items Inside whole ≡ Some one = into_is setting.items Inside whole inside child refl e in
            let there_one : located_at setting w (at (path ++ Inside ∷ [])) ≡ Some one = located_step setting w (at path) whole there Inside ∙ is_one in
            let inner : List Level = ContentOf dynamic ∷ levels in
            let visits = read_box setting run depth key levels mode panicked out w path stage whole there reads serial impl_no inside refl one is_one in
            let r = sweeps inner w (path ++ Inside ∷ []) child there_one h (visit_reads setting run depth key inner mode panicked out w (path ++ Inside ∷ []) Begins None visits one there_one refl) in
            let frees = go_content setting run depth key levels mode panicked out r.v path dynamic (leave_goes setting run depth key levels mode panicked out (ContentOf dynamic) r.v path Inside r.left) in
            let stands = box_stands w r.v path dynamic serial impl_no inside there r.within in
            let left = free_goes setting run depth key levels mode panicked out r.v (with_event (Event.Freed serial) (stored_at (at path) Gone r.v)) path dynamic frees
            (freed_goes r.v path dynamic serial impl_no stands.inside stands.there swept.0)
            in
            subst (λ v. Leaves levels v path) (freed_both w r.v path (freed inside) (Event.Freed serial ∷ []) r.is (gone_within w r.v path (Inside ∷ []) whole there r.within)) left

    mutual
      value_swept : (value : Datum) → Sweeps value
      value_swept Gone = gone_swept
      value_swept (Number number) = whole_swept (Number number) (plain_swept Begins (Number number) tt)
      value_swept (Truth truth) = whole_swept (Truth truth) (plain_swept Begins (Truth truth) tt)
      value_swept UnitValue = whole_swept UnitValue (plain_swept Begins UnitValue tt)
      value_swept (Aggregate variant serial parts) = whole_swept (Aggregate variant serial parts) (aggregate_swept Begins variant serial parts (parts_swept parts))
      value_swept (Box serial impl_no inside) = whole_swept (Box serial impl_no inside) (box_swept Begins serial impl_no inside (value_swept inside))
      value_swept (Address address) = whole_swept (Address address) (plain_swept Begins (Address address) tt)

      parts_swept : (parts : Data) → PartsSweep parts
      parts_swept no_part = no_part_swept
      parts_swept (a_part first rest) = a_part_swept first rest (value_swept first) (parts_swept rest)

    all_swept : (stage : Stage) (value : Datum) → is_there value ≡ true → SweepsWhole value stage
    all_swept stage (Aggregate variant serial parts) e = aggregate_swept stage variant serial parts (parts_swept parts)
    all_swept stage (Box serial impl_no inside) e = box_swept stage serial impl_no inside (value_swept inside)
    all_swept stage Gone e = absurd (cc)
    all_swept stage (Number number) e = plain_swept stage (Number number) tt
    all_swept stage (Truth truth) e = plain_swept stage (Truth truth) tt
    all_swept stage UnitValue e = plain_swept stage UnitValue tt
    all_swept stage (Address address) e = plain_swept stage (Address address) tt

    -- what was read is dropped in one go
    pub read_swept : (levels : List Level) (w : State) (path : List At) (stage : Stage) (s : Located) → located_at setting w (at path) ≡ Some s → IsSwept setting.items stage s.value s.dynamic → is_there s.value ≡ true →
        Reads levels w path stage s → Leaves levels (after (freed s.value) path w) path
    read_swept levels w path stage s there swept stands reads =
        let same : s ≡ found path s.dynamic s.value = ap (λ a. record { address = a; dynamic = s.dynamic; value = s.value }) (stands_at setting w (at path) s there) in
        all_swept stage s.value stands levels w path s.dynamic (there ∙ ap Some same) swept (subst (Reads levels w path stage) same reads)
