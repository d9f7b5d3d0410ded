-- What is known of an activation as its body begins: its parameters have whole values of their types, what its
-- reference parameters name is whole, and nothing was changed yet.
use Rattle.std.proofs.Common.{◌≡◌, ◌≢◌, ℕ, suc, ◌+◌, ◌<◌, ◌==◌, Bool, true, false, List, [], ◌∷◌, length, Some, if◌then◌else◌, refl, ap, sym, ◌∙◌, subst, arith}
use Rattle.std.specs.List.{range_with_len}
use Rattle.std.specs.Prelude.{slice_get, option_and_then}
use Rattle.std.proofs.lemmas.Bool.Decides.{Decides-eqb}
use Rattle.std.proofs.lemmas.Option.{none-some}
use Rattle.mir_base.specs.declared.trace.Event.{Event}
use Rattle.mir_ty.specs.declared.ty.TyId.{TyId}
use Rattle.store_model.specs.declared.address.Addr.{Addr}
use Rattle.store_model.specs.Values.Datum.{Datum, Address}
use Rattle.store_model.specs.Abstract.Effects.{presence, params_present}
use Rattle.store_model.specs.Abstract.Presence.{Presence, is_present, all_present}
use Rattle.store_model.specs.Concrete.Location.{Setting, OfType, Located, into_all, located_in, located_at}
use Rattle.store_model.specs.Concrete.State.{State, Activation, cell, at_depth, with_event, with_activation, without_activation, older_of}
use Rattle.store_model.specs.Concrete.Bodies.{cells_of_youngest}
use Rattle.src_meaning.specs.Programs.{arguments_from}
use Rattle.soundness_values.specs.Frames.{written}
use Rattle.soundness_values.proofs.Fits.{Fits, whole_if_present, present_if_whole}
use Rattle.soundness_values.proofs.Standings.{Alike, alike_itself, alike_after, stored_same, runs_at}
use Rattle.soundness_values.proofs.Apart.{not_same}
use Rattle.soundness_values.proofs.Frames.{AllApart, one_apart, located_from}
use Rattle.soundness_values.proofs.Known.{Target, StandsFor, Known}
use Rattle.soundness_values.proofs.Bodies.{begun}

-- an activation that runs is no deeper than those that run
below_all : (depth : ℕ) (act : Activation) (acts : List Activation) → at_depth depth acts ≡ Some act →
    depth < length acts
below_all depth act [] e = absurd (none-some act e)
below_all depth act (a ∷ older) e = by (depth == length older) refl e (below_all depth act older)
  where
    by : (b : Bool) → (depth == length older) ≡ b → (if b then Some a else at_depth depth older) ≡ Some act →
        (at_depth depth older ≡ Some act → depth < length older) → depth < suc (length older)
    by true t e later = let same : depth ≡ length older = (Decides-eqb depth (length older)).0 t in omega arith
    by false t e later = let less : depth < length older = later e in omega arith

module _ (setting : Setting) where
  -- an activation on top changes nothing below
  located_below_top : (w : State) (top : Activation) (a : Addr) (s : Located) → located_at setting w a ≡ Some s →
      located_at setting (with_activation top w) a ≡ Some s
  located_below_top w top a s e =
      let r = runs_at setting w a s e in
      let less = below_all a.depth r.act w.activations r.is_at in
      let other : (a.depth == length w.activations) ≡ false = not_same a.depth (length w.activations)
      (λ same. let never : ⊥ = omega arith in never) in
      ap (λ b. option_and_then (into_all setting.items a.path)
      (located_in setting w a.depth a.key.0 (if b then Some top else at_depth a.depth w.activations))) other ∙ e

  -- what stands at addresses, stored there again, changes nothing
  pub data Standing (w : State) : List Addr → List Datum → Type 0 where
    none_stands : Standing w [] []
    one_stands : (a : Addr) (rest : List Addr) (values : List Datum) (s : Located) →
        located_at setting w a ≡ Some s →
        Standing w rest values → Standing w (a ∷ rest) (s.value ∷ values)

  as_many : {w : State} {addresses : List Addr} {values : List Datum} → Standing w addresses values →
      length values ≡ length addresses
  as_many none_stands = refl
  as_many (one_stands a rest values s e h) = ap suc (as_many h)

  written_same : (w : State) (addresses : List Addr) (values : List Datum) → AllApart setting addresses →
      Standing w addresses values → Alike w.activations (written addresses values w).activations
  written_same w [] values _ h = alike_itself w.activations
  written_same w (a ∷ rest) values (one_apart _ _ from apart) (one_stands _ _ more s e h) =
      alike_after (written_same w rest more apart h) _
      (stored_same setting (written rest more w) a s (located_from setting a rest more w from ∙ e))

  module _ (number : ℕ) where
    -- parameters are present, and the other locals are gone
    begins_fit : (l : ℕ) (args : List Datum) →
        ((i : ℕ) (arg : Datum) (id : TyId) → slice_get args i ≡ Some arg →
        setting.local_ty number (l + i) ≡ Some id →
        Fits setting.items (OfType id) is_present arg) →
        (key : ℕ) (id : TyId) → setting.local_ty number key ≡ Some id → Fits setting.items (OfType id)
        (presence key (params_present (range_with_len l (length args)))) (cell key (arguments_from l args))
    begins_fit l [] h key id e = refl
    begins_fit l (arg ∷ args) h key id e =
        subst (λ m. Fits setting.items (OfType id)
        (if key == l then is_present else presence key (params_present (range_with_len m (length args))))
        (if key == l then arg else cell key (arguments_from (suc l) args)))
        (let z : suc l ≡ l + 1 = omega arith in z)
        (by (key == l) refl
        (begins_fit (suc l) args
        (λ i x j is t. h (suc i) x j is
        (ap (setting.local_ty number) (let z : l + suc i ≡ suc l + i = omega arith in z) ∙ t)) key id e))
      where
        by : (b : Bool) → (key == l) ≡ b → Fits setting.items (OfType id)
            (presence key (params_present (range_with_len (suc l) (length args))))
            (cell key (arguments_from (suc l) args)) →
            Fits setting.items (OfType id)
            (if b then is_present else presence key (params_present (range_with_len (suc l) (length args))))
            (if b then arg else cell key (arguments_from (suc l) args))
        by true same later =
            let is_it : l + 0 ≡ key = (let z : l + 0 ≡ l = omega arith in z) ∙ sym ((Decides-eqb key l).0 same) in
            h 0 arg id refl (ap (setting.local_ty number) is_it ∙ e)
        by false same later = later

    module _ (targets : List Target) (uniques : List Addr) where
      -- what is known as a body begins
      pub known_at_start : (event : Event) (args : List Datum) (ticks : ℕ) (w : State) (values : List Datum) →
          AllApart setting uniques → Standing w uniques values →
          ((i : ℕ) (arg : Datum) (id : TyId) → slice_get args i ≡ Some arg →
          setting.local_ty number (1 + i) ≡ Some id →
          Fits setting.items (OfType id) is_present arg) →
          ((n : ℕ) (t : Target) → slice_get targets n ≡ Some t → cell t.local (arguments_from 1 args)
          ≡ Address t.address) →
          ((n : ℕ) (t : Target) → slice_get targets n ≡ Some t → StandsFor setting number t w) →
          Known setting number targets uniques w (begun event number args ticks w)
          (params_present (range_with_len 1 (length args)))
      known_at_start event args ticks w values apart standing fit named stands = record {
        held = arguments_from 1 args;
        older = w.activations;
        is_there = refl;
        fits = begins_fit 1 args fit;
        named = named;
        is_older = λ n t e same.
            let s = stands n t e in
            let r = runs_at setting w t.address s.standing s.stands in
            let less = below_all t.address.depth r.act w.activations r.is_at in
            let never : ⊥ = omega arith in never;
        stands = λ n t e.
            let s = stands n t e in
            record {
              standing = s.standing;
              stands = located_below_top w (record { body = number; cells = arguments_from 1 args }) t.address
                  s.standing s.stands;
              of_type = s.of_type;
              by_impl = s.by_impl;
              whole = s.whole;
            };
        values = values;
        many = as_many standing;
        frame = written_same w uniques values apart standing;
      }

      -- what is found when the body has ended: older activations hold what they held, but for the values at what its
      -- `&mut` parameters name; and what its reference parameters name is whole
      pub record Finished (base w : State) : Type 0 where
        pub values : List Datum
        pub many : length values ≡ length uniques
        pub frame : Alike w.activations (written uniques values base).activations
        pub stands : (n : ℕ) (t : Target) → slice_get targets n ≡ Some t → StandsFor setting number t w

      pub known_at_end : (event : Event) (base v : State) (cells : List (ℕ × Presence)) →
          Known setting number targets uniques base v cells → Finished base (with_event event (without_activation v))
      known_at_end event base v cells k = record {
        values = k.values;
        many = k.many;
        frame = subst (λ l. Alike l (written uniques k.values base).activations) (sym older_is) k.frame;
        stands = λ n t e. let s = k.stands n t e in record {
          standing = s.standing;
          stands = located_older t.address (k.is_older n t e) ∙ s.stands;
          of_type = s.of_type;
          by_impl = s.by_impl;
          whole = s.whole;
        };
      }
        where
          older_is : (without_activation v).activations ≡ k.older
          older_is = ap older_of k.is_there

          head : Activation
          head = record { body = number; cells = k.held }

          located_older : (a : Addr) → a.depth ≢ length k.older →
              located_at setting (with_event event (without_activation v)) a ≡ located_at setting v a
          located_older a h =
              ap (λ l. option_and_then (into_all setting.items a.path)
              (located_in setting v a.depth a.key.0 (at_depth a.depth l))) older_is
              ∙ sym (ap (λ l. option_and_then (into_all setting.items a.path)
              (located_in setting v a.depth a.key.0 (at_depth a.depth l))) k.is_there
              ∙ ap (λ b. option_and_then (into_all setting.items a.path)
              (located_in setting v a.depth a.key.0 (if b then Some head else at_depth a.depth k.older)))
              (not_same a.depth (length k.older) h))

      -- the result, where it is known as whole
      pub result_is_whole : (base v : State) (cells : List (ℕ × Presence)) (answer : TyId) →
          Known setting number targets uniques base v cells → setting.local_ty number 0 ≡ Some answer →
          all_present (presence 0 cells) ≡ true → Fits setting.items (OfType answer) is_present
          (cell 0 (cells_of_youngest v.activations))
      result_is_whole base v cells answer k is_typed present =
          subst (λ l. Fits setting.items (OfType answer) is_present (cell 0 (cells_of_youngest l))) (sym k.is_there)
          (present_if_whole setting.items (cell 0 k.held) (OfType answer) (presence 0 cells)
          (whole_if_present setting.items (cell 0 k.held) (OfType answer) (presence 0 cells) present
          (k.fits 0 answer is_typed)) (k.fits 0 answer is_typed))
