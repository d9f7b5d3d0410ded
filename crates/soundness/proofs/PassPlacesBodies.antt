-- The half on places of what is left, by what is asked of guards, of indices and of nodes of type `!`, and of
-- results: the pass over the block of a body, from its parameters to its end.
use Rattle.std.proofs.Common.{◌≡◌, ◌⊎◌, inl, inr, ℕ, Bool, true, false, List, [], ◌∷◌, map, Option, Some, None, refl, ap, sym, ◌∙◌, subst}
use Rattle.std.proofs.lemmas.Bool.{false≢true}
use Rattle.mir_ty.specs.ItemTable.{ItemTable, type_at}
use Rattle.store_model.specs.Abstract.Effects.{presence}
use Rattle.store_model.specs.Abstract.Presence.{all_present}
use Rattle.store_model.specs.Effects.{Unwinding, Out, Go, Unwind, Halts, Effects, aborting}
use Rattle.store_model.specs.Places.Place.{Place, whole_local}
use Rattle.typed_tree.specs.Nodes.{nodes_of, nodes_in, param_nodes, number_of}
use Rattle.typed_tree.specs.Tree as tree
use Rattle.typed_tree.specs.Tree.{Node, node, Form, ParamTree, BodyTree}
use Rattle.src_meaning.specs.Evaluation.{meaning}
use Rattle.src_meaning.specs.Forms.{Into, site_of_key, loop_destination}
use Rattle.src_meaning.specs.Locals.OfBody.{param_key, answer_key, local_of}
use Rattle.src_meaning.specs.Programs as programs
use Rattle.src_meaning.specs.Programs.{activation, around_body, answer_scope, entire_function, params_entered, names_of_param}
use Rattle.src_meaning.specs.Scopes.{Entry, Scopes, innermost, with_entry, all_entries, needing_drop, Value, Breaks, Continues, Returns, Panics, Run, At, Over, Does, ◌>>◌, entry_site}
use Rattle.src_meaning.specs.Shape.{BoundName, shape}
use Rattle.well_typed.specs.Claim.{Holds}
use Rattle.well_typed.specs.Nodes.{typed}
use Rattle.well_typed.specs.Places.{form_of, is_place, is_borrow, Wanted, LoopAround}
use Rattle.well_typed.specs.Types as types
use Rattle.typing_rules.specs.Accesses as accesses
use Rattle.soundness_frame.proofs.PassWithin.{is_among, DestIn}
use Rattle.soundness_values.proofs.AlsoTests.{Also}
use Rattle.soundness_values.proofs.Checked.{Checking}
use Rattle.soundness_values.proofs.Facts.{Facts}
use Rattle.soundness_values.proofs.Leaving.{ShownOut}
use Rattle.soundness_cells.proofs.PassCellNames.{cell_ok}
use Rattle.soundness_cells.proofs.PassCellParams.{PlainParams, pattern_cells}
use Rattle.soundness_cells.proofs.PassCellPatterns as cells_of
use Rattle.soundness_cells.proofs.PassCellPatterns.{Told, Has}
use Rattle.soundness_cells.proofs.PassCellPlaces.{Scoped}
use Rattle.soundness_cells.proofs.PassCellTypes as facts_of
use Rattle.soundness_cells.proofs.PassCells.{param_entry, inside, inside_params}
use Rattle.soundness_cells.proofs.PassFacts.{Standpoint, context, beside}
use Rattle.soundness_cells.proofs.PassGood.{TypedParams}
use Rattle.soundness.proofs.PassMovable.{whole_movable}
use Rattle.soundness_cells.proofs.PassNumbers.{Rises, rises_left, rises_right}
use Rattle.soundness_values.proofs.Leaving.{Shown}
use Rattle.soundness.proofs.PassPlacesCalm.{watching, watching_none, Calm, safe, settled}
use Rattle.soundness.proofs.PassPlacesEffects.{q, Settled, settled_safe}
use Rattle.soundness.proofs.PassPlacesMarks.{give_places}
use Rattle.soundness.proofs.PassPlacesInside as pass_places_inside
use Rattle.soundness.proofs.PassPlacesForms as pass
use Rattle.soundness.proofs.PassPlacesMatch as matching
use Rattle.soundness.proofs.PassPlacesNodes.{Asked}
use Rattle.soundness.proofs.PassPlacesReach.{Kept, Keeps}
use Rattle.soundness.proofs.PassPlacesRules as rules
use Rattle.soundness.proofs.PassPlacesScope as scope
use Rattle.soundness.proofs.PassPlacesScope.{Stood, Bindings}
use Rattle.soundness_cells.proofs.PassRefilled.{not_mark}
use Rattle.soundness_cells.proofs.PassMarks.{marked}
use Rattle.soundness_values.proofs.Checked.{with_facts}

abbrev pub is_block : Form → Bool
is_block (tree.Block statements tail) = true
is_block form = false

no_place : (form : Form) → is_block form ≡ true → is_place form ≡ true → ⊥
no_place (tree.Block statements tail) is p = false≢true p
no_place form is p = false≢true is

no_borrow : (form : Form) → is_block form ≡ true → is_borrow form ≡ true → ⊥
no_borrow (tree.Block statements tail) is p = false≢true p
no_borrow form is p = false≢true is

module _ (items : ItemTable) (body : BodyTree) (also : Also) (known : Told items) (fuel : ℕ) where
  abbrev V : Type 0
  V = Checking Facts

  -- no bindings of guards are around a body
  abbrev bs : Bindings items body
  bs = scope.no_bindings items body

  abbrev r : Effects V
  r = watching items body also []

  abbrev r0 : Effects V
  r0 = q items body also

  -- ---- parameters

  names_kept : (b : Bool) (bounds : List BoundName) → (b ≡ false → (v : V) → matching.Fit items body also [] known
      bounds v) → Keeps items body also [] (names_of_param items r fuel b bounds)
  names_kept true bounds f S v c = c
  names_kept false bounds f S v c = matching.bound_kept items body also [] known innermost bounds S v c (f refl v)

  params_kept : (params : List ParamTree) → TypedParams items params → PlainParams items params →
      Rises (param_nodes params) → Has items body (map (param_entry items) params) →
      Has items body (inside_params items params) → Keeps items body also [] (params_entered items r fuel params)
  params_kept [] t u g k l S v c = c
  params_kept (param ∷ params) t u g k l S v c =
      rules.both_kept items r (not_mark 5) (Calm items body also []) (safe items body also [])
      (names_of_param items r fuel (shape items param.pattern).is_binding
      ((shape items param.pattern).bindings (whole_local (param_key param)))) (params_entered items r fuel params)
      (names_kept (shape items param.pattern).is_binding
      ((shape items param.pattern).bindings (whole_local (param_key param))) (λ b w. fit (u.0 b) b w))
      (params_kept params t.1 u.1 (rises_right (nodes_of param.pattern) (param_nodes params) g) k.1
      (cells_of.has_right items body (inside items param.pattern) (inside_params items params) l))
      (innermost (with_entry (record { key = param_key param; ty = param.ty })) S) v c
    where
      fit : ((place : Place) → (shape items param.pattern).bindings place ≡ [])
          ⊎ (types.is_reference items param.ty ≡ false) → (shape items param.pattern).is_binding ≡ false → (w : V) →
          matching.Fit items body also [] known ((shape items param.pattern).bindings (whole_local (param_key param))) w
      fit (inl none) b w = subst (λ bounds. matching.Fit items body also [] known bounds w)
          (sym (none (whole_local (param_key param)))) tt
      fit (inr plain) b w =
          let e = sym (facts_of.reference_by (type_at items param.ty)) ∙ plain in
          matching.param_so items body also [] known param.pattern param.ty t.0 b plain
          (pattern_cells items known body param.pattern param.ty t.0 k.0
          (cells_of.has_left items body (inside items param.pattern) (inside_params items params) l))
          (rises_left (nodes_of param.pattern) (param_nodes params) g)
          (cell_ok items body (param_key param) param.ty k.0 e)
          (whole_movable items body (param_key param) param.ty k.0 e) w

  -- ---- how a body ends

  unwinds_kept : (es : List Entry) (v : V) → Settled items body also v →
      ShownOut (not_mark 5) (Settled items body also) (Settled items body also) (programs.unwinds items r0 fuel es v)
  unwinds_kept [] v c = c
  unwinds_kept (e ∷ es) v c = by (r0.drop Unwinding (entry_site e) v) ((settled_safe items body also).drops Unwinding
      e v c) (λ w d. unwinds_kept es w d)
    where
      by : (o : Out V) → ShownOut (not_mark 5) (Settled items body also) (Settled items body also) o →
          ((w : V) → Settled items body also w →
          ShownOut (not_mark 5) (Settled items body also) (Settled items body also) (programs.unwinds items r0 fuel es
          w)) → ShownOut (not_mark 5) (Settled items body also) (Settled items body also) (aborting o
          (programs.unwinds items r0 fuel es))
      by (Go w) h later = later w h
      by (Unwind w) h later = tt
      by (Halts halt w) h later = h

  -- the result is whole where a body returns
  abbrev pub Whole : Run V → Type 0
  Whole (At Value S w) = all_present (presence (local_of items body (answer_key body)) w.free.cells) ≡ true
  Whole (At (Breaks loop) S w) = Unit {0}
  Whole (At (Continues loop) S w) = Unit {0}
  Whole (At Returns S w) = all_present (presence (local_of items body (answer_key body)) w.free.cells) ≡ true
  Whole (At Panics S w) = Unit {0}
  Whole (Over halt w) = Unit {0}

  abbrev Ends : Out V → Type 0
  Ends = ShownOut (not_mark 5) (λ w. Unit {0}) (λ w. Unit {0})

  given : (mark : Option ℕ) (v : V) → (mark ≡ Some 5 → ⊥) → Ends (marked mark v (with_facts v.facts v.facts (Go
      v.free)))
  given None v n = tt
  given (Some m) v n = λ e. n (ap Some e)

  gives : (w : V) → all_present (presence (local_of items body (answer_key body)) w.free.cells) ≡ true →
      Ends (r0.give (site_of_key (answer_key body)) w)
  gives w full = given _ w (give_places items body also
      (Rattle.src_meaning.specs.Locals.Effects.site_at (local_of items body) (site_of_key (answer_key body))) w.free
      w.facts full)

  ended_out : (o : Out V) → ShownOut (not_mark 5) (Settled items body also) (Settled items body also) o → Ends o
  ended_out (Go w) h = tt
  ended_out (Unwind w) h = tt
  ended_out (Halts halt w) h = h

  ended : (x : Run V) → Shown (not_mark 5) (λ exit S w. Settled items body also w) x → Whole x → Ends
      (programs.body_end items r0 fuel (answer_key body) x)
  ended (At Value S w) h full = gives w full
  ended (At (Breaks loop) S w) h full = tt
  ended (At (Continues loop) S w) h full = tt
  ended (At Returns S w) h full = gives w full
  ended (At Panics S w) h full = ended_out (programs.unwinds items r0 fuel (needing_drop items (all_entries S)) w)
      (unwinds_kept (needing_drop items (all_entries S)) w h)
  ended (Over halt w) h full = h

  module _ (asked : Asked items body also known fuel bs) (x : Standpoint) (scoped : Scoped items body x)
      (stood : Stood items body bs x (nodes_of body.block)) (is : is_block (form_of body.block) ≡ true)
      (h : Holds (typed (context items x) (Wanted body.answer) body.block))
      (k : Has items body (inside items body.block)) (params : TypedParams items body.params)
      (none : x.loops ≡ []) (free : scope.Free items body bs (accesses.told [] body.block)) (plain : PlainParams items
      body.params) (rises : Rises (param_nodes body.params)) (own : Has items body (map (param_entry items)
      body.params))
      (named : Has items body (inside_params items body.params)) where
    block_kept : (n : Node) → scope.Free items body bs (accesses.told [] n) → is_block (form_of n) ≡ true → Stood
        items body bs x (nodes_of n) → Holds (typed (context items x) (Wanted body.answer) n) → Has items body (inside
        items n) → Keeps items body also [] ((meaning items r fuel n).evaluate
        (record { answer = Into (number_of n); loops = []; aliases = [] }) false (Into (number_of n)))
    block_kept (node id at ty by form) fr e g t l =
        pass.form_kept items body also known fuel bs asked form (
          at,
          pass_places_inside.lt items body also known fuel bs asked _ _ _
              _ fr,
        ) (beside id x) (scope.scoped_beside items body bs id x scoped) (scope.stood_beside items body bs x (node
        id at ty by form) (nodes_in form) g) id ty by t.1 (λ p. absurd (no_place form e p)) (λ p m. absurd (no_place
        form e p)) l (record { answer = Into id; loops = []; aliases = [] }) (
          refl,
          (
            found id,
            λ loop i. no_loop loop (subst (λ (ls : List LoopAround). is_among loop (map
                (λ (a : LoopAround). a.loop) ls) ≡ true) none i),
          ),
        ) false (Into id) (
          (found id, found id),
          λ b. absurd
              (no_borrow form e b),
        )
      where
        found : (id : ℕ) → is_among id (id ∷ x.outside) ≡ true
        found id = pass_places_inside.itself items body also known fuel bs asked id x.outside

        no_loop : (loop : ℕ) → is_among loop [] ≡ true → DestIn (id ∷ x.outside) (loop_destination loop [])
        no_loop loop i = absurd (false≢true i)

    entire_kept : Keeps items body also [] (entire_function items r fuel body)
    entire_kept = rules.scope_kept items r (not_mark 5) (Calm items body also []) (safe items body also [])
        (answer_key body) true (params_entered items r fuel body.params >> evaluate)
        (rules.both_kept items r (not_mark 5) (Calm items body also []) (safe items body also [])
        (params_entered items r fuel body.params) evaluate
        (params_kept body.params params plain rises own named)
        (block_kept body.block free is stood h k))
      where
        evaluate : Does V
        evaluate = (meaning items r fuel body.block).evaluate (around_body items r fuel body) false
            (Into (answer_key body))

    -- where nothing is watched
    entire_settled : (S : Scopes) (v : V) → Settled items body also v →
        Shown (not_mark 5) (λ exit T w. Settled items body also w) (entire_function items r0 fuel body S v)
    entire_settled S v c = subst (λ (e : Effects V). Shown (not_mark 5) (λ exit T w. Settled items body also w)
        (entire_function items e fuel body S v)) (watching_none items body also)
        (settled_all (entire_function items r fuel body S v) (entire_kept S v (c.0, (c.1, refl))))
      where
        settled_all : (x : Run V) → Kept items body also [] x →
            Shown (not_mark 5) (λ exit T w. Settled items body also w) x
        settled_all (At exit T w) k = settled items body also [] w k
        settled_all (Over halt w) k = k

    pub body_kept : (v : V) → Settled items body also v →
        Whole (entire_function items r0 fuel body (answer_scope items r0 fuel body) v) →
        Ends (activation items r0 fuel body v)
    body_kept v c full = ended (entire_function items r0 fuel body (answer_scope items r0 fuel body) v)
        (entire_settled (answer_scope items r0 fuel body) v c) full
