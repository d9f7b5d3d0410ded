-- In each body of a well typed program a marked run, which tests what cells hold and much else, never ends by the first
-- mark: all that is done with cells is of the right types. Nor does it miss a step, whatever it meets.
use Rattle.std.proofs.Common.{◌≡◌, ◌⊎◌, inl, inr, ℕ, Bool, true, false, List, [], ◌∷◌, ◌++◌, map, Option, Some, None, if◌then◌else◌, refl, ap, sym, ◌∙◌, subst}
use Rattle.std.specs.Prelude.{slice_get}
use Rattle.std.specs.Option.{option_map_or}
use Rattle.std.specs.List.{flat_map}
use Rattle.std.proofs.lemmas.Bool.{false≢true}
use Rattle.std.proofs.lemmas.Option.{none-some, same_Some}
use Rattle.mir_ty.specs.declared.def.ClosureDef.{ClosureDef}
use Rattle.mir_ty.specs.declared.def.Sig.{Sig}
use Rattle.mir_ty.specs.declared.ty.TyId.{TyId}
use Rattle.mir_ty.specs.declared.ty.Ty.{Ty}
use Rattle.mir_ty.specs.Facts.{needs_drop}
use Rattle.mir_ty.specs.ItemTable.{ItemTable, type_at}
use Rattle.store_model.specs.Effects.{Unwinding, Out, Go, Unwind, Halts, Effects, aborting}
use Rattle.store_model.specs.Places.Place.{Place, whole_local}
use Rattle.typed_tree.specs.Nodes.{number_of}
use Rattle.typed_tree.specs.Tree as tree
use Rattle.typed_tree.specs.Tree.{Node, node, Form, ParamTree, BodyTree}
use Rattle.src_meaning.specs.Evaluation.{meaning}
use Rattle.src_meaning.specs.Forms.{Into, site_of_key, bind}
use Rattle.src_meaning.specs.Locals.OfBody.{cells, answer_key, param_key, local_ty, local_of}
use Rattle.src_meaning.specs.Programs as programs
use Rattle.src_meaning.specs.Programs.{params_entered, unwinds, body_end, around_body, answer_scope, entire_function, activation}
use Rattle.src_meaning.specs.Scopes.{Entry, Scopes, innermost, with_scope, with_entry, all_entries, needing_drop, Value, Breaks, Continues, Returns, Panics, Run, At, Over, on_value, entry_site}
use Rattle.src_meaning.specs.Shape.{head, shape, BoundName}
use Rattle.well_typed.specs.Claim.{Holds}
use Rattle.well_typed.specs.Nodes.{typed}
use Rattle.well_typed.specs.Patterns as patterns
use Rattle.well_typed.specs.Patterns.{entries_of}
use Rattle.well_typed.specs.Places.{InScope, Context, loop_with, is_place, Wanted, form_of}
use Rattle.well_typed.specs.Program.{are_params, is_body, is_inside, closure_with}
use Rattle.well_typed.specs.Types as types
use Rattle.soundness_values.proofs.Checked.{Checking, with_facts}
use Rattle.soundness_values.proofs.CheckedBodies.{checks_of, is_reference_param}
use Rattle.soundness_values.proofs.Facts.{Facts}
use Rattle.soundness_values.proofs.Leaving.{AllOf, Shown, ShownOut}
use Rattle.soundness_cells.proofs.PassCellNames.{Names, no_names, cell_ok}
use Rattle.soundness_cells.proofs.PassCellParams.{PlainParams, plain_params, pattern_cells, ParamRoots, AllRoots, param_roots, body_scoped, self_closure}
use Rattle.soundness_cells.proofs.PassCellPlaces.{Scoped}
use Rattle.soundness_cells.proofs.PassCellTaken as taken
use Rattle.soundness_cells.proofs.PassCellTypes as facts
use Rattle.soundness_cells.proofs.PassCellActs.{Cell}
use Rattle.soundness_cells.proofs.PassCellEffects.{marked_run, may_end, Acts, Tests, Drops, Made, does_well, either_mark}
use Rattle.soundness_cells.proofs.PassCellForms as pass
use Rattle.soundness_cells.proofs.PassCellNodes as nodes
use Rattle.soundness_cells.proofs.PassCellNodes.{May, Post, Fine, Dest, AroundWell}
use Rattle.soundness_cells.proofs.PassCellParts as at_nodes
use Rattle.soundness_cells.proofs.PassCellPatterns as cells_of
use Rattle.soundness_cells.proofs.PassCellPatterns.{Told, Has}
use Rattle.soundness_cells.proofs.PassCellStands as stand
use Rattle.soundness_cells.proofs.PassCellTests.{alone, cells_give}
use Rattle.soundness_cells.proofs.PassCells.{param_entry, inside, inside_params, parts}
use Rattle.soundness_cells.proofs.PassEnds as ends
use Rattle.soundness_cells.proofs.PassFacts.{Standpoint, context}
use Rattle.soundness_cells.proofs.PassGood.{TypedParams, whole, param_made, entry_local}
use Rattle.soundness_cells.proofs.PassLocals.{EntryIn}
use Rattle.soundness_cells.proofs.PassParamRoots.{ParamIn, param_root}
use Rattle.soundness_values.proofs.PlaceTypes.{same_type}
use Rattle.soundness_cells.proofs.PassWell as rules
use Rattle.soundness_cells.proofs.PassWellBranches as branches

abbrev is_block : Form → Bool
is_block (tree.Block statements tail) = true
is_block form = false

no_place : (form : Form) → is_block form ≡ true → is_place form ≡ true → ⊥
no_place (tree.Block statements tail) is p = false≢true p
no_place form is p = false≢true is

no_name : (form : Form) → is_block form ≡ true → cells_of.made_of_never form ≡ true → ⊥
no_name (tree.Block statements tail) is p = false≢true p
no_name form is p = false≢true is

module _ (items : ItemTable) (told : Told items) (body : BodyTree) (fuel : ℕ) where
  abbrev V : Type 0
  V = Checking Facts

  abbrev q : Effects V
  q = marked_run items body

  abbrev Ends : Out V → Type 0
  Ends = ShownOut may_end (λ w. Unit {0}) (λ w. Unit {0})

  -- ---- parameters

  params_well : (c : Context) (params : List ParamTree) → TypedParams items params → PlainParams items params →
      Has items body (map (param_entry items) params) → Has items body (inside_params items params) → (S : Scopes)
      (v : V) → Fine items body S →
      Shown may_end (Post items body c (Unit {0})) (params_entered items q fuel params S v)
  params_well c [] t u k l S v f = (tt, f)
  params_well c (param ∷ params) t u k l S v f =
      by_kind (shape items param.pattern).is_binding refl
      (λ T w g. params_well c params t.1 u.1 k.1
      (cells_of.has_right items body (inside items param.pattern) (inside_params items params) l) T w g)
    where
      e : Entry
      e = record { key = param_key param; ty = param.ty }

      T : Scopes
      T = innermost (with_entry e) S

      fine : Fine items body T
      fine = rules.fine_innermost items (marked_run items body) may_end (Acts items body) (Tests items body)
          (Drops items body) (Made items body) (does_well items body) (Cell items body) (May items body) (Names items body) (with_entry e)
          (rules.entered items (marked_run items body) may_end (Acts items body) (Tests items body) (Drops items body)
          (Made items body) (does_well items body) (Cell items body) (May items body) (Names items body) e
          (nodes.droppable items body e k.0)) S f

      bounds : List BoundName
      bounds = (shape items param.pattern).bindings (whole_local (param_key param))

      bound_so : ((place : Place) → (shape items param.pattern).bindings place ≡ [])
          ⊎ (types.is_reference items param.ty ≡ false) → (shape items param.pattern).is_binding ≡ false →
          taken.BoundsOk items body ((shape items param.pattern).bindings (whole_local (param_key param)))
      bound_so (inl none) e = subst (taken.BoundsOk items body) (sym (none (whole_local (param_key param)))) tt
      bound_so (inr r) e = taken.taken_ok items body ((shape items param.pattern).bindings (whole_local (param_key param)))
          (taken.names_taken items body told param.pattern whole param.ty t.0
          (λ o. absurd (false≢true (sym e ∙ sym (at_nodes.one_name items body told fuel param.pattern) ∙ o)))
          (pattern_cells items told body param.pattern param.ty t.0 k.0
          (cells_of.has_left items body (inside items param.pattern) (inside_params items params) l))
          (whole_local (param_key param))
          (cell_ok items body (param_key param) param.ty k.0
          (sym (facts.reference_by (type_at items param.ty)) ∙ r)))

      by_kind : (b : Bool) → (shape items param.pattern).is_binding ≡ b →
          ((U : Scopes) (u : V) → Fine items body U →
          Shown may_end (Post items body c (Unit {0})) (params_entered items q fuel params U u)) →
          Shown may_end (Post items body c (Unit {0}))
          (on_value (programs.names_of_param items q fuel b bounds T v) (params_entered items q fuel params))
      by_kind true e later = later T v fine
      by_kind false e later = rules.then_well items (marked_run items body) may_end (Acts items body) (Tests items body)
          (Drops items body) (Made items body) (does_well items body) (Cell items body) (May items body) (Names items body) c (Unit {0})
          (Unit {0}) (bind items q innermost bounds T v)
          (params_entered items q fuel params)
          (branches.bind_well items (marked_run items body) may_end (Acts items body) (Tests items body)
          (Drops items body) (Made items body) (does_well items body) (Cell items body) (May items body) (Names items body) c innermost
          (λ change k U g. rules.fine_innermost items (marked_run items body) may_end (Acts items body)
          (Tests items body) (Drops items body) (Made items body) (does_well items body) (Cell items body)
          (May items body)
          (Names items body) change k U g) bounds
          (bound_so (u.0 e) e) T v fine)
          (λ U u x g. later U u g)

  -- ---- how a body ends

  -- the result stands in the local of its key, and is neither a reference nor a trait object
  abbrev Result : Type 0
  Result = Cell items body (answer_key body) body.answer × (alone items body.answer ≡ true)

  gives_well : (v : V) → Result → Ends (q.give (site_of_key (answer_key body)) v)
  gives_well v r = either_mark items body ((checks_of items body).give_ok
      (record { node = (answer_key body); place = whole_local (local_of items body (answer_key body)) }) v.free v.facts)
      (cells_give items (local_ty items body) (is_reference_param items body)
      (whole_local (local_of items body (answer_key body))))
      (ap (λ o. option_map_or (alone items) o false) r.0 ∙ r.1) v (with_facts v.facts v.facts (Go v.free))
      (λ w. Unit {0}) (λ w. Unit {0}) tt

  abbrev Droppable : Entry → Type 0
  Droppable = nodes.Droppable items body

  unwound : (es : List Entry) → AllOf Droppable es → (v : V) → Ends (unwinds items q fuel (needing_drop items es) v)
  unwound [] d v = tt
  unwound (e ∷ es) d v = by (needs_drop items e.ty) refl (λ w. unwound es d.1 w)
    where
      dropped : (o : Out V) → ShownOut may_end (λ w. Unit {0}) (λ w. Unit {0}) o →
          ((w : V) → Ends (unwinds items q fuel (needing_drop items es) w)) →
          Ends (aborting o (unwinds items q fuel (needing_drop items es)))
      dropped (Go w) h later = later w
      dropped (Unwind w) h later = tt
      dropped (Halts halt w) h later = h

      by : (b : Bool) → needs_drop items e.ty ≡ b → ((w : V) → Ends (unwinds items q fuel (needing_drop items es) w)) →
          Ends (unwinds items q fuel (if b then e ∷ needing_drop items es else needing_drop items es) v)
      by true n later = dropped (q.drop Unwinding (entry_site e) v)
          ((does_well items body).drops Unwinding (entry_site e) v (d.0 n Unwinding)) later
      by false n later = later v

  all_both : (a b : List Entry) → AllOf Droppable a → AllOf Droppable b → AllOf Droppable (a ++ b)
  all_both [] b f g = g
  all_both (e ∷ a) b f g = (f.0, all_both a b f.1 g)

  all_fine : (S : Scopes) → Fine items body S → AllOf Droppable (all_entries S)
  all_fine [] f = tt
  all_fine (s ∷ S) f = all_both (s.pending ++ s.entries) (all_entries S) (all_both s.pending s.entries f.0.1 f.0.0)
      (all_fine S f.1)

  ended : (c : Context) (valued : Type 0) → c.loops ≡ [] → Result → (r : Run V) →
      Shown may_end (Post items body c valued) r → Ends (body_end items q fuel (answer_key body) r)
  ended c valued none a (At Value S w) h = gives_well w a
  ended c valued none a (At (Breaks loop) S w) h =
      absurd (none-some h.0.0 (ap (loop_with loop) (sym none) ∙ h.0.1.0))
  ended c valued none a (At (Continues loop) S w) h =
      absurd (none-some h.0.0 (ap (loop_with loop) (sym none) ∙ h.0.1))
  ended c valued none a (At Returns S w) h = gives_well w a
  ended c valued none a (At Panics S w) h = unwound (all_entries S) (all_fine S h.1) w
  ended c valued none a (Over halt w) h = h

  module _ (x : Standpoint) (no_loops : x.loops ≡ []) (answers : x.answer ≡ body.answer)
      (params : TypedParams items body.params) (plain : PlainParams items body.params)
      (scoped : Scoped items body x) (own : Has items body (map (param_entry items) body.params))
      (named : Has items body (inside_params items body.params)) (block : Has items body (inside items body.block))
      (result : Result) where
    around_well : AroundWell items body (context items x) (around_body items q fuel body)
    around_well = (
      no_names items body,
      (
        subst (λ t. Dest items body t (Into (answer_key body))) (sym answers) (inr result.0),
        λ loop a e. absurd (none-some a (ap (loop_with loop) (sym no_loops) ∙ e)),
      ),
    )

    block_well : (b : Node) → is_block (form_of b) ≡ true → Holds (typed (context items x) (Wanted body.answer) b) →
        Has items body (inside items b) → (S : Scopes) (v : V) → Fine items body S →
        Shown may_end (Post items body (context items x) (nodes.IsMade items body (meaning items q fuel b).head.ty))
        ((meaning items q fuel b).evaluate (around_body items q fuel body) false (Into (answer_key body)) S v)
    block_well (node id at ty by form) is h k S v f = pass.form_well items body told fuel form x scoped id ty by h.1
        (λ p. absurd (no_place form is p)) (λ p m. absurd (no_place form is p)) k (λ n m. absurd (no_name form is m)) (around_body items q fuel body) false
        (Into (answer_key body)) S v around_well
        (stand.fits_head items body told fuel (node id at ty by form) body.answer (Into (answer_key body))
        (stand.wanted_fits items body told fuel x body.answer (node id at ty by form) h) (inr result.0)) f

    pub run_well : is_block (form_of body.block) ≡ true →
        Holds (typed (context items x) (Wanted body.answer) body.block) → (v : V) →
        Ends (activation items q fuel body v)
    run_well is h v = ended (context items x) (nodes.IsMade items body (meaning items q fuel body.block).head.ty)
        no_loops
        result (entire_function items q fuel body (answer_scope items q fuel body) v)
        (rules.leave_well items (marked_run items body) may_end (Acts items body) (Tests items body) (Drops items body)
        (Made items body) (does_well items body) (Cell items body) (May items body) (Names items body) (context items x)
        (nodes.IsMade items body (meaning items q fuel body.block).head.ty)
        (on_value (params_entered items q fuel body.params
        (with_scope (answer_key body) true (answer_scope items q fuel body)) v)
        ((meaning items q fuel body.block).evaluate (around_body items q fuel body) false (Into (answer_key body))))
        (rules.then_well items (marked_run items body) may_end (Acts items body) (Tests items body) (Drops items body)
        (Made items body) (does_well items body) (Cell items body) (May items body) (Names items body) (context items x) (Unit {0})
        (nodes.IsMade items body (meaning items q fuel body.block).head.ty)
        (params_entered items q fuel body.params (with_scope (answer_key body) true (answer_scope items q fuel body)) v)
        ((meaning items q fuel body.block).evaluate (around_body items q fuel body) false (Into (answer_key body)))
        (params_well (context items x) body.params params plain own named
        (with_scope (answer_key body) true (answer_scope items q fuel body)) v
        (rules.opened items (marked_run items body) may_end (Acts items body) (Tests items body) (Drops items body)
        (Made items body) (does_well items body) (Cell items body) (May items body) (Names items body) (answer_key body) true
        (answer_scope items q fuel body) answer_fine))
        (λ T w u g. block_well body.block is h block T w g)))
      where
        answer_fine : Fine items body (answer_scope items q fuel body)
        answer_fine = ((tt, (nodes.droppable items body (record { key = answer_key body; ty = body.answer }) result.0, tt)), tt)

module _ (items : ItemTable) (told : Told items) (number : ℕ) (sig : Sig) (body : BodyTree)
    (h : Holds (is_body items number sig body)) (there : slice_get items.bodies number ≡ Some sig)
    (answers : alone items sig.result ≡ true) (fuel : ℕ) where
  abbrev at_body : Option InScope → List ParamTree → Standpoint
  at_body closure scoped = record {
    entries = flat_map (λ p. entries_of p.pattern) scoped;
    closure = closure;
    loops = [];
    answer = body.answer;
    outside = [];
  }

  abbrev all : List Entry
  all = parts items body.params body.answer body.block

  cell_at : (e : Entry) → EntryIn all e → Cell items body e.key e.ty
  cell_at e i = ends.local_is items number sig body h (checks_of items body) fuel e.key
      ∙ entry_local items body.params body.answer body.block
      (ends.rise items number sig body h (checks_of items body) fuel)
      (ends.typed_so items number sig body h (checks_of items body) fuel) e i

  all_have : (es : List Entry) → ((e : Entry) → EntryIn es e → EntryIn all e) → Has items body es
  all_have [] f = tt
  all_have (e ∷ es) f = (cell_at e (f e (inl refl)), all_have es (λ x i. f x (inr i)))

  pub all_cells_have : Has items body all
  all_cells_have = all_have all (λ e i. i)

  abbrev P : List Entry
  P = map (param_entry items) body.params

  abbrev N : List Entry
  N = inside_params items body.params

  abbrev B : List Entry
  B = inside items body.block

  pub own_cells : Has items body (map (param_entry items) body.params)
  own_cells = cells_of.has_left items body P N (cells_of.has_left items body (P ++ N) B all_cells_have.1)

  pub all_roots : (params : List ParamTree) → Has items body (map (param_entry items) params) →
      ((param : ParamTree) → ParamIn params param → ParamIn body.params param) → AllRoots items told body params
  all_roots [] c f = tt
  all_roots (param ∷ params) c f = (
    param_root items body (ends.rise items number sig body h (checks_of items body) fuel) param (f param (inl refl)) c.0,
    all_roots params c.1 (λ p i. f p (inr i)),
  )

  pub named_cells : Has items body (inside_params items body.params)
  named_cells = cells_of.has_right items body P N (cells_of.has_left items body (P ++ N) B all_cells_have.1)

  pub block_cells : Has items body (inside items body.block)
  block_cells = cells_of.has_right items body (P ++ N) B all_cells_have.1

  runs : (closure : Option InScope) (scoped : List ParamTree) → Scoped items body (at_body closure scoped) →
      Holds (typed (context items (at_body closure scoped)) (Wanted body.answer) body.block) → (v : Checking Facts) →
      ShownOut may_end (λ w. Unit {0}) (λ w. Unit {0}) (activation items (marked_run items body) fuel body v)
  runs closure scoped s k v = run_well items told body fuel (at_body closure scoped) refl refl
      (ends.typed_so items number sig body h (checks_of items body) fuel)
      (plain_params items sig.params body.params h.1.1.0) s own_cells named_cells
      block_cells
      (all_cells_have.0, subst (λ t. alone items t ≡ true) (sym (same_type body.answer sig.result h.1.0)) answers)
      h.1.1.1.1.1.0 k v

  ended_in : (o : Option ClosureDef) (params : List ParamTree) → closure_with items number ≡ o →
      TypedParams items params → ParamRoots items told body params → Has items body (map (param_entry items) params) →
      Has items body (inside_params items params) → Holds (are_params items sig.params params) →
      Holds (is_inside items o body params) → (v : Checking Facts) →
      ShownOut may_end (λ w. Unit {0}) (λ w. Unit {0}) (activation items (marked_run items body) fuel body v)
  ended_in None params e t r c l a k v = runs None params
      (body_scoped items told body None body.answer (λ y n. absurd (none-some y n)) params t r c l) k.0 v
  ended_in (Some def) [] e t r c l a k v = absurd (false≢true k)
  ended_in (Some def) (self ∷ rest) e t r c l a k v =
      let y : InScope = record { key = number_of self.pattern; ty = self.ty; is_in_guard = false } in
      runs (Some y) rest
      (body_scoped items told body (Some y) body.answer
      (λ z n. subst (λ (z : InScope). Cell items body z.key z.ty × ((m : ℕ) × (type_at items z.ty ≡ Some (Ty.Closure m))))
      (same_Some y z n) (c.0, self_closure items told body number sig def self rest there e a)) rest t.1 r.1 c.1
      (cells_of.has_right items body (inside items self.pattern) (inside_params items rest) l)) k.0 v

  roots : ParamRoots items told body body.params
  roots = param_roots items told body sig.params body.params h.1.1.0 (told.params number sig there)
      (all_roots body.params own_cells (λ p i. i))

  -- what stands around the block: names of parameters are of their types
  pub plain_scoped : Scoped items body (at_body None body.params)
  plain_scoped = body_scoped items told body None body.answer (λ y n. absurd (none-some y n)) body.params
      (ends.typed_so items number sig body h (checks_of items body) fuel) roots own_cells named_cells

  pub closure_scoped : (def : ClosureDef) (self : ParamTree) (rest : List ParamTree) →
      closure_with items number ≡ Some def → body.params ≡ self ∷ rest →
      Scoped items body (at_body (Some (record { key = number_of self.pattern; ty = self.ty; is_in_guard = false })) rest)
  closure_scoped def self rest e same =
      let y : InScope = record { key = number_of self.pattern; ty = self.ty; is_in_guard = false } in
      let t = subst (TypedParams items) same (ends.typed_so items number sig body h (checks_of items body) fuel) in
      let r = subst (ParamRoots items told body) same roots in
      let c = subst (λ ps. Has items body (map (param_entry items) ps)) same own_cells in
      let l = subst (λ ps. Has items body (inside_params items ps)) same named_cells in
      let a = subst (λ ps. Holds (are_params items sig.params ps)) same h.1.1.0 in
      body_scoped items told body (Some y) body.answer
      (λ z n. subst (λ (z : InScope). Cell items body z.key z.ty × ((m : ℕ) × (type_at items z.ty ≡ Some (Ty.Closure m))))
      (same_Some y z n) (c.0, self_closure items told body number sig def self rest there e a)) rest t.1 r.1 c.1
      (cells_of.has_right items body (inside items self.pattern) (inside_params items rest) l)

  -- each marked run of the body ends by no first mark, and misses no step
  pub ends_well : (v : Checking Facts) →
      ShownOut may_end (λ w. Unit {0}) (λ w. Unit {0}) (activation items (marked_run items body) fuel body v)
  ends_well v = ended_in (closure_with items number) body.params refl
      (ends.typed_so items number sig body h (checks_of items body) fuel) (param_roots items told body sig.params body.params h.1.1.0
      (told.params number sig there)
      (all_roots body.params own_cells (λ p i. i)))
      own_cells named_cells h.1.1.0 h.1.1.1.1.1.1 v
