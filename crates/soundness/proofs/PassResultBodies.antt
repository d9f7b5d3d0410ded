-- The result of a body is whole where the body returns: its block, or a return, fills it last.
use Rattle.std.proofs.Common.{◌≡◌, ℕ, Bool, true, false, List, [], ◌∷◌, ◌++◌, refl, sym, subst}
use Rattle.std.proofs.lemmas.Bool.{false≢true}
use Rattle.mir_ty.specs.ItemTable.{ItemTable}
use Rattle.store_model.specs.Effects.{Effects}
use Rattle.store_model.specs.Places.Place.{whole_local}
use Rattle.typed_tree.specs.Nodes.{number_of, nodes_of, nodes_in, param_nodes}
use Rattle.typed_tree.specs.Tree as tree
use Rattle.typed_tree.specs.Tree.{Node, node, Form, ParamTree, BodyTree}
use Rattle.src_meaning.specs.Evaluation.{meaning}
use Rattle.src_meaning.specs.Forms.{Into, LoopsAndGuards}
use Rattle.src_meaning.specs.Locals.OfBody.{param_key, answer_key}
use Rattle.src_meaning.specs.Programs.{around_body, answer_scope, entire_function, params_entered, names_of_param}
use Rattle.src_meaning.specs.Scopes.{innermost, with_entry, Value, Breaks, Continues, Returns, Panics, Run, At, Over, Does, ◌>>◌}
use Rattle.src_meaning.specs.Shape.{BoundName, shape}
use Rattle.well_typed.specs.Claim.{Holds}
use Rattle.well_typed.specs.Nodes as typing
use Rattle.well_typed.specs.Places.{form_of, Standing}
use Rattle.soundness_values.proofs.AlsoTests.{Also}
use Rattle.soundness_values.proofs.Checked.{Checking}
use Rattle.soundness_values.proofs.Facts.{Facts}
use Rattle.soundness_cells.proofs.PassCellPatterns.{Told, Has, made_of_never}
use Rattle.soundness_cells.proofs.PassCells.{inside}
use Rattle.soundness_cells.proofs.PassFacts.{Standpoint, context}
use Rattle.soundness.proofs.PassMadeForms as made
use Rattle.soundness_cells.proofs.PassNumbers.{Numbered, Rises, numbered_left, numbered_right, own_number, first_apart, rises_apart, rises_right}
use Rattle.soundness.proofs.PassPlacesBodies as bodies
use Rattle.soundness.proofs.PassPlacesBodies.{is_block}
use Rattle.soundness.proofs.PassPlacesEffects.{q}
use Rattle.soundness.proofs.PassResultEffects.{Full, keeps_whole}
use Rattle.soundness.proofs.PassResultKinds as pass_result_kinds
use Rattle.soundness.proofs.PassResultForms as pass
use Rattle.soundness.proofs.PassResultRules as rules

no_cell : (form : Form) → is_block form ≡ true → made_of_never form ≡ false
no_cell (tree.Block statements tail) is = refl
no_cell form is = absurd (false≢true is)

-- the nodes inside have other numbers
inner_apart : (n : Node) → Rises (nodes_of n) → (key : ℕ) → Numbered (nodes_in (form_of n)) key →
    key ≡ number_of n → ⊥
inner_apart (node id at ty by form) r key n e =
    first_apart (node id at ty by form) (nodes_in form) r (subst (Numbered (nodes_in form)) e n)

module _ (items : ItemTable) (body : BodyTree) (also : Also) (told : Told items) (fuel : ℕ) where
  abbrev V : Type 0
  V = Checking Facts

  abbrev r : Effects V
  r = q items body also

  abbrev z : ℕ
  z = answer_key body

  abbrev W : V → Type 0
  W = Full items body also z

  abbrev OffN : List Node → Type 0
  OffN = pass_result_kinds.OffN items body also told fuel z W (keeps_whole items body also z)

  abbrev Makes : LoopsAndGuards → Type 0 → Does V → Type 0
  Makes = rules.Makes items r z W (keeps_whole items body also z)

  names_so : (around : LoopsAndGuards) (b : Bool) (bounds : List BoundName) →
      rules.AllOff items r z W (keeps_whole items body also z) bounds → Makes around ⊥ (names_of_param items r fuel b bounds)
  names_so around true bounds o S v f = (f, λ b. absurd b)
  names_so around false bounds o S v f = rules.bind_so items r z W (keeps_whole items body also z) around innermost
      (rules.off_innermost items r z W (keeps_whole items body also z)) bounds o S v f

  params_so : (around : LoopsAndGuards) (params : List ParamTree) → OffN (param_nodes params) →
      Makes around ⊥ (params_entered items r fuel params)
  params_so around [] o S v f = (f, λ b. absurd b)
  params_so around (param ∷ params) o S v f = rules.both_so items r z W (keeps_whole items body also z) around ⊥
      (names_of_param items r fuel (shape items param.pattern).is_binding
      ((shape items param.pattern).bindings (whole_local (param_key param)))) (params_entered items r fuel params)
      (names_so around (shape items param.pattern).is_binding
      ((shape items param.pattern).bindings (whole_local (param_key param)))
      (pass_result_kinds.names_off items body also told fuel z W (keeps_whole items body also z) param.pattern
      (whole_local (param_key param)) (λ key n. o key (numbered_left (nodes_of param.pattern) (param_nodes params) key n))))
      (params_so around params (λ key n. o key (numbered_right (nodes_of param.pattern) (param_nodes params) key n)))
      (innermost (with_entry (record { key = param_key param; ty = param.ty })) S) v
      (rules.off_innermost items r z W (keeps_whole items body also z)
      (with_entry (record { key = param_key param; ty = param.ty }))
      (rules.entered items r z W (keeps_whole items body also z) (record { key = param_key param; ty = param.ty })
      (o (param_key param) (numbered_left (nodes_of param.pattern) (param_nodes params) (param_key param)
      (own_number param.pattern)))) S f)

  block_so : (n : Node) (x : Standpoint) (standing : Standing) → is_block (form_of n) ≡ true →
      Holds (typing.typed (context items x) standing n) → Has items body (inside items n) →
      OffN (nodes_in (form_of n)) →
      pass_result_kinds.Es items body also told fuel z W (keeps_whole items body also z) n
  block_so (node id at ty by form) x standing is h k o =
      pass_result_kinds.by_type items body also told fuel z W (keeps_whole items body also z) (node id at ty by form)
      (λ m. made.form_ends items body also told fuel form x id ty by h.1 k (no_cell form is) m)
      (pass.form_whole items body also told fuel z W (keeps_whole items body also z) form x id ty by h.1 k o)

  module _ (x : Standpoint) (standing : Standing) (is : is_block (form_of body.block) ≡ true)
      (h : Holds (typing.typed (context items x) standing body.block)) (k : Has items body (inside items body.block))
      (rise : Rises (param_nodes body.params ++ nodes_of body.block)) where
    abbrev around : LoopsAndGuards
    around = around_body items r fuel body

    abbrev evaluate : Does V
    evaluate = (meaning items r fuel body.block).evaluate around false (Into z)

    entire_so : Makes around (z ≡ z) (entire_function items r fuel body)
    entire_so = rules.scope_so items r z W (keeps_whole items body also z) around (z ≡ z) z true
        (params_entered items r fuel body.params >> evaluate)
        (rules.both_so items r z W (keeps_whole items body also z) around (z ≡ z)
        (params_entered items r fuel body.params) evaluate
        (params_so around body.params (λ key n e. rises_apart (param_nodes body.params) (nodes_of body.block) rise key n
        (subst (Numbered (nodes_of body.block)) (sym e) (own_number body.block))))
        (block_so body.block x standing is h k
        (λ key n e. inner_apart body.block (rises_right (param_nodes body.params) (nodes_of body.block) rise) key n e)
        around false (Into z)))

    ends_whole : (a : Run V) → rules.EndsSo items r z W (keeps_whole items body also z) around (z ≡ z) a →
        bodies.Whole items body also told fuel a
    ends_whole (At Value S v) f = f.1 refl
    ends_whole (At (Breaks loop) S v) f = tt
    ends_whole (At (Continues loop) S v) f = tt
    ends_whole (At Returns S v) f = f.1 refl
    ends_whole (At Panics S v) f = tt
    ends_whole (Over halt v) f = tt

    pub result_whole : (v : V) → bodies.Whole items body also told fuel
        (entire_function items r fuel body (answer_scope items r fuel body) v)
    result_whole v = ends_whole (entire_function items r fuel body (answer_scope items r fuel body) v)
        (entire_so (answer_scope items r fuel body) v (tt, tt))
