-- In each body of a well typed program a checked free run, whatever is checked, leaves nothing but its result, and
-- after a panic nothing at all: what the pass over scopes asks of a body follows from the rules of typing.
use Rattle.std.proofs.Common.{◌≡◌, ◌⊎◌, inl, inr, ℕ, zero, suc, ◌+◌, ◌<◌, ◌≤◌, ◌==◌, Bool, true, false, List, [], ◌∷◌, ◌++◌, map, length, Option, Some, None, if◌then◌else◌, refl, ap, sym, ◌∙◌, subst, arith}
use Rattle.std.specs.Prelude.{slice_get}
use Rattle.std.specs.List.{range_with_len}
use Rattle.std.specs.Option.{option_map_or}
use Rattle.std.proofs.lemmas.Bool.{false≢true}
use Rattle.std.proofs.lemmas.Bool.Decides.{Decides-eqb}
use Rattle.mir_ty.specs.declared.def.ClosureDef.{ClosureDef}
use Rattle.mir_ty.specs.declared.def.Sig.{Sig}
use Rattle.mir_ty.specs.declared.ty.TyId.{TyId}
use Rattle.mir_ty.specs.Facts.{needs_drop}
use Rattle.mir_ty.specs.ItemTable.{ItemTable}
use Rattle.store_model.specs.Abstract.Effects.{presence, params_present, at_start}
use Rattle.store_model.specs.Abstract.Presence.{Presence, itself_gone}
use Rattle.store_model.specs.Effects.{Effects}
use Rattle.typed_tree.specs.Nodes.{number_of, nodes_of, nodes_in, param_nodes}
use Rattle.typed_tree.specs.Tree.{Node, node, ParamTree, BodyTree}
use Rattle.src_meaning.specs.Evaluation.{meaning}
use Rattle.src_meaning.specs.Forms.{Into}
use Rattle.src_meaning.specs.Locals.OfBody.{answer_key, local_of, local_ty, local_among}
use Rattle.src_meaning.specs.Programs.{activation, around_body}
use Rattle.src_meaning.specs.Scopes.{Entry, Scopes}
use Rattle.well_typed.specs.Claim.{Holds}
use Rattle.well_typed.specs.Names.{do_rise}
use Rattle.well_typed.specs.Nodes.{typed}
use Rattle.well_typed.specs.Places.{InScope, Wanted, form_of, ty_of}
use Rattle.well_typed.specs.Program.{is_body, is_inside, closure_with}
use Rattle.soundness_values.proofs.Checked.{Checking, Checks}
use Rattle.soundness_values.proofs.Leaving.{Shown}
use Rattle.soundness_cells.proofs.PassBodies as bodies
use Rattle.soundness_cells.proofs.PassCells.{NodeIn, node_left, node_right, param_entry, inside, inside_params, parts, locals_are}
use Rattle.soundness_cells.proofs.PassClear.{KeepsClear, any, Nothing}
use Rattle.soundness_cells.proofs.PassFacts.{context}
use Rattle.soundness_cells.proofs.PassGood.{TypedParams, typed_params, whole, others, found_ty, answer_local, node_needs}
use Rattle.soundness_cells.proofs.PassLocals.{EntryIn, keys, tys, at_local}
use Rattle.soundness_cells.proofs.PassNodes as nodes
use Rattle.soundness_cells.proofs.PassParams as entering
use Rattle.soundness_cells.proofs.PassParams.{NamedParam, param_keys}
use Rattle.soundness_cells.proofs.PassRules.{InList}
use Rattle.soundness_cells.proofs.PassRuns as runs
use Rattle.soundness_cells.proofs.PassScopes as scopes
use Rattle.soundness_cells.proofs.PassScopes.{entries_of}

-- ---- as a body begins its parameters are present

present_in : (ks : List ℕ) (k : ℕ) → itself_gone (presence k (params_present ks)) ≡ false → InList ks k
present_in [] k h = absurd (false≢true (sym h))
present_in (x ∷ ks) k h = by (k == x) refl h (λ l. present_in ks k l)
  where
    by : (b : Bool) → (k == x) ≡ b →
        itself_gone (if b then Rattle.store_model.specs.Abstract.Presence.is_present else presence k
        (params_present ks)) ≡ false →
        (itself_gone (presence k (params_present ks)) ≡ false → InList ks k) → (x ≡ k) ⊎ InList ks k
    by true e l later = inl (sym ((Decides-eqb k x).0 e))
    by false e l later = inr (later l)

in_range : (n from k : ℕ) → InList (range_with_len from n) k → (from ≤ k) × (k < from + n)
in_range zero from k i = absurd i
in_range (suc n) from k (inl e) =
    let same : from ≡ k = e in
    let low : from ≤ k = omega (same, arith) in
    let high : k < from + suc n = omega (same, arith) in (low, high)
in_range (suc n) from k (inr i) =
    let later = in_range n (from + 1) k i in
    let above : from + 1 ≤ k = later.0 in
    let below : k < from + 1 + n = later.1 in
    let low : from ≤ k = omega (above, arith) in
    let high : k < from + suc n = omega (below, arith) in (low, high)

module _ (items : ItemTable) where
  param_key_in : (params : List ParamTree) (e : Entry) → EntryIn (map (param_entry items) params) e →
      InList (param_keys params) e.key
  param_key_in [] e i = absurd i
  param_key_in (param ∷ params) e (inl same) = inl (ap (λ (z : Entry). z.key) same)
  param_key_in (param ∷ params) e (inr i) = inr (param_key_in params e i)

  length_params : (params : List ParamTree) → length (map (param_entry items) params) ≡ length params
  length_params [] = refl
  length_params (param ∷ params) = ap suc (length_params params)

  -- a key whose local is that of a parameter is that parameter's
  param_local : (params : List ParamTree) (answer : TyId) (block : Node) (key k : ℕ) →
      local_among (keys (parts items params answer block)) key ≡ k → 1 ≤ k → k < 1 + length params →
      InList (param_keys params) key
  param_local params answer block key zero e low high = let never : ⊥ = omega (low, arith) in absurd never
  param_local params answer block key (suc j) e low high = by (at_local (parts items params answer block) key)
    where
      A : List Entry
      A = map (param_entry items) params

      all : List Entry
      all = (A ++ inside_params items params) ++ inside items block

      short : j < length A
      short =
          let one : suc j < 1 + length params = high in
          let same : length A ≡ length params = length_params params in omega (one, same, arith)

      grouped : (a b c : List Entry) (i : ℕ) (x : Entry) → slice_get ((a ++ b) ++ c) i ≡ Some x → i < length a →
          EntryIn a x
      grouped [] b c i x h l = let never : ⊥ = omega (l, arith) in absurd never
      grouped (y ∷ a) b c zero x h l = let same : y ≡ x = cc in inl same
      grouped (y ∷ a) b c (suc i) x h l =
          let less : suc i < length (y ∷ a) = l in
          let next : i < length a = omega (less, arith) in inr (grouped a b c i x h next)

      longer : (a b c : List Entry) → length a ≤ length ((a ++ b) ++ c)
      longer [] b c = let least : 0 ≤ length (b ++ c) = omega arith in least
      longer (y ∷ a) b c =
          let later : length a ≤ length ((a ++ b) ++ c) = longer a b c in
          let more : length (y ∷ a) ≤ length (((y ∷ a) ++ b) ++ c) = omega (later, arith) in more

      by : ((x : Entry) × ((slice_get (parts items params answer block)
          (local_among (keys (parts items params answer block)) key) ≡ Some x) × (x.key ≡ key)))
          ⊎ (length (parts items params answer block) ≤ local_among (keys (parts items params answer block)) key) →
          InList (param_keys params) key
      by (inl (x, (at, same))) =
          subst (InList (param_keys params)) same
          (param_key_in params x (grouped A (inside_params items params) (inside items block) j x
          (subst (λ n. slice_get (parts items params answer block) n ≡ Some x) e at) short))
      by (inr past) =
          let whole : length (parts items params answer block) ≤ suc j =
          subst (λ n. length (parts items params answer block) ≤ n) e past in
          let most : length A ≤ length all = longer A (inside_params items params) (inside items block) in
          let less : j < length A = short in
          let never : ⊥ = omega (whole, most, less, arith) in absurd never

module _ (items : ItemTable) (number : ℕ) (sig : Sig) (body : BodyTree) (h : Holds (is_body items number sig body))
    {F : Type 0} (checks : Checks F) (fuel : ℕ) where
  abbrev needs : ℕ → Bool
  needs = runs.needs items body checks

  abbrev q : Effects (Checking F)
  q = runs.q items body checks

  abbrev clear : Checking F → ℕ → Type 0
  clear = runs.clear items body checks

  abbrev keeps : KeepsClear q needs clear
  keeps = runs.keeps items body checks

  pub typed_so : TypedParams items body.params
  typed_so = typed_params items sig.params body.params h.1.1.0

  pub rise : do_rise (map number_of (param_nodes body.params ++ nodes_of body.block)) ≡ true
  rise = h.1.1.1.0

  abbrev pub all_others : List Node
  all_others = others items body.params body.answer body.block rise typed_so

  pub local_is : (key : ℕ) → local_ty items body (local_of items body key)
      ≡ found_ty items body.params body.answer body.block rise typed_so key
  local_is key = ap (λ (es : List Entry). slice_get (tys es) (local_among (keys es) key)) (locals_are items body)

  needs_is : (key : ℕ) →
      needs key ≡ option_map_or (needs_drop items) (found_ty items body.params body.answer body.block rise typed_so key)
      false
  needs_is key = ap (λ o. option_map_or (needs_drop items) o false) (local_is key)

  pub needs_ok : (n : Node) → NodeIn all_others n → needs_drop items (ty_of n) ≡ false → needs (number_of n) ≡ false
  needs_ok n i e = needs_is (number_of n) ∙ node_needs items body.params body.answer body.block rise typed_so n i e

  good_all : (ns : List Node) → ((n : Node) → NodeIn ns n → NodeIn all_others n) →
      nodes.Good items needs q clear keeps fuel ns
  good_all [] f = tt
  good_all (n ∷ ns) f = (needs_ok n (f n (inl refl)), good_all ns (λ m i. f m (inr i)))

  good_params : (params : List ParamTree) → TypedParams items params →
      ((n : Node) → NodeIn (param_nodes params) n → NodeIn all_others n) →
      entering.GoodParams items needs q clear keeps fuel params
  good_params [] t f = tt
  good_params (param ∷ params) t f = (
    (whole, t.0),
    (
      good_all (nodes_of param.pattern) (λ n i. f n (node_left (nodes_of param.pattern) (param_nodes params) n i)),
      good_params params t.1 (λ n i. f n (node_right (nodes_of param.pattern) (param_nodes params) n i)),
    ),
  )

  pub good_inside : nodes.Good items needs q clear keeps fuel (nodes_in (form_of body.block))
  good_inside = good_all (nodes_in (form_of body.block))
      (λ n i. node_right (param_nodes body.params) (nodes_in (form_of body.block)) n i)

  pub suits : scopes.Suits items needs body.answer (Into (answer_key body))
  suits e = ap (λ o. option_map_or (needs_drop items) o false)
      (local_is (answer_key body) ∙ answer_local items body.params body.answer body.block rise typed_so) ∙ e

  module _ (closure : Option InScope) (scoped : List ParamTree)
      (among : (key : ℕ) → NamedParam scoped key → NamedParam body.params key) where
    block_of : (b : Node) → bodies.is_block_form items needs q clear keeps fuel (form_of b) ≡ true →
        Holds (typed (context items (bodies.at_body items needs q clear keeps fuel body closure scoped among))
        (Wanted body.answer) b) → nodes.Good items needs q clear keeps fuel (nodes_in (form_of b)) →
        scopes.Suits items needs body.answer (Into (number_of b)) → (U : Scopes) (u : Checking F) →
        scopes.AroundOk items needs (context items
        (bodies.at_body items needs q clear keeps fuel body closure scoped among))
        (around_body items q fuel body) U → scopes.Held items needs q clear keeps Nothing (entries_of U) u →
        scopes.Lands items needs U (number_of b) →
        Shown any (scopes.After items needs q clear keeps
        (context items (bodies.at_body items needs q clear keeps fuel body closure scoped among))
        (around_body items q fuel body) (λ key. key ≡ number_of b) (scopes.Grows items needs U))
        ((meaning items q fuel b).evaluate (around_body items q fuel body) false (Into (number_of b)) U u)
    block_of (node id at ty by form) e k g s U u ok held lands =
        bodies.block_left items needs q clear keeps fuel form
        (bodies.at_body items needs q clear keeps fuel body closure scoped among) id ty by e k.1 g k.0.1 s
        (around_body items q fuel body) U u ok held lands

    left_in : Holds (typed (context items (bodies.at_body items needs q clear keeps fuel body closure scoped among))
        (Wanted body.answer) body.block) → (v : Checking F) →
        scopes.Held items needs q clear keeps (InList (param_keys body.params)) [] v →
        bodies.Left items needs q clear keeps fuel (answer_key body) (activation items q fuel body v)
    left_in k v held = bodies.body_left items needs q clear keeps fuel body closure scoped among
        (good_params body.params typed_so
        (λ n i. node_left (param_nodes body.params) (nodes_in (form_of body.block)) n i)) suits
        (λ U u ok x lands. block_of body.block h.1.1.1.1.1.0 k good_inside suits U u ok x lands) v held

  ended : (o : Option ClosureDef) (params : List ParamTree) → body.params ≡ params →
      Holds (is_inside items o body params) → (v : Checking F) →
      scopes.Held items needs q clear keeps (InList (param_keys body.params)) [] v →
      bodies.Left items needs q clear keeps fuel (answer_key body) (activation items q fuel body v)
  ended None params same k v held = left_in None params (λ key x. subst (λ l. NamedParam l key) (sym same) x) k.0 v held
  ended (Some def) [] same k v held = absurd (false≢true k)
  ended (Some def) (self ∷ rest) same k v held =
      left_in (Some (record { key = number_of self.pattern; ty = self.ty; is_in_guard = false })) rest
      (λ key x. subst (λ l. NamedParam l key) (sym same) (inr x)) k.0 v held

  -- what a body holds as it begins are its parameters
  pub begins_held : (list : List Bool) (facts : F) (lost : Bool) →
      scopes.Held items needs q clear keeps (InList (param_keys body.params)) []
      (record { free = at_start (range_with_len 1 (length body.params)) list; facts = facts; lost = lost })
  begins_held list facts lost key = by (itself_gone (presence (local_of items body key)
      (params_present (range_with_len 1 (length body.params))))) refl
    where
      by : (b : Bool) → itself_gone (presence (local_of items body key)
          (params_present (range_with_len 1 (length body.params)))) ≡ b →
          ((itself_gone (presence (local_of items body key) (params_present (range_with_len 1 (length body.params)))) ≡
          true)
          ⊎ (needs key ≡ false)) ⊎ (⊥ ⊎ InList (param_keys body.params) key)
      by true e = inl (inl e)
      by false e =
          let r = in_range (length body.params) 1 (local_of items body key)
          (present_in (range_with_len 1 (length body.params)) (local_of items body key) e) in
          inr (inr (param_local items body.params body.answer body.block key (local_of items body key)
          (sym (ap (λ (es : List Entry). local_among (keys es) key) (locals_are items body))) r.0 r.1))

  -- a checked free run leaves nothing but the result of the body
  pub run_left : (list : List Bool) (facts : F) (lost : Bool) →
      bodies.Left items needs q clear keeps fuel (answer_key body) (activation items q fuel body
      (record { free = at_start (range_with_len 1 (length body.params)) list; facts = facts; lost = lost }))
  run_left list facts lost = ended (closure_with items number) body.params refl h.1.1.1.1.1.1
      (record { free = at_start (range_with_len 1 (length body.params)) list; facts = facts; lost = lost })
      (begins_held list facts lost)
