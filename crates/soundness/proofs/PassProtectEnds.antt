-- No run of a body of a sound program fails a test of protected parameters: of each borrow, call and assignment of its
-- block is known what is asked, by the text.
use Rattle.std.proofs.Common.{◌≡◌, inl, inr, ℕ, ◌+◌, ◌&&◌, not, Bool, true, false, List, [], ◌∷◌, ◌++◌, map, Option, Some, None, if◌then◌else◌, refl, ap, sym, ◌∙◌, subst, arith}
use Rattle.std.specs.Prelude.{slice_get}
use Rattle.std.specs.Cmp.{first_so, second_so}
use Rattle.std.proofs.lemmas.Bool.{false≢true}
use Rattle.std.proofs.lemmas.Bool.Decides.{Decides-eqb}
use Rattle.mir_base.specs.declared.place_in_text.Pos.{Pos}
use Rattle.mir_ty.specs.declared.def.Sig.{Sig}
use Rattle.mir_ty.specs.declared.ty.TyId.{TyId}
use Rattle.store_model.specs.Abstract.Effects.{AbstractState}
use Rattle.store_model.specs.Effects as effects
use Rattle.store_model.specs.Effects.{EffectSite}
use Rattle.typed_tree.specs.declared.node.Use.{Use}
use Rattle.typed_tree.specs.Nodes.{number_of, nodes_of, nodes_in, param_nodes}
use Rattle.typed_tree.specs.Tree as tree
use Rattle.typed_tree.specs.Tree.{Node, node, Form, a_node, BodyTree, ProgramTree}
use Rattle.src_meaning.specs.Forms.{site_in}
use Rattle.src_meaning.specs.Locals.Effects.{place_at, operand_at, action_at}
use Rattle.src_meaning.specs.Locals.OfBody.{local_of, local_ty}
use Rattle.src_meaning.specs.Programs.{activation}
use Rattle.src_meaning.specs.Shape as shapes
use Rattle.src_meaning.specs.Shape.{shape}
use Rattle.typing_rules.specs.Accesses as rules
use Rattle.typing_rules.specs.Accesses.{◌⊕◌, inside, place_of, root_of, one, replaces}
use Rattle.typing_rules.specs.Replaced.{OfBody, OfTrait, content_of, store_of}
use Rattle.well_typed.specs.Claim.{Holds}
use Rattle.well_typed.specs.Nodes.{is_closure_body}
use Rattle.well_typed.specs.Program.{is_body}
use Rattle.soundness_values.specs.Laws.{IsSound}
use Rattle.soundness_values.proofs.Checked.{Checking}
use Rattle.soundness_values.proofs.CheckedBodies.{is_reference_param}
use Rattle.soundness_values.proofs.Checks as checks
use Rattle.soundness_values.proofs.DropsCount.{is_content}
use Rattle.soundness_values.proofs.Facts.{Facts}
use Rattle.soundness_values.proofs.Leaving.{ShownOut}
use Rattle.soundness_values.proofs.OnceByPass.{protected}
use Rattle.soundness_frame.proofs.PassWithin.{Outer}
use Rattle.soundness_frame.proofs.PassBlockTold.{in_block, block_within}
use Rattle.soundness_cells.proofs.PassCells.{NodeIn, node_left}
use Rattle.soundness.proofs.PassContents.{Plain, Names, names_content, content_at}
use Rattle.soundness_cells.proofs.PassFacts.{Standpoint}
use Rattle.soundness_cells.proofs.PassFirst.{body_at}
use Rattle.soundness_frame.proofs.PassFrameBodies.{any_place, body_kept}
use Rattle.soundness_frame.proofs.PassFrameHeads.{Telling, TellingCalls, moved_nodes, node_site}
use Rattle.soundness_cells.proofs.PassNumbers.{Numbered, Rises, rises_right, rises_apart}
use Rattle.soundness.proofs.PassProtectArgs.{args_hold}
use Rattle.soundness.proofs.PassProtectCalls as calls
use Rattle.soundness.proofs.PassProtectLaw.{protected_param, never_stored, param_numbered}
use Rattle.soundness.proofs.PassProtectRun as runs
use Rattle.soundness.proofs.PassProtectRun.{unless_none, some_sig, some_head}
use Rattle.soundness_cells.proofs.PassRefilled.{not_mark}
use Rattle.soundness_frame.proofs.PassTold as here
use Rattle.soundness_frame.proofs.PassTold.{KnownOf, Here, IfRoot}
use Rattle.soundness_frame.proofs.PassToldBelow.{Saying}
use Rattle.soundness_frame.proofs.PassToldPlaces.{is_alias, Permits}

pub numbered_in : (ns : List Node) (m : Node) → NodeIn ns m → Numbered ns (number_of m)
numbered_in [] m i = absurd i
numbered_in (x ∷ ns) m (inl e) = inl (ap number_of e)
numbered_in (x ∷ ns) m (inr i) = inr (numbered_in ns m i)

module _ (p : ProgramTree) (sound : IsSound p) (n : ℕ) (b : BodyTree) (at : slice_get p.bodies n ≡ Some b) where
  found : (sig : Sig) × ((slice_get p.items.bodies n ≡ Some sig) × Holds (is_body p.items (0 + n) sig b))
  found = body_at p.items 0 p.items.bodies p.bodies sound.typed.1 n b at

  abbrev Block : List Node
  Block = nodes_of b.block

  abbrev local : ℕ → ℕ
  local = local_of p.items b

  all_rise : Rises (param_nodes b.params ++ Block)
  all_rise = found.1.1.1.1.1.0

  pub rise : Rises (nodes_of b.block)
  rise = rises_right (param_nodes b.params) (nodes_of b.block) all_rise

  own : b.number ≡ n
  own = let e : b.number ≡ 0 + n = (Decides-eqb b.number (0 + n)).0 found.1.1.0 in
      let z : 0 + n ≡ n = omega arith in e ∙ z

  params : Holds (Rattle.well_typed.specs.Program.are_params p.items found.0.params b.params)
  params = found.1.1.1.1.0

  -- ---- what is said of a node

  -- it is one of the block, and so are those inside
  abbrev Inside : ℕ → Form → Type 0
  Inside id form =
      ((from : Pos) × ((ty : TyId) × ((by : Option Use) × NodeIn (nodes_of b.block) (node id from ty by form))))
      × ((m : Node) → NodeIn (nodes_in form) m → NodeIn (nodes_of b.block) m)

  abbrev Says : shapes.Aliases → Outer → ℕ → Form → Type 0
  Says places loops id (tree.Borrow unique base) =
      (unique ≡ true → Plain places base) × Inside id (tree.Borrow unique base)
  Says places loops id (tree.Assign place value) = Plain places place × Inside id (tree.Assign place value)
  Says places loops id (tree.Call body args) = Inside id (tree.Call body args)
  Says places loops id (tree.MethodCall body receiver args) = Inside id (tree.MethodCall body receiver args)
  Says places loops id (tree.VirtualCall trait_no method receiver args) =
      Inside id (tree.VirtualCall trait_no method receiver args)
  Says places loops id (tree.ClosureCall body callee args) =
      (is_closure_body p.items body ≡ true) × Inside id (tree.ClosureCall body callee args)
  Says places loops id form = Unit {0}

  abbrev InBlock : Node → Type 0
  InBlock m = NodeIn (nodes_of b.block) m

  abbrev Of : KnownOf
  Of = in_block p.items b InBlock

  -- a place that is replaced has no binding of a guard at its root
  plain_root : (aliases : rules.Aliases) (places : shapes.Aliases) (x : Standpoint) (ns : List Node) (place : Node)
      (a : rules.Accessed) → Here p.items any_place Of aliases places x ns → Permits p.items (IfRoot p.items any_place Of) aliases a →
      replaces a.access ≡ true → a.root ≡ root_of place → Plain places place
  plain_root aliases places x ns place a g h r e key k =
      g.sees.plain key (by (is_alias aliases key) refl)
    where
      by : (c : Bool) → is_alias aliases key ≡ c → c ≡ false
      by false s = refl
      by true s = absurd (h.replaced key r (e ∙ k) s)

  says : Saying p.items any_place Of Says
  says (tree.Borrow unique base) id from ty by aliases places x o g h t = (
    λ u. let e : (if unique then rules.BorrowsUniquely else rules.Borrows) ≡ rules.BorrowsUniquely =
        ap (λ c. if c then rules.BorrowsUniquely else rules.Borrows) u in
        plain_root aliases places x (nodes_of base) base _ g
        (here.told_right p.items any_place Of aliases (inside aliases base)
        (one (if unique then rules.BorrowsUniquely else rules.Borrows) (place_of aliases base) (root_of base) from)
        t).0.0
        (ap replaces e) refl,
    ((from, (ty, (by, o.all _ (inl refl)))), g.all),
  )
  says (tree.Assign place value) id from ty by aliases places x o g h t =
      let store = one rules.Stores (place_of aliases place) (root_of place) from in
      let rest = here.told_right p.items any_place Of aliases (rules.told aliases value)
      (inside aliases place ⊕ store) t in (
        plain_root aliases places x (nodes_of place ++ nodes_of value) place _ g
            (here.told_right p.items any_place Of aliases (inside aliases place) store rest).0.0 refl refl,
        ((from, (ty, (by, o.all _ (inl refl)))), g.all),
      )
  says (tree.Call body args) id from ty by aliases places x o g h t = ((from, (ty, (by, o.all _ (inl refl)))), g.all)
  says (tree.MethodCall body receiver args) id from ty by aliases places x o g h t =
      ((from, (ty, (by, o.all _ (inl refl)))), g.all)
  says (tree.VirtualCall trait_no method receiver args) id from ty by aliases places x o g h t =
      ((from, (ty, (by, o.all _ (inl refl)))), g.all)
  says (tree.ClosureCall body callee args) id from ty by aliases places x o g h t =
      (h.1, ((from, (ty, (by, o.all _ (inl refl)))), g.all))
  says form id from ty by aliases places x o g h t = tt

  -- ---- no temporary of the block is a parameter

  no_temporary : (m : Node) → NodeIn (nodes_of b.block) m → protected p n (local (number_of m)) ≡ true → ⊥
  no_temporary m i h =
      let q = protected_param p n b at own found.0 found.1.0 params (number_of m) (local (number_of m)) refl h in
      rises_apart (param_nodes b.params) (nodes_of b.block) all_rise (number_of m)
      (subst (Numbered (param_nodes b.params)) q.is_key (param_numbered b.params q.number q.param q.is_param))
      (numbered_in (nodes_of b.block) m i)

  -- exactly what a protected parameter names is what a variable names
  named_key : (places : shapes.Aliases) (base : Node) → Plain places base →
      ((m : Node) → NodeIn (nodes_of base) m → NodeIn (nodes_of b.block) m) →
      is_content (place_at local ((shape p.items base).place places)).steps ≡ true →
      protected p n (local ((shape p.items base).place places).local) ≡ true →
      (key : ℕ) × ((content_of base ≡ Some key) × (local key ≡ local ((shape p.items base).place places).local))
  named_key places base plain i c h = by (names_content p.items places base plain
      (sym (content_at local ((shape p.items base).place places).steps) ∙ c))
    where
      by : Names p.items places base →
          (key : ℕ) × ((content_of base ≡ Some key) × (local key ≡ local ((shape p.items base).place places).local))
      by (inl (key, (e, same))) = (key, (e, ap local (sym same)))
      by (inr (m, (j, same))) =
          absurd (no_temporary m (i m j) (subst (λ k. protected p n (local k) ≡ true) same h))

  borrow_known : (places : shapes.Aliases) (loops : Outer) (id : ℕ) (unique : Bool) (base : Node) →
      Says places loops id (tree.Borrow unique base) → runs.Does_ p.items b (protected p) n rise
      (effects.Borrow (site_in (number_of base) id) unique (node_site p.items places base))
  borrow_known places loops id true base s danger =
      let c = first_so (is_content (place_at local ((shape p.items base).place places)).steps) _ danger in
      let h = second_so (is_content (place_at local ((shape p.items base).place places)).steps) _ danger in
      let k = named_key places base (s.0 refl) s.1.1 c h in
      record {
        key = k.0;
        by = node id s.1.0.0 s.1.0.1.0 s.1.0.1.1.0 (tree.Borrow true base);
        inside = s.1.0.1.1.1;
        stands = refl;
        passes = k.1.0;
        names = k.1.1;
      }
  borrow_known places loops id false base s danger = absurd (false≢true danger)

  assign_known : (places : shapes.Aliases) (loops : Outer) (id : ℕ) (place value : Node) →
      Says places loops id (tree.Assign place value) →
      runs.Drops p.items b (protected p) n rise (node_site p.items places place)
  assign_known places loops id place value s = by (is_content (place_at local
      ((shape p.items place).place places)).steps)
      (protected p n (local ((shape p.items place).place places).local)) refl refl
    where
      stored : (k : ℕ) → content_of place ≡ Some k →
          store_of k (node id s.1.0.0 s.1.0.1.0 s.1.0.1.1.0 (tree.Assign place value)) ≡ Some s.1.0.0
      stored k e = ap (λ c. if c then Some s.1.0.0 else None)
          (ap (Rattle.typing_rules.specs.Replaced.is_key k) e ∙ (Decides-eqb k k).1 refl)

      by : (c h : Bool) → is_content (place_at local ((shape p.items place).place places)).steps ≡ c →
          protected p n (local ((shape p.items place).place places).local) ≡ h → not (c && h) ≡ true
      by false h e f = refl
      by true false e f = refl
      by true true e f =
          let k = named_key places place s.0 (λ m i. s.1.1 m (node_left (nodes_of place) (nodes_of value) m i)) e f in
          let q = protected_param p n b at own found.0 found.1.0 params k.0 (local k.0) refl
          (subst (λ l. protected p n l ≡ true) (sym k.1.1) f) in
          absurd (never_stored p n b at own found.0 found.1.0 params k.0 q
          (node id s.1.0.0 s.1.0.1.0 s.1.0.1.1.0 (tree.Assign place value)) s.1.0.0 s.1.0.1.1.1 (stored k.0 k.1.0))

  -- ---- calls

  -- what the own test of a call says of its arguments
  abbrev passes : Facts → AbstractState → List TyId → List effects.Operand → Bool
  passes facts w tys args = checks.passes p.items (local_ty p.items b) (is_reference_param p.items b)
      (checks.after_operands p.items (local_ty p.items b) (is_reference_param p.items b) args facts) facts w.cells tys
      args

  body_passes : (w : AbstractState) (facts : Facts) (to : EffectSite) (callee : ℕ) (args : List effects.Operand) →
      (Rattle.soundness_values.proofs.CheckedBodies.checks_of p.items b).act_ok
      (action_at local (effects.Call to callee args)) w
      facts ≡ true → (sig : Sig) × ((slice_get p.items.bodies callee ≡ Some sig)
      × (passes facts w sig.params (map (operand_at local) args) ≡ true))
  body_passes w facts to callee args o =
      let s = some_sig (slice_get p.items.bodies callee) _ (unless_none facts.refilled _ o) in
      (s.0, (s.1.0, first_so _ _ (second_so _ _ s.1.1)))

  trait_passes : (w : AbstractState) (facts : Facts) (to : EffectSite) (trait_no method : ℕ)
      (args : List effects.Operand) → (Rattle.soundness_values.proofs.CheckedBodies.checks_of p.items b).act_ok
      (action_at local (effects.CallVirtual to trait_no method args)) w facts ≡ true →
      (head : List TyId × TyId) × ((checks.head_of p.items (λ key. None) (λ key. false) trait_no method ≡ Some head)
      × (passes facts w head.0 (map (operand_at local) args) ≡ true))
  trait_passes w facts to trait_no method args o =
      let s = some_head (checks.head_of p.items (λ key. None) (λ key. false) trait_no method) _
      (unless_none facts.refilled _ o) in
      (s.0, (s.1.0, first_so _ _ (second_so _ _ s.1.1)))

  -- what is known when all arguments are there
  abbrev last : Facts → List effects.Operand → Facts
  last facts args = checks.after_operands p.items (local_ty p.items b) (is_reference_param p.items b)
      (map (operand_at local) args) facts

  telling : Telling p.items (runs.Does_ p.items b (protected p) n rise) (runs.Drops p.items b
      (protected p) n rise) Says
  telling = record {
    borrows = borrow_known;
    assigns = assign_known;
  }

  known : TellingCalls (runs.Does_ p.items b (protected p) n rise) Says
  known = record {
    calls = λ places loops id key callee args s w facts k o.
        let t = body_passes w facts (site_in id key) callee (moved_nodes id args) o in
        args_hold p.items b (protected p) n rise (callee ∷ []) 0 t.0.params args id
        (last facts (moved_nodes id args)) facts w.cells s.1
        (calls.call_ok p sound.typed n b at own found.0 found.1.0 params rise (OfBody callee) t.0.params
        (calls.body_refs p sound.typed n b at own found.0 found.1.0 params rise callee t.0 t.1.0)
        (node id s.0.0 s.0.1.0 s.0.1.1.0 (tree.Call callee args)) s.0.0 s.0.1.1.1 args (λ key. refl)) k t.1.1;
    methods = λ places loops id key callee receiver args s w facts k o.
        let t = body_passes w facts (site_in id key) callee (moved_nodes id (a_node receiver args)) o in
        args_hold p.items b (protected p) n rise (callee ∷ []) 0 t.0.params (a_node receiver args) id
        (last facts (moved_nodes id (a_node receiver args))) facts w.cells s.1
        (calls.call_ok p sound.typed n b at own found.0 found.1.0 params rise (OfBody callee) t.0.params
        (calls.body_refs p sound.typed n b at own found.0 found.1.0 params rise callee t.0 t.1.0)
        (node id s.0.0 s.0.1.0 s.0.1.1.0 (tree.MethodCall callee receiver args)) s.0.0 s.0.1.1.1 (a_node receiver args)
        (λ key. refl)) k t.1.1;
    virtuals = λ places loops id key trait_no method receiver args s w facts k o.
        let t = trait_passes w facts (site_in id key) trait_no method (moved_nodes id (a_node receiver args)) o in
        args_hold p.items b (protected p) n rise (Rattle.typing_rules.specs.Replaced.bodies_of p.items
        (OfTrait trait_no method)) 0 t.0.0 (a_node receiver args) id
        (last facts (moved_nodes id (a_node receiver args))) facts w.cells s.1
        (calls.call_ok p sound.typed n b at own found.0 found.1.0 params rise (OfTrait trait_no method) t.0.0
        (calls.trait_refs p sound.typed n b at own found.0 found.1.0 params rise trait_no method t.0 t.1.0)
        (node id s.0.0 s.0.1.0 s.0.1.1.0 (tree.VirtualCall trait_no method receiver args)) s.0.0 s.0.1.1.1
        (a_node receiver args) (λ key. refl)) k t.1.1;
    closures = λ places loops id key callee value args s w facts k o.
        let t = body_passes w facts (site_in id key) callee (moved_nodes id (a_node value args)) o in
        args_hold p.items b (protected p) n rise (callee ∷ []) 0 t.0.params (a_node value args) id
        (last facts (moved_nodes id (a_node value args))) facts w.cells s.1.1
        (calls.closure_ok p sound.typed n b at own found.0 found.1.0 params rise callee t.0 t.1.0 s.0
        (a_node value args))
        k t.1.1;
  }

  -- no run of the body fails such a test
  pub protect_ends : (fuel : ℕ) (v : Checking Facts) → runs.I p.items b (protected p) n rise v →
      ShownOut (not_mark 6) (runs.I p.items b (protected p) n rise) (runs.I p.items b (protected p) n rise)
      (activation p.items (runs.run p.items b (protected p) n rise) fuel b v)
  protect_ends fuel v i = body_kept p.items (runs.run p.items b (protected p) n rise) (not_mark 6)
      (runs.Does_ p.items b (protected p) n rise) (runs.Drops p.items b (protected p) n rise) any_place
      (runs.I p.items b (protected p) n rise) (runs.keeps p.items b (protected p) n rise) Says fuel
      telling known (runs.gives p.items b (protected p) n rise) b
      (block_within p sound.typed sound.borrows n b at InBlock (λ m i. i) Says says) v i
