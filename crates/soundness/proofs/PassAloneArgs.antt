-- What is asked of a node that calls follows from its arguments: what each names is known where it has a value, and
-- stays known while later ones are made; and what the text says of them.
use Rattle.std.proofs.Common.{◌≡◌, ℕ, ◌&&◌, ◌||◌, not, Bool, true, false, List, [], ◌∷◌, map, Option, Some, None, is_some, refl, ap, sym, ◌∙◌, subst}
use Rattle.std.specs.Prelude.{slice_get}
use Rattle.std.specs.Cmp.Derive.{both_true}
use Rattle.std.specs.Option.{option_map_or}
use Rattle.mir_ty.specs.declared.def.Sig.{Sig}
use Rattle.mir_ty.specs.declared.ty.Ty.{Ty}
use Rattle.mir_ty.specs.declared.ty.TyId.{TyId}
use Rattle.mir_ty.specs.ItemTable.{ItemTable, type_at}
use Rattle.store_model.specs.Abstract.Effects.{may_use, presence, watched_at}
use Rattle.store_model.specs.Effects as effects
use Rattle.store_model.specs.Effects.{EffectSite, Operand, Action}
use Rattle.store_model.specs.Places.Place.{whole_local}
use Rattle.store_model.specs.Places.TypeForms.{same_id, referent}
use Rattle.std.specs.Cmp.{first_so, second_so}
use Rattle.std.proofs.lemmas.Bool.{false≢true}
use Rattle.typed_tree.specs.Nodes.{number_of}
use Rattle.typed_tree.specs.Tree as tree
use Rattle.typed_tree.specs.Tree.{Form, Nodes, no_node, a_node, BodyTree, ProgramTree}
use Rattle.src_meaning.specs.Evaluation.{meanings}
use Rattle.src_meaning.specs.Forms.{LoopsAndGuards, all_moved, site_in}
use Rattle.src_meaning.specs.Locals.Effects.{action_at, operand_at, site_at}
use Rattle.src_meaning.specs.Locals.OfBody.{local_ty, local_of}
use Rattle.soundness_values.specs.Laws.{IsSound}
use Rattle.soundness_values.proofs.AlsoTests.{Also}
use Rattle.soundness_values.proofs.Checked.{Checking}
use Rattle.soundness_values.proofs.CheckedBodies.{is_reference_param}
use Rattle.soundness_values.proofs.Checks as checks
use Rattle.soundness_values.proofs.Checks.{if_so}
use Rattle.soundness_values.proofs.Facts.{Naming, Facts}
use Rattle.soundness_frame.proofs.PassWithin.{Outer}
use Rattle.soundness.proofs.PassAloneRun as runs
use Rattle.soundness.proofs.PassAloneRun.{run, I, acts_so, Does_, Drops, keeps, Stands, CallsAsked}
use Rattle.soundness.proofs.PassAloneNever.{never_local}
use Rattle.soundness_cells.proofs.PassCellTests as tests
use Rattle.soundness_frame.proofs.PassToldPatterns.{same_order}
use Rattle.soundness_frame.proofs.PassArgsLeft.{arg, args_in, named_of, AllNames, AskedAs, AllAsked, AllOff, Distinct, call_left}
use Rattle.soundness.proofs.PassCallsAlone as alone
use Rattle.soundness.proofs.PassCallsAlone.{alone_act}
use Rattle.soundness_frame.proofs.PassFrame as frame
use Rattle.soundness_frame.proofs.PassFrameBodies.{any_place}
use Rattle.soundness_frame.proofs.PassFrameCalls as calls
use Rattle.soundness_frame.proofs.PassFrameFacts.{named_by}
use Rattle.soundness_frame.proofs.PassFrameHeads as pass_frame_heads
use Rattle.soundness_frame.proofs.PassFrameHeads.{Calls, a_call, a_method, a_virtual, a_closure, moved_nodes}
use Rattle.soundness_cells.proofs.PassRefilled.{not_mark}
use Rattle.soundness_cells.proofs.PassRest.{own_local}
use Rattle.soundness_cells.proofs.PassRestCalls.{left_call}
use Rattle.soundness_frame.proofs.PassWithin as within
use Rattle.soundness_values.proofs.Running.{sure_place}

-- the local of an argument, and what it names if it is a reference
abbrev pub Arg : Type 0
Arg = ℕ × Option Naming

abbrev pub locals_of : List Arg → List ℕ
locals_of args = map (λ (a : Arg). a.0) args

abbrev pub names_of : List Arg → List (Option Naming)
names_of args = map (λ (a : Arg). a.1) args

module _ (items : ItemTable) (body : BodyTree) where
  abbrev V : Type 0
  V = Checking Facts

  abbrev target : ℕ → Bool
  target = is_reference_param items body

  abbrev sure : V → Naming → Bool
  sure v n = sure_place items (local_ty items body) target v.facts n.place

  abbrev usable : V → Naming → Bool
  usable v n = may_use (watched_at items (local_ty items body) (record { node = 0; place = n.place }))
      (presence n.place.local v.free.cells)

  -- a reference to the type of the place that it names, as each borrow makes one
  abbrev pub is_typed : Naming → Bool
  is_typed n = option_map_or (λ id. option_map_or (same_id id)
      (referent n.unique (checks.ty_of items (local_ty items body) target (whole_local n.local))) false)
      (checks.id_of items (local_ty items body) target n.place) false

  -- what is known of an argument in a state
  abbrev pub KnownIf : V → ℕ → Option Naming → Type 0
  KnownIf v local None = (named_by local v.facts ≡ None) × (never_local items body local ≡ false)
  KnownIf v local (Some n) = (named_by local v.facts ≡ Some n)
      × ((sure v n ≡ true) × ((usable v n ≡ true) × (is_typed n ≡ true)))

  abbrev pub AllKnown : List Arg → V → Type 0
  AllKnown [] v = Unit {0}
  AllKnown (a ∷ as_) v = KnownIf v a.0 a.1 × AllKnown as_ v

  -- a local has a type
  abbrev pub is_listed : ℕ → Bool
  is_listed local = is_some (checks.id_of items (local_ty items body) target (whole_local local))

  abbrev pub reference_to : Bool → TyId → Ty
  reference_to true to = Ty.Unique to
  reference_to false to = Ty.Shared to

  -- what the text says of one that is passed for a reference: it is of type `!`, or names what suits
  pub record SuitsOne (local : ℕ) (unique : Bool) (to : TyId) (n : Naming) : Type 0 where
    pub own : not (target local) ≡ true
    pub is_so : if_so unique n.unique ≡ true
    pub changes : (not unique || checks.may_change items (local_ty items body) target n.place) ≡ true
    pub by : n.local ≡ local
    pub of_type : is_listed local ≡ true →
        checks.ty_of items (local_ty items body) target (whole_local local) ≡ Some (reference_to unique to)

  abbrev pub Suits : ℕ → Bool → TyId → Option Naming → Type 0
  Suits local unique to None = is_listed local ≡ true → never_local items body local ≡ true
  Suits local unique to (Some n) = SuitsOne local unique to n

  abbrev pub SuitsAs : ℕ → Option Naming → Option Ty → Type 0
  SuitsAs local o (Some (Ty.Shared to)) = Suits local false to o
  SuitsAs local o (Some (Ty.Unique to)) = Suits local true to o
  SuitsAs local o ty = Unit {0}

  abbrev pub AllSuit : List TyId → List Arg → Type 0
  AllSuit (id ∷ ids) (a ∷ as_) = SuitsAs a.0 a.1 (type_at items id) × AllSuit ids as_
  AllSuit ids as_ = Unit {0}

  turned : (a b : TyId) → same_id a b ≡ true → same_id b a ≡ true
  turned a b h = same_order b.0 a.0 ∙ h

  refers_to : (unique mine : Bool) (to : TyId) → if_so unique mine ≡ true →
      referent mine (Some (reference_to unique to)) ≡ Some to
  refers_to true true to h = refl
  refers_to true false to h = absurd (false≢true h)
  refers_to false true to h = absurd (false≢true h)
  refers_to false false to h = refl

  -- the type that is named
  named_id : (unique : Bool) (to : TyId) (local : ℕ) (n : Naming) → SuitsOne local unique to n →
      is_listed local ≡ true → is_typed n ≡ true →
      option_map_or (same_id to) (checks.id_of items (local_ty items body) target n.place) false ≡ true
  named_id unique to local n s p h = by (checks.id_of items (local_ty items body) target n.place) h
    where
      refers : referent n.unique (checks.ty_of items (local_ty items body) target (whole_local n.local)) ≡ Some to
      refers = ap (λ l. referent n.unique (checks.ty_of items (local_ty items body) target (whole_local l))) s.by
          ∙ ap (referent n.unique) (s.of_type p) ∙ refers_to unique n.unique to s.is_so

      by : (o : Option TyId) → option_map_or (λ id. option_map_or (same_id id)
          (referent n.unique (checks.ty_of items (local_ty items body) target (whole_local n.local))) false) o false
          ≡ true → option_map_or (same_id to) o false ≡ true
      by None h = absurd (false≢true h)
      by (Some id) h = turned id to (sym (ap (λ o. option_map_or (same_id id) o false) refers) ∙ h)

  asked : (v : V) (unique : Bool) (to : TyId) (local : ℕ) (o : Option Naming) → is_listed local ≡ true →
      Suits local unique to o →
      KnownIf v local o → (not (target local) ≡ true) × (checks.names_well_if_any items (local_ty items body) target
      v.facts v.free.cells unique to o ≡ true)
  asked v unique to local None p s k = absurd (false≢true (sym k.1 ∙ s p))
  asked v unique to local (Some n) p s k = (
    s.own,
    both_true (both_true (both_true s.is_so (named_id unique to local n s p k.1.1.1)) (both_true k.1.0 s.changes))
        k.1.1.0,
  )

  asked_as : (v : V) (at_node id : ℕ) (of_id : TyId) (local : ℕ) (o : Option Naming) (ty : Option Ty) →
      tests.passed_as items (local_ty items body) target of_id
      (arg items (local_ty items body) target (own_local items body) at_node local) ty ≡ true → SuitsAs local o ty →
      KnownIf v local o →
      AskedAs items (local_ty items body) target (own_local items body) v.facts v.free.cells local o ty
  asked_as v at_node id of_id local o (Some (Ty.Shared to)) p s k = asked v false to local o p s k
  asked_as v at_node id of_id local o (Some (Ty.Unique to)) p s k = asked v true to local o p s k
  asked_as v at_node id of_id local o None p s k = tt
  asked_as v at_node id of_id local o (Some ty) p s k = tt

  all_asked : (v : V) (at_node : ℕ) (ids : List TyId) (as_ : List Arg) →
      tests.passed items (local_ty items body) target ids
      (args_in items (local_ty items body) target (own_local items body) at_node (locals_of as_)) ≡ true →
      AllSuit ids as_ → AllKnown as_ v →
      AllAsked items (local_ty items body) target (own_local items body) v.facts v.free.cells ids (locals_of as_)
      (names_of as_)
  all_asked v at_node [] as_ p s k = tt
  all_asked v at_node (id ∷ ids) [] p s k = tt
  all_asked v at_node (id ∷ ids) (a ∷ as_) p s k = (
    asked_as v at_node 0 id a.0 a.1 (type_at items id)
        (first_so (tests.passed_as items (local_ty items body) target id
        (arg items (local_ty items body) target (own_local items body) at_node a.0) (type_at items id)) _ p) s.0 k.0,
    all_asked v at_node ids as_ (second_so (tests.passed_as items (local_ty items body) target id
        (arg items (local_ty items body) target (own_local items body) at_node a.0) (type_at items id)) _ p) s.1 k.1,
  )

  pub all_named : (v : V) (as_ : List Arg) → AllKnown as_ v →
      AllNames items (local_ty items body) target (own_local items body) v.facts (locals_of as_) (names_of as_)
  all_named v [] k = tt
  all_named v ((local, None) ∷ as_) k = (k.0.0, all_named v as_ k.1)
  all_named v ((local, Some n) ∷ as_) k = (k.0.0, all_named v as_ k.1)

  -- what the text says of all of them
  pub record ArgsSuit (ids : List TyId) (as_ : List Arg) : Type 0 where
    pub distinct : Distinct items (local_ty items body) target (own_local items body) (locals_of as_)
    pub off : AllOff items (local_ty items body) target (own_local items body) (locals_of as_) (names_of as_)
    pub suit : AllSuit ids as_
    pub apart : checks.all_apart items (local_ty items body) target
        (named_of items (local_ty items body) target (own_local items body) (names_of as_)) ≡ true

  pub left_so : (at_node : ℕ) (v : V) (ids : List TyId) (as_ : List Arg) → ArgsSuit ids as_ → AllKnown as_ v →
      tests.passed items (local_ty items body) target ids
      (args_in items (local_ty items body) target (own_local items body) at_node (locals_of as_)) ≡ true →
      left_call items (local_ty items body) target (own_local items body) v.facts v.free.cells ids
      (args_in items (local_ty items body) target (own_local items body) at_node (locals_of as_)) ≡ true
  left_so at_node v ids as_ s k p = call_left items (local_ty items body) target (own_local items body) at_node v.facts
      v.free.cells ids (locals_of as_) (names_of as_) s.distinct s.off (all_named v as_ k)
      (all_asked v at_node ids as_ p s.suit k) s.apart

  -- ---- at a node that calls

  -- the types of the parameters
  abbrev pub ParamsOf : Form → List TyId → Type 0
  ParamsOf (tree.Call callee args) ids = (sig : Sig) × ((slice_get items.bodies callee ≡ Some sig) × (sig.params ≡ ids))
  ParamsOf (tree.MethodCall callee receiver args) ids =
      (sig : Sig) × ((slice_get items.bodies callee ≡ Some sig) × (sig.params ≡ ids))
  ParamsOf (tree.ClosureCall callee value args) ids =
      (sig : Sig) × ((slice_get items.bodies callee ≡ Some sig) × (sig.params ≡ ids))
  ParamsOf (tree.VirtualCall trait_no method receiver args) ids = (head : List TyId × TyId)
      × ((checks.head_of items (local_ty items body) target trait_no method ≡ Some head) × (head.0 ≡ ids))
  ParamsOf form ids = ⊥

  abbrev pub locals_in : Nodes → List ℕ
  locals_in no_node = []
  locals_in (a_node first rest) = local_of items body (number_of first) ∷ locals_in rest

  pub operands_so : (at_node : ℕ) (ns : Nodes) → map (operand_at (local_of items body)) (moved_nodes at_node ns)
      ≡ args_in items (local_ty items body) target (own_local items body) at_node (locals_in ns)
  operands_so at_node no_node = refl
  operands_so at_node (a_node first rest) =
      ap (λ l. effects.Moved (record {
        node = at_node;
        place = record {
          local = local_of items body (number_of first);
          steps = [];
        };
      }) ∷ l) (operands_so at_node rest)

  module _ (also : Also) where
    of_sig : (v : V) (ids : List TyId) (args : List Operand) (o : Option Sig) (sig : Sig) → o ≡ Some sig →
        sig.params ≡ ids → left_call items (local_ty items body) target (own_local items body) v.facts v.free.cells ids
        args ≡ true → option_map_or (λ (s : Sig). left_call items (local_ty items body) target (own_local items body)
        v.facts v.free.cells s.params args) o false ≡ true
    of_sig v ids args o sig e p h = subst (λ x. option_map_or (λ (s : Sig). left_call items (local_ty items body) target
        (own_local items body) v.facts v.free.cells s.params args) x false ≡ true) (sym e)
        (subst (λ l. left_call items (local_ty items body) target (own_local items body) v.facts v.free.cells l args
        ≡ true) (sym p) h)

    of_head : (v : V) (ids : List TyId) (args : List Operand) (o : Option (List TyId × TyId)) (h : List TyId × TyId) →
        o ≡ Some h → h.0 ≡ ids → left_call items (local_ty items body) target (own_local items body) v.facts
        v.free.cells ids args ≡ true → option_map_or (λ (s : List TyId × TyId). left_call items (local_ty items body)
        target (own_local items body) v.facts v.free.cells s.0 args) o false ≡ true
    of_head v ids args o h e p l = subst (λ x. option_map_or (λ (s : List TyId × TyId). left_call items
        (local_ty items body) target (own_local items body) v.facts v.free.cells s.0 args) x false ≡ true) (sym e)
        (subst (λ t. left_call items (local_ty items body) target (own_local items body) v.facts v.free.cells t args
        ≡ true) (sym p) l)

    -- the arguments are passed, if the action is of the types of the cells
    passed_sig : (to : EffectSite) (ids : List TyId) (args : List Operand) (o : Option Sig) (sig : Sig) → o ≡ Some sig →
        sig.params ≡ ids → option_map_or (λ (s : Sig). tests.called items (local_ty items body) target to s.params
        s.result args) o false ≡ true → tests.passed items (local_ty items body) target ids args ≡ true
    passed_sig to ids args o sig e p h = subst (λ l. tests.passed items (local_ty items body) target l args ≡ true) p
        (second_so (tests.target items (local_ty items body) target to.place && option_map_or (same_id sig.result)
        (checks.id_of items (local_ty items body) target to.place) false) _
        (subst (λ x. option_map_or (λ (s : Sig). tests.called items (local_ty items body) target to s.params
        s.result args) x false ≡ true) e h))

    passed_head : (to : EffectSite) (ids : List TyId) (args : List Operand) (o : Option (List TyId × TyId))
        (s : List TyId × TyId) → o ≡ Some s → s.0 ≡ ids →
        option_map_or (λ (h : List TyId × TyId). tests.called items (local_ty items body) target to h.0 h.1 args) o
        false ≡ true → tests.passed items (local_ty items body) target ids args ≡ true
    passed_head to ids args o s e p h = subst (λ l. tests.passed items (local_ty items body) target l args ≡ true) p
        (second_so (tests.target items (local_ty items body) target to.place && option_map_or (same_id s.1)
        (checks.id_of items (local_ty items body) target to.place) false) _
        (subst (λ x. option_map_or (λ (h : List TyId × TyId). tests.called items (local_ty items body) target to h.0 h.1
        args) x false ≡ true) e h))

    pub call_passed : (form : Form) (ns : Nodes) (action : EffectSite → List Operand → Action) →
        Calls form ns action → (id key : ℕ) (ids : List TyId) → ParamsOf form ids →
        tests.cells_act items (local_ty items body) target
        (action_at (local_of items body) (action (site_in id key) (moved_nodes id ns))) ≡ true →
        tests.passed items (local_ty items body) target ids
        (map (operand_at (local_of items body)) (moved_nodes id ns)) ≡ true
    call_passed _ _ _ (a_call callee args) id key ids p h =
        passed_sig (site_at (local_of items body) (site_in id key)) ids (map (operand_at (local_of items body))
        (moved_nodes id args)) (slice_get items.bodies callee)
        p.0 p.1.0 p.1.1 h
    call_passed _ _ _ (a_method callee receiver args) id key ids p h =
        passed_sig (site_at (local_of items body) (site_in id key)) ids (map (operand_at (local_of items body))
        (moved_nodes id (a_node receiver args)))
        (slice_get items.bodies callee) p.0 p.1.0 p.1.1 h
    call_passed _ _ _ (a_closure callee value args) id key ids p h =
        passed_sig (site_at (local_of items body) (site_in id key)) ids (map (operand_at (local_of items body))
        (moved_nodes id (a_node value args)))
        (slice_get items.bodies callee) p.0 p.1.0 p.1.1 h
    call_passed _ _ _ (a_virtual trait_no method receiver args) id key ids p h =
        passed_head (site_at (local_of items body) (site_in id key)) ids (map (operand_at (local_of items body))
        (moved_nodes id (a_node receiver args)))
        (checks.head_of items (local_ty items body) target trait_no method) p.0 p.1.0 p.1.1 h

    call_asked : (form : Form) (ns : Nodes) (action : EffectSite → List Operand → Action) → Calls form ns action →
        (id key : ℕ) (v : V) (ids : List TyId) → ParamsOf form ids →
        left_call items (local_ty items body) target (own_local items body) v.facts v.free.cells ids
        (map (operand_at (local_of items body)) (moved_nodes id ns)) ≡ true →
        alone_act items body also v.facts v.free.cells
        (action_at (local_of items body) (action (site_in id key) (moved_nodes id ns))) ≡ true
    call_asked _ _ _ (a_call callee args) id key v ids p h =
        of_sig v ids (map (operand_at (local_of items body)) (moved_nodes id args)) (slice_get items.bodies callee) p.0
        p.1.0 p.1.1 h
    call_asked _ _ _ (a_method callee receiver args) id key v ids p h =
        of_sig v ids (map (operand_at (local_of items body)) (moved_nodes id (a_node receiver args)))
        (slice_get items.bodies callee) p.0 p.1.0 p.1.1 h
    call_asked _ _ _ (a_closure callee value args) id key v ids p h =
        of_sig v ids (map (operand_at (local_of items body)) (moved_nodes id (a_node value args)))
        (slice_get items.bodies callee) p.0 p.1.0 p.1.1 h
    call_asked _ _ _ (a_virtual trait_no method receiver args) id key v ids p h =
        of_head v ids (map (operand_at (local_of items body)) (moved_nodes id (a_node receiver args)))
        (checks.head_of items (local_ty items body) target trait_no method) p.0 p.1.0 p.1.1 h

-- a call makes no reference
pub makes_none : (items : ItemTable) (body : BodyTree) (also : Also) (form : Form) (ns : Nodes)
    (action : EffectSite → List Operand → Action) → Calls form ns action → (site : EffectSite) (args : List Operand) →
    runs.Makes items body also (action_at (local_of items body) (action site args))
makes_none items body also _ _ _ (a_call callee args) site operands = tt
makes_none items body also _ _ _ (a_method callee receiver args) site operands = tt
makes_none items body also _ _ _ (a_virtual trait_no method receiver args) site operands = tt
makes_none items body also _ _ _ (a_closure callee value args) site operands = tt

module _ (p : ProgramTree) (sound : IsSound p) where
  -- of a node that calls: what its arguments are, what each brings, and that they suit
  pub record ArgsAsked (n fuel : ℕ) (b : BodyTree) (form : Form) (ns : Nodes) (around : LoopsAndGuards) : Type 0 where
    pub args : List Arg
    pub ids : List TyId
    pub params : ParamsOf p.items b form ids
    pub locals : locals_of args ≡ locals_in p.items b ns
    pub suit : ArgsSuit p.items b ids args
    pub ends : calls.AllEnd p.items (run p.items b (alone.also p sound n)) (not_mark 8)
        (Does_ p.items b (alone.also p sound n)) (Drops p.items b (alone.also p sound n)) any_place any_place any_place
        (I p.items b (alone.also p sound n)) (keeps p.items b (alone.also p sound n)) Arg (AllKnown p.items b) around []
        (meanings p.items (run p.items b (alone.also p sound n)) fuel ns) args

  abbrev pub AllArgs : Type 0
  AllArgs = (n fuel : ℕ) (b : BodyTree) → slice_get p.bodies n ≡ Some b → (form : Form) (ns : Nodes)
      (action : EffectSite → List Operand → Action) → Calls form ns action → (id : ℕ) (around : LoopsAndGuards)
      (loops : Outer) → within.Around any_place around (within.passing id loops) →
      within.AllWithin p.items any_place (Stands p b) around.aliases (within.passing id loops) ns → Stands p b
      around.aliases loops id form
      →
      frame.AllEvaluated p.items (run p.items b (alone.also p sound n)) (not_mark 8)
      (Does_ p.items b (alone.also p sound n)) (Drops p.items b (alone.also p sound n)) any_place any_place any_place
      (I p.items b (alone.also p sound n)) (keeps p.items b (alone.also p sound n)) around
      (meanings p.items (run p.items b (alone.also p sound n)) fuel ns) → ArgsAsked n fuel b form ns around

  module _ (n fuel : ℕ) (b : BodyTree) where
    abbrev also : Also
    also = alone.also p sound n

    by_number : (at_node : ℕ) (ns : Nodes) → all_moved at_node (meanings p.items (run p.items b also) fuel ns)
        ≡ moved_nodes at_node ns
    by_number at_node ns = pass_frame_heads.all_by_number p.items (run p.items b also) (not_mark 8) (Does_ p.items b also)
        (Drops p.items b also) any_place any_place any_place (I p.items b also) (keeps p.items b also) (Stands p b) fuel
        at_node ns

  -- so what is asked of calls holds
  pub calls_by_args : AllArgs → CallsAsked p sound
  calls_by_args asked_of n fuel b e = record {
    called_kept = λ form ns action c id ty by s around loops a w says ev own_cell own to d.
        let k = asked_of n fuel b e form ns action c id around loops a w says ev in
        calls.called_by p.items (run p.items b (also n fuel b)) (not_mark 8) (Does_ p.items b (also n fuel b))
        (Drops p.items b (also n fuel b)) any_place any_place any_place (I p.items b (also n fuel b)) (keeps p.items b
        (also n fuel b))
        (AllKnown p.items b k.args) (Stands p b) fuel id ty by s
        (meanings p.items (run p.items b (also n fuel b)) fuel ns) action around own to ev
        (λ S v i. calls.all_end p.items (run p.items b (also n fuel b)) (not_mark 8) (Does_ p.items b (also n fuel b))
        (Drops p.items b (also n fuel b)) any_place any_place any_place (I p.items b (also n fuel b)) (keeps p.items b
        (also n fuel b)) Arg
        (AllKnown p.items b) around [] (meanings p.items (run p.items b (also n fuel b)) fuel ns) k.args ev k.ends S v i
        tt)
        (λ key x v i j. acts_so p.items b (also n fuel b)
        (action (site_in id key) (all_moved id (meanings p.items (run p.items b (also n fuel b)) fuel ns))) v
        (λ t. subst (λ l. alone_act p.items b (also n fuel b) v.facts v.free.cells
        (action_at (local_of p.items b) (action (site_in id key) l)) ≡ true) (sym (by_number n fuel b id ns))
        (call_asked p.items b (also n fuel b) form ns action c id key v k.ids k.params
        (subst (λ l. left_call p.items (local_ty p.items b) (is_reference_param p.items b) (own_local p.items b) v.facts
        v.free.cells k.ids l ≡ true) (sym (operands_so p.items b id ns))
        (subst (λ l. left_call p.items (local_ty p.items b) (is_reference_param p.items b) (own_local p.items b) v.facts
        v.free.cells k.ids (args_in p.items (local_ty p.items b) (is_reference_param p.items b) (own_local p.items b) id
        l) ≡ true) k.locals (left_so p.items b id v k.ids k.args k.suit j
        (subst (λ l. tests.passed p.items (local_ty p.items b) (is_reference_param p.items b) k.ids
        (args_in p.items (local_ty p.items b) (is_reference_param p.items b) (own_local p.items b) id l) ≡ true)
        (sym k.locals) (subst (λ l. tests.passed p.items (local_ty p.items b) (is_reference_param p.items b) k.ids l
        ≡ true) (operands_so p.items b id ns) (call_passed p.items b (also n fuel b) form ns action c id key k.ids
        k.params
        (subst (λ l. tests.cells_act p.items (local_ty p.items b) (is_reference_param p.items b)
        (action_at (local_of p.items b) (action (site_in id key) l)) ≡ true) (by_number n fuel b id ns) t)))))))))
        (makes_none p.items b (also n fuel b) form ns action c (site_in id key)
        (all_moved id (meanings p.items (run p.items b (also n fuel b)) fuel ns))) i)
        own_cell d;
  }
