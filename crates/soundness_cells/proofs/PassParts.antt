-- Forms with parts keep to what the pass says of scopes, given that their parts do: coercions, `if`, `if let`, loops,
-- blocks, and `let`.
use Rattle.std.proofs.Common.{◌≡◌, ◌⊎◌, inl, inr, ℕ, zero, suc, nat_lt, ◌==◌, ◌&&◌, ◌||◌, not, Bool, true, false, List, [], ◌∷◌, ◌++◌, length, Option, Some, None, is_none, is_some, slice_get, if◌then◌else◌, refl, ap, sym, ◌∙◌, subst}
use Rattle.std.specs.Prelude.{option_and_then, replicate}
use Rattle.std.specs.List.{list_all}
use Rattle.std.specs.Option.{option_map_or}
use Rattle.std.proofs.lemmas.Bool.{false≢true}
use Rattle.std.proofs.lemmas.Bool.Decides.{Decides-eqb}
use Rattle.std.proofs.lemmas.Option.{none-some}
use Rattle.mir_base.specs.declared.place_in_text.Pos.{Pos}
use Rattle.mir_base.specs.declared.trace.Why.{Why}
use Rattle.mir_ty.specs.declared.ty.Ty.{Ty}
use Rattle.mir_ty.specs.declared.ty.TyId.{TyId}
use Rattle.mir_ty.specs.declared.adt.Variant.{Variant}
use Rattle.mir_ty.specs.declared.def.ClosureDef.{ClosureDef}
use Rattle.mir_ty.specs.declared.def.Sig.{Sig}
use Rattle.mir_ty.specs.declared.def.TraitDef.{TraitDef}
use Rattle.mir_ty.specs.Facts.{needs_drop, drop_rule, in_rounds}
use Rattle.mir_ty.specs.ItemTable.{ItemTable, type_at}
use Rattle.store_model.specs.Effects as effects
use Rattle.store_model.specs.Effects.{EffectSite, Action, Effects, OfTuple, OfArray, OfVariant, OfClosure}
use Rattle.store_model.specs.Places.Place.{Step, ToPart, ToElement, ToContent, Place, whole_local}
use Rattle.typed_tree.specs.declared.node.Use.{Use}
use Rattle.typed_tree.specs.Nodes.{number_of, nodes_of, nodes_in, nodes_among, nodes_of_fields, nodes_if_any}
use Rattle.typed_tree.specs.Tree as tree
use Rattle.typed_tree.specs.Tree.{Node, node, Form, Nodes, no_node, a_node, Fields, no_field, a_field, MaybeNode, absent, present}
use Rattle.src_meaning.specs.Evaluation as evaluation
use Rattle.src_meaning.specs.Evaluation.{meaning, meaning_of, meanings, fields_of, meaning_if_any, values_of, in_number_order, insert_field}
use Rattle.src_meaning.specs.Forms as forms
use Rattle.src_meaning.specs.Forms.{Destination, Into, Coerced, coerced, LoopsAndGuards, Meaning, in_loop, loop_destination, keys_of, moved, all_moved, is_never, place_of, site_of}
use Rattle.src_meaning.specs.Scopes.{Entry, Scope, Scopes, with_scope, Exit, Value, Breaks, Continues, Returns, Panics, Run, At, Does, on_value}
use Rattle.src_meaning.specs.Shape as shapes
use Rattle.src_meaning.specs.Shape.{NodeHead, head, Shape, BoundName, shape, shape_of, kind_of, extended, place_of_key}
use Rattle.well_typed.specs.Claim.{Claim, Holds, fact, both, some, nothing}
use Rattle.well_typed.specs.Nodes as typing
use Rattle.well_typed.specs.Patterns as pattern_rules
use Rattle.well_typed.specs.Patterns.{Matched}
use Rattle.well_typed.specs.Names.{are_distinct_numbers}
use Rattle.well_typed.specs.Places.{InScope, LoopAround, Context, with_entries, within, entry_with, loop_with, ty_of, form_of, Standing, Taken, Wanted, Passed, Base, Used, Stored, borrow_by, in_guard, is_place}
use Rattle.well_typed.specs.Types as types
use Rattle.soundness_values.proofs.Leaving.{Shown, shown_more, Among}
use Rattle.soundness_cells.proofs.PassAround as named
use Rattle.soundness_cells.proofs.PassBranches as branches
use Rattle.soundness_cells.proofs.PassClear.{KeepsClear, any, Nothing, MovedByAny, operands_of}
use Rattle.soundness_cells.proofs.PassFacts as facts
use Rattle.soundness_cells.proofs.PassFacts.{Standpoint, context, with_names, in_a_loop, behind, left, right, name_alone}
use Rattle.soundness_values.proofs.PassHeads.{IsName, type_is, number_is, shape_is, named_form}
use Rattle.soundness_cells.proofs.PassLoops as loops
use Rattle.soundness_cells.proofs.PassNames as names
use Rattle.soundness_cells.proofs.PassNodes as nodes
use Rattle.soundness_cells.proofs.PassPatterns as patterns
use Rattle.soundness_cells.proofs.PassRules as rules
use Rattle.soundness_cells.proofs.PassRules.{InList}
use Rattle.soundness_cells.proofs.PassScopes as scopes
use Rattle.soundness_cells.proofs.PassScopes.{key_of, entries_of, NamedAt, Other, seq, inside}
use Rattle.soundness_cells.proofs.PassStatements as statements
use Rattle.soundness_cells.proofs.PassSteps as steps
use Rattle.soundness_values.proofs.PlaceTypes.{some_holds, same_type}

module _ {V : Type 0} (items : ItemTable) (needs : ℕ → Bool) (q : Effects V) (clear : V → ℕ → Type 0)
    (keeps : KeepsClear q needs clear) (fuel : ℕ) where
  abbrev Held : (ℕ → Type 0) → List Entry → V → Type 0
  Held = scopes.Held items needs q clear keeps

  abbrev After : Context → LoopsAndGuards → (ℕ → Type 0) → (Scopes → Type 0) → Exit → Scopes → V → Type 0
  After = scopes.After items needs q clear keeps

  abbrev AroundOk : Context → LoopsAndGuards → Scopes → Type 0
  AroundOk = scopes.AroundOk items needs

  abbrev Inside : Bool → Scopes → Scopes → Type 0
  Inside = scopes.Inside items needs

  abbrev Grown : Bool → Scopes → Scopes → Type 0
  Grown = scopes.Grown items needs

  abbrev Grows : Scopes → Scopes → Type 0
  Grows = scopes.Grows items needs

  abbrev Lands : Scopes → ℕ → Type 0
  Lands = scopes.Lands items needs

  abbrev Typed : Entry → Type 0
  Typed = scopes.Typed items needs

  abbrev Suits : TyId → Destination → Type 0
  Suits = scopes.Suits items needs

  abbrev Sound : Context → Meaning V → Type 0
  Sound = rules.Sound items needs q clear keeps

  abbrev DoesSo : Context → LoopsAndGuards → (ℕ → Type 0) → Does V → Type 0
  DoesSo = steps.DoesSo items needs q clear keeps

  abbrev Good : List Node → Type 0
  Good = nodes.Good items needs q clear keeps fuel

  abbrev K : Standpoint → Context
  K = context items

  abbrev M : Node → Meaning V
  M = meaning items q fuel

  abbrev Ms : Nodes → List (Meaning V)
  Ms = meanings items q fuel

  abbrev Mf : Fields → List (ℕ × Meaning V)
  Mf = fields_of items q fuel

  abbrev AllSound : Context → List (Meaning V) → Type 0
  AllSound = rules.AllSound items needs q clear keeps

  -- ---- parts of forms, given what is shown of the nodes inside

  pub unchanged : (own : Bool) (S : Scopes) → Grown own S S
  unchanged true S = refl
  unchanged false S = scopes.not_grown items needs S

  pub owned : (own : Bool) → own ≡ true → (own || false) ≡ true
  owned true e = refl
  owned false e = absurd (false≢true e)

  -- a part of a place is reached as the place is
  pub part_reached : (c : Context) (m : Meaning V) (base : LoopsAndGuards → Place) (step : Step) → Sound c m → (around : LoopsAndGuards)
      (S : Scopes) (v : V) → AroundOk c around S → Held Nothing (entries_of S) v →
      Shown any (λ exit T u. After c around Nothing (Grows S) exit T u
      × NamedAt exit (λ key. extended step (base around) ≡ whole_local key) T) (m.reach around S v)
  part_reached c m base step sound around S v ok k =
      shown_more any (λ exit T u y. (
        y,
        branches.named_at items needs q clear keeps exit
            (λ key. extended step (base around) ≡ whole_local key) T
            (λ key e. absurd (nodes.no_whole items needs q clear keeps fuel step (base around) key e)),
      )) (m.reach around S v)
      (steps.reached items needs q clear keeps c around m sound S v ok k)

  pub boxed_from : (from : TyId) (trait_no : ℕ) →
      option_map_or (λ adt. types.implements items adt trait_no)
      (option_and_then (types.adt_of items) (types.boxed_of items from)) false ≡ true →
      is_some (types.boxed_of items from) ≡ true
  boxed_from from trait_no e = by (types.boxed_of items from) e
    where
      by : (o : Option TyId) → option_map_or (λ adt. types.implements items adt trait_no)
          (option_and_then (types.adt_of items) o) false ≡ true → is_some o ≡ true
      by None e = absurd (false≢true e)
      by (Some id) e = refl

  pub leaf_node : (n : Node) (x : Standpoint) (standing : Standing) → Holds (typing.typed (K x) standing n) →
      typing.is_leaf (form_of n) ≡ true → needs_drop items (ty_of n) ≡ true → (M n).shape.in_destination ≡ false
  leaf_node (node id at ty by form) x standing h l d =
      ap (λ s. s.in_destination) (shape_is items q fuel (node id at ty by form))
      ∙ facts.leaf_shape items needs q clear keeps fuel form (K x) id ty (head id ty by) refl l d h.1

  pub coerced_so : (c : Context) (n : Node) (trait_no : ℕ) → Sound c (M n) → (M n).shape.in_destination ≡ false →
      needs_drop items (ty_of n) ≡ true → (around : LoopsAndGuards) (own : Bool) (to : Destination) (S : Scopes) (v : V) →
      AroundOk c around S → Held Nothing (entries_of S) v → (own ≡ true → Lands S (key_of to)) →
      Shown any (After c around (λ key. key ≡ key_of to) (Grown own S))
      ((M n).evaluate around own (coerced (M n).head.id trait_no to) S v)
  coerced_so c n trait_no sound d boxed around own to S v ok k lands =
      subst (λ key'. Shown any (After c around (λ key. key ≡ key') (Grown own S))
      ((M n).evaluate around own (coerced (M n).head.id trait_no to) S v)) (same_key to)
      (sound.evaluates around own (coerced (M n).head.id trait_no to) S v ok k
      (λ e. subst (Lands S) (sym (same_key to)) (lands (either own (M n).shape.in_destination d e)))
      (inr (λ e. absurd (false≢true (sym e ∙ ap (needs_drop items) (type_is items q fuel n) ∙ boxed)))))
    where
      same_key : (to : Destination) → key_of (coerced (M n).head.id trait_no to) ≡ key_of to
      same_key (Into key) = refl
      same_key (Coerced key other key') = refl

      either : (a b : Bool) → b ≡ false → (a || b) ≡ true → a ≡ true
      either true b e f = refl
      either false b e f = absurd (false≢true (sym e ∙ f))

  pub if_so : (x : Standpoint) (id : ℕ) (ty : TyId) (by : Option Use) (condition : Node) → Sound (K x) (M condition) →
      typing.fits_bool items (ty_of condition) ≡ true → (first second : Does V) (around : LoopsAndGuards) (to : Destination)
      (S : Scopes) (v : V) → AroundOk (K x) around S → Held Nothing (entries_of S) v →
      ((w : V) → Held Nothing (entries_of S) w →
      Shown any (After (K x) around (λ key. key ≡ key_of to) (λ T. T ≡ S)) (first S w)) →
      ((w : V) → Held Nothing (entries_of S) w →
      Shown any (After (K x) around (λ key. key ≡ key_of to) (λ T. T ≡ S)) (second S w)) →
      Shown any (After (K x) around (λ key. key ≡ key_of to) (Grows S))
      (forms.condition items q around (M condition) first second S v)
  if_so x id ty by condition c fits first second around to S v ok k f s =
      steps.condition_so items needs q clear keeps (K x) around (M condition) (After (K x) around (λ key. key ≡ key_of to) (Grows S))
      first second S v c
      (facts.free_cell items needs q clear keeps fuel (K x) condition c (nodes.or_never_none items needs q clear keeps fuel (types.is_bool items (ty_of condition)) (ty_of condition)
      (nodes.bool_none items needs q clear keeps fuel (ty_of condition)) fits)) ok k
      (λ w h. shown_more any (facts.same_grows items needs q clear keeps fuel (K x) around (λ key. key ≡ key_of to) S) (first S w) (f w h))
      (λ w h. shown_more any (facts.same_grows items needs q clear keeps fuel (K x) around (λ key. key ≡ key_of to) S) (second S w) (s w h))
      (facts.from_condition items needs q clear keeps fuel (K x) around (λ key. key ≡ key_of to) S)

  -- a turn of a loop has a value that needs no dropping
  pub turn_so : (x : Standpoint) (around : LoopsAndGuards) (body : Node) → Sound (K x) (M body) →
      typing.fits_unit items (ty_of body) ≡ true → (S : Scopes) (v : V) → AroundOk (K x) around S →
      Held Nothing (entries_of S) v →
      Shown any (After (K x) around Nothing (λ T. T ≡ S)) (evaluation.body_in items q fuel (M body) around S v)
  turn_so x around body b fits S v ok k =
      shown_more any none (forms.alone items q around (M body) (Into (M body).head.id) S v)
      (facts.alone_in items needs q clear keeps fuel (K x) around (M body) (Into (M body).head.id) S v b ok k (inl free) (inr b.in_cell))
    where
      free : needs (M body).head.id ≡ false
      free = facts.free_cell items needs q clear keeps fuel (K x) body b (nodes.or_never_none items needs q clear keeps fuel (types.is_unit items (ty_of body)) (ty_of body)
          (nodes.unit_none items needs q clear keeps fuel (ty_of body)) fits)

      none : (exit : Exit) (T : Scopes) (w : V) →
          After (K x) around (λ key. key ≡ (M body).head.id) (λ T. T ≡ S) exit T w →
          After (K x) around Nothing (λ T. T ≡ S) exit T w
      none Value T w y = (
        y.0,
        steps.unheld items needs q clear keeps (λ key. key ≡ (M body).head.id) (entries_of T) w
            (λ key e. ap needs e ∙ free) y.1,
      )
      none (Breaks loop) T w y = y
      none (Continues loop) T w y = y
      none Returns T w y = y
      none Panics T w y = y

  -- the end of a loop with a condition
  pub ends_so : (x : Standpoint) (around : LoopsAndGuards) (h : NodeHead) (a : LoopAround) → a.loop ≡ h.id → (to : Destination)
      (S : Scopes) (v : V) → Held Nothing (entries_of S) v →
      Shown any (After (K (in_a_loop a x)) (in_loop h.id to around) Nothing (λ T. T ≡ S))
      (forms.ends_loop items q h to S v)
  ends_so x around h a same to S v k = seq
      (After (K (in_a_loop a x)) (in_loop h.id to around) (λ key. key ≡ key_of to) (λ T. T ≡ S))
      (After (K (in_a_loop a x)) (in_loop h.id to around) Nothing (λ T. T ≡ S)) (forms.put_unit items q h to S v)
      (At (Breaks h.id))
      (loops.unit_so items needs q clear keeps (K (in_a_loop a x)) (in_loop h.id to around) (λ T. T ≡ S) S refl h to v k)
      (λ T w y. (y.0, (subst (λ d. Held (λ key. key ≡ key_of d) (entries_of T) w) (sym own_destination) y.1, (a, own_loop))))
      (λ exit T w o y. (
        y.0,
        scopes.other_held items needs q clear keeps (K (in_a_loop a x)) (in_loop h.id to around)
            (λ key. key ≡ key_of to) Nothing exit T w o y.1,
      ))
    where
      own_destination : loop_destination h.id ((h.id, to) ∷ around.loops) ≡ to
      own_destination = ap (λ b. if b then to else loop_destination h.id around.loops) ((Decides-eqb h.id h.id).1 refl)

      own_loop : loop_with h.id (a ∷ x.loops) ≡ Some a
      own_loop = ap (λ b. if b then Some a else loop_with h.id x.loops) ((Decides-eqb a.loop h.id).1 same)

  pub body_suits : (body : Node) (ty : TyId) (to : Destination) → types.is_same ty (ty_of body) ≡ true →
      (is_never items ty ≡ true) ⊎ Suits ty to → (is_never items (M body).head.ty ≡ true) ⊎ Suits (M body).head.ty to
  body_suits body ty to e s = subst (λ t. (is_never items t ≡ true) ⊎ Suits t to)
      (same_type ty (ty_of body) e ∙ sym (type_is items q fuel body)) s

  -- the tail of a block, in what is behind its statements
  abbrev pub TailSo : MaybeNode → Standpoint → Type 0
  TailSo absent x = Unit {0}
  TailSo (present tail) x = Sound (K x) (M tail)

  pub block_so : (x : Standpoint) (id : ℕ) (ty : TyId) (by : Option Use) (stmts : Nodes) (tail : MaybeNode) (around : LoopsAndGuards)
      (own : Bool) (to : Destination) (S : Scopes) (v : V) →
      ((T : Scopes) (w : V) → AroundOk (K x) around T → Inside own S T → Held Nothing (entries_of T) w →
      Shown any (λ exit U u. After (K x) around Nothing (Inside own S) exit U u × facts.OkAt items needs q clear keeps fuel exit (K (behind x stmts)) around U)
      (forms.statements items q around (Ms stmts) T w)) → TailSo tail (behind x stmts) →
      typing.is_block_ty items ty stmts tail ≡ true → AroundOk (K x) around S → Held Nothing (entries_of S) v →
      Lands S (key_of to) → (is_never items ty ≡ true) ⊎ Suits ty to →
      Shown any (After (K x) around (λ key. key ≡ key_of to) (Grown own S))
      (forms.block items q (head id ty by) (Ms stmts) (meaning_if_any items q fuel tail) around own to S v)
  block_so x id ty by stmts tail around own to S v all tail_ok tail_ty ok k lands suits =
      steps.scoped_so items needs q clear keeps (K x) around flying id own
      (λ T w. on_value (forms.statements items q around (Ms stmts) T w) the_tail) S v ok
      (λ key e. subst (Lands S) (sym e) lands)
      (seq (λ exit U u. After (K x) around Nothing (Inside own S) exit U u × facts.OkAt items needs q clear keeps fuel exit (K (behind x stmts)) around U)
      (After (K x) around flying (Inside own S)) (forms.statements items q around (Ms stmts) (with_scope id own S) v) the_tail
      (all (with_scope id own S) v
      (scopes.around_more items needs (K x) around S (with_scope id own S)
      (scopes.inside_wider items needs own S (with_scope id own S) (scopes.opened items needs id own S)) ok)
      (scopes.opened items needs id own S) k)
      (λ U u y. ended tail tail_ok tail_ty U u y.0.0 y.0.1 y.1)
      (λ exit U u o y. rules.other_exit items needs q clear keeps (K x) around Nothing flying (Inside own S) (Inside own S) (λ Z z. z) exit U u o y.0))
    where
      flying : ℕ → Type 0
      flying key = key ≡ key_of to

      the_tail : Does V
      the_tail = forms.tail_of items q (head id ty by) (meaning_if_any items q fuel tail) around to

      ended : (tail : MaybeNode) → TailSo tail (behind x stmts) → typing.is_block_ty items ty stmts tail ≡ true →
          (U : Scopes) (u : V) → Inside own S U → Held Nothing (entries_of U) u → AroundOk (K (behind x stmts)) around U →
          Shown any (After (K x) around flying (Inside own S))
          (forms.tail_of items q (head id ty by) (meaning_if_any items q fuel tail) around to U u)
      ended absent t e U u i h ok' = unit_or_never (is_never items ty)
        where
          none : (key : ℕ) → clear u key ⊎ (Among (entries_of U) key ⊎ ⊥) → clear u key ⊎ (Among (entries_of U) key ⊎ flying key)
          none key (inl y) = inl y
          none key (inr (inl a)) = inr (inl a)
          none key (inr (inr n)) = absurd n

          unit_or_never : (b : Bool) → Shown any (After (K x) around flying (Inside own S))
              (forms.put_unit_if items q b (head id ty by) to U u)
          unit_or_never true = (i, λ key. none key (h key))
          unit_or_never false = loops.unit_so items needs q clear keeps (K x) around (Inside own S) U i (head id ty by) to u h
      ended (present tail) t e U u i h ok' = shown_more any (λ exit Z z y. (
        subst (Inside own S) (sym y.0) i,
        facts.behind_held items needs q clear keeps fuel stmts x around flying exit Z z y.1,
      )) (forms.alone items q around (M tail) to U u)
          (facts.alone_in items needs q clear keeps fuel (K (behind x stmts)) around (M tail) to U u t ok' h
          (scopes.lands_more items needs S U (scopes.inside_wider items needs own S U i) (key_of to) lands)
          (body_suits tail ty to e suits))

  pub ended_statement : (x : Standpoint) (form : Form) (around : LoopsAndGuards) (own : Bool) (S T : Scopes) → Inside own S T →
      (known : ℕ → Type 0) →
      ((U : Scopes) → statements.MoreIn items needs q clear keeps T U → ((key : ℕ) → known key → Among (entries_of U) key) →
      AroundOk (K (with_names (typing.entries_in form) x)) around U) → (r : Run V) →
      Shown any (patterns.Bound items needs q clear keeps (K x) around (statements.MoreIn items needs q clear keeps T) entries_of known) r →
      Shown any (λ exit U u. After (K x) around Nothing (Inside own S) exit U u
      × facts.OkAt items needs q clear keeps fuel exit (K (with_names (typing.entries_in form) x)) around U) r
  ended_statement x form around own S T i known f r h = shown_more any
      (λ exit U u y. ((statements.inside_more items needs q clear keeps own S T U i y.0.0, y.0.1), at exit U y.0.0 y.1)) r h
    where
      at : (exit : Exit) (U : Scopes) → statements.MoreIn items needs q clear keeps T U → patterns.NamedIn items needs q clear keeps entries_of exit known U →
          facts.OkAt items needs q clear keeps fuel exit (K (with_names (typing.entries_in form) x)) around U
      at Value U m n = f U m n
      at (Breaks loop) U m n = tt
      at (Continues loop) U m n = tt
      at Returns U m n = tt
      at Panics U m n = tt

  pub arms_suit : (arms : Nodes) (ty : TyId) (to : Destination) → list_all (types.fits items ty) (typing.types_in arms) ≡ true →
      Suits ty to → branches.ArmsSuit items needs q clear keeps to (Ms arms)
  arms_suit no_node ty to e s = tt
  arms_suit (a_node first rest) ty to e s =
      (facts.node_suits items needs q clear keeps fuel first ty to (left (types.fits items ty (ty_of first)) _ e) s, arms_suit rest ty to (right _ _ e) s)

  pub some_same : {a b : Meaning V} → Some a ≡ Some b → a ≡ b
  some_same {a} {b} e = ap (or_else a) e
    where
      or_else : Meaning V → Option (Meaning V) → Meaning V
      or_else d None = d
      or_else d (Some m) = m

  pub same_ok : (c : Context) (around : LoopsAndGuards) (T : Scopes) → AroundOk c around T → (exit : Exit) (U : Scopes) → U ≡ T →
      facts.OkAt items needs q clear keeps fuel exit c around U
  same_ok c around T ok Value U e = subst (AroundOk c around) (sym e) ok
  same_ok c around T ok (Breaks loop) U e = tt
  same_ok c around T ok (Continues loop) U e = tt
  same_ok c around T ok Returns U e = tt
  same_ok c around T ok Panics U e = tt

  pub unmoved : (own : Bool) (S T : Scopes) → Inside own S T → statements.MoreIn items needs q clear keeps T T
  unmoved own S A (inside s T f t g) = (scopes.no_more items needs s, refl)

  pub let_so : (x : Standpoint) (id : ℕ) (ty : TyId) (by : Option Use) (pattern value : Node) → Sound (K x) (M value) →
      Holds (typing.of_let (K x) pattern value) → Good (nodes_of pattern) → (around : LoopsAndGuards) (own : Bool) (S T : Scopes)
      (v : V) → AroundOk (K x) around T → Inside own S T → Held Nothing (entries_of T) v →
      Shown any (λ exit U u. After (K x) around Nothing (Inside own S) exit U u
      × facts.OkAt items needs q clear keeps fuel exit (K (with_names (pattern_rules.entries_of pattern) x)) around U)
      (forms.let_value items q (M pattern).shape.is_binding (head id ty by) (M pattern) (M value) around T v)
  let_so x id ty by pattern value w h g around own S A v ok (inside s T f t gr) k = by_kind (M pattern).shape.is_binding refl
    where
      New : Standpoint
      New = with_names (pattern_rules.entries_of pattern) x

      i : Inside own S (s ∷ T)
      i = inside s T f t gr

      p : (place : Place) → names.PatternOk items needs q clear keeps fuel (nodes_of pattern) place ((M pattern).shape.bindings place)
      p place = facts.pattern_here items needs q clear keeps fuel pattern (if typing.is_one_name pattern then typing.whole else typing.matched_in true (K x) value)
          (ty_of pattern) h.1.0 g place

      Post : Exit → Scopes → V → Type 0
      Post exit U u = After (K x) around Nothing (Inside own S) exit U u × facts.OkAt items needs q clear keeps fuel exit (K New) around U

      named_cell : (n : Node) → Good (nodes_of n) → Suits (M n).head.ty (Into (M n).head.id)
      named_cell (node id at ty by form) g e = ap needs (number_is items q fuel (node id at ty by form))
          ∙ g.0 (sym (ap (needs_drop items) (type_is items q fuel (node id at ty by form))) ∙ e)

      fitting : (is_never items (M value).head.ty ≡ true) ⊎ Suits (M value).head.ty (Into (M pattern).head.id)
      fitting = facts.node_suits items needs q clear keeps fuel value (ty_of pattern) (Into (M pattern).head.id)
          (left (types.fits items (ty_of pattern) (ty_of value)) _ h.1.1.0)
          (subst (λ z. Suits z (Into (M pattern).head.id)) (type_is items q fuel pattern) (named_cell pattern g))

      one_name : (n : Node) → (M n).shape.is_binding ≡ true → (key : ℕ) → names.NameIn (nodes_of n) key →
          (M n).head.id ≡ key
      one_name (node id at ty by form) e key y = number_is items q fuel (node id at ty by form) ∙ only y
        where
          is_name : IsName form
          is_name = named_form items q fuel form (head id ty by)
              (sym (ap (λ s. s.is_binding) (shape_is items q fuel (node id at ty by form))) ∙ e)

          only : (IsName form × (id ≡ key)) ⊎ names.NameIn (nodes_in form) key → id ≡ key
          only (inl z) = z.1
          only (inr z) = absurd (subst (λ l. names.NameIn l key) (name_alone form is_name) z)

      by_kind : (b : Bool) → (M pattern).shape.is_binding ≡ b →
          Shown any Post (forms.let_value items q b (head id ty by) (M pattern) (M value) around (s ∷ T) v)
      by_kind true e = ended_statement x (tree.Let pattern (present value)) around own S (s ∷ T) i
          (λ key. (M pattern).head.id ≡ key)
          (λ U m bound. named.around_named items needs q clear keeps fuel (K x) (pattern_rules.entries_of pattern) around U
          (scopes.around_more items needs (K x) around (s ∷ T) U (statements.more_in_wider items needs q clear keeps (s ∷ T) U m) ok)
          (λ key y z. bound key (names.found_binding pattern ((M pattern).head.id) (one_name pattern e) key y z)))
          (forms.let_name items q (head id ty by) (M pattern).head (M value) around (s ∷ T) v)
          (statements.let_name_so items needs q clear keeps (K x) around (head id ty by) (M pattern).head (M value) w (named_cell pattern g) fitting
          s T v ok k)
      by_kind false e = ended_statement x (tree.Let pattern (present value)) around own S (s ∷ T) i
          (λ key. ⊥ ⊎ patterns.BoundIn items needs q clear keeps ((M pattern).shape.bindings (place_of (M value) around)) key)
          (λ U m bound. facts.named_ok items needs q clear keeps fuel pattern x around U (place_of (M value) around) (p (place_of (M value) around))
          (scopes.around_more items needs (K x) around (s ∷ T) U (statements.more_in_wider items needs q clear keeps (s ∷ T) U m) ok)
          (λ key b. bound key (inr b)))
          (forms.let_parts items q (head id ty by) (M pattern) (M value) around (s ∷ T) v)
          (statements.let_parts_so items needs q clear keeps (K x) around (head id ty by) (M pattern) (M value) w
          (p (place_of (M value) around)).bound s T v ok k)

  pub receiver_so : (tys : List TyId) (receiver : Node) (ns : Nodes) (x : Standpoint) →
      Holds (typing.first_and_rest (λ t. typing.typed (K x) (Passed t) receiver) (λ ts. typing.arguments (K x) ts ns) tys) →
      ((ty : TyId) → Holds (typing.typed (K x) (Passed ty) receiver) → Sound (K x) (M receiver)) →
      ((tys : List TyId) → Holds (typing.arguments (K x) tys ns) → AllSound (K x) (Ms ns)) →
      AllSound (K x) (M receiver ∷ Ms ns)
  receiver_so [] receiver ns x h f g = absurd (false≢true h)
  receiver_so (ty ∷ tys) receiver ns x h f g = (f ty h.0, g tys h.1)

  pub if_let_so : (x : Standpoint) (id : ℕ) (ty : TyId) (by : Option Use) (pattern scrutinee consequent : Node) →
      Sound (K x) (M scrutinee) → Sound (K (with_names (pattern_rules.entries_of pattern) x)) (M consequent) →
      ((place : Place) → names.PatternOk items needs q clear keeps fuel (nodes_of pattern) place ((M pattern).shape.bindings place)) →
      (second : Does V) (around : LoopsAndGuards) (to : Destination) (S : Scopes) (v : V) → AroundOk (K x) around S →
      Held Nothing (entries_of S) v → Lands S (key_of to) →
      (is_never items (M consequent).head.ty ≡ true) ⊎ Suits (M consequent).head.ty to →
      ((w : V) → Held Nothing (entries_of S) w →
      Shown any (After (K x) around (λ key. key ≡ key_of to) (λ T. T ≡ S)) (second S w)) →
      Shown any (After (K x) around (λ key. key ≡ key_of to) (Grows S))
      (forms.if_taken items q (head id ty by) around (M pattern) (M scrutinee)
      (forms.alone items q around (M consequent) to) second S v)
  if_let_so x id ty by pattern scrutinee consequent s b p second around to S v ok k lands suits other =
      shown_more any (facts.same_grows items needs q clear keeps fuel (K x) around (λ key. key ≡ key_of to) S)
      (forms.if_taken items q (head id ty by) around (M pattern) (M scrutinee) (forms.alone items q around (M consequent) to)
      second S v)
      (branches.if_taken_so items needs q clear keeps (K x) around (λ key. key ≡ key_of to) (head id ty by) (M pattern) (M scrutinee)
      (forms.alone items q around (M consequent) to) second S v s (p (place_of (M scrutinee) around)).bound
      (λ T w wide bound k. facts.alone_in items needs q clear keeps fuel (K (with_names (pattern_rules.entries_of pattern) x)) around (M consequent) to T w b
      (facts.named_ok items needs q clear keeps fuel pattern x around T (place_of (M scrutinee) around) (p (place_of (M scrutinee) around))
      (scopes.around_more items needs (K x) around S T wide ok) bound) k
      (scopes.lands_more items needs S T wide (key_of to) lands) suits) other
      (λ key e. subst (Lands S) (sym e) lands) ok k)

  pub loop_so : (x : Standpoint) (id : ℕ) (ty : TyId) (by : Option Use) (body : Node) →
      Sound (K (in_a_loop (record { loop = id; ty = ty; has_value = true }) x)) (M body) →
      typing.fits_unit items (ty_of body) ≡ true → (around : LoopsAndGuards) (to : Destination) (S : Scopes) (v : V) →
      AroundOk (K x) around S → Held Nothing (entries_of S) v → Lands S (key_of to) → Suits ty to →
      Shown any (After (K x) around (λ key. key ≡ key_of to) (Grows S))
      (forms.turns items q fuel id (evaluation.body_in items q fuel (M body) (in_loop id to around)) S v)
  loop_so x id ty by body b fits around to S v ok k lands suits =
      shown_more any (facts.same_grows items needs q clear keeps fuel (K x) around (λ key. key ≡ key_of to) S)
      (forms.turns items q fuel id (evaluation.body_in items q fuel (M body) (in_loop id to around)) S v)
      (loops.turns_so items needs q clear keeps (K x) around (head id ty by) (record { loop = id; ty = ty; has_value = true }) refl to S fuel
      (evaluation.body_in items q fuel (M body) (in_loop id to around))
      (λ w k. turn_so (in_a_loop (record { loop = id; ty = ty; has_value = true }) x) (in_loop id to around) body b fits S w
      (loops.around_loop items needs q clear keeps (K x) around (record { loop = id; ty = ty; has_value = true }) id to S refl ok lands suits) k)
      v k)

  -- a loop that ends where a condition, or a pattern, does not hold
  abbrev pub looping : ℕ → TyId → Standpoint → Standpoint
  looping id ty x = in_a_loop (record { loop = id; ty = ty; has_value = false }) x

  pub while_so : (x : Standpoint) (id : ℕ) (ty : TyId) (by : Option Use) (condition body : Node) →
      Sound (K (looping id ty x)) (M condition) → Sound (K (looping id ty x)) (M body) →
      typing.fits_bool items (ty_of condition) ≡ true → typing.fits_unit items (ty_of body) ≡ true →
      (around : LoopsAndGuards) (to : Destination) (S : Scopes) (v : V) → AroundOk (K x) around S →
      Held Nothing (entries_of S) v → Lands S (key_of to) → Suits ty to →
      Shown any (After (K x) around (λ key. key ≡ key_of to) (Grows S))
      (evaluation.while_true items q fuel (head id ty by) (M condition) (M body) around to S v)
  while_so x id ty by condition body c b fits_c fits_b around to S v ok k lands suits =
      shown_more any (facts.same_grows items needs q clear keeps fuel (K x) around (λ key. key ≡ key_of to) S) (forms.turns items q fuel id turn S v)
      (loops.turns_so items needs q clear keeps (K x) around (head id ty by) (record { loop = id; ty = ty; has_value = false }) refl to S fuel turn
      (λ w k. steps.condition_so items needs q clear keeps (K (looping id ty x)) (in_loop id to around) (M condition)
      (After (K (looping id ty x)) (in_loop id to around) Nothing (λ T. T ≡ S))
      (evaluation.body_in items q fuel (M body) (in_loop id to around)) (forms.ends_loop items q (head id ty by) to) S w c
      (facts.free_cell items needs q clear keeps fuel (K (looping id ty x)) condition c (nodes.or_never_none items needs q clear keeps fuel (types.is_bool items (ty_of condition))
      (ty_of condition) (nodes.bool_none items needs q clear keeps fuel (ty_of condition)) fits_c)) ok' k
      (λ w k. turn_so (looping id ty x) (in_loop id to around) body b fits_b S w ok' k)
      (λ w k. ends_so x around (head id ty by) (record { loop = id; ty = ty; has_value = false }) refl to S w k)
      (λ exit T u o y. y)) v k)
    where
      ok' : AroundOk (K (looping id ty x)) (in_loop id to around) S
      ok' = loops.around_loop items needs q clear keeps (K x) around (record { loop = id; ty = ty; has_value = false }) id to S refl ok lands suits

      turn : Does V
      turn = forms.condition items q (in_loop id to around) (M condition)
          (evaluation.body_in items q fuel (M body) (in_loop id to around)) (forms.ends_loop items q (head id ty by) to)

  pub while_let_so : (x : Standpoint) (id : ℕ) (ty : TyId) (by : Option Use) (pattern scrutinee body : Node) →
      Sound (K (looping id ty x)) (M scrutinee) →
      Sound (K (with_names (pattern_rules.entries_of pattern) (looping id ty x))) (M body) →
      typing.fits_unit items (ty_of body) ≡ true →
      ((place : Place) → names.PatternOk items needs q clear keeps fuel (nodes_of pattern) place ((M pattern).shape.bindings place)) →
      (around : LoopsAndGuards) (to : Destination) (S : Scopes) (v : V) → AroundOk (K x) around S →
      Held Nothing (entries_of S) v → Lands S (key_of to) → Suits ty to →
      Shown any (After (K x) around (λ key. key ≡ key_of to) (Grows S))
      (evaluation.while_taken items q fuel (head id ty by) (M pattern) (M scrutinee) (M body) around to S v)
  while_let_so x id ty by pattern scrutinee body s b fits p around to S v ok k lands suits =
      shown_more any (facts.same_grows items needs q clear keeps fuel (K x) around (λ key. key ≡ key_of to) S) (forms.turns items q fuel id turn S v)
      (loops.turns_so items needs q clear keeps (K x) around (head id ty by) (record { loop = id; ty = ty; has_value = false }) refl to S fuel turn
      (λ w k. branches.if_taken_so items needs q clear keeps (K (looping id ty x)) (in_loop id to around) Nothing (head id ty by) (M pattern)
      (M scrutinee) (evaluation.body_in items q fuel (M body) (in_loop id to around))
      (forms.ends_loop items q (head id ty by) to) S w s (p (place_of (M scrutinee) (in_loop id to around))).bound
      (λ T u wide bound k. turn_so (with_names (pattern_rules.entries_of pattern) (looping id ty x)) (in_loop id to around) body
      b fits T u (facts.named_ok items needs q clear keeps fuel pattern (looping id ty x) (in_loop id to around) T (place_of (M scrutinee) (in_loop id to around))
      (p (place_of (M scrutinee) (in_loop id to around)))
      (scopes.around_more items needs (K (looping id ty x)) (in_loop id to around) S T wide ok') bound) k)
      (λ u k. ends_so x around (head id ty by) (record { loop = id; ty = ty; has_value = false }) refl to S u k)
      (λ key z. absurd z) ok' k) v k)
    where
      ok' : AroundOk (K (looping id ty x)) (in_loop id to around) S
      ok' = loops.around_loop items needs q clear keeps (K x) around (record { loop = id; ty = ty; has_value = false }) id to S refl ok lands suits

      turn : Does V
      turn = forms.if_taken items q (head id ty by) (in_loop id to around) (M pattern) (M scrutinee)
          (evaluation.body_in items q fuel (M body) (in_loop id to around)) (forms.ends_loop items q (head id ty by) to)
