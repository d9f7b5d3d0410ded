-- What is free stays free: patterns of a well typed body, and its loops.
use Rattle.std.proofs.Common.{◌≡◌, ◌⊎◌, inl, inr, ℕ, ◌==◌, ◌&&◌, Bool, if◌then◌else◌, true, false, List, [], ◌∷◌, ◌++◌, length, Option, Some, None, slice_get, refl, ap, sym, ◌∙◌, subst}
use Rattle.std.proofs.lemmas.Bool.{false≢true}
use Rattle.std.proofs.lemmas.Bool.Decides.{Decides-eqb}
use Rattle.std.proofs.lemmas.Option.{none-some}
use Rattle.mir_base.specs.declared.place_in_text.Pos.{Pos}
use Rattle.mir_base.specs.declared.trace.Why.{Why}
use Rattle.mir_ty.specs.declared.ty.TyId.{TyId}
use Rattle.mir_ty.specs.Facts.{needs_drop}
use Rattle.mir_ty.specs.ItemTable.{ItemTable}
use Rattle.store_model.specs.Effects as effects
use Rattle.store_model.specs.Effects.{EffectSite, Operand, Action, Halt, OfTuple, OfArray, OfVariant, OfClosure, Effects, stored_by}
use Rattle.store_model.specs.Places.Place.{Place, whole_local}
use Rattle.typed_tree.specs.declared.node.Use.{Use}
use Rattle.typed_tree.specs.Nodes.{number_of, nodes_of, nodes_in, nodes_among, nodes_of_fields, nodes_if_any}
use Rattle.typed_tree.specs.Tree as tree
use Rattle.typed_tree.specs.Tree.{Node, node, Form, Nodes, no_node, a_node, Fields, no_field, a_field, MaybeNode, absent, present}
use Rattle.src_meaning.specs.Evaluation as evaluation
use Rattle.src_meaning.specs.Evaluation.{meaning, meaning_of, meanings, fields_of, meaning_if_any, values_of, in_number_order, to_own_key}
use Rattle.src_meaning.specs.Forms as forms
use Rattle.src_meaning.specs.Forms.{Destination, Into, Coerced, coerced, LoopsAndGuards, Meaning, in_loop, loop_destination, moved, all_moved, is_never, place_of, site_of}
use Rattle.src_meaning.specs.Scopes.{Scopes, with_scope, Exit, Value, Breaks, Continues, Returns, Panics, Run, At, Does, on_value}
use Rattle.src_meaning.specs.Shape.{NodeHead, head, Shape, BoundName, shape, shape_of, kind_of}
use Rattle.well_typed.specs.Claim.{Claim, Holds, fact, both, some}
use Rattle.well_typed.specs.Nodes as typing
use Rattle.well_typed.specs.Patterns as pattern_rules
use Rattle.well_typed.specs.Patterns.{Matched}
use Rattle.well_typed.specs.Places.{LoopAround, Context, loop_with, ty_of, Standing, Taken, Wanted, Passed, Base, Used, Stored, borrow_by, in_guard}
use Rattle.well_typed.specs.Types as types
use Rattle.soundness_values.proofs.Leaving.{Shown, ShownOut, shown_more, Among}
use Rattle.soundness_cells.proofs.PassAround as named
use Rattle.soundness_cells.proofs.PassCells.{rising}
use Rattle.soundness_cells.proofs.PassClear.{KeepsClear, any, Nothing, StoredAt}
use Rattle.soundness_cells.proofs.PassFacts as facts
use Rattle.soundness_cells.proofs.PassFacts.{Standpoint, context, with_names, in_a_loop, behind}
use Rattle.soundness_cells.proofs.PassFree.{Always, FindsNothing, DestKey, Ext, Top, Deep, ext_same, ext_then, top_then, AroundOk, around_ext, around_top}
use Rattle.soundness_cells.proofs.PassForms.{node_so}
use Rattle.soundness_cells.proofs.PassFreeAgain as again
use Rattle.soundness_cells.proofs.PassFreeArms as arms
use Rattle.soundness_cells.proofs.PassFreeChoices as choices
use Rattle.soundness_cells.proofs.PassFreeChoices.{TestsKey, BoundKey, DistinctNames}
use Rattle.soundness_cells.proofs.PassFreeKinds as kinds
use Rattle.soundness_cells.proofs.PassFreeLoops as loops
use Rattle.soundness_cells.proofs.PassFreeOperands as operands
use Rattle.soundness_cells.proofs.PassFreePatterns.{NamesOf, names_of_node, names_in, names_distinct, tests_of_node, single_name}
use Rattle.soundness_cells.proofs.PassFreeRules as rules
use Rattle.soundness_cells.proofs.PassFreeStatements as statements
use Rattle.soundness_values.proofs.PassHeads.{type_is, number_is, shape_is}
use Rattle.soundness_cells.proofs.PassNodes as nodes
use Rattle.soundness_cells.proofs.PassNumbers.{Numbered, numbered_left, numbered_right, Rises, first_apart, rises_left, rises_right, rises_apart, own_number}
use Rattle.soundness_cells.proofs.PassParts as parts
use Rattle.soundness_cells.proofs.PassPatterns as patterns
use Rattle.soundness_cells.proofs.PassScopes.{entries_of}
use Rattle.soundness_cells.proofs.PassSteps as steps
use Rattle.soundness_cells.proofs.PassBranches as branches
use Rattle.soundness_values.proofs.PlaceTypes.{some_holds}

module _ {V : Type 0} (items : ItemTable) (needs : ℕ → Bool) (q : Effects V) (clear : V → ℕ → Type 0)
    (keeps : KeepsClear q needs clear) (over : Halt → V → Type 0) (waits : EffectSite → V → Type 0)
    (first : FindsNothing q over needs clear waits) (fuel : ℕ) where
  abbrev Post : LoopsAndGuards → (ℕ → Type 0) → List Node → Scopes → V → (Exit → Scopes → Type 0) → Exit → Scopes →
      V → Type 0
  Post = rules.Post items needs q clear keeps over waits first

  abbrev Extends : Scopes → Exit → Scopes → Type 0
  Extends = rules.Extends items needs q clear keeps over waits first

  abbrev OnTop : Scopes → Exit → Scopes → Type 0
  OnTop = rules.OnTop items needs q clear keeps over waits first

  abbrev Ready : Context → LoopsAndGuards → List Node → Scopes → V → Type 0
  Ready = rules.Ready items needs q clear keeps over waits first

  abbrev DestOk : ℕ → List Node → Destination → Scopes → V → Type 0
  DestOk = rules.DestOk items needs q clear keeps over waits first

  abbrev FreeM : Context → Meaning V → List Node → Type 0
  FreeM = rules.FreeM items needs q clear keeps over waits first

  abbrev Part : ℕ → List Node → List Node → Type 0
  Part = rules.Part items needs q clear keeps over waits first

  abbrev AllFree : Context → List (Meaning V) → List Node → Type 0
  AllFree = operands.AllFree items needs q clear keeps over waits first

  abbrev ToSite : (EffectSite → Action) → Type 0
  ToSite = rules.ToSite items needs q clear keeps over waits first

  abbrev Good : List Node → Type 0
  Good = nodes.Good items needs q clear keeps fuel

  abbrev K : Standpoint → Context
  K = context items

  abbrev M : Node → Meaning V
  M = meaning items q fuel

  abbrev Ms : Nodes → List (Meaning V)
  Ms = meanings items q fuel

  abbrev Mi : MaybeNode → Option (Meaning V)
  Mi = meaning_if_any items q fuel

  abbrev Of : Form → ℕ → TyId → Option Use → Meaning V
  Of form id ty by = meaning_of items q fuel form (head id ty by) (shape_of items form (head id ty by))

  -- ---- patterns

  pub pattern_names : (p : Node) (place : Place) → NamesOf (nodes_of p) ((M p).shape.bindings place)
  pattern_names p place = subst (NamesOf (nodes_of p)) (sym (facts.bindings_of items (λ key. false) q (again.no_clear
      items needs q clear keeps) (again.keeps_none items needs q clear keeps) fuel p place))
      (names_of_node items p place)

  pub pattern_tests : (p : Node) (place : Place) (z : ℕ) → TestsKey ((M p).shape.tests place) z →
      Numbered (nodes_of p) z
  pattern_tests p place z k = tests_of_node items p place z
      (subst (λ s. TestsKey (s.tests place) z) (shape_is items q fuel p) k)

  pub bound_in : (p : Node) (place : Place) (z : ℕ) → BoundKey ((M p).shape.bindings place) z → Numbered (nodes_of p) z
  bound_in p place z k = names_in (nodes_of p) ((M p).shape.bindings place) (pattern_names p place) z k

  pub bound_distinct : (p : Node) (place : Place) → Rises (nodes_of p) → DistinctNames ((M p).shape.bindings place)
  bound_distinct p place r = names_distinct (nodes_of p) ((M p).shape.bindings place) (pattern_names p place) r

  as_bound : (bounds : List BoundName) (z : ℕ) → patterns.BoundIn items (λ key. false) q
      (again.no_clear items needs q clear keeps) (again.keeps_none items needs q clear keeps) bounds z → BoundKey
      bounds z
  as_bound [] z k = k
  as_bound (b ∷ bounds) z (inl k) = inl k
  as_bound (b ∷ bounds) z (inr k) = inr (as_bound bounds z k)

  -- what stands around a node among the names of a pattern
  pub named_around : (p : Node) (x : Standpoint) (m : Matched) (want : TyId) → Holds (pattern_rules.pattern items m
      want p) →
      (around : LoopsAndGuards) (T : Scopes) (place : Place) → AroundOk items (K x) around T →
      ((z : ℕ) → BoundKey ((M p).shape.bindings place) z → Among (entries_of T) z) →
      AroundOk items (K (with_names (pattern_rules.entries_of p) x)) around T
  named_around p x m want h around T place ok f = facts.named_ok items (λ key. false) q (again.no_clear items needs q
      clear keeps) (again.keeps_none items needs q clear keeps) fuel p x around T place
      (facts.pattern_here items (λ key. false) q (again.no_clear items needs q clear keeps) (again.keeps_none items
      needs q clear keeps) fuel p m want h (again.good_none items needs q clear keeps fuel (nodes_of p)) place) ok
      (λ key k. f key (as_bound ((M p).shape.bindings place) key k))

  -- ---- loops

  abbrev Goals : Context → LoopsAndGuards → Destination → ℕ → Type 0
  Goals c around to z = DestKey to z ⊎ rules.Jump items needs q clear keeps over waits first c around z

  -- a destination of a jump in a loop is that of the loop, or one of a jump around it
  jump_in : (c : Context) (around : LoopsAndGuards) (a : LoopAround) (to : Destination) (loop : ℕ) (b : LoopAround) →
      loop_with loop (a ∷ c.loops) ≡ Some b →
      ((loop_destination loop ((a.loop, to) ∷ around.loops) ≡ to)
      ⊎ ((loop_with loop c.loops ≡ Some b)
      × (loop_destination loop ((a.loop, to) ∷ around.loops) ≡ loop_destination loop around.loops)))
  jump_in c around a to loop b e = by (a.loop == loop) refl (loop == a.loop) refl e
    where
      by : (i : Bool) → (a.loop == loop) ≡ i → (j : Bool) → (loop == a.loop) ≡ j →
          (if i then Some a else loop_with loop c.loops) ≡ Some b →
          (((if j then to else loop_destination loop around.loops) ≡ to)
          ⊎ ((loop_with loop c.loops ≡ Some b)
          × ((if j then to else loop_destination loop around.loops) ≡ loop_destination loop around.loops)))
      by i h true k f = inl refl
      by true h false k f = absurd (false≢true (sym k ∙ (Decides-eqb loop a.loop).1 (sym ((Decides-eqb a.loop loop).0
          h))))
      by false h false k f = inr (f, refl)

  jump_goal : (c : Context) (around : LoopsAndGuards) (a : LoopAround) (to : Destination) (z : ℕ) →
      rules.Jump items needs q clear keeps over waits first (record c { loops = a ∷ c.loops }) (in_loop a.loop to
      around) z → Goals c around to z
  jump_goal c around a to z (inl k) = inr (inl k)
  jump_goal c around a to z (inr (loop, (b, (e, k)))) = by (jump_in c around a to loop b e)
    where
      by : ((loop_destination loop ((a.loop, to) ∷ around.loops) ≡ to) ⊎ ((loop_with loop c.loops ≡ Some b)
          × (loop_destination loop ((a.loop, to) ∷ around.loops) ≡ loop_destination loop around.loops))) →
          Goals c around to z
      by (inl same) = inl (subst (λ d. DestKey d z) same k)
      by (inr y) = inr (inr (loop, (b, (y.0, subst (λ d. DestKey d z) y.1 k))))

  twos_in : (c : Context) (around : LoopsAndGuards) (a : LoopAround) (to : Destination) → rules.TwoCells items needs q
      clear keeps over waits first to →
      rules.Twos items needs q clear keeps over waits first c around → rules.Twos items needs q clear keeps over waits
      first (record c { loops = a ∷ c.loops }) (in_loop a.loop to around)
  twos_in c around a to two t = (t.0, λ loop b e. by loop b (jump_in c around a to loop b e))
    where
      by : (loop : ℕ) (b : LoopAround) →
          ((loop_destination loop ((a.loop, to) ∷ around.loops) ≡ to) ⊎ ((loop_with loop c.loops ≡ Some b)
          × (loop_destination loop ((a.loop, to) ∷ around.loops) ≡ loop_destination loop around.loops))) →
          rules.TwoCells items needs q clear keeps over waits first (loop_destination loop ((a.loop, to) ∷
          around.loops))
      by loop b (inl same) = subst (rules.TwoCells items needs q clear keeps over waits first) (sym same) two
      by loop b (inr y) = subst (rules.TwoCells items needs q clear keeps over waits first) (sym y.1) (t.1 loop b y.0)

  around_loop : (c : Context) (around : LoopsAndGuards) (a : LoopAround) (to : Destination) (S : Scopes) →
      AroundOk items c around S → AroundOk items (record c { loops = a ∷ c.loops }) (in_loop a.loop to around) S
  around_loop c around a to S ok = record {
    answer = inl refl;
    answer_suits = λ e. refl;
    loops = λ loop b e. inl refl;
    loops_suit = λ loop b e k. refl;
    names = ok.names;
    rooted = ok.rooted;
    temporary = ok.temporary;
  }

  -- before a turn
  turn_ready : (c : Context) (around : LoopsAndGuards) (a : LoopAround) (to : Destination) (os : List Node) (S : Scopes)
      (v : V) → AroundOk items c around S → rules.TwoCells items needs q clear keeps over waits first to → rules.Twos
      items needs q clear keeps over waits first c around →
      ((z : ℕ) → Numbered os z → rules.Free items needs q clear keeps over waits first v S z) → ((z : ℕ) → Goals c
      around to z → rules.Free items needs q clear keeps over waits first v S z) →
      ((z : ℕ) → Goals c around to z → Numbered os z → ⊥) →
      Ready (record c { loops = a ∷ c.loops }) (in_loop a.loop to around) os S v
  turn_ready c around a to os S v ok two twos inner goal away = record {
    ok = around_loop c around a to S ok;
    free = inner;
    jumps = λ z j. let g = jump_goal c around a to z j in (goal z g, away z g);
    twos = twos_in c around a to two twos;
  }

  goals_away : (c : Context) (around : LoopsAndGuards) (to : Destination) (id : ℕ) (os ns : List Node) (S : Scopes)
      (v : V) → Ready c around ns S v → DestOk id ns to S v → Part id os ns → (z : ℕ) → Goals c around to z →
      Numbered os z → ⊥
  goals_away c around to id os ns S v r d p z (inl k) n = rules.dest_apart items needs q clear keeps over waits first
      id os ns to S v d p z k n
  goals_away c around to id os ns S v r d p z (inr k) n = (r.jumps z k).1 (p.within z n)

  goals_free : (c : Context) (around : LoopsAndGuards) (to : Destination) (id : ℕ) (ns : List Node) (S : Scopes)
      (v : V) → Ready c around ns S v → DestOk id ns to S v → (z : ℕ) → Goals c around to z → rules.Free items needs q
      clear keeps over waits first v S z
  goals_free c around to id ns S v r d z (inl k) = d.free z k
  goals_free c around to id ns S v r d z (inr k) = (r.jumps z k).0

  -- a loop, by its turns
  pub loop_free : (x : Standpoint) (a : LoopAround) (to : Destination) (around : LoopsAndGuards) (os ns : List Node)
      (turn : Does V) → Part a.loop os ns → (S : Scopes) (v : V) → Ready (K x) around ns S v →
      DestOk a.loop ns to S v →
      ((w : V) → Ready (K (in_a_loop a x)) (in_loop a.loop to around) os S w →
      ((z : ℕ) → DestKey to z → rules.Free items needs q clear keeps over waits first w S z) →
      Shown over (Post (in_loop a.loop to around) Nothing os S w (Extends S)) (turn S w)) →
      ((w : V) → AroundOk items (K (in_a_loop a x)) (in_loop a.loop to around) S →
      ((z : ℕ) → Numbered os z → rules.Free items needs q clear keeps over waits first w S z) →
      ((z : ℕ) → rules.Jump items needs q clear keeps over waits first (K (in_a_loop a x)) (in_loop a.loop to around) z
      → Numbered os z → ⊥) →
      Shown any (again.GoesOn items needs q clear keeps os S) (turn S w)) →
      Shown over (Post around (DestKey to) ns S v (Extends S)) (forms.turns items q fuel a.loop turn S v)
  loop_free x a to around os ns turn p S v r d once goes = loops.turns_free items needs q clear keeps over waits first
      around a.loop to os ns
      (Goals (K x) around to) S p.within (goals_away (K x) around to a.loop os ns S v r d p) fuel turn
      (λ w inner goal. let t = turn_ready (K x) around a to os S w r.ok d.two r.twos inner goal
      (goals_away (K x) around to a.loop os ns S v r d p) in (
        once w t (λ z k. goal z (inl k)),
        shown_more any so (turn S w) (goes w t.ok inner (λ z j. (t.jumps z j).1)),
      )) v (λ z n. r.free z (p.within z n)) (goals_free (K x) around to a.loop ns S v r d)
    where
      so : (exit : Exit) (T : Scopes) (w : V) → again.GoesOn items needs q clear keeps os S exit T w →
          loops.Again items needs q clear keeps over waits first os S exit T w
      so Value T w k = k
      so (Breaks loop) T w k = k
      so (Continues loop) T w k = k
      so Returns T w k = k
      so Panics T w k = k

  -- the end of a loop with a condition
  pub ends_free : (around : LoopsAndGuards) (h : NodeHead) (to : Destination) (os : List Node) (S T : Scopes) (w : V) →
      rules.TwoCells items needs q clear keeps over waits first to → ((z : ℕ) → DestKey to z → rules.Free items needs q
      clear keeps over waits first w T z) → Ext S T →
      Shown over (Post (in_loop h.id to around) Nothing os T w (Extends S)) (forms.ends_loop items q h to T w)
  ends_free around h to os S T w two free e = rules.more_free items needs q clear keeps over waits first (in_loop h.id
      to around) Nothing Nothing os os T w
      (Extends T) (Extends S) (forms.ends_loop items q h to T w)
      (loops.jumped items needs q clear keeps over waits first (in_loop h.id to around) (Breaks h.id) to Nothing os os
      T w (forms.put_unit items q h to T w)
      (sym (ap (λ b. if b then to else loop_destination h.id around.loops) ((Decides-eqb h.id h.id).1 refl)))
      (λ z n. n)
      (rules.deliver_free items needs q clear keeps over waits first (in_loop h.id to around) os (Extends T) h (λ site.
      effects.Put site effects.UnitValue) to T w
      (ext_same T) (ext_same T) (λ site key s. s) free two)) (λ z n. n) (λ z n. absurd n)
      (λ exit U k. ext_then S T U e k)

  -- the body of a loop
  pub body_free : (c : Context) (around : LoopsAndGuards) (m : Meaning V) (bs ns : List Node) → FreeM c m bs →
      ((z : ℕ) → Numbered bs z → Numbered ns z) → (S : Scopes) (v : V) → Ready c around bs S v →
      Shown over (Post around Nothing ns S v (Extends S)) (evaluation.body_in items q fuel m around S v)
  body_free c around m bs ns f inside S v r = rules.more_free items needs q clear keeps over waits first around
      (DestKey (Into m.head.id)) Nothing bs ns S v
      (Extends S) (Extends S) (forms.alone items q around m (Into m.head.id) S v)
      (choices.alone_free items needs q clear keeps over waits first c around m (Into m.head.id) bs f S v r
      (rules.own_dest items needs q clear keeps over waits first c around m bs S v f.own r)) inside
      (λ z e. inl (inside z (subst (Numbered bs) e f.own))) (λ exit T e. e)

  -- ---- statements and arms

  pub top_deep : (S T : Scopes) → Top S T → Deep T
  top_deep S [] e = absurd e
  top_deep S (t ∷ T) e = tt

  pub ok_at : (x : Standpoint) (around : LoopsAndGuards) (T U : Scopes) → Ext T U → AroundOk items (K x) around T →
      (exit : Exit) → statements.OkAt items needs q clear keeps over waits first exit (K x) around U
  ok_at x around T U e ok Value = around_ext items (K x) around T U e ok
  ok_at x around T U e ok (Breaks loop) = tt
  ok_at x around T U e ok (Continues loop) = tt
  ok_at x around T U e ok Returns = tt
  ok_at x around T U e ok Panics = tt

  -- a statement that brought the names of a pattern into scope
  pub statement_named : (p : Node) (x : Standpoint) (m : Matched) (want : TyId) →
      Holds (pattern_rules.pattern items m want p) → (around : LoopsAndGuards) (place : Place) (ns : List Node)
      (S T : Scopes) (v : V) → Top S T → AroundOk items (K x) around T → (known : ℕ → Type 0) →
      ((z : ℕ) → BoundKey ((M p).shape.bindings place) z → known z) → (r : Run V) →
      Shown over (Post around Nothing ns T v (statements.NamesAt items needs q clear keeps over waits first known T)) r
      →
      Shown over (Post around Nothing ns T v
      (statements.Behind items needs q clear keeps over waits first S (K (with_names (pattern_rules.entries_of p) x))
      around)) r
  statement_named p x m want h around place ns S T v k ok known into r s = shown_more over
      (λ exit U w q. (so exit U q.0, q.1)) r s
    where
      so : (exit : Exit) (U : Scopes) → statements.NamesAt items needs q clear keeps over waits first known T exit U →
          statements.Behind items needs q clear keeps over waits first S (K (with_names (pattern_rules.entries_of p)
          x)) around exit U
      so Value U e = (
        top_then S T U k e.0,
        named_around p x m want h around U place (around_ext items (K x) around T U e.0 ok) (λ z i. e.1 z (into z i)),
      )
      so (Breaks loop) U e = (top_then S T U k e, tt)
      so (Continues loop) U e = (top_then S T U k e, tt)
      so Returns U e = (top_then S T U k e, tt)
      so Panics U e = (top_then S T U k e, tt)

  one_name : (p : Node) (place : Place) → (M p).shape.is_binding ≡ true → (z : ℕ) →
      BoundKey ((M p).shape.bindings place) z → (M p).head.id ≡ z
  one_name p place e z k = number_is items q fuel p ∙ single_name items p place z
      (sym (ap (λ s. s.is_binding) (shape_is items q fuel p)) ∙ e)
      (subst (λ l. BoundKey l z) (facts.bindings_of items (λ key. false) q (again.no_clear items needs q clear keeps)
      (again.keeps_none items needs q clear keeps) fuel p place) k)

  pub let_free : (pattern value : Node) (x : Standpoint) (id : ℕ) (at : Pos) (ty : TyId) (by : Option Use) →
      Holds (typing.of_let (K x) pattern value) → (around : LoopsAndGuards) (S T : Scopes) (v : V) → Top S T →
      Ready (K x) around (node id at ty by (tree.Let pattern (present value)) ∷ nodes_of pattern ++ nodes_of value) T v
      →
      FreeM (K x) (M value) (nodes_of value) → Rises (nodes_of pattern ++ nodes_of value) →
      Shown over (Post around Nothing
      (node id at ty by (tree.Let pattern (present value)) ∷ nodes_of pattern ++ nodes_of value) T v
      (statements.Behind items needs q clear keeps over waits first S (K (with_names (pattern_rules.entries_of pattern)
      x)) around))
      (forms.let_value items q (M pattern).shape.is_binding (head id ty by) (M pattern) (M value) around T v)
  let_free pattern value x id at ty by h around S T v k t f rs = by_kind (M pattern).shape.is_binding refl
    where
      ns : List Node
      ns = node id at ty by (tree.Let pattern (present value)) ∷ nodes_of pattern ++ nodes_of value

      in_p : (z : ℕ) → Numbered (nodes_of pattern) z →
          Numbered (node id at ty by (tree.Let pattern (present value)) ∷ nodes_of pattern ++ nodes_of value) z
      in_p z i = inr (numbered_left (nodes_of pattern) (nodes_of value) z i)

      in_v : (z : ℕ) → Numbered (nodes_of value) z →
          Numbered (node id at ty by (tree.Let pattern (present value)) ∷ nodes_of pattern ++ nodes_of value) z
      in_v z i = inr (numbered_right (nodes_of pattern) (nodes_of value) z i)

      by_kind : (b : Bool) → (M pattern).shape.is_binding ≡ b →
          Shown over (Post around Nothing
          (node id at ty by (tree.Let pattern (present value)) ∷ nodes_of pattern ++ nodes_of value) T v
          (statements.Behind items needs q clear keeps over waits first S (K (with_names (pattern_rules.entries_of
          pattern) x)) around))
          (forms.let_value items q b (head id ty by) (M pattern) (M value) around T v)
      by_kind true e = statement_named pattern x
          (if typing.is_one_name pattern then typing.whole else typing.matched_in true (K x) value) (ty_of pattern)
          h.1.0
          around (whole_local 0) ns S T v k t.ok (λ z. (M pattern).head.id ≡ z) (one_name pattern (whole_local 0) e)
          (forms.let_name items q (head id ty by) (M pattern).head (M value) around T v)
          (statements.let_name_free items needs q clear keeps over waits first (K x) around (head id ty by) (M
          pattern).head (M value) (nodes_of pattern)
          (nodes_of value) (node id at ty by (tree.Let pattern (present value)) ∷ nodes_of pattern ++ nodes_of value) f
          (subst (Numbered (nodes_of pattern)) (sym (number_is items q fuel pattern)) (own_number pattern))
          (rises_apart (nodes_of pattern) (nodes_of value) rs) in_p in_v T v (top_deep S T k) t)
      by_kind false e = statement_named pattern x
          (if typing.is_one_name pattern then typing.whole else typing.matched_in true (K x) value) (ty_of pattern)
          h.1.0
          around (place_of (M value) around) ns S T v k t.ok (BoundKey ((M pattern).shape.bindings (place_of (M value)
          around)))
          (λ z i. i) (forms.let_parts items q (head id ty by) (M pattern) (M value) around T v)
          (statements.let_parts_free items needs q clear keeps over waits first (K x) around (head id ty by) (M
          pattern) (M value) (nodes_of pattern)
          (nodes_of value) (node id at ty by (tree.Let pattern (present value)) ∷ nodes_of pattern ++ nodes_of value) f
          (bound_distinct pattern (place_of (M value) around) (rises_left (nodes_of pattern) (nodes_of value) rs))
          (bound_in pattern (place_of (M value) around)) (rises_apart (nodes_of pattern) (nodes_of value) rs) in_p in_v
          T v
          (top_deep S T k) t)

  -- in a guard the names of its arm stand for what they would take
  pub guarded_around : (p : Node) (x : Standpoint) (m : Matched) (want : TyId) →
      Holds (pattern_rules.pattern items m want p) → (around : LoopsAndGuards) (S : Scopes) (matched : Place) →
      ((z : ℕ) → matched ≡ whole_local z → Among (entries_of S) z) → AroundOk items (K x) around S →
      AroundOk items (K (with_names (in_guard (pattern_rules.entries_of p)) x))
      (forms.in_guard ((M p).shape.bindings matched) around) S
  guarded_around p x m want h around S matched roots ok =
      let y = facts.pattern_here items (λ key. false) q (again.no_clear items needs q clear keeps) (again.keeps_none
      items needs q clear keeps) fuel p m want h (again.good_none items needs q clear keeps fuel (nodes_of p))
      matched in
      named.around_guarded items (λ key. false) q (again.no_clear items needs q clear keeps) (again.keeps_none items
      needs q clear keeps) fuel around S matched roots (K x) (pattern_rules.entries_of p) ((M p).shape.bindings
      matched) ok
      y.rooted (named.scope_covered items (λ key. false) q (again.no_clear items needs q clear keeps) (again.keeps_none
      items needs q clear keeps) fuel p ((M p).shape.bindings matched) y.covers)
