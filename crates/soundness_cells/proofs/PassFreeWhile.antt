-- What is free stays free: loops, where it does in their parts.
use Rattle.std.proofs.Common.{◌≡◌, inl, inr, ℕ, Bool, true, false, List, ◌∷◌, ◌++◌, Option, refl}
use Rattle.mir_base.specs.declared.place_in_text.Pos.{Pos}
use Rattle.mir_ty.specs.declared.ty.TyId.{TyId}
use Rattle.mir_ty.specs.ItemTable.{ItemTable}
use Rattle.store_model.specs.Effects.{EffectSite, Halt, Effects}
use Rattle.typed_tree.specs.declared.node.Use.{Use}
use Rattle.typed_tree.specs.Nodes.{nodes_of, nodes_in}
use Rattle.typed_tree.specs.Tree as tree
use Rattle.typed_tree.specs.Tree.{Node, node, Form}
use Rattle.src_meaning.specs.Evaluation as evaluation
use Rattle.src_meaning.specs.Evaluation.{meaning, meaning_of}
use Rattle.src_meaning.specs.Forms as forms
use Rattle.src_meaning.specs.Forms.{Meaning, in_loop, place_of}
use Rattle.src_meaning.specs.Scopes.{Scopes, Exit}
use Rattle.src_meaning.specs.Shape.{head, shape_of}
use Rattle.well_typed.specs.Claim.{Holds}
use Rattle.well_typed.specs.Nodes as typing
use Rattle.well_typed.specs.Patterns as pattern_rules
use Rattle.well_typed.specs.Places.{Context, ty_of, Taken, Used}
use Rattle.well_typed.specs.Types as types
use Rattle.soundness_cells.proofs.PassClear.{KeepsClear, Nothing}
use Rattle.soundness_cells.proofs.PassFacts as facts
use Rattle.soundness_cells.proofs.PassFacts.{Standpoint, context, with_names, in_a_loop}
use Rattle.soundness_cells.proofs.PassFree.{FindsNothing, ext_then, top_then, around_ext, around_top}
use Rattle.soundness_cells.proofs.PassForms.{node_so}
use Rattle.soundness_cells.proofs.PassFreeAgain as again
use Rattle.soundness_cells.proofs.PassFreeArms as arms
use Rattle.soundness_cells.proofs.PassFreeChoices as choices
use Rattle.soundness_cells.proofs.PassFreeKinds as kinds
use Rattle.soundness_cells.proofs.PassFreeRules as rules
use Rattle.soundness_cells.proofs.PassFreeTurns as turns
use Rattle.soundness_cells.proofs.PassNodes as nodes
use Rattle.soundness_cells.proofs.PassNumbers.{numbered_left, numbered_right, Rises, rises_left, rises_apart}
use Rattle.soundness_cells.proofs.PassParts as parts
use Rattle.soundness_cells.proofs.PassScopes.{entries_of}
use Rattle.soundness_cells.proofs.PassSteps as steps
use Rattle.soundness_cells.proofs.PassBranches as branches
use Rattle.soundness_cells.proofs.PassFreeOperators.{good_left, good_right, inside_rises}

module _ {V : Type 0} (items : ItemTable) (needs : ℕ → Bool) (q : Effects V) (clear : V → ℕ → Type 0)
    (keeps : KeepsClear q needs clear) (over : Halt → V → Type 0) (waits : EffectSite → V → Type 0)
    (first : FindsNothing q over needs clear waits) (fuel : ℕ) where
  abbrev Extends : Scopes → Exit → Scopes → Type 0
  Extends = rules.Extends items needs q clear keeps over waits first

  abbrev OnTop : Scopes → Exit → Scopes → Type 0
  OnTop = rules.OnTop items needs q clear keeps over waits first

  abbrev FreeM : Context → Meaning V → List Node → Type 0
  FreeM = rules.FreeM items needs q clear keeps over waits first

  abbrev Good : List Node → Type 0
  Good = nodes.Good items needs q clear keeps fuel

  abbrev K : Standpoint → Context
  K = context items

  abbrev M : Node → Meaning V
  M = meaning items q fuel

  abbrev Of : Form → ℕ → TyId → Option Use → Meaning V
  Of form id ty by = meaning_of items q fuel form (head id ty by) (shape_of items form (head id ty by))

  -- ---- loops
  pub loop_free : (x : Standpoint) (body : Node) (id : ℕ) (at : Pos) (ty : TyId) (by : Option Use) → Holds (typing.row (K
      x) id ty (tree.Loop body)) → Good (nodes_in (tree.Loop body)) → Rises (node id at ty by (tree.Loop body) ∷
      nodes_in (tree.Loop body)) → FreeM (K (in_a_loop (record { loop = id; ty = ty; has_value = true }) x)) (M body)
      (nodes_of body) → FreeM (K x) (Of (tree.Loop body) id ty by) (node id at ty by (tree.Loop body) ∷ nodes_in
      (tree.Loop body))
  loop_free x body id at ty by h g r fb =
      let rs = inside_rises items needs q clear keeps over waits first fuel (node id at ty by (tree.Loop body)) (nodes_of body) r in
      let p = (kinds.part_of items needs q clear keeps over waits first fuel (node id at ty by (tree.Loop body))
      (nodes_of body) r) in
      let xs = in_a_loop (record { loop = id; ty = ty; has_value = true }) x in
      kinds.scope_free items needs q clear keeps over waits first fuel (K x) (head id ty by) (shape_of items (tree.Loop
      body) (head id ty by)) ((node id at ty by (tree.Loop body)) ∷ nodes_of body) (evaluation.endless items q fuel
      (head id ty by) (M body)) (inl refl) (λ around to S v t d. turns.loop_free items needs q clear keeps over
      waits first fuel x (record { loop = id; ty = ty; has_value = true }) to around (nodes_of body) ((node id at
      ty by (tree.Loop body)) ∷ nodes_of body) (evaluation.body_in items q fuel (M body) (in_loop id to around)) p
      S v t d (λ w y k. turns.body_free items needs q clear keeps over waits first fuel (K xs) (in_loop id to
      around) (M body) (nodes_of body) (nodes_of body) fb (λ z i. i) S w y) (λ w ok inner away. again.goes_on items
      needs q clear keeps (nodes_of body) (K (in_a_loop (record { loop = id; ty = ty; has_value = true }) x))
      (in_loop id to around) S (λ z i. (t.free z (p.within z i)).1) _ (parts.turn_so items (again.needs_in items
      needs q clear keeps (nodes_of body)) q (again.clear_in items needs q clear keeps (nodes_of body))
      (again.keeps_in items needs q clear keeps (nodes_of body)) fuel (in_a_loop (record {
        loop = id;
        ty = ty;
        has_value = true;
      }) x) (in_loop id to around) body (node_so items (again.needs_in items needs q clear keeps
      (nodes_of body)) q (again.clear_in items needs q clear keeps (nodes_of body)) (again.keeps_in items needs q
      clear keeps (nodes_of body)) fuel body (in_a_loop (record { loop = id; ty = ty; has_value = true }) x) Taken
      h.0 (again.good_in items needs q clear keeps (nodes_of body) fuel (nodes_of body) g)) h.1.0 S w
      (again.around_in items needs q clear keeps (nodes_of body) (K (in_a_loop (record {
        loop = id;
        ty = ty;
        has_value = true;
      }) x)) (in_loop id to around) S ok (λ z e. away z (inl e)) (λ l a e z i. away z (inr (
        l,
        (
          a,
          (e, i),
        ),
      )))) (again.held_in items needs q clear keeps (nodes_of body) (entries_of S) w (λ z i. (inner z
      i).0)))))

  pub while_free : (x : Standpoint) (condition : Node) (body : Node) (id : ℕ) (at : Pos) (ty : TyId) (by : Option Use) →
      Holds (typing.row (K x) id ty (tree.While condition body)) → Good (nodes_in (tree.While condition body)) → Rises
      (node id at ty by (tree.While condition body) ∷ nodes_in (tree.While condition body)) → FreeM (K (in_a_loop
      (record { loop = id; ty = ty; has_value = false }) x)) (M condition) (nodes_of condition) → FreeM (K (in_a_loop
      (record { loop = id; ty = ty; has_value = false }) x)) (M body) (nodes_of body) → FreeM (K x) (Of (tree.While
      condition body) id ty by) (node id at ty by (tree.While condition body) ∷ nodes_in (tree.While condition body))
  while_free x condition body id at ty by h g r fc fb =
      let rs = inside_rises items needs q clear keeps over waits first fuel (node id at ty by (tree.While condition body)) (nodes_of condition ++ nodes_of body) r in
      let p = (kinds.part_of items needs q clear keeps over waits first fuel (node id at ty by (tree.While condition
      body)) (nodes_of condition ++ nodes_of body) r) in
      let xs = (in_a_loop (record { loop = id; ty = ty; has_value = false }) x) in
      let gc = good_left items needs q clear keeps over waits first fuel (nodes_of condition) (nodes_of body) g in
      let gb = good_right items needs q clear keeps over waits first fuel (nodes_of condition) (nodes_of body) g in
      let sc = node_so items (again.needs_in items needs q clear keeps (nodes_of condition ++ nodes_of body)) q
      (again.clear_in items needs q clear keeps (nodes_of condition ++ nodes_of body)) (again.keeps_in items needs
      q clear keeps (nodes_of condition ++ nodes_of body)) fuel condition (in_a_loop (record {
        loop = id;
        ty = ty;
        has_value = false;
      }) x) Taken h.0 (again.good_in items needs q clear keeps (nodes_of condition ++ nodes_of
      body) fuel (nodes_of condition) gc) in
      let sb = node_so items (again.needs_in items needs q clear keeps (nodes_of condition ++ nodes_of body)) q
      (again.clear_in items needs q clear keeps (nodes_of condition ++ nodes_of body)) (again.keeps_in items needs
      q clear keeps (nodes_of condition ++ nodes_of body)) fuel body (in_a_loop (record {
        loop = id;
        ty = ty;
        has_value = false;
      }) x) Taken h.1.1.0 (again.good_in items needs q clear keeps (nodes_of condition ++
      nodes_of body) fuel (nodes_of body) gb) in
      kinds.scope_free items needs q clear keeps over waits first fuel (K x) (head id ty by) (shape_of items
      (tree.While condition body) (head id ty by)) ((node id at ty by (tree.While condition body)) ∷ nodes_of
      condition ++ nodes_of body) (evaluation.while_true items q fuel (head id ty by) (M condition) (M body)) (inl
      refl) (λ around to S v t d. turns.loop_free items needs q clear keeps over waits first fuel x (record {
        loop
            = id;
        ty = ty;
        has_value = false;
      }) to around (nodes_of condition ++ nodes_of body) ((node id at ty by
      (tree.While condition body)) ∷ nodes_of condition ++ nodes_of body) (forms.condition items q (in_loop id to
      around) (M condition) (evaluation.body_in items q fuel (M body) (in_loop id to around)) (forms.ends_loop
      items q (head id ty by) to)) p S v t d (λ w y k. choices.condition_free items needs q clear keeps over waits
      first (K (in_a_loop (record { loop = id; ty = ty; has_value = false }) x)) (in_loop id to around) (M
      condition) (evaluation.body_in items q fuel (M body) (in_loop id to around)) (forms.ends_loop items q (head
      id ty by) to) Nothing (nodes_of condition) (nodes_of condition ++ nodes_of body) fc (numbered_left (nodes_of
      condition) (nodes_of body)) S w (rules.ready_part items needs q clear keeps over waits first (K (in_a_loop
      (record { loop = id; ty = ty; has_value = false }) x)) (in_loop id to around) (nodes_of condition) (nodes_of
      condition ++ nodes_of body) S w (numbered_left (nodes_of condition) (nodes_of body)) y) (λ T u e j.
      rules.more_free items needs q clear keeps over waits first (in_loop id to around) Nothing Nothing (nodes_of
      condition ++ nodes_of body) (nodes_of condition ++ nodes_of body) T u (Extends T) (Extends S)
      (evaluation.body_in items q fuel (M body) (in_loop id to around) T u) (turns.body_free items needs q clear
      keeps over waits first fuel (K (in_a_loop (record { loop = id; ty = ty; has_value = false }) x)) (in_loop id
      to around) (M body) (nodes_of body) (nodes_of condition ++ nodes_of body) fb (numbered_right (nodes_of
      condition) (nodes_of body)) T u (rules.ready_after items needs q clear keeps over waits first (K (in_a_loop
      (record { loop = id; ty = ty; has_value = false }) x)) (in_loop id to around) (nodes_of condition) (nodes_of
      body) (nodes_of condition ++ nodes_of body) Nothing S T w u y (numbered_left (nodes_of condition) (nodes_of
      body)) (numbered_right (nodes_of condition) (nodes_of body)) (rises_apart (nodes_of condition) (nodes_of
      body) rs) (λ z i. absurd i) (around_ext items (K (in_a_loop (record {
        loop = id;
        ty = ty;
        has_value = false;
      }) x)) (in_loop id to around) S T e y.ok) (λ z fr i m. j z fr i))) (λ z i. i) (λ z i. absurd i) (λ exit Z i.
      ext_then S T Z e i)) (λ T u e j. turns.ends_free items needs q clear keeps over waits first fuel around (head
      id ty by) to (nodes_of condition ++ nodes_of body) S T u d.two (λ z i. j z (k z i) (λ m. rules.dest_apart
      items needs q clear keeps over waits first id (nodes_of condition ++ nodes_of body) ((node id at ty by
      (tree.While condition body)) ∷ nodes_of condition ++ nodes_of body) to S v d p z i (numbered_left (nodes_of
      condition) (nodes_of body) z m))) e)) (λ w ok inner away. again.goes_on items needs q clear keeps (nodes_of
      condition ++ nodes_of body) (K (in_a_loop (record { loop = id; ty = ty; has_value = false }) x)) (in_loop id
      to around) S (λ z i. (t.free z (p.within z i)).1) _ (steps.condition_so items (again.needs_in items needs q
      clear keeps (nodes_of condition ++ nodes_of body)) q (again.clear_in items needs q clear keeps (nodes_of
      condition ++ nodes_of body)) (again.keeps_in items needs q clear keeps (nodes_of condition ++ nodes_of body))
      (K (in_a_loop (record { loop = id; ty = ty; has_value = false }) x)) (in_loop id to around) (M condition)
      (Rattle.soundness_cells.proofs.PassScopes.After items (again.needs_in items needs q clear keeps (nodes_of
      condition ++ nodes_of body)) q (again.clear_in items needs q clear keeps (nodes_of condition ++ nodes_of
      body)) (again.keeps_in items needs q clear keeps (nodes_of condition ++ nodes_of body)) (K (in_a_loop (record
      { loop = id; ty = ty; has_value = false }) x)) (in_loop id to around) Nothing (λ T. T ≡ S))
      (evaluation.body_in items q fuel (M body) (in_loop id to around)) (forms.ends_loop items q (head id ty by)
      to) S w sc (facts.free_cell items (again.needs_in items needs q clear keeps (nodes_of condition ++ nodes_of
      body)) q (again.clear_in items needs q clear keeps (nodes_of condition ++ nodes_of body)) (again.keeps_in
      items needs q clear keeps (nodes_of condition ++ nodes_of body)) fuel (K (in_a_loop (record {
        loop = id;
        ty =
            ty;
        has_value = false;
      }) x)) condition sc (nodes.or_never_none items (again.needs_in items needs q clear
      keeps (nodes_of condition ++ nodes_of body)) q (again.clear_in items needs q clear keeps (nodes_of condition
      ++ nodes_of body)) (again.keeps_in items needs q clear keeps (nodes_of condition ++ nodes_of body)) fuel
      (types.is_bool items (ty_of condition)) (ty_of condition) (nodes.bool_none items (again.needs_in items needs
      q clear keeps (nodes_of condition ++ nodes_of body)) q (again.clear_in items needs q clear keeps (nodes_of
      condition ++ nodes_of body)) (again.keeps_in items needs q clear keeps (nodes_of condition ++ nodes_of body))
      fuel (ty_of condition)) h.1.0)) (again.around_in items needs q clear keeps (nodes_of condition ++ nodes_of
      body) (K (in_a_loop (record { loop = id; ty = ty; has_value = false }) x)) (in_loop id to around) S ok (λ z
      e. away z (inl e)) (λ l a e z i. away z (inr (l, (a, (e, i)))))) (again.held_in items needs q clear keeps
      (nodes_of condition ++ nodes_of body) (entries_of S) w (λ z i. (inner z i).0)) (λ u k. parts.turn_so items
      (again.needs_in items needs q clear keeps (nodes_of condition ++ nodes_of body)) q (again.clear_in items
      needs q clear keeps (nodes_of condition ++ nodes_of body)) (again.keeps_in items needs q clear keeps
      (nodes_of condition ++ nodes_of body)) fuel (in_a_loop (record { loop = id; ty = ty; has_value = false }) x)
      (in_loop id to around) body sb h.1.1.1.0 S u (again.around_in items needs q clear keeps (nodes_of condition
      ++ nodes_of body) (K (in_a_loop (record { loop = id; ty = ty; has_value = false }) x)) (in_loop id to around)
      S ok (λ z e. away z (inl e)) (λ l a e z i. away z (inr (l, (a, (e, i)))))) k) (λ u k. parts.ends_so items
      (again.needs_in items needs q clear keeps (nodes_of condition ++ nodes_of body)) q (again.clear_in items
      needs q clear keeps (nodes_of condition ++ nodes_of body)) (again.keeps_in items needs q clear keeps
      (nodes_of condition ++ nodes_of body)) fuel x around (head id ty by) (record {
        loop = id;
        ty = ty;
        has_value
            = false;
      }) refl to S u k) (λ exit T u o y. y))))

  pub while_let_free : (x : Standpoint) (pattern : Node) (scrutinee : Node) (body : Node) (id : ℕ) (at : Pos) (ty : TyId)
      (by : Option Use) → Holds (typing.row (K x) id ty (tree.WhileLet pattern scrutinee body)) → Good (nodes_in
      (tree.WhileLet pattern scrutinee body)) → Rises (node id at ty by (tree.WhileLet pattern scrutinee body) ∷
      nodes_in (tree.WhileLet pattern scrutinee body)) → FreeM (K (in_a_loop (record {
        loop = id;
        ty = ty;
        has_value =
            false;
      }) x)) (M scrutinee) (nodes_of scrutinee) → FreeM (K (with_names (pattern_rules.entries_of pattern)
      (in_a_loop (record { loop = id; ty = ty; has_value = false }) x))) (M body) (nodes_of body) → FreeM (K x) (Of
      (tree.WhileLet pattern scrutinee body) id ty by) (node id at ty by (tree.WhileLet pattern scrutinee body) ∷
      nodes_in (tree.WhileLet pattern scrutinee body))
  while_let_free x pattern scrutinee body id at ty by h g r fs fb =
      let rs = inside_rises items needs q clear keeps over waits first fuel (node id at ty by (tree.WhileLet pattern scrutinee body)) (nodes_of pattern ++ nodes_of
      scrutinee ++ nodes_of body) r in
      let p = (kinds.part_of items needs q clear keeps over waits first fuel (node id at ty by (tree.WhileLet pattern
      scrutinee body)) (nodes_of pattern ++ nodes_of scrutinee ++ nodes_of body) r) in
      let r2 = rises_left (nodes_of pattern ++ nodes_of scrutinee) (nodes_of body) rs in
      let g2 = good_left items needs q clear keeps over waits first fuel (nodes_of pattern ++ nodes_of scrutinee) (nodes_of body) g in
      let gs = good_right items needs q clear keeps over waits first fuel (nodes_of pattern) (nodes_of scrutinee) g2 in
      let gb = good_right items needs q clear keeps over waits first fuel (nodes_of pattern ++ nodes_of scrutinee) (nodes_of body) g in
      let ss = node_so items (again.needs_in items needs q clear keeps (nodes_of pattern ++ nodes_of scrutinee ++
      nodes_of body)) q (again.clear_in items needs q clear keeps (nodes_of pattern ++ nodes_of scrutinee ++
      nodes_of body)) (again.keeps_in items needs q clear keeps (nodes_of pattern ++ nodes_of scrutinee ++ nodes_of
      body)) fuel scrutinee (in_a_loop (record { loop = id; ty = ty; has_value = false }) x) (Used Use.Borrow) h.0
      (again.good_in items needs q clear keeps (nodes_of pattern ++ nodes_of scrutinee ++ nodes_of body) fuel
      (nodes_of scrutinee) gs) in
      let sb = node_so items (again.needs_in items needs q clear keeps (nodes_of pattern ++ nodes_of scrutinee ++
      nodes_of body)) q (again.clear_in items needs q clear keeps (nodes_of pattern ++ nodes_of scrutinee ++
      nodes_of body)) (again.keeps_in items needs q clear keeps (nodes_of pattern ++ nodes_of scrutinee ++ nodes_of
      body)) fuel body (with_names (pattern_rules.entries_of pattern) (in_a_loop (record {
        loop = id;
        ty = ty;
        has_value = false;
      }) x)) Taken h.1.1.0 (again.good_in items needs q clear keeps (nodes_of pattern ++ nodes_of
      scrutinee ++ nodes_of body) fuel (nodes_of body) gb) in
      kinds.scope_free items needs q clear keeps over waits first fuel (K x) (head id ty by) (shape_of items
      (tree.WhileLet pattern scrutinee body) (head id ty by)) ((node id at ty by (tree.WhileLet pattern scrutinee
      body)) ∷ nodes_of pattern ++ nodes_of scrutinee ++ nodes_of body) (evaluation.while_taken items q fuel (head
      id ty by) (M pattern) (M scrutinee) (M body)) (inl refl) (λ around to S v t d. turns.loop_free items needs q
      clear keeps over waits first fuel x (record { loop = id; ty = ty; has_value = false }) to around (nodes_of
      pattern ++ nodes_of scrutinee ++ nodes_of body) ((node id at ty by (tree.WhileLet pattern scrutinee body)) ∷
      nodes_of pattern ++ nodes_of scrutinee ++ nodes_of body) (forms.if_taken items q (head id ty by) (in_loop id
      to around) (M pattern) (M scrutinee) (evaluation.body_in items q fuel (M body) (in_loop id to around))
      (forms.ends_loop items q (head id ty by) to)) p S v t d (λ w y k. arms.if_taken_free items needs q clear
      keeps over waits first (K (in_a_loop (record { loop = id; ty = ty; has_value = false }) x)) (in_loop id to
      around) (head id ty by) (M pattern) (M scrutinee) (evaluation.body_in items q fuel (M body) (in_loop id to
      around)) (forms.ends_loop items q (head id ty by) to) Nothing (nodes_of pattern) (nodes_of scrutinee)
      (nodes_of pattern ++ nodes_of scrutinee ++ nodes_of body) fs (rises_apart (nodes_of pattern) (nodes_of
      scrutinee) r2) (λ z i. numbered_left (nodes_of pattern ++ nodes_of scrutinee) (nodes_of body) z
      (numbered_left (nodes_of pattern) (nodes_of scrutinee) z i)) (λ z i. numbered_left (nodes_of pattern ++
      nodes_of scrutinee) (nodes_of body) z (numbered_right (nodes_of pattern) (nodes_of scrutinee) z i))
      (turns.pattern_tests items needs q clear keeps over waits first fuel pattern (place_of (M scrutinee) (in_loop
      id to around))) (turns.bound_distinct items needs q clear keeps over waits first fuel pattern (place_of (M
      scrutinee) (in_loop id to around)) (rises_left (nodes_of pattern) (nodes_of scrutinee) r2)) (turns.bound_in
      items needs q clear keeps over waits first fuel pattern (place_of (M scrutinee) (in_loop id to around))) S w
      y (λ U u e j. rules.more_free items needs q clear keeps over waits first (in_loop id to around) Nothing
      Nothing (nodes_of pattern ++ nodes_of scrutinee ++ nodes_of body) (nodes_of pattern ++ nodes_of scrutinee ++
      nodes_of body) U u (Extends U) (OnTop S) (evaluation.body_in items q fuel (M body) (in_loop id to around) U
      u) (turns.body_free items needs q clear keeps over waits first fuel (K (with_names (pattern_rules.entries_of
      pattern) (in_a_loop (record { loop = id; ty = ty; has_value = false }) x))) (in_loop id to around) (M body)
      (nodes_of body) (nodes_of pattern ++ nodes_of scrutinee ++ nodes_of body) fb (numbered_right (nodes_of
      pattern ++ nodes_of scrutinee) (nodes_of body)) U u (record {
        ok = turns.named_around items needs q clear
            keeps over waits first fuel pattern (in_a_loop (record { loop = id; ty = ty; has_value = false }) x)
            (typing.matched_in false (K (in_a_loop (record { loop = id; ty = ty; has_value = false }) x)) scrutinee)
            (ty_of scrutinee) h.1.0.1 (in_loop id to around) U (place_of (M scrutinee) (in_loop id to around))
            (around_top items (K (in_a_loop (record { loop = id; ty = ty; has_value = false }) x)) (in_loop id to around)
            S U e.0 y.ok) e.1;
        free = λ z i. j z (y.free z (numbered_right (nodes_of pattern ++ nodes_of scrutinee)
            (nodes_of body) z i)) (λ m. rises_apart (nodes_of pattern ++ nodes_of scrutinee) (nodes_of body) rs z m i);
        jumps = λ z i. let c = y.jumps z i in (
          j z c.0 (λ m. c.1 (numbered_left (nodes_of pattern ++ nodes_of
              scrutinee) (nodes_of body) z m)),
          λ m. c.1 (numbered_right (nodes_of pattern ++ nodes_of scrutinee) (nodes_of
              body) z m),
        );
        twos = y.twos;
      })) (λ z i. i) (λ z i. absurd i) (λ exit Z i. top_then S U Z e.0 i)) (λ T u e j.
      turns.ends_free items needs q clear keeps over waits first fuel around (head id ty by) to (nodes_of pattern
      ++ nodes_of scrutinee ++ nodes_of body) S T u d.two (λ z i. j z (k z i) (λ m. rules.dest_apart items needs q
      clear keeps over waits first id (nodes_of pattern ++ nodes_of scrutinee ++ nodes_of body) ((node id at ty by
      (tree.WhileLet pattern scrutinee body)) ∷ nodes_of pattern ++ nodes_of scrutinee ++ nodes_of body) to S v d p
      z i (numbered_left (nodes_of pattern ++ nodes_of scrutinee) (nodes_of body) z (numbered_right (nodes_of
      pattern) (nodes_of scrutinee) z m)))) e)) (λ w ok inner away. again.goes_on items needs q clear keeps
      (nodes_of pattern ++ nodes_of scrutinee ++ nodes_of body) (K (in_a_loop (record {
        loop = id;
        ty = ty;
        has_value = false;
      }) x)) (in_loop id to around) S (λ z i. (t.free z (p.within z i)).1) _
      (branches.if_taken_so items (again.needs_in items needs q clear keeps (nodes_of pattern ++ nodes_of scrutinee
      ++ nodes_of body)) q (again.clear_in items needs q clear keeps (nodes_of pattern ++ nodes_of scrutinee ++
      nodes_of body)) (again.keeps_in items needs q clear keeps (nodes_of pattern ++ nodes_of scrutinee ++ nodes_of
      body)) (K (in_a_loop (record { loop = id; ty = ty; has_value = false }) x)) (in_loop id to around) Nothing
      (head id ty by) (M pattern) (M scrutinee) (evaluation.body_in items q fuel (M body) (in_loop id to around))
      (forms.ends_loop items q (head id ty by) to) S w ss (facts.pattern_here items (again.needs_in items needs q
      clear keeps (nodes_of pattern ++ nodes_of scrutinee ++ nodes_of body)) q (again.clear_in items needs q clear
      keeps (nodes_of pattern ++ nodes_of scrutinee ++ nodes_of body)) (again.keeps_in items needs q clear keeps
      (nodes_of pattern ++ nodes_of scrutinee ++ nodes_of body)) fuel pattern (typing.matched_in false (K
      (in_a_loop (record { loop = id; ty = ty; has_value = false }) x)) scrutinee) (ty_of scrutinee) h.1.0.1
      (again.good_in items needs q clear keeps (nodes_of pattern ++ nodes_of scrutinee ++ nodes_of body) fuel
      (nodes_of pattern) (good_left items needs q clear keeps over waits first fuel (nodes_of pattern) (nodes_of scrutinee) g2)) (place_of (M scrutinee) (in_loop
      id to around))).bound (λ T u wide bound k. parts.turn_so items (again.needs_in items needs q clear keeps
      (nodes_of pattern ++ nodes_of scrutinee ++ nodes_of body)) q (again.clear_in items needs q clear keeps
      (nodes_of pattern ++ nodes_of scrutinee ++ nodes_of body)) (again.keeps_in items needs q clear keeps
      (nodes_of pattern ++ nodes_of scrutinee ++ nodes_of body)) fuel (with_names (pattern_rules.entries_of
      pattern) (in_a_loop (record { loop = id; ty = ty; has_value = false }) x)) (in_loop id to around) body sb
      h.1.1.1.0 T u (facts.named_ok items (again.needs_in items needs q clear keeps (nodes_of pattern ++ nodes_of
      scrutinee ++ nodes_of body)) q (again.clear_in items needs q clear keeps (nodes_of pattern ++ nodes_of
      scrutinee ++ nodes_of body)) (again.keeps_in items needs q clear keeps (nodes_of pattern ++ nodes_of
      scrutinee ++ nodes_of body)) fuel pattern (in_a_loop (record { loop = id; ty = ty; has_value = false }) x)
      (in_loop id to around) T (place_of (M scrutinee) (in_loop id to around)) (facts.pattern_here items
      (again.needs_in items needs q clear keeps (nodes_of pattern ++ nodes_of scrutinee ++ nodes_of body)) q
      (again.clear_in items needs q clear keeps (nodes_of pattern ++ nodes_of scrutinee ++ nodes_of body))
      (again.keeps_in items needs q clear keeps (nodes_of pattern ++ nodes_of scrutinee ++ nodes_of body)) fuel
      pattern (typing.matched_in false (K (in_a_loop (record { loop = id; ty = ty; has_value = false }) x))
      scrutinee) (ty_of scrutinee) h.1.0.1 (again.good_in items needs q clear keeps (nodes_of pattern ++ nodes_of
      scrutinee ++ nodes_of body) fuel (nodes_of pattern) (good_left items needs q clear keeps over waits first fuel (nodes_of pattern) (nodes_of scrutinee) g2))
      (place_of (M scrutinee) (in_loop id to around))) (Rattle.soundness_cells.proofs.PassScopes.around_more items
      (again.needs_in items needs q clear keeps (nodes_of pattern ++ nodes_of scrutinee ++ nodes_of body)) (K
      (in_a_loop (record { loop = id; ty = ty; has_value = false }) x)) (in_loop id to around) S T wide
      (again.around_in items needs q clear keeps (nodes_of pattern ++ nodes_of scrutinee ++ nodes_of body) (K
      (in_a_loop (record { loop = id; ty = ty; has_value = false }) x)) (in_loop id to around) S ok (λ z e. away z
      (inl e)) (λ l a e z i. away z (inr (l, (a, (e, i))))))) bound) k) (λ u k. parts.ends_so items (again.needs_in
      items needs q clear keeps (nodes_of pattern ++ nodes_of scrutinee ++ nodes_of body)) q (again.clear_in items
      needs q clear keeps (nodes_of pattern ++ nodes_of scrutinee ++ nodes_of body)) (again.keeps_in items needs q
      clear keeps (nodes_of pattern ++ nodes_of scrutinee ++ nodes_of body)) fuel x around (head id ty by) (record
      { loop = id; ty = ty; has_value = false }) refl to S u k) (λ key z. absurd z) (again.around_in items needs q
      clear keeps (nodes_of pattern ++ nodes_of scrutinee ++ nodes_of body) (K (in_a_loop (record {
        loop = id;
        ty =
            ty;
        has_value = false;
      }) x)) (in_loop id to around) S ok (λ z e. away z (inl e)) (λ l a e z i. away z (inr
      (l, (a, (e, i)))))) (again.held_in items needs q clear keeps (nodes_of pattern ++ nodes_of scrutinee ++
      nodes_of body) (entries_of S) w (λ z i. (inner z i).0)))))
