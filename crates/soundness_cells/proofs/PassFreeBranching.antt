-- What is free stays free: branches, where it does in their parts.
use Rattle.std.proofs.Common.{inl, inr, ℕ, Bool, if◌then◌else◌, true, false, List, [], ◌∷◌, ◌++◌, Option, Some, None, refl}
use Rattle.mir_base.specs.declared.place_in_text.Pos.{Pos}
use Rattle.mir_ty.specs.declared.ty.TyId.{TyId}
use Rattle.mir_ty.specs.ItemTable.{ItemTable}
use Rattle.store_model.specs.Effects as effects
use Rattle.store_model.specs.Effects.{EffectSite, Action, Halt, Effects}
use Rattle.typed_tree.specs.declared.node.Use.{Use}
use Rattle.typed_tree.specs.Nodes.{nodes_of, nodes_in}
use Rattle.typed_tree.specs.Tree as tree
use Rattle.typed_tree.specs.Tree.{Node, node, Form, absent, present}
use Rattle.src_meaning.specs.Evaluation as evaluation
use Rattle.src_meaning.specs.Evaluation.{meaning, meaning_of}
use Rattle.src_meaning.specs.Forms as forms
use Rattle.src_meaning.specs.Forms.{Meaning, place_of}
use Rattle.src_meaning.specs.Scopes.{Scopes, Exit}
use Rattle.src_meaning.specs.Shape.{head, shape_of}
use Rattle.well_typed.specs.Claim.{Holds}
use Rattle.well_typed.specs.Nodes as typing
use Rattle.well_typed.specs.Patterns as pattern_rules
use Rattle.well_typed.specs.Places.{Context, ty_of}
use Rattle.soundness_cells.proofs.PassClear.{KeepsClear, Nothing}
use Rattle.soundness_cells.proofs.PassFacts.{Standpoint, context, with_names}
use Rattle.soundness_cells.proofs.PassFree.{FindsNothing, DestKey, top_then, around_top}
use Rattle.soundness_cells.proofs.PassFreeArms as arms
use Rattle.soundness_cells.proofs.PassFreeChoices as choices
use Rattle.soundness_cells.proofs.PassFreeKinds as kinds
use Rattle.soundness_cells.proofs.PassFreeRules as rules
use Rattle.soundness_cells.proofs.PassFreeTurns as turns
use Rattle.soundness_cells.proofs.PassNodes as nodes
use Rattle.soundness_cells.proofs.PassNumbers.{numbered_left, numbered_right, Rises, rises_left, rises_apart}
use Rattle.soundness_cells.proofs.PassFreeOperators.{good_left, inside_rises}

module _ {V : Type 0} (items : ItemTable) (needs : ℕ → Bool) (q : Effects V) (clear : V → ℕ → Type 0)
    (keeps : KeepsClear q needs clear) (over : Halt → V → Type 0) (waits : EffectSite → V → Type 0)
    (first : FindsNothing q over needs clear waits) (fuel : ℕ) where
  abbrev Extends : Scopes → Exit → Scopes → Type 0
  Extends = rules.Extends items needs q clear keeps over waits first

  abbrev OnTop : Scopes → Exit → Scopes → Type 0
  OnTop = rules.OnTop items needs q clear keeps over waits first

  abbrev FreeM : Context → Meaning V → List Node → Type 0
  FreeM = rules.FreeM items needs q clear keeps over waits first

  abbrev Good : List Node → Type 0
  Good = nodes.Good items needs q clear keeps fuel

  abbrev K : Standpoint → Context
  K = context items

  abbrev M : Node → Meaning V
  M = meaning items q fuel

  abbrev Of : Form → ℕ → TyId → Option Use → Meaning V
  Of form id ty by = meaning_of items q fuel form (head id ty by) (shape_of items form (head id ty by))

  abbrev unit_action : EffectSite → Action
  unit_action site = effects.Put site effects.UnitValue

  -- ---- branches
  pub and_free : (x : Standpoint) (left : Node) (right : Node) (id : ℕ) (at : Pos) (ty : TyId) (by : Option Use) → Holds
      (typing.row (K x) id ty (tree.And left right)) → Good (nodes_in (tree.And left right)) → Rises (node id at ty by
      (tree.And left right) ∷ nodes_in (tree.And left right)) → FreeM (K x) (M left) (nodes_of left) → FreeM (K x) (M
      right) (nodes_of right) → FreeM (K x) (Of (tree.And left right) id ty by) (node id at ty by (tree.And left right)
      ∷ nodes_in (tree.And left right))
  and_free x left right id at ty by h g r fl fr =
      let rs = inside_rises items needs q clear keeps over waits first fuel (node id at ty by (tree.And left right)) (nodes_of left ++ nodes_of right) r in
      let p = (kinds.part_of items needs q clear keeps over waits first fuel (node id at ty by (tree.And left right))
      (nodes_of left ++ nodes_of right) r) in
      let pl = kinds.part_left items needs q clear keeps over waits first fuel id (nodes_of left) (nodes_of right)
      ((node id at ty by (tree.And left right)) ∷ nodes_of left ++ nodes_of right) p in
      let pr = kinds.part_right items needs q clear keeps over waits first fuel id (nodes_of left) (nodes_of right)
      ((node id at ty by (tree.And left right)) ∷ nodes_of left ++ nodes_of right) p in
      kinds.scope_free items needs q clear keeps over waits first fuel (K x) (head id ty by) (shape_of items (tree.And
      left right) (head id ty by)) ((node id at ty by (tree.And left right)) ∷ nodes_of left ++ nodes_of right)
      (evaluation.conjunction items q fuel (head id ty by) (M left) (M right)) (inl refl) (λ around to S v t d.
      choices.condition_free items needs q clear keeps over waits first (K x) around (M left) (forms.alone items q
      around (M right) to) (evaluation.shortcut items q fuel (head id ty by) false to) (DestKey to) (nodes_of left)
      ((node id at ty by (tree.And left right)) ∷ nodes_of left ++ nodes_of right) fl pl.within S v
      (rules.ready_part items needs q clear keeps over waits first (K x) around (nodes_of left) ((node id at ty by
      (tree.And left right)) ∷ nodes_of left ++ nodes_of right) S v pl.within t) (λ T w e j. kinds.branch_free
      items needs q clear keeps over waits first fuel (K x) around (M right) to id (nodes_of left) (nodes_of right)
      ((node id at ty by (tree.And left right)) ∷ nodes_of left ++ nodes_of right) fr pl pr (rises_apart (nodes_of
      left) (nodes_of right) rs) S v t d T w e j) (λ T w e j. kinds.gives_free items needs q clear keeps over waits
      first fuel around (head id ty by) (λ site. effects.Put site (effects.Truth false)) to (nodes_of left) ((node
      id at ty by (tree.And left right)) ∷ nodes_of left ++ nodes_of right) pl (λ site key e. e) S v d T w e j))

  pub or_free : (x : Standpoint) (left : Node) (right : Node) (id : ℕ) (at : Pos) (ty : TyId) (by : Option Use) → Holds
      (typing.row (K x) id ty (tree.Or left right)) → Good (nodes_in (tree.Or left right)) → Rises (node id at ty by
      (tree.Or left right) ∷ nodes_in (tree.Or left right)) → FreeM (K x) (M left) (nodes_of left) → FreeM (K x) (M
      right) (nodes_of right) → FreeM (K x) (Of (tree.Or left right) id ty by) (node id at ty by (tree.Or left right) ∷
      nodes_in (tree.Or left right))
  or_free x left right id at ty by h g r fl fr =
      let rs = inside_rises items needs q clear keeps over waits first fuel (node id at ty by (tree.Or left right)) (nodes_of left ++ nodes_of right) r in
      let p = (kinds.part_of items needs q clear keeps over waits first fuel (node id at ty by (tree.Or left right))
      (nodes_of left ++ nodes_of right) r) in
      let pl = kinds.part_left items needs q clear keeps over waits first fuel id (nodes_of left) (nodes_of right)
      ((node id at ty by (tree.Or left right)) ∷ nodes_of left ++ nodes_of right) p in
      let pr = kinds.part_right items needs q clear keeps over waits first fuel id (nodes_of left) (nodes_of right)
      ((node id at ty by (tree.Or left right)) ∷ nodes_of left ++ nodes_of right) p in
      kinds.scope_free items needs q clear keeps over waits first fuel (K x) (head id ty by) (shape_of items (tree.Or
      left right) (head id ty by)) ((node id at ty by (tree.Or left right)) ∷ nodes_of left ++ nodes_of right)
      (evaluation.disjunction items q fuel (head id ty by) (M left) (M right)) (inl refl) (λ around to S v t d.
      choices.condition_free items needs q clear keeps over waits first (K x) around (M left) (evaluation.shortcut
      items q fuel (head id ty by) true to) (forms.alone items q around (M right) to) (DestKey to) (nodes_of left)
      ((node id at ty by (tree.Or left right)) ∷ nodes_of left ++ nodes_of right) fl pl.within S v
      (rules.ready_part items needs q clear keeps over waits first (K x) around (nodes_of left) ((node id at ty by
      (tree.Or left right)) ∷ nodes_of left ++ nodes_of right) S v pl.within t) (λ T w e j. kinds.gives_free items
      needs q clear keeps over waits first fuel around (head id ty by) (λ site. effects.Put site (effects.Truth
      true)) to (nodes_of left) ((node id at ty by (tree.Or left right)) ∷ nodes_of left ++ nodes_of right) pl (λ
      site key e. e) S v d T w e j) (λ T w e j. kinds.branch_free items needs q clear keeps over waits first fuel
      (K x) around (M right) to id (nodes_of left) (nodes_of right) ((node id at ty by (tree.Or left right)) ∷
      nodes_of left ++ nodes_of right) fr pl pr (rises_apart (nodes_of left) (nodes_of right) rs) S v t d T w e j))

  pub if_free : (x : Standpoint) (condition : Node) (consequent : Node) (id : ℕ) (at : Pos) (ty : TyId) (by : Option Use) →
      Holds (typing.row (K x) id ty (tree.If condition consequent absent)) → Good (nodes_in (tree.If condition
      consequent absent)) → Rises (node id at ty by (tree.If condition consequent absent) ∷ nodes_in (tree.If condition
      consequent absent)) → FreeM (K x) (M condition) (nodes_of condition) → FreeM (K x) (M consequent) (nodes_of
      consequent) → FreeM (K x) (Of (tree.If condition consequent absent) id ty by) (node id at ty by (tree.If
      condition consequent absent) ∷ nodes_in (tree.If condition consequent absent))
  if_free x condition consequent id at ty by h g r fc fb =
      let rs = inside_rises items needs q clear keeps over waits first fuel (node id at ty by (tree.If condition consequent absent)) (nodes_of condition ++ nodes_of
      consequent ++ []) r in
      let p = (kinds.part_of items needs q clear keeps over waits first fuel (node id at ty by (tree.If condition
      consequent absent)) (nodes_of condition ++ nodes_of consequent ++ []) r) in
      let rab = rises_left (nodes_of condition ++ nodes_of consequent) ([]) rs in
      let gab = good_left items needs q clear keeps over waits first fuel (nodes_of condition ++ nodes_of consequent) ([]) g in
      let pab = kinds.part_left items needs q clear keeps over waits first fuel id (nodes_of condition ++ nodes_of
      consequent) ([]) ((node id at ty by (tree.If condition consequent absent)) ∷ nodes_of condition ++ nodes_of
      consequent ++ []) p in
      let pa = kinds.part_left items needs q clear keeps over waits first fuel id (nodes_of condition) (nodes_of
      consequent) ((node id at ty by (tree.If condition consequent absent)) ∷ nodes_of condition ++ nodes_of
      consequent ++ []) pab in
      let pb = kinds.part_right items needs q clear keeps over waits first fuel id (nodes_of condition) (nodes_of
      consequent) ((node id at ty by (tree.If condition consequent absent)) ∷ nodes_of condition ++ nodes_of
      consequent ++ []) pab in
      kinds.scope_free items needs q clear keeps over waits first fuel (K x) (head id ty by) (shape_of items (tree.If
      condition consequent absent) (head id ty by)) ((node id at ty by (tree.If condition consequent absent)) ∷
      nodes_of condition ++ nodes_of consequent ++ []) (evaluation.if_else items q fuel (head id ty by) (M
      condition) (M consequent) None) (inl refl) (λ around to S v t d. choices.condition_free items needs q clear
      keeps over waits first (K x) around (M condition) (forms.alone items q around (M consequent) to)
      (forms.put_unit items q (head id ty by) to) (DestKey to) (nodes_of condition) ((node id at ty by (tree.If
      condition consequent absent)) ∷ nodes_of condition ++ nodes_of consequent ++ []) fc pa.within S v
      (rules.ready_part items needs q clear keeps over waits first (K x) around (nodes_of condition) ((node id at
      ty by (tree.If condition consequent absent)) ∷ nodes_of condition ++ nodes_of consequent ++ []) S v pa.within
      t) (λ T w e j. kinds.branch_free items needs q clear keeps over waits first fuel (K x) around (M consequent)
      to id (nodes_of condition) (nodes_of consequent) ((node id at ty by (tree.If condition consequent absent)) ∷
      nodes_of condition ++ nodes_of consequent ++ []) fb pa pb (rises_apart (nodes_of condition) (nodes_of
      consequent) rab) S v t d T w e j) (λ T w e j. kinds.gives_free items needs q clear keeps over waits first
      fuel around (head id ty by) unit_action to (nodes_of condition) ((node id at ty by (tree.If condition
      consequent absent)) ∷ nodes_of condition ++ nodes_of consequent ++ []) pa (λ site key e. e) S v d T w e j))

  pub if_else_free : (x : Standpoint) (condition : Node) (consequent : Node) (otherwise : Node) (id : ℕ) (at : Pos) (ty :
      TyId) (by : Option Use) → Holds (typing.row (K x) id ty (tree.If condition consequent (present otherwise))) →
      Good (nodes_in (tree.If condition consequent (present otherwise))) → Rises (node id at ty by (tree.If condition
      consequent (present otherwise)) ∷ nodes_in (tree.If condition consequent (present otherwise))) → FreeM (K x) (M
      condition) (nodes_of condition) → FreeM (K x) (M consequent) (nodes_of consequent) → FreeM (K x) (M otherwise)
      (nodes_of otherwise) → FreeM (K x) (Of (tree.If condition consequent (present otherwise)) id ty by) (node id at
      ty by (tree.If condition consequent (present otherwise)) ∷ nodes_in (tree.If condition consequent (present
      otherwise)))
  if_else_free x condition consequent otherwise id at ty by h g r fc fb fo =
      let rs = inside_rises items needs q clear keeps over waits first fuel (node id at ty by (tree.If condition consequent (present otherwise))) (nodes_of condition
      ++ nodes_of consequent ++ nodes_of otherwise) r in
      let p = (kinds.part_of items needs q clear keeps over waits first fuel (node id at ty by (tree.If condition
      consequent (present otherwise))) (nodes_of condition ++ nodes_of consequent ++ nodes_of otherwise) r) in
      let rab = rises_left (nodes_of condition ++ nodes_of consequent) (nodes_of otherwise) rs in
      let gab = good_left items needs q clear keeps over waits first fuel (nodes_of condition ++ nodes_of consequent) (nodes_of otherwise) g in
      let pab = kinds.part_left items needs q clear keeps over waits first fuel id (nodes_of condition ++ nodes_of
      consequent) (nodes_of otherwise) ((node id at ty by (tree.If condition consequent (present otherwise))) ∷
      nodes_of condition ++ nodes_of consequent ++ nodes_of otherwise) p in
      let pa = kinds.part_left items needs q clear keeps over waits first fuel id (nodes_of condition) (nodes_of
      consequent) ((node id at ty by (tree.If condition consequent (present otherwise))) ∷ nodes_of condition ++
      nodes_of consequent ++ nodes_of otherwise) pab in
      let pb = kinds.part_right items needs q clear keeps over waits first fuel id (nodes_of condition) (nodes_of
      consequent) ((node id at ty by (tree.If condition consequent (present otherwise))) ∷ nodes_of condition ++
      nodes_of consequent ++ nodes_of otherwise) pab in
      let po = kinds.part_right items needs q clear keeps over waits first fuel id (nodes_of condition ++ nodes_of
      consequent) (nodes_of otherwise) ((node id at ty by (tree.If condition consequent (present otherwise))) ∷
      nodes_of condition ++ nodes_of consequent ++ nodes_of otherwise) p in
      kinds.scope_free items needs q clear keeps over waits first fuel (K x) (head id ty by) (shape_of items (tree.If
      condition consequent (present otherwise)) (head id ty by)) ((node id at ty by (tree.If condition consequent
      (present otherwise))) ∷ nodes_of condition ++ nodes_of consequent ++ nodes_of otherwise) (evaluation.if_else
      items q fuel (head id ty by) (M condition) (M consequent) (Some (M otherwise))) (inl refl) (λ around to S v t
      d. choices.condition_free items needs q clear keeps over waits first (K x) around (M condition) (forms.alone
      items q around (M consequent) to) (forms.alone items q around (M otherwise) to) (DestKey to) (nodes_of
      condition) ((node id at ty by (tree.If condition consequent (present otherwise))) ∷ nodes_of condition ++
      nodes_of consequent ++ nodes_of otherwise) fc pa.within S v (rules.ready_part items needs q clear keeps over
      waits first (K x) around (nodes_of condition) ((node id at ty by (tree.If condition consequent (present
      otherwise))) ∷ nodes_of condition ++ nodes_of consequent ++ nodes_of otherwise) S v pa.within t) (λ T w e j.
      kinds.branch_free items needs q clear keeps over waits first fuel (K x) around (M consequent) to id (nodes_of
      condition) (nodes_of consequent) ((node id at ty by (tree.If condition consequent (present otherwise))) ∷
      nodes_of condition ++ nodes_of consequent ++ nodes_of otherwise) fb pa pb (rises_apart (nodes_of condition)
      (nodes_of consequent) rab) S v t d T w e j) (λ T w e j. kinds.branch_free items needs q clear keeps over
      waits first fuel (K x) around (M otherwise) to id (nodes_of condition) (nodes_of otherwise) ((node id at ty
      by (tree.If condition consequent (present otherwise))) ∷ nodes_of condition ++ nodes_of consequent ++
      nodes_of otherwise) fo pa po (λ z i k. rises_apart (nodes_of condition ++ nodes_of consequent) (nodes_of
      otherwise) rs z (numbered_left (nodes_of condition) (nodes_of consequent) z i) k) S v t d T w e j))

  pub if_let_free : (x : Standpoint) (pattern : Node) (scrutinee : Node) (consequent : Node) (id : ℕ) (at : Pos) (ty :
      TyId) (by : Option Use) → Holds (typing.row (K x) id ty (tree.IfLet pattern scrutinee consequent absent)) → Good
      (nodes_in (tree.IfLet pattern scrutinee consequent absent)) → Rises (node id at ty by (tree.IfLet pattern
      scrutinee consequent absent) ∷ nodes_in (tree.IfLet pattern scrutinee consequent absent)) → FreeM (K x) (M
      scrutinee) (nodes_of scrutinee) → FreeM (K (with_names (pattern_rules.entries_of pattern) x)) (M consequent)
      (nodes_of consequent) → FreeM (K x) (Of (tree.IfLet pattern scrutinee consequent absent) id ty by) (node id at ty
      by (tree.IfLet pattern scrutinee consequent absent) ∷ nodes_in (tree.IfLet pattern scrutinee consequent absent))
  if_let_free x pattern scrutinee consequent id at ty by h g r fs fb =
      let rs = inside_rises items needs q clear keeps over waits first fuel (node id at ty by (tree.IfLet pattern scrutinee consequent absent)) (nodes_of pattern ++
      nodes_of scrutinee ++ nodes_of consequent ++ []) r in
      let p = (kinds.part_of items needs q clear keeps over waits first fuel (node id at ty by (tree.IfLet pattern
      scrutinee consequent absent)) (nodes_of pattern ++ nodes_of scrutinee ++ nodes_of consequent ++ []) r) in
      let r3 = rises_left (nodes_of pattern ++ nodes_of scrutinee ++ nodes_of consequent) ([]) rs in
      let g3 = good_left items needs q clear keeps over waits first fuel (nodes_of pattern ++ nodes_of scrutinee ++ nodes_of consequent) ([]) g in
      let p3 = kinds.part_left items needs q clear keeps over waits first fuel id (nodes_of pattern ++ nodes_of
      scrutinee ++ nodes_of consequent) ([]) ((node id at ty by (tree.IfLet pattern scrutinee consequent absent)) ∷
      nodes_of pattern ++ nodes_of scrutinee ++ nodes_of consequent ++ []) p in
      let r2 = rises_left (nodes_of pattern ++ nodes_of scrutinee) (nodes_of consequent) r3 in
      let g2 = good_left items needs q clear keeps over waits first fuel (nodes_of pattern ++ nodes_of scrutinee) (nodes_of consequent) g3 in
      let p2 = kinds.part_left items needs q clear keeps over waits first fuel id (nodes_of pattern ++ nodes_of
      scrutinee) (nodes_of consequent) ((node id at ty by (tree.IfLet pattern scrutinee consequent absent)) ∷
      nodes_of pattern ++ nodes_of scrutinee ++ nodes_of consequent ++ []) p3 in
      let pb = kinds.part_right items needs q clear keeps over waits first fuel id (nodes_of pattern ++ nodes_of
      scrutinee) (nodes_of consequent) ((node id at ty by (tree.IfLet pattern scrutinee consequent absent)) ∷
      nodes_of pattern ++ nodes_of scrutinee ++ nodes_of consequent ++ []) p3 in
      let pp = kinds.part_left items needs q clear keeps over waits first fuel id (nodes_of pattern) (nodes_of
      scrutinee) ((node id at ty by (tree.IfLet pattern scrutinee consequent absent)) ∷ nodes_of pattern ++
      nodes_of scrutinee ++ nodes_of consequent ++ []) p2 in
      let psc = kinds.part_right items needs q clear keeps over waits first fuel id (nodes_of pattern) (nodes_of
      scrutinee) ((node id at ty by (tree.IfLet pattern scrutinee consequent absent)) ∷ nodes_of pattern ++
      nodes_of scrutinee ++ nodes_of consequent ++ []) p2 in
      kinds.scope_free items needs q clear keeps over waits first fuel (K x) (head id ty by) (shape_of items
      (tree.IfLet pattern scrutinee consequent absent) (head id ty by)) ((node id at ty by (tree.IfLet pattern
      scrutinee consequent absent)) ∷ nodes_of pattern ++ nodes_of scrutinee ++ nodes_of consequent ++ [])
      (evaluation.if_let items q fuel (head id ty by) (M pattern) (M scrutinee) (M consequent) None) (inl refl) (λ
      around to S v t d. arms.if_taken_free items needs q clear keeps over waits first (K x) around (head id ty by)
      (M pattern) (M scrutinee) (forms.alone items q around (M consequent) to) (forms.put_unit items q (head id ty
      by) to) (DestKey to) (nodes_of pattern) (nodes_of scrutinee) ((node id at ty by (tree.IfLet pattern scrutinee
      consequent absent)) ∷ nodes_of pattern ++ nodes_of scrutinee ++ nodes_of consequent ++ []) fs (rises_apart
      (nodes_of pattern) (nodes_of scrutinee) r2) pp.within psc.within (turns.pattern_tests items needs q clear
      keeps over waits first fuel pattern (place_of (M scrutinee) around)) (turns.bound_distinct items needs q
      clear keeps over waits first fuel pattern (place_of (M scrutinee) around) (rises_left (nodes_of pattern)
      (nodes_of scrutinee) r2)) (turns.bound_in items needs q clear keeps over waits first fuel pattern (place_of
      (M scrutinee) around)) S v t (λ U u k j. rules.more_free items needs q clear keeps over waits first around
      (DestKey to) (DestKey to) (nodes_of consequent) ((node id at ty by (tree.IfLet pattern scrutinee consequent
      absent)) ∷ nodes_of pattern ++ nodes_of scrutinee ++ nodes_of consequent ++ []) U u (Extends U) (OnTop S)
      (forms.alone items q around (M consequent) to U u) (choices.alone_free items needs q clear keeps over waits
      first (K (with_names (pattern_rules.entries_of pattern) x)) around (M consequent) to (nodes_of consequent) fb
      U u (record {
        ok = turns.named_around items needs q clear keeps over waits first fuel pattern x
            (typing.matched_in false (K x) scrutinee) (ty_of scrutinee) h.1.0.1 around U (place_of (M scrutinee) around)
            (around_top items (K x) around S U k.0 t.ok) k.1;
        free = λ z i. j z (t.free z (pb.within z i)) (λ y.
            rises_apart (nodes_of pattern ++ nodes_of scrutinee) (nodes_of consequent) r3 z y i);
        jumps = λ z i. let y =
            t.jumps z i in (j z y.0 (λ m. y.1 (p2.within z m)), λ m. y.1 (pb.within z m));
        twos = t.twos;
      })
      (rules.dest_after items needs q clear keeps over waits first id (M consequent).head.id (nodes_of pattern ++
      nodes_of scrutinee) (nodes_of consequent) ((node id at ty by (tree.IfLet pattern scrutinee consequent
      absent)) ∷ nodes_of pattern ++ nodes_of scrutinee ++ nodes_of consequent ++ []) Nothing to S U v u d p2 pb (λ
      z i. absurd i) (λ z fr i m. j z fr i))) pb.within (λ z i. inr i) (λ exit Z e. top_then S U Z k.0 e)) (λ T w e
      j. kinds.gives_free items needs q clear keeps over waits first fuel around (head id ty by) unit_action to
      (nodes_of scrutinee) ((node id at ty by (tree.IfLet pattern scrutinee consequent absent)) ∷ nodes_of pattern
      ++ nodes_of scrutinee ++ nodes_of consequent ++ []) psc (λ site key e. e) S v d T w e j))

  pub if_let_else_free : (x : Standpoint) (pattern : Node) (scrutinee : Node) (consequent : Node) (otherwise : Node) (id :
      ℕ) (at : Pos) (ty : TyId) (by : Option Use) → Holds (typing.row (K x) id ty (tree.IfLet pattern scrutinee
      consequent (present otherwise))) → Good (nodes_in (tree.IfLet pattern scrutinee consequent (present otherwise)))
      → Rises (node id at ty by (tree.IfLet pattern scrutinee consequent (present otherwise)) ∷ nodes_in (tree.IfLet
      pattern scrutinee consequent (present otherwise))) → FreeM (K x) (M scrutinee) (nodes_of scrutinee) → FreeM (K
      (with_names (pattern_rules.entries_of pattern) x)) (M consequent) (nodes_of consequent) → FreeM (K x) (M
      otherwise) (nodes_of otherwise) → FreeM (K x) (Of (tree.IfLet pattern scrutinee consequent (present otherwise))
      id ty by) (node id at ty by (tree.IfLet pattern scrutinee consequent (present otherwise)) ∷ nodes_in (tree.IfLet
      pattern scrutinee consequent (present otherwise)))
  if_let_else_free x pattern scrutinee consequent otherwise id at ty by h g r fs fb fo =
      let rs = inside_rises items needs q clear keeps over waits first fuel (node id at ty by (tree.IfLet pattern scrutinee consequent (present otherwise))) (nodes_of
      pattern ++ nodes_of scrutinee ++ nodes_of consequent ++ nodes_of otherwise) r in
      let p = (kinds.part_of items needs q clear keeps over waits first fuel (node id at ty by (tree.IfLet pattern
      scrutinee consequent (present otherwise))) (nodes_of pattern ++ nodes_of scrutinee ++ nodes_of consequent ++
      nodes_of otherwise) r) in
      let r3 = rises_left (nodes_of pattern ++ nodes_of scrutinee ++ nodes_of consequent) (nodes_of otherwise) rs in
      let g3 = good_left items needs q clear keeps over waits first fuel (nodes_of pattern ++ nodes_of scrutinee ++ nodes_of consequent) (nodes_of otherwise) g in
      let p3 = kinds.part_left items needs q clear keeps over waits first fuel id (nodes_of pattern ++ nodes_of
      scrutinee ++ nodes_of consequent) (nodes_of otherwise) ((node id at ty by (tree.IfLet pattern scrutinee
      consequent (present otherwise))) ∷ nodes_of pattern ++ nodes_of scrutinee ++ nodes_of consequent ++ nodes_of
      otherwise) p in
      let r2 = rises_left (nodes_of pattern ++ nodes_of scrutinee) (nodes_of consequent) r3 in
      let g2 = good_left items needs q clear keeps over waits first fuel (nodes_of pattern ++ nodes_of scrutinee) (nodes_of consequent) g3 in
      let p2 = kinds.part_left items needs q clear keeps over waits first fuel id (nodes_of pattern ++ nodes_of
      scrutinee) (nodes_of consequent) ((node id at ty by (tree.IfLet pattern scrutinee consequent (present
      otherwise))) ∷ nodes_of pattern ++ nodes_of scrutinee ++ nodes_of consequent ++ nodes_of otherwise) p3 in
      let pb = kinds.part_right items needs q clear keeps over waits first fuel id (nodes_of pattern ++ nodes_of
      scrutinee) (nodes_of consequent) ((node id at ty by (tree.IfLet pattern scrutinee consequent (present
      otherwise))) ∷ nodes_of pattern ++ nodes_of scrutinee ++ nodes_of consequent ++ nodes_of otherwise) p3 in
      let pp = kinds.part_left items needs q clear keeps over waits first fuel id (nodes_of pattern) (nodes_of
      scrutinee) ((node id at ty by (tree.IfLet pattern scrutinee consequent (present otherwise))) ∷ nodes_of
      pattern ++ nodes_of scrutinee ++ nodes_of consequent ++ nodes_of otherwise) p2 in
      let psc = kinds.part_right items needs q clear keeps over waits first fuel id (nodes_of pattern) (nodes_of
      scrutinee) ((node id at ty by (tree.IfLet pattern scrutinee consequent (present otherwise))) ∷ nodes_of
      pattern ++ nodes_of scrutinee ++ nodes_of consequent ++ nodes_of otherwise) p2 in
      let po = kinds.part_right items needs q clear keeps over waits first fuel id (nodes_of pattern ++ nodes_of
      scrutinee ++ nodes_of consequent) (nodes_of otherwise) ((node id at ty by (tree.IfLet pattern scrutinee
      consequent (present otherwise))) ∷ nodes_of pattern ++ nodes_of scrutinee ++ nodes_of consequent ++ nodes_of
      otherwise) p in
      kinds.scope_free items needs q clear keeps over waits first fuel (K x) (head id ty by) (shape_of items
      (tree.IfLet pattern scrutinee consequent (present otherwise)) (head id ty by)) ((node id at ty by (tree.IfLet
      pattern scrutinee consequent (present otherwise))) ∷ nodes_of pattern ++ nodes_of scrutinee ++ nodes_of
      consequent ++ nodes_of otherwise) (evaluation.if_let items q fuel (head id ty by) (M pattern) (M scrutinee)
      (M consequent) (Some (M otherwise))) (inl refl) (λ around to S v t d. arms.if_taken_free items needs q clear
      keeps over waits first (K x) around (head id ty by) (M pattern) (M scrutinee) (forms.alone items q around (M
      consequent) to) (forms.alone items q around (M otherwise) to) (DestKey to) (nodes_of pattern) (nodes_of
      scrutinee) ((node id at ty by (tree.IfLet pattern scrutinee consequent (present otherwise))) ∷ nodes_of
      pattern ++ nodes_of scrutinee ++ nodes_of consequent ++ nodes_of otherwise) fs (rises_apart (nodes_of
      pattern) (nodes_of scrutinee) r2) pp.within psc.within (turns.pattern_tests items needs q clear keeps over
      waits first fuel pattern (place_of (M scrutinee) around)) (turns.bound_distinct items needs q clear keeps
      over waits first fuel pattern (place_of (M scrutinee) around) (rises_left (nodes_of pattern) (nodes_of
      scrutinee) r2)) (turns.bound_in items needs q clear keeps over waits first fuel pattern (place_of (M
      scrutinee) around)) S v t (λ U u k j. rules.more_free items needs q clear keeps over waits first around
      (DestKey to) (DestKey to) (nodes_of consequent) ((node id at ty by (tree.IfLet pattern scrutinee consequent
      (present otherwise))) ∷ nodes_of pattern ++ nodes_of scrutinee ++ nodes_of consequent ++ nodes_of otherwise)
      U u (Extends U) (OnTop S) (forms.alone items q around (M consequent) to U u) (choices.alone_free items needs
      q clear keeps over waits first (K (with_names (pattern_rules.entries_of pattern) x)) around (M consequent) to
      (nodes_of consequent) fb U u (record {
        ok = turns.named_around items needs q clear keeps over waits first
            fuel pattern x (typing.matched_in false (K x) scrutinee) (ty_of scrutinee) h.1.0.1 around U (place_of (M
            scrutinee) around) (around_top items (K x) around S U k.0 t.ok) k.1;
        free = λ z i. j z (t.free z (pb.within z
            i)) (λ y. rises_apart (nodes_of pattern ++ nodes_of scrutinee) (nodes_of consequent) r3 z y i);
        jumps = λ z
            i. let y = t.jumps z i in (j z y.0 (λ m. y.1 (p2.within z m)), λ m. y.1 (pb.within z m));
        twos = t.twos;
      })
      (rules.dest_after items needs q clear keeps over waits first id (M consequent).head.id (nodes_of pattern ++
      nodes_of scrutinee) (nodes_of consequent) ((node id at ty by (tree.IfLet pattern scrutinee consequent
      (present otherwise))) ∷ nodes_of pattern ++ nodes_of scrutinee ++ nodes_of consequent ++ nodes_of otherwise)
      Nothing to S U v u d p2 pb (λ z i. absurd i) (λ z fr i m. j z fr i))) pb.within (λ z i. inr i) (λ exit Z e.
      top_then S U Z k.0 e)) (λ T w e j. kinds.branch_free items needs q clear keeps over waits first fuel (K x)
      around (M otherwise) to id (nodes_of scrutinee) (nodes_of otherwise) ((node id at ty by (tree.IfLet pattern
      scrutinee consequent (present otherwise))) ∷ nodes_of pattern ++ nodes_of scrutinee ++ nodes_of consequent ++
      nodes_of otherwise) fo psc po (λ z i k. rises_apart (nodes_of pattern ++ nodes_of scrutinee ++ nodes_of
      consequent) (nodes_of otherwise) rs z (numbered_left (nodes_of pattern ++ nodes_of scrutinee) (nodes_of
      consequent) z (numbered_right (nodes_of pattern) (nodes_of scrutinee) z i)) k) S v t d T w e j))
