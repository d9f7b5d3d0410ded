-- What is free stays free: operators, places and an assignment, where it does in their parts.
use Rattle.std.proofs.Common.{◌≡◌, ◌⊎◌, inl, inr, ℕ, not, Bool, true, false, List, [], ◌∷◌, ◌++◌, length, Option, refl, ap, sym, ◌∙◌, subst}
use Rattle.std.proofs.lemmas.Bool.{false≢true}
use Rattle.mir_base.specs.declared.operator.Cmp.{Cmp}
use Rattle.mir_base.specs.declared.operator.Math.{Math}
use Rattle.mir_base.specs.declared.place_in_text.Pos.{Pos}
use Rattle.mir_ty.specs.declared.ty.TyId.{TyId}
use Rattle.mir_ty.specs.Facts.{needs_drop}
use Rattle.mir_ty.specs.ItemTable.{ItemTable}
use Rattle.store_model.specs.Effects as effects
use Rattle.store_model.specs.Effects.{EffectSite, Action, Halt, Effects}
use Rattle.typed_tree.specs.declared.node.Use.{Use}
use Rattle.typed_tree.specs.Nodes.{number_of, nodes_of, nodes_in, nodes_among}
use Rattle.typed_tree.specs.Tree as tree
use Rattle.typed_tree.specs.Tree.{Node, node, Form, Nodes, MaybeNode}
use Rattle.src_meaning.specs.Evaluation as evaluation
use Rattle.src_meaning.specs.Evaluation.{meaning, meaning_of, meanings, meaning_if_any}
use Rattle.src_meaning.specs.Forms as forms
use Rattle.src_meaning.specs.Forms.{Destination, Into, Coerced, coerced, LoopsAndGuards, Meaning, moved}
use Rattle.src_meaning.specs.Scopes.{Scopes, Exit}
use Rattle.src_meaning.specs.Shape.{head, shape_of}
use Rattle.well_typed.specs.Claim.{Holds, fact, both}
use Rattle.well_typed.specs.Nodes as typing
use Rattle.well_typed.specs.Places.{Context, ty_of, Wanted, Passed}
use Rattle.well_typed.specs.Types as types
use Rattle.soundness_values.proofs.Leaving.{Shown}
use Rattle.soundness_cells.proofs.PassCells.{rising}
use Rattle.soundness_cells.proofs.PassClear.{KeepsClear}
use Rattle.soundness_cells.proofs.PassFacts as facts
use Rattle.soundness_cells.proofs.PassFacts.{Standpoint, context}
use Rattle.soundness_cells.proofs.PassFree.{FindsNothing, DestKey}
use Rattle.soundness_cells.proofs.PassFreeAgain as again
use Rattle.soundness_cells.proofs.PassFreeKinds as kinds
use Rattle.soundness_cells.proofs.PassFreeOperands as operands
use Rattle.soundness_cells.proofs.PassFreeRules as rules
use Rattle.soundness_values.proofs.PassHeads.{type_is, number_is}
use Rattle.soundness_cells.proofs.PassNodes as nodes
use Rattle.soundness_cells.proofs.PassNumbers.{Numbered, Rises}
use Rattle.soundness_values.proofs.PlaceTypes.{some_holds, same_type}

module _ {V : Type 0} (items : ItemTable) (needs : ℕ → Bool) (q : Effects V) (clear : V → ℕ → Type 0)
    (keeps : KeepsClear q needs clear) (over : Halt → V → Type 0) (waits : EffectSite → V → Type 0)
    (first : FindsNothing q over needs clear waits) (fuel : ℕ) where
  abbrev pub Post : LoopsAndGuards → (ℕ → Type 0) → List Node → Scopes → V → (Exit → Scopes → Type 0) → Exit → Scopes →
      V → Type 0
  Post = rules.Post items needs q clear keeps over waits first

  abbrev Extends : Scopes → Exit → Scopes → Type 0
  Extends = rules.Extends items needs q clear keeps over waits first

  abbrev OnTop : Scopes → Exit → Scopes → Type 0
  OnTop = rules.OnTop items needs q clear keeps over waits first

  abbrev Ready : Context → LoopsAndGuards → List Node → Scopes → V → Type 0
  Ready = rules.Ready items needs q clear keeps over waits first

  abbrev DestOk : ℕ → List Node → Destination → Scopes → V → Type 0
  DestOk = rules.DestOk items needs q clear keeps over waits first

  abbrev FreeM : Context → Meaning V → List Node → Type 0
  FreeM = rules.FreeM items needs q clear keeps over waits first

  abbrev Part : ℕ → List Node → List Node → Type 0
  Part = rules.Part items needs q clear keeps over waits first

  abbrev AllFree : Context → List (Meaning V) → List Node → Type 0
  AllFree = operands.AllFree items needs q clear keeps over waits first

  abbrev ToSite : (EffectSite → Action) → Type 0
  ToSite = rules.ToSite items needs q clear keeps over waits first

  abbrev Good : List Node → Type 0
  Good = nodes.Good items needs q clear keeps fuel

  abbrev K : Standpoint → Context
  K = context items

  abbrev M : Node → Meaning V
  M = meaning items q fuel

  abbrev Ms : Nodes → List (Meaning V)
  Ms = meanings items q fuel

  abbrev Mi : MaybeNode → Option (Meaning V)
  Mi = meaning_if_any items q fuel

  abbrev Of : Form → ℕ → TyId → Option Use → Meaning V
  Of form id ty by = meaning_of items q fuel form (head id ty by) (shape_of items form (head id ty by))

  -- a type that needs no dropping
  good_own : (n : Node) → Good (nodes_of n) → needs_drop items (ty_of n) ≡ false → needs (number_of n) ≡ false
  good_own (node id at ty by form) g e = g.0 e

  assigned : (target value : Node) (x : Standpoint) → Holds (typing.typed (K x) (Wanted (ty_of target)) value) →
      Good (nodes_of value) → needs_drop items (M target).head.ty ≡ false → needs (M value).head.id ≡ false
  assigned target value x h g e = ap needs (number_is items q fuel value) ∙ good_own value g
      (by (nodes.either items needs q clear keeps fuel (types.is_same (ty_of value) (ty_of target))
      (types.is_never items (ty_of value))
      (facts.wanted_fits items needs q clear keeps fuel (K x) (ty_of target) value h)))
    where
      by : (types.is_same (ty_of value) (ty_of target) ≡ true) ⊎ (types.is_never items (ty_of value) ≡ true) →
          needs_drop items (ty_of value) ≡ false
      by (inl same) = ap (needs_drop items) (same_type (ty_of value) (ty_of target) same)
          ∙ sym (ap (needs_drop items) (type_is items q fuel target)) ∙ e
      by (inr n) = nodes.never_none items needs q clear keeps fuel (ty_of value) n

  pub good_left : (a b : List Node) → Good (a ++ b) → Good a
  good_left = nodes.good_left items needs q clear keeps fuel

  pub good_right : (a b : List Node) → Good (a ++ b) → Good b
  good_right = nodes.good_right items needs q clear keeps fuel

  pub inside_rises : (n : Node) (os : List Node) → Rises (n ∷ os) → Rises os
  inside_rises n os r = (rising n os r).1

  abbrev unit_action : EffectSite → Action
  unit_action site = effects.Put site effects.UnitValue

  pub first_of : (tys : List TyId) (receiver : Node) (ns : Nodes) (x : Standpoint) →
      Holds (typing.first_and_rest (λ t. typing.typed (K x) (Passed t) receiver) (λ ts. typing.arguments (K x) ts ns)
      tys) →
      ((ty : TyId) → Holds (typing.typed (K x) (Passed ty) receiver) → FreeM (K x) (M receiver) (nodes_of receiver)) →
      ((tys : List TyId) → Holds (typing.arguments (K x) tys ns) → AllFree (K x) (Ms ns) (nodes_among ns)) →
      AllFree (K x) (M receiver ∷ Ms ns) (nodes_of receiver ++ nodes_among ns)
  first_of [] receiver ns x h f g = absurd (false≢true h)
  first_of (ty ∷ tys) receiver ns x h f g =
      (nodes_of receiver, (nodes_among ns, (refl, (f ty h.0, g tys h.1))))

  coerced_free : (c : Context) (around : LoopsAndGuards) (m : Meaning V) (trait_no id : ℕ) (os ns : List Node) →
      FreeM c m os → Part id os ns → (own : Bool) (to : Destination) (S : Scopes) (v : V) → Ready c around ns S v →
      DestOk id ns to S v → Shown over (Post around (DestKey to) ns S v (Extends S))
      (m.evaluate around own (coerced m.head.id trait_no to) S v)
  coerced_free c around m trait_no id os ns f p own (Into t) S v r d = into t t (λ z e. e) r d
    where
      into : (t u : ℕ) → ((z : ℕ) → u ≡ z → DestKey (Into t) z) → Ready c around ns S v → DestOk id ns (Into t) S v →
          Shown over (Post around (DestKey (Into t)) ns S v (Extends S))
          (m.evaluate around own (Coerced m.head.id trait_no u) S v)
      into t u f_z r d = let ready = rules.ready_part items needs q clear keeps over waits first c around os ns S v
          p.within r in
          rules.more_free items needs q clear keeps over waits first around (DestKey (Coerced m.head.id trait_no u))
          (DestKey (Into t)) os ns S v (Extends S)
          (Extends S) (m.evaluate around own (Coerced m.head.id trait_no u) S v)
          (f.evaluates around own (Coerced m.head.id trait_no u) S v ready (record {
            free = λ z k. free z k;
            apart = λ z k. apart z k;
            two = λ e. rules.dest_apart items needs q clear keeps over waits first id os ns (Into t) S v d p u (f_z u
                refl) (subst (Numbered os) e f.own);
          })) p.within (λ z k. filled z k) (λ exit T e. e)
        where
          free : (z : ℕ) → (m.head.id ≡ z) ⊎ (u ≡ z) → rules.Free items needs q clear keeps over waits first v S z
          free z (inl e) = subst (rules.Free items needs q clear keeps over waits first v S) e (r.free m.head.id
              (p.within m.head.id f.own))
          free z (inr e) = d.free z (f_z z e)

          apart : (z : ℕ) → (m.head.id ≡ z) ⊎ (u ≡ z) → (m.head.id ≡ z) ⊎ (Numbered os z → ⊥)
          apart z (inl e) = inl e
          apart z (inr e) = inr (λ n. rules.dest_apart items needs q clear keeps over waits first id os ns (Into t) S v
              d p z (f_z z e) n)

          filled : (z : ℕ) → (m.head.id ≡ z) ⊎ (u ≡ z) → Numbered ns z ⊎ DestKey (Into t) z
          filled z (inl e) = inl (p.within z (subst (Numbered os) e f.own))
          filled z (inr e) = inr (f_z z e)
  coerced_free c around m trait_no id os ns f p own (Coerced key other t) S v r d =
      let ready = rules.ready_part items needs q clear keeps over waits first c around os ns S v p.within r in
      rules.more_free items needs q clear keeps over waits first around (DestKey (Coerced m.head.id trait_no t))
      (DestKey (Coerced key other t)) os ns S v (Extends S)
      (Extends S) (m.evaluate around own (Coerced m.head.id trait_no t) S v)
      (f.evaluates around own (Coerced m.head.id trait_no t) S v ready (record {
        free = λ z k. free z k;
        apart = λ z k. apart z k;
        two = λ e. rules.dest_apart items needs q clear keeps over waits first id os ns (Coerced key other t) S v d p t
            (inr refl) (subst (Numbered os) e f.own);
      })) p.within (λ z k. filled z k) (λ exit T e. e)
    where
      free : (z : ℕ) → (m.head.id ≡ z) ⊎ (t ≡ z) → rules.Free items needs q clear keeps over waits first v S z
      free z (inl e) = subst (rules.Free items needs q clear keeps over waits first v S) e (r.free m.head.id (p.within
          m.head.id f.own))
      free z (inr e) = d.free z (inr e)

      apart : (z : ℕ) → (m.head.id ≡ z) ⊎ (t ≡ z) → (m.head.id ≡ z) ⊎ (Numbered os z → ⊥)
      apart z (inl e) = inl e
      apart z (inr e) = inr (λ n. rules.dest_apart items needs q clear keeps over waits first id os ns (Coerced key
          other t) S v d p z (inr e) n)

      filled : (z : ℕ) → (m.head.id ≡ z) ⊎ (t ≡ z) → Numbered ns z ⊎ DestKey (Coerced key other t) z
      filled z (inl e) = inl (p.within z (subst (Numbered os) e f.own))
      filled z (inr e) = inr (inr e)

  -- ---- operators
  pub not_free : (x : Standpoint) (operand : Node) (id : ℕ) (at : Pos) (ty : TyId) (by : Option Use) → Holds (typing.row (K
      x) id ty (tree.Not operand)) → Good (nodes_in (tree.Not operand)) → Rises (node id at ty by (tree.Not operand) ∷
      nodes_in (tree.Not operand)) → FreeM (K x) (M operand) (nodes_of operand) → FreeM (K x) (Of (tree.Not operand) id
      ty by) (node id at ty by (tree.Not operand) ∷ nodes_in (tree.Not operand))
  not_free x operand id at ty by h g r fo =
      kinds.operands_value items needs q clear keeps over waits first fuel (K x) (head id ty by) (shape_of items
      (tree.Not operand) (head id ty by)) (M operand ∷ []) (λ site. effects.Not site (moved id (M
      operand).head.id)) (nodes_of operand) ((node id at ty by (tree.Not operand)) ∷ nodes_of operand) (inl refl)
      (kinds.part_of items needs q clear keeps over waits first fuel (node id at ty by (tree.Not operand))
      (nodes_of operand) r) (inside_rises (node id at ty by (tree.Not operand)) (nodes_of operand) r)
      (kinds.one_free items needs q clear keeps over waits first fuel (K x) (M operand) (nodes_of operand) fo) (λ
      site key e. e)

  pub negate_free : (x : Standpoint) (operand : Node) (id : ℕ) (at : Pos) (ty : TyId) (by : Option Use) → Holds (typing.row
      (K x) id ty (tree.Negate operand)) → Good (nodes_in (tree.Negate operand)) → Rises (node id at ty by (tree.Negate
      operand) ∷ nodes_in (tree.Negate operand)) → FreeM (K x) (M operand) (nodes_of operand) → FreeM (K x) (Of
      (tree.Negate operand) id ty by) (node id at ty by (tree.Negate operand) ∷ nodes_in (tree.Negate operand))
  negate_free x operand id at ty by h g r fo =
      kinds.operands_value items needs q clear keeps over waits first fuel (K x) (head id ty by) (shape_of items
      (tree.Negate operand) (head id ty by)) (M operand ∷ []) (λ site. effects.Negate site (moved id (M
      operand).head.id)) (nodes_of operand) ((node id at ty by (tree.Negate operand)) ∷ nodes_of operand) (inl
      refl) (kinds.part_of items needs q clear keeps over waits first fuel (node id at ty by (tree.Negate operand))
      (nodes_of operand) r) (inside_rises (node id at ty by (tree.Negate operand)) (nodes_of operand) r)
      (kinds.one_free items needs q clear keeps over waits first fuel (K x) (M operand) (nodes_of operand) fo) (λ
      site key e. e)

  pub arithmetic_free : (x : Standpoint) (operator : Math) (left : Node) (right : Node) (id : ℕ) (at : Pos) (ty : TyId) (by
      : Option Use) → Holds (typing.row (K x) id ty (tree.Arithmetic operator left right)) → Good (nodes_in
      (tree.Arithmetic operator left right)) → Rises (node id at ty by (tree.Arithmetic operator left right) ∷ nodes_in
      (tree.Arithmetic operator left right)) → FreeM (K x) (M left) (nodes_of left) → FreeM (K x) (M right) (nodes_of
      right) → FreeM (K x) (Of (tree.Arithmetic operator left right) id ty by) (node id at ty by (tree.Arithmetic
      operator left right) ∷ nodes_in (tree.Arithmetic operator left right))
  arithmetic_free x operator left right id at ty by h g r fl fr =
      kinds.operands_value items needs q clear keeps over waits first fuel (K x) (head id ty by) (shape_of items
      (tree.Arithmetic operator left right) (head id ty by)) (M left ∷ M right ∷ []) (λ site. effects.Compute site
      operator (moved id (M left).head.id) (moved id (M right).head.id)) (nodes_of left ++ nodes_of right) ((node
      id at ty by (tree.Arithmetic operator left right)) ∷ nodes_of left ++ nodes_of right) (inl refl)
      (kinds.part_of items needs q clear keeps over waits first fuel (node id at ty by (tree.Arithmetic operator
      left right)) (nodes_of left ++ nodes_of right) r) (inside_rises (node id at ty by (tree.Arithmetic operator
      left right)) (nodes_of left ++ nodes_of right) r) (kinds.two_free items needs q clear keeps over waits first
      fuel (K x) (M left) (M right) (nodes_of left) (nodes_of right) fl fr) (λ site key e. e)

  pub comparison_free : (x : Standpoint) (operator : Cmp) (left : Node) (right : Node) (id : ℕ) (at : Pos) (ty : TyId) (by
      : Option Use) → Holds (typing.row (K x) id ty (tree.Comparison operator left right)) → Good (nodes_in
      (tree.Comparison operator left right)) → Rises (node id at ty by (tree.Comparison operator left right) ∷ nodes_in
      (tree.Comparison operator left right)) → FreeM (K x) (M left) (nodes_of left) → FreeM (K x) (M right) (nodes_of
      right) → FreeM (K x) (Of (tree.Comparison operator left right) id ty by) (node id at ty by (tree.Comparison
      operator left right) ∷ nodes_in (tree.Comparison operator left right))
  comparison_free x operator left right id at ty by h g r fl fr =
      kinds.operands_value items needs q clear keeps over waits first fuel (K x) (head id ty by) (shape_of items
      (tree.Comparison operator left right) (head id ty by)) (M left ∷ M right ∷ []) (λ site. effects.Compare site
      operator (moved id (M left).head.id) (moved id (M right).head.id)) (nodes_of left ++ nodes_of right) ((node
      id at ty by (tree.Comparison operator left right)) ∷ nodes_of left ++ nodes_of right) (inl refl)
      (kinds.part_of items needs q clear keeps over waits first fuel (node id at ty by (tree.Comparison operator
      left right)) (nodes_of left ++ nodes_of right) r) (inside_rises (node id at ty by (tree.Comparison operator
      left right)) (nodes_of left ++ nodes_of right) r) (kinds.two_free items needs q clear keeps over waits first
      fuel (K x) (M left) (M right) (nodes_of left) (nodes_of right) fl fr) (λ site key e. e)

  pub new_box_free : (x : Standpoint) (content : Node) (id : ℕ) (at : Pos) (ty : TyId) (by : Option Use) → Holds
      (typing.row (K x) id ty (tree.NewBox content)) → Good (nodes_in (tree.NewBox content)) → Rises (node id at ty by
      (tree.NewBox content) ∷ nodes_in (tree.NewBox content)) → FreeM (K x) (M content) (nodes_of content) → FreeM (K
      x) (Of (tree.NewBox content) id ty by) (node id at ty by (tree.NewBox content) ∷ nodes_in (tree.NewBox content))
  new_box_free x content id at ty by h g r fc =
      let t = some_holds (types.boxed_of items ty) (λ inside. both (typing.typed (K x) (Wanted inside) content) (fact
      (not (types.is_dyn items inside)))) h in
      kinds.operands_value items needs q clear keeps over waits first fuel (K x) (head id ty by) (shape_of items
      (tree.NewBox content) (head id ty by)) (M content ∷ []) (λ site. effects.NewBox site (moved id (M
      content).head.id)) (nodes_of content) ((node id at ty by (tree.NewBox content)) ∷ nodes_of content) (inl
      refl) (kinds.part_of items needs q clear keeps over waits first fuel (node id at ty by (tree.NewBox content))
      (nodes_of content) r) (inside_rises (node id at ty by (tree.NewBox content)) (nodes_of content) r)
      (kinds.one_free items needs q clear keeps over waits first fuel (K x) (M content) (nodes_of content) fc) (λ
      site key e. e)

  pub print_free : (x : Standpoint) (operand : Node) (id : ℕ) (at : Pos) (ty : TyId) (by : Option Use) → Holds (typing.row
      (K x) id ty (tree.Print operand)) → Good (nodes_in (tree.Print operand)) → Rises (node id at ty by (tree.Print
      operand) ∷ nodes_in (tree.Print operand)) → FreeM (K x) (M operand) (nodes_of operand) → FreeM (K x) (Of
      (tree.Print operand) id ty by) (node id at ty by (tree.Print operand) ∷ nodes_in (tree.Print operand))
  print_free x operand id at ty by h g r fo =
      let rs = inside_rises (node id at ty by (tree.Print operand)) (nodes_of operand) r in
      kinds.unit_value items needs q clear keeps over waits first fuel (K x) (head id ty by) (shape_of items
      (tree.Print operand) (head id ty by)) (M operand) effects.Print (nodes_of operand) ((node id at ty by
      (tree.Print operand)) ∷ nodes_of operand) (inl refl) (kinds.part_of items needs q clear keeps over waits
      first fuel (node id at ty by (tree.Print operand)) (nodes_of operand) r) fo rs (λ o. refl)

  pub forget_free : (x : Standpoint) (operand : Node) (id : ℕ) (at : Pos) (ty : TyId) (by : Option Use) → Holds (typing.row
      (K x) id ty (tree.Forget operand)) → Good (nodes_in (tree.Forget operand)) → Rises (node id at ty by (tree.Forget
      operand) ∷ nodes_in (tree.Forget operand)) → FreeM (K x) (M operand) (nodes_of operand) → FreeM (K x) (Of
      (tree.Forget operand) id ty by) (node id at ty by (tree.Forget operand) ∷ nodes_in (tree.Forget operand))
  forget_free x operand id at ty by h g r fo =
      let rs = inside_rises (node id at ty by (tree.Forget operand)) (nodes_of operand) r in
      kinds.unit_value items needs q clear keeps over waits first fuel (K x) (head id ty by) (shape_of items
      (tree.Forget operand) (head id ty by)) (M operand) effects.Forget (nodes_of operand) ((node id at ty by
      (tree.Forget operand)) ∷ nodes_of operand) (inl refl) (kinds.part_of items needs q clear keeps over waits
      first fuel (node id at ty by (tree.Forget operand)) (nodes_of operand) r) fo rs (λ o. refl)

  pub drop_value_free : (x : Standpoint) (operand : Node) (id : ℕ) (at : Pos) (ty : TyId) (by : Option Use) → Holds
      (typing.row (K x) id ty (tree.DropValue operand)) → Good (nodes_in (tree.DropValue operand)) → Rises (node id at
      ty by (tree.DropValue operand) ∷ nodes_in (tree.DropValue operand)) → FreeM (K x) (M operand) (nodes_of operand)
      → FreeM (K x) (Of (tree.DropValue operand) id ty by) (node id at ty by (tree.DropValue operand) ∷ nodes_in
      (tree.DropValue operand))
  drop_value_free x operand id at ty by h g r fo =
      let rs = inside_rises (node id at ty by (tree.DropValue operand)) (nodes_of operand) r in
      let p = (kinds.part_of items needs q clear keeps over waits first fuel (node id at ty by (tree.DropValue
      operand)) (nodes_of operand) r) in
      kinds.value_free items needs q clear keeps over waits first fuel (K x) (head id ty by) (shape_of items
      (tree.DropValue operand) (head id ty by)) ((node id at ty by (tree.DropValue operand)) ∷ nodes_of operand)
      (evaluation.drops items q fuel (head id ty by) (M operand)) (inl refl) (λ around own to S v t d.
      operands.dropping_free items needs q clear keeps over waits first (K x) around own (head id ty by) (M
      operand) (forms.put_unit items q (head id ty by) to) (DestKey to) (nodes_of operand) ((node id at ty by
      (tree.DropValue operand)) ∷ nodes_of operand) fo p.within S v t (operands.delivers_top items needs q clear
      keeps over waits first around (head id ty by) unit_action to (nodes_of operand) ((node id at ty by
      (tree.DropValue operand)) ∷ nodes_of operand) S v (λ site key e. e) d p))

  pub unsize_free : (x : Standpoint) (trait_no : ℕ) (operand : Node) (id : ℕ) (at : Pos) (ty : TyId) (by : Option Use) →
      Holds (typing.row (K x) id ty (tree.Unsize trait_no operand)) → Good (nodes_in (tree.Unsize trait_no operand)) →
      Rises (node id at ty by (tree.Unsize trait_no operand) ∷ nodes_in (tree.Unsize trait_no operand)) → FreeM (K x)
      (M operand) (nodes_of operand) → FreeM (K x) (Of (tree.Unsize trait_no operand) id ty by) (node id at ty by
      (tree.Unsize trait_no operand) ∷ nodes_in (tree.Unsize trait_no operand))
  unsize_free x trait_no operand id at ty by h g r fo =
      let rs = inside_rises (node id at ty by (tree.Unsize trait_no operand)) (nodes_of operand) r in
      kinds.value_free items needs q clear keeps over waits first fuel (K x) (head id ty by) (shape_of items
      (tree.Unsize trait_no operand) (head id ty by)) ((node id at ty by (tree.Unsize trait_no operand)) ∷ nodes_of
      operand) (evaluation.coerce items q fuel (head id ty by) trait_no (M operand)) (inl refl) (λ around own to S
      v t d. coerced_free (K x) around (M operand) trait_no id (nodes_of operand) ((node id at ty by (tree.Unsize
      trait_no operand)) ∷ nodes_of operand) fo (kinds.part_of items needs q clear keeps over waits first fuel
      (node id at ty by (tree.Unsize trait_no operand)) (nodes_of operand) r) own to S v t d)

  -- ---- places
  pub field_free : (x : Standpoint) (base : Node) (part : ℕ) (id : ℕ) (at : Pos) (ty : TyId) (by : Option Use) → Holds
      (typing.row (K x) id ty (tree.Field base part)) → Good (nodes_in (tree.Field base part)) → Rises (node id at ty
      by (tree.Field base part) ∷ nodes_in (tree.Field base part)) → FreeM (K x) (M base) (nodes_of base) → FreeM (K x)
      (Of (tree.Field base part) id ty by) (node id at ty by (tree.Field base part) ∷ nodes_in (tree.Field base part))
  field_free x base part id at ty by h g r fb =
      kinds.place_free items needs q clear keeps over waits first fuel (K x) (head id ty by) (shape_of items
      (tree.Field base part) (head id ty by)) (M base).reach (nodes_of base) ((node id at ty by (tree.Field base
      part)) ∷ nodes_of base) (inl refl) (kinds.part_of items needs q clear keeps over waits first fuel (node id at
      ty by (tree.Field base part)) (nodes_of base) r) fb.reaches

  pub deref_free : (x : Standpoint) (base : Node) (id : ℕ) (at : Pos) (ty : TyId) (by : Option Use) → Holds (typing.row (K
      x) id ty (tree.Deref base)) → Good (nodes_in (tree.Deref base)) → Rises (node id at ty by (tree.Deref base) ∷
      nodes_in (tree.Deref base)) → FreeM (K x) (M base) (nodes_of base) → FreeM (K x) (Of (tree.Deref base) id ty by)
      (node id at ty by (tree.Deref base) ∷ nodes_in (tree.Deref base))
  deref_free x base id at ty by h g r fb =
      kinds.place_free items needs q clear keeps over waits first fuel (K x) (head id ty by) (shape_of items
      (tree.Deref base) (head id ty by)) (M base).reach (nodes_of base) ((node id at ty by (tree.Deref base)) ∷
      nodes_of base) (inl refl) (kinds.part_of items needs q clear keeps over waits first fuel (node id at ty by
      (tree.Deref base)) (nodes_of base) r) fb.reaches

  pub index_free : (x : Standpoint) (base : Node) (index : Node) (length : ℕ) (id : ℕ) (at : Pos) (ty : TyId) (by : Option
      Use) → Holds (typing.row (K x) id ty (tree.Index base index length)) → Good (nodes_in (tree.Index base index
      length)) → Rises (node id at ty by (tree.Index base index length) ∷ nodes_in (tree.Index base index length)) →
      FreeM (K x) (M base) (nodes_of base) → FreeM (K x) (M index) (nodes_of index) → FreeM (K x) (Of (tree.Index base
      index length) id ty by) (node id at ty by (tree.Index base index length) ∷ nodes_in (tree.Index base index
      length))
  index_free x base index length id at ty by h g r fb fi =
      let rs = inside_rises (node id at ty by (tree.Index base index length)) (nodes_of base ++ nodes_of index) r in
      kinds.place_free items needs q clear keeps over waits first fuel (K x) (head id ty by) (shape_of items
      (tree.Index base index length) (head id ty by)) (forms.reach_element items q (head id ty by) (shape_of items
      (tree.Index base index length) (head id ty by)) (M base) (M index) length) (nodes_of base ++ nodes_of index)
      ((node id at ty by (tree.Index base index length)) ∷ nodes_of base ++ nodes_of index) (inl refl)
      (kinds.part_of items needs q clear keeps over waits first fuel (node id at ty by (tree.Index base index
      length)) (nodes_of base ++ nodes_of index) r) (λ around S v t. operands.element_free items needs q clear
      keeps over waits first (K x) around (head id ty by) (shape_of items (tree.Index base index length) (head id
      ty by)) (M base) (M index) length (nodes_of base) (nodes_of index) (nodes_of base ++ nodes_of index) rs fb fi
      (λ z k. k) S v t)

  pub assign_free : (x : Standpoint) (target : Node) (value : Node) (id : ℕ) (at : Pos) (ty : TyId) (by : Option Use) →
      Holds (typing.row (K x) id ty (tree.Assign target value)) → Good (nodes_in (tree.Assign target value)) → Rises
      (node id at ty by (tree.Assign target value) ∷ nodes_in (tree.Assign target value)) → FreeM (K x) (M target)
      (nodes_of target) → FreeM (K x) (M value) (nodes_of value) → FreeM (K x) (Of (tree.Assign target value) id ty by)
      (node id at ty by (tree.Assign target value) ∷ nodes_in (tree.Assign target value))
  assign_free x target value id at ty by h g r ft fv =
      let rs = inside_rises (node id at ty by (tree.Assign target value)) (nodes_of target ++ nodes_of value) r in
      kinds.value_free items needs q clear keeps over waits first fuel (K x) (head id ty by) (shape_of items
      (tree.Assign target value) (head id ty by)) ((node id at ty by (tree.Assign target value)) ∷ nodes_of target
      ++ nodes_of value) (forms.assigning items q (head id ty by) (M target) (M value)) (inl refl) (λ around own to
      S v t d. operands.assigning_free items needs q clear keeps over waits first (K x) around own (head id ty by)
      (M target) (M value) to (nodes_of target) (nodes_of value) ((node id at ty by (tree.Assign target value)) ∷
      nodes_of target ++ nodes_of value) rs ft fv (kinds.part_of items needs q clear keeps over waits first fuel
      (node id at ty by (tree.Assign target value)) (nodes_of target ++ nodes_of value) r) (assigned target value x
      h.1.1.0 (good_right (nodes_of target) (nodes_of value) g)) (λ T ok z e. facts.stored_names items (λ key.
      false) q (again.no_clear items needs q clear keeps) (again.keeps_none items needs q clear keeps) fuel target
      x h.0 around T ok z e) S v t d)

  pub borrow_free : (x : Standpoint) (unique : Bool) (base : Node) (id : ℕ) (at : Pos) (ty : TyId) (by : Option Use) →
      Holds (typing.row (K x) id ty (tree.Borrow unique base)) → Good (nodes_in (tree.Borrow unique base)) → Rises
      (node id at ty by (tree.Borrow unique base) ∷ nodes_in (tree.Borrow unique base)) → FreeM (K x) (M base)
      (nodes_of base) → FreeM (K x) (Of (tree.Borrow unique base) id ty by) (node id at ty by (tree.Borrow unique base)
      ∷ nodes_in (tree.Borrow unique base))
  borrow_free x unique base id at ty by h g r fb =
      let rs = inside_rises (node id at ty by (tree.Borrow unique base)) (nodes_of base) r in
      kinds.value_free items needs q clear keeps over waits first fuel (K x) (head id ty by) (shape_of items
      (tree.Borrow unique base) (head id ty by)) ((node id at ty by (tree.Borrow unique base)) ∷ nodes_of base)
      (forms.borrowing items q (head id ty by) unique (M base)) (inl refl) (λ around own to S v t d.
      operands.borrowing_free items needs q clear keeps over waits first (K x) around (head id ty by) unique (M
      base) own to (nodes_of base) ((node id at ty by (tree.Borrow unique base)) ∷ nodes_of base) (kinds.part_of
      items needs q clear keeps over waits first fuel (node id at ty by (tree.Borrow unique base)) (nodes_of base)
      r) fb S v t d)
