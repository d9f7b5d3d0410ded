-- What is free stays free, by nodes by their kinds: values, places, effects, forms with operands, branches.
use Rattle.std.proofs.Common.{◌≡◌, ◌⊎◌, inl, inr, ℕ, ◌&&◌, Bool, true, false, List, [], ◌∷◌, ◌++◌, length, Option, Some, None, slice_get, refl, ap, sym, ◌∙◌, subst}
use Rattle.std.proofs.lemmas.Bool.{false≢true}
use Rattle.std.proofs.lemmas.Option.{none-some}
use Rattle.mir_base.specs.declared.place_in_text.Pos.{Pos}
use Rattle.mir_base.specs.declared.trace.Why.{Why}
use Rattle.mir_ty.specs.declared.ty.TyId.{TyId}
use Rattle.mir_ty.specs.Facts.{needs_drop}
use Rattle.mir_ty.specs.ItemTable.{ItemTable}
use Rattle.store_model.specs.Effects as effects
use Rattle.store_model.specs.Effects.{EffectSite, Operand, Action, Halt, OfTuple, OfArray, OfVariant, OfClosure, Effects, stored_by}
use Rattle.store_model.specs.Places.Place.{Place, whole_local}
use Rattle.typed_tree.specs.declared.node.Use.{Use}
use Rattle.typed_tree.specs.Nodes.{number_of, nodes_of, nodes_in, nodes_among, nodes_of_fields, nodes_if_any}
use Rattle.typed_tree.specs.Tree as tree
use Rattle.typed_tree.specs.Tree.{Node, node, Form, Nodes, no_node, a_node, Fields, no_field, a_field, MaybeNode, absent, present}
use Rattle.src_meaning.specs.Evaluation as evaluation
use Rattle.src_meaning.specs.Evaluation.{meaning, meaning_of, meanings, fields_of, meaning_if_any, values_of, in_number_order, to_own_key}
use Rattle.src_meaning.specs.Forms as forms
use Rattle.src_meaning.specs.Forms.{Destination, Into, Coerced, coerced, LoopsAndGuards, Meaning, in_loop, loop_destination, moved, all_moved, is_never, place_of, site_of}
use Rattle.src_meaning.specs.Scopes.{Scopes, with_scope, Exit, Value, Breaks, Continues, Returns, Panics, Run, At, Does, on_value}
use Rattle.src_meaning.specs.Shape.{NodeHead, head, Shape, BoundName, shape, shape_of, kind_of}
use Rattle.well_typed.specs.Claim.{Claim, Holds, fact, both, some}
use Rattle.well_typed.specs.Nodes as typing
use Rattle.well_typed.specs.Patterns as pattern_rules
use Rattle.well_typed.specs.Patterns.{Matched}
use Rattle.well_typed.specs.Places.{LoopAround, Context, loop_with, ty_of, Standing, Taken, Wanted, Passed, Base, Used, Stored, borrow_by, in_guard}
use Rattle.well_typed.specs.Types as types
use Rattle.soundness_values.proofs.Leaving.{Shown, ShownOut, shown_more, Among}
use Rattle.soundness_cells.proofs.PassAround as named
use Rattle.soundness_cells.proofs.PassCells.{rising}
use Rattle.soundness_cells.proofs.PassClear.{KeepsClear, any, Nothing, StoredAt}
use Rattle.soundness_cells.proofs.PassFacts as facts
use Rattle.soundness_cells.proofs.PassFacts.{Standpoint, context, with_names, in_a_loop, behind}
use Rattle.soundness_cells.proofs.PassFree.{Always, FindsNothing, DestKey, Ext, Top, Deep, ext_same, ext_then, top_then, AroundOk, around_ext, around_top}
use Rattle.soundness_cells.proofs.PassFreeAgain as again
use Rattle.soundness_cells.proofs.PassFreeArms as arms
use Rattle.soundness_cells.proofs.PassFreeChoices as choices
use Rattle.soundness_cells.proofs.PassFreeChoices.{TestsKey, BoundKey, DistinctNames}
use Rattle.soundness_cells.proofs.PassFreeLoops as loops
use Rattle.soundness_cells.proofs.PassFreeOperands as operands
use Rattle.soundness_cells.proofs.PassFreePatterns.{NamesOf, names_of_node, names_in, names_distinct, tests_of_node}
use Rattle.soundness_cells.proofs.PassFreeRules as rules
use Rattle.soundness_cells.proofs.PassFreeStatements as statements
use Rattle.soundness_values.proofs.PassHeads.{type_is, number_is, shape_is}
use Rattle.soundness_cells.proofs.PassNodes as nodes
use Rattle.soundness_cells.proofs.PassNumbers.{Numbered, numbered_left, numbered_right, Rises, first_apart, rises_left, rises_right, rises_apart, own_number}
use Rattle.soundness_cells.proofs.PassScopes.{entries_of}
use Rattle.soundness_values.proofs.PlaceTypes.{some_holds}

module _ {V : Type 0} (items : ItemTable) (needs : ℕ → Bool) (q : Effects V) (clear : V → ℕ → Type 0)
    (keeps : KeepsClear q needs clear) (over : Halt → V → Type 0) (waits : EffectSite → V → Type 0)
    (first : FindsNothing q over needs clear waits) (fuel : ℕ) where
  abbrev Post : LoopsAndGuards → (ℕ → Type 0) → List Node → Scopes → V → (Exit → Scopes → Type 0) → Exit → Scopes →
      V → Type 0
  Post = rules.Post items needs q clear keeps over waits first

  abbrev Extends : Scopes → Exit → Scopes → Type 0
  Extends = rules.Extends items needs q clear keeps over waits first

  abbrev OnTop : Scopes → Exit → Scopes → Type 0
  OnTop = rules.OnTop items needs q clear keeps over waits first

  abbrev Ready : Context → LoopsAndGuards → List Node → Scopes → V → Type 0
  Ready = rules.Ready items needs q clear keeps over waits first

  abbrev DestOk : ℕ → List Node → Destination → Scopes → V → Type 0
  DestOk = rules.DestOk items needs q clear keeps over waits first

  abbrev FreeM : Context → Meaning V → List Node → Type 0
  FreeM = rules.FreeM items needs q clear keeps over waits first

  abbrev Part : ℕ → List Node → List Node → Type 0
  Part = rules.Part items needs q clear keeps over waits first

  abbrev AllFree : Context → List (Meaning V) → List Node → Type 0
  AllFree = operands.AllFree items needs q clear keeps over waits first

  abbrev ToSite : (EffectSite → Action) → Type 0
  ToSite = rules.ToSite items needs q clear keeps over waits first

  abbrev Good : List Node → Type 0
  Good = nodes.Good items needs q clear keeps fuel

  abbrev K : Standpoint → Context
  K = context items

  abbrev M : Node → Meaning V
  M = meaning items q fuel

  abbrev Ms : Nodes → List (Meaning V)
  Ms = meanings items q fuel

  abbrev Mi : MaybeNode → Option (Meaning V)
  Mi = meaning_if_any items q fuel

  abbrev Of : Form → ℕ → TyId → Option Use → Meaning V
  Of form id ty by = meaning_of items q fuel form (head id ty by) (shape_of items form (head id ty by))

  -- ---- nodes by their kinds

  abbrev pub Evaluates : Context → NodeHead → List Node → (LoopsAndGuards → Bool → Destination → Does V) → Type 0
  Evaluates c h ns evaluate = (around : LoopsAndGuards) (own : Bool) (to : Destination) (S : Scopes) (v : V) →
      Ready c around ns S v → DestOk h.id ns to S v →
      Shown over (Post around (DestKey to) ns S v (Extends S)) (evaluate around own to S v)

  -- what is made by a node of type `!` is made in its own cell
  pub made_free : (c : Context) (h : NodeHead) (ns : List Node) (evaluate : LoopsAndGuards → Bool → Destination → Does
      V) →
      Numbered ns h.id → Evaluates c h ns evaluate → Evaluates c h ns (evaluation.made_in items q fuel h evaluate)
  made_free c h ns evaluate own f around o to S v r d = by (is_never items h.ty)
    where
      by : (b : Bool) → Shown over (Post around (DestKey to) ns S v (Extends S))
          (evaluate around o (to_own_key b h.id to) S v)
      by true = rules.more_free items needs q clear keeps over waits first around (DestKey (Into h.id)) (DestKey to) ns
          ns S v (Extends S) (Extends S)
          (evaluate around o (Into h.id) S v) (f around o (Into h.id) S v r (record {
            free = λ z e. subst (rules.Free items needs q clear keeps over waits first v S) e (r.free h.id own);
            apart = λ z e. inl e;
            two = tt;
          })) (λ z n. n) (λ z e. inl (subst (Numbered ns) e own)) (λ exit T e. e)
      by false = f around o to S v r d

  pub value_free : (c : Context) (h : NodeHead) (s : Shape) (ns : List Node)
      (evaluate : LoopsAndGuards → Bool → Destination → Does V) → Numbered ns h.id → Evaluates c h ns evaluate →
      FreeM c (evaluation.a_value items q fuel h s evaluate) ns
  value_free c h s ns evaluate own f = record {
    own = own;
    evaluates = made_free c h ns evaluate own f;
    reaches = λ around S v r. operands.temporary_free items needs q clear keeps over waits first c around h s
        (evaluation.made_in items q fuel h evaluate) ns own
        (λ T w t d. made_free c h ns evaluate own f around false (Into h.id) T w t d) S v r;
  }

  pub place_free : (c : Context) (h : NodeHead) (s : Shape) (reach : LoopsAndGuards → Does V) (os ns : List Node) →
      Numbered ns h.id → Part h.id os ns → ((around : LoopsAndGuards) (S : Scopes) (v : V) → Ready c around os S v →
      Shown over (Post around Nothing os S v (Extends S)) (reach around S v)) →
      FreeM c (evaluation.a_place items q fuel h s reach) ns
  place_free c h s reach os ns own p f = record {
    own = own;
    evaluates = made_free c h ns (forms.use_of_place items q h s reach) own (λ around o to S v r d.
        operands.use_free items needs q clear keeps over waits first c around h s reach o to os ns p S v r d (λ T t. f
        around T v t));
    reaches = λ around S v r. rules.more_free items needs q clear keeps over waits first around Nothing Nothing os ns S
        v (Extends S) (Extends S)
        (reach around S v) (f around S v (rules.ready_part items needs q clear keeps over waits first c around os ns S
        v p.within r)) p.within
        (λ z n. absurd n) (λ exit T e. e);
  }

  pub scope_free : (c : Context) (h : NodeHead) (s : Shape) (ns : List Node)
      (does : LoopsAndGuards → Destination → Does V) → Numbered ns h.id →
      ((around : LoopsAndGuards) (to : Destination) (S : Scopes) (v : V) → Ready c around ns S v →
      DestOk h.id ns to S v → Shown over (Post around (DestKey to) ns S v (Extends S)) (does around to S v)) →
      FreeM c (evaluation.a_scope items q fuel h s does) ns
  scope_free c h s ns does own f = value_free c h s ns (evaluation.in_scope_of_its_own items q fuel h does) own
      (λ around o to S v r d. rules.own_free items needs q clear keeps over waits first around (DestKey to) ns h o
      (does around to) S v (λ T e. at around to S v r d T e))
    where
      at : (around : LoopsAndGuards) (to : Destination) (S : Scopes) (v : V) → Ready c around ns S v →
          DestOk h.id ns to S v → (T : Scopes) → (T ≡ S) ⊎ (T ≡ with_scope h.id true S) →
          Shown over (Post around (DestKey to) ns T v (Extends T)) (does around to T v)
      at around to S v r d T (inl e) = subst (λ Z. Shown over (Post around (DestKey to) ns Z v (Extends Z))
          (does around to Z v)) (sym e) (f around to S v r d)
      at around to S v r d T (inr e) = subst (λ Z. Shown over (Post around (DestKey to) ns Z v (Extends Z))
          (does around to Z v)) (sym e) (f around to (with_scope h.id true S) v
          (rules.ready_opened items needs q clear keeps over waits first c around ns h.id true S v r)
          (record { free = d.free; apart = d.apart; two = d.two }))

  pub effect_free : (c : Context) (h : NodeHead) (s : Shape) (ns : List Node) (action : EffectSite → Action) →
      Numbered ns h.id → ToSite action → FreeM c (evaluation.effect items q fuel h s action) ns
  effect_free c h s ns action own stores = scope_free c h s ns (λ around. forms.deliver items q h action) own
      (λ around to S v r d. rules.deliver_free items needs q clear keeps over waits first around ns (Extends S) h
      action to S v (ext_same S) (ext_same S) stores
      d.free d.two)

  pub operands_value : (c : Context) (h : NodeHead) (s : Shape) (ms : List (Meaning V)) (action : EffectSite → Action)
      (os ns : List Node) → Numbered ns h.id → Part h.id os ns → Rises os → AllFree c ms os → ToSite action →
      FreeM c (evaluation.on_operands items q fuel h s ms action) ns
  operands_value c h s ms action os ns own p rise f stores = value_free c h s ns
      (λ around o to. forms.acting items q h around o ms (forms.deliver items q h action to)) own
      (λ around o to S v r d. operands.acting_free items needs q clear keeps over waits first c around o h ms
      (forms.deliver items q h action to) (DestKey to) os ns
      rise f p.within S v r (operands.delivers_top items needs q clear keeps over waits first around h action to os ns
      S v stores d p))

  -- an action without an answer, and then `()`
  pub unit_value : (c : Context) (h : NodeHead) (s : Shape) (m : Meaning V) (action : Operand → Action)
      (os ns : List Node) → Numbered ns h.id → Part h.id os ns → FreeM c m os → Rises os →
      ((operand : Operand) → stored_by (action operand) ≡ None) →
      FreeM c (evaluation.gives_unit items q fuel h s m action) ns
  unit_value c h s m action os ns own p f rise none = value_free c h s ns
      (λ around o to. forms.acting items q h around o (m ∷ []) (evaluation.unit_after items q fuel h one to)) own
      (λ around o to S v r d. operands.acting_free items needs q clear keeps over waits first c around o h (m ∷ [])
      (evaluation.unit_after items q fuel h one to)
      (DestKey to) os ns rise (os, ([], (no_more os, (f, tt)))) p.within S v r
      (λ T w k g. rules.then_free items needs q clear keeps over waits first around Nothing (DestKey to) [] ns (OnTop
      S) (OnTop S) T w
      (forms.acts items q one T w) (forms.put_unit items q h to)
      (rules.acts_free items needs q clear keeps over waits first around Nothing [] (OnTop S) one T w k k
      (λ z x. absurd (subst (λ o. StoredAt o z) (none (moved h.id m.head.id)) x))) (λ z n. absurd n) (λ z n. absurd n)
      (λ exit U e x. x)
      (λ U u e j. operands.delivers_top items needs q clear keeps over waits first around h (λ site. effects.Put site
      effects.UnitValue) to os ns S v
      (λ site key x. x) d p U u e (λ z fr n. j z (g z fr n) (λ x. x) (λ x. x)))))
    where
      one : Action
      one = action (moved h.id m.head.id)

      no_more : (os : List Node) → os ≡ os ++ []
      no_more [] = refl
      no_more (n ∷ os) = ap (λ l. n ∷ l) (no_more os)

  pub part_of : (n : Node) (os : List Node) → Rises (n ∷ os) → Part (number_of n) os (n ∷ os)
  part_of n os rise = record { within = λ z k. inr k; apart = λ k. first_apart n os rise k }

  -- one of two parts
  pub part_left : (id : ℕ) (a b ns : List Node) → Part id (a ++ b) ns → Part id a ns
  part_left id a b ns p = record {
    within = λ z k. p.within z (numbered_left a b z k);
    apart = λ k. p.apart (numbered_left a b id k);
  }

  pub part_right : (id : ℕ) (a b ns : List Node) → Part id (a ++ b) ns → Part id b ns
  part_right id a b ns p = record {
    within = λ z k. p.within z (numbered_right a b z k);
    apart = λ k. p.apart (numbered_right a b id k);
  }

  pub one_free : (c : Context) (m : Meaning V) (os : List Node) → FreeM c m os → AllFree c (m ∷ []) os
  one_free c m os f = (os, ([], (no_more os, (f, tt))))
    where
      no_more : (os : List Node) → os ≡ os ++ []
      no_more [] = refl
      no_more (n ∷ os) = ap (λ l. n ∷ l) (no_more os)

  pub two_free : (c : Context) (m m' : Meaning V) (a b : List Node) → FreeM c m a → FreeM c m' b →
      AllFree c (m ∷ m' ∷ []) (a ++ b)
  two_free c m m' a b f g = (a, (b, (refl, (f, one_free c m' b g))))

  -- a branch that is made in the destination
  pub branch_free : (c : Context) (around : LoopsAndGuards) (m : Meaning V) (to : Destination) (id : ℕ)
      (done ms ns : List Node) → FreeM c m ms → Part id done ns → Part id ms ns →
      ((z : ℕ) → Numbered done z → Numbered ms z → ⊥) → (S : Scopes) (v : V) → Ready c around ns S v →
      DestOk id ns to S v → (T : Scopes) (w : V) → Ext S T →
      ((z : ℕ) → rules.Free items needs q clear keeps over waits first v S z → (Numbered done z → ⊥) → rules.Free items
      needs q clear keeps over waits first w T z) →
      Shown over (Post around (DestKey to) ns T w (Extends S)) (forms.alone items q around m to T w)
  branch_free c around m to id done ms ns f p p' apart S v r d T w e g =
      rules.more_free items needs q clear keeps over waits first around (DestKey to) (DestKey to) ms ns T w (Extends T)
      (Extends S)
      (forms.alone items q around m to T w) (choices.alone_free items needs q clear keeps over waits first c around m
      to ms f T w
      (rules.ready_after items needs q clear keeps over waits first c around done ms ns Nothing S T v w r p.within
      p'.within apart (λ z n. absurd n)
      (around_ext items c around S T e r.ok) (λ z fr n x. g z fr n))
      (rules.dest_after items needs q clear keeps over waits first id m.head.id done ms ns Nothing to S T v w d p p' (λ
      z n. absurd n) (λ z fr n x. g z fr n)))
      p'.within (λ z x. inr x) (λ exit U x. ext_then S T U e x)

  -- a truth, or `()`, that goes to the destination
  pub gives_free : (around : LoopsAndGuards) (h : NodeHead) (action : EffectSite → Action) (to : Destination)
      (done ns : List Node) → Part h.id done ns → ToSite action → (S : Scopes) (v : V) → DestOk h.id ns to S v →
      (T : Scopes) (w : V) → Ext S T →
      ((z : ℕ) → rules.Free items needs q clear keeps over waits first v S z → (Numbered done z → ⊥) → rules.Free items
      needs q clear keeps over waits first w T z) →
      Shown over (Post around (DestKey to) ns T w (Extends S)) (forms.deliver items q h action to T w)
  gives_free around h action to done ns p stores S v d T w e g = rules.deliver_free items needs q clear keeps over
      waits first around ns (Extends S) h action to T w
      e e stores (λ z x. g z (d.free z x) (rules.dest_apart items needs q clear keeps over waits first h.id done ns to
      S v d p z x)) d.two
