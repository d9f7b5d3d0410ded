-- What is free stays free: bodies, whose parameters alone stand in cells as they begin.
use Rattle.std.proofs.Common.{◌≡◌, ◌⊎◌, inl, inr, ℕ, ◌==◌, ◌&&◌, not, Bool, if◌then◌else◌, true, false, List, [], ◌∷◌, ◌++◌, length, Option, Some, None, slice_get, refl, ap, sym, ◌∙◌, subst}
use Rattle.std.proofs.lemmas.Bool.{false≢true}
use Rattle.std.proofs.lemmas.Bool.Decides.{Decides-eqb}
use Rattle.std.proofs.lemmas.Option.{none-some}
use Rattle.mir_base.specs.declared.place_in_text.Pos.{Pos}
use Rattle.mir_base.specs.declared.trace.Why.{Why}
use Rattle.mir_ty.specs.declared.ty.TyId.{TyId}
use Rattle.mir_ty.specs.Facts.{needs_drop}
use Rattle.mir_ty.specs.ItemTable.{ItemTable}
use Rattle.store_model.specs.Effects as effects
use Rattle.store_model.specs.Effects.{EffectSite, Operand, Action, Halt, OfTuple, OfArray, OfVariant, OfClosure, Effects, stored_by}
use Rattle.store_model.specs.Places.Place.{Place, whole_local}
use Rattle.typed_tree.specs.declared.node.Use.{Use}
use Rattle.typed_tree.specs.Nodes.{number_of, nodes_of, nodes_in, nodes_among, nodes_of_fields, nodes_if_any, param_nodes}
use Rattle.typed_tree.specs.Tree as tree
use Rattle.typed_tree.specs.Tree.{Node, node, Form, Nodes, no_node, a_node, Fields, no_field, a_field, MaybeNode, absent, present, ParamTree, BodyTree}
use Rattle.src_meaning.specs.Evaluation as evaluation
use Rattle.src_meaning.specs.Evaluation.{meaning, meaning_of, meanings, fields_of, meaning_if_any, values_of, in_number_order, to_own_key}
use Rattle.src_meaning.specs.Locals.OfBody.{answer_key, param_key}
use Rattle.src_meaning.specs.Programs as programs
use Rattle.src_meaning.specs.Programs.{activation, around_body, answer_scope, entire_function, params_entered}
use Rattle.src_meaning.specs.Forms as forms
use Rattle.src_meaning.specs.Forms.{Destination, Into, Coerced, coerced, LoopsAndGuards, Meaning, in_loop, loop_destination, moved, all_moved, is_never, place_of, site_of}
use Rattle.src_meaning.specs.Scopes.{Entry, Scopes, innermost, with_entry, with_scope, Exit, Value, Breaks, Continues, Returns, Panics, Run, At, Does, on_value}
use Rattle.src_meaning.specs.Shape.{NodeHead, head, Shape, BoundName, shape, shape_of, kind_of}
use Rattle.well_typed.specs.Claim.{Claim, Holds, fact, both, some}
use Rattle.well_typed.specs.Names.{are_distinct_numbers}
use Rattle.well_typed.specs.Nodes as typing
use Rattle.well_typed.specs.Patterns as pattern_rules
use Rattle.well_typed.specs.Patterns.{Matched}
use Rattle.well_typed.specs.Places.{LoopAround, Context, loop_with, form_of, ty_of, Standing, Taken, Wanted, Passed, Base, Used, Stored, borrow_by, in_guard}
use Rattle.well_typed.specs.Types as types
use Rattle.soundness_values.proofs.Leaving.{Shown, ShownOut, shown_more, Among}
use Rattle.soundness_cells.proofs.PassAround as named
use Rattle.soundness_cells.proofs.PassCells.{rising}
use Rattle.soundness_cells.proofs.PassClear.{KeepsClear, any, Nothing, StoredAt}
use Rattle.soundness_cells.proofs.PassFacts as facts
use Rattle.soundness_cells.proofs.PassFacts.{Standpoint, context, with_names, in_a_loop, behind}
use Rattle.soundness_cells.proofs.PassFree.{innermost_enters, enters, Enters, Always, FindsNothing, DestKey, Ext, Top, Deep, ext_same, ext_then, top_then, AroundOk, around_ext, around_top}
use Rattle.soundness_cells.proofs.PassForms.{node_so}
use Rattle.soundness_cells.proofs.PassFreeAgain as again
use Rattle.soundness_cells.proofs.PassFreeArms as arms
use Rattle.soundness_cells.proofs.PassFreeChoices as choices
use Rattle.soundness_cells.proofs.PassFreeChoices.{TestsKey, BoundKey, DistinctNames}
use Rattle.soundness_cells.proofs.PassFreeKinds as kinds
use Rattle.soundness_cells.proofs.PassFreeLoops as loops
use Rattle.soundness_cells.proofs.PassFreeOperands as operands
use Rattle.soundness_cells.proofs.PassFreePatterns.{NamesOf, names_of_node, names_in, names_distinct, tests_of_node, single_name, inner_name}
use Rattle.soundness_cells.proofs.PassFreeRules as rules
use Rattle.soundness_cells.proofs.PassFreeForms.{block_in}
use Rattle.soundness_cells.proofs.PassFreeStatements as statements
use Rattle.soundness_cells.proofs.PassFreeTurns as turns
use Rattle.soundness_cells.proofs.PassParams as entering
use Rattle.soundness_cells.proofs.PassParams.{NamedParam, param_keys}
use Rattle.soundness_values.proofs.PassHeads.{type_is, number_is, shape_is}
use Rattle.soundness_cells.proofs.PassNodes as nodes
use Rattle.soundness_cells.proofs.PassNumbers.{Numbered, numbered_left, numbered_right, Rises, first_apart, rises_left, rises_right, rises_apart, own_number}
use Rattle.soundness_cells.proofs.PassParts as parts
use Rattle.soundness_cells.proofs.PassPatterns as patterns
use Rattle.soundness_cells.proofs.PassScopes.{entries_of}
use Rattle.soundness_cells.proofs.PassSteps as steps
use Rattle.soundness_cells.proofs.PassBranches as branches
use Rattle.soundness_values.proofs.PlaceTypes.{some_holds, same_type}

module _ {V : Type 0} (items : ItemTable) (needs : ℕ → Bool) (q : Effects V) (clear : V → ℕ → Type 0)
    (keeps : KeepsClear q needs clear) (over : Halt → V → Type 0) (waits : EffectSite → V → Type 0)
    (first : FindsNothing q over needs clear waits) (fuel : ℕ) where
  abbrev Post : LoopsAndGuards → (ℕ → Type 0) → List Node → Scopes → V → (Exit → Scopes → Type 0) → Exit → Scopes →
      V → Type 0
  Post = rules.Post items needs q clear keeps over waits first

  abbrev Extends : Scopes → Exit → Scopes → Type 0
  Extends = rules.Extends items needs q clear keeps over waits first

  abbrev OnTop : Scopes → Exit → Scopes → Type 0
  OnTop = rules.OnTop items needs q clear keeps over waits first

  abbrev Ready : Context → LoopsAndGuards → List Node → Scopes → V → Type 0
  Ready = rules.Ready items needs q clear keeps over waits first

  abbrev DestOk : ℕ → List Node → Destination → Scopes → V → Type 0
  DestOk = rules.DestOk items needs q clear keeps over waits first

  abbrev FreeM : Context → Meaning V → List Node → Type 0
  FreeM = rules.FreeM items needs q clear keeps over waits first

  abbrev Part : ℕ → List Node → List Node → Type 0
  Part = rules.Part items needs q clear keeps over waits first

  abbrev AllFree : Context → List (Meaning V) → List Node → Type 0
  AllFree = operands.AllFree items needs q clear keeps over waits first

  abbrev ToSite : (EffectSite → Action) → Type 0
  ToSite = rules.ToSite items needs q clear keeps over waits first

  abbrev Good : List Node → Type 0
  Good = nodes.Good items needs q clear keeps fuel

  abbrev K : Standpoint → Context
  K = context items

  abbrev M : Node → Meaning V
  M = meaning items q fuel

  abbrev Ms : Nodes → List (Meaning V)
  Ms = meanings items q fuel

  abbrev Mi : MaybeNode → Option (Meaning V)
  Mi = meaning_if_any items q fuel

  abbrev Of : Form → ℕ → TyId → Option Use → Meaning V
  Of form id ty by = meaning_of items q fuel form (head id ty by) (shape_of items form (head id ty by))

  -- ---- parameters

  -- what is inside the patterns of parameters
  abbrev pub Inner : List ParamTree → ℕ → Type 0
  Inner [] z = ⊥
  Inner (param ∷ params) z = Numbered (nodes_in (form_of param.pattern)) z ⊎ Inner params z

  pub inside_node : (p : Node) (z : ℕ) → Numbered (nodes_in (form_of p)) z → Numbered (nodes_of p) z
  inside_node (node id at ty by form) z n = inr n

  pub inner_numbered : (params : List ParamTree) (z : ℕ) → Inner params z → Numbered (param_nodes params) z
  inner_numbered [] z n = n
  inner_numbered (param ∷ params) z (inl n) =
      numbered_left (nodes_of param.pattern) (param_nodes params) z (inside_node param.pattern z n)
  inner_numbered (param ∷ params) z (inr n) =
      numbered_right (nodes_of param.pattern) (param_nodes params) z (inner_numbered params z n)

  pub not_own : (p : Node) → Rises (nodes_of p) → (z : ℕ) → Numbered (nodes_in (form_of p)) z → number_of p ≡ z → ⊥
  not_own (node id at ty by form) r z n e =
      first_apart (node id at ty by form) (nodes_in form) r (subst (Numbered (nodes_in form)) (sym e) n)

  -- each parameter becomes an entry, and so do the names of its pattern
  pub params_free : (around : LoopsAndGuards) (params : List ParamTree) → Rises (param_nodes params) → (S : Scopes) (v : V)
      →
      Deep S → ((z : ℕ) → Inner params z → rules.Free items needs q clear keeps over waits first v S z) →
      Shown over (Post around Nothing (param_nodes params) S v (Extends S)) (params_entered items q fuel params S v)
  params_free around [] r S v deep free = (ext_same S, λ z f n m. f)
  params_free around (param ∷ params) r S v deep free = by (shape items param.pattern).is_binding refl
      (λ T w d f. params_free around params later T w d f)
    where
      here : Rises (nodes_of param.pattern)
      here = rises_left (nodes_of param.pattern) (param_nodes params) r

      later : Rises (param_nodes params)
      later = rises_right (nodes_of param.pattern) (param_nodes params) r

      apart : (z : ℕ) → Numbered (nodes_of param.pattern) z → Numbered (param_nodes params) z → ⊥
      apart = rises_apart (nodes_of param.pattern) (param_nodes params) r

      e : Entry
      e = record { key = number_of param.pattern; ty = param.ty }

      bounds : List BoundName
      bounds = (shape items param.pattern).bindings (whole_local (number_of param.pattern))

      entered : Enters (number_of param.pattern) S
          (innermost (with_entry (record { key = number_of param.pattern; ty = param.ty })) S)
      entered = innermost_enters (number_of param.pattern)
          (with_entry (record { key = number_of param.pattern; ty = param.ty }))
          (enters (record { key = number_of param.pattern; ty = param.ty })) S

      still : (z : ℕ) → (number_of param.pattern ≡ z → ⊥) → rules.Free items needs q clear keeps over waits first v S z
          → rules.Free items needs q clear keeps over waits first v
          (innermost (with_entry (record { key = number_of param.pattern; ty = param.ty })) S) z
      still z n f = rules.entered_free items needs q clear keeps over waits first (number_of param.pattern) S
          (innermost (with_entry (record { key = number_of param.pattern; ty = param.ty })) S) v entered z n f

      deep_then : (S : Scopes) → Deep S → Deep (innermost
          (with_entry (record { key = number_of param.pattern; ty = param.ty })) S)
      deep_then [] d = d
      deep_then (s ∷ S) d = d

      deep_ext : (S T : Scopes) → Ext S T → Deep S → Deep T
      deep_ext [] T x d = absurd d
      deep_ext (s ∷ S) [] x d = absurd x
      deep_ext (s ∷ S) (t ∷ T) x d = tt

      own : (z : ℕ) → number_of param.pattern ≡ z → Numbered (nodes_of param.pattern) z
      own z same = subst (Numbered (nodes_of param.pattern)) same (own_number param.pattern)

      Rest : Type 0
      Rest = (T : Scopes) (w : V) → Deep T → ((z : ℕ) → Inner params z → rules.Free items needs q clear keeps over
          waits first w T z) →
          Shown over (Post around Nothing (param_nodes params) T w (Extends T)) (params_entered items q fuel params T w)

      Done : Run V → Type 0
      Done = Shown over (Post around Nothing (nodes_of param.pattern ++ param_nodes params)
          (innermost (with_entry (record { key = number_of param.pattern; ty = param.ty })) S) v
          (Extends (innermost (with_entry (record { key = number_of param.pattern; ty = param.ty })) S)))

      from_entered : (r : Run V) → Done r →
          Shown over (Post around Nothing (nodes_of param.pattern ++ param_nodes params) S v (Extends S)) r
      from_entered r h = shown_more over (λ exit U w p. (
        ext_then S (innermost (with_entry (record { key = number_of param.pattern; ty = param.ty })) S) U entered.ext
            p.0,
        λ z f n m. p.1 z (still z (λ x. n (numbered_left (nodes_of param.pattern) (param_nodes params) z (own z x))) f)
            n m,
      )) r h

      rest_free : (z : ℕ) → Inner params z → rules.Free items needs q clear keeps over waits first v
          (innermost (with_entry (record { key = number_of param.pattern; ty = param.ty })) S) z
      rest_free z i = still z (λ x. apart z (own z x) (inner_numbered params z i)) (free z (inr i))

      whole : Rest → Done (params_entered items q fuel params
          (innermost (with_entry (record { key = number_of param.pattern; ty = param.ty })) S) v)
      whole rest = rules.more_free items needs q clear keeps over waits first around Nothing Nothing (param_nodes
          params)
          (nodes_of param.pattern ++ param_nodes params) (innermost (with_entry (record {
            key = number_of
                param.pattern;
            ty = param.ty;
          })) S) v
          (Extends (innermost (with_entry (record { key = number_of param.pattern; ty = param.ty })) S)) (Extends
          (innermost (with_entry (record { key = number_of param.pattern; ty = param.ty })) S))
          (params_entered items q fuel params (innermost (with_entry (record {
            key = number_of param.pattern;
            ty =
                param.ty;
          })) S) v)
          (rest (innermost (with_entry (record { key = number_of param.pattern; ty = param.ty })) S) v (deep_then S
          deep) rest_free)
          (numbered_right (nodes_of param.pattern) (param_nodes params)) (λ z n. absurd n) (λ exit T x. x)

      parts_of : Rest → (shape items param.pattern).is_binding ≡ false → Done (on_value
          (forms.bind items q innermost bounds
          (innermost (with_entry (record { key = number_of param.pattern; ty = param.ty })) S) v)
          (params_entered items q fuel params))
      parts_of rest unnamed = rules.then_free items needs q clear keeps over waits first around Nothing Nothing
          (nodes_of param.pattern)
          (nodes_of param.pattern ++ param_nodes params)
          (choices.Bound items needs q clear keeps over waits first entries_of (innermost
          (with_entry (record { key = number_of param.pattern; ty = param.ty })) S) bounds)
          (Extends (innermost (with_entry (record { key = number_of param.pattern; ty = param.ty })) S)) (innermost
          (with_entry (record { key = number_of param.pattern; ty = param.ty })) S) v
          (forms.bind items q innermost bounds (innermost (with_entry (record {
            key = number_of param.pattern;
            ty =
                param.ty;
          })) S) v)
          (params_entered items q fuel params)
          (choices.bind_free items needs q clear keeps over waits first around innermost Deep entries_of
          (arms.innermost_binds items needs q clear keeps over waits first) (nodes_of param.pattern) bounds
          (names_distinct (nodes_of param.pattern) bounds
          (names_of_node items param.pattern (whole_local (number_of param.pattern))) here)
          (names_in (nodes_of param.pattern) bounds
          (names_of_node items param.pattern (whole_local (number_of param.pattern))))
          (innermost (with_entry (record { key = number_of param.pattern; ty = param.ty })) S) v (deep_then S deep)
          (λ z k. let i = inner_name items param.pattern (whole_local (number_of param.pattern)) z unnamed k in
          still z (not_own param.pattern here z i) (free z (inl i))))
          (numbered_left (nodes_of param.pattern) (param_nodes params)) (λ z n. absurd n) bound_ext
          (λ T w x g. rules.more_free items needs q clear keeps over waits first around Nothing Nothing (param_nodes
          params)
          (nodes_of param.pattern ++ param_nodes params) T w (Extends T)
          (Extends (innermost (with_entry (record { key = number_of param.pattern; ty = param.ty })) S))
          (params_entered items q fuel params T w)
          (rest T w (deep_ext (innermost (with_entry (record { key = number_of param.pattern; ty = param.ty })) S) T x.0
          (deep_then S deep))
          (λ z i. g z (rest_free z i) (λ y. apart z y (inner_numbered params z i)) (λ y. y)))
          (numbered_right (nodes_of param.pattern) (param_nodes params)) (λ z n. absurd n)
          (λ exit Z y. ext_then (innermost (with_entry (record { key = number_of param.pattern; ty = param.ty })) S) T Z
          x.0 y))
        where
          bound_ext : (exit : Exit) (T : Scopes) → Rattle.soundness_cells.proofs.PassScopes.Other exit →
              choices.Bound items needs q clear keeps over waits first entries_of (innermost
              (with_entry (record { key = number_of param.pattern; ty = param.ty })) S) bounds exit T →
              Ext (innermost (with_entry (record { key = number_of param.pattern; ty = param.ty })) S) T
          bound_ext Value T o k = absurd o
          bound_ext (Breaks loop) T o k = k
          bound_ext (Continues loop) T o k = k
          bound_ext Returns T o k = k
          bound_ext Panics T o k = k

      by : (b : Bool) → (shape items param.pattern).is_binding ≡ b → Rest →
          Shown over (Post around Nothing (nodes_of param.pattern ++ param_nodes params) S v (Extends S))
          (on_value (programs.names_of_param items q fuel b bounds
          (innermost (with_entry (record { key = number_of param.pattern; ty = param.ty })) S) v)
          (params_entered items q fuel params))
      by true e rest = from_entered (params_entered items q fuel params
          (innermost (with_entry (record { key = number_of param.pattern; ty = param.ty })) S) v) (whole rest)
      by false e rest = from_entered (on_value (forms.bind items q innermost bounds
          (innermost (with_entry (record { key = number_of param.pattern; ty = param.ty })) S) v)
          (params_entered items q fuel params)) (parts_of rest e)
