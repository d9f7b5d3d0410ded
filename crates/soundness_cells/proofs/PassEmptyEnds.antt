-- In each body of a well typed program no run fails the test that the local into which an action stores holds nothing
-- which would need dropping: as a body begins it holds its parameters alone, and all other cells are free.
use Rattle.std.proofs.Common.{◌≡◌, ◌⊎◌, inl, inr, ℕ, ◌+◌, ◌++◌, List, [], ◌∷◌, length, Bool, true, false, Option, Some, None, refl, ap, sym, subst}
use Rattle.std.specs.List.{range_with_len}
use Rattle.std.proofs.lemmas.Bool.{false≢true}
use Rattle.mir_ty.specs.declared.def.ClosureDef.{ClosureDef}
use Rattle.mir_ty.specs.declared.def.Sig.{Sig}
use Rattle.mir_ty.specs.ItemTable.{ItemTable}
use Rattle.store_model.specs.Abstract.Effects.{at_start}
use Rattle.store_model.specs.Effects.{EffectSite, Effects}
use Rattle.typed_tree.specs.Nodes.{number_of, nodes_of, nodes_in, param_nodes}
use Rattle.typed_tree.specs.Tree.{Node, ParamTree, BodyTree, ProgramTree}
use Rattle.src_meaning.specs.Locals.Effects.{site_at}
use Rattle.src_meaning.specs.Locals.OfBody.{answer_key, local_of}
use Rattle.src_meaning.specs.Programs.{activation, answer_scope, entire_function}
use Rattle.well_typed.specs.Claim.{Holds}
use Rattle.well_typed.specs.Nodes.{typed}
use Rattle.well_typed.specs.Places.{InScope, Wanted, form_of}
use Rattle.well_typed.specs.Program.{WellTyped, is_body, is_inside, closure_with}
use Rattle.soundness_values.proofs.AlsoTests.{Also, checks_also}
use Rattle.soundness_values.proofs.Checked.{Checking, Checks}
use Rattle.soundness_values.proofs.CheckedBodies.{checks_of}
use Rattle.soundness_values.proofs.Facts.{Facts}
use Rattle.soundness_values.proofs.Leaving.{ShownOut}
use Rattle.soundness_cells.proofs.PassBodies as bodies
use Rattle.soundness_cells.proofs.PassCells.{NodeIn, node_right}
use Rattle.soundness_cells.proofs.PassClear.{KeepsClear}
use Rattle.soundness_cells.proofs.PassEmpty as empty
use Rattle.soundness_cells.proofs.PassEnds as ends
use Rattle.soundness_cells.proofs.PassFacts.{context}
use Rattle.soundness_cells.proofs.PassFree.{Always}
use Rattle.soundness_cells.proofs.PassFreeAgain as again
use Rattle.soundness_cells.proofs.PassFreeBodies as params_of
use Rattle.soundness_cells.proofs.PassFreeBodies.{Inner}
use Rattle.soundness_cells.proofs.PassFreeEntire as entire
use Rattle.soundness_cells.proofs.PassGood.{TypedParams, whole}
use Rattle.soundness_cells.proofs.PassNodes as nodes
use Rattle.soundness_cells.proofs.PassNumbers.{Numbered, numbered_left, numbered_right, Rises, rises_left, rises_right, rises_apart, own_number}
use Rattle.soundness_cells.proofs.PassParams as entering
use Rattle.soundness_cells.proofs.PassParams.{NamedParam, param_keys}
use Rattle.soundness_cells.proofs.PassRefilled.{not_mark}
use Rattle.soundness_cells.proofs.PassRules.{InList}

module _ (items : ItemTable) (number : ℕ) (sig : Sig) (body : BodyTree) (h : Holds (is_body items number sig body))
    (also : Also) (fuel : ℕ) where
  abbrev V : Type 0
  V = Checking Facts

  abbrev checks : Checks Facts
  checks = checks_also also (checks_of items body)

  abbrev needs : ℕ → Bool
  needs = empty.needs items body

  abbrev q : Effects V
  q = empty.empty_run items body also

  abbrev clear : V → ℕ → Type 0
  clear = empty.clear items body also

  abbrev keeps : KeepsClear q needs clear
  keeps = empty.keeps items body also

  abbrev waits : EffectSite → V → Type 0
  waits = empty.waits items body also

  rise : Rises (param_nodes body.params ++ nodes_of body.block)
  rise = ends.rise items number sig body h checks fuel

  typed_so : TypedParams items body.params
  typed_so = ends.typed_so items number sig body h checks fuel

  abbrev no_clear : V → ℕ → Type 0
  no_clear = again.no_clear items needs q clear keeps

  abbrev keeps_none : KeepsClear q (λ key. false) no_clear
  keeps_none = again.keeps_none items needs q clear keeps

  abbrev Within : List ParamTree → ℕ → Type 0
  Within = Inner items needs q clear keeps (not_mark 4) waits (empty.finds items body also) fuel

  -- ---- the cells of nodes

  good_all : (ns : List Node) →
      ((n : Node) → NodeIn ns n → NodeIn (ends.all_others items number sig body h checks fuel) n) →
      nodes.Good items needs q clear keeps fuel ns
  good_all [] f = tt
  good_all (n ∷ ns) f =
      (ends.needs_ok items number sig body h checks fuel n (f n (inl refl)), good_all ns (λ m i. f m (inr i)))

  good_inside : nodes.Good items needs q clear keeps fuel (nodes_in (form_of body.block))
  good_inside = good_all (nodes_in (form_of body.block))
      (λ n i. node_right (param_nodes body.params) (nodes_in (form_of body.block)) n i)

  good_params : (params : List ParamTree) → TypedParams items params →
      entering.GoodParams items (λ key. false) q no_clear keeps_none fuel params
  good_params [] t = tt
  good_params (param ∷ params) t = (
    (whole, t.0),
    (again.good_none items needs q clear keeps fuel (nodes_of param.pattern), good_params params t.1),
  )

  -- ---- what is held as a body begins

  tops_in : (params : List ParamTree) (z : ℕ) → InList (param_keys params) z → Numbered (param_nodes params) z
  tops_in [] z k = k
  tops_in (param ∷ params) z (inl k) = numbered_left (nodes_of param.pattern) (param_nodes params) z
      (subst (Numbered (nodes_of param.pattern)) k (own_number param.pattern))
  tops_in (param ∷ params) z (inr k) =
      numbered_right (nodes_of param.pattern) (param_nodes params) z (tops_in params z k)

  -- a parameter is none of what is inside its pattern or another's
  tops_apart : (params : List ParamTree) → Rises (param_nodes params) → (z : ℕ) → Within params z →
      InList (param_keys params) z → ⊥
  tops_apart [] r z i k = i
  tops_apart (param ∷ params) r z (inl i) (inl k) =
      params_of.not_own items needs q clear keeps (not_mark 4) waits (empty.finds items body also) fuel param.pattern
      (rises_left (nodes_of param.pattern) (param_nodes params) r) z i k
  tops_apart (param ∷ params) r z (inl i) (inr k) = rises_apart (nodes_of param.pattern) (param_nodes params) r z
      (params_of.inside_node items needs q clear keeps (not_mark 4) waits (empty.finds items body also) fuel param.pattern z
      i) (tops_in params z k)
  tops_apart (param ∷ params) r z (inr i) (inl k) = rises_apart (nodes_of param.pattern) (param_nodes params) r z
      (subst (Numbered (nodes_of param.pattern)) k (own_number param.pattern))
      (params_of.inner_numbered items needs q clear keeps (not_mark 4) waits (empty.finds items body also) fuel params z i)
  tops_apart (param ∷ params) r z (inr i) (inr k) =
      tops_apart params (rises_right (nodes_of param.pattern) (param_nodes params) r) z i k

  abbrev begun : List Bool → Facts → Bool → V
  begun list facts lost =
      record { free = at_start (range_with_len 1 (length body.params)) list; facts = facts; lost = lost }

  begun_clear : (list : List Bool) (facts : Facts) (lost : Bool) (z : ℕ) →
      Within body.params z ⊎ Numbered (nodes_of body.block) z → clear (begun list facts lost) z
  begun_clear list facts lost z i = by (ends.begins_held items number sig body h checks fuel list facts lost z)
    where
      other : Within body.params z ⊎ Numbered (nodes_of body.block) z → InList (param_keys body.params) z → ⊥
      other (inl x) k = tops_apart body.params (rises_left (param_nodes body.params) (nodes_of body.block) rise) z x k
      other (inr x) k =
          rises_apart (param_nodes body.params) (nodes_of body.block) rise z (tops_in body.params z k) x

      by : clear (begun list facts lost) z ⊎ (⊥ ⊎ InList (param_keys body.params) z) → clear (begun list facts lost) z
      by (inl c) = c
      by (inr (inl n)) = absurd n
      by (inr (inr k)) = absurd (other i k)

  -- ---- a body

  gives : (site : EffectSite) (v : V) → ShownOut (not_mark 4) Always Always (q.give site v)
  gives site v = empty.either_mark items body also (checks.give_ok (site_at (local_of items body) site) v.free v.facts)
      true refl v _ Always Always tt

  module _ (closure : Option InScope) (scoped : List ParamTree)
      (among : (key : ℕ) → NamedParam scoped key → NamedParam body.params key) where
    runs : Holds (typed (context items (bodies.at_body items needs q clear keeps fuel body closure scoped among))
        (Wanted body.answer) body.block) → (list : List Bool) (facts : Facts) (lost : Bool) →
        ShownOut (not_mark 4) Always Always (activation items q fuel body (begun list facts lost))
    runs k list facts lost = entire.ends_free items needs q clear keeps (not_mark 4) waits (empty.finds items body also) fuel
        gives (λ v. tt) (answer_key body) _
        (entire_function items q fuel body (answer_scope items q fuel body) (begun list facts lost))
        (entire.entire_free items needs q clear keeps (not_mark 4) waits (empty.finds items body also) fuel body closure
        scoped among rise (good_params body.params typed_so) (Wanted body.answer) h.1.1.1.1.1.0 k good_inside
        (begun list facts lost) (begun_clear list facts lost))

  ended : (o : Option ClosureDef) (params : List ParamTree) → body.params ≡ params →
      Holds (is_inside items o body params) → (list : List Bool) (facts : Facts) (lost : Bool) →
      ShownOut (not_mark 4) Always Always (activation items q fuel body (begun list facts lost))
  ended None params same k list facts lost =
      runs None params (λ key x. subst (λ l. NamedParam l key) (sym same) x) k.0 list facts lost
  ended (Some def) [] same k list facts lost = absurd (false≢true k)
  ended (Some def) (self ∷ rest) same k list facts lost =
      runs (Some (record { key = number_of self.pattern; ty = self.ty; is_in_guard = false })) rest
      (λ key x. subst (λ l. NamedParam l key) (sym same) (inr x)) k.0 list facts lost

  -- no run of the body fails the test
  pub empty_ends : (list : List Bool) (facts : Facts) (lost : Bool) →
      ShownOut (not_mark 4) Always Always (activation items q fuel body (begun list facts lost))
  empty_ends list facts lost =
      ended (closure_with items number) body.params refl h.1.1.1.1.1.1 list facts lost
