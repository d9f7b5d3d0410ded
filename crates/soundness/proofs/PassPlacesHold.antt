-- The half on places holds of a sound program, by what is asked of guards and of indices.
use Rattle.std.proofs.Common.{◌≡◌, ℕ, ◌+◌, ◌≤◌, Bool, false, List, [], ◌∷◌, ◌++◌, map, Option, Some, None, refl, subst, arith}
use Rattle.std.specs.Prelude.{slice_get}
use Rattle.std.specs.List.{flat_map}
use Rattle.std.proofs.lemmas.Bool.{false≢true}
use Rattle.std.proofs.lemmas.Option.{none-some, same_Some}
use Rattle.mir_ty.specs.declared.def.ClosureDef.{ClosureDef}
use Rattle.mir_ty.specs.declared.def.Sig.{Sig}
use Rattle.mir_ty.specs.declared.ty.Ty.{Ty}
use Rattle.mir_ty.specs.ItemTable.{type_at}
use Rattle.store_model.specs.Effects.{StuckAt, Out, Halts}
use Rattle.typed_tree.specs.Nodes.{number_of, nodes_of, param_nodes}
use Rattle.typing_rules.specs.Accesses as accesses
use Rattle.typed_tree.specs.Tree.{Node, ParamTree, BodyTree, ProgramTree}
use Rattle.src_meaning.specs.Programs.{activation}
use Rattle.well_typed.specs.Claim.{Holds}
use Rattle.well_typed.specs.Nodes.{typed}
use Rattle.well_typed.specs.Patterns.{entries_of}
use Rattle.well_typed.specs.Places.{InScope, Wanted, entry_with}
use Rattle.well_typed.specs.Program.{is_body, is_inside, are_params, closure_with}
use Rattle.soundness_values.specs.Laws.{IsSound}
use Rattle.soundness_values.proofs.AlsoTests.{Also, checks_also}
use Rattle.soundness_values.proofs.Checked.{Checking}
use Rattle.soundness_values.proofs.Facts.{Facts}
use Rattle.soundness_values.proofs.Leaving.{ShownOut}
use Rattle.soundness_values.proofs.Owing.{starting_of}
use Rattle.soundness_frame.proofs.PassBlockTold as told_of
use Rattle.soundness_frame.proofs.PassBlockTold.{all_permit}
use Rattle.soundness_cells.proofs.PassCellActs.{Cell}
use Rattle.soundness_cells.proofs.PassCellEnds as cell_ends
use Rattle.soundness_cells.proofs.PassCellItems.{told}
use Rattle.soundness_cells.proofs.PassCellParams.{plain_params, ParamRoots, param_roots, body_scoped, self_closure}
use Rattle.soundness_cells.proofs.PassCellPatterns as cells_of
use Rattle.soundness_cells.proofs.PassCellPatterns.{Told, Has}
use Rattle.soundness_cells.proofs.PassCellPlaces.{Scoped}
use Rattle.soundness_cells.proofs.PassCells.{NodeIn, Above, param_entry, inside, inside_params}
use Rattle.soundness_cells.proofs.PassEnds as body_ends
use Rattle.soundness_cells.proofs.PassFacts.{Standpoint, context}
use Rattle.soundness_cells.proofs.PassGood.{TypedParams}
use Rattle.soundness_cells.proofs.PassNumbers.{Rises, rises_left, rises_right}
use Rattle.soundness.proofs.PassPlacesBodies as bodies
use Rattle.soundness.proofs.PassPlacesEffects.{q}
use Rattle.soundness.proofs.PassPlacesMarks.{carries_places}
use Rattle.soundness.proofs.PassPlacesNodes.{Asked}
use Rattle.soundness.proofs.PassPlacesScope as scope
use Rattle.soundness.proofs.PassPlacesScope.{Stood}
use Rattle.soundness_cells.proofs.PassRefilled.{not_mark}
use Rattle.soundness.proofs.PassResultBodies as results
use Rattle.soundness_frame.proofs.PassToldPatterns.{name_right}
use Rattle.soundness_cells.proofs.PassRestSplit.{split_marks, PlacesHold}
use Rattle.soundness_cells.proofs.PassMarksJoin.{carried}
use Rattle.soundness.proofs.PassCallsAlone.{alone_marks}
use Rattle.soundness_values.proofs.CheckedBodies.{checks_of}
use Rattle.store_model.specs.Abstract.Effects.{abstract_effects}
use Rattle.src_meaning.specs.Locals.OfBody.{local_of, local_ty}
use Rattle.soundness_values.proofs.Relating.{feeds}

module _ (p : ProgramTree) (sound : IsSound p) (also : ℕ → Also) where
  abbrev known : Told p.items
  known = told p sound.typed

  -- what is asked of the nodes of each body
  abbrev pub NodesAsked : Type 0
  NodesAsked = (n fuel : ℕ) (b : BodyTree) → slice_get p.bodies n ≡ Some b → Asked p.items b (also n) known fuel
      (scope.no_bindings p.items b)

  module _ (asked : NodesAsked) (n fuel : ℕ) (b : BodyTree) (e : slice_get p.bodies n ≡ Some b)
      (list : List Bool) where
    abbrev V : Type 0
    V = Checking Facts

    abbrev run : Out V
    run = activation p.items (q p.items b (also n)) fuel b (feeds list (starting_of p b))

    abbrev Ends : Out V → Type 0
    Ends = ShownOut (not_mark 5) (λ w. Unit {0}) (λ w. Unit {0})

    found : (sig : Sig) × ((slice_get p.items.bodies n ≡ Some sig) × Holds (is_body p.items (0 + n) sig b))
    found = told_of.found p sound.typed sound.borrows n b e (λ m. NodeIn (nodes_of b.block) m) (λ m i. i)
        (λ places loops id form. Unit {0})
        (λ form id at ty by seen places y o h r k. tt)

    h : Holds (is_body p.items (0 + n) found.0 b)
    h = found.1.1

    there : slice_get p.items.bodies (0 + n) ≡ Some found.0
    there = let plus : n ≡ 0 + n = omega arith in
        subst (λ k. slice_get p.items.bodies k ≡ Some found.0) plus found.1.0

    typed_so : TypedParams p.items b.params
    typed_so = body_ends.typed_so p.items (0 + n) found.0 b h
        (Rattle.soundness_values.proofs.CheckedBodies.checks_of p.items b) fuel

    all_rise : Rises (param_nodes b.params ++ nodes_of b.block)
    all_rise = told_of.all_rise p sound.typed sound.borrows n b e (λ m. NodeIn (nodes_of b.block) m) (λ m i. i)
        (λ places loops id form. Unit {0})
        (λ form id at ty by seen places y o h r k. tt)

    own : Has p.items b (map (param_entry p.items) b.params)
    own = cell_ends.own_cells p.items known (0 + n) found.0 b h there (known.results n found.0 found.1.0) fuel

    named : Has p.items b (inside_params p.items b.params)
    named = cell_ends.named_cells p.items known (0 + n) found.0 b h there (known.results n found.0 found.1.0) fuel

    block : Has p.items b (inside p.items b.block)
    block = cell_ends.block_cells p.items known (0 + n) found.0 b h there (known.results n found.0 found.1.0) fuel

    abbrev at_body : Option InScope → List ParamTree → Standpoint
    at_body closure scoped = record {
      entries = flat_map (λ q. entries_of q.pattern) scoped;
      closure = closure;
      loops = [];
      answer = b.answer;
      outside = [];
    }

    in_body : (closure : Option InScope) (scoped : List ParamTree) → Scoped p.items b (at_body closure scoped) →
        Stood p.items b (scope.no_bindings p.items b) (at_body closure scoped) (nodes_of b.block) →
        Holds (typed (context p.items (at_body closure scoped)) (Wanted b.answer) b.block) → Ends run
    in_body closure scoped s g k = bodies.body_kept p.items b (also n) known fuel (asked n fuel b e)
        (at_body closure scoped) s g h.1.1.1.1.1.0 k block typed_so refl (
          all_permit p.items (scope.Of p.items b) (accesses.told [] b.block).accesses,
          told_of.no_conflicts p sound.typed
              sound.borrows n b e (λ m. NodeIn (nodes_of b.block) m) (λ m i. i)
              (λ places loops id form. Unit {0}) (λ form id at ty by seen places y o h r k. tt),
        )
        (plain_params p.items found.0.params b.params h.1.1.0)
        (rises_left (param_nodes b.params) (nodes_of b.block) all_rise) own named (feeds list (starting_of p b))
        (refl, tt) (results.result_whole p.items b (also n) known fuel (at_body closure scoped) (Wanted b.answer)
        h.1.1.1.1.1.0 k block all_rise (feeds list (starting_of p b)))

    block_rises : Rises (nodes_of b.block)
    block_rises = rises_right (param_nodes b.params) (nodes_of b.block) all_rise

    stood : (closure : Option InScope) (scoped : List ParamTree) → Scoped p.items b (at_body closure scoped) →
        ((y : InScope) → closure ≡ Some y → Above y.key (nodes_of b.block)) →
        ((key : ℕ) (y : InScope) → entry_with key (flat_map (λ (q : ParamTree). entries_of q.pattern) scoped) ≡ Some y →
        Above key (nodes_of b.block)) → Stood p.items b (scope.no_bindings p.items b) (at_body closure scoped)
        (nodes_of b.block)
    stood closure scoped s outer low = record {
      here = told_of.here_first p.items (scope.Of p.items b) (at_body closure scoped) (nodes_of b.block) block_rises
          (λ m i. i) outer low (told_of.name_root (nodes_of b.block) block_rises) (λ m i none r. none (r m i refl))
          (told_of.below_root (nodes_of b.block)) refl (λ key y f r. s.names key y f) (λ y f r. (s.closure y f).0)
          (told_of.name_typed p sound.typed sound.borrows n b e (λ m. NodeIn (nodes_of b.block) m) (λ m i. i)
          (λ places loops id form. Unit {0}) (λ form id at ty by seen places y o h r k. tt));
      marked = λ key y f a. absurd (false≢true a);
      above = λ m i. let least : 0 ≤ number_of m = omega arith in least;
    }

    abbrev names_above : (params : List ParamTree) (ns : List Node) → Rises (param_nodes params ++ ns) → (key : ℕ) →
        Rattle.soundness_cells.proofs.PassNames.NameIn (param_nodes params) key → Above key ns
    names_above = told_of.names_above p sound.typed sound.borrows n b e (λ m. NodeIn (nodes_of b.block) m) (λ m i. i)
        (λ places loops id form. Unit {0})
        (λ form id at ty by seen places y o h r k. tt)

    abbrev name_of : (params : List ParamTree) (key : ℕ) (y : InScope) →
        entry_with key (flat_map (λ (q : ParamTree). entries_of q.pattern) params) ≡ Some y →
        Rattle.soundness_cells.proofs.PassNames.NameIn (param_nodes params) key
    name_of = told_of.name_of p sound.typed sound.borrows n b e (λ m. NodeIn (nodes_of b.block) m) (λ m i. i)
        (λ places loops id form. Unit {0})
        (λ form id at ty by seen places y o h r k. tt)

    by_closure : (o : Option ClosureDef) (params : List ParamTree) → closure_with p.items (0 + n) ≡ o →
        b.params ≡ params → TypedParams p.items params → ParamRoots p.items known b params →
        Has p.items b (map (param_entry p.items) params) → Has p.items b (inside_params p.items params) →
        Holds (are_params p.items found.0.params params) → Holds (is_inside p.items o b params) → Ends run
    by_closure None params c same t r k l a i =
        let s = body_scoped p.items known b None b.answer (λ y f. absurd (none-some y f)) params t r k l in
        in_body None params s (stood None params s (λ y f. absurd (none-some y f)) (λ key y f. names_above params
        (nodes_of b.block) (subst (λ ps. Rises (param_nodes ps ++ nodes_of b.block)) same all_rise) key (name_of
        params key y f))) i.0
    by_closure (Some def) [] c same t r k l a i = absurd (false≢true i)
    by_closure (Some def) (self ∷ rest) c same t r k l a i =
        let y : InScope = record { key = number_of self.pattern; ty = self.ty; is_in_guard = false } in
        let s = body_scoped p.items known b (Some y) b.answer
        (λ z f. subst (λ (z : InScope). Cell p.items b z.key z.ty
        × ((m : ℕ) × (type_at p.items z.ty ≡ Some (Ty.Closure m)))) (same_Some y z f)
        (k.0, self_closure p.items known b (0 + n) found.0 def self rest there c a)) rest t.1 r.1 k.1
        (cells_of.has_right p.items b (inside p.items self.pattern) (inside_params p.items rest) l) in
        in_body (Some y) rest s (stood (Some y) rest s
        (λ z f. subst (λ (z : InScope). Above z.key (nodes_of b.block)) (same_Some y z f)
        (told_of.first_above p sound.typed sound.borrows n b e (λ m. NodeIn (nodes_of b.block) m) (λ m i. i)
        (λ places loops id form. Unit {0})
        (λ form id at ty by seen places y o h r k. tt) rest self (nodes_of b.block)
        (subst (λ ps. Rises (param_nodes ps ++ nodes_of b.block)) same all_rise)))
        (λ key z f. names_above (self ∷ rest) (nodes_of b.block)
        (subst (λ ps. Rises (param_nodes ps ++ nodes_of b.block)) same all_rise) key
        (name_right (nodes_of self.pattern) (param_nodes rest) key (name_of rest key z f)))) i.0

    body_holds : Ends run
    body_holds = by_closure (closure_with p.items (0 + n)) b.params refl refl typed_so
        (param_roots p.items known b found.0.params b.params h.1.1.0 (known.params (0 + n) found.0 there)
        (cell_ends.all_roots p.items known (0 + n) found.0 b h there (known.results n found.0 found.1.0) fuel b.params
        own (λ q i. i))) own named h.1.1.0 h.1.1.1.1.1.1

  -- so no run has the mark of places
  pub places_hold : NodesAsked → PlacesHold p sound.typed also
  places_hold asked n fuel b e list block w same = ended (activation p.items (q p.items b (also n)) fuel b
      (feeds list (starting_of p b)))
      (carried 5 (checks_also (also n) (checks_of p.items b)) (split_marks p.items b (also n))
      (alone_marks p.items b (also n)) (carries_places p.items b (also n)) (abstract_effects p.items (local_ty p.items
      b)) p.items (local_of p.items b) fuel b (feeds list (starting_of p b)) w (StuckAt 5 block) (λ other. other refl)
      same) (body_holds asked n fuel b e list)
    where
      ended : (o : Out (Checking Facts)) → o ≡ Halts (StuckAt 5 block) w →
          ShownOut (not_mark 5) (λ w. Unit {0}) (λ w. Unit {0}) o → ⊥
      ended o same h = subst (ShownOut (not_mark 5) (λ w. Unit {0}) (λ w. Unit {0})) same h refl
