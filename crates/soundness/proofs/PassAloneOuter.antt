-- Cells around a call, into which values of forms around it go, are none that its arguments name; so each argument
-- leaves
-- what earlier ones name, whatever it does.
use Rattle.std.proofs.Common.{◌≡◌, inl, inr, ℕ, ◌<◌, Bool, true, false, List, [], Some, refl, sym, subst, arith}
use Rattle.std.specs.Prelude.{slice_get}
use Rattle.store_model.specs.Effects.{EffectSite, Operand, Action}
use Rattle.store_model.specs.Places.Place.{whole_local}
use Rattle.typed_tree.specs.Nodes.{number_of, nodes_of, nodes_in, nodes_among}
use Rattle.typed_tree.specs.Tree as tree
use Rattle.typed_tree.specs.Tree.{Node, node, Form, Nodes, BodyTree, ProgramTree}
use Rattle.src_meaning.specs.Forms.{Destination, Into, Coerced, LoopsAndGuards, loop_destination}
use Rattle.src_meaning.specs.Locals.OfBody.{local_keys}
use Rattle.src_meaning.specs.Shape as shapes
use Rattle.src_meaning.specs.Shape.{shape}
use Rattle.well_typed.specs.Claim.{Holds}
use Rattle.well_typed.specs.Nodes as typing
use Rattle.well_typed.specs.Places.{InScope, Used, borrow_by}
use Rattle.soundness_values.specs.Laws.{IsSound}
use Rattle.soundness_values.proofs.AlsoTests.{Also}
use Rattle.soundness.proofs.PassAloneApart.{cell_off}
use Rattle.soundness.proofs.PassAloneArgs.{Arg}
use Rattle.soundness.proofs.PassAloneBefore.{OffAt, all_leave}
use Rattle.soundness.proofs.PassAloneBrings.{named_arg, AllLeave}
use Rattle.soundness.proofs.PassAloneGiven.{given_params, given_together}
use Rattle.soundness.proofs.PassAloneLeaves.{LeftAbove}
use Rattle.soundness.proofs.PassAloneLeft.{block_rises, nodes_so}
use Rattle.soundness.proofs.PassAloneOff.{ArgIn, arg_in, one_typed}
use Rattle.soundness.proofs.PassAloneRun.{Of, Stands}
use Rattle.soundness.proofs.PassCallsAlone as alone
use Rattle.soundness_cells.proofs.PassCells.{Above, NodeIn, above_in, rising}
use Rattle.soundness_cells.proofs.PassFacts.{Standpoint, context, beside}
use Rattle.soundness_frame.proofs.PassFrameActs.{DestSo}
use Rattle.soundness_frame.proofs.PassFrameBodies.{any_place}
use Rattle.soundness_frame.proofs.PassFrameHeads.{Calls}
use Rattle.soundness_frame.proofs.PassKeys.{Keys, place_keys}
use Rattle.soundness_frame.proofs.PassTold as here
use Rattle.soundness_frame.proofs.PassTold.{ids, Here}
use Rattle.soundness_frame.proofs.PassToldPlaces.{is_alias}
use Rattle.soundness_frame.proofs.PassWithin.{Outer, passing, is_among, DestIn, KeysAround, DestsAround}

own_node : (m : Node) → NodeIn (nodes_of m) m
own_node (node id at ty by form) = inl refl

module _ (p : ProgramTree) (sound : IsSound p) (n fuel : ℕ) (b : BodyTree) (at : slice_get p.bodies n ≡ Some b)
    (form : Form) (ns : Nodes) (action : EffectSite → List Operand → Action) (c : Calls form ns action)
    (around : LoopsAndGuards) (loops : Outer) (id : ℕ) (stands : Stands p b around.aliases loops id form) where
  abbrev also : Also
  also = alone.also p sound n

  abbrev places : shapes.Aliases
  places = around.aliases

  abbrev x : Standpoint
  x = beside id stands.x

  abbrev named : Node → Arg
  named m = named_arg p.items b also fuel (block_rises p sound n b at) places m

  inner : Here p.items any_place (Of p b) stands.aliases places x (nodes_among ns)
  inner = subst (Here p.items any_place (Of p b) stands.aliases places x) (nodes_so form ns action c)
      (here.here_beside p.items any_place (Of p b) stands.aliases places stands.x
      (node id stands.at stands.ty stands.by form) (nodes_in form) stands.here)

  above : Above id (nodes_among ns)
  above = subst (Above id) (nodes_so form ns action c)
      (rising (node id stands.at stands.ty stands.by form) (nodes_in form) stands.here.rises).0

  -- ---- the cells around

  more_apart : (d k : ℕ) → d < k → k ≡ d → ⊥
  more_apart d k l e =
      let less : d < k = l in let same : k ≡ d = e in let never : ⊥ = omega (less, same, arith) in never

  below : (d : ℕ) → is_among d x.outside ≡ true → (m : Node) → NodeIn (nodes_among ns) m → number_of m ≡ d → ⊥
  below d i m j = more_apart d (number_of m) (above_in d (nodes_among ns) m (inner.under d i) j)

  place_off : (d : ℕ) → is_among d x.outside ≡ true → (base : Node) (unique : Bool) →
      Holds (typing.typed (context p.items x) (Used (borrow_by unique)) base) →
      ((m : Node) → NodeIn (nodes_of base) m → NodeIn (nodes_among ns) m) →
      Keys (λ k. k ≡ d → ⊥) ((shape p.items base).place places)
  place_off d i base unique h f = place_keys (λ k. k ≡ d → ⊥) p.items places x (inner.away d i).names
      (λ y e. of_closure y e (is_alias stands.aliases y.key) refl) base (Used (borrow_by unique)) h
      (λ m j. below d i m (f m j))
    where
      of_closure : (y : InScope) → x.closure ≡ Some y → (v : Bool) → is_alias stands.aliases y.key ≡ v →
          Keys (λ k. k ≡ d → ⊥) (shapes.place_of_key y.key places)
      of_closure y e true a = absurd (inner.sees.closure y e a)
      of_closure y e false a =
          subst (Keys (λ k. k ≡ d → ⊥)) (sym (inner.sees.plain y.key a)) ((inner.away d i).self y e, tt)

  -- a cell around is off what an argument names
  cell_around : (d : ℕ) → is_among d x.outside ≡ true → (m : Node) → ArgIn ns m →
      OffAt p sound n fuel b at (named m) (whole_local d)
  cell_around d i (node key from ty by of_arg) j = of_form of_arg j
    where
      of_form : (of_arg : Form) → ArgIn ns (node key from ty by of_arg) →
          OffAt p sound n fuel b at (named (node key from ty by of_arg)) (whole_local d)
      of_form (tree.Borrow unique base) j =
          let arg = node key from ty by (tree.Borrow unique base) in
          let h = one_typed p b also fuel (block_rises p sound n b at) x
          (given_params p sound n fuel b at form ns action c places loops id stands).ids ns
          (given_params p sound n fuel b at form ns action c places loops id stands).typed arg j in
          cell_off (local_keys p.items b) key d unique ((shape p.items base).place places) []
          (below d i arg (arg_in ns arg arg j (inl refl)))
          (place_off d i base unique h.1.1.0 (λ m k. arg_in ns arg m j (inr k)))
      of_form of_arg j = tt

  dest_around : (m : Node) → ArgIn ns m → (to : Destination) → DestIn x.outside to →
      DestSo (OffAt p sound n fuel b at (named m)) (OffAt p sound n fuel b at (named m)) to
  dest_around m j (Into key) k = cell_around key k m j
  dest_around m j (Coerced key trait_no to) k = (cell_around key k.0 m j, cell_around to k.1 m j)

  module _ (keys : KeysAround around (passing id loops)) where
    inside_keys : KeysAround around (ids x)
    inside_keys = subst (λ (o : Outer). KeysAround around (passing id o)) stands.around keys

    all_around : (m : Node) → ArgIn ns m →
        DestsAround (OffAt p sound n fuel b at (named m)) (OffAt p sound n fuel b at (named m)) around (ids x)
    all_around m j = (
      dest_around m j around.answer inside_keys.0,
      λ loop i. dest_around m j (loop_destination loop around.loops) (inside_keys.1 loop i),
    )

    -- each argument leaves what those before it name
    pub given_leave : LeftAbove p sound n fuel b at id →
        AllLeave p.items b also fuel (block_rises p sound n b at) around [] ns
    given_leave left =
        let typed = given_params p sound n fuel b at form ns action c places loops id stands in
        let together = given_together p sound n fuel b at form ns action c places loops id stands in
        all_leave p sound n fuel b at id left stands.aliases x around inside_keys ns typed.ids together.args []
        together.argued inner above typed.typed together.told together.free all_around tt
