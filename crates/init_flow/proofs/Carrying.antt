-- What a path carries says what is gone.
use Rattle.std.proofs.Common.{◌≡◌, ◌⊎◌, inl, inr, ℕ, zero, suc, ◌+◌, ◌*◌, ◌<◌, Bool, true, false, if◌then◌else◌, List, [], ◌∷◌, ◌++◌, map, length, Option, Some, None, slice_get, Contains, refl, sym, ap, ◌∙◌, arith}
use Rattle.std.specs.Prelude.{slice_index_or, option_and_then}
use Rattle.std.proofs.lemmas.Bool.{false≢true, eqb-true}
use Rattle.std.proofs.lemmas.Option.{none-some}
use Rattle.std.proofs.lemmas.List.{append-nil, append_assoc, length-map}
use Rattle.mir_ty.specs.ItemTable.{ItemTable}
use Rattle.cfg_graph.specs.declared.graph.Block.{Block}
use Rattle.cfg_graph.specs.declared.graph.Body.{Body}
use Rattle.cfg_graph.specs.Moves.Gone.{PathAction}
use Rattle.init_flow.specs.Carried.{Bits, leads_to, rows_along}
use Rattle.init_flow.specs.Ways.{target, way_target, exit_at, on_paths}
use Rattle.init_flow.proofs.WayLemmas.{way_is}
use Rattle.move_paths.specs.Forest.{PathForest, IsForest}
use Rattle.init_flow.specs.declared.switches.Switch.{Switch}
use Rattle.init_flow.specs.declared.switches.Switches.{Switches}
use Rattle.init_flow.specs.Fits.{AreSwitches, start_row, way_uses}
use Rattle.init_flow.specs.Moved.{Says}
use Rattle.init_flow.specs.Switches.{passed_by, all_switched, taken, way_switches}
use Rattle.init_flow.proofs.Fitting.{fits-taken}
use Rattle.init_flow.proofs.Following.{state, AreIn}
use Rattle.init_flow.proofs.Along.{actions_in, actions_between, came, came-is, step}

contains-append : {X : Type 0} (xs ys : List X) (x : X) → Contains (xs ++ ys) x → Contains xs x ⊎ Contains ys x
contains-append [] ys x has = inr has
contains-append (y ∷ xs) ys x (zero, within, is) = inl (zero, omega arith, is)
contains-append (y ∷ xs) ys x (suc k, within, is) = elim (contains-append xs ys x (k, omega (within, arith), is)) [
  | inl there ↦ inl (suc there.0, (let z = there.1 in omega (z, arith)), there.2)
  | inr there ↦ inr there
]

contains-if : {X : Type 0} (b : Bool) (xs : List X) (x : X) → Contains (if b then xs else []) x → (b ≡ true) × Contains xs x
contains-if true xs x has = (refl, has)
contains-if false xs x has = absurd (let k = has.1 in omega (k, arith))

leads : (to : ℕ) (o : Option ℕ) → leads_to to o ≡ true → o ≡ Some to
leads to None h = absurd (false≢true h)
leads to (Some m) h = ap Some (eqb-true m to h)

-- a way that leads somewhere is one of a block
way-of : (items : ItemTable) (body : Body) (n way to : ℕ) → target items body n way ≡ Some to → (block : Block) × (slice_get body.blocks n ≡ Some block) × (exit_at block.term way ≡ Some to)
way-of items body n way to is = by (slice_get body.blocks n) refl is
  where
    exit : (on : Bool) (o : Option ℕ) → (if on then o else None) ≡ Some to → o ≡ Some to
    exit true o h = h
    exit false o h = absurd (none-some to h)

    by : (o : Option Block) → slice_get body.blocks n ≡ o → option_and_then (λ found. way_target items body found.term way) o ≡ Some to → (block : Block) × (slice_get body.blocks n ≡ Some block) × (exit_at block.term way ≡ Some to)
    by None e h = absurd (none-some to h)
    by (Some block) e h = (block, e, exit (on_paths items body block.term way) (exit_at block.term way) (sym (way_is items body block.term way) ∙ h))

module _ (items : ItemTable) (body : Body) (forest : PathForest) (is : IsForest items body forest)
    (inside : (n way : ℕ) (block : Block) → way < 2 → slice_get body.blocks n ≡ Some block → AreIn items body forest.paths (way_uses block way))
    (gone : Bool) (s : Switches) (are : AreSwitches forest.paths s body) (first : Bits) (begins : first ≡ start_row forest.paths body gone) where
  abbrev pass : ℕ → ℕ → Bits → Bits
  pass block way row = passed_by s gone block way row

  abbrev switches : ℕ → ℕ → List Switch
  switches n way = map (taken gone) (way_switches (slice_get s.blocks n) way)

  one_way : (n way to : ℕ) (earlier : List PathAction) → way < 2 → target items body n way ≡ Some to
      → pass n way (state items body forest.paths gone earlier) ≡ state items body forest.paths gone (earlier ++ (actions_in body n ++ actions_between body n to))
  one_way n way to earlier small there =
      let at = way-of items body n way to there in
      ap (λ (z : List Bits). all_switched z (switches n way) (state items body forest.paths gone earlier)) are.below
      ∙ step items body forest is gone n way to at.0 (switches n way) earlier at.1 at.2
      (fits-taken forest.paths gone (way_switches (slice_get s.blocks n) way) (way_uses at.0 way) (are.ways.each n at.0 at.1 way small)) (inside n way at.0 small at.1)

  along : (path : List ℕ) (n : ℕ) (row end : Bits) (earlier : List PathAction) → row ≡ state items body forest.paths gone earlier
      → Contains (rows_along (target items body) pass n row path) end → end ≡ state items body forest.paths gone (earlier ++ came body n path)
  along [] n row end earlier same (zero, within, e) = sym e ∙ same ∙ ap (state items body forest.paths gone) (sym (append-nil earlier))
  along [] n row end earlier same (suc k, within, e) = absurd (omega (within, arith))
  along (to ∷ path) n row end earlier same has =
      let on : (way : ℕ) → way < 2 → Contains (if leads_to to (target items body n way) then rows_along (target items body) pass to (pass n way row) path else []) end
      → end ≡ state items body forest.paths gone (earlier ++ came body n (to ∷ path)) =
      (λ way small here.
      let it = contains-if (leads_to to (target items body n way)) (rows_along (target items body) pass to (pass n way row) path) end here in
      along path to (pass n way row) end (earlier ++ (actions_in body n ++ actions_between body n to))
      (ap (pass n way) same ∙ one_way n way to earlier small (leads to (target items body n way) it.0)) it.1
      ∙ ap (state items body forest.paths gone) (append_assoc earlier (actions_in body n ++ actions_between body n to) (came body to path))) in
      elim (contains-append (if leads_to to (target items body n 0) then rows_along (target items body) pass to (pass n 0 row) path else [])
      (if leads_to to (target items body n 1) then rows_along (target items body) pass to (pass n 1 row) path else []) end has) [
        | inl here ↦ on 0 (omega arith) here
        | inr here ↦ on 1 (omega arith) here
      ]

  pub says-all : Says items body forest.paths gone (target items body) pass first
  says-all = record {
    width = ap length begins ∙ length-map forest.paths _;
    rows = λ rest row has. (
      came body 0 rest,
      came-is body 0 rest,
      along rest 0 first row [] begins has,
    );
  }
