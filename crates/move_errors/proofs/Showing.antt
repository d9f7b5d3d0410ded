-- Where the rows of a solution show no bad use, no run meets one.
use Rattle.std.proofs.Common.{◌≡◌, inl, inr, ℕ, zero, suc, ◌<◌, Bool, true, false, List, [], ◌∷◌, ◌++◌, length, Option, Some, None, slice_get, refl, sym, ap, subst, ◌∙◌, arith}
use Rattle.std.specs.Prelude.{slice_index_or}
use Rattle.std.specs.Option.{is_some, option_map_or}
use Rattle.std.proofs.lemmas.Bool.{false≢true}
use Rattle.std.proofs.lemmas.Option.{slice_get_within, slice_get-get_or}
use Rattle.std.proofs.lemmas.List.{get_or-map}
use Rattle.mir_ty.specs.ItemTable.{ItemTable}
use Rattle.store_model.specs.Places.Place.{whole_local}
use Rattle.cfg_graph.specs.declared.graph.Block.{Block}
use Rattle.cfg_graph.specs.declared.graph.Body.{Body}
use Rattle.cfg_graph.specs.Moves.Actions.{actions_on}
use Rattle.cfg_graph.specs.Moves.Gone.{PathAction, is_gone_after}
use Rattle.cfg_graph.specs.Moves.Paths.{IsPath}
use Rattle.init_flow.specs.Carried.{Bits, AreCarried, last_of}
use Rattle.init_flow.specs.Ways.{target}
use Rattle.move_paths.specs.Forest.{PathForest}
use Rattle.init_flow.specs.Moved.{Says}
use Rattle.init_flow.proofs.OnPaths.{solved-says}
use Rattle.move_errors.specs.Rows.{IsWatched, place_at, first_by}
use Rattle.move_errors.specs.Runs.{Problem, Trip, IsRun, begins, goes, Leads, problem, point, acts_at, stored_between, number_of, onward_from}
use Rattle.move_errors.specs.Searching.{bit}
use Rattle.move_errors.specs.Shown.{ShowsNone}
use Rattle.move_errors.specs.Stands.{MeetsNoBad}
use Rattle.move_errors.specs.declared.point.Point.{Point}
use Rattle.move_errors.specs.declared.point.Stage.{Stage}
use Rattle.move_errors.proofs.Meeting.{Comes, told, enter, arrive}
use Rattle.move_errors.proofs.Owning.{owns}
use Rattle.move_errors.proofs.Pathways.{ends, goes-by}
use Rattle.move_errors.proofs.Running.{none-inside}
use Rattle.move_errors.proofs.Sorted.{none-in}
use Rattle.move_errors.proofs.Visiting.{run-width}

bit-in : (row : Bits) (i : ℕ) → bit row i ≡ true → i < length row
bit-in [] i on = absurd (false≢true on)
bit-in (b ∷ row) zero on = omega arith
bit-in (b ∷ row) (suc i) on = let k = bit-in row i on in omega (k, arith)

none-leaving : (items : ItemTable) (body : Body) (n : ℕ) (k : Bool) → slice_get body.blocks n ≡ None → acts_at items body n (Stage.Leaving k) ≡ []
none-leaving items body n k e = ap (λ (z : Option Block). option_map_or (λ found. stored_between found n (target items body n (number_of k))) z []) e

module _ (items : ItemTable) (body : Body) (forest : PathForest) (below : List Bits) (watched : IsWatched items body forest below) where
  abbrev f : Problem
  f = problem items body forest.paths

  -- a run on a way out of a block comes from within it
  abbrev Came : ℕ → Bits → Type 0
  Came n row = (t : Trip) × IsRun f t × (t.at ≡ point n Stage.Inside) × (row ≡ f.pass (point n Stage.Inside) t.row)

  came : (u : Trip) → IsRun f u → (n : ℕ) (k : Bool) → u.at ≡ point n (Stage.Leaving k) → Came n u.row
  came _ begins n k at = absurd (cc (ap (λ (z : Point). z.stage) at))
  came _ (goes t choice to run clean leads) n k at = by t.at.block t.at.stage refl refl leads
    where
      by : (m : ℕ) (stage : Stage) → t.at.block ≡ m → t.at.stage ≡ stage → Leads (onward_from items body m stage) choice to → Came n (f.pass t.at t.row)
      by m Stage.Entry b s leads = let it = enter items body forest below watched m choice to leads in absurd (cc (ap (λ (z : Point). z.stage) (sym at ∙ it.0)))
      by m Stage.Inside b s leads =
          let it = goes-by items body m choice to leads in
          let same : n ≡ m = ap (λ (z : Point). z.block) (sym at ∙ it.3) in
          let here : t.at ≡ point n Stage.Inside = (λ i. record { block = (b ∙ sym same) i; stage = s i }) in
          (t, run, here, ap (λ (z : Point). f.pass z t.row) here)
      by m (Stage.Leaving j) b s leads = let it = arrive items body forest below watched m j choice to leads in absurd (cc (ap (λ (z : Point). z.stage) (sym at ∙ it.1)))

  module _ (pass : ℕ → ℕ → Bits → Bits) (first : Bits) (rows : List Bits) (says : Says items body forest.paths true (target items body) pass first)
      (carried : AreCarried (length body.blocks) (target items body) pass first rows)
      (widths : (n : ℕ) → n < length body.blocks → length (slice_index_or rows n []) ≡ length forest.paths)
      (shows : (n : ℕ) → n < length body.blocks → ShowsNone f n (slice_index_or rows n [])) where
    abbrev at_start : ℕ → Bits
    at_start n = slice_index_or rows n []

    -- what a run brings to a block is in the row of the block
    brought : (t : Trip) → IsRun f t → (n : ℕ) → t.at ≡ point n Stage.Inside → n < length body.blocks → (i : ℕ) → bit t.row i ≡ true → bit (at_start n) i ≡ true
    brought t run n at within i on =
        let it = told items body forest below watched t run in
        let comes = subst (λ (z : Point). Comes items body forest below watched z.block z.stage t.path t.given it.earlier) at it.comes in
        let inside : i < length forest.paths = (let k = bit-in t.row i on in let l = run-width f (owns items body forest.paths) t run in omega (k, l, arith)) in
        let gone : is_gone_after items body it.earlier (place_at forest.paths i) ≡ true =
        sym (get_or-map (λ path. is_gone_after items body it.earlier path) forest.paths i (whole_local 0) false inside) ∙ ap (λ (z : Bits). bit z i) (sym it.row) ∙ on in
        by t.path t.given it.earlier comes.0 comes.1 comes.2 comes.3 gone inside
      where
        by : (path : List ℕ) (given : List Bool) (earlier : List PathAction) (front : List ℕ) → path ≡ front ++ n ∷ [] → IsPath items body path given
            → actions_on body path ≡ earlier ++ actions_on body (n ∷ []) → is_gone_after items body earlier (place_at forest.paths i) ≡ true → i < length forest.paths → bit (at_start n) i ≡ true
        by [] given earlier front is path before gone inside = absurd (none-in given path)
        by (suc k ∷ rest) given earlier front is path before gone inside = absurd (none-in given path)
        by (zero ∷ rest) given earlier front is path before gone inside =
            (solved-says items body forest.paths true pass first rows says carried n i (place_at forest.paths i) within (slice_get-get_or forest.paths i (whole_local 0) inside)).1
            (record { rest = rest; choices = given; earlier = earlier; is_path = path; ends = ap (last_of 0) is ∙ ends 0 front n; before = before; is = gone })

    within-block : (u : Trip) → IsRun f u → (n : ℕ) → u.at ≡ point n Stage.Inside → n < length body.blocks → f.bad (point n Stage.Inside) u.row ≡ true → ⊥
    within-block u run n at within bad =
        elim ((owns items body forest.paths).bad_own (point n Stage.Inside) u.row (run-width f (owns items body forest.paths) u run) bad) [
          | inl always ↦ false≢true (sym (shows n within).inside ∙ always (at_start n) (widths n within))
          | inr some ↦ false≢true (sym (shows n within).inside ∙ some.2 (at_start n) (widths n within) (brought u run n at within some.0 some.1))
        ]

    on-way : (u t : Trip) → IsRun f u → IsRun f t → (n : ℕ) (k : Bool) → t.at ≡ point n Stage.Inside → u.row ≡ f.pass (point n Stage.Inside) t.row → n < length body.blocks
        → f.bad (point n (Stage.Leaving k)) u.row ≡ true → ⊥
    on-way u t run before n k at is within bad =
        elim ((owns items body forest.paths).bad_own (point n (Stage.Leaving k)) u.row (run-width f (owns items body forest.paths) u run) bad) [
          | inl always ↦ false≢true (sym ((shows n within).leaving k) ∙ always (f.pass (point n Stage.Inside) (at_start n)) ((owns items body forest.paths).keeps (point n Stage.Inside) (at_start n) (widths n within)))
          | inr some ↦ false≢true (sym ((shows n within).leaving k) ∙ some.2 (f.pass (point n Stage.Inside) (at_start n)) ((owns items body forest.paths).keeps (point n Stage.Inside) (at_start n) (widths n within))
              (passed some.0 (sym (ap (λ (z : Bits). bit z some.0) is) ∙ some.1)))
        ]
      where
        passed : (i : ℕ) → bit (f.pass (point n Stage.Inside) t.row) i ≡ true → bit (f.pass (point n Stage.Inside) (at_start n)) i ≡ true
        passed i on =
            let long = run-width f (owns items body forest.paths) t before in
            let inside : i < length forest.paths = (let k = bit-in (f.pass (point n Stage.Inside) t.row) i on in let l = (owns items body forest.paths).keeps (point n Stage.Inside) t.row long in omega (k, l, arith)) in
            elim ((owns items body forest.paths).pass_own (point n Stage.Inside) i inside) [
              | inl always ↦ always.1 (at_start n) (widths n within) ∙ sym (always.1 t.row long) ∙ on
              | inr keeps ↦ keeps (at_start n) (widths n within) ∙ brought t before n at within i (sym (keeps t.row long) ∙ on)
            ]

    not-bad : (b : Bool) → (b ≡ true → ⊥) → b ≡ false
    not-bad true h = absurd (h refl)
    not-bad false h = refl

    pub decided : MeetsNoBad f
    decided u run = by u.at.block u.at.stage refl
      where
        missing : (n : ℕ) → slice_get body.blocks n ≡ None → f.bad (point n Stage.Inside) u.row ≡ false
        missing n e = ap (λ (z : List PathAction). is_some (first_by items body forest.paths z u.row)) (none-inside items body forest below watched n e)

        inside : (n : ℕ) → u.at ≡ point n Stage.Inside → (o : Option Block) → slice_get body.blocks n ≡ o → f.bad (point n Stage.Inside) u.row ≡ false
        inside n at None e = missing n e
        inside n at (Some block) e = not-bad (f.bad (point n Stage.Inside) u.row) (within-block u run n at (slice_get_within body.blocks n block e))

        leaving : (n : ℕ) (k : Bool) → u.at ≡ point n (Stage.Leaving k) → (o : Option Block) → slice_get body.blocks n ≡ o → f.bad (point n (Stage.Leaving k)) u.row ≡ false
        leaving n k at None e = ap (λ (z : List PathAction). is_some (first_by items body forest.paths z u.row)) (none-leaving items body n k e)
        leaving n k at (Some block) e =
            let it = came u run n k at in
            not-bad (f.bad (point n (Stage.Leaving k)) u.row) (on-way u it.0 run it.1 n k it.2 it.3 (slice_get_within body.blocks n block e))

        by : (n : ℕ) (stage : Stage) → u.at ≡ point n stage → f.bad u.at u.row ≡ false
        by n Stage.Entry at = ap (λ (z : Point). f.bad z u.row) at
        by n Stage.Inside at = ap (λ (z : Point). f.bad z u.row) at ∙ inside n at (slice_get body.blocks n) refl
        by n (Stage.Leaving k) at = ap (λ (z : Point). f.bad z u.row) at ∙ leaving n k at (slice_get body.blocks n) refl
