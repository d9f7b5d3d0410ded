use Rattle.std.proofs.Common.{◌≡◌, ◌+◌, ◌++◌, ◌∙◌, ℕ, List, map, refl, ap, arith}
use Rattle.cfg_graph.specs.declared.place.Place.{Place}
use Rattle.cfg_graph.specs.declared.statement.Stmt.{Stmt}
use Rattle.cfg_graph.specs.Moves.Gone.{is_at_or_above}
use Rattle.cfg_graph.specs.Places.{named}
use Rattle.drop_flags.specs.Flags.{store_if, stores_below}
use Rattle.drop_flags.proofs.Following.{one_more_by, none_left}
use Rattle.drop_flags.proofs.Stored.{near-stores, near-fits}
use Rattle.drop_flags.proofs.flags.Flags.add_below.Goals as goal

pub loop-path-init : goal.loop-path-init
loop-path-init c =
    let first = c.args.self.now.first + c.near-near.result.first in
    ((let e : first ≡ first + 0 = omega arith in e), refl)

pub overflow_add-flag-in-loop-path : goal.overflow_add-flag-in-loop-path
overflow_add-flag-in-loop-path c =
    let near = c.near-near.result in
    let fits = near-fits c.args.self.now.paths near.paths.now c.args.place.now.local near.first c.near-near.ensures in
    let t = c.loop-path-test.true in
    let e = c.loop-path.invariant.0 in
    let r = c.requires in omega (fits, t, e, r, arith)

pub loop-path-preserved : goal.loop-path-preserved
loop-path-preserved c =
    let item : Place = c.path-item.result in
    let i = c.loop-path.path-index in
    let near = c.near-near.result in
    let so_far = c.loop-path.invariant.0 in (
      (let e : c.loop-path.flag + 1 ≡ c.args.self.now.first + near.first + (i + 1) = omega (so_far, arith) in e),
      one_more_by (λ (l : List Place) (n : ℕ). stores_below (named c.args.place.now) c.args.present (map named l) n)
          (λ (p : Place) (n : ℕ). store_if (is_at_or_above (named c.args.place.now) (named p)) n c.args.present)
          near.paths.now i
          c.loop-path.flag item _ _ _ (λ x rest n. refl) c.loop-path-test.true c.path-item.is c.in_ok-add_if.ensures
          c.loop-path.invariant.1,
    )

pub returns : goal.returns
returns c =
    let near = c.near-near.result in
    none_left (λ (l : List Place). stores_below (named c.args.place.now) c.args.present (map named l) c.loop-path.flag)
    near.paths.now c.loop-path.path-index _ _ refl c.loop-path-test.false c.loop-path.invariant.1
    ∙ ap (λ (l : List Stmt). c.args.stmts.now ++ l)
    (near-stores (named c.args.place.now) c.args.present c.args.self.now.paths near.paths.now near.first
    c.args.self.now.first
    c.near-near.ensures)
