use Rattle.std.proofs.Common.{◌≡◌, Bool, false, length, Result, Ok, Err, IfOk, ap, ◌∙◌}
use Rattle.move_errors.specs.Runs.{problem}
use Rattle.move_errors.proofs.Owning.{owns}
use Rattle.move_errors.proofs.decide.block_shows.Goals as goal

if-ok : {T E : Type 0} (P Q : T → Type 0) → ((t : T) → P t → Q t) → (r : Result T E) → IfOk r P → IfOk r Q
if-ok P Q to (Ok t) h = to t h
if-ok P Q to (Err e) h = h

pub point_shows-requires-clause-row : goal.point_shows-requires-clause-row
point_shows-requires-clause-row c = ap length c.copy_into.ensures ∙ c.requires.row

pub way_shows-requires-clause-row : goal.way_shows-requires-clause-row
way_shows-requires-clause-row c =
    let w = c.args.watch.now in
    ap length (c.in_ok-point_shows.ensures.row c.if-branch.false)
    ∙ (owns w.items.now w.body.now w.forest.paths).keeps c.point.result c.copy_into.new.into (ap length c.copy_into.ensures ∙ c.requires.row)

pub point_shows-requires-2-clause-row : goal.point_shows-requires-2-clause-row
point_shows-requires-2-clause-row c =
    let w = c.args.watch.now in
    ap length (c.in_ok-point_shows.ensures.row c.if-branch.false)
    ∙ (owns w.items.now w.body.now w.forest.paths).keeps c.point.result c.copy_into.new.into (ap length c.copy_into.ensures ∙ c.requires.row)

pub returns-clause-inside : goal.returns-clause-inside
returns-clause-inside c =
    let w = c.args.watch.now in
    let law = owns w.items.now w.body.now w.forest.paths in
    let long = ap length (c.in_ok-point_shows.ensures.row c.if-branch.false) ∙ law.keeps c.point.result c.copy_into.new.into (ap length c.copy_into.ensures ∙ c.requires.row) in
    if-ok (λ (shown : Bool). shown ≡ false → c.point_shows-2.new.row ≡ (problem w.items.now w.body.now w.forest.paths).pass c.point-3.result c.point_shows.new.row)
    (λ (shown : Bool). shown ≡ false → length c.point_shows-2.new.row ≡ length w.forest.paths)
    (λ shown past none. ap length (past none) ∙ law.keeps c.point-3.result c.point_shows.new.row long)
    c.point_shows-2.result c.point_shows-2.ensures.row
