use Rattle.std.proofs.Common.{◌≡◌, ◌≢◌, ◌⊎◌, inl, inr, ap, ◌∙◌, rules, false, true, List, Bool, slice_set}
use Rattle.bit_rows.specs.Words.{union}
use Rattle.init_flow.specs.declared.flow.Flow.{Flow}
use Rattle.init_flow.specs.WorkList.{state_of, row_at, is_reached}
use Rattle.init_flow.proofs.Turn.{changes, on_ok}
use Rattle.init_flow.proofs.flow.Flow.arrive.Goals.{else-not-changed-via-then-not-changed+else-was_reached, else-not-changed-via-else-not-changed}
use Rattle.init_flow.proofs.flow.Flow.arrive.Goals as goal

pub returns : goal.returns
returns c =
    let old = c.args.self.now in
    let mid : Flow = record { rows = c.unite-changed.new.self.rows; reached = c.set.new.self; waiting = c.unite-changed.new.self.waiting; heap = c.unite-changed.new.self.heap } in
    let u = c.unite-changed.ensures in
    let flags : is_reached (state_of old) c.args.block ≡ is_reached (state_of c.unite-changed.new.self) c.args.block = search rules in
    let news : (union c.args.row.now (row_at (state_of old) c.args.block) ≢ row_at (state_of old) c.args.block) ⊎ (is_reached (state_of old) c.args.block ≡ false) =
    elim c.else-not-changed.branch [
      | else-not-changed-via-then-not-changed+else-was_reached w ↦ inr (let is = w.was_reached.ensures in let no = w.if-was_reached in let same = u.reached in search rules)
      | else-not-changed-via-else-not-changed w ↦ inl (λ e. let off = u.change.1 e in let on = w.if-not-changed in search rules)
    ] in
    on_ok (λ waited. inl (changes old mid c.wait.new.self c.args.block c.args.row.now u.rows (c.set.ensures ∙ ap (λ (z : List Bool). slice_set z c.args.block true) u.reached) u.waiting u.heap waited news)) c.wait.result c.wait.ensures
