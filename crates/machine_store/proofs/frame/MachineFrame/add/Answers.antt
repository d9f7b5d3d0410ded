use Rattle.std.proofs.Common.{◌≡◌, ℕ, suc, None, length, ap, ◌∙◌, arith}
use Rattle.std.proofs.lemmas.Grind.{common_steps}
use Rattle.machine_store.specs.Frames.{place_of, place_in}
use Rattle.machine_store.proofs.Frames.{index_added}
use Rattle.machine_store.proofs.frame.MachineFrame.add.Goals as goal

pub invariant_of-self-2 : goal.invariant_of-self-2
invariant_of-self-2 c =
    let indexed : (key : ℕ) → place_in c.widen.new.index key ≡ place_of key c.self.inside.entries = λ key. c.widen.ensures.same key ∙ c.self.invariant key in
    let none : place_of c.args.entry.key c.self.inside.entries ≡ None = ap (λ frame. place_of c.args.entry.key frame.1) c.self.view_is ∙ c.requires in
    let number : c.in-Ok.number ≡ suc (length c.self.inside.entries) = grind (arith, common_steps) in
    λ key. rw (c.set.ensures, c.in_ok-push.ensures.pushed, number) (index_added c.widen.new.index c.self.inside.entries c.args.entry indexed c.in-Ok-widen.ensures.wide none key)
