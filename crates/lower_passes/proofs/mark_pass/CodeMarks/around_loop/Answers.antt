use Rattle.std.proofs.Common.{rules, ◌≡◌, ◌∙◌, ◌++◌, ◌∷◌, [], ℕ, map, take, drop, sym, ap}
use Rattle.std.proofs.lemmas.List.{drop-map}
use Rattle.std.proofs.lemmas.Result.{on_ok_weaker}
use Rattle.lower_rules.specs.Build.{outside, is_left_by}
use Rattle.lower_code.specs.View.{exit_of}
use Rattle.lower_passes.specs.MarkRules.{Marking, marking_of, last, own_jumps, around_loop}
use Rattle.lower_passes.specs.declared.marks.CodeMark.{CodeMark}
use Rattle.lower_passes.proofs.mark_pass.CodeMarks.around_loop.Goals as goal

pub returns : goal.returns
returns c =
    let m : Marking = marking_of c.args.self.now in
    let id : ℕ = c.args.id.0 in
    let last_is : c.last-last.result ≡ last m = c.last-last.ensures in
    let left = c.in_ok-leave_loop.ensures in
    let own : c.behind.result.now ≡ drop c.last-last.result.jumps c.args.self.now.jumps = search rules in
    let own_are : map exit_of c.behind.result.now ≡ own_jumps m =
    ap (map exit_of) own ∙ sym (drop-map exit_of c.last-last.result.jumps c.args.self.now.jumps)
    ∙ ap (λ (l : CodeMark). drop l.jumps m.jumps) last_is in
    let ends : c.is_left-has_end.result ≡ is_left_by id (own_jumps m) = c.is_left-has_end.ensures ∙ ap (is_left_by id) own_are in
    let jumps : map exit_of c.leave_loop.new.self.jumps ≡ take (last m).jumps m.jumps ++ outside id (own_jumps m) =
    left.1 ∙ ap (λ (l : CodeMark). take l.jumps m.jumps ++ outside id (drop l.jumps m.jumps)) last_is in
    let then_all : c.push.new.self ≡ c.leave_loop.new.self.marks ++ record c.last-last.result { has_end = c.is_left-has_end.result; arms = 0 } ∷ [] → marking_of (record { marks = c.push.new.self; jumps = c.leave_loop.new.self.jumps }) ≡ around_loop id m =
    λ pushed. let marks : c.push.new.self ≡ m.marks ++ record (last m) { has_end = is_left_by id (own_jumps m); arms = 0 } ∷ [] =
    pushed ∙ (λ i. left.0 i ++ record (last_is i) { has_end = ends i; arms = 0 } ∷ []) in
    (λ i. record { marks = marks i; jumps = jumps i }) in
    on_ok_weaker c.push.result then_all c.push.ensures.pushed
