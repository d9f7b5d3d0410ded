use Rattle.std.proofs.Common.{◌≡◌, ◌∷◌, [], ◌++◌, Bool, List, Contains, ◌∙◌, ap, ap₂, arith, refl, subst, sym}
use Rattle.mir_ty.specs.Facts.{copy_rule, drop_rule}
use Rattle.mir_ty.specs.Known.{known_by}
use Rattle.mir_ty.specs.Tables.{AreTables}
use Rattle.mir_ty.proofs.TableLemmas.{tables_alike, tables_type, interned}
use Rattle.mir_ty.proofs.items.Items.intern.Goals as goal

-- a mark is added behind the others
marked : {after before marks : List Bool} {mark shown : Bool} → after ≡ before ++ mark ∷ [] → before ≡ marks → mark ≡ shown → after ≡ marks ++ shown ∷ []
marked pushed same is = pushed ∙ ap₂ (λ marks mark. marks ++ mark ∷ []) same is

pub invariant_of-self-2 : goal.invariant_of-self-2
invariant_of-self-2 c =
    let s = c.self.inside in
    let copied : c.push-2.new.self.items ≡ s.copies.items ++ copy_rule s.adts s.closures (known_by s.copies.items) c.args.ty ∷ [] =
    marked (rw c.unwrap.ensures at c.push-2.ensures.items) c.reserve.ensures.items
    (c.is_shown-copies.ensures ∙ ap (λ marks. copy_rule s.adts s.closures (known_by marks) c.args.ty) c.as_slice.ensures.value) in
    let dropped : c.push-3.new.self.items ≡ s.drops.items ++ drop_rule s.adts s.closures (known_by s.drops.items) c.args.ty ∷ [] =
    marked (rw c.unwrap-2.ensures at c.push-3.ensures.items) c.reserve-2.ensures.items
    (c.is_shown-drops.ensures ∙ ap (λ marks. drop_rule s.adts s.closures (known_by marks) c.args.ty) c.as_slice-2.ensures.value) in
    let absent : ¬ Contains s.types c.args.ty = rw c.in_default.is at c.find.ensures in
    subst (λ types. AreTables (record s { types = types; copies = c.push-2.new.self; drops = c.push-3.new.self })) (sym c.in_ok-push.ensures.pushed)
    (tables_type s c.self.invariant c.args.ty absent (rw (← c.self.view_is) at c.requires) c.in_ok-check_ty.ensures (omega arith) c.push-2.new.self c.push-3.new.self copied dropped)

pub returns-clause-interned : goal.returns-clause-interned
returns-clause-interned c =
    let absent : ¬ Contains c.self.inside.types c.args.ty = rw c.in_default.is at c.find.ensures in
    rw (c.in_ok-push.ensures.pushed, ← c.self.view_is) (interned _ c.args.ty c.in_ok-number.number absent (c.in_ok-number.ensures.number ∙ c.len.ensures))

pub invariant_of-self : goal.invariant_of-self
invariant_of-self c = tables_alike c.self.inside c.self.invariant c.reserve.new.self c.self.inside.drops c.reserve.ensures.items refl

pub invariant_of-self-in_err-reserve-2 : goal.invariant_of-self-in_err-reserve-2
invariant_of-self-in_err-reserve-2 c = tables_alike c.self.inside c.self.invariant c.reserve.new.self c.reserve-2.new.self c.reserve.ensures.items c.reserve-2.ensures.items

pub invariant_of-self-in_err-push : goal.invariant_of-self-in_err-push
invariant_of-self-in_err-push c =
    rw c.in_err-push.ensures.refused (tables_alike c.self.inside c.self.invariant c.reserve.new.self c.reserve-2.new.self c.reserve.ensures.items c.reserve-2.ensures.items)
