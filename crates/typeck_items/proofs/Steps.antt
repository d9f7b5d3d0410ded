-- Steps of a check, one behind another.
use Rattle.std.proofs.Common.{◌≡◌, ℕ, Bool, true, false, List, ◌∷◌, Result, Ok, Err, refl, ap, sym, subst, ◌∙◌}
use Rattle.mir_base.specs.declared.place_in_text.Pos.{Pos}
use Rattle.mir_base.specs.declared.rule.Rule.{Rule}
use Rattle.mir_base.specs.declared.rule.RuleError.{RuleError}
use Rattle.mir_ty.specs.ItemTable.{ItemTable}
use Rattle.mir_ty.specs.declared.ty.TyId.{TyId}
use Rattle.src_ast.specs.Syntax.{Syn, Syns, a_syn, list_of}
use Rattle.typeck_heads.specs.Answers.{Refuses}
use Rattle.typeck_heads.proofs.Sequences.{stopped}
use Rattle.typing_rules.specs.Check.{Check, TypingState, Broken, and_then, in_new_body, obeys, pure, the_items, within_body, ◌>>=◌, ◌>>◌}
use Rattle.typeck_items.specs.Forms.{done, fresh, with_outside}

-- two rules behind a check, and what is left goes on
pub two_rules : {A B C : Type 0} (o : Result (A × TypingState) Broken) (r1 : Rule) (at1 : Pos) (b1 : Bool) (r2 : Rule) (at2 : Pos) (b2 : Bool) (more : B) (k : B → Check C) →
    and_then o (λ _. obeys r1 at1 b1 >> (obeys r2 at2 b2 >> k more)) ≡ and_then (and_then o (λ _. obeys r1 at1 b1 >> (obeys r2 at2 b2 >> pure more))) k
two_rules (Ok a) r1 at1 true r2 at2 true more k = refl
two_rules (Ok a) r1 at1 true r2 at2 false more k = refl
two_rules (Ok a) r1 at1 false r2 at2 b2 more k = refl
two_rules (Err e) r1 at1 b1 r2 at2 b2 more k = refl

closed_rules : {A B C : Type 0} (a : A × TypingState) (r1 : Rule) (at1 : Pos) (b1 : Bool) (r2 : Rule) (at2 : Pos) (b2 : Bool) (more : B) (k : B → Check C) →
    (obeys r1 at1 b1 >> (obeys r2 at2 b2 >> k more)) a.1 ≡ and_then ((obeys r1 at1 b1 >> (obeys r2 at2 b2 >> pure more)) a.1) k
closed_rules a r1 at1 true r2 at2 true more k = refl
closed_rules a r1 at1 true r2 at2 false more k = refl
closed_rules a r1 at1 false r2 at2 b2 more k = refl

-- the same, where the second rule asks for the items
pub asked_rules : {A B C : Type 0} (o : Result (A × TypingState) Broken) (r1 : Rule) (at1 : Pos) (b1 : Bool) (r2 : Rule) (at2 : Pos) (b2 : ItemTable → Bool) (more : B) (k : B → Check C) →
    and_then o (λ _. the_items >>= (λ items. obeys r1 at1 b1 >> (obeys r2 at2 (b2 items) >> k more)))
    ≡ and_then (and_then o (λ _. the_items >>= (λ items. obeys r1 at1 b1 >> (obeys r2 at2 (b2 items) >> pure more)))) k
asked_rules (Ok a) r1 at1 b1 r2 at2 b2 more k = closed_rules a r1 at1 b1 r2 at2 (b2 a.1.items) more k
asked_rules (Err e) r1 at1 b1 r2 at2 b2 more k = refl

pub then_rule : {A B : Type 0} (o : Result (A × TypingState) Broken) (r : Rule) (at : Pos) (b : Bool) (x : B) →
    and_then o (λ _. obeys r at b >> pure x) ≡ and_then (and_then o (λ _. obeys r at b)) (λ _. pure x)
then_rule (Ok a) r at true x = refl
then_rule (Ok a) r at false x = refl
then_rule (Err e) r at b x = refl

pub left_alone : {A B C : Type 0} (o : Result (A × TypingState) Broken) (f : A → Check B) (x : C) →
    and_then o (λ a. f a >>= (λ _. pure x)) ≡ and_then (and_then o f) (λ _. pure x)
left_alone (Ok a) f x = refl
left_alone (Err e) f x = refl

-- ---- nodes, one behind another

module _ {A B : Type 0} (all_ : A → List Syn → Check B) where
  on_first : (whole : Result (B × TypingState) Broken) (a : A) (ss : Syns) (first : Syn) (rest : Syns) (s : TypingState) (o : Result (A × TypingState) Broken) →
      whole ≡ all_ a (list_of ss) s → a_syn first rest ≡ ss → all_ a (first ∷ list_of rest) s ≡ and_then o (λ b. all_ b (list_of rest)) →
      whole ≡ and_then o (λ b. all_ b (list_of rest))
  on_first whole a ss first rest s o so split law = so ∙ ap (λ z. all_ a (list_of z) s) (sym split) ∙ law

  -- one node more is checked
  pub step_on : (whole : Result (B × TypingState) Broken) (a b : A) (ss : Syns) (first : Syn) (rest : Syns) (s t : TypingState) (o : Result (A × TypingState) Broken) →
      whole ≡ all_ a (list_of ss) s → a_syn first rest ≡ ss → all_ a (first ∷ list_of rest) s ≡ and_then o (λ b. all_ b (list_of rest)) →
      o ≡ Ok (b, t) → whole ≡ all_ b (list_of rest) t
  step_on whole a b ss first rest s t o so split law here =
      on_first whole a ss first rest s o so split law ∙ ap (λ p. and_then p (λ b. all_ b (list_of rest))) here

  -- the first one is refused
  pub stop_on : (whole : Result (B × TypingState) Broken) (a : A) (ss : Syns) (first : Syn) (rest : Syns) (s : TypingState) (o : Result (A × TypingState) Broken) (e : RuleError) →
      whole ≡ all_ a (list_of ss) s → a_syn first rest ≡ ss → all_ a (first ∷ list_of rest) s ≡ and_then o (λ b. all_ b (list_of rest)) →
      Refuses o e → Refuses whole e
  stop_on whole a ss first rest s o e so split law here =
      subst (λ z. Refuses z e) (sym (on_first whole a ss first rest s o so split law)) (stopped o (λ b. all_ b (list_of rest)) e here)

-- ---- heads

abbrev forgot : {A : Type 0} → Result (A × TypingState) Broken → Result (Unit {0} × TypingState) Broken
forgot o = and_then o (λ _. pure {A = Unit {0}} tt)

-- a check for what it leaves, within a body of its own
pub done_inside : {A : Type 0} (o : Result (A × TypingState) Broken) (outer t : TypingState) (u : Unit {0}) →
    forgot o ≡ Ok (u, t) → forgot (within_body outer o) ≡ Ok (u, with_outside outer.next_node outer.breaks t)
done_inside (Ok a) outer t u is =
    ap (λ (r : Result (Unit {0} × TypingState) Broken). and_then r (λ v. λ x. Ok (v, with_outside outer.next_node outer.breaks x))) is
done_inside (Err e) outer t u is = absurd (cc)

pub stopped_inside : {A : Type 0} (o : Result (A × TypingState) Broken) (outer : TypingState) (e : RuleError) →
    Refuses (forgot o) e → Refuses (forgot (within_body outer o)) e
stopped_inside (Ok a) outer (RuleError.Broken rule at) is = absurd (cc)
stopped_inside (Ok a) outer RuleError.Memory is = tt
stopped_inside (Err b) outer e is = is

-- what a check gives is left alone by what comes behind it
pub then_done : {A B : Type 0} (o : Result (A × TypingState) Broken) (k : Check B) →
    and_then o (λ _. k) ≡ and_then (forgot o) (λ _. k)
then_done (Ok a) k = refl
then_done (Err e) k = refl
