-- Statements and blocks.
use Rattle.std.proofs.Common.{◌≡◌, Bool, true, false, ◌||◌, if◌then◌else◌, Option, None, IsTrue, refl, ap, sym, subst}
use Rattle.mir_base.specs.declared.place_in_text.Pos.{Pos}
use Rattle.mir_base.specs.declared.rule.Rule.{Rule}
use Rattle.mir_ty.specs.declared.ty.TyId.{TyId}
use Rattle.typed_tree.specs.Tree as tree
use Rattle.typed_tree.specs.Tree.{Node, node, Form, Nodes, no_node, a_node, MaybeNode, absent, present}
use Rattle.well_typed.specs.Claim.{Holds}
use Rattle.well_typed.specs.Nodes.{typed, tail_of, ends_in, is_block_ty}
use Rattle.well_typed.specs.Places.{ty_of, Taken}
use Rattle.well_typed.specs.Types.{is_never, is_never_ty, is_unit}
use Rattle.well_typed.proofs.ClaimLemmas.{and_true}
use Rattle.typing_rules.specs.Check.{Check, TypingState}
use Rattle.typing_rules.specs.Places.{unit, never, place_in_text}
use Rattle.typing_rules.specs.Promises.{IsAlone, AreReady, TypingSpot, at_spot, Stands, Sound, SoundTemporary}
use Rattle.typing_rules.specs.RowPromises.{IsMaybe, SoundStatement, SoundStatements, SoundTail}
use Rattle.typing_rules.specs.Rows.{Typer, block, block_ty, evaluate}
use Rattle.typing_rules.specs.Scope.{Env}
use Rattle.typing_rules.proofs.Sound.Branches.{unit_is}
use Rattle.typing_rules.proofs.Sound.Fitted.{settled_ends, same_self}
use Rattle.typing_rules.proofs.Sound.Gives.{◌⋆◌, bind, given, obeyed, after_number, numbered, grows_trans, grows_refl, grows_number, knows_later, knows_number}
use Rattle.typing_rules.proofs.Sound.Later.{alone_ready, same_is}
use Rattle.typing_rules.proofs.Sound.Operators.{unit_ready, never_ready, never_is}

block_alone : (env : Env) (expected : Option TyId) (w : TypingState) → AreReady w.items → (last : MaybeNode) (ends : Bool) →
    IsMaybe
    env expected w last → IsAlone w.items (block_ty last ends)
block_alone env expected w ready absent true is = never_ready w.items ready
block_alone env expected w ready absent false is = unit_ready w.items ready
block_alone env expected w ready (present n) ends is = is.alone

block_is : (w : TypingState) → AreReady w.items → (ns : Nodes) (last : MaybeNode) (ends : Bool) → ends_in w.items ns ≡ ends →
    IsTrue (is_block_ty w.items (block_ty last ends) ns last)
block_is w ready ns (present n) ends e = same_self (ty_of n).0
block_is w ready ns absent true e =
    subst (λ b. IsTrue (if b then is_never w.items never else is_unit w.items never)) (sym e) (never_is w.items ready)
block_is w ready ns absent false e =
    subst (λ b. IsTrue (if b then is_never w.items unit else is_unit w.items unit)) (sym e) (unit_is w.items ready)

tail_holds : (env inner : Env) (expected : Option TyId) (w : TypingState) (last : MaybeNode) → IsMaybe inner expected w last →
    inner.answer ≡ env.answer → (q : TypingSpot) → Stands inner w q → Holds (tail_of (at_spot w.items env.answer q) last)
tail_holds env inner expected w absent is e q stands = refl
tail_holds env inner expected w (present n) is e q stands =
    subst (λ a. Holds (typed (at_spot w.items a q) Taken n)) e (is.holds q stands)

pub block_sound : (env : Env) (at : Pos) (check : Check (Nodes × Bool × Env)) (tail : Env → Option TyId → Check
    MaybeNode) →
    SoundStatements env check → SoundTail env tail → SoundTemporary env (block at check tail)
block_sound env at check tail good good_tail expected s k =
    after_number (bind (good (numbered s) (knows_number env k)) λ done t g d.
    let now = d t (grows_refl t) in
    bind (good_tail done.2 now.0.answer expected t now.1) λ last u h e.
    settled_ends env expected u s.next_node at (block_ty last done.1) (tree.Block done.0 last) refl (λ w p. refl) λ w
    ready l.
    let dw = (d w (grows_trans h l)).0 in (
      block_alone done.2 expected w ready last done.1 (e w l),
      λ p stands.
          dw.holds p stands (λ c. tail_of c last) (λ q inner. tail_holds env done.2 expected w last (e w l) dw.answer q
          inner) ⋆
          block_is w ready done.0 last done.1 dw.ends,
    ))

-- ---- statements

pub evaluate_sound : (env : Env) (at : Pos) (has_semicolon : Bool) (e : Typer) → Sound env e → SoundStatement env
    (evaluate
    at env has_semicolon e)
evaluate_sound env at has_semicolon e good s k =
    after_number (bind (good None (numbered s) (knows_number env k)) λ n t g d.
    obeyed Rule.T03 (place_in_text n) (has_semicolon || (is_unit t.items (ty_of n) || is_never t.items (ty_of n))) _ λ
    ok.
    given _ λ ready w l. (
      record {
        holds = λ p stands rest behind on.
            and_true true (is_unit w.items unit) refl (unit_is w.items (l.ready ready)) ⋆ (d w l).holds p stands ⋆ on p
            stands;
        ends = λ rest. ap (λ b. b || ends_in w.items rest) (same_is l.items is_never_ty (ty_of n) (alone_ready t.items
            (ty_of n) (d t (grows_refl t)).alone));
        answer = refl;
      },
      knows_later env (grows_trans (grows_trans (grows_number s) g) l) k,
    ))
