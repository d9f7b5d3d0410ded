-- Numbers as they are written.
use Rattle.std.proofs.Common.{ℕ, zero, suc, Bool, true, false, ◌||◌, not, Option, IsTrue, refl, sym, subst, arith, nat_le}
use Rattle.std.specs.Prelude.{option_and_then}
use Rattle.std.specs.Option.{option_map_or}
use Rattle.std.proofs.lemmas.Bool.{leb-true, le-leb}
use Rattle.mir_base.specs.declared.int_kind.IntKind.{IntKind}
use Rattle.mir_base.specs.declared.place_in_text.Pos.{Pos}
use Rattle.mir_base.specs.declared.rule.Rule.{Rule}
use Rattle.typed_tree.specs.Tree as tree
use Rattle.typed_tree.specs.Tree.{Node}
use Rattle.well_typed.specs.Types.{kind_of, kind_in, is_within}
use Rattle.well_typed.proofs.ClaimLemmas.{and_true}
use Rattle.typing_rules.specs.Places.{int, a_node_of}
use Rattle.typing_rules.specs.Promises.{SoundTemporary}
use Rattle.typing_rules.specs.Rows.{literal, literal_value, chosen, most, is_signed_kind}
use Rattle.typing_rules.specs.Scope.{Env}
use Rattle.typing_rules.proofs.Sound.Fitted.{fitted_gives, passed_ends}
use Rattle.typing_rules.proofs.Sound.Gives.{bind, obeyed, after_number, numbered}
use Rattle.typing_rules.proofs.Sound.Operators.{int_at, int_ready}

one_less : (n m : ℕ) → IsTrue (nat_le (suc n) (suc m)) → IsTrue (nat_le n m)
one_less n m h = le-leb n m (let less = leb-true (suc n) (suc m) h in omega (arith, less))

pub within : (kind : IntKind) (is_negative : Bool) (value : ℕ) → IsTrue (not is_negative || is_signed_kind kind) →
    IsTrue
    (nat_le value (most kind is_negative)) → IsTrue (is_within (literal_value is_negative value) kind)
within IntKind.I32 false value s h = and_true _ _ refl h
within IntKind.I64 false value s h = and_true _ _ refl h
within IntKind.U32 false value s h = and_true (nat_le 0 value) _ (le-leb 0 value (omega arith)) h
within IntKind.U64 false value s h = and_true (nat_le 0 value) _ (le-leb 0 value (omega arith)) h
within IntKind.Usize false value s h = and_true (nat_le 0 value) _ (le-leb 0 value (omega arith)) h
within IntKind.I32 true zero s h = refl
within IntKind.I64 true zero s h = refl
within IntKind.I32 true (suc n) s h = and_true _ _ (one_less n 2147483647 h) refl
within IntKind.I64 true (suc n) s h = and_true _ _ (one_less n 9223372036854775807 h) refl
within IntKind.U32 true value s h = absurd (let no_ : IsTrue false = s in cc)
within IntKind.U64 true value s h = absurd (let no_ : IsTrue false = s in cc)
within IntKind.Usize true value s h = absurd (let no_ : IsTrue false = s in cc)

pub literal_sound : (env : Env) (at : Pos) (is_negative : Bool) (value : ℕ) (suffix : Option IntKind) → SoundTemporary
    env
    (literal at is_negative value suffix)
literal_sound env at is_negative value suffix expected s k =
    after_number (obeyed Rule.T03 at (not is_negative || is_signed_kind kind) _ λ signed.
    bind (fitted_gives env expected (a_node_of s.next_node at (int kind) (tree.Number (literal_value is_negative value)))
    (numbered s) refl) λ n t g d.
    obeyed Rule.T17 at (nat_le value (most kind is_negative)) _ λ few.
    passed_ends env expected t s.next_node at (int kind) (tree.Number (literal_value is_negative value)) n refl (λ w p.
    refl) d
    λ w ready l. (
      int_ready w.items ready kind,
      λ p stands. subst (λ o. IsTrue (option_map_or (is_within (literal_value is_negative
          value)) (option_and_then kind_in o) false)) (sym (int_at w.items ready kind)) (within kind is_negative value
          signed
          few),
    ))
  where
    kind : IntKind
    kind = chosen suffix (option_and_then (kind_of s.items) expected)
