-- One scope more is left.
use Rattle.std.proofs.Common.{◌≡◌, ◌∙◌, ◌∷◌, ◌≤◌, ◌<◌, ◌-◌, ℕ, suc, Bool, true, false, not, List, [], length, refl, sym, ap, arith}
use Rattle.std.proofs.lemmas.Bool.{le-ltb, lt-ltb}
use Rattle.std.specs.Prelude.{nat_lt}
use Rattle.lower_rules.specs.Build.{LoweringFrame, BlockRest, Building, GoesTo, leaves_one, leaves_before, leaves_to, drops_before, drops_to, ending, share}
use Rattle.lower_rules.specs.Spots.{JumpWay}
use Rattle.cfg_graph.specs.declared.terminator.Term.{Term}
use Rattle.src_meaning.specs.Scopes as scopes
use Rattle.src_meaning.specs.Scopes.{Scopes, needing_drop}

one_less : (count base : ℕ) (S : Scopes) (scope : scopes.Scope) → count ≡ length (scope ∷ S) - base → (count ≡ 0 → ⊥) →
    count - 1 ≡ length S - base
one_less count base S scope is some =
    let all : length (scope ∷ S) ≡ suc (length S) = refl in
    omega arith

enough : (count base : ℕ) (S : Scopes) (scope : scopes.Scope) → count ≡ length (scope ∷ S) - base → (count ≡ 0 → ⊥) →
    base ≤ length S
enough count base S scope is some =
    let all : length (scope ∷ S) ≡ suc (length S) = refl in
    omega arith

too_few : (count base : ℕ) (S : Scopes) (scope : scopes.Scope) → count ≡ length (scope ∷ S) - base → count ≡ 0 →
    length S < base
too_few count base S scope is none =
    let all : length (scope ∷ S) ≡ suc (length S) = refl in
    omega arith

module _ (f : LoweringFrame) (way : JumpWay) (count : ℕ) (all : Scopes) (scope : scopes.Scope) (S : Scopes)
    (s : Building) (was : all ≡ scope ∷ S) (so_many : count ≡ length all - way.base) where
  so : count ≡ length (scope ∷ S) - way.base
  so = so_many ∙ ap (λ (w : Scopes). length w - way.base) was

  -- how many are left in the scopes around
  pub one_fewer : (count ≡ 0 → ⊥) → count - 1 ≡ length S - way.base
  one_fewer some = one_less count way.base S scope so some

  abbrev left_on : Bool
  left_on = not (nat_lt (length S) way.base)

  goes_on : (count ≡ 0 → ⊥) → left_on ≡ true
  goes_on some = ap not (le-ltb (length S) way.base (enough count way.base S scope so some))

  ends_here : count ≡ 0 → left_on ≡ false
  ends_here none = ap not (lt-ltb (length S) way.base (too_few count way.base S scope so none))

  -- in blocks that are shared

  abbrev shared_by : Bool → ℕ × Building
  shared_by test = leaves_one f test (drops_before f (needing_drop f.items scope.entries) S (leaves_before f way S s))
      (share f (GoesTo way.block) s)

  pub shared_more : (to after : ℕ × Building) → (count ≡ 0 → ⊥) → to ≡ leaves_before f way S s →
      after ≡ drops_before f (needing_drop f.items scope.entries) S to → after ≡ leaves_before f way all s
  shared_more to after some is made =
      made ∙ ap (drops_before f (needing_drop f.items scope.entries) S) is
      ∙ ap shared_by (sym (goes_on some)) ∙ ap (λ (w : Scopes). leaves_before f way w s) (sym was)

  pub shared_none : (after : ℕ × Building) → count ≡ 0 → after ≡ share f (GoesTo way.block) s →
      after ≡ leaves_before f way all s
  shared_none after none made =
      made ∙ ap shared_by (sym (ends_here none)) ∙ ap (λ (w : Scopes). leaves_before f way w s) (sym was)

  -- in what is open

  module _ (node : ℕ) where
    abbrev left_by : Bool → BlockRest × Building
    left_by test = leaves_one f test (drops_to f (needing_drop f.items scope.entries) S (leaves_before f way S s)
        (leaves_to f node way S s)) (ending (Term.Goto way.block) node, s)

    left_is : (b : Bool) (after : BlockRest × Building) → left_on ≡ b → after ≡ left_by b →
        after ≡ leaves_to f node way all s
    left_is b after test made =
        made ∙ ap left_by (sym test) ∙ ap (λ (w : Scopes). leaves_to f node way w s) (sym was)

    pub left_more : (to : ℕ × Building) (after : BlockRest × Building) → (count ≡ 0 → ⊥) →
        to ≡ leaves_before f way S s → after ≡ drops_to f (needing_drop f.items scope.entries) S to
        (leaves_to f node way S s) → after ≡ leaves_to f node way all s
    left_more to after some is made =
        left_is true after (goes_on some)
        (made ∙ ap (λ (t : ℕ × Building). drops_to f (needing_drop f.items scope.entries) S t
        (leaves_to f node way S s)) is)

    -- a scope of which nothing is dropped
    pub left_empty : (after : BlockRest × Building) → (count ≡ 0 → ⊥) → needing_drop f.items scope.entries ≡ [] →
        after ≡ leaves_to f node way S s → after ≡ leaves_to f node way all s
    left_empty after some empty made =
        left_is true after (goes_on some)
        (made ∙ ap (λ (es : List scopes.Entry). drops_to f es S (leaves_before f way S s) (leaves_to f node way S s))
        (sym empty))

    pub left_none : (after : BlockRest × Building) → count ≡ 0 → after ≡ (ending (Term.Goto way.block) node, s) →
        after ≡ leaves_to f node way all s
    left_none after none made = left_is false after (ends_here none) made
