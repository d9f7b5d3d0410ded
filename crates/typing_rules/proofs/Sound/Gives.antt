-- Rules for what a check gives, one a step of a row.
use Rattle.std.proofs.Common.{◌≡◌, ℕ, suc, ◌≤◌, Bool, true, false, Option, Some, None, Result, Ok, Err, IsTrue, Contains, ◌⊎◌, inl, inr, slice_get, List, refl, ap, sym, subst, ◌∙◌, arith}
use Rattle.std.specs.Prelude.{is_some, option_and_then}
use Rattle.mir_base.specs.declared.place_in_text.Pos.{Pos}
use Rattle.mir_base.specs.declared.rule.Rule.{Rule}
use Rattle.typing_rules.specs.Check.{Check, TypingState, Broken, and_then, obeys, known, breaks}
use Rattle.mir_ty.specs.declared.adt.Adt.{Adt}
use Rattle.mir_ty.specs.ItemTable.{ItemTable}
use Rattle.well_typed.specs.Types.{variant_at}
use Rattle.src_ast.specs.Syntax.{FieldsKind}
use Rattle.typed_tree.specs.Tree.{BodyTree}
use Rattle.typing_rules.specs.Promises.{Extends, AreReady, Grows, IsWhole, Then, Fact, Gives, Knows, KnowsItems, IsBelow}
use Rattle.typing_rules.specs.Scope.{Env, VariableMeaning, Local, Capture, InGuard}
use Rattle.typing_rules.proofs.Sound.Later.{extends_refl, extends_trans, ready_later, type_later}

-- parts of a claim, one after another
infixr 5 ◌⋆◌
pub ◌⋆◌ : {A B : Type 0} → A → B → A × B
a ⋆ b = (a, b)

pub grows_refl : (s : TypingState) → Grows s s
grows_refl s = record {
  items = extends_refl s.items;
  ready = λ h. h;
  breaks = λ b h. h;
  numbers = omega arith;
  below = λ h. h;
  made = λ b h. inl h;
}

pub whole_later : {old new : ItemTable} (body : BodyTree) → Extends old new → IsWhole old body → IsWhole new body
whole_later body e whole later f ready heads = whole later (extends_trans e f) ready heads

pub grows_trans : {s t u : TypingState} → Grows s t → Grows t u → Grows s u
grows_trans {s} {t} {u} p q = record {
  items = extends_trans p.items q.items;
  ready = λ h. q.ready (p.ready h);
  breaks = λ b h. q.breaks b (p.breaks b h);
  numbers = omega (arith, p.numbers, q.numbers);
  below = λ h. q.below (p.below h);
  made = λ body h. later body (q.made body h);
}
  where
    earlier : (body : BodyTree) → Contains s.bodies body ⊎ IsWhole t.items body → Contains s.bodies body ⊎ IsWhole
        u.items body
    earlier body (inl was) = inl was
    earlier body (inr whole) = inr (whole_later body q.items whole)

    later : (body : BodyTree) → Contains t.bodies body ⊎ IsWhole u.items body → Contains s.bodies body ⊎ IsWhole u.items
        body
    later body (inl was) = earlier body (p.made body was)
    later body (inr whole) = inr whole

pub then_map : {A : Type 0} {P R : A → TypingState → Type 0} (r : Result (A × TypingState) Broken) → Then r P → ((a : A) (t :
    TypingState) → P a t → R a t) → Then r R
then_map (Ok a) h k = k a.0 a.1 h
then_map (Err e) h k = tt

-- what is given says more
pub weaker : {A : Type 0} {s : TypingState} {Q : Fact A} (R : Fact A) {r : Result (A × TypingState) Broken} → Gives s Q r → ((a :
    A) (w : TypingState) → AreReady w.items → Grows s w → Q w a → R w a) → Gives s R r
weaker {s = s} {Q = Q} R {r} h k =
    record {
      so = λ ready. then_map r (h.so ready) λ a t g.
          (g.0, λ w l. k a w ((grows_trans g.0 l).ready ready) (grows_trans g.0 l) (g.1 w l));
    }

-- what is known of the items so far may be used
pub with_ready : {A : Type 0} {s : TypingState} {Q : Fact A} {r : Result (A × TypingState) Broken} → (AreReady s.items → Gives s Q
    r) → Gives s Q r
with_ready h = record { so = λ ready. (h ready).so ready }

-- one check after another: what the first one gives may be used of what the second one gives
pub bind : {A B : Type 0} {s : TypingState} {Q : Fact A} {R : Fact B} {r : Result (A × TypingState) Broken} {f : A → Check B} →
    Gives s Q r → ((a : A) (t : TypingState) → Grows s t → ((w : TypingState) → Grows t w → Q w a) → Gives t R (f a t)) → Gives s
    R (and_then r f)
bind {r = Ok a} {f = f} h k =
    record {
      so = λ ready. let g = h.so ready in
          then_map (f a.0 a.1) ((k a.0 a.1 g.0 g.1).so (g.0.ready ready)) (λ b u d. (grows_trans g.0 d.0, d.1));
    }
bind {r = Err e} h k = record { so = λ ready. tt }

-- a rule that is obeyed, and something that is known
pub obeyed : {B : Type 0} {s : TypingState} {R : Fact B} (rule : Rule) (at : Pos) (holds : Bool) (f : Check B) → (IsTrue
    holds → Gives s R (f s)) → Gives s R (and_then (obeys rule at holds s) (λ _. f))
obeyed rule at true f k = k refl
obeyed rule at false f k = record { so = λ ready. tt }

pub found : {A B : Type 0} {s : TypingState} {R : Fact B} (rule : Rule) (at : Pos) (o : Option A) (f : A → Check B) → ((a :
    A) → o ≡ Some a → Gives s R (f a s)) → Gives s R (and_then (known rule at o s) f)
found rule at (Some a) f k = k a refl
found rule at None f k = record { so = λ ready. tt }

-- a node's number is taken
abbrev pub numbered : TypingState → TypingState
numbered s = record s { next_node = suc s.next_node }

pub grows_number : (s : TypingState) → Grows s (numbered s)
grows_number s = record {
  items = extends_refl s.items;
  ready = λ h. h;
  breaks = λ b h. h;
  numbers = omega arith;
  below = λ h b has. let is = h b has in let less = is.0 in (omega (arith, less), is.1);
  made = λ body h. inl h;
}

pub after_number : {B : Type 0} {s : TypingState} {R : Fact B} {r : Result (B × TypingState) Broken} → Gives (numbered s) R r →
    Gives s R r
after_number {s = s} {r = r} h =
    record { so = λ ready. then_map r (h.so ready) λ b t g. (grows_trans (grows_number s) g.0, g.1) }

-- nothing is done
pub given : {A : Type 0} {s : TypingState} {Q : Fact A} (a : A) → (AreReady s.items → (w : TypingState) → Grows s w → Q w a) →
    Gives s Q (Ok (a, s))
given {s = s} a h = record { so = λ ready. (grows_refl s, h ready) }

-- what is broken gives nothing
pub gives_nothing : {A : Type 0} {s : TypingState} {Q : Fact A} (rule : Rule) (at : Pos) → Gives s Q (breaks {A = A} rule
    at s)
gives_nothing rule at = record { so = λ ready. tt }

-- ---- environments

below_later : (n m : ℕ) (means : VariableMeaning) → n ≤ m → IsBelow n means → IsBelow m means
below_later n m (Local key) le h = omega (arith, le, h)
below_later n m (InGuard key) le h = omega (arith, le, h)
below_later n m (Capture closure part) le h = tt

variants_same : {old new : ItemTable} → Extends old new → (n variant : ℕ) → variant_at old n variant ≡ variant_at new n
    variant
variants_same e n variant =
    ap (λ adts. option_and_then (λ (def : Adt). slice_get def.variants variant) (slice_get adts n)) (sym e.adts)

adts_same : {old new : ItemTable} → Extends old new → (n : ℕ) → slice_get old.adts n ≡ slice_get new.adts n
adts_same e n = ap (λ adts. slice_get adts n) (sym e.adts)

pub items_later : {old new : ItemTable} {kinds : List (List FieldsKind)} {self_adt : Option ℕ} → Extends old new → KnowsItems
    kinds self_adt old → KnowsItems kinds self_adt new
items_later e k = record {
  structs = λ n def at is. let v = k.structs n def (adts_same e n ∙ at) is in (v.0, sym (variants_same e n 0) ∙ v.1);
  units = λ n variant v at is. k.units n variant v (variants_same e n variant ∙ at) is;
  named = λ n variant v at. k.named n variant v (variants_same e n variant ∙ at);
  self = λ n is. subst (λ o. IsTrue (is_some o)) (adts_same e n) (k.self n is);
  adts = λ n def at. k.adts n def (adts_same e n ∙ at);
  functions = λ body head self rest at plain is.
      let f = k.functions body head self rest (ap (λ bodies. slice_get bodies body) (sym e.bodies) ∙ at) plain is in
      (f.0, type_later e self f.0 f.1, f.2);
}

pub knows_later : (env : Env) {s t : TypingState} → Grows s t → Knows env s → Knows env t
knows_later env {s} {t} g k = record {
  types = λ x has. ready_later g.items x.ty (k.types x has);
  keys = λ x has. below_later s.next_node t.next_node x.meaning g.numbers (k.keys x has);
  loops = λ a has. omega (arith, g.numbers, k.loops a has);
  breaks = g.below k.breaks;
  items = items_later g.items k.items;
}

pub knows_number : (env : Env) {s : TypingState} → Knows env s → Knows env (numbered s)
knows_number env {s} k = knows_later env (grows_number s) k
