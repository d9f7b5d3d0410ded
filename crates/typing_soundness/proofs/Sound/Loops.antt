-- Loops with a value.
use Rattle.std.proofs.Common.{◌≡◌, ℕ, suc, Bool, true, false, ◌||◌, ◌==◌, if◌then◌else◌, List, [], ◌∷◌, Option, Some, Result, Ok, Err, IsTrue, Contains, ◌⊎◌, inl, inr, refl, ap, sym, subst, ◌∙◌, arith}
use Rattle.std.specs.List.{list_any, list_all}
use Rattle.std.proofs.lemmas.Bool.{eqb-true, false≢true}
use Rattle.mir_base.specs.declared.place_in_text.Pos.{Pos}
use Rattle.mir_base.specs.declared.rule.Rule.{Rule}
use Rattle.mir_ty.specs.declared.ty.TyId.{TyId}
use Rattle.mir_ty.specs.ItemTable.{ItemTable}
use Rattle.typed_tree.specs.Nodes.{nodes_of}
use Rattle.typed_tree.specs.Tree as tree
use Rattle.typed_tree.specs.Tree.{Node, node, MaybeNode, absent, present}
use Rattle.well_typed.specs.Nodes.{is_loop_ty, carries_ty, carried}
use Rattle.well_typed.specs.Places.{LoopAround, ty_of}
use Rattle.well_typed.specs.Types.{fits, is_same, is_never, is_never_ty, is_unit}
use Rattle.typing_rules.specs.Check.{Check, TypingState, Broken, and_then, types_for}
use Rattle.typing_rules.specs.Places.{unit, never}
use Rattle.typing_rules.specs.Promises.{IsAlone, AreReady, Grows, Fact, Gives, TypingSpot, Stands, Carries, Knows, Sound, SoundTemporary}
use Rattle.typing_rules.specs.Rows.{Typer, loop_row, loop_around, ty_carried, one_type}
use Rattle.typing_rules.specs.Scope.{Env, LabelledLoop, within_loop}
use Rattle.src_ast.specs.Syntax.{Word}
use Rattle.typing_rules.proofs.Sound.Branches.{unit_is, unit_fits}
use Rattle.typing_rules.proofs.Sound.Fitted.{settled_ends, same_self, or_left, or_right}
use Rattle.typing_rules.proofs.Sound.Gives.{◌⋆◌, found, then_map, with_ready, after_number, numbered, grows_trans, knows_number, knows_later}
use Rattle.typing_rules.proofs.Sound.Jumps.{in_loop, loop_stands, knows_loop}
use Rattle.typing_rules.proofs.Sound.Constructors.{one_is_common, one_has}
use Rattle.typing_rules.proofs.Sound.Later.{fits_later, is_later, alone_later}
use Rattle.typing_rules.proofs.Sound.Places.{contains_cases}
use Rattle.well_typed.proofs.ClaimLemmas.{true_left, true_right}
use Rattle.mir_ty.proofs.ListLemmas.{Contains-slice_get}
use Rattle.typing_rules.proofs.Sound.Operators.{never_ready, or_cases, same_id}
use Rattle.typing_soundness.specs.Closures.{Tape}
use Rattle.typing_soundness.specs.Walks.{IsCarried, Walks, Walked, WalksNode}

-- ---- what is so of one of some things

pub any_in : {A : Type 0} (p : A → Bool) (xs : List A) → IsTrue (list_any p xs) → (x : A) × Contains xs x × IsTrue (p x)
any_in p [] h = absurd (let no_ : IsTrue false = h in cc)
any_in {A} p (y ∷ ys) h = by (any_in p ys) (or_cases (p y) (list_any p ys) h)
  where
    by : (IsTrue (list_any p ys) → (x : A) × Contains ys x × IsTrue (p x)) → IsTrue (p y) ⊎ IsTrue (list_any p ys) →
        (x : A) × Contains (y ∷ ys) x × IsTrue (p x)
    by on (inl here_) = (y, (0, omega arith, refl), here_)
    by on (inr more) = let f = on more in (f.0, (suc f.1.0, omega (arith, f.1.1), f.1.2), f.2)

pub any_of : {A : Type 0} (p : A → Bool) (xs : List A) (x : A) → Contains xs x → IsTrue (p x) → IsTrue (list_any p xs)
any_of p [] x has h = absurd (omega (arith, has.1))
any_of p (y ∷ ys) x has h = by (contains_cases y ys x has) (λ more. any_of p ys x more h)
  where
    by : (y ≡ x) ⊎ Contains ys x → (Contains ys x → IsTrue (list_any p ys)) → IsTrue (p y || list_any p ys)
    by (inl same) on = or_left (p y) _ (subst (λ z. IsTrue (p z)) (sym same) h)
    by (inr more) on = or_right (p y) _ (on more)

pub all_of : {A : Type 0} (p : A → Bool) (xs : List A) (x : A) → IsTrue (list_all p xs) → Contains xs x → IsTrue (p x)
all_of p [] x h has = absurd (omega (arith, has.1))
all_of p (y ∷ ys) x h has = by (contains_cases y ys x has) (λ more. all_of p ys x (true_right (p y) (list_all p ys) h)
    more)
  where
    by : (y ≡ x) ⊎ Contains ys x → (Contains ys x → IsTrue (p x)) → IsTrue (p x)
    by (inl same) on = subst (λ z. IsTrue (p z)) same (true_left (p y) (list_all p ys) h)
    by (inr more) on = on more

-- ---- the types of breaks

-- each is that of a break out of the loop
type_of_break : (loop : ℕ) (bs : List (ℕ × TyId)) (ty : TyId) → Contains (types_for loop bs) ty → Contains bs (loop, ty)
type_of_break loop [] ty has = absurd (omega (arith, has.1))
type_of_break loop (b ∷ bs) ty has = by (b.0 == loop) refl (type_of_break loop bs ty) has
  where
    later : Contains bs (loop, ty) → Contains (b ∷ bs) (loop, ty)
    later c = (suc c.0, omega (arith, c.1), c.2)

    first : IsTrue (b.0 == loop) → (Contains (types_for loop bs) ty → Contains bs (loop, ty)) → (b.1 ≡ ty) ⊎ Contains
        (types_for loop bs) ty → Contains (b ∷ bs) (loop, ty)
    first same on (inl is) = (0, omega arith, λ i. (eqb-true b.0 loop same i, is i))
    first same on (inr more) = later (on more)

    by : (c : Bool) → (b.0 == loop) ≡ c → (Contains (types_for loop bs) ty → Contains bs (loop, ty)) → Contains (if c
        then b.1 ∷ types_for loop bs else types_for loop bs) ty → Contains (b ∷ bs) (loop, ty)
    by true e on has = first e on (contains_cases b.1 (types_for loop bs) ty has)
    by false e on has = later (on has)

-- and each break's is among them
break_of_type : (loop : ℕ) (bs : List (ℕ × TyId)) (b : ℕ × TyId) → Contains bs b → b.0 ≡ loop → Contains (types_for loop
    bs) b.1
break_of_type loop [] b has is = absurd (omega (arith, has.1))
break_of_type loop (c ∷ bs) b has is = by (c.0 == loop) refl (contains_cases c bs b has) (λ more. break_of_type loop bs b
    more is)
  where
    by : (t : Bool) → (c.0 == loop) ≡ t → (c ≡ b) ⊎ Contains bs b → (Contains bs b → Contains (types_for loop bs) b.1) →
        Contains (if t then c.1 ∷ types_for loop bs else types_for loop bs) b.1
    by true e (inl same) on = (0, omega arith, ap (λ (x : ℕ × TyId). x.1) same)
    by true e (inr more) on = let f = on more in (suc f.0, omega (arith, f.1), f.2)
    by false e (inl same) on =
        absurd (false≢true (sym e ∙ subst (λ n. IsTrue (n == loop)) (sym (ap (λ (x : ℕ × TyId). x.0) same ∙ is))
        (same_self loop)))
    by false e (inr more) on = on more

-- ---- what is known of the walk as well

pub bind_walked : {A B : Type 0} {s : TypingState} {Q : Fact A} {P : A → TypingState → Type 0} {R : Fact B} {r : Result (A × TypingState)
    Broken} {f : A → Check B} → Gives s Q r → Walked P r → ((a : A) (t : TypingState) → Grows s t → ((w : TypingState) → Grows t w →
    Q w a) → P a t → Gives t R (f a t)) → Gives s R (and_then r f)
bind_walked {s = s} {Q = Q} {P = P} {R = R} {r = Ok a} {f = f} h w k =
    record {
      so = λ ready. let g = h.so ready in
          then_map (f a.0 a.1) ((k a.0 a.1 g.0 g.1 w.so).so (g.0.ready ready)) (λ b u d. (grows_trans g.0 d.0, d.1));
    }
bind_walked {r = Err e} h w k = record { so = λ ready. tt }

-- ---- loops

-- a later state with the breaks of an earlier one
abbrev with_breaks : TypingState → TypingState → TypingState
with_breaks t w = record w { breaks = t.breaks }

grows_with : {t w : TypingState} → Grows t w → Grows t (with_breaks t w)
grows_with g = record {
  items = g.items;
  ready = g.ready;
  breaks = λ b h. h;
  numbers = g.numbers;
  below = λ h b has. let is = h b has in let less = is.0 in let more = g.numbers in (
    omega (arith, less, more),
    alone_later g.items b.1 is.1,
  );
  made = g.made;
}

stands_with : (env : Env) {t w : TypingState} (p : TypingSpot) → Grows t w → Stands env w p → Stands env (with_breaks t w) p
stands_with env {t} {w} p g stands =
    record {
      variables = stands.variables;
      loops = λ a has. let l = stands.loops a has in (l.0, l.1, l.2, l.3, carry l.0 a.has_value l.4);
      closures = stands.closures;
    }
  where
    carry : (l : LoopAround) (b : Bool) → Carries w l b → Carries (with_breaks t w) l b
    carry l true h = λ b has is. h b (g.breaks b has) is
    carry l false h = h

module _ (items : ItemTable) (ty : TyId) where
  carry_ty : AreReady items → (v : MaybeNode) → ty_carried v ≡ ty → IsTrue (carries_ty items ty v)
  carry_ty ready absent is = subst (λ t. IsTrue (is_unit items t)) is (unit_is items ready)
  carry_ty ready (present n) is = subst (λ t. IsTrue (is_same t (ty_of n))) is (same_self (ty_of n).0)

pub loop_sound : (f : Tape) (env : Env) (at : Pos) (label : Option Word) (body : LabelledLoop → Typer) → ((a : LabelledLoop) → Sound
    (within_loop a env) (body a)) → ((a : LabelledLoop) (expected : Option TyId) → WalksNode f (body a expected)) → SoundTemporary env
    (loop_row at label body)
loop_sound f env at label body good walks expected s k =
    after_number (bind_walked (good a (Some unit) s' k') (walks a (Some unit) s') λ b t g d walked.
    found Rule.T03 at (one_type t.items (types_for s.next_node t.breaks)) _ λ ty one.
    with_ready λ all.
    settled_ends env expected t s.next_node at ty (tree.Loop b) refl (λ w p. refl) λ w ready l.
    let known = (knows_later (within_loop a env) g k').breaks in
    let common = one_is_common t.items all (types_for s.next_node t.breaks) ty one in
    let value = d (with_breaks t w) (grows_with l) in (
      one_has t.items all (λ u. IsAlone w.items u) (never_ready w.items ready) (types_for s.next_node t.breaks) (λ n u
          is. alone_later l.items u (known (s.next_node, u) (type_of_break s.next_node t.breaks u (Contains-slice_get (types_for s.next_node t.breaks) n u is))).1) ty one,
      λ p stands.
          let inner = loop_stands env s (with_breaks t w) p a (around ty) k refl refl refl (λ b has is. fits_later
          l.items ty b.1 (all_of (fits t.items ty) (types_for s.next_node t.breaks) b.1 (true_left (list_all (fits
          t.items ty) (types_for s.next_node t.breaks)) _ common) (break_of_type s.next_node t.breaks b has is)))
          (stands_with env p l stands) in
          value.holds (in_loop (around ty) p) inner ⋆ unit_fits w.items ready (ty_of b) value.fit ⋆ by w b ty t ready
          l walked (or_cases (is_never t.items ty) _ (true_right (list_all (fits t.items ty) (types_for s.next_node
          t.breaks)) _ common)),
    ))
  where
    s' : TypingState
    s' = numbered s

    a : LabelledLoop
    a = loop_around label s.next_node true expected

    around : TyId → LoopAround
    around ty = record { loop = s.next_node; ty = ty; has_value = true }

    k' : Knows (within_loop a env) s'
    k' = knows_loop env s' a (knows_number env k) (omega arith)

    carried_so : (w : TypingState) (b : Node) (ty x : TyId) → AreReady w.items → IsTrue (is_same ty x) → Contains s.breaks
        (s.next_node, x) ⊎ IsCarried (s.next_node, x) (nodes_of b) → IsTrue (list_any (carries_ty w.items ty) (carried
        s.next_node b))
    carried_so w b ty x ready same (inl old) = absurd (let less = (k.breaks (s.next_node, x) old).0 in omega (
      arith,
      less,
    ))
    carried_so w b ty x ready same (inr c) =
        any_of (carries_ty w.items ty) (carried s.next_node b) c.0 c.1 (carry_ty w.items ty ready c.0 (c.2 ∙ sym
        (same_id ty x same)))

    by : (w : TypingState) (b : Node) (ty : TyId) (t : TypingState) → AreReady w.items → Grows t w → Walks f s' t (nodes_of b) →
        IsTrue (is_never t.items ty) ⊎ IsTrue (list_any (is_same ty) (types_for s.next_node t.breaks)) → IsTrue
        (is_loop_ty w.items ty (carried s.next_node b))
    by w b ty t ready l walked (inl never) = or_left (is_never w.items ty) _ (is_later l.items is_never_ty ty never)
    by w b ty t ready l walked (inr any) =
        let x = any_in (is_same ty) (types_for s.next_node t.breaks) any in
        or_right (is_never w.items ty) _ (carried_so w b ty x.0 ready x.2 (walked.carried (s.next_node, x.0)
        (type_of_break s.next_node t.breaks x.0 x.1)))
