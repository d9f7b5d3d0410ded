-- Jumps, and loops without a value.
use Rattle.std.proofs.Common.{◌≡◌, ℕ, suc, ◌≤◌, Bool, true, false, ◌||◌, ◌==◌, if◌then◌else◌, List, [], ◌∷◌, ◌++◌, length, Option, Some, None, IsTrue, Contains, ◌⊎◌, inl, inr, refl, ap, sym, subst, ◌∙◌, arith}
use Rattle.std.specs.List.{find}
use Rattle.std.specs.Option.{option_map_or}
use Rattle.std.proofs.lemmas.List.Elements.{Contains-append_cases}
use Rattle.std.proofs.lemmas.Bool.{eqb-true, false≢true, true≢false}
use Rattle.mir_base.specs.declared.place_in_text.Pos.{Pos}
use Rattle.mir_base.specs.declared.rule.Rule.{Rule}
use Rattle.mir_ty.specs.declared.ty.Ty.{Ty}
use Rattle.mir_ty.specs.declared.ty.TyId.{TyId}
use Rattle.mir_ty.specs.ItemTable.{ItemTable}
use Rattle.mir_ty.proofs.ListLemmas.{slice_get-append_left, slice_get-last, Contains-slice_get, slice_get-Contains}
use Rattle.typed_tree.specs.Tree as tree
use Rattle.typed_tree.specs.Tree.{Node, node, Form, MaybeNode, absent, present}
use Rattle.well_typed.specs.Claim.{Holds, some, nothing}
use Rattle.well_typed.specs.Nodes.{carries, returned}
use Rattle.well_typed.specs.Places.{LoopAround, ty_of}
use Rattle.well_typed.specs.Types.{fits, is_same, is_never, is_never_ty, is_unit, is_unit_ty}
use Rattle.typing_rules.specs.Check.{Check, TypingState, breaks_out}
use Rattle.typing_rules.specs.Places.{unit, bool, never}
use Rattle.typing_rules.specs.Promises.{IsAlone, AreReady, AreBreaks, Grows, Gives, TypingSpot, at_spot, Means, Carries, IsAround, Stands, Knows, Sound, SoundTemporary}
use Rattle.typing_rules.specs.RowPromises.{IsLoopOf, IsMaybe, SoundMaybe}
use Rattle.typing_rules.specs.Rows.{Typer, continue_row, return_row, break_row, while_row, loop_around, carried, ty_carried, may_carry, is_some_node}
use Rattle.typing_rules.specs.Scope.{Env, LabelledLoop, VariableMeaning, Local, Capture, InGuard, within_loop}
use Rattle.src_ast.specs.Syntax.{Word}
use Rattle.typing_rules.proofs.Sound.Branches.{unit_is, unit_fits, bool_fits}
use Rattle.typing_rules.proofs.Sound.Fitted.{settled_ends, same_self}
use Rattle.typing_rules.proofs.Sound.Gives.{◌⋆◌, bind, with_ready, obeyed, found, after_number, numbered, grows_refl, grows_trans, knows_later, knows_number}
use Rattle.typing_rules.proofs.Sound.Later.{extends_refl, is_later}
use Rattle.typing_rules.proofs.Sound.Operators.{unit_ready, never_ready, never_is, or_cases, same_id, as_wanted}
use Rattle.typing_rules.proofs.Sound.Places.{contains_cases}

-- ---- what is carried out of a loop or a body

pub continue_sound : (env : Env) (at : Pos) (to : Option LabelledLoop) → IsLoopOf env to → SoundTemporary env (continue_row
    at to)
continue_sound env at to is expected s k =
    after_number (found Rule.T06 at to _ λ a e.
    settled_ends env expected (numbered s) s.next_node at never (tree.Continue a.loop) refl (λ w p. refl) λ w ready l. (
      never_ready w.items ready,
      λ p stands.
          subst (λ o. Holds (some o (λ (x : LoopAround). nothing))) (sym (stands.loops a (is a e)).1) refl ⋆ never_is
          w.items
          ready,
    ))

is_given : (items : ItemTable) (answer : TyId) (v : MaybeNode) → IsTrue (is_some_node v || is_unit items answer) → v ≡
    absent → IsTrue (is_unit items answer)
is_given items answer absent h e = h
is_given items answer (present n) h e = absurd (by (ap is_some_node e))
  where
    by : is_some_node (present n) ≡ is_some_node absent → ⊥
    by h = true≢false h

pub return_sound : (env : Env) (at : Pos) (value : Option TyId → Check MaybeNode) → SoundMaybe env value →
    SoundTemporary
    env (return_row at env.answer value)
return_sound env at value good expected s k =
    after_number (bind (good (Some env.answer) (numbered s) (knows_number env k)) λ v t g d.
    obeyed Rule.T03 at (is_some_node v || is_unit t.items env.answer) _ λ is.
    settled_ends env expected t s.next_node at never (tree.Return v) refl (λ w p. refl) λ w ready l.
    (never_ready w.items ready, λ p stands. by t w l v (d w l) is p stands ⋆ never_is w.items ready))
  where
    by : (t w : TypingState) → Grows t w → (v : MaybeNode) → IsMaybe env (Some env.answer) w v → IsTrue (is_some_node v ||
        is_unit
        t.items env.answer) → (p : TypingSpot) → Stands env w p → Holds (returned (at_spot w.items env.answer p) v)
    by t w l absent is h p stands = is_later l.items is_unit_ty env.answer h
    by t w l (present n) is h p stands =
        as_wanted (at_spot w.items env.answer p) env.answer n (is.holds p stands) is.fit

-- ---- breaks

pub contains_left : {A : Type 0} (xs ys : List A) (x : A) → Contains xs x → Contains (xs ++ ys) x
contains_left xs ys x h =
    Contains-slice_get (xs ++ ys) h.0 x (slice_get-append_left xs ys h.0 x (slice_get-Contains xs x h))

contains_last : {A : Type 0} (xs : List A) (x : A) → Contains (xs ++ x ∷ []) x
contains_last xs x = Contains-slice_get (xs ++ x ∷ []) (length xs) x (slice_get-last xs x)

breaks_out_sound : (loop : ℕ) (ty : TyId) (s : TypingState) → suc loop ≤ s.next_node → IsAlone s.items ty → Gives s (λ w u. Contains w.breaks
    (loop, ty)) (breaks_out loop ty s)
breaks_out_sound loop ty s less alone =
    record {
      so = λ ready. (
        record {
          items = extends_refl s.items;
          ready = λ h. h;
          breaks = λ b h. contains_left s.breaks ((loop, ty) ∷ []) b h;
          numbers = omega arith;
          below = λ h b has. by h b (Contains-append_cases s.breaks ((loop, ty) ∷ []) b has);
          made = λ body h. inl h;
        },
        λ w g. g.breaks (loop, ty) (contains_last s.breaks (loop, ty)),
      );
    }
  where
    last : (b : ℕ × TyId) → ((loop, ty) ≡ b) ⊎ Contains [] b → (suc b.0 ≤ s.next_node) × IsAlone s.items b.1
    last b (inl same) = subst (λ (x : ℕ × TyId). (suc x.0 ≤ s.next_node) × IsAlone s.items x.1) same (less, alone)
    last b (inr none) = absurd (omega (arith, none.1))

    by : AreBreaks s → (b : ℕ × TyId) → Contains s.breaks b ⊎ Contains ((loop, ty) ∷ []) b → (suc b.0 ≤ s.next_node) ×
        IsAlone s.items b.1
    by h b (inl was) = h b was
    by h b (inr new_) = last b (contains_cases (loop, ty) [] b new_)

unit_no_never : (items : ItemTable) → AreReady items → is_never items unit ≡ false
unit_no_never items ready = ap (λ o. option_map_or is_never_ty o false) (ready.begins 0 Ty.Unit refl)

unit_by : (items : ItemTable) → AreReady items → (ty : TyId) → IsTrue (fits items ty unit) → IsTrue (is_unit items ty)
unit_by items ready ty h = by (or_cases (is_same unit ty) (is_never items unit) h)
  where
    by : IsTrue (is_same unit ty) ⊎ IsTrue (is_never items unit) → IsTrue (is_unit items ty)
    by (inl same) = subst (λ t. IsTrue (is_unit items t)) (same_id unit ty same) (unit_is items ready)
    by (inr is) = absurd (false≢true (sym (unit_no_never items ready) ∙ is))

-- what a loop is told is carried out of it
carries_out : (env : Env) (w : TypingState) (a : LabelledLoop) (v : MaybeNode) (p : TypingSpot) → AreReady w.items → Stands env w p →
    IsMaybe
    env (carried (Some a)) w v → IsTrue (may_carry v a) → Contains w.breaks (a.loop, ty_carried v) → (l : LoopAround) →
    l.loop ≡ a.loop → l.has_value ≡ a.has_value → (b : Bool) → a.has_value ≡ b → Carries w l b → Holds (carries (at_spot
    w.items env.answer p) l v)
carries_out env w a absent p ready stands is may has l same value true e fit_ =
    unit_by w.items ready l.ty (fit_ (a.loop, unit) has (sym same))
carries_out env w a absent p ready stands is may has l same value false e fit_ = fit_
carries_out env w a (present n) p ready stands is may has l same value true e fit_ = (
  value ∙ e,
  as_wanted (at_spot w.items env.answer p) l.ty n (is.holds p stands) (fit_ (a.loop, ty_of n) has (sym
      same)),
)
carries_out env w a (present n) p ready stands is may has l same value false e fit_ =
    absurd (false≢true (sym e ∙ may))

carried_alone : (env : Env) (expected : Option TyId) (t : TypingState) (v : MaybeNode) → AreReady t.items → IsMaybe env expected t v → IsAlone
    t.items (ty_carried v)
carried_alone env expected t absent all is = unit_ready t.items all
carried_alone env expected t (present n) all is = is.alone

pub break_sound : (env : Env) (at : Pos) (to : Option LabelledLoop) (value : Option TyId → Check MaybeNode) → IsLoopOf env
    to →
    SoundMaybe env value → SoundTemporary env (break_row at to value)
break_sound env at to value is good expected s k =
    after_number (bind (good (carried to) (numbered s) (knows_number env k)) λ v t g d.
    found Rule.T06 at to _ λ a e.
    obeyed Rule.T06 at (may_carry v a) _ λ may.
    with_ready λ all. bind (breaks_out_sound a.loop (ty_carried v) t (let less = k.loops a (is a e) in omega (
      arith,
      g.numbers,
      less,
    )) (carried_alone env (carried to) t v all (d t (grows_refl t)))) λ _ u h f.
    settled_ends env expected u s.next_node at never (tree.Break a.loop v) refl (λ w p. refl) λ w ready l. (
      never_ready w.items ready,
      λ p stands.
          let around = stands.loops a (is a e) in
          subst (λ o. Holds (some o (λ (x : LoopAround). carries (at_spot w.items env.answer p) x v))) (sym around.1)
          (carries_out env w a v p ready stands (subst (λ o. IsMaybe env (carried o) w v) e (d w (grows_trans h l)))
          may (f w l)
          around.0 around.2 around.3 a.has_value refl around.4) ⋆ never_is w.items ready,
    ))

-- ---- loops

pub other_number : (n m : ℕ) → suc m ≤ n → (n == m) ≡ false
other_number n m h = by (n == m) refl
  where
    by : (b : Bool) → (n == m) ≡ b → (n == m) ≡ false
    by true e = absurd (let same = eqb-true n m e in omega (arith, h, same))
    by false e = e

-- the spot inside a loop
abbrev pub in_loop : LoopAround → TypingSpot → TypingSpot
in_loop l p = record p { loops = l ∷ p.loops }

pub loop_stands : (env : Env) (s w : TypingState) (p : TypingSpot) (a : LabelledLoop) (l : LoopAround) → Knows env s → a.loop ≡
    s.next_node →
    l.loop ≡ a.loop → l.has_value ≡ a.has_value → Carries w l a.has_value → Stands env w p → Stands (within_loop a
    env) w
    (in_loop l p)
loop_stands env s w p a l k fresh same value carry stands =
    record {
      variables = λ x has. means x.ty x.meaning (stands.variables x has);
      loops = λ b has. by b (contains_cases
          a env.loops b has);
      closures = stands.closures;
    }
  where
    means : (ty : TyId) (m : VariableMeaning) → Means w.items p ty m → Means w.items (in_loop l p) ty m
    means ty (Local key) h = h
    means ty (InGuard key) h = h
    means ty (Capture closure part) h = h

    first : IsAround w (in_loop l p) a
    first = (
      l,
      ap (λ b. if b then Some l else find (λ (x : LoopAround). x.loop == a.loop) p.loops) (subst (λ n. IsTrue (n ==
          a.loop)) (sym same) (same_self a.loop)),
      same,
      value,
      carry,
    )

    by : (b : LabelledLoop) → (a ≡ b) ⊎ Contains env.loops b → IsAround w (in_loop l p) b
    by b (inl e) = subst (IsAround w (in_loop l p)) e first
    by b (inr more) =
        let old = stands.loops b more in (
          old.0,
          ap (λ c. if c then Some l else find (λ (x : LoopAround). x.loop == b.loop) p.loops) (subst (λ n. (n ==
              b.loop) ≡
              false) (sym (same ∙ fresh)) (other_number s.next_node b.loop (k.loops b more))) ∙ old.1,
          old.2,
          old.3,
          old.4,
        )

pub knows_loop : (env : Env) (s : TypingState) (a : LabelledLoop) → Knows env s → suc a.loop ≤ s.next_node → Knows (within_loop a
    env) s
knows_loop env s a k below =
    record {
      types = k.types;
      keys = k.keys;
      loops = λ b has. by b (contains_cases a env.loops b has);
      breaks = k.breaks;
      items = k.items;
    }
  where
    by : (b : LabelledLoop) → (a ≡ b) ⊎ Contains env.loops b → suc b.loop ≤ s.next_node
    by b (inl e) = subst (λ (x : LabelledLoop). suc x.loop ≤ s.next_node) e below
    by b (inr more) = k.loops b more

pub while_sound : (env : Env) (at : Pos) (label : Option Word) (c body : LabelledLoop → Typer) → ((a : LabelledLoop) → Sound
    (within_loop a env) (c a)) → ((a : LabelledLoop) → Sound (within_loop a env) (body a)) → SoundTemporary env (while_row at
    label c body)
while_sound env at label c body good_c good_body expected s k =
    after_number (bind (good_c a (Some bool) s' k') λ n t g d.
    bind (good_body a (Some unit) t (knows_later (within_loop a env) g k')) λ b u h e.
    settled_ends env expected u s.next_node at unit (tree.While n b) refl (λ w p. refl) λ w ready f.
    let dn = d w (grows_trans h f) in let eb = e w f in (
      unit_ready w.items ready,
      λ p stands.
          let inner = loop_stands env s w p a l k refl refl refl (unit_is w.items ready) stands in
          dn.holds (in_loop l p) inner ⋆ bool_fits w.items ready (ty_of n) dn.fit ⋆ eb.holds (in_loop l p) inner ⋆
          unit_fits
          w.items ready (ty_of b) eb.fit ⋆ unit_is w.items ready,
    ))
  where
    s' : TypingState
    s' = numbered s

    a : LabelledLoop
    a = loop_around label s.next_node false None

    l : LoopAround
    l = record { loop = s.next_node; ty = unit; has_value = false }

    k' : Knows (within_loop a env) s'
    k' = knows_loop env s' a (knows_number env k) (omega arith)
