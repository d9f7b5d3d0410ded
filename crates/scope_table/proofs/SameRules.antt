-- Two runs that are the same where the scopes hold something, by the ways in which runs are put together.
use Rattle.std.proofs.Common.{◌≡◌, ◌∙◌, ◌==◌, ℕ, zero, suc, Bool, true, false, List, [], ◌∷◌, refl, sym, ap, if◌then◌else◌}
use Rattle.mir_ty.specs.ItemTable.{ItemTable}
use Rattle.scope_table.proofs.Entering.{heads_in, heads_held, rest}
use Rattle.scope_table.proofs.Rules.{nearest_keeps, innermost_keeps}
use Rattle.scope_table.proofs.Runs.{more, after_value, outer, held_outer, left}
use Rattle.scope_table.specs.declared.row.ScopeRow.{ScopeRow}
use Rattle.scope_table.specs.Law.{Held, held, entered, WithValue, Enters}
use Rattle.scope_table.specs.Parts.{own_scope_if}
use Rattle.scope_table.specs.PartsLaw.{opened_in, SameWhere}
use Rattle.src_meaning.specs.Forms.{Meaning, LoopsAndGuards, entry_of, keys_of, pending_if, operands, take, acting, in_own_scope, ticked, turned, turns}
use Rattle.src_meaning.specs.Scopes.{Scopes, innermost, nearest_temporary, with_pending, with_scope, Value, Breaks, Continues, Returns, Panics, Run, At, Over, Does, on_value, ◌>>◌, changing, choosing, chosen, leave, leaving, in_scope, then_or_leave, in_scope_with}
use Rattle.src_meaning.specs.Shape.{NodeHead}
use Rattle.store_model.specs.Effects.{Out, Go, Unwind, Halts, Choice, Yes, No, Neither, Effects}

-- a scope that is opened, empty
abbrev pub opens : ℕ → Bool → Held → Held
opens id own H = (record { node = id; for_temporaries = own }, []) ∷ H

module _ {W : Type 0} where
  -- what has a value leaves scopes that hold this
  abbrev pub Comes : Held → Held → Does W → Type 0
  Comes H K f = (S : Scopes) → held S ≡ H → (x : W) → WithValue (λ after. held after ≡ K) (f S x)

  pub comes_of : (H : Held) (A : List ScopeRow) (f : Does W) → Enters (heads_in H) A f → Comes H (entered A H) f
  comes_of H A f enters S is x =
      more (λ after. held after ≡ entered A (held S)) (λ after. held after ≡ entered A H)
      (λ after h. h ∙ ap (entered A) is)
      (f S x) (enters S (sym (heads_held S) ∙ ap heads_in is) x)

  pub comes_then : (H K L : Held) (f g : Does W) → Comes H K f → Comes K L g → Comes H L (f >> g)
  comes_then H K L f g one other S is x =
      after_value (λ after. held after ≡ K) (λ after. held after ≡ L) g (f S x) (one S is x)
      (λ S' x' there. other S' there x')

  pub comes_choosing : (H K : Held) (test : W → Choice W) (f g : Does W) → Comes H K f → Comes H K g →
      Comes H K (choosing test f g)
  comes_choosing H K test f g one other S is x = by (test x)
    where
      by : (o : Choice W) → WithValue (λ after. held after ≡ K) (chosen o (f S) (g S))
      by (Yes x) = one S is x
      by (No x) = other S is x
      by (Neither halt x) = tt

  pub same : (H : Held) (f : Does W) → SameWhere H f f
  same H f S is x = refl

  pub same_then : (H : Held) (f f' g : Does W) → SameWhere H f f' → SameWhere H (f >> g) (f' >> g)
  same_then H f f' g one S is x = ap (λ (r : Run W). on_value r g) (one S is x)

  after_same : (H : Held) (g g' : Does W) → SameWhere H g g' → (r : Run W) → WithValue (λ after. held after ≡ H) r →
      on_value r g ≡ on_value r g'
  after_same H g g' one (At Value S x) is = one S is x
  after_same H g g' one (At (Breaks loop) S x) is = refl
  after_same H g g' one (At (Continues loop) S x) is = refl
  after_same H g g' one (At Returns S x) is = refl
  after_same H g g' one (At Panics S x) is = refl
  after_same H g g' one (Over halt x) is = refl

  pub then_same : (H K : Held) (f f' g g' : Does W) → SameWhere H f f' → Comes H K f' → SameWhere K g g' →
      SameWhere H (f >> g) (f' >> g')
  then_same H K f f' g g' one comes other S is x =
      ap (λ (r : Run W). on_value r g) (one S is x) ∙ after_same K g g' other (f' S x) (comes S is x)

  pub in_three : (r : Run W) (g k : Does W) → on_value (on_value r g) k ≡ on_value r (g >> k)
  in_three (At Value S x) g k = refl
  in_three (At (Breaks loop) S x) g k = refl
  in_three (At (Continues loop) S x) g k = refl
  in_three (At Returns S x) g k = refl
  in_three (At Panics S x) g k = refl
  in_three (Over halt x) g k = refl

  pub changing_then : (H : Held) (change : Scopes → Scopes) (g g' : Does W) →
      ((S : Scopes) → held (change S) ≡ held S) → SameWhere H g g' →
      SameWhere H (changing change >> g) (changing change >> g')
  changing_then H change g g' keeps one S is x = one (change S) (keeps S ∙ is) x

  pub choosing_same : (H : Held) (test : W → Choice W) (f f' g g' : Does W) → SameWhere H f f' → SameWhere H g g' →
      SameWhere H (choosing test f g) (choosing test f' g')
  choosing_same H test f f' g g' one other S is x = by (test x)
    where
      by : (o : Choice W) → chosen o (f S) (g S) ≡ chosen o (f' S) (g' S)
      by (Yes x) = one S is x
      by (No x) = other S is x
      by (Neither halt x) = refl

  module _ (items : ItemTable) (p : Effects W) where
    pub leaving_same : (H : Held) (f f' : Does W) → SameWhere H f f' →
        SameWhere H (leaving items p f) (leaving items p f')
    leaving_same H f f' one S is x = ap (leave items p) (one S is x)

    pub scope_same : (H : Held) (id : ℕ) (own : Bool) (f f' : Does W) → SameWhere (opens id own H) f f' →
        SameWhere H (in_scope items p id own f) (in_scope items p id own f')
    scope_same H id own f f' one S is x = ap (leave items p) (one (with_scope id own S) (ap (opens id own) is) x)

    pub own_scope_same : (H : Held) (h : NodeHead) (own : Bool) (f f' : Does W) →
        SameWhere (opened_in h.id (own_scope_if own) H) f f' →
        SameWhere H (in_own_scope items p h own f) (in_own_scope items p h own f')
    own_scope_same H h true f f' one = scope_same H h.id true f f' one
    own_scope_same H h false f f' one = one

    value_or_leave : (H : Held) (g g' : Does W) → SameWhere H g g' → (r : Run W) →
        WithValue (λ after. held after ≡ H) r → then_or_leave items p r g ≡ then_or_leave items p r g'
    value_or_leave H g g' one (At Value S x) is = one S is x
    value_or_leave H g g' one (At (Breaks loop) S x) is = refl
    value_or_leave H g g' one (At (Continues loop) S x) is = refl
    value_or_leave H g g' one (At Returns S x) is = refl
    value_or_leave H g g' one (At Panics S x) is = refl
    value_or_leave H g g' one (Over halt x) is = refl

    pub scope_with_same : (H K : Held) (id : ℕ) (own : Bool) (f f' g g' : Does W) → SameWhere (opens id own H) f f' →
        Comes (opens id own H) K f' → SameWhere K g g' →
        SameWhere H (in_scope_with items p id own f g) (in_scope_with items p id own f' g')
    scope_with_same H K id own f f' g g' one comes other S is x =
        let inside = with_scope id own S in
        let there : held inside ≡ opens id own H = ap (opens id own) is in
        ap (λ (r : Run W). then_or_leave items p r g) (one inside there x)
        ∙ value_or_leave K g g' other (f' inside x) (comes inside there x)

    pub comes_leaving : (H K : Held) (f : Does W) → Comes H K f → Comes H (rest K) (leaving items p f)
    comes_leaving H K f comes S is x =
        left items p (λ after. held after ≡ rest K) (f S x)
        (more (λ after. held after ≡ K) (λ after. held (outer after) ≡ rest K)
        (λ after h. held_outer after ∙ ap rest h) (f S x) (comes S is x))

    comes_out : (P Q : Scopes → Type 0) (g : Does W) (r : Run W) → WithValue P r →
        ((S : Scopes) (x : W) → P S → WithValue Q (g S x)) → WithValue Q (then_or_leave items p r g)
    comes_out P Q g (At Value S x) h next = next S x h
    comes_out P Q g (At (Breaks loop) S x) h next = left items p Q (At (Breaks loop) S x) tt
    comes_out P Q g (At (Continues loop) S x) h next = left items p Q (At (Continues loop) S x) tt
    comes_out P Q g (At Returns S x) h next = left items p Q (At Returns S x) tt
    comes_out P Q g (At Panics S x) h next = left items p Q (At Panics S x) tt
    comes_out P Q g (Over halt x) h next = tt

    pub comes_scope_with : (H K L : Held) (id : ℕ) (own : Bool) (f g : Does W) → Comes (opens id own H) K f →
        Comes K L g → Comes H L (in_scope_with items p id own f g)
    comes_scope_with H K L id own f g one other S is x =
        let inside = with_scope id own S in
        comes_out (λ after. held after ≡ K) (λ after. held after ≡ L) g (f inside x)
        (one inside (ap (opens id own) is) x)
        (λ S' x' there. other S' there x')

    -- a destination that is pending, or not, is no entry
    pub pending_then : (H : Held) (b : Bool) (h : NodeHead) (g g' : Does W) → SameWhere H g g' →
        SameWhere H (pending_if items p b innermost h >> g) (pending_if items p b innermost h >> g')
    pending_then H true h g g' one =
        changing_then H (innermost (with_pending (entry_of h))) g g'
        (innermost_keeps (with_pending (entry_of h)) (λ s. refl)) one
    pending_then H false h g g' one = one

    pub pending_there : (H : Held) (b : Bool) (h : NodeHead) (g g' : Does W) → SameWhere H g g' →
        SameWhere H (pending_if items p b nearest_temporary h >> g) (pending_if items p b nearest_temporary h >> g')
    pending_there H true h g g' one =
        changing_then H (nearest_temporary (with_pending (entry_of h))) g g'
        (nearest_keeps (with_pending (entry_of h)) (λ s. refl)) one
    pending_there H false h g g' one = one

    pub acting_same : (H : Held) (h : NodeHead) (around : LoopsAndGuards) (own : Bool) (ms ms' : List (Meaning W))
        (act act' : Does W) →
        SameWhere (opens h.id own H) (operands items p around ms) (operands items p around ms') → keys_of ms ≡ keys_of
        ms' → act ≡ act' →
        SameWhere H (acting items p h around own ms act) (acting items p h around own ms' act')
    acting_same H h around own ms ms' act act' one keys acts =
        scope_same H h.id own (operands items p around ms >> (take items p (keys_of ms) >> act))
        (operands items p around ms' >> (take items p (keys_of ms') >> act'))
        (λ S is x.
        ap (λ (r : Run W). on_value r (take items p (keys_of ms) >> act)) (one S is x)
        ∙ ap (λ (keys : List ℕ). on_value (operands items p around ms' S x) (take items p keys >> act)) keys
        ∙ ap (λ (act : Does W). on_value (operands items p around ms' S x) (take items p (keys_of ms') >> act)) acts)

    -- the turns of a loop, each of which has made nothing where it has a value
    after_turn : (H : Held) (id : ℕ) (begun : Scopes) → held begun ≡ H → (g g' : Does W) → SameWhere H g g' →
        (r : Run W) → WithValue (λ after. held after ≡ H) r → turned items p id begun r g ≡ turned items p id begun r g'
    after_turn H id begun at g g' one (At Value S x) is = one S is x
    after_turn H id begun at g g' one (At (Breaks loop) S x) is = refl
    after_turn H id begun at g g' one (At (Continues loop) S x) is = by (id == loop)
      where
        by : (b : Bool) → (if b then g begun else At (Continues loop) S) x
            ≡ (if b then g' begun else At (Continues loop) S) x
        by true = one begun at x
        by false = refl
    after_turn H id begun at g g' one (At Returns S x) is = refl
    after_turn H id begun at g g' one (At Panics S x) is = refl
    after_turn H id begun at g g' one (Over halt x) is = refl

    pub turns_same : (H : Held) (id n : ℕ) (turn turn' : Does W) → SameWhere H turn turn' → Comes H H turn' →
        SameWhere H (turns items p n id turn) (turns items p n id turn')
    turns_same H id zero turn turn' one comes S is x = refl
    turns_same H id (suc n) turn turn' one comes S is x = by (p.tick x) (turns_same H id n turn turn' one comes)
      where
        by : (o : Out W) → SameWhere H (turns items p n id turn) (turns items p n id turn') →
            ticked items p o (λ x. turned items p id S (turn S x) (turns items p n id turn)) ≡ ticked items p o
            (λ x. turned items p id S (turn' S x) (turns items p n id turn'))
        by (Go x) next =
            ap (λ (r : Run W). turned items p id S r (turns items p n id turn)) (one S is x)
            ∙ after_turn H id S is (turns items p n id turn) (turns items p n id turn') next (turn' S x) (comes S is x)
        by (Unwind x) next = refl
        by (Halts halt x) next = refl
