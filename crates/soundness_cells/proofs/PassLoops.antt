-- Rules of evaluation that keep to what the pass says of scopes: `drop`, assignments, jumps and loops.
use Rattle.std.proofs.Common.{◌≡◌, ◌⊎◌, inl, inr, ℕ, zero, suc, ◌==◌, Bool, true, false, List, [], ◌∷◌, ◌++◌, Option, Some, None, if◌then◌else◌, refl, ap, sym, ◌∙◌, subst}
use Rattle.std.proofs.lemmas.Bool.{false≢true}
use Rattle.std.proofs.lemmas.Bool.Decides.{Decides-eqb}
use Rattle.mir_ty.specs.declared.ty.TyId.{TyId}
use Rattle.mir_ty.specs.Facts.{needs_drop}
use Rattle.mir_ty.specs.ItemTable.{ItemTable}
use Rattle.store_model.specs.Effects as effects
use Rattle.store_model.specs.Effects.{EffectSite, Action, Effects, Normal, Out, Go, Unwind, Halts}
use Rattle.store_model.specs.Places.Place.{whole_local}
use Rattle.src_meaning.specs.Forms as forms
use Rattle.src_meaning.specs.Forms.{Destination, LoopsAndGuards, Meaning, in_loop, loop_destination, moved, is_never, site_of}
use Rattle.src_meaning.specs.Scopes.{Entry, Scope, Scopes, with_scope, without_operands, all_entries, Exit, Value, Breaks, Continues, Returns, Panics, Run, At, Over, Does, on_value}
use Rattle.src_meaning.specs.Shape.{NodeHead}
use Rattle.well_typed.specs.Places.{LoopAround, Context, within, loop_with}
use Rattle.soundness_values.proofs.Leaving.{Shown, ShownOut, shown_more, Among}
use Rattle.soundness_cells.proofs.PassClear.{KeepsClear, any, Nothing}
use Rattle.soundness_cells.proofs.PassRules as rules
use Rattle.soundness_cells.proofs.PassRules.{InList}
use Rattle.soundness_cells.proofs.PassScopes as scopes
use Rattle.soundness_cells.proofs.PassScopes.{key_of, entries_of, entries_among, Other, seq, inside}
use Rattle.soundness_cells.proofs.PassSteps as steps

module _ {V : Type 0} (items : ItemTable) (needs : ℕ → Bool) (q : Effects V) (clear : V → ℕ → Type 0)
    (keeps : KeepsClear q needs clear) where
  abbrev Held : (ℕ → Type 0) → List Entry → V → Type 0
  Held = scopes.Held items needs q clear keeps

  abbrev After : Context → LoopsAndGuards → (ℕ → Type 0) → (Scopes → Type 0) → Exit → Scopes → V → Type 0
  After = scopes.After items needs q clear keeps

  abbrev AroundOk : Context → LoopsAndGuards → Scopes → Type 0
  AroundOk = scopes.AroundOk items needs

  abbrev Inside : Bool → Scopes → Scopes → Type 0
  Inside = scopes.Inside items needs

  abbrev Grown : Bool → Scopes → Scopes → Type 0
  Grown = scopes.Grown items needs

  abbrev Grows : Scopes → Scopes → Type 0
  Grows = scopes.Grows items needs

  abbrev Lands : Scopes → ℕ → Type 0
  Lands = scopes.Lands items needs

  abbrev Typed : Entry → Type 0
  Typed = scopes.Typed items needs

  abbrev Suits : TyId → Destination → Type 0
  Suits = scopes.Suits items needs

  abbrev Sound : Context → Meaning V → Type 0
  Sound = rules.Sound items needs q clear keeps

  abbrev DoesSo : Context → LoopsAndGuards → (ℕ → Type 0) → Does V → Type 0
  DoesSo = steps.DoesSo items needs q clear keeps

  -- ---- values that need no dropping

  pub unit_so : (c : Context) (around : LoopsAndGuards) (grown : Scopes → Type 0) (S : Scopes) → grown S → (h : NodeHead)
      (to : Destination) (v : V) → Held Nothing (entries_of S) v →
      Shown any (After c around (λ key. key ≡ key_of to) grown) (forms.put_unit items q h to S v)
  unit_so c around grown S g h to v k = scopes.deliver_so items needs q clear keeps c around grown S g h
      (λ site. effects.Put site effects.UnitValue) to Nothing v (λ site key n. absurd n) (λ site key e. e) k

  -- `drop(e)`
  pub dropping_so : (c : Context) (around : LoopsAndGuards) (own : Bool) (S : Scopes) → AroundOk c around S → (h : NodeHead)
      (to : Destination) (m : Meaning V) (v : V) → Sound c m → needs (key_of to) ≡ false →
      Held Nothing (entries_of S) v →
      Shown any (After c around (λ key. key ≡ key_of to) (Grown own S))
      (forms.dropping items q h around own m (forms.put_unit items q h to) S v)
  dropping_so c around own S ok h to m v sound n k =
      steps.scoped_so items needs q clear keeps c around (λ key. key ≡ key_of to) h.id own
      (λ T w. on_value (forms.operand items q around m T w) (forms.put_unit items q h to)) S v ok
      (λ key e. inl (ap needs e ∙ n))
      (seq (rules.Operated items needs q clear keeps c around own S (λ key. ⊥ ⊎ (m.head.id ≡ key)))
      (After c around (λ key. key ≡ key_of to) (Inside own S)) (forms.operand items q around m (with_scope h.id own S) v)
      (forms.put_unit items q h to)
      (rules.operand_so items needs q clear keeps c around own S ok (λ key. ⊥) m sound (with_scope h.id own S) v
      (scopes.opened items needs h.id own S) (none own) k)
      (λ T u x. unit_so c around (Inside own S) T x.0.0 h to u x.0.1)
      (λ exit T u o x. rules.other_exit items needs q clear keeps c around Nothing (λ key. key ≡ key_of to)
      (Inside own S) (Inside own S) (λ Z i. i) exit T u o x.0))
    where
      none : (own : Bool) → rules.Only items needs q clear keeps own (λ key. ⊥) (with_scope h.id own S)
      none true = tt
      none false = tt

  -- ---- assignment

  module _ (c : Context) (around : LoopsAndGuards) (own : Bool) (S : Scopes) (site : EffectSite) (key : ℕ)
      (names : (k : ℕ) → site.place ≡ whole_local k → Among (entries_of S) k) where
    abbrev In : Exit → Scopes → V → Type 0
    In = After c around Nothing (Inside own S)

    pub stored_so : (T : Scopes) (v : V) → Inside own S T → Held Nothing (entries_of T) v →
        Shown any In (forms.stored items q site key T v)
    stored_so A v (inside s T f t g) h =
        shown_more any fewer (forms.acts items q (effects.Put site (moved site.node key)) (without_operands (key ∷ []) s ∷ T) v)
        (scopes.acts_so items needs q clear keeps c around (Inside own S) (without_operands (key ∷ []) s ∷ T)
        (inside (without_operands (key ∷ []) s) T f
        (rules.all_without_keys Typed (key ∷ []) s.entries t.0, t.1) g)
        (effects.Put site (moved site.node key)) (InList (key ∷ [])) (λ k. site.place ≡ whole_local k) v moves (λ k e. e)
        (rules.taken_held items needs q clear keeps (key ∷ []) s.entries (entries_of T) v h))
      where
        moves : (k : ℕ) → (key ≡ k) ⊎ ⊥ → (whole_local key ≡ whole_local k) ⊎ ⊥
        moves k (inl e) = inl (ap whole_local e)
        moves k (inr n) = inr n

        held : (U : Scopes) (u : V) → Inside own S U →
            Held (λ k. site.place ≡ whole_local k) (entries_of U) u → (k : ℕ) →
            clear u k ⊎ (Among (entries_of U) k ⊎ ⊥)
        held U u i x k = by (x k)
          where
            by : clear u k ⊎ (Among (entries_of U) k ⊎ (site.place ≡ whole_local k)) →
                clear u k ⊎ (Among (entries_of U) k ⊎ ⊥)
            by (inl y) = inl y
            by (inr (inl a)) = inr (inl a)
            by (inr (inr e)) = inr (inl ((scopes.inside_wider items needs own S U i).entries k (names k e)))

        fewer : (exit : Exit) (U : Scopes) (u : V) →
            After c around (λ k. site.place ≡ whole_local k) (Inside own S) exit U u → In exit U u
        fewer Value U u x = (x.0, held U u x.0 x.1)
        fewer (Breaks loop) U u x = x
        fewer (Continues loop) U u x = x
        fewer Returns U u x = x
        fewer Panics U u x = x

    -- the value is stored, also where the drop of what the place held panics
    after_drop : (o : Out V) (T : Scopes) (v : V) → Inside own S T → Held Nothing (entries_of T) v →
        ShownOut any (λ w. (k : ℕ) → clear v k → clear w k) (λ w. (k : ℕ) → clear v k → clear w k) o →
        Shown any In (forms.stored_after items q site key T o)
    after_drop (Go w) T v i h f = stored_so T w i (λ k. kept k (h k))
      where
        kept : (k : ℕ) → clear v k ⊎ (Among (entries_of T) k ⊎ ⊥) → clear w k ⊎ (Among (entries_of T) k ⊎ ⊥)
        kept k (inl x) = inl (f k x)
        kept k (inr x) = inr x
    after_drop (Unwind w) T v i h f =
        seq In In (forms.stored items q site key T w) (At Panics) (stored_so T w i (λ k. kept k (h k)))
        (λ U u x. (x.0, λ k. all U u k (x.1 k))) (λ exit U u o x. x)
      where
        kept : (k : ℕ) → clear v k ⊎ (Among (entries_of T) k ⊎ ⊥) → clear w k ⊎ (Among (entries_of T) k ⊎ ⊥)
        kept k (inl x) = inl (f k x)
        kept k (inr x) = inr x

        all : (U : Scopes) (u : V) (k : ℕ) → clear u k ⊎ (Among (entries_of U) k ⊎ ⊥) →
            clear u k ⊎ (Among (all_entries U) k ⊎ ⊥)
        all U u k (inl x) = inl x
        all U u k (inr (inl a)) = inr (inl (entries_among U k a))
        all U u k (inr (inr n)) = absurd n
    after_drop (Halts halt w) T v i h f = tt

    pub replacing_so : (drops : Bool) (T : Scopes) (v : V) → Inside own S T → Held Nothing (entries_of T) v →
        Shown any In (forms.replacing items q drops site key T v)
    replacing_so true T v i h = after_drop (q.drop Normal site v) T v i h (keeps.drops_at Normal site v)
    replacing_so false T v i h = after_drop (Go v) T v i h (λ k x. x)

  pub assigning_so : (c : Context) (around : LoopsAndGuards) (own : Bool) (S : Scopes) → AroundOk c around S → (h : NodeHead)
      (to : Destination) (place value : Meaning V) (v : V) → Sound c place → Sound c value →
      needs (key_of to) ≡ false →
      ((k : ℕ) → (site_of place around).place ≡ whole_local k → Among (entries_of S) k) →
      Held Nothing (entries_of S) v →
      Shown any (After c around (λ key. key ≡ key_of to) (Grown own S))
      (forms.assigning items q h place value around own to S v)
  assigning_so c around own S ok h to place value v p x n names k =
      steps.scoped_so items needs q clear keeps c around flying h.id own
      (λ T w. on_value (forms.operand items q around value T w) then_place) S v ok (λ key e. inl (ap needs e ∙ n))
      (seq (rules.Operated items needs q clear keeps c around own S (λ key. ⊥ ⊎ (value.head.id ≡ key)))
      (After c around flying (Inside own S)) (forms.operand items q around value (with_scope h.id own S) v) then_place
      (rules.operand_so items needs q clear keeps c around own S ok (λ key. ⊥) value x (with_scope h.id own S) v
      (scopes.opened items needs h.id own S) (none own) k)
      (λ T u y. steps.then_so items needs q clear keeps c around Nothing flying (Inside own S) (place.reach around T u)
      then_store (reached T u y.0.0 y.0.1)
      (λ U w i h'. steps.then_so items needs q clear keeps c around Nothing flying (Inside own S)
      (forms.replacing items q (needs_drop items place.head.ty) (site_of place around) value.head.id U w)
      (forms.put_unit items q h to)
      (replacing_so c around own S (site_of place around) value.head.id names (needs_drop items place.head.ty) U w i h')
      (λ Z z i h''. unit_so c around (Inside own S) Z i h to z h'')))
      (λ exit T u o y. rules.other_exit items needs q clear keeps c around Nothing flying (Inside own S) (Inside own S)
      (λ Z i. i) exit T u o y.0))
    where
      flying : ℕ → Type 0
      flying key = key ≡ key_of to

      then_store : Does V
      then_store U w = on_value
          (forms.replacing items q (needs_drop items place.head.ty) (site_of place around) value.head.id U w)
          (forms.put_unit items q h to)

      then_place : Does V
      then_place T u = on_value (place.reach around T u) then_store

      none : (own : Bool) → rules.Only items needs q clear keeps own (λ key. ⊥) (with_scope h.id own S)
      none true = tt
      none false = tt

      reached : (T : Scopes) (u : V) → Inside own S T → Held Nothing (entries_of T) u →
          Shown any (After c around Nothing (Inside own S)) (place.reach around T u)
      reached T u i h' = shown_more any
          (λ exit U w y. (scopes.inside_grows items needs own S T U i y.0, y.1)) (place.reach around T u)
          (steps.reached items needs q clear keeps c around place p T u
          (scopes.around_more items needs c around S T (scopes.inside_wider items needs own S T i) ok) h')

  -- ---- loops and jumps

  jumped : (c : Context) (around : LoopsAndGuards) (S : Scopes) (exit : Exit) (flying other : ℕ → Type 0) → Other exit →
      ((T : Scopes) (v : V) → Held flying (entries_of T) v → scopes.HeldAt items needs q clear keeps c around other exit T v) →
      (r : Run V) → Shown any (After c around flying (Grows S)) r →
      Shown any (After c around other (Grows S)) (on_value r (At exit))
  jumped c around S exit flying other o f r h = seq (After c around flying (Grows S)) (After c around other (Grows S)) r
      (At exit) h (λ T v x. (x.0, f T v x.1))
      (λ exit T v o x. (x.0, scopes.other_held items needs q clear keeps c around flying other exit T v o x.1))

  -- a jump out of a loop, or out of the body, with its value in flight
  pub jump_so : (c : Context) (around : LoopsAndGuards) (exit : Exit) (h : NodeHead) (m : Option (Meaning V)) (to : Destination)
      (other : ℕ → Type 0) → Other exit →
      ((T : Scopes) (v : V) → Held (λ key. key ≡ key_of to) (entries_of T) v →
      scopes.HeldAt items needs q clear keeps c around other exit T v) →
      ((n : Meaning V) → m ≡ Some n → Sound c n × ((is_never items n.head.ty ≡ true) ⊎ Suits n.head.ty to)) →
      (S : Scopes) (v : V) → Lands S (key_of to) → AroundOk c around S → Held Nothing (entries_of S) v →
      Shown any (After c around other (Grows S)) (forms.jumping items q exit h m around to S v)
  jump_so c around exit h None to other o f given S v l ok k =
      jumped c around S exit (λ key. key ≡ key_of to) other o f (forms.put_unit items q h to S v)
      (unit_so c around (Grows S) S (scopes.not_grown items needs S) h to v k)
  jump_so c around exit h (Some m) to other o f given S v l ok k =
      jumped c around S exit (λ key. key ≡ key_of to) other o f (m.evaluate around false to S v)
      ((given m refl).0.evaluates around false to S v ok k (λ e. l) (given m refl).1)

  -- what stands around the body of a loop
  pub around_loop : (c : Context) (around : LoopsAndGuards) (a : LoopAround) (id : ℕ) (to : Destination) (S : Scopes) →
      a.loop ≡ id → AroundOk c around S → Lands S (key_of to) → Suits a.ty to →
      AroundOk (within a c) (in_loop id to around) S
  around_loop c around a id to S same ok lands suits = record {
    answer = ok.answer;
    answer_suits = ok.answer_suits;
    loops = λ loop b e. by_lands loop b (a.loop == loop) refl e;
    loops_suit = λ loop b e. by_suits loop b (a.loop == loop) refl e;
    names = ok.names;
    rooted = ok.rooted;
    temporary = ok.temporary;
  }
    where
      to_ : (loop : ℕ) → (a.loop == loop) ≡ true → loop_destination loop ((id, to) ∷ around.loops) ≡ to
      to_ loop e = ap (λ b. if b then to else loop_destination loop around.loops)
          ((Decides-eqb loop id).1 (sym ((Decides-eqb a.loop loop).0 e) ∙ same))

      past_ : (loop : ℕ) → (a.loop == loop) ≡ false →
          loop_destination loop ((id, to) ∷ around.loops) ≡ loop_destination loop around.loops
      past_ loop e = by (loop == id) refl
        where
          by : (b : Bool) → (loop == id) ≡ b →
              (if b then to else loop_destination loop around.loops) ≡ loop_destination loop around.loops
          by true k = absurd (false≢true (sym e ∙ (Decides-eqb a.loop loop).1 (same ∙ sym ((Decides-eqb loop id).0 k))))
          by false k = refl

      by_lands : (loop : ℕ) (b : LoopAround) (z : Bool) → (a.loop == loop) ≡ z →
          (if z then Some a else loop_with loop c.loops) ≡ Some b →
          Lands S (key_of (loop_destination loop ((id, to) ∷ around.loops)))
      by_lands loop b true e k = subst (λ d. Lands S (key_of d)) (sym (to_ loop e)) lands
      by_lands loop b false e k = subst (λ d. Lands S (key_of d)) (sym (past_ loop e)) (ok.loops loop b k)

      own : {b : LoopAround} → Some a ≡ Some b → a ≡ b
      own e = cc

      by_suits : (loop : ℕ) (b : LoopAround) (z : Bool) → (a.loop == loop) ≡ z →
          (if z then Some a else loop_with loop c.loops) ≡ Some b →
          Suits b.ty (loop_destination loop ((id, to) ∷ around.loops))
      by_suits loop b true e k = subst (λ d. Suits b.ty d) (sym (to_ loop e)) (subst (λ l. Suits l.ty to) (own k) suits)
      by_suits loop b false e k = subst (λ d. Suits b.ty d) (sym (past_ loop e)) (ok.loops_suit loop b k)

  module _ (c : Context) (around : LoopsAndGuards) (h : NodeHead) (a : LoopAround) (id_is : a.loop ≡ h.id) (to : Destination)
      (S : Scopes) where
    abbrev c' : Context
    c' = within a c

    abbrev around' : LoopsAndGuards
    around' = in_loop h.id to around

    abbrev Turned : Exit → Scopes → V → Type 0
    Turned = After c' around' Nothing (λ T. T ≡ S)

    abbrev Looped : Exit → Scopes → V → Type 0
    Looped = After c around (λ key. key ≡ key_of to) (λ T. T ≡ S)

    -- another loop is one around this one
    other_loop : (loop : ℕ) → (h.id == loop) ≡ false → scopes.IsLoop items needs q clear keeps c' loop →
        scopes.IsLoop items needs q clear keeps c loop
    other_loop loop n (b, e) = (b, by (a.loop == loop) refl (ap (λ z. z == loop) id_is ∙ n) e)
      where
        by : (x : Bool) → (a.loop == loop) ≡ x → (a.loop == loop) ≡ false →
            (if x then Some a else loop_with loop c.loops) ≡ Some b → loop_with loop c.loops ≡ Some b
        by true e f k = absurd (false≢true (sym f ∙ e))
        by false e f k = k

    own_destination : (loop : ℕ) → (h.id == loop) ≡ true → loop_destination loop around'.loops ≡ to
    own_destination loop e = ap (λ b. if b then to else loop_destination loop around.loops)
        ((Decides-eqb loop h.id).1 (sym ((Decides-eqb h.id loop).0 e)))

    other_destination : (loop : ℕ) → (h.id == loop) ≡ false →
        loop_destination loop around'.loops ≡ loop_destination loop around.loops
    other_destination loop e = by (loop == h.id) refl
      where
        by : (b : Bool) → (loop == h.id) ≡ b →
            (if b then to else loop_destination loop around.loops) ≡ loop_destination loop around.loops
        by true k = absurd (false≢true (sym e ∙ (Decides-eqb h.id loop).1 (sym ((Decides-eqb loop h.id).0 k))))
        by false k = refl

    turned_so : (r : Run V) (next : Does V) → Shown any Turned r →
        ((w : V) → Held Nothing (entries_of S) w → Shown any Looped (next S w)) →
        Shown any Looped (forms.turned items q h.id S r next)
    turned_so (At Value T w) next x f = subst (λ Z. Shown any Looped (next Z w)) (sym x.0)
        (f w (subst (λ Z. Held Nothing (entries_of Z) w) x.0 x.1))
    turned_so (At (Breaks loop) T w) next x f = by (h.id == loop) refl
      where
        at_begun : (h.id == loop) ≡ true → Held (λ key. key ≡ key_of to) (entries_of S) w
        at_begun e = subst (λ Z. Held (λ key. key ≡ key_of to) (entries_of Z) w) x.0
            (subst (λ d. Held (λ key. key ≡ key_of d) (entries_of T) w) (own_destination loop e) x.1.0)

        by : (b : Bool) → (h.id == loop) ≡ b →
            Shown any Looped (if b then At Value S w else At (Breaks loop) T w)
        by true e = (refl, at_begun e)
        by false e = (
          x.0,
          (
            subst (λ d. Held (λ key. key ≡ key_of d) (entries_of T) w) (other_destination loop e) x.1.0,
            other_loop loop e x.1.1,
          ),
        )
    turned_so (At (Continues loop) T w) next x f = by (h.id == loop)
      where
        by : (b : Bool) → Shown any Looped ((if b then next S else At (Continues loop) T) w)
        by true = f w (subst (λ Z. Held Nothing (entries_of Z) w) x.0 x.1)
        by false = x
    turned_so (At Returns T w) next x f = x
    turned_so (At Panics T w) next x f = x
    turned_so (Over halt w) next x f = tt

    pub turns_so : (fuel : ℕ) (turn : Does V) →
        ((w : V) → Held Nothing (entries_of S) w → Shown any Turned (turn S w)) → (v : V) →
        Held Nothing (entries_of S) v → Shown any Looped (forms.turns items q fuel h.id turn S v)
    turns_so zero turn t v k = tt
    turns_so (suc n) turn t v k = by (q.tick v) (keeps.ticks v) (λ w h. turns_so n turn t w h)
      where
        kept : (w : V) → ((key : ℕ) → clear v key → clear w key) → (key : ℕ) →
            clear v key ⊎ (Among (entries_of S) key ⊎ ⊥) → clear w key ⊎ (Among (entries_of S) key ⊎ ⊥)
        kept w f key (inl x) = inl (f key x)
        kept w f key (inr x) = inr x

        by : (o : Out V) →
            ShownOut any (λ w. (key : ℕ) → clear v key → clear w key) (λ w. (key : ℕ) → clear v key → clear w key) o →
            ((w : V) → Held Nothing (entries_of S) w → Shown any Looped (forms.turns items q n h.id turn S w)) →
            Shown any Looped
            (forms.ticked items q o (λ w. forms.turned items q h.id S (turn S w) (forms.turns items q n h.id turn)))
        by (Go w) f later =
            turned_so (turn S w) (forms.turns items q n h.id turn) (t w (λ key. kept w f key (k key))) later
        by (Unwind w) f later = tt
        by (Halts halt w) f later = tt
