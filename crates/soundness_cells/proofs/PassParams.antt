-- The parameters of a body come in as entries of its own scope, followed by the names of their patterns; meanwhile
-- those that are still to come are in flight.
use Rattle.std.proofs.Common.{◌≡◌, ◌⊎◌, inl, inr, ℕ, Bool, true, false, List, [], ◌∷◌, ◌++◌, map, refl, ap, ◌∙◌, subst}
use Rattle.mir_ty.specs.declared.ty.TyId.{TyId}
use Rattle.mir_ty.specs.Facts.{needs_drop}
use Rattle.mir_ty.specs.ItemTable.{ItemTable}
use Rattle.store_model.specs.Effects as effects
use Rattle.store_model.specs.Effects.{Action, Effects, stored_by, Out, Go, Unwind, Halts, Choice, Yes, No, Neither}
use Rattle.store_model.specs.Places.Place.{whole_local}
use Rattle.typed_tree.specs.Nodes.{number_of, nodes_of}
use Rattle.typed_tree.specs.Tree.{Node, node, ParamTree}
use Rattle.src_meaning.specs.Forms as forms
use Rattle.src_meaning.specs.Forms.{Destination, LoopsAndGuards, Meaning, bound_entry, site_of_key}
use Rattle.src_meaning.specs.Locals.OfBody.{param_key}
use Rattle.src_meaning.specs.Programs as programs
use Rattle.src_meaning.specs.Programs.{params_entered}
use Rattle.src_meaning.specs.Scopes.{Entry, Scopes, innermost, with_entry, Exit, Value, Run, At, Over, Does, on_value, in_scopes, entry_site}
use Rattle.src_meaning.specs.Shape.{BoundName, operand_of_bound, head, shape}
use Rattle.well_typed.specs.Claim.{Holds}
use Rattle.well_typed.specs.Patterns as pattern_rules
use Rattle.well_typed.specs.Patterns.{Matched}
use Rattle.well_typed.specs.Places.{Context, ty_of}
use Rattle.soundness_values.proofs.Leaving.{Shown, ShownOut, shown_more, Among}
use Rattle.soundness_cells.proofs.PassBranches as branches
use Rattle.soundness_cells.proofs.PassFacts.{name_alone}
use Rattle.soundness_values.proofs.PassHeads.{named_form}
use Rattle.soundness_values.proofs.PlaceTypes.{same_type}
use Rattle.soundness_cells.proofs.PassClear.{KeepsClear, any, Nothing, Changes, MovedByAny, operands_of, StoredAt, ShownChoice, tested_by}
use Rattle.soundness_cells.proofs.PassNames as names
use Rattle.soundness_cells.proofs.PassNames.{NameIn}
use Rattle.soundness_cells.proofs.PassNodes as nodes
use Rattle.soundness_cells.proofs.PassPatterns as patterns
use Rattle.soundness_cells.proofs.PassRules as rules
use Rattle.soundness_cells.proofs.PassRules.{InList}
use Rattle.soundness_cells.proofs.PassScopes as scopes
use Rattle.soundness_cells.proofs.PassScopes.{entries_of, Other, seq, inside}
use Rattle.soundness_cells.proofs.PassSteps as steps

abbrev pub param_keys : List ParamTree → List ℕ
param_keys params = map param_key params

-- among the patterns of parameters is a name with this number
abbrev pub NamedParam : List ParamTree → ℕ → Type 0
NamedParam [] key = ⊥
NamedParam (param ∷ params) key = NameIn (nodes_of param.pattern) key ⊎ NamedParam params key

module _ {V : Type 0} (items : ItemTable) (needs : ℕ → Bool) (q : Effects V) (clear : V → ℕ → Type 0)
    (keeps : KeepsClear q needs clear) (fuel : ℕ) where
  abbrev Held : (ℕ → Type 0) → List Entry → V → Type 0
  Held = scopes.Held items needs q clear keeps

  abbrev After : Context → LoopsAndGuards → (ℕ → Type 0) → (Scopes → Type 0) → Exit → Scopes → V → Type 0
  After = scopes.After items needs q clear keeps

  abbrev AroundOk : Context → LoopsAndGuards → Scopes → Type 0
  AroundOk = scopes.AroundOk items needs

  abbrev Inside : Bool → Scopes → Scopes → Type 0
  Inside = scopes.Inside items needs

  abbrev Grown : Bool → Scopes → Scopes → Type 0
  Grown = scopes.Grown items needs

  abbrev Grows : Scopes → Scopes → Type 0
  Grows = scopes.Grows items needs

  abbrev Lands : Scopes → ℕ → Type 0
  Lands = scopes.Lands items needs

  abbrev Typed : Entry → Type 0
  Typed = scopes.Typed items needs

  abbrev Suits : TyId → Destination → Type 0
  Suits = scopes.Suits items needs

  abbrev Sound : Context → Meaning V → Type 0
  Sound = rules.Sound items needs q clear keeps

  abbrev DoesSo : Context → LoopsAndGuards → (ℕ → Type 0) → Does V → Type 0
  DoesSo = steps.DoesSo items needs q clear keeps

  -- ---- while some cells are in flight

  module _ (later : ℕ → Type 0) where
    abbrev pub Waiting : V → ℕ → Type 0
    Waiting v key = clear v key ⊎ later key

    wait_changes : (moved stored : ℕ → Type 0) (v w : V) → Changes clear moved stored v w →
        Changes Waiting moved stored v w
    wait_changes moved stored v w f key h = by h
      where
        on : clear w key ⊎ stored key → Waiting w key ⊎ stored key
        on (inl c) = inl (inl c)
        on (inr s) = inr s

        by : Waiting v key ⊎ moved key → Waiting w key ⊎ stored key
        by (inl (inl c)) = on (f key (inl c))
        by (inl (inr l)) = inl (inr l)
        by (inr m) = on (f key (inr m))

    wait_out : (o : Out V) (a b c d : V → Type 0) → ((w : V) → a w → c w) → ((w : V) → b w → d w) →
        ShownOut any a b o → ShownOut any c d o
    wait_out (Go w) a b c d f g h = f w h
    wait_out (Unwind w) a b c d f g h = g w h
    wait_out (Halts halt w) a b c d f g h = tt

    wait_choice : (o : Choice V) (a b : V → Type 0) → ((w : V) → a w → b w) → ShownChoice a a o → ShownChoice b b o
    wait_choice (Yes w) a b f h = f w h
    wait_choice (No w) a b f h = f w h
    wait_choice (Neither halt w) a b f h = tt

    wait_kept : (v w : V) → ((key : ℕ) → clear v key → clear w key) → (key : ℕ) → Waiting v key → Waiting w key
    wait_kept v w f key (inl c) = inl (f key c)
    wait_kept v w f key (inr l) = inr l

    pub waiting_keeps : KeepsClear q needs Waiting
    waiting_keeps = record {
      acts = λ action v. wait_out (q.act action v)
          (Changes clear (MovedByAny (operands_of action)) (StoredAt (stored_by action)) v)
          (Changes clear (MovedByAny (operands_of action)) Nothing v)
          (Changes Waiting (MovedByAny (operands_of action)) (StoredAt (stored_by action)) v)
          (Changes Waiting (MovedByAny (operands_of action)) Nothing v)
          (λ w. wait_changes (MovedByAny (operands_of action)) (StoredAt (stored_by action)) v w)
          (λ w. wait_changes (MovedByAny (operands_of action)) Nothing v w) (keeps.acts action v);
      chooses = λ test v. wait_choice (q.choose test v) (Changes clear (MovedByAny (tested_by test)) Nothing v)
          (Changes Waiting (MovedByAny (tested_by test)) Nothing v)
          (λ w. wait_changes (MovedByAny (tested_by test)) Nothing v w) (keeps.chooses test v);
      drops = λ mode e v. wait_out (q.drop mode (entry_site e) v)
          (λ w. clear w e.key × ((key : ℕ) → clear v key → clear w key))
          (λ w. clear w e.key × ((key : ℕ) → clear v key → clear w key))
          (λ w. Waiting w e.key × ((key : ℕ) → Waiting v key → Waiting w key))
          (λ w. Waiting w e.key × ((key : ℕ) → Waiting v key → Waiting w key))
          (λ w x. (inl x.0, wait_kept v w x.1)) (λ w x. (inl x.0, wait_kept v w x.1)) (keeps.drops mode e v);
      drops_at = λ mode site v. wait_out (q.drop mode site v) (λ w. (key : ℕ) → clear v key → clear w key)
          (λ w. (key : ℕ) → clear v key → clear w key) (λ w. (key : ℕ) → Waiting v key → Waiting w key)
          (λ w. (key : ℕ) → Waiting v key → Waiting w key) (λ w x. wait_kept v w x) (λ w x. wait_kept v w x)
          (keeps.drops_at mode site v);
      puts = keeps.puts;
      panics = λ why v. wait_kept v (q.panic why v) (keeps.panics why v);
      ticks = λ v. wait_out (q.tick v) (λ w. (key : ℕ) → clear v key → clear w key)
          (λ w. (key : ℕ) → clear v key → clear w key) (λ w. (key : ℕ) → Waiting v key → Waiting w key)
          (λ w. (key : ℕ) → Waiting v key → Waiting w key) (λ w x. wait_kept v w x) (λ w x. wait_kept v w x)
          (keeps.ticks v);
      gives = λ site v. wait_out (q.give site v) (λ w. (key : ℕ) → clear v key → clear w key) (λ w. ⊥)
          (λ w. (key : ℕ) → Waiting v key → Waiting w key) (λ w. ⊥) (λ w x. wait_kept v w x) (λ w x. x)
          (keeps.gives site v);
      needs_none = λ key v e. inl (keeps.needs_none key v e);
    }

  -- the names of a pattern are bound without a panic
  bind_goes : (bounds : List BoundName) (S : Scopes) (v : V) →
      Shown any (λ exit T w. exit ≡ Value) (forms.bind items q innermost bounds S v)
  bind_goes [] S v = refl
  bind_goes (b ∷ bounds) S v = by (q.act put v) (keeps.puts (site_of_key b.key) (operand_of_bound b) v)
      (λ w. bind_goes bounds (innermost (with_entry (bound_entry b)) S) w)
    where
      put : Action
      put = effects.Put (site_of_key b.key) (operand_of_bound b)

      by : (o : Out V) → ShownOut any (λ w. Unit {0}) (λ w. ⊥) o →
          ((w : V) → Shown any (λ exit T w. exit ≡ Value)
          (forms.bind items q innermost bounds (innermost (with_entry (bound_entry b)) S) w)) →
          Shown any (λ exit T w. exit ≡ Value)
          (on_value (in_scopes S o) (λ T w. forms.bind items q innermost bounds
          (innermost (with_entry (bound_entry b)) T) w))
      by (Go w) h later = later w
      by (Unwind w) h later = absurd h
      by (Halts halt w) h later = tt

  both_shown : (a b : Exit → Scopes → V → Type 0) (r : Run V) → Shown any a r → Shown any b r →
      Shown any (λ exit S v. a exit S v × b exit S v) r
  both_shown a b (At exit S v) h k = (h, k)
  both_shown a b (Over halt v) h k = tt

  -- ---- parameters

  abbrev pub GoodParams : List ParamTree → Type 0
  GoodParams [] = Unit {0}
  GoodParams (param ∷ params) = ((m : Matched) × Holds (pattern_rules.pattern items m param.ty param.pattern))
      × (nodes.Good items needs q clear keeps fuel (nodes_of param.pattern) × GoodParams params)

  -- by a value alone, with all parameters and their names as entries
  abbrev pub Entered : Scopes → List ParamTree → Scopes → Exit → Scopes → V → Type 0
  Entered S params T exit U u = (exit ≡ Value) × (Inside true S U × (Held Nothing (entries_of U) u
      × ((key : ℕ) → NamedParam params key ⊎ Among (entries_of T) key → Among (entries_of U) key)))

  -- a parameter that is one name has no other
  one_name : (n : Node) → (shape items n).is_binding ≡ true → (key : ℕ) → NameIn (nodes_of n) key → number_of n ≡ key
  one_name (node id at ty by form) e key (inl y) = y.1
  one_name (node id at ty by form) e key (inr y) = absurd (subst (λ l. NameIn l key)
      (name_alone form (named_form items q fuel form (head id ty by) e)) y)

  typed_pattern : (n : Node) (m : Matched) (ty : TyId) → Holds (pattern_rules.pattern items m ty n) → ty_of n ≡ ty
  typed_pattern (node id at ty by form) m want h = same_type ty want h.0

  param_cell : (n : Node) → nodes.Good items needs q clear keeps fuel (nodes_of n) →
      needs_drop items (ty_of n) ≡ false → needs (number_of n) ≡ false
  param_cell (node id at ty by form) g = g.0

  good_waiting : (later : ℕ → Type 0) (ns : List Node) → nodes.Good items needs q clear keeps fuel ns →
      nodes.Good items needs q (Waiting later) (waiting_keeps later) fuel ns
  good_waiting later [] g = tt
  good_waiting later (n ∷ ns) g = (g.0, good_waiting later ns g.1)

  pub params_so : (c : Context) (around : LoopsAndGuards) (S : Scopes) (params : List ParamTree) → GoodParams params →
      (T : Scopes)
      (v : V) → Inside true S T → Held (InList (param_keys params)) (entries_of T) v →
      Shown any (Entered S params T) (params_entered items q fuel params T v)
  params_so c around S [] g T v i h = (refl, (i, (h, λ key k. only key k)))
    where
      only : (key : ℕ) → ⊥ ⊎ Among (entries_of T) key → Among (entries_of T) key
      only key (inl n) = absurd n
      only key (inr a) = a
  params_so c around S (param ∷ params) g A v (inside s T f t gr) h =
      by_kind (shape items param.pattern).is_binding refl (λ U u i k. params_so c around S params g.1.1 U u i k)
    where
      e : Entry
      e = record { key = param_key param; ty = param.ty }

      cell : needs_drop items param.ty ≡ false → needs (param_key param) ≡ false
      cell d = param_cell param.pattern g.1.0
          (ap (needs_drop items) (typed_pattern param.pattern g.0.0 param.ty g.0.1) ∙ d)

      with_param : Scopes
      with_param = with_entry e s ∷ T

      i1 : Inside true S with_param
      i1 = inside (with_entry e s) T f ((rules.entered items needs q clear keeps e s cell).typed t) gr

      bounds : List BoundName
      bounds = (shape items param.pattern).bindings (whole_local (param_key param))

      Later : ℕ → Type 0
      Later = InList (param_keys params)

      entered : (key : ℕ) → clear v key ⊎ (Among (s.entries ++ entries_of T) key ⊎
          ((param_key param ≡ key) ⊎ Later key)) →
          clear v key ⊎ (Among ((e ∷ s.entries) ++ entries_of T) key ⊎ Later key)
      entered key (inl x) = inl x
      entered key (inr (inl a)) = inr (inl (inr a))
      entered key (inr (inr (inl same))) = inr (inl (inl same))
      entered key (inr (inr (inr l))) = inr (inr l)

      Rest : Type 0
      Rest = (U : Scopes) (u : V) → Inside true S U → Held Later (entries_of U) u →
          Shown any (Entered S params U) (params_entered items q fuel params U u)

      Post : Exit → Scopes → V → Type 0
      Post = Entered S (param ∷ params) (s ∷ T)

      further : (U : Scopes) → ((key : ℕ) → NameIn (nodes_of param.pattern) key → Among (entries_of U) key) →
          ((key : ℕ) → Among (s.entries ++ entries_of T) key → Among (entries_of U) key) →
          (exit : Exit) (Z : Scopes) (z : V) →
          Entered S params U exit Z z → Post exit Z z
      further U named older exit Z z x = (x.0, (x.1.0, (x.1.1.0, λ key k. all key k)))
        where
          all : (key : ℕ) → (NameIn (nodes_of param.pattern) key ⊎ NamedParam params key) ⊎
              Among (s.entries ++ entries_of T) key →
              Among (entries_of Z) key
          all key (inl (inl n)) = x.1.1.1 key (inr (named key n))
          all key (inl (inr n)) = x.1.1.1 key (inl n)
          all key (inr a) = x.1.1.1 key (inr (older key a))

      whole : Rest → (shape items param.pattern).is_binding ≡ true →
          Shown any Post (params_entered items q fuel params with_param v)
      whole rest k = shown_more any
          (further with_param (λ key n. inl (one_name param.pattern k key n)) (λ key a. inr a))
          (params_entered items q fuel params with_param v) (rest with_param v i1 (λ key. entered key (h key)))

      pattern : names.PatternOk items needs q (Waiting Later) (waiting_keeps Later) fuel (nodes_of param.pattern)
          (whole_local (param_key param)) bounds
      pattern = names.pattern_ok items needs q (Waiting Later) (waiting_keeps Later) fuel param.pattern g.0.0 param.ty
          g.0.1
          (good_waiting Later (nodes_of param.pattern) g.1.0) (whole_local (param_key param))

      wait : (key : ℕ) → clear v key ⊎ (Among ((e ∷ s.entries) ++ entries_of T) key ⊎ Later key) →
          Waiting Later v key ⊎ (Among ((e ∷ s.entries) ++ entries_of T) key ⊎ ⊥)
      wait key (inl x) = inl (inl x)
      wait key (inr (inl a)) = inr (inl a)
      wait key (inr (inr l)) = inl (inr l)

      arrived : (U : Scopes) (u : V) (key : ℕ) → Waiting Later u key ⊎ (Among (entries_of U) key ⊎ ⊥) →
          clear u key ⊎ (Among (entries_of U) key ⊎ Later key)
      arrived U u key (inl (inl x)) = inl x
      arrived U u key (inl (inr l)) = inr (inr l)
      arrived U u key (inr (inl a)) = inr (inl a)
      arrived U u key (inr (inr n)) = absurd n

      Known : ℕ → Type 0
      Known key = Among (entries_of with_param) key ⊎
          patterns.BoundIn items needs q (Waiting Later) (waiting_keeps Later) bounds key

      Mid : Exit → Scopes → V → Type 0
      Mid exit U u = patterns.Bound items needs q (Waiting Later) (waiting_keeps Later) c around (Inside true S)
          entries_of
          Known exit U u × (exit ≡ Value)

      parts : Rest → Shown any Post
          (on_value (forms.bind items q innermost bounds with_param v) (params_entered items q fuel params))
      parts rest = seq Mid Post (forms.bind items q innermost bounds with_param v) (params_entered items q fuel params)
          (both_shown (patterns.Bound items needs q (Waiting Later) (waiting_keeps Later) c around (Inside true S)
          entries_of Known)
          (λ exit U u. exit ≡ Value) (forms.bind items q innermost bounds with_param v)
          (patterns.bind_so items needs q (Waiting Later) (waiting_keeps Later) c around (Inside true S) entries_of
          innermost
          (branches.enters_inside items needs q (Waiting Later) (waiting_keeps Later) true S) bounds
          (λ key. Among (entries_of with_param) key) with_param v pattern.bound i1 (λ key a. a)
          (λ key. wait key (entered key (h key)))) (bind_goes bounds with_param v))
          (λ U u x. shown_more any
          (further U (λ key n. x.0.1 key (inr (pattern.covers key n))) (λ key a. x.0.1 key (inl (inr a))))
          (params_entered items q fuel params U u) (rest U u x.0.0.0 (λ key. arrived U u key (x.0.0.1 key))))
          (λ exit U u o x. absurd (subst Other x.1 o))

      by_kind : (b : Bool) → (shape items param.pattern).is_binding ≡ b → Rest →
          Shown any Post (on_value (programs.names_of_param items q fuel b bounds with_param v)
          (params_entered items q fuel params))
      by_kind true k rest = whole rest k
      by_kind false k rest = parts rest
