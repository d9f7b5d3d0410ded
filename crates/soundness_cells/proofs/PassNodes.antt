-- What the pass says of scopes, of nodes by their kinds: values, places, effects, forms with operands; and the types
-- that need no dropping.
use Rattle.std.proofs.Common.{◌≡◌, ◌⊎◌, inl, inr, ℕ, zero, suc, ◌||◌, Bool, true, false, List, [], ◌∷◌, ◌++◌, length, Option, Some, None, refl, ap, sym, ◌∙◌, subst}
use Rattle.std.specs.Prelude.{option_and_then}
use Rattle.std.specs.Option.{option_map_or}
use Rattle.std.proofs.lemmas.Bool.{false≢true}
use Rattle.std.proofs.lemmas.Bool.Decides.{Decides-eqb}
use Rattle.mir_base.specs.declared.int_kind.IntKind.{IntKind}
use Rattle.mir_ty.specs.declared.ty.Ty.{Ty}
use Rattle.mir_ty.specs.declared.ty.TyId.{TyId}
use Rattle.mir_ty.specs.Facts.{needs_drop, is_scalar, drop_rule, in_rounds}
use Rattle.mir_ty.specs.ItemTable.{ItemTable, type_at}
use Rattle.store_model.specs.Effects.{EffectSite, Operand, Action, Effects, stored_by}
use Rattle.store_model.specs.Places.Place.{Step, Place, whole_local}
use Rattle.store_model.specs.Places.TypeForms as type_forms
use Rattle.typed_tree.specs.Nodes.{number_of}
use Rattle.typed_tree.specs.Tree.{Node}
use Rattle.src_meaning.specs.Evaluation as evaluation
use Rattle.src_meaning.specs.Forms as forms
use Rattle.src_meaning.specs.Forms.{Destination, Into, LoopsAndGuards, Meaning, keys_of, moved, all_moved, is_never}
use Rattle.src_meaning.specs.Scopes.{Entry, Scopes, Exit, Value, Breaks, Continues, Returns, Panics, Does}
use Rattle.src_meaning.specs.Shape.{NodeHead, Shape, Aliases, extended}
use Rattle.well_typed.specs.Places.{Context, ty_of}
use Rattle.well_typed.specs.Types as types
use Rattle.well_typed.specs.Types.{is_unit_ty, is_bool_ty, is_never_ty}
use Rattle.soundness_values.proofs.Leaving.{Shown, shown_more, Among}
use Rattle.soundness_cells.proofs.PassClear.{KeepsClear, any, Nothing, MovedByAny, operands_of, StoredAt}
use Rattle.soundness_cells.proofs.PassLoops as loops
use Rattle.soundness_cells.proofs.PassRules as rules
use Rattle.soundness_cells.proofs.PassRules.{InList}
use Rattle.soundness_cells.proofs.PassScopes as scopes
use Rattle.soundness_cells.proofs.PassScopes.{key_of, entries_of, NamedAt}
use Rattle.soundness_cells.proofs.PassSteps as steps

abbrev is_int_ty : Ty → Bool
is_int_ty (Ty.Int kind) = true
is_int_ty ty = false

int_scalar : (ty : Ty) → is_int_ty ty ≡ true → is_scalar ty ≡ true
int_scalar (Ty.Adt n) e = absurd (false≢true e)
int_scalar (Ty.Tuple parts) e = absurd (false≢true e)
int_scalar (Ty.Array element count) e = absurd (false≢true e)
int_scalar (Ty.Boxed inside) e = absurd (false≢true e)
int_scalar (Ty.Dyn n) e = absurd (false≢true e)
int_scalar (Ty.Closure n) e = absurd (false≢true e)
int_scalar other e = refl

same_type : (a b : TyId) → types.is_same a b ≡ true → a ≡ b
same_type a b h = ap (λ n. record { 0 = n }) ((Decides-eqb a.0 b.0).0 h)

module _ {V : Type 0} (items : ItemTable) (needs : ℕ → Bool) (q : Effects V) (clear : V → ℕ → Type 0)
    (keeps : KeepsClear q needs clear) (fuel : ℕ) where
  abbrev Held : (ℕ → Type 0) → List Entry → V → Type 0
  Held = scopes.Held items needs q clear keeps

  abbrev After : Context → LoopsAndGuards → (ℕ → Type 0) → (Scopes → Type 0) → Exit → Scopes → V → Type 0
  After = scopes.After items needs q clear keeps

  abbrev AroundOk : Context → LoopsAndGuards → Scopes → Type 0
  AroundOk = scopes.AroundOk items needs

  abbrev Inside : Bool → Scopes → Scopes → Type 0
  Inside = scopes.Inside items needs

  abbrev Grown : Bool → Scopes → Scopes → Type 0
  Grown = scopes.Grown items needs

  abbrev Grows : Scopes → Scopes → Type 0
  Grows = scopes.Grows items needs

  abbrev Lands : Scopes → ℕ → Type 0
  Lands = scopes.Lands items needs

  abbrev Typed : Entry → Type 0
  Typed = scopes.Typed items needs

  abbrev Suits : TyId → Destination → Type 0
  Suits = scopes.Suits items needs

  abbrev Sound : Context → Meaning V → Type 0
  Sound = rules.Sound items needs q clear keeps

  abbrev DoesSo : Context → LoopsAndGuards → (ℕ → Type 0) → Does V → Type 0
  DoesSo = steps.DoesSo items needs q clear keeps

  -- ---- cells and types

  -- where the type of a node needs no dropping, neither does the cell with its number
  abbrev pub NeedsOk : Node → Type 0
  NeedsOk n = needs_drop items (ty_of n) ≡ false → needs (number_of n) ≡ false

  abbrev pub Good : List Node → Type 0
  Good [] = Unit {0}
  Good (n ∷ ns) = NeedsOk n × Good ns

  pub good_left : (a b : List Node) → Good (a ++ b) → Good a
  good_left [] b g = tt
  good_left (n ∷ a) b g = (g.0, good_left a b g.1)

  pub good_right : (a b : List Node) → Good (a ++ b) → Good b
  good_right [] b g = g
  good_right (n ∷ a) b g = good_right a b g.1

  scalar_rule : (known : TyId → Bool) (ty : Ty) → is_scalar ty ≡ true →
      drop_rule items.adts items.closures known ty ≡ false
  scalar_rule known (Ty.Adt n) e = absurd (false≢true e)
  scalar_rule known (Ty.Tuple parts) e = absurd (false≢true e)
  scalar_rule known (Ty.Array element count) e = absurd (false≢true e)
  scalar_rule known (Ty.Boxed inside) e = absurd (false≢true e)
  scalar_rule known (Ty.Dyn n) e = absurd (false≢true e)
  scalar_rule known (Ty.Closure n) e = absurd (false≢true e)
  scalar_rule known other e = refl

  -- a type of which a test holds that scalars alone pass
  pub no_drop : (test : Ty → Bool) → ((ty : Ty) → test ty ≡ true → is_scalar ty ≡ true) → (id : TyId) →
      option_map_or test (type_at items id) false ≡ true → needs_drop items id ≡ false
  no_drop test scalar id e = rounds (length items.types)
    where
      rule : (k : ℕ) (o : Option Ty) → option_map_or test o false ≡ true →
          option_map_or (drop_rule items.adts items.closures (in_rounds items.types (drop_rule items.adts items.closures) k)) o false
          ≡ false
      rule k None h = refl
      rule k (Some ty) h = scalar_rule (in_rounds items.types (drop_rule items.adts items.closures) k) ty (scalar ty h)

      rounds : (k : ℕ) → in_rounds items.types (drop_rule items.adts items.closures) k id ≡ false
      rounds zero = refl
      rounds (suc k) = rule k (type_at items id) e

  unit_scalar : (ty : Ty) → is_unit_ty ty ≡ true → is_scalar ty ≡ true
  unit_scalar (Ty.Adt n) e = absurd (false≢true e)
  unit_scalar (Ty.Tuple parts) e = absurd (false≢true e)
  unit_scalar (Ty.Array element count) e = absurd (false≢true e)
  unit_scalar (Ty.Boxed inside) e = absurd (false≢true e)
  unit_scalar (Ty.Dyn n) e = absurd (false≢true e)
  unit_scalar (Ty.Closure n) e = absurd (false≢true e)
  unit_scalar other e = refl

  bool_scalar : (ty : Ty) → is_bool_ty ty ≡ true → is_scalar ty ≡ true
  bool_scalar (Ty.Adt n) e = absurd (false≢true e)
  bool_scalar (Ty.Tuple parts) e = absurd (false≢true e)
  bool_scalar (Ty.Array element count) e = absurd (false≢true e)
  bool_scalar (Ty.Boxed inside) e = absurd (false≢true e)
  bool_scalar (Ty.Dyn n) e = absurd (false≢true e)
  bool_scalar (Ty.Closure n) e = absurd (false≢true e)
  bool_scalar other e = refl

  never_scalar : (ty : Ty) → is_never_ty ty ≡ true → is_scalar ty ≡ true
  never_scalar (Ty.Adt n) e = absurd (false≢true e)
  never_scalar (Ty.Tuple parts) e = absurd (false≢true e)
  never_scalar (Ty.Array element count) e = absurd (false≢true e)
  never_scalar (Ty.Boxed inside) e = absurd (false≢true e)
  never_scalar (Ty.Dyn n) e = absurd (false≢true e)
  never_scalar (Ty.Closure n) e = absurd (false≢true e)
  never_scalar other e = refl

  pub unit_none : (id : TyId) → types.is_unit items id ≡ true → needs_drop items id ≡ false
  unit_none id e = no_drop is_unit_ty unit_scalar id e

  pub bool_none : (id : TyId) → types.is_bool items id ≡ true → needs_drop items id ≡ false
  bool_none id e = no_drop is_bool_ty bool_scalar id e

  pub never_none : (id : TyId) → types.is_never items id ≡ true → needs_drop items id ≡ false
  never_none id e = no_drop is_never_ty never_scalar id e

  pub usize_none : (id : TyId) → types.is_usize items id ≡ true → needs_drop items id ≡ false
  usize_none id e = no_drop is_int_ty int_scalar id (by (type_at items id) e)
    where
      by : (o : Option Ty) → option_map_or (types.is_kind IntKind.Usize) (option_and_then types.kind_in o) false ≡ true →
          option_map_or is_int_ty o false ≡ true
      by None e = absurd (false≢true e)
      by (Some (Ty.Int kind)) e = refl
      by (Some other) e = absurd (false≢true e)

  -- the type `!` is asked for in two ways
  pub never_same : (id : TyId) → types.is_never items id ≡ is_never items id
  never_same id = by (type_at items id)
    where
      by : (o : Option Ty) → option_map_or is_never_ty o false ≡ type_forms.is_never o
      by None = refl
      by (Some (Ty.Int kind)) = refl
      by (Some other) = refl

  pub either : (a b : Bool) → (a || b) ≡ true → (a ≡ true) ⊎ (b ≡ true)
  either true b e = inl refl
  either false b e = inr e

  -- what is of a type or of type `!`
  pub or_never_none : (test : Bool) (id : TyId) → (test ≡ true → needs_drop items id ≡ false) →
      (test || types.is_never items id) ≡ true → needs_drop items id ≡ false
  or_never_none test id f e = by (either test (types.is_never items id) e)
    where
      by : (test ≡ true) ⊎ (types.is_never items id ≡ true) → needs_drop items id ≡ false
      by (inl k) = f k
      by (inr k) = never_none id k

  -- a value that fits a type suits the destinations that this suits
  pub fits_suit : (want ty : TyId) (to : Destination) → types.fits items want ty ≡ true → Suits want to →
      (is_never items ty ≡ true) ⊎ Suits ty to
  fits_suit want ty to e s = by (either (types.is_same ty want) (types.is_never items ty) e)
    where
      by : (types.is_same ty want ≡ true) ⊎ (types.is_never items ty ≡ true) → (is_never items ty ≡ true) ⊎ Suits ty to
      by (inl same) = inr (subst (λ z. Suits z to) (sym (same_type ty want same)) s)
      by (inr n) = inl (sym (never_same ty) ∙ n)

  -- ---- values and places

  -- what is made by a node of type `!` is made nowhere
  made_so : (c : Context) (h : NodeHead) (in_destination : Bool) (evaluate : LoopsAndGuards → Bool → Destination → Does V) →
      Suits h.ty (Into h.id) →
      ((around : LoopsAndGuards) (own : Bool) (to : Destination) (S : Scopes) (v : V) → AroundOk c around S →
      Held Nothing (entries_of S) v → ((own || in_destination) ≡ true → Lands S (key_of to)) → Suits h.ty to →
      Shown any (After c around (λ key. key ≡ key_of to) (Grown own S)) (evaluate around own to S v)) →
      (around : LoopsAndGuards) (own : Bool) (to : Destination) (S : Scopes) (v : V) → AroundOk c around S →
      Held Nothing (entries_of S) v → ((own || in_destination) ≡ true → Lands S (key_of to)) →
      (is_never items h.ty ≡ true) ⊎ Suits h.ty to →
      Shown any (After c around (λ key. key ≡ key_of to) (Grown own S))
      (evaluation.made_in items q fuel h evaluate around own to S v)
  made_so c h d evaluate in_cell sound around own to S v ok k lands suits = by (is_never items h.ty) refl
    where
      nowhere : is_never items h.ty ≡ true → needs h.id ≡ false
      nowhere e = in_cell (never_none h.ty (never_same h.ty ∙ e))

      suit : is_never items h.ty ≡ false → (is_never items h.ty ≡ true) ⊎ Suits h.ty to → Suits h.ty to
      suit n (inl e) = absurd (false≢true (sym n ∙ e))
      suit n (inr s) = s

      away : is_never items h.ty ≡ true → (exit : Exit) (T : Scopes) (w : V) →
          After c around (λ key. key ≡ h.id) (Grown own S) exit T w →
          After c around (λ key. key ≡ key_of to) (Grown own S) exit T w
      away n Value T w x = (x.0, λ key. gone key (x.1 key))
        where
          gone : (key : ℕ) → clear w key ⊎ (Among (entries_of T) key ⊎ (key ≡ h.id)) →
              clear w key ⊎ (Among (entries_of T) key ⊎ (key ≡ key_of to))
          gone key (inl y) = inl y
          gone key (inr (inl a)) = inr (inl a)
          gone key (inr (inr e)) = inl (keeps.needs_none key w (ap needs e ∙ nowhere n))
      away n (Breaks loop) T w x = x
      away n (Continues loop) T w x = x
      away n Returns T w x = x
      away n Panics T w x = x

      by : (b : Bool) → is_never items h.ty ≡ b →
          Shown any (After c around (λ key. key ≡ key_of to) (Grown own S))
          (evaluate around own (evaluation.to_own_key b h.id to) S v)
      by true n = shown_more any (away n) (evaluate around own (Into h.id) S v)
          (sound around own (Into h.id) S v ok k (λ e. inl (nowhere n)) in_cell)
      by false n = sound around own to S v ok k lands (suit n suits)

  abbrev pub Evaluates : Context → NodeHead → Bool → (LoopsAndGuards → Bool → Destination → Does V) → Type 0
  Evaluates c h in_destination evaluate =
      (around : LoopsAndGuards) (own : Bool) (to : Destination) (S : Scopes) (v : V) → AroundOk c around S →
      Held Nothing (entries_of S) v → ((own || in_destination) ≡ true → Lands S (key_of to)) → Suits h.ty to →
      Shown any (After c around (λ key. key ≡ key_of to) (Grown own S)) (evaluate around own to S v)

  pub value_so : (c : Context) (h : NodeHead) (s : Shape) (evaluate : LoopsAndGuards → Bool → Destination → Does V) →
      Suits h.ty (Into h.id) → ((aliases : Aliases) → s.place aliases ≡ whole_local h.id) →
      Evaluates c h s.in_destination evaluate → Sound c (evaluation.a_value items q fuel h s evaluate)
  value_so c h s evaluate in_cell place sound = record {
    evaluates = made_so c h s.in_destination evaluate in_cell sound;
    reaches = λ around S v ok k. shown_more any (λ exit T u x. (x.0, named around exit T x.1))
        (forms.temporary items q h s (evaluation.made_in items q fuel h evaluate) around S v)
        (steps.temporary_so items needs q clear keeps c around h s (evaluation.made_in items q fuel h evaluate) in_cell
        (λ T w ok' k' lands. made_so c h s.in_destination evaluate in_cell sound around false (Into h.id) T w ok' k' lands
        (inr in_cell)) S v ok k);
    in_cell = in_cell;
  }
    where
      named : (around : LoopsAndGuards) (exit : Exit) (T : Scopes) → NamedAt exit (λ key. key ≡ h.id) T →
          NamedAt exit (λ key. s.place around.aliases ≡ whole_local key) T
      named around Value T f = λ key e. f key (sym (ap (λ p. p.local) (sym (place around.aliases) ∙ e)))
      named around (Breaks loop) T f = tt
      named around (Continues loop) T f = tt
      named around Returns T f = tt
      named around Panics T f = tt

  pub place_so : (c : Context) (h : NodeHead) (s : Shape) (reach : LoopsAndGuards → Does V) → Suits h.ty (Into h.id) →
      ((around : LoopsAndGuards) (S : Scopes) (v : V) → AroundOk c around S → Held Nothing (entries_of S) v →
      Shown any (λ exit T u. After c around Nothing (Grows S) exit T u
      × NamedAt exit (λ key. s.place around.aliases ≡ whole_local key) T) (reach around S v)) →
      Sound c (evaluation.a_place items q fuel h s reach)
  place_so c h s reach in_cell sound = record {
    evaluates = made_so c h s.in_destination (forms.use_of_place items q h s reach) in_cell
        (λ around own to S v ok k lands suits. steps.use_so items needs q clear keeps c around h s reach own to S v ok
        (λ o. lands (owned own s.in_destination o)) k
        (λ T w ok' k'. shown_more any (λ exit Z z x. x.0) (reach around T w) (sound around T w ok' k')));
    reaches = sound;
    in_cell = in_cell;
  }
    where
      owned : (own d : Bool) → own ≡ true → (own || d) ≡ true
      owned true d e = refl
      owned false d e = absurd (false≢true e)

  -- a form that is a scope of its own
  pub scope_so : (c : Context) (h : NodeHead) (s : Shape) (does : LoopsAndGuards → Destination → Does V) →
      Suits h.ty (Into h.id) → ((aliases : Aliases) → s.place aliases ≡ whole_local h.id) →
      ((around : LoopsAndGuards) (to : Destination) (S : Scopes) (v : V) → AroundOk c around S → Held Nothing (entries_of S) v →
      (s.in_destination ≡ true → Lands S (key_of to)) → Suits h.ty to →
      Shown any (After c around (λ key. key ≡ key_of to) (Grows S)) (does around to S v)) →
      Sound c (evaluation.a_scope items q fuel h s does)
  scope_so c h s does in_cell place sound = value_so c h s (evaluation.in_scope_of_its_own items q fuel h does) in_cell place
      (λ around own to S v ok k lands suits. steps.owned_so items needs q clear keeps c around (λ key. key ≡ key_of to) h own
      (does around to) S v ok (λ o key e. subst (Lands S) (sym e) (lands (or_first own s.in_destination o))) k
      (λ T w wide ok' k'. sound around to T w ok' k'
      (λ d. scopes.lands_more items needs S T wide (key_of to) (lands (rules.or_second items needs q clear keeps own s.in_destination d)))
      suits))
    where
      or_first : (a b : Bool) → a ≡ true → (a || b) ≡ true
      or_first true b e = refl
      or_first false b e = absurd (false≢true e)

  -- one effect, whose answer goes to the destination
  pub effect_so : (c : Context) (h : NodeHead) (s : Shape) (action : EffectSite → Action) → Suits h.ty (Into h.id) →
      ((aliases : Aliases) → s.place aliases ≡ whole_local h.id) →
      ((site : EffectSite) (key : ℕ) → StoredAt (stored_by (action site)) key → site.place ≡ whole_local key) →
      Sound c (evaluation.effect items q fuel h s action)
  effect_so c h s action in_cell place stores = scope_so c h s (λ around. forms.deliver items q h action) in_cell place
      (λ around to S v ok k lands suits. scopes.deliver_so items needs q clear keeps c around (Grows S) S
      (scopes.not_grown items needs S) h action to Nothing v (λ site key n. absurd n) stores k)

  -- one effect after the operands are made
  pub operands_value : (c : Context) (h : NodeHead) (s : Shape) (ms : List (Meaning V)) (action : EffectSite → Action) →
      rules.AllSound items needs q clear keeps c ms → Suits h.ty (Into h.id) →
      ((aliases : Aliases) → s.place aliases ≡ whole_local h.id) →
      ((site : EffectSite) (key : ℕ) → InList (keys_of ms) key → MovedByAny (operands_of (action site)) key) →
      ((site : EffectSite) (key : ℕ) → StoredAt (stored_by (action site)) key → site.place ≡ whole_local key) →
      Sound c (evaluation.on_operands items q fuel h s ms action)
  operands_value c h s ms action sound in_cell place moves stores =
      value_so c h s (λ around own to. forms.acting items q h around own ms (forms.deliver items q h action to)) in_cell place
      (λ around own to S v ok k lands suits. rules.acting_so items needs q clear keeps c around own S ok h to ms
      (forms.deliver items q h action to) v sound (λ o. lands (or_first own s.in_destination o))
      (λ grown U u g x. scopes.deliver_so items needs q clear keeps c around grown U g h action to (InList (keys_of ms)) u
      moves stores x) k)
    where
      or_first : (a b : Bool) → a ≡ true → (a || b) ≡ true
      or_first true b e = refl
      or_first false b e = absurd (false≢true e)

  -- an effect that takes one operand and gives `()`
  pub unit_value : (c : Context) (h : NodeHead) (s : Shape) (m : Meaning V) (action : Operand → Action) → Sound c m →
      Suits h.ty (Into h.id) → ((aliases : Aliases) → s.place aliases ≡ whole_local h.id) →
      ((operand : Operand) → operands_of (action operand) ≡ operand ∷ []) →
      ((operand : Operand) → stored_by (action operand) ≡ None) →
      Sound c (evaluation.gives_unit items q fuel h s m action)
  unit_value c h s m action sound in_cell place moves stores =
      value_so c h s (λ around own to. forms.acting items q h around own (m ∷ [])
      (evaluation.unit_after items q fuel h (action (moved h.id m.head.id)) to)) in_cell place
      (λ around own to S v ok k lands suits. rules.acting_so items needs q clear keeps c around own S ok h to (m ∷ [])
      (evaluation.unit_after items q fuel h (action (moved h.id m.head.id)) to) v (sound, tt)
      (λ o. lands (or_first own s.in_destination o))
      (λ grown U u g x. steps.then_so items needs q clear keeps c around Nothing (λ key. key ≡ key_of to) grown
      (forms.acts items q (action (moved h.id m.head.id)) U u) (forms.put_unit items q h to)
      (scopes.acts_so items needs q clear keeps c around grown U g (action (moved h.id m.head.id)) (InList (m.head.id ∷ []))
      Nothing u (λ key e. subst (λ os. MovedByAny os key) (sym (moves (moved h.id m.head.id))) (one key e))
      (λ key e. subst (λ o. StoredAt o key) (stores (moved h.id m.head.id)) e) x)
      (λ Z z g y. loops.unit_so items needs q clear keeps c around grown Z g h to z y)) k)
    where
      or_first : (a b : Bool) → a ≡ true → (a || b) ≡ true
      or_first true b e = refl
      or_first false b e = absurd (false≢true e)

      one : (key : ℕ) → (m.head.id ≡ key) ⊎ ⊥ → (whole_local m.head.id ≡ whole_local key) ⊎ ⊥
      one key (inl e) = inl (ap whole_local e)
      one key (inr n) = inr n

  -- what is moved is what was made
  pub all_are_moved : (node : ℕ) (ms : List (Meaning V)) (key : ℕ) → InList (keys_of ms) key →
      MovedByAny (all_moved node ms) key
  all_are_moved node [] key n = absurd n
  all_are_moved node (m ∷ ms) key (inl e) = inl (ap whole_local e)
  all_are_moved node (m ∷ ms) key (inr k) = inr (all_are_moved node ms key k)

  -- ---- patterns

  -- a step further is never a whole local
  pub no_whole : (step : Step) (place : Place) (key : ℕ) → extended step place ≡ whole_local key → ⊥
  no_whole step place key e = none place.steps (ap (λ p. p.steps) e)
    where
      is_empty : List Step → Bool
      is_empty [] = true
      is_empty (s ∷ l) = false

      full : (l : List Step) → is_empty (l ++ step ∷ []) ≡ false
      full [] = refl
      full (s ∷ l) = refl

      none : (l : List Step) → (l ++ step ∷ []) ≡ [] → ⊥
      none l k = false≢true (sym (full l) ∙ ap is_empty k)
