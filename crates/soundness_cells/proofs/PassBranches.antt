-- Branches keep to what the pass says of scopes: scrutinees, `if let`, and the arms of a `match`.
use Rattle.std.proofs.Common.{◌≡◌, ◌⊎◌, inl, inr, ℕ, Bool, true, false, List, [], ◌∷◌, ◌++◌, Option, Some, None, refl, ap, sym, ◌∙◌, subst}
use Rattle.mir_base.specs.declared.trace.Why.{Why}
use Rattle.mir_ty.specs.declared.ty.TyId.{TyId}
use Rattle.mir_ty.specs.ItemTable.{ItemTable}
use Rattle.store_model.specs.Effects as effects
use Rattle.store_model.specs.Effects.{Effects, Choice, Yes, No, Neither}
use Rattle.store_model.specs.Places.Place.{Place, whole_local}
use Rattle.src_meaning.specs.Forms as forms
use Rattle.src_meaning.specs.Forms.{Destination, LoopsAndGuards, Meaning, in_guard, is_never, place_of, site_of}
use Rattle.src_meaning.specs.Scopes.{Entry, Scope, Scopes, with_scope, innermost, with_entry, all_entries, Exit, Value, Breaks, Continues, Returns, Panics, Run, At, Over, Does, on_value, chosen, choosing, leave, leaving, then_or_leave}
use Rattle.src_meaning.specs.Shape.{NodeHead, BoundName}
use Rattle.well_typed.specs.Places.{InScope, Context, with_entries}
use Rattle.soundness_values.proofs.Leaving.{Shown, shown_more, Among}
use Rattle.soundness_cells.proofs.PassClear.{KeepsClear, any, Nothing}
use Rattle.soundness_cells.proofs.PassPatterns as patterns
use Rattle.soundness_cells.proofs.PassRules as rules
use Rattle.soundness_cells.proofs.PassScopes as scopes
use Rattle.soundness_cells.proofs.PassScopes.{key_of, entries_of, entries_among, Other, NamedAt, seq, inside}
use Rattle.soundness_cells.proofs.PassSteps as steps

module _ {V : Type 0} (items : ItemTable) (needs : ℕ → Bool) (q : Effects V) (clear : V → ℕ → Type 0)
    (keeps : KeepsClear q needs clear) where
  abbrev Held : (ℕ → Type 0) → List Entry → V → Type 0
  Held = scopes.Held items needs q clear keeps

  abbrev After : Context → LoopsAndGuards → (ℕ → Type 0) → (Scopes → Type 0) → Exit → Scopes → V → Type 0
  After = scopes.After items needs q clear keeps

  abbrev AroundOk : Context → LoopsAndGuards → Scopes → Type 0
  AroundOk = scopes.AroundOk items needs

  abbrev Inside : Bool → Scopes → Scopes → Type 0
  Inside = scopes.Inside items needs

  abbrev Grown : Bool → Scopes → Scopes → Type 0
  Grown = scopes.Grown items needs

  abbrev Grows : Scopes → Scopes → Type 0
  Grows = scopes.Grows items needs

  abbrev Lands : Scopes → ℕ → Type 0
  Lands = scopes.Lands items needs

  abbrev Typed : Entry → Type 0
  Typed = scopes.Typed items needs

  abbrev Suits : TyId → Destination → Type 0
  Suits = scopes.Suits items needs

  abbrev Sound : Context → Meaning V → Type 0
  Sound = rules.Sound items needs q clear keeps

  abbrev DoesSo : Context → LoopsAndGuards → (ℕ → Type 0) → Does V → Type 0
  DoesSo = steps.DoesSo items needs q clear keeps

  abbrev Bound : Context → LoopsAndGuards → (Scopes → Type 0) → (Scopes → List Entry) → (ℕ → Type 0) → Exit → Scopes → V → Type 0
  Bound = patterns.Bound items needs q clear keeps

  abbrev AllBound : List BoundName → Type 0
  AllBound = patterns.AllBound items needs q clear keeps

  abbrev BoundIn : List BoundName → ℕ → Type 0
  BoundIn = patterns.BoundIn items needs q clear keeps

  pub named_at : (exit : Exit) (known : ℕ → Type 0) (S : Scopes) →
      ((key : ℕ) → known key → Among (entries_of S) key) → NamedAt exit known S
  named_at Value known S f = f
  named_at (Breaks loop) known S f = tt
  named_at (Continues loop) known S f = tt
  named_at Returns known S f = tt
  named_at Panics known S f = tt

  pub enters_inside : (own : Bool) (S : Scopes) →
      patterns.Enters items needs q clear keeps (Inside own S) entries_of innermost
  enters_inside own S e A t (inside s T f k g) =
      (inside (with_entry e s) T f ((rules.entered items needs q clear keeps e s t).typed k) g, (among, among))
    where
      among : (key : ℕ) → Among (s.entries ++ entries_of T) key ⊎ (e.key ≡ key) →
          Among ((e ∷ s.entries) ++ entries_of T) key
      among key (inl a) = inr a
      among key (inr same) = inl same

  -- ---- scrutinees

  pub scrutinised_so : (c : Context) (around : LoopsAndGuards) (m : Meaning V) → Sound c m → (S : Scopes) (v : V) →
      AroundOk c around S → Held Nothing (entries_of S) v →
      Shown any (λ exit T u. After c around Nothing (Grows S) exit T u
      × NamedAt exit (λ key. place_of m around ≡ whole_local key) T) (forms.scrutinised items q around m S v)
  scrutinised_so c around m sound S v ok k = seq Post Post (m.reach around S v)
      (forms.touched items q m.shape.is_place (site_of m around)) (sound.reaches around S v ok k)
      (λ T u x. touched m.shape.is_place T u x) (λ exit T u o x. x)
    where
      Post : Exit → Scopes → V → Type 0
      Post exit T u = After c around Nothing (Grows S) exit T u
          × NamedAt exit (λ key. place_of m around ≡ whole_local key) T

      touched : (b : Bool) (T : Scopes) (u : V) → Post Value T u →
          Shown any Post (forms.touched items q b (site_of m around) T u)
      touched true T u x = shown_more any (λ exit Z z y. (
        (y.0.0, y.1),
        named_at exit (λ key. place_of m around ≡ whole_local key) Z y.0.1,
      ))
          (forms.acts items q (effects.Touch (site_of m around)) T u)
          (scopes.acts_so items needs q clear keeps c around
          (λ Z. Grows S Z × ((key : ℕ) → place_of m around ≡ whole_local key → Among (entries_of Z) key)) T
          (x.0.0, x.1) (effects.Touch (site_of m around)) Nothing Nothing u (λ key n. absurd n) (λ key n. absurd n) x.0.1)
      touched false T u x = x

  -- ---- `if let` and `while let`

  -- by a value goes on what follows; by another exit the scope is left
  then_or_left : (first post : Exit → Scopes → V → Type 0) (r : Run V) (next : Does V) → Shown any first r →
      ((S : Scopes) (v : V) → first Value S v → Shown any post (next S v)) →
      ((exit : Exit) (S : Scopes) (v : V) → Other exit → first exit S v → Shown any post (leave items q (At exit S v))) →
      Shown any post (then_or_leave items q r next)
  then_or_left first post (At Value S v) next k f g = f S v k
  then_or_left first post (At (Breaks loop) S v) next k f g = g (Breaks loop) S v tt k
  then_or_left first post (At (Continues loop) S v) next k f g = g (Continues loop) S v tt k
  then_or_left first post (At Returns S v) next k f g = g Returns S v tt k
  then_or_left first post (At Panics S v) next k f g = g Panics S v tt k
  then_or_left first post (Over halt v) next k f g = tt

  pub if_taken_so : (c : Context) (around : LoopsAndGuards) (flying : ℕ → Type 0) (h : NodeHead) (pattern scrutinee : Meaning V)
      (body otherwise : Does V) (S : Scopes) (v : V) → Sound c scrutinee →
      AllBound (pattern.shape.bindings (place_of scrutinee around)) →
      ((T : Scopes) (w : V) → scopes.Wider items needs S T →
      ((key : ℕ) → BoundIn (pattern.shape.bindings (place_of scrutinee around)) key → Among (entries_of T) key) →
      Held Nothing (entries_of T) w → Shown any (After c around flying (λ U. U ≡ T)) (body T w)) →
      ((w : V) → Held Nothing (entries_of S) w → Shown any (After c around flying (λ U. U ≡ S)) (otherwise S w)) →
      ((key : ℕ) → flying key → Lands S key) → AroundOk c around S → Held Nothing (entries_of S) v →
      Shown any (After c around flying (λ T. T ≡ S)) (forms.if_taken items q h around pattern scrutinee body otherwise S v)
  if_taken_so c around flying h pattern scrutinee body otherwise S v sound typed does other lands ok k =
      then_or_left (λ exit T u. After c around Nothing (Grows begun) exit T u
      × NamedAt exit (λ key. place_of scrutinee around ≡ whole_local key) T) Done
      (forms.scrutinised items q around scrutinee begun v) then_test
      (scrutinised_so c around scrutinee sound begun v
      (scopes.around_more items needs c around S begun (scopes.inside_wider items needs true S begun in_it) ok) k)
      (λ T u x. tested T u (scopes.inside_grows items needs true S begun T in_it x.0.0) x.0.1)
      (λ exit T u o x. left (At exit T u) (x0 exit T u o x.0))
    where
      Done : Exit → Scopes → V → Type 0
      Done = After c around flying (λ T. T ≡ S)

      bounds : List BoundName
      bounds = pattern.shape.bindings (place_of scrutinee around)

      begun : Scopes
      begun = with_scope h.id true S

      in_it : Inside true S begun
      in_it = scopes.opened items needs h.id true S

      bound_body : Does V
      bound_body T w = on_value (forms.bind items q innermost bounds T w) body

      then_test : Does V
      then_test = choosing (forms.all_hold items q (pattern.shape.tests (place_of scrutinee around)))
          (leaving items q bound_body) (λ T w. on_value (leave items q (At Value T w)) otherwise)

      left : (r : Run V) → Shown any (After c around flying (Inside true S)) r → Shown any Done (leave items q r)
      left r x = scopes.leaving_so items needs q clear keeps c around flying S (λ exit T. T ≡ S)
          (λ exit T e. scopes.grown_wider items needs true S T e) (λ exit T e. e) ok.answer ok.loops r
          (shown_more any (λ exit T u y. (
            (scopes.inside_top items needs q clear keeps true S T y.0, y.1),
            steps.landing_own items needs q clear keeps true S flying lands exit T y.0,
          )) r x)

      x0 : (exit : Exit) (T : Scopes) (u : V) → Other exit → After c around Nothing (Grows begun) exit T u →
          After c around flying (Inside true S) exit T u
      x0 exit T u o y = rules.other_exit items needs q clear keeps c around Nothing flying (Grows begun) (Inside true S)
          (λ Z g. scopes.inside_grows items needs true S begun Z in_it g) exit T u o y

      taken : (T : Scopes) (w : V) → Inside true S T → Held Nothing (entries_of T) w →
          Shown any Done (leave items q (bound_body T w))
      taken T w i h' = left (bound_body T w) (seq
          (Bound c around (Inside true S) entries_of (λ key. ⊥ ⊎ BoundIn bounds key)) (After c around flying (Inside true S))
          (forms.bind items q innermost bounds T w) body
          (patterns.bind_so items needs q clear keeps c around (Inside true S) entries_of innermost (enters_inside true S)
          bounds (λ key. ⊥) T w typed i (λ key n. absurd n) h')
          (λ U u x. shown_more any (λ exit Z z y. (subst (Inside true S) (sym y.0) x.0.0, y.1)) (body U u)
          (does U u (scopes.inside_wider items needs true S U x.0.0) (λ key b. x.1 key (inr b)) x.0.1))
          (λ exit U u o x. rules.other_exit items needs q clear keeps c around Nothing flying (Inside true S) (Inside true S)
          (λ Z z. z) exit U u o x.0))

      declined : (T : Scopes) (w : V) → Inside true S T → Held Nothing (entries_of T) w →
          Shown any Done (on_value (leave items q (At Value T w)) otherwise)
      declined T w i h' = seq (After c around Nothing (λ T. T ≡ S)) Done (leave items q (At Value T w)) otherwise
          (scopes.leaving_so items needs q clear keeps c around Nothing S (λ exit T. T ≡ S)
          (λ exit T e. scopes.grown_wider items needs true S T e) (λ exit T e. e) ok.answer ok.loops (At Value T w) (
            (scopes.inside_top items needs q clear keeps true S T i, h'),
            steps.landing_own items needs q clear keeps true S Nothing (λ key n. absurd n) Value T i,
          ))
          (λ U u x. subst (λ Z. Held Nothing (entries_of Z) u → Shown any Done (otherwise Z u)) (sym x.0) (other u) x.1)
          (λ exit U u o x. (x.0, scopes.other_held items needs q clear keeps c around Nothing flying exit U u o x.1))

      tested : (T : Scopes) (u : V) → Inside true S T → Held Nothing (entries_of T) u → Shown any Done (then_test T u)
      tested T u i h' = by (forms.all_hold items q (pattern.shape.tests (place_of scrutinee around)) u)
          (patterns.all_so items needs q clear keeps (pattern.shape.tests (place_of scrutinee around)) u)
        where
          kept : (w : V) → ((key : ℕ) → clear u key → clear w key) → (key : ℕ) →
              clear u key ⊎ (Among (entries_of T) key ⊎ ⊥) → clear w key ⊎ (Among (entries_of T) key ⊎ ⊥)
          kept w f key (inl x) = inl (f key x)
          kept w f key (inr x) = inr x

          by : (o : Choice V) → patterns.TestedSo items needs q clear keeps u o →
              Shown any Done (chosen o (leaving items q bound_body T)
              (λ w. on_value (leave items q (At Value T w)) otherwise))
          by (Yes w) f = taken T w i (λ key. kept w f key (h' key))
          by (No w) f = declined T w i (λ key. kept w f key (h' key))
          by (Neither halt w) f = tt

  -- ---- arms

  -- an arm, by what is done where it is not taken
  abbrev pub ArmSo : Context → Meaning V → Type 0
  ArmSo c m = (around : LoopsAndGuards) (matched : Place) (otherwise : Does V) (to : Destination) (S : Scopes) (v : V) →
      AroundOk c around S → ((key : ℕ) → matched ≡ whole_local key → Among (entries_of S) key) → Lands S (key_of to) →
      (is_never items m.head.ty ≡ true) ⊎ Suits m.head.ty to → Held Nothing (entries_of S) v →
      ((w : V) → Held Nothing (entries_of S) w →
      Shown any (After c around (λ key. key ≡ key_of to) (Grows S)) (otherwise S w)) →
      Shown any (After c around (λ key. key ≡ key_of to) (Grows S)) (m.arm matched otherwise around to S v)

  pub taken_so : (c : Context) (new : List InScope) (around : LoopsAndGuards) (h : NodeHead) (bounds : List BoundName)
      (body : Meaning V) (to : Destination) (S : Scopes) (v : V) → AroundOk c around S → Lands S (key_of to) →
      AllBound bounds → Sound (with_entries new c) body →
      ((T : Scopes) → scopes.Wider items needs S T → ((key : ℕ) → BoundIn bounds key → Among (entries_of T) key) →
      AroundOk (with_entries new c) around T) → (is_never items body.head.ty ≡ true) ⊎ Suits body.head.ty to →
      Held Nothing (entries_of S) v →
      Shown any (After c around (λ key. key ≡ key_of to) (Grows S)) (forms.taken_arm items q h around bounds body to S v)
  taken_so c new around h bounds body to S v ok lands typed sound body_ok suits k =
      steps.scoped_so items needs q clear keeps c around flying h.id false
      (λ T w. on_value (forms.bind items q innermost bounds T w) (forms.alone items q around body to)) S v ok
      (λ key e. subst (Lands S) (sym e) lands)
      (seq (Bound c around (Inside false S) entries_of (λ key. ⊥ ⊎ BoundIn bounds key))
      (After c around flying (Inside false S)) (forms.bind items q innermost bounds (with_scope h.id false S) v)
      (forms.alone items q around body to)
      (patterns.bind_so items needs q clear keeps c around (Inside false S) entries_of innermost (enters_inside false S)
      bounds (λ key. ⊥) (with_scope h.id false S) v typed (scopes.opened items needs h.id false S) (λ key n. absurd n) k)
      (λ T u x. let w = scopes.inside_wider items needs false S T x.0.0 in
      shown_more any (λ exit Z z y. (subst (Inside false S) (sym y.0) x.0.0, y.1)) (forms.alone items q around body to T u)
      (steps.alone_so items needs q clear keeps (with_entries new c) around flying T (body.evaluate around true to T u)
      (sound.evaluates around true to T u (body_ok T w (λ key b. x.1 key (inr b))) x.0.1
      (λ e. scopes.lands_more items needs S T w (key_of to) lands) suits)))
      (λ exit T u o x. rules.other_exit items needs q clear keeps c around Nothing flying (Inside false S) (Inside false S)
      (λ Z z. z) exit T u o x.0))
    where
      flying : ℕ → Type 0
      flying key = key ≡ key_of to

  pub arm_so : (c : Context) (new guarded : List InScope) (around : LoopsAndGuards) (h : NodeHead) (pattern : Meaning V)
      (guard : Option (Meaning V)) (body : Meaning V) (matched : Place) (otherwise : Does V) (to : Destination)
      (S : Scopes) (v : V) → AroundOk c around S → Lands S (key_of to) → AllBound (pattern.shape.bindings matched) →
      Sound (with_entries new c) body →
      ((T : Scopes) → scopes.Wider items needs S T →
      ((key : ℕ) → BoundIn (pattern.shape.bindings matched) key → Among (entries_of T) key) →
      AroundOk (with_entries new c) around T) → (is_never items body.head.ty ≡ true) ⊎ Suits body.head.ty to →
      ((g : Meaning V) → guard ≡ Some g → (Sound (with_entries guarded c) g × (needs g.head.id ≡ false))
      × AroundOk (with_entries guarded c) (in_guard (pattern.shape.bindings matched) around) S) →
      Held Nothing (entries_of S) v →
      ((w : V) → Held Nothing (entries_of S) w →
      Shown any (After c around (λ key. key ≡ key_of to) (Grows S)) (otherwise S w)) →
      Shown any (After c around (λ key. key ≡ key_of to) (Grows S))
      (forms.arm items q h pattern guard body matched otherwise around to S v)
  arm_so c new guarded around h pattern guard body matched otherwise to S v ok lands typed sound body_ok suits guards k other =
      by (forms.all_hold items q (pattern.shape.tests matched) v)
      (patterns.all_so items needs q clear keeps (pattern.shape.tests matched) v)
    where
      flying : ℕ → Type 0
      flying key = key ≡ key_of to

      bounds : List BoundName
      bounds = pattern.shape.bindings matched

      taken : (w : V) → Held Nothing (entries_of S) w →
          Shown any (After c around flying (Grows S)) (forms.taken_arm items q h around bounds body to S w)
      taken w x = taken_so c new around h bounds body to S w ok lands typed sound body_ok suits x

      by_guard : (g : Option (Meaning V)) → ((m : Meaning V) → g ≡ Some m →
          (Sound (with_entries guarded c) m × (needs m.head.id ≡ false))
          × AroundOk (with_entries guarded c) (in_guard bounds around) S) → (w : V) → Held Nothing (entries_of S) w →
          Shown any (After c around flying (Grows S))
          (forms.guarded items q around bounds g (forms.taken_arm items q h around bounds body to) otherwise S w)
      by_guard None f w x = taken w x
      by_guard (Some m) f w x = let y = f m refl in
          steps.condition_so items needs q clear keeps (with_entries guarded c) (in_guard bounds around) m
          (After c around flying (Grows S)) (forms.taken_arm items q h around bounds body to) otherwise S w y.0.0 y.0.1 y.1
          x taken other
          (λ exit T u o z. (
            subst (Grows S) (sym z.0) (scopes.not_grown items needs S),
            scopes.other_held items needs q clear keeps c around Nothing flying exit T u o (same_held exit T u z.1),
          ))
        where
          same_held : (exit : Exit) (T : Scopes) (u : V) →
              scopes.HeldAt items needs q clear keeps (with_entries guarded c) (in_guard bounds around) Nothing exit T u →
              scopes.HeldAt items needs q clear keeps c around Nothing exit T u
          same_held Value T u z = z
          same_held (Breaks loop) T u z = z
          same_held (Continues loop) T u z = z
          same_held Returns T u z = z
          same_held Panics T u z = z

      kept : (w : V) → ((key : ℕ) → clear v key → clear w key) → (key : ℕ) →
          clear v key ⊎ (Among (entries_of S) key ⊎ ⊥) → clear w key ⊎ (Among (entries_of S) key ⊎ ⊥)
      kept w f key (inl x) = inl (f key x)
      kept w f key (inr x) = inr x

      by : (o : Choice V) → patterns.TestedSo items needs q clear keeps v o →
          Shown any (After c around flying (Grows S))
          (chosen o (forms.guarded items q around bounds guard (forms.taken_arm items q h around bounds body to) otherwise S)
          (otherwise S))
      by (Yes w) f = by_guard guard guards w (λ key. kept w f key (k key))
      by (No w) f = other w (λ key. kept w f key (k key))
      by (Neither halt w) f = tt

  abbrev pub AllArms : Context → List (Meaning V) → Type 0
  AllArms c [] = Unit {0}
  AllArms c (m ∷ ms) = ArmSo c m × AllArms c ms

  -- the type of an arm fits that of its `match`
  abbrev pub ArmsSuit : Destination → List (Meaning V) → Type 0
  ArmsSuit to [] = Unit {0}
  ArmsSuit to (m ∷ ms) = ((is_never items m.head.ty ≡ true) ⊎ Suits m.head.ty to) × ArmsSuit to ms

  pub panics_so : (c : Context) (around : LoopsAndGuards) (flying : ℕ → Type 0) (grown : Scopes → Type 0) (why : Why) (S : Scopes)
      (v : V) → grown S → Held Nothing (entries_of S) v →
      Shown any (After c around flying grown) (forms.panics items q why S v)
  panics_so c around flying grown why S v g h = (g, λ key. by key (h key))
    where
      by : (key : ℕ) → clear v key ⊎ (Among (entries_of S) key ⊎ ⊥) →
          clear (q.panic why v) key ⊎ (Among (all_entries S) key ⊎ ⊥)
      by key (inl x) = inl (keeps.panics why v key x)
      by key (inr (inl a)) = inr (inl (entries_among S key a))
      by key (inr (inr n)) = absurd n

  arms_so : (c : Context) (around : LoopsAndGuards) (arms : List (Meaning V)) (matched : Place) (to : Destination) (S : Scopes) →
      AllArms c arms → ArmsSuit to arms → AroundOk c around S →
      ((key : ℕ) → matched ≡ whole_local key → Among (entries_of S) key) → Lands S (key_of to) → (v : V) →
      Held Nothing (entries_of S) v →
      Shown any (After c around (λ key. key ≡ key_of to) (Grows S)) (forms.arms_in_order items q arms matched around to S v)
  arms_so c around [] matched to S sound suit ok roots lands v k =
      panics_so c around (λ key. key ≡ key_of to) (Grows S) Why.Match S v (scopes.not_grown items needs S) k
  arms_so c around (m ∷ ms) matched to S sound suit ok roots lands v k =
      sound.0 around matched (forms.arms_in_order items q ms matched around to) to S v ok roots lands suit.0 k
      (λ w x. arms_so c around ms matched to S sound.1 suit.1 ok roots lands w x)

  pub matching_so : (c : Context) (around : LoopsAndGuards) (h : NodeHead) (scrutinee : Meaning V) (arms : List (Meaning V))
      (own : Bool) (to : Destination) (S : Scopes) (v : V) → Sound c scrutinee → AllArms c arms → ArmsSuit to arms →
      AroundOk c around S → Lands S (key_of to) → Held Nothing (entries_of S) v →
      Shown any (After c around (λ key. key ≡ key_of to) (Grown own S))
      (forms.matching items q h scrutinee arms around own to S v)
  matching_so c around h scrutinee arms own to S v sound all suit ok lands k =
      steps.owned_so items needs q clear keeps c around flying h own
      (λ T w. on_value (forms.scrutinised items q around scrutinee T w)
      (forms.arms_in_order items q arms (place_of scrutinee around) around to)) S v ok
      (λ o key e. subst (Lands S) (sym e) lands) k
      (λ T w wide ok' h'. seq (λ exit U u. After c around Nothing (Grows T) exit U u
      × NamedAt exit (λ key. place_of scrutinee around ≡ whole_local key) U) (After c around flying (Grows T))
      (forms.scrutinised items q around scrutinee T w)
      (forms.arms_in_order items q arms (place_of scrutinee around) around to)
      (scrutinised_so c around scrutinee sound T w ok' h')
      (λ U u x. shown_more any (λ exit Z z y. (scopes.grows_then items needs T U Z x.0.0 y.0, y.1))
      (forms.arms_in_order items q arms (place_of scrutinee around) around to U u)
      (arms_so c around arms (place_of scrutinee around) to U all suit
      (scopes.around_more items needs c around T U (scopes.grows_wider items needs T U x.0.0) ok') x.1
      (scopes.lands_more items needs T U (scopes.grows_wider items needs T U x.0.0) (key_of to)
      (scopes.lands_more items needs S T wide (key_of to) lands)) u x.0.1))
      (λ exit U u o x. rules.other_exit items needs q clear keeps c around Nothing flying (Grows T) (Grows T) (λ Z g. g)
      exit U u o x.0))
    where
      flying : ℕ → Type 0
      flying key = key ≡ key_of to
