-- Entries that rows make, by the ways in which runs are put together.
use Rattle.std.proofs.Common.{◌≡◌, ◌∙◌, ℕ, Bool, List, [], ◌∷◌, ◌++◌, map, refl, sym, ap, subst}
use Rattle.std.proofs.lemmas.List.{append-nil}
use Rattle.mir_ty.specs.ItemTable.{ItemTable}
use Rattle.scope_table.specs.declared.row.ScopeRow.{ScopeRow}
use Rattle.scope_table.specs.Law.{ScopeHead, head_of, Held, held, entered, WithValue, Enters}
use Rattle.scope_table.proofs.Entering.{heads_in, heads_held, entered_heads, entered_append, entered_missing, Missing, AllEntries, rest, rest_entered}
use Rattle.src_meaning.specs.Scopes.{Entry, Scopes, with_scope, needing_drop, Exit, Value, Breaks, Continues, Returns, Panics, Run, At, Over, Does, on_value, ◌>>◌, in_scopes, doing, changing, chosen, choosing, back_in, entry_site, dropped_unwinding, drop_unwinding, dropped_normally, drop_normally, leave, leaving, in_scope, then_or_leave, in_scope_with}
use Rattle.store_model.specs.Effects.{Normal, Unwinding, Out, Go, Unwind, Halts, Choice, Yes, No, Neither, Effects}

pub same_heads : (heads : List ScopeHead) (A : List ScopeRow) (S after : Scopes) → map head_of S ≡ heads → held after ≡ entered A (held S) → map head_of after ≡ heads
same_heads heads A S after is made =
    sym (heads_held after) ∙ ap heads_in made ∙ entered_heads A (held S) ∙ heads_held S ∙ is

abbrev pub outer : Scopes → Scopes
outer [] = []
outer (s ∷ S) = S

pub held_outer : (S : Scopes) → held (outer S) ≡ rest (held S)
held_outer [] = refl
held_outer (s ∷ S) = refl

module _ {W : Type 0} where
  pub more : (P Q : Scopes → Type 0) → ((S : Scopes) → P S → Q S) → (r : Run W) → WithValue P r → WithValue Q r
  more P Q f (At Value S x) h = f S h
  more P Q f (At (Breaks loop) S x) h = tt
  more P Q f (At (Continues loop) S x) h = tt
  more P Q f (At Returns S x) h = tt
  more P Q f (At Panics S x) h = tt
  more P Q f (Over halt x) h = tt

  pub after_value : (P Q : Scopes → Type 0) (g : Does W) (r : Run W) → WithValue P r → ((S : Scopes) (x : W) → P S → WithValue Q (g S x)) → WithValue Q (on_value r g)
  after_value P Q g (At Value S x) h f = f S x h
  after_value P Q g (At (Breaks loop) S x) h f = tt
  after_value P Q g (At (Continues loop) S x) h f = tt
  after_value P Q g (At Returns S x) h f = tt
  after_value P Q g (At Panics S x) h f = tt
  after_value P Q g (Over halt x) h f = tt

  pub then_enters : (heads : List ScopeHead) (A B : List ScopeRow) (f g : Does W) → Enters heads A f → Enters heads B g → Enters heads (A ++ B) (f >> g)
  then_enters heads A B f g one another S is x =
      after_value (λ after. held after ≡ entered A (held S)) (λ after. held after ≡ entered (A ++ B) (held S)) g (f S x) (one S is x)
      (λ S' x' made. more (λ after. held after ≡ entered B (held S')) (λ after. held after ≡ entered (A ++ B) (held S))
      (λ after then_made. then_made ∙ ap (entered B) made ∙ sym (entered_append A B (held S)))
      (g S' x') (another S' (same_heads heads A S S' is made) x'))

  pub then_nothing : (heads : List ScopeHead) (A : List ScopeRow) (f g : Does W) → Enters heads A f → Enters heads [] g → Enters heads A (f >> g)
  then_nothing heads A f g one another = subst (λ (rows : List ScopeRow). Enters heads rows (f >> g)) (append-nil A) (then_enters heads A [] f g one another)

  -- rows that make the same entries
  pub alike : (heads : List ScopeHead) (A B : List ScopeRow) (f : Does W) → ((H : Held) → heads_in H ≡ heads → entered A H ≡ entered B H) → Enters heads A f → Enters heads B f
  alike heads A B f same made S is x =
      more (λ after. held after ≡ entered A (held S)) (λ after. held after ≡ entered B (held S))
      (λ after h. h ∙ same (held S) (heads_held S ∙ is)) (f S x) (made S is x)

  pub of_missing : (heads : List ScopeHead) (A : List ScopeRow) (f : Does W) → AllEntries (Missing heads) A → Enters heads [] f → Enters heads A f
  of_missing heads A f all = alike heads [] A f (λ H is. sym (entered_missing heads A H is all))

  pub at_value : (heads : List ScopeHead) → Enters {W = W} heads [] (At Value)
  at_value heads S is x = refl

  pub doing_enters : (heads : List ScopeHead) (act : W → Out W) → Enters heads [] (doing act)
  doing_enters heads act S is x = by (act x)
    where
      by : (o : Out W) → WithValue (λ after. held after ≡ held S) (in_scopes S o)
      by (Go x) = refl
      by (Unwind x) = tt
      by (Halts halt x) = tt

  pub changing_enters : (heads : List ScopeHead) (A : List ScopeRow) (change : Scopes → Scopes) → ((S : Scopes) → map head_of S ≡ heads → held (change S) ≡ entered A (held S)) → Enters heads A (changing {W = W} change)
  changing_enters heads A change made S is x = made S is

  pub choosing_enters : (heads : List ScopeHead) (A : List ScopeRow) (test : W → Choice W) (f g : Does W) → Enters heads A f → Enters heads A g → Enters heads A (choosing test f g)
  choosing_enters heads A test f g one another S is x = by (test x)
    where
      by : (o : Choice W) → WithValue (λ after. held after ≡ entered A (held S)) (chosen o (f S) (g S))
      by (Yes x) = one S is x
      by (No x) = another S is x
      by (Neither halt x) = tt

  pub back_enters : (heads : List ScopeHead) (f : Does W) → Enters heads [] (λ S x. back_in S (f S x))
  back_enters heads f S is x = by (f S x)
    where
      by : (r : Run W) → WithValue (λ after. held after ≡ held S) (back_in S r)
      by (At Value S' x) = refl
      by (At (Breaks loop) S' x) = tt
      by (At (Continues loop) S' x) = tt
      by (At Returns S' x) = tt
      by (At Panics S' x) = tt
      by (Over halt x) = tt

  -- What is done in the innermost scope: what becomes of those around it.

  abbrev pub EntersAround : List ScopeHead → List ScopeRow → Does W → Type 0
  EntersAround heads A f = (S : Scopes) → map head_of S ≡ heads → (x : W) → WithValue (λ after. rest (held after) ≡ rest (entered A (held S))) (f S x)

  abbrev pub KeepsAround : Does W → Type 0
  KeepsAround f = (S : Scopes) (x : W) → WithValue (λ after. rest (held after) ≡ rest (held S)) (f S x)

  pub around_of : (heads : List ScopeHead) (A : List ScopeRow) (f : Does W) → Enters heads A f → EntersAround heads A f
  around_of heads A f made S is x =
      more (λ after. held after ≡ entered A (held S)) (λ after. rest (held after) ≡ rest (entered A (held S))) (λ after h. ap rest h) (f S x) (made S is x)

  pub then_around : (heads : List ScopeHead) (A B : List ScopeRow) (f g : Does W) → Enters heads A f → EntersAround heads B g → EntersAround heads (A ++ B) (f >> g)
  then_around heads A B f g one another S is x =
      after_value (λ after. held after ≡ entered A (held S)) (λ after. rest (held after) ≡ rest (entered (A ++ B) (held S))) g (f S x) (one S is x)
      (λ S' x' made. more (λ after. rest (held after) ≡ rest (entered B (held S'))) (λ after. rest (held after) ≡ rest (entered (A ++ B) (held S)))
      (λ after then_made. then_made ∙ ap (λ (H : Held). rest (entered B H)) made ∙ ap rest (sym (entered_append A B (held S))))
      (g S' x') (another S' (same_heads heads A S S' is made) x'))

  pub then_keeps : (heads : List ScopeHead) (A : List ScopeRow) (f g : Does W) → Enters heads A f → KeepsAround g → EntersAround heads A (f >> g)
  then_keeps heads A f g one another S is x =
      after_value (λ after. held after ≡ entered A (held S)) (λ after. rest (held after) ≡ rest (entered A (held S))) g (f S x) (one S is x)
      (λ S' x' made. more (λ after. rest (held after) ≡ rest (held S')) (λ after. rest (held after) ≡ rest (entered A (held S)))
      (λ after kept. kept ∙ ap rest made) (g S' x') (another S' x'))

  pub keeps_then : (f g : Does W) → KeepsAround f → KeepsAround g → KeepsAround (f >> g)
  keeps_then f g one another S x =
      after_value (λ after. rest (held after) ≡ rest (held S)) (λ after. rest (held after) ≡ rest (held S)) g (f S x) (one S x)
      (λ S' x' kept. more (λ after. rest (held after) ≡ rest (held S')) (λ after. rest (held after) ≡ rest (held S)) (λ after h. h ∙ kept) (g S' x') (another S' x'))

  pub keeps_of : (f : Does W) → ((heads : List ScopeHead) → Enters heads [] f) → KeepsAround f
  keeps_of f made S x =
      more (λ after. held after ≡ held S) (λ after. rest (held after) ≡ rest (held S)) (λ after h. ap rest h) (f S x) (made (map head_of S) S refl x)

  pub changing_keeps : (change : Scopes → Scopes) → ((S : Scopes) → rest (held (change S)) ≡ rest (held S)) → KeepsAround (changing {W = W} change)
  changing_keeps change kept S x = kept S

  -- A scope is left.

  module _ (items : ItemTable) (p : Effects W) where
    unwound : (P : Scopes → Type 0) (es : List Entry) (S : Scopes) (x : W) → WithValue P (drop_unwinding items p es S x)
    unwound P [] S x = tt
    unwound P (e ∷ es) S x = by (p.drop Unwinding (entry_site e) x) (unwound P es S)
      where
        by : (o : Out W) → ((x : W) → WithValue P (drop_unwinding items p es S x)) → WithValue P (dropped_unwinding items p o (drop_unwinding items p es S))
        by (Go x) next = next x
        by (Unwind x) next = tt
        by (Halts halt x) next = tt

    dropped : (P : Scopes → Type 0) (exit : Exit) (es : List Entry) (S : Scopes) (x : W) → ((x : W) → WithValue P (At exit S x)) → WithValue P (drop_normally items p exit es S x)
    dropped P exit [] S x h = h x
    dropped P exit (e ∷ es) S x h = by (p.drop Normal (entry_site e) x) (λ x. dropped P exit es S x h)
      where
        by : (o : Out W) → ((x : W) → WithValue P (drop_normally items p exit es S x)) → WithValue P (dropped_normally items p o (drop_normally items p exit es S) (drop_unwinding items p es S))
        by (Go x) next = next x
        by (Unwind x) next = unwound P es S x
        by (Halts halt x) next = tt

    pub left : (P : Scopes → Type 0) (r : Run W) → WithValue (λ after. P (outer after)) r → WithValue P (leave items p r)
    left P (At Value [] x) h = h
    left P (At Value (s ∷ S) x) h = dropped P Value (needing_drop items s.entries) S x (λ x. h)
    left P (At (Breaks loop) [] x) h = tt
    left P (At (Breaks loop) (s ∷ S) x) h = dropped P (Breaks loop) (needing_drop items s.entries) S x (λ x. tt)
    left P (At (Continues loop) [] x) h = tt
    left P (At (Continues loop) (s ∷ S) x) h = dropped P (Continues loop) (needing_drop items s.entries) S x (λ x. tt)
    left P (At Returns [] x) h = tt
    left P (At Returns (s ∷ S) x) h = dropped P Returns (needing_drop items s.entries) S x (λ x. tt)
    left P (At Panics [] x) h = tt
    left P (At Panics (s ∷ S) x) h = unwound P (needing_drop items (s.pending ++ s.entries)) S x
    left P (Over halt x) h = tt

    pub leaving_pops : (f : Does W) → KeepsAround f → (S : Scopes) (x : W) → WithValue (λ after. held after ≡ rest (held S)) (leaving items p f S x)
    leaving_pops f kept S x =
        left (λ after. held after ≡ rest (held S)) (f S x)
        (more (λ after. rest (held after) ≡ rest (held S)) (λ after. held (outer after) ≡ rest (held S)) (λ after h. held_outer after ∙ h) (f S x) (kept S x))

    abbrev pub opened : ℕ → Bool → ScopeHead
    opened node for_temporaries = record { node = node; for_temporaries = for_temporaries }

    pub scope_enters : (heads : List ScopeHead) (A : List ScopeRow) (node : ℕ) (own : Bool) (f : Does W) → Missing heads node → EntersAround (opened node own ∷ heads) A f → Enters heads A (in_scope items p node own f)
    scope_enters heads A node own f missing made S is x =
        let inner = with_scope node own S in
        left (λ after. held after ≡ entered A (held S)) (f inner x)
        (more (λ after. rest (held after) ≡ rest (entered A (held inner))) (λ after. held (outer after) ≡ entered A (held S))
        (λ after h. held_outer after ∙ h
        ∙ rest_entered A (opened node own, []) (held S) (subst (λ (heads : List ScopeHead). Missing heads node) (sym (heads_held S ∙ is)) missing))
        (f inner x) (made inner (ap (λ (heads : List ScopeHead). opened node own ∷ heads) is) x))

    pub scope_keeps : (heads : List ScopeHead) (node : ℕ) (own : Bool) (f : Does W) → KeepsAround f → Enters heads [] (in_scope items p node own f)
    scope_keeps heads node own f kept S is x = leaving_pops f kept (with_scope node own S) x

    -- what follows a value leaves the scope
    abbrev pub Pops : Does W → Type 0
    Pops f = (S : Scopes) (x : W) → WithValue (λ after. held after ≡ rest (held S)) (f S x)

    value_or_leave : (P Q : Scopes → Type 0) (next : Does W) (r : Run W) → WithValue P r → ((S : Scopes) (x : W) → P S → WithValue Q (next S x)) → WithValue Q (then_or_leave items p r next)
    value_or_leave P Q next (At Value S x) h f = f S x h
    value_or_leave P Q next (At (Breaks loop) S x) h f = left Q (At (Breaks loop) S x) tt
    value_or_leave P Q next (At (Continues loop) S x) h f = left Q (At (Continues loop) S x) tt
    value_or_leave P Q next (At Returns S x) h f = left Q (At Returns S x) tt
    value_or_leave P Q next (At Panics S x) h f = left Q (At Panics S x) tt
    value_or_leave P Q next (Over halt x) h f = tt

    pub scope_with_enters : (heads : List ScopeHead) (A : List ScopeRow) (node : ℕ) (own : Bool) (f next : Does W) → Missing heads node → Enters (opened node own ∷ heads) A f → Pops next → Enters heads A (in_scope_with items p node own f next)
    scope_with_enters heads A node own f next missing made pops S is x =
        let inner = with_scope node own S in
        value_or_leave (λ after. held after ≡ entered A (held inner)) (λ after. held after ≡ entered A (held S)) next (f inner x)
        (made inner (ap (λ (heads : List ScopeHead). opened node own ∷ heads) is) x)
        (λ S' x' h. more (λ after. held after ≡ rest (held S')) (λ after. held after ≡ entered A (held S))
        (λ after popped. popped ∙ ap rest h
        ∙ rest_entered A (opened node own, []) (held S) (subst (λ (heads : List ScopeHead). Missing heads node) (sym (heads_held S ∙ is)) missing))
        (next S' x') (pops S' x'))
