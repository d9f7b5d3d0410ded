-- What is known of the activation of a body that runs: its locals fit what is known of them, and what its reference
-- parameters name is whole; older activations are as they were, but for values at what its `&mut` parameters name.
-- That is kept where a whole value comes to a place that is known as whole, in a local or behind a reference: so it
-- is after a call to which references were passed.
use Rattle.std.proofs.Common.{◌≡◌, ◌≢◌, ℕ, ◌==◌, Bool, true, false, List, [], ◌∷◌, ◌++◌, length, Some, if◌then◌else◌, refl, ap, sym, ◌∙◌, subst}
use Rattle.std.specs.Prelude.{slice_get}
use Rattle.std.specs.Option.{option_map_or}
use Rattle.std.proofs.lemmas.Bool.Decides.{Decides-eqb}
use Rattle.mir_ty.specs.declared.ty.TyId.{TyId}
use Rattle.mir_ty.specs.ItemTable.{ItemTable}
use Rattle.store_model.specs.declared.address.Addr.{Addr}
use Rattle.store_model.specs.declared.address.At.{At}
use Rattle.store_model.specs.Values.Datum.{Datum, Gone, Address}
use Rattle.store_model.specs.Values.Access.{replaced}
use Rattle.store_model.specs.Abstract.Effects.{presence}
use Rattle.store_model.specs.Abstract.Presence.{Presence, is_present}
use Rattle.store_model.specs.Places.Place.{Step}
use Rattle.store_model.specs.Concrete.Location.{Setting, DynamicType, OfType, is_of_type, Located, located_at, stored_at, root_of}
use Rattle.store_model.specs.Concrete.State.{State, Activation, Cells, cell, with_cell, at_depth, with_cell_at}
use Rattle.soundness_values.specs.Frames.{Apart, other_depth, written}
use Rattle.soundness_values.specs.Typed.{is_found}
use Rattle.soundness_values.proofs.Fits.{Fits}
use Rattle.soundness_values.proofs.Ways.{Way, whole_along}
use Rattle.soundness_values.proofs.Kept.{fits_kept}
use Rattle.soundness_values.proofs.Standings.{cell_changed, cell_other, SameCells, Alike, none_runs, one_runs, alike_length, changed_length, alike_after, stored_located, stored_alike, alike_located}
use Rattle.soundness_values.proofs.Apart.{not_same, located_apart}
use Rattle.soundness_values.proofs.Frames.{at_head, at_older, AllApart, with_value, with_value_length, written_changed, stored_along}

-- what a reference parameter names: whether by `&mut`, under which local, where and as what type
pub record Target : Type 0 where
  pub unique : Bool
  pub local : ℕ
  pub address : Addr
  pub to : TyId

module _ (setting : Setting) (number : ℕ) where
  abbrev items : ItemTable
  items = setting.items

  -- a whole value stands there
  pub record StandsFor (t : Target) (w : State) : Type 0 where
    pub standing : Located
    pub stands : located_at setting w t.address ≡ Some standing
    pub of_type : is_of_type items t.to standing.dynamic ≡ true
    pub by_impl : is_found items standing.dynamic ≡ true
    pub whole : Fits items standing.dynamic is_present standing.value

  -- of a body that was entered with so many older activations, in a state in which it had not run yet
  pub record Known (targets : List Target) (uniques : List Addr) (base : State) (w : State)
      (cells : List (ℕ × Presence)) : Type 0 where
    pub held : Cells
    pub older : List Activation
    pub is_there : w.activations ≡ (record { body = number; cells = held }) ∷ older
    pub fits : (key : ℕ) (id : TyId) → setting.local_ty number key ≡ Some id →
        Fits items (OfType id) (presence key cells) (cell key held)
    pub named : (n : ℕ) (t : Target) → slice_get targets n ≡ Some t → cell t.local held ≡ Address t.address
    pub is_older : (n : ℕ) (t : Target) → slice_get targets n ≡ Some t → t.address.depth ≢ length older
    pub stands : (n : ℕ) (t : Target) → slice_get targets n ≡ Some t → StandsFor t w
    pub values : List Datum
    pub many : length values ≡ length uniques
    pub frame : Alike older (written uniques values base).activations

  module _ (targets : List Target) (uniques : List Addr) (base : State) where
    -- a place of a local that is known as whole
    pub record OwnPlace (w : State) (cells : List (ℕ × Presence)) (k : Known targets uniques base w cells)
        (local : ℕ)
        (path : List At) (f : DynamicType) : Type 0 where
      pub id : TyId
      pub is_typed : setting.local_ty number local ≡ Some id
      pub steps : List Step
      pub inner : Datum
      pub way : Way items steps path (OfType id) (cell local k.held) f inner
      pub present : whole_along steps (presence local cells) ≡ true
      pub no_target : (n : ℕ) (t : Target) → slice_get targets n ≡ Some t → (t.local == local) ≡ false

    abbrev own_address : List Activation → ℕ → List At → Addr
    own_address older local path = record { depth = length older; key = (record { 0 = local }); path = path }

    -- a whole value comes to a place of a local that is known as whole
    pub own_write : (w : State) (cells : List (ℕ × Presence)) (k : Known targets uniques base w cells) (local : ℕ)
        (path : List At) (f : DynamicType) (d : Datum) → OwnPlace w cells k local path f →
        Fits items f is_present d → Known targets uniques base (stored_at (own_address k.older local path) d w) cells
    own_write w cells k local path f d place fit = record {
      held = with_cell local (replaced path d (cell local k.held)) k.held;
      older = k.older;
      is_there = there;
      fits = λ key id e. fitting key id e (key == local) refl;
      named = λ n t e. cell_other local t.local (replaced path d (cell local k.held)) k.held (place.no_target n t e)
          ∙ k.named n t e;
      is_older = k.is_older;
      stands = λ n t e. let s = k.stands n t e in record {
        standing = s.standing;
        stands = located_apart setting w t.address (own_address k.older local path) d
            (other_depth t.address (own_address k.older local path) (k.is_older n t e)) ∙ s.stands;
        of_type = s.of_type;
        by_impl = s.by_impl;
        whole = s.whole;
      };
      values = k.values;
      many = k.many;
      frame = k.frame;
    }
      where
        head : Activation
        head = record { body = number; cells = k.held }

        same_depth : (length k.older == length k.older) ≡ true
        same_depth = (Decides-eqb (length k.older) (length k.older)).1 refl

        root : root_of (own_address k.older local path) w ≡ cell local k.held
        root =
            ap (λ l. option_map_or (λ (x : Activation). cell local x.cells) (at_depth (length k.older) l) Gone)
            k.is_there
            ∙ ap (λ b. option_map_or (λ (x : Activation). cell local x.cells)
            (if b then Some head else at_depth (length k.older) k.older) Gone) same_depth

        there : (stored_at (own_address k.older local path) d w).activations
            ≡ (record { body = number; cells = with_cell local (replaced path d (cell local k.held)) k.held })
            ∷ k.older
        there =
            ap (λ r. with_cell_at (length k.older) local (replaced path d r) w.activations) root
            ∙ ap (with_cell_at (length k.older) local (replaced path d (cell local k.held))) k.is_there
            ∙ at_head (length k.older) local (replaced path d (cell local k.held)) head k.older same_depth

        fitting : (key : ℕ) (id : TyId) → setting.local_ty number key ≡ Some id → (b : Bool) → (key == local) ≡ b →
            Fits items (OfType id) (presence key cells)
            (cell key (with_cell local (replaced path d (cell local k.held)) k.held))
        fitting key id e true same =
            let is_it : key ≡ local = (Decides-eqb key local).0 same in
            let one : place.id ≡ id = let at_it = place.is_typed in cc in
            subst (λ n. Fits items (OfType id) (presence n cells)
            (cell n (with_cell local (replaced path d (cell local k.held)) k.held))) (sym is_it)
            (subst (λ v. Fits items (OfType id) (presence local cells) v)
            (sym (cell_changed local (replaced path d (cell local k.held)) k.held))
            (subst (λ i. Fits items (OfType i) (presence local cells) (replaced path d (cell local k.held))) one
            (fits_kept items (presence local cells) d place.way (k.fits local place.id place.is_typed) place.present
            fit)))
        fitting key id e false differs =
            subst (λ v. Fits items (OfType id) (presence key cells) v)
            (sym (cell_other local key (replaced path d (cell local k.held)) k.held differs)) (k.fits key id e)

    -- a whole value comes to a place behind a `&mut` parameter
    pub record BehindPlace (w : State) (cells : List (ℕ × Presence)) (k : Known targets uniques base w cells)
        (n m : ℕ)
        (t : Target) (path : List At) (f : DynamicType) : Type 0 where
      pub is_target : slice_get targets n ≡ Some t
      pub is_unique : slice_get uniques m ≡ Some t.address
      pub old : Datum
      pub has_value : slice_get k.values m ≡ Some old
      pub steps : List Step
      pub inner : Datum
      pub way : Way items steps path ((k.stands n t is_target).standing.dynamic)
          ((k.stands n t is_target).standing.value) f inner
      pub present : whole_along steps is_present ≡ true
      -- at the call it stood there
      pub at_first : Located
      pub stood : located_at setting base t.address ≡ Some at_first

    module _ (apart : AllApart setting uniques) where
      -- a whole value comes to what a `&mut` parameter names
      target_write : (w : State) (cells : List (ℕ × Presence)) (k : Known targets uniques base w cells) (n m : ℕ)
          (t : Target) (old d : Datum) (at_first : Located) (is_target : slice_get targets n ≡ Some t) →
          slice_get uniques m ≡ Some t.address → slice_get k.values m ≡ Some old →
          located_at setting base t.address ≡ Some at_first →
          ((j : ℕ) (u : Target) → slice_get targets j ≡ Some u → (j == n) ≡ false → Apart u.address t.address) →
          Fits items ((k.stands n t is_target).standing.dynamic) is_present d →
          Known targets uniques base (stored_at t.address d w) cells
      target_write w cells k n m t old d at_first is_target is_unique has_value stood alone fit = record {
        held = k.held;
        older = with_cell_at t.address.depth t.address.key.0 (replaced t.address.path d (root_of t.address w))
            k.older;
        is_there = there;
        fits = k.fits;
        named = k.named;
        is_older = λ j u e same. k.is_older j u e
            (same ∙ changed_length t.address.depth t.address.key.0 (replaced t.address.path d (root_of t.address w))
            k.older);
        stands = λ j u e. standing_now j u e (j == n) refl;
        values = with_value setting m d k.values;
        many = with_value_length setting m d k.values ∙ k.many;
        frame = framed;
      }
        where
          head : Activation
          head = record { body = number; cells = k.held }

          not_here : (t.address.depth == length k.older) ≡ false
          not_here = not_same t.address.depth (length k.older) (k.is_older n t is_target)

          there : (stored_at t.address d w).activations ≡ (record { body = number; cells = k.held })
              ∷ with_cell_at t.address.depth t.address.key.0 (replaced t.address.path d (root_of t.address w))
              k.older
          there =
              ap (with_cell_at t.address.depth t.address.key.0 (replaced t.address.path d (root_of t.address w)))
              k.is_there
              ∙ at_older t.address.depth t.address.key.0 (replaced t.address.path d (root_of t.address w)) head
              k.older
              not_here

          standing_now : (j : ℕ) (u : Target) → slice_get targets j ≡ Some u → (b : Bool) → (j == n) ≡ b →
              StandsFor u (stored_at t.address d w)
          standing_now j u e true same =
              let is_it : j ≡ n = (Decides-eqb j n).0 same in
              let one : t ≡ u = some_same (sym is_target ∙ ap (slice_get targets) (sym is_it) ∙ e) in
              let s = k.stands n t is_target in
              subst (λ x. StandsFor x (stored_at t.address d w)) one
              (record {
                standing = record s.standing { value = d };
                stands =
                    stored_located setting w t.address s.standing d s.stands;
                of_type = s.of_type;
                by_impl =
                    s.by_impl;
                whole = fit;
              })
            where
              some_same : Some t ≡ Some u → t ≡ u
              some_same x = cc
          standing_now j u e false differs =
              let s = k.stands j u e in
              record {
                standing = s.standing;
                stands = located_apart setting w u.address t.address d
                    (alone j u e differs) ∙ s.stands;
                of_type = s.of_type;
                by_impl = s.by_impl;
                whole = s.whole;
              }

          root : root_of t.address w ≡ root_of t.address (record w { activations = k.older })
          root =
              ap (λ l. option_map_or (λ (x : Activation). cell t.address.key.0 x.cells) (at_depth t.address.depth l)
              Gone) k.is_there
              ∙ ap (λ b. option_map_or (λ (x : Activation). cell t.address.key.0 x.cells)
              (if b then Some head else at_depth t.address.depth k.older) Gone) not_here

          framed : Alike (with_cell_at t.address.depth t.address.key.0
              (replaced t.address.path d (root_of t.address w))
              k.older) (written uniques (with_value setting m d k.values) base).activations
          framed =
              subst (λ r. Alike (with_cell_at t.address.depth t.address.key.0 (replaced t.address.path d r) k.older)
              (written uniques (with_value setting m d k.values) base).activations) (sym root)
              (alike_after (stored_alike setting (record w { activations = k.older }) (written uniques k.values base)
              t.address d k.frame) _
              (written_changed setting uniques m k.values base t.address at_first old d apart is_unique has_value
              stood))

      -- a whole value comes to a place behind a `&mut` parameter, which goes on to name a whole value
      pub behind_write : (w : State) (cells : List (ℕ × Presence)) (k : Known targets uniques base w cells) (n m : ℕ)
          (t : Target) (path : List At) (f : DynamicType) (d : Datum) →
          (place : BehindPlace w cells k n m t path f) →
          ((j : ℕ) (u : Target) → slice_get targets j ≡ Some u → (j == n) ≡ false → Apart u.address t.address) →
          Fits items f is_present d →
          Known targets uniques base (stored_at (record t.address { path = t.address.path ++ path }) d w) cells
      behind_write w cells k n m t path f d place alone fit =
          let s = k.stands n t place.is_target in
          subst (λ v. Known targets uniques base v cells)
          (sym (stored_along setting w t.address s.standing path d s.stands))
          (target_write w cells k n m t place.old (replaced path d s.standing.value) place.at_first place.is_target
          place.is_unique place.has_value place.stood alone
          (fits_kept items is_present d place.way s.whole place.present fit))

  -- alike states are known alike
  pub same_head : {acts acts' : List Activation} → Alike acts acts' →
      (body : ℕ) (cells : Cells) (older : List Activation) →
      acts' ≡ (record { body = body; cells = cells }) ∷ older →
      (cells' : Cells) × ((older' : List Activation)
      × ((acts ≡ (record { body = body; cells = cells' }) ∷ older')
      × (SameCells cells' cells × Alike older' older)))
  same_head none_runs body cells older e = absurd (let never : ⊥ = cc in never)
  same_head (one_runs b a a' o o' h k) body cells older e =
      let same_body : b ≡ body = ap body_of e in
      let same_cells : a' ≡ cells = ap cells_of e in
      let same_older : o' ≡ older = ap rest_of e in (
        a,
        (
          o,
          (
            ap (λ n. (record { body = n; cells = a }) ∷ o) same_body,
            (subst (SameCells a) same_cells h, subst (Alike o) same_older k),
          ),
        ),
      )
    where
      body_of : List Activation → ℕ
      body_of [] = b
      body_of (x ∷ l) = x.body

      cells_of : List Activation → Cells
      cells_of [] = a'
      cells_of (x ∷ l) = x.cells

      rest_of : List Activation → List Activation
      rest_of [] = []
      rest_of (x ∷ l) = l

  pub known_alike : (targets : List Target) (uniques : List Addr) (base w v : State) (cells : List (ℕ × Presence)) →
      Known targets uniques base w cells → Alike v.activations w.activations → Known targets uniques base v cells
  known_alike targets uniques base w v cells k h =
      let a = same_head h number k.held k.older k.is_there in
      record {
        held = a.0;
        older = a.1.0;
        is_there = a.1.1.0;
        fits = λ key id e. subst (λ d. Fits items (OfType id) (presence key cells) d) (sym (a.1.1.1.0 key))
            (k.fits key id e);
        named = λ n t e. a.1.1.1.0 t.local ∙ k.named n t e;
        is_older = λ n t e same. k.is_older n t e (same ∙ alike_length a.1.1.1.1);
        stands = λ n t e. let s = k.stands n t e in
            record {
              standing = s.standing;
              stands = alike_located setting v w h t.address ∙ s.stands;
              of_type =
                  s.of_type;
              by_impl = s.by_impl;
              whole = s.whole;
            };
        values = k.values;
        many = k.many;
        frame = alike_after a.1.1.1.1 _ k.frame;
      }
