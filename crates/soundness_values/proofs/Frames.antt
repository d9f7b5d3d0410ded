-- Values that are stored at addresses which are apart: the order does not matter, and one more value below one of
-- them changes what is stored there.
use Rattle.std.proofs.Common.{◌≡◌, ℕ, zero, suc, ◌==◌, Bool, true, false, List, [], ◌∷◌, ◌++◌, length, Option, Some, None, if◌then◌else◌, refl, ap, sym, ◌∙◌, subst, append_assoc}
use Rattle.std.specs.Prelude.{slice_get}
use Rattle.std.specs.Option.{option_map_or}
use Rattle.std.proofs.lemmas.Bool.{false≢true}
use Rattle.std.proofs.lemmas.Bool.Decides.{Decides-eqb}
use Rattle.std.proofs.lemmas.Option.{none-some}
use Rattle.store_model.proofs.Values.Access.{replaced-swap, replaced-append}
use Rattle.store_model.specs.declared.address.Addr.{Addr}
use Rattle.store_model.specs.declared.address.At.{At}
use Rattle.store_model.specs.Values.Datum.{Datum, Gone}
use Rattle.store_model.specs.Values.Access.{AreApart, replaced}
use Rattle.store_model.specs.Concrete.Location.{Setting, Located, located_at, stored_at, root_of}
use Rattle.store_model.specs.Concrete.State.{State, Activation, Cells, cell, with_cell, at_depth, with_cell_at}
use Rattle.soundness_values.specs.Frames.{Apart, other_depth, other_local, other_part, written}
use Rattle.soundness_values.proofs.Apart.{Differ, not_same, nothing_changed, located_apart}
use Rattle.soundness_values.proofs.Standings.{cell_changed, cell_other, SameCells, Alike, none_runs, one_runs, alike_itself, alike_back, alike_after, changed_length, changed_twice, depth_changed, stored_alike, stored_twice, stored_located, value_there}

cells_swap : (key key' : ℕ) (u v : Datum) (cells : Cells) → (key == key') ≡ false →
    SameCells (with_cell key u (with_cell key' v cells)) (with_cell key' v (with_cell key u cells))
cells_swap key key' u v cells h other = by (other == key) refl (other == key') refl
  where
    by : (s : Bool) → (other == key) ≡ s → (t : Bool) → (other == key') ≡ t →
        cell other (with_cell key u (with_cell key' v cells)) ≡ cell other (with_cell key' v (with_cell key u cells))
    by true e true k =
        let same : key ≡ key' = sym ((Decides-eqb other key).0 e) ∙ (Decides-eqb other key').0 k in
        absurd (false≢true (sym h ∙ (Decides-eqb key key').1 same))
    by true e false k =
        let same : other ≡ key = (Decides-eqb other key).0 e in
        ap (λ n. cell n (with_cell key u (with_cell key' v cells))) same
        ∙ cell_changed key u (with_cell key' v cells)
        ∙ sym (cell_other key' other v (with_cell key u cells) k ∙ ap (λ n. cell n (with_cell key u cells)) same
        ∙ cell_changed key u cells)
    by false e true k =
        let same : other ≡ key' = (Decides-eqb other key').0 k in
        cell_other key other u (with_cell key' v cells) e ∙ ap (λ n. cell n (with_cell key' v cells)) same
        ∙ cell_changed key' v cells
        ∙ sym (ap (λ n. cell n (with_cell key' v (with_cell key u cells))) same
        ∙ cell_changed key' v (with_cell key u cells))
    by false e false k =
        cell_other key other u (with_cell key' v cells) e ∙ cell_other key' other v cells k
        ∙ sym (cell_other key' other v (with_cell key u cells) k ∙ cell_other key other u cells e)

pub at_head : (depth key : ℕ) (v : Datum) (a : Activation) (older : List Activation) →
    (depth == length older) ≡ true →
    with_cell_at depth key v (a ∷ older) ≡ (record a { cells = with_cell key v a.cells }) ∷ older
at_head depth key v a older e =
    ap (λ b. if b then (record a { cells = with_cell key v a.cells }) ∷ older else a ∷ with_cell_at depth key v
    older) e

pub at_older : (depth key : ℕ) (v : Datum) (a : Activation) (older : List Activation) →
    (depth == length older) ≡ false → with_cell_at depth key v (a ∷ older) ≡ a ∷ with_cell_at depth key v older
at_older depth key v a older e =
    ap (λ b. if b then (record a { cells = with_cell key v a.cells }) ∷ older else a ∷ with_cell_at depth key v
    older) e

alike_by : {a b a' b' : List Activation} → a ≡ a' → b ≡ b' → Alike a' b' → Alike a b
alike_by {a} {b} {a'} {b'} e k h = subst (λ x. Alike x b) (sym e) (subst (λ y. Alike a' y) (sym k) h)

swap_acts : (depth key depth' key' : ℕ) (u v : Datum) (acts : List Activation) → Differ depth key depth' key' →
    Alike (with_cell_at depth key u (with_cell_at depth' key' v acts))
    (with_cell_at depth' key' v (with_cell_at depth key u acts))
swap_acts depth key depth' key' u v [] h = none_runs
swap_acts depth key depth' key' u v (a ∷ older) h = by (depth == length older) refl (depth' == length older) refl
    (swap_acts depth key depth' key' u v older h)
  where
    by : (s : Bool) → (depth == length older) ≡ s → (t : Bool) → (depth' == length older) ≡ t →
        Alike (with_cell_at depth key u (with_cell_at depth' key' v older))
        (with_cell_at depth' key' v (with_cell_at depth key u older)) →
        Alike (with_cell_at depth key u (with_cell_at depth' key' v (a ∷ older)))
        (with_cell_at depth' key' v (with_cell_at depth key u (a ∷ older)))
    by true e true k later =
        let same : depth ≡ depth' = (Decides-eqb depth (length older)).0 e
        ∙ sym ((Decides-eqb depth' (length older)).0 k) in
        alike_by (ap (with_cell_at depth key u) (at_head depth' key' v a older k)
        ∙ at_head depth key u (record a { cells = with_cell key' v a.cells }) older e)
        (ap (with_cell_at depth' key' v) (at_head depth key u a older e)
        ∙ at_head depth' key' v (record a { cells = with_cell key u a.cells }) older k)
        (one_runs a.body _ _ older older (cells_swap key key' u v a.cells (h ((Decides-eqb depth depth').1 same)))
        (alike_itself older))
    by true e false k later =
        alike_by (ap (with_cell_at depth key u) (at_older depth' key' v a older k)
        ∙ at_head depth key u a (with_cell_at depth' key' v older)
        (ap (λ n. depth == n) (changed_length depth' key' v older) ∙ e))
        (ap (with_cell_at depth' key' v) (at_head depth key u a older e)
        ∙ at_older depth' key' v (record a { cells = with_cell key u a.cells }) older k) (alike_itself _)
    by false e true k later =
        alike_by (ap (with_cell_at depth key u) (at_head depth' key' v a older k)
        ∙ at_older depth key u (record a { cells = with_cell key' v a.cells }) older e)
        (ap (with_cell_at depth' key' v) (at_older depth key u a older e)
        ∙ at_head depth' key' v a (with_cell_at depth key u older)
        (ap (λ n. depth' == n) (changed_length depth key u older) ∙ k)) (alike_itself _)
    by false e false k later =
        alike_by (ap (with_cell_at depth key u) (at_older depth' key' v a older k)
        ∙ at_older depth key u a (with_cell_at depth' key' v older)
        (ap (λ n. depth == n) (changed_length depth' key' v older) ∙ e))
        (ap (with_cell_at depth' key' v) (at_older depth key u a older e)
        ∙ at_older depth' key' v a (with_cell_at depth key u older)
        (ap (λ n. depth' == n) (changed_length depth key u older) ∙ k))
        (one_runs a.body a.cells a.cells _ _ (λ n. refl) later)

held_kept : (depth key depth' key' : ℕ) (v : Datum) (acts : List Activation) → Differ depth key depth' key' →
    option_map_or (λ (x : Activation). cell key x.cells) (at_depth depth (with_cell_at depth' key' v acts)) Gone
    ≡ option_map_or (λ (x : Activation). cell key x.cells) (at_depth depth acts) Gone
held_kept depth key depth' key' v [] h = refl
held_kept depth key depth' key' v (a ∷ older) h = by (depth' == length older) refl (depth == length older) refl
    (held_kept depth key depth' key' v older h)
  where
    what : Option Activation → Datum
    what o = option_map_or (λ (x : Activation). cell key x.cells) o Gone

    by : (t : Bool) → (depth' == length older) ≡ t → (u : Bool) → (depth == length older) ≡ u →
        what (at_depth depth (with_cell_at depth' key' v older)) ≡ what (at_depth depth older) →
        what (at_depth depth (with_cell_at depth' key' v (a ∷ older))) ≡ what
        (if u then Some a else at_depth depth older)
    by true e true k later =
        let same : depth ≡ depth' = (Decides-eqb depth (length older)).0 k
        ∙ sym ((Decides-eqb depth' (length older)).0 e) in
        ap (λ l. what (at_depth depth l)) (at_head depth' key' v a older e)
        ∙ ap (λ b. what (if b then Some (record a { cells = with_cell key' v a.cells }) else at_depth depth older)) k
        ∙ cell_other key' key v a.cells (h ((Decides-eqb depth depth').1 same))
    by true e false k later =
        ap (λ l. what (at_depth depth l)) (at_head depth' key' v a older e)
        ∙ ap (λ b. what (if b then Some (record a { cells = with_cell key' v a.cells }) else at_depth depth older)) k
    by false e true k later =
        ap (λ l. what (at_depth depth l)) (at_older depth' key' v a older e)
        ∙ ap (λ b. what (if b then Some a else at_depth depth (with_cell_at depth' key' v older)))
        (ap (λ n. depth == n) (changed_length depth' key' v older) ∙ k)
    by false e false k later =
        ap (λ l. what (at_depth depth l)) (at_older depth' key' v a older e)
        ∙ ap (λ b. what (if b then Some a else at_depth depth (with_cell_at depth' key' v older)))
        (ap (λ n. depth == n) (changed_length depth' key' v older) ∙ k) ∙ later

differ_back : (depth key depth' key' : ℕ) → Differ depth key depth' key' → Differ depth' key' depth key
differ_back depth key depth' key' h e =
    let one : (key == key') ≡ false = h ((Decides-eqb depth depth').1 (sym ((Decides-eqb depth' depth).0 e))) in
    not_same key' key (λ k. absurd (false≢true (sym one ∙ (Decides-eqb key key').1 (sym k))))

module _ (setting : Setting) where
  differing : (w : State) (a b : Addr) (x y : Datum) → Differ a.depth a.key.0 b.depth b.key.0 →
      Alike (stored_at a x (stored_at b y w)).activations (stored_at b y (stored_at a x w)).activations
  differing w a b x y h =
      let one : root_of a (stored_at b y w) ≡ root_of a w = held_kept a.depth a.key.0 b.depth b.key.0
      (replaced b.path y (root_of b w)) w.activations h in
      let other : root_of b (stored_at a x w) ≡ root_of b w = held_kept b.depth b.key.0 a.depth a.key.0
      (replaced a.path x (root_of a w)) w.activations (differ_back a.depth a.key.0 b.depth b.key.0 h) in
      alike_by (ap (λ r. with_cell_at a.depth a.key.0 (replaced a.path x r) (stored_at b y w).activations) one)
      (ap (λ r. with_cell_at b.depth b.key.0 (replaced b.path y r) (stored_at a x w).activations) other)
      (swap_acts a.depth a.key.0 b.depth b.key.0 (replaced a.path x (root_of a w)) (replaced b.path y (root_of b w))
      w.activations h)

  -- in one local
  together : (w : State) (depth key : ℕ) (path other : List At) (x y : Datum) → AreApart path other →
      Alike (stored_at (record { depth = depth; key = (record { 0 = key }); path = path }) x
      (stored_at (record { depth = depth; key = (record { 0 = key }); path = other }) y w)).activations
      (stored_at (record { depth = depth; key = (record { 0 = key }); path = other }) y
      (stored_at (record { depth = depth; key = (record { 0 = key }); path = path }) x w)).activations
  together w depth key path other x y apart = by (at_depth depth w.activations) refl
    where
      r : Datum
      r = option_map_or (λ (x : Activation). cell key x.cells) (at_depth depth w.activations) Gone

      held_now : (act : Activation) → at_depth depth w.activations ≡ Some act → (d : Datum) →
          option_map_or (λ (x : Activation). cell key x.cells)
          (at_depth depth (with_cell_at depth key d w.activations))
          Gone ≡ d
      held_now act e d =
          ap (λ o. option_map_or (λ (x : Activation). cell key x.cells) o Gone)
          (depth_changed setting depth key d act w.activations e) ∙ cell_changed key d act.cells

      by : (o : Option Activation) → at_depth depth w.activations ≡ o →
          Alike (stored_at (record { depth = depth; key = (record { 0 = key }); path = path }) x
          (stored_at (record { depth = depth; key = (record { 0 = key }); path = other }) y w)).activations
          (stored_at (record { depth = depth; key = (record { 0 = key }); path = other }) y
          (stored_at (record { depth = depth; key = (record { 0 = key }); path = path }) x w)).activations
      by None e =
          let none : (d : Datum) → with_cell_at depth key d w.activations ≡ w.activations =
          λ d. nothing_changed depth key d w.activations e in
          alike_by (ap (λ l. with_cell_at depth key
          (replaced path x (option_map_or (λ (x : Activation). cell key x.cells) (at_depth depth l) Gone)) l)
          (none (replaced other y r)) ∙ none (replaced path x r))
          (ap (λ l. with_cell_at depth key
          (replaced other y (option_map_or (λ (x : Activation). cell key x.cells) (at_depth depth l) Gone)) l)
          (none (replaced path x r)) ∙ none (replaced other y r))
          (alike_itself w.activations)
      by (Some act) e =
          alike_after
          (alike_by (ap (λ d. with_cell_at depth key (replaced path x d)
          (with_cell_at depth key (replaced other y r) w.activations)) (held_now act e (replaced other y r))) refl
          (changed_twice depth key (replaced other y r) (replaced path x (replaced other y r)) w.activations)) _
          (alike_by (ap (λ d. with_cell_at depth key d w.activations) (replaced-swap path other x y r apart)) refl
          (alike_back
          (alike_by (ap (λ d. with_cell_at depth key (replaced other y d)
          (with_cell_at depth key (replaced path x r) w.activations)) (held_now act e (replaced path x r))) refl
          (changed_twice depth key (replaced path x r) (replaced other y (replaced path x r)) w.activations))))

  same_root : (w : State) (a b : Addr) (x y : Datum) → a.depth ≡ b.depth → a.key.0 ≡ b.key.0 →
      AreApart a.path b.path →
      Alike (stored_at a x (stored_at b y w)).activations (stored_at b y (stored_at a x w)).activations
  same_root w a b x y e k apart =
      subst (λ depth. Alike
      (stored_at (record { depth = depth; key = a.key; path = a.path }) x (stored_at b y w)).activations
      (stored_at b y (stored_at (record { depth = depth; key = a.key; path = a.path }) x w)).activations) (sym e)
      (subst (λ key. Alike (stored_at (record { depth = b.depth; key = (record { 0 = key }); path = a.path }) x
      (stored_at b y w)).activations
      (stored_at b y (stored_at (record { depth = b.depth; key = (record { 0 = key }); path = a.path }) x
      w)).activations) (sym k)
      (together w b.depth b.key.0 a.path b.path x y apart))

  -- the order does not matter
  pub stored_apart : (w : State) (a b : Addr) (x y : Datum) → Apart a b →
      Alike (stored_at a x (stored_at b y w)).activations (stored_at b y (stored_at a x w)).activations
  stored_apart w a b x y (other_depth _ _ h) =
      differing w a b x y (λ e. absurd (false≢true (sym (not_same a.depth b.depth h) ∙ e)))
  stored_apart w a b x y (other_local _ _ h) = differing w a b x y (λ e. not_same a.key.0 b.key.0 h)
  stored_apart w a b x y (other_part _ _ h) = by (a.depth == b.depth) refl (a.key.0 == b.key.0) refl
    where
      by : (t : Bool) → (a.depth == b.depth) ≡ t → (u : Bool) → (a.key.0 == b.key.0) ≡ u →
          Alike (stored_at a x (stored_at b y w)).activations (stored_at b y (stored_at a x w)).activations
      by true e true k = same_root w a b x y ((Decides-eqb a.depth b.depth).0 e) ((Decides-eqb a.key.0 b.key.0).0 k)
          h
      by true e false k = differing w a b x y (λ z. k)
      by false e u k = differing w a b x y (λ z. absurd (false≢true (sym e ∙ z)))

  -- to store below an address is to change what stands there
  pub stored_along : (w : State) (a : Addr) (s : Located) (rest : List At) (d : Datum) →
      located_at setting w a ≡ Some s →
      stored_at (record a { path = a.path ++ rest }) d w ≡ stored_at a (replaced rest d s.value) w
  stored_along w a s rest d e =
      ap (λ (v : Datum). record w { activations = with_cell_at a.depth a.key.0 v w.activations })
      (replaced-append a.path rest d (root_of a w) s.value (value_there setting w a s e))

  -- ---- values at several addresses

  -- an address is apart from each of some
  pub data ApartFrom (a : Addr) : List Addr → Type 0 where
    from_none : ApartFrom a []
    from_one : (b : Addr) (rest : List Addr) → Apart a b → Apart b a → ApartFrom a rest → ApartFrom a (b ∷ rest)

  pub data AllApart : List Addr → Type 0 where
    none_apart : AllApart []
    one_apart : (a : Addr) (rest : List Addr) → ApartFrom a rest → AllApart rest → AllApart (a ∷ rest)

  pub located_from : (a : Addr) (addresses : List Addr) (values : List Datum) (w : State) → ApartFrom a addresses →
      located_at setting (written addresses values w) a ≡ located_at setting w a
  located_from a [] values w _ = refl
  located_from a (b ∷ rest) [] w _ = refl
  located_from a (b ∷ rest) (d ∷ values) w (from_one _ _ h k later) =
      located_apart setting (written rest values w) a b d h ∙ located_from a rest values w later

  -- the values with another one for one of the addresses
  abbrev pub with_value : ℕ → Datum → List Datum → List Datum
  with_value n d [] = []
  with_value zero d (e ∷ values) = d ∷ values
  with_value (suc n) d (e ∷ values) = e ∷ with_value n d values

  stored_past : (a : Addr) (d : Datum) (addresses : List Addr) (values : List Datum) (w : State) →
      ApartFrom a addresses →
      Alike (stored_at a d (written addresses values w)).activations
      (written addresses values (stored_at a d w)).activations
  stored_past a d [] values w _ = alike_itself _
  stored_past a d (b ∷ rest) [] w _ = alike_itself _
  stored_past a d (b ∷ rest) (e ∷ values) w (from_one _ _ h k later) =
      alike_after (stored_apart (written rest values w) a b d e h) _
      (stored_alike setting (stored_at a d (written rest values w)) (written rest values (stored_at a d w)) b e
      (stored_past a d rest values w later))

  apart_from : (a b : Addr) (rest : List Addr) (n : ℕ) → ApartFrom a rest → slice_get rest n ≡ Some b → Apart b a
  apart_from a b [] n _ e = absurd (none-some b e)
  apart_from a b (c ∷ rest) zero (from_one _ _ h k later) e = let same : c ≡ b = cc in subst (λ x. Apart x a) same k
  apart_from a b (c ∷ rest) (suc n) (from_one _ _ h k later) e = apart_from a b rest n later e

  pub with_value_length : (n : ℕ) (d : Datum) (values : List Datum) → length (with_value n d values) ≡ length values
  with_value_length n d [] = refl
  with_value_length zero d (x ∷ values) = refl
  with_value_length (suc n) d (x ∷ values) = ap suc (with_value_length n d values)

  -- one more value at one of the addresses
  pub written_changed : (addresses : List Addr) (n : ℕ) (values : List Datum) (w : State) (a : Addr) (s : Located)
      (old d : Datum) → AllApart addresses → slice_get addresses n ≡ Some a →
      slice_get values n ≡ Some old → located_at setting w a ≡ Some s →
      Alike (stored_at a d (written addresses values w)).activations
      (written addresses (with_value n d values) w).activations
  written_changed [] n values w a s old d _ e k h = absurd (none-some a e)
  written_changed (b ∷ rest) n [] w a s old d _ e k h = absurd (none-some old k)
  written_changed (b ∷ rest) zero (x ∷ values) w a s old d (one_apart _ _ from later) e k h =
      let same : b ≡ a = cc in
      subst (λ c. Alike (stored_at a d (stored_at c x (written rest values w))).activations
      (stored_at c d (written rest values w)).activations) (sym same)
      (stored_twice setting (written rest values w) a s x d
      (located_from a rest values w (subst (λ c. ApartFrom c rest) same from) ∙ h))
  written_changed (b ∷ rest) (suc n) (x ∷ values) w a s old d (one_apart _ _ from later) e k h =
      alike_after (stored_apart (written rest values w) a b d x (apart_from b a rest n from e)) _
      (stored_alike setting (stored_at a d (written rest values w)) (written rest (with_value n d values) w) b x
      (written_changed rest n values w a s old d later e k h))

  -- what was written stands there
  pub written_located : (addresses : List Addr) (n : ℕ) (values : List Datum) (w : State) (a : Addr) (s : Located)
      (d : Datum) → AllApart addresses → slice_get addresses n ≡ Some a →
      slice_get values n ≡ Some d → located_at setting w a ≡ Some s →
      located_at setting (written addresses values w) a
      ≡ Some (record s { value = d })
  written_located [] n values w a s d _ e k h = absurd (none-some a e)
  written_located (b ∷ rest) n [] w a s d _ e k h = absurd (none-some d k)
  written_located (b ∷ rest) zero (x ∷ values) w a s d (one_apart _ _ from later) e k h =
      let same : b ≡ a = cc in
      let is_it : x ≡ d = cc in
      subst (λ c. located_at setting (stored_at c x (written rest values w)) a ≡ Some (record s { value = d }))
      (sym same)
      (subst (λ y. located_at setting (stored_at a y (written rest values w)) a ≡ Some (record s { value = d }))
      (sym is_it)
      (stored_located setting (written rest values w) a s d
      (located_from a rest values w (subst (λ c. ApartFrom c rest) same from) ∙ h)))
  written_located (b ∷ rest) (suc n) (x ∷ values) w a s d (one_apart _ _ from later) e k h =
      located_apart setting (written rest values w) a b x (apart_from b a rest n from e)
      ∙ written_located rest n values w a s d later e k h

  -- an address below another is apart from what that is apart from
  append_apart : (one other rest : List At) → AreApart one other → AreApart one (other ++ rest)
  append_apart one other rest apart = record {
    above = apart.above;
    one_step = apart.one_step;
    one_below = apart.one_below;
    other_step = apart.other_step;
    other_below = apart.other_below ++ rest;
    one_is = apart.one_is;
    other_is = ap (λ p. p ++ rest) apart.other_is ∙ append_assoc apart.above (apart.other_step ∷ apart.other_below)
        rest;
    differ = apart.differ;
  }

  pub apart_below : (a b : Addr) (rest : List At) → Apart a b → Apart a (record b { path = b.path ++ rest })
  apart_below a b rest (other_depth _ _ h) = other_depth a (record b { path = b.path ++ rest }) h
  apart_below a b rest (other_local _ _ h) = other_local a (record b { path = b.path ++ rest }) h
  apart_below a b rest (other_part _ _ h) = other_part a (record b { path = b.path ++ rest })
      (append_apart a.path b.path rest h)
