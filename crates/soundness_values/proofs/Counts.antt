-- How often a serial number is held: in values, in the locals of a body, in all activations; and how that changes
-- where another value is stored.
use Rattle.std.proofs.Common.{◌≡◌, ℕ, zero, suc, ◌+◌, ◌<◌, ◌==◌, Bool, true, false, List, [], ◌∷◌, ◌++◌, length, Some, if◌then◌else◌, refl, ap, sym, ◌∙◌, subst, arith}
use Rattle.std.specs.Option.{option_map_or}
use Rattle.std.proofs.lemmas.Bool.Decides.{Decides-eqb}
use Rattle.std.proofs.lemmas.Option.{none-some}
use Rattle.mir_ty.specs.declared.ty.TyId.{TyId}
use Rattle.store_model.proofs.Values.Serials.{serials-split}
use Rattle.store_model.specs.declared.address.Addr.{Addr}
use Rattle.store_model.specs.declared.address.At.{At}
use Rattle.store_model.specs.Values.Datum.{Datum, Gone}
use Rattle.store_model.specs.Values.Access.{value_at, replaced}
use Rattle.store_model.specs.Values.Wholeness.{serials}
use Rattle.store_model.specs.Concrete.Location.{Setting, Located, located_at, stored_at, root_of}
use Rattle.store_model.specs.Concrete.State.{State, Activation, Cells, cell, with_cell, at_depth, with_cell_at}
use Rattle.mir_base.specs.Once.{times}
use Rattle.soundness_values.proofs.Standings.{Alike, none_runs, one_runs, cell_changed, cell_other, RunsAt, runs_at, value_there}

pub times_append : (k : ℕ) (a b : List ℕ) → times k (a ++ b) ≡ times k a + times k b
times_append k [] b = let z : times k b ≡ 0 + times k b = omega arith in z
times_append k (n ∷ a) b = by (k == n) (times_append k a b)
  where
    by : (t : Bool) → times k (a ++ b) ≡ times k a + times k b →
        (if t then suc (times k (a ++ b)) else times k (a ++ b)) ≡ (if t then suc (times k a) else times k a)
        + times k b
    by true h = omega arith
    by false h = h

-- how often a number is in a value
abbrev pub in_value : ℕ → Datum → ℕ
in_value k d = times k (serials d)

-- a value put into the place of another
pub value_changed : (k : ℕ) (path : List At) (new root old : Datum) → value_at path root ≡ Some old →
    in_value k (replaced path new root) + in_value k old ≡ in_value k root + in_value k new
value_changed k path new root old e =
    let split = serials-split path root old e in
    let before : List ℕ = split.0 in
    let after : List ℕ = split.1 in
    let was : in_value k root ≡ (times k before + in_value k old) + times k after =
    ap (times k) split.2 ∙ times_append k (before ++ serials old) after ∙ ap (λ n. n + times k after)
    (times_append k before (serials old)) in
    let now : in_value k (replaced path new root) ≡ (times k before + in_value k new) + times k after =
    ap (times k) (split.3 new) ∙ times_append k (before ++ serials new) after ∙ ap (λ n. n + times k after)
    (times_append k before (serials new)) in
    omega arith

-- in the locals below a number
abbrev pub in_cells : ℕ → ℕ → Cells → ℕ
in_cells k zero cells = 0
in_cells k (suc n) cells = in_cells k n cells + in_value k (cell n cells)

pub same_below : (k n : ℕ) (a b : Cells) → ((key : ℕ) → key < n → cell key a ≡ cell key b) →
    in_cells k n a ≡ in_cells k n b
same_below k zero a b h = refl
same_below k (suc n) a b h =
    let later = same_below k n a b (λ key l. h key (let z : key < suc n = omega arith in z)) in
    let here : in_value k (cell n a) ≡ in_value k (cell n b) =
    ap (in_value k) (h n (let z : n < suc n = omega arith in z)) in
    omega arith

differs : (key n : ℕ) → n < key → (n == key) ≡ false
differs key n l = by (n == key) refl
  where
    by : (b : Bool) → (n == key) ≡ b → b ≡ false
    by false e = refl
    by true e = absurd (let same : n ≡ key = (Decides-eqb n key).0 e in let never : ⊥ = omega arith in never)

above : (key n : ℕ) → key < n → (n == key) ≡ false
above key n l = by (n == key) refl
  where
    by : (b : Bool) → (n == key) ≡ b → b ≡ false
    by false e = refl
    by true e = absurd (let same : n ≡ key = (Decides-eqb n key).0 e in let never : ⊥ = omega arith in never)

pub cells_changed : (k n key : ℕ) (new : Datum) (cells : Cells) → key < n → in_cells k n (with_cell key new cells)
    + in_value k (cell key cells) ≡ in_cells k n cells + in_value k new
cells_changed k zero key new cells l = absurd (let never : ⊥ = omega arith in never)
cells_changed k (suc n) key new cells l = by (λ h. cells_changed k n key new cells h) (n == key) refl
  where
    by : (key < n → in_cells k n (with_cell key new cells) + in_value k (cell key cells) ≡ in_cells k n cells
        + in_value k new) → (b : Bool) → (n == key) ≡ b → in_cells k (suc n) (with_cell key new cells) + in_value k
        (cell key cells) ≡ in_cells k (suc n) cells + in_value k new
    by earlier true e =
        let same : n ≡ key = (Decides-eqb n key).0 e in
        let below : in_cells k n (with_cell key new cells) ≡ in_cells k n cells =
        same_below k n (with_cell key new cells) cells
        (λ j h. cell_other key j new cells (differs key j (let z : j < key = omega arith in z))) in
        let here : in_value k (cell n (with_cell key new cells)) ≡ in_value k new =
        ap (in_value k) (ap (λ j. cell j (with_cell key new cells)) same ∙ cell_changed key new cells) in
        let there : in_value k (cell n cells) ≡ in_value k (cell key cells) =
        ap (λ j. in_value k (cell j cells)) same in
        omega arith
    by earlier false e =
        let later = earlier (let z : key < n = less e in z) in
        let here : in_value k (cell n (with_cell key new cells)) ≡ in_value k (cell n cells) =
        ap (in_value k) (cell_other key n new cells e) in
        omega arith
      where
        less : (n == key) ≡ false → key < n
        less e = at_most (λ same. absurd (let t : (n == key) ≡ true = (Decides-eqb n key).1 same in let never : ⊥ =
            cc in never))
          where
            at_most : (n ≡ key → ⊥) → key < n
            at_most h = omega arith

-- in all activations, where each body has so many locals
abbrev pub held : (ℕ → ℕ) → ℕ → List Activation → ℕ
held size k [] = 0
held size k (a ∷ older) = in_cells k (size a.body) a.cells + held size k older

module _ (size : ℕ → ℕ) (k : ℕ) where
  pub activations_changed : (depth key : ℕ) (new : Datum) (act : Activation) (acts : List Activation) →
      at_depth depth acts ≡ Some act → key < size act.body →
      held size k (with_cell_at depth key new acts) + in_value k (cell key act.cells) ≡ held size k acts
      + in_value k new
  activations_changed depth key new act [] e l = absurd (none-some act e)
  activations_changed depth key new act (a ∷ older) e l = by (depth == length older) e
      (activations_changed depth key new act older)
    where
      by : (t : Bool) → (if t then Some a else at_depth depth older) ≡ Some act →
          (at_depth depth older ≡ Some act → key < size act.body → held size k (with_cell_at depth key new older)
          + in_value k (cell key act.cells) ≡ held size k older + in_value k new) →
          held size k (if t then (record a { cells = with_cell key new a.cells }) ∷ older else a ∷ with_cell_at depth
          key new older) + in_value k (cell key act.cells) ≡ held size k (a ∷ older) + in_value k new
      by true e later =
          let same : act ≡ a = cc in
          subst (λ (x : Activation). key < size x.body →
          held size k ((record a { cells = with_cell key new a.cells }) ∷ older) + in_value k (cell key x.cells)
          ≡ held size k (a ∷ older) + in_value k new) (sym same)
          (λ l. let here = cells_changed k (size a.body) key new a.cells l in omega arith) l
      by false e later = let there = later e l in omega arith

  -- the same is held in alike activations
  pub held_alike : {a b : List Activation} → Alike a b → held size k a ≡ held size k b
  held_alike none_runs = refl
  held_alike (one_runs body a b older older' h e) =
      let here : in_cells k (size body) a ≡ in_cells k (size body) b = same_below k (size body) a b
      (λ key l. h key) in
      let later = held_alike e in
      omega arith

  module _ (setting : Setting) (sized : (body key : ℕ) (id : TyId) → setting.local_ty body key ≡ Some id →
      key < size body) where
    -- what is held after another value was stored where one stands
    pub held_stored : (w : State) (a : Addr) (s : Located) (new : Datum) → located_at setting w a ≡ Some s →
        held size k (stored_at a new w).activations + in_value k s.value ≡ held size k w.activations + in_value k new
    held_stored w a s new e =
        let r = runs_at setting w a s e in
        let acts = activations_changed a.depth a.key.0 (replaced a.path new (root_of a w)) r.act w.activations
        r.is_at
        (sized r.act.body a.key.0 r.id r.is_typed) in
        let root : in_value k (cell a.key.0 r.act.cells) ≡ in_value k (root_of a w) =
        ap (in_value k) (sym (held_root w a s r)) in
        let change = value_changed k a.path new (root_of a w) s.value (value_there setting w a s e) in
        omega arith
      where
        held_root : (w : State) (a : Addr) (s : Located) (r : RunsAt setting w a s) →
            root_of a w ≡ cell a.key.0 r.act.cells
        held_root w a s r = ap (λ o. option_map_or (λ (x : Activation). cell a.key.0 x.cells) o Gone) r.is_at

    -- the same of a state that is like it
    pub held_after : (w v : State) (a : Addr) (s : Located) (new : Datum) → located_at setting w a ≡ Some s →
        Alike v.activations (stored_at a new w).activations →
        held size k v.activations + in_value k s.value ≡ held size k w.activations + in_value k new
    held_after w v a s new e j =
        let same = held_alike j in
        let stored = held_stored w a s new e in
        omega arith
