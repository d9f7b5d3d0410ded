-- Which numbers the locals of a body hold as it begins, those of its arguments, and as it ends, where only its result
-- stands; and that what stands at an address is held.
use Rattle.std.proofs.Common.{◌≡◌, ◌⊎◌, inl, inr, ℕ, zero, suc, ◌+◌, ◌<◌, ◌≤◌, ◌==◌, Bool, true, false, List, [], ◌∷◌, ◌++◌, length, Some, if◌then◌else◌, refl, ap, sym, ◌∙◌, arith}
use Rattle.std.proofs.lemmas.Bool.{false≢true}
use Rattle.std.proofs.lemmas.Bool.Decides.{Decides-eqb}
use Rattle.mir_base.specs.Once.{times}
use Rattle.mir_ty.specs.declared.ty.TyId.{TyId}
use Rattle.mir_ty.specs.Facts.{needs_drop}
use Rattle.mir_ty.specs.ItemTable.{ItemTable}
use Rattle.store_model.specs.declared.address.Addr.{Addr}
use Rattle.store_model.specs.Values.Datum.{Datum, Gone}
use Rattle.store_model.specs.Values.Wholeness.{serials}
use Rattle.store_model.specs.Abstract.Presence.{Presence, itself_gone}
use Rattle.store_model.specs.Concrete.Location.{Setting, DynamicType, OfType, Located, located_at}
use Rattle.store_model.specs.Concrete.State.{State, Cells, cell, with_cell}
use Rattle.src_meaning.specs.Programs.{arguments_from}
use Rattle.soundness_values.proofs.Apart.{not_same}
use Rattle.soundness_values.proofs.Counts.{times_append, in_value, in_cells, same_below, cells_changed, held, held_stored}
use Rattle.soundness_values.proofs.Fits.{Fits}
use Rattle.soundness_values.proofs.Quiet.{quiet, no_numbers}
use Rattle.soundness_values.proofs.Standings.{cell_changed, cell_other}

-- the numbers in the arguments of a call
abbrev pub serials_of_args : List Datum → List ℕ
serials_of_args [] = []
serials_of_args (d ∷ ds) = serials d ++ serials_of_args ds

-- ---- arguments

none_in : (k m : ℕ) → in_cells k m [] ≡ 0
none_in k zero = refl
none_in k (suc m) =
    let before : in_cells k m [] ≡ 0 = none_in k m in
    let here : in_value k (cell m []) ≡ 0 = refl in
    omega arith

cons_cell : (l key : ℕ) (d : Datum) (rest : Cells) → cell key ((l, d) ∷ rest) ≡ cell key (with_cell l d rest)
cons_cell l key d rest = by (key == l) refl
  where
    by : (b : Bool) → (key == l) ≡ b → cell key ((l, d) ∷ rest) ≡ cell key (with_cell l d rest)
    by true e =
        let same : key ≡ l = (Decides-eqb key l).0 e in
        ap (λ x. if x then d else cell key rest) e
        ∙ sym (ap (λ n. cell n (with_cell l d rest)) same ∙ cell_changed l d rest)
    by false e = ap (λ x. if x then d else cell key rest) e ∙ sym (cell_other l key d rest e)

-- no argument stands under a lower number
before_args : (l key : ℕ) (ds : List Datum) → key < l → cell key (arguments_from l ds) ≡ Gone
before_args l key [] less = refl
before_args l key (d ∷ ds) less =
    ap (λ b. if b then d else cell key (arguments_from (suc l) ds))
    (not_same key l (λ same. let never : ⊥ = omega arith in never))
    ∙ before_args (suc l) key ds (let more : key < suc l = omega arith in more)

pub args_held : (k : ℕ) (ds : List Datum) (l m : ℕ) → l + length ds ≤ m →
    in_cells k m (arguments_from l ds) ≡ times k (serials_of_args ds)
args_held k [] l m less = none_in k m
args_held k (d ∷ ds) l m less =
    let tail : Cells = arguments_from (suc l) ds in
    let count : length (d ∷ ds) ≡ suc (length ds) = refl in
    let below : l < m = omega arith in
    let change = cells_changed k m l d tail below in
    let same : in_cells k m (arguments_from l (d ∷ ds)) ≡ in_cells k m (with_cell l d tail) =
    same_below k m (arguments_from l (d ∷ ds)) (with_cell l d tail) (λ key b. cons_cell l key d tail) in
    let none : in_value k (cell l tail) ≡ 0 =
    ap (in_value k) (before_args (suc l) l ds (let more : l < suc l = omega arith in more)) in
    let later = args_held k ds (suc l) m (let more : suc l + length ds ≤ m = omega arith in more) in
    let both = times_append k (serials d) (serials_of_args ds) in
    omega arith

-- ---- what is left

pub none_below : (k m : ℕ) (c : Cells) → ((key : ℕ) → key < m → in_value k (cell key c) ≡ 0) → in_cells k m c ≡ 0
none_below k zero c f = refl
none_below k (suc m) c f =
    let before = none_below k m c (λ key l. f key (let more : key < suc m = omega arith in more)) in
    let here = f m (let last : m < suc m = omega arith in last) in
    omega arith

-- only the first
pub first_alone : (k m : ℕ) (c : Cells) → 0 < m → ((key : ℕ) → 0 < key → key < m → in_value k (cell key c) ≡ 0) →
    in_cells k m c ≡ in_value k (cell 0 c)
first_alone k zero c l f = absurd (let never : ⊥ = omega arith in never)
first_alone k (suc zero) c l f = let z : 0 + in_value k (cell 0 c) ≡ in_value k (cell 0 c) = omega arith in z
first_alone k (suc (suc m)) c l f =
    let before = first_alone k (suc m) c (let above : 0 < suc m = omega arith in above)
    (λ key a b. f key a (let more : key < suc (suc m) = omega arith in more)) in
    let here = f (suc m) (let above : 0 < suc m = omega arith in above)
    (let last : suc m < suc (suc m) = omega arith in last) in
    omega arith

-- what is known as gone, or needs no dropping, has no number
module _ (items : ItemTable) where
  pub gone_fits : (d : Datum) (found : DynamicType) (p : Presence) → itself_gone p ≡ true → Fits items found p d →
      d ≡ Gone
  gone_fits Gone found p e k = refl
  gone_fits other found p e k = absurd (false≢true (sym k.0 ∙ e))

  pub empty_of : (k : ℕ) (d : Datum) (id : TyId) (p : Presence) →
      (itself_gone p ≡ true) ⊎ (needs_drop items id ≡ false) → Fits items (OfType id) p d → in_value k d ≡ 0
  empty_of k d id p (inl e) fit = ap (in_value k) (gone_fits d (OfType id) p e fit)
  empty_of k d id p (inr e) fit = ap (times k) (no_numbers items d (quiet items d (OfType id) id p refl e fit))

-- what stands at an address is held
pub located_held : (size : ℕ → ℕ) (k : ℕ) (setting : Setting) (sized : (body key : ℕ) (id : TyId) →
    setting.local_ty body key ≡ Some id → key < size body) (w : State) (a : Addr) (s : Located) →
    located_at setting w a ≡ Some s → in_value k s.value ≤ held size k w.activations
located_held size k setting sized w a s e =
    let change = held_stored size k setting sized w a s Gone e in
    let none : in_value k Gone ≡ 0 = refl in
    omega arith
