-- What a body does with exactly what a protected parameter names: it stores into it nowhere, and passes it on for
-- protected parameters alone, since the parameter would be replaceable otherwise.
use Rattle.std.proofs.Common.{◌≡◌, ◌⊎◌, inl, inr, ℕ, zero, suc, ◌+◌, ◌<◌, ◌≤◌, ◌==◌, ◌&&◌, not, Bool, true, false, List, [], ◌∷◌, ◌++◌, map, length, Contains, Option, Some, None, if◌then◌else◌, refl, ap, sym, ◌∙◌, subst, arith}
use Rattle.std.specs.Prelude.{slice_get, option_and_then}
use Rattle.std.specs.List.{filter_map, flat_map, cons_option}
use Rattle.std.specs.Option.{option_map_or}
use Rattle.std.proofs.lemmas.Bool.{false≢true}
use Rattle.std.proofs.lemmas.Bool.Decides.{Decides-eqb}
use Rattle.std.proofs.lemmas.Option.{none-some, same_Some}
use Rattle.mir_base.specs.declared.place_in_text.Pos.{Pos}
use Rattle.mir_ty.specs.declared.def.Sig.{Sig}
use Rattle.mir_ty.specs.declared.ty.TyId.{TyId}
use Rattle.mir_ty.specs.ItemTable.{ItemTable, type_at}
use Rattle.store_model.specs.Places.Place.{is_reference}
use Rattle.src_meaning.specs.Locals.OfBody.{locals, local_of}
use Rattle.src_meaning.specs.Scopes.{Entry}
use Rattle.typed_tree.specs.Nodes.{number_of, nodes_of, param_nodes}
use Rattle.typed_tree.specs.Tree.{Node, Nodes, a_node, ParamTree, BodyTree, ProgramTree}
use Rattle.typing_rules.specs.Replaced as rules
use Rattle.typing_rules.specs.Replaced.{Passing, store_of, stores, passings, passings_of, passes_key, is_key, numbers_for, is_some_pos, facts_of, facts_from, all_facts, is_among, bodies_of, replaceable, Replaceable, by_store, by_call}
use Rattle.typing_rules.proofs.LeastSet.{rounds_find_the_least}
use Rattle.well_typed.specs.Claim.{Holds}
use Rattle.well_typed.specs.Program.{are_params}
use Rattle.soundness_values.proofs.OnceByPass.{is_reference_at, protected}
use Rattle.soundness_cells.proofs.PassCells.{NodeIn, and_left, and_right}
use Rattle.soundness_cells.proofs.PassLocals.{at_local}
use Rattle.soundness_cells.proofs.PassNumbers.{Numbered, numbered_left, numbered_right, own_number}

-- ---- members of lists

in_head : {A : Type 0} (x : A) (xs : List A) → Contains (x ∷ xs) x
in_head x xs = (zero, (let l : 0 < length (x ∷ xs) = omega arith in l), refl)

in_tail : {A : Type 0} (x : A) (xs : List A) (y : A) → Contains xs y → Contains (x ∷ xs) y
in_tail x xs y (k, l, e) = (suc k, (let m : suc k < length (x ∷ xs) = omega (arith, l) in m), e)

in_left : {A : Type 0} (a b : List A) (y : A) → Contains a y → Contains (a ++ b) y
in_left [] b y (k, l, e) = let never : ⊥ = omega (arith, l) in absurd never
in_left (x ∷ a) b y (zero, l, e) = (zero, (let m : 0 < length (x ∷ a ++ b) = omega arith in m), e)
in_left (x ∷ a) b y (suc k, l, e) =
    in_tail x (a ++ b) y (in_left a b y (k, (let m : k < length a = omega (arith, l) in m), e))

in_right : {A : Type 0} (a b : List A) (y : A) → Contains b y → Contains (a ++ b) y
in_right [] b y c = c
in_right (x ∷ a) b y c = in_tail x (a ++ b) y (in_right a b y c)

flat_in : {A B : Type 0} (f : A → List B) (l : List A) (n : ℕ) (x : A) (y : B) → slice_get l n ≡ Some x →
    Contains (f x) y → Contains (flat_map f l) y
flat_in f [] n x y e c = absurd (none-some x e)
flat_in f (z ∷ l) zero x y e c =
    in_left (f z) (flat_map f l) y (subst (λ w. Contains (f w) y) (sym (same_Some z x e)) c)
flat_in f (z ∷ l) (suc n) x y e c = in_right (f z) (flat_map f l) y (flat_in f l n x y e c)

node_in : {B : Type 0} (f : Node → List B) (ns : List Node) (m : Node) (y : B) → NodeIn ns m → Contains (f m) y →
    Contains (flat_map f ns) y
node_in f [] m y i c = absurd i
node_in f (n ∷ ns) m y (inl e) c =
    in_left (f n) (flat_map f ns) y (subst (λ w. Contains (f w) y) (sym e) c)
node_in f (n ∷ ns) m y (inr i) c = in_right (f n) (flat_map f ns) y (node_in f ns m y i c)

some_store : (key : ℕ) (ns : List Node) (m : Node) (at : Pos) → NodeIn ns m → store_of key m ≡ Some at →
    is_some_pos (filter_map (store_of key) ns) ≡ true
some_store key [] m at i e = absurd i
some_store key (n ∷ ns) m at i e = by (store_of key n) refl i (λ j. some_store key ns m at j e)
  where
    by : (o : Option Pos) → store_of key n ≡ o → (n ≡ m) ⊎ NodeIn ns m →
        (NodeIn ns m → is_some_pos (filter_map (store_of key) ns) ≡ true) →
        is_some_pos (cons_option o (filter_map (store_of key) ns)) ≡ true
    by (Some p) s i later = refl
    by None s (inl same) later = absurd (none-some at (sym s ∙ ap (store_of key) same ∙ e))
    by None s (inr j) later = later j

-- ---- the numbers of the parameters for which a variable is passed

pub first_passed : (key k : ℕ) (first : Node) (rest : Nodes) → passes_key first ≡ Some key →
    Contains (numbers_for key k (a_node first rest)) k
first_passed key k first rest e = subst (λ b. Contains (if b then k ∷ numbers_for key (suc k) rest
    else numbers_for key (suc k) rest) k) (sym found) (in_head k (numbers_for key (suc k) rest))
  where
    found : is_key key (passes_key first) ≡ true
    found = ap (is_key key) e ∙ (Decides-eqb key key).1 refl

pub rest_passed : (key k j : ℕ) (first : Node) (rest : Nodes) → Contains (numbers_for key (suc k) rest) j →
    Contains (numbers_for key k (a_node first rest)) j
rest_passed key k j first rest c = by (is_key key (passes_key first))
  where
    by : (b : Bool) →
        Contains (if b then k ∷ numbers_for key (suc k) rest else numbers_for key (suc k) rest) j
    by true = in_tail k (numbers_for key (suc k) rest) j c
    by false = c

pub mapped_in : {A B : Type 0} (f : A → B) (l : List A) (x : A) → Contains l x → Contains (map f l) (f x)
mapped_in f [] x (k, l, e) = let never : ⊥ = omega (arith, l) in absurd never
mapped_in f (y ∷ l) x (zero, m, e) =
    subst (λ z. Contains (f y ∷ map f l) (f z)) e (in_head (f y) (map f l))
mapped_in f (y ∷ l) x (suc k, m, e) =
    in_tail (f y) (map f l) (f x) (mapped_in f l x (k, (let h : k < length l = omega (arith, m) in h), e))

-- ---- the parameters of a body

abbrev as_entry : ParamTree → Entry
as_entry param = record { key = number_of param.pattern; ty = param.ty }

entry_at : (params : List ParamTree) (inside rest : List Entry) (j : ℕ) (param : ParamTree) →
    slice_get params j ≡ Some param → slice_get ((map as_entry params ++ inside) ++ rest) j ≡ Some (as_entry param)
entry_at [] inside rest j param e = absurd (none-some param e)
entry_at (x ∷ params) inside rest zero param e = ap (λ (q : ParamTree). Some (as_entry q)) (same_Some x param e)
entry_at (x ∷ params) inside rest (suc j) param e = entry_at params inside rest j param e

past_end : (params : List ParamTree) (inside rest : List Entry) (j : ℕ) (param : ParamTree) →
    slice_get params j ≡ Some param → length ((map as_entry params ++ inside) ++ rest) ≤ j → ⊥
past_end [] inside rest j param e l = none-some param e
past_end (x ∷ params) inside rest zero param e l = let never : ⊥ = omega (arith, l) in never
past_end (x ∷ params) inside rest (suc j) param e l =
    let less : length ((map as_entry params ++ inside) ++ rest) ≤ j = omega (arith, l) in
    past_end params inside rest j param e less

-- the local of a key that is a parameter's has its number
key_of : (answer : Entry) (params : List ParamTree) (inside rest : List Entry) (j key : ℕ) (param : ParamTree) →
    slice_get params j ≡ Some param → (m : ℕ) → m ≡ suc j →
    ((e : Entry) × ((slice_get (answer ∷ ((map as_entry params ++ inside) ++ rest)) m ≡ Some e) × (e.key ≡ key)))
    ⊎ (length (answer ∷ ((map as_entry params ++ inside) ++ rest)) ≤ m) → number_of param.pattern ≡ key
key_of answer params inside rest j key param at m is (inl (e, (h, same))) =
    ap (λ (x : Entry). x.key) (same_Some (as_entry param) e (sym (entry_at params inside rest j param at)
    ∙ subst (λ k. slice_get (answer ∷ ((map as_entry params ++ inside) ++ rest)) k ≡ Some e) is h)) ∙ same
key_of answer params inside rest j key param at m is (inr past) =
    let all : suc (length ((map as_entry params ++ inside) ++ rest)) ≤ m = past in
    let less : length ((map as_entry params ++ inside) ++ rest) ≤ j = omega (all, is, arith) in
    absurd (past_end params inside rest j param at less)

param_there : (items : ItemTable) (tys : List TyId) (params : List ParamTree) → Holds (are_params items tys params) →
    (j : ℕ) (ty : TyId) → slice_get tys j ≡ Some ty → (param : ParamTree) × (slice_get params j ≡ Some param)
param_there items [] params h j ty e = absurd (none-some ty e)
param_there items (t ∷ tys) [] h j ty e = absurd (false≢true h)
param_there items (t ∷ tys) (param ∷ params) h zero ty e = (param, refl)
param_there items (t ∷ tys) (param ∷ params) h (suc j) ty e = param_there items tys params h.1 j ty e

facts_in : (b : BodyTree) (params : List ParamTree) (k j i : ℕ) (param : ParamTree) → slice_get params j ≡ Some param →
    i ≡ k + j → Contains (facts_from b k params) (facts_of b i param)
facts_in b [] k j i param e same = absurd (none-some param e)
facts_in b (x ∷ params) k zero i param e same =
    let here : k ≡ i = omega (same, arith) in
    subst (λ m. Contains (facts_from b k (x ∷ params)) (facts_of b m param)) here
    (subst (λ (q : ParamTree). Contains (facts_from b k (x ∷ params)) (facts_of b k q)) (same_Some x param e)
    (in_head (facts_of b k x) (facts_from b (suc k) params)))
facts_in b (x ∷ params) k (suc j) i param e same =
    let next : i ≡ suc k + j = omega (same, arith) in
    in_tail (facts_of b k x) (facts_from b (suc k) params) (facts_of b i param)
    (facts_in b params (suc k) j i param e next)

pub param_numbered : (params : List ParamTree) (j : ℕ) (param : ParamTree) → slice_get params j ≡ Some param →
    Numbered (param_nodes params) (number_of param.pattern)
param_numbered [] j param e = absurd (none-some param e)
param_numbered (x ∷ params) zero param e = subst (λ (q : ParamTree). Numbered (nodes_of x.pattern ++ param_nodes params)
    (number_of q.pattern)) (same_Some x param e)
    (numbered_left (nodes_of x.pattern) (param_nodes params) (number_of x.pattern) (own_number x.pattern))
param_numbered (x ∷ params) (suc j) param e = numbered_right (nodes_of x.pattern) (param_nodes params)
    (number_of param.pattern) (param_numbered params j param e)

not_true : (c : Bool) → not c ≡ true → c ≡ false
not_true true h = absurd (false≢true h)
not_true false h = refl

-- ---- of one body

module _ (p : ProgramTree) (n : ℕ) (b : BodyTree) (at : slice_get p.bodies n ≡ Some b) (own : b.number ≡ n) (sig : Sig)
    (there : slice_get p.items.bodies n ≡ Some sig) (params : Holds (are_params p.items sig.params b.params)) where
  -- a protected parameter, by its number and its key
  pub record Param (key : ℕ) : Type 0 where
    pub number : ℕ
    pub param : ParamTree
    pub is_param : slice_get b.params number ≡ Some param
    pub is_key : number_of param.pattern ≡ key
    pub kept : is_among (replaceable p) number n ≡ false

  of_type : (j : ℕ) → is_reference_at p.items n j ≡ true → (ty : TyId) × (slice_get sig.params j ≡ Some ty)
  of_type j h = by (slice_get sig.params j) refl
      (sym (ap (λ o. option_map_or (λ (s : Sig). is_reference
      (option_and_then (type_at p.items) (slice_get s.params j))) o
      false) there) ∙ h)
    where
      by : (o : Option TyId) → slice_get sig.params j ≡ o → is_reference (option_and_then (type_at p.items) o) ≡ true →
          (ty : TyId) × (slice_get sig.params j ≡ Some ty)
      by None e h = absurd (false≢true h)
      by (Some ty) e h = (ty, e)

  pub protected_param : (key m : ℕ) → local_of p.items b key ≡ m → protected p n m ≡ true → Param key
  protected_param key zero e h = absurd (false≢true h)
  protected_param key (suc j) e h =
      let t = of_type j (and_left (is_reference_at p.items n j) (not (is_among (replaceable p) j n)) h) in
      let q = param_there p.items sig.params b.params params j t.0 t.1 in
      record {
        number = j;
        param = q.0;
        is_param = q.1;
        is_key = key_of _ b.params _ _ j key q.0 q.1 (local_of p.items b key) e (at_local (locals p.items b) key);
        kept = not_true (is_among (replaceable p) j n)
            (and_right (is_reference_at p.items n j) (not (is_among (replaceable p) j n)) h);
      }

  module _ (key : ℕ) (q : Param key) where
    facts_there : Contains (all_facts p.bodies) (facts_of b q.number q.param)
    facts_there = flat_in (λ (body : BodyTree). facts_from body 0 body.params) p.bodies n b
        (facts_of b q.number q.param) at
        (facts_in b b.params 0 q.number q.number q.param q.is_param
        (let e : q.number ≡ 0 + q.number = omega arith in e))

    never : Replaceable p.items (all_facts p.bodies) q.number b.number → ⊥
    never r = false≢true (sym q.kept ∙ subst (λ m. is_among (replaceable p) q.number m ≡ true) own
        ((rounds_find_the_least p q.number b.number).1 r))

    -- it is never stored into as a whole
    pub never_stored : (m : Node) (pos : Pos) → NodeIn (nodes_of b.block) m → store_of key m ≡ Some pos → ⊥
    never_stored m pos i e = never (by_store (facts_of b q.number q.param) facts_there
        (subst (λ k. is_some_pos (stores k b) ≡ true) (sym q.is_key)
        (some_store key (nodes_of b.block) m pos i e)))

    -- the parameter for which it is passed is not replaceable
    pub passed_kept : (m : Node) (passing : Passing) (c : ℕ) → NodeIn (nodes_of b.block) m →
        Contains (passings_of key m) passing → Contains (bodies_of p.items passing.callee) c →
        is_among (replaceable p) passing.number c ≡ false
    passed_kept m passing c i at_call calls = by (is_among (replaceable p) passing.number c) refl
      where
        by : (d : Bool) → is_among (replaceable p) passing.number c ≡ d → d ≡ false
        by false e = refl
        by true e = absurd (never (by_call (facts_of b q.number q.param) passing c facts_there
            (subst (λ k. Contains (passings k b) passing) (sym q.is_key)
            (node_in (passings_of key) (nodes_of b.block) m passing i at_call)) calls
            ((rounds_find_the_least p passing.number c).0 e)))
