-- The numbers of a body's nodes rise, so no node of its block has the cell of a parameter.
use Rattle.std.proofs.Common.{◌≡◌, inl, inr, ℕ, suc, ◌+◌, ◌<◌, ◌≤◌, ◌==◌, ◌&&◌, nat_lt, nat_le, not, Bool, true, false, List, [], ◌∷◌, ◌++◌, length, map, Some, None, cond, refl, sym, ap, subst, ◌∙◌, arith}
use Rattle.std.specs.Cmp.{first_so, second_so}
use Rattle.std.specs.List.{prefix_len}
use Rattle.std.specs.Option.{option_map_or}
use Rattle.std.proofs.lemmas.Bool.{ltb-true, lt-ltb, lt-leb}
use Rattle.std.proofs.lemmas.Bool.Decides.{eqb_tells}
use Rattle.std.proofs.lemmas.List.{append_assoc}
use Rattle.mir_ty.specs.ItemTable.{ItemTable}
use Rattle.src_meaning.specs.Locals.OfBody.{param_key, answer_key, local_among, local_of}
use Rattle.src_meaning.specs.Scopes.{Entry}
use Rattle.typed_tree.specs.Nodes.{number_of, nodes_of, nodes_in, param_nodes, body_nodes}
use Rattle.typed_tree.specs.Tree.{Node, node, ParamTree, BodyTree}
use Rattle.well_typed.specs.Names.{do_rise}
use Rattle.lower_rules.proofs.FormSites.{AllOwn}

abbrev AllAbove : ℕ → List Node → Type 0
AllAbove n [] = Unit {0}
AllAbove n (m ∷ ms) = (n < number_of m) × AllAbove n ms

raised : (k n : ℕ) → k < n → (ms : List Node) → AllAbove n ms → AllAbove k ms
raised k n less [] h = tt
raised k n less (m ∷ ms) h = (let here = h.0 in omega (arith, less, here), raised k n less ms h.1)

above : (n : ℕ) (ms : List Node) → do_rise (n ∷ map number_of ms) ≡ true → AllAbove n ms
above n [] h = tt
above n (m ∷ ms) h =
    let less = ltb-true n (number_of m) (first_so (nat_lt n (number_of m)) (do_rise (map number_of (m ∷ ms))) h) in
    (less, raised n (number_of m) less ms (above (number_of m) ms (second_so (nat_lt n (number_of m)) (do_rise (map number_of (m ∷ ms))) h)))

later : (n : ℕ) (xs ys : List Node) → AllAbove n (xs ++ ys) → AllAbove n ys
later n [] ys h = h
later n (x ∷ xs) ys h = later n xs ys h.1

rest_rises : (xs ys : List Node) → do_rise (map number_of (xs ++ ys)) ≡ true → do_rise (map number_of ys) ≡ true
rest_rises [] ys h = h
rest_rises (x ∷ xs) ys h = rest_rises xs ys (by (map number_of (xs ++ ys)) h)
  where
    by : (ns : List ℕ) → do_rise (number_of x ∷ ns) ≡ true → do_rise ns ≡ true
    by [] h = refl
    by (n ∷ ns) h = second_so (nat_lt (number_of x) n) (do_rise (n ∷ ns)) h

-- ---- the numbers of parameters are below those of the block
abbrev Below : List ParamTree → List Node → Type 0
Below [] ys = Unit {0}
Below (p ∷ ps) ys = AllAbove (param_key p) ys × Below ps ys

first_below : (pattern : Node) (ys : List Node) → do_rise (map number_of (nodes_of pattern ++ ys)) ≡ true → AllAbove (number_of pattern) ys
first_below (node id at ty by form) ys h = later id (nodes_in form) ys (above id (nodes_in form ++ ys) h)

params_below : (ps : List ParamTree) (ys : List Node) → do_rise (map number_of (param_nodes ps ++ ys)) ≡ true → Below ps ys
params_below [] ys h = tt
params_below (p ∷ ps) ys h = (
  later (param_key p) (param_nodes ps) ys (first_below p.pattern (param_nodes ps ++ ys) there),
  params_below ps ys (rest_rises (nodes_of p.pattern) (param_nodes ps ++ ys) there),
)
  where
    there : do_rise (map number_of (nodes_of p.pattern ++ (param_nodes ps ++ ys))) ≡ true
    there = subst (λ (ns : List Node). do_rise (map number_of ns) ≡ true) (append_assoc (nodes_of p.pattern) (param_nodes ps) ys) h

-- a number is that of no parameter
abbrev IsOther : List ParamTree → ℕ → Type 0
IsOther [] n = Unit {0}
IsOther (p ∷ ps) n = ((param_key p == n) ≡ false) × IsOther ps n

apart : (k n : ℕ) → k < n → (k == n) ≡ false
apart k n less = elim (eqb_tells k n) [
  | inl same ↦ absurd (let is = same.1 in let never : ⊥ = omega (arith, less, is) in never)
  | inr other ↦ other.0
]

one_other : (ps : List ParamTree) (y : Node) (ys : List Node) → Below ps (y ∷ ys) → IsOther ps (number_of y)
one_other [] y ys h = tt
one_other (p ∷ ps) y ys h = (apart (param_key p) (number_of y) h.0.0, one_other ps y ys h.1)

fewer : (ps : List ParamTree) (y : Node) (ys : List Node) → Below ps (y ∷ ys) → Below ps ys
fewer [] y ys h = tt
fewer (p ∷ ps) y ys h = (h.0.1, fewer ps y ys h.1)

all_other : (ps : List ParamTree) (ys : List Node) → Below ps ys → AllOwn (IsOther ps) ys
all_other ps [] h = tt
all_other ps (y ∷ ys) h = (one_other ps y ys h, all_other ps ys (fewer ps y ys h))

-- ---- where such a number stands among the keys of a body
abbrev entry : ParamTree → Entry
entry p = record { key = param_key p; ty = p.ty }

abbrev keys : List Entry → List ℕ
keys es = map (λ e. e.key) es

past : (ps : List ParamTree) (rest : List Entry) (n : ℕ) → IsOther ps n → length ps ≤ prefix_len (λ k. not (k == n)) (keys (map entry ps ++ rest))
past [] rest n h = omega arith
past (p ∷ ps) rest n h =
    let more = past ps rest n h.1 in
    subst (λ (m : ℕ). length (p ∷ ps) ≤ m) (sym (ap (λ (b : Bool). cond (not b) (1 + prefix_len (λ k. not (k == n)) (keys (map entry ps ++ rest))) 0) h.0)) (omega (arith, more))

long : (ps : List ParamTree) (rest : List Entry) → length ps ≤ length (keys (map entry ps ++ rest))
long [] rest = omega arith
long (p ∷ ps) rest = let more = long ps rest in omega (arith, more)

and_false : (b : Bool) → b && false ≡ false
and_false true = refl
and_false false = refl

beyond : (count l : ℕ) → count < l → nat_lt 0 l && nat_le l count ≡ false
beyond count l h = ap (λ (c : Bool). nat_lt 0 l && c) (lt-leb l count h) ∙ and_false (nat_lt 0 l)

-- the local of the key is no parameter's
module _ (answer : ℕ) (ps : List ParamTree) (xs ys : List Entry) (n : ℕ) (other : IsOther ps n) where
  abbrev ks : List ℕ
  ks = keys ((map entry ps ++ xs) ++ ys)

  rests : (map entry ps ++ xs) ++ ys ≡ map entry ps ++ (xs ++ ys)
  rests = append_assoc (map entry ps) xs ys

  abbrev behind : ℕ
  behind = 1 + prefix_len (λ k. not (k == n)) ks

  abbrev at : Bool → ℕ
  at b = cond (not b) behind 0

  abbrev found : Bool → ℕ → ℕ
  found c l = option_map_or (λ n. n) (cond c (Some l) None) (suc (length ks) + n)

  abbrev place : Bool → ℕ
  place b = found (nat_lt (at b) (suc (length ks))) (at b)

  far : (c : Bool) → nat_lt 0 (found c behind) && nat_le (found c behind) (length ps) ≡ false
  far true = let is = subst (λ (es : List Entry). length ps ≤ prefix_len (λ k. not (k == n)) (keys es)) (sym rests) (past ps (xs ++ ys) n other) in beyond (length ps) behind (omega (arith, is))
  far false = let is = subst (λ (es : List Entry). length ps ≤ length (keys es)) (sym rests) (long ps (xs ++ ys)) in beyond (length ps) (suc (length ks) + n) (omega (arith, is))

  either : (b : Bool) → nat_lt 0 (place b) && nat_le (place b) (length ps) ≡ false
  either true = ap (λ (c : Bool). nat_lt 0 (found c 0) && nat_le (found c 0) (length ps)) (lt-ltb 0 (suc (length ks)) (omega arith))
  either false = far (nat_lt behind (suc (length ks)))

  no_param : nat_lt 0 (local_among (answer ∷ ks) n) && nat_le (local_among (answer ∷ ks) n) (length ps) ≡ false
  no_param = either (answer == n)

abbrev pub IsNoParam : ItemTable → BodyTree → ℕ → Type 0
IsNoParam items tree n = nat_lt 0 (local_of items tree n) && nat_le (local_of items tree n) (length tree.params) ≡ false

pub no_param_in : (items : ItemTable) (tree : BodyTree) → do_rise (map number_of (body_nodes tree)) ≡ true → AllOwn (IsNoParam items tree) (nodes_of tree.block)
no_param_in items tree rises = each (nodes_of tree.block) (all_other tree.params (nodes_of tree.block) (params_below tree.params (nodes_of tree.block) rises))
  where
    each : (ns : List Node) → AllOwn (IsOther tree.params) ns → AllOwn (IsNoParam items tree) ns
    each [] h = tt
    each (n ∷ ns) h = (no_param (answer_key tree) tree.params _ _ (number_of n) h.0, each ns h.1)
