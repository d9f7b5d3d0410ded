-- How deep types stand in one another: no deeper than their text has bytes.
use Rattle.std.proofs.Common.{◌≡◌, ℕ, zero, suc, ◌-◌, ◌<◌, ◌≤◌, true, List, [], ◌∷◌, ◌++◌, length, codes, decimal, arith, length-append, ltb-true, nat_lt}
use Rattle.std.specs.Prelude.{⊤}
use Rattle.std.proofs.lemmas.Bool.{and_parts}
use Rattle.mir_base.specs.declared.int_kind.IntKind.{IntKind}
use Rattle.mir_ty.specs.ItemTable.{ItemTable}
use Rattle.cfg_graph.specs.WellFormed.NameFaults.{is_name, is_adt_name}
use Rattle.listing_write.specs.Lists.{behind_commas}
use Rattle.listing_write.specs.Lines.{Tree, Trees, Number, Truth, Nothing, Never, Named, Tuple, Array, Boxed, Object, Shared, Unique, Closed, Missing, no_more, and_more, tree_text, trees_text}
use Rattle.listing_write.specs.Types.{tuple_text, kind_text}
use Rattle.listing_parts.specs.TypesFound.{Stands, AllStand, HasOne}

abbrev pub Deeper : (ℕ → Type 0) → ℕ → Type 0
Deeper P zero = ⊥
Deeper P (suc k) = P k

-- no more than so many types in one another
abbrev mutual
  pub Deep : Tree → ℕ → Type 0
  Deep (Tuple parts) k = Deeper (AllDeep parts) k
  Deep (Array element count) k = Deeper (Deep element) k
  Deep (Boxed inside) k = Deeper (Deep inside) k
  Deep (Shared to) k = Deeper (Deep to) k
  Deep (Unique to) k = Deeper (Deep to) k
  Deep (Number kind) k = Deeper (λ k. ⊤) k
  Deep Truth k = Deeper (λ k. ⊤) k
  Deep Nothing k = Deeper (λ k. ⊤) k
  Deep Never k = Deeper (λ k. ⊤) k
  Deep (Named name) k = Deeper (λ k. ⊤) k
  Deep (Object name) k = Deeper (λ k. ⊤) k
  Deep (Closed n) k = Deeper (λ k. ⊤) k
  Deep Missing k = Deeper (λ k. ⊤) k

  pub AllDeep : Trees → ℕ → Type 0
  AllDeep no_more k = ⊤
  AllDeep (and_more first others) k = Deep first k × AllDeep others k

pub some_name : (name : List ℕ) → is_name name ≡ true → 0 < length name
some_name name h = ltb-true 0 (length name) (and_parts (nat_lt 0 (length name)) _ h).0

pub is_a_name : (name : List ℕ) → is_adt_name name ≡ true → is_name name ≡ true
is_a_name name h = (and_parts (is_name name) _ (and_parts _ _ h).0).0

one_more : (P : ℕ → Type 0) (k n : ℕ) → suc n ≤ k → ((j : ℕ) → n ≤ j → P j) → Deeper P k
one_more P zero n le all = absurd (omega arith)
one_more P (suc k) n le all = all k (omega arith)

kind_some : (kind : IntKind) → 1 ≤ length (kind_text kind)
kind_some IntKind.I32 = omega arith
kind_some IntKind.I64 = omega arith
kind_some IntKind.U32 = omega arith
kind_some IntKind.U64 = omega arith
kind_some IntKind.Usize = omega arith

mutual
  pub deep_enough : (heads : ItemTable) (t : Tree) → Stands heads t → (k : ℕ) → length (tree_text t) ≤ k → Deep t k
  deep_enough heads (Number kind) s k le = one_more (λ k. ⊤) k 0 (omega (arith, kind_some kind)) (λ j h. tt)
  deep_enough heads Truth s k le = one_more (λ k. ⊤) k 0 (omega arith) (λ j h. tt)
  deep_enough heads Nothing s k le = one_more (λ k. ⊤) k 0 (omega arith) (λ j h. tt)
  deep_enough heads Never s k le = one_more (λ k. ⊤) k 0 (omega arith) (λ j h. tt)
  deep_enough heads (Named name) s k le = one_more (λ k. ⊤) k 0 (omega (arith, some_name name (is_a_name name s.0))) (λ j h. tt)
  deep_enough heads (Tuple parts) s k le = in_tuple parts s.0 le (λ j h. parts_deep heads parts s.1 j h)
    where
      in_tuple : (parts : Trees) → HasOne parts → length (tuple_text (trees_text parts)) ≤ k → ((j : ℕ) → length (behind_commas (trees_text parts)) ≤ suc j → AllDeep parts j) → Deeper (AllDeep parts) k
      in_tuple no_more one le all = absurd one
      in_tuple (and_more first no_more) one le all =
          let w : List ℕ = tree_text first in
          one_more (AllDeep (and_more first no_more)) k (length (tuple_text (w ∷ [])) - 1) (omega (arith, length-append (codes "(" ++ w) (codes ",)"))) (λ j h. all j
          (omega (arith, length-append (codes "(" ++ w) (codes ",)"), length-append (codes ", " ++ w) [])))
      in_tuple (and_more first (and_more next others)) one le all =
          let w : List ℕ = tree_text first in
          let more : List ℕ = behind_commas (trees_text (and_more next others)) in
          one_more (AllDeep (and_more first (and_more next others))) k (suc (length (w ++ more))) (omega (arith, length-append (codes "(" ++ (w ++ more)) (codes ")"))) (λ j h. all j
          (omega (arith, length-append (codes ", " ++ w) more, length-append w more)))
  deep_enough heads (Array element count) s k le =
      let w : List ℕ = tree_text element in
      one_more (Deep element) k (length w)
      (omega (arith, length-append (codes "[" ++ w ++ codes "; " ++ decimal count) (codes "]"), length-append (codes "[" ++ w ++ codes "; ") (decimal count), length-append (codes "[" ++ w) (codes "; ")))
      (λ j h. deep_enough heads element s.0 j h)
  deep_enough heads (Boxed inside) s k le =
      one_more (Deep inside) k (length (tree_text inside)) (omega (arith, length-append (codes "Box<" ++ tree_text inside) (codes ">"))) (λ j h. deep_enough heads inside s j h)
  deep_enough heads (Object name) s k le = one_more (λ k. ⊤) k 0 (omega arith) (λ j h. tt)
  deep_enough heads (Shared to) s k le = one_more (Deep to) k (length (tree_text to)) (omega arith) (λ j h. deep_enough heads to s j h)
  deep_enough heads (Unique to) s k le = one_more (Deep to) k (length (tree_text to)) (omega arith) (λ j h. deep_enough heads to s j h)
  deep_enough heads (Closed n) s k le = one_more (λ k. ⊤) k 0 (omega arith) (λ j h. tt)
  deep_enough heads Missing s k le = absurd s

  pub parts_deep : (heads : ItemTable) (ts : Trees) → AllStand heads ts → (k : ℕ) → length (behind_commas (trees_text ts)) ≤ suc k → AllDeep ts k
  parts_deep heads no_more s k le = tt
  parts_deep heads (and_more first others) s k le =
      let w : List ℕ = tree_text first in
      let more : List ℕ = behind_commas (trees_text others) in
      (deep_enough heads first s.0 k (omega (arith, length-append (codes ", " ++ w) more)), parts_deep heads others s.1 k (omega (arith, length-append (codes ", " ++ w) more)))
