-- How many entries scopes have, and how many a change adds.
use Rattle.std.proofs.Common.{◌≡◌, ℕ, suc, ◌+◌, ◌≤◌, ◌==◌, Bool, true, false, List, [], ◌∷◌, ◌++◌, length, if◌then◌else◌, refl, ap, arith, length-append}
use Rattle.mir_ty.specs.Facts.{needs_drop}
use Rattle.mir_ty.specs.ItemTable.{ItemTable}
use Rattle.src_meaning.specs.Scopes.{Entry, Scope, Scopes, innermost, around_innermost, nearest_from, nearest_temporary, with_entry, with_pending, without_pending, without_key, without_keys, becomes_entry, without_operands, all_entries, needing_drop}
use Rattle.lower_rules.specs.Build.{change}

-- ---- how many entries scopes have, with the destinations that are pending
abbrev pub size : Scope → ℕ
size s = length s.pending + length s.entries

abbrev pub all : Scopes → ℕ
all [] = 0
all (s ∷ S) = size s + all S

-- the entries of the innermost scope
abbrev pub first : Scopes → ℕ
first [] = 0
first (x ∷ S) = size x

pub all_same : (S : Scopes) → length (all_entries S) ≡ all S
all_same [] = refl
all_same (s ∷ S) =
    let a = length-append (s.pending ++ s.entries) (all_entries S) in
    let b = length-append s.pending s.entries in
    let c = all_same S in
    omega arith

pub needing_most : (items : ItemTable) (es : List Entry) → length (needing_drop items es) ≤ length es
needing_most items [] = omega arith
needing_most items (e ∷ es) = by_need (needs_drop items e.ty) (needing_most items es)
  where
    by_need : (b : Bool) → length (needing_drop items es) ≤ length es →
        length (if b then e ∷ needing_drop items es else needing_drop items es) ≤ suc (length es)
    by_need true h = omega (arith, h)
    by_need false h = omega (arith, h)

pub needing_append : (items : ItemTable) (es ds : List Entry) →
    needing_drop items (es ++ ds) ≡ needing_drop items es ++ needing_drop items ds
needing_append items [] ds = refl
needing_append items (e ∷ es) ds = by_need (needs_drop items e.ty) (needing_append items es ds)
  where
    by_need : (b : Bool) → needing_drop items (es ++ ds) ≡ needing_drop items es ++ needing_drop items ds →
        (if b then e ∷ needing_drop items (es ++ ds) else needing_drop items (es ++ ds))
        ≡ (if b then e ∷ needing_drop items es else needing_drop items es) ++ needing_drop items ds
    by_need true h = ap (λ z. e ∷ z) h
    by_need false h = h

-- ---- scopes that have grown by so many entries
abbrev pub Grew : Scopes → Scopes → ℕ → Type 0
Grew [] [] g = Unit {0}
Grew [] (s ∷ S) g = ⊥
Grew (s ∷ S) [] g = ⊥
Grew (s ∷ S) (s' ∷ S') g = (a : ℕ) × (b : ℕ) × (size s' ≤ size s + a) × Grew S S' b × (a + b ≤ g)

pub grew_not : (S : Scopes) (g : ℕ) → Grew S S g
grew_not [] g = tt
grew_not (s ∷ S) g = (0, 0, omega arith, grew_not S 0, omega arith)

pub grew_on : (S S' S'' : Scopes) (g h : ℕ) → Grew S S' g → Grew S' S'' h → Grew S S'' (g + h)
grew_on [] [] [] g h x y = tt
grew_on [] [] (s'' ∷ S'') g h x y = absurd y
grew_on [] (s' ∷ S') S'' g h x y = absurd x
grew_on (s ∷ S) [] S'' g h x y = absurd x
grew_on (s ∷ S) (s' ∷ S') [] g h x y = absurd y
grew_on (s ∷ S) (s' ∷ S') (s'' ∷ S'') g h x y =
    let i = x.2 in
    let j = y.2 in
    let k = x.4 in
    let l = y.4 in
    (x.0 + y.0, x.1 + y.1, omega arith, grew_on S S' S'' x.1 y.1 x.3 y.3, omega arith)

pub grew_more : (S S' : Scopes) (g h : ℕ) → g ≤ h → Grew S S' g → Grew S S' h
grew_more [] [] g h l x = tt
grew_more [] (s' ∷ S') g h l x = x
grew_more (s ∷ S) [] g h l x = x
grew_more (s ∷ S) (s' ∷ S') g h l x = let k = x.4 in (x.0, x.1, x.2, x.3, omega arith)

pub grew_all : (S S' : Scopes) (g : ℕ) → Grew S S' g → all S' ≤ all S + g
grew_all [] [] g x = omega arith
grew_all [] (s' ∷ S') g x = absurd x
grew_all (s ∷ S) [] g x = absurd x
grew_all (s ∷ S) (s' ∷ S') g x =
    let i = x.2 in let k = x.4 in let more = grew_all S S' x.1 x.3 in omega arith

-- a change of a scope that adds at most so many entries
abbrev pub Adds : ℕ → (Scope → Scope) → Type 0
Adds n g = (s : Scope) → size (g s) ≤ size s + n

pub innermost_grew : (n : ℕ) (g : Scope → Scope) → Adds n g → (S : Scopes) → Grew S (innermost g S) n
innermost_grew n g adds [] = tt
innermost_grew n g adds (s ∷ S) = (n, 0, adds s, grew_not S 0, omega arith)

pub around_grew : (n : ℕ) (g : Scope → Scope) → Adds n g → (S : Scopes) → Grew S (around_innermost g S) n
around_grew n g adds [] = tt
around_grew n g adds (s ∷ S) = (0, n, omega arith, innermost_grew n g adds S, omega arith)

pub nearest_grew : (n : ℕ) (g : Scope → Scope) → Adds n g → (S : Scopes) → Grew S (nearest_temporary g S) n
nearest_grew n g adds [] = tt
nearest_grew n g adds (s ∷ S) = by_kind s.for_temporaries (nearest_grew n g adds S)
  where
    by_kind : (b : Bool) → Grew S (nearest_temporary g S) n →
        Grew (s ∷ S) (nearest_from b g s S (nearest_temporary g S)) n
    by_kind true h = (n, 0, adds s, grew_not S 0, omega arith)
    by_kind false h = (0, n, omega arith, h, omega arith)

key_most : (key : ℕ) (es : List Entry) → length (without_key key es) ≤ length es
key_most key [] = omega arith
key_most key (e ∷ es) = by_key (key == e.key) (key_most key es)
  where
    by_key : (b : Bool) → length (without_key key es) ≤ length es →
        length (if b then without_key key es else e ∷ without_key key es) ≤ suc (length es)
    by_key true h = omega (arith, h)
    by_key false h = omega (arith, h)

keys_most : (keys : List ℕ) (es : List Entry) → length (without_keys keys es) ≤ length es
keys_most [] es = omega arith
keys_most (key ∷ keys) es = let i = keys_most keys (without_key key es) in let j = key_most key es in omega arith

pub entry_adds : (e : Entry) → Adds 1 (with_entry e)
entry_adds e s = omega arith

pub pending_adds : (e : Entry) → Adds 1 (with_pending e)
pending_adds e s = omega arith

pub without_adds : (e : Entry) → Adds 0 (without_pending e)
without_adds e s = let i = key_most e.key s.pending in omega arith

pub becomes_adds : (e : Entry) → Adds 1 (becomes_entry e)
becomes_adds e s = let i = key_most e.key s.pending in omega arith

pub operands_add : (keys : List ℕ) → Adds 0 (without_operands keys)
operands_add keys s = let i = keys_most keys s.entries in omega arith
