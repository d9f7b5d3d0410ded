-- A block more of a body is laid, with what is made for it.
use Rattle.std.proofs.Common.{◌≡◌, ◌⊎◌, inl, inr, ◌∙◌, ◌∷◌, [], ◌++◌, ◌+◌, ◌<◌, ◌≤◌, ℕ, zero, suc, List, Some, Contains, length, slice_get, slice_index, refl, sym, ap, subst, arith}
use Rattle.std.proofs.lemmas.Bool.{cases_lt}
use Rattle.std.proofs.lemmas.List.{length-append}
use Rattle.std.proofs.lemmas.Option.{none-some, same_Some, slice_get_within, slice_get_cases}
use Rattle.mir_ty.proofs.ListLemmas.{slice_get-push_cases}
use Rattle.cfg_graph.specs.declared.graph.Block.{Block}
use Rattle.cfg_graph.specs.declared.graph.Body.{Body}
use Rattle.cfg_graph.specs.Edges.{targets, is_turn}
use Rattle.drop_elaborate.specs.Build.{Made}
use Rattle.drop_ends.specs.Leads.{TermLeads, ByTerm}
use Rattle.drop_laws.specs.Ranked.{total_of, start_of, AreLaid}

-- ---- sizes, one after another

total-more : (sizes : List ℕ) (size : ℕ) → total_of (sizes ++ size ∷ []) ≡ total_of sizes + size
total-more [] size = omega arith
total-more (one ∷ sizes) size = let e = total-more sizes size in omega (e, arith)

start-more : (sizes : List ℕ) (size n : ℕ) → n ≤ length sizes → start_of (sizes ++ size ∷ []) n ≡ start_of sizes n
start-more sizes size zero within = refl
start-more [] size (suc n) within = absurd (omega (within, arith))
start-more (one ∷ sizes) size (suc n) within = ap (λ (k : ℕ). one + k) (start-more sizes size n (omega (within, arith)))

start-all : (sizes : List ℕ) → start_of sizes (length sizes) ≡ total_of sizes
start-all [] = refl
start-all (one ∷ sizes) = ap (λ (k : ℕ). one + k) (start-all sizes)

size-before : (sizes : List ℕ) (size n : ℕ) → n < length sizes → slice_index (sizes ++ size ∷ []) n ≡ slice_index sizes n
size-before [] size n within = absurd (omega (within, arith))
size-before (one ∷ sizes) size zero within = refl
size-before (one ∷ sizes) size (suc n) within = size-before sizes size n (omega (within, arith))

size-last : (sizes : List ℕ) (size : ℕ) → slice_index (sizes ++ size ∷ []) (length sizes) ≡ size
size-last [] size = refl
size-last (one ∷ sizes) size = size-last sizes size

size-past : (sizes : List ℕ) (n : ℕ) → length sizes ≤ n → slice_index sizes n ≡ 0
size-past [] n past = refl
size-past (one ∷ sizes) zero past = absurd (omega (past, arith))
size-past (one ∷ sizes) (suc n) past = size-past sizes n (omega (past, arith))

within-total : (sizes : List ℕ) (n t : ℕ) → t < slice_index sizes n → start_of sizes n + t < total_of sizes
within-total [] n t less = absurd (let never : ⊥ = omega (less, arith) in never)
within-total (one ∷ sizes) zero t less = omega (less, arith)
within-total (one ∷ sizes) (suc n) t less = let w = within-total sizes n t less in omega (w, arith)

-- ---- the first blocks, so many

pub record LaidTo (body : Body) (count : ℕ) (blocks new : List Block) (sizes : List ℕ) : Type 0 where
  pub long : length blocks ≡ count
  pub sized : length sizes ≡ count
  pub total : length new ≡ total_of sizes
  pub kinds : (n : ℕ) (block there : Block) → slice_get body.blocks n ≡ Some block → slice_get blocks n ≡ Some there →
      is_turn there ≡ is_turn block
  pub own : (n : ℕ) (block there : Block) → slice_get body.blocks n ≡ Some block → slice_get blocks n ≡ Some there →
      (m : ℕ) → Contains (targets there.term) m → Contains (targets block.term) m
      ⊎ ((length body.blocks + start_of sizes n ≤ m)
      × (m < length body.blocks + (start_of sizes n + slice_index sizes n)))
  pub made : (n t : ℕ) (block there : Block) → slice_get body.blocks n ≡ Some block → t < slice_index sizes n →
      slice_get new (start_of sizes n + t) ≡ Some there → (m : ℕ) → Contains (targets there.term) m →
      Contains (targets block.term) m
      ⊎ ((length body.blocks + start_of sizes n ≤ m) × (m < length body.blocks + (start_of sizes n + t)))

pub laid-none : (body : Body) → LaidTo body 0 [] [] []
laid-none body = record {
  long = refl;
  sized = refl;
  total = refl;
  kinds = λ n block there at here. absurd (none-some there here);
  own = λ n block there at here m has. absurd (none-some there here);
  made = λ n t block there at less here m has. absurd (none-some there here);
}

pub laid-all : (body : Body) (blocks new : List Block) (sizes : List ℕ) (n : ℕ) → n ≡ length body.blocks →
    LaidTo body n blocks new sizes → AreLaid body blocks new sizes
laid-all body blocks new sizes n all laid = record {
  long = laid.long ∙ all;
  sized = laid.sized ∙ all;
  total = laid.total;
  kinds = laid.kinds;
  own = laid.own;
  made = laid.made;
}

module _ (body : Body) (k : ℕ) (blocks : List Block) (sizes : List ℕ) (old new : Made) (first : old.first ≡ length body.blocks)
    (laid : LaidTo body k blocks old.blocks sizes) (block there : Block) (at : slice_get body.blocks k ≡ Some block)
    (same : is_turn there ≡ is_turn block) (leads : TermLeads (ByTerm block.term) old new there.term) (size : ℕ)
    (size_is : length new.blocks ≡ length old.blocks + size) where
  abbrev longer : List Block
  longer = blocks ++ there ∷ []

  abbrev sizes_now : List ℕ
  sizes_now = sizes ++ size ∷ []

  -- the block that is laid last
  is-it : (n : ℕ) (other : Block) → n ≡ k → slice_get body.blocks n ≡ Some other → block ≡ other
  is-it n other here there_at =
      same_Some block other (sym at ∙ ap (λ (m : ℕ). slice_get body.blocks m) (sym here) ∙ there_at)

  start-now : start_of sizes_now k ≡ length old.blocks
  start-now =
      let e = start-more sizes size k (let s = laid.sized in omega (s, arith)) in
      e ∙ ap (start_of sizes) (sym laid.sized) ∙ start-all sizes ∙ sym laid.total

  size-now : slice_index sizes_now k ≡ size
  size-now = ap (slice_index sizes_now) (sym laid.sized) ∙ size-last sizes size

  new_first : new.first ≡ length body.blocks
  new_first = leads.0.grows.first ∙ first

  abbrev Led : ℕ → ℕ → ℕ → Type 0
  Led start end m = (length body.blocks + start ≤ m) × (m < length body.blocks + end)

  -- where an earlier one leads, with the sizes as they are now
  earlier : (raw : Block) (n end end_now m : ℕ) → n < k → end_now ≡ end →
      Contains (targets raw.term) m ⊎ Led (start_of sizes n) (start_of sizes n + end) m →
      Contains (targets raw.term) m ⊎ Led (start_of sizes_now n) (start_of sizes_now n + end_now) m
  earlier raw n end end_now m less is (inl out) = inl out
  earlier raw n end end_now m less is (inr led) =
      let e = start-more sizes size n (let s = laid.sized in omega (s, less, arith)) in
      let a = led.0 in
      let b = led.1 in inr (omega (e, a, arith), omega (e, is, b, arith))

  size-then : (n : ℕ) → n < k → slice_index sizes_now n ≡ slice_index sizes n
  size-then n less = size-before sizes size n (let s = laid.sized in omega (s, less, arith))

  -- and where the last one leads
  latest : (raw : Block) (n end end_now m : ℕ) → n ≡ k → block ≡ raw → length old.blocks + end_now ≡ end →
      ByTerm block.term m ⊎ ((new.first + length old.blocks ≤ m) × (m < new.first + end)) →
      Contains (targets raw.term) m ⊎ Led (start_of sizes_now n) (start_of sizes_now n + end_now) m
  latest raw n end end_now m here is ends (inl out) = inl (subst (λ (b : Block). Contains (targets b.term) m) is out)
  latest raw n end end_now m here is ends (inr led) =
      let s : start_of sizes_now n ≡ length old.blocks = ap (start_of sizes_now) here ∙ start-now in
      let f = new_first in
      let a = led.0 in
      let b = led.1 in inr (omega (s, f, a, arith), omega (s, f, ends, b, arith))

  own-more : (n : ℕ) (raw other : Block) → slice_get body.blocks n ≡ Some raw →
      (slice_get blocks n ≡ Some other) ⊎ ((n ≡ length blocks) × (there ≡ other)) → (m : ℕ) →
      Contains (targets other.term) m → Contains (targets raw.term) m
      ⊎ Led (start_of sizes_now n) (start_of sizes_now n + slice_index sizes_now n) m
  own-more n raw other raw_at (inl before) m has =
      let less : n < k = (let w = slice_get_within blocks n other before in let l = laid.long in omega (w, l, arith)) in
      earlier raw n (slice_index sizes n) (slice_index sizes_now n) m less (size-then n less)
      (laid.own n raw other raw_at before m has)
  own-more n raw other raw_at (inr here) m has =
      let last : n ≡ k = here.0 ∙ laid.long in
      let size_at : slice_index sizes_now n ≡ size = ap (slice_index sizes_now) last ∙ size-now in
      latest raw n (length new.blocks) (slice_index sizes_now n) m last (is-it n raw last raw_at)
      (omega (size_at, size_is, arith)) (leads.1 m (subst (λ (b : Block). Contains (targets b.term) m) (sym here.1) has))

  kinds-more : (n : ℕ) (raw other : Block) → slice_get body.blocks n ≡ Some raw →
      (slice_get blocks n ≡ Some other) ⊎ ((n ≡ length blocks) × (there ≡ other)) → is_turn other ≡ is_turn raw
  kinds-more n raw other raw_at (inl before) = laid.kinds n raw other raw_at before
  kinds-more n raw other raw_at (inr here) =
      ap is_turn (sym here.1) ∙ same ∙ ap is_turn (is-it n raw (here.0 ∙ laid.long) raw_at)

  -- what was made earlier stays
  before-new : (i : ℕ) (other : Block) → i < length old.blocks → slice_get new.blocks i ≡ Some other →
      slice_get old.blocks i ≡ Some other
  before-new i other less here = elim ((slice_get_cases old.blocks i).1) [
    | inl it ↦ it.2 ∙ sym (leads.0.grows.stays i it.0 it.2) ∙ here
    | inr past ↦ (let f = past.0 in absurd (let never : ⊥ = omega (f, less, arith) in never))
  ]

  made-more : (n t : ℕ) (raw other : Block) → slice_get body.blocks n ≡ Some raw → t < slice_index sizes_now n →
      slice_get new.blocks (start_of sizes_now n + t) ≡ Some other → (m : ℕ) → Contains (targets other.term) m →
      Contains (targets raw.term) m ⊎ Led (start_of sizes_now n) (start_of sizes_now n + t) m
  made-more n t raw other raw_at less here m has = by (cases_lt n k)
    where
      last : n ≡ k → Contains (targets raw.term) m ⊎ Led (start_of sizes_now n) (start_of sizes_now n + t) m
      last is =
          let s : start_of sizes_now n ≡ length old.blocks = ap (start_of sizes_now) is ∙ start-now in
          latest raw n (start_of sizes_now n + t) t m is (is-it n raw is raw_at) (omega (s, arith))
          (leads.0.back (start_of sizes_now n + t) other (omega (s, arith)) here m has)

      by : (n < k) ⊎ (k ≤ n) → Contains (targets raw.term) m ⊎ Led (start_of sizes_now n) (start_of sizes_now n + t) m
      by (inl before) =
          let e = start-more sizes size n (let s = laid.sized in omega (s, before, arith)) in
          let part : t < slice_index sizes n = (let s = size-then n before in omega (s, less, arith)) in
          let i_in : start_of sizes_now n + t < length old.blocks =
          (let w = within-total sizes n t part in let all = laid.total in omega (e, w, all, arith)) in
          earlier raw n t t m before refl
          (laid.made n t raw other raw_at part
          (ap (λ (i : ℕ). slice_get old.blocks (i + t)) (sym e) ∙ before-new (start_of sizes_now n + t) other i_in here)
          m has)
      by (inr past) = elim (cases_lt k n) [
        | inl far ↦
            let none = size-past sizes_now n
            (let l = length-append sizes (size ∷ []) in let s = laid.sized in omega (l, s, far, arith)) in
            absurd (let never : ⊥ = omega (none, less, arith) in never)
        | inr near ↦ last (omega (past, near, arith))
      ]

  pub laid-more : LaidTo body (k + 1) longer new.blocks sizes_now
  laid-more = record {
    long = (let l = length-append blocks (there ∷ []) in let s = laid.long in omega (l, s, arith));
    sized = (let l = length-append sizes (size ∷ []) in let s = laid.sized in omega (l, s, arith));
    total = (let t = total-more sizes size in let a = laid.total in omega (t, a, size_is, arith));
    kinds = λ n raw other raw_at here. kinds-more n raw other raw_at (slice_get-push_cases blocks there n other here);
    own = λ n raw other raw_at here. own-more n raw other raw_at (slice_get-push_cases blocks there n other here);
    made = made-more;
  }

-- before any is laid
pub laid-first : (body : Body) (blocks new : List Block) (sizes : List ℕ) → blocks ≡ [] → new ≡ [] → sizes ≡ [] →
    LaidTo body 0 blocks new sizes
laid-first body blocks new sizes a b c =
    subst (λ (l : List Block). LaidTo body 0 l new sizes) (sym a)
    (subst (λ (l : List Block). LaidTo body 0 [] l sizes) (sym b)
    (subst (λ (l : List ℕ). LaidTo body 0 [] [] l) (sym c) (laid-none body)))
