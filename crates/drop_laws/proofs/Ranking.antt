-- New ranks are ranks of the whole body: each edge lowers them, but one to a turn.
use Rattle.std.proofs.Common.{◌≡◌, ◌⊎◌, inl, inr, ◌∙◌, ◌∷◌, [], ◌++◌, ◌+◌, ◌-◌, ◌<◌, ◌≤◌, ℕ, zero, suc, false, List, Some, Contains, map, length, slice_get, slice_index, refl, sym, ap, subst, arith}
use Rattle.std.specs.List.{range_with_len}
use Rattle.std.proofs.lemmas.Bool.{cases_lt}
use Rattle.std.proofs.lemmas.List.{length-map}
use Rattle.std.proofs.lemmas.List.FromFn.{length-range_with_len}
use Rattle.std.proofs.lemmas.Option.{none-some, same_Some, slice_get_within, slice_get-get_or, slice_get_cases}
use Rattle.cfg_graph.specs.declared.graph.Block.{Block}
use Rattle.cfg_graph.specs.declared.graph.Body.{Body}
use Rattle.cfg_graph.specs.Edges.{targets, is_turn, IsRanked}
use Rattle.drop_ranks.specs.Ranks.{AreTops, lower_ranks}
use Rattle.drop_laws.specs.Ranked.{start_of, total_of, ranked_with, NewRanksFit}

-- ---- the ranks of what is made

range-at : (a n t : ℕ) → t < n → slice_get (range_with_len a n) t ≡ Some (a + t)
range-at a zero t less = absurd (omega (less, arith))
range-at a (suc n) zero less = (let z : a ≡ a + 0 = omega arith in ap Some z)
range-at a (suc n) (suc t) less =
    range-at (a + 1) n t (omega (less, arith)) ∙ (let z : a + 1 + t ≡ a + suc t = omega arith in ap Some z)

right-at : {A : Type 0} (xs ys : List A) (i : ℕ) → slice_get (xs ++ ys) (length xs + i) ≡ slice_get ys i
right-at [] ys i = (let z : 0 + i ≡ i = omega arith in ap (slice_get ys) z)
right-at (x ∷ xs) ys i = (let z : suc (length xs) + i ≡ suc (length xs + i) = omega arith in ap (slice_get (x ∷ (xs ++
    ys))) z) ∙ right-at xs ys i

left-at : {A : Type 0} (xs ys : List A) (i : ℕ) (x : A) → slice_get xs i ≡ Some x → slice_get (xs ++ ys) i ≡ Some x
left-at [] ys i x e = absurd (none-some x e)
left-at (y ∷ xs) ys zero x e = e
left-at (y ∷ xs) ys (suc i) x e = left-at xs ys i x e

pub lower-at : (tops sizes : List ℕ) (n t : ℕ) → n < length tops → n < length sizes → t < slice_index sizes n →
    slice_get (lower_ranks tops sizes) (start_of sizes n + t) ≡ Some (slice_index tops n - slice_index sizes n + t)
lower-at [] sizes n t a b less = absurd (omega (a, arith))
lower-at (top ∷ tops) [] n t a b less = absurd (omega (b, arith))
lower-at (top ∷ tops) (size ∷ sizes) zero t a b less =
    (let z : 0 + t ≡ t = omega arith in ap (slice_get (range_with_len (top - size) size ++ lower_ranks tops sizes)) z)
    ∙ left-at (range_with_len (top - size) size) (lower_ranks tops sizes) t (top - size + t) (range-at (top - size)
    size t less)
lower-at (top ∷ tops) (size ∷ sizes) (suc n) t a b less =
    let long = length-range_with_len (top - size) size in
    let at : size + start_of sizes n + t ≡ length (range_with_len (top - size) size) + (start_of sizes n + t) = omega
    (long, arith) in
    ap (slice_get (range_with_len (top - size) size ++ lower_ranks tops sizes)) at
    ∙ right-at (range_with_len (top - size) size) (lower_ranks tops sizes) (start_of sizes n + t)
    ∙ lower-at tops sizes n t (omega (a, arith)) (omega (b, arith)) less

-- each of them is made for one block
pub record Group (sizes : List ℕ) (i : ℕ) : Type 0 where
  pub block : ℕ
  pub part : ℕ
  pub within : block < length sizes
  pub less : part < slice_index sizes block
  pub is : i ≡ start_of sizes block + part

pub group-of : (sizes : List ℕ) (i : ℕ) → i < total_of sizes → Group sizes i
group-of [] i less = absurd (omega (less, arith))
group-of (size ∷ sizes) i less = by (cases_lt i size) (λ far. group-of sizes (i - size) far)
  where
    by : (i < size) ⊎ (size ≤ i) → (i - size < total_of sizes → Group sizes (i - size)) → Group (size ∷ sizes) i
    by (inl first) again = record { block = 0; part = i; within = omega arith; less = first; is = omega arith }
    by (inr past) again =
        let rest = again (omega (less, past, arith)) in record {
          block = suc rest.block;
          part = rest.part;
          within = (let w = rest.within in omega (w, arith));
          less = rest.less;
          is = (let e = rest.is in omega (e, past, arith));
        }

-- ---- ranked blocks

pub record RankedAs (blocks : List Block) (ranks : List ℕ) (k : ℕ) (there : Block) : Type 0 where
  pub block : Block
  pub rank : ℕ
  pub at : slice_get blocks k ≡ Some block
  pub at_rank : slice_get ranks k ≡ Some rank
  pub is : there ≡ record block { rank = rank }

pub ranked-at : (blocks : List Block) (ranks : List ℕ) (k : ℕ) (there : Block) → slice_get (ranked_with blocks ranks)
    k ≡ Some there →
    RankedAs blocks ranks k there
ranked-at [] ranks k there e = absurd (none-some there e)
ranked-at (block ∷ blocks) [] k there e = absurd (none-some there e)
ranked-at (block ∷ blocks) (rank ∷ ranks) zero there e =
    record {
      block = block;
      rank = rank;
      at = refl;
      at_rank = refl;
      is = sym (same_Some (record block { rank = rank })
          there e);
    }
ranked-at (block ∷ blocks) (rank ∷ ranks) (suc k) there e =
    let r = ranked-at blocks ranks k there e in record {
      block = r.block;
      rank = r.rank;
      at = r.at;
      at_rank =
          r.at_rank;
      is = r.is;
    }

pub ranked-there : (blocks : List Block) (ranks : List ℕ) (k : ℕ) (block : Block) → length ranks ≡ length blocks →
    slice_get blocks k ≡ Some block → (rank : ℕ) × (slice_get (ranked_with blocks ranks) k ≡ Some (record block {
      rank
          = rank;
    }))
ranked-there [] ranks k block long e = absurd (none-some block e)
ranked-there (b ∷ blocks) [] k block long e = absurd (omega (long, arith))
ranked-there (b ∷ blocks) (rank ∷ ranks) zero block long e =
    (rank, ap (λ (z : Block). Some (record z { rank = rank })) (same_Some b block e))
ranked-there (b ∷ blocks) (rank ∷ ranks) (suc k) block long e =
    ranked-there blocks ranks k block (omega (long, arith)) e

-- ---- the whole body

module _ (body : Body) (was : IsRanked body)
    (exist : (n : ℕ) (block : Block) → slice_get body.blocks n ≡ Some block → (m : ℕ) → Contains (targets block.term)
    m →
    (found : Block) × (slice_get body.blocks m ≡ Some found))
    (made new : List Block) (sizes tops : List ℕ) (long : length made ≡ length body.blocks) (sized : length sizes ≡
    length body.blocks)
    (total : length new ≡ total_of sizes)
    (kinds : (n : ℕ) (block there : Block) → slice_get body.blocks n ≡ Some block → slice_get made n ≡ Some there →
    is_turn there ≡ is_turn block)
    (raw : (n : ℕ) (block there : Block) → slice_get body.blocks n ≡ Some block → slice_get made n ≡ Some there → (m :
    ℕ) →
    Contains (targets there.term) m → Contains (targets block.term) m
    ⊎ ((length body.blocks + start_of sizes n ≤ m) × (m < length body.blocks + (start_of sizes n + slice_index sizes
    n))))
    (back : (n t : ℕ) (block there : Block) → slice_get body.blocks n ≡ Some block → t < slice_index sizes n →
    slice_get new (start_of sizes n + t) ≡ Some there → (m : ℕ) → Contains (targets there.term) m → Contains (targets
    block.term) m
    ⊎ ((length body.blocks + start_of sizes n ≤ m) × (m < length body.blocks + (start_of sizes n + t))))
    (are : AreTops (map (λ (block : Block). block.rank) body.blocks) sizes tops) where
  abbrev count : ℕ
  count = length body.blocks

  abbrev ranks_before : List ℕ
  ranks_before = map (λ (block : Block). block.rank) body.blocks

  abbrev ranks : List ℕ
  ranks = tops ++ lower_ranks tops sizes

  abbrev all : List Block
  all = made ++ new

  tops_long : length tops ≡ count
  tops_long = are.long ∙ length-map body.blocks (λ (block : Block). block.rank)

  -- the rank of a block of the body, as it was
  was-at : (n : ℕ) (block : Block) → slice_get body.blocks n ≡ Some block → slice_index ranks_before n ≡ block.rank
  was-at n block e = at body.blocks n block e
    where
      at : (l : List Block) (n : ℕ) (block : Block) → slice_get l n ≡ Some block → slice_index (map (λ (b : Block).
          b.rank) l) n ≡ block.rank
      at [] n block e = absurd (none-some block e)
      at (b ∷ l) zero block e = ap (λ (z : Block). z.rank) (same_Some b block e)
      at (b ∷ l) (suc n) block e = at l n block e

  before-long : length ranks_before ≡ count
  before-long = length-map body.blocks (λ (block : Block). block.rank)

  -- as it is now
  raw-rank : (n : ℕ) → n < count → slice_get ranks n ≡ Some (slice_index tops n)
  raw-rank n less =
      left-at tops (lower_ranks tops sizes) n (slice_index tops n) (slice_get-get_or tops n 0 (let l = tops_long in
      omega (l, less, arith)))

  new-rank : (n t : ℕ) → n < count → t < slice_index sizes n →
      slice_get ranks (count + (start_of sizes n + t)) ≡ Some (slice_index tops n - slice_index sizes n + t)
  new-rank n t less part =
      let l = tops_long in
      let at : count + (start_of sizes n + t) ≡ length tops + (start_of sizes n + t) = omega (l, arith) in
      ap (slice_get ranks) at ∙ right-at tops (lower_ranks tops sizes) (start_of sizes n + t)
      ∙ lower-at tops sizes n t (omega (l, less, arith)) (let s = sized in omega (s, less, arith)) part

  -- an old edge that is no turn's
  lower-raw : (n m : ℕ) (from to there : Block) → slice_get body.blocks n ≡ Some from → Contains (targets from.term) m →
      slice_get body.blocks m ≡ Some to → slice_get made m ≡ Some there → is_turn there ≡ false →
      slice_index tops m + slice_index sizes n < slice_index tops n
  lower-raw n m from to there at_n has at_m there_m flat =
      let lower = was n m from to at_n has at_m (sym (kinds m to there at_m there_m) ∙ flat) in
      let a = was-at n from at_n in
      let b = was-at m to at_m in
      let n_in = slice_get_within body.blocks n from at_n in
      let m_in = slice_get_within body.blocks m to at_m in
      let l = before-long in
      are.above m n (omega (m_in, l, arith)) (omega (n_in, l, arith)) (omega (a, b, lower, arith))

  room-at : (n : ℕ) → n < count → slice_index sizes n ≤ slice_index tops n
  room-at n less = are.room n (let l = before-long in omega (less, l, arith))

  in-made : (m : ℕ) → m < count → (block : Block) → slice_get all m ≡ Some block → slice_get made m ≡ Some block
  in-made m less block e = elim ((slice_get_cases made m).1) [
    | inl it ↦ it.2 ∙ sym (left-at made new m it.0 it.2) ∙ e
    | inr past ↦ (let f = past.0 in let l = long in absurd (let never : ⊥ = omega (f, l, less, arith) in never))
  ]

  in-new : (m i : ℕ) → m ≡ count + i → (block : Block) → slice_get all m ≡ Some block → slice_get new i ≡ Some block
  in-new m i same block e =
      let l = long in
      let at : length made + i ≡ m = omega (same, l, arith) in
      sym (right-at made new i) ∙ ap (slice_get all) at ∙ e

  abbrev Below : (m : ℕ) → (rank : ℕ) → Type 0
  Below m rank = (to : Block) (r : ℕ) → slice_get all m ≡ Some to → slice_get ranks m ≡ Some r → is_turn to ≡ false →
      r < rank

  -- to what is made for a block
  new-below : (n t m rank : ℕ) → n < count → t ≤ slice_index sizes n → count + start_of sizes n ≤ m →
      m < count + (start_of sizes n + t) → slice_index tops n - slice_index sizes n + t ≤ rank → Below m rank
  new-below n t m rank less within low high up to r at at_r flat =
      let i = m - (count + start_of sizes n) in
      let part : i < slice_index sizes n = omega (low, high, within, arith) in
      let is : m ≡ count + (start_of sizes n + i) = omega (low, arith) in
      let e = same_Some (slice_index tops n - slice_index sizes n + i) r (sym (new-rank n i less part) ∙ ap (slice_get
      ranks) (sym is) ∙ at_r) in
      omega (e, up, low, high, arith)

  -- to a block of the body
  raw-below : (n m rank : ℕ) (from : Block) → slice_get body.blocks n ≡ Some from → Contains (targets from.term) m →
      slice_index tops n - slice_index sizes n ≤ rank → Below m rank
  raw-below n m rank from at_n has up to r at at_r flat =
      let there = exist n from at_n m has in
      let m_in = slice_get_within body.blocks m there.0 there.1 in
      let lower = lower-raw n m from there.0 to at_n has there.1 (in-made m m_in to at) flat in
      let e = same_Some (slice_index tops m) r (sym (raw-rank m m_in) ∙ at_r) in
      omega (e, lower, up, arith)

  some-block : (n : ℕ) → n < count → (block : Block) × (slice_get body.blocks n ≡ Some block)
  some-block n less = elim ((slice_get_cases body.blocks n).1) [
    | inl it ↦ (it.0, it.2)
    | inr past ↦ (let f = past.0 in absurd (let never : ⊥ = omega (f, less, arith) in never))
  ]

  from-raw : (n m : ℕ) (there : Block) (rank : ℕ) → n < count → slice_get all n ≡ Some there → slice_get ranks n ≡
      Some rank →
      Contains (targets there.term) m → Below m rank
  from-raw n m there rank less at at_rank has =
      let block = some-block n less in
      let e = same_Some (slice_index tops n) rank (sym (raw-rank n less) ∙ at_rank) in
      let room = room-at n less in
      elim (raw n block.0 there block.1 (in-made n less there at) m has) [
        | inl old ↦ raw-below n m rank block.0 block.1 old (omega (e, arith))
        | inr fresh ↦ new-below n (slice_index sizes n) m rank less (omega arith) fresh.0 fresh.1 (omega (
          e,
          room,
          arith,
        ))
      ]

  from-new : (n m i : ℕ) (there : Block) (rank : ℕ) → n ≡ count + i → slice_get all n ≡ Some there → slice_get ranks n
      ≡ Some rank →
      Contains (targets there.term) m → Below m rank
  from-new n m i there rank same at at_rank has =
      let here = in-new n i same there at in
      let g = group-of sizes i (let w = slice_get_within new i there here in let t = total in omega (w, t, arith)) in
      let less : g.block < count = (let w = g.within in let s = sized in omega (w, s, arith)) in
      let block = some-block g.block less in
      let is = g.is in
      let number : n ≡ count + (start_of sizes g.block + g.part) = omega (same, is, arith) in
      let e = same_Some (slice_index tops g.block - slice_index sizes g.block + g.part) rank
      (sym (new-rank g.block g.part less g.less) ∙ ap (slice_get ranks) (sym number) ∙ at_rank) in
      elim (back g.block g.part block.0 there block.1 g.less (ap (slice_get new) (sym is) ∙ here) m has) [
        | inl old ↦ raw-below g.block m rank block.0 block.1 old (omega (e, arith))
        | inr fresh ↦ new-below g.block g.part m rank less (let l = g.less in omega (l, arith)) fresh.0 fresh.1 (omega
            (e, arith))
      ]

  from-any : (n m : ℕ) (there : Block) (rank : ℕ) → slice_get all n ≡ Some there → slice_get ranks n ≡ Some rank →
      Contains (targets there.term) m → Below m rank
  from-any n m there rank at at_rank has = by (cases_lt n count)
    where
      by : (n < count) ⊎ (count ≤ n) → Below m rank
      by (inl less) = from-raw n m there rank less at at_rank has
      by (inr past) = from-new n m (n - count) there rank (omega (past, arith)) at at_rank has

  pub ranked-so : (after : Body) → after.blocks ≡ ranked_with all ranks → IsRanked after
  ranked-so after blocks n m from to at_n has at_m flat =
      let f = ranked-at all ranks n from (ap (λ (l : List Block). slice_get l n) (sym blocks) ∙ at_n) in
      let t = ranked-at all ranks m to (ap (λ (l : List Block). slice_get l m) (sym blocks) ∙ at_m) in
      let less = from-any n m f.block f.rank f.at f.at_rank (subst (λ (b : Block). Contains (targets b.term) m) f.is
      has)
      t.block t.rank t.at t.at_rank (sym (ap is_turn t.is) ∙ flat) in
      let a = ap (λ (b : Block). b.rank) t.is in
      let b = ap (λ (b : Block). b.rank) f.is in
      omega (less, a, b, arith)

pub new-ranks-fit : NewRanksFit
new-ranks-fit body after blocks new sizes tops was inside laid are is =
    ranked-so body was inside blocks new sizes tops laid.long laid.sized laid.total laid.kinds laid.own laid.made are
    after is
