-- Blocks that are shared are made once and stay found. What a chain of drops still costs: the blocks for its entries
-- before one that stands; so a chain that is known costs nothing, and asked again it is the same.
use Rattle.std.proofs.Common.{◌≡◌, ℕ, suc, ◌+◌, ◌≤◌, ◌==◌, not, Bool, true, false, List, [], ◌∷◌, ◌++◌, length, Option, Some, None, if◌then◌else◌, refl, sym, ap, ◌∙◌, subst, arith, length-append, add-one}
use Rattle.std.proofs.lemmas.Option.{none-some}
use Rattle.cfg_graph.specs.declared.graph.Kind.{Kind}
use Rattle.cfg_graph.specs.declared.terminator.Unwind.{Unwind}
use Rattle.src_meaning.specs.Scopes.{Entry}
use Rattle.lower_rules.proofs.SharedEnds.{ends_same, equal_itself, end_itself}
use Rattle.lower_rules.specs.Build.{LoweringFrame, BlockRest, SharedEnd, Resumes, DropsThen, Building, made, closed, same_end, end_among, end_kind, end_rest, listed_at, shared_or, share, nothing, chain, unwind_to}

abbrev pub owes : Option ℕ → ℕ → ℕ
owes (Some n) rest = 0
owes None rest = suc rest

pub owes_most : (o : Option ℕ) (rest : ℕ) → owes o rest ≤ suc rest
owes_most (Some n) rest = omega arith
owes_most None rest = omega arith

pub owes_less : (o o' : Option ℕ) (rest rest' : ℕ) → ((n : ℕ) → o ≡ Some n → o' ≡ Some n) → rest' ≤ rest →
    owes o' rest' ≤ owes o rest
owes_less (Some n) (Some m) rest rest' keeps l = omega arith
owes_less None (Some m) rest rest' keeps l = omega arith
owes_less (Some n) None rest rest' keeps l = absurd (none-some n (keeps n refl))
owes_less None None rest rest' keeps l = omega (arith, l)

pub closed_length : (kind : Kind) (k : BlockRest) (s : Building) →
    length (closed kind k s).blocks ≡ suc (length s.blocks)
closed_length kind k s = length-append s.blocks (Some (made kind (length s.blocks) k) ∷ []) ∙ add-one (length s.blocks)

-- ---- blocks that are shared
abbrev pub Shared : Type 0
Shared = ℕ → List (SharedEnd × ℕ)

abbrev pub found : SharedEnd → Shared → Option ℕ
found e cs = end_among e (cs (listed_at e))

-- each block that is found among some is found among others
abbrev pub Keeps : Shared → Shared → Type 0
Keeps cs cs' = (e : SharedEnd) (n : ℕ) → found e cs ≡ Some n → found e cs' ≡ Some n

pub keeps_not : (cs : Shared) → Keeps cs cs
keeps_not cs e n h = h

pub keeps_on : (cs cs' cs'' : Shared) → Keeps cs cs' → Keeps cs' cs'' → Keeps cs cs''
keeps_on cs cs' cs'' a b e n h = b e n (a e n h)

abbrev with_one : SharedEnd → ℕ → Shared → Shared
with_one e n cs i = if i == listed_at e then (e, n) ∷ cs i else cs i

one_kept : (e : SharedEnd) (n : ℕ) (cs : Shared) → found e cs ≡ None → Keeps cs (with_one e n cs)
one_kept e n cs new d m h = by_place (listed_at d == listed_at e)
  where
    by_same : (x : Bool) → same_end d e ≡ x → (if x then Some n else end_among d (cs (listed_at d))) ≡ Some m
    by_same true same = absurd (none-some m (sym new ∙ subst (λ z. found z cs ≡ Some m) (ends_same d e same) h))
    by_same false same = h

    by_place : (x : Bool) → end_among d (if x then (e, n) ∷ cs (listed_at d) else cs (listed_at d)) ≡ Some m
    by_place true = by_same (same_end d e) refl
    by_place false = h

new_found : (e : SharedEnd) (n : ℕ) (cs : Shared) → found e (with_one e n cs) ≡ Some n
new_found e n cs =
    let place = listed_at e in
    ap (λ b. end_among e (if b then (e, n) ∷ cs place else cs place)) (equal_itself place)
    ∙ ap (λ b. if b then Some n else end_among e (cs place)) (end_itself e)

-- ---- what a chain still costs: the blocks for its entries before one that stands
abbrev pub known_behind : ℕ → Option ℕ → Shared → Option ℕ
known_behind key None cs = None
known_behind key (Some n) cs = found (DropsThen key n Unwind.Abort) cs

abbrev pub known : List Entry → Shared → Option ℕ
known [] cs = found Resumes cs
known (e ∷ es) cs = known_behind e.key (known es cs) cs

abbrev pub debt : List Entry → Shared → ℕ
debt [] cs = owes (known [] cs) 0
debt (e ∷ es) cs = owes (known (e ∷ es) cs) (debt es cs)

-- the blocks so far, with what the chain of these entries still costs
abbrev pub reckoned : List Entry → Building → ℕ
reckoned es s = length s.blocks + debt es s.shared

pub debt_most : (es : List Entry) (cs : Shared) → debt es cs ≤ suc (length es)
debt_most [] cs = owes_most (known [] cs) 0
debt_most (e ∷ es) cs = let i = owes_most (known (e ∷ es) cs) (debt es cs) in let j = debt_most es cs in omega arith

pub debt_behind : (es ds : List Entry) (cs : Shared) → debt (es ++ ds) cs ≤ length es + debt ds cs
debt_behind [] ds cs = omega arith
debt_behind (e ∷ es) ds cs =
    let i = owes_most (known (e ∷ es ++ ds) cs) (debt (es ++ ds) cs) in let j = debt_behind es ds cs in omega arith

pub no_debt : (es : List Entry) (cs : Shared) (n : ℕ) → known es cs ≡ Some n → debt es cs ≡ 0
no_debt [] cs n h = ap (λ o. owes o 0) h
no_debt (e ∷ es) cs n h = ap (λ o. owes o (debt es cs)) h

behind_keeps : (key : ℕ) (o o' : Option ℕ) (cs cs' : Shared) → Keeps cs cs' → ((m : ℕ) → o ≡ Some m → o' ≡ Some m) →
    (n : ℕ) → known_behind key o cs ≡ Some n → known_behind key o' cs' ≡ Some n
behind_keeps key None o' cs cs' keeps ih n h = absurd (none-some n h)
behind_keeps key (Some m) o' cs cs' keeps ih n h =
    subst (λ z. known_behind key z cs' ≡ Some n) (sym (ih m refl)) (keeps (DropsThen key m Unwind.Abort) n h)

pub known_keeps : (es : List Entry) (cs cs' : Shared) → Keeps cs cs' → (n : ℕ) → known es cs ≡ Some n →
    known es cs' ≡ Some n
known_keeps [] cs cs' keeps n h = keeps Resumes n h
known_keeps (e ∷ es) cs cs' keeps n h =
    behind_keeps e.key (known es cs) (known es cs') cs cs' keeps (known_keeps es cs cs' keeps) n h

pub debt_less : (es : List Entry) (cs cs' : Shared) → Keeps cs cs' → debt es cs' ≤ debt es cs
debt_less [] cs cs' keeps = owes_less (known [] cs) (known [] cs') 0 0 (known_keeps [] cs cs' keeps) (omega arith)
debt_less (e ∷ es) cs cs' keeps =
    owes_less (known (e ∷ es) cs) (known (e ∷ es) cs') (debt es cs) (debt es cs') (known_keeps (e ∷ es) cs cs' keeps)
    (debt_less es cs cs' keeps)

-- where the entries below are dropped by a block that stands, so is nothing left to be made of them
none_below : (key : ℕ) (es : List Entry) (cs : Shared) (n : ℕ) → known_behind key (known es cs) cs ≡ Some n →
    debt es cs ≡ 0
none_below key es cs n = by_known (known es cs) refl
  where
    by_known : (o : Option ℕ) → known es cs ≡ o → known_behind key o cs ≡ Some n → debt es cs ≡ 0
    by_known None e h = absurd (none-some n h)
    by_known (Some m) e h = no_debt es cs m e

module _ (f : LoweringFrame) where
  -- a block is made, if it does not stand, and is found then
  pub record IsShared (e : SharedEnd) (s : Building) (r : ℕ × Building) : Type 0 where
    pub cost : length r.1.blocks ≡ length s.blocks + owes (found e s.shared) 0
    pub keeps : Keeps s.shared r.1.shared
    pub there : found e r.1.shared ≡ Some r.0

  pub share_costs : (e : SharedEnd) (s : Building) → IsShared e s (share f e s)
  share_costs e s = by_known (found e s.shared) refl
    where
      by_known : (o : Option ℕ) → found e s.shared ≡ o → IsShared e s (shared_or f o e s)
      by_known (Some n) h = record {
        cost =
            (let i : length s.blocks ≡ length s.blocks + 0 = omega arith in i)
            ∙ ap (λ o. length s.blocks + owes o 0) (sym h);
        keeps = keeps_not s.shared;
        there = h;
      }
      by_known None h = record {
        cost =
            closed_length (end_kind f e) (end_rest f e) s
            ∙ (let i : suc (length s.blocks) ≡ length s.blocks + 1 = omega arith in i)
            ∙ ap (λ o. length s.blocks + owes o 0) (sym h);
        keeps = one_kept e (length s.blocks) s.shared h;
        there = new_found e (length s.blocks) s.shared;
      }

  -- a chain is made at the cost that is left, and is found then
  pub record Chained (es : List Entry) (s : Building) (r : ℕ × Building) : Type 0 where
    pub cost : length r.1.blocks ≤ reckoned es s
    pub keeps : Keeps s.shared r.1.shared
    pub there : known es r.1.shared ≡ Some r.0

  pub chained : (es : List Entry) (s : Building) → Chained es s (chain f es s)
  chained [] s =
      let c = share_costs Resumes s in
      let i = c.cost in
      record { cost = omega arith; keeps = c.keeps; there = c.there }
  chained (x ∷ es) s = behind (chain f es s) (chained es s)
    where
      behind : (r : ℕ × Building) → Chained es s r → Chained (x ∷ es) s (share f (DropsThen x.key r.0 Unwind.Abort) r.1)
      behind r ih = record {
        cost = by_known (known (x ∷ es) s.shared) refl;
        keeps = keeps_on s.shared r.1.shared (share f e r.1).1.shared ih.keeps c.keeps;
        there =
            ap (λ o. known_behind x.key o (share f e r.1).1.shared)
            (known_keeps es r.1.shared (share f e r.1).1.shared c.keeps r.0 ih.there)
            ∙ c.there;
      }
        where
          e : SharedEnd
          e = DropsThen x.key r.0 Unwind.Abort

          c : IsShared e r.1 (share f e r.1)
          c = share_costs e r.1

          by_known : (o : Option ℕ) → known (x ∷ es) s.shared ≡ o →
              length (share f e r.1).1.blocks ≤ length s.blocks + owes (known (x ∷ es) s.shared) (debt es s.shared)
          by_known None h =
              let i = c.cost in
              let j = ih.cost in
              let k = owes_most (found e r.1.shared) 0 in
              let l = ap (λ o. owes o (debt es s.shared)) h in
              omega arith
          by_known (Some n) h =
              let now = known_keeps (x ∷ es) s.shared r.1.shared ih.keeps n h in
              let stands : found e r.1.shared ≡ Some n =
              ap (λ o. known_behind x.key o r.1.shared) (sym ih.there) ∙ now in
              let i = c.cost in
              let j = ih.cost in
              let k = ap (λ o. owes o 0) stands in
              let l = none_below x.key es s.shared n h in
              omega arith

  -- where a panic goes on: no more than the chain, of which nothing is left to be made
  pub unwound : (es : List Entry) (s : Building) →
      (length (unwind_to f es s).1.blocks ≤ reckoned es s) × Keeps s.shared (unwind_to f es s).1.shared
      × (debt es (unwind_to f es s).1.shared ≤ 1)
  unwound [] s = (omega arith, keeps_not s.shared, owes_most (known [] s.shared) 0)
  unwound (x ∷ es) s =
      let c = chained (x ∷ es) s in
      let n = no_debt (x ∷ es) (chain f (x ∷ es) s).1.shared (chain f (x ∷ es) s).0 c.there in
      (c.cost, c.keeps, omega arith)

  pub unwound_most : (es : List Entry) (s : Building) →
      length (unwind_to f es s).1.blocks ≤ length s.blocks + suc (length es)
  unwound_most es s = let u = (unwound es s).0 in let d = debt_most es s.shared in omega arith

  -- ---- a chain that is known is answered, and nothing is made
  pub share_answers : (e : SharedEnd) (s : Building) (n : ℕ) → found e s.shared ≡ Some n → share f e s ≡ (n, s)
  share_answers e s n h = ap (λ o. shared_or f o e s) h

  pub chain_answers : (es : List Entry) (s : Building) (n : ℕ) → known es s.shared ≡ Some n → chain f es s ≡ (n, s)
  chain_answers [] s n h = share_answers Resumes s n h
  chain_answers (x ∷ es) s n h = by_known (known es s.shared) refl (chain_answers es s)
    where
      by_known : (o : Option ℕ) → known es s.shared ≡ o →
          ((m : ℕ) → known es s.shared ≡ Some m → chain f es s ≡ (m, s)) →
          chain f (x ∷ es) s ≡ (n, s)
      by_known None e ih = absurd (none-some n (ap (λ o. known_behind x.key o s.shared) (sym e) ∙ h))
      by_known (Some m) e ih =
          ap (λ (r : ℕ × Building). share f (DropsThen x.key r.0 Unwind.Abort) r.1) (ih m e)
          ∙ share_answers (DropsThen x.key m Unwind.Abort) s n (ap (λ o. known_behind x.key o s.shared) (sym e) ∙ h)

  pub answered_is_known : (es : List Entry) (s : Building) (n : ℕ) → chain f es s ≡ (n, s) → known es s.shared ≡ Some n
  answered_is_known es s n h = subst (λ (r : ℕ × Building). known es r.1.shared ≡ Some r.0) h (chained es s).there

  -- asked again, also after other blocks are made and shared, it is the same
  pub chain_stays : (es : List Entry) (s s' : Building) → Keeps (chain f es s).1.shared s'.shared →
      chain f es s' ≡ ((chain f es s).0, s')
  chain_stays es s s' keeps =
      let made = chain f es s in
      chain_answers es s' made.0 (known_keeps es made.1.shared s'.shared keeps made.0 (chained es s).there)

  pub chain_again : (es : List Entry) (s : Building) → chain f es (chain f es s).1 ≡ chain f es s
  chain_again es s = chain_stays es s (chain f es s).1 (keeps_not (chain f es s).1.shared)

  pub down_stays : (es : List Entry) (s s' : Building) → Keeps (unwind_to f es s).1.shared s'.shared →
      unwind_to f es s' ≡ ((unwind_to f es s).0, s')
  down_stays [] s s' keeps = refl
  down_stays (x ∷ es) s s' keeps = ap (λ (r : ℕ × Building). (Unwind.Block r.0, r.1)) (chain_stays (x ∷ es) s s' keeps)

  pub down_again : (es : List Entry) (s : Building) → unwind_to f es (unwind_to f es s).1 ≡ unwind_to f es s
  down_again es s = down_stays es s (unwind_to f es s).1 (keeps_not (unwind_to f es s).1.shared)

  pub down_later : (es : List Entry) (s s' : Building) (u : Unwind) → unwind_to f es s ≡ (u, s) →
      Keeps s.shared s'.shared → unwind_to f es s' ≡ (u, s')
  down_later es s s' u h keeps =
      down_stays es s s' (subst (λ (r : Unwind × Building). Keeps r.1.shared s'.shared) (sym h) keeps)
      ∙ ap (λ (r : Unwind × Building). (r.0, s')) h

  pub share_keeps : (e : SharedEnd) (s : Building) → Keeps s.shared (share f e s).1.shared
  share_keeps e s = (share_costs e s).keeps

  pub chain_keeps : (es : List Entry) (s : Building) → Keeps s.shared (chain f es s).1.shared
  chain_keeps es s = (chained es s).keeps

  pub down_keeps : (es : List Entry) (s : Building) → Keeps s.shared (unwind_to f es s).1.shared
  down_keeps es s = (unwound es s).1

  -- the chain of entries, where it is known where a panic goes on that drops them
  abbrev pub chain_from : Unwind → Building → ℕ × Building
  chain_from (Unwind.Block n) s = (n, s)
  chain_from Unwind.Resume s = share f Resumes s
  chain_from Unwind.Abort s = share f Resumes s

  pub chain_of_down : (es : List Entry) (s : Building) (u : Unwind) → unwind_to f es s ≡ (u, s) →
      chain f es s ≡ chain_from u s
  chain_of_down [] s u h = ap (λ (r : Unwind × Building). chain_from r.0 s) h
  chain_of_down (x ∷ es) s u h =
      let made = chain f (x ∷ es) s in
      (λ i. (made.0, (h i).1)) ∙ ap (λ (r : Unwind × Building). chain_from r.0 s) h

  -- with one entry more
  abbrev pub down_from : Entry → ℕ × Building → Unwind × Building
  down_from x rest = let made = share f (DropsThen x.key rest.0 Unwind.Abort) rest.1 in (Unwind.Block made.0, made.1)

  pub down_above : (x : Entry) (es : List Entry) (s : Building) (u : Unwind) → unwind_to f es s ≡ (u, s) →
      unwind_to f (x ∷ es) s ≡ down_from x (chain_from u s)
  down_above x es s u h = ap (down_from x) (chain_of_down es s u h)
