-- Nodes that are added to a walk.
use Rattle.std.proofs.Common.{◌≡◌, ℕ, suc, ◌+◌, ◌≤◌, ◌<◌, Bool, true, false, ◌==◌, if◌then◌else◌, List, [], ◌∷◌, ◌++◌, Option, Some, Contains, ◌⊎◌, inl, inr, refl, ap, sym, subst, ◌∙◌, arith, zero, map, length, slice_get}
use Rattle.std.specs.List.{filter_map}
use Rattle.std.specs.List.{cons_option}
use Rattle.std.proofs.lemmas.Bool.{eqb-true, cases_order}
use Rattle.std.proofs.lemmas.List.Elements.{filter_map-append, Contains-append_left, Contains-append_right, Contains-append_cases}
use Rattle.mir_base.specs.declared.place_in_text.Pos.{Pos}
use Rattle.mir_ty.specs.declared.ty.TyId.{TyId}
use Rattle.typed_tree.specs.declared.node.Use.{Use}
use Rattle.std.proofs.lemmas.List.{append_assoc, append-nil}
use Rattle.mir_ty.specs.AreItems.{AreDistinct}
use Rattle.mir_ty.specs.declared.def.ClosureDef.{ClosureDef}
use Rattle.typed_tree.specs.Tree.{BodyTree}
use Rattle.typed_tree.specs.Nodes.{number_of, nodes_of, nodes_in}
use Rattle.typed_tree.specs.Tree.{Node, node, Form, Break}
use Rattle.well_typed.specs.Nodes.{carried_by}
use Rattle.well_typed.specs.Places.{form_of, is_place}
use Rattle.typing_rules.specs.Check.{TypingState}
use Rattle.typing_rules.specs.Places.{used}
use Rattle.typing_rules.specs.Rows.{used_if_place}
use Rattle.typing_rules.proofs.Sound.Gives.{numbered}
use Rattle.typing_soundness.specs.Closures.{Tape}
use Rattle.typing_soundness.specs.Met.{Met}
use Rattle.typing_soundness.specs.Types.{HaveTypes}
use Rattle.typing_soundness.specs.Walks.{occurs, IsCarried, counted, numbers_of_bodies, Ordered, Walks}
use Rattle.typing_soundness.proofs.Walking.Later.{met_both}

-- ---- how often a number occurs

pub occurs_both : (k : ℕ) (xs ys : List Node) → occurs k (xs ++ ys) ≡ occurs k xs + occurs k ys
occurs_both k [] ys = omega arith
occurs_both k (x ∷ xs) ys = by (number_of x == k) (occurs_both k xs ys)
  where
    by : (b : Bool) → occurs k (xs ++ ys) ≡ occurs k xs + occurs k ys → (if b then suc (occurs k (xs ++ ys)) else occurs
        k (xs ++ ys)) ≡ (if b then suc (occurs k xs) else occurs k xs) + occurs k ys
    by true e = omega (arith, e)
    by false e = e

-- ---- breaks that are carried

pub carried_left : (b : ℕ × TyId) (xs ys : List Node) → IsCarried b xs → IsCarried b (xs ++ ys)
carried_left b xs ys c = (
  c.0,
  subst (λ vs. Contains vs c.0) (sym (filter_map-append (carried_by b.0) xs ys)) (Contains-append_left (filter_map
      (carried_by b.0) xs) (filter_map (carried_by b.0) ys) c.0 c.1),
  c.2,
)

pub carried_right : (b : ℕ × TyId) (xs ys : List Node) → IsCarried b ys → IsCarried b (xs ++ ys)
carried_right b xs ys c = (
  c.0,
  subst (λ vs. Contains vs c.0) (sym (filter_map-append (carried_by b.0) xs ys)) (Contains-append_right (filter_map
      (carried_by b.0) xs) (filter_map (carried_by b.0) ys) c.0 c.1),
  c.2,
)

pub carried_cases : (b : ℕ × TyId) (xs ys : List Node) → IsCarried b (xs ++ ys) → IsCarried b xs ⊎ IsCarried b ys
carried_cases b xs ys c =
    by (Contains-append_cases (filter_map (carried_by b.0) xs) (filter_map (carried_by b.0) ys) c.0 (subst (λ vs.
    Contains vs c.0) (filter_map-append (carried_by b.0) xs ys) c.1))
  where
    by : Contains (filter_map (carried_by b.0) xs) c.0 ⊎ Contains (filter_map (carried_by b.0) ys) c.0 → IsCarried b
        xs ⊎ IsCarried b ys
    by (inl h) = inl (c.0, h, c.2)
    by (inr h) = inr (c.0, h, c.2)

-- ---- bodies and closures

-- states that have the same bodies and closures, and all types
pub record Stays (s t : TypingState) : Type 0 where
  pub types : HaveTypes s.items t.items
  pub distinct : AreDistinct s.items.types → AreDistinct t.items.types
  pub adts : t.items.adts ≡ s.items.adts
  pub traits : t.items.traits ≡ s.items.traits
  pub impls : t.items.impls ≡ s.items.impls
  pub heads : t.items.bodies ≡ s.items.bodies
  pub next_body : t.next_body ≡ s.next_body
  pub bodies : t.bodies ≡ s.bodies
  pub closures : t.items.closures ≡ s.items.closures

pub stays_refl : (s : TypingState) → Stays s s
stays_refl s = record { types = λ n ty h. h; distinct = λ h. h; adts = refl; traits = refl; impls = refl; heads = refl; next_body = refl; bodies = refl; closures = refl }

pub stays_both : {s t u : TypingState} → Stays s t → Stays t u → Stays s u
stays_both p q = record {
  types = λ n ty h. q.types n ty (p.types n ty h);
  distinct = λ h. q.distinct (p.distinct h);
  adts = q.adts ∙ p.adts;
  traits = q.traits ∙ p.traits;
  impls = q.impls ∙ p.impls;
  heads = q.heads ∙ p.heads;
  next_body = q.next_body ∙ p.next_body;
  bodies = q.bodies ∙ p.bodies;
  closures = q.closures ∙ p.closures;
}

pub ordered_of : {s t : TypingState} → Stays s t → Ordered s t
ordered_of {s} {t} e = record {
  count = 0;
  next = e.next_body ∙ omega arith;
  bodies = ap (map (λ (b : BodyTree). b.number)) e.bodies ∙ sym (append-nil (numbers_of_bodies s));
  closures = ap length e.closures ∙ omega arith;
  aligned = λ k def at. inl (subst (λ cs. slice_get cs k ≡ Some def) e.closures at);
}

-- nothing is met
pub met_none : {s t : TypingState} → Stays s t → Met (λ rest. rest) s t
met_none {s} e = record {
  types = e.types;
  distinct = e.distinct;
  adts = e.adts;
  heads = e.heads;
  closures = λ n def h. subst (λ ds. slice_get ds n ≡ Some def) (sym e.closures) h;
  new = [];
  bodies = e.bodies ∙ sym (append-nil s.bodies);
  made = λ rest. (refl, ap length (sym e.closures));
}

pub counted_join : (from a b : ℕ) → counted from a ++ counted (from + a) b ≡ counted from (a + b)
counted_join from zero b = λ i. counted (zero_right i) (zero_left i)
  where
    zero_right : from + 0 ≡ from
    zero_right = omega arith

    zero_left : b ≡ 0 + b
    zero_left = omega arith
counted_join from (suc a) b =
    ap (λ ns. from ∷ ns) (ap (λ n. counted (suc from) a ++ counted n b) next ∙ counted_join (suc from) a b) ∙ ap
    (counted from) sums
  where
    next : from + suc a ≡ suc from + a
    next = omega arith

    sums : suc (a + b) ≡ suc a + b
    sums = omega arith

pub ordered_both : {s t u : TypingState} → Ordered s t → Ordered t u → Ordered s u
ordered_both {s} {t} {u} p q = record {
  count = p.count + q.count;
  next = let a = p.next in let b = q.next in omega (arith, a, b);
  bodies = q.bodies ∙ (ap (λ ns. ns ++ counted t.next_body q.count) p.bodies ∙ (append_assoc (numbers_of_bodies s)
      (counted s.next_body p.count) (counted t.next_body q.count) ∙ ap (λ ns. numbers_of_bodies s ++ ns) (ap (λ n.
      counted s.next_body p.count ++ counted n q.count) p.next ∙ counted_join s.next_body p.count q.count)));
  closures = let a = p.closures in let b = q.closures in omega (arith, a, b);
  aligned = λ k def at. later k def (q.aligned k def at);
}
  where
    later : (k : ℕ) (def : ClosureDef) → (slice_get t.items.closures k ≡ Some def) ⊎ (def.body + length t.items.closures
        ≡ k + t.next_body) → (slice_get s.items.closures k ≡ Some def) ⊎ (def.body + length s.items.closures ≡ k +
        s.next_body)
    later k def (inl at) = p.aligned k def at
    later k def (inr e) = inr (let a = p.closures in let b = p.next in omega (arith, a, b, e))

-- ---- walks

pub walks_none : (s : TypingState) → Walks (λ rest. rest) s s []
walks_none s = record {
  numbers = omega arith;
  before = λ k h. refl;
  behind = λ k h. refl;
  once = λ k. omega arith;
  carried = λ b h. inl h;
  ordered = ordered_of (stays_refl s);
  met = met_none (stays_refl s);
}

pub walks_both : {f g : Tape} {s t u : TypingState} {xs ys : List Node} → Walks f s t xs → Walks g t u ys → Walks (λ rest. f (g
    rest)) s u (xs ++ ys)
walks_both {s = s} {t} {u} {xs} {ys} p q = record {
  numbers = omega (arith, p.numbers, q.numbers);
  before = λ k h.
      let a = p.before k h in let b = q.before k (let n = p.numbers in omega (arith, h, n)) in
      occurs_both k xs ys ∙ omega (arith, a, b);
  behind = λ k h.
      let a = p.behind k (let n = q.numbers in omega (arith, h, n)) in let b = q.behind k h in
      occurs_both k xs ys ∙ omega (arith, a, b);
  once = λ k. subst (λ n. n ≤ 1) (sym (occurs_both k xs ys)) (once_by k (cases_order k t.next_node));
  carried = λ b h. later b (q.carried b h);
  ordered = ordered_both p.ordered q.ordered;
  met = met_both p.met q.met;
}
  where
    once_by : (k : ℕ) → (k ≡ t.next_node) ⊎ ((k < t.next_node) ⊎ (t.next_node < k)) → occurs k xs + occurs k ys ≤ 1
    once_by k (inl h) = let a = p.behind k (omega (arith, h)) in let b = q.once k in omega (arith, a, b)
    once_by k (inr (inl h)) = let a = q.before k (omega (arith, h)) in let b = p.once k in omega (arith, a, b)
    once_by k (inr (inr h)) = let a = p.behind k (omega (arith, h)) in let b = q.once k in omega (arith, a, b)

    earlier : (b : ℕ × TyId) → Contains s.breaks b ⊎ IsCarried b xs → Contains s.breaks b ⊎ IsCarried b (xs ++ ys)
    earlier b (inl h) = inl h
    earlier b (inr c) = inr (carried_left b xs ys c)

    later : (b : ℕ × TyId) → Contains t.breaks b ⊎ IsCarried b ys → Contains s.breaks b ⊎ IsCarried b (xs ++ ys)
    later b (inl h) = earlier b (p.carried b h)
    later b (inr c) = inr (carried_right b xs ys c)

-- the same nodes in another order
pub walks_so : {f : Tape} {s t : TypingState} {xs : List Node} (ys : List Node) → ((k : ℕ) → occurs k ys ≡ occurs k xs) → ((b : ℕ ×
    TyId) → IsCarried b xs → IsCarried b ys) → Walks f s t xs → Walks f s t ys
walks_so {s = s} {xs = xs} ys same on p =
    record {
      numbers = p.numbers;
      before = λ k h. same k ∙ p.before k h;
      behind = λ k h. same k ∙ p.behind k h;
      once = λ k. subst (λ n. n ≤ 1) (sym (same k)) (p.once k);
      carried = λ b h. by b (p.carried b h);
      ordered = p.ordered;
      met = p.met;
    }
  where
    by : (b : ℕ × TyId) → Contains s.breaks b ⊎ IsCarried b xs → Contains s.breaks b ⊎ IsCarried b ys
    by b (inl h) = inl h
    by b (inr c) = inr (on b c)

swapped_carry : (b : ℕ × TyId) (xs ys : List Node) → IsCarried b (xs ++ ys) → IsCarried b (ys ++ xs)
swapped_carry b xs ys c = by (carried_cases b xs ys c)
  where
    by : IsCarried b xs ⊎ IsCarried b ys → IsCarried b (ys ++ xs)
    by (inl h) = carried_right b ys xs h
    by (inr h) = carried_left b ys xs h

-- what is met second stands first in the text
pub walks_swapped : {f g : Tape} {s t u : TypingState} {xs ys : List Node} → Walks f s t xs → Walks g t u ys → Walks (λ rest. f
    (g rest)) s u (ys ++ xs)
walks_swapped {xs = xs} {ys = ys} p q =
    walks_so (ys ++ xs) (λ k. let a = occurs_both k xs ys in let b = occurs_both k ys xs in omega (arith, a, b)) (λ b c.
    swapped_carry b xs ys c) (walks_both p q)

-- states at both ends that have the same numbers of nodes and breaks
pub walks_recast : {f g : Tape} (s t u v : TypingState) {xs : List Node} → s.next_node ≡ t.next_node → s.breaks ≡ t.breaks → v.next_node ≡
    u.next_node → v.breaks ≡ u.breaks → Ordered s v → Met g s v → Walks f t u xs → Walks g s v xs
walks_recast s t u v {xs} first firsts last lasts ordered met p =
    record {
      numbers = let n = p.numbers in omega (arith, first, last, n);
      before = λ k h. p.before k (omega (arith, first, h));
      behind = λ k h. p.behind k (omega (arith, last, h));
      once = p.once;
      carried = λ b h. by b (p.carried b (subst (λ bs. Contains bs b) lasts h));
      ordered = ordered;
      met = met;
    }
  where
    by : (b : ℕ × TyId) → Contains t.breaks b ⊎ IsCarried b xs → Contains s.breaks b ⊎ IsCarried b xs
    by b (inl h) = inl (subst (λ bs. Contains bs b) (sym firsts) h)
    by b (inr c) = inr c

-- a state that differs in nothing that is looked at
pub walks_same : {f : Tape} {s t : TypingState} (u : TypingState) {xs : List Node} → u.next_node ≡ t.next_node → u.breaks ≡ t.breaks
    → Stays t u → Walks f s t xs → Walks f s u xs
walks_same {s = s} {t} u number breaks stays p =
    walks_recast s s t u refl refl number breaks (ordered_both p.ordered (ordered_of stays)) (met_both p.met (met_none
    stays)) p

-- ---- nodes

one_occurs : (k : ℕ) (n : Node) → occurs k (n ∷ []) ≤ 1
one_occurs k n = by (number_of n == k)
  where
    by : (b : Bool) → (if b then 1 else 0) ≤ 1
    by true = omega arith
    by false = omega arith

other_occurs : (k : ℕ) (n : Node) → (number_of n ≡ k → ⊥) → occurs k (n ∷ []) ≡ 0
other_occurs k n no_ = by (number_of n == k) refl
  where
    none : ℕ
    none = 0

    by : (b : Bool) → (number_of n == k) ≡ b → (if b then suc none else none) ≡ none
    by true e = absurd (no_ (eqb-true (number_of n) k e))
    by false e = refl

-- a number is given out
same_stays : (s : TypingState) → Stays s (numbered s)
same_stays s = record { types = λ n ty h. h; distinct = λ h. h; adts = refl; traits = refl; impls = refl; heads = refl; next_body = refl; bodies = refl; closures = refl }

-- the node that gets the next number
pub walks_number : (s : TypingState) (at : Pos) (ty : TyId) (by : Option Use) (form : Form) → Walks (λ rest. rest) s
    (numbered s) (node s.next_node at ty by form ∷ [])
walks_number s at ty by form =
    record {
      numbers = omega arith;
      before = λ k h. other_occurs k (node s.next_node at ty by form) (λ e. omega (arith, e, h));
      behind = λ k h. other_occurs k (node s.next_node at ty by form) (λ e. omega (arith, e, h));
      once = λ k. one_occurs k (node s.next_node at ty by form);
      carried = λ b h. inl h;
      ordered = ordered_of (same_stays s);
      met = met_none (same_stays s);
    }

-- a node whose number comes before those of its parts
pub walks_node : {f : Tape} {s t : TypingState} (at : Pos) (ty : TyId) (by : Option Use) (form : Form) → Walks f (numbered s) t
    (nodes_in form) → Walks f s t (nodes_of (node s.next_node at ty by form))
walks_node {s = s} at ty by form p = walks_both (walks_number s at ty by form) p

-- a node whose number comes behind those of its parts
pub walks_outer : {f : Tape} {s t : TypingState} (at : Pos) (ty : TyId) (by : Option Use) (form : Form) → Walks f s t (nodes_in
    form) → Walks f s (numbered t) (nodes_of (node t.next_node at ty by form))
walks_outer {t = t} at ty by form p = walks_swapped p (walks_number t at ty by form)

same_carried : (loop id : ℕ) (at : Pos) (ty : TyId) (by other : Option Use) (form : Form) → carried_by loop (node id at
    ty by form) ≡ carried_by loop (node id at ty other form)
same_carried loop id at ty by other (Break from value) = refl
same_carried loop id at ty by other _ = refl

with_first : (loop : ℕ) (n m : Node) (ns : List Node) → carried_by loop n ≡ carried_by loop m → filter_map (carried_by
    loop) (n ∷ ns) ≡ filter_map (carried_by loop) (m ∷ ns)
with_first loop n m ns e = ap (λ o. cons_option o (filter_map (carried_by loop) ns)) e

-- a place that is used
pub walks_used : {f : Tape} {s t : TypingState} (by : Use) (n : Node) → Walks f s t (nodes_of n) → Walks f s t (nodes_of (used
    by n))
walks_used by (node id at ty old form) p =
    walks_so (node id at ty (Some by) form ∷ nodes_in form) (λ k. refl) (λ b c. (
      c.0,
      subst (λ vs. Contains vs c.0) (with_first b.0 (node id at ty old form) (node id at ty (Some by) form) (nodes_in
          form) (same_carried b.0 id at ty old (Some by) form)) c.1,
      c.2,
    )) p

pub walks_used_if : {f : Tape} {s t : TypingState} (by : Use) (n : Node) → Walks f s t (nodes_of n) → Walks f s t (nodes_of
    (used_if_place by n))
walks_used_if by n p = on (is_place (form_of n)) p
  where
    on : {f : Tape} {s t : TypingState} (b : Bool) → Walks f s t (nodes_of n) → Walks f s t (nodes_of (if b then used by n else
        n))
    on true p = walks_used by n p
    on false p = p
