-- A body by its path: the path of a trait's method tells its struct or enum, its trait and its name.
use Rattle.std.proofs.Common.{◌≡◌, ℕ, zero, suc, nat_lt, nat_eq, ◌==◌, Bool, true, false, ◌&&◌, ◌||◌, not, List, [], ◌∷◌, ◌++◌, map, length, slice_get, Option, Some, None, IsTrue, Contains, ◌⊎◌, inl, inr, refl, ap, sym, subst, ◌∙◌, arith}
use Rattle.std.specs.Prelude.{codes, is_some}
use Rattle.std.specs.List.{list_all, list_any}
use Rattle.std.proofs.lemmas.Bool.{false≢true, and_from, and_parts}
use Rattle.std.proofs.lemmas.List.{append_assoc}
use Rattle.std.proofs.lemmas.Option.{none-some, same_Some}
use Rattle.well_typed.specs.Names.{is_word}
use Rattle.typing_rules.specs.Check.{TypingState}
use Rattle.typing_rules.specs.Collected as rules
use Rattle.typing_rules.specs.Items.{ItemSyn, item_syns, body_path, body_paths, path_in, method_path, impl_owner}
use Rattle.typing_rules.specs.Written as types
use Rattle.src_ast.specs.Syntax.{Word, Syn, syn, AnExpression, AnItem, MoveOf, FnItem}
use Rattle.typing_soundness.specs.Closures.{BodySyn, Function, Closure, WrittenHead, functions_text, function_text}
use Rattle.typing_soundness.specs.Heads.{body_text, bodies_text, inner_text, TellBodies}
use Rattle.typing_soundness.specs.Walks.{Walked}
use Rattle.typing_soundness.proofs.Items.Collected.{all_names, listed_text}
use Rattle.typing_soundness.proofs.Items.Main.{each_if_any}
use Rattle.typing_soundness.proofs.Items.Ready.{All}
use Rattle.typing_soundness.proofs.Walking.Lawful.{whatever}
use Rattle.typing_soundness.proofs.Walking.Steps.{walk, walk_map, walk_ends}

-- ---- words

abbrev head_or : ℕ → Word → ℕ
head_or b [] = b
head_or b (a ∷ as_) = a

abbrev tail_of : Word → Word
tail_of [] = []
tail_of (a ∷ as_) = as_

-- two words up to the first byte that is no letter
split : (P : ℕ → Bool) (a b s t : Word) (x y : ℕ) → IsTrue (list_all P a) → IsTrue (list_all P b) → P x ≡ false → P y ≡ false →
    (a ++ x ∷ s) ≡ (b ++ y ∷ t) → (a ≡ b) × (x ≡ y) × (s ≡ t)
split P [] [] s t x y ha hb hx hy e = (refl, ap (head_or x) e, ap tail_of e)
split P [] (c ∷ b) s t x y ha hb hx hy e =
    absurd (false≢true (sym hx ∙ (ap (λ w. P (head_or x w)) e ∙ (and_parts (P c) _ hb).0)))
split P (c ∷ a) [] s t x y ha hb hx hy e =
    absurd (false≢true (sym hy ∙ (ap (λ w. P (head_or y w)) (sym e) ∙ (and_parts (P c) _ ha).0)))
split P (c ∷ a) (d ∷ b) s t x y ha hb hx hy e =
    let r = split P a b s t x y (and_parts (P c) _ ha).1 (and_parts (P d) _ hb).1 hx hy (ap tail_of e) in
    (λ i. ap (head_or c) e i ∷ r.0 i, r.1, r.2)

-- the bytes of a word
abbrev is_letter : ℕ → Bool
is_letter byte = nat_lt 32 byte && not (list_any (nat_eq byte) (codes "()[]{}<>,;&!"))

letters : (w : Word) → IsTrue (is_word w) → IsTrue (list_all is_letter w)
letters w h = (and_parts _ _ h).1

-- a path from its beginning on
abbrev behind_owner : Word → Word → Word
behind_owner t m = codes "as " ++ (t ++ 62 ∷ (codes "::" ++ m))

from_owner : (o t m : Word) → method_path o t m ≡ 60 ∷ (o ++ 32 ∷ behind_owner t m)
from_owner o t m =
    append_assoc (codes "<" ++ o ++ codes " as " ++ t) (codes ">::") m ∙ (append_assoc (codes "<" ++ o ++ codes " as ") t (codes
    ">::" ++ m) ∙ (append_assoc (codes "<" ++ o) (codes " as ") (t ++ (codes ">::" ++ m)) ∙ append_assoc (codes "<") o (codes
    " as " ++ (t ++ (codes ">::" ++ m)))))

from_type : (o m : Word) → (codes "<" ++ o ++ codes ">::" ++ m) ≡ 60 ∷ (o ++ 62 ∷ (codes "::" ++ m))
from_type o m = append_assoc (codes "<" ++ o) (codes ">::") m ∙ append_assoc (codes "<") o (codes ">::" ++ m)

-- the path of a method of an impl of a trait tells its parts
pub path_tells : (o t m owner trait_ name : Word) → IsTrue (is_word o) → IsTrue (is_word t) → IsTrue (is_word owner) → IsTrue
    (is_word trait_) → method_path o t m ≡ method_path owner trait_ name → (o ≡ owner) × (t ≡ trait_) × (m ≡ name)
path_tells o t m owner trait_ name ho ht howner htrait e =
    let whole = sym (from_owner o t m) ∙ (e ∙ from_owner owner trait_ name) in
    let a = split is_letter o owner (behind_owner t m) (behind_owner trait_ name) 32 32 (letters o ho) (letters owner howner) refl
    refl (ap tail_of whole) in
    let b = split is_letter t trait_ (codes "::" ++ m) (codes "::" ++ name) 62 62 (letters t ht) (letters trait_ htrait) refl
    refl (ap (λ w. tail_of (tail_of (tail_of w))) a.2) in
    (a.0, b.0, ap (λ w. tail_of (tail_of w)) b.2)

-- another method has no such path
pub path_is_other : (o m owner trait_ name : Word) → IsTrue (is_word o) → IsTrue (is_word owner) → (codes "<" ++ o ++ codes
    ">::" ++ m) ≡ method_path owner trait_ name → ⊥
path_is_other o m owner trait_ name ho howner e =
    let whole = sym (from_type o m) ∙ (e ∙ from_owner owner trait_ name) in
    let a = split is_letter o owner (codes "::" ++ m) (behind_owner trait_ name) 62 32 (letters o ho) (letters owner howner) refl
    refl (ap tail_of whole) in
    false≢true (ap (λ n. n == 32) a.1)

-- nor has a function
pub path_is_no_name : (w owner trait_ name : Word) → IsTrue (is_word w) → w ≡ method_path owner trait_ name → ⊥
path_is_no_name [] owner trait_ name h e = false≢true h
path_is_no_name (b ∷ w) owner trait_ name h e =
    let p = (and_parts _ _ (letters (b ∷ w) h)).0 in
    false≢true (ap is_letter (sym (ap (head_or b) e)) ∙ p)

-- ---- bodies as they are listed, each with its path

-- two lists of one length, whose members belong together
abbrev pub Aligned : {A B : Type 0} → (A → B → Type 0) → List A → List B → Type 0
Aligned Q [] [] = Unit {0}
Aligned Q (a ∷ as_) (b ∷ bs) = Q a b × Aligned Q as_ bs
Aligned Q _ _ = ⊥

pub aligned_at : {A B : Type 0} (Q : A → B → Type 0) (as_ : List A) (bs : List B) → Aligned Q as_ bs → (n : ℕ) (a : A) →
    slice_get as_ n ≡ Some a → (b : B) × (slice_get bs n ≡ Some b) × Q a b
aligned_at Q [] [] h n a is = absurd (none-some a is)
aligned_at Q [] (b ∷ bs) h n a is = absurd h
aligned_at Q (x ∷ as_) [] h n a is = absurd h
aligned_at Q (x ∷ as_) (b ∷ bs) h zero a is = (b, refl, subst (λ y. Q y b) (same_Some x a is) h.0)
aligned_at Q (x ∷ as_) (b ∷ bs) h (suc n) a is = aligned_at Q as_ bs h.1 n a is

pub aligned_from : {A B : Type 0} (Q : A → B → Type 0) (as_ : List A) (bs : List B) → Aligned Q as_ bs → (n : ℕ) (b : B) →
    slice_get bs n ≡ Some b → (a : A) × (slice_get as_ n ≡ Some a) × Q a b
aligned_from Q [] [] h n b is = absurd (none-some b is)
aligned_from Q [] (y ∷ bs) h n b is = absurd h
aligned_from Q (x ∷ as_) [] h n b is = absurd h
aligned_from Q (x ∷ as_) (y ∷ bs) h zero b is = (x, refl, subst (Q x) (same_Some y b is) h.0)
aligned_from Q (x ∷ as_) (y ∷ bs) h (suc n) b is = aligned_from Q as_ bs h.1 n b is

aligned_both : {A B : Type 0} (Q : A → B → Type 0) (as_ cs : List A) (bs ds : List B) → Aligned Q as_ bs → Aligned Q cs ds →
    Aligned Q (as_ ++ cs) (bs ++ ds)
aligned_both Q [] cs [] ds h k = k
aligned_both Q [] cs (b ∷ bs) ds h k = absurd h
aligned_both Q (a ∷ as_) cs [] ds h k = absurd h
aligned_both Q (a ∷ as_) cs (b ∷ bs) ds h k = (h.0, aligned_both Q as_ cs bs ds h.1 k)

-- and what is so of each of the second
aligned_with : {A B : Type 0} (Q : A → B → Type 0) (P : B → Type 0) (as_ : List A) (bs : List B) → Aligned Q as_ bs → All P bs →
    Aligned (λ a b. Q a b × P b) as_ bs
aligned_with Q P [] [] h k = tt
aligned_with Q P [] (b ∷ bs) h k = absurd h
aligned_with Q P (a ∷ as_) [] h k = absurd h
aligned_with Q P (a ∷ as_) (b ∷ bs) h k = ((h.0, k.0), aligned_with Q P as_ bs h.1 k.1)

aligned_map : {A B : Type 0} (Q R : A → B → Type 0) → ((a : A) (b : B) → Q a b → R a b) → (as_ : List A) (bs : List B) → Aligned
    Q as_ bs → Aligned R as_ bs
aligned_map Q R f [] [] h = tt
aligned_map Q R f [] (b ∷ bs) h = absurd h
aligned_map Q R f (a ∷ as_) [] h = absurd h
aligned_map Q R f (a ∷ as_) (b ∷ bs) h = (f a b h.0, aligned_map Q R f as_ bs h.1)

-- a body is a function, a method or a closure
abbrev IsBody : Syn → Type 0
IsBody (syn at (AnItem (FnItem name params answer block))) = Unit {0}
IsBody (syn at (AnExpression (MoveOf captures params answer body))) = Unit {0}
IsBody (syn at _) = ⊥

abbrev pub AreBodies : List ItemSyn → Type 0
AreBodies is = All (λ i. All IsBody i.bodies) is

module _ (k : rules.Known) where
  bodies_seen : (owner : Option Word) (c : rules.Count) (bs : List Syn) (s : TypingState) → Walked (λ _ t. All IsBody bs)
      (rules.body_sigs k owner c bs s)
  bodies_seen owner c [] s = walk_ends tt
  bodies_seen owner c (syn at (AnItem (FnItem name params answer block)) ∷ bs) s =
      walk (whatever {P = Unit {0}} (rules.body_sig k owner c (syn at (AnItem (FnItem name params answer block))) s) tt) λ d t _.
      walk_map (bodies_seen owner d bs t) λ _ u h. (tt, h)
  bodies_seen owner c (syn at (AnExpression (MoveOf captures params answer body)) ∷ bs) s =
      walk (whatever {P = Unit {0}} (rules.body_sig k owner c (syn at (AnExpression (MoveOf captures params answer body))) s) tt) λ d t _.
      walk_map (bodies_seen owner d bs t) λ _ u h. (tt, h)
  bodies_seen owner c (syn at _ ∷ bs) s = record { so = tt }

  pub all_bodies_seen : (c : rules.Count) (is : List ItemSyn) (s : TypingState) → Walked (λ _ t. AreBodies is) (rules.heads_collected
      k c is s)
  all_bodies_seen c [] s = walk_ends tt
  all_bodies_seen c (i ∷ is) s =
      walk (whatever {P = Unit {0}} (rules.item_head k i.item s) tt) λ _ t _. walk (bodies_seen (impl_owner i.item) c i.bodies
      t) λ d u h. walk_map (all_bodies_seen d is u) λ _ v g. (h, g)

-- the path of a body of an item
abbrev pub HasPath : Syn → Word → BodySyn → Type 0
HasPath i w (Function head) = w ≡ path_in i head.name
HasPath i w (Closure head) = w ≡ []

module _ (around : types.WrittenScope) where
  pub paths_of_bodies : (i : Syn) (bs : List Syn) → All IsBody bs → Aligned (HasPath i) (map (body_path i) bs) (bodies_text around
      bs [])
  paths_of_bodies i [] h = tt
  paths_of_bodies i (syn at (AnItem (FnItem name params answer block)) ∷ bs) h = (refl, paths_of_bodies i bs h.1)
  paths_of_bodies i (syn at (AnExpression (MoveOf captures params answer body)) ∷ bs) h = (refl, paths_of_bodies i bs h.1)
  paths_of_bodies i (syn at _ ∷ bs) h = absurd h.0

  body_first : (b : Syn) (rest others : List BodySyn) → body_text around b (rest ++ others) ≡ body_text around b rest ++ others
  body_first (syn at (AnItem (FnItem name params answer block))) rest others = refl
  body_first (syn at (AnExpression (MoveOf captures params answer body))) rest others = refl
  body_first (syn at _) rest others = refl

  bodies_first : (bs : List Syn) (rest : List BodySyn) → bodies_text around bs rest ≡ bodies_text around bs [] ++ rest
  bodies_first [] rest = refl
  bodies_first (b ∷ bs) rest =
      ap (body_text around b) (bodies_first bs rest) ∙ body_first b (bodies_text around bs []) rest

-- what is so of each function or method of an item
module _ (Fact : Syn → WrittenHead → Type 0) where
  abbrev pub IsOf : Syn → BodySyn → Type 0
  IsOf i (Function head) = Fact i head
  IsOf i (Closure head) = Unit {0}

  -- a body with its path, of some item
  abbrev pub IsListed : Word → BodySyn → Type 0
  IsListed w text = (i : Syn) × HasPath i w text × IsOf i text

  module _ (k : rules.Known) where
    abbrev pub FactsOf : ItemSyn → Type 0
    FactsOf i = All (IsOf i.item) (inner_text (all_names k (impl_owner i.item)) i.item [])

    pub all_listed : (is : List ItemSyn) → AreBodies is → TellBodies is → All FactsOf is → Aligned IsListed (body_paths is)
        (listed_text k is [])
    all_listed [] bodies tell facts = tt
    all_listed (i ∷ is) bodies tell facts =
        subst (Aligned IsListed (body_paths (i ∷ is))) (sym (bodies_first around i.bodies (listed_text k is []))) (aligned_both
        IsListed (map (body_path i.item) i.bodies) (body_paths is) (bodies_text around i.bodies []) (listed_text k is []) one
        (all_listed is bodies.1 tell.1 facts.1))
      where
        around : types.WrittenScope
        around = all_names k (impl_owner i.item)

        of_item : All (IsOf i.item) (bodies_text around i.bodies [])
        of_item = subst (λ (f : List BodySyn → List BodySyn). All (IsOf i.item) (f [])) (sym (tell.0 around)) facts.0

        one : Aligned IsListed (map (body_path i.item) i.bodies) (bodies_text around i.bodies [])
        one = aligned_map (λ w text. HasPath i.item w text × IsOf i.item text) IsListed (λ w text h. (i.item, h.0, h.1)) (map
            (body_path i.item) i.bodies) (bodies_text around i.bodies []) (aligned_with (HasPath i.item) (IsOf i.item) (map
            (body_path i.item) i.bodies) (bodies_text around i.bodies []) (paths_of_bodies around i.item i.bodies bodies.0)
            of_item)
