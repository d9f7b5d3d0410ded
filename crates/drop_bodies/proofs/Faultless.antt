-- A body with exact drops has no fault where its raw body has none.
use Rattle.std.proofs.Common.{◌≡◌, ◌⊎◌, inl, inr, ◌∙◌, ◌∷◌, [], ◌++◌, ◌+◌, ◌&&◌, ℕ, zero, suc, nat_lt, Bool, true, false, not, List, Option, Some, Contains, length, slice_get, refl, sym, ap, arith}
use Rattle.std.specs.List.{list_all}
use Rattle.std.specs.Option.{option_map_or}
use Rattle.std.specs.Cmp.{first_so, second_so}
use Rattle.std.specs.Cmp.Derive.{both_true}
use Rattle.std.proofs.lemmas.Bool.{false≢true, ltb-true}
use Rattle.std.proofs.lemmas.Option.{none-some, same_Some, slice_get_cases}
use Rattle.mir_ty.proofs.ListLemmas.{Contains-slice_get, slice_get-Contains}
use Rattle.mir_ty.specs.declared.ty.Ty.{Ty}
use Rattle.mir_ty.specs.declared.ty.TyId.{TyId}
use Rattle.mir_ty.specs.Facts.{in_rounds}
use Rattle.mir_ty.specs.ItemTable.{ItemTable, type_at}
use Rattle.cfg_graph.specs.declared.graph.Block.{Block}
use Rattle.cfg_graph.specs.declared.graph.Body.{Body}
use Rattle.cfg_graph.specs.Edges.{onward, unwind_targets, targets, is_cleanup}
use Rattle.cfg_graph.specs.WellFormed.Cleanup.{cleans_up, are_cleanup, are_no_cleanup, is_resume, keeps_cleanup, keeps_to_cleanup}
use Rattle.cfg_graph.specs.WellFormed.LineFaults.{term_numbers_exist, locals_exist, blocks_exist, term_tests, local_tests, local_faults}
use Rattle.cfg_graph.specs.WellFormed.TypeFaults.{existing, misplacing}
use Rattle.cfg_graph.specs.WellFormed.Typing.{term_is_typed}
use Rattle.cfg_graph.specs.Uses.{places_of_term}
use Rattle.cfg_graph.proofs.NoFaults.{broken-holds}
use Rattle.drop_elaborate.proofs.StandAlone.{all-at}
use Rattle.drop_bodies.proofs.EndsKept.{OutOf}
use Rattle.drop_laws.specs.Ranked.{ranked_with}
use Rattle.drop_bodies.proofs.BodyFaults.{all-hold, NoFaultIn}
use Rattle.drop_bodies.proofs.LinesFine.{of_locals}

-- ---- lists

pub all-of : {A : Type 0} (f : A → Bool) (l : List A) → ((x : A) → Contains l x → f x ≡ true) → list_all f l ≡ true
all-of f [] h = refl
all-of f (x ∷ l) h =
    both_true (h x (Contains-slice_get (x ∷ l) 0 x refl))
    (all-of f l (λ y c. h y (Contains-slice_get (x ∷ l) (suc c.0) y (slice_get-Contains l y c))))

all-in : {A : Type 0} (f : A → Bool) (l : List A) (x : A) → list_all f l ≡ true → Contains l x → f x ≡ true
all-in f l x h c = all-at f l c.0 x h (slice_get-Contains l x c)

pub in-left : {A : Type 0} (xs ys : List A) (x : A) → Contains xs x → Contains (xs ++ ys) x
in-left xs ys x c = Contains-slice_get (xs ++ ys) c.0 x (at xs c.0 (slice_get-Contains xs x c))
  where
    at : (l : List _) (n : ℕ) → slice_get l n ≡ Some x → slice_get (l ++ ys) n ≡ Some x
    at [] n e = absurd (none-some x e)
    at (z ∷ l) zero e = e
    at (z ∷ l) (suc n) e = at l n e

pub in-right : {A : Type 0} (xs ys : List A) (x : A) → Contains ys x → Contains (xs ++ ys) x
in-right xs ys x c = by xs c.0 (slice_get-Contains ys x c)
  where
    at : (l : List _) (n : ℕ) → slice_get ys n ≡ Some x → (m : ℕ) × (slice_get (l ++ ys) m ≡ Some x)
    at [] n e = (n, e)
    at (z ∷ l) n e = let r = at l n e in (suc r.0, r.1)

    by : (l : List _) (n : ℕ) → slice_get ys n ≡ Some x → Contains (l ++ ys) x
    by l n e = let r = at l n e in Contains-slice_get (l ++ ys) r.0 x r.1

-- a block with a new rank was there before
pub ranked-back : (blocks : List Block) (ranks : List ℕ) (k : ℕ) (block : Block) →
    slice_get (ranked_with blocks ranks) k ≡ Some block →
    (was : Block) × (slice_get blocks k ≡ Some was) × ((rank : ℕ) × (record was { rank = rank } ≡ block))
ranked-back [] ranks k block e = absurd (none-some block e)
ranked-back (b ∷ blocks) [] k block e = absurd (none-some block e)
ranked-back (b ∷ blocks) (rank ∷ ranks) zero block e = (b, refl, (rank, same_Some (record b { rank = rank }) block e))
ranked-back (b ∷ blocks) (rank ∷ ranks) (suc k) block e = ranked-back blocks ranks k block e

-- of two lists, one behind the other
pub in-two : (made new : List Block) (k : ℕ) (block : Block) → slice_get (made ++ new) k ≡ Some block →
    (slice_get made k ≡ Some block) ⊎ ((i : ℕ) × (k ≡ length made + i) × (slice_get new i ≡ Some block))
in-two [] new k block e = inr (k, (let z : k ≡ 0 + k = omega arith in z), e)
in-two (b ∷ made) new zero block e = inl e
in-two (b ∷ made) new (suc k) block e = elim (in-two made new k block e) [
  | inl x ↦ inl x
  | inr x ↦ (let s = x.1 in inr (x.0, (let z : suc k ≡ suc (length made) + x.0 = omega (s, arith) in z), x.2))
]

-- ---- types

module _ (items : ItemTable) (bodies : ℕ) (id : TyId) (is : type_at items id ≡ Some Ty.Bool) where
  -- `bool` has no fault
  pub bool-fine : local_faults items bodies id ≡ []
  bool-fine = all-hold (local_tests items bodies id) (by items.types is, (not-misplaced items.types is, tt))
    where
      by : (types : List Ty) → slice_get types id.0 ≡ Some Ty.Bool → in_rounds types (existing items) (length types) id ≡ true
      by [] e = absurd (none-some Ty.Bool e)
      by (ty ∷ types) e = ap (λ (o : Option Ty). option_map_or (existing items (in_rounds (ty ∷ types) (existing items) (length types))) o false) e

      not-misplaced : (types : List Ty) → slice_get types id.0 ≡ Some Ty.Bool →
          not (in_rounds types (misplacing items) (length types) id) ≡ true
      not-misplaced [] e = absurd (none-some Ty.Bool e)
      not-misplaced (ty ∷ types) e = ap (λ (o : Option Ty). not (option_map_or (misplacing items (in_rounds (ty ∷ types) (misplacing items) (length types))) o false)) e

-- ---- what a raw body tells of its edges

module _ (items : ItemTable) (bodies number : ℕ) (body : Body) (none : NoFaultIn items bodies number body) where
  module _ (n : ℕ) (block : Block) (at : slice_get body.blocks n ≡ Some block) where
    tests : List (ℕ × Bool)
    tests = term_tests items bodies body block

    exist : blocks_exist items bodies body (targets block.term) ≡ true
    exist = second_so (term_numbers_exist items bodies block.term) (blocks_exist items bodies body (targets block.term))
        (broken-holds (term_tests items bodies body block) (none.terms n block at) 0 (
          1,
          term_numbers_exist items bodies block.term && blocks_exist items bodies body (targets block.term),
        ) refl)

    keeps : keeps_to_cleanup body block ≡ true
    keeps = broken-holds (term_tests items bodies body block) (none.terms n block at) 4 (5, keeps_to_cleanup body block) refl

    pub numbers-exist : term_numbers_exist items bodies block.term ≡ true
    numbers-exist = first_so (term_numbers_exist items bodies block.term) (blocks_exist items bodies body (targets block.term))
        (broken-holds (term_tests items bodies body block) (none.terms n block at) 0 (
          1,
          term_numbers_exist items bodies block.term && blocks_exist items bodies body (targets block.term),
        ) refl)

    pub places-exist : list_all (locals_exist items bodies (of_locals body.locals)) (places_of_term block.term) ≡ true
    places-exist = broken-holds (term_tests items bodies body block) (none.terms n block at) 1
        (2, list_all (locals_exist items bodies body) (places_of_term block.term)) refl

    pub term-typed : term_is_typed items body.locals block.term ≡ true
    term-typed = broken-holds (term_tests items bodies body block) (none.terms n block at) 2
        (3, term_is_typed items body.locals block.term) refl

    there : (m : ℕ) → Contains (targets block.term) m → (found : Block) × (slice_get body.blocks m ≡ Some found)
    there m c =
        let h = all-in (λ (n : ℕ). nat_lt n (length body.blocks)) (targets block.term) m exist c in
        elim ((slice_get_cases body.blocks m).1) [
          | inl x ↦ (x.0, x.2)
          | inr x ↦ (let l = ltb-true m (length body.blocks) h in let k = x.0 in
              absurd (let never : ⊥ = omega (arith, l, k) in never))
        ]

    pub cleans-so : is_cleanup block ≡ true → cleans_up block.term ≡ true
    cleans-so e = by (is_cleanup block) e keeps
      where
        by : (b : Bool) → b ≡ true → keeps_cleanup b body block.term ≡ true → cleans_up block.term ≡ true
        by true e k = first_so (cleans_up block.term) (are_cleanup body (targets block.term)) k
        by false e k = absurd (false≢true e)

    pub calm-so : is_cleanup block ≡ false → is_resume block.term ≡ false
    calm-so e = by (is_cleanup block) e keeps (is_resume block.term) refl
      where
        by : (b : Bool) → b ≡ false → keeps_cleanup b body block.term ≡ true → (r : Bool) → is_resume block.term ≡ r →
            is_resume block.term ≡ false
        by true e k r is = absurd (false≢true (sym e))
        by false e k false is = is
        by false e k true is =
            absurd (false≢true (ap not (sym is)
            ∙ first_so (not (is_resume block.term)) (are_no_cleanup body (onward block.term))
            (first_so (not (is_resume block.term) && are_no_cleanup body (onward block.term))
            (are_cleanup body (unwind_targets block.term)) k)))

    -- each edge leads to a block of the body, exactly unwinding to cleanup blocks
    pub out-so : (b : Bool) (m : ℕ) → OutOf (is_cleanup block) block.term b m →
        (found : Block) × (slice_get body.blocks m ≡ Some found) × (is_cleanup found ≡ b)
    out-so b m o = by (is_cleanup block) o keeps
      where
        of : (c : Bool) → c ≡ b → (found : Block) × (slice_get body.blocks m ≡ Some found) × (is_cleanup found ≡ c) →
            (found : Block) × (slice_get body.blocks m ≡ Some found) × (is_cleanup found ≡ b)
        of c e r = (r.0, r.1, r.2 ∙ e)

        yes-it : Contains (targets block.term) m → option_map_or is_cleanup (slice_get body.blocks m) true ≡ true →
            (found : Block) × (slice_get body.blocks m ≡ Some found) × (is_cleanup found ≡ true)
        yes-it c h = let f = there m c in
            (f.0, f.1, ap (λ (o : Option Block). option_map_or is_cleanup o true) (sym f.1) ∙ h)

        no-it : Contains (targets block.term) m →
            option_map_or (λ block. not (is_cleanup block)) (slice_get body.blocks m) true ≡ true →
            (found : Block) × (slice_get body.blocks m ≡ Some found) × (is_cleanup found ≡ false)
        no-it c h =
            let f = there m c in
            (f.0, f.1, turned (is_cleanup f.0) (ap (λ (o : Option Block). option_map_or (λ block. not (is_cleanup block)) o true) (sym f.1) ∙ h))
          where
            turned : (x : Bool) → not x ≡ true → x ≡ false
            turned true e = absurd (false≢true e)
            turned false e = refl

        by : (c : Bool) → OutOf c block.term b m → keeps_cleanup c body block.term ≡ true →
            (found : Block) × (slice_get body.blocks m ≡ Some found) × (is_cleanup found ≡ b)
        by true (inl x) k =
            let c = in-left (onward block.term) (unwind_targets block.term) m x.0 in
            of true (sym x.1) (yes-it c
            (all-in (λ n. option_map_or is_cleanup (slice_get body.blocks n) true) (targets block.term) m
            (second_so (cleans_up block.term) (are_cleanup body (targets block.term)) k) c))
        by true (inr x) k =
            let c = in-right (onward block.term) (unwind_targets block.term) m x.0 in
            of true (sym x.1) (yes-it c
            (all-in (λ n. option_map_or is_cleanup (slice_get body.blocks n) true) (targets block.term) m
            (second_so (cleans_up block.term) (are_cleanup body (targets block.term)) k) c))
        by false (inl x) k =
            of false (sym x.1) (no-it (in-left (onward block.term) (unwind_targets block.term) m x.0)
            (all-in (λ n. option_map_or (λ block. not (is_cleanup block)) (slice_get body.blocks n) true) (onward block.term) m
            (second_so (not (is_resume block.term)) (are_no_cleanup body (onward block.term))
            (first_so (not (is_resume block.term) && are_no_cleanup body (onward block.term))
            (are_cleanup body (unwind_targets block.term)) k)) x.0))
        by false (inr x) k =
            of true (sym x.1) (yes-it (in-right (onward block.term) (unwind_targets block.term) m x.0)
            (all-in (λ n. option_map_or is_cleanup (slice_get body.blocks n) true) (unwind_targets block.term) m
            (second_so (not (is_resume block.term) && are_no_cleanup body (onward block.term))
            (are_cleanup body (unwind_targets block.term)) k) x.0))
