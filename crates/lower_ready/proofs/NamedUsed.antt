-- A body in which each reference that is made is made once, and each line uses its local well, is one in which a watch
-- that looks at calls alone sees all: the lines that borrow, those that call, and the others.
use Rattle.std.proofs.Common.{◌≡◌, ◌⊎◌, inl, inr, ℕ, zero, suc, ◌+◌, ◌==◌, ◌&&◌, not, Bool, true, false, List, [], ◌∷◌, ◌++◌, map, flat_map, Option, Some, None, slice_get, cond, if◌then◌else◌, refl, sym, ap, subst, ◌∙◌, arith}
use Rattle.std.proofs.lemmas.Bool.{false≢true, eqb-true}
use Rattle.std.proofs.lemmas.Bool.Decides.{Decides-eqb}
use Rattle.std.proofs.lemmas.List.Sums.{sum_by-cons}
use Rattle.std.proofs.lemmas.Option.{none-some, same_Some}
use Rattle.std.specs.Prelude.{find, count_by}
use Rattle.std.specs.List.{list_all}
use Rattle.std.specs.Option.{option_map_or}
use Rattle.cfg_graph.specs.declared.graph.Block.{Block}
use Rattle.cfg_graph.specs.declared.graph.Body.{Body}
use Rattle.cfg_graph.specs.declared.place.Operand.{Operand}
use Rattle.cfg_graph.specs.declared.place.Place as graph_place
use Rattle.cfg_graph.specs.declared.statement.Stmt.{Stmt}
use Rattle.cfg_graph.specs.declared.terminator.Term.{Term}
use Rattle.cfg_graph.specs.Moves.Gone.{are_first}
use Rattle.cfg_graph.specs.NamedPlaces.{same_place, reference_made, references_made, named_by}
use Rattle.cfg_graph.specs.Places.{named}
use Rattle.cfg_graph.specs.Uses.{PlaceUse, Borrows, Stores, operand_uses, stmt_uses, term_uses, stored_by_term, place_used}
use Rattle.store_model.specs.Places.Place.{Step, Place, whole_local}
use Rattle.lower_ready.proofs.NamedGraph.{MadeByOne}
use Rattle.lower_ready.proofs.NamedGraph as graph
use Rattle.lower_ready.proofs.NamedPlain.{IsDirect, whole_direct, unmade_direct}
use Rattle.lower_ready.proofs.OnceUses.{AllWhole, elsewhere, UsedWell, PassedWell, EachUsesWell, whole}
use Rattle.lower_ready.proofs.PathWatch.{as_notes, calls}

and_left : (a b : Bool) → (a && b) ≡ true → a ≡ true
and_left true b e = refl
and_left false b e = e

and_right : (a b : Bool) → (a && b) ≡ true → b ≡ true
and_right true b e = e
and_right false b e = absurd (false≢true e)

is_false : (b : Bool) → not b ≡ true → b ≡ false
is_false true e = absurd (false≢true e)
is_false false e = refl

-- ---- one of a list of which a test holds of one alone

abbrev as_one : Bool → ℕ
as_one b = cond b 1 0

module _ {X : Type 0} where
  abbrev pub Among : X → List X → Type 0
  Among y [] = ⊥
  Among y (x ∷ list) = (x ≡ y) ⊎ Among y list

  among_left : (y : X) (xs ys : List X) → Among y xs → Among y (xs ++ ys)
  among_left y [] ys i = absurd i
  among_left y (x ∷ xs) ys (inl e) = inl e
  among_left y (x ∷ xs) ys (inr i) = inr (among_left y xs ys i)

  among_right : (y : X) (xs ys : List X) → Among y ys → Among y (xs ++ ys)
  among_right y [] ys i = i
  among_right y (x ∷ xs) ys i = inr (among_right y xs ys i)

  among_either : (y : X) (xs ys : List X) → Among y (xs ++ ys) → Among y xs ⊎ Among y ys
  among_either y [] ys i = inr i
  among_either y (x ∷ xs) ys (inl e) = inl (inl e)
  among_either y (x ∷ xs) ys (inr i) = elim (among_either y xs ys i) [ inl a ↦ inl (inr a) | inr b ↦ inr b ]

  none_counted : (test : X → Bool) (list : List X) (y : X) → count_by test list ≡ 0 → Among y list → test y ≡ true → ⊥
  none_counted test [] y none i t = i
  none_counted test (x ∷ list) y none (inl e) t =
      let all : count_by test (x ∷ list) ≡ as_one (test x) + count_by test list = sum_by-cons (λ z. as_one (test z)) x list in
      let one : as_one (test x) ≡ 1 = ap as_one (ap test e ∙ t) in
      let never : ⊥ = omega (none, all, one, arith) in never
  none_counted test (x ∷ list) y none (inr i) t =
      let all : count_by test (x ∷ list) ≡ as_one (test x) + count_by test list = sum_by-cons (λ z. as_one (test z)) x list in
      let rest : count_by test list ≡ 0 = omega (none, all, arith) in none_counted test list y rest i t

  found_among : (test : X → Bool) (list : List X) (x : X) → find test list ≡ Some x → Among x list × (test x ≡ true)
  found_among test [] x e = absurd (none-some x e)
  found_among test (z ∷ list) x e = by (test z) refl e (found_among test list x)
    where
      by : (b : Bool) → test z ≡ b → cond b (Some z) (find test list) ≡ Some x →
          (find test list ≡ Some x → Among x list × (test x ≡ true)) → Among x (z ∷ list) × (test x ≡ true)
      by true t k later = let same = same_Some z x k in (inl same, subst (λ (y : X). test y ≡ true) same t)
      by false t k later = let it = later k in (inr it.0, it.1)

  -- the one that is found is that one
  only_one : (test : X → Bool) (list : List X) (x y : X) → count_by test list ≡ 1 → find test list ≡ Some x →
      Among y list → test y ≡ true → x ≡ y
  only_one test [] x y one e i t = absurd i
  only_one test (z ∷ list) x y one e i t = by (test z) refl e i (λ c k j. only_one test list x y c k j t)
    where
      all : count_by test (z ∷ list) ≡ as_one (test z) + count_by test list
      all = sum_by-cons (λ u. cond (test u) 1 0) z list

      by : (b : Bool) → test z ≡ b → cond b (Some z) (find test list) ≡ Some x → (z ≡ y) ⊎ Among y list →
          (count_by test list ≡ 1 → find test list ≡ Some x → Among y list → x ≡ y) → x ≡ y
      by true u k (inl same) later = sym (same_Some z x k) ∙ same
      by true u k (inr behind) later =
          let a = all in
          let here : as_one (test z) ≡ 1 = ap as_one u in
          let rest : count_by test list ≡ 0 = omega (one, a, here, arith) in
          absurd (none_counted test list y rest behind t)
      by false u k (inl same) later = absurd (false≢true (sym u ∙ ap test same ∙ t))
      by false u k (inr behind) later =
          let a = all in
          let here : as_one (test z) ≡ 0 = ap as_one u in
          let rest : count_by test list ≡ 1 = omega (one, a, here, arith) in
          later rest k behind

module _ {X Y : Type 0} where
  among_each : (f : X → List Y) (xs : List X) (n : ℕ) (x : X) (y : Y) → slice_get xs n ≡ Some x → Among y (f x) →
      Among y (flat_map f xs)
  among_each f [] n x y e i = absurd (none-some x e)
  among_each f (z ∷ xs) zero x y e i = among_left y (f z) (flat_map f xs) (subst (λ (u : X). Among y (f u)) (sym (same_Some z x e)) i)
  among_each f (z ∷ xs) (suc n) x y e i = among_right y (f z) (flat_map f xs) (among_each f xs n x y e i)

  -- and back
  from_each : (f : X → List Y) (xs : List X) (y : Y) → Among y (flat_map f xs) →
      (n : ℕ) × ((x : X) × ((slice_get xs n ≡ Some x) × Among y (f x)))
  from_each f [] y i = absurd i
  from_each f (z ∷ xs) y i = elim (among_either y (f z) (flat_map f xs) i) [
    | inl here ↦ (zero, (z, (refl, here)))
    | inr later ↦ let it = from_each f xs y later in (suc it.0, it.1)
  ]

-- ---- places

steps_none : (steps : List Step) → are_first steps [] ≡ true → steps ≡ []
steps_none [] e = refl
steps_none (step ∷ steps) e = absurd (false≢true e)

-- a whole local
pub whole_is : (local : ℕ) (place : graph_place.Place) → whole local place ≡ true → named place ≡ whole_local local
whole_is local place e =
    let first = and_left ((place.local == local) && are_first (named place).steps []) (are_first [] (named place).steps) e in
    (λ i. record {
      local = eqb-true place.local local (and_left (place.local == local) (are_first (named place).steps []) first) i;
      steps = steps_none (named place).steps (and_right (place.local == local) (are_first (named place).steps []) first) i;
    })

no_steps : (place : graph_place.Place) → place.steps ≡ [] → (named place).steps ≡ []
no_steps place e = ap (λ steps. map Rattle.cfg_graph.specs.Places.named_step steps) e

-- the statement that makes a reference
pub record MakingBorrow (body : Body) (local : ℕ) (place : Place) : Type 0 where
  pub n : ℕ
  pub k : ℕ
  pub block : Block
  pub to : graph_place.Place
  pub of : graph_place.Place
  pub unique : Bool
  pub there : slice_get body.blocks n ≡ Some block
  pub here : slice_get block.stmts k ≡ Some (Stmt.Borrow to unique of)
  pub is_whole : whole local to ≡ true
  pub names : named of ≡ place

module _ (body : Body) where
  making : (local : ℕ) (one : ℕ × Place) → Among one (references_made body) → (one.0 == local) ≡ true →
      MakingBorrow body local one.1
  making local one i t =
      let b = from_each (λ (block : Block). flat_map reference_made block.stmts) body.blocks one i in
      let s = from_each reference_made b.1.0.stmts one b.1.1.1 in
      of_stmt b.0 s.0 b.1.0 s.1.0 b.1.1.0 s.1.1.0 s.1.1.1
    where
      of_stmt : (n k : ℕ) (block : Block) (stmt : Stmt) → slice_get body.blocks n ≡ Some block →
          slice_get block.stmts k ≡ Some stmt → Among one (reference_made stmt) → MakingBorrow body local one.1
      of_stmt n k block (Stmt.Borrow to unique of) b s f = by (same_place (named to) (whole_local to.local)) refl f
        where
          by : (w : Bool) → same_place (named to) (whole_local to.local) ≡ w →
              Among one (if w then (to.local, named of) ∷ [] else []) → MakingBorrow body local one.1
          by false w f = absurd f
          by true w (inr f) = absurd f
          by true w (inl same) =
              let here : to.local ≡ local = ap (λ (x : ℕ × Place). x.0) same ∙ eqb-true one.0 local t in
              record {
                n = n;
                k = k;
                block = block;
                to = to;
                of = of;
                unique = unique;
                there = b;
                here = s;
                is_whole = subst (λ (l : ℕ). whole l to ≡ true) here w;
                names = ap (λ (x : ℕ × Place). x.1) same;
              }
      of_stmt n k block other b s f = absurd f

  found_one : (local : ℕ) (place : Place) → named_by local (references_made body) ≡ Some place →
      (one : ℕ × Place) × ((find (λ (x : ℕ × Place). x.0 == local) (references_made body) ≡ Some one) × (one.1 ≡ place))
  found_one local place e = by (find (λ (x : ℕ × Place). x.0 == local) (references_made body)) refl e
    where
      by : (o : Option (ℕ × Place)) → find (λ (x : ℕ × Place). x.0 == local) (references_made body) ≡ o →
          option_map_or (λ (x : ℕ × Place). Some x.1) o None ≡ Some place → (one : ℕ × Place) × ((find (λ (x : ℕ × Place).
          x.0 == local) (references_made body) ≡ Some one) × (one.1 ≡ place))
      by None f k = absurd (none-some place k)
      by (Some one) f k = (one, (f, same_Some one.1 place k))

  -- the statement of a reference that is made
  pub made_by : (local : ℕ) (place : Place) → named_by local (references_made body) ≡ Some place →
      MakingBorrow body local place
  made_by local place e =
      let o = found_one local place e in
      let f = found_among (λ (x : ℕ × Place). x.0 == local) (references_made body) o.0 o.1.0 in
      subst (MakingBorrow body local) o.1.1 (making local o.0 f.0 f.1)

  -- so it is made at all
  pub some_made : (local : ℕ) (place : Place) → named_by local (references_made body) ≡ Some place →
      count_by (λ (x : ℕ × Place). x.0 == local) (references_made body) ≡ 0 → ⊥
  some_made local place e none =
      let o = found_one local place e in
      let f = found_among (λ (x : ℕ × Place). x.0 == local) (references_made body) o.0 o.1.0 in
      none_counted (λ (x : ℕ × Place). x.0 == local) (references_made body) o.0 none f.0 f.1

  -- each borrow into the local is the one
  the_one : (local : ℕ) (place : Place) → named_by local (references_made body) ≡ Some place →
      count_by (λ (x : ℕ × Place). x.0 == local) (references_made body) ≡ 1 → (n k : ℕ) (block : Block)
      (to of : graph_place.Place) (unique : Bool) → slice_get body.blocks n ≡ Some block →
      slice_get block.stmts k ≡ Some (Stmt.Borrow to unique of) → whole local to ≡ true → named of ≡ place
  the_one local place e one n k block to of unique b s w =
      let o = found_one local place e in
      ap (λ (x : ℕ × Place). x.1) (sym (only_one (λ (x : ℕ × Place). x.0 == local) (references_made body) o.0
      (made_in local) one o.1.0 among ((Decides-eqb local local).1 refl))) ∙ o.1.1
    where
      made_in : ℕ → ℕ × Place
      made_in l = (l, named of)

      here : to.local ≡ local
      here = ap (λ (x : Place). x.local) (whole_is local to w)

      own : same_place (named to) (whole_local to.local) ≡ true
      own = subst (λ (l : ℕ). same_place (named to) (whole_local l) ≡ true) (sym here) w

      in_stmt : Among (made_in local) (reference_made (Stmt.Borrow to unique of))
      in_stmt = subst (λ (b : Bool). Among (made_in local) (if b then made_in to.local ∷ [] else [])) (sym own)
          (inl (ap made_in here))

      among : Among (made_in local) (references_made body)
      among = among_each (λ (x : Block). flat_map reference_made x.stmts) body.blocks n block (made_in local) b
          (among_each reference_made block.stmts k (Stmt.Borrow to unique of) (made_in local) s in_stmt)

  -- ---- all references that are made are made so
  module _ (all : (local : ℕ) (place : Place) → named_by local (references_made body) ≡ Some place →
      (count_by (λ (x : ℕ × Place). x.0 == local) (references_made body) ≡ 1) × EachUsesWell local body) where
    -- a place that is elsewhere than each local in which one is made leads through none
    direct_if : (place : graph_place.Place) → ((local : ℕ) (p : Place) → named_by local (references_made body) ≡ Some p →
        (place.local == local) ≡ true → IsDirect body (named place)) → IsDirect body (named place)
    direct_if place f = by (named_by place.local (references_made body)) refl
      where
        by : (o : Option Place) → named_by place.local (references_made body) ≡ o → IsDirect body (named place)
        by None e = unmade_direct body (named place) e
        by (Some p) e = f place.local p e ((Decides-eqb place.local place.local).1 refl)

    not_there : {P : Type 0} (local : ℕ) (place : graph_place.Place) → elsewhere local place ≡ true →
        (place.local == local) ≡ true → P
    not_there local place e t = absurd (false≢true (sym (ap not t) ∙ e))

    direct_elsewhere : (place : graph_place.Place) → ((local : ℕ) (p : Place) → named_by local (references_made body)
        ≡ Some p → elsewhere local place ≡ true) → IsDirect body (named place)
    direct_elsewhere place f = direct_if place (λ local p e t. not_there local place (f local p e) t)

    direct_whole : (place : graph_place.Place) → (named place).steps ≡ [] → IsDirect body (named place)
    direct_whole place e = subst (λ (steps : List Step). IsDirect body (record { local = place.local; steps = steps }))
        (sym e) (whole_direct body place.local)

    uses_direct : (uses : List (PlaceUse × graph_place.Place)) → ((local : ℕ) (p : Place) →
        named_by local (references_made body) ≡ Some p → list_all (elsewhere local) (map place_used uses) ≡ true) →
        (l : ℕ) (n : Place) → graph.AllDirect body l n (as_notes uses)
    uses_direct [] f l n = tt
    uses_direct (x ∷ uses) f l n = (
      direct_elsewhere x.1 (λ local p e. and_left (elsewhere local x.1) _ (f local p e)),
      uses_direct uses (λ local p e. and_right (elsewhere local x.1) _ (f local p e)) l n,
    )

    all_left : (test : graph_place.Place → Bool) (xs ys : List graph_place.Place) → list_all test (xs ++ ys) ≡ true →
        list_all test xs ≡ true
    all_left test [] ys h = refl
    all_left test (x ∷ xs) ys h = both (test x) _ (and_left (test x) _ h) (all_left test xs ys (and_right (test x) _ h))
      where
        both : (a b : Bool) → a ≡ true → b ≡ true → (a && b) ≡ true
        both true b e d = d
        both false b e d = e

    all_right : (test : graph_place.Place → Bool) (xs ys : List graph_place.Place) → list_all test (xs ++ ys) ≡ true →
        list_all test ys ≡ true
    all_right test [] ys h = h
    all_right test (x ∷ xs) ys h = all_right test xs ys (and_right (test x) _ h)

    module _ (L : ℕ) (place : Place) (made : named_by L (references_made body) ≡ Some place) where
      abbrev Away : List (PlaceUse × Place) → Type 0
      Away = graph.Away body L place

      abbrev AllDirect : List (PlaceUse × Place) → Type 0
      AllDirect = graph.AllDirect body L place

      uses_away : (uses : List (PlaceUse × graph_place.Place)) → list_all (elsewhere L) (map place_used uses) ≡ true →
          Away (as_notes uses)
      uses_away [] h = tt
      uses_away (x ∷ uses) h = (
        is_false (x.1.local == L) (and_left (elsewhere L x.1) _ h),
        uses_away uses (and_right (elsewhere L x.1) _ h),
      )

      stores_away : (places : List graph_place.Place) → list_all (elsewhere L) places ≡ true →
          Away (as_notes (map (λ q. (Stores, q)) places))
      stores_away [] h = tt
      stores_away (q ∷ places) h = (
        is_false (q.local == L) (and_left (elsewhere L q) _ h),
        stores_away places (and_right (elsewhere L q) _ h),
      )

      stores_direct : (places : List graph_place.Place) → ((local : ℕ) (p : Place) →
          named_by local (references_made body) ≡ Some p → list_all (elsewhere local) places ≡ true) →
          AllDirect (as_notes (map (λ q. (Stores, q)) places))
      stores_direct [] f = tt
      stores_direct (q ∷ places) f = (
        direct_elsewhere q (λ local p e. and_left (elsewhere local q) _ (f local p e)),
        stores_direct places (λ local p e. and_right (elsewhere local q) _ (f local p e)),
      )

      operands_direct : (operands : List Operand) → AllWhole operands →
          AllDirect (as_notes (flat_map operand_uses operands ++ []))
      operands_direct [] h = tt
      operands_direct (Operand.Copied q ∷ operands) h =
          (direct_whole q (no_steps q h.0), operands_direct operands h.1)
      operands_direct (Operand.Moved q ∷ operands) h =
          (direct_whole q (no_steps q h.0), operands_direct operands h.1)
      operands_direct (Operand.Number value kind ∷ operands) h = operands_direct operands h
      operands_direct (Operand.Truth value ∷ operands) h = operands_direct operands h
      operands_direct (Operand.Unit ∷ operands) h = operands_direct operands h

      abbrev LineIs : Stmt → Type 0
      LineIs stmt = (Away (as_notes (stmt_uses stmt)) ⊎ graph.TheBorrow body L place (as_notes (stmt_uses stmt)))
          × AllDirect (as_notes (stmt_uses stmt))

      plain_line : (stmt : Stmt) → ((local : ℕ) (p : Place) → named_by local (references_made body) ≡ Some p →
          list_all (elsewhere local) (map place_used (stmt_uses stmt)) ≡ true) → LineIs stmt
      plain_line stmt f = (inl (uses_away (stmt_uses stmt) (f L place made)), uses_direct (stmt_uses stmt) f L place)

      of_stmt : (stmt : Stmt) → ((local : ℕ) (p : Place) → named_by local (references_made body) ≡ Some p →
          UsedWell local stmt) → ((to of : graph_place.Place) (unique : Bool) → stmt ≡ Stmt.Borrow to unique of →
          whole L to ≡ true → named of ≡ place) → LineIs stmt
      of_stmt (Stmt.Borrow to unique of) f one = (
        line (f L place made).1,
        (
          direct_elsewhere of (λ local p e. (f local p e).0),
          (direct_if to (λ local p e t. into local (f local p e).1 t), tt),
        ),
      )
        where
          into : (local : ℕ) → (elsewhere local to ≡ true) ⊎ (whole local to ≡ true) → (to.local == local) ≡ true →
              IsDirect body (named to)
          into local (inl away) t = not_there local to away t
          into local (inr w) t = direct_whole to (ap (λ (x : Place). x.steps) (whole_is local to w))

          line : (elsewhere L to ≡ true) ⊎ (whole L to ≡ true) → Away (as_notes (stmt_uses (Stmt.Borrow to unique of)))
              ⊎ graph.TheBorrow body L place (as_notes (stmt_uses (Stmt.Borrow to unique of)))
          line (inl away) = inl (is_false (of.local == L) (f L place made).0, (is_false (to.local == L) away, tt))
          line (inr w) = inr (λ i. (Borrows, one to of unique refl w i) ∷ (Stores, whole_is L to w i) ∷ [])
      of_stmt (Stmt.Put to from) f one = plain_line (Stmt.Put to from) f
      of_stmt (Stmt.Compare to op left right) f one = plain_line (Stmt.Compare to op left right) f
      of_stmt (Stmt.Not to operand) f one = plain_line (Stmt.Not to operand) f
      of_stmt (Stmt.Tuple to parts) f one = plain_line (Stmt.Tuple to parts) f
      of_stmt (Stmt.Array to parts) f one = plain_line (Stmt.Array to parts) f
      of_stmt (Stmt.Make to adt variant parts) f one = plain_line (Stmt.Make to adt variant parts) f
      of_stmt (Stmt.Close to closure parts) f one = plain_line (Stmt.Close to closure parts) f
      of_stmt (Stmt.NewBox to operand) f one = plain_line (Stmt.NewBox to operand) f
      of_stmt (Stmt.Unsize to trait_no from) f one = plain_line (Stmt.Unsize to trait_no from) f
      of_stmt (Stmt.Touch place) f one = plain_line (Stmt.Touch place) f
      of_stmt (Stmt.Print operand) f one = plain_line (Stmt.Print operand) f
      of_stmt (Stmt.Forget operand) f one = plain_line (Stmt.Forget operand) f
      of_stmt (Stmt.Free place) f one = plain_line (Stmt.Free place) f

      abbrev TermUses : Term → Type 0
      TermUses term = (calls term ≡ false → Away (as_notes (term_uses term))) × AllDirect (as_notes (term_uses term))

      abbrev TermStores : Term → Type 0
      TermStores term = Away (as_notes (map (λ q. (Stores, q)) (stored_by_term term)))
          × AllDirect (as_notes (map (λ q. (Stores, q)) (stored_by_term term)))

      plain_term : (term : Term) → ((local : ℕ) (p : Place) → named_by local (references_made body) ≡ Some p →
          list_all (elsewhere local) (map place_used (term_uses term) ++ stored_by_term term) ≡ true) →
          TermUses term × TermStores term
      plain_term term f = (
        (
          λ c. uses_away (term_uses term) (all_left (elsewhere L) (map place_used (term_uses term))
              (stored_by_term term) (f L place made)),
          uses_direct (term_uses term) (λ local p e. all_left (elsewhere local) (map place_used (term_uses term))
              (stored_by_term term) (f local p e)) L place,
        ),
        (
          stores_away (stored_by_term term) (all_right (elsewhere L) (map place_used (term_uses term))
              (stored_by_term term) (f L place made)),
          stores_direct (stored_by_term term) (λ local p e. all_right (elsewhere local)
              (map place_used (term_uses term)) (stored_by_term term) (f local p e)),
        ),
      )

      of_term : (term : Term) → ((local : ℕ) (p : Place) → named_by local (references_made body) ≡ Some p →
          PassedWell local term) → TermUses term × TermStores term
      of_term (Term.Call to callee args next unwind) f = (
        (λ c. absurd (false≢true (sym c)), operands_direct args (f L place made).1),
        (
          (is_false (to.local == L) (f L place made).0, tt),
          (direct_elsewhere to (λ local p e. (f local p e).0), tt),
        ),
      )
      of_term (Term.Virtual to trait_no method args next unwind) f = (
        (λ c. absurd (false≢true (sym c)), operands_direct args (f L place made).1),
        (
          (is_false (to.local == L) (f L place made).0, tt),
          (direct_elsewhere to (λ local p e. (f local p e).0), tt),
        ),
      )
      of_term (Term.Goto block) f = plain_term (Term.Goto block) f
      of_term (Term.If on if_true if_false) f = plain_term (Term.If on if_true if_false) f
      of_term (Term.Case on variant if_true if_false) f = plain_term (Term.Case on variant if_true if_false) f
      of_term (Term.Math to op left right next unwind) f = plain_term (Term.Math to op left right next unwind) f
      of_term (Term.Negate to of next unwind) f = plain_term (Term.Negate to of next unwind) f
      of_term (Term.Bounds index count next unwind) f = plain_term (Term.Bounds index count next unwind) f
      of_term (Term.Ask to next unwind) f = plain_term (Term.Ask to next unwind) f
      of_term (Term.DropAt place next unwind) f = plain_term (Term.DropAt place next unwind) f
      of_term (Term.Panic why unwind) f = plain_term (Term.Panic why unwind) f
      of_term Term.Return f = plain_term Term.Return f
      of_term Term.Resume f = plain_term Term.Resume f

      pub made_by_one : MadeByOne body L place
      made_by_one = record {
        made = made;
        elsewhere = ap (λ (q : Place). q.local == L) (sym m.names) ∙ is_false (m.of.local == L) (own L place made).0;
        direct = subst (IsDirect body) m.names (direct_elsewhere m.of (λ local p e. (own local p e).0));
        statements = λ n block b k stmt s. of_stmt stmt (λ local p e. ((all local p e).1 n block b).0 k stmt s)
            (λ to of unique same w. the_one L place made (all L place made).0 n k block to of unique b
            (s ∙ ap (λ (x : Stmt). Some x) same) w);
        terminators = λ n block b c. let t = (terms n block b).0 in (t.0 c, t.1);
        passes = λ n block b c. (terms n block b).0.1;
        results = λ n block b. (terms n block b).1;
      }
        where
          m : MakingBorrow body L place
          m = made_by L place made

          own : (local : ℕ) (p : Place) → named_by local (references_made body) ≡ Some p →
              UsedWell local (Stmt.Borrow m.to m.unique m.of)
          own local p e = ((all local p e).1 m.n m.block m.there).0 m.k (Stmt.Borrow m.to m.unique m.of) m.here

          terms : (n : ℕ) (block : Block) → slice_get body.blocks n ≡ Some block →
              TermUses block.term × TermStores block.term
          terms n block b = of_term block.term (λ local p e. ((all local p e).1 n block b).1)
