-- A node that ends as one row alone has the bound of that row.
use Rattle.std.proofs.Common.{◌≡◌, ℕ, zero, suc, ◌<◌, Bool, true, false, ◌&&◌, not, eqb, ltb, List, [], ◌∷◌, Option, Some, None, slice_get, refl, sym, ap, ◌∙◌}
use Rattle.std.specs.List.{list_all}
use Rattle.std.specs.Prelude.{IfSome, nat_le}
use Rattle.std.proofs.lemmas.Bool.{and_parts, eqb-true, ltb-true}
use Rattle.src_tree.specs.declared.place.GrammarPart.{GrammarPart}
use Rattle.src_tree.specs.declared.place.GrammarPlace.{GrammarPlace}
use Rattle.src_tree.specs.declared.place.Start.{Start}
use Rattle.src_tree.specs.declared.row.GrammarRow.{GrammarRow}
use Rattle.src_tree.specs.declared.row.Sort.{Sort}
use Rattle.src_tree.specs.Grammar.{GrammarRest, ends, token, either, part, maybe, list, more, many, items, alternatives, statements, arms, arm_body, after_break, allowed, belongs, level, may_be, place_of, counts}
use Rattle.src_tree.specs.Table.{or_end, rests, rest_at}
use Rattle.src_parse.specs.declared.endings.TheConstants.{ENDINGS}
use Rattle.src_parse.specs.Bounds.{Alike, EndsAs, plain_bound, bound, bound_of, ended, ended_by, lesser, with_part, least_place, arms_floor}

-- where that row may stand
stands : (c : GrammarPlace) (r x : GrammarRow) (f a : ℕ) → Alike r x → allowed c x ≡ true → ended c r f a ≡ bound_of f a
stands c r x f a same may = ap (λ z. ended_by z c.start f a) (same c ∙ may)

least_part : (h : Bool) (p : GrammarPart) → least_place (place_of h p) ≡ least_place (place_of false p)
least_part h (GrammarPart.At c) = refl
least_part h (GrammarPart.Operand least) = refl
least_part true GrammarPart.AfterBreak = refl
least_part false GrammarPart.AfterBreak = refl
least_part true GrammarPart.AfterReturn = refl
least_part false GrammarPart.AfterReturn = refl

pub plain : (c : GrammarPlace) (x : GrammarRow) (q : GrammarRest) → EndsAs x q → allowed c x ≡ true → bound c q ≡ plain_bound q
plain c x (ends r) e may = stands c r x 0 (counts r) e may
plain c x (token k after) e may = plain c x after e may
plain c x (either k after other) e may =
    ap (λ z. lesser z (bound c other)) (plain c x after e.0 may) ∙ ap (λ z. lesser (plain_bound after) z) (plain c x other e.1 may)
plain c x (part p after) e may =
    ap (λ z. with_part z (bound c after)) (least_part c.head p) ∙ ap (λ z. with_part (least_place (place_of false p)) z) (plain c x after e may)
plain c x (maybe p after r) e may = stands c r x 0 (counts r) e may
plain c x (list p later dots close after) e may = plain c x after e may
plain c x (more p dots close after) e may = plain c x after e may
plain c x (many p close after) e may = plain c x after e may
plain c x items e may = stands c GrammarRow.File x 0 0 e may
plain c x alternatives e may = stands c GrammarRow.OrPattern x 0 1 e may
plain c x (statements o) e may = stands c GrammarRow.Block x 0 1 e may
plain c x (arms o) e may = stands c GrammarRow.Match x (arms_floor o) 1 e may
plain c x arm_body e may = stands c GrammarRow.Arm x 2 1 e may
plain c x after_break e may = stands c GrammarRow.Break x 0 1 e may

-- a row by where it may stand
abbrev sorts : List Sort
sorts = Sort.File ∷ Sort.Item ∷ Sort.Method ∷ Sort.Head ∷ Sort.Field ∷ Sort.Variant ∷ Sort.Name ∷
    Sort.Type_ ∷ Sort.Pattern ∷ Sort.FieldPattern ∷ Sort.Expr ∷ Sort.FieldInit ∷ Sort.Label ∷ []

abbrev starts : List Start
starts = Start.Anything ∷ Start.Statement ∷ Start.NextStatement ∷ Start.Value ∷ Start.NotBlocklike ∷ Start.ArmBody ∷
    Start.NotBlock ∷ Start.Jump ∷ Start.JumpInHead ∷ Start.OnlyLabel ∷
    Start.OnlyBlock ∷ Start.BlockOrIf ∷ Start.IsArm ∷ Start.IsParam ∷ []

abbrev same : Bool → Bool → Bool
same true x = x
same false x = not x

same_is : (x y : Bool) → same x y ≡ true → x ≡ y
same_is true true h = refl
same_is false false h = refl
same_is true false h = cc
same_is false true h = cc

abbrev alike : GrammarRow → GrammarRow → Bool
alike r x =
    list_all (λ s. same (belongs s r) (belongs s x)) sorts
    && (list_all (λ s. same (may_be s r) (may_be s x)) starts && eqb (level r) (level x))

within : {X : Type 0} (f : X → Bool) (xs : List X) (i : ℕ) (x : X) → list_all f xs ≡ true → slice_get xs i ≡ Some x → f x ≡ true
within f [] zero x all is = cc
within f [] (suc i) x all is = cc
within f (y ∷ xs) zero x all is = let h : y ≡ x = cc in ap f (sym h) ∙ (and_parts (f y) _ all).0
within f (y ∷ xs) (suc i) x all is = within f xs i x (and_parts (f y) _ all).1 is

sort_number_in : Sort → ℕ
sort_number_in Sort.File = 0
sort_number_in Sort.Item = 1
sort_number_in Sort.Method = 2
sort_number_in Sort.Head = 3
sort_number_in Sort.Field = 4
sort_number_in Sort.Variant = 5
sort_number_in Sort.Name = 6
sort_number_in Sort.Type_ = 7
sort_number_in Sort.Pattern = 8
sort_number_in Sort.FieldPattern = 9
sort_number_in Sort.Expr = 10
sort_number_in Sort.FieldInit = 11
sort_number_in Sort.Label = 12

sort_in : (s : Sort) → slice_get sorts (sort_number_in s) ≡ Some s
unfolding sort_number_in
sort_in Sort.File = refl
sort_in other = refl

start_number_in : Start → ℕ
start_number_in Start.Anything = 0
start_number_in Start.Statement = 1
start_number_in Start.NextStatement = 2
start_number_in Start.Value = 3
start_number_in Start.NotBlocklike = 4
start_number_in Start.ArmBody = 5
start_number_in Start.NotBlock = 6
start_number_in Start.Jump = 7
start_number_in Start.JumpInHead = 8
start_number_in Start.OnlyLabel = 9
start_number_in Start.OnlyBlock = 10
start_number_in Start.BlockOrIf = 11
start_number_in Start.IsArm = 12
start_number_in Start.IsParam = 13

start_in : (s : Start) → slice_get starts (start_number_in s) ≡ Some s
unfolding start_number_in
start_in Start.Anything = refl
start_in other = refl

alike_is : (r x : GrammarRow) → alike r x ≡ true → Alike r x
alike_is r x h c =
    let (first, others) = and_parts (list_all (λ s. same (belongs s r) (belongs s x)) sorts) _ h in
    let (second, third) = and_parts (list_all (λ s. same (may_be s r) (may_be s x)) starts) _ others in
    let belonging = same_is (belongs c.sort r) (belongs c.sort x) (within (λ s. same (belongs s r) (belongs s x)) sorts (sort_number_in c.sort) c.sort first (sort_in c.sort)) in
    let being = same_is (may_be c.start r) (may_be c.start x) (within (λ s. same (may_be s r) (may_be s x)) starts (start_number_in c.start) c.start second (start_in c.start)) in
    let levels = eqb-true (level r) (level x) third in
    ap (λ z. z && (nat_le c.least (level r) && may_be c.start r)) belonging
    ∙ ap (λ z. belongs c.sort x && (nat_le c.least z && may_be c.start r)) levels
    ∙ ap (λ z. belongs c.sort x && (nat_le c.least (level x) && z)) being

abbrev ends_as : GrammarRow → GrammarRest → Bool
ends_as x (ends r) = alike r x
ends_as x (token k after) = ends_as x after
ends_as x (either k after other) = ends_as x after && ends_as x other
ends_as x (part p after) = ends_as x after
ends_as x (maybe p after r) = alike r x
ends_as x (list p later dots close after) = ends_as x after
ends_as x (more p dots close after) = ends_as x after
ends_as x (many p close after) = ends_as x after
ends_as x items = alike GrammarRow.File x
ends_as x alternatives = alike GrammarRow.OrPattern x
ends_as x (statements o) = alike GrammarRow.Block x
ends_as x (arms o) = alike GrammarRow.Match x
ends_as x arm_body = alike GrammarRow.Arm x
ends_as x after_break = alike GrammarRow.Break x

ends_as_is : (x : GrammarRow) (q : GrammarRest) → ends_as x q ≡ true → EndsAs x q
ends_as_is x (ends r) h = alike_is r x h
ends_as_is x (token k after) h = ends_as_is x after h
ends_as_is x (either k after other) h =
    let both = and_parts (ends_as x after) _ h in (ends_as_is x after both.0, ends_as_is x other both.1)
ends_as_is x (part p after) h = ends_as_is x after h
ends_as_is x (maybe p after r) h = alike_is r x h
ends_as_is x (list p later dots close after) h = ends_as_is x after h
ends_as_is x (more p dots close after) h = ends_as_is x after h
ends_as_is x (many p close after) h = ends_as_is x after h
ends_as_is x items h = alike_is GrammarRow.File x h
ends_as_is x alternatives h = alike_is GrammarRow.OrPattern x h
ends_as_is x (statements o) h = alike_is GrammarRow.Block x h
ends_as_is x (arms o) h = alike_is GrammarRow.Match x h
ends_as_is x arm_body h = alike_is GrammarRow.Arm x h
ends_as_is x after_break h = alike_is GrammarRow.Break x h

-- what the table says of a step
abbrev Told : GrammarRow × ℕ × ℕ → GrammarRest → Type 0
Told e q = EndsAs e.0 q × (plain_bound q ≡ bound_of e.1 e.2)

abbrev told : Option (GrammarRow × ℕ × ℕ) → GrammarRest → Bool
told None q = true
told (Some e) q =
    ends_as e.0 q && (eqb (plain_bound q).floor e.1 && (eqb (plain_bound q).around e.2 && ltb e.2 66))

abbrev all_told : List (Option (GrammarRow × ℕ × ℕ)) → List GrammarRest → Bool
all_told [] qs = true
all_told (o ∷ os) [] = false
all_told (o ∷ os) (q ∷ qs) = told o q && all_told os qs

-- computed, step by step
table_told : all_told ENDINGS rests ≡ true
unfolding rests
table_told = refl

told_of : (os : List (Option (GrammarRow × ℕ × ℕ))) (qs : List GrammarRest) (i : ℕ) (e : GrammarRow × ℕ × ℕ) → all_told os qs ≡ true
    → slice_get os i ≡ Some (Some e) → told (Some e) (or_end (slice_get qs i)) ≡ true
told_of [] qs zero e all is = cc
told_of [] qs (suc i) e all is = cc
told_of (o ∷ os) [] i e all is = cc
told_of (o ∷ os) (q ∷ qs) zero e all is = let h : o ≡ Some e = cc in ap (λ z. told z q) (sym h) ∙ (and_parts (told o q) _ all).0
told_of (o ∷ os) (q ∷ qs) (suc i) e all is = told_of os qs i e (and_parts (told o q) _ all).1 is

told_at : (i : ℕ) (e : GrammarRow × ℕ × ℕ) → slice_get ENDINGS i ≡ Some (Some e) → told (Some e) (rest_at i) ≡ true
unfolding rest_at
told_at i e is = told_of ENDINGS rests i e table_told is

pub ending_there : (i : ℕ) (e : GrammarRow × ℕ × ℕ) → slice_get ENDINGS i ≡ Some (Some e) → Told e (rest_at i)
ending_there i e is =
    let q = rest_at i in
    let first = and_parts (ends_as e.0 q) _ (told_at i e is) in
    let second = and_parts (eqb (plain_bound q).floor e.1) _ first.1 in
    let third = and_parts (eqb (plain_bound q).around e.2) _ second.1 in (
      ends_as_is e.0 q first.0,
      ap (λ z. bound_of z (plain_bound q).around) (eqb-true _ e.1 second.0) ∙ ap (λ z. bound_of e.1 z) (eqb-true _ e.2 third.0),
    )

pub ending_small : (i : ℕ) (o : Option (GrammarRow × ℕ × ℕ)) → slice_get ENDINGS i ≡ Some o → IfSome o (λ e. e.2 < 66)
ending_small i None is = tt
ending_small i (Some e) is =
    let q = rest_at i in
    let first = and_parts (ends_as e.0 q) _ (told_at i e is) in
    let second = and_parts (eqb (plain_bound q).floor e.1) _ first.1 in
    let third = and_parts (eqb (plain_bound q).around e.2) _ second.1 in ltb-true e.2 66 third.1
