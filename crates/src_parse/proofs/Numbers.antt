-- The numbers of the frames are those of the trees that they speak of.
use Rattle.std.proofs.Common.{◌≡◌, ℕ, ◌+◌, ◌≤◌, max, min, nat_le, nat_lt, ◌<◌, if◌then◌else◌, Bool, true, false, Option, Some, None, option_map, List, [], ◌∷◌, refl, sym, ap, ◌∙◌, subst, arith}
use Rattle.std.proofs.lemmas.Bool.{leb-true, ltb-true, ltb-false}
use Rattle.mir_base.specs.declared.place_in_text.Pos.{Pos}
use Rattle.src_token.specs.declared.token.Token.{Token}
use Rattle.src_tree.specs.declared.row.GrammarRow.{GrammarRow}
use Rattle.src_tree.specs.declared.place.GrammarPlace.{GrammarPlace}
use Rattle.src_tree.specs.Grammar.{GrammarRest, items, allowed, move, made, behind}
use Rattle.src_tree.specs.Layout.{SyntaxNode, node, Parts, end, tok, sub, depth, parts_depth}
use Rattle.src_tree.specs.Laws.{unplaced_parts}
use Rattle.src_tree.specs.Reading.{or_else, and_then, only_if, opens, joins, with_tok, with_sub, frame, file_place}
use Rattle.src_tree.proofs.Complete.{Held}
use Rattle.src_parse.specs.declared.depth_bound.DepthBound.{DepthBound}
use Rattle.src_parse.specs.Bounds.{bound_of, value, bound, most, limit}
use Rattle.src_parse.specs.Counting.{Counted, sat, reach_by, need_of, passes, taken, inside, began, with_node, goes_on, is_joined, act}
use Rattle.src_parse.proofs.Alive.{at_once, and_behind, alive}
use Rattle.src_parse.proofs.Depth.{total, total_behind, behind_total, below, need}
use Rattle.src_parse.proofs.Shallow.{fits, fits_formed, fits_most, total_is}
use Rattle.src_parse.proofs.Lower.{Fitted, fit_of, alive_poss}
use Rattle.src_parse.proofs.Sound.{Good}
use Rattle.src_parse.proofs.Bare.{erase, depth_unplaced_parts}

module _ {L : Type 0} where
  depth_and_tok : (ps : Parts L) (t : Token) → parts_depth (with_tok ps t) ≡ parts_depth ps
  depth_and_tok end t = refl
  depth_and_tok (tok u rest) t = depth_and_tok rest t
  depth_and_tok (sub g rest) t = ap (λ z. max (depth g) z) (depth_and_tok rest t)

  depth_and_sub : (ps : Parts L) (h : SyntaxNode L) → parts_depth (with_sub ps h) ≡ max (parts_depth ps) (depth h)
  depth_and_sub end h = omega arith
  depth_and_sub (tok u rest) h = depth_and_sub rest h
  depth_and_sub (sub g rest) h = let e = depth_and_sub rest h in omega arith

abbrev pub cap : ℕ → ℕ
cap n = min n 4294967295

-- what stands around a part of a node
abbrev pub around_by : DepthBound → ℕ → DepthBound → DepthBound
around_by b d B = bound_of (max B.floor (max b.floor (d + b.around) + B.around)) (b.around + B.around)

abbrev pub bounds : List Counted → DepthBound
bounds [] = bound_of 0 0
bounds (g ∷ S) = around_by (bound g.place (behind g.rest GrammarRow.File)) (parts_depth g.parts) (bounds S)

abbrev pub needed : Counted → List Counted → ℕ
needed f S = (around_by (bound f.place f.rest) (parts_depth f.parts) (bounds S)).floor

-- the numbers of the frames
abbrev pub Holds : List Counted → Type 0
Holds [] = Unit {0}
Holds (f ∷ S) = (f.deepest ≡ cap (parts_depth f.parts)) × (f.floor ≡ cap (bounds S).floor) × (f.around ≡ cap (bounds S).around) × Holds S

reached_floor : (b : DepthBound) (d F R x y z : ℕ) → x ≡ cap d → y ≡ cap F → z ≡ cap R → max y (sat (max b.floor (sat x b.around)) z) ≡ cap (max F (max b.floor (d + b.around) + R))
reached_floor b d F R x y z e f g = omega arith

pub need_counted : (f : Counted) (S : List Counted) → Holds (f ∷ S) → need_of f ≡ cap (needed f S)
need_counted f S h = reached_floor (bound f.place f.rest) (parts_depth f.parts) (bounds S).floor (bounds S).around f.deepest f.floor f.around h.0 h.1 h.2

abbrev pub HoldsIf : Option (List Counted) → Type 0
HoldsIf None = Unit {0}
HoldsIf (Some S) = Holds S

or_holds : (a b : Option (List Counted)) → HoldsIf a → HoldsIf b → HoldsIf (or_else a b)
or_holds None b h k = k
or_holds (Some x) b h k = h

goes_holds : (f : Counted) (S : List Counted) (t : Token) (at : Pos) → Holds (f ∷ S) → HoldsIf (goes_on f S t at)
goes_holds f S t at h = go (move f.rest t) (opens f.place.head f.rest t)
  where
    go : (m : Option GrammarRest) (o : Option (GrammarPlace × GrammarRest)) → HoldsIf (or_else (option_map (λ q. taken f q t ∷ S) m) (option_map (λ e. inside f e.0 e.1 at t ∷ f ∷ S) o))
    go (Some q) o = (h.0 ∙ ap cap (sym (depth_and_tok f.parts t)), h.1, h.2, h.3)
    go None (Some e) =
        let b = bound f.place (behind f.rest GrammarRow.File) in
        let r = h.2 in (
          omega arith,
          reached_floor b (parts_depth f.parts) (bounds S).floor (bounds S).around f.deepest f.floor f.around h.0 h.1 h.2,
          omega arith,
          h,
        )
    go None None = tt

joined_holds : (f : Counted) (S : List Counted) (t : Token) (r : GrammarRow) → Holds (f ∷ S) → HoldsIf (is_joined f S t r)
joined_holds f S t r h = go (joins f.place r t)
  where
    go : (o : Option GrammarRest) → HoldsIf (option_map (λ q. began f r q t ∷ S) o)
    go None = tt
    go (Some q) = let d = h.0 in (omega arith, h.1, h.2, h.3)

pub node_holds : (g f : Counted) (S : List Counted) (r : GrammarRow) → Holds (f ∷ g ∷ S) → Holds (with_node g f r ∷ S)
node_holds g f S r h =
    let d = h.0 in
    let e = h.3.0 in
    let s = depth_and_sub g.parts (node f.at r f.parts) in
    (omega arith, h.3.1, h.3.2, h.3.3)

pub act_holds : (S : List Counted) (f : Counted) (t : Token) (at : Pos) → Holds (f ∷ S) → HoldsIf (act S f t at)
act_holds [] f t at h = or_holds (goes_on f [] t at) (and_then (made f.rest) (λ r. is_joined f [] t r)) (goes_holds f [] t at h) (go (made f.rest))
  where
    go : (m : Option GrammarRow) → HoldsIf (and_then m (λ r. is_joined f [] t r))
    go None = tt
    go (Some r) = joined_holds f [] t r h
act_holds (g ∷ S) f t at h =
    or_holds (goes_on f (g ∷ S) t at) (and_then (made f.rest) (λ r. or_else (is_joined f (g ∷ S) t r) (only_if (allowed f.place r) (act S (with_node g f r) t at)))) (goes_holds f (g ∷ S) t at h)
    (go (made f.rest) (λ r. act_holds S (with_node g f r) t at))
  where
    only : (r : GrammarRow) → (Holds (with_node g f r ∷ S) → HoldsIf (act S (with_node g f r) t at)) → (a : Bool) → HoldsIf (only_if a (act S (with_node g f r) t at))
    only r ih true = ih (node_holds g f S r h)
    only r ih false = tt

    go : (m : Option GrammarRow) → ((r : GrammarRow) → Holds (with_node g f r ∷ S) → HoldsIf (act S (with_node g f r) t at)) → HoldsIf (and_then m (λ r. or_else (is_joined f (g ∷ S) t r) (only_if (allowed f.place r) (act S (with_node g f r) t at))))
    go None ih = tt
    go (Some r) ih = or_holds (is_joined f (g ∷ S) t r) (only_if (allowed f.place r) (act S (with_node g f r) t at)) (joined_holds f (g ∷ S) t r h) (only r (ih r) (allowed f.place r))

-- They are the least depths.

file_total : (c : GrammarPlace) (q : GrammarRest) (d : ℕ) → c ≡ file_place → q ≡ items → (total c q d ≡ d) × (total_behind c q d ≡ d) × (value (bound c q) d ≡ d) × (value (bound c (behind q GrammarRow.File)) d ≡ d)
file_total c q d e f =
    subst (λ z. (total z q d ≡ d) × (total_behind z q d ≡ d) × (value (bound z q) d ≡ d) × (value (bound z (behind q GrammarRow.File)) d ≡ d)) (sym e)
    (subst (λ z. (total file_place z d ≡ d) × (total_behind file_place z d ≡ d) × (value (bound file_place z) d ≡ d) × (value (bound file_place (behind z GrammarRow.File)) d ≡ d)) (sym f)
    (omega arith, omega arith, omega arith, omega arith))

value_two : (b B : DepthBound) (d n x : ℕ) → x ≡ value b (max d n) → value B x ≡ value (around_by b d B) n
value_two b B d n x e = omega arith

pub below_is : (g : Counted) (S : List Counted) (c : GrammarPlace) (q : GrammarRest) (d : Held) (n : ℕ) → Good (frame c q tt d ∷ erase (g ∷ S)) → Fitted (frame c q tt d ∷ erase (g ∷ S)) → below (erase (g ∷ S)) n ≡ value (bounds (g ∷ S)) n
below_is g [] c q d n gd ft =
    let u = depth_unplaced_parts g.parts in
    let m = max (parts_depth (unplaced_parts g.parts)) n in
    let h = file_total g.place g.rest m gd.4.0 gd.4.1 in
    let b = bound g.place (behind g.rest GrammarRow.File) in
    let a = h.1 in
    let k = h.3 in omega arith
below_is g (h ∷ S) c q d n gd ft =
    let u = depth_unplaced_parts g.parts in
    let m = max (parts_depth (unplaced_parts g.parts)) n in
    let (p, due_, same) = gd.1 in
    let e = behind_total g.place g.rest p GrammarRow.File m due_ (fit_of g.place g.rest (unplaced_parts g.parts) (erase (h ∷ S)) gd.4 ft.1) in
    let f = at_once (fits g.place) (behind g.rest GrammarRow.File) (and_behind (fits g.place) g.rest p GrammarRow.File ft.1.0 due_) in
    let k = alive_poss g.place (behind g.rest GrammarRow.File) (and_behind (alive g.place) g.rest p GrammarRow.File gd.4.3 due_) in
    let t = total_is g.place (behind g.rest GrammarRow.File) m (fits_formed g.place (behind g.rest GrammarRow.File) f) k in
    let x : total_behind g.place g.rest m ≡ value (bound g.place (behind g.rest GrammarRow.File)) (max (parts_depth g.parts) n) = sym e ∙ t ∙ ap (λ z. value (bound g.place (behind g.rest GrammarRow.File)) (max z n)) u in
    below_is h S g.place g.rest (unplaced_parts g.parts) (total_behind g.place g.rest m) gd.4 ft.1
    ∙ value_two (bound g.place (behind g.rest GrammarRow.File)) (bounds (h ∷ S)) (parts_depth g.parts) n (total_behind g.place g.rest m) x

pub need_is : (f : Counted) (S : List Counted) → Good (erase (f ∷ S)) → Fitted (erase (f ∷ S)) → need (erase (f ∷ S)) ≡ needed f S
need_is f [] gd ft =
    let u = depth_unplaced_parts f.parts in
    let h = file_total f.place f.rest (parts_depth (unplaced_parts f.parts)) gd.0 gd.1 in
    let a = h.0 in
    let k = h.2 in omega arith
need_is f (g ∷ S) gd ft =
    let u = depth_unplaced_parts f.parts in
    let b = below_is g S f.place f.rest (unplaced_parts f.parts) (total f.place f.rest (parts_depth (unplaced_parts f.parts))) gd ft in
    let k = at_once (fits f.place) f.rest ft.0 in
    let t = total_is f.place f.rest (parts_depth (unplaced_parts f.parts)) (fits_formed f.place f.rest k) (alive_poss f.place f.rest gd.3) in
    b ∙ ap (λ z. value (bounds (g ∷ S)) z) t ∙ summed (bound f.place f.rest) (bounds (g ∷ S)) (parts_depth (unplaced_parts f.parts)) (parts_depth f.parts) u
  where
    summed : (b B : DepthBound) (d e : ℕ) → d ≡ e → value B (value b d) ≡ (around_by b e B).floor
    summed b B d e h = omega arith

-- What the test of the limit tells.

small : (f : Counted) (S : List Counted) → Good (erase (f ∷ S)) → Fitted (erase (f ∷ S)) → ((bound f.place f.rest).floor ≤ 3) × ((bound f.place f.rest).around ≤ 2)
small f [] gd ft =
    subst (λ z. ((bound z f.rest).floor ≤ 3) × ((bound z f.rest).around ≤ 2)) (sym gd.0)
    (subst (λ z. ((bound file_place z).floor ≤ 3) × ((bound file_place z).around ≤ 2)) (sym gd.1) (omega arith, omega arith))
small f (g ∷ S) gd ft = fits_most f.place f.rest (at_once (fits f.place) f.rest ft.0)

by_test : (a : Bool) (n : ℕ) → (if a then false else nat_lt limit n) ≡ false → (a ≡ true → n ≤ limit) → n ≤ limit
by_test true n e f = f refl
by_test false n e f = let h = ltb-false limit n e in omega arith

pub stays_within : (f : Counted) (S : List Counted) → Good (erase (f ∷ S)) → Fitted (erase (f ∷ S)) → passes f ≡ false → need_of f ≤ limit
stays_within f S gd ft e =
    by_test (nat_le (reach_by f most).floor limit) (need_of f) e
    (λ t. let s = small f S gd ft in let a = s.0 in let b = s.1 in let l = leb-true (reach_by f most).floor limit t in omega arith)

pub goes_past : (f : Counted) → passes f ≡ true → limit < need_of f
goes_past f e = go (nat_le (reach_by f most).floor limit) e
  where
    go : (a : Bool) → (if a then false else nat_lt limit (need_of f)) ≡ true → limit < need_of f
    go true e = absurd (cc)
    go false e = ltb-true limit (need_of f) e
