-- Each state that was reached comes to an end on some tokens, by a tree no deeper than the state needs.
use Rattle.std.proofs.Common.{◌≡◌, ℕ, ◌+◌, ◌≤◌, max, nat_le, Bool, true, false, ◌&&◌, ◌||◌, Option, Some, None, option_map, List, [], ◌∷◌, ◌++◌, refl, sym, ap, ◌∙◌, subst, arith}
use Rattle.std.proofs.lemmas.Bool.{and_parts, leb-true}
use Rattle.src_token.specs.declared.token.Token.{Token}
use Rattle.src_tree.specs.declared.row.GrammarRow.{GrammarRow}
use Rattle.src_tree.specs.declared.place.GrammarPlace.{GrammarPlace}
use Rattle.src_tree.specs.declared.place.GrammarPart.{GrammarPart}
use Rattle.src_tree.specs.declared.place.Start.{Start}
use Rattle.src_tree.specs.Grammar.{seen, allowed, may_begin, place_of, counts, GrammarRest, due, behind, made, Joined, joined}
use Rattle.src_tree.specs.Layout.{node, tok, sub, end, spell_parts, depth, parts_depth, Levelled, Begun, Follows}
use Rattle.src_tree.specs.Reading.{and_then, with_sub, frame, whole}
use Rattle.src_tree.proofs.Samples.{every}
use Rattle.src_tree.proofs.Follow.{ok, places, is_known, same_place}
use Rattle.src_tree.proofs.Facts.{here_of, good_part, joins_as, join_rows, same_places}
use Rattle.src_tree.proofs.Complete.{Tree, Held, Stack, run, and_parts_of, Stands, handed, standing, by_join, reads_rest}
use Rattle.src_parse.proofs.Alive.{leaves, way_row, way, way_follows, ender, joinable, joinable_by, at_once}
use Rattle.src_parse.proofs.Depth.{by_start, settle_by, settle, poss, total, total_behind, total_up, total_behind_mono, behind_total, below, need}
use Rattle.src_parse.proofs.Shallow.{fits, fits_formed, fits_shallow, low_row, low_way, low_follows, low_possible, low_depth}
use Rattle.src_parse.proofs.Lower.{Fitted, fit_of, fitted_on, alive_poss, below_mono, depth_with_sub}
use Rattle.src_parse.proofs.Sound.{Good, ok_good, placed, known_place}
use Rattle.src_parse.proofs.Finish.{run_append}

-- tokens by which a state comes to an end, by a tree of such a depth at most
abbrev pub EndsWithin : Stack → ℕ → Type 0
EndsWithin s n = (ts : List Token) × (g : Tree) × (and_then (run ts (Some s)) (λ z. whole z) ≡ Some g) × (depth g ≤ n)

-- a state that stands where a fitted frame does
abbrev Ready : Stack → Type 0
Ready S = (c : GrammarPlace) (q : GrammarRest) (d : Held) (s : Stack) → Good (frame c q tt d ∷ S) → Fitted (frame c q tt d ∷ S) → Stands s c q d S → EndsWithin s (need (frame c q tt d ∷ S))

ends_by : (ts : List Token) (s s1 : Stack) (n m : ℕ) → run ts (Some s) ≡ Some s1 → n ≤ m → EndsWithin s1 n → EndsWithin s m
ends_by ts s s1 n m e h (us, g, r, l) = (ts ++ us, g, ap (λ o. and_then o (λ z. whole z)) (run_append ts us (Some s) ∙ ap (run us) e) ∙ r, omega arith)

and_depth : (d ps : Held) → parts_depth (and_parts_of d ps) ≡ max (parts_depth d) (parts_depth ps)
and_depth end ps = omega arith
and_depth (tok t rest) ps = and_depth rest ps
and_depth (sub g rest) ps = let h = and_depth rest ps in omega arith

-- a node of this depth is handed on
pub handed_depth : (c0 : GrammarPlace) (q0 : GrammarRest) (d0 : Held) (S : Stack) (p : GrammarPart) (r : GrammarRow) (g : Tree) (n : ℕ) → due q0 ≡ Some p → Good (frame c0 q0 tt d0 ∷ S) → Fitted (frame c0 q0 tt d0 ∷ S) → depth g ≤ n
    → need (frame c0 (behind q0 r) tt (with_sub d0 g) ∷ S) ≤ below (frame c0 q0 tt d0 ∷ S) n
handed_depth c0 q0 d0 S p r g n e gd f h =
    let k = fit_of c0 q0 d0 S gd f in
    let m = max (parts_depth d0) n in
    let b = behind_total c0 q0 p r (parts_depth (with_sub d0 g)) e k in
    let w = depth_with_sub d0 g in
    let l = total_behind_mono c0 q0 p (parts_depth (with_sub d0 g)) m e k (omega arith) in
    below_mono S c0 q0 d0 (total c0 (behind q0 r) (parts_depth (with_sub d0 g))) (total_behind c0 q0 m) gd f (omega arith)

-- a node that is complete and may stand there
up : (c0 : GrammarPlace) (q0 : GrammarRest) (d0 : Held) (S : Stack) → Ready S → (c : GrammarPlace) (p : GrammarPart) → due q0 ≡ Some p → place_of c0.head p ≡ c → Good (frame c0 q0 tt d0 ∷ S) → Fitted (frame c0 q0 tt d0 ∷ S)
    → (s : Stack) (q : GrammarRest) (d : Held) (r : GrammarRow) (n : ℕ) → Stands s c q d (frame c0 q0 tt d0 ∷ S) → made q ≡ Some r → ok c.head q ≡ true → allowed c r ≡ true → Begun (seen c) r d
    → counts r + parts_depth d ≤ n → EndsWithin s (below (frame c0 q0 tt d0 ∷ S) n)
up c0 q0 d0 S ih c p e x g f s q d r n st m k a b h =
    ends_by [] s s (need (frame c0 (behind q0 r) tt (with_sub d0 (node tt r d)) ∷ S)) (below (frame c0 q0 tt d0 ∷ S) n) refl
    (handed_depth c0 q0 d0 S p r (node tt r d) n e g f h)
    (ih c0 (behind q0 r) (with_sub d0 (node tt r d)) s (placed c c0 q0 d0 S (node tt r d) (p, e, x) (a, b) g)
    (fitted_on c0 q0 d0 (with_sub d0 (node tt r d)) S p r e f)
    (handed s S c0 q0 d0 p q d r (ok_good c0 q0 d0 S g) e
    (subst (λ z. Stands s z q d (frame c0 q0 tt d0 ∷ S)) (sym x) st) m (subst (λ z. ok z.head q ≡ true) (sym x) k) (subst (λ z. allowed z r ≡ true) (sym x) a)))

-- What makes a parameter or an arm of a node is as little deep as it is counted.

abbrev light : Start → GrammarRest → Held → Bool
light Start.IsParam q ps = nat_le (counts (way_row q)) 0 && nat_le (parts_depth ps) 1
light Start.IsArm q ps = nat_le (counts (way_row q)) 1 && nat_le (parts_depth ps) 1
light _ q ps = true

abbrev light_joined : GrammarPlace → Option Joined → Bool
light_joined c None = true
light_joined c (Some j) = light c.start j.rest (way c.head j.rest)

abbrev light_end : GrammarPlace → Option Token → Bool
light_end c None = true
light_end c (Some t) = light_joined c (joined (seen c) t)

abbrev light_place : GrammarPlace → Bool
light_place c = light_end c (ender c.start)

places_light : every light_place places ≡ true
places_light = refl

known_light : (ds : List GrammarPlace) (c : GrammarPlace) → every light_place ds ≡ true → is_known ds c ≡ true → light_place c ≡ true
known_light [] c g k = absurd (cc)
known_light (d ∷ ds) c g k = let p = and_parts (light_place d) (every light_place ds) g in go (known_light ds c p.1) p.0 (same_place d c) refl
  where
    go : (is_known ds c ≡ true → light_place c ≡ true) → light_place d ≡ true → (b : Bool) → same_place d c ≡ b → light_place c ≡ true
    go ih x true e = ap light_place (sym (same_places d c e)) ∙ x
    go ih x false e = ih (subst (λ b. (b || is_known ds c) ≡ true) e k)

as_light : (s : Start) (t : Token) (q : GrammarRest) (ps : Held) (n : ℕ) → ender s ≡ Some t → light s q ps ≡ true → counts (way_row q) + max n (parts_depth ps) ≤ by_start s n
as_light Start.IsParam t q ps n e h = let p = and_parts (nat_le (counts (way_row q)) 0) (nat_le (parts_depth ps) 1) h in let a = leb-true (counts (way_row q)) 0 p.0 in let b = leb-true (parts_depth ps) 1 p.1 in omega arith
as_light Start.IsArm t q ps n e h = let p = and_parts (nat_le (counts (way_row q)) 1) (nat_le (parts_depth ps) 1) h in let a = leb-true (counts (way_row q)) 1 p.0 in let b = leb-true (parts_depth ps) 1 p.1 in omega arith
as_light _ t q ps n e h = absurd (cc)

-- a node that is complete, and the first part of one that may stand there
up_joined : (c0 : GrammarPlace) (q0 : GrammarRest) (d0 : Held) (S : Stack) → Ready S → (c : GrammarPlace) (p : GrammarPart) → due q0 ≡ Some p → place_of c0.head p ≡ c → Good (frame c0 q0 tt d0 ∷ S) → Fitted (frame c0 q0 tt d0 ∷ S)
    → (s : Stack) (q : GrammarRest) (d : Held) (r : GrammarRow) → Stands s c q d (frame c0 q0 tt d0 ∷ S) → made q ≡ Some r → ok c.head q ≡ true → Begun (seen c) r d
    → (t : Token) (o : Option Joined) → ender c.start ≡ Some t → joined (seen c) t ≡ o → light_joined c o ≡ true → joinable_by c r o ≡ true
    → EndsWithin s (below (frame c0 q0 tt d0 ∷ S) (by_start c.start (counts r + parts_depth d)))
up_joined c0 q0 d0 S ih c p e x g f s q d r st m k b t None en y lt h = absurd (cc)
up_joined c0 q0 d0 S ih c p e x g f s q d r st m k b t (Some j) en y lt h =
    let h1 = and_parts (may_begin c j.row) _ h in
    let h2 = and_parts (allowed j.place r) _ h1.1 in
    let h3 = and_parts (allowed c (way_row j.rest)) (leaves c.head j.rest) h2.1 in
    let gd = ap (λ z. Rattle.src_tree.proofs.Follow.good z) (sym x) ∙ good_part c0.head q0 p (here_of c0.head q0 (ok_good c0 q0 d0 S g)) e in
    let rows = join_rows c t j (joins_as c t j gd y) h1.0 in
    let rest = way c.head j.rest in
    let g1 = node tt r d in
    let n = by_start c.start (counts r + parts_depth d) in
    let (s2, q2, run2, at2, made2, ok2) = by_join c (frame c0 q0 tt d0 ∷ S) s q [] g1 t rest (way_row j.rest) (reads_rest rest) gd st m k j y h1.0 h2.0 (rows.1 r h2.0).1 (way_follows c.head j.rest h3.1) in
    let lv : Levelled (option_map (λ j. j.place) (joined (seen c) t)) g1 = subst (λ o. Levelled (option_map (λ j. j.place) o) g1) (sym y) (h2.0, subst (λ z. Begun z r d) (sym rows.0) b) in
    let fl : Follows c.head (option_map (λ j. j.rest) (joined (seen c) t)) (way_row j.rest) rest = subst (λ o. Follows c.head (option_map (λ j. j.rest) o) (way_row j.rest) rest) (sym y) (way_follows c.head j.rest h3.1) in
    ends_by (t ∷ spell_parts rest []) s s2 (below (frame c0 q0 tt d0 ∷ S) n) (below (frame c0 q0 tt d0 ∷ S) n) run2 (omega arith)
    (up c0 q0 d0 S ih c p e x g f s2 q2 (sub g1 (tok t rest)) (way_row j.rest) n at2 made2 ok2 h3.0 (lv, fl)
    (as_light c.start t j.rest rest (counts r + parts_depth d) en lt))

pub ready : (S : Stack) → Ready S
ready [] c q d s g f st =
    ([], node tt GrammarRow.File d, st.ending GrammarRow.File (ap (λ z. made z) g.1) ∙ ap (λ z. option_map (λ r. node tt r d) (made z)) g.1, (let h = total_up c q (parts_depth d) in omega arith))
ready (frame c0 q0 a0 d0 ∷ S) c q d s g f st = go (ready S) g.1
  where
    fs : fits c q ≡ true
    fs = at_once (fits c) q f.0

    ps : Held
    ps = low_way c q

    r : GrammarRow
    r = low_row c q

    can : poss c q ≡ true
    can = alive_poss c q g.3

    deep : settle c (low_row c q) (counts (low_row c q) + max (parts_depth d) (parts_depth (low_way c q))) ≤ total c q (parts_depth d)
    deep = low_depth c q (parts_depth d) (fits_formed c q fs) (fits_shallow c q fs) can

    node_deep : settle c (low_row c q) (counts (low_row c q) + parts_depth (and_parts_of d (low_way c q))) ≤ total c q (parts_depth d)
    node_deep = subst (λ z. settle c (low_row c q) (counts (low_row c q) + z) ≤ total c q (parts_depth d)) (sym (and_depth d (low_way c q))) deep

    known : is_known places c ≡ true
    known = known_place c c0 q0 d0 S g.4 g.1

    lighted : light_place c ≡ true
    lighted = known_light places c places_light known

    go : Ready S → ((p : GrammarPart) × (due q0 ≡ Some p) × (place_of c0.head p ≡ c)) → EndsWithin s (need (frame c q tt d ∷ frame c0 q0 a0 d0 ∷ S))
    go ih (p, e, x) =
        let w = low_follows c q (fits_shallow c q fs) in
        let (s1, q1, run1, at1, made1, ok1) = reads_rest (low_way c q) c q d (frame c0 q0 a0 d0 ∷ S) s [] (low_row c q) g.2 st w in
        let b = g.0 (low_row c q) (low_way c q) w in
        let n = total c q (parts_depth d) in
        ends_by (spell_parts (low_way c q) []) s s1 (below (frame c0 q0 a0 d0 ∷ S) n) (below (frame c0 q0 a0 d0 ∷ S) n) run1 (omega arith)
        (by_row (allowed c (low_row c q)) refl ih p e x s1 q1 at1 made1 ok1 b)
      where
        by_ender : (o : Option Token) → ender c.start ≡ o → light_end c o ≡ true → Ready S → (p : GrammarPart) → due q0 ≡ Some p → place_of c0.head p ≡ c
            → (s1 : Stack) (q1 : GrammarRest) → Stands s1 c q1 (and_parts_of d (low_way c q)) (frame c0 q0 a0 d0 ∷ S) → made q1 ≡ Some (low_row c q) → ok c.head q1 ≡ true → Begun (seen c) (low_row c q) (and_parts_of d (low_way c q))
            → joinable c (low_row c q) o ≡ true → EndsWithin s1 (below (frame c0 q0 a0 d0 ∷ S) (by_start c.start (counts (low_row c q) + parts_depth (and_parts_of d (low_way c q)))))
        by_ender None eo lo ih p e x s1 q1 at1 made1 ok1 b h = absurd (cc)
        by_ender (Some t) eo lo ih p e x s1 q1 at1 made1 ok1 b h =
            up_joined c0 q0 d0 S ih c p e x g.4 f.1 s1 q1 (and_parts_of d (low_way c q)) (low_row c q) at1 made1 ok1 b t (joined (seen c) t) eo refl lo h

        by_row : (a : Bool) → allowed c (low_row c q) ≡ a → Ready S → (p : GrammarPart) → due q0 ≡ Some p → place_of c0.head p ≡ c
            → (s1 : Stack) (q1 : GrammarRest) → Stands s1 c q1 (and_parts_of d (low_way c q)) (frame c0 q0 a0 d0 ∷ S) → made q1 ≡ Some (low_row c q) → ok c.head q1 ≡ true → Begun (seen c) (low_row c q) (and_parts_of d (low_way c q))
            → EndsWithin s1 (below (frame c0 q0 a0 d0 ∷ S) (total c q (parts_depth d)))
        by_row true ea ih p e x s1 q1 at1 made1 ok1 b =
            up c0 q0 d0 S ih c p e x g.4 f.1 s1 q1 (and_parts_of d (low_way c q)) (low_row c q) (total c q (parts_depth d)) at1 made1 ok1 ea b
            (subst (λ z. settle_by z c.start (counts (low_row c q) + parts_depth (and_parts_of d (low_way c q))) ≤ total c q (parts_depth d)) ea node_deep)
        by_row false ea ih p e x s1 q1 at1 made1 ok1 b =
            let n = counts (low_row c q) + parts_depth (and_parts_of d (low_way c q)) in
            let can_join : joinable c (low_row c q) (ender c.start) ≡ true = subst (λ z. (z || joinable c (low_row c q) (ender c.start)) ≡ true) ea (low_possible c q (fits_formed c q fs) can) in
            let l : by_start c.start n ≤ total c q (parts_depth d) = subst (λ z. settle_by z c.start n ≤ total c q (parts_depth d)) ea node_deep in
            ends_by [] s1 s1 (below (frame c0 q0 a0 d0 ∷ S) (by_start c.start n)) (below (frame c0 q0 a0 d0 ∷ S) (total c q (parts_depth d))) refl
            (below_up (by_start c.start n) (total c q (parts_depth d)) l)
            (by_ender (ender c.start) refl lighted ih p e x s1 q1 at1 made1 ok1 b can_join)
          where
            below_up : (n m : ℕ) → n ≤ m → below (frame c0 q0 a0 d0 ∷ S) n ≤ below (frame c0 q0 a0 d0 ∷ S) m
            below_up n m h =
                below_mono S c0 q0 d0 (total_behind c0 q0 (max (parts_depth d0) n)) (total_behind c0 q0 (max (parts_depth d0) m)) g.4 f.1
                (total_behind_mono c0 q0 g.1.0 (max (parts_depth d0) n) (max (parts_depth d0) m) g.1.1 (fit_of c0 q0 d0 S g.4 f.1) (omega arith))

pub finish_within : (s : Stack) → Good s → Fitted s → EndsWithin s (need s)
finish_within [] g f = absurd g
finish_within (frame c q at d ∷ S) g f = ready S c q d (frame c q tt d ∷ S) g f (standing c q d S)
