-- Each state that was reached comes to an end on some tokens.
use Rattle.std.proofs.Common.{◌≡◌, Bool, true, false, ◌||◌, Option, Some, None, option_map, List, [], ◌∷◌, ◌++◌, refl, sym, ap, ◌∙◌, subst}
use Rattle.std.proofs.lemmas.Bool.{and_parts}
use Rattle.src_token.specs.declared.token.Token.{Token}
use Rattle.src_tree.specs.declared.row.GrammarRow.{GrammarRow}
use Rattle.src_tree.specs.declared.place.GrammarPlace.{GrammarPlace}
use Rattle.src_tree.specs.declared.place.GrammarPart.{GrammarPart}
use Rattle.src_tree.specs.Grammar.{seen, allowed, may_begin, place_of, GrammarRest, due, behind, made, Joined, joined}
use Rattle.src_tree.specs.Layout.{node, tok, sub, spell_parts, Levelled, Begun, Follows}
use Rattle.src_tree.specs.Reading.{and_then, with_sub, frame, whole}
use Rattle.src_tree.proofs.Follow.{ok, calm}
use Rattle.src_tree.proofs.Facts.{here_of, good_part, joins_as, join_rows}
use Rattle.src_tree.proofs.Complete.{Tree, Held, Stack, step_if, run, and_parts_of, Stands, handed, standing, by_join, reads_rest}
use Rattle.src_parse.proofs.Alive.{alive, at_once, leaves, way_row, way, way_follows, ender, joinable, joinable_by}
use Rattle.src_parse.proofs.Sound.{Good, ok_good, placed}

pub run_append : (ts us : List Token) (o : Option Stack) → run (ts ++ us) o ≡ run us (run ts o)
run_append [] us o = refl
run_append (t ∷ ts) us o = run_append ts us (step_if o t)

-- tokens by which a state comes to an end
abbrev pub Ends : Stack → Type 0
Ends s = (ts : List Token) × (g : Tree) × (and_then (run ts (Some s)) (λ z. whole z) ≡ Some g)

-- a state that stands where a good frame does
abbrev Ready : Stack → Type 0
Ready S = (c : GrammarPlace) (q : GrammarRest) (d : Held) (s : Stack) → Good (frame c q tt d ∷ S) → Stands s c q d S → Ends s

ends_by : (ts : List Token) (s s1 : Stack) → run ts (Some s) ≡ Some s1 → Ends s1 → Ends s
ends_by ts s s1 e (us, g, r) = (ts ++ us, g, ap (λ o. and_then o (λ z. whole z)) (run_append ts us (Some s) ∙ ap (run us) e) ∙ r)

-- a node that is complete and may stand there
up : (c0 : GrammarPlace) (q0 : GrammarRest) (d0 : Held) (S : Stack) → Ready S → (c : GrammarPlace) (p : GrammarPart) → due q0 ≡ Some p → place_of c0.head p ≡ c → Good (frame c0 q0 tt d0 ∷ S)
    → (s : Stack) (q : GrammarRest) (d : Held) (r : GrammarRow) → Stands s c q d (frame c0 q0 tt d0 ∷ S) → made q ≡ Some r → ok c.head q ≡ true → allowed c r ≡ true → Begun (seen c) r d → Ends s
up c0 q0 d0 S ih c p e x g s q d r st m k a b =
    ih c0 (behind q0 r) (with_sub d0 (node tt r d)) s (placed c c0 q0 d0 S (node tt r d) (p, e, x) (a, b) g)
    (handed s S c0 q0 d0 p q d r (ok_good c0 q0 d0 S g) e
    (subst (λ z. Stands s z q d (frame c0 q0 tt d0 ∷ S)) (sym x) st) m (subst (λ z. ok z.head q ≡ true) (sym x) k) (subst (λ z. allowed z r ≡ true) (sym x) a))

-- a node that is complete, and the first part of one that may stand there
up_joined : (c0 : GrammarPlace) (q0 : GrammarRest) (d0 : Held) (S : Stack) → Ready S → (c : GrammarPlace) (p : GrammarPart) → due q0 ≡ Some p → place_of c0.head p ≡ c → Good (frame c0 q0 tt d0 ∷ S)
    → (s : Stack) (q : GrammarRest) (d : Held) (r : GrammarRow) → Stands s c q d (frame c0 q0 tt d0 ∷ S) → made q ≡ Some r → ok c.head q ≡ true → Begun (seen c) r d
    → (t : Token) (o : Option Joined) → joined (seen c) t ≡ o → joinable_by c r o ≡ true → Ends s
up_joined c0 q0 d0 S ih c p e x g s q d r st m k b t None y h = absurd (cc)
up_joined c0 q0 d0 S ih c p e x g s q d r st m k b t (Some j) y h =
    let h1 = and_parts (may_begin c j.row) _ h in
    let h2 = and_parts (allowed j.place r) _ h1.1 in
    let h3 = and_parts (allowed c (way_row j.rest)) (leaves c.head j.rest) h2.1 in
    let gd = ap (λ z. Rattle.src_tree.proofs.Follow.good z) (sym x) ∙ good_part c0.head q0 p (here_of c0.head q0 (ok_good c0 q0 d0 S g)) e in
    let rows = join_rows c t j (joins_as c t j gd y) h1.0 in
    let rest = way c.head j.rest in
    let g1 = node tt r d in
    let (s2, q2, run2, at2, made2, ok2) = by_join c (frame c0 q0 tt d0 ∷ S) s q [] g1 t rest (way_row j.rest) (reads_rest rest) gd st m k j y h1.0 h2.0 (rows.1 r h2.0).1 (way_follows c.head j.rest h3.1) in
    let lv : Levelled (option_map (λ j. j.place) (joined (seen c) t)) g1 = subst (λ o. Levelled (option_map (λ j. j.place) o) g1) (sym y) (h2.0, subst (λ z. Begun z r d) (sym rows.0) b) in
    let fl : Follows c.head (option_map (λ j. j.rest) (joined (seen c) t)) (way_row j.rest) rest = subst (λ o. Follows c.head (option_map (λ j. j.rest) o) (way_row j.rest) rest) (sym y) (way_follows c.head j.rest h3.1) in
    ends_by (t ∷ spell_parts rest []) s s2 run2
    (up c0 q0 d0 S ih c p e x g s2 q2 (sub g1 (tok t rest)) (way_row j.rest) at2 made2 ok2 h3.0 (lv, fl))

or_case : (a b : Bool) (P : Type 0) → (a || b) ≡ true → (a ≡ true → P) → (b ≡ true → P) → P
or_case true b P h f g = f refl
or_case false b P h f g = g h

pub ready : (S : Stack) → Ready S
ready [] c q d s g st = ([], node tt GrammarRow.File d, st.ending GrammarRow.File (ap (λ z. made z) g.1) ∙ ap (λ z. option_map (λ r. node tt r d) (made z)) g.1)
ready (frame c0 q0 a0 d0 ∷ S) c q d s g st = go (ready S) g.1 (and_parts (leaves c.head q) _ (at_once (alive c) q g.3))
  where
    go : Ready S → ((p : GrammarPart) × (due q0 ≡ Some p) × (place_of c0.head p ≡ c)) → (leaves c.head q ≡ true) × ((allowed c (way_row q) || joinable c (way_row q) (ender c.start)) ≡ true) → Ends s
    go ih (p, e, x) l =
        let ps = way c.head q in
        let w = way_follows c.head q l.0 in
        let (s1, q1, run1, at1, made1, ok1) = reads_rest ps c q d (frame c0 q0 a0 d0 ∷ S) s [] (way_row q) g.2 st w in
        let b = g.0 (way_row q) ps w in
        ends_by (spell_parts ps []) s s1 run1
        (or_case (allowed c (way_row q)) (joinable c (way_row q) (ender c.start)) (Ends s1) l.1
        (λ a. up c0 q0 d0 S ih c p e x g.4 s1 q1 (and_parts_of d ps) (way_row q) at1 made1 ok1 a b)
        (by_ender (ender c.start) s1 q1 (and_parts_of d ps) (way_row q) p e x at1 made1 ok1 b ih))
      where
        by_ender : (o : Option Token) (s1 : Stack) (q1 : GrammarRest) (d1 : Held) (r : GrammarRow) (p : GrammarPart) → due q0 ≡ Some p → place_of c0.head p ≡ c → Stands s1 c q1 d1 (frame c0 q0 a0 d0 ∷ S) → made q1 ≡ Some r → ok c.head q1 ≡ true → Begun (seen c) r d1
            → Ready S → joinable c r o ≡ true → Ends s1
        by_ender None s1 q1 d1 r p e x at1 made1 ok1 b ih h = absurd (cc)
        by_ender (Some t) s1 q1 d1 r p e x at1 made1 ok1 b ih h = up_joined c0 q0 d0 S ih c p e x g.4 s1 q1 d1 r at1 made1 ok1 b t (joined (seen c) t) refl h

pub finish : (s : Stack) → Good s → Ends s
finish [] g = absurd g
finish (frame c q at d ∷ S) g = ready S c q d (frame c q tt d ∷ S) g (standing c q d S)
