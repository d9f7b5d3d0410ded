-- No tree that goes on from a state is less deep than it needs.
use Rattle.std.proofs.Common.{◌≡◌, ℕ, ◌+◌, ◌≤◌, max, nat_le, Bool, true, false, ◌&&◌, ◌||◌, Option, Some, None, option_map, List, [], ◌∷◌, refl, sym, ap, ◌∙◌, subst, arith}
use Rattle.std.proofs.lemmas.Bool.{and_parts, leb-true}
use Rattle.src_token.specs.declared.token.Token.{Token}
use Rattle.src_tree.specs.declared.row.GrammarRow.{GrammarRow}
use Rattle.src_tree.specs.declared.place.GrammarPlace.{GrammarPlace}
use Rattle.src_tree.specs.declared.place.GrammarPart.{GrammarPart}
use Rattle.src_tree.specs.declared.place.Start.{Start}
use Rattle.src_tree.specs.Grammar.{GrammarRest, ends, token, either, part, maybe, list, more, many, items, alternatives, statements, arms, arm_body, after_break, seen, allowed, may_begin, place_of, counts, move, due, behind, made, NodeBeginning, entry, Joined, joined}
use Rattle.src_tree.specs.Layout.{node, end, tok, sub, depth, parts_depth}
use Rattle.src_tree.specs.Reading.{or_else, and_then, only_if, begin_at, opens, joins, with_tok, with_sub, frame, goes_on, is_joined, act, step}
use Rattle.src_tree.proofs.Samples.{samples, rows, every, like, of_samples, of_rows}
use Rattle.src_tree.proofs.Follow.{places, is_known, same_place, implies, all_ends}
use Rattle.src_tree.proofs.Facts.{here_of, implied, same_places, known_part}
use Rattle.src_tree.proofs.Alike.{entry_alike, joined_alike}
use Rattle.src_tree.proofs.Complete.{Tree, Held, Stack, run}
use Rattle.src_parse.proofs.Alive.{everywhere, alive, leaves, way_row, at_once, and_moved, and_behind, joinable, ender}
use Rattle.src_parse.specs.Bounds.{least_place}
use Rattle.src_parse.proofs.Shallow.{fits, fits_fit}
use Rattle.src_parse.proofs.Depth.{by_start, settle_by, settle, settle_up, possible, poss, total, total_behind, total_up, total_mono, total_move, total_made, total_heavy, total_part, behind_total, total_behind_mono, fit, below, need}
use Rattle.src_parse.proofs.Sound.{Good, ok_good, handed_on, known_place, steps_well, Ok}

-- each join makes a parameter or an arm as deep as it has to be
abbrev deepens : GrammarPlace → ℕ → GrammarRest → Bool
deepens c k arm_body = nat_le k 1
deepens c k (part p after) = nat_le 1 (least_place (place_of c.head p)) && all_ends (λ x. nat_le k (counts x)) after
deepens c k _ = false

deepened : (c : GrammarPlace) (k : ℕ) (q : GrammarRest) (n : ℕ) → deepens c k q ≡ true → k + max n 1 ≤ total c q n
deepened c k arm_body n h = let u = settle_up c GrammarRow.Arm (1 + max n 1) in let l = leb-true k 1 h in omega arith
deepened c k (part p after) n h =
    let a = and_parts (nat_le 1 (least_place (place_of c.head p))) (all_ends (λ x. nat_le k (counts x)) after) h in
    let l = leb-true 1 (least_place (place_of c.head p)) a.0 in
    let u = total_heavy c after (max n (least_place (place_of c.head p))) k a.1 in omega arith
deepened c k _ n h = absurd (cc)

abbrev gains : Start → GrammarPlace → GrammarRest → Bool
gains Start.IsParam c q = deepens c 0 q
gains Start.IsArm c q = deepens c 1 q
gains _ c q = true

gained : (s : Start) (c : GrammarPlace) (q : GrammarRest) (n : ℕ) → gains s c q ≡ true → by_start s n ≤ total c q n
gained Start.IsParam c q n h = let u = deepened c 0 q n h in omega arith
gained Start.IsArm c q n h = let u = deepened c 1 q n h in omega arith
gained _ c q n h = total_up c q n

joined_total : (c : GrammarPlace) (r : GrammarRow) (q : GrammarRest) (n : ℕ) → gains c.start c q ≡ true → settle c r n ≤ total c q n
joined_total c r q n h = go (allowed c r)
  where
    go : (b : Bool) → settle_by b c.start n ≤ total c q n
    go true = total_up c q n
    go false = gained c.start c q n h

abbrev deep_entry : GrammarPlace → Option NodeBeginning → Bool
deep_entry c None = true
deep_entry c (Some e) = implies (may_begin c e.row) (nat_le (least_place c) (total c e.rest 0) && everywhere (fits c) e.rest)

abbrev deep_joined : GrammarPlace → Option Joined → Bool
deep_joined c None = true
deep_joined c (Some j) =
    implies (may_begin c j.row) (everywhere (fits c) j.rest && (every (λ r. implies (allowed j.place r) (possible c r)) rows && gains c.start c j.rest))

abbrev deep : GrammarPlace → Bool
deep c = every (λ t. deep_entry c (entry (seen c) t) && deep_joined c (joined (seen c) t)) samples

places_deep : every deep places ≡ true
places_deep = refl

known_deep : (ds : List GrammarPlace) (c : GrammarPlace) → every deep ds ≡ true → is_known ds c ≡ true → deep c ≡ true
known_deep [] c g k = absurd (cc)
known_deep (d ∷ ds) c g k = let p = and_parts (deep d) (every deep ds) g in go (known_deep ds c p.1) p.0 (same_place d c) refl
  where
    go : (is_known ds c ≡ true → deep c ≡ true) → deep d ≡ true → (b : Bool) → same_place d c ≡ b → deep c ≡ true
    go ih x true e = ap deep (sym (same_places d c e)) ∙ x
    go ih x false e = ih (subst (λ b. (b || is_known ds c) ≡ true) e k)

entry_deep : (c : GrammarPlace) (t : Token) (e : NodeBeginning) → is_known places c ≡ true → entry (seen c) t ≡ Some e → may_begin c e.row ≡ true → (least_place c ≤ total c e.rest 0) × (everywhere (fits c) e.rest ≡ true)
entry_deep c t x k e m =
    let f = of_samples (λ t. deep_entry c (entry (seen c) t) && deep_joined c (joined (seen c) t)) (known_deep places c places_deep k) t in
    let p = (and_parts (deep_entry c (entry (seen c) (like t))) _ f).0 in
    let q = and_parts (nat_le (least_place c) (total c x.rest 0)) (everywhere (fits c) x.rest) (implied (may_begin c x.row) _ (subst (λ o. deep_entry c o ≡ true) (sym (entry_alike c t) ∙ e) p) m) in
    (leb-true (least_place c) (total c x.rest 0) q.0, q.1)

joined_deep : (c : GrammarPlace) (t : Token) (j : Joined) → is_known places c ≡ true → joined (seen c) t ≡ Some j → may_begin c j.row ≡ true
    → (everywhere (fits c) j.rest ≡ true) × ((r : GrammarRow) → allowed j.place r ≡ true → possible c r ≡ true) × (gains c.start c j.rest ≡ true)
joined_deep c t x k e m =
    let f = of_samples (λ t. deep_entry c (entry (seen c) t) && deep_joined c (joined (seen c) t)) (known_deep places c places_deep k) t in
    let p = (and_parts (deep_entry c (entry (seen c) (like t))) _ f).1 in
    let q = and_parts (everywhere (fits c) x.rest) _ (implied (may_begin c x.row) _ (subst (λ o. deep_joined c o ≡ true) (sym (joined_alike c t) ∙ e) p) m) in
    let s = and_parts (every (λ r. implies (allowed x.place r) (possible c r)) rows) (gains c.start c x.rest) q.1 in
    (q.0, (λ r a. implied (allowed x.place r) (possible c r) (of_rows (λ r. implies (allowed x.place r) (possible c r)) s.0 r) a), s.1)

-- what is alive can come to a row
way_poss : (c : GrammarPlace) (q : GrammarRest) → possible c (way_row q) ≡ true → poss c q ≡ true
way_poss c (ends r) h = h
way_poss c (token k after) h = way_poss c after h
way_poss c (either k after other) h = or_left (poss c after) (poss c other) (way_poss c after h)
  where
    or_left : (a b : Bool) → a ≡ true → (a || b) ≡ true
    or_left true b h = refl
    or_left false b h = absurd (cc)
way_poss c (part p after) h = way_poss c after h
way_poss c (maybe p after r) h = h
way_poss c (list p later dots close after) h = way_poss c after h
way_poss c (more p dots close after) h = way_poss c after h
way_poss c (many p close after) h = way_poss c after h
way_poss c items h = refl
way_poss c alternatives h = h
way_poss c (statements o) h = h
way_poss c (arms o) h = h
way_poss c arm_body h = h
way_poss c after_break h = h

pub alive_poss : (c : GrammarPlace) (q : GrammarRest) → everywhere (alive c) q ≡ true → poss c q ≡ true
alive_poss c q a = way_poss c q (and_parts (leaves c.head q) (possible c (way_row q)) (at_once (alive c) q a)).1

abbrev pub Fitted : Stack → Type 0
Fitted [] = Unit {0}
Fitted (frame c q at d ∷ []) = Unit {0}
Fitted (frame c q at d ∷ f ∷ S) = (everywhere (fits c) q ≡ true) × Fitted (f ∷ S)

pub fit_of : (c : GrammarPlace) (q : GrammarRest) (d : Held) (S : Stack) → Good (frame c q tt d ∷ S) → Fitted (frame c q tt d ∷ S) → fit c q ≡ true
fit_of c q d [] g f = ap (fit c) g.1
fit_of c q d (frame c0 q0 a0 d0 ∷ S) g f = fits_fit c q (at_once (fits c) q f.0)

pub below_mono : (S : Stack) (c : GrammarPlace) (q : GrammarRest) (d : Held) (n m : ℕ) → Good (frame c q tt d ∷ S) → Fitted (frame c q tt d ∷ S) → n ≤ m → below S n ≤ below S m
below_mono [] c q d n m g f h = h
below_mono (frame c0 q0 a0 d0 ∷ S) c q d n m g f h =
    below_mono S c0 q0 d0 (total_behind c0 q0 (max (parts_depth d0) n)) (total_behind c0 q0 (max (parts_depth d0) m)) g.4 f.1
    (total_behind_mono c0 q0 g.1.0 (max (parts_depth d0) n) (max (parts_depth d0) m) g.1.1 (fit_of c0 q0 d0 S g.4 f.1) (omega arith))

pub depth_with_tok : (d : Held) (t : Token) → parts_depth (with_tok d t) ≡ parts_depth d
depth_with_tok end t = refl
depth_with_tok (tok u rest) t = depth_with_tok rest t
depth_with_tok (sub g rest) t = ap (λ z. max (depth g) z) (depth_with_tok rest t)

pub depth_with_sub : (d : Held) (g : Tree) → parts_depth (with_sub d g) ≡ max (parts_depth d) (depth g)
depth_with_sub end g = omega arith
depth_with_sub (tok u rest) g = depth_with_sub rest g
depth_with_sub (sub h rest) g = let e = depth_with_sub rest g in omega arith

abbrev Up : Stack → Option Stack → Type 0
Up from None = Unit {0}
Up from (Some to) = Fitted to × (need from ≤ need to)

up_or : (s : Stack) (o p : Option Stack) → Up s o → Up s p → Up s (or_else o p)
up_or s None p a b = b
up_or s (Some x) p a b = a

up_from : (s from : Stack) (o : Option Stack) → need from ≤ need s → Up s o → Up from o
up_from s from None h u = tt
up_from s from (Some to) h u = (u.0, (let k = u.1 in omega arith))

up_move : (S : Stack) (c : GrammarPlace) (q : GrammarRest) (d : Held) (t : Token) (o : Option GrammarRest) → move q t ≡ o → Good (frame c q tt d ∷ S) → Fitted (frame c q tt d ∷ S)
    → Up (frame c q tt d ∷ S) (option_map (λ r. frame c r tt (with_tok d t) ∷ S) o)
up_move S c q d t None e g f = tt
up_move [] c q d t (Some q1) e g f = let n : None ≡ Some q1 = ap (λ z. move z t) (sym g.1) ∙ e in absurd (cc)
up_move (frame c0 q0 a0 d0 ∷ S) c q d t (Some q1) e g f =
    let m = total_move c q (parts_depth d) t q1 e (alive_poss c q1 (and_moved (alive c) q t q1 g.3 e)) in (
      (and_moved (fits c) q t q1 f.0 e, f.1),
      below_mono (frame c0 q0 a0 d0 ∷ S) c q d (total c q (parts_depth d)) (total c q1 (parts_depth (with_tok d t))) g f
          (subst (λ z. total c q (parts_depth d) ≤ total c q1 z) (sym (depth_with_tok d t)) m.1),
    )

fitted_top : (S : Stack) (c cg : GrammarPlace) (q qg : GrammarRest) (d dg : Held) → Fitted (frame c q tt d ∷ S) → everywhere (fits cg) qg ≡ true → Fitted (frame cg qg tt dg ∷ frame c q tt d ∷ S)
fitted_top S c cg q qg d dg f e = (e, f)

up_entry : (S : Stack) (c : GrammarPlace) (q : GrammarRest) (d : Held) (t : Token) (p : GrammarPart) → due q ≡ Some p → Good (frame c q tt d ∷ S) → Fitted (frame c q tt d ∷ S) → (o : Option NodeBeginning) → entry (seen (place_of c.head p)) t ≡ o
    → Up (frame c q tt d ∷ S) (option_map {T = GrammarPlace × GrammarRest} (λ e. frame e.0 e.1 tt (tok t end) ∷ frame c q tt d ∷ S) (and_then o (λ e. only_if (may_begin (place_of c.head p) e.row) (Some (place_of c.head p, e.rest)))))
up_entry S c q d t p e g f None x = tt
up_entry S c q d t p e g f (Some b) x = go (may_begin (place_of c.head p) b.row) refl
  where
    go : (m : Bool) → may_begin (place_of c.head p) b.row ≡ m → Up (frame c q tt d ∷ S) (option_map {T = GrammarPlace × GrammarRest} (λ e. frame e.0 e.1 tt (tok t end) ∷ frame c q tt d ∷ S) (only_if m (Some (place_of c.head p, b.rest))))
    go false y = tt
    go true y =
        let k = known_part c.head q p (here_of c.head q (ok_good c q d S g)) e in
        let h = entry_deep (place_of c.head p) t b k x y in (
          fitted_top S c (place_of c.head p) q b.rest d (tok t end) f h.1,
          below_mono S c q d (total c q (parts_depth d)) (total_behind c q (max (parts_depth d) (total (place_of c.head p) b.rest 0))) g f
              (total_part c q p (parts_depth d) (total (place_of c.head p) b.rest 0) e (fit_of c q d S g f) h.0),
        )

up_open : (S : Stack) (c : GrammarPlace) (q : GrammarRest) (d : Held) (t : Token) (o : Option GrammarPart) → due q ≡ o → Good (frame c q tt d ∷ S) → Fitted (frame c q tt d ∷ S)
    → Up (frame c q tt d ∷ S) (option_map {T = GrammarPlace × GrammarRest} (λ e. frame e.0 e.1 tt (tok t end) ∷ frame c q tt d ∷ S) (and_then (option_map (place_of c.head) o) (begin_at t)))
up_open S c q d t None e g f = tt
up_open S c q d t (Some p) e g f = up_entry S c q d t p e g f (entry (seen (place_of c.head p)) t) refl

up_join : (c0 : GrammarPlace) (q0 : GrammarRest) (d0 : Held) (S : Stack) (c : GrammarPlace) (q : GrammarRest) (d : Held) (t : Token) (r : GrammarRow) → made q ≡ Some r → Good (frame c q tt d ∷ frame c0 q0 tt d0 ∷ S) → Fitted (frame c q tt d ∷ frame c0 q0 tt d0 ∷ S)
    → is_known places c ≡ true → (o : Option Joined) → joined (seen c) t ≡ o
    → Up (frame c q tt d ∷ frame c0 q0 tt d0 ∷ S) (option_map (λ q1. frame c q1 tt (sub (node tt r d) (tok t end)) ∷ frame c0 q0 tt d0 ∷ S) (and_then o (λ j. only_if (may_begin c j.row && allowed j.place r) (Some j.rest))))
up_join c0 q0 d0 S c q d t r m g f k None x = tt
up_join c0 q0 d0 S c q d t r m g f k (Some j) x = go (may_begin c j.row) (allowed j.place r) refl refl
  where
    go : (a b : Bool) → may_begin c j.row ≡ a → allowed j.place r ≡ b
        → Up (frame c q tt d ∷ frame c0 q0 tt d0 ∷ S) (option_map (λ q1. frame c q1 tt (sub (node tt r d) (tok t end)) ∷ frame c0 q0 tt d0 ∷ S) (only_if (a && b) (Some j.rest)))
    go false b ea eb = tt
    go true false ea eb = tt
    go true true ea eb =
        let h = joined_deep c t j k x ea in
        let n = counts r + parts_depth d in
        let a = (total_made c q (parts_depth d) r m (h.1 r eb)).1 in
        let b = joined_total c r j.rest n h.2 in
        let w = total_mono c j.rest n (max n 0) (omega arith) in
        ((h.0, f.1), below_mono (frame c0 q0 tt d0 ∷ S) c q d (total c q (parts_depth d)) (total c j.rest (max n 0)) g f (omega arith))

-- handing on
pub up_hand : (c0 : GrammarPlace) (q0 : GrammarRest) (d0 : Held) (S : Stack) (c : GrammarPlace) (q : GrammarRest) (d : Held) (r : GrammarRow) → made q ≡ Some r → allowed c r ≡ true → Good (frame c q tt d ∷ frame c0 q0 tt d0 ∷ S) → Fitted (frame c q tt d ∷ frame c0 q0 tt d0 ∷ S)
    → need (frame c q tt d ∷ frame c0 q0 tt d0 ∷ S) ≤ need (frame c0 (behind q0 r) tt (with_sub d0 (node tt r d)) ∷ S)
up_hand c0 q0 d0 S c q d r m a g f =
    let n = counts r + parts_depth d in
    let t = (total_made c q (parts_depth d) r m (or_left (allowed c r) (joinable c r (ender c.start)) a)).1 in
    let s : settle c r n ≡ n = ap (λ b. settle_by b c.start n) a in
    let e = behind_total c0 q0 g.1.0 r (parts_depth (with_sub d0 (node tt r d))) g.1.1 (fit_of c0 q0 d0 S g.4 f.1) in
    let w = depth_with_sub d0 (node tt r d) in
    below_mono S c0 q0 d0 (total_behind c0 q0 (max (parts_depth d0) (total c q (parts_depth d)))) (total c0 (behind q0 r) (parts_depth (with_sub d0 (node tt r d)))) g.4 f.1
    (subst (λ z. total_behind c0 q0 (max (parts_depth d0) (total c q (parts_depth d))) ≤ z) (sym e)
    (total_behind_mono c0 q0 g.1.0 (max (parts_depth d0) (total c q (parts_depth d))) (parts_depth (with_sub d0 (node tt r d))) g.1.1 (fit_of c0 q0 d0 S g.4 f.1) (omega arith)))
  where
    or_left : (a b : Bool) → a ≡ true → (a || b) ≡ true
    or_left true b h = refl
    or_left false b h = absurd (cc)

pub fitted_on : (c0 : GrammarPlace) (q0 : GrammarRest) (d0 d1 : Held) (S : Stack) (p : GrammarPart) (r : GrammarRow) → due q0 ≡ Some p → Fitted (frame c0 q0 tt d0 ∷ S) → Fitted (frame c0 (behind q0 r) tt d1 ∷ S)
fitted_on c0 q0 d0 d1 [] p r e f = tt
fitted_on c0 q0 d0 d1 (x ∷ S) p r e f = (and_behind (fits c0) q0 p r f.0 e, f.1)

pub ups : (S : Stack) (c : GrammarPlace) (q : GrammarRest) (d : Held) (t : Token) → Good (frame c q tt d ∷ S) → Fitted (frame c q tt d ∷ S) → Up (frame c q tt d ∷ S) (act S c q tt d t tt)
ups [] c q d t g f =
    up_or (frame c q tt d ∷ []) (goes_on c q tt d [] t tt) (and_then (made q) (λ r. is_joined c tt d [] t r))
    (up_or (frame c q tt d ∷ []) (option_map (λ r. frame c r tt (with_tok d t) ∷ []) (move q t)) (option_map {T = GrammarPlace × GrammarRest} (λ e. frame e.0 e.1 tt (tok t end) ∷ frame c q tt d ∷ []) (opens c.head q t))
    (up_move [] c q d t (move q t) refl g f) (up_open [] c q d t (due q) refl g f))
    (no_join (made q))
  where
    no_join : (o : Option GrammarRow) → Up (frame c q tt d ∷ []) (and_then o (λ r. is_joined c tt d [] t r))
    no_join None = tt
    no_join (Some r) = let e : joins c r t ≡ None = ap (λ z. joins z r t) g.0 in subst (λ o. Up (frame c q tt d ∷ []) (option_map (λ q1. frame c q1 tt (sub (node tt r d) (tok t end)) ∷ []) o)) (sym e) tt
ups (frame c0 q0 a0 d0 ∷ S) c q d t g f =
    up_or (frame c q tt d ∷ frame c0 q0 a0 d0 ∷ S) (goes_on c q tt d (frame c0 q0 a0 d0 ∷ S) t tt)
    (and_then (made q) (λ r. or_else (is_joined c tt d (frame c0 q0 a0 d0 ∷ S) t r) (only_if (allowed c r) (act S c0 (behind q0 r) tt (with_sub d0 (node tt r d)) t tt))))
    (up_or (frame c q tt d ∷ frame c0 q0 a0 d0 ∷ S) (option_map (λ r. frame c r tt (with_tok d t) ∷ frame c0 q0 a0 d0 ∷ S) (move q t)) (option_map {T = GrammarPlace × GrammarRest} (λ e. frame e.0 e.1 tt (tok t end) ∷ frame c q tt d ∷ frame c0 q0 a0 d0 ∷ S) (opens c.head q t))
    (up_move (frame c0 q0 a0 d0 ∷ S) c q d t (move q t) refl g f) (up_open (frame c0 q0 a0 d0 ∷ S) c q d t (due q) refl g f))
    (ended (made q) refl (λ r. ups S c0 (behind q0 r) (with_sub d0 (node tt r d)) t))
  where
    handing : (r : GrammarRow) → made q ≡ Some r
        → (Good (frame c0 (behind q0 r) tt (with_sub d0 (node tt r d)) ∷ S) → Fitted (frame c0 (behind q0 r) tt (with_sub d0 (node tt r d)) ∷ S) → Up (frame c0 (behind q0 r) tt (with_sub d0 (node tt r d)) ∷ S) (act S c0 (behind q0 r) tt (with_sub d0 (node tt r d)) t tt))
        → (a : Bool) → allowed c r ≡ a → Up (frame c q tt d ∷ frame c0 q0 a0 d0 ∷ S) (only_if a (act S c0 (behind q0 r) tt (with_sub d0 (node tt r d)) t tt))
    handing r m ih false e = tt
    handing r m ih true e =
        up_from (frame c0 (behind q0 r) tt (with_sub d0 (node tt r d)) ∷ S) (frame c q tt d ∷ frame c0 q0 a0 d0 ∷ S) (act S c0 (behind q0 r) tt (with_sub d0 (node tt r d)) t tt)
        (up_hand c0 q0 d0 S c q d r m e g f) (ih (handed_on c q d c0 q0 d0 S r m e g) (fitted_on c0 q0 d0 (with_sub d0 (node tt r d)) S g.1.0 r g.1.1 f.1))

    ended : (o : Option GrammarRow) → made q ≡ o
        → ((r : GrammarRow) → Good (frame c0 (behind q0 r) tt (with_sub d0 (node tt r d)) ∷ S) → Fitted (frame c0 (behind q0 r) tt (with_sub d0 (node tt r d)) ∷ S) → Up (frame c0 (behind q0 r) tt (with_sub d0 (node tt r d)) ∷ S) (act S c0 (behind q0 r) tt (with_sub d0 (node tt r d)) t tt))
        → Up (frame c q tt d ∷ frame c0 q0 a0 d0 ∷ S) (and_then o (λ r. or_else (is_joined c tt d (frame c0 q0 a0 d0 ∷ S) t r) (only_if (allowed c r) (act S c0 (behind q0 r) tt (with_sub d0 (node tt r d)) t tt))))
    ended None m ih = tt
    ended (Some r) m ih =
        up_or (frame c q tt d ∷ frame c0 q0 a0 d0 ∷ S) (is_joined c tt d (frame c0 q0 a0 d0 ∷ S) t r) (only_if (allowed c r) (act S c0 (behind q0 r) tt (with_sub d0 (node tt r d)) t tt))
        (up_join c0 q0 d0 S c q d t r m g f (known_place c c0 q0 d0 S g.4 g.1) (joined (seen c) t) refl) (handing r m (ih r) (allowed c r) refl)

-- a step never lowers what a state needs
pub needs_step : (s : Stack) (t : Token) → Good s → Fitted s → Up s (step s t tt)
needs_step [] t g f = tt
needs_step (frame c q at d ∷ S) t g f = ups S c q d t g f

abbrev pub Later : Stack → Option Stack → Type 0
Later from None = Unit {0}
Later from (Some s) = Good s × Fitted s × (need from ≤ need s)

pub needs_run : (ts : List Token) (s : Stack) → Good s → Fitted s → Later s (run ts (Some s))
needs_run [] s g f = (g, f, omega arith)
needs_run (t ∷ ts) s g f = go (needs_run ts) (step s t tt) (steps_well s t g) (needs_step s t g f)
  where
    none : (ts : List Token) → run ts None ≡ None
    none [] = refl
    none (u ∷ ts) = none ts

    further : (s1 : Stack) → need s ≤ need s1 → (o : Option Stack) → Later s1 o → Later s o
    further s1 h None l = tt
    further s1 h (Some s2) l = (l.0, l.1, (let k = l.2 in omega arith))

    go : ((s : Stack) → Good s → Fitted s → Later s (run ts (Some s))) → (o : Option Stack) → Ok s t o → Up s o → Later s (run ts o)
    go ih None h u = subst (Later s) (sym (none ts)) tt
    go ih (Some s1) h u = further s1 u.1 (run ts (Some s1)) (ih s1 h.0 u.0)
