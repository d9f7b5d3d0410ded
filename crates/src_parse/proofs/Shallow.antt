-- From each point of a row there is a way to its end that is as little deep as can be.
use Rattle.std.proofs.Common.{subst, ◌≡◌, ℕ, ◌+◌, ◌≤◌, max, min, nat_le, Bool, true, false, ◌&&◌, ◌||◌, not, Option, Some, None, refl, arith, if◌then◌else◌}
use Rattle.std.proofs.lemmas.Bool.{and_parts, leb-true}
use Rattle.src_token.specs.declared.token.Token.{Token}
use Rattle.src_token.specs.declared.mark.Mark.{Mark}
use Rattle.src_tree.specs.declared.row.GrammarRow.{GrammarRow}
use Rattle.src_tree.specs.declared.place.GrammarPlace.{GrammarPlace}
use Rattle.src_tree.specs.declared.place.Start.{Start}
use Rattle.src_tree.specs.declared.kind.TokenKind.{TokenKind}
use Rattle.src_tree.specs.Grammar.{made, GrammarRest, ends, token, either, part, maybe, list, more, many, items, alternatives, statements, arms, arm_body, after_break, is, allowed, place_of, counts, move}
use Rattle.src_tree.specs.Layout.{end, tok, sub, depth, parts_depth, Follows}
use Rattle.src_tree.proofs.Follow.{all_ends, is_known}
use Rattle.src_tree.proofs.Complete.{Held}
use Rattle.src_parse.specs.declared.depth_bound.DepthBound.{DepthBound}
use Rattle.src_parse.specs.Bounds.{least_place, value, ended_by, lesser, bound, most}
use Rattle.src_parse.proofs.Alive.{sample, is_sample, leaf, leaf_places, leaf_from, all_leaves, leaf_block, way_arms, joinable, ender}
use Rattle.src_parse.proofs.Depth.{total_heavy, settle_by, settle, settle_mono, possible, poss, total, pick, fit}

abbrev pub at_most : DepthBound → DepthBound → Bool
at_most x y = nat_le x.floor y.floor && nat_le x.around y.around

at_most_is : (x y : DepthBound) → at_most x y ≡ true → (x.floor ≤ y.floor) × (x.around ≤ y.around)
at_most_is x y h = let p = and_parts (nat_le x.floor y.floor) (nat_le x.around y.around) h in (leb-true x.floor y.floor p.0, leb-true x.around y.around p.1)

-- one of two ways is the lesser whatever stands before it
abbrev pub apart : Bool → Bool → DepthBound → DepthBound → Bool
apart true true x y = at_most x y || at_most y x
apart true false x y = at_most x y
apart false true x y = at_most y x
apart false false x y = true

-- the bound of a rest is that of its depths
abbrev pub formed : GrammarPlace → GrammarRest → Bool
formed c (ends r) = true
formed c (token k after) = formed c after
formed c (either k after other) = apart (poss c after) (poss c other) (bound c after) (bound c other) && (formed c after && formed c other)
formed c (part p after) = formed c after
formed c (maybe p after r) = true
formed c (list p later dots close after) = formed c after
formed c (more p dots close after) = formed c after
formed c (many p close after) = formed c after
formed c items = false
formed c alternatives = true
formed c (statements o) = true
formed c (arms o) = true
formed c arm_body = true
formed c after_break = true

settled : (c : GrammarPlace) (r : GrammarRow) (a : Bool) (s : Start) (n f w d : ℕ) → n ≡ max f (d + w) → (a || joinable c r (ender s)) ≡ true → settle_by a s n ≡ value (ended_by a s f w) d
settled c r true s n f w d e p = e
settled c r false Start.IsParam n f w d e p = omega (arith, e)
settled c r false Start.IsArm n f w d e p = omega (arith, e)
settled c r false _ n f w d e p = absurd (cc)

pick_is : (a b : Bool) (x y : DepthBound) (d u v : ℕ) → apart a b x y ≡ true → (a || b) ≡ true → (a ≡ true → u ≡ value x d) → (b ≡ true → v ≡ value y d) → pick a b u v ≡ value (lesser x y) d
pick_is true true x y d u v h p f g = or_case (at_most x y) (at_most y x) (at_most_is x y) (at_most_is y x) h
  where
    or_case : (m n : Bool) → (m ≡ true → (x.floor ≤ y.floor) × (x.around ≤ y.around)) → (n ≡ true → (y.floor ≤ x.floor) × (y.around ≤ x.around)) → (m || n) ≡ true → min u v ≡ value (lesser x y) d
    or_case true n i j h = let a = f refl in let b = g refl in let l = (i refl).0 in let k = (i refl).1 in omega arith
    or_case false n i j h = let a = f refl in let b = g refl in let l = (j h).0 in let k = (j h).1 in omega arith
pick_is true false x y d u v h p f g = let a = f refl in let l = (at_most_is x y h).0 in let k = (at_most_is x y h).1 in omega arith
pick_is false true x y d u v h p f g = let a = g refl in let l = (at_most_is y x h).0 in let k = (at_most_is y x h).1 in omega arith
pick_is false false x y d u v h p f g = absurd (cc)

pub total_is : (c : GrammarPlace) (q : GrammarRest) (d : ℕ) → formed c q ≡ true → poss c q ≡ true → total c q d ≡ value (bound c q) d
total_is c (ends r) d f p = settled c r (allowed c r) c.start (counts r + d) 0 (counts r) d (omega arith) p
total_is c (token k after) d f p = total_is c after d f p
total_is c (either k after other) d f p =
    let g = and_parts (apart (poss c after) (poss c other) (bound c after) (bound c other)) (formed c after && formed c other) f in
    let h = and_parts (formed c after) (formed c other) g.1 in
    pick_is (poss c after) (poss c other) (bound c after) (bound c other) d (total c after d) (total c other d) g.0 p (total_is c after d h.0) (total_is c other d h.1)
total_is c (part x after) d f p =
    let n = least_place (place_of c.head x) in
    let h = total_is c after (max d n) f p in omega arith
total_is c (maybe x after r) d f p = settled c r (allowed c r) c.start (counts r + d) 0 (counts r) d (omega arith) p
total_is c (list x later dots close after) d f p = total_is c after d f p
total_is c (more x dots close after) d f p = total_is c after d f p
total_is c (many x close after) d f p = total_is c after d f p
total_is c items d f p = absurd (cc)
total_is c alternatives d f p = settled c GrammarRow.OrPattern (allowed c GrammarRow.OrPattern) c.start (1 + d) 0 1 d (omega arith) p
total_is c (statements o) d f p = settled c GrammarRow.Block (allowed c GrammarRow.Block) c.start (1 + d) 0 1 d (omega arith) p
total_is c (arms false) d f p = settled c GrammarRow.Match (allowed c GrammarRow.Match) c.start (1 + max d 2) 3 1 d (omega arith) p
total_is c (arms true) d f p = settled c GrammarRow.Match (allowed c GrammarRow.Match) c.start (1 + d) 0 1 d (omega arith) p
total_is c arm_body d f p = settled c GrammarRow.Arm (allowed c GrammarRow.Arm) c.start (1 + max d 1) 2 1 d (omega arith) p
total_is c after_break d f p = settled c GrammarRow.Break (allowed c GrammarRow.Break) c.start (1 + d) 0 1 d (omega arith) p

-- The way that is least deep.

abbrev pub takes_other : Bool → Bool → DepthBound → DepthBound → Bool
takes_other a b x y = b && (not a || at_most y x)

abbrev pub low_row : GrammarPlace → GrammarRest → GrammarRow
low_row c (ends r) = r
low_row c (token k after) = low_row c after
low_row c (either k after other) = if takes_other (poss c after) (poss c other) (bound c after) (bound c other) then low_row c other else low_row c after
low_row c (part p after) = low_row c after
low_row c (maybe p after r) = r
low_row c (list p later dots close after) = low_row c after
low_row c (more p dots close after) = low_row c after
low_row c (many p close after) = low_row c after
low_row c items = GrammarRow.File
low_row c alternatives = GrammarRow.OrPattern
low_row c (statements o) = GrammarRow.Block
low_row c (arms o) = GrammarRow.Match
low_row c arm_body = GrammarRow.Arm
low_row c after_break = GrammarRow.Break

abbrev pub low_way : GrammarPlace → GrammarRest → Held
low_way c (ends r) = end
low_way c (token k after) = tok (sample k) (low_way c after)
low_way c (either k after other) =
    if takes_other (poss c after) (poss c other) (bound c after) (bound c other) then low_way c other else tok (sample k) (low_way c after)
low_way c (part p after) = sub (leaf (place_of c.head p)) (low_way c after)
low_way c (maybe p after r) = end
low_way c (list p later dots close after) = tok (sample close) (low_way c after)
low_way c (more p dots close after) = tok (sample close) (low_way c after)
low_way c (many p close after) = tok (sample close) (low_way c after)
low_way c items = end
low_way c alternatives = end
low_way c (statements o) = tok (Token.Mark Mark.CloseBrace) end
low_way c (arms o) = way_arms o
low_way c arm_body = sub leaf_block end
low_way c after_break = end

-- no token of the kind stands first
abbrev not_first : TokenKind → Held → Bool
not_first k (tok t rest) = not (is k t)
not_first k _ = true

-- what is on the way is known, and is not taken for another way
abbrev pub shallow : GrammarPlace → GrammarRest → Bool
shallow c (ends r) = true
shallow c (token k after) = shallow c after
shallow c (either k after other) =
    if takes_other (poss c after) (poss c other) (bound c after) (bound c other) then not_first k (low_way c other) && shallow c other else shallow c after
shallow c (part p after) = is_known leaf_places (place_of c.head p) && (nat_le (depth (leaf (place_of c.head p))) (least_place (place_of c.head p)) && shallow c after)
shallow c (maybe p after r) = true
shallow c (list p later dots close after) = shallow c after
shallow c (more p dots close after) = shallow c after
shallow c (many p close after) = shallow c after
shallow c items = false
shallow c alternatives = true
shallow c (statements o) = true
shallow c (arms o) = true
shallow c arm_body = true
shallow c after_break = true

-- where it may end, the row that it then is counts the least
abbrev even_by : Option GrammarRow → GrammarRest → Bool
even_by None q = true
even_by (Some r) q = all_ends (λ x. nat_le (counts r) (counts x)) q

abbrev pub fits : GrammarPlace → GrammarRest → Bool
fits c q = fit c q && (formed c q && (shallow c q && (at_most (bound c q) most && even_by (made q) q)))

pub fits_fit : (c : GrammarPlace) (q : GrammarRest) → fits c q ≡ true → fit c q ≡ true
fits_fit c q h = (and_parts (fit c q) _ h).0

pub fits_formed : (c : GrammarPlace) (q : GrammarRest) → fits c q ≡ true → formed c q ≡ true
fits_formed c q h = (and_parts (formed c q) _ (and_parts (fit c q) _ h).1).0

pub fits_shallow : (c : GrammarPlace) (q : GrammarRest) → fits c q ≡ true → shallow c q ≡ true
fits_shallow c q h = (and_parts (shallow c q) _ (and_parts (formed c q) _ (and_parts (fit c q) _ h).1).1).0

pub fits_most : (c : GrammarPlace) (q : GrammarRest) → fits c q ≡ true → ((bound c q).floor ≤ 3) × ((bound c q).around ≤ 2)
fits_most c q h = at_most_is (bound c q) most (and_parts (at_most (bound c q) most) _ (and_parts (shallow c q) _ (and_parts (formed c q) _ (and_parts (fit c q) _ h).1).1).1).0

pub fits_made : (c : GrammarPlace) (q : GrammarRest) (r : GrammarRow) (d : ℕ) → fits c q ≡ true → made q ≡ Some r → counts r + d ≤ total c q d
fits_made c q r d h m =
    let e = (and_parts (at_most (bound c q) most) _ (and_parts (shallow c q) _ (and_parts (formed c q) _ (and_parts (fit c q) _ h).1).1).1).1 in
    total_heavy c q d (counts r) (subst (λ o. even_by o q ≡ true) m e)

by_test : (h : Bool) (r : GrammarRow) (ps : Held) (b : Bool) (q : GrammarRest) (o : Option GrammarRest) → b ≡ true → Follows h (Some q) r ps → Follows h (if b then Some q else o) r ps
by_test h r ps true q o e f = f
by_test h r ps false q o e f = absurd (cc)

past_test : (h : Bool) (r : GrammarRow) (ps : Held) (b : Bool) (q : GrammarRest) (o : Option GrammarRest) → not b ≡ true → Follows h o r ps → Follows h (if b then Some q else o) r ps
past_test h r ps true q o e f = absurd (cc)
past_test h r ps false q o e f = f

-- what follows the other way follows the choice
by_other : (h : Bool) (k : TokenKind) (after other : GrammarRest) (r : GrammarRow) (ps : Held) → not_first k ps ≡ true → Follows h (Some other) r ps → Follows h (Some (either k after other)) r ps
by_other h k after other r end n f = f
by_other h k after other r (tok t rest) n f = past_test h r rest (is k t) after (move other t) n f
by_other h k after other r (sub g rest) n f = f

pub low_follows : (c : GrammarPlace) (q : GrammarRest) → shallow c q ≡ true → Follows c.head (Some q) (low_row c q) (low_way c q)
low_follows c (ends r) l = refl
low_follows c (token k after) l = by_test c.head _ _ (is k (sample k)) after None (is_sample k) (low_follows c after l)
low_follows c (either k after other) l = go (takes_other (poss c after) (poss c other) (bound c after) (bound c other)) l (low_follows c after) (low_follows c other)
  where
    go : (b : Bool) → (if b then not_first k (low_way c other) && shallow c other else shallow c after) ≡ true
        → (shallow c after ≡ true → Follows c.head (Some after) (low_row c after) (low_way c after))
        → (shallow c other ≡ true → Follows c.head (Some other) (low_row c other) (low_way c other))
        → Follows c.head (Some (either k after other)) (if b then low_row c other else low_row c after) (if b then low_way c other else tok (sample k) (low_way c after))
    go true h f g = let p = and_parts (not_first k (low_way c other)) (shallow c other) h in by_other c.head k after other (low_row c other) (low_way c other) p.0 (g p.1)
    go false h f g = by_test c.head _ _ (is k (sample k)) after (move other (sample k)) (is_sample k) (f h)
low_follows c (part p after) l =
    let a = and_parts (is_known leaf_places (place_of c.head p)) _ l in
    let b = and_parts (nat_le (depth (leaf (place_of c.head p))) (least_place (place_of c.head p))) (shallow c after) a.1 in
    (leaf_from leaf_places (place_of c.head p) all_leaves a.0, low_follows c after b.1)
low_follows c (maybe p after r) l = refl
low_follows c (list p later dots close after) l = by_test c.head _ _ (is close (sample close)) after _ (is_sample close) (low_follows c after l)
low_follows c (more p dots close after) l = by_test c.head _ _ (is close (sample close)) after _ (is_sample close) (low_follows c after l)
low_follows c (many p close after) l = by_test c.head _ _ (is close (sample close)) after None (is_sample close) (low_follows c after l)
low_follows c items l = absurd (cc)
low_follows c alternatives l = refl
low_follows c (statements o) l = refl
low_follows c (arms false) l = ((refl, ((refl, refl), ((refl, refl), refl))), refl)
low_follows c (arms true) l = refl
low_follows c arm_body l = ((refl, refl), refl)
low_follows c after_break l = refl

-- the choice can come to a row, and is the lesser one
abbrev Chosen : Bool → Bool → DepthBound → DepthBound → Bool → Type 0
Chosen a b x y true = (b ≡ true) × (a ≡ true → (y.floor ≤ x.floor) × (y.around ≤ x.around))
Chosen a b x y false = (a ≡ true) × (b ≡ true → (x.floor ≤ y.floor) × (x.around ≤ y.around))

chosen : (a b : Bool) (x y : DepthBound) → apart a b x y ≡ true → (a || b) ≡ true → (t : Bool) → takes_other a b x y ≡ t → Chosen a b x y t
chosen true true x y h p true e = (refl, λ z. at_most_is y x e)
chosen true true x y h p false e = (refl, λ z. at_most_is x y (only_left (at_most x y) (at_most y x) h e))
  where
    only_left : (m n : Bool) → (m || n) ≡ true → n ≡ false → m ≡ true
    only_left true n h e = refl
    only_left false n h e = absurd (cc)
chosen true false x y h p true e = absurd (cc)
chosen true false x y h p false e = (refl, λ z. absurd (cc))
chosen false true x y h p true e = (refl, λ z. absurd (cc))
chosen false true x y h p false e = absurd (cc)
chosen false false x y h p t e = absurd (cc)

pub low_possible : (c : GrammarPlace) (q : GrammarRest) → formed c q ≡ true → poss c q ≡ true → possible c (low_row c q) ≡ true
low_possible c (ends r) f p = p
low_possible c (token k after) f p = low_possible c after f p
low_possible c (either k after other) f p = go (takes_other (poss c after) (poss c other) (bound c after) (bound c other)) refl (low_possible c after) (low_possible c other)
  where
    h : (apart (poss c after) (poss c other) (bound c after) (bound c other) ≡ true) × ((formed c after && formed c other) ≡ true)
    h = and_parts (apart (poss c after) (poss c other) (bound c after) (bound c other)) (formed c after && formed c other) f

    go : (t : Bool) → takes_other (poss c after) (poss c other) (bound c after) (bound c other) ≡ t
        → (formed c after ≡ true → poss c after ≡ true → possible c (low_row c after) ≡ true) → (formed c other ≡ true → poss c other ≡ true → possible c (low_row c other) ≡ true)
        → possible c (if t then low_row c other else low_row c after) ≡ true
    go true e i j = j (and_parts (formed c after) (formed c other) h.1).1 (chosen (poss c after) (poss c other) (bound c after) (bound c other) h.0 p true e).0
    go false e i j = i (and_parts (formed c after) (formed c other) h.1).0 (chosen (poss c after) (poss c other) (bound c after) (bound c other) h.0 p false e).0
low_possible c (part x after) f p = low_possible c after f p
low_possible c (maybe x after r) f p = p
low_possible c (list x later dots close after) f p = low_possible c after f p
low_possible c (more x dots close after) f p = low_possible c after f p
low_possible c (many x close after) f p = low_possible c after f p
low_possible c items f p = absurd (cc)
low_possible c alternatives f p = p
low_possible c (statements o) f p = p
low_possible c (arms o) f p = p
low_possible c arm_body f p = p
low_possible c after_break f p = p

abbrev Low : GrammarPlace → GrammarRest → GrammarRow → Held → ℕ → Type 0
Low c q r ps d = settle c r (counts r + max d (parts_depth ps)) ≤ total c q d

by_lesser : (a b : Bool) (x y : DepthBound) (d u v n : ℕ) → (a ≡ true → u ≡ value x d) → (b ≡ true → v ≡ value y d) → b ≡ true → (a ≡ true → (y.floor ≤ x.floor) × (y.around ≤ x.around)) → n ≤ v → n ≤ pick a b u v
by_lesser true true x y d u v n f g e l h = let i = f refl in let j = g refl in let k = (l refl).0 in let m = (l refl).1 in omega arith
by_lesser true false x y d u v n f g e l h = absurd (cc)
by_lesser false b x y d u v n f g e l h = h

by_first : (a b : Bool) (x y : DepthBound) (d u v n : ℕ) → (a ≡ true → u ≡ value x d) → (b ≡ true → v ≡ value y d) → a ≡ true → (b ≡ true → (x.floor ≤ y.floor) × (x.around ≤ y.around)) → n ≤ u → n ≤ pick a b u v
by_first true true x y d u v n f g e l h = let i = f refl in let j = g refl in let k = (l refl).0 in let m = (l refl).1 in omega arith
by_first true false x y d u v n f g e l h = h
by_first false b x y d u v n f g e l h = absurd (cc)

pub low_depth : (c : GrammarPlace) (q : GrammarRest) (d : ℕ) → formed c q ≡ true → shallow c q ≡ true → poss c q ≡ true → Low c q (low_row c q) (low_way c q) d
low_depth c (ends r) d f s p = settle_mono c r (counts r + max d 0) (counts r + d) (omega arith)
low_depth c (token k after) d f s p = low_depth c after d f s p
low_depth c (either k after other) d f s p = go (takes_other (poss c after) (poss c other) (bound c after) (bound c other)) refl s (low_depth c after d) (low_depth c other d)
  where
    h : (apart (poss c after) (poss c other) (bound c after) (bound c other) ≡ true) × ((formed c after && formed c other) ≡ true)
    h = and_parts (apart (poss c after) (poss c other) (bound c after) (bound c other)) (formed c after && formed c other) f

    fs : (formed c after ≡ true) × (formed c other ≡ true)
    fs = and_parts (formed c after) (formed c other) h.1

    go : (t : Bool) → takes_other (poss c after) (poss c other) (bound c after) (bound c other) ≡ t
        → (if t then not_first k (low_way c other) && shallow c other else shallow c after) ≡ true
        → (formed c after ≡ true → shallow c after ≡ true → poss c after ≡ true → Low c after (low_row c after) (low_way c after) d)
        → (formed c other ≡ true → shallow c other ≡ true → poss c other ≡ true → Low c other (low_row c other) (low_way c other) d)
        → Low c (either k after other) (if t then low_row c other else low_row c after) (if t then low_way c other else tok (sample k) (low_way c after)) d
    go true e w i j =
        let x = chosen (poss c after) (poss c other) (bound c after) (bound c other) h.0 p true e in
        by_lesser (poss c after) (poss c other) (bound c after) (bound c other) d (total c after d) (total c other d) _ (total_is c after d fs.0) (total_is c other d fs.1) x.0 x.1
        (j fs.1 (and_parts (not_first k (low_way c other)) (shallow c other) w).1 x.0)
    go false e w i j =
        let x = chosen (poss c after) (poss c other) (bound c after) (bound c other) h.0 p false e in
        by_first (poss c after) (poss c other) (bound c after) (bound c other) d (total c after d) (total c other d) _ (total_is c after d fs.0) (total_is c other d fs.1) x.0 x.1
        (i fs.0 w x.0)
low_depth c (part x after) d f s p =
    let a = and_parts (is_known leaf_places (place_of c.head x)) _ s in
    let b = and_parts (nat_le (depth (leaf (place_of c.head x))) (least_place (place_of c.head x))) (shallow c after) a.1 in
    let l = leb-true (depth (leaf (place_of c.head x))) (least_place (place_of c.head x)) b.0 in
    let i = low_depth c after (max d (least_place (place_of c.head x))) f b.1 p in
    let r = low_row c after in
    let m = settle_mono c r (counts r + max d (max (depth (leaf (place_of c.head x))) (parts_depth (low_way c after)))) (counts r + max (max d (least_place (place_of c.head x))) (parts_depth (low_way c after))) (omega arith) in
    omega arith
low_depth c (maybe x after r) d f s p = settle_mono c r (counts r + max d 0) (counts r + d) (omega arith)
low_depth c (list x later dots close after) d f s p = low_depth c after d f s p
low_depth c (more x dots close after) d f s p = low_depth c after d f s p
low_depth c (many x close after) d f s p = low_depth c after d f s p
low_depth c items d f s p = absurd (cc)
low_depth c alternatives d f s p = settle_mono c GrammarRow.OrPattern (1 + max d 0) (1 + d) (omega arith)
low_depth c (statements o) d f s p = settle_mono c GrammarRow.Block (1 + max d 0) (1 + d) (omega arith)
low_depth c (arms false) d f s p = settle_mono c GrammarRow.Match (1 + max d 2) (1 + max d 2) (omega arith)
low_depth c (arms true) d f s p = settle_mono c GrammarRow.Match (1 + max d 0) (1 + d) (omega arith)
low_depth c arm_body d f s p = settle_mono c GrammarRow.Arm (1 + max d 1) (1 + max d 1) (omega arith)
low_depth c after_break d f s p = settle_mono c GrammarRow.Break (1 + max d 0) (1 + d) (omega arith)
