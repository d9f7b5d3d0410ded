-- Tokens begin a tree within a depth exactly where they are read and the state needs no more.
use Rattle.std.proofs.Common.{◌≡◌, ◌+◌, ◌≤◌, Bool, true, false, Option, Some, None, option_map, List, [], ◌∷◌, ◌++◌, refl, sym, ap, ◌∙◌, subst, arith}
use Rattle.src_token.specs.declared.token.Token.{Token}
use Rattle.src_tree.specs.declared.row.GrammarRow.{GrammarRow}
use Rattle.src_tree.specs.declared.place.GrammarPlace.{GrammarPlace}
use Rattle.src_tree.specs.Grammar.{allowed, GrammarRest, made, behind, counts}
use Rattle.src_tree.specs.Layout.{node, parts_of, depth, parts_depth}
use Rattle.src_tree.specs.Reading.{and_then, only_if, with_sub, frame, close_all, whole, start}
use Rattle.src_tree.proofs.Complete.{Tree, Held, Stack, run, complete}
use Rattle.src_parse.specs.Reads.{IsItems}
use Rattle.src_parse.proofs.Depth.{total, total_up, need}
use Rattle.src_parse.proofs.Sound.{Good, start_good, handed_on}
use Rattle.src_parse.proofs.Finish.{run_append}
use Rattle.src_parse.proofs.Answer.{started, sound}
use Rattle.src_parse.proofs.Lower.{Fitted, up_hand, fitted_on, needs_run, Later}
use Rattle.src_parse.proofs.Within.{finish_within, handed_depth}
use Rattle.src_parse.proofs.Alive.{at_once}
use Rattle.src_parse.proofs.Shallow.{fits, fits_made}

-- where all nodes end, the tree is as deep as the state needs
abbrev Deep : Stack → Option Tree → Type 0
Deep s None = Unit {0}
Deep s (Some g) = need s ≤ depth g

closes_deep : (S : Stack) (c : GrammarPlace) (q : GrammarRest) (d : Held) → Good (frame c q tt d ∷ S) → Fitted (frame c q tt d ∷ S) → Deep (frame c q tt d ∷ S) (close_all S c q tt d)
closes_deep [] c q d g f = go (made q) refl
  where
    go : (o : Option GrammarRow) → made q ≡ o → Deep (frame c q tt d ∷ []) (option_map (λ r. node tt r d) o)
    go None m = tt
    go (Some r) m =
        let file : GrammarRow.File ≡ r = (let e : Some GrammarRow.File ≡ Some r = ap (λ z. made z) (sym g.1) ∙ m in cc) in
        subst (λ z. total c q (parts_depth d) ≤ counts z + parts_depth d) file
        (subst (λ z. total z q (parts_depth d) ≤ 0 + parts_depth d) (sym g.0) (subst (λ z. total Rattle.src_tree.specs.Reading.file_place z (parts_depth d) ≤ 0 + parts_depth d) (sym g.1) (omega arith)))
closes_deep (frame c0 q0 a0 d0 ∷ S) c q d g f = ended (made q) refl (λ r. closes_deep S c0 (behind q0 r) (with_sub d0 (node tt r d)))
  where
    higher : (s from : Stack) (o : Option Tree) → need from ≤ need s → Deep s o → Deep from o
    higher s from None e h = tt
    higher s from (Some x) e h = omega arith

    handing : (r : GrammarRow) → made q ≡ Some r
        → (Good (frame c0 (behind q0 r) tt (with_sub d0 (node tt r d)) ∷ S) → Fitted (frame c0 (behind q0 r) tt (with_sub d0 (node tt r d)) ∷ S) → Deep (frame c0 (behind q0 r) tt (with_sub d0 (node tt r d)) ∷ S) (close_all S c0 (behind q0 r) tt (with_sub d0 (node tt r d))))
        → (a : Bool) → allowed c r ≡ a → Deep (frame c q tt d ∷ frame c0 q0 a0 d0 ∷ S) (only_if a (close_all S c0 (behind q0 r) tt (with_sub d0 (node tt r d))))
    handing r m ih false e = tt
    handing r m ih true e =
        higher (frame c0 (behind q0 r) tt (with_sub d0 (node tt r d)) ∷ S) (frame c q tt d ∷ frame c0 q0 a0 d0 ∷ S) (close_all S c0 (behind q0 r) tt (with_sub d0 (node tt r d)))
        (up_hand c0 q0 d0 S c q d r m e g f) (ih (handed_on c q d c0 q0 d0 S r m e g) (fitted_on c0 q0 d0 (with_sub d0 (node tt r d)) S g.1.0 r g.1.1 f.1))

    ended : (o : Option GrammarRow) → made q ≡ o
        → ((r : GrammarRow) → Good (frame c0 (behind q0 r) tt (with_sub d0 (node tt r d)) ∷ S) → Fitted (frame c0 (behind q0 r) tt (with_sub d0 (node tt r d)) ∷ S) → Deep (frame c0 (behind q0 r) tt (with_sub d0 (node tt r d)) ∷ S) (close_all S c0 (behind q0 r) tt (with_sub d0 (node tt r d))))
        → Deep (frame c q tt d ∷ frame c0 q0 a0 d0 ∷ S) (and_then o (λ r. only_if (allowed c r) (close_all S c0 (behind q0 r) tt (with_sub d0 (node tt r d)))))
    ended None m ih = tt
    ended (Some r) m ih = handing r m (ih r) (allowed c r) refl

whole_deep : (s : Stack) → Good s → Fitted s → Deep s (whole s)
whole_deep [] g f = absurd g
whole_deep (frame c q at d ∷ S) g f = closes_deep S c q d g f

-- and no deeper
abbrev pub NoDeeper : Stack → Option Tree → Type 0
NoDeeper s None = Unit {0}
NoDeeper s (Some g) = depth g ≤ need s

closes_within : (S : Stack) (c : GrammarPlace) (q : GrammarRest) (d : Held) → Good (frame c q tt d ∷ S) → Fitted (frame c q tt d ∷ S) → NoDeeper (frame c q tt d ∷ S) (close_all S c q tt d)
closes_within [] c q d g f = go (made q) refl
  where
    go : (o : Option GrammarRow) → made q ≡ o → NoDeeper (frame c q tt d ∷ []) (option_map (λ r. node tt r d) o)
    go None m = tt
    go (Some r) m =
        let file : GrammarRow.File ≡ r = (let e : Some GrammarRow.File ≡ Some r = ap (λ z. made z) (sym g.1) ∙ m in cc) in
        subst (λ z. counts z + parts_depth d ≤ total c q (parts_depth d)) file (let u = total_up c q (parts_depth d) in omega arith)
closes_within (frame c0 q0 a0 d0 ∷ S) c q d g f = ended (made q) refl (λ r. closes_within S c0 (behind q0 r) (with_sub d0 (node tt r d)))
  where
    lower : (s from : Stack) (o : Option Tree) → need s ≤ need from → NoDeeper s o → NoDeeper from o
    lower s from None e h = tt
    lower s from (Some x) e h = omega arith

    handing : (r : GrammarRow) → made q ≡ Some r
        → (Good (frame c0 (behind q0 r) tt (with_sub d0 (node tt r d)) ∷ S) → Fitted (frame c0 (behind q0 r) tt (with_sub d0 (node tt r d)) ∷ S) → NoDeeper (frame c0 (behind q0 r) tt (with_sub d0 (node tt r d)) ∷ S) (close_all S c0 (behind q0 r) tt (with_sub d0 (node tt r d))))
        → (a : Bool) → allowed c r ≡ a → NoDeeper (frame c q tt d ∷ frame c0 q0 a0 d0 ∷ S) (only_if a (close_all S c0 (behind q0 r) tt (with_sub d0 (node tt r d))))
    handing r m ih false e = tt
    handing r m ih true e =
        lower (frame c0 (behind q0 r) tt (with_sub d0 (node tt r d)) ∷ S) (frame c q tt d ∷ frame c0 q0 a0 d0 ∷ S) (close_all S c0 (behind q0 r) tt (with_sub d0 (node tt r d)))
        (handed_depth c0 q0 d0 S g.1.0 r (node tt r d) (total c q (parts_depth d)) g.1.1 g.4 f.1 (fits_made c q r (parts_depth d) (at_once (fits c) q f.0) m))
        (ih (handed_on c q d c0 q0 d0 S r m e g) (fitted_on c0 q0 d0 (with_sub d0 (node tt r d)) S g.1.0 r g.1.1 f.1))

    ended : (o : Option GrammarRow) → made q ≡ o
        → ((r : GrammarRow) → Good (frame c0 (behind q0 r) tt (with_sub d0 (node tt r d)) ∷ S) → Fitted (frame c0 (behind q0 r) tt (with_sub d0 (node tt r d)) ∷ S) → NoDeeper (frame c0 (behind q0 r) tt (with_sub d0 (node tt r d)) ∷ S) (close_all S c0 (behind q0 r) tt (with_sub d0 (node tt r d))))
        → NoDeeper (frame c q tt d ∷ frame c0 q0 a0 d0 ∷ S) (and_then o (λ r. only_if (allowed c r) (close_all S c0 (behind q0 r) tt (with_sub d0 (node tt r d)))))
    ended None m ih = tt
    ended (Some r) m ih = handing r m (ih r) (allowed c r) refl

pub whole_within : (s : Stack) → Good s → Fitted s → NoDeeper s (whole s)
whole_within [] g f = absurd g
whole_within (frame c q at d ∷ S) g f = closes_within S c q d g f

pub reached : (ts : List Token) (s : Stack) → started ts ≡ Some s → Good s × Fitted s
reached ts s a = let l : Later (start tt) (Some s) = subst (Later (start tt)) a (needs_run ts (start tt) start_good tt) in (l.0, l.1)

-- a tree that goes on is as deep as the state needs
pub at_least : (ts rest : List Token) (s : Stack) (g : Held) → started ts ≡ Some s → IsItems (ts ++ rest) g → need s ≤ parts_depth g
at_least ts rest s g a h = go (run rest (Some s)) refl
  where
    fit : Good s × Fitted s
    fit = reached ts s a

    whole_is : and_then (run rest (Some s)) (λ z. whole z) ≡ Some (node tt GrammarRow.File g)
    whole_is = ap (λ o. and_then (run rest o) (λ z. whole z)) (sym a) ∙ ap (λ o. and_then o (λ z. whole z)) (sym (run_append ts rest (Some (start tt)))) ∙ ap (λ z. and_then (started z) (λ s. whole s)) (sym h.1) ∙ complete g h.0

    go : (o : Option Stack) → run rest (Some s) ≡ o → need s ≤ parts_depth g
    go None e = let n : None ≡ Some (node tt GrammarRow.File g) = ap (λ o. and_then o (λ z. whole z)) (sym e) ∙ whole_is in absurd (cc)
    go (Some s2) e =
        let l : Later s (Some s2) = subst (Later s) e (needs_run rest s fit.0 fit.1) in
        let w : whole s2 ≡ Some (node tt GrammarRow.File g) = ap (λ o. and_then o (λ z. whole z)) (sym e) ∙ whole_is in
        let d : Deep s2 (Some (node tt GrammarRow.File g)) = subst (Deep s2) w (whole_deep s2 l.0 l.1) in
        let k = l.2 in omega arith

-- and there is one that is no deeper
pub no_deeper : (ts : List Token) (s : Stack) → started ts ≡ Some s → (g : Held) × (rest : List Token) × IsItems (ts ++ rest) g × (parts_depth g ≤ need s)
no_deeper ts s a =
    let fit = reached ts s a in
    let (later, g, r, d) = finish_within s fit.0 fit.1 in
    let all : and_then (started (ts ++ later)) (λ s. whole s) ≡ Some g = ap (λ o. and_then o (λ s. whole s)) (run_append ts later (Some (start tt)) ∙ ap (run later) a) ∙ r in
    let so = sound (ts ++ later) g all in
    (parts_of g, later, (so.1, so.2), inner g d)
  where
    inner : (g : Tree) → depth g ≤ need s → parts_depth (parts_of g) ≤ need s
    inner (node at r ps) h = omega arith
