-- What a token does to the innermost node, case by case; and the end.
use Rattle.std.proofs.Common.{◌≡◌, true, false, Bool, length, suc, ◌<◌, arith, Option, Some, None, option_map, List, [], ◌∷◌, ◌++◌, map, reverse, refl, ap, ◌∙◌}
use Rattle.mir_base.specs.declared.place_in_text.Pos.{Pos}
use Rattle.src_token.specs.declared.token.Token.{Token}
use Rattle.src_tree.specs.declared.row.GrammarRow.{GrammarRow}
use Rattle.src_tree.specs.declared.place.GrammarPlace.{GrammarPlace}
use Rattle.src_tree.specs.Grammar.{allowed, GrammarRest, move, made}
use Rattle.src_tree.specs.Reading.{or_else, and_then, only_if, opens, joins}
use Rattle.std.proofs.lemmas.List.{map_push, reverse-append, length-map, length-reverse}
use Rattle.src_parse.specs.declared.frame.ParserFrame.{ParserFrame}
use Rattle.src_parse.specs.View.{frame_of, stack_of}
use Rattle.src_parse.specs.Counting.{Counted, taken, inside, began, with_node, is_joined, handed, act, step, close}

abbrev going : Counted → List Counted → Token → Pos → Option GrammarRest → Option (GrammarPlace × GrammarRest) → Option (List Counted)
going f S t at m o = or_else (option_map (λ q. taken f q t ∷ S) m) (option_map (λ e. inside f e.0 e.1 at t ∷ f ∷ S) o)

abbrev ending : Counted → List Counted → Token → Pos → Option GrammarRow → Option (List Counted)
ending f [] t at m = and_then m (λ r. is_joined f [] t r)
ending f (g ∷ S) t at m = and_then m (λ r. or_else (is_joined f (g ∷ S) t r) (only_if (allowed f.place r) (act S (with_node g f r) t at)))

acts : (S : List Counted) (f : Counted) (t : Token) (at : Pos) (m : Option GrammarRest) (o : Option (GrammarPlace × GrammarRest)) (r : Option GrammarRow) → move f.rest t ≡ m → opens f.place.head f.rest t ≡ o → made f.rest ≡ r
    → act S f t at ≡ or_else (going f S t at m o) (ending f S t at r)
acts [] f t at m o r em eo er = ap (λ z. or_else (going f [] t at z (opens f.place.head f.rest t)) (ending f [] t at (made f.rest))) em ∙ ap (λ z. or_else (going f [] t at m z) (ending f [] t at (made f.rest))) eo ∙ ap (λ z. or_else (going f [] t at m o) (ending f [] t at z)) er
acts (g ∷ S) f t at m o r em eo er = ap (λ z. or_else (going f (g ∷ S) t at z (opens f.place.head f.rest t)) (ending f (g ∷ S) t at (made f.rest))) em ∙ ap (λ z. or_else (going f (g ∷ S) t at m z) (ending f (g ∷ S) t at (made f.rest))) eo ∙ ap (λ z. or_else (going f (g ∷ S) t at m o) (ending f (g ∷ S) t at z)) er

pub act_moves : (S : List Counted) (f : Counted) (t : Token) (at : Pos) (q : GrammarRest) → move f.rest t ≡ Some q → act S f t at ≡ Some (taken f q t ∷ S)
act_moves S f t at q e = acts S f t at (Some q) (opens f.place.head f.rest t) (made f.rest) e refl refl

pub act_opens : (S : List Counted) (f : Counted) (t : Token) (at : Pos) (c : GrammarPlace) (q : GrammarRest) → move f.rest t ≡ None → opens f.place.head f.rest t ≡ Some (c, q) → act S f t at ≡ Some (inside f c q at t ∷ f ∷ S)
act_opens S f t at c q e o = acts S f t at None (Some (c, q)) (made f.rest) e o refl

pub act_ends : (S : List Counted) (f : Counted) (t : Token) (at : Pos) → move f.rest t ≡ None → opens f.place.head f.rest t ≡ None → made f.rest ≡ None → act S f t at ≡ None
act_ends [] f t at e o m = acts [] f t at None None None e o m
act_ends (g ∷ S) f t at e o m = acts (g ∷ S) f t at None None None e o m

pub act_joins : (S : List Counted) (f : Counted) (t : Token) (at : Pos) (r : GrammarRow) (q : GrammarRest) → move f.rest t ≡ None → opens f.place.head f.rest t ≡ None → made f.rest ≡ Some r → joins f.place r t ≡ Some q → act S f t at ≡ Some (began f r q t ∷ S)
act_joins [] f t at r q e o m j = acts [] f t at None None (Some r) e o m ∙ ap (λ z. option_map (λ q. began f r q t ∷ []) z) j
act_joins (g ∷ S) f t at r q e o m j =
    acts (g ∷ S) f t at None None (Some r) e o m ∙ ap (λ z. or_else (option_map (λ q. began f r q t ∷ g ∷ S) z) (only_if (allowed f.place r) (act S (with_node g f r) t at))) j

-- it is handed on, or it is not

after_handed : Option (List Counted) → Token → Pos → Option (List Counted)
after_handed o t at = and_then o (λ T. step T t at)

handing : (S : List Counted) (f : Counted) (t : Token) (at : Pos) (r : GrammarRow) → move f.rest t ≡ None → opens f.place.head f.rest t ≡ None → made f.rest ≡ Some r → joins f.place r t ≡ None → act S f t at ≡ after_handed (handed S f r) t at
unfolding after_handed
handing [] f t at r e o m j = acts [] f t at None None (Some r) e o m ∙ ap (λ z. option_map (λ q. began f r q t ∷ []) z) j
handing (g ∷ S) f t at r e o m j =
    acts (g ∷ S) f t at None None (Some r) e o m ∙ ap (λ z. or_else (option_map (λ q. began f r q t ∷ g ∷ S) z) (only_if (allowed f.place r) (act S (with_node g f r) t at))) j
    ∙ go (allowed f.place r)
  where
    go : (b : Bool) → only_if b (act S (with_node g f r) t at) ≡ after_handed (only_if b (Some (with_node g f r ∷ S))) t at
    go true = refl
    go false = refl

pub act_hands : (S T : List Counted) (f g : Counted) (t : Token) (at : Pos) (r : GrammarRow) → move f.rest t ≡ None → opens f.place.head f.rest t ≡ None → made f.rest ≡ Some r → joins f.place r t ≡ None → handed S f r ≡ Some (g ∷ T) → act S f t at ≡ act T g t at
unfolding after_handed
act_hands S T f g t at r e o m j h = handing S f t at r e o m j ∙ ap (λ z. after_handed z t at) h

pub act_refuses : (S : List Counted) (f : Counted) (t : Token) (at : Pos) (r : GrammarRow) → move f.rest t ≡ None → opens f.place.head f.rest t ≡ None → made f.rest ≡ Some r → joins f.place r t ≡ None → handed S f r ≡ None → act S f t at ≡ None
unfolding after_handed
act_refuses S f t at r e o m j h = handing S f t at r e o m j ∙ ap (λ z. after_handed z t at) h

pub handed_less : (S T : List Counted) (f g : Counted) (r : GrammarRow) → handed S f r ≡ Some (g ∷ T) → length T < length S
handed_less [] T f g r h = absurd (cc)
handed_less (x ∷ S) T f g r h = go (allowed f.place r) h
  where
    go : (b : Bool) → only_if b (Some (with_node x f r ∷ S)) ≡ Some (g ∷ T) → length T < suc (length S)
    go true e = let s : S ≡ T = cc in let l = ap length s in omega arith
    go false e = absurd (cc)

pub handed_not : (S : List Counted) (f : Counted) (r : GrammarRow) → allowed f.place r ≡ false → handed S f r ≡ None
handed_not [] f r a = refl
handed_not (g ∷ S) f r a = ap (λ z. only_if z (Some (with_node g f r ∷ S))) a

pub handed_some : (g : Counted) (S : List Counted) (f : Counted) (r : GrammarRow) → allowed f.place r ≡ true → handed (g ∷ S) f r ≡ Some (with_node g f r ∷ S)
handed_some g S f r a = ap (λ z. only_if z (Some (with_node g f r ∷ S))) a

pub close_hands : (S T : List Counted) (f g : Counted) (r : GrammarRow) → made f.rest ≡ Some r → handed S f r ≡ Some (g ∷ T) → close S f ≡ close T g
close_hands [] T f g r m h = absurd (cc)
close_hands (x ∷ S) T f g r m h = ap (λ z. and_then z (λ r. only_if (allowed f.place r) (close S (with_node x f r)))) m ∙ go (allowed f.place r) h
  where
    go : (b : Bool) → only_if b (Some (with_node x f r ∷ S)) ≡ Some (g ∷ T) → only_if b (close S (with_node x f r)) ≡ close T g
    go true e = let s : S ≡ T = cc in let n : with_node x f r ≡ g = cc in ap (λ z. close z (with_node x f r)) s ∙ ap (close T) n
    go false e = absurd (cc)

none_below : (xs : List ParserFrame) → stack_of xs ≡ [] → xs ≡ []
none_below [] e = refl
none_below (x ∷ xs) e =
    let l = ap length e in
    absurd (omega (arith, length-reverse (map frame_of (x ∷ xs)), length-map (x ∷ xs) frame_of))

pub close_refuses : (xs : List ParserFrame) (f : Counted) (r : GrammarRow) → (xs ≡ [] → false ≡ true) → made f.rest ≡ Some r → handed (stack_of xs) f r ≡ None → close (stack_of xs) f ≡ None
close_refuses xs f r n m h = go (stack_of xs) refl h
  where
    go : (S : List Counted) → stack_of xs ≡ S → handed S f r ≡ None → close S f ≡ None
    go [] e k = let x = n (none_below xs e) in absurd (cc)
    go (x ∷ S) e k = ap (λ z. and_then z (λ r. only_if (allowed f.place r) (close S (with_node x f r)))) m ∙ within (allowed f.place r) k
      where
        within : (b : Bool) → only_if b (Some (with_node x f r ∷ S)) ≡ None → only_if b (close S (with_node x f r)) ≡ None
        within true w = absurd (cc)
        within false w = refl

pub close_ends : (xs : List ParserFrame) (f : Counted) (r : GrammarRow) → xs ≡ [] → made f.rest ≡ Some r → close (stack_of xs) f ≡ Some f
close_ends xs f r n m = ap (λ z. close (stack_of z) f) n ∙ ap (λ z. option_map (λ r. f) z) m

pub close_not_made : (S : List Counted) (f : Counted) → made f.rest ≡ None → close S f ≡ None
close_not_made [] f m = ap (λ z. option_map (λ r. f) z) m
close_not_made (g ∷ S) f m = ap (λ z. and_then z (λ r. only_if (allowed f.place r) (close S (with_node g f r)))) m

-- a frame is pushed
pub stack_push : (xs : List ParserFrame) (f : ParserFrame) → stack_of (xs ++ f ∷ []) ≡ frame_of f ∷ stack_of xs
stack_push xs f = ap reverse (map_push frame_of xs f) ∙ reverse-append (map frame_of xs) (frame_of f ∷ [])
