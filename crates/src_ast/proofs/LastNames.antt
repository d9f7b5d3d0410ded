-- The last of some names, and the others.
use Rattle.std.proofs.Common.{◌≡◌, true, List, [], ◌∷◌, refl, ap, sym, ◌∙◌}
use Rattle.std.proofs.lemmas.Bool.{and_parts}
use Rattle.src_ast.specs.Seen.{are_idents}
use Rattle.src_ast.specs.Syntax.{Named, Syn, Shape, Syns, no_syn, a_syn, just}
use Rattle.src_ast.specs.View.{is_ident, named, idents, last_of, but_last, with_last_name}

peel : (f : List Named → Named → Shape) (n : Named) (ns : List Named) (m : Named) (ms : List Named) → ns ≡ m ∷ ms
    → with_last_name f (n ∷ ns) ≡ with_last_name (λ earlier. f (n ∷ earlier)) ns
peel f n ns m ms e = rw e refl

pub last_named : (f : List Named → Named → Shape) (ss : Syns) (s : Syn) → are_idents ss ≡ true → just s ≡ last_of ss
    → with_last_name f (idents ss) ≡ f (idents (but_last ss)) (named s)
last_named f no_syn s all is = cc
last_named f (a_syn a no_syn) s all is =
    let both = and_parts (is_ident a) _ all in
    let same : s ≡ a = cc in rw (both.0) (ap (λ z. f [] (named z)) (sym same))
last_named f (a_syn a (a_syn b rest)) s all is =
    let both = and_parts (is_ident a) _ all in
    let more = and_parts (is_ident b) _ both.1 in
    let inner = last_named (λ earlier. f (named a ∷ earlier)) (a_syn b rest) s both.1 is in
    let first : idents (a_syn b rest) ≡ named b ∷ idents rest = rw (more.0) refl in
    rw (both.0) (peel f (named a) (idents (a_syn b rest)) (named b) (idents rest) first ∙ inner)
