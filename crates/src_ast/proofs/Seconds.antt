-- The second of some nodes; an operand behind its sign.
use Rattle.std.proofs.Common.{◌≡◌, List, ◌∷◌, Some, ap, sym, ◌∙◌}
use Rattle.src_token.specs.declared.token.Token.{Token}
use Rattle.src_ast.specs.Seen.{two_first}
use Rattle.src_ast.specs.Syntax.{Syn, Syns, no_syn, a_syn, just}
use Rattle.src_ast.specs.View.{first_of, prefix, with_first}

pub second_is : (ss r : Syns) (a b : Syn) → a_syn a r ≡ ss → just b ≡ first_of r → Some (a, b) ≡ two_first ss
second_is ss no_syn a b is then = cc
second_is ss (a_syn c rest) a b is then = let same : b ≡ c = cc in ap (λ z. Some (a, z)) same ∙ ap two_first is

pub prefixed : (ss : Syns) (ts us : List Token) (t : Token) (a : Syn) → just a ≡ first_of ss → ts ≡ t ∷ us
    → prefix (t ∷ us) a ≡ with_first (λ e rest. prefix ts e) ss
prefixed no_syn ts us t a is e = cc
prefixed (a_syn b rest) ts us t a is e = let same : a ≡ b = cc in ap (λ z. prefix (t ∷ us) z) same ∙ ap (λ z. prefix z b) (sym e)
