-- What stands behind the tokens of a tree.
use Rattle.std.proofs.Common.{◌≡◌, List, [], ◌∷◌, ◌++◌, refl, sym, ap, ◌∙◌, append_assoc, max, arith}
use Rattle.src_token.specs.declared.token.Token.{Token}
use Rattle.src_tree.specs.Layout.{SyntaxNode, node, Parts, end, tok, sub, spell, spell_parts, parts_depth}
use Rattle.src_tree.specs.View.{Single, a_token, a_node, parts_from}

module _ {L : Type 0} where
  mutual
    pub spell_behind : (g : SyntaxNode L) (k : List Token) → spell g k ≡ spell g [] ++ k
    spell_behind (node at row parts) k = parts_behind parts k

    pub parts_behind : (ps : Parts L) (k : List Token) → spell_parts ps k ≡ spell_parts ps [] ++ k
    parts_behind end k = refl
    parts_behind (tok t rest) k = ap (λ z. t ∷ z) (parts_behind rest k)
    parts_behind (sub g rest) k =
        spell_behind g (spell_parts rest k) ∙ ap (λ z. spell g [] ++ z) (parts_behind rest k) ∙ sym (append_assoc (spell g []) (spell_parts rest []) k)
        ∙ ap (λ z. z ++ k) (sym (spell_behind g (spell_parts rest [])))

-- the parts of a list one by one
pub piece_first : (x : Single) (xs : List Single) → spell_parts (parts_from (x ∷ xs)) [] ≡ spell_parts (parts_from (x ∷ [])) [] ++ spell_parts (parts_from xs) []
piece_first (a_token t) xs = refl
piece_first (a_node g) xs = spell_behind g (spell_parts (parts_from xs) [])

pub depth_first : (x : Single) (xs : List Single) → parts_depth (parts_from (x ∷ xs)) ≡ max (parts_depth (parts_from (x ∷ []))) (parts_depth (parts_from xs))
depth_first (a_token t) xs = omega arith
depth_first (a_node g) xs = omega arith
