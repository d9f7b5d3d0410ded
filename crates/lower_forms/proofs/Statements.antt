-- The code of blocks, of `let`, and of matches.
use Rattle.std.proofs.Common.{◌≡◌, ◌∙◌, ◌∷◌, ◌||◌, not, ℕ, Bool, true, false, List, ap, sym}
use Rattle.mir_ty.specs.ItemTable.{ItemTable}
use Rattle.src_meaning.specs.Forms.{LoopsAndGuards, Destination, entry_of}
use Rattle.src_meaning.specs.Shape.{NodeHead, BoundName, shape}
use Rattle.store_model.specs.Places.Place.{Place, whole_local}
use Rattle.typed_tree.specs.Tree as tree
use Rattle.lower_code.specs.Code as plain
use Rattle.lower_code.specs.Code.{Code, Innermost, AroundInnermost}
use Rattle.lower_code.specs.Forms.{NodeWords, no_code, a_code, code, statements, bind, declared, let_value, letting, arms, matching, scrutinised, touched}
use Rattle.lower_code.specs.Ops.{CodeWord, InScope, Then, Matches, BeforeArms, onto, arms_onto, own_scope_onto, pending_onto}
use Rattle.lower_code.specs.Wanted.{UnderOwnKey, codes_for}
use Rattle.lower_code.proofs.Following.{in_own, pending}
use Rattle.lower_code.proofs.Nodes.{as_statements}

-- statements are made one after the other, and then a tail
pub of_block : (id : ℕ) (own : Bool) (around : LoopsAndGuards) (ms : List NodeWords) (tail : Code) (before made all after : List CodeWord) → after ≡ InScope id own ∷ Then ∷ all → all ≡ onto tail made → made ≡ onto (codes_for UnderOwnKey ms around) before → after ≡ onto (plain.InScope id own (plain.Then (statements around ms) tail)) before
of_block id own around ms tail before made all after scoped behind is =
    scoped ∙ ap (λ (rest : List CodeWord). InScope id own ∷ Then ∷ rest)
    (behind ∙ ap (onto tail) (is ∙ ap (λ (c : Code). onto c before) (as_statements ms around)))

module _ (items : ItemTable) (h : NodeHead) (around : LoopsAndGuards) (bounds : List BoundName) (before : List CodeWord) where
  pub of_declared : (pattern : tree.Node) (after : List CodeWord) → after ≡ onto (declared items bounds) before → bounds ≡ (shape items pattern).bindings (whole_local 0) → after ≡ onto (letting items h (code items pattern) no_code around) before
  of_declared (tree.node id at ty by form) after made are =
      made ∙ ap (λ (names : List BoundName). onto (declared items names) before) are

module _ (items : ItemTable) (h : NodeHead) (around : LoopsAndGuards) (before : List CodeWord) where
  -- what stands there once a pattern has taken the parts of a value that is reached
  abbrev pub parted : tree.Node → NodeHead → List BoundName → List CodeWord → List CodeWord
  parted value head bounds reached =
      InScope h.id true
      ∷ pending_onto (not ((shape items value).is_place || (shape items value).in_destination)) Innermost (entry_of head)
      (Then ∷ onto (bind AroundInnermost bounds) reached)

  pub of_parts : (pattern value : tree.Node) (head : NodeHead) (bounds : List BoundName) (place : Place) (reached after : List CodeWord) → after ≡ parted value head bounds reached → (code items value).head ≡ head → reached ≡ onto ((code items value).reaches around) before → bounds ≡ (shape items pattern).bindings place → place ≡ (shape items value).place around.aliases → (shape items pattern).is_binding ≡ false → after ≡ onto (letting items h (code items pattern) (a_code (code items value)) around) before
  of_parts (tree.node p p_at p_ty p_by p_form) (tree.node v v_at v_ty v_by v_form) head bounds place reached after made headed reaches are stands is_parts =
      let pattern : tree.Node = tree.node p p_at p_ty p_by p_form in
      let value : tree.Node = tree.node v v_at v_ty v_by v_form in
      let taken : List BoundName = (shape items pattern).bindings ((shape items value).place around.aliases) in
      let all : Code = plain.Then ((code items value).reaches around) (bind AroundInnermost taken) in
      let pends : Bool = not ((shape items value).is_place || (shape items value).in_destination) in
      made
      ∙ ap (λ (head : NodeHead). parted value head bounds reached) (sym headed)
      ∙ ap (λ (bs : List BoundName). parted value (code items value).head bs reached) (are ∙ ap (shape items pattern).bindings stands)
      ∙ ap (parted value (code items value).head taken) reaches
      ∙ sym (ap (λ (rest : List CodeWord). InScope h.id true ∷ rest) (pending pends Innermost (entry_of (code items value).head) all before))
      ∙ sym (ap (λ (b : Bool). onto (let_value items b h (code items pattern) (code items value) around) before) is_parts)

module _ (items : ItemTable) (h : NodeHead) (around : LoopsAndGuards) (own : Bool) (to : Destination) (ms : List NodeWords) (place : Place) (before : List CodeWord) where
  -- a scrutinee is reached and looked at, and then come its arms
  pub of_match : (scrutinee : tree.Node) (reached looked made all : List CodeWord) → all ≡ Then ∷ Matches h.id ∷ made → made ≡ arms_onto (arms ms place around to) (BeforeArms ∷ looked) → looked ≡ Then ∷ onto (touched (shape items scrutinee).is_place (record { node = (code items scrutinee).head.id; place = place })) reached → reached ≡ onto ((code items scrutinee).reaches around) before → place ≡ (shape items scrutinee).place around.aliases → own_scope_onto h.id own all ≡ onto (matching h (code items scrutinee) ms around own to) before
  of_match (tree.node id at ty by form) reached looked made all is armed looks reaches stands =
      let scrutinee : tree.Node = tree.node id at ty by form in
      let words : Place → List CodeWord → List CodeWord =
      λ p rest. Then ∷ Matches h.id ∷ arms_onto (arms ms p around to)
      (BeforeArms ∷ Then ∷ onto (touched (shape items scrutinee).is_place (record { node = id; place = p })) rest) in
      let inner : Code =
      plain.Then (scrutinised around (code items scrutinee))
      (plain.Matches h.id (arms ms ((shape items scrutinee).place around.aliases) around to)) in
      ap (own_scope_onto h.id own)
      (is
      ∙ ap (λ (rest : List CodeWord). Then ∷ Matches h.id ∷ rest) (armed ∙ ap (λ (rest : List CodeWord). arms_onto (arms ms place around to) (BeforeArms ∷ rest)) looks)
      ∙ ap (words place) reaches
      ∙ ap (λ (p : Place). words p (onto ((code items scrutinee).reaches around) before)) stands)
      ∙ sym (in_own h.id own inner before)
