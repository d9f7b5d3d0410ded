-- Each node of a levelled tree is what it is to be, by its row and where it stands.
use Rattle.std.proofs.Common.{Bool, false, Option, Some, None, option_map}
use Rattle.mir_base.specs.declared.place_in_text.Pos.{Pos}
use Rattle.src_token.specs.declared.token.Token.{Token}
use Rattle.src_tree.specs.declared.place.GrammarPlace.{GrammarPlace}
use Rattle.src_tree.specs.declared.place.Start.{Start}
use Rattle.src_tree.specs.declared.row.GrammarRow.{GrammarRow}
use Rattle.src_tree.specs.declared.row.Sort.{Sort}
use Rattle.src_tree.specs.Grammar.{seen, items, entry, joined, NodeBeginning, Joined}
use Rattle.src_tree.specs.Layout.{node, end, tok, sub, Levelled, Begun, Follows}
use Rattle.typing_soundness.proofs.Due.{Fits, Subs, due_ok}
use Rattle.typing_soundness.proofs.Expressions.{expression_due, field_init_due, JoinedDue, seen_in, infix_due, infix_pattern_due}
use Rattle.typing_soundness.proofs.Functions.{method_due}
use Rattle.typing_soundness.proofs.Good.{Tree, Held, RowIs, Each, IsItem}
use Rattle.typing_soundness.proofs.TreeItems.{head_due, variant_due, item_due}
use Rattle.typing_soundness.proofs.Placed.{placed}
use Rattle.typing_soundness.proofs.Tokens.{IsPlain}
use Rattle.typing_soundness.proofs.Types.{EntryDue, type_due, pattern_due, field_pattern_due, name_due, label_due, field_due}

entries_due : (at : Pos) (sort : Sort) (start : Start) (self : Bool) (t : Token) → IsPlain t → EntryDue at self t (entry
    (seen_in sort start self) t)
entries_due at Sort.File start self t p = tt
entries_due at Sort.Item start self t p = item_due at self t p
entries_due at Sort.Method start self t p = method_due at self t p
entries_due at Sort.Head start self t p = head_due at self t p
entries_due at Sort.Field start self t p = field_due at self t p
entries_due at Sort.Variant start self t p = variant_due at self t p
entries_due at Sort.Name start self t p = name_due at self t p
entries_due at Sort.Type_ start self t p = type_due at self t p
entries_due at Sort.Pattern start self t p = pattern_due at self t p
entries_due at Sort.FieldPattern start self t p = field_pattern_due at self t p
entries_due at Sort.Expr start self t p = expression_due at self t p
entries_due at Sort.FieldInit start self t p = field_init_due at self t p
entries_due at Sort.Label start self t p = label_due at self t p

joins_due : (at : Pos) (sort : Sort) (start : Start) (self : Bool) (t : Token) → IsPlain t → JoinedDue at self t (joined
    (seen_in sort start self) t)
joins_due at Sort.Expr start self t p = infix_due at start self t p
joins_due at Sort.Pattern start self t p = infix_pattern_due at start self t p
joins_due at _ start self t p = tt

no_node : (g : Tree) → Levelled None g → ⊥
no_node (node at r parts) h = h

no_follow : (head : Bool) (r : GrammarRow) (parts : Held) → Follows head None r parts → ⊥
no_follow head r end h = h
no_follow head r (tok t rest) h = h
no_follow head r (sub g rest) h = h

by_entry : (at : Pos) (self : Bool) (t : Token) (o : Option NodeBeginning) → EntryDue at self t o → (r : GrammarRow) (rest : Held) →
    Follows self (option_map (λ e. e.rest) o) r rest → Subs rest → RowIs self r (node at r (tok t rest))
by_entry at self t None d r rest h s = absurd (no_follow self r rest h)
by_entry at self t (Some e) d r rest h s = due_ok self e.rest (λ r rest. RowIs self r (node at r (tok t rest))) d r rest h s

by_joined : (at : Pos) (self : Bool) (t : Token) (o : Option Joined) → JoinedDue at self t o → (g : Tree) → Fits g → (r :
    GrammarRow) (rest : Held) → Levelled (option_map (λ j. j.place) o) g → Follows self (option_map (λ j. j.rest) o) r rest →
    Subs rest → RowIs self r (node at r (sub g (tok t rest)))
by_joined at self t None d g f r rest l h s = absurd (no_node g l)
by_joined at self t (Some j) d g f r rest l h s =
    due_ok self j.rest (λ r rest. RowIs self r (node at r (sub g (tok t rest)))) (d g (f j.place l).0) r rest h s

row_is : (at : Pos) (c : GrammarPlace) (r : GrammarRow) (parts : Held) → Begun (seen c) r parts → Subs parts → RowIs c.head r (node at
    r parts)
row_is at c r end h s = absurd h
row_is at c r (tok t rest) h s =
    by_entry at c.head t (entry (seen c) t) (entries_due at c.sort c.start c.head t s.0) r rest h s.1
row_is at c r (sub g end) h s = absurd h
row_is at c r (sub g (sub k rest)) h s = absurd h
row_is at c r (sub g (tok t rest)) h s =
    by_joined at c.head t (joined (seen c) t) (joins_due at c.sort c.start c.head t s.1.0) g s.0 r rest h.0 h.1 s.1.1

fits_by : (at : Pos) (r : GrammarRow) (parts : Held) → Subs parts → Fits (node at r parts)
fits_by at r parts s = λ c h. let k = row_is at c r parts h.1 s in (placed c r (node at r parts) h.0 k, k)

-- the tokens of a tree are without the mark of closures' names
abbrev mutual
  pub AllPlain : Tree → Type 0
  AllPlain (node at r parts) = PartsPlain parts

  pub PartsPlain : Held → Type 0
  PartsPlain end = Unit {0}
  PartsPlain (tok t rest) = IsPlain t × PartsPlain rest
  PartsPlain (sub g rest) = AllPlain g × PartsPlain rest

mutual
  fits : (g : Tree) → AllPlain g → Fits g
  fits (node at r parts) p = fits_by at r parts (subs parts p)

  subs : (parts : Held) → PartsPlain parts → Subs parts
  subs end p = tt
  subs (tok t rest) p = (p.0, subs rest p.1)
  subs (sub g rest) p = (fits g p.0, subs rest p.1)

-- the items of a text
pub items_are : (parts : Held) → PartsPlain parts → Follows false (Some items) GrammarRow.File parts → Each IsItem parts
items_are parts p h =
    due_ok false items (λ r parts. Each IsItem parts) (λ gs e. e) GrammarRow.File parts h (subs parts p)
